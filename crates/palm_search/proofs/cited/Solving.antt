-- What the ends of a search say of the active constraints.
use Rattle.std.proofs.Common.{◌≡◌, ℕ, zero, suc, ◌<◌, true, List, [], ◌∷◌, length, map, Contains, ℤ, inl, inr, refl, sym, ap, ◌∙◌, subst, arith}
use Rattle.std.proofs.lemmas.List.{length-map}
use Rattle.palm_base.specs.declared.terms.Pair.{Pair}
use Rattle.palm_base.specs.declared.terms.Cid.{Cid}
use Rattle.palm_base.specs.declared.terms.Cid.TheVariants.{Decide, Not, User}
use Rattle.palm_base.proofs.cited.Members.{member_nil, member_here, member_there, member_cases, member_single, member_same, member_map, member_unmap, member_filter, filter_member}
use Rattle.palm_model.specs.Domains.{Assignment, Has}
use Rattle.palm_model.specs.Constraint.{scope}
use Rattle.palm_model.specs.Part.{parts, Holds}
use Rattle.palm_model.specs.Closure.{IsSolution}
use Rattle.palm_model.specs.Trial.{listed}
use Rattle.palm_model.specs.Log.{Active, IsActive, Named, cons_of, log_pairs}
use Rattle.palm_model.specs.State.{EngineState, IsValid, HasEmpty, IsJustifier, IsOfForm, present, is_user}
use Rattle.palm_model.specs.declared.constraint.Con.{Con}
use Rattle.palm_model.specs.declared.part.Part.{Part}
use Rattle.palm_model.proofs.cited.Assignments.{holds_agree}
use Rattle.palm_model.proofs.cited.Formed.{part_scope, part_variable}
use Rattle.palm_model.proofs.cited.Without.{length_without, without_inside}
use Rattle.palm_events.specs.Along.{IsStill}
use Rattle.palm_events.proofs.cited.Valid.{active_declared}
use Rattle.palm_events.proofs.cited.Runs.{quiet_closed}
use Rattle.palm_events.proofs.cited.Conflicts.{flat_unsolved, flat_justifiers}
use Rattle.palm_search.specs.Turns.{SearchState, decided_vars}
use Rattle.palm_search.specs.Search.{HasNoSolution, IsFound}
use Rattle.palm_search.specs.Kept.{IsSearching}

-- ---- no solution

pub decided_member : (cids : List Cid) (x : ℕ) → Contains cids (Decide x) → Contains (decided_vars cids) x
decided_member [] x m = absurd (member_nil (Decide x) m)
decided_member (Decide y ∷ cids) x m = elim (member_cases (Decide y) cids (Decide x) m) [
  | inl e ↦ member_same (y ∷ decided_vars cids) y x (same y x e) (member_here y (decided_vars cids))
  | inr k ↦ member_there y (decided_vars cids) x (decided_member cids x k)
]
  where
    same : (y x : ℕ) → Decide y ≡ Decide x → y ≡ x
    same y x e = cc
decided_member (Not p ∷ cids) x m = elim (member_cases (Not p) cids (Decide x) m) [
  | inl e ↦ absurd (apart p x e)
  | inr k ↦ decided_member cids x k
]
  where
    apart : (p : Pair) (x : ℕ) → Not p ≡ Decide x → ⊥
    apart p x e = cc
decided_member (User n ∷ cids) x m = elim (member_cases (User n) cids (Decide x) m) [
  | inl e ↦ absurd (apart n x e)
  | inr k ↦ decided_member cids x k
]
  where
    apart : (n x : ℕ) → User n ≡ Decide x → ⊥
    apart n x e = cc

-- a justifier that is no decision is a user
justifier_user : (cids : List Cid) → decided_vars cids ≡ [] → (c : Cid) → Contains cids c → IsJustifier c → is_user c ≡ true
justifier_user cids none (Decide x) m justifier = absurd (member_nil x (subst (λ l. Contains l x) none (decided_member cids x m)))
justifier_user cids none (Not p) m justifier = absurd justifier
justifier_user cids none (User n) m justifier = refl

pub users_unsolved : (s : SearchState) → IsSearching s → (users : List Cid) → HasNoSolution s.engine users → (b : Assignment) → IsSolution s.engine.initial (Named s.engine.active (Contains users)) b → ⊥
users_unsolved s searching users none b solution =
    let flat = none.flat in
    flat_unsolved s.engine searching.valid searching.justified flat.var flat.empty b (record {
      within = solution.within;
      satisfies = λ c named.
          let cid = named.owner.cid in
          let listed = flat.is.whole cid named.named in
          let user = justifier_user none.conflict none.undecided cid listed (flat_justifiers s.engine searching.valid flat.var cid named.named).0 in
          solution.satisfies c (record {
            owner = named.owner;
            posted = named.posted;
            is = named.is;
            named = subst (λ l. Contains l cid) (sym none.are) (member_filter is_user none.conflict cid listed user);
          });
    })

pub users_active : (s : SearchState) → IsSearching s → (users : List Cid) → HasNoSolution s.engine users → (c : Cid) → Contains users c → IsActive s.engine.active c × (is_user c ≡ true)
users_active s searching users none c m =
    let r = filter_member is_user none.conflict c (subst (λ l. Contains l c) none.are m) in
    ((flat_justifiers s.engine searching.valid none.flat.var c (none.flat.is.sound c r.0)).1, r.1)

-- ---- found

found_has : (values : List ℤ) (x : ℕ) (v : ℤ) → Has (map (λ w. w ∷ []) values) x v → v ≡ listed values x
found_has [] x v m = absurd (member_nil v m)
found_has (w ∷ values) zero v m = sym (member_single w v m)
found_has (w ∷ values) (suc x) v m = found_has values x v m

has_found : (values : List ℤ) (x : ℕ) → x < length values → Has (map (λ w. w ∷ []) values) x (listed values x)
has_found [] x lt = absurd (omega arith)
has_found (w ∷ values) zero lt = member_here w []
has_found (w ∷ values) (suc x) lt = has_found values x (omega arith)

pub found_filled : (values : List ℤ) → HasEmpty (map (λ w. w ∷ []) values) → ⊥
found_filled values empty =
    let d = map (λ w. w ∷ []) values in
    let lt = subst (λ n. empty.0 < n) (length-map values (λ w. w ∷ [])) empty.1.exists in
    member_nil (listed values empty.0) (subst (λ vs. Contains vs (listed values empty.0)) empty.1.empty (has_found values empty.0 lt))

form_some : (n : ℕ) (active : List Active) (cid : Cid) (con : Con) (justification : List Cid) → IsOfForm n active cid con justification → 0 < length (scope con)
form_some n active (Decide x) con justification form = subst (λ c. 0 < length (scope c)) (sym form.1) (omega arith)
form_some n active (Not p) con justification form = subst (λ c. 0 < length (scope c)) (sym form.0) (omega arith)
form_some n active (User k) con justification form = form.0.some

found_holds : (s : EngineState) (values : List ℤ) → IsValid s → s.pending ≡ [] → IsFound (present s) values → (a : Active) → Contains s.active a → (p : Part) → Contains (parts a.con) p → Holds p (listed values)
found_holds s values valid quiet found a m p k =
    let some = part_variable a.con p (form_some (length s.initial) s.active a.cid a.con a.justification (valid.formed a m).form) k in
    let lt = active_declared s valid a m some.0 (part_scope a.con p some.0 k some.1) in
    let len : length values ≡ length s.initial = sym (length-map values (λ w. w ∷ [])) ∙ sym (ap length found) ∙ length_without s.initial (log_pairs s.log) in
    let here = subst (λ d. Has d some.0 (listed values some.0)) (sym found) (has_found values some.0 (subst (λ n. some.0 < n) (sym len) lt)) in
    let s' = quiet_closed s valid quiet a.con p (member_map (λ (b : Active). b.con) s.active a m) k some.0 (listed values some.0) some.1 here in
    holds_agree p s'.assignment (listed values) (λ y over. found_has values y (s'.assignment y) (subst (λ d. Has d y (s'.assignment y)) found (s'.within y over))) s'.holds

pub found_solves : (s : EngineState) (values : List ℤ) → IsValid s → IsStill s → IsFound (present s) values → IsSolution s.initial (Contains (cons_of s.active)) (listed values)
found_solves s values valid still found =
    let quiet : s.pending ≡ [] = elim still [ inl q ↦ q | inr empty ↦ absurd (found_filled values (subst HasEmpty found empty)) ] in
    let len : length values ≡ length s.initial = sym (length-map values (λ w. w ∷ [])) ∙ sym (ap length found) ∙ length_without s.initial (log_pairs s.log) in
    record {
      within = λ x lt. without_inside s.initial (log_pairs s.log) x (listed values x) (subst (λ d. Has d x (listed values x)) (sym found) (has_found values x (subst (λ n. x < n) (sym len) lt)));
      satisfies = λ c m p k.
          let r = member_unmap (λ (b : Active). b.con) s.active c m in
          found_holds s values valid quiet found r.0 r.1 p (subst (λ d. Contains (parts d) p) (sym r.2) k);
    }
