-- The nogood of a flat conflict has no solution, and stays one while its users stay active.
use Rattle.std.proofs.Common.{◌≡◌, ℕ, ◌<◌, true, List, [], ◌∷◌, ◌++◌, length, filter, flat_map, Contains, ◌⊎◌, inl, inr, refl, sym, ap, ◌∙◌, subst, nat_eq, eqb-true, eq-eqb}
use Rattle.std.proofs.lemmas.Bool.{cases_Bool}
use Rattle.std.proofs.lemmas.List.Elements.{All-contains}
use Rattle.palm_base.specs.declared.terms.Pair.{Pair}
use Rattle.palm_base.specs.declared.terms.Cid.{Cid}
use Rattle.palm_base.specs.declared.terms.Cid.TheVariants.{Decide, Not, User}
use Rattle.palm_base.proofs.cited.Members.{member_nil, member_here, member_there, member_same, member_unmap, member_filter, filter_member, member_flat_map, flat_map_member}
use Rattle.palm_model.specs.Domains.{Assignment, Has}
use Rattle.palm_model.specs.Part.{Satisfies}
use Rattle.palm_model.specs.Constraint.{Distinct}
use Rattle.palm_model.specs.Closure.{IsSolution}
use Rattle.palm_base.specs.Order.{Rises, cid_before}
use Rattle.palm_model.specs.Log.{Active, Named}
use Rattle.palm_model.specs.State.{EngineState, IsJustifier, is_user}
use Rattle.palm_model.specs.Event.{Posts, WithdrawsAll, vars_of}
use Rattle.palm_base.proofs.cited.CidOrder.{not_before_itself}
use Rattle.palm_events.proofs.cited.States.{member_with_posted, member_without_cids}
use Rattle.palm_events.proofs.cited.Conflicts.{flat_unsolved, flat_justifiers}
use Rattle.palm_search.specs.Turns.{SearchState, HasFlatConflict}
use Rattle.palm_search.specs.Kept.{IsSearching}
use Rattle.palm_search.proofs.cited.Keeping.{satisfies_decision}
use Rattle.palm_repair.specs.Posting.{Nogood, pairs_under, nogood_of}
use Rattle.palm_repair.specs.Kept.{IsNogood}

-- ---- a nogood stays one while its users stay active

-- the declared values and all users of s are those of t
pub record KeepsUsers (s t : EngineState) : Type 0 where
  pub initial : t.initial ≡ s.initial
  pub users : (a : Active) → Contains s.active a → is_user a.cid ≡ true → Contains t.active a

pub users_posted : (s : EngineState) (a : Active) (t : EngineState) → Posts s a t → KeepsUsers s t
users_posted s a t posts = record {
  initial = ap (λ (z : EngineState). z.initial) posts.after;
  users = λ b m user. subst (λ (z : EngineState). Contains z.active b) (sym posts.after) (member_with_posted a s.active b posts.inactive m);
}

pub users_withdrawn : (s : EngineState) (gone : List Cid) (t : EngineState) → ((c : Cid) → Contains gone c → is_user c ≡ true → ⊥) → WithdrawsAll s gone t → KeepsUsers s t
users_withdrawn s gone t none withdraws = record {
  initial = ap (λ (z : EngineState). z.initial) withdraws.after;
  users = λ b m user. subst (λ (z : EngineState). Contains z.active b) (sym withdraws.after) (member_without_cids gone s.active b m (λ k. none b.cid k user));
}

pub users_filtered : (s t : EngineState) → t.active ≡ s.active → t.initial ≡ s.initial → KeepsUsers s t
users_filtered s t active initial = record { initial = initial; users = λ b m user. subst (λ l. Contains l b) (sym active) m }

pub users_then : (s m t : EngineState) → KeepsUsers s m → KeepsUsers m t → KeepsUsers s t
users_then s m t one two = record { initial = two.initial ∙ one.initial; users = λ b k user. two.users b (one.users b k user) user }

pub nogood_kept : (s t : EngineState) (nogood : Nogood) → KeepsUsers s t → IsNogood s nogood → IsNogood t nogood
nogood_kept s t nogood keeps is = record {
  users = λ c m.
      let u = is.users c m in
      let o = u.1 in
      (u.0, record { owner = o.owner; posted = keeps.users o.owner o.posted (subst (λ d. is_user d ≡ true) (sym o.named) u.0); named = o.named });
  declared = λ p m. subst (λ d. Has d p.var p.value) (sym keeps.initial) (is.declared p m);
  distinct = is.distinct;
  refuted = λ b solution at. is.refuted b (record {
    within = subst (λ d. (x : ℕ) → x < length d → Has d x (b x)) keeps.initial solution.within;
    satisfies = λ c named. solution.satisfies c (record {
      owner = named.owner;
      posted = keeps.users named.owner named.posted (is.users named.owner.cid named.named).0;
      is = named.is;
      named = named.named;
    });
  }) at;
}

-- ---- the pairs of a flat conflict

pub under_member : (decisions : List Pair) (c : Cid) (p : Pair) → Contains (pairs_under decisions c) p → Contains decisions p × (c ≡ Decide p.var)
under_member decisions (Decide x) p m = let r = filter_member (λ (q : Pair). nat_eq q.var x) decisions p m in (r.0, ap Decide (sym (eqb-true p.var x r.1)))
under_member decisions (Not q) p m = absurd (member_nil p m)
under_member decisions (User n) p m = absurd (member_nil p m)

pub member_under : (decisions : List Pair) (p : Pair) → Contains decisions p → Contains (pairs_under decisions (Decide p.var)) p
member_under decisions p m = member_filter (λ (q : Pair). nat_eq q.var p.var) decisions p m (eq-eqb p.var p.var refl)

-- the pairs of a nogood are decisions that the flat conflict holds
pub nogood_pair : (decisions : List Pair) (conflict : List Cid) (p : Pair) → Contains (nogood_of decisions conflict).pairs p → Contains decisions p × Contains conflict (Decide p.var)
nogood_pair decisions conflict p m =
    let r = flat_map_member (pairs_under decisions) conflict p m in
    let u = under_member decisions r.0 p r.2 in
    (u.0, member_same conflict r.0 (Decide p.var) u.1 r.1)

pub pair_nogood : (decisions : List Pair) (conflict : List Cid) (p : Pair) → Contains decisions p → Contains conflict (Decide p.var) → Contains (nogood_of decisions conflict).pairs p
pair_nogood decisions conflict p m held = member_flat_map (pairs_under decisions) conflict (Decide p.var) p held (member_under decisions p m)

none_under : (decisions : List Pair) (x : ℕ) → (Contains (vars_of decisions) x → ⊥) → pairs_under decisions (Decide x) ≡ []
none_under [] x lacks = refl
none_under (q ∷ decisions) x lacks = elim (cases_Bool (nat_eq q.var x)) [
  | inl t ↦ absurd (lacks (member_same (vars_of (q ∷ decisions)) q.var x (eqb-true q.var x t) (member_here q.var (vars_of decisions))))
  | inr f ↦ rw f (none_under decisions x (λ m. lacks (member_there q.var (vars_of decisions) x m)))
]

-- a variable has no decision, or one
pub one_under : (decisions : List Pair) (x : ℕ) → Distinct (vars_of decisions) → (pairs_under decisions (Decide x) ≡ []) ⊎ ((p : Pair) × (pairs_under decisions (Decide x) ≡ p ∷ []))
one_under [] x distinct = inl refl
one_under (q ∷ decisions) x distinct = elim (cases_Bool (nat_eq q.var x)) [
  | inl t ↦
      let none = none_under decisions x (λ m. distinct.0 (member_same (vars_of decisions) x q.var (sym (eqb-true q.var x t)) m)) in
      rw t (inr (q, ap (λ l. q ∷ l) none))
  | inr f ↦ rw f (one_under decisions x distinct.1)
]

-- pairs of one decision before pairs of others
distinct_more : (front back : List Pair) → (front ≡ []) ⊎ ((p : Pair) × (front ≡ p ∷ [])) → ((p : Pair) → Contains front p → Contains (vars_of back) p.var → ⊥) → Distinct (vars_of back) → Distinct (vars_of (front ++ back))
distinct_more front back few apart distinct = elim few [
  | inl e ↦ subst (λ l. Distinct (vars_of (l ++ back))) (sym e) distinct
  | inr r ↦ subst (λ l. Distinct (vars_of (l ++ back))) (sym r.1) (apart r.0 (subst (λ l. Contains l r.0) (sym r.1) (member_here r.0 [])), distinct)
]

few_under : (decisions : List Pair) (c : Cid) → Distinct (vars_of decisions) → (pairs_under decisions c ≡ []) ⊎ ((p : Pair) × (pairs_under decisions c ≡ p ∷ []))
few_under decisions (Decide x) distinct = one_under decisions x distinct
few_under decisions (Not p) distinct = inl refl
few_under decisions (User n) distinct = inl refl

nogood_distinct : (decisions : List Pair) (conflict : List Cid) → Distinct (vars_of decisions) → Rises conflict → Distinct (vars_of (flat_map (pairs_under decisions) conflict))
nogood_distinct decisions [] distinct rises = tt
nogood_distinct decisions (c ∷ conflict) distinct rises =
    let back = flat_map (pairs_under decisions) conflict in
    distinct_more (pairs_under decisions c) back (few_under decisions c distinct)
    (λ p m k.
    let r = member_unmap (λ (q : Pair). q.var) back p.var k in
    let here = under_member decisions c p m in
    let there = nogood_pair decisions conflict r.0 r.1 in
    let same : Decide r.0.var ≡ c = ap Decide r.2 ∙ sym here.1 in
    not_before_itself c (All-contains (λ d. cid_before c d ≡ true) conflict c rises.0 (member_same conflict (Decide r.0.var) c same there.1)))
    (nogood_distinct decisions conflict distinct rises.1)

-- ---- the nogood of a flat conflict

-- what satisfies the users and has the pairs satisfies all that the flat conflict holds
justifier_solved : (s : SearchState) → IsSearching s → (conflict : List Cid) (b : Assignment) → IsSolution s.engine.initial (Named s.engine.active (Contains (nogood_of s.decisions conflict).users)) b
    → ((p : Pair) → Contains (nogood_of s.decisions conflict).pairs p → b p.var ≡ p.value) → (a : Active) (cid : Cid) → a.cid ≡ cid → Contains s.engine.active a → IsJustifier cid → Contains conflict cid → Satisfies b a.con
justifier_solved s searching conflict b solution at a (Decide x) named posted justifier held =
    let taken = searching.decisions.taken a x posted named in
    let p = taken.0 in
    let same : Decide x ≡ Decide p.var = sym named ∙ ap (λ (c : Active). c.cid) taken.2 in
    let m = pair_nogood s.decisions conflict p taken.1 (member_same conflict (Decide x) (Decide p.var) same held) in
    subst (λ (c : Active). Satisfies b c.con) (sym taken.2) (satisfies_decision b p (at p m))
justifier_solved s searching conflict b solution at a (Not p) named posted justifier held = absurd justifier
justifier_solved s searching conflict b solution at a (User n) named posted justifier held =
    solution.satisfies a.con (record {
      owner = a;
      posted = posted;
      is = refl;
      named = subst (λ c. Contains (filter is_user conflict) c) (sym named) (member_filter is_user conflict (User n) held refl);
    })

pub flat_nogood : (s : SearchState) (conflict : List Cid) → IsSearching s → HasFlatConflict s.engine conflict → IsNogood s.engine (nogood_of s.decisions conflict)
flat_nogood s conflict searching flat = record {
  users = λ c m.
      let r = filter_member is_user conflict c m in
      (r.1, (flat_justifiers s.engine searching.valid flat.var c (flat.is.sound c r.0)).1);
  declared = λ p m. searching.declared.decided p (nogood_pair s.decisions conflict p m).0;
  distinct = nogood_distinct s.decisions conflict searching.decisions.distinct flat.is.rising;
  refuted = λ b solution at. flat_unsolved s.engine searching.valid searching.justified flat.var flat.empty b (record {
    within = solution.within;
    satisfies = λ c named.
        let cid = named.owner.cid in
        let justifier = (flat_justifiers s.engine searching.valid flat.var cid named.named).0 in
        subst (λ d. Satisfies b d) named.is (justifier_solved s searching conflict b solution at named.owner cid refl named.posted justifier (flat.is.whole cid named.named));
  });
}
