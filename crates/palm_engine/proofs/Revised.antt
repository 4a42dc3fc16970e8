-- One value of a revision: it is passed or taken out, and what the engine keeps stays right.
use Rattle.std.proofs.Common.{◌≡◌, ℕ, ◌<◌, List, [], ◌∷◌, ◌++◌, length, Contains, ℤ, Option, Some, None, ◌⊎◌, inl, inr, refl, sym, ap, ◌∙◌, subst, arith}
use Rattle.std.proofs.lemmas.List.{length-map}
use Rattle.palm_base.specs.declared.terms.Pair.{Pair}
use Rattle.palm_base.specs.declared.terms.Cid.{Cid}
use Rattle.palm_base.proofs.cited.Members.{member_here, nat_known, all_members}
use Rattle.palm_domain.specs.Rows.{Row, LosesPair, initial_of, present_of}
use Rattle.palm_model.specs.Domains.{Domains, Has, values_of}
use Rattle.palm_model.specs.Constraint.{scope}
use Rattle.palm_model.specs.Support.{IsSupported, LacksSupport}
use Rattle.palm_model.specs.Reason.{AreFilled, reason}
use Rattle.palm_model.specs.Log.{Active, log_pairs}
use Rattle.palm_model.specs.State.{EngineState, FitsCid, IsEmptyAt, AllFilled, present}
use Rattle.palm_model.specs.Event.{Removes, removed}
use Rattle.palm_model.proofs.cited.Without.{pair_of, length_without}
use Rattle.palm_events.proofs.cited.Names.{single}
use Rattle.palm_events.proofs.cited.Reasons.{reasons_right, removal_right}
use Rattle.palm_events.proofs.cited.Valid.{active_declared, has_removed}
use Rattle.palm_agenda.specs.Agenda.{IsOver as IsOverConnected, mark_others}
use Rattle.palm_explain.specs.Explanations.{AreSpanned}
use Rattle.palm_explain.specs.Moving.{spans_at}
use Rattle.palm_explain.specs.declared.moving.MovingSpan.{MovingSpan}
use Rattle.palm_engine.specs.Reasons.{IsToldBy}
use Rattle.palm_engine.specs.declared.filtering.Filtering.{Filtering}
use Rattle.palm_engine.specs.Settling.{Walks}
use Rattle.palm_engine.specs.Settling.Walks.{walked_all, walked_empty, walked_past, walked_out}
use Rattle.palm_engine.specs.Kept.{IsInStep, IsEmptyKept, AreConnected, AreHeeded, AreMarked, state_in_revision}
use Rattle.palm_engine.specs.Changed.{TakesOut, NotesLoss}
use Rattle.palm_engine.specs.Posted.{IsInForm}
use Rattle.palm_engine.specs.Revising.{IsRevising}
use Rattle.palm_engine.proofs.Scopes.{bare_others, connected_stays, heeded_stays}
use Rattle.palm_engine.proofs.Unmarking.{active_connected, connected_active, marked_removed}
use Rattle.palm_engine.proofs.Staying.{KeepsOthers, support_stays}
use Rattle.palm_engine.proofs.Waking.{IsOver, woken_beside}

-- ---- what is known in a revision

pub present_is : (f : Filtering) (active : List Active) (cid : Cid) → IsInStep f active → present (state_in_revision f active cid) ≡ present_of f.store
present_is f active cid kept = sym kept.removed.present

-- as many variables have present values as have declared ones
pub present_length : (f : Filtering) (active : List Active) → IsInStep f active → length (present_of f.store) ≡ length (initial_of f.store)
present_length f active kept = ap length kept.removed.present ∙ length_without (initial_of f.store) (log_pairs f.log.log)

pub owner_in_form : (f : Filtering) (active : List Active) (owner : Active) → IsRevising f active owner → IsInForm (length f.store) owner
owner_in_form f active owner r = record {
  active = active;
  fits = subst (λ n. FitsCid n active owner) (length-map f.store (λ (w : Row). w.initial)) (r.valid.formed owner r.posted);
}

pub owner_declared : (f : Filtering) (active : List Active) (owner : Active) → IsRevising f active owner → (x : ℕ) → Contains (scope owner.con) x → x < length (initial_of f.store)
owner_declared f active owner r x m = active_declared (state_in_revision f active owner.cid) r.valid owner r.posted x m

pub var_stored : (f : Filtering) (active : List Active) (owner : Active) → IsRevising f active owner → (x : ℕ) → Contains (scope owner.con) x → x < length f.store
var_stored f active owner r x m = subst (λ n. x < n) (length-map f.store (λ (w : Row). w.initial)) (owner_declared f active owner r x m)

pub var_present : (f : Filtering) (active : List Active) (owner : Active) → IsRevising f active owner → (x : ℕ) → Contains (scope owner.con) x → x < length (present_of f.store)
var_present f active owner r x m = subst (λ n. x < n) (sym (present_length f active r.kept)) (owner_declared f active owner r x m)

pub owner_filled : (f : Filtering) (active : List Active) (owner : Active) → IsRevising f active owner → AllFilled (present_of f.store) → AreFilled (present_of f.store) (scope owner.con)
owner_filled f active owner r filled = all_members (λ x. 0 < length (values_of (present_of f.store) x)) (scope owner.con)
    (λ x m. filled x (subst (λ n. x < n) (sym (present_length f active r.kept)) (owner_declared f active owner r x m)))

-- ---- a walk over one pair

no_walk : (a : Active) (s : EngineState) (n : ℕ) (t : EngineState) → Walks a [] s n t → t ≡ s
no_walk a _ _ _ (walked_all s) = refl
no_walk a _ _ _ (walked_empty _ s empty) = refl

-- nothing happens, or the pair is removed
pub one_walk : (a : Active) (p : Pair) (s : EngineState) (n : ℕ) (t : EngineState) → Walks a (p ∷ []) s n t → (t ≡ s) ⊎ Removes s a p t
one_walk a p _ _ _ (walked_empty _ s empty) = inl refl
one_walk a _ _ _ _ (walked_past p _ s n t supported walk) = inl (no_walk a s n t walk)
one_walk a _ _ _ _ (walked_out p _ s m n t removes walk) = inr (subst (λ z. Removes s a p z) (sym (no_walk a m n t walk)) removes)

pub one_keeps : (a : Active) (x : ℕ) (v : ℤ) (s : EngineState) (n : ℕ) (t : EngineState) → Walks a (pair_of x v ∷ []) s n t → KeepsOthers (present s) (present t) x v
one_keeps a x v s n t walk y w other has = elim (one_walk a (pair_of x v) s n t walk) [
  | inl e ↦ subst (λ z. Has (present z) y w) (sym e) has
  | inr r ↦ subst (λ z. Has (present z) y w) (sym r.after) (has_removed s a (pair_of x v) y w other has)
]

-- support of other values of the same variable stays
pub one_supports : (a : Active) (x : ℕ) (v : ℤ) (s : EngineState) (n : ℕ) (t : EngineState) → Walks a (pair_of x v ∷ []) s n t → (w : ℤ) → (v ≡ w → ⊥) → IsSupported (present s) a.con x w → IsSupported (present t) a.con x w
one_supports a x v s n t walk w other = support_stays (present s) (present t) a.con x v x w (one_keeps a x v s n t walk) (λ z m e. e) (λ e. other (ap (λ (q : Pair). q.value) e))

-- ---- the pair is taken out

pub over_connected : (f : Filtering) (active : List Active) → IsInStep f active → (x : ℕ) (c : Cid) → IsOver active x c → IsOverConnected f.agenda.connected x c
over_connected f active kept x c o =
    let r = active_connected active f.agenda.connected kept.connected o.0 o.1 in
    record { owner = r.0; listed = r.1; named = r.2 ∙ o.2; over = subst (λ xs. Contains xs x) (sym r.3) o.3 }

connected_over : (f : Filtering) (active : List Active) → IsInStep f active → (x : ℕ) (c : Cid) → IsOverConnected f.agenda.connected x c → IsOver active x c
connected_over f active kept x c o =
    let r = connected_active active f.agenda.connected kept.connected o.owner o.listed in
    (r.0, r.1, r.2 ∙ o.named, subst (λ xs. Contains xs x) (sym r.3) o.over)

-- the removal's reasons are the stated ones
abbrev pub stated : Filtering → Active → Pair → List Pair
stated f owner p = reason (initial_of f.store) (present_of f.store) owner.con p.var p.value

pub out_state : (f : Filtering) (active : List Active) (owner : Active) (p : Pair) (g : Filtering) → IsRevising f active owner → TakesOut f p owner.cid (stated f owner p) g
    → state_in_revision g active owner.cid ≡ removed (state_in_revision f active owner.cid) owner p
out_state f active owner p g r takes =
    let log = takes.log ∙ ap (λ (d : Domains). f.log.log ++ record { pair = p; by = owner.cid; reasons = reason (initial_of f.store) d owner.con p.var p.value } ∷ []) r.kept.removed.present in
    let pending = woken_beside active f.agenda.pending g.agenda.pending owner.cid p.var (single active r.valid.rising)
    (λ c m. elim ((takes.pending c).0 m) [ inl k ↦ inl k | inr o ↦ inr (connected_over f active r.kept p.var c o) ])
    (λ c m. (takes.pending c).1 (inl m)) (λ c o. (takes.pending c).1 (inr (over_connected f active r.kept p.var c o))) in
    λ i. record { initial = takes.initial i; active = active; log = log i; pending = pending i }

pub out_removes : (f : Filtering) (active : List Active) (owner : Active) (p : Pair) (g : Filtering) → IsRevising f active owner → AllFilled (present_of f.store) → Has (present_of f.store) p.var p.value
    → LacksSupport (present_of f.store) owner.con p.var p.value → TakesOut f p owner.cid (stated f owner p) g → Removes (state_in_revision f active owner.cid) owner p (state_in_revision g active owner.cid)
out_removes f active owner p g r filled has lacks takes =
    let e = sym (present_is f active owner.cid r.kept) in
    record {
      posted = r.posted;
      filled = subst AllFilled e filled;
      has = subst (λ d. Has d p.var p.value) e has;
      lacks = subst (λ d. LacksSupport d owner.con p.var p.value) e lacks;
      after = out_state f active owner p g r takes;
    }

first_of_some : (vs : List ℤ) → 0 < length vs → (v : ℤ) × Contains vs v
first_of_some [] lt = absurd (omega arith)
first_of_some (v ∷ vs) lt = (v, member_here v vs)

pub some_length : (vs : List ℤ) (v : ℤ) → Contains vs v → 0 < length vs
some_length vs v m = omega (arith, m.1)

-- a variable other than that of the pair keeps its values
pub others_filled : (d e : Domains) (x : ℕ) (v : ℤ) → KeepsOthers d e x v → (y : ℕ) → (y ≡ x → ⊥) → 0 < length (values_of d y) → 0 < length (values_of e y)
others_filled d e x v keeps y other lt =
    let w = first_of_some (values_of d y) lt in
    some_length (values_of e y) w.0 (keeps y w.0 (λ s. other (sym (ap (λ (q : Pair). q.var) s))) w.1)

-- an empty variable is the one of the pair
pub only_emptied : (d e : Domains) (x : ℕ) (v : ℤ) → length e ≡ length d → KeepsOthers d e x v → AllFilled d → (y : ℕ) → IsEmptyAt e y → y ≡ x
only_emptied d e x v same keeps filled y empty = elim (nat_known y x) [
  | inl s ↦ s
  | inr n ↦ let lt = others_filled d e x v keeps y n (filled y (subst (λ k. y < k) same empty.exists)) in absurd (omega (arith, lt, ap length empty.empty))
]

noted : (after : Option ℕ) (d e : Domains) (x : ℕ) (v : ℤ) → length e ≡ length d → x < length e → KeepsOthers d e x v → AllFilled d → NotesLoss None after e x → (vs : List ℤ) → vs ≡ values_of e x → IsEmptyKept e after
noted after d e x v same lt keeps filled notes [] s = subst (λ o. IsEmptyKept e o) (sym (notes.emptied (sym s)))
    (record { exists = lt; empty = sym s }, only_emptied d e x v same keeps filled)
noted after d e x v same lt keeps filled notes (w ∷ ws) s =
    let some : 0 < length (values_of e x) = subst (λ us. 0 < length us) s (omega arith) in
    subst (λ o. IsEmptyKept e o) (sym (notes.filled some)) (λ y l. elim (nat_known y x) [
      | inl is ↦ subst (λ z. 0 < length (values_of e z)) (sym is) some
      | inr n ↦ others_filled d e x v keeps y n (filled y (subst (λ k. y < k) same l))
    ])

out_empty : (before after : Option ℕ) (d e : Domains) (x : ℕ) (v : ℤ) → length e ≡ length d → x < length e → KeepsOthers d e x v → AllFilled d → IsEmptyKept d before → NotesLoss before after e x → IsEmptyKept e after
out_empty (Some z) after d e x v same lt keeps filled kept notes = let some = filled z kept.0.exists in absurd (omega (arith, some, ap length kept.0.empty))
out_empty None after d e x v same lt keeps filled kept notes = noted after d e x v same lt keeps filled notes (values_of e x) refl

loses_keeps : (before after : List Row) (x : ℕ) (v : ℤ) → LosesPair before after x v → KeepsOthers (present_of before) (present_of after) x v
loses_keeps before after x v loses y w other has = loses.others y w (λ first second. let a = sym first in let b = sym second in other (λ i. pair_of (a i) (b i))) has

pub out_kept : (f : Filtering) (active : List Active) (owner : Active) (p : Pair) (g : Filtering) → IsRevising f active owner → AllFilled (present_of f.store) → Has (present_of f.store) p.var p.value → Contains (scope owner.con) p.var
    → TakesOut f p owner.cid (stated f owner p) g → IsInStep g active
out_kept f active owner p g r filled has over takes =
    let keeps = loses_keeps f.store g.store p.var p.value takes.loses in
    let rises = r.valid.rising in
    let after_length : length (present_of g.store) ≡ length (initial_of g.store) = ap length takes.removed.present ∙ length_without (initial_of g.store) (log_pairs g.log.log) in
    let same : length (present_of g.store) ≡ length (present_of f.store) = after_length ∙ ap length takes.initial ∙ sym (present_length f active r.kept) in
    let lt : p.var < length (present_of g.store) = subst (λ n. p.var < n) (sym (after_length ∙ ap length takes.initial)) (owner_declared f active owner r p.var over) in
    record {
      removed = takes.removed;
      formed = takes.formed;
      connected = subst (λ cs. AreConnected active cs) (sym takes.connected) (connected_stays active f.agenda.connected (mark_others p.var takes.loss) (bare_others p.var takes.loss) r.kept.connected);
      heeded = subst (λ cs. AreHeeded active cs) (sym takes.connected) (heeded_stays active f.agenda.connected (mark_others p.var takes.loss) (bare_others p.var takes.loss) r.kept.heeded);
      marked = subst (λ cs. AreMarked (present_of g.store) active cs) (sym takes.connected)
          (marked_removed (present_of f.store) (present_of g.store) active f.agenda.connected p takes.loss rises r.kept.connected r.kept.heeded
          (record { had = has; gone = takes.loses.gone; stay = takes.loses.others; inside = takes.loses.inside }) takes.told r.kept.marked);
      empty = out_empty f.empty g.empty (present_of f.store) (present_of g.store) p.var p.value same lt keeps filled r.kept.empty takes.empty;
    }

-- the stated reasons are pairs that were taken out
pub reasons_logged : (f : Filtering) (active : List Active) (owner : Active) (p : Pair) → IsRevising f active owner → AllFilled (present_of f.store) → Has (present_of f.store) p.var p.value → LacksSupport (present_of f.store) owner.con p.var p.value
    → (q : Pair) → Contains (stated f owner p) q → Contains (log_pairs f.log.log) q
reasons_logged f active owner p r filled has lacks q m =
    let s = state_in_revision f active owner.cid in
    let e = sym (present_is f active owner.cid r.kept) in
    let removes : Removes s owner p (removed s owner p) = record {
      posted = r.posted;
      filled = subst AllFilled e filled;
      has = subst (λ d. Has d p.var p.value) e has;
      lacks = subst (λ d. LacksSupport d owner.con p.var p.value) e lacks;
      after = refl;
    } in
    let right = removal_right reasons_right s (removed s owner p) owner p r.valid.ascend (r.valid.formed owner r.posted) removes in
    right.reasons q (subst (λ (d : Domains). Contains (reason (initial_of f.store) d owner.con p.var p.value) q) e m)

-- and spans that stand for them where they were taken out do so
pub reasons_told : (f : Filtering) (active : List Active) (owner : Active) (p : Pair) → IsRevising f active owner → AllFilled (present_of f.store) → Has (present_of f.store) p.var p.value → LacksSupport (present_of f.store) owner.con p.var p.value
    → (spans out : List MovingSpan) → spans ≡ out → IsToldBy (initial_of f.store) (stated f owner p) (spans_at out p.value) → AreSpanned (log_pairs f.log.log) (spans_at spans p.value) (stated f owner p)
reasons_told f active owner p r filled has lacks spans out e told =
    subst (λ ss. AreSpanned (log_pairs f.log.log) (spans_at ss p.value) (stated f owner p)) (sym e) (told (log_pairs f.log.log) r.kept.removed.declared (reasons_logged f active owner p r filled has lacks))
