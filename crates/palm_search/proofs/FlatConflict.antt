-- The flat conflict, and what is read from it.
use Rattle.std.proofs.Common.{◌≡◌, ℕ, ◌+◌, ◌<◌, ◌≤◌, List, [], ◌∷◌, ◌++◌, length, get_or, take, Contains, refl, sym, ap, ◌∙◌, arith}
use Rattle.std.proofs.lemmas.List.{take_more}
use Rattle.palm_base.specs.declared.terms.Pair.{Pair}
use Rattle.palm_base.specs.declared.terms.Cid.{Cid}
use Rattle.palm_base.specs.declared.terms.Cid.TheVariants.{Decide, Not, User}
use Rattle.palm_base.proofs.cited.Members.{member_same}
use Rattle.palm_model.specs.Conflict.{InConflict, InFlat, IsKeptConflict}
use Rattle.palm_model.specs.Conflict.InFlat.{as_it_is, in_place}
use Rattle.palm_model.specs.Log.{Active, IsActive, IsListOf}
use Rattle.palm_model.specs.State.{EngineState, IsValid, present}
use Rattle.palm_events.proofs.cited.Conflicts.{conflict_active, flat_justifiers}
use Rattle.palm_search.specs.Kept.{HasDecisions}
use Rattle.palm_search.specs.Turning.{HasOnlyEmpty}
use Rattle.palm_search.specs.Turns.{SearchState, HasFlatConflict, decided_vars}

-- ---- the flat conflict

pub kept_active : (s : EngineState) (x : ℕ) (kept : List Cid) → IsValid s → IsKeptConflict s x kept → (c : Cid) → Contains kept c → IsActive s.active c
kept_active s x kept valid is c m = conflict_active s valid x c (is.sound c m)

in_flat_alike : (active : List Active) (K L : Cid → Type 0) → ((c : Cid) → K c → L c) → (c : Cid) → InFlat active K c → InFlat active L c
in_flat_alike active K L to c (as_it_is k justifier) = as_it_is (to c k) justifier
in_flat_alike active K L to c (in_place p a k m named held) = in_place p a (to (Not p) k) m named held

pub flat_is : (s : EngineState) (kept flat : List Cid) (empty : HasOnlyEmpty (present s)) → IsKeptConflict s empty.var kept → IsListOf (InFlat s.active (Contains kept)) flat → HasFlatConflict s flat
flat_is s kept flat empty is list = record {
  var = empty.var;
  empty = empty.empty;
  lowest = λ y e. at_most empty.var y (empty.only y e);
  is = record {
    rising = list.rising;
    sound = λ c m. in_flat_alike s.active (Contains kept) (InConflict s empty.var) is.sound c (list.sound c m);
    whole = λ c m. list.whole c (in_flat_alike s.active (InConflict s empty.var) (Contains kept) is.whole c m);
  };
}
  where
    at_most : (x y : ℕ) → y ≡ x → x ≤ y
    at_most x y e = omega (arith, e)

-- a decision that it holds is one of the search's
pub conflict_decided : (s : SearchState) (conflict : List Cid) (x : ℕ) → IsValid s.engine → HasDecisions s → HasFlatConflict s.engine conflict → Contains conflict (Decide x) → (p : Pair) × Contains s.decisions p × Contains conflict (Decide p.var)
conflict_decided s conflict x valid has flat held =
    let is = (flat_justifiers s.engine valid flat.var (Decide x) (flat.is.sound (Decide x) held)).1 in
    let r = has.taken is.owner x is.posted is.named in
    (r.0, r.1, member_same conflict (Decide x) (Decide r.0.var) (sym is.named ∙ ap (λ (a : Active). a.cid) r.2) held)

-- ---- the variables of decisions

decided_both : (xs ys : List Cid) → decided_vars (xs ++ ys) ≡ decided_vars xs ++ decided_vars ys
decided_both [] ys = refl
decided_both (Decide x ∷ xs) ys = ap (λ l. x ∷ l) (decided_both xs ys)
decided_both (Not p ∷ xs) ys = decided_both xs ys
decided_both (User n ∷ xs) ys = decided_both xs ys

pub no_variable : (cid : Cid) → ((x : ℕ) → cid ≡ Decide x → ⊥) → decided_vars (cid ∷ []) ≡ []
no_variable (Decide x) none = absurd (none x refl)
no_variable (Not p) none = refl
no_variable (User n) none = refl

pub decided_more : (cids : List Cid) (i : ℕ) (cid : Cid) (vars now : List ℕ) → i < length cids → cid ≡ get_or cids i cid → vars ≡ decided_vars (take i cids) → now ≡ vars ++ decided_vars (cid ∷ []) → now ≡ decided_vars (take (i + 1) cids)
decided_more cids i cid vars now lt is e f =
    f ∙ (λ j. e j ++ decided_vars (is j ∷ [])) ∙ sym (decided_both (take i cids) (get_or cids i cid ∷ [])) ∙ ap decided_vars (sym (take_more cids i cid lt))
