-- Members that are found in lists, and the pairs of a log with one more removal.
use Rattle.std.proofs.Common.{◌≡◌, ◌∙◌, ℕ, zero, suc, ◌<◌, Option, None, Some, MatchOption, is_some, true, List, [], ◌∷◌, ◌++◌, length, Contains, get_or, slice_get, ap, arith}
use Rattle.std.proofs.lemmas.List.{map-append}
use Rattle.palm_base.proofs.cited.Members.{member_get}
use Rattle.palm_base.specs.declared.terms.Pair.{Pair}
use Rattle.palm_explain.specs.Explanations.{Explanations}
use Rattle.palm_model.specs.Log.{Removal, log_pairs}

-- what is found at a place is a member
pub found : {X : Type 0} (xs : List X) (place : Option ℕ) (x : X)
    → MatchOption place (Contains xs x → ⊥) (λ k. slice_get xs k ≡ Some x) → is_some place ≡ true → Contains xs x
found xs None x at some = (cc)
found xs (Some k) x at some = member_get xs k x at

-- what stands at a place of a list does not depend on what stands outside of the list
pub at_any : (pairs : List Pair) (i : ℕ) (p q : Pair) → i < length pairs → p ≡ get_or pairs i p → p ≡ get_or pairs i q
at_any [] i p q lt at = absurd (omega arith)
at_any (r ∷ rs) zero p q lt at = at
at_any (r ∷ rs) (suc i) p q lt at = at_any rs i p q (omega arith) at

-- the pairs after one more removal was entered
pub pairs_entered : (before after : Explanations) (r : Removal)
    → after ≡ record before { log = before.log ++ r ∷ [] } → log_pairs after.log ≡ log_pairs before.log ++ r.pair ∷ []
pairs_entered before after r e =
    ap (λ (x : Explanations). log_pairs x.log) e ∙ map-append (λ (s : Removal). s.pair) before.log (r ∷ [])
