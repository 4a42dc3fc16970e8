-- A constraint of a book that was found by its number.
use Rattle.std.proofs.Common.{◌≡◌, ◌<◌, ℕ, zero, suc, true, List, [], ◌∷◌, length, slice_get, Option, Some, None, IfSome, Any, is_some, refl, arith}
use Rattle.palm_base.proofs.cited.Members.{member_get}
use Rattle.palm_book.proofs.cited.Any.{any_member}
use Rattle.palm_book.specs.declared.book.BookCon.{BookCon}

none_within : (cs : List BookCon) (p : ℕ) → p < length cs → slice_get cs p ≡ None → ⊥
none_within [] p lt e = omega (arith, lt)
none_within (c ∷ cs) zero lt e = cc
none_within (c ∷ cs) (suc p) lt e = none_within cs p (omega (arith, lt)) e

pub found_number : (cs : List BookCon) (n : ℕ) (o : Option ℕ) → IfSome o (λ p. IfSome (slice_get cs p) (λ c. c.number ≡ n) × (p < length cs)) → is_some o ≡ true → Any (λ c. c.number ≡ n) cs
found_number cs n None found some = cc
found_number cs n (Some p) found some = stands (slice_get cs p) refl found.0
  where
    stands : (o : Option BookCon) → slice_get cs p ≡ o → IfSome o (λ c. c.number ≡ n) → Any (λ c. c.number ≡ n) cs
    stands None none is = absurd (none_within cs p found.1 none)
    stands (Some c) at is = any_member (λ (d : BookCon). d.number ≡ n) cs c (member_get cs p c at) is
