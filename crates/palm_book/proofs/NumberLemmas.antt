-- Looking numbers up, by halving, in a list in which they rise.
use Rattle.std.proofs.Common.{◌≡◌, ◌≢◌, ℕ, ◌<◌, ◌≤◌, List, [], ◌∷◌, length, get_or, All, AllPairs, Result, Ok, Err, IfSome, IfNone, slice_get, ⊎_elim, sym, ap, arith}
use Rattle.std.specs.List.Sorted.{IsBinarySearchResult, IsSearchInRange}
use Rattle.std.specs.Ordering.{nat_cmp, ordering_index}
use Rattle.std.specs.Result.{result_ok}
use Rattle.std.specs.declared.cmp.Ordering.TheVariants.{Less, Equal, Greater}
use Rattle.std.proofs.lemmas.Bool.{cases_lt, cases_eq}
use Rattle.std.proofs.lemmas.Cmp.{ranked}
use Rattle.std.proofs.lemmas.Option.{slice_get-get_or}
use borrow.Author.Tests.{tests}

module _ {X : Type 0} (number : X → ℕ) (n : ℕ) where
  higher : (a b : ℕ) → a ≤ b → ordering_index (nat_cmp a n) ≤ ordering_index (nat_cmp b n)
  higher a b le = grind (arith, tests)

  pub found_number : (xs : List X) (r : Result ℕ ℕ) → IsSearchInRange r (length xs) → IsBinarySearchResult (λ y. nat_cmp (number y) n) xs r → IfSome (result_ok r) (λ place. IfSome (slice_get xs place) (λ x. number x ≡ n) × (place < length xs))
  found_number [] (Ok i) within h = absurd (omega arith)
  found_number (x ∷ xs) (Ok i) within h = (rw (slice_get-get_or (x ∷ xs) i x within) (ranked (number (get_or (x ∷ xs) i x)) n Equal (sym (h x))), within)
  found_number xs (Err i) within h = tt

  pub no_number : (xs : List X) (r : Result ℕ ℕ) → AllPairs (λ x y. number x < number y) xs → IsBinarySearchResult (λ y. nat_cmp (number y) n) xs r → IfNone (result_ok r) (All (λ x. number x ≢ n) xs)
  no_number xs (Ok i) rising h = tt
  no_number xs (Err i) rising h = λ k d lt e.
      let parted = h (λ a b c le within. higher (number (get_or xs a c)) (number (get_or xs b c)) (⊎_elim (λ (q : a ≡ b). let same : number (get_or xs a c) ≡ number (get_or xs b c) = ap (λ j. number (get_or xs j c)) q in omega arith) (λ (q : a ≢ b). let below = rising a b c (omega arith) within in omega arith) (cases_eq a b))) in
      ⊎_elim (λ (q : k < i). let below : number (get_or xs k d) < n = ranked (number (get_or xs k d)) n Less (sym (parted.0 k d (omega arith) q)) in omega arith) (λ (q : i ≤ k). let above : n < number (get_or xs k d) = ranked (number (get_or xs k d)) n Greater (sym (parted.1 k d q lt)) in omega arith) (cases_lt k i)
