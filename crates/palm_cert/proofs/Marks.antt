-- Marks of constraints that are set one by one, and which variables are used: by terms, and by the constraints that are cited.
use Rattle.std.proofs.Common.{◌≡◌, ◌≢◌, ℕ, zero, suc, ◌<◌, All, Bool, true, false, ◌||◌, Some, List, [], ◌∷◌, ◌++◌, map, length, replicate, inl, inr, refl, sym, ap, ◌∙◌, arith, nat_eq, ◌+◌, cond, option_map, get_or, filter, take}
use Rattle.std.specs.Prelude.{IfSome, slice_get, slice_set}
use Rattle.std.proofs.lemmas.List.Elements.{All-contains, filter-append}
use Rattle.std.proofs.Math.Bool.{or-true}
use Rattle.std.proofs.lemmas.Bool.{cases_lt, eq-eqb, ne_eqb, or_from, or_left}
use Rattle.std.proofs.lemmas.List.Folds.{list_any-append, list_any-from_Any}
use Rattle.std.proofs.lemmas.Option.{none-some, same_Some, slice_get_within, get_or_from_slice_get, slice_get-map}
use Rattle.palm_base.specs.declared.terms.Cid.{Cid}
use Rattle.palm_base.specs.declared.terms.Cid.TheVariants.{User}
use Rattle.palm_base.proofs.cited.Members.{map_agree, member_get, member_filter}
use Rattle.palm_book.specs.Book.{Contents, IsBook}
use Rattle.palm_book.specs.declared.book.BookCon.{BookCon}
use Rattle.palm_base.specs.Order.{same_cid}
use Rattle.palm_model.specs.Log.{Removal}
use Rattle.palm_cert.specs.Certificate.{is_cited}
use Rattle.palm_cert.specs.Needs.{cites_of, has_term, has_var}
use Rattle.palm_claim.proofs.cited.ProvedSteps.{some_at}
use Rattle.std.specs.List.{list_any}
use Rattle.palm_book.proofs.cited.Any.{any_member}
use Rattle.palm_model.specs.Linear.{term_vars}
use Rattle.palm_model.specs.declared.constraint.Term.{Term}
use Rattle.palm_cert.proofs.cited.Filtered.{take_some}

-- ---- one mark more

or_last : (b c : Bool) → c ≡ false → b ≡ (b || c)
or_last true c e = refl
or_last false c e = sym e

module _ {X : Type 0} (f h : X → Bool) where
  -- where none passes the second test
  pub or_none : (xs : List X) → ((j : ℕ) (y : X) → slice_get xs j ≡ Some y → h y ≡ false) → map f xs ≡ map (λ y. f y || h y) xs
  or_none [] none = refl
  or_none (x ∷ xs) none = rw (← or_none xs (λ j y at. none (suc j) y at)) (ap (λ b. b ∷ map f xs) (or_last (f x) (h x) (none 0 x refl)))

  -- where the one at the place alone passes it
  pub or_one : (xs : List X) (k : ℕ) (x : X) → slice_get xs k ≡ Some x → h x ≡ true → ((j : ℕ) (y : X) → slice_get xs j ≡ Some y → (j ≡ k → ⊥) → h y ≡ false)
      → slice_set (map f xs) k true ≡ map (λ y. f y || h y) xs
  or_one [] k x at here others = absurd (none-some x at)
  or_one (y ∷ xs) zero x at here others =
      let e : (f y || h y) ≡ true = ap (λ b. f y || b) (ap h (same_Some y x at) ∙ here) ∙ or-true (f y) in
      rw (e, ← or_none xs (λ j z is. others (suc j) z is (λ n. absurd (omega (arith, n))))) refl
  or_one (y ∷ xs) (suc k) x at here others =
      let none : h y ≡ false = others 0 y refl (λ n. absurd (omega (arith, n))) in
      let e = or_one xs k x at here (λ j z is n. others (suc j) z is (λ m. n (omega (arith, m)))) in
      rw (e, ← or_last (f y) (h y) none) refl

pub uncited : (cs : List BookCon) → replicate (length cs) false ≡ map (is_cited []) cs
uncited [] = refl
uncited (c ∷ cs) = ap (λ ms. false ∷ ms) (uncited cs)

cites_more : (book : Contents) (rs : List Removal) (r : Removal) → map (λ (c : BookCon). is_cited rs c || is_cited (r ∷ []) c) book.constraints ≡ cites_of book (rs ++ r ∷ [])
cites_more book rs r = map_agree _ _ book.constraints (λ c m. sym (list_any-append _ rs (r ∷ [])))

by_number : (r : Removal) (n : ℕ) (c : BookCon) → r.by ≡ User n → is_cited (r ∷ []) c ≡ (nat_eq n c.number || false)
by_number r n c e = ap (λ (b : Cid). same_cid b (User c.number) || false) e

pub cites_missing : (book : Contents) (rs : List Removal) (r : Removal) (n : ℕ) → r.by ≡ User n → All (λ c. c.number ≢ n) book.constraints → cites_of book rs ≡ cites_of book (rs ++ r ∷ [])
cites_missing book rs r n e none =
    or_none (is_cited rs) (is_cited (r ∷ [])) book.constraints
    (λ j c at. by_number r n c e ∙ or_from (nat_eq n c.number) false (ne_eqb n c.number (λ s. All-contains (λ (d : BookCon). d.number ≢ n) book.constraints c none (member_get book.constraints j c at) (sym s))) refl)
    ∙ cites_more book rs r

same_number : (book : Contents) → IsBook book → (j k : ℕ) (c d : BookCon) → slice_get book.constraints j ≡ Some c → slice_get book.constraints k ≡ Some d → c.number ≡ d.number → j ≡ k
same_number book is j k c d at there e = elim (cases_lt j k) [
  | inl lt ↦ absurd (omega (arith, e, number_below j k c d at there lt))
  | inr le ↦ elim (cases_lt k j) [
    | inl lt ↦ absurd (omega (arith, e, number_below k j d c there at lt))
    | inr ge ↦ omega (arith, le, ge)
  ]
]
  where
    number_below : (i l : ℕ) (a b : BookCon) → slice_get book.constraints i ≡ Some a → slice_get book.constraints l ≡ Some b → i < l → a.number < b.number
    number_below i l a b x y lt =
        let below = is.rising i l a lt (slice_get_within book.constraints l b y) in
        let first = ap (λ (z : BookCon). z.number) (get_or_from_slice_get book.constraints i a a x) in
        let second = ap (λ (z : BookCon). z.number) (get_or_from_slice_get book.constraints l b a y) in
        omega (arith, below, first, second)

pub cites_found : (book : Contents) → IsBook book → (rs : List Removal) (r : Removal) (n place : ℕ) → r.by ≡ User n → IfSome (slice_get book.constraints place) (λ c. c.number ≡ n) × (place < length book.constraints) → slice_set (cites_of book rs) place true ≡ cites_of book (rs ++ r ∷ [])
cites_found book is rs r n place e found =
    let c = some_at book.constraints place found.1 in
    let number : c.0.number ≡ n = rw c.1 at found.0 in
    or_one (is_cited rs) (is_cited (r ∷ [])) book.constraints place c.0 c.1
    (by_number r n c.0 e ∙ or_left (nat_eq n c.0.number) false (eq-eqb n c.0.number (sym number)))
    (λ j d there other. by_number r n d e ∙ or_from (nat_eq n d.number) false (ne_eqb n d.number (λ s. other (same_number book is j place d c.0 there c.1 (sym s ∙ sym number)))) refl)
    ∙ cites_more book rs r

-- ---- what is used

pub terms_have : (terms : List Term) (x : ℕ) → has_term terms x ≡ has_var (term_vars terms) x
terms_have [] x = refl
terms_have (t ∷ terms) x = ap (λ b. nat_eq t.var x || b) (terms_have terms x)

pub scope_has : (vars more : List ℕ) (x : ℕ) → (has_var vars x || has_var more x) ≡ has_var (vars ++ more) x
scope_has vars more x = sym (list_any-append (λ y. nat_eq y x) vars more)

-- the mark of a place tells of what stands there
pub mark_tells : {X : Type 0} (t : X → Bool) (xs : List X) (k : ℕ) (d b : Bool) (x : X) (marks : List Bool) → marks ≡ map t xs → slice_get xs k ≡ Some x → get_or marks k d ≡ b → t x ≡ b
mark_tells t xs k d b x marks are at is =
    sym (get_or_from_slice_get marks k (t x) d (ap (λ (ms : List Bool). slice_get ms k) are ∙ slice_get-map t xs k ∙ ap (option_map t) at)) ∙ is

-- a test of what is kept, one place after another
module _ {X : Type 0} (kept p : X → Bool) (xs : List X) (k : ℕ) (x : X) (at : slice_get xs k ≡ Some x) where
  one_fails : (b : Bool) → kept x ≡ b → (b ≡ true → p x ≡ false) → list_any p (filter kept (x ∷ [])) ≡ false
  one_fails true e fails = ap (λ (c : Bool). list_any p (cond c (x ∷ []) [])) e ∙ or_from (p x) false (fails refl) refl
  one_fails false e fails = ap (λ (c : Bool). list_any p (cond c (x ∷ []) [])) e

  -- none of one more, since this one is not kept or does not pass
  pub none_more : list_any p (filter kept (take k xs)) ≡ false → (b : Bool) → kept x ≡ b → (b ≡ true → p x ≡ false) → list_any p (filter kept (take (k + 1) xs)) ≡ false
  none_more before b e fails =
      ap (λ (ys : List X). list_any p ys) (ap (λ (ys : List X). filter kept ys) (sym (take_some xs k x at)) ∙ filter-append kept (take k xs) (x ∷ []))
      ∙ list_any-append p (filter kept (take k xs)) (filter kept (x ∷ [])) ∙ or_from (list_any p (filter kept (take k xs))) (list_any p (filter kept (x ∷ []))) before (one_fails b e fails)

  -- some of all, since this one passes
  pub some_passed : kept x ≡ true → p x ≡ true → list_any p (filter kept xs) ≡ true
  some_passed is passes = list_any-from_Any p (filter kept xs) (any_member (λ (y : X). p y ≡ true) (filter kept xs) x (member_filter kept xs x (member_get xs k x at) is) passes)
