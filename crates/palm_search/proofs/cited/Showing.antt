-- Places in lists, and the rows of a view.
use Rattle.std.proofs.Common.{◌≡◌, ℕ, zero, suc, ◌≤◌, None, Some, List, [], ◌∷◌, ◌++◌, length, slice_get, take, drop, ◌⊎◌, inl, inr, refl, sym, ap, ◌∙◌, subst, arith}
use Rattle.palm_model.specs.Domains.{Domains}
use Rattle.palm_guide.specs.declared.guide.ViewRow.{ViewRow}
use Rattle.palm_search.specs.Asked.{IsRow, AreRows}

pub some_same : {X : Type 0} (x y : X) → Some x ≡ Some y → x ≡ y
some_same x y e = cc

pub none_some : {X : Type 0} (x : X) → None ≡ Some x → ⊥
none_some x e = cc

-- what stands at a place when one is appended
push_place : {X : Type 0} (xs : List X) (y : X) (k : ℕ) (x : X) → slice_get (xs ++ y ∷ []) k ≡ Some x → (slice_get xs k ≡ Some x) ⊎ ((k ≡ length xs) × (y ≡ x))
push_place [] y zero x e = inr (refl, some_same y x e)
push_place [] y (suc k) x e = absurd (none_some x e)
push_place (w ∷ xs) y zero x e = inl e
push_place (w ∷ xs) y (suc k) x e = elim (push_place xs y k x e) [ inl h ↦ inl h | inr r ↦ inr (ap suc r.0, r.1) ]

-- the items before a place and those behind it
pub split_place : {X : Type 0} (xs : List X) (k : ℕ) (x : X) → slice_get xs k ≡ Some x → xs ≡ take k xs ++ x ∷ drop (suc k) xs
split_place [] k x e = absurd (none_some x e)
split_place (y ∷ ys) zero x e = ap (λ z. z ∷ ys) (some_same y x e)
split_place (y ∷ ys) (suc k) x e = ap (λ l. y ∷ l) (split_place ys k x e)

-- what stands behind a place
pub at_drop : {X : Type 0} (n : ℕ) (xs : List X) (j : ℕ) (x : X) → slice_get (drop n xs) j ≡ Some x → (k : ℕ) × (n ≤ k) × (slice_get xs k ≡ Some x)
at_drop zero xs j x e = (j, omega arith, e)
at_drop (suc n) [] j x e = absurd (none_some x e)
at_drop (suc n) (y ∷ xs) j x e = let r = at_drop n xs j x e in let le = r.1 in (suc r.0, omega (arith, le), r.2)

pub rows_push : (d : Domains) (view now : List ViewRow) (row : ViewRow) (x : ℕ) → x ≡ length view → IsRow d x row → now ≡ view ++ row ∷ [] → AreRows d view → AreRows d now
rows_push d view now row x e is_row en rows y other f = elim (push_place view row y other (ap (λ l. slice_get l y) (sym en) ∙ f)) [
  | inl h ↦ rows y other h
  | inr r ↦ subst (λ z. IsRow d y z) r.1 (subst (λ z. IsRow d z row) (e ∙ sym r.0) is_row)
]
