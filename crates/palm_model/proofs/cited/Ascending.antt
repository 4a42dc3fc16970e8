-- Ascending lists, and domains whose lists ascend.
use Rattle.std.proofs.Common.{◌≡◌, ℕ, zero, suc, Bool, true, false, cond, List, [], ◌∷◌, ◌++◌, length, get_or, filter, remove, All, Contains, ℤ, ◌<ℤ◌, inl, inr, refl, sym, ap, ◌∙◌, subst, arith, ext_get_or}
use Rattle.std.proofs.lemmas.Int.{ints}
use Rattle.std.proofs.lemmas.Bool.{cases_lt}
use Rattle.std.proofs.lemmas.List.{get_or_past}
use Rattle.std.proofs.lemmas.List.Elements.{All-contains, All-filter, All-get_or, All-nil, All-push, All-head, All-tail}
use Rattle.palm_base.proofs.cited.Members.{member_nil, member_here, member_there, member_cases, member_tail, all_members, remove_member}
use Rattle.palm_model.specs.Domains.{Domains, IsInside, Ascends, AllAscend, values_of}

-- ---- parts of an ascending list, and one more value

pub ascends_remove : (vs : List ℤ) (i : ℕ) → Ascends vs → Ascends (remove vs i)
ascends_remove [] zero h = tt
ascends_remove [] (suc i) h = tt
ascends_remove (v ∷ vs) zero h = h.1
ascends_remove (v ∷ vs) (suc i) h =
    (all_members (λ w. v <ℤ w) (remove vs i) (λ w m. All-contains (λ u. v <ℤ u) vs w h.0 (remove_member vs i w m)), ascends_remove vs i h.1)

pub ascends_at : (d : Domains) (x : ℕ) → AllAscend d → Ascends (values_of d x)
ascends_at d x h = elim (cases_lt x (length d)) [
  | inl lt ↦ All-get_or Ascends d x [] lt h
  | inr ge ↦ subst Ascends (sym (get_or_past d x [] ge)) tt
]

ascends_kept : (p : ℤ → Bool) (v : ℤ) (vs : List ℤ) (b : Bool) → All (λ w. v <ℤ w) vs → Ascends (filter p vs) → Ascends (cond b (v ∷ filter p vs) (filter p vs))
ascends_kept p v vs true above h = (All-filter p (λ w. v <ℤ w) vs above, h)
ascends_kept p v vs false above h = h

pub ascends_filter : (p : ℤ → Bool) (vs : List ℤ) → Ascends vs → Ascends (filter p vs)
ascends_filter p [] h = tt
ascends_filter p (v ∷ vs) h = ascends_kept p v vs (p v) h.0 (ascends_filter p vs h.1)

-- a value above all others at the end
pub ascends_push : (vs : List ℤ) (v : ℤ) → Ascends vs → All (λ w. w <ℤ v) vs → Ascends (vs ++ v ∷ [])
ascends_push [] v h below = (All-nil (λ w. v <ℤ w), tt)
ascends_push (u ∷ vs) v h below =
    (All-push (λ w. u <ℤ w) vs v h.0 (All-head (λ w. w <ℤ v) u vs below), ascends_push vs v h.1 (All-tail (λ w. w <ℤ v) u vs below))

-- ---- ascending lists with the same members

first_at_most : (x : ℤ) (xs : List ℤ) (y : ℤ) → Ascends (x ∷ xs) → Contains (x ∷ xs) y → (y <ℤ x) → ⊥
first_at_most x xs y ascends m below = elim (member_cases x xs y m) [
  | inl e ↦ omega (arith, ints, e)
  | inr k ↦ let above = All-contains (λ w. x <ℤ w) xs y ascends.0 k in omega (arith, ints)
]

first_same : (x : ℤ) (xs : List ℤ) (y : ℤ) (ys : List ℤ) → Ascends (x ∷ xs) → Ascends (y ∷ ys) → Contains (x ∷ xs) y → Contains (y ∷ ys) x → x ≡ y
first_same x xs y ys ax ay my mx = elim (member_cases x xs y my) [
  | inl e ↦ e
  | inr k ↦ absurd (first_at_most y ys x ay mx (All-contains (λ w. x <ℤ w) xs y ax.0 k))
]

tail_inside : (x : ℤ) (xs : List ℤ) (y : ℤ) (ys : List ℤ) (v : ℤ) → Ascends (x ∷ xs) → x ≡ y → Contains (y ∷ ys) v → Contains xs v → Contains ys v
tail_inside x xs y ys v ax e m k =
    let above = All-contains (λ w. x <ℤ w) xs v ax.0 k in
    member_tail y ys v (λ s. omega (arith, ints, above, e, s)) m

pub ascending_same : (xs ys : List ℤ) → Ascends xs → Ascends ys → ((v : ℤ) → Contains xs v → Contains ys v) → ((v : ℤ) → Contains ys v → Contains xs v) → xs ≡ ys
ascending_same [] [] ax ay to from = refl
ascending_same [] (y ∷ ys) ax ay to from = absurd (member_nil y (from y (member_here y ys)))
ascending_same (x ∷ xs) [] ax ay to from = absurd (member_nil x (to x (member_here x xs)))
ascending_same (x ∷ xs) (y ∷ ys) ax ay to from =
    let e = first_same x xs y ys ax ay (from y (member_here y ys)) (to x (member_here x xs)) in
    ap (λ z. z ∷ xs) e
    ∙ ap (λ zs. y ∷ zs) (ascending_same xs ys ax.1 ay.1
    (λ v m. tail_inside x xs y ys v ax e (to v (member_there x xs v m)) m)
    (λ v m. tail_inside y ys x xs v ay (sym e) (from v (member_there y ys v m)) m))

pub domains_same : (d e : Domains) → AllAscend d → AllAscend e → length d ≡ length e → IsInside d e → IsInside e d → d ≡ e
domains_same d e ascend_d ascend_e long to from =
    ext_get_or [] d e long (λ x lt.
    ascending_same (get_or d x []) (get_or e x []) (All-get_or Ascends d x [] lt ascend_d) (All-get_or Ascends e x [] (omega (arith, long)) ascend_e)
    (to x) (from x))
