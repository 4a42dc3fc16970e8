-- One variable after another takes a value in a list of values: what the list gives before, meanwhile and afterwards.
use Rattle.std.proofs.Common.{◌≡◌, ℕ, suc, ◌+◌, ◌-◌, ◌<◌, ◌≤◌, List, [], ◌∷◌, length, get_or, take, drop, slice_set, Contains, ℤ, pos, sym, ap, ◌∙◌, subst, inl, inr, arith, take_all, eqb, false, get_or-set_same, get_or-set_other}
use Rattle.std.proofs.lemmas.List.{get_or_default}
use Rattle.std.proofs.lemmas.Bool.{eqb-false}
use Rattle.palm_base.proofs.cited.Members.{member_here, member_there, member_tail, nat_known}
use Rattle.palm_model.specs.Domains.{Domains, Has, values_of}
use Rattle.palm_model.specs.Part.{scope_of}
use Rattle.palm_model.specs.Support.{HasSupport}
use Rattle.palm_model.specs.Trial.{listed, ChangesOnly, IsCompleted}
use Rattle.palm_model.specs.declared.part.Part.{Part}
use Rattle.palm_model.proofs.cited.Trials.{put, put_is, put_same, put_other, completed_agree, completed_skip, skip_completed, completed_put, completed_value, support_completed, completed_support}
use Rattle.palm_model.proofs.cited.Narrowing.{has_declared}

-- a list with a first member, as the code takes it apart
pub open_split : (xs : List ℕ) (y : ℕ) → 0 < length xs → y ≡ get_or xs 0 y → xs ≡ y ∷ take (length xs - 1) (drop 1 xs)
open_split [] y lt e = absurd (omega arith)
open_split (z ∷ xs) y lt e =
    let n : suc (length xs) - 1 ≡ length xs = omega arith in
    ap (λ w. w ∷ xs) (sym e) ∙ ap (λ ts. y ∷ ts) (sym (ap (λ k. take k xs) n ∙ take_all (length xs) xs (omega arith)))

pub skip_holds : (d : Domains) (p : Part) (x y : ℕ) (xs ys : List ℕ) (a : ℕ → ℤ) → xs ≡ y ∷ ys → y ≡ x → IsCompleted d p x ys a → IsCompleted d p x xs a
skip_holds d p x y xs ys a e s c = subst (λ ts. IsCompleted d p x ts a) (sym e) (completed_skip d p x y ys a s c)

pub skip_fails : (d : Domains) (p : Part) (x y : ℕ) (xs ys : List ℕ) (a : ℕ → ℤ) → xs ≡ y ∷ ys → y ≡ x → (IsCompleted d p x ys a → ⊥) → IsCompleted d p x xs a → ⊥
skip_fails d p x y xs ys a e s n c = n (skip_completed d p x y ys a s (subst (λ ts. IsCompleted d p x ts a) e c))

pub skip_changes : (x y : ℕ) (xs ys : List ℕ) (old new : List ℤ) → xs ≡ y ∷ ys → ChangesOnly ys x old new → ChangesOnly xs x old new
skip_changes x y xs ys old new e c = record {
  fixed = c.fixed;
  others = λ z n. c.others z (λ m. n (subst (λ ts. Contains ts z) (sym e) (member_there y ys z m)));
}

-- y, the first of the variables xs, gets the value w, after values before it were tried from the list old on
pub record IsTry (xs ys : List ℕ) (x y : ℕ) (w : ℤ) (old before now : List ℤ) : Type 0 where
  pub split : xs ≡ y ∷ ys
  pub other : y ≡ x → ⊥
  pub declared : y < length before
  pub changes : ChangesOnly xs x old before
  pub assigned : now ≡ slice_set before y w

module _ (xs ys : List ℕ) (x y : ℕ) (w : ℤ) (old before now : List ℤ) (t : IsTry xs ys x y w old before now) where
  try_here : listed now y ≡ w
  try_here = ap (λ vs. listed vs y) t.assigned ∙ get_or-set_same before y w (pos 0) t.declared

  try_other : (z : ℕ) → (z ≡ y → ⊥) → listed now z ≡ listed before z
  try_other z ne = ap (λ vs. listed vs z) t.assigned ∙ get_or-set_other before y z w (pos 0) ne

  try_outside : (z : ℕ) → (Contains xs z → ⊥) → listed now z ≡ listed old z
  try_outside z n =
      try_other z (λ e. n (subst (λ ts. Contains ts z) (sym t.split) (subst (λ u. Contains (y ∷ ys) u) (sym e) (member_here y ys))))
      ∙ t.changes.others z n

  try_fixed : listed now x ≡ listed old x
  try_fixed = try_other x (λ e. t.other (sym e)) ∙ t.changes.fixed

  try_rest : (z : ℕ) → (Contains ys z → ⊥) → (z ≡ y → ⊥) → Contains xs z → ⊥
  try_rest z n ne m = n (member_tail y ys z (λ e. ne (sym e)) (subst (λ ts. Contains ts z) t.split m))

  try_put : (z : ℕ) → (Contains ys z → ⊥) → listed now z ≡ put (listed old) y w z
  try_put z n = elim (nat_known z y) [
    | inl e ↦ subst (λ u. listed now u ≡ put (listed old) y w u) (sym e) (try_here ∙ sym (put_same (listed old) y w))
    | inr ne ↦ try_outside z (try_rest z n ne) ∙ sym (put_other (listed old) y w z ne)
  ]

  try_put_fixed : listed now x ≡ put (listed old) y w x
  try_put_fixed = try_fixed ∙ sym (put_other (listed old) y w x (λ e. t.other (sym e)))

  -- trying the other variables after it changes no more
  pub try_changes : (after : List ℤ) → ChangesOnly ys x now after → ChangesOnly xs x old after
  try_changes after c = record {
    fixed = c.fixed ∙ try_fixed;
    others = λ z n. c.others z (λ m. n (subst (λ ts. Contains ts z) (sym t.split) (member_there y ys z m))) ∙ try_outside z n;
  }

  pub try_holds : (d : Domains) (p : Part) → Has d y w → IsCompleted d p x ys (listed now) → IsCompleted d p x xs (listed old)
  try_holds d p has c =
      subst (λ ts. IsCompleted d p x ts (listed old)) (sym t.split)
      (completed_put d p x y ys (listed old) (put (listed old) y w) w t.other (put_is (listed old) y w) has
      (completed_agree d p x ys (listed now) (put (listed old) y w) try_put_fixed try_put c))

  pub try_fails : (d : Domains) (p : Part) → (IsCompleted d p x ys (listed now) → ⊥) → IsCompleted d p x ys (put (listed old) y w) → ⊥
  try_fails d p n c =
      n (completed_agree d p x ys (put (listed old) y w) (listed now) (sym try_put_fixed) (λ z m. sym (try_put z m)) c)

-- every value of y's domain was tried without success
pub tries_fail : (d : Domains) (p : Part) (x y : ℕ) (xs ys : List ℕ) (old vs : List ℤ) (n : ℕ) → xs ≡ y ∷ ys → (y ≡ x → ⊥) → vs ≡ values_of d y → length vs ≤ n → ((k : ℕ) (e : ℤ) → k < n → IsCompleted d p x ys (put (listed old) y (get_or vs k e)) → ⊥) → IsCompleted d p x xs (listed old) → ⊥
tries_fail d p x y xs ys old vs n e ne same full tried c =
    let r = completed_value d p x y ys (listed old) ne (subst (λ ts. IsCompleted d p x ts (listed old)) e c) in
    let has = subst (λ us. Contains us r.0) (sym same) r.1 in
    tried has.0 r.0 (omega (arith, has.1)) (subst (λ v. IsCompleted d p x ys (put (listed old) y v)) (sym has.2) (r.2 (put (listed old) y r.0) (put_is (listed old) y r.0)))

-- one more value was tried without success
pub tries_more : (d : Domains) (p : Part) (x y : ℕ) (ys : List ℕ) (old vs : List ℤ) (i : ℕ) (w : ℤ) → i < length vs → w ≡ get_or vs i w → (IsCompleted d p x ys (put (listed old) y w) → ⊥) → ((k : ℕ) (e : ℤ) → k < i → IsCompleted d p x ys (put (listed old) y (get_or vs k e)) → ⊥) → (k : ℕ) (e : ℤ) → k < i + 1 → IsCompleted d p x ys (put (listed old) y (get_or vs k e)) → ⊥
tries_more d p x y ys old vs i w lt at n tried k e le = elim (nat_known k i) [
  | inl s ↦ subst (λ v. IsCompleted d p x ys (put (listed old) y v) → ⊥) (at ∙ get_or_default vs i w e lt ∙ ap (λ j. get_or vs j e) (sym s)) n
  | inr ne ↦ tried k e (omega arith)
]

-- a try, from what the code knows of it
pub try_made : (xs : List ℕ) (x y : ℕ) (w : ℤ) (old before now : List ℤ) → 0 < length xs → y ≡ get_or xs 0 y → eqb y x ≡ false → y < length before → ChangesOnly xs x old before → now ≡ slice_set before y w → IsTry xs (take (length xs - 1) (drop 1 xs)) x y w old before now
try_made xs x y w old before now lt at ne declared changes assigned = record {
  split = open_split xs y lt at;
  other = eqb-false y x ne;
  declared = declared;
  changes = changes;
  assigned = assigned;
}

-- a try of all variables of the part decides the support of the value that was set
module _ (d : Domains) (p : Part) (x : ℕ) (v : ℤ) (scope : List ℕ) (old now : List ℤ) (is : scope ≡ scope_of p) (long : length d ≡ length old) (has : Has d x v) (set : now ≡ slice_set old x v) where
  set_gives : listed now x ≡ v
  set_gives = ap (λ vs. listed vs x) set ∙ get_or-set_same old x v (pos 0) (subst (λ n. x < n) long (has_declared d x v has))

  pub support_tried : IsCompleted d p x scope (listed now) → HasSupport d p x v
  support_tried c = support_completed d p x v (listed now) set_gives (λ m. has) (subst (λ ts. IsCompleted d p x ts (listed now)) is c)

  pub no_support_tried : (IsCompleted d p x scope (listed now) → ⊥) → HasSupport d p x v → ⊥
  no_support_tried n s = n (subst (λ ts. IsCompleted d p x ts (listed now)) (sym is) (completed_support d p x v (listed now) set_gives s))
