-- The domains without one more pair.
use Rattle.std.proofs.Common.{◌≡◌, ℕ, ◌<◌, Bool, true, false, not, ◌&&◌, List, [], ◌∷◌, ◌++◌, length, filter, cond, Contains, ℤ, int_eq, inl, inr, refl, sym, ap, ◌∙◌, subst, ext_get_or, length-set}
use Rattle.std.specs.Prelude.{slice_set}
use Rattle.std.proofs.lemmas.Bool.{false≢true, and_parts, and_from, not-true}
use Rattle.std.proofs.lemmas.Bool.Decides.{Decides-int_eq}
use Rattle.std.proofs.lemmas.List.Elements.{Contains-append_cases, Contains-append_left, Contains-append_right}
use Rattle.palm_base.specs.declared.terms.Pair.{Pair}
use Rattle.palm_base.proofs.cited.Members.{member_here, member_single, filter_agree_members, nat_known}
use Rattle.palm_domain.specs.Rows.{values_without}
use Rattle.palm_model.specs.Domains.{Domains, values_of, is_among, without}
use Rattle.palm_model.proofs.cited.Narrowing.{values_of_set, values_of_set_other}
use Rattle.palm_model.proofs.cited.Supports.{not_true}
use Rattle.palm_model.proofs.cited.Without.{pair_of, values_of_without, length_without, among_member, member_among}

same_tests : (a b : Bool) → (a ≡ true → b ≡ true) → (b ≡ true → a ≡ true) → a ≡ b
same_tests true b to from = sym (to refl)
same_tests false true to from = from refl
same_tests false false to from = refl

-- the pair is none of the pairs, as a test
abbrev free : List Pair → ℕ → ℤ → Bool
free pairs x v = not (is_among pairs x v)

free_none : (pairs : List Pair) (x : ℕ) (v : ℤ) → free pairs x v ≡ true → Contains pairs (pair_of x v) → ⊥
free_none pairs x v h m = false≢true (sym (not-true (is_among pairs x v) h) ∙ member_among pairs x v m)

none_free : (pairs : List Pair) (x : ℕ) (v : ℤ) → (Contains pairs (pair_of x v) → ⊥) → free pairs x v ≡ true
none_free pairs x v n = not_true (is_among pairs x v) (λ t. n (among_member pairs x v t))

filter_twice : (s t u : ℤ → Bool) → ((v : ℤ) → s v ≡ (t v && u v)) → (vs : List ℤ) → filter s vs ≡ filter u (filter t vs)
filter_twice s t u same [] = refl
filter_twice s t u same (v ∷ vs) =
    ap (λ b. cond b (v ∷ filter s vs) (filter s vs)) (same v)
    ∙ ap (λ ws. cond (t v && u v) (v ∷ ws) ws) (filter_twice s t u same vs)
    ∙ by_tests (t v) (u v) refl
  where
    by_tests : (a b : Bool) → u v ≡ b → cond (a && b) (v ∷ filter u (filter t vs)) (filter u (filter t vs)) ≡ filter u (cond a (v ∷ filter t vs) (filter t vs))
    by_tests true true e = sym (ap (λ c. cond c (v ∷ filter u (filter t vs)) (filter u (filter t vs))) e)
    by_tests true false e = sym (ap (λ c. cond c (v ∷ filter u (filter t vs)) (filter u (filter t vs))) e)
    by_tests false b e = refl

-- at the pair's variable its value is free no more
free_here : (pairs : List Pair) (p : Pair) (v : ℤ) → free (pairs ++ p ∷ []) p.var v ≡ (free pairs p.var v && not (int_eq v p.value))
free_here pairs p v = same_tests (free (pairs ++ p ∷ []) p.var v) (free pairs p.var v && not (int_eq v p.value))
    (λ h. let none = free_none (pairs ++ p ∷ []) p.var v h in
    and_from (free pairs p.var v) (not (int_eq v p.value))
    (none_free pairs p.var v (λ m. none (Contains-append_left pairs (p ∷ []) (pair_of p.var v) m)))
    (not_true (int_eq v p.value) (λ t.
    let e = (Decides-int_eq v p.value).0 t in
    none (Contains-append_right pairs (p ∷ []) (pair_of p.var v) (subst (λ w. Contains (p ∷ []) (pair_of p.var w)) (sym e) (member_here p []))))))
    (λ h. let both = and_parts (free pairs p.var v) (not (int_eq v p.value)) h in
    none_free (pairs ++ p ∷ []) p.var v (λ m. elim (Contains-append_cases pairs (p ∷ []) (pair_of p.var v) m) [
      | inl k ↦ free_none pairs p.var v both.0 k
      | inr k ↦ false≢true (sym (not-true (int_eq v p.value) both.1) ∙ (Decides-int_eq v p.value).1 (sym (ap (λ (q : Pair). q.value) (member_single p (pair_of p.var v) k))))
    ]))

-- at another variable nothing changes
free_there : (pairs : List Pair) (p : Pair) (x : ℕ) (v : ℤ) → (x ≡ p.var → ⊥) → free (pairs ++ p ∷ []) x v ≡ free pairs x v
free_there pairs p x v ne = same_tests (free (pairs ++ p ∷ []) x v) (free pairs x v)
    (λ h. none_free pairs x v (λ m. free_none (pairs ++ p ∷ []) x v h (Contains-append_left pairs (p ∷ []) (pair_of x v) m)))
    (λ h. none_free (pairs ++ p ∷ []) x v (λ m. elim (Contains-append_cases pairs (p ∷ []) (pair_of x v) m) [
      | inl k ↦ free_none pairs x v h k
      | inr k ↦ ne (sym (ap (λ (q : Pair). q.var) (member_single p (pair_of x v) k)))
    ]))

at_var : (d : Domains) (pairs : List Pair) (p : Pair) → p.var < length d
    → values_of (without d (pairs ++ p ∷ [])) p.var ≡ values_of (slice_set (without d pairs) p.var (values_without p.value (values_of (without d pairs) p.var))) p.var
at_var d pairs p lt =
    let vs = values_of d p.var in
    let left = values_of (without d pairs) p.var in
    values_of_without d (pairs ++ p ∷ []) p.var
    ∙ filter_twice (free (pairs ++ p ∷ []) p.var) (free pairs p.var) (λ v. not (int_eq v p.value)) (free_here pairs p) vs
    ∙ ap (values_without p.value) (sym (values_of_without d pairs p.var))
    ∙ sym (values_of_set (without d pairs) p.var (values_without p.value left) (subst (λ n. p.var < n) (sym (length_without d pairs)) lt))

at_other : (d : Domains) (pairs : List Pair) (p : Pair) (x : ℕ) → (x ≡ p.var → ⊥)
    → values_of (without d (pairs ++ p ∷ [])) x ≡ values_of (slice_set (without d pairs) p.var (values_without p.value (values_of (without d pairs) p.var))) x
at_other d pairs p x ne =
    let left = values_of (without d pairs) p.var in
    values_of_without d (pairs ++ p ∷ []) x
    ∙ filter_agree_members (free (pairs ++ p ∷ []) x) (free pairs x) (values_of d x) (λ v m. free_there pairs p x v ne)
    ∙ sym (values_of_without d pairs x)
    ∙ sym (values_of_set_other (without d pairs) p.var (values_without p.value left) x ne)

pub without_push : (d : Domains) (pairs : List Pair) (p : Pair) → p.var < length d
    → without d (pairs ++ p ∷ []) ≡ slice_set (without d pairs) p.var (values_without p.value (values_of (without d pairs) p.var))
without_push d pairs p lt =
    let after = slice_set (without d pairs) p.var (values_without p.value (values_of (without d pairs) p.var)) in
    ext_get_or [] (without d (pairs ++ p ∷ [])) after
    (length_without d (pairs ++ p ∷ []) ∙ sym (length_without d pairs) ∙ sym (length-set (without d pairs) p.var (values_without p.value (values_of (without d pairs) p.var))))
    (λ x within. elim (nat_known x p.var) [
      | inl e ↦ subst (λ y. values_of (without d (pairs ++ p ∷ [])) y ≡ values_of after y) (sym e) (at_var d pairs p lt)
      | inr ne ↦ at_other d pairs p x ne
    ])
