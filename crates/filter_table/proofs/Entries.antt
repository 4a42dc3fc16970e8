-- The entries of a row, from the first to the last.
use Rattle.std.proofs.Common.{◌≡◌, ℕ, zero, suc, ◌+◌, ◌-◌, ◌<◌, ℤ, pos, Bool, true, false, not, ◌&&◌, ◌||◌, cond, List, [], ◌∷◌, length, take, drop, filter, get_or, ne_eqb, eq-eqb, int_eq, inl, inr, refl, sym, ap, ◌∙◌, subst, arith}
use Rattle.std.proofs.lemmas.Bool.{cases_Bool, and_parts}
use Rattle.std.proofs.lemmas.Bool.Decides.{Decides-int_eq}
use Rattle.palm_base.proofs.cited.Members.{nat_known}
use Rattle.palm_base.proofs.cited.Telling.{tells_true, tells_false}
use Rattle.palm_base.specs.Tells.{Tells}
use Rattle.palm_base.specs.declared.terms.Pair.{Pair}
use Rattle.palm_model.specs.Domains.{Domains, Has, values_of, is_among}
use Rattle.palm_model.specs.Removed.{is_listed}
use Rattle.palm_model.specs.Table.{are_there, first_missing, row_pairs}
use Rattle.palm_model.proofs.cited.Reasons.{listed_member, member_listed}
use Rattle.filter_table.specs.Table.{HasEntry, entry_at}

-- the entry in a column, before the entries after it
entries_from : (vars : List ℕ) (row : List ℤ) (i : ℕ) → length row ≡ length vars → i < length vars → row_pairs (drop i vars) (drop i row) ≡ entry_at vars row i ∷ row_pairs (drop (suc i) vars) (drop (suc i) row)
entries_from [] row i long lt = absurd (omega arith)
entries_from (y ∷ ys) [] i long lt = absurd (omega (arith, long))
entries_from (y ∷ ys) (u ∷ row) zero long lt = refl
entries_from (y ∷ ys) (u ∷ row) (suc i) long lt = entries_from ys row i (omega (arith, long)) (omega arith)

entries_at : (vars : List ℕ) (row : List ℤ) (i : ℕ) → length row ≡ length vars → i < length vars → row_pairs (drop i vars) (drop i row) ≡ entry_at vars row i ∷ row_pairs (drop (i + 1) vars) (drop (i + 1) row)
entries_at vars row i long lt =
    let e : suc i ≡ i + 1 = omega arith in
    entries_from vars row i long lt ∙ ap (λ n. entry_at vars row i ∷ row_pairs (drop n vars) (drop n row)) e

-- a test of the entry in a column
pub entry_has : (d : Domains) (vars : List ℕ) (row : List ℤ) (i : ℕ) (p : Pair) (b : Bool) → p ≡ entry_at vars row i → Tells b (Has d p.var p.value) → b ≡ true → HasEntry d vars row i
entry_has d vars row i p b at tells t = subst (λ (q : Pair). Has d q.var q.value) at (tells_true (Has d p.var p.value) b tells t)

pub entry_lacks : (d : Domains) (vars : List ℕ) (row : List ℤ) (i : ℕ) (p : Pair) (b : Bool) → p ≡ entry_at vars row i → Tells b (Has d p.var p.value) → b ≡ false → HasEntry d vars row i → ⊥
entry_lacks d vars row i p b at tells f h = tells_false (Has d p.var p.value) b tells f (subst (λ (q : Pair). Has d q.var q.value) (sym at) h)

-- ---- a walk over the entries: it answers at the first that fails, or goes on

module _ (vars : List ℕ) (row : List ℤ) (long : length row ≡ length vars) (d : Domains) (i : ℕ) (lt : i < length vars) where
  abbrev y : ℕ
  y = get_or vars i 0

  abbrev w : ℤ
  w = get_or row i (pos 0)

  abbrev rest : List Pair
  rest = row_pairs (drop (i + 1) vars) (drop (i + 1) row)

  abbrev left : List Pair
  left = filter (λ (p : Pair). not (is_listed (values_of d p.var) p.value)) rest

  there_at : are_there d (row_pairs (drop i vars) (drop i row)) ≡ (is_listed (values_of d y) w && are_there d rest)
  there_at = ap (are_there d) (entries_at vars row i long lt)

  not_listed : (HasEntry d vars row i → ⊥) → is_listed (values_of d y) w ≡ false
  not_listed n = elim (cases_Bool (is_listed (values_of d y) w)) [
    | inl t ↦ absurd (n (listed_member (values_of d y) w t))
    | inr f ↦ f
  ]

  pub there_fails : are_there d (row_pairs vars row) ≡ are_there d (row_pairs (drop i vars) (drop i row)) → (HasEntry d vars row i → ⊥) → false ≡ are_there d (row_pairs vars row)
  there_fails so_far n = sym (so_far ∙ there_at ∙ ap (λ b. b && are_there d rest) (not_listed n))

  pub there_later : are_there d (row_pairs vars row) ≡ are_there d (row_pairs (drop i vars) (drop i row)) → HasEntry d vars row i → are_there d (row_pairs vars row) ≡ are_there d (row_pairs (drop (i + 1) vars) (drop (i + 1) row))
  there_later so_far m = so_far ∙ there_at ∙ ap (λ b. b && are_there d rest) (member_listed (values_of d y) w m)

  missing_at : first_missing d (row_pairs (drop i vars) (drop i row)) ≡ take 1 (cond (not (is_listed (values_of d y) w)) (entry_at vars row i ∷ left) left)
  missing_at = ap (first_missing d) (entries_at vars row i long lt)

  pub missing_here : first_missing d (row_pairs vars row) ≡ first_missing d (row_pairs (drop i vars) (drop i row)) → (HasEntry d vars row i → ⊥) → first_missing d (row_pairs vars row) ≡ entry_at vars row i ∷ []
  missing_here so_far n = so_far ∙ missing_at ∙ ap (λ b. take 1 (cond (not b) (entry_at vars row i ∷ left) left)) (not_listed n)

  pub missing_later : first_missing d (row_pairs vars row) ≡ first_missing d (row_pairs (drop i vars) (drop i row)) → HasEntry d vars row i → first_missing d (row_pairs vars row) ≡ first_missing d (row_pairs (drop (i + 1) vars) (drop (i + 1) row))
  missing_later so_far m = so_far ∙ missing_at ∙ ap (λ b. take 1 (cond (not b) (entry_at vars row i ∷ left) left)) (member_listed (values_of d y) w m)

-- ---- the entries of all columns

there_each : (d : Domains) (vars : List ℕ) (row : List ℤ) → length row ≡ length vars → ((c : ℕ) → c < length vars → HasEntry d vars row c) → are_there d (row_pairs vars row) ≡ true
there_each d [] row long each = refl
there_each d (y ∷ ys) [] long each = absurd (omega (arith, long))
there_each d (y ∷ ys) (w ∷ row) long each =
    ap (λ b. b && are_there d (row_pairs ys row)) (member_listed (values_of d y) w (each 0 (omega arith)))
    ∙ there_each d ys row (omega (arith, long)) (λ c lt. each (suc c) (omega arith))

pub there_column : (d : Domains) (vars : List ℕ) (row : List ℤ) → length row ≡ length vars → are_there d (row_pairs vars row) ≡ true → (c : ℕ) → c < length vars → HasEntry d vars row c
there_column d [] row long h c lt = absurd (omega arith)
there_column d (y ∷ ys) [] long h c lt = absurd (omega (arith, long))
there_column d (y ∷ ys) (w ∷ row) long h zero lt = listed_member (values_of d y) w (and_parts (is_listed (values_of d y) w) (are_there d (row_pairs ys row)) h).0
there_column d (y ∷ ys) (w ∷ row) long h (suc c) lt =
    there_column d ys row (omega (arith, long)) (and_parts (is_listed (values_of d y) w) (are_there d (row_pairs ys row)) h).1 c (omega arith)

-- two columns, of which one entry is there
module _ (d : Domains) (vars : List ℕ) (row : List ℤ) (long : length row ≡ length vars) (two : length vars ≡ 2) (own : ℕ) (lt : own < length vars) (has : HasEntry d vars row own) where
  pub two_there : HasEntry d vars row (1 - own) → are_there d (row_pairs vars row) ≡ true
  two_there other = there_each d vars row long (λ c below. elim (nat_known c own) [
    | inl e ↦ subst (HasEntry d vars row) (sym e) has
    | inr n ↦ let e : 1 - own ≡ c = omega (arith, n) in subst (HasEntry d vars row) e other
  ])

  pub two_not : (HasEntry d vars row (1 - own) → ⊥) → are_there d (row_pairs vars row) ≡ false
  two_not n = elim (cases_Bool (are_there d (row_pairs vars row))) [
    | inl t ↦ absurd (n (there_column d vars row long t (1 - own) (omega arith)))
    | inr f ↦ f
  ]

-- ---- the first entry that is not there

pub is_first : (d : Domains) (vars : List ℕ) (row : List ℤ) (c : ℕ) → first_missing d (row_pairs vars row) ≡ entry_at vars row c ∷ [] → true ≡ is_among (first_missing d (row_pairs vars row)) (get_or vars c 0) (get_or row c (pos 0))
is_first d vars row c e =
    let y = get_or vars c 0 in
    let w = get_or row c (pos 0) in
    sym (ap (λ ps. is_among ps y w) e ∙ ap (λ b. (b && int_eq w w) || false) (eq-eqb y y refl) ∙ ap (λ b. b || false) ((Decides-int_eq w w).1 refl))

pub is_not_first : (d : Domains) (vars : List ℕ) (row : List ℤ) (b c : ℕ) → (get_or vars b 0 ≡ get_or vars c 0 → ⊥) → first_missing d (row_pairs vars row) ≡ entry_at vars row b ∷ [] → false ≡ is_among (first_missing d (row_pairs vars row)) (get_or vars c 0) (get_or row c (pos 0))
is_not_first d vars row b c n e =
    let y = get_or vars c 0 in
    let w = get_or row c (pos 0) in
    sym (ap (λ ps. is_among ps y w) e ∙ ap (λ t. (t && int_eq (get_or row b (pos 0)) w) || false) (ne_eqb (get_or vars b 0) y n))
