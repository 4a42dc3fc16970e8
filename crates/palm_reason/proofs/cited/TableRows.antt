-- The pairs of a row: which of them are there, and the row of an assignment.
use Rattle.std.proofs.Common.{◌≡◌, ℕ, ℤ, true, false, not, ◌&&◌, cond, List, [], ◌∷◌, map, take, filter, Contains, ◌⊎◌, inl, inr, refl, sym, ap, ◌∙◌, subst}
use Rattle.std.proofs.lemmas.Bool.{cases_Bool, both_ways, and_parts}
use Rattle.palm_base.proofs.cited.Members.{member_nil, member_here, member_there, member_cases, member_same, member_map, member_unmap}
use Rattle.palm_base.specs.declared.terms.Pair.{Pair}
use Rattle.palm_model.specs.Domains.{Domains, Has, values_of, is_among}
use Rattle.palm_model.specs.Removed.{is_listed}
use Rattle.palm_model.specs.Table.{are_there, first_missing, row_pairs}
use Rattle.palm_model.proofs.cited.Reasons.{listed_member, member_listed}
use Rattle.palm_model.proofs.cited.Supports.{among_member, member_among}

-- ---- the first entry that is not there

-- all entries are there, or one is the first that is not
pub missing_cases : (d : Domains) (ps : List Pair) → (are_there d ps ≡ true) × (first_missing d ps ≡ []) ⊎ ((p : Pair) × (first_missing d ps ≡ p ∷ []) × Contains ps p × (Has d p.var p.value → ⊥) × (are_there d ps ≡ false))
missing_cases d [] = inl (refl, refl)
missing_cases d (p ∷ ps) = elim (cases_Bool (is_listed (values_of d p.var) p.value)) [
  | inl t ↦ elim (missing_cases d ps) [
    | inl r ↦ inl (ap (λ b. b && are_there d ps) t ∙ r.0, goes_on t ∙ r.1)
    | inr r ↦ inr (r.0, goes_on t ∙ r.1, member_there p ps r.0 r.2, r.3, ap (λ b. b && are_there d ps) t ∙ r.4)
  ]
  | inr f ↦ inr (p, stops f, member_here p ps, (λ m. both_ways (is_listed (values_of d p.var) p.value) f (member_listed (values_of d p.var) p.value m)), ap (λ b. b && are_there d ps) f)
]
  where
    left : List Pair
    left = filter (λ (q : Pair). not (is_listed (values_of d q.var) q.value)) ps

    goes_on : is_listed (values_of d p.var) p.value ≡ true → first_missing d (p ∷ ps) ≡ first_missing d ps
    goes_on t = ap (λ b. take 1 (cond (not b) (p ∷ left) left)) t

    stops : is_listed (values_of d p.var) p.value ≡ false → first_missing d (p ∷ ps) ≡ p ∷ []
    stops f = ap (λ b. take 1 (cond (not b) (p ∷ left) left)) f

-- ---- the row of an assignment

-- the pair of a variable with its value
abbrev pub given : (ℕ → ℤ) → ℕ → Pair
given a y = record { var = y; value = a y }

pub entries_of_map : (a : ℕ → ℤ) (vars : List ℕ) → row_pairs vars (map a vars) ≡ map (given a) vars
entries_of_map a [] = refl
entries_of_map a (y ∷ ys) = ap (λ ps. given a y ∷ ps) (entries_of_map a ys)

there_each : (d : Domains) (ps : List Pair) → are_there d ps ≡ true → (p : Pair) → Contains ps p → Has d p.var p.value
there_each d [] h p m = absurd (member_nil p m)
there_each d (q ∷ ps) h p m =
    let t = and_parts (is_listed (values_of d q.var) q.value) (are_there d ps) h in
    elim (member_cases q ps p m) [
      | inl e ↦ subst (λ (r : Pair). Has d r.var r.value) e (listed_member (values_of d q.var) q.value t.0)
      | inr k ↦ there_each d ps t.1 p k
    ]

module _ (vars : List ℕ) (a : ℕ → ℤ) where
  pub among_gives : (x : ℕ) (v : ℤ) → is_among (row_pairs vars (map a vars)) x v ≡ true → Contains vars x × (a x ≡ v)
  among_gives x v h =
      let here : Pair = record { var = x; value = v } in
      let m = subst (λ ps. Contains ps here) (entries_of_map a vars) (among_member (row_pairs vars (map a vars)) x v h) in
      let r = member_unmap (given a) vars here m in
      let e : r.0 ≡ x = ap (λ (p : Pair). p.var) r.2 in
      (member_same vars r.0 x e r.1, sym (ap a e) ∙ ap (λ (p : Pair). p.value) r.2)

  pub gives_among : (x : ℕ) (v : ℤ) → Contains vars x → a x ≡ v → is_among (row_pairs vars (map a vars)) x v ≡ true
  gives_among x v m e =
      let here : ℤ → Pair = λ w. record { var = x; value = w } in
      member_among (row_pairs vars (map a vars)) x v
      (subst (λ ps. Contains ps (here v)) (sym (entries_of_map a vars)) (subst (λ w. Contains (map (given a) vars) (here w)) e (member_map (given a) vars x m)))

  pub there_gives : (d : Domains) → are_there d (row_pairs vars (map a vars)) ≡ true → (y : ℕ) → Contains vars y → Has d y (a y)
  there_gives d h y m =
      there_each d (row_pairs vars (map a vars)) h (given a y) (subst (λ ps. Contains ps (given a y)) (sym (entries_of_map a vars)) (member_map (given a) vars y m))

  -- an entry of the row is the value of one of the variables
  pub entry_gives : (p : Pair) → Contains (row_pairs vars (map a vars)) p → Contains vars p.var × (a p.var ≡ p.value)
  entry_gives p m =
      let r = member_unmap (given a) vars p (subst (λ ps. Contains ps p) (entries_of_map a vars) m) in
      let e : r.0 ≡ p.var = ap (λ (q : Pair). q.var) r.2 in
      (member_same vars r.0 p.var e r.1, sym (ap a e) ∙ ap (λ (q : Pair). q.value) r.2)

  pub gives_there : (d : Domains) → ((y : ℕ) → Contains vars y → Has d y (a y)) → are_there d (row_pairs vars (map a vars)) ≡ true
  gives_there d each = elim (missing_cases d (row_pairs vars (map a vars))) [
    | inl r ↦ r.0
    | inr r ↦ let g = entry_gives r.0 r.2 in absurd (r.3 (subst (λ w. Has d r.0.var w) g.1 (each r.0.var g.0)))
  ]
