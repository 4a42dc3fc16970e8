-- Support in a sum, by the least and the greatest that it can be.
use Rattle.std.proofs.Common.{◌≡◌, ℕ, List, [], ◌∷◌, Contains, All, ℤ, ◌<ℤ◌, ◌≤ℤ◌, ◌⊎◌, inl, inr, refl, sym, ap, ◌∙◌, subst, arith}
use Rattle.std.proofs.lemmas.Int.{ints, by_lt_z}
use Rattle.std.proofs.lemmas.List.Elements.{All-contains}
use Rattle.palm_base.proofs.cited.Members.{member_here, member_there, member_cases, member_single, member_map, all_members, int_known}
use Rattle.palm_model.specs.Domains.{Domains, Has}
use Rattle.palm_model.specs.Constraint.{Distinct, scope}
use Rattle.palm_model.specs.Relation.{Stands}
use Rattle.palm_model.specs.Linear.{term_vars, linear_parts, least_total, greatest_total}
use Rattle.palm_model.specs.Support.{HasSupport, IsSupported, LacksSupport}
use Rattle.palm_model.specs.declared.constraint.Con.{Con}
use Rattle.palm_model.specs.declared.constraint.Con.TheVariants.{Linear}
use Rattle.palm_model.specs.declared.constraint.Op.{Op}
use Rattle.palm_model.specs.declared.constraint.Op.TheVariants.{Eq, Ne, Lt, Le, Gt, Ge}
use Rattle.palm_model.specs.declared.constraint.Term.{Term}
use Rattle.palm_model.specs.declared.part.Part.TheVariants.{Linear as LinearPart}
use Rattle.palm_model.proofs.cited.Supports.{supported_by_part, lacking_by_part}
use Rattle.palm_reason.proofs.cited.LinearReason.{AreFilledBeside, least_support, greatest_support, least_bounds, greatest_bounds, lacking_part}
use Rattle.filter_linear.specs.Linear.{CanBeMet, IsEnd, IsFilledBeside, IsMetAt, IsMetWithin, IsSpan, end_total, linear_of, span_of}
use Rattle.filter_linear.specs.declared.end.End.{End}
use Rattle.filter_linear.specs.declared.end.End.TheVariants.{Least, Greatest}
use Rattle.filter_linear.specs.declared.rule.LinearRule.{LinearRule}
use Rattle.filter_linear.specs.declared.span.Span.{Span}

module _ (d : Domains) (terms : List Term) (x : ℕ) (v : ℤ) where
  abbrev least : ℤ
  least = least_total d terms x v

  abbrev greatest : ℤ
  greatest = greatest_total d terms x v

  -- ---- the whole constraint

  each_filled : All (IsFilledBeside d x) terms → AreFilledBeside d terms x
  each_filled filled t m n = All-contains (IsFilledBeside d x) terms t filled m n

  abbrev pub whole : Span
  whole = record { least = least; greatest = greatest }

  pub whole_is : (s : Span) → IsSpan d terms x v s → s ≡ whole
  whole_is s is =
      let by_least : ℤ → Span = λ z. record { least = z; greatest = s.greatest } in
      let by_greatest : ℤ → Span = λ z. record { least = least; greatest = z } in
      ap by_least is.least ∙ ap by_greatest is.greatest

  pub met_supported : (op : Op) (bound : ℤ) → Distinct (term_vars terms) → Has d x v → All (IsFilledBeside d x) terms → IsMetWithin op bound whole → IsSupported d (Linear terms op bound) x v
  met_supported Eq bound distinct has filled met = record {
    each = λ p m over. elim (member_cases (LinearPart terms Le bound) (LinearPart terms Ge bound ∷ []) p m) [
      | inl e ↦ subst (λ q. HasSupport d q x v) e (least_support d terms x v Le bound distinct has (each_filled filled) met.0)
      | inr k ↦ subst (λ q. HasSupport d q x v) (member_single (LinearPart terms Ge bound) p k) (greatest_support d terms x v Ge bound distinct has (each_filled filled) met.1)
    ];
  }
  met_supported Ne bound distinct has filled met =
      supported_by_part d (Linear terms Ne bound) (LinearPart terms Ne bound) x v refl (elim (int_known least bound) [
        | inl e ↦ greatest_support d terms x v Ne bound distinct has (each_filled filled) (met e)
        | inr n ↦ least_support d terms x v Ne bound distinct has (each_filled filled) n
      ])
  met_supported Lt bound distinct has filled met = supported_by_part d (Linear terms Lt bound) (LinearPart terms Lt bound) x v refl (least_support d terms x v Lt bound distinct has (each_filled filled) met)
  met_supported Le bound distinct has filled met = supported_by_part d (Linear terms Le bound) (LinearPart terms Le bound) x v refl (least_support d terms x v Le bound distinct has (each_filled filled) met)
  met_supported Gt bound distinct has filled met = supported_by_part d (Linear terms Gt bound) (LinearPart terms Gt bound) x v refl (greatest_support d terms x v Gt bound distinct has (each_filled filled) met)
  met_supported Ge bound distinct has filled met = supported_by_part d (Linear terms Ge bound) (LinearPart terms Ge bound) x v refl (greatest_support d terms x v Ge bound distinct has (each_filled filled) met)

  -- a sum that is to be at most or at least the bound, and is not
  pub too_high : (bound : ℤ) → bound <ℤ least → HasSupport d (LinearPart terms Le bound) x v → ⊥
  too_high bound lt s = absurd (omega (arith, ints, lt, least_bounds d terms x v Le bound s, s.holds))

  pub too_low : (bound : ℤ) → greatest <ℤ bound → HasSupport d (LinearPart terms Ge bound) x v → ⊥
  too_low bound lt s = absurd (omega (arith, ints, lt, greatest_bounds d terms x v Ge bound s, s.holds))

  -- the parts that say at most and at least
  pub high_part : (op : Op) (bound : ℤ) → (op ≡ Eq) ⊎ (op ≡ Le) → Contains (linear_parts terms op bound) (LinearPart terms Le bound)
  high_part op bound is = elim is [
    | inl e ↦ subst (λ o. Contains (linear_parts terms o bound) (LinearPart terms Le bound)) (sym e) (member_here (LinearPart terms Le bound) (LinearPart terms Ge bound ∷ []))
    | inr e ↦ subst (λ o. Contains (linear_parts terms o bound) (LinearPart terms Le bound)) (sym e) (member_here (LinearPart terms Le bound) [])
  ]

  pub low_part : (op : Op) (bound : ℤ) → (op ≡ Eq) ⊎ (op ≡ Ge) → Contains (linear_parts terms op bound) (LinearPart terms Ge bound)
  low_part op bound is = elim is [
    | inl e ↦ subst (λ o. Contains (linear_parts terms o bound) (LinearPart terms Ge bound)) (sym e) (member_there (LinearPart terms Le bound) (LinearPart terms Ge bound ∷ []) (LinearPart terms Ge bound) (member_here (LinearPart terms Ge bound) []))
    | inr e ↦ subst (λ o. Contains (linear_parts terms o bound) (LinearPart terms Ge bound)) (sym e) (member_here (LinearPart terms Ge bound) [])
  ]

  unmet_lacking : (op : Op) (bound : ℤ) → Contains (term_vars terms) x → (IsMetWithin op bound whole → ⊥) → LacksSupport d (Linear terms op bound) x v
  unmet_lacking Eq bound over unmet =
      by_lt_z bound least
      (λ lt. lacking_part d terms x v Eq Le bound (high_part Eq bound (inl refl)) over (too_high bound lt))
      (λ le. by_lt_z greatest bound
      (λ lt. lacking_part d terms x v Eq Ge bound (low_part Eq bound (inl refl)) over (too_low bound lt))
      (λ ge. absurd (unmet (le, ge))))
  unmet_lacking Ne bound over unmet =
      lacking_by_part d (Linear terms Ne bound) (LinearPart terms Ne bound) x v refl over
      (λ s. unmet (λ e f. s.holds (omega (arith, ints, e, f, least_bounds d terms x v Ne bound s, greatest_bounds d terms x v Ne bound s))))
  unmet_lacking Lt bound over unmet = lacking_by_part d (Linear terms Lt bound) (LinearPart terms Lt bound) x v refl over (λ s. unmet (omega (arith, ints, s.holds, least_bounds d terms x v Lt bound s)))
  unmet_lacking Le bound over unmet = lacking_by_part d (Linear terms Le bound) (LinearPart terms Le bound) x v refl over (λ s. unmet (omega (arith, ints, s.holds, least_bounds d terms x v Le bound s)))
  unmet_lacking Gt bound over unmet = lacking_by_part d (Linear terms Gt bound) (LinearPart terms Gt bound) x v refl over (λ s. unmet (omega (arith, ints, s.holds, greatest_bounds d terms x v Gt bound s)))
  unmet_lacking Ge bound over unmet = lacking_by_part d (Linear terms Ge bound) (LinearPart terms Ge bound) x v refl over (λ s. unmet (omega (arith, ints, s.holds, greatest_bounds d terms x v Ge bound s)))

  -- a sum has some part
  some_part : (op : Op) (bound : ℤ) → (o : Op) × Contains (linear_parts terms op bound) (LinearPart terms o bound)
  some_part Eq bound = (Le, member_here (LinearPart terms Le bound) (LinearPart terms Ge bound ∷ []))
  some_part Ne bound = (Ne, member_here (LinearPart terms Ne bound) [])
  some_part Lt bound = (Lt, member_here (LinearPart terms Lt bound) [])
  some_part Le bound = (Le, member_here (LinearPart terms Le bound) [])
  some_part Gt bound = (Gt, member_here (LinearPart terms Gt bound) [])
  some_part Ge bound = (Ge, member_here (LinearPart terms Ge bound) [])

  support_fills : (op : Op) (bound : ℤ) → HasSupport d (LinearPart terms op bound) x v → All (IsFilledBeside d x) terms
  support_fills op bound s = all_members (IsFilledBeside d x) terms (λ t m n.
      let h = s.within t.var (member_map (λ (u : Term). u.var) terms t m) in omega (arith, h.1))

-- ---- a filter's answers

-- whether a sum within the span can stand in the relation is known
met_known : (op : Op) (bound : ℤ) (s : Span) → IsMetWithin op bound s ⊎ (IsMetWithin op bound s → ⊥)
met_known Eq bound s = by_lt_z bound s.least (λ lt. inr (λ m. omega (arith, ints, lt, m.0))) (λ le. by_lt_z s.greatest bound (λ lt. inr (λ m. omega (arith, ints, lt, m.1))) (λ ge. inl (le, ge)))
met_known Ne bound s = elim (int_known s.least bound) [
  | inl e ↦ elim (int_known s.greatest bound) [ inl f ↦ inr (λ m. m e f) | inr n ↦ inl (λ _ f. n f) ]
  | inr n ↦ inl (λ e _. n e)
]
met_known Lt bound s = by_lt_z s.least bound (λ lt. inl lt) (λ le. inr (λ m. omega (arith, ints, le, m)))
met_known Le bound s = by_lt_z bound s.least (λ lt. inr (λ m. omega (arith, ints, lt, m))) (λ le. inl le)
met_known Gt bound s = by_lt_z bound s.greatest (λ lt. inl lt) (λ le. inr (λ m. omega (arith, ints, le, m)))
met_known Ge bound s = by_lt_z s.greatest bound (λ lt. inr (λ m. omega (arith, ints, lt, m))) (λ le. inl le)

module _ (d : Domains) (rule : LinearRule) (x : ℕ) (v : ℤ) where
  pub met_by_span : (s : Span) → IsSpan d rule.terms x v s → IsMetWithin rule.op rule.bound s → CanBeMet d rule x v
  met_by_span s span met = record { filled = span.filled; met = subst (λ z. IsMetWithin rule.op rule.bound z) (whole_is d rule.terms x v s span) met }

  pub unmet_by_span : (s : Span) → IsSpan d rule.terms x v s → (IsMetWithin rule.op rule.bound s → ⊥) → CanBeMet d rule x v → ⊥
  unmet_by_span s span unmet can = unmet (subst (λ z. IsMetWithin rule.op rule.bound z) (sym (whole_is d rule.terms x v s span)) can.met)

  met_at : (end : End) (n : ℤ) → IsMetAt rule.op end → n ≡ end_total end d rule.terms x v → Stands rule.op n rule.bound → IsMetWithin rule.op rule.bound (span_of d rule.terms x v)
  met_at Least n (inl o) is met = subst (λ p. IsMetWithin p rule.bound (span_of d rule.terms x v)) (sym o) (subst (λ z. z <ℤ rule.bound) is (subst (λ p. Stands p n rule.bound) o met))
  met_at Least n (inr o) is met = subst (λ p. IsMetWithin p rule.bound (span_of d rule.terms x v)) (sym o) (subst (λ z. z ≤ℤ rule.bound) is (subst (λ p. Stands p n rule.bound) o met))
  met_at Greatest n (inl o) is met = subst (λ p. IsMetWithin p rule.bound (span_of d rule.terms x v)) (sym o) (subst (λ z. rule.bound <ℤ z) is (subst (λ p. Stands p n rule.bound) o met))
  met_at Greatest n (inr o) is met = subst (λ p. IsMetWithin p rule.bound (span_of d rule.terms x v)) (sym o) (subst (λ z. rule.bound ≤ℤ z) is (subst (λ p. Stands p n rule.bound) o met))

  stands_at : (end : End) (n : ℤ) → IsMetAt rule.op end → n ≡ end_total end d rule.terms x v → IsMetWithin rule.op rule.bound (span_of d rule.terms x v) → Stands rule.op n rule.bound
  stands_at Least n (inl o) is met = subst (λ p. Stands p n rule.bound) (sym o) (subst (λ z. z <ℤ rule.bound) (sym is) (subst (λ p. IsMetWithin p rule.bound (span_of d rule.terms x v)) o met))
  stands_at Least n (inr o) is met = subst (λ p. Stands p n rule.bound) (sym o) (subst (λ z. z ≤ℤ rule.bound) (sym is) (subst (λ p. IsMetWithin p rule.bound (span_of d rule.terms x v)) o met))
  stands_at Greatest n (inl o) is met = subst (λ p. Stands p n rule.bound) (sym o) (subst (λ z. rule.bound <ℤ z) (sym is) (subst (λ p. IsMetWithin p rule.bound (span_of d rule.terms x v)) o met))
  stands_at Greatest n (inr o) is met = subst (λ p. Stands p n rule.bound) (sym o) (subst (λ z. rule.bound ≤ℤ z) (sym is) (subst (λ p. IsMetWithin p rule.bound (span_of d rule.terms x v)) o met))

  pub met_by_end : (end : End) (n : ℤ) → IsMetAt rule.op end → IsEnd end d rule.terms x v n → Stands rule.op n rule.bound → CanBeMet d rule x v
  met_by_end end n at is met = record { filled = is.filled; met = met_at end n at is.is met }

  pub unmet_by_end : (end : End) (n : ℤ) → IsMetAt rule.op end → IsEnd end d rule.terms x v n → (Stands rule.op n rule.bound → ⊥) → CanBeMet d rule x v → ⊥
  unmet_by_end end n at is unmet can = unmet (stands_at end n at is.is can.met)

  -- for the filter's meaning m
  pub met_answers : (m : Con) → linear_of rule ≡ m → Distinct (scope m) → Has d x v → CanBeMet d rule x v → IsSupported d m x v
  met_answers m is distinct has can =
      subst (λ k. IsSupported d k x v) is (met_supported d rule.terms x v rule.op rule.bound (subst (λ k. Distinct (scope k)) (sym is) distinct) has can.filled can.met)

  pub unmet_answers : (m : Con) → linear_of rule ≡ m → Contains (scope m) x → (CanBeMet d rule x v → ⊥) → LacksSupport d m x v
  unmet_answers m is over unmet =
      let over_terms : Contains (term_vars rule.terms) x = subst (λ k. Contains (scope k) x) (sym is) over in
      subst (λ k. LacksSupport d k x v) is (elim (met_known rule.op rule.bound (span_of d rule.terms x v)) [
        | inl met ↦
            let p = some_part d rule.terms x v rule.op rule.bound in
            lacking_part d rule.terms x v rule.op p.0 rule.bound p.1 over_terms (λ s. unmet (record { filled = support_fills d rule.terms x v p.0 rule.bound s; met = met }))
        | inr n ↦ unmet_lacking d rule.terms x v rule.op rule.bound over_terms n
      ])
