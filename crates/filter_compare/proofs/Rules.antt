-- The reasons of comparisons as rules: the declared values of the other variable that stand in a relation to a shifted value.
use Rattle.std.proofs.Common.{◌≡◌, ℕ, ℤ, pos, ◌+ℤ◌, ◌-ℤ◌, Bool, not, int_lt, sym, ap, ◌∙◌, arith}
use Rattle.std.proofs.lemmas.Int.{ints}
use Rattle.palm_base.proofs.cited.Members.{filter_agree_members}
use Rattle.palm_filter.specs.Rules.{FitsAlways, declared_passing}
use Rattle.palm_filter.specs.declared.rule.Rule.{Rule}
use Rattle.palm_model.specs.Domains.{Domains, values_of}
use Rattle.palm_model.specs.Relation.{is_standing}
use Rattle.palm_model.specs.Removed.{pairs_of}
use Rattle.palm_model.specs.declared.constraint.Op.{Op}
use Rattle.filter_compare.specs.Comparison.{comparison_of, flipped_of, meeting_values, IsRuleOf}
use Rattle.filter_compare.specs.declared.compare.Comparison.TheVariants.{Variables}
use Rattle.filter_compare.specs.declared.compare.VarComparison.{VarComparison}
use Rattle.filter_compare.specs.declared.demand.Demand.{Demand}
use Rattle.filter_compare.proofs.Comparisons.{demand_at_left, demand_at_right, reason_meets}

-- ---- a number that is below another one is at most the one before it

not_above : (m n k : ℤ) → k ≡ n -ℤ pos 1 → not (int_lt k m) ≡ int_lt m n
not_above m n k e = grind (arith, ints)

not_below : (m n k : ℤ) → k ≡ n +ℤ pos 1 → not (int_lt m k) ≡ int_lt n m
not_below m n k e = grind (arith, ints)

module _ (initial : Domains) (y : ℕ) where
  same_passing : (p q : ℤ → Bool) → ((w : ℤ) → p w ≡ q w) → declared_passing initial y p ≡ declared_passing initial y q
  same_passing p q same = ap (pairs_of y) (filter_agree_members p q (values_of initial y) (λ w m. same w))

  pub lower_rule : (v by k : ℤ) → k ≡ by -ℤ pos 1 → declared_passing initial y (λ w. not (int_lt (v +ℤ k) w)) ≡ declared_passing initial y (λ w. int_lt w (v +ℤ by))
  lower_rule v by k e = same_passing _ _ (λ w. not_above w (v +ℤ by) (v +ℤ k) (omega (arith, ints, e)))

  pub higher_rule : (v by k : ℤ) → k ≡ by +ℤ pos 1 → declared_passing initial y (λ w. not (int_lt w (v +ℤ k))) ≡ declared_passing initial y (λ w. int_lt (v +ℤ by) w)
  higher_rule v by k e = same_passing _ _ (λ w. not_below w (v +ℤ by) (v +ℤ k) (omega (arith, ints, e)))

-- ---- what a comparison asks of the other variable, as a rule

module _ (c : VarComparison) (x : ℕ) (rule : Rule) where
  pub left_always : (o : Op) (by : ℤ) → x ≡ c.left → o ≡ flipped_of c.op → by ≡ pos 0 -ℤ c.offset → IsRuleOf c.right o by rule → FitsAlways (comparison_of (Variables c)) x rule
  left_always o by e turned same of initial present intervals v =
      of initial (comparison_of (Variables c)) intervals x v
      ∙ ap (λ r. declared_passing initial c.right (λ w. is_standing r w (v +ℤ by))) turned
      ∙ ap (λ n. declared_passing initial c.right (λ w. is_standing (flipped_of c.op) w n)) (omega (arith, ints, same))
      ∙ sym (ap (λ (q : Demand). pairs_of q.var (meeting_values (values_of initial q.var) q)) (demand_at_left c x v e))
      ∙ sym (reason_meets c x v initial)

  pub right_always : (by : ℤ) → (x ≡ c.left → ⊥) → by ≡ c.offset → IsRuleOf c.left c.op by rule → FitsAlways (comparison_of (Variables c)) x rule
  right_always by n same of initial present intervals v =
      of initial (comparison_of (Variables c)) intervals x v
      ∙ ap (λ k. declared_passing initial c.left (λ w. is_standing c.op w (v +ℤ k))) same
      ∙ sym (ap (λ (q : Demand). pairs_of q.var (meeting_values (values_of initial q.var) q)) (demand_at_right c x v n))
      ∙ sym (reason_meets c x v initial)
