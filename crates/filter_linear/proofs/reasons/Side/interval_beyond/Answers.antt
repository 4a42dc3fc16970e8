use Rattle.std.proofs.Common.{◌≡◌, take, drop, length, ap, ◌∙◌, arith}
use Rattle.std.proofs.lemmas.List.{take_all}
use Rattle.palm_base.proofs.cited.Telling.{tells_true, tells_false}
use Rattle.palm_domain.specs.Rows.{declared_values, initial_of, present_of}
use Rattle.filter_linear.proofs.Beyond.{low_beyond, high_beyond}
use Rattle.filter_linear.proofs.reasons.Side.interval_beyond.Goals as goal
use Rattle.filter_linear.proofs.reasons.Side.interval_beyond.Goals.{then-is_of_low_values, else-is_of_low_values}

pub returns-clause-values : goal.returns-clause-values
returns-clause-values c =
    let initial = initial_of c.args.store.now in
    let present = present_of c.args.store.now in
    let vs = declared_values c.args.store.now c.args.term.now.var in
    let first = c.if-is_of_low_values.first in
    elim c.if-is_of_low_values.branch [
      | then-is_of_low_values w ↦
          let lower = w.count_below.ensures.lower in
          ap (λ n. drop n (take first.1 vs)) (ap (λ p. p.0) w.first-is)
          ∙ ap (λ n. take n vs) (ap (λ p. p.1) w.first-is)
          ∙ lower.2
          ∙ low_beyond initial present c.args.term.now c.args.self lower.0 (tells_true _ c.is_of_low_values.result c.is_of_low_values.ensures w.if-is_of_low_values.true) lower.1
      | else-is_of_low_values w ↦
          let higher = w.count_up_to.ensures.higher in
          let whole : first.1 ≡ length vs = ap (λ p. p.1) w.first-is ∙ w.initial_count.ensures in
          ap (λ n. drop n (take first.1 vs)) (ap (λ p. p.0) w.first-is)
          ∙ ap (λ ws. drop w.count_up_to.result ws) (take_all first.1 vs (omega (arith, whole)))
          ∙ higher.2
          ∙ high_beyond initial present c.args.term.now c.requires.factor c.args.self higher.0 (tells_false _ c.is_of_low_values.result c.is_of_low_values.ensures w.if-is_of_low_values.false) higher.1
    ]
