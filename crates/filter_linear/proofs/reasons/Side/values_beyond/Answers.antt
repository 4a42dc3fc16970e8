use Rattle.std.proofs.Common.{◌≡◌, ◌+◌, ◌-◌, ℤ, List, take, drop, ap, sym, ◌∙◌, arith}
use Rattle.std.proofs.lemmas.List.{drop-take}
use Rattle.palm_domain.specs.Rows.{declared_values}
use Rattle.filter_linear.proofs.reasons.Side.values_beyond.Goals as goal

pub returns : goal.returns
returns c =
    let i = c.interval_beyond-interval.result in
    let vs = declared_values c.args.store.now c.args.term.now.var in
    let whole : i.first + (i.end - i.first) ≡ i.end = omega (arith, c.interval_beyond-interval.ensures.ordered) in
    ap (λ (ws : List ℤ). take (i.end - i.first) (drop i.first ws)) c.initial_values.ensures.values
    ∙ sym (drop-take i.first (i.end - i.first) vs)
    ∙ ap (λ n. drop i.first (take n vs)) whole
    ∙ c.interval_beyond-interval.ensures.values
