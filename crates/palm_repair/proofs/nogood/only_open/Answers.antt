use Rattle.std.proofs.Common.{◌<◌, get_or, length, sym, ap, ◌∙◌, subst}
use Rattle.palm_repair.proofs.Reading.{two_open}
use Rattle.palm_repair.proofs.nogood.only_open.Goals as goal

pub returns-then-is_some-clause-none : goal.returns-then-is_some-clause-none
returns-then-is_some-clause-none c =
    let i = c.loop-pair.pair-index in
    let x = c.pair-item.result in
    let same = c.pairs-pair-items.ensures in
    two_open c.args.values.now c.args.nogood.now.pairs i x c.loop-pair.left (subst (λ l. i < length l) same c.loop-pair-test.true) (c.pair-item.is ∙ ap (λ l. get_or l i x) same)
    c.loop-pair.invariant (sym c.is_some.ensures ∙ c.if-is_some.true) (sym c.is_shown.ensures ∙ c.if-not-is_shown.true)
