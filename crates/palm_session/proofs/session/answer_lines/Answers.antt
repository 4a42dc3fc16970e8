use Rattle.std.proofs.Common.{Option, arith, drop, inl, refl, rules, ◌∙◌}
use Rattle.palm_engine.specs.Following.{Hearing, OrderFollows}
use Rattle.palm_search.specs.Following.{GuideFollows, Moment}
use Rattle.palm_session.proofs.cited.FeedLemmas.{so_far_none, so_far_more, feeds_end, feeds_part}
use Rattle.palm_session.proofs.LedTexts.{lines_none, lines_more, lines_end}
use Rattle.palm_session.proofs.Spending.{counts_add, spends_more}
use Rattle.palm_session.proofs.session.answer_lines.Given as given
use Rattle.palm_session.proofs.session.answer_lines.Goals as goal

-- the guide's own relations, and the order's
abbrev guiding : (g : given.Over) → Moment → Option g.row.G.Denot → Option g.row.G.Denot → Type 0
guiding g = GuideFollows g.G.Guide.answers g.G.Guide.hears g.G.Guide.state

abbrev ordering : (g : given.Over) → Hearing → Option g.row.O.Denot → Option g.row.O.Denot → Type 0
ordering g = OrderFollows g.O.Order.answers g.O.Order.hears g.O.Order.state

pub loop-end-init : goal.loop-end-init
loop-end-init g c = (omega arith, refl, so_far_none _ _ _ _ (omega arith), record { later = omega arith; checks = inl (refl, refl) }, c.requires, refl, refl, lines_none _ _ _ _ _ _)

pub loop-end-preserved : goal.loop-end-preserved
loop-end-preserved g c =
    let feed = c.in-Some.ensures.found in
    let one = rw (c.in-Ok-More.field-0-is, c.without_return-line.ensures) at c.in-Ok-More.ensures.answers in (
      omega (arith, feed.within),
      c.in-Ok-More.ensures.counted ∙ c.loop-end.invariant.1,
      so_far_more _ _ _ _ _ _ _ _ _ _ _ _ (counts_add _ _ _ c.loop-end.invariant.3.later c.in-Ok-More.ensures.spends.later) c.loop-end.invariant.2 feed one,
      spends_more _ _ _ _ _ _ c.loop-end.invariant.3 c.in-Ok-More.ensures.spends,
      c.in-Ok-More.ensures.state,
      c.in-Ok-More.ensures.stands.same ∙ c.loop-end.invariant.5,
      c.in-Ok-More.ensures.stands.ok ∙ c.loop-end.invariant.6,
      lines_more (guiding g) (ordering g) _ _ _ _ _ _ _ _ _ _ _ _ _ c.loop-end.invariant.7 feed one (rw c.without_return-line.ensures at c.in-Ok-More.ensures.led),
    )

pub returns-in-Ok-Quit-clause-answers : goal.returns-in-Ok-Quit-clause-answers
returns-in-Ok-Quit-clause-answers g c =
    let feed = c.in-Some.ensures.found in
    let one = rw (c.in-Ok-Quit.field-0-is, c.without_return-line.ensures) at c.in-Ok-Quit.ensures.answers in
    (omega (arith, feed.within), feeds_end _ _ _ _ _ _ _ _ _ _ _ _ (counts_add _ _ _ c.loop-end.invariant.3.later c.in-Ok-Quit.ensures.spends.later) c.loop-end.invariant.2 feed one)

pub returns-in-Ok-Quit-clause-spends : goal.returns-in-Ok-Quit-clause-spends
returns-in-Ok-Quit-clause-spends g c = spends_more _ _ _ _ _ _ c.loop-end.invariant.3 c.in-Ok-Quit.ensures.spends

pub returns-in-Err-clause-answers : goal.returns-in-Err-clause-answers
returns-in-Err-clause-answers g c =
    let feed = c.in-Some.ensures.found in
    let one = rw c.without_return-line.ensures at c.in-Err.ensures.answers in
    feeds_part _ _ _ _ _ _ _ _ _ c.loop-end.invariant.2 feed one

pub returns-in-Err-clause-spends : goal.returns-in-Err-clause-spends
returns-in-Err-clause-spends g c = spends_more _ _ _ _ _ _ c.loop-end.invariant.3 c.in-Err.ensures.spends

pub returns-in-Ok-Quit-clause-led : goal.returns-in-Ok-Quit-clause-led
returns-in-Ok-Quit-clause-led g c =
    let feed = c.in-Some.ensures.found in
    let one = rw (c.in-Ok-Quit.field-0-is, c.without_return-line.ensures) at c.in-Ok-Quit.ensures.answers in
    let led = rw c.without_return-line.ensures at c.in-Ok-Quit.ensures.led in
    lines_end (guiding g) (ordering g) _ _ _ _ _ _ _ _ _ _ _ _ _ c.loop-end.invariant.7 feed one led

pub returns-clause-led : goal.returns-clause-led
returns-clause-led g c = (drop c.loop-end.start c.args.text.now, search rules, c.loop-end.invariant.7)
