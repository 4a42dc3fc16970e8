use Rattle.std.proofs.Common.{◌≡◌, Option, length, arith, rules}
use Rattle.palm_engine.specs.Following.{Hearing, OrderFollows}
use Rattle.palm_search.specs.Following.{GuideFollows, Moment}
use Rattle.palm_session.proofs.cited.FeedLemmas.{finishes_none, finishes_one, finishes_part}
use Rattle.palm_session.proofs.LedTexts.{last_none, last_led}
use Rattle.palm_session.proofs.session.answer_last.Given as given
use Rattle.palm_session.proofs.session.answer_last.Goals as goal

-- the guide's own relations, and the order's
abbrev guiding : (g : given.Over) → Moment → Option g.row.G.Denot → Option g.row.G.Denot → Type 0
guiding g = GuideFollows g.G.Guide.answers g.G.Guide.hears g.G.Guide.state

abbrev ordering : (g : given.Over) → Hearing → Option g.row.O.Denot → Option g.row.O.Denot → Type 0
ordering g = OrderFollows g.O.Order.answers g.O.Order.hears g.O.Order.state

pub returns-then-is_empty-clause-answers : goal.returns-then-is_empty-clause-answers
returns-then-is_empty-clause-answers g c = finishes_none _ _ _ _ (omega arith) (search rules)

pub returns-in-Ok-clause-answers : goal.returns-in-Ok-clause-answers
returns-in-Ok-clause-answers g c =
    let some : length c.args.line.now ≡ 0 → ⊥ = λ e. search rules in
    let one = rw c.without_return.ensures at c.in-Ok.ensures.answers in
    finishes_one _ _ _ _ _ c.in-Ok.field-0 _ some one

pub returns-in-Err-clause-answers : goal.returns-in-Err-clause-answers
returns-in-Err-clause-answers g c =
    let some : length c.args.line.now ≡ 0 → ⊥ = λ e. search rules in
    let one = rw c.without_return.ensures at c.in-Err.ensures.answers in
    finishes_part _ _ _ _ some one

pub returns-then-is_empty-clause-led : goal.returns-then-is_empty-clause-led
returns-then-is_empty-clause-led g c = last_none _ _ _ _ _ _ (search rules)

pub returns-in-Ok-clause-led : goal.returns-in-Ok-clause-led
returns-in-Ok-clause-led g c =
    let some : length c.args.line.now ≡ 0 → ⊥ = λ e. search rules in
    last_led (guiding g) (ordering g) _ _ _ _ _ _ _ some (rw c.without_return.ensures at c.in-Ok.ensures.led)
