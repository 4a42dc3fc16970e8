use Rattle.std.proofs.Common.{Option, arith}
use Rattle.palm_base.proofs.cited.Telling.{tells_false, tells_true}
use Rattle.palm_engine.specs.Following.{Hearing, OrderFollows}
use Rattle.palm_search.specs.Following.{GuideFollows, Moment}
use Rattle.palm_session.proofs.Led.{waits_led}
use Rattle.palm_session.proofs.Taking.{takes_paused}
use Rattle.palm_session.proofs.desk.Desk.take.Given as given
use Rattle.palm_session.proofs.desk.Desk.take.Goals as goal

-- the guide's own relations, and the order's
abbrev guiding : (g : given.Over) → Moment → Option g.row.G.Denot → Option g.row.G.Denot → Type 0
guiding g = GuideFollows g.G.Guide.answers g.G.Guide.hears g.G.Guide.state

abbrev ordering : (g : given.Over) → Hearing → Option g.row.O.Denot → Option g.row.O.Denot → Type 0
ordering g = OrderFollows g.O.Order.answers g.O.Order.hears g.O.Order.state

pub returns-then-waits-clause-becomes : goal.returns-then-waits-clause-becomes
returns-then-waits-clause-becomes g c =
    takes_paused c.args.self.now.state c.args.request _ (omega arith) (tells_true _ c.waits.result c.waits.ensures c.if-waits.true)

pub returns-then-waits-clause-led : goal.returns-then-waits-clause-led
returns-then-waits-clause-led g c =
    waits_led (guiding g) (ordering g) c.args.self.now.state c.args.request c.args.self.now.objects (tells_true _ c.waits.result c.waits.ensures c.if-waits.true)

pub carry_out-requires-clause-goes : goal.carry_out-requires-clause-goes
carry_out-requires-clause-goes g c = tells_false _ c.waits.result c.waits.ensures c.if-waits.false
