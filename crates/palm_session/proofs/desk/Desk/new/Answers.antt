use Rattle.std.proofs.Common.{ap}
use Rattle.palm_engine.specs.Engine.{View}
use Rattle.palm_search.specs.Calls.{SearchView}
use Rattle.palm_session.proofs.Made.{made_desk}
use Rattle.palm_session.proofs.desk.Desk.new.Goals as goal

pub returns : goal.returns
returns g c =
    made_desk c.args.guides.items c.args.orders.items c.args.guides.len c.args.orders.len c.in_ok-guides.guides c.in_ok-orders.orders c.new-3.result c.new-4.result c.new-5.result c.begin.result c.args.guides.ok.0 c.args.orders.ok.0
    c.in_ok-guides.ensures c.in_ok-orders.ensures c.new-3.ensures c.new-4.ensures (ap (λ (v : View). v.state) c.new-5.ensures) (ap (λ (v : View). v.checks) c.new-5.ensures) (ap (λ (v : SearchView). v.journal) c.begin.ensures)
