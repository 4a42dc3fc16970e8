use Rattle.std.proofs.Common.{◌++◌, IfOk, subst, sym}
use Rattle.palm_engine.specs.Following.{OrderFollows}
use Rattle.palm_search.specs.Following.{GuideFollows}
use Rattle.palm_session.specs.Feeding.{IsSession, View}
use Rattle.palm_session.specs.Led.{FeedsLead}
use Rattle.palm_session.proofs.session.Session.feed.Goals as goal

pub returns-clause-led : goal.returns-clause-led
returns-clause-led g c =
    let guiding = GuideFollows g.G.Guide.answers g.G.Guide.hears g.G.Guide.state in
    let ordering = OrderFollows {O = g.row.O.Denot} g.O.Order.answers g.O.Order.hears g.O.Order.state in
    let first = c.self.inside in
    let last = c.self-2.inside.desk in
    let result = c.feed_lines-result.result in
    let was = (g.K.Sink.state c.args.out.now).written in
    let now = (g.K.Sink.state c.feed_lines-result.new.out).written in
    let led = subst (λ (v : View g.row.G.Denot g.row.O.Denot). IfOk result (FeedsLead guiding ordering first.desk.state (first.unfinished.items ++ c.args.piece.now) was now first.desk.objects v.state v.objects))
    (sym c.self-2.view_is) c.feed_lines-result.ensures.led in
    subst (λ (v : View g.row.G.Denot g.row.O.Denot). IfOk result (FeedsLead guiding ordering v.state (v.unfinished ++ c.args.piece.now) was now v.objects last.state last.objects))
    c.self.view_is led

pub returns-clause-held : goal.returns-clause-held
returns-clause-held g c = subst (λ (v : View g.row.G.Denot g.row.O.Denot). IsSession v) c.self.view_is c.self.invariant
