use Rattle.std.proofs.Common.{◌≡◌, ◌≤◌, ◌-◌, ◌+◌, drop, length}
use Rattle.palm_engine.specs.Following.{OrderFollows}
use Rattle.palm_search.specs.Following.{GuideFollows}
use Rattle.palm_session.specs.Led.{LinesLead}
use Rattle.palm_session.specs.Serving.{Spends}
use Rattle.palm_session.specs.State.{IsState}
use Rattle.palm_session.proofs.cited.FeedLemmas.{SoFar}
use Rattle.palm_session.proofs.session.answer_lines.Given as goal

abbrev pub invariant-loop-end : goal.invariant-loop-end
invariant-loop-end g l =
    (l.start ≤ length l.text)
    × ((g.K.Sink.state l.out).faults ≡ (g.K.Sink.state l.initial.out).faults)
    × SoFar l.initial.desk.state l.text (g.K.Sink.state l.initial.out).written (g.K.Sink.state l.out).written (drop l.start l.text) l.desk.state (l.steps - l.initial.steps)
    × Spends l.initial.desk l.desk l.initial.steps l.steps
    × IsState l.desk.state
    × ((g.K.Sink.state l.out).home ≡ (g.K.Sink.state l.initial.out).home)
    × ((g.K.Sink.state l.out).torn ≡ (g.K.Sink.state l.initial.out).torn)
    × LinesLead (GuideFollows g.G.Guide.answers g.G.Guide.hears g.G.Guide.state) (OrderFollows g.O.Order.answers g.O.Order.hears g.O.Order.state) l.initial.desk.state l.text (g.K.Sink.state l.initial.out).written (g.K.Sink.state l.out).written (drop l.start l.text) l.initial.desk.objects l.desk.state l.desk.objects

abbrev pub decreases-loop-end : goal.decreases-loop-end
decreases-loop-end g l = length l.initial.text + 1 - l.start
