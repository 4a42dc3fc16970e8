use Rattle.std.proofs.Common.{arith}
use Rattle.palm_agenda.specs.Agenda.{unmarked}
use Rattle.palm_agenda.proofs.Joined.{behind_set, front_set}
use Rattle.palm_agenda.proofs.connections.Connections.unmark.Goals as goal

pub returns-then-place-front : goal.returns-then-place-front
returns-then-place-front c = λ d here.
    front_set c.self.inside.front.items c.self.inside.users.items c.args.self.now c.self.view_is c.args.place (omega (arith, c.if-place-front.true, c.len-front.ensures, c.self.inside.front.ok.0))
    (unmarked c.args.marked) c.index_mut-connection.result.now c.index_mut-connection.ensures.value c.unmark.new.self c.unmark.ensures d here

pub returns-else-place-front : goal.returns-else-place-front
returns-else-place-front c = λ d here.
    behind_set c.self.inside.front.items c.self.inside.users.items c.args.self.now c.self.view_is c.args.place
    c.len-front.result (omega (arith, c.len-front.ensures, c.self.inside.front.ok.0)) (omega (arith, c.if-place-front.false)) c.requires.within
    (unmarked c.args.marked) c.index_mut-connection-else-place-front.result.now c.index_mut-connection-else-place-front.ensures.value c.unmark-else-place-front.new.self c.unmark-else-place-front.ensures d here
