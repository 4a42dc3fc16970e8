use Rattle.std.proofs.Common.{arith}
use Rattle.palm_agenda.specs.Places.{mark_places}
use Rattle.palm_agenda.proofs.Joined.{behind_set, front_set}
use Rattle.palm_agenda.proofs.connections.Connections.mark.Goals as goal

pub returns-then-place-front : goal.returns-then-place-front
returns-then-place-front c = λ d here.
    front_set c.self.inside.front.items c.self.inside.users.items c.args.self.now c.self.view_is c.args.place (omega (arith, c.if-place-front.true, c.len-front.ensures, c.self.inside.front.ok.0))
    (mark_places c.args.places.now c.args.var.now) c.index_mut-connection.result.now c.index_mut-connection.ensures.value c.mark.new.self c.mark.ensures d here

pub returns-else-place-front : goal.returns-else-place-front
returns-else-place-front c = λ d here.
    behind_set c.self.inside.front.items c.self.inside.users.items c.args.self.now c.self.view_is c.args.place
    c.len-front.result (omega (arith, c.len-front.ensures, c.self.inside.front.ok.0)) (omega (arith, c.if-place-front.false)) c.requires.within
    (mark_places c.args.places.now c.args.var.now) c.index_mut-connection-else-place-front.result.now c.index_mut-connection-else-place-front.ensures.value c.mark-else-place-front.new.self c.mark-else-place-front.ensures d here
