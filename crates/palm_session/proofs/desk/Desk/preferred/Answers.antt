use Rattle.std.proofs.Common.{refl}
use Rattle.palm_session.proofs.Lending.{held_lends}
use Rattle.palm_session.proofs.Preferring.{names_users}
use Rattle.palm_session.proofs.desk.Desk.preferred.Goals as goal

pub preferred-requires-clause-weights : goal.preferred-requires-clause-weights
preferred-requires-clause-weights g c = rw (c.book.ensures, c.in_ok-weights.ensures, c.weights.ensures) c.requires.weights

pub preferred-requires-clause-lends : goal.preferred-requires-clause-lends
preferred-requires-clause-lends g c = held_lends c.args.self.now.state c.requires c.book.result.now c.engine.result.now.state c.book.ensures c.engine.ensures.state

pub returns-clause-tells : goal.returns-clause-tells
returns-clause-tells g c =
    let is = rw (c.book.ensures, c.in_ok-weights.ensures, c.weights.ensures) at c.in_ok-preferred.ensures in
    (c.in_ok-preferred.preferred, is, refl)

pub returns-clause-fits : goal.returns-clause-fits
returns-clause-fits g c =
    let s = c.args.self.now.state in
    let is = rw (c.book.ensures, c.in_ok-weights.ensures, c.weights.ensures) at c.in_ok-preferred.ensures in
    names_users s.book s.weights c.in_ok-preferred.preferred is
