use Rattle.palm_session.proofs.HeldObjects.{guide_dropped}
use Rattle.palm_session.proofs.desk.Desk.drop_guide.Goals as goal

pub returns-clause-state : goal.returns-clause-state
returns-clause-state g c =
    let was = c.self.inside in
    guide_dropped was.mode was.book was.weights was.engine was.accepted was.paused was.guides was.orders was.search c.args.self.now c.self.view_is c.args.number c.remove.new.self c.remove.ensures.objects c.remove.ensures.numbers
