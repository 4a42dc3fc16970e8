use Rattle.palm_session.proofs.Following.{settled_desk}
use Rattle.palm_session.proofs.desk.Desk.settle.Goals as goal

pub returns-clause-ran : goal.returns-clause-ran
returns-clause-ran g c =
    let was = c.self.inside in
    let now = c.settle_by.new in
    rw c.revisions.ensures
    (settled_desk _ was.mode was.book was.weights was.engine now.engine was.accepted was.paused was.guides was.orders now.orders was.search c.args.self.now c.args.limit _ c.args.steps.now now.steps c.self.view_is
    c.settle_by.ensures.orders c.in_ok-settle_by.ensures.ok c.settle_by.ensures.asked)
