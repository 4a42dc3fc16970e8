use Rattle.std.proofs.Common.{◌∙◌, sym}
use Rattle.palm_session.proofs.Following.{ran_followed}
use Rattle.palm_session.proofs.desk.Desk.filter.Goals as goal

pub returns-clause-followed : goal.returns-clause-followed
returns-clause-followed g c =
    ran_followed _ _ c.args.self.now.state c.settle.new.self.state c.args.self.now.objects c.settle.new.self.objects _ _ (sym c.is_paused.ensures ∙ c.if-is_paused.false) c.in_ok-settle.ensures.ran
