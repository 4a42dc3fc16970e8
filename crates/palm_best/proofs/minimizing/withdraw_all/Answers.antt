use Rattle.palm_best.proofs.Cutting.{closed_all, cuts_kept, users_closed}
use Rattle.palm_best.proofs.minimizing.withdraw_all.Goals as goal

pub withdraw_cuts-requires-clause-active : goal.withdraw_cuts-requires-clause-active
withdraw_cuts-requires-clause-active g c =
    let m = c.args.machine.now.engine.now.state in
    let n = c.close.new.self.engine.now.state in
    cuts_kept c.args.cuts m n (users_closed m n c.close.ensures.withdraws) c.requires.active

pub returns-clause-withdraws : goal.returns-clause-withdraws
returns-clause-withdraws g c =
    closed_all c.args.machine.now.engine.now.state c.close.new.self.engine.now.state c.withdraw_cuts.new.engine.state c.store-store.ensures.valid c.close.ensures.withdraws c.withdraw_cuts.ensures.gone c.withdraw_cuts.ensures.none
