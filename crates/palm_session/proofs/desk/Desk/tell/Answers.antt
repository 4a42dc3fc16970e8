use Rattle.palm_session.proofs.Running.{reply_fits, still_held, stopped_by, told_by}
use Rattle.palm_session.proofs.desk.Desk.tell.Goals as goal

pub deliver-requires-clause-held : goal.deliver-requires-clause-held
deliver-requires-clause-held g c =
    still_held _ _ c.args.self.now.state c.args.by _ _ c.in-Ok.answer _ c.search.new.self.state _ c.requires.held c.in-Ok.ensures.searched

pub deliver-requires-clause-fits : goal.deliver-requires-clause-fits
deliver-requires-clause-fits g c =
    rw c.reply.ensures (reply_fits _ _ c.args.self.now.state c.args.by _ _ c.in-Ok.answer _ c.search.new.self.state _ c.requires.held c.in-Ok.ensures.searched)

pub returns-in-Ok-clause-told : goal.returns-in-Ok-clause-told
returns-in-Ok-clause-told g c =
    let writes = rw c.reply.ensures at c.deliver.ensures in
    told_by _ _ c.args.self.now.state c.args.by _ _ c.in-Ok.answer _ c.search.new.self.state _ c.requires.held c.in-Ok.ensures.searched _ c.deliver.result writes.ok

pub returns-in-Ok-clause-front : goal.returns-in-Ok-clause-front
returns-in-Ok-clause-front g c =
    let writes = rw c.reply.ensures at c.deliver.ensures in
    stopped_by _ _ c.args.self.now.state c.args.by _ _ c.in-Ok.answer _ c.search.new.self.state _ c.requires.held c.in-Ok.ensures.searched _ c.deliver.result writes.err
