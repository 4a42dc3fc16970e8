use Rattle.palm_prefer.specs.declared.answer.Preferred.TheVariants.{Hard, Kept}
use Rattle.palm_session.specs.ReplyText.{NamesUsers}
use Rattle.palm_session.proofs.deliver.write_preferred.Goals as goal

pub names-requires : goal.names-requires
names-requires g c =
    let named : NamesUsers c.args.book.now (Hard c.in-Hard.conflict) = rw c.in-Hard.is at c.requires in named

pub write_kept-requires-clause-users : goal.write_kept-requires-clause-users
write_kept-requires-clause-users g c =
    let named : NamesUsers c.args.book.now (Kept c.in-Kept.keep c.in-Kept.left) = rw c.in-Kept.is at c.requires in named.0

pub write_kept-requires-clause-left : goal.write_kept-requires-clause-left
write_kept-requires-clause-left g c =
    let named : NamesUsers c.args.book.now (Kept c.in-Kept.keep c.in-Kept.left) = rw c.in-Kept.is at c.requires in named.1

pub returns-in-Hard : goal.returns-in-Hard
returns-in-Hard g c = rw c.in-Hard.is c.names.ensures

pub returns-in-Kept : goal.returns-in-Kept
returns-in-Kept g c = rw c.in-Kept.is c.write_kept.ensures
