use Rattle.std.proofs.Common.{rules, ◌≡◌, ◌<◌, ◌≤◌, ap, get_or, length, subst, sym}
use Rattle.palm_lang.proofs.cited.Wrote.{wrote_all, wrote_more, wrote_part, wrote_text}
use Rattle.palm_session.specs.Answers.{left_text}
use Rattle.palm_session.specs.ReplyText.{LeavesUsers}
use Rattle.palm_session.proofs.deliver.write_all_left.Goals as goal

pub leave-requires-clause-constraint : goal.leave-requires-clause-constraint
leave-requires-clause-constraint g c =
    let lt : c.loop-entry.entry-index < length c.args.left.now = search rules in
    let item : c.entry-item.result ≡ get_or c.args.left.now c.loop-entry.entry-index c.entry-item.result = search rules in
    (subst (LeavesUsers c.args.book.now) (sym item) (c.requires c.loop-entry.entry-index c.entry-item.result lt)).numbered

pub leave-requires-clause-users : goal.leave-requires-clause-users
leave-requires-clause-users g c =
    let lt : c.loop-entry.entry-index < length c.args.left.now = search rules in
    let item : c.entry-item.result ≡ get_or c.args.left.now c.loop-entry.entry-index c.entry-item.result = search rules in
    (subst (LeavesUsers c.args.book.now) (sym item) (c.requires c.loop-entry.entry-index c.entry-item.result lt)).users

pub returns-in_err-leave : goal.returns-in_err-leave
returns-in_err-leave g c =
    let lt : c.loop-entry.entry-index < length c.args.left.now = search rules in
    let item : c.entry-item.result ≡ get_or c.args.left.now c.loop-entry.entry-index c.entry-item.result = search rules in
    wrote_part (left_text c.args.book.now) c.args.left.now c.loop-entry.entry-index c.entry-item.result lt c.from_residual.ensures.1 c.loop-entry.invariant
    (wrote_text (ap (left_text c.args.book.now) item) c.in_err-leave.ensures)

pub loop-entry-preserved : goal.loop-entry-preserved
loop-entry-preserved g c =
    let lt : c.loop-entry.entry-index < length c.args.left.now = search rules in
    let item : c.entry-item.result ≡ get_or c.args.left.now c.loop-entry.entry-index c.entry-item.result = search rules in
    wrote_more (left_text c.args.book.now) c.args.left.now c.loop-entry.entry-index c.entry-item.result lt c.loop-entry.invariant
    (wrote_text (ap (left_text c.args.book.now) item) c.in_ok-leave.ensures)

pub returns : goal.returns
returns g c =
    let all : length c.args.left.now ≤ c.loop-entry.entry-index = search rules in
    wrote_all (left_text c.args.book.now) c.args.left.now c.loop-entry.entry-index all c.loop-entry.invariant
