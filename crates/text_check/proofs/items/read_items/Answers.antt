use Rattle.std.proofs.lemmas.Result.{err_from_is_err_and}
use Rattle.std.proofs.Common.{[]}
use Rattle.palm_read.specs.Reader.Lists.{many_at}
use Rattle.palm_read.proofs.cited.Many.{plain_over, running_fails, running_more, running_over, running_shorter, running_start}
use Rattle.text_check.proofs.items.read_items.Goals as goal

pub loop-items-init : goal.loop-items-init
loop-items-init g c = rw c.new-items.ensures (running_start g.R.Items.next_at (λ item. item) c.args.cursor.now [])

pub returns-in_err-item : goal.returns-in_err-item
returns-in_err-item g c =
    let p = err_from_is_err_and c.from_residual.result c.from_residual.ensures.1 in
    rw (p.1, p.2) (running_fails g.R.Items.next_at (λ item. item) c.args.cursor.now c.loop-items.cursor c.next.new.cursor [] c.loop-items.items c.in_err-item.field-0.0 c.loop-items.invariant c.in_err-item.ensures)

pub loop-items-smaller : goal.loop-items-smaller
loop-items-smaller g c =
    running_shorter g.R.Items.next_at g.R.Items.shortens (λ item. item) c.loop-items.cursor c.next.new.cursor c.in-Some.item (rw c.in-Some.is at c.in_ok-item.ensures)

pub loop-items-preserved : goal.loop-items-preserved
loop-items-preserved g c =
    rw c.in_ok-push.ensures.ok (running_more g.R.Items.next_at g.R.Items.shortens (λ item. item) c.args.cursor.now c.loop-items.cursor c.next.new.cursor [] c.loop-items.items c.in-Some.item c.loop-items.invariant (rw c.in-Some.is at c.in_ok-item.ensures))

pub returns : goal.returns
returns g c =
    plain_over c.loop-items.items c.next.new.cursor (many_at g.R.Items.next_at c.args.cursor.now) (running_over g.R.Items.next_at (λ item. item) c.args.cursor.now c.loop-items.cursor c.next.new.cursor [] c.loop-items.items c.loop-items.invariant (rw c.in_default.is at c.in_ok-item.ensures))
