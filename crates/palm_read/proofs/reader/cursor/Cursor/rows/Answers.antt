use Rattle.std.proofs.lemmas.Result.{err_from_is_err_and}
use Rattle.std.proofs.Common.{map, []}
use Rattle.palm_read.specs.Reader.Held.{held_value}
use Rattle.palm_read.specs.Reader.Lists.{next_row}
use Rattle.palm_read.proofs.Items.{row_item}
use Rattle.palm_read.proofs.cited.Many.{item_shortens, running_start, running_more, running_shorter, running_over, running_fails}
use Rattle.palm_read.proofs.reader.cursor.Cursor.rows.Goals as goal

pub loop-rows-init : goal.loop-rows-init
loop-rows-init c = rw c.new-rows.ensures (running_start (next_row c.args.width) (map held_value) c.args.self.now [])

pub returns-in_err-row : goal.returns-in_err-row
returns-in_err-row c =
    let p = err_from_is_err_and c.from_residual.result c.from_residual.ensures.1 in
    rw (p.1, p.2) (running_fails (next_row c.args.width) (map held_value) c.args.self.now c.loop-rows.self c.next_row.new.self [] c.loop-rows.rows c.in_err-row.field-0.0 c.loop-rows.invariant c.in_err-row.ensures)

pub loop-rows-smaller : goal.loop-rows-smaller
loop-rows-smaller c =
    running_shorter (next_row c.args.width) (item_shortens (row_item c.args.width)) (map held_value) c.loop-rows.self c.next_row.new.self c.in-Some.row (rw c.in-Some.is at c.in_ok-row.ensures)

pub loop-rows-preserved : goal.loop-rows-preserved
loop-rows-preserved c =
    rw c.in_ok-push.ensures.ok (running_more (next_row c.args.width) (item_shortens (row_item c.args.width)) (map held_value) c.args.self.now c.loop-rows.self c.next_row.new.self [] c.loop-rows.rows c.in-Some.row c.loop-rows.invariant (rw c.in-Some.is at c.in_ok-row.ensures))

pub returns : goal.returns
returns c =
    running_over (next_row c.args.width) (map held_value) c.args.self.now c.loop-rows.self c.next_row.new.self [] c.loop-rows.rows c.loop-rows.invariant (rw c.in_default.is at c.in_ok-row.ensures)
