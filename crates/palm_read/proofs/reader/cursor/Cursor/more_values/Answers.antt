use Rattle.std.proofs.lemmas.Result.{err_from_is_err_and}
use Rattle.palm_read.specs.Reader.Held.{held_value}
use Rattle.palm_read.specs.Reader.Lists.{next_value}
use Rattle.palm_read.proofs.Items.{value_item}
use Rattle.palm_read.proofs.cited.Many.{item_shortens, running_start, running_more, running_shorter, running_over, running_fails}
use Rattle.palm_read.proofs.reader.cursor.Cursor.more_values.Goals as goal

pub loop-values-init : goal.loop-values-init
loop-values-init c = running_start next_value held_value c.args.self.now c.args.values

pub returns-in_err-value : goal.returns-in_err-value
returns-in_err-value c =
    let p = err_from_is_err_and c.from_residual.result c.from_residual.ensures.1 in
    rw (p.1, p.2) (running_fails next_value held_value c.args.self.now c.loop-values.self c.next_value.new.self c.args.values c.loop-values.values c.in_err-value.field-0.0 c.loop-values.invariant c.in_err-value.ensures)

pub loop-values-smaller : goal.loop-values-smaller
loop-values-smaller c =
    running_shorter next_value (item_shortens value_item) held_value c.loop-values.self c.next_value.new.self c.in-Some.value (rw c.in-Some.is at c.in_ok-value.ensures)

pub loop-values-preserved : goal.loop-values-preserved
loop-values-preserved c =
    rw c.in_ok-push.ensures.ok (running_more next_value (item_shortens value_item) held_value c.args.self.now c.loop-values.self c.next_value.new.self c.args.values c.loop-values.values c.in-Some.value c.loop-values.invariant (rw c.in-Some.is at c.in_ok-value.ensures))

pub returns : goal.returns
returns c =
    running_over next_value held_value c.args.self.now c.loop-values.self c.next_value.new.self c.args.values c.loop-values.values c.loop-values.invariant (rw c.in_default.is at c.in_ok-value.ensures)
