use Rattle.std.proofs.lemmas.Result.{err_from_is_err_and}
use Rattle.std.proofs.Common.{[]}
use Rattle.palm_read.specs.Reader.Lists.{next_name, many_at}
use Rattle.palm_read.proofs.cited.Names.{name_item}
use Rattle.palm_read.proofs.cited.Many.{item_shortens, running_start, running_more, running_shorter, running_over, running_fails, plain_over}
use Rattle.palm_read.proofs.reader.cursor.Cursor.all_names.Goals as goal

pub loop-names-init : goal.loop-names-init
loop-names-init c = rw c.new-names.ensures (running_start next_name (λ name. name) c.args.self.now [])

pub returns-in_err-name : goal.returns-in_err-name
returns-in_err-name c =
    let p = err_from_is_err_and c.from_residual.result c.from_residual.ensures.1 in
    rw (p.1, p.2) (running_fails next_name (λ name. name) c.args.self.now c.loop-names.self c.next_name.new.self [] c.loop-names.names c.in_err-name.field-0.0 c.loop-names.invariant c.in_err-name.ensures)

pub loop-names-smaller : goal.loop-names-smaller
loop-names-smaller c =
    running_shorter next_name (item_shortens name_item) (λ name. name) c.loop-names.self c.next_name.new.self c.in-Some.name (rw c.in-Some.is at c.in_ok-name.ensures)

pub loop-names-preserved : goal.loop-names-preserved
loop-names-preserved c =
    rw c.in_ok-push.ensures.ok (running_more next_name (item_shortens name_item) (λ name. name) c.args.self.now c.loop-names.self c.next_name.new.self [] c.loop-names.names c.in-Some.name c.loop-names.invariant (rw c.in-Some.is at c.in_ok-name.ensures))

pub returns : goal.returns
returns c =
    plain_over c.loop-names.names c.next_name.new.self (many_at next_name c.args.self.now) (running_over next_name (λ name. name) c.args.self.now c.loop-names.self c.next_name.new.self [] c.loop-names.names c.loop-names.invariant (rw c.in_default.is at c.in_ok-name.ensures))
