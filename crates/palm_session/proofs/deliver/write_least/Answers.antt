use Rattle.palm_lang.proofs.cited.Wrote.{wrote_front, wrote_text, wrote_then, wrote_within}
use Rattle.palm_session.proofs.Delivering.{least_parts}
use Rattle.palm_session.proofs.deliver.write_least.Goals as goal

pub returns-in_err-best : goal.returns-in_err-best
returns-in_err-best g c = wrote_text (least_parts c.args.book.now c.args.values.now c.args.users.now) (wrote_front _ c.from_residual.ensures.1 c.in_err-best.ensures)

pub returns-in_err-names : goal.returns-in_err-names
returns-in_err-names g c = wrote_within _ c.from_residual-in_err-names.ensures.1 c.in_ok-best.ensures c.in_err-names.ensures

pub returns : goal.returns
returns g c = wrote_then (wrote_then c.in_ok-best.ensures c.in_ok-names.ensures) c.word.ensures
