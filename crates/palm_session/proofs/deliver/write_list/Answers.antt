use Rattle.palm_lang.proofs.cited.Wrote.{wrote_front, wrote_text, wrote_then, wrote_within}
use Rattle.palm_session.proofs.Delivering.{list_parts}
use Rattle.palm_session.proofs.deliver.write_list.Goals as goal

pub returns-in_err-variables : goal.returns-in_err-variables
returns-in_err-variables g c = wrote_text (list_parts c.args.book.now) (wrote_front _ c.from_residual.ensures.1 c.in_err-variables.ensures)

pub returns-in_err-write_constraints : goal.returns-in_err-write_constraints
returns-in_err-write_constraints g c = wrote_within _ c.from_residual-in_err-write_constraints.ensures.1 c.in_ok-variables.ensures c.in_err-write_constraints.ensures

pub returns : goal.returns
returns g c = wrote_then (wrote_then c.in_ok-variables.ensures c.in_ok-write_constraints.ensures) c.word.ensures
