use Rattle.palm_lang.proofs.cited.Wrote.{wrote_front, wrote_text, wrote_then, wrote_within}
use Rattle.palm_session.proofs.Delivering.{kept_parts}
use Rattle.palm_session.proofs.deliver.write_kept.Goals as goal

pub returns-in_err-names : goal.returns-in_err-names
returns-in_err-names g c = wrote_text (kept_parts c.args.book.now c.args.keep.now c.args.left.now) (wrote_front _ c.from_residual.ensures.1 c.in_err-names.ensures)

pub returns-in_err-write_all_left : goal.returns-in_err-write_all_left
returns-in_err-write_all_left g c = wrote_within _ c.from_residual-in_err-write_all_left.ensures.1 c.in_ok-names.ensures c.in_err-write_all_left.ensures

pub returns : goal.returns
returns g c = wrote_then (wrote_then c.in_ok-names.ensures c.in_ok-write_all_left.ensures) c.word.ensures
