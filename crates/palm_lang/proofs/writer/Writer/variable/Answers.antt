use Rattle.std.proofs.Common.{refl}
use Rattle.palm_lang.proofs.cited.Wrote.{wrote_nothing}
use Rattle.palm_lang.proofs.writer.Writer.variable.Goals as goal

pub returns-in_err-print_var : goal.returns-in_err-print_var
returns-in_err-print_var g c = wrote_nothing _ _ _ refl c.from_residual.ensures.1
