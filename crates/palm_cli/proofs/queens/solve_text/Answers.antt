use Rattle.std.proofs.Common.{rules, arith}
use Rattle.std.proofs.lemmas.Grind.{common_steps}
use Rattle.palm_cli.specs.Generator.{solve_line}
use Rattle.palm_cli.proofs.queens.solve_text.Goals as goal

pub returns : goal.returns
unfolding solve_line
returns c = first_of (search rules, grind (arith, common_steps))
