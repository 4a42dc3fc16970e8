use Rattle.std.proofs.Common.{sym, ◌∙◌}
use Rattle.tests_reduce.proofs.Numbered.{found_number}
use Rattle.tests_reduce.proofs.weighing.has_number.Goals as goal

pub returns : goal.returns
returns c some = found_number c.args.book.now.constraints c.args.number c.place_of.result c.place_of.ensures.found (sym c.is_some.ensures ∙ some)
