use Rattle.std.proofs.Common.{arith}
use Rattle.std.proofs.lemmas.Int.{ints}
use Rattle.filter_occur.proofs.Enough.{op_enough_below, op_enough_equal, op_enough_from, op_enough_above}
use Rattle.filter_occur.proofs.counts.enough_between.Goals as goal

pub returns-in-Lt : goal.returns-in-Lt
returns-in-Lt c = λ values low high. op_enough_below values _ c.args.op c.in-Lt.is

pub returns-in-Eq : goal.returns-in-Eq
returns-in-Eq c = λ values low high. op_enough_equal values _ c.args.op c.args.greatest.now c.in-Eq.is high (grind (arith, ints))

pub returns-in-Ge : goal.returns-in-Ge
returns-in-Ge c = λ values low high. op_enough_from values _ c.args.least.now low c.args.op c.in-Ge.is (grind (arith, ints))

pub returns-in-Ne : goal.returns-in-Ne
returns-in-Ne c = λ values low high. op_enough_above values _ c.args.least.now low c.args.op c.in-Ne.is (grind (arith, ints))
