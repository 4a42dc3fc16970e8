use Rattle.std.proofs.Common.{arith}
use Rattle.std.proofs.lemmas.Int.{ints}
use Rattle.filter_linear.proofs.Heeds.{heeds_ends, heeds_alone, low_heeds_least, low_heeds_greatest, high_heeds_greatest, high_heeds_least}
use Rattle.filter_linear.proofs.rule.LinearRule.heed.Goals as goal

pub returns-in-Eq : goal.returns-in-Eq
returns-in-Eq c = heeds_ends c.args.self.now c.requires.formed.0 c.requires.formed.1 c.args.term.now c.requires.own c.in-Eq.is

pub returns-in-Ne : goal.returns-in-Ne
returns-in-Ne c = heeds_alone c.args.self.now c.requires.formed.0 c.requires.formed.1 c.args.term.now c.requires.own c.in-Ne.is

pub returns-in-Lt : goal.returns-in-Lt
returns-in-Lt c = low_heeds_least c.args.self.now c.requires.formed.0 c.requires.formed.1 c.args.term.now c.requires.own c.in-Lt.is (omega (arith, ints))

pub returns-in-Lt-2 : goal.returns-in-Lt-2
returns-in-Lt-2 c = low_heeds_greatest c.args.self.now c.requires.formed.0 c.requires.formed.1 c.args.term.now c.requires.own c.in-Lt-2.is (omega (arith, ints))

pub returns-in-Gt : goal.returns-in-Gt
returns-in-Gt c = high_heeds_greatest c.args.self.now c.requires.formed.0 c.requires.formed.1 c.args.term.now c.requires.own c.in-Gt.is (omega (arith, ints))

pub returns-in-Gt-2 : goal.returns-in-Gt-2
returns-in-Gt-2 c = high_heeds_least c.args.self.now c.requires.formed.0 c.requires.formed.1 c.args.term.now c.requires.own c.in-Gt-2.is (omega (arith, ints))
