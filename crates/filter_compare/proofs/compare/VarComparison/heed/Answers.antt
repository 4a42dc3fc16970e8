use Rattle.filter_compare.proofs.Heeds.{low_of, high_of, low_left, high_left, low_right, high_right, either_alone, left_shifted, right_shifted}
use Rattle.filter_compare.proofs.Shapes.{left_offset, right_offset}
use Rattle.filter_compare.proofs.compare.VarComparison.heed.Goals as goal

pub returns-in-Eq : goal.returns-in-Eq
returns-in-Eq c x at =
    let formed = c.requires.formed.1 in
    left_shifted c.args.self.now formed.distinct c.args.place x at _ c.if-place-eq0.true c.in-Eq.is (right_offset c.args.self.now.offset formed.shaped)

pub returns-in-Eq-2 : goal.returns-in-Eq-2
returns-in-Eq-2 c x at =
    let formed = c.requires.formed.1 in
    right_shifted c.args.self.now formed.distinct c.args.place x at _ c.if-place-eq0.false c.in-Eq-2.is (left_offset c.args.self.now.offset formed.shaped)

pub returns-in-Ne : goal.returns-in-Ne
returns-in-Ne c x at = either_alone c.args.self.now c.requires.formed.1.distinct c.args.place x at c.in-Ne.is

pub returns-in-Lt : goal.returns-in-Lt
returns-in-Lt c x at = low_left c.args.self.now c.requires.formed.1.distinct c.args.place x at c.if-place-eq0-2.true (low_of c.args.self.now.op c.in-Lt.is)

pub returns-in-Lt-2 : goal.returns-in-Lt-2
returns-in-Lt-2 c x at = high_right c.args.self.now c.requires.formed.1.distinct c.args.place x at c.if-place-eq0-2.false (low_of c.args.self.now.op c.in-Lt-2.is)

pub returns-in-Gt : goal.returns-in-Gt
returns-in-Gt c x at = high_left c.args.self.now c.requires.formed.1.distinct c.args.place x at c.if-place-eq0-3.true (high_of c.args.self.now.op c.in-Gt.is)

pub returns-in-Gt-2 : goal.returns-in-Gt-2
returns-in-Gt-2 c x at = low_right c.args.self.now c.requires.formed.1.distinct c.args.place x at c.if-place-eq0-3.false (high_of c.args.self.now.op c.in-Gt-2.is)
