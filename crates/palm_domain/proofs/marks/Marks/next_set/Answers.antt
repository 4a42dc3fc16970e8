use Rattle.std.proofs.Common.{◌+◌, ◌*◌, ◌/◌, ◌%◌}
use Rattle.std.proofs.Common.{arith}
use Rattle.palm_domain.proofs.MarkPlaces.{is_marked_one, is_marked_zeros, no_mark_before}
use Rattle.palm_domain.proofs.marks.Marks.next_set.Goals as goal

pub returns-in-Some-clause-marked : goal.returns-in-Some-clause-marked
returns-in-Some-clause-marked c =
    is_marked_one c.args.self.now.words (c.loop-at.at / 64) c.in-Some.one c.in-Some.ensures.within c.in-Some.ensures.one

pub returns-in-Some-clause-between : goal.returns-in-Some-clause-between
returns-in-Some-clause-between c =
    let words = c.args.self.now.words in
    let at = c.loop-at.at in
    no_mark_before words c.args.from at (at / 64 * 64 + c.in-Some.one) c.loop-at.invariant.between
    (λ k low high. is_marked_zeros words (at / 64) (at % 64) c.in-Some.one (omega (arith, c.in-Some.ensures.within)) c.in-Some.ensures.before k (omega arith) high)

pub loop-at-preserved : goal.loop-at-preserved
loop-at-preserved c =
    let words = c.args.self.now.words in
    let at = c.loop-at.at in
    record {
      from = omega arith;
      between = no_mark_before words c.args.from at (at / 64 * 64 + 64) c.loop-at.invariant.between
          (λ k low high. is_marked_zeros words (at / 64) (at % 64) 64 (omega arith) c.in_default.ensures.none k (omega arith) high);
    }
