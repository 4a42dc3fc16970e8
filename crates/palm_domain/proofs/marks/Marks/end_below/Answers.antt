use Rattle.std.proofs.Common.{◌≡◌, ◌+◌, ◌-◌, ◌*◌, ◌/◌, ◌<◌, ◌≤◌, ℕ, arith, ap, ◌∙◌, false}
use Rattle.palm_domain.specs.Marks.{is_marked}
use Rattle.palm_domain.proofs.MarkPlaces.{is_marked_one, is_marked_zeros, no_mark_before}
use Rattle.palm_domain.proofs.marks.Marks.end_below.Goals as goal
use Rattle.palm_domain.proofs.marks.Marks.end_below.Goals.{After-ones_end-end}

-- no mark from the word's last one on
between : (c : After-ones_end-end) → (k : ℕ) → (c.loop-at.at - 1) / 64 * 64 + c.ones_end-end.result ≤ k → k < c.args.before → is_marked c.args.self.now.words k ≡ false
between c =
    let words = c.args.self.now.words in
    let at = c.loop-at.at in
    let w = (c.loop-at.at - 1) / 64 in
    no_mark_before words (w * 64 + c.ones_end-end.result) at c.args.before
    (λ k low high. is_marked_zeros words w c.ones_end-end.result (at - w * 64) (omega arith) c.ones_end-end.ensures.zeros k low (omega arith))
    c.loop-at.invariant.between

pub returns-then-end-gt0-clause-marked : goal.returns-then-end-gt0-clause-marked
returns-then-end-gt0-clause-marked c l =
    let w = (c.loop-at.at - 1) / 64 in
    let end = c.ones_end-end.result in
    let there : w * 64 + end - 1 ≡ w * 64 + (end - 1) = omega arith in
    ap (is_marked c.args.self.now.words) there ∙ is_marked_one c.args.self.now.words w (end - 1) (omega arith) (c.ones_end-end.ensures.one c.if-end-gt0.true)

pub returns-then-end-gt0-clause-between : goal.returns-then-end-gt0-clause-between
returns-then-end-gt0-clause-between c = between (goal.at.returns-then-end-gt0-clause-between c).After-ones_end-end

pub loop-at-preserved : goal.loop-at-preserved
loop-at-preserved c = record {
  within = omega arith;
  between = λ k low high. between (goal.at.loop-at-preserved c).After-ones_end-end k (omega arith) high;
}
