use Rattle.std.proofs.Common.{◌≡◌, ◌+◌, ◌<◌, ◌++◌, ◌∷◌, [], Bool, List, Vec, Global, take, get_or, sym, ap, subst}
use Rattle.palm_prefer.specs.declared.weights.Weight.{Weight}
use Rattle.palm_prefer.proofs.Weighing.{hard_skip, hard_step, next_weight}
use Rattle.palm_prefer.proofs.weights.hard_marks.Goals as goal
use Rattle.palm_prefer.proofs.weights.hard_marks.Goals.{in-Some, in_default}

pub loop-rank-preserved : goal.loop-rank-preserved
loop-rank-preserved c =
    let ws = c.args.weights.now in
    let rank = c.loop-rank.rank in
    let weight = get_or c.as_slice.result.now rank (record { number = 0; weight = 0 }) in
    let more : take (rank + 1) ws ≡ take rank ws ++ weight ∷ [] =
    subst (λ (z : List Weight). take (rank + 1) ws ≡ take rank ws ++ get_or z rank (record { number = 0; weight = 0 }) ∷ []) (sym c.as_slice.ensures) (next_weight ws rank (record { number = 0; weight = 0 }) (subst (λ n. rank < n) c.len-rank-end.ensures c.loop-rank-test.true)) in
    elim c.match-place_of.branch [
      | in-Some w ↦
          hard_step c.args.book.now.constraints c.in_ok-marks.ensures.valid.rising (take rank ws) weight (take (rank + 1) ws) c.loop-rank.marks.items c.match-place_of.marks.items w.in-Some.place
          more c.loop-rank.invariant w.in-Some.ensures.found.0 w.in-Some.ensures.found.1 (ap (λ (v : Vec Bool Global). v.items) w.marks-is)
      | in_default w ↦
          hard_skip c.args.book.now.constraints (take rank ws) weight (take (rank + 1) ws) c.loop-rank.marks.items c.match-place_of.marks.items
          more c.loop-rank.invariant w.in_default.ensures.none (ap (λ (v : Vec Bool Global). v.items) w.marks-is)
    ]
