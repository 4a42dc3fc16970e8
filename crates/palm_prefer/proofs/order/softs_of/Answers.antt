use Rattle.std.proofs.Common.{◌+◌, ◌<◌, ◌++◌, ◌∷◌, [], List, Vec, Global, take, get_or, sym, ap, subst, ◌∙◌}
use Rattle.palm_prefer.specs.Softs.{AreSofts, IsSoftFor}
use Rattle.palm_prefer.specs.declared.order.Soft.{Soft}
use Rattle.palm_prefer.specs.declared.weights.Weight.{Weight}
use Rattle.palm_prefer.proofs.Ordering.{softs_more, softs_same}
use Rattle.palm_prefer.proofs.Weighing.{earlier_differ, next_weight}
use Rattle.palm_prefer.proofs.order.softs_of.Goals as goal
use Rattle.palm_prefer.proofs.order.softs_of.Goals.{in-Some+in_ok-push, in_default}

pub loop-rank-preserved : goal.loop-rank-preserved
loop-rank-preserved c =
    let cs = c.args.book.now.constraints in
    let ws = c.args.weights.now in
    let rank = c.loop-rank.rank in
    let none : Weight = record { number = 0; weight = 0 } in
    let weight = get_or ws rank none in
    let same = ap (λ (z : List Weight). get_or z rank none) c.as_slice.ensures in
    let lt = subst (λ n. rank < n) c.len-rank-end.ensures c.loop-rank-test.true in
    elim c.match-soft_at.branch [
      | in-Some+in_ok-push w ↦
          subst (λ (z : List Soft). AreSofts cs (take (rank + 1) ws) z) (sym (ap (λ (v : Vec Soft Global). v.items) w.softs-is ∙ w.in_ok-push.ensures.items))
          (subst (λ (z : List Weight). AreSofts cs z (c.loop-rank.softs.items ++ w.in-Some.soft ∷ [])) (sym (next_weight ws rank none lt))
          (softs_more cs (take rank ws) weight c.loop-rank.softs.items w.in-Some.soft c.loop-rank.invariant
          (earlier_differ ws c.requires.weights.different rank none lt)
          (subst (λ (z : Weight). IsSoftFor cs z w.in-Some.soft) same w.in-Some.ensures.found)))
      | in_default w ↦
          subst (λ (z : List Soft). AreSofts cs (take (rank + 1) ws) z) (sym (ap (λ (v : Vec Soft Global). v.items) w.softs-is))
          (subst (λ (z : List Weight). AreSofts cs z c.loop-rank.softs.items) (sym (next_weight ws rank none lt))
          (softs_same cs (take rank ws) weight c.loop-rank.softs.items c.loop-rank.invariant
          (λ d among e on. w.in_default.ensures.none d among (e ∙ sym (ap (λ (z : Weight). z.number) same)) on)))
    ]
