use Rattle.std.proofs.Common.{◌≡◌, ◌<◌, List, get_or, inl, inr, ap, ◌∙◌, subst, arith}
use Rattle.std.proofs.lemmas.Bool.{cases_lt}
use Rattle.std.proofs.lemmas.List.{get_or_default}
use Rattle.palm_book.specs.Book.{HasNumber}
use Rattle.palm_prefer.specs.declared.weights.Weight.{Weight}
use Rattle.tests_reduce.proofs.weighing.are_present.Goals as goal

pub loop-rank-preserved : goal.loop-rank-preserved
loop-rank-preserved c k d lt =
    let rank = c.loop-rank.rank in
    let none : Weight = record { number = 0; weight = 0 } in
    let within = subst (λ n. rank < n) c.len-rank-end.ensures c.loop-rank-test.true in
    elim (cases_lt k rank) [
      | inl before ↦ c.loop-rank.invariant k d before
      | inr from ↦
          let same : rank ≡ k = omega (arith, from, lt) in
          subst (λ (w : Weight). HasNumber c.args.book.now w.number)
          (ap (λ (z : List Weight). get_or z rank none) c.as_slice.ensures ∙ get_or_default c.args.weights.now rank none d within ∙ ap (λ i. get_or c.args.weights.now i d) same)
          (c.has_number.ensures c.if-not-has_number.false)
    ]
