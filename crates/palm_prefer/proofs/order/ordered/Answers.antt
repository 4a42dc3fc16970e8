use Rattle.std.proofs.Common.{rules, of_calls}
use Rattle.std.proofs.lemmas.Fn.{always_returns_same}
use Rattle.palm_prefer.specs.declared.order.Soft.{Soft}
use Rattle.palm_prefer.proofs.Ordering.{ordered_now}
use Rattle.palm_prefer.proofs.order.ordered.Goals as goal

pub returns : goal.returns
returns c =
    ordered_now c.args.book.now.constraints c.args.weights.now c.in_ok-softs.softs.items c.sort_unstable_by_key.new.self.items c.in_ok-softs.ensures c.sort_unstable_by_key.ensures.permutation
    (c.sort_unstable_by_key.ensures.sorted (λ (s : Soft). (record { 0 = s.weight }, s.place)) (always_returns_same _ _ _ (λ a r f k. search (rules, of_calls))))
