use Rattle.std.proofs.Common.{sym, subst}
use Rattle.palm_search.specs.Search.GoesOn.{could_decide}
use Rattle.palm_search.specs.Turns.{IsOpen}
use Rattle.palm_search.proofs.machine.Machine.next_decision.Goals as goal

pub returns-then-is_spent : goal.returns-then-is_spent
returns-then-is_spent g c =
    let x = c.in-Some.field-0 in
    let spent = c.if-is_spent.ensures in
    (sym spent, spent, could_decide x c.requires.filled (subst (λ d. IsOpen d x) c.store.ensures.present c.in-Some.ensures.is_open))
