use Rattle.std.proofs.Common.{Contains, sym, subst}
use Rattle.palm_base.specs.declared.terms.Cid.TheVariants.{Decide}
use Rattle.palm_search.specs.Search.GoesOn.{could_undo}
use Rattle.palm_search.proofs.machine.Machine.next_undoing.Goals as goal

pub returns-then-is_spent : goal.returns-then-is_spent
returns-then-is_spent g c =
    let held = c.has_decision.ensures.some c.if-not-has_decision.false in
    let spent = c.if-is_spent.ensures in
    (sym spent, spent, could_undo held.0 c.in_ok-conflict.conflict c.in_ok-conflict.ensures (subst (λ l. Contains l (Decide held.0)) c.as_slice.ensures held.1))
