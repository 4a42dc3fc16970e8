use Rattle.std.proofs.Common.{All, List, sym, subst}
use Rattle.palm_domain.specs.Rows.{present_of}
use Rattle.palm_model.specs.declared.constraint.Term.{Term}
use Rattle.filter_linear.specs.Linear.{IsFilledBeside}
use Rattle.filter_linear.proofs.LinearReasons.{filled_beside}
use Rattle.filter_linear.proofs.rule.LinearRule.missing_side.Goals as goal

pub unreachable-requires : goal.unreachable-requires
unreachable-requires c =
    c.in-None.ensures.none
    (subst (λ (ts : List Term). All (IsFilledBeside (present_of c.args.store.now) c.args.pair.now.var) ts) (sym c.as_slice.ensures)
    (filled_beside (present_of c.args.store.now) c.args.self.now.terms c.args.pair.now.var c.requires.filled))
