use Rattle.std.proofs.Common.{sym, subst, Contains}
use Rattle.palm_domain.specs.Rows.{values_of}
use Rattle.palm_book.proofs.cited.Pairs.{undeclared}
use Rattle.palm_listed.proofs.listed.Listed.declared_pair.Goals as goal

pub returns-else-declared-clause-none : goal.returns-else-declared-clause-none
returns-else-declared-clause-none c =
    undeclared c.args.self.now.book c.args.name.now c.args.value c.in_ok-var.var c.requires.formed.different_variables
    (record { declared = c.in_ok-var.ensures.found.0; named = c.in_ok-var.ensures.found.1 })
    (λ h. c.if-declared.ensures.tells (subst (λ ds. Contains (values_of ds c.in_ok-var.var) c.args.value) (sym c.requires.initial) h))
