use Rattle.std.proofs.Common.{inl, inr, subst}
use Rattle.palm_base.proofs.cited.Telling.{tells_false, tells_true}
use Rattle.palm_book.specs.Book.{Contents, HasConstraint, HasVariable}
use Rattle.palm_read.specs.declared.line.Line.TheVariants.{VarIn}
use Rattle.palm_session.proofs.Admitting.{is_over}
use Rattle.palm_session.proofs.desk.Desk.admit_var_in.Goals as goal
use Rattle.palm_session.proofs.desk.Desk.admit_var_in.Goals.{then-is_beyond-via-then-is_beyond, then-is_beyond-via-else-is_beyond+then-is_full_of_variables, then-is_beyond-via-else-is_beyond+else-is_full_of_variables+then-is_full}

pub returns-then-is_beyond : goal.returns-then-is_beyond
returns-then-is_beyond g c =
    let s = c.args.self.now.state in
    let line = VarIn c.args.name c.args.universe c.args.domain in
    let no_variable = subst (λ (b : Contents). HasVariable b c.args.name → ⊥) c.book.ensures (tells_false _ c.has_variable.result c.has_variable.ensures c.if-has_variable.false) in
    let no_constraint = subst (λ (b : Contents). HasConstraint b c.args.name → ⊥) c.book-else-has_variable.ensures (tells_false _ c.has_constraint.result c.has_constraint.ensures c.if-has_constraint.false) in
    is_over s line (λ t. elim t [ inl v ↦ no_variable v | inr k ↦ no_constraint k ]) (λ h. h) (λ h. h) (elim c.then-is_beyond.branch [
      | then-is_beyond-via-then-is_beyond w ↦ inl (tells_true _ c.args.is_beyond c.requires w.if-is_beyond.true)
      | then-is_beyond-via-else-is_beyond+then-is_full_of_variables w ↦ inr (inl (tells_true _ w.is_full_of_variables.result w.is_full_of_variables.ensures w.if-is_full_of_variables.true))
      | then-is_beyond-via-else-is_beyond+else-is_full_of_variables+then-is_full w ↦ inr (inr (tells_true _ w.is_full.result w.is_full.ensures w.if-is_full.true))
    ])
