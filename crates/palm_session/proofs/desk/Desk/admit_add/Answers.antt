use Rattle.std.proofs.Common.{Any, inl, inr, refl, rules, subst}
use Rattle.palm_base.proofs.cited.Telling.{tells_false, tells_true}
use Rattle.palm_read.specs.Limits.{HasManyRows, names_of}
use Rattle.palm_read.specs.declared.line.Line.TheVariants.{Add}
use Rattle.palm_book.specs.Book.{Contents, HasConstraint}
use Rattle.palm_book.specs.Named.{IsUnknownName, Resolves}
use Rattle.palm_book.proofs.cited.Resolving.{known}
use Rattle.palm_session.proofs.Admitting.{is_over, name_unknown, none_met}
use Rattle.palm_session.proofs.desk.Desk.admit_add.Goals as goal

pub returns-in-Err-UnknownName : goal.returns-in-Err-UnknownName
returns-in-Err-UnknownName g c =
    let s = c.args.self.now.state in
    let line = Add c.args.name c.args.shape in
    let free = subst (λ (b : Contents). HasConstraint b c.args.name → ⊥) c.book.ensures (tells_false _ c.has_constraint.result c.has_constraint.ensures c.if-has_constraint.false) in
    let none : Any (IsUnknownName c.book-2.result.now.variables) (names_of c.args.shape) = search rules in
    name_unknown s line free (subst (λ (b : Contents). Any (IsUnknownName b.variables) (names_of c.args.shape)) c.book-2.ensures none)

pub returns-in-Err-TooLarge : goal.returns-in-Err-TooLarge
returns-in-Err-TooLarge g c =
    let s = c.args.self.now.state in
    let line = Add c.args.name c.args.shape in
    let free = subst (λ (b : Contents). HasConstraint b c.args.name → ⊥) c.book.ensures (tells_false _ c.has_constraint.result c.has_constraint.ensures c.if-has_constraint.false) in
    let large : HasManyRows c.args.shape × (Any (IsUnknownName c.book-2.result.now.variables) (names_of c.args.shape) → ⊥) = search rules in
    let all = subst (λ (b : Contents). Any (IsUnknownName b.variables) (names_of c.args.shape) → ⊥) c.book-2.ensures large.1 in
    is_over s line free all (λ h. h) (inl (inr large.0))

pub returns-then-is_beyond : goal.returns-then-is_beyond
returns-then-is_beyond g c =
    let s = c.args.self.now.state in
    let line = Add c.args.name c.args.shape in
    let free = subst (λ (b : Contents). HasConstraint b c.args.name → ⊥) c.book.ensures (tells_false _ c.has_constraint.result c.has_constraint.ensures c.if-has_constraint.false) in
    let says = subst (λ (b : Contents). Resolves b.variables c.args.shape c.in-Ok.con) c.book-2.ensures c.in-Ok.ensures.says in
    let all = known s.book.variables c.args.shape c.in-Ok.con says in
    is_over s line free all (λ h. h) (inl (tells_true _ c.args.is_beyond c.requires c.if-is_beyond.true))

pub returns-then-is_full : goal.returns-then-is_full
returns-then-is_full g c =
    let s = c.args.self.now.state in
    let line = Add c.args.name c.args.shape in
    let free = subst (λ (b : Contents). HasConstraint b c.args.name → ⊥) c.book.ensures (tells_false _ c.has_constraint.result c.has_constraint.ensures c.if-has_constraint.false) in
    let says = subst (λ (b : Contents). Resolves b.variables c.args.shape c.in-Ok.con) c.book-2.ensures c.in-Ok.ensures.says in
    let all = known s.book.variables c.args.shape c.in-Ok.con says in
    is_over s line free all (λ h. h) (inr (tells_true _ c.is_full.result c.is_full.ensures c.if-is_full.true))

pub returns : goal.returns
returns g c =
    let s = c.args.self.now.state in
    let line = Add c.args.name c.args.shape in
    let free = subst (λ (b : Contents). HasConstraint b c.args.name → ⊥) c.book.ensures (tells_false _ c.has_constraint.result c.has_constraint.ensures c.if-has_constraint.false) in
    let says = subst (λ (b : Contents). Resolves b.variables c.args.shape c.in-Ok.con) c.book-2.ensures c.in-Ok.ensures.says in
    let all = known s.book.variables c.args.shape c.in-Ok.con says in
    record {
      none = none_met s line free all (λ h. h) (λ m. elim m [
        | inl h ↦ tells_false _ c.args.is_beyond c.requires c.if-is_beyond.false h
        | inr h ↦ tells_false _ c.is_full.result c.is_full.ensures c.if-is_full.false h
      ]) (λ h. h) (λ h. h) (λ h. h);
      requests = (c.in-Ok.con, says, refl);
    }
