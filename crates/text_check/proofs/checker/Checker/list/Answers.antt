use Rattle.std.proofs.Common.{◌∙◌, Any, inl, inr, ap, arith, rules}
use Rattle.palm_base.proofs.cited.Telling.{tells_false, tells_true}
use Rattle.palm_book.proofs.cited.Resolving.{known}
use Rattle.palm_book.proofs.cited.WellFormed.{well_formed}
use Rattle.palm_book.specs.Book.{Contents, with_listed}
use Rattle.palm_book.specs.Named.{IsUnknownName}
use Rattle.palm_read.specs.Limits.{HasManyRows, IsBeyond, names_of}
use Rattle.palm_read.specs.declared.line.Line.TheVariants.{Add}
use Rattle.text_check.specs.Kept.{draft_of}
use Rattle.text_check.proofs.Declaring.{constraint_beyond, constraint_misdeclared, constraint_taken}
use Rattle.text_check.proofs.Keeping.{keeps_more}
use Rattle.text_check.proofs.checker.Checker.list.Goals as goal
use Rattle.text_check.proofs.checker.Checker.list.Goals.{then-is_beyond-via-then-is_beyond, then-is_beyond-via-else-is_beyond+then-constraints-ge-MOST_CONSTRAINTS}

pub returns-then-has_constraint-clause-takes : goal.returns-then-has_constraint-clause-takes
returns-then-has_constraint-clause-takes g c =
    let now = c.args.self.now in
    constraint_misdeclared g.B.Body.own (draft_of g.B.Body.draft now) (draft_of g.B.Body.draft now) now.listed.book (g.met.B.Body.of_book now.listed.book now.body) c.args.name c.args.shape (c.if-not-may_list.ensures now.listed.book) (inl c.if-has_constraint.ensures)

pub returns-in-Err-UnknownName-clause-takes : goal.returns-in-Err-UnknownName-clause-takes
returns-in-Err-UnknownName-clause-takes g c =
    let now = c.args.self.now in
    let unknown : Any (IsUnknownName now.listed.book.variables) (names_of c.args.shape) = search rules in
    constraint_misdeclared g.B.Body.own (draft_of g.B.Body.draft now) (draft_of g.B.Body.draft now) now.listed.book (g.met.B.Body.of_book now.listed.book now.body) c.args.name c.args.shape (c.if-not-may_list.ensures now.listed.book)
    (inr unknown)

pub returns-in-Err-TooLarge-clause-takes : goal.returns-in-Err-TooLarge-clause-takes
returns-in-Err-TooLarge-clause-takes g c =
    let now = c.args.self.now in
    let large : HasManyRows c.args.shape × (Any (IsUnknownName now.listed.book.variables) (names_of c.args.shape) → ⊥) = search rules in
    constraint_beyond g.B.Body.own (draft_of g.B.Body.draft now) (draft_of g.B.Body.draft now) now.listed.book (g.met.B.Body.of_book now.listed.book now.body) c.args.name c.args.shape (c.if-not-may_list.ensures now.listed.book)
    (λ m. elim m [ inl h ↦ c.if-has_constraint.ensures h | inr u ↦ large.1 u ]) (inl (inr large.0))

pub returns-then-is_beyond-clause-takes : goal.returns-then-is_beyond-clause-takes
returns-then-is_beyond-clause-takes g c =
    let now = c.args.self.now in
    constraint_beyond g.B.Body.own (draft_of g.B.Body.draft now) (draft_of g.B.Body.draft now) now.listed.book (g.met.B.Body.of_book now.listed.book now.body) c.args.name c.args.shape (c.if-not-may_list.ensures now.listed.book)
    (λ m. elim m [ inl h ↦ c.if-has_constraint.ensures h | inr u ↦ known now.listed.book.variables c.args.shape c.in-Ok.con c.in-Ok.ensures.says u ])
    (elim c.then-is_beyond.branch [
      | then-is_beyond-via-then-is_beyond w ↦ inl (tells_true (IsBeyond (Add c.args.name c.args.shape)) c.args.is_beyond c.requires.beyond w.if-is_beyond.true)
      | then-is_beyond-via-else-is_beyond+then-constraints-ge-MOST_CONSTRAINTS w ↦ inr (omega (arith, w.if-constraints-ge-MOST_CONSTRAINTS.true, w.constraints.ensures.count))
    ])

pub list-requires-clause-formed : goal.list-requires-clause-formed
list-requires-clause-formed g c =
    let within = tells_false (IsBeyond (Add c.args.name c.args.shape)) c.args.is_beyond c.requires.beyond c.if-is_beyond.false in
    well_formed c.args.self.now.listed.book.variables c.args.shape c.in-Ok.con c.in-Ok.ensures.says c.requires.sound.1 c.requires.sound.2 (λ h. within (inl h)) (λ h. within (inr h))

pub returns-clause-takes : goal.returns-clause-takes
returns-clause-takes g c =
    let now = c.args.self.now in
    let within = tells_false (IsBeyond (Add c.args.name c.args.shape)) c.args.is_beyond c.requires.beyond c.if-is_beyond.false in
    constraint_taken g.B.Body.own (draft_of g.B.Body.draft now) _ now.listed.book (g.met.B.Body.of_book now.listed.book now.body) c.args.name c.args.shape (c.if-not-may_list.ensures now.listed.book)
    (λ m. elim m [ inl h ↦ c.if-has_constraint.ensures h | inr u ↦ known now.listed.book.variables c.args.shape c.in-Ok.con c.in-Ok.ensures.says u ])
    c.in-Ok.con within (λ h. omega (arith, h, c.if-constraints-ge-MOST_CONSTRAINTS.false, c.constraints.ensures.count)) c.in-Ok.ensures.says
    (c.listed.ensures.said now.listed.book c.list.new.self.book ∙ ap (λ (b : Contents). g.B.Body.own.listed (g.B.Body.draft now.listed.book now.body) b) c.in_ok-list.ensures.ok)

pub returns-clause-kept : goal.returns-clause-kept
returns-clause-kept g c =
    let now = c.args.self.now in
    keeps_more g.B.Body.keeps c.list.new.self (with_listed now.listed.book c.args.name c.in-Ok.con) c.listed.new.self c.in_ok-list.ensures.listed c.in_ok-list.ensures.ok
    (c.listed.ensures.kept now.listed.book c.args.name c.in-Ok.con c.requires.kept.kept)
