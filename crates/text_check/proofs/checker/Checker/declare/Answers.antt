use Rattle.std.proofs.Common.{◌∙◌, ap, rules}
use Rattle.palm_book.specs.Book.{Contents, with_variable}
use Rattle.text_check.specs.Kept.{draft_of}
use Rattle.text_check.proofs.Declaring.{variable_misdeclared}
use Rattle.text_check.proofs.Keeping.{keeps_more}
use Rattle.text_check.proofs.checker.Checker.declare.Goals as goal

pub returns-then-has_variable-clause-takes : goal.returns-then-has_variable-clause-takes
returns-then-has_variable-clause-takes g c =
    let now = c.args.self.now in
    variable_misdeclared g.B.Body.own (draft_of g.B.Body.draft now) (draft_of g.B.Body.draft now) now.listed.book (g.met.B.Body.of_book now.listed.book now.body) c.args.name c.args.domain (c.if-not-may_declare.ensures now.listed.book) c.if-has_variable.ensures

pub returns-clause-takes : goal.returns-clause-takes
returns-clause-takes g c =
    let now = c.args.self.now in
    let said = c.in_ok-declared.ensures.said now.listed.book c.declare.new.self.book ∙ ap (λ (b : Contents). g.B.Body.own.declared (g.B.Body.draft now.listed.book now.body) b) c.in_ok-declare.ensures.ok in search rules

pub returns-clause-kept : goal.returns-clause-kept
returns-clause-kept g c =
    let now = c.args.self.now in
    keeps_more g.B.Body.keeps c.declare.new.self (with_variable now.listed.book c.args.name c.in_ok-values.values) c.declared.new.self c.in_ok-declare.ensures.listed c.in_ok-declare.ensures.ok
    (c.in_ok-declared.ensures.kept now.listed.book c.args.name c.in_ok-values.values c.requires.kept.kept)
