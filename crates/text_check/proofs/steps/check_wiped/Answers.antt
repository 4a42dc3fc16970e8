use Rattle.std.proofs.Common.{ℕ, inl, inr, refl, rules, subst}
use Rattle.palm_book.specs.Named.{IsVariable}
use Rattle.palm_book.proofs.cited.Pairs.{variable_is, variable_known}
use Rattle.palm_claim.specs.Step.{IsReached}
use Rattle.palm_claim.specs.declared.verdict.Claim.TheVariants.{Conflict}
use Rattle.text_check.proofs.steps.check_wiped.Goals as goal

pub returns-in_default-clause-checks : goal.returns-in_default-clause-checks
returns-in_default-clause-checks c = inl (search rules, refl)

pub returns-then-not-is_empty-clause-checks : goal.returns-then-not-is_empty-clause-checks
returns-then-not-is_empty-clause-checks c =
    let book = c.args.listed.now.book in
    let is : IsVariable book.variables c.args.name.now c.in-Some.var = record { declared = c.in-Some.ensures.found.0; named = c.in-Some.ensures.found.1 } in
    inr (λ m. m (variable_known book.variables c.args.name.now c.in-Some.var is), inr (λ h. h, inr (λ h. h, inr (λ h. h, inl ((c.in-Some.var, is, c.if-not-is_empty.ensures.tells), refl)))))

pub returns-clause-checks : goal.returns-clause-checks
returns-clause-checks c =
    let book = c.args.listed.now.book in
    let name = c.args.name.now in
    let is : IsVariable book.variables c.args.name.now c.in-Some.var = record { declared = c.in-Some.ensures.found.0; named = c.in-Some.ensures.found.1 } in
    let reached = c.if-not-is_empty.ensures.tells in
    let certain : ((x : ℕ) × IsVariable book.variables name x × (IsReached book c.args.proved.now (Conflict x) → ⊥)) → ⊥ = λ w. w.2 (subst (λ y. IsReached book c.args.proved.now (Conflict y)) (variable_is book.variables name c.in-Some.var w.0 c.requires.listed.formed.different_variables is w.1) reached) in
    (is, reached, (λ m. m (variable_known book.variables name c.in-Some.var is), (λ h. h, (λ h. h, (λ h. h, (certain, tt))))))
