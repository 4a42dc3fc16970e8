use Rattle.std.proofs.Common.{ℕ, ℤ, ◌∙◌, All, List, inl, inr, refl, rules, subst, sym}
use Rattle.palm_base.specs.declared.terms.Pair.{Pair}
use Rattle.palm_book.specs.Book.{Contents, HasConstraint, initial_of}
use Rattle.palm_book.specs.Named.{IsPair}
use Rattle.palm_book.proofs.cited.Pairs.{pair_declared, pair_is}
use Rattle.palm_claim.proofs.cited.ProvedSteps.{constraint_known, found_at, lacks_at, pairs_declared, reasons_early, reasons_fit, right_at, some_late}
use Rattle.palm_claim.specs.Step.{IsRight}
use Rattle.palm_claim.specs.declared.verdict.Cause.TheVariants.{Misdeclared}
use Rattle.palm_model.specs.Domains.{Has}
use Rattle.text_check.specs.Steps.{MeetsStep}
use Rattle.text_check.proofs.steps.check_step.Goals as goal

-- a declared pair and a listed constraint are not misdeclared
known : (book : Contents) (proved : List Pair) (pair : Pair) (by reasons : List ℕ) → Has (initial_of book) pair.var pair.value → HasConstraint book by
    → (name : List ℕ) (value : ℤ) → IsPair book.variables name value pair → MeetsStep book proved name value by reasons Misdeclared → ⊥
known book proved pair by reasons has listed name value is m = elim m [ inl h ↦ h (pair_declared book name value pair is has) | inr h ↦ h listed ]

pub returns-in_default-clause-checks : goal.returns-in_default-clause-checks
returns-in_default-clause-checks c name value is = inl (inr (search rules), refl)

pub returns-then-not-are_proved-clause-checks : goal.returns-then-not-are_proved-clause-checks
returns-then-not-are_proved-clause-checks c name value is =
    let book = c.args.listed.now.book in
    let by = c.args.by.now in
    let at = found_at book.constraints c.in-Some.place by c.in-Some.ensures.found.0 c.in-Some.ensures.found.1 in
    let listed = constraint_known book.constraints c.in-Some.place by at.0 at.1 at.2 in
    inr (known book c.args.proved.now c.args.pair.now by c.args.reasons.now c.requires.declared listed name value is, inr (λ h. h, inl (some_late c.args.proved.now c.args.reasons.now c.if-not-are_proved.ensures, refl)))

pub lacks_support-requires-clause-removed : goal.lacks_support-requires-clause-removed
lacks_support-requires-clause-removed c =
    let Declared : Pair → Type 0 = λ q. Has (initial_of c.args.listed.now.book) q.var q.value in
    let fit = reasons_fit c.args.proved.now c.args.reasons.now c.requires.sound c.if-not-are_proved.ensures in
    subst (All Declared) (sym (c.deref.ensures.value ∙ c.in_ok-pairs.ensures)) (pairs_declared Declared c.args.proved.now c.args.reasons.now c.requires.proved fit)

pub returns-then-not-lacks_support-clause-checks : goal.returns-then-not-lacks_support-clause-checks
returns-then-not-lacks_support-clause-checks c name value is =
    let book = c.args.listed.now.book in
    let proved = c.args.proved.now in
    let reasons = c.args.reasons.now in
    let by = c.args.by.now in
    let p = c.args.pair.now in
    let at = found_at book.constraints c.in-Some.place by c.in-Some.ensures.found.0 c.in-Some.ensures.found.1 in
    let listed = constraint_known book.constraints c.in-Some.place by at.0 at.1 at.2 in
    let wrong : IsRight book proved p by reasons → ⊥ = λ right.
    let lacks = lacks_at book proved p by reasons c.in-Some.place at.0 c.requires.listed.formed.different_constraints at.1 at.2 right in
    c.if-not-lacks_support.ensures.tells at.0 at.1 (rw (c.deref.ensures.value, c.in_ok-pairs.ensures) lacks) in
    inr (known book proved p by reasons c.requires.declared listed name value is, inr (λ h. h, inr (reasons_early proved reasons c.if-not-are_proved.ensures, inl ((p, is, wrong), refl))))

pub returns-clause-checks : goal.returns-clause-checks
returns-clause-checks c =
    let book = c.args.listed.now.book in
    let proved = c.args.proved.now in
    let reasons = c.args.reasons.now in
    let by = c.args.by.now in
    let p = c.args.pair.now in
    let place = c.in-Some.place in
    let at = found_at book.constraints place by c.in-Some.ensures.found.0 c.in-Some.ensures.found.1 in
    let listed = constraint_known book.constraints place by at.0 at.1 at.2 in
    let right = right_at book proved p by reasons place at.0 at.1 at.2 (rw (c.deref.ensures.value, c.in_ok-pairs.ensures) at (c.if-not-lacks_support.ensures.tells at.0 at.1)) in
    record {
      owner = at.0;
      at = at.1;
      named = at.2;
      right = right;
      none = λ name value is. (
        known book proved p by reasons c.requires.declared listed name value is,
        (
          λ h. h,
          (
            reasons_early proved reasons c.if-not-are_proved.ensures,
            (
              λ w. w.2 (subst (λ (q : Pair). IsRight book proved q by reasons) (pair_is book.variables name value p w.0 c.requires.listed.formed.different_variables is w.1) right),
              (λ h. h, tt),
            ),
          ),
        ),
      );
    }
