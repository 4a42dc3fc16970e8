use Rattle.std.proofs.Common.{sym, ap, ◌∙◌, ◌++◌}
use Rattle.palm_base.proofs.cited.Telling.{tells_true, tells_false}
use Rattle.palm_domain.specs.Rows.{initial_of}
use Rattle.palm_model.specs.Element.{outcomes_at}
use Rattle.palm_model.specs.Removed.{pairs_of}
use Rattle.filter_element.proofs.Elements.{declared_outcomes, missing_outcomes, undeclared_outcomes, none_written}
use Rattle.filter_element.proofs.rule.ElementRule.push_outcome.Goals as goal

pub returns-in_default : goal.returns-in_default
returns-in_default c =
    let e = c.args.self.now in
    let initial = initial_of c.args.store.now in
    none_written c.args.out.now.items e.outcome (outcomes_at initial e.outcome e.entries c.args.index.now)
    (missing_outcomes initial e.outcome e.entries c.args.index.now (λ w has at. c.in_default.not-Some w (c.entry.ensures ∙ at)))

pub returns-in_ok-push : goal.returns-in_ok-push
returns-in_ok-push c =
    let e = c.args.self.now in
    let initial = initial_of c.args.store.now in
    c.in_ok-push.ensures.ok
    ∙ ap (λ ws. c.args.out.now.items ++ pairs_of e.outcome ws)
    (sym (declared_outcomes initial e.outcome e.entries c.args.index.now c.declared.ensures.ascend c.in-Some.entry (sym c.entry.ensures ∙ c.in-Some.is) (tells_true _ c.declared.result c.declared.ensures.tells c.if-declared.true)))

pub returns-else-declared : goal.returns-else-declared
returns-else-declared c =
    let e = c.args.self.now in
    let initial = initial_of c.args.store.now in
    none_written c.args.out.now.items e.outcome (outcomes_at initial e.outcome e.entries c.args.index.now)
    (undeclared_outcomes initial e.outcome e.entries c.args.index.now c.in-Some.entry (sym c.entry.ensures ∙ c.in-Some.is) (tells_false _ c.declared.result c.declared.ensures.tells c.if-declared.false))
