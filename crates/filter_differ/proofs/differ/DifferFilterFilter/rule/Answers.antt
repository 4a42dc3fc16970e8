use Rattle.std.proofs.Common.{◌≡◌, List, ℕ, ap, ◌∙◌, subst, arith}
use Rattle.std.proofs.lemmas.Int.{ints}
use Rattle.palm_domain.specs.Rows.{initial_of, present_of}
use Rattle.palm_filter.specs.Rules.{written}
use Rattle.palm_model.specs.Differ.{differ_reason}
use Rattle.palm_model.specs.Reason.{reason}
use Rattle.filter_differ.proofs.differ.DifferFilterFilter.rule.Goals as goal

pub returns : goal.returns
returns c w low high wants =
    let initial = initial_of c.args.store.now in
    let present = present_of c.args.store.now in
    let con = c.args.self.now in
    let x = c.args.pair.now.var in
    let v = c.args.pair.now.value in
    let same : v ≡ w = omega (arith, ints, low, high) in
    subst (λ u. written initial con c.rule_of.result c.args._out.now.items x u ≡ reason initial present con x u) same
    (c.rule_of.ensures con c.args._out.now.items
    ∙ ap (λ (vars : List ℕ). differ_reason initial present vars x v) c.as_slice.ensures
    ∙ ap (λ k. reason initial present k x v) c.self.view_is)
