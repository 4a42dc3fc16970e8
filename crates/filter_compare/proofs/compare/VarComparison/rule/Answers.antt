use Rattle.std.proofs.Common.{sym, ◌∙◌, eqb-true, eq-eqb}
use Rattle.std.proofs.lemmas.Bool.{both_ways}
use Rattle.filter_compare.proofs.Rules.{left_always, right_always}
use Rattle.filter_compare.proofs.Shapes.{left_offset, right_offset}
use Rattle.filter_compare.proofs.compare.VarComparison.rule.Goals as goal

pub returns-then-eq : goal.returns-then-eq
returns-then-eq c =
    left_always c.args.self.now c.args.pair.now.var c.rule_of.result c.flipped.result _
    (eqb-true c.args.pair.now.var c.args.self.now.left (sym c.eq.ensures ∙ c.if-eq.true)) c.flipped.ensures
    (right_offset c.args.self.now.offset c.requires.formed.1.shaped) c.rule_of.ensures

pub returns-else-eq : goal.returns-else-eq
returns-else-eq c =
    right_always c.args.self.now c.args.pair.now.var c.rule_of-else-eq.result _
    (λ e. both_ways c.eq.result c.if-eq.false (c.eq.ensures ∙ eq-eqb c.args.pair.now.var c.args.self.now.left e))
    (left_offset c.args.self.now.offset c.requires.formed.1.shaped) c.rule_of-else-eq.ensures
