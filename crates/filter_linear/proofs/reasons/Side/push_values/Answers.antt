use Rattle.std.proofs.Common.{◌≡◌, ◌++◌, ◌∙◌, true, subst, rules, of_calls}
use Rattle.std.specs.Prelude.{OnOk}
use Rattle.palm_model.specs.Removed.{pairs_of}
use Rattle.filter_linear.proofs.Beyond.{all_of}
use Rattle.filter_linear.proofs.reasons.Side.push_values.Goals as goal

pub returns : goal.returns
returns c =
    subst (λ vs. OnOk c.push_passing.result (c.push_passing.new.out.items ≡ c.args.out.now.items ++ pairs_of c.args.term.now.var vs)) (all_of c.values_beyond.result.now ∙ c.values_beyond.ensures)
    (c.push_passing.ensures (λ v. true) (λ v b k. search (rules, of_calls)))
