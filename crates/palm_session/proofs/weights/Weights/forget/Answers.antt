use Rattle.std.proofs.Common.{rules, ap, ◌∙◌}
use Rattle.std.proofs.lemmas.Fn.{filter_same}
use Rattle.palm_session.specs.Effects.{without_weight}
use Rattle.palm_session.proofs.weights.Weights.forget.Goals as goal

pub returns : goal.returns
returns c = filter_same _ _ _ (λ x b f' k. search rules) _ _ c.retain.ensures.filtered ∙ ap (without_weight c.args.number) c.self.view_is
