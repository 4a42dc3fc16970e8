use Rattle.std.proofs.Common.{rules, ◌≡◌, ap, ◌∙◌}
use Rattle.std.proofs.lemmas.Fn.{filter_same}
use Rattle.palm_repair.specs.Learned.{LearnedView}
use Rattle.palm_repair.specs.Posting.{active_origins}
use Rattle.palm_repair.proofs.learned.Learned.keep_active.Goals as goal

pub returns : goal.returns
returns g c =
    let active = c.args.engine.now.state.active in
    let same = c.self.view_is in
    let kept : c.retain.new.self.items ≡ active_origins active c.self.inside.origins.items = filter_same _ _ _ (λ x b f' k. search rules) _ _ c.retain.ensures.filtered in
    λ i. record {
      nogoods = (same i).nogoods;
      origins = (kept ∙ ap (λ (v : LearnedView). active_origins active v.origins) same) i;
      weights = (same i).weights;
      dropped = (same i).dropped;
    }
