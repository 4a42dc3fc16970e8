use Rattle.std.proofs.Common.{◌≡◌, List, filter, option_copied, option_map, take_all, sym, ap, ◌∙◌, subst, rules}
use Rattle.palm_guide.specs.declared.guide.ViewRow.{ViewRow}
use Rattle.palm_guide.specs.Picks.{IsPick, least_pair}
use Rattle.palm_guide.specs.Choices.{best_among}
use Rattle.palm_guide.proofs.Best.{pick_of_best}
use Rattle.palm_guide.proofs.preference.best_pair.Goals as goal

mapped : (g : _) (c : goal.After-map g) → c.map.result ≡ option_map least_pair (option_copied c.loop-row.best)
mapped g c = search rules

pub returns : goal.returns
returns g c =
    let beats = g.P.Preference.beats c.args.preference.now in
    let allows = g.P.Preference.allows c.args.preference.now in
    subst (IsPick beats (filter allows c.args.view.now))
    (sym (mapped g c ∙ ap (option_map least_pair) c.loop-row.invariant
    ∙ ap (λ (rows : List ViewRow). option_map least_pair (best_among beats (filter allows rows))) (take_all c.loop-row.row-index c.args.view.now c.loop-row-test.false)))
    (pick_of_best beats (g.met.P.Preference.ranks c.args.preference.now) (filter allows c.args.view.now))
