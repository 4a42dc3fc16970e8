use Rattle.std.proofs.Common.{◌≡◌, ◌++◌, ◌-◌, filter, ap, ◌∙◌, rules}
use Rattle.std.proofs.lemmas.Result.{on_ok_weaker}
use Rattle.palm_domain.specs.Rows.{initial_of, present_of}
use Rattle.palm_model.specs.Domains.{values_of}
use Rattle.palm_model.specs.Count.{is_within_counts, target_pairs}
use Rattle.palm_model.specs.Removed.{pairs_of}
use Rattle.filter_occur.proofs.CountSupport.{targets_written}
use Rattle.filter_occur.proofs.rule.CountRule.push_targets.Goals as goal

pub returns-in-Some : goal.returns-in-Some
returns-in-Some c =
    let o = c.args.self.now in
    let counts = c.in-Some.counts in
    let initial = initial_of c.args.store.now in
    let present = present_of c.args.store.now in
    let before = c.args.out.now.items in
    let out = c.push_fitting.new.out.items in
    let y = c.in-Variable.target in
    on_ok_weaker {P = out ≡ before ++ pairs_of y (filter (is_within_counts counts.low (counts.high - counts.low) o.op) (values_of initial y))}
    {Q = out ≡ before ++ target_pairs initial present o.value o.vars o.op o.target c.args.pair.now.var c.args.pair.now.value} c.push_fitting.result
    (λ e. e ∙ ap (λ ps. before ++ ps) (targets_written initial present o c.args.pair.now.var c.args.pair.now.value y counts c.in-Variable.is (search rules) c.requires.distinct c.requires.over c.in-Some.ensures.counts))
    c.push_fitting.ensures
