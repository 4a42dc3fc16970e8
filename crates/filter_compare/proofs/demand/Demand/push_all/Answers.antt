use Rattle.std.proofs.Common.{◌≡◌, ◌++◌, true, subst, rules, of_calls}
use Rattle.std.specs.Prelude.{OnOk}
use Rattle.palm_model.specs.Removed.{pairs_of}
use Rattle.filter_compare.proofs.Ends.{all_of}
use Rattle.filter_compare.proofs.demand.Demand.push_all.Goals as goal

pub returns : goal.returns
returns c =
    let x = c.args.self.now.var in
    subst (λ vs. OnOk c.push_passing.result (c.push_passing.new.out.items ≡ c.args.out.now.items ++ pairs_of x vs)) (all_of c.args.values.now)
    (c.push_passing.ensures (λ v. true) (λ v b k. search (rules, of_calls)))
