use Rattle.std.proofs.Common.{◌≡◌, ◌++◌, ◌-◌, ℤ, Bool, filter, subst, rules, of_calls}
use Rattle.std.specs.Prelude.{OnOk}
use Rattle.palm_model.specs.Count.{is_within_counts}
use Rattle.palm_model.specs.Removed.{pairs_of}
use Rattle.filter_occur.proofs.Reached.{told_test}
use Rattle.filter_occur.proofs.counts.Counts.push_fitting.Goals as goal

pub returns : goal.returns
returns c =
    let counts = c.args.self.now in
    let test : ℤ → Bool = is_within_counts counts.low (counts.high - counts.low) c.args.op in
    subst (λ vs. OnOk c.push_passing.result (c.push_passing.new.out.items ≡ c.args.out.now.items ++ pairs_of c.args.target (filter test vs))) c.initial_values.ensures.values
    (c.push_passing.ensures test (λ v b k. told_test counts c.args.op v b c.requires.ordered (search (rules, of_calls))))
