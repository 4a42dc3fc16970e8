use Rattle.std.proofs.Common.{rules, of_calls, not, subst, ◌≡◌, ◌++◌}
use Rattle.std.specs.Prelude.{OnOk, filter}
use Rattle.palm_domain.specs.Rows.{present_of}
use Rattle.palm_model.specs.Domains.{values_of}
use Rattle.palm_model.specs.Removed.{is_listed, pairs_of}
use Rattle.palm_filter.proofs.reasons.push_removed.Goals as goal

pub returns : goal.returns
returns c =
    let present = values_of (present_of c.args.store.now) c.args.var in
    subst (λ vs. OnOk c.push_passing.result (c.push_passing.new.out.items ≡ c.args.out.now.items ++ pairs_of c.args.var (filter (λ v. not (is_listed present v)) vs))) c.initial_values.ensures.values
    (c.push_passing.ensures (λ v. not (is_listed present v)) (λ v b k. search (rules, of_calls)))
