use Rattle.std.proofs.Common.{◌+ℤ◌}
use Rattle.palm_domain.specs.Rows.{initial_of}
use Rattle.palm_filter.proofs.Listing.{listed_sides}
use Rattle.palm_filter.proofs.cited.Written.{on_ok}
use Rattle.palm_filter.proofs.intervals.push_others.Goals as goal

pub returns : goal.returns
returns c =
    let d = initial_of c.args.store.now in
    on_ok _ _ c.push_interval-2.result
    (λ e. listed_sides d c.args.shift.now.var (c.args.value.now +ℤ c.args.shift.now.by) c.count_below.result c.count_up_to.result c.count_of.result c.count_below.ensures c.count_up_to.ensures c.count_of.ensures
    c.args.out.now.items c.push_interval.new.out.items c.push_interval-2.new.out.items (c.in_ok-push_interval.ensures d) e)
    (c.push_interval-2.ensures d)
