use Rattle.std.proofs.Common.{◌+ℤ◌, ap, sym, ◌∙◌}
use Rattle.palm_domain.specs.Rows.{initial_of}
use Rattle.palm_filter.specs.Rules.{interval_pairs, written}
use Rattle.palm_filter.specs.declared.rule.Rule.{Rule}
use Rattle.palm_filter.proofs.Listing.{listed_alone, pairs_at, pairs_from, pairs_up_to}
use Rattle.palm_filter.proofs.intervals.write_out.Goals as goal

pub returns-in-Above : goal.returns-in-Above
returns-in-Above c con x =
    let d = initial_of c.args.store.now in
    let s = c.in-Above.shift in
    let n = c.args.value.now +ℤ s.by in
    let pairs = interval_pairs d (record { var = s.var; first = c.count_below.result; end = c.count_of.result }) in
    listed_alone d c.clear.new.self.items c.push_interval.new.out.items pairs (written d con c.args.rule.now c.args.out.now.items x c.args.value.now) c.push_interval.result c.clear.ensures.items
    (pairs_from d s.var n c.count_below.result c.count_of.result c.count_below.ensures c.count_of.ensures
    ∙ sym (ap (λ (r : Rule). written d con r c.args.out.now.items x c.args.value.now) c.in-Above.is))
    (c.push_interval.ensures d)

pub returns-in-Below : goal.returns-in-Below
returns-in-Below c con x =
    let d = initial_of c.args.store.now in
    let s = c.in-Below.shift in
    let n = c.args.value.now +ℤ s.by in
    let pairs = interval_pairs d (record { var = s.var; first = 0; end = c.count_up_to.result }) in
    listed_alone d c.clear.new.self.items c.push_interval-in-Below.new.out.items pairs (written d con c.args.rule.now c.args.out.now.items x c.args.value.now) c.push_interval-in-Below.result c.clear.ensures.items
    (pairs_up_to d s.var n c.count_up_to.result c.count_up_to.ensures
    ∙ sym (ap (λ (r : Rule). written d con r c.args.out.now.items x c.args.value.now) c.in-Below.is))
    (c.push_interval-in-Below.ensures d)

pub returns-in-At : goal.returns-in-At
returns-in-At c con x =
    let d = initial_of c.args.store.now in
    let s = c.in-At.shift in
    let n = c.args.value.now +ℤ s.by in
    let pairs = interval_pairs d (record { var = s.var; first = c.count_below-in-At.result; end = c.count_up_to-in-At.result }) in
    listed_alone d c.clear.new.self.items c.push_interval-in-At.new.out.items pairs (written d con c.args.rule.now c.args.out.now.items x c.args.value.now) c.push_interval-in-At.result c.clear.ensures.items
    (pairs_at d s.var n c.count_below-in-At.result c.count_up_to-in-At.result c.count_below-in-At.ensures c.count_up_to-in-At.ensures
    ∙ sym (ap (λ (r : Rule). written d con r c.args.out.now.items x c.args.value.now) c.in-At.is))
    (c.push_interval-in-At.ensures d)
