use Rattle.std.proofs.Common.{◌+◌, refl, ◌∙◌}
use Rattle.palm_base.proofs.cited.Telling.{tells_false, tells_true}
use Rattle.palm_model.specs.Removed.{pairs_of}
use Rattle.filter_table.specs.Ordered.{HasValueAt}
use Rattle.filter_table.proofs.Ordering.{left_alone, put_behind, rest_behind}
use Rattle.filter_table.proofs.ordered.put_pair.Goals as goal

pub returns-in_ok-insert : goal.returns-in_ok-insert
returns-in_ok-insert c before values long is up =
    let out = c.args.out.now.items in
    let p = c.args.pair in
    let tail = rest_behind before (pairs_of p.var values) c.deref.result.now c.args.from (c.deref.ensures ∙ is) long in
    put_behind before values p c.args.from c.count_below.result (c.args.from + c.count_below.result) out long is up (c.count_below.ensures.parted p.var values tail up) refl
    (tells_false (HasValueAt out (c.args.from + c.count_below.result) p.value) c.has_value_at.result (rw c.deref-2.ensures at c.has_value_at.ensures) c.if-not-has_value_at.true) c.insert.new.self.items c.in_ok-insert.ensures.ok

pub returns-else-not-has_value_at : goal.returns-else-not-has_value_at
returns-else-not-has_value_at c before values long is up =
    let out = c.args.out.now.items in
    let p = c.args.pair in
    let tail = rest_behind before (pairs_of p.var values) c.deref.result.now c.args.from (c.deref.ensures ∙ is) long in
    left_alone before values p c.args.from c.count_below.result (c.args.from + c.count_below.result) out long is up (c.count_below.ensures.parted p.var values tail up) refl
    (tells_true (HasValueAt out (c.args.from + c.count_below.result) p.value) c.has_value_at.result (rw c.deref-2.ensures at c.has_value_at.ensures) c.if-not-has_value_at.false)
