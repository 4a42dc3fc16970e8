use Rattle.std.proofs.Common.{int_cmp, is_lt, rules, of_calls}
use Rattle.std.proofs.lemmas.Fn.{always_returns_same}
use Rattle.palm_explain.proofs.RowSpans.{low_parted, rest_at, rest_from}
use Rattle.palm_explain.proofs.rows.Row.first_from.Goals as goal

pub returns : goal.returns
returns c n high =
    let r = c.args.self.now in
    let vs = r.values.items in
    let low = c.args.low in
    let items = c.deref.result.now in
    let at = c.partition_point.ensures.partitioned (λ v. is_lt (int_cmp v low)) (always_returns_same _ _ _ (λ a r f k. search (rules, of_calls))) (rw (← c.deref.ensures.value) at (low_parted vs c.requires.ascends low)) in
    rest_from r n high low c.partition_point.result (rw c.deref.ensures.value at at.0) (rw c.deref.ensures.value at at.1)

pub returns-in-Some : goal.returns-in-Some
returns-in-Some c n high =
    let f = c.in-Some.ensures in
    rest_at c.args.self.now n high c.args.low c.in-Some.place c.requires.ascends f.0 f.1
