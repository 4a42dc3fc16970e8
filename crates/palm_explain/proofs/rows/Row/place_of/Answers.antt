use Rattle.palm_explain.proofs.RowNumbers.{between_free, between_in, found_in, number_none}
use Rattle.palm_explain.proofs.rows.Row.place_of.Goals as goal

pub returns-in-Ok : goal.returns-in-Ok
returns-in-Ok c = found_in c.args.self.now.values.items c.args.value c.binary_search.result c.in-Ok.place c.in-Ok.is (rw c.deref.ensures.value at c.binary_search.ensures.bound) (rw c.deref.ensures.value at c.binary_search.ensures.position)

pub returns-in-Err : goal.returns-in-Err
returns-in-Err c =
    let r = c.args.self.now in
    let i = c.in-Err.field-0 in
    let b = between_in r.values.items c.args.value c.binary_search.result i c.in-Err.is c.requires.ascends (rw c.deref.ensures.value at c.binary_search.ensures.bound) (rw c.deref.ensures.value at c.binary_search.ensures.position) in
    number_none r.values.items r.numbers.items c.args.value (between_free r.values.items c.args.value i b)
