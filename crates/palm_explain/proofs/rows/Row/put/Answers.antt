use Rattle.std.proofs.Common.{◌∙◌}
use Rattle.palm_explain.proofs.RowNumbers.{set_found, set_other}
use Rattle.palm_explain.proofs.rows.Row.put.Goals as goal

pub returns-clause-there : goal.returns-clause-there
returns-clause-there c =
    let r = c.place_for.new.self in
    let f = c.in_ok-place.ensures.found in
    let formed = c.place_for.ensures.formed in
    set_found r.values.items r.numbers.items c.in_ok-place.place c.args.value c.args.number formed.ascends formed.numbers f.0 f.1

pub returns-clause-others : goal.returns-clause-others
returns-clause-others c v differs =
    let r = c.place_for.new.self in
    let f = c.in_ok-place.ensures.found in
    set_other r.values.items r.numbers.items c.in_ok-place.place c.args.value v c.args.number f.1 f.0 differs ∙ c.place_for.ensures.others v differs
