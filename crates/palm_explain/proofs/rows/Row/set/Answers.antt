use Rattle.std.proofs.Common.{◌≡◌, ◌<◌, None, length, slice_index_or, MatchOption, subst}
use Rattle.palm_explain.specs.Rows.{number_in}
use Rattle.palm_explain.proofs.RowNumbers.{set_found, set_other}
use Rattle.palm_explain.proofs.rows.Row.set.Goals as goal

pub returns-clause-there : goal.returns-clause-there
returns-clause-there c =
    let r = c.args.self.now in
    let v = c.args.value in
    let at = subst (λ o. MatchOption o (number_in r.values.items r.numbers.items v ≡ None) (λ i. (i < length r.values.items) × (slice_index_or r.values.items i v ≡ v))) c.unwrap-place.ensures c.place_of.ensures in
    set_found r.values.items r.numbers.items c.unwrap-place.result v c.args.number c.requires.formed.ascends c.requires.formed.numbers at.0 at.1

pub returns-clause-others : goal.returns-clause-others
returns-clause-others c w differs =
    let r = c.args.self.now in
    let v = c.args.value in
    let at = subst (λ o. MatchOption o (number_in r.values.items r.numbers.items v ≡ None) (λ i. (i < length r.values.items) × (slice_index_or r.values.items i v ≡ v))) c.unwrap-place.ensures c.place_of.ensures in
    set_other r.values.items r.numbers.items c.unwrap-place.result v w c.args.number at.1 at.0 differs
