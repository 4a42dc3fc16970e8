use Rattle.std.proofs.Common.{◌≡◌, ◌++◌, ◌-◌, ℕ, ℤ, List, Some, filter, length, slice_get, sym, ap, ◌∙◌, subst, arith}
use Rattle.std.proofs.lemmas.Int.{ints}
use Rattle.std.proofs.lemmas.Option.{slice_get-get_or}
use Rattle.palm_domain.specs.Rows.{initial_of, present_of}
use Rattle.palm_filter.specs.Rules.{listed_pairs}
use Rattle.palm_filter.specs.declared.rule.Interval.{Interval}
use Rattle.palm_model.specs.Reason.{WantsReason}
use Rattle.palm_model.specs.Removed.{pairs_of}
use Rattle.palm_model.specs.Table.{table_reason}
use Rattle.filter_table.specs.Table.{table_of}
use Rattle.filter_table.proofs.Besides.{other_variable, stands_told}
use Rattle.filter_table.proofs.Partners.{other_of_two, partners_reason, stands_beside}
use Rattle.filter_table.proofs.indexed.IndexedTable.rule.Goals as goal

pub returns : goal.returns
returns c w low high wants =
    let t = c.args.self.now in
    let initial = initial_of c.args.store.now in
    let present = present_of c.args.store.now in
    let x = c.args.pair.now.var in
    let v = c.args.pair.now.value in
    let own = c.column_of_two-own.result in
    let y = c.index-as_slice-own.result in
    let b = c.in-Some.beside.now in
    let out = c.push_intervals.new.out.items in
    let test : ℤ → _ = stands_beside t.vars t.rows x v y in
    let two : length t.vars ≡ 2 = omega (arith, c.len.ensures, c.if-len-ne2.false) in
    let at : slice_get t.vars own ≡ Some x = ap (λ (vs : List ℕ). slice_get vs own) (sym c.as_slice.ensures) ∙ c.column_of_two-own.ensures in
    let at_other : slice_get t.vars (1 - own) ≡ Some y = other_variable t.vars two own c.as_slice-2.result.now y c.as_slice-2.ensures c.index-as_slice-own.is in
    let found = rw c.deref.ensures.value at c.in-Some.ensures.lookup in
    let lookup = slice_get-get_or t.besides.items own b found.3.0 ∙ ap Some (sym found.1) in
    let listed : listed_pairs initial out ≡ listed_pairs initial c.clear.new.self.items ++ pairs_of y (filter test c.initial_values.result.now) =
    c.in_ok-push_intervals.ensures initial test (sym c.initial_values.ensures.values) (stands_told t c.requires.indexed own x y v at at_other b lookup) in
    let same : v ≡ w = omega (arith, ints, low, high) in
    let one = other_of_two t.vars x y own two c.requires.indexed.distinct at at_other in
    let wanted = subst (λ u. WantsReason initial present (table_of t) x u) (sym same) wants in
    listed
    ∙ ap (λ (is : List Interval). listed_pairs initial is ++ pairs_of y (filter test c.initial_values.result.now)) c.clear.ensures.items
    ∙ ap (λ vs. pairs_of y (filter test vs)) c.initial_values.ensures.values
    ∙ partners_reason initial present t.vars t.rows x y v wanted c.requires.indexed.long one
    ∙ ap (λ u. table_reason initial present t.vars t.rows x u) same
