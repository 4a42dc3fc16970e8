use Rattle.std.proofs.Common.{◌≡◌, ◌<◌, length, drop, sym, subst, arith}
use Rattle.palm_domain.specs.Rows.{present_of}
use Rattle.palm_model.specs.Table.{first_missing, row_pairs}
use Rattle.filter_table.specs.Table.{HasEntry, row_at}
use Rattle.filter_table.proofs.Columned.{columns_apart}
use Rattle.filter_table.proofs.Entries.{entry_has, entry_lacks, is_first, is_not_first, missing_here, missing_later}
use Rattle.filter_table.proofs.indexed.IndexedTable.are_present_before.Goals as goal
use Rattle.filter_table.proofs.indexed.IndexedTable.are_present_before.Goals.{else-column-own-via-then-column-own+else-not-contains, else-column-own-via-else-column-own}

pub returns-then-not-contains : goal.returns-then-not-contains
returns-then-not-contains c =
    let d = present_of c.args.store.now in
    let vars = c.args.self.now.vars in
    let row = row_at c.args.self.now.rows c.args.place in
    let i = c.loop-column.column in
    let lt : i < length vars = omega (arith, c.loop-column-test.true, c.requires.end) in
    is_not_first d vars row i c.args.end (columns_apart vars c.requires.indexed.distinct i c.args.end c.loop-column-test.true c.requires.end)
    (missing_here vars row (c.requires.indexed.long c.args.place _ c.requires.place) d i lt c.loop-column.invariant
    (entry_lacks d vars row i c.pair_at.result c.contains.result c.pair_at.ensures c.contains.ensures c.if-not-contains.true))

pub loop-column-preserved : goal.loop-column-preserved
loop-column-preserved c =
    let d = present_of c.args.store.now in
    let vars = c.args.self.now.vars in
    let row = row_at c.args.self.now.rows c.args.place in
    let i = c.loop-column.column in
    let lt : i < length vars = omega (arith, c.loop-column-test.true, c.requires.end) in
    missing_later vars row (c.requires.indexed.long c.args.place _ c.requires.place) d i lt c.loop-column.invariant
    (elim c.else-column-own.branch [
      | else-column-own-via-then-column-own+else-not-contains w ↦
          entry_has d vars row i w.pair_at.result w.contains.result w.pair_at.ensures w.contains.ensures w.if-not-contains.false
      | else-column-own-via-else-column-own w ↦
          let here : i ≡ c.args.own = omega (arith, w.if-column-own.false) in
          subst (HasEntry d vars row) (sym here) c.requires.own
    ])

pub returns : goal.returns
returns c =
    let d = present_of c.args.store.now in
    let vars = c.args.self.now.vars in
    let row = row_at c.args.self.now.rows c.args.place in
    let here : c.loop-column.column ≡ c.args.end = omega arith in
    is_first d vars row c.args.end
    (missing_here vars row (c.requires.indexed.long c.args.place _ c.requires.place) d c.args.end c.requires.end
    (subst (λ i. first_missing d (row_pairs vars row) ≡ first_missing d (row_pairs (drop i vars) (drop i row))) here c.loop-column.invariant)
    c.requires.missing)
