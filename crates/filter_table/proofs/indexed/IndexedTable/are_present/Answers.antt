use Rattle.std.proofs.Common.{◌≡◌, sym, subst, arith}
use Rattle.palm_domain.specs.Rows.{present_of}
use Rattle.filter_table.specs.Table.{HasEntry, row_at}
use Rattle.filter_table.proofs.Entries.{entry_has, entry_lacks, there_fails, there_later}
use Rattle.filter_table.proofs.indexed.IndexedTable.are_present.Goals as goal
use Rattle.filter_table.proofs.indexed.IndexedTable.are_present.Goals.{else-column-own-via-then-column-own+else-not-contains, else-column-own-via-else-column-own}

pub returns-then-not-contains : goal.returns-then-not-contains
returns-then-not-contains c =
    let d = present_of c.args.store.now in
    let vars = c.args.self.now.vars in
    let row = row_at c.args.self.now.rows c.args.place in
    let i = c.loop-column.column in
    there_fails vars row (c.requires.indexed.long c.args.place _ c.requires.place) d i (omega arith) c.loop-column.invariant
    (entry_lacks d vars row i c.pair_at.result c.contains.result c.pair_at.ensures c.contains.ensures c.if-not-contains.true)

pub loop-column-preserved : goal.loop-column-preserved
loop-column-preserved c =
    let d = present_of c.args.store.now in
    let vars = c.args.self.now.vars in
    let row = row_at c.args.self.now.rows c.args.place in
    let i = c.loop-column.column in
    there_later vars row (c.requires.indexed.long c.args.place _ c.requires.place) d i (omega arith) c.loop-column.invariant
    (elim c.else-column-own.branch [
      | else-column-own-via-then-column-own+else-not-contains w ↦
          entry_has d vars row i w.pair_at.result w.contains.result w.pair_at.ensures w.contains.ensures w.if-not-contains.false
      | else-column-own-via-else-column-own w ↦
          let here : i ≡ c.args.own = omega (arith, w.if-column-own.false) in
          subst (HasEntry d vars row) (sym here) c.requires.own
    ])
