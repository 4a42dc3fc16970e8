use Rattle.std.proofs.Common.{◌≡◌, sym, subst, arith}
use Rattle.palm_domain.specs.Rows.{initial_of}
use Rattle.filter_table.specs.Table.{HasEntry, row_at}
use Rattle.filter_table.proofs.Entries.{entry_has, entry_lacks, there_fails, there_later}
use Rattle.filter_table.proofs.indexed.IndexedTable.are_declared.Goals as goal
use Rattle.filter_table.proofs.indexed.IndexedTable.are_declared.Goals.{else-column-own-via-then-column-own+else-not-declared, else-column-own-via-else-column-own}

pub returns-then-not-declared : goal.returns-then-not-declared
returns-then-not-declared c =
    let d = initial_of c.args.store.now in
    let vars = c.args.self.now.vars in
    let row = row_at c.args.self.now.rows c.args.place in
    let i = c.loop-column.column in
    there_fails vars row (c.requires.indexed.long c.args.place _ c.requires.place) d i (omega arith) c.loop-column.invariant
    (entry_lacks d vars row i c.pair_at.result c.declared.result c.pair_at.ensures c.declared.ensures.tells c.if-not-declared.true)

pub loop-column-preserved : goal.loop-column-preserved
loop-column-preserved c =
    let d = initial_of c.args.store.now in
    let vars = c.args.self.now.vars in
    let row = row_at c.args.self.now.rows c.args.place in
    let i = c.loop-column.column in
    there_later vars row (c.requires.indexed.long c.args.place _ c.requires.place) d i (omega arith) c.loop-column.invariant
    (elim c.else-column-own.branch [
      | else-column-own-via-then-column-own+else-not-declared w ↦
          entry_has d vars row i w.pair_at.result w.declared.result w.pair_at.ensures w.declared.ensures.tells w.if-not-declared.false
      | else-column-own-via-else-column-own w ↦
          let here : i ≡ c.args.own = omega (arith, w.if-column-own.false) in
          subst (HasEntry d vars row) (sym here) c.requires.own
    ])
