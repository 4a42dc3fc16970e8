use Rattle.std.proofs.Common.{pos, get_or, sym, ◌∙◌}
use Rattle.palm_domain.specs.Rows.{initial_of, present_of}
use Rattle.filter_table.specs.Table.{row_at}
use Rattle.filter_table.proofs.Blocking.{first_blocks, own_stands, present_blocks_none}
use Rattle.filter_table.proofs.Entries.{entry_has}
use Rattle.filter_table.proofs.indexed.IndexedTable.is_blocked_at.Goals as goal

pub returns-then-contains : goal.returns-then-contains
returns-then-contains c =
    let vars = c.args.self.now.vars in
    let row = row_at c.args.self.now.rows c.args.place in
    present_blocks_none (initial_of c.args.store.now) (present_of c.args.store.now) vars (get_or vars c.args.own 0) (get_or row c.args.own (pos 0)) (get_or vars c.args.end 0) (get_or row c.args.end (pos 0)) row
    (entry_has (present_of c.args.store.now) vars row c.args.end c.pair_at.result c.contains.result c.pair_at.ensures c.contains.ensures c.if-contains.true)

pub returns-then-are_declared : goal.returns-then-are_declared
returns-then-are_declared c =
    let vars = c.args.self.now.vars in
    let rows = c.args.self.now.rows in
    let row = row_at rows c.args.place in
    first_blocks (initial_of c.args.store.now) (present_of c.args.store.now) vars (get_or vars c.args.own 0) (get_or row c.args.own (pos 0)) (get_or vars c.args.end 0) (get_or row c.args.end (pos 0)) row
    c.are_present_before.result (own_stands vars rows c.requires.indexed.distinct c.requires.indexed.long c.args.own c.args.place c.requires.own c.requires.place)
    (sym c.are_declared.ensures ∙ c.if-are_declared.true) c.are_present_before.ensures
