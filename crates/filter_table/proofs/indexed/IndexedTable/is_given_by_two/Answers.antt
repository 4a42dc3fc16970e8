use Rattle.std.proofs.Common.{◌-◌, ◌<◌, length, refl, arith}
use Rattle.palm_domain.specs.Rows.{present_of}
use Rattle.palm_model.specs.Table.{are_there, row_pairs}
use Rattle.filter_table.specs.Table.{row_at}
use Rattle.filter_table.proofs.Columned.{beside, no_row_more, none_gives, two_fails, two_gives}
use Rattle.filter_table.proofs.indexed.IndexedTable.is_given_by_two.Goals as goal

pub returns-then-contains : goal.returns-then-contains
returns-then-contains c =
    let t = c.args.self.now in
    let i = c.loop-place.place-index in
    let other : 1 - c.args.own < length t.vars = omega (arith, c.requires.two) in
    let within = c.places-place-items.ensures.within i _ c.loop-place-test.true in
    two_gives t c.requires.indexed c.requires.two (present_of c.args.store.now) c.args.own c.args.pair.var c.args.pair.value c.requires.own c.requires.present _ within
    (c.places-place-items.ensures.stands i _ c.loop-place-test.true) _
    (beside t c.requires.indexed (1 - c.args.own) _ c.as_slice.result.now c.index-as_slice-own.result c.index.result.now c.values-entries.result.now c.index-entries-place.result
    c.as_slice.ensures other within c.index-as_slice-own.is c.index.ensures c.values-entries.ensures c.index-entries-place.is)
    c.contains.result c.contains.ensures c.if-contains.true

pub loop-place-preserved : goal.loop-place-preserved
loop-place-preserved c =
    let t = c.args.self.now in
    let i = c.loop-place.place-index in
    let other : 1 - c.args.own < length t.vars = omega (arith, c.requires.two) in
    let within = c.places-place-items.ensures.within i _ c.loop-place-test.true in
    no_row_more (λ row. are_there (present_of c.args.store.now) (row_pairs t.vars row)) t.rows c.places-place-items.result.now i (row_at t.rows _) _ c.loop-place-test.true refl
    (two_fails t c.requires.indexed c.requires.two (present_of c.args.store.now) c.args.own c.args.pair.var c.args.pair.value c.requires.own c.requires.present _ within
    (c.places-place-items.ensures.stands i _ c.loop-place-test.true) _
    (beside t c.requires.indexed (1 - c.args.own) _ c.as_slice.result.now c.index-as_slice-own.result c.index.result.now c.values-entries.result.now c.index-entries-place.result
    c.as_slice.ensures other within c.index-as_slice-own.is c.index.ensures c.values-entries.ensures c.index-entries-place.is)
    c.contains.result c.contains.ensures c.if-contains.false) c.loop-place.invariant

pub returns : goal.returns
returns c =
    none_gives c.args.self.now.vars c.args.self.now.rows c.places-place-items.result.now c.args.pair.var c.args.pair.value c.places-place-items.ensures.every
    (present_of c.args.store.now) (λ j d lt. c.loop-place.invariant j d (omega arith) (omega arith))
