use Rattle.std.proofs.Common.{arith}
use Rattle.palm_domain.specs.Rows.{present_of}
use Rattle.filter_table.proofs.Columned.{none_gives, own_given}
use Rattle.filter_table.proofs.indexed.IndexedTable.is_given_by_many.Goals as goal

pub returns : goal.returns
returns c =
    none_gives c.args.self.now.vars c.args.self.now.rows c.places-place-items.result.now c.args.pair.var c.args.pair.value c.places-place-items.ensures.every
    (present_of c.args.store.now) (λ j d lt. c.loop-place.invariant j d (omega arith) (omega arith))

pub are_present-requires-clause-own : goal.are_present-requires-clause-own
are_present-requires-clause-own c =
    own_given c.args.self.now.vars c.args.self.now.rows c.requires.indexed.distinct c.requires.indexed.long (present_of c.args.store.now) c.in-Some.own c.args.pair.var _ c.args.pair.value (rw c.as_slice.ensures at c.in-Some.ensures)
    (c.places-place-items.ensures.within c.loop-place.place-index _ c.loop-place-test.true) (c.places-place-items.ensures.stands c.loop-place.place-index _ c.loop-place-test.true) c.requires.present
