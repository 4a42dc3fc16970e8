use Rattle.palm_base.proofs.cited.Telling.{tells_false}
use Rattle.palm_domain.specs.Rows.{present_of}
use Rattle.filter_element.proofs.Elements.{place_few, place_missed, all_missed}
use Rattle.filter_element.proofs.rule.ElementRule.is_entry_reached.Goals as goal

pub index_at-requires : goal.index_at-requires
index_at-requires c =
    place_few c.args.self.now.entries c.args.outcome.now c.places-place-items.result.now c.places-place-items.ensures.stands c.loop-place.place-index c.loop-place-test.true c.requires.few

pub loop-place-preserved : goal.loop-place-preserved
loop-place-preserved c =
    place_missed (present_of c.args.store.now) c.args.self.now c.args.outcome.now c.places-place-items.result.now c.loop-place.place-index c.index_at.result
    c.loop-place-test.true c.index_at.ensures.var c.index_at.ensures.value (tells_false _ c.contains.result c.contains.ensures c.if-contains.false) c.loop-place.invariant

pub returns : goal.returns
returns c =
    all_missed (present_of c.args.store.now) c.args.self.now c.args.outcome.now c.places-place-items.result.now c.loop-place.place-index
    c.places-place-items.ensures.every c.loop-place-test.false c.loop-place.invariant
