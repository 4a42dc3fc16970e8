use Rattle.filter_table.proofs.Columned.{places_within, places_stand, places_every}
use Rattle.filter_table.proofs.indexed.IndexedTable.places.Goals as goal

pub returns-clause-within : goal.returns-clause-within
returns-clause-within c =
    places_within c.args.self.now c.requires.indexed c.args.column c.args.pair.now.var c.args.pair.now.value c.requires.column
    c.index.result.now c.index.ensures c.places.result.now c.places.ensures.stands

pub returns-clause-stands : goal.returns-clause-stands
returns-clause-stands c =
    places_stand c.args.self.now c.requires.indexed c.args.column c.args.pair.now.var c.args.pair.now.value c.requires.column
    c.index.result.now c.index.ensures c.places.result.now c.places.ensures.stands

pub returns-clause-every : goal.returns-clause-every
returns-clause-every c =
    places_every c.args.self.now c.requires.indexed c.args.column c.args.pair.now.var c.args.pair.now.value c.requires.column
    c.index.result.now c.index.ensures c.places.result.now c.places.ensures.every
