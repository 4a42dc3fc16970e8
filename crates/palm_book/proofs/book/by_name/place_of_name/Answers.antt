use Rattle.palm_book.proofs.NameLemmas.{found_name, no_entry}
use Rattle.palm_book.proofs.book.by_name.place_of_name.Goals as goal

pub returns-clause-found : goal.returns-clause-found
returns-clause-found g c = found_name c.args.entries.now.entries c.args.name.now c.get_index_of.result c.get_index_of.ensures.index

pub returns-clause-none : goal.returns-clause-none
returns-clause-none g c = no_entry c.args.entries.now.entries c.args.name.now c.get_index_of.result c.get_index_of.ensures.found
