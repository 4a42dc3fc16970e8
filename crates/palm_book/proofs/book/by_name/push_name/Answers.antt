use Rattle.std.proofs.Common.{◌∙◌}
use Rattle.indexmap.proofs.CallerLemmas.{insert_entry-new}
use Rattle.palm_book.proofs.NameLemmas.{not_found}
use Rattle.palm_book.proofs.book.by_name.push_name.Goals as goal

pub returns-clause-ok : goal.returns-clause-ok
returns-clause-ok g c = c.in_ok-insert.ensures.entries ∙ insert_entry-new _ c.args.entries.now c.args.name c.args.value (not_found c.args.entries.now.entries c.args.name c.requires)
