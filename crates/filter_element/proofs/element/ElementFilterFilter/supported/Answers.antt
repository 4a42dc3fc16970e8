use Rattle.std.proofs.Common.{length, rules}
use Rattle.palm_base.proofs.cited.Telling.{tells_true, tells_false}
use Rattle.palm_domain.specs.Rows.{present_of}
use Rattle.filter_element.proofs.Elements.{outcome_supported, outcome_lacking, index_supported, index_lacking}
use Rattle.filter_element.proofs.element.ElementFilterFilter.supported.Goals as goal

pub returns-then-eq-clause-supported : goal.returns-then-eq-clause-supported
returns-then-eq-clause-supported c t =
    outcome_supported c.self.inside.rule c.args.self.now (length c.args.store.now) c.self.view_is c.requires.formed
    (present_of c.args.store.now) c.args.pair.var c.args.pair.value (search rules) c.requires.present (tells_true _ c.is_entry_reached.result c.is_entry_reached.ensures t)

pub returns-then-eq-clause-lacking : goal.returns-then-eq-clause-lacking
returns-then-eq-clause-lacking c t =
    outcome_lacking c.self.inside.rule c.args.self.now (length c.args.store.now) c.self.view_is c.requires.formed
    (present_of c.args.store.now) c.args.pair.var c.args.pair.value (search rules) (tells_false _ c.is_entry_reached.result c.is_entry_reached.ensures t)

pub returns-else-eq-clause-supported : goal.returns-else-eq-clause-supported
returns-else-eq-clause-supported c t =
    index_supported c.self.inside.rule c.args.self.now (length c.args.store.now) c.self.view_is c.requires.formed
    (present_of c.args.store.now) c.args.pair.var c.args.pair.value c.requires.over (search rules) c.requires.present (tells_true _ c.is_entry_open.result c.is_entry_open.ensures t)

pub returns-else-eq-clause-lacking : goal.returns-else-eq-clause-lacking
returns-else-eq-clause-lacking c t =
    index_lacking c.self.inside.rule c.args.self.now (length c.args.store.now) c.self.view_is c.requires.formed
    (present_of c.args.store.now) c.args.pair.var c.args.pair.value c.requires.over (search rules) (tells_false _ c.is_entry_open.result c.is_entry_open.ensures t)
