use Rattle.palm_domain.specs.Rows.{initial_of, present_of}
use Rattle.palm_filter.proofs.cited.Righted.{written_is_right}
use Rattle.filter_compare.proofs.Memberships.{within_reason}
use Rattle.filter_compare.proofs.within.WithinFilterFilter.reason.Goals as goal

pub returns-clause-ok : goal.returns-clause-ok
returns-clause-ok c =
    within_reason c.self.inside.membership c.args._pair.var c.args._pair.value c.args.self.now c.self.view_is
    (initial_of c.args.store.now) (present_of c.args.store.now) c.clear.new.self.items c.clear.ensures.items

pub returns-clause-right : goal.returns-clause-right
returns-clause-right c =
    written_is_right c.args.store.now c.variables.ensures.initial_ascend c.variables.ensures.present_ascend c.variables.ensures.inside
    c.args.self.now c.args._pair.var c.args._pair.value c.requires.formed c.requires.present c.requires.unsupported c.requires.filled c.clear.new.self.items
    (within_reason c.self.inside.membership c.args._pair.var c.args._pair.value c.args.self.now c.self.view_is
    (initial_of c.args.store.now) (present_of c.args.store.now) c.clear.new.self.items c.clear.ensures.items)
