use Rattle.palm_base.proofs.cited.Telling.{tells_true, tells_false}
use Rattle.palm_domain.specs.Rows.{present_of}
use Rattle.filter_compare.proofs.Memberships.{within_supported, within_lacking}
use Rattle.filter_compare.proofs.within.WithinFilterFilter.supported.Goals as goal

pub returns-clause-supported : goal.returns-clause-supported
returns-clause-supported c t =
    within_supported c.self.inside.membership c.args.pair.var c.args.pair.value c.args.self.now c.self.view_is
    (present_of c.args._store.now) c.requires.over c.requires.present (tells_true _ c.has.result c.has.ensures t)

pub returns-clause-lacking : goal.returns-clause-lacking
returns-clause-lacking c t =
    within_lacking c.self.inside.membership c.args.pair.var c.args.pair.value c.args.self.now c.self.view_is
    (present_of c.args._store.now) c.requires.over (tells_false _ c.has.result c.has.ensures t)
