use Rattle.std.proofs.Common.{arith}
use Rattle.std.proofs.lemmas.Bool.Decides.{Decides-ltb}
use Rattle.palm_domain.specs.Rows.{present_of}
use Rattle.palm_model.proofs.cited.Ascending.{ascends_at}
use Rattle.palm_engine.proofs.Hits.{two_differ}
use Rattle.palm_engine.proofs.apart.has_two.Goals as goal

pub returns : goal.returns
returns c = λ more.
    let d = present_of c.args.store.now in
    let lt = (Decides-ltb 1 c.count.result).0 more in
    two_differ d c.args.var.now (ascends_at d c.args.var.now c.variables.ensures.present_ascend) (omega (arith, c.count.ensures, lt))
