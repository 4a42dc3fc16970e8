use Rattle.std.proofs.Common.{arith}
use Rattle.std.proofs.lemmas.Int.{ints}
use Rattle.palm_model.specs.Domains.{values_of}
use Rattle.palm_base.proofs.cited.Telling.{tells_both}
use Rattle.palm_domain.specs.Rows.{present_of}
use Rattle.filter_occur.proofs.Reached.{next_reached, next_missed, none_missed}
use Rattle.filter_occur.proofs.counts.Counts.meets.Goals as goal

pub returns-in-Some : goal.returns-in-Some
returns-in-Some c =
    let vs = values_of (present_of c.args.store.now) c.args.target in
    tells_both _ _
    (λ t. next_reached c.args.self.now vs _ c.in-Some.value (omega (arith, ints)) c.in-Some.ensures (grind (arith, ints)))
    (λ t. next_missed c.args.self.now vs _ c.in-Some.value (omega (arith, ints)) c.in-Some.ensures (grind (arith, ints)))

pub returns-in-None : goal.returns-in-None
returns-in-None c =
    none_missed c.args.self.now (values_of (present_of c.args.store.now) c.args.target) _ (omega (arith, ints)) c.in-None.ensures
