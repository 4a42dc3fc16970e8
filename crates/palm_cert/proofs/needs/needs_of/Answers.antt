use Rattle.std.proofs.Common.{◌<◌, ℕ, List, All, length, sym, subst}
use Rattle.palm_cert.specs.Certificate.{claimed}
use Rattle.palm_cert.proofs.cited.Stepped.{steps_within}
use Rattle.palm_cert.proofs.needs.needs_of.Goals as goal

pub cited_by-requires-clause-within : goal.cited_by-requires-clause-within
cited_by-requires-clause-within c =
    let log = c.args.log.now.log in
    subst (λ (places : List ℕ). All (λ place. place < length log) places) (sym c.deref.ensures.value)
    (steps_within log (claimed c.args.book.now c.args.claim.now) c.in_ok-steps.steps.items c.requires.linked c.in_ok-steps.ensures)
