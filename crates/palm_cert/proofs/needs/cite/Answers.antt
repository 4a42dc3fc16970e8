use Rattle.std.proofs.Common.{◌∙◌, List, Bool, true, ap}
use Rattle.std.specs.Prelude.{slice_set}
use Rattle.palm_cert.proofs.Marks.{cites_found, cites_missing}
use Rattle.palm_cert.proofs.needs.cite.Goals as goal

pub returns-in-Some-clause-cites : goal.returns-in-Some-clause-cites
returns-in-Some-clause-cites c rs r was by =
    c.set.ensures ∙ ap (λ (ms : List Bool). slice_set ms c.in-Some.place true) was
    ∙ cites_found c.args.book.now c.constraints.ensures.valid rs r c.args.number c.in-Some.place by c.in-Some.ensures.found

pub returns-in_default-clause-cites : goal.returns-in_default-clause-cites
returns-in_default-clause-cites c rs r was by = was ∙ cites_missing c.args.book.now rs r c.args.number by c.in_default.ensures.none
