use Rattle.std.proofs.Common.{◌≡◌, true, nat_lt, arith}
use Rattle.std.proofs.lemmas.Bool.{both_ways}
use Rattle.std.proofs.lemmas.Bool.Decides.{nat_tests}
use Rattle.palm_base.proofs.cited.Telling.{tells_both}
use Rattle.palm_model.specs.Domains.{values_of}
use Rattle.palm_domain.specs.Rows.{present_of}
use Rattle.palm_domain.proofs.cited.Ascending.{Ascends-at}
use Rattle.filter_compare.specs.Comparison.{IsMet}
use Rattle.filter_compare.proofs.Comparisons.{met_by_two}
use Rattle.filter_compare.proofs.demand.Demand.has_other.Goals as goal

pub returns-then-count-gt1 : goal.returns-then-count-gt1
returns-then-count-gt1 c =
    let present = present_of c.args.store.now in
    let d = c.args.self.now in
    tells_both (IsMet (values_of present d.var) d) (nat_lt 1 c.count-count.result)
    (λ e. met_by_two (values_of present d.var) d c.requires.differs (Ascends-at present d.var c.variables.ensures.present_ascend) (omega (arith, c.count-count.ensures, c.if-count-gt1.true)))
    (λ e. let many = c.if-count-gt1.true in let t : nat_lt 1 c.count-count.result ≡ true = grind (arith, nat_tests, many) in absurd (both_ways (nat_lt 1 c.count-count.result) e t))
