use Rattle.std.proofs.Common.{sym, ◌∙◌, arith}
use Rattle.std.proofs.lemmas.Bool.{true≢false}
use Rattle.std.proofs.lemmas.Bool.Decides.{Decides-ltb}
use Rattle.palm_base.proofs.cited.Telling.{tells_both}
use Rattle.palm_domain.specs.Rows.{present_of}
use Rattle.palm_model.specs.Domains.{values_of}
use Rattle.palm_model.proofs.cited.Ascending.{ascends_at}
use Rattle.filter_differ.proofs.Differing.{other_many}
use Rattle.filter_differ.proofs.others.has_other.Goals as goal

pub returns-then-count-gt1 : goal.returns-then-count-gt1
returns-then-count-gt1 c =
    let d = present_of c.args.store.now in
    tells_both _ _
    (λ t. other_many (values_of d c.args.var.now) c.args.value.now (ascends_at d c.args.var.now c.variables.ensures.present_ascend) (omega (arith, c.count-count.ensures, c.if-count-gt1.true)))
    (λ t. absurd (true≢false (sym ((Decides-ltb 1 c.count-count.result).1 c.if-count-gt1.true) ∙ t)))
