use Rattle.std.proofs.Common.{ℕ, List, sym, ◌∙◌, subst}
use Rattle.palm_lang.specs.Print.{Puts}
use Rattle.palm_read.proofs.cited.DomainsWith.{interval_text, others_text}
use Rattle.palm_lang.proofs.print.domains.put_values.Goals as goal

pub returns-then-is_interval : goal.returns-then-is_interval
returns-then-is_interval c =
    let text = interval_text c.args.values.now c.index-values-0.result c.index-values-values.result (sym c.is_interval.ensures ∙ c.if-is_interval.true) c.index-values-0.is c.index-values-values.is in
    subst (λ (t : List ℕ). Puts c.args.out.now.items c.put_range.new.out.items t c.put_range.result) text c.put_range.ensures

pub returns-else-is_interval : goal.returns-else-is_interval
returns-else-is_interval c =
    subst (λ (t : List ℕ). Puts c.args.out.now.items c.put_set.new.out.items t c.put_set.result) (others_text c.args.values.now (sym c.is_interval.ensures ∙ c.if-is_interval.false)) c.put_set.ensures
