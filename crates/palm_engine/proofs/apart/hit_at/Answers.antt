use Rattle.std.proofs.Common.{◌≡◌, ◌+ℤ◌, ◌≤ℤ◌, w32, w64, rules, sym, ap, ◌∙◌, subst}
use mir.Val.{SFits}
use Rattle.std.proofs.lemmas.Int.{to_z-of_z}
use Rattle.palm_base.proofs.cited.Telling.{tells_false, tells_true}
use Rattle.palm_domain.specs.Rows.{IsPresent, present_of}
use Rattle.palm_model.specs.Domains.{Has}
use Rattle.palm_engine.proofs.Hits.{other_by, if_none}
use Rattle.palm_engine.proofs.apart.hit_at.Goals as goal

pub returns-in_err-value-clause-none : goal.returns-in_err-value-clause-none
returns-in_err-value-clause-none c = if_none c.from_residual.result (λ v has le ge.
    let number = c.raised.result in
    let fits : SFits w64 number = search rules in
    let number_is : number ≡ (c.least.result +ℤ c.args.by) = c.raised.ensures ∙ ap (λ z. c.least.result +ℤ z) (to_z-of_z w32 c.args.by c.ranges.by) in
    other_by (present_of c.args.store.now) c.args.other c.least.result v c.args.by c.least.ensures.member (λ e.
    let same = e ∙ sym number_is ∙ sym (to_z-of_z w64 number fits) in
    c.in_err-value.ensures.none (subst (λ z. c.args.low.now ≤ℤ z) same le) (subst (λ z. z ≤ℤ c.args.high.now) same ge)))

pub returns-else-contains-clause-none : goal.returns-else-contains-clause-none
returns-else-contains-clause-none c = λ v has le ge.
    let number = c.raised.result in
    let fits : SFits w64 number = search rules in
    let number_is : number ≡ (c.least.result +ℤ c.args.by) = c.raised.ensures ∙ ap (λ z. c.least.result +ℤ z) (to_z-of_z w32 c.args.by c.ranges.by) in
    let some = c.in_ok-value.ensures.some in
    let value_is : c.in_ok-value.value ≡ number = some.0 ∙ to_z-of_z w64 number fits in
    other_by (present_of c.args.store.now) c.args.other c.least.result v c.args.by c.least.ensures.member (λ e.
    tells_false (IsPresent c.args.store.now c.args.var c.in_ok-value.value) c.contains.result c.contains.ensures c.if-contains.false
    (subst (λ z. Has (present_of c.args.store.now) c.args.var z) (e ∙ sym number_is ∙ sym value_is) has))

pub returns-then-contains-clause-some : goal.returns-then-contains-clause-some
returns-then-contains-clause-some c =
    let number = c.raised.result in
    let fits : SFits w64 number = search rules in
    let number_is : number ≡ (c.least.result +ℤ c.args.by) = c.raised.ensures ∙ ap (λ z. c.least.result +ℤ z) (to_z-of_z w32 c.args.by c.ranges.by) in
    let some = c.in_ok-value.ensures.some in
    let same = to_z-of_z w64 number fits in
    let value_is : c.in_ok-value.value ≡ number = some.0 ∙ same in (
      tells_true (IsPresent c.args.store.now c.args.var c.in_ok-value.value) c.contains.result c.contains.ensures c.if-contains.true,
      subst (λ z. c.args.low.now ≤ℤ z) (sym some.0) some.1,
      λ v other. other_by (present_of c.args.store.now) c.args.other c.least.result v c.args.by c.least.ensures.member (λ e. other (e ∙ sym number_is ∙ sym value_is)),
    )
