use Rattle.std.proofs.Common.{◌≡◌, ◌∙◌, Some, slice_get, nat_lt, Contains, sym, ap, subst, arith}
use Rattle.palm_base.specs.Order.{IsPartedAt}
use Rattle.palm_model.specs.Log.{log_pairs}
use Rattle.palm_explain.specs.Explanations.{Explanations}
use Rattle.palm_explain.specs.Rows.{number_at}
use Rattle.palm_explain.proofs.FirstNumbers.{none_some}
use Rattle.palm_explain.proofs.Reasons.{some_same}
use Rattle.palm_explain.proofs.Stores.{numbered_entry, pair_read, unnumbered}
use Rattle.palm_explain.proofs.store.ExplainStore.place_of.Goals as goal

pub returns-in-Some : goal.returns-in-Some
returns-in-Some c =
    let rows = c.self.inside.rows.items in
    let entries = c.self.inside.log.items in
    let is : number_at rows c.args.pair ≡ Some c.in-Some.number = ap (λ rs. number_at rs c.args.pair) (sym c.deref.ensures.value) ∙ sym c.number_near.ensures ∙ c.in-Some.is in
    let parted : IsPartedAt (λ f. nat_lt f.number c.in-Some.number) entries c.place_of.result = rw c.deref-in-Some.ensures.value at c.place_of.ensures in
    let e = numbered_entry rows entries c.self.inside.next c.args.pair c.in-Some.number c.place_of.result c.self.invariant.entered is c.if-number-lt-NO_NUMBER.true parted in
    subst (λ (v : Explanations). slice_get (log_pairs v.log) c.place_of.result ≡ Some c.args.pair) c.self.view_is (pair_read rows entries c.place_of.result e.0 e.1 ∙ ap Some e.2)

pub returns-in_default : goal.returns-in_default
returns-in_default c =
    let rows = c.self.inside.rows.items in
    let entries = c.self.inside.log.items in
    let is : number_at rows c.args.pair ≡ Some c.in-Some.number = ap (λ rs. number_at rs c.args.pair) (sym c.deref.ensures.value) ∙ sym c.number_near.ensures ∙ c.in-Some.is in
    subst (λ (v : Explanations). Contains (log_pairs v.log) c.args.pair → ⊥) c.self.view_is
    (unnumbered rows entries c.self.inside.next c.args.pair c.self.invariant.entered (λ k at lt. let same = some_same c.in-Some.number k (sym is ∙ at) in let ge = c.if-number-lt-NO_NUMBER.false in omega (arith, same, lt, ge)))

pub returns-in_default-2 : goal.returns-in_default-2
returns-in_default-2 c =
    let rows = c.self.inside.rows.items in
    let entries = c.self.inside.log.items in
    subst (λ (v : Explanations). Contains (log_pairs v.log) c.args.pair → ⊥) c.self.view_is
    (unnumbered rows entries c.self.inside.next c.args.pair c.self.invariant.entered (λ k at lt. none_some k (sym (ap (λ rs. number_at rs c.args.pair) (sym c.deref.ensures.value) ∙ sym c.number_near.ensures ∙ c.in_default.is) ∙ at)))
