use Rattle.std.proofs.Common.{◌∙◌, IsSome, nat_lt, refl, sym, ap, subst}
use Rattle.std.proofs.lemmas.Option.{slice_get_within}
use Rattle.palm_base.specs.Order.{IsPartedAt}
use Rattle.palm_base.specs.Tells.{Tells}
use Rattle.palm_base.proofs.cited.Members.{member_unmap}
use Rattle.palm_model.specs.Log.{Names, NamesOfPair, Removal}
use Rattle.palm_explain.specs.Entries.{log_of, removal_of}
use Rattle.palm_explain.specs.Explanations.{Explanations}
use Rattle.palm_explain.specs.Rows.{number_at}
use Rattle.palm_explain.proofs.Keeping.{entry_logged}
use Rattle.palm_explain.proofs.Reasons.{pair_entry, pair_once, parted_entry, some_same}
use Rattle.palm_explain.proofs.Stores.{tells_like}
use Rattle.palm_explain.proofs.store.ExplainStore.names.Goals as goal

pub unwrap-number-requires : goal.unwrap-number-requires
unwrap-number-requires c =
    let e = pair_entry c.self.inside.rows.items c.self.inside.log.items c.args.pair (rw (← c.self.view_is) at c.requires) in
    subst IsSome (sym (c.number_near.ensures ∙ ap (λ rs. number_at rs c.args.pair) c.deref.ensures.value ∙ ap (number_at c.self.inside.rows.items) (sym e.2) ∙ c.self.invariant.entered.found e.0 e.1)) refl

pub names_at-requires-clause-within : goal.names_at-requires-clause-within
names_at-requires-clause-within c =
    let rows = c.self.inside.rows.items in
    let entries = c.self.inside.log.items in
    let e = pair_entry rows entries c.args.pair (rw (← c.self.view_is) at c.requires) in
    let is = ap (number_at rows) (sym e.2) ∙ c.self.invariant.entered.found e.0 e.1 in
    let same = some_same e.0.number c.unwrap-number.result (sym (c.number_near.ensures ∙ ap (λ rs. number_at rs c.args.pair) c.deref.ensures.value ∙ is) ∙ c.unwrap-number.ensures) in
    let parted : IsPartedAt (λ f. nat_lt f.number c.unwrap-number.result) entries c.place_of-place.result = rw c.deref-2.ensures.value at c.place_of-place.ensures in
    slice_get_within entries c.place_of-place.result e.0 (parted_entry entries c.self.invariant.entered.rises c.place_of-place.result e.0 e.1 (subst (λ n. IsPartedAt (λ f. nat_lt f.number n) entries c.place_of-place.result) (sym same) parted))

pub returns-clause-tells : goal.returns-clause-tells
returns-clause-tells c =
    let rows = c.self.inside.rows.items in
    let entries = c.self.inside.log.items in
    let e = pair_entry rows entries c.args.pair (rw (← c.self.view_is) at c.requires) in
    let is = ap (number_at rows) (sym e.2) ∙ c.self.invariant.entered.found e.0 e.1 in
    let same = some_same e.0.number c.unwrap-number.result (sym (c.number_near.ensures ∙ ap (λ rs. number_at rs c.args.pair) c.deref.ensures.value ∙ is) ∙ c.unwrap-number.ensures) in
    let parted : IsPartedAt (λ f. nat_lt f.number c.unwrap-number.result) entries c.place_of-place.result = rw c.deref-2.ensures.value at c.place_of-place.ensures in
    let at = parted_entry entries c.self.invariant.entered.rises c.place_of-place.result e.0 e.1 (subst (λ n. IsPartedAt (λ f. nat_lt f.number n) entries c.place_of-place.result) (sym same) parted) in
    let told : Tells c.names_at.result (Names (log_of rows entries) c.args.cid (removal_of rows e.0)) =
    subst (λ rs. Tells c.names_at.result (Names (log_of rs entries) c.args.cid (removal_of rs e.0))) c.deref-3.ensures.value (c.names_at.ensures.tells e.0 at) in
    subst (λ (v : Explanations). Tells c.names_at.result (NamesOfPair v.log c.args.pair c.args.cid)) c.self.view_is
    (tells_like c.names_at.result (Names (log_of rows entries) c.args.cid (removal_of rows e.0)) (NamesOfPair (log_of rows entries) c.args.pair c.args.cid)
    (λ names. record { removal = removal_of rows e.0; logged = entry_logged rows entries e.0 e.1; is = e.2; names = names })
    (λ named.
    let f = member_unmap (removal_of rows) entries named.removal named.logged in
    let one = pair_once entries rows c.self.inside.next c.self.invariant.entered f.0 e.0 f.1 e.1 (ap (λ (z : Removal). z.pair) f.2 ∙ named.is ∙ sym e.2) in
    subst (λ (z : Removal). Names (log_of rows entries) c.args.cid z) (sym f.2 ∙ ap (removal_of rows) one) named.names) told)
