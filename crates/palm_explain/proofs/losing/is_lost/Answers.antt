use Rattle.std.proofs.Common.{◌≡◌, ◌∙◌, Some, slice_get, Contains, inl, inr, sym, ap, subst}
use Rattle.std.proofs.lemmas.Bool.{false≢true}
use Rattle.std.proofs.lemmas.List.{take_all}
use Rattle.std.proofs.lemmas.Option.{slice_get-get_or}
use Rattle.palm_base.specs.Order.{same_cid}
use Rattle.palm_base.proofs.cited.CidOrder.{cid_same, same_cid_itself}
use Rattle.palm_base.proofs.cited.Members.{flat_map_member, member_flat_map, member_get, member_take_more}
use Rattle.palm_explain.specs.declared.spans.Span.{Span}
use Rattle.palm_explain.specs.Entries.{span_pairs}
use Rattle.palm_explain.specs.Losing.{HasLost}
use Rattle.palm_explain.proofs.losing.is_lost.Goals as goal

pub returns-then-is_same : goal.returns-then-is_same
returns-then-is_same c pairs told = inl (cid_same c.args.entry.now.by c.args.cid.now (sym c.is_same.ensures ∙ c.if-is_same.true))

pub returns-then-has_lost : goal.returns-then-has_lost
returns-then-has_lost c pairs told =
    let items = c.as_slice-span-items.result.now in
    let s = c.span-item.result in
    let at : slice_get items c.loop-span.span-index ≡ Some s = slice_get-get_or items c.loop-span.span-index s c.loop-span-test.true ∙ ap Some (sym c.span-item.is) in
    let m = subst (λ l. Contains l s) c.as_slice-span-items.ensures (member_get items c.loop-span.span-index s at) in
    let p = c.if-has_lost.ensures pairs told in
    inr (p.0, member_flat_map (span_pairs c.args.rows.now c.args.entry.now.number) c.args.entry.now.spans.items s p.0 m p.1, p.2)

pub loop-span-preserved : goal.loop-span-preserved
loop-span-preserved c pairs told s m lost =
    let items = c.as_slice-span-items.result.now in
    elim (member_take_more items c.loop-span.span-index c.span-item.result s c.loop-span-test.true c.span-item.is m) [
      | inl o ↦ c.loop-span.invariant pairs told s o lost
      | inr e ↦ c.if-has_lost.ensures pairs told (subst (λ (z : Span). HasLost c.args.rows.now c.args.entry.now.number pairs z) (sym e) lost)
    ]

pub returns : goal.returns
returns c pairs told falls = elim falls [
  | inl by ↦ false≢true (sym c.if-is_same.false ∙ c.is_same.ensures ∙ ap (same_cid c.args.entry.now.by) (sym by) ∙ same_cid_itself c.args.entry.now.by)
  | inr p ↦
      let items = c.as_slice-span-items.result.now in
      let s = flat_map_member (span_pairs c.args.rows.now c.args.entry.now.number) c.args.entry.now.spans.items p.0 p.1 in
      let there = subst (λ l. Contains l s.0) (sym c.as_slice-span-items.ensures) s.1 in
      let all = take_all c.loop-span.span-index items c.loop-span-test.false in
      c.loop-span.invariant pairs told s.0 (subst (λ l. Contains l s.0) (sym all) there) (p.0, s.2, p.2)
]
