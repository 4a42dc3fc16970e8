use Rattle.std.proofs.Common.{◌≡◌, ◌∙◌, Some, Contains, slice_get, inl, sym, ap, subst}
use Rattle.palm_explain.specs.declared.restored.Restored.{Restored}
use Rattle.palm_explain.specs.Explanations.{AreEnds, IsSpanned, restored_vars}
use Rattle.palm_explain.specs.Restored.{AreSlotted, slot_at}
use Rattle.palm_explain.proofs.Slots.{entry_at, pushed_ends, pushed_noted, pushed_slotted, pushed_spanned, widened_ends, widened_noted, widened_slotted, widened_spanned}
use Rattle.palm_explain.proofs.withdrawing.note.Goals as goal

pub returns-then-has_at-clause-slots : goal.returns-then-has_at-clause-slots
returns-then-has_at-clause-slots c =
    let restored = c.args.restored.now.items in
    let slot = c.slot_of-slot.result in
    let n = c.index_mut.result.now in
    let at = entry_at restored slot c.args.pair.var n (rw c.deref-2.ensures.value at (c.has_at.ensures.there c.if-has_at.true)) c.index_mut.ensures.value in
    widened_slotted restored slot n c.widen.new.self at.0 c.widen.ensures.var c.args.rows.now.items c.requires.slots

pub returns-then-has_at-clause-noted : goal.returns-then-has_at-clause-noted
returns-then-has_at-clause-noted c x m =
    let restored = c.args.restored.now.items in
    let slot = c.slot_of-slot.result in
    let n = c.index_mut.result.now in
    let at = entry_at restored slot c.args.pair.var n (rw c.deref-2.ensures.value at (c.has_at.ensures.there c.if-has_at.true)) c.index_mut.ensures.value in
    inl (widened_noted restored slot n c.widen.new.self at.0 c.widen.ensures.var x m)

pub returns-then-has_at-clause-spanned : goal.returns-then-has_at-clause-spanned
returns-then-has_at-clause-spanned c q m =
    let restored = c.args.restored.now.items in
    let slot = c.slot_of-slot.result in
    let n = c.index_mut.result.now in
    let at = entry_at restored slot c.args.pair.var n (rw c.deref-2.ensures.value at (c.has_at.ensures.there c.if-has_at.true)) c.index_mut.ensures.value in
    widened_spanned restored slot n c.widen.new.self at.0 c.widen.ensures.var c.args.pair q at.1 c.widen.ensures.low c.widen.ensures.high m

pub returns-then-has_at-clause-ends : goal.returns-then-has_at-clause-ends
returns-then-has_at-clause-ends c pairs =
    let restored = c.args.restored.now.items in
    let slot = c.slot_of-slot.result in
    let n = c.index_mut.result.now in
    let at = entry_at restored slot c.args.pair.var n (rw c.deref-2.ensures.value at (c.has_at.ensures.there c.if-has_at.true)) c.index_mut.ensures.value in
    widened_ends restored slot n c.widen.new.self at.0 c.widen.ensures.var c.args.pair pairs at.1 c.widen.ensures.least c.widen.ensures.greatest

pub returns-clause-slots : goal.returns-clause-slots
returns-clause-slots c =
    let rows = c.args.rows.now.items in
    let restored = c.args.restored.now.items in
    let x = c.args.pair.var in
    let slot : c.slot_of-slot.result ≡ slot_at rows x = c.slot_of-slot.ensures ∙ ap (λ rs. slot_at rs x) c.deref.ensures.value in
    let other : (t : Restored) → slice_get restored c.slot_of-slot.result ≡ Some t → t.var ≡ x → ⊥ = rw c.deref-2.ensures.value at (c.has_at.ensures.other c.if-has_at.false) in
    subst (AreSlotted c.set_slot.new.rows.items) (sym c.push_reserved.ensures.items)
    (pushed_slotted restored c.of.result x (ap (λ (z : Restored). z.var) c.of.ensures) rows c.set_slot.new.rows.items c.requires.slots (λ t at. other t (ap (slice_get restored) slot ∙ at))
    (c.set_slot.ensures.noted ∙ c.len.ensures ∙ c.args.restored.now.ok.0) c.set_slot.ensures.others)

pub returns-clause-noted : goal.returns-clause-noted
returns-clause-noted c y m =
    pushed_noted c.args.restored.now.items c.of.result c.args.pair.var (ap (λ (z : Restored). z.var) c.of.ensures) y (subst (λ rs. Contains (restored_vars rs) y) c.push_reserved.ensures.items m)

pub returns-clause-spanned : goal.returns-clause-spanned
returns-clause-spanned c q m =
    subst (λ rs. IsSpanned rs q) (sym c.push_reserved.ensures.items) (pushed_spanned c.args.restored.now.items c.of.result c.args.pair q c.of.ensures m)

pub returns-clause-ends : goal.returns-clause-ends
returns-clause-ends c pairs ends there =
    subst (λ rs. AreEnds rs pairs) (sym c.push_reserved.ensures.items) (pushed_ends c.args.restored.now.items c.of.result c.args.pair pairs c.of.ensures ends there)
