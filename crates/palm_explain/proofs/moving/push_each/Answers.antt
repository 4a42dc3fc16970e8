use Rattle.std.proofs.Common.{◌≡◌, ◌∙◌, ◌+◌, ◌++◌, ◌∷◌, [], false, length, take, refl, sym, ap, subst, arith}
use Rattle.std.proofs.lemmas.List.{append_assoc, length-take-le, take_more}
use Rattle.palm_explain.specs.declared.entry.Entry.{Entry}
use Rattle.palm_explain.specs.Moving.{AreEntriesOf, IsEntryOf}
use Rattle.palm_explain.proofs.RunEntries.{entries_push}
use Rattle.palm_explain.proofs.moving.push_each.Goals as goal

pub loop-value-preserved : goal.loop-value-preserved
loop-value-preserved c =
    let x = c.args.var in
    let by = c.args.by.now in
    let spans = c.args.spans.now in
    let values = c.args.values.now in
    let i = c.loop-value.value-index in
    let v = c.value-item.result in
    let old = c.args.log.now.items in
    let before = c.loop-value.invariant.entered in
    let number = c.loop-value.invariant.number in
    let e : Entry = record { number = c.loop-value.number; pair = record { var = x; value = v }; by = by; mark = false; spans = c.in_ok-own.own } in
    let so_far : length (take i values) ≡ i = length-take-le i values (omega (arith, c.loop-value-test.true)) in
    let is : IsEntryOf x by spans (c.args.first + length (take i values)) v e = record {
      numbered = omega (arith, number, so_far);
      paired = refl;
      made = refl;
      unmarked = refl;
      resting = c.in_ok-own.ensures;
    } in
    let longer = take_more values i v c.loop-value-test.true ∙ ap (λ w. take i values ++ w ∷ []) (sym c.value-item.is) in
    let pushed = c.push_reserved.ensures.items ∙ ap (λ es. es ++ e ∷ []) before.1 ∙ append_assoc old before.0 (e ∷ []) in
    record {
      entered = (before.0 ++ e ∷ [], pushed, subst (λ vs. AreEntriesOf x by spans c.args.first vs (before.0 ++ e ∷ [])) (sym longer) (entries_push x by spans c.args.first (take i values) before.0 v e before.2 is));
      number = omega (arith, number);
      room = let room = c.loop-value.invariant.room in let len = c.push_reserved.ensures.len in let cap = c.push_reserved.ensures.capacity in omega (arith, room, len, cap);
    }
