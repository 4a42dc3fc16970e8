use Rattle.std.proofs.Common.{◌≡◌, ◌≤ℤ◌, Contains, MatchOption, sym, subst}
use Rattle.palm_base.specs.Tells.{Tells}
use Rattle.palm_explain.specs.declared.restored.Restored.{Restored}
use Rattle.palm_explain.specs.Losing.{HasLost, IsToldOf}
use Rattle.palm_explain.proofs.Keeping.{told_false}
use Rattle.palm_explain.proofs.LostSpans.{end_lost, none_apart, present_lost, told_within}
use Rattle.palm_explain.proofs.RowNumbers.{row_formed}
use Rattle.palm_explain.proofs.losing.has_lost.Goals as goal

pub row_of-requires : goal.row_of-requires
row_of-requires c =
    let w = c.requires.told in
    let t = c.in-Some.ensures in (told_within c.args.rows.now c.args.restored.now c.args.store.now c.args.number w.0 w.1 c.args.span.now c.in-Some.told t.there t.var).0

pub has_present-requires-clause-formed : goal.has_present-requires-clause-formed
has_present-requires-clause-formed c = row_formed c.args.rows.now c.args.span.now.var c.row_of.result.now c.requires.formed c.row_of.ensures

pub has_present-requires-clause-known : goal.has_present-requires-clause-known
has_present-requires-clause-known c =
    let w = c.requires.told in
    let t = c.in-Some.ensures in (told_within c.args.rows.now c.args.restored.now c.args.store.now c.args.number w.0 w.1 c.args.span.now c.in-Some.told t.there t.var).1

pub returns-then-has_end : goal.returns-then-has_end
returns-then-has_end c pairs told =
    let t = c.in-Some.ensures in
    subst (λ b. Tells b (HasLost c.args.rows.now c.args.number pairs c.args.span.now)) (sym c.if-has_end.true)
    (end_lost c.args.rows.now c.args.restored.now c.args.store.now c.args.number pairs told c.args.span.now c.in-Some.told t.there t.var c.if-has_end.ensures)

pub returns-else-has_end : goal.returns-else-has_end
returns-else-has_end c pairs told =
    present_lost c.args.rows.now c.args.restored.now c.args.store.now c.args.number pairs told c.args.span.now c.row_of.result.now c.row_of.ensures c.has_present.result c.has_present.ensures

pub returns-in_default : goal.returns-in_default
returns-in_default c pairs told =
    let s = c.args.span.now in
    let t = c.in-Some.ensures in
    none_apart c.args.rows.now c.args.restored.now c.args.store.now c.args.number pairs told s
    (λ r m var both. told_false c.overlaps.result _ c.overlaps.ensures c.if-overlaps.false (subst (λ (q : Restored). (q.low ≤ℤ s.high) × (s.low ≤ℤ q.high)) (t.only r m var) both))

pub returns-in_default-2 : goal.returns-in_default-2
returns-in_default-2 c pairs told =
    let s = c.args.span.now in
    let none = subst (λ o. MatchOption o ((q : Restored) → Contains c.args.restored.now q → q.var ≡ s.var → ⊥) (IsToldOf c.args.restored.now s.var)) c.in_default.is c.told_of.ensures in
    none_apart c.args.rows.now c.args.restored.now c.args.store.now c.args.number pairs told s (λ r m var both. none r m var)
