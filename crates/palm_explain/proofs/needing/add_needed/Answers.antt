use Rattle.std.proofs.Common.{◌≡◌, ◌∙◌, arith, sym, ap, subst}
use Rattle.std.proofs.lemmas.Option.{slice_get_within}
use Rattle.palm_explain.specs.declared.entry.Entry.{Entry}
use Rattle.palm_explain.specs.declared.rows.TheConstants.{NO_NUMBER}
use Rattle.palm_explain.specs.Entries.{pairs_with}
use Rattle.palm_explain.specs.Needed.{AreNotedSpans, HasNoted, IsWalked}
use Rattle.palm_explain.proofs.NeededPlaces.{walk_begun, walk_ended, walk_here, walk_next}
use Rattle.palm_explain.proofs.NotedSpans.{spans_empty, spans_lower}
use Rattle.palm_explain.proofs.Reasons.{some_same}
use Rattle.palm_explain.proofs.needing.add_needed.Goals as goal

pub loop-number-init : goal.loop-number-init
loop-number-init c =
    let log = c.args.log.now in
    let rows = c.args.rows.now in
    let pairs = pairs_with c.args.var c.args.values.now in
    let noted = c.note_values.new.noted in
    let entered = c.requires.entered in (
      subst (IsWalked log rows pairs noted NO_NUMBER) (sym c.requires.none)
          (walk_begun log rows entered.0 entered.1 pairs noted (subst (λ ws. HasNoted rows ws noted pairs) c.new-noted.ensures c.in_ok-note_values.ensures)),
      spans_empty rows c.in_ok-known.known.items NO_NUMBER noted c.in_ok-known.ensures,
    )

pub entry_at-requires : goal.entry_at-requires
entry_at-requires c =
    let log = c.args.log.now in
    let place = c.place_near-place.result in
    let entered = c.requires.entered in
    let e = walk_here log c.args.rows.now entered.0 entered.1 (pairs_with c.args.var c.args.values.now) c.loop-number.noted c.loop-number.end c.in-Some.number place c.loop-number.visited.items
    c.loop-number.invariant.0 c.in-Some.ensures.some.has c.place_near-place.ensures in
    slice_get_within log place e.0 e.1

pub loop-number-preserved : goal.loop-number-preserved
loop-number-preserved c =
    let log = c.args.log.now in
    let rows = c.args.rows.now in
    let pairs = pairs_with c.args.var c.args.values.now in
    let l = c.loop-number in
    let more = c.note_reasons.new.noted in
    let number = c.in-Some.number in
    let place = c.place_near-place.result in
    let entered = c.requires.entered in
    let f = walk_here log rows entered.0 entered.1 pairs l.noted l.end number place l.visited.items l.invariant.0 c.in-Some.ensures.some.has c.place_near-place.ensures in
    let e = c.entry_at.result.now in
    let same = some_same e f.0 (sym c.entry_at.ensures ∙ f.1) in
    let is = ap (λ (g : Entry). g.number) same ∙ f.2 in (
      subst (IsWalked log rows pairs more number) (sym c.in_ok-push.ensures.items)
          (walk_next log rows entered.0 entered.1 pairs l.noted more l.end number place e l.visited.items l.invariant.0 c.in-Some.ensures.some c.entry_at.ensures is c.in_ok-note_reasons.ensures.noted),
      subst (λ n. AreNotedSpans rows c.note_reasons.new.known.items n more) is c.in_ok-note_reasons.ensures.known,
    )

pub note_reasons-requires-clause-known : goal.note_reasons-requires-clause-known
note_reasons-requires-clause-known c =
    let log = c.args.log.now in
    let rows = c.args.rows.now in
    let l = c.loop-number in
    let number = c.in-Some.number in
    let entered = c.requires.entered in
    let f = walk_here log rows entered.0 entered.1 (pairs_with c.args.var c.args.values.now) l.noted l.end number c.place_near-place.result l.visited.items l.invariant.0 c.in-Some.ensures.some.has c.place_near-place.ensures in
    let e = c.entry_at.result.now in
    let is : e.number ≡ number = ap (λ (g : Entry). g.number) (some_same e f.0 (sym c.entry_at.ensures ∙ f.1)) ∙ f.2 in
    let below = c.in-Some.ensures.some.below in
    spans_lower rows l.known.items e.number l.end l.noted (omega (arith, is, below)) l.invariant.1

pub returns-clause-each : goal.returns-clause-each
returns-clause-each c =
    let entered = c.requires.entered in
    let l = c.loop-number in
    walk_ended c.args.log.now c.args.rows.now entered.0 entered.1 (pairs_with c.args.var c.args.values.now) l.noted l.end l.visited.items l.invariant.0 c.in_default.ensures.none
