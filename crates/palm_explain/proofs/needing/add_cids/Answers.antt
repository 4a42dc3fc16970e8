use Rattle.std.proofs.Common.{◌≡◌, ◌∙◌, arith, [], ◌∷◌, ◌++◌, sym, ap, subst, None, Some}
use Rattle.palm_base.specs.declared.terms.Cid.{Cid}
use Rattle.std.proofs.lemmas.Option.{slice_get_within}
use Rattle.palm_explain.specs.declared.entry.Entry.{Entry}
use Rattle.palm_explain.specs.declared.rows.TheConstants.{NO_NUMBER}
use Rattle.palm_explain.specs.CidSets.{IsMember}
use Rattle.palm_explain.specs.Entries.{log_of, pairs_with, removal_of}
use Rattle.palm_explain.specs.Explanations.{NamesOfSome}
use Rattle.palm_explain.specs.Needed.{AreNotedSpans, HasNoted}
use Rattle.palm_explain.proofs.CidSets.{some_none, some_of}
use Rattle.palm_explain.proofs.NeededPlaces.{makers_explain, makers_more, makers_none, walk_adds, walk_begun, walk_ended, walk_here, walk_next}
use Rattle.palm_explain.proofs.NotedSpans.{spans_empty, spans_lower}
use Rattle.palm_explain.proofs.Reasons.{map_place, some_same}
use Rattle.palm_explain.proofs.Stores.{on_err}
use Rattle.palm_explain.proofs.needing.add_cids.Goals as goal

none_some : (d : Cid) → None ≡ Some d → ⊥
none_some d e = cc

pub loop-number-init : goal.loop-number-init
loop-number-init c =
    let log = c.args.log.now in
    let rows = c.args.rows.now in
    let pairs = pairs_with c.args.var c.args.values.now in
    let noted = c.note_values.new.noted in
    let entered = c.requires.entered in (
      record {
        visited = [];
        walked = walk_begun log rows entered.0 entered.1 pairs noted (subst (λ ws. HasNoted rows ws noted pairs) c.new-noted.ensures c.in_ok-note_values.ensures);
        made = makers_none (log_of rows log) (IsMember c.args.cids.now);
      },
      spans_empty rows c.in_ok-known.known.items NO_NUMBER noted c.in_ok-known.ensures,
      λ d is. absurd (none_some d is),
    )

pub entry_at-entry-requires : goal.entry_at-entry-requires
entry_at-entry-requires c =
    let log = c.args.log.now in
    let place = c.place_near.result in
    let entered = c.requires.entered in
    let i = c.loop-number.invariant.0 in
    let e = walk_here log c.args.rows.now entered.0 entered.1 (pairs_with c.args.var c.args.values.now) c.loop-number.noted c.loop-number.end c.in-Some.number place i.visited
    i.walked c.in-Some.ensures.some.has c.place_near.ensures in
    slice_get_within log place e.0 e.1

pub loop-number-preserved : goal.loop-number-preserved
loop-number-preserved c =
    let log = c.args.log.now in
    let rows = c.args.rows.now in
    let pairs = pairs_with c.args.var c.args.values.now in
    let l = c.loop-number in
    let i = l.invariant.0 in
    let number = c.in-Some.number in
    let place = c.place_near.result in
    let entered = c.requires.entered in
    let f = walk_here log rows entered.0 entered.1 pairs l.noted l.end number place i.visited i.walked c.in-Some.ensures.some.has c.place_near.ensures in
    let e = c.entry_at-entry.result.now in
    let at = c.entry_at-entry.ensures in
    let is = ap (λ (g : Entry). g.number) (some_same e f.0 (sym at ∙ f.1)) ∙ f.2 in (
      record {
        visited = i.visited ++ place ∷ [];
        walked = walk_next log rows entered.0 entered.1 pairs l.noted c.note_reasons.new.noted l.end number place e i.visited i.walked c.in-Some.ensures.some at is c.in_ok-note_reasons.ensures.noted;
        made = makers_more (log_of rows log) i.visited place (removal_of rows e) (IsMember c.args.cids.now) (IsMember l.cids) (IsMember c.add_next.new.cids) (map_place (removal_of rows) log place e at) i.made c.in_ok-add_next.ensures.added;
      },
      subst (λ n. AreNotedSpans rows c.note_reasons.new.known.items n c.note_reasons.new.noted) is c.in_ok-note_reasons.ensures.known,
      c.in_ok-add_next.ensures.last,
    )

pub note_reasons-requires-clause-known : goal.note_reasons-requires-clause-known
note_reasons-requires-clause-known c =
    let log = c.args.log.now in
    let rows = c.args.rows.now in
    let l = c.loop-number in
    let i = l.invariant.0 in
    let number = c.in-Some.number in
    let entered = c.requires.entered in
    let f = walk_here log rows entered.0 entered.1 (pairs_with c.args.var c.args.values.now) l.noted l.end number c.place_near.result i.visited i.walked c.in-Some.ensures.some.has c.place_near.ensures in
    let e = c.entry_at-entry.result.now in
    let is : e.number ≡ number = ap (λ (g : Entry). g.number) (some_same e f.0 (sym c.entry_at-entry.ensures ∙ f.1)) ∙ f.2 in
    let below = c.in-Some.ensures.some.below in
    spans_lower rows l.known.items e.number l.end l.noted (omega (arith, is, below)) l.invariant.1

pub returns-in_err-note_values-clause-err : goal.returns-in_err-note_values-clause-err
returns-in_err-note_values-clause-err c = on_err c.from_residual.result _ (some_none c.args.cids.now (NamesOfSome (log_of c.args.rows.now c.args.log.now) c.args.var c.args.values.now))

pub returns-in_err-known-clause-err : goal.returns-in_err-known-clause-err
returns-in_err-known-clause-err c = on_err c.from_residual-in_err-known.result _ (some_none c.args.cids.now (NamesOfSome (log_of c.args.rows.now c.args.log.now) c.args.var c.args.values.now))

pub returns-in_err-add_next-clause-err : goal.returns-in_err-add_next-clause-err
returns-in_err-add_next-clause-err c =
    let rows = c.args.rows.now in
    let log = c.args.log.now in
    let l = c.loop-number in
    let i = l.invariant.0 in
    let entered = c.requires.entered in
    on_err c.from_residual-in_err-add_next.result _
    (walk_adds log rows entered.0 entered.1 c.args.var c.args.values.now l.noted l.end c.in-Some.number c.place_near.result i.visited c.entry_at-entry.result.now i.walked c.in-Some.ensures.some.has c.place_near.ensures c.entry_at-entry.ensures
    c.args.cids.now l.cids c.add_next.new.cids i.made c.in_err-add_next.ensures.err)

pub returns-in_err-note_reasons-clause-err : goal.returns-in_err-note_reasons-clause-err
returns-in_err-note_reasons-clause-err c =
    let rows = c.args.rows.now in
    let log = c.args.log.now in
    let l = c.loop-number in
    let i = l.invariant.0 in
    let entered = c.requires.entered in
    on_err c.from_residual-in_err-note_reasons.result _
    (walk_adds log rows entered.0 entered.1 c.args.var c.args.values.now l.noted l.end c.in-Some.number c.place_near.result i.visited c.entry_at-entry.result.now i.walked c.in-Some.ensures.some.has c.place_near.ensures c.entry_at-entry.ensures
    c.args.cids.now l.cids c.add_next.new.cids i.made (some_of l.cids (λ d. d ≡ c.entry_at-entry.result.now.by) c.add_next.new.cids c.in_ok-add_next.ensures.added))

pub returns-clause-ok : goal.returns-clause-ok
returns-clause-ok c =
    let log = c.args.log.now in
    let rows = c.args.rows.now in
    let entered = c.requires.entered in
    let l = c.loop-number in
    let i = l.invariant.0 in
    makers_explain (log_of rows log) c.args.var c.args.values.now i.visited (IsMember c.args.cids.now) (IsMember l.cids)
    (walk_ended log rows entered.0 entered.1 (pairs_with c.args.var c.args.values.now) l.noted l.end i.visited i.walked c.in_default.ensures.none) i.made
