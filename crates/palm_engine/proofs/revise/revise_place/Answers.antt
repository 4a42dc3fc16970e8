use Rattle.std.proofs.Common.{◌≡◌, Contains, Some, length, slice_get, sym, ◌∙◌, subst, arith}
use Rattle.palm_base.specs.declared.terms.Cid.{Cid}
use Rattle.palm_domain.specs.Rows.{initial_of}
use Rattle.palm_model.specs.Domains.{values_of}
use Rattle.palm_model.specs.Removed.{pairs_of}
use Rattle.palm_agenda.specs.declared.mark.Mark.TheVariants.{Clear}
use Rattle.palm_agenda.specs.Agenda.{Connected, HasPlace}
use Rattle.palm_engine.specs.Posted.{active_of}
use Rattle.palm_engine.proofs.HitWalk.{scope_stored}
use Rattle.palm_engine.proofs.Progress.{counted_more, counted_none, on_err_of}
use Rattle.palm_engine.proofs.Scopes.{standing_stays}
use Rattle.palm_engine.proofs.Places.{owner_place, place_over, place_past, mark_known, mark_supported, unmarked_clears, cleared_counted, cleared_revising, cleared_walked}
use Rattle.palm_engine.proofs.revise.revise_place.Goals as goal

pub mark-mark-requires-clause-within : goal.mark-mark-requires-clause-within
mark-mark-requires-clause-within g c =
    let r = c.requires.revising in
    subst (λ (n : Cid). HasPlace c.args.filtering.now.agenda.connected n c.args.place) c.requires.named
    (owner_place c.args.filtering.now r.0 (active_of g.F.Filter.meaning c.args.constraint.now) c.args.place c.args.var r.1 c.requires.at)

pub returns-in-Clear-clause-walked : goal.returns-in-Clear-clause-walked
returns-in-Clear-clause-walked g c = λ active r.
    let owner = active_of g.F.Filter.meaning c.args.constraint.now in
    let f = c.args.filtering.now in
    let told : (d : Connected) → Contains f.agenda.connected d → d.cid ≡ owner.cid → slice_get d.marks c.args.place ≡ Some Clear =
    λ d m named. subst (λ n. slice_get d.marks c.args.place ≡ Some n) c.in-Clear.is (c.mark-mark.ensures d m (named ∙ c.requires.named)) in
    place_past f active owner c.args.var r (λ v has. mark_supported f active owner c.args.place c.args.var Clear r c.requires.at told v has (λ may. may))

pub are_known-requires-clause-stored : goal.are_known-requires-clause-stored
are_known-requires-clause-stored g c = let r = c.requires.revising in scope_stored c.args.filtering.now r.0 (active_of g.F.Filter.meaning c.args.constraint.now) r.1

pub are_known-requires-clause-over : goal.are_known-requires-clause-over
are_known-requires-clause-over g c = place_over (active_of g.F.Filter.meaning c.args.constraint.now) c.args.place c.args.var c.requires.at

pub are_known-requires-clause-shaped : goal.are_known-requires-clause-shaped
are_known-requires-clause-shaped g c = c.shape-shape.ensures c.args.var c.requires.at

pub unmark-requires-clause-within : goal.unmark-requires-clause-within
unmark-requires-clause-within g c =
    let r = c.requires.revising in
    subst (λ (n : Cid). HasPlace c.args.filtering.now.agenda.connected n c.args.place) c.requires.named
    (owner_place c.args.filtering.now r.0 (active_of g.F.Filter.meaning c.args.constraint.now) c.args.place c.args.var r.1 c.requires.at)

pub returns-then-are_known-clause-walked : goal.returns-then-are_known-clause-walked
returns-then-are_known-clause-walked g c = λ active r.
    let owner = active_of g.F.Filter.meaning c.args.constraint.now in
    let f = c.args.filtering.now in
    let x = c.args.var in
    let mark = c.mark-mark.result in
    let out = mark_supported f active owner c.args.place x mark r c.requires.at (λ d m named. c.mark-mark.ensures d m (named ∙ c.requires.named)) in
    let supported = mark_known mark f owner x out (c.are_known.ensures c.if-are_known.true) in
    cleared_walked active owner (pairs_of x (values_of (initial_of f.store) x)) f f (record f { agenda = c.unmark.new.self }) c.args.place (place_past f active owner x r supported)
    (unmarked_clears f c.unmark.new.self owner.cid c.args.taken.now.cid c.args.place (sym c.requires.named) c.unmark.ensures.connected c.unmark.ensures.pending)

pub returns-then-are_known-clause-revising : goal.returns-then-are_known-clause-revising
returns-then-are_known-clause-revising g c = λ active r.
    let owner = active_of g.F.Filter.meaning c.args.constraint.now in
    let f = c.args.filtering.now in
    let x = c.args.var in
    let mark = c.mark-mark.result in
    let out = mark_supported f active owner c.args.place x mark r c.requires.at (λ d m named. c.mark-mark.ensures d m (named ∙ c.requires.named)) in
    let supported = mark_known mark f owner x out (c.are_known.ensures c.if-are_known.true) in
    cleared_revising f (record f { agenda = c.unmark.new.self }) active owner c.args.place x r c.requires.at supported
    (unmarked_clears f c.unmark.new.self owner.cid c.args.taken.now.cid c.args.place (sym c.requires.named) c.unmark.ensures.connected c.unmark.ensures.pending)

pub returns-then-are_known-clause-counted : goal.returns-then-are_known-clause-counted
returns-then-are_known-clause-counted g c =
    let owner = active_of g.F.Filter.meaning c.args.constraint.now in
    let f = c.args.filtering.now in
    let n = length (values_of (initial_of f.store) c.args.var) in
    cleared_counted n f f (record f { agenda = c.unmark.new.self }) c.args.steps.now c.args.steps.now owner.cid c.args.place (counted_more 0 n f f c.args.steps.now c.args.steps.now (omega arith) (counted_none f c.args.steps.now))
    (unmarked_clears f c.unmark.new.self owner.cid c.args.taken.now.cid c.args.place (sym c.requires.named) c.unmark.ensures.connected c.unmark.ensures.pending)

pub revise_values-requires-clause-over : goal.revise_values-requires-clause-over
revise_values-requires-clause-over g c = place_over (active_of g.F.Filter.meaning c.args.constraint.now) c.args.place c.args.var c.requires.at

pub revise_values-requires-clause-shaped : goal.revise_values-requires-clause-shaped
revise_values-requires-clause-shaped g c = c.shape-shape.ensures c.args.var c.requires.at

pub revise_values-requires-clause-known : goal.revise_values-requires-clause-known
revise_values-requires-clause-known g c =
    let r = c.requires.revising in
    mark_supported c.args.filtering.now r.0 (active_of g.F.Filter.meaning c.args.constraint.now) c.args.place c.args.var c.mark-mark.result r.1 c.requires.at
    (λ d m named. c.mark-mark.ensures d m (named ∙ c.requires.named))

pub returns-in_err-revise_values-clause-part : goal.returns-in_err-revise_values-clause-part
returns-in_err-revise_values-clause-part g c = λ active r. on_err_of c.from_residual.result (c.in_err-revise_values.ensures.part active r)

pub unmark-requires-2 : goal.unmark-requires-2
unmark-requires-2 g c =
    let r = c.requires.revising in
    let owner = active_of g.F.Filter.meaning c.args.constraint.now in
    let m = c.revise_values.new.filtering in
    let still = c.revise_values.ensures.revising r.0 r.1 in
    record {
      standing = standing_stays r.0 c.args.filtering.now.agenda.connected m.agenda.connected r.1.kept.connected still.kept.connected c.args.taken.now c.requires.standing;
      within = subst (λ (n : Cid). HasPlace m.agenda.connected n c.args.place) c.requires.named (owner_place m r.0 owner c.args.place c.args.var still c.requires.at);
    }

pub returns-clause-walked : goal.returns-clause-walked
returns-clause-walked g c = λ active r.
    let owner = active_of g.F.Filter.meaning c.args.constraint.now in
    let f = c.args.filtering.now in
    let m = c.revise_values.new.filtering in
    cleared_walked active owner (pairs_of c.args.var (values_of (initial_of f.store) c.args.var)) f m (record m { agenda = c.unmark-2.new.self }) c.args.place
    (c.in_ok-revise_values.ensures.walked active r) (unmarked_clears m c.unmark-2.new.self owner.cid c.args.taken.now.cid c.args.place (sym c.requires.named) c.unmark-2.ensures.connected c.unmark-2.ensures.pending)

pub returns-clause-revising : goal.returns-clause-revising
returns-clause-revising g c = λ active r.
    let owner = active_of g.F.Filter.meaning c.args.constraint.now in
    let m = c.revise_values.new.filtering in
    let told = c.in_ok-revise_values.ensures in
    cleared_revising m (record m { agenda = c.unmark-2.new.self }) active owner c.args.place c.args.var (told.revising active r) c.requires.at told.supported
    (unmarked_clears m c.unmark-2.new.self owner.cid c.args.taken.now.cid c.args.place (sym c.requires.named) c.unmark-2.ensures.connected c.unmark-2.ensures.pending)
