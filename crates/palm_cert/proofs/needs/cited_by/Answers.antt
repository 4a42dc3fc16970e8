use Rattle.std.proofs.Common.{◌∙◌, ℕ, List, false, replicate, take, slice_index_or, ap}
use Rattle.std.proofs.lemmas.List.{get_or_default}
use Rattle.palm_model.specs.Log.{Removal}
use Rattle.palm_cert.specs.Needs.{cites_of, removals_at}
use Rattle.palm_cert.proofs.Marks.{uncited}
use Rattle.palm_cert.proofs.cited.Logged.{by_at_place, by_of, some_removal, user_numbered}
use Rattle.palm_cert.proofs.cited.Stepped.{removals_more}
use Rattle.palm_cert.proofs.needs.cited_by.Goals as goal

pub number_of-requires : goal.number_of-requires
number_of-requires c =
    let within = c.requires.within c.loop-place.place-index 0 c.loop-place-test.true in
    user_numbered c.args.book.now c.by_at.result (by_at_place c.args.book.now _ c.args.log.now.log c.requires.logged (slice_index_or c.args.steps.now c.loop-place.place-index 0) within c.by_at.result c.by_at.ensures)

pub loop-place-init : goal.loop-place-init
loop-place-init c = c.in_ok-cited.ensures.items_if_clones_equal (λ y e. e) ∙ ap (λ (n : ℕ). replicate n false) c.constraints.ensures.count ∙ uncited c.args.book.now.constraints

pub loop-place-preserved : goal.loop-place-preserved
loop-place-preserved c =
    let log = c.args.log.now.log in
    let steps = c.args.steps.now in
    let i = c.loop-place.place-index in
    let place = slice_index_or steps i 0 in
    let r = some_removal log place (c.requires.within i 0 c.loop-place-test.true) in
    c.cite.ensures.cites (removals_at log (take i steps)) r.0 c.loop-place.invariant (by_of log place r.0 c.by_at.result r.1 c.by_at.ensures ∙ c.number_of.ensures)
    ∙ ap (λ (rs : List Removal). cites_of c.args.book.now rs) (removals_more log steps i place r.0 c.loop-place-test.true (get_or_default steps i 0 place c.loop-place-test.true) r.1)
