use Rattle.std.proofs.Common.{◌≡◌, ◌∙◌, ◌<◌, ◌+◌, Some, length, slice_get, sym, ap, subst, arith}
use Rattle.std.proofs.lemmas.Option.{slice_get-get_or}
use Rattle.palm_base.proofs.cited.Members.{member_nil}
use Rattle.palm_explain.specs.Entries.{AreEntered}
use Rattle.palm_explain.proofs.Marking.{IsMarkedBelow, entered_marked, marked_all, marked_length, marked_next, marked_start}
use Rattle.palm_explain.proofs.naming.mark_each.Goals as goal

pub loop-place-init : goal.loop-place-init
loop-place-init c = marked_start c.args.rows.now c.args.cid.now c.args.log.now.items 0 c.requires.unmarked (λ e m. absurd (member_nil e m))

pub is_named-mark-requires : goal.is_named-mark-requires
is_named-mark-requires c =
    let all = c.args.log.now.items in
    let are = entered_marked all c.loop-place.log.items c.args.rows.now c.requires.entered.0 c.loop-place.invariant.same c.requires.entered.1 in
    record { entered = (c.requires.entered.0, subst (λ l. AreEntered l c.args.rows.now c.requires.entered.0) (sym c.deref.ensures.value) are) }

pub loop-place-preserved : goal.loop-place-preserved
loop-place-preserved c =
    let rows = c.args.rows.now in
    let cid = c.args.cid.now in
    let all = c.args.log.now.items in
    let log = c.loop-place.log.items in
    let place = c.loop-place.place in
    let below = c.loop-place.invariant in
    let long = marked_length rows cid all 0 log place below in
    let within : place < length log = omega (arith, long, c.loop-place-test.true, c.len-place-end.ensures, c.args.log.now.ok.0) in
    let e = c.index.result.now in
    let at : slice_get log place ≡ Some e = slice_get-get_or log place e within ∙ ap Some (sym c.index.ensures) in
    subst (λ l. IsMarkedBelow rows cid all 0 l (place + 1)) (sym (c.set_mark.ensures e at))
    (marked_next rows cid all c.requires.entered.0 c.requires.entered.1 0 log place below e at c.is_named-mark.result (omega arith) (rw c.deref.ensures.value at c.is_named-mark.ensures))

pub returns-clause-marked : goal.returns-clause-marked
returns-clause-marked c =
    let rows = c.args.rows.now in
    let cid = c.args.cid.now in
    let all = c.args.log.now.items in
    let below = c.loop-place.invariant in
    let long = marked_length rows cid all 0 c.loop-place.log.items c.loop-place.place below in
    marked_all rows cid all 0 c.loop-place.log.items c.loop-place.place below (omega (arith, long, c.loop-place-test.false, c.len-place-end.ensures, c.args.log.now.ok.0))
