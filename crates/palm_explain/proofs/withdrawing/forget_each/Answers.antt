use Rattle.std.proofs.Common.{◌≡◌, ◌∙◌, ◌+◌, Vec, Global, Some, take, slice_get, sym, ap, subst}
use Rattle.std.proofs.lemmas.List.{take_all}
use Rattle.std.proofs.lemmas.Option.{slice_get-get_or}
use Rattle.palm_base.proofs.cited.Members.{member_get}
use Rattle.palm_explain.specs.declared.rows.Row.{Row}
use Rattle.palm_explain.specs.Losing.{LosesNumbers, marked_pairs}
use Rattle.palm_explain.proofs.Forgetting.{forgets_next, forgets_none, forgets_not, number_left}
use Rattle.palm_explain.proofs.withdrawing.forget_each.Goals as goal
use Rattle.palm_explain.proofs.withdrawing.forget_each.Goals.{then-entry, else-entry}

pub loop-place-init : goal.loop-place-init
loop-place-init c = forgets_none c.args.rows.now.items (take c.args.start c.args.log.now) c.requires.formed c.requires.before

pub set_number-requires-clause-there : goal.set_number-requires-clause-there
set_number-requires-clause-there c =
    let log = c.args.log.now in
    let place = c.loop-place.place in
    let e = c.index-log-place.result in
    let at : slice_get log place ≡ Some e = slice_get-get_or log place e c.loop-place-test.true ∙ ap Some (sym c.index-log-place.is) in
    number_left c.args.rows.now.items c.loop-place.rows.items (marked_pairs (take place log)) e.pair c.loop-place.invariant (c.requires.numbered e (member_get log place e at))

pub loop-place-preserved : goal.loop-place-preserved
loop-place-preserved c =
    let log = c.args.log.now in
    let place = c.loop-place.place in
    let rows = c.args.rows.now.items in
    let now = c.loop-place.rows.items in
    let e = c.index-log-place.result in
    elim c.if-entry.branch [
      | then-entry w ↦
          subst (λ (v : Vec Row Global). LosesNumbers rows v.items (marked_pairs (take (place + 1) log))) (sym w.rows-is)
          (forgets_next log place e c.loop-place-test.true c.index-log-place.is rows now c.loop-place.invariant w.set_number.new.rows.items w.if-entry.true w.set_number.ensures.formed w.set_number.ensures.there w.set_number.ensures.others)
      | else-entry w ↦
          subst (λ (v : Vec Row Global). LosesNumbers rows v.items (marked_pairs (take (place + 1) log))) (sym w.rows-is)
          (forgets_not log place e c.loop-place-test.true c.index-log-place.is rows now c.loop-place.invariant w.if-entry.false)
    ]

pub returns : goal.returns
returns c =
    subst (λ es. LosesNumbers c.args.rows.now.items c.loop-place.rows.items (marked_pairs es)) (take_all c.loop-place.place c.args.log.now c.loop-place-test.false) c.loop-place.invariant
