use Rattle.std.proofs.Common.{◌<◌, ◌+◌, length, inl, inr, sym, subst, arith}
use Rattle.std.proofs.lemmas.Option.{slice_get_cases}
use Rattle.palm_explain.proofs.Marking.{AreBareBelow, bare_all, bare_length, bare_next}
use Rattle.palm_explain.proofs.naming.unmark_each.Goals as goal

pub loop-place-preserved : goal.loop-place-preserved
loop-place-preserved c =
    let all = c.args.log.now.items in
    let log = c.loop-place.log.items in
    let place = c.loop-place.place in
    let long = bare_length all log place c.loop-place.invariant in
    let within : place < length log = omega (arith, long, c.loop-place-test.true, c.len-place-end.ensures, c.args.log.now.ok.0) in
    elim (slice_get_cases log place).1 [
      | inl e ↦ subst (λ l. AreBareBelow all l (place + 1)) (sym (c.set_mark.ensures e.0 e.2)) (bare_next all log place e.0 e.2 c.loop-place.invariant)
      | inr past ↦ absurd (let le = past.0 in omega (arith, le, within))
    ]

pub returns : goal.returns
returns c =
    let all = c.args.log.now.items in
    let log = c.loop-place.log.items in
    let long = bare_length all log c.loop-place.place c.loop-place.invariant in
    bare_all all log c.loop-place.place c.loop-place.invariant (omega (arith, long, c.loop-place-test.false, c.len-place-end.ensures, c.args.log.now.ok.0))
