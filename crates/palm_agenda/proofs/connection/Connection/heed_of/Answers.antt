use Rattle.std.proofs.Common.{◌≡◌, ◌∙◌, ◌+◌, ◌<◌, suc, ap, sym, arith, drop, get_or, length, nat_eq}
use Rattle.palm_agenda.specs.Losses.{heed_of}
use Rattle.palm_agenda.proofs.Heeding.{heed_past}
use Rattle.palm_agenda.proofs.connection.Connection.heed_of.Goals as goal

pub loop-place-preserved : goal.loop-place-preserved
loop-place-preserved c =
    let next : c.loop-place.place + 1 ≡ suc c.loop-place.place = omega arith in
    let within : c.loop-place.place < length c.self.inside.scope = omega (arith, c.loop-place-test.true, c.len-place-end.ensures) in
    ap (λ k. heed_of c.args.var.now (drop k c.self.inside.scope) (drop k c.self.inside.heeds.items)) next
    ∙ heed_past c.args.var.now c.self.inside.scope c.self.inside.heeds.items c.loop-place.place c.index-as_slice-place.result within
    (ap (λ xs. nat_eq (get_or xs c.loop-place.place c.index-as_slice-place.result) c.args.var.now) (sym c.as_slice.ensures) ∙ ap (λ y. nat_eq y c.args.var.now) (sym c.index-as_slice-place.is) ∙ sym c.eq.ensures ∙ c.if-eq.false)
    ∙ c.loop-place.invariant
