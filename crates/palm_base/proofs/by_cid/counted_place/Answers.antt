use Rattle.std.proofs.Common.{◌∙◌, sym, subst}
use Rattle.std.proofs.lemmas.Bool.{false≢true}
use Rattle.palm_base.specs.Order.{StandsInFront}
use Rattle.palm_base.specs.Tells.{Tells}
use Rattle.palm_base.proofs.cited.RisingLists.{parted_between, parted_there}
use Rattle.palm_base.proofs.by_cid.counted_place.Goals as goal
use Rattle.palm_base.proofs.by_cid.counted_place.Goals.{then-stands_at, else-stands_at+then-is_behind, else-stands_at+else-is_behind}

pub returns-then-is_in_front : goal.returns-then-is_in_front
returns-then-is_in_front g c =
    let id = g.T.HasCid.id in
    let items = c.args.items.now in
    let place = c.in_ok-place.place in
    elim c.if-stands_at.branch [
      | then-stands_at w ↦ parted_there id items c.requires c.args.cid.now place w.if-stands_at.ensures
      | else-stands_at+then-is_behind w ↦ parted_between id items c.requires c.args.cid.now place w.if-is_behind.ensures
          (subst (λ b. Tells b (StandsInFront id items place c.args.cid.now)) (sym w.value-is ∙ c.if-is_in_front.true) w.is_in_front.ensures)
      | else-stands_at+else-is_behind w ↦ absurd (false≢true (sym w.if-is_behind.false ∙ sym w.value-is ∙ c.if-is_in_front.true))
    ]
