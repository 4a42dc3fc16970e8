use Rattle.std.proofs.Common.{◌<◌, ℕ, List, sym, subst, length, arith, refl}
use Rattle.std.proofs.lemmas.Bool.Decides.{nat_tests}
use Rattle.std.proofs.lemmas.Result.{on_ok_weaker}
use Rattle.palm_agenda.specs.declared.order.LastOrder.{LastOrder}
use Rattle.palm_guide.specs.declared.stock.FirstGuide.{FirstGuide}
use Rattle.palm_hub.specs.Hub.{Opened}
use Rattle.palm_hub.specs.Standing.{HubView, StandsBehind}
use Rattle.palm_hub.specs.Stepping.{StandsIn}
use Rattle.palm_hub.proofs.Taking.{part_taken}
use Rattle.palm_hub.proofs.standing.Hub.take_part.Goals as goal

pub returns-clause-stands : goal.returns-clause-stands
returns-clause-stands g c =
    let before = c.args.self.now in
    let inside = c.self.inside in
    let bytes = c.args.bytes.now in
    let some : 0 < length bytes = grind (arith, nat_tests) in
    let released =
    subst (λ (v : HubView FirstGuide LastOrder). (hub : List Opened) (seen : List ℕ) → StandsBehind hub seen before
    → StandsIn hub seen v)
    (sym c.self.view_is) c.in_ok-take_held.ensures.stands in
    on_ok_weaker c.take_content.result
    (part_taken before c.take_content.new.self inside.sessions.items inside.head.items bytes c.without_return-content.result.now inside.part _ some
    c.without_return-content.ensures refl c.take_content.ensures.held released)
    c.take_content.ensures.takes
