use Rattle.std.proofs.Common.{true, sym, subst}
use Rattle.palm_agenda.specs.declared.order.LastOrder.{LastOrder}
use Rattle.palm_guide.specs.declared.stock.FirstGuide.{FirstGuide}
use Rattle.palm_hub.specs.Standing.{HubView, Stands}
use Rattle.palm_hub.specs.Stepping.{StandsIn}
use Rattle.palm_hub.specs.declared.part.Part.{Part}
use Rattle.palm_hub.proofs.Taking.{line_longer}
use Rattle.palm_hub.proofs.standing.Hub.take_routed.Goals as goal

pub returns-in_ok-take_part-in-Session-clause-takes : goal.returns-in_ok-take_part-in-Session-clause-takes
returns-in_ok-take_part-in-Session-clause-takes g c = λ hub content stands.
    let members = c.self.inside.sessions.items in
    let taken = c.in_ok-take_part-in-Session.ensures in
    let standing = subst (λ (v : HubView FirstGuide LastOrder). StandsIn hub content v) (sym c.self.view_is) stands in
    let line = subst (λ (p : Part). Stands true hub content c.self.inside.head.items p members) c.in-Session.is standing in
    line_longer hub content c.in-Session.place members c.index_mut.result.now c.take_part.new.self c.args.bytes.now line c.index_mut.ensures.value taken.kept taken.named
