use Rattle.std.proofs.Common.{◌≡◌, ◌++◌, OnOk, take, ap, subst, arith, ◌∙◌}
use Rattle.std.proofs.lemmas.Result.{on_ok_weaker}
use Rattle.palm_agenda.specs.declared.order.LastOrder.{LastOrder}
use Rattle.palm_guide.specs.declared.stock.FirstGuide.{FirstGuide}
use Rattle.palm_hub.specs.Standing.{HubView, hub_view}
use Rattle.palm_hub.specs.Stepping.{TakesIn}
use Rattle.palm_hub.specs.declared.part.Part.TheVariants.{Head}
use Rattle.palm_hub.proofs.Taking.{bytes_behind, head_taken}
use Rattle.palm_hub.proofs.standing.Hub.take_head.Goals as goal

pub returns-clause-takes : goal.returns-clause-takes
returns-clause-takes g c =
    let inside = c.self.inside in
    let bytes = c.args.bytes.now in
    let head = c.keep.new.head.items in
    let used = c.min-used.result in
    let before = hub_view inside.sessions.items inside.head.items inside.part inside.held in
    let mid = hub_view c.route.new.sessions.items head c.in_ok-self-inside.field-0 inside.held in
    let begun : inside.part ≡ Head = ap (λ (v : HubView FirstGuide LastOrder). v.part) c.self.view_is ∙ c.requires.head in
    let grown : head ≡ inside.head.items ++ take used bytes = c.in_ok-keep.ensures.ok in
    let takes = rw (bytes_behind used bytes) at c.take_routed.ensures.takes in
    let decides = rw c.deref.ensures.value at c.in_ok-self-inside.ensures.stands in
    subst (λ (v : HubView FirstGuide LastOrder). OnOk c.take_routed.result
    (TakesIn v bytes c.take_routed.new.self)) c.self.view_is
    (on_ok_weaker c.take_routed.result
    (head_taken before mid c.take_routed.new.self bytes used begun grown (omega arith) decides) takes)
