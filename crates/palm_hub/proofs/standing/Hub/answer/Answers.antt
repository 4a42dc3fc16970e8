use Rattle.std.proofs.Common.{false, inl, inr, sym, subst, ◌∙◌}
use Rattle.std.proofs.lemmas.Result.{IfErr-weaker, on_ok_weaker}
use Rattle.palm_agenda.specs.declared.order.LastOrder.{LastOrder}
use Rattle.palm_guide.specs.declared.stock.FirstGuide.{FirstGuide}
use Rattle.palm_hub.specs.Standing.{HubView, Stands}
use Rattle.palm_hub.specs.Stepping.{IsRouted, StandsAtEnd}
use Rattle.palm_hub.specs.declared.part.Part.{Part}
use Rattle.palm_hub.proofs.Ending.{ends_blank, ends_passed, ends_skipped, kept_at, line_unbroken, stops_passed, stops_skipped}
use Rattle.palm_hub.proofs.standing.Hub.answer.Given as given
use Rattle.palm_hub.proofs.standing.Hub.answer.Goals as goal

pub returns-in-Session-clause-answers : goal.returns-in-Session-clause-answers
returns-in-Session-clause-answers g c =
    let inside = c.self.inside in
    let part_is = sym c.replace-part.ensures.value ∙ c.in-Session.is in
    on_ok_weaker c.end_line.result
    (λ answers hub content unbroken stands.
    let there = subst (λ (v : HubView FirstGuide LastOrder). StandsAtEnd hub content v) (sym c.self.view_is) stands in
    let line = subst (λ (p : Part). Stands false hub content inside.head.items p inside.sessions.items) part_is there in
    let old = c.index_mut.result.now in
    let read = c.index_mut.ensures.value in
    ends_passed hub content c.in-Session.place inside.sessions.items line old read c.end_line.new.self c.clear.new.self.items c.replace-part.new.dest
    (g.K.Sink.state c.args.sink.now).written
    (g.K.Sink.state c.end_line.new.sink).written c.clear.ensures.items c.replace-part.ensures.after c.end_line.ensures.named
    (answers line.line (line_unbroken hub content c.in-Session.place inside.sessions.items line unbroken)
    (kept_at hub content c.in-Session.place inside.sessions.items line old read)))
    c.end_line.ensures.answers

pub returns-in-Session-clause-stopped : goal.returns-in-Session-clause-stopped
returns-in-Session-clause-stopped g c =
    let inside = c.self.inside in
    let part_is = sym c.replace-part.ensures.value ∙ c.in-Session.is in
    IfErr-weaker c.end_line.result _ _
    (λ stop stopped hub content unbroken stands calm.
    let there = subst (λ (v : HubView FirstGuide LastOrder). StandsAtEnd hub content v) (sym c.self.view_is) stands in
    let line = subst (λ (p : Part). Stands false hub content inside.head.items p inside.sessions.items) part_is there in
    let old = c.index_mut.result.now in
    let read = c.index_mut.ensures.value in
    stops_passed hub content c.in-Session.place inside.sessions.items line old read stop (g.K.Sink.state c.args.sink.now).written
    (g.K.Sink.state c.end_line.new.sink).written
    (stopped line.line (line_unbroken hub content c.in-Session.place inside.sessions.items line unbroken)
    (kept_at hub content c.in-Session.place inside.sessions.items line old read) calm))
    c.end_line.ensures.stopped

pub returns-in-Head-clause-answers : goal.returns-in-Head-clause-answers
returns-in-Head-clause-answers g c =
    let inside = c.self.inside in
    let routed = subst (λ (v : HubView FirstGuide LastOrder). IsRouted v.part) (sym c.self.view_is) c.requires.routed in
    λ hub content unbroken stands.
    elim c.in-Head.is [
      | inl head ↦ absurd (subst IsRouted (sym c.replace-part.ensures.value ∙ head) routed)
      | inr blanks ↦
          let there = subst (λ (v : HubView FirstGuide LastOrder). StandsAtEnd hub content v) (sym c.self.view_is) stands in
          let blank =
          subst (λ (p : Part). Stands false hub content inside.head.items p inside.sessions.items)
          (sym c.replace-part.ensures.value ∙ blanks) there in
          ends_blank hub content inside.sessions.items inside.head.items c.clear.new.self.items c.replace-part.new.dest c.clear.ensures.items c.replace-part.ensures.after
          (g.K.Sink.state c.args.sink.now).written blank
    ]

pub returns-in-Skipped-clause-answers : goal.returns-in-Skipped-clause-answers
returns-in-Skipped-clause-answers g c =
    let inside = c.self.inside in
    let part_is = sym c.replace-part.ensures.value ∙ c.in-Skipped.is in
    on_ok_weaker c.tell.result
    (λ written hub content unbroken stands.
    let there = subst (λ (v : HubView FirstGuide LastOrder). StandsAtEnd hub content v) (sym c.self.view_is) stands in
    let skipped = subst (λ (p : Part). Stands false hub content inside.head.items p inside.sessions.items) part_is there in
    ends_skipped hub content inside.sessions.items inside.head.items c.clear.new.self.items c.replace-part.new.dest c.clear.ensures.items c.replace-part.ensures.after
    c.in-Skipped.refusal (g.K.Sink.state c.args.sink.now).written (g.K.Sink.state c.tell.new.sink).written written skipped)
    c.tell.ensures.ok

pub returns-in-Skipped-clause-stopped : goal.returns-in-Skipped-clause-stopped
returns-in-Skipped-clause-stopped g c =
    let inside = c.self.inside in
    let part_is = sym c.replace-part.ensures.value ∙ c.in-Skipped.is in
    IfErr-weaker c.tell.result _ _
    (λ stop written hub content unbroken stands calm.
    let there = subst (λ (v : HubView FirstGuide LastOrder). StandsAtEnd hub content v) (sym c.self.view_is) stands in
    let skipped = subst (λ (p : Part). Stands false hub content inside.head.items p inside.sessions.items) part_is there in
    stops_skipped hub content inside.sessions.items inside.head.items c.in-Skipped.refusal stop
    (g.K.Sink.state c.args.sink.now).written
    (g.K.Sink.state c.tell.new.sink).written written skipped)
    c.tell.ensures.err
