use Rattle.std.proofs.Common.{◌≡◌, ◌++◌, ◌+◌, ◌-◌, List, length, IfOk, Option, ap, arith, rules, subst, sym, ℕ}
use Rattle.palm_engine.specs.Following.{Hearing, OrderFollows}
use Rattle.palm_search.specs.Following.{GuideFollows, Moment}
use Rattle.std.proofs.lemmas.List.{nil_from_length}
use Rattle.std.proofs.lemmas.Result.{err_from_is_err_and}
use Rattle.palm_session.specs.Feeding.{View, KeepsRest, FeedsEnd, FeedsPart, FeedsText}
use Rattle.palm_read.specs.Lines.{HasNoFeed}
use Rattle.palm_session.proofs.cited.FeedLemmas.{part_nothing}
use Rattle.palm_session.proofs.cited.Keeping.{keeps_piece, first_more, first_ends, first_part, rest_whole}
use Rattle.palm_session.proofs.Spending.{counts_add}
use Rattle.palm_session.proofs.LedTexts.{first_leads_more, first_leads_out, piece_leads}
use Rattle.palm_session.specs.Led.{FeedsLead, LinesLeadOut}
use Rattle.palm_session.specs.declared.going.Going.TheVariants.{More}
use Rattle.palm_session.proofs.session.Session.feed_lines.Given as given
use Rattle.palm_session.proofs.session.Session.feed_lines.Goals as goal

-- the guide's own relations, and the order's
abbrev guiding : (g : given.Over) → Moment → Option g.row.G.Denot → Option g.row.G.Denot → Type 0
guiding g = GuideFollows g.G.Guide.answers g.G.Guide.hears g.G.Guide.state

abbrev ordering : (g : given.Over) → Hearing → Option g.row.O.Denot → Option g.row.O.Denot → Type 0
ordering g = OrderFollows g.O.Order.answers g.O.Order.hears g.O.Order.state

pub returns-in_err-keep-clause-feeds : goal.returns-in_err-keep-clause-feeds
returns-in_err-keep-clause-feeds g c =
    let p = err_from_is_err_and c.from_residual.result c.from_residual.ensures.1 in
    rw (p.1, p.2) (part_nothing _ _ _)

pub returns-in_default-clause-feeds : goal.returns-in_default-clause-feeds
returns-in_default-clause-feeds g c =
    let unbroken : HasNoFeed c.args.piece.now = search rules in
    subst (λ (v : View g.row.G.Denot g.row.O.Denot). KeepsRest v.state (v.unfinished ++ c.args.piece.now) (g.K.Sink.state c.args.out.now).written (g.K.Sink.state c.args.out.now).written c.keep.new.bytes.items c.self.inside.desk.state (c.args.steps.now - c.args.steps.now)) c.self.view_is
    (keeps_piece c.self.inside.desk.state c.self.inside.unfinished.items c.args.piece.now c.keep.new.bytes.items (g.K.Sink.state c.args.out.now).written _ (omega arith) c.self.invariant.unfinished.unbroken unbroken c.in_ok-keep.ensures.ok)

pub returns-in_err-keep-2-clause-feeds : goal.returns-in_err-keep-2-clause-feeds
returns-in_err-keep-2-clause-feeds g c =
    let p = err_from_is_err_and c.from_residual-in_err-keep-2.result c.from_residual-in_err-keep-2.ensures.1 in
    rw (p.1, p.2) (part_nothing _ _ _)

pub returns-in-Ok-More-clause-feeds : goal.returns-in-Ok-More-clause-feeds
returns-in-Ok-More-clause-feeds g c =
    let one = rw (c.in-Ok-More.field-0-is, c.without_return-line.ensures, c.deref.ensures.value, c.in_ok-keep-2.ensures.ok) at c.in-Ok-More.ensures.answers in
    subst (λ (v : View g.row.G.Denot g.row.O.Denot). FeedsText v.state (v.unfinished ++ c.args.piece.now) (g.K.Sink.state c.args.out.now).written (g.K.Sink.state c.feed_text-in-Ok-More.new.out).written c.feed_text-in-Ok-More.new.self
    (c.feed_text-in-Ok-More.new.steps - c.args.steps.now) c.feed_text-in-Ok-More.result) c.self.view_is
    (first_more c.self.inside.desk.state c.self.inside.unfinished.items c.args.piece.now c.in-Some.end c.self.invariant.unfinished.unbroken c.in-Some.ensures.found _ _ _ _ c.feed_text-in-Ok-More.new.self _ _ _ _
    (counts_add _ _ _ c.in-Ok-More.ensures.spends.later c.feed_text-in-Ok-More.ensures.later) one
    (rw (rest_whole (c.in-Some.end + 1) c.args.piece.now) at c.feed_text-in-Ok-More.ensures.feeds))

pub returns-in-Ok-Quit-clause-feeds : goal.returns-in-Ok-Quit-clause-feeds
returns-in-Ok-Quit-clause-feeds g c =
    let one = rw (c.in-Ok-Quit.field-0-is, c.without_return-line.ensures, c.deref.ensures.value, c.in_ok-keep-2.ensures.ok) at c.in-Ok-Quit.ensures.answers in
    subst (λ (v : View g.row.G.Denot g.row.O.Denot). FeedsEnd v.state (v.unfinished ++ c.args.piece.now) (g.K.Sink.state c.args.out.now).written (g.K.Sink.state c.answer.new.out).written c.answer.new.self.state (c.answer.new.steps - c.args.steps.now)) c.self.view_is
    (first_ends c.self.inside.desk.state c.self.inside.unfinished.items c.args.piece.now c.in-Some.end c.self.invariant.unfinished.unbroken c.in-Some.ensures.found _ _ _ _ one)

pub returns-in-Err-clause-feeds : goal.returns-in-Err-clause-feeds
returns-in-Err-clause-feeds g c =
    let one = rw (c.without_return-line.ensures, c.deref.ensures.value, c.in_ok-keep-2.ensures.ok) at c.in-Err.ensures.answers in
    subst (λ (v : View g.row.G.Denot g.row.O.Denot). FeedsPart c.in-Err.stop v.state (v.unfinished ++ c.args.piece.now) (g.K.Sink.state c.args.out.now).written (g.K.Sink.state c.answer.new.out).written) c.self.view_is
    (first_part c.self.inside.desk.state c.self.inside.unfinished.items c.args.piece.now c.in-Some.end c.self.invariant.unfinished.unbroken c.in-Some.ensures.found _ _ one)

pub returns-in_default-clause-led : goal.returns-in_default-clause-led
returns-in_default-clause-led g c =
    let unbroken : HasNoFeed c.args.piece.now = search rules in
    let d = c.self.inside.desk in
    subst (λ (v : View g.row.G.Denot g.row.O.Denot). FeedsLead (guiding g) (ordering g) v.state (v.unfinished ++ c.args.piece.now) (g.K.Sink.state c.args.out.now).written (g.K.Sink.state c.args.out.now).written v.objects d.state d.objects More) c.self.view_is
    (piece_leads (guiding g) (ordering g) d.state c.self.inside.unfinished.items c.args.piece.now (g.K.Sink.state c.args.out.now).written d.objects c.self.invariant.unfinished.unbroken unbroken)

pub returns-in-Ok-More-clause-led : goal.returns-in-Ok-More-clause-led
returns-in-Ok-More-clause-led g c =
    let one = rw (c.in-Ok-More.field-0-is, c.without_return-line.ensures, c.deref.ensures.value, c.in_ok-keep-2.ensures.ok) at c.in-Ok-More.ensures.answers in
    let led = rw (c.without_return-line.ensures, c.deref.ensures.value, c.in_ok-keep-2.ensures.ok) at c.in-Ok-More.ensures.led in
    let after = c.feed_text-in-Ok-More.new.self in
    subst (λ (v : View g.row.G.Denot g.row.O.Denot). IfOk c.feed_text-in-Ok-More.result (FeedsLead (guiding g) (ordering g) v.state (v.unfinished ++ c.args.piece.now) (g.K.Sink.state c.args.out.now).written (g.K.Sink.state c.feed_text-in-Ok-More.new.out).written v.objects after.state after.objects)) c.self.view_is
    (first_leads_more (guiding g) (ordering g) c.self.inside.desk.state c.self.inside.unfinished.items c.args.piece.now c.in-Some.end c.self.invariant.unfinished.unbroken c.in-Some.ensures.found _ _ _ _ _ _ _ _ _ c.feed_text-in-Ok-More.result one led
    (rw (rest_whole (c.in-Some.end + 1) c.args.piece.now) at c.feed_text-in-Ok-More.ensures.led))

pub returns-in-Ok-Quit-clause-led : goal.returns-in-Ok-Quit-clause-led
returns-in-Ok-Quit-clause-led g c =
    let one = rw (c.in-Ok-Quit.field-0-is, c.without_return-line.ensures, c.deref.ensures.value, c.in_ok-keep-2.ensures.ok) at c.in-Ok-Quit.ensures.answers in
    let led = rw (c.without_return-line.ensures, c.deref.ensures.value, c.in_ok-keep-2.ensures.ok) at c.in-Ok-Quit.ensures.led in
    let d = c.answer.new.self in
    subst (λ (v : View g.row.G.Denot g.row.O.Denot). LinesLeadOut (guiding g) (ordering g) v.state (v.unfinished ++ c.args.piece.now) (g.K.Sink.state c.args.out.now).written (g.K.Sink.state c.answer.new.out).written v.objects d.state d.objects) c.self.view_is
    (first_leads_out (guiding g) (ordering g) c.self.inside.desk.state c.self.inside.unfinished.items c.args.piece.now c.in-Some.end c.self.invariant.unfinished.unbroken c.in-Some.ensures.found _ _ _ _ _ _ one led)

pub returns-then-is_empty-clause-led : goal.returns-then-is_empty-clause-led
returns-then-is_empty-clause-led g c =
    let long : length c.self.inside.unfinished.items ≡ 0 = search rules in
    let none = nil_from_length c.self.inside.unfinished.items long in
    let whole = subst (λ (v : View g.row.G.Denot g.row.O.Denot). c.args.piece.now ≡ v.unfinished ++ c.args.piece.now) c.self.view_is (ap (λ kept. kept ++ c.args.piece.now) (sym none)) in
    let before = c.args.self.now in
    let after = c.feed_text.new.self in
    subst (λ (text : List ℕ). IfOk c.feed_text.result (FeedsLead (guiding g) (ordering g) before.state text (g.K.Sink.state c.args.out.now).written (g.K.Sink.state c.feed_text.new.out).written before.objects after.state after.objects)) whole c.feed_text.ensures.led
