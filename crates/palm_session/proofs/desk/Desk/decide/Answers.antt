use Rattle.std.proofs.Common.{◌-◌, Option}
use Rattle.palm_base.specs.First.{IsFirst}
use Rattle.std.proofs.lemmas.Result.{IfOk-weaker}
use Rattle.palm_engine.specs.Following.{Hearing, OrderFollows}
use Rattle.palm_read.specs.Reading.{IsRead, IsRefusedBy}
use Rattle.palm_search.specs.Following.{GuideFollows, Moment}
use Rattle.palm_session.specs.Answers.{refused}
use Rattle.palm_session.specs.Feeding.{LineBecomes, TakenAsks, TakenDecides, TakenFits}
use Rattle.palm_session.specs.Led.{BecomesLead, LineBecomesLead}
use Rattle.palm_session.specs.Modes.{heard, misheard}
use Rattle.palm_session.specs.ReplyText.{IsRefusal}
use Rattle.palm_session.specs.Refusals.{Meets, in_order}
use Rattle.palm_session.specs.Requests.{IsAdmitted}
use Rattle.palm_session.specs.Serving.{Becomes}
use Rattle.palm_session.proofs.Deciding.{answers_refusal, becomes_asks, becomes_decides, becomes_fits, decides_refusal, decides_refused, line_becomes}
use Rattle.palm_session.proofs.InModes.{heard_held}
use Rattle.palm_session.proofs.Led.{becomes_led, misread_led, refused_led}
use Rattle.palm_session.proofs.cited.LawsOfAnswers.{read_admits}
use Rattle.palm_session.proofs.desk.Desk.decide.Given as given
use Rattle.palm_session.proofs.desk.Desk.decide.Goals as goal

-- the guide's own relations, and the order's
abbrev guiding : (g : given.Over) → Moment → Option g.row.G.Denot → Option g.row.G.Denot → Type 0
guiding g = GuideFollows g.G.Guide.answers g.G.Guide.hears g.G.Guide.state

abbrev ordering : (g : given.Over) → Hearing → Option g.row.O.Denot → Option g.row.O.Denot → Type 0
ordering g = OrderFollows g.O.Order.answers g.O.Order.hears g.O.Order.state

pub take-requires-clause-admitted : goal.take-requires-clause-admitted
take-requires-clause-admitted g c =
    let s = c.args.self.now.state in
    let line = c.in-Ok.line in
    let read : IsRead s.mode c.args.line.now line = rw c.mode.ensures at c.in-Ok.ensures.read in
    let there = rw c.in-Ok-2.is at c.in_ok-request-in-Ok.ensures in
    let admitted : IsAdmitted (heard s line) line c.in-Ok-2.request = rw c.hear.ensures.state at there in
    rw c.hear.ensures.state (read_admits s.mode (heard s line) (heard_held s line c.requires.held) c.args.line.now line c.in-Ok-2.request read admitted)

pub returns-in-Ok-2-clause-becomes : goal.returns-in-Ok-2-clause-becomes
returns-in-Ok-2-clause-becomes g c =
    let s = c.args.self.now.state in
    let line = c.in-Ok.line in
    let t = c.take.new.self.state in
    let asked = c.take.new.steps - c.args.steps.now in
    let read : IsRead s.mode c.args.line.now line = rw c.mode.ensures at c.in-Ok.ensures.read in
    let there = rw c.in-Ok-2.is at c.in_ok-request-in-Ok.ensures in
    let admitted : IsAdmitted (heard s line) line c.in-Ok-2.request = rw c.hear.ensures.state at there in
    IfOk-weaker c.take.result (Becomes (heard s line) c.in-Ok-2.request t asked) (LineBecomes s c.args.line.now t)
    (line_becomes s t c.args.line.now line c.in-Ok-2.request asked read admitted) (rw c.hear.ensures.state at c.take.ensures.becomes)

pub returns-in-Ok-2-clause-asks : goal.returns-in-Ok-2-clause-asks
returns-in-Ok-2-clause-asks g c =
    let s = c.args.self.now.state in
    let line = c.in-Ok.line in
    let t = c.take.new.self.state in
    let asked = c.take.new.steps - c.args.steps.now in
    let read : IsRead s.mode c.args.line.now line = rw c.mode.ensures at c.in-Ok.ensures.read in
    let there = rw c.in-Ok-2.is at c.in_ok-request-in-Ok.ensures in
    let admitted : IsAdmitted (heard s line) line c.in-Ok-2.request = rw c.hear.ensures.state at there in
    IfOk-weaker c.take.result (Becomes (heard s line) c.in-Ok-2.request t asked) (TakenAsks s c.args.line.now t asked)
    (becomes_asks s t c.args.line.now line c.in-Ok-2.request asked read admitted) (rw c.hear.ensures.state at c.take.ensures.becomes)

pub returns-in-Ok-2-clause-going : goal.returns-in-Ok-2-clause-going
returns-in-Ok-2-clause-going g c =
    let s = c.args.self.now.state in
    let line = c.in-Ok.line in
    let t = c.take.new.self.state in
    let asked = c.take.new.steps - c.args.steps.now in
    let read : IsRead s.mode c.args.line.now line = rw c.mode.ensures at c.in-Ok.ensures.read in
    let there = rw c.in-Ok-2.is at c.in_ok-request-in-Ok.ensures in
    let admitted : IsAdmitted (heard s line) line c.in-Ok-2.request = rw c.hear.ensures.state at there in
    IfOk-weaker c.take.result (Becomes (heard s line) c.in-Ok-2.request t asked) (TakenDecides c.args.line.now)
    (becomes_decides s t c.args.line.now line c.in-Ok-2.request asked read admitted) (rw c.hear.ensures.state at c.take.ensures.becomes)

pub returns-in-Ok-2-clause-fits : goal.returns-in-Ok-2-clause-fits
returns-in-Ok-2-clause-fits g c =
    let s = c.args.self.now.state in
    let line = c.in-Ok.line in
    let t = c.take.new.self.state in
    let asked = c.take.new.steps - c.args.steps.now in
    let read : IsRead s.mode c.args.line.now line = rw c.mode.ensures at c.in-Ok.ensures.read in
    let there = rw c.in-Ok-2.is at c.in_ok-request-in-Ok.ensures in
    let admitted : IsAdmitted (heard s line) line c.in-Ok-2.request = rw c.hear.ensures.state at there in
    IfOk-weaker c.take.result (Becomes (heard s line) c.in-Ok-2.request t asked) (TakenFits t)
    (becomes_fits s t c.args.line.now line c.in-Ok-2.request asked read admitted) (rw c.hear.ensures.state at c.take.ensures.becomes)

pub returns-in-Ok-2-clause-led : goal.returns-in-Ok-2-clause-led
returns-in-Ok-2-clause-led g c =
    let s = c.args.self.now in
    let line = c.in-Ok.line in
    let t = c.take.new.self in
    let read : IsRead s.state.mode c.args.line.now line = rw c.mode.ensures at c.in-Ok.ensures.read in
    let there = rw c.in-Ok-2.is at c.in_ok-request-in-Ok.ensures in
    let admitted : IsAdmitted (heard s.state line) line c.in-Ok-2.request = rw c.hear.ensures.state at there in
    IfOk-weaker c.take.result (BecomesLead (guiding g) (ordering g) (heard s.state line) c.in-Ok-2.request s.objects t.state t.objects) (LineBecomesLead (guiding g) (ordering g) s.state c.args.line.now s.objects t.state t.objects)
    (becomes_led (guiding g) (ordering g) s.state c.args.line.now s.objects line c.in-Ok-2.request t.state t.objects read admitted) (rw (c.hear.ensures.state, c.hear.ensures.objects) at c.take.ensures.led)

pub returns-in-Err-2-clause-becomes : goal.returns-in-Err-2-clause-becomes
returns-in-Err-2-clause-becomes g c =
    let s = c.args.self.now.state in
    let line = c.in-Ok.line in
    let read : IsRead s.mode c.args.line.now line = rw c.mode.ensures at c.in-Ok.ensures.read in
    let there = rw c.in-Err-2.is at c.in_ok-request-in-Ok.ensures in
    let first : IsFirst (Meets (heard s line) line) in_order c.in-Err-2.refusal = rw c.hear.ensures.state at there in
    rw c.hear.ensures.state (refused line c.in-Err-2.refusal read first)

pub returns-in-Err-2-clause-going : goal.returns-in-Err-2-clause-going
returns-in-Err-2-clause-going g c =
    let s = c.args.self.now.state in
    let line = c.in-Ok.line in
    let read : IsRead s.mode c.args.line.now line = rw c.mode.ensures at c.in-Ok.ensures.read in
    let there = rw c.in-Err-2.is at c.in_ok-request-in-Ok.ensures in
    let first : IsFirst (Meets (heard s line) line) in_order c.in-Err-2.refusal = rw c.hear.ensures.state at there in
    decides_refused s.mode (heard s line) c.args.line.now line c.in-Err-2.refusal read first

pub returns-in-Err-2-clause-led : goal.returns-in-Err-2-clause-led
returns-in-Err-2-clause-led g c =
    let s = c.args.self.now.state in
    let line = c.in-Ok.line in
    let read : IsRead s.mode c.args.line.now line = rw c.mode.ensures at c.in-Ok.ensures.read in
    let there = rw c.in-Err-2.is at c.in_ok-request-in-Ok.ensures in
    let first : IsFirst (Meets (heard s line) line) in_order c.in-Err-2.refusal = rw c.hear.ensures.state at there in
    rw (c.hear.ensures.state, c.hear.ensures.objects) (refused_led (guiding g) (ordering g) s c.args.line.now c.args.self.now.objects line c.in-Err-2.refusal read first)

pub returns-in-Err-clause-becomes : goal.returns-in-Err-clause-becomes
returns-in-Err-clause-becomes g c =
    let s = c.args.self.now.state in
    let unread : IsRefusedBy s.mode c.args.line.now c.in-Err.error = rw c.mode.ensures at c.in-Err.ensures.read in
    rw c.mishear.ensures.state (IfOk-weaker c.misread.result (IsRefusal c.in-Err.error) (LineBecomes s c.args.line.now (misheard s))
    (answers_refusal s c.args.line.now c.in-Err.error unread) c.misread.ensures)

pub returns-in-Err-clause-going : goal.returns-in-Err-clause-going
returns-in-Err-clause-going g c =
    let unread : IsRefusedBy c.args.self.now.state.mode c.args.line.now c.in-Err.error = rw c.mode.ensures at c.in-Err.ensures.read in
    IfOk-weaker c.misread.result (IsRefusal c.in-Err.error) (TakenDecides c.args.line.now)
    (decides_refusal c.args.self.now.state.mode c.args.line.now c.in-Err.error unread) c.misread.ensures

pub returns-in-Err-clause-led : goal.returns-in-Err-clause-led
returns-in-Err-clause-led g c =
    let s = c.args.self.now.state in
    let unread : IsRefusedBy s.mode c.args.line.now c.in-Err.error = rw c.mode.ensures at c.in-Err.ensures.read in
    rw (c.mishear.ensures.state, c.mishear.ensures.objects) (misread_led (guiding g) (ordering g) s c.args.line.now c.args.self.now.objects c.in-Err.error c.misread.result unread c.misread.ensures)
