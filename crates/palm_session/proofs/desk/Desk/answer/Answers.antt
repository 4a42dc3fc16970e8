use Rattle.std.proofs.Common.{◌≡◌, Option}
use Rattle.palm_engine.specs.Following.{Hearing, OrderFollows}
use Rattle.palm_search.specs.Following.{GuideFollows, Moment}
use Rattle.palm_session.specs.Feeding.{LineBecomes}
use Rattle.palm_session.specs.Replies.{GoesOn}
use Rattle.palm_session.specs.State.{IsState}
use Rattle.palm_session.specs.declared.taken.Taken.TheVariants.{Said, ToSearch}
use Rattle.palm_session.proofs.Running.{can_begin, held_so_far, told_front, told_led, told_line, told_state}
use Rattle.palm_session.proofs.cited.Keeping.{front_nothing}
use Rattle.palm_session.proofs.cited.LawsOfAnswers.{answers_keep}
use Rattle.palm_session.proofs.desk.Desk.answer.Given as given
use Rattle.palm_session.proofs.desk.Desk.answer.Goals as goal

-- the guide's own relations, and the order's
abbrev guiding : (g : given.Over) → Moment → Option g.row.G.Denot → Option g.row.G.Denot → Type 0
guiding g = GuideFollows g.G.Guide.answers g.G.Guide.hears g.G.Guide.state

abbrev ordering : (g : given.Over) → Hearing → Option g.row.O.Denot → Option g.row.O.Denot → Type 0
ordering g = OrderFollows g.O.Order.answers g.O.Order.hears g.O.Order.state

pub deliver-requires-clause-held : goal.deliver-requires-clause-held
deliver-requires-clause-held g c =
    let s = c.args.self.now.state in
    let m = c.decide.new.self.state in
    let becomes : LineBecomes s c.args.line.now m (Said c.in-Ok-Said.reply c.in-Ok-Said.going) = rw c.in-Ok-Said.field-0-is at c.in-Ok-Said.ensures.becomes in
    let state : IsState m = answers_keep s c.args.line.now _ m c.requires becomes in
    state.held

pub returns-in-Ok-clause-state : goal.returns-in-Ok-clause-state
returns-in-Ok-clause-state g c =
    let s = c.args.self.now.state in
    let m = c.decide.new.self.state in
    let becomes : LineBecomes s c.args.line.now m (Said c.in-Ok-Said.reply c.in-Ok-Said.going) = rw c.in-Ok-Said.field-0-is at c.in-Ok-Said.ensures.becomes in
    answers_keep s c.args.line.now _ m c.requires becomes

pub tell-requires-clause-held : goal.tell-requires-clause-held
tell-requires-clause-held g c =
    let s = c.args.self.now.state in
    let m = c.decide.new.self.state in
    let to : LineBecomes s c.args.line.now m (ToSearch c.in-Ok-ToSearch.by) = rw c.in-Ok-ToSearch.field-0-is at c.in-Ok-ToSearch.ensures.becomes in
    held_so_far s m c.args.line.now c.in-Ok-ToSearch.by c.requires to

pub tell-requires-clause-can : goal.tell-requires-clause-can
tell-requires-clause-can g c =
    let s = c.args.self.now.state in
    let m = c.decide.new.self.state in
    let to : LineBecomes s c.args.line.now m (ToSearch c.in-Ok-ToSearch.by) = rw c.in-Ok-ToSearch.field-0-is at c.in-Ok-ToSearch.ensures.becomes in
    can_begin s m c.args.line.now c.in-Ok-ToSearch.by c.requires to

pub returns-in-Ok-tell-clause-answers : goal.returns-in-Ok-tell-clause-answers
returns-in-Ok-tell-clause-answers g c =
    let s = c.args.self.now.state in
    let m = c.decide.new.self.state in
    let to : LineBecomes s c.args.line.now m (ToSearch c.in-Ok-ToSearch.by) = rw c.in-Ok-ToSearch.field-0-is at c.in-Ok-ToSearch.ensures.becomes in
    let goes : GoesOn c.args.line.now = rw c.in-Ok-ToSearch.field-0-is at c.in-Ok-ToSearch.ensures.going in
    told_line s m c.args.line.now c.in-Ok-ToSearch.by c.requires to (guiding g) (ordering g) _ _ c.decide.new.self.objects c.tell.new.self.state c.tell.new.self.objects c.in-Ok-tell.ensures.told _ goes

pub returns-in-Ok-tell-clause-led : goal.returns-in-Ok-tell-clause-led
returns-in-Ok-tell-clause-led g c =
    let s = c.args.self.now.state in
    let m = c.decide.new.self.state in
    let to : LineBecomes s c.args.line.now m (ToSearch c.in-Ok-ToSearch.by) = rw c.in-Ok-ToSearch.field-0-is at c.in-Ok-ToSearch.ensures.becomes in
    let same : c.decide.new.self.objects ≡ c.args.self.now.objects = rw c.in-Ok-ToSearch.field-0-is at c.in-Ok-ToSearch.ensures.led in
    told_led s m c.args.line.now c.in-Ok-ToSearch.by c.requires to (guiding g) (ordering g) _ _ c.decide.new.self.objects c.tell.new.self.state c.tell.new.self.objects c.in-Ok-tell.ensures.told c.args.self.now.objects same

pub returns-in-Ok-tell-clause-state : goal.returns-in-Ok-tell-clause-state
returns-in-Ok-tell-clause-state g c =
    let s = c.args.self.now.state in
    let m = c.decide.new.self.state in
    let to : LineBecomes s c.args.line.now m (ToSearch c.in-Ok-ToSearch.by) = rw c.in-Ok-ToSearch.field-0-is at c.in-Ok-ToSearch.ensures.becomes in
    told_state s m c.args.line.now c.in-Ok-ToSearch.by c.requires to (guiding g) (ordering g) _ _ c.decide.new.self.objects c.tell.new.self.state c.tell.new.self.objects c.in-Ok-tell.ensures.told

pub returns-in-Ok-ToSearch-clause-answers : goal.returns-in-Ok-ToSearch-clause-answers
returns-in-Ok-ToSearch-clause-answers g c =
    let s = c.args.self.now.state in
    let m = c.decide.new.self.state in
    let to : LineBecomes s c.args.line.now m (ToSearch c.in-Ok-ToSearch.by) = rw c.in-Ok-ToSearch.field-0-is at c.in-Ok-ToSearch.ensures.becomes in
    told_front s m c.args.line.now c.in-Ok-ToSearch.by c.requires to c.in-Err-tell.stop _ _ c.in-Err-tell.ensures.front

pub returns-clause-answers : goal.returns-clause-answers
returns-clause-answers g c = front_nothing c.args.self.now.state c.args.line.now _ c.requires
