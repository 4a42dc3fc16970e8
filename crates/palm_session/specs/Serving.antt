-- What a desk is seen as, and what taking an admitted request does to it.
use Rattle.std.specs.Prelude.{◌≡◌, ℕ, ◌+◌, ◌-◌, ◌≤◌, min, Bool, List, ◌++◌, ◌⊎◌, ⊤, Option, Some}
use Rattle.palm_base.specs.declared.limits.TheConstants.{LAST_COUNT}
use Rattle.palm_model.specs.Log.{Removal, log_pairs}
use Rattle.palm_model.specs.State.{EngineState}
use Rattle.palm_engine.specs.Engine.{View}
use Rattle.palm_engine.specs.Work.{most_asked}
use Rattle.palm_search.specs.Calls.{SearchView}
use Rattle.palm_search.specs.declared.ending.SearchEnd.{SearchEnd}
use Rattle.palm_search.specs.declared.turn.Turn.{Turn}
use Rattle.palm_book.specs.Book.{Contents}
use Rattle.palm_lang.specs.Reply.{fixed_text}
use Rattle.palm_lang.specs.declared.reply.Fixed.TheVariants.{Done, Bye}
use Rattle.palm_prefer.specs.declared.weights.Weight.{Weight}
use Rattle.palm_read.specs.declared.mode.Mode.{Mode}
use Rattle.palm_session.specs.Led.{Guiding, Ordering, FiltersBy, LeadsOn}
use Rattle.palm_session.specs.Objects.{ObjectsView, HeldObjects, numbers_of}
use Rattle.palm_session.specs.State.{SessionState, fresh}
use Rattle.palm_session.specs.declared.going.Going.{Going}
use Rattle.palm_session.specs.declared.going.Going.TheVariants.{More, Quit}
use Rattle.palm_session.specs.declared.remainder.Own.{Own}
use Rattle.palm_session.specs.declared.remainder.Own.TheVariants.{Said, Answer, Search as ToRun}
use Rattle.palm_session.specs.declared.remainder.Remainder.{Remainder}
use Rattle.palm_session.specs.declared.remainder.Remainder.TheVariants.{Say, Filter, Run, Search, End}
use Rattle.palm_session.specs.declared.reply.Reply.{Reply}
use Rattle.palm_session.specs.declared.reply.Reply.TheVariants.{Word, Ran as RanReply}
use Rattle.palm_session.specs.declared.request.Procedure.{Procedure}
use Rattle.palm_session.specs.declared.request.Request.{Request}
use Rattle.palm_session.specs.declared.request.Request.TheVariants.{Ask, Step, Solve, Quit as QuitAsked}
use Rattle.palm_session.specs.declared.taken.Taken.{Taken}
use Rattle.palm_session.specs.declared.taken.Taken.TheVariants.{Said as SaidTaken, ToSearch}
use Rattle.palm_session.specs.Effects.{Effect, Telling, Nothing, Changes, Next, Rests, Filters, Searches, SearchesIn, next, unless_paused, with_search}
use Rattle.palm_session.specs.Answers.{Accepts, Contradicts, IsAnswer, Says, WaitsFor}
use Rattle.palm_session.specs.ReplyText.{reply_text, ReplyFits}
use Rattle.palm_session.specs.Requests.{CanAsk}

-- what a desk holds, how often its engine has asked for support, and the objects themselves
pub record DeskView (G O : Type 0) : Type 0 where
  pub state : SessionState
  pub checks : ℕ
  pub objects : HeldObjects G O

-- what is seen of the parts of a desk
abbrev pub desk_of : {G O : Type 0} → Mode → Contents → List Weight → View → ℕ → Bool → ObjectsView G → ObjectsView O → SearchView → DeskView G O
desk_of mode book weights engine accepted paused guides orders search = record {
  state = record (fresh (numbers_of guides.places) (numbers_of orders.places)) {
    mode = mode;
    book = book;
    weights = weights;
    accepted = accepted;
    paused = paused;
    guide = guides.chosen;
    order = orders.chosen;
    journal = search.journal;
    engine = engine.state;
  };
  checks = engine.checks;
  objects = record { guides = guides; orders = orders };
}

-- ---- questions

-- both counts of questions stay, or rise by as much, unless the engine's stands at its end
pub record Spends {G O : Type 0} (before after : DeskView G O) (was now : ℕ) : Type 0 where
  pub later : was ≤ now
  pub checks : ((now ≡ was) × (after.checks ≡ before.checks)) ⊎ (after.checks ≡ min (before.checks + (now - was)) LAST_COUNT)

-- support was asked for so often on the way from s to t, by what was to be done: not at all, or no more than filtering may;
-- of a search nothing is said
abbrev pub AsksWithin : EngineState → Next → EngineState → ℕ → Type 0
AsksWithin s Rests t asked = asked ≡ 0
AsksWithin s (Searches by) t asked = ⊤
AsksWithin s (Filters limit) t asked = (gained : List Removal) × (t.log ≡ s.log ++ gained) × (asked ≤ most_asked s (log_pairs gained))

-- taking the request asks for support so often: not at all, or, where it does not wait, no more than the filtering may that
-- follows it, if it is no search
pub data AsksFor (s : SessionState) (request : Request) (t : SessionState) (asked : ℕ) : Type 0 where
  asks_nothing : asked ≡ 0 → AsksFor s request t asked
  asks_after : (m : SessionState) → (WaitsFor s request → ⊥) → Changes s request m → AsksWithin m.engine (next m request) t.engine asked → AsksFor s request t asked

-- ---- what follows a change

-- the engine has settled by the chosen order, in as many revisions as are told, and asked for support so often
pub record Ran {G O : Type 0} (ordering : Ordering O) (s : SessionState) (limit : Option ℕ) (told : ℕ) (before : HeldObjects G O) (t : SessionState) (after : HeldObjects G O) (asked : ℕ) : Type 0 where
  pub count : ℕ
  pub filters : FiltersBy ordering s limit count before t after
  pub told_is : told ≡ min count LAST_COUNT
  pub asks : AsksWithin s.engine (Filters limit) t.engine asked

-- the same within a limit, where all that ran are told
pub record RanAll {G O : Type 0} (ordering : Ordering O) (s : SessionState) (limit told : ℕ) (before : HeldObjects G O) (t : SessionState) (after : HeldObjects G O) (asked : ℕ) : Type 0 where
  pub ran : Ran ordering s (Some limit) told before t after asked
  pub all : told ≡ ran.count

-- what was to follow has followed, led the chosen objects, and asked for support so often
pub record Followed {G O : Type 0} (guiding : Guiding G) (ordering : Ordering O) (s : SessionState) (what : Next) (before : HeldObjects G O) (t : SessionState) (after : HeldObjects G O) (asked : ℕ) : Type 0 where
  pub effect : Effect
  pub leads : LeadsOn guiding ordering s what effect before t after
  pub asks : AsksWithin s.engine what t.engine asked

-- the search has run by the chosen guide and order, or without them, and has ended so
pub record HasRun (s : SessionState) (by : Procedure) (end : SearchEnd) (telling : Telling) (t : SessionState) : Type 0 where
  pub turns : List Turn
  pub engine : EngineState
  pub searches : SearchesIn s by turns end telling engine
  pub after : t ≡ with_search s turns engine

-- ---- requests, step by step

-- what is said by itself is the request's own, by what is held then and by what happened
abbrev pub IsOwn : SessionState → Request → Effect → Own → Type 0
IsOwn s request effect (Said reply) = Says s request effect (reply_text s reply) × ReplyFits s reply
IsOwn s request effect (Answer question) = request ≡ Ask question
IsOwn s request effect (ToRun by) = ⊥

-- `ok` is the request's own reply, whatever happens
abbrev pub SaysDone : Request → Type 0
SaysDone request = (t : SessionState) (effect : Effect) → Says t request effect (fixed_text Done)

-- this is left of the request, in what is held after its change
abbrev pub IsLeft : SessionState → Request → Remainder → Type 0
IsLeft s request (Say own) = (next s request ≡ Rests) × IsOwn s request Nothing own
IsLeft s request Filter = (next s request ≡ unless_paused s) × SaysDone request
IsLeft s request (Run count) = request ≡ Step count
IsLeft s request (Search by) = request ≡ Solve by
IsLeft s request End = request ≡ QuitAsked

-- the change of the request is made, and this is left of it; it is the end after `quit` alone
pub record Obeys (s : SessionState) (request : Request) (t : SessionState) (remainder : Remainder) : Type 0 where
  pub changes : Changes s request t
  pub left : IsLeft t request remainder
  pub ends : request ≡ QuitAsked → remainder ≡ End

-- what was left is done and led the chosen objects, and this is to be said; support was asked for so often. A search is still to run
abbrev pub IsDone : {G O : Type 0} → Guiding G → Ordering O → SessionState → Remainder → HeldObjects G O → SessionState → HeldObjects G O → ℕ → Own → Type 0
IsDone guiding ordering s (Say own) before t after asked said = (t ≡ s) × (after ≡ before) × (asked ≡ 0) × (said ≡ own)
IsDone guiding ordering s Filter before t after asked said = Followed guiding ordering s (unless_paused s) before t after asked × (said ≡ Said (Word Done))
IsDone guiding ordering s (Run count) before t after asked said = (told : ℕ) × RanAll ordering s count told before t after asked × (said ≡ Said (RanReply told))
IsDone guiding ordering s End before t after asked said = (t ≡ s) × (after ≡ before) × (asked ≡ 0) × (said ≡ Said (Word Bye))
IsDone guiding ordering s (Search by) before t after asked said = (t ≡ s) × (after ≡ before) × (asked ≡ 0) × (said ≡ ToRun by)

-- neither `paused` nor `contradiction` stands in place of the request's own reply
pub record IsOpen (s : SessionState) (request : Request) : Type 0 where
  pub goes : WaitsFor s request → ⊥
  pub calm : Contradicts s request → ⊥

-- a question that is left can be answered
abbrev pub CanSay : SessionState → Own → Type 0
CanSay s (Said reply) = ⊤
CanSay s (Answer question) = CanAsk s question × IsOpen s (Ask question)
CanSay s (ToRun by) = ⊤

-- what was to be said is said, or the search is to run
abbrev pub IsSaid : SessionState → Own → Going → Taken → Type 0
IsSaid s (Said own) going taken = taken ≡ SaidTaken own going
IsSaid s (Answer question) going taken = (reply : Reply) × IsAnswer s question (reply_text s reply) × ReplyFits s reply × (taken ≡ SaidTaken reply going)
IsSaid s (ToRun by) going taken = taken ≡ ToSearch by

-- the session goes on, unless it was asked to end
abbrev pub GoesAs : Going → Request → Type 0
GoesAs More request = request ≡ QuitAsked → ⊥
GoesAs Quit request = request ≡ QuitAsked

-- the request was taken: it is accepted with the reply, which fits what is held, support was asked for so often, and the
-- session goes on or ends
pub record Takes (s : SessionState) (request : Request) (t : SessionState) (asked : ℕ) (answer : Reply × Going) : Type 0 where
  pub accepts : Accepts s request (reply_text t answer.0) t
  pub asks : AsksFor s request t asked
  pub fits : ReplyFits t answer.0
  pub goes : GoesAs answer.1 request

-- the request is a search, does not wait, and nothing has happened yet
pub record IsToSearch (s : SessionState) (request : Request) (by : Procedure) (t : SessionState) (asked : ℕ) : Type 0 where
  pub is : request ≡ Solve by
  pub goes : WaitsFor s request → ⊥
  pub same : t ≡ s
  pub quiet : asked ≡ 0

-- what became of a request: it was taken, or is a search that is to run
abbrev pub Becomes : SessionState → Request → SessionState → ℕ → Taken → Type 0
Becomes s request t asked (SaidTaken reply going) = Takes s request t asked (reply, going)
Becomes s request t asked (ToSearch by) = IsToSearch s request by t asked
