-- What the guides and orders are asked and told while lines are answered, and that the replies tell of just this. What is held
-- tells their numbers alone, so the objects stand beside it, before and after.
use Rattle.std.specs.Prelude.{◌≡◌, ℕ, ◌⊎◌, List, [], ◌∷◌, ◌++◌, All, map, flat_map, Option, None, Some}
use Rattle.palm_base.specs.Streams.{Appended}
use Rattle.palm_book.specs.Book.{Contents}
use Rattle.palm_engine.specs.Following.{Hearing, LeadsAlong, hearings}
use Rattle.palm_model.specs.State.{EngineState}
use Rattle.palm_search.specs.Following.{Moment, SearchesBy}
use Rattle.palm_search.specs.declared.ending.SearchEnd.{SearchEnd}
use Rattle.palm_search.specs.declared.turn.Turn.{Turn}
use Rattle.palm_best.specs.Following.{MinimizesBy}
use Rattle.palm_best.specs.declared.best.Best.{Best}
use Rattle.palm_repair.specs.Answers.{end_of}
use Rattle.palm_repair.specs.Following.{HasRepairedBy}
use Rattle.palm_repair.specs.declared.answer.RepairAnswer.{RepairAnswer}
use Rattle.proof_run.specs.Text.{ProvesBy}
use Rattle.palm_read.specs.Lines.{HasNoFeed, without_return, last_line}
use Rattle.palm_read.specs.Reading.{IsRead}
use Rattle.palm_read.specs.declared.line.Line.{Line}
use Rattle.palm_lang.specs.Reply.{ended, fixed_text}
use Rattle.palm_lang.specs.declared.reply.Fixed.TheVariants.{Contradiction, Paused}
use Rattle.palm_session.specs.Answers.{Answers, Contradicts, Says, WaitsFor}
use Rattle.palm_session.specs.Effects.{Changes, Effect, Nothing, Settled, Searched, Telling, InShort, InFull, Next, Rests, Filters, Searches, SettlesIn, best_end, best_telling, next, with_engine, with_search}
use Rattle.palm_session.specs.Modes.{heard}
use Rattle.palm_session.specs.Objects.{HeldObjects, LendsChosen, chosen_object, without_object}
use Rattle.palm_session.specs.Replies.{GoesOn, Ends}
use Rattle.palm_session.specs.ReplyText.{reply_text}
use Rattle.palm_session.specs.Requests.{IsAdmitted}
use Rattle.palm_session.specs.State.{SessionState}
use Rattle.palm_session.specs.declared.going.Going.{Going}
use Rattle.palm_session.specs.declared.going.Going.TheVariants.{More, Quit}
use Rattle.palm_session.specs.declared.request.Procedure.{Procedure}
use Rattle.palm_session.specs.declared.request.Procedure.TheVariants.{Dbt, Repair, Proof, Least}
use Rattle.palm_session.specs.declared.request.Request.{Request}
use Rattle.palm_session.specs.declared.request.Request.TheVariants.{ChooseGuide, DropGuide, ChooseOrder, DropOrder}
use Rattle.palm_session.specs.declared.taken.Taken.{Taken}
use Rattle.palm_session.specs.declared.taken.Taken.TheVariants.{Said, ToSearch}

-- how a guide is led from one state to another at a turn, and an order at a revision
abbrev pub Guiding : Type 0 → Type 1
Guiding G = Moment → Option G → Option G → Type 0

abbrev pub Ordering : Type 0 → Type 1
Ordering O = Hearing → Option O → Option O → Type 0

-- ---- what follows a change

-- the engine has settled in so many revisions, and these led the chosen order; each other object is as it was
pub record FiltersBy {G O : Type 0} (ordering : Ordering O) (s : SessionState) (limit : Option ℕ) (count : ℕ) (before : HeldObjects G O) (t : SessionState) (after : HeldObjects G O) : Type 0 where
  pub settles : SettlesIn s limit count t.engine
  pub followed : LeadsAlong ordering (hearings s.engine settles.revisions t.engine settles.settles.revisions) (chosen_object before.orders) (chosen_object after.orders)
  pub state : t ≡ with_engine s t.engine
  pub orders : LendsChosen before.orders after.orders
  pub guides : after.guides ≡ before.guides

-- what a search does, by the way of searching: it has run from s to t in these turns, led a guide and an order on from the first to
-- the last, has ended so, and is told so
abbrev pub RunsBy : {G O : Type 0} → Guiding G → Ordering O → Option G → Option G → Option O → Option O → Procedure → Contents → EngineState → List Turn → SearchEnd → Telling → EngineState → Type 0
RunsBy guiding ordering guide_first guide_last order_first order_last (Dbt budget) book s turns end telling t =
    SearchesBy guiding ordering guide_first guide_last order_first order_last budget s turns end t × (telling ≡ InShort None)
RunsBy guiding ordering guide_first guide_last order_first order_last (Repair tabu budget) book s turns end telling t =
    (answer : RepairAnswer) × (by : HasRepairedBy guiding ordering guide_first guide_last order_first order_last tabu budget s turns t answer)
    × (end ≡ end_of answer) × (telling ≡ InShort (Some by.repaired.dropped))
RunsBy guiding ordering guide_first guide_last order_first order_last (Proof budget) book s turns end telling t =
    (text : List ℕ) × ProvesBy guiding ordering guide_first guide_last order_first order_last budget book s turns end t text × (telling ≡ InFull text)
RunsBy guiding ordering guide_first guide_last order_first order_last (Least target budget) book s turns end telling t =
    (best : Best) × MinimizesBy guiding ordering guide_first guide_last order_first order_last target budget s turns best t × (end ≡ best_end best) × (telling ≡ best_telling best)

-- the chosen objects are those whose numbers are held
pub record AreChosen {G O : Type 0} (s : SessionState) (objects : HeldObjects G O) : Type 0 where
  pub guide : s.guide ≡ objects.guides.chosen
  pub order : s.order ≡ objects.orders.chosen

-- a search of the kept turns has run so by the chosen guide and order; each other object is as it was
pub record SearchesOn {G O : Type 0} (guiding : Guiding G) (ordering : Ordering O) (s : SessionState) (by : Procedure) (end : SearchEnd) (telling : Telling) (before : HeldObjects G O) (t : SessionState) (after : HeldObjects G O) : Type 0 where
  pub runs : RunsBy guiding ordering (chosen_object before.guides) (chosen_object after.guides) (chosen_object before.orders) (chosen_object after.orders) by s.book s.engine t.journal end telling t.engine
  pub chosen : AreChosen s before
  pub state : t ≡ with_search s t.journal t.engine
  pub guides : LendsChosen before.guides after.guides
  pub orders : LendsChosen before.orders after.orders

-- what follows a change is this effect, which led the chosen objects and left the others
abbrev pub LeadsOn : {G O : Type 0} → Guiding G → Ordering O → SessionState → Next → Effect → HeldObjects G O → SessionState → HeldObjects G O → Type 0
LeadsOn guiding ordering s Rests Nothing before t after = (t ≡ s) × (after ≡ before)
LeadsOn guiding ordering s (Filters limit) (Settled count) before t after = FiltersBy ordering s limit count before t after
LeadsOn guiding ordering s (Searches by) (Searched end telling) before t after = SearchesOn guiding ordering s by end telling before t after
LeadsOn guiding ordering s _ _ before t after = ⊥

-- ---- requests

-- the objects after the change of a request: one is chosen, or dropped, or they are as they were
abbrev pub objects_after : {G O : Type 0} → Request → HeldObjects G O → HeldObjects G O
objects_after (ChooseGuide chosen) objects = record objects { guides = record objects.guides { chosen = chosen } }
objects_after (DropGuide number) objects = record objects { guides = without_object number objects.guides }
objects_after (ChooseOrder chosen) objects = record objects { orders = record objects.orders { chosen = chosen } }
objects_after (DropOrder number) objects = record objects { orders = without_object number objects.orders }
objects_after _ objects = objects

-- the reply where a request does not wait, by what is held after it and by the effect: `contradiction`, or the reply of its own
abbrev pub IsReply : SessionState → Request → Effect → List ℕ → Type 0
IsReply t request effect reply = (Contradicts t request × (reply ≡ fixed_text Contradiction)) ⊎ ((Contradicts t request → ⊥) × Says t request effect reply)

-- the request does not wait; what follows its change led the chosen objects, and is what the reply tells
pub record RequestLeads {G O : Type 0} (guiding : Guiding G) (ordering : Ordering O) (s : SessionState) (request : Request) (before : HeldObjects G O) (reply : List ℕ) (t : SessionState) (after : HeldObjects G O) : Type 0 where
  pub goes : WaitsFor s request → ⊥
  pub changed : SessionState
  pub changes : Changes s request changed
  pub effect : Effect
  pub leads : LeadsOn guiding ordering changed (next changed request) effect (objects_after request before) t after
  pub told : IsReply t request effect reply

-- the request waits, and all is as it was
pub record WaitsAside {G O : Type 0} (s : SessionState) (request : Request) (before : HeldObjects G O) (reply : List ℕ) (t : SessionState) (after : HeldObjects G O) : Type 0 where
  pub waits : WaitsFor s request
  pub told : reply ≡ fixed_text Paused
  pub state : t ≡ s
  pub objects : after ≡ before

-- taking an admitted request: it waits, or it leads the objects
abbrev pub TakesLead : {G O : Type 0} → Guiding G → Ordering O → SessionState → Request → HeldObjects G O → List ℕ → SessionState → HeldObjects G O → Type 0
TakesLead guiding ordering s request before reply t after = WaitsAside s request before reply t after ⊎ RequestLeads guiding ordering s request before reply t after

-- the same for what became of the request: where a search is to run, the objects are as they were so far
abbrev pub BecomesLead : {G O : Type 0} → Guiding G → Ordering O → SessionState → Request → HeldObjects G O → SessionState → HeldObjects G O → Taken → Type 0
BecomesLead guiding ordering s request before t after (Said reply going) = TakesLead guiding ordering s request before (reply_text t reply) t after
BecomesLead guiding ordering s request before t after (ToSearch by) = after ≡ before

-- ---- lines

-- the line is admitted with the request
pub record HasRequest (s : SessionState) (bytes : List ℕ) (request : Request) : Type 0 where
  pub line : Line
  pub read : IsRead s.mode bytes line
  pub admitted : IsAdmitted (heard s line) line request

-- answering a line: the objects are as they were where it is admitted with no request, and else its request leads them, and is
-- what the reply tells of
abbrev pub LineLeads : {G O : Type 0} → Guiding G → Ordering O → SessionState → List ℕ → HeldObjects G O → List ℕ → SessionState → HeldObjects G O → Type 0
LineLeads guiding ordering s bytes before reply t after = (((request : Request) → HasRequest s bytes request → ⊥) × (after ≡ before))
    ⊎ ((request : Request) × (has : HasRequest s bytes request) × TakesLead guiding ordering (heard s has.line) request before reply t after)

-- the same for what became of a line: where a search is to run, the objects are as they were so far
abbrev pub LineBecomesLead : {G O : Type 0} → Guiding G → Ordering O → SessionState → List ℕ → HeldObjects G O → SessionState → HeldObjects G O → Taken → Type 0
LineBecomesLead guiding ordering s bytes before t after (Said reply going) = LineLeads guiding ordering s bytes before (reply_text t reply) t after
LineBecomesLead guiding ordering s bytes before t after (ToSearch by) = after ≡ before

-- the line was answered, its reply written, and led the objects
pub record AnswersLead {G O : Type 0} (guiding : Guiding G) (ordering : Ordering O) (s : SessionState) (line : List ℕ) (was now : Option (List ℕ)) (before : HeldObjects G O) (t : SessionState) (after : HeldObjects G O) : Type 0 where
  pub reply : List ℕ
  pub answers : Answers s line reply t
  pub leads : LineLeads guiding ordering s line before reply t after
  pub written : Appended was now reply

-- from s the lines are answered one after another, with these replies in all, each leads the objects, and t is held in the end
abbrev pub RunLeads : {G O : Type 0} → Guiding G → Ordering O → SessionState → List (List ℕ) → List ℕ → HeldObjects G O → SessionState → HeldObjects G O → Type 0
RunLeads guiding ordering s [] replies before t after = (replies ≡ []) × (t ≡ s) × (after ≡ before)
RunLeads {G = G} {O = O} guiding ordering s (line ∷ lines) replies before t after =
    (reply others : List ℕ) × (m : SessionState) × (between : HeldObjects G O) × Answers s line reply m × LineLeads guiding ordering s line before reply m between
    × (replies ≡ reply ++ others) × RunLeads guiding ordering m lines others between t after

-- ---- texts

-- the first lines of the text are these, a rest is left, and answering the lines with these replies leads the objects
pub record TextLeads {G O : Type 0} (guiding : Guiding G) (ordering : Ordering O) (s : SessionState) (text : List ℕ) (lines : List (List ℕ)) (rest replies : List ℕ) (before : HeldObjects G O) (t : SessionState) (after : HeldObjects G O) : Type 0 where
  pub whole : text ≡ flat_map ended lines ++ rest
  pub unbroken : All HasNoFeed lines
  pub run : RunLeads guiding ordering s (map without_return lines) replies before t after

-- each line that the text completes was answered, its reply written, and leads the objects
pub record LinesLead {G O : Type 0} (guiding : Guiding G) (ordering : Ordering O) (s : SessionState) (text : List ℕ) (was now : Option (List ℕ)) (rest : List ℕ) (before : HeldObjects G O) (t : SessionState) (after : HeldObjects G O) : Type 0 where
  pub lines : List (List ℕ)
  pub replies : List ℕ
  pub led : TextLeads guiding ordering s text lines rest replies before t after
  pub goes_on : All GoesOn (map without_return lines)
  pub written : Appended was now replies

-- the lines up to one that ends the session were answered, their replies written, and lead the objects
pub record LinesLeadOut {G O : Type 0} (guiding : Guiding G) (ordering : Ordering O) (s : SessionState) (text : List ℕ) (was now : Option (List ℕ)) (before : HeldObjects G O) (t : SessionState) (after : HeldObjects G O) : Type 0 where
  pub lines : List (List ℕ)
  pub last : List ℕ
  pub rest : List ℕ
  pub replies : List ℕ
  pub led : TextLeads guiding ordering s text (lines ++ last ∷ []) rest replies before t after
  pub goes_on : All GoesOn (map without_return lines)
  pub ends : Ends (without_return last)
  pub written : Appended was now replies

-- answering the lines of a text and writing the replies, where the rest of the text completes no line if the session goes on
abbrev pub FeedsLead : {G O : Type 0} → Guiding G → Ordering O → SessionState → List ℕ → Option (List ℕ) → Option (List ℕ) → HeldObjects G O → SessionState → HeldObjects G O → Going → Type 0
FeedsLead guiding ordering s text was now before t after More = (rest : List ℕ) × HasNoFeed rest × LinesLead guiding ordering s text was now rest before t after
FeedsLead guiding ordering s text was now before t after Quit = LinesLeadOut guiding ordering s text was now before t after

-- answering a last line without its line feed, if it has a byte, and writing the reply
pub record LastLeads {G O : Type 0} (guiding : Guiding G) (ordering : Ordering O) (s : SessionState) (line : List ℕ) (was now : Option (List ℕ)) (before : HeldObjects G O) (t : SessionState) (after : HeldObjects G O) : Type 0 where
  pub replies : List ℕ
  pub run : RunLeads guiding ordering s (last_line line) replies before t after
  pub written : Appended was now replies
