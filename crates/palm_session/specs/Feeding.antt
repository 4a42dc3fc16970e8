-- What feeding bytes to a session does.
use Rattle.std.specs.Prelude.{◌≡◌, ℕ, ⊤, Bool, true, false, List, [], ◌∷◌, ◌++◌, ◌⊎◌, All, map, flat_map, ◌≤◌, ◌+◌, min, take, drop, length, Option, Result, Ok, Err}
use Rattle.palm_base.specs.Streams.{Appended}
use Rattle.palm_session.specs.Objects.{HeldObjects}
use Rattle.palm_session.specs.Serving.{DeskView}
use Rattle.palm_session.specs.State.{SessionState, IsState}
use Rattle.palm_session.specs.Answers.{Answers}
use Rattle.palm_base.specs.declared.limits.TheConstants.{LAST_COUNT}
use Rattle.palm_lang.specs.Reply.{ended}
use Rattle.palm_lang.specs.Writing.{AppendedUntil}
use Rattle.palm_session.specs.Asking.{Asks, RunAsking}
use Rattle.palm_read.specs.Lines.{HasNoFeed, without_return, last_line}
use Rattle.palm_read.specs.Reading.{IsRead}
use Rattle.palm_read.specs.declared.line.Line.{Line}
use Rattle.palm_session.specs.Modes.{heard}
use Rattle.palm_session.specs.Requests.{IsAdmitted}
use Rattle.palm_session.specs.ReplyText.{reply_text, ReplyFits}
use Rattle.palm_session.specs.Replies.{Run, Answered, GoesOn, Ends, KeepsOn}
use Rattle.palm_session.specs.declared.limits.TheConstants.{MOST_KEPT_BYTES}
use Rattle.palm_session.specs.declared.going.Going.{Going}
use Rattle.palm_session.specs.declared.going.Going.TheVariants.{More, Quit}
use Rattle.palm_session.specs.declared.request.Request.TheVariants.{Solve}
use Rattle.palm_session.specs.declared.taken.Taken.{Taken}
use Rattle.palm_session.specs.declared.taken.Taken.TheVariants.{Said, ToSearch}
use Rattle.palm_lang.specs.declared.stop.WriteStop.{WriteStop as Stop}

-- bytes of an unfinished line, as many as are kept of one
pub record IsUnfinished (bytes : List ℕ) : Type 0 where
  pub few : length bytes ≤ MOST_KEPT_BYTES
  pub unbroken : HasNoFeed bytes

-- what is seen of a session: what it holds, how often its engine has asked for support, the objects themselves, the bytes that
-- it keeps of an unfinished line, and whether it is over
pub record View (G O : Type 0) : Type 0 where
  pub state : SessionState
  pub checks : ℕ
  pub objects : HeldObjects G O
  pub unfinished : List ℕ
  pub over : Bool

-- what is seen of the parts of a session
abbrev pub view_of : {G O : Type 0} → DeskView G O → List ℕ → Bool → View G O
view_of desk unfinished over = record { state = desk.state; checks = desk.checks; objects = desk.objects; unfinished = unfinished; over = over }

-- what holds of a session at every moment
pub record IsSession {G O : Type 0} (v : View G O) : Type 0 where
  pub unfinished : IsUnfinished v.unfinished
  pub state : v.over ≡ false → IsState v.state
  pub counted : v.checks ≤ LAST_COUNT

-- whether the session goes on is what the line says
abbrev pub Decides : Going → List ℕ → Type 0
Decides More line = GoesOn line
Decides Quit line = Ends line

-- what became of a line: its reply, or that the search which it is admitted with is to run
abbrev pub LineBecomes : SessionState → List ℕ → SessionState → Taken → Type 0
LineBecomes s bytes t (Said reply going) = Answers s bytes (reply_text t reply) t
LineBecomes s bytes t (ToSearch by) =
    (line : Line) × IsRead s.mode bytes line × IsAdmitted (heard s line) line (Solve by) × ((heard s line).paused ≡ false) × (t ≡ heard s line)

-- a reply fits what is held
abbrev pub TakenFits : SessionState → Taken → Type 0
TakenFits t (Said reply going) = ReplyFits t reply
TakenFits t (ToSearch by) = ⊤

-- answering the line so far has asked for support so often
abbrev pub TakenAsks : SessionState → List ℕ → SessionState → ℕ → Taken → Type 0
TakenAsks s bytes t asked (Said reply going) = Asks s bytes t asked
TakenAsks s bytes t asked (ToSearch by) = asked ≡ 0

-- the session goes on as the line says
abbrev pub TakenDecides : List ℕ → Taken → Type 0
TakenDecides bytes (Said reply going) = Decides going bytes
TakenDecides bytes (ToSearch by) = GoesOn bytes

-- the line was answered, its reply written, and support asked for so often
pub record AnswersLine (before : SessionState) (line : List ℕ) (was now : Option (List ℕ)) (going : Going) (after : SessionState) (asked : ℕ) : Type 0 where
  pub reply : List ℕ
  pub answers : Answers before line reply after
  pub asks : Asks before line after asked
  pub written : Appended was now reply
  pub decides : Decides going line

-- the line's reply was written until the stop
pub record AnswersFront (stop : Stop) (before : SessionState) (line : List ℕ) (was now : Option (List ℕ)) : Type 0 where
  pub reply : List ℕ
  pub after : SessionState
  pub answers : Answers before line reply after
  pub written : AppendedUntil stop was now reply

-- the line was answered, whatever of it was fed at once
pub record AnswersWhole (before : SessionState) (line : List ℕ) (was now : Option (List ℕ)) (going : Going) (after : SessionState) : Type 0 where
  pub reply : List ℕ
  pub answers : Answers before (without_return line) reply after
  pub decides : Decides going (without_return line)
  pub written : Appended was now reply

abbrev pub AnswersTo : SessionState → List ℕ → Option (List ℕ) → Option (List ℕ) → SessionState → ℕ → Result Going Stop → Type 0
AnswersTo before line was now after asked (Ok going) = AnswersLine before line was now going after asked
AnswersTo before line was now after asked (Err stop) = AnswersFront stop before line was now

-- the first lines of the text are these, a rest is left, and the lines are answered with these replies, while support is
-- asked for so often
pub record Served (before : SessionState) (text : List ℕ) (lines : List (List ℕ)) (rest replies : List ℕ) (after : SessionState) (asked : ℕ) : Type 0 where
  pub whole : text ≡ flat_map ended lines ++ rest
  pub unbroken : All HasNoFeed lines
  pub run : RunAsking before (map without_return lines) replies after asked

-- each line that the text completes was answered, and the rest is left
pub record FeedsOn (before : SessionState) (text : List ℕ) (was now : Option (List ℕ)) (rest : List ℕ) (after : SessionState) (asked : ℕ) : Type 0 where
  pub lines : List (List ℕ)
  pub replies : List ℕ
  pub answered : Served before text lines rest replies after asked
  pub unfinished : HasNoFeed rest
  pub goes_on : All GoesOn (map without_return lines)
  pub written : Appended was now replies

-- the lines up to one that ends the session were answered, and the bytes behind it were not looked at
pub record FeedsEnd (before : SessionState) (text : List ℕ) (was now : Option (List ℕ)) (after : SessionState) (asked : ℕ) : Type 0 where
  pub lines : List (List ℕ)
  pub last : List ℕ
  pub rest : List ℕ
  pub replies : List ℕ
  pub answered : Served before text (lines ++ last ∷ []) rest replies after asked
  pub goes_on : All GoesOn (map without_return lines)
  pub ends : Ends (without_return last)
  pub written : Appended was now replies

-- the replies to the first lines were written until the stop
pub record FeedsPart (stop : Stop) (before : SessionState) (text : List ℕ) (was now : Option (List ℕ)) : Type 0 where
  pub lines : List (List ℕ)
  pub rest : List ℕ
  pub replies : List ℕ
  pub after : SessionState
  pub answered : Answered before text lines rest replies after
  pub keeps_on : KeepsOn (map without_return lines)
  pub written : AppendedUntil stop was now replies

-- what answering the lines of a text answers: whether the session goes on, and where the rest of the text begins
abbrev pub AnswersLines : SessionState → List ℕ → Option (List ℕ) → Option (List ℕ) → SessionState → ℕ → Result (Going × ℕ) Stop → Type 0
AnswersLines before text was now after asked (Ok (More, used)) = (used ≤ length text) × FeedsOn before text was now (drop used text) after asked
AnswersLines before text was now after asked (Ok (Quit, used)) = (used ≤ length text) × FeedsEnd before text was now after asked
AnswersLines before text was now after asked (Err stop) = FeedsPart stop before text was now

-- each line that the text completes was answered, and the first bytes of the rest are kept
pub record KeepsRest (before : SessionState) (text : List ℕ) (was now : Option (List ℕ)) (unfinished : List ℕ) (after : SessionState) (asked : ℕ) : Type 0 where
  pub rest : List ℕ
  pub feeds : FeedsOn before text was now rest after asked
  pub kept : unfinished ≡ take MOST_KEPT_BYTES rest

-- what feeding answers, before it is noted whether the session is over
abbrev pub FeedsText : {G O : Type 0} → SessionState → List ℕ → Option (List ℕ) → Option (List ℕ) → View G O → ℕ → Result Going Stop → Type 0
FeedsText before text was now after asked (Ok More) = KeepsRest before text was now after.unfinished after.state asked
FeedsText before text was now after asked (Ok Quit) = FeedsEnd before text was now after.state asked
FeedsText before text was now after asked (Err stop) = FeedsPart stop before text was now

-- what feeding answers, while support is asked for so often
abbrev pub Feeds : {G O : Type 0} → View G O → List ℕ → Option (List ℕ) → Option (List ℕ) → View G O → ℕ → Result Going Stop → Type 0
Feeds before piece was now after asked (Ok More) =
    KeepsRest before.state (before.unfinished ++ piece) was now after.unfinished after.state asked × (after.over ≡ false)
Feeds before piece was now after asked (Ok Quit) = FeedsEnd before.state (before.unfinished ++ piece) was now after.state asked × (after.over ≡ true)
Feeds before piece was now after asked (Err stop) = FeedsPart stop before.state (before.unfinished ++ piece) was now × (after.over ≡ true)

-- a last line without its line feed was answered, if it has a byte
pub record FinishesAll (before : SessionState) (line : List ℕ) (was now : Option (List ℕ)) (after : SessionState) (asked : ℕ) : Type 0 where
  pub replies : List ℕ
  pub run : RunAsking before (last_line line) replies after asked
  pub last : All GoesOn (last_line line) ⊎ All Ends (last_line line)
  pub written : Appended was now replies

-- the reply to it was written until the stop
pub record FinishesPart (stop : Stop) (before : SessionState) (line : List ℕ) (was now : Option (List ℕ)) : Type 0 where
  pub replies : List ℕ
  pub after : SessionState
  pub run : Run before (last_line line) replies after
  pub written : AppendedUntil stop was now replies

-- what answering a last line answers
abbrev pub FinishesTo : {T : Type 0} → SessionState → List ℕ → Option (List ℕ) → Option (List ℕ) → SessionState → ℕ → Result T Stop → Type 0
FinishesTo before line was now after asked (Ok _) = FinishesAll before line was now after asked
FinishesTo before line was now after asked (Err stop) = FinishesPart stop before line was now

-- what finishing answers, while support is asked for so often
abbrev pub Finishes : {G O T : Type 0} → View G O → Option (List ℕ) → Option (List ℕ) → View G O → ℕ → Result T Stop → Type 0
Finishes before was now after asked result = FinishesTo before.state before.unfinished was now after.state asked result × (after.over ≡ true)

-- how the engine's count of questions rose while support was asked for so often
abbrev pub RaisesChecks : {G O : Type 0} → View G O → View G O → ℕ → Type 0
RaisesChecks before after asked = after.checks ≡ min (before.checks + asked) LAST_COUNT
