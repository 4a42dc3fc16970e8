-- Where a hub stands: its sessions, and the line that it is in.
use Rattle.std.specs.Prelude.{◌≡◌, ◌≢◌, ℕ, ◌<◌, ◌+◌, Bool, true, false, List, [], ◌∷◌, ◌++◌, length, take, drop, map, flat_map, All, Option, Some, None, ⊤, if◌then◌else◌}
use Rattle.palm_base.specs.Streams.{Appended}
use Rattle.palm_lang.specs.Writing.{AppendedUntil}
use Rattle.palm_lang.specs.declared.stop.WriteStop.{WriteStop as Stop}
use Rattle.palm_read.specs.Bytes.{after_blanks}
use Rattle.palm_read.specs.Lines.{AreLines, Cuts, HasNoFeed, ended, last_line, without_return}
use Rattle.palm_session.specs.Answers.{Answers}
use Rattle.palm_session.specs.Feeding.{View}
use Rattle.palm_session.specs.State.{SessionState}
use Rattle.palm_session.specs.declared.limits.TheConstants.{MOST_KEPT_BYTES}
use Rattle.palm_hub.specs.Addressing.{Addresses, IsHubComment, IsNameless}
use Rattle.palm_hub.specs.Hub.{Admits, HubAnswers, HubRun, Leaves, Opened, Outcome, opened, output_of}
use Rattle.palm_hub.specs.Hub.Outcome.{Silent, Refused}
use Rattle.palm_hub.specs.Marked.{marked}
use Rattle.palm_hub.specs.declared.addressee.Addressee.{Addressee}
use Rattle.palm_hub.specs.declared.addressee.Addressee.TheVariants.{Blank, Nobody, Nameless, Session as Goes}
use Rattle.palm_hub.specs.declared.limits.TheConstants.{MOST_HEAD_BYTES}
use Rattle.palm_hub.specs.declared.refusal.Refusal.{Refusal}
use Rattle.palm_hub.specs.declared.part.Part.{Part}
use Rattle.palm_hub.specs.declared.part.Part.TheVariants.{Head, Blanks, Skipped, Session}

-- ---- one session

-- bytes of a line were kept, and nothing was answered
pub record KeepsPart {G O : Type 0} (before : View G O) (piece : List ℕ) (after : View G O) : Type 0 where
  pub state : after.state ≡ before.state
  pub going : after.over ≡ false
  pub kept : after.unfinished ≡ take MOST_KEPT_BYTES (before.unfinished ++ piece)

-- the line, of which the first bytes were kept, was answered, and the lines of its reply written behind the prefix
pub record AnswersIn {G O : Type 0} (before : View G O) (line prefix : List ℕ) (was now : Option (List ℕ)) (after : View G O) : Type 0 where
  pub reply : List ℕ
  pub answers : Answers before.state (without_return line) reply after.state
  pub leaves : Leaves (without_return line) after.over
  pub written : Appended was now (marked prefix reply)
  pub idle : after.over ≡ false → after.unfinished ≡ []

-- the same until a stop
pub record AnswersInUntil (stop : Stop) (before : SessionState) (line prefix : List ℕ) (was now : Option (List ℕ)) : Type 0 where
  pub reply : List ℕ
  pub after : SessionState
  pub over : Bool
  pub answers : Answers before (without_return line) reply after
  pub leaves : Leaves (without_return line) over
  pub written : AppendedUntil stop was now (marked prefix reply)

-- ---- the sessions

-- a session and its name
pub record Member (G O : Type 0) : Type 0 where
  pub name : List ℕ
  pub session : View G O

abbrev pub member : {G O : Type 0} → List ℕ → View G O → Member G O
member name session = record { name = name; session = session }

abbrev pub opened_of : {G O : Type 0} → Member G O → Opened
opened_of m = opened m.name m.session.state m.session.over

abbrev pub sessions_of : {G O : Type 0} → List (Member G O) → List Opened
sessions_of members = map opened_of members

-- no session that goes on keeps bytes of a line
abbrev pub AreIdle : {G O : Type 0} → List (Member G O) → Type 0
AreIdle members = All (λ m. m.session.over ≡ false → m.session.unfinished ≡ []) members

-- ---- the line

-- these are the sessions, and none is in a line
pub record IsAtLine {G O : Type 0} (hub : List Opened) (members : List (Member G O)) : Type 0 where
  pub same : hub ≡ sessions_of members
  pub idle : AreIdle members

-- the bytes are a name, a space or a tab, and the bytes so far of a line of the session at the place, of which it keeps the
-- first ones
pub record IsInLine {G O : Type 0} (hub : List Opened) (content : List ℕ) (place : ℕ) (members : List (Member G O)) : Type 0 where
  pub line : List ℕ
  pub front : List (Member G O)
  pub at : Member G O
  pub back : List (Member G O)
  pub addresses : Addresses content at.name line
  pub whole : members ≡ front ++ at ∷ back
  pub placed : length front ≡ place
  pub going : at.session.over ≡ false
  pub kept : at.session.unfinished ≡ take MOST_KEPT_BYTES line
  pub admits : Admits hub at.name (sessions_of members)
  pub idle_front : AreIdle front
  pub idle_back : AreIdle back

-- what becomes of a line that is skipped
abbrev pub skipped : Option Refusal → Outcome
skipped None = Silent
skipped (Some refusal) = Refused refusal

-- bytes of the line may follow, or none
abbrev pub MayFollow : Bool → List ℕ → Type 0
MayFollow true rest = ⊤
MayFollow false rest = rest ≡ []

-- a line of which more may follow has a byte
abbrev pub IsBegun : Bool → List ℕ → Type 0
IsBegun true content = content ≢ []
IsBegun false content = ⊤

-- where the hub stands behind these bytes of a line that began with these sessions: in its head, which is kept; behind blanks;
-- in a line that is skipped, whatever may follow; or in one that is passed to a session
abbrev pub Stands : {G O : Type 0} → Bool → List Opened → List ℕ → List ℕ → Part → List (Member G O) → Type 0
Stands more hub content head Head members = (content ≡ head) × (length head < MOST_HEAD_BYTES) × IsAtLine hub members
Stands more hub content head Blanks members = (after_blanks content ≡ []) × IsBegun more content × IsAtLine hub members
Stands more hub content head (Skipped refusal) members =
    ((rest : List ℕ) → MayFollow more rest → HubAnswers hub (content ++ rest) (skipped refusal) hub) × IsBegun more content × IsAtLine hub members
Stands more hub content head (Session place) members = IsInLine hub content place members

-- a carriage return waits behind the bytes, or none stands at their end
pub record Holds (seen content : List ℕ) (held : Bool) : Type 0 where
  pub shown : without_return seen ≡ content
  pub whole : seen ≡ (if held then content ++ 13 ∷ [] else content)

-- to whom a line goes whose first bytes are these
abbrev pub Points : List ℕ → Addressee → Type 0
Points head Blank = after_blanks head ≡ []
Points head Nobody = IsHubComment head × (after_blanks head ≢ [])
Points head Nameless = IsNameless head
Points head (Goes length) = (line : List ℕ) × Addresses head (take length head) line × (line ≡ drop (length + 1) head)

-- ---- the hub

-- what is seen of a hub: its sessions, the head of the line that it is in, where it stands in it, and whether a carriage return
-- waits
pub record HubView (G O : Type 0) : Type 0 where
  pub members : List (Member G O)
  pub head : List ℕ
  pub part : Part
  pub held : Bool

abbrev pub hub_view : {G O : Type 0} → List (Member G O) → List ℕ → Part → Bool → HubView G O
hub_view members head part held = record { members = members; head = head; part = part; held = held }

-- the hub stands behind these bytes of a line that began with these sessions
pub record StandsBehind {G O : Type 0} (hub : List Opened) (seen : List ℕ) (view : HubView G O) : Type 0 where
  pub content : List ℕ
  pub holds : Holds seen content view.held
  pub stands : Stands true hub content view.head view.part view.members

-- ---- lines

-- the lines that the text completes were answered, and a rest is left
pub record AnswersLines (before : List Opened) (text : List ℕ) (was now : Option (List ℕ)) (rest : List ℕ) (after : List Opened) : Type 0 where
  pub lines : List (List ℕ)
  pub outcomes : List Outcome
  pub cuts : Cuts text lines rest
  pub run : HubRun before (map without_return lines) outcomes after
  pub written : Appended was now (flat_map output_of outcomes)

-- the first lines that the text completes were answered, the last of them until the stop
pub record AnswersUntil (stop : Stop) (before : List Opened) (text : List ℕ) (was now : Option (List ℕ)) : Type 0 where
  pub lines : List (List ℕ)
  pub rest : List ℕ
  pub outcomes : List Outcome
  pub after : List Opened
  pub whole : text ≡ flat_map ended lines ++ rest
  pub unbroken : All HasNoFeed lines
  pub run : HubRun before (map without_return lines) outcomes after
  pub written : AppendedUntil stop was now (flat_map output_of outcomes)

-- a last line without its line feed was answered, if it has a byte
pub record AnswersLast (before : List Opened) (rest : List ℕ) (was now : Option (List ℕ)) : Type 0 where
  pub outcomes : List Outcome
  pub after : List Opened
  pub run : HubRun before (last_line rest) outcomes after
  pub written : Appended was now (flat_map output_of outcomes)

-- nothing comes behind the text, and its first lines were answered, the last of them until the stop
pub record AnswersLastUntil (stop : Stop) (before : List Opened) (text : List ℕ) (was now : Option (List ℕ)) : Type 0 where
  pub lines : List (List ℕ)
  pub others : List (List ℕ)
  pub outcomes : List Outcome
  pub after : List Opened
  pub are_lines : AreLines text (lines ++ others)
  pub run : HubRun before lines outcomes after
  pub written : AppendedUntil stop was now (flat_map output_of outcomes)
