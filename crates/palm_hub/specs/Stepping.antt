-- What the steps of a hub do: a name is looked up, a line is begun, and a line is ended.
use Rattle.std.specs.Prelude.{◌≡◌, ◌≢◌, ℕ, ◌<◌, ◌≤◌, Bool, true, false, List, [], ◌∷◌, ◌++◌, length, flat_map, All, Option, Some, Result, ⊤, IfErr, MatchOption, OnOk}
use Rattle.std.specs.List.{HoldsAt}
use Rattle.palm_base.specs.Streams.{Appended, Rose, SinkState}
use Rattle.palm_lang.specs.Writing.{AppendedUntil, IsCounted}
use Rattle.palm_lang.specs.declared.stop.WriteStop.{WriteStop as Stop}
use Rattle.palm_lang.specs.declared.stop.WriteStop.TheVariants.{NoMemory}
use Rattle.palm_read.specs.Lines.{HasNoFeed}
use Rattle.palm_session.specs.State.{fresh}
use Rattle.palm_hub.specs.Addressing.{Addresses}
use Rattle.palm_hub.specs.Hub.{Admits, HubAnswers, HubRun, Opened, Outcome, output_of}
use Rattle.palm_hub.specs.Hub.Outcome.{Refused}
use Rattle.palm_hub.specs.Standing.{AreIdle, HubView, Member, Stands, sessions_of}
use Rattle.palm_hub.specs.declared.limits.TheConstants.{MOST_HEAD_BYTES}
use Rattle.palm_hub.specs.declared.refusal.Refusal.{Refusal}
use Rattle.palm_hub.specs.declared.part.Part.{Part}
use Rattle.palm_hub.specs.declared.part.Part.TheVariants.{Head, Skipped, Session}

-- ---- steps that write nothing

-- nothing is written, and nothing but memory runs out
pub record IsQuiet {T : Type 0} (before now : SinkState) (result : Result T Stop) : Type 0 where
  pub counted : IsCounted before.faults now.faults result
  pub written : OnOk result (Appended before.written now.written [])
  pub memory : IfErr result (λ stop. stop ≡ NoMemory)
  pub stopped : IfErr result (λ _. (Rose before.faults now.faults → ⊥) → Appended before.written now.written [])

-- ---- what holds of a hub at every moment

-- a line that is passed to a session is passed to one that goes on
abbrev pub IsPlaced : {G O : Type 0} → Part → List (Member G O) → Type 0
IsPlaced (Session place) members = (place < length members) × HoldsAt (λ m. m.session.over ≡ false) members place
IsPlaced _ members = ⊤

pub record IsHub {G O : Type 0} (v : HubView G O) : Type 0 where
  pub short : length v.head ≤ MOST_HEAD_BYTES
  pub unbroken : HasNoFeed v.head
  pub placed : IsPlaced v.part v.members

-- ---- a name

-- the session at the place has the name, or none has
abbrev pub IsFound : {G O : Type 0} → List (Member G O) → List ℕ → Option ℕ → Type 0
IsFound members name result =
    MatchOption result (All (λ m. m.name ≢ name) members) (λ place. (place < length members) × HoldsAt (λ m. m.name ≡ name) members place)

-- a session of the name that was just opened
pub record IsFresh {G O : Type 0} (at : Member G O) (given : List ℕ) : Type 0 where
  pub named : at.name ≡ given
  pub state : at.session.state ≡ fresh [] []
  pub kept : at.session.unfinished ≡ []
  pub going : at.session.over ≡ false

-- each line for the session of the name is refused
abbrev pub Refuses : List Opened → List ℕ → Refusal → Type 0
Refuses hub name refusal = (bytes line : List ℕ) → Addresses bytes name line → HubAnswers hub bytes (Refused refusal) hub

-- the session of the name stands at the place and goes on; it was there, or it was opened
pub record Admitted {G O : Type 0} (before : List (Member G O)) (given : List ℕ) (place : ℕ) (after : List (Member G O)) : Type 0 where
  pub front : List (Member G O)
  pub at : Member G O
  pub back : List (Member G O)
  pub whole : after ≡ front ++ at ∷ back
  pub placed : length front ≡ place
  pub named : at.name ≡ given
  pub going : at.session.over ≡ false
  pub admits : Admits (sessions_of before) given (sessions_of after)
  pub idle : AreIdle before → AreIdle after

-- where a line for the session of the name goes, or why it is refused
abbrev pub IsAdmission : {G O : Type 0} → List (Member G O) → List ℕ → Part → List (Member G O) → Type 0
IsAdmission before name (Session place) after = Admitted before name place after
IsAdmission before name (Skipped (Some refusal)) after = Refuses (sessions_of before) name refusal × (after ≡ before)
IsAdmission before name _ after = ⊥

-- ---- the first bytes of a line

-- so many bytes tell where a line goes, if more may follow
abbrev pub IsEnough : Bool → List ℕ → Type 0
IsEnough true head = MOST_HEAD_BYTES ≤ length head
IsEnough false head = ⊤

-- it is told where the line goes
abbrev pub IsRouted : Part → Type 0
IsRouted Head = ⊥
IsRouted _ = ⊤

-- where the hub stands in a line behind these bytes of it
abbrev pub StandsIn : {G O : Type 0} → List Opened → List ℕ → HubView G O → Type 0
StandsIn hub content v = Stands true hub content v.head v.part v.members

-- these bytes of a line were taken
abbrev pub TakesIn : {G O : Type 0} → HubView G O → List ℕ → HubView G O → Type 0
TakesIn before bytes after = (hub : List Opened) (content : List ℕ) → StandsIn hub content before → StandsIn hub (content ++ bytes) after

-- the same where the line ends behind its bytes
abbrev pub StandsAtEnd : {G O : Type 0} → List Opened → List ℕ → HubView G O → Type 0
StandsAtEnd hub content v = Stands false hub content v.head v.part v.members

-- no byte of a line was taken
pub record IsAtStart {G O : Type 0} (v : HubView G O) : Type 0 where
  pub begun : v.part ≡ Head
  pub none : v.head ≡ []
  pub free : v.held ≡ false

-- ---- the end of a line

-- the line was answered
pub record AnswersOne (before : List Opened) (line : List ℕ) (was now : Option (List ℕ)) (after : List Opened) : Type 0 where
  pub outcome : Outcome
  pub answers : HubAnswers before line outcome after
  pub written : Appended was now (output_of outcome)

-- the line was answered until the stop, or memory ran out before it was
pub record AnswersOneUntil (stop : Stop) (before : List Opened) (line : List ℕ) (was now : Option (List ℕ)) : Type 0 where
  pub lines : List (List ℕ)
  pub others : List (List ℕ)
  pub outcomes : List Outcome
  pub after : List Opened
  pub whole : line ∷ [] ≡ lines ++ others
  pub run : HubRun before lines outcomes after
  pub written : AppendedUntil stop was now (flat_map output_of outcomes)
