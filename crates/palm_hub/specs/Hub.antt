-- What a hub line does, and what it is replied.
use Rattle.std.specs.Prelude.{◌≡◌, ◌≢◌, ℕ, ◌<◌, ◌≤◌, Bool, true, false, List, [], ◌∷◌, ◌++◌, length, flat_map, All, Contains, codes, if◌then◌else◌}
use Rattle.std.specs.Str.{bytes_eq}
use Rattle.palm_read.specs.Lines.{AreLines, ended, without_return}
use Rattle.palm_session.specs.Answers.{Answers}
use Rattle.palm_session.specs.Replies.{Ends, GoesOn, Replies}
use Rattle.palm_session.specs.State.{SessionState, fresh}
use Rattle.palm_hub.specs.Addressing.{Addresses, IsHubComment, IsNameless}
use Rattle.palm_hub.specs.Marked.{marked}
use Rattle.palm_hub.specs.declared.limits.TheConstants.{MOST_SESSIONS}
use Rattle.palm_hub.specs.declared.refusal.Refusal.{Refusal}
use Rattle.palm_hub.specs.declared.refusal.Refusal.TheVariants.{NoName, TooMany, Over}

-- ---- sessions

-- a session that was opened: its name, what it holds, and whether it has answered `quit`
pub record Opened : Type 0 where
  pub name : List ℕ
  pub state : SessionState
  pub over : Bool

abbrev pub opened : List ℕ → SessionState → Bool → Opened
opened name state over = record { name = name; state = state; over = over }

abbrev pub IsNewName : List Opened → List ℕ → Type 0
IsNewName hub name = All (λ o. o.name ≢ name) hub

-- a session of the name that goes on is there, or it was opened where there was room
pub data Admits : List Opened → List ℕ → List Opened → Type 0 where
  stays : {hub : List Opened} {name : List ℕ} → (state : SessionState) → Contains hub (opened name state false) → Admits hub name hub
  opens : {hub : List Opened} {name : List ℕ} → IsNewName hub name → length hub < MOST_SESSIONS
      → Admits hub name (hub ++ opened name (fresh [] []) false ∷ [])

-- whether the session is over behind the line
abbrev pub Leaves : List ℕ → Bool → Type 0
Leaves line true = Ends line
Leaves line false = GoesOn line

-- ---- lines

-- what becomes of a hub line: nothing is said of a comment, a line is refused, or it was passed to the session of the name,
-- which gave this reply
pub data Outcome : Type 0 where
  Silent : Outcome
  Refused : Refusal → Outcome
  Passed : (name line reply : List ℕ) → Outcome

-- what becomes of a hub line, and which sessions there are afterwards
pub data HubAnswers : List Opened → List ℕ → Outcome → List Opened → Type 0 where
  comments : {hub : List Opened} {bytes : List ℕ} → IsHubComment bytes → HubAnswers hub bytes Silent hub
  nameless : {hub : List Opened} {bytes : List ℕ} → IsNameless bytes → HubAnswers hub bytes (Refused NoName) hub
  is_over : {hub : List Opened} {bytes name line : List ℕ} → Addresses bytes name line → (state : SessionState)
      → Contains hub (opened name state true) → HubAnswers hub bytes (Refused Over) hub
  is_full : {hub : List Opened} {bytes name line : List ℕ} → Addresses bytes name line → IsNewName hub name → MOST_SESSIONS ≤ length hub
      → HubAnswers hub bytes (Refused TooMany) hub
  passes : {hub : List Opened} {bytes name line reply : List ℕ} (front back : List Opened) (before after : SessionState) (over : Bool)
      → Addresses bytes name line → Admits hub name (front ++ opened name before false ∷ back)
      → Answers before (without_return line) reply after → Leaves (without_return line) over
      → HubAnswers hub bytes (Passed name line reply) (front ++ opened name after over ∷ back)

-- this becomes of the lines, one after another
abbrev pub HubRun : List Opened → List (List ℕ) → List Outcome → List Opened → Type 0
HubRun hub [] outcomes after = (outcomes ≡ []) × (after ≡ hub)
HubRun hub (line ∷ lines) outcomes after =
    (outcome : Outcome) × (others : List Outcome) × (among : List Opened)
    × HubAnswers hub line outcome among × (outcomes ≡ outcome ∷ others) × HubRun among lines others after

-- ---- replies

-- NAME :
abbrev pub prefix_of : List ℕ → List ℕ
prefix_of name = name ++ codes " : "

abbrev pub refusal_text : Refusal → List ℕ
refusal_text NoName = ended (codes "hub error H1 no session name")
refusal_text TooMany = ended (codes "hub error H2 too many sessions")
refusal_text Over = ended (codes "hub error H3 session over")

-- what is written of it: each line of a session's reply behind its name
abbrev pub output_of : Outcome → List ℕ
output_of Silent = []
output_of (Refused refusal) = refusal_text refusal
output_of (Passed name line reply) = marked (prefix_of name) reply

-- the line that was passed to the session of the name, if it was
abbrev pub text_in : List ℕ → Outcome → List ℕ
text_in name Silent = []
text_in name (Refused refusal) = []
text_in name (Passed other line reply) = if bytes_eq other name then ended line else []

-- and that session's reply
abbrev pub reply_in : List ℕ → Outcome → List ℕ
reply_in name Silent = []
reply_in name (Refused refusal) = []
reply_in name (Passed other line reply) = if bytes_eq other name then reply else []

-- the session lines of a name, each with a line feed, that were not refused
abbrev pub text_of : List ℕ → List Outcome → List ℕ
text_of name outcomes = flat_map (text_in name) outcomes

-- the replies to them
abbrev pub replies_of : List ℕ → List Outcome → List ℕ
replies_of name outcomes = flat_map (reply_in name) outcomes

-- the output is, hub line by hub line, what becomes of the lines of the input; and the replies of each session are those to
-- its own lines alone
pub record HubReplies (input output : List ℕ) : Type 0 where
  pub lines : List (List ℕ)
  pub outcomes : List Outcome
  pub sessions : List Opened
  pub are_lines : AreLines input lines
  pub run : HubRun [] lines outcomes sessions
  pub written : output ≡ flat_map output_of outcomes
  pub apart : (name : List ℕ) → Replies [] [] (text_of name outcomes) (replies_of name outcomes)
