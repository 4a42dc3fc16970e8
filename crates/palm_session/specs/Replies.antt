-- The replies to a whole text.
use Rattle.std.specs.Prelude.{◌≡◌, ℕ, ◌⊎◌, List, [], ◌∷◌, ◌++◌, All, Contains, None, map, flat_map}
use Rattle.palm_read.specs.Reading.{IsRead}
use Rattle.palm_read.specs.declared.mode.Mode.TheVariants.{First, One}
use Rattle.palm_read.specs.declared.line.Line.TheVariants.{Comment, Header, Guide, Order, Quit}
use Rattle.palm_session.specs.State.{SessionState, fresh}
use Rattle.palm_session.specs.Answers.{Answers}
use Rattle.palm_lang.specs.Reply.{ended}
use Rattle.palm_read.specs.Lines.{AreLines, HasNoFeed, without_return}

-- the line ends the session: in every mode, since what version 1 reads is read in each of them
abbrev pub Ends : List ℕ → Type 0
Ends line = IsRead One line Quit

-- the line does not end the session
abbrev pub GoesOn : List ℕ → Type 0
GoesOn line = Ends line → ⊥

-- from s the lines are answered one after another, with these replies in all, and t is held in the end
abbrev pub Run : SessionState → List (List ℕ) → List ℕ → SessionState → Type 0
Run s [] replies t = (replies ≡ []) × (t ≡ s)
Run s (line ∷ lines) replies t =
    (reply others : List ℕ) × (m : SessionState) × Answers s line reply m × (replies ≡ reply ++ others) × Run m lines others t

-- all lines are answered, or those up to the first that ends the session
pub data AreAnswered : List (List ℕ) → List (List ℕ) → Type 0 where
  all : {lines : List (List ℕ)} → All GoesOn lines → AreAnswered lines lines
  until : {lines : List (List ℕ)} → (before after : List (List ℕ)) (last : List ℕ) → All GoesOn before → Ends last → lines ≡ before ++ last ∷ after → AreAnswered lines (before ++ last ∷ [])

-- no line but the last ends the session
abbrev pub KeepsOn : List (List ℕ) → Type 0
KeepsOn [] = Unit {0}
KeepsOn (line ∷ []) = Unit {0}
KeepsOn (line ∷ next ∷ lines) = GoesOn line × KeepsOn (next ∷ lines)

-- the first lines of the text are these, a rest is left, and the lines are answered with these replies
pub record Answered (before : SessionState) (text : List ℕ) (lines : List (List ℕ)) (rest replies : List ℕ) (after : SessionState) : Type 0 where
  pub whole : text ≡ flat_map ended lines ++ rest
  pub unbroken : All HasNoFeed lines
  pub run : Run before (map without_return lines) replies after

-- the output is the replies to the lines of the text, one by one, from this state on
pub record RepliesFrom (s : SessionState) (text output : List ℕ) : Type 0 where
  pub lines : List (List ℕ)
  pub answered : List (List ℕ)
  pub state : SessionState
  pub are_lines : AreLines text lines
  pub are_answered : AreAnswered lines answered
  pub run : Run s answered output state

-- the same from a fresh session with these guides and orders
abbrev pub Replies : List ℕ → List ℕ → List ℕ → List ℕ → Type 0
Replies guides orders text output = RepliesFrom (fresh guides orders) text output

-- the first of the lines that is no comment is the header
abbrev pub BeginsVersion2 : List (List ℕ) → Type 0
BeginsVersion2 [] = ⊥
BeginsVersion2 (line ∷ lines) = IsRead First line Header ⊎ (IsRead First line Comment × BeginsVersion2 lines)

-- no guide and no order is chosen
abbrev pub HasNoneChosen : SessionState → Type 0
HasNoneChosen s = (s.guide ≡ None) × (s.order ≡ None)

-- none is chosen where a line of the text is answered, however those before it were answered, of which none ends the session
abbrev pub KeepsNoneChosen : List ℕ → List ℕ → List ℕ → Type 0
KeepsNoneChosen guides orders text =
    (before after : List (List ℕ)) (line replies : List ℕ) (s : SessionState)
    → AreLines text (before ++ line ∷ after) → All GoesOn before → Run (fresh guides orders) before replies s → HasNoneChosen s

-- the line chooses one of the guides or orders that were handed in, in every mode
pub data ChoosesObject (guides orders line : List ℕ) : Type 0 where
  chooses_guide : (number : ℕ) → Contains guides number → IsRead One line (Guide number) → ChoosesObject guides orders line
  chooses_order : (number : ℕ) → Contains orders number → IsRead One line (Order number) → ChoosesObject guides orders line

-- no line of the text does
abbrev pub ChoosesNone : List ℕ → List ℕ → List ℕ → Type 0
ChoosesNone guides orders text = (lines : List (List ℕ)) → AreLines text lines → All (λ line. ChoosesObject guides orders line → ⊥) lines
