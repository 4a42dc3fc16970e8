-- What a taker does with bytes.
use Rattle.std.specs.Prelude.{ℕ, Bool, true, false, List, ◌++◌, Result, Ok, Err}
use Rattle.palm_base.specs.Streams.{SinkState}
use Rattle.palm_lang.specs.declared.stop.WriteStop.{WriteStop as Stop}

-- how far a taker came: it takes more; it has enough; it took the end, too; or it stopped, before the end or at it
pub data Progress : Type 0 where
  More : Progress
  Enough : Progress
  Whole : Progress
  Until : Stop → Progress
  WholeUntil : Stop → Progress

-- what is done with the bytes of a text, by how far a taker comes in them: what becomes of the sink and of the taker
abbrev pub Taking : Type 0 → Type 1
Taking T = Progress → List ℕ → SinkState → SinkState → T → Type 0

-- how far it came by what it answers to a piece
abbrev pub progress_of : Result Bool Stop → Progress
progress_of (Ok true) = More
progress_of (Ok false) = Enough
progress_of (Err stop) = Until stop

-- and by what it answers to the end
abbrev pub last_progress_of : {A : Type 0} → Result A Stop → Progress
last_progress_of (Ok _) = Whole
last_progress_of (Err stop) = WholeUntil stop

-- it took some bytes, and takes more
abbrev pub GoesOn : {T : Type 0} → (T → Taking T) → T → SinkState → Type 0
GoesOn {T} takes taker sink = (first : T) × (seen : List ℕ) × (before : SinkState) × takes first More seen before sink taker

-- whatever it took before, it took the piece behind that
abbrev pub TakesOn : {T : Type 0} → (T → Taking T) → T → SinkState → List ℕ → Result Bool Stop → T → SinkState → Type 0
TakesOn {T} takes was before piece result now after =
    (first : T) (seen : List ℕ) (start : SinkState) → takes first More seen start before was
    → takes first (progress_of result) (seen ++ piece) start after now

-- whatever it took before, it took the end behind that
abbrev pub TakesEnd : {T A : Type 0} → (T → Taking T) → T → SinkState → Result A Stop → T → SinkState → Type 0
TakesEnd {T} takes was before result now after =
    (first : T) (seen : List ℕ) (start : SinkState) → takes first More seen start before was
    → takes first (last_progress_of result) seen start after now
