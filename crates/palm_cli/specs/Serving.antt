-- What a session does with the bytes that it takes, and what becomes of the objects that it was handed.
use Rattle.std.specs.Prelude.{◌≡◌, ℕ, List, false, take}
use Rattle.palm_base.specs.Streams.{SinkState, Appended}
use Rattle.palm_pump.specs.Taking.{Progress}
use Rattle.palm_pump.specs.Taking.Progress.{More, Enough, Whole}
use Rattle.palm_session.specs.Feeding.{View}
use Rattle.palm_session.specs.Led.{Guiding, Ordering, LinesLead, LinesLeadOut}
use Rattle.palm_session.specs.Objects.{HeldObjects}
use Rattle.palm_session.specs.State.{fresh}
use Rattle.palm_session.specs.declared.limits.TheConstants.{MOST_KEPT_BYTES}
use Rattle.palm_cli.specs.Commands.{Answering}
use Rattle.palm_cli.specs.Led.{RepliesLead}

-- what a session does that was made with these numbers and objects: while it goes on it keeps the first bytes of the rest, and the
-- lines that it answered led its objects
abbrev pub TakesLines : {G O : Type 0} → Guiding G → Ordering O → List ℕ → List ℕ → HeldObjects G O → Progress → List ℕ → SinkState → SinkState → View G O → Type 0
TakesLines guiding ordering guides orders objects More text before after session =
    (answering : Answering guides orders More text before after session.state) × (session.unfinished ≡ take MOST_KEPT_BYTES answering.0)
    × (session.over ≡ false)
    × LinesLead guiding ordering (fresh guides orders) text before.written after.written answering.0 objects session.state session.objects
TakesLines guiding ordering guides orders objects Enough text before after session =
    Answering guides orders Enough text before after session.state
    × LinesLeadOut guiding ordering (fresh guides orders) text before.written after.written objects session.state session.objects
TakesLines guiding ordering guides orders objects Whole text before after session =
    Answering guides orders Whole text before after session.state
    × ((output : List ℕ) × Appended before.written after.written output × RepliesLead guiding ordering guides orders objects text output)
TakesLines guiding ordering guides orders objects progress text before after session =
    Answering guides orders progress text before after session.state
