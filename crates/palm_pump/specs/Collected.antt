-- What a list does that keeps the bytes of a text.
use Rattle.std.specs.Prelude.{◌≡◌, ℕ, List, ◌++◌}
use Rattle.palm_base.specs.Streams.{SinkState}
use Rattle.palm_lang.specs.declared.stop.WriteStop.TheVariants.{NoMemory}
use Rattle.palm_pump.specs.Taking.{Progress}
use Rattle.palm_pump.specs.Taking.Progress.{More, Whole, Until}

-- the bytes stand behind those that it had, unless memory ran out; nothing is written
abbrev pub Keeps : List ℕ → Progress → List ℕ → SinkState → SinkState → List ℕ → Type 0
Keeps first More text before after now = (now ≡ first ++ text) × (after ≡ before)
Keeps first Whole text before after now = (now ≡ first ++ text) × (after ≡ before)
Keeps first (Until NoMemory) text before after now = after ≡ before
Keeps first _ text before after now = ⊥
