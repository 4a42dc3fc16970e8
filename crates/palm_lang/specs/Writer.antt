-- What a writer has written.
use Rattle.std.specs.Prelude.{◌≡◌, ℕ, List, Result}
use Rattle.palm_base.specs.Streams.{SinkState}
use Rattle.palm_lang.specs.Writing.{Writes}
use Rattle.palm_lang.specs.declared.stop.WriteStop.{WriteStop}
use Rattle.palm_lang.specs.declared.writer.Writer.{Writer}

-- the writer has its sink still, and the text was written to it, or until a stop
pub record Wrote {K T : Type 0} (state : K → SinkState) (before now : Writer K) (text : List ℕ) (result : Result T WriteStop) : Type 0 where
  pub sink : now.out.ghost_name ≡ before.out.ghost_name
  pub writes : Writes (state before.out.now) (state now.out.now) text result
