-- What feeding bytes to a session does where it writes to a sink with a prefix.
use Rattle.std.specs.Prelude.{◌≡◌, ℕ, List, Option, Result, OnOk, IfErr}
use Rattle.palm_base.specs.Streams.{SinkState, Appended, Rose}
use Rattle.palm_lang.specs.Writing.{AppendedUntil}
use Rattle.palm_lang.specs.declared.stop.WriteStop.{WriteStop as Stop}
use Rattle.palm_lang.specs.declared.stop.WriteStop.TheVariants.{NoMemory}
use Rattle.palm_session.specs.Feeding.{Feeds, View}
use Rattle.palm_session.specs.declared.going.Going.{Going}
use Rattle.palm_hub.specs.Marked.{marked}

-- a text by which the one sink grew stands in the other with the prefix before each line
abbrev pub Marks : List ℕ → Option (List ℕ) → Option (List ℕ) → Option (List ℕ) → Option (List ℕ) → Type 0
Marks prefix was now before after = (text : List ℕ) → Appended was now text → Appended before after (marked prefix text)

-- the same until a stop
abbrev pub MarksUntil : Stop → List ℕ → Option (List ℕ) → Option (List ℕ) → Option (List ℕ) → Option (List ℕ) → Type 0
MarksUntil stop prefix was now before after =
    (text : List ℕ) → AppendedUntil stop was now text → AppendedUntil stop before after (marked prefix text)

-- the session's replies were written to a sink with a prefix, and so with their prefixes to the sink behind it; at want of
-- memory where its count of faults did not rise
pub record FeedsMarked {G O : Type 0} (before : View G O) (piece prefix : List ℕ) (first last : SinkState) (after : View G O) (asked : ℕ)
    (result : Result Going Stop) : Type 0 where
  pub was : Option (List ℕ)
  pub now : Option (List ℕ)
  pub feeds : Feeds before piece was now after asked result
  pub ok : OnOk result (Marks prefix was now first.written last.written)
  pub stopped : IfErr result (λ stop. (stop ≡ NoMemory → Rose first.faults last.faults → ⊥)
      → MarksUntil stop prefix was now first.written last.written)
