-- What the hub keeps from one piece to the next, and how it ends.
use Rattle.std.proofs.Common.{◌≡◌, ℕ, ◌≤◌, inl, inr, List, [], ◌++◌, flat_map, length, IfErr, OnOk, Result, Ok, Err, refl, sym, ap, ◌∙◌, subst, arith}
use Rattle.std.proofs.lemmas.List.Elements.{All-nil}
use Rattle.palm_base.specs.Streams.{Consumes, Rose, SinkState}
use Rattle.palm_lang.specs.declared.stop.WriteStop.{WriteStop as Stop}
use Rattle.palm_lang.specs.declared.stop.WriteStop.TheVariants as stops
use Rattle.palm_pump.proofs.cited.Mapped.{pumps_told}
use Rattle.palm_pump.proofs.cited.TakenBytes.{rose_after, told_once}
use Rattle.palm_pump.specs.Pumping.{Begins, Pumps}
use Rattle.palm_pump.specs.Streams.{HasNoFault, Streams, TakesOver}
use Rattle.palm_pump.specs.Taking.{Progress, last_progress_of}
use Rattle.palm_pump.specs.Taking.Progress.{More, Enough, Whole, Until, WholeUntil}
use Rattle.palm_pump.specs.declared.ending.PumpEnd.{PumpEnd}
use Rattle.palm_pump.specs.declared.ending.PumpEnd.TheVariants as ends
use Rattle.palm_pump.specs.declared.limits.TheConstants.{MOST_INPUT_BYTES}
use Rattle.palm_read.specs.Lines.{HasNoFeed}
use Rattle.palm_hub.specs.Hub.{Opened, output_of}
use Rattle.palm_hub.specs.Numbers.{status_of}
use Rattle.palm_hub.specs.Serving.{Answering, IsCut, IsWhole, Serves, ServesTo, TakesLines, TakesWithin}
use Rattle.palm_hub.specs.Standing.{AnswersLast, AnswersLastUntil, AnswersLines, AnswersUntil, HubView, StandsBehind}
use Rattle.palm_hub.specs.declared.status.HubStatus.{HubStatus}
use Rattle.palm_hub.specs.declared.status.HubStatus.TheVariants.{Done, Usage, ReadFault, WriteFault, NoMemory, TooLong}
use Rattle.palm_hub.proofs.Apart.{hub_replies}
use Rattle.palm_hub.proofs.Running.{lines_last, lines_last_until, lines_none, lines_then, lines_until, until_none}

-- nothing was taken yet
pub begins : {G O : Type 0} (sink : SinkState) (hub : HubView G O) → StandsBehind [] [] hub → Begins TakesLines sink hub
begins sink hub stands = record {
  going = (refl, [], [], lines_none [] [] sink.written (All-nil (λ (b : ℕ). b ≡ 10 → ⊥)), stands);
  wanting = λ none. until_none [] [] sink.written;
}

-- ---- one more piece, or the end

module _ {G O : Type 0} (seen : List ℕ) (start before after : SinkState) (hub later : HubView G O) (s : TakesLines More seen start before hub) where
  -- a stop is known of what came here, where it is known of what came since the start
  since : {stop : Stop} → (stop ≡ stops.NoMemory → Rose start.faults after.faults → ⊥) → stop ≡ stops.NoMemory → Rose before.faults after.faults → ⊥
  since none is rose = none is (rose_after start.faults before.faults after.faults s.0 rose)

  pub takes_more : (piece : List ℕ) → after.faults ≡ before.faults
      → ((hub_sessions : List Opened) (bytes : List ℕ) → HasNoFeed bytes → StandsBehind hub_sessions bytes hub
      → (left : List ℕ) × (among : List Opened) × AnswersLines hub_sessions (bytes ++ piece) before.written after.written left among × StandsBehind among left later)
      → TakesLines More (seen ++ piece) start after later
  takes_more piece calm answers =
      let a = answers s.1 s.2 s.3.cuts.unfinished s.4 in
      (calm ∙ s.0, a.1, a.0, lines_then [] s.1 a.1 seen piece s.2 a.0 start.written before.written after.written s.3 a.2, a.3)

  pub takes_until : (stop : Stop) (piece : List ℕ)
      → ((hub_sessions : List Opened) (bytes : List ℕ) → HasNoFeed bytes → StandsBehind hub_sessions bytes hub
      → (stop ≡ stops.NoMemory → Rose before.faults after.faults → ⊥) → AnswersUntil stop hub_sessions (bytes ++ piece) before.written after.written)
      → TakesLines (Until stop) (seen ++ piece) start after later
  takes_until stop piece answers = λ none.
      lines_until stop [] s.1 seen piece s.2 start.written before.written after.written s.3 (answers s.1 s.2 s.3.cuts.unfinished s.4 (since none))

  pub takes_end : {A : Type 0} (result : Result A Stop)
      → OnOk result ((hub_sessions : List Opened) (bytes : List ℕ) → HasNoFeed bytes → StandsBehind hub_sessions bytes hub
      → AnswersLast hub_sessions bytes before.written after.written)
      → IfErr result (λ stop. (hub_sessions : List Opened) (bytes : List ℕ) → HasNoFeed bytes → StandsBehind hub_sessions bytes hub
      → (stop ≡ stops.NoMemory → Rose before.faults after.faults → ⊥) → AnswersLastUntil stop hub_sessions bytes before.written after.written)
      → TakesLines (last_progress_of result) seen start after later
  takes_end (Ok answer) answers stopped =
      let a = answers s.1 s.2 s.3.cuts.unfinished s.4 in
      let run = lines_last [] s.1 seen s.2 start.written before.written after.written s.3 a in
      (flat_map output_of run.1, hub_replies seen (flat_map output_of run.1) run.0 run.1 a.after run.2 run.3 refl, run.4)
  takes_end (Err stop) answers stopped = λ none.
      lines_last_until stop [] s.1 seen s.2 start.written before.written after.written s.3 (stopped s.1 s.2 s.3.cuts.unfinished s.4 (since none))

-- ---- the end

answering : {G O : Type 0} (progress : Progress) (text : List ℕ) (before after : SinkState) (hub : HubView G O)
    → TakesLines progress text before after hub → Answering {T = Unit {0}} progress text before after tt
answering More text before after hub s = (s.1, s.2, s.3)
answering Enough text before after hub s = s
answering Whole text before after hub s = s
answering (Until stop) text before after hub s = s
answering (WholeUntil stop) text before after hub s = s

-- by the status of the end
by_status : (before after : Streams) (end : PumpEnd) → ServesTo end before after → Serves before after (status_of end)
by_status before after ends.Done s = s
by_status before after ends.ReadFault s = s
by_status before after ends.WriteFault s = s
by_status before after ends.NoMemory s = s
by_status before after ends.TooLong s = s

pub serves : {T G O : Type 0} (taker : T) (hub_of : T → HubView G O) (before after : Streams) (end : PumpEnd) (status : HubStatus) → status ≡ status_of end
    → Pumps (λ progress text b a now. TakesLines progress text b a (hub_of now)) before after taker end → Serves before after status
serves taker hub_of before after end status is pumps =
    subst (Serves before after) (sym is) (by_status before after end
    (pumps_told (λ now. tt) (λ progress text b a now. TakesLines progress text b a (hub_of now)) Answering
    (λ progress text b a now. answering progress text b a (hub_of now)) before after taker end pumps))

-- without a fault, an input within the limit is answered whole
pub whole_status : (before after : Streams) (status : HubStatus) → Serves before after status → HasNoFault before after → TakesWithin before after
    → IsWhole status
whole_status before after Done s none within = tt
whole_status before after Usage s none within = s
whole_status before after ReadFault s none within = none.read s.0.read
whole_status before after WriteFault s none within = none.write s.0.write
whole_status before after NoMemory s none within = tt
whole_status before after TooLong s none within = absurd (omega (arith, s.2, within s.1.text s.1.taken))

-- more bytes than can be answered are told to be too many
pub cut_status : (before after : Streams) (status : HubStatus) → Serves before after status → TakesOver before after
    → (Rose before.sink.faults after.sink.faults → ⊥) → IsCut status
cut_status before after status s over none = go status s
  where
    -- what was taken is known, and too long
    within : (text : List ℕ) → Consumes before.source.left after.source.left text → length text ≤ MOST_INPUT_BYTES → ⊥
    within text takes short =
        omega (arith, ap length (told_once before.source.left after.source.left over.left text over.text over.tells takes over.takes), short, over.long)

    go : (end : HubStatus) → Serves before after end → IsCut end
    go Done (calm, inl s) = within s.text s.taken s.short
    go Done (calm, inr s) = absurd s.does
    go Usage s = s
    go ReadFault s = within s.1.text s.1.taken s.2
    go WriteFault s = none s.0.write
    go NoMemory s = tt
    go TooLong s = tt
