-- One read after another.
use Rattle.std.proofs.Common.{◌≡◌, ℕ, ◌+◌, ◌-◌, ◌<◌, ◌≤◌, inl, inr, List, [], ◌++◌, take, length, Option, Some, None, Bool, true, false, Ok, Err, refl, sym, ap, ◌∙◌, subst, arith, append-nil, length-append, min}
use Rattle.std.proofs.lemmas.List.{length-take, take_all, take_min, take-take}
use Rattle.std.proofs.Math.Seq.{take-append-add}
use Rattle.palm_base.specs.Streams.{Consumes, IsAtEnd, Rose, SinkState}
use Rattle.palm_base.proofs.cited.StreamLemmas.{consumes_both}
use Rattle.palm_lang.specs.Writing.{HasStopCause}
use Rattle.palm_lang.specs.declared.stop.WriteStop.{WriteStop as Stop}
use Rattle.palm_lang.specs.declared.stop.WriteStop.TheVariants as stops
use Rattle.palm_pump.proofs.cited.TakenBytes.{rose_after}
use Rattle.palm_pump.specs.Pumping.{Pumped, Pumps, PumpsFirst, PumpsPart, PumpsTo, PumpsWhole, end_of}
use Rattle.palm_pump.specs.Streams.{Streams, IsAll, IsCalm, first_bytes}
use Rattle.palm_pump.specs.Taking.{Progress, Taking, progress_of}
use Rattle.palm_pump.specs.Taking.Progress.{More, Enough, Whole, Until, WholeUntil}
use Rattle.palm_pump.specs.declared.ending.PumpEnd.TheVariants.{Done, ReadFault, TooLong}
use Rattle.palm_pump.specs.declared.limits.TheConstants.{MOST_INPUT_BYTES, PIECE}

-- ---- streams

-- bytes were taken, and then no more
takes_no_more : (a b c : Option (List ℕ)) (text : List ℕ) → Consumes a b text → Consumes b c [] → Consumes a c text
takes_no_more a b c text t u = subst (λ (z : List ℕ). Consumes a c z) (append-nil text) (consumes_both a b c text [] t u)

-- what was taken up to the end is all that was left
all_left : (left mid : Option (List ℕ)) (text : List ℕ) → Consumes left mid text → IsAtEnd mid → IsAll left text
all_left None mid text t e = tt
all_left (Some l) None text t e = absurd t
all_left (Some l) (Some n) text t e = t ∙ ap (λ (z : List ℕ). text ++ z) e ∙ append-nil text

-- ---- the first bytes of a text

whole_text : (text : List ℕ) (taken : ℕ) → length text ≡ taken → taken ≤ MOST_INPUT_BYTES → first_bytes text ≡ text
whole_text text taken e le = take_all MOST_INPUT_BYTES text (omega (arith, e, le))

-- those of a longer text are this text, and the first ones of what came into the front of a buffer
handed_on : (text buffer : List ℕ) (taken count handed : ℕ) → length text ≡ taken → taken ≤ MOST_INPUT_BYTES
    → count ≤ length buffer → handed ≡ min count (MOST_INPUT_BYTES - taken)
    → first_bytes text ++ take handed buffer ≡ first_bytes (text ++ take count buffer)
handed_on text buffer taken count handed e le fits is =
    let piece : List ℕ = take count buffer in
    let room : length text + (MOST_INPUT_BYTES - taken) ≡ MOST_INPUT_BYTES = omega (arith, e, le) in
    let same : handed ≡ min (MOST_INPUT_BYTES - taken) (length piece) = omega (arith, is, length-take count buffer, fits) in
    ap (λ (z : List ℕ). z ++ take handed buffer) (whole_text text taken e le)
    ∙ ap (λ (z : List ℕ). text ++ z)
    (sym (take-take handed count buffer (omega (arith, is))) ∙ ap (λ (k : ℕ). take k piece) same ∙ take_min (MOST_INPUT_BYTES - taken) piece)
    ∙ sym (take-append-add text piece (MOST_INPUT_BYTES - taken)) ∙ ap (λ (k : ℕ). take k (text ++ piece)) room

-- ---- one read

module _ {T : Type 0} (takes : Taking T) (before mid after : Streams) (taken : ℕ) (was taker : T)
    (s : Pumped takes before mid taken was) (le : taken ≤ MOST_INPUT_BYTES) where
  calm_on : after.source.faults ≡ mid.source.faults → after.sink.faults ≡ mid.sink.faults → IsCalm before after
  calm_on read write = record { read = read ∙ s.calm.read; write = write ∙ s.calm.write }

  -- a taker that stopped
  stopped : (stop : Stop) → after.source.faults ≡ mid.source.faults → HasStopCause mid.sink.faults after.sink.faults stop
      → PumpsPart takes stop before after taker → Pumps takes before after taker (end_of stop)
  stopped stops.WriteFault read cause p = (
    record { read = read ∙ s.calm.read; write = rose_after before.sink.faults mid.sink.faults after.sink.faults s.calm.write cause.1 },
    p,
  )
  stopped stops.NoMemory read cause p = (calm_on read cause, p)

  -- a read failed
  pub pumps_fault : Consumes mid.source.left after.source.left [] → Rose mid.source.faults after.source.faults
      → after.sink ≡ mid.sink → taker ≡ was → PumpsTo takes before taken after taker (Err ReadFault)
  pumps_fault nothing rose sink same = (
    record {
      read = rose_after before.source.faults mid.source.faults after.source.faults s.calm.read rose;
      write = ap (λ (k : SinkState). k.faults) sink ∙ s.calm.write;
    },
    record {
      text = s.pumps.text;
      taken = takes_no_more before.source.left mid.source.left after.source.left s.pumps.text s.pumps.taken nothing;
      in_time = s.pumps.in_time;
      does = subst (λ (t : T). takes More (first_bytes s.pumps.text) before.sink after.sink t) (sym same)
          (subst (λ (k : SinkState). takes More (first_bytes s.pumps.text) before.sink k was) (sym sink) s.pumps.does);
    },
    omega (arith, s.long, le),
  )

  -- the end was read
  module _ (buffer : List ℕ) (count : ℕ) (none : count ≡ 0) (nothing : Consumes mid.source.left after.source.left (take count buffer))
      (at_end : count ≡ 0 → IsAtEnd mid.source.left) (read : after.source.faults ≡ mid.source.faults) where
    ends : (progress : Progress) → takes progress (first_bytes s.pumps.text) before.sink after.sink taker
        → PumpsWhole takes progress before after taker
    ends progress does = record {
      text = s.pumps.text;
      taken = takes_no_more before.source.left mid.source.left after.source.left s.pumps.text s.pumps.taken
          (subst (λ (k : ℕ). Consumes mid.source.left after.source.left (take k buffer)) none nothing);
      short = omega (arith, s.long, le);
      all = all_left before.source.left mid.source.left s.pumps.text s.pumps.taken (at_end none);
      in_time = s.pumps.in_time;
      does = subst (λ (z : List ℕ). takes progress z before.sink after.sink taker) (whole_text s.pumps.text taken s.long le) does;
    }

    pub pumps_end : after.sink.faults ≡ mid.sink.faults
        → takes Whole (first_bytes s.pumps.text) before.sink after.sink taker → PumpsTo takes before taken after taker (Err Done)
    pumps_end write does = (calm_on read write, inl (ends Whole does))

    pub pumps_end_until : (stop : Stop) → HasStopCause mid.sink.faults after.sink.faults stop
        → takes (WholeUntil stop) (first_bytes s.pumps.text) before.sink after.sink taker
        → PumpsTo takes before taken after taker (Err (end_of stop))
    pumps_end_until stop cause does = stopped stop read cause (inr (ends (WholeUntil stop) does))

  -- a piece was read into the front of a buffer, and the first bytes of it were handed on
  module _ (buffer : List ℕ) (count handed : ℕ) (small : count ≤ PIECE) (fits : count ≤ length buffer)
      (is : handed ≡ min count (MOST_INPUT_BYTES - taken)) (piece : Consumes mid.source.left after.source.left (take count buffer))
      (read : after.source.faults ≡ mid.source.faults) where
    more : (progress : Progress) → takes progress (first_bytes s.pumps.text ++ take handed buffer) before.sink after.sink taker
        → PumpsFirst takes progress before after taker
    more progress does = record {
      text = s.pumps.text ++ take count buffer;
      taken = consumes_both before.source.left mid.source.left after.source.left s.pumps.text (take count buffer) s.pumps.taken piece;
      in_time = record {
        front = s.pumps.text;
        piece = take count buffer;
        whole = refl;
        small = omega (arith, length-take count buffer, fits, small);
        within = omega (arith, s.long, le);
        sink = mid.sink;
        taker = was;
        going = subst (λ (z : List ℕ). takes More z before.sink mid.sink was) (whole_text s.pumps.text taken s.long le) s.pumps.does;
      };
      does = subst (λ (z : List ℕ). takes progress z before.sink after.sink taker)
          (handed_on s.pumps.text buffer taken count handed s.long le fits is) does;
    }

    pub pumps_more : (goes : Bool) → goes ≡ true → after.sink.faults ≡ mid.sink.faults
        → takes (progress_of (Ok goes)) (first_bytes s.pumps.text ++ take handed buffer) before.sink after.sink taker
        → PumpsTo takes before taken after taker (Ok count)
    unfolding more
    pumps_more true going write does = record {
      pumps = more More does;
      long = omega (arith, length-append s.pumps.text (take count buffer), length-take count buffer, fits, s.long);
      calm = calm_on read write;
    }
    pumps_more false going write does = cc

    pub pumps_enough : (goes : Bool) → goes ≡ false → after.sink.faults ≡ mid.sink.faults
        → takes (progress_of (Ok goes)) (first_bytes s.pumps.text ++ take handed buffer) before.sink after.sink taker
        → PumpsTo takes before taken after taker (Err Done)
    pumps_enough true enough write does = cc
    pumps_enough false enough write does = (calm_on read write, inr (more Enough does))

    pub pumps_until : (stop : Stop) → HasStopCause mid.sink.faults after.sink.faults stop
        → takes (Until stop) (first_bytes s.pumps.text ++ take handed buffer) before.sink after.sink taker
        → PumpsTo takes before taken after taker (Err (end_of stop))
    pumps_until stop cause does = stopped stop read cause (inl (more (Until stop) does))

-- ---- too much was read

pub pumps_over : {T : Type 0} (takes : Taking T) (before after : Streams) (taken : ℕ) (taker : T) → Pumped takes before after taken taker
    → MOST_INPUT_BYTES < taken → Pumps takes before after taker TooLong
pumps_over takes before after taken taker s over = (s.calm, s.pumps, omega (arith, s.long, over))
