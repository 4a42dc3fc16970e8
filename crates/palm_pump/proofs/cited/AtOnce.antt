-- Before the first read.
use Rattle.std.proofs.Common.{inl, [], refl, arith}
use Rattle.palm_base.proofs.cited.StreamLemmas.{consumes_nothing}
use Rattle.palm_lang.specs.declared.stop.WriteStop.TheVariants as stops
use Rattle.palm_pump.specs.Pumping.{Begins, Pumped, Pumps, PumpsFirst}
use Rattle.palm_pump.specs.Streams.{Streams}
use Rattle.palm_pump.specs.Taking.{Progress, Taking}
use Rattle.palm_pump.specs.Taking.Progress.{More, Until}
use Rattle.palm_pump.specs.declared.ending.PumpEnd.TheVariants.{NoMemory}

module _ {T : Type 0} (takes : Taking T) (before : Streams) (taker : T) (begins : Begins takes before.sink taker) where
  begins_first : (progress : Progress) → takes progress [] before.sink before.sink taker → PumpsFirst takes progress before before taker
  begins_first progress does = record {
    text = [];
    taken = consumes_nothing before.source.left;
    in_time = record { front = []; piece = []; whole = refl; small = omega arith; within = omega arith; sink = before.sink; taker = taker; going = begins.going };
    does = does;
  }

  pub pumped_nothing : Pumped takes before before 0 taker
  unfolding begins_first
  pumped_nothing = record { pumps = begins_first More begins.going; long = refl; calm = record { read = refl; write = refl } }

  pub wants_at_once : Pumps takes before before taker NoMemory
  wants_at_once = (record { read = refl; write = refl }, inl (begins_first (Until stops.NoMemory) begins.wanting))
