-- What a taker does, told by less than the taker.
use Rattle.std.proofs.Common.{inl, inr, ℕ, List}
use Rattle.palm_base.specs.Streams.{SinkState}
use Rattle.palm_lang.specs.declared.stop.WriteStop.{WriteStop as Stop}
use Rattle.palm_pump.specs.Pumping.{StopsInTime, Pumps, PumpsFirst, PumpsPart, PumpsWhole}
use Rattle.palm_pump.specs.Streams.{Streams}
use Rattle.palm_pump.specs.Taking.{Progress, Taking}
use Rattle.palm_pump.specs.declared.ending.PumpEnd.{PumpEnd}
use Rattle.palm_pump.specs.declared.ending.PumpEnd.TheVariants.{Done, ReadFault, WriteFault, NoMemory, TooLong}

module _ {T U : Type 0} (told : T → U) (takes : Taking T) (tells : Taking U)
    (so : (progress : Progress) (text : List ℕ) (before after : SinkState) (taker : T)
    → takes progress text before after taker → tells progress text before after (told taker)) where
  in_time_told : (before : SinkState) (text : List ℕ) → StopsInTime takes before text → StopsInTime tells before text
  in_time_told before text i = record {
    front = i.front;
    piece = i.piece;
    whole = i.whole;
    small = i.small;
    within = i.within;
    sink = i.sink;
    taker = told i.taker;
    going = so _ i.front before i.sink i.taker i.going;
  }

  module _ (before after : Streams) (taker : T) where
    first_told : (progress : Progress) → PumpsFirst takes progress before after taker → PumpsFirst tells progress before after (told taker)
    first_told progress p = record {
      text = p.text;
      taken = p.taken;
      in_time = in_time_told before.sink p.text p.in_time;
      does = so progress _ before.sink after.sink taker p.does;
    }

    whole_told : (progress : Progress) → PumpsWhole takes progress before after taker → PumpsWhole tells progress before after (told taker)
    whole_told progress p = record {
      text = p.text;
      taken = p.taken;
      short = p.short;
      all = p.all;
      in_time = in_time_told before.sink p.text p.in_time;
      does = so progress p.text before.sink after.sink taker p.does;
    }

    part_told : (stop : Stop) → PumpsPart takes stop before after taker → PumpsPart tells stop before after (told taker)
    part_told stop (inl p) = inl (first_told _ p)
    part_told stop (inr p) = inr (whole_told _ p)

    pub pumps_told : (end : PumpEnd) → Pumps takes before after taker end → Pumps tells before after (told taker) end
    unfolding first_told
    pumps_told Done (calm, inl p) = (calm, inl (whole_told _ p))
    pumps_told Done (calm, inr p) = (calm, inr (first_told _ p))
    pumps_told ReadFault (fails, p, short) = (fails, first_told _ p, short)
    pumps_told WriteFault (fails, p) = (fails, part_told _ p)
    pumps_told NoMemory (calm, p) = (calm, part_told _ p)
    pumps_told TooLong (calm, p, long) = (calm, first_told _ p, long)
