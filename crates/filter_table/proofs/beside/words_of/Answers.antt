use Rattle.std.proofs.Common.{refl, ◌∙◌, arith}
use Rattle.std.proofs.lemmas.List.{length-set}
use Rattle.filter_table.proofs.Bits.{no_ones, no_bits, more_bits, all_bits}
use Rattle.filter_table.proofs.beside.words_of.Goals as goal

pub loop-place-init : goal.loop-place-init
loop-place-init c = (no_bits _ _ c.args.own_least c.args.other_least _ (λ i. no_ones 64 i 0), refl)

pub loop-place-preserved : goal.loop-place-preserved
loop-place-preserved c = (
  more_bits c.args.own.now c.args.other.now c.args.own_least c.args.other_least c.loop-place.words c.loop-place.place c.index-own-place.result c.index-other-place.result c.in_ok-word.word c.in_ok-bit.bit
      (omega (arith, c.loop-place-test.true, c.min-place-end.ensures)) (omega (arith, c.loop-place-test.true, c.min-place-end.ensures)) c.index-own-place.is c.index-other-place.is c.in_ok-word.ensures c.in_ok-bit.ensures (omega (arith, c.loop-place.invariant.1)) c.loop-place.invariant.0,
  length-set c.loop-place.words c.in_ok-word.word _ ∙ c.loop-place.invariant.1,
)

pub returns : goal.returns
returns c = all_bits c.args.own.now c.args.other.now _ c.loop-place.place (omega (arith, c.loop-place-test.false, c.min-place-end.ensures)) c.loop-place.invariant.0
