use Rattle.std.proofs.Common.{◌≡◌, ◌≤ℤ◌, ℤ, ℕ, pos, ◌+◌, ◌+ℤ◌, ◌-ℤ◌, ap, ◌∙◌, sym, arith, ◌++◌, [], ◌∷◌, List}
use Rattle.std.proofs.lemmas.Int.{ints, by_lt_z}
use mir.Val.{to_z, of_z}
use mir.Syntax.{w32}
use Rattle.palm_read.specs.Domain.{count_in, from_on}
use Rattle.palm_book.proofs.cited.Intervals.{count_none, interval_more}
use Rattle.palm_book.proofs.domains.interval.Goals as goal

pub loop-value-preserved : goal.loop-value-preserved
loop-value-preserved c =
    let low : ℤ = c.args.low in
    let value : ℤ = to_z w32 c.loop-value.value-bits in
    let next : to_z w32 (of_z w32 (value +ℤ pos 1)) ≡ value +ℤ pos 1 = omega (arith, ints, c.loop-value-test.true) in (
      c.in_ok-push-2.ensures.ok
          ∙ ap (λ (z : ℤ). c.loop-value.values ++ z ∷ []) next
          ∙ ap (λ (zs : List ℤ). zs ++ (value +ℤ pos 1) ∷ []) c.loop-value.invariant.0
          ∙ sym (interval_more low value c.loop-value.invariant.1)
          ∙ ap (λ (z : ℤ). from_on low (count_in (z -ℤ low) + 1)) (sym next),
      omega (arith, ints, next, c.loop-value.invariant.1),
      λ h. omega (arith, ints, next, c.loop-value-test.true, c.high.view_is),
    )

pub returns : goal.returns
returns c =
    let low : ℤ = c.args.low in
    let value : ℤ = to_z w32 c.loop-value.value-bits in
    let high : to_z w32 (of_z w32 c.high.inside.0) ≡ c.args.high = omega (arith, ints, c.high.view_is) in
    let past : c.args.high ≤ℤ value = omega (arith, ints, c.loop-value-test.false, high) in
    let far : count_in (value -ℤ low) ≡ count_in (c.args.high -ℤ low)
    = by_lt_z low value
    (λ l. let within = c.loop-value.invariant.2 l in ap (λ (z : ℤ). count_in (z -ℤ low)) (omega (arith, ints, past, within)))
    (λ g. count_none (value -ℤ low) (omega (arith, ints, g)) ∙ sym (count_none (c.args.high -ℤ low) (omega (arith, ints, g, past)))) in
    c.loop-value.invariant.0 ∙ ap (λ (n : ℕ). from_on low (n + 1)) far
