use Rattle.std.proofs.Common.{◌≡◌, ℕ, length, Some, slice_get}
use Rattle.palm_filter.specs.declared.heed.Heed.{Heed}
use Rattle.palm_filter.specs.Heeds.{FitsHeed}
use Rattle.palm_engine.specs.Posted.{active_of}
use Rattle.palm_engine.proofs.posting.heeds_of.Given as goal

-- one for each place before this one, and each fits
abbrev pub invariant-loop-place : goal.invariant-loop-place
invariant-loop-place g l =
    (length l.heeds.items ≡ l.place)
    × ((place : ℕ) (heed : Heed) → slice_get l.heeds.items place ≡ Some heed → FitsHeed (active_of g.F.Filter.meaning l.constraint).con place heed)
