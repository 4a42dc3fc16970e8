use Rattle.std.proofs.Common.{◌≡◌, length}
use Rattle.std.specs.List.{AllWithin}
use Rattle.palm_domain.specs.Rows.{IsPresent}
use Rattle.tests_filters.proofs.testing.take_out_all.Given as goal

-- the pairs so far are not present
abbrev pub invariant-loop-pair : goal.invariant-loop-pair
invariant-loop-pair l =
    (length l.store ≡ length l.initial.store)
    × AllWithin (λ p. IsPresent l.store p.var p.value → ⊥) l.pairs 0 l.pair-index
