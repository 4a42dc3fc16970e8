use Rattle.std.proofs.Common.{◌≡◌, filter, take}
use Rattle.std.specs.Option.{option_copied}
use Rattle.palm_guide.specs.Choices.{best_among}
use Rattle.palm_guide.proofs.preference.best_pair.Given as goal

-- the best one of the rows so far
abbrev pub invariant-loop-row : goal.invariant-loop-row
invariant-loop-row g l = option_copied l.best ≡ best_among (g.P.Preference.beats l.preference) (filter (g.P.Preference.allows l.preference) (take l.row-index l.view))
