-- The best row, one row after another.
use Rattle.std.specs.Prelude.{Bool, cond, List, [], ◌∷◌, Option, None, Some}
use Rattle.std.specs.List.{best_of}
use Rattle.palm_guide.specs.declared.guide.ViewRow.{ViewRow}

-- the row where it beats the best one so far
abbrev pub better : (ViewRow → ViewRow → Bool) → Option ViewRow → ViewRow → ViewRow
better beats None row = row
better beats (Some best) row = cond (beats row best) row best

-- the best of these rows, the first where some are equally good
abbrev pub best_among : (ViewRow → ViewRow → Bool) → List ViewRow → Option ViewRow
best_among beats [] = None
best_among beats (row ∷ rows) = Some (best_of beats row rows)
