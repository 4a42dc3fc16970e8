-- The best row is the pick.
use Rattle.std.proofs.Common.{Bool, List, [], ◌∷◌, Some, option_map, refl, ap, ◌∙◌}
use Rattle.std.specs.Cmp.{IsStrictWeakOrder}
use Rattle.std.specs.List.{best_of}
use Rattle.std.proofs.lemmas.List.MinMax.{IsFirstBest-from_best_of}
use Rattle.std.proofs.lemmas.Option.{slice_get-get_or}
use Rattle.palm_guide.specs.declared.guide.ViewRow.{ViewRow}
use Rattle.palm_guide.specs.Picks.{IsPick, least_pair}
use Rattle.palm_guide.specs.Choices.{best_among}

pub pick_of_best : (beats : ViewRow → ViewRow → Bool) → IsStrictWeakOrder beats → (rows : List ViewRow) → IsPick beats rows (option_map least_pair (best_among beats rows))
pick_of_best beats ranks [] = refl
pick_of_best beats ranks (row ∷ rows) =
    let found = IsFirstBest-from_best_of ranks row rows in
    record {
      place = found.0;
      row = best_of beats row rows;
      best = found.1;
      stands = slice_get-get_or (row ∷ rows) found.0 row found.1.0 ∙ ap Some found.2;
      least = refl;
    }
