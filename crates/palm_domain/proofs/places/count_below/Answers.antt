use Rattle.std.proofs.Common.{ap, ◌∙◌, subst, rules, FitsSigned, w32, w64, to_z, of_z, ◌≡◌}
use Rattle.std.proofs.lemmas.Int.{to_z-of_z}
use Rattle.palm_domain.specs.Places.{IsPlaceFrom}
use Rattle.palm_domain.proofs.Standing.{parted_behind, parted_from}
use Rattle.palm_domain.proofs.places.count_below.Goals as goal

pub returns-then-from-number : goal.returns-then-from-number
returns-then-from-number c =
    parted_behind c.args.values.now c.requires.ascend c.args.number c.index-values-values.result c.index-values-values.is (search rules)

pub returns-else-from-number : goal.returns-else-from-number
returns-else-from-number c =
    let number = c.args.number in
    let wide : to_z w64 (of_z w64 number) ≡ number = to_z-of_z w64 number (search rules) in
    let fits : FitsSigned w32 number = search rules in
    parted_from c.args.values.now number c.place_from.result
    (subst (λ n. IsPlaceFrom c.args.values.now n c.place_from.result) (ap (λ n. to_z w32 (of_z w32 n)) wide ∙ to_z-of_z w32 number fits) c.place_from.ensures)
