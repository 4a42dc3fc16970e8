use Rattle.std.proofs.Common.{ℕ, List, [], ◌∷◌, ◌++◌, codes}
use Rattle.palm_cli.proofs.NameLemmas.{behind, names_text}
use Rattle.palm_cli.specs.Verdicts.{claim_text}
use Rattle.palm_cli.proofs.verdicts.push_accepted.Goals as goal

pub returns : goal.returns
returns c =
    let was : List ℕ = c.args.out.now.items in
    let lead : List ℕ = codes "accepted " in
    let claim : List ℕ = claim_text c.args.proved.now.book.variables c.args.proved.now.claim in
    let because : List ℕ = codes " because" in
    let names : List ℕ = names_text c.args.proved.now.book.constraints in
    let one = behind was lead claim _ _ c.in_ok-extend_from_slice.ensures.items c.in_ok-push_claim.ensures in
    let two = behind was (lead ++ claim) because _ _ one c.in_ok-extend_from_slice-2.ensures.items in
    let three = behind was (lead ++ claim ++ because) names _ _ two c.in_ok-push_constraints.ensures in
    behind was (lead ++ claim ++ because ++ names) (10 ∷ []) _ _ three c.in_ok-extend_from_slice-3.ensures.items
