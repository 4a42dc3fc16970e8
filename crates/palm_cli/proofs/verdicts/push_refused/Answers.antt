use Rattle.std.proofs.Common.{ℕ, List, [], ◌∷◌, ◌++◌, codes, decimal, ◌∙◌}
use Rattle.palm_cli.proofs.NameLemmas.{behind, behind_same}
use Rattle.palm_cli.specs.Verdicts.{cause_digit, evidence_letter}
use Rattle.palm_cli.proofs.verdicts.push_refused.Goals as goal

pub returns : goal.returns
returns c =
    let was : List ℕ = c.args.out.now.items in
    let lead : List ℕ = codes "refused " in
    let number : List ℕ = decimal c.args.line in
    let space : List ℕ = codes " " in
    let letter : List ℕ = evidence_letter c.args.evidence in
    let digit : List ℕ = cause_digit c.args.cause in
    let one = behind was lead number _ _ c.in_ok-extend_from_slice.ensures.items c.in_ok-push_number.ensures in
    let two = behind was (lead ++ number) space _ _ one c.in_ok-extend_from_slice-2.ensures.items in
    let three = behind_same was (lead ++ number ++ space) letter _ _ _ (c.as_bytes.ensures.value ∙ c.evidence_letter.ensures) two c.in_ok-extend_from_slice-3.ensures.items in
    let four = behind_same was (lead ++ number ++ space ++ letter) digit _ _ _ (c.as_bytes-2.ensures.value ∙ c.cause_digit.ensures) three c.in_ok-extend_from_slice-4.ensures.items in
    behind was (lead ++ number ++ space ++ letter ++ digit) (10 ∷ []) _ _ four c.in_ok-extend_from_slice-5.ensures.items
