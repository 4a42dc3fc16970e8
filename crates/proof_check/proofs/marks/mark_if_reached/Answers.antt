use Rattle.std.proofs.Common.{◌≡◌, ◌∙◌, ◌+◌, ◌<◌, Some, false, length, sym, ap, arith}
use Rattle.std.specs.Prelude.{slice_get}
use Rattle.std.proofs.lemmas.List.{get_or_default}
use Rattle.std.proofs.lemmas.Option.{slice_get-get_or}
use Rattle.proof_check.specs.Marks.{IsMarked}
use Rattle.proof_check.proofs.Marking.{passed_through}
use Rattle.proof_check.proofs.marks.mark_if_reached.Goals as goal

pub returns-then-index-clause-passed : goal.returns-then-index-clause-passed
returns-then-index-clause-passed c = λ lemma passed.
    let lemmas = c.args.lemmas.now in
    let place = c.args.place in
    let l = c.index-lemmas-place.result in
    let at : slice_get lemmas place ≡ Some l = slice_get-get_or lemmas place l c.requires.place ∙ ap Some (sym c.index-lemmas-place.is) in
    let marks = c.args.marks.now.lemmas.items in
    let lt : place + 1 < length marks = omega (arith, c.requires.long, c.requires.place) in
    let reached : IsMarked marks (place + 1) = get_or_default marks (place + 1) false c.index.result.now lt ∙ sym c.index.ensures ∙ c.if-index.true in
    passed_through lemmas lemma c.args.marks.now place passed c.mark_named.new.marks l _ reached at (c.requires.behind.each place l at) c.mark_named.ensures
