use Rattle.std.proofs.Common.{ℕ, ◌<◌, ◌-◌, List, length, get_or, ap, arith}
use Rattle.std.proofs.lemmas.List.{get_or_default}
use Rattle.palm_explain.specs.declared.places.PlaceWord.{PlaceWord}
use Rattle.palm_explain.proofs.PlaceSets.{empty_word, missing_next}
use Rattle.palm_explain.proofs.places.next_missing.Goals as goal

pub returns : goal.returns
returns c =
    let words : List PlaceWord = c.args.words.now in
    let last : ℕ = length words - 1 in
    let some : 0 < length words = omega (arith, c.if-count-eq0.false) in
    missing_next words c.requires.formed c.args.start (get_or words last (empty_word 0)).start (λ d. ap (λ (w : PlaceWord). w.start) (get_or_default words last d (empty_word 0) (omega (arith, some)))) some
    c.requires.aligned (omega (arith, c.if-last-start.false)) (omega (arith, c.if-last-start-le64.false))
