use Rattle.std.proofs.Common.{◌≡◌, ◌+◌, ◌-◌, ◌<◌, List, get_or, length, arith, subst}
use Rattle.std.proofs.lemmas.List.{get_or_default}
use Rattle.palm_explain.specs.CidSets.{HasAppended, IsIdIn}
use Rattle.palm_explain.specs.Places.{HasPlace}
use Rattle.palm_explain.specs.declared.places.PlaceWord.{PlaceWord}
use Rattle.palm_explain.proofs.CidSets.{IsIdFrom, from_all, from_next, from_none}
use Rattle.palm_explain.proofs.cid_set.push_ids.Goals as goal

pub loop-index-init : goal.loop-index-init
loop-index-init c = (omega arith, from_none c.args.ids c.words-words.result.now c.args.cids.now.items (length c.words-words.result.now) (omega arith))

pub bounds-words-index : goal.bounds-words-index
bounds-words-index c = let le = c.loop-index.invariant.0 in omega (arith, le, c.loop-index-test.true)

pub push_word-requires-clause-small : goal.push_word-requires-clause-small
push_word-requires-clause-small c n is =
    let words = c.words-words.result.now in
    let index = c.loop-index.index - 1 in
    let word : PlaceWord = get_or words index (record { start = 0; bits = 0 }) in
    let le = c.loop-index.invariant.0 in
    let lt : index < length words = omega (arith, le, c.loop-index-test.true) in
    c.requires n (subst (λ (ws : List PlaceWord). HasPlace ws n) c.words-words.ensures.words (word, (index, lt, get_or_default words index word (record { start = 0; bits = 0 }) lt), is))

pub loop-index-preserved : goal.loop-index-preserved
loop-index-preserved c =
    let words = c.words-words.result.now in
    let index = c.loop-index.index - 1 in
    let word : PlaceWord = get_or words index (record { start = 0; bits = 0 }) in
    let le = c.loop-index.invariant.0 in
    let lt : index < length words = omega (arith, le, c.loop-index-test.true) in
    let next : c.loop-index.index ≡ index + 1 = omega (arith, c.loop-index-test.true) in (
      omega (arith, lt),
      from_next c.args.ids words c.words-words.ensures.formed c.args.cids.now.items c.loop-index.cids.items c.push_word.new.cids.items index word lt (get_or_default words index (record { start = 0; bits = 0 }) word lt)
          (subst (λ k. HasAppended c.args.cids.now.items (IsIdFrom c.args.ids words k) c.loop-index.cids.items) next c.loop-index.invariant.1) c.in_ok-push_word.ensures,
    )

pub returns : goal.returns
returns c =
    let words = c.words-words.result.now in
    let none : c.loop-index.index ≡ 0 = omega (arith, c.loop-index-test.false) in
    subst (λ (ws : List PlaceWord). HasAppended c.args.cids.now.items (IsIdIn c.args.ids ws) c.loop-index.cids.items) c.words-words.ensures.words
    (from_all c.args.ids words c.args.cids.now.items c.loop-index.cids.items (subst (λ k. HasAppended c.args.cids.now.items (IsIdFrom c.args.ids words k) c.loop-index.cids.items) none c.loop-index.invariant.1))
