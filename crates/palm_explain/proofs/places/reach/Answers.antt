use Rattle.std.proofs.Common.{◌≡◌, List, length, subst, sym, arith}
use Rattle.palm_explain.specs.declared.places.PlaceWord.{PlaceWord}
use Rattle.palm_explain.specs.Places.{HasSame, IsGapAt, IsMissing}
use Rattle.palm_explain.proofs.PlaceSets.{IsReached, gap_behind, gap_reached, reached_next, reached_none}
use Rattle.palm_explain.proofs.places.reach.Goals as goal

pub loop-next-init : goal.loop-next-init
loop-next-init c = reached_none c.args.words.now.items c.args.start c.requires.formed (gap_behind c.args.words.now.items c.args.start c.args.at c.requires (omega (arith, c.if-at-len.false)))

pub loop-next-preserved : goal.loop-next-preserved
loop-next-preserved c =
    let words : List PlaceWord = c.loop-next.words.items in
    let missing = subst (λ (ws : List PlaceWord). IsMissing ws c.args.start c.in-Some.next) c.deref.ensures.value c.in-Some.ensures in
    subst (λ (ws : List PlaceWord). IsReached c.args.words.now.items ws c.args.start) (sym c.in_ok-push.ensures.items)
    (reached_next c.args.words.now.items words c.args.start c.in-Some.next c.loop-next.invariant missing)

pub returns-in_err-push-clause-same : goal.returns-in_err-push-clause-same
returns-in_err-push-clause-same c =
    let i = c.loop-next.invariant in
    subst (λ (ws : List PlaceWord). HasSame c.args.words.now.items ws) (sym c.in_err-push.ensures.items) (record { formed = i.formed; places = i.same })

pub returns-clause-gap : goal.returns-clause-gap
returns-clause-gap c =
    let words : List PlaceWord = c.loop-next.words.items in
    let all : length words ≡ c.len-2.result = omega (arith, c.len-2.ensures, c.loop-next.words.ok.0) in
    subst (IsGapAt words c.args.start) all (gap_reached c.args.words.now.items words c.args.start c.requires.aligned c.loop-next.invariant)

pub returns-clause-same : goal.returns-clause-same
returns-clause-same c = let i = c.loop-next.invariant in record { formed = i.formed; places = i.same }

pub returns-then-at-len-clause-same : goal.returns-then-at-len-clause-same
returns-then-at-len-clause-same c = record { formed = c.requires.formed; places = λ p. (λ h. h, λ h. h) }
