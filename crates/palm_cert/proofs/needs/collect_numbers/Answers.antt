use Rattle.std.proofs.Common.{◌≡◌, ◌∙◌, ◌++◌, ◌∷◌, [], ◌+◌, ℕ, List, Contains, Some, slice_get, take, take_all, sym, ap, subst, arith}
use Rattle.std.proofs.lemmas.Option.{slice_get-get_or}
use Rattle.palm_base.specs.declared.terms.Pair.{Pair}
use Rattle.palm_base.proofs.cited.Members.{member_get}
use Rattle.palm_cert.specs.Certificate.{numbers_of}
use Rattle.palm_cert.specs.Needs.{removals_at}
use Rattle.palm_cert.proofs.cited.Logged.{reasons_at, some_removal}
use Rattle.palm_cert.proofs.cited.Filtered.{take_some}
use Rattle.palm_cert.proofs.cited.Numbers.{Collects, collected, collects_more}
use Rattle.palm_cert.proofs.cited.Stepped.{member_at, reasons_found, steps_apart}
use Rattle.palm_cert.proofs.needs.collect_numbers.Goals as goal

pub number_at-requires-clause-proved : goal.number_at-requires-clause-proved
number_at-requires-clause-proved c =
    let log = c.args.log.now.log in
    let steps = c.args.steps.now in
    let place = c.args.place in
    let r = some_removal log place c.requires.place in
    let p = c.copy.result in
    let listed = c.as_slice-pair-items.ensures.value ∙ c.in_ok-reasons.ensures.ok in
    let m = subst (λ (ps : List Pair). Contains ps p) listed (member_get c.as_slice-pair-items.result.now c.loop-pair.pair-index p (slice_get-get_or c.as_slice-pair-items.result.now c.loop-pair.pair-index c.pair-item.result c.loop-pair-test.true ∙ ap Some (sym c.pair-item.is ∙ sym c.copy.ensures))) in
    reasons_found log steps c.requires.steps r.0 p (member_at log steps place r.0 c.requires.step r.1)
    (subst (λ (ps : List Pair). Contains ps p) (reasons_at log place r.0 r.1) m)

pub loop-pair-preserved : goal.loop-pair-preserved
loop-pair-preserved c =
    let log = c.args.log.now.log in
    let steps = removals_at log c.args.steps.now in
    let pairs = c.as_slice-pair-items.result.now in
    let i = c.loop-pair.pair-index in
    let old = c.loop-pair.numbers.items in
    let k = c.number_at.result in
    let p = c.copy.result in
    let at : slice_get pairs i ≡ Some p = slice_get-get_or pairs i c.pair-item.result c.loop-pair-test.true ∙ ap Some (sym c.pair-item.is ∙ sym c.copy.ensures) in
    let more = collects_more steps old (take i pairs) k p c.loop-pair.invariant c.number_at.ensures in
    subst (λ (ns : List ℕ). Collects steps ns (take (i + 1) pairs)) (sym c.in_ok-push.ensures.items)
    (subst (λ (ps : List Pair). Collects steps (old ++ k ∷ []) ps) (take_some pairs i p at) more)

pub returns : goal.returns
returns c =
    let log = c.args.log.now.log in
    let steps = removals_at log c.args.steps.now in
    let pairs = c.as_slice-pair-items.result.now in
    let listed = c.as_slice-pair-items.ensures.value ∙ c.in_ok-reasons.ensures.ok in
    collected steps _ _ _ (take c.loop-pair.pair-index pairs) (steps_apart log c.args.steps.now c.requires.steps) c.loop-pair.invariant c.sort_unstable.ensures.permutation c.sort_unstable.ensures.sorted c.dedup.ensures.filtered
    ∙ ap (λ (ps : List Pair). numbers_of steps ps) (take_all c.loop-pair.pair-index pairs (omega (arith, c.loop-pair-test.false)) ∙ listed)
