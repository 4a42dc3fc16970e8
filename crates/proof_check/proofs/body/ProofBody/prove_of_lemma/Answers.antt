use Rattle.std.proofs.Common.{◌≡◌, ◌∙◌, ◌+◌, ◌-◌, ◌<◌, ◌≤◌, ℕ, List, Some, length, get_or, refl, sym, ap, arith, slice_get}
use Rattle.std.proofs.lemmas.Option.{slice_get-get_or}
use Rattle.palm_base.proofs.cited.Telling.{tells_false, tells_true}
use Rattle.palm_claim.specs.Step.{IsOfLemma}
use Rattle.palm_claim.specs.declared.ground.Ground.TheVariants.{OfLemma}
use Rattle.proof_text.specs.Draft.{given_in}
use Rattle.proof_check.specs.Kept.{noting_lemma, said}
use Rattle.proof_text.specs.declared.lemma.Lemma.{Lemma}
use Rattle.proof_check.proofs.Assuming.{tells_of_lemma}
use Rattle.proof_check.proofs.Grounds.{takes_not_right, takes_right}
use Rattle.proof_check.proofs.Keeping.{keeps_step, noted_lemma}
use Rattle.proof_check.proofs.body.ProofBody.prove_of_lemma.Goals as goal

-- the lemma that is read is the one with the number
read : (lemmas slice : List Lemma) (number : ℕ) (lemma : Lemma) → 1 ≤ number → number ≤ length lemmas → lemma ≡ get_or slice (number - 1) lemma → slice ≡ lemmas → slice_get lemmas (number - 1) ≡ Some lemma
read lemmas slice number lemma one most is same =
    let lt : number - 1 < length lemmas = omega (arith, one, most) in
    slice_get-get_or lemmas (number - 1) lemma lt ∙ ap Some (sym (is ∙ ap (λ (ls : List Lemma). get_or ls (number - 1) lemma) same))

pub returns-then-not-is_by_others-clause-takes : goal.returns-then-not-is_by_others-clause-takes
returns-then-not-is_by_others-clause-takes c =
    let now = c.args.self.now in
    let d = said c.args.listed.now.book now in
    let number = c.args.number in
    let lemma = c.index-as_slice-number.result in
    let most : number ≤ length now.lemmas = omega (arith, c.if-number-len.false, c.len.ensures) in
    let at = read now.lemmas c.as_slice.result.now number lemma c.requires.range.0 most c.index-as_slice-number.is c.as_slice.ensures in
    let tells = tells_of_lemma now.begun.pairs now.lemmas now.assumed.items c.requires.kept.kept.assumes number lemma at c.args.pair c.is_by_others.result (rw (c.deref.ensures.value, c.as_slice-2.ensures) at c.is_by_others.ensures) in
    takes_not_right d c.args.pair (OfLemma number) c.requires.stands c.requires.declared (λ h. h) (λ l. omega (arith, l, most)) d
    (tells_false (IsOfLemma (given_in d) number c.args.pair) c.is_by_others.result tells c.if-not-is_by_others.true)

pub returns-clause-takes : goal.returns-clause-takes
returns-clause-takes c =
    let now = c.args.self.now in
    let d = said c.args.listed.now.book now in
    let number = c.args.number in
    let lemma = c.index-as_slice-number.result in
    let most : number ≤ length now.lemmas = omega (arith, c.if-number-len.false, c.len.ensures) in
    let at = read now.lemmas c.as_slice.result.now number lemma c.requires.range.0 most c.index-as_slice-number.is c.as_slice.ensures in
    let tells = tells_of_lemma now.begun.pairs now.lemmas now.assumed.items c.requires.kept.kept.assumes number lemma at c.args.pair c.is_by_others.result (rw (c.deref.ensures.value, c.as_slice-2.ensures) at c.is_by_others.ensures) in
    takes_right d c.args.pair (OfLemma number) c.requires.stands c.requires.declared (λ h. h) (λ l. omega (arith, l, most)) _
    (noting_lemma now.begun number) c.requires.kept.lists.formed.different_variables (tells_true (IsOfLemma (given_in d) number c.args.pair) c.is_by_others.result tells c.if-not-is_by_others.false) refl
    (rw (c.in_ok-push.ensures.ok, c.in_ok-push-2.ensures.items) refl)

pub returns-clause-kept : goal.returns-clause-kept
returns-clause-kept c =
    let now = c.args.self.now in
    let most : c.args.number ≤ length now.lemmas = omega (arith, c.if-number-len.false, c.len.ensures) in
    record {
      lists = c.requires.kept.lists;
      kept = rw c.in_ok-push.ensures.ok
          (keeps_step c.args.listed.now.book now.lemmas now.begun now.assumed.items now.proved.items c.requires.kept.kept (noting_lemma now.begun c.args.number) c.args.pair c.push-2.new.self.items
          c.requires.declared c.in_ok-push-2.ensures.items c.requires.kept.kept.assumes
          (noted_lemma (length c.args.listed.now.book.constraints + 1) (length now.lemmas) now.begun c.args.number c.requires.kept.kept.last (c.requires.range.0, most)));
    }
