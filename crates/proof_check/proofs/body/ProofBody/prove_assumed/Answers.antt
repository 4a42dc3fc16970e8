use Rattle.std.proofs.Common.{ℤ, Option, List, ap, refl, subst, sym}
use Rattle.palm_base.specs.declared.terms.Pair.{Pair}
use Rattle.palm_claim.specs.declared.ground.Ground.TheVariants.{Assumed}
use Rattle.proof_check.specs.Kept.{IsOther, said}
use Rattle.proof_check.proofs.Assuming.{assumed_other, other_assumed}
use Rattle.proof_check.proofs.Grounds.{takes_not_right, takes_right}
use Rattle.proof_check.proofs.Keeping.{keeps_step}
use Rattle.proof_check.proofs.body.ProofBody.prove_assumed.Goals as goal

pub returns-then-not-is_other_assumed-clause-takes : goal.returns-then-not-is_other_assumed-clause-takes
returns-then-not-is_other_assumed-clause-takes c =
    let now = c.args.self.now in
    takes_not_right (said c.args.listed.now.book now) c.args.pair Assumed c.requires.stands c.requires.declared (λ h. h) (λ h. h) (said c.args.listed.now.book now) (λ right.
    c.if-not-is_other_assumed.ensures
    (subst (λ (xs : List (Option ℤ)). IsOther xs c.args.pair) (sym c.deref.ensures.value) (assumed_other now.begun.pairs now.assumed.items c.args.pair c.requires.kept.kept.assumes right)))

pub returns-clause-takes : goal.returns-clause-takes
returns-clause-takes c =
    let now = c.args.self.now in
    let other = subst (λ (xs : List (Option ℤ)). IsOther xs c.args.pair) c.deref.ensures.value c.if-not-is_other_assumed.ensures in
    takes_right (said c.args.listed.now.book now) c.args.pair Assumed c.requires.stands c.requires.declared (λ h. h) (λ h. h) _ now.begun c.requires.kept.lists.formed.different_variables
    (other_assumed now.begun.pairs now.assumed.items c.args.pair c.requires.kept.kept.assumes other) refl (ap (λ (ps : List Pair). record (said c.args.listed.now.book now) { proved = ps }) c.in_ok-push.ensures.items)

pub returns-clause-kept : goal.returns-clause-kept
returns-clause-kept c =
    let now = c.args.self.now in
    record {
      lists = c.requires.kept.lists;
      kept =
          keeps_step c.args.listed.now.book now.lemmas now.begun now.assumed.items now.proved.items c.requires.kept.kept now.begun c.args.pair c.push.new.self.items c.requires.declared c.in_ok-push.ensures.items
          c.requires.kept.kept.assumes c.requires.kept.kept.last;
    }
