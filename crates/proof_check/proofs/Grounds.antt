-- What is answered to a step of a declared pair, by its ground.
use Rattle.std.proofs.Common.{◌≡◌, ℕ, ℤ, Some, None, List, inl, inr, subst}
use Rattle.palm_base.specs.declared.terms.Pair.{Pair}
use Rattle.palm_book.specs.Book.{initial_of}
use Rattle.palm_book.specs.Named.{IsPair}
use Rattle.palm_book.proofs.cited.Pairs.{Apart, pair_declared, pair_is}
use Rattle.palm_model.specs.Domains.{Has}
use Rattle.palm_claim.specs.Step.{IsRightBy}
use Rattle.palm_claim.specs.declared.ground.Ground.{Ground}
use Rattle.palm_claim.specs.declared.verdict.Cause.TheVariants.{NotRight}
use Rattle.palm_claim.proofs.cited.Causes.{first_not_right, without_cause}
use Rattle.proof_text.specs.Draft.{Draft, Notes, given_in, with_step}
use Rattle.proof_text.specs.Verdict.{IsMisdeclared, IsUnknownGround, IsUnprovedGround, Meets}
use Rattle.proof_text.specs.declared.lemma.Lemma.{Lemma}
use Rattle.proof_text.specs.declared.statement.Stage.TheVariants.{Reasoning}
use Rattle.palm_claim.specs.declared.statement.Statement.TheVariants.{Phrase}
use Rattle.proof_text.specs.declared.statement.ProofPhrase.TheVariants.{Step}
use Rattle.proof_check.specs.Kept.{TakesGround}

module _ (d : Draft) (pair : Pair) (basis : Ground) (stands : d.stage ≡ Reasoning) (has : Has (initial_of d.book) pair.var pair.value) (known : IsUnknownGround d basis → ⊥) where
  declared : (name : List ℕ) (value : ℤ) → IsPair d.book.variables name value pair → IsMisdeclared d (Step name value basis) → ⊥
  declared name value is m = elim m [ inl h ↦ h (pair_declared d.book name value pair is has) | inr h ↦ known h ]

  module _ (early : IsUnprovedGround d basis → ⊥) where
    pub takes_not_right : (e : Draft) → (IsRightBy d.book (given_in d) d.proved pair basis → ⊥) → TakesGround d pair basis (Some NotRight) e
    takes_not_right e wrong name value is = first_not_right (Meets d (Phrase (Step name value basis))) (λ n. n stands) (declared name value is) (λ h. h) early (pair, is, wrong)

    pub takes_right : (e : Draft) (lemma : Lemma) → Apart d.book.variables → IsRightBy d.book (given_in d) d.proved pair basis → Notes d basis lemma → e ≡ with_step d pair lemma → TakesGround d pair basis None e
    takes_right e lemma apart right notes is_step name value is = (
      without_cause (Meets d (Phrase (Step name value basis))) (λ n. n stands) (declared name value is) (λ h. h) early
          (λ w. w.2 (subst (λ (q : Pair). IsRightBy d.book (given_in d) d.proved q basis) (pair_is d.book.variables name value pair w.0 apart is w.1) right))
          (λ h. h),
      (pair, lemma, is, notes, is_step),
    )
