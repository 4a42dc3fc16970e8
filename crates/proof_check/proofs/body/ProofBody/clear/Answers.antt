use Rattle.std.proofs.Common.{◌≡◌, ◌∙◌, ℕ, None, List, length, replicate, ap, rules}
use Rattle.palm_base.specs.declared.terms.Pair.{Pair}
use Rattle.proof_text.specs.Draft.{unproved}
use Rattle.proof_check.proofs.Keeping.{keeps_cleared}
use Rattle.proof_check.proofs.body.ProofBody.clear.Goals as goal

pub returns-clause-kept : goal.returns-clause-kept
returns-clause-kept c = λ book kept.
    let now = c.args.self.now in
    let whole : now.assumed.len ≡ length now.assumed.items = search rules in
    keeps_cleared book now.lemmas now.begun now.assumed.items now.proved.items kept c.unproved_lemma.result _ c.clear.new.self.items
    (c.in_ok-self.ensures.items_if_clones_equal (search rules) ∙ ap (λ (n : ℕ). replicate n None) (c.len.ensures ∙ whole))
    (c.unproved_lemma.ensures ∙ ap (λ (ps : List Pair). unproved ps) c.new.ensures) c.clear.ensures.items
