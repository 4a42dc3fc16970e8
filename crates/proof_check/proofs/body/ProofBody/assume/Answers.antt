use Rattle.std.proofs.Common.{◌≡◌, ◌∙◌, ℤ, Option, Some, None, List, ◌++◌, ◌∷◌, [], length, sym, ap, rules}
use Rattle.palm_base.specs.declared.terms.Pair.{Pair}
use Rattle.proof_check.specs.Kept.{assumed_at}
use Rattle.proof_check.proofs.Assuming.{puts_written}
use Rattle.proof_check.proofs.Keeping.{keeps_assumed}
use Rattle.proof_check.proofs.body.ProofBody.assume.Goals as goal

pub returns-in_ok-push-in-None-clause-kept : goal.returns-in_ok-push-in-None-clause-kept
returns-in_ok-push-in-None-clause-kept c =
    let now = c.args.self.now in
    let p = c.in-Some.pair in
    let whole : now.assumed.len ≡ length now.assumed.items = search rules in
    let none : assumed_at now.assumed.items p.var ≡ None = ap (λ (xs : List (Option ℤ)). assumed_at xs p.var) (sym c.deref.ensures.value) ∙ sym c.in-None.ensures in
    record {
      lists = c.requires.kept.lists;
      kept =
          keeps_assumed c.args.listed.now.book now.lemmas now.begun now.assumed.items now.proved.items c.requires.kept.kept _ _ p none
          (puts_written now.assumed.items c.deref_mut.result.now c.put.new.assumed now.assumed.len p.var (Some p.value) c.deref_mut.ensures.value whole c.put.ensures)
          (ap (λ (ps : List Pair). record now.begun { pairs = ps }) (c.in_ok-push-in-None.ensures.ok ∙ ap (λ (q : Pair). now.begun.pairs ++ q ∷ []) c.copy.ensures));
    }
