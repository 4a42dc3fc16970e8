use Rattle.std.proofs.Common.{◌≡◌, ℕ, ◌+◌, cond, Option, [], ◌∷◌, length, sym, ap, ◌∙◌, arith, length-append}
use Rattle.std.specs.Prelude.{unwrap_or}
use Rattle.indexmap.specs.IndexMap.{get_by}
use Rattle.palm_base.specs.Order.{same_pair}
use Rattle.proof_write.proofs.Numbering.{lemma_push, number_put}
use Rattle.proof_write.proofs.numbers.LemmaNumbers.note.Goals as goal

pub returns : goal.returns
returns c undone are =
    let gone = c.args.gone in
    let old = c.args.self.now in
    let next : old.count + 1 ≡ 1 + length undone = omega (arith, are.count) in
    record {
      count = omega (arith, are.count, length-append undone (gone ∷ []));
      each = λ p.
          ap (λ (o : Option ℕ). unwrap_or o 0) (c.in_ok-insert.ensures.updates.0 p)
          ∙ number_put (same_pair gone p) (old.count + 1) (get_by (same_pair p) old.last)
          ∙ ap (λ n. cond (same_pair gone p) n (unwrap_or (get_by (same_pair p) old.last) 0)) next
          ∙ ap (λ n. cond (same_pair gone p) (1 + length undone) n) (are.each p)
          ∙ sym (lemma_push undone gone p);
    }
