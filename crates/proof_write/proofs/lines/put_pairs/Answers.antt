use Rattle.std.proofs.Common.{◌<◌, ◌++◌, ◌∙◌, cond, ℕ, Bool, List, [], length, take, codes, sym, ap, append_assoc, append-nil, arith}
use Rattle.palm_base.specs.declared.terms.Cid.TheVariants.{Decide}
use Rattle.proof_run.specs.Lemma.{pair_word}
use Rattle.proof_write.proofs.Holding.{held_more, held_words, told_named}
use Rattle.proof_write.proofs.lines.put_pairs.Goals as goal
use Rattle.proof_write.proofs.lines.put_pairs.Goals.{then-holds+in_ok-put_pair, else-holds}

pub loop-pair-preserved : goal.loop-pair-preserved
loop-pair-preserved c =
    let variables = c.args.book.now.variables in
    let decisions = c.args.decisions.now in
    let held = c.args.held.now in
    let i = c.loop-pair.pair-index in
    let pair = c.pair-item.result in
    let out = c.args.out.now.items in
    let front = held_words variables held (take i decisions) in
    let word = codes " " ++ pair_word variables pair in
    let lt : i < length decisions = omega (arith, c.loop-pair-test.true) in
    let more = held_more variables held decisions i pair c.holds.result lt c.pair-item.is (told_named held (Decide pair.var) c.holds.result c.holds.ensures) in
    elim c.if-holds.branch [
      | then-holds+in_ok-put_pair w ↦
          ap (λ v. v.items) w.out-is ∙ w.in_ok-put_pair.ensures ∙ ap (λ (t : List ℕ). t ++ word) c.loop-pair.invariant ∙ append_assoc out front word
          ∙ ap (λ (b : Bool). out ++ (front ++ cond b word [])) (sym w.if-holds.true) ∙ ap (λ (t : List ℕ). out ++ t) (sym more)
      | else-holds w ↦
          ap (λ v. v.items) w.out-is ∙ c.loop-pair.invariant ∙ ap (λ (t : List ℕ). out ++ t) (sym (append-nil front))
          ∙ ap (λ (b : Bool). out ++ (front ++ cond b word [])) (sym w.if-holds.false) ∙ ap (λ (t : List ℕ). out ++ t) (sym more)
    ]
