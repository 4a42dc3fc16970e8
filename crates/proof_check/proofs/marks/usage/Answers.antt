use Rattle.std.proofs.Common.{◌+◌, ◌∙◌, Bool, List, length, ap, arith}
use Rattle.std.proofs.lemmas.List.{length-replicate}
use Rattle.proof_check.specs.declared.marks.Marks.{Marks}
use Rattle.proof_check.proofs.Marking.{passed_all, passed_start}
use Rattle.proof_check.proofs.marks.usage.Goals as goal

pub loop-place-init : goal.loop-place-init
loop-place-init c =
    let before : Marks = record { lemmas = c.in_ok-reached.reached; constraints = c.in_ok-constraints.constraints } in
    let named = c.mark_named.ensures in
    record {
      within = omega arith;
      constraints = named.constraints.long ∙ ap (λ (ms : List Bool). length ms) (c.in_ok-constraints.ensures.items_if_clones_equal (λ y e. e)) ∙ length-replicate (c.args.most + 1) _;
      lemmas = named.lemmas.long ∙ ap (λ (ms : List Bool). length ms) (c.in_ok-reached.ensures.items_if_clones_equal (λ y e. e)) ∙ length-replicate (length c.args.lemmas.now + 1) _;
      passed = passed_start c.args.lemmas.now c.args.lemma.now before c.mark_named.new.marks (c.args.most + 1) (length c.args.lemmas.now + 1) (c.in_ok-constraints.ensures.items_if_clones_equal (λ y e. e)) (c.in_ok-reached.ensures.items_if_clones_equal (λ y e. e)) c.requires.last named;
    }

pub returns : goal.returns
returns c = passed_all c.args.lemmas.now c.args.lemma.now c.loop-place.marks c.loop-place.place c.loop-place-test.false c.loop-place.invariant.passed
