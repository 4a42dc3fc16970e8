use Rattle.std.proofs.Common.{◌<◌, ℕ, List, Contains, get_or, length, take, take_all, sym, subst, arith}
use Rattle.std.proofs.lemmas.List.{take_more}
use Rattle.proof_check.specs.Marks.{MarksMore}
use Rattle.proof_check.proofs.Marking.{marks_more, marks_none}
use Rattle.proof_check.proofs.marks.mark_all.Goals as goal

pub mark-requires : goal.mark-requires
mark-requires c =
    let i = c.loop-number.number-index in
    let lt : get_or c.args.numbers.now i 0 < length c.args.marks.now = c.requires i 0 c.loop-number-test.true in
    omega (arith, lt, c.loop-number.auto.marks)

pub loop-number-init : goal.loop-number-init
loop-number-init c = marks_none c.args.marks.now

pub loop-number-preserved : goal.loop-number-preserved
loop-number-preserved c =
    let i = c.loop-number.number-index in
    let numbers = c.args.numbers.now in
    subst (λ (ns : List ℕ). MarksMore c.args.marks.now c.mark.new.marks (Contains ns)) (sym (take_more numbers i 0 c.loop-number-test.true))
    (marks_more c.args.marks.now c.loop-number.marks c.mark.new.marks (take i numbers) (get_or numbers i 0) c.loop-number.invariant c.mark.ensures)

pub returns : goal.returns
returns c = subst (λ (ns : List ℕ). MarksMore c.args.marks.now c.loop-number.marks (Contains ns)) (take_all c.loop-number.number-index c.args.numbers.now c.loop-number-test.false) c.loop-number.invariant
