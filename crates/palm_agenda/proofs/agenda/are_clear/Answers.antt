use Rattle.std.proofs.Common.{rules, ◌≡◌, List, [], ◌∷◌, ◌++◌, All, take, take_all, ◌∙◌, sym, subst, ap}
use Rattle.std.proofs.lemmas.List.{take_more}
use Rattle.std.proofs.lemmas.List.Elements.{All-push}
use Rattle.palm_agenda.specs.declared.mark.Mark.{Mark}
use Rattle.palm_agenda.specs.declared.mark.Mark.TheVariants.{Clear}
use Rattle.palm_agenda.proofs.agenda.are_clear.Goals as goal

pub loop-mark-preserved : goal.loop-mark-preserved
loop-mark-preserved c =
    let marks = c.args.marks.now in
    let index = c.loop-mark.mark-index in
    let mark = c.mark-item.result in
    let clear : mark ≡ Clear = search rules in
    subst (λ (ms : List Mark). All (λ m. m ≡ Clear) ms) (sym (take_more marks index mark c.loop-mark-test.true ∙ ap (λ m. take index marks ++ m ∷ []) (sym c.mark-item.is)))
    (All-push (λ m. m ≡ Clear) (take index marks) mark c.loop-mark.invariant clear)

pub returns : goal.returns
returns c = subst (λ (marks : List Mark). All (λ mark. mark ≡ Clear) marks) (take_all c.loop-mark.mark-index c.args.marks.now c.loop-mark-test.false) c.loop-mark.invariant
