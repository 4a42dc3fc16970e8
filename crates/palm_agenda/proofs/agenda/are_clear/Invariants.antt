use Rattle.std.proofs.Common.{◌≡◌, All, take}
use Rattle.palm_agenda.specs.declared.mark.Mark.TheVariants.{Clear}
use Rattle.palm_agenda.proofs.agenda.are_clear.Given as goal

-- the marks so far are clear
abbrev pub invariant-loop-mark : goal.invariant-loop-mark
invariant-loop-mark l = All (λ mark. mark ≡ Clear) (take l.mark-index l.marks)
