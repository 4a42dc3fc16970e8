use Rattle.std.proofs.Common.{◌/◌, arith, inl, inr, rules, sym, ◌∙◌}
use Rattle.std.proofs.lemmas.Bool.Decides.{Decides-eqb}
use Rattle.palm_domain.proofs.MarkPlaces.{window_of_one, window_of_two}
use Rattle.palm_domain.proofs.marks.Marks.window.Goals as goal
use Rattle.palm_domain.proofs.marks.Marks.window.Goals.{then-past-eq64, else-past-eq64}

pub returns-then-from-eq3 : goal.returns-then-from-eq3
returns-then-from-eq3 c k l =
    window_of_one c.args.self.now.words c.args.from k (search rules) l (elim c.if-past-eq64.branch [
      | then-past-eq64 w ↦ inl (omega arith)
      | else-past-eq64 w ↦ inr (omega (arith, (Decides-eqb (c.args.from / 64) 3).0 (sym w.value-is ∙ c.if-from-eq3.true)))
    ])

pub returns-else-from-eq3 : goal.returns-else-from-eq3
returns-else-from-eq3 c k l = window_of_two c.args.self.now.words c.args.from k (search rules) l
