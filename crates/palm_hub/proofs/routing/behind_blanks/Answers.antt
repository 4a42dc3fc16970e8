use Rattle.std.proofs.Common.{inl, inr, subst, take}
use Rattle.palm_hub.specs.Standing.{Points}
use Rattle.palm_hub.proofs.Beginning.{comment_behind, name_behind, no_name_behind, still_blank}
use Rattle.palm_hub.proofs.routing.behind_blanks.Goals as goal

pub returns-in-Blank-clause-stands : goal.returns-in-Blank-clause-stands
returns-in-Blank-clause-stands c = λ hub members content head blank some start.
    still_blank hub members content c.args.bytes.now head blank some start c.in-Blank.ensures

pub returns-in-Nobody-clause-stands : goal.returns-in-Nobody-clause-stands
returns-in-Nobody-clause-stands c = λ hub members content head blank some start.
    comment_behind hub members content c.args.bytes.now head blank some start c.in-Nobody.ensures

pub returns-in-Nameless-clause-stands : goal.returns-in-Nameless-clause-stands
returns-in-Nameless-clause-stands c = λ hub members content head blank some start.
    elim c.in-Nameless.is [
      | inl none ↦ no_name_behind hub members content c.args.bytes.now head blank some start
          (subst (Points c.args.bytes.now) none c.addressee_of.ensures)
      | inr named ↦
          let points = subst (Points c.args.bytes.now) named.1 c.addressee_of.ensures in
          name_behind hub members content c.args.bytes.now head (take named.0 c.args.bytes.now) points.0 blank some start points.1
    ]
