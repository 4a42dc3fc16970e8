use Rattle.std.proofs.Common.{◌≡◌, Contains, ap, ◌∙◌, length, subst, sym}
use Rattle.palm_agenda.specs.Agenda.{Connected, IsStanding, Waiting}
use Rattle.palm_agenda.proofs.cited.Connecting.{standing_parted}
use Rattle.palm_agenda.proofs.cited.Keeping.{marks_here}
use Rattle.palm_agenda.proofs.agenda.Agenda.marks.Goals as goal
use Rattle.palm_agenda.proofs.agenda.Agenda.marks.Goals.{After-marks}

found : (c : After-marks) (d : Connected) → Contains c.args.self.now.connected d → d.cid ≡ c.args.taken.now.cid → c.at.result.now ≡ d
found c d m named =
    marks_here c.self.inside.connections c.args.taken.now.cid c.args.taken.now.at c.self.invariant.0.formed.rising
    (standing_parted c.self.inside.connections c.self.invariant.0.formed.rising c.args.taken.now (subst (λ (w : Waiting). IsStanding w.connected c.args.taken.now) (sym c.self.view_is) c.requires))
    c.at.result.now c.at.ensures d (subst (λ (w : Waiting). Contains w.connected d) (sym c.self.view_is) m) named

pub returns-clause-marks : goal.returns-clause-marks
returns-clause-marks c d m named = c.marks.ensures.marks ∙ ap (λ (e : Connected). e.marks) (found c d m named)

pub returns-clause-whole : goal.returns-clause-whole
returns-clause-whole c d m named = ap length c.marks.ensures.marks ∙ c.marks.ensures.whole ∙ ap (λ (e : Connected). length e.scope) (found c d m named)
