use Rattle.std.proofs.Common.{ap, sym, ◌∙◌}
use Rattle.palm_agenda.specs.Marks.{changed}
use Rattle.palm_agenda.proofs.cited.Keeping.{places_alone, places_marked}
use Rattle.palm_agenda.proofs.connection.Connection.mark.Goals as goal

pub returns-in-Keeps : goal.returns-in-Keeps
returns-in-Keeps c =
    places_alone c.args.places.now c.args.var.now c.args.self.now c.requires.over
    (λ mark. sym (c.requires.changes mark) ∙ ap (λ change. changed change mark) c.in-Keeps.is)

pub returns-in-Widens : goal.returns-in-Widens
returns-in-Widens c =
    c.mark_each.ensures ∙ places_marked c.args.places.now c.args.var.now c.args.self.now c.requires.over (changed c.args.change.now) c.requires.changes
