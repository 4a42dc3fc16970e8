use Rattle.std.proofs.Common.{◌≡◌, refl}
use Rattle.palm_session.specs.declared.request.Request.TheVariants.{Prefer, Quit}
use Rattle.palm_session.proofs.Standing.{some_entry}
use Rattle.palm_session.proofs.desk.Desk.obey_prefer.Goals as goal

pub returns-clause-obeys : goal.returns-clause-obeys
returns-clause-obeys g c =
    let n = some_entry c.args.self.now.state.book.constraints c.args.place c.requires in
    rw c.say.ensures (record {
      changes = (n.0, n.1, c.in_ok-weigh.ensures.weighs n.0 n.1);
      left = (refl, (refl, tt));
      ends = λ e. let f : Prefer c.args.place c.args.weight ≡ Quit = e in cc;
    })
