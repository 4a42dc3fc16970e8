use Rattle.std.proofs.Common.{◌≡◌, refl}
use Rattle.palm_session.specs.declared.request.Request.TheVariants.{Retract, Quit}
use Rattle.palm_session.proofs.Standing.{some_entry}
use Rattle.palm_session.proofs.desk.Desk.obey_retract.Goals as goal

pub returns-clause-obeys : goal.returns-clause-obeys
returns-clause-obeys g c =
    let n = some_entry c.args.self.now.state.book.constraints c.args.place c.requires.can in
    let made = c.retract.ensures.retracts n.0 n.1 in
    record {
      changes = (n.0, made.0, n.1, made.1, made.2);
      left = (refl, λ t effect. refl);
      ends = λ e. let f : Retract c.args.place ≡ Quit = e in cc;
    }
