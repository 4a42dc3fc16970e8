use Rattle.std.proofs.Common.{subst}
use Rattle.palm_hub.specs.Stepping.{IsAdmission}
use Rattle.palm_hub.specs.declared.part.Part.{Part}
use Rattle.palm_hub.proofs.Beginning.{admission_routed, admission_placed, line_begun, not_admitted, quiet_ok}
use Rattle.palm_hub.proofs.routing.begin.Goals as goal

pub returns-in_ok-take_part-clause-stands : goal.returns-in_ok-take_part-clause-stands
returns-in_ok-take_part-clause-stands g c = λ hub more bytes addresses start.
    let before = c.args.sessions.now.items in
    let among = c.admit.new.sessions.items in
    let name = c.args.name.now in
    let admitted = subst (λ (p : Part). IsAdmission before name p among) c.in-Session.is c.in_ok-part.ensures in
    let taken = c.in_ok-take_part.ensures in
    line_begun hub before among c.in-Session.place c.index_mut.result.now c.take_part.new.self bytes name c.args.line.now admitted c.index_mut.ensures.value
    taken.kept taken.named addresses start

pub returns-in_default : goal.returns-in_default
returns-in_default g c =
    let before = c.args.sessions.now.items in
    let after = c.admit.new.sessions.items in
    let part = c.in_ok-part.part in
    let name = c.args.name.now in
    record {
      quiet = quiet_ok _ part;
      stands = not_admitted before after part name c.args.line.now c.in_ok-part.ensures c.in_default.not-Session;
      routed = admission_routed before after part name c.in_ok-part.ensures;
      placed = admission_placed before after part name c.in_ok-part.ensures;
    }
