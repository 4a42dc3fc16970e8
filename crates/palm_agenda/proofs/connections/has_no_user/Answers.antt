use Rattle.std.proofs.Common.{sym, ◌∙◌}
use Rattle.palm_agenda.proofs.Runs.{no_user_in}
use Rattle.palm_agenda.proofs.connections.has_no_user.Goals as goal

pub returns-in-None : goal.returns-in-None
returns-in-None c _ = no_user_in c.args.front.now c.in-Some.connection.now c.requires (sym c.in-Some.ensures.value) (λ n is. c.in-None.ensures.none n (c.cid.ensures ∙ is))
