use Rattle.palm_hub.proofs.Beginning.{head_for_nobody, head_nameless}
use Rattle.palm_hub.proofs.routing.route.Goals as goal

pub returns-in-Nobody-clause-stands : goal.returns-in-Nobody-clause-stands
returns-in-Nobody-clause-stands g c = λ hub more enough start. head_for_nobody hub c.args.sessions.now.items more c.args.head.now enough start c.in-Nobody.ensures

pub returns-in-Nameless-clause-stands : goal.returns-in-Nameless-clause-stands
returns-in-Nameless-clause-stands g c = λ hub more enough start. head_nameless hub c.args.sessions.now.items more c.args.head.now enough start c.in-Nameless.ensures
