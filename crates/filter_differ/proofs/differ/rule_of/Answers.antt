use Rattle.palm_domain.specs.Rows.{initial_of, present_of}
use Rattle.filter_differ.proofs.Rules.{lone_reason}
use Rattle.filter_differ.proofs.differ.rule_of.Goals as goal

pub returns-in-Some : goal.returns-in-Some
returns-in-Some c con intervals =
    lone_reason (initial_of c.args.store.now) (present_of c.args.store.now) c.args.vars.now c.args.pair.now.var c.args.pair.now.value c.in-Some.var c.in-Some.ensures
