use Rattle.palm_domain.specs.Rows.{initial_of, present_of}
use Rattle.filter_linear.proofs.LinearReasons.{told_rule}
use Rattle.filter_linear.proofs.linear.LinearFilterFilter.rule.Goals as goal

pub returns : goal.returns
returns c =
    let rule = c.self.inside.rule in
    told_rule (initial_of c.args.store.now) (present_of c.args.store.now) rule.terms rule.op rule.bound c.args.pair.now.var c.args.pair.now.value c.args.self.now _ c.list_rule.result c.self.view_is c.list_rule.ensures
