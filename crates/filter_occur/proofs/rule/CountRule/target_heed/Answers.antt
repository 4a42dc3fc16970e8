use Rattle.filter_occur.proofs.Heeds.{target_alone, target_greatest, target_least}
use Rattle.filter_occur.proofs.rule.CountRule.target_heed.Goals as goal

pub returns-in-Ne : goal.returns-in-Ne
returns-in-Ne c x target =
    let o = c.args.self.now in
    target_alone o.value o.vars o.op o.target c.requires x target c.in-Ne.is

pub returns-in-Lt : goal.returns-in-Lt
returns-in-Lt c x target =
    let o = c.args.self.now in
    target_greatest o.value o.vars o.op o.target c.requires x target c.in-Lt.is

pub returns-in-Gt : goal.returns-in-Gt
returns-in-Gt c x target =
    let o = c.args.self.now in
    target_least o.value o.vars o.op o.target c.requires x target c.in-Gt.is
