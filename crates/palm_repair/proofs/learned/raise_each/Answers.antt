use Rattle.std.proofs.Common.{sym}
use Rattle.palm_base.specs.declared.limits.TheConstants.{LAST_COUNT}
use Rattle.palm_repair.proofs.Learning.{raise_next, raise_small, raise_within, raised_none}
use Rattle.palm_repair.proofs.Reading.{at_member}
use Rattle.palm_repair.proofs.learned.raise_each.Goals as goal

pub loop-var-init : goal.loop-var-init
loop-var-init c = sym (raised_none 0 c.args.weights.now.items)

pub raise_one-requires-clause-within : goal.raise_one-requires-clause-within
raise_one-requires-clause-within c =
    let vars = c.args.vars.now in
    let i = c.loop-var.var-index in
    let x = c.var-item.result in
    raise_within c.args.weights.now.items vars c.loop-var.weights.items i x c.loop-var.invariant (c.requires.within x (at_member vars i x c.loop-var-test.true c.var-item.is))

pub raise_one-requires-clause-small : goal.raise_one-requires-clause-small
raise_one-requires-clause-small c =
    let vars = c.args.vars.now in
    let i = c.loop-var.var-index in
    let x = c.var-item.result in
    raise_small c.args.weights.now.items vars c.loop-var.weights.items i x LAST_COUNT c.loop-var-test.true c.var-item.is c.requires.distinct c.loop-var.invariant
    (c.requires.within x (at_member vars i x c.loop-var-test.true c.var-item.is)) c.requires.small

pub loop-var-preserved : goal.loop-var-preserved
loop-var-preserved c =
    let vars = c.args.vars.now in
    let i = c.loop-var.var-index in
    let x = c.var-item.result in
    raise_next c.args.weights.now.items vars c.loop-var.weights.items c.raise_one.new.weights.items i x c.loop-var-test.true c.var-item.is c.requires.distinct
    (c.requires.within x (at_member vars i x c.loop-var-test.true c.var-item.is)) c.loop-var.invariant c.raise_one.ensures
