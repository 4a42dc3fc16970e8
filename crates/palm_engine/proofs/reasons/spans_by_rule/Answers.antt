use Rattle.palm_engine.proofs.Spanning.{goes_wants}
use Rattle.palm_engine.proofs.Knowing.{covered_tells, learnt_tells}
use Rattle.palm_engine.proofs.reasons.spans_by_rule.Goals as goal

pub returns-clause-told : goal.returns-clause-told
returns-clause-told g c =
    let con = g.F.Filter.meaning c.args.filter.now in
    let wants = goes_wants c.args.store.now c.variables.ensures.initial_ascend c.variables.ensures.present_ascend c.variables.ensures.inside con c.args.pair.now c.requires.formed c.requires.goes in
    learnt_tells c.args.store.now con c.args.pair.now c.learn.new.room c.learn.result wants c.learn.ensures.knows c.learn.ensures.covers

pub returns-then-covers-clause-told : goal.returns-then-covers-clause-told
returns-then-covers-clause-told g c = λ yes.
    let con = g.F.Filter.meaning c.args.filter.now in
    let wants = goes_wants c.args.store.now c.variables.ensures.initial_ascend c.variables.ensures.present_ascend c.variables.ensures.inside con c.args.pair.now c.requires.formed c.requires.goes in
    covered_tells c.args.store.now con c.args.pair.now c.args.room.now wants c.requires.knows (c.covers.ensures c.if-covers.true)
