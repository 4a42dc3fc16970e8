use Rattle.std.proofs.Common.{length}
use Rattle.palm_domain.specs.Rows.{initial_of, present_of}
use Rattle.palm_model.specs.Reason.{IsReason}
use Rattle.palm_model.specs.Count.{count_reason}
use Rattle.palm_filter.proofs.cited.Written.{written_right}
use Rattle.palm_filter.proofs.cited.Righted.{written_is_right}
use Rattle.filter_occur.proofs.CountSupport.{vars_declared, target_declared, vars_filled, gives_reason}
use Rattle.filter_occur.proofs.count.OccurFilterFilter.reason.Goals as goal

pub push_reason-written-requires-clause-declared : goal.push_reason-written-requires-clause-declared
push_reason-written-requires-clause-declared c = vars_declared c.self.inside.rule c.args.self.now (length c.args.store.now) c.self.view_is c.requires.formed

pub push_reason-written-requires-clause-target : goal.push_reason-written-requires-clause-target
push_reason-written-requires-clause-target c = target_declared c.self.inside.rule c.args.self.now (length c.args.store.now) c.self.view_is c.requires.formed

pub push_reason-written-requires-clause-filled : goal.push_reason-written-requires-clause-filled
push_reason-written-requires-clause-filled c = vars_filled c.self.inside.rule c.args.self.now (length c.args.store.now) c.self.view_is c.requires.formed (present_of c.args.store.now) c.requires.filled

pub returns-clause-right : goal.returns-clause-right
returns-clause-right c =
    let o = c.self.inside.rule in
    let initial = initial_of c.args.store.now in
    let present = present_of c.args.store.now in
    written_right (IsReason initial present c.args.self.now c.args.pair.var c.args.pair.value) c.push_reason-written.result c.whole_or_none.result
    c.clear.new.self.items c.push_reason-written.new.out.items c.whole_or_none.new.out.items
    (count_reason initial present o.value o.vars o.op o.target c.args.pair.var c.args.pair.value)
    c.clear.ensures.items c.whole_or_none.ensures.answer c.push_reason-written.ensures c.whole_or_none.ensures.ok
    (λ e. written_is_right c.args.store.now c.variables.ensures.initial_ascend c.variables.ensures.present_ascend c.variables.ensures.inside
    c.args.self.now c.args.pair.var c.args.pair.value c.requires.formed c.requires.present c.requires.unsupported c.requires.filled c.whole_or_none.new.out.items
    (gives_reason o c.args.self.now (length c.args.store.now) c.self.view_is c.requires.formed initial present c.args.pair.var c.args.pair.value c.whole_or_none.new.out.items e))
