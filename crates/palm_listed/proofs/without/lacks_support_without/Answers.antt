use Rattle.std.proofs.Common.{sym, subst, slice_index_or, Contains}
use Rattle.palm_base.proofs.cited.Telling.{tells_same}
use Rattle.palm_domain.specs.Rows.{initial_of, present_of, values_of}
use Rattle.palm_domain.proofs.cited.StoreRows.{exists_from_declared}
use Rattle.palm_kind.specs.Kind.{con_of}
use Rattle.palm_model.specs.Domains.{without}
use Rattle.palm_model.specs.Support.{LacksSupport}
use Rattle.palm_listed.proofs.Taking.{full_again, present_is}
use Rattle.palm_listed.proofs.Outside.{lacks_inside}
use Rattle.palm_listed.proofs.without.lacks_support_without.Goals as goal

pub take_out_all-requires : goal.take_out_all-requires
take_out_all-requires c = λ k d lt. exists_from_declared c.args.store.now _ _ (c.requires.removed k d lt)

pub put_back_all-requires : goal.put_back_all-requires
put_back_all-requires c = λ k d lt.
    let p = slice_index_or c.args.removed.now k d in
    subst (λ ds. Contains (values_of ds p.var) p.value) (sym c.take_out_all.ensures.initial) (c.requires.removed k d lt)

pub returns-clause-tells : goal.returns-clause-tells
returns-clause-tells c =
    let same = present_is c.args.store.now c.take_out_all.new.store c.args.removed.now c.variables.ensures.inside c.requires.full c.take_out_all.ensures in
    let d = present_of c.take_out_all.new.store in
    let e = without (initial_of c.args.store.now) c.args.removed.now in
    let con = con_of c.args.filter.now in
    tells_same (LacksSupport d con c.args.pair.now.var c.args.pair.now.value) (LacksSupport e con c.args.pair.now.var c.args.pair.now.value) c.lacks_support-lacks.result
    (lacks_inside d e con c.args.pair.now.var c.args.pair.now.value same.1) (lacks_inside e d con c.args.pair.now.var c.args.pair.now.value same.0) c.lacks_support-lacks.ensures

pub returns-clause-full : goal.returns-clause-full
returns-clause-full c = full_again c.args.store.now c.take_out_all.new.store c.put_back_all.new.store c.args.removed.now c.requires.full c.take_out_all.ensures c.put_back_all.ensures
