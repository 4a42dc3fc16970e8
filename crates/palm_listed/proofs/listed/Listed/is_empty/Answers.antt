use Rattle.std.proofs.Common.{◌∙◌, ℤ, nat_eq, sym, subst, slice_index_or, Contains}
use Rattle.palm_domain.specs.Rows.{values_of}
use Rattle.palm_domain.proofs.cited.StoreRows.{exists_from_declared}
use Rattle.palm_base.specs.Tells.{Tells}
use Rattle.palm_model.specs.Domains.{Has}
use Rattle.palm_listed.proofs.Keeping.{keeps_store}
use Rattle.palm_listed.proofs.Taking.{empty_tells, full_again, pair_of}
use Rattle.palm_listed.proofs.listed.Listed.is_empty.Goals as goal

pub take_out_all-requires : goal.take_out_all-requires
take_out_all-requires c = λ k d lt.
    let store = c.args.self.now.store in
    let p = slice_index_or c.args.removed.now k d in
    exists_from_declared store p.var p.value (subst (λ ds. Contains (values_of ds p.var) p.value) (sym c.requires.listed.initial) (c.requires.removed k d lt))

pub put_back_all-requires : goal.put_back_all-requires
put_back_all-requires c = λ k d lt.
    let p = slice_index_or c.args.removed.now k d in
    subst (λ ds. Contains (values_of ds p.var) p.value) (sym (c.take_out_all.ensures.initial ∙ c.requires.listed.initial)) (c.requires.removed k d lt)

pub returns-clause-tells : goal.returns-clause-tells
returns-clause-tells c =
    let store = c.args.self.now.store in
    subst (λ ds. Tells (nat_eq c.count-is_empty.result 0) ((v : ℤ) → Has ds c.args.var v → Contains c.args.removed.now (pair_of c.args.var v))) c.requires.listed.initial
    (empty_tells store c.take_out_all.new.store c.args.removed.now c.args.var c.count-is_empty.result c.requires.listed.full c.variables-is_empty.ensures.inside c.take_out_all.ensures c.count-is_empty.ensures)

pub returns-clause-listed : goal.returns-clause-listed
returns-clause-listed c =
    let store = c.args.self.now.store in
    keeps_store c.args.self.now.book store c.put_back_all.new.store c.args.self.now.kinds.items c.requires.listed
    (c.put_back_all.ensures.initial ∙ c.take_out_all.ensures.initial) (full_again store c.take_out_all.new.store c.put_back_all.new.store c.args.removed.now c.requires.listed.full c.take_out_all.ensures c.put_back_all.ensures)
