use Rattle.std.proofs.Common.{sym, subst, slice_index_or, Contains}
use Rattle.palm_base.specs.Tells.{Tells}
use Rattle.palm_book.specs.Book.{initial_of as declared_of}
use Rattle.palm_domain.specs.Rows.{values_of}
use Rattle.palm_kind.specs.Kind.{con_of}
use Rattle.palm_model.specs.Domains.{without}
use Rattle.palm_model.specs.Support.{LacksSupport}
use Rattle.palm_listed.proofs.Keeping.{filter_at, formed_at, keeps_store}
use Rattle.palm_listed.proofs.listed.Listed.lacks_support.Goals as goal

pub lacks_support_without-requires-clause-formed : goal.lacks_support_without-requires-clause-formed
lacks_support_without-requires-clause-formed c =
    formed_at c.args.self.now.book c.args.self.now.store c.args.self.now.kinds.items c.args.place c.index.result.now c.requires.listed c.requires.place c.index.ensures

pub lacks_support_without-requires-clause-removed : goal.lacks_support_without-requires-clause-removed
lacks_support_without-requires-clause-removed c = λ k d lt.
    let p = slice_index_or c.args.removed.now k d in
    subst (λ ds. Contains (values_of ds p.var) p.value) (sym c.requires.listed.initial) (c.requires.removed k d lt)

pub returns-clause-tells : goal.returns-clause-tells
returns-clause-tells c = λ e at.
    let con = filter_at c.args.self.now.book c.args.self.now.store c.args.self.now.kinds.items c.args.place c.index.result.now e c.requires.listed c.requires.place c.index.ensures at in
    let p = c.args.pair.now in
    let pairs = c.args.removed.now in
    subst (λ k. Tells c.lacks_support_without.result (LacksSupport (without (declared_of c.args.self.now.book) pairs) k p.var p.value)) con
    (subst (λ ds. Tells c.lacks_support_without.result (LacksSupport (without ds pairs) (con_of c.index.result.now) p.var p.value)) c.requires.listed.initial c.lacks_support_without.ensures.tells)

pub returns-clause-listed : goal.returns-clause-listed
returns-clause-listed c =
    keeps_store c.args.self.now.book c.args.self.now.store c.lacks_support_without.new.store c.args.self.now.kinds.items c.requires.listed
    c.lacks_support_without.ensures.initial c.lacks_support_without.ensures.full
