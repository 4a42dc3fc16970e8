use Rattle.std.proofs.Common.{nat_lt, sym, ap, subst}
use Rattle.std.proofs.lemmas.Option.{get_or_from_slice_get, slice_get_within}
use Rattle.palm_base.specs.Order.{IsPartedAt}
use Rattle.palm_explain.specs.declared.entry.Entry.{Entry}
use Rattle.palm_explain.proofs.Reasons.{parted_entry}
use Rattle.palm_explain.proofs.naming.is_marked.Goals as goal

pub bounds-log-place_of : goal.bounds-log-place_of
bounds-log-place_of c =
    let e = c.requires.there in
    let at = parted_entry c.args.log.now c.requires.rises c.place_of.result e.0 e.1 (subst (λ n. IsPartedAt (λ (f : Entry). nat_lt f.number n) c.args.log.now c.place_of.result) (sym e.2) c.place_of.ensures) in
    slice_get_within c.args.log.now c.place_of.result e.0 at

pub returns : goal.returns
returns c e m is =
    let at = parted_entry c.args.log.now c.requires.rises c.place_of.result e m (subst (λ n. IsPartedAt (λ (f : Entry). nat_lt f.number n) c.args.log.now c.place_of.result) (sym is) c.place_of.ensures) in
    ap (λ (z : Entry). z.mark) (get_or_from_slice_get c.args.log.now c.place_of.result e c.index-log-place_of.result at)
