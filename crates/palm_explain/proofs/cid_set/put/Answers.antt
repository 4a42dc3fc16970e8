use Rattle.std.proofs.Common.{List, sym, subst}
use Rattle.palm_base.specs.Order.{BelongsAt, StandsAt}
use Rattle.palm_base.specs.declared.terms.Cid.{Cid}
use Rattle.palm_explain.specs.Merging.{IsMerged}
use Rattle.palm_explain.proofs.Rising.{merged_put, merged_there}
use Rattle.palm_explain.proofs.cid_set.put.Goals as goal

pub returns-in_ok-insert-clause-ok : goal.returns-in_ok-insert-clause-ok
returns-in_ok-insert-clause-ok c =
    let cids : List Cid = c.args.cids.now.items in
    subst (IsMerged cids _) (sym c.in_ok-insert.ensures.items)
    (merged_put cids c.args.cid.now c.in-Err.place c.requires (subst (λ (l : List Cid). BelongsAt (λ d. d) l c.in-Err.place c.args.cid.now) c.deref.ensures.value c.in-Err.ensures))

pub returns-in_default-clause-ok : goal.returns-in_default-clause-ok
returns-in_default-clause-ok c =
    let cids : List Cid = c.args.cids.now.items in
    merged_there cids c.args.cid.now c.in_default.field-0 c.requires (subst (λ (l : List Cid). StandsAt (λ d. d) l c.in_default.field-0 c.args.cid.now) c.deref.ensures.value c.in_default.ensures)
