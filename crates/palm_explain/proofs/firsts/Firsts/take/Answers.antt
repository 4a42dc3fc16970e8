use Rattle.std.proofs.Common.{◌∙◌, refl, sym, ap, subst}
use Rattle.palm_base.specs.Order.{BelongsAt, StandsAt}
use Rattle.palm_base.proofs.cited.RisingLists.{stands_cid}
use Rattle.palm_explain.specs.Firsts.{first_in}
use Rattle.palm_explain.proofs.FirstNumbers.{found_first, none_first, none_some, set_others}
use Rattle.palm_explain.proofs.Reasons.{some_same}
use Rattle.palm_explain.proofs.firsts.Firsts.take.Goals as goal

pub returns-in-Ok-clause-taken : goal.returns-in-Ok-clause-taken
returns-in-Ok-clause-taken c k is =
    let f = c.args.self.now in
    let i = c.in-Ok.place in
    let named = stands_cid f.cids.items i c.args.cid.now (subst (λ xs. StandsAt (λ x. x) xs i c.args.cid.now) c.deref.ensures.value c.in-Ok.ensures) in
    let old = c.replaced.ensures.old in
    some_same c.replaced.result k (sym (found_first f.cids.items f.numbers.items i c.args.cid.now c.replaced.result c.requires.rises named old) ∙ is)

pub returns-in-Ok-clause-others : goal.returns-in-Ok-clause-others
returns-in-Ok-clause-others c d differs =
    let f = c.args.self.now in
    let i = c.in-Ok.place in
    let named = stands_cid f.cids.items i c.args.cid.now (subst (λ xs. StandsAt (λ x. x) xs i c.args.cid.now) c.deref.ensures.value c.in-Ok.ensures) in
    ap (λ ns. first_in f.cids.items ns d) c.replaced.ensures.new ∙ set_others f.cids.items f.numbers.items i c.args.cid.now 18446744073709551615 d named differs

pub returns-in-Err-clause-taken : goal.returns-in-Err-clause-taken
returns-in-Err-clause-taken c k is =
    let f = c.args.self.now in
    let at : BelongsAt (λ x. x) f.cids.items c.in-Err.field-0 c.args.cid.now = subst (λ xs. BelongsAt (λ x. x) xs c.in-Err.field-0 c.args.cid.now) c.deref.ensures.value c.in-Err.ensures in
    absurd (none_some k (sym (none_first f.cids.items f.numbers.items c.args.cid.now (λ m. at.absent c.args.cid.now m refl)) ∙ is))
