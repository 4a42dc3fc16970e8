use Rattle.std.proofs.Common.{◌+◌, [], ◌∷◌, ◌++◌, ap, ◌∙◌, sym, subst}
use Rattle.palm_base.specs.declared.terms.Cid.{Cid}
use Rattle.palm_explain.specs.CidSets.{HasAppended}
use Rattle.palm_explain.proofs.CidSets.{IsIdBelow, below_all, below_next, below_none}
use Rattle.palm_explain.proofs.cid_set.push_word.Goals as goal

pub loop-number-init : goal.loop-number-init
loop-number-init c = below_none c.args.ids c.args.word.now c.args.cids.now.items

pub loop-number-preserved : goal.loop-number-preserved
loop-number-preserved c =
    let number = c.in-Some.number in
    subst (HasAppended c.args.cids.now.items (IsIdBelow c.args.ids c.args.word.now (number + 1))) (sym (c.in_ok-push.ensures.items ∙ ap (λ (d : Cid). c.loop-number.cids.items ++ d ∷ []) c.id.ensures))
    (below_next c.args.ids c.args.word.now c.args.cids.now.items c.loop-number.cids.items c.loop-number.from number c.in-Some.ensures.some c.loop-number.invariant)

pub returns : goal.returns
returns c = below_all c.args.ids c.args.word.now c.args.cids.now.items c.loop-number.cids.items c.loop-number.from c.in_default.ensures.none c.loop-number.invariant
