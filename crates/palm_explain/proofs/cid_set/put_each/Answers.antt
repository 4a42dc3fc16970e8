use Rattle.std.proofs.Common.{List, Contains, inl, inr, sym, subst}
use Rattle.palm_base.specs.declared.terms.Cid.{Cid}
use Rattle.palm_base.proofs.cited.Members.{member_take}
use Rattle.palm_explain.proofs.Rising.{merged_next}
use Rattle.palm_explain.proofs.cid_set.put_each.Goals as goal

pub returns-in_err-put-clause-only : goal.returns-in_err-put-clause-only
returns-in_err-put-clause-only c d m = elim (c.loop-cid.invariant.sound d (subst (λ (l : List Cid). Contains l d) c.in_err-put.ensures.err m)) [
  | inl o ↦ inl o
  | inr k ↦ inr (member_take c.loop-cid.cid-index c.args.more.now d k)
]

pub returns-in_err-put-clause-stay : goal.returns-in_err-put-clause-stay
returns-in_err-put-clause-stay c d m = subst (λ (l : List Cid). Contains l d) (sym c.in_err-put.ensures.err) (c.loop-cid.invariant.first d m)

pub loop-cid-preserved : goal.loop-cid-preserved
loop-cid-preserved c =
    merged_next _ c.args.more.now _ _ c.loop-cid.cid-index c.cid-item.result c.loop-cid-test.true c.cid-item.is c.loop-cid.invariant c.in_ok-put.ensures.ok

pub returns-clause-only : goal.returns-clause-only
returns-clause-only c d m = elim (c.loop-cid.invariant.sound d m) [
  | inl o ↦ inl o
  | inr k ↦ inr (member_take c.loop-cid.cid-index c.args.more.now d k)
]
