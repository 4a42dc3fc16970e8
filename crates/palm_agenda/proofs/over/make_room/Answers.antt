use Rattle.std.proofs.Common.{Contains, inl, inr, ◌∙◌, subst, sym}
use Rattle.std.proofs.lemmas.List.{take_all}
use Rattle.palm_base.proofs.cited.Members.{member_take_more}
use Rattle.palm_agenda.specs.Cids.{HasSpace}
use Rattle.palm_agenda.proofs.Rows.{space_stays}
use Rattle.palm_agenda.proofs.over.make_room.Goals as goal

pub loop-var-preserved : goal.loop-var-preserved
loop-var-preserved c = record {
  cids = λ x. c.make_room_at.ensures.cids x ∙ c.loop-var.invariant.cids x;
  space = λ x m. elim (member_take_more c.args.scope.now c.loop-var.var-index c.var-item.result x c.loop-var-test.true c.var-item.is m) [
    | inl k ↦ space_stays c.loop-var.over.items c.make_room_at.new.over.items x (c.make_room_at.ensures.cids x) (c.make_room_at.ensures.grows x) c.make_room_at.ensures.longer (c.loop-var.invariant.space x k)
    | inr e ↦ subst (HasSpace c.make_room_at.new.over.items) e c.in_ok-make_room_at.ensures.ok
  ];
}

pub returns-clause-ok : goal.returns-clause-ok
returns-clause-ok c x m =
    c.loop-var.invariant.space x (subst (λ xs. Contains xs x) (sym (take_all c.loop-var.var-index c.args.scope.now c.loop-var-test.false)) m)
