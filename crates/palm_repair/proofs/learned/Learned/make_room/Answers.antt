use Rattle.std.proofs.Common.{◌+◌, ◌<◌, length, remove, Contains, sym, ap, ◌∙◌, subst, arith}
use Rattle.palm_base.specs.declared.limits.TheConstants.{LAST_COUNT}
use Rattle.palm_model.specs.Event.{WithdrawsAll}
use Rattle.palm_repair.specs.Learned.{LearnedView}
use Rattle.palm_repair.specs.Repair.{forced_by}
use Rattle.palm_repair.proofs.Taking.{room_left, room_made}
use Rattle.palm_repair.proofs.learned.Learned.make_room.Goals as goal

pub withdraw_forced-requires : goal.withdraw_forced-requires
withdraw_forced-requires g c = record { active = λ o m. c.requires.active o (subst (λ l. Contains l o) c.origins.ensures m) }

pub forget-requires-clause-some : goal.forget-requires-clause-some
forget-requires-clause-some g c =
    let kept = ap (λ (v : LearnedView). length v.nogoods) c.keep_active.ensures in
    let listed = c.listed.ensures in
    let full = c.if-listed-tabu.true in
    let some = c.requires.some in
    omega (arith, kept, listed, full, some)

pub forget-requires-clause-small : goal.forget-requires-clause-small
forget-requires-clause-small g c = subst (λ (v : LearnedView). v.dropped < LAST_COUNT) (sym c.keep_active.ensures) c.requires.small

pub returns-then-listed-tabu-clause-ok : goal.returns-then-listed-tabu-clause-ok
returns-then-listed-tabu-clause-ok g c = λ decisions.
    let s = c.args.engine.now.state in
    let t = c.withdraw_forced.new.engine.state in
    let before = c.args.self.now in
    let withdraws = subst (λ l. WithdrawsAll s (forced_by s before.dropped l) t) c.origins.ensures
    (subst (λ k. WithdrawsAll s (forced_by s k c.origins.result.now) t) c.dropped.ensures c.withdraw_forced.ensures.withdraws) in
    room_made c.args.tabu s t decisions before c.forget.new.self c.requires.some (sym c.listed.ensures ∙ c.if-listed-tabu.true) withdraws
    (c.forget.ensures ∙ ap (λ (v : LearnedView). record v { nogoods = remove v.nogoods 0; dropped = v.dropped + 1 }) c.keep_active.ensures)

pub returns-else-listed-tabu-clause-ok : goal.returns-else-listed-tabu-clause-ok
returns-else-listed-tabu-clause-ok g c = λ decisions.
    room_left c.args.tabu c.args.engine.now.state decisions c.args.self.now c.requires.few (λ e. c.if-listed-tabu.false (c.listed.ensures ∙ e))
