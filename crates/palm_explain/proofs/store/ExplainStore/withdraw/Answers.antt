use Rattle.std.proofs.Common.{◌≡◌, ℕ, false, take, Some, ◌∷◌, [], Contains, nat_lt, vec_capacity, sym, subst, arith}
use Rattle.palm_base.specs.Order.{IsPartedAt}
use Rattle.palm_base.specs.declared.terms.Pair.{Pair}
use Rattle.palm_model.specs.Event.{lost_pairs, vars_of}
use Rattle.palm_model.specs.Log.{Loses, log_pairs}
use Rattle.palm_explain.specs.declared.entry.Entry.{Entry}
use Rattle.palm_explain.specs.Entries.{log_of}
use Rattle.palm_explain.specs.Explanations.{Explanations, LacksExactly, restored_vars}
use Rattle.palm_explain.specs.Rows.{number_at}
use Rattle.palm_explain.proofs.Kept.{pairs_logged}
use Rattle.palm_explain.proofs.Withdrawals.{lacks, loses, lost, marked_lost, marks_numbered, none_before_first, vars_lost, whole_left}
use Rattle.palm_explain.proofs.store.ExplainStore.withdraw.Goals as goal

pub lose_each-requires-clause-begun : goal.lose_each-requires-clause-begun
lose_each-requires-clause-begun c =
    let entries = c.self.inside.log.items in
    let parted : IsPartedAt (λ e. nat_lt e.number c.take-first.result) entries c.place_of-start.result = rw c.deref.ensures.value at c.place_of-start.ensures in
    none_before_first entries c.self.inside.firsts c.args.cid c.take-first.result c.place_of-start.result c.self.invariant.begun c.take-first.ensures.taken parted

pub lose_each-requires-clause-lacks : goal.lose_each-requires-clause-lacks
lose_each-requires-clause-lacks c = subst (LacksExactly c.args.store.now) (pairs_logged c.self.inside.rows.items c.self.inside.log.items) (subst (λ (v : Explanations). LacksExactly c.args.store.now (log_pairs v.log)) (sym c.self.view_is) c.requires.lacks)

pub forget_each-requires-clause-numbered : goal.forget_each-requires-clause-numbered
forget_each-requires-clause-numbered c =
    subst (λ es. (e : Entry) → Contains es e → (k : ℕ) × (number_at c.lose_each.new.rows.items e.pair ≡ Some k)) (sym c.deref-2.ensures.value)
    (marks_numbered c.self.inside.log.items c.lose_each.new.log.items c.self.inside.rows.items c.lose_each.new.rows.items c.self.inside.next c.self.invariant.entered c.lose_each.ensures.same c.lose_each.ensures.numbers)

pub forget_each-requires-clause-before : goal.forget_each-requires-clause-before
forget_each-requires-clause-before c = subst (λ es. (e : Entry) → Contains (take c.place_of-start.result es) e → e.mark ≡ false) (sym c.deref-2.ensures.value) c.lose_each.ensures.before

pub invariant_of-self : goal.invariant_of-self
invariant_of-self c =
    whole_left c.self.inside.log.items c.lose_each.new.log.items c.close_up.new.log.items c.self.inside.rows.items c.lose_each.new.rows.items c.forget_each.new.rows.items c.self.inside.next c.args.cid c.self.invariant.entered c.lose_each.ensures.same c.lose_each.ensures.marked c.lose_each.ensures.numbers (rw c.deref-2.ensures.value at c.forget_each.ensures) c.close_up.ensures
    (vec_capacity c.self.inside.restored) (vec_capacity c.lose_each.new.restored) c.self.inside.firsts c.take-first.new.self c.self.invariant (omega (arith, c.clear.ensures.capacity, c.lose_each.ensures.room)) c.take-first.ensures.formed c.take-first.ensures.others

pub returns-clause-loses : goal.returns-clause-loses
returns-clause-loses c =
    subst (λ (v : Explanations). Loses v.log (c.args.cid ∷ []) v.log (log_of c.forget_each.new.rows.items c.close_up.new.log.items)) c.self.view_is
    (loses c.self.inside.log.items c.lose_each.new.log.items c.close_up.new.log.items c.self.inside.rows.items c.lose_each.new.rows.items c.forget_each.new.rows.items c.self.inside.next c.args.cid c.self.invariant.entered c.lose_each.ensures.same c.lose_each.ensures.marked c.lose_each.ensures.numbers (rw c.deref-2.ensures.value at c.forget_each.ensures) c.close_up.ensures)

pub returns-clause-lacks : goal.returns-clause-lacks
returns-clause-lacks c =
    lacks c.self.inside.log.items c.lose_each.new.log.items c.close_up.new.log.items c.self.inside.rows.items c.lose_each.new.rows.items c.forget_each.new.rows.items c.self.inside.next c.args.cid c.self.invariant.entered c.lose_each.ensures.same c.lose_each.ensures.marked c.lose_each.ensures.numbers (rw c.deref-2.ensures.value at c.forget_each.ensures) c.close_up.ensures
    c.args.store.now c.lose_each.new.store (subst (λ (v : Explanations). LacksExactly c.args.store.now (log_pairs v.log)) (sym c.self.view_is) c.requires.lacks) c.lose_each.ensures.back c.lose_each.ensures.ascend.1 c.lose_each.ensures.ascend.0

pub returns-clause-restored : goal.returns-clause-restored
returns-clause-restored c x =
    let left = log_of c.forget_each.new.rows.items c.close_up.new.log.items in
    let keys = restored_vars c.lose_each.new.restored.items in
    subst (λ (v : Explanations). (Contains keys x → Contains (vars_of (lost_pairs v.log left)) x) × (Contains (vars_of (lost_pairs v.log left)) x → Contains keys x)) c.self.view_is
    (vars_lost c.self.inside.log.items c.lose_each.new.log.items c.close_up.new.log.items c.self.inside.rows.items c.lose_each.new.rows.items c.forget_each.new.rows.items c.self.inside.next c.args.cid c.self.invariant.entered c.lose_each.ensures.same c.lose_each.ensures.marked c.lose_each.ensures.numbers (rw c.deref-2.ensures.value at c.forget_each.ensures) c.close_up.ensures
    keys x (c.lose_each.ensures.noted x))

pub returns-clause-within : goal.returns-clause-within
returns-clause-within c p m =
    let left = log_of c.forget_each.new.rows.items c.close_up.new.log.items in
    c.lose_each.ensures.spanned p
    (marked_lost c.self.inside.log.items c.lose_each.new.log.items c.close_up.new.log.items c.self.inside.rows.items c.lose_each.new.rows.items c.forget_each.new.rows.items c.self.inside.next c.args.cid c.self.invariant.entered c.lose_each.ensures.same c.lose_each.ensures.marked c.lose_each.ensures.numbers (rw c.deref-2.ensures.value at c.forget_each.ensures) c.close_up.ensures
    p (subst (λ (v : Explanations). Contains (lost_pairs v.log left) p) (sym c.self.view_is) m))

pub returns-clause-ends : goal.returns-clause-ends
returns-clause-ends c r m =
    let left = log_of c.forget_each.new.rows.items c.close_up.new.log.items in
    let low : Pair = record { var = r.var; value = r.low } in
    let high : Pair = record { var = r.var; value = r.high } in
    let both = c.lose_each.ensures.ends r m in
    let gone = lost c.self.inside.log.items c.lose_each.new.log.items c.close_up.new.log.items c.self.inside.rows.items c.lose_each.new.rows.items c.forget_each.new.rows.items c.self.inside.next c.args.cid c.self.invariant.entered c.lose_each.ensures.same c.lose_each.ensures.marked c.lose_each.ensures.numbers (rw c.deref-2.ensures.value at c.forget_each.ensures) c.close_up.ensures in
    subst (λ (v : Explanations). Contains (lost_pairs v.log left) low × Contains (lost_pairs v.log left) high) c.self.view_is (gone low both.0, gone high both.1)
