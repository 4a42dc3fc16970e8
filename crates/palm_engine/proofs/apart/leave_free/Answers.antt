use Rattle.std.proofs.Common.{◌≡◌, ℕ, ◌+◌, Contains, take, not, false, eqb, of_z, to_z, w32, ◌-ℤ◌, sym, ◌∙◌, subst}
use Rattle.std.proofs.lemmas.Bool.{not-false}
use Rattle.std.proofs.lemmas.Bool.Decides.{Decides-eqb}
use Rattle.std.proofs.lemmas.Int.{to_z-of_z}
use Rattle.std.proofs.lemmas.List.{take_all}
use Rattle.palm_base.proofs.cited.Members.{member_take_more}
use Rattle.palm_domain.specs.Rows.{present_of}
use Rattle.palm_engine.proofs.Hits.{LeavesWithin, within_same, within_more, none_told, other_of_two}
use Rattle.palm_engine.proofs.apart.leave_free.Goals as goal
use Rattle.palm_engine.proofs.apart.leave_free.Goals.{else-ne-via-then-ne+then-not-has_two+else-is_some, else-ne-via-then-ne+else-not-has_two, else-ne-via-else-ne}

pub loop-other-preserved : goal.loop-other-preserved
loop-other-preserved c =
    let d = present_of c.args.store.now in
    let vars = c.args.vars.now in
    let i = c.loop-other.other-index in
    let by = to_z w32 (of_z w32 c.args.by) in
    let cases = λ (z : ℕ) (m : Contains (take (i + 1) vars) z). member_take_more vars i c.other-item.result z c.loop-other-test.true c.other-item.is m in
    elim c.else-ne.branch [
      | else-ne-via-then-ne+then-not-has_two+else-is_some w ↦
          within_more d (take i vars) (take (i + 1) vars) c.args.var by c.args.low.now c.args.high.now c.other-item.result cases
          (none_told w.hit_at.result w.hit_at.ensures.none (sym w.is_some.ensures ∙ w.if-is_some.false)) c.loop-other.invariant
      | else-ne-via-then-ne+else-not-has_two w ↦
          within_more d (take i vars) (take (i + 1) vars) c.args.var by c.args.low.now c.args.high.now c.other-item.result cases
          (λ v has le ge. other_of_two d c.other-item.result (v -ℤ by) (w.has_two.ensures w.if-not-has_two.false)) c.loop-other.invariant
      | else-ne-via-else-ne w ↦
          let is : not (eqb c.other-item.result c.args.var) ≡ false = sym w.if-ne.ensures in
          let same = (Decides-eqb c.other-item.result c.args.var).0 (not-false (eqb c.other-item.result c.args.var) is) in
          within_same d (take i vars) (take (i + 1) vars) c.args.var by c.args.low.now c.args.high.now c.other-item.result cases same c.loop-other.invariant
    ]

pub returns : goal.returns
returns c = λ is.
    let d = present_of c.args.store.now in
    let all = subst (λ vars. LeavesWithin d vars c.args.var (to_z w32 (of_z w32 c.args.by)) c.args.low.now c.args.high.now) (take_all c.loop-other.other-index c.args.vars.now c.loop-other-test.false) c.loop-other.invariant in
    subst (λ by. LeavesWithin d c.args.vars.now c.args.var by c.args.low.now c.args.high.now) (to_z-of_z w32 c.args.by c.ranges.by) all
