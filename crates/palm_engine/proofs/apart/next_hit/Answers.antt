use Rattle.std.proofs.Common.{◌≡◌, ℕ, ◌+◌, Contains, take, not, false, eqb, of_z, to_z, w32, sym, ◌∙◌, subst}
use Rattle.std.proofs.lemmas.Bool.{not-false}
use Rattle.std.proofs.lemmas.Bool.Decides.{Decides-eqb}
use Rattle.std.proofs.lemmas.Int.{to_z-of_z}
use Rattle.std.proofs.lemmas.List.{take_all}
use Rattle.palm_base.proofs.cited.Members.{member_take_more}
use Rattle.palm_domain.specs.Rows.{present_of}
use Rattle.palm_engine.proofs.Hits.{LeavesUpTo, on_none, up_same, up_two, up_more, up_one, up_whole_none, up_whole_some}
use Rattle.palm_engine.proofs.apart.next_hit.Goals as goal
use Rattle.palm_engine.proofs.apart.next_hit.Goals.{then-ne+then-not-has_two, else-ne, else-ne-via-then-ne+else-not-has_two, else-ne-via-else-ne}

pub loop-other-preserved : goal.loop-other-preserved
loop-other-preserved c =
    let d = present_of c.args.store.now in
    let vars = c.args.vars.now in
    let i = c.loop-other.other-index in
    let by = to_z w32 (of_z w32 c.args.by) in
    let cases = λ (z : ℕ) (m : Contains (take (i + 1) vars) z). member_take_more vars i c.other-item.result z c.loop-other-test.true c.other-item.is m in
    elim c.if-ne.branch [
      | then-ne+then-not-has_two w ↦
          let none = on_none w.hit_at.result (λ free v has le. free v has le (c.greatest-greatest.ensures.greatest v has)) w.hit_at.ensures.none in
          let one = up_one d c.args.var by c.args.from w.hit_at.result c.other-item.result none w.hit_at.ensures.some in
          subst (λ n. LeavesUpTo d (take (i + 1) vars) c.args.var by c.args.from n) (sym (w.next-is ∙ w.lesser-next.ensures))
          (up_more d (take i vars) (take (i + 1) vars) c.args.var by c.args.from c.loop-other.next w.hit_at.result c.other-item.result cases c.loop-other.invariant one)
      | else-ne w ↦
          subst (λ n. LeavesUpTo d (take (i + 1) vars) c.args.var by c.args.from n) (sym w.next-is) (elim w.else-ne.branch [
            | else-ne-via-then-ne+else-not-has_two u ↦
                up_two d (take i vars) (take (i + 1) vars) c.args.var by c.args.from c.loop-other.next c.other-item.result cases (u.has_two.ensures u.if-not-has_two.false) c.loop-other.invariant
            | else-ne-via-else-ne u ↦
                let is : not (eqb c.other-item.result c.args.var) ≡ false = sym u.if-ne.ensures in
                let same = (Decides-eqb c.other-item.result c.args.var).0 (not-false (eqb c.other-item.result c.args.var) is) in
                up_same d (take i vars) (take (i + 1) vars) c.args.var by c.args.from c.loop-other.next c.other-item.result cases same c.loop-other.invariant
          ])
    ]

pub returns-clause-none : goal.returns-clause-none
returns-clause-none c =
    let d = present_of c.args.store.now in
    let all = subst (λ vars. LeavesUpTo d vars c.args.var (to_z w32 (of_z w32 c.args.by)) c.args.from c.loop-other.next) (take_all c.loop-other.other-index c.args.vars.now c.loop-other-test.false) c.loop-other.invariant in
    up_whole_none d c.args.vars.now c.args.var c.args.by c.args.from c.loop-other.next
    (subst (λ by. LeavesUpTo d c.args.vars.now c.args.var by c.args.from c.loop-other.next) (to_z-of_z w32 c.args.by c.ranges.by) all)

pub returns-clause-some : goal.returns-clause-some
returns-clause-some c =
    let d = present_of c.args.store.now in
    let all = subst (λ vars. LeavesUpTo d vars c.args.var (to_z w32 (of_z w32 c.args.by)) c.args.from c.loop-other.next) (take_all c.loop-other.other-index c.args.vars.now c.loop-other-test.false) c.loop-other.invariant in
    up_whole_some d c.args.vars.now c.args.var c.args.by c.args.from c.loop-other.next
    (subst (λ by. LeavesUpTo d c.args.vars.now c.args.var by c.args.from c.loop-other.next) (to_z-of_z w32 c.args.by c.ranges.by) all)
