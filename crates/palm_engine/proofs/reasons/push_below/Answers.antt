use Rattle.std.proofs.Common.{◌+ℤ◌, not, int_lt, ap, sym, subst, ◌∙◌, ◌++◌, ◌∷◌, []}
use Rattle.std.proofs.lemmas.Bool.{not-true}
use Rattle.palm_domain.specs.Rows.{initial_of}
use Rattle.palm_domain.proofs.cited.Comparisons.{ge_from_int_lt, int_lt_from_ge}
use Rattle.palm_explain.specs.declared.moving.End.{End}
use Rattle.palm_explain.specs.declared.moving.End.TheVariants.{At, Shifted}
use Rattle.palm_explain.specs.declared.moving.MovingSpan.{MovingSpan}
use Rattle.palm_engine.specs.Reasons.{IsNear}
use Rattle.palm_engine.proofs.Telling.{near_more, near_shift, none_told, span_told}
use Rattle.palm_engine.proofs.reasons.push_below.Goals as goal

pub returns-in_default-clause-told : goal.returns-in_default-clause-told
returns-in_default-clause-told c = λ yes. none_told (initial_of c.args.store.now) c.args.shift.now.var (λ v w. not (int_lt (v +ℤ c.args.shift.now.by) w)) c.args.out.now.items c.in_default.ensures.none

pub returns-clause-told : goal.returns-clause-told
returns-clause-told c = λ yes.
    let s = c.args.shift.now in
    let ends = c.in-Some.ends in
    let span : MovingSpan = record { var = s.var; low = At ends.least; high = Shifted s.by } in
    let pushed = c.in_ok-push.ensures.items ∙ ap (λ (e : End). c.args.out.now.items ++ record { var = s.var; low = At ends.least; high = e } ∷ []) c.shifted.ensures in
    span_told (initial_of c.args.store.now) span (λ v w. not (int_lt (v +ℤ s.by) w)) c.args.out.now.items c.push.new.self.items c.ends_of.ensures.ascend
    (λ v w has pass. ((c.in-Some.ensures.some w has).0, ge_from_int_lt (v +ℤ s.by) w (not-true (int_lt (v +ℤ s.by) w) pass)))
    (λ v w has ge le. ap not (int_lt_from_ge (v +ℤ s.by) w le))
    pushed

pub returns-clause-near : goal.returns-clause-near
returns-clause-near c = λ near.
    near_more c.args.out.now.items c.push.new.self.items _ c.in_ok-push.ensures.items
    (tt, subst IsNear (sym c.shifted.ensures) (near_shift c.args.shift.now (c.is_near.ensures c.if-not-is_near.false))) near
