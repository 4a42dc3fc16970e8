use Rattle.std.proofs.Common.{◌+ℤ◌, int_eq, ap, sym, subst, ◌∙◌, ◌++◌, ◌∷◌, [], arith}
use Rattle.std.proofs.lemmas.Int.{ints}
use Rattle.std.proofs.lemmas.Bool.Decides.{Decides-int_eq}
use Rattle.palm_domain.specs.Rows.{initial_of}
use Rattle.palm_domain.proofs.cited.Comparisons.{same_from_int_eq}
use Rattle.palm_explain.specs.declared.moving.End.{End}
use Rattle.palm_explain.specs.declared.moving.End.TheVariants.{Shifted}
use Rattle.palm_explain.specs.declared.moving.MovingSpan.{MovingSpan}
use Rattle.palm_engine.specs.Reasons.{IsNear}
use Rattle.palm_engine.proofs.Telling.{near_more, near_shift, none_told, span_told}
use Rattle.palm_engine.proofs.reasons.push_at.Goals as goal

pub returns-in_default-clause-told : goal.returns-in_default-clause-told
returns-in_default-clause-told c = λ yes. none_told (initial_of c.args.store.now) c.args.shift.now.var (λ v w. int_eq w (v +ℤ c.args.shift.now.by)) c.args.out.now.items c.in_default.ensures.none

pub returns-clause-told : goal.returns-clause-told
returns-clause-told c = λ yes.
    let s = c.args.shift.now in
    let span : MovingSpan = record { var = s.var; low = Shifted s.by; high = Shifted s.by } in
    let pushed = c.in_ok-push.ensures.items ∙ ap (λ (e : End). c.args.out.now.items ++ record { var = s.var; low = e; high = c.shifted-2.result } ∷ []) c.shifted.ensures
    ∙ ap (λ (e : End). c.args.out.now.items ++ record { var = s.var; low = Shifted s.by; high = e } ∷ []) c.shifted-2.ensures in
    span_told (initial_of c.args.store.now) span (λ v w. int_eq w (v +ℤ s.by)) c.args.out.now.items c.push.new.self.items c.ends_of.ensures.ascend
    (λ v w has pass. let same = same_from_int_eq w (v +ℤ s.by) pass in (omega (arith, ints, same), omega (arith, ints, same)))
    (λ v w has ge le. (Decides-int_eq w (v +ℤ s.by)).1 (omega (arith, ints, ge, le)))
    pushed

pub returns-clause-near : goal.returns-clause-near
returns-clause-near c = λ near.
    let is = near_shift c.args.shift.now (c.is_near.ensures c.if-not-is_near.false) in
    near_more c.args.out.now.items c.push.new.self.items _ c.in_ok-push.ensures.items
    (subst IsNear (sym c.shifted.ensures) is, subst IsNear (sym c.shifted-2.ensures) is) near
