use Rattle.std.proofs.Common.{◌+ℤ◌, ◌-ℤ◌, pos, not, int_lt, int_eq, ap, sym, subst, ◌∙◌, ◌++◌, ◌∷◌, []}
use Rattle.std.proofs.lemmas.Bool.{not-true}
use Rattle.palm_domain.specs.Rows.{initial_of}
use Rattle.palm_domain.proofs.cited.Comparisons.{ge_from_int_lt, int_lt_from_ge}
use Rattle.palm_explain.specs.declared.moving.End.{End}
use Rattle.palm_explain.specs.declared.moving.End.TheVariants.{At, Shifted}
use Rattle.palm_explain.specs.declared.moving.MovingSpan.{MovingSpan}
use Rattle.palm_engine.specs.Reasons.{IsNear}
use Rattle.palm_engine.proofs.Telling.{near_more, none_told, others_told, span_told}
use Rattle.palm_engine.proofs.reasons.push_others.Goals as goal

pub returns-in_default-clause-told : goal.returns-in_default-clause-told
returns-in_default-clause-told c = λ yes. none_told (initial_of c.args.store.now) c.args.shift.now.var (λ v w. not (int_eq w (v +ℤ c.args.shift.now.by))) c.args.out.now.items c.in_default.ensures.none

pub returns-clause-told : goal.returns-clause-told
returns-clause-told c = λ yes v reasons told.
    let d = initial_of c.args.store.now in
    let s = c.args.shift.now in
    let ends = c.in-Some.ends in
    let below : MovingSpan = record { var = s.var; low = At ends.least; high = Shifted (s.by -ℤ pos 1) } in
    let above : MovingSpan = record { var = s.var; low = Shifted (s.by +ℤ pos 1); high = At ends.greatest } in
    let one = c.in_ok-push.ensures.items ∙ ap (λ (e : End). c.args.out.now.items ++ record { var = s.var; low = At ends.least; high = e } ∷ []) c.before_shifted.ensures in
    let two = c.in_ok-push-2.ensures.items ∙ ap (λ (e : End). c.push.new.self.items ++ record { var = s.var; low = e; high = At ends.greatest } ∷ []) c.after_shifted.ensures in
    let first = span_told d below (λ v w. not (int_lt (v +ℤ (s.by -ℤ pos 1)) w)) c.args.out.now.items c.push.new.self.items c.ends_of.ensures.ascend
    (λ v w has pass. ((c.in-Some.ensures.some w has).0, ge_from_int_lt (v +ℤ (s.by -ℤ pos 1)) w (not-true (int_lt (v +ℤ (s.by -ℤ pos 1)) w) pass)))
    (λ v w has ge le. ap not (int_lt_from_ge (v +ℤ (s.by -ℤ pos 1)) w le)) one in
    let second = span_told d above (λ v w. not (int_lt w (v +ℤ (s.by +ℤ pos 1)))) c.push.new.self.items c.push-2.new.self.items c.ends_of.ensures.ascend
    (λ v w has pass. (ge_from_int_lt w (v +ℤ (s.by +ℤ pos 1)) (not-true (int_lt w (v +ℤ (s.by +ℤ pos 1))) pass), (c.in-Some.ensures.some w has).1))
    (λ v w has ge le. ap not (int_lt_from_ge w (v +ℤ (s.by +ℤ pos 1)) ge)) two in
    others_told d s.var s.by v c.args.out.now.items c.push.new.self.items c.push-2.new.self.items c.ends_of.ensures.ascend first second reasons told

pub returns-clause-near : goal.returns-clause-near
returns-clause-near c = λ near.
    let is = c.is_near.ensures c.if-not-is_near.false in
    near_more c.push.new.self.items c.push-2.new.self.items _ c.in_ok-push-2.ensures.items (subst IsNear (sym c.after_shifted.ensures) is.after, tt)
    (near_more c.args.out.now.items c.push.new.self.items _ c.in_ok-push.ensures.items (tt, subst IsNear (sym c.before_shifted.ensures) is.before) near)
