use Rattle.std.proofs.Common.{◌≤◌, ◌+◌, length, Contains, inl, inr, sym, ap, subst, arith}
use Rattle.palm_base.proofs.cited.Members.{member_cases, member_here, member_nil, member_there}
use Rattle.palm_explain.specs.declared.rows.TheConstants.{NO_NUMBER}
use Rattle.palm_explain.specs.Losing.{marked_pairs}
use Rattle.palm_explain.specs.Rows.{rest_in}
use Rattle.palm_explain.proofs.MarkedSpans.{next_left, none_passed, span_entry, span_marked, span_row, span_unmarked}
use Rattle.palm_explain.proofs.naming.has_mark.Goals as goal

pub loop-next-init : goal.loop-next-init
loop-next-init c =
    let row = c.in-Some.row.now in
    let all = c.first_from-place.ensures c.args.number c.args.span.now.high in record {
      rest = λ v m. subst (λ l. Contains l v) all m;
      passed = λ v m. inl (subst (λ l. Contains l v) (sym all) m);
    }

pub is_marked-requires-clause-there : goal.is_marked-requires-clause-there
is_marked-requires-clause-there c =
    let row = c.in-Some.row.now in
    let n = c.args.number in
    let s = c.args.span.now in
    let v = c.numbered.result.0 in
    let most : n ≤ NO_NUMBER = omega (arith, c.ranges.number.fits) in
    let rest = rest_in row n s.high (c.in-Some-next_before.next + 1) in
    let more = next_left row.values.items rest (rest_in row n s.high c.loop-next.place) c.in-Some-next_before.next v c.numbered.ensures.value c.in-Some-next_before.ensures.some.1 in
    let m = c.loop-next.invariant.rest v (subst (λ l. Contains l v) (sym more) (member_here v rest)) in
    let e = span_entry c.args.log.now c.args.rows.now c.requires.entered.0 c.requires.entered.1 n most s row c.in-Some.ensures v c.numbered.result.1 c.numbered.ensures.number m in
    (e.0, e.1, e.3)

pub returns-then-is_marked : goal.returns-then-is_marked
returns-then-is_marked c =
    let row = c.in-Some.row.now in
    let n = c.args.number in
    let s = c.args.span.now in
    let v = c.numbered.result.0 in
    let most : n ≤ NO_NUMBER = omega (arith, c.ranges.number.fits) in
    let rest = rest_in row n s.high (c.in-Some-next_before.next + 1) in
    let more = next_left row.values.items rest (rest_in row n s.high c.loop-next.place) c.in-Some-next_before.next v c.numbered.ensures.value c.in-Some-next_before.ensures.some.1 in
    let m = c.loop-next.invariant.rest v (subst (λ l. Contains l v) (sym more) (member_here v rest)) in
    span_marked c.args.log.now c.args.rows.now c.requires.entered.0 c.requires.entered.1 n most s row c.in-Some.ensures v c.numbered.result.1 c.numbered.ensures.number m c.is_marked.result c.is_marked.ensures c.if-is_marked.true

pub loop-next-smaller : goal.loop-next-smaller
loop-next-smaller c =
    let row = c.in-Some.row.now in
    let n = c.args.number in
    let s = c.args.span.now in
    let v = c.numbered.result.0 in
    let rest = rest_in row n s.high (c.in-Some-next_before.next + 1) in
    let more = ap length (next_left row.values.items rest (rest_in row n s.high c.loop-next.place) c.in-Some-next_before.next v c.numbered.ensures.value c.in-Some-next_before.ensures.some.1) in
    omega (arith, more)

pub loop-next-preserved : goal.loop-next-preserved
loop-next-preserved c =
    let row = c.in-Some.row.now in
    let n = c.args.number in
    let s = c.args.span.now in
    let v = c.numbered.result.0 in
    let most : n ≤ NO_NUMBER = omega (arith, c.ranges.number.fits) in
    let rest = rest_in row n s.high (c.in-Some-next_before.next + 1) in
    let more = next_left row.values.items rest (rest_in row n s.high c.loop-next.place) c.in-Some-next_before.next v c.numbered.ensures.value c.in-Some-next_before.ensures.some.1 in
    let m = c.loop-next.invariant.rest v (subst (λ l. Contains l v) (sym more) (member_here v rest)) in
    let none = span_unmarked c.args.log.now c.args.rows.now c.requires.entered.0 c.requires.entered.1 n most s row c.in-Some.ensures v c.numbered.result.1 c.numbered.ensures.number m c.is_marked.result c.is_marked.ensures c.if-is_marked.false in record {
      rest = λ w k. c.loop-next.invariant.rest w (subst (λ l. Contains l w) (sym more) (member_there v rest w k));
      passed = λ w k. elim (c.loop-next.invariant.passed w k) [
        | inl left ↦ elim (member_cases v rest w (subst (λ l. Contains l w) more left)) [
          | inl e ↦ inr (subst (λ u. Contains (marked_pairs c.args.log.now) (record { var = s.var; value = u }) → ⊥) e none)
          | inr later ↦ inl later
        ]
        | inr free ↦ inr free
      ];
    }

pub returns : goal.returns
returns c found =
    let row = c.in-Some.row.now in
    let n = c.args.number in
    let s = c.args.span.now in
    none_passed c.args.rows.now n s (marked_pairs c.args.log.now)
    (λ v m. elim (c.loop-next.invariant.passed v (subst (λ l. Contains l v) (span_row c.args.rows.now row n s c.in-Some.ensures) m)) [
      | inl left ↦ absurd (member_nil v (subst (λ l. Contains l v) c.in_default-next_before.ensures.none left))
      | inr free ↦ free
    ]) found.0 found.1 found.2
