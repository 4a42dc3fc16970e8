use Rattle.std.proofs.Common.{◌+◌, length, Contains, inl, inr, sym, ap, subst, arith}
use Rattle.palm_base.proofs.cited.Members.{member_cases, member_here, member_nil, member_there}
use Rattle.palm_domain.specs.Rows.{IsPresent}
use Rattle.palm_explain.specs.Rows.{rest_in}
use Rattle.palm_explain.proofs.MarkedSpans.{next_left}
use Rattle.palm_explain.proofs.losing.has_present.Goals as goal

pub loop-next-init : goal.loop-next-init
loop-next-init c =
    let all = c.first_from-place.ensures c.args.number c.args.span.now.high in record {
      rest = λ v m. subst (λ l. Contains l v) all m;
      passed = λ v m. inl (subst (λ l. Contains l v) (sym all) m);
    }

pub returns-then-contains : goal.returns-then-contains
returns-then-contains c =
    let row = c.args.row.now in
    let n = c.args.number in
    let s = c.args.span.now in
    let v = c.numbered.result.0 in
    let rest = rest_in row n s.high (c.in-Some.next + 1) in
    let more = next_left row.values.items rest (rest_in row n s.high c.loop-next.place) c.in-Some.next v c.numbered.ensures.value c.in-Some.ensures.some.1 in
    (v, c.loop-next.invariant.rest v (subst (λ l. Contains l v) (sym more) (member_here v rest)), c.if-contains.ensures)

pub loop-next-smaller : goal.loop-next-smaller
loop-next-smaller c =
    let row = c.args.row.now in
    let n = c.args.number in
    let s = c.args.span.now in
    let v = c.numbered.result.0 in
    let rest = rest_in row n s.high (c.in-Some.next + 1) in
    let more = ap length (next_left row.values.items rest (rest_in row n s.high c.loop-next.place) c.in-Some.next v c.numbered.ensures.value c.in-Some.ensures.some.1) in
    omega (arith, more)

pub loop-next-preserved : goal.loop-next-preserved
loop-next-preserved c =
    let row = c.args.row.now in
    let n = c.args.number in
    let s = c.args.span.now in
    let v = c.numbered.result.0 in
    let rest = rest_in row n s.high (c.in-Some.next + 1) in
    let more = next_left row.values.items rest (rest_in row n s.high c.loop-next.place) c.in-Some.next v c.numbered.ensures.value c.in-Some.ensures.some.1 in record {
      rest = λ w k. c.loop-next.invariant.rest w (subst (λ l. Contains l w) (sym more) (member_there v rest w k));
      passed = λ w k. elim (c.loop-next.invariant.passed w k) [
        | inl left ↦ elim (member_cases v rest w (subst (λ l. Contains l w) more left)) [
          | inl e ↦ inr (subst (λ u. IsPresent c.args.store.now s.var u → ⊥) e c.if-contains.ensures)
          | inr later ↦ inl later
        ]
        | inr free ↦ inr free
      ];
    }

pub returns : goal.returns
returns c found = elim (c.loop-next.invariant.passed found.0 found.1) [
  | inl left ↦ member_nil found.0 (subst (λ l. Contains l found.0) c.in_default.ensures.none left)
  | inr free ↦ free found.2
]
