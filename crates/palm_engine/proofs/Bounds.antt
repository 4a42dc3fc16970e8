-- The values of a variable below a bound, and those from it on: how a walk over the present values covers the declared ones.
use Rattle.std.proofs.Common.{◌≡◌, ℕ, ◌+◌, ℤ, pos, ◌+ℤ◌, ◌<◌, ◌<ℤ◌, ◌≤ℤ◌, not, Option, Some, None, IfSome, List, [], ◌∷◌, ◌++◌, length, Contains, inl, inr, sym, ap, ◌∙◌, subst, arith, int_lt}
use Rattle.std.proofs.lemmas.Int.{ints}
use Rattle.std.proofs.lemmas.Bool.{cases_Bool, not-true}
use Rattle.std.proofs.lemmas.List.{map-append}
use Rattle.std.proofs.lemmas.List.Elements.{Contains-append_cases, Contains-append_left, Contains-append_right}
use Rattle.palm_base.specs.declared.terms.Pair.{Pair}
use Rattle.palm_base.proofs.cited.Members.{member_nil, member_here, member_there, member_single, member_same, member_unmap, filter_member, member_filter}
use Rattle.palm_model.specs.Domains.{Ascends, Has, values_of}
use Rattle.palm_model.specs.Removed.{pairs_of}
use Rattle.palm_model.specs.Log.{Active}
use Rattle.palm_model.specs.State.{EngineState, present}
use Rattle.palm_model.proofs.cited.Ascending.{ascends_filter}
use Rattle.palm_model.proofs.cited.Without.{pair_of}
use Rattle.palm_domain.specs.Rows.{IsLeastOf}
use Rattle.palm_domain.proofs.cited.Ascending.{Ascends-cons, first_below, same_ascending}
use Rattle.palm_domain.proofs.cited.Comparisons.{lt_from_int_lt, ge_from_int_lt, int_lt_from_lt, int_lt_from_ge}
use Rattle.palm_model.specs.Support.{IsSupported}
pub use Rattle.palm_engine.specs.Advancing.{IsNextAt}
pub use Rattle.palm_engine.specs.Advancing.{IsBefore, values_below, values_from, values_before}
use Rattle.palm_engine.specs.Settling.{Walks}
use Rattle.palm_engine.proofs.Counting.{length_filter_lt}
use Rattle.palm_engine.proofs.Joined.{walk_then, walk_then_none, walk_past}

-- how many values are left from the next one on
abbrev pub left_from : Option ℤ → List ℤ → ℕ
left_from (Some v) vs = length (values_from v vs)
left_from None vs = 0

-- ---- members

pub below_of : (low : ℤ) (vs : List ℤ) (v : ℤ) → Contains (values_below low vs) v → Contains vs v × (v <ℤ low)
below_of low vs v m = let r = filter_member (λ w. int_lt w low) vs v m in (r.0, lt_from_int_lt v low r.1)

pub member_below : (low : ℤ) (vs : List ℤ) (v : ℤ) → Contains vs v → v <ℤ low → Contains (values_below low vs) v
member_below low vs v m lt = member_filter (λ w. int_lt w low) vs v m (int_lt_from_lt v low lt)

pub from_of : (low : ℤ) (vs : List ℤ) (v : ℤ) → Contains (values_from low vs) v → Contains vs v × (low ≤ℤ v)
from_of low vs v m = let r = filter_member (λ w. not (int_lt w low)) vs v m in (r.0, ge_from_int_lt v low (not-true (int_lt v low) r.1))

pub member_from : (low : ℤ) (vs : List ℤ) (v : ℤ) → Contains vs v → low ≤ℤ v → Contains (values_from low vs) v
member_from low vs v m le = member_filter (λ w. not (int_lt w low)) vs v m (ap not (int_lt_from_ge v low le))

-- ---- lists

pub ascends_both : (xs ys : List ℤ) → Ascends xs → Ascends ys → ((x y : ℤ) → Contains xs x → Contains ys y → x <ℤ y) → Ascends (xs ++ ys)
ascends_both [] ys a b below = b
ascends_both (x ∷ xs) ys a b below =
    Ascends-cons x (xs ++ ys) (λ v m. elim (Contains-append_cases xs ys v m) [
      | inl n ↦ first_below x xs a v n
      | inr n ↦ below x v (member_here x xs) n
    ]) (ascends_both xs ys a.1 b (λ y z m n. below y z (member_there x xs y m) n))

-- the values between two bounds
abbrev pub values_between : ℤ → ℤ → List ℤ → List ℤ
values_between low high vs = values_below high (values_from low vs)

-- those below the lower bound and those between are those below the higher one
pub below_between : (low high : ℤ) (vs : List ℤ) → Ascends vs → low ≤ℤ high → values_below low vs ++ values_between low high vs ≡ values_below high vs
below_between low high vs a le =
    let first = values_below low vs in
    let second = values_between low high vs in
    same_ascending (first ++ second) (values_below high vs)
    (ascends_both first second (ascends_filter (λ v. int_lt v low) vs a) (ascends_filter (λ v. int_lt v high) (values_from low vs) (ascends_filter (λ v. not (int_lt v low)) vs a))
    (λ x y m n.
    let lt = (below_of low vs x m).1 in
    let ge = (from_of low vs y (below_of high (values_from low vs) y n).0).1 in
    omega (arith, ints, lt, ge)))
    (ascends_filter (λ v. int_lt v high) vs a)
    (λ v m. elim (Contains-append_cases first second v m) [
      | inl n ↦ let r = below_of low vs v n in let lt = r.1 in member_below high vs v r.0 (omega (arith, ints, lt, le))
      | inr n ↦ let r = below_of high (values_from low vs) v n in member_below high vs v (from_of low vs v r.0).0 r.1
    ])
    (λ v m. let r = below_of high vs v m in elim (cases_Bool (int_lt v low)) [
      | inl t ↦ Contains-append_left first second v (member_filter (λ w. int_lt w low) vs v r.0 t)
      | inr f ↦ Contains-append_right first second v (member_below high (values_from low vs) v (member_from low vs v r.0 (ge_from_int_lt v low f)) r.1)
    ])

-- those below the bound and those from it on are all
pub below_from : (low : ℤ) (vs : List ℤ) → Ascends vs → values_below low vs ++ values_from low vs ≡ vs
below_from low vs a =
    let first = values_below low vs in
    let second = values_from low vs in
    same_ascending (first ++ second) vs
    (ascends_both first second (ascends_filter (λ v. int_lt v low) vs a) (ascends_filter (λ v. not (int_lt v low)) vs a)
    (λ x y m n.
    let lt = (below_of low vs x m).1 in
    let ge = (from_of low vs y n).1 in
    omega (arith, ints, lt, ge)))
    a
    (λ v m. elim (Contains-append_cases first second v m) [
      | inl n ↦ (below_of low vs v n).0
      | inr n ↦ (from_of low vs v n).0
    ])
    (λ v m. elim (cases_Bool (int_lt v low)) [
      | inl t ↦ Contains-append_left first second v (member_filter (λ w. int_lt w low) vs v m t)
      | inr f ↦ Contains-append_right first second v (member_from low vs v m (ge_from_int_lt v low f))
    ])

-- between a value and the number after it is the value alone
pub between_one : (v : ℤ) (vs : List ℤ) → Ascends vs → Contains vs v → values_between v (v +ℤ pos 1) vs ≡ v ∷ []
between_one v vs a has =
    let high = v +ℤ pos 1 in
    same_ascending (values_between v high vs) (v ∷ [])
    (ascends_filter (λ w. int_lt w high) (values_from v vs) (ascends_filter (λ w. not (int_lt w v)) vs a))
    (Ascends-cons v [] (λ w m. absurd (member_nil w m)) tt)
    (λ w m.
    let r = below_of high (values_from v vs) w m in
    let lt = r.1 in
    let ge = (from_of v vs w r.0).1 in
    let e : v ≡ w = omega (arith, ints, lt, ge) in
    member_same (v ∷ []) v w e (member_here v []))
    (λ w m.
    let e = member_single v w m in
    member_below high (values_from v vs) w (member_from v vs w (member_same vs v w e has) (omega (arith, ints, e))) (omega (arith, ints, e)))

-- ---- walks over the values of one variable

pub pairs_both : (x : ℕ) (vs ws : List ℤ) → pairs_of x (vs ++ ws) ≡ pairs_of x vs ++ pairs_of x ws
pairs_both x vs ws = map-append (λ v. pair_of x v) vs ws

-- values that are not present are passed
pub absent_past : (a : Active) (x : ℕ) (vs : List ℤ) (s : EngineState) → ((v : ℤ) → Contains vs v → Has (present s) x v → ⊥) → Walks a (pairs_of x vs) s 0 s
absent_past a x vs s absent = walk_past a (pairs_of x vs) s (λ p m has.
    let r = member_unmap (λ v. pair_of x v) vs p m in
    absurd (absent r.0 r.1 (subst (λ (q : Pair). Has (present s) q.var q.value) (sym r.2) has)))

-- and those that have support
pub supported_past : (a : Active) (x : ℕ) (vs : List ℤ) (s : EngineState) → ((v : ℤ) → Contains vs v → Has (present s) x v → IsSupported (present s) a.con x v) → Walks a (pairs_of x vs) s 0 s
supported_past a x vs s supported = walk_past a (pairs_of x vs) s (λ p m has.
    let r = member_unmap (λ v. pair_of x v) vs p m in
    subst (λ (q : Pair). IsSupported (present s) a.con q.var q.value) r.2 (supported r.0 r.1 (subst (λ (q : Pair). Has (present s) q.var q.value) (sym r.2) has)))

-- a walk over the values below the bound goes on to the next present one
pub walk_next : (a : Active) (x : ℕ) (s : EngineState) (n : ℕ) (t : EngineState) (vs : List ℤ) (low : ℤ) (next : Option ℤ) → Ascends vs
    → Walks a (pairs_of x (values_below low vs)) s n t → IsNextAt next (values_of (present t) x) low → Walks a (pairs_of x (values_before next vs)) s n t
walk_next a x s n t vs low (Some v) ascends walk next =
    let rest = absent_past a x (values_between low v vs) t (λ w m has.
    let r = below_of v (values_from low vs) w m in
    let lt = r.1 in
    let ge = next.least w has (from_of low vs w r.0).1 in
    absurd (omega (arith, ints, lt, ge))) in
    let both = walk_then_none a (pairs_of x (values_below low vs)) s n t (pairs_of x (values_between low v vs)) walk rest in
    subst (λ ps. Walks a ps s n t) (sym (pairs_both x (values_below low vs) (values_between low v vs)) ∙ ap (pairs_of x) (below_between low v vs ascends next.from)) both
walk_next a x s n t vs low None ascends walk none =
    let rest = absent_past a x (values_from low vs) t (λ w m has.
    let lt = none w has in
    let ge = (from_of low vs w m).1 in
    absurd (omega (arith, ints, lt, ge))) in
    let both = walk_then_none a (pairs_of x (values_below low vs)) s n t (pairs_of x (values_from low vs)) walk rest in
    subst (λ ps. Walks a ps s n t) (sym (pairs_both x (values_below low vs) (values_from low vs)) ∙ ap (pairs_of x) (below_from low vs ascends)) both

-- and to any later one where those between have support
pub walk_on : (a : Active) (x : ℕ) (s : EngineState) (n : ℕ) (t : EngineState) (vs : List ℤ) (low : ℤ) (next : Option ℤ) → Ascends vs → IfSome next (λ v. low ≤ℤ v)
    → Walks a (pairs_of x (values_below low vs)) s n t → ((v : ℤ) → low ≤ℤ v → IsBefore next v → Has (present t) x v → IsSupported (present t) a.con x v)
    → Walks a (pairs_of x (values_before next vs)) s n t
walk_on a x s n t vs low (Some v) ascends le walk supported =
    let rest = supported_past a x (values_between low v vs) t (λ w m has.
    let r = below_of v (values_from low vs) w m in
    supported w (from_of low vs w r.0).1 r.1 has) in
    let both = walk_then_none a (pairs_of x (values_below low vs)) s n t (pairs_of x (values_between low v vs)) walk rest in
    subst (λ ps. Walks a ps s n t) (sym (pairs_both x (values_below low vs) (values_between low v vs)) ∙ ap (pairs_of x) (below_between low v vs ascends le)) both
walk_on a x s n t vs low None ascends le walk supported =
    let rest = supported_past a x (values_from low vs) t (λ w m has. supported w (from_of low vs w m).1 tt has) in
    let both = walk_then_none a (pairs_of x (values_below low vs)) s n t (pairs_of x (values_from low vs)) walk rest in
    subst (λ ps. Walks a ps s n t) (sym (pairs_both x (values_below low vs) (values_from low vs)) ∙ ap (pairs_of x) (below_from low vs ascends)) both

-- at the least present value nothing was walked over but values that are not present
pub walk_least : (a : Active) (x : ℕ) (s : EngineState) (vs : List ℤ) (v : ℤ) → IsLeastOf (values_of (present s) x) v → Walks a (pairs_of x (values_below v vs)) s 0 s
walk_least a x s vs v least = absent_past a x (values_below v vs) s (λ w m has.
    let lt = (below_of v vs w m).1 in
    let ge = least.least w has in
    absurd (omega (arith, ints, lt, ge)))

-- one value more
pub walk_value : (a : Active) (x : ℕ) (s : EngineState) (n : ℕ) (m : EngineState) (k : ℕ) (t : EngineState) (vs : List ℤ) (v : ℤ) → Ascends vs → Contains vs v
    → Walks a (pairs_of x (values_below v vs)) s n m → Walks a (pair_of x v ∷ []) m k t → Walks a (pairs_of x (values_below (v +ℤ pos 1) vs)) s (n + k) t
walk_value a x s n m k t vs v ascends has walk one =
    let both = walk_then a (pairs_of x (values_below v vs)) s n m (pair_of x v ∷ []) k t walk one in
    let e = ap (λ ws. values_below v vs ++ ws) (sym (between_one v vs ascends has)) ∙ below_between v (v +ℤ pos 1) vs ascends (omega (arith, ints)) in
    subst (λ ps. Walks a ps s (n + k) t) (sym (pairs_both x (values_below v vs) (v ∷ [])) ∙ ap (pairs_of x) e) both

-- ---- how many are left

-- from the next value on fewer are left
pub fewer_left : (vs : List ℤ) (v : ℤ) (next : Option ℤ) (now : List ℤ) → Contains vs v → IsNextAt next now (v +ℤ pos 1) → left_from next vs < left_from (Some v) vs
fewer_left vs v (Some w) now has next =
    let from = next.from in
    length_filter_lt (λ u. not (int_lt u w)) (λ u. not (int_lt u v)) vs v
    (λ u t. let ge = ge_from_int_lt u w (not-true (int_lt u w) t) in ap not (int_lt_from_ge u v (omega (arith, ints, ge, from))))
    has (ap not (int_lt_from_ge v v (omega (arith, ints)))) (ap not (int_lt_from_lt v w (omega (arith, ints, from))))
fewer_left vs v None now has none = let m = member_from v vs v has (omega (arith, ints)) in omega (arith, m.1)
