-- The greatest closed domains exist: values without support are taken out until there are none.
use Rattle.std.proofs.Common.{◌≡◌, ℕ, zero, suc, ◌+◌, ◌≤◌, List, flat_map, Contains, ℤ, ◌⊎◌, inl, inr, arith}
use Rattle.palm_base.proofs.cited.Members.{Known, member_place, any_known, all_known}
use Rattle.palm_model.specs.Domains.{Domains, Has, AllAscend, values_of}
use Rattle.palm_model.specs.Part.{scope_of, parts}
use Rattle.palm_model.specs.Support.{HasSupport}
use Rattle.palm_model.specs.Closure.{IsClosedFor, IsGreatest}
use Rattle.palm_model.specs.Trial.{IsClosedForAll, value_count, Narrows}
use Rattle.palm_model.specs.declared.constraint.Con.{Con}
use Rattle.palm_model.specs.declared.part.Part.{Part}
use Rattle.palm_model.proofs.cited.Trials.{support_known}
use Rattle.palm_model.proofs.cited.Narrowing.{IsLacking, removed_at, fewer_removed, narrows_removed, narrows_none, narrows_then, narrows_for, greatest_closed}
use Rattle.std.proofs.Common.{refl}

-- ---- some value lacks support, or none does

-- x has a value without support in the part
pub record Lacks (d : Domains) (p : Part) (x : ℕ) : Type 0 where
  pub value : ℤ
  pub has : Has d x value
  pub lacks : HasSupport d p x value → ⊥

lacks_known : (d : Domains) (p : Part) (x : ℕ) → Known (Lacks d p x)
lacks_known d p x = elim (all_known (λ v. HasSupport d p x v) (values_of d x) (λ v m. support_known d p x v)) [
  | inl each ↦ inr (λ l. l.lacks (each l.value l.has))
  | inr r ↦ inl (record { value = r.0; has = r.1; lacks = r.2 })
]

supported_unless : (d : Domains) (p : Part) (x : ℕ) (v : ℤ) → (Lacks d p x → ⊥) → Has d x v → HasSupport d p x v
supported_unless d p x v none has = elim (support_known d p x v) [
  | inl s ↦ s
  | inr n ↦ absurd (none (record { value = v; has = has; lacks = n }))
]

-- a variable of the part has a value without support in it
pub record PartLacks (d : Domains) (p : Part) : Type 0 where
  pub var : ℕ
  pub over : Contains (scope_of p) var
  pub lacks : Lacks d p var

part_lacks_known : (d : Domains) (p : Part) → Known (PartLacks d p)
part_lacks_known d p = elim (any_known (λ x. Lacks d p x) (scope_of p) (λ x m. lacks_known d p x)) [
  | inl r ↦ inl (record { var = r.0; over = r.1; lacks = r.2 })
  | inr none ↦ inr (λ l. none l.var l.over l.lacks)
]

closed_unless : (d : Domains) (p : Part) → (PartLacks d p → ⊥) → IsClosedFor p d
closed_unless d p none x v m has = supported_unless d p x v (λ l. none (record { var = x; over = m; lacks = l })) has

-- the domains are closed for all parts, or a part of them has a value without support
pub closed_or_lacking : (ps : List Part) (d : Domains) → ((p : Part) × Contains ps p × PartLacks d p) ⊎ IsClosedForAll ps d
closed_or_lacking ps d = elim (any_known (λ p. PartLacks d p) ps (λ p m. part_lacks_known d p)) [
  | inl r ↦ inl r
  | inr none ↦ inr (λ p m. closed_unless d p (none p m))
]

-- ---- one step, and all of them

-- a value without support in a part of the list was taken out
pub record IsStep (ps : List Part) (d e : Domains) : Type 0 where
  pub step : Narrows (IsClosedForAll ps) d e
  pub fewer : value_count e + 1 ≡ value_count d

step_by : (ps : List Part) (d : Domains) (p : Part) → Contains ps p → PartLacks d p → (e : Domains) × IsStep ps d e
step_by ps d p m l =
    let place = member_place (values_of d l.var) l.lacks.value l.lacks.has in
    let lacking : IsLacking d p l.var place.0 l.lacks.value = record { over = l.over; place = place.1; lacks = l.lacks.lacks } in
    let e = removed_at d l.var place.0 in (
      e,
      record {
        step = narrows_for (IsClosedFor p) (IsClosedForAll ps) d e (λ f closed. closed p m) (narrows_removed d p l.var place.0 l.lacks.value lacking);
        fewer = fewer_removed d p l.var place.0 l.lacks.value lacking;
      },
    )

-- what the steps lead to
pub record IsClosing (ps : List Part) (d e : Domains) : Type 0 where
  pub step : Narrows (IsClosedForAll ps) d e
  pub closed : IsClosedForAll ps e

closing_then : (ps : List Part) (d e f : Domains) → IsStep ps d e → IsClosing ps e f → IsClosing ps d f
closing_then ps d e f first rest = record { step = narrows_then (IsClosedForAll ps) d e f first.step rest.step; closed = rest.closed }

pub closing_exists : (n : ℕ) (ps : List Part) (d : Domains) → value_count d ≤ n → (e : Domains) × IsClosing ps d e
closing_exists zero ps d le = elim (closed_or_lacking ps d) [
  | inl r ↦ let s = step_by ps d r.0 r.1 r.2 in absurd (omega (arith, s.1.fewer))
  | inr closed ↦ (d, record { step = narrows_none (IsClosedForAll ps) d; closed = closed })
]
closing_exists (suc n) ps d le = elim (closed_or_lacking ps d) [
  | inl r ↦ let s = step_by ps d r.0 r.1 r.2 in
      let t = closing_exists n ps s.0 (omega (arith, s.1.fewer)) in
      (t.0, closing_then ps d s.0 t.0 s.1 t.1)
  | inr closed ↦ (d, record { step = narrows_none (IsClosedForAll ps) d; closed = closed })
]

pub greatest_exists : (initial : Domains) (cs : List Con) → AllAscend initial → (d : Domains) × IsGreatest initial (Contains cs) d
greatest_exists initial cs ascend =
    let ps = flat_map parts cs in
    let r = closing_exists (value_count initial) ps initial (omega arith) in
    (r.0, greatest_closed initial cs ps initial r.0 ascend refl refl r.1.step r.1.closed)
