-- The domain of ascending values: it has these values, and is sound and not large where they are. Its text, by the test.
use Rattle.std.proofs.Common.{◌≡◌, ℕ, suc, ℤ, pos, ◌+◌, ◌-◌, ◌+ℤ◌, ◌-ℤ◌, ◌<◌, ◌≤◌, Bool, true, false, ◌&&◌, cond, List, [], ◌∷◌, length, get_or, All, refl, ap, ◌∙◌, subst, arith, int_eq}
use Rattle.std.proofs.lemmas.Bool.{false≢true}
use Rattle.std.proofs.lemmas.Bool.Decides.{Decides-int_eq}
use Rattle.std.proofs.lemmas.Int.{ints}
use Rattle.std.proofs.lemmas.List.Elements.{All-head, All-tail}
use Rattle.palm_base.specs.Ascending.{Ascends}
use Rattle.palm_model.specs.Limits.{IsValue}
use Rattle.palm_read.specs.Domain.{IsLarge, IsSoundDomain, count_in, from_on, range_text, set_text, values_in}
use Rattle.palm_read.specs.Interval.{domain_with, is_interval, last_of, values_text}
use Rattle.palm_read.specs.declared.line.DomainText.{DomainText}
use Rattle.palm_read.specs.declared.line.DomainText.TheVariants.{Range, Set}

-- ---- values that are all from the first to the last

both : (s t : Bool) → (s && t) ≡ true → (s ≡ true) × (t ≡ true)
both true t e = (refl, e)
both false t e = absurd (false≢true e)

pub next_value : (v w : ℤ) (ws : List ℤ) → is_interval (v ∷ w ∷ ws) ≡ true → (w ≡ v +ℤ pos 1) × (is_interval (w ∷ ws) ≡ true)
next_value v w ws e =
    let h = both (int_eq w (v +ℤ pos 1)) (is_interval (w ∷ ws)) e in
    ((Decides-int_eq w (v +ℤ pos 1)).0 h.0, h.1)

all_between : (v : ℤ) (vs : List ℤ) → is_interval (v ∷ vs) ≡ true → from_on v (suc (length vs)) ≡ v ∷ vs
all_between v [] e = refl
all_between v (w ∷ ws) e =
    let h = next_value v w ws e in
    ap (λ (zs : List ℤ). v ∷ zs) (subst (λ (z : ℤ). from_on z (suc (length ws)) ≡ w ∷ ws) h.0 (all_between w ws h.1))

last_value : (v : ℤ) (vs : List ℤ) → is_interval (v ∷ vs) ≡ true → last_of v vs ≡ v +ℤ pos (length vs)
last_value v [] e = omega (arith, ints)
last_value v (w ∷ ws) e =
    let h = next_value v w ws e in
    omega (arith, ints, last_value w ws h.1, h.0)

last_is : (P : ℤ → Type 0) (v : ℤ) (vs : List ℤ) → All P (v ∷ vs) → P (last_of v vs)
last_is P v [] h = All-head P v [] h
last_is P v (w ∷ ws) h = last_is P w ws (All-tail P v (w ∷ ws) h)

range_values : (v : ℤ) (vs : List ℤ) → is_interval (v ∷ vs) ≡ true → values_in (Range v (last_of v vs)) ≡ v ∷ vs
range_values v vs e =
    let far : last_of v vs -ℤ v ≡ pos (length vs) = omega (arith, ints, last_value v vs e) in
    let few : count_in (last_of v vs -ℤ v) + 1 ≡ suc (length vs) = omega (arith, ap count_in far) in
    ap (λ (n : ℕ). from_on v n) few ∙ all_between v vs e

-- ---- their domain

-- what holds of the range where they are an interval, and of the set, holds of their domain
by_test : (P : DomainText → Type 0) (v : ℤ) (vs : List ℤ) → (is_interval (v ∷ vs) ≡ true → P (Range v (last_of v vs))) → P (Set (v ∷ vs)) → P (domain_with (v ∷ vs))
by_test P v vs range set = go (is_interval (v ∷ vs)) refl
  where
    go : (b : Bool) → is_interval (v ∷ vs) ≡ b → P (cond b (Range v (last_of v vs)) (Set (v ∷ vs)))
    go true e = range e
    go false e = set

pub values_with : (values : List ℤ) → values_in (domain_with values) ≡ values
values_with [] = refl
values_with (v ∷ vs) = by_test (λ d. values_in d ≡ v ∷ vs) v vs (range_values v vs) refl

pub sound_with : (values : List ℤ) → 0 < length values → Ascends values → All IsValue values → IsSoundDomain (domain_with values)
sound_with [] some up each = absurd (omega (arith, some))
sound_with (v ∷ vs) some up each =
    by_test IsSoundDomain v vs
    (λ e. let last = last_value v vs e in (All-head IsValue v vs each, last_is IsValue v vs each, omega (arith, ints, last)))
    (some, up, each)

pub small_with : (values : List ℤ) → length values ≤ 256 → IsLarge (domain_with values) → ⊥
small_with [] few = λ large. absurd (omega (arith, large))
small_with (v ∷ vs) few =
    by_test (λ d. IsLarge d → ⊥) v vs
    (λ e large. let last = last_value v vs e in absurd (omega (arith, ints, large, last, few)))
    (λ large. absurd (omega (arith, large, few)))

-- ---- their text

last_at : (v : ℤ) (vs : List ℤ) (d : ℤ) (k : ℕ) → k ≡ length vs → get_or (v ∷ vs) k d ≡ last_of v vs
last_at v [] d k e = rw e refl
last_at v (w ∷ ws) d k e = rw e (last_at w ws d (length ws) refl)

-- the text of an interval, by its ends
pub interval_text : (values : List ℤ) (first last : ℤ) → is_interval values ≡ true → first ≡ get_or values 0 first → last ≡ get_or values (length values - 1) last → range_text first last ≡ values_text values
interval_text [] first last tested is_first is_last = absurd (false≢true tested)
interval_text (v ∷ vs) first last tested is_first is_last =
    let ends : last ≡ last_of v vs = is_last ∙ last_at v vs last (length (v ∷ vs) - 1) (omega arith) in
    rw tested (ap (λ z. range_text z last) is_first ∙ ap (λ z. range_text v z) ends)

-- the text of other values
pub others_text : (values : List ℤ) → is_interval values ≡ false → set_text values ≡ values_text values
others_text [] tested = refl
others_text (v ∷ vs) tested = rw tested refl
