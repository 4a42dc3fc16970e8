-- What a line lacks and what stands twice in it: whether that is so is known, and it is what is written that is lacking.
use Rattle.std.proofs.Common.{◌≡◌, ℕ, ℤ, pos, zero, suc, ◌<◌, Bool, true, false, Option, Some, None, List, [], ◌∷◌, length, get_or, map, refl, sym, ap, ◌∙◌, subst, arith, inl, inr, ◌⊎◌, unwrap_or, Contains}
use Rattle.std.specs.Prelude.{Any}
use Rattle.std.specs.Str.{bytes_eq}
use Rattle.std.proofs.lemmas.Bool.{false≢true}
use Rattle.std.proofs.lemmas.Int.{ints, by_lt_z}
use Rattle.std.proofs.lemmas.Slice.Eq.{bytes_eq-Decides}
use Rattle.palm_base.proofs.cited.Members.{int_known}
use Rattle.palm_read.specs.Domain.{set_of}
use Rattle.palm_read.specs.Linear.{TermForm, signed, term_of}
use Rattle.palm_read.specs.Limits.{HasNoValue, HasNothing, HasRepeat, Repeats, names_of}
use Rattle.palm_read.specs.declared.line.DomainText.{DomainText}
use Rattle.palm_read.specs.declared.line.DomainText.TheVariants.{Range, Set}
use Rattle.palm_read.specs.declared.line.Line.{Line}
use Rattle.palm_read.specs.declared.line.Line.TheVariants.{Var, VarIn, Add}
use Rattle.palm_read.specs.declared.line.NameTerm.{NameTerm}
use Rattle.palm_read.specs.declared.line.Shape.TheVariants.{Linear, Table, Element, Within}
use Rattle.palm_read.proofs.cited.KnownLimits.{known_either}
use Rattle.palm_read.proofs.cited.Sets.{contains_here, contains_there, contains_cases, member_set}

-- ---- nothing where something has to stand, as it is written

set_some : (v : ℤ) (vs : List ℤ) → set_of (v ∷ vs) ≡ [] → ⊥
set_some v vs e =
    let c = member_set (v ∷ vs) v (contains_here v vs) in
    absurd (omega (arith, c.1, ap length e))

pub empty_set : (vs : List ℤ) → set_of vs ≡ [] → vs ≡ []
empty_set [] e = refl
empty_set (v ∷ vs) e = absurd (set_some v vs e)

pub set_empty : (vs : List ℤ) → vs ≡ [] → set_of vs ≡ []
set_empty vs e = ap set_of e

zero_factor : (minus : Bool) (factor : Option ℕ) → signed minus (unwrap_or factor 1) ≡ pos 0 → factor ≡ Some 0
zero_factor false None e = absurd (omega (arith, ints, e))
zero_factor true None e = absurd (omega (arith, ints, e))
zero_factor false (Some n) e = let z : n ≡ 0 = omega (arith, ints, e) in ap Some z
zero_factor true (Some n) e = let z : n ≡ 0 = omega (arith, ints, e) in ap Some z

factor_zero : (minus : Bool) (factor : Option ℕ) → factor ≡ Some 0 → signed minus (unwrap_or factor 1) ≡ pos 0
factor_zero false factor e = rw e refl
factor_zero true factor e = rw e refl

pub any_there : {X : Type 0} (P : X → Type 0) (x : X) (xs : List X) → Any P xs → Any P (x ∷ xs)
any_there P x xs a = (suc a.0, a.1, omega (arith, a.2), a.3, a.4)

pub any_here : {X : Type 0} (P : X → Type 0) (x : X) (xs : List X) → P x → Any P (x ∷ xs)
any_here P x xs p = (0, x, omega arith, refl, p)

any_cases : {X : Type 0} (P : X → Type 0) (x : X) (xs : List X) → Any P (x ∷ xs) → P x ⊎ Any P xs
any_cases {X} P x xs a = go a.0 a.1 a.2 a.3 a.4
  where
    go : (k : ℕ) (y : X) → k < length (x ∷ xs) → get_or (x ∷ xs) k y ≡ y → P y → P x ⊎ Any P xs
    go zero y l e p = inl (subst P (sym e) p)
    go (suc k) y l e p = inr (k, y, omega arith, e, p)

any_none : {X : Type 0} (P : X → Type 0) → Any P [] → ⊥
any_none P a = absurd (omega (arith, a.2))

pub zeros_in : (ts : List TermForm) → Any (λ t. t.factor ≡ pos 0) (map term_of ts) → Any (λ t. t.factor ≡ Some 0) ts
zeros_in [] a = absurd (any_none (λ t. t.factor ≡ pos 0) a)
zeros_in (t ∷ ts) a =
    elim (any_cases (λ u. u.factor ≡ pos 0) (term_of t) (map term_of ts) a) [
      | inl e ↦ any_here (λ u. u.factor ≡ Some 0) t ts (zero_factor t.minus t.factor e)
      | inr more ↦ any_there (λ u. u.factor ≡ Some 0) t ts (zeros_in ts more)
    ]

pub in_zeros : (ts : List TermForm) → Any (λ t. t.factor ≡ Some 0) ts → Any (λ t. t.factor ≡ pos 0) (map term_of ts)
in_zeros [] a = absurd (any_none (λ t. t.factor ≡ Some 0) a)
in_zeros (t ∷ ts) a =
    elim (any_cases (λ u. u.factor ≡ Some 0) t ts a) [
      | inl e ↦ any_here (λ u. u.factor ≡ pos 0) (term_of t) (map term_of ts) (factor_zero t.minus t.factor e)
      | inr more ↦ any_there (λ u. u.factor ≡ pos 0) (term_of t) (map term_of ts) (in_zeros ts more)
    ]

pub term_names : (ts : List TermForm) → map (λ t. t.name) (map term_of ts) ≡ map (λ t. t.name) ts
term_names [] = refl
term_names (t ∷ ts) = ap (λ ns. t.name ∷ ns) (term_names ts)

-- ---- both are decided

nil_decided : {X : Type 0} (xs : List X) → (xs ≡ []) ⊎ (xs ≡ [] → ⊥)
nil_decided [] = inl refl
nil_decided (x ∷ xs) = inr (λ e. cc)

zeros_decided : (ts : List NameTerm) → Any (λ t. t.factor ≡ pos 0) ts ⊎ (Any (λ t. t.factor ≡ pos 0) ts → ⊥)
zeros_decided [] = inr (any_none (λ t. t.factor ≡ pos 0))
zeros_decided (t ∷ ts) =
    elim (int_known t.factor (pos 0)) [
      | inl e ↦ inl (any_here (λ u. u.factor ≡ pos 0) t ts e)
      | inr ne ↦ elim (zeros_decided ts) [
        | inl a ↦ inl (any_there (λ u. u.factor ≡ pos 0) t ts a)
        | inr none ↦ inr (λ a. elim (any_cases (λ u. u.factor ≡ pos 0) t ts a) [ inl e ↦ ne e | inr more ↦ none more ])
      ]
    ]

no_value_decided : (domain : DomainText) → HasNoValue domain ⊎ (HasNoValue domain → ⊥)
no_value_decided (Range low high) = by_lt_z high low (λ l. inl l) (λ l. inr (λ h. absurd (omega (arith, ints, l, h))))
no_value_decided (Set values) = nil_decided values

pub nothing_decided : (line : Line) → HasNothing line ⊎ (HasNothing line → ⊥)
nothing_decided (Var name domain) = no_value_decided domain
nothing_decided (VarIn name universe domain) = known_either (no_value_decided universe) (no_value_decided domain)
nothing_decided (Add name (Linear terms op bound)) = zeros_decided terms
nothing_decided (Add name (Table vars rows)) = nil_decided rows
nothing_decided (Add name (Element outcome index entries)) = nil_decided entries
nothing_decided (Add name (Within var domain)) = no_value_decided domain
nothing_decided _ = inr (λ h. h)

contains_decided : (w : List ℕ) (ws : List (List ℕ)) → Contains ws w ⊎ (Contains ws w → ⊥)
contains_decided w [] = inr (λ c. absurd (omega (arith, c.1)))
contains_decided w (v ∷ vs) = go (bytes_eq v w) refl (contains_decided w vs)
  where
    go : (b : Bool) → bytes_eq v w ≡ b → Contains vs w ⊎ (Contains vs w → ⊥) → Contains (v ∷ vs) w ⊎ (Contains (v ∷ vs) w → ⊥)
    go true e rest = let same : v ≡ w = (bytes_eq-Decides v w).0 e in inl (subst (Contains (v ∷ vs)) same (contains_here v vs))
    go false e (inl c) = inl (contains_there v w vs c)
    go false e (inr none) = inr (λ c. elim (contains_cases v w vs c) [ inl same ↦ false≢true (sym e ∙ (bytes_eq-Decides v w).1 same) | inr d ↦ none d ])

repeats_decided : (ws : List (List ℕ)) → Repeats ws ⊎ (Repeats ws → ⊥)
repeats_decided [] = inr (λ r. r)
repeats_decided (w ∷ ws) =
    elim (contains_decided w ws) [
      | inl c ↦ inl (inl c)
      | inr none ↦ elim (repeats_decided ws) [
        | inl r ↦ inl (inr r)
        | inr apart ↦ inr (λ r. elim r [ inl c ↦ none c | inr more ↦ apart more ])
      ]
    ]

pub repeat_decided : (line : Line) → HasRepeat line ⊎ (HasRepeat line → ⊥)
repeat_decided (Add name shape) = repeats_decided (names_of shape)
repeat_decided _ = inr (λ h. h)
