-- Support by a difference, and its reason as it is written.
use Rattle.std.proofs.Common.{◌≡◌, ℕ, ℤ, suc, ◌+◌, ◌<◌, ◌<ℤ◌, Bool, true, false, not, ◌&&◌, cond, List, [], ◌∷◌, length, take, drop, filter, get_or, All, Contains, eqb, int_eq, inl, inr, refl, sym, ap, ◌∙◌, subst, arith}
use Rattle.std.proofs.Math.Seq.{drop-cons}
use Rattle.std.proofs.lemmas.Bool.{cases_Bool}
use Rattle.std.proofs.lemmas.Int.{ints}
use Rattle.std.proofs.lemmas.List.Elements.{All-contains}
use Rattle.palm_base.proofs.cited.Members.{member_here, member_there, member_take, filter_member}
use Rattle.palm_base.specs.declared.terms.Pair.{Pair}
use Rattle.palm_domain.proofs.cited.Comparisons.{same_from_int_eq, apart_from_int_eq}
use Rattle.palm_model.specs.Constraint.{scope, Distinct, IsWellFormed}
use Rattle.palm_model.specs.Domains.{Domains, Ascends, Has, values_of}
use Rattle.palm_model.specs.Part.{scope_of}
use Rattle.palm_model.specs.Differ.{differ_reason}
use Rattle.palm_model.specs.Support.{HasSupport, IsSupported, LacksSupport}
use Rattle.palm_model.specs.Removed.{is_alone, others}
use Rattle.palm_model.specs.Reason.{reason}
use Rattle.palm_model.specs.declared.constraint.Con.{Con}
use Rattle.palm_model.specs.declared.constraint.Con.TheVariants.{Differ}
use Rattle.palm_model.proofs.cited.Reasons.{others_member}
use Rattle.palm_reason.proofs.cited.DifferReason.{part_apart, partner, partner_member, room_lacks}
use Rattle.filter_differ.specs.Differ.{HasOther, LeavesRoom, TakesRoom, is_lone, first_lone}

-- ---- another value of a domain

-- two values of a domain differ, so that one of them is another one
pub other_many : (vs : List ℤ) (v : ℤ) → Ascends vs → 1 < length vs → HasOther vs v
other_many [] v up lt = absurd (omega (arith, lt))
other_many (w ∷ []) v up lt = absurd (omega (arith, lt))
other_many (w ∷ u ∷ ws) v up lt =
    let above = All-contains (λ z. w <ℤ z) (u ∷ ws) u up.0 (member_here u ws) in
    elim (cases_Bool (int_eq w v)) [
      | inr e ↦ record { value = w; member = member_here w (u ∷ ws); apart = apart_from_int_eq w v e }
      | inl e ↦ record { value = u; member = member_there w (u ∷ ws) u (member_here u ws); apart = λ s. omega (arith, ints, above, same_from_int_eq w v e, s) }
    ]

-- ---- support

module _ (d : Domains) (x : ℕ) (v : ℤ) (has : Has d x v) where
  pub room_supports : (vars : List ℕ) → Distinct vars → All (LeavesRoom d x v) vars → IsSupported d (Differ vars) x v
  room_supports vars distinct room = record {
    each = λ p m over.
        let r = part_apart vars p distinct m in
        let q = partner d x v has r.0 r.1 r.4 (subst (λ s. Contains (scope_of s) x) (sym r.5) over) in
        let inside = partner_member d x v has vars r.0 r.1 q.0 r.2 r.3 q.1 in
        subst (λ s. HasSupport d s x v) r.5 (q.3 ((All-contains (LeavesRoom d x v) vars q.0 room inside).other q.2));
  }

-- ---- the first variable that has the value alone

module _ (present : Domains) (x : ℕ) (v : ℤ) where
  lone_here : (y : ℕ) (ys : List ℕ) → is_lone present x v y ≡ true → first_lone present (y ∷ ys) x v ≡ y ∷ []
  lone_here y ys t = by (eqb y x) (is_alone (values_of present y) v) refl refl t
    where
      by : (b c : Bool) → eqb y x ≡ b → is_alone (values_of present y) v ≡ c → (not b && c) ≡ true → first_lone present (y ∷ ys) x v ≡ y ∷ []
      by true c e f t = cc
      by false false e f t = cc
      by false true e f t =
          ap (λ b. take 1 (filter (λ z. is_alone (values_of present z) v) (cond (not b) (y ∷ others ys x) (others ys x)))) e
          ∙ ap (λ b. take 1 (cond b (y ∷ filter (λ z. is_alone (values_of present z) v) (others ys x)) (filter (λ z. is_alone (values_of present z) v) (others ys x)))) f

  lone_later : (y : ℕ) (ys : List ℕ) → is_lone present x v y ≡ false → first_lone present (y ∷ ys) x v ≡ first_lone present ys x v
  lone_later y ys t = by (eqb y x) (is_alone (values_of present y) v) refl refl t
    where
      by : (b c : Bool) → eqb y x ≡ b → is_alone (values_of present y) v ≡ c → (not b && c) ≡ false → first_lone present (y ∷ ys) x v ≡ first_lone present ys x v
      by true c e f t = ap (λ b. take 1 (filter (λ z. is_alone (values_of present z) v) (cond (not b) (y ∷ others ys x) (others ys x)))) e
      by false true e f t = cc
      by false false e f t =
          ap (λ b. take 1 (filter (λ z. is_alone (values_of present z) v) (cond (not b) (y ∷ others ys x) (others ys x)))) e
          ∙ ap (λ b. take 1 (cond b (y ∷ filter (λ z. is_alone (values_of present z) v) (others ys x)) (filter (λ z. is_alone (values_of present z) v) (others ys x)))) f

  module _ (vars : List ℕ) (i y : ℕ) (lt : i < length vars) (at : y ≡ get_or vars i y) (so_far : first_lone present vars x v ≡ first_lone present (drop i vars) x v) where
    remaining : drop i vars ≡ y ∷ drop (i + 1) vars
    remaining = let e : suc i ≡ i + 1 = omega arith in drop-cons vars i y lt ∙ ap (λ z. z ∷ drop (suc i) vars) (sym at) ∙ ap (λ n. y ∷ drop n vars) e

    pub first_here : is_lone present x v y ≡ true → first_lone present vars x v ≡ y ∷ []
    first_here t = so_far ∙ ap (λ ys. first_lone present ys x v) remaining ∙ lone_here y (drop (i + 1) vars) t

    pub first_later : is_lone present x v y ≡ false → first_lone present vars x v ≡ first_lone present (drop (i + 1) vars) x v
    first_later t = so_far ∙ ap (λ ys. first_lone present ys x v) remaining ∙ lone_later y (drop (i + 1) vars) t

-- the first one is one of the variables
pub lone_declared : (present : Domains) (vars : List ℕ) (x : ℕ) (v : ℤ) (n y : ℕ) → All (λ z. z < n) vars → first_lone present vars x v ≡ y ∷ [] → y < n
lone_declared present vars x v n y declared e =
    let lone = filter (λ z. is_alone (values_of present z) v) (others vars x) in
    let m : Contains (take 1 lone) y = subst (λ ys. Contains ys y) (sym e) (member_here y []) in
    All-contains (λ z. z < n) vars y declared (others_member vars x y (filter_member (λ z. is_alone (values_of present z) v) (others vars x) y (member_take 1 lone y m)).0).0

-- ---- what the filter answers

module _ (vars : List ℕ) (m : Con) (is : Differ vars ≡ m) (n : ℕ) (formed : IsWellFormed n m) (x : ℕ) (v : ℤ) where
  distinct : Distinct vars
  distinct = (subst (IsWellFormed n) (sym is) formed).distinct

  pub answers_supported : (d : Domains) → Has d x v → All (LeavesRoom d x v) vars → IsSupported d m x v
  answers_supported d has room = subst (λ k. IsSupported d k x v) is (room_supports d x v has vars distinct room)

  pub answers_lacking : (d : Domains) → Contains (scope m) x → TakesRoom d vars x v → LacksSupport d m x v
  answers_lacking d over t = subst (λ k. LacksSupport d k x v) is (room_lacks d x v vars (subst (λ k. Contains (scope k) x) (sym is) over) t)

  pub gives_reason : (initial present : Domains) (out : List Pair) → out ≡ differ_reason initial present vars x v → out ≡ reason initial present m x v
  gives_reason initial present out e = e ∙ ap (λ k. reason initial present k x v) is
