-- Which constraints a lemma uses is known where each lemma names only lemmas before it, and the users of a lemma are one list.
use Rattle.std.proofs.Common.{◌≡◌, ℕ, zero, suc, ◌-◌, ◌<◌, ◌≤◌, Option, Some, None, List, [], ◌∷◌, ◌++◌, length, get_or, slice_get, All, Contains, ◌⊎◌, inl, inr, refl, sym, ap, ◌∙◌, subst, arith, length-append}
use Rattle.std.proofs.lemmas.Bool.{cases_lt}
use Rattle.std.proofs.lemmas.List.{get_or_append_left, get_or_push}
use Rattle.std.proofs.lemmas.List.Elements.{All-contains, All-weaker}
use Rattle.std.proofs.lemmas.Option.{get_or_from_slice_get, none-some, same_Some, slice_get_within}
use Rattle.palm_base.proofs.cited.Members.{Known, any_known, member_known, nat_known}
use Rattle.proof_text.specs.Users.{ArePicked, Uses, by_lemma, by_step}
use Rattle.proof_text.specs.declared.lemma.Lemma.{Lemma}

-- ---- the items that pass

pub picked_once : {A : Type 0} (Passes : A → Type 0) (items p q : List A) → ArePicked Passes items p → ArePicked Passes items q → p ≡ q
picked_once Passes [] p q a b = a ∙ sym b
picked_once Passes (item ∷ items) p q a b = elim a [
  | inl l ↦ elim b [
    | inl m ↦ l.1.1 ∙ ap (λ xs. item ∷ xs) (picked_once Passes items l.1.0 m.1.0 l.1.2 m.1.2) ∙ sym m.1.1
    | inr m ↦ absurd (m.0 l.0)
  ]
  | inr l ↦ elim b [ inl m ↦ absurd (l.0 m.0) | inr m ↦ picked_once Passes items p q l.1 m.1 ]
]

pub has_picked : {A : Type 0} (Passes : A → Type 0) (items : List A) → ((item : A) → Known (Passes item)) → (picked : List A) × ArePicked Passes items picked
has_picked Passes [] known = ([], refl)
has_picked Passes (item ∷ items) known =
    let rest = has_picked Passes items known in
    elim (known item) [
      | inl passes ↦ (item ∷ rest.0, inl (passes, (rest.0, refl, rest.1)))
      | inr fails ↦ (rest.0, inr (fails, rest.1))
    ]

-- ---- lemmas that name lemmas before them

-- a number counted from 1, of one of the first so many lemmas
abbrev pub IsUpTo : ℕ → ℕ → Type 0
IsUpTo most k = (0 < k) × (k ≤ most)

-- each lemma names only lemmas before it
abbrev pub AreEarlier : List Lemma → Type 0
AreEarlier lemmas = (place : ℕ) (d : Lemma) → place < length lemmas → All (IsUpTo place) (get_or lemmas place d).lemmas

pub none_earlier : AreEarlier []
none_earlier place d lt = absurd (omega (arith, lt))

pub up_to_more : (m n : ℕ) (ks : List ℕ) → m ≤ n → All (IsUpTo m) ks → All (IsUpTo n) ks
up_to_more m n ks more up = All-weaker (IsUpTo m) (IsUpTo n) (λ k h. (h.0, omega (arith, more, h.1))) ks up

pub earlier_more : (lemmas : List Lemma) (lemma : Lemma) → AreEarlier lemmas → All (IsUpTo (length lemmas)) lemma.lemmas → AreEarlier (lemmas ++ lemma ∷ [])
earlier_more lemmas lemma earlier up place d lt =
    let Are : Lemma → Type 0 = λ m. All (IsUpTo place) m.lemmas in
    elim (cases_lt place (length lemmas)) [
      | inl before ↦ subst Are (sym (get_or_append_left lemmas (lemma ∷ []) d place before)) (earlier place d before)
      | inr past ↦
          let last : length lemmas ≡ place = omega (arith, lt, past, length-append lemmas (lemma ∷ [])) in
          subst Are (sym (get_or_push lemmas lemma d place last)) (subst (λ (n : ℕ). All (IsUpTo n) lemma.lemmas) last up)
    ]

module _ (lemmas : List Lemma) (number : ℕ) where
  -- the lemma with the number k uses the constraint
  abbrev UsesThrough : ℕ → Type 0
  UsesThrough k = (earlier : Lemma) × (slice_get lemmas (k - 1) ≡ Some earlier) × Uses lemmas earlier number

  through_known : (k : ℕ) → ((earlier : Lemma) → slice_get lemmas (k - 1) ≡ Some earlier → Known (Uses lemmas earlier number)) → Known (UsesThrough k)
  through_known k known = go (slice_get lemmas (k - 1)) refl
    where
      go : (o : Option Lemma) → slice_get lemmas (k - 1) ≡ o → Known (UsesThrough k)
      go None e = inr (λ h. none-some h.0 (sym e ∙ h.1))
      go (Some earlier) e = elim (known earlier e) [
        | inl uses ↦ inl (earlier, e, uses)
        | inr none ↦ inr (λ h. none (subst (λ (m : Lemma). Uses lemmas m number) (sym (same_Some earlier h.0 (sym e ∙ h.1))) h.2))
      ]

pub uses_cases : (lemmas : List Lemma) (lemma : Lemma) (number : ℕ) → Uses lemmas lemma number → Contains lemma.constraints number ⊎ ((k : ℕ) × Contains lemma.lemmas k × UsesThrough lemmas number k)
uses_cases lemmas _ _ (by_step lemma number m) = inl m
uses_cases lemmas _ _ (by_lemma lemma earlier k number m at uses) = inr (k, m, (earlier, at, uses))

by_parts : (lemmas : List Lemma) (lemma : Lemma) (number : ℕ) → ((k : ℕ) → Contains lemma.lemmas k → Known (UsesThrough lemmas number k)) → Known (Uses lemmas lemma number)
by_parts lemmas lemma number known = elim (member_known nat_known lemma.constraints number) [
  | inl m ↦ inl (by_step lemma number m)
  | inr out ↦ elim (any_known (UsesThrough lemmas number) lemma.lemmas known) [
    | inl r ↦ inl (by_lemma lemma r.2.0 r.0 number r.1 r.2.1 r.2.2)
    | inr none ↦ inr (λ uses. elim (uses_cases lemmas lemma number uses) [ inl m ↦ out m | inr t ↦ none t.0 t.1 t.2 ])
  ]
]

pub uses_known : (lemmas : List Lemma) (number : ℕ) → AreEarlier lemmas → (n : ℕ) (lemma : Lemma) → All (IsUpTo n) lemma.lemmas → Known (Uses lemmas lemma number)
uses_known lemmas number earlier zero lemma up =
    by_parts lemmas lemma number (λ k m. let is = All-contains (IsUpTo 0) lemma.lemmas k up m in absurd (omega (arith, is.0, is.1)))
uses_known lemmas number earlier (suc n) lemma up =
    by_parts lemmas lemma number (λ k m.
    let is = All-contains (IsUpTo (suc n)) lemma.lemmas k up m in
    let below : k - 1 ≤ n = omega (arith, is.0, is.1) in
    through_known lemmas number k (λ e at. uses_known lemmas number earlier n e (up_to_more (k - 1) n e.lemmas below (at_place e k at))))
  where
    at_place : (e : Lemma) (k : ℕ) → slice_get lemmas (k - 1) ≡ Some e → All (IsUpTo (k - 1)) e.lemmas
    at_place e k at =
        subst (λ (m : Lemma). All (IsUpTo (k - 1)) m.lemmas) (get_or_from_slice_get lemmas (k - 1) e e at)
        (earlier (k - 1) e (slice_get_within lemmas (k - 1) e at))
