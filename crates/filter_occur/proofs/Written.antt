-- What the walks write of a reason, one variable or one value after another.
use Rattle.std.proofs.Common.{◌≡◌, ℕ, ℤ, ◌+◌, ◌<◌, ◌<ℤ◌, Bool, true, false, not, cond, List, [], ◌∷◌, ◌++◌, length, take, get_or, filter, flat_map, Contains, append_assoc, append-nil, eqb, refl, sym, ap, ◌∙◌, int_eq}
use Rattle.std.proofs.lemmas.Bool.Decides.{Decides-int_eq}
use Rattle.std.proofs.lemmas.Grind.{flat_map-append}
use Rattle.std.proofs.lemmas.List.Elements.{All-nil, filter_more}
use Rattle.palm_base.proofs.cited.Members.{member_here, member_single, member_same, filter_member, member_filter}
use Rattle.palm_base.specs.declared.terms.Pair.{Pair}
use Rattle.palm_model.specs.Domains.{Domains, Has, Ascends, values_of}
use Rattle.palm_model.specs.Removed.{is_listed, others, pairs_of}
use Rattle.palm_model.specs.Count.{high_pairs}
use Rattle.palm_model.proofs.cited.Ascending.{ascends_filter, ascending_same}

-- ---- the pairs of one variable after another

module _ (f : ℕ → List Pair) (xs : List ℕ) (i y x : ℕ) (lt : i < length xs) (at : y ≡ get_or xs i y) where
  others_grow : others (take (i + 1) xs) x ≡ others (take i xs) x ++ cond (not (eqb y x)) (y ∷ []) []
  others_grow = filter_more (λ z. not (eqb z x)) xs i y lt ∙ ap (λ w. others (take i xs) x ++ cond (not (eqb w x)) (w ∷ []) []) (sym at)

  pub others_more : not (eqb y x) ≡ true → (before out now : List Pair) → out ≡ before ++ flat_map f (others (take i xs) x) → now ≡ out ++ f y → now ≡ before ++ flat_map f (others (take (i + 1) xs) x)
  others_more t before out now e g =
      let grown : others (take (i + 1) xs) x ≡ others (take i xs) x ++ y ∷ [] = others_grow ∙ ap (λ b. others (take i xs) x ++ cond b (y ∷ []) []) t in
      let kept : flat_map f (others (take (i + 1) xs) x) ≡ flat_map f (others (take i xs) x) ++ f y =
      ap (flat_map f) grown ∙ flat_map-append f (others (take i xs) x) (y ∷ []) ∙ ap (λ ps. flat_map f (others (take i xs) x) ++ ps) (append-nil (f y)) in
      g ∙ ap (λ ps. ps ++ f y) e ∙ append_assoc before (flat_map f (others (take i xs) x)) (f y) ∙ ap (λ ps. before ++ ps) (sym kept)

  pub others_same : not (eqb y x) ≡ false → (before out now : List Pair) → out ≡ before ++ flat_map f (others (take i xs) x) → now ≡ out → now ≡ before ++ flat_map f (others (take (i + 1) xs) x)
  others_same t before out now e g =
      let grown : others (take (i + 1) xs) x ≡ others (take i xs) x = others_grow ∙ ap (λ b. others (take i xs) x ++ cond b (y ∷ []) []) t ∙ append-nil (others (take i xs) x) in
      g ∙ e ∙ ap (λ zs. before ++ flat_map f zs) (sym grown)

-- ---- one value of an ascending list

same_kept : (vs : List ℤ) (v : ℤ) → Ascends vs → Contains vs v → filter (λ w. int_eq w v) vs ≡ v ∷ []
same_kept vs v up m =
    ascending_same (filter (λ w. int_eq w v) vs) (v ∷ []) (ascends_filter (λ w. int_eq w v) vs up) (All-nil (λ w. v <ℤ w), tt)
    (λ w k. let r = filter_member (λ u. int_eq u v) vs w k in member_same (v ∷ []) v w (sym ((Decides-int_eq w v).0 r.1)) (member_here v []))
    (λ w k. let e = member_single v w k in member_same (filter (λ u. int_eq u v) vs) v w e (member_filter (λ u. int_eq u v) vs v m ((Decides-int_eq v v).1 refl)))

no_members : (vs : List ℤ) → ((v : ℤ) → Contains vs v → ⊥) → vs ≡ []
no_members [] none = refl
no_members (v ∷ vs) none = absurd (none v (member_here v vs))

none_kept : (vs : List ℤ) (v : ℤ) → (Contains vs v → ⊥) → filter (λ w. int_eq w v) vs ≡ []
none_kept vs v n = no_members (filter (λ w. int_eq w v) vs)
    (λ w k. let r = filter_member (λ u. int_eq u v) vs w k in n (member_same vs w v ((Decides-int_eq w v).0 r.1) r.0))

module _ (initial present : Domains) (value : ℤ) (y : ℕ) where
  turned : {X : Type 0} (b : Bool) (xs : List X) → cond b [] xs ≡ cond (not b) xs []
  turned true xs = refl
  turned false xs = refl

  neither : (b : Bool) (ps : List Pair) → ps ≡ [] → cond b [] ps ≡ []
  neither true ps e = refl
  neither false ps e = e

  pub declared_high : Ascends (values_of initial y) → Has initial y value → (missing : Bool) → missing ≡ not (is_listed (values_of present y) value) → high_pairs initial present value y ≡ cond missing (record { var = y; value = value } ∷ []) []
  declared_high up has missing e =
      ap (λ ws. cond (is_listed (values_of present y) value) [] (pairs_of y ws)) (same_kept (values_of initial y) value up has)
      ∙ turned (is_listed (values_of present y) value) (record { var = y; value = value } ∷ [])
      ∙ ap (λ c. cond c (record { var = y; value = value } ∷ []) []) (sym e)

  pub undeclared_high : (Has initial y value → ⊥) → high_pairs initial present value y ≡ []
  undeclared_high n =
      neither (is_listed (values_of present y) value) (pairs_of y (filter (λ w. int_eq w value) (values_of initial y))) (ap (pairs_of y) (none_kept (values_of initial y) value n))
