-- The variables of a certificate: those of the book that are used, each with the number of its place among them.
use Rattle.std.proofs.Common.{◌≡◌, ◌≢◌, ℕ, suc, ◌<◌, Bool, true, false, cond, Some, option_map, List, [], ◌∷◌, length, map, get_or, All, AllPairs, Contains, nat_eq, eq-eqb, eqb-true, refl, sym, ap, ◌∙◌, subst, arith}
use Rattle.std.specs.Prelude.{slice_get}
use Rattle.std.proofs.lemmas.Bool.{false≢true}
use Rattle.std.proofs.lemmas.List.{get_or-map, length-map}
use Rattle.std.proofs.lemmas.List.Elements.{Contains-get_or}
use Rattle.std.proofs.lemmas.Option.{get_or_from_slice_get, slice_get-map, slice_get_within}
use Rattle.palm_base.proofs.cited.Members.{all_members, member_get, member_nil, member_same, member_tail, member_unmap}
use Rattle.palm_book.specs.Book.{BookVar, name_of, values_at}
use Rattle.palm_book.specs.Named.{Resolves, named}
use Rattle.palm_book.proofs.cited.Naming.{named_plain}
use Rattle.palm_model.specs.Constraint.{scope}
use Rattle.palm_model.specs.declared.constraint.Con.{Con}
use Rattle.palm_cert.specs.Moved.{moved}
use Rattle.palm_cert.proofs.Moving.{named_moved, scope_moved}

-- the place of a variable among some
abbrev pub place_in : List ℕ → ℕ → ℕ
place_in [] x = 0
place_in (y ∷ ys) x = cond (nat_eq y x) 0 (suc (place_in ys x))

placed_cases : (y x : ℕ) (ys : List ℕ) (b : Bool) → nat_eq y x ≡ b → (Contains ys x → slice_get ys (place_in ys x) ≡ Some x) → Contains (y ∷ ys) x → slice_get (y ∷ ys) (cond b 0 (suc (place_in ys x))) ≡ Some x
placed_cases y x ys true e rest m = ap Some (eqb-true y x e)
placed_cases y x ys false e rest m = rest (member_tail y ys x (λ s. false≢true (sym e ∙ eq-eqb y x s)) m)

pub placed : (xs : List ℕ) (x : ℕ) → Contains xs x → slice_get xs (place_in xs x) ≡ Some x
placed [] x m = absurd (member_nil x m)
placed (y ∷ ys) x m = placed_cases y x ys (nat_eq y x) refl (placed ys x) m

module _ (variables : List BookVar) where
  -- the variable's name and values
  abbrev pub entry : ℕ → BookVar
  entry x = record { name = name_of variables x; values = values_at variables x }

  -- the variables of the certificate
  abbrev pub entries : List ℕ → List BookVar
  entries xs = map entry xs

  -- a variable of the certificate is one of the book
  pub entry_member : (xs : List ℕ) → ((x : ℕ) → Contains xs x → x < length variables) → (e : BookVar) → Contains (entries xs) e → Contains variables e
  entry_member xs declared e m =
      let r = member_unmap entry xs e m in
      let none : BookVar = record { name = []; values = [] } in
      member_same variables (get_or variables r.0 none) e r.2 (Contains-get_or variables r.0 none (declared r.0 r.1))

  -- names that differ in the book differ in the certificate
  pub entries_apart : (xs : List ℕ) → ((x : ℕ) → Contains xs x → x < length variables) → AllPairs (λ x y. x < y) xs → AllPairs (λ (e f : BookVar). e.name ≢ f.name) variables → AllPairs (λ (e f : BookVar). e.name ≢ f.name) (entries xs)
  entries_apart xs declared rises apart i j d below within same =
      let long = length-map xs entry in
      let second : j < length xs = omega (arith, long, within) in
      let first : i < length xs = omega (arith, below, second) in
      let at : (k : ℕ) → k < length xs → (get_or (entries xs) k d).name ≡ name_of variables (get_or xs k 0) = λ k lt. ap (λ (e : BookVar). e.name) (get_or-map entry xs k 0 d lt) in
      apart (get_or xs i 0) (get_or xs j 0) (record { name = []; values = [] }) (rises i j 0 below second) (declared (get_or xs j 0) (Contains-get_or xs j 0 second))
      (sym (at i first) ∙ same ∙ at j second)

  module _ (xs : List ℕ) (x : ℕ) (m : Contains xs x) where
    entry_placed : slice_get (entries xs) (place_in xs x) ≡ Some (entry x)
    entry_placed = slice_get-map entry xs (place_in xs x) ∙ ap (option_map entry) (placed xs x m)

    pub place_declared : place_in xs x < length (entries xs)
    place_declared = slice_get_within (entries xs) (place_in xs x) (entry x) entry_placed

    pub place_member : Contains (entries xs) (entry x)
    place_member = member_get (entries xs) (place_in xs x) (entry x) entry_placed

    pub place_name : name_of (entries xs) (place_in xs x) ≡ name_of variables x
    place_name = ap (λ (e : BookVar). e.name) (get_or_from_slice_get (entries xs) (place_in xs x) (entry x) (record { name = []; values = [] }) entry_placed)

    pub place_values : values_at (entries xs) (place_in xs x) ≡ values_at variables x
    place_values = ap (λ (e : BookVar). e.values) (get_or_from_slice_get (entries xs) (place_in xs x) (entry x) (record { name = []; values = [] }) entry_placed)

  -- a constraint with the other numbers says the same
  pub resolved : (xs : List ℕ) (c : Con) → ((y : ℕ) → Contains (scope c) y → Contains xs y) → Resolves (entries xs) (named variables c) (moved (place_in xs) c)
  resolved xs c used = record {
    declared =
        subst (λ (ys : List ℕ). All (λ y. y < length (entries xs)) ys) (sym (scope_moved (place_in xs) c))
        (all_members (λ (y : ℕ). y < length (entries xs)) (map (place_in xs) (scope c)) (λ y m.
        let r = member_unmap (place_in xs) (scope c) y m in
        subst (λ (z : ℕ). z < length (entries xs)) r.2 (place_declared xs r.0 (used r.0 r.1))));
    says = named_moved variables (entries xs) (place_in xs) c (λ y m. place_name xs y (used y m)) ∙ sym (named_plain variables c);
  }
