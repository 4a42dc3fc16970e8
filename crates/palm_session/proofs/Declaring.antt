-- Whether a value is one that its variable was declared with.
use Rattle.std.proofs.Common.{◌≡◌, ℕ, zero, suc, ℤ, ◌<◌, List, [], ◌∷◌, map, length, get_or, Contains, refl, sym, ap, ◌∙◌, subst}
use Rattle.std.proofs.lemmas.List.Elements.{Contains-get_or}
use Rattle.std.proofs.lemmas.List.{get_or_default}
use Rattle.palm_book.specs.Book.{BookVar, name_of}
use Rattle.palm_book.proofs.cited.Any.{any_member}
use Rattle.palm_model.specs.Domains.{Domains, Has, values_of}
use Rattle.palm_session.specs.Refusals.{IsUndeclared}
use Rattle.palm_session.specs.State.{SessionState, IsHeld}
use Rattle.palm_book.proofs.cited.Naming.{variable_once}

abbrev nobody : BookVar
nobody = record { name = []; values = [] }

values_read : (variables : List BookVar) (x : ℕ) → values_of (map (λ e. e.values) variables) x ≡ (get_or variables x nobody).values
values_read [] x = refl
values_read (e ∷ es) zero = refl
values_read (e ∷ es) (suc x) = values_read es x

module _ (s : SessionState) (is : IsHeld s) (name : List ℕ) (x : ℕ) (lt : x < length s.book.variables) (named : name_of s.book.variables x ≡ name) (v : ℤ) where
  entry_has : Contains (get_or s.book.variables x nobody).values v → Has s.engine.initial x v
  entry_has m =
      subst (λ (d : Domains). Has d x v) (sym is.initial) (subst (λ (vs : List ℤ). Contains vs v) (sym (values_read s.book.variables x)) m)

  has_entry : Has s.engine.initial x v → Contains (get_or s.book.variables x nobody).values v
  has_entry h = subst (λ (vs : List ℤ). Contains vs v) (values_read s.book.variables x) (subst (λ (d : Domains). Has d x v) is.initial h)

  pub undeclared_asked : (Has s.engine.initial x v → ⊥) → IsUndeclared s name v
  undeclared_asked none =
      any_member (λ (e : BookVar). (e.name ≡ name) × (Contains e.values v → ⊥)) s.book.variables (get_or s.book.variables x nobody) (Contains-get_or s.book.variables x nobody lt)
      (named, λ m. none (entry_has m))

  pub declared_asked : Has s.engine.initial x v → IsUndeclared s name v → ⊥
  declared_asked h a =
      let here : get_or s.book.variables a.0 nobody ≡ a.1 = get_or_default s.book.variables a.0 nobody a.1 a.2 ∙ a.3 in
      let same : a.0 ≡ x = variable_once s.book.variables is.book.different_variables a.0 x a.2 lt (ap (λ (e : BookVar). e.name) here ∙ a.4.0 ∙ sym named) in
      let entry : get_or s.book.variables x nobody ≡ a.1 = subst (λ (k : ℕ). get_or s.book.variables k nobody ≡ a.1) same here in
      a.4.1 (subst (λ (e : BookVar). Contains e.values v) entry (has_entry h))
