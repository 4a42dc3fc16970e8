-- Names that differ stand for one variable each, and a declared pair for one name and value.
use Rattle.std.proofs.Common.{◌≡◌, ◌≢◌, ℕ, ℤ, [], List, get_or, Any, AllPairs, Contains, sym, ap, ◌∙◌, subst}
use Rattle.std.proofs.lemmas.List.{get_or_default, get_or-map}
use Rattle.palm_base.specs.declared.terms.Pair.{Pair}
use Rattle.palm_book.specs.Book.{Contents, BookVar, initial_of}
use Rattle.palm_book.specs.Named.{IsDeclared, IsPair, IsVariable}
use Rattle.palm_model.specs.Domains.{Has, values_of}
use Rattle.palm_book.proofs.cited.Naming.{variable_once}

abbrev pub Apart : List BookVar → Type 0
Apart variables = AllPairs (λ (e f : BookVar). e.name ≢ f.name) variables

pub variable_is : (variables : List BookVar) (name : List ℕ) (x y : ℕ) → Apart variables → IsVariable variables name x → IsVariable variables name y → x ≡ y
variable_is variables name x y apart p q = variable_once variables apart x y p.declared q.declared (p.named ∙ sym q.named)

pub pair_is : (variables : List BookVar) (name : List ℕ) (value : ℤ) (p q : Pair) → Apart variables → IsPair variables name value p → IsPair variables name value q → p ≡ q
pair_is variables name value p q apart a b =
    let build : ℕ → ℤ → Pair = λ x v. record { var = x; value = v } in
    ap (λ (x : ℕ). build x p.value) (variable_is variables name p.var q.var apart a.variable b.variable)
    ∙ ap (λ (v : ℤ). build q.var v) (a.gives ∙ sym b.gives)

-- the pair of a variable with the name, declared with the value
pub pair_declared : (book : Contents) (name : List ℕ) (value : ℤ) (pair : Pair) → IsPair book.variables name value pair → Has (initial_of book) pair.var pair.value → IsDeclared book.variables name value
pair_declared book name value pair is has =
    let x : ℕ = pair.var in
    let none : BookVar = record { name = []; values = [] } in
    let e : BookVar = get_or book.variables x none in
    let values : values_of (initial_of book) x ≡ e.values = get_or-map (λ (f : BookVar). f.values) book.variables x none [] is.variable.declared in (
      x,
      e,
      is.variable.declared,
      get_or_default book.variables x e none is.variable.declared,
      (is.variable.named, subst (λ (v : ℤ). Contains e.values v) is.gives (subst (λ (vs : List ℤ). Contains vs pair.value) values has)),
    )

-- no other variable has the name
pub undeclared : (book : Contents) (name : List ℕ) (value : ℤ) (x : ℕ) → Apart book.variables → IsVariable book.variables name x → (Has (initial_of book) x value → ⊥) → IsDeclared book.variables name value → ⊥
undeclared book name value x apart is absent a =
    let none : BookVar = record { name = []; values = [] } in
    let read : get_or book.variables a.0 none ≡ a.1 = get_or_default book.variables a.0 none a.1 a.2 ∙ a.3 in
    let same : x ≡ a.0 = variable_is book.variables name x a.0 apart is (record { declared = a.2; named = ap (λ (e : BookVar). e.name) read ∙ a.4.0 }) in
    let values : values_of (initial_of book) a.0 ≡ a.1.values = get_or-map (λ (f : BookVar). f.values) book.variables a.0 none [] a.2 ∙ ap (λ (e : BookVar). e.values) read in
    absent (subst (λ (y : ℕ). Has (initial_of book) y value) (sym same) (subst (λ (vs : List ℤ). Contains vs value) (sym values) a.4.1))

-- a variable that has the name is one that has it
pub variable_known : (variables : List BookVar) (name : List ℕ) (x : ℕ) → IsVariable variables name x → Any (λ e. e.name ≡ name) variables
variable_known variables name x is =
    let none : BookVar = record { name = []; values = [] } in
    (x, get_or variables x none, is.declared, get_or_default variables x (get_or variables x none) none is.declared, is.named)
