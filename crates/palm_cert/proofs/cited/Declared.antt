-- The lines of variables and constraints: each is read as the variable or the constraint that it was written for.
use Rattle.std.proofs.Common.{◌≢◌, ℕ, ◌<◌, List, [], ◌∷◌, length, map, All, AllPairs, inl, inr, refl, sym, subst}
use Rattle.std.proofs.lemmas.List.Elements.{All-contains, All-head, All-map, All-tail, All-weaker}
use Rattle.palm_base.proofs.cited.Members.{member_same, member_unmap}
use Rattle.palm_book.specs.Book.{AreValues, Contents, BookVar, IsBook, name_of, values_at}
use Rattle.palm_book.specs.Named.{named}
use Rattle.palm_book.proofs.cited.Naming.{variable_once}
use Rattle.palm_book.proofs.cited.Resolving.{scope_names}
use Rattle.palm_book.proofs.cited.WellFormed.{named_near, named_sound}
use Rattle.palm_model.specs.Constraint.{Distinct, IsWellFormed, scope}
use Rattle.palm_model.specs.declared.constraint.Con.{Con}
use Rattle.palm_read.proofs.cited.DomainsWith.{small_with, sound_with, values_with}
use Rattle.palm_read.specs.Interval.{domain_with}
use Rattle.palm_read.specs.Limits.{Repeats, names_of}
use Rattle.palm_read.specs.Name.{IsNameText}
use Rattle.palm_read.specs.Reading.{IsRead}
use Rattle.palm_read.specs.Text.{text_of}
use Rattle.palm_read.specs.declared.line.Line.TheVariants.{Add, Var}
use Rattle.palm_read.specs.declared.mode.Mode.TheVariants.{Two}
use Rattle.palm_cert.proofs.Built.{add_read, var_read}
use Rattle.palm_cert.specs.Readable.{IsDeclaredBy}

-- ---- names of variables

pub name_text : (variables : List BookVar) (x : ℕ) → All (λ e. IsNameText e.name) variables → x < length variables → IsNameText (name_of variables x)
name_text variables x h lt = h x (record { name = []; values = [] }) lt

pub are_values : (variables : List BookVar) (x : ℕ) → All (λ e. AreValues e.values) variables → x < length variables → AreValues (values_at variables x)
are_values variables x h lt = h x (record { name = []; values = [] }) lt

-- the line of each variable of a book says it
pub variable_says : (book : Contents) → IsBook book → (x : ℕ) → x < length book.variables → (line : List ℕ) × IsDeclaredBy book.variables x line
variable_says book is x lt =
    let name = name_of book.variables x in
    let values = values_at book.variables x in
    let are = are_values book.variables x is.values lt in
    let domain = domain_with values in
    let small = small_with values are.few in (
      text_of (Var name domain),
      record {
        domain = domain;
        values = values_with values;
        ends = refl;
        says = var_read name domain (name_text book.variables x is.variable_names lt) (sound_with values are.some are.ascend are.each) small;
        near = small;
      },
    )

-- different variables have different names
no_repeat : (variables : List BookVar) (xs : List ℕ) → AllPairs (λ e f. e.name ≢ f.name) variables → All (λ x. x < length variables) xs → Distinct xs → Repeats (map (name_of variables) xs) → ⊥
no_repeat variables [] different declared distinct r = r
no_repeat variables (x ∷ xs) different declared distinct r =
    let later = All-tail (λ (y : ℕ). y < length variables) x xs declared in
    elim r [
      | inl c ↦
          let u = member_unmap (name_of variables) xs (name_of variables x) c in
          let same = variable_once variables different u.0 x (All-contains (λ (y : ℕ). y < length variables) xs u.0 later u.1) (All-head (λ (y : ℕ). y < length variables) x xs declared) u.2 in
          distinct.0 (member_same xs u.0 x same u.1)
      | inr more ↦ no_repeat variables xs different later distinct.1 more
    ]

-- ---- a constraint of a book, with names

module _ (variables : List BookVar) where
  named_names : (con : Con) → All (λ e. IsNameText e.name) variables → IsWellFormed (length variables) con → All IsNameText (names_of (named variables con))
  named_names con names formed =
      subst (All IsNameText) (sym (scope_names variables con))
      (All-map IsNameText (name_of variables) (scope con) (All-weaker (λ (x : ℕ). x < length variables) (λ (x : ℕ). IsNameText (name_of variables x)) (λ x lt. name_text variables x names lt) (scope con) formed.declared))

  -- and its line is read as the constraint
  pub named_read : (name : List ℕ) (con : Con) → IsNameText name → All (λ e. IsNameText e.name) variables → AllPairs (λ e f. e.name ≢ f.name) variables → IsWellFormed (length variables) con → IsRead Two (text_of (Add name (named variables con))) (Add name (named variables con))
  named_read name con text names different formed =
      add_read name (named variables con) text (named_names con names formed)
      (λ r. no_repeat variables (scope con) different formed.declared formed.distinct (subst Repeats (scope_names variables con) r))
      (named_sound variables con formed) (named_near variables name con formed)
