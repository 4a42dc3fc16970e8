-- A sound constraint within the limits is well formed, and a well formed one is sound and within them.
use Rattle.std.proofs.Common.{◌≡◌, ℕ, ℤ, ◌<◌, List, [], ◌∷◌, map, All, length, inl, inr, sym, ap, ◌∙◌, subst, arith, length-append}
use Rattle.std.proofs.lemmas.List.{length-map}
use Rattle.std.proofs.lemmas.List.Elements.{All-nil, All-cons, All-head, All-map, All-tail}
use Rattle.palm_base.proofs.cited.Members.{member_map}
use Rattle.palm_model.specs.Constraint.{scope, Distinct, IsShaped, IsWellFormed}
use Rattle.palm_model.specs.Count.{IsTarget}
use Rattle.palm_model.specs.Linear.{IsFactor}
use Rattle.palm_model.specs.Table.{IsRow}
use Rattle.palm_model.specs.declared.constraint.Con.{Con}
use Rattle.palm_model.specs.declared.constraint.Con.TheVariants.{CompareVar as CompareVarCon, CompareConst as CompareConstCon, Linear as LinearCon, Table as TableCon, Element as ElementCon, Count as CountCon, Differ as DifferCon, Within as WithinCon}
use Rattle.palm_model.specs.declared.constraint.Target.{Target}
use Rattle.palm_model.specs.declared.constraint.Target.TheVariants.{Const, Variable}
use Rattle.palm_model.specs.declared.constraint.Term.{Term}
use Rattle.palm_book.specs.Book.{AreValues, BookVar, name_of}
use Rattle.palm_read.specs.Count.{IsSoundTarget, line_target_names}
use Rattle.palm_book.proofs.cited.Intervals.{domain_values}
use Rattle.palm_book.proofs.cited.Resolving.{plain_names, scope_names}
use Rattle.palm_read.proofs.cited.DomainsWith.{small_with, sound_with, values_with}
use Rattle.palm_read.specs.Domain.{values_in}
use Rattle.palm_read.specs.Interval.{domain_with}
use Rattle.palm_read.specs.Limits.{Repeats, names_of, HasManyRows, IsBeyond}
use Rattle.palm_book.specs.Named.{named, named_target, named_term, plain, Resolves}
use Rattle.palm_read.specs.Linear.{IsSoundTerm}
use Rattle.palm_read.specs.Sound.{IsSoundShape}
use Rattle.palm_read.specs.declared.line.Line.TheVariants.{Add}
use Rattle.palm_read.specs.declared.line.NameTerm.{NameTerm}
use Rattle.palm_read.specs.declared.line.Shape.{Shape}
use Rattle.palm_read.specs.declared.line.Shape.TheVariants.{CompareVar, CompareConst, Linear, Table, Element, Count, Differ, Within}

-- variables with different names are different
distinct_names : (f : ℕ → List ℕ) (xs : List ℕ) → (Repeats (map f xs) → ⊥) → Distinct xs
distinct_names f [] r = tt
distinct_names f (x ∷ xs) r = (λ m. r (inl (member_map f xs x m)), distinct_names f xs (λ q. r (inr q)))

factors : (variables : List BookVar) (terms : List Term) → All IsSoundTerm (map (named_term variables) terms) → All IsFactor terms
factors variables [] sound = All-nil IsFactor
factors variables (t ∷ ts) sound =
    All-cons IsFactor t ts (All-head IsSoundTerm (named_term variables t) (map (named_term variables) ts) sound)
    (factors variables ts (All-tail IsSoundTerm (named_term variables t) (map (named_term variables) ts) sound))

shaped : (variables : List BookVar) (con : Con) → IsSoundShape (named variables con) → (HasManyRows (named variables con) → ⊥) → IsShaped con
shaped variables (CompareVarCon left op right offset) sound few = sound
shaped variables (CompareConstCon left op value) sound few = sound
shaped variables (LinearCon terms op bound) sound few = (factors variables terms sound.1, sound.2, sound.3)
shaped variables (TableCon vars rows) sound few = ((sound.1, omega (arith, few)), subst (λ (n : ℕ). All (IsRow n) rows) (length-map vars (name_of variables)) sound.2)
shaped variables (ElementCon outcome index entries) sound few = ((sound.0, omega (arith, few)), sound.1)
shaped variables (CountCon value vars op (Const w)) sound few = (omega (arith, length-map vars (name_of variables), sound.0), sound.1, sound.2)
shaped variables (CountCon value vars op (Variable x)) sound few = (omega (arith, length-map vars (name_of variables), sound.0), sound.1, tt)
shaped variables (WithinCon var values) sound few =
    let fit : AreValues values = subst AreValues (values_with values) (domain_values (domain_with values) sound few) in
    record { some = fit.some; few = fit.few; ascend = fit.ascend; each = fit.each }
shaped variables (DifferCon vars) sound few = omega (arith, length-map vars (name_of variables))

-- a shape has a name
some_names : (shape : Shape) → IsSoundShape shape → 0 < length (names_of shape)
some_names (CompareVar left op right offset) sound = omega arith
some_names (CompareConst left op value) sound = omega arith
some_names (Linear terms op bound) sound = omega (arith, length-map terms (λ (t : NameTerm). t.name), sound.0)
some_names (Table vars rows) sound = sound.0
some_names (Element outcome index entries) sound = omega arith
some_names (Count value vars op target) sound = omega (arith, length-append vars (line_target_names target), sound.0)
some_names (Differ vars) sound = omega (arith, sound)
some_names (Within var domain) sound = omega arith

formed : (variables : List BookVar) (con : Con) → All (λ x. x < length variables) (scope con)
    → (Repeats (names_of (named variables con)) → ⊥) → IsSoundShape (named variables con)
    → (16 < length (names_of (named variables con)) → ⊥) → (HasManyRows (named variables con) → ⊥)
    → IsWellFormed (length variables) con
formed variables con declared once sound narrow few =
    let e = scope_names variables con in
    let n : length (names_of (named variables con)) ≡ length (scope con) = ap length e ∙ length-map (scope con) (name_of variables) in
    record {
      declared = declared;
      distinct = distinct_names (name_of variables) (scope con) (λ r. once (subst Repeats (sym e) r));
      some = omega (arith, n, some_names (named variables con) sound);
      few = omega (arith, n, narrow);
      shaped = shaped variables con sound few;
    }

-- a sound shape within the limits is one, however it writes its domain

plain_sound : (shape : Shape) → IsSoundShape shape → (HasManyRows shape → ⊥) → IsSoundShape (plain shape)
plain_sound (CompareVar left op right offset) sound few = sound
plain_sound (CompareConst left op value) sound few = sound
plain_sound (Linear terms op bound) sound few = sound
plain_sound (Table vars rows) sound few = sound
plain_sound (Element outcome index entries) sound few = sound
plain_sound (Count value vars op target) sound few = sound
plain_sound (Differ vars) sound few = sound
plain_sound (Within var domain) sound few =
    let fit : AreValues (values_in domain) = domain_values domain sound few in
    sound_with (values_in domain) fit.some fit.ascend fit.each

plain_few : (shape : Shape) → IsSoundShape shape → (HasManyRows shape → ⊥) → HasManyRows (plain shape) → ⊥
plain_few (CompareVar left op right offset) sound few = few
plain_few (CompareConst left op value) sound few = few
plain_few (Linear terms op bound) sound few = few
plain_few (Table vars rows) sound few = few
plain_few (Element outcome index entries) sound few = few
plain_few (Count value vars op target) sound few = few
plain_few (Differ vars) sound few = few
plain_few (Within var domain) sound few = small_with (values_in domain) (domain_values domain sound few).few

-- a sound constraint within the limits is well formed
pub well_formed : (variables : List BookVar) (shape : Shape) (con : Con) → Resolves variables shape con
    → (Repeats (names_of shape) → ⊥) → IsSoundShape shape → (16 < length (names_of shape) → ⊥) → (HasManyRows shape → ⊥)
    → IsWellFormed (length variables) con
well_formed variables shape con r once sound narrow few =
    let names : names_of shape ≡ names_of (named variables con) = sym (plain_names shape) ∙ ap names_of (sym r.says) in
    formed variables con r.declared
    (subst (λ (ns : List (List ℕ)). Repeats ns → ⊥) names once)
    (subst IsSoundShape (sym r.says) (plain_sound shape sound few))
    (subst (λ (ns : List (List ℕ)). 16 < length ns → ⊥) names narrow)
    (subst (λ (s : Shape). HasManyRows s → ⊥) (sym r.says) (plain_few shape sound few))

-- ---- and a well formed constraint says a sound shape within the limits

module _ (variables : List BookVar) where
  some_named : (f : ℕ → List ℕ) (xs : List ℕ) → 0 < length xs → 0 < length (map f xs)
  some_named f xs some = omega (arith, some, length-map xs f)

  sound_terms : (terms : List Term) → All IsFactor terms → All IsSoundTerm (map (named_term variables) terms)
  sound_terms terms h = All-map IsSoundTerm (named_term variables) terms h

  sound_target : (t : Target) → IsTarget t → IsSoundTarget (named_target variables t)
  sound_target (Const w) h = h
  sound_target (Variable x) h = tt

  sound_rows : (vars : List ℕ) (rows : List (List ℤ)) → All (IsRow (length vars)) rows → All (IsRow (length (map (name_of variables) vars))) rows
  sound_rows vars rows h = subst (λ (n : ℕ). All (IsRow n) rows) (sym (length-map vars (name_of variables))) h

  pub named_sound : (con : Con) → IsWellFormed (length variables) con → IsSoundShape (named variables con)
  named_sound (CompareVarCon left op right offset) formed = formed.shaped
  named_sound (CompareConstCon left op value) formed = formed.shaped
  named_sound (LinearCon terms op bound) formed =
      let many : 0 < length (map (named_term variables) terms) = omega (arith, formed.some, length-map terms (named_term variables), length-map terms (λ (t : Term). t.var)) in
      (many, sound_terms terms formed.shaped.0, formed.shaped.1, formed.shaped.2)
  named_sound (TableCon vars rows) formed = (some_named (name_of variables) vars formed.some, formed.shaped.0.0, sound_rows vars rows formed.shaped.1)
  named_sound (ElementCon outcome index entries) formed = (formed.shaped.0.0, formed.shaped.1)
  named_sound (CountCon value vars op target) formed = (some_named (name_of variables) vars formed.shaped.0, formed.shaped.1, sound_target target formed.shaped.2)
  named_sound (WithinCon var values) formed = sound_with values formed.shaped.some formed.shaped.ascend formed.shaped.each
  named_sound (DifferCon vars) formed =
      let shaped = formed.shaped in
      omega (arith, shaped, length-map vars (name_of variables))

  few_rows : (con : Con) → IsWellFormed (length variables) con → HasManyRows (named variables con) → ⊥
  few_rows (TableCon vars rows) formed many = absurd (omega (arith, formed.shaped.0.1, many))
  few_rows (ElementCon outcome index entries) formed many = absurd (omega (arith, formed.shaped.0.1, many))
  few_rows (WithinCon var values) formed many = small_with values formed.shaped.few many
  few_rows _ formed many = many

  -- it keeps to the limits on how many there may be
  pub named_near : (name : List ℕ) (con : Con) → IsWellFormed (length variables) con → IsBeyond (Add name (named variables con)) → ⊥
  named_near name con formed beyond = elim beyond [
    | inl many ↦ absurd (omega (arith, formed.few, many, ap length (scope_names variables con), length-map (scope con) (name_of variables)))
    | inr rows ↦ few_rows con formed rows
  ]
