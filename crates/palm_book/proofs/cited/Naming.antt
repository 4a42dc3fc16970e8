-- Which names are known, and that a shape whose names are all known says one constraint, and no other. What a constraint says
-- is plain.
use Rattle.std.proofs.Common.{◌≡◌, ◌≢◌, ℕ, ◌<◌, ℤ, List, [], ◌∷◌, length, map, All, Any, AllPairs, inl, inr, refl, sym, ap, ◌∙◌, arith}
use Rattle.std.proofs.lemmas.Bool.{cases_lt}
use Rattle.std.proofs.lemmas.List.{get_or_default}
use Rattle.std.proofs.lemmas.List.Elements.{All-nil, All-cons, All-head, All-tail, All-append}
use Rattle.palm_base.proofs.cited.Members.{Known, any_known, list_known, nat_known}
use Rattle.palm_model.specs.Constraint.{scope}
use Rattle.palm_model.specs.Count.{target_scope}
use Rattle.palm_model.specs.Linear.{term_vars}
use Rattle.palm_model.specs.declared.constraint.Con.{Con}
use Rattle.palm_model.specs.declared.constraint.Con.TheVariants.{CompareVar as VarCompare, CompareConst as ConstCompare, Linear as LinearCon, Table as TableCon, Element as ElementCon, Count as CountCon, Differ as DifferCon, Within as WithinCon}
use Rattle.palm_model.specs.declared.constraint.Target.{Target}
use Rattle.palm_model.specs.declared.constraint.Target.TheVariants.{Const, Variable}
use Rattle.palm_model.specs.declared.constraint.Term.{Term}
use Rattle.palm_book.specs.Book.{BookVar, name_of}
use Rattle.palm_read.proofs.cited.AllOfBoth.{all_left, all_right}
use Rattle.palm_read.proofs.cited.DomainsWith.{values_with}
use Rattle.palm_read.specs.Domain.{values_in}
use Rattle.palm_read.specs.Interval.{domain_with}
use Rattle.palm_read.specs.Limits.{names_of}
use Rattle.palm_read.specs.Count.{line_target_names}
use Rattle.palm_book.specs.Named.{named, named_term, named_target, plain, Resolves}
use Rattle.palm_read.specs.declared.line.NameTarget.{NameTarget}
use Rattle.palm_read.specs.declared.line.NameTarget.TheVariants.{Const as ConstTarget, Variable as VariableTarget}
use Rattle.palm_read.specs.declared.line.NameTerm.{NameTerm}
use Rattle.palm_read.specs.declared.line.Shape.{Shape}
use Rattle.palm_read.specs.declared.line.Shape.TheVariants.{CompareVar, CompareConst, Linear, Table, Element, Count, Differ, Within}

-- ---- what is known

-- some member has a known property, or none has
pub some_known : {X : Type 0} (P : X → Type 0) (xs : List X) → ((x : X) → Known (P x)) → Known (Any P xs)
some_known P xs known = elim (any_known P xs (λ x m. known x)) [
  | inl r ↦ inl (r.1.0, r.0, r.1.1, r.1.2, r.2)
  | inr none ↦ inr (λ a. none a.1 (a.0, a.2, a.3) a.4)
]

-- a variable has the name, or none has
pub name_known : {X : Type 0} (f : X → List ℕ) (xs : List X) (name : List ℕ) → Known (Any (λ x. f x ≡ name) xs)
name_known f xs name = some_known (λ x. f x ≡ name) xs (λ x. list_known nat_known (f x) name)

-- ---- variables by name

-- there is a variable with a name that one has
pub variable_with : (variables : List BookVar) (name : List ℕ) → Any (λ e. e.name ≡ name) variables → (x : ℕ) × (x < length variables) × (name_of variables x ≡ name)
variable_with variables name a =
    let none : BookVar = record { name = []; values = [] } in
    (a.0, a.2, ap (λ (e : BookVar). e.name) (get_or_default variables a.0 none a.1 a.2 ∙ a.3) ∙ a.4)

module _ (variables : List BookVar) where
  abbrev IsNamed : List ℕ → Type 0
  IsNamed name = Any (λ e. e.name ≡ name) variables

  abbrev IsDeclared : ℕ → Type 0
  IsDeclared x = x < length variables

  vars_with : (names : List (List ℕ)) → All IsNamed names → (xs : List ℕ) × All IsDeclared xs × (map (name_of variables) xs ≡ names)
  vars_with [] h = ([], All-nil IsDeclared, refl)
  vars_with (n ∷ ns) h =
      let x = variable_with variables n (All-head IsNamed n ns h) in
      let r = vars_with ns (All-tail IsNamed n ns h) in
      let e : name_of variables x.0 ≡ n = x.2 in
      let f : map (name_of variables) r.0 ≡ ns = r.2 in
      (x.0 ∷ r.0, All-cons IsDeclared x.0 r.0 x.1 r.1, cc)

  term_with : (t : NameTerm) → IsNamed t.name → (u : Term) × IsDeclared u.var × (named_term variables u ≡ t)
  term_with t h =
      let x = variable_with variables t.name h in
      let build : List ℕ → NameTerm = λ name. record { factor = t.factor; name = name } in
      (record { factor = t.factor; var = x.0 }, x.1, ap build x.2)

  terms_with : (terms : List NameTerm) → All IsNamed (map (λ t. t.name) terms) → (us : List Term) × All IsDeclared (term_vars us) × (map (named_term variables) us ≡ terms)
  terms_with [] h = ([], All-nil IsDeclared, refl)
  terms_with (t ∷ ts) h =
      let u = term_with t (All-head IsNamed t.name (map (λ (z : NameTerm). z.name) ts) h) in
      let r = terms_with ts (All-tail IsNamed t.name (map (λ (z : NameTerm). z.name) ts) h) in
      let e : named_term variables u.0 ≡ t = u.2 in
      let f : map (named_term variables) r.0 ≡ ts = r.2 in
      (u.0 ∷ r.0, All-cons IsDeclared u.0.var (term_vars r.0) u.1 r.1, cc)

  target_with : (target : NameTarget) → All IsNamed (line_target_names target) → (t : Target) × All IsDeclared (target_scope t) × (named_target variables t ≡ target)
  target_with (ConstTarget value) h = (Const value, All-nil IsDeclared, refl)
  target_with (VariableTarget name) h =
      let x = variable_with variables name (All-head IsNamed name [] h) in
      (Variable x.0, All-cons IsDeclared x.0 [] x.1 (All-nil IsDeclared), ap VariableTarget x.2)

  -- there is a constraint that says a shape of variables that all have their names
  pub constraint_with : (shape : Shape) → All IsNamed (names_of shape) → (con : Con) × Resolves variables shape con
  constraint_with (CompareVar left op right offset) h =
      let x = variable_with variables left (All-head IsNamed left (right ∷ []) h) in
      let y = variable_with variables right (All-head IsNamed right [] (All-tail IsNamed left (right ∷ []) h)) in
      let e : name_of variables x.0 ≡ left = x.2 in
      let f : name_of variables y.0 ≡ right = y.2 in
      (VarCompare x.0 op y.0 offset, record { declared = All-cons IsDeclared x.0 (y.0 ∷ []) x.1 (All-cons IsDeclared y.0 [] y.1 (All-nil IsDeclared)); says = cc })
  constraint_with (CompareConst left op value) h =
      let x = variable_with variables left (All-head IsNamed left [] h) in
      let e : name_of variables x.0 ≡ left = x.2 in
      (ConstCompare x.0 op value, record { declared = All-cons IsDeclared x.0 [] x.1 (All-nil IsDeclared); says = cc })
  constraint_with (Linear terms op bound) h =
      let r = terms_with terms h in
      let e : map (named_term variables) r.0 ≡ terms = r.2 in
      (LinearCon r.0 op bound, record { declared = r.1; says = cc })
  constraint_with (Table vars rows) h =
      let r = vars_with vars h in
      let e : map (name_of variables) r.0 ≡ vars = r.2 in
      (TableCon r.0 rows, record { declared = r.1; says = cc })
  constraint_with (Element outcome index entries) h =
      let x = variable_with variables outcome (All-head IsNamed outcome (index ∷ []) h) in
      let y = variable_with variables index (All-head IsNamed index [] (All-tail IsNamed outcome (index ∷ []) h)) in
      let e : name_of variables x.0 ≡ outcome = x.2 in
      let f : name_of variables y.0 ≡ index = y.2 in
      (ElementCon x.0 y.0 entries, record { declared = All-cons IsDeclared x.0 (y.0 ∷ []) x.1 (All-cons IsDeclared y.0 [] y.1 (All-nil IsDeclared)); says = cc })
  constraint_with (Count value vars op target) h =
      let r = vars_with vars (all_left IsNamed vars (line_target_names target) h) in
      let t = target_with target (all_right IsNamed vars (line_target_names target) h) in
      let e : map (name_of variables) r.0 ≡ vars = r.2 in
      let f : named_target variables t.0 ≡ target = t.2 in
      (CountCon value r.0 op t.0, record { declared = All-append IsDeclared r.0 (target_scope t.0) r.1 t.1; says = cc })
  constraint_with (Differ vars) h =
      let r = vars_with vars h in
      let e : map (name_of variables) r.0 ≡ vars = r.2 in
      (DifferCon r.0, record { declared = r.1; says = cc })
  constraint_with (Within var domain) h =
      let x = variable_with variables var (All-head IsNamed var [] h) in
      let e : name_of variables x.0 ≡ var = x.2 in
      (WithinCon x.0 (values_in domain), record { declared = All-cons IsDeclared x.0 [] x.1 (All-nil IsDeclared); says = cc })

  -- what a constraint says has its domain as it is printed
  pub named_plain : (con : Con) → plain (named variables con) ≡ named variables con
  named_plain (VarCompare left op right offset) = refl
  named_plain (ConstCompare left op value) = refl
  named_plain (LinearCon terms op bound) = refl
  named_plain (TableCon vars rows) = refl
  named_plain (ElementCon outcome index entries) = refl
  named_plain (CountCon value vars op target) = refl
  named_plain (DifferCon vars) = refl
  named_plain (WithinCon var values) = ap (λ (vs : List ℤ). Within (name_of variables var) (domain_with vs)) (values_with values)

  -- ---- names that differ stand for one variable each
  module _ (apart : AllPairs (λ (e f : BookVar). e.name ≢ f.name) variables) where
    pub variable_once : (x y : ℕ) → IsDeclared x → IsDeclared y → name_of variables x ≡ name_of variables y → x ≡ y
    variable_once x y lx ly e =
        let none : BookVar = record { name = []; values = [] } in
        elim (cases_lt x y) [
          | inl l ↦ absurd (apart x y none l ly e)
          | inr g ↦ elim (cases_lt y x) [ inl l ↦ absurd (apart y x none l lx (sym e)) | inr h ↦ omega (arith, g, h) ]
        ]

    vars_once : (xs ys : List ℕ) → All IsDeclared xs → All IsDeclared ys → map (name_of variables) xs ≡ map (name_of variables) ys → xs ≡ ys
    vars_once [] [] dx dy e = refl
    vars_once [] (y ∷ ys) dx dy e = cc
    vars_once (x ∷ xs) [] dx dy e = cc
    vars_once (x ∷ xs) (y ∷ ys) dx dy e =
        let h : name_of variables x ≡ name_of variables y = cc in
        let t : map (name_of variables) xs ≡ map (name_of variables) ys = cc in
        let a : x ≡ y = variable_once x y (All-head IsDeclared x xs dx) (All-head IsDeclared y ys dy) h in
        let b : xs ≡ ys = vars_once xs ys (All-tail IsDeclared x xs dx) (All-tail IsDeclared y ys dy) t in
        cc

    term_once : (t u : Term) → IsDeclared t.var → IsDeclared u.var → named_term variables t ≡ named_term variables u → t ≡ u
    term_once t u dt du e =
        let build : ℤ → ℕ → Term = λ factor var. record { factor = factor; var = var } in
        ap (λ (z : ℤ). build z t.var) (ap (λ (z : NameTerm). z.factor) e)
        ∙ ap (λ (z : ℕ). build u.factor z) (variable_once t.var u.var dt du (ap (λ (z : NameTerm). z.name) e))

    terms_once : (ts us : List Term) → All IsDeclared (term_vars ts) → All IsDeclared (term_vars us) → map (named_term variables) ts ≡ map (named_term variables) us → ts ≡ us
    terms_once [] [] dt du e = refl
    terms_once [] (u ∷ us) dt du e = cc
    terms_once (t ∷ ts) [] dt du e = cc
    terms_once (t ∷ ts) (u ∷ us) dt du e =
        let h : named_term variables t ≡ named_term variables u = cc in
        let r : map (named_term variables) ts ≡ map (named_term variables) us = cc in
        let a : t ≡ u = term_once t u (All-head IsDeclared t.var (term_vars ts) dt) (All-head IsDeclared u.var (term_vars us) du) h in
        let b : ts ≡ us = terms_once ts us (All-tail IsDeclared t.var (term_vars ts) dt) (All-tail IsDeclared u.var (term_vars us) du) r in
        cc

    target_once : (t u : Target) → All IsDeclared (target_scope t) → All IsDeclared (target_scope u) → named_target variables t ≡ named_target variables u → t ≡ u
    target_once (Const v) (Const w) dt du e = let h : v ≡ w = cc in ap Const h
    target_once (Const v) (Variable y) dt du e = cc
    target_once (Variable x) (Const w) dt du e = cc
    target_once (Variable x) (Variable y) dt du e =
        let h : name_of variables x ≡ name_of variables y = cc in
        ap Variable (variable_once x y (All-head IsDeclared x [] dt) (All-head IsDeclared y [] du) h)

    -- a shape says one constraint
    pub constraint_once : (c d : Con) → All IsDeclared (scope c) → All IsDeclared (scope d) → named variables c ≡ named variables d → c ≡ d
    constraint_once (VarCompare l o r k) (VarCompare m p s n) dc dd e =
        let hl : name_of variables l ≡ name_of variables m = cc in
        let hr : name_of variables r ≡ name_of variables s = cc in
        let ho : o ≡ p = cc in
        let hk : k ≡ n = cc in
        let a : l ≡ m = variable_once l m (All-head IsDeclared l (r ∷ []) dc) (All-head IsDeclared m (s ∷ []) dd) hl in
        let b : r ≡ s = variable_once r s (All-head IsDeclared r [] (All-tail IsDeclared l (r ∷ []) dc)) (All-head IsDeclared s [] (All-tail IsDeclared m (s ∷ []) dd)) hr in
        cc
    constraint_once (ConstCompare l o v) (ConstCompare m p w) dc dd e =
        let hl : name_of variables l ≡ name_of variables m = cc in
        let ho : o ≡ p = cc in
        let hv : v ≡ w = cc in
        let a : l ≡ m = variable_once l m (All-head IsDeclared l [] dc) (All-head IsDeclared m [] dd) hl in
        cc
    constraint_once (LinearCon ts o b) (LinearCon us p a) dc dd e =
        let ht : map (named_term variables) ts ≡ map (named_term variables) us = cc in
        let ho : o ≡ p = cc in
        let hb : b ≡ a = cc in
        let t : ts ≡ us = terms_once ts us dc dd ht in
        cc
    constraint_once (TableCon xs rows) (TableCon ys others) dc dd e =
        let hx : map (name_of variables) xs ≡ map (name_of variables) ys = cc in
        let hr : rows ≡ others = cc in
        let a : xs ≡ ys = vars_once xs ys dc dd hx in
        cc
    constraint_once (ElementCon l r k) (ElementCon m s n) dc dd e =
        let hl : name_of variables l ≡ name_of variables m = cc in
        let hr : name_of variables r ≡ name_of variables s = cc in
        let hk : k ≡ n = cc in
        let a : l ≡ m = variable_once l m (All-head IsDeclared l (r ∷ []) dc) (All-head IsDeclared m (s ∷ []) dd) hl in
        let b : r ≡ s = variable_once r s (All-head IsDeclared r [] (All-tail IsDeclared l (r ∷ []) dc)) (All-head IsDeclared s [] (All-tail IsDeclared m (s ∷ []) dd)) hr in
        cc
    constraint_once (CountCon v xs o t) (CountCon w ys p u) dc dd e =
        let hv : v ≡ w = cc in
        let ho : o ≡ p = cc in
        let hx : map (name_of variables) xs ≡ map (name_of variables) ys = cc in
        let ht : named_target variables t ≡ named_target variables u = cc in
        let a : xs ≡ ys = vars_once xs ys (all_left IsDeclared xs (target_scope t) dc) (all_left IsDeclared ys (target_scope u) dd) hx in
        let b : t ≡ u = target_once t u (all_right IsDeclared xs (target_scope t) dc) (all_right IsDeclared ys (target_scope u) dd) ht in
        cc
    constraint_once (DifferCon xs) (DifferCon ys) dc dd e =
        let hx : map (name_of variables) xs ≡ map (name_of variables) ys = cc in
        let a : xs ≡ ys = vars_once xs ys dc dd hx in
        cc
    constraint_once (WithinCon x vs) (WithinCon y ws) dc dd e =
        let hx : name_of variables x ≡ name_of variables y = cc in
        let hd : domain_with vs ≡ domain_with ws = cc in
        let a : x ≡ y = variable_once x y (All-head IsDeclared x [] dc) (All-head IsDeclared y [] dd) hx in
        let b : vs ≡ ws = sym (values_with vs) ∙ ap values_in hd ∙ values_with ws in
        cc
    constraint_once _ _ dc dd e = cc
