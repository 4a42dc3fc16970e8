-- Constraints with other numbers for their variables: what lacks support in one lacks it in the other, and both say the same.
use Rattle.std.proofs.Common.{◌≡◌, ℕ, suc, ℤ, pos, ◌+ℤ◌, ◌*ℤ◌, Bool, true, false, cond, List, [], ◌∷◌, ◌++◌, length, map, filter, Contains, refl, sym, ap, ◌∙◌, subst, int_eq}
use Rattle.std.proofs.lemmas.List.{map-append}
use Rattle.std.proofs.lemmas.List.Elements.{Contains-append_left, Contains-append_right}
use Rattle.palm_base.proofs.cited.Members.{member_here, member_map, member_there}
use Rattle.palm_book.specs.Book.{BookVar, name_of}
use Rattle.palm_book.specs.Named.{named, named_target, named_term}
use Rattle.palm_model.specs.Constraint.{scope}
use Rattle.palm_model.specs.Count.{count_among, target_of, target_scope}
use Rattle.palm_model.specs.Differ.{differ_parts}
use Rattle.palm_model.specs.Domains.{Domains, Assignment, Has}
use Rattle.palm_model.specs.Linear.{linear_parts, term_vars, total}
use Rattle.palm_model.specs.Part.{Holds, parts, scope_of}
use Rattle.palm_model.specs.Relation.{Stands}
use Rattle.palm_model.specs.Support.{LacksSupport}
use Rattle.palm_model.specs.declared.constraint.Con.{Con}
use Rattle.palm_model.specs.declared.constraint.Con.TheVariants.{CompareVar, CompareConst, Linear, Table, Element, Count, Differ, Within}
use Rattle.palm_model.specs.declared.constraint.Op.{Op}
use Rattle.palm_model.specs.declared.constraint.Op.TheVariants.{Eq, Ne, Lt, Le, Gt, Ge}
use Rattle.palm_model.specs.declared.constraint.Target.{Target}
use Rattle.palm_model.specs.declared.constraint.Target.TheVariants.{Const, Variable}
use Rattle.palm_model.specs.declared.constraint.Term.{Term}
use Rattle.palm_model.specs.declared.part.Part.{Part}
use Rattle.palm_model.specs.declared.part.Part.TheVariants.{CompareVar as CompareVarPart, CompareConst as CompareConstPart, Linear as LinearPart, Table as TablePart, Element as ElementPart, Count as CountPart, Differ as DifferPart, Within as WithinPart}
use Rattle.palm_read.specs.Interval.{domain_with}
use Rattle.palm_read.specs.declared.line.NameTarget.{NameTarget}
use Rattle.palm_read.specs.declared.line.NameTarget.TheVariants.{Variable as VariableTarget}
use Rattle.palm_read.specs.declared.line.NameTerm.{NameTerm}
use Rattle.palm_read.specs.declared.line.Shape.TheVariants.{CompareVar as CompareVarShape, CompareConst as CompareConstShape, Linear as LinearShape, Table as TableShape, Element as ElementShape, Count as CountShape, Differ as DifferShape, Within as WithinShape}
use Rattle.palm_cert.specs.Moved.{moved, moved_target, moved_term}
use Rattle.palm_model.proofs.cited.Formed.{part_scope}

map_twice : {X Y Z : Type 0} (f : X → Y) (g : Y → Z) (xs : List X) → map g (map f xs) ≡ map (λ x. g (f x)) xs
map_twice f g [] = refl
map_twice f g (x ∷ xs) = ap (λ zs. g (f x) ∷ zs) (map_twice f g xs)

-- the variables' other numbers
module _ (other : ℕ → ℕ) where
  abbrev pub moved_part : Part → Part
  moved_part (CompareVarPart left op right offset) = CompareVarPart (other left) op (other right) offset
  moved_part (CompareConstPart var op value) = CompareConstPart (other var) op value
  moved_part (LinearPart terms op bound) = LinearPart (map (moved_term other) terms) op bound
  moved_part (TablePart vars rows) = TablePart (map other vars) rows
  moved_part (ElementPart outcome index entries) = ElementPart (other outcome) (other index) entries
  moved_part (CountPart value vars op target) = CountPart value (map other vars) op (moved_target other target)
  moved_part (DifferPart first second) = DifferPart (other first) (other second)
  moved_part (WithinPart var values) = WithinPart (other var) values

  -- ---- parts and scopes

  linear_moved : (terms : List Term) (op : Op) (bound : ℤ) → linear_parts (map (moved_term other) terms) op bound ≡ map moved_part (linear_parts terms op bound)
  linear_moved terms Eq bound = refl
  linear_moved terms Ne bound = refl
  linear_moved terms Lt bound = refl
  linear_moved terms Le bound = refl
  linear_moved terms Gt bound = refl
  linear_moved terms Ge bound = refl

  differ_moved : (vars : List ℕ) → differ_parts (map other vars) ≡ map moved_part (differ_parts vars)
  differ_moved [] = refl
  differ_moved (x ∷ xs) =
      ap (λ (ps : List Part). ps ++ differ_parts (map other xs)) (map_twice other (DifferPart (other x)) xs ∙ sym (map_twice (DifferPart x) moved_part xs))
      ∙ ap (λ (ps : List Part). map moved_part (map (DifferPart x) xs) ++ ps) (differ_moved xs)
      ∙ sym (map-append moved_part (map (DifferPart x) xs) (differ_parts xs))

  parts_moved : (c : Con) → parts (moved other c) ≡ map moved_part (parts c)
  parts_moved (Linear terms op bound) = linear_moved terms op bound
  parts_moved (Differ vars) = differ_moved vars
  parts_moved _ = refl

  terms_moved : (terms : List Term) → term_vars (map (moved_term other) terms) ≡ map other (term_vars terms)
  terms_moved terms = map_twice (moved_term other) (λ (t : Term). t.var) terms ∙ sym (map_twice (λ (t : Term). t.var) other terms)

  target_moved : (target : Target) → target_scope (moved_target other target) ≡ map other (target_scope target)
  target_moved (Const w) = refl
  target_moved (Variable x) = refl

  count_moved : (vars : List ℕ) (target : Target) → map other vars ++ target_scope (moved_target other target) ≡ map other (vars ++ target_scope target)
  count_moved vars target = ap (λ (xs : List ℕ). map other vars ++ xs) (target_moved target) ∙ sym (map-append other vars (target_scope target))

  part_scope_moved : (p : Part) → scope_of (moved_part p) ≡ map other (scope_of p)
  part_scope_moved (LinearPart terms op bound) = terms_moved terms
  part_scope_moved (CountPart value vars op target) = count_moved vars target
  part_scope_moved _ = refl

  pub scope_moved : (c : Con) → scope (moved other c) ≡ map other (scope c)
  scope_moved (Linear terms op bound) = terms_moved terms
  scope_moved (Count value vars op target) = count_moved vars target
  scope_moved _ = refl

  -- ---- what holds

  total_moved : (a : Assignment) (terms : List Term) → total a (map (moved_term other) terms) ≡ total (λ y. a (other y)) terms
  total_moved a [] = refl
  total_moved a (t ∷ terms) = ap (λ (s : ℤ). (t.factor *ℤ a (other t.var)) +ℤ s) (total_moved a terms)

  count_one : (a : Assignment) (v : ℤ) (b : Bool) (x : ℕ) (xs : List ℕ) → length (filter (λ y. int_eq (a y) v) (map other xs)) ≡ length (filter (λ y. int_eq (a (other y)) v) xs)
      → length (cond b (other x ∷ filter (λ y. int_eq (a y) v) (map other xs)) (filter (λ y. int_eq (a y) v) (map other xs))) ≡ length (cond b (x ∷ filter (λ y. int_eq (a (other y)) v) xs) (filter (λ y. int_eq (a (other y)) v) xs))
  count_one a v true x xs e = ap suc e
  count_one a v false x xs e = e

  counted_moved : (a : Assignment) (v : ℤ) (vars : List ℕ) → count_among a v (map other vars) ≡ count_among (λ y. a (other y)) v vars
  counted_moved a v [] = refl
  counted_moved a v (x ∷ xs) = count_one a v (int_eq (a (other x)) v) x xs (counted_moved a v xs)

  target_same : (a : Assignment) (target : Target) → target_of a (moved_target other target) ≡ target_of (λ y. a (other y)) target
  target_same a (Const w) = refl
  target_same a (Variable x) = refl

  holds_moved : (p : Part) (a : Assignment) → Holds (moved_part p) a → Holds p (λ y. a (other y))
  holds_moved (LinearPart terms op bound) a h = subst (λ (z : ℤ). Stands op z bound) (total_moved a terms) h
  holds_moved (TablePart vars rows) a h = subst (λ (row : List ℤ). Contains rows row) (map_twice other a vars) h
  holds_moved (CountPart value vars op target) a h =
      subst (λ (z : ℤ). Stands op (pos (count_among (λ y. a (other y)) value vars)) z) (target_same a target)
      (subst (λ (n : ℕ). Stands op (pos n) (target_of a (moved_target other target))) (counted_moved a value vars) h)
  holds_moved _ a h = h

  -- what lacks support lacks it under the other numbers too, within domains that have no more of the scope's values
  pub lacks_moved : (d e : Domains) (c : Con) (x : ℕ) (v : ℤ) → ((y : ℕ) (w : ℤ) → Contains (scope c) y → Has e (other y) w → Has d y w) → LacksSupport d c x v → LacksSupport e (moved other c) (other x) v
  lacks_moved d e c x v back l = record {
    part = moved_part l.part;
    is_part = subst (λ (ps : List Part). Contains ps (moved_part l.part)) (sym (parts_moved c)) (member_map moved_part (parts c) l.part l.is_part);
    over = subst (λ (xs : List ℕ). Contains xs (other x)) (sym (part_scope_moved l.part)) (member_map other (scope_of l.part) x l.over);
    lacks = λ s. l.lacks (record {
      assignment = λ y. s.assignment (other y);
      within = λ y m. back y (s.assignment (other y)) (part_scope c l.part y l.is_part m)
          (s.within (other y) (subst (λ (xs : List ℕ). Contains xs (other y)) (sym (part_scope_moved l.part)) (member_map other (scope_of l.part) y m)));
      gives = s.gives;
      holds = holds_moved l.part s.assignment s.holds;
    });
  }

-- a constraint with the other numbers says the same, of other variables with the same names
module _ (variables more : List BookVar) (other : ℕ → ℕ) where
  vars_named : (ys : List ℕ) → ((y : ℕ) → Contains ys y → name_of more (other y) ≡ name_of variables y) → map (name_of more) (map other ys) ≡ map (name_of variables) ys
  vars_named [] same = refl
  vars_named (y ∷ ys) same =
      ap (λ (name : List ℕ). name ∷ map (name_of more) (map other ys)) (same y (member_here y ys))
      ∙ ap (λ (names : List (List ℕ)). name_of variables y ∷ names) (vars_named ys (λ z m. same z (member_there y ys z m)))

  terms_named : (ts : List Term) → ((y : ℕ) → Contains (term_vars ts) y → name_of more (other y) ≡ name_of variables y) → map (named_term more) (map (moved_term other) ts) ≡ map (named_term variables) ts
  terms_named [] same = refl
  terms_named (t ∷ ts) same =
      let build : List ℕ → NameTerm = λ name. record { factor = t.factor; name = name } in
      ap (λ (name : List ℕ). build name ∷ map (named_term more) (map (moved_term other) ts)) (same t.var (member_here t.var (term_vars ts)))
      ∙ ap (λ (terms : List NameTerm). named_term variables t ∷ terms) (terms_named ts (λ z m. same z (member_there t.var (term_vars ts) z m)))

  target_named : (target : Target) → ((y : ℕ) → Contains (target_scope target) y → name_of more (other y) ≡ name_of variables y) → named_target more (moved_target other target) ≡ named_target variables target
  target_named (Const w) same = refl
  target_named (Variable x) same = ap VariableTarget (same x (member_here x []))

  pub named_moved : (c : Con) → ((y : ℕ) → Contains (scope c) y → name_of more (other y) ≡ name_of variables y) → named more (moved other c) ≡ named variables c
  named_moved (CompareVar left op right offset) same =
      ap (λ (name : List ℕ). CompareVarShape name op (name_of more (other right)) offset) (same left (member_here left (right ∷ [])))
      ∙ ap (λ (name : List ℕ). CompareVarShape (name_of variables left) op name offset) (same right (member_there left (right ∷ []) right (member_here right [])))
  named_moved (CompareConst left op value) same = ap (λ (name : List ℕ). CompareConstShape name op value) (same left (member_here left []))
  named_moved (Linear terms op bound) same = ap (λ (ts : List NameTerm). LinearShape ts op bound) (terms_named terms same)
  named_moved (Table vars rows) same = ap (λ (names : List (List ℕ)). TableShape names rows) (vars_named vars same)
  named_moved (Element outcome index entries) same =
      ap (λ (name : List ℕ). ElementShape name (name_of more (other index)) entries) (same outcome (member_here outcome (index ∷ [])))
      ∙ ap (λ (name : List ℕ). ElementShape (name_of variables outcome) name entries) (same index (member_there outcome (index ∷ []) index (member_here index [])))
  named_moved (Count value vars op target) same =
      ap (λ (names : List (List ℕ)). CountShape value names op (named_target more (moved_target other target)))
      (vars_named vars (λ y m. same y (Contains-append_left vars (target_scope target) y m)))
      ∙ ap (λ (t : NameTarget). CountShape value (map (name_of variables) vars) op t)
      (target_named target (λ y m. same y (Contains-append_right vars (target_scope target) y m)))
  named_moved (Differ vars) same = ap (λ (names : List (List ℕ)). DifferShape names) (vars_named vars same)
  named_moved (Within var values) same = ap (λ (name : List ℕ). WithinShape name (domain_with values)) (same var (member_here var []))
