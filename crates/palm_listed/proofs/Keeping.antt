-- What is listed stays so: a variable and a constraint more, and pairs that are taken out and put back.
use Rattle.std.proofs.Common.{◌≡◌, ℕ, zero, suc, ℤ, ◌+◌, ◌<◌, ◌≤◌, true, Some, List, [], ◌∷◌, ◌++◌, length, map, get_or, slice_get, option_map, refl, sym, ap, ◌∙◌, subst, arith, length-append}
use Rattle.std.proofs.lemmas.List.{get_or_default, length-map, map_push}
use Rattle.std.proofs.lemmas.List.Elements.{All-contains, All-push, All-weaker}
use Rattle.std.proofs.lemmas.Option.{same_Some, slice_get-map, slice_get_read}
use Rattle.palm_base.proofs.cited.Members.{member_get}
use Rattle.palm_book.specs.Book.{Contents, BookVar, IsBook, initial_of, listed}
use Rattle.palm_book.specs.declared.book.BookCon.{BookCon}
use Rattle.palm_domain.specs.Rows.{Row}
use Rattle.palm_domain.specs.Rows as rows
use Rattle.palm_kind.specs.Kind.{con_of}
use Rattle.palm_kind.specs.declared.kind.Kind.{Kind}
use Rattle.palm_model.specs.Constraint.{IsWellFormed}
use Rattle.palm_model.specs.declared.constraint.Con.{Con}
use Rattle.palm_listed.specs.Lists.{AreListed}
use Rattle.palm_listed.specs.Store.{IsFull}

abbrev row : List ℤ → Row
row vs = record { initial = vs; present = vs }

full_push : (store : List Row) (vs : List ℤ) → IsFull store → IsFull (store ++ row vs ∷ [])
full_push [] vs full zero v h = h
full_push [] vs full (suc x) v h = h
full_push (r ∷ rs) vs full zero v h = full zero v h
full_push (r ∷ rs) vs full (suc x) v h = full_push rs vs (λ y w k. full (suc y) w k) x v h

pub keeps_variable : (book : Contents) (store : List Row) (kinds : List Kind) (name : List ℕ) (vs : List ℤ)
    → AreListed book store kinds → (now : Contents) → IsBook now → now ≡ record book { variables = book.variables ++ record { name = name; values = vs } ∷ [] }
    → (after : List Row) → after ≡ store ++ row vs ∷ [] → AreListed now after kinds
keeps_variable book store kinds name vs kept now formed is after grown =
    let bigger : Contents = record book { variables = book.variables ++ record { name = name; values = vs } ∷ [] } in
    let entry : BookVar = record { name = name; values = vs } in
    let same : rows.initial_of (store ++ row vs ∷ []) ≡ initial_of bigger =
    map_push (λ (r : Row). r.initial) store (row vs) ∙ ap (λ ls. ls ++ vs ∷ []) kept.initial ∙ sym (map_push (λ (e : BookVar). e.values) book.variables entry) in
    let made : IsBook bigger → AreListed bigger (store ++ row vs ∷ []) kinds = λ formed. record {
      formed = formed;
      initial = same;
      full = full_push store vs kept.full;
      filters = kept.filters;
      numbers = kept.numbers;
    } in
    subst (λ (s : List Row). AreListed now s kinds) (sym grown)
    (subst (λ (b : Contents). IsBook b → AreListed b (store ++ row vs ∷ []) kinds) (sym is) made formed)

pub keeps_constraint : (book : Contents) (store : List Row) (kinds : List Kind) (name : List ℕ) (con : Con) (kind : Kind)
    → AreListed book store kinds → con_of kind ≡ con → (now : Contents) → IsBook now → now ≡ record book { constraints = book.constraints ++ listed book name con ∷ [] }
    → (after : List Kind) → after ≡ kinds ++ kind ∷ [] → AreListed now store after
keeps_constraint book store kinds name con kind kept means now formed is after grown =
    let c : BookCon = listed book name con in
    let bigger : Contents = record book { constraints = book.constraints ++ c ∷ [] } in
    let filters : map con_of (kinds ++ kind ∷ []) ≡ map (λ (d : BookCon). d.con) bigger.constraints =
    map_push con_of kinds kind ∙ ap (λ ls. ls ++ con_of kind ∷ []) kept.filters ∙ ap (λ (k : Con). map (λ (d : BookCon). d.con) book.constraints ++ k ∷ []) means
    ∙ sym (map_push (λ (d : BookCon). d.con) book.constraints c) in
    let long : length bigger.constraints ≡ length book.constraints + 1 = length-append book.constraints (c ∷ []) in
    let made : IsBook bigger → AreListed bigger store (kinds ++ kind ∷ []) = λ formed. record {
      formed = formed;
      initial = kept.initial;
      full = kept.full;
      filters = filters;
      numbers = All-push (λ (d : BookCon). d.number ≤ length bigger.constraints) book.constraints c
          (All-weaker (λ (d : BookCon). d.number ≤ length book.constraints) (λ (d : BookCon). d.number ≤ length bigger.constraints) (λ d h. omega (arith, h, long)) book.constraints kept.numbers)
          (omega (arith, long));
    } in
    subst (λ (ks : List Kind). AreListed now store ks) (sym grown)
    (subst (λ (b : Contents). IsBook b → AreListed b store (kinds ++ kind ∷ [])) (sym is) made formed)

-- another store with the same declared values, all present
pub keeps_store : (book : Contents) (store after : List Row) (kinds : List Kind) → AreListed book store kinds → rows.initial_of after ≡ rows.initial_of store → IsFull after → AreListed book after kinds
keeps_store book store after kinds kept same full = record {
  formed = kept.formed;
  initial = same ∙ kept.initial;
  full = full;
  filters = kept.filters;
  numbers = kept.numbers;
}

-- ---- what is looked up

pub rows_long : (book : Contents) (store : List Row) (kinds : List Kind) → AreListed book store kinds → length store ≡ length book.variables
rows_long book store kinds kept =
    sym (length-map store (λ (r : Row). r.initial)) ∙ ap length kept.initial ∙ length-map book.variables (λ (e : BookVar). e.values)

-- the filter at a place is that of the constraint there
pub filter_at : (book : Contents) (store : List Row) (kinds : List Kind) (place : ℕ) (kind : Kind) (c : BookCon)
    → AreListed book store kinds → place < length book.constraints → kind ≡ get_or kinds place kind → slice_get book.constraints place ≡ Some c → con_of kind ≡ c.con
filter_at book store kinds place kind c kept lt read at =
    let long : length kinds ≡ length book.constraints =
    sym (length-map kinds con_of) ∙ ap length kept.filters ∙ length-map book.constraints (λ (d : BookCon). d.con) in
    let here : slice_get kinds place ≡ Some kind = slice_get_read kinds (length kinds) place kind refl (omega (arith, long, lt)) read in
    same_Some (con_of kind) c.con
    (ap (option_map con_of) (sym here) ∙ sym (slice_get-map con_of kinds place) ∙ ap (λ ks. slice_get ks place) kept.filters
    ∙ slice_get-map (λ (d : BookCon). d.con) book.constraints place ∙ ap (option_map (λ (d : BookCon). d.con)) at)

pub formed_at : (book : Contents) (store : List Row) (kinds : List Kind) (place : ℕ) (kind : Kind)
    → AreListed book store kinds → place < length book.constraints → kind ≡ get_or kinds place kind → IsWellFormed (length store) (con_of kind)
formed_at book store kinds place kind kept lt read =
    let c : BookCon = get_or book.constraints place (listed book [] (con_of kind)) in
    let at : slice_get book.constraints place ≡ Some c = slice_get_read book.constraints (length book.constraints) place c refl lt
    (get_or_default book.constraints place (listed book [] (con_of kind)) c lt) in
    let formed : IsWellFormed (length book.variables) c.con =
    All-contains (λ (d : BookCon). IsWellFormed (length book.variables) d.con) book.constraints c kept.formed.formed (member_get book.constraints place c at) in
    subst (λ (n : ℕ). IsWellFormed n (con_of kind)) (sym (rows_long book store kinds kept))
    (subst (IsWellFormed (length book.variables)) (sym (filter_at book store kinds place kind c kept lt read at)) formed)

-- the book with one more constraint, behind so many others
abbrev pub numbered : Contents → ℕ → List ℕ → Con → Contents
numbered book n name con = record book { constraints = book.constraints ++ record { number = n + 1; name = name; active = true; con = con } ∷ [] }
