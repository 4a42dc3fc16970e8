-- Support by a table.
use Rattle.std.proofs.Common.{◌≡◌, ℕ, ℤ, ◌<◌, Bool, true, false, List, length, map, All, Contains, refl, sym, ap, ◌∙◌, subst}
use Rattle.std.specs.List.{list_any}
use Rattle.std.proofs.lemmas.Bool.{and_parts, and_from, both_ways}
use Rattle.std.proofs.lemmas.List.Elements.{All-contains}
use Rattle.palm_base.proofs.cited.Members.{member_same, member_single}
use Rattle.palm_base.specs.declared.terms.Pair.{Pair}
use Rattle.palm_model.specs.Constraint.{scope, Distinct, IsWellFormed}
use Rattle.palm_model.specs.Domains.{Domains, is_among}
use Rattle.palm_model.specs.Part.{scope_of}
use Rattle.palm_model.specs.Support.{HasSupport, IsSupported, LacksSupport}
use Rattle.palm_model.specs.Table.{are_there, row_pairs, table_reason}
use Rattle.palm_model.specs.Reason.{reason}
use Rattle.palm_model.specs.declared.constraint.Con.{Con}
use Rattle.palm_model.specs.declared.constraint.Con.TheVariants.{Table}
use Rattle.palm_model.specs.declared.part.Part.TheVariants.{Table as TablePart}
use Rattle.palm_model.proofs.cited.Supports.{any_member, member_any, supported_by_part, lacking_by_part}
use Rattle.palm_reason.proofs.cited.TableRows.{among_gives, gives_among, there_gives, gives_there}
use Rattle.filter_table.specs.Table.{IsIndexed, is_support_row, table_of}
use Rattle.filter_table.specs.declared.indexed.IndexedTable.{IndexedTable}
use Rattle.filter_table.proofs.Columned.{entry_of, row_is}

-- ---- support

module _ (vars : List ℕ) (rows : List (List ℤ)) (x : ℕ) (v : ℤ) where
  pub given_supports : (d : Domains) → Distinct vars → All (λ row. length row ≡ length vars) rows → list_any (is_support_row d vars x v) rows ≡ true → HasSupport d (TablePart vars rows) x v
  given_supports d distinct long h =
      let r = any_member (is_support_row d vars x v) rows h in
      let a = entry_of vars r.0 in
      let is = row_is vars r.0 distinct (All-contains (λ row. length row ≡ length vars) rows r.0 long r.1) in
      let t = and_parts (is_among (row_pairs vars r.0) x v) (are_there d (row_pairs vars r.0)) r.2 in
      record {
        assignment = a;
        within = there_gives vars a d (subst (λ row. are_there d (row_pairs vars row) ≡ true) is t.1);
        gives = (among_gives vars a x v (subst (λ row. is_among (row_pairs vars row) x v ≡ true) is t.0)).1;
        holds = member_same rows r.0 (map a vars) is r.1;
      }

  pub support_given : (d : Domains) → Contains vars x → HasSupport d (TablePart vars rows) x v → list_any (is_support_row d vars x v) rows ≡ true
  support_given d over s =
      let a = s.assignment in
      member_any (is_support_row d vars x v) rows (map a vars) s.holds
      (and_from (is_among (row_pairs vars (map a vars)) x v) (are_there d (row_pairs vars (map a vars))) (gives_among vars a x v over s.gives) (gives_there vars a d s.within))

-- ---- what the filter answers

module _ (t : IndexedTable) (indexed : IsIndexed t) (m : Con) (is : table_of t ≡ m) (x : ℕ) (v : ℤ) where
  pub asks_declared : (n : ℕ) → IsWellFormed n m → All (λ y. y < n) t.vars
  asks_declared n formed = (subst (IsWellFormed n) (sym is) formed).declared

  -- the variable has a column
  pub asks_over : Contains (scope m) x → Contains t.vars x
  asks_over over = subst (λ k. Contains (scope k) x) (sym is) over

  pub answers_supported : (d : Domains) (b : Bool) → b ≡ list_any (is_support_row d t.vars x v) t.rows → b ≡ true → IsSupported d m x v
  answers_supported d b e h =
      subst (λ k. IsSupported d k x v) is
      (supported_by_part d (Table t.vars t.rows) (TablePart t.vars t.rows) x v refl (given_supports t.vars t.rows x v d indexed.distinct indexed.long (sym e ∙ h)))

  pub answers_lacking : (d : Domains) (b : Bool) → b ≡ list_any (is_support_row d t.vars x v) t.rows → Contains (scope m) x → b ≡ false → LacksSupport d m x v
  answers_lacking d b e over h =
      let over_t = asks_over over in
      subst (λ k. LacksSupport d k x v) is
      (lacking_by_part d (Table t.vars t.rows) (TablePart t.vars t.rows) x v refl over_t (λ s. both_ways b h (e ∙ support_given t.vars t.rows x v d over_t s)))

  -- so has one whose value lacks support
  pub lacking_over : (d : Domains) → LacksSupport d m x v → Contains t.vars x
  lacking_over d lacking =
      let l = subst (λ k. LacksSupport d k x v) (sym is) lacking in
      let e : TablePart t.vars t.rows ≡ l.part = member_single (TablePart t.vars t.rows) l.part l.is_part in
      subst (λ p. Contains (scope_of p) x) (sym e) l.over

  pub gives_reason : (initial present : Domains) (out : List Pair) → out ≡ table_reason initial present t.vars t.rows x v → out ≡ reason initial present m x v
  gives_reason initial present out e = e ∙ ap (λ k. reason initial present k x v) is
