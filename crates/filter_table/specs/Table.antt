-- A table, its columns, and the rows that give a value.
use Rattle.std.specs.Prelude.{◌≡◌, ℕ, ◌-◌, ℤ, pos, ◌<◌, List, [], length, map, All, Bool, ◌&&◌, Some, slice_get, slice_index_or}
use Rattle.palm_base.specs.declared.terms.Pair.{Pair}
use Rattle.palm_model.specs.Constraint.{Distinct}
use Rattle.palm_model.specs.Domains.{Domains, Has, is_among}
use Rattle.palm_model.specs.Table.{are_there, row_pairs}
use Rattle.palm_model.specs.declared.constraint.Con.{Con}
use Rattle.palm_model.specs.declared.constraint.Con.TheVariants.{Table}
use Rattle.filter_table.specs.Beside.{AreBeside}
use Rattle.filter_table.specs.declared.beside.Beside.{Beside}
use Rattle.filter_table.specs.declared.indexed.IndexedTable.{IndexedTable}

abbrev pub table_of : IndexedTable → Con
table_of t = Table t.vars t.rows

-- the row at a place, and an empty one where there is none
abbrev pub row_at : List (List ℤ) → ℕ → List ℤ
row_at rows k = slice_index_or rows k []

-- the entries of a column, counted from 0
abbrev pub column_values : List (List ℤ) → ℕ → List ℤ
column_values rows c = map (λ row. slice_index_or row c (pos 0)) rows

-- the entry of a row in a column, with the variable of the column
abbrev pub entry_at : List ℕ → List ℤ → ℕ → Pair
entry_at vars row c = record { var = slice_index_or vars c 0; value = slice_index_or row c (pos 0) }

-- the domains have the entry of a row in a column
abbrev pub HasEntry : Domains → List ℕ → List ℤ → ℕ → Type 0
HasEntry d vars row c = Has d (slice_index_or vars c 0) (slice_index_or row c (pos 0))

-- the first so many columns of the rows, one after another
pub record AreColumns (rows : List (List ℤ)) (count : ℕ) (columns : List (List ℤ)) : Type 0 where
  pub many : length columns ≡ count
  pub each : (c : ℕ) (d : List ℤ) → c < count → slice_index_or columns c d ≡ column_values rows c

-- the bits of the first columns of two, as many as there are
pub record AreBesides (columns : List (List ℤ)) (besides : List Beside) : Type 0 where
  pub each : (c : ℕ) (b : Beside) → slice_get besides c ≡ Some b → AreBeside (slice_index_or columns c []) (slice_index_or columns (1 - c) []) (length (slice_index_or columns c [])) b

-- the rows are as long as the variables, which differ, and each column has its index
pub record IsIndexed (t : IndexedTable) : Type 0 where
  pub distinct : Distinct t.vars
  pub long : All (λ row. length row ≡ length t.vars) t.rows
  pub columns : AreColumns t.rows (length t.vars) t.columns.items
  pub besides : AreBesides t.columns.items t.besides.items

-- whether the row has v in the column of x, and every entry of it is present
abbrev pub is_support_row : Domains → List ℕ → ℕ → ℤ → List ℤ → Bool
is_support_row present vars x v row = is_among (row_pairs vars row) x v && are_there present (row_pairs vars row)
