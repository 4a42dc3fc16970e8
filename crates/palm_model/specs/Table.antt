-- Tables, which list the rows that are allowed: scope, limits, parts, reason.
use Rattle.std.specs.Prelude.{◌≡◌, ℕ, ℤ, List, [], ◌∷◌, length, map, filter, flat_map, take, All, Contains, Bool, not, ◌&&◌, ⊤}
use Rattle.std.specs.List.{list_any, list_all}
use Rattle.palm_base.specs.declared.terms.Pair.{Pair}
use Rattle.palm_model.specs.Domains.{Assignment, Domains, is_among, values_of}
use Rattle.palm_model.specs.Limits.{IsFewRows, IsValue}
use Rattle.palm_model.specs.Removed.{is_listed, others, pairs_of, removed_values}
use Rattle.palm_model.specs.declared.constraint.Con.{Con}
use Rattle.palm_model.specs.declared.constraint.Con.TheVariants.{CompareVar, CompareConst, Linear, Table, Element, Count, Differ}

-- a table
abbrev pub IsTable : Con → Type 0
IsTable (Table vars rows) = ⊤
IsTable _ = ⊥

-- a row for so many columns
abbrev pub IsRow : ℕ → List ℤ → Type 0
IsRow columns row = (length row ≡ columns) × All IsValue row

-- some rows, not too many, of values of the language, each as long as there are variables
abbrev pub IsTableShaped : List ℕ → List (List ℤ) → Type 0
IsTableShaped vars rows = IsFewRows rows × All (IsRow (length vars)) rows

-- the values of the variables are one of the rows
abbrev pub HoldsTable : List ℕ → List (List ℤ) → Assignment → Type 0
HoldsTable vars rows a = Contains rows (map a vars)

-- the variables with the entries of a row
abbrev pub row_pairs : List ℕ → List ℤ → List Pair
row_pairs [] row = []
row_pairs (y ∷ ys) [] = []
row_pairs (y ∷ ys) (w ∷ row) = record { var = y; value = w } ∷ row_pairs ys row

-- whether all of the pairs are there
abbrev pub are_there : Domains → List Pair → Bool
are_there d pairs = list_all (λ p. is_listed (values_of d p.var) p.value) pairs

-- the first of the pairs that is not there, if any
abbrev pub first_missing : Domains → List Pair → List Pair
first_missing d pairs = take 1 (filter (λ p. not (is_listed (values_of d p.var) p.value)) pairs)

-- whether the row has v in the column of x and all entries declared, and its first removed entry is w in the column of y
abbrev pub is_blocked_at : Domains → Domains → List ℕ → ℕ → ℤ → ℕ → ℤ → List ℤ → Bool
is_blocked_at initial present vars x v y w row =
    is_among (row_pairs vars row) x v && are_there initial (row_pairs vars row) && is_among (first_missing present (row_pairs vars row)) y w

-- the removed values of y that block a row with v in the column of x
abbrev pub blocking_values : Domains → Domains → List ℕ → List (List ℤ) → ℕ → ℤ → ℕ → List ℤ
blocking_values initial present vars rows x v y =
    filter (λ w. list_any (is_blocked_at initial present vars x v y w) rows) (removed_values initial present y)

-- for each row that could have given the value, its first removed entry
abbrev pub table_reason : Domains → Domains → List ℕ → List (List ℤ) → ℕ → ℤ → List Pair
table_reason initial present vars rows x v =
    flat_map (λ y. pairs_of y (blocking_values initial present vars rows x v y)) (others vars x)
