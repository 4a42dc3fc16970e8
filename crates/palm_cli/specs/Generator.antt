-- The generated session, and its summary: so many queens on a board of as many rows and columns, of which none may attack
-- another. A queen stands in each column, and its variable is the row.
use Rattle.std.specs.Prelude.{◌≡◌, ℕ, ◌+◌, ◌-◌, ◌≤◌, nat_lt, List, [], ◌∷◌, ◌++◌, length, map, flat_map, codes, decimal, if◌then◌else◌}
use Rattle.palm_base.specs.Numbers.{AreDigits, digits_number}
use Rattle.palm_lang.specs.Reply.{ended}
use Rattle.palm_session.specs.Answers.{Answers}
use Rattle.palm_session.specs.Objects.{numbered, numbered_from}
use Rattle.palm_session.specs.Replies.{Run}
use Rattle.palm_session.specs.State.{SessionState, fresh}
use Rattle.palm_cli.specs.declared.limits.TheConstants.{MOST_QUEENS, MOST_SIZE_DIGITS, SEARCH_BUDGET}

-- one to three digits for a number of queens
pub record IsSize (word : List ℕ) (size : ℕ) : Type 0 where
  pub digits : AreDigits word
  pub short : length word ≤ MOST_SIZE_DIGITS
  pub number : digits_number word ≡ size
  pub some : 1 ≤ size
  pub few : size ≤ MOST_QUEENS

-- ---- the lines

abbrev pub queen_name : ℕ → List ℕ
queen_name i = codes "q" ++ decimal i

-- the line that declares a queen
unfoldable pub queen_line : ℕ → ℕ → List ℕ
queen_line size i = codes "var " ++ queen_name i ++ codes " 1.." ++ decimal size

-- no two queens stand in one row
unfoldable pub differ_line : ℕ → List ℕ
differ_line size = codes "add d : differ" ++ flat_map (λ i. codes " " ++ queen_name i) (numbered size)

-- two queens do not stand on one diagonal, rising or falling
unfoldable pub diagonal_line : List ℕ → List ℕ → ℕ → ℕ → List ℕ
diagonal_line letter sign i j =
    (codes "add " ++ letter ++ decimal i ++ codes "_" ++ decimal j) ++ (codes " : " ++ queen_name i ++ codes " != " ++ queen_name j)
    ++ (codes " " ++ sign ++ codes " " ++ decimal (j - i))

abbrev pub pair_lines : ℕ → ℕ → List (List ℕ)
pair_lines i j = diagonal_line (codes "u") (codes "+") i j ∷ diagonal_line (codes "l") (codes "-") i j ∷ []

unfoldable pub solve_line : List ℕ
solve_line = codes "solve dbt budget " ++ decimal SEARCH_BUDGET

abbrev pub retract_line : List ℕ
retract_line = codes "retract d"

-- these lines, where there is more than one queen
abbrev pub where_several : ℕ → List (List ℕ) → List (List ℕ)
where_several size lines = if nat_lt 1 size then lines else []

-- the lines before the first `solve` line
abbrev pub posing_lines : ℕ → List (List ℕ)
posing_lines size =
    map (queen_line size) (numbered size) ++ where_several size (differ_line size ∷ [])
    ++ flat_map (λ i. flat_map (pair_lines i) (numbered_from (i + 1) (size - i))) (numbered (size - 1))

-- the lines between the two `solve` lines
abbrev pub easing_lines : ℕ → List (List ℕ)
easing_lines size = where_several size (retract_line ∷ [])

abbrev pub generated_lines : ℕ → List (List ℕ)
generated_lines size = posing_lines size ++ solve_line ∷ easing_lines size ++ solve_line ∷ []

abbrev pub generated_text : ℕ → List ℕ
generated_text size = flat_map ended (generated_lines size)

-- ---- the summary

-- how many queens, and how many lines
abbrev pub heading : ℕ → List ℕ
heading size = ended (codes "queens " ++ decimal size) ++ ended (codes "lines " ++ decimal (length (generated_lines size)))

-- the heading and the replies of the two `solve` lines among the replies to the lines, from a fresh session without guides
-- and orders
pub record IsSummary (size : ℕ) (summary : List ℕ) : Type 0 where
  pub posed : SessionState
  pub solved : SessionState
  pub eased : SessionState
  pub last : SessionState
  pub posing : List ℕ
  pub first : List ℕ
  pub easing : List ℕ
  pub second : List ℕ
  pub poses : Run (fresh [] []) (posing_lines size) posing posed
  pub solves : Answers posed solve_line first solved
  pub eases : Run solved (easing_lines size) easing eased
  pub solves_again : Answers eased solve_line second last
  pub whole : summary ≡ heading size ++ first ++ second
