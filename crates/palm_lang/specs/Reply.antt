-- The texts of replies: each is a line with its line feed.
use Rattle.std.specs.Prelude.{ℕ, ℤ, Bool, true, false, Option, Some, None, List, [], ◌∷◌, ◌++◌, map, flat_map, zip, slice_get, option_to_list, codes, decimal}
use Rattle.std.specs.List.{join_by}
use Rattle.std.specs.Fmt.{signed_decimal}
use Rattle.palm_base.specs.declared.terms.Pair.{Pair}
use Rattle.palm_model.specs.declared.constraint.Con.{Con}
use Rattle.palm_book.specs.Named.{named}
use Rattle.palm_book.specs.Book.{BookVar, Contents, name_of}
use Rattle.palm_read.specs.Interval.{values_text}
pub use Rattle.palm_read.specs.Lines.{ended}
use Rattle.palm_read.specs.Text.{shape_words}
use Rattle.palm_read.specs.Words.{spaced}
use Rattle.palm_book.specs.declared.book.BookCon.{BookCon}
use Rattle.palm_lang.specs.declared.reply.Fixed.{Fixed}
use Rattle.palm_lang.specs.declared.reply.Fixed.TheVariants.{Done, Contradiction, Paused, Present, Consistent, Bye, End}
use Rattle.palm_lang.specs.declared.reply.Refusal.{Refusal}
use Rattle.palm_lang.specs.declared.reply.Refusal.TheVariants.{E1, E2, E3, E4, E5, E6, E7, E8, E9, E10, E11, E12}
use Rattle.palm_lang.specs.declared.reply.Lead.{Lead}
use Rattle.palm_lang.specs.declared.reply.Lead.TheVariants.{Because, Conflict, NoSolution, Proved, HardConflict, Keep}

-- a reply of one word
abbrev pub fixed_word : Fixed → List ℕ
fixed_word Done = codes "ok"
fixed_word Contradiction = codes "contradiction"
fixed_word Paused = codes "paused"
fixed_word Present = codes "present"
fixed_word Consistent = codes "consistent"
fixed_word Bye = codes "bye"
fixed_word End = codes "end"

abbrev pub fixed_text : Fixed → List ℕ
fixed_text word = ended (fixed_word word)

abbrev pub refusal_words : Refusal → List ℕ
refusal_words E1 = codes "error E1 bytes or length"
refusal_words E2 = codes "error E2 no such form"
refusal_words E3 = codes "error E3 name taken"
refusal_words E4 = codes "error E4 unknown variable"
refusal_words E5 = codes "error E5 unknown constraint"
refusal_words E6 = codes "error E6 number out of range"
refusal_words E7 = codes "error E7 limit"
refusal_words E8 = codes "error E8 repeated variable"
refusal_words E9 = codes "error E9 empty or zero"
refusal_words E10 = codes "error E10 wrong state"
refusal_words E11 = codes "error E11 no such object"
refusal_words E12 = codes "error E12 value never declared"

abbrev pub refusal_text : Refusal → List ℕ
refusal_text refusal = ended (refusal_words refusal)

-- how many revisions ran
abbrev pub ran_text : ℕ → List ℕ
ran_text revisions = ended (codes "ran " ++ decimal revisions)

-- a variable's values: NAME: v v v
abbrev pub domain_line : List ℕ → List ℤ → List ℕ
domain_line name values = ended (name ++ codes ":" ++ flat_map (λ v. codes " " ++ signed_decimal v) values)

-- a variable as `list` shows it
abbrev pub var_line : List ℕ → List ℤ → List ℕ
var_line name values = ended (spaced (codes "var" ∷ name ∷ values_text values ∷ []))

-- the text of a constraint, as a line says it
abbrev pub con_text : List BookVar → Con → List ℕ
con_text variables con = spaced (shape_words (named variables con))

abbrev pub state_word : Bool → List ℕ
state_word true = codes "active"
state_word false = codes "relaxed"

-- a constraint as `list` shows it
abbrev pub entry_line : List BookVar → BookCon → List ℕ
entry_line variables entry =
    ended (spaced (decimal entry.number ∷ state_word entry.active ∷ entry.name ∷ codes ":" ∷ con_text variables entry.con ∷ []))

-- the constraint at a place of the book
abbrev pub entry_at : Contents → ℕ → List ℕ
entry_at book place = flat_map (entry_line book.variables) (option_to_list (slice_get book.constraints place))

-- NAME VALUE
abbrev pub pair_text : List BookVar → Pair → List ℕ
pair_text variables pair = name_of variables pair.var ++ codes " " ++ signed_decimal pair.value

-- the reasons of a removal, if it has any
abbrev pub reasons_text : List BookVar → List Pair → List ℕ
reasons_text variables [] = []
reasons_text variables (p ∷ ps) = codes " from " ++ join_by (pair_text variables) (codes ", ") (p ∷ ps)

-- a removal as `log` shows it
abbrev pub removal_line : List BookVar → List ℕ → Pair → List Pair → List ℕ
removal_line variables by pair reasons =
    ended (pair_text variables pair ++ codes " by " ++ by ++ reasons_text variables reasons)

abbrev pub lead_word : Lead → List ℕ
lead_word Because = codes "because"
lead_word Conflict = codes "conflict"
lead_word NoSolution = codes "none"
lead_word Proved = codes "proved by"
lead_word HardConflict = codes "hard conflict"
lead_word Keep = codes "keep"

-- names of constraints behind what leads them
abbrev pub names_line : Lead → List (List ℕ) → List ℕ
names_line lead names = ended (spaced (lead_word lead ∷ names))

-- a constraint that is left out, and the names of those with which it is a conflict, itself among them
abbrev pub leave_line : List ℕ → List (List ℕ) → List ℕ
leave_line name names = ended (spaced (codes "leave" ∷ name ∷ codes "conflict" ∷ names))

-- NAME=VALUE
abbrev pub assigned_text : BookVar × ℤ → List ℕ
assigned_text assigned = assigned.0.name ++ codes "=" ++ signed_decimal assigned.1

-- an assignment to all variables behind a word
abbrev pub assigned_line : List ℕ → List BookVar → List ℤ → List ℕ
assigned_line word variables values = ended (spaced (word ∷ map assigned_text (zip variables values)))

-- an assignment that was searched for
abbrev pub found_line : List BookVar → List ℤ → List ℕ
found_line variables values = assigned_line (codes "found") variables values

-- an assignment in which a variable is least
abbrev pub best_line : List BookVar → List ℤ → List ℕ
best_line variables values = assigned_line (codes "best") variables values

-- the turns of a search that ended without an answer, and what was dropped on the way, if that is told
abbrev pub spent_line : ℕ → Option ℕ → List ℕ
spent_line turns None = ended (codes "spent " ++ decimal turns)
spent_line turns (Some dropped) = ended (codes "spent " ++ decimal turns ++ codes " dropped " ++ decimal dropped)

-- the turns of a search for a least value that ended without an answer, and the best assignment on the way
abbrev pub spent_best_line : ℕ → List BookVar → List ℤ → List ℕ
spent_best_line turns variables values =
    ended (spaced (codes "spent" ∷ decimal turns ∷ codes "best" ∷ map assigned_text (zip variables values)))
