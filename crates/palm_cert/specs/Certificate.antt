-- The text of a certificate: which removals, constraints and variables a claim needs, and the lines that say so.
use Rattle.std.specs.Prelude.{ℕ, ℤ, ◌+◌, Bool, ◌||◌, List, [], ◌∷◌, ◌++◌, length, map, filter, flat_map, codes, decimal, nat_eq, if◌then◌else◌}
use Rattle.std.specs.List.{list_any, range_with_len}
use Rattle.std.specs.Fmt.{signed_decimal}
use Rattle.palm_base.specs.declared.terms.Pair.{Pair}
use Rattle.palm_base.specs.declared.terms.Cid.TheVariants.{User}
use Rattle.palm_read.specs.Words.{spaced}
use Rattle.palm_book.specs.Book.{Contents, BookVar, name_of, user_name, values_at}
use Rattle.palm_book.specs.Named.{named}
use Rattle.palm_book.specs.declared.book.BookCon.{BookCon}
use Rattle.palm_read.specs.Text.{text_of}
use Rattle.palm_read.specs.declared.line.Line.TheVariants.{Add}
use Rattle.palm_lang.specs.Reply.{ended, fixed_text, var_line}
use Rattle.palm_lang.specs.declared.reply.Fixed.TheVariants.{End}
use Rattle.palm_claim.specs.declared.verdict.Claim.{Claim}
use Rattle.palm_claim.specs.declared.verdict.Claim.TheVariants.{Gone, Conflict}
use Rattle.palm_explain.specs.Needed.{pairs_with}
use Rattle.palm_model.specs.Domains.{is_among}
use Rattle.palm_base.specs.Order.{same_cid}
use Rattle.palm_model.specs.Log.{Removal}
use Rattle.palm_model.specs.State.{is_over}

-- ---- what a claim is about

-- its variable
abbrev pub claim_var : Claim → ℕ
claim_var (Gone pair) = pair.var
claim_var (Conflict x) = x

-- the values of the variable that are claimed to be gone: one, or all declared ones
abbrev pub claim_values : Contents → Claim → List ℤ
claim_values book (Gone pair) = pair.value ∷ []
claim_values book (Conflict x) = values_at book.variables x

-- the claimed pairs
abbrev pub claimed : Contents → Claim → List Pair
claimed book claim = pairs_with (claim_var claim) (claim_values book claim)

-- ---- what it needs

-- whether the pair is among the pairs
abbrev pub is_asked : List Pair → Pair → Bool
is_asked pairs p = is_among pairs p.var p.value

-- the claimed pairs, and the reasons of those of these removals whose pairs are asked for, by the claim or by a later one
abbrev pub asked : List Removal → List Pair → List Pair
asked [] pairs = pairs
asked (r ∷ later) pairs = if is_asked (asked later pairs) r.pair then asked later pairs ++ r.reasons else asked later pairs

-- the removals that the claim needs, in the order of the log
abbrev pub steps_of : List Removal → List Pair → List Removal
steps_of log pairs = filter (λ r. is_asked (asked log pairs) r.pair) log

-- whether one of the steps is by the constraint
abbrev pub is_cited : List Removal → BookCon → Bool
is_cited steps c = list_any (λ r. same_cid r.by (User c.number)) steps

-- the constraints of the steps, by rising number
abbrev pub cited : List Removal → Contents → List BookCon
cited steps book = filter (is_cited steps) book.constraints

-- whether the variable is the claimed one or in the scope of one of the constraints
abbrev pub is_used : List BookCon → ℕ → ℕ → Bool
is_used constraints claimed x = nat_eq claimed x || list_any (λ c. is_over c.con x) constraints

-- the variables that are used, in the order of the book
abbrev pub used : List BookCon → ℕ → Contents → List ℕ
used constraints claimed book = filter (is_used constraints claimed) (range_with_len 0 (length book.variables))

-- ---- lines

-- "palm-cert 1"
abbrev pub header_line : List ℕ
header_line = ended (codes "palm-cert 1")

-- "var" NAME DOMAIN
abbrev pub declared_line : List BookVar → ℕ → List ℕ
declared_line variables x = var_line (name_of variables x) (values_at variables x)

-- "add" NAME ":" CONSTRAINT
abbrev pub added_line : List BookVar → BookCon → List ℕ
added_line variables c = ended (text_of (Add c.name (named variables c.con)))

-- the numbers of those of the steps that proved one of the pairs, where the first of the steps has the number k
abbrev pub numbers_from : ℕ → List Removal → List Pair → List ℕ
numbers_from k [] pairs = []
numbers_from k (r ∷ steps) pairs = if is_asked pairs r.pair then k ∷ numbers_from (k + 1) steps pairs else numbers_from (k + 1) steps pairs

-- the numbers of the steps that proved one of the pairs, counted from 1 and ascending
abbrev pub numbers_of : List Removal → List Pair → List ℕ
numbers_of steps pairs = numbers_from 1 steps pairs

-- "from" K K, where there is a number
abbrev pub from_words : List ℕ → List (List ℕ)
from_words [] = []
from_words (k ∷ ks) = codes "from" ∷ map decimal (k ∷ ks)

-- "step" NAME VALUE "by" NAME, and the numbers
abbrev pub step_words : List BookVar → Pair → List ℕ → List ℕ → List (List ℕ)
step_words variables pair by numbers =
    codes "step" ∷ name_of variables pair.var ∷ signed_decimal pair.value ∷ codes "by" ∷ by ∷ from_words numbers

-- a step, with the numbers of the steps that proved its reasons
abbrev pub step_line : Contents → List Removal → Removal → List ℕ
step_line book steps r = ended (spaced (step_words book.variables r.pair (user_name book.constraints r.by) (numbers_of steps r.reasons)))

-- "claim" NAME VALUE, or "claim" "conflict" NAME
abbrev pub claim_words : List BookVar → Claim → List (List ℕ)
claim_words variables (Gone pair) = codes "claim" ∷ name_of variables pair.var ∷ signed_decimal pair.value ∷ []
claim_words variables (Conflict x) = codes "claim" ∷ codes "conflict" ∷ name_of variables x ∷ []

abbrev pub claim_line : List BookVar → Claim → List ℕ
claim_line variables claim = ended (spaced (claim_words variables claim))

-- ---- the text

-- the header, the variables, the constraints
abbrev pub declarations : Contents → List BookCon → ℕ → List ℕ
declarations book constraints x =
    header_line ++ flat_map (declared_line book.variables) (used constraints x book) ++ flat_map (added_line book.variables) constraints

-- the steps, the claim and the end
abbrev pub proof_lines : Contents → List Removal → Claim → List ℕ
proof_lines book steps claim = flat_map (step_line book steps) steps ++ claim_line book.variables claim ++ fixed_text End

-- the certificate that these steps are
abbrev pub text_with : Contents → List Removal → Claim → List ℕ
text_with book steps claim = declarations book (cited steps book) (claim_var claim) ++ proof_lines book steps claim

-- the certificate of the claim
abbrev pub certificate_text : Contents → List Removal → Claim → List ℕ
certificate_text book log claim = text_with book (steps_of log (claimed book claim)) claim
