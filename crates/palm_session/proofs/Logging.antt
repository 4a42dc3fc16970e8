-- The lines of a log, one by one.
use Rattle.std.proofs.Common.{◌≡◌, ℕ, zero, suc, ◌+◌, ◌<◌, List, [], ◌∷◌, ◌++◌, length, take, flat_map, get_or, option_to_list, All, Some, refl, sym, ap, ◌∙◌, subst, append-nil, arith}
use Rattle.std.specs.Prelude.{slice_get}
use Rattle.std.proofs.lemmas.List.{take_more}
use Rattle.std.proofs.lemmas.List.Elements.{All-head, All-tail}
use Rattle.std.proofs.lemmas.Option.{get_or_from_slice_get, none-some, same_Some, slice_get_within}
use Rattle.palm_base.specs.declared.terms.Pair.{Pair}
use Rattle.palm_base.specs.declared.terms.Cid.{Cid}
use Rattle.palm_base.specs.declared.terms.Cid.TheVariants.{User}
use Rattle.palm_explain.specs.Explanations.{log_bys, reasons_of}
use Rattle.palm_model.specs.Log.{Removal, log_pairs}
use Rattle.palm_book.specs.Book.{Contents, BookVar, IsUser, HasNumber, number_name, user_name}
use Rattle.palm_book.specs.declared.book.BookCon.{BookCon}
use Rattle.palm_lang.specs.Reply.{removal_line}
use Rattle.palm_session.specs.Answers.{log_line}
use Rattle.palm_session.specs.Logged.{IsLogged, AreLogged, log_line_at}

-- one more of the first members
pub take_some : {X : Type 0} (xs : List X) (i : ℕ) (x : X) → slice_get xs i ≡ Some x → take i xs ++ x ∷ [] ≡ take (i + 1) xs
take_some {X} xs i x at =
    ap (λ (y : X). take i xs ++ y ∷ []) (sym (get_or_from_slice_get xs i x x at)) ∙ sym (take_more xs i x (slice_get_within xs i x at))

-- the removal at a place is over the book's variables, by one of its constraints
module _ (book : Contents) where
  pub variable_at : (log : List Removal) → AreLogged book log → (place : ℕ) (pair : Pair) → slice_get (log_pairs log) place ≡ Some pair → pair.var < length book.variables
  variable_at [] logged place pair at = absurd (none-some pair at)
  variable_at (r ∷ log) logged zero pair at =
      subst (λ (p : Pair). p.var < length book.variables) (same_Some r.pair pair at) (All-head (IsLogged book) r log logged).variable
  variable_at (r ∷ log) logged (suc place) pair at = variable_at log (All-tail (IsLogged book) r log logged) place pair at

  pub user_at_place : (log : List Removal) → AreLogged book log → (place : ℕ) (by : Cid) → slice_get (log_bys log) place ≡ Some by → IsUser book by
  user_at_place [] logged place by at = absurd (none-some by at)
  user_at_place (r ∷ log) logged zero by at = subst (λ (c : Cid). IsUser book c) (same_Some r.by by at) (All-head (IsLogged book) r log logged).user
  user_at_place (r ∷ log) logged (suc place) by at = user_at_place log (All-tail (IsLogged book) r log logged) place by at

  pub reasons_at_place : (log : List Removal) → AreLogged book log → (place : ℕ) → place < length log → All (λ p. p.var < length book.variables) (reasons_of log place)
  reasons_at_place [] logged place lt = absurd (omega (arith, lt))
  reasons_at_place (r ∷ log) logged zero lt = (All-head (IsLogged book) r log logged).reasons
  reasons_at_place (r ∷ log) logged (suc place) lt = reasons_at_place log (All-tail (IsLogged book) r log logged) place (omega (arith, lt))

pub numbered_user : (book : Contents) (by : Cid) (n : ℕ) → by ≡ User n → IsUser book by → HasNumber book n
numbered_user book by n e user = subst (λ (c : Cid). IsUser book c) e user

line_same : (variables : List BookVar) (constraints : List BookCon) (p q : Pair) (by : Cid) (n : ℕ) (rs qs : List Pair) → q ≡ p → by ≡ User n → qs ≡ rs
    → removal_line variables (number_name constraints n) p rs ≡ removal_line variables (user_name constraints by) q qs
line_same variables constraints p q by n rs qs a b d =
    ap (λ (z : Pair). removal_line variables (number_name constraints n) z rs) (sym a) ∙ ap (λ (zs : List Pair). removal_line variables (number_name constraints n) q zs) (sym d)
    ∙ ap (λ (c : Cid). removal_line variables (user_name constraints c) q qs) (sym b)

-- the line of the removal at a place, by what is read there
pub line_at : (book : Contents) (log : List Removal) (place : ℕ) (pair : Pair) (by : Cid) (n : ℕ) (reasons : List Pair)
    → slice_get (log_pairs log) place ≡ Some pair → slice_get (log_bys log) place ≡ Some by → by ≡ User n → reasons ≡ reasons_of log place
    → removal_line book.variables (number_name book.constraints n) pair reasons ≡ log_line_at book log place
line_at book [] place pair by n reasons at there e rs = absurd (none-some pair at)
line_at book (r ∷ log) zero pair by n reasons at there e rs =
    line_same book.variables book.constraints pair r.pair r.by n reasons r.reasons (same_Some r.pair pair at) (same_Some r.by by there ∙ e) (sym rs) ∙ sym (append-nil (log_line book r))
line_at book (r ∷ log) (suc place) pair by n reasons at there e rs = line_at book log place pair by n reasons at there e rs

some_removal : (log : List Removal) (i : ℕ) → i < length log → (r : Removal) × (slice_get log i ≡ Some r)
some_removal [] i lt = absurd (omega (arith, lt))
some_removal (r ∷ log) zero lt = (r, refl)
some_removal (r ∷ log) (suc i) lt = some_removal log i (omega (arith, lt))

pub line_read : (book : Contents) (log : List Removal) (i : ℕ) → i < length log → (r : Removal) × (log_line_at book log i ≡ log_line book (get_or log i r))
line_read book log i lt =
    let r = some_removal log i lt in
    (r.0, ap (λ o. flat_map (log_line book) (option_to_list o)) r.1 ∙ append-nil (log_line book r.0) ∙ ap (λ (z : Removal). log_line book z) (sym (get_or_from_slice_get log i r.0 r.0 r.1)))
