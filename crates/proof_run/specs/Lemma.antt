-- The lemma of a conflict: the decisions that it rests on, the removals that it needs as steps, and its emptied variable.
use Rattle.std.specs.Prelude.{◌≡◌, ℕ, ◌+◌, List, [], ◌∷◌, ◌++◌, map, filter, flat_map, codes, decimal, if◌then◌else◌}
use Rattle.std.specs.Fmt.{signed_decimal}
use Rattle.palm_base.specs.declared.terms.Pair.{Pair}
use Rattle.palm_base.specs.declared.terms.Cid.{Cid}
use Rattle.palm_base.specs.declared.terms.Cid.TheVariants.{Decide, Not, User}
use Rattle.palm_base.specs.Order.{same_pair}
use Rattle.palm_model.specs.Domains.{values_of}
use Rattle.palm_model.specs.Log.{Removal, is_named}
use Rattle.palm_model.specs.State.{EngineState}
use Rattle.palm_read.specs.Lines.{ended}
use Rattle.palm_read.specs.Words.{spaced}
use Rattle.palm_book.specs.Book.{BookVar, Contents, name_of, user_name}
use Rattle.palm_cert.specs.Certificate.{from_words, numbers_of, steps_of}
use Rattle.palm_explain.specs.Needed.{pairs_with}
use Rattle.palm_search.specs.Turns.{SearchState, HasFlatConflict}

-- ---- which lemma gave a negation

-- the place of the last of the pairs that is this one, where the first of them has the place n, and `found` where none is
abbrev pub last_from : ℕ → ℕ → List Pair → Pair → ℕ
last_from n found [] p = found
last_from n found (q ∷ qs) p = last_from (n + 1) (if same_pair q p then n else found) qs p

-- the number of the lemma that gave the negation of a pair, where the lemmas gave those of these pairs, one after another:
-- the last one that did, counted from 1
abbrev pub lemma_of : List Pair → Pair → ℕ
lemma_of undone p = last_from 1 0 undone p

-- ---- what a lemma has

-- the decisions among the ids, in the order in which they were taken
abbrev pub held_decisions : List Pair → List Cid → List Pair
held_decisions decisions conflict = filter (λ p. is_named conflict (Decide p.var)) decisions

-- the removals that the emptied variable needs, in the order of the log
abbrev pub wiped_by : EngineState → ℕ → List Removal
wiped_by s x = steps_of s.log (pairs_with x (values_of s.initial x))

-- ---- its lines

-- NAME "=" VALUE
abbrev pub pair_word : List BookVar → Pair → List ℕ
pair_word variables p = name_of variables p.var ++ codes "=" ++ signed_decimal p.value

-- "lemma" and the pairs
abbrev pub lemma_words : List BookVar → List Pair → List (List ℕ)
lemma_words variables pairs = codes "lemma" ∷ map (pair_word variables) pairs

abbrev pub lemma_line : List BookVar → List Pair → List ℕ
lemma_line variables pairs = ended (spaced (lemma_words variables pairs))

-- why a step takes its pair out: by a decision, by the negation that a lemma gave, or by the constraint of a user for the
-- reasons that the steps with these numbers proved
abbrev pub why_words : Contents → List Pair → Cid → List ℕ → List (List ℕ)
why_words book undone (Decide x) numbers = codes "assume" ∷ []
why_words book undone (Not p) numbers = codes "lemma" ∷ decimal (lemma_of undone p) ∷ []
why_words book undone (User n) numbers = codes "by" ∷ user_name book.constraints (User n) ∷ from_words numbers

-- "step" NAME VALUE, and why
abbrev pub step_words : Contents → List Pair → Pair → Cid → List ℕ → List (List ℕ)
step_words book undone pair by numbers =
    codes "step" ∷ name_of book.variables pair.var ∷ signed_decimal pair.value ∷ why_words book undone by numbers

-- one of the steps
abbrev pub step_line : Contents → List Pair → List Removal → Removal → List ℕ
step_line book undone steps r = ended (spaced (step_words book undone r.pair r.by (numbers_of steps r.reasons)))

-- "wipe" NAME
abbrev pub wipe_words : List BookVar → ℕ → List (List ℕ)
wipe_words variables x = codes "wipe" ∷ name_of variables x ∷ []

abbrev pub wipe_line : List BookVar → ℕ → List ℕ
wipe_line variables x = ended (spaced (wipe_words variables x))

-- ---- the whole lemma

-- of these pairs and steps, where the lemmas before it gave the negations of the undone pairs, and x is emptied
abbrev pub text_of_lemma : Contents → List Pair → List Pair → List Removal → ℕ → List ℕ
text_of_lemma book undone pairs steps x =
    lemma_line book.variables pairs ++ flat_map (step_line book undone steps) steps ++ wipe_line book.variables x

-- the lemma of the state's flat conflict
pub record IsLemmaOf (book : Contents) (undone : List Pair) (s : SearchState) (conflict : List Cid) (text : List ℕ) : Type 0 where
  pub flat : HasFlatConflict s.engine conflict
  pub is : text ≡ text_of_lemma book undone (held_decisions s.decisions conflict) (wiped_by s.engine flat.var) flat.var
