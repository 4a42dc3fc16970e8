-- The text of a proof: the declarations, a lemma for each conflict that a search undoes and one for the conflict that ends
-- it, and how it ends.
use Rattle.std.specs.Prelude.{◌≡◌, ℕ, Bool, is_some, None, Option, List, [], ◌∷◌, ◌++◌, length, map, filter, flat_map, codes}
use Rattle.std.specs.List.{range_with_len}
use Rattle.palm_base.specs.declared.terms.Pair.{Pair}
use Rattle.palm_base.specs.declared.terms.Cid.{Cid}
use Rattle.palm_model.specs.State.{EngineState}
use Rattle.palm_book.specs.Book.{Contents, user_name}
use Rattle.palm_lang.specs.Reply.{ended, fixed_text, found_line, names_line, spent_line}
use Rattle.palm_lang.specs.declared.reply.Fixed.TheVariants.{End}
use Rattle.palm_lang.specs.declared.reply.Lead.TheVariants.{NoSolution as NoSolutionLead}
use Rattle.palm_cert.specs.Certificate.{added_line, declared_line}
use Rattle.palm_engine.specs.Following.{Hearing, LeadsAlong}
use Rattle.palm_search.specs.declared.ending.SearchEnd.{SearchEnd}
use Rattle.palm_search.specs.declared.ending.SearchEnd.TheVariants.{Found, NoSolution, Spent}
use Rattle.palm_search.specs.declared.turn.Turn.{Turn}
use Rattle.palm_search.specs.declared.turn.Turn.TheVariants.{Decide as TurnDecide, Undo as TurnUndo}
use Rattle.palm_search.specs.Following.{Moment, SearchesBy, moments}
use Rattle.palm_search.specs.Search.{HasNoSolution, SearchRun, Searches}
use Rattle.palm_search.specs.Turns.{SearchState}
use Rattle.proof_run.specs.Lemma.{IsLemmaOf}

-- ---- the declarations

-- "palm-proof 1"
abbrev pub header_line : List ℕ
header_line = ended (codes "palm-proof 1")

-- the header, every variable, and every active constraint by rising number
abbrev pub declarations : Contents → List ℕ
declarations book =
    header_line ++ flat_map (declared_line book.variables) (range_with_len 0 (length book.variables))
    ++ flat_map (added_line book.variables) (filter (λ c. c.active) book.constraints)

-- ---- the lemmas of turns

-- what turns have argued: the pairs whose decisions were undone, the earliest first, and the lemmas that say why
pub record Argument : Type 0 where
  pub undone : List Pair
  pub lemmas : List ℕ

abbrev pub unargued : Argument
unargued = record { undone = []; lemmas = [] }

-- a decision argues nothing, and an undoing the lemma of its conflict
abbrev pub ArguesTurn : Contents → SearchState → Turn → Argument → Argument → Type 0
ArguesTurn book s (TurnDecide pair pick) before after = after ≡ before
ArguesTurn book s (TurnUndo gone conflict) before after =
    (lemma : List ℕ) × IsLemmaOf book before.undone s conflict lemma × (after ≡ record { undone = before.undone ++ gone ∷ []; lemmas = before.lemmas ++ lemma })

abbrev pub Argues : Contents → Moment → Argument → Argument → Type 0
Argues book moment before after = ArguesTurn book moment.state moment.turn before after

-- ---- how it ends

-- the names of the constraints that have no solution
abbrev pub none_line : Contents → List Cid → List ℕ
none_line book users = names_line NoSolutionLead (map (user_name book.constraints) users)

-- the last lines of a run that ends so in the state: the lemma of the last conflict and its users, the values that were
-- found, or the turns that were spent
abbrev pub Concludes : Contents → List Pair → SearchState → SearchEnd → List ℕ → Type 0
Concludes book undone s (NoSolution users) text =
    (none : HasNoSolution s.engine users) × (lemma : List ℕ) × IsLemmaOf book undone s none.conflict lemma × (text ≡ lemma ++ none_line book users ++ fixed_text End)
Concludes book undone s (Found values) text = text ≡ found_line book.variables values ++ fixed_text End
Concludes book undone s (Spent turns) text = text ≡ spent_line turns None ++ fixed_text End

-- ---- the whole text

-- the text of a run
pub record IsTextOf (book : Contents) (guided ordered : Bool) (budget : ℕ) (s : EngineState) (turns : List Turn) (end : SearchEnd) (last : SearchState) (run : SearchRun guided ordered budget s turns end last) (text : List ℕ) : Type 0 where
  pub argued : Argument
  pub argues : LeadsAlong (Argues book) (moments guided ordered run.start turns last run.taken) unargued argued
  pub conclusion : List ℕ
  pub concludes : Concludes book argued.undone last end conclusion
  pub is : text ≡ declarations book ++ argued.lemmas ++ conclusion

-- a search, and the text of its run
pub record Proves (guided ordered : Bool) (budget : ℕ) (book : Contents) (s : EngineState) (turns : List Turn) (end : SearchEnd) (t : EngineState) (text : List ℕ) : Type 0 where
  pub searches : Searches guided ordered budget s turns end t
  pub writes : IsTextOf book guided ordered budget s turns end searches.last searches.run text

-- a search that led the guide and the order on, and the text of its run
pub record ProvesBy {G O : Type 0} (guiding : Moment → Option G → Option G → Type 0) (ordering : Hearing → Option O → Option O → Type 0) (guide_first guide_last : Option G) (order_first order_last : Option O)
    (budget : ℕ) (book : Contents) (s : EngineState) (turns : List Turn) (end : SearchEnd) (t : EngineState) (text : List ℕ) : Type 0 where
  pub by : SearchesBy guiding ordering guide_first guide_last order_first order_last budget s turns end t
  pub writes : IsTextOf book (is_some guide_first) (is_some order_first) budget s turns end by.searches.last by.searches.run text
