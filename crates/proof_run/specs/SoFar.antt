-- The text of a run that is not over: what was to be written when it was broken off.
use Rattle.std.specs.Prelude.{◌≡◌, ℕ, ◌<◌, ◌≤◌, Bool, List, [], ◌++◌, length, Contains}
use Rattle.palm_base.specs.declared.terms.Pair.{Pair}
use Rattle.palm_base.specs.declared.terms.Cid.{Cid}
use Rattle.palm_base.specs.declared.terms.Cid.TheVariants.{Decide}
use Rattle.palm_model.specs.State.{EngineState}
use Rattle.palm_book.specs.Book.{Contents}
use Rattle.palm_engine.specs.Following.{LeadsAlong}
use Rattle.palm_search.specs.declared.ending.SearchEnd.{SearchEnd}
use Rattle.palm_search.specs.declared.turn.Turn.{Turn}
use Rattle.palm_search.specs.Breaking.{HasTurned}
use Rattle.palm_search.specs.Following.{moments}
use Rattle.palm_search.specs.Search.{EndsWith}
use Rattle.palm_search.specs.Turns.{SearchState}
use Rattle.proof_run.specs.Lemma.{IsLemmaOf}
use Rattle.proof_run.specs.Text.{Argument, Argues, Concludes, declarations, unargued}

-- what may follow the lemmas of so many turns, where these pairs were undone: nothing, the lemma of a conflict that is to be
-- undone, or how the run ends
pub data Follows (book : Contents) (undone : List Pair) (budget count : ℕ) (s : SearchState) (more : List ℕ) : Type 0 where
  nothing : more ≡ [] → Follows book undone budget count s more
  a_lemma : (conflict : List Cid) → count < budget → (x : ℕ) × Contains conflict (Decide x) → IsLemmaOf book undone s conflict more → Follows book undone budget count s more
  an_end : (end : SearchEnd) → EndsWith budget count s.engine end → Concludes book undone s end more → Follows book undone budget count s more

-- the declarations, where no turn was taken; or also the lemmas of the turns, of which the last one may be cut off, and what
-- follows them
pub data IsTextSoFar (book : Contents) (guided ordered : Bool) (budget : ℕ) (s : EngineState) (turns : List Turn) (text : List ℕ) : Type 0 where
  declaring : turns ≡ [] → text ≡ declarations book → IsTextSoFar book guided ordered budget s turns text
  arguing : (before cut : List Turn) (m : SearchState) (has : HasTurned guided ordered budget s before m) (argued : Argument) (more : List ℕ)
      → turns ≡ before ++ cut → length cut ≤ 1 → LeadsAlong (Argues book) (moments guided ordered has.start before m has.taken) unargued argued
      → Follows book argued.undone budget (length before) m more → text ≡ declarations book ++ argued.lemmas ++ more → IsTextSoFar book guided ordered budget s turns text
