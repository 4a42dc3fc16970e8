-- What an order object is asked and told along a settling.
use Rattle.std.specs.Prelude.{◌≡◌, ℕ, ◌-◌, ◌^◌, ⊤, min, is_some, List, [], ◌∷◌, Option, None, Some}
use Rattle.palm_base.specs.declared.terms.Cid.{Cid}
use Rattle.palm_model.specs.State.{EngineState}
use Rattle.palm_engine.specs.Settling.{Revision, Revisions}
use Rattle.palm_engine.specs.Engine.{View, HasSettled, IsInterrupted}
use Rattle.palm_engine.specs.declared.settle.Settle.{Settle}

-- the steps for these things, one after another, lead from the first to the last
abbrev pub LeadsAlong : {T X : Type 0} → (T → X → X → Type 0) → List T → X → X → Type 0
LeadsAlong step [] first last = last ≡ first
LeadsAlong {X = X} step (t ∷ things) first last = (between : X) × step t first between × LeadsAlong step things between last

-- ---- one revision

-- a revision, and the ids that were pending before it
pub record Hearing : Type 0 where
  pub pending : List Cid
  pub revision : Revision

-- how many values a revision took out, as an order is told it: 4,294,967,295 where there were more
abbrev pub told_count : ℕ → ℕ
told_count removed = min removed (2 ^ 32 - 1)

-- an order is asked with these pending ids and answers so, by its own relation; where there is none, there is none
abbrev pub OrderAnswers : {O : Type 0} → (O → List Cid → ℕ → List ℕ → Type 0) → (O → List ℕ) → List Cid → ℕ → Option O → Option O → Type 0
OrderAnswers answers state pending answer None None = ⊤
OrderAnswers answers state pending answer None (Some after) = ⊥
OrderAnswers answers state pending answer (Some before) None = ⊥
OrderAnswers answers state pending answer (Some before) (Some after) = answers before pending answer (state after)

-- an order is told of a revision of this constraint, and how many values that took out
abbrev pub OrderHears : {O : Type 0} → (O → Cid → ℕ → List ℕ → Type 0) → (O → List ℕ) → Cid → ℕ → Option O → Option O → Type 0
OrderHears hears state cid removed None None = ⊤
OrderHears hears state cid removed None (Some after) = ⊥
OrderHears hears state cid removed (Some before) None = ⊥
OrderHears hears state cid removed (Some before) (Some after) = hears before cid (told_count removed) (state after)

-- an order is asked once before the revision, which it answers, and is told it once after it
pub record OrderFollows {O : Type 0} (answers : O → List Cid → ℕ → List ℕ → Type 0) (hears : O → Cid → ℕ → List ℕ → Type 0) (state : O → List ℕ) (h : Hearing) (before after : Option O) : Type 0 where
  pub between : Option O
  pub asked : OrderAnswers answers state h.pending h.revision.answer before between
  pub told : OrderHears hears state h.revision.cid h.revision.removed between after

-- ---- a settling

-- what is heard of the revisions, each with the ids that were pending before it
abbrev pub hearings : (s : EngineState) (rs : List Revision) (t : EngineState) → Revisions s rs t → List Hearing
hearings s [] t run = []
hearings s (r ∷ rs) t run = record { pending = s.pending; revision = r } ∷ hearings run.0 rs t run.2

-- a settling, and its revisions led the order from the one state to the other
pub record HasSettledBy {O : Type 0} (follows : Hearing → Option O → Option O → Type 0) (limit : Option ℕ) (first last : Option O) (answer : Settle) (before after : View) : Type 0 where
  pub settled : HasSettled limit (is_some first) answer before after
  pub followed : LeadsAlong follows (hearings before.state settled.revisions after.state settled.settles.revisions) first last

-- an interrupted settling, and the revisions that ended led the order on; then it was asked for the interrupted one, and
-- told nothing of that
pub record IsInterruptedBy {O : Type 0} (answers : List Cid → ℕ → Option O → Option O → Type 0) (follows : Hearing → Option O → Option O → Type 0) (limit : Option ℕ) (first last : Option O) (before after : View) : Type 0 where
  pub interrupted : IsInterrupted limit (is_some first) before after
  pub between : Option O
  pub followed : LeadsAlong follows (hearings before.state interrupted.revisions interrupted.middle interrupted.ended) first between
  pub asked : answers interrupted.middle.pending interrupted.answer between last
