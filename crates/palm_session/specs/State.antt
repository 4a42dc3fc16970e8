-- What a session holds between two lines.
use Rattle.std.specs.Prelude.{◌≡◌, ℕ, ◌≤◌, Bool, true, false, List, [], All, Contains, Option, None, IfSome}
use Rattle.std.specs.List.{list_any}
use Rattle.palm_model.specs.Domains.{Domains}
use Rattle.palm_model.specs.Closure.{IsGreatest}
use Rattle.palm_model.specs.Log.{cons_of}
use Rattle.palm_model.specs.State.{EngineState, IsValid, blank}
use Rattle.palm_events.specs.Along.{IsStill}
use Rattle.palm_book.specs.declared.limits.TheConstants.{MOST_ADDED}
use Rattle.palm_read.specs.declared.mode.Mode.{Mode}
use Rattle.palm_read.specs.declared.mode.Mode.TheVariants.{First}
use Rattle.palm_search.specs.declared.turn.Turn.{Turn}
use Rattle.palm_prefer.specs.Preferred.{AreWeights}
use Rattle.palm_prefer.specs.declared.weights.Weight.{Weight}
use Rattle.palm_book.specs.Book.{Contents, IsBook, initial_of, active_of}
use Rattle.palm_book.specs.Book as in_book

-- the mode in which the next line is read, the book, the weights of its constraints, how many accepted lines added a constraint,
-- whether filtering waits, the guides and orders (the numbers of those that are there, and which one is chosen), the turns of the
-- last search, and what the engine holds
pub record SessionState : Type 0 where
  pub mode : Mode
  pub book : Contents
  pub weights : List Weight
  pub accepted : ℕ
  pub paused : Bool
  pub guides : List ℕ
  pub orders : List ℕ
  pub guide : Option ℕ
  pub order : Option ℕ
  pub journal : List Turn
  pub engine : EngineState

-- no line, no variable, no constraint, no weight, no search so far; the guides and orders that were handed in are there, and none is
-- chosen
abbrev pub fresh : List ℕ → List ℕ → SessionState
fresh guides orders = record {
  mode = First;
  book = record { variables = []; constraints = [] };
  weights = [];
  accepted = 0;
  paused = false;
  guides = guides;
  orders = orders;
  guide = None;
  order = None;
  journal = [];
  engine = blank [];
}

-- what a session holds, also in the midst of a line: the weights are of present constraints, and the engine has the book's
-- variables and its active constraints, and no decision and no negation
pub record IsHeld (s : SessionState) : Type 0 where
  pub book : IsBook s.book
  pub weights : AreWeights s.book s.weights
  pub accepted : s.accepted ≤ MOST_ADDED
  pub numbered : All (λ c. c.number ≤ s.accepted) s.book.constraints
  pub guide : IfSome s.guide (Contains s.guides)
  pub order : IfSome s.order (Contains s.orders)
  pub initial : s.engine.initial ≡ initial_of s.book
  pub active : s.engine.active ≡ active_of s.book
  pub valid : IsValid s.engine

-- a state that a session can hold between two lines: while filtering does not wait, nothing is pending or a domain is empty
pub record IsState (s : SessionState) : Type 0 where
  pub held : IsHeld s
  pub still : s.paused ≡ false → IsStill s.engine

-- a variable has the name
abbrev pub HasVariable : SessionState → List ℕ → Type 0
HasVariable s name = in_book.HasVariable s.book name

-- a constraint has the name
abbrev pub HasConstraint : SessionState → List ℕ → Type 0
HasConstraint s name = in_book.HasConstraint s.book name

-- the greatest closed domains of the active constraints
abbrev pub AreDomains : SessionState → Domains → Type 0
AreDomains s d = IsGreatest (initial_of s.book) (Contains (cons_of (active_of s.book))) d

abbrev pub is_nil : {X : Type 0} → List X → Bool
is_nil [] = true
is_nil _ = false

-- some variable has no value
abbrev pub has_empty : Domains → Bool
has_empty d = list_any is_nil d

-- filtering does not wait, and some variable has no value in the greatest closed domains
pub record IsContradiction (s : SessionState) : Type 0 where
  pub awake : s.paused ≡ false
  pub domains : Domains
  pub greatest : AreDomains s domains
  pub empty : has_empty domains ≡ true
