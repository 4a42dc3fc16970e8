-- What an admitted request does.
use Rattle.std.specs.Prelude.{◌≡◌, ℕ, ℤ, ◌+◌, ◌==◌, not, filter, Bool, true, false, List, [], ◌∷◌, ◌++◌, length, Option, Some, None, is_some, slice_get, remove, if◌then◌else◌}
use Rattle.palm_base.specs.declared.terms.Cid.{Cid}
use Rattle.palm_base.specs.declared.terms.Cid.TheVariants.{User}
use Rattle.palm_model.specs.State.{EngineState}
use Rattle.palm_model.specs.Event.{Posts, Withdraws, Declares}
use Rattle.palm_model.specs.declared.constraint.Con.{Con}
use Rattle.palm_model.specs.declared.constraint.Con.TheVariants.{Within as WithinCon}
use Rattle.palm_engine.specs.Settling.{Revision, Settles, FitsOrder}
use Rattle.palm_search.specs.declared.ending.SearchEnd.{SearchEnd}
use Rattle.palm_search.specs.declared.ending.SearchEnd.TheVariants.{Found, NoSolution, Spent}
use Rattle.palm_search.specs.Search.{Searches as SearchesWhole}
use Rattle.palm_search.specs.declared.turn.Turn.{Turn}
use Rattle.palm_repair.specs.Repair.{Repairs}
use Rattle.palm_best.specs.Ends.{Minimizes}
use Rattle.palm_best.specs.declared.best.Best.{Best}
use Rattle.palm_best.specs.declared.best.Best.TheVariants.{Least as LeastFound, NoSolution as NoneFound, Spent as SpentBest}
use Rattle.proof_run.specs.Text.{Proves}
use Rattle.palm_book.specs.Book.{with_active, user_at}
use Rattle.palm_book.specs.declared.book.BookCon.{BookCon}
use Rattle.palm_prefer.specs.declared.weights.Weight.{Weight}
use Rattle.palm_read.specs.Domain.{values_in}
use Rattle.palm_read.specs.declared.line.DomainText.{DomainText}
use Rattle.palm_session.specs.declared.request.Procedure.{Procedure}
use Rattle.palm_session.specs.declared.request.Procedure.TheVariants.{Dbt, Repair, Proof, Least}
use Rattle.palm_session.specs.declared.request.Request.{Request}
use Rattle.palm_session.specs.declared.request.Request.TheVariants.{Nothing as NothingAsked, Header as HeaderAsked, Declare, DeclareIn, Add, Relax, Enforce, Retract, Ask, Pause, Resume, Step, Solve, ChooseGuide, DropGuide, ChooseOrder, DropOrder, Prefer, Quit}
use Rattle.palm_session.specs.Objects.{without_number, chosen_without}
use Rattle.palm_session.specs.State.{SessionState}

-- how the end of a search is told: in a line, with how many nogoods it dropped, where that is told; in full, by its proof; as
-- the best values, which these constraints prove; or with the best values so far, if some were found
pub data Telling : Type 0 where
  InShort : (dropped : Option ℕ) → Telling
  InFull : (text : List ℕ) → Telling
  AsLeast : (users : List Cid) → Telling
  SoFar : (best : Option (List ℤ)) → Telling

-- what happened at a request, beside what is held after it: a settling of so many revisions, or a search that ended so and is
-- told so
pub data Effect : Type 0 where
  Nothing : Effect
  Settled : (revisions : ℕ) → Effect
  Searched : (end : SearchEnd) (telling : Telling) → Effect

-- ---- what a request changes

-- the engine holds another state
abbrev pub with_engine : SessionState → EngineState → SessionState
with_engine s e = record s { engine = e }

-- the engine holds another state, after a search of these turns
abbrev pub with_search : SessionState → List Turn → EngineState → SessionState
with_search s turns e = record s { journal = turns; engine = e }

-- a variable behind the others
abbrev pub with_variable : SessionState → List ℕ → List ℤ → SessionState
with_variable s name values = record s {
  book = record s.book { variables = s.book.variables ++ record { name = name; values = values } ∷ [] };
}

-- the constraint that is added next
abbrev pub next_constraint : SessionState → List ℕ → Con → BookCon
next_constraint s name con = record { number = s.accepted + 1; name = name; active = true; con = con }

-- it stands behind the others, active, under the next number
abbrev pub with_constraint : SessionState → List ℕ → Con → SessionState
with_constraint s name con = record s {
  book = record s.book { constraints = s.book.constraints ++ next_constraint s name con ∷ [] };
  accepted = s.accepted + 1;
}

-- the constraint at the place is active or relaxed
abbrev pub with_active_at : SessionState → ℕ → Bool → SessionState
with_active_at s place active = record s { book = record s.book { constraints = with_active s.book.constraints place active } }

-- the weights without that of the constraint with the number
abbrev pub without_weight : ℕ → List Weight → List Weight
without_weight number weights = filter (λ w. not (w.number == number)) weights

-- the weights where the constraint with the number has this one, or none
abbrev pub weighing : ℕ → Option ℕ → List Weight → List Weight
weighing number None weights = without_weight number weights
weighing number (Some weight) weights = without_weight number weights ++ record { number = number; weight = weight } ∷ []

-- the constraint has this weight, or none
abbrev pub with_weight : SessionState → BookCon → Option ℕ → SessionState
with_weight s c weight = record s { weights = weighing c.number weight s.weights }

-- the constraint at the place is taken out of the book, and its weight with it
abbrev pub without_constraint : SessionState → ℕ → BookCon → SessionState
without_constraint s place c = record s {
  book = record s.book { constraints = remove s.book.constraints place };
  weights = without_weight c.number s.weights;
}

-- the guide with the number is there no longer, and where it was chosen, none is
abbrev pub without_guide : SessionState → ℕ → SessionState
without_guide s number = record s { guides = without_number number s.guides; guide = chosen_without number s.guide }

-- the order with the number is there no longer, and where it was chosen, none is
abbrev pub without_order : SessionState → ℕ → SessionState
without_order s number = record s { orders = without_number number s.orders; order = chosen_without number s.order }

-- the constraint is withdrawn where it is active, and else nothing changes
abbrev pub WithdrawsWhere : Bool → EngineState → Cid → EngineState → Type 0
WithdrawsWhere true e cid after = Withdraws e cid after
WithdrawsWhere false e cid after = after ≡ e

abbrev pub WithdrawsActive : EngineState → BookCon → EngineState → Type 0
WithdrawsActive e c after = WithdrawsWhere c.active e (User c.number) after

-- the constraint that the variable which is declared next has a value of the domain
abbrev pub next_within : SessionState → DomainText → Con
next_within s domain = WithinCon (length s.book.variables) (values_in domain)

-- a variable is declared with the values of the domain
abbrev pub DeclaresNext : SessionState → List ℕ → DomainText → SessionState → Type 0
DeclaresNext s name domain t = (e : EngineState) × Declares s.engine (values_in domain) e × (t ≡ with_engine (with_variable s name (values_in domain)) e)

-- a constraint is added under the next number
abbrev pub AddsNext : SessionState → List ℕ → Con → SessionState → Type 0
AddsNext s name con t = (e : EngineState) × Posts s.engine (user_at (next_constraint s name con)) e × (t ≡ with_engine (with_constraint s name con) e)

-- what the request changes before anything is filtered
abbrev pub Changes : SessionState → Request → SessionState → Type 0
Changes s NothingAsked t = t ≡ s
Changes s HeaderAsked t = t ≡ s
Changes s (Declare name domain) t = DeclaresNext s name domain t
Changes s (DeclareIn name universe domain) t = (m : SessionState) × DeclaresNext s name universe m × AddsNext m name (next_within s domain) t
Changes s (Add name con) t = AddsNext s name con t
Changes s (Relax place) t =
    (c : BookCon) × (e : EngineState) × (slice_get s.book.constraints place ≡ Some c) × Withdraws s.engine (User c.number) e
    × (t ≡ with_engine (with_active_at s place false) e)
Changes s (Enforce place) t =
    (c : BookCon) × (e : EngineState) × (slice_get s.book.constraints place ≡ Some c) × Posts s.engine (user_at c) e
    × (t ≡ with_engine (with_active_at s place true) e)
Changes s (Retract place) t =
    (c : BookCon) × (e : EngineState) × (slice_get s.book.constraints place ≡ Some c) × WithdrawsActive s.engine c e
    × (t ≡ with_engine (without_constraint s place c) e)
Changes s (Ask question) t = t ≡ s
Changes s Pause t = t ≡ record s { paused = true }
Changes s Resume t = t ≡ record s { paused = false }
Changes s (Step count) t = t ≡ s
Changes s (Solve by) t = t ≡ s
Changes s (ChooseGuide chosen) t = t ≡ record s { guide = chosen }
Changes s (DropGuide number) t = t ≡ without_guide s number
Changes s (ChooseOrder chosen) t = t ≡ record s { order = chosen }
Changes s (DropOrder number) t = t ≡ without_order s number
Changes s (Prefer place weight) t = (c : BookCon) × (slice_get s.book.constraints place ≡ Some c) × (t ≡ with_weight s c weight)
Changes s Quit t = t ≡ s

-- ---- what follows

-- nothing, filtering as far as it goes or for so many revisions at most, or a search
pub data Next : Type 0 where
  Rests : Next
  Filters : (limit : Option ℕ) → Next
  Searches : (by : Procedure) → Next

-- a change is followed by filtering, unless it waits
abbrev pub unless_paused : SessionState → Next
unless_paused s = if s.paused then Rests else Filters None

-- what follows the request in what is held after its change
abbrev pub next : SessionState → Request → Next
next s (DeclareIn name universe domain) = unless_paused s
next s (Add name con) = unless_paused s
next s (Relax place) = unless_paused s
next s (Enforce place) = unless_paused s
next s (Retract place) = unless_paused s
next s Resume = unless_paused s
next s (Step count) = Filters (Some count)
next s (Solve by) = Searches by
next s _ = Rests

-- the engine settles by the chosen order object, or without one, in so many revisions
pub record SettlesIn (s : SessionState) (limit : Option ℕ) (count : ℕ) (e : EngineState) : Type 0 where
  pub revisions : List Revision
  pub settles : Settles limit s.engine revisions e
  pub fits : FitsOrder (is_some s.order) revisions
  pub counted : length revisions ≡ count

-- the engine searches by mac-dbt, by the chosen guide and order or without them: it takes these turns, and ends so; how many
-- nogoods were dropped is not told
pub record SearchesByDbt (s : SessionState) (budget : ℕ) (turns : List Turn) (end : SearchEnd) (telling : Telling) (e : EngineState) : Type 0 where
  pub searches : SearchesWhole (is_some s.guide) (is_some s.order) budget s.engine turns end e
  pub told : telling ≡ InShort None

-- the same by decision-repair, which tells how many nogoods it dropped
pub record SearchesByRepair (s : SessionState) (tabu budget : ℕ) (turns : List Turn) (end : SearchEnd) (telling : Telling) (e : EngineState) : Type 0 where
  pub count : ℕ
  pub repairs : Repairs (is_some s.guide) (is_some s.order) tabu budget s.engine turns end count e
  pub told : telling ≡ InShort (Some count)

-- the same by mac-dbt, and the proof is told, which speaks of the book
pub record SearchesByProof (s : SessionState) (budget : ℕ) (turns : List Turn) (end : SearchEnd) (telling : Telling) (e : EngineState) : Type 0 where
  pub text : List ℕ
  pub proves : Proves (is_some s.guide) (is_some s.order) budget s.book s.engine turns end e text
  pub told : telling ≡ InFull text

-- the end of a search that the end of a minimization is, and how that is told
abbrev pub best_end : Best → SearchEnd
best_end (LeastFound values users) = Found values
best_end (NoneFound users) = NoSolution users
best_end (SpentBest turns best) = Spent turns

abbrev pub best_telling : Best → Telling
best_telling (LeastFound values users) = AsLeast users
best_telling (NoneFound users) = InShort None
best_telling (SpentBest turns best) = SoFar best

-- the same by mac-dbt that goes on below the values that it finds, until the variable has its least value
pub record SearchesByLeast (s : SessionState) (target budget : ℕ) (turns : List Turn) (end : SearchEnd) (telling : Telling) (e : EngineState) : Type 0 where
  pub best : Best
  pub minimizes : Minimizes (is_some s.guide) (is_some s.order) target budget s.engine turns best e
  pub ended : end ≡ best_end best
  pub told : telling ≡ best_telling best

abbrev pub SearchesIn : SessionState → Procedure → List Turn → SearchEnd → Telling → EngineState → Type 0
SearchesIn s (Dbt budget) turns end telling e = SearchesByDbt s budget turns end telling e
SearchesIn s (Repair tabu budget) turns end telling e = SearchesByRepair s tabu budget turns end telling e
SearchesIn s (Proof budget) turns end telling e = SearchesByProof s budget turns end telling e
SearchesIn s (Least target budget) turns end telling e = SearchesByLeast s target budget turns end telling e

abbrev pub Follows : SessionState → Next → Effect → SessionState → Type 0
Follows s Rests Nothing t = t ≡ s
Follows s (Filters limit) (Settled count) t = (e : EngineState) × SettlesIn s limit count e × (t ≡ with_engine s e)
Follows s (Searches by) (Searched end telling) t = (turns : List Turn) × (e : EngineState) × SearchesIn s by turns end telling e × (t ≡ with_search s turns e)
Follows s _ _ t = ⊥

-- what the session holds after an admitted request, and what happened
abbrev pub Does : SessionState → Request → Effect → SessionState → Type 0
Does s request effect t = (m : SessionState) × Changes s request m × Follows m (next m request) effect t
