-- What an agenda holds: the connected constraints with their marks, and the ids of those that wait to be revised.
use Rattle.std.specs.Prelude.{◌≡◌, ℕ, ℤ, ◌+◌, ◌%◌, ◌^◌, ◌<◌, ◌≤◌, ◌⊎◌, if◌then◌else◌, Bool, not, Some, List, [], ◌∷◌, ◌++◌, length, map, filter, All, Contains, nat_eq, nat_lt, slice_get, slice_set, replicate}
use Rattle.std.specs.List.{list_any}
use Rattle.palm_base.specs.declared.terms.Cid.{Cid}
use Rattle.palm_base.specs.declared.terms.Cid.TheVariants.{User}
use Rattle.palm_base.specs.Order.{Rises, StandsAt, cid_before, same_cid}
use Rattle.palm_model.specs.Log.{is_named}
use Rattle.palm_model.specs.State.{without_cid}
use Rattle.palm_filter.specs.declared.heed.Heed.{Heed}
use Rattle.palm_filter.specs.declared.heed.Heed.TheVariants.{Alone}
use Rattle.palm_agenda.specs.declared.loss.Loss.{Loss}
use Rattle.palm_agenda.specs.declared.mark.Mark.{Mark}
use Rattle.palm_agenda.specs.declared.mark.Mark.TheVariants.{Clear, Whole}
use Rattle.palm_agenda.specs.declared.taken.Taken.{Taken}
use Rattle.palm_agenda.specs.Losses.{heed_of, mark_after}
use Rattle.palm_agenda.specs.Marks.{widened}

-- a constraint by its id, the variables of its scope, for each place of the scope, as far as it is told, how it heeds losses of the
-- variable, and for each place a mark: which values of the variable may lack support
pub record Connected : Type 0 where
  pub cid : Cid
  pub scope : List ℕ
  pub heeds : List Heed
  pub marks : List Mark

-- the connected constraints by rising id, and the ids of those that are pending, by rising id too
pub record Waiting : Type 0 where
  pub connected : List Connected
  pub pending : List Cid

-- the ids of connected constraints
abbrev pub connected_cids : List Connected → List Cid
connected_cids connected = map (λ d. d.cid) connected

-- a constraint is connected under the id
pub record IsConnected (connected : List Connected) (cid : Cid) : Type 0 where
  pub owner : Connected
  pub listed : Contains connected owner
  pub named : owner.cid ≡ cid

-- a constraint that was taken stands where it is told
abbrev pub IsStanding : List Connected → Taken → Type 0
IsStanding connected taken = StandsAt (λ (d : Connected). d.cid) connected taken.at taken.cid

-- each user's constraint stands so far behind its number, in words that wrap around
abbrev pub IsRun : List Connected → ℕ → Type 0
IsRun connected lag = (n place : ℕ) → StandsAt (λ (d : Connected). d.cid) connected place (User n) → (lag + n) % 2 ^ 64 ≡ place

-- a constraint over the variable is connected under the id
pub record IsOver (connected : List Connected) (x : ℕ) (cid : Cid) : Type 0 where
  pub owner : Connected
  pub listed : Contains connected owner
  pub named : owner.cid ≡ cid
  pub over : Contains owner.scope x

-- the scope of the constraint under the id has the place
pub record HasPlace (connected : List Connected) (cid : Cid) (place : ℕ) : Type 0 where
  pub owner : Connected
  pub listed : Contains connected owner
  pub named : owner.cid ≡ cid
  pub within : place < length owner.scope

-- there is a mark for each place
abbrev pub HasMarks : Connected → Type 0
HasMarks d = length d.marks ≡ length d.scope

-- no loss that leaves several values marks the constraint: it heeds losses of a variable where one value is left alone, or is over no
-- other one
abbrev pub HeedsAlone : Connected → Type 0
HeedsAlone d = (x : ℕ) → Contains d.scope x → (heed_of x d.scope d.heeds ≡ Alone) ⊎ ((y : ℕ) → Contains d.scope y → y ≡ x)

-- what holds of every agenda
pub record IsFormed (w : Waiting) : Type 0 where
  pub rising : Rises (connected_cids w.connected)
  pub pending_rising : Rises w.pending
  pub pending_connected : (c : Cid) → Contains w.pending c → IsConnected w.connected c
  pub marks : All HasMarks w.connected

-- ---- connected constraints

-- a constraint that is marked whole
abbrev pub marked_whole : Cid → List ℕ → List Heed → Connected
marked_whole cid scope heeds = record { cid = cid; scope = scope; heeds = heeds; marks = replicate (length scope) Whole }

-- the connected constraints with one more, by rising id
abbrev pub with_connected : Connected → List Connected → List Connected
with_connected d connected = filter (λ e. cid_before e.cid d.cid) connected ++ d ∷ filter (λ e. cid_before d.cid e.cid) connected

-- the connected constraints but the one under this id
abbrev pub without_connected : Cid → List Connected → List Connected
without_connected cid connected = filter (λ d. not (is_named (cid ∷ []) d.cid)) connected

-- ---- marks

-- the marks, with the change at each place whose variable passes the test
abbrev pub marks_changed : (ℕ → Bool) → (Mark → Mark) → List ℕ → List Mark → List Mark
marks_changed test change [] marks = marks
marks_changed test change (x ∷ scope) [] = []
marks_changed test change (x ∷ scope) (mark ∷ marks) = (if test x then change mark else mark) ∷ marks_changed test change scope marks

-- the constraint with the change at each of these marks
abbrev pub changed_where : (ℕ → Bool) → (Mark → Mark) → Connected → Connected
changed_where test change d = record d { marks = marks_changed test change d.scope d.marks }

-- whether the constraint is over the variable
abbrev pub is_over : ℕ → Connected → Bool
is_over x d = list_any (λ y. nat_eq y x) d.scope

-- where the constraint is over the variable, each place of another variable is marked as it heeds the loss
abbrev pub mark_others : ℕ → Loss → Connected → Connected
mark_others x loss d = if is_over x d then changed_where (λ y. not (nat_eq y x)) (mark_after (heed_of x d.scope d.heeds) loss) d else d

-- each place of the variable is marked from the one value to the other besides
abbrev pub mark_own : ℕ → ℤ → ℤ → Connected → Connected
mark_own x low high d = changed_where (λ y. nat_eq y x) (widened low high) d

-- the change, at the constraint under this id alone
abbrev pub changed_at : Cid → (Connected → Connected) → Connected → Connected
changed_at cid change d = if same_cid cid d.cid then change d else d

-- the change, at the constraints under these ids
abbrev pub changed_among : List Cid → (Connected → Connected) → Connected → Connected
changed_among cids change d = if is_named cids d.cid then change d else d

-- the constraint without the mark at a place
abbrev pub unmarked : ℕ → Connected → Connected
unmarked place d = record d { marks = slice_set d.marks place Clear }

-- ---- the next constraint

-- an index, or 0 where it is out of range
abbrev pub index_within : ℕ → ℕ → ℕ
index_within index count = if nat_lt index count then index else 0

-- the id at the answered index is pending no longer
pub record Takes (before after : List Cid) (answer : ℕ) (cid : Cid) : Type 0 where
  pub chosen : slice_get before (index_within answer (length before)) ≡ Some cid
  pub pending : after ≡ without_cid cid before

-- the first pending constraints, at most so many, are pending no longer; none of them has a mark
pub record TakesClear (before after : Waiting) (most count : ℕ) : Type 0 where
  pub taken : List Cid
  pub order : before.pending ≡ taken ++ after.pending
  pub many : length taken ≡ count
  pub within : count ≤ most
  pub connected : after.connected ≡ before.connected
  pub clear : (d : Connected) → Contains before.connected d → Contains taken d.cid → All (λ mark. mark ≡ Clear) d.marks
