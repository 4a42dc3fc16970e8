-- How far a revision has come over the values of a variable.
use Rattle.std.specs.Prelude.{◌≡◌, ◌≢◌, ◌<ℤ◌, ◌≤ℤ◌, ⊤, ℕ, ℤ, not, Option, Some, None, IfSome, MatchOption, pos, ◌+ℤ◌, List, [], ◌∷◌, All, filter, length, Contains, ◌<◌, int_lt}
use Rattle.std.specs.Int.{int_min}
use Rattle.std.specs.Ordering.{int_eq}
use Rattle.palm_domain.specs.Rows.{IsNextFrom, Row, initial_of, present_of}
use Rattle.palm_domain.specs.declared.placed.Placed.{Placed}
use Rattle.palm_model.specs.Domains.{Domains, Has, values_of}
use Rattle.palm_filter.specs.Shapes.{LeavesFree}
use Rattle.palm_model.specs.Log.{Active}
use Rattle.palm_model.specs.Removed.{pairs_of}
use Rattle.palm_model.specs.State.{IsEmptyAt}
use Rattle.palm_model.specs.Support.{IsSupported, LacksSupport}
use Rattle.palm_agenda.specs.declared.mark.Mark.{Mark}
use Rattle.palm_agenda.specs.Marks.{MayLack}
use Rattle.palm_engine.specs.Reasons.{Covers}
use Rattle.palm_engine.specs.Revising.{IsRevising, Walked}
use Rattle.palm_engine.specs.declared.reasons.ReasonRoom.{ReasonRoom}
use Rattle.palm_engine.specs.declared.filtering.Filtering.{Filtering}

-- the value of the next one of a walk from place to place
abbrev pub placed_value : Option Placed → Option ℤ
placed_value (Some p) = Some p.value
placed_value None = None

-- the values below the bound
abbrev pub values_below : ℤ → List ℤ → List ℤ
values_below low vs = filter (λ v. int_lt v low) vs

-- the values from the bound on
abbrev pub values_from : ℤ → List ℤ → List ℤ
values_from low vs = filter (λ v. not (int_lt v low)) vs

-- the values before the next one, or all
abbrev pub values_before : Option ℤ → List ℤ → List ℤ
values_before (Some v) vs = values_below v vs
values_before None vs = vs

-- the value is before the next one
abbrev pub IsBefore : Option ℤ → ℤ → Type 0
IsBefore (Some v) w = w <ℤ v
IsBefore None w = ⊤

-- the values before the next one were walked over; those of them that are left have support, and only this variable may be empty
pub record Advanced (active : List Active) (owner : Active) (x : ℕ) (next : Option ℤ) (before now : Filtering) : Type 0 where
  pub revising : IsRevising now active owner
  pub walked : Walked active owner (pairs_of x (values_before next (values_of (initial_of before.store) x))) before now
  pub present : IfSome next (λ v. Has (present_of now.store) x v)
  pub supported : (w : ℤ) → Contains (values_before next (values_of (initial_of before.store) x)) w → Has (present_of now.store) x w → IsSupported (present_of now.store) owner.con x w
  pub alone : (y : ℕ) → IsEmptyAt (present_of now.store) y → y ≡ x

-- every present value of the variable above the bound lacks support
abbrev pub LacksAbove : Filtering → Active → ℕ → ℤ → Type 0
LacksAbove f owner x last = (v : ℤ) → Has (present_of f.store) x v → last <ℤ v → LacksSupport (present_of f.store) owner.con x v

-- every present value of the variable from the next one on, and before the one that has support, if there is one, lacks it
abbrev pub LacksFrom : Filtering → Active → ℕ → Option ℤ → Option ℤ → Type 0
LacksFrom f owner x until None = ⊤
LacksFrom f owner x until (Some low) = (v : ℤ) → Has (present_of f.store) x v → low ≤ℤ v → IsBefore until v → LacksSupport (present_of f.store) owner.con x v

-- the least one of these values from the bound on, if there is one
abbrev pub IsNextAt : Option ℤ → List ℤ → ℤ → Type 0
IsNextAt next vs low = MatchOption next ((w : ℤ) → Contains vs w → w <ℤ low) (IsNextFrom vs low)

-- the next one, if there is one, is above the value
abbrev pub IsLater : ℤ → Option ℤ → Type 0
IsLater v next = IfSome next (λ w. v <ℤ w)

-- behind the value the others of the list are the next ones of these values, one after another, and then comes this one
abbrev pub AreInTurn : List ℤ → ℤ → List ℤ → Option ℤ → Type 0
AreInTurn here v [] next = IsNextAt next here (v +ℤ pos 1)
AreInTurn here v (w ∷ rest) next = IsNextAt (Some w) here (v +ℤ pos 1) × AreInTurn here w rest next

-- how far the values that lack support were taken out
pub record TakenFrom (owner : Active) (x : ℕ) (until from next : Option ℤ) (before now : Filtering) : Type 0 where
  pub advanced : (active : List Active) (start : Filtering) → Advanced active owner x from start before → Advanced active owner x next start now
  pub revising : (active : List Active) → IsRevising before active owner → IsRevising now active owner
  pub lacking : LacksFrom now owner x until next
  pub checks : now.checks ≡ before.checks

-- the room has gathered this value and the next ones of these values, up to before the next one that is left: those behind it are before
-- the other bound and covered by what the room knows
pub record HasGathered (here : List ℤ) (v : ℤ) (next until : Option ℤ) (room : ReasonRoom) : Type 0 where
  pub rest : List ℤ
  pub values : room.values.items ≡ v ∷ rest
  pub turn : AreInTurn here v rest next
  pub before : (w : ℤ) → Contains rest w → IsBefore until w
  pub covered : (w : ℤ) → Contains rest w → Covers w room

-- every present value of the variable that the mark leaves out has support
abbrev pub AreSupportedUnless : Mark → Filtering → Active → ℕ → Type 0
AreSupportedUnless m f owner x = (v : ℤ) → Has (present_of f.store) x v → (MayLack m v → ⊥) → IsSupported (present_of f.store) owner.con x v

-- every present value of the variable below the one bound or above the other has support
pub record AreSupportedBeyond (f : Filtering) (owner : Active) (x : ℕ) (low high : ℤ) : Type 0 where
  pub below : (v : ℤ) → Has (present_of f.store) x v → v <ℤ low → IsSupported (present_of f.store) owner.con x v
  pub above : (v : ℤ) → Has (present_of f.store) x v → high <ℤ v → IsSupported (present_of f.store) owner.con x v

-- every present value of the variable but this one has support
abbrev pub AreSupportedBut : Filtering → Active → ℕ → ℤ → Type 0
AreSupportedBut f owner x k = (v : ℤ) → Has (present_of f.store) x v → v ≢ k → IsSupported (present_of f.store) owner.con x v

-- and lacks it
abbrev pub LackBut : Filtering → Active → ℕ → ℤ → Type 0
LackBut f owner x k = (v : ℤ) → Has (present_of f.store) x v → v ≢ k → LacksSupport (present_of f.store) owner.con x v

-- how often a value is asked for that is asked for where it stands in a list
abbrev pub asked_of : ℤ → List ℤ → ℕ
asked_of k vs = length (filter (λ v. int_eq v k) vs)

-- and for one of the others, where there is one
abbrev pub asked_but : ℤ → List ℤ → ℕ
asked_but k vs = length (filter (λ v. not (int_eq v k)) vs)

-- the variables and x have domains, and each variable but x has a value
pub record HaveValues (rows : List Row) (vars : List ℕ) (x : ℕ) : Type 0 where
  pub declared : All (λ y. y < length rows) vars
  pub over : x < length rows
  pub filled : (y : ℕ) → Contains vars y → y ≢ x → 0 < length (values_of (present_of rows) y)

-- the least value from `low` on that one of the other variables does not leave free
pub record IsNextHit (d : Domains) (vars : List ℕ) (x : ℕ) (by low v : ℤ) : Type 0 where
  pub present : Has d x v
  pub from : low ≤ℤ v
  pub free : (w : ℤ) → Has d x w → low ≤ℤ w → w <ℤ v → LeavesFree d vars x by w

-- the lesser of two values that may be there
abbrev pub lesser_of : Option ℤ → Option ℤ → Option ℤ
lesser_of (Some v) (Some w) = Some (int_min v w)
lesser_of (Some v) None = Some v
lesser_of None second = second
