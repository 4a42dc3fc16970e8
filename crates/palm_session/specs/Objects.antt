-- Objects that were handed in: those that are there, each at the place of its number, and the chosen one.
use Rattle.std.specs.Prelude.{◌≡◌, ℕ, zero, suc, ◌<◌, ◌==◌, not, List, [], ◌∷◌, length, filter, map, get_or, set, Option, None, Some, is_some, if◌then◌else◌}

-- what is seen of the objects: their places, of which that with a number holds the object with this number, if it is there,
-- and the number of the chosen one. Place 0 is empty
pub record ObjectsView (X : Type 0) : Type 0 where
  pub places : List (Option X)
  pub chosen : Option ℕ

-- the guides and the orders that are held
pub record HeldObjects (G O : Type 0) : Type 0 where
  pub guides : ObjectsView G
  pub orders : ObjectsView O

-- so many numbers, from one on
abbrev pub numbered_from : ℕ → ℕ → List ℕ
numbered_from n zero = []
numbered_from n (suc count) = n ∷ numbered_from (suc n) count

-- the numbers of so many objects: 1, 2, 3 ..
abbrev pub numbered : ℕ → List ℕ
numbered count = numbered_from 1 count

-- the numbers that are left without one
abbrev pub without_number : ℕ → List ℕ → List ℕ
without_number number numbers = filter (λ n. not (n == number)) numbers

-- the chosen one that is left without one: the default again, where that one was chosen
abbrev pub chosen_without : ℕ → Option ℕ → Option ℕ
chosen_without number None = None
chosen_without number (Some n) = if n == number then None else Some n

-- ---- places

-- the numbers of the places that hold an object, where the first place has this number
abbrev pub numbers_from : {X : Type 0} → ℕ → List (Option X) → List ℕ
numbers_from n [] = []
numbers_from n (None ∷ places) = numbers_from (suc n) places
numbers_from n (Some object ∷ places) = n ∷ numbers_from (suc n) places

-- the number of a place that holds an object
abbrev pub number_at : {X : Type 0} → ℕ → Option X → Option ℕ
number_at n None = None
number_at n (Some object) = Some n

-- the numbers of the objects that are there, ascending
abbrev pub numbers_of : {X : Type 0} → List (Option X) → List ℕ
numbers_of places = numbers_from 0 places

-- the objects at these places, of which that at one place is chosen
abbrev pub objects_at : {X : Type 0} → List (Option X) → ℕ → ObjectsView X
objects_at places place = record { places = places; chosen = number_at place (get_or places place None) }

-- the first place holds no object, and the chosen one is among the places
pub record ArePlaces {X : Type 0} (places : List (Option X)) (place : ℕ) : Type 0 where
  pub first : get_or places 0 None ≡ None
  pub within : place < length places

-- ---- objects

-- these objects under the numbers 1, 2, 3 .., none of them chosen
abbrev pub all_placed : {X : Type 0} → List X → ObjectsView X
all_placed objects = record { places = None ∷ map Some objects; chosen = None }

-- the object with the number, if it is there
abbrev pub object_at : {X : Type 0} → Option ℕ → List (Option X) → Option X
object_at None places = None
object_at (Some n) places = get_or places n None

-- the places, with this at the number
abbrev pub with_object : {X : Type 0} → Option ℕ → Option X → List (Option X) → List (Option X)
with_object None object places = places
with_object (Some n) object places = set places n object

-- the chosen object, if one is chosen
abbrev pub chosen_object : {X : Type 0} → ObjectsView X → Option X
chosen_object objects = object_at objects.chosen objects.places

-- the object with the number is there no longer, and where it was chosen, none is
abbrev pub without_object : {X : Type 0} → ℕ → ObjectsView X → ObjectsView X
without_object number objects = record { places = set objects.places number None; chosen = chosen_without number objects.chosen }

-- the chosen object was lent: it is there; afterwards the same ones are there, the same one is chosen, and each other object is
-- as it was
pub record LendsChosen {X : Type 0} (before after : ObjectsView X) : Type 0 where
  pub there : is_some (chosen_object before) ≡ is_some before.chosen
  pub numbers : numbers_of after.places ≡ numbers_of before.places
  pub chosen : after.chosen ≡ before.chosen
  pub places : after.places ≡ with_object before.chosen (chosen_object after) before.places
