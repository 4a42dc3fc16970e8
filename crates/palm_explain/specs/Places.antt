-- Sets of places of the log, by words of 64 places that stand together.
use Rattle.std.specs.Prelude.{◌≡◌, ◌↔◌, ℕ, ◌-◌, ◌%◌, ◌<◌, ◌≤◌, List, Contains, length, nat_lt, slice_index_or, bit_or}
use Rattle.std.specs.Int.{bit_at}
use Rattle.palm_base.specs.Order.{IsPartedAt}
use Rattle.palm_explain.specs.declared.places.PlaceWord.{PlaceWord}

-- the place is one of the 64 of the word, and has a one there
pub record IsIn (word : PlaceWord) (place : ℕ) : Type 0 where
  pub starts : word.start ≡ place - place % 64
  pub one : bit_at word.bits (place % 64) ≡ 1

-- the place is in one of the words
abbrev pub HasPlace : List PlaceWord → ℕ → Type 0
HasPlace words place = (word : PlaceWord) × Contains words word × IsIn word place

-- the words fall, and each begins at a multiple of 64
pub record ArePlaceWords (words : List PlaceWord) : Type 0 where
  pub falls : (i j : ℕ) (d : PlaceWord) → i < j → j < length words → (slice_index_or words j d).start < (slice_index_or words i d).start
  pub aligned : (i : ℕ) (d : PlaceWord) → i < length words → (slice_index_or words i d).start % 64 ≡ 0

-- the word with ones at these bits too
abbrev pub with_bits : PlaceWord → ℕ → PlaceWord
with_bits word bits = record word { bits = bit_or word.bits bits }

-- the last of the places of the word that stand below the end
pub record IsLastIn (word : PlaceWord) (end place : ℕ) : Type 0 where
  pub is : IsIn word place
  pub below : place < end
  pub last : (p : ℕ) → IsIn word p → p < end → p ≤ place

-- the first of the ones of the word from a bit on
pub record IsFirstOne (bits from one : ℕ) : Type 0 where
  pub small : one < 64
  pub behind : from ≤ one
  pub is : bit_at bits one ≡ 1
  pub zeros : (k : ℕ) → from ≤ k → k < one → bit_at bits k ≡ 0

-- the first of the places of the word from a place on
pub record IsFirstIn (word : PlaceWord) (from place : ℕ) : Type 0 where
  pub is : IsIn word place
  pub behind : from ≤ place
  pub first : (p : ℕ) → IsIn word p → from ≤ p → place ≤ p

-- the last of the places below the end
pub record IsLastBelow (words : List PlaceWord) (end place : ℕ) : Type 0 where
  pub has : HasPlace words place
  pub below : place < end
  pub last : (p : ℕ) → HasPlace words p → p < end → p ≤ place

-- no word before the index has a place below the end, and each from there on begins below it
pub record IsSearched (words : List PlaceWord) (end index : ℕ) : Type 0 where
  pub none : (k : ℕ) (d : PlaceWord) → k < index → k < length words → (p : ℕ) → IsIn (slice_index_or words k d) p → p < end → ⊥
  pub ahead : (k : ℕ) (d : PlaceWord) → index ≤ k → k < length words → (slice_index_or words k d).start < end

-- the word at the index begins below the end, and the one before it does not
pub record BeginsBelow (words : List PlaceWord) (index end : ℕ) : Type 0 where
  pub within : index < length words
  pub here : (d : PlaceWord) → (slice_index_or words index d).start < end
  pub before : (d : PlaceWord) → 0 < index → end ≤ (slice_index_or words (index - 1) d).start

-- each of the words begins behind the place
abbrev pub AllBegin : List PlaceWord → ℕ → Type 0
AllBegin words start = (k : ℕ) (d : PlaceWord) → k < length words → start < (slice_index_or words k d).start

-- a word is missing behind the last one: it would begin at `next`, behind `start`
pub record IsMissing (words : List PlaceWord) (start next : ℕ) : Type 0 where
  pub some : 0 < length words
  pub behind : start < next
  pub aligned : next % 64 ≡ 0
  pub last : AllBegin words next

-- the word that begins at `start` is missing, and belongs at the index
pub record IsGapAt (words : List PlaceWord) (start at : ℕ) : Type 0 where
  pub formed : ArePlaceWords words
  pub aligned : start % 64 ≡ 0
  pub parted : IsPartedAt (λ w. nat_lt start w.start) words at
  pub apart : at < length words → ((d : PlaceWord) → (slice_index_or words at d).start ≡ start) → ⊥

-- other words for the same places
pub record HasSame (old new : List PlaceWord) : Type 0 where
  pub formed : ArePlaceWords new
  pub places : (p : ℕ) → HasPlace new p ↔ HasPlace old p
