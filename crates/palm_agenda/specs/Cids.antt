-- Lists of ids that keep room for more.
use Rattle.std.specs.Prelude.{ℕ, ◌<◌, ◌⊎◌, List, [], Contains, slice_index_or, slice_set, length}
use Rattle.palm_base.specs.declared.terms.Cid.{Cid}

-- ids by rising id, and how many find room without more memory
pub record Roomy : Type 0 where
  pub cids : List Cid
  pub room : ℕ

-- the id is there, or there is room for it
abbrev pub HasRoomFor : Cid → Roomy → Type 0
HasRoomFor cid list = Contains list.cids cid ⊎ (length list.cids < list.room)

-- ---- a list of ids for each variable

-- the list of a variable, and an empty one for a variable that has none
abbrev pub row_at : List Roomy → ℕ → Roomy
row_at rows x = slice_index_or rows x (record { cids = []; room = 0 })

-- the ids in the list of a variable
abbrev pub cids_at : List Roomy → ℕ → List Cid
cids_at rows x = (row_at rows x).cids

-- the lists, with these ids in the list of the variable
abbrev pub with_cids_at : List Roomy → ℕ → List Cid → List Roomy
with_cids_at rows x cids = slice_set rows x (record { cids = cids; room = (row_at rows x).room })

-- the variable has a list, with room for one more id
pub record HasSpace (rows : List Roomy) (x : ℕ) : Type 0 where
  pub within : x < length rows
  pub room : length (cids_at rows x) < (row_at rows x).room
