-- What an agenda keeps beside what it shows.
use Rattle.std.specs.Prelude.{◌≡◌, ℕ, ◌≤◌, ◌↔◌, ◌⊎◌, ⊤, Bool, true, false, Option, None, Some, List, map, length, Contains, IfSome, slice_index_or}
use Rattle.palm_base.specs.declared.terms.Cid.{Cid}
use Rattle.palm_base.specs.Order.{Rises}
use Rattle.palm_agenda.specs.declared.loss.Loss.{Loss}
use Rattle.palm_agenda.specs.declared.agenda.Woken.{Woken}
use Rattle.palm_agenda.specs.Open.{is_open}
use Rattle.palm_agenda.specs.Agenda.{Connected, HeedsAlone, IsConnected, IsFormed, IsOver, IsRun, Waiting, connected_cids, mark_others}
use Rattle.palm_agenda.specs.Flags.{flagged}
use Rattle.palm_agenda.specs.Cids.{Roomy, cids_at}

-- the list of each variable has the ids of the constraints over it, there is a flag for each constraint, and room for
-- the ids of all pending ones among those that are shown
pub record IsAgenda (connected : List Connected) (over : List Roomy) (flags : List Bool) (shown : ℕ) : Type 0 where
  pub formed : IsFormed (record { connected = connected; pending = flagged (connected_cids connected) flags })
  pub over_cids : (x : ℕ) (c : Cid) → Contains (cids_at over x) c ↔ IsOver connected x c
  pub flag_each : length flags ≡ length connected
  pub shown_room : length connected ≤ shown

-- the ids among those that are shown are the pending ones, where it is noted so
abbrev pub IsShown : Bool → List Cid → List Cid → Type 0
IsShown false shown pending = ⊤
IsShown true shown pending = shown ≡ pending

-- where a waking is noted, a loss of the variable that may mark nothing more changes nothing: the other places of each constraint over
-- it are marked so, and it is pending
abbrev pub IsWoken : Option Woken → List Connected → List Cid → Type 0
IsWoken None connected pending = ⊤
IsWoken (Some w) connected pending =
    ((loss : Loss) → is_open w.still loss ≡ false → map (mark_others w.var loss) connected ≡ connected) × ((c : Cid) → IsOver connected w.var c → Contains pending c)

-- a constraint over a variable that is not noted as heedful heeds where one value is left alone
abbrev pub IsHeedful : List Bool → List Connected → Type 0
IsHeedful heedful connected =
    (x : ℕ) (d : Connected) → slice_index_or heedful x false ≡ false → Contains connected d → Contains d.scope x → HeedsAlone d

-- what is noted stays noted
abbrev pub NotesMore : List Bool → List Bool → Type 0
NotesMore before after = (x : ℕ) → slice_index_or after x false ≡ false → slice_index_or before x false ≡ false

-- a connected constraint is looked for, and how far behind its number each user's stands, where that is known
pub record IsSought (connected : List Connected) (lag : Option ℕ) (cid : Cid) : Type 0 where
  pub rising : Rises (connected_cids connected)
  pub run : IfSome lag (IsRun connected)
  pub there : IsConnected connected cid

-- the constraints under the ids are pending besides
pub record Raises (connected : List Connected) (cids : List Cid) (before after : List Bool) : Type 0 where
  pub pending : (c : Cid) → Contains (flagged (connected_cids connected) after) c
      ↔ (Contains (flagged (connected_cids connected) before) c ⊎ Contains cids c)
  pub flags : length after ≡ length before

-- a loss of the variable woke the constraints over it
pub record WakesOthers (x : ℕ) (loss : Loss) (before after : Waiting) : Type 0 where
  pub connected : after.connected ≡ map (mark_others x loss) before.connected
  pub pending : (c : Cid) → Contains after.pending c ↔ (Contains before.pending c ⊎ IsOver before.connected x c)
  pub formed : IsFormed after
