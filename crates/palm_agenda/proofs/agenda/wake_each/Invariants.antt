use Rattle.std.proofs.Common.{◌≡◌, ◌⊎◌, ◌↔◌, length, map, take, Contains}
use Rattle.palm_base.specs.declared.terms.Cid.{Cid}
use Rattle.palm_agenda.specs.Agenda.{Connected, changed_among, connected_cids}
use Rattle.palm_agenda.specs.Flags.{flagged}
use Rattle.palm_agenda.specs.Heard.{IsHearing}
use Rattle.palm_agenda.specs.Losses.{heed_of}
use Rattle.palm_agenda.specs.Open.{Covers}
use Rattle.palm_agenda.specs.Places.{mark_places}
use Rattle.palm_agenda.proofs.agenda.wake_each.Given as goal

-- the constraints under the ids so far are marked, and pending, and which losses may mark more there is noted
abbrev pub invariant-loop-cid : goal.invariant-loop-cid
invariant-loop-cid l = record {
  marks : l.connections ≡ map (changed_among (take l.cid-index l.cids) (mark_places l.places l.var)) l.initial.connections;
  pending : (c : Cid) → Contains (flagged (connected_cids l.connections) l.pending.flags) c
      ↔ (Contains (flagged (connected_cids l.initial.connections) l.initial.pending.flags) c ⊎ Contains (take l.cid-index l.cids) c);
  covers : (d : Connected) → Contains l.initial.connections d → Contains (take l.cid-index l.cids) d.cid → Covers l.heard.still l.places (heed_of l.var d.scope d.heeds);
  hearing : IsHearing l.heard l.places;
  flags : length l.pending.flags ≡ length l.initial.pending.flags;
}
