use Rattle.std.proofs.Common.{◌≡◌, length, take}
use Rattle.palm_agenda.specs.Agenda.{marks_changed}
use Rattle.palm_agenda.specs.Marks.{changed}
use Rattle.palm_agenda.specs.Places.{is_place}
use Rattle.palm_agenda.proofs.connection.Connection.mark_each.Given as goal

-- the places so far are marked where they are to be
abbrev pub invariant-loop-place : goal.invariant-loop-place
invariant-loop-place l = record {
  cid : l.self-inside.cid ≡ l.initial.self-inside.cid;
  scope : l.self-inside.scope ≡ l.initial.self-inside.scope;
  heeds : l.self-inside.heeds ≡ l.initial.self-inside.heeds;
  long : length l.self-inside.marks.items ≡ length l.self-inside.scope;
  marked : l.self-inside.marks.items ≡ marks_changed (is_place l.places l.var) (changed l.change) (take l.place l.self-inside.scope) l.initial.self-inside.marks.items;
}
