use Rattle.std.proofs.Common.{take}
use Rattle.palm_explain.specs.Entries.{written}
use Rattle.palm_explain.specs.Needed.{AreNotedSpans, HasNoted}
use Rattle.palm_explain.proofs.needing.note_reasons.Given as goal

-- the reasons of the spans so far are noted, and the known spans hold what is noted
abbrev pub invariant-loop-span : goal.invariant-loop-span
invariant-loop-span l = HasNoted l.rows l.fn.noted l.noted (written l.rows l.entry.number (take l.span-index l.entry.spans.items)) × AreNotedSpans l.rows l.known.items l.entry.number l.noted
