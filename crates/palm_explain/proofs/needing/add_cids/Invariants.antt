use Rattle.std.proofs.Common.{◌≡◌, Some}
use Rattle.palm_base.specs.declared.terms.Cid.{Cid}
use Rattle.palm_explain.specs.CidSets.{IsMember}
use Rattle.palm_explain.specs.Entries.{pairs_with}
use Rattle.palm_explain.specs.Needed.{AreNotedSpans}
use Rattle.palm_explain.proofs.NeededPlaces.{IsWalkedBy}
use Rattle.palm_explain.proofs.needing.add_cids.Given as goal

abbrev pub invariant-loop-number : goal.invariant-loop-number
invariant-loop-number l =
    IsWalkedBy l.log l.rows (pairs_with l.fn.var l.values) l.noted l.end (IsMember l.initial.cids) (IsMember l.cids) × AreNotedSpans l.rows l.known.items l.end l.noted × ((c : Cid) → l.last ≡ Some c → IsMember l.cids c)

abbrev pub decreases-loop-number : goal.decreases-loop-number
decreases-loop-number l = l.end
