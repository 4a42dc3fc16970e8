use Rattle.std.proofs.Common.{◌≡◌, ◌≤◌, ℤ, Bool}
use Rattle.palm_base.specs.Tells.{Tells}
use Rattle.palm_filter.specs.Rules.{listed_pairs}
use Rattle.palm_model.specs.Domains.{Domains, values_of}
use Rattle.filter_table.specs.Beside.{HasBit}
use Rattle.filter_table.proofs.Intervals.{AreListed}
use Rattle.filter_table.proofs.beside.Beside.push_intervals.Given as goal

-- with the run that is going on, the values so far that stand beside it are listed
abbrev pub invariant-loop-place : goal.invariant-loop-place
invariant-loop-place l = record {
  ordered : l.first ≤ l.place;
  listed : (d : Domains) (test : ℤ → Bool) → values_of d l.var ≡ l.declared → ((w : ℤ) → Tells (test w) (HasBit l.self l.own w))
      → AreListed d l.var test l.declared (listed_pairs d l.initial.out.items) (listed_pairs d l.out.items) l.first l.place;
}
