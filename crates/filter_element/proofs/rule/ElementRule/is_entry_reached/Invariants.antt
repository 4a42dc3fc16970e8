use Rattle.std.proofs.Common.{◌+◌, pos}
use Rattle.std.specs.List.{AllWithin}
use Rattle.palm_domain.specs.Rows.{present_of}
use Rattle.palm_model.specs.Domains.{Has}
use Rattle.filter_element.proofs.rule.ElementRule.is_entry_reached.Given as goal

-- the indices of the places so far are not present
abbrev pub invariant-loop-place : goal.invariant-loop-place
invariant-loop-place l = AllWithin (λ k. Has (present_of l.store) l.self.index (pos (k + 1)) → ⊥) l.place-items 0 l.place-index
