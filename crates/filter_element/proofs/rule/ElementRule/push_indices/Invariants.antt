use Rattle.std.proofs.Common.{◌≡◌, ◌++◌, take, filter}
use Rattle.palm_domain.specs.Rows.{initial_of}
use Rattle.palm_model.specs.Domains.{values_of}
use Rattle.palm_model.specs.Removed.{is_listed, pairs_of}
use Rattle.filter_element.proofs.Elements.{indices_at}
use Rattle.filter_element.proofs.rule.ElementRule.push_indices.Given as goal

-- the declared ones of the indices of the places so far were added
abbrev pub invariant-loop-place : goal.invariant-loop-place
invariant-loop-place l =
    l.out.items ≡ l.initial.out.items ++ pairs_of l.self.index (filter (is_listed (values_of (initial_of l.store) l.self.index)) (take l.place-index (indices_at l.places)))
