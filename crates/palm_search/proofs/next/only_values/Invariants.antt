use Rattle.std.proofs.Common.{◌≡◌, ◌∷◌, [], map, take}
use Rattle.palm_domain.specs.Rows.{present_of}
use Rattle.palm_search.proofs.next.only_values.Given as goal

abbrev pub invariant-loop-var : goal.invariant-loop-var
invariant-loop-var l = take l.var (present_of l.store) ≡ map (λ v. v ∷ []) l.values
