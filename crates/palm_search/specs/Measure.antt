-- The measure that rises with each undoing and bounds the turns of mac-dbt.
use Rattle.std.specs.Prelude.{ℕ, zero, suc, ◌+◌, ◌-◌, ◌*◌, ◌^◌, Bool, true, false, ◌&&◌, ◌||◌, List, length, map, filter, take}
use Rattle.std.specs.List.{list_all}
use Rattle.palm_model.specs.State.{is_user}
use Rattle.palm_base.specs.declared.terms.Pair.{Pair}
use Rattle.palm_base.specs.declared.terms.Cid.{Cid}
use Rattle.palm_base.specs.declared.terms.Cid.TheVariants.{Decide, Not, User}
use Rattle.palm_model.specs.Trial.{value_count}
use Rattle.palm_model.specs.Log.{is_named}
use Rattle.palm_search.specs.Turns.{SearchState}

-- whether the id is a negation's
abbrev pub is_of_negation : Cid → Bool
is_of_negation (Decide x) = false
is_of_negation (Not p) = true
is_of_negation (User n) = false

-- whether all these ids are users or among these decisions
abbrev pub is_within : List Pair → List Cid → Bool
is_within decisions cids = list_all (λ c. is_user c || is_named (map (λ p. Decide p.var) decisions) c) cids

-- how many active negations have their justification within the first i decisions and the users
abbrev pub negations_within : SearchState → ℕ → ℕ
negations_within s i = length (filter (λ a. is_of_negation a.cid && is_within (take i s.decisions) a.justification) s.engine.active)

-- the sum of N_i * base ^ (n - i) over all i up to k
abbrev pub weighed : SearchState → ℕ → ℕ → ℕ → ℕ
weighed s base n zero = negations_within s zero * base ^ n
weighed s base n (suc k) = weighed s base n k + negations_within s (suc k) * base ^ (n - suc k)

-- the measure of the state: n is the number of variables, and the base is the number of declared values plus one
abbrev pub measure : SearchState → ℕ
measure s = weighed s (value_count s.engine.initial + 1) (length s.engine.initial) (length s.engine.initial)

-- a run of mac-dbt has fewer turns
abbrev pub most_turns : ℕ → ℕ → ℕ
most_turns variables values = (variables + 1) * (values + 1) ^ (variables + 1)
