-- Cuts: constraints that the target is less than in values that were found.
use Rattle.std.specs.Prelude.{ℕ, ℤ, ◌+◌, Bool, true, false, nat_le}
use Rattle.palm_base.specs.declared.terms.Cid.{Cid}
use Rattle.palm_base.specs.declared.terms.Cid.TheVariants.{Decide, Not, User}
use Rattle.palm_model.specs.Log.{Active}
use Rattle.palm_model.specs.State.{user_of}
use Rattle.palm_model.specs.declared.constraint.Con.TheVariants.{CompareConst}
use Rattle.palm_model.specs.declared.constraint.Op.TheVariants.{Lt}
use Rattle.palm_best.specs.declared.limits.TheConstants.{FIRST_CUT}

-- the cut with the number, counted from 0: the target is less than the value
abbrev pub cut_of : ℕ → ℕ → ℤ → Active
cut_of target number value = user_of (FIRST_CUT + number) (CompareConst target Lt value)

-- whether the id is a cut's
abbrev pub is_cut : Cid → Bool
is_cut (Decide x) = false
is_cut (Not p) = false
is_cut (User n) = nat_le FIRST_CUT n

-- a minimization's own constraints: its decisions, negations and cuts
abbrev pub is_own : Cid → Bool
is_own (Decide x) = true
is_own (Not p) = true
is_own (User n) = nat_le FIRST_CUT n
