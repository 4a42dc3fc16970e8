-- Which constraints are a minimization's own.
use Rattle.std.proofs.Common.{◌≡◌, ℕ, ℤ, ◌+◌, true, false, refl, sym, arith}
use Rattle.std.proofs.lemmas.Bool.{false≢true, le-leb}
use Rattle.palm_base.specs.declared.terms.Cid.{Cid}
use Rattle.palm_base.specs.declared.terms.Cid.TheVariants.{Decide, Not, User}
use Rattle.palm_model.specs.State.{EngineState, is_user}
use Rattle.palm_search.specs.Kept.{HasNone, HasOnlyUsers}
use Rattle.palm_search.proofs.cited.Owning.{OwnsSearch, not_own_user}
use Rattle.palm_best.specs.Cuts.{cut_of, is_cut, is_own}
use Rattle.palm_best.specs.declared.limits.TheConstants.{FIRST_CUT}

-- decisions and negations are
pub is_own_owns : OwnsSearch is_own
is_own_owns (Decide x) e = refl
is_own_owns (Not p) e = refl
is_own_owns (User n) e = absurd (false≢true (sym e))

pub only_users : (s : EngineState) → HasNone is_own s → HasOnlyUsers s
only_users s none a m = not_own_user is_own is_own_owns a.cid (none a m)

-- and so are cuts, and no other users
pub cut_own : (c : Cid) → is_cut c ≡ true → is_own c ≡ true
cut_own (Decide x) e = refl
cut_own (Not p) e = refl
cut_own (User n) e = e

pub user_not_cut : (c : Cid) → is_user c ≡ true → is_cut c ≡ false → is_own c ≡ false
user_not_cut (Decide x) u e = absurd (false≢true u)
user_not_cut (Not p) u e = absurd (false≢true u)
user_not_cut (User n) u e = e

pub cut_is : (target number : ℕ) (v : ℤ) → is_cut (cut_of target number v).cid ≡ true
cut_is target number v = le-leb FIRST_CUT (FIRST_CUT + number) (omega arith)

pub cut_is_own : (target number : ℕ) (v : ℤ) → is_own (cut_of target number v).cid ≡ true
cut_is_own target number v = cut_own (cut_of target number v).cid (cut_is target number v)
