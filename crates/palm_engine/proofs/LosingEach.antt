-- Values of a variable that are taken out one after another.
use Rattle.std.proofs.Common.{◌≡◌, ℕ, ℤ, ◌+◌, ◌<◌, ◌<ℤ◌, List, [], ◌∷◌, ◌++◌, length, drop, get_or, Contains, refl, sym, ap, ◌∙◌, subst, arith}
use Rattle.std.proofs.lemmas.Int.{ints}
use Rattle.std.proofs.lemmas.List.{get_or-drop, length-drop}
use Rattle.palm_base.specs.Ascending.{Ascends}
use Rattle.palm_domain.specs.Rows.{initial_of}
use Rattle.palm_domain.proofs.cited.Ascending.{get_or-ascends}
use Rattle.palm_engine.specs.declared.filtering.Filtering.{Filtering}
use Rattle.palm_engine.specs.Changed.{HasLost, HasLostEach}

-- and one more
pub lost_push : (f : Filtering) (x : ℕ) (values : List ℤ) (v : ℤ) (m g : Filtering) → HasLostEach f x values m → HasLost m (record { var = x; value = v }) g → HasLostEach f x (values ++ v ∷ []) g
lost_push f x [] v m g none lost = (g, subst (λ (z : Filtering). HasLost z (record { var = x; value = v }) g) none lost, refl)
lost_push f x (w ∷ values) v m g some lost = (some.0, some.1, lost_push some.0 x values v m g some.2 lost)

-- a later value of ascending ones is above
pub later_above : (values : List ℤ) (i : ℕ) (v w : ℤ) → Ascends values → i < length values → v ≡ get_or values i v → Contains (drop (i + 1) values) w → v <ℤ w
later_above values i v w ascends lt is m =
    let long = length-drop (i + 1) values in
    let within = m.1 in
    let at : get_or values (i + 1 + m.0) w ≡ w = sym (get_or-drop (i + 1) values m.0 w) ∙ m.2 in
    let less = get_or-ascends values ascends i (i + 1 + m.0) v w (omega arith) (omega (arith, long, within)) in omega (arith, ints, less, at, is)

-- the log stays
pub lost_log : (f : Filtering) (x : ℕ) (values : List ℤ) (g : Filtering) → HasLostEach f x values g → g.log ≡ f.log
lost_log f x [] g none = ap (λ (h : Filtering). h.log) none
lost_log f x (v ∷ values) g some = lost_log some.0 x values g some.2 ∙ some.1.log

-- the declared values stay
pub lost_initial : (f : Filtering) (x : ℕ) (values : List ℤ) (g : Filtering) → HasLostEach f x values g → initial_of g.store ≡ initial_of f.store
lost_initial f x [] g none = ap (λ (h : Filtering). initial_of h.store) none
lost_initial f x (v ∷ values) g some = lost_initial some.0 x values g some.2 ∙ some.1.initial
