-- Marks at the places of a scope.
use Rattle.std.proofs.Common.{◌≡◌, ℕ, zero, suc, ℤ, int_lt, cond, ◌+◌, ◌<◌, Bool, true, false, if◌then◌else◌, List, [], ◌∷◌, length, get_or, set, take, Contains, refl, sym, ap, ◌∙◌, arith}
use Rattle.std.specs.Int.{int_min, int_max}
use Rattle.palm_base.proofs.cited.Members.{member_here, member_there}
use Rattle.palm_agenda.specs.declared.mark.Mark.{Mark}
use Rattle.palm_agenda.specs.declared.mark.Mark.TheVariants.{Clear, Between, Whole}
use Rattle.palm_agenda.specs.Marks.{widened}
use Rattle.palm_agenda.specs.Agenda.{marks_changed}

-- ---- one mark

min_same : (z : ℤ) → int_min z z ≡ z
min_same z = either (int_lt z z)
  where
    either : (t : Bool) → cond t z z ≡ z
    either true = refl
    either false = refl

max_same : (z : ℤ) → int_max z z ≡ z
max_same z = either (int_lt z z)
  where
    either : (t : Bool) → cond t z z ≡ z
    either true = refl
    either false = refl

min_twice : (from low : ℤ) → int_min (int_min from low) low ≡ int_min from low
min_twice from low = by (int_lt low from) refl
  where
    by : (t : Bool) → int_lt low from ≡ t → int_min (cond t low from) low ≡ cond t low from
    by true e = min_same low
    by false e = ap (λ t. cond t low from) e

max_twice : (to high : ℤ) → int_max (int_max to high) high ≡ int_max to high
max_twice to high = by (int_lt high to) refl
  where
    by : (t : Bool) → int_lt high to ≡ t → int_max (cond t to high) high ≡ cond t to high
    by true e = ap (λ t. cond t to high) e
    by false e = max_same high

-- widening twice is widening once
pub widened_twice : (low high : ℤ) (mark : Mark) → widened low high (widened low high mark) ≡ widened low high mark
widened_twice low high Clear = ap (λ v. Between v (int_max high high)) (min_same low) ∙ ap (λ v. Between low v) (max_same high)
widened_twice low high (Between from to) = ap (λ v. Between v (int_max (int_max to high) high)) (min_twice from low) ∙ ap (λ v. Between (int_min from low) v) (max_twice to high)
widened_twice low high Whole = refl

-- ---- the marks of a scope

pub marks_length : (test : ℕ → Bool) (change : Mark → Mark) (scope : List ℕ) (marks : List Mark) → length (marks_changed test change scope marks) ≡ length marks
marks_length test change [] marks = refl
marks_length test change (x ∷ scope) [] = refl
marks_length test change (x ∷ scope) (m ∷ marks) = omega (arith, marks_length test change scope marks)

pub marks_none : (test : ℕ → Bool) (change : Mark → Mark) (scope : List ℕ) (marks : List Mark) → ((x : ℕ) → Contains scope x → test x ≡ false) → marks_changed test change scope marks ≡ marks
marks_none test change [] marks none = refl
marks_none test change (x ∷ scope) [] none = refl
marks_none test change (x ∷ scope) (m ∷ marks) none =
    ap (λ b. (if b then change m else m) ∷ marks_changed test change scope marks) (none x (member_here x scope))
    ∙ ap (λ ms. m ∷ ms) (marks_none test change scope marks (λ y n. none y (member_there x scope y n)))

-- a change that changes no mark
pub marks_alone : (test : ℕ → Bool) (change : Mark → Mark) → ((mark : Mark) → change mark ≡ mark) → (scope : List ℕ) (marks : List Mark) → marks_changed test change scope marks ≡ marks
marks_alone test change alone [] marks = refl
marks_alone test change alone (x ∷ scope) [] = refl
marks_alone test change alone (x ∷ scope) (m ∷ marks) =
    ap (λ mark. mark ∷ marks_changed test change scope marks) (either (test x)) ∙ ap (λ ms. m ∷ ms) (marks_alone test change alone scope marks)
  where
    either : (b : Bool) → (if b then change m else m) ≡ m
    either true = alone m
    either false = refl

-- changes that make the same of each mark
pub marks_alike : (test : ℕ → Bool) (change other : Mark → Mark) → ((mark : Mark) → change mark ≡ other mark) → (scope : List ℕ) (marks : List Mark) → marks_changed test change scope marks ≡ marks_changed test other scope marks
marks_alike test change other alike [] marks = refl
marks_alike test change other alike (x ∷ scope) [] = refl
marks_alike test change other alike (x ∷ scope) (m ∷ marks) =
    ap (λ mark. (if test x then mark else m) ∷ marks_changed test change scope marks) (alike m)
    ∙ ap (λ ms. (if test x then other m else m) ∷ ms) (marks_alike test change other alike scope marks)

-- changing again, by a change that adds nothing to the first one, changes nothing
pub marks_again : (test : ℕ → Bool) (change more : Mark → Mark) → ((mark : Mark) → more (change mark) ≡ change mark) → (scope : List ℕ) (marks : List Mark)
    → marks_changed test more scope (marks_changed test change scope marks) ≡ marks_changed test change scope marks
marks_again test change more again [] marks = refl
marks_again test change more again (x ∷ scope) [] = refl
marks_again test change more again (x ∷ scope) (m ∷ marks) =
    ap (λ mark. mark ∷ marks_changed test more scope (marks_changed test change scope marks)) (either (test x))
    ∙ ap (λ ms. (if test x then change m else m) ∷ ms) (marks_again test change more again scope marks)
  where
    either : (b : Bool) → (if b then more (if b then change m else m) else (if b then change m else m)) ≡ (if b then change m else m)
    either true = again m
    either false = refl

-- one more place is changed where its variable passes
marks_more : (test : ℕ → Bool) (change : Mark → Mark) (scope : List ℕ) (marks : List Mark) (i d : ℕ) (e : Mark) → i < length scope → length marks ≡ length scope → test (get_or scope i d) ≡ true
    → set (marks_changed test change (take i scope) marks) i (change (get_or (marks_changed test change (take i scope) marks) i e)) ≡ marks_changed test change (take (suc i) scope) marks
marks_more test change [] marks i d e lt many passes = absurd (omega arith)
marks_more test change (x ∷ scope) [] i d e lt many passes = absurd (omega arith)
marks_more test change (x ∷ scope) (m ∷ marks) zero d e lt many passes = sym (ap (λ b. (if b then change m else m) ∷ marks) passes)
marks_more test change (x ∷ scope) (m ∷ marks) (suc i) d e lt many passes =
    ap (λ ms. (if test x then change m else m) ∷ ms) (marks_more test change scope marks i d e (omega arith) (omega arith) passes)

marks_past : (test : ℕ → Bool) (change : Mark → Mark) (scope : List ℕ) (marks : List Mark) (i d : ℕ) → i < length scope → test (get_or scope i d) ≡ false
    → marks_changed test change (take i scope) marks ≡ marks_changed test change (take (suc i) scope) marks
marks_past test change [] marks i d lt fails = absurd (omega arith)
marks_past test change (x ∷ scope) [] zero d lt fails = refl
marks_past test change (x ∷ scope) [] (suc i) d lt fails = refl
marks_past test change (x ∷ scope) (m ∷ marks) zero d lt fails = sym (ap (λ b. (if b then change m else m) ∷ marks) fails)
marks_past test change (x ∷ scope) (m ∷ marks) (suc i) d lt fails = ap (λ ms. (if test x then change m else m) ∷ ms) (marks_past test change scope marks i d (omega arith) fails)

-- the step of a walk over the places: the mark is changed where its variable passes
module _ (test : ℕ → Bool) (change : Mark → Mark) (scope looked : List ℕ) (marks now next : List Mark) (i v : ℕ) (looked_is : looked ≡ scope) (item : v ≡ get_or looked i v) (lt : i < length scope)
    (so_far : now ≡ marks_changed test change (take i scope) marks) (told : Bool) (told_is : told ≡ test v) where
  plus_one : (k : ℕ) → suc k ≡ k + 1
  plus_one k = omega arith

  told_at : test (get_or scope i v) ≡ told
  told_at = ap (λ xs. test (get_or xs i v)) (sym looked_is) ∙ ap test (sym item) ∙ sym told_is

  pub marked_next : told ≡ true → length marks ≡ length scope → next ≡ set now i (change (get_or now i Clear)) → next ≡ marks_changed test change (take (i + 1) scope) marks
  marked_next e many is =
      is ∙ ap (λ ms. set ms i (change (get_or ms i Clear))) so_far ∙ marks_more test change scope marks i v Clear lt many (told_at ∙ e)
      ∙ ap (λ k. marks_changed test change (take k scope) marks) (plus_one i)

  pub marked_past : told ≡ false → next ≡ now → next ≡ marks_changed test change (take (i + 1) scope) marks
  marked_past e is =
      is ∙ so_far ∙ marks_past test change scope marks i v lt (told_at ∙ e) ∙ ap (λ k. marks_changed test change (take k scope) marks) (plus_one i)
