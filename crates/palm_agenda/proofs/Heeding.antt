-- What a loss makes of a mark, where it is heeded so.
use Rattle.std.proofs.Common.{◌≡◌, ℕ, zero, suc, ◌<◌, ◌≤◌, ◌+ℤ◌, List, [], ◌∷◌, length, drop, get_or, nat_eq, arith, Bool, true, false, if◌then◌else◌, refl, sym, ap, ◌∙◌}
use Rattle.palm_filter.specs.declared.heed.Heed.{Heed}
use Rattle.palm_filter.specs.declared.heed.Heed.TheVariants.{Each, Least, Greatest, Ends, Alone, Shifted}
use Rattle.palm_agenda.specs.declared.loss.Loss.{Loss}
use Rattle.palm_agenda.specs.declared.mark.Mark.{Mark}
use Rattle.palm_agenda.specs.declared.mark.Mark.TheVariants.{Whole}
use Rattle.palm_agenda.specs.Losses.{heed_of, mark_after, matters}
use Rattle.palm_agenda.specs.Marks.{widened}
use Rattle.palm_agenda.proofs.cited.Marking.{widened_twice}

-- the same test again changes nothing
whole_again : (b : Bool) (mark : Mark) → (if b then Whole else (if b then Whole else mark)) ≡ (if b then Whole else mark)
whole_again true mark = refl
whole_again false mark = refl

-- the same loss again changes nothing
pub after_twice : (heed : Heed) (loss : Loss) (mark : Mark) → mark_after heed loss (mark_after heed loss mark) ≡ mark_after heed loss mark
after_twice Each loss mark = refl
after_twice Least loss mark = whole_again (matters Least loss) mark
after_twice Greatest loss mark = whole_again (matters Greatest loss) mark
after_twice Ends loss mark = whole_again (matters Ends loss) mark
after_twice Alone loss mark = whole_again (matters Alone loss) mark
after_twice (Shifted by) loss mark = either _
  where
    either : (b : Bool) → (if b then Whole else widened (loss.value +ℤ by) (loss.value +ℤ by) (if b then Whole else widened (loss.value +ℤ by) (loss.value +ℤ by) mark))
        ≡ (if b then Whole else widened (loss.value +ℤ by) (loss.value +ℤ by) mark)
    either true = refl
    either false = widened_twice (loss.value +ℤ by) (loss.value +ℤ by) mark

-- ---- a walk over the places to the first one of the variable

-- where nothing is told, each loss is heeded
heed_untold : (x : ℕ) (scope : List ℕ) → heed_of x scope [] ≡ Each
heed_untold x [] = refl
heed_untold x (y ∷ scope) = refl

-- a place of another variable is passed
pub heed_past : (x : ℕ) (scope : List ℕ) (heeds : List Heed) (i d : ℕ) → i < length scope → nat_eq (get_or scope i d) x ≡ false
    → heed_of x (drop (suc i) scope) (drop (suc i) heeds) ≡ heed_of x (drop i scope) (drop i heeds)
heed_past x [] heeds i d lt apart = absurd (omega arith)
heed_past x (y ∷ scope) [] zero d lt apart = heed_untold x scope
heed_past x (y ∷ scope) [] (suc i) d lt apart = heed_untold x (drop (suc i) scope) ∙ sym (heed_untold x (drop i scope))
heed_past x (y ∷ scope) (heed ∷ heeds) zero d lt apart = sym (ap (λ b. if b then heed else heed_of x scope heeds) apart)
heed_past x (y ∷ scope) (heed ∷ heeds) (suc i) d lt apart = heed_past x scope heeds i d (omega arith) apart

-- a place of the variable tells how its losses are heeded
pub heed_at : (x : ℕ) (scope : List ℕ) (heeds : List Heed) (i d : ℕ) → i < length scope → nat_eq (get_or scope i d) x ≡ true → get_or heeds i Each ≡ heed_of x (drop i scope) (drop i heeds)
heed_at x [] heeds i d lt same = absurd (omega arith)
heed_at x (y ∷ scope) [] zero d lt same = refl
heed_at x (y ∷ scope) [] (suc i) d lt same = sym (heed_untold x (drop i scope))
heed_at x (y ∷ scope) (heed ∷ heeds) zero d lt same = sym (ap (λ b. if b then heed else heed_of x scope heeds) same)
heed_at x (y ∷ scope) (heed ∷ heeds) (suc i) d lt same = heed_at x scope heeds i d (omega arith) same

-- behind the last place each loss is heeded
pub heed_nowhere : (x : ℕ) (scope : List ℕ) (heeds : List Heed) (i : ℕ) → length scope ≤ i → Each ≡ heed_of x (drop i scope) (drop i heeds)
heed_nowhere x [] heeds zero past = refl
heed_nowhere x [] heeds (suc i) past = refl
heed_nowhere x (y ∷ scope) heeds zero past = absurd (omega arith)
heed_nowhere x (y ∷ scope) [] (suc i) past = sym (heed_untold x (drop i scope))
heed_nowhere x (y ∷ scope) (heed ∷ heeds) (suc i) past = heed_nowhere x scope heeds i (omega arith)
