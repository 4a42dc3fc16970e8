-- A log that is closed up in place.
use Rattle.std.proofs.Common.{◌≡◌, ℕ, ◌≤◌, false, not, cond, List, [], ◌∷◌, length, take, Contains, refl, sym, ap, ◌∙◌, arith}
use Rattle.std.proofs.lemmas.List.Filters.{FiltersInPlace}
use Rattle.palm_base.proofs.cited.Members.{member_here, member_there}
use Rattle.palm_explain.specs.declared.entry.Entry.{Entry}
use Rattle.palm_explain.specs.Losing.{kept_of}

all_kept : (es : List Entry) → ((e : Entry) → Contains es e → e.mark ≡ false) → kept_of es ≡ es
all_kept [] none = refl
all_kept (e ∷ es) none =
    ap (λ b. cond (not b) (e ∷ kept_of es) (kept_of es)) (none e (member_here e es)) ∙ ap (λ l. e ∷ l) (all_kept es (λ f m. none f (member_there e es f m)))

-- where no mark stands before a place the log is closed up below it
pub closing_start : (es : List Entry) (start : ℕ) → start ≤ length es → ((e : Entry) → Contains (take start es) e → e.mark ≡ false) → FiltersInPlace (λ (e : Entry). not e.mark) es es start start
closing_start es start within none = record {
  front = sym (all_kept (take start es) none);
  rest = refl;
  behind = omega arith;
  within = within;
  long = refl;
}
