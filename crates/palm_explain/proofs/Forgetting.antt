-- Numbers of marked entries that go along the log.
use Rattle.std.proofs.Common.{◌≡◌, ◌∙◌, ℕ, ◌+◌, ◌<◌, true, false, cond, List, [], ◌∷◌, ◌++◌, map, filter, take, length, get_or, Contains, Some, sym, ap, subst, inl, inr}
use Rattle.std.proofs.lemmas.List.{map-append, take_more}
use Rattle.std.proofs.lemmas.List.Elements.{filter-append}
use Rattle.palm_events.proofs.cited.Agreeing.{pair_known}
use Rattle.palm_base.specs.declared.terms.Pair.{Pair}
use Rattle.palm_explain.specs.declared.entry.Entry.{Entry}
use Rattle.palm_explain.specs.declared.rows.Row.{Row}
use Rattle.palm_explain.specs.declared.rows.TheConstants.{NO_NUMBER}
use Rattle.palm_explain.specs.Losing.{LosesNumbers, marked_pairs}
use Rattle.palm_explain.specs.Rows.{AreFormedRows, number_at}
use Rattle.palm_explain.proofs.Marking.{none_marked}
use Rattle.palm_explain.proofs.PuttingBack.{loses_none, loses_one, loses_then}
use Rattle.palm_explain.proofs.Returning.{no_pair}

-- where no entry has a mark no number goes
pub forgets_none : (rows : List Row) (entries : List Entry) → AreFormedRows rows → ((e : Entry) → Contains entries e → e.mark ≡ false) → LosesNumbers rows rows (marked_pairs entries)
forgets_none rows entries formed none = subst (LosesNumbers rows rows) (sym (no_pair (marked_pairs entries) (none_marked entries none))) (loses_none rows formed)

-- a pair of which the numbers of some have gone has one
pub number_left : (old new : List Row) (pairs : List Pair) (p : Pair) → LosesNumbers old new pairs → (k : ℕ) × (number_at old p ≡ Some k) → (k : ℕ) × (number_at new p ≡ Some k)
number_left old new pairs p loses there = elim (pair_known pairs p) [
  | inl m ↦ (NO_NUMBER, loses.gone p m)
  | inr n ↦ (there.0, loses.others p n ∙ there.1)
]

-- the next entry
module _ (log : List Entry) (place : ℕ) (e : Entry) (within : place < length log) (at : e ≡ get_or log place e) (rows now : List Row) (loses : LosesNumbers rows now (marked_pairs (take place log))) where
  passed : (more : List Row) → LosesNumbers now more (marked_pairs (e ∷ [])) → LosesNumbers rows more (marked_pairs (take (place + 1) log))
  passed more next =
      let one = take_more log place e within ∙ ap (λ z. take place log ++ z ∷ []) (sym at) in
      let parts = ap marked_pairs one ∙ ap (map (λ (z : Entry). z.pair)) (filter-append (λ (z : Entry). z.mark) (take place log) (e ∷ [])) ∙ map-append (λ (z : Entry). z.pair) (filter (λ (z : Entry). z.mark) (take place log)) (filter (λ (z : Entry). z.mark) (e ∷ [])) in
      subst (LosesNumbers rows more) (sym parts) (loses_then rows now more (marked_pairs (take place log)) (marked_pairs (e ∷ [])) loses next)

  pub forgets_next : (more : List Row) → e.mark ≡ true → AreFormedRows more → number_at more e.pair ≡ Some NO_NUMBER → ((q : Pair) → (q ≡ e.pair → ⊥) → number_at more q ≡ number_at now q) → LosesNumbers rows more (marked_pairs (take (place + 1) log))
  forgets_next more is formed there others =
      let alone : marked_pairs (e ∷ []) ≡ e.pair ∷ [] = ap (λ b. map (λ (z : Entry). z.pair) (cond b (e ∷ []) [])) is in
      passed more (subst (LosesNumbers now more) (sym alone) (loses_one now more e.pair formed there others))

  pub forgets_not : e.mark ≡ false → LosesNumbers rows now (marked_pairs (take (place + 1) log))
  forgets_not is =
      let alone : marked_pairs (e ∷ []) ≡ [] = ap (λ b. map (λ (z : Entry). z.pair) (cond b (e ∷ []) [])) is in
      passed now (subst (LosesNumbers now now) (sym alone) (loses_none now loses.formed))
