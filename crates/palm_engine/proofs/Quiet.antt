-- Where support is not asked for, no constraint of a user takes a value out.
use Rattle.std.proofs.Common.{◌≡◌, ℕ, ◌+◌, ◌≤◌, false, List, [], ◌∷◌, ◌++◌, inl, inr, refl, sym, ap, ◌∙◌, arith, append-nil}
use Rattle.std.proofs.lemmas.Bool.{cases_Bool}
use Rattle.std.proofs.lemmas.List.Elements.{filter-append}
use Rattle.palm_base.specs.declared.terms.Pair.{Pair}
use Rattle.palm_model.specs.Log.{Active, Removal}
use Rattle.palm_model.specs.State.{EngineState, is_user}
use Rattle.palm_model.specs.Event.{Removes, removal_of}
use Rattle.palm_engine.specs.declared.filtering.Filtering.{Filtering}
use Rattle.palm_engine.specs.Kept.{state_in_revision}
use Rattle.palm_engine.specs.Revising.{Walked, WalkedPart}
use Rattle.palm_engine.specs.Settling.{Walks}
use Rattle.palm_engine.specs.Settling.Walks.{walked_all, walked_empty, walked_past, walked_out}
use Rattle.palm_engine.specs.Work.{asks_of, users_removals}

-- where the constraint is no user's, what users' constraints removed stays the same
abbrev pub IsQuiet : Active → Filtering → Filtering → Type 0
IsQuiet owner before after = is_user owner.cid ≡ false → users_removals after.log.log ≡ users_removals before.log.log

-- ---- one question

pub asks_few : (a : Active) → asks_of a ≤ 1
asks_few a = elim (cases_Bool (is_user a.cid)) [
  | inl t ↦ rw t (omega arith)
  | inr f ↦ rw f (omega arith)
]

-- a constraint that was asked for nothing is no user's
pub not_asked : (a : Active) (s t : ℕ) → t ≡ s + asks_of a → t ≡ s → is_user a.cid ≡ false
not_asked a s t asked same = elim (cases_Bool (is_user a.cid)) [
  | inl held ↦ let one = rw held at asked in absurd (omega (arith, one, same))
  | inr other ↦ other
]

-- nor is one that was asked for nothing in longer
pub none_asked : (a : Active) (s t u : ℕ) → s + asks_of a ≤ t → t ≤ u → u ≡ s → is_user a.cid ≡ false
none_asked a s t u asked later same = elim (cases_Bool (is_user a.cid)) [
  | inl held ↦ let one = rw held at asked in absurd (omega (arith, one, later, same))
  | inr other ↦ other
]

-- ---- what a walk takes out

removal_quiet : (s t : EngineState) (a : Active) (p : Pair) → Removes s a p t → is_user a.cid ≡ false → users_removals t.log ≡ users_removals s.log
removal_quiet s t a p removes other =
    let made = removal_of s a p in
    let none : users_removals (made ∷ []) ≡ [] = rw other refl in
    ap (λ (z : EngineState). users_removals z.log) removes.after
    ∙ filter-append (λ (r : Removal). is_user r.by) s.log (made ∷ [])
    ∙ ap (λ l. users_removals s.log ++ l) none
    ∙ append-nil (users_removals s.log)

walk_quiet : (a : Active) (pairs : List Pair) (s : EngineState) (n : ℕ) (t : EngineState) → Walks a pairs s n t → is_user a.cid ≡ false → users_removals t.log ≡ users_removals s.log
walk_quiet a _ _ _ _ (walked_all s) other = refl
walk_quiet a _ _ _ _ (walked_empty pairs s empty) other = refl
walk_quiet a _ _ _ _ (walked_past p pairs s n t supported walk) other = walk_quiet a pairs s n t walk other
walk_quiet a _ _ _ _ (walked_out p pairs s m n t removes walk) other = walk_quiet a pairs m n t walk other ∙ removal_quiet s m a p removes other

pub walked_quiet : (active : List Active) (owner : Active) (pairs : List Pair) (f g : Filtering) → Walked active owner pairs f g → IsQuiet owner f g
walked_quiet active owner pairs f g w = walk_quiet owner pairs (state_in_revision f active owner.cid) w.removed (state_in_revision g active owner.cid) w.walk

pub part_quiet : (active : List Active) (owner : Active) (pairs : List Pair) (f g : Filtering) → WalkedPart active owner pairs f g → IsQuiet owner f g
part_quiet active owner pairs f g part = walked_quiet active owner part.done f g part.walked

-- from a moment on
pub later_quiet : (owner : Active) (f g h : Filtering) → IsQuiet owner f g → IsQuiet owner f h → IsQuiet owner g h
later_quiet owner f g h first all other = all other ∙ sym (first other)
