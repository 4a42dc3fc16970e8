-- A rule that a walk knows stays known while values of its own variable go.
use Rattle.std.proofs.Common.{◌≡◌, ℕ, ◌<◌, ℤ, ◌≤ℤ◌, Bool, true, Option, Some, None, IfSome, IfOk, OnOk, Result, Ok, Err, MatchOption, pos, ◌+ℤ◌, ◌<ℤ◌, List, length, Contains, sym, ap, ◌∙◌, subst, arith}
use Rattle.std.specs.Bool.{⊤}
use Rattle.std.proofs.lemmas.Int.{ints}
use Rattle.palm_base.specs.declared.terms.Pair.{Pair}
use Rattle.palm_base.specs.declared.terms.Cid.{Cid}
use Rattle.palm_base.proofs.cited.Members.{all_members}
use Rattle.palm_domain.specs.declared.placed.Placed.{Placed}
use Rattle.palm_domain.specs.Rows.{IsNextFrom, Row, LosesPair, initial_of, present_of, present_values}
use Rattle.palm_model.specs.Constraint.{IsFormed, scope}
use Rattle.palm_model.specs.Domains.{AllAscend, Domains, Has, IsInside, values_of}
use Rattle.palm_model.specs.Log.{Active, log_pairs}
use Rattle.palm_model.specs.Reason.{AreFilled, WantsReason, reason}
use Rattle.palm_model.specs.Support.{LacksSupport}
use Rattle.palm_model.specs.declared.constraint.Con.{Con}
use Rattle.palm_model.proofs.cited.Ascending.{ascending_same, ascends_at}
use Rattle.palm_model.proofs.cited.Reasons.{filled_value}
use Rattle.palm_model.proofs.cited.Without.{ascend_without, without_inside}
use Rattle.palm_explain.specs.Explanations.{LacksExactly}
use Rattle.palm_explain.specs.Moving.{spans_at}
use Rattle.palm_explain.specs.declared.moving.MovingSpan.{MovingSpan}
use Rattle.palm_engine.specs.declared.filtering.Filtering.{Filtering}
use Rattle.palm_engine.specs.declared.reasons.ReasonRoom.{ReasonRoom}
use Rattle.palm_engine.specs.Changed.{TakesOut}
use Rattle.palm_engine.specs.Reasons.{Covers, IsKnown, IsToldBy, Knows, TellsReason}
use Rattle.palm_engine.specs.Revising.{IsRevising}
use Rattle.palm_engine.proofs.Own.{AgreeBut, own}
use Rattle.palm_engine.proofs.Revised.{some_length}

-- ---- one value of x is gone

module _ (rows after : List Row) (x : ℕ) (v : ℤ) (same : initial_of after ≡ initial_of rows) (lost : LosesPair rows after x v) (up : AllAscend (present_of rows)) (down : AllAscend (present_of after)) (inside : IsInside (present_of rows) (initial_of rows)) where
  agree : AgreeBut x (present_of rows) (present_of after)
  agree y other =
      ascending_same (values_of (present_of rows) y) (values_of (present_of after) y) (ascends_at (present_of rows) y up) (ascends_at (present_of after) y down)
      (λ w has. lost.others y w (λ e f. other e) has) (λ w has. lost.inside y w has)

  -- another value that lacks support lacked it before
  lacked : (c : Con) (w : ℤ) → (w ≡ v → ⊥) → LacksSupport (present_of after) c x w → LacksSupport (present_of rows) c x w
  lacked c w other lacks = record {
    part = lacks.part;
    is_part = lacks.is_part;
    over = lacks.over;
    lacks = λ s. lacks.lacks (record {
      assignment = s.assignment;
      within = λ y m. lost.others y (s.assignment y) (λ e f. other (sym s.gives ∙ ap s.assignment (sym e) ∙ f)) (s.within y m);
      gives = s.gives;
      holds = s.holds;
    });
  }

  filled_before : (xs : List ℕ) → AreFilled (present_of after) xs → AreFilled (present_of rows) xs
  filled_before xs filled = all_members (λ y. 0 < length (values_of (present_of rows) y)) xs (λ y m.
      let some = filled_value (present_of after) xs y filled m in
      some_length (values_of (present_of rows) y) some.0 (lost.inside y some.0 some.1))

  -- a reason that is wanted of it was wanted before
  wanted : (c : Con) (w : ℤ) → WantsReason (initial_of after) (present_of after) c x w → WantsReason (initial_of rows) (present_of rows) c x w
  wanted c w wants = record {
    initial_ascend = subst (λ d. AllAscend d) same wants.initial_ascend;
    present_ascend = up;
    inside = inside;
    formed = subst (λ (d : Domains). IsFormed (length d) c) same wants.formed;
    present_value = lost.inside x w wants.present_value;
    lacks = lacked c w (λ e. lost.gone (subst (λ u. Has (present_of after) x u) e wants.present_value)) wants.lacks;
    filled = filled_before (scope c) wants.filled;
  }

  known_still : (c : Con) (from last : ℤ) (spans : List MovingSpan) → IsKnown rows c x from last spans → IsKnown after c x from last spans
  known_still c from last spans is = record {
    told = λ w ge le wants.
        let before = wanted c w wants in
        let stays = own (initial_of rows) (present_of rows) (present_of after) x w agree before.present_value wants.present_value c before.formed.distinct in
        subst (λ (d : Domains). IsToldBy d (reason d (present_of after) c x w) (spans_at spans w)) (sym same) (subst (λ rs. IsToldBy (initial_of rows) rs (spans_at spans w)) stays (is.told w ge le before));
    fits = is.fits;
  }

  knows_after : (c : Con) (from : ℤ) (room : ReasonRoom) (known : Option ℤ) → IfSome known (λ last. IsKnown rows c x from last room.spans.items) → IfSome known (λ last. IsKnown after c x from last room.spans.items)
  knows_after c from room (Some last) is = known_still c from last room.spans.items is
  knows_after c from room None none = tt

-- ---- what is known of a value

-- spans that are known to stand for the reasons of the value tell it
pub covered_tells : (rows : List Row) (c : Con) (p : Pair) (room : ReasonRoom) → WantsReason (initial_of rows) (present_of rows) c p.var p.value → Knows rows c p.var p.value room → Covers p.value room → TellsReason rows c p room.spans.items
covered_tells rows c p room wants knows covers =
    let is = subst (λ (z : Option ℤ). IfSome z (λ last. IsKnown rows c p.var p.value last room.spans.items)) covers.1 knows in
    record { told = is.told p.value (omega (arith, ints)) covers.2 wants; fits = is.fits p.value (omega (arith, ints)) covers.2 }

pub learnt_tells : {E : Type 0} (rows : List Row) (c : Con) (p : Pair) (room : ReasonRoom) (r : Result Bool E) → WantsReason (initial_of rows) (present_of rows) c p.var p.value → OnOk r (Knows rows c p.var p.value room) → IfOk r (λ told. told ≡ true → Covers p.value room)
    → IfOk r (λ told. told ≡ true → TellsReason rows c p room.spans.items)
learnt_tells rows c p room (Ok told) wants knows covers = λ yes. covered_tells rows c p room wants knows (covers yes)
learnt_tells rows c p room (Err e) wants knows covers = tt

-- ---- in a revision

pub present_ascends : (rows : List Row) (pairs : List Pair) → LacksExactly rows pairs → AllAscend (initial_of rows) → AllAscend (present_of rows)
present_ascends rows pairs lacks up = subst (λ (d : Domains). AllAscend d) (sym lacks.present) (ascend_without (initial_of rows) pairs up)

pub present_inside : (rows : List Row) (pairs : List Pair) → LacksExactly rows pairs → IsInside (present_of rows) (initial_of rows)
present_inside rows pairs lacks = subst (λ (d : Domains). IsInside d (initial_of rows)) (sym lacks.present) (without_inside (initial_of rows) pairs)

-- a rule that is known of the values from one on is so after this one was taken out
pub knows_still : (f : Filtering) (active : List Active) (owner : Active) (p : Pair) (by : Cid) (reasons : List Pair) (g : Filtering) (room : ReasonRoom) → IsRevising f active owner → TakesOut f p by reasons g
    → Knows f.store owner.con p.var p.value room → Knows g.store owner.con p.var p.value room
knows_still f active owner p by reasons g room r takes knows =
    let up = r.valid.ascend in
    knows_after f.store g.store p.var p.value takes.initial takes.loses (present_ascends f.store (log_pairs f.log.log) r.kept.removed up)
    (present_ascends g.store (log_pairs g.log.log) takes.removed (subst (λ (d : Domains). AllAscend d) (sym takes.initial) up)) (present_inside f.store (log_pairs f.log.log) r.kept.removed)
    owner.con p.value room room.known knows

pub known_later : (rows : List Row) (c : Con) (x : ℕ) (v w last : ℤ) (spans : List MovingSpan) → v ≤ℤ w → IsKnown rows c x v last spans → IsKnown rows c x w last spans
known_later rows c x v w last spans le is = record {
  told = λ u ge upto wants. is.told u (omega (arith, ints, le, ge)) upto wants;
  fits = λ u ge upto. is.fits u (omega (arith, ints, le, ge)) upto;
}

-- and so of the values from a later one on
pub knows_later : (rows : List Row) (c : Con) (x : ℕ) (v w : ℤ) (room : ReasonRoom) → v ≤ℤ w → Knows rows c x v room → Knows rows c x w room
knows_later rows c x v w room le knows = later room.known knows
  where
    later : (known : Option ℤ) → IfSome known (λ last. IsKnown rows c x v last room.spans.items) → IfSome known (λ last. IsKnown rows c x w last room.spans.items)
    later (Some last) is = known_later rows c x v w last room.spans.items le is
    later None none = tt

-- and so of the next one of a walk, and of all of them where no rule is known
pub knows_next : (rows : List Row) (c : Con) (x : ℕ) (v : ℤ) (next : Option Placed) (room : ReasonRoom) → MatchOption next ((w : ℤ) → Contains (present_values rows x) w → w <ℤ (v +ℤ pos 1)) (λ p. IsNextFrom (present_values rows x) (v +ℤ pos 1) p.value)
    → Knows rows c x v room → IfSome next (λ p. Knows rows c x p.value room)
knows_next rows c x v (Some p) room is_next knows = let from = is_next.from in knows_later rows c x v p.value room (omega (arith, ints, from)) knows
knows_next rows c x v None room none knows = tt

pub knows_none : (next : Option Placed) → IfSome next (λ p. ⊤)
knows_none (Some p) = tt
knows_none None = tt

-- spans that are known of the values from one on are so after this one was taken out
pub known_on : (f : Filtering) (active : List Active) (owner : Active) (p : Pair) (by : Cid) (reasons : List Pair) (g : Filtering) (last : ℤ) (spans : List MovingSpan) → IsRevising f active owner → TakesOut f p by reasons g
    → IsKnown f.store owner.con p.var p.value last spans → IsKnown g.store owner.con p.var p.value last spans
known_on f active owner p by reasons g last spans r takes known =
    let up = r.valid.ascend in
    known_still f.store g.store p.var p.value takes.initial takes.loses (present_ascends f.store (log_pairs f.log.log) r.kept.removed up)
    (present_ascends g.store (log_pairs g.log.log) takes.removed (subst (λ (d : Domains). AllAscend d) (sym takes.initial) up)) (present_inside f.store (log_pairs f.log.log) r.kept.removed)
    owner.con p.value last spans known
