-- Values that stand one after another among others.
use Rattle.std.proofs.Common.{◌≡◌, ℤ, pos, ◌+ℤ◌, ◌<ℤ◌, List, [], ◌∷◌, ◌++◌, Contains, Option, Some, None, inl, inr, ap, ◌∙◌, subst, arith}
use Rattle.std.proofs.lemmas.Int.{ints}
use Rattle.std.proofs.lemmas.List.Elements.{Contains-push_cases}
use Rattle.palm_base.specs.Ascending.{Ascends}
use Rattle.palm_base.proofs.cited.Members.{all_members, member_cases, member_nil}
use Rattle.palm_engine.specs.declared.reasons.ReasonRoom.{ReasonRoom}
use Rattle.palm_engine.specs.Advancing.{AreInTurn, HasGathered, IsBefore, IsLater, IsNextAt}
use Rattle.palm_engine.specs.Reasons.{Covers}

-- the next one comes behind them
turn_push : (here : List ℤ) (v : ℤ) (rest : List ℤ) (w : ℤ) (next : Option ℤ) → AreInTurn here v rest (Some w) → IsNextAt next here (w +ℤ pos 1) → AreInTurn here v (rest ++ w ∷ []) next
turn_push here v [] w next turn is_next = (turn, is_next)
turn_push here v (u ∷ rest) w next turn is_next = (turn.0, turn_push here u rest w next turn.1 is_next)

-- and is one of the others
pub turn_member : (here : List ℤ) (v : ℤ) (rest : List ℤ) (w : ℤ) → AreInTurn here v rest (Some w) → Contains here w
turn_member here v [] w turn = turn.member
turn_member here v (u ∷ rest) w turn = turn_member here u rest w turn.1

-- those behind a value are above it
pub turn_above : (here : List ℤ) (v : ℤ) (rest : List ℤ) (next : Option ℤ) → AreInTurn here v rest next → (w : ℤ) → Contains rest w → (v <ℤ w) × Contains here w
turn_above here v [] next turn w m = absurd (member_nil w m)
turn_above here v (u ∷ rest) next turn w m =
    let from = turn.0.from in
    elim (member_cases u rest w m) [
      | inl e ↦ (omega (arith, ints, from, e), subst (Contains here) e turn.0.member)
      | inr k ↦ let above = turn_above here u rest next turn.1 w k in let lt = above.0 in (omega (arith, ints, from, lt), above.1)
    ]

-- and so is what comes next
pub next_later : (here : List ℤ) (v : ℤ) (next : Option ℤ) → IsNextAt next here (v +ℤ pos 1) → IsLater v next
next_later here v (Some w) is_next = let from = is_next.from in omega (arith, ints, from)
next_later here v None none = tt

pub turn_later : (here : List ℤ) (v : ℤ) (rest : List ℤ) (next : Option ℤ) → AreInTurn here v rest next → IsLater v next
turn_later here v [] next turn = next_later here v next turn
turn_later here v (u ∷ rest) next turn = further next (let from = turn.0.from in omega (arith, ints, from)) (turn_later here u rest next turn.1)
  where
    further : (next : Option ℤ) → v <ℤ u → IsLater u next → IsLater v next
    further (Some w) lt later = omega (arith, ints, lt, later)
    further None lt later = tt

pub turn_ascends : (here : List ℤ) (v : ℤ) (rest : List ℤ) (next : Option ℤ) → AreInTurn here v rest next → Ascends (v ∷ rest)
turn_ascends here v [] next turn = ((λ k d lt. absurd (omega (arith, lt))), tt)
turn_ascends here v (u ∷ rest) next turn = (all_members (λ w. v <ℤ w) (u ∷ rest) (λ w m. (turn_above here v (u ∷ rest) next turn w m).0), turn_ascends here u rest next turn.1)

-- ---- a room that has gathered them

pub gathered_first : (here : List ℤ) (v : ℤ) (next until : Option ℤ) (room : ReasonRoom) → room.values.items ≡ v ∷ [] → IsNextAt next here (v +ℤ pos 1) → HasGathered here v next until room
gathered_first here v next until room values is_next = record { rest = []; values = values; turn = is_next; before = λ w m. absurd (member_nil w m); covered = λ w m. absurd (member_nil w m) }

pub gathered_more : (here : List ℤ) (v w : ℤ) (next until : Option ℤ) (room more : ReasonRoom) → HasGathered here v (Some w) until room → more.values.items ≡ room.values.items ++ w ∷ [] → more.known ≡ room.known
    → IsBefore until w → Covers w room → IsNextAt next here (w +ℤ pos 1) → HasGathered here v next until more
gathered_more here v w next until room more g values known before covers is_next = record {
  rest = g.rest ++ w ∷ [];
  values = values ∙ ap (λ vs. vs ++ w ∷ []) g.values;
  turn = turn_push here v g.rest w next g.turn is_next;
  before = λ u m. elim (Contains-push_cases g.rest w u m) [ inl o ↦ g.before u o | inr e ↦ subst (IsBefore until) e before ];
  covered = λ u m. elim (Contains-push_cases g.rest w u m) [
    | inl o ↦ let c = g.covered u o in (c.0, known ∙ c.1, c.2)
    | inr e ↦ subst (λ z. Covers z more) e (covers.0, known ∙ covers.1, covers.2)
  ];
}
