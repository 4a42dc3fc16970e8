-- One move more, and what the moves led to.
use Rattle.std.proofs.Common.{◌≡◌, ℕ, ℤ, Bool, List, [], ◌∷◌, ◌++◌, refl, ap, subst}
use Rattle.palm_engine.specs.Following.{Hearing, LeadsAlong}
use Rattle.palm_engine.proofs.cited.Leading.{leads_split, leads_then}
use Rattle.palm_search.specs.declared.turn.Turn.{Turn}
use Rattle.palm_search.specs.Following.{Moment}
use Rattle.palm_best.specs.Following.{moment_of, move_hearings, moves_hearings, moves_moments}
use Rattle.palm_best.specs.Moves.{AllMoves, BestState, Move, Moves, turns_of}
use Rattle.palm_best.specs.Moves.Move.{Cut, Taken}

pub turns_push : (moves : List Move) (turn : Turn) → turns_of (moves ++ Taken turn ∷ []) ≡ turns_of moves ++ turn ∷ []
turns_push [] turn = refl
turns_push (Taken first ∷ moves) turn = ap (λ l. first ∷ l) (turns_push moves turn)
turns_push (Cut values ∷ moves) turn = turns_push moves turn

pub turns_cut : (moves : List Move) (values : List ℤ) → turns_of (moves ++ Cut values ∷ []) ≡ turns_of moves
turns_cut [] values = refl
turns_cut (Taken first ∷ moves) values = ap (λ l. first ∷ l) (turns_cut moves values)
turns_cut (Cut others ∷ moves) values = turns_cut moves values

-- moves, and what they and the settlings after them led to
pub record MovesOn {X Y : Type 0} (guiding : Moment → X → X → Type 0) (ordering : Hearing → Y → Y → Type 0) (guided ordered : Bool) (target : ℕ) (s : BestState) (moves : List Move) (t : BestState) (guide_first guide_last : X) (order_first order_last : Y) : Type 0 where
  pub taken : AllMoves guided ordered target s moves t
  pub guide : LeadsAlong guiding (moves_moments guided ordered target s moves t taken) guide_first guide_last
  pub order : LeadsAlong ordering (moves_hearings guided ordered target s moves t taken) order_first order_last

-- one move, and what it and the settling after it led to
pub record MovesOne {X Y : Type 0} (guiding : Moment → X → X → Type 0) (ordering : Hearing → Y → Y → Type 0) (guided ordered : Bool) (target : ℕ) (s : BestState) (move : Move) (t : BestState) (guide_first guide_last : X) (order_first order_last : Y) : Type 0 where
  pub made : Moves guided ordered target s move t
  pub guide : LeadsAlong guiding (moment_of s.search move) guide_first guide_last
  pub order : LeadsAlong ordering (move_hearings guided ordered target s move t made) order_first order_last

pub moves_on : {X Y : Type 0} (guiding : Moment → X → X → Type 0) (ordering : Hearing → Y → Y → Type 0) (guided ordered : Bool) (target : ℕ) (a : BestState) (moves : List Move) (b : BestState) (move : Move) (c : BestState) (g h k : X) (o p q : Y)
    → (taken : AllMoves guided ordered target a moves b) → LeadsAlong guiding (moves_moments guided ordered target a moves b taken) g h → LeadsAlong ordering (moves_hearings guided ordered target a moves b taken) o p
    → MovesOne guiding ordering guided ordered target b move c h k p q → MovesOn guiding ordering guided ordered target a (moves ++ move ∷ []) c g k o q
moves_on guiding ordering guided ordered target a [] b move c g h k o p q taken guide order one =
    let here = subst (λ (z : BestState). MovesOne guiding ordering guided ordered target z move c h k p q) taken one in
    let heard = move_hearings guided ordered target a move c here.made in
    record {
      taken = (c, here.made, refl);
      guide = leads_then guiding (moment_of a.search move) [] g k k (subst (λ x. LeadsAlong guiding (moment_of a.search move) x k) guide here.guide) refl;
      order = leads_then ordering heard [] o q q (subst (λ y. LeadsAlong ordering heard y q) order here.order) refl;
    }
moves_on guiding ordering guided ordered target a (first ∷ moves) b move c g h k o p q taken guide order one =
    let asked = moment_of a.search first in
    let heard = move_hearings guided ordered target a first taken.0 taken.1 in
    let guide_split = leads_split guiding asked (moves_moments guided ordered target taken.0 moves b taken.2) g h guide in
    let order_split = leads_split ordering heard (moves_hearings guided ordered target taken.0 moves b taken.2) o p order in
    let more = moves_on guiding ordering guided ordered target taken.0 moves b move c guide_split.0 h k order_split.0 p q taken.2 guide_split.2 order_split.2 one in
    record {
      taken = (taken.0, taken.1, more.taken);
      guide = leads_then guiding asked (moves_moments guided ordered target taken.0 (moves ++ move ∷ []) c more.taken) g guide_split.0 k guide_split.1 more.guide;
      order = leads_then ordering heard (moves_hearings guided ordered target taken.0 (moves ++ move ∷ []) c more.taken) o order_split.0 q order_split.1 more.order;
    }
