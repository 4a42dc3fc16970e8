-- While nothing is dropped no two undoings happen at the same set of decisions, and there are only so many sets.
use Rattle.std.proofs.Common.{◌≡◌, ℕ, zero, suc, ◌+◌, ◌*◌, ◌<◌, ◌≤◌, Bool, None, List, [], ◌∷◌, ◌++◌, length, map, flat_map, Contains, ℤ, ◌⊎◌, inl, inr, refl, sym, ap, ◌∙◌, subst, arith, length-append, remove}
use Rattle.std.proofs.lemmas.List.{length-map}
use Rattle.std.proofs.lemmas.List.Edits.{length-remove}
use Rattle.std.proofs.lemmas.Option.{slice_get_within}
use Rattle.std.proofs.lemmas.List.Elements.{Contains-append_left, Contains-push}
use Rattle.palm_base.specs.declared.terms.Pair.{Pair}
use Rattle.palm_base.specs.declared.terms.Cid.{Cid}
use Rattle.palm_base.specs.declared.terms.Cid.TheVariants.{Decide}
use Rattle.palm_base.proofs.cited.Members.{nat_known, member_nil, member_here, member_there, member_cases, member_same, member_map, member_flat_map, member_place, member_remove}
use Rattle.palm_model.specs.Domains.{Domains, Has}
use Rattle.palm_model.specs.Constraint.{Distinct}
use Rattle.palm_model.specs.State.{EngineState, IsValid}
use Rattle.palm_model.specs.Event.{vars_of}
use Rattle.palm_model.proofs.cited.Narrowing.{has_declared}
use Rattle.palm_model.proofs.cited.Without.{pair_of}
use Rattle.palm_events.specs.Reasons.{ReasonsAreRight}
use Rattle.palm_engine.proofs.cited.Settled.{settling_filters}
use Rattle.palm_search.specs.declared.turn.Pick.{Pick}
use Rattle.palm_search.specs.declared.turn.Turn.{Turn}
use Rattle.palm_search.specs.declared.turn.Turn.TheVariants.{Decide as TurnDecide, Undo as TurnUndo}
use Rattle.palm_search.specs.Turns.{decided_vars}
use Rattle.palm_search.specs.declared.ending.SearchEnd.{SearchEnd}
use Rattle.palm_search.specs.declared.ending.SearchEnd.TheVariants.{Spent}
use Rattle.palm_search.specs.Kept.{HasOnlyUsers}
use Rattle.palm_search.proofs.cited.Measuring.{decides_in, undoes_in, none_counted, decide_counted, undo_counted, turns_counted, decisions_few}
use Rattle.palm_search.proofs.cited.Weighing.{turns_few}
use Rattle.palm_repair.specs.Posting.{Nogood, RepairState, pairs_under, nogood_of}
use Rattle.palm_repair.specs.Repair.{MakesRoom, RepairUndoes, RepairTakes, RepairSettles, RepairFollows, RepairTurns, RepairRun, repair_begun}
use Rattle.palm_repair.specs.Kept.{IsAtTurn}
use Rattle.palm_repair.specs.Sets.{decision_sets, most_repair_turns}
use Rattle.palm_repair.proofs.Refuting.{under_member, member_under, one_under, nogood_pair}
use Rattle.palm_repair.proofs.Forcing.{posts_from_leaves, undecided_member}
use Rattle.palm_repair.proofs.Repairing.{undone, room_users}
use Rattle.palm_repair.proofs.Blocking.{undone_pair, room_decisions, follows_at_turn, turns_at_turn, starts_at_turn}

-- ---- lists without repetition

-- no member stands twice
abbrev AreApart : {X : Type 0} → List X → Type 0
AreApart [] = Unit {0}
AreApart (x ∷ xs) = (Contains xs x → ⊥) × AreApart xs

-- what stands apart and among others is not more than these
apart_short : {X : Type 0} (xs ys : List X) → AreApart xs → ((x : X) → Contains xs x → Contains ys x) → length xs ≤ length ys
apart_short [] ys apart sub = omega arith
apart_short (x ∷ xs) ys apart sub =
    let m = sub x (member_here x xs) in
    let place = member_place ys x m in
    let fewer = length-remove ys place.0 (slice_get_within ys place.0 x place.1) in
    let rest = apart_short xs (remove ys place.0) apart.1 (λ z k. member_remove ys place.0 x z place.1 (λ e. apart.0 (member_same xs z x (sym e) k)) (sub z (member_there x xs z k))) in
    omega (arith, fewer, rest)

-- ---- sets of decisions

-- the decisions of so many variables from number x on: for each of them none or one pair
abbrev set_from : ℕ → ℕ → List Pair → List (List Pair)
set_from x zero decisions = []
set_from x (suc n) decisions = pairs_under decisions (Decide x) ∷ set_from (x + 1) n decisions

-- with the first variable undecided, or with one of its values
abbrev with_values : ℕ → List ℤ → List (List Pair) → List (List (List Pair))
with_values x vs rest = ([] ∷ rest) ∷ map (λ v. (pair_of x v ∷ []) ∷ rest) vs

-- all sets over these domains of the variables from number x on
abbrev sets_from : ℕ → Domains → List (List (List Pair))
sets_from x [] = [] ∷ []
sets_from x (vs ∷ d) = flat_map (with_values x vs) (sets_from (x + 1) d)

equal_pieces : {X Y : Type 0} (f : X → List Y) (n : ℕ) (xs : List X) → ((x : X) → length (f x) ≡ n) → length (flat_map f xs) ≡ n * length xs
equal_pieces f n [] each = omega arith
equal_pieces f n (x ∷ xs) each =
    let l = length-append (f x) (flat_map f xs) in
    let e = each x in
    let k = equal_pieces f n xs each in
    let d : n * suc (length xs) ≡ n + n * length xs = omega arith in
    omega (arith, l, e, k, d)

with_values_count : (x : ℕ) (vs : List ℤ) (rest : List (List Pair)) → length (with_values x vs rest) ≡ length vs + 1
with_values_count x vs rest = let l = length-map vs (λ v. (pair_of x v ∷ []) ∷ rest) in omega (arith, l)

sets_count : (x : ℕ) (d : Domains) → length (sets_from x d) ≡ decision_sets d
sets_count x [] = refl
sets_count x (vs ∷ d) = equal_pieces (with_values x vs) (length vs + 1) (sets_from (x + 1) d) (with_values_count x vs) ∙ ap (λ n. (length vs + 1) * n) (sets_count (x + 1) d)

-- decisions over these domains, of the variables from number x on
abbrev AreWithin : ℕ → Domains → List Pair → Type 0
AreWithin x d decisions = (n : ℕ) (p : Pair) → Contains decisions p → p.var ≡ x + n → n < length d → Has d n p.value

first_value : (x : ℕ) (vs : List ℤ) (rest : List (List Pair)) (decisions : List Pair) → Distinct (vars_of decisions) → ((p : Pair) → Contains decisions p → p.var ≡ x → Contains vs p.value)
    → Contains (with_values x vs rest) (pairs_under decisions (Decide x) ∷ rest)
first_value x vs rest decisions distinct within = elim (one_under decisions x distinct) [
  | inl e ↦ subst (λ l. Contains (with_values x vs rest) (l ∷ rest)) (sym e) (member_here ([] ∷ rest) (map (λ v. (pair_of x v ∷ []) ∷ rest) vs))
  | inr r ↦
      let p = r.0 in
      let u = under_member decisions (Decide x) p (subst (λ l. Contains l p) (sym r.1) (member_here p [])) in
      let at : p.var ≡ x = sym (decide_same x p.var u.1) in
      let same : pair_of x p.value ≡ p = λ i. record { var = sym at i; value = p.value } in
      subst (λ l. Contains (with_values x vs rest) (l ∷ rest)) (ap (λ q. q ∷ []) same ∙ sym r.1)
      (member_there ([] ∷ rest) (map (λ v. (pair_of x v ∷ []) ∷ rest) vs) ((pair_of x p.value ∷ []) ∷ rest) (member_map (λ v. (pair_of x v ∷ []) ∷ rest) vs p.value (within p u.0 at)))
]
  where
    decide_same : (x y : ℕ) → Decide x ≡ Decide y → x ≡ y
    decide_same x y e = cc

-- each set of decisions is one of them
set_member : (x : ℕ) (d : Domains) (decisions : List Pair) → Distinct (vars_of decisions) → AreWithin x d decisions → Contains (sets_from x d) (set_from x (length d) decisions)
set_member x [] decisions distinct within = member_here [] []
set_member x (vs ∷ d) decisions distinct within =
    let rest = set_from (x + 1) (length d) decisions in
    member_flat_map (with_values x vs) (sets_from (x + 1) d) rest (pairs_under decisions (Decide x) ∷ rest)
    (set_member (x + 1) d decisions distinct (λ n p m e lt. within (suc n) p m (omega (arith, e)) (omega (arith, lt))))
    (first_value x vs rest decisions distinct (λ p m e. within 0 p m (omega (arith, e)) (omega arith)))

first_same : (x y : List Pair) (xs ys : List (List Pair)) → x ∷ xs ≡ y ∷ ys → x ≡ y
first_same x y xs ys e = cc

others_same : (x y : List Pair) (xs ys : List (List Pair)) → x ∷ xs ≡ y ∷ ys → xs ≡ ys
others_same x y xs ys e = cc

-- where the sets are one, each of the variables has the same decision
set_same : (x n : ℕ) (one other : List Pair) (y : ℕ) → set_from x n one ≡ set_from x n other → x ≤ y → y < x + n → pairs_under one (Decide y) ≡ pairs_under other (Decide y)
set_same x zero one other y e le lt = absurd (omega (arith, le, lt))
set_same x (suc n) one other y e le lt = elim (nat_known x y) [
  | inl same ↦ subst (λ z. pairs_under one (Decide z) ≡ pairs_under other (Decide z)) same
      (first_same (pairs_under one (Decide x)) (pairs_under other (Decide x)) (set_from (x + 1) n one) (set_from (x + 1) n other) e)
  | inr ne ↦ set_same (x + 1) n one other y
      (others_same (pairs_under one (Decide x)) (pairs_under other (Decide x)) (set_from (x + 1) n one) (set_from (x + 1) n other) e) (omega (arith, le, ne)) (omega (arith, lt))
]

-- a pair that one of them lacks tells them apart
sets_apart : (n : ℕ) (one other : List Pair) (p : Pair) → p.var < n → Contains one p → (Contains other p → ⊥) → set_from 0 n one ≡ set_from 0 n other → ⊥
sets_apart n one other p lt m lacks e =
    let same = set_same 0 n one other p.var e (omega arith) (omega (arith, lt)) in
    lacks (under_member other (Decide p.var) p (subst (λ l. Contains l p) same (member_under one p m))).0

-- ---- what a turn does to the list of nogoods

pub settles_nogoods : (ordered : Bool) (s t : RepairState) → RepairSettles ordered s t → (t.nogoods ≡ s.nogoods) × (t.dropped ≡ s.dropped)
settles_nogoods ordered s t settles = (ap (λ (z : RepairState). z.nogoods) settles.after, ap (λ (z : RepairState). z.dropped) settles.after)

-- room is made by dropping one nogood, or there was room
pub data MadeRoom (s t : RepairState) : Type 0 where
  one_dropped : t.dropped ≡ s.dropped + 1 → MadeRoom s t
  none_dropped : t.nogoods ≡ s.nogoods → t.dropped ≡ s.dropped → MadeRoom s t

pub made_room : (tabu : ℕ) (s t : RepairState) → MakesRoom tabu s t → MadeRoom s t
made_room tabu s t room = elim room [
  | inl r ↦ one_dropped (ap (λ (z : RepairState). z.dropped) r.1.after)
  | inr r ↦ none_dropped (ap (λ (z : RepairState). z.nogoods) r.1) (ap (λ (z : RepairState). z.dropped) r.1)
]

-- an undoing drops a nogood, or it only appends one
data Undid (s : RepairState) (nogood : Nogood) (t : RepairState) : Type 0 where
  with_dropped : t.dropped ≡ s.dropped + 1 → Undid s nogood t
  with_appended : t.nogoods ≡ s.nogoods ++ nogood ∷ [] → t.dropped ≡ s.dropped → Undid s nogood t

undo_nogoods : (guided ordered : Bool) (tabu : ℕ) (s : RepairState) (gone : Pair) (conflict : List Cid) (t : RepairState) → RepairFollows guided ordered tabu s (TurnUndo gone conflict) t
    → Undid s (nogood_of s.search.decisions conflict) t
undo_nogoods guided ordered tabu s gone conflict t follows =
    let turn = follows.takes in
    let roomy = turn.roomy in
    let nogood = nogood_of s.search.decisions conflict in
    let nogoods = roomy.nogoods ++ nogood ∷ [] in
    let leaves = posts_from_leaves (record roomy { nogoods = nogoods }) roomy.dropped nogoods follows.middle turn.posts in
    let settles = settles_nogoods ordered follows.middle t follows.settles in
    elim (made_room tabu (undone s turn.engine turn.left (decided_vars conflict)) roomy turn.makes_room) [
      | one_dropped e ↦ with_dropped (settles.1 ∙ leaves.dropped ∙ e)
      | none_dropped n e ↦ with_appended (settles.0 ∙ leaves.nogoods ∙ ap (λ l. l ++ nogood ∷ []) n) (settles.1 ∙ leaves.dropped ∙ e)
    ]

decide_nogoods : (guided ordered : Bool) (tabu : ℕ) (s : RepairState) (p : Pair) (pick : Pick) (t : RepairState) → RepairFollows guided ordered tabu s (TurnDecide p pick) t → (t.nogoods ≡ s.nogoods) × (t.dropped ≡ s.dropped)
decide_nogoods guided ordered tabu s p pick t follows =
    let turn = follows.takes in
    let leaves = posts_from_leaves (record s { search = turn.middle }) s.dropped s.nogoods follows.middle turn.posts in
    let settles = settles_nogoods ordered follows.middle t follows.settles in
    (settles.0 ∙ leaves.nogoods, settles.1 ∙ leaves.dropped)

follows_dropped : (guided ordered : Bool) (tabu : ℕ) (s : RepairState) (turn : Turn) (t : RepairState) → RepairFollows guided ordered tabu s turn t → s.dropped ≤ t.dropped
follows_dropped guided ordered tabu s (TurnDecide p pick) t follows = let e = (decide_nogoods guided ordered tabu s p pick t follows).1 in omega (arith, e)
follows_dropped guided ordered tabu s (TurnUndo gone conflict) t follows = elim (undo_nogoods guided ordered tabu s gone conflict t follows) [
  | with_dropped e ↦ omega (arith, e)
  | with_appended n e ↦ omega (arith, e)
]

turns_dropped : (guided ordered : Bool) (tabu : ℕ) (s : RepairState) (turns : List Turn) (t : RepairState) → RepairTurns guided ordered tabu s turns t → s.dropped ≤ t.dropped
turns_dropped guided ordered tabu s [] t run = let e = ap (λ (z : RepairState). z.dropped) run in omega (arith, e)
turns_dropped guided ordered tabu s (turn ∷ turns) t run =
    let one = follows_dropped guided ordered tabu s turn run.0 run.1 in
    let more = turns_dropped guided ordered tabu run.0 turns t run.2 in
    omega (arith, one, more)

-- where nothing was dropped by the end, no turn dropped
none_before : (guided ordered : Bool) (tabu : ℕ) (s : RepairState) (turn : Turn) (m : RepairState) (turns : List Turn) (t : RepairState) → RepairFollows guided ordered tabu s turn m
    → RepairTurns guided ordered tabu m turns t → t.dropped ≡ s.dropped → m.dropped ≡ s.dropped
none_before guided ordered tabu s turn m turns t follows run same =
    let one = follows_dropped guided ordered tabu s turn m follows in
    let more = turns_dropped guided ordered tabu m turns t run in
    omega (arith, one, more, same)

-- an undoing that drops nothing appends its nogood
undo_appends : (guided ordered : Bool) (tabu : ℕ) (s : RepairState) (gone : Pair) (conflict : List Cid) (t : RepairState) → RepairFollows guided ordered tabu s (TurnUndo gone conflict) t → t.dropped ≡ s.dropped
    → t.nogoods ≡ s.nogoods ++ nogood_of s.search.decisions conflict ∷ []
undo_appends guided ordered tabu s gone conflict t follows same = elim (undo_nogoods guided ordered tabu s gone conflict t follows) [
  | with_dropped e ↦ absurd (omega (arith, e, same))
  | with_appended n e ↦ n
]

-- while nothing is dropped, the listed nogoods stay listed
stays_listed : (guided ordered : Bool) (tabu : ℕ) (s : RepairState) (turn : Turn) (t : RepairState) → RepairFollows guided ordered tabu s turn t → t.dropped ≡ s.dropped → (nogood : Nogood) → Contains s.nogoods nogood → Contains t.nogoods nogood
stays_listed guided ordered tabu s (TurnDecide p pick) t follows same nogood m = subst (λ l. Contains l nogood) (sym (decide_nogoods guided ordered tabu s p pick t follows).0) m
stays_listed guided ordered tabu s (TurnUndo gone conflict) t follows same nogood m =
    subst (λ l. Contains l nogood) (sym (undo_appends guided ordered tabu s gone conflict t follows same)) (Contains-append_left s.nogoods (nogood_of s.search.decisions conflict ∷ []) nogood m)

all_listed : (guided ordered : Bool) (tabu : ℕ) (s : RepairState) (turns : List Turn) (t : RepairState) → RepairTurns guided ordered tabu s turns t → t.dropped ≡ s.dropped → (nogood : Nogood) → Contains s.nogoods nogood → Contains t.nogoods nogood
all_listed guided ordered tabu s [] t run same nogood m = subst (λ (z : RepairState). Contains z.nogoods nogood) (sym run) m
all_listed guided ordered tabu s (turn ∷ turns) t run same nogood m =
    let none = none_before guided ordered tabu s turn run.0 turns t run.1 run.2 same in
    all_listed guided ordered tabu run.0 turns t run.2 (same ∙ sym none) nogood (stays_listed guided ordered tabu s turn run.0 run.1 none nogood m)

-- ---- no two undoings happen at the same set

-- a pair of the nogood that these decisions lack
abbrev Lacks : Nogood → List Pair → Type 0
Lacks nogood decisions = (p : Pair) × Contains nogood.pairs p × (Contains decisions p → ⊥)

turn_lacks : (s : RepairState) → IsAtTurn s → (nogood : Nogood) → Contains s.nogoods nogood → Lacks nogood s.search.decisions
turn_lacks s at nogood m =
    let has = at.posted.none_whole nogood m in
    let u = undecided_member s.search.decisions nogood has.0 has.1 in
    (has.0, u.0, u.1)

pub undos_apart : ReasonsAreRight → (guided ordered : Bool) (tabu : ℕ) (s : RepairState) (gone : Pair) (conflict : List Cid) (turns : List Turn) (t : RepairState) → IsAtTurn s
    → RepairTurns guided ordered tabu s (TurnUndo gone conflict ∷ turns) t → t.dropped ≡ s.dropped → (p : Pair) × Contains s.search.decisions p × (Contains t.search.decisions p → ⊥)
undos_apart right guided ordered tabu s gone conflict turns t at run same =
    let none = none_before guided ordered tabu s (TurnUndo gone conflict) run.0 turns t run.1 run.2 same in
    let nogood = nogood_of s.search.decisions conflict in
    let listed = subst (λ l. Contains l nogood) (sym (undo_appends guided ordered tabu s gone conflict run.0 run.1 none)) (Contains-push s.nogoods nogood) in
    let last = turns_at_turn right guided ordered tabu s (TurnUndo gone conflict ∷ turns) t run at in
    let lacks = turn_lacks t last nogood (all_listed guided ordered tabu run.0 turns t run.2 (same ∙ sym none) nogood listed) in
    (lacks.0, (nogood_pair s.search.decisions conflict lacks.0 lacks.1).0, lacks.2)

-- ---- the sets at which undoings happen

-- a set of some decisions, none of which is all of a listed nogood
record IsVisited (d : Domains) (nogoods : List Nogood) (set : List (List Pair)) : Type 0 where
  decisions : List Pair
  is : set ≡ set_from 0 (length d) decisions
  declared : (p : Pair) → Contains decisions p → Has d p.var p.value
  distinct : Distinct (vars_of decisions)
  pair : Pair
  some : Contains decisions pair
  lacking : (nogood : Nogood) → Contains nogoods nogood → Lacks nogood decisions

visited_fewer : (d : Domains) (few more : List Nogood) (set : List (List Pair)) → ((n : Nogood) → Contains few n → Contains more n) → IsVisited d more set → IsVisited d few set
visited_fewer d few more set sub visited = record {
  decisions = visited.decisions;
  is = visited.is;
  declared = visited.declared;
  distinct = visited.distinct;
  pair = visited.pair;
  some = visited.some;
  lacking = λ n m. visited.lacking n (sub n m);
}

visited_member : (d : Domains) (nogoods : List Nogood) (set : List (List Pair)) → IsVisited d nogoods set → Contains (sets_from 0 d) set
visited_member d nogoods set visited = subst (λ l. Contains (sets_from 0 d) l) (sym visited.is) (set_member 0 d visited.decisions visited.distinct (λ n p m e lt.
    let at : p.var ≡ n = omega (arith, e) in
    subst (λ k. Has d k p.value) at (visited.declared p m)))

-- the sets at which the undoings of these turns happen
record Visits (d : Domains) (nogoods : List Nogood) (turns : List Turn) : Type 0 where
  sets : List (List (List Pair))
  count : length sets ≡ undoes_in turns
  apart : AreApart sets
  each : (set : List (List Pair)) → Contains sets set → IsVisited d nogoods set

-- the decisions of a state at which an undoing happens
undo_visited : (tabu : ℕ) (s : RepairState) (gone : Pair) (conflict : List Cid) (t : RepairState) (d : Domains) → RepairUndoes tabu s gone conflict t → IsAtTurn s → s.search.engine.initial ≡ d
    → IsVisited d s.nogoods (set_from 0 (length d) s.search.decisions)
undo_visited tabu s gone conflict t d turn at e =
    let searching = at.repairing.searching in
    record {
      decisions = s.search.decisions;
      is = refl;
      declared = λ p m. subst (λ i. Has i p.var p.value) e (searching.declared.decided p m);
      distinct = searching.decisions.distinct;
      pair = gone;
      some = (undone_pair s _ conflict gone turn.left turn.heaviest searching.decisions.distinct).0;
      lacking = λ n m. turn_lacks s at n m;
    }

-- it is none of the sets of which each lacks a pair of its nogood
undo_apart : (d : Domains) (nogoods : List Nogood) (s : RepairState) (conflict : List Cid) (set : List (List Pair)) → IsVisited d nogoods set → Contains nogoods (nogood_of s.search.decisions conflict)
    → ((p : Pair) → Contains s.search.decisions p → Has d p.var p.value) → set_from 0 (length d) s.search.decisions ≡ set → ⊥
undo_apart d nogoods s conflict set visited listed declared e =
    let lacks = visited.lacking (nogood_of s.search.decisions conflict) listed in
    let m = (nogood_pair s.search.decisions conflict lacks.0 lacks.1).0 in
    sets_apart (length d) s.search.decisions visited.decisions lacks.0 (has_declared d lacks.0.var lacks.0.value (declared lacks.0 m)) m lacks.2 (e ∙ visited.is)

takes_initial : (guided : Bool) (tabu : ℕ) (s : RepairState) (turn : Turn) (t : RepairState) → RepairTakes guided tabu s turn t → t.search.engine.initial ≡ s.search.engine.initial
takes_initial guided tabu s (TurnDecide p pick) t turn =
    let leaves = posts_from_leaves (record s { search = turn.middle }) s.dropped s.nogoods t turn.posts in
    leaves.initial ∙ ap (λ (z : EngineState). z.initial) turn.decides.posts.after
takes_initial guided tabu s (TurnUndo gone conflict) t turn =
    let roomy = turn.roomy in
    let nogoods = roomy.nogoods ++ nogood_of s.search.decisions conflict ∷ [] in
    let leaves = posts_from_leaves (record roomy { nogoods = nogoods }) roomy.dropped nogoods t turn.posts in
    leaves.initial ∙ (room_users tabu (undone s turn.engine turn.left (decided_vars conflict)) roomy turn.makes_room).initial ∙ ap (λ (z : EngineState). z.initial) turn.withdraws.after

follows_initial : (guided ordered : Bool) (tabu : ℕ) (s : RepairState) (turn : Turn) (t : RepairState) → RepairFollows guided ordered tabu s turn t → t.search.engine.initial ≡ s.search.engine.initial
follows_initial guided ordered tabu s turn t follows =
    let filters = settling_filters None follows.middle.search.engine follows.settles.settles.revisions t.search.engine follows.settles.settles.settles in
    filters.initial ∙ takes_initial guided tabu s turn follows.middle follows.takes

visits_more : (guided ordered : Bool) (tabu : ℕ) (s : RepairState) (turn : Turn) (m : RepairState) (d : Domains) (turns : List Turn) → RepairFollows guided ordered tabu s turn m → IsAtTurn s → s.search.engine.initial ≡ d
    → m.dropped ≡ s.dropped → Visits d m.nogoods turns → Visits d s.nogoods (turn ∷ turns)
visits_more guided ordered tabu s (TurnDecide p pick) m d turns follows at e same rest = record {
  sets = rest.sets;
  count = rest.count ∙ sym (decide_counted p pick turns).0;
  apart = rest.apart;
  each = λ set k. visited_fewer d s.nogoods m.nogoods set (λ n j. stays_listed guided ordered tabu s (TurnDecide p pick) m follows same n j) (rest.each set k);
}
visits_more guided ordered tabu s (TurnUndo gone conflict) m d turns follows at e same rest =
    let here = undo_visited tabu s gone conflict follows.middle d follows.takes at e in
    let set = set_from 0 (length d) s.search.decisions in
    let nogood = nogood_of s.search.decisions conflict in
    let listed = subst (λ l. Contains l nogood) (sym (undo_appends guided ordered tabu s gone conflict m follows same)) (Contains-push s.nogoods nogood) in
    let c = rest.count in
    let u = (undo_counted gone conflict turns).0 in
    record {
      sets = set ∷ rest.sets;
      count = omega (arith, c, u);
      apart = (λ k. undo_apart d m.nogoods s conflict set (rest.each set k) listed (λ p m. subst (λ i. Has i p.var p.value) e (at.repairing.searching.declared.decided p m)) refl, rest.apart);
      each = λ other k. elim (member_cases set rest.sets other k) [
        | inl same_set ↦ subst (λ l. IsVisited d s.nogoods l) same_set here
        | inr j ↦ visited_fewer d s.nogoods m.nogoods other (λ n i. stays_listed guided ordered tabu s (TurnUndo gone conflict) m follows same n i) (rest.each other j)
      ];
    }

turns_visit : ReasonsAreRight → (guided ordered : Bool) (tabu : ℕ) (s : RepairState) (turns : List Turn) (t : RepairState) (d : Domains) → RepairTurns guided ordered tabu s turns t → IsAtTurn s
    → s.search.engine.initial ≡ d → t.dropped ≡ s.dropped → Visits d s.nogoods turns
turns_visit right guided ordered tabu s [] t d run at e same = record { sets = []; count = sym none_counted.0; apart = tt; each = λ set k. absurd (member_nil set k) }
turns_visit right guided ordered tabu s (turn ∷ turns) t d run at e same =
    let m = run.0 in
    let none = none_before guided ordered tabu s turn m turns t run.1 run.2 same in
    let rest = turns_visit right guided ordered tabu m turns t d run.2 (follows_at_turn right guided ordered tabu s turn m run.1 at) (follows_initial guided ordered tabu s turn m run.1 ∙ e) (same ∙ sym none) in
    visits_more guided ordered tabu s turn m d turns run.1 at e none rest

-- so undoings are fewer than sets: none of them happens without decisions
undoes_few : (d : Domains) (nogoods : List Nogood) (turns : List Turn) → Visits d nogoods turns → undoes_in turns < decision_sets d
undoes_few d nogoods turns visits =
    let none = set_from 0 (length d) [] in
    let k = apart_short (none ∷ visits.sets) (sets_from 0 d) (
      λ m. let v = visits.each none m in sets_apart (length d) v.decisions [] v.pair (has_declared d v.pair.var v.pair.value (v.declared v.pair v.some)) v.some (λ j. member_nil v.pair j) (sym v.is),
      visits.apart,
    ) (λ set m. elim (member_cases none visits.sets set m) [
      | inl e ↦ subst (λ l. Contains (sets_from 0 d) l) e (set_member 0 d [] tt (λ n p j. absurd (member_nil p j)))
      | inr j ↦ visited_member d nogoods set (visits.each set j)
    ]) in
    let c = visits.count in
    let l = sets_count 0 d in
    omega (arith, k, c, l)

-- ---- decisions and undoings

follows_count : (guided ordered : Bool) (tabu : ℕ) (s : RepairState) (turn : Turn) (turns : List Turn) (m : RepairState) (last : ℕ) → RepairFollows guided ordered tabu s turn m
    → last + undoes_in turns ≡ length m.search.decisions + decides_in turns → last + undoes_in (turn ∷ turns) ≡ length s.search.decisions + decides_in (turn ∷ turns)
follows_count guided ordered tabu s (TurnDecide p pick) turns m last follows rest =
    let turn = follows.takes in
    let leaves = posts_from_leaves (record s { search = turn.middle }) s.dropped s.nogoods follows.middle turn.posts in
    let c = decide_counted p pick turns in
    let u = c.0 in
    let d = c.1 in
    let l = ap length (follows.settles.settles.decisions ∙ leaves.decisions ∙ turn.decides.decisions) in
    let a = length-append s.search.decisions (p ∷ []) in
    omega (arith, rest, u, d, l, a)
follows_count guided ordered tabu s (TurnUndo gone conflict) turns m last follows rest =
    let turn = follows.takes in
    let roomy = turn.roomy in
    let heaviest = turn.heaviest in
    let nogoods = roomy.nogoods ++ nogood_of s.search.decisions conflict ∷ [] in
    let leaves = posts_from_leaves (record roomy { nogoods = nogoods }) roomy.dropped nogoods follows.middle turn.posts in
    let c = undo_counted gone conflict turns in
    let u = c.0 in
    let d = c.1 in
    let room = room_decisions tabu (undone s turn.engine turn.left (decided_vars conflict)) roomy turn.makes_room in
    let l = ap length (follows.settles.settles.decisions ∙ leaves.decisions ∙ room ∙ heaviest.others) in
    let a = length-append heaviest.earlier heaviest.later in
    let b = ap length heaviest.are ∙ length-append heaviest.earlier (gone ∷ heaviest.later) in
    omega (arith, rest, u, d, l, a, b)

turns_count : (guided ordered : Bool) (tabu : ℕ) (s : RepairState) (turns : List Turn) (t : RepairState) → RepairTurns guided ordered tabu s turns t
    → length t.search.decisions + undoes_in turns ≡ length s.search.decisions + decides_in turns
turns_count guided ordered tabu s [] t run =
    let u = none_counted.0 in
    let d = none_counted.1 in
    let l = ap (λ (z : RepairState). length z.search.decisions) run in
    omega (arith, u, d, l)
turns_count guided ordered tabu s (turn ∷ turns) t run =
    follows_count guided ordered tabu s turn turns run.0 (length t.search.decisions) run.1 (turns_count guided ordered tabu run.0 turns t run.2)

-- ---- the bound

turns_initial : (guided ordered : Bool) (tabu : ℕ) (s : RepairState) (turns : List Turn) (t : RepairState) → RepairTurns guided ordered tabu s turns t → t.search.engine.initial ≡ s.search.engine.initial
turns_initial guided ordered tabu s [] t run = ap (λ (z : RepairState). z.search.engine.initial) run
turns_initial guided ordered tabu s (turn ∷ turns) t run = turns_initial guided ordered tabu run.0 turns t run.2 ∙ follows_initial guided ordered tabu s turn run.0 run.1

no_variables : (d : Domains) → length d ≡ 0 → decision_sets d ≡ 1
no_variables [] e = refl
no_variables (vs ∷ d) e = absurd (omega (arith, e))

pub repair_turns_bounded : ReasonsAreRight → (guided ordered : Bool) (tabu : ℕ) (s : RepairState) (turns : List Turn) (t : RepairState) → RepairTurns guided ordered tabu s turns t → IsAtTurn s → s.search.decisions ≡ []
    → t.dropped ≡ s.dropped → length turns < most_repair_turns s.search.engine.initial
repair_turns_bounded right guided ordered tabu s turns t run at none same =
    let d = s.search.engine.initial in
    let undone_few = undoes_few d s.nogoods turns (turns_visit right guided ordered tabu s turns t d run at refl same) in
    let last = turns_at_turn right guided ordered tabu s turns t run at in
    let few = decisions_few t.search last.repairing.searching in
    let len = ap length (turns_initial guided ordered tabu s turns t run) in
    let moved = turns_count guided ordered tabu s turns t run in
    let start = ap length none in
    let decided : decides_in turns ≤ length d + undoes_in turns = omega (arith, few, len, moved, start) in
    let empty : length d ≡ 0 → undoes_in turns ≡ 0 = λ e. let one = no_variables d e in omega (arith, undone_few, one) in
    let total = turns_few (length d) (decision_sets d) (undoes_in turns) (decides_in turns) undone_few decided empty in
    let count = turns_counted turns in
    omega (arith, total, count)

pub repair_run_bounded : ReasonsAreRight → (guided ordered : Bool) (tabu budget : ℕ) (s : EngineState) (turns : List Turn) (end : SearchEnd) (dropped : ℕ) (t : RepairState) → IsValid s → HasOnlyUsers s
    → RepairRun guided ordered tabu budget s turns end dropped t → dropped ≡ 0 → length turns < most_repair_turns s.initial
repair_run_bounded right guided ordered tabu budget s turns end dropped t valid users run none =
    let start = starts_at_turn right ordered s run.start valid users run.settles in
    let filters = settling_filters None s run.settles.settles.revisions run.start.search.engine run.settles.settles.settles in
    let same : t.dropped ≡ run.start.dropped = sym run.drops ∙ none ∙ sym (settles_nogoods ordered (repair_begun s) run.start run.settles).1 in
    subst (λ (d : Domains). length turns < most_repair_turns d) filters.initial
    (repair_turns_bounded right guided ordered tabu run.start turns t run.taken start run.settles.settles.decisions same)

zero_or_more : (n : ℕ) → (n ≡ 0) ⊎ (0 < n)
zero_or_more zero = inl refl
zero_or_more (suc n) = inr (omega arith)

pub repair_run_spent : ReasonsAreRight → (guided ordered : Bool) (tabu budget spent : ℕ) (s : EngineState) (turns : List Turn) (dropped : ℕ) (t : RepairState) → IsValid s → HasOnlyUsers s
    → RepairRun guided ordered tabu budget s turns (Spent spent) dropped t → (spent ≡ budget) × ((0 < dropped) ⊎ (spent < most_repair_turns s.initial))
repair_run_spent right guided ordered tabu budget spent s turns dropped t valid users run =
    let e = run.ends in
    let count = e.0 in (
      count ∙ e.1,
      elim (zero_or_more dropped) [
        | inr some ↦ inl some
        | inl none ↦ inr (let few = repair_run_bounded right guided ordered tabu budget s turns (Spent spent) dropped t valid users run none in omega (arith, count, few))
      ],
    )
