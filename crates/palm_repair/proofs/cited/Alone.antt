-- Without guide and order there is one repair and no other.
use Rattle.std.proofs.Common.{◌≡◌, ℕ, suc, ◌+◌, ◌<◌, ◌≤◌, Bool, false, List, [], ◌∷◌, ◌++◌, length, Contains, inl, inr, refl, sym, ap, ◌∙◌, subst, arith}
use Rattle.palm_base.specs.declared.terms.Pair.{Pair}
use Rattle.palm_base.specs.declared.terms.Cid.{Cid}
use Rattle.palm_base.specs.declared.terms.Cid.TheVariants.{Decide}
use Rattle.palm_base.proofs.cited.Members.{member_here, member_there}
use Rattle.palm_model.specs.State.{EngineState, IsValid, present}
use Rattle.palm_model.specs.Event.{Withdraws, gone_with}
use Rattle.palm_events.specs.Reasons.{ReasonsAreRight}
use Rattle.palm_events.proofs.cited.Outcomes.{withdrawal_same}
use Rattle.palm_engine.proofs.cited.Walking.{not_empty}
use Rattle.palm_search.specs.declared.turn.Pick.{Pick}
use Rattle.palm_search.specs.declared.turn.Turn.{Turn}
use Rattle.palm_search.specs.declared.turn.Turn.TheVariants.{Decide as TurnDecide, Undo as TurnUndo}
use Rattle.palm_search.specs.Turns.{decided_vars}
use Rattle.palm_search.specs.declared.ending.SearchEnd.{SearchEnd}
use Rattle.palm_search.specs.Search.{EndsWith, GoesOn, Closes, of_search}
use Rattle.palm_search.specs.Search.GoesOn.{could_decide, could_undo}
use Rattle.palm_search.specs.Kept.{HasOnlyUsers}
use Rattle.palm_search.proofs.cited.Alone.{decides_same, flat_same, has_empty, settles_same, decided_open, end_stops, ends_same, head_same, tail_same, later_member}
use Rattle.palm_search.proofs.cited.Whole.{closes_same}
use Rattle.palm_repair.specs.Posting.{Nogood, RepairState, PostsFor, PostsFrom, PostsAll, nogood_of, active_origins, undecided}
use Rattle.palm_repair.specs.Repair.{RepairDecides, IsHeaviest, Drops, MakesRoom, RepairUndoes, RepairTakes, RepairSettles, RepairFollows, RepairTurns, RepairRun, Repairs, IsSameRepair, weight_of, raised, forced_by, repair_begun}
use Rattle.palm_repair.specs.Kept.{IsRepairing}
use Rattle.palm_repair.proofs.Forcing.{negated}
use Rattle.palm_repair.proofs.Repairing.{tail_of, undone, repair_takes_keep, repair_settles_keep, repair_turns_keep, repair_begins}

-- ---- posting

posts_for_same : (s : RepairState) (number : ℕ) (nogood : Nogood) (left : List Pair) (t u : RepairState) → PostsFor s number nogood left t → PostsFor s number nogood left u → t ≡ u
posts_for_same s number nogood [] t u one two = one ∙ sym two
posts_for_same s number nogood (p ∷ q ∷ left) t u one two = one ∙ sym two
posts_for_same s number nogood (p ∷ []) t u one two = elim one [
  | inl a ↦ elim two [
    | inl b ↦ a.1 ∙ sym b.1
    | inr b ↦ absurd (b.posts.inactive a.0)
  ]
  | inr a ↦ elim two [
    | inl b ↦ absurd (a.posts.inactive b.0)
    | inr b ↦ a.after ∙ ap (λ engine. negated s number p engine) (a.posts.after ∙ sym b.posts.after) ∙ sym b.after
  ]
]

posts_from_same : (s : RepairState) (number : ℕ) (left : List Nogood) (t u : RepairState) → PostsFrom s number left t → PostsFrom s number left u → t ≡ u
posts_from_same s number [] t u one two = one ∙ sym two
posts_from_same s number (nogood ∷ left) t u one two =
    let first = posts_for_same s number nogood (undecided s.search.decisions nogood) one.0 two.0 one.1 two.1 in
    posts_from_same two.0 (number + 1) left t u (subst (λ z. PostsFrom z (number + 1) left t) first one.2) two.2

posting_same : (s t u : RepairState) → PostsAll s t → PostsAll s u → t ≡ u
posting_same s t u one two = posts_from_same s s.dropped s.nogoods t u one two

-- ---- deciding

-- a turn, and where it leads
record IsOneTurn (turn : Turn) (t : RepairState) (other : Turn) (u : RepairState) : Type 0 where
  same : turn ≡ other
  state : t ≡ u

repair_decides_same : (s : RepairState) (p : Pair) (pick : Pick) (t : RepairState) (q : Pair) (other : Pick) (u : RepairState) → RepairDecides false s p pick t → RepairDecides false s q other u
    → IsOneTurn (TurnDecide p pick) t (TurnDecide q other) u
repair_decides_same s p pick t q other u one two =
    let same = decides_same s.search p pick one.middle q other two.middle one.decides two.decides in
    record {
      same = same.same;
      state = posting_same (record s { search = two.middle }) t u (subst (λ z. PostsAll (record s { search = z }) t) same.state one.posts) two.posts;
    }

-- ---- the heaviest decision

record IsSameHeaviest (g : Pair) (e l : List Pair) (g' : Pair) (e' l' : List Pair) : Type 0 where
  gone : g ≡ g'
  others : e ++ l ≡ e' ++ l'

heaviest_parts : (weights : List ℕ) (cids : List Cid) (e : List Pair) (g : Pair) (l e' : List Pair) (g' : Pair) (l' : List Pair) → e ++ g ∷ l ≡ e' ++ g' ∷ l' → Contains cids (Decide g.var) → Contains cids (Decide g'.var)
    → ((p : Pair) → Contains e p → Contains cids (Decide p.var) → weight_of weights p.var ≤ weight_of weights g.var)
    → ((p : Pair) → Contains l p → Contains cids (Decide p.var) → weight_of weights p.var < weight_of weights g.var)
    → ((p : Pair) → Contains e' p → Contains cids (Decide p.var) → weight_of weights p.var ≤ weight_of weights g'.var)
    → ((p : Pair) → Contains l' p → Contains cids (Decide p.var) → weight_of weights p.var < weight_of weights g'.var) → IsSameHeaviest g e l g' e' l'
heaviest_parts weights cids [] g l [] g' l' eq held held' most after most' after' = record { gone = head_same g g' l l' eq; others = tail_same g g' l l' eq }
heaviest_parts weights cids [] g l (x ∷ e') g' l' eq held held' most after most' after' =
    let first = head_same g x l (e' ++ g' ∷ l') eq in
    let less = after g' (subst (λ k. Contains k g') (sym (tail_same g x l (e' ++ g' ∷ l') eq)) (later_member e' g' l')) held' in
    let more = most' g (subst (λ z. Contains (x ∷ e') z) (sym first) (member_here x e')) held in
    absurd (omega (arith, less, more))
heaviest_parts weights cids (x ∷ e) g l [] g' l' eq held held' most after most' after' =
    let first = head_same x g' (e ++ g ∷ l) l' eq in
    let less = after' g (subst (λ k. Contains k g) (tail_same x g' (e ++ g ∷ l) l' eq) (later_member e g l)) held in
    let more = most g' (subst (λ z. Contains (x ∷ e) z) first (member_here x e)) held' in
    absurd (omega (arith, less, more))
heaviest_parts weights cids (x ∷ e) g l (y ∷ e') g' l' eq held held' most after most' after' =
    let first = head_same x y (e ++ g ∷ l) (e' ++ g' ∷ l') eq in
    let rest = heaviest_parts weights cids e g l e' g' l' (tail_same x y (e ++ g ∷ l) (e' ++ g' ∷ l') eq) held held'
    (λ p m. most p (member_there x e p m)) after (λ p m. most' p (member_there y e' p m)) after' in
    record { gone = rest.gone; others = λ i. first i ∷ rest.others i }

heaviest_same : (weights : List ℕ) (decisions : List Pair) (cids : List Cid) (g : Pair) (left : List Pair) (g' : Pair) (left' : List Pair) → IsHeaviest weights decisions cids g left → IsHeaviest weights decisions cids g' left'
    → (g ≡ g') × (left ≡ left')
heaviest_same weights decisions cids g left g' left' one two =
    let same = heaviest_parts weights cids one.earlier g one.later two.earlier g' two.later (sym one.are ∙ two.are) one.held two.held one.heaviest one.latest two.heaviest two.latest in
    (same.gone, one.others ∙ same.others ∙ sym two.others)

-- ---- room

-- the state after the oldest nogood went
abbrev after_drop : RepairState → EngineState → List Nogood → RepairState
after_drop s engine rest = record s {
  search = record { engine = engine; decisions = s.search.decisions };
  nogoods = rest;
  origins = active_origins engine.active s.origins;
  dropped = s.dropped + 1;
}

drops_same : (s t u : RepairState) → Drops s t → Drops s u → t ≡ u
drops_same s t u one two =
    let rest = tail_of one.oldest two.oldest one.rest two.rest (sym one.are ∙ two.are) in
    let engine = withdrawal_same s.search.engine (forced_by s.search.engine s.dropped s.origins) one.engine two.engine one.withdraws two.withdraws in
    one.after ∙ (λ i. after_drop s (engine i) (rest i)) ∙ sym two.after

room_same : (tabu : ℕ) (s t u : RepairState) → MakesRoom tabu s t → MakesRoom tabu s u → t ≡ u
room_same tabu s t u one two = elim one [
  | inl a ↦ elim two [
    | inl b ↦ drops_same s t u a.1 b.1
    | inr b ↦ let e = a.0 in let lt = b.0 in absurd (omega (arith, e, lt))
  ]
  | inr a ↦ elim two [
    | inl b ↦ let e = b.0 in let lt = a.0 in absurd (omega (arith, e, lt))
    | inr b ↦ a.1 ∙ sym b.1
  ]
]

-- ---- undoing

-- the state before the posting of an undoing
abbrev ready : RepairState → Nogood → RepairState
ready s nogood = record s { nogoods = s.nogoods ++ nogood ∷ [] }

repair_undoes_same : (tabu : ℕ) (s : RepairState) (g : Pair) (c : List Cid) (t : RepairState) (g' : Pair) (c' : List Cid) (u : RepairState) → RepairUndoes tabu s g c t → RepairUndoes tabu s g' c' u
    → IsOneTurn (TurnUndo g c) t (TurnUndo g' c') u
repair_undoes_same tabu s g c t g' c' u one two =
    let engine = s.search.engine in
    let decisions = s.search.decisions in
    let cids : c ≡ c' = flat_same engine c c' one.flat two.flat in
    let heaviest = heaviest_same (raised s.weights (decided_vars c')) decisions c' g one.left g' two.left
    (subst (λ k. IsHeaviest (raised s.weights (decided_vars k)) decisions k g one.left) cids one.heaviest) two.heaviest in
    let gone : g ≡ g' = heaviest.0 in
    let left : one.left ≡ two.left = heaviest.1 in
    let withdraws : Withdraws engine (Decide g'.var) one.engine = subst (λ (p : Pair). Withdraws engine (Decide p.var) one.engine) gone one.withdraws in
    let engines : one.engine ≡ two.engine = withdrawal_same engine (gone_with engine.active (Decide g'.var)) one.engine two.engine withdraws two.withdraws in
    let before : undone s one.engine one.left (decided_vars c) ≡ undone s two.engine two.left (decided_vars c') = λ i. undone s (engines i) (left i) (decided_vars (cids i)) in
    let rooms : one.roomy ≡ two.roomy = room_same tabu (undone s two.engine two.left (decided_vars c')) one.roomy two.roomy (subst (λ z. MakesRoom tabu z one.roomy) before one.makes_room) two.makes_room in
    let readies : ready one.roomy (nogood_of decisions c) ≡ ready two.roomy (nogood_of decisions c') = λ i. ready (rooms i) (nogood_of decisions (cids i)) in
    record {
      same = λ i. TurnUndo (gone i) (cids i);
      state = posting_same (ready two.roomy (nogood_of decisions c')) t u (subst (λ z. PostsAll z t) readies one.posts) two.posts;
    }

-- ---- turns

repair_takes_goes : (guided : Bool) (tabu : ℕ) (s : RepairState) (turn : Turn) (t : RepairState) → RepairTakes guided tabu s turn t → GoesOn s.search.engine
repair_takes_goes guided tabu s (TurnDecide p pick) t takes = could_decide p.var takes.decides.filled (decided_open (present s.search.engine) pick p takes.decides.decided)
repair_takes_goes guided tabu s (TurnUndo g c) t takes = could_undo g.var c takes.flat takes.heaviest.held

repair_takes_same : (tabu : ℕ) (s : RepairState) → (turn : Turn) (t : RepairState) (other : Turn) (u : RepairState) → RepairTakes false tabu s turn t → RepairTakes false tabu s other u → IsOneTurn turn t other u
repair_takes_same tabu s (TurnDecide p pick) t (TurnDecide q k) u one two = repair_decides_same s p pick t q k u one two
repair_takes_same tabu s (TurnDecide p pick) t (TurnUndo g c) u one two = absurd (not_empty (present s.search.engine) one.decides.filled (has_empty s.search.engine c two.flat))
repair_takes_same tabu s (TurnUndo g c) t (TurnDecide q k) u one two = absurd (not_empty (present s.search.engine) two.decides.filled (has_empty s.search.engine c one.flat))
repair_takes_same tabu s (TurnUndo g c) t (TurnUndo g' c') u one two = repair_undoes_same tabu s g c t g' c' u one two

repair_settles_same : (s t u : RepairState) → IsValid s.search.engine → RepairSettles false s t → RepairSettles false s u → t ≡ u
repair_settles_same s t u valid one two =
    one.after ∙ ap (λ search. record s { search = search }) (settles_same s.search t.search u.search valid one.settles two.settles) ∙ sym two.after

repair_follows_same : (tabu : ℕ) (s : RepairState) → IsRepairing s → (turn : Turn) (t : RepairState) (other : Turn) (u : RepairState) → RepairFollows false false tabu s turn t → RepairFollows false false tabu s other u
    → IsOneTurn turn t other u
repair_follows_same tabu s repairing turn t other u one two =
    let same = repair_takes_same tabu s turn one.middle other two.middle one.takes two.takes in
    let valid = (repair_takes_keep false tabu s other two.middle two.takes repairing).searching.valid in
    record { same = same.same; state = repair_settles_same two.middle t u valid (subst (λ z. RepairSettles false z t) same.state one.settles) two.settles }

-- ---- runs

record IsOneRun (turns : List Turn) (end : SearchEnd) (t : RepairState) (turns' : List Turn) (end' : SearchEnd) (u : RepairState) : Type 0 where
  turns_same : turns ≡ turns'
  end_same : end ≡ end'
  state : t ≡ u

repair_turns_same : ReasonsAreRight → (tabu budget n : ℕ) (s : RepairState) → IsRepairing s → (turns : List Turn) (end : SearchEnd) (t : RepairState) (turns' : List Turn) (end' : SearchEnd) (u : RepairState)
    → RepairTurns false false tabu s turns t → RepairTurns false false tabu s turns' u → n + length turns ≤ budget → n + length turns' ≤ budget
    → EndsWith budget (n + length turns) t.search.engine end → EndsWith budget (n + length turns') u.search.engine end' → IsOneRun turns end t turns' end' u
repair_turns_same right tabu budget n s repairing [] end t [] end' u one two wt wu et eu = record {
  turns_same = refl;
  end_same = ends_same budget (n + 0) s.search.engine end end' (subst (λ (z : RepairState). EndsWith budget (n + 0) z.search.engine end) one et)
      (subst (λ (z : RepairState). EndsWith budget (n + 0) z.search.engine end') two eu);
  state = one ∙ sym two;
}
repair_turns_same right tabu budget n s repairing [] end t (turn ∷ turns') end' u one two wt wu et eu =
    absurd (end_stops budget (n + 0) (length turns') s.search.engine end (subst (λ (z : RepairState). EndsWith budget (n + 0) z.search.engine end) one et) (omega arith)
    (repair_takes_goes false tabu s turn two.1.middle two.1.takes))
repair_turns_same right tabu budget n s repairing (turn ∷ turns) end t [] end' u one two wt wu et eu =
    absurd (end_stops budget (n + 0) (length turns) s.search.engine end' (subst (λ (z : RepairState). EndsWith budget (n + 0) z.search.engine end') two eu) (omega arith)
    (repair_takes_goes false tabu s turn one.1.middle one.1.takes))
repair_turns_same right tabu budget n s repairing (turn ∷ turns) end t (other ∷ turns') end' u one two wt wu et eu =
    let first = repair_follows_same tabu s repairing turn one.0 other two.0 one.1 two.1 in
    let kept = repair_settles_keep right false one.1.middle one.0 one.1.settles (repair_takes_keep false tabu s turn one.1.middle one.1.takes repairing) in
    let rest = repair_turns_same right tabu budget (n + 1) one.0 kept turns end t turns' end' u one.2 (subst (λ z. RepairTurns false false tabu z turns' u) (sym first.state) two.2)
    (omega arith) (omega arith)
    (subst (λ k. EndsWith budget k t.search.engine end) (next n (length turns)) et) (subst (λ k. EndsWith budget k u.search.engine end') (next n (length turns')) eu) in
    record { turns_same = λ i. first.same i ∷ rest.turns_same i; end_same = rest.end_same; state = rest.state }
  where
    next : (n m : ℕ) → n + suc m ≡ (n + 1) + m
    next n m = omega arith

zero_plus : (m : ℕ) → m ≡ 0 + m
zero_plus m = omega arith

repair_run_same : ReasonsAreRight → (tabu budget : ℕ) (s : EngineState) → IsValid s → HasOnlyUsers s → (turns : List Turn) (end : SearchEnd) (dropped : ℕ) (t : RepairState) (turns' : List Turn) (end' : SearchEnd) (lost : ℕ) (u : RepairState)
    → RepairRun false false tabu budget s turns end dropped t → RepairRun false false tabu budget s turns' end' lost u → IsOneRun turns end t turns' end' u
repair_run_same right tabu budget s valid users turns end dropped t turns' end' lost u one two =
    let start = repair_settles_same (repair_begun s) one.start two.start valid one.settles two.settles in
    let repairing = repair_settles_keep right false (repair_begun s) one.start one.settles (repair_begins s valid users) in
    let wt = one.within in
    let wu = two.within in
    repair_turns_same right tabu budget 0 one.start repairing turns end t turns' end' u one.taken (subst (λ z. RepairTurns false false tabu z turns' u) (sym start) two.taken)
    (omega (arith, wt)) (omega (arith, wu))
    (subst (λ k. EndsWith budget k t.search.engine end) (zero_plus (length turns)) one.ends) (subst (λ k. EndsWith budget k u.search.engine end') (zero_plus (length turns')) two.ends)

pub repair_same : ReasonsAreRight → (tabu budget : ℕ) (s : EngineState) (turns : List Turn) (end : SearchEnd) (dropped : ℕ) (t : EngineState) (others : List Turn) (other : SearchEnd) (lost : ℕ) (u : EngineState)
    → IsValid s → HasOnlyUsers s → Repairs false false tabu budget s turns end dropped t → Repairs false false tabu budget s others other lost u → IsSameRepair turns end dropped t others other lost u
repair_same right tabu budget s turns end dropped t others other lost u valid users one two =
    let run = repair_run_same right tabu budget s valid users turns end dropped one.last others other lost two.last one.run two.run in
    let start = repair_settles_keep right false (repair_begun s) two.run.start two.run.settles (repair_begins s valid users) in
    let last = repair_turns_keep right false false tabu two.run.start others two.last two.run.taken start in
    record {
      turns_same = run.turns_same;
      end_same = run.end_same;
      dropped_same = one.run.drops ∙ ap (λ (z : RepairState). z.dropped) run.state ∙ sym two.run.drops;
      state_same = closes_same two.last.search.engine t u last.searching.valid (subst (λ (z : RepairState). Closes of_search false z.search.engine t) run.state one.closes) two.closes;
    }
