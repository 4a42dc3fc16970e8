-- What the ends of a repair say, and what is left after it.
use Rattle.std.proofs.Common.{◌≡◌, ℕ, Bool, true, false, not, None, List, [], ◌∷◌, ◌++◌, length, Contains, inl, inr, refl, sym, ap, subst}
use Rattle.palm_base.specs.declared.terms.Cid.{Cid}
use Rattle.palm_base.specs.declared.terms.Cid.TheVariants.{Decide}
use Rattle.palm_model.specs.Log.{Active}
use Rattle.palm_model.specs.State.{EngineState, IsValid, is_user, decision_of, negation_of}
use Rattle.palm_model.specs.Event.{Posts, WithdrawsAll, gone_with}
use Rattle.palm_events.specs.Along.{IsStill, KeepsJustifiers}
use Rattle.palm_events.specs.Reasons.{ReasonsAreRight}
use Rattle.palm_events.proofs.cited.States.{gone_justifiers}
use Rattle.palm_engine.proofs.cited.Settled.{settling_filters}
use Rattle.palm_search.specs.declared.turn.Turn.{Turn}
use Rattle.palm_search.specs.declared.turn.Turn.TheVariants.{Decide as TurnDecide, Undo as TurnUndo}
use Rattle.palm_search.specs.Turns.{decided_vars}
use Rattle.palm_search.specs.declared.ending.SearchEnd.{SearchEnd}
use Rattle.palm_search.specs.Search.{begun, of_search}
use Rattle.palm_search.specs.Kept.{HasOnlyUsers, Rests}
use Rattle.palm_search.proofs.cited.Leaving.{Ended, ended_rests, users_none}
use Rattle.palm_search.proofs.cited.Owning.{Gains, Remembers, closing_leaves, gains_none, gains_posted, gains_settles, gains_withdrawn, others_new, remembers_none, remembers_posted, remembers_settles, remembers_withdrawn, search_owns}
use Rattle.palm_repair.specs.Posting.{Nogood, RepairState, PostsFrom, PostsSome, nogood_of}
use Rattle.palm_repair.specs.Repair.{MakesRoom, RepairTakes, RepairSettles, RepairTurns, RepairRun, Repairs, forced_by, repair_begun}
use Rattle.palm_repair.specs.Kept.{IsRepairing}
use Rattle.palm_repair.specs.Turning.{before_posting}
use Rattle.palm_repair.proofs.Forcing.{posts_from_along}
use Rattle.palm_repair.proofs.Repairing.{undone, decision_no_user, forced_no_user, forced_keeps, repair_takes_keep, repair_settles_keep}
use Rattle.palm_repair.proofs.Blocking.{starts_at_turn, turns_at_turn}

-- ---- what holds along the turns

-- the ids of no users, none of them a justifier of a negation that stays
pub record MayGo (m : EngineState) (gone : List Cid) : Type 0 where
  pub keeps : KeepsJustifiers m.active gone
  pub none : (c : Cid) → Contains gone c → is_user c ≡ true → ⊥

-- kept by each posting of what is no user's, and by each withdrawal of what is none
pub record IsKeptAlong (Q : EngineState → Type 0) : Type 0 where
  pub posts : (m : EngineState) (a : Active) (t : EngineState) → is_user a.cid ≡ false → Posts m a t → Q m → Q t
  pub withdraws : (m : EngineState) (gone : List Cid) (t : EngineState) → MayGo m gone → WithdrawsAll m gone t → Q m → Q t

room_along : (Q : EngineState → Type 0) → IsKeptAlong Q → (tabu : ℕ) (s t : RepairState) → MakesRoom tabu s t → Q s.search.engine → Q t.search.engine
room_along Q kept tabu s t room q = elim room [
  | inr r ↦ subst (λ (z : RepairState). Q z.search.engine) (sym r.1) q
  | inl r ↦
      let gone = forced_by s.search.engine s.dropped s.origins in
      subst (λ (z : RepairState). Q z.search.engine) (sym r.1.after) (kept.withdraws s.search.engine gone r.1.engine (record {
        keeps = forced_keeps s.search.engine s.dropped s.origins;
        none = forced_no_user s.search.engine s.dropped s.origins;
      }) r.1.withdraws q)
]

posting_along : (Q : EngineState → Type 0) → IsKeptAlong Q → (s : RepairState) (number : ℕ) (walked : List Nogood) (t : RepairState) → PostsFrom s number walked t → Q s.search.engine → Q t.search.engine
posting_along Q kept s number walked t posts q = posts_from_along Q (λ m p because u one k. kept.posts m (negation_of p because) u refl one k) s number walked t posts q

-- within a turn, before the negations that follow
before_along : (Q : EngineState → Type 0) → IsKeptAlong Q → (guided : Bool) (tabu : ℕ) (s : RepairState) (turn : Turn) (t : RepairState) (takes : RepairTakes guided tabu s turn t) → IsValid s.search.engine
    → Q s.search.engine → Q (before_posting guided tabu s turn t takes).search.engine
before_along Q kept guided tabu s (TurnDecide pair pick) t takes valid q = kept.posts s.search.engine (decision_of pair) takes.middle.engine refl takes.decides.posts q
before_along Q kept guided tabu s (TurnUndo gone conflict) t takes valid q =
    let cid : Cid = Decide gone.var in
    let cids = gone_with s.search.engine.active cid in
    room_along Q kept tabu (undone s takes.engine takes.left (decided_vars conflict)) takes.roomy takes.makes_room
    (kept.withdraws s.search.engine cids takes.engine (record {
      keeps = gone_justifiers (length s.search.engine.initial) s.search.engine.active cid valid.formed;
      none = decision_no_user s.search.engine valid gone.var;
    }) takes.withdraws q)

pub takes_along : (Q : EngineState → Type 0) → IsKeptAlong Q → (guided : Bool) (tabu : ℕ) (s : RepairState) (turn : Turn) (t : RepairState) → RepairTakes guided tabu s turn t → IsValid s.search.engine
    → Q s.search.engine → Q t.search.engine
takes_along Q kept guided tabu s (TurnDecide pair pick) t takes valid q =
    posting_along Q kept (record s { search = takes.middle }) s.dropped s.nogoods t takes.posts (before_along Q kept guided tabu s (TurnDecide pair pick) t takes valid q)
takes_along Q kept guided tabu s (TurnUndo gone conflict) t takes valid q =
    let roomy = takes.roomy in
    let nogoods = roomy.nogoods ++ nogood_of s.search.decisions conflict ∷ [] in
    posting_along Q kept (record roomy { nogoods = nogoods }) roomy.dropped nogoods t takes.posts (before_along Q kept guided tabu s (TurnUndo gone conflict) t takes valid q)

-- within a turn whose negations are posted in part
pub part_along : (Q : EngineState → Type 0) → IsKeptAlong Q → (guided : Bool) (tabu : ℕ) (s : RepairState) (turn : Turn) (next : RepairState) (takes : RepairTakes guided tabu s turn next) (t : EngineState) → IsValid s.search.engine
    → PostsSome (before_posting guided tabu s turn next takes) t → Q s.search.engine → Q t
part_along Q kept guided tabu s turn next takes t valid some q =
    let m = before_posting guided tabu s turn next takes in
    subst Q (sym some.is) (posting_along Q kept m m.dropped some.walked some.last some.posts (before_along Q kept guided tabu s turn next takes valid q))

-- ---- the log

pub gains_along : (s : EngineState) → HasOnlyUsers s → IsValid s → IsKeptAlong (Gains of_search s)
gains_along s users valid = record {
  posts = λ m a t f posts gains. gains_posted of_search s m a t (ap not f) posts gains;
  withdraws = λ m gone t may withdraws gains. gains_withdrawn of_search s m gone t may.keeps (others_new of_search s search_owns (users_none s users) gone may.none) withdraws valid gains;
}

gains_turns : ReasonsAreRight → (guided ordered : Bool) (tabu : ℕ) (s : EngineState) (m : RepairState) (turns : List Turn) (t : RepairState) → HasOnlyUsers s → IsValid s → IsStill s
    → RepairTurns guided ordered tabu m turns t → Gains of_search s m.search.engine → Gains of_search s t.search.engine
gains_turns right guided ordered tabu s m [] t users valid still run gains = subst (λ (z : RepairState). Gains of_search s z.search.engine) (sym run) gains
gains_turns right guided ordered tabu s m (turn ∷ turns) t users valid still run gains =
    let follows = run.1 in
    let taken = takes_along (Gains of_search s) (gains_along s users valid) guided tabu m turn follows.middle follows.takes gains.valid gains in
    gains_turns right guided ordered tabu s run.0 turns t users valid still run.2 (gains_settles right ordered of_search s follows.middle.search run.0.search follows.settles.settles valid still taken)

-- a settling and turns lead from s to t
pub turned_gains : ReasonsAreRight → (guided ordered : Bool) (tabu : ℕ) (s : EngineState) (start : RepairState) (turns : List Turn) (t : RepairState) → HasOnlyUsers s → IsValid s → IsStill s
    → RepairSettles ordered (repair_begun s) start → RepairTurns guided ordered tabu start turns t → Gains of_search s t.search.engine
turned_gains right guided ordered tabu s start turns t users valid still settles taken =
    gains_turns right guided ordered tabu s start turns t users valid still taken (gains_settles right ordered of_search s (begun s) start.search settles.settles valid still (gains_none of_search s valid))

pub repair_leaves : ReasonsAreRight → (guided ordered : Bool) (tabu budget : ℕ) (s : EngineState) (turns : List Turn) (end : SearchEnd) (dropped : ℕ) (t : EngineState) → HasOnlyUsers s → IsValid s → IsStill s
    → Repairs guided ordered tabu budget s turns end dropped t → t.log ≡ s.log
repair_leaves right guided ordered tabu budget s turns end dropped t users valid still repairs =
    let run = repairs.run in
    let last = turned_gains right guided ordered tabu s run.start turns repairs.last users valid still run.settles run.taken in
    let closes = repairs.closes in
    closing_leaves right of_search s repairs.last.search.engine closes.middle t search_owns (users_none s users) valid still last closes.withdraws (settling_filters None closes.middle closes.revisions t closes.settles)

-- ---- the constraints

remembers_along : (s : EngineState) → HasOnlyUsers s → IsKeptAlong (Remembers of_search s)
remembers_along s users = record {
  posts = λ m a t f posts old. remembers_posted of_search s m a t (ap not f) posts old;
  withdraws = λ m gone t may withdraws old. remembers_withdrawn of_search s m gone t (others_new of_search s search_owns (users_none s users) gone may.none) withdraws old;
}

remembers_turns : ReasonsAreRight → (guided ordered : Bool) (tabu : ℕ) (s : EngineState) (m : RepairState) (turns : List Turn) (t : RepairState) → HasOnlyUsers s → IsRepairing m
    → RepairTurns guided ordered tabu m turns t → Remembers of_search s m.search.engine → Remembers of_search s t.search.engine
remembers_turns right guided ordered tabu s m [] t users repairing run old = subst (λ (z : RepairState). Remembers of_search s z.search.engine) (sym run) old
remembers_turns right guided ordered tabu s m (turn ∷ turns) t users repairing run old =
    let follows = run.1 in
    let taken = takes_along (Remembers of_search s) (remembers_along s users) guided tabu m turn follows.middle follows.takes repairing.searching.valid old in
    let middle = repair_takes_keep guided tabu m turn follows.middle follows.takes repairing in
    remembers_turns right guided ordered tabu s run.0 turns t users (repair_settles_keep right ordered follows.middle run.0 follows.settles middle) run.2
    (remembers_settles ordered of_search s follows.middle.search run.0.search follows.settles.settles taken)

-- a settling and turns lead from s to t
pub turned_ended : ReasonsAreRight → (guided ordered : Bool) (tabu : ℕ) (s : EngineState) (start : RepairState) (turns : List Turn) (t : RepairState) → HasOnlyUsers s → IsValid s
    → RepairSettles ordered (repair_begun s) start → RepairTurns guided ordered tabu start turns t → Ended s t.search
turned_ended right guided ordered tabu s start turns t users valid settles taken =
    let at = starts_at_turn right ordered s start valid users settles in
    let last = turns_at_turn right guided ordered tabu start turns t taken at in
    let first = remembers_settles ordered of_search s (begun s) start.search settles.settles (remembers_none of_search s) in
    record {
      searching = last.repairing.searching;
      still = last.still;
      remembers = remembers_turns right guided ordered tabu s start turns t users at.repairing taken first;
    }

pub repair_ended : ReasonsAreRight → (guided ordered : Bool) (tabu budget : ℕ) (s : EngineState) (turns : List Turn) (end : SearchEnd) (dropped : ℕ) (t : RepairState) → HasOnlyUsers s → IsValid s
    → RepairRun guided ordered tabu budget s turns end dropped t → Ended s t.search
repair_ended right guided ordered tabu budget s turns end dropped t users valid run = turned_ended right guided ordered tabu s run.start turns t users valid run.settles run.taken

pub repair_rests : ReasonsAreRight → (guided ordered : Bool) (tabu budget : ℕ) (s : EngineState) (turns : List Turn) (end : SearchEnd) (dropped : ℕ) (t : EngineState) → HasOnlyUsers s → IsValid s
    → Repairs guided ordered tabu budget s turns end dropped t → Rests s t
repair_rests right guided ordered tabu budget s turns end dropped t users valid repairs =
    ended_rests right ordered s repairs.last.search t users valid (repair_ended right guided ordered tabu budget s turns end dropped repairs.last users valid repairs.run) repairs.closes
