-- A settling as it runs: what its revisions so far have done.
use Rattle.std.proofs.Common.{◌≡◌, ℕ, ◌+◌, ◌-◌, ◌<◌, ◌≤◌, min, Bool, true, false, Option, Some, None, IfSome, is_some, List, [], ◌∷◌, ◌++◌, length, All, Contains, refl, sym, ap, ◌∙◌, subst, arith, length-append}
use Rattle.std.proofs.lemmas.List.Elements.{All-nil, All-cons, All-append}
use Rattle.palm_base.specs.declared.terms.Cid.{Cid}
use Rattle.palm_base.specs.declared.limits.TheConstants.{LAST_COUNT}
use Rattle.palm_base.proofs.cited.Members.{member_get, member_same}
use Rattle.palm_domain.specs.Rows.{initial_of, present_of}
use Rattle.palm_base.specs.Order.{Rises}
use Rattle.palm_model.specs.Log.{Active, cids_of, log_pairs}
use Rattle.palm_model.specs.State.{EngineState, HasEmpty, AllFilled, IsValid, present, woken, without_cid}
use Rattle.palm_events.proofs.cited.Reasons.{reasons_right}
use Rattle.palm_events.proofs.cited.Runs.{run_valid}
use Rattle.palm_events.proofs.cited.Scoped.{run_scoped}
use Rattle.palm_events.proofs.cited.States.{without_cid_rises, without_cid_member}
use Rattle.palm_explain.specs.Explanations.{Explanations, LacksExactly}
use Rattle.palm_agenda.specs.Agenda.{IsConnected, IsFormed, HasMarks, Waiting, index_within, connected_cids}
use Rattle.palm_engine.specs.declared.filtering.Filtering.{Filtering}
use Rattle.palm_engine.specs.declared.settle.Settle.{Settle}
use Rattle.palm_engine.specs.declared.settle.Settle.TheVariants.{Settled, Empty, Stopped}
use Rattle.palm_engine.specs.Engine.{View, EndsAs, HasAsked}
use Rattle.palm_engine.specs.Following.{Hearing, HasSettledBy, IsInterruptedBy, LeadsAlong, hearings}
use Rattle.palm_engine.specs.Settling.{Revision, Revises, Revisions, FitsOrder, IsEnded, IsInLimit, HasReached, walk_order}
use Rattle.palm_engine.specs.Settling.IsEnded.{ended_empty, ended_quiet, ended_limit}
use Rattle.palm_engine.specs.Kept.{IsInStep, IsEmptyKept, IsEngine, AreConnected, AreHeeded, AreMarked, state_of, state_in_revision}
use Rattle.palm_engine.specs.Revising.{HasCounted, IsTaken, HasRevised, HasPartlyRevised, TakesNext, TakesNone, TellsEnd}
use Rattle.palm_engine.specs.Revising.TakesNone.{none_filled, none_allowed, none_pending}
use Rattle.palm_engine.specs.Work.{effort, named_sizes, most_asked_in, users_removals}
use Rattle.palm_engine.proofs.Ending.{revision_falls}
use Rattle.palm_engine.proofs.Joined.{walk_scoped, walk_valid}
use Rattle.palm_engine.proofs.Places.{kept_empty}
use Rattle.palm_engine.proofs.Progress.{counted_none, counted_then}
use Rattle.palm_engine.proofs.Removers.{HasRemovers, more_removers, no_removers, rested_removers}
use Rattle.palm_engine.proofs.Settles.{pending_is_active, pending_waits}
use Rattle.palm_engine.proofs.Spending.{asked_more, settling_asked, interrupted_asked}
use Rattle.palm_engine.proofs.Waking.{taken_woken}
use Rattle.palm_engine.proofs.cited.Walking.{not_empty, revision_filters, revisions_filter}
use Rattle.palm_engine.proofs.Working.{same_named}

-- the revisions so far, and how often they asked
pub record HasRun (limit : Option ℕ) (ordered : Bool) (active : List Active) (before now : Filtering) (count old new : ℕ) : Type 0 where
  pub engine : IsEngine now active
  pub revisions : List Revision
  pub ran : Revisions (state_of before active) revisions (state_of now active)
  pub fits : FitsOrder ordered revisions
  pub within : IsInLimit limit (length revisions)
  pub counted : count ≡ min (length revisions) LAST_COUNT
  pub asked : HasCounted (most_asked_in (state_of before active) revisions) before now old new
  pub removers : HasRemovers (state_of before active) (state_of now active) old new

-- and the order that they led from the one state to the other
pub record HasRunBy {O : Type 0} (follows : Hearing → Option O → Option O → Type 0) (limit : Option ℕ) (active : List Active) (before now : Filtering) (count old new : ℕ) (first last : Option O) : Type 0 where
  pub run : HasRun limit (is_some first) active before now count old new
  pub followed : LeadsAlong follows (hearings (state_of before active) run.revisions (state_of now active) run.ran) first last

none_within : (limit : Option ℕ) → IsInLimit limit 0
none_within None = tt
none_within (Some most) = omega arith

none_fit : (ordered : Bool) → FitsOrder ordered []
none_fit false = All-nil (λ (r : Revision). r.answer ≡ 0)
none_fit true = tt

-- what is known after a call that revised the constraint taken after these, whether it ended or was interrupted
pub record HasTried (limit : Option ℕ) (ordered : Bool) (active : List Active) (before f g h : Filtering) (count old mid new : ℕ) (cid : Cid) : Type 0 where
  pub run : HasRun limit ordered active before f count old mid
  pub takes : TakesNext limit ordered count f g cid
  pub kept : IsInStep h active
  pub counted : HasCounted (named_sizes (state_in_revision g active cid) (cid ∷ [])) g h mid new

pub run_start : {O : Type 0} (follows : Hearing → Option O → Option O → Type 0) (limit : Option ℕ) (active : List Active) (f : Filtering) (s : ℕ) (order : Option O) → IsEngine f active → HasRunBy follows limit active f f 0 s s order order
run_start follows limit active f s order engine = record {
  run = record {
    engine = engine;
    revisions = [];
    ran = refl;
    fits = none_fit (is_some order);
    within = none_within limit;
    counted = omega arith;
    asked = counted_none f s;
    removers = no_removers (state_of f active) s;
  };
  followed = refl;
}

-- ---- the constraint that is taken

chosen_pending : (limit : Option ℕ) (ordered : Bool) (ran : ℕ) (f g : Filtering) (cid : Cid) → TakesNext limit ordered ran f g cid → Contains f.agenda.pending cid
chosen_pending limit ordered ran f g cid takes = member_get f.agenda.pending (index_within takes.answer (length f.agenda.pending)) cid takes.takes.chosen

taken_formed : (before after : Waiting) (cid : Cid) → after.connected ≡ before.connected → after.pending ≡ without_cid cid before.pending → IsFormed before → IsFormed after
taken_formed before after cid connected pending formed = record {
  rising = subst (λ cs. Rises (connected_cids cs)) (sym connected) formed.rising;
  pending_rising = subst Rises (sym pending) (without_cid_rises cid before.pending formed.pending_rising);
  pending_connected = λ c m.
      let was = without_cid_member cid before.pending c (subst (λ cs. Contains cs c) pending m) in
      subst (λ cs. IsConnected cs c) (sym connected) (formed.pending_connected c was.0);
  marks = subst (λ cs. All HasMarks cs) (sym connected) formed.marks;
}

taken_kept : (limit : Option ℕ) (ordered : Bool) (ran : ℕ) (active : List Active) (f g : Filtering) (cid : Cid) → TakesNext limit ordered ran f g cid → IsInStep f active → IsInStep g active
taken_kept limit ordered ran active f g cid takes kept = record {
  removed = subst (λ s. LacksExactly s (log_pairs g.log.log)) (sym takes.store) (subst (λ (l : Explanations). LacksExactly f.store (log_pairs l.log)) (sym takes.log) kept.removed);
  formed = taken_formed f.agenda g.agenda cid takes.connected takes.takes.pending kept.formed;
  connected = subst (λ cs. AreConnected active cs) (sym takes.connected) kept.connected;
  heeded = subst (λ cs. AreHeeded active cs) (sym takes.connected) kept.heeded;
  marked = subst (λ s. AreMarked (present_of s) active g.agenda.connected) (sym takes.store) (subst (λ cs. AreMarked (present_of f.store) active cs) (sym takes.connected) kept.marked);
  empty = subst (λ s. IsEmptyKept (present_of s) g.empty) (sym takes.store) (subst (λ o. IsEmptyKept (present_of f.store) o) (sym takes.empty) kept.empty);
}

taken_state : (limit : Option ℕ) (ordered : Bool) (ran : ℕ) (active : List Active) (f g : Filtering) (cid : Cid) → TakesNext limit ordered ran f g cid → IsEngine f active → state_in_revision g active cid ≡ state_of f active
taken_state limit ordered ran active f g cid takes engine =
    let store = takes.store in
    let log = takes.log in
    let has = chosen_pending limit ordered ran f g cid takes in
    let pending = ap (λ cs. woken active (cid ∷ cs) []) takes.takes.pending ∙ taken_woken active f.agenda.pending cid has (pending_waits f active engine.valid.rising engine.kept) in
    λ i. record { initial = initial_of (store i); active = active; log = (log i).log; pending = pending i }

pub taken_is : (limit : Option ℕ) (ordered : Bool) (ran : ℕ) (active : List Active) (f g : Filtering) (cid : Cid) → TakesNext limit ordered ran f g cid → IsEngine f active → IsTaken g active cid
taken_is limit ordered ran active f g cid takes engine =
    let has = chosen_pending limit ordered ran f g cid takes in
    let is = pending_is_active f active engine.kept cid has in
    let e = taken_state limit ordered ran active f g cid takes engine in
    let e' : state_in_revision g active is.owner.cid ≡ state_of f active = ap (λ (c : Cid). state_in_revision g active c) is.named ∙ e in
    record {
      owner = is.owner;
      named = is.named;
      revising = record { kept = taken_kept limit ordered ran active f g cid takes engine.kept; valid = subst IsValid (sym e') engine.valid; posted = is.posted };
      absent = λ m. (without_cid_member cid f.agenda.pending cid (subst (λ cs. Contains cs cid) takes.takes.pending m)).1 refl;
    }

-- ---- one revision more

filled_state : (f : Filtering) (active : List Active) → IsInStep f active → f.empty ≡ None → AllFilled (present (state_of f active))
filled_state f active kept none = subst AllFilled kept.removed.present (subst (λ o. IsEmptyKept (present_of f.store) o) none kept.empty)

revises_next : (limit : Option ℕ) (ordered : Bool) (ran : ℕ) (active : List Active) (f g h : Filtering) (cid : Cid) (removed : ℕ) (takes : TakesNext limit ordered ran f g cid) → IsEngine f active
    → HasRevised active cid (state_in_revision g active cid) (state_of h active) removed → Revises (state_of f active) (record { answer = takes.answer; cid = cid; removed = removed }) (state_of h active)
revises_next limit ordered ran active f g h cid removed takes engine revised =
    let one = subst (λ s. HasRevised active cid s (state_of h active) removed) (taken_state limit ordered ran active f g cid takes engine) revised in
    record {
      filled = filled_state f active engine.kept takes.filled;
      chosen = takes.takes.chosen;
      owner = one.owner;
      posted = one.posted;
      named = one.named;
      state = one.state;
      walk = one.walk;
      after = one.after;
    }

within_more : (limit : Option ℕ) (count n : ℕ) → count ≡ min n LAST_COUNT → IsInLimit limit n → (HasReached limit count → ⊥) → IfSome limit (λ most. most ≤ LAST_COUNT) → IsInLimit limit (n + 1)
within_more None count n is within below bounded = tt
within_more (Some most) count n is within below bounded = last most count n LAST_COUNT is within below bounded
  where
    last : (most count n top : ℕ) → count ≡ min n top → n ≤ most → (count ≡ most → ⊥) → most ≤ top → n + 1 ≤ most
    last most count n top is within below bounded = omega arith

fits_more : (ordered : Bool) (rs : List Revision) (r : Revision) → FitsOrder ordered rs → (ordered ≡ false → r.answer ≡ 0) → FitsOrder ordered (rs ++ r ∷ [])
fits_more false rs r fits zero_answer = All-append (λ (q : Revision). q.answer ≡ 0) rs (r ∷ []) fits (All-cons (λ (q : Revision). q.answer ≡ 0) r [] (zero_answer refl) (All-nil (λ (q : Revision). q.answer ≡ 0)))
fits_more true rs r fits zero_answer = tt

count_more : (count n top : ℕ) → count ≡ min n top → min (count + 1) top ≡ min (n + 1) top
count_more count n top is = omega arith

counted_from : (n : ℕ) (f g h : Filtering) (s t : ℕ) → g.checks ≡ f.checks → g.log ≡ f.log → HasCounted n g h s t → HasCounted n f h s t
counted_from n f g h s t same log c =
    let ticked = c.ticked in
    record {
      ticked = record {
        later = ticked.later;
        few = ticked.few;
        checks = λ le. ticked.checks (subst (λ k. k ≤ LAST_COUNT) (sym same) le) ∙ ap (λ k. min (k + (t - s)) LAST_COUNT) same;
      };
      silent = λ e. c.silent e ∙ ap (λ (l : Explanations). users_removals l.log) log;
    }

-- the revision's questions, as the settling counts them
tried_counted : (limit : Option ℕ) (ordered : Bool) (active : List Active) (before f g h : Filtering) (count old mid new : ℕ) (cid : Cid) → HasTried limit ordered active before f g h count old mid new cid
    → HasCounted (named_sizes (state_of before active) (cid ∷ [])) f h mid new
tried_counted limit ordered active before f g h count old mid new cid tried =
    let s = state_of before active in
    let m = state_of f active in
    let run = tried.run in
    let e = taken_state limit ordered count active f g cid tried.takes run.engine in
    let same = revisions_filter s run.revisions m run.ran in
    let size : named_sizes (state_in_revision g active cid) (cid ∷ []) ≡ named_sizes s (cid ∷ []) = ap (λ (z : EngineState). named_sizes z (cid ∷ [])) e ∙ same_named s m (cid ∷ []) same.active same.initial in
    counted_from (named_sizes s (cid ∷ [])) f g h mid new tried.takes.checks tried.takes.log (subst (λ n. HasCounted n g h mid new) size tried.counted)

-- and with those before it
spent_more : (limit : Option ℕ) (ordered : Bool) (active : List Active) (before f g h : Filtering) (count old mid new : ℕ) (cid : Cid) → (tried : HasTried limit ordered active before f g h count old mid new cid)
    → HasCounted (most_asked_in (state_of before active) tried.run.revisions + named_sizes (state_of before active) (cid ∷ [])) before h old new
spent_more limit ordered active before f g h count old mid new cid tried =
    let s = state_of before active in
    let run = tried.run in
    counted_then (most_asked_in s run.revisions) (named_sizes s (cid ∷ [])) before f h old mid new run.asked (tried_counted limit ordered active before f g h count old mid new cid tried)

pub tried_checks : {limit : Option ℕ} {ordered : Bool} {active : List Active} {before f g h : Filtering} {count old mid new : ℕ} {cid : Cid} → HasTried limit ordered active before f g h count old mid new cid
    → before.checks ≤ LAST_COUNT → h.checks ≡ min (before.checks + (new - old)) LAST_COUNT
tried_checks {limit = limit} {ordered = ordered} {active = active} {before = before} {f = f} {g = g} {h = h} {count = count} {old = old} {mid = mid} {new = new} {cid = cid} tried le =
    (spent_more limit ordered active before f g h count old mid new cid tried).ticked.checks le

-- one revision more, of which the order hears
heard_more : {X : Type 0} (follows : Hearing → X → X → Type 0) (s : EngineState) (rs : List Revision) (m : EngineState) (r : Revision) (t : EngineState) (a b c : X) (run : Revisions s rs m) → Revises m r t → LeadsAlong follows (hearings s rs m run) a b
    → follows (record { pending = m.pending; revision = r }) b c → (more : Revisions s (rs ++ r ∷ []) t) × LeadsAlong follows (hearings s (rs ++ r ∷ []) t more) a c
heard_more follows s [] m r t a b c run one led step =
    ((t, subst (λ z. Revises z r t) run one, refl), (c, subst (λ x. follows (record { pending = s.pending; revision = r }) x c) led (subst (λ (z : EngineState). follows (record { pending = z.pending; revision = r }) b c) run step), refl))
heard_more follows s (q ∷ rs) m r t a b c run one led step =
    let more = heard_more follows run.0 rs m r t led.0 b c run.2 one led.2 step in
    ((run.0, run.1, more.0), (led.0, led.1, more.1))

pub run_more : {O : Type 0} {follows : Hearing → Option O → Option O → Type 0} {limit : Option ℕ} {active : List Active} {before f g h : Filtering} {count old mid new : ℕ} {cid : Cid} {first last : Option O} → (now : Option O) → (tried : HasTried limit (is_some first) active before f g h count old mid new cid) → (removed : ℕ)
    → HasRevised active cid (state_in_revision g active cid) (state_of h active) removed → LeadsAlong follows (hearings (state_of before active) tried.run.revisions (state_of f active) tried.run.ran) first now
    → follows (record { pending = f.agenda.pending; revision = record { answer = tried.takes.answer; cid = cid; removed = removed } }) now last → HasRunBy follows limit active before h (min (count + 1) LAST_COUNT) old new first last
run_more {follows = follows} {limit = limit} {active = active} {before = before} {f = f} {g = g} {h = h} {count = count} {old = old} {mid = mid} {new = new} {cid = cid} {first = first} {last = last} now tried removed revised led step =
    let ordered = is_some first in
    let s = state_of before active in
    let m = state_of f active in
    let t = state_of h active in
    let run = tried.run in
    let takes = tried.takes in
    let rs = run.revisions in
    let r : Revision = record { answer = takes.answer; cid = cid; removed = removed } in
    let one : Revises m r t = revises_next limit ordered count active f g h cid removed takes run.engine revised in
    let filters = revision_filters m r t one in
    let longer : length (rs ++ r ∷ []) ≡ length rs + 1 = length-append rs (r ∷ []) in
    let more = heard_more follows s rs m r t first now last run.ran one led step in
    let counted = tried_counted limit ordered active before f g h count old mid new cid tried in
    record {
      run = record {
        engine = record {
          kept = tried.kept;
          valid = run_valid reasons_right m filters.steps t filters.run run.engine.valid;
          scoped = run_scoped m filters.steps t filters.run run.engine.valid run.engine.scoped;
        };
        revisions = rs ++ r ∷ [];
        ran = more.0;
        fits = fits_more ordered rs r run.fits takes.fits;
        within = subst (λ n. IsInLimit limit n) (sym longer) (within_more limit count (length rs) run.counted run.within takes.below takes.bounded);
        counted = count_more count (length rs) LAST_COUNT run.counted ∙ ap (λ n. min n LAST_COUNT) (sym longer);
        asked = subst (λ n. HasCounted n before h old new) (sym (asked_more s rs r)) (spent_more limit ordered active before f g h count old mid new cid tried);
        removers = rested_removers s m one.state t one.owner (walk_order m.initial one.owner.con) removed cid old mid new run.engine.valid.rising run.removers one.walk one.after counted.ticked.later counted.silent;
      };
      followed = more.1;
    }

pub run_falls : {limit : Option ℕ} {ordered : Bool} {active : List Active} {before f g h : Filtering} {count old mid new : ℕ} {cid : Cid} → HasTried limit ordered active before f g h count old mid new cid → (removed : ℕ)
    → HasRevised active cid (state_in_revision g active cid) (state_of h active) removed → effort (state_of h active) < effort (state_of f active)
run_falls {limit = limit} {ordered = ordered} {active = active} {f = f} {g = g} {h = h} {count = count} {cid = cid} tried removed revised =
    (revision_falls (state_of f active) (record { answer = tried.takes.answer; cid = cid; removed = removed }) (state_of h active) (revises_next limit ordered count active f g h cid removed tried.takes tried.run.engine revised)).effort

-- ---- the end

reached_length : (limit : Option ℕ) (count n : ℕ) → count ≡ min n LAST_COUNT → IsInLimit limit n → HasReached limit count → HasReached limit n
reached_length None count n is within reached = reached
reached_length (Some most) count n is within reached = last most count n LAST_COUNT is within reached
  where
    last : (most count n top : ℕ) → count ≡ min n top → n ≤ most → count ≡ most → n ≡ most
    last most count n top is within reached = omega arith

ended_here : (limit : Option ℕ) (ordered : Bool) (active : List Active) (before now : Filtering) (count old new : ℕ) (run : HasRun limit ordered active before now count old new) → TakesNone limit count now → IsEnded limit (length run.revisions) (state_of now active)
ended_here limit ordered active before now count old new run (none_filled some) = ended_empty (subst HasEmpty run.engine.kept.removed.present (kept_empty (present_of now.store) now.empty some run.engine.kept.empty))
ended_here limit ordered active before now count old new run (none_allowed reached) = ended_limit (reached_length limit count (length run.revisions) run.counted run.within reached)
ended_here limit ordered active before now count old new run (none_pending quiet) = ended_quiet quiet

ends_as : (answer : Settle) (limit : Option ℕ) (n : ℕ) (s : EngineState) → IsEnded limit n s → TellsEnd answer s → EndsAs answer limit n s
ends_as Settled limit n s ended tells = tells
ends_as (Empty x) limit n s ended tells = tells
ends_as Stopped limit n s (ended_empty empty) tells = absurd (not_empty (present s) tells.0 empty)
ends_as Stopped limit n s (ended_quiet quiet) tells = absurd (tells.1 quiet)
ends_as Stopped limit n s (ended_limit reached) tells = (reached, tells.0, tells.1)

pub run_settled : {O : Type 0} (follows : Hearing → Option O → Option O → Type 0) (limit : Option ℕ) (active : List Active) (before now : Filtering) (count old new : ℕ) (first last : Option O) (answer : Settle) (view : View) → view.state ≡ state_of before active
    → HasRunBy follows limit active before now count old new first last → TakesNone limit count now → TellsEnd answer (state_of now active) → HasSettledBy follows limit first last answer view (record { state = state_of now active; revisions = count; checks = now.checks })
run_settled follows limit active before now count old new first last answer view is by none tells =
    let run = by.run in
    let after : View = record { state = state_of now active; revisions = count; checks = now.checks } in
    let ended = ended_here limit (is_some first) active before now count old new run none in
    subst (λ (s : EngineState). HasSettledBy follows limit first last answer (record view { state = s }) after) (sym is) (record {
      settled = record {
        revisions = run.revisions;
        settles = record { revisions = run.ran; within = run.within; ended = ended };
        fits = run.fits;
        ends = ends_as answer limit (length run.revisions) (state_of now active) ended tells;
        counted = run.counted;
      };
      followed = by.followed;
    })

pub run_asked : (limit : Option ℕ) (ordered : Bool) (active : List Active) (before now : Filtering) (count old new : ℕ) → Rises (cids_of active) → HasRun limit ordered active before now count old new → HasAsked (state_of before active) (state_of now active) old new
run_asked limit ordered active before now count old new rises run = settling_asked (state_of before active) run.revisions (state_of now active) old new rises run.ran run.asked.ticked.later run.asked.ticked.few run.removers

-- ---- an interruption

-- the state from which the interrupted revision began is the one before its constraint was taken
stopped_from : {limit : Option ℕ} {ordered : Bool} {active : List Active} {before f g h : Filtering} {count old mid new : ℕ} {cid : Cid} → HasTried limit ordered active before f g h count old mid new cid
    → HasPartlyRevised active cid (state_in_revision g active cid) (state_of h active) → HasPartlyRevised active cid (state_of f active) (state_of h active)
stopped_from {limit = limit} {ordered = ordered} {active = active} {f = f} {g = g} {h = h} {count = count} {cid = cid} tried part =
    subst (λ s. HasPartlyRevised active cid s (state_of h active)) (taken_state limit ordered count active f g cid tried.takes tried.run.engine) part

pub stopped_engine : {limit : Option ℕ} {ordered : Bool} {active : List Active} {before f g h : Filtering} {count old mid new : ℕ} {cid : Cid} → HasTried limit ordered active before f g h count old mid new cid
    → HasPartlyRevised active cid (state_in_revision g active cid) (state_of h active) → IsEngine h active
stopped_engine {active = active} {f = f} {h = h} tried part =
    let one = stopped_from tried part in
    let engine = tried.run.engine in
    record {
      kept = tried.kept;
      valid = walk_valid one.owner one.walked (state_of f active) one.removed (state_of h active) one.walk engine.valid;
      scoped = walk_scoped one.owner one.walked (state_of f active) one.removed (state_of h active) one.walk engine.valid engine.scoped;
    }

pub run_stopped : {O : Type 0} {answers : List Cid → ℕ → Option O → Option O → Type 0} {follows : Hearing → Option O → Option O → Type 0} {limit : Option ℕ} {active : List Active} {before f g h : Filtering} {count old mid new : ℕ} {cid : Cid} {first last : Option O}
    → (now : Option O) → (tried : HasTried limit (is_some first) active before f g h count old mid new cid) → (view : View) → view.state ≡ state_of before active → HasPartlyRevised active cid (state_in_revision g active cid) (state_of h active)
    → LeadsAlong follows (hearings (state_of before active) tried.run.revisions (state_of f active) tried.run.ran) first now → answers f.agenda.pending tried.takes.answer now last
    → IsInterruptedBy answers follows limit first last view (record { state = state_of h active; revisions = min (count + 1) LAST_COUNT; checks = h.checks })
run_stopped {answers = answers} {follows = follows} {limit = limit} {active = active} {f = f} {h = h} {count = count} {cid = cid} {first = first} {last = last} now tried view is part led asked =
    let m = state_of f active in
    let run = tried.run in
    let takes = tried.takes in
    let one = stopped_from tried part in
    let after : View = record { state = state_of h active; revisions = min (count + 1) LAST_COUNT; checks = h.checks } in
    subst (λ (s : EngineState). IsInterruptedBy answers follows limit first last (record view { state = s }) after) (sym is) (record {
      interrupted = record {
        revisions = run.revisions;
        middle = m;
        ended = run.ran;
        fits = run.fits;
        filled = filled_state f active run.engine.kept takes.filled;
        within = within_more limit count (length run.revisions) run.counted run.within takes.below takes.bounded;
        answer = takes.answer;
        least = takes.fits;
        owner = one.owner;
        posted = one.posted;
        chosen = takes.takes.chosen ∙ ap (λ (c : Cid). Some c) (sym one.named);
        walked = one.walked;
        next = one.next;
        left = one.left;
        order = one.order;
        removed = one.removed;
        walk = one.walk;
        due = one.due;
        pending = member_same h.agenda.pending cid one.owner.cid (sym one.named) one.pending;
        counted = count_more count (length run.revisions) LAST_COUNT run.counted;
      };
      between = now;
      followed = led;
      asked = asked;
    })

pub stopped_asked : {limit : Option ℕ} {ordered : Bool} {active : List Active} {before f g h : Filtering} {count old mid new : ℕ} {cid : Cid} → HasTried limit ordered active before f g h count old mid new cid
    → HasPartlyRevised active cid (state_in_revision g active cid) (state_of h active) → HasAsked (state_of before active) (state_of h active) old new
stopped_asked {limit = limit} {ordered = ordered} {active = active} {before = before} {f = f} {g = g} {h = h} {count = count} {old = old} {mid = mid} {new = new} {cid = cid} tried part =
    let s = state_of before active in
    let m = state_of f active in
    let run = tried.run in
    let one = stopped_from tried part in
    let has = chosen_pending limit ordered count f g cid tried.takes in
    let all = spent_more limit ordered active before f g h count old mid new cid tried in
    let counted = tried_counted limit ordered active before f g h count old mid new cid tried in
    interrupted_asked s run.revisions m one.owner one.walked one.removed (state_of h active) old new run.engine.valid.rising run.ran (member_same f.agenda.pending cid one.owner.cid (sym one.named) has)
    (filled_state f active run.engine.kept tried.takes.filled) one.walk all.ticked.later
    (subst (λ (c : Cid). new ≤ old + (most_asked_in s run.revisions + named_sizes s (c ∷ []))) (sym one.named) all.ticked.few)
    (more_removers s m (state_of h active) one.owner one.walked one.removed old mid new run.engine.valid.rising run.removers one.walk counted.ticked.later counted.silent)
