-- Every line leaves the reasons of the log in the scopes of their constraints.
use Rattle.std.proofs.Common.{◌≡◌, ℕ, List, [], ◌∷◌, Option, Contains, inl, inr, refl, sym, ap, ◌∙◌, subst}
use Rattle.palm_base.specs.declared.terms.Cid.TheVariants.{User}
use Rattle.palm_model.specs.Log.{Active, Removal}
use Rattle.palm_model.specs.State.{EngineState}
use Rattle.palm_model.specs.Event.{Step, StepLeads, Runs}
use Rattle.palm_model.specs.Event.Event.{Post, Withdraw}
use Rattle.palm_model.specs.Event.Step.{Happens, Declare}
use Rattle.palm_book.specs.Book.{user_at}
use Rattle.palm_book.specs.declared.book.BookCon.{BookCon}
use Rattle.palm_read.specs.Domain.{values_in}
use Rattle.palm_session.specs.declared.request.Procedure.{Procedure}
use Rattle.palm_session.specs.declared.request.Request.{Request}
use Rattle.palm_session.specs.declared.request.Request.TheVariants.{Nothing as NothingAsked, Header as HeaderAsked, Declare as DeclareAsked, DeclareIn, Add, Relax, Enforce, Retract, Ask, Pause, Resume, Step as StepAsked, Solve, ChooseGuide, DropGuide, ChooseOrder, DropOrder, Prefer, Quit}
use Rattle.palm_session.specs.Requests.{Admits}
use Rattle.palm_events.specs.Along.{IsStill}
use Rattle.palm_search.specs.declared.ending.SearchEnd.{SearchEnd}
use Rattle.palm_search.specs.declared.turn.Turn.{Turn}
use Rattle.palm_engine.proofs.cited.Settled.{settling_filters}
use Rattle.palm_session.specs.State.{SessionState, IsHeld, IsState, fresh}
use Rattle.palm_session.specs.Effects.{Telling, Effect, Nothing, Settled, Searched, Next, Rests, Filters, Searches, next, next_constraint, next_within, SettlesIn, SearchesIn, Follows, Does, Changes, WithdrawsActive}
use Rattle.palm_session.specs.Answers.{WaitsFor, Accepts, waits, contradicts, says, Answers, misread, refused, accepted}
use Rattle.palm_session.specs.Replies.{Run}
use Rattle.palm_events.specs.Scoped.{IsScoped, HasScopedReasons}
use Rattle.palm_session.proofs.cited.LawsOfAnswers.{answers_keep, read_admits}
use Rattle.palm_session.proofs.cited.LawsOfChanges.{changes_keep, withdraws_cases}
use Rattle.palm_session.proofs.cited.LawsOfStates.{fresh_is}
use Rattle.palm_events.proofs.cited.Scoped.{blank_scoped, run_scoped}
use Rattle.palm_session.specs.Modes.{heard}
use Rattle.palm_session.proofs.InModes.{heard_state}
use Rattle.palm_session.proofs.Searched.{still_before}
use Rattle.palm_session.proofs.Searching.{search_leaves_still, search_log}

-- ---- what a request changes in the engine is a run of steps

abbrev HasRun : EngineState → EngineState → Type 0
HasRun e t = (steps : List Step) × Runs e steps t

by_none : (s m : SessionState) → m.engine ≡ s.engine → HasRun s.engine m.engine
by_none s m same = ([], same)

engine_same : (s m : SessionState) → m ≡ s → m.engine ≡ s.engine
engine_same s m h = ap (λ (z : SessionState). z.engine) h

-- the step that leads to the engine of a state that is changed so
led_by : (s m z : SessionState) (step : Step) → m ≡ z → StepLeads s.engine step z.engine → StepLeads s.engine step m.engine
led_by s m z step h leads = subst (λ (e : EngineState). StepLeads s.engine step e) (sym (engine_same z m h)) leads

by_step : (s m z : SessionState) (step : Step) → m ≡ z → StepLeads s.engine step z.engine → HasRun s.engine m.engine
by_step s m z step h leads = (step ∷ [], (m.engine, led_by s m z step h leads, refl))

by_active : (s m z : SessionState) (c : BookCon) → m ≡ z → WithdrawsActive s.engine c z.engine → HasRun s.engine m.engine
by_active s m z c h w = elim (withdraws_cases s.engine c z.engine w) [
  | inl g ↦ by_step s m z (Happens (Withdraw (User c.number))) h g.1
  | inr g ↦ by_none s m (engine_same z m h ∙ g.1)
]

changes_run : (s m : SessionState) (request : Request) → Changes s request m → HasRun s.engine m.engine
changes_run s m NothingAsked h = by_none s m (engine_same s m h)
changes_run s m HeaderAsked h = by_none s m (engine_same s m h)
changes_run s m (DeclareAsked name domain) h = by_step s m _ (Declare (values_in domain)) h.2 h.1
changes_run s m (DeclareIn name universe domain) h =
    let declares : Step = Declare (values_in universe) in
    let posts : Step = Happens (Post (user_at (next_constraint h.0 name (next_within s domain)))) in
    (declares ∷ posts ∷ [], (h.0.engine, led_by s h.0 _ declares h.1.2 h.1.1, (m.engine, led_by h.0 m _ posts h.2.2 h.2.1, refl)))
changes_run s m (Add name con) h = by_step s m _ (Happens (Post (user_at (next_constraint s name con)))) h.2 h.1
changes_run s m (Relax place) h = by_step s m _ (Happens (Withdraw (User h.0.number))) h.4 h.3
changes_run s m (Enforce place) h = by_step s m _ (Happens (Post (user_at h.0))) h.4 h.3
changes_run s m (Retract place) h = by_active s m _ h.0 h.4 h.3
changes_run s m (Ask question) h = by_none s m (engine_same s m h)
changes_run s m Pause h = by_none s m (ap (λ (z : SessionState). z.engine) h)
changes_run s m Resume h = by_none s m (ap (λ (z : SessionState). z.engine) h)
changes_run s m (StepAsked count) h = by_none s m (engine_same s m h)
changes_run s m (Solve by) h = by_none s m (engine_same s m h)
changes_run s m (ChooseGuide chosen) h = by_none s m (ap (λ (z : SessionState). z.engine) h)
changes_run s m (DropGuide number) h = by_none s m (ap (λ (z : SessionState). z.engine) h)
changes_run s m (ChooseOrder chosen) h = by_none s m (ap (λ (z : SessionState). z.engine) h)
changes_run s m (DropOrder number) h = by_none s m (ap (λ (z : SessionState). z.engine) h)
changes_run s m (Prefer place weight) h = by_none s m (ap (λ (z : SessionState). z.engine) h.2)
changes_run s m Quit h = by_none s m (engine_same s m h)

-- ---- requests

abbrev IsInScopes : SessionState → Type 0
IsInScopes s = HasScopedReasons s.engine

changes_scoped : (s m : SessionState) (request : Request) → IsHeld s → Changes s request m → IsInScopes s → IsInScopes m
changes_scoped s m request is h scoped = let run = changes_run s m request h in run_scoped s.engine run.0 m.engine run.1 is.valid scoped

settles_scoped : (m : SessionState) (limit : Option ℕ) (count : ℕ) (e : EngineState) → IsHeld m → SettlesIn m limit count e → IsInScopes m → HasScopedReasons e
settles_scoped m limit count e is h scoped =
    let filters = settling_filters limit m.engine h.revisions e h.settles in run_scoped m.engine filters.steps e filters.run is.valid scoped

-- a search leaves the log and the active constraints
searches_scoped : (m : SessionState) (by : Procedure) (turns : List Turn) (end : SearchEnd) (telling : Telling) (e : EngineState) → IsHeld m → IsStill m.engine → SearchesIn m by turns end telling e → IsInScopes m → HasScopedReasons e
searches_scoped m by turns end telling e is still h scoped r logged =
    let was : Contains m.engine.log r = subst (λ (l : List Removal). Contains l r) (search_log m by turns end telling e is h still) logged in
    subst (λ (l : List Active). IsScoped l r) (sym (search_leaves_still m by turns end telling e is h).active) (scoped r was)

follows_scoped : (m : SessionState) (n : Next) (effect : Effect) (t : SessionState) → IsHeld m → ((by : Procedure) → n ≡ Searches by → IsStill m.engine) → Follows m n effect t → IsInScopes m → IsInScopes t
follows_scoped m Rests Nothing t is still f scoped = subst IsInScopes (sym f) scoped
follows_scoped m Rests (Settled k) t is still f scoped = absurd f
follows_scoped m Rests (Searched k j) t is still f scoped = absurd f
follows_scoped m (Filters limit) Nothing t is still f scoped = absurd f
follows_scoped m (Filters limit) (Settled k) t is still f scoped = subst IsInScopes (sym f.2) (settles_scoped m limit k f.0 is f.1 scoped)
follows_scoped m (Filters limit) (Searched k j) t is still f scoped = absurd f
follows_scoped m (Searches by) Nothing t is still f scoped = absurd f
follows_scoped m (Searches by) (Settled k) t is still f scoped = absurd f
follows_scoped m (Searches by) (Searched k j) t is still f scoped = subst IsInScopes (sym f.3) (searches_scoped m by f.0 k j f.1 is (still by refl) f.2 scoped)

does_scoped : (s : SessionState) (request : Request) (effect : Effect) (t : SessionState) → IsState s → Admits s request → (WaitsFor s request → ⊥) → Does s request effect t → IsInScopes s → IsInScopes t
does_scoped s request effect t is can goes d scoped =
    follows_scoped d.0 (next d.0 request) effect t (changes_keep s d.0 request is.held can d.1) (still_before s d.0 request is goes d.1) d.2 (changes_scoped s d.0 request is.held d.1 scoped)

accepts_scoped : (s : SessionState) (request : Request) (reply : List ℕ) (t : SessionState) → IsState s → Admits s request → Accepts s request reply t → IsInScopes s → IsInScopes t
accepts_scoped s request reply t is can (waits w) scoped = scoped
accepts_scoped s request reply t is can (contradicts effect goes does c) scoped = does_scoped s request effect t is can goes does scoped
accepts_scoped s request reply t is can (says effect goes does n r) scoped = does_scoped s request effect t is can goes does scoped

pub answers_scoped : (s : SessionState) (bytes reply : List ℕ) (t : SessionState) → IsState s → Answers s bytes reply t → IsInScopes s → IsInScopes t
answers_scoped s bytes reply t is (misread error refusal q some) scoped = scoped
answers_scoped s bytes reply t is (refused line refusal read first) scoped = scoped
answers_scoped s bytes reply t is (accepted line request read a h) scoped =
    let there = heard_state s line is in
    accepts_scoped (heard s line) request reply t there (read_admits s.mode (heard s line) there.held bytes line request read a) h scoped

-- ---- sessions

pub fresh_scoped : (guides orders : List ℕ) → IsInScopes (fresh guides orders)
fresh_scoped guides orders = blank_scoped []

lines_scoped : (s : SessionState) (lines : List (List ℕ)) (replies : List ℕ) (t : SessionState) → IsState s → Run s lines replies t → IsInScopes s → IsInScopes t
lines_scoped s [] replies t is run scoped = subst IsInScopes (sym run.1) scoped
lines_scoped s (l ∷ ls) replies t is run scoped =
    lines_scoped run.2 ls run.1 t (answers_keep s l run.0 run.2 is run.3) run.5 (answers_scoped s l run.0 run.2 is run.3 scoped)

pub run_in_scopes : (guides orders : List ℕ) (lines : List (List ℕ)) (replies : List ℕ) (t : SessionState) → Run (fresh guides orders) lines replies t → IsInScopes t
run_in_scopes guides orders lines replies t run = lines_scoped (fresh guides orders) lines replies t (fresh_is guides orders) run (fresh_scoped guides orders)
