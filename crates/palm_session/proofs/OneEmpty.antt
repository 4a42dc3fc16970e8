-- From a fresh session on, at most one variable has no value: filtering stops at the first one.
use Rattle.std.proofs.Common.{◌≡◌, ℕ, ◌+◌, ◌<◌, ℤ, List, [], ◌∷◌, ◌++◌, length, filter, not, Option, All, Contains, inl, inr, refl, sym, ap, ◌∙◌, subst, arith, length-append}
use Rattle.std.proofs.lemmas.Bool.{cases_lt}
use Rattle.std.proofs.lemmas.List.Elements.{All-head, All-tail}
use Rattle.palm_base.specs.declared.terms.Pair.{Pair}
use Rattle.palm_base.specs.declared.terms.Cid.{Cid}
use Rattle.palm_base.proofs.cited.Members.{member_nil, member_here, nat_known}
use Rattle.palm_model.specs.Domains.{Domains, Has, is_among, values_of, without}
use Rattle.palm_model.specs.Log.{Active, Removal, log_pairs}
use Rattle.palm_model.specs.State.{EngineState, IsEmptyAt, IsValid, present}
use Rattle.palm_model.specs.Event.{Posts, WithdrawsAll, Removes, Declares, Step, StepLeads, Runs, removed, removal_of}
use Rattle.palm_model.specs.Event.Event.{Post, Withdraw, Remove}
use Rattle.palm_model.specs.Event.Step.{Happens, Calm, Declare}
use Rattle.palm_model.proofs.cited.Narrowing.{has_declared}
use Rattle.palm_model.proofs.cited.Without.{pair_of, has_without, length_without, values_of_without}
use Rattle.palm_book.specs.declared.book.BookCon.{BookCon}
use Rattle.palm_read.specs.Domain.{values_in}
use Rattle.palm_session.specs.declared.request.Procedure.{Procedure}
use Rattle.palm_session.specs.declared.request.Request.{Request}
use Rattle.palm_session.specs.declared.request.Request.TheVariants.{Nothing as NothingAsked, Header as HeaderAsked, Declare as DeclareAsked, DeclareIn, Add, Relax, Enforce, Retract, Ask, Pause, Resume, Step as StepAsked, Solve, ChooseGuide, DropGuide, ChooseOrder, DropOrder, Prefer, Quit}
use Rattle.palm_session.specs.Requests.{Admits}
use Rattle.palm_events.specs.Along.{IsFiltering, IsStill}
use Rattle.palm_events.proofs.cited.Agreeing.{values_of_more}
use Rattle.palm_events.proofs.cited.Logs.{logged}
use Rattle.palm_events.proofs.cited.Valid.{has_removed, left_grows}
use Rattle.palm_engine.proofs.cited.Settled.{settling_filters}
use Rattle.palm_session.specs.State.{SessionState, IsHeld, IsState, fresh}
use Rattle.palm_search.specs.declared.ending.SearchEnd.{SearchEnd}
use Rattle.palm_search.specs.declared.turn.Turn.{Turn}
use Rattle.palm_session.specs.Effects.{Telling, Effect, Nothing, Settled, Searched, Next, Rests, Filters, Searches, next, SettlesIn, SearchesIn, Follows, Does, Changes, WithdrawsActive}
use Rattle.palm_session.specs.Answers.{WaitsFor, Accepts, waits, contradicts, says, Answers, misread, refused, accepted}
use Rattle.palm_session.specs.Replies.{Run}
use Rattle.palm_session.proofs.cited.LawsOfAnswers.{answers_keep, read_admits}
use Rattle.palm_session.proofs.cited.LawsOfChanges.{changes_keep, declared_values, withdraws_cases}
use Rattle.palm_session.proofs.Searching.{search_leaves_still, search_log}
use Rattle.palm_session.specs.Modes.{heard}
use Rattle.palm_session.proofs.InModes.{heard_state}
use Rattle.palm_session.proofs.Searched.{still_before}
use Rattle.palm_session.proofs.LawsOfDomains.{inside_empty}
use Rattle.palm_session.proofs.cited.LawsOfStates.{fresh_is}
use Rattle.palm_session.proofs.Users.{declared_from}

-- no two variables are empty
abbrev pub HasOneEmpty : EngineState → Type 0
HasOneEmpty e = (x y : ℕ) → IsEmptyAt (present e) x → IsEmptyAt (present e) y → x ≡ y

first_value : (vs : List ℤ) → 0 < length vs → (v : ℤ) × Contains vs v
first_value [] lt = absurd (omega (arith, lt))
first_value (v ∷ vs) lt = (v, member_here v vs)

empty_has : (d : Domains) (x : ℕ) (v : ℤ) → IsEmptyAt d x → Has d x v → ⊥
empty_has d x v empty has = member_nil v (subst (λ (vs : List ℤ). Contains vs v) empty.empty has)

-- ---- events

same_long : (s : EngineState) (a : Active) (p : Pair) → length (present (removed s a p)) ≡ length (present s)
same_long s a p = length_without s.initial (log_pairs (s.log ++ removal_of s a p ∷ [])) ∙ sym (length_without s.initial (log_pairs s.log))

-- only the variable of a removed pair may have become empty
removed_alone : (s : EngineState) (a : Active) (p : Pair) (t : EngineState) → Removes s a p t → (x : ℕ) → IsEmptyAt (present (removed s a p)) x → x ≡ p.var
removed_alone s a p t h x empty = elim (nat_known x p.var) [
  | inl e ↦ e
  | inr other ↦
      let lt : x < length (present s) = subst (λ (n : ℕ). x < n) (same_long s a p) empty.exists in
      let v = first_value (values_of (present s) x) (h.filled x lt) in
      absurd (empty_has (present (removed s a p)) x v.0 empty (has_removed s a p x v.0 (λ e. other (sym (ap (λ (q : Pair). q.var) e))) v.1))
]

removed_one : (s : EngineState) (a : Active) (p : Pair) (t : EngineState) → Removes s a p t → HasOneEmpty t
removed_one s a p t h = subst HasOneEmpty (sym h.after) (λ x y ex ey. removed_alone s a p t h x ex ∙ sym (removed_alone s a p t h y ey))

filtering_one : (s : EngineState) (step : Step) (t : EngineState) → IsFiltering step → StepLeads s step t → HasOneEmpty s → HasOneEmpty t
filtering_one s (Happens (Post a)) t filtering h one = absurd filtering
filtering_one s (Happens (Withdraw cid)) t filtering h one = absurd filtering
filtering_one s (Happens (Remove a p)) t filtering h one = removed_one s a p t h
filtering_one s (Calm a) t filtering h one = subst HasOneEmpty (sym h.after) one
filtering_one s (Declare values) t filtering h one = absurd filtering

run_one : (s : EngineState) (steps : List Step) (t : EngineState) → All IsFiltering steps → Runs s steps t → HasOneEmpty s → HasOneEmpty t
run_one s [] t filtering run one = subst HasOneEmpty (sym run) one
run_one s (step ∷ steps) t filtering run one =
    run_one run.0 steps t (All-tail IsFiltering step steps filtering) run.2 (filtering_one s step run.0 (All-head IsFiltering step steps filtering) run.1 one)

posts_one : (s t : EngineState) (a : Active) → Posts s a t → HasOneEmpty s → HasOneEmpty t
posts_one s t a h one = subst HasOneEmpty (sym h.after) one

-- what a withdrawal leaves empty was empty
withdraws_one : (s : EngineState) (gone : List Cid) (t : EngineState) → WithdrawsAll s gone t → HasOneEmpty s → HasOneEmpty t
withdraws_one s gone t h one =
    let left : Domains = without s.initial (log_pairs h.left) in
    let long : length (present s) ≡ length left = length_without s.initial (log_pairs s.log) ∙ sym (length_without s.initial (log_pairs h.left)) in
    let was : (x : ℕ) → IsEmptyAt left x → IsEmptyAt (present s) x = λ x e. inside_empty (present s) left x long (left_grows s gone h.left h.loses) e in
    subst HasOneEmpty (sym h.after) (λ x y ex ey. one x y (was x ex) (was y ey))

-- a new variable has its values
declared_filled : (s : EngineState) → IsValid s → (vs : List ℤ) → 0 < length vs → (x : ℕ) → IsEmptyAt (without (s.initial ++ vs ∷ []) (log_pairs s.log)) x → x < length s.initial
declared_filled s valid vs some x empty = elim (cases_lt x (length s.initial)) [
  | inl lt ↦ lt
  | inr past ↦
      let more : length (s.initial ++ vs ∷ []) ≡ length s.initial + 1 = length-append s.initial (vs ∷ []) in
      let lt : x < length (s.initial ++ vs ∷ []) = subst (λ (n : ℕ). x < n) (length_without (s.initial ++ vs ∷ []) (log_pairs s.log)) empty.exists in
      let here : x ≡ length s.initial = omega (arith, past, lt, more) in
      let v = first_value vs some in
      let has : Has (s.initial ++ vs ∷ []) x v.0 = subst (λ (ws : List ℤ). Contains ws v.0) (sym (ap (values_of (s.initial ++ vs ∷ [])) here ∙ last_values s.initial vs)) v.1 in
      absurd (empty_has (without (s.initial ++ vs ∷ []) (log_pairs s.log)) x v.0 empty (has_without (s.initial ++ vs ∷ []) (log_pairs s.log) x v.0 has (λ m.
      let r = logged s.log (pair_of x v.0) m in
      let declared = declared_from s.initial s.active [] s.log valid.founded r.0 r.1 in
      let below : r.0.pair.var < length s.initial = has_declared s.initial r.0.pair.var r.0.pair.value declared in
      let same : r.0.pair.var ≡ x = ap (λ (q : Pair). q.var) r.2 in
      omega (arith, below, same, past))))
]
  where
    last_values : (d : Domains) (vs : List ℤ) → values_of (d ++ vs ∷ []) (length d) ≡ vs
    last_values [] vs = refl
    last_values (ws ∷ d) vs = last_values d vs

declares_one : (s t : EngineState) (vs : List ℤ) → IsValid s → 0 < length vs → Declares s vs t → HasOneEmpty s → HasOneEmpty t
declares_one s t vs valid some h one =
    let pairs : List Pair = log_pairs s.log in
    let next : Domains = without (s.initial ++ vs ∷ []) pairs in
    let was : (x : ℕ) → IsEmptyAt next x → IsEmptyAt (present s) x = λ x e.
    let lt : x < length s.initial = declared_filled s valid vs some x e in
    record {
      exists = subst (λ (n : ℕ). x < n) (sym (length_without s.initial pairs)) lt;
      empty = values_of_without s.initial pairs x ∙ ap (λ (ws : List ℤ). filter (λ v. not (is_among pairs x v)) ws) (sym (values_of_more s.initial vs x lt))
          ∙ sym (values_of_without (s.initial ++ vs ∷ []) pairs x) ∙ e.empty;
    } in
    subst HasOneEmpty (sym h.after) (λ x y ex ey. one x y (was x ex) (was y ey))

-- ---- lines

active_one : (e : EngineState) (c : BookCon) (t : EngineState) → WithdrawsActive e c t → HasOneEmpty e → HasOneEmpty t
active_one e c t w one = elim (withdraws_cases e c t w) [
  | inl h ↦ withdraws_one e _ t h.1 one
  | inr h ↦ subst HasOneEmpty (sym h.1) one
]

abbrev HasOne : SessionState → Type 0
HasOne s = HasOneEmpty s.engine

changes_one : (s m : SessionState) (request : Request) → IsState s → Admits s request → Changes s request m → HasOne s → HasOne m
changes_one s m NothingAsked is can h one = subst HasOne (sym h) one
changes_one s m HeaderAsked is can h one = subst HasOne (sym h) one
changes_one s m (DeclareAsked name domain) is can h one =
    subst HasOne (sym h.2) (declares_one s.engine h.0 (values_in domain) is.held.valid (declared_values s name domain can).some h.1 one)
changes_one s m (DeclareIn name universe domain) is can h one =
    let declared : HasOne h.0 = subst HasOne (sym h.1.2) (declares_one s.engine h.1.0 (values_in universe) is.held.valid (declared_values s name universe can.declare).some h.1.1 one) in
    subst HasOne (sym h.2.2) (posts_one h.0.engine h.2.0 _ h.2.1 declared)
changes_one s m (Add name con) is can h one = subst HasOne (sym h.2) (posts_one s.engine h.0 _ h.1 one)
changes_one s m (Relax place) is can h one = subst HasOne (sym h.4) (withdraws_one s.engine _ h.1 h.3 one)
changes_one s m (Enforce place) is can h one = subst HasOne (sym h.4) (posts_one s.engine h.1 _ h.3 one)
changes_one s m (Retract place) is can h one = subst HasOne (sym h.4) (active_one s.engine h.0 h.1 h.3 one)
changes_one s m (Ask question) is can h one = subst HasOne (sym h) one
changes_one s m Pause is can h one = subst HasOne (sym h) one
changes_one s m Resume is can h one = subst HasOne (sym h) one
changes_one s m (StepAsked count) is can h one = subst HasOne (sym h) one
changes_one s m (Solve by) is can h one = subst HasOne (sym h) one
changes_one s m (ChooseGuide chosen) is can h one = subst HasOne (sym h) one
changes_one s m (DropGuide number) is can h one = subst HasOne (sym h) one
changes_one s m (ChooseOrder chosen) is can h one = subst HasOne (sym h) one
changes_one s m (DropOrder number) is can h one = subst HasOne (sym h) one
changes_one s m (Prefer place weight) is can h one = subst HasOne (sym h.2) one
changes_one s m Quit is can h one = subst HasOne (sym h) one

settles_one : (m : SessionState) (limit : Option ℕ) (count : ℕ) (e : EngineState) → SettlesIn m limit count e → HasOne m → HasOneEmpty e
settles_one m limit count e h one =
    let filters = settling_filters limit m.engine h.revisions e h.settles in run_one m.engine filters.steps e filters.filtering filters.run one

-- a search leaves the domains
searches_one : (m : SessionState) (by : Procedure) (turns : List Turn) (end : SearchEnd) (telling : Telling) (e : EngineState) → IsHeld m → IsStill m.engine → SearchesIn m by turns end telling e → HasOne m → HasOneEmpty e
searches_one m by turns end telling e is still h one x y ex ey =
    let rests = search_leaves_still m by turns end telling e is h in
    let same : present e ≡ present m.engine = ap (λ (d : Domains). without d (log_pairs e.log)) rests.initial ∙ ap (λ (l : List Removal). without m.engine.initial (log_pairs l)) (search_log m by turns end telling e is h still) in
    one x y (subst (λ (d : Domains). IsEmptyAt d x) same ex) (subst (λ (d : Domains). IsEmptyAt d y) same ey)

follows_one : (m : SessionState) (n : Next) (effect : Effect) (t : SessionState) → IsHeld m → ((by : Procedure) → n ≡ Searches by → IsStill m.engine) → Follows m n effect t → HasOne m → HasOne t
follows_one m Rests Nothing t is still f one = subst HasOne (sym f) one
follows_one m Rests (Settled k) t is still f one = absurd f
follows_one m Rests (Searched k j) t is still f one = absurd f
follows_one m (Filters limit) Nothing t is still f one = absurd f
follows_one m (Filters limit) (Settled k) t is still f one = subst HasOne (sym f.2) (settles_one m limit k f.0 f.1 one)
follows_one m (Filters limit) (Searched k j) t is still f one = absurd f
follows_one m (Searches by) Nothing t is still f one = absurd f
follows_one m (Searches by) (Settled k) t is still f one = absurd f
follows_one m (Searches by) (Searched k j) t is still f one = subst HasOne (sym f.3) (searches_one m by f.0 k j f.1 is (still by refl) f.2 one)

does_one : (s : SessionState) (request : Request) (effect : Effect) (t : SessionState) → IsState s → Admits s request → (WaitsFor s request → ⊥) → Does s request effect t → HasOne s → HasOne t
does_one s request effect t is can goes d one =
    follows_one d.0 (next d.0 request) effect t (changes_keep s d.0 request is.held can d.1) (still_before s d.0 request is goes d.1) d.2 (changes_one s d.0 request is can d.1 one)

accepts_one : (s : SessionState) (request : Request) (reply : List ℕ) (t : SessionState) → IsState s → Admits s request → Accepts s request reply t → HasOne s → HasOne t
accepts_one s request reply t is can (waits w) one = one
accepts_one s request reply t is can (contradicts effect goes does c) one = does_one s request effect t is can goes does one
accepts_one s request reply t is can (says effect goes does n r) one = does_one s request effect t is can goes does one

answers_one : (s : SessionState) (bytes reply : List ℕ) (t : SessionState) → IsState s → Answers s bytes reply t → HasOne s → HasOne t
answers_one s bytes reply t is (misread error refusal q some) one = one
answers_one s bytes reply t is (refused line refusal read first) one = one
answers_one s bytes reply t is (accepted line request read a h) one =
    let there = heard_state s line is in
    accepts_one (heard s line) request reply t there (read_admits s.mode (heard s line) there.held bytes line request read a) h one

lines_one : (s : SessionState) (lines : List (List ℕ)) (replies : List ℕ) (t : SessionState) → IsState s → Run s lines replies t → HasOne s → HasOne t
lines_one s [] replies t is run one = subst HasOne (sym run.1) one
lines_one s (l ∷ ls) replies t is run one =
    lines_one run.2 ls run.1 t (answers_keep s l run.0 run.2 is run.3) run.5 (answers_one s l run.0 run.2 is run.3 one)

fresh_one : (guides orders : List ℕ) → HasOne (fresh guides orders)
fresh_one guides orders x y ex ey = absurd (omega (arith, ex.exists))

pub one_empty : (guides orders : List ℕ) (lines : List (List ℕ)) (replies : List ℕ) (t : SessionState) → Run (fresh guides orders) lines replies t → HasOneEmpty t.engine
one_empty guides orders lines replies t run = lines_one (fresh guides orders) lines replies t (fresh_is guides orders) run (fresh_one guides orders)
