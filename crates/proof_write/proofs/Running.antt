-- A run that writes its proof, turn after turn, and where it stops.
use Rattle.std.proofs.Common.{◌≡◌, ℕ, ◌+◌, ◌≤◌, Bool, None, Option, is_some, List, [], ◌∷◌, ◌++◌, length, refl, sym, ap, ◌∙◌, subst, arith, append_assoc, append-nil, length-append, Result, Ok, Err}
use Rattle.std.specs.Prelude.{IsErrAnd}
use Rattle.palm_base.specs.Streams.{IsSameSink, SinkState}
use Rattle.palm_base.specs.declared.terms.Cid.{Cid}
use Rattle.palm_base.specs.declared.terms.Pair.{Pair}
use Rattle.palm_book.specs.Book.{Contents, IsBook, active_of, initial_of}
use Rattle.palm_engine.specs.Engine.{KeepsCounts, View}
use Rattle.palm_engine.specs.Following.{HasSettledBy, Hearing, LeadsAlong}
use Rattle.palm_engine.specs.declared.settle.Settle.{Settle}
use Rattle.palm_engine.proofs.cited.Walking.{filters_none}
use Rattle.palm_events.proofs.cited.Reasons.{reasons_right}
use Rattle.palm_events.specs.Scoped.{HasScopedReasons}
use Rattle.palm_lang.specs.Writing.{Writes}
use Rattle.palm_lang.specs.declared.stop.WriteStop.{WriteStop}
use Rattle.palm_lang.specs.declared.stop.WriteStop.TheVariants.{NoMemory}
use Rattle.palm_lang.proofs.cited.Writes.{stopped_behind, writes_none, writes_nothing, writes_text, writes_then}
use Rattle.palm_model.specs.Event.{WithdrawsAll}
use Rattle.palm_model.specs.State.{EngineState, IsEmptyAt, IsValid, present}
use Rattle.palm_guide.specs.declared.guide.ViewRow.{ViewRow}
use Rattle.palm_search.specs.Asked.{Asks}
use Rattle.palm_search.specs.Breaking.{IsCutOff}
use Rattle.palm_search.specs.Breaking.IsCutOff.{before_turn, in_first_settling, in_settling, in_undoing}
use Rattle.palm_search.specs.Stopping.{IsCutOffBy, OrderStops}
use Rattle.palm_search.specs.Stopping.IsCutOffBy.{by_first_settling, by_next_turn, by_settling, by_undoing}
use Rattle.palm_search.specs.Stopping.OrderStops.{stops_before, stops_within}
use Rattle.palm_search.proofs.cited.Running.{interrupted_filters}
use Rattle.palm_engine.specs.Settling.{Filters}
use Rattle.palm_search.specs.Calls.{SearchView, TakesTurn, search_state}
use Rattle.palm_search.specs.Following.{GuideFollows, Moment, moments}
use Rattle.palm_search.specs.Kept.{HasDecisions}
use Rattle.palm_search.specs.Search.{EndsWith, search_cids}
use Rattle.palm_search.specs.Turning.{Hears, IsCutUndoing, IsNext}
use Rattle.palm_search.specs.Turning.IsCutUndoing.{cut_before, cut_within}
use Rattle.palm_search.specs.Turns.{HasFlatConflict, SearchState, decided_vars}
use Rattle.palm_search.specs.declared.ending.SearchEnd.{SearchEnd}
use Rattle.palm_search.specs.declared.ending.SearchEnd.TheVariants.{Found, NoSolution, Spent}
use Rattle.palm_search.specs.declared.turn.Turn.{Turn}
use Rattle.palm_search.specs.declared.next.Next.{Next}
use Rattle.palm_search.specs.declared.next.Next.TheVariants.{Decide as NextDecide, Undo as NextUndo}
use Rattle.palm_search.specs.declared.turn.Pick.{Pick}
use Rattle.palm_search.specs.declared.turn.Turn.TheVariants.{Decide as TurnDecide, Undo as TurnUndo}
use Rattle.palm_search.proofs.cited.Following.{IsRunningBy, SettlesOn, run_ends_by, run_goes_on_by, run_starts_by, running_left, running_right, searches_whole_by}
use Rattle.palm_search.proofs.cited.Taking.{HasTaken}
use Rattle.proof_run.specs.Accepted.{IsAcceptedAtNone}
use Rattle.proof_run.specs.Lemma.{IsLemmaOf, held_decisions, text_of_lemma, wiped_by}
use Rattle.proof_run.specs.SoFar.{Follows, IsTextSoFar}
use Rattle.proof_run.specs.SoFar.Follows.{nothing, a_lemma, an_end}
use Rattle.proof_run.specs.SoFar.IsTextSoFar.{declaring, arguing}
use Rattle.proof_run.specs.Text.{Argues, ArguesTurn, Argument, Concludes, ProvesBy, declarations, unargued}
use Rattle.proof_run.proofs.cited.Accepting.{proofs_are_accepted}
use Rattle.proof_write.specs.Fitting.{FitsBook}
use Rattle.proof_write.specs.Numbers.{AreNumbers}
use Rattle.proof_write.specs.Proving.{HasRun, HasWrittenSoFar, Stops}
use Rattle.proof_write.specs.declared.numbers.LemmaNumbers.{LemmaNumbers}
use Rattle.proof_write.proofs.Fitting.{book_users, turned_fits}

-- ---- the run so far

-- a turn leads the guide on, and what was argued
abbrev pub both : {G : Type 0} → (Moment → Option G → Option G → Type 0) → Contents → Moment → Option G × Argument → Option G × Argument → Type 0
both guiding book moment before after = guiding moment before.0 after.0 × Argues book moment before.1 after.1

-- the run so far, what its turns and its settlings led to, and its text, which was written
pub record IsProving {G O : Type 0} (guiding : Moment → Option G → Option G → Type 0) (ordering : Hearing → Option O → Option O → Type 0) (guide_first guide_now : Option G) (order_first order_now : Option O)
    (budget : ℕ) (book : Contents) (s t : EngineState) (search : SearchView) (numbers : LemmaNumbers) (was now : SinkState) : Type 0 where
  pub argued : Argument
  pub by : IsRunningBy (both guiding book) ordering (is_some guide_first) (guide_first, unargued) (guide_now, argued) order_first order_now budget s t search
  pub numbered : AreNumbers argued.undone numbers
  pub few : length argued.undone ≤ length search.journal
  pub writes : Writes {T = Unit {0}} was now (declarations book ++ argued.lemmas) (Ok tt)

-- a turn was taken, and its lemma written, if it has one
pub record HasArgued {G : Type 0} (guiding : Moment → Option G → Option G → Type 0) (budget : ℕ) (book : Contents) (before after : View) (search now : SearchView) (old new : Option G) (argued : Argument)
    (numbers : LemmaNumbers) (was is : SinkState) : Type 0 where
  pub taken : HasTaken guiding budget before after search now old new
  pub next : Argument
  pub argues : ArguesTurn book (search_state before.state search) taken.turn argued next
  pub numbered : AreNumbers next.undone numbers
  pub few : length next.undone ≤ length argued.undone + 1
  pub more : List ℕ
  pub lemmas : next.lemmas ≡ argued.lemmas ++ more
  pub follows : Follows book argued.undone budget (length search.journal) (search_state before.state search) more
  pub writes : Writes {T = Unit {0}} was is more (Ok tt)

-- ---- stops

-- what the exit of a `?` answers
pub stopped_with : {T : Type 0} (result : Result T WriteStop) (stop : WriteStop) → IsErrAnd result (λ (other : WriteStop). other ≡ stop) → result ≡ Err stop
stopped_with (Ok x) stop is = absurd is
stopped_with (Err other) stop is = ap (λ (w : WriteStop). Err w) is

pub stops : {T : Type 0} (book : Contents) (guided ordered : Bool) (budget : ℕ) (s : EngineState) (turns : List Turn) (was now : SinkState) (stop : WriteStop) (result : Result T WriteStop) (text : List ℕ) → result ≡ Err stop
    → IsTextSoFar book guided ordered budget s turns text → Writes {T = Unit {0}} was now text (Err stop) → Stops book guided ordered budget s turns was now result
stops {T = T} book guided ordered budget s turns was now stop result text e is writes =
    subst (λ (r : Result T WriteStop). Stops book guided ordered budget s turns was now r) (sym e) (record {
      front = record { text = text; is = is; written = writes.err };
      counted = writes.counted;
      sink = record { same = writes.stands.same; ok = tt };
    })

-- in the declarations, or behind them
pub declaring_stops : {T : Type 0} (book : Contents) (guided ordered : Bool) (budget : ℕ) (s : EngineState) (search : SearchView) (was now : SinkState) (stop : WriteStop) (result : Result T WriteStop) → result ≡ Err stop
    → search ≡ record { decisions = []; journal = [] } → Writes {T = Unit {0}} was now (declarations book) (Err stop) → Stops book guided ordered budget s search.journal was now result
declaring_stops book guided ordered budget s search was now stop result e fresh writes =
    stops book guided ordered budget s search.journal was now stop result (declarations book) e (declaring (ap (λ (v : SearchView). v.journal) fresh) refl) writes

-- memory ran out behind a text
pub stopped_quietly : (was now : SinkState) (text : List ℕ) → Writes {T = Unit {0}} was now text (Ok tt) → Writes {T = Unit {0}} was now text (Err NoMemory)
stopped_quietly was now text writes = record {
  counted = writes.counted;
  stands = record { same = writes.stands.same; ok = tt };
  ok = tt;
  err = stopped_behind was.written now.written text writes.ok;
}

-- ---- a turn, and its lemma

module _ {G : Type 0} (answers : G → List ViewRow → Option Pair → List ℕ → Type 0) (hears : G → List ℕ → List ℕ → Type 0) (state : G → List ℕ) (budget : ℕ) (book : Contents) (before after : View) (search now : SearchView) (old new : Option G)
    (next : Next) (can : IsNext budget before.state search next) (argued : Argument) (numbers : LemmaNumbers) (was : SinkState) where
  pub argued_deciding : (pair : Pair) → next ≡ NextDecide
      → ((pick : Pick) × Asks answers state (present before.state) old new pick × TakesTurn (is_some old) (TurnDecide pair pick) before.state search after.state now)
      → HasDecisions (search_state after.state now) → KeepsCounts before after → is_some new ≡ is_some old → AreNumbers argued.undone numbers
      → HasArgued (GuideFollows answers hears state) budget book before after search now old new argued numbers was was
  argued_deciding pair is taken decisions counts stays numbered = record {
    taken = record { turn = TurnDecide pair taken.0; left = (subst (IsNext budget before.state search) is can).0; takes = taken.2; step = taken.1; decisions = decisions; counts = counts; stays = stays };
    next = argued;
    argues = refl;
    numbered = numbered;
    few = omega arith;
    more = [];
    lemmas = sym (append-nil argued.lemmas);
    follows = nothing refl;
    writes = writes_none was tt;
  }

  -- the lemma of a conflict that is to be undone follows
  pub lemma_follows : (conflict : List Cid) (more : List ℕ) → next ≡ NextUndo conflict → IsLemmaOf book argued.undone (search_state before.state search) conflict more
      → Follows book argued.undone budget (length search.journal) (search_state before.state search) more
  lemma_follows conflict more is lemma =
      let undoes = subst (IsNext budget before.state search) is can in
      a_lemma conflict undoes.0 undoes.2 lemma

  pub argued_undoing : (conflict : List Cid) (more : List ℕ) (there : SinkState) → next ≡ NextUndo conflict → IsLemmaOf book argued.undone (search_state before.state search) conflict more
      → Writes {T = Unit {0}} was there more (Ok tt) → (taken : (gone : Pair) × TakesTurn (is_some old) (TurnUndo gone conflict) before.state search after.state now) → Hears hears state (decided_vars conflict) old new
      → HasDecisions (search_state after.state now) → KeepsCounts before after → is_some new ≡ is_some old → AreNumbers (argued.undone ++ taken.0 ∷ []) numbers
      → HasArgued (GuideFollows answers hears state) budget book before after search now old new argued numbers was there
  argued_undoing conflict more there is lemma writes taken told decisions counts stays numbered = record {
    taken = record { turn = TurnUndo taken.0 conflict; left = (subst (IsNext budget before.state search) is can).0; takes = taken.1; step = told; decisions = decisions; counts = counts; stays = stays };
    next = record { undone = argued.undone ++ taken.0 ∷ []; lemmas = argued.lemmas ++ more };
    argues = (more, lemma, refl);
    numbered = numbered;
    few = omega (arith, length-append argued.undone (taken.0 ∷ []));
    more = more;
    lemmas = refl;
    follows = lemma_follows conflict more is lemma;
    writes = writes;
  }

-- ---- it begins, and goes on

pub proving_starts : {G O : Type 0} (guiding : Moment → Option G → Option G → Type 0) (ordering : Hearing → Option O → Option O → Type 0) (guide_first : Option G) (order_first order_now : Option O)
    (budget : ℕ) (book : Contents) (answer : Settle) (before after : View) (search : SearchView) (numbers : LemmaNumbers) (was now : SinkState) → IsValid before.state → before.state.active ≡ active_of book
    → search ≡ record { decisions = []; journal = [] } → AreNumbers [] numbers → Writes {T = Unit {0}} was now (declarations book) (Ok tt) → HasSettledBy ordering None order_first order_now answer before after
    → IsProving guiding ordering guide_first guide_first order_first order_now budget book before.state after.state search numbers was now
proving_starts guiding ordering guide_first order_first order_now budget book answer before after search numbers was now valid active fresh numbered writes by = record {
  argued = unargued;
  by = run_starts_by reasons_right (both guiding book) ordering (is_some guide_first) (guide_first, unargued) order_first order_now budget answer before after search valid (book_users book before.state active) fresh by;
  numbered = numbered;
  few = omega arith;
  writes = writes_text was now (declarations book) (declarations book ++ []) (Ok tt) (sym (append-nil (declarations book))) writes;
}

pub proving_goes_on : {G O : Type 0} (guiding : Moment → Option G → Option G → Type 0) (ordering : Hearing → Option O → Option O → Type 0) (guide_first guide_was guide_now : Option G) (order_first order_was order_now : Option O)
    (budget : ℕ) (book : Contents) (s : EngineState) (m : View) (before : SearchView) (answer : Settle) (taken after : View) (search : SearchView) (earlier numbers : LemmaNumbers) (was mid now : SinkState)
    → (proving : IsProving guiding ordering guide_first guide_was order_first order_was budget book s m.state before earlier was mid) → is_some guide_was ≡ is_some guide_first
    → HasArgued guiding budget book m taken before search guide_was guide_now proving.argued numbers mid now → SettlesOn ordering (is_some order_first) answer taken after order_was order_now
    → IsProving guiding ordering guide_first guide_now order_first order_now budget book s after.state search numbers was now
proving_goes_on guiding ordering guide_first guide_was guide_now order_first order_was order_now budget book s m before answer taken after search earlier numbers was mid now proving stays argued settles =
    let turn = argued.taken.turn in
    let takes = subst (λ (b : Bool). TakesTurn b turn m.state before taken.state search) stays argued.taken.takes in
    let longer = ap (λ (l : List Turn). length l) takes.journal ∙ length-append before.journal (turn ∷ []) in
    record {
      argued = argued.next;
      by = run_goes_on_by reasons_right (both guiding book) ordering (is_some guide_first) (guide_first, unargued) (guide_was, proving.argued) (guide_now, argued.next) order_first order_was order_now
          budget s m.state before turn answer taken after search proving.by argued.taken.left takes (argued.taken.step, argued.argues) settles;
      numbered = argued.numbered;
      few = omega (arith, longer, argued.few, proving.few);
      writes = writes_text was now (declarations book ++ proving.argued.lemmas ++ argued.more) (declarations book ++ argued.next.lemmas) (Ok tt)
          (append_assoc (declarations book) proving.argued.lemmas argued.more ∙ ap (λ (l : List ℕ). declarations book ++ l) (sym argued.lemmas))
          (writes_then was mid now (declarations book ++ proving.argued.lemmas) argued.more tt (Ok tt) proving.writes argued.writes);
    }

-- ---- what is known within it

module _ {G O : Type 0} {guiding : Moment → Option G → Option G → Type 0} {ordering : Hearing → Option O → Option O → Type 0} {guide_first guide_now : Option G} {order_first order_now : Option O}
    {budget : ℕ} {book : Contents} {s t : EngineState} {search : SearchView} {numbers : LemmaNumbers} {was mid : SinkState}
    (proving : IsProving guiding ordering guide_first guide_now order_first order_now budget book s t search numbers was mid) where
  abbrev guided : Bool
  guided = is_some guide_first

  abbrev ordered : Bool
  ordered = is_some order_first

  -- what has it has a name in the book
  pub proving_fits : IsValid s → s.initial ≡ initial_of book → s.active ≡ active_of book → FitsBook book (search_state t search)
  proving_fits valid initial active = turned_fits reasons_right guided ordered budget book s search.journal (search_state t search) valid initial active proving.by.running.turned

  -- the lemma of a conflict
  abbrev pub text_here : List Cid → ℕ → List ℕ
  text_here conflict x = text_of_lemma book proving.argued.undone (held_decisions search.decisions conflict) (wiped_by t x) x

  pub lemma_here : (conflict : List Cid) (flat : HasFlatConflict t conflict) → IsLemmaOf book proving.argued.undone (search_state t search) conflict (text_here conflict flat.var)
  lemma_here conflict flat = record { flat = flat; is = refl }

  pub lemma_written : (conflict cids : List Cid) (flat : HasFlatConflict t conflict) (now : SinkState) (result : Result (Unit {0}) WriteStop) → cids ≡ conflict
      → ((undone : List Pair) (x : ℕ) → AreNumbers undone numbers → IsEmptyAt (present t) x → Writes mid now (text_of_lemma book undone (held_decisions search.decisions cids) (wiped_by t x) x) result)
      → Writes mid now (text_here conflict flat.var) result
  lemma_written conflict cids flat now result same writes =
      writes_text mid now (text_here cids flat.var) (text_here conflict flat.var) result (ap (λ (l : List Cid). text_here l flat.var) same) (writes proving.argued.undone flat.var proving.numbered flat.empty)

  abbrev argues : LeadsAlong (Argues book) (moments guided ordered proving.by.running.turned.start search.journal (search_state t search) proving.by.running.turned.taken) unargued proving.argued
  argues = running_right guiding (Argues book) ordering guided (guide_first, unargued) (guide_now, proving.argued) order_first order_now budget s t search proving.by

  -- the run without its arguments
  pub left_by : IsRunningBy guiding ordering guided guide_first guide_now order_first order_now budget s t search
  left_by = running_left guiding (Argues book) ordering guided (guide_first, unargued) (guide_now, proving.argued) order_first order_now budget s t search proving.by

  -- ---- where it stops

  -- what was to be written, and what follows it
  text_so_far : (turns cut : List Turn) (more : List ℕ) → turns ≡ search.journal ++ cut → length cut ≤ 1 → Follows book proving.argued.undone budget (length search.journal) (search_state t search) more
      → IsTextSoFar book guided ordered budget s turns (declarations book ++ proving.argued.lemmas ++ more)
  text_so_far turns cut more e short follows = arguing search.journal cut (search_state t search) proving.by.running.turned proving.argued more e short argues follows refl

  pub proving_stops : {T : Type 0} (turns cut : List Turn) (more : List ℕ) (now : SinkState) (stop : WriteStop) (result : Result T WriteStop) → result ≡ Err stop → turns ≡ search.journal ++ cut → length cut ≤ 1
      → Follows book proving.argued.undone budget (length search.journal) (search_state t search) more → Writes {T = Unit {0}} mid now more (Err stop) → Stops book guided ordered budget s turns was now result
  proving_stops turns cut more now stop result e are short follows writes =
      let front = declarations book ++ proving.argued.lemmas in
      stops book guided ordered budget s turns was now stop result (front ++ more) e (text_so_far turns cut more are short follows) (writes_then was mid now front more tt (Err stop) proving.writes writes)

  -- before the next turn
  pub stops_here : {T : Type 0} (after : SearchView) (result : Result T WriteStop) → result ≡ Err NoMemory → after ≡ search → Stops book guided ordered budget s after.journal was mid result
  stops_here after result e same =
      proving_stops after.journal [] [] mid NoMemory result e (ap (λ (v : SearchView). v.journal) same ∙ sym (append-nil search.journal)) (omega arith) (nothing refl) (writes_nothing mid [])

  -- in an undoing, behind its lemma
  pub undoing_stops : {T : Type 0} (conflict : List Cid) (u : EngineState) (after : SearchView) (more : List ℕ) (now : SinkState) (result : Result T WriteStop) → result ≡ Err NoMemory → IsCutUndoing conflict t search u after
      → Follows book proving.argued.undone budget (length search.journal) (search_state t search) more → Writes {T = Unit {0}} mid now more (Ok tt) → Stops book guided ordered budget s after.journal was now result
  undoing_stops conflict u after more now result e (cut_before f same) follows writes =
      proving_stops after.journal [] more now NoMemory result e (ap (λ (v : SearchView). v.journal) same ∙ sym (append-nil search.journal)) (omega arith) follows (stopped_quietly mid now more writes)
  undoing_stops conflict u after more now result e (cut_within gone next undoes are f) follows writes =
      proving_stops after.journal (TurnUndo gone conflict ∷ []) more now NoMemory result e are (omega arith) follows (stopped_quietly mid now more writes)

  -- behind a turn
  pub turn_stops : {T : Type 0} (turn : Turn) (after : SearchView) (more : List ℕ) (now : SinkState) (result : Result T WriteStop) → result ≡ Err NoMemory → after.journal ≡ search.journal ++ turn ∷ []
      → Follows book proving.argued.undone budget (length search.journal) (search_state t search) more → Writes {T = Unit {0}} mid now more (Ok tt) → Stops book guided ordered budget s after.journal was now result
  turn_stops turn after more now result e are follows writes =
      proving_stops after.journal (turn ∷ []) more now NoMemory result e are (omega arith) follows (stopped_quietly mid now more writes)

  -- ---- how it ends

  pub proving_ends : (end : SearchEnd) (conclusion : List ℕ) (now : SinkState) → EndsWith budget (length search.journal) t end → Concludes book proving.argued.undone (search_state t search) end conclusion
      → Writes {T = Unit {0}} mid now conclusion (Ok tt) → HasRun guiding ordering guide_first guide_now order_first order_now budget book s search.journal end (search_state t search) was.written now.written
  unfolding left_by
  proving_ends end conclusion now ends concludes writes =
      let front = declarations book ++ proving.argued.lemmas in
      record {
        text = front ++ conclusion;
        by = run_ends_by guiding ordering guide_first guide_now order_first order_now budget s t search end left_by ends;
        writes = record { argued = proving.argued; argues = argues; conclusion = conclusion; concludes = concludes; is = refl };
        written = (writes_then was mid now front conclusion tt (Ok tt) proving.writes writes).ok;
      }

-- ---- where it was broken off

order_filters : {O : Type 0} {answering : List Cid → ℕ → Option O → Option O → Type 0} {ordering : Hearing → Option O → Option O → Type 0} {first last : Option O} {s t : EngineState} → OrderStops answering ordering first last s t → Filters s t
order_filters {s = s} (stops_before same e) = subst (λ (z : EngineState). Filters s z) (sym e) (filters_none s)
order_filters {first = first} {s = s} {t = t} (stops_within before after e f by) =
    subst (λ (z : EngineState). Filters z t) e (subst (λ (z : EngineState). Filters before.state z) f (interrupted_filters (is_some first) before after by.interrupted))

module _ {G O : Type 0} {guiding : Moment → Option G → Option G → Type 0} {stopping : SearchState → Option G → Option G → Type 0} {ordering : Hearing → Option O → Option O → Type 0} {answering : List Cid → ℕ → Option O → Option O → Type 0}
    {guide_first guide_last : Option G} {order_first order_last : Option O} {budget : ℕ} {s : EngineState} {turns : List Turn} {t : EngineState} where
  -- what the guide and the order were asked and told is left out
  pub cut_off : IsCutOffBy guiding stopping ordering answering guide_first guide_last order_first order_last budget s turns t → IsCutOff (is_some guide_first) (is_some order_first) budget s turns t
  cut_off (by_first_settling none same stops) = in_first_settling none (order_filters stops)
  cut_off (by_next_turn m guide turned at stops) = before_turn m turned.turned at
  cut_off (by_undoing m next before gone conflict undoes guide turned lt are at told) = in_undoing m next before gone conflict undoes turned.turned lt are at
  cut_off (by_settling m next before turn guide order turned lt takes are led stops) = in_settling m next before turn turned.turned lt takes are (order_filters stops)

-- ---- behind its end

module _ {G O : Type 0} {guiding : Moment → Option G → Option G → Type 0} {ordering : Hearing → Option O → Option O → Type 0} {guide_first guide_last : Option G} {order_first order_end : Option O}
    {budget : ℕ} {book : Contents} {s : EngineState} {turns : List Turn} {end : SearchEnd} {last : SearchState} {was now : Option (List ℕ)}
    (has : HasRun guiding ordering guide_first guide_last order_first order_end budget book s turns end last was now) where
  -- memory ran out in the last settling
  pub behind_end : HasWrittenSoFar NoMemory book (is_some guide_first) (is_some order_first) budget s turns was now
  behind_end =
      let run = has.by.run in
      let writes = has.writes in
      record {
        text = has.text;
        is = arguing turns [] last (record { start = run.start; settles = run.settles; taken = run.taken; within = run.within }) writes.argued writes.conclusion (sym (append-nil turns)) (omega arith) writes.argues (an_end end run.ends writes.concludes) writes.is;
        written = stopped_behind was now has.text has.written;
      }

  -- all decisions and negations are withdrawn, and the engine has settled once more
  pub run_proves : (order_last : Option O) (answer : Settle) (n t : View) → WithdrawsAll last.engine (search_cids last.engine.active) n.state → SettlesOn ordering (is_some order_first) answer n t order_end order_last
      → ProvesBy guiding ordering guide_first guide_last order_first order_last budget book s turns end t.state has.text
  run_proves order_last answer n t withdraws settles = record {
    by = searches_whole_by guiding ordering guide_first guide_last order_first order_end order_last budget s turns end last answer n t has.by withdraws settles;
    writes = has.writes;
  }

-- a text that says that there is no solution is accepted
pub accepted_at : {G O : Type 0} {guiding : Moment → Option G → Option G → Type 0} {ordering : Hearing → Option O → Option O → Type 0} {guide_first guide_last : Option G} {order_first order_last : Option O}
    (budget : ℕ) (book : Contents) (s : EngineState) (turns : List Turn) (end : SearchEnd) (t : EngineState) (text : List ℕ) → IsBook book → IsValid s → s.initial ≡ initial_of book → s.active ≡ active_of book → HasScopedReasons s
    → budget ≤ 18446744073709551615 → ProvesBy guiding ordering guide_first guide_last order_first order_last budget book s turns end t text → IsAcceptedAtNone book end text
accepted_at {guide_first = guide_first} {order_first = order_first} budget book s turns (NoSolution users) t text is valid initial active scoped few proves =
    proofs_are_accepted (is_some guide_first) (is_some order_first) budget book s turns users t text is valid initial active scoped few (record { searches = proves.by.searches; writes = proves.writes })
accepted_at budget book s turns (Found values) t text is valid initial active scoped few proves = tt
accepted_at budget book s turns (Spent count) t text is valid initial active scoped few proves = tt

-- memory ran out behind the end, and nothing more was written
pub ended_quietly : {T : Type 0} (book : Contents) (guided ordered : Bool) (budget : ℕ) (s : EngineState) (turns : List Turn) (was now : SinkState) (end : SearchEnd) (result : Result T WriteStop) → result ≡ Err NoMemory
    → HasWrittenSoFar NoMemory book guided ordered budget s turns was.written now.written → now.faults ≡ was.faults → IsSameSink {T = SearchEnd} {E = WriteStop} was now (Ok end) → Stops book guided ordered budget s turns was now result
ended_quietly book guided ordered budget s turns was now end result e so_far counted sink =
    subst (λ (r : Result _ WriteStop). Stops book guided ordered budget s turns was now r) (sym e) (record { front = so_far; counted = counted; sink = record { same = sink.same; ok = tt } })
