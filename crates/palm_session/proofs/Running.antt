-- What a search does, from the loop to the desk and to the line.
use Rattle.std.proofs.Common.{◌≡◌, ℕ, Bool, is_some, Some, Option, List, [], Result, Ok, Err, OnOk, refl, sym, ◌∙◌, inr, subst}
use Rattle.std.specs.Prelude.{IfErr}
use Rattle.std.proofs.lemmas.Bool.{false≢true}
use Rattle.palm_base.specs.Streams.{Appended}
use Rattle.palm_base.proofs.cited.StreamLemmas.{appended_both, appended_nothing}
use Rattle.palm_model.specs.State.{EngineState, IsValid}
use Rattle.palm_book.specs.Book.{Contents}
use Rattle.palm_engine.specs.Engine.{View}
use Rattle.palm_lang.proofs.cited.Writes.{stopped_at_once, stopped_in_first, stopped_in_second}
use Rattle.palm_lang.specs.Writing.{AppendedUntil}
use Rattle.palm_lang.specs.declared.stop.WriteStop.{WriteStop}
use Rattle.palm_lang.specs.declared.stop.WriteStop.TheVariants.{NoMemory}
use Rattle.palm_read.specs.declared.mode.Mode.{Mode}
use Rattle.palm_repair.specs.Answers.{end_of}
use Rattle.palm_repair.specs.Following.{HasRepairedBy}
use Rattle.palm_repair.specs.declared.answer.RepairAnswer.{RepairAnswer as RepairEnd}
use Rattle.palm_search.specs.Calls.{SearchView}
use Rattle.palm_search.specs.Kept.{HasOnlyUsers}
use Rattle.palm_search.specs.declared.ending.SearchEnd.{SearchEnd}
use Rattle.palm_search.specs.declared.turn.Turn.{Turn}
use Rattle.proof_run.proofs.cited.GoingOn.{proofs_go_on}
use Rattle.proof_write.specs.Proving.{HasProved, HasWrittenSoFar}
use Rattle.palm_prefer.specs.declared.weights.Weight.{Weight}
use Rattle.palm_session.specs.Answers.{Answers, accepted, says, told_text}
use Rattle.palm_session.specs.Asking.{asks_search}
use Rattle.palm_session.specs.Effects.{InFull, InShort, Searched as SearchedSo, SearchesByProof, Telling, with_search}
use Rattle.palm_session.specs.Feeding.{AnswersFront, AnswersLine, LineBecomes}
use Rattle.palm_session.specs.Led.{AnswersLead, Guiding, Ordering, RequestLeads, SearchesOn}
use Rattle.palm_session.specs.Modes.{heard}
use Rattle.palm_session.specs.Objects.{HeldObjects, ObjectsView}
use Rattle.palm_session.specs.Replies.{GoesOn}
use Rattle.palm_session.specs.ReplyText.{reply_text, ReplyFits}
use Rattle.palm_session.specs.Requests.{CanSearch}
use Rattle.palm_session.specs.Serving.{DeskView, desk_of, HasRun}
use Rattle.palm_session.specs.State.{IsHeld, IsState, SessionState}
use Rattle.palm_session.specs.Ways.{CanRun, RunsTo, HasSearched, HasTold, HasToldFront, StopsSo, WritesProofFront, reply_of, written_of}
use Rattle.palm_session.specs.declared.going.Going.TheVariants.{More}
use Rattle.palm_session.specs.declared.request.Procedure.{Procedure}
use Rattle.palm_session.specs.declared.request.Procedure.TheVariants.{Dbt, Repair, Proof, Least}
use Rattle.palm_session.specs.declared.request.Request.TheVariants.{Solve}
use Rattle.palm_session.specs.declared.taken.Taken.TheVariants.{ToSearch}
use Rattle.palm_session.specs.declared.ways.Searched.{Searched}
use Rattle.palm_session.specs.declared.ways.Searched.TheVariants.{Repair as RepairAnswer, Proof as ProofAnswer}
use Rattle.palm_session.proofs.InModes.{heard_held}
use Rattle.palm_session.proofs.Led.{has_run}
use Rattle.palm_session.proofs.Minimizing.{held_none, held_target, held_values}
use Rattle.palm_session.proofs.Searching.{search_in, searched_state}
use Rattle.palm_session.proofs.Solved.{IsLeftToReply, left_to_reply}
use Rattle.palm_session.proofs.cited.LawsOfAnswers.{answers_keep, read_admits}

-- ---- the loops

module _ {G O : Type 0} (guiding : Guiding G) (ordering : Ordering O) (guide_first guide_last : Option G) (order_first order_last : Option O) (book : Contents) (s : EngineState) (turns : List Turn) (t : EngineState) (was now : Option (List ℕ)) where
  pub repair_runs : (tabu budget : ℕ) (answer : RepairEnd) → now ≡ was → HasRepairedBy guiding ordering guide_first guide_last order_first order_last tabu budget s turns t answer
      → RunsTo guiding ordering guide_first guide_last order_first order_last (Repair tabu budget) book s turns (RepairAnswer answer) t was now
  repair_runs tabu budget answer same by = record {
    end = end_of answer;
    telling = InShort (Some by.repaired.dropped);
    runs = (answer, by, refl, refl);
    tells = (by.repaired.dropped, by.repaired.told, refl, refl);
    written = subst (λ (o : Option (List ℕ)). Appended was o []) (sym same) (appended_nothing was);
  }

  pub proof_runs : (budget : ℕ) (end : SearchEnd) → HasProved guiding ordering guide_first guide_last order_first order_last budget book s turns end t was now
      → RunsTo guiding ordering guide_first guide_last order_first order_last (Proof budget) book s turns ProofAnswer t was now
  proof_runs budget end has = record { end = end; telling = InFull has.text; runs = (has.text, has.proves, refl); tells = (has.text, refl); written = has.written }

-- the front that was written is that of some proof
pub writes_front : (stop : WriteStop) (guided ordered : Bool) (budget : ℕ) (book : Contents) (s : EngineState) (turns : List Turn) (was now : Option (List ℕ)) → IsValid s → HasOnlyUsers s
    → HasWrittenSoFar stop book guided ordered budget s turns was now → WritesProofFront stop guided ordered budget book s was now
writes_front stop guided ordered budget book s turns was now valid users has =
    let on = proofs_go_on guided ordered budget book s turns has.text valid users has.is in
    record { turns = on.0; end = on.1; after = on.2; text = on.3; proves = on.5; written = subst (λ (l : List ℕ). AppendedUntil stop was now l) (sym on.6) (stopped_in_first was now has.text on.4 has.written) }

-- ---- the desk

-- a search of a session can run
pub can_run : (s : SessionState) → IsHeld s → (by : Procedure) → CanSearch s by → CanRun s.engine by
can_run s is (Dbt budget) can = can
can_run s is (Repair tabu budget) can = can
can_run s is (Proof budget) can = can
can_run s is (Least target budget) can = (held_none s is, held_target s is target can, held_values s is target can)

module _ (s : SessionState) (is : IsHeld s) (was now : Option (List ℕ)) where
  -- a search that nothing was written of
  unbegun : (stop : WriteStop) (by : Procedure) → CanSearch s by → (stop ≡ NoMemory) × (now ≡ was) → HasToldFront stop s by was now
  unbegun stop by can nothing =
      let p = search_in s is by can in
      let t = with_search s p.turns p.engine in
      let text = told_text t.book p.end p.telling in
      record {
        end = p.end;
        telling = p.telling;
        after = t;
        run = record { turns = p.turns; engine = p.engine; searches = p.searches; after = refl };
        written = subst (λ (x : WriteStop). AppendedUntil x was now text) (sym nothing.0) (subst (λ (o : Option (List ℕ)). AppendedUntil NoMemory was o text) (sym nothing.1) (stopped_at_once was text));
      }

  stopped_told : (stop : WriteStop) (by : Procedure) → CanSearch s by → StopsSo stop (is_some s.guide) (is_some s.order) by s.book s.engine was now → HasToldFront stop s by was now
  stopped_told stop (Dbt budget) can nothing = unbegun stop (Dbt budget) can nothing
  stopped_told stop (Repair tabu budget) can nothing = unbegun stop (Repair tabu budget) can nothing
  stopped_told stop (Least target budget) can nothing = unbegun stop (Least target budget) can nothing
  stopped_told stop (Proof budget) can writes =
      let searches : SearchesByProof s budget writes.turns writes.end (InFull writes.text) writes.after = record { text = writes.text; proves = writes.proves; told = refl } in
      record {
        end = writes.end;
        telling = InFull writes.text;
        after = with_search s writes.turns writes.after;
        run = record { turns = writes.turns; engine = writes.after; searches = searches; after = refl };
        written = writes.written;
      }

pub desk_stopped : {G O T : Type 0} (mode : Mode) (book : Contents) (weights : List Weight) (engine : View) (added : ℕ) (paused : Bool) (guides : ObjectsView G) (orders : ObjectsView O) (searching : SearchView) (d : DeskView G O)
    → desk_of mode book weights engine added paused guides orders searching ≡ d → IsHeld d.state → (by : Procedure) → CanSearch d.state by → (was now : Option (List ℕ)) (r : Result T WriteStop)
    → IfErr r (λ stop. StopsSo stop (is_some guides.chosen) (is_some orders.chosen) by book engine.state was now) → IfErr r (λ stop. HasToldFront stop d.state by was now)
desk_stopped mode book weights engine added paused guides orders searching d is held by can was now (Ok x) stops = tt
desk_stopped {G = G} {O = O} mode book weights engine added paused guides orders searching d is held by can was now (Err stop) stops =
    stopped_told d.state held was now stop by can
    (subst (λ (z : DeskView G O). StopsSo stop (is_some z.state.guide) (is_some z.state.order) by z.state.book z.state.engine was now) is stops)

-- ---- the reply

module _ {G O : Type 0} (guiding : Guiding G) (ordering : Ordering O) (s : SessionState) (by : Procedure) (was mid : Option (List ℕ)) (answer : Searched) (before : HeldObjects G O) (t : SessionState) (after : HeldObjects G O)
    (is : IsHeld s) (has : HasSearched guiding ordering s by was mid answer before t after) where
  ran : HasRun s by has.end has.telling t
  ran = has_run guiding ordering s before t after by has.end has.telling has.run

  left : IsLeftToReply t answer has.end has.telling
  left = left_to_reply s t is by answer has.end has.telling ran has.tells

  pub still_held : IsHeld t
  still_held = subst IsHeld (sym ran.after) (searched_state s by ran.turns has.end has.telling ran.engine is ran.searches).held

  pub reply_fits : ReplyFits t (reply_of answer)
  reply_fits = left.fits

  all_told : (now : Option (List ℕ)) → Appended mid now (reply_text t (reply_of answer)) → HasTold guiding ordering s by was now before t after
  all_told now written = record {
    end = has.end;
    telling = has.telling;
    run = has.run;
    written = subst (λ (l : List ℕ). Appended was now l) (sym left.told) (appended_both was mid now (written_of has.telling) (reply_text t (reply_of answer)) has.written written);
  }

  front_told : (now : Option (List ℕ)) (stop : WriteStop) → AppendedUntil stop mid now (reply_text t (reply_of answer)) → HasToldFront stop s by was now
  front_told now stop written = record {
    end = has.end;
    telling = has.telling;
    after = t;
    run = ran;
    written = subst (λ (l : List ℕ). AppendedUntil stop was now l) (sym left.told) (stopped_in_second was mid now (written_of has.telling) (reply_text t (reply_of answer)) has.written written);
  }

  pub told_by : {E : Type 0} (now : Option (List ℕ)) (r : Result Unit E) → OnOk r (Appended mid now (reply_text t (reply_of answer))) → OnOk r (HasTold guiding ordering s by was now before t after)
  told_by now (Ok x) written = all_told now written
  told_by now (Err e) written = tt

  pub stopped_by : {T : Type 0} (now : Option (List ℕ)) (r : Result T WriteStop) → IfErr r (λ stop. AppendedUntil stop mid now (reply_text t (reply_of answer))) → IfErr r (λ stop. HasToldFront stop s by was now)
  stopped_by now (Ok x) written = tt
  stopped_by now (Err stop) written = front_told now stop written

-- ---- the line

module _ (s m : SessionState) (bytes : List ℕ) (by : Procedure) (state : IsState s) (to : LineBecomes s bytes m (ToSearch by)) where
  -- what is held where the search begins
  pub held_so_far : IsHeld m
  held_so_far = subst IsHeld (sym to.4) (heard_held s to.0 state.held)

  pub can_begin : CanSearch m by
  can_begin = subst (λ (z : SessionState). CanSearch z by) (sym to.4) (read_admits s.mode (heard s to.0) (heard_held s to.0 state.held) bytes to.0 (Solve by) to.1 to.2)

  search_answers : (end : SearchEnd) (telling : Telling) (t : SessionState) → HasRun m by end telling t → Answers s bytes (told_text t.book end telling) t
  search_answers end telling t run =
      let heard_run = subst (λ (z : SessionState). HasRun z by end telling t) to.4 run in
      accepted to.0 (Solve by) to.1 to.2
      (says (SearchedSo end telling) (λ waits. false≢true (sym to.3 ∙ waits.paused)) (heard s to.0, refl, (heard_run.turns, heard_run.engine, heard_run.searches, heard_run.after)) (λ c. c.contradictable) refl)

  pub told_front : (stop : WriteStop) (was now : Option (List ℕ)) → HasToldFront stop m by was now → AnswersFront stop s bytes was now
  told_front stop was now has = record {
    reply = told_text has.after.book has.end has.telling;
    after = has.after;
    answers = search_answers has.end has.telling has.after has.run;
    written = has.written;
  }

  module _ {G O : Type 0} (guiding : Guiding G) (ordering : Ordering O) (was now : Option (List ℕ)) (between : HeldObjects G O) (t : SessionState) (after : HeldObjects G O) (has : HasTold guiding ordering m by was now between t after) where
    abbrev reply : List ℕ
    reply = told_text t.book has.end has.telling

    told_answers : Answers s bytes reply t
    told_answers = search_answers has.end has.telling t (has_run guiding ordering m between t after by has.end has.telling has.run)

    pub told_line : (asked : ℕ) → GoesOn bytes → AnswersLine s bytes was now More t asked
    told_line asked goes = record {
      reply = reply;
      answers = told_answers;
      asks = asks_search (record { line = to.0; by = by; read = to.1; admitted = to.2; awake = to.3 });
      written = has.written;
      decides = goes;
    }

    pub told_state : IsState t
    told_state = answers_keep s bytes reply t state told_answers

    pub told_led : (before : HeldObjects G O) → between ≡ before → AnswersLead guiding ordering s bytes was now before t after
    told_led before same =
        let run : SearchesOn guiding ordering (heard s to.0) by has.end has.telling between t after =
        subst (λ (z : SessionState). SearchesOn guiding ordering z by has.end has.telling between t after) to.4 has.run in
        let leads : RequestLeads guiding ordering (heard s to.0) (Solve by) before reply t after = record {
          goes = λ waits. false≢true (sym to.3 ∙ waits.paused);
          changed = heard s to.0;
          changes = refl;
          effect = SearchedSo has.end has.telling;
          leads = subst (λ (z : HeldObjects G O). SearchesOn guiding ordering (heard s to.0) by has.end has.telling z t after) same run;
          told = inr ((λ c. c.contradictable), refl);
        } in
        record {
          reply = reply;
          answers = told_answers;
          leads = inr (Solve by, record { line = to.0; read = to.1; admitted = to.2 }, inr leads);
          written = has.written;
        }
