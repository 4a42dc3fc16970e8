-- What the objects were asked and told, and what is replied of it, from a call to the line that led to it.
use Rattle.std.proofs.Common.{◌≡◌, ℕ, Bool, List, Option, is_some, Result, Ok, Err, IfOk, inl, inr, refl, sym, ap, ◌∙◌, subst}
use Rattle.palm_base.specs.First.{IsFirst}
use Rattle.palm_base.proofs.cited.FirstCauses.{first_not_none}
use Rattle.palm_book.specs.Book.{Contents}
use Rattle.palm_engine.specs.Engine.{View}
use Rattle.palm_lang.specs.Reply.{fixed_text, refusal_text}
use Rattle.palm_lang.specs.declared.reply.Fixed.TheVariants.{Paused}
use Rattle.palm_lang.specs.declared.reply.Refusal.{Refusal}
use Rattle.palm_read.specs.Reading.{IsRead, IsRefusedBy}
use Rattle.palm_read.specs.declared.line.Line.{Line}
use Rattle.palm_read.specs.declared.parse.LineError.{LineError}
use Rattle.palm_read.proofs.cited.Parsing.{one_reading}
use Rattle.palm_best.specs.Ends.{Minimizes}
use Rattle.palm_repair.specs.Answers.{end_of}
use Rattle.palm_repair.specs.Repair.{Repairs}
use Rattle.palm_search.specs.Calls.{SearchView}
use Rattle.palm_search.specs.Search.{Searches as SearchesWhole}
use Rattle.palm_search.specs.declared.ending.SearchEnd.{SearchEnd}
use Rattle.proof_run.specs.Text.{Proves}
use Rattle.palm_read.specs.declared.mode.Mode.{Mode}
use Rattle.palm_prefer.specs.declared.weights.Weight.{Weight}
use Rattle.palm_session.specs.Answers.{WaitsFor}
use Rattle.palm_session.specs.Effects.{Effect, Nothing, Settled, Searched as SearchedSo, Telling, Next, Rests, Filters, Searches, SearchesByDbt, SearchesByRepair, SearchesByProof, SearchesByLeast, SearchesIn, Follows}
use Rattle.palm_session.specs.Led.{Guiding, Ordering, RunsBy, SearchesOn, LeadsOn, TakesLead, BecomesLead, HasRequest, LineLeads, LineBecomesLead}
use Rattle.palm_session.specs.Modes.{heard, misheard}
use Rattle.palm_session.specs.Objects.{ObjectsView, HeldObjects, LendsChosen, chosen_object}
use Rattle.palm_session.specs.Refusals.{Meets, in_order}
use Rattle.palm_session.specs.ReplyText.{IsRefusal}
use Rattle.palm_session.specs.Requests.{IsAdmitted}
use Rattle.palm_session.specs.Serving.{DeskView, desk_of, HasRun}
use Rattle.palm_session.specs.State.{SessionState}
use Rattle.palm_session.specs.Ways.{HasSearched, RunsTo}
use Rattle.palm_session.specs.declared.ways.Searched.{Searched}
use Rattle.palm_session.specs.declared.taken.Taken.{Taken}
use Rattle.palm_session.specs.declared.taken.Taken.TheVariants.{Said, ToSearch}
use Rattle.palm_session.specs.declared.request.Procedure.{Procedure}
use Rattle.palm_session.specs.declared.request.Procedure.TheVariants.{Dbt, Repair, Proof, Least}
use Rattle.palm_session.specs.declared.request.Request.{Request}
use Rattle.palm_session.proofs.Following.{lent_state}
use Rattle.palm_session.proofs.ReadOnce.{read_or_refused}

-- ---- the call of a desk

-- a search by lent objects, among what a desk holds
pub searched_led : {G O E : Type 0} (guiding : Guiding G) (ordering : Ordering O) (mode : Mode) (book : Contents) (weights : List Weight) (engine after : View) (accepted : ℕ) (paused : Bool) (guides others : ObjectsView G) (orders more : ObjectsView O) (search done : SearchView) (d : DeskView G O)
    → desk_of mode book weights engine accepted paused guides orders search ≡ d → LendsChosen guides others → LendsChosen orders more → (by : Procedure) (was now : Option (List ℕ)) (r : Result Searched E)
    → IfOk r (λ answer. RunsTo guiding ordering (chosen_object guides) (chosen_object others) (chosen_object orders) (chosen_object more) by book engine.state done.journal answer after.state was now)
    → IfOk r (λ answer. HasSearched guiding ordering d.state by was now answer d.objects (desk_of mode book weights after accepted paused others more done).state (desk_of mode book weights after accepted paused others more done).objects)
searched_led {G = G} {O = O} guiding ordering mode book weights engine after accepted paused guides others orders more search done d is one two by was now (Ok answer) to =
    let e = desk_of mode book weights after accepted paused others more done in
    subst (λ (z : DeskView G O). HasSearched guiding ordering z.state by was now answer z.objects e.state e.objects) is (record {
      end = to.end;
      telling = to.telling;
      run = record {
        runs = to.runs;
        chosen = record { guide = refl; order = refl };
        state = lent_state mode book weights engine after accepted paused guides others orders more search done one two;
        guides = one;
        orders = two;
      };
      tells = to.tells;
      written = to.written;
    })
searched_led guiding ordering mode book weights engine after accepted paused guides others orders more search done d is one two by was now (Err x) to = tt

-- ---- what led the objects is what happened

module _ {G O : Type 0} (guiding : Guiding G) (ordering : Ordering O) (s t : SessionState) (before after : HeldObjects G O) (guided : is_some (chosen_object before.guides) ≡ is_some s.guide) (ordered : is_some (chosen_object before.orders) ≡ is_some s.order) where
  -- objects are chosen where they are there
  as_chosen : (P : Bool → Bool → Type 0) → P (is_some (chosen_object before.guides)) (is_some (chosen_object before.orders)) → P (is_some s.guide) (is_some s.order)
  as_chosen P p = subst (λ (b : Bool). P b (is_some s.order)) guided (subst (λ (b : Bool). P (is_some (chosen_object before.guides)) b) ordered p)

  run_in : (by : Procedure) (end : SearchEnd) (telling : Telling) → RunsBy guiding ordering (chosen_object before.guides) (chosen_object after.guides) (chosen_object before.orders) (chosen_object after.orders) by s.book s.engine t.journal end telling t.engine
      → SearchesIn s by t.journal end telling t.engine
  run_in (Dbt budget) end telling run =
      let searches : SearchesByDbt s budget t.journal end telling t.engine = record {
        searches = as_chosen (λ g o. SearchesWhole g o budget s.engine t.journal end t.engine) run.0.searches;
        told = run.1;
      } in searches
  run_in (Repair tabu budget) end telling run =
      let dropped : ℕ = run.1.repaired.dropped in
      let ended = as_chosen (λ g o. Repairs g o tabu budget s.engine t.journal (end_of run.0) dropped t.engine) run.1.repaired.repairs in
      let searches : SearchesByRepair s tabu budget t.journal end telling t.engine = record {
        count = dropped;
        repairs = subst (λ (x : SearchEnd). Repairs (is_some s.guide) (is_some s.order) tabu budget s.engine t.journal x dropped t.engine) (sym run.2) ended;
        told = run.3;
      } in searches
  run_in (Proof budget) end telling run =
      let proves : Proves (is_some (chosen_object before.guides)) (is_some (chosen_object before.orders)) budget s.book s.engine t.journal end t.engine run.0 = record { searches = run.1.by.searches; writes = run.1.writes } in
      let searches : SearchesByProof s budget t.journal end telling t.engine = record {
        text = run.0;
        proves = as_chosen (λ g o. Proves g o budget s.book s.engine t.journal end t.engine run.0) proves;
        told = run.2;
      } in searches
  run_in (Least target budget) end telling run =
      let searches : SearchesByLeast s target budget t.journal end telling t.engine = record {
        best = run.0;
        minimizes = as_chosen (λ g o. Minimizes g o target budget s.engine t.journal run.0 t.engine) run.1.minimizes;
        ended = run.2;
        told = run.3;
      } in searches

module _ {G O : Type 0} (guiding : Guiding G) (ordering : Ordering O) (s : SessionState) (before : HeldObjects G O) (t : SessionState) (after : HeldObjects G O) where
  pub has_run : (by : Procedure) (end : SearchEnd) (telling : Telling) → SearchesOn guiding ordering s by end telling before t after → HasRun s by end telling t
  has_run by end telling on =
      let guided : is_some (chosen_object before.guides) ≡ is_some s.guide = on.guides.there ∙ ap (λ (o : Option ℕ). is_some o) (sym on.chosen.guide) in
      let ordered : is_some (chosen_object before.orders) ≡ is_some s.order = on.orders.there ∙ ap (λ (o : Option ℕ). is_some o) (sym on.chosen.order) in
      record { turns = t.journal; engine = t.engine; searches = run_in guiding ordering s t before after guided ordered by end telling on.runs; after = on.state }

  pub leads_follow : (what : Next) (effect : Effect) → LeadsOn guiding ordering s what effect before t after → Follows s what effect t
  leads_follow Rests Nothing led = led.0
  leads_follow Rests (Settled count) led = absurd led
  leads_follow Rests (SearchedSo end telling) led = absurd led
  leads_follow (Filters limit) Nothing led = absurd led
  leads_follow (Filters limit) (Settled count) led = (t.engine, led.settles, led.state)
  leads_follow (Filters limit) (SearchedSo end telling) led = absurd led
  leads_follow (Searches by) Nothing led = absurd led
  leads_follow (Searches by) (Settled count) led = absurd led
  leads_follow (Searches by) (SearchedSo end telling) led = let run = has_run by end telling led in (run.turns, run.engine, run.searches, run.after)

-- ---- requests

pub waits_led : {G O : Type 0} (guiding : Guiding G) (ordering : Ordering O) (s : SessionState) (request : Request) (objects : HeldObjects G O) → WaitsFor s request
    → TakesLead guiding ordering s request objects (fixed_text Paused) s objects
waits_led guiding ordering s request objects waits = inl (record { waits = waits; told = refl; state = refl; objects = refl })

-- ---- lines

-- a line that cannot be read is admitted with no request
misread_none : (s : SessionState) (bytes : List ℕ) (error : LineError) (taken : Taken) → IsRefusedBy s.mode bytes error → IsRefusal error taken → (request : Request) → HasRequest s bytes request → ⊥
misread_none s bytes error taken refused is request has = read_or_refused s.mode bytes has.line error is.refusal has.read refused is.of_error

-- nor is one that meets a refusal
refused_none : (s : SessionState) (bytes : List ℕ) (line : Line) (refusal : Refusal) → IsRead s.mode bytes line → IsFirst (Meets (heard s line) line) in_order refusal → (request : Request) → HasRequest s bytes request → ⊥
refused_none s bytes line refusal read first request has =
    let same : line ≡ has.line = one_reading s.mode s.mode bytes line has.line read has.read in
    first_not_none (Meets (heard s has.line) has.line) in_order refusal (subst (λ (l : Line). IsFirst (Meets (heard s l) l) in_order refusal) same first) has.admitted.none

module _ {G O : Type 0} (guiding : Guiding G) (ordering : Ordering O) (s : SessionState) (bytes : List ℕ) (objects : HeldObjects G O) where
  pub misread_led : {E : Type 0} (error : LineError) (r : Result Taken E) → IsRefusedBy s.mode bytes error → IfOk r (IsRefusal error) → IfOk r (LineBecomesLead guiding ordering s bytes objects (misheard s) objects)
  misread_led error (Ok taken) refused is = subst (λ (x : Taken). LineBecomesLead guiding ordering s bytes objects (misheard s) objects x) (sym is.is) (inl (misread_none s bytes error taken refused is, refl))
  misread_led error (Err e) refused is = tt

  pub refused_led : (line : Line) (refusal : Refusal) → IsRead s.mode bytes line → IsFirst (Meets (heard s line) line) in_order refusal → LineLeads guiding ordering s bytes objects (refusal_text refusal) (heard s line) objects
  refused_led line refusal read first = inl (refused_none s bytes line refusal read first, refl)

  pub becomes_led : (line : Line) (request : Request) (t : SessionState) (after : HeldObjects G O) → IsRead s.mode bytes line → IsAdmitted (heard s line) line request → (taken : Taken)
      → BecomesLead guiding ordering (heard s line) request objects t after taken → LineBecomesLead guiding ordering s bytes objects t after taken
  becomes_led line request t after read admitted (Said reply going) takes = inr (request, record { line = line; read = read; admitted = admitted }, takes)
  becomes_led line request t after read admitted (ToSearch by) same = same
