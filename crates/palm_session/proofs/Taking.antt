-- A request that was obeyed, and of which what was left is done, does what it asks for.
use Rattle.std.proofs.Common.{◌≡◌, ℕ, Bool, true, false, List, inl, inr, refl, sym, ap, ◌∙◌, subst}
use Rattle.palm_base.specs.Tells.{Tells}
use Rattle.palm_base.proofs.cited.Telling.{tells_false, tells_true}
use Rattle.palm_lang.specs.Reply.{fixed_text, ran_text}
use Rattle.palm_session.specs.declared.going.Going.{Going}
use Rattle.palm_session.specs.declared.going.Going.TheVariants.{More, Quit}
use Rattle.palm_session.specs.declared.remainder.Own.{Own}
use Rattle.palm_session.specs.declared.remainder.Own.TheVariants.{Said, Answer, Search as ToRun}
use Rattle.palm_session.specs.declared.remainder.Remainder.{Remainder}
use Rattle.palm_session.specs.declared.remainder.Remainder.TheVariants.{Say, Filter, Run, Search, End}
use Rattle.palm_session.specs.declared.reply.Reply.{Reply}
use Rattle.palm_session.specs.declared.reply.Reply.TheVariants.{Word}
use Rattle.palm_session.specs.declared.request.Procedure.{Procedure}
use Rattle.palm_session.specs.declared.request.Question.{Question}
use Rattle.palm_session.specs.declared.request.Request.{Request}
use Rattle.palm_session.specs.declared.request.Request.TheVariants.{Ask, Step, Solve, Quit as QuitAsked}
use Rattle.palm_session.specs.declared.taken.Taken.{Taken}
use Rattle.palm_lang.specs.declared.reply.Fixed.TheVariants.{Paused, Contradiction}
use Rattle.palm_session.specs.Answers.{IsAnswer, IsPausable, IsContradictable, Contradicts, Says, WaitsFor, waits, contradicts, says}
use Rattle.palm_session.specs.Effects.{Effect, Nothing, Settled, Changes, Does, Follows, Next, Rests, next}
use Rattle.palm_session.specs.Led.{BecomesLead, Guiding, Ordering, IsReply, LeadsOn, TakesLead, objects_after}
use Rattle.palm_session.specs.Objects.{HeldObjects}
use Rattle.palm_session.specs.ReplyText.{reply_text, ReplyFits}
use Rattle.palm_session.specs.Requests.{Admits, CanAsk}
use Rattle.palm_session.specs.Serving.{AsksWithin, AsksFor, asks_nothing, asks_after, Becomes, CanSay, GoesAs, IsDone, IsLeft, IsOwn, IsSaid, Obeys, Takes}
use Rattle.palm_session.specs.State.{SessionState, IsContradiction, IsState}
use Rattle.palm_session.proofs.Led.{leads_follow}
use Rattle.palm_session.proofs.cited.LawsOfStates.{does_keeps, rests_same}

-- what the request did, from the objects that its change left, and what is to be said of it
pub record HasDone {G O : Type 0} (guiding : Guiding G) (ordering : Ordering O) (s : SessionState) (request : Request) (before : HeldObjects G O) (t : SessionState) (after : HeldObjects G O) (asked : ℕ) (own : Own) : Type 0 where
  pub changed : SessionState
  pub changes : Changes s request changed
  pub effect : Effect
  pub leads : LeadsOn guiding ordering changed (next changed request) effect before t after
  pub asks : AsksWithin changed.engine (next changed request) t.engine asked
  pub owns : IsOwn t request effect own

module _ {G O : Type 0} (guiding : Guiding G) (ordering : Ordering O) (s m : SessionState) (before : HeldObjects G O) (t : SessionState) (after : HeldObjects G O) (asked : ℕ) (own : Own) where
  said_done : (request : Request) (first : Own) → Obeys s request m (Say first) → IsDone guiding ordering m (Say first) before t after asked own → HasDone guiding ordering s request before t after asked own
  said_done request first o d = record {
    changed = m;
    changes = o.changes;
    effect = Nothing;
    leads = subst (λ (n : Next). LeadsOn guiding ordering m n Nothing before t after) (sym o.left.0) (d.0, d.1);
    asks = subst (λ (n : Next). AsksWithin m.engine n t.engine asked) (sym o.left.0) d.2;
    owns = subst (λ (z : SessionState). IsOwn z request Nothing own) (sym d.0) (subst (λ (o : Own). IsOwn m request Nothing o) (sym d.3) o.left.1);
  }

  filter_done : (request : Request) → Obeys s request m Filter → IsDone guiding ordering m Filter before t after asked own → HasDone guiding ordering s request before t after asked own
  filter_done request o d = record {
    changed = m;
    changes = o.changes;
    effect = d.0.effect;
    leads = subst (λ (n : Next). LeadsOn guiding ordering m n d.0.effect before t after) (sym o.left.0) d.0.leads;
    asks = subst (λ (n : Next). AsksWithin m.engine n t.engine asked) (sym o.left.0) d.0.asks;
    owns = subst (λ (o : Own). IsOwn t request d.0.effect o) (sym d.1) (o.left.1 t d.0.effect, tt);
  }

  step_done : (count : ℕ) → Changes s (Step count) m → IsDone guiding ordering m (Run count) before t after asked own → HasDone guiding ordering s (Step count) before t after asked own
  step_done count changes d =
      let ran = d.1.ran in
      record {
        changed = m;
        changes = changes;
        effect = Settled ran.count;
        leads = ran.filters;
        asks = ran.asks;
        owns = subst (λ (o : Own). IsOwn t (Step count) (Settled ran.count) o) (sym d.2) (ap (λ (n : ℕ). ran_text n) d.1.all, tt);
      }

  quit_done : Changes s QuitAsked m → IsDone guiding ordering m End before t after asked own → HasDone guiding ordering s QuitAsked before t after asked own
  quit_done changes d = record {
    changed = m;
    changes = changes;
    effect = Nothing;
    leads = (d.0, d.1);
    asks = d.2;
    owns = subst (λ (o : Own). IsOwn t QuitAsked Nothing o) (sym d.3) (refl, tt);
  }

-- what the request did; or it is a search that is to run, and nothing has happened
abbrev pub WasCarriedOut : {G O : Type 0} → Guiding G → Ordering O → SessionState → Request → HeldObjects G O → SessionState → HeldObjects G O → ℕ → Own → Type 0
WasCarriedOut guiding ordering s request before t after asked (Said reply) = HasDone guiding ordering s request before t after asked (Said reply)
WasCarriedOut guiding ordering s request before t after asked (Answer question) = HasDone guiding ordering s request before t after asked (Answer question)
WasCarriedOut guiding ordering s request before t after asked (ToRun by) = (request ≡ Solve by) × (t ≡ s) × (after ≡ before) × (asked ≡ 0)

module _ {G O : Type 0} (guiding : Guiding G) (ordering : Ordering O) (s m : SessionState) (before : HeldObjects G O) (t : SessionState) (after : HeldObjects G O) (asked : ℕ) where
  was_done : (request : Request) (own : Own) → HasDone guiding ordering s request before t after asked own → WasCarriedOut guiding ordering s request before t after asked own
  was_done request (Said reply) done = done
  was_done request (Answer question) done = done
  was_done request (ToRun by) done = absurd done.owns

  pub carried_out : (own : Own) (request : Request) (remainder : Remainder) → Obeys s request m remainder → IsDone guiding ordering m remainder before t after asked own → WasCarriedOut guiding ordering s request before t after asked own
  carried_out own request (Say first) o d = was_done request own (said_done guiding ordering s m before t after asked own request first o d)
  carried_out own request Filter o d = was_done request own (filter_done guiding ordering s m before t after asked own request o d)
  carried_out own request (Run count) o d =
      let done = step_done guiding ordering s m before t after asked own count (subst (λ (r : Request). Changes s r m) o.left o.changes) d in
      was_done request own (subst (λ (r : Request). HasDone guiding ordering s r before t after asked own) (sym o.left) done)
  carried_out own request (Search by) o d =
      let same : m ≡ s = subst (λ (r : Request). Changes s r m) o.left o.changes in
      subst (λ (w : Own). WasCarriedOut guiding ordering s request before t after asked w) (sym d.3) (o.left, d.0 ∙ same, d.1, d.2)
  carried_out own request End o d =
      let done = quit_done guiding ordering s m before t after asked own (subst (λ (r : Request). Changes s r m) o.left o.changes) d in
      was_done request own (subst (λ (r : Request). HasDone guiding ordering s r before t after asked own) (sym o.left) done)

-- ---- whether the session goes on

pub goes_on : (s : SessionState) (request : Request) (m : SessionState) (remainder : Remainder) (going : Going) → Obeys s request m remainder → (going ≡ Quit → remainder ≡ End)
    → (going ≡ More → remainder ≡ End → ⊥) → GoesAs going request
goes_on s request m remainder More o quit more = λ e. more refl (o.ends e)
goes_on s request m remainder Quit o quit more = subst (λ (r : Remainder). IsLeft m request r) (quit refl) o.left

-- a request that waits does not end the session
pub waiting_goes : (s : SessionState) (request : Request) → WaitsFor s request → request ≡ QuitAsked → ⊥
waiting_goes s request w e = subst (λ (r : Request). IsPausable r) e w.pausable

-- ---- whether a contradiction is told

tells_so : (P : Type 0) (b : Bool) → Tells b P → P → b ≡ true
tells_so P true p q = refl
tells_so P false n q = absurd (n q)

module _ (t : SessionState) (request : Request) (told b : Bool) (table : Tells told (IsContradictable request)) (tells : Tells b ((told ≡ true) × IsContradiction t)) where
  pub contradicts_of : b ≡ true → Contradicts t request
  contradicts_of e =
      let h = tells_true ((told ≡ true) × IsContradiction t) b tells e in
      record { contradiction = h.1; contradictable = tells_true (IsContradictable request) told table h.0 }

  pub quiet_of : b ≡ false → Contradicts t request → ⊥
  quiet_of e k = tells_false ((told ≡ true) × IsContradiction t) b tells e (tells_so (IsContradictable request) told table k.contradictable, k.contradiction)

-- ---- replies

pub takes_paused : (s : SessionState) (request : Request) (asked : ℕ) → asked ≡ 0 → WaitsFor s request → Takes s request s asked (Word Paused, More)
takes_paused s request asked none w = record { accepts = waits w; asks = asks_nothing none; fits = tt; goes = λ e. waiting_goes s request w e }

module _ {G O : Type 0} (guiding : Guiding G) (ordering : Ordering O) (s : SessionState) (request : Request) (between : HeldObjects G O) (t : SessionState) (after : HeldObjects G O) (asked : ℕ)
    (is : IsState s) (can : Admits s request) (goes : WaitsFor s request → ⊥) where
  -- what was done, and is said
  module _ (own : Own) (done : HasDone guiding ordering s request between t after asked own) where
    does : Does s request done.effect t
    does = (done.changed, done.changes, leads_follow guiding ordering done.changed between t after (next done.changed request) done.effect done.leads)

    keeps : IsState t
    keeps = does_keeps s request done.effect t is can does

    asks : AsksFor s request t asked
    asks = asks_after done.changed goes done.changes done.asks

    -- the objects that the change left were led, and the reply tells of it
    leads_so : (before : HeldObjects G O) (reply : List ℕ) → between ≡ objects_after request before → IsReply t request done.effect reply → TakesLead guiding ordering s request before reply t after
    leads_so before reply same told = inr (record {
      goes = goes;
      changed = done.changed;
      changes = done.changes;
      effect = done.effect;
      leads = subst (λ (o : HeldObjects G O). LeadsOn guiding ordering done.changed (next done.changed request) done.effect o t after) same done.leads;
      told = told;
    })

    contradicts_so : (going : Going) → GoesAs going request → Contradicts t request → Takes s request t asked (Word Contradiction, going)
    contradicts_so going on c = record { accepts = contradicts done.effect goes does c; asks = asks; fits = tt; goes = on }

    says_so : (quiet : Contradicts t request → ⊥) (reply : Reply) (going : Going) → GoesAs going request → Says t request done.effect (reply_text t reply) → ReplyFits t reply → Takes s request t asked (reply, going)
    says_so quiet reply going on said fits = record { accepts = says done.effect goes does quiet said; asks = asks; fits = fits; goes = on }

  -- a question that is left can be answered
  can_answer : (question : Question) → HasDone guiding ordering s request between t after asked (Answer question) → (Contradicts t request → ⊥) → CanSay t (Answer question)
  can_answer question done quiet =
      let e : request ≡ Ask question = done.owns in
      let left : Changes s (Ask question) done.changed = subst (λ (r : Request). Changes s r done.changed) e done.changes in
      let rests : Follows done.changed Rests done.effect t = subst (λ (r : Request). Follows done.changed (next done.changed r) done.effect t) e (leads_follow guiding ordering done.changed between t after (next done.changed request) done.effect done.leads) in
      let same : t ≡ s = rests_same done.changed done.effect t rests ∙ left in
      let asked_there : CanAsk s question = subst (λ (r : Request). Admits s r) e can in (
        subst (λ (z : SessionState). CanAsk z question) (sym same) asked_there,
        record {
          goes = λ w. goes (subst (λ (r : Request). WaitsFor s r) (sym e) (subst (λ (z : SessionState). WaitsFor z (Ask question)) same w));
          calm = λ c. quiet (subst (λ (r : Request). Contradicts t r) (sym e) c);
        },
      )

  -- no search is contradicted
  unsaid : (by : Procedure) → request ≡ Solve by → Contradicts t request → ⊥
  unsaid by e c = subst (λ (r : Request). IsContradictable r) e c.contradictable

  pub keeps_state : (own : Own) → WasCarriedOut guiding ordering s request between t after asked own → IsState t
  keeps_state (Said reply) done = keeps (Said reply) done
  keeps_state (Answer question) done = keeps (Answer question) done
  keeps_state (ToRun by) idle = subst IsState (sym idle.1) is

  pub takes_contradiction : (own : Own) → WasCarriedOut guiding ordering s request between t after asked own → (going : Going) → GoesAs going request → Contradicts t request → Takes s request t asked (Word Contradiction, going)
  takes_contradiction (Said reply) done going on c = contradicts_so (Said reply) done going on c
  takes_contradiction (Answer question) done going on c = contradicts_so (Answer question) done going on c
  takes_contradiction (ToRun by) idle going on c = absurd (unsaid by idle.0 c)

  pub leads_contradiction : (own : Own) → WasCarriedOut guiding ordering s request between t after asked own → (before : HeldObjects G O) → between ≡ objects_after request before → Contradicts t request
      → TakesLead guiding ordering s request before (fixed_text Contradiction) t after
  leads_contradiction (Said reply) done before same c = leads_so (Said reply) done before (fixed_text Contradiction) same (inl (c, refl))
  leads_contradiction (Answer question) done before same c = leads_so (Answer question) done before (fixed_text Contradiction) same (inl (c, refl))
  leads_contradiction (ToRun by) idle before same c = absurd (unsaid by idle.0 c)

  module _ (quiet : Contradicts t request → ⊥) where
    pub can_say : (own : Own) → WasCarriedOut guiding ordering s request between t after asked own → CanSay t own
    can_say (Said reply) done = tt
    can_say (Answer question) done = can_answer question done quiet
    can_say (ToRun by) idle = tt

    answers_own : (question : Question) (done : HasDone guiding ordering s request between t after asked (Answer question)) (reply : Reply) → IsAnswer t question (reply_text t reply) → Says t request done.effect (reply_text t reply)
    answers_own question done reply answered =
        let e : request ≡ Ask question = done.owns in
        subst (λ (r : Request). Says t r done.effect (reply_text t reply)) (sym e) answered

    pub becomes_own : (own : Own) → WasCarriedOut guiding ordering s request between t after asked own → (going : Going) → GoesAs going request → (taken : Taken) → IsSaid t own going taken → Becomes s request t asked taken
    becomes_own (Said reply) done going on taken said =
        subst (λ (x : Taken). Becomes s request t asked x) (sym said) (says_so (Said reply) done quiet reply going on done.owns.0 done.owns.1)
    becomes_own (Answer question) done going on taken said =
        subst (λ (x : Taken). Becomes s request t asked x) (sym said.3) (says_so (Answer question) done quiet said.0 going on (answers_own question done said.0 said.1) said.2)
    becomes_own (ToRun by) idle going on taken said =
        subst (λ (x : Taken). Becomes s request t asked x) (sym said) (record { is = idle.0; goes = goes; same = idle.1; quiet = idle.3 })

    pub leads_own : (own : Own) → WasCarriedOut guiding ordering s request between t after asked own → (going : Going) (before : HeldObjects G O) → between ≡ objects_after request before → (taken : Taken) → IsSaid t own going taken
        → BecomesLead guiding ordering s request before t after taken
    leads_own (Said reply) done going before same taken said =
        subst (λ (x : Taken). BecomesLead guiding ordering s request before t after x) (sym said) (leads_so (Said reply) done before (reply_text t reply) same (inr (quiet, done.owns.0)))
    leads_own (Answer question) done going before same taken said =
        subst (λ (x : Taken). BecomesLead guiding ordering s request before t after x) (sym said.3)
        (leads_so (Answer question) done before (reply_text t said.0) same (inr (quiet, answers_own question done said.0 said.1)))
    leads_own (ToRun by) idle going before same taken said =
        subst (λ (x : Taken). BecomesLead guiding ordering s request before t after x) (sym said)
        (idle.2 ∙ same ∙ ap (λ (r : Request). objects_after r before) idle.0)
