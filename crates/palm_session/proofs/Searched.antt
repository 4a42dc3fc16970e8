-- What a search tells, and what it leaves.
use Rattle.std.proofs.Common.{◌≡◌, ℕ, ◌≤◌, true, is_some, List, ◌++◌, Option, None, Some, refl, sym, ap, ◌∙◌, subst, append_assoc}
use Rattle.palm_model.specs.State.{EngineState}
use Rattle.palm_events.specs.Along.{IsStill}
use Rattle.palm_events.specs.Scoped.{HasScopedReasons}
use Rattle.palm_search.specs.declared.turn.Turn.{Turn}
use Rattle.palm_book.specs.Book.{Contents}
use Rattle.palm_lang.specs.Reply.{fixed_text, found_line, spent_line}
use Rattle.palm_lang.specs.declared.reply.Fixed.TheVariants.{End, Paused}
use Rattle.palm_lang.specs.declared.reply.Lead.TheVariants.{NoSolution as NoSolutionLead}
use Rattle.proof_run.proofs.cited.Accepting.{proofs_are_accepted}
use Rattle.proof_run.specs.Accepted.{IsAcceptedAtNone}
use Rattle.proof_run.specs.Text.{Proves, declarations}
use Rattle.palm_session.specs.State.{SessionState, IsHeld, IsState}
use Rattle.palm_search.specs.declared.ending.SearchEnd.{SearchEnd}
use Rattle.palm_search.specs.declared.ending.SearchEnd.TheVariants.{Found, NoSolution, Spent}
use Rattle.palm_session.specs.declared.request.Procedure.{Procedure}
use Rattle.palm_session.specs.declared.request.Procedure.TheVariants.{Dbt, Repair, Proof, Least}
use Rattle.palm_session.specs.declared.request.Request.{Request}
use Rattle.palm_session.specs.declared.request.Request.TheVariants.{Solve}
use Rattle.palm_session.specs.Effects.{Telling, InShort, Effect, Nothing, Settled, Searched, Changes, Searches, next, SearchesIn, Follows, best_end, with_search}
use Rattle.palm_session.specs.Answers.{WaitsFor, Accepts, waits, contradicts, says, Says, end_text, told_text, users_text}
use Rattle.palm_session.specs.Told.{ClosesWith, KeepsAllButJournal, MaySpendSo, ToldAccepted, ToldBy, ToldProof, ToldSearch}
use Rattle.palm_session.specs.Told.ToldAccepted.{accepted_end, accepted_paused}
use Rattle.palm_session.specs.Told.ToldLeast.{best_paused}
use Rattle.palm_session.specs.Told.ToldProof.{proof_found, proof_none, proof_paused, proof_spent}
use Rattle.palm_session.specs.Told.ToldSearch.{search_paused, search_found, search_none, search_spent}
use Rattle.palm_session.proofs.cited.LawsOfAnswers.{awake_for}
use Rattle.palm_session.proofs.cited.LawsOfChanges.{searches_by}
use Rattle.palm_session.proofs.Minimizing.{best_told}
use Rattle.palm_session.proofs.Searching.{end_holds, least_holds, search_leaves_still, search_log, spent_small}

-- ---- what a search begins in

-- it begins in what is at rest
pub still_before : (s m : SessionState) (request : Request) → IsState s → (WaitsFor s request → ⊥) → Changes s request m → (by : Procedure) → next m request ≡ Searches by → IsStill m.engine
still_before s m request is goes h by e =
    let is_search = searches_by m request by e in
    let same : m ≡ s = subst (λ (r : Request). Changes s r m) is_search h in
    let awake = awake_for s (Solve by) tt (subst (λ (r : Request). WaitsFor s r → ⊥) is_search goes) in
    subst (λ (z : SessionState). IsStill z.engine) (sym same) (is.still awake)

-- ---- what is told of an end

short_told : (s : SessionState) → IsHeld s → (by : Procedure) (turns : List Turn) (end : SearchEnd) (dropped : Option ℕ) (e : EngineState) (reply : List ℕ) → SearchesIn s by turns end (InShort dropped) e
    → reply ≡ end_text s.book end dropped → ToldSearch s by reply
short_told s is by turns (Found values) dropped e reply search r = search_found values (end_holds s is by turns (Found values) (InShort dropped) e search).0 r
short_told s is by turns (NoSolution users) dropped e reply search r = search_none users (end_holds s is by turns (NoSolution users) (InShort dropped) e search) r
short_told s is by turns (Spent count) dropped e reply search r =
    let small = spent_small s is by turns e count (InShort dropped) search in
    search_spent dropped small.1 (r ∙ ap (λ (n : ℕ). spent_line n dropped) small.0)

-- the last line of a proof, and `end`
closes_so : (reply before after conclusion line : List ℕ) → reply ≡ before ++ after ++ conclusion → conclusion ≡ line ++ fixed_text End → ClosesWith reply line
closes_so reply before after conclusion line is ends =
    record { front = before ++ after; is = is ∙ ap (λ (t : List ℕ). before ++ after ++ t) ends ∙ sym (append_assoc (before ++ after) line (fixed_text End)) }

-- the same behind the last lemma
closes_behind : (reply before after conclusion lemma line : List ℕ) → reply ≡ before ++ after ++ conclusion → conclusion ≡ lemma ++ line ++ fixed_text End → ClosesWith reply line
closes_behind reply before after conclusion lemma line is ends =
    record {
      front = before ++ after ++ lemma;
      is =
          is ∙ ap (λ (t : List ℕ). before ++ after ++ t) ends ∙ sym (append_assoc (before ++ after) (lemma ++ line) (fixed_text End))
          ∙ ap (λ (t : List ℕ). t ++ fixed_text End) (sym (append_assoc (before ++ after) lemma line));
    }

-- how a proof closes
proof_closes : (s : SessionState) (budget : ℕ) (turns : List Turn) (end : SearchEnd) (e : EngineState) (text : List ℕ) → Proves (is_some s.guide) (is_some s.order) budget s.book s.engine turns end e text → ClosesWith text (end_text s.book end None)
proof_closes s budget turns (Found values) e text proves =
    let w = proves.writes in closes_so text (declarations s.book) w.argued.lemmas w.conclusion (found_line s.book.variables values) w.is w.concludes
proof_closes s budget turns (NoSolution users) e text proves =
    let w = proves.writes in closes_behind text (declarations s.book) w.argued.lemmas w.conclusion w.concludes.1 (users_text s.book NoSolutionLead users) w.is w.concludes.3
proof_closes s budget turns (Spent count) e text proves =
    let w = proves.writes in closes_so text (declarations s.book) w.argued.lemmas w.conclusion (spent_line count None) w.is w.concludes

full_told : (s : SessionState) → IsHeld s → (budget : ℕ) (turns : List Turn) (end : SearchEnd) (telling : Telling) (e : EngineState) (reply : List ℕ) → SearchesIn s (Proof budget) turns end telling e
    → ClosesWith reply (end_text s.book end None) → ToldProof s budget reply
full_told s is budget turns (Found values) telling e reply search closes = proof_found values (end_holds s is (Proof budget) turns (Found values) telling e search).0 closes
full_told s is budget turns (NoSolution users) telling e reply search closes = proof_none users (end_holds s is (Proof budget) turns (NoSolution users) telling e search) closes
full_told s is budget turns (Spent count) telling e reply search closes =
    let small = spent_small s is (Proof budget) turns e count telling search in
    proof_spent (subst (λ (d : Telling). MaySpendSo s.book (Proof budget) d) search.told small.1) (subst (λ (n : ℕ). ClosesWith reply (spent_line n None)) small.0 closes)

-- what is told is the text of the proof
told_in_full : (s : SessionState) (budget : ℕ) (turns : List Turn) (end : SearchEnd) (telling : Telling) (e : EngineState) (reply : List ℕ) → (search : SearchesIn s (Proof budget) turns end telling e)
    → reply ≡ told_text s.book end telling → reply ≡ search.text
told_in_full s budget turns end telling e reply search r = r ∙ ap (λ (z : Telling). told_text s.book end z) search.told

end_told : (s : SessionState) → IsHeld s → (by : Procedure) (turns : List Turn) (end : SearchEnd) (telling : Telling) (e : EngineState) (reply : List ℕ) → SearchesIn s by turns end telling e
    → reply ≡ told_text s.book end telling → ToldBy s by reply
end_told s is (Dbt budget) turns end telling e reply search r =
    short_told s is (Dbt budget) turns end None e reply (subst (λ (z : Telling). SearchesIn s (Dbt budget) turns end z e) search.told search) (r ∙ ap (λ (z : Telling). told_text s.book end z) search.told)
end_told s is (Repair tabu budget) turns end telling e reply search r =
    short_told s is (Repair tabu budget) turns end (Some search.count) e reply (subst (λ (z : Telling). SearchesIn s (Repair tabu budget) turns end z e) search.told search)
    (r ∙ ap (λ (z : Telling). told_text s.book end z) search.told)
end_told s is (Proof budget) turns end telling e reply search r =
    full_told s is budget turns end telling e reply search
    (subst (λ (t : List ℕ). ClosesWith t (end_text s.book end None)) (sym (told_in_full s budget turns end telling e reply search r)) (proof_closes s budget turns end e search.text search.proves))
end_told s is (Least target budget) turns end telling e reply search r =
    best_told s target budget search.best reply (least_holds s is target budget turns end telling e search)
    (r ∙ ap (λ (z : SearchEnd). told_text s.book z telling) search.ended ∙ ap (λ (z : Telling). told_text s.book (best_end search.best) z) search.told)

-- where the end is that there is no solution, the proof is accepted
none_accepted : (s : SessionState) → IsHeld s → HasScopedReasons s.engine → (budget : ℕ) → budget ≤ 18446744073709551615 → (turns : List Turn) (end : SearchEnd) (e : EngineState) (text : List ℕ)
    → Proves (is_some s.guide) (is_some s.order) budget s.book s.engine turns end e text → IsAcceptedAtNone s.book end text
none_accepted s is scoped budget few turns (NoSolution users) e text proves =
    proofs_are_accepted (is_some s.guide) (is_some s.order) budget s.book s.engine turns users e text is.book is.valid is.initial is.active scoped few proves
none_accepted s is scoped budget few turns (Found values) e text proves = tt
none_accepted s is scoped budget few turns (Spent count) e text proves = tt

full_accepted : (s : SessionState) → IsHeld s → HasScopedReasons s.engine → (budget : ℕ) → budget ≤ 18446744073709551615 → (turns : List Turn) (end : SearchEnd) (telling : Telling) (e : EngineState) (reply : List ℕ)
    → SearchesIn s (Proof budget) turns end telling e → reply ≡ told_text s.book end telling → ToldAccepted s reply
full_accepted s is scoped budget few turns end telling e reply search r =
    subst (ToldAccepted s) (sym (told_in_full s budget turns end telling e reply search r))
    (accepted_end end (proof_closes s budget turns end e search.text search.proves) (none_accepted s is scoped budget few turns end e search.text search.proves))

paused_told : (s : SessionState) (by : Procedure) → s.paused ≡ true → ToldBy s by (fixed_text Paused)
paused_told s (Dbt budget) on = search_paused on refl
paused_told s (Repair tabu budget) on = search_paused on refl
paused_told s (Proof budget) on = proof_paused on refl
paused_told s (Least target budget) on = best_paused on refl

module _ (s : SessionState) (by : Procedure) (is : IsState s) where
  follows_told : (m : SessionState) (effect : Effect) (t : SessionState) (reply : List ℕ) → m ≡ s → Follows m (Searches by) effect t → Says t (Solve by) effect reply → ToldBy s by reply
  follows_told m Nothing t reply same f r = absurd f
  follows_told m (Settled k) t reply same f r = absurd f
  follows_told m (Searched end telling) t reply same f r =
      let held : IsHeld m = subst IsHeld (sym same) is.held in
      let book : t.book ≡ m.book = ap (λ (z : SessionState). z.book) f.3 in
      subst (λ (z : SessionState). ToldBy z by reply) same
      (end_told m held by f.0 end telling f.1 reply f.2 (subst (λ (b : Contents). reply ≡ told_text b end telling) book r))

  follows_leaves : (m : SessionState) (effect : Effect) (t : SessionState) → m ≡ s → IsStill m.engine → Follows m (Searches by) effect t → KeepsAllButJournal m t
  follows_leaves m Nothing t same still f = absurd f
  follows_leaves m (Settled k) t same still f = absurd f
  follows_leaves m (Searched end telling) t same still f =
      let held : IsHeld m = subst IsHeld (sym same) is.held in
      let rests = search_leaves_still m by f.0 end telling f.1 held f.2 in
      let engine : t.engine ≡ f.1 = ap (λ (z : SessionState). z.engine) f.3 in
      let journal : t.journal ≡ f.0 = ap (λ (z : SessionState). z.journal) f.3 in
      record {
        log = ap (λ (e : EngineState). e.log) engine ∙ search_log m by f.0 end telling f.1 held f.2 still;
        active = ap (λ (e : EngineState). e.active) engine ∙ rests.active;
        initial = ap (λ (e : EngineState). e.initial) engine ∙ rests.initial;
        rest = f.3 ∙ ap (λ (js : List Turn). with_search m js f.1) (sym journal) ∙ ap (λ (e : EngineState). with_search m t.journal e) (sym engine);
      }

  pub told_search : (reply : List ℕ) (t : SessionState) → Accepts s (Solve by) reply t → ToldBy s by reply
  told_search reply t (waits w) = paused_told s by w.paused
  told_search reply t (contradicts effect goes does c) = absurd c.contradictable
  told_search reply t (says effect goes does n r) = follows_told does.0 effect t reply does.1 does.2 r

  pub leaves_all : (reply : List ℕ) (t : SessionState) → Accepts s (Solve by) reply t → KeepsAllButJournal s t
  leaves_all reply t (waits w) = record { log = refl; active = refl; initial = refl; rest = refl }
  leaves_all reply t (contradicts effect goes does c) = absurd c.contradictable
  leaves_all reply t (says effect goes does n r) =
      subst (λ (z : SessionState). KeepsAllButJournal z t) does.1
      (follows_leaves does.0 effect t does.1 (subst (λ (z : SessionState). IsStill z.engine) (sym does.1) (is.still (awake_for s (Solve by) tt goes))) does.2)

-- ---- proofs that are accepted

module _ (s : SessionState) (budget : ℕ) (few : budget ≤ 18446744073709551615) (is : IsState s) (scoped : HasScopedReasons s.engine) where
  follows_accepted : (m : SessionState) (effect : Effect) (t : SessionState) (reply : List ℕ) → m ≡ s → Follows m (Searches (Proof budget)) effect t → Says t (Solve (Proof budget)) effect reply
      → ToldAccepted s reply
  follows_accepted m Nothing t reply same f r = absurd f
  follows_accepted m (Settled k) t reply same f r = absurd f
  follows_accepted m (Searched end telling) t reply same f r =
      let held : IsHeld m = subst IsHeld (sym same) is.held in
      let kept : HasScopedReasons m.engine = subst (λ (z : SessionState). HasScopedReasons z.engine) (sym same) scoped in
      let book : t.book ≡ m.book = ap (λ (z : SessionState). z.book) f.3 in
      subst (λ (z : SessionState). ToldAccepted z reply) same
      (full_accepted m held kept budget few f.0 end telling f.1 reply f.2 (subst (λ (b : Contents). reply ≡ told_text b end telling) book r))

  pub told_accepted : (reply : List ℕ) (t : SessionState) → Accepts s (Solve (Proof budget)) reply t → ToldAccepted s reply
  told_accepted reply t (waits w) = accepted_paused w.paused refl
  told_accepted reply t (contradicts effect goes does c) = absurd c.contradictable
  told_accepted reply t (says effect goes does n r) = follows_accepted does.0 effect t reply does.1 does.2 r
