-- What the lines that withdraw a constraint ask.
use Rattle.std.proofs.Common.{◌≡◌, ◌⊎◌, ℕ, ◌≤◌, Bool, true, false, List, [], Some, inl, inr, sym, ap, ◌∙◌, subst, arith}
use Rattle.std.specs.Prelude.{slice_get}
use Rattle.std.proofs.lemmas.Option.{same_Some}
use Rattle.palm_base.specs.declared.terms.Cid.TheVariants.{User}
use Rattle.palm_base.specs.declared.terms.Pair.{Pair}
use Rattle.palm_book.specs.declared.book.BookCon.{BookCon}
use Rattle.palm_engine.proofs.cited.Restored.{back_paid, quiet_paid}
use Rattle.palm_engine.specs.Work.{HasRestored, most_asked, most_asked_back}
use Rattle.palm_model.specs.Event.{Withdraws}
use Rattle.palm_model.specs.Log.{log_pairs}
use Rattle.palm_model.specs.State.{EngineState, IsValid}
use Rattle.palm_read.proofs.cited.Parsing.{one_reading}
use Rattle.palm_read.specs.Reading.{IsRead}
use Rattle.palm_read.specs.declared.line.Line.{Line}
use Rattle.palm_read.specs.declared.line.Line.TheVariants.{Relax as RelaxLine, Retract as RetractLine}
use Rattle.palm_session.specs.Asking.{Asks, asks_none, asks_search, asks_settling, AsksBack, HasSettling, HasWithdrawn}
use Rattle.palm_session.specs.Effects.{Changes, WithdrawsWhere}
use Rattle.palm_session.specs.Modes.{heard}
use Rattle.palm_session.specs.Requests.{IsAdmitted, IsPlaceOf, Requests}
use Rattle.palm_session.specs.State.{SessionState, IsState}
use Rattle.palm_session.specs.declared.request.Request.{Request}
use Rattle.palm_session.specs.declared.request.Request.TheVariants.{Relax, Retract, Solve}

-- ---- what is left of an engine

abbrev Lost : SessionState → List ℕ → EngineState → Type 0
Lost s name left = (left ≡ s.engine) ⊎ HasWithdrawn s name left

-- the constraint at the place, which has the name, was withdrawn
withdrawn_at : (s : SessionState) (name : List ℕ) (place : ℕ) (c : BookCon) (left : EngineState) → IsPlaceOf s name place → slice_get s.book.constraints place ≡ Some c
    → Withdraws s.engine (User c.number) left → HasWithdrawn s name left
withdrawn_at s name place c left is at withdraws =
    let same : is.constraint ≡ c = same_Some is.constraint c (sym is.at ∙ at) in
    record { place = place; constraint = c; at = at; named = ap (λ (b : BookCon). b.name) (sym same) ∙ is.named; withdraws = withdraws }

lost_where : (s : SessionState) (name : List ℕ) (place : ℕ) (c : BookCon) (left : EngineState) → IsPlaceOf s name place → slice_get s.book.constraints place ≡ Some c
    → (active : Bool) → WithdrawsWhere active s.engine (User c.number) left → Lost s name left
lost_where s name place c left is at true withdraws = inr (withdrawn_at s name place c left is at withdraws)
lost_where s name place c left is at false same = inl same

lost_paid : (s : SessionState) (name : List ℕ) (left : EngineState) (pairs : List Pair) (vars : List ℕ) → IsValid s.engine → s.engine.pending ≡ [] → Lost s name left → HasRestored s.engine left vars
    → most_asked left pairs ≤ most_asked_back left vars pairs
lost_paid s name left pairs vars valid quiet (inl same) restored = quiet_paid left pairs vars (ap (λ (e : EngineState). e.pending) same ∙ quiet)
lost_paid s name left pairs vars valid quiet (inr w) restored = back_paid s.engine left (User w.constraint.number) pairs vars valid quiet w.withdraws restored

-- a change that withdraws a constraint
changed_lost : (s : SessionState) (name : List ℕ) (m : SessionState) (place : ℕ) → IsPlaceOf s name place → Changes s (Retract place) m → Lost s name m.engine
changed_lost s name m place is h =
    subst (λ (e : EngineState). Lost s name e) (sym (ap (λ (z : SessionState). z.engine) h.4)) (lost_where s name place h.0 h.1 is h.2 h.0.active h.3)

changed_withdrawn : (s : SessionState) (name : List ℕ) (m : SessionState) (place : ℕ) → IsPlaceOf s name place → Changes s (Relax place) m → Lost s name m.engine
changed_withdrawn s name m place is h =
    subst (λ (e : EngineState). Lost s name e) (sym (ap (λ (z : SessionState). z.engine) h.4)) (inr (withdrawn_at s name place h.0 h.1 is h.2 h.3))

-- ---- lines

-- the mode of a session is no part of it
lost_before : (s : SessionState) (name : List ℕ) (line : Line) (left : EngineState) → Lost (heard s line) name left → Lost s name left
lost_before s name line left (inl same) = inl same
lost_before s name line left (inr w) = inr (record { place = w.place; constraint = w.constraint; at = w.at; named = w.named; withdraws = w.withdraws })

settled_back : (s : SessionState) (name : List ℕ) (t : SessionState) (bytes : List ℕ) (count : ℕ) → IsState s → s.engine.pending ≡ [] → (settling : HasSettling s bytes t)
    → count ≤ most_asked settling.changed.engine (log_pairs settling.gained) → Lost s name settling.changed.engine → AsksBack s name t count
settled_back s name t bytes count is quiet settling few lost = record {
  left = settling.changed.engine;
  gained = settling.gained;
  lost = lost;
  log = settling.log;
  back = λ vars restored.
      let k = lost_paid s name settling.changed.engine (log_pairs settling.gained) vars is.held.valid quiet lost restored in
      omega (arith, few, k);
}

-- the request of a line that was read
request_of : (s : SessionState) (bytes : List ℕ) (line said : Line) (request : Request) → IsRead s.mode bytes line → IsRead s.mode bytes said → IsAdmitted (heard s said) said request → Requests (heard s line) line request
request_of s bytes line said request read other admitted =
    let same : said ≡ line = one_reading s.mode s.mode bytes said line other read in
    subst (λ (l : Line). Requests (heard s l) l request) same admitted.requests

-- what the request of the line changes
changes_of : (s : SessionState) (bytes : List ℕ) (line said : Line) (request asked : Request) (m : SessionState) → IsRead s.mode bytes line → IsRead s.mode bytes said → request ≡ asked → Changes (heard s said) request m → Changes (heard s line) asked m
changes_of s bytes line said request asked m read other is changes =
    let same : said ≡ line = one_reading s.mode s.mode bytes said line other read in
    subst (λ (r : Request). Changes (heard s line) r m) is (subst (λ (l : Line). Changes (heard s l) request m) same changes)

pub retract_asks : (s t : SessionState) (bytes name : List ℕ) (count : ℕ) → IsState s → s.engine.pending ≡ [] → IsRead s.mode bytes (RetractLine name) → Asks s bytes t count → (count ≡ 0) ⊎ AsksBack s name t count
retract_asks s t bytes name count is quiet read (asks_none none) = inl none
retract_asks s t bytes name count is quiet read (asks_search h) =
    let r = request_of s bytes (RetractLine name) h.line (Solve h.by) read h.read h.admitted in
    let e : Solve h.by ≡ Retract r.0 = r.2 in cc
retract_asks s t bytes name count is quiet read (asks_settling h few) =
    let r = request_of s bytes (RetractLine name) h.line h.request read h.read h.admitted in
    let changes = changes_of s bytes (RetractLine name) h.line h.request (Retract r.0) h.changed read h.read r.2 h.changes in
    inr (settled_back s name t bytes count is quiet h few (lost_before s name (RetractLine name) h.changed.engine (changed_lost (heard s (RetractLine name)) name h.changed r.0 r.1 changes)))

pub relax_asks : (s t : SessionState) (bytes name : List ℕ) (count : ℕ) → IsState s → s.engine.pending ≡ [] → IsRead s.mode bytes (RelaxLine name) → Asks s bytes t count → (count ≡ 0) ⊎ AsksBack s name t count
relax_asks s t bytes name count is quiet read (asks_none none) = inl none
relax_asks s t bytes name count is quiet read (asks_search h) =
    let r = request_of s bytes (RelaxLine name) h.line (Solve h.by) read h.read h.admitted in
    let e : Solve h.by ≡ Relax r.0 = r.2 in cc
relax_asks s t bytes name count is quiet read (asks_settling h few) =
    let r = request_of s bytes (RelaxLine name) h.line h.request read h.read h.admitted in
    let changes = changes_of s bytes (RelaxLine name) h.line h.request (Relax r.0) h.changed read h.read r.2 h.changes in
    inr (settled_back s name t bytes count is quiet h few (lost_before s name (RelaxLine name) h.changed.engine (changed_withdrawn (heard s (RelaxLine name)) name h.changed r.0 r.1 changes)))
