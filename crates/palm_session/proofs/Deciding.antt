-- What is decided of a line.
use Rattle.std.proofs.Common.{◌≡◌, ℕ, List, Result, Ok, Err, IfOk, OnOk, refl, ◌∙◌, subst, sym}
use Rattle.palm_base.specs.First.{IsFirst}
use Rattle.palm_base.proofs.cited.FirstCauses.{first_not_none}
use Rattle.palm_lang.specs.declared.reply.Refusal.{Refusal}
use Rattle.palm_read.specs.Reading.{IsRead, IsRefusedBy}
use Rattle.palm_read.specs.declared.line.Line.{Line}
use Rattle.palm_read.specs.declared.line.Line.TheVariants.{Add, Relax, Enforce, Retract, Domain, Why, Minimal, Cert, Minimize, Prefer, PreferNone, Quit as QuitLine}
use Rattle.palm_read.specs.declared.mode.Mode.{Mode}
use Rattle.palm_read.specs.declared.mode.Mode.TheVariants.{One}
use Rattle.palm_read.specs.declared.parse.LineError.{LineError}
use Rattle.palm_session.specs.Answers.{Answers, misread, accepted}
use Rattle.palm_session.specs.Feeding.{Decides, LineBecomes, TakenAsks, TakenDecides, TakenFits}
use Rattle.palm_session.specs.ReplyText.{reply_text, IsRefusal}
use Rattle.palm_session.specs.Asking.{Asks, asks_none, asks_search, asks_settling}
use Rattle.palm_session.specs.Effects.{Changes, Next, Rests, Filters, Searches, next}
use Rattle.palm_session.specs.Modes.{heard, misheard}
use Rattle.palm_session.specs.Refusals.{Meets, in_order}
use Rattle.palm_session.specs.Requests.{IsAdmitted, Requests}
use Rattle.palm_session.specs.Serving.{AsksFor, asks_nothing, asks_after, AsksWithin, Becomes, GoesAs, Takes}
use Rattle.palm_session.specs.State.{SessionState}
use Rattle.palm_session.specs.declared.going.Going.{Going}
use Rattle.palm_session.specs.declared.going.Going.TheVariants.{More, Quit}
use Rattle.palm_session.specs.declared.reply.Reply.{Reply}
use Rattle.palm_session.specs.declared.request.Request.{Request}
use Rattle.palm_session.specs.declared.request.Request.TheVariants.{Solve, Quit as QuitAsked}
use Rattle.palm_session.specs.declared.taken.Taken.{Taken}
use Rattle.palm_session.specs.declared.taken.Taken.TheVariants.{Said, ToSearch}
use Rattle.palm_session.specs.Answers.{WaitsFor}
use Rattle.palm_session.proofs.Admitting.{free_of_refusals}
use Rattle.palm_session.proofs.InModes.{read_where}
use Rattle.palm_session.proofs.ReadOnce.{goes_on_read, goes_on_refused}
use Rattle.palm_session.proofs.cited.LawsOfAnswers.{awake_for}
use Rattle.palm_session.proofs.cited.LawsOfChanges.{searches_by}

-- ---- whether the session goes on

abbrev EndsAll : Request → Type 0
EndsAll QuitAsked = Unit {0}
EndsAll _ = ⊥

-- a line that asks for the end is `quit`
quit_line : (s : SessionState) (line : Line) → Requests s line QuitAsked → line ≡ QuitLine
quit_line s QuitLine r = refl
quit_line s (Add name shape) r = absurd (subst EndsAll r.2 tt)
quit_line s (Relax name) r = absurd (subst EndsAll r.2 tt)
quit_line s (Enforce name) r = absurd (subst EndsAll r.2 tt)
quit_line s (Retract name) r = absurd (subst EndsAll r.2 tt)
quit_line s (Domain name) r = absurd (subst EndsAll r.2 tt)
quit_line s (Why name value) r = absurd (subst EndsAll r.2 tt)
quit_line s (Minimal name value) r = absurd (subst EndsAll r.2 tt)
quit_line s (Cert name value) r = absurd (subst EndsAll r.2 tt)
quit_line s (Minimize name budget) r = absurd (subst EndsAll r.2 tt)
quit_line s (Prefer name weight) r = absurd (subst EndsAll r.2 tt)
quit_line s (PreferNone name) r = absurd (subst EndsAll r.2 tt)
quit_line s _ r = absurd (subst EndsAll r tt)

-- `quit` asks for the end
quit_asked : (s : SessionState) (line : Line) (request : Request) → Requests s line request → line ≡ QuitLine → request ≡ QuitAsked
quit_asked s line request r e = subst (λ (l : Line). Requests s l request) e r

pub decides_taken : (mode : Mode) (s : SessionState) (going : Going) (bytes : List ℕ) (line : Line) (request : Request) → IsRead mode bytes line → Requests s line request → GoesAs going request → Decides going bytes
decides_taken mode s More bytes line request read r goes = goes_on_read mode bytes line read (λ e. goes (quit_asked s line request r e))
decides_taken mode s Quit bytes line request read r goes =
    let quits : line ≡ QuitLine = quit_line s line (subst (λ (q : Request). Requests s line q) goes r) in
    read_where mode One bytes QuitLine (subst (λ (x : Line). IsRead mode bytes x) quits read) tt

-- a line that is refused is not `quit`, which meets no refusal
not_quit : (s : SessionState) (line : Line) (refusal : Refusal) → IsFirst (Meets s line) in_order refusal → line ≡ QuitLine → ⊥
not_quit s line refusal first e =
    first_not_none (Meets s QuitLine) in_order refusal (subst (λ (l : Line). IsFirst (Meets s l) in_order refusal) e first)
    (free_of_refusals s QuitLine (λ h. h) (λ h. h) (λ h. h) (λ h. h) (λ h. h) (λ h. h) (λ h. h) (λ h. h))

pub decides_refused : (mode : Mode) (s : SessionState) (bytes : List ℕ) (line : Line) (refusal : Refusal) → IsRead mode bytes line → IsFirst (Meets s line) in_order refusal → Decides More bytes
decides_refused mode s bytes line refusal read first = goes_on_read mode bytes line read (not_quit s line refusal first)

pub answers_refusal : (s : SessionState) (bytes : List ℕ) (error : LineError) → IsRefusedBy s.mode bytes error → (taken : Taken) → IsRefusal error taken → LineBecomes s bytes (misheard s) taken
answers_refusal s bytes error q taken is = subst (λ (x : Taken). LineBecomes s bytes (misheard s) x) (sym is.is) (misread error is.refusal q is.of_error)

pub decides_refusal : (mode : Mode) (bytes : List ℕ) (error : LineError) → IsRefusedBy mode bytes error → (taken : Taken) → IsRefusal error taken → TakenDecides bytes taken
decides_refusal mode bytes error q taken is = subst (λ (x : Taken). TakenDecides bytes x) (sym is.is) (goes_on_refused mode bytes error is.refusal q is.of_error)

-- ---- what is answered, and how often support was asked for

pub takes_answers : (s t : SessionState) (bytes : List ℕ) (line : Line) (request : Request) (asked : ℕ) (answer : Reply × Going) → IsRead s.mode bytes line → IsAdmitted (heard s line) line request
    → Takes (heard s line) request t asked answer → Answers s bytes (reply_text t answer.0) t
takes_answers s t bytes line request asked answer read a taken = accepted line request read a taken.accepts

settling_asks : (s m t : SessionState) (bytes : List ℕ) (line : Line) (request : Request) (asked : ℕ) (n : Next) → IsRead s.mode bytes line → IsAdmitted (heard s line) line request → (WaitsFor (heard s line) request → ⊥) → Changes (heard s line) request m
    → next m request ≡ n → AsksWithin m.engine n t.engine asked → Asks s bytes t asked
settling_asks s m t bytes line request asked Rests r a goes changes e asks = asks_none asks
settling_asks s m t bytes line request asked (Searches by) r a goes changes e asks =
    let is_search = searches_by m request by e in
    asks_search (record {
      line = line;
      by = by;
      read = r;
      admitted = subst (λ (q : Request). IsAdmitted (heard s line) line q) is_search a;
      awake = awake_for (heard s line) (Solve by) tt (subst (λ (q : Request). WaitsFor (heard s line) q → ⊥) is_search goes);
    })
settling_asks s m t bytes line request asked (Filters limit) r a goes changes e asks =
    asks_settling (record { line = line; request = request; changed = m; limit = limit; gained = asks.0; read = r; admitted = a; changes = changes; filters = e; log = asks.1 }) asks.2

pub takes_asks : (s t : SessionState) (bytes : List ℕ) (line : Line) (request : Request) (asked : ℕ) → IsRead s.mode bytes line → IsAdmitted (heard s line) line request → AsksFor (heard s line) request t asked → Asks s bytes t asked
takes_asks s t bytes line request asked r a (asks_nothing none) = asks_none none
takes_asks s t bytes line request asked r a (asks_after m goes changes asks) = settling_asks s m t bytes line request asked (next m request) r a goes changes refl asks

-- ---- what became of a line

module _ (s t : SessionState) (bytes : List ℕ) (line : Line) (request : Request) (asked : ℕ) (read : IsRead s.mode bytes line) (admitted : IsAdmitted (heard s line) line request) where
  pub line_becomes : (taken : Taken) → Becomes (heard s line) request t asked taken → LineBecomes s bytes t taken
  line_becomes (Said reply going) takes = takes_answers s t bytes line request asked (reply, going) read admitted takes
  line_becomes (ToSearch by) is = (
    line,
    read,
    subst (λ (q : Request). IsAdmitted (heard s line) line q) is.is admitted,
    awake_for (heard s line) (Solve by) tt (subst (λ (q : Request). WaitsFor (heard s line) q → ⊥) is.is is.goes),
    is.same,
  )

  pub becomes_asks : (taken : Taken) → Becomes (heard s line) request t asked taken → TakenAsks s bytes t asked taken
  becomes_asks (Said reply going) takes = takes_asks s t bytes line request asked read admitted takes.asks
  becomes_asks (ToSearch by) is = is.quiet

  pub becomes_decides : (taken : Taken) → Becomes (heard s line) request t asked taken → TakenDecides bytes taken
  becomes_decides (Said reply going) takes = decides_taken s.mode (heard s line) going bytes line request read admitted.requests takes.goes
  becomes_decides (ToSearch by) is = decides_taken s.mode (heard s line) More bytes line request read admitted.requests (λ e. not_the_end (sym is.is ∙ e))
    where
      not_the_end : Solve by ≡ QuitAsked → ⊥
      not_the_end e = subst EndsAll (sym e) tt

  pub becomes_fits : (taken : Taken) → Becomes (heard s line) request t asked taken → TakenFits t taken
  becomes_fits (Said reply going) takes = takes.fits
  becomes_fits (ToSearch by) is = tt

-- what follows from each good answer follows where there is one
pub on_ok : {T E : Type 0} (r : Result T E) (P : T → Type 0) (A : Type 0) → ((x : T) → P x → A) → IfOk r P → OnOk r A
on_ok (Ok x) P A f h = f x h
on_ok (Err e) P A f h = tt
