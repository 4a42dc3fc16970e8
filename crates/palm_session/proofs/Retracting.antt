-- Adding a constraint and then retracting it gives back the book, and so the greatest closed domains.
use Rattle.std.proofs.Common.{◌≡◌, ◌↔◌, ℕ, zero, suc, List, [], ◌∷◌, ◌++◌, Some, Contains, slice_get, remove, refl, sym, ap, ◌∙◌, subst}
use Rattle.std.proofs.lemmas.Option.{same_Some, none-some}
use Rattle.palm_base.proofs.cited.Members.{member_here, member_there}
use Rattle.palm_model.specs.Closure.{IsGreatest}
use Rattle.palm_model.specs.Domains.{Domains}
use Rattle.palm_model.specs.Log.{cons_of}
use Rattle.palm_book.specs.Book.{Contents, initial_of, active_of}
use Rattle.palm_book.specs.declared.book.BookCon.{BookCon}
use Rattle.palm_book.proofs.cited.Any.{any_member}
use Rattle.palm_read.specs.declared.line.Line.TheVariants.{Add as AddLine, Retract as RetractLine}
use Rattle.palm_read.specs.declared.line.Shape.{Shape}
use Rattle.palm_session.specs.State.{SessionState, AreDomains, IsContradiction}
use Rattle.palm_session.specs.declared.request.Question.TheVariants.{Domains as DomainsAsked}
use Rattle.palm_session.specs.declared.request.Request.{Request}
use Rattle.palm_session.specs.declared.request.Request.TheVariants.{Add, Retract, Ask}
use Rattle.palm_session.specs.Requests.{IsAdmitted, Requests}
use Rattle.palm_session.specs.Effects.{Effect, Nothing, Settled, Searched, Next, Rests, Filters, Searches, Follows, Does, next, next_constraint}
use Rattle.palm_session.specs.Answers.{IsAnswer, IsPausable, domains_text, Accepts, waits, contradicts, says}
use Rattle.palm_session.proofs.cited.LawsOfStates.{follows_book, rests_same}

-- the last of a list goes where no other one has its name
last_removed : (cs : List BookCon) (c d : BookCon) (place : ℕ) → slice_get (cs ++ c ∷ []) place ≡ Some d → ((x : BookCon) → Contains cs x → x ≡ d → ⊥) → remove (cs ++ c ∷ []) place ≡ cs
last_removed [] c d zero at other = refl
last_removed [] c d (suc place) at other = absurd (none-some d at)
last_removed (b ∷ cs) c d zero at other = absurd (other b (member_here b cs) (same_Some b d at))
last_removed (b ∷ cs) c d (suc place) at other =
    ap (λ (l : List BookCon). b ∷ l) (last_removed cs c d place at (λ x m e. other x (member_there b cs x m) e))

-- what a request that never waits does
accepts_does : (s : SessionState) (request : Request) (reply : List ℕ) (t : SessionState) → (IsPausable request → ⊥) → Accepts s request reply t → (effect : Effect) × Does s request effect t
accepts_does s request reply t never (waits w) = absurd (never w.pausable)
accepts_does s request reply t never (contradicts effect awake does c) = (effect, does)
accepts_does s request reply t never (says effect awake does n r) = (effect, does)

abbrev grown : Contents → BookCon → Contents
grown book c = record book { constraints = book.constraints ++ c ∷ [] }

abbrev shrunk : Contents → ℕ → Contents
shrunk book place = record book { constraints = remove book.constraints place }

back : (book next : Contents) (c d : BookCon) (place : ℕ) → next ≡ grown book c → slice_get next.constraints place ≡ Some d → ((x : BookCon) → Contains book.constraints x → x ≡ d → ⊥) → shrunk next place ≡ book
back book next c d place e at other =
    ap (λ (b : Contents). shrunk b place) e
    ∙ ap (λ (l : List BookCon). record book { constraints = l }) (last_removed book.constraints c d place (subst (λ (b : Contents). slice_get b.constraints place ≡ Some d) e at) other)

-- ---- and the session waits as before

follows_paused : (m : SessionState) (n : Next) (effect : Effect) (t : SessionState) → Follows m n effect t → t.paused ≡ m.paused
follows_paused m Rests Nothing t f = ap (λ (z : SessionState). z.paused) f
follows_paused m Rests (Settled k) t f = absurd f
follows_paused m Rests (Searched k j) t f = absurd f
follows_paused m (Filters limit) Nothing t f = absurd f
follows_paused m (Filters limit) (Settled k) t f = ap (λ (z : SessionState). z.paused) f.2
follows_paused m (Filters limit) (Searched k j) t f = absurd f
follows_paused m (Searches by) Nothing t f = absurd f
follows_paused m (Searches by) (Settled k) t f = absurd f
follows_paused m (Searches by) (Searched k j) t f = ap (λ (z : SessionState). z.paused) f.3

module _ (s m t : SessionState) (name : List ℕ) (shape : Shape) (add retract : Request) (a b : List ℕ) (admitted : IsAdmitted s (AddLine name shape) add) (adds : Accepts s add a m)
    (asks : Requests m (RetractLine name) retract) (retracts : Accepts m retract b t) where
  added : (effect : Effect) × Does s (Add name admitted.requests.0) effect m
  added = accepts_does s (Add name admitted.requests.0) a m (λ h. h) (subst (λ (r : Request). Accepts s r a m) admitted.requests.2 adds)

  taken : (effect : Effect) × Does m (Retract asks.0) effect t
  taken = accepts_does m (Retract asks.0) b t (λ h. h) (subst (λ (r : Request). Accepts m r b t) asks.2 retracts)

  pub paused_as_before : t.paused ≡ s.paused
  paused_as_before =
      let d = added.1 in
      let r = taken.1 in
      follows_paused r.0 (next r.0 (Retract asks.0)) taken.0 t r.2 ∙ ap (λ (z : SessionState). z.paused) r.1.4
      ∙ follows_paused d.0 (next d.0 (Add name admitted.requests.0)) added.0 m d.2 ∙ ap (λ (z : SessionState). z.paused) d.1.2

  pub added_and_retracted : t.book ≡ s.book
  added_and_retracted =
      let d = added.1 in
      let r = taken.1 in
      let con = admitted.requests.0 in
      let next_book : m.book ≡ grown s.book (next_constraint s name con) =
      follows_book d.0 (next d.0 (Add name con)) added.0 m d.2 ∙ ap (λ (z : SessionState). z.book) d.1.2 in
      let last_book : t.book ≡ shrunk m.book asks.0 =
      follows_book r.0 (next r.0 (Retract asks.0)) taken.0 t r.2 ∙ ap (λ (z : SessionState). z.book) r.1.4 in
      let p = asks.1 in
      last_book ∙ back s.book m.book (next_constraint s name con) p.constraint asks.0 next_book p.at
      (λ x k e. admitted.none.0 (any_member (λ (c : BookCon). c.name ≡ name) s.book.constraints x k (ap (λ (c : BookCon). c.name) e ∙ p.named)))

pub same_domains : (s t : SessionState) (d : Domains) → t.book ≡ s.book → AreDomains s d ↔ AreDomains t d
same_domains s t d e = (
  λ are. subst (λ (b : Contents). IsGreatest (initial_of b) (Contains (cons_of (active_of b))) d) (sym e) are,
  λ are. subst (λ (b : Contents). IsGreatest (initial_of b) (Contains (cons_of (active_of b))) d) e are,
)

-- ---- so the same domains are printed

same_contradiction : (s t : SessionState) → t.book ≡ s.book → t.paused ≡ s.paused → IsContradiction s → IsContradiction t
same_contradiction s t book paused c = record {
  awake = paused ∙ c.awake;
  domains = c.domains;
  greatest = (same_domains s t c.domains book).0 c.greatest;
  empty = c.empty;
}

printed_quietly : (s t u : SessionState) (effect : Effect) (reply : List ℕ) → t.book ≡ s.book → Follows s Rests effect u → IsAnswer u DomainsAsked reply → IsAnswer t DomainsAsked reply
printed_quietly s t u effect reply book f said =
    let same : u.book ≡ s.book = ap (λ (z : SessionState). z.book) (rests_same s effect u f) in
    let back_there : u.book ≡ t.book = same ∙ sym book in
    (said.0, (same_domains u t said.0 (sym back_there)).0 said.1, said.2 ∙ ap (λ (b : Contents). domains_text b.variables said.0) back_there)

pub printed_as_before : (s t u : SessionState) (reply : List ℕ) → t.book ≡ s.book → t.paused ≡ s.paused → Accepts s (Ask DomainsAsked) reply u → Accepts t (Ask DomainsAsked) reply t
printed_as_before s t u reply book paused (waits w) = waits (record { paused = paused ∙ w.paused; pausable = tt })
printed_as_before s t u reply book paused (contradicts effect awake does c) =
    let same : u ≡ s = rests_same does.0 effect u does.2 ∙ does.1 in
    contradicts Nothing (λ w. awake (record { paused = sym paused ∙ w.paused; pausable = tt })) (t, refl, refl)
    (record { contradiction = same_contradiction s t book paused (subst IsContradiction same c.contradiction); contradictable = tt })
printed_as_before s t u reply book paused (says effect awake does quiet said) =
    let same : u ≡ s = rests_same does.0 effect u does.2 ∙ does.1 in
    says Nothing (λ w. awake (record { paused = sym paused ∙ w.paused; pausable = tt })) (t, refl, refl)
    (λ c. quiet (record { contradiction = subst IsContradiction (sym same) (same_contradiction t s (sym book) (sym paused) c.contradiction); contradictable = tt }))
    (printed_quietly s t u effect reply book (subst (λ (z : SessionState). Follows z Rests effect u) does.1 does.2) said)
