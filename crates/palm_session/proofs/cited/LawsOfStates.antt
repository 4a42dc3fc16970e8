-- What an admitted request leaves is a state that a session can hold, and without an order object nothing else.
use Rattle.std.proofs.Common.{◌≡◌, ℕ, Bool, true, false, is_some, Option, Some, None, List, [], length, Contains, inl, inr, refl, sym, ap, ◌∙◌, subst, arith}
use Rattle.std.proofs.lemmas.Bool.{false≢true}
use Rattle.std.proofs.lemmas.List.Elements.{All-nil}
use Rattle.palm_base.proofs.cited.Members.{Known}
use Rattle.palm_model.specs.Domains.{Domains, Ascends}
use Rattle.palm_model.specs.Log.{cons_of}
use Rattle.palm_model.specs.State.{EngineState}
use Rattle.palm_book.specs.Book.{initial_of, active_of}
use Rattle.palm_book.proofs.cited.Actives.{initial_ascend}
use Rattle.palm_session.specs.declared.request.Procedure.{Procedure}
use Rattle.palm_session.specs.declared.request.Request.{Request}
use Rattle.palm_session.specs.Requests.{Admits, CanSearch}
use Rattle.palm_laws.proofs.cited.Existence.{greatest_exists}
use Rattle.palm_laws.proofs.cited.Uniqueness.{greatest_unique}
use Rattle.palm_events.specs.Along.{IsStill}
use Rattle.palm_events.proofs.cited.Reasons.{reasons_right}
use Rattle.palm_events.proofs.cited.Valid.{blank_valid}
use Rattle.palm_engine.specs.Settling.{Revision, FitsOrder}
use Rattle.palm_engine.proofs.cited.Settled.{settling_filters, settling_valid, settling_still, plainly_exists, plainly_same}
use Rattle.palm_session.specs.State.{SessionState, IsHeld, IsState, fresh, AreDomains, has_empty, IsContradiction}
use Rattle.palm_session.specs.Effects.{Effect, Nothing, Settled, Searched, with_engine, with_search, Changes, Next, Rests, Filters, Searches, next, SettlesIn, Follows, Does}
use Rattle.palm_search.specs.declared.ending.SearchEnd.{SearchEnd}
use Rattle.palm_search.specs.declared.turn.Turn.{Turn}
use Rattle.palm_session.proofs.Searching.{search_in, search_once, searched_state}
use Rattle.palm_session.proofs.Weighted.{no_weights}
use Rattle.palm_session.proofs.cited.LawsOfChanges.{changes_keep, changes_still, changes_limited, changes_exist, changes_once, KeepsObjects, changes_objects, objects_rest, searches_by, IsOther, IsWithout, kept_without, changes_without}

-- ---- a fresh session

pub fresh_is : (guides orders : List ℕ) → IsState (fresh guides orders)
fresh_is guides orders = record {
  held = record {
    book = record {
      few_variables = omega arith;
      few_constraints = omega arith;
      variable_names = λ k d h. absurd (omega (arith, h));
      values = λ k d h. absurd (omega (arith, h));
      different_variables = λ i j d l h. absurd (omega (arith, h));
      constraint_names = λ k d h. absurd (omega (arith, h));
      different_constraints = λ i j d l h. absurd (omega (arith, h));
      rising = λ i j d l h. absurd (omega (arith, h));
      formed = λ k d h. absurd (omega (arith, h));
    };
    weights = no_weights;
    accepted = omega arith;
    numbered = λ k d h. absurd (omega (arith, h));
    guide = tt;
    order = tt;
    initial = refl;
    active = refl;
    valid = blank_valid [] (All-nil Ascends);
  };
  still = λ awake. inl refl;
}

-- ---- what follows a change

settled_held : (m : SessionState) (limit : Option ℕ) (count : ℕ) (e : EngineState) → IsHeld m → SettlesIn m limit count e → IsHeld (with_engine m e)
settled_held m limit count e is settles =
    let filters = settling_filters limit m.engine settles.revisions e settles.settles in
    record {
      book = is.book;
      weights = is.weights;
      accepted = is.accepted;
      numbered = is.numbered;
      guide = is.guide;
      order = is.order;
      initial = filters.initial ∙ is.initial;
      active = filters.active ∙ is.active;
      valid = settling_valid reasons_right limit m.engine settles.revisions e settles.settles is.valid;
    }

settled_still : (m : SessionState) (limit : Option ℕ) (count : ℕ) (e : EngineState) → SettlesIn m limit count e → ((l : ℕ) → limit ≡ Some l → m.paused ≡ true) → m.paused ≡ false → IsStill e
settled_still m None count e settles limited awake = settling_still m.engine settles.revisions e settles.settles
settled_still m (Some l) count e settles limited awake = absurd (false≢true (sym awake ∙ limited l refl))

pub follows_keeps : (m : SessionState) (n : Next) (effect : Effect) (t : SessionState) → IsHeld m → (n ≡ Rests → m.paused ≡ false → IsStill m.engine)
    → ((l : ℕ) → n ≡ Filters (Some l) → m.paused ≡ true) → Follows m n effect t → IsState t
follows_keeps m Rests Nothing t is still limited f = subst IsState (sym f) (record { held = is; still = still refl })
follows_keeps m Rests (Settled count) t is still limited f = absurd f
follows_keeps m Rests (Searched end telling) t is still limited f = absurd f
follows_keeps m (Filters limit) Nothing t is still limited f = absurd f
follows_keeps m (Filters limit) (Settled count) t is still limited f = subst IsState (sym f.2) (record {
  held = settled_held m limit count f.0 is f.1;
  still = λ awake. settled_still m limit count f.0 f.1 (λ l e. limited l (ap Filters e)) awake;
})
follows_keeps m (Filters limit) (Searched end telling) t is still limited f = absurd f
follows_keeps m (Searches by) Nothing t is still limited f = absurd f
follows_keeps m (Searches by) (Settled count) t is still limited f = absurd f
follows_keeps m (Searches by) (Searched end telling) t is still limited f = subst IsState (sym f.3) (searched_state m by f.0 end telling f.1 is f.2)

pub does_keeps : (s : SessionState) (request : Request) (effect : Effect) (t : SessionState) → IsState s → Admits s request → Does s request effect t → IsState t
does_keeps s request effect t is can d =
    follows_keeps d.0 (next d.0 request) effect t (changes_keep s d.0 request is.held can d.1)
    (λ rests awake. changes_still s d.0 request is d.1 rests awake) (λ l e. changes_limited s d.0 request can d.1 l e) d.2

-- ---- a request does something

fits_any : (b : Bool) (rs : List Revision) → FitsOrder false rs → FitsOrder b rs
fits_any false rs fits = fits
fits_any true rs fits = tt

follows_exist : (m : SessionState) (n : Next) → IsHeld m → ((by : Procedure) → n ≡ Searches by → CanSearch m by) → (effect : Effect) × (t : SessionState) × Follows m n effect t
follows_exist m Rests is some = (Nothing, m, refl)
follows_exist m (Filters limit) is some =
    let p = plainly_exists limit m.engine is.valid in
    let settles : SettlesIn m limit (length p.revisions) p.state =
    record { revisions = p.revisions; settles = p.settles; fits = fits_any (is_some m.order) p.revisions p.fits; counted = refl } in
    (Settled (length p.revisions), with_engine m p.state, (p.state, settles, refl))
follows_exist m (Searches by) is some =
    let p = search_in m is by (some by refl) in
    (Searched p.end p.telling, with_search m p.turns p.engine, (p.turns, p.engine, p.searches, refl))

-- a search that is admitted can be begun
can_search : (s m : SessionState) (request : Request) → Admits s request → Changes s request m → (by : Procedure) → next m request ≡ Searches by → CanSearch m by
can_search s m request can changes by e =
    let is_search = searches_by m request by e in
    let same : m ≡ s = subst (λ (r : Request). Changes s r m) is_search changes in
    subst (λ (z : SessionState). CanSearch z by) (sym same) (subst (λ (r : Request). Admits s r) is_search can)

pub does_exist : (s : SessionState) (request : Request) → IsState s → Admits s request → (effect : Effect) × (t : SessionState) × Does s request effect t
does_exist s request is can =
    let c = changes_exist s request is.held can in
    let f = follows_exist c.0 (next c.0 request) (changes_keep s c.0 request is.held can c.1) (λ by e. can_search s c.0 request can c.1 by e) in
    (f.0, f.1, (c.0, c.1, f.2))

-- ---- and without an order object nothing else

fits_none : (m : SessionState) (limit : Option ℕ) (count : ℕ) (e : EngineState) → m.order ≡ None → (settles : SettlesIn m limit count e) → FitsOrder false settles.revisions
fits_none m limit count e free settles = subst (λ (o : Option ℕ). FitsOrder (is_some o) settles.revisions) free settles.fits

-- what decides by an object has none
abbrev pub IsPlain : SessionState → Next → Type 0
IsPlain m Rests = Unit {0}
IsPlain m (Filters limit) = m.order ≡ None
IsPlain m (Searches by) = (m.guide ≡ None) × (m.order ≡ None)

plain_any : (m : SessionState) (n : Next) → m.guide ≡ None → m.order ≡ None → IsPlain m n
plain_any m Rests unguided free = tt
plain_any m (Filters limit) unguided free = free
plain_any m (Searches by) unguided free = (unguided, free)

follows_once : (m : SessionState) (n : Next) (e f : Effect) (t u : SessionState) → IsPlain m n → IsHeld m → Follows m n e t → Follows m n f u → (e ≡ f) × (t ≡ u)
follows_once m Rests Nothing Nothing t u plain is x y = (refl, x ∙ sym y)
follows_once m Rests Nothing (Settled k) t u plain is x y = absurd y
follows_once m Rests Nothing (Searched k j) t u plain is x y = absurd y
follows_once m Rests (Settled k) f t u plain is x y = absurd x
follows_once m Rests (Searched k j) f t u plain is x y = absurd x
follows_once m (Filters limit) Nothing f t u plain is x y = absurd x
follows_once m (Filters limit) (Searched k j) f t u plain is x y = absurd x
follows_once m (Filters limit) (Settled k) Nothing t u plain is x y = absurd y
follows_once m (Filters limit) (Settled k) (Searched l j) t u plain is x y = absurd y
follows_once m (Filters limit) (Settled k) (Settled l) t u plain is x y =
    let same = plainly_same limit m.engine x.1.revisions x.0 y.1.revisions y.0 is.valid (fits_none m limit k x.0 plain x.1) (fits_none m limit l y.0 plain y.1) x.1.settles y.1.settles in
    let count : k ≡ l = sym x.1.counted ∙ ap (λ (rs : List Revision). length rs) same.revisions ∙ y.1.counted in
    (ap Settled count, x.2 ∙ ap (λ (z : EngineState). with_engine m z) same.state ∙ sym y.2)
follows_once m (Searches by) Nothing f t u plain is x y = absurd x
follows_once m (Searches by) (Settled k) f t u plain is x y = absurd x
follows_once m (Searches by) (Searched k j) Nothing t u plain is x y = absurd y
follows_once m (Searches by) (Searched k j) (Settled l) t u plain is x y = absurd y
follows_once m (Searches by) (Searched k j) (Searched l i) t u plain is x y =
    let same = search_once m by x.0 y.0 k l j i x.1 y.1 is plain.0 plain.1 x.2 y.2 in (
      ap (λ (z : SearchEnd). Searched z j) same.end_same ∙ ap (Searched l) same.telling_same,
      x.3 ∙ ap (λ (z : List Turn). with_search m z x.1) same.turns_same ∙ ap (λ (z : EngineState). with_search m y.0 z) same.engine_same ∙ sym y.3,
    )

-- a request that chooses an object has nothing follow it
change_plain : (s m : SessionState) (request : Request) → Changes s request m → s.guide ≡ None → s.order ≡ None → IsPlain m (next m request)
change_plain s m request h unguided free = elim (changes_objects s m request h) [
  | inl about ↦ subst (IsPlain m) (sym (objects_rest m request about)) tt
  | inr k ↦ plain_any m (next m request) (k.guide ∙ unguided) (k.order ∙ free)
]

-- a request does one thing
pub does_once : (s : SessionState) (request : Request) (e f : Effect) (t u : SessionState) → s.guide ≡ None → s.order ≡ None → IsState s → Admits s request
    → Does s request e t → Does s request f u → (e ≡ f) × (t ≡ u)
does_once s request e f t u unguided free is can d g =
    let same : g.0 ≡ d.0 = changes_once s g.0 d.0 request g.1 d.1 in
    follows_once d.0 (next d.0 request) e f t u (change_plain s d.0 request d.1 unguided free) (changes_keep s d.0 request is.held can d.1) d.2
    (subst (λ (z : SessionState). Follows z (next z request) f u) same g.2)

-- ---- which objects are there, and which are chosen

follows_objects : (m : SessionState) (n : Next) (effect : Effect) (t : SessionState) → Follows m n effect t → KeepsObjects m t
follows_objects m Rests Nothing t f = subst (KeepsObjects m) (sym f) (record { guides = refl; orders = refl; guide = refl; order = refl })
follows_objects m Rests (Settled k) t f = absurd f
follows_objects m Rests (Searched k j) t f = absurd f
follows_objects m (Filters limit) Nothing t f = absurd f
follows_objects m (Filters limit) (Settled k) t f = subst (KeepsObjects m) (sym f.2) (record { guides = refl; orders = refl; guide = refl; order = refl })
follows_objects m (Filters limit) (Searched k j) t f = absurd f
follows_objects m (Searches by) Nothing t f = absurd f
follows_objects m (Searches by) (Settled k) t f = absurd f
follows_objects m (Searches by) (Searched k j) t f = subst (KeepsObjects m) (sym f.3) (record { guides = refl; orders = refl; guide = refl; order = refl })

-- a request that chooses none of the objects leaves none chosen
pub does_without : (guides orders : List ℕ) (s : SessionState) (request : Request) (effect : Effect) (t : SessionState) → IsOther request
    → Does s request effect t → IsWithout guides orders s → IsWithout guides orders t
does_without guides orders s request effect t other d is =
    let changed : IsWithout guides orders d.0 = elim (changes_objects s d.0 request d.1) [
      | inl about ↦ changes_without guides orders s d.0 is request about d.1 other
      | inr k ↦ kept_without guides orders s d.0 is k
    ] in
    kept_without guides orders d.0 t changed (follows_objects d.0 (next d.0 request) effect t d.2)

-- where nothing follows, the change is all
pub rests_same : (m : SessionState) (effect : Effect) (t : SessionState) → Follows m Rests effect t → t ≡ m
rests_same m Nothing t f = f
rests_same m (Settled k) t f = absurd f
rests_same m (Searched k j) t f = absurd f

-- what follows leaves the book
pub follows_book : (m : SessionState) (n : Next) (effect : Effect) (t : SessionState) → Follows m n effect t → t.book ≡ m.book
follows_book m Rests Nothing t f = ap (λ (z : SessionState). z.book) f
follows_book m Rests (Settled k) t f = absurd f
follows_book m Rests (Searched k j) t f = absurd f
follows_book m (Filters limit) Nothing t f = absurd f
follows_book m (Filters limit) (Settled k) t f = ap (λ (z : SessionState). z.book) f.2
follows_book m (Filters limit) (Searched k j) t f = absurd f
follows_book m (Searches by) Nothing t f = absurd f
follows_book m (Searches by) (Settled k) t f = absurd f
follows_book m (Searches by) (Searched k j) t f = ap (λ (z : SessionState). z.book) f.3

-- ---- the greatest closed domains

pub domains_exist : (s : SessionState) → IsHeld s → (d : Domains) × AreDomains s d
domains_exist s is = greatest_exists (initial_of s.book) (cons_of (active_of s.book)) (initial_ascend s.book is.book)

pub domains_once : (s : SessionState) (d e : Domains) → AreDomains s d → AreDomains s e → d ≡ e
domains_once s d e one other = greatest_unique (initial_of s.book) (Contains (cons_of (active_of s.book))) d e one other

pub bool_known : (b c : Bool) → Known (b ≡ c)
bool_known true true = inl refl
bool_known true false = inr (λ e. cc)
bool_known false true = inr (λ e. cc)
bool_known false false = inl refl

pub contradiction_known : (s : SessionState) → IsHeld s → Known (IsContradiction s)
contradiction_known s is =
    let d = domains_exist s is in
    elim (bool_known s.paused false) [
      | inr n ↦ inr (λ c. n c.awake)
      | inl a ↦ elim (bool_known (has_empty d.0) true) [
        | inl e ↦ inl (record { awake = a; domains = d.0; greatest = d.1; empty = e })
        | inr n ↦ inr (λ c. n (subst (λ (z : Domains). has_empty z ≡ true) (domains_once s c.domains d.0 c.greatest d.1) c.empty))
      ]
    ]
