-- What a request changes: it can be done, in one way, and leaves what a session can hold in the midst of a line.
use Rattle.std.proofs.Common.{◌≡◌, ◌≢◌, ℕ, ◌+◌, ◌<◌, ◌≤◌, ℤ, Bool, true, false, not, if◌then◌else◌, Option, Some, None, List, [], ◌∷◌, ◌++◌, length, filter, slice_get, remove, All, Any, Contains, ◌⊎◌, inl, inr, refl, sym, ap, ◌∙◌, subst, arith, length-append}
use Rattle.std.proofs.lemmas.Bool.{false≢true}
use Rattle.std.proofs.lemmas.List.{length-map, map-append}
use Rattle.std.proofs.lemmas.List.Elements.{All-push, All-weaker, All-contains}
use Rattle.std.proofs.lemmas.Option.{same_Some, slice_get_within}
use Rattle.palm_base.specs.declared.terms.Pair.{Pair}
use Rattle.palm_base.specs.declared.terms.Cid.TheVariants.{User}
use Rattle.palm_base.proofs.cited.Members.{all_members, member_get, remove_member}
use Rattle.palm_model.specs.Constraint.{IsWellFormed}
use Rattle.palm_model.specs.Domains.{Domains, is_among, without}
use Rattle.palm_model.specs.Log.{Active, IsActive, log_pairs}
use Rattle.palm_model.specs.State.{EngineState, HasEmpty, IsEmptyAt, IsValid, present}
use Rattle.palm_model.specs.Event.{Posts, Withdraws, Declares, posted, with_posted, without_cids, gone_with}
use Rattle.palm_model.specs.declared.constraint.Con.{Con}
use Rattle.palm_model.proofs.cited.Without.{length_without, values_of_without}
use Rattle.palm_book.specs.Book.{BookVar, IsBook, AreValues, user_at, active_of, with_active}
use Rattle.palm_book.specs.declared.book.BookCon.{BookCon}
use Rattle.palm_book.specs.Limits.{most_variables, most_constraints}
use Rattle.palm_book.specs.declared.limits.TheConstants.{MOST_VARIABLES, MOST_CONSTRAINTS, MOST_ADDED}
use Rattle.palm_book.proofs.cited.BookLemmas.{IsBook-with_variable, IsBook-with_constraint, IsBook-with_active, IsBook-without, All-remove}
use Rattle.palm_read.specs.Domain.{values_in}
use Rattle.palm_read.specs.declared.line.DomainText.{DomainText}
use Rattle.palm_read.specs.declared.mode.Mode.{Mode}
use Rattle.palm_read.specs.declared.mode.Mode.TheVariants.{First, One, Two}
use Rattle.palm_events.specs.Along.{IsStill}
use Rattle.palm_events.proofs.cited.Agreeing.{values_of_more}
use Rattle.palm_events.proofs.cited.Outcomes.{withdrawal_exists, withdrawal_same}
use Rattle.palm_events.proofs.cited.Valid.{declares_valid, posts_valid, withdraws_valid}
use Rattle.palm_session.specs.State.{SessionState, IsHeld, IsState}
use Rattle.palm_session.specs.declared.request.Procedure.{Procedure}
use Rattle.palm_session.specs.declared.request.Request.{Request}
use Rattle.palm_session.specs.declared.request.Request.TheVariants.{Nothing as NothingAsked, Header as HeaderAsked, Declare, DeclareIn, Add, Relax, Enforce, Retract, Ask, Pause, Resume, Step, Solve, ChooseGuide, DropGuide, ChooseOrder, DropOrder, Prefer, Quit}
use Rattle.palm_session.specs.Requests.{Admits, CanAdd, CanDeclare, CanDeclareIn, StandsAt}
use Rattle.palm_session.specs.Effects.{with_engine, with_variable, with_constraint, with_active_at, with_weight, without_constraint, without_guide, without_order, next_constraint, WithdrawsWhere, WithdrawsActive, next_within, DeclaresNext, AddsNext, Changes, Rests, Filters, Searches, next, unless_paused}
use Rattle.palm_session.specs.Objects.{without_number, chosen_without}
use Rattle.palm_session.proofs.ActiveLists.{turned_cases, active_member, active_added, active_enforced, active_relaxed, active_retracted, active_alike, relaxed_inactive, user_same}
use Rattle.palm_session.proofs.Standing.{some_entry}
use Rattle.palm_session.proofs.Weighted.{weights_added, weights_declared, weights_less, weights_set, weights_turned}
use Rattle.palm_session.proofs.HeldObjects.{left_inside, left_chosen, held_guides, held_orders}
use Rattle.palm_book.proofs.cited.Intervals.{domain_values}

-- ---- one more variable

-- where a mode has room for one more, a book has
under_variables : (mode : Mode) (n : ℕ) → (most_variables mode ≤ n → ⊥) → n < MOST_VARIABLES
under_variables First n room = omega (arith, room)
under_variables One n room = omega (arith, room)
under_variables Two n room = omega (arith, room)

under_constraints : (mode : Mode) (n : ℕ) → (most_constraints mode ≤ n → ⊥) → n < MOST_CONSTRAINTS
under_constraints First n room = omega (arith, room)
under_constraints One n room = omega (arith, room)
under_constraints Two n room = omega (arith, room)

-- no member has the name
none_named : {X : Type 0} (f : X → List ℕ) (xs : List X) (name : List ℕ) → (Any (λ x. f x ≡ name) xs → ⊥) → All (λ x. f x ≢ name) xs
none_named f xs name none = all_members (λ x. f x ≢ name) xs (λ x m e. none (m.0, x, m.1, m.2, e))

module _ (s : SessionState) (name : List ℕ) (domain : DomainText) (can : CanDeclare s name domain) where
  pub declared_values : AreValues (values_in domain)
  declared_values = domain_values domain can.sound can.small

  keeps_variable : (e : EngineState) → IsHeld s → Declares s.engine (values_in domain) e → IsHeld (with_engine (with_variable s name (values_in domain)) e)
  keeps_variable e is declares =
      let entry : BookVar = record { name = name; values = values_in domain } in
      let room : length s.book.variables < MOST_VARIABLES = under_variables s.mode (length s.book.variables) can.room in
      record {
        book = IsBook-with_variable s.book s.book refl is.book entry (s.book.variables ++ entry ∷ []) can.text
            (none_named (λ (f : BookVar). f.name) s.book.variables name can.free)
            declared_values room refl;
        weights = weights_declared s.book (s.book.variables ++ entry ∷ []) s.weights is.weights;
        accepted = is.accepted;
        numbered = is.numbered;
        guide = is.guide;
        order = is.order;
        initial = ap (λ (z : EngineState). z.initial) declares.after ∙ ap (λ (d : Domains). d ++ values_in domain ∷ []) is.initial
            ∙ sym (map-append (λ (f : BookVar). f.values) s.book.variables (entry ∷ []));
        active = ap (λ (z : EngineState). z.active) declares.after ∙ is.active;
        valid = declares_valid s.engine e (values_in domain) declares is.valid;
      }

-- an empty domain stays empty
declared_empty : (d : Domains) (vs : List ℤ) (pairs : List Pair) (x : ℕ) → IsEmptyAt (without d pairs) x → IsEmptyAt (without (d ++ vs ∷ []) pairs) x
declared_empty d vs pairs x empty =
    let lt : x < length d = subst (λ (n : ℕ). x < n) (length_without d pairs) empty.exists in
    let more : length (d ++ vs ∷ []) ≡ length d + 1 = length-append d (vs ∷ []) in
    record {
      exists = subst (λ (n : ℕ). x < n) (sym (length_without (d ++ vs ∷ []) pairs)) (omega (arith, lt, more));
      empty = values_of_without (d ++ vs ∷ []) pairs x ∙ ap (λ (ws : List ℤ). filter (λ v. not (is_among pairs x v)) ws) (values_of_more d vs x lt)
          ∙ sym (values_of_without d pairs x) ∙ empty.empty;
    }

declared_still : (e t : EngineState) (values : List ℤ) → Declares e values t → IsStill e → IsStill t
declared_still e t values h still = elim still [
  | inl quiet ↦ inl (ap (λ (z : EngineState). z.pending) h.after ∙ quiet)
  | inr empty ↦ inr (subst (λ (z : EngineState). HasEmpty (present z)) (sym h.after) (empty.0, declared_empty e.initial values (log_pairs e.log) empty.0 empty.1))
]

-- ---- posting a constraint of the book

user_posts : (s : SessionState) → IsHeld s → (c : BookCon) → IsWellFormed (length s.book.variables) c.con → (IsActive (active_of s.book) (User c.number) → ⊥)
    → Posts s.engine (user_at c) (posted s.engine (user_at c))
user_posts s is c formed inactive =
    let same : length s.engine.initial ≡ length s.book.variables = ap (λ (d : Domains). length d) is.initial ∙ length-map s.book.variables (λ (f : BookVar). f.values) in
    record {
      inactive = subst (λ (l : List Active). IsActive l (User c.number) → ⊥) (sym is.active) inactive;
      formed = record { form = (subst (λ (k : ℕ). IsWellFormed k c.con) (sym same) formed, refl) };
      after = refl;
    }

-- ---- one more constraint

module _ (s : SessionState) (name : List ℕ) (con : Con) (is : IsHeld s) (can : CanAdd s name con) where
  added_book : IsBook (record s.book { constraints = s.book.constraints ++ next_constraint s name con ∷ [] })
  added_book =
      let c : BookCon = next_constraint s name con in
      let few : length s.book.constraints < MOST_CONSTRAINTS = under_constraints s.mode (length s.book.constraints) (λ h. can.room (inl h)) in
      IsBook-with_constraint s.book s.book refl is.book c (s.book.constraints ++ c ∷ []) can.text
      (none_named (λ (d : BookCon). d.name) s.book.constraints name can.free)
      (All-weaker (λ (d : BookCon). d.number ≤ s.accepted) (λ (d : BookCon). d.number < s.accepted + 1) (λ d h. omega (arith, h)) s.book.constraints is.numbered)
      can.formed few refl

  -- no active constraint has the next number
  added_inactive : IsActive (active_of s.book) (User (s.accepted + 1)) → ⊥
  added_inactive active =
      let r = active_member s.book active.owner active.posted in
      let n : r.0.number ≡ s.accepted + 1 = user_same r.0.number (s.accepted + 1) (ap (λ (x : Active). x.cid) r.3 ∙ active.named) in
      let le : r.0.number ≤ s.accepted = All-contains (λ (d : BookCon). d.number ≤ s.accepted) s.book.constraints r.0 is.numbered r.1 in
      omega (arith, le, n)

  added_posts : Posts s.engine (user_at (next_constraint s name con)) (posted s.engine (user_at (next_constraint s name con)))
  added_posts = user_posts s is (next_constraint s name con) can.formed added_inactive

  keeps_constraint : (e : EngineState) → Posts s.engine (user_at (next_constraint s name con)) e → IsHeld (with_engine (with_constraint s name con) e)
  keeps_constraint e posts =
      let c : BookCon = next_constraint s name con in
      let counts : MOST_ADDED ≤ s.accepted → ⊥ = λ h. can.room (inr h) in
      record {
        book = added_book;
        weights = weights_added s.book c s.weights is.weights;
        accepted = omega (arith, counts);
        numbered = All-push (λ (d : BookCon). d.number ≤ s.accepted + 1) s.book.constraints c
            (All-weaker (λ (d : BookCon). d.number ≤ s.accepted) (λ (d : BookCon). d.number ≤ s.accepted + 1) (λ d h. omega (arith, h)) s.book.constraints is.numbered)
            (omega arith);
        guide = is.guide;
        order = is.order;
        initial = ap (λ (z : EngineState). z.initial) posts.after ∙ is.initial;
        active = ap (λ (z : EngineState). z.active) posts.after ∙ ap (λ (l : List Active). with_posted (user_at c) l) is.active
            ∙ active_added s.book is.book c refl added_book added_inactive;
        valid = posts_valid s.engine e (user_at c) posts is.valid;
      }

-- ---- one more variable, and under its name one more constraint

declares_exist : (s : SessionState) (name : List ℕ) (domain : DomainText) → CanDeclare s name domain → (m : SessionState) × DeclaresNext s name domain m
declares_exist s name domain can =
    let e : EngineState = record s.engine { initial = s.engine.initial ++ values_in domain ∷ [] } in
    (with_engine (with_variable s name (values_in domain)) e, (e, record { ascend = (declared_values s name domain can).ascend; after = refl }, refl))

declares_once : (s m n : SessionState) (name : List ℕ) (domain : DomainText) → DeclaresNext s name domain m → DeclaresNext s name domain n → m ≡ n
declares_once s m n name domain h k =
    h.2 ∙ ap (λ (e : EngineState). with_engine (with_variable s name (values_in domain)) e) (h.1.after ∙ sym k.1.after) ∙ sym k.2

adds_exist : (s : SessionState) (name : List ℕ) (con : Con) → IsHeld s → CanAdd s name con → (m : SessionState) × AddsNext s name con m
adds_exist s name con is can =
    let e : EngineState = posted s.engine (user_at (next_constraint s name con)) in
    (with_engine (with_constraint s name con) e, (e, added_posts s name con is can, refl))

adds_once : (s m n : SessionState) (name : List ℕ) (con : Con) → AddsNext s name con m → AddsNext s name con n → m ≡ n
adds_once s m n name con h k = h.2 ∙ ap (λ (e : EngineState). with_engine (with_constraint s name con) e) (h.1.after ∙ sym k.1.after) ∙ sym k.2

pub declares_keep : (s m : SessionState) (name : List ℕ) (domain : DomainText) → IsHeld s → CanDeclare s name domain → DeclaresNext s name domain m → IsHeld m
declares_keep s m name domain is can h = subst IsHeld (sym h.2) (keeps_variable s name domain can h.0 is h.1)

adds_keep : (s m : SessionState) (name : List ℕ) (con : Con) → IsHeld s → CanAdd s name con → AddsNext s name con m → IsHeld m
adds_keep s m name con is can h = subst IsHeld (sym h.2) (keeps_constraint s name con is can h.0 h.1)

-- the constraint can be added once its variable is declared
pub adds_behind : (s m : SessionState) (name : List ℕ) (universe domain : DomainText) → CanDeclareIn s name universe domain → DeclaresNext s name universe m → CanAdd m name (next_within s domain)
adds_behind s m name universe domain can h =
    let a = can.add in
    subst (λ (z : SessionState). CanAdd z name (next_within s domain)) (sym h.2) (record { text = a.text; free = a.free; formed = a.formed; room = a.room })

-- ---- the constraint at a place

-- the constraint is active and is withdrawn, or it is relaxed and nothing happens
pub withdraws_cases : (e : EngineState) (c : BookCon) (after : EngineState) → WithdrawsActive e c after
    → ((c.active ≡ true) × Withdraws e (User c.number) after) ⊎ ((c.active ≡ false) × (after ≡ e))
withdraws_cases e c after w = by c.active refl w
  where
    by : (b : Bool) → c.active ≡ b → WithdrawsWhere b e (User c.number) after → ((c.active ≡ true) × Withdraws e (User c.number) after) ⊎ ((c.active ≡ false) × (after ≡ e))
    by true is h = inl (is, h)
    by false is h = inr (is, h)

module _ (s : SessionState) (is : IsHeld s) (place : ℕ) (c : BookCon) (at : slice_get s.book.constraints place ≡ Some c) where
  turned_book : (b : Bool) → IsBook (record s.book { constraints = with_active s.book.constraints place b })
  turned_book b = IsBook-with_active s.book s.book refl is.book place b (with_active s.book.constraints place b) refl

  less_book : IsBook (record s.book { constraints = remove s.book.constraints place })
  less_book = IsBook-without s.book s.book refl is.book place (remove s.book.constraints place) (slice_get_within s.book.constraints place c at) refl

  turned_numbered : (b : Bool) → All (λ (d : BookCon). d.number ≤ s.accepted) (with_active s.book.constraints place b)
  turned_numbered b = all_members (λ (d : BookCon). d.number ≤ s.accepted) (with_active s.book.constraints place b) (λ d m.
      elim (turned_cases s.book.constraints place b c d at m) [
        | inl e ↦ subst (λ (x : BookCon). x.number ≤ s.accepted) e (All-contains (λ (x : BookCon). x.number ≤ s.accepted) s.book.constraints c is.numbered (member_get s.book.constraints place c at))
        | inr k ↦ All-contains (λ (x : BookCon). x.number ≤ s.accepted) s.book.constraints d is.numbered (remove_member s.book.constraints place d k)
      ])

  keeps_relaxed : (e : EngineState) → Withdraws s.engine (User c.number) e → IsHeld (with_engine (with_active_at s place false) e)
  keeps_relaxed e w = record {
    book = turned_book false;
    weights = weights_turned s.book place c at s.weights is.weights false;
    accepted = is.accepted;
    numbered = turned_numbered false;
    guide = is.guide;
    order = is.order;
    initial = ap (λ (z : EngineState). z.initial) w.after ∙ is.initial;
    active = ap (λ (z : EngineState). z.active) w.after ∙ ap (λ (l : List Active). without_cids (gone_with l (User c.number)) l) is.active
        ∙ active_relaxed s.book is.book place c at (turned_book false);
    valid = withdraws_valid s.engine e (User c.number) w is.valid;
  }

  keeps_enforced : (e : EngineState) → c.active ≡ false → Posts s.engine (user_at c) e → IsHeld (with_engine (with_active_at s place true) e)
  keeps_enforced e off posts = record {
    book = turned_book true;
    weights = weights_turned s.book place c at s.weights is.weights true;
    accepted = is.accepted;
    numbered = turned_numbered true;
    guide = is.guide;
    order = is.order;
    initial = ap (λ (z : EngineState). z.initial) posts.after ∙ is.initial;
    active = ap (λ (z : EngineState). z.active) posts.after ∙ ap (λ (l : List Active). with_posted (user_at c) l) is.active
        ∙ active_enforced s.book is.book place c at off (turned_book true) (relaxed_inactive s.book is.book place c at off);
    valid = posts_valid s.engine e (user_at c) posts is.valid;
  }

  less_held : (e : EngineState) → ((c.active ≡ true) × Withdraws s.engine (User c.number) e) ⊎ ((c.active ≡ false) × (e ≡ s.engine)) → IsHeld (with_engine (without_constraint s place c) e)
  less_held e (inl w) = record {
    book = less_book;
    weights = weights_less s.book place c at s.weights is.weights;
    accepted = is.accepted;
    numbered = All-remove (λ (d : BookCon). d.number ≤ s.accepted) s.book.constraints place is.numbered;
    guide = is.guide;
    order = is.order;
    initial = ap (λ (z : EngineState). z.initial) w.1.after ∙ is.initial;
    active = ap (λ (z : EngineState). z.active) w.1.after ∙ ap (λ (l : List Active). without_cids (gone_with l (User c.number)) l) is.active
        ∙ active_retracted s.book is.book place c at less_book;
    valid = withdraws_valid s.engine e (User c.number) w.1 is.valid;
  }
  less_held e (inr w) = record {
    book = less_book;
    weights = weights_less s.book place c at s.weights is.weights;
    accepted = is.accepted;
    numbered = All-remove (λ (d : BookCon). d.number ≤ s.accepted) s.book.constraints place is.numbered;
    guide = is.guide;
    order = is.order;
    initial = ap (λ (z : EngineState). z.initial) w.1 ∙ is.initial;
    active = ap (λ (z : EngineState). z.active) w.1 ∙ is.active ∙ active_alike s.book is.book place c at w.0 less_book;
    valid = subst (λ (z : EngineState). IsValid z) (sym w.1) is.valid;
  }

  keeps_retracted : (e : EngineState) → WithdrawsActive s.engine c e → IsHeld (with_engine (without_constraint s place c) e)
  keeps_retracted e w = less_held e (withdraws_cases s.engine c e w)

-- what stands at a place is active or relaxed
stands_so : (s : SessionState) (place : ℕ) (active : Bool) (c : BookCon) → StandsAt s place active → slice_get s.book.constraints place ≡ Some c → c.active ≡ active
stands_so s place active c stands at = ap (λ (d : BookCon). d.active) (same_Some c stands.constraint (sym at ∙ stands.at)) ∙ stands.is

held_paused : (s : SessionState) (b : Bool) → IsHeld s → IsHeld (record s { paused = b })
held_paused s b is = record {
  book = is.book;
  weights = is.weights;
  accepted = is.accepted;
  numbered = is.numbered;
  guide = is.guide;
  order = is.order;
  initial = is.initial;
  active = is.active;
  valid = is.valid;
}

-- another weight of a constraint
held_weighed : (s : SessionState) → IsHeld s → (place : ℕ) (c : BookCon) → slice_get s.book.constraints place ≡ Some c → (weight : Option ℕ) → IsHeld (with_weight s c weight)
held_weighed s is place c at weight = record {
  book = is.book;
  weights = weights_set s.book place c at s.weights is.weights weight;
  accepted = is.accepted;
  numbered = is.numbered;
  guide = is.guide;
  order = is.order;
  initial = is.initial;
  active = is.active;
  valid = is.valid;
}

-- ---- what a session can hold in the midst of a line stays so

pub changes_keep : (s m : SessionState) (request : Request) → IsHeld s → Admits s request → Changes s request m → IsHeld m
changes_keep s m NothingAsked is can h = subst IsHeld (sym h) is
changes_keep s m HeaderAsked is can h = subst IsHeld (sym h) is
changes_keep s m (Declare name domain) is can h = declares_keep s m name domain is can h
changes_keep s m (DeclareIn name universe domain) is can h =
    adds_keep h.0 m name (next_within s domain) (declares_keep s h.0 name universe is can.declare h.1) (adds_behind s h.0 name universe domain can h.1) h.2
changes_keep s m (Add name con) is can h = adds_keep s m name con is can h
changes_keep s m (Relax place) is can h = subst IsHeld (sym h.4) (keeps_relaxed s is place h.0 h.2 h.1 h.3)
changes_keep s m (Enforce place) is can h = subst IsHeld (sym h.4) (keeps_enforced s is place h.0 h.2 h.1 (stands_so s place false h.0 can h.2) h.3)
changes_keep s m (Retract place) is can h = subst IsHeld (sym h.4) (keeps_retracted s is place h.0 h.2 h.1 h.3)
changes_keep s m (Ask question) is can h = subst IsHeld (sym h) is
changes_keep s m Pause is can h = subst IsHeld (sym h) (held_paused s true is)
changes_keep s m Resume is can h = subst IsHeld (sym h) (held_paused s false is)
changes_keep s m (Step count) is can h = subst IsHeld (sym h) is
changes_keep s m (Solve by) is can h = subst IsHeld (sym h) is
changes_keep s m (ChooseGuide chosen) is can h = subst IsHeld (sym h) (held_guides s s.guides chosen can is)
changes_keep s m (DropGuide number) is can h =
    subst IsHeld (sym h) (held_guides s (without_number number s.guides) (chosen_without number s.guide) (left_chosen number s.guides s.guide is.guide) is)
changes_keep s m (ChooseOrder chosen) is can h = subst IsHeld (sym h) (held_orders s s.orders chosen can is)
changes_keep s m (DropOrder number) is can h =
    subst IsHeld (sym h) (held_orders s (without_number number s.orders) (chosen_without number s.order) (left_chosen number s.orders s.order is.order) is)
changes_keep s m (Prefer place weight) is can h = subst IsHeld (sym h.2) (held_weighed s is place h.0 h.1 weight)
changes_keep s m Quit is can h = subst IsHeld (sym h) is

-- ---- where nothing follows, nothing waits for filtering

pub rests_paused : (m : SessionState) → unless_paused m ≡ Rests → m.paused ≡ false → ⊥
rests_paused m rests awake =
    let e : Filters None ≡ Rests = subst (λ (b : Bool). (if b then Rests else Filters None) ≡ Rests) awake rests in cc

stays_still : (s m : SessionState) → IsState s → m ≡ s → m.paused ≡ false → IsStill m.engine
stays_still s m is e awake = (subst IsState (sym e) is).still awake

untouched_still : (s m : SessionState) → IsState s → m.engine ≡ s.engine → m.paused ≡ s.paused → m.paused ≡ false → IsStill m.engine
untouched_still s m is engine paused awake = subst (λ (e : EngineState). IsStill e) (sym engine) (is.still (sym paused ∙ awake))

pub changes_still : (s m : SessionState) (request : Request) → IsState s → Changes s request m → next m request ≡ Rests → m.paused ≡ false → IsStill m.engine
changes_still s m NothingAsked is h rests awake = stays_still s m is h awake
changes_still s m HeaderAsked is h rests awake = stays_still s m is h awake
changes_still s m (Declare name domain) is h rests awake =
    let before : s.paused ≡ false = sym (ap (λ (z : SessionState). z.paused) h.2) ∙ awake in
    subst (λ (z : SessionState). IsStill z.engine) (sym h.2) (declared_still s.engine h.0 (values_in domain) h.1 (is.still before))
changes_still s m (DeclareIn name universe domain) is h rests awake = absurd (rests_paused m rests awake)
changes_still s m (Add name con) is h rests awake = absurd (rests_paused m rests awake)
changes_still s m (Relax place) is h rests awake = absurd (rests_paused m rests awake)
changes_still s m (Enforce place) is h rests awake = absurd (rests_paused m rests awake)
changes_still s m (Retract place) is h rests awake = absurd (rests_paused m rests awake)
changes_still s m (Ask question) is h rests awake = stays_still s m is h awake
changes_still s m Pause is h rests awake = absurd (false≢true (sym awake ∙ ap (λ (z : SessionState). z.paused) h))
changes_still s m Resume is h rests awake = absurd (rests_paused m rests awake)
changes_still s m (Step count) is h rests awake = let e : Filters (Some count) ≡ Rests = rests in cc
changes_still s m (Solve by) is h rests awake = let e : Searches by ≡ Rests = rests in cc
changes_still s m (ChooseGuide chosen) is h rests awake = untouched_still s m is (ap (λ (z : SessionState). z.engine) h) (ap (λ (z : SessionState). z.paused) h) awake
changes_still s m (DropGuide number) is h rests awake = untouched_still s m is (ap (λ (z : SessionState). z.engine) h) (ap (λ (z : SessionState). z.paused) h) awake
changes_still s m (ChooseOrder chosen) is h rests awake = untouched_still s m is (ap (λ (z : SessionState). z.engine) h) (ap (λ (z : SessionState). z.paused) h) awake
changes_still s m (DropOrder number) is h rests awake = untouched_still s m is (ap (λ (z : SessionState). z.engine) h) (ap (λ (z : SessionState). z.paused) h) awake
changes_still s m (Prefer place weight) is h rests awake = untouched_still s m is (ap (λ (z : SessionState). z.engine) h.2) (ap (λ (z : SessionState). z.paused) h.2) awake
changes_still s m Quit is h rests awake = stays_still s m is h awake

-- filtering has a limit only while the session is paused
not_limited : (b : Bool) (limit : ℕ) → (if b then Rests else Filters None) ≡ Filters (Some limit) → ⊥
not_limited true limit e = cc
not_limited false limit e = cc

rests_not_limited : (limit : ℕ) → Rests ≡ Filters (Some limit) → ⊥
rests_not_limited limit e = cc

pub changes_limited : (s m : SessionState) (request : Request) → Admits s request → Changes s request m → (limit : ℕ) → next m request ≡ Filters (Some limit) → m.paused ≡ true
changes_limited s m NothingAsked can h limit e = absurd (rests_not_limited limit e)
changes_limited s m HeaderAsked can h limit e = absurd (rests_not_limited limit e)
changes_limited s m (Declare name domain) can h limit e = absurd (rests_not_limited limit e)
changes_limited s m (DeclareIn name universe domain) can h limit e = absurd (not_limited m.paused limit e)
changes_limited s m (Add name con) can h limit e = absurd (not_limited m.paused limit e)
changes_limited s m (Relax place) can h limit e = absurd (not_limited m.paused limit e)
changes_limited s m (Enforce place) can h limit e = absurd (not_limited m.paused limit e)
changes_limited s m (Retract place) can h limit e = absurd (not_limited m.paused limit e)
changes_limited s m (Ask question) can h limit e = absurd (rests_not_limited limit e)
changes_limited s m Pause can h limit e = absurd (rests_not_limited limit e)
changes_limited s m Resume can h limit e = absurd (not_limited m.paused limit e)
changes_limited s m (Step count) can h limit e = ap (λ (z : SessionState). z.paused) h ∙ can
changes_limited s m (Solve by) can h limit e = let f : Searches by ≡ Filters (Some limit) = e in cc
changes_limited s m (ChooseGuide chosen) can h limit e = absurd (rests_not_limited limit e)
changes_limited s m (DropGuide number) can h limit e = absurd (rests_not_limited limit e)
changes_limited s m (ChooseOrder chosen) can h limit e = absurd (rests_not_limited limit e)
changes_limited s m (DropOrder number) can h limit e = absurd (rests_not_limited limit e)
changes_limited s m (Prefer place weight) can h limit e = absurd (rests_not_limited limit e)
changes_limited s m Quit can h limit e = absurd (rests_not_limited limit e)

-- ---- the change can be made

formed_at : (s : SessionState) → IsHeld s → (place : ℕ) (c : BookCon) → slice_get s.book.constraints place ≡ Some c → IsWellFormed (length s.book.variables) c.con
formed_at s is place c at =
    All-contains (λ (d : BookCon). IsWellFormed (length s.book.variables) d.con) s.book.constraints c is.book.formed (member_get s.book.constraints place c at)

withdraws_exist : (s : SessionState) → IsHeld s → (c : BookCon) → (e : EngineState) × WithdrawsActive s.engine c e
withdraws_exist s is c = by c.active
  where
    by : (b : Bool) → (e : EngineState) × WithdrawsWhere b s.engine (User c.number) e
    by true = withdrawal_exists s.engine (gone_with s.engine.active (User c.number)) is.valid
    by false = (s.engine, refl)

pub changes_exist : (s : SessionState) (request : Request) → IsHeld s → Admits s request → (m : SessionState) × Changes s request m
changes_exist s NothingAsked is can = (s, refl)
changes_exist s HeaderAsked is can = (s, refl)
changes_exist s (Declare name domain) is can = declares_exist s name domain can
changes_exist s (DeclareIn name universe domain) is can =
    let d = declares_exist s name universe can.declare in
    let a = adds_exist d.0 name (next_within s domain) (declares_keep s d.0 name universe is can.declare d.1) (adds_behind s d.0 name universe domain can d.1) in
    (a.0, (d.0, d.1, a.1))
changes_exist s (Add name con) is can = adds_exist s name con is can
changes_exist s (Relax place) is can =
    let w = withdrawal_exists s.engine (gone_with s.engine.active (User can.constraint.number)) is.valid in
    (with_engine (with_active_at s place false) w.0, (can.constraint, w.0, can.at, w.1, refl))
changes_exist s (Enforce place) is can =
    let c = can.constraint in
    let e : EngineState = posted s.engine (user_at c) in
    (with_engine (with_active_at s place true) e, (c, e, can.at, user_posts s is c (formed_at s is place c can.at) (relaxed_inactive s.book is.book place c can.at can.is), refl))
changes_exist s (Retract place) is can =
    let n = some_entry s.book.constraints place can in
    let w = withdraws_exist s is n.0 in
    (with_engine (without_constraint s place n.0) w.0, (n.0, w.0, n.1, w.1, refl))
changes_exist s (Ask question) is can = (s, refl)
changes_exist s Pause is can = (record s { paused = true }, refl)
changes_exist s Resume is can = (record s { paused = false }, refl)
changes_exist s (Step count) is can = (s, refl)
changes_exist s (Solve by) is can = (s, refl)
changes_exist s (ChooseGuide chosen) is can = (record s { guide = chosen }, refl)
changes_exist s (DropGuide number) is can = (without_guide s number, refl)
changes_exist s (ChooseOrder chosen) is can = (record s { order = chosen }, refl)
changes_exist s (DropOrder number) is can = (without_order s number, refl)
changes_exist s (Prefer place weight) is can = let n = some_entry s.book.constraints place can in (with_weight s n.0 weight, (n.0, n.1, refl))
changes_exist s Quit is can = (s, refl)

-- ---- in one way

one_at : (s : SessionState) (place : ℕ) (c d : BookCon) → slice_get s.book.constraints place ≡ Some c → slice_get s.book.constraints place ≡ Some d → c ≡ d
one_at s place c d x y = same_Some c d (sym x ∙ y)

withdraws_once : (e : EngineState) (c : BookCon) (t u : EngineState) → WithdrawsActive e c t → WithdrawsActive e c u → t ≡ u
withdraws_once e c t u one two = elim (withdraws_cases e c t one) [
  | inl w ↦ elim (withdraws_cases e c u two) [
    | inl v ↦ withdrawal_same e (gone_with e.active (User c.number)) t u w.1 v.1
    | inr v ↦ absurd (false≢true (sym v.0 ∙ w.0))
  ]
  | inr w ↦ elim (withdraws_cases e c u two) [
    | inl v ↦ absurd (false≢true (sym w.0 ∙ v.0))
    | inr v ↦ w.1 ∙ sym v.1
  ]
]

pub changes_once : (s m n : SessionState) (request : Request) → Changes s request m → Changes s request n → m ≡ n
changes_once s m n NothingAsked h k = h ∙ sym k
changes_once s m n HeaderAsked h k = h ∙ sym k
changes_once s m n (Declare name domain) h k = declares_once s m n name domain h k
changes_once s m n (DeclareIn name universe domain) h k =
    let same : h.0 ≡ k.0 = declares_once s h.0 k.0 name universe h.1 k.1 in
    adds_once k.0 m n name (next_within s domain) (subst (λ (z : SessionState). AddsNext z name (next_within s domain) m) same h.2) k.2
changes_once s m n (Add name con) h k = adds_once s m n name con h k
changes_once s m n (Relax place) h k =
    let c : h.0 ≡ k.0 = one_at s place h.0 k.0 h.2 k.2 in
    let e : h.1 ≡ k.1 = withdrawal_same s.engine (gone_with s.engine.active (User k.0.number)) h.1 k.1 (subst (λ (x : BookCon). Withdraws s.engine (User x.number) h.1) c h.3) k.3 in
    h.4 ∙ ap (λ (x : EngineState). with_engine (with_active_at s place false) x) e ∙ sym k.4
changes_once s m n (Enforce place) h k =
    let c : h.0 ≡ k.0 = one_at s place h.0 k.0 h.2 k.2 in
    let e : h.1 ≡ k.1 = h.3.after ∙ ap (λ (x : BookCon). posted s.engine (user_at x)) c ∙ sym k.3.after in
    h.4 ∙ ap (λ (x : EngineState). with_engine (with_active_at s place true) x) e ∙ sym k.4
changes_once s m n (Retract place) h k =
    let c : h.0 ≡ k.0 = one_at s place h.0 k.0 h.2 k.2 in
    let e : h.1 ≡ k.1 = withdraws_once s.engine k.0 h.1 k.1 (subst (λ (x : BookCon). WithdrawsActive s.engine x h.1) c h.3) k.3 in
    h.4 ∙ ap (λ (x : EngineState). with_engine (without_constraint s place h.0) x) e ∙ ap (λ (x : BookCon). with_engine (without_constraint s place x) k.1) c ∙ sym k.4
changes_once s m n (Ask question) h k = h ∙ sym k
changes_once s m n Pause h k = h ∙ sym k
changes_once s m n Resume h k = h ∙ sym k
changes_once s m n (Step count) h k = h ∙ sym k
changes_once s m n (Solve by) h k = h ∙ sym k
changes_once s m n (ChooseGuide chosen) h k = h ∙ sym k
changes_once s m n (DropGuide number) h k = h ∙ sym k
changes_once s m n (ChooseOrder chosen) h k = h ∙ sym k
changes_once s m n (DropOrder number) h k = h ∙ sym k
changes_once s m n (Prefer place weight) h k = h.2 ∙ ap (λ (c : BookCon). with_weight s c weight) (one_at s place h.0 k.0 h.1 k.1) ∙ sym k.2
changes_once s m n Quit h k = h ∙ sym k

-- ---- which objects are there, and which are chosen

-- the same objects are there and chosen
pub record KeepsObjects (s t : SessionState) : Type 0 where
  pub guides : t.guides ≡ s.guides
  pub orders : t.orders ≡ s.orders
  pub guide : t.guide ≡ s.guide
  pub order : t.order ≡ s.order

-- the request chooses an object or drops one
abbrev pub IsAboutObjects : Request → Type 0
IsAboutObjects (ChooseGuide chosen) = Unit {0}
IsAboutObjects (DropGuide number) = Unit {0}
IsAboutObjects (ChooseOrder chosen) = Unit {0}
IsAboutObjects (DropOrder number) = Unit {0}
IsAboutObjects _ = ⊥

-- a state that is another one but for its book and its engine, and for whether filtering waits
alike : (s t z : SessionState) → t ≡ z → KeepsObjects s z → KeepsObjects s t
alike s t z e k = subst (KeepsObjects s) (sym e) k

pub changes_objects : (s m : SessionState) (request : Request) → Changes s request m → IsAboutObjects request ⊎ KeepsObjects s m
changes_objects s m NothingAsked h = inr (alike s m s h (record { guides = refl; orders = refl; guide = refl; order = refl }))
changes_objects s m HeaderAsked h = inr (alike s m s h (record { guides = refl; orders = refl; guide = refl; order = refl }))
changes_objects s m (Declare name domain) h = inr (alike s m (with_engine (with_variable s name (values_in domain)) h.0) h.2 (record { guides = refl; orders = refl; guide = refl; order = refl }))
changes_objects s m (DeclareIn name universe domain) h =
    let k : KeepsObjects s h.0 = alike s h.0 (with_engine (with_variable s name (values_in universe)) h.1.0) h.1.2 (record { guides = refl; orders = refl; guide = refl; order = refl }) in
    inr (alike s m (with_engine (with_constraint h.0 name (next_within s domain)) h.2.0) h.2.2 (record { guides = k.guides; orders = k.orders; guide = k.guide; order = k.order }))
changes_objects s m (Add name con) h = inr (alike s m (with_engine (with_constraint s name con) h.0) h.2 (record { guides = refl; orders = refl; guide = refl; order = refl }))
changes_objects s m (Relax place) h = inr (alike s m (with_engine (with_active_at s place false) h.1) h.4 (record { guides = refl; orders = refl; guide = refl; order = refl }))
changes_objects s m (Enforce place) h = inr (alike s m (with_engine (with_active_at s place true) h.1) h.4 (record { guides = refl; orders = refl; guide = refl; order = refl }))
changes_objects s m (Retract place) h = inr (alike s m (with_engine (without_constraint s place h.0) h.1) h.4 (record { guides = refl; orders = refl; guide = refl; order = refl }))
changes_objects s m (Ask question) h = inr (alike s m s h (record { guides = refl; orders = refl; guide = refl; order = refl }))
changes_objects s m Pause h = inr (alike s m (record s { paused = true }) h (record { guides = refl; orders = refl; guide = refl; order = refl }))
changes_objects s m Resume h = inr (alike s m (record s { paused = false }) h (record { guides = refl; orders = refl; guide = refl; order = refl }))
changes_objects s m (Step count) h = inr (alike s m s h (record { guides = refl; orders = refl; guide = refl; order = refl }))
changes_objects s m (Solve by) h = inr (alike s m s h (record { guides = refl; orders = refl; guide = refl; order = refl }))
changes_objects s m (ChooseGuide chosen) h = inl tt
changes_objects s m (DropGuide number) h = inl tt
changes_objects s m (ChooseOrder chosen) h = inl tt
changes_objects s m (DropOrder number) h = inl tt
changes_objects s m (Prefer place weight) h = inr (alike s m (with_weight s h.0 weight) h.2 (record { guides = refl; orders = refl; guide = refl; order = refl }))
changes_objects s m Quit h = inr (alike s m s h (record { guides = refl; orders = refl; guide = refl; order = refl }))

-- nothing follows a request about objects
pub objects_rest : (s : SessionState) (request : Request) → IsAboutObjects request → next s request ≡ Rests
objects_rest s (ChooseGuide chosen) is = refl
objects_rest s (DropGuide number) is = refl
objects_rest s (ChooseOrder chosen) is = refl
objects_rest s (DropOrder number) is = refl
objects_rest s _ is = absurd is

-- the request chooses no guide and no order by its number
pub record IsOther (request : Request) : Type 0 where
  pub guide : (number : ℕ) → request ≡ ChooseGuide (Some number) → ⊥
  pub order : (number : ℕ) → request ≡ ChooseOrder (Some number) → ⊥

-- no guide and no order is chosen, and all that are there are among these
pub record IsWithout (guides orders : List ℕ) (s : SessionState) : Type 0 where
  pub unguided : s.guide ≡ None
  pub free : s.order ≡ None
  pub guides_within : (n : ℕ) → Contains s.guides n → Contains guides n
  pub orders_within : (n : ℕ) → Contains s.orders n → Contains orders n

module _ (guides orders : List ℕ) (s m : SessionState) (is : IsWithout guides orders s) where
  pub kept_without : KeepsObjects s m → IsWithout guides orders m
  kept_without k = record {
    unguided = k.guide ∙ is.unguided;
    free = k.order ∙ is.free;
    guides_within = λ n c. is.guides_within n (subst (λ (ns : List ℕ). Contains ns n) k.guides c);
    orders_within = λ n c. is.orders_within n (subst (λ (ns : List ℕ). Contains ns n) k.orders c);
  }

  -- a request about objects that chooses none leaves none chosen
  pub changes_without : (request : Request) → IsAboutObjects request → Changes s request m → IsOther request → IsWithout guides orders m
  changes_without (ChooseGuide None) about h other = subst (IsWithout guides orders) (sym h) (record { unguided = refl; free = is.free; guides_within = is.guides_within; orders_within = is.orders_within })
  changes_without (ChooseGuide (Some number)) about h other = absurd (other.guide number refl)
  changes_without (DropGuide number) about h other = subst (IsWithout guides orders) (sym h) (record {
    unguided = ap (chosen_without number) is.unguided;
    free = is.free;
    guides_within = λ n c. is.guides_within n (left_inside number s.guides n c);
    orders_within = is.orders_within;
  })
  changes_without (ChooseOrder None) about h other = subst (IsWithout guides orders) (sym h) (record { unguided = is.unguided; free = refl; guides_within = is.guides_within; orders_within = is.orders_within })
  changes_without (ChooseOrder (Some number)) about h other = absurd (other.order number refl)
  changes_without (DropOrder number) about h other = subst (IsWithout guides orders) (sym h) (record {
    unguided = is.unguided;
    free = ap (chosen_without number) is.free;
    guides_within = is.guides_within;
    orders_within = λ n c. is.orders_within n (left_inside number s.orders n c);
  })
  changes_without _ about h other = absurd about

-- ---- which requests are searches

rests_not_searches : (by : Procedure) → Rests ≡ Searches by → ⊥
rests_not_searches by e = cc

waits_not_searches : (b : Bool) (by : Procedure) → (if b then Rests else Filters None) ≡ Searches by → ⊥
waits_not_searches true by e = cc
waits_not_searches false by e = cc

pub searches_by : (m : SessionState) (request : Request) (by : Procedure) → next m request ≡ Searches by → request ≡ Solve by
searches_by m (DeclareIn name universe domain) by e = absurd (waits_not_searches m.paused by e)
searches_by m (Add name con) by e = absurd (waits_not_searches m.paused by e)
searches_by m (Relax place) by e = absurd (waits_not_searches m.paused by e)
searches_by m (Enforce place) by e = absurd (waits_not_searches m.paused by e)
searches_by m (Retract place) by e = absurd (waits_not_searches m.paused by e)
searches_by m Resume by e = absurd (waits_not_searches m.paused by e)
searches_by m (Step count) by e = let f : Filters (Some count) ≡ Searches by = e in cc
searches_by m (Solve other) by e = let f : Searches other ≡ Searches by = e in let same : other ≡ by = cc in ap Solve same
searches_by m _ by e = absurd (rests_not_searches by e)
