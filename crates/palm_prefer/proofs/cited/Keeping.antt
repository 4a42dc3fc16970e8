-- What is true of those that are kept and left out.
use Rattle.std.proofs.Common.{◌<◌, List, [], ◌∷◌, ◌++◌, filter, length, not, All, Contains, inl, inr, sym, ap, ◌∙◌, subst}
use Rattle.std.proofs.lemmas.Bool.{and_parts}
use Rattle.std.proofs.lemmas.List.{length-map}
use Rattle.std.proofs.lemmas.List.Elements.{All-cons, All-contains, All-map, All-nil, Contains-append_left, Contains-push, Contains-push_cases}
use Rattle.palm_base.proofs.cited.CidOrder.{cid_known}
use Rattle.palm_base.proofs.cited.Members.{all_members, filter_member, member_filter, member_known, member_map, member_same, member_unmap}
use Rattle.palm_base.specs.declared.terms.Cid.{Cid}
use Rattle.palm_base.specs.declared.terms.Cid.TheVariants.{User}
use Rattle.palm_book.proofs.cited.Actives.{active_formed}
use Rattle.palm_book.specs.Book.{BookVar, Contents, IsBook, active_of, initial_of, user_at}
use Rattle.palm_book.specs.declared.book.BookCon.{BookCon}
use Rattle.palm_events.proofs.cited.States.{with_posted_cases}
use Rattle.palm_laws.proofs.cited.Growing.{conflicts_grow}
use Rattle.palm_laws.proofs.cited.Reducing.{left_within, minimal_holds, minimal_needed}
use Rattle.palm_laws.proofs.cited.Solutions.{conflict_no_solution, formed_declared}
use Rattle.palm_model.specs.Constraint.{IsWellFormed}
use Rattle.palm_model.specs.Domains.{Domains}
use Rattle.palm_model.specs.Event.{with_posted}
use Rattle.palm_model.specs.Log.{Active, cids_of, cons_of}
use Rattle.palm_model.specs.Minimal.{AreConflict, IsMinimalConflict}
use Rattle.palm_prefer.specs.Laws.{IsTight, conflicts_of}
use Rattle.palm_prefer.specs.Preferred.{IsKept, IsOrder, IsPreferred, Walks, hard, has_weight, is_hard}
use Rattle.palm_prefer.specs.Preferred.Walks.{starts, joins, leaves}
use Rattle.palm_prefer.specs.declared.answer.LeftOut.{LeftOut}
use Rattle.palm_prefer.specs.declared.answer.Preferred.{Preferred}
use Rattle.palm_prefer.specs.declared.answer.Preferred.TheVariants.{Hard, Kept}
use Rattle.palm_prefer.specs.declared.weights.Weight.{Weight}

-- ---- the kept ones

no_conflict : (initial : Domains) (first : List Active) (walked : List BookCon) (kept : List Active) (left : List LeftOut) → Walks initial first walked kept left → (AreConflict initial first → ⊥) → AreConflict initial kept → ⊥
no_conflict initial first _ _ _ starts free = free
no_conflict initial first _ _ _ (joins walked c kept left before none) free = none
no_conflict initial first _ _ _ (leaves walked c kept left conflict before minimal) free = no_conflict initial first walked kept left before free

pub kept_free : (book : Contents) (weights : List Weight) (keep : List Cid) (left : List LeftOut) (is : IsKept book weights keep left) → AreConflict (initial_of book) is.kept → ⊥
kept_free book weights keep left is = no_conflict (initial_of book) (hard book weights) is.order is.kept left is.walk is.free

-- ---- the one that is left out

pub own : (initial : Domains) (kept : List Active) (c : BookCon) (conflict : List Cid) → (AreConflict initial kept → ⊥) → IsMinimalConflict initial (with_posted (user_at c) kept) conflict → Contains conflict (User c.number)
own initial kept c conflict free minimal = elim (member_known cid_known conflict (User c.number)) [
  | inl m ↦ m
  | inr out ↦ absurd (free (conflicts_grow initial minimal.left kept
      (λ a m. elim (with_posted_cases (user_at c) kept a (left_within (AreConflict initial) [] (with_posted (user_at c) kept) minimal.left minimal.walk a m)) [
        | inl e ↦ absurd (out (subst (λ (ns : List Cid). Contains ns (User c.number)) (sym minimal.named)
            (member_same (cids_of minimal.left) a.cid (User c.number) (sym (ap (λ (z : Active). z.cid) e)) (member_map (λ (z : Active). z.cid) minimal.left a m))))
        | inr k ↦ k
      ])
      (minimal_holds (AreConflict initial) (with_posted (user_at c) kept) conflict minimal)))
]

abbrev HoldsOwn : LeftOut → Type 0
HoldsOwn out = Contains out.conflict (User out.number)

all_pushed : {X : Type 0} (P : X → Type 0) (xs : List X) (x : X) → All P xs → P x → All P (xs ++ x ∷ [])
all_pushed P xs x all one = all_members P (xs ++ x ∷ []) (λ y m. elim (Contains-push_cases xs x y m) [
  | inl k ↦ All-contains P xs y all k
  | inr e ↦ subst P e one
])

hold_own : (initial : Domains) (first : List Active) (walked : List BookCon) (kept : List Active) (left : List LeftOut) → Walks initial first walked kept left → (AreConflict initial first → ⊥) → All HoldsOwn left
hold_own initial first _ _ _ starts free = All-nil HoldsOwn
hold_own initial first _ _ _ (joins walked c kept left before none) free = hold_own initial first walked kept left before free
hold_own initial first _ _ _ (leaves walked c kept left conflict before minimal) free =
    all_pushed HoldsOwn left (record { number = c.number; conflict = conflict }) (hold_own initial first walked kept left before free)
    (own initial kept c conflict (no_conflict initial first walked kept left before free) minimal)

pub conflicts_hold : (book : Contents) (weights : List Weight) (keep : List Cid) (left : List LeftOut) → IsKept book weights keep left → All HoldsOwn left
conflicts_hold book weights keep left is = hold_own (initial_of book) (hard book weights) is.order is.kept left is.walk is.free

-- ---- active constraints of a book

pub hard_active : (book : Contents) (weights : List Weight) (a : Active) → Contains (hard book weights) a → Contains (active_of book) a
hard_active book weights a m =
    let r = member_unmap user_at (filter (is_hard weights) book.constraints) a m in
    let f = filter_member (is_hard weights) book.constraints r.0 r.1 in
    member_same (active_of book) (user_at r.0) a r.2
    (member_map user_at (filter (λ (c : BookCon). c.active) book.constraints) r.0
    (member_filter (λ (c : BookCon). c.active) book.constraints r.0 f.0 (and_parts r.0.active (not (has_weight weights r.0)) f.1).0))

pub order_active : (book : Contents) (weights : List Weight) (order : List BookCon) → IsOrder book weights order → (c : BookCon) → Contains order c → Contains (active_of book) (user_at c)
order_active book weights order ordered c m =
    let soft = (ordered.each c).0 m in
    member_map user_at (filter (λ (d : BookCon). d.active) book.constraints) c (member_filter (λ (d : BookCon). d.active) book.constraints c soft.among soft.active)

pub walked_active : (initial : Domains) (all first : List Active) (walked : List BookCon) (kept : List Active) (left : List LeftOut) → ((a : Active) → Contains first a → Contains all a) → ((c : BookCon) → Contains walked c → Contains all (user_at c))
    → Walks initial first walked kept left → (a : Active) → Contains kept a → Contains all a
walked_active initial all first _ _ _ from soft starts a m = from a m
walked_active initial all first _ _ _ from soft (joins walked c kept left before none) a m = elim (with_posted_cases (user_at c) kept a m) [
  | inl e ↦ member_same all (user_at c) a e (soft c (Contains-push walked c))
  | inr k ↦ walked_active initial all first walked kept left from (λ d n. soft d (Contains-append_left walked (c ∷ []) d n)) before a k
]
walked_active initial all first _ _ _ from soft (leaves walked c kept left conflict before minimal) a m =
    walked_active initial all first walked kept left from (λ d n. soft d (Contains-append_left walked (c ∷ []) d n)) before a m

-- ---- conflicts

tight : (book : Contents) → IsBook book → (among : List Active) (conflict : List Cid) → ((a : Active) → Contains among a → Contains (active_of book) a) → IsMinimalConflict (initial_of book) among conflict → IsTight book conflict
tight book is among conflict sub minimal =
    let P = AreConflict (initial_of book) in
    let within : (a : Active) → Contains minimal.left a → Contains (active_of book) a = λ a m. sub a (left_within P [] among minimal.left minimal.walk a m) in
    let holds = minimal_holds P among conflict minimal in
    record {
      members = minimal.left;
      named = minimal.named;
      within = within;
      holds = holds;
      unsolved = λ a solves. conflict_no_solution (initial_of book) (Contains (cons_of minimal.left)) a
          (λ c p x m.
          let r = member_unmap (λ (b : Active). b.con) minimal.left c m in
          formed_declared (length (initial_of book)) (cons_of (active_of book))
          (subst (λ n. All (IsWellFormed n) (cons_of (active_of book))) (sym (length-map book.variables (λ (v : BookVar). v.values))) (active_formed book is))
          c p x (member_same (cons_of (active_of book)) r.0.con c r.2 (member_map (λ (b : Active). b.con) (active_of book) r.0 (within r.0 r.1))))
          holds solves;
      needed = λ place lt. minimal_needed P (conflicts_grow (initial_of book)) among conflict minimal place
          (subst (λ n. place < n) (sym (ap length minimal.named ∙ length-map minimal.left (λ (b : Active). b.cid))) lt);
    }

-- what holds of each minimal conflict of active constraints holds of those of the ones that are left out
pub all_left : (book : Contents) (P : List Cid → Type 0) → ((among : List Active) (conflict : List Cid) → ((a : Active) → Contains among a → Contains (active_of book) a) → IsMinimalConflict (initial_of book) among conflict → P conflict)
    → (first : List Active) (walked : List BookCon) (kept : List Active) (left : List LeftOut) → ((a : Active) → Contains first a → Contains (active_of book) a) → ((c : BookCon) → Contains walked c → Contains (active_of book) (user_at c))
    → Walks (initial_of book) first walked kept left → All (λ out. P out.conflict) left
all_left book P each first _ _ _ from soft starts = All-nil (λ (out : LeftOut). P out.conflict)
all_left book P each first _ _ _ from soft (joins walked c kept left before none) = all_left book P each first walked kept left from (λ d n. soft d (Contains-append_left walked (c ∷ []) d n)) before
all_left book P each first _ _ _ from soft (leaves walked c kept left conflict before minimal) =
    all_pushed (λ (out : LeftOut). P out.conflict) left (record { number = c.number; conflict = conflict })
    (all_left book P each first walked kept left from (λ d n. soft d (Contains-append_left walked (c ∷ []) d n)) before)
    (each (with_posted (user_at c) kept) conflict
    (λ a m. elim (with_posted_cases (user_at c) kept a m) [
      | inl e ↦ member_same (active_of book) (user_at c) a e (soft c (Contains-push walked c))
      | inr k ↦ walked_active (initial_of book) (active_of book) first walked kept left from (λ d n. soft d (Contains-append_left walked (c ∷ []) d n)) before a k
    ]) minimal)

pub conflicts_tight : (book : Contents) (weights : List Weight) (preferred : Preferred) → IsBook book → IsPreferred book weights preferred → All (IsTight book) (conflicts_of preferred)
conflicts_tight book weights (Hard conflict) is minimal =
    All-cons (IsTight book) conflict [] (tight book is (hard book weights) conflict (hard_active book weights) minimal) (All-nil (IsTight book))
conflicts_tight book weights (Kept keep left) is kept =
    All-map (IsTight book) (λ (out : LeftOut). out.conflict) left
    (all_left book (IsTight book) (tight book is) (hard book weights) kept.order kept.kept left (hard_active book weights)
    (order_active book weights kept.order kept.ordered) kept.walk)
