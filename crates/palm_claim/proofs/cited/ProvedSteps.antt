-- What a checker finds of a step: the one constraint that has its name, whether its reasons are earlier, and that its pairs
-- stay declared.
use Rattle.std.proofs.Common.{◌≡◌, ◌≢◌, ℕ, zero, suc, ℤ, ◌<◌, ◌≤◌, Some, IfSome, List, [], ◌∷◌, ◌++◌, length, get_or, slice_get, All, Any, AllPairs, Contains, inl, inr, refl, sym, ap, ◌∙◌, subst, arith}
use Rattle.std.proofs.lemmas.Bool.{cases_lt}
use Rattle.std.proofs.lemmas.List.{get_or_default, map_push}
use Rattle.std.proofs.lemmas.List.Elements.{All-contains, All-weaker}
use Rattle.palm_base.specs.declared.terms.Pair.{Pair}
use Rattle.palm_base.proofs.cited.Members.{all_members, member_get, member_unmap}
use Rattle.palm_book.specs.Book.{Contents, BookVar, initial_of, with_variable}
use Rattle.palm_book.specs.declared.book.BookCon.{BookCon}
use Rattle.palm_book.proofs.cited.Any.{any_member, member_any}
use Rattle.palm_model.specs.Domains.{Domains, Has, without}
use Rattle.palm_model.specs.Support.{LacksSupport}
use Rattle.palm_claim.specs.Statement.{IsStepNumber}
use Rattle.palm_claim.specs.Step.{IsRight, pair_at, pairs_at}
use Rattle.palm_book.proofs.cited.Naming.{some_known}
use Rattle.palm_read.proofs.cited.KnownLimits.{above_known}
use Rattle.palm_claim.proofs.cited.Asked.{settled}
use Rattle.palm_claim.proofs.cited.Explained.{proved_member}

-- ---- names

pub constraint_known : (cs : List BookCon) (place : ℕ) (by : List ℕ) (c : BookCon) → slice_get cs place ≡ Some c → c.name ≡ by → Any (λ d. d.name ≡ by) cs
constraint_known cs place by c at named = any_member (λ (d : BookCon). d.name ≡ by) cs c (member_get cs place c at) named

-- only one constraint has a name
pub same_constraint : (cs : List BookCon) (c d : BookCon) → AllPairs (λ (a b : BookCon). a.name ≢ b.name) cs → Contains cs c → Contains cs d → c.name ≡ d.name → c ≡ d
same_constraint cs c d apart m n e =
    elim (cases_lt m.0 n.0) [
      | inl l ↦ absurd (apart m.0 n.0 c l n.1 (ap (λ (z : BookCon). z.name) (m.2) ∙ e ∙ sym (ap (λ (z : BookCon). z.name) (get_or_default cs n.0 c d n.1 ∙ n.2))))
      | inr g ↦ elim (cases_lt n.0 m.0) [
        | inl l ↦ absurd (apart n.0 m.0 c l m.1 (ap (λ (z : BookCon). z.name) (get_or_default cs n.0 c d n.1 ∙ n.2) ∙ sym e ∙ sym (ap (λ (z : BookCon). z.name) m.2)))
        | inr h ↦
            let same : m.0 ≡ n.0 = omega (arith, g, h) in
            sym m.2 ∙ ap (λ (k : ℕ). get_or cs k c) same ∙ get_or_default cs n.0 c d n.1 ∙ n.2
      ]
    ]

-- the step is right where its pair lacks support in the one constraint that has the name
pub right_at : (book : Contents) (proved : List Pair) (pair : Pair) (by : List ℕ) (reasons : List ℕ) (place : ℕ) (c : BookCon)
    → slice_get book.constraints place ≡ Some c → c.name ≡ by → LacksSupport (without (initial_of book) (pairs_at proved reasons)) c.con pair.var pair.value → IsRight book proved pair by reasons
right_at book proved pair by reasons place c at named lacks = record { owner = c; listed = member_get book.constraints place c at; named = named; lacks = lacks }

pub lacks_at : (book : Contents) (proved : List Pair) (pair : Pair) (by : List ℕ) (reasons : List ℕ) (place : ℕ) (c : BookCon)
    → AllPairs (λ (a b : BookCon). a.name ≢ b.name) book.constraints → slice_get book.constraints place ≡ Some c → c.name ≡ by
    → IsRight book proved pair by reasons → LacksSupport (without (initial_of book) (pairs_at proved reasons)) c.con pair.var pair.value
lacks_at book proved pair by reasons place c apart at named right =
    let same : right.owner ≡ c = same_constraint book.constraints right.owner c apart right.listed (member_get book.constraints place c at) (right.named ∙ sym named) in
    subst (λ (d : BookCon). LacksSupport (without (initial_of book) (pairs_at proved reasons)) d.con pair.var pair.value) same right.lacks

-- ---- reasons

pub reasons_early : (proved : List Pair) (reasons : List ℕ) → All (λ k. k ≤ length proved) reasons → Any (λ k. length proved < k) reasons → ⊥
reasons_early proved reasons early late =
    let m = member_any (λ k. length proved < k) reasons late in
    let most : m.0 ≤ length proved = All-contains (λ k. k ≤ length proved) reasons m.0 early m.1 in
    let above : length proved < m.0 = m.2 in
    omega (arith, most, above)

pub reasons_fit : (proved : List Pair) (reasons : List ℕ) → All IsStepNumber reasons → All (λ k. k ≤ length proved) reasons → All (λ k. (1 ≤ k) × (k ≤ length proved)) reasons
reasons_fit proved reasons range early = all_members (λ k. (1 ≤ k) × (k ≤ length proved)) reasons (λ k m.
    let some = (All-contains IsStepNumber reasons k range m).0 in
    let one : 1 ≤ k = omega (arith, some) in
    let most : k ≤ length proved = All-contains (λ j. j ≤ length proved) reasons k early m in
    (one, most))

-- some reason is late where not all are early
pub some_late : (proved : List Pair) (reasons : List ℕ) → (All (λ k. k ≤ length proved) reasons → ⊥) → Any (λ k. length proved < k) reasons
some_late proved reasons late = settled (some_known (λ k. length proved < k) reasons (above_known (length proved)))
    (λ none. late (all_members (λ k. k ≤ length proved) reasons (λ k m. elim (cases_lt (length proved) k) [
      | inl l ↦ absurd (none (any_member (λ j. length proved < j) reasons k m l))
      | inr h ↦ h
    ])))

-- a member stands at each place within the list
pub some_at : {X : Type 0} (xs : List X) (place : ℕ) → place < length xs → (x : X) × (slice_get xs place ≡ Some x)
some_at [] place lt = absurd (omega (arith, lt))
some_at (x ∷ xs) zero lt = (x, refl)
some_at (x ∷ xs) (suc place) lt = some_at xs place (omega (arith, lt))

-- the constraint that was found by its name
pub found_at : (cs : List BookCon) (place : ℕ) (by : List ℕ) → IfSome (slice_get cs place) (λ c. c.name ≡ by) → place < length cs → (c : BookCon) × (slice_get cs place ≡ Some c) × (c.name ≡ by)
found_at cs place by found lt = let c = some_at cs place lt in (c.0, c.1, rw c.1 at found)

-- ---- declared pairs

has_push : (d : Domains) (vs : List ℤ) (x : ℕ) (v : ℤ) → Has d x v → Has (d ++ vs ∷ []) x v
has_push [] vs x v h = absurd (omega (arith, h.1))
has_push (w ∷ ws) vs zero v h = h
has_push (w ∷ ws) vs (suc x) v h = has_push ws vs x v h

-- pairs stay declared where one more variable is
pub still_declared : (book : Contents) (name : List ℕ) (vs : List ℤ) (proved : List Pair) → All (λ p. Has (initial_of book) p.var p.value) proved
    → All (λ p. Has (initial_of (with_variable book name vs)) p.var p.value) proved
still_declared book name vs proved declared =
    let entry : BookVar = record { name = name; values = vs } in
    let bigger : Contents = with_variable book name vs in
    let pushed : initial_of bigger ≡ initial_of book ++ vs ∷ [] = map_push (λ (e : BookVar). e.values) book.variables entry in
    All-weaker (λ (p : Pair). Has (initial_of book) p.var p.value) (λ (p : Pair). Has (initial_of bigger) p.var p.value)
    (λ p h. subst (λ (ds : Domains). Has ds p.var p.value) (sym pushed) (has_push (initial_of book) vs p.var p.value h)) proved declared

-- what holds of all pairs that were proved holds of those of the reasons
pub pairs_declared : (P : Pair → Type 0) (proved : List Pair) (reasons : List ℕ) → All P proved → All (λ k. (1 ≤ k) × (k ≤ length proved)) reasons → All P (pairs_at proved reasons)
pairs_declared P proved reasons all fit = all_members P (pairs_at proved reasons) (λ p m.
    let u = member_unmap (pair_at proved) reasons p m in
    let bounds = All-contains (λ k. (1 ≤ k) × (k ≤ length proved)) reasons u.0 fit u.1 in
    subst P u.2 (All-contains P proved (pair_at proved u.0) all (proved_member proved u.0 bounds.0 bounds.1)))
