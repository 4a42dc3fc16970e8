-- The same answers lead to the same settling.
use Rattle.std.proofs.Common.{◌≡◌, ℕ, suc, ◌+◌, Option, Some, None, List, [], ◌∷◌, length, slice_get, Contains, All, refl, sym, ap, ◌∙◌, subst, arith}
use Rattle.palm_base.specs.declared.terms.Pair.{Pair}
use Rattle.palm_base.proofs.cited.Members.{member_nil}
use Rattle.std.proofs.lemmas.List.Elements.{All-nil, All-cons, All-head, All-tail}
use Rattle.palm_model.specs.Domains.{Has}
use Rattle.palm_model.specs.Support.{IsSupported}
use Rattle.palm_base.specs.Order.{Rises}
use Rattle.palm_model.specs.Log.{Active, cids_of}
use Rattle.palm_model.specs.State.{EngineState, HasEmpty, present}
use Rattle.palm_model.specs.Event.{Removes}
use Rattle.palm_events.proofs.cited.Names.{single}
use Rattle.palm_engine.specs.Settling.{IsSameSettling, Walks, Revision, Revises, Revisions, Settles, IsInLimit, IsEnded, IsAnswered, walk_order, rested, index_within}
use Rattle.palm_engine.specs.Settling.Walks.{walked_all, walked_empty, walked_past, walked_out}
use Rattle.palm_engine.specs.Settling.IsEnded.{ended_empty, ended_quiet, ended_limit}
use Rattle.palm_engine.proofs.cited.Walking.{not_empty, chosen_pending, revision_filters}

-- ---- walks

-- where a walk leads, and how much it took out
pub record IsSame (n : ℕ) (t : EngineState) (k : ℕ) (u : EngineState) : Type 0 where
  pub count : n ≡ k
  pub state : t ≡ u

pub walk_nil : (a : Active) (s : EngineState) (n : ℕ) (t : EngineState) → Walks a [] s n t → IsSame n t 0 s
walk_nil a _ _ _ (walked_all s) = record { count = refl; state = refl }
walk_nil a _ _ _ (walked_empty _ s empty) = record { count = refl; state = refl }

-- the first step of a walk
pub data First (a : Active) (p : Pair) (pairs : List Pair) (s : EngineState) (n : ℕ) (t : EngineState) : Type 0 where
  stopped : HasEmpty (present s) → IsSame n t 0 s → First a p pairs s n t
  passed : (Has (present s) p.var p.value → IsSupported (present s) a.con p.var p.value) → Walks a pairs s n t → First a p pairs s n t
  took : (m : EngineState) (k : ℕ) → Removes s a p m → n ≡ suc k → Walks a pairs m k t → First a p pairs s n t

pub walk_first : (a : Active) (p : Pair) (pairs : List Pair) (s : EngineState) (n : ℕ) (t : EngineState) → Walks a (p ∷ pairs) s n t → First a p pairs s n t
walk_first a _ _ _ _ _ (walked_empty _ s empty) = stopped empty (record { count = refl; state = refl })
walk_first a _ _ _ _ _ (walked_past p pairs s n t supported walk) = passed supported walk
walk_first a _ _ _ _ _ (walked_out p pairs s m n t removes walk) = took m n removes refl walk

-- with an empty domain a walk leads nowhere
walk_stuck : (a : Active) (pairs : List Pair) (s : EngineState) (n : ℕ) (t : EngineState) → HasEmpty (present s) → Walks a pairs s n t → IsSame n t 0 s
walk_stuck a [] s n t empty walk = walk_nil a s n t walk
walk_stuck a (p ∷ pairs) s n t empty walk = elim (walk_first a p pairs s n t walk) [
  | stopped e same ↦ same
  | passed supported rest ↦ walk_stuck a pairs s n t empty rest
  | took m k removes e rest ↦ absurd (not_empty (present s) removes.filled empty)
]

same_sym : (n : ℕ) (t : EngineState) (k : ℕ) (u : EngineState) → IsSame n t k u → IsSame k u n t
same_sym n t k u same = record { count = sym same.count; state = sym same.state }

same_then : (n : ℕ) (t : EngineState) (j : ℕ) (z : EngineState) (k : ℕ) (u : EngineState) → IsSame n t j z → IsSame j z k u → IsSame n t k u
same_then n t j z k u one other = record { count = one.count ∙ other.count; state = one.state ∙ other.state }

pub walk_same : (a : Active) (pairs : List Pair) (s : EngineState) (n : ℕ) (t : EngineState) (k : ℕ) (u : EngineState) → Walks a pairs s n t → Walks a pairs s k u → IsSame n t k u
walk_same a [] s n t k u one other = same_then n t 0 s k u (walk_nil a s n t one) (same_sym k u 0 s (walk_nil a s k u other))
walk_same a (p ∷ pairs) s n t k u one other = elim (walk_first a p pairs s n t one) [
  | stopped empty same ↦ same_then n t 0 s k u same (same_sym k u 0 s (walk_stuck a (p ∷ pairs) s k u empty other))
  | passed supported rest ↦ elim (walk_first a p pairs s k u other) [
    | stopped empty same ↦ same_then n t 0 s k u (walk_stuck a (p ∷ pairs) s n t empty one) (same_sym k u 0 s same)
    | passed supported' rest' ↦ walk_same a pairs s n t k u rest rest'
    | took m j removes e rest' ↦ absurd (removes.lacks.lacks ((supported removes.has).each removes.lacks.part removes.lacks.is_part removes.lacks.over))
  ]
  | took m i removes e rest ↦ elim (walk_first a p pairs s k u other) [
    | stopped empty same ↦ absurd (not_empty (present s) removes.filled empty)
    | passed supported rest' ↦ absurd (removes.lacks.lacks ((supported removes.has).each removes.lacks.part removes.lacks.is_part removes.lacks.over))
    | took m' j removes' e' rest' ↦
        let at : Walks a pairs m j u = subst (λ z. Walks a pairs z j u) (removes'.after ∙ sym removes.after) rest' in
        let same = walk_same a pairs m i t j u rest at in
        record { count = e ∙ ap suc same.count ∙ sym e'; state = same.state }
  ]
]

-- ---- revisions

pub record IsSameRevision (q : Revision) (t : EngineState) (r : Revision) (u : EngineState) : Type 0 where
  pub revision : q ≡ r
  pub state : t ≡ u

pub some_same : {X : Type 0} (x y : X) → Some x ≡ Some y → x ≡ y
some_same x y e = cc

pub revision_same : (s : EngineState) (q : Revision) (t : EngineState) (r : Revision) (u : EngineState) → Rises (cids_of s.active) → q.answer ≡ r.answer → Revises s q t → Revises s r u → IsSameRevision q t r u
revision_same s q t r u rises answer one other =
    let cid : q.cid ≡ r.cid = some_same q.cid r.cid (sym one.chosen ∙ ap (λ i. slice_get s.pending (index_within i (length s.pending))) answer ∙ other.chosen) in
    let owner : one.owner ≡ other.owner = single s.active rises one.owner other.owner one.posted other.posted (one.named ∙ cid ∙ sym other.named) in
    let walk : Walks other.owner (walk_order s.initial other.owner.con) s q.removed one.state =
    subst (λ (a : Active). Walks a (walk_order s.initial a.con) s q.removed one.state) owner one.walk in
    let same = walk_same other.owner (walk_order s.initial other.owner.con) s q.removed one.state r.removed other.state walk other.walk in
    record {
      revision = λ i. record { answer = answer i; cid = cid i; removed = same.count i };
      state = one.after ∙ (λ i. rested (same.count i) (cid i) (same.state i)) ∙ sym other.after;
    }

-- ---- settlings

-- where it is over, no revision runs
over_stops : (limit : Option ℕ) (count more : ℕ) (s : EngineState) (r : Revision) (t : EngineState) → IsEnded limit count s → IsInLimit limit (count + suc more) → Revises s r t → ⊥
over_stops limit count more s r t (ended_empty empty) within revises = not_empty (present s) revises.filled empty
over_stops limit count more s r t (ended_quiet quiet) within revises = member_nil r.cid (subst (λ cs. Contains cs r.cid) quiet (chosen_pending s r t revises))
over_stops None count more s r t (ended_limit reached) within revises = reached
over_stops (Some limit) count more s r t (ended_limit reached) within revises = omega arith

revisions_same : (limit : Option ℕ) (f : ℕ → ℕ) (n : ℕ) (s : EngineState) (qs : List Revision) (t : EngineState) (rs : List Revision) (u : EngineState) → Rises (cids_of s.active)
    → IsAnswered f qs → IsAnswered f rs → Revisions s qs t → Revisions s rs u
    → IsInLimit limit (n + length qs) → IsInLimit limit (n + length rs) → IsEnded limit (n + length qs) t → IsEnded limit (n + length rs) u → IsSameSettling qs t rs u
revisions_same limit f n s [] t [] u rises aq ar one other wq wr oq or = record { revisions = refl; state = one ∙ sym other }
revisions_same limit f n s [] t (r ∷ rs) u rises aq ar one other wq wr oq or =
    absurd (over_stops limit (n + 0) (length rs) s r other.0 (subst (λ z. IsEnded limit (n + 0) z) one oq) (subst (λ k. IsInLimit limit k) (assoc n (length rs)) wr) other.1)
  where
    assoc : (n m : ℕ) → n + suc m ≡ (n + 0) + suc m
    assoc n m = omega arith
revisions_same limit f n s (q ∷ qs) t [] u rises aq ar one other wq wr oq or =
    absurd (over_stops limit (n + 0) (length qs) s q one.0 (subst (λ z. IsEnded limit (n + 0) z) other or) (subst (λ k. IsInLimit limit k) (assoc n (length qs)) wq) one.1)
  where
    assoc : (n m : ℕ) → n + suc m ≡ (n + 0) + suc m
    assoc n m = omega arith
revisions_same limit f n s (q ∷ qs) t (r ∷ rs) u rises aq ar one other wq wr oq or =
    let first = revision_same s q one.0 r other.0 rises (aq.0 ∙ sym ar.0) one.1 other.1 in
    let rises' : Rises (cids_of one.0.active) = subst (λ l. Rises (cids_of l)) (sym (revision_filters s q one.0 one.1).active) rises in
    let rest = revisions_same limit (λ k. f (suc k)) (n + 1) one.0 qs t rs u rises' aq.1 ar.1 one.2 (subst (λ z. Revisions z rs u) (sym first.state) other.2)
    (subst (λ k. IsInLimit limit k) (next n (length qs)) wq) (subst (λ k. IsInLimit limit k) (next n (length rs)) wr)
    (subst (λ k. IsEnded limit k t) (next n (length qs)) oq) (subst (λ k. IsEnded limit k u) (next n (length rs)) or) in
    record { revisions = λ i. first.revision i ∷ rest.revisions i; state = rest.state }
  where
    next : (n m : ℕ) → n + suc m ≡ (n + 1) + m
    next n m = omega arith

zero_plus : (m : ℕ) → m ≡ 0 + m
zero_plus m = omega arith

pub settling_same : (limit : Option ℕ) (f : ℕ → ℕ) (s : EngineState) (qs : List Revision) (t : EngineState) (rs : List Revision) (u : EngineState) → Rises (cids_of s.active)
    → IsAnswered f qs → IsAnswered f rs → Settles limit s qs t → Settles limit s rs u → IsSameSettling qs t rs u
settling_same limit f s qs t rs u rises aq ar one other =
    revisions_same limit f 0 s qs t rs u rises aq ar one.revisions other.revisions
    (subst (λ k. IsInLimit limit k) (zero_plus (length qs)) one.within) (subst (λ k. IsInLimit limit k) (zero_plus (length rs)) other.within)
    (subst (λ k. IsEnded limit k t) (zero_plus (length qs)) one.ended) (subst (λ k. IsEnded limit k u) (zero_plus (length rs)) other.ended)

-- without an order object all answers are 0
pub answered_none : (rs : List Revision) → All (λ r. r.answer ≡ 0) rs → IsAnswered (λ k. 0) rs
answered_none [] all = tt
answered_none (r ∷ rs) all = (All-head (λ (q : Revision). q.answer ≡ 0) r rs all, answered_none rs (All-tail (λ (q : Revision). q.answer ≡ 0) r rs all))

pub none_answered : (rs : List Revision) → IsAnswered (λ k. 0) rs → All (λ r. r.answer ≡ 0) rs
none_answered [] answered = All-nil (λ (q : Revision). q.answer ≡ 0)
none_answered (r ∷ rs) answered = All-cons (λ (q : Revision). q.answer ≡ 0) r rs answered.0 (none_answered rs answered.1)
