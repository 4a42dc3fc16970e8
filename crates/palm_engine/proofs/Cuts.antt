-- Where a settling is interrupted: without an order object what it left tells how many revisions ran.
use Rattle.std.proofs.Common.{◌≡◌, ℕ, zero, suc, ◌+◌, min, Option, Some, false, List, [], ◌∷◌, ◌++◌, length, slice_get, Contains, All, ℤ, refl, sym, ap, ◌∙◌, subst}
use Rattle.std.proofs.lemmas.List.Elements.{All-head, All-tail, Contains-append_right}
use Rattle.palm_base.specs.declared.limits.TheConstants.{LAST_COUNT}
use Rattle.palm_base.specs.declared.terms.Pair.{Pair}
use Rattle.palm_base.specs.declared.terms.Cid.{Cid}
use Rattle.palm_base.proofs.cited.Members.{member_here}
use Rattle.palm_model.specs.Domains.{Has}
use Rattle.palm_base.specs.Order.{Rises}
use Rattle.palm_model.specs.Log.{Active, cids_of, log_pairs}
use Rattle.palm_model.specs.State.{EngineState, HasEmpty, AllFilled, IsValid, present}
use Rattle.palm_model.specs.Event.{Removes, removal_of}
use Rattle.palm_model.proofs.cited.Without.{without_has}
use Rattle.palm_events.proofs.cited.Names.{single}
use Rattle.palm_events.proofs.cited.Valid.{removed_pairs_are}
use Rattle.palm_engine.specs.Engine.{View, IsInterrupted}
use Rattle.palm_engine.specs.Settling.{Walks, IsDue, Revision, Revises, Revisions, walk_order, rested, index_within}
use Rattle.palm_engine.proofs.Joined.{walk_has}
use Rattle.palm_engine.proofs.Same.{walk_first, walk_nil, revision_same, some_same}
use Rattle.palm_engine.proofs.Same.First.{stopped, passed, took}
use Rattle.palm_engine.proofs.cited.Walking.{not_empty, revision_filters}

-- the least pending constraint of m is interrupted, and t is left
record IsCut (m t : EngineState) : Type 0 where
  filled : AllFilled (present m)
  owner : Active
  posted : Contains m.active owner
  chosen : slice_get m.pending (index_within 0 (length m.pending)) ≡ Some owner.cid
  walked : List Pair
  next : Pair
  left : List Pair
  order : walk_order m.initial owner.con ≡ walked ++ next ∷ left
  removed : ℕ
  walk : Walks owner walked m removed t
  due : IsDue (present t) owner.con next

cut_of : (limit : Option ℕ) (before after : View) (cut : IsInterrupted limit false before after) → IsCut cut.middle after.state
cut_of limit before after cut = record {
  filled = cut.filled;
  owner = cut.owner;
  posted = cut.posted;
  chosen = ap (λ i. slice_get cut.middle.pending (index_within i (length cut.middle.pending))) (sym (cut.least refl)) ∙ cut.chosen;
  walked = cut.walked;
  next = cut.next;
  left = cut.left;
  order = cut.order;
  removed = cut.removed;
  walk = cut.walk;
  due = cut.due;
}

-- ---- a whole walk takes out the pair at which the interrupted one stopped

removed_lacks : (s m : EngineState) (a : Active) (p : Pair) → Removes s a p m → Has (present m) p.var p.value → ⊥
removed_lacks s m a p removes has =
    (without_has s.initial (log_pairs (s.log ++ removal_of s a p ∷ [])) p.var p.value (subst (λ z. Has (present z) p.var p.value) removes.after has)).1
    (subst (λ ps. Contains ps p) (sym (removed_pairs_are s a p)) (Contains-append_right (log_pairs s.log) (p ∷ []) p (member_here p [])))

whole_lacks : (a : Active) (walked : List Pair) (p : Pair) (left : List Pair) (s : EngineState) (n : ℕ) (t : EngineState) (k : ℕ) (u : EngineState) → Walks a walked s n t → Walks a (walked ++ p ∷ left) s k u
    → IsDue (present t) a.con p → AllFilled (present u) → Has (present u) p.var p.value → ⊥
whole_lacks a [] p left s n t k u part whole due filled has =
    let here : IsDue (present s) a.con p = subst (λ z. IsDue (present z) a.con p) (walk_nil a s n t part).state due in
    elim (walk_first a p left s k u whole) [
      | stopped empty same ↦ not_empty (present s) here.filled empty
      | passed supported rest ↦ here.lacks.lacks ((supported here.has).each here.lacks.part here.lacks.is_part here.lacks.over)
      | took m j removes e rest ↦ removed_lacks s m a p removes (walk_has a left m j u rest p.var p.value has)
    ]
whole_lacks a (q ∷ walked) p left s n t k u part whole due filled has = elim (walk_first a q walked s n t part) [
  | stopped empty same ↦ not_empty (present t) due.filled (subst (λ z. HasEmpty (present z)) (sym same.state) empty)
  | passed supported rest ↦ elim (walk_first a q (walked ++ p ∷ left) s k u whole) [
    | stopped empty same ↦ not_empty (present u) filled (subst (λ z. HasEmpty (present z)) (sym same.state) empty)
    | passed supported' rest' ↦ whole_lacks a walked p left s n t k u rest rest' due filled has
    | took m j removes e rest' ↦ removes.lacks.lacks ((supported removes.has).each removes.lacks.part removes.lacks.is_part removes.lacks.over)
  ]
  | took m i removes e rest ↦ elim (walk_first a q (walked ++ p ∷ left) s k u whole) [
    | stopped empty same ↦ not_empty (present s) removes.filled empty
    | passed supported rest' ↦ removes.lacks.lacks ((supported removes.has).each removes.lacks.part removes.lacks.is_part removes.lacks.over)
    | took m' j removes' e' rest' ↦
        let at : Walks a (walked ++ p ∷ left) m j u = subst (λ z. Walks a (walked ++ p ∷ left) z j u) (removes'.after ∙ sym removes.after) rest' in
        whole_lacks a walked p left m i t j u rest at due filled has
  ]
]

rested_present : (k : ℕ) (cid : Cid) (s : EngineState) → present (rested k cid s) ≡ present s
rested_present zero cid s = refl
rested_present (suc k) cid s = refl

revised_present : (s : EngineState) (r : Revision) (t : EngineState) (one : Revises s r t) → present t ≡ present one.state
revised_present s r t one = ap present one.after ∙ rested_present r.removed r.cid one.state

-- the least pending constraint cannot end its revision where it was cut
revised_lacks : (s t : EngineState) (cut : IsCut s t) (r : Revision) (u : EngineState) → Rises (cids_of s.active) → r.answer ≡ 0 → Revises s r u → AllFilled (present u) → Has (present u) cut.next.var cut.next.value → ⊥
revised_lacks s t cut r u rises none one filled has =
    let cid : cut.owner.cid ≡ r.cid = some_same cut.owner.cid r.cid (sym cut.chosen ∙ ap (λ i. slice_get s.pending (index_within i (length s.pending))) (sym none) ∙ one.chosen) in
    let owner : one.owner ≡ cut.owner = single s.active rises one.owner cut.owner one.posted cut.posted (one.named ∙ sym cid) in
    let whole : Walks cut.owner (walk_order s.initial cut.owner.con) s r.removed one.state = subst (λ (a : Active). Walks a (walk_order s.initial a.con) s r.removed one.state) owner one.walk in
    let same = revised_present s r u one in
    whole_lacks cut.owner cut.walked cut.next cut.left s cut.removed t r.removed one.state cut.walk (subst (λ ps. Walks cut.owner ps s r.removed one.state) cut.order whole) cut.due
    (subst AllFilled same filled) (subst (λ d. Has d cut.next.var cut.next.value) same has)

-- ---- the revisions before it

before_filled : (s : EngineState) (rs : List Revision) (m t : EngineState) → Revisions s rs m → IsCut m t → AllFilled (present s)
before_filled s [] m t run cut = subst (λ z. AllFilled (present z)) run cut.filled
before_filled s (r ∷ rs) m t run cut = run.1.filled

before_has : (s : EngineState) (rs : List Revision) (m : EngineState) → Revisions s rs m → (x : ℕ) (v : ℤ) → Has (present m) x v → Has (present s) x v
before_has s [] m run x v has = subst (λ z. Has (present z) x v) run has
before_has s (r ∷ rs) m run x v has =
    let one = run.1 in
    walk_has one.owner (walk_order s.initial one.owner.con) s r.removed one.state one.walk x v
    (subst (λ d. Has d x v) (revised_present s r run.0 one) (before_has run.0 rs m run.2 x v has))

none_runs : (s t : EngineState) → IsCut s t → (r : Revision) (rs : List Revision) (m : EngineState) → Rises (cids_of s.active) → r.answer ≡ 0 → Revisions s (r ∷ rs) m → IsCut m t → ⊥
none_runs s t cut r rs m rises none run other =
    let p = cut.next in
    revised_lacks s t cut r run.0 rises none run.1 (before_filled run.0 rs m t run.2 other)
    (before_has run.0 rs m run.2 p.var p.value (walk_has other.owner other.walked m other.removed t other.walk p.var p.value cut.due.has))

as_many : (s : EngineState) (qs : List Revision) (m : EngineState) (rs : List Revision) (n t : EngineState) → Rises (cids_of s.active) → All (λ (r : Revision). r.answer ≡ 0) qs → All (λ (r : Revision). r.answer ≡ 0) rs
    → Revisions s qs m → Revisions s rs n → IsCut m t → IsCut n t → length qs ≡ length rs
as_many s [] m [] n t rises aq ar one other cut cut' = refl
as_many s [] m (r ∷ rs) n t rises aq ar one other cut cut' =
    absurd (none_runs s t (subst (λ z. IsCut z t) one cut) r rs n rises (All-head (λ (q : Revision). q.answer ≡ 0) r rs ar) other cut')
as_many s (q ∷ qs) m [] n t rises aq ar one other cut cut' =
    absurd (none_runs s t (subst (λ z. IsCut z t) other cut') q qs m rises (All-head (λ (r : Revision). r.answer ≡ 0) q qs aq) one cut)
as_many s (q ∷ qs) m (r ∷ rs) n t rises aq ar one other cut cut' =
    let none = λ (k : Revision). k.answer ≡ 0 in
    let first = revision_same s q one.0 r other.0 rises (All-head none q qs aq ∙ sym (All-head none r rs ar)) one.1 other.1 in
    let rises' : Rises (cids_of one.0.active) = subst (λ l. Rises (cids_of l)) (sym (revision_filters s q one.0 one.1).active) rises in
    ap suc (as_many one.0 qs m rs n t rises' (All-tail none q qs aq) (All-tail none r rs ar) one.2 (subst (λ z. Revisions z rs n) (sym first.state) other.2) cut cut')

pub interrupted_count : (limit : Option ℕ) (before after other : View) → IsValid before.state → IsInterrupted limit false before after → IsInterrupted limit false before other → other.state ≡ after.state → other.revisions ≡ after.revisions
interrupted_count limit before after other valid cut cut' same =
    let left : IsCut cut'.middle after.state = subst (λ z. IsCut cut'.middle z) same (cut_of limit before other cut') in
    let many = as_many before.state cut'.revisions cut'.middle cut.revisions cut.middle after.state valid.rising cut'.fits cut.fits cut'.ended cut.ended left (cut_of limit before after cut) in
    cut'.counted ∙ ap (λ n. min (n + 1) LAST_COUNT) many ∙ sym cut.counted
