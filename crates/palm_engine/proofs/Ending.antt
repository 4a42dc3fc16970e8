-- A settling ends: each revision takes out a value or leaves fewer pending. So there is one for any answers.
use Rattle.std.proofs.Common.{◌≡◌, ℕ, zero, suc, ◌+◌, ◌*◌, ◌<◌, ◌≤◌, Bool, false, not, Option, Some, None, List, [], ◌∷◌, ◌++◌, length, filter, slice_get, Contains, ◌⊎◌, inl, inr, refl, sym, ap, ◌∙◌, subst, arith}
use Rattle.std.specs.Prelude.{nat_lt}
use Rattle.std.proofs.lemmas.Bool.{cases_Bool, ltb-true}
use Rattle.std.proofs.lemmas.List.{length-map}
use Rattle.std.proofs.lemmas.Nat.{mul-le}
use Rattle.std.proofs.lemmas.List.Elements.{Contains-append_left, Contains-append_right}
use Rattle.palm_base.specs.declared.terms.Pair.{Pair}
use Rattle.palm_base.specs.declared.terms.Cid.{Cid}
use Rattle.palm_base.proofs.cited.Members.{member_nil, member_here, member_cases, member_get}
use Rattle.palm_model.specs.Trial.{value_count}
use Rattle.palm_model.specs.Log.{Active, IsActive, log_pairs, is_named}
use Rattle.palm_model.specs.State.{EngineState, HasEmpty, AllFilled, IsValid, present, is_awake, woken, without_cid}
use Rattle.palm_model.specs.Event.{Removes, removal_of, calmed}
use Rattle.palm_events.proofs.cited.Names.{member_named}
use Rattle.palm_events.proofs.cited.States.{woken_active, without_cid_member}
use Rattle.palm_events.proofs.cited.Valid.{removed_pairs_are, pending_active}
use Rattle.palm_engine.specs.Settling.{Walks, Revision, Revises, Revisions, SettlesSome, IsInLimit, IsEnded, walk_order, rested, index_within}
use Rattle.palm_engine.specs.Settling.Walks.{walked_all, walked_empty, walked_past, walked_out}
use Rattle.palm_engine.specs.Settling.IsEnded.{ended_empty, ended_quiet, ended_limit}
use Rattle.palm_engine.specs.Work.{effort, Falls}
use Rattle.palm_engine.proofs.Counting.{fewer_values}
use Rattle.palm_engine.proofs.cited.Walking.{took_none, walk_filters, chosen_pending, walk_exists, empty_or_filled}

-- ---- lengths of filtered lists

filter_short : {X : Type 0} (p : X → Bool) (xs : List X) → length (filter p xs) ≤ length xs
filter_short p [] = omega arith
filter_short p (x ∷ xs) = elim (cases_Bool (p x)) [
  | inl t ↦ rw t (let k = filter_short p xs in omega (arith, k))
  | inr f ↦ rw f (let k = filter_short p xs in omega (arith, k))
]

filter_shorter : {X : Type 0} (p : X → Bool) (xs : List X) (x : X) → Contains xs x → p x ≡ false → length (filter p xs) < length xs
filter_shorter p [] x m f = absurd (member_nil x m)
filter_shorter p (y ∷ xs) x m f = elim (member_cases y xs x m) [
  | inl e ↦ let g : p y ≡ false = ap p e ∙ f in rw g (let k = filter_short p xs in omega (arith, k))
  | inr n ↦ elim (cases_Bool (p y)) [
    | inl t ↦ rw t (let k = filter_shorter p xs x n f in omega (arith, k))
    | inr g ↦ rw g (let k = filter_shorter p xs x n f in omega (arith, k))
  ]
]

woken_few : (active : List Active) (pending : List Cid) (vars : List ℕ) → length (woken active pending vars) ≤ length active
woken_few active pending vars =
    let e = length-map (filter (is_awake pending vars) active) (λ (a : Active). a.cid) in
    let k = filter_short (is_awake pending vars) active in
    omega (arith, e, k)

-- ---- one removal, and a walk

removal_counts : (s m : EngineState) (a : Active) (p : Pair) → Removes s a p m → value_count (present m) < value_count (present s)
removal_counts s m a p removes = subst (λ z. value_count (present z) < value_count (present s)) (sym removes.after)
    (fewer_values s.initial (log_pairs s.log) (log_pairs (s.log ++ removal_of s a p ∷ [])) p
    (λ q k. subst (λ ps. Contains ps q) (sym (removed_pairs_are s a p)) (Contains-append_left (log_pairs s.log) (p ∷ []) q k)) removes.has
    (subst (λ ps. Contains ps p) (sym (removed_pairs_are s a p)) (Contains-append_right (log_pairs s.log) (p ∷ []) p (member_here p []))))

pub walk_counts : (a : Active) (pairs : List Pair) (s : EngineState) (n : ℕ) (t : EngineState) → Walks a pairs s n t → value_count (present t) + n ≤ value_count (present s)
walk_counts a _ _ _ _ (walked_all s) = omega arith
walk_counts a _ _ _ _ (walked_empty pairs s empty) = omega arith
walk_counts a _ _ _ _ (walked_past p pairs s n t supported walk) = walk_counts a pairs s n t walk
walk_counts a _ _ _ _ (walked_out p pairs s m n t removes walk) =
    let first = removal_counts s m a p removes in
    let rest = walk_counts a pairs m n t walk in
    omega (arith, first, rest)

few_after : (s m : EngineState) (a : Active) (p : Pair) → Removes s a p m → length m.pending ≤ length m.active
few_after s m a p removes = subst (λ (z : EngineState). length z.pending ≤ length z.active) (sym removes.after) (woken_few s.active s.pending (p.var ∷ []))

walk_few : (a : Active) (pairs : List Pair) (s : EngineState) (n : ℕ) (t : EngineState) → Walks a pairs s n t → length s.pending ≤ length s.active → length t.pending ≤ length t.active
walk_few a _ _ _ _ (walked_all s) few = few
walk_few a _ _ _ _ (walked_empty pairs s empty) few = few
walk_few a _ _ _ _ (walked_past p pairs s n t supported walk) few = walk_few a pairs s n t walk few
walk_few a _ _ _ _ (walked_out p pairs s m n t removes walk) few = walk_few a pairs m n t walk (few_after s m a p removes)

some_few : (a : Active) (pairs : List Pair) (s : EngineState) (n : ℕ) (t : EngineState) → Walks a pairs s n t → 0 < n → length t.pending ≤ length t.active
some_few a _ _ _ _ (walked_all s) lt = absurd (omega arith)
some_few a _ _ _ _ (walked_empty pairs s empty) lt = absurd (omega arith)
some_few a _ _ _ _ (walked_past p pairs s n t supported walk) lt = some_few a pairs s n t walk lt
some_few a _ _ _ _ (walked_out p pairs s m n t removes walk) lt = walk_few a pairs m n t walk (few_after s m a p removes)

-- ---- revisions

-- fewer values weigh more than all that may be pending
weigh : (v w a p q : ℕ) → v < w → p ≤ a → v * (a + 1) + p < w * (a + 1) + q
weigh v w a p q lt le =
    let k = mul-le (v + 1) (a + 1) w (a + 1) (omega arith) (omega arith) in
    let e : (v + 1) * (a + 1) ≡ v * (a + 1) + (a + 1) = omega arith in
    omega (arith, k, e)

rest_falls : (s m t : EngineState) (a : Active) (cid : Cid) (n : ℕ) → Contains s.pending cid → AllFilled (present s)
    → Walks a (walk_order s.initial a.con) s n m → t ≡ rested n cid m → Falls s t
rest_falls s m t a cid zero pending filled walk after =
    let none = took_none a (walk_order s.initial a.con) s zero m walk refl filled in
    let gone : not (is_named (cid ∷ []) cid) ≡ false = ap not (member_named (cid ∷ []) cid (member_here cid [])) in
    let fewer : length (without_cid cid s.pending) < length s.pending = filter_shorter (λ c. not (is_named (cid ∷ []) c)) s.pending cid pending gone in
    subst (λ z. Falls s z) (sym (after ∙ ap (λ z. calmed z cid) none.same)) (record { falls = inr (refl, fewer); effort = omega (arith, fewer) })
rest_falls s m t a cid (suc n) pending filled walk after =
    let count = walk_counts a (walk_order s.initial a.con) s (suc n) m walk in
    let few = some_few a (walk_order s.initial a.con) s (suc n) m walk (omega arith) in
    let lt : value_count (present m) < value_count (present s) = omega (arith, count) in
    let same : m.active ≡ s.active = (walk_filters a (walk_order s.initial a.con) s (suc n) m walk).active in
    let few' : length m.pending ≤ length s.active = subst (λ (l : List Active). length m.pending ≤ length l) same few in
    let less = weigh (value_count (present m)) (value_count (present s)) (length s.active) (length m.pending) (length s.pending) lt few' in
    let less' : effort m < effort s = subst (λ (l : List Active). value_count (present m) * (length l + 1) + length m.pending < effort s) (sym same) less in
    subst (λ z. Falls s z) (sym after) (record { falls = inl lt; effort = less' })

pub revision_falls : (s : EngineState) (r : Revision) (t : EngineState) → Revises s r t → Falls s t
revision_falls s r t revises = rest_falls s revises.state t revises.owner r.cid r.removed (chosen_pending s r t revises) revises.filled revises.walk revises.after

pub revisions_bounded : (s : EngineState) (rs : List Revision) (t : EngineState) → Revisions s rs t → length rs + effort t ≤ effort s
revisions_bounded s [] t run = subst (λ z. 0 + effort z ≤ effort s) (sym run) (omega arith)
revisions_bounded s (r ∷ rs) t run =
    let first = (revision_falls s r run.0 run.1).effort in
    let rest = revisions_bounded run.0 rs t run.2 in
    omega (arith, first, rest)

-- ---- any pending constraint can be revised

-- what is pending is active
abbrev pub Waits : EngineState → Type 0
Waits s = (c : Cid) → Contains s.pending c → IsActive s.active c

index_below : (index count : ℕ) → 0 < count → index_within index count < count
index_below index count lt = elim (cases_Bool (nat_lt index count)) [
  | inl t ↦ rw t (ltb-true index count t)
  | inr f ↦ rw f lt
]

get_some : {X : Type 0} (xs : List X) (i : ℕ) → i < length xs → (x : X) × (slice_get xs i ≡ Some x)
get_some [] i lt = absurd (omega arith)
get_some (x ∷ xs) zero lt = (x, refl)
get_some (x ∷ xs) (suc i) lt = get_some xs i (omega arith)

-- a revision with this answer
pub record RevisesSome (answer : ℕ) (s : EngineState) : Type 0 where
  pub revision : Revision
  pub state : EngineState
  pub revises : Revises s revision state
  pub answered : revision.answer ≡ answer

pub revision_exists : (s : EngineState) (answer : ℕ) → Waits s → AllFilled (present s) → 0 < length s.pending → RevisesSome answer s
revision_exists s answer waits filled lt =
    let chosen = get_some s.pending (index_within answer (length s.pending)) (index_below answer (length s.pending) lt) in
    let pending : Contains s.pending chosen.0 = member_get s.pending (index_within answer (length s.pending)) chosen.0 chosen.1 in
    let is = waits chosen.0 pending in
    let walk = walk_exists is.owner (walk_order s.initial is.owner.con) s is.posted in
    let r : Revision = record { answer = answer; cid = chosen.0; removed = walk.count } in
    record {
      revision = r;
      state = rested walk.count chosen.0 walk.state;
      revises = record {
        filled = filled;
        chosen = chosen.1;
        owner = is.owner;
        posted = is.posted;
        named = is.named;
        state = walk.state;
        walk = walk.walk;
        after = refl;
      };
      answered = refl;
    }

removed_waits : (s m : EngineState) (a : Active) (p : Pair) → Removes s a p m → Waits m
removed_waits s m a p removes = subst Waits (sym removes.after) (λ c k.
    let r = woken_active s.active s.pending (p.var ∷ []) c k in record { owner = r.0; posted = r.1; named = r.2 })

walk_waits : (a : Active) (pairs : List Pair) (s : EngineState) (n : ℕ) (t : EngineState) → Walks a pairs s n t → Waits s → Waits t
walk_waits a _ _ _ _ (walked_all s) waits = waits
walk_waits a _ _ _ _ (walked_empty pairs s empty) waits = waits
walk_waits a _ _ _ _ (walked_past p pairs s n t supported walk) waits = walk_waits a pairs s n t walk waits
walk_waits a _ _ _ _ (walked_out p pairs s m n t removes walk) waits = walk_waits a pairs m n t walk (removed_waits s m a p removes)

rest_waits : (m t : EngineState) (cid : Cid) (n : ℕ) → t ≡ rested n cid m → Waits m → Waits t
rest_waits m t cid zero after waits = subst Waits (sym after) (λ c k. waits c (without_cid_member cid m.pending c k).0)
rest_waits m t cid (suc n) after waits = subst Waits (sym after) waits

pub revision_waits : (s : EngineState) (r : Revision) (t : EngineState) → Revises s r t → Waits s → Waits t
revision_waits s r t revises waits =
    rest_waits revises.state t r.cid r.removed revises.after (walk_waits revises.owner (walk_order s.initial revises.owner.con) s r.removed revises.state revises.walk waits)

-- ---- a settling for any answers

settles_at_once : (limit : Option ℕ) (f : ℕ → ℕ) (s : EngineState) → IsInLimit limit 0 → IsEnded limit 0 s → SettlesSome limit f s
settles_at_once limit f s within over = record {
  revisions = [];
  state = s;
  settles = record { revisions = refl; within = within; ended = over };
  answered = tt;
}

over_more : (limit : ℕ) (count : ℕ) (s : EngineState) → IsEnded (Some limit) count s → IsEnded (Some (suc limit)) (suc count) s
over_more limit count s (ended_empty empty) = ended_empty empty
over_more limit count s (ended_quiet quiet) = ended_quiet quiet
over_more limit count s (ended_limit reached) = ended_limit (ap suc reached)

over_still : (count : ℕ) (s : EngineState) → IsEnded None count s → IsEnded None (suc count) s
over_still count s (ended_empty empty) = ended_empty empty
over_still count s (ended_quiet quiet) = ended_quiet quiet
over_still count s (ended_limit reached) = absurd reached

limited_more : (limit : ℕ) (f : ℕ → ℕ) (s : EngineState) (first : RevisesSome (f 0) s) → SettlesSome (Some limit) (λ k. f (suc k)) first.state → SettlesSome (Some (suc limit)) f s
limited_more limit f s first rest = record {
  revisions = first.revision ∷ rest.revisions;
  state = rest.state;
  settles = record {
    revisions = (first.state, first.revises, rest.settles.revisions);
    within = let k = rest.settles.within in omega (arith, k);
    ended = over_more limit (length rest.revisions) rest.state rest.settles.ended;
  };
  answered = (first.answered, rest.answered);
}

free_more : (f : ℕ → ℕ) (s : EngineState) (first : RevisesSome (f 0) s) → SettlesSome None (λ k. f (suc k)) first.state → SettlesSome None f s
free_more f s first rest = record {
  revisions = first.revision ∷ rest.revisions;
  state = rest.state;
  settles = record {
    revisions = (first.state, first.revises, rest.settles.revisions);
    within = tt;
    ended = over_still (length rest.revisions) rest.state rest.settles.ended;
  };
  answered = (first.answered, rest.answered);
}

-- a domain is empty, nothing is pending, or a revision can run
pub data MayRevise (s : EngineState) : Type 0 where
  is_empty : HasEmpty (present s) → MayRevise s
  is_quiet : s.pending ≡ [] → MayRevise s
  may_revise : AllFilled (present s) → 0 < length s.pending → MayRevise s

pub may_revise_known : (s : EngineState) → MayRevise s
may_revise_known s = elim (empty_or_filled (present s)) [
  | inl empty ↦ is_empty empty
  | inr filled ↦ elim (quiet_or_not s.pending) [ inl e ↦ is_quiet e | inr lt ↦ may_revise filled lt ]
]
  where
    quiet_or_not : (cs : List Cid) → (cs ≡ []) ⊎ (0 < length cs)
    quiet_or_not [] = inl refl
    quiet_or_not (c ∷ cs) = inr (omega arith)

limited_exists : (limit : ℕ) (f : ℕ → ℕ) (s : EngineState) → Waits s → SettlesSome (Some limit) f s
limited_exists zero f s waits = settles_at_once (Some zero) f s (omega arith) (ended_limit refl)
limited_exists (suc limit) f s waits = elim (may_revise_known s) [
  | is_empty empty ↦ settles_at_once (Some (suc limit)) f s (omega arith) (ended_empty empty)
  | is_quiet quiet ↦ settles_at_once (Some (suc limit)) f s (omega arith) (ended_quiet quiet)
  | may_revise filled lt ↦
      let first = revision_exists s (f 0) waits filled lt in
      limited_more limit f s first (limited_exists limit (λ k. f (suc k)) first.state (revision_waits s first.revision first.state first.revises waits))
]

free_exists : (fuel : ℕ) (f : ℕ → ℕ) (s : EngineState) → effort s < fuel → Waits s → SettlesSome None f s
free_exists zero f s le waits = absurd (omega arith)
free_exists (suc fuel) f s le waits = elim (may_revise_known s) [
  | is_empty empty ↦ settles_at_once None f s tt (ended_empty empty)
  | is_quiet quiet ↦ settles_at_once None f s tt (ended_quiet quiet)
  | may_revise filled lt ↦
      let first = revision_exists s (f 0) waits filled lt in
      let falls = (revision_falls s first.revision first.state first.revises).effort in
      free_more f s first (free_exists fuel (λ k. f (suc k)) first.state (omega (arith, falls)) (revision_waits s first.revision first.state first.revises waits))
]

pub settling_exists : (limit : Option ℕ) (f : ℕ → ℕ) (s : EngineState) → IsValid s → SettlesSome limit f s
settling_exists None f s valid = free_exists (effort s + 1) f s (omega arith) (pending_active s valid)
settling_exists (Some limit) f s valid = limited_exists limit f s (pending_active s valid)
