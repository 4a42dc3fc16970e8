-- A settling, revision by revision.
use Rattle.std.proofs.Common.{◌≡◌, ℕ, zero, suc, ◌-◌, ◌<◌, ◌≤◌, ◌↔◌, ◌⊎◌, true, false, Option, Some, None, IfSome, MatchOption, Result, Ok, Err, OnOk, OnErr, List, [], ◌∷◌, length, map, Contains, slice_get, get_or, inl, inr, refl, sym, ap, ◌∙◌, subst, arith}
use Rattle.std.specs.Option.{is_some}
use Rattle.std.specs.Result.{is_err}
use Rattle.std.proofs.lemmas.Bool.{false≢true, or_cases}
use Rattle.std.proofs.lemmas.List.{length-map}
use Rattle.std.proofs.lemmas.Option.{slice_get_within}
use Rattle.palm_base.specs.declared.terms.Pair.{Pair}
use Rattle.palm_base.specs.declared.terms.Cid.{Cid}
use Rattle.palm_base.proofs.cited.Members.{member_here, member_there, member_cases, member_same}
use Rattle.palm_domain.specs.Rows.{initial_of, present_of}
use Rattle.palm_base.specs.Order.{Rises}
use Rattle.palm_model.specs.Log.{Active, IsActive, cids_of, is_named}
use Rattle.palm_model.specs.State.{is_awake, woken, without_cid}
use Rattle.palm_base.proofs.cited.CidOrder.{rising_same}
use Rattle.palm_events.proofs.cited.Names.{named_member}
use Rattle.palm_events.proofs.cited.States.{waits, woken_rises, woken_active, member_woken, awake_named, without_cid_rises, without_cid_member, member_without_cid}
use Rattle.palm_agenda.specs.Agenda.{IsFormed, Waiting}
use Rattle.palm_engine.specs.declared.filtering.Filtering.{Filtering}
use Rattle.palm_engine.specs.Settling.{Walks, IsDue, walk_order, rested}
use Rattle.palm_engine.specs.Kept.{IsInStep, AreConnected, AreHeeded, AreMarked, state_of, state_in_revision}
use Rattle.palm_engine.specs.Revising.{IsRevising, IsAgain, Walked, WalkedPart, HasCounted, IsTaken, HasRevised, HasPartlyRevised}
use Rattle.palm_engine.specs.Work.{size_of, named_sizes}
use Rattle.palm_engine.proofs.Joined.{walk_logged}
use Rattle.palm_engine.proofs.Progress.{counted_more}
use Rattle.palm_engine.proofs.Spending.{owner_size}
use Rattle.palm_engine.proofs.Unmarking.{connected_active}
use Rattle.palm_engine.proofs.Waking.{woken_same, pending_woken}

-- ---- the pending ids

-- what is pending is active
pub pending_is_active : (f : Filtering) (active : List Active) → IsInStep f active → (c : Cid) → Contains f.agenda.pending c → IsActive active c
pending_is_active f active kept c m =
    let d = kept.formed.pending_connected c m in
    let r = connected_active active f.agenda.connected kept.connected d.owner d.listed in
    record { owner = r.0; posted = r.1; named = r.2 ∙ d.named }

pub pending_waits : (f : Filtering) (active : List Active) → Rises (cids_of active) → IsInStep f active → f.agenda.pending ≡ woken active f.agenda.pending []
pending_waits f active rises kept = waits active f.agenda.pending rises kept.formed.pending_rising (pending_is_active f active kept)

awake_among : (cids : List Cid) (a : Active) → is_awake cids [] a ≡ true → Contains cids a.cid
awake_among cids a t = elim (or_cases (is_named cids a.cid) false t) [
  | inl k ↦ named_member cids a.cid k
  | inr f ↦ absurd (false≢true f)
]

-- an id that is not pending is added and taken away
added_taken : (active : List Active) (cids : List Cid) (cid : Cid) → Rises (cids_of active) → Rises cids → ((c : Cid) → Contains cids c → IsActive active c) → (Contains cids cid → ⊥) → cids ≡ without_cid cid (woken active (cid ∷ cids) [])
added_taken active cids cid rises rise are absent = rising_same cids (without_cid cid (woken active (cid ∷ cids) [])) rise (without_cid_rises cid (woken active (cid ∷ cids) []) (woken_rises active (cid ∷ cids) [] rises))
    (λ c m.
    let a = are c m in
    let here = member_woken active (cid ∷ cids) [] a.owner a.posted (awake_named (cid ∷ cids) [] a.owner (member_there cid cids a.owner.cid (member_same cids c a.owner.cid (sym a.named) m))) in
    member_without_cid cid (woken active (cid ∷ cids) []) c (member_same (woken active (cid ∷ cids) []) a.owner.cid c a.named here) (λ e. absent (member_same cids c cid e m)))
    (λ c m.
    let r = without_cid_member cid (woken active (cid ∷ cids) []) c m in
    let w = woken_active active (cid ∷ cids) [] c r.0 in
    elim (member_cases cid cids c (member_same (cid ∷ cids) w.0.cid c w.2 (awake_among (cid ∷ cids) w.0 w.3))) [
      | inl e ↦ absurd (r.1 (sym e))
      | inr n ↦ n
    ])

-- ---- the end of a revision

-- the state that is seen after the walk
rested_state : (n : ℕ) (f g : Filtering) (active : List Active) (owner : Active) → IsRevising g active owner → (Contains f.agenda.pending owner.cid → ⊥) → IsAgain n owner.cid f g → state_of g active ≡ rested n owner.cid (state_in_revision g active owner.cid)
rested_state zero f g active owner r absent again =
    let gone : Contains g.agenda.pending owner.cid → ⊥ = λ m. absent (subst (λ cs. Contains cs owner.cid) again m) in
    let e = added_taken active g.agenda.pending owner.cid r.valid.rising r.kept.formed.pending_rising (pending_is_active g active r.kept) gone in
    λ i. record (state_of g active) { pending = e i }
rested_state (suc n) f g active owner r absent again =
    let e = sym (pending_woken active g.agenda.pending owner.cid again (pending_waits g active r.valid.rising r.kept)) in
    λ i. record (state_of g active) { pending = e i }

pub walked_revised : (f g : Filtering) (active : List Active) (cid : Cid) (taken : IsTaken f active cid) (count : ℕ) → IsRevising g active taken.owner → (w : Walked active taken.owner (walk_order (initial_of f.store) taken.owner.con) f g) → count ≡ w.removed
    → HasRevised active cid (state_in_revision f active cid) (state_of g active) count
walked_revised f g active cid taken count r w is =
    let owner = taken.owner in
    let absent : Contains f.agenda.pending owner.cid → ⊥ = λ m. taken.absent (member_same f.agenda.pending owner.cid cid taken.named m) in
    let one : HasRevised active owner.cid (state_in_revision f active owner.cid) (state_of g active) w.removed = record {
      owner = owner;
      posted = r.posted;
      named = refl;
      state = state_in_revision g active owner.cid;
      walk = w.walk;
      after = rested_state w.removed f g active owner r absent w.again;
    } in
    subst (λ n. HasRevised active cid (state_in_revision f active cid) (state_of g active) n) (sym is)
    (subst (λ (c : Cid). HasRevised active c (state_in_revision f active c) (state_of g active) w.removed) taken.named one)

-- the constraint is pending again
woken_state : (m : Filtering) (a : Waiting) (active : List Active) (owner : Active) → IsRevising m active owner → IsInStep (record m { agenda = a }) active → ((c : Cid) → Contains a.pending c ↔ (Contains m.agenda.pending c ⊎ (c ≡ owner.cid)))
    → state_of (record m { agenda = a }) active ≡ state_in_revision m active owner.cid
woken_state m a active owner r kept pending =
    let e = pending_waits (record m { agenda = a }) active r.valid.rising kept ∙ woken_same active a.pending (owner.cid ∷ m.agenda.pending) [] []
    (λ b k h. elim h [
      | inl n ↦ inl (elim ((pending b.cid).0 n) [
        | inl was ↦ member_there owner.cid m.agenda.pending b.cid was
        | inr is ↦ member_same (owner.cid ∷ m.agenda.pending) owner.cid b.cid (sym is) (member_here owner.cid m.agenda.pending)
      ])
      | inr none ↦ inr none
    ])
    (λ b k h. elim h [
      | inl n ↦ inl (elim (member_cases owner.cid m.agenda.pending b.cid n) [
        | inl is ↦ (pending b.cid).1 (inr (sym is))
        | inr was ↦ (pending b.cid).1 (inl was)
      ])
      | inr none ↦ inr none
    ]) in
    λ i. record (state_of (record m { agenda = a }) active) { pending = e i }

pub woken_kept : (m : Filtering) (a : Waiting) (active : List Active) → IsInStep m active → a.connected ≡ m.agenda.connected → IsFormed a → IsInStep (record m { agenda = a }) active
woken_kept m a active kept connected formed = record {
  removed = kept.removed;
  formed = formed;
  connected = subst (λ cs. AreConnected active cs) (sym connected) kept.connected;
  heeded = subst (λ cs. AreHeeded active cs) (sym connected) kept.heeded;
  marked = subst (λ cs. AreMarked (present_of m.store) active cs) (sym connected) kept.marked;
  empty = kept.empty;
}

pub part_revised : (f m : Filtering) (a : Waiting) (active : List Active) (cid : Cid) (taken : IsTaken f active cid) → IsRevising m active taken.owner → WalkedPart active taken.owner (walk_order (initial_of f.store) taken.owner.con) f m
    → IsInStep (record m { agenda = a }) active → ((c : Cid) → Contains a.pending c ↔ (Contains m.agenda.pending c ⊎ (c ≡ cid))) → HasPartlyRevised active cid (state_in_revision f active cid) (state_of (record m { agenda = a }) active)
part_revised f m a active cid taken r part kept pending =
    let owner = taken.owner in
    let pending' = subst (λ (n : Cid). (c : Cid) → Contains a.pending c ↔ (Contains m.agenda.pending c ⊎ (c ≡ n))) (sym taken.named) pending in
    let e = woken_state m a active owner r kept pending' in
    let one : HasPartlyRevised active owner.cid (state_in_revision f active owner.cid) (state_of (record m { agenda = a }) active) = record {
      owner = owner;
      posted = r.posted;
      named = refl;
      walked = part.done;
      next = part.next;
      left = part.left;
      order = part.order;
      removed = part.walked.removed;
      walk = subst (λ t. Walks owner part.done (state_in_revision f active owner.cid) part.walked.removed t) (sym e) part.walked.walk;
      due = subst (λ d. IsDue d owner.con part.next) kept.removed.present part.due;
      pending = (pending' owner.cid).1 (inr refl);
    } in
    subst (λ (c : Cid). HasPartlyRevised active c (state_in_revision f active c) (state_of (record m { agenda = a }) active)) taken.named one

-- ---- the constraint that is revised

pub get_mapped : {X : Type 0} (f : X → Active) (xs : List X) (k : ℕ) (x d : X) (a : Active) → slice_get (map f xs) k ≡ Some a → x ≡ get_or xs k d → a ≡ f x
get_mapped f [] k x d a at e = cc
get_mapped f (y ∷ xs) zero x d a at e = let s : f y ≡ a = cc in sym s ∙ ap f (sym e)
get_mapped f (y ∷ xs) (suc k) x d a at e = get_mapped f xs k x d a at e

pub mapped_within : {X : Type 0} (f : X → Active) (xs : List X) (k : ℕ) (a : Active) → slice_get (map f xs) k ≡ Some a → k < length xs
mapped_within f xs k a at = subst (λ n. k < n) (length-map xs f) (slice_get_within (map f xs) k a at)

pub revision_counted : (f g : Filtering) (active : List Active) (cid : Cid) (taken : IsTaken f active cid) (s t : ℕ) → HasCounted (size_of (initial_of f.store) taken.owner.con) f g s t
    → HasCounted (named_sizes (state_in_revision f active cid) (cid ∷ [])) f g s t
revision_counted f g active cid taken s t counted =
    let le = owner_size (state_in_revision f active taken.owner.cid) taken.owner taken.revising.posted in
    subst (λ (c : Cid). HasCounted (named_sizes (state_in_revision f active c) (c ∷ [])) f g s t) taken.named
    (counted_more (size_of (initial_of f.store) taken.owner.con) (named_sizes (state_in_revision f active taken.owner.cid) (taken.owner.cid ∷ [])) f g s t le counted)

pub counted_agenda : (n : ℕ) (f m : Filtering) (a : Waiting) (s t : ℕ) → HasCounted n f m s t → HasCounted n f (record m { agenda = a }) s t
counted_agenda n f m a s t c = let ticked = c.ticked in record { ticked = record { later = ticked.later; few = ticked.few; checks = ticked.checks }; silent = c.silent }

-- ---- answers of calls

pub err_of : {T E P : Type 0} (r : Result T E) → is_err r ≡ true → OnErr r P → P
err_of (Ok x) t p = absurd (false≢true t)
err_of (Err e) t p = p

pub ok_of : {T E P : Type 0} (r : Result T E) → is_err r ≡ false → OnOk r P → P
ok_of (Ok x) t p = p
ok_of (Err e) t p = absurd (false≢true (sym t))

pub some_map : {A : Type 0} (P Q : A → Type 0) (o : Option A) → ((a : A) → P a → Q a) → IfSome o P → IfSome o Q
some_map P Q (Some a) f p = f a p
some_map P Q None f p = tt

pub none_of : {A : Type 0} (o : Option A) → is_some o ≡ false → o ≡ None
none_of (Some a) t = absurd (false≢true (sym t))
none_of None t = refl

pub none_told : {A : Type 0} (P : Type 0) (Q : A → Type 0) (o : Option A) → MatchOption o P Q → is_some o ≡ false → P
none_told P Q None told t = told
none_told P Q (Some a) told t = absurd (false≢true (sym t))

pub log_grows : (f g : Filtering) (active : List Active) (owner : Active) (pairs : List Pair) (before after : ℕ) → Walked active owner pairs f g → before ≡ length f.log.log → after ≡ length g.log.log → before ≤ after
log_grows f g active owner pairs before after w b a =
    let k = walk_logged owner pairs (state_in_revision f active owner.cid) w.removed (state_in_revision g active owner.cid) w.walk in
    omega (arith, k, b, a)

pub log_counts : (f g : Filtering) (active : List Active) (owner : Active) (pairs : List Pair) (before after : ℕ) (w : Walked active owner pairs f g) → before ≡ length f.log.log → after ≡ length g.log.log → after - before ≡ w.removed
log_counts f g active owner pairs before after w b a =
    let k = walk_logged owner pairs (state_in_revision f active owner.cid) w.removed (state_in_revision g active owner.cid) w.walk in
    omega (arith, k, b, a)

-- the constraint that was taken, as it is found among the posted ones
abbrev pub taken_as : (f : Filtering) (active : List Active) (cid : Cid) (taken : IsTaken f active cid) (owner : Active) → taken.owner ≡ owner → IsTaken f active cid
taken_as f active cid taken owner same = record {
  owner = owner;
  named = ap (λ (a : Active). a.cid) (sym same) ∙ taken.named;
  revising = subst (λ (a : Active). IsRevising f active a) same taken.revising;
  absent = taken.absent;
}
