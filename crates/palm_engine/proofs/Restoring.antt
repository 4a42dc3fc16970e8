-- Waking the constraints over restored variables, one variable after another.
use Rattle.std.proofs.Common.{◌≡◌, ℕ, ◌+◌, ◌<◌, ◌≤◌, not, All, List, [], ◌∷◌, ◌++◌, map, length, get_or, take, Contains, Option, ◌⊎◌, ◌↔◌, inl, inr, refl, sym, ap, ◌∙◌, subst}
use Rattle.std.proofs.lemmas.List.{map-append, take_more, take_all}
use Rattle.std.proofs.lemmas.List.Elements.{All-filter, Contains-append_left, Contains-push, Contains-push_cases}
use Rattle.palm_base.specs.declared.terms.Pair.{Pair}
use Rattle.palm_base.specs.declared.terms.Cid.{Cid}
use Rattle.palm_base.proofs.cited.Members.{member_nil, member_map, member_unmap}
use Rattle.palm_domain.specs.Rows.{Row, initial_of, present_of}
use Rattle.palm_base.specs.Order.{Rises}
use Rattle.palm_model.specs.Log.{Loses, is_named, log_pairs}
use Rattle.palm_model.specs.State.{without_cid}
use Rattle.palm_model.specs.Event.{lost_pairs, vars_of}
use Rattle.palm_explain.specs.declared.restored.Restored.{Restored}
use Rattle.palm_explain.specs.Explanations.{Explanations, IsSpanned, LacksExactly, restored_vars}
use Rattle.palm_events.proofs.cited.States.{without_cid_member, without_cid_rises}
use Rattle.palm_agenda.proofs.cited.Connecting.{member_without_connected, cids_without}
use Rattle.palm_agenda.specs.Agenda.{Connected, Waiting, HasMarks, IsConnected, IsFormed, IsOver, connected_cids, mark_own, without_connected}
use Rattle.palm_engine.specs.declared.filtering.Filtering.{Filtering}
use Rattle.palm_engine.specs.Changed.{NotesGain, PutsBack, widened_by}
use Rattle.palm_engine.proofs.Scopes.{bare_widened}

-- ---- marks

widened_last : (entries : List Restored) (r : Restored) (d : Connected) → mark_own r.var r.low r.high (widened_by entries d) ≡ widened_by (entries ++ r ∷ []) d
widened_last [] r d = refl
widened_last (q ∷ entries) r d = widened_last entries r (mark_own q.var q.low q.high d)

widened_none : (connected : List Connected) → map (widened_by []) connected ≡ connected
widened_none [] = refl
widened_none (d ∷ connected) = ap (λ es. d ∷ es) (widened_none connected)

widened_then : (entries : List Restored) (r : Restored) (connected : List Connected)
    → map (mark_own r.var r.low r.high) (map (widened_by entries) connected) ≡ map (widened_by (entries ++ r ∷ [])) connected
widened_then entries r [] = refl
widened_then entries r (d ∷ connected) =
    ap (λ e. e ∷ map (mark_own r.var r.low r.high) (map (widened_by entries) connected)) (widened_last entries r d)
    ∙ ap (λ es. widened_by (entries ++ r ∷ []) d ∷ es) (widened_then entries r connected)

pub woken_none : (connected : List Connected) (entries : List Restored) → entries ≡ [] → connected ≡ map (widened_by entries) connected
woken_none connected entries e = sym (widened_none connected) ∙ ap (λ es. map (widened_by es) connected) (sym e)

taken_more : (entries : List Restored) (i : ℕ) (r : Restored) → i < length entries → r ≡ get_or entries i r → take (i + 1) entries ≡ take i entries ++ r ∷ []
taken_more entries i r lt at = take_more entries i r lt ∙ ap (λ q. take i entries ++ q ∷ []) (sym at)

pub woken_more : (entries : List Restored) (i : ℕ) (r : Restored) (before middle after : List Connected) → i < length entries → r ≡ get_or entries i r
    → middle ≡ map (widened_by (take i entries)) before → after ≡ map (mark_own r.var r.low r.high) middle → after ≡ map (widened_by (take (i + 1) entries)) before
woken_more entries i r before middle after lt at was own =
    own ∙ ap (map (mark_own r.var r.low r.high)) was ∙ widened_then (take i entries) r before
    ∙ ap (λ es. map (widened_by es) before) (sym (taken_more entries i r lt at))

pub woken_all : (entries : List Restored) (i : ℕ) (before after : List Connected) → length entries ≤ i → after ≡ map (widened_by (take i entries)) before → after ≡ map (widened_by entries) before
woken_all entries i before after le e = e ∙ ap (λ es. map (widened_by es) before) (take_all i entries le)

-- ---- pending ids

-- over one of the variables
abbrev pub IsOverSome : List Connected → List ℕ → Cid → Type 0
IsOverSome connected vars c = (x : ℕ) × Contains vars x × IsOver connected x c

-- exactly those that were pending and those over one of the variables are pending
abbrev pub AreWoken : List Connected → List ℕ → List Cid → List Cid → Type 0
AreWoken connected vars before after = (c : Cid) → Contains after c ↔ (Contains before c ⊎ IsOverSome connected vars c)

pub waits_none : (connected : List Connected) (entries : List Restored) (pending : List Cid) → entries ≡ [] → AreWoken connected (restored_vars entries) pending pending
waits_none connected entries pending e c = (
  λ m. inl m,
  λ m. elim m [ inl k ↦ k | inr o ↦ absurd (member_nil o.0 (subst (λ es. Contains (restored_vars es) o.0) e o.1)) ],
)

over_marked : (entries : List Restored) (before : List Connected) (x : ℕ) (c : Cid) → IsOver (map (widened_by entries) before) x c → IsOver before x c
over_marked entries before x c is =
    let r = member_unmap (widened_by entries) before is.owner is.listed in
    let same = sym (bare_widened entries r.0) in
    record {
      owner = r.0;
      listed = r.1;
      named = ap (λ (s : Connected). s.cid) same ∙ ap (λ (d : Connected). d.cid) r.2 ∙ is.named;
      over = subst (λ (s : Connected). Contains s.scope x) (sym same) (subst (λ (d : Connected). Contains d.scope x) (sym r.2) is.over);
    }

marked_over : (entries : List Restored) (before : List Connected) (x : ℕ) (c : Cid) → IsOver before x c → IsOver (map (widened_by entries) before) x c
marked_over entries before x c is =
    let same = sym (bare_widened entries is.owner) in
    record {
      owner = widened_by entries is.owner;
      listed = member_map (widened_by entries) before is.owner is.listed;
      named = sym (ap (λ (s : Connected). s.cid) same) ∙ is.named;
      over = subst (λ (s : Connected). Contains s.scope x) same is.over;
    }

pub waits_more : (entries : List Restored) (i : ℕ) (r : Restored) (before middle : List Connected) (old then new : List Cid) → i < length entries → r ≡ get_or entries i r
    → middle ≡ map (widened_by (take i entries)) before → AreWoken before (restored_vars (take i entries)) old then
    → ((c : Cid) → Contains new c ↔ (Contains then c ⊎ IsOver middle r.var c)) → AreWoken before (restored_vars (take (i + 1) entries)) old new
waits_more entries i r before middle old then new lt at was first last c =
    let vars = restored_vars (take i entries) in
    let more : restored_vars (take (i + 1) entries) ≡ vars ++ r.var ∷ [] =
    ap restored_vars (taken_more entries i r lt at) ∙ map-append (λ (q : Restored). q.var) (take i entries) (r ∷ []) in (
      λ m. elim ((last c).0 m) [
        | inl k ↦ elim ((first c).0 k) [
          | inl o ↦ inl o
          | inr o ↦ inr (o.0, subst (λ vs. Contains vs o.0) (sym more) (Contains-append_left vars (r.var ∷ []) o.0 o.1), o.2)
        ]
        | inr o ↦ inr (r.var, subst (λ vs. Contains vs r.var) (sym more) (Contains-push vars r.var), over_marked (take i entries) before r.var c (subst (λ ds. IsOver ds r.var c) was o))
      ],
      λ m. elim m [
        | inl k ↦ (last c).1 (inl ((first c).1 (inl k)))
        | inr o ↦ elim (Contains-push_cases vars r.var o.0 (subst (λ vs. Contains vs o.0) more o.1)) [
          | inl k ↦ (last c).1 (inl ((first c).1 (inr (o.0, k, o.2))))
          | inr e ↦ (last c).1 (inr (subst (λ ds. IsOver ds r.var c) (sym was) (marked_over (take i entries) before r.var c (subst (λ z. IsOver before z c) (sym e) o.2))))
        ]
      ],
    )

pub waits_all : (entries : List Restored) (i : ℕ) (before : List Connected) (old new : List Cid) → length entries ≤ i → AreWoken before (restored_vars (take i entries)) old new
    → AreWoken before (restored_vars entries) old new
waits_all entries i before old new le are c = subst (λ es. Contains new c ↔ (Contains old c ⊎ IsOverSome before (restored_vars es) c)) (take_all i entries le) (are c)

-- ---- the whole withdrawal

-- an agenda without one constraint
pub away_formed : (before away : Waiting) (cid : Cid) → away.connected ≡ without_connected cid before.connected → away.pending ≡ without_cid cid before.pending → IsFormed before → IsFormed away
away_formed before away cid connected pending formed = record {
  rising = subst (λ ds. Rises (connected_cids ds)) (sym connected) (subst Rises (sym (cids_without cid before.connected)) (without_cid_rises cid (connected_cids before.connected) formed.rising));
  pending_rising = subst Rises (sym pending) (without_cid_rises cid before.pending formed.pending_rising);
  pending_connected = λ c m.
      let k = without_cid_member cid before.pending c (subst (λ ns. Contains ns c) pending m) in
      let is = formed.pending_connected c k.0 in
      subst (λ ds. IsConnected ds c) (sym connected)
      (record { owner = is.owner; listed = member_without_connected cid before.connected is.owner is.listed (λ e. k.1 (sym is.named ∙ e)); named = is.named });
  marks = subst (All HasMarks) (sym connected) (All-filter (λ (d : Connected). not (is_named (cid ∷ []) d.cid)) HasMarks before.connected formed.marks);
}

pub put_back : (f : Filtering) (cid : Cid) (store : List Row) (log : Explanations) (away agenda : Waiting) (entries : List Restored) (empty : Option ℕ)
    → away.connected ≡ without_connected cid f.agenda.connected → away.pending ≡ without_cid cid f.agenda.pending
    → initial_of store ≡ initial_of f.store → Loses f.log.log (cid ∷ []) f.log.log log.log → LacksExactly store (log_pairs log.log)
    → ((x : ℕ) → Contains (restored_vars log.restored) x ↔ Contains (vars_of (lost_pairs f.log.log log.log)) x)
    → ((p : Pair) → Contains (lost_pairs f.log.log log.log) p → IsSpanned log.restored p) → entries ≡ log.restored
    → IsFormed agenda → agenda.connected ≡ map (widened_by entries) away.connected → AreWoken away.connected (restored_vars entries) away.pending agenda.pending
    → NotesGain f.empty empty (present_of store) → PutsBack f cid (record f { store = store; log = log; agenda = agenda; empty = empty })
put_back f cid store log away agenda entries empty connected pending initial loses lacks restored within told formed marked woken notes = record {
  initial = initial;
  loses = loses;
  removed = lacks;
  restored = restored;
  within = within;
  formed = formed;
  connected = marked ∙ ap (λ es. map (widened_by es) away.connected) told ∙ ap (map (widened_by log.restored)) connected;
  pending = λ c.
      subst (λ es. Contains agenda.pending c ↔ (Contains (without_cid cid f.agenda.pending) c ⊎ IsOverSome (without_connected cid f.agenda.connected) (restored_vars es) c)) told
      (subst (λ ds. Contains agenda.pending c ↔ (Contains (without_cid cid f.agenda.pending) c ⊎ IsOverSome ds (restored_vars entries) c)) connected
      (subst (λ ns. Contains agenda.pending c ↔ (Contains ns c ⊎ IsOverSome away.connected (restored_vars entries) c)) pending (woken c)));
  empty = notes;
  checks = refl;
}
