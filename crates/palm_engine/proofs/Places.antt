-- How far a revision has come over the places of a scope.
use Rattle.std.proofs.Common.{◌≡◌, ℕ, zero, suc, ◌+◌, ◌<◌, ◌≤◌, ℤ, true, List, [], ◌∷◌, ◌++◌, length, map, flat_map, sum_by, take, drop, All, Contains, Option, Some, None, slice_get, slice_set, get_or, inl, inr, refl, sym, ap, ◌∙◌, subst, arith}
use Rattle.std.proofs.lemmas.Int.{ints}
use Rattle.std.specs.Option.{is_some}
use Rattle.std.proofs.lemmas.Bool.{cases_Bool, false≢true}
use Rattle.std.proofs.lemmas.List.{append_assoc, take_more}
use Rattle.std.proofs.lemmas.List.Elements.{All-contains}
use Rattle.std.proofs.lemmas.List.Sums.{sum_by-cons, sum_by-append}
use Rattle.std.proofs.lemmas.Option.{slice_get_within, get_or_from_slice_get, slice_get-get_or}
use Rattle.palm_base.specs.declared.terms.Pair.{Pair}
use Rattle.palm_base.specs.declared.terms.Cid.{Cid}
use Rattle.palm_base.proofs.cited.Members.{member_map, member_unmap, member_get, all_members}
use Rattle.palm_domain.specs.Rows.{initial_of, present_of}
use Rattle.palm_model.specs.Domains.{Domains, Has, values_of}
use Rattle.palm_model.specs.Constraint.{scope}
use Rattle.palm_model.specs.Support.{IsSupported}
use Rattle.palm_model.specs.Removed.{pairs_of}
use Rattle.palm_base.specs.Order.{Rises, same_cid}
use Rattle.palm_model.specs.Log.{Active, log_pairs}
use Rattle.palm_explain.specs.Explanations.{Explanations, LacksExactly}
use Rattle.palm_model.specs.State.{HasEmpty, IsValid, woken}
use Rattle.palm_agenda.specs.declared.mark.Mark.{Mark}
use Rattle.palm_agenda.specs.declared.mark.Mark.TheVariants.{Clear, Between, Whole}
use Rattle.palm_agenda.specs.Marks.{MayLack}
use Rattle.palm_agenda.specs.Agenda.{Connected, Waiting, HasMarks, HasPlace, IsFormed, connected_cids}
use Rattle.palm_engine.specs.declared.filtering.Filtering.{Filtering}
use Rattle.palm_engine.specs.Settling.{Walks, walk_order}
use Rattle.palm_engine.specs.Settling.Walks.{walked_empty}
use Rattle.palm_engine.specs.Advancing.{AreSupportedUnless}
use Rattle.palm_engine.specs.Kept.{IsEmptyKept, AreConnected, AreHeeded, AreMarked, state_in_revision}
use Rattle.palm_engine.specs.Revising.{IsRevising, IsAgain, Walked, WalkedPart, AreSupportedAt, HasCounted}
use Rattle.palm_engine.specs.Work.{users_removals}
use Rattle.palm_engine.proofs.Bounds.{supported_past}
use Rattle.palm_engine.proofs.Scopes.{bare_unmarked, connected_stays, heeded_stays}
use Rattle.palm_engine.proofs.Unmarking.{active_connected, marked_walked, unmark}
use Rattle.palm_engine.proofs.Progress.{walked_none, walked_then, walked_initial, counted_none, counted_then, counted_more, below_or_not}
use Rattle.palm_engine.proofs.Revised.{present_is}

-- ---- the agenda stays formed

unmark_marks : (cid : Cid) (place : ℕ) (d : Connected) → HasMarks d → HasMarks (unmark cid place d)
unmark_marks cid place d h = elim (cases_Bool (same_cid cid d.cid)) [
  | inl t ↦ rw t (set_length d.marks place ∙ h)
  | inr f ↦ rw f h
]
  where
    set_length : (marks : List Mark) (k : ℕ) → length (slice_set marks k Clear) ≡ length marks
    set_length [] k = refl
    set_length (m ∷ marks) zero = refl
    set_length (m ∷ marks) (suc k) = ap suc (set_length marks k)

unmark_cids : (cid : Cid) (place : ℕ) (connected : List Connected) → connected_cids (map (unmark cid place) connected) ≡ connected_cids connected
unmark_cids cid place [] = refl
unmark_cids cid place (d ∷ connected) =
    ap (λ c. c ∷ connected_cids (map (unmark cid place) connected)) (ap (λ (e : Connected). e.cid) (bare_unmarked cid place d)) ∙ ap (λ cs. d.cid ∷ cs) (unmark_cids cid place connected)

pub formed_unmarked : (before after : Waiting) (cid : Cid) (place : ℕ) → after.connected ≡ map (unmark cid place) before.connected → after.pending ≡ before.pending → IsFormed before → IsFormed after
formed_unmarked before after cid place connected pending formed = record {
  rising = subst (λ cs. Rises (connected_cids cs)) (sym connected) (subst Rises (sym (unmark_cids cid place before.connected)) formed.rising);
  pending_rising = subst Rises (sym pending) formed.pending_rising;
  pending_connected = λ c m.
      let is = formed.pending_connected c (subst (λ cs. Contains cs c) pending m) in
      record {
        owner = unmark cid place is.owner;
        listed = subst (λ cs. Contains cs (unmark cid place is.owner)) (sym connected) (member_map (unmark cid place) before.connected is.owner is.listed);
        named = ap (λ (e : Connected). e.cid) (bare_unmarked cid place is.owner) ∙ is.named;
      };
  marks = subst (λ cs. All HasMarks cs) (sym connected) (all_members HasMarks (map (unmark cid place) before.connected) (λ d m.
      let r = member_unmap (unmark cid place) before.connected d m in
      subst HasMarks r.2 (unmark_marks cid place r.0 (all_here before.connected formed.marks r.0 r.1))));
}
  where
    all_here : (connected : List Connected) → All HasMarks connected → (d : Connected) → Contains connected d → HasMarks d
    all_here connected all d m = All-contains HasMarks connected d all m

-- ---- one place

get_within : {X : Type 0} (xs : List X) (k : ℕ) (x : X) → slice_get xs k ≡ Some x → k < length xs
get_within xs k x e = slice_get_within xs k x e

pub owner_place : (f : Filtering) (active : List Active) (owner : Active) (place x : ℕ) → IsRevising f active owner → slice_get (scope owner.con) place ≡ Some x → HasPlace f.agenda.connected owner.cid place
owner_place f active owner place x r at =
    let c = active_connected active f.agenda.connected r.kept.connected owner r.posted in
    let lt = get_within (scope owner.con) place x at in
    record { owner = c.0; listed = c.1; named = c.2; within = subst (λ xs. place < length xs) (sym c.3) lt }

pub place_over : (owner : Active) (place x : ℕ) → slice_get (scope owner.con) place ≡ Some x → Contains (scope owner.con) x
place_over owner place x at = member_get (scope owner.con) place x at

-- the values that the mark of a place leaves out have support
pub mark_supported : (f : Filtering) (active : List Active) (owner : Active) (place x : ℕ) (m : Mark) → IsRevising f active owner → slice_get (scope owner.con) place ≡ Some x
    → ((d : Connected) → Contains f.agenda.connected d → d.cid ≡ owner.cid → slice_get d.marks place ≡ Some m) → AreSupportedUnless m f owner x
mark_supported f active owner place x m r at told v has out =
    let c = active_connected active f.agenda.connected r.kept.connected owner r.posted in
    r.kept.marked owner c.0 place x m v r.posted c.1 c.2 (ap (λ xs. slice_get xs place) c.3 ∙ at) (told c.0 c.1 c.2) out has

-- and so have all, where those have it that the mark does not leave out
pub mark_known : (m : Mark) (f : Filtering) (owner : Active) (x : ℕ) → AreSupportedUnless m f owner x → ((v : ℤ) → Has (present_of f.store) x v → MayLack m v → IsSupported (present_of f.store) owner.con x v) → AreSupportedAt f owner x
mark_known Clear f owner x out known v has = out v has (λ may. may)
mark_known Whole f owner x out known v has = known v has tt
mark_known (Between low high) f owner x out known v has = elim (below_or_not v low) [
  | inl lt ↦ out v has (λ may. let ge = may.0 in omega (arith, ints, lt, ge))
  | inr ge ↦ elim (below_or_not high v) [
    | inl lt ↦ out v has (λ may. let le = may.1 in omega (arith, ints, lt, le))
    | inr le ↦ known v has (ge, le)
  ]
]

pub place_past : (f : Filtering) (active : List Active) (owner : Active) (x : ℕ) → IsRevising f active owner → AreSupportedAt f owner x → Walked active owner (pairs_of x (values_of (initial_of f.store) x)) f f
place_past f active owner x r supported =
    let e = present_is f active owner.cid r.kept in
    record {
      removed = 0;
      walk = supported_past owner x (values_of (initial_of f.store) x) (state_in_revision f active owner.cid) (λ v m has.
          subst (λ d. IsSupported d owner.con x v) (sym e) (supported v (subst (λ d. Has d x v) e has)));
      again = refl;
    }

-- the mark of a place is cleared
pub record Clears (cid : Cid) (place : ℕ) (f g : Filtering) : Type 0 where
  pub store : g.store ≡ f.store
  pub log : g.log ≡ f.log
  pub connected : g.agenda.connected ≡ map (unmark cid place) f.agenda.connected
  pub pending : g.agenda.pending ≡ f.agenda.pending
  pub empty : g.empty ≡ f.empty
  pub checks : g.checks ≡ f.checks

cleared_state : (f g : Filtering) (active : List Active) (cid : Cid) (place : ℕ) → Clears cid place f g → state_in_revision g active cid ≡ state_in_revision f active cid
cleared_state f g active cid place clears =
    let store = clears.store in
    let log = clears.log in
    let pending = clears.pending in
    λ i. record { initial = initial_of (store i); active = active; log = (log i).log; pending = woken active (cid ∷ pending i) [] }

pub cleared_revising : (f g : Filtering) (active : List Active) (owner : Active) (place x : ℕ) → IsRevising f active owner → slice_get (scope owner.con) place ≡ Some x → AreSupportedAt f owner x → Clears owner.cid place f g → IsRevising g active owner
cleared_revising f g active owner place x r at supported clears = record {
  kept = record {
    removed = subst (λ s. LacksExactly s (log_pairs g.log.log)) (sym clears.store) (subst (λ (l : Explanations). LacksExactly f.store (log_pairs l.log)) (sym clears.log) r.kept.removed);
    formed = formed_unmarked f.agenda g.agenda owner.cid place clears.connected clears.pending r.kept.formed;
    connected = subst (λ cs. AreConnected active cs) (sym clears.connected) (connected_stays active f.agenda.connected (unmark owner.cid place) (bare_unmarked owner.cid place) r.kept.connected);
    heeded = subst (λ cs. AreHeeded active cs) (sym clears.connected) (heeded_stays active f.agenda.connected (unmark owner.cid place) (bare_unmarked owner.cid place) r.kept.heeded);
    marked = subst (λ s. AreMarked (present_of s) active g.agenda.connected) (sym clears.store) (subst (λ cs. AreMarked (present_of f.store) active cs) (sym clears.connected)
        (marked_walked (present_of f.store) active f.agenda.connected owner place x r.valid.rising r.kept.connected r.posted at supported r.kept.marked));
    empty = subst (λ s. IsEmptyKept (present_of s) g.empty) (sym clears.store) (subst (λ o. IsEmptyKept (present_of f.store) o) (sym clears.empty) r.kept.empty);
  };
  valid = subst IsValid (sym (cleared_state f g active owner.cid place clears)) r.valid;
  posted = r.posted;
}

cleared_again : (n : ℕ) (cid c : Cid) (place : ℕ) (f g h : Filtering) → Clears c place g h → IsAgain n cid f g → IsAgain n cid f h
cleared_again zero cid c place f g h clears again = clears.pending ∙ again
cleared_again (suc n) cid c place f g h clears again = subst (λ cs. Contains cs cid) (sym clears.pending) again

pub cleared_walked : (active : List Active) (owner : Active) (pairs : List Pair) (f g h : Filtering) (place : ℕ) → Walked active owner pairs f g → Clears owner.cid place g h → Walked active owner pairs f h
cleared_walked active owner pairs f g h place w clears = record {
  removed = w.removed;
  walk = subst (λ t. Walks owner pairs (state_in_revision f active owner.cid) w.removed t) (sym (cleared_state g h active owner.cid place clears)) w.walk;
  again = cleared_again w.removed owner.cid owner.cid place f g h clears w.again;
}

pub cleared_counted : (n : ℕ) (f g h : Filtering) (s t : ℕ) (cid : Cid) (place : ℕ) → HasCounted n f g s t → Clears cid place g h → HasCounted n f h s t
cleared_counted n f g h s t cid place counted clears =
    let ticked = counted.ticked in
    record {
      ticked = record { later = ticked.later; few = ticked.few; checks = λ le. clears.checks ∙ ticked.checks le };
      silent = λ e. ap (λ (l : Explanations). users_removals l.log) clears.log ∙ counted.silent e;
    }

-- ---- all places

-- the declared pairs of these variables, and how many they are
abbrev pub pairs_over : Domains → List ℕ → List Pair
pairs_over initial xs = flat_map (λ x. pairs_of x (values_of initial x)) xs

abbrev pub sizes_at : Domains → List ℕ → ℕ
sizes_at initial xs = sum_by (λ x. length (values_of initial x)) xs

pub pairs_over_both : (initial : Domains) (xs ys : List ℕ) → pairs_over initial (xs ++ ys) ≡ pairs_over initial xs ++ pairs_over initial ys
pairs_over_both initial [] ys = refl
pairs_over_both initial (x ∷ xs) ys = ap (λ ps. pairs_of x (values_of initial x) ++ ps) (pairs_over_both initial xs ys) ∙ sym (append_assoc (pairs_of x (values_of initial x)) (pairs_over initial xs) (pairs_over initial ys))

-- the places before this one were walked over
pub record WalkedPlaces (active : List Active) (owner : Active) (place : ℕ) (before now : Filtering) (old new : ℕ) : Type 0 where
  pub revising : IsRevising now active owner
  pub walked : Walked active owner (pairs_over (initial_of before.store) (take place (scope owner.con))) before now
  pub counted : HasCounted (sizes_at (initial_of before.store) (take place (scope owner.con))) before now old new

pub places_start : (active : List Active) (owner : Active) (f : Filtering) (s : ℕ) → IsRevising f active owner → WalkedPlaces active owner 0 f f s s
places_start active owner f s r = record { revising = r; walked = walked_none active owner f; counted = counted_none f s }

one_pair_list : (initial : Domains) (x : ℕ) → pairs_over initial (x ∷ []) ≡ pairs_of x (values_of initial x)
one_pair_list initial x = none_after (pairs_of x (values_of initial x))
  where
    none_after : (ps : List Pair) → ps ++ [] ≡ ps
    none_after [] = refl
    none_after (p ∷ ps) = ap (λ qs. p ∷ qs) (none_after ps)

take_one_more : (xs : List ℕ) (k x : ℕ) → slice_get xs k ≡ Some x → take (k + 1) xs ≡ take k xs ++ x ∷ []
take_one_more xs k x at = take_more xs k x (slice_get_within xs k x at) ∙ ap (λ y. take k xs ++ y ∷ []) (get_or_from_slice_get xs k x x at)

more_pairs : (initial : Domains) (xs : List ℕ) (k x : ℕ) → slice_get xs k ≡ Some x → pairs_over initial (take (k + 1) xs) ≡ pairs_over initial (take k xs) ++ pairs_of x (values_of initial x)
more_pairs initial xs k x at =
    ap (pairs_over initial) (take_one_more xs k x at) ∙ pairs_over_both initial (take k xs) (x ∷ []) ∙ ap (λ ps. pairs_over initial (take k xs) ++ ps) (one_pair_list initial x)

more_sizes : (initial : Domains) (xs : List ℕ) (k x : ℕ) → slice_get xs k ≡ Some x → sizes_at initial (take (k + 1) xs) ≡ sizes_at initial (take k xs) + length (values_of initial x)
more_sizes initial xs k x at =
    ap (sizes_at initial) (take_one_more xs k x at) ∙ sum_by-append (λ y. length (values_of initial y)) (take k xs) (x ∷ [])
    ∙ ap (λ n. sizes_at initial (take k xs) + n) (sum_by-cons (λ y. length (values_of initial y)) x [] ∙ plus_none (length (values_of initial x)))
  where
    plus_none : (n : ℕ) → n + 0 ≡ n
    plus_none n = omega arith

pub places_more : (active : List Active) (owner : Active) (place x : ℕ) (before now after : Filtering) (s t u : ℕ) → slice_get (scope owner.con) place ≡ Some x → WalkedPlaces active owner place before now s t
    → Walked active owner (pairs_of x (values_of (initial_of now.store) x)) now after → IsRevising after active owner → HasCounted (length (values_of (initial_of now.store) x)) now after t u
    → WalkedPlaces active owner (place + 1) before after s u
places_more active owner place x before now after s t u at w one r counted =
    let initial = initial_of before.store in
    let i = walked_initial active owner (pairs_over initial (take place (scope owner.con))) before now w.walked in
    let one' = subst (λ (d : Domains). Walked active owner (pairs_of x (values_of d x)) now after) i one in
    let counted' = subst (λ (d : Domains). HasCounted (length (values_of d x)) now after t u) i counted in
    record {
      revising = r;
      walked = subst (λ ps. Walked active owner ps before after) (sym (more_pairs initial (scope owner.con) place x at))
          (walked_then active owner (pairs_over initial (take place (scope owner.con))) (pairs_of x (values_of initial x)) before now after w.walked one');
      counted = subst (λ n. HasCounted n before after s u) (sym (more_sizes initial (scope owner.con) place x at))
          (counted_then (sizes_at initial (take place (scope owner.con))) (length (values_of initial x)) before now after s t u w.counted counted');
    }

-- the places from this one on
rest_pairs : (initial : Domains) (xs : List ℕ) (k : ℕ) → pairs_over initial xs ≡ pairs_over initial (take k xs) ++ pairs_over initial (drop k xs)
rest_pairs initial xs k = ap (pairs_over initial) (sym (take_drop xs k)) ∙ pairs_over_both initial (take k xs) (drop k xs)
  where
    take_drop : (xs : List ℕ) (k : ℕ) → take k xs ++ drop k xs ≡ xs
    take_drop xs zero = refl
    take_drop [] (suc k) = refl
    take_drop (x ∷ xs) (suc k) = ap (λ ys. x ∷ ys) (take_drop xs k)

rest_sizes : (initial : Domains) (xs : List ℕ) (k : ℕ) → sizes_at initial (take k xs) ≤ sizes_at initial xs
rest_sizes initial xs zero = omega arith
rest_sizes initial [] (suc k) = omega arith
rest_sizes initial (x ∷ xs) (suc k) =
    let f = λ (y : ℕ). length (values_of initial y) in
    let a = sum_by-cons f x (take k xs) in
    let b = sum_by-cons f x xs in
    let rest = rest_sizes initial xs k in
    omega (arith, a, b, rest)

pub places_done : (active : List Active) (owner : Active) (place : ℕ) (before now : Filtering) (s t : ℕ) → length (scope owner.con) ≤ place → WalkedPlaces active owner place before now s t → Walked active owner (walk_order (initial_of before.store) owner.con) before now
places_done active owner place before now s t le w = subst (λ xs. Walked active owner (pairs_over (initial_of before.store) xs) before now) (take_all_of (scope owner.con) place le) w.walked
  where
    take_all_of : (xs : List ℕ) (k : ℕ) → length xs ≤ k → take k xs ≡ xs
    take_all_of [] zero le = refl
    take_all_of [] (suc k) le = refl
    take_all_of (x ∷ xs) zero le = absurd (omega arith)
    take_all_of (x ∷ xs) (suc k) le = ap (λ ys. x ∷ ys) (take_all_of xs k (omega arith))

-- where a domain is empty, the rest of the places is walked over too
pub places_emptied : (active : List Active) (owner : Active) (place : ℕ) (before now : Filtering) (s t : ℕ) → HasEmpty (present_of now.store) → WalkedPlaces active owner place before now s t → Walked active owner (walk_order (initial_of before.store) owner.con) before now
places_emptied active owner place before now s t empty w =
    let initial = initial_of before.store in
    let e = subst HasEmpty (sym (present_is now active owner.cid w.revising.kept)) empty in
    let rest : Walked active owner (pairs_over initial (drop place (scope owner.con))) now now = record {
      removed = 0;
      walk = walked_empty (pairs_over initial (drop place (scope owner.con))) (state_in_revision now active owner.cid) e;
      again = refl;
    } in
    subst (λ ps. Walked active owner ps before now) (sym (rest_pairs initial (scope owner.con) place))
    (walked_then active owner (pairs_over initial (take place (scope owner.con))) (pairs_over initial (drop place (scope owner.con))) before now now w.walked rest)

pub places_counted : (active : List Active) (owner : Active) (place : ℕ) (before now : Filtering) (s t : ℕ) → WalkedPlaces active owner place before now s t → HasCounted (sizes_at (initial_of before.store) (scope owner.con)) before now s t
places_counted active owner place before now s t w =
    counted_more (sizes_at (initial_of before.store) (take place (scope owner.con))) (sizes_at (initial_of before.store) (scope owner.con)) before now s t (rest_sizes (initial_of before.store) (scope owner.con) place) w.counted

-- where memory runs out at a place
pub places_stopped : (active : List Active) (owner : Active) (place x : ℕ) (before now after : Filtering) (s t : ℕ) → slice_get (scope owner.con) place ≡ Some x → WalkedPlaces active owner place before now s t
    → WalkedPart active owner (pairs_of x (values_of (initial_of now.store) x)) now after → WalkedPart active owner (walk_order (initial_of before.store) owner.con) before after
places_stopped active owner place x before now after s t at w part =
    let initial = initial_of before.store in
    let xs = scope owner.con in
    let first = pairs_over initial (take place xs) in
    let rest = pairs_over initial (drop (place + 1) xs) in
    let i = walked_initial active owner first before now w.walked in
    let order : pairs_of x (values_of initial x) ≡ part.done ++ part.next ∷ part.left = ap (λ (d : Domains). pairs_of x (values_of d x)) (sym i) ∙ part.order in
    record {
      done = first ++ part.done;
      next = part.next;
      left = part.left ++ rest;
      order =
          rest_pairs initial xs (place + 1) ∙ ap (λ ps. ps ++ rest) (more_pairs initial xs place x at ∙ ap (λ ps. first ++ ps) order)
          ∙ ap (λ ps. ps ++ rest) (sym (append_assoc first part.done (part.next ∷ part.left))) ∙ append_assoc (first ++ part.done) (part.next ∷ part.left) rest;
      walked = walked_then active owner first part.done before now after w.walked part.walked;
      due = part.due;
    }

pub places_part_counted : (active : List Active) (owner : Active) (place x : ℕ) (before now after : Filtering) (s t u : ℕ) → slice_get (scope owner.con) place ≡ Some x → WalkedPlaces active owner place before now s t
    → HasCounted (length (values_of (initial_of now.store) x)) now after t u → HasCounted (sizes_at (initial_of before.store) (scope owner.con)) before after s u
places_part_counted active owner place x before now after s t u at w counted =
    let initial = initial_of before.store in
    let i = walked_initial active owner (pairs_over initial (take place (scope owner.con))) before now w.walked in
    let e = more_sizes initial (scope owner.con) place x at in
    let le = rest_sizes initial (scope owner.con) (place + 1) in
    counted_more (sizes_at initial (take place (scope owner.con)) + length (values_of initial x)) (sizes_at initial (scope owner.con)) before after s u (omega (arith, e, le))
    (counted_then (sizes_at initial (take place (scope owner.con))) (length (values_of initial x)) before now after s t u w.counted (subst (λ (d : Domains). HasCounted (length (values_of d x)) now after t u) i counted))

-- the mark of the place is taken away in the agenda
pub unmarked_clears : (g : Filtering) (a : Waiting) (cid n : Cid) (place : ℕ) → n ≡ cid → a.connected ≡ map (unmark n place) g.agenda.connected → a.pending ≡ g.agenda.pending → Clears cid place g (record g { agenda = a })
unmarked_clears g a cid n place named connected pending = record {
  store = refl;
  log = refl;
  connected = connected ∙ ap (λ c. map (unmark c place) g.agenda.connected) named;
  pending = pending;
  empty = refl;
  checks = refl;
}

-- where the empty variable is known, a domain is empty
pub kept_empty : (d : Domains) (o : Option ℕ) → is_some o ≡ true → IsEmptyKept d o → HasEmpty d
kept_empty d (Some x) t kept = (x, kept.0)
kept_empty d None t kept = absurd (false≢true t)

-- the variable at a place of a list that is the scope
pub place_at : (xs ys zs : List ℕ) (k x : ℕ) → xs ≡ ys → zs ≡ ys → k < length zs → x ≡ get_or xs k x → slice_get ys k ≡ Some x
place_at xs ys zs k x same other lt at =
    let within : k < length xs = subst (λ l. k < length l) (other ∙ sym same) lt in
    ap (λ l. slice_get l k) (sym same) ∙ slice_get-get_or xs k x within ∙ ap Some (sym at)
