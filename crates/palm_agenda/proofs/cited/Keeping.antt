-- What an agenda keeps, after each of its calls.
use Rattle.std.proofs.Common.{◌≡◌, ℕ, ◌+◌, ◌<◌, ◌≤◌, Bool, true, false, not, ◌||◌, if◌then◌else◌, List, [], ◌∷◌, map, reverse, length, get_or, set, take, slice_get, insert, remove, Contains, All, Option, None, Some, zero, suc, ◌⊎◌, ◌↔◌, inl, inr, refl, sym, ap, ◌∙◌, subst, arith, nat_eq, nat_lt, lt-ltb, le-ltb, IfNone, eq-eqb, eqb-true, length-set}
use Rattle.std.specs.Option.{MatchOption}
use Rattle.std.proofs.lemmas.Bool.{cases_Bool, cases_lt, false≢true}
use Rattle.std.proofs.lemmas.List.{get_or-map, length-map, length-replicate, nil_from_length, take_all}
use Rattle.std.proofs.lemmas.List.Edits.{length-insert, length-remove}
use Rattle.std.proofs.lemmas.List.Folds.{list_any_more}
use Rattle.std.proofs.lemmas.Option.{slice_get_within, slice_get-get_or, get_or_from_slice_get}
use Rattle.palm_base.specs.declared.terms.Cid.{Cid}
use Rattle.palm_base.proofs.cited.Members.{member_get, member_nil, member_same, member_map, member_unmap, all_members, map_agree, member_take_more}
use Rattle.palm_base.specs.Tells.{Tells}
use Rattle.palm_model.proofs.cited.Supports.{any_member, member_any}
use Rattle.palm_base.specs.Order.{Rises, cid_before, same_cid, IsPartedAt}
use Rattle.palm_model.specs.Log.{is_named}
use Rattle.palm_model.specs.State.{without_cid}
use Rattle.palm_base.proofs.cited.CidOrder.{cid_same, same_cid_itself}
use Rattle.palm_events.proofs.cited.Names.{member_named}
use Rattle.palm_events.proofs.cited.States.{without_cid_rises}
use Rattle.palm_agenda.specs.Flags.{FlagRow, IsFirst, count_raised, flagged}
use Rattle.palm_agenda.specs.Cids.{Roomy, cids_at}
use Rattle.palm_agenda.specs.Agenda.{Connected, HasMarks, IsConnected, IsFormed, Takes, index_within, IsOver, HasPlace, connected_cids, marked_whole, changed_where, changed_at, changed_among, mark_others, is_over, unmarked, with_connected, without_connected}
use Rattle.palm_agenda.specs.Kept.{IsAgenda, IsShown}
use Rattle.palm_agenda.specs.Places.{is_place, mark_at, mark_places}
use Rattle.palm_filter.specs.declared.heed.Heed.{Heed}
use Rattle.palm_agenda.specs.Losses.{heed_of, mark_after}
use Rattle.palm_agenda.specs.declared.loss.Loss.{Loss}
use Rattle.palm_agenda.specs.Marks.{widened}
use Rattle.palm_agenda.specs.declared.mark.Mark.{Mark}
use Rattle.palm_agenda.specs.declared.mark.Mark.TheVariants.{Clear, Whole}
use Rattle.palm_agenda.specs.declared.connection.Places.{Places}
use Rattle.palm_agenda.specs.declared.connection.Places.TheVariants.{Own, Others}
use Rattle.palm_agenda.proofs.cited.Connecting.{cid_of, cid_connected, cids_with, cids_without, over_connected, over_with, over_without, stands, connected_at, disconnected_at, with_connected_cases, without_connected_member, sorted_connected}
use Rattle.palm_agenda.proofs.Flagged.{flagged_length, flagged_member, flagged_rises, inserted_set, lowered_without, raised_set, removed_lowered, first_flagged}
use Rattle.palm_agenda.proofs.Heeding.{after_twice}
use Rattle.palm_agenda.proofs.cited.Marking.{marks_again, marks_alike, marks_alone, marks_length, marks_none, widened_twice}
use Rattle.palm_base.proofs.cited.RisingLists.{with_cid_rises, rising}
use Rattle.palm_agenda.proofs.CidLists.{filter_short, member_reverse, reverse_member}
use Rattle.palm_agenda.proofs.Rows.{front_last, front_more, row_within}
use Rattle.palm_base.proofs.cited.Sorted.{map_sets, apart}

pub if_true : {X : Type 0} (b : Bool) (x y : X) → b ≡ true → (if b then x else y) ≡ x
if_true b x y e = ap (λ v. if v then x else y) e

pub if_false : {X : Type 0} (b : Bool) (x y : X) → b ≡ false → (if b then x else y) ≡ y
if_false b x y e = ap (λ v. if v then x else y) e

-- the ids at raised flags are of connected constraints, and rise
pub formed_of : (connected : List Connected) (flags : List Bool) → Rises (connected_cids connected) → All HasMarks connected → IsFormed (record { connected = connected; pending = flagged (connected_cids connected) flags })
formed_of connected flags rises marks = record {
  rising = rises;
  pending_rising = flagged_rises (connected_cids connected) flags rises;
  pending_connected = λ c m. cid_connected connected c (flagged_member (connected_cids connected) flags c m);
  marks = marks;
}

-- ---- a change of marks

-- a change that keeps the id, the scope, how losses are heeded and how many marks there are
pub record KeepsScopes (f : Connected → Connected) : Type 0 where
  pub cid : (d : Connected) → (f d).cid ≡ d.cid
  pub scope : (d : Connected) → (f d).scope ≡ d.scope
  pub heeds : (d : Connected) → (f d).heeds ≡ d.heeds
  pub many : (d : Connected) → length (f d).marks ≡ length d.marks

module _ (f : Connected → Connected) (keeps : KeepsScopes f) where
  pub cids_kept : (connected : List Connected) → connected_cids (map f connected) ≡ connected_cids connected
  cids_kept [] = refl
  cids_kept (d ∷ connected) = ap (λ c. c ∷ connected_cids (map f connected)) (keeps.cid d) ∙ ap (λ cs. d.cid ∷ cs) (cids_kept connected)

  pub over_kept : (connected : List Connected) (x : ℕ) (c : Cid) → IsOver (map f connected) x c ↔ IsOver connected x c
  over_kept connected x c = (
    λ is.
        let r = member_unmap f connected is.owner is.listed in
        record {
          owner = r.0;
          listed = r.1;
          named = sym (keeps.cid r.0) ∙ ap cid_of r.2 ∙ is.named;
          over = subst (λ xs. Contains xs x) (sym (ap (λ (d : Connected). d.scope) r.2) ∙ keeps.scope r.0) is.over;
        },
    λ is. record {
      owner = f is.owner;
      listed = member_map f connected is.owner is.listed;
      named = keeps.cid is.owner ∙ is.named;
      over = subst (λ xs. Contains xs x) (sym (keeps.scope is.owner)) is.over;
    },
  )

  pub connected_kept : (connected : List Connected) (c : Cid) → IsConnected connected c → IsConnected (map f connected) c
  connected_kept connected c is = record { owner = f is.owner; listed = member_map f connected is.owner is.listed; named = keeps.cid is.owner ∙ is.named }

  pub place_kept : (connected : List Connected) (c : Cid) (place : ℕ) → HasPlace connected c place → HasPlace (map f connected) c place
  place_kept connected c place is = record {
    owner = f is.owner;
    listed = member_map f connected is.owner is.listed;
    named = keeps.cid is.owner ∙ is.named;
    within = subst (λ (xs : List ℕ). place < length xs) (sym (keeps.scope is.owner)) is.within;
  }

  marks_kept : (connected : List Connected) → All HasMarks connected → All HasMarks (map f connected)
  marks_kept connected all = all_members HasMarks (map f connected) (λ d m.
      let r = member_unmap f connected d m in
      let k = r.1 in
      let has : HasMarks r.0 = subst HasMarks k.2 (all k.0 r.0 k.1) in
      subst HasMarks r.2 (keeps.many r.0 ∙ has ∙ ap length (sym (keeps.scope r.0))))

  pub kept_after : (connected : List Connected) (over : List Roomy) (flags : List Bool) (shown : ℕ) → IsAgenda connected over flags shown → IsAgenda (map f connected) over flags shown
  kept_after connected over flags shown kept = record {
    formed = formed_of (map f connected) flags (subst Rises (sym (cids_kept connected)) kept.formed.rising) (marks_kept connected kept.formed.marks);
    over_cids = λ x c. (
      λ m. (over_kept connected x c).1 ((kept.over_cids x c).0 m),
      λ is. (kept.over_cids x c).1 ((over_kept connected x c).0 is),
    );
    flag_each = omega (arith, length-map connected f, kept.flag_each);
    shown_room = omega (arith, length-map connected f, kept.shown_room);
  }

-- ---- a change of what is pending

pub pending_after : (connected : List Connected) (over : List Roomy) (flags now : List Bool) (shown room : ℕ) → IsAgenda connected over flags shown → length now ≡ length flags → shown ≤ room → IsAgenda connected over now room
pending_after connected over flags now shown room kept same grows = record {
  formed = formed_of connected now kept.formed.rising kept.formed.marks;
  over_cids = kept.over_cids;
  flag_each = omega (arith, same, kept.flag_each);
  shown_room = omega (arith, kept.shown_room, grows);
}

-- a flag is raised or lowered
pub set_after : (connected : List Connected) (over : List Roomy) (flags now : List Bool) (shown room place : ℕ) (flag : Bool) → IsAgenda connected over flags shown → now ≡ set flags place flag → shown ≤ room → IsAgenda connected over now room
set_after connected over flags now shown room place flag kept is grows = pending_after connected over flags now shown room kept (ap length is ∙ length-set flags place flag) grows

-- the first flag is lowered, where one is raised
pub first_after : (connected : List Connected) (over : List Roomy) (flags now : FlagRow) (shown : ℕ) (taken : Option ℕ) → IsAgenda connected over flags.flags shown
    → MatchOption taken ((count_raised flags.flags ≡ 0) × (now ≡ flags)) (λ place. IsFirst flags.flags place × (now.flags ≡ set flags.flags place false)) → IsAgenda connected over now.flags shown
first_after connected over flags now shown None kept is = subst (λ (f : FlagRow). IsAgenda connected over f.flags shown) (sym is.1) kept
first_after connected over flags now shown (Some place) kept is = set_after connected over flags.flags now.flags shown shown place false kept is.1 (omega arith)

-- no id is pending where no flag is raised
pub none_pending : (connected : List Connected) (over : List Roomy) (flags : List Bool) (shown : ℕ) → IsAgenda connected over flags shown → count_raised flags ≡ 0 → flagged (connected_cids connected) flags ≡ []
none_pending connected over flags shown kept none =
    nil_from_length (flagged (connected_cids connected) flags) (flagged_length (connected_cids connected) flags (kept.flag_each ∙ sym (length-map connected cid_of)) ∙ none)

pub tells_none : (connected : List Connected) (over : List Roomy) (flags : List Bool) (shown : ℕ) → IsAgenda connected over flags shown → (told : Bool) → Tells told (count_raised flags ≡ 0) → Tells told (flagged (connected_cids connected) flags ≡ [])
tells_none connected over flags shown kept true told = none_pending connected over flags shown kept told
tells_none connected over flags shown kept false told = λ e. told (sym (flagged_length (connected_cids connected) flags (kept.flag_each ∙ sym (length-map connected cid_of))) ∙ ap length e)

-- an id is pending where a flag is raised
pub some_pending : (connected : List Connected) (over : List Roomy) (flags : List Bool) (shown : ℕ) → IsAgenda connected over flags shown → (told : Bool) → Tells told (count_raised flags ≡ 0) → told ≡ false
    → (cids : List Cid) → cids ≡ flagged (connected_cids connected) flags → cids ≡ [] → ⊥
some_pending connected over flags shown kept told tells is cids shows none =
    let other : Tells false (flagged (connected_cids connected) flags ≡ []) = subst (λ b. Tells b (flagged (connected_cids connected) flags ≡ [])) is (tells_none connected over flags shown kept told tells) in
    other (sym shows ∙ none)

pub no_pending : (connected : List Connected) (over : List Roomy) (flags : List Bool) (shown : ℕ) → IsAgenda connected over flags shown → (told : Bool) → Tells told (count_raised flags ≡ 0) → told ≡ true → flagged (connected_cids connected) flags ≡ []
no_pending connected over flags shown kept told tells is = none_pending connected over flags shown kept (subst (λ b. Tells b (count_raised flags ≡ 0)) is tells)

-- an id that is shown is of a connected constraint
pub shown_connected : (connected : List Connected) (over : List Roomy) (flags : List Bool) (shown : ℕ) → IsAgenda connected over flags shown → (cids looked : List Cid) → cids ≡ flagged (connected_cids connected) flags → looked ≡ cids
    → (index : ℕ) (cid : Cid) → slice_get looked index ≡ Some cid → IsConnected connected cid
shown_connected connected over flags shown kept cids looked shows is index cid at =
    kept.formed.pending_connected cid (subst (λ cs. Contains cs cid) (is ∙ shows) (member_get looked index cid at))

-- the first id is handed out
pub first_taken : (connected : List Connected) (over : List Roomy) (flags now : List Bool) (shown : ℕ) → IsAgenda connected over flags shown → (place : ℕ) → IsFirst flags place → now ≡ set flags place false
    → (looked : List Connected) → looked ≡ connected → (cid : Cid) → slice_get (connected_cids looked) place ≡ Some cid → Takes (flagged (connected_cids connected) flags) (flagged (connected_cids connected) now) 0 cid
first_taken connected over flags now shown kept place first is looked looked_is cid named =
    let within : place < length flags = slice_get_within flags place true first.raised in
    let same = kept.flag_each in
    let many = length-map connected cid_of in
    let at : (c : Cid) → get_or (connected_cids connected) place c ≡ cid = λ c. ap (λ ds. get_or (connected_cids ds) place c) (sym looked_is) ∙ get_or_from_slice_get (connected_cids looked) place cid c named in
    let front = first_flagged cid (connected_cids connected) flags place (omega arith) within at (λ b. get_or_from_slice_get flags place true b first.raised) first.before in
    record {
      chosen = ap (slice_get (flagged (connected_cids connected) flags)) (index_none (length (flagged (connected_cids connected) flags))) ∙ front;
      pending = ap (flagged (connected_cids connected)) is ∙ lowered_without cid (connected_cids connected) flags place kept.formed.rising (omega arith) within at;
    }
  where
    index_none : (n : ℕ) → index_within 0 n ≡ 0
    index_none n = either (nat_lt 0 n) 0
      where
        either : (b : Bool) (x : ℕ) → (if b then x else x) ≡ x
        either true x = refl
        either false x = refl

pub given_none : {X P Q : Type 0} (r : Option X) → P → Q → IfNone r (P × Q)
given_none None p q = (p, q)
given_none (Some x) p q = tt

-- the answered index, and 0 where it is out of range
pub index_in : (answer count : ℕ) → answer < count → answer ≡ index_within answer count
index_in answer count lt = sym (if_true (nat_lt answer count) answer 0 (lt-ltb answer count lt))

pub index_out : (answer count : ℕ) → count ≤ answer → 0 ≡ index_within answer count
index_out answer count past = sym (if_false (nat_lt answer count) answer 0 (le-ltb answer count past))

pub index_lower : (cids : List Cid) (answer : ℕ) → (cids ≡ [] → ⊥) → index_within answer (length cids) < length cids
index_lower [] answer some = absurd (some refl)
index_lower (c ∷ cids) answer some = elim (cases_lt answer (length (c ∷ cids))) [
  | inl lt ↦ omega (arith, index_in answer (length (c ∷ cids)) lt, lt)
  | inr past ↦ omega (arith, index_out answer (length (c ∷ cids)) past)
]

-- what is shown already
pub shown_already : (noted : Bool) (shown pending : List Cid) → IsShown noted shown pending → noted ≡ true → shown ≡ pending
shown_already true shown pending is e = is
shown_already false shown pending is e = absurd (false≢true e)

-- the answered id is handed out
pub answered_taken : (connected : List Connected) (over : List Roomy) (flags now : List Bool) (shown : ℕ) (kept : IsAgenda connected over flags shown) (cids looked : List Cid) → cids ≡ flagged (connected_cids connected) flags → looked ≡ cids
    → (answer : ℕ) (cid : Cid) → slice_get looked (index_within answer (length looked)) ≡ Some cid → flagged (connected_cids connected) now ≡ without_cid cid (flagged (connected_cids connected) flags)
    → Takes (flagged (connected_cids connected) flags) (flagged (connected_cids connected) now) answer cid
answered_taken connected over flags now shown kept cids looked shows is answer cid at less = record {
  chosen = subst (λ cs. slice_get cs (index_within answer (length cs)) ≡ Some cid) (is ∙ shows) at;
  pending = less;
}

-- ---- which marks change

keeps_where : (test : ℕ → Bool) (change : Connected → Mark → Mark) → KeepsScopes (λ d. changed_where test (change d) d)
keeps_where test change = record { cid = λ d. refl; scope = λ d. refl; heeds = λ d. refl; many = λ d. marks_length test (change d) d.scope d.marks }

pub keeps_unmarked : (place : ℕ) → KeepsScopes (unmarked place)
keeps_unmarked place = record { cid = λ d. refl; scope = λ d. refl; heeds = λ d. refl; many = λ d. length-set d.marks place Clear }

keeps_if : (test : Connected → Bool) (f : Connected → Connected) → KeepsScopes f → KeepsScopes (λ d. if test d then f d else d)
keeps_if test f keeps = record {
  cid = λ d. elim (cases_Bool (test d)) [
    | inl t ↦ ap cid_of (if_true (test d) (f d) d t) ∙ keeps.cid d
    | inr e ↦ ap cid_of (if_false (test d) (f d) d e)
  ];
  scope = λ d. elim (cases_Bool (test d)) [
    | inl t ↦ ap (λ (e : Connected). e.scope) (if_true (test d) (f d) d t) ∙ keeps.scope d
    | inr e ↦ ap (λ (e : Connected). e.scope) (if_false (test d) (f d) d e)
  ];
  heeds = λ d. elim (cases_Bool (test d)) [
    | inl t ↦ ap (λ (e : Connected). e.heeds) (if_true (test d) (f d) d t) ∙ keeps.heeds d
    | inr e ↦ ap (λ (e : Connected). e.heeds) (if_false (test d) (f d) d e)
  ];
  many = λ d. elim (cases_Bool (test d)) [
    | inl t ↦ ap (λ (e : Connected). length e.marks) (if_true (test d) (f d) d t) ∙ keeps.many d
    | inr e ↦ ap (λ (e : Connected). length e.marks) (if_false (test d) (f d) d e)
  ];
}

-- each place of another variable is marked as the constraint heeds the loss
abbrev pub others_after : ℕ → Loss → Connected → Connected
others_after x loss d = changed_where (λ y. not (nat_eq y x)) (mark_after (heed_of x d.scope d.heeds) loss) d

pub keeps_places : (places : Places) (x : ℕ) → KeepsScopes (mark_places places x)
keeps_places (Own low high) x = keeps_where (λ y. nat_eq y x) (λ d. widened low high)
keeps_places (Others loss) x = keeps_if (is_over x) (others_after x loss) (keeps_where (λ y. not (nat_eq y x)) (λ d. mark_after (heed_of x d.scope d.heeds) loss))

-- a change leaves how losses of a variable are heeded
pub heed_kept : (f : Connected → Connected) → KeepsScopes f → (x : ℕ) (d : Connected) → heed_of x (f d).scope (f d).heeds ≡ heed_of x d.scope d.heeds
heed_kept f keeps x d = ap (λ xs. heed_of x xs (f d).heeds) (keeps.scope d) ∙ ap (heed_of x d.scope) (keeps.heeds d)

pub keeps_at : (cid : Cid) (f : Connected → Connected) → KeepsScopes f → KeepsScopes (changed_at cid f)
keeps_at cid f keeps = keeps_if (λ d. same_cid cid d.cid) f keeps

pub keeps_among : (cids : List Cid) (f : Connected → Connected) → KeepsScopes f → KeepsScopes (changed_among cids f)
keeps_among cids f keeps = keeps_if (λ d. is_named cids d.cid) f keeps

-- marking again, by a change that adds nothing to the first one, changes nothing
where_again : (test : ℕ → Bool) (change more : Mark → Mark) → ((mark : Mark) → more (change mark) ≡ change mark) → (d : Connected) → changed_where test more (changed_where test change d) ≡ changed_where test change d
where_again test change more again d = ap (λ marks. record d { marks = marks }) (marks_again test change more again d.scope d.marks)

-- nor does another loss, where it adds nothing
pub others_again : (x : ℕ) (loss more : Loss) (d : Connected)
    → (is_over x d ≡ true → (mark : Mark) → mark_after (heed_of x d.scope d.heeds) more (mark_after (heed_of x d.scope d.heeds) loss mark) ≡ mark_after (heed_of x d.scope d.heeds) loss mark)
    → mark_others x more (mark_others x loss d) ≡ mark_others x loss d
others_again x loss more d again = elim (cases_Bool (is_over x d)) [
  | inl t ↦
      let once : mark_others x loss d ≡ others_after x loss d = if_true (is_over x d) (others_after x loss d) d t in
      ap (mark_others x more) once ∙ if_true (is_over x d) (others_after x more (others_after x loss d)) (others_after x loss d) t
      ∙ where_again (λ y. not (nat_eq y x)) (mark_after (heed_of x d.scope d.heeds) loss) (mark_after (heed_of x d.scope d.heeds) more) (again t) d ∙ sym once
  | inr f ↦
      let none : mark_others x loss d ≡ d = if_false (is_over x d) (others_after x loss d) d f in
      ap (mark_others x more) none ∙ if_false (is_over x d) (others_after x more d) d f ∙ sym none
]

-- marking twice is marking once
pub places_twice : (places : Places) (x : ℕ) (d : Connected) → mark_places places x (mark_places places x d) ≡ mark_places places x d
places_twice (Own low high) x d = where_again (λ y. nat_eq y x) (widened low high) (widened low high) (widened_twice low high) d
places_twice (Others loss) x d = others_again x loss loss d (λ t. after_twice (heed_of x d.scope d.heeds) loss)

over_told : (x : ℕ) (d : Connected) → Contains d.scope x → is_over x d ≡ true
over_told x d m = member_any (λ y. nat_eq y x) d.scope x m (eq-eqb x x refl)

pub told_over : (x : ℕ) (d : Connected) → is_over x d ≡ true → Contains d.scope x
told_over x d h = let r = any_member (λ y. nat_eq y x) d.scope h in member_same d.scope r.0 x (eqb-true r.0 x r.2) r.1

-- where a constraint is not over the variable, nothing is marked
places_none : (places : Places) (x : ℕ) (d : Connected) → (Contains d.scope x → ⊥) → mark_places places x d ≡ d
places_none (Own low high) x d none =
    ap (λ marks. record d { marks = marks }) (marks_none (λ y. nat_eq y x) (widened low high) d.scope d.marks (λ y m. apart' y m (nat_eq y x) refl))
  where
    apart' : (y : ℕ) → Contains d.scope y → (b : Bool) → nat_eq y x ≡ b → nat_eq y x ≡ false
    apart' y m true e = absurd (none (subst (λ z. Contains d.scope z) (eqb-true y x e) m))
    apart' y m false e = e
places_none (Others loss) x d none = elim (cases_Bool (is_over x d)) [
  | inl t ↦ absurd (none (told_over x d t))
  | inr f ↦ if_false (is_over x d) (others_after x loss d) d f
]

-- where there is no other variable, nothing is marked
pub others_none : (x : ℕ) (loss : Loss) (d : Connected) → ((y : ℕ) → Contains d.scope y → y ≡ x) → mark_others x loss d ≡ d
others_none x loss d one = elim (cases_Bool (is_over x d)) [
  | inl t ↦
      if_true (is_over x d) (others_after x loss d) d t
      ∙ ap (λ marks. record d { marks = marks }) (marks_none (λ y. not (nat_eq y x)) (mark_after (heed_of x d.scope d.heeds) loss) d.scope d.marks (λ y m. ap not (eq-eqb y x (one y m))))
  | inr f ↦ if_false (is_over x d) (others_after x loss d) d f
]

-- where it is, these places are
pub places_over : (places : Places) (x : ℕ) (d : Connected) → Contains d.scope x → changed_where (is_place places x) (mark_at places (heed_of x d.scope d.heeds)) d ≡ mark_places places x d
places_over (Own low high) x d over = refl
places_over (Others loss) x d over = sym (if_true (is_over x d) (others_after x loss d) d (over_told x d over))

-- where the marks stay as they are, the constraint does
pub places_alone : (places : Places) (x : ℕ) (d : Connected) → Contains d.scope x → ((mark : Mark) → mark_at places (heed_of x d.scope d.heeds) mark ≡ mark) → d ≡ mark_places places x d
places_alone places x d over alone =
    sym (ap (λ marks. record d { marks = marks }) (marks_alone (is_place places x) (mark_at places (heed_of x d.scope d.heeds)) alone d.scope d.marks)) ∙ places_over places x d over

-- where a change makes the same of each mark, it marks the places
pub places_marked : (places : Places) (x : ℕ) (d : Connected) → Contains d.scope x → (change : Mark → Mark) → ((mark : Mark) → change mark ≡ mark_at places (heed_of x d.scope d.heeds) mark)
    → changed_where (is_place places x) change d ≡ mark_places places x d
places_marked places x d over change alike =
    ap (λ marks. record d { marks = marks }) (marks_alike (is_place places x) change (mark_at places (heed_of x d.scope d.heeds)) alike d.scope d.marks) ∙ places_over places x d over

-- ---- a change at one place

module _ (connected : List Connected) (rises : Rises (connected_cids connected)) (cid : Cid) (place : ℕ) (at : IsPartedAt (λ d. cid_before d.cid cid) connected place) where
  pub place_within : IsConnected connected cid → place < length connected
  place_within is = slice_get_within connected place is.owner (stands connected rises cid place at is.owner is.listed is.named)

  pub owner_is : (is : IsConnected connected cid) (d : Connected) → d ≡ get_or connected place d → d ≡ is.owner
  owner_is is d e = e ∙ get_or_from_slice_get connected place is.owner d (stands connected rises cid place at is.owner is.listed is.named)

  -- its id stands there among the ids
  pub cid_here : IsConnected connected cid → (c : Cid) → get_or (connected_cids connected) place c ≡ cid
  cid_here is c =
      get_or-map cid_of connected place is.owner c (place_within is)
      ∙ ap cid_of (get_or_from_slice_get connected place is.owner is.owner (stands connected rises cid place at is.owner is.listed is.named)) ∙ is.named

  -- its flag is raised
  pub raised_at : (flags now : List Bool) → length flags ≡ length connected → IsConnected connected cid → now ≡ set flags place true → (c : Cid)
      → Contains (flagged (connected_cids connected) now) c ↔ (Contains (flagged (connected_cids connected) flags) c ⊎ (c ≡ cid))
  raised_at flags now same is becomes c =
      let within = place_within is in
      subst (λ fs. Contains (flagged (connected_cids connected) fs) c ↔ (Contains (flagged (connected_cids connected) flags) c ⊎ (c ≡ cid))) (sym becomes)
      (raised_set cid (connected_cids connected) flags place (omega (arith, length-map connected cid_of)) (omega arith) (cid_here is) c)

  -- its flag is lowered
  pub lowered_at : (flags now : List Bool) → length flags ≡ length connected → IsConnected connected cid → now ≡ set flags place false → flagged (connected_cids connected) now ≡ without_cid cid (flagged (connected_cids connected) flags)
  lowered_at flags now same is becomes =
      let within = place_within is in
      ap (flagged (connected_cids connected)) becomes ∙ lowered_without cid (connected_cids connected) flags place rises (omega (arith, length-map connected cid_of)) (omega arith) (cid_here is)

  pub changed_here : (f : Connected → Connected) (is : IsConnected connected cid) (d now : Connected) → d ≡ get_or connected place d → now ≡ f d → set connected place now ≡ map (changed_at cid f) connected
  changed_here f is d now e becomes =
      map_sets (changed_at cid f) connected place now (place_within is)
      (λ x.
      let here = get_or_from_slice_get connected place is.owner x (stands connected rises cid place at is.owner is.listed is.named) in
      ap (changed_at cid f) here
      ∙ if_true (same_cid cid is.owner.cid) (f is.owner) is.owner (subst (λ c. same_cid cid c ≡ true) (sym is.named) (same_cid_itself cid))
      ∙ ap f (sym (owner_is is d e)) ∙ sym becomes)
      (λ k x lt ne. if_false (same_cid cid (get_or connected k x).cid) (f (get_or connected k x)) (get_or connected k x) (other k x lt ne))
    where
      other : (k : ℕ) (x : Connected) → k < length connected → (k ≡ place → ⊥) → same_cid cid (get_or connected k x).cid ≡ false
      other k x lt ne = elim (cases_Bool (same_cid cid (get_or connected k x).cid)) [
        | inl t ↦
            let here = get_or_from_slice_get connected place is.owner x (stands connected rises cid place at is.owner is.listed is.named) in
            absurd (apart cid_of cid_before rising connected (sorted_connected connected rises) k place x lt (place_within is) ne
            (sym (cid_same cid (get_or connected k x).cid t) ∙ sym is.named ∙ ap cid_of (sym here)))
        | inr f ↦ f
      ]

  -- the constraint is over the variable
  pub over_here : (x : ℕ) (is : IsOver connected x cid) (d : Connected) → d ≡ get_or connected place d → Contains d.scope x
  over_here x is d e = subst (λ (o : Connected). Contains o.scope x) (sym (owner_is (over_connected connected x cid is) d e)) is.over

  -- what holds of it holds of each constraint under the id
  pub holds_here : (d : Connected) → d ≡ get_or connected place d → (P : Connected → Type 0) → P d → (e : Connected) → Contains connected e → e.cid ≡ cid → P e
  holds_here d item P told e listed named = subst P (owner_is (record { owner = e; listed = listed; named = named }) d item) told

-- ---- changes at several

pub map_twice : (f g : Connected → Connected) (connected : List Connected) → map f (map g connected) ≡ map (λ d. f (g d)) connected
map_twice f g [] = refl
map_twice f g (d ∷ connected) = ap (λ ds. f (g d) ∷ ds) (map_twice f g connected)

module _ (f : Connected → Connected) (keeps : KeepsScopes f) (twice : (d : Connected) → f (f d) ≡ f d) where
  change_more : (cid : Cid) (d : Connected) (named same more : Bool) → same_cid cid d.cid ≡ same → more ≡ (named || same) → changed_at cid f (if named then f d else d) ≡ (if more then f d else d)
  change_more cid d true same more s m =
      let still : same_cid cid (f d).cid ≡ same = ap (same_cid cid) (keeps.cid d) ∙ s in
      either (same_cid cid (f d).cid) ∙ sym (if_true more (f d) d m)
    where
      either : (b : Bool) → (if b then f (f d) else f d) ≡ f d
      either true = twice d
      either false = refl
  change_more cid d false same more s m = ap (λ b. if b then f d else d) (s ∙ sym m)

  pub changed_more : (cids : List Cid) (i : ℕ) (cid : Cid) (first : List Connected) → i < length cids → cid ≡ get_or cids i cid
      → map (changed_at cid f) (map (changed_among (take i cids) f) first) ≡ map (changed_among (take (i + 1) cids) f) first
  changed_more cids i cid first lt item =
      map_twice (changed_at cid f) (changed_among (take i cids) f) first
      ∙ map_agree (λ d. changed_at cid f (changed_among (take i cids) f d)) (changed_among (take (i + 1) cids) f) first
      (λ d m. change_more cid d (is_named (take i cids) d.cid) (same_cid cid d.cid) (is_named (take (i + 1) cids) d.cid) refl
      (list_any_more (λ c. same_cid c d.cid) cids i cid lt ∙ ap (λ c. is_named (take i cids) d.cid || same_cid c d.cid) (sym item)))

pub marked_more : (places : Places) (x : ℕ) (cids : List Cid) (i : ℕ) (cid : Cid) (first : List Connected) → i < length cids → cid ≡ get_or cids i cid
    → map (changed_at cid (mark_places places x)) (map (changed_among (take i cids) (mark_places places x)) first) ≡ map (changed_among (take (i + 1) cids) (mark_places places x)) first
marked_more places x = changed_more (mark_places places x) (keeps_places places x) (places_twice places x)

pub changed_none : (f : Connected → Connected) (first : List Connected) → first ≡ map (changed_among [] f) first
changed_none f [] = refl
changed_none f (d ∷ first) = ap (λ ds. d ∷ ds) (changed_none f first)

-- the marks of all constraints over the variable
pub woken_marks : (places : Places) (x : ℕ) (cids : List Cid) (connected : List Connected) → ((c : Cid) → IsOver connected x c → Contains cids c) → map (changed_among cids (mark_places places x)) connected ≡ map (mark_places places x) connected
woken_marks places x cids connected all = map_agree (changed_among cids (mark_places places x)) (mark_places places x) connected (λ d m. elim (cases_Bool (is_named cids d.cid)) [
  | inl t ↦ if_true (is_named cids d.cid) (mark_places places x d) d t
  | inr f ↦
      if_false (is_named cids d.cid) (mark_places places x d) d f
      ∙ sym (places_none places x d (λ over. false≢true (sym f ∙ member_named cids d.cid (all d.cid (record { owner = d; listed = m; named = refl; over = over })))))
])

-- ---- one more constraint and one fewer

map_insert : {X Y : Type 0} (f : X → Y) (xs : List X) (i : ℕ) (x : X) → map f (insert xs i x) ≡ insert (map f xs) i (f x)
map_insert f [] zero x = refl
map_insert f [] (suc i) x = refl
map_insert f (y ∷ xs) zero x = refl
map_insert f (y ∷ xs) (suc i) x = ap (λ ys. f y ∷ ys) (map_insert f xs i x)

map_remove : {X Y : Type 0} (f : X → Y) (xs : List X) (i : ℕ) → map f (remove xs i) ≡ remove (map f xs) i
map_remove f [] zero = refl
map_remove f [] (suc i) = refl
map_remove f (y ∷ xs) zero = refl
map_remove f (y ∷ xs) (suc i) = ap (λ ys. f y ∷ ys) (map_remove f xs i)

-- more room, and the same ids and flags
pub grown_after : (connected : List Connected) (over later : List Roomy) (flags now : List Bool) (shown room : ℕ) → IsAgenda connected over flags shown → ((x : ℕ) → cids_at later x ≡ cids_at over x)
    → now ≡ flags → shown ≤ room → IsAgenda connected later now room
grown_after connected over later flags now shown room kept cids same longer = record {
  formed = formed_of connected now kept.formed.rising kept.formed.marks;
  over_cids = λ x c. subst (λ cs. Contains cs c ↔ IsOver connected x c) (sym (cids x)) (kept.over_cids x c);
  flag_each = ap length same ∙ kept.flag_each;
  shown_room = omega (arith, kept.shown_room, longer);
}

module _ (connected : List Connected) (over later : List Roomy) (flags now : List Bool) (shown room : ℕ) (cid : Cid) (scope : List ℕ) (heeds : List Heed) (place : ℕ) (kept : IsAgenda connected over flags shown)
    (at : IsPartedAt (λ d. cid_before d.cid cid) connected place) (absent : IsConnected connected cid → ⊥) where
  inserted_is : insert connected place (marked_whole cid scope heeds) ≡ with_connected (marked_whole cid scope heeds) connected
  inserted_is = connected_at connected kept.formed.rising cid place at absent (marked_whole cid scope heeds) refl

  pub connected_after : (after : List Connected) → after ≡ insert connected place (marked_whole cid scope heeds)
      → ((x : ℕ) (c : Cid) → Contains (cids_at later x) c ↔ (Contains (cids_at over x) c ⊎ (Contains scope x × (c ≡ cid))))
      → now ≡ insert flags place true → length connected + 1 ≤ room → IsAgenda after later now room
  connected_after after is cids now_is long =
      let whole = marked_whole cid scope heeds in
      let e : after ≡ with_connected whole connected = is ∙ inserted_is in
      let many : length after ≡ length connected + 1 = ap length is ∙ length-insert connected place whole at.within in
      record {
        formed = formed_of after now (subst (λ ds. Rises (connected_cids ds)) (sym e) (subst Rises (sym (cids_with whole connected)) (with_cid_rises cid (connected_cids connected) kept.formed.rising)))
            (subst (All HasMarks) (sym e) (all_members HasMarks (with_connected whole connected) (λ d m. elim (with_connected_cases whole connected d m) [
              | inl s ↦ subst HasMarks s (length-replicate (length scope) Whole)
              | inr k ↦ subst HasMarks k.2 (kept.formed.marks k.0 d k.1)
            ])));
        over_cids = λ x c. subst (λ ds. Contains (cids_at later x) c ↔ IsOver ds x c) (sym e) (
          λ m. (over_with whole connected x c absent).1 (elim ((cids x c).0 m) [ inl k ↦ inl ((kept.over_cids x c).0 k) | inr both ↦ inr both ]),
          λ h. (cids x c).1 (elim ((over_with whole connected x c absent).0 h) [ inl k ↦ inl ((kept.over_cids x c).1 k) | inr both ↦ inr both ]),
        );
        flag_each = let more = length-insert flags place true (omega (arith, kept.flag_each, at.within)) in omega (arith, ap length now_is, more, many, kept.flag_each);
        shown_room = omega (arith, many, long);
      }

  -- the new one is pending
  pub pending_with : (after : List Connected) → after ≡ insert connected place (marked_whole cid scope heeds) → now ≡ insert flags place true → (c : Cid)
      → Contains (flagged (connected_cids after) now) c ↔ (Contains (flagged (connected_cids connected) flags) c ⊎ (c ≡ cid))
  pending_with after is now_is c =
      let cids_is : connected_cids after ≡ insert (connected_cids connected) place cid = ap connected_cids is ∙ map_insert cid_of connected place (marked_whole cid scope heeds) in
      subst (λ cids. Contains (flagged cids now) c ↔ (Contains (flagged (connected_cids connected) flags) c ⊎ (c ≡ cid))) (sym cids_is)
      (subst (λ fs. Contains (flagged (insert (connected_cids connected) place cid) fs) c ↔ (Contains (flagged (connected_cids connected) flags) c ⊎ (c ≡ cid))) (sym now_is)
      (inserted_set cid (connected_cids connected) flags place (kept.flag_each ∙ sym (length-map connected cid_of)) c))

module _ (connected : List Connected) (over : List Roomy) (flags : List Bool) (shown : ℕ) (cid : Cid) (place : ℕ) (d : Connected) (kept : IsAgenda connected over flags shown)
    (at : IsPartedAt (λ e. cid_before e.cid cid) connected place) (there : IsConnected connected cid) (item : d ≡ get_or connected place d) where
  owner_here : d ≡ there.owner
  owner_here = owner_is connected kept.formed.rising cid place at there d item

  removed_over : (x : ℕ) → Contains d.scope x → IsOver connected x cid
  removed_over x m = record { owner = there.owner; listed = there.listed; named = there.named; over = subst (λ (e : Connected). Contains e.scope x) owner_here m }

  -- each variable of its scope has a list
  pub scope_within : (scope : List ℕ) → scope ≡ d.scope → (x : ℕ) → Contains scope x → x < length over
  scope_within scope is x m = row_within over x cid ((kept.over_cids x cid).1 (removed_over x (subst (λ xs. Contains xs x) is m)))

  pub removed_is : remove connected place ≡ without_connected cid connected
  removed_is = disconnected_at connected kept.formed.rising cid place at there

  -- it is pending no longer
  pub pending_without : (after : List Connected) (now : List Bool) → after ≡ remove connected place → now ≡ remove flags place → flagged (connected_cids after) now ≡ without_cid cid (flagged (connected_cids connected) flags)
  pending_without after now is now_is =
      let within = place_within connected kept.formed.rising cid place at there in
      let same = kept.flag_each in
      ap (λ ds. flagged (connected_cids ds) now) is ∙ ap (flagged (connected_cids (remove connected place))) now_is
      ∙ ap (λ cids. flagged cids (remove flags place)) (map_remove cid_of connected place)
      ∙ removed_lowered (connected_cids connected) flags place (omega (arith, length-map connected cid_of)) (omega arith)
      ∙ lowered_at connected kept.formed.rising cid place at flags (set flags place false) kept.flag_each there refl

  pub disconnected_after : (after : List Connected) (later : List Roomy) (now : List Bool) (scope : List ℕ) → after ≡ remove connected place → scope ≡ d.scope
      → ((x : ℕ) (c : Cid) → Contains (cids_at later x) c ↔ (Contains (cids_at over x) c × (Contains scope x → c ≡ cid → ⊥)))
      → now ≡ remove flags place → IsAgenda after later now shown
  disconnected_after after later now scope is scope_is cids now_is =
      let e : after ≡ without_connected cid connected = is ∙ removed_is in
      let few : length after ≤ length connected = omega (arith, ap length e, filter_short (λ (f : Connected). not (is_named (cid ∷ []) f.cid)) connected) in
      record {
        formed = formed_of after now (subst (λ ds. Rises (connected_cids ds)) (sym e) (subst Rises (sym (cids_without cid connected)) (without_cid_rises cid (connected_cids connected) kept.formed.rising)))
            (subst (All HasMarks) (sym e) (all_members HasMarks (without_connected cid connected) (λ f m.
            let k = (without_connected_member cid connected f m).0 in subst HasMarks k.2 (kept.formed.marks k.0 f k.1))));
        over_cids = λ x c. subst (λ ds. Contains (cids_at later x) c ↔ IsOver ds x c) (sym e) (
          λ m.
              let r = (cids x c).0 m in
              let old = (kept.over_cids x c).0 r.0 in
              (over_without cid connected x c).1 (old, λ s. r.1 (in_scope x c old s) s),
          λ h.
              let r = (over_without cid connected x c).0 h in
              (cids x c).1 ((kept.over_cids x c).1 r.0, λ m s. r.1 s),
        );
        flag_each =
            let within = place_within connected kept.formed.rising cid place at there in
            let fewer = length-remove connected place within in
            let less = length-remove flags place (omega (arith, kept.flag_each)) in
            omega (arith, ap length is, ap length now_is, kept.flag_each);
        shown_room = omega (arith, few, kept.shown_room);
      }
    where
      in_scope : (x : ℕ) (c : Cid) → IsOver connected x c → c ≡ cid → Contains scope x
      in_scope x c old s =
          let one : IsConnected connected cid = record { owner = old.owner; listed = old.listed; named = old.named ∙ s } in
          subst (λ xs. Contains xs x) (sym scope_is) (subst (λ (f : Connected). Contains f.scope x) (sym (owner_is connected kept.formed.rising cid place at one d item)) old.over)

-- ---- waking

pub woken_after : (places : Places) (x : ℕ) (cids : List Cid) (connected : List Connected) (over : List Roomy) (flags now : List Bool) (shown : ℕ) → IsAgenda connected over flags shown → length now ≡ length flags
    → (after : List Connected) → after ≡ map (changed_among cids (mark_places places x)) connected → IsAgenda after over now shown
woken_after places x cids connected over flags now shown kept same after becomes =
    subst (λ ds. IsAgenda ds over now shown) (sym becomes)
    (kept_after (changed_among cids (mark_places places x)) (keeps_among cids (mark_places places x) (keeps_places places x)) connected over now shown
    (pending_after connected over flags now shown shown kept same (omega arith)))

pub cids_are_over : (x : ℕ) (cids : List Cid) (connected : List Connected) (over : List Roomy) (flags : List Bool) (shown : ℕ) → IsAgenda connected over flags shown → cids ≡ reverse (cids_at over x)
    → (c : Cid) → Contains cids c ↔ IsOver connected x c
cids_are_over x cids connected over flags shown kept is c = (
  λ m. (kept.over_cids x c).0 (reverse_member (cids_at over x) c (subst (λ cs. Contains cs c) is m)),
  λ h. subst (λ cs. Contains cs c) (sym is) (member_reverse (cids_at over x) c ((kept.over_cids x c).1 h)),
)

pub woken_pending : (x : ℕ) (cids : List Cid) (connected : List Connected) (over : List Roomy) (flags : List Bool) (shown : ℕ) → IsAgenda connected over flags shown → cids ≡ reverse (cids_at over x)
    → (pending now : List Cid) → ((c : Cid) → Contains now c ↔ (Contains pending c ⊎ Contains cids c)) → (c : Cid) → Contains now c ↔ (Contains pending c ⊎ IsOver connected x c)
woken_pending x cids connected over flags shown kept is pending now set c = (
  λ m. elim ((set c).0 m) [ inl k ↦ inl k | inr k ↦ inr ((cids_are_over x cids connected over flags shown kept is c).0 k) ],
  λ h. (set c).1 (elim h [ inl k ↦ inl k | inr k ↦ inr ((cids_are_over x cids connected over flags shown kept is c).1 k) ]),
)

pub woken_connected : (places : Places) (x : ℕ) (cids : List Cid) (connected : List Connected) (over : List Roomy) (flags : List Bool) (shown : ℕ) → IsAgenda connected over flags shown → cids ≡ reverse (cids_at over x)
    → (after : List Connected) → after ≡ map (changed_among cids (mark_places places x)) connected → after ≡ map (mark_places places x) connected
woken_connected places x cids connected over flags shown kept is after becomes =
    becomes ∙ woken_marks places x cids connected (λ c h. (cids_are_over x cids connected over flags shown kept is c).1 h)

-- ---- reading

pub marks_here : (connected : List Connected) (cid : Cid) (place : ℕ) → Rises (connected_cids connected) → IsPartedAt (λ e. cid_before e.cid cid) connected place → (d : Connected) → d ≡ get_or connected place d
    → (e : Connected) → Contains connected e → e.cid ≡ cid → d ≡ e
marks_here connected cid place rises at d item e m named = owner_is connected rises cid place at (record { owner = e; listed = m; named = named }) d item

pub place_of_marks : (connected : List Connected) (cid : Cid) (place : ℕ) (is : HasPlace connected cid place) (marks : List Mark)
    → ((d : Connected) → Contains connected d → d.cid ≡ cid → length marks ≡ length d.scope) → place < length marks
place_of_marks connected cid place is marks whole = omega (arith, whole is.owner is.listed is.named, is.within)

-- the mark that is read there
pub mark_told : (connected : List Connected) (cid : Cid) (place : ℕ) (marks : List Mark) → ((d : Connected) → Contains connected d → d.cid ≡ cid → marks ≡ d.marks) → place < length marks
    → (mark : Mark) → mark ≡ get_or marks place mark → (d : Connected) → Contains connected d → d.cid ≡ cid → slice_get d.marks place ≡ Some mark
mark_told connected cid place marks is within mark item d listed named =
    ap (λ ms. slice_get ms place) (sym (is d listed named)) ∙ slice_get-get_or marks place mark within ∙ ap Some (sym item)

-- ---- waking by id

pub rises_changed : (f : Connected → Connected) → KeepsScopes f → (first after : List Connected) → after ≡ map f first → Rises (connected_cids first) → Rises (connected_cids after)
rises_changed f keeps first after is rises = subst (λ ds. Rises (connected_cids ds)) (sym is) (subst Rises (sym (cids_kept f keeps first)) rises)

pub over_changed : (f : Connected → Connected) → KeepsScopes f → (first after : List Connected) (x : ℕ) (c : Cid) → after ≡ map f first → IsOver first x c → IsOver after x c
over_changed f keeps first after x c is over = subst (λ ds. IsOver ds x c) (sym is) ((over_kept f keeps first x c).1 over)

-- one more id is pending
pub put_set : (first now after more : List Cid) (i : ℕ) (cid : Cid) → i < length more → cid ≡ get_or more i cid → ((c : Cid) → Contains now c ↔ (Contains first c ⊎ Contains (take i more) c))
    → ((c : Cid) → Contains after c ↔ (Contains now c ⊎ (c ≡ cid))) → (c : Cid) → Contains after c ↔ (Contains first c ⊎ Contains (take (i + 1) more) c)
put_set first now after more i cid lt item so_far put c = (
  λ m. elim ((put c).0 m) [
    | inl k ↦ elim ((so_far c).0 k) [ inl n ↦ inl n | inr n ↦ inr (front_more more i cid c lt n) ]
    | inr e ↦ inr (member_same (take (i + 1) more) cid c (sym e) (front_last more i cid lt item))
  ],
  λ h. elim h [
    | inl n ↦ (put c).1 (inl ((so_far c).1 (inl n)))
    | inr n ↦ elim (member_take_more more i cid c lt item n) [
      | inl k ↦ (put c).1 (inl ((so_far c).1 (inr k)))
      | inr e ↦ (put c).1 (inr (sym e))
    ]
  ],
)

-- the flag of a constraint is raised, and its marks change
pub woken_at : (connected after : List Connected) (flags now : List Bool) (cid : Cid) (place x : ℕ) (f : Connected → Connected) → KeepsScopes f → Rises (connected_cids connected) → length flags ≡ length connected
    → IsPartedAt (λ d. cid_before d.cid cid) connected place → IsOver connected x cid → after ≡ map (changed_at cid f) connected → now ≡ set flags place true → (c : Cid)
    → Contains (flagged (connected_cids after) now) c ↔ (Contains (flagged (connected_cids connected) flags) c ⊎ (c ≡ cid))
woken_at connected after flags now cid place x f keeps rises same at over becomes now_is c =
    let cids_is : connected_cids after ≡ connected_cids connected = ap connected_cids becomes ∙ cids_kept (changed_at cid f) (keeps_at cid f keeps) connected in
    subst (λ cids. Contains (flagged cids now) c ↔ (Contains (flagged (connected_cids connected) flags) c ⊎ (c ≡ cid))) (sym cids_is)
    (raised_at connected rises cid place at flags now same (over_connected connected x cid over) now_is c)

pub put_all_set : (first now more : List Cid) (i : ℕ) → length more ≤ i → ((c : Cid) → Contains now c ↔ (Contains first c ⊎ Contains (take i more) c)) → (c : Cid) → Contains now c ↔ (Contains first c ⊎ Contains more c)
put_all_set first now more i past so_far c = subst (λ cids. Contains now c ↔ (Contains first c ⊎ Contains cids c)) (take_all i more past) (so_far c)

pub none_put : (cids : List Cid) (c : Cid) → Contains cids c ↔ (Contains cids c ⊎ Contains {X = Cid} [] c)
none_put cids c = (λ m. inl m, λ h. elim h [ inl m ↦ m | inr m ↦ absurd (member_nil c m) ])

-- what holds of how losses of the variable are heeded, at one more constraint
pub heeds_more : (f : Connected → Connected) → KeepsScopes f → (x : ℕ) (first now : List Connected) → now ≡ map f first → (cids : List Cid) (i : ℕ) (cid : Cid) → i < length cids → cid ≡ get_or cids i cid
    → (P : Heed → Type 0) → ((d : Connected) → Contains first d → Contains (take i cids) d.cid → P (heed_of x d.scope d.heeds))
    → ((d : Connected) → Contains now d → d.cid ≡ cid → P (heed_of x d.scope d.heeds))
    → (d : Connected) → Contains first d → Contains (take (i + 1) cids) d.cid → P (heed_of x d.scope d.heeds)
heeds_more f keeps x first now is cids i cid lt item P so_far here d m n = elim (member_take_more cids i cid d.cid lt item n) [
  | inl k ↦ so_far d m k
  | inr e ↦
      subst P (heed_kept f keeps x d)
      (here (f d) (subst (λ ds. Contains ds (f d)) (sym is) (member_map f first d m)) (keeps.cid d ∙ sym e))
]
