-- Each constraint of a user that takes a value out was asked at least once.
use Rattle.std.proofs.Common.{◌≡◌, ℕ, zero, suc, ◌+◌, ◌<◌, ◌≤◌, Bool, true, ◌&&◌, List, [], ◌∷◌, ◌++◌, length, map, filter, Contains, ◌⊎◌, inl, inr, refl, sym, ap, ◌∙◌, subst, arith, append_assoc, append-nil, length-append}
use Rattle.std.proofs.lemmas.Bool.{and_from, and_parts, cases_Bool}
use Rattle.std.proofs.lemmas.List.{append_cancel_left}
use Rattle.std.proofs.Math.Bool.{and-false}
use Rattle.std.proofs.lemmas.List.Elements.{All-contains, Contains-append_cases, filter-append}
use Rattle.palm_base.specs.declared.terms.Cid.{Cid}
use Rattle.palm_base.specs.declared.terms.Pair.{Pair}
use Rattle.palm_base.specs.Order.{Rises, cid_before}
use Rattle.palm_base.proofs.cited.CidOrder.{cid_known, not_before_itself}
use Rattle.palm_base.proofs.cited.Members.{member_cases, member_filter, member_here, member_map, member_nil, member_same, member_there, member_unmap, nat_known}
use Rattle.palm_events.proofs.cited.Names.{member_named, named_member}
use Rattle.palm_model.specs.Event.{removal_of}
use Rattle.palm_model.specs.Log.{Active, Removal, cids_of, is_named}
use Rattle.palm_model.specs.State.{EngineState, is_user}
use Rattle.palm_engine.specs.Settling.{Walks, rested}
use Rattle.palm_engine.specs.Settling.Walks.{walked_all, walked_empty, walked_past, walked_out}
use Rattle.palm_engine.specs.Work.{removers, users_removals}

-- each constraint of a user that took something out on the way from s to t was asked
pub record HasRemovers (s t : EngineState) (old new : ℕ) : Type 0 where
  pub gained : List Removal
  pub log : t.log ≡ s.log ++ gained
  pub least : old + length (removers s.active gained) ≤ new

-- whether the constraint is a user's and made some of the removals
abbrev is_remover : List Removal → Active → Bool
is_remover gained a = is_user a.cid && is_named (map (λ r. r.by) gained) a.cid

-- ---- how many pass a test

no_more : (p q : Active → Bool) (xs : List Active) → ((a : Active) → Contains xs a → p a ≡ true → q a ≡ true) → length (filter p xs) ≤ length (filter q xs)
no_more p q [] each = omega arith
no_more p q (a ∷ xs) each =
    let k = no_more p q xs (λ b m t. each b (member_there a xs b m) t) in
    elim (cases_Bool (p a)) [
      | inl t ↦ let u = each a (member_here a xs) t in rw (t, u) (omega (arith, k))
      | inr f ↦ rw f (elim (cases_Bool (q a)) [
        | inl u ↦ rw u (omega (arith, k))
        | inr g ↦ rw g k
      ])
    ]

-- where what passes the one test passes the other one or has the id, which no two have
one_more : (p q : Active → Bool) (cid : Cid) (xs : List Active) → Rises (cids_of xs) → ((a : Active) → Contains xs a → p a ≡ true → (q a ≡ true) ⊎ (a.cid ≡ cid)) → length (filter p xs) ≤ length (filter q xs) + 1
one_more p q cid [] rises each = omega arith
one_more p q cid (a ∷ xs) rises each = elim (cid_known a.cid cid) [
  | inl is ↦
      let k = no_more p q xs (λ b m t. elim (each b (member_there a xs b m) t) [
        | inl held ↦ held
        | inr same ↦
            let before = All-contains (λ d. cid_before a.cid d ≡ true) (cids_of xs) b.cid rises.0 (member_map (λ (z : Active). z.cid) xs b m) in
            absurd (not_before_itself a.cid (subst (λ (d : Cid). cid_before a.cid d ≡ true) (same ∙ sym is) before))
      ]) in
      elim (cases_Bool (p a)) [
        | inl t ↦ rw t (elim (cases_Bool (q a)) [
          | inl u ↦ rw u (omega (arith, k))
          | inr g ↦ rw g (omega (arith, k))
        ])
        | inr f ↦ rw f (elim (cases_Bool (q a)) [
          | inl u ↦ rw u (omega (arith, k))
          | inr g ↦ rw g (omega (arith, k))
        ])
      ]
  | inr other ↦
      let k = one_more p q cid xs rises.1 (λ b m t. each b (member_there a xs b m) t) in
      elim (cases_Bool (p a)) [
        | inl t ↦
            let u : q a ≡ true = elim (each a (member_here a xs) t) [
              | inl held ↦ held
              | inr same ↦ absurd (other same)
            ] in
            rw (t, u) (omega (arith, k))
        | inr f ↦ rw f (elim (cases_Bool (q a)) [
          | inl u ↦ rw u (omega (arith, k))
          | inr g ↦ rw g k
        ])
      ]
]

no_remover : (xs : List Active) → length (removers xs []) ≡ 0
no_remover [] = refl
no_remover (a ∷ xs) = rw (and-false (is_user a.cid)) (no_remover xs)

-- ---- what a walk takes out

-- what was removed on the way from s to t was removed by this constraint
record IsOwned (cid : Cid) (s t : EngineState) : Type 0 where
  pub gained : List Removal
  pub log : t.log ≡ s.log ++ gained
  pub own : (r : Removal) → Contains gained r → r.by ≡ cid

none_owned : (cid : Cid) (s : EngineState) → IsOwned cid s s
none_owned cid s = record { gained = []; log = sym (append-nil s.log); own = λ r m. absurd (member_nil r m) }

walk_owned : (a : Active) (pairs : List Pair) (s : EngineState) (n : ℕ) (t : EngineState) → Walks a pairs s n t → IsOwned a.cid s t
walk_owned a _ _ _ _ (walked_all s) = none_owned a.cid s
walk_owned a _ _ _ _ (walked_empty pairs s empty) = none_owned a.cid s
walk_owned a _ _ _ _ (walked_past p pairs s n t supported walk) = walk_owned a pairs s n t walk
walk_owned a _ _ _ _ (walked_out p pairs s m n t removes walk) =
    let rest = walk_owned a pairs m n t walk in
    let made = removal_of s a p in
    record {
      gained = made ∷ rest.gained;
      log = rest.log ∙ ap (λ (z : EngineState). z.log ++ rest.gained) removes.after ∙ append_assoc s.log (made ∷ []) rest.gained;
      own = λ r m. elim (member_cases made rest.gained r m) [
        | inl e ↦ ap (λ (q : Removal). q.by) (sym e)
        | inr k ↦ rest.own r k
      ];
    }

-- who made removals made some of the first, or some of the others
remover_cases : (first others : List Removal) (a : Active) → is_remover (first ++ others) a ≡ true → (is_remover first a ≡ true) ⊎ ((r : Removal) × Contains others r × (r.by ≡ a.cid) × (is_user a.cid ≡ true))
remover_cases first others a h =
    let both = and_parts (is_user a.cid) (is_named (map (λ (r : Removal). r.by) (first ++ others)) a.cid) h in
    let made = member_unmap (λ (r : Removal). r.by) (first ++ others) a.cid (named_member (map (λ (r : Removal). r.by) (first ++ others)) a.cid both.1) in
    elim (Contains-append_cases first others made.0 made.1) [
      | inl m ↦
          let named = member_named (map (λ (r : Removal). r.by) first) a.cid (member_same (map (λ (r : Removal). r.by) first) made.0.by a.cid made.2 (member_map (λ (r : Removal). r.by) first made.0 m)) in
          inl (and_from (is_user a.cid) (is_named (map (λ (r : Removal). r.by) first) a.cid) both.0 named)
      | inr m ↦ inr (made.0, m, made.2, both.0)
    ]

member_some : (xs : List Removal) (x : Removal) → Contains xs x → 0 < length xs
member_some [] x m = absurd (member_nil x m)
member_some (y ∷ xs) x m = omega arith

-- where the removals of users stay the same, none of those that follow is a user's
none_users : (log gained : List Removal) → users_removals (log ++ gained) ≡ users_removals log → (r : Removal) → Contains gained r → is_user r.by ≡ true → ⊥
none_users log gained same r m user =
    let split = ap length (sym (filter-append (λ (q : Removal). is_user q.by) log gained) ∙ same) in
    let sum = length-append (users_removals log) (users_removals gained) in
    let some = member_some (users_removals gained) r (member_filter (λ (q : Removal). is_user q.by) gained r m user) in
    omega (arith, split, sum, some)

-- ---- in a settling

pub no_removers : (s : EngineState) (n : ℕ) → HasRemovers s s n n
no_removers s n = let none = no_remover s.active in record { gained = []; log = sym (append-nil s.log); least = omega (arith, none) }

-- one walk more
pub more_removers : (s m t : EngineState) (a : Active) (pairs : List Pair) (n old mid new : ℕ) → Rises (cids_of s.active) → HasRemovers s m old mid → Walks a pairs m n t → mid ≤ new → (new ≡ mid → users_removals t.log ≡ users_removals m.log)
    → HasRemovers s t old new
more_removers s m t a pairs n old mid new rises by walk later silent =
    let own = walk_owned a pairs m n t walk in
    let all = by.gained ++ own.gained in
    let least = by.least in
    record {
      gained = all;
      log = own.log ∙ ap (λ l. l ++ own.gained) by.log ∙ append_assoc s.log by.gained own.gained;
      least = elim (nat_known new mid) [
        | inl same ↦
            let none = none_users m.log own.gained (ap users_removals (sym own.log) ∙ silent same) in
            let k = no_more (is_remover all) (is_remover by.gained) s.active (λ b is t. elim (remover_cases by.gained own.gained b t) [
              | inl held ↦ held
              | inr r ↦ absurd (none r.0 r.1 (ap is_user r.2 ∙ r.3))
            ]) in
            omega (arith, k, least, same)
        | inr differs ↦
            let lt : mid < new = omega (arith, later, differs) in
            let k = one_more (is_remover all) (is_remover by.gained) a.cid s.active rises (λ b is t. elim (remover_cases by.gained own.gained b t) [
              | inl held ↦ inl held
              | inr r ↦ inr (sym r.2 ∙ own.own r.0 r.1)
            ]) in
            omega (arith, k, least, lt)
      ];
    }

rested_log : (n : ℕ) (cid : Cid) (s : EngineState) → (rested n cid s).log ≡ s.log
rested_log zero cid s = refl
rested_log (suc n) cid s = refl

-- one whole revision more
pub rested_removers : (s m z t : EngineState) (a : Active) (pairs : List Pair) (n : ℕ) (cid : Cid) (old mid new : ℕ) → Rises (cids_of s.active) → HasRemovers s m old mid → Walks a pairs m n z → t ≡ rested n cid z → mid ≤ new
    → (new ≡ mid → users_removals t.log ≡ users_removals m.log) → HasRemovers s t old new
rested_removers s m z t a pairs n cid old mid new rises by walk after later silent =
    let same : t.log ≡ z.log = ap (λ (y : EngineState). y.log) after ∙ rested_log n cid z in
    let all = more_removers s m z a pairs n old mid new rises by walk later (λ e. ap users_removals (sym same) ∙ silent e) in
    record { gained = all.gained; log = same ∙ all.log; least = all.least }

-- whatever the removals are called
pub removers_of : (s t : EngineState) (old new : ℕ) (gained : List Removal) → HasRemovers s t old new → t.log ≡ s.log ++ gained → old + length (removers s.active gained) ≤ new
removers_of s t old new gained by log = subst (λ l. old + length (removers s.active l) ≤ new) (append_cancel_left s.log by.gained gained (sym by.log ∙ log)) by.least
