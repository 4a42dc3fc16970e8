-- Conflicts and flat conflicts, gathered from one value or one id after another.
use Rattle.std.proofs.Common.{◌↔◌, Bool, true, false, ◌≡◌, ℕ, ◌+◌, ◌<◌, ◌≤◌, List, [], ◌∷◌, ◌++◌, length, get_or, take, Contains, Some, ℤ, ◌⊎◌, inl, inr, sym, ap, ◌∙◌, subst}
use Rattle.std.proofs.lemmas.List.{take_more, take_all}
use Rattle.std.proofs.lemmas.List.Elements.{Contains-append_left, Contains-push, Contains-push_cases}
use Rattle.std.proofs.lemmas.Bool.{cases_Bool}
use Rattle.palm_base.specs.Tells.{Tells}
use Rattle.palm_base.specs.declared.terms.Pair.{Pair}
use Rattle.palm_base.specs.declared.terms.Cid.{Cid}
use Rattle.palm_base.specs.declared.terms.Cid.TheVariants.{Not}
use Rattle.palm_base.proofs.cited.Members.{member_nil, member_same}
use Rattle.palm_domain.specs.Rows.{initial_of, present_of, declared_values}
use Rattle.palm_model.specs.Conflict.{InFlat, IsKeptConflict}
use Rattle.palm_model.specs.Conflict.InFlat.{as_it_is, in_place}
use Rattle.palm_model.specs.Domains.{Has}
use Rattle.palm_base.specs.Order.{Rises}
use Rattle.palm_model.specs.Log.{Active, IsListOf, cids_of, is_named, log_pairs}
use Rattle.palm_model.specs.State.{IsEmptyAt, IsJustifier, present}
use Rattle.palm_model.proofs.cited.Without.{pair_of}
use Rattle.palm_events.proofs.cited.Agreeing.{gone_member}
use Rattle.palm_events.proofs.cited.Names.{member_named, named_member, single}
use Rattle.palm_explain.specs.CidSets.{IsJoined}
use Rattle.palm_explain.specs.Explanations.{LacksExactly, NamesOfSome}
use Rattle.palm_engine.specs.declared.filtering.Filtering.{Filtering}
use Rattle.palm_engine.specs.Kept.{IsEmptyKept, IsInStep, state_of}

-- the empty list, where nothing has the property
pub nothing_listed : (P : Cid → Type 0) (cids : List Cid) → cids ≡ [] → ((c : Cid) → P c → ⊥) → IsListOf P cids
nothing_listed P cids e none = record {
  rising = subst Rises (sym e) tt;
  sound = λ c m. absurd (member_nil c (subst (λ ns. Contains ns c) e m));
  whole = λ c p. absurd (none c p);
}

-- one more id or value
more_cases : {X : Type 0} (xs : List X) (i : ℕ) (x : X) → i < length xs → x ≡ get_or xs i x → (y : X) → Contains (take (i + 1) xs) y → Contains (take i xs) y ⊎ (x ≡ y)
more_cases xs i x lt at y m = Contains-push_cases (take i xs) x y (subst (λ ys. Contains ys y) (take_more xs i x lt ∙ ap (λ z. take i xs ++ z ∷ []) (sym at)) m)

more_left : {X : Type 0} (xs : List X) (i : ℕ) (x : X) → i < length xs → x ≡ get_or xs i x → (y : X) → Contains (take i xs) y → Contains (take (i + 1) xs) y
more_left xs i x lt at y m = subst (λ ys. Contains ys y) (sym (take_more xs i x lt ∙ ap (λ z. take i xs ++ z ∷ []) (sym at))) (Contains-append_left (take i xs) (x ∷ []) y m)

more_last : {X : Type 0} (xs : List X) (i : ℕ) (x : X) → i < length xs → x ≡ get_or xs i x → Contains (take (i + 1) xs) x
more_last xs i x lt at = subst (λ ys. Contains ys x) (sym (take_more xs i x lt ∙ ap (λ z. take i xs ++ z ∷ []) (sym at))) (Contains-push (take i xs) x)

-- ---- conflicts

-- the ids in the explanations of all declared values are the conflict
pub conflict_listed : (f : Filtering) (active : List Active) (x : ℕ) (values : List ℤ) (cids : List Cid) → values ≡ declared_values f.store x
    → IsListOf (NamesOfSome f.log.log x values) cids → IsKeptConflict (state_of f active) x cids
conflict_listed f active x values cids declared listed = record {
  rising = listed.rising;
  sound = λ c m. let some = listed.sound c m in record { value = some.value; declared = subst (λ vs. Contains vs some.value) declared some.among; names = some.names };
  whole = λ c held. listed.whole c (record { value = held.value; among = subst (λ vs. Contains vs held.value) (sym declared) held.declared; names = held.names });
}

-- the values of an empty variable are logged
pub empty_logged : (f : Filtering) (x : ℕ) (values : List ℤ) → LacksExactly f.store (log_pairs f.log.log) → IsEmptyAt (present_of f.store) x → values ≡ declared_values f.store x
    → (v : ℤ) → Contains values v → Contains (log_pairs f.log.log) (pair_of x v)
empty_logged f x values lacks empty declared v among =
    gone_member (initial_of f.store) (log_pairs f.log.log) x v
    (subst (λ vs. Contains vs v) declared among)
    (λ has. member_nil v (subst (λ vs. Contains vs v) empty.empty (subst (λ d. Has d x v) (sym lacks.present) has)))

-- the empty variable is the one that is kept
pub kept_conflict : (f : Filtering) (active : List Active) (var x : ℕ) (cids : List Cid) → IsInStep f active → f.empty ≡ Some var → IsEmptyAt (present (state_of f active)) x
    → IsKeptConflict (state_of f active) var cids → IsKeptConflict (state_of f active) x cids
kept_conflict f active var x cids kept known is conflict =
    let empty = subst (IsEmptyKept (present_of f.store)) known kept.empty in
    subst (λ y. IsKeptConflict (state_of f active) y cids) (sym (empty.1 x (subst (λ d. IsEmptyAt d x) (sym kept.removed.present) is))) conflict

-- ---- flat conflicts

pub flat_none : (active : List Active) (from : List Cid) (S : Cid → Type 0) → IsJoined S (InFlat active (Contains (take 0 from))) S
flat_none active from S = record { sound = λ c m. inl m; first = λ c m. m; second = λ c flat. absurd (none c flat) }
  where
    none : (c : Cid) → InFlat active (Contains (take 0 from)) c → ⊥
    none c (as_it_is k justifier) = member_nil c k
    none c (in_place p a k m n held) = member_nil (Not p) k

flat_weaker : (active : List Active) (K L : Cid → Type 0) → ((c : Cid) → K c → L c) → (c : Cid) → InFlat active K c → InFlat active L c
flat_weaker active K L sub c (as_it_is k justifier) = as_it_is (sub c k) justifier
flat_weaker active K L sub c (in_place p a k m n held) = in_place p a (sub (Not p) k) m n held

flat_either : (active : List Active) (K L M : Cid → Type 0) → ((c : Cid) → K c → L c ⊎ M c) → (c : Cid) → InFlat active K c → InFlat active L c ⊎ InFlat active M c
flat_either active K L M split c (as_it_is k justifier) = elim (split c k) [ inl l ↦ inl (as_it_is l justifier) | inr m ↦ inr (as_it_is m justifier) ]
flat_either active K L M split c (in_place p a k m n held) = elim (split (Not p) k) [ inl l ↦ inl (in_place p a l m n held) | inr o ↦ inr (in_place p a o m n held) ]

-- ids in two parts
pub flat_both : (active : List Active) (K L M S T U : Cid → Type 0) → ((c : Cid) → K c → M c) → ((c : Cid) → L c → M c) → ((c : Cid) → M c → K c ⊎ L c)
    → IsJoined S (InFlat active K) T → IsJoined T (InFlat active L) U → IsJoined S (InFlat active M) U
flat_both active K L M S T U left right split one other = record {
  sound = λ c m. elim (other.sound c m) [
    | inl k ↦ elim (one.sound c k) [ inl n ↦ inl n | inr f ↦ inr (flat_weaker active K M left c f) ]
    | inr f ↦ inr (flat_weaker active L M right c f)
  ];
  first = λ c m. other.first c (one.first c m);
  second = λ c flat. elim (flat_either active M K L split c flat) [
    | inl f ↦ other.first c (one.second c f)
    | inr f ↦ other.second c f
  ];
}

pub flat_more : (active : List Active) (from : List Cid) (i : ℕ) (cid : Cid) (S T U : Cid → Type 0) → i < length from → cid ≡ get_or from i cid
    → IsJoined S (InFlat active (Contains (take i from))) T → IsJoined T (InFlat active (λ d. d ≡ cid)) U → IsJoined S (InFlat active (Contains (take (i + 1) from))) U
flat_more active from i cid S T U lt at =
    flat_both active (Contains (take i from)) (λ d. d ≡ cid) (Contains (take (i + 1) from)) S T U
    (more_left from i cid lt at) (λ d e. member_same (take (i + 1) from) cid d (sym e) (more_last from i cid lt at))
    (λ d m. elim (more_cases from i cid lt at d m) [ inl k ↦ inl k | inr e ↦ inr (sym e) ])

pub flat_all : (active : List Active) (from : List Cid) (i : ℕ) (S T : Cid → Type 0) → length from ≤ i → IsJoined S (InFlat active (Contains (take i from))) T → IsJoined S (InFlat active (Contains from)) T
flat_all active from i S T le = subst (λ ns. IsJoined S (InFlat active (Contains ns)) T) (take_all i from le)

-- the list of what stands for all ids, gathered from nothing
pub flat_listed : (active : List Active) (from : List Cid) (S T : Cid → Type 0) (cids : List Cid) → ((c : Cid) → S c → ⊥) → IsJoined S (InFlat active (Contains from)) T → IsListOf T cids → IsListOf (InFlat active (Contains from)) cids
flat_listed active from S T cids none joined listed = record {
  rising = listed.rising;
  sound = λ c m. elim (joined.sound c (listed.sound c m)) [ inl s ↦ absurd (none c s) | inr f ↦ f ];
  whole = λ c f. listed.whole c (joined.second c f);
}

-- a negation stands for its justification
pub flat_negation : (active : List Active) (cid : Cid) (p : Pair) (a : Active) (justification : List Cid) (S T : Cid → Type 0) → Rises (cids_of active) → cid ≡ Not p → Contains active a → a.cid ≡ cid → justification ≡ a.justification
    → IsJoined S (Contains justification) T → IsJoined S (InFlat active (λ d. d ≡ cid)) T
flat_negation active cid p a justification S T rises is posted named told joined = record {
  sound = λ c m. elim (joined.sound c m) [
    | inl k ↦ inl k
    | inr k ↦ inr (in_place p a (sym is) posted (named ∙ is) (subst (λ ns. Contains ns c) told k))
  ];
  first = joined.first;
  second = λ c flat. joined.second c (held c flat);
}
  where
    held : (c : Cid) → InFlat active (λ d. d ≡ cid) c → Contains justification c
    held c (as_it_is e justifier) = absurd (subst IsJustifier (e ∙ is) justifier)
    held c (in_place q b e m n k) = subst (λ ns. Contains ns c) (sym told) (subst (λ (z : Active). Contains z.justification c) (single active rises b a m posted (n ∙ e ∙ sym named)) k)

-- any other id stands for itself
pub flat_justifier : (active : List Active) (cid : Cid) (S T : Cid → Type 0) → IsJustifier cid → IsJoined S (λ d. d ≡ cid) T → IsJoined S (InFlat active (λ d. d ≡ cid)) T
flat_justifier active cid S T justifier joined = record {
  sound = λ c m. elim (joined.sound c m) [ inl k ↦ inl k | inr e ↦ inr (as_it_is e (subst IsJustifier (sym e) justifier)) ];
  first = joined.first;
  second = λ c flat. joined.second c (itself c flat);
}
  where
    itself : (c : Cid) → InFlat active (λ d. d ≡ cid) c → c ≡ cid
    itself c (as_it_is e g) = e
    itself c (in_place q b e m n k) = absurd (subst IsJustifier (sym e) justifier)

-- ---- justifications

-- whether an id is among them
pub names_told : (cids : List Cid) (cid : Cid) (b : Bool) (P : Type 0) → P ↔ Contains cids cid → Tells b P → b ≡ is_named cids cid
names_told cids cid true P same told = sym (member_named cids cid (same.0 told))
names_told cids cid false P same told = elim (cases_Bool (is_named cids cid)) [
  | inl t ↦ absurd (told (same.1 (named_member cids cid t)))
  | inr f ↦ sym f
]
