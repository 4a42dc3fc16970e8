-- Sets of ids: what one more id, or another set, makes of them, and their ids as a list.
use Rattle.std.proofs.Common.{◌≡◌, ℕ, ◌+◌, ◌<◌, ◌≤◌, ◌^◌, true, List, [], ◌∷◌, ◌++◌, length, get_or, take, Contains, Bool, Result, Ok, Err, OnOk, OnErr, is_ok, ◌⊎◌, inl, inr, refl, sym, ap, ◌∙◌, subst, arith}
use Rattle.std.proofs.lemmas.Bool.{cases_lt, lt-ltb}
use Rattle.std.proofs.lemmas.List.{append-nil, append_assoc, get_or_default, take_more}
use Rattle.std.proofs.lemmas.List.Elements.{Contains-append_left, Contains-append_right, Contains-append_cases, Contains-push, Contains-push_cases}
use Rattle.std.specs.Prelude.{MatchResult}
use Rattle.palm_base.specs.Order.{BelongsAt, Rises, StandsAt, cid_before}
use Rattle.palm_base.specs.Tells.{Tells}
use Rattle.palm_base.specs.declared.terms.Pair.{Pair}
use Rattle.palm_base.specs.declared.terms.Cid.{Cid}
use Rattle.palm_base.specs.declared.terms.Cid.TheVariants.{Decide, Not, User}
use Rattle.palm_base.proofs.cited.CidOrder.{rises_append}
use Rattle.palm_base.proofs.cited.Members.{member_get, member_here, member_nil, member_same, member_single}
use Rattle.palm_base.proofs.cited.RisingLists.{stands_cid}
use Rattle.palm_model.specs.Log.{IsListOf}
use Rattle.palm_explain.specs.CidSets.{Adds, AddsSome, AreMembers, CidMembers, HasAppended, IsIdIn, IsIdOf, IsJoined, IsMember, id_of}
use Rattle.palm_explain.specs.declared.cid_set.Numbered.{Numbered}
use Rattle.palm_explain.specs.declared.cid_set.Numbered.TheVariants.{Decisions, Users}
use Rattle.palm_explain.specs.Merging.{IsMerged}
use Rattle.palm_explain.specs.Places.{ArePlaceWords, HasPlace, IsFirstIn, IsIn}
use Rattle.palm_explain.specs.declared.places.PlaceWord.{PlaceWord}
use Rattle.palm_explain.proofs.NamedSome.{listed_like}
use Rattle.palm_explain.proofs.PlaceSets.{word_before}

-- ---- sets put together

pub joined_none : (S : Cid → Type 0) (more : List Cid) → IsJoined S (Contains (take 0 more)) S
joined_none S more = record { sound = λ c s. inl s; first = λ c s. s; second = λ c m. absurd (member_nil c m) }

pub joined_next : (S M T : Cid → Type 0) (more : List Cid) (i : ℕ) (t : Cid) → i < length more → t ≡ get_or more i t → IsJoined S (Contains (take i more)) M → IsJoined M (λ c. c ≡ t) T → IsJoined S (Contains (take (i + 1) more)) T
joined_next S M T more i t lt at one two = record {
  sound = λ c s. elim (two.sound c s) [
    | inl m ↦ elim (one.sound c m) [ inl k ↦ inl k | inr k ↦ inr (wider c (Contains-append_left (take i more) (t ∷ []) c k)) ]
    | inr e ↦ inr (wider c (member_same (take i more ++ t ∷ []) t c (sym e) (Contains-push (take i more) t)))
  ];
  first = λ c s. two.first c (one.first c s);
  second = λ c m. elim (Contains-push_cases (take i more) t c (subst (λ l. Contains l c) longer m)) [
    | inl k ↦ two.first c (one.second c k)
    | inr e ↦ two.second c (sym e)
  ];
}
  where
    longer : take (i + 1) more ≡ take i more ++ t ∷ []
    longer = take_more more i t lt ∙ ap (λ z. take i more ++ z ∷ []) (sym at)

    wider : (c : Cid) → Contains (take i more ++ t ∷ []) c → Contains (take (i + 1) more) c
    wider c m = subst (λ l. Contains l c) (sym longer) m

-- what was added to none, as a list
pub joined_listed : (S M T : Cid → Type 0) (cids : List Cid) → ((c : Cid) → S c → ⊥) → IsJoined S M T → IsListOf T cids → IsListOf M cids
joined_listed S M T cids none joined = listed_like T M cids (λ c t. elim (joined.sound c t) [ inl s ↦ absurd (none c s) | inr m ↦ m ]) joined.second

-- ---- ids that are numbers, by rising number

nothing_listed : (P : Cid → Type 0) → ((c : Cid) → P c → ⊥) → IsListOf P []
nothing_listed P none = record { rising = tt; sound = λ c m. absurd (member_nil c m); whole = λ c p. absurd (none c p) }

pub id_before : (ids : Numbered) (m n : ℕ) → m < n → cid_before (id_of ids m) (id_of ids n) ≡ true
id_before Decisions m n l = lt-ltb m n l
id_before Users m n l = lt-ltb m n l

-- those with the one property, and behind them those with the other
listed_both : (P Q R : Cid → Type 0) (first second : List Cid) → ((c d : Cid) → P c → Q d → cid_before c d ≡ true) → ((c : Cid) → P c → R c) → ((c : Cid) → Q c → R c) → ((c : Cid) → R c → P c ⊎ Q c)
    → IsListOf P first → IsListOf Q second → IsListOf R (first ++ second)
listed_both P Q R first second before left right split one two = record {
  rising = rises_append first second one.rising two.rising (λ c d m n. before c d (one.sound c m) (two.sound d n));
  sound = λ c m. elim (Contains-append_cases first second c m) [ inl k ↦ left c (one.sound c k) | inr k ↦ right c (two.sound c k) ];
  whole = λ c r. elim (split c r) [
    | inl p ↦ Contains-append_left first second c (one.whole c p)
    | inr q ↦ Contains-append_right first second c (two.whole c q)
  ];
}

single_listed : (cid : Cid) → IsListOf (λ c. c ≡ cid) (cid ∷ [])
single_listed cid = record {
  rising = (λ k d lt. absurd (omega (arith, lt)), tt);
  sound = λ c m. sym (member_single cid c m);
  whole = λ c e. member_same (cid ∷ []) cid c (sym e) (member_here cid []);
}

-- nothing is appended, and more behind what was
pub appended_none : (P : Cid → Type 0) (cids : List Cid) → ((c : Cid) → P c → ⊥) → HasAppended cids P cids
appended_none P cids none = record { more = []; behind = sym (append-nil cids); listed = nothing_listed P none }

appended_both : (P Q R : Cid → Type 0) (cids middle all : List Cid) → ((c d : Cid) → P c → Q d → cid_before c d ≡ true) → ((c : Cid) → P c → R c) → ((c : Cid) → Q c → R c) → ((c : Cid) → R c → P c ⊎ Q c)
    → HasAppended cids P middle → HasAppended middle Q all → HasAppended cids R all
appended_both P Q R cids middle all before left right split one two = record {
  more = one.more ++ two.more;
  behind = two.behind ∙ ap (λ l. l ++ two.more) one.behind ∙ append_assoc cids one.more two.more;
  listed = listed_both P Q R one.more two.more before left right split one.listed two.listed;
}

module _ (ids : Numbered) (word : PlaceWord) where
  -- those below a place
  abbrev pub IsIdBelow : ℕ → Cid → Type 0
  IsIdBelow from c = (n : ℕ) × (c ≡ id_of ids n) × IsIn word n × (n < from)

  pub below_none : (cids : List Cid) → HasAppended cids (IsIdBelow 0) cids
  below_none cids = appended_none (IsIdBelow 0) cids (λ c b. let lt = b.3 in omega (arith, lt))

  pub below_next : (cids middle : List Cid) (from n : ℕ) → IsFirstIn word from n → HasAppended cids (IsIdBelow from) middle → HasAppended cids (IsIdBelow (n + 1)) (middle ++ id_of ids n ∷ [])
  below_next cids middle from n first are =
      let behind = first.behind in
      appended_both (IsIdBelow from) (λ c. c ≡ id_of ids n) (IsIdBelow (n + 1)) cids middle (middle ++ id_of ids n ∷ [])
      (λ c d b e. let lt = b.3 in subst (λ f. cid_before c f ≡ true) (sym e) (subst (λ f. cid_before f (id_of ids n) ≡ true) (sym b.1) (id_before ids b.0 n (omega (arith, lt, behind)))))
      (λ c b. let lt = b.3 in (b.0, b.1, b.2, omega (arith, lt, behind)))
      (λ c e. (n, e, first.is, omega arith))
      (λ c b. elim (cases_lt b.0 from) [
        | inl l ↦ inl (b.0, b.1, b.2, l)
        | inr ge ↦ let least = first.first b.0 b.2 ge in let lt = b.3 in inr (b.1 ∙ ap (id_of ids) (omega (arith, least, lt)))
      ])
      are (record { more = id_of ids n ∷ []; behind = refl; listed = single_listed (id_of ids n) })

  pub below_all : (cids all : List Cid) (from : ℕ) → ((n : ℕ) → IsIn word n → from ≤ n → ⊥) → HasAppended cids (IsIdBelow from) all → HasAppended cids (IsIdOf ids word) all
  below_all cids all from none are = record {
    more = are.more;
    behind = are.behind;
    listed = listed_like (IsIdBelow from) (IsIdOf ids word) are.more (λ c b. (b.0, b.1, b.2)) (λ c b. (b.0, b.1, b.2, elim (cases_lt b.0 from) [ inl l ↦ l | inr ge ↦ absurd (none b.0 b.2 ge) ])) are.listed;
  }

module _ (ids : Numbered) (words : List PlaceWord) where
  -- those of the words from an index on
  abbrev pub IsIdFrom : ℕ → Cid → Type 0
  IsIdFrom index c = (n : ℕ) × (c ≡ id_of ids n) × (h : HasPlace words n) × (index ≤ h.1.0)

  pub from_none : (cids : List Cid) (index : ℕ) → length words ≤ index → HasAppended cids (IsIdFrom index) cids
  from_none cids index end = appended_none (IsIdFrom index) cids (λ c b. let lt = b.2.1.1 in let le = b.3 in omega (arith, lt, le, end))

  pub from_next : ArePlaceWords words → (cids middle all : List Cid) (index : ℕ) (word : PlaceWord) → index < length words → word ≡ get_or words index word → HasAppended cids (IsIdFrom (index + 1)) middle → HasAppended middle (IsIdOf ids word) all
      → HasAppended cids (IsIdFrom index) all
  from_next formed cids middle all index word lt at =
      appended_both (IsIdFrom (index + 1)) (IsIdOf ids word) (IsIdFrom index) cids middle all
      (λ c d b o. subst (λ f. cid_before c f ≡ true) (sym o.1) (subst (λ f. cid_before f (id_of ids o.0) ≡ true) (sym b.1) (id_before ids b.0 o.0 (word_before words formed index word lt at b.0 o.0 b.2 b.3 o.2))))
      (λ c b. let le = b.3 in (b.0, b.1, b.2, omega (arith, le)))
      (λ c o. (o.0, o.1, (word, (index, lt, sym at), o.2), omega arith))
      (λ c b. let h = b.2 in elim (cases_lt index h.1.0) [
        | inl l ↦ inl (b.0, b.1, h, omega (arith, l))
        | inr ge ↦
            let le = b.3 in
            let e : h.1.0 ≡ index = omega (arith, ge, le) in
            let same : h.0 ≡ word = sym h.1.2 ∙ ap (λ k. get_or words k h.0) e ∙ get_or_default words index h.0 word lt ∙ sym at in
            inr (b.0, b.1, subst (λ (w : PlaceWord). IsIn w b.0) same h.2)
      ])

  pub from_all : (cids all : List Cid) → HasAppended cids (IsIdFrom 0) all → HasAppended cids (IsIdIn ids words) all
  from_all cids all are = record {
    more = are.more;
    behind = are.behind;
    listed = listed_like (IsIdFrom 0) (IsIdIn ids words) are.more (λ c b. (b.0, b.1, b.2)) (λ c b. (b.0, b.1, b.2, omega arith)) are.listed;
  }

-- ---- the three kinds

-- the list of all
pub members_listed : (ids : CidMembers) (first second all : List Cid) → AreMembers ids.decisions ids.negations ids.users → HasAppended [] (IsIdIn Decisions ids.decisions) first → second ≡ first ++ ids.negations
    → HasAppended second (IsIdIn Users ids.users) all → IsListOf (IsMember ids) all
members_listed ids first second all kept one more three = subst (IsListOf (IsMember ids)) (sym (three.behind ∙ ap (λ l. l ++ users) (more ∙ ap (λ l. l ++ ids.negations) one.behind))) (record {
  rising = rises_append (decisions ++ ids.negations) users (rises_append decisions ids.negations one.listed.rising kept.rising before) three.listed.rising behind;
  sound = λ c m. elim (Contains-append_cases (decisions ++ ids.negations) users c m) [
    | inl k ↦ elim (Contains-append_cases decisions ids.negations c k) [
      | inl d ↦ let x = one.listed.sound c d in subst (IsMember ids) (sym x.1) x.2
      | inr n ↦ let p = kept.negated c n in subst (IsMember ids) (sym p.1) (member_same ids.negations c (Not p.0) p.1 n)
    ]
    | inr u ↦ let n = three.listed.sound c u in subst (IsMember ids) (sym n.1) n.2
  ];
  whole = whole;
})
  where
    decisions : List Cid
    decisions = one.more

    users : List Cid
    users = three.more

    before : (c d : Cid) → Contains decisions c → Contains ids.negations d → cid_before c d ≡ true
    before c d m n = let x = one.listed.sound c m in let p = kept.negated d n in subst (λ a. cid_before a d ≡ true) (sym x.1) (subst (λ b. cid_before (Decide x.0) b ≡ true) (sym p.1) refl)

    behind : (c d : Cid) → Contains (decisions ++ ids.negations) c → Contains users d → cid_before c d ≡ true
    behind c d m n = let u = three.listed.sound d n in subst (λ b. cid_before c b ≡ true) (sym u.1) (elim (Contains-append_cases decisions ids.negations c m) [
      | inl k ↦ let x = one.listed.sound c k in subst (λ a. cid_before a (User u.0) ≡ true) (sym x.1) refl
      | inr k ↦ let p = kept.negated c k in subst (λ a. cid_before a (User u.0) ≡ true) (sym p.1) refl
    ])

    whole : (c : Cid) → IsMember ids c → Contains ((decisions ++ ids.negations) ++ users) c
    whole (Decide x) h = Contains-append_left (decisions ++ ids.negations) users (Decide x) (Contains-append_left decisions ids.negations (Decide x) (one.listed.whole (Decide x) (x, refl, h)))
    whole (Not p) h = Contains-append_left (decisions ++ ids.negations) users (Not p) (Contains-append_right decisions ids.negations (Not p) h)
    whole (User n) h = Contains-append_right (decisions ++ ids.negations) users (User n) (three.listed.whole (User n) (n, refl, h))

-- ---- one more id, and those of another set

pub some_of : (before : CidMembers) (more : Cid → Type 0) (after : CidMembers) → Adds before more after → AddsSome before more after
some_of before more after joined = record { sound = joined.sound; first = joined.first }

pub some_none : (ids : CidMembers) (more : Cid → Type 0) → AddsSome ids more ids
some_none ids more = record { sound = λ c m. inl m; first = λ c m. m }

-- some of the first ones and then some of the last ones
pub some_both : (before middle after : CidMembers) (first last more : Cid → Type 0) → ((c : Cid) → first c → more c) → ((c : Cid) → last c → more c) → AddsSome before first middle → AddsSome middle last after → AddsSome before more after
some_both before middle after first last more left right one two = record {
  sound = λ c m. elim (two.sound c m) [
    | inl k ↦ elim (one.sound c k) [ inl b ↦ inl b | inr f ↦ inr (left c f) ]
    | inr l ↦ inr (right c l)
  ];
  first = λ c m. two.first c (one.first c m);
}

-- some of each kind
some_each : (ids more : CidMembers) (asked : Cid → Type 0) → ((x : ℕ) → HasPlace ids.decisions x → HasPlace more.decisions x) → ((x : ℕ) → HasPlace more.decisions x → HasPlace ids.decisions x ⊎ asked (Decide x))
    → ((p : Pair) → Contains ids.negations (Not p) → Contains more.negations (Not p)) → ((p : Pair) → Contains more.negations (Not p) → Contains ids.negations (Not p) ⊎ asked (Not p))
    → ((n : ℕ) → HasPlace ids.users n → HasPlace more.users n) → ((n : ℕ) → HasPlace more.users n → HasPlace ids.users n ⊎ asked (User n)) → AddsSome ids asked more
some_each ids more asked decide decide_only negate negate_only user user_only = record { sound = sound; first = first }
  where
    sound : (c : Cid) → IsMember more c → IsMember ids c ⊎ asked c
    sound (Decide x) h = decide_only x h
    sound (Not p) h = negate_only p h
    sound (User n) h = user_only n h

    first : (c : Cid) → IsMember ids c → IsMember more c
    first (Decide x) h = decide x h
    first (Not p) h = negate p h
    first (User n) h = user n h

pub some_decision : (ids : CidMembers) (more : List PlaceWord) (x : ℕ) → ((n : ℕ) → HasPlace ids.decisions n → HasPlace more n) → ((n : ℕ) → HasPlace more n → HasPlace ids.decisions n ⊎ (x ≡ n)) → AddsSome ids (λ c. c ≡ Decide x) (record ids { decisions = more })
some_decision ids more x stay only =
    some_each ids (record ids { decisions = more }) (λ c. c ≡ Decide x) stay (λ n h. elim (only n h) [ inl o ↦ inl o | inr e ↦ inr (ap Decide (sym e)) ])
    (λ p h. h) (λ p h. inl h) (λ n h. h) (λ n h. inl h)

pub added_decision : (ids : CidMembers) (more : List PlaceWord) (x : ℕ) → HasPlace more x → AddsSome ids (λ c. c ≡ Decide x) (record ids { decisions = more }) → Adds ids (λ c. c ≡ Decide x) (record ids { decisions = more })
added_decision ids more x there some = record { sound = some.sound; first = some.first; second = λ c e. subst (IsMember (record ids { decisions = more })) (sym e) there }

pub some_user : (ids : CidMembers) (more : List PlaceWord) (n : ℕ) → ((m : ℕ) → HasPlace ids.users m → HasPlace more m) → ((m : ℕ) → HasPlace more m → HasPlace ids.users m ⊎ (n ≡ m)) → AddsSome ids (λ c. c ≡ User n) (record ids { users = more })
some_user ids more n stay only =
    some_each ids (record ids { users = more }) (λ c. c ≡ User n) (λ x h. h) (λ x h. inl h) (λ p h. h) (λ p h. inl h)
    stay (λ m h. elim (only m h) [ inl o ↦ inl o | inr e ↦ inr (ap User (sym e)) ])

pub added_user : (ids : CidMembers) (more : List PlaceWord) (n : ℕ) → HasPlace more n → AddsSome ids (λ c. c ≡ User n) (record ids { users = more }) → Adds ids (λ c. c ≡ User n) (record ids { users = more })
added_user ids more n there some = record { sound = some.sound; first = some.first; second = λ c e. subst (IsMember (record ids { users = more })) (sym e) there }

pub added_negation : (ids : CidMembers) (more : List Cid) (p : Pair) → IsMerged ids.negations (Not p ∷ []) more → Adds ids (λ c. c ≡ Not p) (record ids { negations = more })
added_negation ids more p merged =
    let some = some_each ids (record ids { negations = more }) (λ c. c ≡ Not p) (λ x h. h) (λ x h. inl h)
    (λ q h. merged.first (Not q) h) (λ q h. elim (merged.sound (Not q) h) [ inl o ↦ inl o | inr e ↦ inr (sym (member_single (Not p) (Not q) e)) ])
    (λ n h. h) (λ n h. inl h) in
    record { sound = some.sound; first = some.first; second = λ c e. subst (IsMember (record ids { negations = more })) (sym e) (merged.second (Not p) (member_here (Not p) [])) }

-- the ids of another set
pub some_all : (ids other more : CidMembers) → ((n : ℕ) → HasPlace ids.decisions n → HasPlace more.decisions n) → ((n : ℕ) → HasPlace more.decisions n → HasPlace ids.decisions n ⊎ HasPlace other.decisions n)
    → ((c : Cid) → Contains ids.negations c → Contains more.negations c) → ((c : Cid) → Contains more.negations c → Contains ids.negations c ⊎ Contains other.negations c)
    → ((n : ℕ) → HasPlace ids.users n → HasPlace more.users n) → ((n : ℕ) → HasPlace more.users n → HasPlace ids.users n ⊎ HasPlace other.users n) → AddsSome ids (IsMember other) more
some_all ids other more stay only negate negate_only user user_only = some_each ids more (IsMember other) stay only (λ p h. negate (Not p) h) (λ p h. negate_only (Not p) h) user user_only

pub added_all : (ids other more : CidMembers) → ((n : ℕ) → HasPlace other.decisions n → HasPlace more.decisions n) → IsMerged ids.negations other.negations more.negations → ((n : ℕ) → HasPlace other.users n → HasPlace more.users n)
    → AddsSome ids (IsMember other) more → Adds ids (IsMember other) more
added_all ids other more there merged user_there some = record { sound = some.sound; first = some.first; second = second }
  where
    second : (c : Cid) → IsMember other c → IsMember more c
    second (Decide x) h = there x h
    second (Not p) h = merged.second (Not p) h
    second (User n) h = user_there n h

-- ---- what is kept

pub kept_decisions : (decisions users more : List PlaceWord) (negations : List Cid) → AreMembers decisions negations users → ((x : ℕ) → HasPlace more x → x < 2 ^ 32) → AreMembers more negations users
kept_decisions decisions users more negations kept small = record { variables = small; rising = kept.rising; negated = kept.negated; numbers = kept.numbers }

pub kept_users : (decisions users more : List PlaceWord) (negations : List Cid) → AreMembers decisions negations users → ((n : ℕ) → HasPlace more n → n < 2 ^ 32) → AreMembers decisions negations more
kept_users decisions users more negations kept small = record { variables = kept.variables; rising = kept.rising; negated = kept.negated; numbers = small }

pub kept_negations : (decisions users : List PlaceWord) (negations added more : List Cid) → AreMembers decisions negations users → Rises more → ((c : Cid) → Contains more c → Contains negations c ⊎ Contains added c)
    → ((c : Cid) → Contains added c → (p : Pair) × (c ≡ Not p)) → AreMembers decisions more users
kept_negations decisions users negations added more kept rises only negated = record {
  variables = kept.variables;
  rising = rises;
  negated = λ c m. elim (only c m) [ inl k ↦ kept.negated c k | inr k ↦ negated c k ];
  numbers = kept.numbers;
}

-- one more negation, or without memory none
pub kept_put : {T E : Type 0} (r : Result T E) (decisions users : List PlaceWord) (negations more : List Cid) (p : Pair) → AreMembers decisions negations users → OnOk r (IsMerged negations (Not p ∷ []) more) → OnErr r (more ≡ negations) → AreMembers decisions more users
kept_put (Ok x) decisions users negations more p kept merged same =
    kept_negations decisions users negations (Not p ∷ []) more kept merged.rising merged.sound (λ c m. (p, sym (member_single (Not p) c m)))
kept_put (Err e) decisions users negations more p kept merged same = subst (λ l. AreMembers decisions l users) (sym same) kept

-- numbers that were small, and one more or those of another set
pub small_one : (words more : List PlaceWord) (n : ℕ) → n < 2 ^ 32 → ((k : ℕ) → HasPlace words k → k < 2 ^ 32) → ((k : ℕ) → HasPlace more k → HasPlace words k ⊎ (n ≡ k)) → (k : ℕ) → HasPlace more k → k < 2 ^ 32
small_one words more n small each only k h = elim (only k h) [ inl o ↦ each k o | inr e ↦ omega (arith, e, small) ]

pub small_all : (words other more : List PlaceWord) → ((k : ℕ) → HasPlace words k → k < 2 ^ 32) → ((k : ℕ) → HasPlace other k → k < 2 ^ 32) → ((k : ℕ) → HasPlace more k → HasPlace words k ⊎ HasPlace other k) → (k : ℕ) → HasPlace more k → k < 2 ^ 32
small_all words other more one two only k h = elim (only k h) [ inl o ↦ one k o | inr o ↦ two k o ]

-- the decisions and negations of another set
pub kept_both : (ids other : CidMembers) (decisions : List PlaceWord) (negations : List Cid) → AreMembers ids.decisions ids.negations ids.users → AreMembers other.decisions other.negations other.users
    → ((k : ℕ) → HasPlace decisions k → HasPlace ids.decisions k ⊎ HasPlace other.decisions k) → Rises negations → ((c : Cid) → Contains negations c → Contains ids.negations c ⊎ Contains other.negations c) → AreMembers decisions negations ids.users
kept_both ids other decisions negations kept more only rises negated =
    kept_negations decisions ids.users ids.negations other.negations negations
    (kept_decisions ids.decisions ids.users decisions ids.negations kept (small_all ids.decisions other.decisions decisions kept.variables more.variables only))
    rises negated more.negated

-- ---- whether an id is in a list

pub tells_listed : (cids : List Cid) (cid : Cid) (r : Result ℕ ℕ) → MatchResult r (λ place. StandsAt (λ c. c) cids place cid) (λ place. BelongsAt (λ c. c) cids place cid) → (b : Bool) → b ≡ is_ok r → Tells b (Contains cids cid)
tells_listed cids cid (Ok place) at b is = subst (λ t. Tells t (Contains cids cid)) (sym is) (member_get cids place cid (stands_cid cids place cid at))
tells_listed cids cid (Err place) belongs b is = subst (λ t. Tells t (Contains cids cid)) (sym is) (λ m. belongs.absent cid m refl)

-- one that is there already
pub added_there : (ids : CidMembers) (cid : Cid) → IsMember ids cid → IsJoined (IsMember ids) (λ c. c ≡ cid) (IsMember ids)
added_there ids cid there = record { sound = λ c m. inl m; first = λ c m. m; second = λ c e. subst (IsMember ids) (sym e) there }
