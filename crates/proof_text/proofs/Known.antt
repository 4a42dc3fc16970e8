-- Every text has a verdict: whatever is asked of a line is known.
use Rattle.std.proofs.Common.{◌≡◌, ℕ, ◌-◌, ◌<◌, ◌≤◌, Option, Some, None, List, [], ◌∷◌, ◌++◌, length, map, slice_get, All, Any, Contains, refl, sym, ap, ◌∙◌, subst, arith, inl, inr, length-append}
use Rattle.std.proofs.lemmas.Bool.{cases_lt}
use Rattle.std.proofs.lemmas.List.Elements.{All-contains, All-nil, All-push}
use Rattle.std.proofs.lemmas.Option.{none-some, same_Some}
use Rattle.palm_base.specs.First.{IsNone}
use Rattle.palm_base.specs.declared.terms.Cid.{Cid}
use Rattle.palm_base.specs.declared.terms.Pair.{Pair}
use Rattle.palm_base.proofs.cited.Members.{Known, all_known, all_members, any_known, int_known, known_both, known_not, list_known, member_here, member_known, member_there, nat_known}
use Rattle.palm_book.specs.Book.{BookVar, Contents}
use Rattle.palm_book.specs.Named.{IsDeclared}
use Rattle.palm_book.specs.declared.book.BookCon.{BookCon}
use Rattle.palm_book.proofs.cited.Any.{any_member, member_any}
use Rattle.palm_book.proofs.cited.Naming.{some_known}
use Rattle.palm_book.proofs.cited.Pairs.{Apart}
use Rattle.palm_read.proofs.cited.KnownLimits.{above_known, known_either}
use Rattle.palm_claim.specs.Judging.{in_order}
use Rattle.palm_claim.specs.Own as of_texts
use Rattle.palm_claim.specs.Step.{Given, IsAssumed, IsOfLemma, IsReached, IsRightBy}
use Rattle.palm_claim.specs.declared.ground.Ground.{Ground}
use Rattle.palm_claim.specs.declared.ground.Ground.TheVariants.{By, Assumed, OfLemma}
use Rattle.palm_claim.specs.declared.verdict.Cause.{Cause}
use Rattle.palm_claim.specs.declared.verdict.Claim.TheVariants.{Conflict}
use Rattle.palm_claim.proofs.cited.Asked.{asked_of_pair, asked_of_variable, constraint_known, declared_known, known_never, pair_known, pair_with, reached_known, right_known, settled, variable_known}
use Rattle.palm_claim.proofs.cited.Judged.{has_verdict}
use Rattle.palm_claim.proofs.cited.Listing.{ArePhrasesKnown, NamesApart, is_known, leads_apart, meets_by_known, none_apart}
use Rattle.proof_text.specs.Draft.{ArePairs, Draft, Leads, MayFollow, MayList, Notes, at_stage, blank, given_in, users_of, with_lemma, with_step, with_wipe}
use Rattle.proof_text.specs.Statement.{IsGroundInRange, Says}
use Rattle.proof_text.specs.Users.{Uses}
use Rattle.proof_text.specs.Verdict.{AreApart, AreUsers, HasUnproved, IsMisdeclared, IsNotReached, IsNotRight, IsUnknownGround, IsUnprovedGround, IsVerdict, Meets, MeetsPhrase, of_proofs, proofs}
use Rattle.proof_text.specs.declared.lemma.Lemma.{Lemma}
use Rattle.proof_text.specs.declared.statement.NamedPair.{NamedPair}
use Rattle.proof_text.specs.declared.statement.Stage.{Stage}
use Rattle.proof_text.specs.declared.statement.Stage.TheVariants.{Declaring, Listing, Wiped, Told, Closed}
use Rattle.palm_claim.specs.declared.statement.Statement.{Statement}
use Rattle.palm_claim.specs.declared.statement.Statement.TheVariants.{Comment, Variable, Constraint, Phrase}
use Rattle.proof_text.specs.declared.statement.ProofPhrase.{ProofPhrase}
use Rattle.proof_text.specs.declared.statement.ProofPhrase.TheVariants.{Header, Lemma as LemmaLine, Step, Wipe, Users, End}
use Rattle.proof_text.specs.declared.verdict.ProofVerdict.{ProofVerdict}
use Rattle.proof_text.proofs.cited.Phrases.{are_phrases}
use Rattle.proof_text.proofs.cited.Unique.{proofs_keep}
use Rattle.proof_text.proofs.cited.Using.{AreEarlier, IsUpTo, earlier_more, has_picked, none_earlier, picked_once, up_to_more, uses_known}
use Rattle.proof_text.proofs.cited.Accepted.{stage_known}

-- ---- the order of the lines

listing_known : (stage : Stage) → Known (MayList stage)
listing_known Declaring = inl tt
listing_known Listing = inl tt
listing_known _ = known_never

follow_known : (stage : Stage) (s : ProofPhrase) → Known (MayFollow stage s)
follow_known stage Header = (stage_known stage).0
follow_known Declaring (LemmaLine named) = inl tt
follow_known Listing (LemmaLine named) = inl tt
follow_known Wiped (LemmaLine named) = inl tt
follow_known _ (LemmaLine named) = known_never
follow_known stage (Step name value ground) = (stage_known stage).2
follow_known stage (Wipe name) = (stage_known stage).2
follow_known stage (Users names) = (stage_known stage).3
follow_known (Told users) End = inl tt
follow_known _ End = known_never

-- ---- declarations

all_is_known : {X : Type 0} (P : X → Type 0) (xs : List X) → ((x : X) → Known (P x)) → Known (All P xs)
all_is_known P xs known = elim (all_known P xs (λ x m. known x)) [
  | inl each ↦ inl (all_members P xs each)
  | inr r ↦ inr (λ all. r.2 (All-contains P xs r.0 all r.1))
]

apart_known : (ps : List NamedPair) → Known (AreApart ps)
apart_known [] = inl tt
apart_known (p ∷ ps) = known_both (all_is_known (λ q. p.name ≡ q.name → ⊥) ps (λ q. known_not (list_known nat_known p.name q.name))) (apart_known ps)

unknown_ground_known : (d : Draft) (ground : Ground) → Known (IsUnknownGround d ground)
unknown_ground_known d (By name reasons) = known_not (constraint_known d.book name)
unknown_ground_known d Assumed = known_never
unknown_ground_known d (OfLemma number) = known_never

misdeclared_known : (d : Draft) (s : ProofPhrase) → Known (IsMisdeclared d s)
misdeclared_known d (LemmaLine named) =
    known_either (some_known (λ p. IsDeclared d.book.variables p.name p.value → ⊥) named (λ p. known_not (declared_known d.book.variables p.name p.value))) (known_not (apart_known named))
misdeclared_known d (Step name value ground) = known_either (known_not (declared_known d.book.variables name value)) (unknown_ground_known d ground)
misdeclared_known d (Wipe name) = known_not (variable_known d.book name)
misdeclared_known d (Users names) = some_known (λ name. Any (λ c. c.name ≡ name) d.book.constraints → ⊥) names (λ name. known_not (constraint_known d.book name))
misdeclared_known d _ = known_never

-- ---- steps

unproved_ground_known : (d : Draft) (ground : Ground) → Known (IsUnprovedGround d ground)
unproved_ground_known d (By name reasons) = some_known (λ k. length d.proved < k) reasons (λ k. above_known (length d.proved) k)
unproved_ground_known d Assumed = known_never
unproved_ground_known d (OfLemma number) = above_known (length d.lemmas) number

unproved_known : (d : Draft) (s : ProofPhrase) → Known (HasUnproved d s)
unproved_known d (Step name value ground) = unproved_ground_known d ground
unproved_known d _ = known_never

assumed_known : (pairs : List Pair) (pair : Pair) → Known (IsAssumed pairs pair)
assumed_known pairs pair =
    let Other : Pair → Type 0 = λ q. (q.var ≡ pair.var) × (q.value ≡ pair.value → ⊥) in
    elim (any_known Other pairs (λ q m. known_both (nat_known q.var pair.var) (known_not (int_known q.value pair.value)))) [
      | inl r ↦ inl (record { other = r.0; given = r.1; var = r.2.0; value = r.2.1 })
      | inr none ↦ inr (λ a. none a.other a.given (a.var, a.value))
    ]

-- whether a pair of a lemma is assumed, where it is another one
other_known : (assumed : List Pair) (pair q : Pair) → Known ((q ≡ pair → ⊥) → Contains assumed q)
other_known assumed pair q = elim (member_known pair_known assumed q) [
  | inl m ↦ inl (λ other. m)
  | inr out ↦ elim (pair_known q pair) [ inl same ↦ inl (λ other. absurd (other same)) | inr other ↦ inr (λ h. out (h other)) ]
]

of_lemma_known : (given : Given) (number : ℕ) (pair : Pair) → Known (IsOfLemma given number pair)
of_lemma_known given number pair = go (slice_get given.lemmas (number - 1)) refl
  where
    Other : Pair → Type 0
    Other q = (q ≡ pair → ⊥) → Contains given.pairs q

    go : (o : Option (List Pair)) → slice_get given.lemmas (number - 1) ≡ o → Known (IsOfLemma given number pair)
    go None e = inr (λ h. none-some h.pairs (sym e ∙ h.stands))
    go (Some pairs) e = elim (member_known pair_known pairs pair) [
      | inr out ↦ inr (λ h. out (subst (λ (ps : List Pair). Contains ps pair) (sym (same_Some pairs h.pairs (sym e ∙ h.stands))) h.among))
      | inl among ↦ elim (all_known Other pairs (λ q m. other_known given.pairs pair q)) [
        | inl others ↦ inl (record { pairs = pairs; stands = e; among = among; others = others })
        | inr r ↦ inr (λ h. r.2 (h.others r.0 (subst (λ (ps : List Pair). Contains ps r.0) (same_Some pairs h.pairs (sym e ∙ h.stands)) r.1)))
      ]
    ]

right_by_known : (book : Contents) (given : Given) (proved : List Pair) (pair : Pair) (ground : Ground) → Known (IsRightBy book given proved pair ground)
right_by_known book given proved pair (By name reasons) = right_known book proved pair name reasons
right_by_known book given proved pair Assumed = assumed_known given.pairs pair
right_by_known book given proved pair (OfLemma number) = of_lemma_known given number pair

not_right_known : (d : Draft) (s : ProofPhrase) → Apart d.book.variables → Known (IsNotRight d s)
not_right_known d (Step name value ground) apart =
    asked_of_pair d.book.variables name value (λ pair. IsRightBy d.book (given_in d) d.proved pair ground → ⊥) apart
    (λ pair. known_not (right_by_known d.book (given_in d) d.proved pair ground))
not_right_known d _ apart = known_never

-- ---- what every draft keeps to

-- names differ, and lemmas name only lemmas before them
record Keeps (d : Draft) : Type 0 where
  names : NamesApart d.book
  earlier : AreEarlier d.lemmas
  begun : All (IsUpTo (length d.lemmas)) d.begun.lemmas

noted_up : (d : Draft) (ground : Ground) (lemma : Lemma) → All (IsUpTo (length d.lemmas)) d.begun.lemmas → IsGroundInRange ground → (IsUnprovedGround d ground → ⊥)
    → Notes d ground lemma → All (IsUpTo (length d.lemmas)) lemma.lemmas
noted_up d (By name reasons) lemma up range proved notes = subst (λ (l : Lemma). All (IsUpTo (length d.lemmas)) l.lemmas) (sym notes.3) up
noted_up d Assumed lemma up range proved notes = subst (λ (l : Lemma). All (IsUpTo (length d.lemmas)) l.lemmas) (sym notes) up
noted_up d (OfLemma number) lemma up range proved notes =
    let most : number ≤ length d.lemmas = elim (cases_lt (length d.lemmas) number) [ inl late ↦ absurd (proved late) | inr h ↦ h ] in
    subst (λ (l : Lemma). All (IsUpTo (length d.lemmas)) l.lemmas) (sym notes) (All-push (IsUpTo (length d.lemmas)) d.begun.lemmas number up (range.0, most))

-- what a line without a cause leads to names only lemmas before
abbrev IsInOrder : Draft → Type 0
IsInOrder d = AreEarlier d.lemmas × All (IsUpTo (length d.lemmas)) d.begun.lemmas

order_leads : (d e : Draft) (line : List ℕ) (s : Statement ProofPhrase) → IsInOrder d → Says line s → IsNone (Meets d s) in_order → of_texts.Leads of_proofs d s e → IsInOrder e
order_leads d e line Comment order says none leads = subst IsInOrder (sym leads) order
order_leads d e line (Phrase Header) order says none leads = subst IsInOrder (sym leads) order
order_leads d e line (Variable name domain) order says none leads = subst IsInOrder (sym leads) order
order_leads d e line (Constraint name shape) order says none leads = subst IsInOrder (sym leads.2) order
order_leads d e line (Phrase (LemmaLine named)) order says none leads = subst IsInOrder (sym leads.2) (order.0, All-nil (IsUpTo (length d.lemmas)))
order_leads d e line (Phrase (Step name value ground)) order says none leads =
    subst IsInOrder (sym leads.4) (order.0, noted_up d ground leads.1 order.1 says.2.1 none.1.1.1.0 leads.3)
order_leads d e line (Phrase (Wipe name)) order says none leads =
    let more : length d.lemmas ≤ length (d.lemmas ++ d.begun ∷ []) = omega (arith, length-append d.lemmas (d.begun ∷ [])) in
    subst IsInOrder (sym leads) (earlier_more d.lemmas d.begun order.0 order.1, up_to_more (length d.lemmas) (length (d.lemmas ++ d.begun ∷ [])) d.begun.lemmas more order.1)
order_leads d e line (Phrase (Users names)) order says none leads = subst IsInOrder (sym leads.2) order
order_leads d e line (Phrase End) order says none leads = subst IsInOrder (sym leads.2) order

keeps_leads : (d e : Draft) (line : List ℕ) (s : Statement ProofPhrase) → Keeps d → Says line s → IsNone (Meets d s) in_order → of_texts.Leads of_proofs d s e → Keeps e
keeps_leads d e line s keeps says none leads =
    let order = order_leads d e line s (keeps.earlier, keeps.begun) says none leads in
    record { names = leads_apart of_proofs proofs_keep d e s keeps.names none leads; earlier = order.0; begun = order.1 }

keeps_blank : Keeps blank
keeps_blank = record { names = none_apart; earlier = none_earlier; begun = All-nil (IsUpTo 0) }

-- ---- users

abbrev IsUsed : Draft → BookCon → Type 0
IsUsed d c = Uses d.lemmas d.begun c.number

used_known : (d : Draft) → Keeps d → (c : BookCon) → Known (IsUsed d c)
used_known d keeps c = uses_known d.lemmas c.number keeps.earlier (length d.lemmas) d.begun keeps.begun

users_known : (d : Draft) (names : List (List ℕ)) → Keeps d → Known (AreUsers d names)
users_known d names keeps =
    let name : BookCon → List ℕ = λ c. c.name in
    let used = has_picked (IsUsed d) d.book.constraints (used_known d keeps) in
    elim (known_both (list_known pair_known d.begun.pairs []) (list_known (list_known nat_known) names (map name used.0))) [
      | inl is ↦ inl (record { free = is.0; used = used.0; are_used = used.1; named = is.1 })
      | inr wrong ↦ inr (λ u. wrong (u.free, u.named ∙ ap (map name) (picked_once (IsUsed d) d.book.constraints u.used used.0 u.are_used used.1)))
    ]

not_reached_known : (d : Draft) (s : ProofPhrase) → Keeps d → Known (IsNotReached d s)
not_reached_known d (Wipe name) keeps =
    asked_of_variable d.book.variables name (λ x. IsReached d.book d.proved (Conflict x) → ⊥) keeps.names.variables (λ x. known_not (reached_known d.book d.proved (Conflict x)))
not_reached_known d (Users names) keeps = known_not (users_known d names keeps)
not_reached_known d _ keeps = known_never

-- ---- a line

meets_known : (d : Draft) (s : ProofPhrase) → Keeps d → (cause : Cause) → Known (MeetsPhrase d s cause)
meets_known d s keeps =
    meets_by_known IsMisdeclared HasUnproved IsNotRight IsNotReached d s (misdeclared_known d s) (unproved_known d s) (not_right_known d s keeps.names.variables) (not_reached_known d s keeps)

told_end : (stage : Stage) → ((MayFollow stage End → ⊥) → ⊥) → (users : List Cid) × (stage ≡ Told users)
told_end (Told users) twice = (users, refl)
told_end _ twice = absurd (twice (λ h. h))

has_pairs : (variables : List BookVar) (named : List NamedPair) → ((p : NamedPair) → Contains named p → IsDeclared variables p.name p.value) → (pairs : List Pair) × ArePairs variables named pairs
has_pairs variables [] declared = ([], refl)
has_pairs variables (n ∷ ns) declared =
    let pair = pair_with variables n.name n.value (declared n (member_here n ns)) in
    let rest = has_pairs variables ns (λ p m. declared p (member_there n ns p m)) in
    (pair.0 ∷ rest.0, (pair.0, rest.0, pair.1, refl, rest.1))

noted : (d : Draft) (ground : Ground) → (IsUnknownGround d ground → ⊥) → (lemma : Lemma) × Notes d ground lemma
noted d (By name reasons) named =
    let c = member_any (λ (b : BookCon). b.name ≡ name) d.book.constraints (settled (constraint_known d.book name) named) in
    (record d.begun { constraints = d.begun.constraints ++ c.0.number ∷ [] }, (c.0, c.1, c.2, refl))
noted d Assumed named = (d.begun, refl)
noted d (OfLemma number) named = (record d.begun { lemmas = d.begun.lemmas ++ number ∷ [] }, refl)

-- a phrase without a cause leads to a draft
leads_on : (d : Draft) (s : ProofPhrase) → Keeps d → IsNone (Meets d (Phrase s)) in_order → (e : Draft) × Leads d s e
leads_on d Header keeps none = (at_stage d Declaring, refl)
leads_on d (LemmaLine named) keeps none =
    let Undeclared : NamedPair → Type 0 = λ p. IsDeclared d.book.variables p.name p.value → ⊥ in
    let pairs = has_pairs d.book.variables named (λ p m. settled (declared_known d.book.variables p.name p.value) (λ n. none.1.0 (inl (any_member Undeclared named p m n)))) in
    (with_lemma d pairs.0, (pairs.0, pairs.1, refl))
leads_on d (Step name value ground) keeps none =
    let p = pair_with d.book.variables name value (settled (declared_known d.book.variables name value) (λ n. none.1.0 (inl n))) in
    let l = noted d ground (λ n. none.1.0 (inr n)) in
    (with_step d p.0 l.0, (p.0, l.0, p.1, l.1, refl))
leads_on d (Wipe name) keeps none = (with_wipe d, refl)
leads_on d (Users names) keeps none =
    let used = has_picked (IsUsed d) d.book.constraints (used_known d keeps) in
    (at_stage d (Told (users_of used.0)), (used.0, used.1, refl))
leads_on d End keeps none = let users = told_end d.stage none.0 in (at_stage d (Closed users.0), (users.0, users.1, refl))

-- ---- texts

phrases_known : ArePhrasesKnown of_proofs Keeps
phrases_known = record {
  declares = λ d. (stage_known d.stage).1;
  lists = λ d. listing_known d.stage;
  follows = λ d s. follow_known d.stage s;
  meets = meets_known;
  leads = leads_on;
}

pub each_judged : (bytes : List ℕ) → (verdict : ProofVerdict) × IsVerdict bytes verdict
each_judged bytes =
    has_verdict Draft (Statement ProofPhrase) ProofVerdict proofs Keeps (is_known of_proofs Keeps phrases_known are_phrases keeps_leads) blank bytes keeps_blank
