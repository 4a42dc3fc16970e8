-- The first line of a lemma: its pairs, one after another.
use Rattle.std.proofs.Common.{◌≡◌, ℕ, zero, suc, ◌+◌, ◌<◌, ◌≤◌, true, false, Some, None, List, [], ◌∷◌, ◌++◌, length, get_or, take, take_all, All, Contains, inl, inr, refl, sym, ap, ◌∙◌, subst}
use Rattle.std.specs.Prelude.{slice_get}
use Rattle.std.proofs.lemmas.List.Elements.{All-contains, All-nil, All-push}
use Rattle.std.proofs.lemmas.Option.{none-some, slice_get-get_or}
use Rattle.palm_base.specs.declared.terms.Pair.{Pair}
use Rattle.palm_base.proofs.cited.Members.{member_cases, member_get, member_here, member_nil, member_there}
use Rattle.palm_book.specs.Book.{BookVar, name_of}
use Rattle.palm_book.specs.Named.{IsDeclared, IsPair}
use Rattle.palm_book.proofs.cited.Any.{any_member, member_any}
use Rattle.palm_book.proofs.cited.Pairs.{Apart, pair_declared, variable_is}
use Rattle.palm_claim.specs.declared.verdict.Cause.TheVariants.{Misdeclared}
use Rattle.palm_claim.proofs.cited.Causes.{first_misdeclared, without_cause}
use Rattle.proof_text.specs.Draft.{ArePairs, Draft, MayFollow, with_lemma}
use Rattle.proof_text.specs.Verdict.{AreApart, IsMisdeclared, Meets}
use Rattle.proof_text.specs.declared.statement.NamedPair.{NamedPair}
use Rattle.palm_claim.specs.declared.statement.Statement.TheVariants.{Phrase}
use Rattle.proof_text.specs.declared.statement.ProofPhrase.TheVariants.{Lemma}
use Rattle.proof_check.specs.Kept.{AssumesOrNot, TakesPhrase}
use Rattle.proof_check.proofs.Assuming.{take_next}

-- ---- pairs by name

pairs_push : (variables : List BookVar) (ns : List NamedPair) (pairs : List Pair) (n : NamedPair) (p : Pair) → ArePairs variables ns pairs → IsPair variables n.name n.value p
    → ArePairs variables (ns ++ n ∷ []) (pairs ++ p ∷ [])
pairs_push variables [] pairs n p are is = (p, [], is, ap (λ (ps : List Pair). ps ++ p ∷ []) are, refl)
pairs_push variables (m ∷ ms) pairs n p are is = (are.0, are.1 ++ p ∷ [], are.2, ap (λ (ps : List Pair). ps ++ p ∷ []) are.3, pairs_push variables ms are.1 n p are.4 is)

-- a pair of the lemma has a name and a value
pairs_member : (variables : List BookVar) (ns : List NamedPair) (pairs : List Pair) (q : Pair) → ArePairs variables ns pairs → Contains pairs q → (n : NamedPair) × Contains ns n × IsPair variables n.name n.value q
pairs_member variables [] pairs q are m = absurd (member_nil q (subst (λ (ps : List Pair). Contains ps q) are m))
pairs_member variables (n ∷ ns) pairs q are m = elim (member_cases are.0 are.1 q (subst (λ (ps : List Pair). Contains ps q) are.3 m)) [
  | inl e ↦ (n, member_here n ns, subst (λ (p : Pair). IsPair variables n.name n.value p) e are.2)
  | inr r ↦ let u = pairs_member variables ns are.1 q are.4 r in (u.0, member_there n ns u.0 u.1, u.2)
]

-- and each of them a pair
member_pairs : (variables : List BookVar) (ns : List NamedPair) (pairs : List Pair) (n : NamedPair) → ArePairs variables ns pairs → Contains ns n → (q : Pair) × Contains pairs q × IsPair variables n.name n.value q
member_pairs variables [] pairs n are m = absurd (member_nil n m)
member_pairs variables (k ∷ ns) pairs n are m = elim (member_cases k ns n m) [
  | inl e ↦
      (are.0, subst (λ (ps : List Pair). Contains ps are.0) (sym are.3) (member_here are.0 are.1), subst (λ (o : NamedPair). IsPair variables o.name o.value are.0) e are.2)
  | inr r ↦
      let u = member_pairs variables ns are.1 n are.4 r in
      (u.0, subst (λ (ps : List Pair). Contains ps u.0) (sym are.3) (member_there are.0 are.1 u.0 u.1), u.2)
]

-- ---- no variable twice

apart_push : (ns : List NamedPair) (n : NamedPair) → AreApart ns → ((p : NamedPair) → Contains ns p → p.name ≡ n.name → ⊥) → AreApart (ns ++ n ∷ [])
apart_push [] n apart differs = (All-nil (λ (q : NamedPair). n.name ≡ q.name → ⊥), tt)
apart_push (m ∷ ms) n apart differs = (
  All-push (λ (q : NamedPair). m.name ≡ q.name → ⊥) ms n apart.0 (differs m (member_here m ms)),
  apart_push ms n apart.1 (λ p c. differs p (member_there m ms p c)),
)

apart_break : (ns : List NamedPair) (i : ℕ) (n p : NamedPair) → slice_get ns i ≡ Some n → Contains (take i ns) p → p.name ≡ n.name → AreApart ns → ⊥
apart_break [] i n p at m e apart = none-some n at
apart_break (k ∷ ns) zero n p at m e apart = member_nil p m
apart_break (k ∷ ns) (suc i) n p at m e apart = elim (member_cases k (take i ns) p m) [
  | inl same ↦ All-contains (λ (q : NamedPair). k.name ≡ q.name → ⊥) ns n apart.0 (member_get ns i n at) (ap (λ (q : NamedPair). q.name) same ∙ e)
  | inr r ↦ apart_break ns i n p at r e apart.1
]

-- ---- the pairs so far

-- the first of the named pairs are assumed
pub record Begins (d : Draft) (named : List NamedPair) (i : ℕ) (e : Draft) : Type 0 where
  pub pairs : List Pair
  pub are : ArePairs d.book.variables (take i named) pairs
  pub is : e ≡ with_lemma d pairs
  pub apart : AreApart (take i named)
  pub declared : All (λ p. IsDeclared d.book.variables p.name p.value) (take i named)

pub begins_none : (d : Draft) (named : List NamedPair) (e : Draft) → e ≡ with_lemma d [] → Begins d named 0 e
begins_none d named e is = record { pairs = []; are = refl; is = is; apart = tt; declared = All-nil (λ (p : NamedPair). IsDeclared d.book.variables p.name p.value) }

module _ (d : Draft) (named : List NamedPair) (i : ℕ) (now e : Draft) (begins : Begins d named i now) (apart : Apart d.book.variables) (n : NamedPair) (lt : i < length named) (read : n ≡ get_or named i n) where
  pub begins_more : AssumesOrNot now n.name n.value true e → Begins d named (i + 1) e
  begins_more assumes =
      let a = subst (λ (m : Draft). AssumesOrNot m n.name n.value true e) begins.is assumes in
      let more = take_next named i n lt read in
      let differs : (p : NamedPair) → Contains (take i named) p → p.name ≡ n.name → ⊥ = λ p m same.
      let q = member_pairs d.book.variables (take i named) begins.pairs p begins.are m in
      a.3 q.0 q.1 (variable_is d.book.variables n.name q.0.var a.0.var apart (record { declared = q.2.variable.declared; named = q.2.variable.named ∙ same }) a.1.variable) in
      record {
        pairs = begins.pairs ++ a.0 ∷ [];
        are = subst (λ (ns : List NamedPair). ArePairs d.book.variables ns (begins.pairs ++ a.0 ∷ [])) more (pairs_push d.book.variables (take i named) begins.pairs n a.0 begins.are a.1);
        is = a.4;
        apart = subst (λ (ns : List NamedPair). AreApart ns) more (apart_push (take i named) n begins.apart differs);
        declared = subst (λ (ns : List NamedPair). All (λ (p : NamedPair). IsDeclared d.book.variables p.name p.value) ns) more
            (All-push (λ (p : NamedPair). IsDeclared d.book.variables p.name p.value) (take i named) n begins.declared (pair_declared d.book n.name n.value a.0 a.1 a.2));
      }

  misdeclared : AssumesOrNot now n.name n.value false e → IsMisdeclared d (Lemma named)
  misdeclared assumes =
      let at : slice_get named i ≡ Some n = slice_get-get_or named i n lt ∙ ap Some (sym read) in
      elim (subst (λ (m : Draft). AssumesOrNot m n.name n.value false e) begins.is assumes) [
        | inl undeclared ↦ inl (any_member (λ (p : NamedPair). IsDeclared d.book.variables p.name p.value → ⊥) named n (member_get named i n at) undeclared)
        | inr twice ↦
            let p = pairs_member d.book.variables (take i named) begins.pairs twice.1 begins.are twice.3 in
            inr (apart_break named i n p.0 at p.1 (sym p.2.variable.named ∙ ap (λ (x : ℕ). name_of d.book.variables x) twice.4 ∙ twice.2.variable.named))
      ]

  pub begins_not : MayFollow d.stage (Lemma named) → AssumesOrNot now n.name n.value false e → TakesPhrase d (Lemma named) (Some Misdeclared) e
  begins_not stands assumes = first_misdeclared (Meets d (Phrase (Lemma named))) (λ s. s stands) (misdeclared assumes)

pub begun : (d : Draft) (named : List NamedPair) (i : ℕ) (e : Draft) → Begins d named i e → length named ≤ i → MayFollow d.stage (Lemma named) → TakesPhrase d (Lemma named) None e
begun d named i e begins over stands =
    let all : take i named ≡ named = take_all i named over in
    let declared = subst (λ (ns : List NamedPair). All (λ (p : NamedPair). IsDeclared d.book.variables p.name p.value) ns) all begins.declared in
    let apart = subst (λ (ns : List NamedPair). AreApart ns) all begins.apart in (
      without_cause (Meets d (Phrase (Lemma named))) (λ s. s stands)
          (λ m. elim m [
            | inl some ↦
                let u = member_any (λ (p : NamedPair). IsDeclared d.book.variables p.name p.value → ⊥) named some in
                u.2 (All-contains (λ (p : NamedPair). IsDeclared d.book.variables p.name p.value) named u.0 declared u.1)
            | inr twice ↦ twice apart
          ])
          (λ h. h) (λ h. h) (λ h. h) (λ h. h),
      (begins.pairs, subst (λ (ns : List NamedPair). ArePairs d.book.variables ns begins.pairs) all begins.are, begins.is),
    )
