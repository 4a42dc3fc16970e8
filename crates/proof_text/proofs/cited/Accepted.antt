-- What is accepted has no solution: lemma after lemma, no solution of the constraints that it uses has all its pairs.
use Rattle.std.proofs.Common.{◌≡◌, ◌≢◌, ℕ, zero, suc, ◌+◌, ◌-◌, ◌<◌, ℤ, List, [], ◌∷◌, ◌++◌, get_or, length, map, All, AllPairs, Contains, Some, slice_get, inl, inr, refl, sym, ap, ◌∙◌, subst, arith, length-append}
use Rattle.std.specs.Bool.{⊤}
use Rattle.std.proofs.lemmas.List.{get_or_default, length-map}
use Rattle.std.proofs.lemmas.List.Elements.{All-contains, Contains-push, Contains-push_cases}
use Rattle.std.proofs.lemmas.List.Quantifiers.{all_pairs_push}
use Rattle.palm_base.specs.First.{IsNone}
use Rattle.palm_base.specs.declared.terms.Pair.{Pair}
use Rattle.palm_base.specs.declared.terms.Cid.{Cid}
use Rattle.palm_base.proofs.cited.Members.{Known, member_cases, member_get, member_nil}
use Rattle.palm_book.specs.Book.{BookVar, Contents, HasConstraint, IsUser, initial_of, listed, with_listed, with_variable}
use Rattle.palm_book.specs.declared.book.BookCon.{BookCon}
use Rattle.palm_book.proofs.cited.Naming.{variable_with}
use Rattle.palm_laws.specs.Declared.{AreDeclared}
use Rattle.palm_model.specs.Closure.{IsSolution}
use Rattle.palm_model.specs.Constraint.{scope}
use Rattle.palm_model.specs.Domains.{Assignment, Has}
use Rattle.palm_model.specs.declared.constraint.Con.{Con}
use Rattle.palm_model.proofs.cited.Formed.{part_scope}
use Rattle.palm_read.specs.Domain.{values_in}
use Rattle.palm_claim.specs.Judging.{Judges, in_order}
use Rattle.palm_claim.specs.Own as of_texts
use Rattle.palm_claim.specs.Step.{IsReached, IsRightBy, pairs_at}
use Rattle.palm_claim.specs.declared.verdict.Claim.TheVariants.{Conflict}
use Rattle.palm_claim.specs.declared.ground.Ground.{Ground}
use Rattle.palm_claim.specs.declared.ground.Ground.TheVariants.{By, Assumed, OfLemma}
use Rattle.palm_claim.proofs.cited.Explained.{reason_member}
use Rattle.palm_claim.proofs.cited.ProvedSteps.{same_constraint}
use Rattle.proof_text.specs.Draft.{ArePairs, Draft, MayList, Notes, at_stage, blank, books, given_in, users_of, with_lemma, with_step, with_wipe}
use Rattle.proof_text.specs.Sound.{IsBacked}
use Rattle.proof_text.specs.Statement.{IsGroundInRange, Says}
use Rattle.proof_text.specs.Users.{AreOfTheirBook, AreUsed, IsAmong, by_lemma, by_step}
use Rattle.proof_text.specs.Verdict.{IsUnprovedGround, IsVerdict, Meets, ending, of_proofs, proofs}
use Rattle.proof_text.specs.declared.lemma.Lemma.{Lemma}
use Rattle.proof_text.specs.declared.statement.NamedPair.{NamedPair}
use Rattle.proof_text.specs.declared.statement.Stage.{Stage}
use Rattle.proof_text.specs.declared.statement.Stage.TheVariants.{Unopened, Declaring, Listing, Reasoning, Wiped, Told, Closed}
use Rattle.palm_claim.specs.declared.statement.Statement.{Statement}
use Rattle.palm_claim.specs.declared.statement.Statement.TheVariants.{Comment, Variable, Constraint, Phrase}
use Rattle.proof_text.specs.declared.statement.ProofPhrase.{ProofPhrase}
use Rattle.proof_text.specs.declared.statement.ProofPhrase.TheVariants.{Header, Lemma as LemmaLine, Step, Wipe, Users, End}
use Rattle.proof_text.specs.declared.verdict.ProofVerdict.{ProofVerdict}
use Rattle.proof_text.specs.declared.verdict.ProofVerdict.TheVariants.{Accepted, Refused}
use Rattle.palm_laws.proofs.cited.Solutions.{has_point, point_has, points, points_closed, points_inside}
use Rattle.palm_claim.proofs.cited.Asked.{settled}
use Rattle.proof_text.proofs.Steps.{right_lacks}
use Rattle.proof_text.proofs.Excluding.{HasPairs, IsTrue, IsUsed, notes_longer, solves_fewer, true_behind, used_among, used_more, users_listed, uses_longer}

-- ---- the stages that lines ask for

-- whether a stage is that of a header, of variables, of steps or behind a wipe
pub stage_known : (stage : Stage) → Known (stage ≡ Unopened) × Known (stage ≡ Declaring) × Known (stage ≡ Reasoning) × Known (stage ≡ Wiped)
stage_known Unopened = (inl refl, inr (λ e. cc), inr (λ e. cc), inr (λ e. cc))
stage_known Declaring = (inr (λ e. cc), inl refl, inr (λ e. cc), inr (λ e. cc))
stage_known Reasoning = (inr (λ e. cc), inr (λ e. cc), inl refl, inr (λ e. cc))
stage_known Wiped = (inr (λ e. cc), inr (λ e. cc), inr (λ e. cc), inl refl)
stage_known _ = (inr (λ e. cc), inr (λ e. cc), inr (λ e. cc), inr (λ e. cc))

-- ---- what every draft keeps to

-- the listed constraints are over the variables
abbrev AreOver : Contents → Type 0
AreOver book = (c : BookCon) (x : ℕ) → Contains book.constraints c → Contains (scope c.con) x → x < length book.variables

-- each has a name of its own
abbrev AreNamedApart : Contents → Type 0
AreNamedApart book = AllPairs (λ (c d : BookCon). c.name ≢ d.name) book.constraints

-- no solution of what the lemma uses has its pairs and one that its steps proved
record AreProved (book : Contents) (lemmas : List Lemma) (lemma : Lemma) (proved : List Pair) : Type 0 where
  declared : (p : Pair) → Contains lemma.pairs p → p.var < length book.variables
  lacks : (b : Assignment) → IsSolution (initial_of book) (IsUsed book lemmas lemma) b → HasPairs b lemma.pairs → (p : Pair) → Contains proved p → b p.var ≡ p.value → ⊥

-- the users are constraints of the book that have no solution
record AreRefuted (book : Contents) (users : List Cid) : Type 0 where
  none : (b : Assignment) → IsSolution (initial_of book) (IsAmong book users) b → ⊥
  listed : All (IsUser book) users

-- what is so at the stage
abbrev AtStage : Stage → Draft → Type 0
AtStage Reasoning d = AreProved d.book d.lemmas d.begun d.proved
AtStage Wiped d = IsTrue d.book d.lemmas d.begun
AtStage (Told users) d = AreRefuted d.book users
AtStage (Closed users) d = AreRefuted d.book users
AtStage stage d = d.lemmas ≡ []

-- each lemma that is done is true
record Keeps (d : Draft) : Type 0 where
  over : AreOver d.book
  apart : AreNamedApart d.book
  lemmas : (l : Lemma) → Contains d.lemmas l → IsTrue d.book d.lemmas l
  stage : AtStage d.stage d

early_lemmas : (stage : Stage) (d : Draft) → ((MayList stage → ⊥) → ⊥) → AtStage stage d → d.lemmas ≡ []
early_lemmas Declaring d may at = at
early_lemmas Listing d may at = at
early_lemmas _ d may at = absurd (may (λ h. h))

no_lemmas : (book : Contents) (lemmas : List Lemma) → lemmas ≡ [] → (l : Lemma) → Contains lemmas l → IsTrue book lemmas l
no_lemmas book lemmas none l m = absurd (member_nil l (subst (λ ls. Contains ls l) none m))

-- ---- steps

-- a variable of the book has initial values
initial_declared : (book : Contents) (x : ℕ) → x < length book.variables → x < length (initial_of book)
initial_declared book x lt = let e = length-map book.variables (λ (v : BookVar). v.values) in omega (arith, lt, e)

used_declared : (book : Contents) (lemmas : List Lemma) (lemma : Lemma) → AreOver book → AreDeclared (length (initial_of book)) (IsUsed book lemmas lemma)
used_declared book lemmas lemma over c p x used k m =
    initial_declared book x (over used.owner x used.listed (subst (λ (d : Con). Contains (scope d) x) (sym used.is) (part_scope c p x k m)))

-- the lemma whose pairs are given under the number
lemma_at : (lemmas : List Lemma) (k : ℕ) (pairs : List Pair) → slice_get (map (λ (l : Lemma). l.pairs) lemmas) k ≡ Some pairs → (l : Lemma) × (slice_get lemmas k ≡ Some l) × (l.pairs ≡ pairs)
lemma_at [] k pairs at = cc
lemma_at (l ∷ lemmas) zero pairs at = let same : l.pairs ≡ pairs = cc in (l, refl, same)
lemma_at (l ∷ lemmas) (suc k) pairs at = lemma_at lemmas k pairs at

-- reasons that are no later steps are pairs that were proved
abbrev AreEarlier : List Pair → Ground → Type 0
AreEarlier proved (By name reasons) = (p : Pair) → Contains (pairs_at proved reasons) p → Contains proved p
AreEarlier proved _ = ⊤

earlier_reasons : (d : Draft) (ground : Ground) → IsGroundInRange ground → (IsUnprovedGround d ground → ⊥) → AreEarlier d.proved ground
earlier_reasons d (By name reasons) range early = reason_member d.proved reasons range early
earlier_reasons d Assumed range early = tt
earlier_reasons d (OfLemma number) range early = tt

-- a solution of what a lemma uses behind a step is one of what it used before
solves_before : (d : Draft) (ground : Ground) (lemma : Lemma) (b : Assignment) → Notes d ground lemma
    → IsSolution (initial_of d.book) (IsUsed d.book d.lemmas lemma) b → IsSolution (initial_of d.book) (IsUsed d.book d.lemmas d.begun) b
solves_before d ground lemma b notes solution =
    solves_fewer (initial_of d.book) (IsUsed d.book d.lemmas d.begun) (IsUsed d.book d.lemmas lemma) b
    (λ c used. used_more d.book d.lemmas d.lemmas d.begun lemma c (λ k uses. uses_longer d.lemmas lemma d.begun k (notes_longer d ground lemma notes) uses) used) solution

-- the step rests on what the lemma uses behind it
step_backed : (d : Draft) (ground : Ground) (lemma : Lemma) (b : Assignment) (n : ℕ) → Keeps d → Notes d ground lemma → AreEarlier d.proved ground
    → IsSolution (initial_of d.book) (IsUsed d.book d.lemmas lemma) b → IsBacked d.book (given_in d) d.proved (IsUsed d.book d.lemmas lemma) (points b n) ground
step_backed d (By name reasons) lemma b n keeps notes earlier solution = (
  earlier,
  λ c m named.
      let same : notes.0 ≡ c = same_constraint d.book.constraints notes.0 c keeps.apart notes.1 m (notes.2 ∙ sym named) in
      let noted = subst (λ (l : Lemma). Contains l.constraints notes.0.number) (sym notes.3) (Contains-push d.begun.constraints notes.0.number) in
      record { owner = c; listed = m; is = refl; uses = by_step lemma c.number (subst (λ (o : BookCon). Contains lemma.constraints o.number) same noted) },
)
step_backed d Assumed lemma b n keeps notes earlier solution = tt
step_backed d (OfLemma number) lemma b n keeps notes earlier solution = λ pairs stands all.
    let r = lemma_at d.lemmas (number - 1) pairs stands in
    let noted = subst (λ (l : Lemma). Contains l.lemmas number) (sym notes) (Contains-push d.begun.lemmas number) in
    keeps.lemmas r.0 (member_get d.lemmas (number - 1) r.0 r.1) b
    (solves_fewer (initial_of d.book) (IsUsed d.book d.lemmas r.0) (IsUsed d.book d.lemmas lemma) b
    (λ c used. used_more d.book d.lemmas d.lemmas r.0 lemma c (λ k uses. by_lemma lemma r.0 number k noted r.1 uses) used) solution)
    (λ p m. (point_has b n p.var p.value (all p (subst (λ ps. Contains ps p) r.2 m))).value)

-- what a right step proves is in no solution that has the lemma's pairs
proved_more : (d : Draft) (pair : Pair) (ground : Ground) (lemma : Lemma) → Keeps d → AreProved d.book d.lemmas d.begun d.proved → pair.var < length d.book.variables
    → Notes d ground lemma → AreEarlier d.proved ground → ((IsRightBy d.book (given_in d) d.proved pair ground → ⊥) → ⊥)
    → AreProved d.book d.lemmas lemma (d.proved ++ pair ∷ [])
proved_more d pair ground lemma keeps proved lt notes earlier twice = record {
  declared = λ p m. proved.declared p (subst (λ ps. Contains ps p) same m);
  lacks = λ b solution has p m e.
      let before = solves_before d ground lemma b notes solution in
      let has_begun : HasPairs b d.begun.pairs = subst (HasPairs b) same has in
      elim (Contains-push_cases d.proved pair p m) [
        | inl o ↦ proved.lacks b before has_begun p o e
        | inr is ↦ twice (λ right. lacks_pair b solution before has_begun right (subst (λ (q : Pair). b q.var ≡ q.value) (sym is) e))
      ];
}
  where
    same : lemma.pairs ≡ d.begun.pairs
    same = (notes_longer d ground lemma notes).pairs

    lacks_pair : (b : Assignment) → IsSolution (initial_of d.book) (IsUsed d.book d.lemmas lemma) b → IsSolution (initial_of d.book) (IsUsed d.book d.lemmas d.begun) b
        → HasPairs b d.begun.pairs → IsRightBy d.book (given_in d) d.proved pair ground → b pair.var ≡ pair.value → ⊥
    lacks_pair b solution before has right e =
        let n : ℕ = length (initial_of d.book) in
        right_lacks d.book (given_in d) (IsUsed d.book d.lemmas lemma) d.proved pair ground (points b n)
        (points_inside (initial_of d.book) (IsUsed d.book d.lemmas lemma) b solution)
        (points_closed (initial_of d.book) (IsUsed d.book d.lemmas lemma) b (used_declared d.book d.lemmas lemma keeps.over) solution)
        (record {
          held = λ p m. subst (λ v. Has (points b n) p.var v) (has p m) (has_point b n p.var (initial_declared d.book p.var (proved.declared p m)));
          only = λ p v m h. sym (point_has b n p.var v h).value ∙ has p m;
        })
        (λ p m h. proved.lacks b before has p m (point_has b n p.var p.value h).value)
        (step_backed d ground lemma b n keeps notes earlier solution)
        right (subst (λ v. Has (points b n) pair.var v) e (has_point b n pair.var (initial_declared d.book pair.var lt)))

-- ---- lines

-- the pairs of a lemma are of variables of the book
pairs_declared : (variables : List BookVar) (named : List NamedPair) (pairs : List Pair) → ArePairs variables named pairs → (p : Pair) → Contains pairs p → p.var < length variables
pairs_declared variables [] pairs are p m = absurd (member_nil p (subst (λ ps. Contains ps p) are m))
pairs_declared variables (n ∷ ns) pairs are p m = elim (member_cases are.0 are.1 p (subst (λ ps. Contains ps p) are.3 m)) [
  | inl e ↦ subst (λ (q : Pair). q.var < length variables) e are.2.variable.declared
  | inr k ↦ pairs_declared variables ns are.1 are.4 p k
]

-- before the first lemma, declarations keep to it
keeps_variable : (d : Draft) (name : List ℕ) (values : List ℤ) → Keeps d → d.stage ≡ Declaring → Keeps (books.declared d (with_variable d.book name values))
keeps_variable d name values keeps stands =
    let none : d.lemmas ≡ [] = subst (λ s. AtStage s d) stands keeps.stage in
    let next = books.declared d (with_variable d.book name values) in
    let longer = length-append d.book.variables (record { name = name; values = values } ∷ []) in
    record {
      over = λ c x m k. let lt = keeps.over c x m k in omega (arith, lt, longer);
      apart = keeps.apart;
      lemmas = no_lemmas next.book d.lemmas none;
      stage = subst (λ s. AtStage s next) (sym stands) none;
    }

keeps_constraint : (d : Draft) (name : List ℕ) (con : Con) → Keeps d → d.lemmas ≡ [] → (HasConstraint d.book name → ⊥) → All (λ x. x < length d.book.variables) (scope con) → Keeps (books.listed d (with_listed d.book name con))
keeps_constraint d name con keeps none fresh declared =
    let cs = d.book.constraints in
    let next = books.listed d (with_listed d.book name con) in
    record {
      over = λ c x m k. elim (Contains-push_cases cs (listed d.book name con) c m) [
        | inl o ↦ keeps.over c x o k
        | inr same ↦ All-contains (λ y. y < length d.book.variables) (scope con) x declared (subst (λ (o : BookCon). Contains (scope o.con) x) (sym same) k)
      ];
      apart = all_pairs_push (λ (a c : BookCon). a.name ≢ c.name) cs (listed d.book name con) keeps.apart
          (λ k c lt same. fresh (k, get_or cs k c, lt, get_or_default cs k (get_or cs k c) c lt, same));
      lemmas = no_lemmas next.book d.lemmas none;
      stage = none;
    }

-- what is shown of a step, a wipe or a stage is kept
keeps_step : (d : Draft) (pair : Pair) (lemma : Lemma) → Keeps d → d.stage ≡ Reasoning → AreProved d.book d.lemmas lemma (d.proved ++ pair ∷ []) → Keeps (with_step d pair lemma)
keeps_step d pair lemma keeps stands proved = record {
  over = keeps.over;
  apart = keeps.apart;
  lemmas = keeps.lemmas;
  stage = subst (λ s. AtStage s (with_step d pair lemma)) (sym stands) proved;
}

keeps_wipe : (d : Draft) → Keeps d → IsTrue d.book d.lemmas d.begun → Keeps (with_wipe d)
keeps_wipe d keeps is = record {
  over = keeps.over;
  apart = keeps.apart;
  lemmas = λ l m. true_behind d.book d.lemmas (d.begun ∷ []) l (elim (Contains-push_cases d.lemmas d.begun l m) [
    | inl o ↦ keeps.lemmas l o
    | inr same ↦ subst (IsTrue d.book d.lemmas) same is
  ]);
  stage = true_behind d.book d.lemmas (d.begun ∷ []) d.begun is;
}

keeps_at : (d : Draft) (stage : Stage) → Keeps d → AtStage stage (at_stage d stage) → Keeps (at_stage d stage)
keeps_at d stage keeps is = record { over = keeps.over; apart = keeps.apart; lemmas = keeps.lemmas; stage = is }

-- every pair of a wiped variable was proved, so no solution has the lemma's pairs
wiped_true : (d : Draft) (x : ℕ) → AreProved d.book d.lemmas d.begun d.proved → x < length d.book.variables → ((IsReached d.book d.proved (Conflict x) → ⊥) → ⊥) → IsTrue d.book d.lemmas d.begun
wiped_true d x proved lt twice b solution has = twice (λ reached.
    proved.lacks b solution has (record { var = x; value = b x }) (reached (b x) (solution.within x (initial_declared d.book x lt))) refl)

-- the users of a lemma without pairs have no solution
users_refuted : (d : Draft) (used : List BookCon) → IsTrue d.book d.lemmas d.begun → AreUsed d.book d.lemmas d.begun used → ((d.begun.pairs ≡ [] → ⊥) → ⊥) → AreRefuted d.book (users_of used)
users_refuted d used is are free = record {
  none = λ b solution. free (λ none. is b
      (solves_fewer (initial_of d.book) (IsUsed d.book d.lemmas d.begun) (IsAmong d.book (users_of used)) b (λ c u. used_among d.book d.lemmas d.begun used c are u) solution)
      (λ p m. absurd (member_nil p (subst (λ ps. Contains ps p) none m))));
  listed = users_listed d.book d.lemmas d.begun used are;
}

-- a line without a cause leads to such a draft
keeps_leads : (d e : Draft) (line : List ℕ) (s : Statement ProofPhrase) → Keeps d → Says line s → IsNone (Meets d s) in_order → of_texts.Leads of_proofs d s e → Keeps e
keeps_leads d e line Comment keeps says none leads = subst Keeps (sym leads) keeps
keeps_leads d e line (Phrase Header) keeps says none leads =
    let no_lemma : d.lemmas ≡ [] = subst (λ s. AtStage s d) (settled (stage_known d.stage).0 none.0) keeps.stage in
    subst Keeps (sym leads) (keeps_at d Declaring keeps no_lemma)
keeps_leads d e line (Variable name domain) keeps says none leads =
    subst Keeps (sym leads) (keeps_variable d name (values_in domain) keeps (settled (stage_known d.stage).1 none.0))
keeps_leads d e line (Constraint name shape) keeps says none leads =
    let no_lemma = early_lemmas d.stage d none.0 keeps.stage in
    subst Keeps (sym leads.2) (keeps_constraint d name leads.0 keeps no_lemma (λ has. none.1.0 (inl has)) leads.1.declared)
keeps_leads d e line (Phrase (LemmaLine named)) keeps says none leads =
    let begun : Keeps (with_lemma d leads.0) = record {
      over = keeps.over;
      apart = keeps.apart;
      lemmas = keeps.lemmas;
      stage = record { declared = pairs_declared d.book.variables named leads.0 leads.1; lacks = λ b solution has p m f. member_nil p m };
    } in
    subst Keeps (sym leads.2) begun
keeps_leads d e line (Phrase (Step name value ground)) keeps says none leads =
    let stands = settled (stage_known d.stage).2 none.0 in
    let pair : Pair = leads.0 in
    let proved = proved_more d pair ground leads.1 keeps (subst (λ s. AtStage s d) stands keeps.stage) leads.2.variable.declared leads.3
    (earlier_reasons d ground says.2.1 none.1.1.1.0) (λ wrong. none.1.1.1.1.0 (pair, leads.2, wrong)) in
    subst Keeps (sym leads.4) (keeps_step d pair leads.1 keeps stands proved)
keeps_leads d e line (Phrase (Wipe name)) keeps says none leads =
    let proved : AreProved d.book d.lemmas d.begun d.proved = subst (λ s. AtStage s d) (settled (stage_known d.stage).2 none.0) keeps.stage in
    subst Keeps (sym leads) (keeps_wipe d keeps (λ b solution has. none.1.0 (λ known.
    let x = variable_with d.book.variables name known in
    wiped_true d x.0 proved x.1 (λ out. none.1.1.1.1.1.0 (x.0, record { declared = x.1; named = x.2 }, out)) b solution has)))
keeps_leads d e line (Phrase (Users names)) keeps says none leads =
    let is : IsTrue d.book d.lemmas d.begun = subst (λ s. AtStage s d) (settled (stage_known d.stage).3 none.0) keeps.stage in
    let refuted = users_refuted d leads.0 is leads.1 (λ bound. none.1.1.1.1.1.0 (λ are. bound are.free)) in
    subst Keeps (sym leads.2) (keeps_at d (Told (users_of leads.0)) keeps refuted)
keeps_leads d e line (Phrase End) keeps says none leads =
    subst Keeps (sym leads.2) (keeps_at d (Closed leads.0) keeps (subst (λ s. AtStage s d) leads.1 keeps.stage))

-- ---- the whole text

-- where a text is accepted the stage is closed
ended_closed : (stage : Stage) (book : Contents) (n : ℕ) (proved : Contents) (users : List Cid) → Accepted proved users ≡ ending stage book n → (stage ≡ Closed users) × (proved ≡ book)
ended_closed (Closed u) book n proved users e =
    let same : u ≡ users = cc in
    let is : proved ≡ book = cc in
    (ap (λ (us : List Cid). Closed us) same, is)
ended_closed _ book n proved users e = cc

judged_refuted : (lines : List (List ℕ)) (d : Draft) (n : ℕ) (book : Contents) (users : List Cid) → Keeps d → Judges proofs d n lines (Accepted book users) → AreRefuted book users
judged_refuted [] d n book users keeps j =
    let is = ended_closed d.stage d.book n book users j in
    subst (λ (c : Contents). AreRefuted c users) (sym is.1) (subst (λ s. AtStage s d) is.0 keeps.stage)
judged_refuted (line ∷ lines) d n book users keeps j = elim j [
  | inl r ↦ let e : Accepted book users ≡ Refused n r.0 = r.2 in cc
  | inr p ↦ judged_refuted lines p.0 (n + 1) book users (keeps_leads d p.0 line p.1.statement keeps p.1.says p.1.none p.1.leads) p.2
]

keeps_blank : Keeps blank
keeps_blank = record {
  over = λ c x m k. absurd (member_nil c m);
  apart = λ i j c below lt. absurd (omega (arith, lt));
  lemmas = λ l m. absurd (member_nil l m);
  stage = refl;
}

pub accepted_unsolved : (bytes : List ℕ) (book : Contents) (users : List Cid) (b : Assignment) → IsVerdict bytes (Accepted book users) → IsSolution (initial_of book) (IsAmong book users) b → ⊥
accepted_unsolved bytes book users b is = (judged_refuted is.lines blank 1 book users keeps_blank is.judged).none b

pub accepted_of_their_book : (bytes : List ℕ) (verdict : ProofVerdict) → IsVerdict bytes verdict → AreOfTheirBook verdict
accepted_of_their_book bytes (Accepted book users) is = (judged_refuted is.lines blank 1 book users keeps_blank is.judged).listed
accepted_of_their_book bytes (Refused line cause) is = tt
