-- The first lines of a proof lead to what it lists: the header, the variables and the active constraints.
use Rattle.std.proofs.Common.{◌≡◌, ◌≢◌, ℕ, ℤ, ◌+◌, ◌<◌, ◌≤◌, Bool, true, List, [], ◌∷◌, ◌++◌, length, flat_map, get_or, codes, Contains, inl, inr, refl, sym, ap, ◌∙◌, subst, append_assoc, append-nil, arith}
use Rattle.std.specs.List.{range_with_len}
use Rattle.std.proofs.lemmas.List.{length-append}
use Rattle.std.proofs.lemmas.List.Elements.{All-contains, Contains-append_right}
use Rattle.palm_base.proofs.cited.Members.{filter_member, member_here, member_map, member_unmap}
use Rattle.palm_model.specs.Constraint.{IsWellFormed}
use Rattle.palm_read.specs.Domain.{values_in}
use Rattle.palm_read.specs.Limits.{IsBeyond}
use Rattle.palm_read.specs.Name.{IsNameText}
use Rattle.palm_read.specs.Reading.{IsRead}
use Rattle.palm_read.specs.Text.{text_of}
use Rattle.palm_read.specs.declared.line.Line.TheVariants.{Add, Var}
use Rattle.palm_read.specs.declared.mode.Mode.TheVariants.{Two}
use Rattle.palm_book.specs.Book.{BookVar, Contents, HasConstraint, HasVariable, IsBook, name_of, values_at}
use Rattle.palm_book.specs.Named.{Resolves, named}
use Rattle.palm_book.specs.declared.book.BookCon.{BookCon}
use Rattle.palm_book.specs.declared.limits.TheConstants.{MOST_CONSTRAINTS}
use Rattle.palm_book.proofs.cited.Any.{member_any}
use Rattle.palm_book.proofs.cited.Naming.{named_plain}
use Rattle.palm_book.proofs.cited.Resolving.{known}
use Rattle.palm_book.proofs.cited.WellFormed.{named_near}
use Rattle.palm_claim.proofs.cited.Passing.{Reads, no_cause, plain_read, reads_line, reads_none, reads_then}
use Rattle.palm_cert.specs.Certificate.{added_line, declared_line}
use Rattle.palm_cert.specs.Readable.{IsDeclaredBy}
use Rattle.palm_cert.proofs.cited.Before.{Before, before_from, before_split, filter_shorter}
use Rattle.palm_cert.proofs.cited.Declared.{named_read, variable_says}
use Rattle.proof_text.specs.Draft.{Draft, MayFollow, MayList, blank, unproved}
use Rattle.proof_text.specs.Verdict.{Meets, proofs}
use Rattle.proof_text.specs.declared.statement.NamedPair.{NamedPair}
use Rattle.proof_text.specs.declared.statement.Stage.{Stage}
use Rattle.proof_text.specs.declared.statement.Stage.TheVariants.{Closed, Declaring, Listing, Reasoning, Told, Unopened, Wiped}
use Rattle.palm_claim.specs.declared.statement.Statement.TheVariants.{Constraint, Phrase, Variable}
use Rattle.proof_text.specs.declared.statement.ProofPhrase.TheVariants.{Header, Lemma}
use Rattle.proof_run.specs.Accepted.{as_listed, numbered_from}
use Rattle.proof_run.specs.Text.{declarations, header_line}
use Rattle.proof_run.proofs.Lines.{header_says}
use Rattle.proof_run.proofs.Own.{actives, before_actives, numbered_length, numbered_more, numbered_names}

-- ---- stages

-- where a constraint may stand, so may a lemma
pub may_argue : (stage : Stage) (pairs : List NamedPair) → MayList stage → MayFollow stage (Lemma pairs)
may_argue Unopened pairs may = may
may_argue Declaring pairs may = tt
may_argue Listing pairs may = tt
may_argue Reasoning pairs may = may
may_argue Wiped pairs may = tt
may_argue (Told users) pairs may = may
may_argue (Closed users) pairs may = may

-- ---- what was listed

-- these variables and constraints, and no lemma
abbrev pub listing : Stage → List BookVar → List BookCon → Draft
listing stage variables constraints =
    record { stage = stage; book = record { variables = variables; constraints = constraints }; lemmas = []; begun = unproved []; proved = [] }

header_reads : Reads proofs blank header_line (listing Declaring [] [])
header_reads =
    reads_line proofs blank (listing Declaring [] []) (codes "palm-proof 1") header_line refl header_says.0.plain
    (record { statement = Phrase Header; says = header_says; none = no_cause (Meets blank (Phrase Header)) (λ h. h refl) (λ h. h) (λ h. h) (λ h. h) (λ h. h) (λ h. h); leads = refl })

-- what stands behind the earlier variables
variable_at : (earlier : List BookVar) (e : BookVar) (later : List BookVar) (d : BookVar) → get_or (earlier ++ e ∷ later) (length earlier) d ≡ e
variable_at [] e later d = refl
variable_at (f ∷ earlier) e later d = variable_at earlier e later d

module _ (book : Contents) (is : IsBook book) where
  -- ---- variables

  -- the variable behind the earlier ones
  standing : (earlier : List BookVar) (e : BookVar) (later : List BookVar) (k : ℕ) → book.variables ≡ earlier ++ e ∷ later → k ≡ length earlier → record { name = name_of book.variables k; values = values_at book.variables k } ≡ e
  standing earlier e later k split place =
      let none : BookVar = record { name = []; values = [] } in
      ap (λ (n : ℕ). get_or book.variables n none) place ∙ ap (λ (es : List BookVar). get_or es (length earlier) none) split ∙ variable_at earlier e later none

  variable_new : (earlier : List BookVar) (e : BookVar) (later : List BookVar) (name : List ℕ) → book.variables ≡ earlier ++ e ∷ later → e.name ≡ name → HasVariable (listing Declaring earlier []).book name → ⊥
  variable_new earlier e later name split same has =
      let a = member_any (λ (f : BookVar). f.name ≡ name) earlier has in
      let differ = subst (Before (λ (f g : BookVar). f.name ≢ g.name)) split (before_from (λ (f g : BookVar). f.name ≢ g.name) book.variables is.different_variables) in
      before_split (λ (f g : BookVar). f.name ≢ g.name) earlier e later differ a.0 a.1 (a.2 ∙ sym same)

  variable_reads : (earlier : List BookVar) (e : BookVar) (later : List BookVar) (k : ℕ) (line : List ℕ) → book.variables ≡ earlier ++ e ∷ later → k ≡ length earlier → IsDeclaredBy book.variables k line
      → Reads proofs (listing Declaring earlier []) (declared_line book.variables k) (listing Declaring (earlier ++ e ∷ []) [])
  variable_reads earlier e later k line split place d =
      let name = name_of book.variables k in
      let at = standing earlier e later k split place in
      let build : List ℤ → BookVar = λ values. record { name = name; values = values } in
      let added : listing Declaring (earlier ++ e ∷ []) [] ≡ listing Declaring (earlier ++ build (values_in d.domain) ∷ []) [] =
      ap (λ (f : BookVar). listing Declaring (earlier ++ f ∷ []) []) (sym at ∙ ap build (sym d.values)) in
      reads_line proofs (listing Declaring earlier []) (listing Declaring (earlier ++ e ∷ []) []) line (declared_line book.variables k) d.ends
      (plain_read line (Var name d.domain) (λ s. cc) d.says).plain
      (record {
        statement = Variable name d.domain;
        says = d.says;
        none =
            no_cause (Meets (listing Declaring earlier []) (Variable name d.domain)) (λ h. h refl) (variable_new earlier e later name split (sym (ap (λ (f : BookVar). f.name) at)))
            (λ h. elim h [
              | inl far ↦ d.near far
              | inr full ↦ absurd (omega (arith, full, length-append earlier (e ∷ later), ap (λ (es : List BookVar). length es) split, is.few_variables))
            ]) (λ h. h) (λ h. h) (λ h. h);
        leads = added;
      })

  variables_read : (earlier later : List BookVar) (k : ℕ) → book.variables ≡ earlier ++ later → k ≡ length earlier
      → Reads proofs (listing Declaring earlier []) (flat_map (declared_line book.variables) (range_with_len k (length later))) (listing Declaring book.variables [])
  variables_read earlier [] k split place =
      reads_none proofs (listing Declaring earlier []) (listing Declaring book.variables []) (ap (λ (es : List BookVar). listing Declaring es []) (sym (split ∙ append-nil earlier)))
  variables_read earlier (e ∷ later) k split place =
      let within : k < length book.variables = omega (arith, place, length-append earlier (e ∷ later), ap (λ (es : List BookVar). length es) split) in
      let line = variable_says book is k within in
      let next : k + 1 ≡ length (earlier ++ e ∷ []) = omega (arith, place, length-append earlier (e ∷ [])) in
      reads_then proofs (listing Declaring earlier []) (listing Declaring (earlier ++ e ∷ []) []) (listing Declaring book.variables []) (declared_line book.variables k) (flat_map (declared_line book.variables) (range_with_len (k + 1) (length later)))
      (variable_reads earlier e later k line.0 split place line.1)
      (variables_read (earlier ++ e ∷ []) later (k + 1) (split ∙ sym (append_assoc earlier (e ∷ []) later)) next)

  -- ---- constraints

  -- behind these constraints, at the stage
  abbrev behind : Stage → List BookCon → Draft
  behind stage earlier = listing stage book.variables (numbered_from 1 earlier)

  constraint_new : (earlier : List BookCon) (c : BookCon) (later : List BookCon) → actives book ≡ earlier ++ c ∷ later → HasConstraint (behind Listing earlier).book c.name → ⊥
  constraint_new earlier c later split has =
      let a = member_any (λ (d : BookCon). d.name ≡ c.name) (numbered_from 1 earlier) has in
      let n = subst (λ (ns : List (List ℕ)). Contains ns a.0.name) (numbered_names 1 earlier) (member_map (λ (d : BookCon). d.name) (numbered_from 1 earlier) a.0 a.1) in
      let b = member_unmap (λ (d : BookCon). d.name) earlier a.0.name n in
      let differ = subst (Before (λ (x y : BookCon). x.name ≢ y.name)) split (before_actives book is) in
      before_split (λ (x y : BookCon). x.name ≢ y.name) earlier c later differ b.0 b.1 (b.2 ∙ a.2)

  constraint_room : (earlier : List BookCon) (c : BookCon) (later : List BookCon) → actives book ≡ earlier ++ c ∷ later → MOST_CONSTRAINTS ≤ length (numbered_from 1 earlier) → ⊥
  constraint_room earlier c later split full =
      absurd (omega (arith, full, numbered_length 1 earlier, length-append earlier (c ∷ later), ap (λ (cs : List BookCon). length cs) split, filter_shorter (λ (z : BookCon). z.active) book.constraints, is.few_constraints))

  module _ (c : BookCon) (m : Contains book.constraints c) where
    formed : IsWellFormed (length book.variables) c.con
    formed = All-contains (λ (d : BookCon). IsWellFormed (length book.variables) d.con) book.constraints c is.formed m

    -- the line of a constraint says it
    constraint_says : IsRead Two (text_of (Add c.name (named book.variables c.con))) (Add c.name (named book.variables c.con))
    constraint_says =
        named_read book.variables c.name c.con (All-contains (λ (d : BookCon). IsNameText d.name) book.constraints c is.constraint_names m) is.variable_names is.different_variables formed

    constraint_near : IsBeyond (Add c.name (named book.variables c.con)) → ⊥
    constraint_near = named_near book.variables c.name c.con formed

    says_itself : Resolves book.variables (named book.variables c.con) c.con
    says_itself = record { declared = formed.declared; says = sym (named_plain book.variables c.con) }

  -- an active constraint with another number
  listed_as : (c : BookCon) (k n : ℕ) → c.active ≡ true → k ≡ n → record c { number = k } ≡ record { number = n; name = c.name; active = true; con = c.con }
  listed_as c k n on same =
      ap (λ (j : ℕ). record c { number = j }) same
      ∙ ap (λ (b : Bool). let d : BookCon = record { number = n; name = c.name; active = b; con = c.con } in d) on

  constraint_added : (earlier : List BookCon) (c : BookCon) → c.active ≡ true
      → numbered_from 1 (earlier ++ c ∷ []) ≡ numbered_from 1 earlier ++ record { number = length (numbered_from 1 earlier) + 1; name = c.name; active = true; con = c.con } ∷ []
  constraint_added earlier c on =
      numbered_more 1 earlier c
      ∙ ap (λ (d : BookCon). numbered_from 1 earlier ++ d ∷ []) (listed_as c (length earlier + 1) (length (numbered_from 1 earlier) + 1) on (omega (arith, numbered_length 1 earlier)))

  constraint_reads : (stage : Stage) → MayList stage → (earlier : List BookCon) (c : BookCon) (later : List BookCon) → actives book ≡ earlier ++ c ∷ later
      → Reads proofs (behind stage earlier) (added_line book.variables c) (behind Listing (earlier ++ c ∷ []))
  constraint_reads stage may earlier c later split =
      let shape = named book.variables c.con in
      let f = filter_member (λ (z : BookCon). z.active) book.constraints c (subst (λ (cs : List BookCon). Contains cs c) (sym split) (Contains-append_right earlier (c ∷ later) c (member_here c later))) in
      reads_line proofs (behind stage earlier) (behind Listing (earlier ++ c ∷ [])) (text_of (Add c.name shape)) (added_line book.variables c) refl
      (plain_read (text_of (Add c.name shape)) (Add c.name shape) (λ e. cc) (constraint_says c f.0)).plain
      (record {
        statement = Constraint c.name shape;
        says = constraint_says c f.0;
        none =
            no_cause (Meets (behind stage earlier) (Constraint c.name shape)) (λ h. h may)
            (λ h. elim h [ inl has ↦ constraint_new earlier c later split has | inr unknown ↦ known book.variables shape c.con (says_itself c f.0) unknown ])
            (λ h. elim h [ inl far ↦ constraint_near c f.0 far | inr full ↦ constraint_room earlier c later split full ]) (λ h. h) (λ h. h) (λ h. h);
        leads = (c.con, says_itself c f.0, ap (listing Listing book.variables) (constraint_added earlier c f.1));
      })

  constraints_read : (stage : Stage) → MayList stage → (earlier later : List BookCon) → actives book ≡ earlier ++ later
      → (last : Stage) × MayList last × Reads proofs (behind stage earlier) (flat_map (added_line book.variables) later) (behind last (actives book))
  constraints_read stage may earlier [] split =
      (stage, may, reads_none proofs (behind stage earlier) (behind stage (actives book)) (ap (behind stage) (sym (split ∙ append-nil earlier))))
  constraints_read stage may earlier (c ∷ later) split =
      let rest = constraints_read Listing tt (earlier ++ c ∷ []) later (split ∙ sym (append_assoc earlier (c ∷ []) later)) in (
        rest.0,
        rest.1,
        reads_then proofs (behind stage earlier) (behind Listing (earlier ++ c ∷ [])) (behind rest.0 (actives book)) (added_line book.variables c) (flat_map (added_line book.variables) later)
            (constraint_reads stage may earlier c later split) rest.2,
      )

  -- ---- all of them

  -- the declarations lead to the book as it is listed
  pub listing_reads : (stage : Stage) × MayList stage × Reads proofs blank (declarations book) (listing stage (as_listed book).variables (as_listed book).constraints)
  listing_reads =
      let variables = flat_map (declared_line book.variables) (range_with_len 0 (length book.variables)) in
      let constraints = flat_map (added_line book.variables) (actives book) in
      let opened = reads_then proofs blank (listing Declaring [] []) (listing Declaring book.variables []) header_line variables header_reads (variables_read [] book.variables 0 refl refl) in
      let rest = constraints_read Declaring tt [] (actives book) refl in (
        rest.0,
        rest.1,
        reads_then proofs blank (listing Declaring book.variables []) (listing rest.0 book.variables (as_listed book).constraints) (header_line ++ variables) constraints opened rest.2,
      )
