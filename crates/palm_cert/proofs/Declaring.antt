-- The first lines of a certificate pass: the header, the variables and the constraints.
use Rattle.std.proofs.Common.{◌≡◌, ◌≢◌, ℕ, ℤ, ◌+◌, ◌<◌, ◌≤◌, true, List, [], ◌∷◌, ◌++◌, length, flat_map, codes, AllPairs, Contains, inl, inr, refl, sym, ap, ◌∙◌, subst, append_assoc, append-nil, arith}
use Rattle.std.proofs.lemmas.List.{length-append, length-map, map-append}
use Rattle.std.proofs.lemmas.List.Elements.{Contains-append_left, Contains-append_right, Contains-push, Contains-push_cases}
use Rattle.palm_base.proofs.cited.Members.{member_here, member_map, member_nil, member_unmap}
use Rattle.palm_book.specs.Book.{Contents, BookVar, HasConstraint, HasVariable, name_of}
use Rattle.palm_book.specs.Named.{named}
use Rattle.palm_book.specs.declared.book.BookCon.{BookCon}
use Rattle.palm_book.specs.declared.limits.TheConstants.{MOST_VARIABLES, MOST_CONSTRAINTS}
use Rattle.palm_book.proofs.cited.Any.{member_any}
use Rattle.palm_book.proofs.cited.Resolving.{known}
use Rattle.palm_claim.specs.Draft.{Draft, IsOpen, MayList, blank}
use Rattle.palm_claim.specs.Statement.{Says}
use Rattle.palm_claim.specs.Verdict.{Meets, certificates}
use Rattle.palm_claim.specs.declared.statement.Stage.{Stage}
use Rattle.palm_claim.specs.declared.statement.Stage.TheVariants.{Claimed, Closed, Declaring, Listing, Proving, Unopened}
use Rattle.palm_claim.specs.declared.statement.CertificatePhrase.TheVariants.{Header}
use Rattle.palm_claim.specs.declared.statement.Statement.TheVariants.{Constraint, Phrase, Variable}
use Rattle.palm_model.specs.Constraint.{scope}
use Rattle.palm_read.specs.declared.line.Line.TheVariants.{Add, Var}
use Rattle.palm_read.specs.declared.line.Shape.{Shape}
use Rattle.palm_read.specs.Domain.{values_in}
use Rattle.palm_read.specs.Limits.{IsBeyond}
use Rattle.palm_read.specs.Text.{text_of}
use Rattle.palm_cert.specs.Certificate.{added_line, declared_line, header_line}
use Rattle.palm_cert.specs.Moved.{moved}
use Rattle.palm_cert.specs.Readable.{IsDeclaredBy}
use Rattle.palm_cert.specs.SameClaim.{names_of_constraints, shapes_of}
use Rattle.palm_cert.proofs.cited.Before.{Before, before_from, before_split}
use Rattle.palm_claim.proofs.cited.Passing.{Reads, no_cause, plain_read, reads_line, reads_none, reads_then}
use Rattle.palm_cert.proofs.Moving.{named_moved}
use Rattle.palm_cert.proofs.Renumbering.{entries, entry, place_in, place_name, resolved}

-- the variables and constraints of a certificate: some of the book's, in its order, with all variables of the constraints
pub record AreDeclared (book : Contents) (us : List ℕ) (cs : List BookCon) : Type 0 where
  pub variables : (x : ℕ) → Contains us x → x < length book.variables
  pub rises : AllPairs (λ x y. x < y) us
  pub apart : AllPairs (λ e f. e.name ≢ f.name) book.variables
  pub few : length us ≤ MOST_VARIABLES
  pub constraints : (c : BookCon) → Contains cs c → Contains book.constraints c
  pub differ : Before (λ c d. c.name ≢ d.name) cs
  pub few_constraints : length cs ≤ MOST_CONSTRAINTS
  pub scopes : (c : BookCon) → Contains cs c → (x : ℕ) → Contains (scope c.con) x → Contains us x

-- ---- stages

-- where a constraint may stand, so may what follows
pub list_open : (stage : Stage) → MayList stage → IsOpen stage
list_open Unopened may = may
list_open Declaring may = tt
list_open Listing may = tt
list_open Proving may = tt
list_open (Claimed claim) may = may
list_open (Closed claim) may = may

-- ---- the header

header_reads : Says (codes "palm-cert 1") (Phrase Header) → Reads certificates blank header_line (record { stage = Declaring; book = record { variables = []; constraints = [] }; proved = [] })
header_reads says =
    reads_line certificates blank (record { stage = Declaring; book = record { variables = []; constraints = [] }; proved = [] }) (codes "palm-cert 1") header_line refl says.0.plain
    (record { statement = Phrase Header; says = says; none = no_cause (Meets blank (Phrase Header)) (λ h. h refl) (λ h. h) (λ h. h) (λ h. h) (λ h. h) (λ h. h); leads = refl })

module _ (book : Contents) (us : List ℕ) (cs : List BookCon) (are : AreDeclared book us cs) where
  -- ---- variables

  abbrev pub declaring : List ℕ → Draft
  declaring xs = record { stage = Declaring; book = record { variables = entries book.variables xs; constraints = [] }; proved = [] }

  -- a variable has another name than those before it
  variable_new : (earlier : List ℕ) (x : ℕ) (later : List ℕ) → us ≡ earlier ++ x ∷ later → HasVariable (declaring earlier).book (name_of book.variables x) → ⊥
  variable_new earlier x later split has =
      let a = member_any (λ (e : BookVar). e.name ≡ name_of book.variables x) (entries book.variables earlier) has in
      let y = member_unmap (entry book.variables) earlier a.0 a.1 in
      let here = subst (λ (zs : List ℕ). Contains zs x) (sym split) (Contains-append_right earlier (x ∷ later) x (member_here x later)) in
      let rises = subst (λ (zs : List ℕ). Before (λ (i j : ℕ). i < j) zs) split (before_from (λ (i j : ℕ). i < j) us are.rises) in
      let below = before_split (λ (i j : ℕ). i < j) earlier x later rises y.0 y.1 in
      are.apart y.0 x (record { name = []; values = [] }) below (are.variables x here) (ap (λ (e : BookVar). e.name) y.2 ∙ a.2)

  variable_room : (earlier : List ℕ) (x : ℕ) (later : List ℕ) → us ≡ earlier ++ x ∷ later → MOST_VARIABLES ≤ length (entries book.variables earlier) → ⊥
  variable_room earlier x later split full =
      absurd (omega (arith, full, length-map earlier (entry book.variables), length-append earlier (x ∷ later), ap (λ (zs : List ℕ). length zs) split, are.few))

  variable_added : (earlier : List ℕ) (x : ℕ) (line : List ℕ) (d : IsDeclaredBy book.variables x line) → entries book.variables (earlier ++ x ∷ []) ≡ entries book.variables earlier ++ record { name = name_of book.variables x; values = values_in d.domain } ∷ []
  variable_added earlier x line d =
      let build : List ℤ → BookVar = λ values. record { name = name_of book.variables x; values = values } in
      map-append (entry book.variables) earlier (x ∷ [])
      ∙ ap (λ (values : List ℤ). entries book.variables earlier ++ build values ∷ []) (sym d.values)

  variable_reads : (earlier : List ℕ) (x : ℕ) (later : List ℕ) (line : List ℕ) → us ≡ earlier ++ x ∷ later → IsDeclaredBy book.variables x line
      → Reads certificates (declaring earlier) (declared_line book.variables x) (declaring (earlier ++ x ∷ []))
  variable_reads earlier x later line split d =
      let build : List BookVar → Draft = λ es. record { stage = Declaring; book = record { variables = es; constraints = [] }; proved = [] } in
      reads_line certificates (declaring earlier) (declaring (earlier ++ x ∷ [])) line (declared_line book.variables x) d.ends
      (plain_read line (Var (name_of book.variables x) d.domain) (λ e. cc) d.says).plain
      (record {
        statement = Variable (name_of book.variables x) d.domain;
        says = d.says;
        none =
            no_cause (Meets (declaring earlier) (Variable (name_of book.variables x) d.domain)) (λ h. h refl) (variable_new earlier x later split)
            (λ h. elim h [ inl far ↦ d.near far | inr full ↦ variable_room earlier x later split full ]) (λ h. h) (λ h. h) (λ h. h);
        leads = ap build (variable_added earlier x line d);
      })

  variables_read : ((x : ℕ) → x < length book.variables → (line : List ℕ) × IsDeclaredBy book.variables x line) → (earlier later : List ℕ) → us ≡ earlier ++ later
      → Reads certificates (declaring earlier) (flat_map (declared_line book.variables) later) (declaring us)
  variables_read each earlier [] split = reads_none certificates (declaring earlier) (declaring us) (ap declaring (sym (split ∙ append-nil earlier)))
  variables_read each earlier (x ∷ later) split =
      let here = subst (λ (zs : List ℕ). Contains zs x) (sym split) (Contains-append_right earlier (x ∷ later) x (member_here x later)) in
      let line = each x (are.variables x here) in
      reads_then certificates (declaring earlier) (declaring (earlier ++ x ∷ [])) (declaring us) (declared_line book.variables x) (flat_map (declared_line book.variables) later)
      (variable_reads earlier x later line.0 split line.1)
      (variables_read each (earlier ++ x ∷ []) later (split ∙ sym (append_assoc earlier (x ∷ []) later)))

  -- ---- constraints

  -- behind these constraints, at the stage
  abbrev pub listing : Stage → List BookCon → Draft
  listing stage acc = record { stage = stage; book = record { variables = entries book.variables us; constraints = acc }; proved = [] }

  -- the certificate's constraints are those of the book under the same names, with the certificate's variables
  pub record Lists (earlier acc : List BookCon) : Type 0 where
    pub names : names_of_constraints acc ≡ names_of_constraints earlier
    pub shapes : shapes_of (entries book.variables us) acc ≡ shapes_of book.variables earlier
    pub each : (c : BookCon) → Contains earlier c → (d : BookCon) × Contains acc d × (d.name ≡ c.name) × (d.con ≡ moved (place_in us) c.con)

  lists_none : Lists [] []
  lists_none = record { names = refl; shapes = refl; each = λ c m. absurd (member_nil c m) }

  abbrev next : List BookCon → BookCon → List BookCon
  next acc c = acc ++ record { number = length acc + 1; name = c.name; active = true; con = moved (place_in us) c.con } ∷ []

  shape_kept : (c : BookCon) → Contains cs c → named (entries book.variables us) (moved (place_in us) c.con) ≡ named book.variables c.con
  shape_kept c m = named_moved book.variables (entries book.variables us) (place_in us) c.con (λ y over. place_name book.variables us y (are.scopes c m y over))

  lists_more : (earlier acc : List BookCon) (c : BookCon) → Contains cs c → Lists earlier acc → Lists (earlier ++ c ∷ []) (next acc c)
  lists_more earlier acc c m lists =
      let new : BookCon = record { number = length acc + 1; name = c.name; active = true; con = moved (place_in us) c.con } in
      record {
        names =
            map-append (λ (d : BookCon). d.name) acc (new ∷ []) ∙ ap (λ (ns : List (List ℕ)). ns ++ c.name ∷ []) lists.names
            ∙ sym (map-append (λ (d : BookCon). d.name) earlier (c ∷ []));
        shapes =
            map-append (λ (d : BookCon). named (entries book.variables us) d.con) acc (new ∷ [])
            ∙ ap (λ (s : Shape). shapes_of (entries book.variables us) acc ++ s ∷ []) (shape_kept c m)
            ∙ ap (λ (ss : List Shape). ss ++ named book.variables c.con ∷ []) lists.shapes
            ∙ sym (map-append (λ (d : BookCon). named book.variables d.con) earlier (c ∷ []));
        each = λ e k. elim (Contains-push_cases earlier c e k) [
          | inl i ↦ let r = lists.each e i in (r.0, Contains-append_left acc (new ∷ []) r.0 r.1, r.2, r.3)
          | inr s ↦ (new, Contains-push acc new, ap (λ (z : BookCon). z.name) s, ap (λ (z : BookCon). moved (place_in us) z.con) s)
        ];
      }

  constraint_new : (earlier : List BookCon) (c : BookCon) (later acc : List BookCon) → cs ≡ earlier ++ c ∷ later → Lists earlier acc → HasConstraint (listing Listing acc).book c.name → ⊥
  constraint_new earlier c later acc split lists has =
      let a = member_any (λ (d : BookCon). d.name ≡ c.name) acc has in
      let n = subst (λ (ns : List (List ℕ)). Contains ns a.0.name) lists.names (member_map (λ (d : BookCon). d.name) acc a.0 a.1) in
      let b = member_unmap (λ (d : BookCon). d.name) earlier a.0.name n in
      before_split (λ (d e : BookCon). d.name ≢ e.name) earlier c later (subst (λ (l : List BookCon). Before (λ (d e : BookCon). d.name ≢ e.name) l) split are.differ) b.0 b.1 (b.2 ∙ a.2)

  constraint_room : (earlier : List BookCon) (c : BookCon) (later acc : List BookCon) → cs ≡ earlier ++ c ∷ later → Lists earlier acc → MOST_CONSTRAINTS ≤ length acc → ⊥
  constraint_room earlier c later acc split lists full =
      let name : BookCon → List ℕ = λ d. d.name in
      let same = ap (λ (ns : List (List ℕ)). length ns) lists.names in
      absurd (omega (arith, full, same, length-map acc name, length-map earlier name, length-append earlier (c ∷ later), ap (λ (l : List BookCon). length l) split, are.few_constraints))

  constraint_reads : (stage : Stage) → MayList stage → (earlier : List BookCon) (c : BookCon) (later acc : List BookCon) → cs ≡ earlier ++ c ∷ later → Contains cs c → Lists earlier acc
      → Says (text_of (Add c.name (named book.variables c.con))) (Constraint c.name (named book.variables c.con)) → (IsBeyond (Add c.name (named book.variables c.con)) → ⊥)
      → Reads certificates (listing stage acc) (added_line book.variables c) (listing Listing (next acc c))
  constraint_reads stage may earlier c later acc split m lists says near =
      let shape = named book.variables c.con in
      let says_what = resolved book.variables us c.con (are.scopes c m) in
      reads_line certificates (listing stage acc) (listing Listing (next acc c)) (text_of (Add c.name shape)) (added_line book.variables c) refl
      (plain_read (text_of (Add c.name shape)) (Add c.name shape) (λ e. cc) says).plain
      (record {
        statement = Constraint c.name shape;
        says = says;
        none =
            no_cause (Meets (listing stage acc) (Constraint c.name shape)) (λ h. h may)
            (λ h. elim h [ inl has ↦ constraint_new earlier c later acc split lists has | inr unknown ↦ known (entries book.variables us) shape (moved (place_in us) c.con) says_what unknown ])
            (λ h. elim h [ inl far ↦ near far | inr full ↦ constraint_room earlier c later acc split lists full ]) (λ h. h) (λ h. h) (λ h. h);
        leads = (moved (place_in us) c.con, says_what, refl);
      })

  -- the constraints were read, up to a stage at which more might follow
  pub record HaveRead (d : Draft) (text : List ℕ) : Type 0 where
    pub stage : Stage
    pub may : MayList stage
    pub acc : List BookCon
    pub lists : Lists cs acc
    pub reads : Reads certificates d text (listing stage acc)

  module _ (says : (c : BookCon) → Contains book.constraints c → Says (text_of (Add c.name (named book.variables c.con))) (Constraint c.name (named book.variables c.con)))
      (near : (c : BookCon) → Contains book.constraints c → IsBeyond (Add c.name (named book.variables c.con)) → ⊥) where
    constraints_read : (stage : Stage) → MayList stage → (earlier later acc : List BookCon) → cs ≡ earlier ++ later → Lists earlier acc → HaveRead (listing stage acc) (flat_map (added_line book.variables) later)
    constraints_read stage may earlier [] acc split lists = record {
      stage = stage;
      may = may;
      acc = acc;
      lists = subst (λ (l : List BookCon). Lists l acc) (sym (split ∙ append-nil earlier)) lists;
      reads = reads_none certificates (listing stage acc) (listing stage acc) refl;
    }
    constraints_read stage may earlier (c ∷ later) acc split lists =
        let m = subst (λ (l : List BookCon). Contains l c) (sym split) (Contains-append_right earlier (c ∷ later) c (member_here c later)) in
        let k = are.constraints c m in
        let first = constraint_reads stage may earlier c later acc split m lists (says c k) (near c k) in
        let rest = constraints_read Listing tt (earlier ++ c ∷ []) later (next acc c) (split ∙ sym (append_assoc earlier (c ∷ []) later)) (lists_more earlier acc c m lists) in
        record {
          stage = rest.stage;
          may = rest.may;
          acc = rest.acc;
          lists = rest.lists;
          reads = reads_then certificates (listing stage acc) (listing Listing (next acc c)) (listing rest.stage rest.acc) (added_line book.variables c) (flat_map (added_line book.variables) later) first rest.reads;
        }

    -- the header, the variables and the constraints
    pub declarations_read : Says (codes "palm-cert 1") (Phrase Header) → ((x : ℕ) → x < length book.variables → (line : List ℕ) × IsDeclaredBy book.variables x line)
        → HaveRead blank (header_line ++ flat_map (declared_line book.variables) us ++ flat_map (added_line book.variables) cs)
    declarations_read header each =
        let first = header_line ++ flat_map (declared_line book.variables) us in
        let opened = reads_then certificates blank (declaring []) (declaring us) header_line (flat_map (declared_line book.variables) us) (header_reads header) (variables_read each [] us refl) in
        let rest = constraints_read Declaring tt [] cs [] refl lists_none in
        record {
          stage = rest.stage;
          may = rest.may;
          acc = rest.acc;
          lists = rest.lists;
          reads = reads_then certificates blank (declaring us) (listing rest.stage rest.acc) first (flat_map (added_line book.variables) cs) opened rest.reads;
        }
