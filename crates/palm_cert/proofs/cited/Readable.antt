-- Each line of a certificate says what was written.
use Rattle.std.proofs.Common.{◌≡◌, ℕ, ◌≤◌, List, [], ◌∷◌, ℤ, length, codes, All, Contains, refl, ap, ◌∙◌, subst, arith}
use Rattle.std.proofs.lemmas.List.Elements.{All-contains}
use Rattle.std.proofs.lemmas.List.Sums.{AllPass-from_list_all}
use Rattle.palm_base.specs.declared.terms.Pair.{Pair}
use Rattle.palm_base.proofs.cited.Members.{filter_member, member_same}
use Rattle.palm_book.specs.Book.{Contents, IsBook, active_of, initial_of, name_of, user_name, values_at}
use Rattle.palm_book.specs.declared.book.BookCon.{BookCon}
use Rattle.palm_book.proofs.cited.WellFormed.{named_near}
use Rattle.palm_claim.specs.Phrases.{header_of}
use Rattle.palm_claim.specs.Statement.{IsStepNumber, Says}
use Rattle.palm_claim.proofs.cited.Phrases.{header_spelled}
use Rattle.palm_claim.specs.declared.statement.CertificatePhrase.TheVariants.{End, Header, Step}
use Rattle.palm_claim.specs.declared.statement.Statement.TheVariants.{Phrase}
use Rattle.palm_claim.specs.declared.verdict.Claim.{Claim}
use Rattle.palm_claim.specs.declared.verdict.Claim.TheVariants.{Gone, Conflict}
use Rattle.palm_model.specs.Constraint.{IsWellFormed, scope}
use Rattle.palm_model.specs.Limits.{IsValue}
use Rattle.palm_model.specs.Log.{Active, Removal, log_pairs}
use Rattle.palm_model.specs.State.{EngineState, IsValid, present}
use Rattle.palm_model.specs.declared.constraint.Con.{Con}
use Rattle.palm_model.proofs.cited.Without.{length_without}
use Rattle.palm_read.specs.Bytes.{is_plain}
use Rattle.palm_read.specs.Name.{IsNameText}
use Rattle.palm_read.specs.Piece.{Keyword}
use Rattle.palm_read.specs.Token.{kind_at, lexeme_at, more_at, tokens_of}
use Rattle.palm_read.specs.Words.{spaced}
use Rattle.palm_read.proofs.cited.Layouts.{words_keyword, words_none, words_plain, words_spell}
use Rattle.palm_cert.specs.Certificate.{asked, claim_words, claimed, is_asked, numbers_of, step_words, steps_of}
use Rattle.palm_cert.specs.Needs.{CanClaim}
use Rattle.palm_cert.specs.Readable.{AreReadable, claim_statement}
use Rattle.palm_events.specs.Scoped.{HasScopedReasons}
use Rattle.palm_cert.proofs.cited.Declared.{are_values, name_text, named_read, variable_says}
use Rattle.palm_cert.proofs.cited.Earlier.{user_named}
use Rattle.palm_cert.proofs.cited.Lengths.{are_step_numbers, numbers_few, over_few, over_member, pairs_over, within_book}
use Rattle.palm_cert.proofs.cited.Links.{Apart, linked_apart, pair_logged, pair_removal}
use Rattle.palm_cert.proofs.cited.Logged.{as_long, owner_of, removed_has}
use Rattle.palm_cert.proofs.cited.Needed.{right_linked, steps_founded}
use Rattle.palm_cert.proofs.cited.Reached.{values_same}
use Rattle.palm_cert.proofs.cited.Saying.{conflict_claim_says, step_length, step_says, value_claim_says}

-- ---- the first and the last line

header_tokens : tokens_of (codes "palm-cert 1") ≡ header_of (codes "cert")
unfolding tokens_of kind_at more_at lexeme_at
header_tokens = refl

header_says : Says (codes "palm-cert 1") (Phrase Header)
header_says = (record { short = omega arith; says = refl; plain = AllPass-from_list_all is_plain (codes "palm-cert 1") refl }, header_spelled (codes "cert") (tokens_of (codes "palm-cert 1")) header_tokens, tt)

end_says : Says (codes "end") (Phrase End)
end_says =
    let words = words_keyword (codes "end") refl words_none in
    (record { short = omega arith; says = refl; plain = words_plain (codes "end" ∷ []) (Keyword (codes "end") ∷ []) words }, words_spell (codes "end" ∷ []) (Keyword (codes "end") ∷ []) words, tt)

-- ---- steps over the variables of a book

-- a pair of a value that its variable has in the book
pub pair_name : (book : Contents) → IsBook book → (p : Pair) → Contains (values_at book.variables p.var) p.value → IsNameText (name_of book.variables p.var)
pair_name book is p has = name_text book.variables p.var is.variable_names (within_book book.variables p.var p.value has)

pub pair_value : (book : Contents) → IsBook book → (p : Pair) → Contains (values_at book.variables p.var) p.value → IsValue p.value
pair_value book is p has =
    let are = are_values book.variables p.var is.values (within_book book.variables p.var p.value has) in
    All-contains IsValue (values_at book.variables p.var) p.value are.each has

-- steps that prove no pair twice, and of such pairs alone
module _ (book : Contents) (is : IsBook book) (steps : List Removal) (apart : Apart (log_pairs steps)) (declared : (p : Pair) → Contains (log_pairs steps) p → Contains (values_at book.variables p.var) p.value) where
  -- the numbers of reasons are step numbers
  pub reasons_numbered : (reasons : List Pair) → All IsStepNumber (numbers_of steps reasons)
  reasons_numbered reasons = are_step_numbers book.variables steps reasons is.few_variables is.values apart declared

  -- and few, where the reasons stand in the scope of a well-formed constraint
  pub reasons_few : (reasons : List Pair) (c : Con) → IsWellFormed (length book.variables) c → ((p : Pair) → Contains reasons p → Contains (scope c) p.var) → length (numbers_of steps reasons) ≤ 4096
  reasons_few reasons c formed over =
      let short = numbers_few steps reasons (pairs_over book.variables (scope c)) apart (λ p m reason. over_member book.variables (scope c) p (over p reason) (declared p m)) in
      omega (arith, short, formed.few, over_few book.variables (scope c) is.values)

  -- so the line of a step by such a constraint is no longer than a line may be
  pub step_short : (r : Removal) (by : List ℕ) (c : Con) → Contains (log_pairs steps) r.pair → IsNameText by → IsWellFormed (length book.variables) c → ((p : Pair) → Contains r.reasons p → Contains (scope c) p.var)
      → length (spaced (step_words book.variables r.pair by (numbers_of steps r.reasons))) ≤ 65536
  step_short r by c m text formed over =
      let has = declared r.pair m in
      omega (arith, step_length book.variables r.pair by (numbers_of steps r.reasons) (pair_name book is r.pair has) text (pair_value book is r.pair has) (reasons_numbered r.reasons), reasons_few r.reasons c formed over)

-- ---- the steps of a log

-- what an engine with the book's variables removed was declared
pub pair_declared : (s : EngineState) (book : Contents) → IsValid s → s.initial ≡ initial_of book → (p : Pair) → Contains (log_pairs s.log) p → Contains (values_at book.variables p.var) p.value
pair_declared s book valid initial p m =
    subst (λ (vs : List ℤ). Contains vs p.value) (values_same book.variables p.var) (removed_has s book valid initial p m)

module _ (s : EngineState) (valid : IsValid s) (pairs : List Pair) where
  pub step_logged : (r : Removal) → Contains (steps_of s.log pairs) r → Contains s.log r
  step_logged r m = (filter_member (λ (q : Removal). is_asked (asked s.log pairs) q.pair) s.log r m).0

  pub steps_apart : Apart (log_pairs (steps_of s.log pairs))
  steps_apart =
      let founded = steps_founded s.initial s.active s.log pairs valid.founded in
      linked_apart (steps_of s.log pairs) (right_linked s.initial s.active [] (steps_of s.log pairs) founded)

  pub steps_declared : (book : Contents) → s.initial ≡ initial_of book → (p : Pair) → Contains (log_pairs (steps_of s.log pairs)) p → Contains (values_at book.variables p.var) p.value
  steps_declared book initial p m =
      let r = pair_removal (steps_of s.log pairs) p m in
      pair_declared s book valid initial p (member_same (log_pairs s.log) r.0.pair p r.2 (pair_logged s.log r.0 (step_logged r.0 r.1)))

-- ---- the certificate of an engine with the book's constraints

module _ (s : EngineState) (book : Contents) (is : IsBook book) (valid : IsValid s) (initial : s.initial ≡ initial_of book) (active : s.active ≡ active_of book) where
  constraint_formed : (c : BookCon) → Contains book.constraints c → IsWellFormed (length book.variables) c.con
  constraint_formed c m = All-contains (λ (d : BookCon). IsWellFormed (length book.variables) d.con) book.constraints c is.formed m

  constraint_text : (c : BookCon) → Contains book.constraints c → IsNameText c.name
  constraint_text c m = All-contains (λ (d : BookCon). IsNameText d.name) book.constraints c is.constraint_names m

  module _ (scoped : HasScopedReasons s) (pairs : List Pair) where
    by_name : (r : Removal) → Contains (steps_of s.log pairs) r → IsNameText (user_name book.constraints r.by)
    by_name r m =
        let own = scoped r (step_logged s valid pairs r m) in
        let c = owner_of book own.owner (subst (λ (list : List Active). Contains list own.owner) active own.posted) in
        subst IsNameText (user_named book is c.0 c.1 r.by (ap (λ (a : Active). a.cid) c.2 ∙ own.named)) (constraint_text c.0 c.1)

    step_readable : (r : Removal) → Contains (steps_of s.log pairs) r → Says (spaced (step_words book.variables r.pair (user_name book.constraints r.by) (numbers_of (steps_of s.log pairs) r.reasons)))
        (Phrase (Step (name_of book.variables r.pair.var) r.pair.value (user_name book.constraints r.by) (numbers_of (steps_of s.log pairs) r.reasons)))
    step_readable r m =
        let steps = steps_of s.log pairs in
        let by = user_name book.constraints r.by in
        let apart = steps_apart s valid pairs in
        let declared = steps_declared s valid pairs book initial in
        let pair = pair_logged steps r m in
        let has = declared r.pair pair in
        let own = scoped r (step_logged s valid pairs r m) in
        let c = owner_of book own.owner (subst (λ (list : List Active). Contains list own.owner) active own.posted) in
        let formed : IsWellFormed (length book.variables) own.owner.con = subst (λ (a : Active). IsWellFormed (length book.variables) a.con) c.2 (constraint_formed c.0 c.1) in
        let short = step_short book is steps apart declared r by own.owner.con pair (by_name r m) formed (λ p k. (own.others p k).0) in
        step_says book.variables r.pair by (numbers_of steps r.reasons) (pair_name book is r.pair has) (by_name r m) (pair_value book is r.pair has) (reasons_numbered book is steps apart declared r.reasons) short

  claim_readable : (claim : Claim) → CanClaim s claim → Says (spaced (claim_words book.variables claim)) (claim_statement book.variables claim)
  claim_readable (Gone pair) can =
      let has = pair_declared s book valid initial pair can in
      value_claim_says book.variables pair (pair_name book is pair has) (pair_value book is pair has)
  claim_readable (Conflict x) can =
      let exists = can.exists in
      let many : length (present s) ≡ length book.variables = length_without s.initial (log_pairs s.log) ∙ as_long s.initial book initial in
      conflict_claim_says book.variables x (name_text book.variables x is.variable_names (omega (arith, exists, many)))

  lines_readable : (claim : Claim) → CanClaim s claim → HasScopedReasons s → AreReadable book (steps_of s.log (claimed book claim)) claim
  lines_readable claim can scoped = record {
    header = header_says;
    variable = variable_says book is;
    constraint = λ c m. named_read book.variables c.name c.con (constraint_text c m) is.variable_names is.different_variables (constraint_formed c m);
    near = λ c m. named_near book.variables c.name c.con (constraint_formed c m);
    step = step_readable scoped (claimed book claim);
    claims = claim_readable claim can;
    ends = end_says;
  }

pub readable : (s : EngineState) (book : Contents) (claim : Claim) → IsBook book → IsValid s → s.initial ≡ initial_of book → s.active ≡ active_of book
    → CanClaim s claim → HasScopedReasons s → AreReadable book (steps_of s.log (claimed book claim)) claim
readable s book claim is valid initial active can scoped = lines_readable s book is valid initial active claim can scoped
