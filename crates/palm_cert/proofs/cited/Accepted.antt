-- The certificate of a claim is accepted, where each of its lines says what was written.
use Rattle.std.proofs.Common.{◌≡◌, ◌≢◌, ℕ, ◌<◌, ◌≤◌, List, [], ◌∷◌, ◌++◌, length, flat_map, nat_eq, eq-eqb, All, Contains, refl, sym, ap, subst, append_assoc, true, arith}
use Rattle.std.specs.List.{list_any, range_with_len}
use Rattle.std.proofs.lemmas.Bool.{or_left, or_right}
use Rattle.std.proofs.lemmas.List.Elements.{All-contains, Contains-append_right}
use Rattle.std.proofs.lemmas.List.Folds.{list_any-from_Any}
use Rattle.std.proofs.lemmas.List.FromFn.{length-range_with_len}
use Rattle.std.proofs.lemmas.List.Kept.{AllPairs-filter}
use Rattle.palm_base.specs.declared.terms.Pair.{Pair}
use Rattle.palm_base.specs.declared.terms.Cid.{Cid}
use Rattle.palm_base.specs.declared.terms.Cid.TheVariants.{User}
use Rattle.palm_base.proofs.cited.Members.{filter_member, member_filter, member_here}
use Rattle.palm_book.specs.Book.{Contents, IsBook, active_of, initial_of}
use Rattle.palm_book.specs.declared.book.BookCon.{BookCon}
use Rattle.palm_book.proofs.cited.Any.{any_member}
use Rattle.palm_claim.specs.Draft.{blank}
use Rattle.palm_claim.specs.Step.{pairs_at}
use Rattle.palm_claim.specs.Claim.{IsOver}
use Rattle.palm_claim.specs.Verdict.{certificates}
use Rattle.palm_claim.specs.declared.statement.Stage.TheVariants.{Closed}
use Rattle.palm_claim.specs.declared.verdict.Claim.{Claim}
use Rattle.palm_claim.specs.declared.verdict.Claim.TheVariants.{Conflict, Gone}
use Rattle.palm_claim.specs.declared.statement.CertificatePhrase.TheVariants.{ConflictClaim, ValueClaim}
use Rattle.palm_claim.specs.declared.statement.Statement.TheVariants.{Phrase}
use Rattle.palm_claim.specs.declared.verdict.Verdict.TheVariants.{Accepted}
use Rattle.palm_base.proofs.cited.CidOrder.{same_cid_itself}
use Rattle.palm_lang.specs.Reply.{fixed_text}
use Rattle.palm_lang.specs.declared.reply.Fixed.TheVariants.{End}
use Rattle.palm_model.specs.Constraint.{IsWellFormed, scope}
use Rattle.palm_model.specs.Domains.{without}
use Rattle.palm_base.specs.Order.{same_cid}
use Rattle.palm_model.specs.Log.{Removal, log_pairs}
use Rattle.palm_model.specs.State.{EngineState, IsValid, is_over}
use Rattle.palm_model.specs.Support.{LacksSupport}
use Rattle.palm_cert.specs.Certificate.{certificate_text, cited, claim_line, claim_var, claimed, declarations, is_cited, is_used, numbers_of, proof_lines, step_line, steps_of, used}
use Rattle.palm_cert.specs.Needs.{CanClaim}
use Rattle.palm_cert.specs.Readable.{AreReadable, claim_statement}
use Rattle.palm_cert.specs.Accepted.{IsAccepted}
use Rattle.palm_cert.specs.SameClaim.{IsSameClaim}
use Rattle.palm_cert.proofs.cited.Before.{before_from, filter_shorter, range_has, range_rises, range_within}
use Rattle.palm_cert.proofs.Declaring.{AreDeclared, Lists, declarations_read, list_open}
use Rattle.palm_cert.proofs.cited.Earlier.{owner_named, step_declared, step_owner, steps_numbered}
use Rattle.palm_cert.proofs.cited.Logged.{claim_declared, removed_has}
use Rattle.palm_cert.proofs.Proving.{IsClaimed, IsStep, claim_reads, other_claim, own, proved_by, proving, steps_read}
use Rattle.palm_cert.proofs.cited.Reached.{claim_reached}
use Rattle.palm_claim.proofs.cited.Passing.{Reads, reads_then, reads_verdict}
use Rattle.palm_cert.proofs.Renumbering.{entry_member, place_declared, place_name}

-- ---- the variables and constraints

module _ (book : Contents) (is : IsBook book) (steps : List Removal) (x : ℕ) where
  abbrev cs : List BookCon
  cs = cited steps book

  abbrev numbers : List ℕ
  numbers = range_with_len 0 (length book.variables)

  abbrev us : List ℕ
  us = used cs x book

  used_within : (y : ℕ) → Contains us y → y < length book.variables
  used_within y m =
      let within = range_within 0 (length book.variables) y (filter_member (is_used cs x) numbers y m).0 in
      omega (arith, within)

  over_used : (c : BookCon) → Contains cs c → (y : ℕ) → Contains (scope c.con) y → Contains us y
  over_used c m y over =
      let formed = All-contains (λ (d : BookCon). IsWellFormed (length book.variables) d.con) book.constraints c is.formed (filter_member (is_cited steps) book.constraints c m).0 in
      let lt = All-contains (λ (z : ℕ). z < length book.variables) (scope c.con) y formed.declared over in
      let here : is_over c.con y ≡ true = list_any-from_Any (λ (z : ℕ). nat_eq z y) (scope c.con) (any_member (λ (z : ℕ). nat_eq z y ≡ true) (scope c.con) y over (eq-eqb y y refl)) in
      let any : list_any (λ (d : BookCon). is_over d.con y) cs ≡ true = list_any-from_Any (λ (d : BookCon). is_over d.con y) cs (any_member (λ (d : BookCon). is_over d.con y ≡ true) cs c m here) in
      member_filter (is_used cs x) numbers y (range_has (length book.variables) y lt) (or_right (nat_eq x y) (list_any (λ (d : BookCon). is_over d.con y) cs) any)

  pub claimed_used : x < length book.variables → Contains us x
  claimed_used lt =
      member_filter (is_used cs x) numbers x (range_has (length book.variables) x lt) (or_left (nat_eq x x) (list_any (λ (d : BookCon). is_over d.con x) cs) (eq-eqb x x refl))

  pub are_declared : AreDeclared book us cs
  are_declared = record {
    variables = used_within;
    rises = AllPairs-filter (λ (i j : ℕ). i < j) (is_used cs x) numbers (range_rises (length book.variables));
    apart = is.different_variables;
    few = omega (arith, filter_shorter (is_used cs x) numbers, length-range_with_len 0 (length book.variables), is.few_variables);
    constraints = λ c m. (filter_member (is_cited steps) book.constraints c m).0;
    differ = before_from (λ (c d : BookCon). c.name ≢ d.name) cs (AllPairs-filter (λ (c d : BookCon). c.name ≢ d.name) (is_cited steps) book.constraints is.different_constraints);
    few_constraints = omega (arith, filter_shorter (is_cited steps) book.constraints, is.few_constraints);
    scopes = over_used;
  }

-- ---- the steps

module _ (s : EngineState) (book : Contents) (is : IsBook book) (valid : IsValid s) (initial : s.initial ≡ initial_of book) (active : s.active ≡ active_of book) (pairs : List Pair) where
  abbrev steps : List Removal
  steps = steps_of s.log pairs

  cites : (c : BookCon) (r : Removal) → Contains steps r → User c.number ≡ r.by → is_cited steps c ≡ true
  cites c r m by =
      list_any-from_Any (λ (z : Removal). same_cid z.by (User c.number)) steps
      (any_member (λ (z : Removal). same_cid z.by (User c.number) ≡ true) steps r m
      (subst (λ (cid : Cid). same_cid cid (User c.number) ≡ true) by (same_cid_itself (User c.number))))

  pub step_is : (earlier : List Removal) (r : Removal) (later : List Removal) → steps ≡ earlier ++ r ∷ later → IsStep book (cited steps book) earlier r (numbers_of steps r.reasons)
  step_is earlier r later split =
      let o = step_owner s book is valid initial active pairs earlier r later split in
      let m = subst (λ (l : List Removal). Contains l r) (sym split) (Contains-append_right earlier (r ∷ later) r (member_here r later)) in
      record {
        owner = o.owner;
        among = member_filter (is_cited steps) book.constraints o.owner o.listed (cites o.owner r m o.by);
        named = owner_named s book is valid initial active pairs earlier r later split o;
        below =
            subst (λ (l : List Removal). All (λ k. (1 ≤ k) × (k ≤ length earlier)) (numbers_of l r.reasons)) (sym split)
            (steps_numbered s book is valid initial active pairs earlier r later split);
        declared = step_declared s book is valid initial active pairs earlier r later split;
        lacks =
            subst (λ (l : List Removal). LacksSupport (without (initial_of book) (pairs_at (log_pairs earlier) (numbers_of l r.reasons))) o.owner.con r.pair.var r.pair.value) (sym split) o.lacks;
      }

-- ---- the verdict

module _ (book : Contents) (us : List ℕ) (cs acc : List BookCon) (are : AreDeclared book us cs) (lists : Lists book us cs are cs acc) where
  -- what a draft with these variables and constraints claims at its end
  pub same_claim : (claim : Claim) → Contains us (claim_var claim) → IsSameClaim book cs claim (record { claim = other_claim book us cs acc are lists claim; book = own book us cs acc are lists })
  same_claim claim used = record {
    claims = claims claim used;
    over = over claim used;
    variables = entry_member book.variables us are.variables;
    names = lists.names;
    shapes = lists.shapes;
  }
    where
      claims : (claim : Claim) → Contains us (claim_var claim) → claim_statement (own book us cs acc are lists).variables (other_claim book us cs acc are lists claim) ≡ claim_statement book.variables claim
      claims (Gone pair) used = ap (λ (name : List ℕ). Phrase (ValueClaim name pair.value)) (place_name book.variables us pair.var used)
      claims (Conflict x) used = ap (λ (name : List ℕ). Phrase (ConflictClaim name)) (place_name book.variables us x used)

      over : (claim : Claim) → Contains us (claim_var claim) → IsOver (own book us cs acc are lists) (other_claim book us cs acc are lists claim)
      over (Gone pair) used = place_declared book.variables us pair.var used
      over (Conflict x) used = place_declared book.variables us x used

-- a claimed pair was declared
claimable : (s : EngineState) (book : Contents) → IsValid s → s.initial ≡ initial_of book → (claim : Claim) → CanClaim s claim → IsClaimed book claim
claimable s book valid initial (Gone pair) can = removed_has s book valid initial pair can
claimable s book valid initial (Conflict x) can = tt

pub certificate_accepted : (s : EngineState) (book : Contents) (claim : Claim) → IsBook book → IsValid s → s.initial ≡ initial_of book → s.active ≡ active_of book
    → CanClaim s claim → AreReadable book (steps_of s.log (claimed book claim)) claim
    → IsAccepted book s.log claim (certificate_text book s.log claim)
certificate_accepted s book claim is valid initial active can read =
    let steps = steps_of s.log (claimed book claim) in
    let x = claim_var claim in
    let cs = cited steps book in
    let us = used cs x book in
    let are = are_declared book is steps x in
    let used = claimed_used book is steps x (claim_declared s book valid initial active claim can) in
    let first = declarations_read book us cs are read.constraint read.near read.header read.variable in
    let acc = first.acc in
    let lists = first.lists in
    let second = steps_read book us cs acc are lists steps (step_is s book is valid initial active (claimed book claim)) read.step first.stage (list_open first.stage first.may) in
    let third = claim_reads book us cs acc are lists steps second.stage second.ready claim used (claimable s book valid initial claim can) (claim_reached s book claim valid initial can) read.claims read.ends in
    let mine = other_claim book us cs acc are lists claim in
    let start = proving book us cs acc are lists first.stage [] in
    let proved = proved_by book us cs acc are lists steps in
    let middle = proving book us cs acc are lists second.stage proved in
    let end = proving book us cs acc are lists (Closed mine) proved in
    let listed = flat_map (step_line book steps) steps in
    let claims = claim_line book.variables claim in
    let rest = subst (λ (t : List ℕ). Reads certificates start t end) (sym (append_assoc listed claims (fixed_text End))) (reads_then certificates start middle end listed (claims ++ fixed_text End) second.reads third) in
    let whole = reads_then certificates blank start end (declarations book cs x) (proof_lines book steps claim) first.reads rest in
    record {
      proved = record { claim = mine; book = own book us cs acc are lists };
      verdict = reads_verdict certificates blank (certificate_text book s.log claim) end (Accepted (record { claim = mine; book = own book us cs acc are lists })) (λ n. refl) whole;
      same = same_claim book us cs acc are lists claim used;
    }
