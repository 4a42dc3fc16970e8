-- The last lines of a certificate pass: the steps, the claim and the end.
use Rattle.std.proofs.Common.{◌≡◌, ◌≢◌, ℕ, ℤ, pos, ◌-◌, ◌<◌, ◌≤◌, List, [], ◌∷◌, ◌++◌, length, map, flat_map, codes, All, AllPairs, Any, Contains, inl, inr, refl, sym, ap, ◌∙◌, subst, append_assoc, append-nil, arith}
use Rattle.std.proofs.lemmas.List.{get_or-map, length-map, map-append}
use Rattle.std.proofs.lemmas.List.Elements.{All-contains, Contains-append_right}
use Rattle.palm_base.specs.declared.terms.Pair.{Pair}
use Rattle.palm_base.proofs.cited.Members.{member_here, member_map, member_same, member_unmap}
use Rattle.palm_book.specs.Book.{Contents, BookVar, HasConstraint, HasVariable, initial_of, name_of, user_name}
use Rattle.palm_book.specs.declared.book.BookCon.{BookCon}
use Rattle.palm_book.proofs.cited.Any.{any_member, member_any}
use Rattle.palm_claim.specs.Draft.{Draft, IsOpen}
use Rattle.palm_book.specs.Named.{IsDeclared, IsPair, IsVariable}
use Rattle.palm_claim.specs.Statement.{Says}
use Rattle.palm_claim.specs.Verdict.{Meets, certificates}
use Rattle.palm_claim.specs.Step.{IsReached, IsRight, pair_at, pairs_at}
use Rattle.palm_claim.specs.declared.statement.Stage.{Stage}
use Rattle.palm_claim.specs.declared.statement.Stage.TheVariants.{Claimed, Closed, Proving}
use Rattle.palm_claim.specs.declared.statement.CertificatePhrase.TheVariants.{ConflictClaim, End, Step, ValueClaim}
use Rattle.palm_claim.specs.declared.statement.Statement.TheVariants.{Phrase}
use Rattle.palm_claim.specs.declared.verdict.Claim.{Claim}
use Rattle.palm_claim.specs.declared.verdict.Claim.TheVariants.{Conflict, Gone}
use Rattle.palm_book.proofs.cited.Pairs.{pair_is, variable_is}
use Rattle.palm_lang.specs.Reply.{ended, fixed_text}
use Rattle.palm_lang.specs.declared.reply.Fixed.TheVariants.{End as EndText}
use Rattle.palm_model.specs.Domains.{Has, values_of, without}
use Rattle.palm_model.specs.Log.{Removal, log_pairs}
use Rattle.palm_model.specs.Support.{LacksSupport}
use Rattle.palm_model.specs.declared.constraint.Con.{Con}
use Rattle.palm_model.proofs.cited.Formed.{part_scope}
use Rattle.palm_model.proofs.cited.Without.{has_without, pair_of, without_has}
use Rattle.palm_read.specs.Words.{spaced}
use Rattle.palm_cert.specs.Certificate.{claim_line, claim_var, claim_words, numbers_of, step_line, step_words}
use Rattle.palm_cert.specs.Moved.{moved}
use Rattle.palm_cert.specs.Readable.{claim_statement}
use Rattle.palm_cert.proofs.Declaring.{AreDeclared, Lists}
use Rattle.palm_cert.proofs.Moving.{lacks_moved}
use Rattle.palm_cert.proofs.cited.Reached.{values_same}
use Rattle.palm_claim.proofs.cited.Passing.{Reads, no_cause, reads_line, reads_none, reads_then}
use Rattle.palm_cert.proofs.Renumbering.{entries, entries_apart, entry, place_declared, place_in, place_member, place_name, place_values}

-- a step, and the constraint of the certificate in which its pair lacks support behind the earlier steps
pub record IsStep (book : Contents) (cs : List BookCon) (earlier : List Removal) (r : Removal) (numbers : List ℕ) : Type 0 where
  pub owner : BookCon
  pub among : Contains cs owner
  pub named : owner.name ≡ user_name book.constraints r.by
  pub below : All (λ k. (1 ≤ k) × (k ≤ length earlier)) numbers
  pub declared : Has (initial_of book) r.pair.var r.pair.value
  pub lacks : LacksSupport (without (initial_of book) (pairs_at (log_pairs earlier) numbers)) owner.con r.pair.var r.pair.value

-- a claimed pair was declared
abbrev pub IsClaimed : Contents → Claim → Type 0
IsClaimed book (Gone pair) = Has (initial_of book) pair.var pair.value
IsClaimed book (Conflict x) = Unit {0}

module _ (book : Contents) (us : List ℕ) (cs acc : List BookCon) (are : AreDeclared book us cs) (lists : Lists book us cs are cs acc) where
  abbrev pub other : ℕ → ℕ
  other x = place_in us x

  abbrev pub other_pair : Pair → Pair
  other_pair p = record { var = other p.var; value = p.value }

  abbrev pub other_claim : Claim → Claim
  other_claim (Gone pair) = Gone (other_pair pair)
  other_claim (Conflict x) = Conflict (other x)

  -- the pairs that the steps have proved, by the certificate's numbers
  abbrev pub proved_by : List Removal → List Pair
  proved_by steps = map other_pair (log_pairs steps)

  -- the certificate's book, and the draft behind some steps
  abbrev pub own : Contents
  own = record { variables = entries book.variables us; constraints = acc }

  abbrev pub proving : Stage → List Pair → Draft
  proving stage proved = record { stage = stage; book = own; proved = proved }

  apart : AllPairs (λ (e f : BookVar). e.name ≢ f.name) own.variables
  apart = entries_apart book.variables us are.variables are.rises are.apart

  -- ---- variables

  own_values : (x : ℕ) → Contains us x → values_of (initial_of own) (other x) ≡ values_of (initial_of book) x
  own_values x m = values_same own.variables (other x) ∙ place_values book.variables us x m ∙ sym (values_same book.variables x)

  own_has : (x : ℕ) (v : ℤ) → Contains us x → Has (initial_of own) (other x) v → Has (initial_of book) x v
  own_has x v m has = subst (λ (vs : List ℤ). Contains vs v) (own_values x m) has

  own_variable : (x : ℕ) → Contains us x → IsVariable own.variables (name_of book.variables x) (other x)
  own_variable x m = record { declared = place_declared book.variables us x m; named = place_name book.variables us x m }

  own_pair : (p : Pair) → Contains us p.var → IsPair own.variables (name_of book.variables p.var) p.value (other_pair p)
  own_pair p m = record { variable = own_variable p.var m; gives = refl }

  own_declared : (p : Pair) → Contains us p.var → Has (initial_of book) p.var p.value → IsDeclared own.variables (name_of book.variables p.var) p.value
  own_declared p m has =
      any_member (λ (e : BookVar). (e.name ≡ name_of book.variables p.var) × Contains e.values p.value) own.variables (entry book.variables p.var) (place_member book.variables us p.var m)
      (refl, subst (λ (vs : List ℤ). Contains vs p.value) (values_same book.variables p.var) has)

  own_named : (x : ℕ) → Contains us x → HasVariable own (name_of book.variables x)
  own_named x m = any_member (λ (e : BookVar). e.name ≡ name_of book.variables x) own.variables (entry book.variables x) (place_member book.variables us x m) refl

  -- ---- a step

  -- the pair of an earlier step's number
  own_reason : (proved : List Pair) (numbers : List ℕ) (p : Pair) → All (λ k. (1 ≤ k) × (k ≤ length proved)) numbers → Contains (pairs_at proved numbers) p → Contains (pairs_at (map other_pair proved) numbers) (other_pair p)
  own_reason proved numbers p below m =
      let k = member_unmap (pair_at proved) numbers p m in
      let b = All-contains (λ (i : ℕ). (1 ≤ i) × (i ≤ length proved)) numbers k.0 below k.1 in
      let lt : k.0 - 1 < length proved = omega (arith, b.0, b.1) in
      let at : pair_at (map other_pair proved) k.0 ≡ other_pair (pair_at proved k.0) = get_or-map other_pair proved (k.0 - 1) (record { var = 0; value = pos 0 }) (record { var = 0; value = pos 0 }) lt in
      member_same (pairs_at (map other_pair proved) numbers) (pair_at (map other_pair proved) k.0) (other_pair p) (at ∙ ap other_pair k.2)
      (member_map (pair_at (map other_pair proved)) numbers k.0 k.1)

  own_lacks : (proved : List Pair) (numbers : List ℕ) (c : BookCon) (p : Pair) → Contains cs c → All (λ k. (1 ≤ k) × (k ≤ length proved)) numbers
      → LacksSupport (without (initial_of book) (pairs_at proved numbers)) c.con p.var p.value
      → LacksSupport (without (initial_of own) (pairs_at (map other_pair proved) numbers)) (moved other c.con) (other p.var) p.value
  own_lacks proved numbers c p m below lacks =
      let reasons = pairs_at proved numbers in
      let others = pairs_at (map other_pair proved) numbers in
      lacks_moved other (without (initial_of book) reasons) (without (initial_of own) others) c.con p.var p.value
      (λ y w over has.
      let left = without_has (initial_of own) others (other y) w has in
      has_without (initial_of book) reasons y w (own_has y w (are.scopes c m y over) left.0) (λ k. left.1 (own_reason proved numbers (pair_of y w) below k)))
      lacks

  module _ (earlier : List Removal) (r : Removal) (numbers : List ℕ) (is : IsStep book cs earlier r numbers) where
    step_below : All (λ k. (1 ≤ k) × (k ≤ length (log_pairs earlier))) numbers
    step_below = subst (λ (n : ℕ). All (λ k. (1 ≤ k) × (k ≤ n)) numbers) (sym (length-map earlier (λ (s : Removal). s.pair))) is.below

    step_used : Contains us r.pair.var
    step_used = are.scopes is.owner is.among r.pair.var (part_scope is.owner.con is.lacks.part r.pair.var is.lacks.is_part is.lacks.over)

    step_named : HasConstraint own (user_name book.constraints r.by)
    step_named =
        let d = lists.each is.owner is.among in
        any_member (λ (c : BookCon). c.name ≡ user_name book.constraints r.by) acc d.0 d.1 (d.2 ∙ is.named)

    step_right : IsRight own (proved_by earlier) (other_pair r.pair) (user_name book.constraints r.by) numbers
    step_right =
        let d = lists.each is.owner is.among in
        let domains = without (initial_of own) (pairs_at (proved_by earlier) numbers) in
        record {
          owner = d.0;
          listed = d.1;
          named = d.2 ∙ is.named;
          lacks = subst (λ (c : Con). LacksSupport domains c (other r.pair.var) r.pair.value) (sym d.3) (own_lacks (log_pairs earlier) numbers is.owner r.pair is.among step_below is.lacks);
        }

    step_numbered : Any (λ k. length (proved_by earlier) < k) numbers → ⊥
    step_numbered a =
        let k = member_any (λ (i : ℕ). length (proved_by earlier) < i) numbers a in
        let b = All-contains (λ (i : ℕ). (1 ≤ i) × (i ≤ length (log_pairs earlier))) numbers k.0 step_below k.1 in
        absurd (omega (arith, k.2, b.1, length-map (log_pairs earlier) other_pair))

    step_certain : ((pair : Pair) × IsPair own.variables (name_of book.variables r.pair.var) r.pair.value pair × (IsRight own (proved_by earlier) pair (user_name book.constraints r.by) numbers → ⊥)) → ⊥
    step_certain h =
        let same = pair_is own.variables (name_of book.variables r.pair.var) r.pair.value (other_pair r.pair) h.0 apart (own_pair r.pair step_used) h.1 in
        h.2 (subst (λ (p : Pair). IsRight own (proved_by earlier) p (user_name book.constraints r.by) numbers) same step_right)

    step_proved : proved_by (earlier ++ r ∷ []) ≡ proved_by earlier ++ other_pair r.pair ∷ []
    step_proved = ap (λ (ps : List Pair). map other_pair ps) (map-append (λ (s : Removal). s.pair) earlier (r ∷ [])) ∙ map-append other_pair (log_pairs earlier) (r.pair ∷ [])

    step_reads : (stage : Stage) (line text : List ℕ) → IsOpen stage → ended line ≡ text → Says line (Phrase (Step (name_of book.variables r.pair.var) r.pair.value (user_name book.constraints r.by) numbers))
        → Reads certificates (proving stage (proved_by earlier)) text (proving Proving (proved_by (earlier ++ r ∷ [])))
    step_reads stage line text ready ends says =
        let name = name_of book.variables r.pair.var in
        let by = user_name book.constraints r.by in
        reads_line certificates (proving stage (proved_by earlier)) (proving Proving (proved_by (earlier ++ r ∷ []))) line text ends says.0.plain
        (record {
          statement = Phrase (Step name r.pair.value by numbers);
          says = says;
          none =
              no_cause (Meets (proving stage (proved_by earlier)) (Phrase (Step name r.pair.value by numbers))) (λ h. h ready)
              (λ h. elim h [ inl u ↦ u (own_declared r.pair step_used is.declared) | inr u ↦ u step_named ]) (λ h. h) step_numbered step_certain (λ h. h);
          leads = (other_pair r.pair, own_pair r.pair step_used, ap (λ (ps : List Pair). proving Proving ps) step_proved);
        })

  -- ---- the steps

  -- the steps were read, up to a stage at which a claim may follow
  pub record HaveProved (d : Draft) (text : List ℕ) (steps : List Removal) : Type 0 where
    pub stage : Stage
    pub ready : IsOpen stage
    pub reads : Reads certificates d text (proving stage (proved_by steps))

  module _ (steps : List Removal)
      (each : (earlier : List Removal) (r : Removal) (later : List Removal) → steps ≡ earlier ++ r ∷ later → IsStep book cs earlier r (numbers_of steps r.reasons))
      (says : (r : Removal) → Contains steps r → Says (spaced (step_words book.variables r.pair (user_name book.constraints r.by) (numbers_of steps r.reasons))) (Phrase (Step (name_of book.variables r.pair.var) r.pair.value (user_name book.constraints r.by) (numbers_of steps r.reasons)))) where
    steps_from : (stage : Stage) → IsOpen stage → (earlier later : List Removal) → steps ≡ earlier ++ later → HaveProved (proving stage (proved_by earlier)) (flat_map (step_line book steps) later) steps
    steps_from stage ready earlier [] split = record {
      stage = stage;
      ready = ready;
      reads = reads_none certificates (proving stage (proved_by earlier)) (proving stage (proved_by steps)) (ap (λ (l : List Removal). proving stage (proved_by l)) (sym (split ∙ append-nil earlier)));
    }
    steps_from stage ready earlier (r ∷ later) split =
        let m = subst (λ (l : List Removal). Contains l r) (sym split) (Contains-append_right earlier (r ∷ later) r (member_here r later)) in
        let numbers = numbers_of steps r.reasons in
        let line = spaced (step_words book.variables r.pair (user_name book.constraints r.by) numbers) in
        let first = step_reads earlier r numbers (each earlier r later split) stage line (step_line book steps r) ready refl (says r m) in
        let rest = steps_from Proving tt (earlier ++ r ∷ []) later (split ∙ sym (append_assoc earlier (r ∷ []) later)) in
        record {
          stage = rest.stage;
          ready = rest.ready;
          reads = reads_then certificates (proving stage (proved_by earlier)) (proving Proving (proved_by (earlier ++ r ∷ []))) (proving rest.stage (proved_by steps)) (step_line book steps r) (flat_map (step_line book steps) later) first rest.reads;
        }

    pub steps_read : (stage : Stage) → IsOpen stage → HaveProved (proving stage []) (flat_map (step_line book steps) steps) steps
    steps_read stage ready = steps_from stage ready [] steps refl

  -- ---- the claim and the end

  module _ (steps : List Removal) (stage : Stage) (ready : IsOpen stage) where
    gone_reads : (pair : Pair) → Contains us pair.var → Has (initial_of book) pair.var pair.value → IsReached book (log_pairs steps) (Gone pair)
        → Says (spaced (claim_words book.variables (Gone pair))) (claim_statement book.variables (Gone pair))
        → Reads certificates (proving stage (proved_by steps)) (claim_line book.variables (Gone pair)) (proving (Claimed (Gone (other_pair pair))) (proved_by steps))
    gone_reads pair used has reached says =
        let name = name_of book.variables pair.var in
        let mine = own_pair pair used in
        reads_line certificates (proving stage (proved_by steps)) (proving (Claimed (Gone (other_pair pair))) (proved_by steps)) (spaced (claim_words book.variables (Gone pair))) (claim_line book.variables (Gone pair)) refl says.0.plain
        (record {
          statement = Phrase (ValueClaim name pair.value);
          says = says;
          none =
              no_cause (Meets (proving stage (proved_by steps)) (Phrase (ValueClaim name pair.value))) (λ h. h ready)
              (λ h. h (own_declared pair used has)) (λ h. h) (λ h. h) (λ h. h)
              (λ h.
              let same = pair_is own.variables name pair.value (other_pair pair) h.0 apart mine h.1 in
              h.2 (subst (λ (p : Pair). Contains (proved_by steps) p) same (member_map other_pair (log_pairs steps) pair reached)));
          leads = (other_pair pair, mine, refl);
        })

    own_reached : (x : ℕ) → Contains us x → IsReached book (log_pairs steps) (Conflict x) → IsReached own (proved_by steps) (Conflict (other x))
    own_reached x used reached = λ v has. member_map other_pair (log_pairs steps) (pair_of x v) (reached v (own_has x v used has))

    conflict_reads : (x : ℕ) → Contains us x → IsReached book (log_pairs steps) (Conflict x)
        → Says (spaced (claim_words book.variables (Conflict x))) (claim_statement book.variables (Conflict x))
        → Reads certificates (proving stage (proved_by steps)) (claim_line book.variables (Conflict x)) (proving (Claimed (Conflict (other x))) (proved_by steps))
    conflict_reads x used reached says =
        let name = name_of book.variables x in
        let mine = own_variable x used in
        reads_line certificates (proving stage (proved_by steps)) (proving (Claimed (Conflict (other x))) (proved_by steps)) (spaced (claim_words book.variables (Conflict x))) (claim_line book.variables (Conflict x)) refl says.0.plain
        (record {
          statement = Phrase (ConflictClaim name);
          says = says;
          none =
              no_cause (Meets (proving stage (proved_by steps)) (Phrase (ConflictClaim name))) (λ h. h ready)
              (λ h. h (own_named x used)) (λ h. h) (λ h. h) (λ h. h)
              (λ h.
              let same = variable_is own.variables name (other x) h.0 apart mine h.1 in
              h.2 (subst (λ (y : ℕ). IsReached own (proved_by steps) (Conflict y)) same (own_reached x used reached)));
          leads = (other x, mine, refl);
        })

    end_reads : (claim : Claim) → Says (codes "end") (Phrase End) → Reads certificates (proving (Claimed claim) (proved_by steps)) (fixed_text EndText) (proving (Closed claim) (proved_by steps))
    end_reads claim says =
        reads_line certificates (proving (Claimed claim) (proved_by steps)) (proving (Closed claim) (proved_by steps)) (codes "end") (fixed_text EndText) refl says.0.plain
        (record {
          statement = Phrase End;
          says = says;
          none = no_cause (Meets (proving (Claimed claim) (proved_by steps)) (Phrase End)) (λ h. h tt) (λ h. h) (λ h. h) (λ h. h) (λ h. h) (λ h. h);
          leads = (claim, refl, refl);
        })

    pub claim_reads : (claim : Claim) → Contains us (claim_var claim) → IsClaimed book claim → IsReached book (log_pairs steps) claim
        → Says (spaced (claim_words book.variables claim)) (claim_statement book.variables claim) → Says (codes "end") (Phrase End)
        → Reads certificates (proving stage (proved_by steps)) (claim_line book.variables claim ++ fixed_text EndText) (proving (Closed (other_claim claim)) (proved_by steps))
    claim_reads (Gone pair) used has reached says ends =
        reads_then certificates (proving stage (proved_by steps)) (proving (Claimed (other_claim (Gone pair))) (proved_by steps)) (proving (Closed (other_claim (Gone pair))) (proved_by steps))
        (claim_line book.variables (Gone pair)) (fixed_text EndText) (gone_reads pair used has reached says) (end_reads (other_claim (Gone pair)) ends)
    claim_reads (Conflict x) used has reached says ends =
        reads_then certificates (proving stage (proved_by steps)) (proving (Claimed (other_claim (Conflict x))) (proved_by steps)) (proving (Closed (other_claim (Conflict x))) (proved_by steps))
        (claim_line book.variables (Conflict x)) (fixed_text EndText) (conflict_reads x used reached says) (end_reads (other_claim (Conflict x)) ends)
