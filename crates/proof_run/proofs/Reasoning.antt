-- The lines of a lemma lead from what was said before it to what was said with it.
use Rattle.std.proofs.Common.{◌≡◌, ℕ, ◌-◌, ◌<◌, ◌≤◌, List, [], ◌∷◌, ◌++◌, length, map, flat_map, All, Any, Contains, inl, inr, refl, sym, ap, ◌∙◌, subst, append_assoc, append-nil, arith}
use Rattle.std.proofs.lemmas.Grind.{flat_map-append}
use Rattle.std.proofs.lemmas.List.{length-map, map-append}
use Rattle.std.proofs.lemmas.List.Elements.{All-contains, Contains-append_right}
use Rattle.std.proofs.lemmas.Option.{slice_get_within}
use Rattle.palm_base.specs.declared.terms.Pair.{Pair}
use Rattle.palm_base.specs.declared.terms.Cid.{Cid}
use Rattle.palm_base.specs.declared.terms.Cid.TheVariants.{User}
use Rattle.palm_base.proofs.cited.Members.{all_members, member_here, member_map, member_same, member_there, member_unmap}
use Rattle.palm_book.specs.Book.{Contents, IsBook, initial_of, name_of, user_name}
use Rattle.palm_book.specs.Named.{IsDeclared, IsPair, IsVariable}
use Rattle.palm_book.specs.declared.book.BookCon.{BookCon}
use Rattle.palm_book.proofs.cited.Any.{any_member, member_any}
use Rattle.palm_book.proofs.cited.Pairs.{pair_declared, pair_is, variable_is, variable_known}
use Rattle.palm_cert.specs.Certificate.{numbers_of}
use Rattle.palm_cert.proofs.cited.Numbers.{numbers_member}
use Rattle.palm_claim.specs.Statement.{IsStepNumber}
use Rattle.palm_claim.specs.Step.{IsOfLemma, IsReached, IsRightBy}
use Rattle.palm_claim.specs.declared.verdict.Claim.TheVariants.{Conflict}
use Rattle.palm_claim.proofs.cited.Passing.{Reads, no_cause, reads_line, reads_none, reads_then}
use Rattle.palm_model.specs.Constraint.{Distinct}
use Rattle.palm_model.specs.Domains.{Has}
use Rattle.palm_model.specs.Event.{vars_of}
use Rattle.palm_model.specs.Log.{Removal, log_pairs}
use Rattle.palm_read.specs.Words.{spaced}
use Rattle.proof_text.specs.Draft.{ArePairs, Draft, MayFollow, Notes, given_in}
use Rattle.proof_text.specs.Verdict.{AreApart, IsUnknownGround, IsUnprovedGround, Meets, proofs}
use Rattle.proof_text.specs.declared.lemma.Lemma.{Lemma}
use Rattle.proof_text.specs.declared.statement.NamedPair.{NamedPair}
use Rattle.proof_text.specs.declared.statement.Stage.{Stage}
use Rattle.proof_text.specs.declared.statement.Stage.TheVariants.{Reasoning, Wiped}
use Rattle.palm_claim.specs.declared.statement.Statement.TheVariants.{Phrase}
use Rattle.proof_text.specs.declared.statement.ProofPhrase.TheVariants.{Lemma as LemmaLine, Step, Wipe}
use Rattle.proof_run.specs.Accepted.{as_listed}
use Rattle.proof_run.specs.Lemma.{lemma_line, lemma_of, lemma_words, step_line, step_words, text_of_lemma, wipe_line, wipe_words}
use Rattle.proof_run.proofs.Lines.{CanSay, lemma_says, named_pair, pair_exists, step_says, wipe_says}
use Rattle.proof_run.proofs.Own.{book_named}
use Rattle.proof_run.proofs.Situation.{IsRightLemma, IsStepOf, LemmaData, by_decision, by_lemma, by_user, why_of}
use Rattle.proof_run.proofs.Using.{AreWritten, all_lemma_numbers, all_own_numbers, as_many, as_own, lemma_numbers, lemma_with, own_listed, own_numbers}

-- a lemma may begin at the stage
abbrev pub MayReason : Stage → Type 0
MayReason stage = (named : List NamedPair) → MayFollow stage (LemmaLine named)

-- ---- pairs

module _ (book : Contents) (is : IsBook book) where
  -- a declared pair is that of its name and value
  pair_of_name : (p : Pair) → Has (initial_of book) p.var p.value → IsPair book.variables (name_of book.variables p.var) p.value p
  pair_of_name p has = record { variable = record { declared = pair_exists book is p has; named = refl }; gives = refl }

  are_pairs : (pairs : List Pair) → ((p : Pair) → Contains pairs p → Has (initial_of book) p.var p.value) → ArePairs book.variables (map (named_pair book.variables) pairs) pairs
  are_pairs [] declared = refl
  are_pairs (p ∷ pairs) declared =
      (p, pairs, pair_of_name p (declared p (member_here p pairs)), refl, are_pairs pairs (λ q m. declared q (member_there p pairs q m)))

  -- pairs of different variables have different names
  are_apart : (pairs : List Pair) → ((p : Pair) → Contains pairs p → Has (initial_of book) p.var p.value) → Distinct (vars_of pairs) → AreApart (map (named_pair book.variables) pairs)
  are_apart [] declared distinct = tt
  are_apart (p ∷ pairs) declared distinct = (
    all_members (λ (q : NamedPair). name_of book.variables p.var ≡ q.name → ⊥) (map (named_pair book.variables) pairs) (λ q m e.
        let r = member_unmap (named_pair book.variables) pairs q m in
        let mine = pair_of_name p (declared p (member_here p pairs)) in
        let other = pair_of_name r.0 (declared r.0 (member_there p pairs r.0 r.1)) in
        let is_other : IsVariable book.variables (name_of book.variables p.var) r.0.var = record {
          declared = other.variable.declared;
          named = ap (λ (n : NamedPair). n.name) r.2 ∙ sym e;
        } in
        let same : p.var ≡ r.0.var = variable_is book.variables (name_of book.variables p.var) p.var r.0.var is.different_variables mine.variable is_other in
        distinct.0 (member_same (vars_of pairs) r.0.var p.var (sym same) (member_map (λ (z : Pair). z.var) pairs r.0 r.1))),
    are_apart pairs (λ q m. declared q (member_there p pairs q m)) distinct.1,
  )

  declared_pair : (p : Pair) → Has (initial_of book) p.var p.value → IsDeclared book.variables (name_of book.variables p.var) p.value
  declared_pair p has = pair_declared book (name_of book.variables p.var) p.value p (pair_of_name p has) has

-- ---- the lines of a lemma

module _ (book : Contents) (is : IsBook book) (ls : List Lemma) (known : List LemmaData) (written : AreWritten book ls known) (few : length known ≤ 18446744073709551615) where
  -- what was said, at a stage, with a lemma begun and what it proved
  abbrev pub saying : Stage → Lemma → List Pair → Draft
  saying stage begun proved = record { stage = stage; book = as_listed book; lemmas = ls; begun = begun; proved = proved }

  module _ (undone pairs : List Pair) (steps : List Removal) (x : ℕ) (users : List Cid) (lemma : IsRightLemma book undone known pairs steps x users) where
    -- the lemma begun, and what was said with these steps of it
    abbrev begun_with : List Removal → Lemma
    begun_with earlier = lemma_with book undone pairs earlier

    abbrev reasoning : List Removal → Draft
    reasoning earlier = saying Reasoning (begun_with earlier) (log_pairs earlier)

    -- ---- its first line

    begins : (stage : Stage) (begun : Lemma) (proved : List Pair) → MayReason stage → Reads proofs (saying stage begun proved) (lemma_line book.variables pairs) (reasoning [])
    begins stage begun proved may =
        let d = saying stage begun proved in
        let named = map (named_pair book.variables) pairs in
        let says = lemma_says book is pairs lemma.assumed lemma.apart in
        reads_line proofs d (reasoning []) (spaced (lemma_words book.variables pairs)) (lemma_line book.variables pairs) refl says.0.plain
        (record {
          statement = Phrase (LemmaLine named);
          says = says;
          none =
              no_cause (Meets d (Phrase (LemmaLine named))) (λ h. h (may named))
              (λ h. elim h [ inl undeclared ↦ none_undeclared undeclared | inr not_apart ↦ not_apart (are_apart book is pairs lemma.assumed lemma.apart) ]) (λ h. h) (λ h. h) (λ h. h) (λ h. h);
          leads = (pairs, are_pairs book is pairs lemma.assumed, refl);
        })
      where
        none_undeclared : Any (λ (n : NamedPair). IsDeclared book.variables n.name n.value → ⊥) (map (named_pair book.variables) pairs) → ⊥
        none_undeclared a =
            let n = member_any (λ (m : NamedPair). IsDeclared book.variables m.name m.value → ⊥) (map (named_pair book.variables) pairs) a in
            let p = member_unmap (named_pair book.variables) pairs n.0 n.1 in
            n.2 (subst (λ (m : NamedPair). IsDeclared book.variables m.name m.value) p.2 (declared_pair book is p.0 (lemma.assumed p.0 p.1)))

    -- ---- a step

    -- the lemma begun with one more step, which is by this
    abbrev begun_by : List Removal → Cid → Lemma
    begun_by earlier by = record { pairs = pairs; constraints = all_own_numbers book earlier ++ own_numbers book by; lemmas = all_lemma_numbers undone earlier ++ lemma_numbers undone by }

    -- why a step behind the earlier ones is right, in words that are known there
    record IsFounded (earlier : List Removal) (pair : Pair) (numbers : List ℕ) (by : Cid) : Type 0 where
      can : CanSay book undone by
      known_ground : IsUnknownGround (reasoning earlier) (why_of book undone by numbers) → ⊥
      proved_ground : IsUnprovedGround (reasoning earlier) (why_of book undone by numbers) → ⊥
      right : IsRightBy (as_listed book) (given_in (reasoning earlier)) (log_pairs earlier) pair (why_of book undone by numbers)
      notes : Notes (reasoning earlier) (why_of book undone by numbers) (begun_by earlier by)

    same_noted : (ns ns' ks ks' : List ℕ) → ns ≡ ns' → ks ≡ ks' → ◌≡◌ {A = Lemma} (record { pairs = pairs; constraints = ns; lemmas = ks }) (record { pairs = pairs; constraints = ns'; lemmas = ks' })
    same_noted ns ns' ks ks' e f =
        ap (λ (l : List ℕ). let m : Lemma = record { pairs = pairs; constraints = l; lemmas = ks } in m) e
        ∙ ap (λ (l : List ℕ). let m : Lemma = record { pairs = pairs; constraints = ns'; lemmas = l } in m) f

    founded : (earlier : List Removal) (r : Removal) → IsStepOf book undone known pairs steps earlier r → IsFounded earlier r.pair (numbers_of steps r.reasons) r.by
    founded earlier r (by_user c listed active by lacks below) = subst (IsFounded earlier r.pair numbers) (sym by) (record {
      can = any_member (λ (b : BookCon). b.number ≡ c.number) book.constraints c listed refl;
      known_ground = λ h. h (any_member (λ (b : BookCon). b.name ≡ name) (as_listed book).constraints (as_own book c) own (sym named));
      proved_ground = λ a.
          let k = member_any (λ (n : ℕ). length (log_pairs earlier) < n) numbers a in
          let b = All-contains (λ (n : ℕ). (1 ≤ n) × (n ≤ length earlier)) numbers k.0 below k.1 in
          absurd (omega (arith, k.2, b.1, length-map earlier (λ (s : Removal). s.pair)));
      right = record { owner = as_own book c; listed = own; named = sym named; lacks = lacks };
      notes = (as_own book c, own, sym named, same_noted (all_own_numbers book earlier ++ own_numbers book (User c.number)) (all_own_numbers book earlier ++ (as_own book c).number ∷ []) (all_lemma_numbers undone earlier ++ []) (all_lemma_numbers undone earlier) refl (append-nil (all_lemma_numbers undone earlier)));
    })
      where
        numbers : List ℕ
        numbers = numbers_of steps r.reasons

        name : List ℕ
        name = user_name book.constraints (User c.number)

        own : Contains (as_listed book).constraints (as_own book c)
        own = own_listed book is c (listed, active)

        named : name ≡ c.name
        named = book_named book is c listed
    founded earlier r (by_decision y by assumed) = subst (IsFounded earlier r.pair (numbers_of steps r.reasons)) (sym by) (record {
      can = tt;
      known_ground = λ h. h;
      proved_ground = λ h. h;
      right = assumed;
      notes = same_noted (all_own_numbers book earlier ++ []) (all_own_numbers book earlier) (all_lemma_numbers undone earlier ++ []) (all_lemma_numbers undone earlier) (append-nil (all_own_numbers book earlier)) (append-nil (all_lemma_numbers undone earlier));
    })
    founded earlier r (by_lemma p d by positive stands of) = subst (IsFounded earlier r.pair (numbers_of steps r.reasons)) (sym by) (record {
      can = (positive, omega (arith, few, within, positive));
      known_ground = λ h. h;
      proved_ground = λ late. absurd (omega (arith, late, within, positive, as_many book is ls known written));
      right = subst (λ (given : List (List Pair)). IsOfLemma (record { pairs = pairs; lemmas = given }) (lemma_of undone p) r.pair) (sym written.pairs) of;
      notes = same_noted (all_own_numbers book earlier ++ []) (all_own_numbers book earlier) (all_lemma_numbers undone earlier ++ lemma_of undone p ∷ []) (all_lemma_numbers undone earlier ++ lemma_of undone p ∷ []) (append-nil (all_own_numbers book earlier)) refl;
    })
      where
        within : lemma_of undone p - 1 < length known
        within = slice_get_within known (lemma_of undone p - 1) d stands

    -- the numbers of a step are those of steps
    all_numbers : (r : Removal) → All IsStepNumber (numbers_of steps r.reasons)
    all_numbers r = all_members IsStepNumber (numbers_of steps r.reasons) (λ k m.
        let n = numbers_member 1 steps r.reasons k m in
        let lt = slice_get_within (log_pairs steps) (k - 1) n.pair n.at in
        (omega (arith, n.from), omega (arith, n.from, lt, length-map steps (λ (s : Removal). s.pair), lemma.few)))

    -- the lemma and what was proved with one more step
    one_more : (earlier : List Removal) (r : Removal) → begun_with (earlier ++ r ∷ []) ≡ begun_by earlier r.by
    one_more earlier r =
        same_noted (all_own_numbers book (earlier ++ r ∷ [])) (all_own_numbers book earlier ++ own_numbers book r.by) (all_lemma_numbers undone (earlier ++ r ∷ [])) (all_lemma_numbers undone earlier ++ lemma_numbers undone r.by)
        (added (λ (s : Removal). own_numbers book s.by)) (added (λ (s : Removal). lemma_numbers undone s.by))
      where
        added : (f : Removal → List ℕ) → flat_map f (earlier ++ r ∷ []) ≡ flat_map f earlier ++ f r
        added f = flat_map-append f earlier (r ∷ []) ∙ ap (λ (ks : List ℕ). flat_map f earlier ++ ks) (append-nil (f r))

    steps_on : (earlier : List Removal) (r : Removal) → Contains steps r → IsStepOf book undone known pairs steps earlier r → Reads proofs (reasoning earlier) (step_line book undone steps r) (reasoning (earlier ++ r ∷ []))
    steps_on earlier r m step =
        let d = reasoning earlier in
        let numbers = numbers_of steps r.reasons in
        let why = why_of book undone r.by numbers in
        let name = name_of book.variables r.pair.var in
        let has = lemma.proved r m in
        let f = founded earlier r step in
        let says = step_says book is undone r.pair r.by numbers has f.can (all_numbers r) (lemma.short r m) in
        let is_pair = pair_of_name book is r.pair has in
        let behind : Lemma → List Pair → Draft = λ l ps. saying Reasoning l ps in
        reads_line proofs d (reasoning (earlier ++ r ∷ [])) (spaced (step_words book undone r.pair r.by numbers)) (step_line book undone steps r) refl says.0.plain
        (record {
          statement = Phrase (Step name r.pair.value why);
          says = says;
          none =
              no_cause (Meets d (Phrase (Step name r.pair.value why))) (λ h. h refl)
              (λ h. elim h [ inl undeclared ↦ undeclared (declared_pair book is r.pair has) | inr unknown ↦ f.known_ground unknown ]) (λ h. h) f.proved_ground
              (λ h.
              let same = pair_is book.variables name r.pair.value r.pair h.0 is.different_variables is_pair h.1 in
              h.2 (subst (λ (p : Pair). IsRightBy (as_listed book) (given_in d) (log_pairs earlier) p why) same f.right))
              (λ h. h);
          leads = (
            r.pair,
            begun_by earlier r.by,
            is_pair,
            f.notes,
            ap (λ (l : Lemma). behind l (log_pairs (earlier ++ r ∷ []))) (one_more earlier r) ∙ ap (behind (begun_by earlier r.by)) (map-append (λ (s : Removal). s.pair) earlier (r ∷ [])),
          );
        })

    steps_read : (earlier later : List Removal) → steps ≡ earlier ++ later → Reads proofs (reasoning earlier) (flat_map (step_line book undone steps) later) (reasoning steps)
    steps_read earlier [] split = reads_none proofs (reasoning earlier) (reasoning steps) (ap reasoning (sym (split ∙ append-nil earlier)))
    steps_read earlier (r ∷ later) split =
        let m = subst (λ (l : List Removal). Contains l r) (sym split) (Contains-append_right earlier (r ∷ later) r (member_here r later)) in
        reads_then proofs (reasoning earlier) (reasoning (earlier ++ r ∷ [])) (reasoning steps) (step_line book undone steps r) (flat_map (step_line book undone steps) later)
        (steps_on earlier r m (lemma.right earlier r later split))
        (steps_read (earlier ++ r ∷ []) later (split ∙ sym (append_assoc earlier (r ∷ []) later)))

    -- ---- its wipe

    -- what was said with the lemma
    abbrev pub reasoned : Draft
    reasoned = record { stage = Wiped; book = as_listed book; lemmas = ls ++ begun_with steps ∷ []; begun = begun_with steps; proved = log_pairs steps }

    wipes : Reads proofs (reasoning steps) (wipe_line book.variables x) reasoned
    wipes =
        let d = reasoning steps in
        let name = name_of book.variables x in
        let says = wipe_says book is x lemma.exists in
        let is_variable : IsVariable book.variables name x = record { declared = lemma.exists; named = refl } in
        reads_line proofs d reasoned (spaced (wipe_words book.variables x)) (wipe_line book.variables x) refl says.0.plain
        (record {
          statement = Phrase (Wipe name);
          says = says;
          none =
              no_cause (Meets d (Phrase (Wipe name))) (λ h. h refl) (λ h. h (variable_known book.variables name x is_variable)) (λ h. h) (λ h. h) (λ h. h)
              (λ h.
              let same = variable_is book.variables name x h.0 is.different_variables is_variable h.1 in
              h.2 (subst (λ (y : ℕ). IsReached (as_listed book) (log_pairs steps) (Conflict y)) same lemma.wiped));
          leads = refl;
        })

    -- ---- the whole lemma

    pub lemma_reads : (stage : Stage) (begun : Lemma) (proved : List Pair) → MayReason stage → Reads proofs (saying stage begun proved) (text_of_lemma book undone pairs steps x) reasoned
    lemma_reads stage begun proved may =
        let listed = flat_map (step_line book undone steps) steps in
        let before = saying stage begun proved in
        let first = lemma_line book.variables pairs in
        reads_then proofs before (reasoning steps) reasoned (first ++ listed) (wipe_line book.variables x)
        (reads_then proofs before (reasoning []) (reasoning steps) first listed (begins stage begun proved may) (steps_read [] steps refl)) wipes
