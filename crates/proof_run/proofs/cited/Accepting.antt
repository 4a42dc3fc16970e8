-- The text of a run that finds no solution is accepted: turn by turn its lemmas are said, and the last one has no pairs.
use Rattle.std.proofs.Common.{◌≡◌, ℕ, ◌+◌, ◌≤◌, Bool, true, false, cond, Some, List, [], ◌∷◌, ◌++◌, length, map, filter, slice_get, All, Any, Contains, inl, inr, refl, sym, ap, ◌∙◌, subst, append_assoc, append-nil, arith, length-append}
use Rattle.std.proofs.lemmas.Bool.{cases_Bool, false≢true}
use Rattle.std.proofs.lemmas.List.Elements.{All-contains}
use Rattle.std.proofs.lemmas.List.{length-map}
use Rattle.palm_base.specs.Order.{Rises, cid_before}
use Rattle.palm_base.specs.declared.terms.Pair.{Pair}
use Rattle.palm_base.specs.declared.terms.Cid.{Cid}
use Rattle.palm_base.specs.declared.terms.Cid.TheVariants.{Decide, Not, User}
use Rattle.palm_base.proofs.cited.Members.{all_members, filter_member, member_cases, member_here, member_nil, member_same, member_tail, member_there, member_unmap}
use Rattle.palm_book.specs.Book.{Contents, HasConstraint, IsBook, active_of, initial_of, user_name}
use Rattle.palm_book.specs.declared.book.BookCon.{BookCon}
use Rattle.palm_book.specs.declared.limits.TheConstants.{MOST_CONSTRAINTS}
use Rattle.palm_book.proofs.cited.Any.{any_member, member_any}
use Rattle.palm_claim.proofs.cited.Passing.{Reads, no_cause, reads_line, reads_then, reads_verdict}
use Rattle.palm_engine.specs.Following.{LeadsAlong}
use Rattle.palm_events.specs.Scoped.{HasScopedReasons}
use Rattle.palm_events.proofs.cited.Names.{named_member}
use Rattle.palm_lang.specs.Reply.{fixed_text, fixed_word, lead_word}
use Rattle.palm_lang.specs.declared.reply.Fixed.TheVariants.{End as EndWord}
use Rattle.palm_lang.specs.declared.reply.Lead.TheVariants.{NoSolution as NoSolutionLead}
use Rattle.palm_model.specs.Log.{Removal, is_named, log_pairs}
use Rattle.palm_model.specs.State.{EngineState, IsValid, is_user}
use Rattle.palm_read.specs.Name.{IsNameText}
use Rattle.palm_read.specs.Words.{spaced}
use Rattle.palm_search.specs.Following.{moments}
use Rattle.palm_search.specs.Search.{HasNoSolution}
use Rattle.palm_search.specs.Turns.{SearchState, Turns, decided_vars}
use Rattle.palm_search.specs.declared.ending.SearchEnd.TheVariants.{NoSolution}
use Rattle.palm_search.specs.declared.turn.Turn.{Turn}
use Rattle.palm_search.specs.declared.turn.Turn.TheVariants.{Decide as TurnDecide, Undo as TurnUndo}
use Rattle.proof_text.specs.Draft.{Draft, at_stage, blank, unproved, users_of}
use Rattle.proof_text.specs.Users.{ArePicked, AreUsed, Uses}
use Rattle.proof_text.specs.Verdict.{Meets, proofs}
use Rattle.proof_text.specs.declared.lemma.Lemma.{Lemma}
use Rattle.proof_text.specs.declared.statement.Stage.{Stage}
use Rattle.proof_text.specs.declared.statement.Stage.TheVariants.{Closed, Told, Wiped}
use Rattle.palm_claim.specs.declared.statement.Statement.TheVariants.{Phrase}
use Rattle.proof_text.specs.declared.statement.ProofPhrase.TheVariants.{End, Users}
use Rattle.proof_text.specs.declared.verdict.ProofVerdict.TheVariants.{Accepted}
use Rattle.proof_run.specs.Accepted.{IsAccepted, as_listed}
use Rattle.proof_run.specs.Lemma.{IsLemmaOf, held_decisions, wiped_by}
use Rattle.proof_run.specs.Text.{Argues, Argument, Concludes, Proves, declarations, none_line, unargued}
use Rattle.proof_run.proofs.Knowing.{knowing_decides, knowing_start, knowing_undoes}
use Rattle.proof_run.proofs.Lines.{end_says, users_says}
use Rattle.proof_run.proofs.Listing.{listing_reads, may_argue}
use Rattle.proof_run.proofs.Own.{own_book, picked_among, users_named}
use Rattle.proof_run.proofs.Reasoning.{MayReason, lemma_reads}
use Rattle.proof_run.proofs.Rightness.{lemma_right}
use Rattle.proof_run.proofs.Situation.{IsArguing, IsRightLemma, LemmaData, lemma_data}
use Rattle.proof_run.proofs.Using.{AreWritten, as_many, get_last, lemma_users, lemma_with, more_written, none_written}

-- ---- lists

-- what passes no test is left out
filter_none : {X : Type 0} (p : X → Bool) (xs : List X) → ((x : X) → Contains xs x → p x ≡ true → ⊥) → filter p xs ≡ []
filter_none p [] none = refl
filter_none p (x ∷ xs) none = elim (cases_Bool (p x)) [
  | inl t ↦ absurd (none x (member_here x xs) t)
  | inr f ↦ rw f (filter_none p xs (λ y m. none y (member_there x xs y m)))
]

rises_filter : (p : Cid → Bool) (cids : List Cid) → Rises cids → Rises (filter p cids)
rises_filter p [] rises = tt
rises_filter p (c ∷ cids) rises = kept (p c) (rises_filter p cids rises.1)
  where
    kept : (b : Bool) → Rises (filter p cids) → Rises (cond b (c ∷ filter p cids) (filter p cids))
    kept true rest = (
      all_members (λ (d : Cid). cid_before c d ≡ true) (filter p cids) (λ d m. All-contains (λ (e : Cid). cid_before c e ≡ true) cids d rises.0 (filter_member p cids d m).0),
      rest,
    )
    kept false rest = rest

-- no more are picked than there are
picked_fewer : {A : Type 0} (P : A → Type 0) (items picked : List A) → ArePicked P items picked → length picked ≤ length items
picked_fewer P [] picked are = let e = ap (λ xs. length xs) are in omega (arith, e)
picked_fewer P (item ∷ items) picked are = elim are [
  | inl takes ↦ let e = ap (λ xs. length xs) takes.1.1 in omega (arith, e, picked_fewer P items takes.1.0 takes.1.2)
  | inr leaves ↦ omega (arith, picked_fewer P items picked leaves.1)
]

a_user : (c : Cid) → is_user c ≡ true → (n : ℕ) × (c ≡ User n)
a_user (Decide x) e = absurd (false≢true e)
a_user (Not p) e = absurd (false≢true e)
a_user (User n) e = (n, refl)

-- the decisions among ids
decided_member : (cids : List Cid) (x : ℕ) → Contains cids (Decide x) → Contains (decided_vars cids) x
decided_member [] x m = absurd (member_nil (Decide x) m)
decided_member (Decide y ∷ cids) x m = elim (member_cases (Decide y) cids (Decide x) m) [
  | inl e ↦ let same : y ≡ x = cc in member_same (y ∷ decided_vars cids) y x same (member_here y (decided_vars cids))
  | inr k ↦ member_there y (decided_vars cids) x (decided_member cids x k)
]
decided_member (Not p ∷ cids) x m = decided_member cids x (member_tail (Not p) cids (Decide x) (λ e. cc) m)
decided_member (User n ∷ cids) x m = decided_member cids x (member_tail (User n) cids (Decide x) (λ e. cc) m)

-- a conflict without decisions holds none of those that were taken
none_held : (decisions : List Pair) (conflict : List Cid) → decided_vars conflict ≡ [] → held_decisions decisions conflict ≡ []
none_held decisions conflict none = filter_none (λ (p : Pair). is_named conflict (Decide p.var)) decisions (λ p m t.
    member_nil p.var (subst (λ (xs : List ℕ). Contains xs p.var) none (decided_member conflict p.var (named_member conflict (Decide p.var) t))))

-- ---- what was said between two turns

record HasSaid (book : Contents) (known : List LemmaData) (text : List ℕ) : Type 0 where
  stage : Stage
  may : MayReason stage
  lemmas : List Lemma
  begun : Lemma
  proved : List Pair
  written : AreWritten book lemmas known
  reads : Reads proofs blank text (record { stage = stage; book = as_listed book; lemmas = lemmas; begun = begun; proved = proved })

module _ (book : Contents) (is : IsBook book) where
  -- what was said before the first turn
  said_first : HasSaid book [] (declarations book ++ [])
  said_first =
      let listed = listing_reads book is in
      record {
        stage = listed.0;
        may = λ named. may_argue listed.0 named listed.1;
        lemmas = [];
        begun = unproved [];
        proved = [];
        written = none_written book;
        reads =
            subst (λ (text : List ℕ). Reads proofs blank text (record { stage = listed.0; book = as_listed book; lemmas = []; begun = unproved []; proved = [] })) (sym (append-nil (declarations book))) listed.2;
      }

  -- ---- a lemma

  module _ (undone : List Pair) (known : List LemmaData) (s : SearchState) (arguing : IsArguing book undone known s) (few : length known ≤ 18446744073709551615)
      (conflict : List Cid) (lemma : List ℕ) (lemma_is : IsLemmaOf book undone s conflict lemma) where
    abbrev pairs : List Pair
    pairs = held_decisions s.decisions conflict

    abbrev steps : List Removal
    steps = wiped_by s.engine lemma_is.flat.var

    right : IsRightLemma book undone known pairs steps lemma_is.flat.var (filter is_user conflict)
    right = lemma_right book is undone known s conflict (omega (arith, few, arguing.given.as_many)) arguing lemma_is.flat

    abbrev last_lemma : Lemma
    last_lemma = lemma_with book undone pairs steps

    abbrev behind : List Lemma → Draft
    behind ls = record { stage = Wiped; book = as_listed book; lemmas = ls ++ last_lemma ∷ []; begun = last_lemma; proved = log_pairs steps }

    module _ (text : List ℕ) (said : HasSaid book known text) where
      says_lemma : Reads proofs blank (text ++ lemma) (behind said.lemmas)
      says_lemma =
          let before : Draft = record { stage = said.stage; book = as_listed book; lemmas = said.lemmas; begun = said.begun; proved = said.proved } in
          let reads = lemma_reads book is said.lemmas known said.written few undone pairs steps lemma_is.flat.var (filter is_user conflict) right said.stage said.begun said.proved said.may in
          reads_then proofs blank before (behind said.lemmas) text lemma said.reads (subst (λ (t : List ℕ). Reads proofs before t (behind said.lemmas)) (sym lemma_is.is) reads)

      more : AreWritten book (said.lemmas ++ last_lemma ∷ []) (known ++ lemma_data s conflict ∷ [])
      more = more_written book is said.lemmas known said.written undone pairs steps lemma_is.flat.var (filter is_user conflict) right

      said_more : HasSaid book (known ++ lemma_data s conflict ∷ []) (text ++ lemma)
      said_more = record { stage = Wiped; may = λ named. tt; lemmas = said.lemmas ++ last_lemma ∷ []; begun = last_lemma; proved = log_pairs steps; written = more; reads = says_lemma }

      -- ---- the end

      module _ (users : List Cid) (undecided : decided_vars conflict ≡ []) (users_are : users ≡ filter is_user conflict) where
        picked : (used : List BookCon) × AreUsed (as_listed book) (said.lemmas ++ last_lemma ∷ []) last_lemma used × (map (λ c. c.name) used ≡ map (user_name book.constraints) (filter is_user conflict))
        picked =
            let one = lemma_data s conflict in
            let place : length known ≡ length said.lemmas = sym (as_many book is said.lemmas known said.written) in
            let at : slice_get (known ++ one ∷ []) (length said.lemmas) ≡ Some one = subst (λ k. slice_get (known ++ one ∷ []) k ≡ Some one) place (get_last known one) in
            lemma_users book is (said.lemmas ++ last_lemma ∷ []) (known ++ one ∷ []) more (length said.lemmas) last_lemma one (get_last said.lemmas last_lemma) at
            (rises_filter is_user conflict lemma_is.flat.is.rising) (λ u m. a_user u (filter_member is_user conflict u m).1)

        abbrev names : List (List ℕ)
        names = map (user_name book.constraints) users

        abbrev told : List Cid
        told = users_of picked.0

        named : names ≡ map (λ (c : BookCon). c.name) picked.0
        named = ap (λ (us : List Cid). map (user_name book.constraints) us) users_are ∙ sym picked.2

        listed_used : (c : BookCon) → Contains picked.0 c → Contains (as_listed book).constraints c
        listed_used c m = (picked_among (λ (o : BookCon). Uses (said.lemmas ++ last_lemma ∷ []) last_lemma o.number) (as_listed book).constraints picked.0 picked.1 c m).0

        -- each name is that of a listed constraint
        owner_of : (name : List ℕ) → Contains names name → (c : BookCon) × Contains (as_listed book).constraints c × (c.name ≡ name)
        owner_of name m =
            let r = member_unmap (λ (c : BookCon). c.name) picked.0 name (subst (λ (ns : List (List ℕ)). Contains ns name) named m) in
            (r.0, listed_used r.0 r.1, r.2)

        texts : All IsNameText names
        texts = all_members IsNameText names (λ name m.
            let o = owner_of name m in
            subst IsNameText o.2 (All-contains (λ (c : BookCon). IsNameText c.name) (as_listed book).constraints o.0 (own_book book is).constraint_names o.1))

        few_names : length names ≤ MOST_CONSTRAINTS
        few_names =
            let shorter = picked_fewer (λ (o : BookCon). Uses (said.lemmas ++ last_lemma ∷ []) last_lemma o.number) (as_listed book).constraints picked.0 picked.1 in
            let same = ap (λ (ns : List (List ℕ)). length ns) named in
            omega (arith, shorter, same, length-map picked.0 (λ (c : BookCon). c.name), (own_book book is).few_constraints)

        all_named : Any (λ name. HasConstraint (as_listed book) name → ⊥) names → ⊥
        all_named a =
            let n = member_any (λ name. HasConstraint (as_listed book) name → ⊥) names a in
            let o = owner_of n.0 n.1 in
            n.2 (any_member (λ (c : BookCon). c.name ≡ n.0) (as_listed book).constraints o.0 o.1 o.2)

        says_users : Reads proofs (behind said.lemmas) (none_line book users) (at_stage (behind said.lemmas) (Told told))
        says_users =
            let d = behind said.lemmas in
            let says = users_says names texts few_names in
            reads_line proofs d (at_stage d (Told told)) (spaced (lead_word NoSolutionLead ∷ names)) (none_line book users) refl says.0.plain
            (record {
              statement = Phrase (Users names);
              says = says;
              none =
                  no_cause (Meets d (Phrase (Users names))) (λ h. h refl) all_named (λ h. h) (λ h. h) (λ h. h)
                  (λ h. h (record { free = none_held s.decisions conflict undecided; used = picked.0; are_used = picked.1; named = named }));
              leads = (picked.0, picked.1, refl);
            })

        says_end : Reads proofs (at_stage (behind said.lemmas) (Told told)) (fixed_text EndWord) (at_stage (behind said.lemmas) (Closed told))
        says_end =
            let d = at_stage (behind said.lemmas) (Told told) in
            reads_line proofs d (at_stage (behind said.lemmas) (Closed told)) (fixed_word EndWord) (fixed_text EndWord) refl end_says.0.plain
            (record {
              statement = Phrase End;
              says = end_says;
              none = no_cause (Meets d (Phrase End)) (λ h. h tt) (λ h. h) (λ h. h) (λ h. h) (λ h. h) (λ h. h);
              leads = (told, refl, refl);
            })

        accepted_text : IsAccepted book users (text ++ lemma ++ none_line book users ++ fixed_text EndWord)
        accepted_text =
            let d = behind said.lemmas in
            let none = none_line book users in
            let fully = reads_then proofs blank d (at_stage d (Told told)) (text ++ lemma) none says_lemma says_users in
            let all = reads_then proofs blank (at_stage d (Told told)) (at_stage d (Closed told)) (text ++ lemma ++ none) (fixed_text EndWord) fully says_end in
            record {
              listed = told;
              verdict = reads_verdict proofs blank (text ++ lemma ++ none ++ fixed_text EndWord) (at_stage d (Closed told)) (Accepted (as_listed book) told) (λ n. refl) all;
              same = users_named book picked.0 listed_used ∙ sym named;
            }

  -- ---- along the turns

  -- behind turns that argued so much
  record HasArgued (argued : Argument) (t : SearchState) : Type 0 where
    known : List LemmaData
    arguing : IsArguing book argued.undone known t
    few : length known ≤ 18446744073709551615
    said : HasSaid book known (declarations book ++ argued.lemmas)

  argued_along : (guided ordered : Bool) (s : SearchState) (turns : List Turn) (t : SearchState) (taken : Turns guided ordered s turns t) (before after : Argument)
      → LeadsAlong (Argues book) (moments guided ordered s turns t taken) before after → (known : List LemmaData) → IsArguing book before.undone known s → length known + length turns ≤ 18446744073709551615
      → HasSaid book known (declarations book ++ before.lemmas) → HasArgued after t
  argued_along guided ordered s [] t taken before after leads known arguing few said =
      subst (λ (argued : Argument). HasArgued argued t) (sym leads) (subst (λ (z : SearchState). HasArgued before z) (sym taken) (record { known = known; arguing = arguing; few = omega (arith, few); said = said }))
  argued_along guided ordered s (TurnDecide pair pick ∷ turns) t taken before after leads known arguing few said =
      let same : leads.0 ≡ before = leads.1 in
      argued_along guided ordered taken.0 turns t taken.2 leads.0 after leads.2 known
      (subst (λ (argued : Argument). IsArguing book argued.undone known taken.0) (sym same) (knowing_decides guided ordered book before.undone known s pair pick taken.0 taken.1 arguing))
      (omega (arith, few)) (subst (λ (argued : Argument). HasSaid book known (declarations book ++ argued.lemmas)) (sym same) said)
  argued_along guided ordered s (TurnUndo gone conflict ∷ turns) t taken before after leads known arguing few said =
      let lemma = leads.1.0 in
      let same : leads.0 ≡ record { undone = before.undone ++ gone ∷ []; lemmas = before.lemmas ++ lemma } = leads.1.2 in
      let more = known ++ lemma_data s conflict ∷ [] in
      let text = declarations book ++ before.lemmas in
      let next = said_more before.undone known s arguing (omega (arith, few)) conflict lemma leads.1.1 text said in
      argued_along guided ordered taken.0 turns t taken.2 leads.0 after leads.2 more
      (subst (λ (argued : Argument). IsArguing book argued.undone more taken.0) (sym same) (knowing_undoes guided ordered book before.undone known s gone conflict taken.0 taken.1 arguing))
      (omega (arith, few, length-append known (lemma_data s conflict ∷ [])))
      (subst (λ (argued : Argument). HasSaid book more (declarations book ++ argued.lemmas)) (sym same) (subst (HasSaid book more) (append_assoc (declarations book) before.lemmas lemma) next))

  -- ---- the whole text

  ends_accepted : (argued : Argument) (t : SearchState) → HasArgued argued t → (users : List Cid) (text : List ℕ) → Concludes book argued.undone t (NoSolution users) text
      → IsAccepted book users (declarations book ++ argued.lemmas ++ text)
  ends_accepted argued t has users text ends =
      let none : HasNoSolution t.engine users = ends.0 in
      let lemma = ends.1 in
      let front = declarations book ++ argued.lemmas in
      let told = none_line book users in
      subst (IsAccepted book users)
      (ap (λ (t : List ℕ). t ++ fixed_text EndWord) (append_assoc front lemma told) ∙ append_assoc front (lemma ++ told) (fixed_text EndWord) ∙ ap (λ (back : List ℕ). front ++ back) (sym ends.3))
      (accepted_text argued.undone has.known t has.arguing has.few none.conflict lemma ends.2 front has.said users none.undecided none.are)

-- the text of a search that finds no solution is accepted
pub proofs_are_accepted : (guided ordered : Bool) (budget : ℕ) (book : Contents) (s : EngineState) (turns : List Turn) (users : List Cid) (t : EngineState) (text : List ℕ)
    → IsBook book → IsValid s → s.initial ≡ initial_of book → s.active ≡ active_of book → HasScopedReasons s → budget ≤ 18446744073709551615
    → Proves guided ordered budget book s turns (NoSolution users) t text → IsAccepted book users text
proofs_are_accepted guided ordered budget book s turns users t text is valid initial active scoped few proves =
    let run = proves.searches.run in
    let writes = proves.writes in
    let last = proves.searches.last in
    let first = knowing_start book ordered s run.start valid scoped initial active run.settles in
    let has = argued_along book is guided ordered run.start turns last run.taken unargued writes.argued writes.argues [] first (omega (arith, few, run.within)) (said_first book is) in
    subst (IsAccepted book users) (sym writes.is) (ends_accepted book is writes.argued last has users writes.conclusion writes.concludes)
