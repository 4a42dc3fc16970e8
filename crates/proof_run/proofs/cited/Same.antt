-- Without a guide and an order two searches from one state write one text.
use Rattle.std.proofs.Common.{◌≡◌, ℕ, false, List, [], ◌∷◌, ◌++◌, sym, ap, ◌∙◌, subst, arith}
use Rattle.palm_base.specs.declared.terms.Cid.{Cid}
use Rattle.palm_base.specs.declared.terms.Pair.{Pair}
use Rattle.palm_book.specs.Book.{Contents}
use Rattle.palm_engine.specs.Following.{LeadsAlong}
use Rattle.palm_events.proofs.cited.Reasons.{reasons_right}
use Rattle.palm_lang.specs.Reply.{fixed_text}
use Rattle.palm_lang.specs.declared.reply.Fixed.TheVariants.{End}
use Rattle.palm_model.specs.State.{EngineState, IsValid}
use Rattle.palm_search.specs.declared.ending.SearchEnd.{SearchEnd}
use Rattle.palm_search.specs.declared.ending.SearchEnd.TheVariants.{Found, NoSolution, Spent}
use Rattle.palm_search.specs.declared.turn.Turn.{Turn}
use Rattle.palm_search.specs.declared.turn.Turn.TheVariants.{Decide as TurnDecide, Undo as TurnUndo}
use Rattle.palm_search.specs.Following.{moments}
use Rattle.palm_search.specs.Kept.{HasOnlyUsers, IsSearching}
use Rattle.palm_search.specs.Search.{begun}
use Rattle.palm_search.specs.Turns.{SearchState, HasFlatConflict, Turns}
use Rattle.palm_search.proofs.cited.Alone.{flat_same, follows_same, run_same, settles_same}
use Rattle.palm_search.proofs.cited.Keeping.{begins, settles_keep, takes_keep}
use Rattle.proof_run.specs.Lemma.{IsLemmaOf, held_decisions, text_of_lemma, wiped_by}
use Rattle.proof_run.specs.Text.{Argument, Argues, Concludes, Proves, declarations, none_line, unargued}

-- ---- one conflict

-- the emptied variable is the lowest one
emptied_same : (s : EngineState) (one other : List Cid) (a : HasFlatConflict s one) (b : HasFlatConflict s other) → a.var ≡ b.var
emptied_same s one other a b =
    let below = a.lowest b.var b.empty in
    let above = b.lowest a.var a.empty in
    omega (arith, below, above)

pub lemma_same : (book : Contents) (undone : List Pair) (s : SearchState) (one other : List Cid) (first second : List ℕ) → IsLemmaOf book undone s one first → IsLemmaOf book undone s other second → first ≡ second
lemma_same book undone s one other first second a b =
    let cids : one ≡ other = flat_same s.engine one other a.flat b.flat in
    let x : a.flat.var ≡ b.flat.var = emptied_same s.engine one other a.flat b.flat in
    a.is ∙ (λ i. text_of_lemma book undone (held_decisions s.decisions (cids i)) (wiped_by s.engine (x i)) (x i)) ∙ sym b.is

-- ---- the turns

argued_same : (book : Contents) (s : SearchState) → IsSearching s → (turns : List Turn) (t u : SearchState) (first last other : Argument) (one : Turns false false s turns t) (two : Turns false false s turns u)
    → LeadsAlong (Argues book) (moments false false s turns t one) first last → LeadsAlong (Argues book) (moments false false s turns u two) first other → (t ≡ u) × (last ≡ other)
argued_same book s searching [] t u first last other one two a b = (one ∙ sym two, a ∙ sym b)
argued_same book s searching (TurnDecide pair pick ∷ turns) t u first last other one two a b =
    let same = follows_same s searching (TurnDecide pair pick) one.0 (TurnDecide pair pick) two.0 one.1 two.1 in
    let next = settles_keep reasons_right false one.1.middle one.0 one.1.settles (takes_keep false s (TurnDecide pair pick) one.1.middle one.1.takes searching) in
    let moved : (w : Turns false false one.0 turns u) × LeadsAlong (Argues book) (moments false false one.0 turns u w) first other =
    subst (λ (z : SearchState). (w : Turns false false z turns u) × LeadsAlong (Argues book) (moments false false z turns u w) first other) (sym same.state)
    (two.2, subst (λ (z : Argument). LeadsAlong (Argues book) (moments false false two.0 turns u two.2) z other) b.1 b.2) in
    argued_same book one.0 next turns t u first last other one.2 moved.0
    (subst (λ (z : Argument). LeadsAlong (Argues book) (moments false false one.0 turns t one.2) z last) a.1 a.2) moved.1
argued_same book s searching (TurnUndo gone conflict ∷ turns) t u first last other one two a b =
    let turn = TurnUndo gone conflict in
    let same = follows_same s searching turn one.0 turn two.0 one.1 two.1 in
    let next = settles_keep reasons_right false one.1.middle one.0 one.1.settles (takes_keep false s turn one.1.middle one.1.takes searching) in
    let text : a.1.0 ≡ b.1.0 = lemma_same book first.undone s conflict conflict a.1.0 b.1.0 a.1.1 b.1.1 in
    let after : Argument = record { undone = first.undone ++ gone ∷ []; lemmas = first.lemmas ++ a.1.0 } in
    let there : b.0 ≡ after = b.1.2 ∙ ap (λ (l : List ℕ). let z : Argument = record { undone = first.undone ++ gone ∷ []; lemmas = first.lemmas ++ l } in z) (sym text) in
    let moved : (w : Turns false false one.0 turns u) × LeadsAlong (Argues book) (moments false false one.0 turns u w) after other =
    subst (λ (z : SearchState). (w : Turns false false z turns u) × LeadsAlong (Argues book) (moments false false z turns u w) after other) (sym same.state)
    (two.2, subst (λ (z : Argument). LeadsAlong (Argues book) (moments false false two.0 turns u two.2) z other) there b.2) in
    argued_same book one.0 next turns t u after last other one.2 moved.0
    (subst (λ (z : Argument). LeadsAlong (Argues book) (moments false false one.0 turns t one.2) z last) a.1.2 a.2) moved.1

-- ---- how it ends

concluded_same : (book : Contents) (undone : List Pair) (s : SearchState) (end : SearchEnd) (one other : List ℕ) → Concludes book undone s end one → Concludes book undone s end other → one ≡ other
concluded_same book undone s (NoSolution users) one other a b =
    a.3 ∙ ap (λ (l : List ℕ). l ++ none_line book users ++ fixed_text End) (lemma_same book undone s a.0.conflict b.0.conflict a.1 b.1 a.2 b.2) ∙ sym b.3
concluded_same book undone s (Found values) one other a b = a ∙ sym b
concluded_same book undone s (Spent turns) one other a b = a ∙ sym b

-- ---- the whole text

pub proof_same : (budget : ℕ) (book : Contents) (s : EngineState) (turns others : List Turn) (end other : SearchEnd) (t u : EngineState) (text reply : List ℕ) → IsValid s → HasOnlyUsers s
    → Proves false false budget book s turns end t text → Proves false false budget book s others other u reply → text ≡ reply
proof_same budget book s turns others end other t u text reply valid users one two =
    let a = one.searches.run in
    let b = two.searches.run in
    let runs = run_same reasons_right budget s valid users turns end one.searches.last others other two.searches.last a b in
    let start : a.start ≡ b.start = settles_same (begun s) a.start b.start valid a.settles b.settles in
    let searching = settles_keep reasons_right false (begun s) a.start a.settles (begins s valid users) in
    let moved : (w : Turns false false a.start turns two.searches.last) × LeadsAlong (Argues book) (moments false false a.start turns two.searches.last w) unargued two.writes.argued =
    subst (λ (z : SearchState). (w : Turns false false z turns two.searches.last) × LeadsAlong (Argues book) (moments false false z turns two.searches.last w) unargued two.writes.argued) (sym start)
    (subst (λ (l : List Turn). (w : Turns false false b.start l two.searches.last) × LeadsAlong (Argues book) (moments false false b.start l two.searches.last w) unargued two.writes.argued) (sym runs.turns_same) (b.taken, two.writes.argues)) in
    let same = argued_same book a.start searching turns one.searches.last two.searches.last unargued one.writes.argued two.writes.argued a.taken moved.0 one.writes.argues moved.1 in
    let there : Concludes book one.writes.argued.undone one.searches.last end two.writes.conclusion =
    subst (λ (x : Argument). Concludes book x.undone one.searches.last end two.writes.conclusion) (sym same.1)
    (subst (λ (z : SearchState). Concludes book two.writes.argued.undone z end two.writes.conclusion) (sym same.0)
    (subst (λ (e : SearchEnd). Concludes book two.writes.argued.undone two.searches.last e two.writes.conclusion) (sym runs.end_same) two.writes.concludes)) in
    let ends = concluded_same book one.writes.argued.undone one.searches.last end one.writes.conclusion two.writes.conclusion one.writes.concludes there in
    one.writes.is ∙ (λ i. declarations book ++ (same.1 i).lemmas ++ ends i) ∙ sym two.writes.is
