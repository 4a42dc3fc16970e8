-- From what was written when a run was broken off, some run goes on to its end.
use Rattle.std.proofs.Common.{◌≡◌, ℕ, ◌+◌, ◌-◌, ◌<◌, ◌≤◌, Bool, true, false, None, List, [], ◌∷◌, ◌++◌, length, Contains, refl, sym, ap, ◌∙◌, subst, arith, append_assoc, append-nil, length-append}
use Rattle.palm_base.specs.declared.terms.Pair.{Pair}
use Rattle.palm_base.specs.declared.terms.Cid.{Cid}
use Rattle.palm_base.specs.declared.terms.Cid.TheVariants.{Decide}
use Rattle.palm_base.proofs.cited.Members.{member_nil}
use Rattle.palm_model.specs.State.{EngineState, IsValid, present}
use Rattle.palm_events.proofs.cited.Reasons.{reasons_right}
use Rattle.palm_book.specs.Book.{Contents}
use Rattle.palm_lang.specs.Reply.{fixed_text, found_line, spent_line}
use Rattle.palm_lang.specs.declared.reply.Fixed.TheVariants.{End}
use Rattle.palm_engine.specs.Following.{LeadsAlong}
use Rattle.palm_engine.proofs.cited.Walking.{not_empty}
use Rattle.palm_search.specs.declared.ending.SearchEnd.{SearchEnd}
use Rattle.palm_search.specs.declared.ending.SearchEnd.TheVariants.{Found, NoSolution, Spent}
use Rattle.palm_search.specs.declared.turn.Pick.{Pick}
use Rattle.palm_search.specs.declared.turn.Pick.TheVariants.{NoGuide, Nothing}
use Rattle.palm_search.specs.declared.turn.Turn.{Turn}
use Rattle.palm_search.specs.declared.turn.Turn.TheVariants.{Decide as TurnDecide, Undo as TurnUndo}
use Rattle.palm_search.specs.Breaking.{HasTurned}
use Rattle.palm_search.specs.Following.{moments}
use Rattle.palm_search.specs.Kept.{HasOnlyUsers}
use Rattle.palm_search.specs.Search.{EndsWith, begun}
use Rattle.palm_search.specs.Search.GoesOn.{could_undo}
use Rattle.palm_search.specs.Turning.{IsBetween}
use Rattle.palm_search.specs.Turns.{FitsGuide, Follows as FollowsTurn, HasFlatConflict, SearchState, SettlesAfter, Turns}
use Rattle.palm_search.proofs.cited.Alone.{end_stops, flat_same, has_empty}
use Rattle.palm_search.proofs.cited.Going.{TurnsTo, settle_exists, turns_exist}
use Rattle.palm_search.proofs.cited.Keeping.{begins, follows_keep, settles_keep, turns_keep}
use Rattle.palm_search.proofs.cited.Leaving.{settles_still}
use Rattle.palm_search.proofs.cited.Running.{settled_same, unnegated_takes}
use Rattle.palm_search.proofs.cited.Whole.{closes_exist}
use Rattle.proof_run.specs.Lemma.{IsLemmaOf, held_decisions, text_of_lemma, wiped_by}
use Rattle.proof_run.specs.SoFar.{Follows, IsTextSoFar}
use Rattle.proof_run.specs.SoFar.Follows.{nothing, a_lemma, an_end}
use Rattle.proof_run.specs.SoFar.IsTextSoFar.{declaring, arguing}
use Rattle.proof_run.specs.Text.{Argument, Argues, Concludes, Proves, declarations, none_line, unargued}

-- ---- what turns argue

-- turns, and what they argue behind what was argued before them
record ArguesOn (book : Contents) (guided ordered : Bool) (s : SearchState) (turns : List Turn) (t : SearchState) (first last : Argument) : Type 0 where
  taken : Turns guided ordered s turns t
  argues : LeadsAlong (Argues book) (moments guided ordered s turns t taken) first last

argues_join : (book : Contents) (guided ordered : Bool) (s : SearchState) (turns : List Turn) (m : SearchState) (more : List Turn) (t : SearchState) (first middle last : Argument)
    → ArguesOn book guided ordered s turns m first middle → ArguesOn book guided ordered m more t middle last → ArguesOn book guided ordered s (turns ++ more) t first last
argues_join book guided ordered s [] m more t first middle last one then =
    subst (λ (a : Argument). ArguesOn book guided ordered s more t a last) one.argues (subst (λ (z : SearchState). ArguesOn book guided ordered z more t middle last) one.taken then)
argues_join book guided ordered s (turn ∷ turns) m more t first middle last one then =
    let rest = argues_join book guided ordered one.taken.0 turns m more t one.argues.0 middle last (record { taken = one.taken.2; argues = one.argues.2 }) then in
    record { taken = (one.taken.0, one.taken.1, rest.taken); argues = (one.argues.0, one.argues.1, rest.argues) }

-- what turns argue, and the lemmas that are new
record SomeArgument (book : Contents) (guided ordered : Bool) (s : SearchState) (turns : List Turn) (t : SearchState) (first : Argument) : Type 0 where
  last : Argument
  on : ArguesOn book guided ordered s turns t first last
  more : List ℕ
  lemmas : last.lemmas ≡ first.lemmas ++ more

decision_first : (book : Contents) (guided ordered : Bool) (s : SearchState) (pair : Pair) (pick : Pick) (m : SearchState) (turns : List Turn) (t : SearchState) (first : Argument) → FollowsTurn guided ordered s (TurnDecide pair pick) m
    → SomeArgument book guided ordered m turns t first → SomeArgument book guided ordered s (TurnDecide pair pick ∷ turns) t first
decision_first book guided ordered s pair pick m turns t first follows rest = record {
  last = rest.last;
  on = record { taken = (m, follows, rest.on.taken); argues = (first, refl, rest.on.argues) };
  more = rest.more;
  lemmas = rest.lemmas;
}

-- the pair is undone after the others, and its lemma comes behind theirs
abbrev undone_by : Argument → Pair → List ℕ → Argument
undone_by first gone lemma = record { undone = first.undone ++ gone ∷ []; lemmas = first.lemmas ++ lemma }

abbrev undoing_first : (book : Contents) (guided ordered : Bool) (s : SearchState) (gone : Pair) (conflict : List Cid) (m : SearchState) (turns : List Turn) (t : SearchState) (first : Argument) (lemma : List ℕ)
    → FollowsTurn guided ordered s (TurnUndo gone conflict) m → IsLemmaOf book first.undone s conflict lemma → SomeArgument book guided ordered m turns t (undone_by first gone lemma)
    → SomeArgument book guided ordered s (TurnUndo gone conflict ∷ turns) t first
undoing_first book guided ordered s gone conflict m turns t first lemma follows is rest = record {
  last = rest.last;
  on = record { taken = (m, follows, rest.on.taken); argues = (undone_by first gone lemma, (lemma, is, refl), rest.on.argues) };
  more = lemma ++ rest.more;
  lemmas = rest.lemmas ∙ append_assoc first.lemmas lemma rest.more;
}

-- the lemma of a flat conflict
the_lemma : (book : Contents) (undone : List Pair) (s : SearchState) (conflict : List Cid) → HasFlatConflict s.engine conflict → (lemma : List ℕ) × IsLemmaOf book undone s conflict lemma
the_lemma book undone s conflict flat =
    (text_of_lemma book undone (held_decisions s.decisions conflict) (wiped_by s.engine flat.var) flat.var, record { flat = flat; is = refl })

turns_argue : (book : Contents) (guided ordered : Bool) (s : SearchState) (turns : List Turn) (t : SearchState) (first : Argument) → Turns guided ordered s turns t → SomeArgument book guided ordered s turns t first
turns_argue book guided ordered s [] t first taken = record { last = first; on = record { taken = taken; argues = refl }; more = []; lemmas = sym (append-nil first.lemmas) }
turns_argue book guided ordered s (TurnDecide pair pick ∷ turns) t first taken =
    decision_first book guided ordered s pair pick taken.0 turns t first taken.1 (turns_argue book guided ordered taken.0 turns t first taken.2)
turns_argue book guided ordered s (TurnUndo gone conflict ∷ turns) t first taken =
    let lemma = the_lemma book first.undone s conflict taken.1.takes.flat in
    undoing_first book guided ordered s gone conflict taken.0 turns t first lemma.0 taken.1 lemma.1 (turns_argue book guided ordered taken.0 turns t (undone_by first gone lemma.0) taken.2)

-- ---- how it ends

-- each end is told in some text
concludes_so : (book : Contents) (undone : List Pair) (budget count : ℕ) (s : SearchState) (end : SearchEnd) → EndsWith budget count s.engine end → (text : List ℕ) × Concludes book undone s end text
concludes_so book undone budget count s (NoSolution users) ends =
    let lemma = the_lemma book undone s ends.conflict ends.flat in
    (lemma.0 ++ none_line book users ++ fixed_text End, (ends, lemma.0, lemma.1, refl))
concludes_so book undone budget count s (Found values) ends = (found_line book.variables values ++ fixed_text End, refl)
concludes_so book undone budget count s (Spent turns) ends = (spent_line turns None ++ fixed_text End, refl)

-- ---- the state after turns

-- what holds between two turns stays so
turns_between : (guided ordered : Bool) (s : SearchState) (turns : List Turn) (t : SearchState) → Turns guided ordered s turns t → IsBetween s → IsBetween t
turns_between guided ordered s [] t taken between = subst IsBetween (sym taken) between
turns_between guided ordered s (turn ∷ turns) t taken between =
    let follows = taken.1 in
    turns_between guided ordered taken.0 turns t taken.2 (record {
      searching = follows_keep reasons_right guided ordered s turn taken.0 follows between.searching;
      unnegated = settled_same ordered follows.middle taken.0 follows.settles (unnegated_takes guided s turn follows.middle follows.takes between);
      still = settles_still ordered follows.middle taken.0 follows.settles;
    })

start_between : (ordered : Bool) (s : EngineState) (start : SearchState) → IsValid s → HasOnlyUsers s → SettlesAfter ordered (begun s) start → IsBetween start
start_between ordered s start valid users settles = record {
  searching = settles_keep reasons_right ordered (begun s) start settles (begins s valid users);
  unnegated = λ p m is. member_nil p (subst (λ (l : List Pair). Contains l p) settles.decisions m);
  still = settles_still ordered (begun s) start settles;
}

-- ---- going on

-- what a guide may always answer
abbrev plain_pick : Bool → Pick
plain_pick true = Nothing
plain_pick false = NoGuide

plain_fits : (guided : Bool) → FitsGuide guided (plain_pick guided)
plain_fits true = tt
plain_fits false = tt

abbrev RunsOn : Bool → Bool → ℕ → ℕ → SearchState → Type 0
RunsOn guided ordered budget n s = TurnsTo guided ordered (λ k. plain_pick guided) budget n s

runs_on : (guided ordered : Bool) (budget n : ℕ) (s : SearchState) → n ≤ budget → IsBetween s → RunsOn guided ordered budget n s
runs_on guided ordered budget n s within between =
    turns_exist reasons_right guided ordered (budget - n) budget n (λ k. plain_pick guided) s (λ k. plain_fits guided) (omega arith) between.searching between.unnegated between.still

-- the first turn after a flat conflict that holds a decision undoes it, and so this lemma is argued
conflict_argues : (book : Contents) (guided ordered : Bool) (budget n : ℕ) (s : SearchState) (first : Argument) (conflict : List Cid) (x : ℕ) (lemma : List ℕ) → n < budget → Contains conflict (Decide x)
    → IsLemmaOf book first.undone s conflict lemma → (turns : List Turn) (t : SearchState) (end : SearchEnd) → Turns guided ordered s turns t → EndsWith budget (n + length turns) t.engine end
    → (a : SomeArgument book guided ordered s turns t first) × (more : List ℕ) × (a.more ≡ lemma ++ more)
conflict_argues book guided ordered budget n s first conflict x lemma lt held is [] t end taken ends =
    absurd (end_stops budget (n + 0) 0 s.engine end (subst (λ (z : SearchState). EndsWith budget (n + 0) z.engine end) taken ends) (omega arith) (could_undo x conflict is.flat held))
conflict_argues book guided ordered budget n s first conflict x lemma lt held is (TurnDecide pair pick ∷ turns) t end taken ends =
    absurd (not_empty (present s.engine) taken.1.takes.filled (has_empty s.engine conflict is.flat))
conflict_argues book guided ordered budget n s first conflict x lemma lt held is (TurnUndo gone names ∷ turns) t end taken ends =
    let same : conflict ≡ names = flat_same s.engine conflict names is.flat taken.1.takes.flat in
    let rest = turns_argue book guided ordered taken.0 turns t (undone_by first gone lemma) taken.2 in
    (undoing_first book guided ordered s gone names taken.0 turns t first lemma taken.1 (subst (λ (l : List Cid). IsLemmaOf book first.undone s l lemma) same is) rest, rest.more, refl)

-- ---- the whole text

-- a search from s whose text begins so
record ProvesOn (book : Contents) (guided ordered : Bool) (budget : ℕ) (s : EngineState) (text : List ℕ) : Type 0 where
  turns : List Turn
  end : SearchEnd
  state : EngineState
  whole : List ℕ
  back : List ℕ
  proves : Proves guided ordered budget book s turns end state whole
  is : whole ≡ text ++ back

regrouped : (d l m b c : List ℕ) → d ++ (l ++ (m ++ b)) ++ c ≡ d ++ l ++ m ++ (b ++ c)
regrouped d l m b c = simp append_assoc

module _ (book : Contents) (guided ordered : Bool) (budget : ℕ) (s : EngineState) (valid : IsValid s) (users : HasOnlyUsers s) where
  -- the turns have ended, and the rest of the lemmas and the conclusion follow
  whole_text : (turns : List Turn) (m : SearchState) (has : HasTurned guided ordered budget s turns m) (last : Argument) → LeadsAlong (Argues book) (moments guided ordered has.start turns m has.taken) unargued last
      → (end : SearchEnd) → EndsWith budget (length turns) m.engine end → (conclusion : List ℕ) → Concludes book last.undone m end conclusion → (text back : List ℕ) → declarations book ++ last.lemmas ++ conclusion ≡ text ++ back
      → ProvesOn book guided ordered budget s text
  whole_text turns m has last argues end ends conclusion concludes text back is =
      let searching = turns_keep reasons_right guided ordered has.start turns m has.taken (start_between ordered s has.start valid users has.settles).searching in
      let closed = closes_exist ordered m.engine searching.valid in
      record {
        turns = turns;
        end = end;
        state = closed.0;
        whole = declarations book ++ last.lemmas ++ conclusion;
        back = back;
        proves = record {
          searches = record { last = m; run = record { start = has.start; settles = has.settles; taken = has.taken; within = has.within; ends = ends }; closes = closed.1 };
          writes = record { argued = last; argues = argues; conclusion = conclusion; concludes = concludes; is = refl };
        };
        is = is;
      }

  -- the turns go on, and what they argue begins so
  then_text : (before : List Turn) (m : SearchState) (has : HasTurned guided ordered budget s before m) (argued : Argument) → LeadsAlong (Argues book) (moments guided ordered has.start before m has.taken) unargued argued
      → (runs : RunsOn guided ordered budget (length before) m) (a : SomeArgument book guided ordered m runs.turns runs.state argued) (more back : List ℕ) → a.more ≡ more ++ back
      → ProvesOn book guided ordered budget s (declarations book ++ argued.lemmas ++ more)
  then_text before m has argued argues runs a more back e =
      let joined = argues_join book guided ordered has.start before m runs.turns runs.state unargued argued a.last (record { taken = has.taken; argues = argues }) a.on in
      let count : length (before ++ runs.turns) ≡ length before + length runs.turns = length-append before runs.turns in
      let concluded = concludes_so book a.last.undone budget (length before + length runs.turns) runs.state runs.end runs.ends in
      let turned : HasTurned guided ordered budget s (before ++ runs.turns) runs.state = record {
        start = has.start;
        settles = has.settles;
        taken = joined.taken;
        within = subst (λ (k : ℕ). k ≤ budget) (sym count) runs.within;
      } in
      whole_text (before ++ runs.turns) runs.state turned a.last joined.argues runs.end (subst (λ (k : ℕ). EndsWith budget k runs.state.engine runs.end) (sym count) runs.ends) concluded.0 concluded.1
      (declarations book ++ argued.lemmas ++ more) (back ++ concluded.0)
      (ap (λ (l : List ℕ). declarations book ++ l ++ concluded.0) (a.lemmas ∙ ap (λ (l : List ℕ). argued.lemmas ++ l) e) ∙ regrouped (declarations book) argued.lemmas more back concluded.0)

  -- what may follow the lemmas of these turns
  follows_text : (before : List Turn) (m : SearchState) (has : HasTurned guided ordered budget s before m) (argued : Argument) → LeadsAlong (Argues book) (moments guided ordered has.start before m has.taken) unargued argued
      → (more : List ℕ) → Follows book argued.undone budget (length before) m more → ProvesOn book guided ordered budget s (declarations book ++ argued.lemmas ++ more)
  follows_text before m has argued argues more (nothing none) =
      let runs = runs_on guided ordered budget (length before) m has.within (turns_between guided ordered has.start before m has.taken (start_between ordered s has.start valid users has.settles)) in
      let a = turns_argue book guided ordered m runs.turns runs.state argued runs.run in
      then_text before m has argued argues runs a more a.more (ap (λ (l : List ℕ). l ++ a.more) (sym none))
  follows_text before m has argued argues more (a_lemma conflict lt held is) =
      let runs = runs_on guided ordered budget (length before) m has.within (turns_between guided ordered has.start before m has.taken (start_between ordered s has.start valid users has.settles)) in
      let r = conflict_argues book guided ordered budget (length before) m argued conflict held.0 more lt held.1 is runs.turns runs.state runs.end runs.run runs.ends in
      then_text before m has argued argues runs r.0 more r.1 r.2
  follows_text before m has argued argues more (an_end end ends concludes) =
      whole_text before m has argued argues end ends more concludes (declarations book ++ argued.lemmas ++ more) [] (sym (append-nil (declarations book ++ argued.lemmas ++ more)))

  so_far_goes_on : (turns : List Turn) (text : List ℕ) → IsTextSoFar book guided ordered budget s turns text → ProvesOn book guided ordered budget s text
  so_far_goes_on turns text (declaring none is) =
      let start = settle_exists ordered (begun s) valid in
      let has : HasTurned guided ordered budget s [] start.state = record { start = start.state; settles = start.settles; taken = refl; within = omega arith } in
      subst (ProvesOn book guided ordered budget s) (append-nil (declarations book ++ []) ∙ append-nil (declarations book) ∙ sym is) (follows_text [] start.state has unargued refl [] (nothing refl))
  so_far_goes_on turns text (arguing before cut m has argued more are few argues follows is) =
      subst (ProvesOn book guided ordered budget s) (sym is) (follows_text before m has argued argues more follows)

pub proofs_go_on : (guided ordered : Bool) (budget : ℕ) (book : Contents) (s : EngineState) (turns : List Turn) (text : List ℕ) → IsValid s → HasOnlyUsers s → IsTextSoFar book guided ordered budget s turns text
    → (all : List Turn) × (end : SearchEnd) × (t : EngineState) × (whole back : List ℕ) × Proves guided ordered budget book s all end t whole × (whole ≡ text ++ back)
proofs_go_on guided ordered budget book s turns text valid users so_far =
    let on = so_far_goes_on book guided ordered budget s valid users turns text so_far in
    (on.turns, on.end, on.state, on.whole, on.back, on.proves, on.is)
