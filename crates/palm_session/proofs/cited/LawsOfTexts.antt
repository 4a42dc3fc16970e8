-- The lines of a text are answered in one way.
use Rattle.std.proofs.Common.{◌≡◌, ℕ, List, [], ◌∷◌, ◌++◌, All, Contains, ◌⊎◌, inl, inr, refl, sym, ap, ◌∙◌, subst, append_assoc, append-nil}
use Rattle.std.proofs.lemmas.List.Elements.{All-nil, All-cons, All-head, All-tail, All-push, All-contains, Contains-append_right}
use Rattle.palm_base.proofs.cited.Members.{member_here}
use Rattle.palm_session.specs.State.{SessionState, IsState, fresh}
use Rattle.palm_read.specs.Lines.{AreLines, last_line, without_return}
use Rattle.palm_read.proofs.cited.Cutting.{has_lines, lines_once}
use Rattle.palm_session.specs.Answers.{Answers}
use Rattle.palm_session.specs.Replies.{Ends, GoesOn, KeepsOn, Run, AreAnswered, all, until, Replies, ChoosesObject, ChoosesNone, KeepsNoneChosen}
use Rattle.palm_session.proofs.cited.FeedLemmas.{keeps_on, keeps_on_last, run_then}
use Rattle.palm_session.proofs.cited.LawsOfAnswers.{has_answer, answers_keep, answers_without, answers_once}
use Rattle.palm_session.proofs.LawsOfLines.{quit_known}
use Rattle.palm_session.proofs.cited.LawsOfChanges.{IsWithout}
use Rattle.palm_session.proofs.cited.LawsOfStates.{fresh_is}

-- ---- the lines that are answered

-- the first line that ends the session
record FirstEnd (lines : List (List ℕ)) : Type 0 where
  before : List (List ℕ)
  after : List (List ℕ)
  last : List ℕ
  goes_on : All GoesOn before
  ends : Ends last
  whole : lines ≡ before ++ last ∷ after

first_end : (lines : List (List ℕ)) → FirstEnd lines ⊎ All GoesOn lines
first_end [] = inr (All-nil GoesOn)
first_end (l ∷ ls) = elim (quit_known l) [
  | inl e ↦ inl (record { before = []; after = ls; last = l; goes_on = All-nil GoesOn; ends = e; whole = refl })
  | inr n ↦ elim (first_end ls) [
    | inl f ↦ inl (record {
      before = l ∷ f.before;
      after = f.after;
      last = f.last;
      goes_on = All-cons GoesOn l f.before n f.goes_on;
      ends = f.ends;
      whole = ap (λ (z : List (List ℕ)). l ∷ z) f.whole;
    })
    | inr none ↦ inr (All-cons GoesOn l ls n none)
  ]
]

-- a last line goes on, or ends the session
pub last_known : (line : List ℕ) → All GoesOn (last_line line) ⊎ All Ends (last_line line)
last_known [] = inl (All-nil GoesOn)
last_known (b ∷ bs) = elim (quit_known (without_return (b ∷ bs))) [
  | inl e ↦ inr (All-cons Ends (without_return (b ∷ bs)) [] e (All-nil Ends))
  | inr n ↦ inl (All-cons GoesOn (without_return (b ∷ bs)) [] n (All-nil GoesOn))
]

has_answered : (lines : List (List ℕ)) → (answered : List (List ℕ)) × AreAnswered lines answered
has_answered lines = elim (first_end lines) [
  | inl f ↦ (f.before ++ f.last ∷ [], until f.before f.after f.last f.goes_on f.ends f.whole)
  | inr none ↦ (lines, all none)
]

-- no line ends the session where all go on
no_end : (lines before after : List (List ℕ)) (last : List ℕ) → All GoesOn lines → Ends last → lines ≡ before ++ last ∷ after → ⊥
no_end lines before after last on ends e =
    let m : Contains (before ++ last ∷ after) last = Contains-append_right before (last ∷ after) last (member_here last after) in
    All-contains GoesOn lines last on (subst (λ (z : List (List ℕ)). Contains z last) (sym e) m) ends

ends_once : (a b x y : List (List ℕ)) (k l : List ℕ) → All GoesOn a → All GoesOn b → Ends k → Ends l → a ++ k ∷ x ≡ b ++ l ∷ y → a ++ k ∷ [] ≡ b ++ l ∷ []
ends_once [] [] x y k l on too e f is = let h : k ≡ l = cc in ap (λ (z : List ℕ). z ∷ []) h
ends_once [] (m ∷ b) x y k l on too e f is = let h : k ≡ m = cc in absurd (All-head GoesOn m b too (subst Ends h e))
ends_once (m ∷ a) [] x y k l on too e f is = let h : l ≡ m = cc in absurd (All-head GoesOn m a on (subst Ends h f))
ends_once (m ∷ a) (n ∷ b) x y k l on too e f is =
    let h : m ≡ n = cc in
    let t : a ++ k ∷ x ≡ b ++ l ∷ y = cc in
    let r : a ++ k ∷ [] ≡ b ++ l ∷ [] = ends_once a b x y k l (All-tail GoesOn m a on) (All-tail GoesOn n b too) e f t in
    cc

answered_once : (lines xs ys : List (List ℕ)) → AreAnswered lines xs → AreAnswered lines ys → xs ≡ ys
answered_once lines xs ys (all on) (all too) = refl
answered_once lines xs ys (all on) (until before after last on_too ends is) = absurd (no_end lines before after last on ends is)
answered_once lines xs ys (until before after last on ends is) (all too) = absurd (no_end lines before after last too ends is)
answered_once lines xs ys (until a x k on e is) (until b y l too f other) = ends_once a b x y k l on too e f (sym is ∙ other)

-- ---- a run

pub has_run : (s : SessionState) (lines : List (List ℕ)) → IsState s → (replies : List ℕ) × (t : SessionState) × Run s lines replies t
has_run s [] is = ([], s, (refl, refl))
has_run s (l ∷ ls) is =
    let one = has_answer s is l in
    let rest = has_run one.1 ls (answers_keep s l one.0 one.1 is one.2) in
    (one.0 ++ rest.0, rest.1, (one.0, rest.0, one.1, one.2, refl, rest.2))

-- what is held after the lines is again a state that a session can hold
pub run_keeps : (s : SessionState) (lines : List (List ℕ)) (replies : List ℕ) (t : SessionState) → IsState s → Run s lines replies t → IsState t
run_keeps s [] replies t is run = subst IsState (sym run.1) is
run_keeps s (l ∷ ls) replies t is run = run_keeps run.2 ls run.1 t (answers_keep s l run.0 run.2 is run.3) run.5

-- ---- no guide and no order is chosen

-- lines that choose none leave none chosen
run_without : (guides orders : List ℕ) (s : SessionState) (lines : List (List ℕ)) (replies : List ℕ) (t : SessionState) → IsWithout guides orders s
    → All (λ line. ChoosesObject guides orders line → ⊥) lines → Run s lines replies t → IsWithout guides orders t
run_without guides orders s [] replies t free none run = subst (IsWithout guides orders) (sym run.1) free
run_without guides orders s (l ∷ ls) replies t free none run =
    let here : ChoosesObject guides orders l → ⊥ = All-head (λ line. ChoosesObject guides orders line → ⊥) l ls none in
    run_without guides orders run.2 ls run.1 t (answers_without guides orders s l run.0 run.2 here run.3 free) (All-tail (λ line. ChoosesObject guides orders line → ⊥) l ls none) run.5

all_front : (P : List ℕ → Type 0) (xs ys : List (List ℕ)) → All P (xs ++ ys) → All P xs
all_front P [] ys h = All-nil P
all_front P (x ∷ xs) ys h = All-cons P x xs (All-head P x (xs ++ ys) h) (all_front P xs ys (All-tail P x (xs ++ ys) h))

pub none_chosen : (guides orders text : List ℕ) → ChoosesNone guides orders text → KeepsNoneChosen guides orders text
none_chosen guides orders text none before after line replies s lines on run =
    let start : IsWithout guides orders (fresh guides orders) = record { unguided = refl; free = refl; guides_within = λ n c. c; orders_within = λ n c. c } in
    let others : All (λ l. ChoosesObject guides orders l → ⊥) before = all_front (λ l. ChoosesObject guides orders l → ⊥) before (line ∷ after) (none (before ++ line ∷ after) lines) in
    let free = run_without guides orders (fresh guides orders) before replies s start others run in
    (free.unguided, free.free)

-- ---- a text has one output

-- the lines that are answered are the first ones
pub record Front (lines answered : List (List ℕ)) : Type 0 where
  pub others : List (List ℕ)
  pub whole : lines ≡ answered ++ others
  pub keeps : KeepsOn answered

pub front_of : (lines answered : List (List ℕ)) → AreAnswered lines answered → Front lines answered
front_of lines answered (all on) = record { others = []; whole = sym (append-nil lines); keeps = keeps_on lines on }
front_of lines answered (until before after last on ends is) = record {
  others = after;
  whole = is ∙ sym (append_assoc before (last ∷ []) after);
  keeps = keeps_on_last before last on;
}

one_line : (s t : SessionState) (line reply : List ℕ) → Answers s line reply t → Run s (line ∷ []) reply t
one_line s t line reply a = (reply, [], t, a, sym (append-nil reply), (refl, refl))

-- behind the first lines of the text the next ones are answered in one way
run_once : (guides orders text : List ℕ) → KeepsNoneChosen guides orders text → (before : List (List ℕ)) (said : List ℕ) (s : SessionState) (lines after : List (List ℕ)) (a b : List ℕ) (t u : SessionState)
    → AreLines text (before ++ (lines ++ after)) → All GoesOn before → Run (fresh guides orders) before said s → IsState s → KeepsOn lines → Run s lines a t → Run s lines b u → a ≡ b
run_once guides orders text none before said s [] after a b t u cut on run is keeps x y = x.0 ∙ sym y.0
run_once guides orders text none before said s (l ∷ []) after a b t u cut on run is keeps x y =
    let free = none before after l said s cut on run in
    let one = answers_once s l x.0 y.0 x.2 y.2 free.0 free.1 is x.3 y.3 in
    x.4 ∙ ap (λ (z : List ℕ). z ++ x.1) one.0 ∙ ap (λ (z : List ℕ). y.0 ++ z) (x.5.0 ∙ sym y.5.0) ∙ sym y.4
run_once guides orders text none before said s (l ∷ m ∷ ms) after a b t u cut on run is keeps x y =
    let free = none before ((m ∷ ms) ++ after) l said s cut on run in
    let one = answers_once s l x.0 y.0 x.2 y.2 free.0 free.1 is x.3 y.3 in
    let next : Run x.2 (m ∷ ms) y.1 u = subst (λ (z : SessionState). Run z (m ∷ ms) y.1 u) (sym one.1) y.5 in
    let there : AreLines text ((before ++ l ∷ []) ++ ((m ∷ ms) ++ after)) = subst (λ (ls : List (List ℕ)). AreLines text ls) (sym (append_assoc before (l ∷ []) ((m ∷ ms) ++ after))) cut in
    let more : Run (fresh guides orders) (before ++ l ∷ []) (said ++ x.0) x.2 = run_then (fresh guides orders) s x.2 before (l ∷ []) said x.0 run (one_line s x.2 l x.0 x.3) in
    let others : x.1 ≡ y.1 = run_once guides orders text none (before ++ l ∷ []) (said ++ x.0) x.2 (m ∷ ms) after x.1 y.1 t u there (All-push GoesOn before l on keeps.0) more
    (answers_keep s l x.0 x.2 is x.3) keeps.1 x.5 next in
    x.4 ∙ ap (λ (z : List ℕ). z ++ x.1) one.0 ∙ ap (λ (z : List ℕ). y.0 ++ z) others ∙ sym y.4

pub output_once : (guides orders text a b : List ℕ) → KeepsNoneChosen guides orders text → Replies guides orders text a → Replies guides orders text b → a ≡ b
output_once guides orders text a b none x y =
    let lines : x.lines ≡ y.lines = lines_once text x.lines y.lines x.are_lines y.are_lines in
    let there : AreAnswered x.lines y.answered = subst (λ (z : List (List ℕ)). AreAnswered z y.answered) (sym lines) y.are_answered in
    let same : x.answered ≡ y.answered = answered_once x.lines x.answered y.answered x.are_answered there in
    let run : Run (fresh guides orders) x.answered b y.state = subst (λ (z : List (List ℕ)). Run (fresh guides orders) z b y.state) (sym same) y.run in
    let front = front_of x.lines x.answered x.are_answered in
    run_once guides orders text none [] [] (fresh guides orders) x.answered front.others a b x.state y.state (subst (λ (ls : List (List ℕ)). AreLines text ls) front.whole x.are_lines) (All-nil GoesOn)
    (refl, refl) (fresh_is guides orders) front.keeps x.run run

pub has_output : (guides orders text : List ℕ) → (output : List ℕ) × Replies guides orders text output
has_output guides orders text =
    let lines = has_lines text in
    let answered = has_answered lines.0 in
    let run = has_run (fresh guides orders) answered.0 (fresh_is guides orders) in
    (run.0, record { lines = lines.0; answered = answered.0; state = run.1; are_lines = lines.1; are_answered = answered.1; run = run.2 })
