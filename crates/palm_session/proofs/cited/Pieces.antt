-- Lines that are fed in pieces.
use Rattle.std.proofs.Common.{◌≡◌, ◌≢◌, ℕ, ◌+◌, List, [], ◌∷◌, ◌++◌, ◌⊎◌, inl, inr, map, flat_map, take, length, All, Contains, Option, refl, sym, ap, ◌∙◌, subst, arith, append_assoc, append-nil, length-append}
use Rattle.std.proofs.lemmas.List.{nil_from_length}
use Rattle.std.proofs.lemmas.List.Elements.{All-nil, All-append, All-contains, All-head, All-tail, All-take, Contains-append_right}
use Rattle.palm_base.proofs.cited.Members.{member_here}
use Rattle.palm_base.specs.Streams.{Appended}
use Rattle.palm_lang.specs.Writing.{AppendedUntil, IsLeft}
use Rattle.palm_lang.specs.declared.stop.WriteStop.{WriteStop}
use Rattle.palm_lang.specs.declared.stop.WriteStop.TheVariants.{NoMemory, WriteFault}
use Rattle.palm_read.specs.Lines.{HasNoFeed, ended, without_return}
use Rattle.palm_read.specs.declared.line.Line.TheVariants.{Quit as QuitLine}
use Rattle.palm_read.specs.declared.mode.Mode.TheVariants.{One}
use Rattle.palm_session.specs.Answers.{Answers}
use Rattle.palm_session.specs.Feeding.{AnswersFront, AnswersWhole, FeedsEnd, FeedsOn, FeedsPart, KeepsRest}
use Rattle.palm_session.specs.Replies.{Answered, Ends, GoesOn, Run}
use Rattle.palm_session.specs.State.{SessionState, IsState}
use Rattle.palm_session.specs.declared.going.Going.TheVariants.{More, Quit}
use Rattle.palm_session.specs.declared.limits.TheConstants.{MOST_KEPT_BYTES}
use Rattle.palm_session.proofs.LawsOfLines.{quit_known}
use Rattle.palm_session.proofs.cited.Asked.{answered_of}
use Rattle.palm_session.proofs.cited.LawsOfAnswers.{first_bytes_decide, first_bytes_read, has_answer}

-- whether a line ends the session
pub ends_decided : (line : List ℕ) → Ends line ⊎ GoesOn line
ends_decided line = quit_known line

-- ---- the lines of a text without a line feed, and of one with a line feed at its end

abbrev IsNoFeed : ℕ → Type 0
IsNoFeed b = b ≢ 10

-- a text that begins with a line
begins : (line : List ℕ) (lines : List (List ℕ)) (rest : List ℕ)
    → flat_map ended (line ∷ lines) ++ rest ≡ line ++ 10 ∷ (flat_map ended lines ++ rest)
begins line lines rest =
    append_assoc (ended line) (flat_map ended lines) rest ∙ append_assoc line (10 ∷ []) (flat_map ended lines ++ rest)

-- what has no line feed begins with no line
unbegun : (text line more : List ℕ) → HasNoFeed text → text ≡ line ++ 10 ∷ more → ⊥
unbegun text line more none e =
    let m : Contains (line ++ 10 ∷ more) 10 = Contains-append_right line (10 ∷ more) 10 (member_here 10 more) in
    All-contains IsNoFeed text 10 none (subst (λ (z : List ℕ). Contains z 10) (sym e) m) refl

-- what stands before the first line feed, and what behind it
split_once : (a b x y : List ℕ) → HasNoFeed a → HasNoFeed b → a ++ 10 ∷ x ≡ b ++ 10 ∷ y → (a ≡ b) × (x ≡ y)
split_once [] [] x y na nb e = let t : x ≡ y = cc in (refl, t)
split_once [] (c ∷ b) x y na nb e = let h : c ≡ 10 = cc in absurd (All-head IsNoFeed c b nb h)
split_once (c ∷ a) [] x y na nb e = let h : c ≡ 10 = cc in absurd (All-head IsNoFeed c a na h)
split_once (c ∷ a) (d ∷ b) x y na nb e =
    let h : c ≡ d = cc in
    let t : a ++ 10 ∷ x ≡ b ++ 10 ∷ y = cc in
    let r = split_once a b x y (All-tail IsNoFeed c a na) (All-tail IsNoFeed d b nb) t in
    let s : a ≡ b = r.0 in
    let both : c ∷ a ≡ d ∷ b = cc in
    (both, r.1)

-- without a line feed no line is complete
no_lines : (text : List ℕ) (lines : List (List ℕ)) (rest : List ℕ) → HasNoFeed text → text ≡ flat_map ended lines ++ rest
    → (lines ≡ []) × (rest ≡ text)
no_lines text [] rest none e = (refl, sym e)
no_lines text (l ∷ ls) rest none e = absurd (unbegun text l (flat_map ended ls ++ rest) none (e ∙ begins l ls rest))

-- with one at the end no line is complete, or the one
one_at_most : (line : List ℕ) (lines : List (List ℕ)) (rest : List ℕ) → HasNoFeed line → All HasNoFeed lines
    → ended line ≡ flat_map ended lines ++ rest → (lines ≡ []) ⊎ ((lines ≡ line ∷ []) × (rest ≡ []))
one_at_most line [] rest none unbroken e = inl refl
one_at_most line (l ∷ ls) rest none unbroken e =
    let others : List ℕ = flat_map ended ls ++ rest in
    let s = split_once line l [] others none (All-head HasNoFeed l ls unbroken) (e ∙ begins l ls rest) in
    let n = no_lines [] ls rest (All-nil IsNoFeed) s.1 in
    inr (ap (λ (z : List ℕ). z ∷ ls) (sym s.0) ∙ ap (λ (z : List (List ℕ)). line ∷ z) n.0, n.1)

-- where there is a last line there are lines
never_none : (lines : List (List ℕ)) (last : List ℕ) → lines ++ last ∷ [] ≡ [] → ⊥
never_none [] last e = cc
never_none (l ∷ ls) last e = cc

-- where there is one line, it is the last
last_of_one : (lines : List (List ℕ)) (last line : List ℕ) → lines ++ last ∷ [] ≡ line ∷ [] → last ≡ line
last_of_one [] last line e = cc
last_of_one (l ∷ ls) last line e = let t : ls ++ last ∷ [] ≡ [] = cc in absurd (never_none ls last t)

-- ---- what was answered

-- where no line was, there is no reply, and the state stays
none_said : {s t : SessionState} {text rest replies : List ℕ} (lines : List (List ℕ)) → lines ≡ []
    → Answered s text lines rest replies t → (replies ≡ []) × (t ≡ s)
none_said [] none answered = answered.run
none_said (l ∷ ls) none answered = cc

-- where one line was, these are the replies to it
one_said : (s t : SessionState) (line replies : List ℕ) {text rest : List ℕ} {lines : List (List ℕ)} → lines ≡ line ∷ []
    → Answered s text lines rest replies t → Answers s (without_return line) replies t
one_said s t line replies one answered =
    let lines_run = subst (λ (z : List (List ℕ)). Run s (map without_return z) replies t) one answered.run in
    let run : Run s (without_return line ∷ []) replies t = lines_run in
    let same : replies ≡ run.0 = run.4 ∙ ap (λ (z : List ℕ). run.0 ++ z) run.5.0 ∙ append-nil run.0 in
    subst (λ (z : SessionState). Answers s (without_return line) replies z) (sym run.5.1)
    (subst (λ (z : List ℕ). Answers s (without_return line) z run.2) (sym same) run.3)

-- of no reply nothing is written, and no write of it fails
stopped_at_nothing : (stop : WriteStop) (was now : Option (List ℕ)) → AppendedUntil stop was now [] → (stop ≡ NoMemory) × Appended was now []
stopped_at_nothing WriteFault was now w =
    let none : 0 ≡ length w.front + length w.back = ap (λ (z : List ℕ). length z) w.whole ∙ length-append w.front w.back in
    absurd (omega (arith, none, w.left))
stopped_at_nothing NoMemory was now w =
    let none : 0 ≡ length w.front + length w.back = ap (λ (z : List ℕ). length z) w.whole ∙ length-append w.front w.back in
    (refl, subst (λ (z : List ℕ). Appended was now z) (nil_from_length w.front (omega (arith, none))) w.written)

-- ---- a piece without a line feed

no_feeds : (before piece : List ℕ) → HasNoFeed before → HasNoFeed piece → HasNoFeed (before ++ piece)
no_feeds before piece unbroken more = All-append IsNoFeed before piece unbroken more

-- it is kept behind what was kept, and answers nothing
pub piece_kept : (s t : SessionState) (before piece after : List ℕ) (was now : Option (List ℕ)) (asked : ℕ)
    → HasNoFeed before → HasNoFeed piece → KeepsRest s (before ++ piece) was now after t asked
    → (t ≡ s) × Appended was now [] × (after ≡ take MOST_KEPT_BYTES (before ++ piece))
piece_kept s t before piece after was now asked unbroken more keeps =
    let on : FeedsOn s (before ++ piece) was now keeps.rest t asked = keeps.feeds in
    let none = no_lines (before ++ piece) on.lines keeps.rest (no_feeds before piece unbroken more) on.answered.whole in
    let said = none_said on.lines none.0 (answered_of _ _ _ _ _ _ _ on.answered) in (
      said.1,
      subst (λ (z : List ℕ). Appended was now z) said.0 on.written,
      keeps.kept ∙ ap (λ (z : List ℕ). take MOST_KEPT_BYTES z) none.1,
    )

-- it does not end the session
pub piece_unended : (s t : SessionState) (before piece : List ℕ) (was now : Option (List ℕ)) (asked : ℕ)
    → HasNoFeed before → HasNoFeed piece → FeedsEnd s (before ++ piece) was now t asked → ⊥
piece_unended s t before piece was now asked unbroken more end =
    let none = no_lines (before ++ piece) (end.lines ++ end.last ∷ []) end.rest (no_feeds before piece unbroken more) end.answered.whole in
    never_none end.lines end.last none.0

-- memory alone can stop it, and nothing is written
pub piece_stopped : (stop : WriteStop) (s : SessionState) (before piece : List ℕ) (was now : Option (List ℕ))
    → HasNoFeed before → HasNoFeed piece → FeedsPart stop s (before ++ piece) was now → (stop ≡ NoMemory) × Appended was now []
piece_stopped stop s before piece was now unbroken more part =
    let none = no_lines (before ++ piece) part.lines part.rest (no_feeds before piece unbroken more) part.answered.whole in
    let said = none_said part.lines none.0 part.answered in
    stopped_at_nothing stop was now (subst (λ (z : List ℕ). AppendedUntil stop was now z) said.0 part.written)

-- ---- a line of which the first bytes were kept

abbrev kept_of : List ℕ → List ℕ
kept_of line = take MOST_KEPT_BYTES line

-- the first bytes and a line feed complete no line, or the one
kept_or_none : (line : List ℕ) (lines : List (List ℕ)) (rest : List ℕ) → HasNoFeed line → All HasNoFeed lines
    → ended (kept_of line) ≡ flat_map ended lines ++ rest → (lines ≡ []) ⊎ ((lines ≡ kept_of line ∷ []) × (rest ≡ []))
kept_or_none line lines rest none unbroken whole =
    one_at_most (kept_of line) lines rest (All-take IsNoFeed MOST_KEPT_BYTES line none) unbroken whole

-- the answer to them is the line's
kept_said : (s t : SessionState) (line replies : List ℕ) {text rest : List ℕ} {lines : List (List ℕ)} → lines ≡ kept_of line ∷ []
    → Answered s text lines rest replies t → Answers s (without_return line) replies t
kept_said s t line replies one answered = (first_bytes_decide s line replies t).1 (one_said s t (kept_of line) replies one answered)

-- its line feed answers it, and nothing of it is kept
pub line_more : (s t : SessionState) (line after : List ℕ) (was now : Option (List ℕ)) (asked : ℕ)
    → HasNoFeed line → KeepsRest s (take MOST_KEPT_BYTES line ++ 10 ∷ []) was now after t asked
    → AnswersWhole s line was now More t × (after ≡ [])
line_more s t line after was now asked unbroken keeps =
    let on : FeedsOn s (ended (kept_of line)) was now keeps.rest t asked = keeps.feeds in
    elim (kept_or_none line _ _ unbroken on.answered.unbroken on.answered.whole) [
      | inl none ↦
          let left : keeps.rest ≡ ended (kept_of line) = sym (on.answered.whole ∙ ap (λ (z : List (List ℕ)). flat_map ended z ++ keeps.rest) none) in
          absurd (unbegun keeps.rest (kept_of line) [] on.unfinished left)
      | inr one ↦
          let all : All GoesOn (without_return (kept_of line) ∷ []) = subst (λ (z : List (List ℕ)). All GoesOn (map without_return z)) one.0 on.goes_on in
          let goes : GoesOn (without_return (kept_of line)) = All-head GoesOn (without_return (kept_of line)) [] all in (
            record {
              reply = on.replies;
              answers = kept_said s t line on.replies one.0 (answered_of _ _ _ _ _ _ _ on.answered);
              decides = λ ends. goes ((first_bytes_read One line QuitLine).0 ends);
              written = on.written;
            },
            keeps.kept ∙ ap kept_of one.1,
          )
    ]

-- it ends the session
pub line_quit : (s t : SessionState) (line : List ℕ) (was now : Option (List ℕ)) (asked : ℕ)
    → HasNoFeed line → FeedsEnd s (take MOST_KEPT_BYTES line ++ 10 ∷ []) was now t asked → AnswersWhole s line was now Quit t
line_quit s t line was now asked unbroken end = elim (kept_or_none line _ _ unbroken end.answered.unbroken end.answered.whole) [
  | inl none ↦ absurd (never_none end.lines end.last none)
  | inr one ↦
      let is : end.last ≡ kept_of line = last_of_one end.lines end.last (kept_of line) one.0 in
      record {
        reply = end.replies;
        answers = kept_said s t line end.replies one.0 (answered_of _ _ _ _ _ _ _ end.answered);
        decides = (first_bytes_read One line QuitLine).1 (subst (λ (z : List ℕ). Ends (without_return z)) is end.ends);
        written = end.written;
      }
]

-- where memory ran out before it was answered, nothing was written of the reply that it has
before_answer : (stop : WriteStop) (s : SessionState) (line : List ℕ) (was now : Option (List ℕ))
    → IsState s → stop ≡ NoMemory → Appended was now [] → AnswersFront stop s line was now
before_answer stop s line was now is memory nothing =
    let answer = has_answer s is line in
    record {
      reply = answer.0;
      after = answer.1;
      answers = answer.2;
      written = record {
        front = [];
        back = answer.0;
        whole = refl;
        left = subst (λ (z : WriteStop). IsLeft z answer.0) (sym memory) tt;
        written = nothing;
      };
    }

-- a front of its reply was written at a stop
pub front_answered : (stop : WriteStop) (s : SessionState) (line : List ℕ) (was now : Option (List ℕ))
    → IsState s → HasNoFeed line → FeedsPart stop s (take MOST_KEPT_BYTES line ++ 10 ∷ []) was now
    → AnswersFront stop s (without_return line) was now
front_answered stop s line was now is unbroken part = elim (kept_or_none line _ _ unbroken part.answered.unbroken part.answered.whole) [
  | inl none ↦
      let said = none_said part.lines none part.answered in
      let stopped = stopped_at_nothing stop was now (subst (λ (z : List ℕ). AppendedUntil stop was now z) said.0 part.written) in
      before_answer stop s (without_return line) was now is stopped.0 stopped.1
  | inr one ↦ record {
    reply = part.replies;
    after = part.after;
    answers = kept_said s part.after line part.replies one.0 part.answered;
    written = part.written;
  }
]
