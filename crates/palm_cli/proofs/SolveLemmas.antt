-- What feeding a text of whole lines does, none of which ends the session.
use Rattle.std.proofs.Common.{◌≡◌, ℕ, List, [], ◌∷◌, ◌++◌, map, flat_map, take, All, Option, Ok, Err, false, refl, sym, ap, ◌∙◌, arith, subst, append_assoc, append-nil}
use Rattle.std.proofs.lemmas.List.Elements.{All-nil, All-cons, All-head, All-tail}
use Rattle.std.proofs.lemmas.List.{take_all}
use Rattle.palm_base.specs.Streams.{SinkState, Appended}
use Rattle.palm_lang.proofs.cited.Writes.{stopped_at_once, stopped_in_first}
use Rattle.palm_lang.specs.Reply.{ended}
use Rattle.palm_session.specs.Answers.{Answers}
use Rattle.palm_session.specs.Feeding.{View, Feeds, KeepsRest, FeedsEnd, FeedsPart}
use Rattle.palm_read.specs.Lines.{HasNoFeed, without_return}
use Rattle.palm_session.specs.Replies.{Run, Ends, GoesOn}
use Rattle.palm_session.specs.State.{SessionState, IsState}
use Rattle.palm_lang.specs.Writing.{AppendedUntil, HasStopCause}
use Rattle.palm_session.specs.declared.going.Going.{Going}
use Rattle.palm_session.specs.declared.going.Going.TheVariants.{More, Quit}
use Rattle.palm_session.specs.declared.limits.TheConstants.{MOST_KEPT_BYTES}
use Rattle.palm_lang.specs.declared.stop.WriteStop.{WriteStop as Stop}
use Rattle.palm_lang.specs.declared.stop.WriteStop.TheVariants.{WriteFault, NoMemory}
use Rattle.palm_session.proofs.cited.Asked.{run_of}
use Rattle.palm_session.proofs.cited.FeedLemmas.{run_then}
use Rattle.palm_session.proofs.cited.Keeping.{line_apart}
use Rattle.palm_session.proofs.cited.LawsOfAnswers.{has_answer}
use Rattle.palm_session.proofs.cited.LawsOfTexts.{has_run, run_keeps}
use Rattle.palm_cli.proofs.Endings.{first_line, no_feed_within}
use Rattle.palm_cli.proofs.InnerLines.{solve_text_is}
use Rattle.palm_cli.specs.Generator.{solve_line}
use Rattle.palm_cli.specs.Solving.{IsInner, IsTextOf, Solves, SolvesPart, SolvesAfter}

-- ---- whole lines are cut out as they stand

-- the lines that a text begins with are first ones of its own
record Begins (lines xs : List (List ℕ)) (rest : List ℕ) : Type 0 where
  others : List (List ℕ)
  whole : lines ≡ xs ++ others
  left : rest ≡ flat_map ended others

no_line : (x : List ℕ) (xs : List (List ℕ)) (rest : List ℕ) → [] ≡ flat_map ended (x ∷ xs) ++ rest → ⊥
no_line [] xs rest e = cc
no_line (b ∷ x) xs rest e = cc

begins : (lines xs : List (List ℕ)) (rest : List ℕ) → All HasNoFeed lines → All HasNoFeed xs → flat_map ended lines ≡ flat_map ended xs ++ rest → Begins lines xs rest
begins lines [] rest n m e = record { others = lines; whole = refl; left = sym e }
begins [] (x ∷ xs) rest n m e = absurd (no_line x xs rest e)
begins (l ∷ ls) (x ∷ xs) rest n m e =
    let apart : l ++ (10 ∷ flat_map ended ls) ≡ x ++ (10 ∷ (flat_map ended xs ++ rest)) = sym (append_assoc l (10 ∷ []) (flat_map ended ls)) ∙ e ∙ line_apart x xs rest in
    let r = first_line l x (flat_map ended ls) (flat_map ended xs ++ rest) (All-head HasNoFeed l ls n) (All-head HasNoFeed x xs m) apart in
    let more = begins ls xs rest (All-tail HasNoFeed l ls n) (All-tail HasNoFeed x xs m) r.1 in
    record {
      others = more.others;
      whole = ap (λ (z : List (List ℕ)). l ∷ z) more.whole ∙ ap (λ (z : List ℕ). z ∷ (xs ++ more.others)) r.0;
      left = more.left;
    }

pub all_unbroken : (lines : List (List ℕ)) → All IsInner lines → All HasNoFeed lines
all_unbroken [] h = All-nil HasNoFeed
all_unbroken (l ∷ ls) h = All-cons HasNoFeed l ls (All-head IsInner l ls h).unbroken (all_unbroken ls (All-tail IsInner l ls h))

pub all_bare : (lines : List (List ℕ)) → All IsInner lines → map without_return lines ≡ lines
all_bare [] h = refl
all_bare (l ∷ ls) h =
    ap (λ (z : List ℕ). z ∷ map without_return ls) (All-head IsInner l ls h).bare ∙ ap (λ (z : List (List ℕ)). l ∷ z) (all_bare ls (All-tail IsInner l ls h))

pub all_go_on : (lines : List (List ℕ)) → All IsInner lines → All GoesOn lines
all_go_on [] h = All-nil GoesOn
all_go_on (l ∷ ls) h = All-cons GoesOn l ls (All-head IsInner l ls h).goes_on (all_go_on ls (All-tail IsInner l ls h))

first_ones : (xs ys : List (List ℕ)) → All IsInner (xs ++ ys) → All IsInner xs
first_ones [] ys h = All-nil IsInner
first_ones (x ∷ xs) ys h = All-cons IsInner x xs (All-head IsInner x (xs ++ ys) h) (first_ones xs ys (All-tail IsInner x (xs ++ ys) h))

last_one : (xs : List (List ℕ)) (x : List ℕ) → All IsInner (xs ++ x ∷ []) → IsInner x
last_one [] x h = All-head IsInner x [] h
last_one (y ∷ xs) x h = last_one xs x (All-tail IsInner y (xs ++ x ∷ []) h)

-- no line is left where no byte is
none_left : (others : List (List ℕ)) (rest : List ℕ) → HasNoFeed rest → rest ≡ flat_map ended others → others ≡ []
none_left [] rest n e = refl
none_left (l ∷ ls) rest n e = absurd (no_feed_within rest l (flat_map ended ls) n (e ∙ append_assoc l (10 ∷ []) (flat_map ended ls)))

-- ---- what a feed did

-- all lines were answered, and no byte is left
pub record TakesLines (s : SessionState) (lines : List (List ℕ)) (was now : Option (List ℕ)) (unfinished : List ℕ) (t : SessionState) : Type 0 where
  pub replies : List ℕ
  pub run : Run s lines replies t
  pub written : Appended was now replies
  pub none : unfinished ≡ []

pub takes_lines : (s t : SessionState) (lines : List (List ℕ)) (was now : Option (List ℕ)) (unfinished : List ℕ) (n : ℕ) → All IsInner lines
    → KeepsRest s (flat_map ended lines) was now unfinished t n → TakesLines s lines was now unfinished t
takes_lines s t lines was now unfinished n inner k =
    let f = k.feeds in
    let b = begins lines f.lines k.rest (all_unbroken lines inner) f.answered.unbroken f.answered.whole in
    let no : b.others ≡ [] = none_left b.others k.rest f.unfinished b.left in
    let same : lines ≡ f.lines = b.whole ∙ ap (λ (z : List (List ℕ)). f.lines ++ z) no ∙ append-nil f.lines in
    let empty : k.rest ≡ [] = b.left ∙ ap (λ (z : List (List ℕ)). flat_map ended z) no in
    let ran : Run s (map without_return f.lines) f.replies t = run_of s (map without_return f.lines) f.replies t n f.answered.run in
    let there : Run s (map without_return lines) f.replies t = subst (λ (z : List (List ℕ)). Run s (map without_return z) f.replies t) (sym same) ran in
    record {
      replies = f.replies;
      run = subst (λ (z : List (List ℕ)). Run s z f.replies t) (all_bare lines inner) there;
      written = f.written;
      none = k.kept ∙ ap (λ (z : List ℕ). take MOST_KEPT_BYTES z) empty ∙ take_all MOST_KEPT_BYTES [] (omega arith);
    }

-- none of them ended the session
pub takes_no_end : (s t : SessionState) (lines : List (List ℕ)) (was now : Option (List ℕ)) (n : ℕ) → All IsInner lines → FeedsEnd s (flat_map ended lines) was now t n → ⊥
takes_no_end s t lines was now n inner e =
    let b = begins lines (e.lines ++ e.last ∷ []) e.rest (all_unbroken lines inner) e.answered.unbroken e.answered.whole in
    let one : All IsInner (e.lines ++ e.last ∷ []) = first_ones (e.lines ++ e.last ∷ []) b.others (subst (λ (z : List (List ℕ)). All IsInner z) b.whole inner) in
    let last = last_one e.lines e.last one in
    last.goes_on (subst (λ (z : List ℕ). Ends z) last.bare e.ends)

-- the replies to all lines were written until the stop
pub record TakesPart (stop : Stop) (s : SessionState) (lines : List (List ℕ)) (was now : Option (List ℕ)) : Type 0 where
  pub replies : List ℕ
  pub after : SessionState
  pub run : Run s lines replies after
  pub written : AppendedUntil stop was now replies

pub takes_part : {stop : Stop} (s : SessionState) (lines : List (List ℕ)) (was now : Option (List ℕ)) → IsState s → All IsInner lines → FeedsPart stop s (flat_map ended lines) was now
    → TakesPart stop s lines was now
takes_part s lines was now is inner p =
    let b = begins lines p.lines p.rest (all_unbroken lines inner) p.answered.unbroken p.answered.whole in
    let firsts : All IsInner p.lines = first_ones p.lines b.others (subst (λ (z : List (List ℕ)). All IsInner z) b.whole inner) in
    let ran : Run s p.lines p.replies p.after = subst (λ (z : List (List ℕ)). Run s z p.replies p.after) (all_bare p.lines firsts) p.answered.run in
    let more = has_run p.after b.others (run_keeps s p.lines p.replies p.after is ran) in
    record {
      replies = p.replies ++ more.0;
      after = more.1;
      run = subst (λ (z : List (List ℕ)). Run s z (p.replies ++ more.0) more.1) (sym b.whole) (run_then s p.after more.1 p.lines b.others p.replies more.0 ran more.2);
      written = stopped_in_first was now p.replies more.0 p.written;
    }

-- ---- lines, and then a `solve` line

-- a run of one line is its answer
pub answer_of : (s t : SessionState) (line replies : List ℕ) → Run s (line ∷ []) replies t → Answers s line replies t
answer_of s t line replies r =
    let none : replies ≡ r.0 = r.4 ∙ ap (λ (z : List ℕ). r.0 ++ z) r.5.0 ∙ append-nil r.0 in
    subst (λ (z : List ℕ). Answers s line z t) (sym none) (subst (λ (u : SessionState). Answers s line r.0 u) (sym r.5.1) r.3)

pub solved : (s m t : SessionState) (lines : List (List ℕ)) (a b was now : Option (List ℕ)) (x y : List ℕ) → TakesLines s lines a b x m → TakesLines m (solve_line ∷ []) was now y t → Solves s lines was now t
solved s m t lines a b was now x y one two = record {
  between = m;
  replies = one.replies;
  reply = two.replies;
  run = one.run;
  answers = answer_of m t solve_line two.replies two.run;
  written = two.written;
}

-- memory ran out before the reply to the `solve` line
pub unsolved : (s : SessionState) (lines : List (List ℕ)) (was : Option (List ℕ)) → IsState s → SolvesPart NoMemory s lines was was
unsolved s lines was is =
    let one = has_run s lines is in
    let two = has_answer one.1 (run_keeps s lines one.0 one.1 is one.2) solve_line in
    record {
      between = one.1;
      after = two.1;
      replies = one.0;
      reply = two.0;
      run = one.2;
      answers = two.2;
      written = stopped_at_once was two.0;
    }

-- it was written in part
pub part_solved : {stop : Stop} (s m : SessionState) (lines : List (List ℕ)) (a b was now : Option (List ℕ)) (x : List ℕ) → TakesLines s lines a b x m → TakesPart stop m (solve_line ∷ []) was now
    → SolvesPart stop s lines was now
part_solved s m lines a b was now x one two = record {
  between = m;
  after = two.after;
  replies = one.replies;
  reply = two.replies;
  run = one.run;
  answers = answer_of m two.after solve_line two.replies two.run;
  written = two.written;
}

-- ---- the two feeds

pub taken : {G O : Type 0} (session mid : View G O) (text : List ℕ) (lines : List (List ℕ)) (was now : Option (List ℕ)) (n : ℕ) (going : Going) → session.unfinished ≡ [] → IsTextOf lines text
    → Feeds session text was now mid n (Ok going) → TakesLines session.state lines was now mid.unfinished mid.state × (mid.over ≡ false)
taken session mid text lines was now n More none is f = (
  takes_lines session.state mid.state lines was now mid.unfinished n is.inner
      (subst (λ (z : List ℕ). KeepsRest session.state z was now mid.unfinished mid.state n) (ap (λ (u : List ℕ). u ++ text) none ∙ is.whole) f.0),
  f.1,
)
taken session mid text lines was now n Quit none is f =
    absurd (takes_no_end session.state mid.state lines was now n is.inner
    (subst (λ (z : List ℕ). FeedsEnd session.state z was now mid.state n) (ap (λ (u : List ℕ). u ++ text) none ∙ is.whole) f.0))

solve_is : (text : List ℕ) → text ≡ ended solve_line → IsTextOf (solve_line ∷ []) text
solve_is text e = record { whole = e ∙ sym (append-nil (ended solve_line)); inner = solve_text_is }

-- both were taken
pub solved_after : {G O : Type 0} {T : Type 0} (x : T) (session mid later : View G O) (text solve : List ℕ) (lines : List (List ℕ)) (a b : Option (List ℕ)) (before after : SinkState) (n m : ℕ) (g h : Going)
    → session.unfinished ≡ [] → IsTextOf lines text → solve ≡ ended solve_line → Feeds session text a b mid n (Ok g) → after.faults ≡ before.faults
    → Feeds mid solve before.written after.written later m (Ok h) → SolvesAfter {T = T} session lines before after later (Ok x)
solved_after x session mid later text solve lines a b before after n m g h none is e f calm k =
    let one = taken session mid text lines a b n g none is f in
    let two = taken mid later solve (solve_line ∷ []) before.written after.written m h one.0.none (solve_is solve e) k in
    (calm, solved session.state mid.state later.state lines a b before.written after.written mid.unfinished later.unfinished one.0 two.0, two.0.none, two.1)

-- the second was not taken whole
pub stopped_after : {G O : Type 0} (T : Type 0) (session mid later last : View G O) (text solve : List ℕ) (lines : List (List ℕ)) (a b : Option (List ℕ)) (before after : SinkState) (n m : ℕ) (g : Going) (stop : Stop)
    → IsState session.state → session.unfinished ≡ [] → IsTextOf lines text → solve ≡ ended solve_line → Feeds session text a b mid n (Ok g) → HasStopCause before.faults after.faults stop
    → Feeds mid solve before.written after.written later m (Err stop) → SolvesAfter {T = T} session lines before after last (Err stop)
stopped_after T session mid later last text solve lines a b before after n m g stop state none is e f cause k =
    let one = taken session mid text lines a b n g none is f in
    let there : mid.unfinished ++ solve ≡ flat_map ended (solve_line ∷ []) = ap (λ (u : List ℕ). u ++ solve) one.0.none ∙ (solve_is solve e).whole in
    let mid_state = run_keeps session.state lines one.0.replies mid.state state one.0.run in
    let two = takes_part mid.state (solve_line ∷ []) before.written after.written mid_state solve_text_is
    (subst (λ (z : List ℕ). FeedsPart stop mid.state z before.written after.written) there k.0) in
    by_stop T session before after last stop lines cause (part_solved session.state mid.state lines a b before.written after.written mid.unfinished one.0 two)
  where
    by_stop : {G O : Type 0} (T : Type 0) (session : View G O) (before after : SinkState) (last : View G O) (stop : Stop) (lines : List (List ℕ)) → HasStopCause before.faults after.faults stop
        → SolvesPart stop session.state lines before.written after.written → SolvesAfter {T = T} session lines before after last (Err stop)
    by_stop T session before after last WriteFault lines cause p = (cause.1, p)
    by_stop T session before after last NoMemory lines cause p = (cause, p)

-- the first was not taken whole, to a sink that never fails
pub stopped_before : {G O : Type 0} (T : Type 0) (session last : View G O) (lines : List (List ℕ)) (sink : SinkState) (stop : Stop) → IsState session.state → HasStopCause 0 0 stop
    → SolvesAfter {T = T} session lines sink sink last (Err stop)
stopped_before T session last lines sink WriteFault is cause = absurd (omega (arith, cause.1))
stopped_before T session last lines sink NoMemory is cause = (refl, unsolved session.state lines sink.written is)
