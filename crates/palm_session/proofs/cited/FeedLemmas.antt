-- One line after another.
use Rattle.std.proofs.Common.{◌≡◌, ℕ, ◌+◌, inl, inr, List, [], ◌∷◌, ◌++◌, map, flat_map, drop, length, All, Option, refl, sym, ap, ◌∙◌, subst, arith, append_assoc, append-nil}
use Rattle.std.specs.Prelude.{slice_range}
use Rattle.std.proofs.lemmas.List.Elements.{All-nil, All-head, All-tail, All-push, All-append}
use Rattle.std.proofs.lemmas.Grind.{flat_map-append}
use Rattle.palm_base.specs.Streams.{Appended}
use Rattle.palm_base.proofs.cited.StreamLemmas.{appended_nothing, appended_both}
use Rattle.palm_lang.proofs.cited.Writes.{stopped_behind, stopped_in_second}
use Rattle.palm_lang.specs.Reply.{ended}
use Rattle.palm_lang.specs.declared.stop.WriteStop.{WriteStop as Stop}
use Rattle.palm_lang.specs.declared.stop.WriteStop.TheVariants.{NoMemory}
use Rattle.palm_session.specs.State.{SessionState}
use Rattle.palm_session.specs.Answers.{Answers}
use Rattle.palm_read.specs.Lines.{HasNoFeed, IsNextFeed, without_return}
use Rattle.palm_session.specs.Replies.{Run, Answered, GoesOn, Ends, KeepsOn}
use Rattle.palm_session.specs.Asking.{Asks, RunAsking}
use Rattle.palm_session.specs.Feeding.{AnswersLine, AnswersFront, Served, FeedsOn, FeedsEnd, FeedsPart, FinishesAll, FinishesPart}
use Rattle.palm_session.proofs.cited.Asked.{answered_of}
use Rattle.palm_session.specs.declared.going.Going.{Going}
use Rattle.palm_session.specs.declared.going.Going.TheVariants.{More, Quit}

-- the first lines of a text were answered, while support was asked for so often, and none of them ended the session
pub record SoFar (before : SessionState) (text : List ℕ) (was now : Option (List ℕ)) (rest : List ℕ) (after : SessionState) (asked : ℕ) : Type 0 where
  pub lines : List (List ℕ)
  pub replies : List ℕ
  pub answered : Served before text lines rest replies after asked
  pub goes_on : All GoesOn (map without_return lines)
  pub written : Appended was now replies

-- a run of one line
pub one_line : (s t : SessionState) (line reply : List ℕ) (b : ℕ) → Answers s line reply t → Asks s line t b → RunAsking s (line ∷ []) reply t b
one_line s t line reply b one asks = (reply, [], t, b, 0, one, asks, sym (append-nil reply), omega arith, (refl, refl, refl))

-- one run after another
pub run_append : (s m t : SessionState) (xs ys : List (List ℕ)) (q r : List ℕ) (a b : ℕ) → RunAsking s xs q m a → RunAsking m ys r t b → RunAsking s (xs ++ ys) (q ++ r) t (a + b)
run_append s m t [] ys q r a b run more =
    let n : a + b ≡ b = omega (arith, run.2) in
    let here : RunAsking m ys (q ++ r) t (a + b) = subst (λ (k : ℕ). RunAsking m ys (q ++ r) t k) (sym n) (subst (λ (z : List ℕ). RunAsking m ys (z ++ r) t b) (sym run.0) more) in
    subst (λ (x : SessionState). RunAsking x ys (q ++ r) t (a + b)) run.1 here
run_append s m t (l ∷ ls) ys q r a b run more = (
  run.0,
  run.1 ++ r,
  run.2,
  run.3,
  run.4 + b,
  run.5,
  run.6,
  ap (λ (z : List ℕ). z ++ r) run.7 ∙ append_assoc run.0 run.1 r,
  omega (arith, run.8),
  run_append run.2 m t ls ys run.1 r run.4 b run.9 more,
)

pub map_append : (xs ys : List (List ℕ)) → map without_return (xs ++ ys) ≡ map without_return xs ++ map without_return ys
map_append [] ys = refl
map_append (x ∷ xs) ys = ap (λ (z : List (List ℕ)). without_return x ∷ z) (map_append xs ys)

pub whole_append : (text more rest : List ℕ) (xs ys : List (List ℕ)) (mid : List ℕ) → text ≡ flat_map ended xs ++ mid → mid ++ more ≡ flat_map ended ys ++ rest
    → text ++ more ≡ flat_map ended (xs ++ ys) ++ rest
whole_append text more rest xs ys mid e f =
    ap (λ (z : List ℕ). z ++ more) e ∙ append_assoc (flat_map ended xs) mid more ∙ ap (λ (z : List ℕ). flat_map ended xs ++ z) f
    ∙ sym (append_assoc (flat_map ended xs) (flat_map ended ys) rest) ∙ ap (λ (z : List ℕ). z ++ rest) (sym (flat_map-append ended xs ys))

-- the answered front of a text, and the front of what is left
served_append : (s m t : SessionState) (text more rest : List ℕ) (xs ys : List (List ℕ)) (mid q r : List ℕ) (a b : ℕ)
    → Served s text xs mid q m a → Served m (mid ++ more) ys rest r t b → Served s (text ++ more) (xs ++ ys) rest (q ++ r) t (a + b)
served_append s m t text more rest xs ys mid q r a b one two = record {
  whole = whole_append text more rest xs ys mid one.whole two.whole;
  unbroken = All-append HasNoFeed xs ys one.unbroken two.unbroken;
  run = subst (λ (ls : List (List ℕ)). RunAsking s ls (q ++ r) t (a + b)) (sym (map_append xs ys))
      (run_append s m t (map without_return xs) (map without_return ys) q r a b one.run two.run);
}

-- the same without the counts
pub run_then : (s m t : SessionState) (xs ys : List (List ℕ)) (a b : List ℕ) → Run s xs a m → Run m ys b t → Run s (xs ++ ys) (a ++ b) t
run_then s m t [] ys a b run more =
    let here : Run m ys (a ++ b) t = subst (λ (z : List ℕ). Run m ys (z ++ b) t) (sym run.0) more in
    subst (λ (x : SessionState). Run x ys (a ++ b) t) run.1 here
run_then s m t (l ∷ ls) ys a b run more =
    (run.0, run.1 ++ b, run.2, run.3, ap (λ (z : List ℕ). z ++ b) run.4 ∙ append_assoc run.0 run.1 b, run_then run.2 m t ls ys run.1 b run.5 more)

answered_append : (s m t : SessionState) (text more rest : List ℕ) (xs ys : List (List ℕ)) (mid a b : List ℕ)
    → Answered s text xs mid a m → Answered m (mid ++ more) ys rest b t → Answered s (text ++ more) (xs ++ ys) rest (a ++ b) t
answered_append s m t text more rest xs ys mid a b one two = record {
  whole = whole_append text more rest xs ys mid one.whole two.whole;
  unbroken = All-append HasNoFeed xs ys one.unbroken two.unbroken;
  run = subst (λ (ls : List (List ℕ)). Run s ls (a ++ b) t) (sym (map_append xs ys))
      (run_then s m t (map without_return xs) (map without_return ys) a b one.run two.run);
}

-- a text that begins with one line
pub line_whole : (line rest : List ℕ) → ended line ++ rest ≡ flat_map ended (line ∷ []) ++ rest
line_whole line rest = ap (λ (z : List ℕ). z ++ rest) (sym (append-nil (ended line)))

-- the next line of a text was answered
next_served : (m t : SessionState) (text reply : List ℕ) (from end b : ℕ) → IsNextFeed text from end → Answers m (without_return (slice_range text from end)) reply t
    → Asks m (without_return (slice_range text from end)) t b → Served m (drop from text ++ []) (slice_range text from end ∷ []) (drop (end + 1) text) reply t b
next_served m t text reply from end b f one asks = record {
  whole = append-nil (drop from text) ∙ f.line ∙ line_whole (slice_range text from end) (drop (end + 1) text);
  unbroken = All-push HasNoFeed [] (slice_range text from end) (All-nil HasNoFeed) f.unbroken;
  run = one_line m t (without_return (slice_range text from end)) reply b one asks;
}

next_answered : (m t : SessionState) (text reply : List ℕ) (from end : ℕ) → IsNextFeed text from end → Answers m (without_return (slice_range text from end)) reply t
    → Answered m (drop from text ++ []) (slice_range text from end ∷ []) (drop (end + 1) text) reply t
next_answered m t text reply from end f one = record {
  whole = append-nil (drop from text) ∙ f.line ∙ line_whole (slice_range text from end) (drop (end + 1) text);
  unbroken = All-push HasNoFeed [] (slice_range text from end) (All-nil HasNoFeed) f.unbroken;
  run = (reply, [], t, one, sym (append-nil reply), (refl, refl));
}

-- one more line of the text was answered
served_more : (s m t : SessionState) (text : List ℕ) (lines : List (List ℕ)) (replies reply : List ℕ) (from end a b : ℕ)
    → Served s text lines (drop from text) replies m a → IsNextFeed text from end
    → Answers m (without_return (slice_range text from end)) reply t → Asks m (without_return (slice_range text from end)) t b
    → Served s text (lines ++ slice_range text from end ∷ []) (drop (end + 1) text) (replies ++ reply) t (a + b)
served_more s m t text lines replies reply from end a b so f one asks =
    subst (λ (z : List ℕ). Served s z (lines ++ slice_range text from end ∷ []) (drop (end + 1) text) (replies ++ reply) t (a + b)) (append-nil text)
    (served_append s m t text [] (drop (end + 1) text) lines (slice_range text from end ∷ []) (drop from text) replies reply a b so
    (next_served m t text reply from end b f one asks))

answered_more : (s m t : SessionState) (text : List ℕ) (lines : List (List ℕ)) (replies reply : List ℕ) (from end : ℕ)
    → Answered s text lines (drop from text) replies m → IsNextFeed text from end
    → Answers m (without_return (slice_range text from end)) reply t
    → Answered s text (lines ++ slice_range text from end ∷ []) (drop (end + 1) text) (replies ++ reply) t
answered_more s m t text lines replies reply from end so f one =
    subst (λ (z : List ℕ). Answered s z (lines ++ slice_range text from end ∷ []) (drop (end + 1) text) (replies ++ reply) t) (append-nil text)
    (answered_append s m t text [] (drop (end + 1) text) lines (slice_range text from end ∷ []) (drop from text) replies reply so
    (next_answered m t text reply from end f one))

pub map_more : (lines : List (List ℕ)) (line : List ℕ) → map without_return (lines ++ line ∷ []) ≡ map without_return lines ++ without_return line ∷ []
map_more lines line = map_append lines (line ∷ [])

All-first : (l : List ℕ) (ls : List (List ℕ)) → All GoesOn (l ∷ ls) → GoesOn l
All-first l ls all = All-head GoesOn l ls all

All-others : (l : List ℕ) (ls : List (List ℕ)) → All GoesOn (l ∷ ls) → All GoesOn ls
All-others l ls all = All-tail GoesOn l ls all

pub keeps_on : (lines : List (List ℕ)) → All GoesOn lines → KeepsOn lines
keeps_on [] all = tt
keeps_on (l ∷ []) all = tt
keeps_on (l ∷ m ∷ ms) all = (All-first l (m ∷ ms) all, keeps_on (m ∷ ms) (All-others l (m ∷ ms) all))

pub keeps_on_last : (lines : List (List ℕ)) (last : List ℕ) → All GoesOn lines → KeepsOn (lines ++ last ∷ [])
keeps_on_last [] last all = tt
keeps_on_last (l ∷ []) last all = (All-first l [] all, tt)
keeps_on_last (l ∷ m ∷ ms) last all = (All-first l (m ∷ ms) all, keeps_on_last (m ∷ ms) last (All-others l (m ∷ ms) all))

pub so_far_none : (s : SessionState) (text : List ℕ) (w : Option (List ℕ)) (n : ℕ) → n ≡ 0 → SoFar s text w w text s n
so_far_none s text w n e = record {
  lines = [];
  replies = [];
  answered = record { whole = refl; unbroken = All-nil HasNoFeed; run = (refl, refl, e) };
  goes_on = All-nil GoesOn;
  written = appended_nothing w;
}

pub so_far_more : (s m t : SessionState) (text : List ℕ) (from end : ℕ) (was mid now : Option (List ℕ)) (a b n : ℕ) → a + b ≡ n
    → SoFar s text was mid (drop from text) m a → IsNextFeed text from end
    → AnswersLine m (without_return (slice_range text from end)) mid now More t b
    → SoFar s text was now (drop (end + 1) text) t n
so_far_more s m t text from end was mid now a b n e so f one = subst (λ (k : ℕ). SoFar s text was now (drop (end + 1) text) t k) e (record {
  lines = so.lines ++ slice_range text from end ∷ [];
  replies = so.replies ++ one.reply;
  answered = served_more s m t text so.lines so.replies one.reply from end a b so.answered f one.answers one.asks;
  goes_on = subst (λ (ls : List (List ℕ)). All GoesOn ls) (sym (map_more so.lines (slice_range text from end)))
      (All-push GoesOn (map without_return so.lines) (without_return (slice_range text from end)) so.goes_on one.decides);
  written = appended_both was mid now so.replies one.reply so.written one.written;
})

pub feeds_end : (s m t : SessionState) (text : List ℕ) (from end : ℕ) (was mid now : Option (List ℕ)) (a b n : ℕ) → a + b ≡ n
    → SoFar s text was mid (drop from text) m a → IsNextFeed text from end
    → AnswersLine m (without_return (slice_range text from end)) mid now Quit t b
    → FeedsEnd s text was now t n
feeds_end s m t text from end was mid now a b n e so f one = subst (λ (k : ℕ). FeedsEnd s text was now t k) e (record {
  lines = so.lines;
  last = slice_range text from end;
  rest = drop (end + 1) text;
  replies = so.replies ++ one.reply;
  answered = served_more s m t text so.lines so.replies one.reply from end a b so.answered f one.answers one.asks;
  goes_on = so.goes_on;
  ends = one.decides;
  written = appended_both was mid now so.replies one.reply so.written one.written;
})

pub feeds_part : {stop : Stop} (s m : SessionState) (text : List ℕ) (from end : ℕ) (was mid now : Option (List ℕ)) (a : ℕ)
    → SoFar s text was mid (drop from text) m a → IsNextFeed text from end
    → AnswersFront stop m (without_return (slice_range text from end)) mid now
    → FeedsPart stop s text was now
feeds_part s m text from end was mid now a so f one = record {
  lines = so.lines ++ slice_range text from end ∷ [];
  rest = drop (end + 1) text;
  replies = so.replies ++ one.reply;
  after = one.after;
  answered = answered_more s m one.after text so.lines so.replies one.reply from end (answered_of s text so.lines (drop from text) so.replies m a so.answered) f one.answers;
  keeps_on = subst KeepsOn (sym (map_more so.lines (slice_range text from end)))
      (keeps_on_last (map without_return so.lines) (without_return (slice_range text from end)) so.goes_on);
  written = stopped_in_second was mid now so.replies one.reply so.written one.written;
}

pub feeds_on : (s m : SessionState) (text rest : List ℕ) (was now : Option (List ℕ)) (a : ℕ) → SoFar s text was now rest m a → HasNoFeed rest → FeedsOn s text was now rest m a
feeds_on s m text rest was now a so none = record { lines = so.lines; replies = so.replies; answered = so.answered; unfinished = none; goes_on = so.goes_on; written = so.written }

pub goes_on_append : (xs ys : List (List ℕ)) → All GoesOn (map without_return xs) → All GoesOn (map without_return ys) → All GoesOn (map without_return (xs ++ ys))
goes_on_append xs ys a b = subst (λ (ls : List (List ℕ)). All GoesOn ls) (sym (map_append xs ys)) (All-append GoesOn (map without_return xs) (map without_return ys) a b)

keeps_on_append : (xs ys : List (List ℕ)) → All GoesOn xs → KeepsOn ys → KeepsOn (xs ++ ys)
keeps_on_append [] ys all keeps = keeps
keeps_on_append (x ∷ []) [] all keeps = tt
keeps_on_append (x ∷ []) (y ∷ ys) all keeps = (All-first x [] all, keeps)
keeps_on_append (x ∷ z ∷ xs) ys all keeps = (All-first x (z ∷ xs) all, keeps_on_append (z ∷ xs) ys (All-others x (z ∷ xs) all) keeps)

-- one feeding after another
pub feeds_more : (s m t : SessionState) (text more mid rest : List ℕ) (was then now : Option (List ℕ)) (a b : ℕ)
    → FeedsOn s text was then mid m a → FeedsOn m (mid ++ more) then now rest t b → FeedsOn s (text ++ more) was now rest t (a + b)
feeds_more s m t text more mid rest was then now a b one two = record {
  lines = one.lines ++ two.lines;
  replies = one.replies ++ two.replies;
  answered = served_append s m t text more rest one.lines two.lines mid one.replies two.replies a b one.answered two.answered;
  unfinished = two.unfinished;
  goes_on = goes_on_append one.lines two.lines one.goes_on two.goes_on;
  written = appended_both was then now one.replies two.replies one.written two.written;
}

pub feeds_more_end : (s m t : SessionState) (text more mid : List ℕ) (was then now : Option (List ℕ)) (a b : ℕ)
    → FeedsOn s text was then mid m a → FeedsEnd m (mid ++ more) then now t b → FeedsEnd s (text ++ more) was now t (a + b)
feeds_more_end s m t text more mid was then now a b one two = record {
  lines = one.lines ++ two.lines;
  last = two.last;
  rest = two.rest;
  replies = one.replies ++ two.replies;
  answered = subst (λ (ls : List (List ℕ)). Served s (text ++ more) ls two.rest (one.replies ++ two.replies) t (a + b)) (sym (append_assoc one.lines two.lines (two.last ∷ [])))
      (served_append s m t text more two.rest one.lines (two.lines ++ two.last ∷ []) mid one.replies two.replies a b one.answered two.answered);
  goes_on = goes_on_append one.lines two.lines one.goes_on two.goes_on;
  ends = two.ends;
  written = appended_both was then now one.replies two.replies one.written two.written;
}

pub feeds_more_part : {stop : Stop} (s m : SessionState) (text more mid : List ℕ) (was then now : Option (List ℕ)) (a : ℕ)
    → FeedsOn s text was then mid m a → FeedsPart stop m (mid ++ more) then now → FeedsPart stop s (text ++ more) was now
feeds_more_part s m text more mid was then now a one two = record {
  lines = one.lines ++ two.lines;
  rest = two.rest;
  replies = one.replies ++ two.replies;
  after = two.after;
  answered = answered_append s m two.after text more two.rest one.lines two.lines mid one.replies two.replies (answered_of s text one.lines mid one.replies m a one.answered) two.answered;
  keeps_on = subst KeepsOn (sym (map_append one.lines two.lines)) (keeps_on_append (map without_return one.lines) (map without_return two.lines) one.goes_on two.keeps_on);
  written = stopped_in_second was then now one.replies two.replies one.written two.written;
}

pub feeds_none : (s : SessionState) (w : Option (List ℕ)) → FeedsOn s [] w w [] s 0
feeds_none s w = feeds_on s s [] [] w w 0 (so_far_none s [] w 0 refl) (All-nil (λ b. b ≡ 10 → ⊥))

-- there is no last line
pub finishes_none : (s : SessionState) (line : List ℕ) (w : Option (List ℕ)) (n : ℕ) → n ≡ 0 → length line ≡ 0 → FinishesAll s line w w s n
finishes_none s [] w n none e = record { replies = []; run = (refl, refl, none); last = inl (All-nil GoesOn); written = appended_nothing w }
finishes_none s (b ∷ bs) w n none e = absurd (omega (arith, e))

finishes_line : (s t : SessionState) (b : ℕ) (bs : List ℕ) (was now : Option (List ℕ)) (going : Going) (asked : ℕ)
    → AnswersLine s (without_return (b ∷ bs)) was now going t asked → FinishesAll s (b ∷ bs) was now t asked
finishes_line s t b bs was now More asked one = record {
  replies = one.reply;
  run = one_line s t (without_return (b ∷ bs)) one.reply asked one.answers one.asks;
  last = inl (All-push GoesOn [] (without_return (b ∷ bs)) (All-nil GoesOn) one.decides);
  written = one.written;
}
finishes_line s t b bs was now Quit asked one = record {
  replies = one.reply;
  run = one_line s t (without_return (b ∷ bs)) one.reply asked one.answers one.asks;
  last = inr (All-push Ends [] (without_return (b ∷ bs)) (All-nil Ends) one.decides);
  written = one.written;
}

-- the last line was answered
pub finishes_one : (s t : SessionState) (line : List ℕ) (was now : Option (List ℕ)) (going : Going) (asked : ℕ)
    → (length line ≡ 0 → ⊥) → AnswersLine s (without_return line) was now going t asked → FinishesAll s line was now t asked
finishes_one s t [] was now going asked some one = absurd (some refl)
finishes_one s t (b ∷ bs) was now going asked some one = finishes_line s t b bs was now going asked one

-- the last line was answered in part
pub finishes_part : {stop : Stop} (s : SessionState) (line : List ℕ) (was now : Option (List ℕ))
    → (length line ≡ 0 → ⊥) → AnswersFront stop s (without_return line) was now → FinishesPart stop s line was now
finishes_part s [] was now some one = absurd (some refl)
finishes_part s (b ∷ bs) was now some one = record {
  replies = one.reply;
  after = one.after;
  run = (one.reply, [], one.after, one.answers, sym (append-nil one.reply), (refl, refl));
  written = one.written;
}

-- at want of memory before any line of the text
pub part_nothing : (s : SessionState) (text : List ℕ) (w : Option (List ℕ)) → FeedsPart NoMemory s text w w
part_nothing s text w = record {
  lines = [];
  rest = text;
  replies = [];
  after = s;
  answered = record { whole = refl; unbroken = All-nil HasNoFeed; run = (refl, refl) };
  keeps_on = tt;
  written = stopped_behind w w [] (appended_nothing w);
}

-- at want of memory behind all lines of the text
pub part_all : (s t : SessionState) (text rest : List ℕ) (was now : Option (List ℕ)) (a : ℕ) → FeedsOn s text was now rest t a → FeedsPart NoMemory s text was now
part_all s t text rest was now a so = record {
  lines = so.lines;
  rest = rest;
  replies = so.replies;
  after = t;
  answered = answered_of s text so.lines rest so.replies t a so.answered;
  keeps_on = keeps_on (map without_return so.lines) so.goes_on;
  written = stopped_behind was now so.replies so.written;
}
