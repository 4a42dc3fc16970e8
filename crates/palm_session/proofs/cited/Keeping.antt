-- Lines of which the first bytes alone are kept.
use Rattle.std.proofs.Common.{◌≡◌, ℕ, ◌+◌, ◌-◌, ◌≤◌, min, inl, inr, List, [], ◌∷◌, ◌++◌, map, flat_map, take, drop, length, All, Option, Result, Ok, Err, refl, sym, ap, ◌∙◌, subst, arith, append_assoc, append-nil, length-take, length-drop, take_all}
use Rattle.std.specs.Prelude.{slice_range}
use Rattle.std.proofs.lemmas.Bool.{cases_lt}
use Rattle.std.proofs.Math.Seq.{take-append-add}
use Rattle.std.proofs.lemmas.List.Elements.{All-nil, All-cons, All-head, All-tail, All-append, All-take}
use Rattle.palm_base.specs.Streams.{Appended}
use Rattle.palm_lang.proofs.cited.Writes.{stopped_at_once}
use Rattle.palm_lang.specs.Reply.{ended}
use Rattle.palm_lang.specs.Writing.{AppendedUntil}
use Rattle.palm_read.specs.declared.line.Line.TheVariants.{Quit as QuitLine}
use Rattle.palm_read.specs.declared.mode.Mode.TheVariants.{One}
use Rattle.palm_session.specs.State.{SessionState, IsState}
use Rattle.palm_session.specs.Answers.{Answers}
use Rattle.palm_read.specs.Lines.{HasNoFeed, IsNextFeed, without_return, last_line}
use Rattle.palm_session.specs.Replies.{Run, Answered, GoesOn, Ends, KeepsOn}
use Rattle.palm_session.specs.Asking.{Asks, asks_none, asks_search, asks_settling, RunAsking}
use Rattle.palm_session.specs.Feeding.{View, AnswersLine, AnswersFront, Served, Decides, FeedsOn, FeedsEnd, FeedsPart, FeedsText, KeepsRest, FinishesAll, FinishesPart}
use Rattle.palm_session.specs.declared.limits.TheConstants.{MOST_KEPT_BYTES}
use Rattle.palm_session.specs.declared.going.Going.{Going}
use Rattle.palm_session.specs.declared.going.Going.TheVariants.{More, Quit}
use Rattle.palm_lang.specs.declared.stop.WriteStop.{WriteStop as Stop}
use Rattle.palm_lang.specs.declared.stop.WriteStop.TheVariants.{NoMemory}
use Rattle.palm_session.proofs.cited.FeedLemmas.{one_line, feeds_on, feeds_more, feeds_more_end, feeds_more_part, so_far_none}
use Rattle.palm_read.proofs.cited.AllOfBoth.{all_right}
use Rattle.palm_session.proofs.cited.LawsOfAnswers.{has_answer, first_bytes_decide, first_bytes_read, same_first_bytes, same_first_bytes_read, kept_more}

abbrev kept_of : List ℕ → List ℕ
kept_of line = take MOST_KEPT_BYTES line

-- ---- what is kept of a line

pub no_feed_both : (xs ys : List ℕ) → HasNoFeed xs → HasNoFeed ys → HasNoFeed (xs ++ ys)
no_feed_both xs ys a b = All-append (λ (b : ℕ). b ≡ 10 → ⊥) xs ys a b

pub no_feed_back : (xs ys : List ℕ) → HasNoFeed (xs ++ ys) → HasNoFeed ys
no_feed_back xs ys a = all_right (λ (b : ℕ). b ≡ 10 → ⊥) xs ys a

pub no_feed_front : (n : ℕ) (xs : List ℕ) → HasNoFeed xs → HasNoFeed (take n xs)
no_feed_front n xs a = All-take (λ (b : ℕ). b ≡ 10 → ⊥) n xs a

take_least : (n room : ℕ) (xs : List ℕ) → n ≡ min (length xs) room → take n xs ≡ take room xs
take_least n room xs e = elim (cases_lt (length xs) room) [
  | inl less ↦ take_all n xs (omega (arith, e, less)) ∙ sym (take_all room xs (omega (arith, less)))
  | inr more ↦ let same : n ≡ room = omega (arith, e, more) in ap (λ (k : ℕ). take k xs) same
]

-- as many more bytes as there is room for
pub keeps_first : (bytes more kept : List ℕ) (n : ℕ) → length bytes ≤ MOST_KEPT_BYTES → n ≡ min (length more) (MOST_KEPT_BYTES - length bytes) → kept ≡ bytes ++ take n more
    → kept ≡ take MOST_KEPT_BYTES (bytes ++ more)
keeps_first bytes more kept n few least is =
    let room : ℕ = MOST_KEPT_BYTES - length bytes in
    let m : length bytes + room ≡ MOST_KEPT_BYTES = omega (arith, few) in
    is ∙ ap (λ (z : List ℕ). bytes ++ z) (take_least n room more least) ∙ sym (take-append-add bytes more room) ∙ ap (λ (k : ℕ). take k (bytes ++ more)) m

-- all bytes from a place on
pub rest_whole : (k : ℕ) (xs : List ℕ) → take (length xs - k) (drop k xs) ≡ drop k xs
rest_whole k xs = take_all (length xs - k) (drop k xs) (omega (arith, length-drop k xs))

-- ---- an answer to the first bytes of a line is one to the line

pub goes_long : (a b : List ℕ) → take MOST_KEPT_BYTES a ≡ take MOST_KEPT_BYTES b → GoesOn (without_return a) → GoesOn (without_return b)
goes_long a b e on = λ ends. on (same_first_bytes_read One b a QuitLine (sym e) ends)

pub ends_long : (a b : List ℕ) → take MOST_KEPT_BYTES a ≡ take MOST_KEPT_BYTES b → Ends (without_return a) → Ends (without_return b)
ends_long a b e ends = same_first_bytes_read One a b QuitLine e ends

decides_long : (going : Going) (line : List ℕ) → Decides going (without_return (take MOST_KEPT_BYTES line)) → Decides going (without_return line)
decides_long More line d = λ ends. d ((first_bytes_read One line QuitLine).0 ends)
decides_long Quit line d = (first_bytes_read One line QuitLine).1 d

pub kept_twice : (line : List ℕ) → take MOST_KEPT_BYTES (take MOST_KEPT_BYTES line) ≡ take MOST_KEPT_BYTES line
kept_twice line = take_all MOST_KEPT_BYTES (take MOST_KEPT_BYTES line) (omega (arith, length-take MOST_KEPT_BYTES line))

asks_long : (s t : SessionState) (x y : List ℕ) (n : ℕ) → take MOST_KEPT_BYTES x ≡ take MOST_KEPT_BYTES y → Asks s (without_return x) t n → Asks s (without_return y) t n
asks_long s t x y n e (asks_none none) = asks_none none
asks_long s t x y n e (asks_search search) =
    asks_search (record {
      line = search.line;
      by = search.by;
      read = same_first_bytes_read s.mode x y search.line e search.read;
      admitted = search.admitted;
      awake = search.awake;
    })
asks_long s t x y n e (asks_settling settling few) =
    asks_settling (record {
      line = settling.line;
      request = settling.request;
      changed = settling.changed;
      limit = settling.limit;
      gained = settling.gained;
      read = same_first_bytes_read s.mode x y settling.line e settling.read;
      admitted = settling.admitted;
      changes = settling.changes;
      filters = settling.filters;
      log = settling.log;
    }) few

pub line_long : (s t : SessionState) (line : List ℕ) (was now : Option (List ℕ)) (going : Going) (n : ℕ)
    → AnswersLine s (without_return (take MOST_KEPT_BYTES line)) was now going t n → AnswersLine s (without_return line) was now going t n
line_long s t line was now going n a = record {
  reply = a.reply;
  answers = (first_bytes_decide s line a.reply t).1 a.answers;
  asks = asks_long s t (take MOST_KEPT_BYTES line) line n (kept_twice line) a.asks;
  written = a.written;
  decides = decides_long going line a.decides;
}

front_long : {stop : Stop} (s : SessionState) (line : List ℕ) (was now : Option (List ℕ))
    → AnswersFront stop s (without_return (take MOST_KEPT_BYTES line)) was now → AnswersFront stop s (without_return line) was now
front_long s line was now a = record { reply = a.reply; after = a.after; answers = (first_bytes_decide s line a.reply a.after).1 a.answers; written = a.written }

-- at want of memory before the reply nothing of it was written
pub front_nothing : (s : SessionState) (line : List ℕ) (w : Option (List ℕ)) → IsState s → AnswersFront NoMemory s line w w
front_nothing s line w is =
    let a = has_answer s is line in
    record { reply = a.0; after = a.1; answers = a.2; written = stopped_at_once w a.0 }

-- ---- the first line of a text

pub line_apart : (x : List ℕ) (xs : List (List ℕ)) (rest : List ℕ) → flat_map ended (x ∷ xs) ++ rest ≡ x ++ (10 ∷ (flat_map ended xs ++ rest))
line_apart x xs rest =
    ap (λ (z : List ℕ). z ++ rest) (append_assoc x (10 ∷ []) (flat_map ended xs)) ∙ append_assoc x (10 ∷ flat_map ended xs) rest

-- bytes without a feed are the front of the first line
pub split_line : (a b l tail : List ℕ) → HasNoFeed a → a ++ b ≡ l ++ (10 ∷ tail) → (part : List ℕ) × (l ≡ a ++ part) × (b ≡ part ++ (10 ∷ tail))
split_line [] b l tail none e = (l, refl, e)
split_line (x ∷ xs) b [] tail none e =
    let h : x ≡ 10 = cc in
    absurd (All-head (λ (z : ℕ). z ≡ 10 → ⊥) x xs none h)
split_line (x ∷ xs) b (y ∷ ys) tail none e =
    let h : y ≡ x = cc in
    let t : xs ++ b ≡ ys ++ (10 ∷ tail) = cc in
    let r = split_line xs b ys tail (All-tail (λ (z : ℕ). z ≡ 10 → ⊥) x xs none) t in
    (r.0, ap (λ (z : ℕ). z ∷ ys) h ∙ ap (λ (zs : List ℕ). x ∷ zs) r.1, r.2)

-- the first line of a text of which the front was kept
long_line : (s t : SessionState) (rest more l : List ℕ) (ls : List (List ℕ)) (after replies : List ℕ) → HasNoFeed rest
    → Answered s (take MOST_KEPT_BYTES rest ++ more) (l ∷ ls) after replies t
    → (line : List ℕ) × (take MOST_KEPT_BYTES l ≡ take MOST_KEPT_BYTES line) × Answered s (rest ++ more) (line ∷ ls) after replies t
long_line s t rest more l ls after replies none a =
    let kept : List ℕ = take MOST_KEPT_BYTES rest in
    let tail : List ℕ = flat_map ended ls ++ after in
    let p = split_line kept more l tail (no_feed_front MOST_KEPT_BYTES rest none) (a.whole ∙ line_apart l ls after) in
    let same : take MOST_KEPT_BYTES l ≡ take MOST_KEPT_BYTES (rest ++ p.0) =
    ap (λ (z : List ℕ). take MOST_KEPT_BYTES z) p.1 ∙ kept_more MOST_KEPT_BYTES rest p.0 in
    let unbroken : HasNoFeed p.0 = no_feed_back kept p.0 (subst HasNoFeed p.1 (All-head HasNoFeed l ls a.unbroken)) in (
      rest ++ p.0,
      same,
      record {
        whole = ap (λ (z : List ℕ). rest ++ z) p.2 ∙ sym (append_assoc rest p.0 (10 ∷ tail)) ∙ sym (line_apart (rest ++ p.0) ls after);
        unbroken = All-cons HasNoFeed (rest ++ p.0) ls (no_feed_both rest p.0 none unbroken) (All-tail HasNoFeed l ls a.unbroken);
        run = (a.run.0, a.run.1, a.run.2, same_first_bytes s l (rest ++ p.0) a.run.0 a.run.2 same a.run.3, a.run.4, a.run.5);
      },
    )

-- the same with the count of questions
long_served : (s t : SessionState) (rest more l : List ℕ) (ls : List (List ℕ)) (after replies : List ℕ) (n : ℕ) → HasNoFeed rest
    → Served s (take MOST_KEPT_BYTES rest ++ more) (l ∷ ls) after replies t n
    → (line : List ℕ) × (take MOST_KEPT_BYTES l ≡ take MOST_KEPT_BYTES line) × Served s (rest ++ more) (line ∷ ls) after replies t n
long_served s t rest more l ls after replies n none a =
    let kept : List ℕ = take MOST_KEPT_BYTES rest in
    let tail : List ℕ = flat_map ended ls ++ after in
    let p = split_line kept more l tail (no_feed_front MOST_KEPT_BYTES rest none) (a.whole ∙ line_apart l ls after) in
    let same : take MOST_KEPT_BYTES l ≡ take MOST_KEPT_BYTES (rest ++ p.0) =
    ap (λ (z : List ℕ). take MOST_KEPT_BYTES z) p.1 ∙ kept_more MOST_KEPT_BYTES rest p.0 in
    let unbroken : HasNoFeed p.0 = no_feed_back kept p.0 (subst HasNoFeed p.1 (All-head HasNoFeed l ls a.unbroken)) in (
      rest ++ p.0,
      same,
      record {
        whole = ap (λ (z : List ℕ). rest ++ z) p.2 ∙ sym (append_assoc rest p.0 (10 ∷ tail)) ∙ sym (line_apart (rest ++ p.0) ls after);
        unbroken = All-cons HasNoFeed (rest ++ p.0) ls (no_feed_both rest p.0 none unbroken) (All-tail HasNoFeed l ls a.unbroken);
        run = (
          a.run.0,
          a.run.1,
          a.run.2,
          a.run.3,
          a.run.4,
          same_first_bytes s l (rest ++ p.0) a.run.0 a.run.2 same a.run.5,
          asks_long s a.run.2 l (rest ++ p.0) a.run.3 same a.run.6,
          a.run.7,
          a.run.8,
          a.run.9,
        );
      },
    )

-- ---- what was answered where the front of a line was kept was answered to the whole line

on_long : (s t : SessionState) (rest more after : List ℕ) (was now : Option (List ℕ)) (lines : List (List ℕ)) (replies : List ℕ) (n : ℕ) → HasNoFeed rest
    → Served s (take MOST_KEPT_BYTES rest ++ more) lines after replies t n → HasNoFeed after → All GoesOn (map without_return lines) → Appended was now replies
    → (left : List ℕ) × (take MOST_KEPT_BYTES after ≡ take MOST_KEPT_BYTES left) × FeedsOn s (rest ++ more) was now left t n
on_long s t rest more after was now [] replies n none a unbroken on w =
    let back : HasNoFeed more = no_feed_back (take MOST_KEPT_BYTES rest) more (subst HasNoFeed (sym a.whole) unbroken) in (
      rest ++ more,
      ap (λ (z : List ℕ). take MOST_KEPT_BYTES z) (sym a.whole) ∙ kept_more MOST_KEPT_BYTES rest more,
      record {
        lines = [];
        replies = replies;
        answered = record { whole = refl; unbroken = All-nil HasNoFeed; run = a.run };
        unfinished = no_feed_both rest more none back;
        goes_on = on;
        written = w;
      },
    )
on_long s t rest more after was now (l ∷ ls) replies n none a unbroken on w =
    let r = long_served s t rest more l ls after replies n none a in (
      after,
      refl,
      record {
        lines = r.0 ∷ ls;
        replies = replies;
        answered = r.2;
        unfinished = unbroken;
        goes_on = All-cons GoesOn (without_return r.0) (map without_return ls)
            (goes_long l r.0 r.1 (All-head GoesOn (without_return l) (map without_return ls) on))
            (All-tail GoesOn (without_return l) (map without_return ls) on);
        written = w;
      },
    )

end_long : (s t : SessionState) (rest more after : List ℕ) (was now : Option (List ℕ)) (lines : List (List ℕ)) (last replies : List ℕ) (n : ℕ) → HasNoFeed rest
    → Served s (take MOST_KEPT_BYTES rest ++ more) (lines ++ last ∷ []) after replies t n → All GoesOn (map without_return lines) → Ends (without_return last)
    → Appended was now replies → FeedsEnd s (rest ++ more) was now t n
end_long s t rest more after was now [] last replies n none a on ends w =
    let r = long_served s t rest more last [] after replies n none a in
    record { lines = []; last = r.0; rest = after; replies = replies; answered = r.2; goes_on = on; ends = ends_long last r.0 r.1 ends; written = w }
end_long s t rest more after was now (l ∷ ls) last replies n none a on ends w =
    let r = long_served s t rest more l (ls ++ last ∷ []) after replies n none a in
    record {
      lines = r.0 ∷ ls;
      last = last;
      rest = after;
      replies = replies;
      answered = r.2;
      goes_on = All-cons GoesOn (without_return r.0) (map without_return ls)
          (goes_long l r.0 r.1 (All-head GoesOn (without_return l) (map without_return ls) on))
          (All-tail GoesOn (without_return l) (map without_return ls) on);
      ends = ends;
      written = w;
    }

part_long : {stop : Stop} (s t : SessionState) (rest more after : List ℕ) (was now : Option (List ℕ)) (lines : List (List ℕ)) (replies : List ℕ) → HasNoFeed rest
    → Answered s (take MOST_KEPT_BYTES rest ++ more) lines after replies t → KeepsOn (map without_return lines) → AppendedUntil stop was now replies
    → FeedsPart stop s (rest ++ more) was now
part_long s t rest more after was now [] replies none a keeps w = record {
  lines = [];
  rest = rest ++ more;
  replies = replies;
  after = t;
  answered = record { whole = refl; unbroken = All-nil HasNoFeed; run = a.run };
  keeps_on = keeps;
  written = w;
}
part_long s t rest more after was now (l ∷ []) replies none a keeps w =
    let r = long_line s t rest more l [] after replies none a in
    record { lines = r.0 ∷ []; rest = after; replies = replies; after = t; answered = r.2; keeps_on = keeps; written = w }
part_long s t rest more after was now (l ∷ m ∷ ls) replies none a keeps w =
    let r = long_line s t rest more l (m ∷ ls) after replies none a in
    record { lines = r.0 ∷ m ∷ ls; rest = after; replies = replies; after = t; answered = r.2; keeps_on = (goes_long l r.0 r.1 keeps.0, keeps.1); written = w }

module _ (s : SessionState) (kept rest more : List ℕ) (was now : Option (List ℕ)) (is : kept ≡ take MOST_KEPT_BYTES rest) (none : HasNoFeed rest) where
  pub feeds_long : (t : SessionState) (after : List ℕ) (n : ℕ) → FeedsOn s (kept ++ more) was now after t n
      → (left : List ℕ) × (take MOST_KEPT_BYTES after ≡ take MOST_KEPT_BYTES left) × FeedsOn s (rest ++ more) was now left t n
  feeds_long t after n f =
      let g = subst (λ (z : List ℕ). FeedsOn s (z ++ more) was now after t n) is f in
      on_long s t rest more after was now g.lines g.replies n none g.answered g.unfinished g.goes_on g.written

  pub feeds_long_end : (t : SessionState) (n : ℕ) → FeedsEnd s (kept ++ more) was now t n → FeedsEnd s (rest ++ more) was now t n
  feeds_long_end t n f =
      let g = subst (λ (z : List ℕ). FeedsEnd s (z ++ more) was now t n) is f in
      end_long s t rest more g.rest was now g.lines g.last g.replies n none g.answered g.goes_on g.ends g.written

  pub feeds_long_part : {stop : Stop} → FeedsPart stop s (kept ++ more) was now → FeedsPart stop s (rest ++ more) was now
  feeds_long_part {stop} f =
      let g = subst (λ (z : List ℕ). FeedsPart stop s (z ++ more) was now) is f in
      part_long s g.after rest more g.rest was now g.lines g.replies none g.answered g.keeps_on g.written

-- ---- a last line of which the first bytes were kept

last_run : (s t : SessionState) (line replies : List ℕ) (n : ℕ) → RunAsking s (last_line (take MOST_KEPT_BYTES line)) replies t n → RunAsking s (last_line line) replies t n
last_run s t [] replies n run = run
last_run s t (b ∷ bs) replies n run = (
  run.0,
  run.1,
  run.2,
  run.3,
  run.4,
  (first_bytes_decide s (b ∷ bs) run.0 run.2).1 run.5,
  asks_long s run.2 (take MOST_KEPT_BYTES (b ∷ bs)) (b ∷ bs) run.3 (kept_twice (b ∷ bs)) run.6,
  run.7,
  run.8,
  run.9,
)

last_part : (s t : SessionState) (line replies : List ℕ) → Run s (last_line (take MOST_KEPT_BYTES line)) replies t → Run s (last_line line) replies t
last_part s t [] replies run = run
last_part s t (b ∷ bs) replies run =
    (run.0, run.1, run.2, (first_bytes_decide s (b ∷ bs) run.0 run.2).1 run.3, run.4, run.5)

last_goes : (line : List ℕ) → All GoesOn (last_line (take MOST_KEPT_BYTES line)) → All GoesOn (last_line line)
last_goes [] on = All-nil GoesOn
last_goes (b ∷ bs) on =
    let l : List ℕ = b ∷ bs in
    All-cons GoesOn (without_return l) [] (decides_long More l (All-head GoesOn (without_return (take MOST_KEPT_BYTES l)) [] on)) (All-nil GoesOn)

last_ends : (line : List ℕ) → All Ends (last_line (take MOST_KEPT_BYTES line)) → All Ends (last_line line)
last_ends [] on = All-nil Ends
last_ends (b ∷ bs) on =
    let l : List ℕ = b ∷ bs in
    All-cons Ends (without_return l) [] (decides_long Quit l (All-head Ends (without_return (take MOST_KEPT_BYTES l)) [] on)) (All-nil Ends)

module _ (s : SessionState) (kept rest : List ℕ) (was now : Option (List ℕ)) (is : kept ≡ take MOST_KEPT_BYTES rest) where
  pub finishes_long : (t : SessionState) (n : ℕ) → FinishesAll s kept was now t n → FinishesAll s rest was now t n
  finishes_long t n f =
      let g = subst (λ (z : List ℕ). FinishesAll s z was now t n) is f in
      record {
        replies = g.replies;
        run = last_run s t rest g.replies n g.run;
        last = elim g.last [ inl on ↦ inl (last_goes rest on) | inr ends ↦ inr (last_ends rest ends) ];
        written = g.written;
      }

  pub finishes_long_part : {stop : Stop} → FinishesPart stop s kept was now → FinishesPart stop s rest was now
  finishes_long_part {stop} f =
      let g = subst (λ (z : List ℕ). FinishesPart stop s z was now) is f in
      record { replies = g.replies; after = g.after; run = last_part s g.after rest g.replies g.run; written = g.written }

-- ---- a piece that completes the line whose first bytes are kept

module _ (s : SessionState) (kept piece : List ℕ) (end : ℕ) (none : HasNoFeed kept) (feed : IsNextFeed piece 0 end) where
  abbrev pub part : List ℕ
  part = take end piece

  part_is : slice_range piece 0 end ≡ part
  part_is = let n : end - 0 ≡ end = omega arith in ap (λ (k : ℕ). take k piece) n

  abbrev pub first : List ℕ
  first = kept ++ part

  abbrev pub others : List ℕ
  others = drop (end + 1) piece

  pub completes : kept ++ piece ≡ ended first ++ others
  completes =
      ap (λ (z : List ℕ). kept ++ z) (feed.line ∙ ap (λ (z : List ℕ). ended z ++ others) part_is) ∙ sym (append_assoc kept (ended part) others)
      ∙ ap (λ (z : List ℕ). z ++ others) (sym (append_assoc kept part (10 ∷ [])))

  pub unbroken_first : All HasNoFeed (first ∷ [])
  unbroken_first = All-cons HasNoFeed first [] (no_feed_both kept part none (subst HasNoFeed part_is feed.unbroken)) (All-nil HasNoFeed)

  one_served : (t : SessionState) (reply : List ℕ) (n : ℕ) → Answers s (without_return first) reply t → Asks s (without_return first) t n
      → Served s (ended first ++ others) (first ∷ []) others reply t n
  one_served t reply n a asks = record {
    whole = ap (λ (z : List ℕ). z ++ others) (sym (append-nil (ended first)));
    unbroken = unbroken_first;
    run = one_line s t (without_return first) reply n a asks;
  }

  one_alone : (t : SessionState) (reply : List ℕ) (n : ℕ) → Answers s (without_return first) reply t → Asks s (without_return first) t n
      → Served s (ended first) (first ∷ []) [] reply t n
  one_alone t reply n a asks = record {
    whole = sym (append-nil (ended first)) ∙ sym (append-nil (ended first ++ []));
    unbroken = unbroken_first;
    run = one_line s t (without_return first) reply n a asks;
  }

  one_answered : (t : SessionState) (reply : List ℕ) → Answers s (without_return first) reply t → Answered s (ended first ++ others) (first ∷ []) others reply t
  one_answered t reply a = record {
    whole = ap (λ (z : List ℕ). z ++ others) (sym (append-nil (ended first)));
    unbroken = unbroken_first;
    run = (reply, [], t, a, sym (append-nil reply), (refl, refl));
  }

  first_on : (m : SessionState) (was now : Option (List ℕ)) (n : ℕ) → AnswersLine s (without_return (take MOST_KEPT_BYTES first)) was now More m n → FeedsOn s (ended first) was now [] m n
  first_on m was now n short =
      let a = line_long s m first was now More n short in
      record {
        lines = first ∷ [];
        replies = a.reply;
        answered = one_alone m a.reply n a.answers a.asks;
        unfinished = All-nil (λ (b : ℕ). b ≡ 10 → ⊥);
        goes_on = All-cons GoesOn (without_return first) [] a.decides (All-nil GoesOn);
        written = a.written;
      }

  pub first_ends : (m : SessionState) (was now : Option (List ℕ)) (n : ℕ) → AnswersLine s (without_return (take MOST_KEPT_BYTES first)) was now Quit m n → FeedsEnd s (kept ++ piece) was now m n
  first_ends m was now n short =
      let a = line_long s m first was now Quit n short in
      subst (λ (z : List ℕ). FeedsEnd s z was now m n) (sym completes) (record {
        lines = [];
        last = first;
        rest = others;
        replies = a.reply;
        answered = one_served m a.reply n a.answers a.asks;
        goes_on = All-nil GoesOn;
        ends = a.decides;
        written = a.written;
      })

  pub first_part : {stop : Stop} (was now : Option (List ℕ)) → AnswersFront stop s (without_return (take MOST_KEPT_BYTES first)) was now → FeedsPart stop s (kept ++ piece) was now
  first_part {stop} was now short =
      let a = front_long s first was now short in
      subst (λ (z : List ℕ). FeedsPart stop s z was now) (sym completes) (record {
        lines = first ∷ [];
        rest = others;
        replies = a.reply;
        after = a.after;
        answered = one_answered a.after a.reply a.answers;
        keeps_on = tt;
        written = a.written;
      })

  first_then : {G O : Type 0} (m : SessionState) (was mid now : Option (List ℕ)) (after : View G O) (n k : ℕ) (result : Result Going Stop)
      → AnswersLine s (without_return (take MOST_KEPT_BYTES first)) was mid More m n → FeedsText m others mid now after k result → FeedsText s (kept ++ piece) was now after (n + k) result
  first_then m was mid now after n k (Ok More) one f = record {
    rest = f.rest;
    feeds = subst (λ (z : List ℕ). FeedsOn s z was now f.rest after.state (n + k)) (sym completes)
        (feeds_more s m after.state (ended first) others [] f.rest was mid now n k (first_on m was mid n one) f.feeds);
    kept = f.kept;
  }
  first_then m was mid now after n k (Ok Quit) one f =
      subst (λ (z : List ℕ). FeedsEnd s z was now after.state (n + k)) (sym completes)
      (feeds_more_end s m after.state (ended first) others [] was mid now n k (first_on m was mid n one) f)
  first_then m was mid now after n k (Err stop) one f =
      subst (λ (z : List ℕ). FeedsPart stop s z was now) (sym completes)
      (feeds_more_part s m (ended first) others [] was mid now n (first_on m was mid n one) f)

  pub first_more : {G O : Type 0} (m : SessionState) (was mid now : Option (List ℕ)) (after : View G O) (n k i : ℕ) (result : Result Going Stop) → n + k ≡ i
      → AnswersLine s (without_return (take MOST_KEPT_BYTES first)) was mid More m n → FeedsText m others mid now after k result → FeedsText s (kept ++ piece) was now after i result
  first_more m was mid now after n k i result e one f = subst (λ (j : ℕ). FeedsText s (kept ++ piece) was now after j result) e (first_then m was mid now after n k result one f)

-- a piece that completes no line
pub keeps_piece : (s : SessionState) (kept piece more : List ℕ) (w : Option (List ℕ)) (n : ℕ) → n ≡ 0 → HasNoFeed kept → HasNoFeed piece → more ≡ take MOST_KEPT_BYTES (kept ++ piece)
    → KeepsRest s (kept ++ piece) w w more s n
keeps_piece s kept piece more w n nothing none unbroken e = record {
  rest = kept ++ piece;
  feeds = feeds_on s s (kept ++ piece) (kept ++ piece) w w n (so_far_none s (kept ++ piece) w n nothing) (no_feed_both kept piece none unbroken);
  kept = e;
}
