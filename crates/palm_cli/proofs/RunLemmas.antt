-- What `run` keeps from one piece to the next, and how it ends.
use Rattle.std.proofs.Common.{◌≡◌, ℕ, ◌+◌, ◌<◌, ◌≤◌, ◌⊎◌, inl, inr, List, [], ◌∷◌, ◌++◌, map, flat_map, take, drop, length, All, get_or, Global, String, string_bytes, refl, sym, ap, ◌∙◌, subst, arith, append_assoc}
use Rattle.std.proofs.lemmas.List.{take-append-drop}
use Rattle.std.proofs.lemmas.List.Elements.{All-nil, All-append, All-head}
use Rattle.palm_base.specs.Streams.{SinkState, Rose}
use Rattle.palm_base.proofs.cited.StreamLemmas.{appended_both}
use Rattle.palm_lang.proofs.cited.Writes.{stopped_in_second}
use Rattle.palm_lang.specs.Reply.{ended}
use Rattle.palm_lang.specs.declared.stop.WriteStop.{WriteStop as Stop}
use Rattle.palm_pump.proofs.cited.AtOnce.{wants_at_once}
use Rattle.palm_pump.proofs.cited.TakenBytes.{told_once}
use Rattle.palm_pump.specs.Pumping.{Pumps, PumpsFirst, PumpsWhole}
use Rattle.palm_pump.specs.Streams.{HasNoFault, Streams, first_bytes}
use Rattle.palm_pump.specs.Taking.Progress.{More, Enough, Whole, Until, WholeUntil}
use Rattle.palm_pump.specs.declared.ending.PumpEnd.{PumpEnd}
use Rattle.palm_pump.specs.declared.ending.PumpEnd.TheVariants as ends
use Rattle.palm_pump.specs.declared.limits.TheConstants.{MOST_INPUT_BYTES}
use Rattle.palm_session.specs.State.{SessionState, fresh}
use Rattle.palm_read.proofs.cited.Cutting.{text_lines}
use Rattle.palm_read.specs.Lines.{HasNoFeed, AreLines, last_line, without_return}
use Rattle.palm_session.specs.Replies.{Run, AreAnswered, GoesOn, Ends, all, until}
use Rattle.palm_session.specs.Feeding.{FeedsOn, FeedsEnd, FeedsPart, FinishesAll, FinishesPart, KeepsRest, View}
use Rattle.palm_session.proofs.cited.FeedLemmas.{feeds_more, feeds_more_end, feeds_more_part, feeds_none, part_nothing, run_append, run_then, map_more}
use Rattle.palm_session.proofs.cited.LawsOfTexts.{last_known}
use Rattle.palm_session.proofs.cited.Asked.{run_of}
use Rattle.palm_session.proofs.cited.Keeping.{feeds_long, feeds_long_end, feeds_long_part, finishes_long, finishes_long_part}
use Rattle.palm_session.specs.declared.limits.TheConstants.{MOST_KEPT_BYTES}
use Rattle.palm_cli.specs.Commands.{Answering, RunsAll, HasEnd, IsWhole, IsCut, Runs, TakesAnswerable, TakesTooMuch}
use Rattle.palm_cli.specs.Numbers.{status_at}
use Rattle.palm_cli.proofs.Endings.{no_end}
use Rattle.palm_cli.specs.declared.status.Status.{Status}
use Rattle.palm_cli.specs.declared.status.Status.TheVariants.{Done, Refused, Usage, ReadFault, WriteFault, NoMemory, TooLong}

module _ (guides orders : List ℕ) where
  -- nothing was taken and nothing written
  pub want_at_once : (before : Streams) → Runs guides orders before before NoMemory
  want_at_once before = (
    fresh guides orders,
    wants_at_once (Answering guides orders) before (fresh guides orders)
        (record { going = ([], 0, feeds_none (fresh guides orders) before.sink.written); wanting = part_nothing (fresh guides orders) [] before.sink.written }),
  )

  -- the lines of a text, whole ones and a last one
  pub lines_of : (text : List ℕ) (lines : List (List ℕ)) (rest : List ℕ) → text ≡ flat_map ended lines ++ rest → All HasNoFeed lines → HasNoFeed rest
      → AreLines text (map without_return lines ++ last_line rest)
  lines_of text lines rest whole unbroken unfinished = record {
    ended_lines = lines;
    rest = rest;
    cuts = record { whole = whole; unbroken = unbroken; unfinished = unfinished };
    all = refl;
  }

  pub answered_lines : (lines : List (List ℕ)) (rest : List ℕ) → All GoesOn lines → All GoesOn (last_line rest) ⊎ All Ends (last_line rest) → AreAnswered (lines ++ last_line rest) (lines ++ last_line rest)
  answered_lines lines rest on (inl more) = all (All-append GoesOn lines (last_line rest) on more)
  answered_lines lines [] on (inr ends) = all (All-append GoesOn lines [] on (All-nil GoesOn))
  answered_lines lines (b ∷ bs) on (inr ends) = until lines [] (without_return (b ∷ bs)) on (All-head Ends (without_return (b ∷ bs)) [] ends) refl

  -- ---- one more piece, or the end, behind lines that were answered while the first bytes of a rest were kept

  module _ {G O : Type 0} (seen : List ℕ) (start before after : SinkState) (session later : View G O)
      (a : Answering guides orders More seen start before session.state) (kept : session.unfinished ≡ take MOST_KEPT_BYTES a.0) where
    -- the rest, how often support was asked for, and the lines so far
    abbrev feeds : FeedsOn (fresh guides orders) seen start.written before.written a.0 session.state a.1
    feeds = a.2

    pub answers_more : (piece : List ℕ) (asked : ℕ)
        → KeepsRest session.state (session.unfinished ++ piece) before.written after.written later.unfinished later.state asked
        → (more : Answering guides orders More (seen ++ piece) start after later.state) × (later.unfinished ≡ take MOST_KEPT_BYTES more.0)
    answers_more piece asked k =
        let left = feeds_long session.state session.unfinished a.0 piece before.written after.written kept feeds.unfinished later.state k.rest asked k.feeds in (
          (
            left.0,
            a.1 + asked,
            feeds_more (fresh guides orders) session.state later.state seen piece a.0 left.0 start.written before.written after.written a.1 asked feeds left.2,
          ),
          k.kept ∙ left.1,
        )

    pub answers_enough : (piece : List ℕ) (asked : ℕ) → FeedsEnd session.state (session.unfinished ++ piece) before.written after.written later.state asked
        → Answering guides orders Enough (seen ++ piece) start after later.state
    answers_enough piece asked f = (
      a.1 + asked,
      feeds_more_end (fresh guides orders) session.state later.state seen piece a.0 start.written before.written after.written a.1 asked feeds
          (feeds_long_end session.state session.unfinished a.0 piece before.written after.written kept feeds.unfinished later.state asked f),
    )

    pub answers_until : (stop : Stop) (piece : List ℕ) → FeedsPart stop session.state (session.unfinished ++ piece) before.written after.written
        → Answering guides orders (Until stop) (seen ++ piece) start after later.state
    answers_until stop piece f =
        feeds_more_part (fresh guides orders) session.state seen piece a.0 start.written before.written after.written a.1 feeds
        (feeds_long_part session.state session.unfinished a.0 piece before.written after.written kept feeds.unfinished f)

    pub answers_whole : (asked : ℕ) → FinishesAll session.state session.unfinished before.written after.written later.state asked
        → Answering guides orders Whole seen start after later.state
    answers_whole asked short =
        let f = finishes_long session.state session.unfinished a.0 before.written after.written kept later.state asked short in (
          feeds.replies ++ f.replies,
          record {
            lines = map without_return feeds.lines ++ last_line a.0;
            answered = map without_return feeds.lines ++ last_line a.0;
            state = later.state;
            are_lines = lines_of seen feeds.lines a.0 feeds.answered.whole feeds.answered.unbroken feeds.unfinished;
            are_answered = answered_lines (map without_return feeds.lines) a.0 feeds.goes_on f.last;
            run = run_of (fresh guides orders) (map without_return feeds.lines ++ last_line a.0) (feeds.replies ++ f.replies) later.state (a.1 + asked)
                (run_append (fresh guides orders) session.state later.state (map without_return feeds.lines) (last_line a.0) feeds.replies f.replies a.1 asked feeds.answered.run f.run);
          },
          appended_both start.written before.written after.written feeds.replies f.replies feeds.written f.written,
        )

    pub answers_whole_until : (stop : Stop) → FinishesPart stop session.state session.unfinished before.written after.written
        → Answering guides orders (WholeUntil stop) seen start after later.state
    answers_whole_until stop short =
        let f = finishes_long_part session.state session.unfinished a.0 before.written after.written kept short in (
          feeds.replies ++ f.replies,
          record {
            lines = map without_return feeds.lines ++ last_line a.0;
            answered = map without_return feeds.lines ++ last_line a.0;
            state = f.after;
            are_lines = lines_of seen feeds.lines a.0 feeds.answered.whole feeds.answered.unbroken feeds.unfinished;
            are_answered = answered_lines (map without_return feeds.lines) a.0 feeds.goes_on (last_known a.0);
            run = run_then (fresh guides orders) session.state f.after (map without_return feeds.lines) (last_line a.0) feeds.replies f.replies
                (run_of (fresh guides orders) (map without_return feeds.lines) feeds.replies session.state a.1 feeds.answered.run) f.run;
          },
          stopped_in_second start.written before.written after.written feeds.replies f.replies feeds.written f.written,
        )

  -- ---- the end

  pub whole_end : (n : ℕ) (text rest : List ℕ) (lines : List (List ℕ)) → take n text ≡ flat_map ended lines ++ rest → text ≡ flat_map ended lines ++ (rest ++ drop n text)
  whole_end n text rest lines e =
      sym (take-append-drop n text) ∙ ap (λ (z : List ℕ). z ++ drop n text) e ∙ append_assoc (flat_map ended lines) rest (drop n text)

  -- the end was read
  runs_whole : (before after : Streams) (state : SessionState) → PumpsWhole (Answering guides orders) Whole before after state → RunsAll guides orders before after
  runs_whole before after state p = record {
    text = p.text;
    output = p.does.0;
    takes = p.taken;
    in_time = p.in_time;
    reach = inl (p.short, p.all);
    replies = p.does.1;
    written = p.does.2;
  }

  -- a line ended the session
  runs_first : (before after : Streams) (state : SessionState) → PumpsFirst (Answering guides orders) Enough before after state → RunsAll guides orders before after
  runs_first before after state p =
      let e = p.does.1 in
      let l = text_lines p.text (e.lines ++ e.last ∷ []) (e.rest ++ drop MOST_INPUT_BYTES p.text) (whole_end MOST_INPUT_BYTES p.text e.rest (e.lines ++ e.last ∷ []) e.answered.whole) e.answered.unbroken in
      record {
        text = p.text;
        output = e.replies;
        takes = p.taken;
        in_time = p.in_time;
        reach = inr (record { before = e.lines; last = e.last; rest = e.rest; whole = e.answered.whole; unbroken = e.answered.unbroken; ends = e.ends });
        replies = record {
          lines = map without_return (e.lines ++ e.last ∷ []) ++ l.0;
          answered = map without_return e.lines ++ without_return e.last ∷ [];
          state = state;
          are_lines = l.1;
          are_answered = until (map without_return e.lines) l.0 (without_return e.last) e.goes_on e.ends
              (ap (λ (z : List (List ℕ)). z ++ l.0) (map_more e.lines e.last) ∙ append_assoc (map without_return e.lines) (without_return e.last ∷ []) l.0);
          run = subst (λ (ls : List (List ℕ)). Run (fresh guides orders) ls e.replies state) (map_more e.lines e.last)
              (run_of (fresh guides orders) (map without_return (e.lines ++ e.last ∷ [])) e.replies state p.does.0 e.answered.run);
        };
        written = e.written;
      }

  -- by the status of the end
  pub runs_by_end : (before after : Streams) (state : SessionState) (end : PumpEnd) → Pumps (Answering guides orders) before after state end
      → Runs guides orders before after (status_at end)
  runs_by_end before after state ends.Done (calm, inl p) = (calm, runs_whole before after state p)
  runs_by_end before after state ends.Done (calm, inr p) = (calm, runs_first before after state p)
  runs_by_end before after state ends.ReadFault p = (state, p)
  runs_by_end before after state ends.WriteFault p = (state, p)
  runs_by_end before after state ends.NoMemory p = (state, p)
  runs_by_end before after state ends.TooLong p = (state, p)

  -- the bytes of a list of one word
  pub one_word : (words : List (String Global)) (word : String Global) (bytes : List ℕ) → 1 ≤ length words → length words < 2 → word ≡ get_or words 0 word
      → string_bytes word ≡ bytes → map string_bytes words ≡ bytes ∷ []
  one_word [] word bytes some few at same = absurd (omega (arith, some))
  one_word (w ∷ []) word bytes some few at same = ap (λ (z : List ℕ). z ∷ []) (ap string_bytes (sym at) ∙ same)
  one_word (w ∷ v ∷ ws) word bytes some few at same = absurd (omega (arith, few))

  -- without a fault and within the limit
  pub whole_status : (before after : Streams) (status : Status) → Runs guides orders before after status → HasNoFault before after → TakesAnswerable before after → IsWhole status
  whole_status before after Done r none within = tt
  whole_status before after Refused r none within = r
  whole_status before after Usage r none within = r
  whole_status before after ReadFault r none within = none.read r.1.0.read
  whole_status before after WriteFault r none within = none.write r.1.0.write
  whole_status before after NoMemory r none within = tt
  whole_status before after TooLong r none within =
      let p = r.1.1 in
      elim (within p.text p.taken) [
        | inl short ↦ absurd (omega (arith, short, r.1.2))
        | inr end ↦ no_end (fresh guides orders) r.0 (first_bytes p.text) p.does.0 before.sink.written after.sink.written p.does.1 p.does.2 end
      ]

  -- more bytes than can be answered
  pub cut_status : (before after : Streams) (status : Status) → Runs guides orders before after status → TakesTooMuch before after → (Rose before.sink.faults after.sink.faults → ⊥) → IsCut status
  cut_status before after Done r much none =
      let same : r.1.text ≡ much.text = told_once before.source.left after.source.left much.left r.1.text much.text much.told r.1.takes much.takes in
      elim r.1.reach [
        | inl short ↦ absurd (omega (arith, ap length same, short.0, much.long))
        | inr end ↦ absurd (much.unended (subst (λ (z : List ℕ). HasEnd (first_bytes z)) same end))
      ]
  cut_status before after Refused r much none = r
  cut_status before after Usage r much none = r
  cut_status before after ReadFault r much none =
      let p = r.1.1 in
      absurd (omega (arith, ap length (told_once before.source.left after.source.left much.left p.text much.text much.told p.taken much.takes), r.1.2, much.long))
  cut_status before after WriteFault r much none = none r.1.0.write
  cut_status before after NoMemory r much none = tt
  cut_status before after TooLong r much none = tt
