-- The objects that were handed in, from one piece to the next and to the end.
use Rattle.std.proofs.Common.{◌≡◌, ℕ, ◌+◌, inl, inr, List, [], ◌∷◌, ◌++◌, map, flat_map, drop, All, Option, Some, None, OnOk, Result, Ok, Err, false, refl, sym, ap, ◌∙◌, subst, append_assoc}
use Rattle.std.proofs.lemmas.List.Elements.{All-nil, All-head, All-tail}
use Rattle.palm_base.specs.Streams.{SinkState}
use Rattle.palm_base.proofs.cited.StreamLemmas.{appended_both, appended_nothing}
use Rattle.palm_lang.specs.Reply.{ended}
use Rattle.palm_lang.specs.declared.stop.WriteStop.{WriteStop as Stop}
use Rattle.palm_pump.proofs.cited.Mapped.{pumps_told}
use Rattle.palm_pump.specs.Pumping.{Begins, Pumps, PumpsFirst, PumpsWhole}
use Rattle.palm_pump.specs.Streams.{Streams}
use Rattle.palm_pump.specs.Taking.{Progress, last_progress_of}
use Rattle.palm_pump.specs.Taking.Progress.{More, Enough, Whole, Until, WholeUntil}
use Rattle.palm_pump.specs.declared.ending.PumpEnd.{PumpEnd}
use Rattle.palm_pump.specs.declared.ending.PumpEnd.TheVariants as ends
use Rattle.palm_pump.specs.declared.limits.TheConstants.{MOST_INPUT_BYTES}
use Rattle.palm_read.proofs.cited.Cutting.{text_lines}
use Rattle.palm_read.specs.Lines.{HasNoFeed, last_line, without_return}
use Rattle.palm_session.proofs.cited.FeedLemmas.{feeds_none, map_more, part_nothing}
use Rattle.palm_session.proofs.cited.Keeping.{line_apart}
use Rattle.palm_session.proofs.cited.LawsOfTexts.{last_known}
use Rattle.palm_session.proofs.cited.LedLemmas.{feeds_lead_long, feeds_then, last_leads_long, run_led}
use Rattle.palm_session.specs.Feeding.{Feeds, FeedsOn, Finishes, View}
use Rattle.palm_session.specs.Led.{Guiding, Ordering, RunLeads, LinesLead, FeedsLead, LastLeads}
use Rattle.palm_session.specs.Objects.{HeldObjects}
use Rattle.palm_session.specs.Replies.{until, GoesOn}
use Rattle.palm_session.specs.State.{SessionState, fresh}
use Rattle.palm_session.specs.declared.going.Going.{Going}
use Rattle.palm_session.specs.declared.going.Going.TheVariants as goings
use Rattle.palm_cli.specs.Commands.{Answering, Runs}
use Rattle.palm_cli.specs.Led.{ObeysLead, RunsAllLead, RunsLead}
use Rattle.palm_cli.specs.Numbers.{status_at}
use Rattle.palm_cli.specs.Serving.{TakesLines}
use Rattle.palm_cli.specs.Words.{Asks, IsRun}
use Rattle.palm_cli.proofs.Endings.{first_line, no_feed_within}
use Rattle.palm_cli.proofs.RunLemmas.{answered_lines, answers_enough, answers_more, answers_until, answers_whole, answers_whole_until, lines_of, runs_by_end, whole_end}
use Rattle.palm_cli.proofs.WordLemmas.{run_no_gen, run_no_judge}
use Rattle.palm_cli.specs.declared.status.Status.{Status}
use Rattle.palm_cli.specs.declared.words.Request.{Request}
use Rattle.palm_cli.specs.declared.words.Request.TheVariants.{Run, Judge, Gen}

-- ---- a text has one rest

rest_once : (xs ys : List (List ℕ)) (x y : List ℕ) → flat_map ended xs ++ x ≡ flat_map ended ys ++ y → All HasNoFeed xs → All HasNoFeed ys → HasNoFeed x → HasNoFeed y → x ≡ y
rest_once [] [] x y e nx ny n m = e
rest_once [] (l ∷ ls) x y e nx ny n m = absurd (no_feed_within x l (flat_map ended ls ++ y) n (e ∙ line_apart l ls y))
rest_once (l ∷ ls) [] x y e nx ny n m = absurd (no_feed_within y l (flat_map ended ls ++ x) m (sym e ∙ line_apart l ls x))
rest_once (k ∷ ks) (l ∷ ls) x y e nx ny n m =
    let r = first_line k l (flat_map ended ks ++ x) (flat_map ended ls ++ y) (All-head HasNoFeed k ks nx) (All-head HasNoFeed l ls ny) (sym (line_apart k ks x) ∙ e ∙ line_apart l ls y) in
    rest_once ks ls x y r.1 (All-tail HasNoFeed k ks nx) (All-tail HasNoFeed l ls ny) n m

module _ {G O : Type 0} (guiding : Guiding G) (ordering : Ordering O) where
  -- the lines that led the objects leave the rest that the answered ones leave
  lead_with : (s t : SessionState) (text rest : List ℕ) (was now then : Option (List ℕ)) (asked : ℕ) (before after : HeldObjects G O) → FeedsOn s text was then rest t asked
      → FeedsLead guiding ordering s text was now before t after goings.More → LinesLead guiding ordering s text was now rest before t after
  lead_with s t text rest was now then asked before after f led =
      subst (λ (z : List ℕ). LinesLead guiding ordering s text was now z before t after)
      (rest_once led.2.lines f.lines led.0 rest (sym led.2.led.whole ∙ f.answered.whole) led.2.led.unbroken f.answered.unbroken led.1 f.unfinished) led.2

  -- what a session does, by the numbers and objects of the one that began
  abbrev ServesAs : View G O → Progress → List ℕ → SinkState → SinkState → View G O → Type 0
  ServesAs first progress text before after session =
      TakesLines guiding ordering first.state.guides first.state.orders first.objects progress text before after session

  module _ (guides orders : List ℕ) (objects : HeldObjects G O) where
    abbrev Serves : Progress → List ℕ → SinkState → SinkState → View G O → Type 0
    Serves progress text before after session = TakesLines guiding ordering guides orders objects progress text before after session

    -- ---- nothing was taken yet

    pub begins : (sink : SinkState) (session : View G O)
        → session ≡ record { state = fresh guides orders; checks = 0; objects = objects; unfinished = []; over = false }
        → Begins (ServesAs session) sink session
    begins sink session made = subst (λ (v : View G O). Begins (ServesAs v) sink v) (sym made) (record {
      going = (
        ([], 0, feeds_none (fresh guides orders) sink.written),
        refl,
        refl,
        record {
          lines = [];
          replies = [];
          led = record { whole = refl; unbroken = All-nil HasNoFeed; run = (refl, refl, refl) };
          goes_on = All-nil GoesOn;
          written = appended_nothing sink.written;
        },
      );
      wanting = part_nothing (fresh guides orders) [] sink.written;
    })

    -- ---- one more piece, or the end

    module _ (seen : List ℕ) (start before after : SinkState) (session later : View G O) (s : Serves More seen start before session) where
      more_leads : (piece : List ℕ) (going : Going)
          → FeedsLead guiding ordering session.state (session.unfinished ++ piece) before.written after.written session.objects later.state later.objects going
          → FeedsLead guiding ordering (fresh guides orders) (seen ++ piece) start.written after.written objects later.state later.objects going
      more_leads piece going led =
          feeds_then guiding ordering (fresh guides orders) session.state later.state seen piece s.0.0 start.written before.written after.written objects session.objects later.objects s.3 going
          (feeds_lead_long guiding ordering session.state later.state s.0.0 piece before.written after.written session.objects later.objects s.0.2.unfinished session.unfinished going s.1 led)

      pub takes_more : (piece : List ℕ) (asked : ℕ) → Feeds session piece before.written after.written later asked (Ok goings.More)
          → FeedsLead guiding ordering session.state (session.unfinished ++ piece) before.written after.written session.objects later.state later.objects goings.More
          → Serves More (seen ++ piece) start after later
      takes_more piece asked f led =
          let a = answers_more guides orders seen start before after session later s.0 s.1 piece asked f.0 in (
            a.0,
            a.1,
            f.1,
            lead_with (fresh guides orders) later.state (seen ++ piece) a.0.0 start.written after.written after.written a.0.1 objects later.objects a.0.2
                (more_leads piece goings.More led),
          )

      pub takes_enough : (piece : List ℕ) (asked : ℕ) → Feeds session piece before.written after.written later asked (Ok goings.Quit)
          → FeedsLead guiding ordering session.state (session.unfinished ++ piece) before.written after.written session.objects later.state later.objects goings.Quit
          → Serves Enough (seen ++ piece) start after later
      takes_enough piece asked f led =
          (answers_enough guides orders seen start before after session later s.0 s.1 piece asked f.0, more_leads piece goings.Quit led)

      pub takes_until : (stop : Stop) (piece : List ℕ) (asked : ℕ) → Feeds session piece before.written after.written later asked (Err stop)
          → Serves (Until stop) (seen ++ piece) start after later
      takes_until stop piece asked f = answers_until guides orders seen start before after session later s.0 s.1 stop piece f.0

      pub takes_end : {A : Type 0} (result : Result A Stop) (asked : ℕ) → Finishes session before.written after.written later asked result
          → OnOk result (LastLeads guiding ordering session.state session.unfinished before.written after.written session.objects later.state later.objects)
          → Serves (last_progress_of result) seen start after later
      takes_end (Ok answer) asked f short =
          let led = s.3 in
          let rest : List ℕ = s.0.0 in
          let last = last_leads_long guiding ordering session.state later.state session.unfinished rest before.written after.written session.objects later.objects s.1 short in
          let lines : List (List ℕ) = map without_return led.lines ++ last_line rest in (
            answers_whole guides orders seen start before after session later s.0 s.1 asked f.0,
            (
              led.replies ++ last.replies,
              appended_both start.written before.written after.written led.replies last.replies led.written last.written,
              record {
                lines = lines;
                answered = lines;
                state = later.state;
                after = later.objects;
                are_lines = lines_of guides orders seen led.lines rest led.led.whole led.led.unbroken s.0.2.unfinished;
                are_answered = answered_lines guides orders (map without_return led.lines) rest led.goes_on (last_known rest);
                run = run_led guiding ordering (fresh guides orders) session.state later.state (map without_return led.lines) (last_line rest) led.replies last.replies objects session.objects later.objects led.led.run last.run;
              },
            ),
          )
      takes_end (Err stop) asked f led = answers_whole_until guides orders seen start before after session later s.0 s.1 stop f.0

    -- ---- the end of the run

    answering : (progress : Progress) (text : List ℕ) (before after : SinkState) (session : View G O) → Serves progress text before after session
        → Answering guides orders progress text before after session.state
    answering More text before after session s = s.0
    answering Enough text before after session s = s.0
    answering Whole text before after session s = s.0
    answering (Until stop) text before after session s = s
    answering (WholeUntil stop) text before after session s = s

    -- the end was read
    leads_whole : (before after : Streams) (session : View G O) → PumpsWhole Serves Whole before after session → RunsAllLead guiding ordering guides orders objects before after
    leads_whole before after session p =
        record { text = p.text; output = p.does.1.0; takes = p.taken; written = p.does.1.1; replies = p.does.1.2 }

    -- a line ended the session
    leads_first : (before after : Streams) (session : View G O) → PumpsFirst Serves Enough before after session → RunsAllLead guiding ordering guides orders objects before after
    leads_first before after session p =
        let e = p.does.1 in
        let l = text_lines p.text (e.lines ++ e.last ∷ []) (e.rest ++ drop MOST_INPUT_BYTES p.text) (whole_end guides orders MOST_INPUT_BYTES p.text e.rest (e.lines ++ e.last ∷ []) e.led.whole) e.led.unbroken in
        record {
          text = p.text;
          output = e.replies;
          takes = p.taken;
          written = e.written;
          replies = record {
            lines = map without_return (e.lines ++ e.last ∷ []) ++ l.0;
            answered = map without_return e.lines ++ without_return e.last ∷ [];
            state = session.state;
            after = session.objects;
            are_lines = l.1;
            are_answered = until (map without_return e.lines) l.0 (without_return e.last) e.goes_on e.ends
                (ap (λ (z : List (List ℕ)). z ++ l.0) (map_more e.lines e.last) ∙ append_assoc (map without_return e.lines) (without_return e.last ∷ []) l.0);
            run = subst (λ (ls : List (List ℕ)). RunLeads guiding ordering (fresh guides orders) ls e.replies objects session.state session.objects) (map_more e.lines e.last) e.led.run;
          };
        }

    -- of a session that was just made
    module _ {T : Type 0} (taker : T) (session_of : T → View G O) (session : View G O) (before after : Streams) (end : PumpEnd) (status : Status)
        (made : session ≡ record { state = fresh guides orders; checks = 0; objects = objects; unfinished = []; over = false })
        (is : status ≡ status_at end)
        (pumps : Pumps (λ progress text b a now. ServesAs session progress text b a (session_of now)) before after taker end) where
      sessions : Pumps Serves before after (session_of taker) end
      sessions =
          subst (λ (v : View G O). Pumps (ServesAs v) before after (session_of taker) end) made
          (pumps_told session_of (λ progress text b a now. ServesAs session progress text b a (session_of now)) (ServesAs session) (λ progress text b a now so. so) before after taker end pumps)

      pub runs : Runs guides orders before after status
      runs =
          subst (Runs guides orders before after) (sym is) (runs_by_end guides orders before after (session_of taker).state end
          (pumps_told (λ session. session.state) Serves (Answering guides orders) answering before after (session_of taker) end sessions))

      pub leads : RunsLead guiding ordering guides orders objects before after status
      leads = subst (RunsLead guiding ordering guides orders objects before after) (sym is) (by_end end sessions)
        where
          by_end : (e : PumpEnd) → Pumps Serves before after (session_of taker) e → RunsLead guiding ordering guides orders objects before after (status_at e)
          by_end ends.Done (calm, inl p) = leads_whole before after (session_of taker) p
          by_end ends.Done (calm, inr p) = leads_first before after (session_of taker) p
          by_end ends.ReadFault p = tt
          by_end ends.WriteFault p = tt
          by_end ends.NoMemory p = tt
          by_end ends.TooLong p = tt

    -- `run` was asked for
    pub leads_by : (words : List (List ℕ)) (before after : Streams) (status : Status) (request : Option Request) → Asks words request → ObeysLead guiding ordering guides orders objects request before after status
        → IsRun words → RunsLead guiding ordering guides orders objects before after status
    leads_by words before after status None a o r = absurd (a.no_run r)
    leads_by words before after status (Some Run) a o r = o
    leads_by words before after status (Some (Judge evidence)) a o r = absurd (run_no_judge words evidence r a)
    leads_by words before after status (Some (Gen size)) a o r = absurd (run_no_gen words size r a)
