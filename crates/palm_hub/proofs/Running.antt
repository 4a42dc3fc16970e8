-- Hub lines, one after another.
use Rattle.std.proofs.Common.{◌≡◌, ℕ, List, [], ◌∷◌, ◌++◌, map, flat_map, Option, refl, sym, ap, ◌∙◌, subst, append_assoc, append-nil}
use Rattle.std.proofs.lemmas.Grind.{flat_map-append}
use Rattle.std.proofs.lemmas.List.{map-append}
use Rattle.std.proofs.lemmas.List.Elements.{All-nil, All-cons, All-append}
use Rattle.palm_base.specs.Streams.{Appended}
use Rattle.palm_base.proofs.cited.StreamLemmas.{appended_nothing, appended_both}
use Rattle.palm_lang.proofs.cited.Writes.{stopped_at_once, stopped_behind, stopped_in_second}
use Rattle.palm_lang.specs.Writing.{AppendedUntil}
use Rattle.palm_lang.specs.declared.stop.WriteStop.{WriteStop as Stop}
use Rattle.palm_lang.specs.declared.stop.WriteStop.TheVariants.{NoMemory}
use Rattle.palm_read.specs.Lines.{AreLines, Cuts, HasNoFeed, ended, last_line, without_return}
use Rattle.palm_hub.specs.Hub.{HubAnswers, HubRun, Opened, Outcome, output_of}
use Rattle.palm_hub.specs.Standing.{AnswersLast, AnswersLastUntil, AnswersLines, AnswersUntil}

-- ---- runs

-- a run of one line
pub one_run : (s t : List Opened) (line : List ℕ) (outcome : Outcome) → HubAnswers s line outcome t
    → HubRun s (line ∷ []) (outcome ∷ []) t
one_run s t line outcome answers = (outcome, [], t, answers, refl, (refl, refl))

-- one run after another
pub run_append : (s m t : List Opened) (xs ys : List (List ℕ)) (os ps : List Outcome) → HubRun s xs os m → HubRun m ys ps t
    → HubRun s (xs ++ ys) (os ++ ps) t
run_append s m t [] ys os ps run more =
    let here : HubRun m ys (os ++ ps) t = subst (λ (zs : List Outcome). HubRun m ys (zs ++ ps) t) (sym run.0) more in
    subst (λ (x : List Opened). HubRun x ys (os ++ ps) t) run.1 here
run_append s m t (x ∷ xs) ys os ps run more =
    (run.0, run.1 ++ ps, run.2, run.3, ap (λ (zs : List Outcome). zs ++ ps) run.4, run_append run.2 m t xs ys run.1 ps run.5 more)

-- what is written of one outcome
pub one_output : (outcome : Outcome) → flat_map output_of (outcome ∷ []) ≡ output_of outcome
one_output outcome = append-nil (output_of outcome)

-- what is written of some outcomes, and then of more
written_both : (was mid now : Option (List ℕ)) (os ps : List Outcome) → Appended was mid (flat_map output_of os)
    → Appended mid now (flat_map output_of ps)
    → Appended was now (flat_map output_of (os ++ ps))
written_both was mid now os ps one two =
    subst (Appended was now) (sym (flat_map-append output_of os ps))
    (appended_both was mid now (flat_map output_of os) (flat_map output_of ps) one two)

-- the same until a stop
written_until : (stop : Stop) (was mid now : Option (List ℕ)) (os ps : List Outcome) → Appended was mid (flat_map output_of os)
    → AppendedUntil stop mid now (flat_map output_of ps) → AppendedUntil stop was now (flat_map output_of (os ++ ps))
written_until stop was mid now os ps one two =
    subst (AppendedUntil stop was now) (sym (flat_map-append output_of os ps))
    (stopped_in_second was mid now (flat_map output_of os) (flat_map output_of ps) one two)

-- ---- cuts

-- a text without a line feed
pub cut_none : (rest : List ℕ) → HasNoFeed rest → Cuts rest [] rest
cut_none rest unbroken = record { whole = refl; unbroken = All-nil HasNoFeed; unfinished = unbroken }

-- a line with its line feed
pub cut_line : (line : List ℕ) → HasNoFeed line → Cuts (ended line) (line ∷ []) []
cut_line line unbroken = record {
  whole = sym (append-nil (flat_map ended (line ∷ [])) ∙ append-nil (ended line));
  unbroken = All-cons HasNoFeed line [] unbroken (All-nil HasNoFeed);
  unfinished = All-nil (λ (b : ℕ). b ≡ 10 → ⊥);
}

-- lines and then more lines stand before a rest
whole_behind : (xs ys : List (List ℕ)) (rest : List ℕ)
    → flat_map ended xs ++ (flat_map ended ys ++ rest) ≡ flat_map ended (xs ++ ys) ++ rest
whole_behind xs ys rest =
    sym (append_assoc (flat_map ended xs) (flat_map ended ys) rest)
    ∙ ap (λ (z : List ℕ). z ++ rest) (sym (flat_map-append ended xs ys))

-- where lines stand before a rest, and more lines in it and more bytes
whole_append : (text more : List ℕ) (xs ys : List (List ℕ)) (mid rest : List ℕ) → text ≡ flat_map ended xs ++ mid
    → mid ++ more ≡ flat_map ended ys ++ rest → text ++ more ≡ flat_map ended (xs ++ ys) ++ rest
whole_append text more xs ys mid rest one two =
    ap (λ (z : List ℕ). z ++ more) one ∙ append_assoc (flat_map ended xs) mid more
    ∙ ap (λ (z : List ℕ). flat_map ended xs ++ z) two ∙ whole_behind xs ys rest

-- where a text is cut, and more is cut behind its rest
pub cut_append : (text more : List ℕ) (xs ys : List (List ℕ)) (mid rest : List ℕ) → Cuts text xs mid → Cuts (mid ++ more) ys rest
    → Cuts (text ++ more) (xs ++ ys) rest
cut_append text more xs ys mid rest one two = record {
  whole = whole_append text more xs ys mid rest one.whole two.whole;
  unbroken = All-append HasNoFeed xs ys one.unbroken two.unbroken;
  unfinished = two.unfinished;
}

-- where a text is cut, and its rest has lines
lines_behind : (text : List ℕ) (xs ys : List (List ℕ)) (mid : List ℕ) → Cuts text xs mid → AreLines mid ys
    → AreLines text (map without_return xs ++ ys)
lines_behind text xs ys mid one two = record {
  ended_lines = xs ++ two.ended_lines;
  rest = two.rest;
  cuts = record {
    whole = one.whole ∙ ap (λ (z : List ℕ). flat_map ended xs ++ z) two.cuts.whole ∙ whole_behind xs two.ended_lines two.rest;
    unbroken = All-append HasNoFeed xs two.ended_lines one.unbroken two.cuts.unbroken;
    unfinished = two.cuts.unfinished;
  };
  all = ap (λ (z : List (List ℕ)). map without_return xs ++ z) two.all
      ∙ sym (append_assoc (map without_return xs) (map without_return two.ended_lines) (last_line two.rest))
      ∙ ap (λ (z : List (List ℕ)). z ++ last_line two.rest) (sym (map-append without_return xs two.ended_lines));
}

-- the lines of a text that is cut
pub cut_lines : (text : List ℕ) (xs : List (List ℕ)) (rest : List ℕ) → Cuts text xs rest
    → AreLines text (map without_return xs ++ last_line rest)
cut_lines text xs rest cuts = record { ended_lines = xs; rest = rest; cuts = cuts; all = refl }

-- ---- answers

-- no line was answered yet
pub lines_none : (hub : List Opened) (seen : List ℕ) (was : Option (List ℕ)) → HasNoFeed seen
    → AnswersLines hub seen was was seen hub
lines_none hub seen was unbroken = record {
  lines = [];
  outcomes = [];
  cuts = cut_none seen unbroken;
  run = (refl, refl);
  written = appended_nothing was;
}

-- the rest has no line feed
pub rest_unbroken : (before after : List Opened) (text rest : List ℕ) (was now : Option (List ℕ))
    → AnswersLines before text was now rest after → HasNoFeed rest
rest_unbroken before after text rest was now one = one.cuts.unfinished

-- more bytes of the line that is not complete yet, of which nothing is written
pub lines_longer : (before after : List Opened) (text more rest : List ℕ) (was now : Option (List ℕ)) → HasNoFeed more
    → AnswersLines before text was now rest after → AnswersLines before (text ++ more) was now (rest ++ more) after
lines_longer before after text more rest was now unbroken one = record {
  lines = one.lines;
  outcomes = one.outcomes;
  cuts = record {
    whole = ap (λ (z : List ℕ). z ++ more) one.cuts.whole ∙ append_assoc (flat_map ended one.lines) rest more;
    unbroken = one.cuts.unbroken;
    unfinished = All-append (λ (b : ℕ). b ≡ 10 → ⊥) rest more one.cuts.unfinished unbroken;
  };
  run = one.run;
  written = one.written;
}

-- some lines were answered, and then the lines that more bytes complete
pub lines_then : (before among after : List Opened) (text more mid rest : List ℕ) (was then now : Option (List ℕ))
    → AnswersLines before text was then mid among
    → AnswersLines among (mid ++ more) then now rest after → AnswersLines before (text ++ more) was now rest after
lines_then before among after text more mid rest was then now one two = record {
  lines = one.lines ++ two.lines;
  outcomes = one.outcomes ++ two.outcomes;
  cuts = cut_append text more one.lines two.lines mid rest one.cuts two.cuts;
  run = subst (λ (ls : List (List ℕ)). HubRun before ls (one.outcomes ++ two.outcomes) after)
      (sym (map-append without_return one.lines two.lines))
      (run_append before among after (map without_return one.lines)
      (map without_return two.lines) one.outcomes two.outcomes one.run two.run);
  written = written_both was then now one.outcomes two.outcomes one.written two.written;
}

-- some lines were answered, and then more until a stop
pub lines_until : (stop : Stop) (before among : List Opened) (text more mid : List ℕ) (was then now : Option (List ℕ))
    → AnswersLines before text was then mid among
    → AnswersUntil stop among (mid ++ more) then now → AnswersUntil stop before (text ++ more) was now
lines_until stop before among text more mid was then now one two = record {
  lines = one.lines ++ two.lines;
  rest = two.rest;
  outcomes = one.outcomes ++ two.outcomes;
  after = two.after;
  whole = whole_append text more one.lines two.lines mid two.rest one.cuts.whole two.whole;
  unbroken = All-append HasNoFeed one.lines two.lines one.cuts.unbroken two.unbroken;
  run = subst (λ (ls : List (List ℕ)). HubRun before ls (one.outcomes ++ two.outcomes) two.after)
      (sym (map-append without_return one.lines two.lines))
      (run_append before among two.after (map without_return one.lines)
      (map without_return two.lines) one.outcomes two.outcomes one.run two.run);
  written = written_until stop was then now one.outcomes two.outcomes one.written two.written;
}

-- memory ran out before any line was answered
pub until_none : (hub : List Opened) (text : List ℕ) (was : Option (List ℕ)) → AnswersUntil NoMemory hub text was was
until_none hub text was = record {
  lines = [];
  rest = text;
  outcomes = [];
  after = hub;
  whole = refl;
  unbroken = All-nil HasNoFeed;
  run = (refl, refl);
  written = stopped_at_once was [];
}

-- memory ran out behind some lines, and nothing was written since
pub lines_then_stop : (before after : List Opened) (text more rest : List ℕ) (was then now : Option (List ℕ))
    → AnswersLines before text was then rest after
    → Appended then now [] → AnswersUntil NoMemory before (text ++ more) was now
lines_then_stop before after text more rest was then now one nothing = record {
  lines = one.lines;
  rest = rest ++ more;
  outcomes = one.outcomes;
  after = after;
  whole = ap (λ (z : List ℕ). z ++ more) one.cuts.whole ∙ append_assoc (flat_map ended one.lines) rest more;
  unbroken = one.cuts.unbroken;
  run = one.run;
  written = stopped_behind was now (flat_map output_of one.outcomes)
      (subst (Appended was now) (append-nil (flat_map output_of one.outcomes))
      (appended_both was then now (flat_map output_of one.outcomes) [] one.written nothing));
}

-- the lines with their line feeds were answered, and then a last one until a stop
pub lines_last_until : (stop : Stop) (before among : List Opened) (text rest : List ℕ) (was then now : Option (List ℕ))
    → AnswersLines before text was then rest among
    → AnswersLastUntil stop among rest then now → AnswersLastUntil stop before text was now
lines_last_until stop before among text rest was then now one two = record {
  lines = map without_return one.lines ++ two.lines;
  others = two.others;
  outcomes = one.outcomes ++ two.outcomes;
  after = two.after;
  are_lines = subst (AreLines text) (sym (append_assoc (map without_return one.lines) two.lines two.others))
      (lines_behind text one.lines (two.lines ++ two.others) rest one.cuts two.are_lines);
  run = run_append before among two.after (map without_return one.lines) two.lines one.outcomes two.outcomes one.run two.run;
  written = written_until stop was then now one.outcomes two.outcomes one.written two.written;
}

-- all lines of a text were answered, those with their line feeds and then the last one
pub lines_last : (before among : List Opened) (text rest : List ℕ) (was then now : Option (List ℕ))
    → AnswersLines before text was then rest among
    → (last : AnswersLast among rest then now)
    → (lines : List (List ℕ)) × (outcomes : List Outcome) × AreLines text lines × HubRun before lines outcomes last.after
    × Appended was now (flat_map output_of outcomes)
lines_last before among text rest was then now one last = (
  map without_return one.lines ++ last_line rest,
  one.outcomes ++ last.outcomes,
  cut_lines text one.lines rest one.cuts,
  run_append before among last.after (map without_return one.lines) (last_line rest) one.outcomes last.outcomes one.run last.run,
  written_both was then now one.outcomes last.outcomes one.written last.written,
)
