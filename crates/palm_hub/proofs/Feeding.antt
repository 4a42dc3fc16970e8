-- A hub is fed bytes line by line, and a last line is answered.
use Rattle.std.proofs.Common.{◌≡◌, ◌≢◌, ℕ, Result, Ok, Err, IfErr, OnOk, ◌+◌, ◌-◌, Bool, true, false, cond, List, [], ◌∷◌, ◌++◌, length, take, drop, flat_map, Option, refl, sym, ap, ◌∙◌, subst, append_assoc, append-nil, arith}
use Rattle.std.specs.Prelude.{slice_range}
use Rattle.std.proofs.lemmas.List.Elements.{All-append, All-cons, All-nil}
use Rattle.std.proofs.lemmas.Slice.{between_to_end}
use Rattle.palm_base.specs.Streams.{Appended, Rose, SinkState}
use Rattle.palm_base.proofs.cited.StreamLemmas.{appended_nothing, appended_both}
use Rattle.palm_lang.proofs.cited.Writes.{stopped_in_second}
use Rattle.palm_lang.specs.Writing.{AppendedUntil}
use Rattle.palm_lang.specs.declared.stop.WriteStop.{WriteStop as Stop}
use Rattle.palm_lang.specs.declared.stop.WriteStop.TheVariants.{NoMemory}
use Rattle.palm_read.specs.Lines.{AreLines, HasNoFeed, IsNextFeed, ended, without_return}
use Rattle.palm_hub.specs.Hub.{HubRun, Opened, output_of}
use Rattle.palm_hub.specs.declared.part.Part.{Part}
use Rattle.palm_hub.specs.declared.part.Part.TheVariants.{Head, Blanks, Skipped, Session}
use Rattle.palm_hub.specs.Standing.{AnswersLast, AnswersLastUntil, AnswersLines, AnswersUntil, Holds, HubView, Member, Stands, StandsBehind}
use Rattle.palm_hub.specs.Stepping.{AnswersOne, AnswersOneUntil, IsAtStart, IsQuiet}
use Rattle.palm_hub.proofs.Beginning.{addresses_some}
use Rattle.palm_hub.proofs.Running.{cut_line, cut_lines, cut_none, lines_longer, lines_none, lines_then, lines_then_stop, lines_until, one_output, one_run, rest_unbroken}

-- ---- one line among others

-- nothing more was written
written_still : (was mid now : Option (List ℕ)) (text : List ℕ) → Appended was mid text → Appended mid now []
    → Appended was now text
written_still was mid now text one two = subst (Appended was now) (append-nil text) (appended_both was mid now text [] one two)

-- one line was answered
lines_one : (before after : List Opened) (line : List ℕ) (was mid now : Option (List ℕ)) → HasNoFeed line → Appended was mid []
    → AnswersOne before (without_return line) mid now after → AnswersLines before (ended line) was now [] after
lines_one before after line was mid now unbroken nothing one = record {
  lines = line ∷ [];
  outcomes = one.outcome ∷ [];
  cuts = cut_line line unbroken;
  run = one_run before after (without_return line) one.outcome one.answers;
  written = subst (Appended was now) (sym (one_output one.outcome))
      (appended_both was mid now [] (output_of one.outcome) nothing one.written);
}

-- one line was answered until a stop, or memory ran out before; and more may stand behind it
until_one : (stop : Stop) (before : List Opened) (line more : List ℕ) (was mid now : Option (List ℕ)) → HasNoFeed line
    → Appended was mid [] → AnswersOneUntil stop before (without_return line) mid now
    → AnswersUntil stop before (ended line ++ more) was now
until_one stop before line more was mid now unbroken nothing one = go one.lines one.whole one.run
  where
    written : AppendedUntil stop was now (flat_map output_of one.outcomes)
    written = stopped_in_second was mid now [] (flat_map output_of one.outcomes) nothing one.written

    go : (lines : List (List ℕ)) → without_return line ∷ [] ≡ lines ++ one.others → HubRun before lines one.outcomes one.after
        → AnswersUntil stop before (ended line ++ more) was now
    go [] whole run = record {
      lines = [];
      rest = ended line ++ more;
      outcomes = one.outcomes;
      after = one.after;
      whole = refl;
      unbroken = All-nil HasNoFeed;
      run = run;
      written = written;
    }
    go (l ∷ []) whole run =
        let same : l ∷ [] ≡ without_return line ∷ [] = cc in
        record {
          lines = line ∷ [];
          rest = more;
          outcomes = one.outcomes;
          after = one.after;
          whole = ap (λ (z : List ℕ). z ++ more) (sym (append-nil (ended line)));
          unbroken = All-cons HasNoFeed line [] unbroken (All-nil HasNoFeed);
          run = subst (λ (ls : List (List ℕ)). HubRun before ls one.outcomes one.after) same run;
          written = written;
        }
    go (l ∷ m ∷ ls) whole run = absurd cc

-- nothing more was written behind some lines
lines_still : (before after : List Opened) (text rest : List ℕ) (was mid now : Option (List ℕ)) → Appended mid now []
    → AnswersLines before text was mid rest after → AnswersLines before text was now rest after
lines_still before after text rest was mid now nothing one = record {
  lines = one.lines;
  outcomes = one.outcomes;
  cuts = one.cuts;
  run = one.run;
  written = written_still was mid now (flat_map output_of one.outcomes) one.written nothing;
}

-- ---- the bytes of a text

-- bytes were taken: the lines that they complete were answered, and the hub stands behind the rest
abbrev pub TakesUp : {G O : Type 0} → HubView G O → List ℕ → Option (List ℕ) → Option (List ℕ) → HubView G O → Type 0
TakesUp before bytes was now after =
    (sessions : List Opened) (seen : List ℕ) → HasNoFeed seen → StandsBehind sessions seen before
    → (rest : List ℕ) × (later : List Opened) × AnswersLines sessions (seen ++ bytes) was now rest later
    × StandsBehind later rest after

-- the text was taken as far as a place
pub record IsTaken {G O : Type 0} (before : HubView G O) (text : List ℕ) (start : ℕ) (was now : Option (List ℕ))
    (after : HubView G O) : Type 0 where
  pub front : List ℕ
  pub whole : text ≡ front ++ drop start text
  pub takes : TakesUp before front was now after

-- bytes of a line were taken
abbrev pub TakesPart : {G O : Type 0} → HubView G O → List ℕ → HubView G O → Type 0
TakesPart before bytes after =
    (sessions : List Opened) (seen : List ℕ) → StandsBehind sessions seen before → StandsBehind sessions (seen ++ bytes) after

-- a line was ended
abbrev pub EndsLine : {G O : Type 0} → HubView G O → Option (List ℕ) → Option (List ℕ) → HubView G O → Type 0
EndsLine before was now after =
    (sessions : List Opened) (seen : List ℕ) → HasNoFeed seen → StandsBehind sessions seen before
    → (later : List Opened) × AnswersOne sessions (without_return seen) was now later × StandsBehind later [] after

-- a line was ended until a stop
abbrev pub EndsLineUntil : {G O : Type 0} → Stop → HubView G O → Option (List ℕ) → Option (List ℕ) → Type 0
EndsLineUntil stop before was now =
    (sessions : List Opened) (seen : List ℕ) → HasNoFeed seen → StandsBehind sessions seen before
    → AnswersOneUntil stop sessions (without_return seen) was now

-- no byte was taken yet
pub taken_none : {G O : Type 0} (before : HubView G O) (text : List ℕ) (was : Option (List ℕ))
    → IsTaken before text 0 was was before
taken_none before text was = record {
  front = [];
  whole = refl;
  takes = λ sessions seen unbroken stands.
      let none = lines_none sessions seen was unbroken in
      let same = subst (λ (z : List ℕ). AnswersLines sessions z was was seen sessions) (sym (append-nil seen)) none in
      (seen, sessions, same, stands);
}

module _ {G O : Type 0} {before among : HubView G O} {text : List ℕ} {start : ℕ} {was mid : Option (List ℕ)}
    (taken : IsTaken before text start was mid among) where
  -- what was seen, what was taken and what follows are what was seen and the text
  all_seen : (seen more : List ℕ) → drop start text ≡ more → (seen ++ taken.front) ++ more ≡ seen ++ text
  all_seen seen more behind =
      append_assoc seen taken.front more
      ∙ ap (λ (z : List ℕ). seen ++ z) (sym (taken.whole ∙ ap (λ (z : List ℕ). taken.front ++ z) behind))

  -- the rest of the text was taken, which completes no line
  pub taken_all : {now : Option (List ℕ)} {after : HubView G O} → HasNoFeed (drop start text) → Appended mid now []
      → TakesPart among (drop start text) after → TakesUp before text was now after
  taken_all {now} {after} unbroken nothing part = λ sessions seen free stands.
      let more = drop start text in
      let one = taken.takes sessions seen free stands in
      let longer = lines_longer sessions one.1 (seen ++ taken.front) more one.0 was now unbroken
      (lines_still sessions one.1 (seen ++ taken.front) one.0 was mid now nothing one.2) in (
        one.0 ++ more,
        one.1,
        subst (λ (z : List ℕ). AnswersLines sessions z was now (one.0 ++ more) one.1) (all_seen seen more refl) longer,
        part one.1 one.0 one.3,
      )

  -- memory ran out behind the lines that were answered, and nothing was written since
  pub taken_stop : {now : Option (List ℕ)} → Appended mid now [] → (sessions : List Opened) (seen : List ℕ) → HasNoFeed seen
      → StandsBehind sessions seen before → AnswersUntil NoMemory sessions (seen ++ text) was now
  taken_stop {now} nothing sessions seen free stands =
      let more = drop start text in
      let one = taken.takes sessions seen free stands in
      subst (λ (z : List ℕ). AnswersUntil NoMemory sessions z was now) (all_seen seen more refl)
      (lines_then_stop sessions one.1 (seen ++ taken.front) more one.0 was mid now one.2 nothing)

  -- the line that was not complete, and the part that completes it, have no line feed
  line_unbroken : {end : ℕ} → IsNextFeed text start end → (sessions later : List Opened) (seen rest : List ℕ)
      → AnswersLines sessions (seen ++ taken.front) was mid rest later → HasNoFeed (rest ++ slice_range text start end)
  line_unbroken {end} feed sessions later seen rest one =
      All-append (λ (b : ℕ). b ≢ 10) rest (slice_range text start end)
      (rest_unbroken sessions later (seen ++ taken.front) rest was mid one) feed.unbroken

  module _ {end : ℕ} (feed : IsNextFeed text start end) {part : HubView G O} {at : Option (List ℕ)} (nothing : Appended mid at [])
      (takes : TakesPart among (slice_range text start end) part) where
    -- one more line was taken and answered
    pub taken_line : {now : Option (List ℕ)} {after : HubView G O} → EndsLine part at now after
        → IsTaken before text (end + 1) was now after
    taken_line {now} {after} ends =
        let line = slice_range text start end in
        record {
          front = taken.front ++ ended line;
          whole = taken.whole ∙ ap (λ (z : List ℕ). taken.front ++ z) feed.line
              ∙ sym (append_assoc taken.front (ended line) (drop (end + 1) text));
          takes = λ sessions seen free stands.
              let one = taken.takes sessions seen free stands in
              let unbroken = line_unbroken feed sessions one.1 seen one.0 one.2 in
              let answered = ends one.1 (one.0 ++ line) unbroken (takes one.1 one.0 one.3) in
              let last = subst (λ (z : List ℕ). AnswersLines one.1 z mid now [] answered.0) (append_assoc one.0 line (10 ∷ []))
              (lines_one one.1 answered.0 (one.0 ++ line) mid at now unbroken nothing answered.1) in
              let joined = append_assoc seen taken.front (ended line) in
              let all = subst (λ (z : List ℕ). AnswersLines sessions z was now [] answered.0) joined
              (lines_then sessions one.1 answered.0 (seen ++ taken.front) (ended line) one.0 [] was mid now one.2 last) in
              ([], answered.0, all, answered.2);
        }

    -- one more line was taken, and answered until a stop
    pub taken_until : {now : Option (List ℕ)} {stop : Stop} → EndsLineUntil stop part at now → (sessions : List Opened)
        (seen : List ℕ) → HasNoFeed seen → StandsBehind sessions seen before → AnswersUntil stop sessions (seen ++ text) was now
    taken_until {now} {stop} ends sessions seen free stands =
        let line = slice_range text start end in
        let more = drop (end + 1) text in
        let one = taken.takes sessions seen free stands in
        let unbroken = line_unbroken feed sessions one.1 seen one.0 one.2 in
        let answered = ends one.1 (one.0 ++ line) unbroken (takes one.1 one.0 one.3) in
        let apart : ended (one.0 ++ line) ++ more ≡ one.0 ++ (ended line ++ more) =
        ap (λ (z : List ℕ). z ++ more) (append_assoc one.0 line (10 ∷ [])) ∙ append_assoc one.0 (ended line) more in
        let last = subst (λ (z : List ℕ). AnswersUntil stop one.1 z mid now) apart
        (until_one stop one.1 (one.0 ++ line) more mid at now unbroken nothing answered) in
        subst (λ (z : List ℕ). AnswersUntil stop sessions z was now) (all_seen seen (ended line ++ more) feed.line)
        (lines_until stop sessions one.1 (seen ++ taken.front) (ended line ++ more) one.0 was mid now one.2 last)

-- ---- the calls

-- the sink's faults did not rise before a stop for want of memory
abbrev pub IsCalm : Stop → ℕ → ℕ → Type 0
IsCalm stop before now = stop ≡ NoMemory → Rose before now → ⊥

pub calm_since : {stop : Stop} {before mid now : ℕ} → mid ≡ before → IsCalm stop before now → IsCalm stop mid now
calm_since {now = now} same calm memory rose = calm memory (subst (λ (n : ℕ). Rose n now) same rose)

module _ {G O T : Type 0} {before among : HubView G O} {text : List ℕ} {start : ℕ} (s0 s1 s2 : SinkState)
    (taken : IsTaken before text start s0.written s1.written among) where
  -- the rest of the text was taken
  pub rest_taken : (result : Result T Stop) (after : HubView G O) → HasNoFeed (drop start text) → IsQuiet s1 s2 result
      → OnOk result (TakesPart among (take (length text - start) (drop start text)) after)
      → OnOk result (TakesUp before text s0.written s2.written after)
  rest_taken (Ok t) after unbroken quiet part =
      taken_all taken unbroken quiet.written
      (subst (λ (z : List ℕ). TakesPart among z after) (between_to_end text start (length text) (omega arith)) part)
  rest_taken (Err stop) after unbroken quiet part = tt

  -- memory ran out while bytes were taken
  pub quiet_until : (result : Result T Stop) → s1.faults ≡ s0.faults → IsQuiet s1 s2 result
      → IfErr result (λ stop. (sessions : List Opened) (seen : List ℕ) → HasNoFeed seen → StandsBehind sessions seen before
      → (stop ≡ NoMemory → Rose s0.faults s2.faults → ⊥) → AnswersUntil stop sessions (seen ++ text) s0.written s2.written)
  quiet_until (Ok t) same quiet = tt
  quiet_until (Err stop) same quiet = λ sessions seen free stands calm.
      subst (λ (z : Stop). AnswersUntil z sessions (seen ++ text) s0.written s2.written) (sym quiet.memory)
      (taken_stop taken (quiet.stopped (calm_since {stop = stop} same calm quiet.memory)) sessions seen free stands)

-- ---- a last line

-- where no byte of a line was taken, its head is empty
begun_at : {G O : Type 0} (hub : List Opened) (content head : List ℕ) (part : Part) (members : List (Member G O)) → content ≡ []
    → Stands true hub content head part members → (part ≡ Head) × (head ≡ [])
begun_at hub content head Head members empty s = (refl, sym s.0 ∙ empty)
begun_at hub content head Blanks members empty s = absurd (s.1 empty)
begun_at hub content head (Skipped refusal) members empty s = absurd (s.1 empty)
begun_at hub content head (Session place) members empty s = absurd (addresses_some content s.at.name s.line s.addresses empty)

-- where no byte was seen, none waits
none_waits : (seen content : List ℕ) (held : Bool) → seen ≡ [] → Holds seen content held → (content ≡ []) × (held ≡ false)
none_waits seen content true empty h = absurd (some content (sym empty ∙ h.whole))
  where
    some : (xs : List ℕ) → [] ≡ xs ++ 13 ∷ [] → ⊥
    some [] e = absurd cc
    some (x ∷ xs) e = absurd cc
none_waits seen content false empty h = (sym h.whole ∙ empty, refl)

module _ {G O : Type 0} {hub : List Opened} {seen : List ℕ} {v : HubView G O} (stands : StandsBehind hub seen v) where
  -- where no byte of a line was taken, none was seen
  pub none_seen : IsAtStart v → seen ≡ []
  none_seen start =
      let at_head : Stands true hub stands.content v.head Head v.members =
      subst (λ (p : Part). Stands true hub stands.content v.head p v.members) start.begun stands.stands in
      let bare : seen ≡ stands.content =
      subst (λ (b : Bool). seen ≡ cond b (stands.content ++ 13 ∷ []) stands.content) start.free stands.holds.whole in
      bare ∙ at_head.0 ∙ start.none

  -- where none was seen, none was taken
  pub none_taken : seen ≡ [] → IsAtStart v
  none_taken empty =
      let waits = none_waits seen stands.content v.held empty stands.holds in
      let begun = begun_at hub stands.content v.head v.part v.members waits.0 stands.stands in
      record { begun = begun.0; none = begun.1; free = waits.1 }

-- no last line is there
pub last_none : (hub : List Opened) (seen : List ℕ) (was : Option (List ℕ)) → seen ≡ [] → AnswersLast hub seen was was
last_none hub seen was empty = subst (λ (z : List ℕ). AnswersLast hub z was was) (sym empty)
    (record { outcomes = []; after = hub; run = (refl, refl); written = appended_nothing was })

-- the last line was answered
last_one : (hub after : List Opened) (seen : List ℕ) (was now : Option (List ℕ)) → seen ≢ []
    → AnswersOne hub (without_return seen) was now after → AnswersLast hub seen was now
last_one hub after [] was now some one = absurd (some refl)
last_one hub after (b ∷ bs) was now some one = record {
  outcomes = one.outcome ∷ [];
  after = after;
  run = one_run hub after (without_return (b ∷ bs)) one.outcome one.answers;
  written = subst (Appended was now) (sym (one_output one.outcome)) one.written;
}

-- it was answered until a stop
last_until : (stop : Stop) (hub : List Opened) (seen : List ℕ) (was now : Option (List ℕ)) → HasNoFeed seen → seen ≢ []
    → AnswersOneUntil stop hub (without_return seen) was now → AnswersLastUntil stop hub seen was now
last_until stop hub [] was now free some one = absurd (some refl)
last_until stop hub (b ∷ bs) was now free some one = record {
  lines = one.lines;
  others = one.others;
  outcomes = one.outcomes;
  after = one.after;
  are_lines = subst (AreLines (b ∷ bs)) one.whole (cut_lines (b ∷ bs) [] (b ∷ bs) (cut_none (b ∷ bs) free));
  run = one.run;
  written = one.written;
}

module _ {G O T : Type 0} (before : HubView G O) (begun : IsAtStart before → ⊥) (was now : Option (List ℕ)) where
  -- a last line was answered
  pub last_answered : (result : Result T Stop) (after : HubView G O) → OnOk result (EndsLine before was now after)
      → OnOk result ((sessions : List Opened) (seen : List ℕ) → HasNoFeed seen → StandsBehind sessions seen before
      → AnswersLast sessions seen was now)
  last_answered (Ok t) after ends = λ sessions seen free stands.
      let one = ends sessions seen free stands in
      last_one sessions one.0 seen was now (λ empty. begun (none_taken stands empty)) one.1
  last_answered (Err stop) after ends = tt

  -- it was answered until a stop
  pub last_stopped : (calm : Stop → Type 0) (result : Result T Stop)
      → IfErr result (λ stop. (sessions : List Opened) (seen : List ℕ) → HasNoFeed seen → StandsBehind sessions seen before
      → calm stop → AnswersOneUntil stop sessions (without_return seen) was now)
      → IfErr result (λ stop. (sessions : List Opened) (seen : List ℕ) → HasNoFeed seen → StandsBehind sessions seen before
      → calm stop → AnswersLastUntil stop sessions seen was now)
  last_stopped calm (Ok t) stopped = tt
  last_stopped calm (Err stop) stopped = λ sessions seen free stands still.
      let some = λ (empty : seen ≡ []). begun (none_taken stands empty) in
      last_until stop sessions seen was now free some (stopped sessions seen free stands still)
