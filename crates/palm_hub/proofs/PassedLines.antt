-- What a session that writes to a sink with a prefix does with a line in pieces.
use Rattle.std.proofs.Common.{◌≡◌, ℕ, Bool, true, false, ◌&&◌, inl, inr, List, [], ◌∷◌, ◌++◌, ◌+◌, length, take, Option, Result, Ok, Err, OnOk, IfErr, IsErrAnd, refl, sym, ap, ◌∙◌, subst, arith, length-append}
use Rattle.std.proofs.lemmas.Bool.{ltb-false, true≢false}
use Rattle.std.proofs.lemmas.List.{nil_from_length}
use Rattle.palm_base.specs.Counts.{one_more}
use Rattle.palm_base.specs.Streams.{SinkState, Appended, Rose}
use Rattle.palm_lang.proofs.cited.Writes.{stopped_behind}
use Rattle.palm_lang.specs.Writing.{AppendedUntil}
use Rattle.palm_lang.specs.declared.stop.WriteStop.{WriteStop as Stop}
use Rattle.palm_lang.specs.declared.stop.WriteStop.TheVariants.{NoMemory}
use Rattle.palm_read.specs.Lines.{HasNoFeed, without_return}
use Rattle.palm_session.proofs.cited.Pieces.{ends_decided, front_answered, line_more, line_quit, piece_kept, piece_stopped, piece_unended}
use Rattle.palm_session.specs.Feeding.{AnswersFront, FeedsEnd, Feeds, FeedsPart, IsSession, KeepsRest, View}
use Rattle.palm_session.specs.State.{SessionState}
use Rattle.palm_session.specs.declared.going.Going.{Going}
use Rattle.palm_session.specs.declared.going.Going.TheVariants.{More, Quit}
use Rattle.palm_session.specs.declared.limits.TheConstants.{MOST_KEPT_BYTES}
use Rattle.palm_hub.specs.Hub.{Leaves}
use Rattle.palm_hub.specs.Marked.{marked}
use Rattle.palm_hub.specs.Passing.{FeedsMarked, Marks, MarksUntil}
use Rattle.palm_hub.specs.Prefixed.{is_calm, told}
use Rattle.palm_hub.specs.Standing.{AnswersIn, AnswersInUntil, KeepsPart}
use Rattle.palm_hub.proofs.MarkedTexts.{text_marked, until_stop}
use Rattle.palm_hub.proofs.Prefixing.{IsRight}

-- ---- a session and a sink with a prefix

-- where the count did not rise, nothing tore the sink
calm_whole : (torn : Bool) (first last : ℕ) → (torn && is_calm first last) ≡ false → (Rose first last → ⊥) → torn ≡ false
calm_whole true first last cause calm = absurd (calm (ltb-false last (one_more first) cause))
calm_whole false first last cause calm = refl

marks : (base later : Option (List ℕ)) (p : List ℕ) (torn : Bool) (shown : ℕ) (result : Result Going Stop)
    → IsRight base p torn shown later
    → OnOk result (torn ≡ false) → OnOk result (Marks p (told base p base) (told base p later) base later)
marks base later p torn shown (Ok going) right whole = λ text a. text_marked base later p text torn shown whole right a
marks base later p torn shown (Err stop) right whole = tt

marks_until : (base later : Option (List ℕ)) (p : List ℕ) (torn : Bool) (shown first last : ℕ) (result : Result Going Stop)
    → IsRight base p torn shown later
    → (torn && is_calm first last) ≡ false
    → IfErr result (λ stop. (stop ≡ NoMemory → Rose first last → ⊥) → MarksUntil stop p (told base p base) (told base p later) base later)
marks_until base later p torn shown first last (Ok going) right cause = tt
marks_until base later p torn shown first last (Err stop) right cause =
    λ calm text u. until_stop stop base later p text torn shown (λ memory. calm_whole torn first last cause (calm memory)) right u

-- what the session wrote, and what stands in the sink behind
fed_behind : {G O : Type 0} (before after : View G O) (piece p : List ℕ) (first last : SinkState) (torn : Bool) (shown asked : ℕ)
    (result : Result Going Stop)
    → IsRight first.written p torn shown last.written → (torn && is_calm first.faults last.faults) ≡ false
    → OnOk result (torn ≡ false)
    → Feeds before piece (told first.written p first.written) (told first.written p last.written) after asked result
    → FeedsMarked before piece p first last after asked result
fed_behind before after piece p first last torn shown asked result right cause whole feeds = record {
  was = told first.written p first.written;
  now = told first.written p last.written;
  feeds = feeds;
  ok = marks first.written last.written p torn shown result right whole;
  stopped = marks_until first.written last.written p torn shown first.faults last.faults result right cause;
}

-- the same by what was known at the start
pub fed : {G O : Type 0} (before after : View G O) (piece prefix p : List ℕ) (base : Option (List ℕ)) (faults : ℕ)
    (first made behind last : SinkState) (torn_then torn : Bool) (shown asked : ℕ) (result : Result Going Stop)
    → first.written ≡ base → first.faults ≡ faults → prefix ≡ p → made ≡ first → torn_then ≡ false → behind ≡ last
    → IsRight base p torn shown behind.written → (torn && is_calm faults behind.faults) ≡ false → OnOk result (torn ≡ torn_then)
    → Feeds before piece (told base p made.written) (told base p behind.written) after asked result
    → FeedsMarked before piece prefix first last after asked result
fed before after piece prefix p base faults first made behind last torn_then torn shown asked result base_is faults_is prefix_is first_is calm last_is right
    cause whole feeds =
    let right_first = subst (λ w. IsRight w p torn shown behind.written) (sym base_is) right in
    let cause_first = subst (λ n. (torn && is_calm n behind.faults) ≡ false) (sym faults_is) cause in
    let feeds_made = subst (λ s. Feeds before piece (told base p s.written) (told base p behind.written) after asked result) first_is feeds in
    let feeds_first = subst (λ w. Feeds before piece (told w p first.written) (told w p behind.written) after asked result)
    (sym base_is) feeds_made in
    let fed_last = fed_behind before after piece p first behind torn shown asked result right_first cause_first
    (subst (λ t. OnOk result (torn ≡ t)) calm whole) feeds_first in
    subst (λ s. FeedsMarked before piece prefix first s after asked result) last_is
    (subst (λ q. FeedsMarked before piece q first behind after asked result) (sym prefix_is) fed_last)

-- what the exit of a `?` answers
pub stopped_with : {T : Type 0} (result : Result T Stop) (stop : Stop) → IsErrAnd result (λ other. other ≡ stop) → result ≡ Err stop
stopped_with (Ok x) stop is = absurd is
stopped_with (Err other) stop is = ap (λ s. Err s) is

-- ---- a part of a line

-- it is kept, and nothing is written
pub part_kept : {G O : Type 0} (before after : View G O) (piece prefix : List ℕ) (first last : SinkState) (asked : ℕ) (going : Going)
    → IsSession before → HasNoFeed piece → FeedsMarked before piece prefix first last after asked (Ok going)
    → KeepsPart before piece after × Appended first.written last.written []
part_kept before after piece prefix first last asked More is unbroken m =
    let kept = piece_kept before.state after.state before.unfinished piece after.unfinished m.was m.now asked
    is.unfinished.unbroken unbroken m.feeds.0 in
    (record { state = kept.0; going = m.feeds.1; kept = kept.2 }, m.ok [] kept.1)
part_kept before after piece prefix first last asked Quit is unbroken m =
    absurd (piece_unended before.state after.state before.unfinished piece m.was m.now asked is.unfinished.unbroken unbroken m.feeds.0)

-- until a stop nothing of no text was written
until_nothing : (stop : Stop) (was now : Option (List ℕ)) → AppendedUntil stop was now [] → Appended was now []
until_nothing stop was now u =
    let none : 0 ≡ length u.front + length u.back = ap length u.whole ∙ length-append u.front u.back in
    subst (Appended was now) (nil_from_length u.front (omega (arith, none))) u.written

-- memory alone can run out, and nothing is written
pub part_stopped : {G O : Type 0} (before after : View G O) (piece prefix : List ℕ) (first last : SinkState) (asked : ℕ) (stop : Stop)
    → IsSession before → HasNoFeed piece → FeedsMarked before piece prefix first last after asked (Err stop)
    → (stop ≡ NoMemory) × ((Rose first.faults last.faults → ⊥) → Appended first.written last.written [])
part_stopped before after piece prefix first last asked stop is unbroken m =
    let stopped = piece_stopped stop before.state before.unfinished piece m.was m.now is.unfinished.unbroken unbroken m.feeds.0 in
    let until = subst (λ s. AppendedUntil s m.was m.now []) (sym stopped.0) (stopped_behind m.was m.now [] stopped.1) in
    (stopped.0, λ calm. until_nothing stop first.written last.written (m.stopped (λ memory. calm) [] until))

-- ---- the end of a line

-- it is answered
pub line_answered : {G O : Type 0} (before after : View G O) (line prefix : List ℕ) (first last : SinkState) (asked : ℕ) (going : Going)
    → HasNoFeed line → before.unfinished ≡ take MOST_KEPT_BYTES line
    → FeedsMarked before (10 ∷ []) prefix first last after asked (Ok going)
    → AnswersIn before line prefix first.written last.written after
line_answered before after line prefix first last asked More unbroken kept m =
    let rest = subst (λ u. KeepsRest before.state (u ++ 10 ∷ []) m.was m.now after.unfinished after.state asked) kept m.feeds.0 in
    let more = line_more before.state after.state line after.unfinished m.was m.now asked unbroken rest in
    record {
      reply = more.0.reply;
      answers = more.0.answers;
      leaves = subst (Leaves (without_return line)) (sym m.feeds.1) more.0.decides;
      written = m.ok more.0.reply more.0.written;
      idle = λ _. more.1;
    }
line_answered before after line prefix first last asked Quit unbroken kept m =
    let end = subst (λ u. FeedsEnd before.state (u ++ 10 ∷ []) m.was m.now after.state asked) kept m.feeds.0 in
    let quit = line_quit before.state after.state line m.was m.now asked unbroken end in
    record {
      reply = quit.reply;
      answers = quit.answers;
      leaves = subst (Leaves (without_return line)) (sym m.feeds.1) quit.decides;
      written = m.ok quit.reply quit.written;
      idle = λ more. absurd (true≢false (sym m.feeds.1 ∙ more));
    }

answered_until : (stop : Stop) (before : SessionState) (line prefix : List ℕ) (was now then last : Option (List ℕ))
    → AnswersFront stop before (without_return line) was now
    → ((text : List ℕ) → AppendedUntil stop was now text → AppendedUntil stop then last (marked prefix text))
    → AnswersInUntil stop before line prefix then last
answered_until stop before line prefix was now then last front marks = elim (ends_decided (without_return line)) [
  | inl ends ↦ record {
    reply = front.reply;
    after = front.after;
    over = true;
    answers = front.answers;
    leaves = ends;
    written = marks front.reply front.written;
  }
  | inr goes ↦ record {
    reply = front.reply;
    after = front.after;
    over = false;
    answers = front.answers;
    leaves = goes;
    written = marks front.reply front.written;
  }
]

-- its reply is written until the stop
pub line_stopped : {G O : Type 0} (before after : View G O) (line prefix : List ℕ) (first last : SinkState) (asked : ℕ) (stop : Stop)
    → IsSession before → before.over ≡ false → HasNoFeed line → before.unfinished ≡ take MOST_KEPT_BYTES line
    → FeedsMarked before (10 ∷ []) prefix first last after asked (Err stop) → (stop ≡ NoMemory → Rose first.faults last.faults → ⊥)
    → AnswersInUntil stop before.state line prefix first.written last.written
line_stopped before after line prefix first last asked stop is over unbroken kept m calm =
    let part = subst (λ u. FeedsPart stop before.state (u ++ 10 ∷ []) m.was m.now) kept m.feeds.0 in
    let front = front_answered stop before.state line m.was m.now (is.state over) unbroken part in
    answered_until stop before.state line prefix m.was m.now first.written last.written front (m.stopped calm)
