-- A line ends, and is answered.
use Rattle.std.proofs.Common.{◌≡◌, ℕ, Bool, false, List, [], ◌∷◌, ◌++◌, take, flat_map, get_or, set, Option, refl, sym, ap, ◌∙◌, subst, arith, append-nil}
use Rattle.std.proofs.lemmas.List.{map-append}
use Rattle.std.proofs.lemmas.List.Elements.{All-append, All-cons, All-tail}
use Rattle.palm_base.specs.Streams.{Appended}
use Rattle.palm_base.proofs.cited.StreamLemmas.{appended_nothing, appended_both}
use Rattle.palm_lang.proofs.cited.Writes.{stopped_in_second}
use Rattle.palm_lang.specs.Writing.{AppendedUntil}
use Rattle.palm_lang.specs.declared.stop.WriteStop.{WriteStop as Stop}
use Rattle.palm_read.specs.Lines.{HasNoFeed, without_return}
use Rattle.palm_read.proofs.cited.AllOfBoth.{all_right}
use Rattle.palm_session.specs.Answers.{Answers}
use Rattle.palm_session.specs.State.{SessionState}
use Rattle.palm_session.specs.declared.limits.TheConstants.{MOST_KEPT_BYTES}
use Rattle.palm_hub.specs.Hub.{Admits, HubAnswers, Leaves, Opened, Outcome, opened, output_of, prefix_of}
use Rattle.palm_hub.specs.Hub.HubAnswers.{comments, passes}
use Rattle.palm_hub.specs.Hub.Outcome.{Silent, Passed}
use Rattle.palm_hub.specs.Standing.{AnswersIn, AnswersInUntil, AreIdle, HubView, IsAtLine, IsInLine, Member, Stands, StandsBehind, hub_view, opened_of, sessions_of, skipped}
use Rattle.palm_hub.specs.Stepping.{AnswersOne, AnswersOneUntil, StandsAtEnd, StandsIn}
use Rattle.palm_hub.specs.declared.part.Part.{Part}
use Rattle.palm_hub.specs.declared.part.Part.TheVariants.{Head, Blanks, Skipped}
use Rattle.palm_hub.specs.declared.refusal.Refusal.{Refusal}
use Rattle.palm_hub.proofs.Addressing.{blank_is_comment, holds_nothing, unbroken_without_return}
use Rattle.palm_hub.proofs.Beginning.{at_seam, set_seam}
use Rattle.palm_hub.proofs.Running.{one_output, one_run}

-- what a line answers: something of it is written, and the hub stands at the beginning of the next one
abbrev pub Ended : {G O : Type 0} → List Opened → List ℕ → Option (List ℕ) → Option (List ℕ) → HubView G O → Type 0
Ended hub line was now after = (left : List Opened) × AnswersOne hub line was now left × StandsBehind left [] after

-- the next line begins
next_begins : {G O : Type 0} (hub : List Opened) (members : List (Member G O)) (head : List ℕ) (part : Part) → head ≡ []
    → part ≡ Head → IsAtLine hub members
    → StandsBehind hub [] (hub_view members head part false)
next_begins hub members head part none begun start =
    let here : StandsBehind hub [] (hub_view members [] Head false) =
    record { content = []; holds = holds_nothing; stands = (refl, omega arith, start) } in
    subst (λ (h : List ℕ). StandsBehind hub [] (hub_view members h part false)) (sym none)
    (subst (λ (p : Part). StandsBehind hub [] (hub_view members [] p false)) (sym begun) here)

-- ---- a line that is passed to nobody

skipped_answers : {G O : Type 0} (hub : List Opened) (content : List ℕ) (members : List (Member G O)) (head : List ℕ)
    (refusal : Option Refusal)
    → Stands false hub content head (Skipped refusal) members → HubAnswers hub content (skipped refusal) hub
skipped_answers hub content members head refusal stands =
    subst (λ (z : List ℕ). HubAnswers hub z (skipped refusal) hub) (append-nil content) (stands.0 [] refl)

module _ {G O : Type 0} (hub : List Opened) (content : List ℕ) (members : List (Member G O)) (head next : List ℕ) (part : Part)
    (none : next ≡ []) (begun : part ≡ Head) where
  -- blanks alone are a comment
  pub ends_blank : (was : Option (List ℕ)) → Stands false hub content head Blanks members
      → Ended hub content was was (hub_view members next part false)
  ends_blank was stands = (
    hub,
    record { outcome = Silent; answers = comments (blank_is_comment content stands.0); written = appended_nothing was },
    next_begins hub members next part none begun stands.2,
  )

  -- a comment, or a line that is refused
  pub ends_skipped : (refusal : Option Refusal) (was now : Option (List ℕ)) → Appended was now (output_of (skipped refusal))
      → Stands false hub content head (Skipped refusal) members → Ended hub content was now (hub_view members next part false)
  ends_skipped refusal was now written stands = (
    hub,
    record { outcome = skipped refusal; answers = skipped_answers hub content members head refusal stands; written = written },
    next_begins hub members next part none begun stands.2,
  )

-- one line, until a stop
one_until : (stop : Stop) (hub after : List Opened) (line : List ℕ) (outcome : Outcome) (was now : Option (List ℕ))
    → HubAnswers hub line outcome after
    → AppendedUntil stop was now (output_of outcome) → AnswersOneUntil stop hub line was now
one_until stop hub after line outcome was now answers written = record {
  lines = line ∷ [];
  others = [];
  outcomes = outcome ∷ [];
  after = after;
  whole = refl;
  run = one_run hub after line outcome answers;
  written = subst (AppendedUntil stop was now) (sym (one_output outcome)) written;
}

-- a line that is skipped, until a stop
pub stops_skipped : {G O : Type 0} (hub : List Opened) (content : List ℕ) (members : List (Member G O)) (head : List ℕ)
    (refusal : Option Refusal) (stop : Stop) (was now : Option (List ℕ))
    → AppendedUntil stop was now (output_of (skipped refusal)) → Stands false hub content head (Skipped refusal) members
    → AnswersOneUntil stop hub content was now
stops_skipped hub content members head refusal stop was now written stands =
    one_until stop hub hub content (skipped refusal) was now (skipped_answers hub content members head refusal stands) written

-- ---- a line that is passed to a session

module _ {G O : Type 0} (hub : List Opened) (content : List ℕ) (place : ℕ) (members : List (Member G O))
    (i : IsInLine hub content place members) where
  -- the sessions, with this one in its place
  abbrev with_state : SessionState → Bool → List Opened
  with_state state over = sessions_of i.front ++ opened i.at.name state over ∷ sessions_of i.back

  was_among : sessions_of members ≡ sessions_of i.front ++ opened i.at.name i.at.session.state false ∷ sessions_of i.back
  was_among =
      ap sessions_of i.whole ∙ map-append opened_of i.front (i.at ∷ i.back)
      ∙ ap (λ (b : Bool). sessions_of i.front ++ opened i.at.name i.at.session.state b ∷ sessions_of i.back) i.going

  -- the session's answer is one to the hub's line
  hub_answers : (reply : List ℕ) (after : SessionState) (over : Bool)
      → Answers i.at.session.state (without_return i.line) reply after → Leaves (without_return i.line) over
      → HubAnswers hub content (Passed i.at.name i.line reply) (with_state after over)
  hub_answers reply after over answers leaves =
      passes (sessions_of i.front) (sessions_of i.back) i.at.session.state after over i.addresses
      (subst (Admits hub i.at.name) was_among i.admits) answers leaves

  pub line_unbroken : HasNoFeed content → HasNoFeed i.line
  line_unbroken unbroken =
      let rest : HasNoFeed (i.addresses.gap ∷ i.line) =
      all_right (λ (b : ℕ). b ≡ 10 → ⊥) i.at.name (i.addresses.gap ∷ i.line) (subst HasNoFeed i.addresses.whole unbroken) in
      All-tail (λ (b : ℕ). b ≡ 10 → ⊥) i.addresses.gap i.line rest

  module _ (old : Member G O) (read : old ≡ get_or members place old) where
    is_at : old ≡ i.at
    is_at = read ∙ at_seam members i.front i.back i.at place i.whole i.placed old

    pub kept_at : old.session.unfinished ≡ take MOST_KEPT_BYTES i.line
    kept_at = ap (λ (m : Member G O). m.session.unfinished) is_at ∙ i.kept

    -- the line was answered
    pub ends_passed : (new : Member G O) (next : List ℕ) (part : Part) (was now : Option (List ℕ)) → next ≡ [] → part ≡ Head
        → new.name ≡ old.name
        → AnswersIn old.session i.line (prefix_of old.name) was now new.session
        → Ended hub content was now (hub_view (set members place new) next part false)
    ends_passed new next part was now none begun named a =
        let b = subst (λ (m : Member G O). AnswersIn m.session i.line (prefix_of m.name) was now new.session) is_at a in
        let called : new.name ≡ i.at.name = named ∙ ap (λ (m : Member G O). m.name) is_at in
        let left = with_state new.session.state new.session.over in
        let put : set members place new ≡ i.front ++ new ∷ i.back =
        set_seam members i.front i.back i.at place i.whole i.placed new in
        let same : left ≡ sessions_of (set members place new) =
        ap (λ (n : List ℕ). sessions_of i.front ++ opened n new.session.state new.session.over ∷ sessions_of i.back) (sym called)
        ∙ sym (ap sessions_of put ∙ map-append opened_of i.front (new ∷ i.back)) in
        let idle : AreIdle (i.front ++ new ∷ i.back) =
        All-append (λ (m : Member G O). m.session.over ≡ false → m.session.unfinished ≡ []) i.front (new ∷ i.back) i.idle_front
        (All-cons (λ (m : Member G O). m.session.over ≡ false → m.session.unfinished ≡ []) new i.back b.idle i.idle_back) in (
          left,
          record {
            outcome = Passed i.at.name i.line b.reply;
            answers = hub_answers b.reply new.session.state new.session.over b.answers b.leaves;
            written = b.written;
          },
          next_begins left (set members place new) next part none begun
              (record { same = same; idle = subst AreIdle (sym put) idle }),
        )

    -- the line was answered until a stop
    pub stops_passed : (stop : Stop) (was now : Option (List ℕ))
        → AnswersInUntil stop old.session.state i.line (prefix_of old.name) was now → AnswersOneUntil stop hub content was now
    stops_passed stop was now a =
        let b = subst (λ (m : Member G O). AnswersInUntil stop m.session.state i.line (prefix_of m.name) was now) is_at a in
        one_until stop hub (with_state b.after b.over) content (Passed i.at.name i.line b.reply) was now
        (hub_answers b.reply b.after b.over b.answers b.leaves) b.written

-- ---- the end of a line that bytes stand before

-- nothing was written before the line was answered
ended_behind : {G O : Type 0} (hub : List Opened) (line : List ℕ) (was mid now : Option (List ℕ)) (after : HubView G O)
    → Appended was mid [] → Ended hub line mid now after
    → Ended hub line was now after
ended_behind hub line was mid now after nothing ended = (
  ended.0,
  record {
    outcome = ended.1.outcome;
    answers = ended.1.answers;
    written = appended_both was mid now [] (output_of ended.1.outcome) nothing ended.1.written;
  },
  ended.2,
)

stopped_behind_nothing : (stop : Stop) (hub : List Opened) (line : List ℕ) (was mid now : Option (List ℕ)) → Appended was mid []
    → AnswersOneUntil stop hub line mid now
    → AnswersOneUntil stop hub line was now
stopped_behind_nothing stop hub line was mid now nothing a = record {
  lines = a.lines;
  others = a.others;
  outcomes = a.outcomes;
  after = a.after;
  whole = a.whole;
  run = a.run;
  written = stopped_in_second was mid now [] (flat_map output_of a.outcomes) nothing a.written;
}

-- the bytes of a line without a carriage return that waits
module _ {G O : Type 0} (before routed : HubView G O)
    (routes : (hub : List Opened) (content : List ℕ) → StandsIn hub content before → StandsAtEnd hub content routed)
    (hub : List Opened) (seen : List ℕ) (unbroken : HasNoFeed seen) (behind : StandsBehind hub seen before)
    (was mid now : Option (List ℕ)) (nothing : Appended was mid []) where
  content_unbroken : HasNoFeed behind.content
  content_unbroken = subst HasNoFeed behind.holds.shown (unbroken_without_return seen unbroken)

  content_routed : StandsAtEnd hub behind.content routed
  content_routed = routes hub behind.content behind.stands

  -- the line was answered
  pub line_ends : (after : HubView G O) →
      ((h : List Opened) (content : List ℕ) → HasNoFeed content → StandsAtEnd h content routed → Ended h content mid now after)
      → Ended hub (without_return seen) was now after
  line_ends after answers =
      ended_behind hub (without_return seen) was mid now after nothing
      (subst (λ (z : List ℕ). Ended hub z mid now after) (sym behind.holds.shown)
      (answers hub behind.content content_unbroken content_routed))

  -- the line was answered until a stop
  pub line_stops : (stop : Stop) →
      ((h : List Opened) (content : List ℕ) → HasNoFeed content → StandsAtEnd h content routed
      → AnswersOneUntil stop h content mid now)
      → AnswersOneUntil stop hub (without_return seen) was now
  line_stops stop answers =
      stopped_behind_nothing stop hub (without_return seen) was mid now nothing
      (subst (λ (z : List ℕ). AnswersOneUntil stop hub z mid now) (sym behind.holds.shown)
      (answers hub behind.content content_unbroken content_routed))
