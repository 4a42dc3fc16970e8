-- Each hub line has an outcome, and no two; and so has an input one output.
use Rattle.std.proofs.Common.{◌≡◌, ℕ, ◌+◌, ◌≤◌, Bool, true, false, None, Some, Option, List, [], ◌∷◌, ◌++◌, length, take, drop, flat_map, All, Contains, ◌⊎◌, inl, inr, refl, sym, ap, ◌∙◌, subst, arith, bytes_eq}
use Rattle.std.proofs.lemmas.Bool.{cases_Bool, cases_lt, false≢true}
use Rattle.std.proofs.lemmas.List.{append_cancel_left, take-append-drop, take_at}
use Rattle.std.proofs.lemmas.List.Elements.{All-contains, All-head, All-nil, All-tail, Contains-append_right}
use Rattle.std.proofs.lemmas.Option.{same_Some}
use Rattle.std.proofs.lemmas.Slice.Eq.{bytes_eq-Decides}
use Rattle.palm_base.proofs.cited.Members.{member_cases, member_here}
use Rattle.palm_read.specs.Bytes.{after_blanks, is_blank, is_note}
use Rattle.palm_read.specs.Lines.{HasNoFeed, without_return}
use Rattle.palm_read.specs.Reader.Steps.{name_at}
use Rattle.palm_read.specs.Token.{Lexeme, tokens_of}
use Rattle.palm_read.proofs.cited.Cutting.{has_lines, lines_once}
use Rattle.palm_session.specs.Answers.{Answers}
use Rattle.palm_session.specs.Replies.{Ends, GoesOn}
use Rattle.palm_session.specs.State.{IsState, SessionState, fresh}
use Rattle.palm_session.proofs.cited.LawsOfAnswers.{answers_keep, answers_once, answers_without, has_answer}
use Rattle.palm_session.proofs.cited.LawsOfChanges.{IsWithout}
use Rattle.palm_session.proofs.cited.LawsOfStates.{fresh_is}
use Rattle.palm_session.proofs.cited.LawsOfTexts.{last_known}
use Rattle.palm_hub.specs.Addressing.{Addresses, IsHubComment, IsNameless}
use Rattle.palm_hub.specs.Hub.{Admits, HubAnswers, HubReplies, HubRun, IsNewName, Leaves, Opened, Outcome, opened, output_of}
use Rattle.palm_hub.specs.Hub.Admits.{opens, stays}
use Rattle.palm_hub.specs.Hub.HubAnswers.{comments, is_full, is_over, nameless, passes}
use Rattle.palm_hub.specs.Hub.Outcome.{Silent, Refused, Passed}
use Rattle.palm_hub.specs.declared.limits.TheConstants.{MOST_SESSIONS}
use Rattle.palm_hub.specs.declared.refusal.Refusal.TheVariants.{NoName, TooMany, Over}
use Rattle.palm_hub.proofs.Addressing.{name_read, not_in_front, nothing_behind, other_behind, read_addresses, unread}
use Rattle.palm_hub.proofs.Apart.{Differs, Holds, IsOnly, admitted, hub_replies, lines_unbroken, no_object, not_new_at, one_line, only_at}
use Rattle.palm_hub.proofs.Beginning.{addressed_says}

-- ---- what each session holds

-- what the session of the name holds, where one that is still to be opened holds what a fresh one does: a state that a session
-- can hold, in which no guide and no order is chosen
pub record Held (hub : List Opened) (name : List ℕ) : Type 0 where
  pub state : SessionState
  pub over : Bool
  pub holds : Holds hub name state over
  pub is : IsState state
  pub without : IsWithout [] [] state

-- for each name there is one session at most
abbrev pub AreHeld : List Opened → Type 0
AreHeld hub = (name : List ℕ) → Held hub name

none_held : AreHeld []
none_held name = record {
  state = fresh [] [];
  over = false;
  holds = inr (All-nil (Differs name), refl, refl);
  is = fresh_is [] [];
  without = record { unguided = refl; free = refl; guides_within = λ n c. c; orders_within = λ n c. c };
}

-- a hub line leaves it so
held_on : (hub among : List Opened) (bytes : List ℕ) (outcome : Outcome) → AreHeld hub → HasNoFeed bytes
    → HubAnswers hub bytes outcome among → AreHeld among
held_on hub among bytes outcome held unbroken answers name =
    let h = held name in
    elim (one_line name h.state h.over hub bytes outcome among unbroken h.holds answers) [
      | inl by ↦ record { state = h.state; over = h.over; holds = by.holds; is = h.is; without = h.without }
      | inr gets ↦
          let line : List ℕ = without_return gets.line in
          record {
            state = gets.after;
            over = gets.ends;
            holds = gets.holds;
            is = answers_keep h.state line gets.reply gets.after h.is gets.answers;
            without = answers_without [] [] h.state line gets.reply gets.after (no_object line) gets.answers h.without;
          }
    ]

-- and so do all that were answered from the first on
run_held : (hub after : List Opened) (lines : List (List ℕ)) (outcomes : List Outcome) → AreHeld hub → All HasNoFeed lines
    → HubRun hub lines outcomes after → AreHeld after
run_held hub after [] outcomes held unbroken run = subst AreHeld (sym run.1) held
run_held hub after (l ∷ ls) outcomes held unbroken run =
    let next = held_on hub run.2 l run.0 held (All-head HasNoFeed l ls unbroken) run.3 in
    run_held run.2 after ls run.1 next (All-tail HasNoFeed l ls unbroken) run.5

-- the only session of the name stands somewhere
only_split : (hub : List Opened) (name : List ℕ) (state : SessionState) (over : Bool) → IsOnly hub name state over
    → (front back : List Opened) × (hub ≡ front ++ opened name state over ∷ back)
only_split [] name state over only = absurd only
only_split (o ∷ hub) name state over only = elim only [
  | inl here ↦ ([], hub, ap (λ (z : Opened). z ∷ hub) here.0)
  | inr there ↦ let r = only_split hub name state over there.1 in (o ∷ r.0, r.1, ap (λ (z : List Opened). o ∷ z) r.2)
]

-- a session of the name is that one
only_among : (hub : List Opened) (name : List ℕ) (state other : SessionState) (over ends : Bool) → IsOnly hub name state over
    → Contains hub (opened name other ends) → ends ≡ over
only_among [] name state other over ends only among = absurd only
only_among (o ∷ hub) name state other over ends only among =
    let at : Opened = opened name other ends in
    elim (member_cases o hub at among) [
      | inl is ↦ elim only [
        | inl here ↦ ap (λ (z : Opened). z.over) (sym is ∙ here.0)
        | inr there ↦ absurd (there.0 (ap (λ (z : Opened). z.name) is))
      ]
      | inr more ↦ elim only [
        | inl here ↦ absurd (All-contains (Differs name) hub at here.1 more refl)
        | inr there ↦ only_among hub name state other over ends there.1 more
      ]
    ]

-- and stands in one place
same_place : (f g b c : List Opened) (name : List ℕ) (s t state : SessionState) (p q over : Bool)
    → f ++ opened name s p ∷ b ≡ g ++ opened name t q ∷ c → IsOnly (f ++ opened name s p ∷ b) name state over
    → (f ≡ g) × (s ≡ t) × (b ≡ c)
same_place [] [] b c name s t state p q over e only =
    let head : opened name s p ≡ opened name t q = cc in
    let tail : b ≡ c = cc in
    (refl, ap (λ (z : Opened). z.state) head, tail)
same_place [] (o ∷ g) b c name s t state p q over e only =
    let tail : b ≡ g ++ opened name t q ∷ c = cc in
    elim only [
      | inl here ↦ absurd (not_new_at g c name t q (subst (λ (z : List Opened). IsNewName z name) tail here.1))
      | inr there ↦ absurd (there.0 refl)
    ]
same_place (o ∷ f) [] b c name s t state p q over e only =
    let head : o ≡ opened name t q = cc in
    elim only [
      | inl here ↦ absurd (not_new_at f b name s p here.1)
      | inr there ↦ absurd (there.0 (ap (λ (z : Opened). z.name) head))
    ]
same_place (o ∷ f) (r ∷ g) b c name s t state p q over e only =
    let head : o ≡ r = cc in
    let tail : f ++ opened name s p ∷ b ≡ g ++ opened name t q ∷ c = cc in
    elim only [
      | inl here ↦ absurd (not_new_at f b name s p here.1)
      | inr there ↦
          let rest = same_place f g b c name s t state p q over tail there.1 in
          (ap (λ (z : Opened). z ∷ f) head ∙ ap (λ (z : List Opened). r ∷ z) rest.0, rest.1, rest.2)
    ]

-- ---- where a line goes

-- a line begins with a name before a blank, or with none
abbrev IsKnown : List ℕ → Type 0
IsKnown bytes = ((name line : List ℕ) × Addresses bytes name line) ⊎ ((name line : List ℕ) → Addresses bytes name line → ⊥)

addressed_known : (bytes : List ℕ) → IsKnown bytes
addressed_known bytes = read (name_at (tokens_of bytes)) refl
  where
    behind : (name rest : List ℕ) (left : List Lexeme) → name_at (tokens_of bytes) ≡ Some (name, left) → bytes ≡ name ++ rest → IsKnown bytes
    behind name [] left is whole = inr (nothing_behind bytes name [] left is whole refl)
    behind name (gap ∷ line) left is whole = elim (cases_Bool (is_blank gap)) [
      | inl blank ↦
          inl (take (length name) bytes, drop (length name + 1) bytes, read_addresses bytes name (gap ∷ line) left gap is whole refl blank)
      | inr other ↦ inr (other_behind bytes name (gap ∷ line) left gap is whole refl other)
    ]

    front : (name : List ℕ) (left : List Lexeme) → name_at (tokens_of bytes) ≡ Some (name, left) → (same : Bool)
        → bytes_eq (take (length name) bytes) name ≡ same → IsKnown bytes
    front name left is true same =
        let begins : take (length name) bytes ≡ name = (bytes_eq-Decides (take (length name) bytes) name).0 same in
        behind name (drop (length name) bytes) left is
        (sym (take-append-drop (length name) bytes) ∙ ap (λ (z : List ℕ). z ++ drop (length name) bytes) begins)
    front name left is false other =
        inr (not_in_front bytes name left is (λ rest whole.
        let begins : take (length name) bytes ≡ name = ap (take (length name)) whole ∙ take_at name rest (length name) refl in
        false≢true (sym other ∙ (bytes_eq-Decides (take (length name) bytes) name).1 begins)))

    read : (found : Option (List ℕ × List Lexeme)) → name_at (tokens_of bytes) ≡ found → IsKnown bytes
    read None is = inr (unread bytes is)
    read (Some p) is = front p.0 p.1 is (bytes_eq (take (length p.0) bytes) p.0) refl

-- and with no two
addressed_once : (bytes name other line more : List ℕ) → Addresses bytes name line → Addresses bytes other more
    → (name ≡ other) × (line ≡ more)
addressed_once bytes name other line more a b =
    let one : List ℕ × List Lexeme = (name, tokens_of (a.gap ∷ line)) in
    let two : List ℕ × List Lexeme = (other, tokens_of (b.gap ∷ more)) in
    let pair : one ≡ two = same_Some one two (sym (name_read bytes name line a) ∙ name_read bytes other more b) in
    let same : name ≡ other = ap (λ (z : List ℕ × List Lexeme). z.0) pair in
    let whole : name ++ a.gap ∷ line ≡ name ++ b.gap ∷ more =
    sym a.whole ∙ b.whole ∙ ap (λ (z : List ℕ). z ++ b.gap ∷ more) (sym same) in
    let rest : a.gap ∷ line ≡ b.gap ∷ more = append_cancel_left name (a.gap ∷ line) (b.gap ∷ more) whole in
    (same, cc)

-- whether a line ends its session is known, and in one way
leaves_known : (line : List ℕ) → Ends (without_return line) ⊎ GoesOn (without_return line)
leaves_known [] = elim (last_known (13 ∷ [])) [
  | inl on ↦ inr (All-head GoesOn [] [] on)
  | inr ends ↦ inl (All-head Ends [] [] ends)
]
leaves_known (b ∷ bs) =
    let line : List ℕ = without_return (b ∷ bs) in
    elim (last_known (b ∷ bs)) [ inl on ↦ inr (All-head GoesOn line [] on) | inr ends ↦ inl (All-head Ends line [] ends) ]

leaves_once : (line : List ℕ) (p q : Bool) → Leaves line p → Leaves line q → p ≡ q
leaves_once line true true one two = refl
leaves_once line true false one two = absurd (two one)
leaves_once line false true one two = absurd (one two)
leaves_once line false false one two = refl

-- ---- an outcome

-- a line has this outcome
abbrev pub HasOutcome : List Opened → List ℕ → Type 0
HasOutcome hub bytes = (outcome : Outcome) × (after : List Opened) × HubAnswers hub bytes outcome after

module _ (hub : List Opened) (bytes name line : List ℕ) (addresses : Addresses bytes name line) where
  -- the line is passed to the session in its place
  passed_on : (front back : List Opened) (state : SessionState) → IsState state
      → Admits hub name (front ++ opened name state false ∷ back) → HasOutcome hub bytes
  passed_on front back state is admits =
      let answer = has_answer state is (without_return line) in
      elim (leaves_known line) [
        | inl ends ↦ (
          Passed name line answer.0,
          front ++ opened name answer.1 true ∷ back,
          passes front back state answer.1 true addresses admits answer.2 ends,
        )
        | inr on ↦ (
          Passed name line answer.0,
          front ++ opened name answer.1 false ∷ back,
          passes front back state answer.1 false addresses admits answer.2 on,
        )
      ]

  -- a session of the name is there
  to_session : (state : SessionState) (over : Bool) → IsState state → IsOnly hub name state over → HasOutcome hub bytes
  to_session state over is only =
      let split = only_split hub name state over only in
      let at : Opened = opened name state over in
      let there : Contains (split.0 ++ at ∷ split.1) at =
      Contains-append_right split.0 (at ∷ split.1) at (member_here at split.1) in
      by_end over (subst (λ (z : List Opened). Contains z at) (sym split.2) there) split.0 split.1 split.2
    where
      by_end : (ends : Bool) → Contains hub (opened name state ends) → (front back : List Opened)
          → hub ≡ front ++ opened name state ends ∷ back → HasOutcome hub bytes
      by_end true among front back whole = (Refused Over, hub, is_over addresses state among)
      by_end false among front back whole = passed_on front back state is (subst (Admits hub name) whole (stays state among))

  -- none is there
  to_new : IsNewName hub name → HasOutcome hub bytes
  to_new new = elim (cases_lt (length hub) MOST_SESSIONS) [
    | inl room ↦ passed_on hub [] (fresh [] []) (fresh_is [] []) (opens new room)
    | inr full ↦ (Refused TooMany, hub, is_full addresses new full)
  ]

has_outcome : (hub : List Opened) → AreHeld hub → (bytes : List ℕ) → HasOutcome hub bytes
has_outcome hub held bytes = elim (cases_Bool (is_note (after_blanks bytes))) [
  | inl comment ↦ (Silent, hub, comments comment)
  | inr other ↦ elim (addressed_known bytes) [
    | inl a ↦
        let h = held a.0 in
        elim h.holds [ inl only ↦ to_session hub bytes a.0 a.1 a.2 h.state h.over h.is only | inr new ↦ to_new hub bytes a.0 a.1 a.2 new.0 ]
    | inr none ↦ (Refused NoName, hub, nameless (record { says = λ comment. false≢true (sym other ∙ comment); none = none }))
  ]
]

-- ---- one outcome alone

-- the two outcomes are one, and leave the same sessions
abbrev pub AreSame : Outcome → Outcome → List Opened → List Opened → Type 0
AreSame o p a b = (o ≡ p) × (a ≡ b)

flip : (o p : Outcome) (a b : List Opened) → AreSame o p a b → AreSame p o b a
flip o p a b same = (sym same.0, sym same.1)

only_comment : (hub : List Opened) (bytes : List ℕ) (o : Outcome) (a : List Opened) → IsHubComment bytes → HubAnswers hub bytes o a
    → AreSame Silent o hub a
only_comment hub bytes o a c (comments d) = (refl, refl)
only_comment hub bytes o a c (nameless n) = absurd (n.says c)
only_comment hub bytes o a c (is_over {name = name} {line = line} to state among) = absurd (addressed_says bytes name line to c)
only_comment hub bytes o a c (is_full {name = name} {line = line} to new full) = absurd (addressed_says bytes name line to c)
only_comment hub bytes o a c (passes {name = name} {line = line} front back before after over to admits answers leaves) =
    absurd (addressed_says bytes name line to c)

only_nameless : (hub : List Opened) (bytes : List ℕ) (o : Outcome) (a : List Opened) → IsNameless bytes → HubAnswers hub bytes o a
    → AreSame (Refused NoName) o hub a
only_nameless hub bytes o a n (comments c) = absurd (n.says c)
only_nameless hub bytes o a n (nameless m) = (refl, refl)
only_nameless hub bytes o a n (is_over {name = name} {line = line} to state among) = absurd (n.none name line to)
only_nameless hub bytes o a n (is_full {name = name} {line = line} to new full) = absurd (n.none name line to)
only_nameless hub bytes o a n (passes {name = name} {line = line} front back before after over to admits answers leaves) =
    absurd (n.none name line to)

-- a session that is over is passed no line
over_admits_none : (hub front back : List Opened) (name : List ℕ) (state before : SessionState) → Held hub name
    → Contains hub (opened name state true) → Admits hub name (front ++ opened name before false ∷ back) → ⊥
over_admits_none hub front back name state before h among admits =
    let there = admitted hub (front ++ opened name before false ∷ back) name h.state h.over admits h.holds in
    let going : h.over ≡ false = (only_at front back name before before false false h.state h.over there).1 in
    elim h.holds [
      | inl only ↦ false≢true (sym going ∙ sym (only_among hub name h.state state h.over true only among))
      | inr new ↦ All-contains (Differs name) hub (opened name state true) new.0 among refl
    ]

-- nor is one for which there is no room
full_admits_none : (hub among : List Opened) (name : List ℕ) → IsNewName hub name → MOST_SESSIONS ≤ length hub → Admits hub name among → ⊥
full_admits_none hub among name new full (stays state at) = All-contains (Differs name) hub (opened name state false) new at refl
full_admits_none hub among name new full (opens other room) = omega (arith, full, room)

only_over : (hub : List Opened) (bytes name line : List ℕ) (state : SessionState) (o : Outcome) (a : List Opened) → Held hub name
    → Addresses bytes name line → Contains hub (opened name state true) → HubAnswers hub bytes o a → AreSame (Refused Over) o hub a
only_over hub bytes name line state o a h to among (comments c) = absurd (addressed_says bytes name line to c)
only_over hub bytes name line state o a h to among (nameless n) = absurd (n.none name line to)
only_over hub bytes name line state o a h to among (is_over too other at) = (refl, refl)
only_over hub bytes name line state o a h to among (is_full {name = other} {line = more} too new full) =
    let same = addressed_once bytes other name more line too to in
    absurd (All-contains (Differs name) hub (opened name state true) (subst (IsNewName hub) same.0 new) among refl)
only_over hub bytes name line state o a h to among
    (passes {name = other} {line = more} front back before after over too admits answers leaves) =
    let same = addressed_once bytes other name more line too to in
    absurd (over_admits_none hub front back name state before h among
    (subst (λ (n : List ℕ). Admits hub n (front ++ opened n before false ∷ back)) same.0 admits))

only_full : (hub : List Opened) (bytes name line : List ℕ) (o : Outcome) (a : List Opened)
    → Addresses bytes name line → IsNewName hub name → MOST_SESSIONS ≤ length hub → HubAnswers hub bytes o a → AreSame (Refused TooMany) o hub a
only_full hub bytes name line o a to new full (comments c) = absurd (addressed_says bytes name line to c)
only_full hub bytes name line o a to new full (nameless n) = absurd (n.none name line to)
only_full hub bytes name line o a to new full (is_over {name = other} {line = more} too state at) =
    let same = addressed_once bytes name other line more to too in
    absurd (All-contains (Differs other) hub (opened other state true) (subst (IsNewName hub) same.0 new) at refl)
only_full hub bytes name line o a to new full (is_full too other there) = (refl, refl)
only_full hub bytes name line o a to new full
    (passes {name = other} {line = more} front back before after over too admits answers leaves) =
    let same = addressed_once bytes name other line more to too in
    absurd (full_admits_none hub (front ++ opened other before false ∷ back) other (subst (IsNewName hub) same.0 new) full admits)

-- a line is passed to one session
admitted_once : (hub : List Opened) (name : List ℕ) (a b : List Opened) → Admits hub name a → Admits hub name b → a ≡ b
admitted_once hub name a b (stays s at) (stays t too) = refl
admitted_once hub name a b (stays s at) (opens new room) = absurd (All-contains (Differs name) hub (opened name s false) new at refl)
admitted_once hub name a b (opens new room) (stays t too) = absurd (All-contains (Differs name) hub (opened name t false) new too refl)
admitted_once hub name a b (opens new room) (opens other more) = refl

-- which answers it in one way
passed_once : (hub : List Opened) (name line : List ℕ) (f b g c : List Opened) (s after t later : SessionState) (said told : List ℕ) (p q : Bool)
    → Held hub name → Admits hub name (f ++ opened name s false ∷ b) → Answers s (without_return line) said after → Leaves (without_return line) p
    → Admits hub name (g ++ opened name t false ∷ c) → Answers t (without_return line) told later → Leaves (without_return line) q
    → AreSame (Passed name line said) (Passed name line told) (f ++ opened name after p ∷ b) (g ++ opened name later q ∷ c)
passed_once hub name line f b g c s after t later said told p q h admits answers leaves admits_too answers_too leaves_too =
    let among = admitted hub (f ++ opened name s false ∷ b) name h.state h.over admits h.holds in
    let place = same_place f g b c name s t h.state false false h.over
    (admitted_once hub name (f ++ opened name s false ∷ b) (g ++ opened name t false ∷ c) admits admits_too) among in
    let held : h.state ≡ s = sym (only_at f b name s s false false h.state h.over among).0 in
    let is : IsState s = subst IsState held h.is in
    let without : IsWithout [] [] s = subst (IsWithout [] []) held h.without in
    let too : Answers s (without_return line) told later = subst (λ (z : SessionState). Answers z (without_return line) told later) (sym place.1) answers_too in
    let one = answers_once s (without_return line) said told after later without.unguided without.free is answers too in
    let ends : p ≡ q = leaves_once (without_return line) p q leaves leaves_too in (
      ap (λ (z : List ℕ). Passed name line z) one.0,
      ap (λ (z : List Opened). z ++ opened name after p ∷ b) place.0 ∙ ap (λ (z : SessionState). g ++ opened name z p ∷ b) one.1
          ∙ ap (λ (z : Bool). g ++ opened name later z ∷ b) ends ∙ ap (λ (z : List Opened). g ++ opened name later q ∷ z) place.2,
    )

outcome_once : (hub : List Opened) (bytes : List ℕ) (o p : Outcome) (a b : List Opened) → AreHeld hub → HubAnswers hub bytes o a
    → HubAnswers hub bytes p b → AreSame o p a b
outcome_once hub bytes o p a b held (comments c) y = only_comment hub bytes p b c y
outcome_once hub bytes o p a b held (nameless n) y = only_nameless hub bytes p b n y
outcome_once hub bytes o p a b held (is_over {name = name} {line = line} to state among) y =
    only_over hub bytes name line state p b (held name) to among y
outcome_once hub bytes o p a b held (is_full {name = name} {line = line} to new full) y = only_full hub bytes name line p b to new full y
outcome_once hub bytes o p a b held x (comments c) = flip Silent o hub a (only_comment hub bytes o a c x)
outcome_once hub bytes o p a b held x (nameless n) = flip (Refused NoName) o hub a (only_nameless hub bytes o a n x)
outcome_once hub bytes o p a b held x (is_over {name = name} {line = line} to state among) =
    flip (Refused Over) o hub a (only_over hub bytes name line state o a (held name) to among x)
outcome_once hub bytes o p a b held x (is_full {name = name} {line = line} to new full) =
    flip (Refused TooMany) o hub a (only_full hub bytes name line o a to new full x)
outcome_once hub bytes o p a b held
    (passes {name = name} {line = line} {reply = said} front back s after over to admits answers leaves)
    (passes {name = other} {line = more} {reply = told} before behind t later ends too admits_too answers_too leaves_too) =
    let same = addressed_once bytes other name more line too to in
    let rest = passed_once hub name line front back before behind s after t later said told over ends (held name) admits answers leaves
    (subst (λ (n : List ℕ). Admits hub n (before ++ opened n t false ∷ behind)) same.0 admits_too)
    (subst (λ (l : List ℕ). Answers t (without_return l) told later) same.1 answers_too)
    (subst (λ (l : List ℕ). Leaves (without_return l) ends) same.1 leaves_too) in (
      rest.0 ∙ ap (λ (n : List ℕ). Passed n line told) (sym same.0) ∙ ap (λ (l : List ℕ). Passed other l told) (sym same.1),
      rest.1 ∙ ap (λ (n : List ℕ). before ++ opened n later ends ∷ behind) (sym same.0),
    )

-- ---- the lines of an input

has_outcomes : (hub : List Opened) (lines : List (List ℕ)) → AreHeld hub → All HasNoFeed lines
    → (outcomes : List Outcome) × (after : List Opened) × HubRun hub lines outcomes after
has_outcomes hub [] held unbroken = ([], hub, (refl, refl))
has_outcomes hub (l ∷ ls) held unbroken =
    let one = has_outcome hub held l in
    let rest = has_outcomes one.1 ls (held_on hub one.1 l one.0 held (All-head HasNoFeed l ls unbroken) one.2) (All-tail HasNoFeed l ls unbroken) in
    (one.0 ∷ rest.0, rest.1, (one.0, rest.0, one.1, one.2, refl, rest.2))

outcomes_once : (hub : List Opened) (lines : List (List ℕ)) (os ps : List Outcome) (a b : List Opened) → AreHeld hub → All HasNoFeed lines
    → HubRun hub lines os a → HubRun hub lines ps b → os ≡ ps
outcomes_once hub [] os ps a b held unbroken x y = x.0 ∙ sym y.0
outcomes_once hub (l ∷ ls) os ps a b held unbroken x y =
    let one = outcome_once hub l x.0 y.0 x.2 y.2 held x.3 y.3 in
    let next = held_on hub x.2 l x.0 held (All-head HasNoFeed l ls unbroken) x.3 in
    let more : HubRun x.2 ls y.1 b = subst (λ (z : List Opened). HubRun z ls y.1 b) (sym one.1) y.5 in
    let rest = outcomes_once x.2 ls x.1 y.1 a b next (All-tail HasNoFeed l ls unbroken) x.5 more in
    x.4 ∙ ap (λ (z : Outcome). z ∷ x.1) one.0 ∙ ap (λ (z : List Outcome). y.0 ∷ z) rest ∙ sym y.4

-- ---- the laws

-- behind hub lines the next one has an outcome
pub outcome_behind : (lines : List (List ℕ)) (outcomes : List Outcome) (hub : List Opened) → All HasNoFeed lines
    → HubRun [] lines outcomes hub → (line : List ℕ) → HasOutcome hub line
outcome_behind lines outcomes hub unbroken run = has_outcome hub (run_held [] hub lines outcomes none_held unbroken run)

-- and no two
pub one_behind : (lines : List (List ℕ)) (outcomes : List Outcome) (hub : List Opened) → All HasNoFeed lines
    → HubRun [] lines outcomes hub → (line : List ℕ) (o p : Outcome) (a b : List Opened) → HubAnswers hub line o a → HubAnswers hub line p b
    → AreSame o p a b
one_behind lines outcomes hub unbroken run line o p a b =
    outcome_once hub line o p a b (run_held [] hub lines outcomes none_held unbroken run)

-- an input has an output
pub has_output : (input : List ℕ) → (output : List ℕ) × HubReplies input output
has_output input =
    let lines = has_lines input in
    let run = has_outcomes [] lines.0 none_held (lines_unbroken input lines.0 lines.1) in
    let output : List ℕ = flat_map output_of run.0 in
    (output, hub_replies input output lines.0 run.0 run.1 lines.1 run.2 refl)

-- and no two
pub output_once : (input a b : List ℕ) → HubReplies input a → HubReplies input b → a ≡ b
output_once input a b x y =
    let lines : y.lines ≡ x.lines = lines_once input y.lines x.lines y.are_lines x.are_lines in
    let run : HubRun [] x.lines y.outcomes y.sessions = subst (λ (ls : List (List ℕ)). HubRun [] ls y.outcomes y.sessions) lines y.run in
    let same = outcomes_once [] x.lines x.outcomes y.outcomes x.sessions y.sessions none_held (lines_unbroken input x.lines x.are_lines) x.run run in
    x.written ∙ ap (flat_map output_of) same ∙ sym y.written
