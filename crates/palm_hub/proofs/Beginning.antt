-- A line is begun: its first bytes tell where it goes.
use Rattle.std.proofs.Common.{◌≡◌, ◌≢◌, ℕ, ◌+◌, ◌<◌, Bool, true, false, cond, nat_eq, List, [], ◌∷◌, ◌++◌, length, take, get_or, set, Some, None, Ok, refl, sym, ap, ◌∙◌, subst, arith, append_assoc, append-nil}
use Rattle.std.proofs.lemmas.Bool.{both_ways}
use Rattle.std.proofs.lemmas.Bool.Decides.{nat_tests}
use Rattle.std.proofs.Math.Seq.{get_or-append_seam, set-append_seam}
use Rattle.std.proofs.lemmas.List.{length-append, map-append}
use Rattle.std.proofs.lemmas.List.Elements.{All-head, All-tail}
use Rattle.palm_base.specs.Streams.{SinkState}
use Rattle.palm_base.proofs.cited.StreamLemmas.{appended_nothing}
use Rattle.palm_read.specs.Bytes.{after_blanks, is_blank, is_letter, is_note}
use Rattle.palm_read.specs.Name.{IsNameText}
use Rattle.palm_read.proofs.cited.AllOfBoth.{all_left, all_right}
use Rattle.palm_session.specs.declared.limits.TheConstants.{MOST_KEPT_BYTES}
use Rattle.palm_hub.specs.Addressing.{Addresses, IsHubComment, IsNameless}
use Rattle.palm_hub.specs.Hub.{Admits, HubAnswers, Opened, opened}
use Rattle.palm_hub.specs.Hub.HubAnswers.{comments, nameless}
use Rattle.palm_hub.specs.Hub.Outcome.{Refused}
use Rattle.palm_hub.specs.Standing.{AreIdle, IsAtLine, IsBegun, IsInLine, KeepsPart, MayFollow, Member, Stands, opened_of, sessions_of}
use Rattle.palm_hub.specs.Stepping.{Admitted, IsAdmission, IsRouted, IsEnough, IsPlaced, IsQuiet, Refuses}
use Rattle.palm_hub.specs.declared.part.Part.{Part}
use Rattle.palm_hub.specs.declared.part.Part.TheVariants.{Head, Blanks, Skipped, Session}
use Rattle.palm_hub.specs.declared.refusal.Refusal.{Refusal}
use Rattle.palm_hub.specs.declared.refusal.Refusal.TheVariants.{NoName}
use Rattle.palm_hub.proofs.Addressing.{addresses_on, behind_blanks_nameless, blanks_on, comment_on, nameless_on}

-- ---- bytes of a line

-- what an empty text and more is
nothing_before : (xs ys : List ℕ) → xs ++ ys ≡ [] → xs ≡ []
nothing_before [] ys e = refl
nothing_before (x ∷ xs) ys e = absurd cc

-- a line for a session has a byte
pub addresses_some : (bytes name line : List ℕ) → Addresses bytes name line → bytes ≢ []
addresses_some bytes name line a = λ none.
    let e : name ++ a.gap ∷ line ≡ [] = sym a.whole ∙ none in
    absurd (omega (arith, ap length e, length-append name (a.gap ∷ line)))

-- a line that has begun has a byte, whatever follows
begun_on : (more : Bool) (content rest : List ℕ) → IsBegun more content → IsBegun more (content ++ rest)
begun_on true content rest begun = λ none. begun (nothing_before content rest none)
begun_on false content rest begun = tt

-- bytes that tell where a line goes are some
enough_begun : (more : Bool) (head : List ℕ) → IsEnough more head → IsBegun more head
enough_begun true head enough = λ none. absurd (omega (arith, ap length none, enough))
enough_begun false head enough = tt

-- ---- the session at a place

module _ {G O : Type 0} (members front back : List (Member G O)) (at : Member G O) (place : ℕ)
    (whole : members ≡ front ++ at ∷ back) (placed : length front ≡ place) where
  -- what stands there
  pub at_seam : (d : Member G O) → get_or members place d ≡ at
  at_seam d =
      ap (λ (z : List (Member G O)). get_or z place d) whole ∙ ap (λ (k : ℕ). get_or (front ++ at ∷ back) k d) (sym placed)
      ∙ get_or-append_seam front at back d

  -- and what is put there
  pub set_seam : (new : Member G O) → set members place new ≡ front ++ new ∷ back
  set_seam new =
      ap (λ (z : List (Member G O)). set z place new) whole ∙ ap (λ (k : ℕ). set (front ++ at ∷ back) k new) (sym placed)
      ∙ set-append_seam front at back new

  within_seam : place < length members
  within_seam = omega (arith, ap length whole, length-append front (at ∷ back), placed)

  -- the sessions in front of it, itself, and those behind it, keep no bytes
  pub idle_front : AreIdle members → AreIdle front
  idle_front idle = all_left (λ (m : Member G O). m.session.over ≡ false → m.session.unfinished ≡ []) front (at ∷ back)
      (subst AreIdle whole idle)

  idle_rest : AreIdle members → AreIdle (at ∷ back)
  idle_rest idle = all_right (λ (m : Member G O). m.session.over ≡ false → m.session.unfinished ≡ []) front (at ∷ back)
      (subst AreIdle whole idle)

  idle_at : AreIdle members → at.session.over ≡ false → at.session.unfinished ≡ []
  idle_at idle = All-head (λ (m : Member G O). m.session.over ≡ false → m.session.unfinished ≡ []) at back (idle_rest idle)

  pub idle_back : AreIdle members → AreIdle back
  idle_back idle = All-tail (λ (m : Member G O). m.session.over ≡ false → m.session.unfinished ≡ []) at back (idle_rest idle)

  -- the sessions with one in its place that holds the same
  pub same_sessions : (new : Member G O) → opened_of new ≡ opened_of at
      → sessions_of (set members place new) ≡ sessions_of members
  same_sessions new same =
      ap sessions_of (set_seam new) ∙ map-append opened_of front (new ∷ back)
      ∙ ap (λ (o : Opened). sessions_of front ++ o ∷ sessions_of back) same ∙ sym (map-append opened_of front (at ∷ back))
      ∙ ap sessions_of (sym whole)

-- ---- a line for a session

-- a session that kept bytes holds the same
pub kept_same : {G O : Type 0} (old new : Member G O) (piece : List ℕ) → KeepsPart old.session piece new.session
    → new.name ≡ old.name → old.session.over ≡ false → opened_of new ≡ opened_of old
kept_same old new piece keeps named going =
    ap (λ n. opened n new.session.state new.session.over) named ∙ ap (λ s. opened old.name s new.session.over) keeps.state
    ∙ ap (λ b. opened old.name old.session.state b) (keeps.going ∙ sym going)

-- the session was admitted, and the first bytes of the line behind the name were passed to it
pub line_begun : {G O : Type 0} (hub : List Opened) (before mid : List (Member G O)) (place : ℕ) (old new : Member G O)
    (bytes name line : List ℕ)
    → Admitted before name place mid → old ≡ get_or mid place old → KeepsPart old.session line new.session → new.name ≡ old.name
    → Addresses bytes name line → IsAtLine hub before → IsInLine hub bytes place (set mid place new)
line_begun {G} {O} hub before mid place old new bytes name line a read keeps named addresses start =
    let same : old ≡ a.at = read ∙ at_seam mid a.front a.back a.at place a.whole a.placed old in
    let called : new.name ≡ name = named ∙ ap (λ (m : Member G O). m.name) same ∙ a.named in
    let going : old.session.over ≡ false = ap (λ (m : Member G O). m.session.over) same ∙ a.going in
    let idle : AreIdle mid = a.idle start.idle in
    let none : old.session.unfinished ≡ [] =
    ap (λ (m : Member G O). m.session.unfinished) same ∙ idle_at mid a.front a.back a.at place a.whole a.placed idle a.going in
    let stays : sessions_of (set mid place new) ≡ sessions_of mid =
    same_sessions mid a.front a.back a.at place a.whole a.placed new
    (kept_same old new line keeps named going ∙ ap opened_of same) in
    let admitted : Admits hub name (sessions_of mid) =
    subst (λ (h : List Opened). Admits h name (sessions_of mid)) (sym start.same) a.admits in
    record {
      line = line;
      front = a.front;
      at = new;
      back = a.back;
      addresses = subst (λ (n : List ℕ). Addresses bytes n line) (sym called) addresses;
      whole = set_seam mid a.front a.back a.at place a.whole a.placed new;
      placed = a.placed;
      going = keeps.going;
      kept = keeps.kept ∙ ap (λ (z : List ℕ). take MOST_KEPT_BYTES (z ++ line)) none;
      admits = subst (λ (n : List ℕ). Admits hub n (sessions_of (set mid place new))) (sym called)
          (subst (Admits hub name) (sym stays) admitted);
      idle_front = idle_front mid a.front a.back a.at place a.whole a.placed idle;
      idle_back = idle_back mid a.front a.back a.at place a.whole a.placed idle;
    }

-- the session that was admitted goes on
admitted_going : {G O : Type 0} (before mid : List (Member G O)) (place : ℕ) (name : List ℕ) → Admitted before name place mid
    → IsPlaced (Session place) mid
admitted_going {G} {O} before mid place name a = (
  within_seam mid a.front a.back a.at place a.whole a.placed,
  λ d. ap (λ (m : Member G O). m.session.over) (at_seam mid a.front a.back a.at place a.whole a.placed d) ∙ a.going,
)

-- ---- a line for nobody

-- a line for a name is refused
line_refused : {G O : Type 0} (hub : List Opened) (before after : List (Member G O)) (more : Bool) (refusal : Refusal)
    (bytes name line : List ℕ)
    → Refuses (sessions_of before) name refusal × (after ≡ before) → Addresses bytes name line → IsAtLine hub before
    → Stands more hub bytes bytes (Skipped (Some refusal)) after
line_refused {G} {O} hub before after more refusal bytes name line refuses addresses start =
    let refused : (rest : List ℕ) → MayFollow more rest → HubAnswers hub (bytes ++ rest) (Refused refusal) hub =
    λ rest follows. subst (λ (h : List Opened). HubAnswers h (bytes ++ rest) (Refused refusal) h) (sym start.same)
    (refuses.0 (bytes ++ rest) (line ++ rest) (addresses_on rest addresses)) in
    let begun : IsBegun more bytes = begun_some more bytes (addresses_some bytes name line addresses) in
    (refused, begun, subst (IsAtLine hub) (sym refuses.1) start)
  where
    begun_some : (some : Bool) (content : List ℕ) → content ≢ [] → IsBegun some content
    begun_some true content has = has
    begun_some false content has = tt

-- the first bytes tell that a line goes to nobody
pub head_for_nobody : {G O : Type 0} (hub : List Opened) (members : List (Member G O)) (more : Bool) (head : List ℕ)
    → IsEnough more head → IsAtLine hub members
    → IsHubComment head × (after_blanks head ≢ []) → Stands more hub head head (Skipped None) members
head_for_nobody hub members more head enough start points =
    (λ rest follows. comments (comment_on head rest points.1 points.0), enough_begun more head enough, start)

nameless_follows : (hub : List Opened) (more : Bool) (head : List ℕ) → IsEnough more head → IsNameless head → (rest : List ℕ)
    → MayFollow more rest
    → HubAnswers hub (head ++ rest) (Refused NoName) hub
nameless_follows hub true head enough none rest follows = nameless (nameless_on head rest enough none)
nameless_follows hub false head enough none rest follows =
    nameless (subst IsNameless (sym (ap (λ (z : List ℕ). head ++ z) follows ∙ append-nil head)) none)

-- and that it begins with no name
pub head_nameless : {G O : Type 0} (hub : List Opened) (members : List (Member G O)) (more : Bool) (head : List ℕ)
    → IsEnough more head → IsAtLine hub members
    → IsNameless head → Stands more hub head head (Skipped (Some NoName)) members
head_nameless hub members more head enough start none =
    (nameless_follows hub more head enough none, enough_begun more head enough, start)

-- ---- behind blanks

-- a line for a session is no comment
letter_says : (b : ℕ) (bs : List ℕ) → is_letter b ≡ true → is_note (after_blanks (b ∷ bs)) ≡ false
letter_says b bs letter =
    let dark : is_blank b ≡ false = grind (arith, nat_tests) in
    let other : nat_eq b 35 ≡ false = grind (arith, nat_tests) in
    ap (λ (t : Bool). is_note (cond t (after_blanks bs) (b ∷ bs))) dark ∙ other

name_says : (name rest : List ℕ) → IsNameText name → is_note (after_blanks (name ++ rest)) ≡ false
name_says [] rest named = absurd named
name_says (b ∷ bs) rest named = letter_says b (bs ++ rest) named.0

pub addressed_says : (bytes name line : List ℕ) → Addresses bytes name line → IsHubComment bytes → ⊥
addressed_says bytes name line a comment =
    both_ways (is_note (after_blanks bytes))
    (ap (λ (z : List ℕ). is_note (after_blanks z)) a.whole ∙ name_says name (a.gap ∷ line) a.named) comment

-- blanks and more blanks
pub still_blank : {G O : Type 0} (hub : List Opened) (members : List (Member G O)) (content bytes head : List ℕ)
    → after_blanks content ≡ [] → content ≢ []
    → IsAtLine hub members → after_blanks bytes ≡ [] → Stands true hub (content ++ bytes) head Blanks members
still_blank hub members content bytes head blank some start more =
    (blanks_on content bytes blank ∙ more, begun_on true content bytes some, start)

-- a comment behind blanks
pub comment_behind : {G O : Type 0} (hub : List Opened) (members : List (Member G O)) (content bytes head : List ℕ)
    → after_blanks content ≡ [] → content ≢ []
    → IsAtLine hub members → IsHubComment bytes × (after_blanks bytes ≢ [])
    → Stands true hub (content ++ bytes) head (Skipped None) members
comment_behind hub members content bytes head blank some start points =
    let comment : IsHubComment (content ++ bytes) = ap is_note (blanks_on content bytes blank) ∙ points.0 in
    let has : after_blanks (content ++ bytes) ≢ [] =
    subst (λ (z : List ℕ). z ≢ []) (sym (blanks_on content bytes blank)) points.1 in
    (λ rest follows. comments (comment_on (content ++ bytes) rest has comment), begun_on true content bytes some, start)

-- what is no comment behind blanks is nameless
nameless_behind : {G O : Type 0} (hub : List Opened) (members : List (Member G O)) (content bytes head : List ℕ)
    → after_blanks content ≡ [] → content ≢ []
    → IsAtLine hub members → (IsHubComment bytes → ⊥) → Stands true hub (content ++ bytes) head (Skipped (Some NoName)) members
nameless_behind hub members content bytes head blank some start says = (
  λ rest follows. nameless
      (subst IsNameless (sym (append_assoc content bytes rest))
      (behind_blanks_nameless content bytes blank (has content some) says rest)),
  begun_on true content bytes some,
  start,
)
  where
    has : (xs : List ℕ) → xs ≢ [] → 0 < length xs
    has [] none = absurd (none refl)
    has (x ∷ xs) none = omega arith

pub no_name_behind : {G O : Type 0} (hub : List Opened) (members : List (Member G O)) (content bytes head : List ℕ)
    → after_blanks content ≡ [] → content ≢ []
    → IsAtLine hub members → IsNameless bytes → Stands true hub (content ++ bytes) head (Skipped (Some NoName)) members
no_name_behind hub members content bytes head blank some start none =
    nameless_behind hub members content bytes head blank some start none.says

pub name_behind : {G O : Type 0} (hub : List Opened) (members : List (Member G O)) (content bytes head name line : List ℕ)
    → after_blanks content ≡ [] → content ≢ []
    → IsAtLine hub members → Addresses bytes name line → Stands true hub (content ++ bytes) head (Skipped (Some NoName)) members
name_behind hub members content bytes head name line blank some start a =
    nameless_behind hub members content bytes head blank some start (addressed_says bytes name line a)

-- ---- where no session was found or opened

-- nothing was done
pub quiet_ok : {T : Type 0} (s : SinkState) (t : T) → IsQuiet {T = T} s s (Ok t)
quiet_ok s t = record { counted = refl; written = appended_nothing s.written; memory = tt; stopped = tt }

-- the line is refused
pub not_admitted : {G O : Type 0} (before after : List (Member G O)) (part : Part) (name line : List ℕ)
    → IsAdmission before name part after
    → ((place : ℕ) → part ≡ Session place → ⊥) → (hub : List Opened) (more : Bool) (bytes : List ℕ) → Addresses bytes name line
    → IsAtLine hub before
    → Stands more hub bytes bytes part after
not_admitted before after Head name line admission other hub more bytes addresses start = absurd admission
not_admitted before after Blanks name line admission other hub more bytes addresses start = absurd admission
not_admitted before after (Skipped None) name line admission other hub more bytes addresses start = absurd admission
not_admitted before after (Skipped (Some refusal)) name line admission other hub more bytes addresses start =
    line_refused hub before after more refusal bytes name line admission addresses start
not_admitted before after (Session place) name line admission other hub more bytes addresses start = absurd (other place refl)

-- it is told where it goes
pub admission_routed : {G O : Type 0} (before after : List (Member G O)) (part : Part) (name : List ℕ)
    → IsAdmission before name part after → IsRouted part
admission_routed before after Head name admission = admission
admission_routed before after Blanks name admission = tt
admission_routed before after (Skipped refusal) name admission = tt
admission_routed before after (Session place) name admission = tt

-- a session that it goes to goes on
pub admission_placed : {G O : Type 0} (before after : List (Member G O)) (part : Part) (name : List ℕ)
    → IsAdmission before name part after → IsPlaced part after
admission_placed before after Head name admission = tt
admission_placed before after Blanks name admission = tt
admission_placed before after (Skipped refusal) name admission = tt
admission_placed before after (Session place) name admission = admitted_going before after place name admission
