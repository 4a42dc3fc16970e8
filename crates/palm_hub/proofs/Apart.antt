-- Sessions of a hub are apart: the replies of each are those to its own lines alone.
use Rattle.std.proofs.Common.{◌≡◌, ◌≢◌, ℕ, ◌-◌, ◌==◌, ◌++◌, Bool, true, false, List, [], ◌∷◌, length, take, slice_index, map, flat_map, All, ◌⊎◌, inl, inr, refl, sym, ap, ◌∙◌, subst, append-nil, if◌then◌else◌, bytes_eq}
use Rattle.std.proofs.lemmas.List.Elements.{All-nil, All-cons, All-head, All-tail, All-push, All-contains, All-take, All-append}
use Rattle.std.proofs.lemmas.Slice.Eq.{bytes_eq-Decides}
use Rattle.palm_base.proofs.cited.Members.{all_members, member_nil}
use Rattle.palm_read.specs.Lines.{AreLines, HasNoFeed, ended, last_line, without_return}
use Rattle.palm_session.specs.Answers.{Answers}
use Rattle.palm_session.specs.Replies.{AreAnswered, ChoosesNone, ChoosesObject, GoesOn, Replies, Run, all, chooses_guide, chooses_order, until}
use Rattle.palm_session.specs.State.{SessionState, fresh}
use Rattle.palm_session.proofs.cited.LawsOfTexts.{none_chosen, output_once}
use Rattle.palm_hub.specs.Addressing.{Addresses}
use Rattle.palm_hub.specs.Hub.{Admits, HubAnswers, HubReplies, HubRun, IsNewName, Leaves, Opened, Outcome, opened, output_of, replies_of, reply_in, text_in, text_of}
use Rattle.palm_hub.specs.Hub.Admits.{opens, stays}
use Rattle.palm_hub.specs.Hub.HubAnswers.{comments, is_full, is_over, nameless, passes}
use Rattle.palm_hub.specs.Hub.Outcome.{Passed}

-- ---- lines without a line feed

no_feed_behind : (front back : List ℕ) → HasNoFeed (front ++ back) → HasNoFeed back
no_feed_behind [] back h = h
no_feed_behind (b ∷ front) back h = no_feed_behind front back (All-tail (λ c. c ≢ 10) b (front ++ back) h)

-- the line for a session has none since the hub line has none
line_unbroken : (bytes name line : List ℕ) → HasNoFeed bytes → Addresses bytes name line → HasNoFeed line
line_unbroken bytes name line h a =
    All-tail (λ c. c ≢ 10) a.gap line (no_feed_behind name (a.gap ∷ line) (subst HasNoFeed a.whole h))

-- nor has a line without its carriage return
shown_either : (returns : Bool) (line : List ℕ) → HasNoFeed line → HasNoFeed (if returns then take (length line - 1) line else line)
shown_either true line h = All-take (λ c. c ≢ 10) (length line - 1) line h
shown_either false line h = h

shown_unbroken : (line : List ℕ) → HasNoFeed line → HasNoFeed (without_return line)
shown_unbroken line h = shown_either (slice_index line (length line - 1) == 13) line h

last_unbroken : (rest : List ℕ) → HasNoFeed rest → All HasNoFeed (last_line rest)
last_unbroken [] h = All-nil HasNoFeed
last_unbroken (b ∷ bytes) h =
    All-cons HasNoFeed (without_return (b ∷ bytes)) [] (shown_unbroken (b ∷ bytes) h) (All-nil HasNoFeed)

shown_all_unbroken : (lines : List (List ℕ)) → All HasNoFeed lines → All HasNoFeed (map without_return lines)
shown_all_unbroken [] h = All-nil HasNoFeed
shown_all_unbroken (l ∷ ls) h =
    let first = shown_unbroken l (All-head HasNoFeed l ls h) in
    All-cons HasNoFeed (without_return l) (map without_return ls) first (shown_all_unbroken ls (All-tail HasNoFeed l ls h))

-- no line of a text has one
pub lines_unbroken : (text : List ℕ) (lines : List (List ℕ)) → AreLines text lines → All HasNoFeed lines
lines_unbroken text lines are =
    let shown = shown_all_unbroken are.ended_lines are.cuts.unbroken in
    let last = last_unbroken are.rest are.cuts.unfinished in
    subst (All HasNoFeed) (sym are.all)
    (All-append HasNoFeed (map without_return are.ended_lines) (last_line are.rest) shown last)

-- ---- the session of a name

-- the session has another name
abbrev pub Differs : List ℕ → Opened → Type 0
Differs name o = o.name ≢ name

-- one session alone has the name, and this is what it holds
abbrev pub IsOnly : List Opened → List ℕ → SessionState → Bool → Type 0
IsOnly [] name state over = ⊥
IsOnly (o ∷ hub) name state over =
    ((o ≡ opened name state over) × IsNewName hub name) ⊎ (Differs name o × IsOnly hub name state over)

-- the session of the name holds this, where one that is still to be opened holds what a fresh one does
abbrev pub Holds : List Opened → List ℕ → SessionState → Bool → Type 0
Holds hub name state over = IsOnly hub name state over ⊎ (IsNewName hub name × (state ≡ fresh [] []) × (over ≡ false))

-- a name that a session has is not new
not_new : (hub : List Opened) (name : List ℕ) (state : SessionState) (over : Bool)
    → IsOnly hub name state over → IsNewName hub name → ⊥
not_new [] name state over only new = only
not_new (o ∷ hub) name state over only new = elim only [
  | inl here ↦ All-head (Differs name) o hub new (ap (λ (z : Opened). z.name) here.0)
  | inr there ↦ not_new hub name state over there.1 (All-tail (Differs name) o hub new)
]

pub not_new_at : (front back : List Opened) (name : List ℕ) (state : SessionState) (over : Bool)
    → IsNewName (front ++ opened name state over ∷ back) name → ⊥
not_new_at [] back name state over new = All-head (Differs name) (opened name state over) back new refl
not_new_at (o ∷ front) back name state over new =
    not_new_at front back name state over (All-tail (Differs name) o (front ++ opened name state over ∷ back) new)

-- a session that is opened under another name changes nothing
only_push : (hub : List Opened) (name : List ℕ) (state : SessionState) (over : Bool) (another : Opened)
    → Differs name another → IsOnly hub name state over → IsOnly (hub ++ another ∷ []) name state over
only_push [] name state over another differs only = absurd only
only_push (o ∷ hub) name state over another differs only = elim only [
  | inl here ↦ inl (here.0, All-push (Differs name) hub another here.1 differs)
  | inr there ↦ inr (there.0, only_push hub name state over another differs there.1)
]

-- one that is opened under a new name is the only one
only_opened : (hub : List Opened) (name : List ℕ) (state : SessionState) (over : Bool)
    → IsNewName hub name → IsOnly (hub ++ opened name state over ∷ []) name state over
only_opened [] name state over new = inl (refl, All-nil (Differs name))
only_opened (o ∷ hub) name state over new =
    inr (All-head (Differs name) o hub new, only_opened hub name state over (All-tail (Differs name) o hub new))

-- a change of the session of another name changes nothing
new_beside : (front back : List Opened) (other name : List ℕ) (before after : SessionState) (was is : Bool)
    → IsNewName (front ++ opened other before was ∷ back) name → IsNewName (front ++ opened other after is ∷ back) name
new_beside [] back other name before after was is new =
    let differs = All-head (Differs name) (opened other before was) back new in
    let others = All-tail (Differs name) (opened other before was) back new in
    All-cons (Differs name) (opened other after is) back differs others
new_beside (o ∷ front) back other name before after was is new =
    let differs = All-head (Differs name) o (front ++ opened other before was ∷ back) new in
    let others = All-tail (Differs name) o (front ++ opened other before was ∷ back) new in
    All-cons (Differs name) o (front ++ opened other after is ∷ back) differs
    (new_beside front back other name before after was is others)

only_beside : (front back : List Opened) (other name : List ℕ) (before after : SessionState) (was is : Bool)
    (state : SessionState) (over : Bool) → other ≢ name → IsOnly (front ++ opened other before was ∷ back) name state over
    → IsOnly (front ++ opened other after is ∷ back) name state over
only_beside [] back other name before after was is state over differs only = elim only [
  | inl here ↦ absurd (differs (ap (λ (z : Opened). z.name) here.0))
  | inr there ↦ inr there
]
only_beside (o ∷ front) back other name before after was is state over differs only = elim only [
  | inl here ↦ inl (here.0, new_beside front back other name before after was is here.1)
  | inr there ↦ inr (there.0, only_beside front back other name before after was is state over differs there.1)
]

-- a change of the session of the name itself leaves it the only one
pub only_at : (front back : List Opened) (name : List ℕ) (before after : SessionState) (was is : Bool)
    (state : SessionState) (over : Bool) → IsOnly (front ++ opened name before was ∷ back) name state over
    → (before ≡ state) × (over ≡ was) × IsOnly (front ++ opened name after is ∷ back) name after is
only_at [] back name before after was is state over only = elim only [
  | inl here ↦ (ap (λ (z : Opened). z.state) here.0, sym (ap (λ (z : Opened). z.over) here.0), inl (refl, here.1))
  | inr there ↦ absurd (there.0 refl)
]
only_at (o ∷ front) back name before after was is state over only = elim only [
  | inl here ↦ absurd (not_new_at front back name before was here.1)
  | inr there ↦ let rest = only_at front back name before after was is state over there.1 in (rest.0, rest.1, inr (there.0, rest.2))
]

-- ---- where a line is passed

-- a line that is passed to another session leaves what the session of the name holds
admitted_other : (hub among : List Opened) (other name : List ℕ) (state : SessionState) (over : Bool) → other ≢ name
    → Admits hub other among → Holds hub name state over → Holds among name state over
admitted_other hub among other name state over differs (stays _ at) holds = holds
admitted_other hub among other name state over differs (opens _ room) holds =
    let another = opened other (fresh [] []) false in
    elim holds [
      | inl only ↦ inl (only_push hub name state over another differs only)
      | inr new ↦ inr (All-push (Differs name) hub another new.0 differs, new.1, new.2)
    ]

-- the session of a line that is passed is there, and holds what was held before
pub admitted : (hub among : List Opened) (name : List ℕ) (state : SessionState) (over : Bool) → Admits hub name among
    → Holds hub name state over → IsOnly among name state over
admitted hub among name state over (stays was at) holds = elim holds [
  | inl only ↦ only
  | inr new ↦ absurd (All-contains (Differs name) hub (opened name was false) new.0 at refl)
]
admitted hub among name state over (opens new room) holds =
    let more = hub ++ opened name (fresh [] []) false ∷ [] in
    elim holds [
      | inl only ↦ absurd (not_new hub name state over only new)
      | inr none ↦
          subst (λ (s : SessionState). IsOnly more name s over) (sym none.1)
          (subst (λ (t : Bool). IsOnly more name (fresh [] []) t) (sym none.2) (only_opened hub name (fresh [] []) false new))
    ]

-- the hub line does not concern the session of the name
pub record PassesBy (name : List ℕ) (state : SessionState) (over : Bool) (outcome : Outcome) (among : List Opened) : Type 0 where
  pub text : text_in name outcome ≡ []
  pub replies : reply_in name outcome ≡ []
  pub holds : Holds among name state over

-- or this line was passed to it
pub record Gets (name : List ℕ) (state : SessionState) (over : Bool) (outcome : Outcome) (among : List Opened) : Type 0 where
  pub line : List ℕ
  pub reply : List ℕ
  pub after : SessionState
  pub ends : Bool
  pub going : over ≡ false
  pub unbroken : HasNoFeed line
  pub text : text_in name outcome ≡ ended line
  pub replies : reply_in name outcome ≡ reply
  pub answers : Answers state (without_return line) reply after
  pub leaves : Leaves (without_return line) ends
  pub holds : Holds among name after ends

-- a line that is passed to a session, by whether the names are the same
passed : (name : List ℕ) (state : SessionState) (over : Bool) (hub : List Opened) (bytes other line reply : List ℕ)
    (front back : List Opened) (before after : SessionState) (ends : Bool) (same : Bool) → bytes_eq other name ≡ same
    → HasNoFeed bytes → Holds hub name state over → Addresses bytes other line
    → Admits hub other (front ++ opened other before false ∷ back) → Answers before (without_return line) reply after
    → Leaves (without_return line) ends
    → PassesBy name state over (Passed other line reply) (front ++ opened other after ends ∷ back)
    ⊎ Gets name state over (Passed other line reply) (front ++ opened other after ends ∷ back)
passed name state over hub bytes other line reply front back before after ends false differ unbroken holds addresses admits answers leaves =
    let differs : other ≢ name = λ e. let t : bytes_eq other name ≡ true = (bytes_eq-Decides other name).1 e in cc in
    let among = admitted_other hub (front ++ opened other before false ∷ back) other name state over differs admits holds in
    inl (record {
      text = ap (λ (t : Bool). if t then ended line else []) differ;
      replies = ap (λ (t : Bool). if t then reply else []) differ;
      holds = elim among [
        | inl only ↦ inl (only_beside front back other name before after false ends state over differs only)
        | inr new ↦ inr (new_beside front back other name before after false ends new.0, new.1, new.2)
      ];
    })
passed name state over hub bytes other line reply front back before after ends true same unbroken holds addresses admits answers leaves =
    let is : other ≡ name = (bytes_eq-Decides other name).0 same in
    let own : Admits hub name (front ++ opened name before false ∷ back) =
    subst (λ (n : List ℕ). Admits hub n (front ++ opened n before false ∷ back)) is admits in
    let only = admitted hub (front ++ opened name before false ∷ back) name state over own holds in
    let at = only_at front back name before after false ends state over only in
    inr (record {
      line = line;
      reply = reply;
      after = after;
      ends = ends;
      going = at.1;
      unbroken = line_unbroken bytes other line unbroken addresses;
      text = ap (λ (t : Bool). if t then ended line else []) same;
      replies = ap (λ (t : Bool). if t then reply else []) same;
      answers = subst (λ (s : SessionState). Answers s (without_return line) reply after) at.0 answers;
      leaves = leaves;
      holds = inl (subst (λ (n : List ℕ). IsOnly (front ++ opened n after ends ∷ back) name after ends) (sym is) at.2);
    })

-- what a hub line does to the session of the name
pub one_line : (name : List ℕ) (state : SessionState) (over : Bool) (hub : List Opened) (bytes : List ℕ) (outcome : Outcome)
    (among : List Opened) → HasNoFeed bytes → Holds hub name state over → HubAnswers hub bytes outcome among
    → PassesBy name state over outcome among ⊎ Gets name state over outcome among
one_line name state over hub bytes outcome among unbroken holds (comments _) =
    inl (record { text = refl; replies = refl; holds = holds })
one_line name state over hub bytes outcome among unbroken holds (nameless _) =
    inl (record { text = refl; replies = refl; holds = holds })
one_line name state over hub bytes outcome among unbroken holds (is_over _ _ _) =
    inl (record { text = refl; replies = refl; holds = holds })
one_line name state over hub bytes outcome among unbroken holds (is_full _ _ _) =
    inl (record { text = refl; replies = refl; holds = holds })
one_line name state over hub bytes outcome among unbroken holds
    (passes {name = other} {line = line} {reply = reply} front back before after ends addresses admits answers leaves) =
    passed name state over hub bytes other line reply front back before after ends (bytes_eq other name) refl unbroken holds
    addresses admits answers leaves

-- ---- the replies of a session

-- the text is lines, of which these are answered, with these replies
record Hears (state : SessionState) (text replies : List ℕ) : Type 0 where
  lines : List (List ℕ)
  answered : List (List ℕ)
  final : SessionState
  unbroken : All HasNoFeed lines
  whole : text ≡ flat_map ended lines
  are_answered : AreAnswered (map without_return lines) answered
  run : Run state answered replies final

-- a session that is over is passed nothing, and says nothing
abbrev Hearing : Bool → SessionState → List ℕ → List ℕ → Type 0
Hearing true state text replies = (text ≡ []) × (replies ≡ [])
Hearing false state text replies = Hears state text replies

-- a line in front that goes on is answered too
answered_first : (line : List ℕ) (lines answered : List (List ℕ)) → GoesOn line → AreAnswered lines answered
    → AreAnswered (line ∷ lines) (line ∷ answered)
answered_first line lines answered goes_on (all on) = all (All-cons GoesOn line lines goes_on on)
answered_first line lines answered goes_on (until before after last on ends is) =
    until (line ∷ before) after last (All-cons GoesOn line before goes_on on) ends (ap (λ (z : List (List ℕ)). line ∷ z) is)

-- a line, and what is passed behind it
first_line : (state : SessionState) (line reply : List ℕ) (after : SessionState) (ends : Bool) (text replies : List ℕ)
    → HasNoFeed line → Answers state (without_return line) reply after → Leaves (without_return line) ends
    → Hearing ends after text replies → Hears state (ended line ++ text) (reply ++ replies)
first_line state line reply after true text replies unbroken answers leaves rest = record {
  lines = line ∷ [];
  answered = without_return line ∷ [];
  final = after;
  unbroken = All-cons HasNoFeed line [] unbroken (All-nil HasNoFeed);
  whole = ap (λ (z : List ℕ). ended line ++ z) rest.0;
  are_answered = until [] [] (without_return line) (All-nil GoesOn) leaves refl;
  run = (reply, [], after, answers, ap (λ (z : List ℕ). reply ++ z) rest.1, (refl, refl));
}
first_line state line reply after false text replies unbroken answers leaves rest = record {
  lines = line ∷ rest.lines;
  answered = without_return line ∷ rest.answered;
  final = rest.final;
  unbroken = All-cons HasNoFeed line rest.lines unbroken rest.unbroken;
  whole = ap (λ (z : List ℕ). ended line ++ z) rest.whole;
  are_answered =
      answered_first (without_return line) (map without_return rest.lines) rest.answered leaves rest.are_answered;
  run = (reply, replies, after, answers, refl, rest.run);
}

no_line : (state : SessionState) (over : Bool) → Hearing over state [] []
no_line state true = (refl, refl)
no_line state false = record {
  lines = [];
  answered = [];
  final = state;
  unbroken = All-nil HasNoFeed;
  whole = refl;
  are_answered = all (All-nil GoesOn);
  run = (refl, refl);
}

-- what is known of a session's text and replies goes over to equal ones
hearing_like : (over : Bool) (state : SessionState) (text replies texts told : List ℕ) → texts ≡ text → told ≡ replies
    → Hearing over state text replies → Hearing over state texts told
hearing_like over state text replies texts told same alike hears =
    subst (λ (z : List ℕ). Hearing over state texts z) (sym alike)
    (subst (λ (z : List ℕ). Hearing over state z replies) (sym same) hears)

-- the outcome of a hub line and those behind it
with_outcome : (name : List ℕ) (state : SessionState) (over : Bool) (outcome : Outcome) (among : List Opened)
    (text replies : List ℕ) → PassesBy name state over outcome among ⊎ Gets name state over outcome among
    → ((next : SessionState) (ends : Bool) → Holds among name next ends → Hearing ends next text replies)
    → Hearing over state (text_in name outcome ++ text) (reply_in name outcome ++ replies)
with_outcome name state over outcome among text replies does rest =
    let front : List ℕ = text_in name outcome in
    let said : List ℕ = reply_in name outcome in
    elim does [
      | inl by ↦
          hearing_like over state text replies (front ++ text) (said ++ replies) (ap (λ (z : List ℕ). z ++ text) by.text)
          (ap (λ (z : List ℕ). z ++ replies) by.replies) (rest state over by.holds)
      | inr gets ↦
          let others = rest gets.after gets.ends gets.holds in
          let first = first_line state gets.line gets.reply gets.after gets.ends text replies gets.unbroken gets.answers
          gets.leaves others in
          let like = hearing_like false state (ended gets.line ++ text) (gets.reply ++ replies) (front ++ text) (said ++ replies)
          (ap (λ (z : List ℕ). z ++ text) gets.text) (ap (λ (z : List ℕ). z ++ replies) gets.replies) first in
          subst (λ (t : Bool). Hearing t state (front ++ text) (said ++ replies)) (sym gets.going) like
    ]

-- the lines that a session is passed among those of the hub
hears : (lines : List (List ℕ)) (outcomes : List Outcome) (hub after : List Opened) (name : List ℕ) (state : SessionState)
    (over : Bool) → All HasNoFeed lines → HubRun hub lines outcomes after → Holds hub name state over
    → Hearing over state (text_of name outcomes) (replies_of name outcomes)
hears [] outcomes hub after name state over unbroken run holds =
    hearing_like over state [] [] (text_of name outcomes) (replies_of name outcomes) (ap (text_of name) run.0)
    (ap (replies_of name) run.0) (no_line state over)
hears (l ∷ ls) outcomes hub after name state over unbroken run holds =
    let does = one_line name state over hub l run.0 run.2 (All-head HasNoFeed l ls unbroken) holds run.3 in
    let whole = with_outcome name state over run.0 run.2 (text_of name run.1) (replies_of name run.1) does
    (λ next ends held. hears ls run.1 run.2 after name next ends (All-tail HasNoFeed l ls unbroken) run.5 held) in
    hearing_like over state (text_of name (run.0 ∷ run.1)) (replies_of name (run.0 ∷ run.1)) (text_of name outcomes)
    (replies_of name outcomes) (ap (text_of name) run.4) (ap (replies_of name) run.4) whole

-- ---- the laws

-- the replies of each session are those to its own lines alone
pub apart : (lines : List (List ℕ)) (outcomes : List Outcome) (hub : List Opened) → All HasNoFeed lines
    → HubRun [] lines outcomes hub → (name : List ℕ) → Replies [] [] (text_of name outcomes) (replies_of name outcomes)
apart lines outcomes hub unbroken run name =
    let start : Holds [] name (fresh [] []) false = inr (All-nil (Differs name), refl, refl) in
    let h = hears lines outcomes [] hub name (fresh [] []) false unbroken run start in
    record {
      lines = map without_return h.lines;
      answered = h.answered;
      state = h.final;
      are_lines = record {
        ended_lines = h.lines;
        rest = [];
        cuts = record {
          whole = h.whole ∙ sym (append-nil (flat_map ended h.lines));
          unbroken = h.unbroken;
          unfinished = All-nil (λ c. c ≢ 10);
        };
        all = sym (append-nil (map without_return h.lines));
      };
      are_answered = h.are_answered;
      run = h.run;
    }

-- what becomes of the lines of the input are the hub's replies
pub hub_replies : (input output : List ℕ) (lines : List (List ℕ)) (outcomes : List Outcome) (sessions : List Opened)
    → AreLines input lines → HubRun [] lines outcomes sessions → output ≡ flat_map output_of outcomes → HubReplies input output
hub_replies input output lines outcomes sessions are run written = record {
  lines = lines;
  outcomes = outcomes;
  sessions = sessions;
  are_lines = are;
  run = run;
  written = written;
  apart = apart lines outcomes sessions (lines_unbroken input lines are) run;
}

-- without guides and orders no line chooses one
pub no_object : (line : List ℕ) → ChoosesObject [] [] line → ⊥
no_object line (chooses_guide number among is) = member_nil number among
no_object line (chooses_order number among is) = member_nil number among

chooses_none : (text : List ℕ) → ChoosesNone [] [] text
chooses_none text lines are =
    all_members (λ line. ChoosesObject [] [] line → ⊥) lines (λ line among. no_object line)

-- so a text has one output, and the same lines for a name are replied the same
pub same_replies : (name input output other told : List ℕ) (one : HubReplies input output) (two : HubReplies other told)
    → text_of name one.outcomes ≡ text_of name two.outcomes → replies_of name one.outcomes ≡ replies_of name two.outcomes
same_replies name input output other told one two same =
    let text : List ℕ = text_of name one.outcomes in
    let said : List ℕ = replies_of name one.outcomes in
    let others : List ℕ = replies_of name two.outcomes in
    let too : Replies [] [] text others = subst (λ (z : List ℕ). Replies [] [] z others) (sym same) (two.apart name) in
    output_once [] [] text said others (none_chosen [] [] text (chooses_none text)) (one.apart name) too
