-- What a guide and an order are asked and told along a run, turn after turn.
use Rattle.std.proofs.Common.{◌≡◌, ℕ, ◌<◌, Bool, None, Option, is_some, List, [], ◌∷◌, ◌++◌, length, refl, sym, ap, subst, arith}
use Rattle.palm_model.specs.State.{EngineState, IsValid}
use Rattle.palm_model.specs.Event.{WithdrawsAll}
use Rattle.palm_events.specs.Reasons.{ReasonsAreRight}
use Rattle.palm_engine.specs.Engine.{View, HasSettled}
use Rattle.palm_engine.specs.Following.{Hearing, HasSettledBy, LeadsAlong, hearings}
use Rattle.palm_engine.specs.declared.settle.Settle.{Settle}
use Rattle.palm_engine.proofs.cited.Leading.{leads_split, leads_then}
use Rattle.palm_search.specs.declared.ending.SearchEnd.{SearchEnd}
use Rattle.palm_search.specs.declared.turn.Turn.{Turn}
use Rattle.palm_search.specs.Calls.{SearchView, TakesTurn, search_state}
use Rattle.palm_search.specs.Following.{Moment, SearchRunBy, SearchesBy, moments, settling_hearings, turns_hearings}
use Rattle.palm_search.specs.Kept.{HasOnlyUsers}
use Rattle.palm_search.specs.Search.{EndsWith, begun, search_cids}
use Rattle.palm_search.specs.Turns.{SearchState, Follows, Turns}
use Rattle.palm_search.proofs.cited.Running.{IsRunning, run_goes_on, run_starts}

-- ---- one settling

-- a settling, and what it led the order to
abbrev pub SettlesOn : {O : Type 0} → (Hearing → Option O → Option O → Type 0) → Bool → Settle → View → View → Option O → Option O → Type 0
SettlesOn ordering ordered answer before after first last =
    (settled : HasSettled None ordered answer before after) × LeadsAlong ordering (hearings before.state settled.revisions after.state settled.settles.revisions) first last

-- an order is there at the settling where it was there before
pub settled_alike : {O : Type 0} (ordering : Hearing → Option O → Option O → Type 0) (ordered : Bool) (answer : Settle) (before after : View) (first last : Option O) → is_some first ≡ ordered
    → HasSettledBy ordering None first last answer before after → SettlesOn ordering ordered answer before after first last
settled_alike ordering ordered answer before after first last e by =
    subst (λ (b : Bool). SettlesOn ordering b answer before after first last) e (by.settled, by.followed)

-- ---- one turn more

-- turns, and what they and the settlings after them led to
pub record TurnsOn {X Y : Type 0} (guiding : Moment → X → X → Type 0) (ordering : Hearing → Y → Y → Type 0) (guided ordered : Bool) (s : SearchState) (turns : List Turn) (t : SearchState) (guide_first guide_last : X) (order_first order_last : Y) : Type 0 where
  pub taken : Turns guided ordered s turns t
  pub guide : LeadsAlong guiding (moments guided ordered s turns t taken) guide_first guide_last
  pub order : LeadsAlong ordering (turns_hearings guided ordered s turns t taken) order_first order_last

pub turns_on : {X Y : Type 0} (guiding : Moment → X → X → Type 0) (ordering : Hearing → Y → Y → Type 0) (guided ordered : Bool) (a : SearchState) (turns : List Turn) (b : SearchState) (turn : Turn) (c : SearchState) (g h k : X) (o p q : Y)
    → (taken : Turns guided ordered a turns b) → LeadsAlong guiding (moments guided ordered a turns b taken) g h → LeadsAlong ordering (turns_hearings guided ordered a turns b taken) o p
    → (follows : Follows guided ordered b turn c) → guiding (record { state = b; turn = turn }) h k → LeadsAlong ordering (settling_hearings ordered follows.middle c follows.settles) p q
    → TurnsOn guiding ordering guided ordered a (turns ++ turn ∷ []) c g k o q
turns_on guiding ordering guided ordered a [] b turn c g h k o p q taken guide order follows step settled =
    let moved : (f : Follows guided ordered a turn c) × LeadsAlong ordering (settling_hearings ordered f.middle c f.settles) p q =
    subst (λ (z : SearchState). (f : Follows guided ordered z turn c) × LeadsAlong ordering (settling_hearings ordered f.middle c f.settles) p q) taken (follows, settled) in
    let here = subst (λ (z : SearchState). guiding (record { state = z; turn = turn }) h k) taken step in
    record {
      taken = (c, moved.0, refl);
      guide = (k, subst (λ x. guiding (record { state = a; turn = turn }) x k) guide here, refl);
      order = leads_then ordering (settling_hearings ordered moved.0.middle c moved.0.settles) [] o q q (subst (λ y. LeadsAlong ordering (settling_hearings ordered moved.0.middle c moved.0.settles) y q) order moved.1) refl;
    }
turns_on guiding ordering guided ordered a (first ∷ turns) b turn c g h k o p q taken guide order follows step settled =
    let heard = settling_hearings ordered taken.1.middle taken.0 taken.1.settles in
    let split = leads_split ordering heard (turns_hearings guided ordered taken.0 turns b taken.2) o p order in
    let more = turns_on guiding ordering guided ordered taken.0 turns b turn c guide.0 h k split.0 p q taken.2 guide.2 split.2 follows step settled in
    record {
      taken = (taken.0, taken.1, more.taken);
      guide = (guide.0, guide.1, more.guide);
      order = leads_then ordering heard (turns_hearings guided ordered taken.0 (turns ++ turn ∷ []) c more.taken) o split.0 q split.1 more.order;
    }

-- ---- the run

-- the run so far, and what its turns and its settlings led to
pub record IsRunningBy {X O : Type 0} (guiding : Moment → X → X → Type 0) (ordering : Hearing → Option O → Option O → Type 0) (guided : Bool) (first now : X) (order_first order_now : Option O)
    (budget : ℕ) (s t : EngineState) (search : SearchView) : Type 0 where
  pub running : IsRunning guided (is_some order_first) budget s t search
  pub guide : LeadsAlong guiding (moments guided (is_some order_first) running.turned.start search.journal (search_state t search) running.turned.taken) first now
  pub order_begun : Option O
  pub begins : LeadsAlong ordering (settling_hearings (is_some order_first) (begun s) running.turned.start running.turned.settles) order_first order_begun
  pub order : LeadsAlong ordering (turns_hearings guided (is_some order_first) running.turned.start search.journal (search_state t search) running.turned.taken) order_begun order_now

pub run_starts_by : ReasonsAreRight → {X O : Type 0} (guiding : Moment → X → X → Type 0) (ordering : Hearing → Option O → Option O → Type 0) (guided : Bool) (first : X) (order_first order_now : Option O) (budget : ℕ) (answer : Settle)
    (before after : View) (search : SearchView) → IsValid before.state → HasOnlyUsers before.state → search ≡ record { decisions = []; journal = [] } → HasSettledBy ordering None order_first order_now answer before after
    → IsRunningBy guiding ordering guided first first order_first order_now budget before.state after.state search
run_starts_by right guiding ordering guided first order_first order_now budget answer before after search valid users fresh by =
    subst (λ (v : SearchView). IsRunningBy guiding ordering guided first first order_first order_now budget before.state after.state v) (sym fresh) (
    let settled = by.settled in
    let start : SearchState = record { engine = after.state; decisions = [] } in
    record {
      running = record {
        turned = record {
          start = start;
          settles = record { revisions = settled.revisions; fits = settled.fits; settles = settled.settles; decisions = refl };
          taken = refl;
          within = omega arith;
        };
        between = (run_starts right guided (is_some order_first) budget answer before after (record { decisions = []; journal = [] }) valid users refl settled).between;
      };
      guide = refl;
      order_begun = order_now;
      begins = by.followed;
      order = refl;
    })

pub run_goes_on_by : ReasonsAreRight → {X O : Type 0} (guiding : Moment → X → X → Type 0) (ordering : Hearing → Option O → Option O → Type 0) (guided : Bool) (first was now : X) (order_first order_was order_now : Option O)
    (budget : ℕ) (s m : EngineState) (before : SearchView) (turn : Turn) (answer : Settle) (taken after : View) (search : SearchView) → IsRunningBy guiding ordering guided first was order_first order_was budget s m before
    → length before.journal < budget → TakesTurn guided turn m before taken.state search → guiding (record { state = search_state m before; turn = turn }) was now
    → SettlesOn ordering (is_some order_first) answer taken after order_was order_now → IsRunningBy guiding ordering guided first now order_first order_now budget s after.state search
run_goes_on_by right guiding ordering guided first was now order_first order_was order_now budget s m before turn answer taken after search by lt takes step settles_on =
    let ordered = is_some order_first in
    let longer : SearchView = record { decisions = search.decisions; journal = before.journal ++ turn ∷ [] } in
    let takes_longer : TakesTurn guided turn m before taken.state longer = record { takes = takes.takes; journal = refl } in
    let settled = settles_on.0 in
    let goes = run_goes_on right guided ordered budget s m before turn answer taken after longer by.running lt takes_longer settled in
    let turned = by.running.turned in
    let follows : Follows guided ordered (search_state m before) turn (search_state after.state longer) = record {
      middle = search_state taken.state longer;
      takes = takes.takes;
      settles = record { revisions = settled.revisions; fits = settled.fits; settles = settled.settles; decisions = refl };
    } in
    let on = turns_on guiding ordering guided ordered turned.start before.journal (search_state m before) turn (search_state after.state longer) first was now by.order_begun order_was order_now turned.taken by.guide by.order follows step settles_on.1 in
    subst (λ (l : List Turn). IsRunningBy guiding ordering guided first now order_first order_now budget s after.state (record { decisions = search.decisions; journal = l })) (sym takes.journal) (record {
      running = record { turned = record { start = turned.start; settles = turned.settles; taken = on.taken; within = goes.turned.within }; between = goes.between };
      guide = on.guide;
      order_begun = by.order_begun;
      begins = by.begins;
      order = on.order;
    })

-- ---- two things that the same turns lead

-- where each step leads both of a pair, the steps lead the one and the other
pub led_both : {T X Y : Type 0} (R : T → X → X → Type 0) (S : T → Y → Y → Type 0) (things : List T) (a b : X × Y) → LeadsAlong (λ t p q. R t p.0 q.0 × S t p.1 q.1) things a b
    → LeadsAlong R things a.0 b.0 × LeadsAlong S things a.1 b.1
led_both R S [] a b led = (ap (λ p. p.0) led, ap (λ p. p.1) led)
led_both R S (t ∷ things) a b led =
    let rest = led_both R S things led.0 b led.2 in
    ((led.0.0, led.1.0, rest.0), (led.0.1, led.1.1, rest.1))

-- the left of the two, along the same run
abbrev pub running_left : {X Y O : Type 0} (guiding : Moment → X → X → Type 0) (arguing : Moment → Y → Y → Type 0) (ordering : Hearing → Option O → Option O → Type 0) (guided : Bool) (first now : X × Y) (order_first order_now : Option O)
    (budget : ℕ) (s t : EngineState) (search : SearchView) → IsRunningBy (λ moment p q. guiding moment p.0 q.0 × arguing moment p.1 q.1) ordering guided first now order_first order_now budget s t search
    → IsRunningBy guiding ordering guided first.0 now.0 order_first order_now budget s t search
running_left guiding arguing ordering guided first now order_first order_now budget s t search by =
    let turned = by.running.turned in
    record {
      running = by.running;
      guide = (led_both guiding arguing (moments guided (is_some order_first) turned.start search.journal (search_state t search) turned.taken) first now by.guide).0;
      order_begun = by.order_begun;
      begins = by.begins;
      order = by.order;
    }

-- and the right one
pub running_right : {X Y O : Type 0} (guiding : Moment → X → X → Type 0) (arguing : Moment → Y → Y → Type 0) (ordering : Hearing → Option O → Option O → Type 0) (guided : Bool) (first now : X × Y) (order_first order_now : Option O)
    (budget : ℕ) (s t : EngineState) (search : SearchView) (by : IsRunningBy (λ moment p q. guiding moment p.0 q.0 × arguing moment p.1 q.1) ordering guided first now order_first order_now budget s t search)
    → LeadsAlong arguing (moments guided (is_some order_first) by.running.turned.start search.journal (search_state t search) by.running.turned.taken) first.1 now.1
running_right guiding arguing ordering guided first now order_first order_now budget s t search by =
    let turned = by.running.turned in
    (led_both guiding arguing (moments guided (is_some order_first) turned.start search.journal (search_state t search) turned.taken) first now by.guide).1

-- ---- the end

-- no turn is taken any more; the turns are those of the run
abbrev pub run_ends_by : {G O : Type 0} (guiding : Moment → Option G → Option G → Type 0) (ordering : Hearing → Option O → Option O → Type 0) (guide_first guide_last : Option G) (order_first order_last : Option O) (budget : ℕ) (s t : EngineState)
    (search : SearchView) (end : SearchEnd) → IsRunningBy guiding ordering (is_some guide_first) guide_first guide_last order_first order_last budget s t search → EndsWith budget (length search.journal) t end
    → SearchRunBy guiding ordering guide_first guide_last order_first order_last budget s search.journal end (search_state t search)
run_ends_by guiding ordering guide_first guide_last order_first order_last budget s t search end by ends =
    let turned = by.running.turned in
    let guided = is_some guide_first in
    let ordered = is_some order_first in
    record {
      run = record { start = turned.start; settles = turned.settles; taken = turned.taken; within = turned.within; ends = ends };
      guide = by.guide;
      order = leads_then ordering (settling_hearings ordered (begun s) turned.start turned.settles) (turns_hearings guided ordered turned.start search.journal (search_state t search) turned.taken) order_first by.order_begun order_last by.begins by.order;
    }

-- all decisions and negations are withdrawn, and the engine settles once more
abbrev pub searches_whole_by : {G O : Type 0} (guiding : Moment → Option G → Option G → Type 0) (ordering : Hearing → Option O → Option O → Type 0) (guide_first guide_last : Option G) (order_first order_end order_last : Option O) (budget : ℕ) (s : EngineState)
    (turns : List Turn) (end : SearchEnd) (last : SearchState) (answer : Settle) (n t : View) → SearchRunBy guiding ordering guide_first guide_last order_first order_end budget s turns end last
    → WithdrawsAll last.engine (search_cids last.engine.active) n.state → SettlesOn ordering (is_some order_first) answer n t order_end order_last
    → SearchesBy guiding ordering guide_first guide_last order_first order_last budget s turns end t.state
searches_whole_by guiding ordering guide_first guide_last order_first order_end order_last budget s turns end last answer n t by withdraws settles_on =
    let settled = settles_on.0 in
    let guided = is_some guide_first in
    let ordered = is_some order_first in
    record {
      searches = record {
        last = last;
        run = by.run;
        closes = record { middle = n.state; withdraws = withdraws; revisions = settled.revisions; fits = settled.fits; settles = settled.settles };
      };
      guide = by.guide;
      order = leads_then ordering (settling_hearings ordered (begun s) by.run.start by.run.settles ++ turns_hearings guided ordered by.run.start turns last by.run.taken) (hearings n.state settled.revisions t.state settled.settles.revisions) order_first order_end order_last by.order settles_on.1;
    }
