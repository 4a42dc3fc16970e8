-- Pending constraints without a mark, one after another: each is a revision that takes nothing out.
use Rattle.std.proofs.Common.{◌≡◌, ℕ, suc, ◌+◌, ◌<◌, ◌≤◌, min, Bool, true, false, Option, Some, None, IfSome, is_some, List, [], ◌∷◌, ◌++◌, length, All, Contains, slice_get, inl, inr, refl, sym, ap, ◌∙◌, subst, arith}
use Rattle.std.specs.Prelude.{nat_lt}
use Rattle.std.proofs.lemmas.Bool.{cases_Bool, false≢true}
use Rattle.palm_base.specs.declared.terms.Cid.{Cid}
use Rattle.palm_base.specs.declared.limits.TheConstants.{LAST_COUNT}
use Rattle.palm_base.specs.Order.{Rises, cid_before}
use Rattle.palm_base.proofs.cited.CidOrder.{not_before_itself, rising_same}
use Rattle.palm_base.proofs.cited.Members.{member_here, member_there, member_cases, member_same}
use Rattle.palm_model.specs.Log.{Active}
use Rattle.palm_model.specs.State.{without_cid}
use Rattle.palm_events.proofs.cited.States.{without_cid_rises, without_cid_member, member_without_cid}
use Rattle.palm_agenda.specs.declared.mark.Mark.TheVariants.{Clear}
use Rattle.palm_agenda.specs.Agenda.{Connected, index_within}
use Rattle.palm_engine.specs.declared.filtering.Filtering.{Filtering}
use Rattle.palm_engine.specs.Following.{Hearing, OrderFollows}
use Rattle.palm_engine.specs.Kept.{state_of, state_in_revision}
use Rattle.palm_engine.specs.Revising.{HasRevised, PassesClear, TakesNext, most_left}
use Rattle.palm_engine.specs.Settling.{HasReached}
use Rattle.palm_engine.specs.Work.{effort, named_sizes}
use Rattle.palm_engine.proofs.Clear.{IsClear, clear_none, clear_walked}
use Rattle.palm_engine.proofs.Progress.{counted_more, counted_none}
use Rattle.palm_engine.proofs.Running.{HasRunBy, HasTried, run_more, run_falls, taken_is}
use Rattle.palm_engine.proofs.Settles.{walked_revised}

-- these are pending, and nothing else changes
abbrev pub with_pending : Filtering → List Cid → Filtering
with_pending f pending = record f { agenda = record { connected = f.agenda.connected; pending = pending } }

-- ---- one of them

first_of : (limit : Option ℕ) (count n : ℕ) → suc n ≤ most_left limit count → HasReached limit count → ⊥
first_of None count n le reached = reached
first_of (Some most) count n le reached = omega (arith, le, reached)

first_fits : (limit : Option ℕ) (count n : ℕ) → suc n ≤ most_left limit count → IfSome limit (λ most. most ≤ LAST_COUNT) → count + 1 ≤ LAST_COUNT
first_fits None count n le bounded = omega (arith, le)
first_fits (Some most) count n le bounded = omega (arith, le, bounded)

others_left : (limit : Option ℕ) (count n : ℕ) → suc n ≤ most_left limit count → n ≤ most_left limit (count + 1)
others_left None count n le = omega (arith, le)
others_left (Some most) count n le = omega (arith, le)

-- a rising list has its first id once
not_again : (cid : Cid) (cids : List Cid) → Rises (cid ∷ cids) → Contains cids cid → ⊥
not_again cid cids rises m = not_before_itself cid (subst (λ d. cid_before cid d ≡ true) m.2 (rises.0 m.0 cid m.1))

-- without the first of them the others are pending
first_gone : (cid : Cid) (cids : List Cid) → Rises (cid ∷ cids) → cids ≡ without_cid cid (cid ∷ cids)
first_gone cid cids rises = rising_same cids (without_cid cid (cid ∷ cids)) rises.1 (without_cid_rises cid (cid ∷ cids) rises)
    (λ c m. member_without_cid cid (cid ∷ cids) c (member_there cid cids c m) (λ e. not_again cid cids rises (member_same cids c cid e m)))
    (λ c m.
    let r = without_cid_member cid (cid ∷ cids) c m in
    elim (member_cases cid cids c r.0) [
      | inl e ↦ absurd (r.1 (sym e))
      | inr n ↦ n
    ])

index_first : (count : ℕ) → index_within 0 count ≡ 0
index_first count = elim (cases_Bool (nat_lt 0 count)) [
  | inl t ↦ rw t refl
  | inr f ↦ rw f refl
]

clear_takes : (limit : Option ℕ) (ordered : Bool) (count : ℕ) (f : Filtering) (cid : Cid) (cids : List Cid) → f.agenda.pending ≡ cid ∷ cids → Rises f.agenda.pending → (HasReached limit count → ⊥) → IfSome limit (λ most. most ≤ LAST_COUNT) → f.empty ≡ None
    → TakesNext limit ordered count f (with_pending f cids) cid
clear_takes limit ordered count f cid cids first rises below bounded filled = record {
  answer = 0;
  takes = record {
    chosen = ap (λ i. slice_get f.agenda.pending i) (index_first (length f.agenda.pending)) ∙ ap (λ cs. slice_get cs 0) first;
    pending = first_gone cid cids (subst Rises first rises) ∙ ap (without_cid cid) (sym first);
  };
  fits = λ e. refl;
  below = below;
  bounded = bounded;
  filled = filled;
  connected = refl;
  store = refl;
  log = refl;
  empty = refl;
  checks = refl;
}

-- the settling as it ran, and no more is left to do than before
pub record HasPassed {O : Type 0} (follows : Hearing → Option O → Option O → Type 0) (limit : Option ℕ) (active : List Active) (before f g : Filtering) (count old new : ℕ) (first last : Option O) : Type 0 where
  pub by : HasRunBy follows limit active before g count old new first last
  pub effort : effort (state_of g active) ≤ effort (state_of f active)

pass_one : {O : Type 0} {follows : Hearing → Option O → Option O → Type 0} {limit : Option ℕ} {active : List Active} {before : Filtering} {old new : ℕ} {first last : Option O} (f : Filtering) (count : ℕ) (cid : Cid) (cids : List Cid) → f.agenda.pending ≡ cid ∷ cids
    → count + 1 ≤ LAST_COUNT → (HasReached limit count → ⊥) → IfSome limit (λ most. most ≤ LAST_COUNT) → f.empty ≡ None → ((h : Hearing) → follows h last last) → ((d : Connected) → Contains f.agenda.connected d → d.cid ≡ cid → All (λ mark. mark ≡ Clear) d.marks)
    → HasRunBy follows limit active before f count old new first last → HasPassed follows limit active before f (with_pending f cids) (count + 1) old new first last
pass_one {follows = follows} {limit = limit} {active = active} {before = before} {old = old} {new = new} {first = first} {last = last} f count cid cids pending fits below bounded filled hears clear by =
    let ordered = is_some first in
    let engine = by.run.engine in
    let g = with_pending f cids in
    let takes = clear_takes limit ordered count f cid cids pending engine.kept.formed.pending_rising below bounded filled in
    let taken = taken_is limit ordered count active f g cid takes engine in
    let none : IsClear g taken.owner.cid = λ d m named. clear d m (named ∙ taken.named) in
    let walked = clear_walked g active taken.owner taken.revising none in
    let revised : HasRevised active cid (state_in_revision g active cid) (state_of g active) 0 = walked_revised g g active cid taken 0 taken.revising walked (clear_none g active taken.owner taken.revising none) in
    let size = named_sizes (state_in_revision g active cid) (cid ∷ []) in
    let tried : HasTried limit ordered active before f g g count old new new cid = record {
      run = by.run;
      takes = takes;
      kept = taken.revising.kept;
      counted = counted_more 0 size g g new new (omega arith) (counted_none g new);
    } in
    let falls = run_falls tried 0 revised in
    record {
      by = subst (λ n. HasRunBy follows limit active before g n old new first last) (least (count + 1) LAST_COUNT fits)
          (run_more last tried 0 revised by.followed (hears (record { pending = f.agenda.pending; revision = record { answer = takes.answer; cid = cid; removed = 0 } })));
      effort = omega (arith, falls);
    }
  where
    least : (n top : ℕ) → n ≤ top → min n top ≡ n
    least n top le = omega arith

-- ---- all of them

pass_none : {O : Type 0} {follows : Hearing → Option O → Option O → Type 0} {limit : Option ℕ} {active : List Active} {before : Filtering} {old new : ℕ} {first last : Option O} (f : Filtering) (count : ℕ) (rest : List Cid) → f.agenda.pending ≡ rest
    → HasRunBy follows limit active before f count old new first last → HasPassed follows limit active before f (with_pending f rest) (count + 0) old new first last
pass_none {follows = follows} {limit = limit} {active = active} {before = before} {old = old} {new = new} {first = first} {last = last} f count rest pending by =
    let same : f ≡ with_pending f rest = λ i. record f { agenda = record { connected = f.agenda.connected; pending = pending i } } in
    let e : count ≡ count + 0 = omega arith in
    subst (λ (g : Filtering). HasPassed follows limit active before f g (count + 0) old new first last) same
    (record { by = subst (λ n. HasRunBy follows limit active before f n old new first last) e by; effort = omega arith })

pass_each : {O : Type 0} {follows : Hearing → Option O → Option O → Type 0} {limit : Option ℕ} {active : List Active} {before : Filtering} {old new : ℕ} {first last : Option O} (f : Filtering) (count : ℕ) (taken rest : List Cid) → f.agenda.pending ≡ taken ++ rest
    → length taken ≤ most_left limit count → IfSome limit (λ most. most ≤ LAST_COUNT) → (0 < length taken → f.empty ≡ None) → (0 < length taken → (h : Hearing) → follows h last last)
    → ((d : Connected) → Contains f.agenda.connected d → Contains taken d.cid → All (λ mark. mark ≡ Clear) d.marks) → HasRunBy follows limit active before f count old new first last
    → HasPassed follows limit active before f (with_pending f rest) (count + length taken) old new first last
pass_each f count [] rest pending le bounded filled hears clear by = pass_none f count rest pending by
pass_each {follows = follows} {limit = limit} {active = active} {before = before} {old = old} {new = new} {first = first} {last = last} f count (cid ∷ cids) rest pending le bounded filled hears clear by =
    let some : 0 < length (cid ∷ cids) = omega arith in
    let one = pass_one f count cid (cids ++ rest) pending (first_fits limit count (length cids) le bounded) (first_of limit count (length cids) le) bounded (filled some) (hears some)
    (λ d m named. clear d m (member_same (cid ∷ cids) cid d.cid (sym named) (member_here cid cids))) by in
    let more = pass_each (with_pending f (cids ++ rest)) (count + 1) cids rest refl (others_left limit count (length cids) le) bounded (λ lt. filled some) (λ lt. hears some)
    (λ d m named. clear d m (member_there cid cids d.cid named)) one.by in
    let e : count + 1 + length cids ≡ count + length (cid ∷ cids) = omega arith in
    let first_effort = one.effort in
    let more_effort = more.effort in
    record {
      by = subst (λ n. HasRunBy follows limit active before (with_pending f rest) n old new first last) e more.by;
      effort = omega (arith, first_effort, more_effort);
    }

-- as the call says it
pub run_passed : {O : Type 0} {follows : Hearing → Option O → Option O → Type 0} {limit : Option ℕ} {active : List Active} {before f g : Filtering} {ran count old new : ℕ} {ordered : Bool} {first last : Option O} → PassesClear limit ordered ran f g count
    → (ordered ≡ false → (h : Hearing) → follows h last last) → HasRunBy follows limit active before f ran old new first last → HasPassed follows limit active before f g count old new first last
run_passed {follows = follows} {limit = limit} {active = active} {before = before} {f = f} {g = g} {ran = ran} {count = count} {old = old} {new = new} {first = first} {last = last} passes hears by =
    let takes = passes.takes in
    let many = takes.many in
    let le : length takes.taken ≤ most_left limit ran = omega (arith, many, takes.within) in
    let some = λ (lt : 0 < length takes.taken). passes.free (subst (λ n. 0 < n) many lt) in
    let all = pass_each f ran takes.taken g.agenda.pending takes.order le passes.bounded (λ lt. (some lt).1) (λ lt. hears (some lt).0) takes.clear by in
    let same : with_pending f g.agenda.pending ≡ g = sym (passes.rest ∙ (λ i. record f { agenda = record { connected = takes.connected i; pending = g.agenda.pending } })) in
    subst (λ (z : Filtering). HasPassed follows limit active before f z count old new first last) same
    (subst (λ n. HasPassed follows limit active before f (with_pending f g.agenda.pending) n old new first last) (ap (λ n. ran + n) many ∙ sym passes.counted) all)

-- an order that is not there hears of anything
pub hears_none : {O : Type 0} (answers : O → List Cid → ℕ → List ℕ → Type 0) (hears : O → Cid → ℕ → List ℕ → Type 0) (state : O → List ℕ) (order : Option O) → is_some order ≡ false → (h : Hearing) → OrderFollows answers hears state h order order
hears_none answers hears state None none h = record { between = None; asked = tt; told = tt }
hears_none answers hears state (Some o) none h = absurd (false≢true (sym none))
