-- The two constraints of the tests, through the calls that keep them.
use Rattle.std.proofs.Common.{◌≡◌, ℕ, ℤ, nat_eq, ◌<◌, Bool, true, false, if◌then◌else◌, not, List, [], ◌∷◌, length, map, slice_get, Some, refl, sym, subst}
use Rattle.palm_base.specs.declared.terms.Cid.{Cid}
use Rattle.palm_base.specs.declared.terms.Cid.TheVariants.{Decide, User}
use Rattle.palm_base.proofs.cited.Members.{member_here, member_there}
use Rattle.palm_filter.specs.declared.heed.Heed.{Heed}
use Rattle.palm_agenda.specs.Agenda.{Connected, HasPlace, IsConnected, IsStanding, changed_where, is_over, mark_others, mark_own, marked_whole}
use Rattle.palm_agenda.specs.Losses.{heed_of, mark_after}
use Rattle.palm_agenda.specs.Marks.{widened}
use Rattle.palm_agenda.specs.declared.loss.Loss.{Loss}
use Rattle.palm_agenda.specs.declared.taken.Taken.{Taken}
use Rattle.palm_agenda.proofs.cited.Connecting.{named_stands, stands_named}
use Rattle.palm_agenda.proofs.cited.Keeping.{KeepsScopes, cids_kept, connected_kept, place_kept}
use Rattle.palm_agenda.proofs.cited.Marking.{marks_length}

abbrev pub decision_con : List Heed → Connected
decision_con heeds = marked_whole (Decide 2) (2 ∷ []) heeds

abbrev pub user_con : List Heed → Connected
user_con heeds = marked_whole (User 70000) (0 ∷ 1 ∷ 0 ∷ []) heeds

abbrev pub taken_decision : Taken
taken_decision = record { cid = Decide 2; at = 0 }

abbrev pub taken_user : Taken
taken_user = record { cid = User 70000; at = 1 }

pub two_decision : (connected : List Connected) (some others : List Heed) → connected ≡ decision_con some ∷ user_con others ∷ [] → IsStanding connected taken_decision
two_decision connected some others is = subst (λ (cs : List Connected). IsStanding cs taken_decision) (sym is) refl

pub two_user : (connected : List Connected) (some others : List Heed) → connected ≡ decision_con some ∷ user_con others ∷ [] → IsStanding connected taken_user
two_user connected some others is = subst (λ (cs : List Connected). IsStanding cs taken_user) (sym is) refl

pub two_places : (connected : List Connected) (some others : List Heed) → connected ≡ decision_con some ∷ user_con others ∷ [] → (place : ℕ) → place < 3 → HasPlace connected (User 70000) place
two_places connected some others is place lt =
    let user = user_con others in
    subst (λ (cs : List Connected). HasPlace cs (User 70000) place) (sym is)
    (record { owner = user; listed = member_there (decision_con some) (user ∷ []) user (member_here user []); named = refl; within = lt })

pub keeps_own : (x : ℕ) (low high : ℤ) → KeepsScopes (mark_own x low high)
keeps_own x low high = record { cid = λ d. refl; scope = λ d. refl; heeds = λ d. refl; many = λ d. marks_length (λ y. nat_eq y x) (widened low high) d.scope d.marks }

if_viewed : {X : Type 0} (view : Connected → X) (test : Bool) (changed d : Connected) → view changed ≡ view d → view (if test then changed else d) ≡ view d
if_viewed view true changed d e = e
if_viewed view false changed d e = refl

pub keeps_others : (x : ℕ) (loss : Loss) → KeepsScopes (mark_others x loss)
keeps_others x loss =
    let others = λ (y : ℕ). not (nat_eq y x) in
    let change = λ (d : Connected). mark_after (heed_of x d.scope d.heeds) loss in
    let changed = λ (d : Connected). changed_where others (change d) d in
    record {
      cid = λ d. if_viewed (λ (c : Connected). c.cid) (is_over x d) (changed d) d refl;
      scope = λ d. if_viewed (λ (c : Connected). c.scope) (is_over x d) (changed d) d refl;
      heeds = λ d. if_viewed (λ (c : Connected). c.heeds) (is_over x d) (changed d) d refl;
      many = λ d. if_viewed (λ (c : Connected). length c.marks) (is_over x d) (changed d) d (marks_length others (change d) d.scope d.marks);
    }

pub connected_after : (f : Connected → Connected) → KeepsScopes f → (connected after : List Connected) → after ≡ map f connected → (cid : Cid) → IsConnected connected cid → IsConnected after cid
connected_after f keeps connected after is cid there = subst (λ (cs : List Connected). IsConnected cs cid) (sym is) (connected_kept f keeps connected cid there)

pub place_after : (f : Connected → Connected) → KeepsScopes f → (connected after : List Connected) → after ≡ map f connected → (cid : Cid) → (place : ℕ) → HasPlace connected cid place → HasPlace after cid place
place_after f keeps connected after is cid place there = subst (λ (cs : List Connected). HasPlace cs cid place) (sym is) (place_kept f keeps connected cid place there)

pub standing_after : (f : Connected → Connected) → KeepsScopes f → (connected after : List Connected) → after ≡ map f connected → (taken : Taken) → IsStanding connected taken → IsStanding after taken
standing_after f keeps connected after is taken there =
    subst (λ (cs : List Connected). IsStanding cs taken) (sym is)
    (named_stands (λ (d : Connected). d.cid) (map f connected) taken.at taken.cid
    (subst (λ (cids : List Cid). slice_get cids taken.at ≡ Some taken.cid) (sym (cids_kept f keeps connected)) (stands_named (λ (d : Connected). d.cid) connected taken.at taken.cid there)))

-- the decision stays connected where losses of both variables of the other wake it, one after the other
pub woken_twice : (loss more : Loss) (before woken taken again last : List Connected) → woken ≡ map (mark_others 0 loss) before → taken ≡ woken → again ≡ map (mark_others 1 more) taken → last ≡ again
    → IsConnected before (Decide 2) → IsConnected last (Decide 2)
woken_twice loss more before woken taken again last wakes takes wakes_again takes_again there =
    let first = connected_after (mark_others 0 loss) (keeps_others 0 loss) before woken wakes (Decide 2) there in
    let second = subst (λ (cs : List Connected). IsConnected cs (Decide 2)) (sym takes) first in
    let third = connected_after (mark_others 1 more) (keeps_others 1 more) taken again wakes_again (Decide 2) second in
    subst (λ (cs : List Connected). IsConnected cs (Decide 2)) (sym takes_again) third
