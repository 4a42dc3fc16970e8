-- A constraint of which no place is marked: each value has support, and a walk takes nothing out.
use Rattle.std.proofs.Common.{◌≡◌, ℕ, ◌<◌, List, length, All, Contains, Some, slice_get, refl, sym, ap, ◌∙◌, subst}
use Rattle.std.proofs.lemmas.List.Elements.{All-contains}
use Rattle.std.proofs.lemmas.Option.{slice_get-get_or}
use Rattle.palm_base.specs.declared.terms.Pair.{Pair}
use Rattle.palm_base.specs.declared.terms.Cid.{Cid}
use Rattle.palm_base.proofs.cited.Members.{flat_map_member, member_unmap}
use Rattle.palm_domain.specs.Rows.{initial_of}
use Rattle.palm_model.specs.Domains.{Has, values_of}
use Rattle.palm_model.specs.Constraint.{scope}
use Rattle.palm_model.specs.Log.{Active}
use Rattle.palm_model.specs.Removed.{pairs_of}
use Rattle.palm_model.specs.Support.{IsSupported}
use Rattle.palm_model.proofs.cited.Without.{pair_of}
use Rattle.palm_agenda.specs.declared.mark.Mark.TheVariants.{Clear}
use Rattle.palm_agenda.specs.Agenda.{Connected, HasMarks}
use Rattle.palm_engine.specs.declared.filtering.Filtering.{Filtering}
use Rattle.palm_engine.specs.Kept.{state_in_revision}
use Rattle.palm_engine.specs.Revising.{AreSupportedAt, IsRevising, Walked}
use Rattle.palm_engine.specs.Settling.{walk_order}
use Rattle.palm_engine.proofs.Joined.{walk_past}
use Rattle.palm_engine.proofs.Places.{mark_supported}
use Rattle.palm_engine.proofs.Revised.{present_is}
use Rattle.palm_engine.proofs.Unmarking.{connected_scope}

-- none of its marks is there
abbrev pub IsClear : Filtering → Cid → Type 0
IsClear f cid = (d : Connected) → Contains f.agenda.connected d → d.cid ≡ cid → All (λ mark. mark ≡ Clear) d.marks

-- the values of each of its variables have support
clear_supported : (f : Filtering) (active : List Active) (owner : Active) (x : ℕ) → IsRevising f active owner → IsClear f owner.cid → Contains (scope owner.con) x → AreSupportedAt f owner x
clear_supported f active owner x r clear over v has =
    let place = over.0 in
    let at : slice_get (scope owner.con) place ≡ Some x = slice_get-get_or (scope owner.con) place x over.1 ∙ ap Some over.2 in
    mark_supported f active owner place x Clear r at (λ d m named.
    let c = connected_scope active f.agenda.connected r.valid.rising r.kept.connected owner d r.posted m named in
    let many : length d.marks ≡ length (scope owner.con) = All-contains HasMarks f.agenda.connected d r.kept.formed.marks m ∙ ap length (sym c) in
    let within : place < length d.marks = subst (λ n. place < n) (sym many) over.1 in
    slice_get-get_or d.marks place Clear within ∙ ap Some (clear d m named place Clear within)) v has (λ may. may)

-- the walk over its pairs takes nothing out
pub clear_walked : (f : Filtering) (active : List Active) (owner : Active) → IsRevising f active owner → IsClear f owner.cid → Walked active owner (walk_order (initial_of f.store) owner.con) f f
clear_walked f active owner r clear =
    let initial = initial_of f.store in
    let e = present_is f active owner.cid r.kept in
    record {
      removed = 0;
      walk = walk_past owner (walk_order initial owner.con) (state_in_revision f active owner.cid) (λ p m has.
          let s = flat_map_member (λ x. pairs_of x (values_of initial x)) (scope owner.con) p m in
          let q = member_unmap (λ v. pair_of s.0 v) (values_of initial s.0) p s.2 in
          let over = subst (λ (o : Pair). Contains (scope owner.con) o.var) q.2 s.1 in
          subst (λ d. IsSupported d owner.con p.var p.value) (sym e) (clear_supported f active owner p.var r clear over p.value (subst (λ d. Has d p.var p.value) e has)));
      again = refl;
    }

pub clear_none : (f : Filtering) (active : List Active) (owner : Active) (r : IsRevising f active owner) (clear : IsClear f owner.cid) → 0 ≡ (clear_walked f active owner r clear).removed
unfolding clear_walked
clear_none f active owner r clear = refl
