-- The values that the marks leave out have support: after a withdrawal, a posting and a declaration.
use Rattle.std.proofs.Common.{◌≡◌, ℕ, not, List, [], ◌∷◌, map, length, slice_get, Contains, Some, inl, inr, sym, ap, ◌∙◌, subst, ℤ}
use Rattle.std.proofs.lemmas.Option.{slice_get_within, get_or_from_slice_get}
use Rattle.palm_base.specs.declared.terms.Cid.{Cid}
use Rattle.palm_base.proofs.cited.Members.{member_unmap, filter_member, nat_known}
use Rattle.palm_model.specs.Constraint.{scope}
use Rattle.palm_model.specs.Domains.{Domains, Has, IsInside}
use Rattle.palm_model.specs.Support.{IsSupported}
use Rattle.palm_base.specs.Order.{Rises}
use Rattle.palm_model.specs.Log.{Active, IsActive, cids_of, is_named}
use Rattle.palm_model.specs.Event.{with_posted, without_cids}
use Rattle.palm_model.specs.declared.constraint.Con.{Con}
use Rattle.palm_model.proofs.cited.Formed.{part_scope}
use Rattle.palm_model.proofs.cited.Without.{pair_of}
use Rattle.palm_events.proofs.cited.States.{with_posted_cases, without_cids_member}
use Rattle.palm_explain.specs.declared.restored.Restored.{Restored}
use Rattle.palm_explain.specs.Explanations.{IsSpanned}
use Rattle.palm_filter.specs.declared.heed.Heed.{Heed}
use Rattle.palm_agenda.specs.Agenda.{Connected, marked_whole, with_connected, without_connected}
use Rattle.palm_engine.specs.Kept.{AreConnected, AreMarked}
use Rattle.palm_engine.specs.Changed.{widened_by}
use Rattle.palm_engine.proofs.Plain.{IsPlain, not_plain, plain_widened}
use Rattle.palm_engine.proofs.Scopes.{bare_widened, connected_known, scope_of_owner, with_connected_cases}

-- the variable of a place is in the scope
pub place_over : (scope : List ℕ) (k x : ℕ) → slice_get scope k ≡ Some x → Contains scope x
place_over scope k x e = (k, slice_get_within scope k x e, get_or_from_slice_get scope k x x e)

-- ---- support

-- support of a value of y stays where the other variables of the scope keep their values
pub supported_still : (d e : Domains) (c : Con) (y : ℕ) (w : ℤ) → Has e y w → ((z : ℕ) (u : ℤ) → Contains (scope c) z → (z ≡ y → ⊥) → Has d z u → Has e z u) → IsSupported d c y w → IsSupported e c y w
supported_still d e c y w has others supported = record {
  each = λ p m over.
      let s = supported.each p m over in
      record {
        assignment = s.assignment;
        within = λ z n. elim (nat_known z y) [
          | inl at ↦ subst (λ q. Has e q (s.assignment q)) (sym at) (subst (λ u. Has e y u) (sym s.gives) has)
          | inr ne ↦ others z (s.assignment z) (part_scope c p z m n) ne (s.within z n)
        ];
        gives = s.gives;
        holds = s.holds;
      };
}

-- ---- after a constraint went and values were put back

pub restored_marked : (active : List Active) (connected : List Connected) (d e : Domains) (cid : Cid) (entries : List Restored)
    → IsInside d e → ((z : ℕ) (u : ℤ) → (IsSpanned entries (pair_of z u) → ⊥) → Has e z u → Has d z u)
    → AreMarked d active connected → AreMarked e (without_cids (cid ∷ []) active) (map (widened_by entries) (without_connected cid connected))
restored_marked active connected d e cid entries grows only marked a c k y mark w am cm named var is_mark plain has =
    let r = member_unmap (widened_by entries) (without_connected cid connected) c cm in
    let listed = (filter_member (λ (d : Connected). not (is_named (cid ∷ []) d.cid)) connected r.0 r.1).0 in
    let was : r.0.cid ≡ a.cid = ap (λ (d : Connected). d.cid) (sym (bare_widened entries r.0)) ∙ ap (λ (d : Connected). d.cid) r.2 ∙ named in
    let is : IsPlain (widened_by entries r.0) k y w = subst (λ z. IsPlain z k y w) (sym r.2) (record { var = var; mark = mark; marked = is_mark; plain = plain }) in
    let o = plain_widened entries r.0 k y w is in
    supported_still d e a.con y w has (λ z u over ne had. grows z u had)
    (marked a r.0 k y o.0.mark w (without_cids_member (cid ∷ []) active a am).0 listed was o.0.var o.0.marked o.0.plain
    (only y w (λ spanned. o.1 spanned.0 spanned.1 spanned.2 spanned.3 spanned.4) has))

-- ---- with one more constraint, marked whole

pub posted_marked : (active : List Active) (connected : List Connected) (d : Domains) (a : Active) (heeds : List Heed) → AreConnected active connected → (IsActive active a.cid → ⊥)
    → AreMarked d active connected → AreMarked d (with_posted a active) (with_connected (marked_whole a.cid (scope a.con) heeds) connected)
posted_marked active connected d a heeds are inactive marked b c k y mark w bm cm named var is_mark plain has =
    elim (with_connected_cases (marked_whole a.cid (scope a.con) heeds) connected c cm) [
      | inl e ↦ absurd (not_plain (length (scope a.con)) k y w c (ap (λ (f : Connected). f.marks) (sym e)) (record { var = var; mark = mark; marked = is_mark; plain = plain }))
      | inr m ↦ elim (with_posted_cases a active b bm) [
        | inr n ↦ marked b c k y mark w n m named var is_mark plain has
        | inl e ↦
            let o = connected_known active connected are c m in
            absurd (inactive (record { owner = o.owner; posted = o.posted; named = o.named ∙ named ∙ ap (λ (f : Active). f.cid) (sym e) }))
      ]
    ]

-- ---- domains that agree on every scope

pub agreeing_marked : (active : List Active) (connected : List Connected) (d e : Domains) → Rises (cids_of active) → AreConnected active connected
    → ((a : Active) (z : ℕ) (u : ℤ) → Contains active a → Contains (scope a.con) z → Has d z u → Has e z u)
    → ((a : Active) (z : ℕ) (u : ℤ) → Contains active a → Contains (scope a.con) z → Has e z u → Has d z u)
    → AreMarked d active connected → AreMarked e active connected
agreeing_marked active connected d e rises are there back marked a c k y mark w am cm named var is_mark plain has =
    let over : Contains (scope a.con) y = subst (λ s. Contains s y) (scope_of_owner active connected rises are a c am cm named) (place_over c.scope k y var) in
    supported_still d e a.con y w has (λ z u o ne had. there a z u am o had) (marked a c k y mark w am cm named var is_mark plain (back a y w am over has))
