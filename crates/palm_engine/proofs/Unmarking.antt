-- Marks: they stay right after a removal, and after a place was walked over.
use Rattle.std.proofs.Common.{◌≡◌, ℕ, Bool, true, false, not, if◌then◌else◌, List, map, Contains, ℤ, ◌+ℤ◌, Some, slice_get, inl, inr, refl, sym, ap, ◌∙◌, subst, arith}
use Rattle.std.specs.Prelude.{◌-ℤ◌, ◌||◌, int_lt, pos}
use Rattle.std.proofs.lemmas.Bool.{false≢true}
use Rattle.std.proofs.lemmas.Int.{ints}
use Rattle.palm_base.specs.declared.terms.Pair.{Pair}
use Rattle.palm_base.specs.declared.terms.Cid.{Cid}
use Rattle.palm_base.proofs.cited.Members.{member_get, member_map, member_unmap, member_same}
use Rattle.palm_base.proofs.cited.Telling.{tells_true}
use Rattle.palm_model.specs.Domains.{Domains, Has}
use Rattle.palm_model.specs.Constraint.{scope}
use Rattle.palm_model.specs.Support.{IsSupported}
use Rattle.palm_base.specs.Order.{Rises}
use Rattle.palm_model.specs.Log.{Active, cids_of}
use Rattle.palm_model.specs.declared.constraint.Con.{Con}
use Rattle.palm_model.proofs.cited.Without.{pair_of}
use Rattle.palm_events.proofs.cited.Names.{single}
use Rattle.palm_filter.specs.declared.heed.Heed.{Heed}
use Rattle.palm_filter.specs.declared.heed.Heed.TheVariants.{Each, Least, Greatest, Ends, Alone, Shifted}
use Rattle.palm_filter.specs.Heeds.{IsHeeded, KeepsAt, Loses}
use Rattle.palm_agenda.specs.declared.loss.Loss.{Loss}
use Rattle.palm_agenda.specs.declared.mark.Mark.{Mark}
use Rattle.palm_agenda.specs.declared.mark.Mark.TheVariants.{Whole}
use Rattle.palm_agenda.specs.Agenda.{Connected, mark_others, changed_at, unmarked}
use Rattle.palm_agenda.specs.Losses.{heed_of, mark_after}
use Rattle.palm_agenda.specs.Marks.{MayLack, widened}
use Rattle.palm_engine.specs.Changed.{TellsLoss}
use Rattle.palm_engine.specs.Kept.{AreConnected, AreHeeded, AreMarked, Scoped}
use Rattle.palm_engine.proofs.Plain.{IsPlain, plain_others, plain_unmarked, widened_holds}
use Rattle.palm_engine.proofs.Scopes.{bare, bare_others, bare_unmarked}
use Rattle.palm_engine.proofs.Staying.{support_stays}

-- ---- the agenda's constraints are the active ones

abbrev scoped : Connected → Scoped
scoped d = record { cid = d.cid; scope = d.scope }

abbrev scoped_active : Active → Scoped
scoped_active a = record { cid = a.cid; scope = scope a.con }

-- a connected constraint is active
pub connected_active : (active : List Active) (connected : List Connected) → AreConnected active connected → (c : Connected) → Contains connected c → (a : Active) × Contains active a × (a.cid ≡ c.cid) × (scope a.con ≡ c.scope)
connected_active active connected same c m =
    let there = subst (λ l. Contains l (scoped c)) same (member_map scoped connected c m) in
    let r = member_unmap scoped_active active (scoped c) there in
    (r.0, r.1, ap (λ (q : Scoped). q.cid) r.2, ap (λ (q : Scoped). q.scope) r.2)

-- and an active one is connected
pub active_connected : (active : List Active) (connected : List Connected) → AreConnected active connected → (a : Active) → Contains active a → (c : Connected) × Contains connected c × (c.cid ≡ a.cid) × (c.scope ≡ scope a.con)
active_connected active connected same a m =
    let there = subst (λ l. Contains l (scoped_active a)) (sym same) (member_map scoped_active active a m) in
    let r = member_unmap scoped connected (scoped_active a) there in
    (r.0, r.1, ap (λ (q : Scoped). q.cid) r.2, ap (λ (q : Scoped). q.scope) r.2)

pub connected_scope : (active : List Active) (connected : List Connected) → Rises (cids_of active) → AreConnected active connected → (a : Active) (c : Connected) → Contains active a → Contains connected c → c.cid ≡ a.cid → scope a.con ≡ c.scope
connected_scope active connected rises same a c m n named =
    let r = connected_active active connected same c n in
    let e : r.0 ≡ a = single active rises r.0 a r.1 m (r.2 ∙ named) in
    ap (λ (b : Active). scope b.con) (sym e) ∙ r.3

-- ---- a removal marks the other places as the constraint heeds the loss

-- a mark that is made whole under a test leaves a value out where the test fails
left_out : (b : Bool) (m : Mark) (v : ℤ) → (MayLack (if b then Whole else m) v → ⊥) → b ≡ false
left_out true m v out = absurd (out tt)
left_out false m v out = refl

not_false : (b : Bool) → not b ≡ false → b ≡ true
not_false true e = refl
not_false false e = absurd (false≢true (sym e))

either_false : (b c : Bool) → (b || c) ≡ false → (b ≡ false) × (c ≡ false)
either_false true c e = absurd (false≢true (sym e))
either_false false c e = (refl, e)

-- nor is it the only value that the mark is widened by
shifted_other : (b : Bool) (w : ℤ) (m : Mark) (v : ℤ) → (MayLack (if b then Whole else widened w w m) v → ⊥) → v ≡ w → ⊥
shifted_other true w m v out e = out tt
shifted_other false w m v out e = out (widened_holds w w m v (omega (arith, ints, e)) (omega (arith, ints, e)))

-- a value that is marked nowhere after the loss keeps its support, where the constraint heeds losses so
pub spared_keeps : (h : Heed) (c : Con) (d e : Domains) (p : Pair) (loss : Loss) (m : Mark) (y : ℕ) (w : ℤ) → IsHeeded c p.var h → Loses d e p.var p.value → TellsLoss e p loss
    → (MayLack (mark_after h loss m) w → ⊥) → KeepsAt c d e p.var y w
spared_keeps Each c d e p loss m y w heeded loses told out = absurd (out tt)
spared_keeps Least c d e p loss m y w heeded loses told out =
    heeded d e p.value loses (tells_true _ loss.below told.below (not_false loss.below (left_out (not loss.below) m w out))) y w
spared_keeps Greatest c d e p loss m y w heeded loses told out =
    heeded d e p.value loses (tells_true _ loss.above told.above (not_false loss.above (left_out (not loss.above) m w out))) y w
spared_keeps Ends c d e p loss m y w heeded loses told out =
    let both = either_false (not loss.below) (not loss.above) (left_out (not loss.below || not loss.above) m w out) in
    heeded d e p.value loses (tells_true _ loss.below told.below (not_false loss.below both.0)) (tells_true _ loss.above told.above (not_false loss.above both.1)) y w
spared_keeps Alone c d e p loss m y w heeded loses told out =
    heeded d e p.value loses (tells_true _ loss.several told.several (not_false loss.several (left_out (not loss.several) m w out))) y w
spared_keeps (Shifted by) c d e p loss m y w heeded loses told out =
    let v = loss.value +ℤ by in
    heeded d e p.value loses y w
    (λ same. shifted_other (int_lt v (pos 0 -ℤ pos 2147483648) || int_lt (pos 2147483647) v) v m w out (same ∙ ap (λ n. n +ℤ by) (sym told.value)))

pub marked_removed : (d e : Domains) (active : List Active) (connected : List Connected) (p : Pair) (loss : Loss) → Rises (cids_of active) → AreConnected active connected → AreHeeded active connected
    → Loses d e p.var p.value → TellsLoss e p loss → AreMarked d active connected → AreMarked e active (map (mark_others p.var loss) connected)
marked_removed d e active connected p loss rises same heeded loses told marked a c k y mark w m n named at is_mark plain has =
    let x = p.var in
    let r = member_unmap (mark_others x loss) connected c n in
    let name : r.0.cid ≡ a.cid = ap (λ (b : Connected). b.cid) (sym (bare_others x loss r.0) ∙ ap bare r.2) ∙ named in
    let is : IsPlain (mark_others x loss r.0) k y w = subst (λ b. IsPlain b k y w) (sym r.2) (record { var = at; mark = mark; marked = is_mark; plain = plain }) in
    let o = plain_others x loss r.0 k y w is in
    let vars = connected_scope active connected rises same a r.0 m r.1 name in
    let supported = marked a r.0 k y o.0.mark w m r.1 name o.0.var o.0.marked o.0.plain (loses.inside y w has) in
    elim o.1 [
      | inl own ↦
          support_stays d e a.con x p.value y w
          (λ z u other had. loses.stay z u (λ first second. other (λ i. pair_of (sym first i) (sym second i))) had)
          (λ z over is. is ∙ sym (own (member_same r.0.scope z x is (subst (λ l. Contains l z) vars over))))
          (λ is. loses.gone (subst (λ (q : Pair). Has e q.var q.value) (sym is) has)) supported
      | inr spared ↦
          let fit = heeded a r.0 m r.1 name x (subst (λ l. Contains l x) (sym vars) spared.over) in
          let out : MayLack (mark_after (heed_of x (scope a.con) r.0.heeds) loss spared.was) w → ⊥ =
          subst (λ l. MayLack (mark_after (heed_of x l r.0.heeds) loss spared.was) w → ⊥) (sym vars) spared.out in
          let over = subst (λ l. Contains l y) (sym vars) (member_get r.0.scope k y o.0.var) in
          spared_keeps (heed_of x (scope a.con) r.0.heeds) a.con d e p loss spared.was y w fit loses told out over spared.other has supported
    ]

-- ---- a place was walked over

-- the constraint under the id without the mark at the place
abbrev pub unmark : Cid → ℕ → Connected → Connected
unmark cid place d = changed_at cid (unmarked place) d

pub marked_walked : (d : Domains) (active : List Active) (connected : List Connected) (owner : Active) (place x : ℕ) → Rises (cids_of active) → AreConnected active connected → Contains active owner
    → slice_get (scope owner.con) place ≡ Some x → ((v : ℤ) → Has d x v → IsSupported d owner.con x v)
    → AreMarked d active connected → AreMarked d active (map (unmark owner.cid place) connected)
marked_walked d active connected owner place x rises same posted here supported marked a c k y mark w m n named at is_mark plain has =
    let r = member_unmap (unmark owner.cid place) connected c n in
    let was : bare r.0 ≡ bare c = sym (bare_unmarked owner.cid place r.0) ∙ ap bare r.2 in
    let name : r.0.cid ≡ a.cid = ap (λ (b : Connected). b.cid) was ∙ named in
    let at' : slice_get r.0.scope k ≡ Some y = ap (λ (b : Connected). slice_get b.scope k) was ∙ at in
    let is : IsPlain (unmark owner.cid place r.0) k y w = subst (λ b. IsPlain b k y w) (sym r.2) (record { var = at; mark = mark; marked = is_mark; plain = plain }) in
    elim (plain_unmarked owner.cid place r.0 k y w is) [
      | inl was ↦ marked a r.0 k y was.mark w m r.1 name was.var was.marked was.plain has
      | inr it ↦
          let e : owner ≡ a = single active rises owner a posted m (sym it.0 ∙ name) in
          let vars = connected_scope active connected rises same a r.0 m r.1 name in
          let at_a : slice_get (scope a.con) place ≡ Some x = ap (λ (b : Active). slice_get (scope b.con) place) (sym e) ∙ here in
          let both : Some x ≡ Some y = sym at_a ∙ ap (λ l. slice_get l place) vars ∙ ap (λ i. slice_get r.0.scope i) (sym it.1) ∙ at' in
          let var : x ≡ y = cc in
          let has_x : Has d x w = subst (λ z. Has d z w) (sym var) has in
          subst (λ z. IsSupported d a.con z w) var (subst (λ (b : Active). IsSupported d b.con x w) e (supported w has_x))
    ]
