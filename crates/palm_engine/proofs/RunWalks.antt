-- Values of a variable that lack support and go together: each goes as it would alone.
use Rattle.std.proofs.Common.{◌≡◌, ℕ, ◌<◌, ℤ, pos, ◌+ℤ◌, ◌<ℤ◌, ◌≤ℤ◌, List, [], ◌∷◌, ◌++◌, length, Contains, Option, Some, None, IfSome, inl, inr, refl, sym, ap, ◌∙◌, subst, arith, append_assoc}
use Rattle.std.proofs.lemmas.Int.{ints}
use Rattle.palm_base.specs.declared.terms.Pair.{Pair}
use Rattle.palm_base.proofs.cited.Members.{all_members, member_cases, member_here, member_nil, member_there}
use Rattle.palm_domain.specs.Rows.{LosesPair, Row, initial_of, present_of, present_values}
use Rattle.palm_base.specs.declared.terms.Cid.{Cid}
use Rattle.palm_base.specs.declared.terms.Cid.TheVariants.{Decide, Not, User}
use Rattle.palm_events.proofs.cited.States.{form_declared}
use Rattle.palm_model.specs.Constraint.{Distinct, IsFormed, scope}
use Rattle.palm_model.specs.Domains.{Has}
use Rattle.palm_model.specs.Log.{Active, Removal, log_pairs}
use Rattle.palm_model.specs.Reason.{WantsReason, reason}
use Rattle.palm_model.specs.State.{AllFilled, IsOfForm}
use Rattle.palm_model.specs.Support.{LacksSupport}
use Rattle.palm_model.specs.declared.constraint.Con.{Con}
use Rattle.palm_model.proofs.cited.Formed.{well_formed_formed}
use Rattle.palm_model.proofs.cited.Without.{pair_of}
use Rattle.palm_explain.specs.Explanations.{Explanations, IsRunOf, IsRunRemoval}
use Rattle.palm_explain.specs.Moving.{FitsSpan, spans_at}
use Rattle.palm_explain.specs.declared.moving.MovingSpan.{MovingSpan}
use Rattle.palm_engine.specs.declared.filtering.Filtering.{Filtering}
use Rattle.palm_engine.specs.declared.reasons.ReasonRoom.{ReasonRoom}
use Rattle.palm_engine.specs.Advancing.{Advanced, AreInTurn, HasGathered, IsBefore, IsNextAt, TakenFrom}
use Rattle.palm_engine.specs.Changed.{HasLost, HasLostEach, TakesOut}
use Rattle.palm_engine.specs.Reasons.{IsKnown, IsToldBy, Knows, TellsReason}
use Rattle.palm_engine.specs.Revising.{IsRevising, Walked}
use Rattle.palm_engine.proofs.Convex.{taken_more}
use Rattle.palm_engine.proofs.InTurn.{turn_above}
use Rattle.palm_engine.proofs.Keeping.{took_out}
use Rattle.palm_engine.proofs.Knowing.{known_later, known_on, present_ascends, present_inside}
use Rattle.palm_engine.proofs.Progress.{below_or_not, taken_revising, taken_walked, values_filled}
use Rattle.palm_engine.proofs.Revised.{owner_filled, reasons_told, stated}

-- ---- those that stand one after another do so when a lesser one is gone

next_stays : (rows after : List Row) (x : ℕ) (v low : ℤ) (next : Option ℤ) → v <ℤ low → LosesPair rows after x v → IsNextAt next (present_values rows x) low → IsNextAt next (present_values after x) low
next_stays rows after x v low (Some w) lt lost next = record {
  member = let from = next.from in lost.others x w (λ e f. absurd (omega (arith, ints, from, lt, f))) next.member;
  from = next.from;
  least = λ u m ge. next.least u (lost.inside x u m) ge;
}
next_stays rows after x v low None lt lost none = λ w m. none w (lost.inside x w m)

in_turn_stays : (rows after : List Row) (x : ℕ) (v w : ℤ) (rest : List ℤ) (next : Option ℤ) → v ≤ℤ w → LosesPair rows after x v → AreInTurn (present_values rows x) w rest next → AreInTurn (present_values after x) w rest next
in_turn_stays rows after x v w [] next le lost turn = next_stays rows after x v (w +ℤ pos 1) next (omega (arith, ints, le)) lost turn
in_turn_stays rows after x v w (u ∷ rest) next le lost turn =
    let from = turn.0.from in
    (next_stays rows after x v (w +ℤ pos 1) (Some u) (omega (arith, ints, le)) lost turn.0, in_turn_stays rows after x v u rest next (omega (arith, ints, le, from)) lost turn.1)

-- ---- one of them

-- its constraint is formed
form_formed : (n : ℕ) (active : List Active) (cid : Cid) (con : Con) (justification : List Cid) → IsOfForm n active cid con justification → IsFormed n con
form_formed n active (Decide x) con justification form = record {
  declared = all_members (λ y. y < n) (scope con) (form_declared n active (Decide x) con justification form);
  distinct = subst (λ c. Distinct (scope c)) (sym form.1) ((λ m. member_nil x m), tt);
}
form_formed n active (Not p) con justification form = record {
  declared = all_members (λ y. y < n) (scope con) (form_declared n active (Not p) con justification form);
  distinct = subst (λ c. Distinct (scope c)) (sym form.0) ((λ m. member_nil p.var m), tt);
}
form_formed n active (User k) con justification form = well_formed_formed n con form.0

-- its reason is wanted
revising_wants : (f : Filtering) (active : List Active) (owner : Active) (p : Pair) → IsRevising f active owner → AllFilled (present_of f.store) → Has (present_of f.store) p.var p.value → LacksSupport (present_of f.store) owner.con p.var p.value
    → WantsReason (initial_of f.store) (present_of f.store) owner.con p.var p.value
revising_wants f active owner p r filled has lacks = record {
  initial_ascend = r.valid.ascend;
  present_ascend = present_ascends f.store (log_pairs f.log.log) r.kept.removed r.valid.ascend;
  inside = present_inside f.store (log_pairs f.log.log) r.kept.removed;
  formed = form_formed (length (initial_of f.store)) active owner.cid owner.con owner.justification (r.valid.formed owner r.posted).form;
  present_value = has;
  lacks = lacks;
  filled = owner_filled f active owner r filled;
}

-- with another log before and after it is lost alike
relogged : (f : Filtering) (one two : Explanations) (p : Pair) (g : Filtering) → HasLost (record f { log = one }) p g → HasLost (record f { log = two }) p (record g { log = two })
relogged f one two p g lost = record {
  initial = lost.initial;
  present = lost.present;
  loses = lost.loses;
  formed = lost.formed;
  loss = lost.loss;
  told = lost.told;
  connected = lost.connected;
  pending = lost.pending;
  empty = lost.empty;
  log = refl;
  checks = lost.checks;
}

-- ---- all of them

-- how far they were taken out, with their removals
pub record TakenRun (owner : Active) (x : ℕ) (spans : List MovingSpan) (until from next : Option ℤ) (before f : Filtering) (values : List ℤ) (g : Filtering) : Type 0 where
  pub run : List Removal
  pub is : IsRunOf x owner.cid spans f.log.log values run
  pub taken : TakenFrom owner x until from next before (record g { log = record (f.log) { log = f.log.log ++ run } })

-- the first of them is taken out
record FirstTaken (owner : Active) (x : ℕ) (spans : List MovingSpan) (until from : Option ℤ) (before f : Filtering) (v last : ℤ) (rest : List ℤ) (now : Explanations) (g : Filtering) : Type 0 where
  after : Filtering
  own : Removal
  is : IsRunRemoval x owner.cid spans f.log.log v own
  logged : after.log ≡ record (f.log) { log = f.log.log ++ own ∷ [] }
  loses : LosesPair f.store after.store x v
  known : IsKnown after.store owner.con x v last spans
  taken : (n : Option ℤ) → IsNextAt n (present_values after.store x) (v +ℤ pos 1) → TakenFrom owner x until from n before after
  others : HasLostEach (record after { log = now }) x rest g

module _ (owner : Active) (x : ℕ) (over : Contains (scope owner.con) x) (spans : List MovingSpan) (until from next : Option ℤ) (before : Filtering) (active : List Active) (start : Filtering) (last : ℤ) (now : Explanations) where
  first_taken : (f : Filtering) (v : ℤ) (rest : List ℤ) (g : Filtering) → Advanced active owner x from start before → TakenFrom owner x until from (Some v) before f → IsKnown f.store owner.con x v last spans
      → v ≤ℤ last → IsBefore until v → HasLostEach (record f { log = now }) x (v ∷ rest) g → FirstTaken owner x spans until from before f v last rest now g
  first_taken f v rest g w t known upto earlier lost =
      let p : Pair = record { var = x; value = v } in
      let at = t.advanced active start w in
      let r = at.revising in
      let filled = values_filled active owner x v start f at in
      let lacks = t.lacking v at.present (omega (arith, ints)) earlier in
      let wants = revising_wants f active owner p r filled at.present lacks in
      let spanned = reasons_told f active owner p r filled at.present lacks spans spans refl (known.told v (omega (arith, ints)) upto wants) in
      let own : Removal = record { pair = p; by = owner.cid; reasons = stated f owner p } in
      let more : Explanations = record (f.log) { log = f.log.log ++ own ∷ [] } in
      let m = lost.0 in
      let after : Filtering = record m { log = more } in
      let takes : TakesOut f p owner.cid (stated f owner p) after = took_out f more after p owner.cid (stated f owner p) r.kept.removed at.present refl (relogged f now more p m lost.1) in
      let walked : (a : List Active) → IsRevising f a owner → Walked a owner (pair_of x v ∷ []) f after = λ a q. taken_walked a owner p f after owner.cid (stated f owner p) q filled at.present lacks over refl refl takes in
      let revising : (a : List Active) → IsRevising f a owner → IsRevising after a owner = λ a q. taken_revising a owner p f after owner.cid (stated f owner p) q filled at.present lacks over refl refl takes in
      record {
        after = after;
        own = own;
        is = record { paired = refl; made = refl; resting = spanned };
        logged = refl;
        loses = takes.loses;
        known = known_on f active owner p owner.cid (stated f owner p) after last spans r takes known;
        taken = λ n is_next. taken_more owner x v until from n before f after t walked revising takes.loses takes.checks is_next (active, start, w);
        others = subst (λ z. HasLostEach z x rest g) (ap (λ (l : Explanations). let z : Filtering = record m { log = l } in z) lost.1.log) lost.2;
      }

  pub run_taken : (f : Filtering) (v : ℤ) (rest : List ℤ) (g : Filtering) → Advanced active owner x from start before → TakenFrom owner x until from (Some v) before f → IsKnown f.store owner.con x v last spans
      → ((w : ℤ) → Contains (v ∷ rest) w → (w ≤ℤ last) × IsBefore until w) → AreInTurn (present_values f.store x) v rest next → HasLostEach (record f { log = now }) x (v ∷ rest) g → TakenRun owner x spans until from next before f (v ∷ rest) g
  run_taken f v [] g w t known each turn lost =
      let first = each v (member_here v []) in
      let s = first_taken f v [] g w t known first.0 first.1 lost in
      let more : Explanations = record (f.log) { log = f.log.log ++ s.own ∷ [] } in
      let same : (let z : Filtering = record g { log = more } in z) ≡ s.after =
      ap (λ (h : Filtering). let z : Filtering = record h { log = more } in z) s.others ∙ ap (λ (l : Explanations). let z : Filtering = record (s.after) { log = l } in z) (sym s.logged) in
      record {
        run = s.own ∷ [];
        is = (s.is, tt);
        taken = subst (TakenFrom owner x until from next before) (sym same) (s.taken next (next_stays f.store s.after.store x v (v +ℤ pos 1) next (omega (arith, ints)) s.loses turn));
      }
  run_taken f v (u ∷ rest) g w t known each turn lost =
      let first = each v (member_here v (u ∷ rest)) in
      let s = first_taken f v (u ∷ rest) g w t known first.0 first.1 lost in
      let above = turn.0.from in
      let le : v ≤ℤ u = omega (arith, ints, above) in
      let others = run_taken s.after u rest g w (s.taken (Some u) (next_stays f.store s.after.store x v (v +ℤ pos 1) (Some u) (omega (arith, ints)) s.loses turn.0)) (known_later s.after.store owner.con x v u last spans le s.known)
      (λ z n. each z (member_there v (u ∷ rest) z n)) (in_turn_stays f.store s.after.store x v u rest next le s.loses turn.1) s.others in
      let log = ap (λ (l : Explanations). let z : Explanations = record l { log = l.log ++ others.run } in z) s.logged ∙ ap (λ (k : List Removal). let z : Explanations = record (f.log) { log = k } in z) (append_assoc f.log.log (s.own ∷ []) others.run) in
      record {
        run = s.own ∷ others.run;
        is = (s.is, subst (λ (l : Explanations). IsRunOf x owner.cid spans l.log (u ∷ rest) others.run) s.logged others.is);
        taken = subst (λ (l : Explanations). TakenFrom owner x until from next before (record g { log = l })) log others.taken;
      }

-- ---- what a room has gathered

-- the spans are known to stand for the reasons of all of these values
pub record KnowsRun (rows : List Row) (c : Con) (x : ℕ) (v : ℤ) (rest : List ℤ) (spans : List MovingSpan) : Type 0 where
  pub last : ℤ
  pub known : IsKnown rows c x v last spans
  pub upto : (w : ℤ) → Contains (v ∷ rest) w → (v ≤ℤ w) × (w ≤ℤ last)

alone_known : (rows : List Row) (c : Con) (x : ℕ) (v : ℤ) (spans : List MovingSpan) → TellsReason rows c (record { var = x; value = v }) spans → IsKnown rows c x v v spans
alone_known rows c x v spans tells = record {
  told = λ w ge le wants. let same : v ≡ w = omega (arith, ints, ge, le) in subst (λ u. IsToldBy (initial_of rows) (reason (initial_of rows) (present_of rows) c x u) (spans_at spans u)) same tells.told;
  fits = λ w ge le. let same : v ≡ w = omega (arith, ints, ge, le) in subst (λ u. (s : MovingSpan) → Contains spans s → FitsSpan s u) same tells.fits;
}

same_last : (m n : ℤ) → Some m ≡ Some n → m ≡ n
same_last m n e = cc

none_last : {X : Type 0} (n : ℤ) → None ≡ Some n → X
none_last n e = cc

pub gathered_known : (rows : List Row) (c : Con) (x : ℕ) (v : ℤ) (here : List ℤ) (next until : Option ℤ) (room more : ReasonRoom) → TellsReason rows c (record { var = x; value = v }) room.spans.items → Knows rows c x v room → more.known ≡ room.known
    → (g : HasGathered here v next until more) → KnowsRun rows c x v g.rest room.spans.items
gathered_known rows c x v here next until room more tells knows same g = from room.known refl
  where
    above : (w : ℤ) → Contains g.rest w → v <ℤ w
    above w m = (turn_above here v g.rest next g.turn w m).0

    from : (o : Option ℤ) → room.known ≡ o → KnowsRun rows c x v g.rest room.spans.items
    from None is = record {
      last = v;
      known = alone_known rows c x v room.spans.items tells;
      upto = λ w m. elim (member_cases v g.rest w m) [
        | inl e ↦ (omega (arith, ints, e), omega (arith, ints, e))
        | inr k ↦ let covers = g.covered w k in none_last covers.0 (sym is ∙ sym same ∙ covers.1)
      ];
    }
    from (Some l) is = elim (below_or_not l v) [
      | inl lt ↦ record {
        last = v;
        known = alone_known rows c x v room.spans.items tells;
        upto = λ w m. elim (member_cases v g.rest w m) [
          | inl e ↦ (omega (arith, ints, e), omega (arith, ints, e))
          | inr k ↦
              let covers = g.covered w k in
              let le = covers.2 in
              let it = same_last l covers.0 (sym is ∙ sym same ∙ covers.1) in
              let more_than = above w k in absurd (omega (arith, ints, le, it, lt, more_than))
        ];
      }
      | inr le ↦ record {
        last = l;
        known = subst (λ (z : Option ℤ). IfSome z (λ last. IsKnown rows c x v last room.spans.items)) is knows;
        upto = λ w m. elim (member_cases v g.rest w m) [
          | inl e ↦ (omega (arith, ints, e), omega (arith, ints, e, le))
          | inr k ↦
              let covers = g.covered w k in
              let upto = covers.2 in
              let it = same_last l covers.0 (sym is ∙ sym same ∙ covers.1) in
              let more_than = above w k in (omega (arith, ints, more_than), omega (arith, ints, upto, it))
        ];
      }
    ]
