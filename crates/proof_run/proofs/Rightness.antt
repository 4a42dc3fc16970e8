-- The lemma of a flat conflict is right: each of its steps is by a constraint of the book, by one of its decisions or by an
-- earlier lemma, they prove each value of the emptied variable, and its users are those that they use.
use Rattle.std.proofs.Common.{option_map, ◌≡◌, ℕ, ℤ, ◌-◌, ◌≤◌, Bool, true, false, cond, Some, List, [], ◌∷◌, ◌++◌, length, map, filter, Contains, slice_get, inl, inr, refl, sym, ap, ◌∙◌, subst, arith}
use Rattle.std.proofs.lemmas.List.{length-map}
use Rattle.std.proofs.lemmas.List.Elements.{All-contains, Contains-append_right}
use Rattle.std.proofs.lemmas.Option.{same_Some, slice_get-map}
use Rattle.palm_base.specs.declared.terms.Pair.{Pair}
use Rattle.palm_base.specs.declared.terms.Cid.{Cid}
use Rattle.palm_base.specs.declared.terms.Cid.TheVariants.{Decide, Not, User}
use Rattle.palm_base.proofs.cited.Members.{filter_member, int_known, member_filter, member_here, member_map, member_same, member_unmap}
use Rattle.palm_book.specs.Book.{Contents, IsBook, user_name, values_at}
use Rattle.palm_book.specs.declared.book.BookCon.{BookCon}
use Rattle.palm_claim.specs.Step.{IsAssumed, IsOfLemma}
use Rattle.palm_events.proofs.cited.Names.{member_named, single}
use Rattle.palm_explain.specs.Explanations.{IsLinked}
use Rattle.palm_model.specs.Conflict.{InConflict, InFlatConflict}
use Rattle.palm_model.specs.Conflict.InFlat.{as_it_is, in_place}
use Rattle.palm_model.specs.Constraint.{Distinct, IsWellFormed, scope}
use Rattle.palm_model.specs.Domains.{Domains, Has, without}
use Rattle.palm_model.specs.Event.{vars_of}
use Rattle.palm_model.specs.Log.{Active, IsRight, Removal, is_named, log_pairs}
use Rattle.palm_model.specs.Relation.{Stands}
use Rattle.palm_model.specs.State.{IsOfForm, IsValid, is_user}
use Rattle.palm_model.specs.Support.{LacksSupport}
use Rattle.palm_model.specs.declared.constraint.Con.{Con}
use Rattle.palm_model.specs.declared.constraint.Con.TheVariants.{CompareConst}
use Rattle.palm_model.specs.declared.constraint.Op.{Op}
use Rattle.palm_model.specs.declared.constraint.Op.TheVariants.{Eq, Ne}
use Rattle.palm_model.proofs.cited.Without.{length_without}
use Rattle.palm_read.specs.Name.{IsNameText}
use Rattle.palm_read.specs.Words.{spaced}
use Rattle.palm_cert.specs.Certificate.{numbers_of}
use Rattle.palm_cert.proofs.cited.Earlier.{lacks_behind, numbers_earlier, user_named}
use Rattle.palm_cert.proofs.cited.Links.{pair_logged}
use Rattle.palm_cert.proofs.cited.Readable.{pair_name, pair_value, step_short}
use Rattle.palm_search.specs.Turns.{HasFlatConflict, SearchState}
use Rattle.proof_run.specs.Lemma.{held_decisions, lemma_of, step_words, wiped_by}
use Rattle.proof_run.proofs.Choices.{choice_fails, choice_var}
use Rattle.proof_run.proofs.Lasting.{lemma_within}
use Rattle.proof_run.proofs.Shortness.{assumed_short, of_lemma_short}
use Rattle.proof_run.proofs.Situation.{IsArguing, IsGivenBy, IsRightLemma, IsStepOf, IsUsedIn, LemmaData, given_by}
use Rattle.proof_run.proofs.Situation.IsStepOf.{by_decision, by_lemma, by_user}
use Rattle.proof_run.proofs.Situation.IsUsedIn.{in_lemma, in_step}
use Rattle.proof_run.proofs.Wiping.{conflict_wiped, wiped_apart, wiped_conflict, wiped_declared, wiped_few, wiped_has, wiped_linked, wiped_right, wiped_scoped, wiped_values}

-- ---- the variables of pairs that pass a test

distinct_cond : (b : Bool) (p : Pair) (ps : List Pair) → (Contains (vars_of ps) p.var → ⊥) → Distinct (vars_of ps) → Distinct (vars_of (cond b (p ∷ ps) ps))
distinct_cond true p ps fresh distinct = (fresh, distinct)
distinct_cond false p ps fresh distinct = distinct

distinct_kept : (test : Pair → Bool) (ps : List Pair) → Distinct (vars_of ps) → Distinct (vars_of (filter test ps))
distinct_kept test [] distinct = tt
distinct_kept test (p ∷ ps) distinct =
    distinct_cond (test p) p (filter test ps)
    (λ m.
    let q = member_unmap (λ (r : Pair). r.var) (filter test ps) p.var m in
    distinct.0 (member_same (vars_of ps) q.0.var p.var q.2 (member_map (λ (r : Pair). r.var) ps q.0 (filter_member test ps q.0 q.1).0)))
    (distinct_kept test ps distinct.1)

module _ (book : Contents) (is : IsBook book) (undone : List Pair) (lemmas : List LemmaData) (s : SearchState) (conflict : List Cid)
    (arguing : IsArguing book undone lemmas s) (flat : HasFlatConflict s.engine conflict) where
  -- the pairs of the lemma, and its steps
  abbrev pairs : List Pair
  pairs = held_decisions s.decisions conflict

  abbrev steps : List Removal
  steps = wiped_by s.engine flat.var

  valid : IsValid s.engine
  valid = arguing.searching.valid

  -- an id of the kept conflict that is no negation is in the flat one
  user_held : (n : ℕ) → InConflict s.engine flat.var (User n) → Contains conflict (User n)
  user_held n kept = flat.is.whole (User n) (as_it_is kept tt)

  decision_held : (y : ℕ) → InConflict s.engine flat.var (Decide y) → Contains conflict (Decide y)
  decision_held y kept = flat.is.whole (Decide y) (as_it_is kept tt)

  -- where a negation is in the kept conflict, the other pairs of its lemma are among those of the new one
  others_held : (a : Active) (p : Pair) → Contains s.engine.active a → a.cid ≡ Not p → InConflict s.engine flat.var (Not p) → (given : IsGivenBy undone lemmas s.decisions a p)
      → (q : Pair) → Contains given.lemma.pairs q → (q ≡ p → ⊥) → Contains pairs q
  others_held a p posted named kept given q m ne =
      let r = given.others q m ne in
      member_filter (λ (d : Pair). is_named conflict (Decide d.var)) s.decisions q r.1
      (member_named conflict (Decide q.var) (flat.is.whole (Decide q.var) (in_place p a kept posted named r.0)))

  -- ---- a step

  module _ (earlier : List Removal) (r : Removal) (later : List Removal) (split : steps ≡ earlier ++ r ∷ later) where
    among : Contains steps r
    among = subst (λ (l : List Removal). Contains l r) (sym split) (Contains-append_right earlier (r ∷ later) r (member_here r later))

    right : IsRight s.engine.initial s.engine.active earlier r
    right = wiped_right s.engine valid flat.var earlier r later split

    linked : IsLinked (earlier ++ r ∷ later)
    linked = subst IsLinked split (wiped_linked s.engine valid flat.var)

    -- the reasons are of other variables of its constraint
    others : (p : Pair) → Contains r.reasons p → Contains (scope right.owner.con) p.var × (p.var ≡ r.pair.var → ⊥)
    others =
        let own = wiped_scoped s.engine valid flat.var arguing.scoped r among in
        let same = single s.engine.active valid.rising own.owner right.owner own.posted right.posted (own.named ∙ sym right.named) in
        subst (λ (a : Active). (p : Pair) → Contains r.reasons p → Contains (scope a.con) p.var × (p.var ≡ r.pair.var → ⊥)) same own.others

    kept : (cid : Cid) → r.by ≡ cid → InConflict s.engine flat.var cid
    kept cid by = subst (InConflict s.engine flat.var) by (wiped_conflict s.engine valid flat.var r among)

    -- a step by a comparison with a value is of its variable, and on a value that does not fit
    module _ (y : ℕ) (op : Op) (w : ℤ) (con : right.owner.con ≡ CompareConst y op w) where
      lacks : LacksSupport (without s.engine.initial r.reasons) (CompareConst y op w) r.pair.var r.pair.value
      lacks = subst (λ (c : Con). LacksSupport (without s.engine.initial r.reasons) c r.pair.var r.pair.value) con right.lacks

      step_var : y ≡ r.pair.var
      step_var = choice_var s.engine.initial r.reasons y op w r.pair lacks

      step_fails : Stands op r.pair.value w → ⊥
      step_fails =
          choice_fails s.engine.initial r.reasons y op w r.pair lacks right.declared
          (subst (λ (c : Con). (p : Pair) → Contains r.reasons p → Contains (scope c) p.var × (p.var ≡ r.pair.var → ⊥)) con others)

    assumed_step : (y : ℕ) → r.by ≡ Decide y → IsAssumed pairs r.pair
    assumed_step y by =
        let q = arguing.searching.decisions.taken right.owner y right.posted (right.named ∙ by) in
        let con : right.owner.con ≡ CompareConst q.0.var Eq q.0.value = ap (λ (a : Active). a.con) q.2 in
        let cid : r.by ≡ Decide q.0.var = sym right.named ∙ ap (λ (a : Active). a.cid) q.2 in
        record {
          other = q.0;
          given = member_filter (λ (d : Pair). is_named conflict (Decide d.var)) s.decisions q.0 q.1 (member_named conflict (Decide q.0.var) (decision_held q.0.var (kept (Decide q.0.var) cid)));
          var = step_var q.0.var Eq q.0.value con;
          value = λ same. step_fails q.0.var Eq q.0.value con (sym same);
        }

    module _ (p : Pair) (by : r.by ≡ Not p) where
      given : IsGivenBy undone lemmas s.decisions right.owner p
      given = arguing.given.each right.owner p right.posted (right.named ∙ by)

      denies : right.owner.con ≡ CompareConst p.var Ne p.value
      denies =
          let a = right.owner in
          let form = (valid.formed a right.posted).form in
          (subst (λ (cid : Cid). IsOfForm (length s.engine.initial) s.engine.active cid a.con a.justification) (right.named ∙ by) form).0

      same_value : p.value ≡ r.pair.value
      same_value = elim (int_known r.pair.value p.value) [
        | inl e ↦ sym e
        | inr ne ↦ absurd (step_fails p.var Ne p.value denies ne)
      ]

      same_pair : p ≡ r.pair
      same_pair =
          let var : p.var ≡ r.pair.var = step_var p.var Ne p.value denies in
          λ i. record { var = var i; value = same_value i }

      lemma_stands : slice_get (map (λ (l : LemmaData). l.pairs) lemmas) (lemma_of undone p - 1) ≡ Some given.lemma.pairs
      lemma_stands = slice_get-map (λ (l : LemmaData). l.pairs) lemmas (lemma_of undone p - 1) ∙ ap (option_map (λ (l : LemmaData). l.pairs)) given.stands

      of_lemma : IsOfLemma (given_by pairs lemmas) (lemma_of undone p) r.pair
      of_lemma = subst (IsOfLemma (given_by pairs lemmas) (lemma_of undone p)) same_pair (record {
        pairs = given.lemma.pairs;
        stands = lemma_stands;
        among = given.among;
        others = others_held right.owner p right.posted (right.named ∙ by) (kept (Not p) by) given;
      })

    step_by : (cid : Cid) → r.by ≡ cid → IsStepOf book undone lemmas pairs (earlier ++ r ∷ later) earlier r
    step_by (Decide y) by = by_decision y by (assumed_step y by)
    step_by (Not p) by = by_lemma p (given p by).lemma by (given p by).positive (given p by).stands (of_lemma p by)
    step_by (User n) by =
        let c = arguing.users right.owner right.posted (subst (λ (cid : Cid). is_user cid ≡ true) (sym (right.named ∙ by)) refl) in
        by_user c.0 c.1 c.2 (sym right.named ∙ ap (λ (a : Active). a.cid) c.3)
        (lacks_behind earlier r later linked book s.engine.initial s.engine.active right c.0.con arguing.initial (sym (ap (λ (a : Active). a.con) c.3)))
        (numbers_earlier earlier r later linked)

  lemma_steps : (earlier : List Removal) (r : Removal) (later : List Removal) → steps ≡ earlier ++ r ∷ later → IsStepOf book undone lemmas pairs steps earlier r
  lemma_steps earlier r later split = subst (λ (l : List Removal). IsStepOf book undone lemmas pairs l earlier r) (sym split) (step_by earlier r later split r.by refl)

  -- ---- how long its lines are

  module _ (few : length undone ≤ 18446744073709551615) (r : Removal) (m : Contains steps r) where
    pair_among : Contains (log_pairs steps) r.pair
    pair_among = pair_logged steps r m

    pair_values : Contains (values_at book.variables r.pair.var) r.pair.value
    pair_values = wiped_declared s.engine valid flat.var book arguing.initial r.pair pair_among

    line_short : (cid : Cid) → r.by ≡ cid → length (spaced (step_words book undone r.pair cid (numbers_of steps r.reasons))) ≤ 65536
    line_short (Decide y) by =
        assumed_short book.variables r.pair (pair_name book is r.pair pair_values) (pair_value book is r.pair pair_values)
    line_short (Not p) by =
        let number = lemma_within undone p in
        of_lemma_short book.variables r.pair (pair_name book is r.pair pair_values) (pair_value book is r.pair pair_values) (lemma_of undone p) (omega (arith, number, few))
    line_short (User n) by =
        let own = wiped_scoped s.engine valid flat.var arguing.scoped r m in
        let c = arguing.users own.owner own.posted (subst (λ (cid : Cid). is_user cid ≡ true) (sym (own.named ∙ by)) refl) in
        let named = user_named book is c.0 c.1 (User n) (sym (ap (λ (a : Active). a.cid) c.3) ∙ own.named ∙ by) in
        let text = All-contains (λ (d : BookCon). IsNameText d.name) book.constraints c.0 is.constraint_names c.1 in
        let formed = All-contains (λ (d : BookCon). IsWellFormed (length book.variables) d.con) book.constraints c.0 is.formed c.1 in
        step_short book is steps (wiped_apart s.engine valid flat.var) (wiped_declared s.engine valid flat.var book arguing.initial) r (user_name book.constraints (User n)) own.owner.con pair_among
        (subst IsNameText named text) (subst (λ (a : Active). IsWellFormed (length book.variables) a.con) (sym c.3) formed) (λ p k. (own.others p k).0)

  -- ---- its users

  user_used : (number : ℕ) → Contains (filter is_user conflict) (User number) → IsUsedIn undone lemmas steps number
  user_used number m = used_by (flat.is.sound (User number) (filter_member is_user conflict (User number) m).0)
    where
      used_by : InFlatConflict s.engine flat.var (User number) → IsUsedIn undone lemmas steps number
      used_by (as_it_is kept justifier) =
          let r = conflict_wiped s.engine valid flat.var (User number) kept in
          in_step r.0 r.1 r.2
      used_by (in_place p a kept posted named held) =
          let r = conflict_wiped s.engine valid flat.var (Not p) kept in
          let given = arguing.given.each a p posted named in
          in_lemma r.0 p given.lemma r.1 r.2 given.stands ((given.users (User number) refl).1 held)

  used_user : (number : ℕ) → IsUsedIn undone lemmas steps number → Contains (filter is_user conflict) (User number)
  used_user number (in_step r m by) =
      member_filter is_user conflict (User number) (user_held number (subst (InConflict s.engine flat.var) by (wiped_conflict s.engine valid flat.var r m))) refl
  used_user number (in_lemma r p lemma m by stands uses) =
      let own = wiped_scoped s.engine valid flat.var arguing.scoped r m in
      let kept = subst (InConflict s.engine flat.var) by (wiped_conflict s.engine valid flat.var r m) in
      let given = arguing.given.each own.owner p own.posted (own.named ∙ by) in
      let same : lemma ≡ given.lemma = same_Some lemma given.lemma (sym stands ∙ given.stands) in
      let held = (given.users (User number) refl).0 (subst (λ (l : LemmaData). Contains l.users (User number)) same uses) in
      member_filter is_user conflict (User number) (flat.is.whole (User number) (in_place p own.owner kept own.posted (own.named ∙ by) held)) refl

  -- ---- the lemma

  pub right_lemma : length undone ≤ 18446744073709551615 → IsRightLemma book undone lemmas pairs steps flat.var (filter is_user conflict)
  right_lemma few = record {
    exists =
        let lt = flat.empty.exists in
        let same = length_without s.engine.initial (log_pairs s.engine.log) ∙ ap length arguing.initial ∙ length-map book.variables (λ e. e.values) in
        omega (arith, lt, same);
    assumed = λ p m.
        let has = arguing.searching.declared.decided p (filter_member (λ (d : Pair). is_named conflict (Decide d.var)) s.decisions p m).0 in
        subst (λ (d : Domains). Has d p.var p.value) arguing.initial has;
    apart = distinct_kept (λ (d : Pair). is_named conflict (Decide d.var)) s.decisions arguing.searching.decisions.distinct;
    proved = λ r m. wiped_has s.engine valid flat.var book arguing.initial r.pair (pair_logged steps r m);
    right = lemma_steps;
    few = wiped_few s.engine valid flat.var book arguing.initial is;
    short = λ r m. line_short few r m r.by refl;
    wiped = wiped_values s.engine valid flat.var book arguing.initial flat.empty;
    used = λ number. (user_used number, used_user number);
  }

pub lemma_right : (book : Contents) → IsBook book → (undone : List Pair) (lemmas : List LemmaData) (s : SearchState) (conflict : List Cid) → length undone ≤ 18446744073709551615
    → IsArguing book undone lemmas s → (flat : HasFlatConflict s.engine conflict)
    → IsRightLemma book undone lemmas (held_decisions s.decisions conflict) (wiped_by s.engine flat.var) flat.var (filter is_user conflict)
lemma_right book is undone lemmas s conflict few arguing flat = right_lemma book is undone lemmas s conflict arguing flat few
