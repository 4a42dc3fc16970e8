-- The steps of an emptied variable: they prove each of its values, are right one behind another, and their ids are those of
-- the kept conflict.
use Rattle.std.proofs.Common.{◌≡◌, ℕ, ℤ, ◌≤◌, List, [], ◌∷◌, ◌++◌, length, Contains, sym, ap, ◌∙◌, subst, arith}
use Rattle.std.specs.List.{range_with_len}
use Rattle.std.proofs.lemmas.List.{length-map}
use Rattle.std.proofs.lemmas.List.FromFn.{length-range_with_len}
use Rattle.palm_base.specs.declared.terms.Pair.{Pair}
use Rattle.palm_base.specs.declared.terms.Cid.{Cid}
use Rattle.palm_book.specs.Book.{Contents, IsBook, initial_of, values_at}
use Rattle.palm_claim.specs.declared.verdict.Claim.TheVariants.{Conflict}
use Rattle.palm_events.specs.Scoped.{HasScopedReasons, IsScoped}
use Rattle.palm_explain.specs.Explanations.{IsLinked}
use Rattle.palm_model.specs.Conflict.{InConflict}
use Rattle.palm_model.specs.Domains.{Domains, Has, values_of}
use Rattle.palm_model.specs.Log.{IsRight, IsWellFounded, Removal, log_pairs}
use Rattle.palm_model.specs.State.{EngineState, IsEmptyAt, IsValid, present}
use Rattle.palm_cert.specs.Certificate.{steps_of}
use Rattle.palm_explain.specs.Needed.{pairs_with}
use Rattle.palm_cert.proofs.cited.Before.{range_has}
use Rattle.palm_cert.proofs.cited.Earlier.{right_between}
use Rattle.palm_cert.proofs.cited.Lengths.{apart_short, over_few, over_member, pairs_over, within_book}
use Rattle.palm_cert.proofs.cited.Links.{Apart}
use Rattle.palm_cert.proofs.cited.Needed.{explaining_step, right_linked, step_explains, steps_founded}
use Rattle.palm_cert.proofs.cited.Reached.{claim_reached, values_same}
use Rattle.palm_cert.proofs.cited.Readable.{step_logged, steps_apart, steps_declared}
use Rattle.proof_run.specs.Lemma.{wiped_by}

module _ (s : EngineState) (valid : IsValid s) (x : ℕ) where
  -- the pairs of the variable
  abbrev pairs : List Pair
  pairs = pairs_with x (values_of s.initial x)

  -- ---- the steps as a log

  pub wiped_founded : IsWellFounded s.initial s.active (wiped_by s x)
  wiped_founded = steps_founded s.initial s.active s.log pairs valid.founded

  pub wiped_linked : IsLinked (wiped_by s x)
  wiped_linked = right_linked s.initial s.active [] (wiped_by s x) wiped_founded

  pub wiped_right : (earlier : List Removal) (r : Removal) (later : List Removal) → wiped_by s x ≡ earlier ++ r ∷ later → IsRight s.initial s.active earlier r
  wiped_right earlier r later split =
      right_between s.initial s.active [] earlier r later (subst (λ (l : List Removal). IsWellFounded s.initial s.active l) split wiped_founded)

  pub wiped_apart : Apart (log_pairs (wiped_by s x))
  wiped_apart = steps_apart s valid pairs

  -- each is a removal of the log, whose reasons are of other variables of its constraint
  pub wiped_scoped : HasScopedReasons s → (r : Removal) → Contains (wiped_by s x) r → IsScoped s.active r
  wiped_scoped scoped r m = scoped r (step_logged s valid pairs r m)

  -- ---- the kept conflict

  pub wiped_conflict : (r : Removal) → Contains (wiped_by s x) r → InConflict s x r.by
  wiped_conflict r m =
      let some = step_explains s.log x (values_of s.initial x) r m in
      record { value = some.value; declared = some.among; names = some.names }

  pub conflict_wiped : (cid : Cid) → InConflict s x cid → (r : Removal) × Contains (wiped_by s x) r × (r.by ≡ cid)
  conflict_wiped cid kept =
      explaining_step s.log x (values_of s.initial x) (right_linked s.initial s.active [] s.log valid.founded) cid
      (record { value = kept.value; among = kept.declared; names = kept.names })

  -- ---- over the variables of a book

  module _ (book : Contents) (initial : s.initial ≡ initial_of book) where
    same_values : values_at book.variables x ≡ values_of s.initial x
    same_values = sym (values_same book.variables x) ∙ ap (λ (d : Domains). values_of d x) (sym initial)

    -- every value of the emptied variable is that of a step
    pub wiped_values : IsEmptyAt (present s) x → (v : ℤ) → Has (initial_of book) x v → Contains (log_pairs (wiped_by s x)) (record { var = x; value = v })
    wiped_values empty v has =
        let p : Pair = record { var = x; value = v } in
        subst (λ (vs : List ℤ). Contains (log_pairs (steps_of s.log (pairs_with x vs))) p) same_values
        (claim_reached s book (Conflict x) valid initial empty v has)

    pub wiped_declared : (p : Pair) → Contains (log_pairs (wiped_by s x)) p → Contains (values_at book.variables p.var) p.value
    wiped_declared p m = steps_declared s valid pairs book initial p m

    pub wiped_has : (p : Pair) → Contains (log_pairs (wiped_by s x)) p → Has (initial_of book) p.var p.value
    wiped_has p m = subst (λ (vs : List ℤ). Contains vs p.value) (sym (values_same book.variables p.var)) (wiped_declared p m)

    -- no more steps than values
    pub wiped_few : IsBook book → length (wiped_by s x) ≤ 4294967295
    wiped_few is =
        let all = range_with_len 0 (length book.variables) in
        let whole = pairs_over book.variables all in
        let short = apart_short (log_pairs (wiped_by s x)) whole wiped_apart
        (λ p m. let has = wiped_declared p m in over_member book.variables all p (range_has (length book.variables) p.var (within_book book.variables p.var p.value has)) has) in
        omega (arith, length-map (wiped_by s x) (λ (r : Removal). r.pair), short, over_few book.variables all is.values, length-range_with_len 0 (length book.variables), is.few_variables)
