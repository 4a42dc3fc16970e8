-- What is kept of a proof stays so: more that is listed, a lemma begun, a pair assumed, a step, and a lemma that is done.
use Rattle.std.proofs.Common.{◌≡◌, ℕ, ℤ, ◌+◌, ◌<◌, ◌≤◌, Option, Some, None, List, [], ◌∷◌, ◌++◌, length, replicate, All, sym, ap, ◌∙◌, subst, arith}
use Rattle.std.proofs.lemmas.List.{length-replicate, length_push}
use Rattle.std.proofs.lemmas.List.Elements.{All-nil, All-push, All-weaker}
use Rattle.palm_base.specs.declared.terms.Pair.{Pair}
use Rattle.palm_book.specs.Book.{BookVar, Contents, initial_of, listed, with_listed, with_variable}
use Rattle.palm_claim.proofs.cited.ProvedSteps.{still_declared}
use Rattle.palm_model.specs.Domains.{Has}
use Rattle.palm_model.specs.declared.constraint.Con.{Con}
use Rattle.proof_text.specs.Draft.{unproved}
use Rattle.proof_text.specs.declared.lemma.Lemma.{Lemma}
use Rattle.proof_check.specs.Kept.{AreAssumed, AreReasoned, IsBehind, Puts, assumed_at, noting_constraint, noting_lemma}
use Rattle.proof_check.proofs.Assuming.{assumed_more, none_assumed, still_assumed}

-- ---- lemmas before a lemma

more_room : (room more count : ℕ) (l : Lemma) → room ≤ more → IsBehind room count l → IsBehind more count l
more_room room more count l le b = record {
  constraints = All-weaker (λ n. n < room) (λ n. n < more) (λ n lt. omega (arith, le, lt)) l.constraints b.constraints;
  lemmas = b.lemmas;
}

nothing_behind : (room count : ℕ) (pairs : List Pair) → IsBehind room count (unproved pairs)
nothing_behind room count pairs = record { constraints = All-nil (λ n. n < room); lemmas = All-nil (λ k. (1 ≤ k) × (k ≤ count)) }

pub noted_constraint : (room count : ℕ) (l : Lemma) (n : ℕ) → IsBehind room count l → n < room → IsBehind room count (noting_constraint l n)
noted_constraint room count l n b lt = record { constraints = All-push (λ k. k < room) l.constraints n b.constraints lt; lemmas = b.lemmas }

pub noted_lemma : (room count : ℕ) (l : Lemma) (k : ℕ) → IsBehind room count l → (1 ≤ k) × (k ≤ count) → IsBehind room count (noting_lemma l k)
noted_lemma room count l k b early = record { constraints = b.constraints; lemmas = All-push (λ j. (1 ≤ j) × (j ≤ count)) l.lemmas k b.lemmas early }

-- ---- what else is listed

module _ (before after : Contents) (lemmas : List Lemma) (begun : Lemma) (assumed : List (Option ℤ)) (proved : List Pair) (kept : AreReasoned before lemmas begun assumed proved) where
  pub keeps_variable : (name : List ℕ) (vs : List ℤ) (more : List (Option ℤ)) → after ≡ with_variable before name vs → more ≡ assumed ++ None ∷ [] → AreReasoned after lemmas begun more proved
  keeps_variable name vs more same grown =
      let entry : BookVar = record { name = name; values = vs } in
      let long : length more ≡ length (before.variables ++ entry ∷ []) =
      ap (λ (xs : List (Option ℤ)). length xs) grown ∙ length_push assumed None ∙ ap (λ (n : ℕ). n + 1) kept.long ∙ sym (length_push before.variables entry) in
      rw (same, grown) (record {
        declared = still_declared before name vs proved kept.declared;
        long = rw grown at long;
        assumes = still_assumed begun.pairs assumed kept.assumes;
        behind = kept.behind;
        last = kept.last;
      })

  pub keeps_constraint : (name : List ℕ) (con : Con) → after ≡ with_listed before name con → AreReasoned after lemmas begun assumed proved
  keeps_constraint name con same =
      let longer : length (before.constraints ++ listed before name con ∷ []) ≡ length before.constraints + 1 = length_push before.constraints (listed before name con) in
      let room = length before.constraints + 1 in
      let more = length (before.constraints ++ listed before name con ∷ []) + 1 in
      let le : room ≤ more = omega (arith, longer) in
      rw same (record {
        declared = kept.declared;
        long = kept.long;
        assumes = kept.assumes;
        behind = record { each = λ place l at. more_room room more place l le (kept.behind.each place l at) };
        last = more_room room more (length lemmas) begun le kept.last;
      })

-- ---- lemmas

module _ (book : Contents) (lemmas : List Lemma) (begun : Lemma) (assumed : List (Option ℤ)) (proved : List Pair) (kept : AreReasoned book lemmas begun assumed proved) where
  -- a lemma begins that assumes nothing
  pub keeps_cleared : (new : Lemma) (after : List (Option ℤ)) (none : List Pair) → after ≡ replicate (length assumed) None → new ≡ unproved [] → none ≡ [] → AreReasoned book lemmas new after none
  keeps_cleared new after none cleared fresh empty = rw (cleared, fresh, empty) (record {
    declared = All-nil (λ (p : Pair). Has (initial_of book) p.var p.value);
    long = length-replicate (length assumed) None ∙ kept.long;
    assumes = none_assumed (length assumed);
    behind = kept.behind;
    last = nothing_behind (length book.constraints + 1) (length lemmas) [];
  })

  -- one more pair is assumed
  pub keeps_assumed : (more : Lemma) (after : List (Option ℤ)) (pair : Pair) → assumed_at assumed pair.var ≡ None → Puts assumed after pair.var (Some pair.value) → more ≡ record begun { pairs = begun.pairs ++ pair ∷ [] }
      → AreReasoned book lemmas more after proved
  keeps_assumed more after pair none puts grown = record {
    declared = kept.declared;
    long = puts.long ∙ kept.long;
    assumes = subst (λ (l : Lemma). AreAssumed l.pairs after) (sym grown) (assumed_more begun.pairs assumed after pair kept.assumes none puts);
    behind = kept.behind;
    last = subst (λ (l : Lemma). IsBehind (length book.constraints + 1) (length lemmas) l) (sym grown) (record { constraints = kept.last.constraints; lemmas = kept.last.lemmas });
  }

  pub keeps_step : (more : Lemma) (pair : Pair) (after : List Pair) → Has (initial_of book) pair.var pair.value → after ≡ proved ++ pair ∷ [] → AreAssumed more.pairs assumed
      → IsBehind (length book.constraints + 1) (length lemmas) more → AreReasoned book lemmas more assumed after
  keeps_step more pair after has grown assumes last = record {
    declared = subst (λ (ps : List Pair). All (λ (p : Pair). Has (initial_of book) p.var p.value) ps) (sym grown) (All-push (λ (p : Pair). Has (initial_of book) p.var p.value) proved pair kept.declared has);
    long = kept.long;
    assumes = assumes;
    behind = kept.behind;
    last = last;
  }
