-- The log of removals as its callers see it, what holds of every such log, and how a store of domains goes with it.
use Rattle.std.specs.Prelude.{◌≡◌, ◌↔◌, ℕ, ℤ, ◌≤ℤ◌, ⊤, List, [], ◌∷◌, ◌++◌, map, Contains, slice_index_or}
use Rattle.palm_base.specs.declared.terms.Pair.{Pair}
use Rattle.palm_base.specs.declared.terms.Cid.{Cid}
use Rattle.palm_domain.specs.Rows.{Row, Ascends, IsDeclared, initial_of, present_of}
use Rattle.palm_model.specs.Domains.{without}
use Rattle.palm_model.specs.Log.{Removal, NamesOfPair, log_pairs}
use Rattle.palm_explain.specs.declared.restored.Restored.{Restored}
use Rattle.palm_explain.specs.declared.spans.Span.{Span}
use Rattle.palm_explain.specs.declared.moving.MovingSpan.{MovingSpan}
use Rattle.palm_explain.specs.Entries.{pairs_with}
use Rattle.palm_explain.specs.Moving.{spans_at}

-- the removals, the oldest first, and what the last withdrawal told of the variables of which it put values back
pub record Explanations : Type 0 where
  pub log : List Removal
  pub restored : List Restored

-- ---- what was put back

-- the variables
abbrev pub restored_vars : List Restored → List ℕ
restored_vars restored = map (λ r. r.var) restored

-- the value lies between those that are told of its variable
abbrev pub IsSpanned : List Restored → Pair → Type 0
IsSpanned restored p = (r : Restored) × Contains restored r × (r.var ≡ p.var) × (r.low ≤ℤ p.value) × (p.value ≤ℤ r.high)

-- what is told of each variable are its least and greatest value among these
abbrev pub AreEnds : List Restored → List Pair → Type 0
AreEnds restored pairs = (r : Restored) → Contains restored r → Contains pairs (record { var = r.var; value = r.low }) × Contains pairs (record { var = r.var; value = r.high })

-- ---- logs

-- the ids of the constraints that removed, and the reasons of the removal at a place
abbrev pub log_bys : List Removal → List Cid
log_bys log = map (λ r. r.by) log

abbrev pub reasons_of : List Removal → ℕ → List Pair
reasons_of log place = slice_index_or (map (λ r. r.reasons) log) place []

-- the pair is none of the earlier ones, and each reason is one of them
pub record IsLink (earlier : List Removal) (r : Removal) : Type 0 where
  pub fresh : Contains (log_pairs earlier) r.pair → ⊥
  pub reasons : (p : Pair) → Contains r.reasons p → Contains (log_pairs earlier) p

-- each of the removals is a link after the earlier ones and those before it
abbrev pub AreLinked : List Removal → List Removal → Type 0
AreLinked earlier [] = ⊤
AreLinked earlier (r ∷ rest) = IsLink earlier r × AreLinked (earlier ++ r ∷ []) rest

-- no pair stands twice in the log, and each reason is the pair of an earlier removal
abbrev pub IsLinked : List Removal → Type 0
IsLinked log = AreLinked [] log

-- the ids in the explanations of these values of the variable
pub record NamesOfSome (log : List Removal) (x : ℕ) (values : List ℤ) (cid : Cid) : Type 0 where
  pub value : ℤ
  pub among : Contains values value
  pub names : NamesOfPair log (record { var = x; value = value }) cid

-- ---- spans of reasons

-- the values are those of the span's variable from its low value to its high one among these pairs, ascending
pub record IsSpanOf (pairs : List Pair) (s : Span) (values : List ℤ) : Type 0 where
  pub ascends : Ascends values
  pub each : (v : ℤ) → Contains values v ↔ ((s.low ≤ℤ v) × (v ≤ℤ s.high) × Contains pairs (record { var = s.var; value = v }))

-- one after another the spans stand for these pairs
pub data AreSpanned (pairs : List Pair) : List Span → List Pair → Type 0 where
  spans_end : AreSpanned pairs [] []
  spans_on : (s : Span) (spans : List Span) (values : List ℤ) (reasons : List Pair) → IsSpanOf pairs s values → AreSpanned pairs spans reasons
      → AreSpanned pairs (s ∷ spans) (pairs_with s.var values ++ reasons)

-- ---- removals of several values

-- the removal of the value under the id, for what the spans stand for at it behind this log
pub record IsRunRemoval (x : ℕ) (by : Cid) (spans : List MovingSpan) (log : List Removal) (v : ℤ) (r : Removal) : Type 0 where
  pub paired : r.pair ≡ record { var = x; value = v }
  pub made : r.by ≡ by
  pub resting : AreSpanned (log_pairs log) (spans_at spans v) r.reasons

-- the removals of the values, one behind another, each for what the spans stand for behind the log and those before it
abbrev pub IsRunOf : ℕ → Cid → List MovingSpan → List Removal → List ℤ → List Removal → Type 0
IsRunOf x by spans log [] [] = ⊤
IsRunOf x by spans log [] (r ∷ run) = ⊥
IsRunOf x by spans log (v ∷ values) [] = ⊥
IsRunOf x by spans log (v ∷ values) (r ∷ run) = IsRunRemoval x by spans log v r × IsRunOf x by spans (log ++ r ∷ []) values run

-- ---- domains

-- the pairs are declared, and exactly they are taken out of the declared values
pub record LacksExactly (rows : List Row) (pairs : List Pair) : Type 0 where
  pub declared : (p : Pair) → Contains pairs p → IsDeclared rows p.var p.value
  pub present : present_of rows ≡ without (initial_of rows) pairs
