-- Searches of a session for the least value of a variable: they can begin, and what their ends say of the book.
use Rattle.std.proofs.Common.{◌≡◌, ℕ, ℤ, ◌<◌, ◌≤◌, false, Option, Some, None, IfSome, List, [], length, get_or, Contains, sym, ap, ◌∙◌, subst, arith}
use Rattle.std.specs.Prelude.{⊤}
use Rattle.std.proofs.lemmas.Bool.{lt-leb}
use Rattle.std.proofs.lemmas.List.{get_or-map, length-map}
use Rattle.std.proofs.lemmas.List.Elements.{All-contains, Contains-get_or}
use Rattle.palm_base.specs.declared.terms.Cid.{Cid}
use Rattle.palm_model.specs.Closure.{IsSolution}
use Rattle.palm_model.specs.Domains.{Assignment, Domains, Has, values_of}
use Rattle.palm_model.specs.Limits.{IsValue}
use Rattle.palm_model.specs.Log.{Active, IsActive, Named, cons_of}
use Rattle.palm_model.specs.Trial.{listed, value_count}
use Rattle.palm_book.specs.Book.{AreValues, BookVar, Contents, initial_of, active_of}
use Rattle.palm_book.specs.declared.book.BookCon.{BookCon}
use Rattle.palm_lang.specs.Reply.{spent_best_line, spent_line}
use Rattle.palm_search.specs.Kept.{HasNone}
use Rattle.palm_search.specs.Measure.{most_turns}
use Rattle.palm_search.specs.declared.ending.SearchEnd.{SearchEnd}
use Rattle.palm_search.specs.declared.ending.SearchEnd.TheVariants.{Found, NoSolution, Spent}
use Rattle.palm_best.specs.Answers.{IsTrueOf}
use Rattle.palm_best.specs.Cuts.{is_own}
use Rattle.palm_best.proofs.cited.Long.{AreLong}
use Rattle.palm_best.specs.declared.best.Best.{Best}
use Rattle.palm_best.specs.declared.best.Best.TheVariants.{Least as LeastFound, NoSolution as NoneFound, Spent as SpentBest}
use Rattle.palm_best.specs.declared.limits.TheConstants.{FIRST_CUT}
use Rattle.palm_session.specs.Answers.{told_text}
use Rattle.palm_session.specs.Effects.{Telling, AsLeast, SoFar, best_end, best_telling}
use Rattle.palm_session.specs.State.{SessionState, IsHeld}
use Rattle.palm_session.specs.Told.{AreBestIn, AreUnsolvedIn, MaySpend, MaySpendSo, ToldLeast}
use Rattle.palm_session.specs.Told.ToldLeast.{best_found, best_none, best_so_far, best_spent}
use Rattle.palm_session.specs.declared.request.Procedure.TheVariants.{Dbt, Least}
use Rattle.palm_session.proofs.ActiveLists.{active_member}

-- ---- they can begin

-- no constraint of a session has the number of a cut
pub held_none : (s : SessionState) → IsHeld s → HasNone is_own s.engine
held_none s is a m =
    let r = active_member s.book a (subst (λ (l : List Active). Contains l a) is.active m) in
    let numbered : r.0.number ≤ s.accepted = All-contains (λ (c : BookCon). c.number ≤ s.accepted) s.book.constraints r.0 is.numbered r.1 in
    subst (λ (x : Active). is_own x.cid ≡ false) r.3 (lt-leb FIRST_CUT r.0.number (omega (arith, numbered, is.accepted)))

module _ (s : SessionState) (is : IsHeld s) where
  pub held_length : length s.engine.initial ≡ length s.book.variables
  held_length = ap (λ (d : Domains). length d) is.initial ∙ length-map s.book.variables (λ (f : BookVar). f.values)

  module _ (x : ℕ) (lt : x < length s.book.variables) where
    pub held_target : x < length s.engine.initial
    held_target = subst (λ (n : ℕ). x < n) (sym held_length) lt

    -- the declared values are values of the language
    pub held_values : (v : ℤ) → Has s.engine.initial x v → IsValue v
    held_values v has =
        let nothing : BookVar = record { name = []; values = [] } in
        let entry : BookVar = get_or s.book.variables x nothing in
        let values : values_of (initial_of s.book) x ≡ entry.values = get_or-map (λ (e : BookVar). e.values) s.book.variables x nothing [] lt in
        let here : Contains entry.values v = subst (λ (vs : List ℤ). Contains vs v) (ap (λ (d : Domains). values_of d x) is.initial ∙ values) has in
        let are : AreValues entry.values = All-contains (λ (e : BookVar). AreValues e.values) s.book.variables entry is.book.values (Contains-get_or s.book.variables x nothing lt) in
        All-contains IsValue entry.values v are.each here

-- ---- what their ends say

-- values that satisfy all active constraints of the book, one for each variable
abbrev pub SolvesBook : Contents → List ℤ → Type 0
SolvesBook book values = IsSolution (initial_of book) (Contains (cons_of (active_of book))) (listed values) × (length values ≡ length book.variables)

-- what the end of a search says of the book
abbrev pub EndHolds : Contents → SearchEnd → Type 0
EndHolds book (Found values) = SolvesBook book values
EndHolds book (NoSolution users) = AreUnsolvedIn book users
EndHolds book (Spent turns) = ⊤

-- what the end of a minimization says of the book
abbrev pub BestHolds : Contents → ℕ → ℕ → Best → Type 0
BestHolds book target budget (LeastFound values users) = AreBestIn book target values users × (length values ≡ length book.variables)
BestHolds book target budget (NoneFound users) = AreUnsolvedIn book users
BestHolds book target budget (SpentBest turns best) = (turns ≡ budget) × MaySpend book (Dbt budget) None × IfSome best (SolvesBook book)

module _ (s : SessionState) (is : IsHeld s) where
  -- a solution among the engine's domains and constraints is one among the book's, and the other way round
  to_book : (values : List ℤ) → IsSolution s.engine.initial (Contains (cons_of s.engine.active)) (listed values) → IsSolution (initial_of s.book) (Contains (cons_of (active_of s.book))) (listed values)
  to_book values h =
      subst (λ (d : Domains). IsSolution d (Contains (cons_of (active_of s.book))) (listed values)) is.initial
      (subst (λ (l : List Active). IsSolution s.engine.initial (Contains (cons_of l)) (listed values)) is.active h)

  from_book : (users : List Cid) (a : Assignment) → IsSolution (initial_of s.book) (Named (active_of s.book) (Contains users)) a → IsSolution s.engine.initial (Named s.engine.active (Contains users)) a
  from_book users a h =
      subst (λ (d : Domains). IsSolution d (Named s.engine.active (Contains users)) a) (sym is.initial)
      (subst (λ (l : List Active). IsSolution (initial_of s.book) (Named l (Contains users)) a) (sym is.active) h)

  in_book : (c : Cid) → IsActive s.engine.active c → IsActive (active_of s.book) c
  in_book c h = subst (λ (l : List Active). IsActive l c) is.active h

  so_far_holds : (best : Option (List ℤ)) → IfSome best (λ values. IsSolution s.engine.initial (Contains (cons_of s.engine.active)) (listed values))
      → IfSome best (λ values. length values ≡ length s.engine.initial) → IfSome best (SolvesBook s.book)
  so_far_holds None h long = tt
  so_far_holds (Some values) h long = (to_book values h, long ∙ held_length s is)

  may_spend : (budget : ℕ) → budget < most_turns (length s.engine.initial) (value_count s.engine.initial) → MaySpend s.book (Dbt budget) None
  may_spend budget few =
      subst (λ (n : ℕ). budget < most_turns n (value_count (initial_of s.book))) (held_length s is)
      (subst (λ (d : Domains). budget < most_turns (length s.engine.initial) (value_count d)) is.initial few)

  pub best_holds : (target budget : ℕ) (best : Best) → IsTrueOf s.engine target budget best → AreLong (length s.engine.initial) best → BestHolds s.book target budget best
  best_holds target budget (LeastFound values users) h long = (
    record {
      solution = to_book values h.solution;
      active = λ c m. in_book c (h.active c m);
      least = λ a solution less. h.least a (from_book users a solution) less;
    },
    long ∙ held_length s is,
  )
  best_holds target budget (NoneFound users) h long = record { active = λ c m. in_book c (h.active c m); none = λ a solution. h.none a (from_book users a solution) }
  best_holds target budget (SpentBest turns best) h long =
      (h.whole, may_spend budget (subst (λ (n : ℕ). n < most_turns (length s.engine.initial) (value_count s.engine.initial)) h.whole h.few), so_far_holds best h.solution long)

pub best_end_holds : (book : Contents) (target budget : ℕ) (best : Best) → BestHolds book target budget best → EndHolds book (best_end best)
best_end_holds book target budget (LeastFound values users) h = (h.0.solution, h.1)
best_end_holds book target budget (NoneFound users) h = h
best_end_holds book target budget (SpentBest turns best) h = tt

pub best_end_spent : (book : Contents) (target budget : ℕ) (best : Best) (count : ℕ) (telling : Telling) → BestHolds book target budget best → Spent count ≡ best_end best → telling ≡ best_telling best
    → (count ≡ budget) × MaySpendSo book (Least target budget) telling
best_end_spent book target budget (LeastFound values users) count telling h e told = let f : Spent count ≡ Found values = e in cc
best_end_spent book target budget (NoneFound users) count telling h e told = let f : Spent count ≡ NoSolution users = e in cc
best_end_spent book target budget (SpentBest turns best) count telling h e told =
    let f : Spent count ≡ Spent turns = e in
    let n : count ≡ turns = cc in
    (n ∙ h.0, subst (λ (z : Telling). MaySpendSo book (Least target budget) z) (sym told) h.1)

-- ---- what is told of them

pub best_told : (s : SessionState) (target budget : ℕ) (best : Best) (reply : List ℕ) → BestHolds s.book target budget best → reply ≡ told_text s.book (best_end best) (best_telling best) → ToldLeast s target budget reply
best_told s target budget (LeastFound values users) reply h r = best_found values users h.0 r
best_told s target budget (NoneFound users) reply h r = best_none users h r
best_told s target budget (SpentBest turns None) reply h r = best_spent h.1 (r ∙ ap (λ (n : ℕ). spent_line n None) h.0)
best_told s target budget (SpentBest turns (Some values)) reply h r = best_so_far values h.2.0 h.1 (r ∙ ap (λ (n : ℕ). spent_best_line n s.book.variables values) h.0)

-- an end that is told so is this one
pub found_best : (best : Best) (values : List ℤ) (users : List Cid) → Found values ≡ best_end best → AsLeast users ≡ best_telling best → best ≡ LeastFound values users
found_best (LeastFound vs us) values users e told = let f : Found values ≡ Found vs = e in let g : AsLeast users ≡ AsLeast us = told in cc
found_best (NoneFound us) values users e told = let f : Found values ≡ NoSolution us = e in cc
found_best (SpentBest turns best) values users e told = let f : Found values ≡ Spent turns = e in cc

pub spent_so_far : (best : Best) (turns : ℕ) (values : Option (List ℤ)) → Spent turns ≡ best_end best → SoFar values ≡ best_telling best → best ≡ SpentBest turns values
spent_so_far (LeastFound vs us) turns values e told = let f : Spent turns ≡ Found vs = e in cc
spent_so_far (NoneFound us) turns values e told = let f : Spent turns ≡ NoSolution us = e in cc
spent_so_far (SpentBest count best) turns values e told = let f : Spent turns ≡ Spent count = e in let g : SoFar values ≡ SoFar best = told in cc
