-- How often support was asked for in a settling, whole or interrupted.
use Rattle.std.proofs.Common.{◌≡◌, ℕ, zero, suc, ◌+◌, ◌≤◌, List, [], ◌∷◌, ◌++◌, filter, sum_by, Contains, inl, inr, refl, sym, ap, ◌∙◌, subst, arith}
use Rattle.std.proofs.lemmas.List.Sums.{sum_by-cons, sum_by-append}
use Rattle.palm_base.specs.declared.terms.Pair.{Pair}
use Rattle.palm_base.proofs.cited.Members.{member_nil, member_here, member_cases, member_filter}
use Rattle.palm_base.specs.Order.{Rises}
use Rattle.palm_model.specs.Log.{Active, cids_of, is_named}
use Rattle.palm_model.specs.State.{EngineState, AllFilled, present}
use Rattle.palm_events.proofs.cited.Names.{member_named}
use Rattle.palm_engine.specs.Settling.{Walks, Revision, Revisions}
use Rattle.palm_engine.specs.Work.{size_of, named_sizes, most_asked_in}
use Rattle.palm_engine.specs.Engine.{HasAsked}
use Rattle.palm_engine.proofs.cited.Walking.{took_none}
use Rattle.palm_engine.proofs.Removers.{HasRemovers, removers_of}
use Rattle.palm_engine.proofs.Working.{calm_sizes, some_pays, pays_then, same_named, revisions_pay}

-- ---- one more revision

pub asked_more : (s : EngineState) (rs : List Revision) (r : Revision) → most_asked_in s (rs ++ r ∷ []) ≡ most_asked_in s rs + named_sizes s (r.cid ∷ [])
asked_more s rs r =
    let f = λ (q : Revision). named_sizes s (q.cid ∷ []) in
    sum_by-append f rs (r ∷ []) ∙ ap (λ n. most_asked_in s rs + n) (sum_by-cons f r [] ∙ plus_none (f r))
  where
    plus_none : (n : ℕ) → n + 0 ≡ n
    plus_none n = omega arith

-- ---- the size of one constraint

member_sum : {X : Type 0} (f : X → ℕ) (xs : List X) (x : X) → Contains xs x → f x ≤ sum_by f xs
member_sum f [] x m = absurd (member_nil x m)
member_sum f (y ∷ xs) x m = elim (member_cases y xs x m) [
  | inl e ↦ let a = sum_by-cons f y xs in let b = ap f e in omega (arith, a, b)
  | inr n ↦ let a = sum_by-cons f y xs in let b = member_sum f xs x n in omega (arith, a, b)
]

pub owner_size : (s : EngineState) (a : Active) → Contains s.active a → size_of s.initial a.con ≤ named_sizes s (a.cid ∷ [])
owner_size s a m = member_sum (λ (b : Active). size_of s.initial b.con) (filter (λ b. is_named (a.cid ∷ []) b.cid) s.active) a
    (member_filter (λ (b : Active). is_named (a.cid ∷ []) b.cid) s.active a m (member_named (a.cid ∷ []) a.cid (member_here a.cid [])))

-- ---- whole and interrupted settlings

pub settling_asked : (s : EngineState) (rs : List Revision) (t : EngineState) (old new : ℕ) → Rises (cids_of s.active) → Revisions s rs t → old ≤ new → new ≤ old + most_asked_in s rs → HasRemovers s t old new → HasAsked s t old new
settling_asked s rs t old new rises run later few by =
    let pays = revisions_pay s rs t rises run in
    let k = pays.paid in
    record { gained = pays.gained; log = pays.log; later = later; least = removers_of s t old new pays.gained by pays.log; paid = omega (arith, few, k) }

pub interrupted_asked : (s : EngineState) (rs : List Revision) (m : EngineState) (a : Active) (walked : List Pair) (n : ℕ) (t : EngineState) (old new : ℕ) → Rises (cids_of s.active) → Revisions s rs m → Contains m.pending a.cid → AllFilled (present m)
    → Walks a walked m n t → old ≤ new → new ≤ old + (most_asked_in s rs + named_sizes s (a.cid ∷ [])) → HasRemovers s t old new → HasAsked s t old new
interrupted_asked s rs m a walked zero t old new rises run pending filled walk later few by =
    let pays = revisions_pay s rs m rises run in
    let none = took_none a walked m zero t walk refl filled in
    let k = pays.paid in
    let one = calm_sizes m a.cid pending in
    let same = same_named s m (a.cid ∷ []) pays.active pays.initial in
    let log = ap (λ (z : EngineState). z.log) none.same ∙ pays.log in
    record {
      gained = pays.gained;
      log = log;
      later = later;
      least = removers_of s t old new pays.gained by log;
      paid = omega (arith, few, k, one, same);
    }
interrupted_asked s rs m a walked (suc n) t old new rises run pending filled walk later few by =
    let pays = revisions_pay s rs m rises run in
    let rises' : Rises (cids_of m.active) = subst (λ (l : List Active). Rises (cids_of l)) (sym pays.active) rises in
    let last = some_pays a walked m (suc n) t rises' pending (omega arith) walk in
    let same = same_named s m (a.cid ∷ []) pays.active pays.initial in
    let all = pays_then s m t (most_asked_in s rs) (named_sizes m (a.cid ∷ [])) pays last in
    let k = all.paid in
    record { gained = all.gained; log = all.log; later = later; least = removers_of s t old new all.gained by all.log; paid = omega (arith, few, k, same) }
