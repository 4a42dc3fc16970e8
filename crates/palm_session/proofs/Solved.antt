-- What is left to reply of a search that has run.
use Rattle.std.proofs.Common.{◌≡◌, ℕ, ℤ, ◌++◌, None, Some, List, length, All, Contains, refl, sym, ap, ◌∙◌, subst, append-nil}
use Rattle.palm_base.specs.declared.terms.Cid.{Cid}
use Rattle.palm_base.proofs.cited.Members.{all_members}
use Rattle.palm_search.specs.declared.ending.SearchEnd.{SearchEnd}
use Rattle.palm_search.specs.declared.ending.SearchEnd.TheVariants.{Found, NoSolution, Spent}
use Rattle.palm_best.specs.declared.best.Best.TheVariants.{Least as LeastFound, NoSolution as NoneFound, Spent as SpentBest}
use Rattle.palm_repair.specs.declared.answer.RepairAnswer.TheVariants.{Found as RepairFound, NoSolution as RepairNone, Spent as RepairSpent}
use Rattle.palm_book.specs.Book.{Contents, IsUser, active_of}
use Rattle.palm_model.specs.Log.{IsActive}
use Rattle.palm_session.specs.Answers.{told_text}
use Rattle.palm_session.specs.Effects.{Telling, InShort, InFull, AsLeast, SoFar}
use Rattle.palm_session.specs.ReplyText.{reply_text, ReplyFits}
use Rattle.palm_session.specs.Serving.{HasRun}
use Rattle.palm_session.specs.State.{SessionState, IsHeld}
use Rattle.palm_session.specs.Ways.{TellsEnd, reply_of, written_of}
use Rattle.palm_session.specs.declared.request.Procedure.{Procedure}
use Rattle.palm_session.specs.declared.request.Procedure.TheVariants.{Dbt, Repair, Proof, Least}
use Rattle.palm_session.specs.declared.ways.Searched.{Searched}
use Rattle.palm_session.specs.declared.ways.Searched.TheVariants.{Dbt as DbtAnswer, Repair as RepairAnswer, Proof as ProofAnswer, Least as LeastAnswer}
use Rattle.palm_session.proofs.Minimizing.{BestHolds, found_best, spent_so_far}
use Rattle.palm_session.proofs.Searching.{end_holds, least_holds}
use Rattle.palm_session.proofs.Users.{active_user}

-- what was written and what is left are what is to be told, and what is left fits
pub record IsLeftToReply (t : SessionState) (answer : Searched) (end : SearchEnd) (telling : Telling) : Type 0 where
  pub told : told_text t.book end telling ≡ written_of telling ++ reply_text t (reply_of answer)
  pub fits : ReplyFits t (reply_of answer)

module _ (s t : SessionState) (is : IsHeld s) where
  -- ---- what is told is about what is in the book

  found_fits : (by : Procedure) (values : List ℤ) (telling : Telling) → HasRun s by (Found values) telling t → length values ≡ length t.book.variables
  found_fits by values telling h = (end_holds s is by h.turns (Found values) telling h.engine h.searches).1 ∙ ap (λ (z : SessionState). length z.book.variables) (sym h.after)

  users_fit : (users : List Cid) → ((c : Cid) → Contains users c → IsActive (active_of s.book) c) → t.book ≡ s.book → All (IsUser t.book) users
  users_fit users active same = subst (λ (b : Contents). All (IsUser b) users) (sym same) (all_members (IsUser s.book) users (λ c m. active_user s.book c (active c m)))

  none_fits : (by : Procedure) (users : List Cid) (telling : Telling) → HasRun s by (NoSolution users) telling t → All (IsUser t.book) users
  none_fits by users telling h = users_fit users (end_holds s is by h.turns (NoSolution users) telling h.engine h.searches).active (ap (λ (z : SessionState). z.book) h.after)

  best_fits : (by : Procedure) (values : List ℤ) (users : List Cid) → HasRun s by (Found values) (AsLeast users) t → All (IsUser t.book) users
  best_fits (Dbt budget) values users h = let f : AsLeast users ≡ InShort None = h.searches.told in cc
  best_fits (Repair tabu budget) values users h = let f : AsLeast users ≡ InShort (Some h.searches.count) = h.searches.told in cc
  best_fits (Proof budget) values users h = let f : AsLeast users ≡ InFull h.searches.text = h.searches.told in cc
  best_fits (Least target budget) values users h =
      let holds = least_holds s is target budget h.turns (Found values) (AsLeast users) h.engine h.searches in
      let best = subst (BestHolds s.book target budget) (found_best h.searches.best values users h.searches.ended h.searches.told) holds in
      users_fit users best.0.active (ap (λ (z : SessionState). z.book) h.after)

  so_far_fits : (by : Procedure) (turns : ℕ) (values : List ℤ) → HasRun s by (Spent turns) (SoFar (Some values)) t → length values ≡ length t.book.variables
  so_far_fits (Dbt budget) turns values h = let f : SoFar (Some values) ≡ InShort None = h.searches.told in cc
  so_far_fits (Repair tabu budget) turns values h = let f : SoFar (Some values) ≡ InShort (Some h.searches.count) = h.searches.told in cc
  so_far_fits (Proof budget) turns values h = let f : SoFar (Some values) ≡ InFull h.searches.text = h.searches.told in cc
  so_far_fits (Least target budget) turns values h =
      let holds = least_holds s is target budget h.turns (Spent turns) (SoFar (Some values)) h.engine h.searches in
      let best = subst (BestHolds s.book target budget) (spent_so_far h.searches.best turns (Some values) h.searches.ended h.searches.told) holds in
      best.2.1 ∙ ap (λ (z : SessionState). length z.book.variables) (sym h.after)

  -- ---- what is left to reply

  exactly : (answer : Searched) (by : Procedure) (a b : SearchEnd) (x y : Telling) → a ≡ b → x ≡ y → HasRun s by a x t → (HasRun s by b y t → IsLeftToReply t answer b y) → IsLeftToReply t answer a x
  exactly answer by a b x y e f run left =
      subst (λ (z : SearchEnd). IsLeftToReply t answer z x) (sym e) (subst (λ (z : Telling). IsLeftToReply t answer b z) (sym f)
      (left (subst (λ (z : Telling). HasRun s by b z t) f (subst (λ (z : SearchEnd). HasRun s by z x t) e run))))

  pub left_to_reply : (by : Procedure) (answer : Searched) (end : SearchEnd) (telling : Telling) → HasRun s by end telling t → TellsEnd answer end telling → IsLeftToReply t answer end telling
  left_to_reply by (DbtAnswer (Found values)) end telling run tells =
      exactly (DbtAnswer (Found values)) by end (Found values) telling (InShort None) tells.0 tells.1 run (λ h. record { told = refl; fits = found_fits by values (InShort None) h })
  left_to_reply by (DbtAnswer (NoSolution users)) end telling run tells =
      exactly (DbtAnswer (NoSolution users)) by end (NoSolution users) telling (InShort None) tells.0 tells.1 run (λ h. record { told = refl; fits = none_fits by users (InShort None) h })
  left_to_reply by (DbtAnswer (Spent turns)) end telling run tells =
      exactly (DbtAnswer (Spent turns)) by end (Spent turns) telling (InShort None) tells.0 tells.1 run (λ h. record { told = refl; fits = tt })
  left_to_reply by (RepairAnswer (RepairFound values)) end telling run tells =
      exactly (RepairAnswer (RepairFound values)) by end (Found values) telling (InShort (Some tells.0)) tells.2 tells.3 run (λ h. record { told = refl; fits = found_fits by values (InShort (Some tells.0)) h })
  left_to_reply by (RepairAnswer (RepairNone users)) end telling run tells =
      exactly (RepairAnswer (RepairNone users)) by end (NoSolution users) telling (InShort (Some tells.0)) tells.2 tells.3 run (λ h. record { told = refl; fits = none_fits by users (InShort (Some tells.0)) h })
  left_to_reply by (RepairAnswer (RepairSpent turns dropped)) end telling run tells =
      exactly (RepairAnswer (RepairSpent turns dropped)) by end (Spent turns) telling (InShort (Some dropped)) tells.2 (tells.3 ∙ ap (λ (n : ℕ). InShort (Some n)) (sym tells.1)) run
      (λ h. record { told = refl; fits = tt })
  left_to_reply by ProofAnswer end telling run tells =
      exactly ProofAnswer by end end telling (InFull tells.0) refl tells.1 run (λ h. record { told = sym (append-nil tells.0); fits = tt })
  left_to_reply by (LeastAnswer (LeastFound values users)) end telling run tells =
      exactly (LeastAnswer (LeastFound values users)) by end (Found values) telling (AsLeast users) tells.0 tells.1 run
      (λ h. record { told = refl; fits = (found_fits by values (AsLeast users) h, best_fits by values users h) })
  left_to_reply by (LeastAnswer (NoneFound users)) end telling run tells =
      exactly (LeastAnswer (NoneFound users)) by end (NoSolution users) telling (InShort None) tells.0 tells.1 run (λ h. record { told = refl; fits = none_fits by users (InShort None) h })
  left_to_reply by (LeastAnswer (SpentBest turns None)) end telling run tells =
      exactly (LeastAnswer (SpentBest turns None)) by end (Spent turns) telling (SoFar None) tells.0 tells.1 run (λ h. record { told = refl; fits = tt })
  left_to_reply by (LeastAnswer (SpentBest turns (Some values))) end telling run tells =
      exactly (LeastAnswer (SpentBest turns (Some values))) by end (Spent turns) telling (SoFar (Some values)) tells.0 tells.1 run (λ h. record { told = refl; fits = so_far_fits by turns values h })
