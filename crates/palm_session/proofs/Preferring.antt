-- What `preferred` tells holds of the active constraints, and names constraints of the book.
use Rattle.std.proofs.Common.{◌≡◌, ℕ, List, [], All, Contains, refl, ap, ◌∙◌, subst}
use Rattle.std.proofs.lemmas.List.Elements.{All-contains, All-head}
use Rattle.palm_base.specs.declared.terms.Cid.{Cid}
use Rattle.palm_base.specs.declared.terms.Cid.TheVariants.{User}
use Rattle.palm_base.proofs.cited.Members.{all_members, member_map}
use Rattle.palm_book.specs.Book.{Contents, HasNumber, IsBook, IsUser}
use Rattle.palm_prefer.proofs.cited.Keeping.{conflicts_hold, conflicts_tight, kept_free}
use Rattle.palm_prefer.proofs.cited.Users.{hard_users, keep_users, kept_active, left_numbers, left_users}
use Rattle.palm_prefer.specs.Laws.{IsTight, conflicts_of}
use Rattle.palm_prefer.specs.Preferred.{IsKept, IsPreferred}
use Rattle.palm_prefer.specs.declared.answer.LeftOut.{LeftOut}
use Rattle.palm_prefer.specs.declared.answer.Preferred.{Preferred}
use Rattle.palm_prefer.specs.declared.answer.Preferred.TheVariants.{Hard, Kept}
use Rattle.palm_prefer.specs.declared.weights.Weight.{Weight}
use Rattle.palm_session.specs.Answers.{SaysPreferred, preferred_text, Accepts, waits, contradicts, says}
use Rattle.palm_session.specs.ReplyText.{LeavesUsers, NamesUsers}
use Rattle.palm_session.specs.State.{SessionState, IsState}
use Rattle.palm_session.specs.Told.{AreFree, IsLeftOut, ToldPreferred}
use Rattle.palm_session.specs.Told.ToldPreferred.{preferred_hard, preferred_kept, preferred_paused}
use Rattle.palm_session.specs.declared.request.Question.TheVariants.{Preferred as PreferredAsked}
use Rattle.palm_session.specs.declared.request.Request.TheVariants.{Ask}
use Rattle.palm_session.proofs.cited.LawsOfAnswers.{query_same}

module _ (book : Contents) (weights : List Weight) where
  -- ---- what is preferred names constraints of the book

  pub names_users : (preferred : Preferred) → IsPreferred book weights preferred → NamesUsers book preferred
  names_users (Hard conflict) is = hard_users book weights conflict is
  names_users (Kept keep left) is = (
    keep_users book weights keep left is,
    all_members (LeavesUsers book) left (λ out m. record {
      numbered = All-contains (λ (o : LeftOut). HasNumber book o.number) left out (left_numbers book weights keep left is) m;
      users = All-contains (λ (o : LeftOut). All (IsUser book) o.conflict) left out (left_users book weights keep left is) m;
    }),
  )

  -- ---- and is true of them

  module _ (book_is : IsBook book) where
    left_out : (keep : List Cid) (left : List LeftOut) → IsKept book weights keep left → All (IsLeftOut book) left
    left_out keep left is = all_members (IsLeftOut book) left (λ out m. record {
      tight = All-contains (IsTight book) (conflicts_of (Kept keep left)) out.conflict (conflicts_tight book weights (Kept keep left) book_is is)
          (member_map (λ (o : LeftOut). o.conflict) left out m);
      among = All-contains (λ (o : LeftOut). Contains o.conflict (User o.number)) left out (conflicts_hold book weights keep left is) m;
    })

    kept_are_free : (keep : List Cid) (left : List LeftOut) (is : IsKept book weights keep left) → AreFree book is.kept
    kept_are_free keep left is = record { within = kept_active book weights keep left is; free = kept_free book weights keep left is }

preferred_told : (s : SessionState) → IsBook s.book → (reply : List ℕ) (preferred : Preferred) → IsPreferred s.book s.weights preferred → reply ≡ preferred_text s.book preferred → ToldPreferred s reply
preferred_told s book_is reply (Hard conflict) is e =
    preferred_hard conflict (All-head (IsTight s.book) conflict [] (conflicts_tight s.book s.weights (Hard conflict) book_is is)) e
preferred_told s book_is reply (Kept keep left) is e =
    preferred_kept is.kept left (kept_are_free s.book s.weights book_is keep left is) (left_out s.book s.weights book_is keep left is)
    (e ∙ ap (λ (k : List Cid). preferred_text s.book (Kept k left)) is.named)

pub told_preferred : (s : SessionState) (reply : List ℕ) (t : SessionState) → IsState s → Accepts s (Ask PreferredAsked) reply t → ToldPreferred s reply
told_preferred s reply t is (waits w) = preferred_paused w.paused refl
told_preferred s reply t is (contradicts effect goes does c) = absurd c.contradictable
told_preferred s reply t is (says effect goes does quiet said) =
    let same : t ≡ s = query_same s does.0 t effect does.1 does.2 in
    let here : SaysPreferred s reply = subst (λ (z : SessionState). SaysPreferred z reply) same said in
    preferred_told s is.held.book reply here.0 here.1 here.2
