-- The weights of constraints stay those of different constraints of the book, whatever is changed.
use Rattle.std.proofs.Common.{◌≡◌, ◌≢◌, ℕ, ◌==◌, Bool, true, not, List, [], ◌∷◌, ◌++◌, get_or, slice_get, remove, Option, Some, None, inl, inr, refl, sym, ap, ◌∙◌, arith}
use Rattle.std.proofs.lemmas.Bool.{eq-eqb, false≢true}
use Rattle.std.proofs.lemmas.List.Elements.{All-contains, All-nil, All-push, All-weaker, Contains-append_left, Contains-get_or}
use Rattle.std.proofs.lemmas.List.Kept.{AllPairs-filter}
use Rattle.std.proofs.lemmas.List.Quantifiers.{all_pairs_push}
use Rattle.palm_base.proofs.cited.Members.{all_members, filter_member, member_get}
use Rattle.palm_book.specs.Book.{BookVar, Contents, HasNumber, with_active}
use Rattle.palm_book.specs.declared.book.BookCon.{BookCon}
use Rattle.palm_book.proofs.cited.Any.{any_member, member_any}
use Rattle.palm_prefer.specs.Preferred.{AreWeights}
use Rattle.palm_prefer.specs.declared.weights.Weight.{Weight}
use Rattle.palm_session.specs.Effects.{weighing, without_weight}
use Rattle.palm_session.proofs.ActiveLists.{split_place, turned, turned_here, turned_there}

pub no_weights : {book : Contents} → AreWeights book []
no_weights {book} = record {
  different = λ i j d before within. absurd (omega (arith, within));
  present = All-nil (λ (w : Weight). HasNumber book w.number);
}

-- ---- another book

pub weights_kept : (book other : Contents) (weights : List Weight) → ((n : ℕ) → HasNumber book n → HasNumber other n) → AreWeights book weights → AreWeights other weights
weights_kept book other weights keeps are = record {
  different = are.different;
  present = All-weaker (λ (w : Weight). HasNumber book w.number) (λ (w : Weight). HasNumber other w.number) (λ w h. keeps w.number h) weights are.present;
}

-- with one more variable the constraints are the same
pub weights_declared : (book : Contents) (variables : List BookVar) (weights : List Weight) → AreWeights book weights → AreWeights (record book { variables = variables }) weights
weights_declared book variables weights are = record { different = are.different; present = are.present }

-- with one more constraint the others are still there
pub weights_added : (book : Contents) (c : BookCon) (weights : List Weight) → AreWeights book weights → AreWeights (record book { constraints = book.constraints ++ c ∷ [] }) weights
weights_added book c weights are = weights_kept book (record book { constraints = book.constraints ++ c ∷ [] }) weights (λ n h.
    let m = member_any (λ (d : BookCon). d.number ≡ n) book.constraints h in
    any_member (λ (d : BookCon). d.number ≡ n) (book.constraints ++ c ∷ []) m.0 (Contains-append_left book.constraints (c ∷ []) m.0 m.1) m.2) are

-- ---- the constraint at a place

-- a test that is passed by other numbers alone
other_number : (n k : ℕ) → not (k == n) ≡ true → k ≡ n → ⊥
other_number n k passes e = false≢true (sym (ap not (eq-eqb k n e)) ∙ passes)

-- other constraints than the one with the number keep their weights
pub weights_without : (book : Contents) (number : ℕ) (weights : List Weight) → AreWeights book weights → AreWeights book (without_weight number weights)
weights_without book number weights are = record {
  different = AllPairs-filter (λ (v w : Weight). v.number ≢ w.number) (λ (w : Weight). not (w.number == number)) weights are.different;
  present = all_members (λ (w : Weight). HasNumber book w.number) (without_weight number weights) (λ w m.
      All-contains (λ (v : Weight). HasNumber book v.number) weights w are.present (filter_member (λ (v : Weight). not (v.number == number)) weights w m).0);
}

module _ (book : Contents) (place : ℕ) (c : BookCon) (at : slice_get book.constraints place ≡ Some c) (weights : List Weight) (are : AreWeights book weights) where
  -- the constraint has its number, whether it is active or relaxed
  pub weights_turned : (b : Bool) → AreWeights (record book { constraints = with_active book.constraints place b }) weights
  weights_turned b = weights_kept book (record book { constraints = with_active book.constraints place b }) weights (λ n h.
      let m = member_any (λ (d : BookCon). d.number ≡ n) book.constraints h in
      elim (split_place book.constraints place c m.0 at m.1) [
        | inl e ↦
            any_member (λ (d : BookCon). d.number ≡ n) (with_active book.constraints place b) (turned c b) (turned_here book.constraints place b c at) (ap (λ (d : BookCon). d.number) e ∙ m.2)
        | inr k ↦ any_member (λ (d : BookCon). d.number ≡ n) (with_active book.constraints place b) m.0 (turned_there book.constraints place b m.0 k) m.2
      ]) are

  -- a constraint that is taken out takes its weight with it
  pub weights_less : AreWeights (record book { constraints = remove book.constraints place }) (without_weight c.number weights)
  weights_less = record {
    different = (weights_without book c.number weights are).different;
    present = all_members (λ (w : Weight). HasNumber (record book { constraints = remove book.constraints place }) w.number) (without_weight c.number weights) (λ w m.
        let passed = filter_member (λ (v : Weight). not (v.number == c.number)) weights w m in
        let h = All-contains (λ (v : Weight). HasNumber book v.number) weights w are.present passed.0 in
        let d = member_any (λ (d : BookCon). d.number ≡ w.number) book.constraints h in
        elim (split_place book.constraints place c d.0 at d.1) [
          | inl e ↦ absurd (other_number c.number w.number passed.1 (sym d.2 ∙ sym (ap (λ (x : BookCon). x.number) e)))
          | inr k ↦ any_member (λ (d : BookCon). d.number ≡ w.number) (remove book.constraints place) d.0 k d.2
        ]);
  }

  -- a constraint of the book has this weight, or none
  pub weights_set : (weight : Option ℕ) → AreWeights book (weighing c.number weight weights)
  weights_set None = weights_without book c.number weights are
  weights_set (Some weight) =
      let others = without_weight c.number weights in
      let rest = weights_without book c.number weights are in
      let w : Weight = record { number = c.number; weight = weight } in
      record {
        different = all_pairs_push (λ (v w : Weight). v.number ≢ w.number) others w rest.different (λ k d lt.
            let passed = filter_member (λ (v : Weight). not (v.number == c.number)) weights (get_or others k d) (Contains-get_or others k d lt) in
            other_number c.number (get_or others k d).number passed.1);
        present = All-push (λ (v : Weight). HasNumber book v.number) others w rest.present
            (any_member (λ (d : BookCon). d.number ≡ c.number) book.constraints c (member_get book.constraints place c at) refl);
      }
