-- What is answered to the names of the constraints that the last lemma uses.
use Rattle.std.proofs.Common.{◌≡◌, ◌∙◌, ◌<◌, ◌≤◌, ℕ, Bool, List, length, map, All, Any, inl, inr, ap, arith}
use Rattle.std.proofs.lemmas.List.{nil_from_length}
use Rattle.std.proofs.lemmas.List.Elements.{All-contains}
use Rattle.palm_base.proofs.cited.Members.{all_known, all_members}
use Rattle.palm_base.specs.declared.terms.Pair.{Pair}
use Rattle.palm_book.specs.Book.{Contents, HasConstraint}
use Rattle.palm_book.specs.declared.book.BookCon.{BookCon}
use Rattle.palm_book.proofs.cited.Any.{any_member, member_any}
use Rattle.palm_claim.proofs.cited.Asked.{constraint_known}
use Rattle.proof_text.specs.Draft.{Draft}
use Rattle.proof_text.specs.Verdict.{AreUsers}
use Rattle.proof_check.specs.Marks.{IsUsage, marked_in}
use Rattle.proof_check.proofs.Picking.{marked_used, used_marked}

pub some_unlisted : (book : Contents) (names : List (List ℕ)) → (All (HasConstraint book) names → ⊥) → Any (λ name. HasConstraint book name → ⊥) names
some_unlisted book names none = elim (all_known (HasConstraint book) names (λ name m. constraint_known book name)) [
  | inl all ↦ absurd (none (all_members (HasConstraint book) names all))
  | inr s ↦ any_member (λ name. HasConstraint book name → ⊥) names s.0 s.1 s.2
]

pub none_unlisted : (book : Contents) (names : List (List ℕ)) → All (HasConstraint book) names → Any (λ name. HasConstraint book name → ⊥) names → ⊥
none_unlisted book names all some =
    let m = member_any (λ name. HasConstraint book name → ⊥) names some in
    m.2 (All-contains (HasConstraint book) names m.0 all m.1)

-- a lemma with a pair is not free
pub not_free : (d : Draft) (names : List (List ℕ)) → 0 < length d.begun.pairs → AreUsers d names → ⊥
not_free d names some users = omega (arith, some, ap (λ (ps : List Pair). length ps) users.free)

module _ (d : Draft) (names : List (List ℕ)) (marks : List Bool) (usage : IsUsage d.lemmas d.begun marks) where
  pub other_names : (names ≡ map (λ c. c.name) (marked_in marks d.book.constraints) → ⊥) → AreUsers d names → ⊥
  other_names differ users = differ (users.named ∙ ap (λ (cs : List BookCon). map (λ c. c.name) cs) (used_marked d.book d.lemmas d.begun marks users.used usage users.are_used))

  pub these_names : length d.begun.pairs ≤ 0 → names ≡ map (λ c. c.name) (marked_in marks d.book.constraints) → AreUsers d names
  these_names none named = record {
    free = nil_from_length d.begun.pairs (omega (arith, none));
    used = marked_in marks d.book.constraints;
    are_used = marked_used d.book d.lemmas d.begun marks usage;
    named = named;
  }
