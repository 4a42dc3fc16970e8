-- What is known of a search that fits a book: all that is written of it has a name.
use Rattle.std.proofs.Common.{◌≡◌, ℕ, ℤ, ◌<◌, Bool, true, false, not, List, [], ◌∷◌, length, All, Contains, inl, inr, refl, sym, ap, ◌∙◌, subst}
use Rattle.std.proofs.lemmas.Bool.{cases_Bool, false≢true}
use Rattle.std.proofs.lemmas.List.{length-map}
use Rattle.palm_base.specs.declared.terms.Pair.{Pair}
use Rattle.palm_base.specs.declared.terms.Cid.{Cid}
use Rattle.palm_base.specs.declared.terms.Cid.TheVariants.{Decide, Not, User}
use Rattle.palm_base.proofs.cited.Members.{all_members, filter_member}
use Rattle.palm_model.specs.Domains.{Domains, values_of}
use Rattle.palm_model.specs.Log.{Active, IsActive, log_pairs}
use Rattle.palm_model.specs.State.{EngineState, IsEmptyAt, IsValid, is_user, present}
use Rattle.palm_model.proofs.cited.Narrowing.{has_declared}
use Rattle.palm_model.proofs.cited.Without.{length_without}
use Rattle.palm_events.specs.Reasons.{ReasonsAreRight}
use Rattle.palm_events.proofs.cited.Conflicts.{flat_justifiers}
use Rattle.palm_book.specs.Book.{Contents, IsUser, active_of, initial_of, values_at}
use Rattle.palm_cert.proofs.cited.Logged.{active_user, as_long}
use Rattle.palm_cert.proofs.cited.Reached.{values_same}
use Rattle.palm_search.specs.Breaking.{HasTurned}
use Rattle.palm_search.specs.Kept.{HasOnlyUsers}
use Rattle.palm_search.specs.Search.{HasNoSolution, IsFound}
use Rattle.palm_search.specs.Turns.{SearchState}
use Rattle.palm_search.proofs.cited.Leaving.{turned_ended}
use Rattle.palm_search.specs.declared.turn.Turn.{Turn}
use Rattle.proof_write.specs.Fitting.{FitsBook, IsNamed}

-- ---- users

-- what is active in the book is a user
pub book_users : (book : Contents) (s : EngineState) → s.active ≡ active_of book → HasOnlyUsers s
book_users book s active a m = user_of_book a.cid (active_user book a.cid (subst (λ (l : List Active). IsActive l a.cid) active (record { owner = a; posted = m; named = refl })))
  where
    user_of_book : (c : Cid) → IsUser book c → is_user c ≡ true
    user_of_book (Decide x) user = absurd user
    user_of_book (Not p) user = absurd user
    user_of_book (User n) user = refl

-- a user of the book has a name there, and what has one and is a user is one of the book
pub user_named : (book : Contents) (c : Cid) → IsUser book c → IsNamed book c
user_named book (Decide x) user = tt
user_named book (Not p) user = tt
user_named book (User n) user = user

pub named_user : (book : Contents) (c : Cid) → IsNamed book c → is_user c ≡ true → IsUser book c
named_user book (Decide x) named user = false≢true user
named_user book (Not p) named user = false≢true user
named_user book (User n) named user = named

-- ---- a search that fits

module _ (book : Contents) (s : SearchState) (fits : FitsBook book s) where
  -- the emptied variable is one of the book
  pub emptied_declared : (x : ℕ) → IsEmptyAt (present s.engine) x → x < length book.variables
  emptied_declared x empty = subst (λ (n : ℕ). x < n) (length_without s.engine.initial (log_pairs s.engine.log) ∙ as_long s.engine.initial book fits.initial) empty.exists

  -- with its values
  pub emptied_values : (x : ℕ) → values_at book.variables x ≡ values_of s.engine.initial x
  emptied_values x = sym (ap (λ (d : Domains). values_of d x) fits.initial ∙ values_same book.variables x)

  pub decisions_declared : All (λ p. p.var < length book.variables) s.decisions
  decisions_declared = all_members (λ (p : Pair). p.var < length book.variables) s.decisions fits.decided

  -- the users that have no solution are constraints of the book
  pub none_users : IsValid s.engine → (users : List Cid) → HasNoSolution s.engine users → All (IsUser book) users
  none_users valid users none = all_members (IsUser book) users (λ c m.
      let r = filter_member is_user none.conflict c (subst (λ (l : List Cid). Contains l c) none.are m) in
      named_user book c (fits.users c (flat_justifiers s.engine valid none.flat.var c (none.flat.is.sound c r.0)).1) r.1)

  -- there is a found value for each variable
  pub found_long : (values : List ℤ) → IsFound (present s.engine) values → length values ≡ length book.variables
  found_long values found =
      sym (length-map values (λ (v : ℤ). v ∷ [])) ∙ ap (λ (d : Domains). length d) (sym found)
      ∙ length_without s.engine.initial (log_pairs s.engine.log) ∙ as_long s.engine.initial book fits.initial

-- ---- along a run

-- a run from the book's variables and active constraints fits the book
pub turned_fits : ReasonsAreRight → (guided ordered : Bool) (budget : ℕ) (book : Contents) (s : EngineState) (turns : List Turn) (t : SearchState) → IsValid s → s.initial ≡ initial_of book → s.active ≡ active_of book
    → HasTurned guided ordered budget s turns t → FitsBook book t
turned_fits right guided ordered budget book s turns t valid initial active turned =
    let ended = turned_ended right guided ordered s turned.start turns t (book_users book s active) valid turned.settles turned.taken in
    let same : t.engine.initial ≡ initial_of book = ended.remembers.initial ∙ initial in
    record {
      initial = same;
      users = λ c is. elim (cases_Bool (is_user c)) [
        | inl user ↦ user_named book c (active_user book c (subst (λ (l : List Active). IsActive l c) active
            (subst (λ (k : Cid). IsActive s.active k) is.named (ended.remembers.others is.owner is.posted (ap not (subst (λ (k : Cid). is_user k ≡ true) (sym is.named) user))))))
        | inr other ↦ no_user_named book c other
      ];
      decided = λ p m. subst (λ (n : ℕ). p.var < n) (as_long t.engine.initial book same) (has_declared t.engine.initial p.var p.value (ended.searching.declared.decided p m));
    }
  where
    no_user_named : (book : Contents) (c : Cid) → is_user c ≡ false → IsNamed book c
    no_user_named book (Decide x) other = tt
    no_user_named book (Not p) other = tt
    no_user_named book (User n) other = absurd (false≢true (sym other))
