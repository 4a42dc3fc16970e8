-- What a lemma uses and says: it uses more with a step, and stays true behind more lemmas. The users that a proof tells are
-- those of its last lemma.
use Rattle.std.proofs.Common.{◌≡◌, ℕ, zero, suc, ◌-◌, List, [], ◌∷◌, ◌++◌, All, Contains, Some, slice_get, inl, inr, refl, sym, subst}
use Rattle.std.proofs.lemmas.List.Elements.{All-map, Contains-append_left}
use Rattle.palm_base.specs.declared.terms.Pair.{Pair}
use Rattle.palm_base.specs.declared.terms.Cid.TheVariants.{User}
use Rattle.palm_base.proofs.cited.Members.{all_members, member_cases, member_here, member_map, member_nil, member_same, member_there}
use Rattle.palm_book.specs.Book.{Contents, HasNumber, IsUser, initial_of}
use Rattle.palm_book.specs.declared.book.BookCon.{BookCon}
use Rattle.palm_book.proofs.cited.Any.{any_member}
use Rattle.palm_model.specs.Closure.{IsSolution}
use Rattle.palm_model.specs.Domains.{Assignment, Domains}
use Rattle.palm_model.specs.declared.constraint.Con.{Con}
use Rattle.palm_claim.specs.declared.ground.Ground.{Ground}
use Rattle.palm_claim.specs.declared.ground.Ground.TheVariants.{By, Assumed, OfLemma}
use Rattle.proof_text.specs.Draft.{Draft, Notes, users_of}
use Rattle.proof_text.specs.Users.{ArePicked, AreUsed, IsAmong, Uses, by_lemma, by_step}
use Rattle.proof_text.specs.declared.lemma.Lemma.{Lemma}

-- ---- behind more lemmas, and behind one more step

-- a list has its items behind more too
pub get_before : {X : Type 0} (xs ys : List X) (k : ℕ) (x : X) → slice_get xs k ≡ Some x → slice_get (xs ++ ys) k ≡ Some x
get_before [] ys k x at = cc
get_before (y ∷ xs) ys zero x at = at
get_before (y ∷ xs) ys (suc k) x at = get_before xs ys k x at

-- behind more lemmas, a lemma uses what it used
pub uses_behind : (lemmas more : List Lemma) (lemma : Lemma) (number : ℕ) → Uses lemmas lemma number → Uses (lemmas ++ more) lemma number
uses_behind lemmas more _ _ (by_step lemma number named) = by_step lemma number named
uses_behind lemmas more _ _ (by_lemma lemma earlier place number named stands uses) =
    by_lemma lemma earlier place number named (get_before lemmas more (place - 1) earlier stands) (uses_behind lemmas more earlier number uses)

-- the lemma with more steps: it assumes the same pairs, and names whatever it named
pub record IsLonger (more lemma : Lemma) : Type 0 where
  pub pairs : more.pairs ≡ lemma.pairs
  pub constraints : (number : ℕ) → Contains lemma.constraints number → Contains more.constraints number
  pub lemmas : (place : ℕ) → Contains lemma.lemmas place → Contains more.lemmas place

pub uses_longer : (lemmas : List Lemma) (more lemma : Lemma) (number : ℕ) → IsLonger more lemma → Uses lemmas lemma number → Uses lemmas more number
uses_longer lemmas more _ _ longer (by_step lemma number named) = by_step more number (longer.constraints number named)
uses_longer lemmas more _ _ longer (by_lemma lemma earlier place number named stands uses) =
    by_lemma more earlier place number (longer.lemmas place named) stands uses

-- what a step leaves of the lemma begun is that
pub notes_longer : (d : Draft) (ground : Ground) (lemma : Lemma) → Notes d ground lemma → IsLonger lemma d.begun
notes_longer d (By name reasons) lemma notes = subst (λ (l : Lemma). IsLonger l d.begun) (sym notes.3) (record {
  pairs = refl;
  constraints = λ k m. Contains-append_left d.begun.constraints (notes.0.number ∷ []) k m;
  lemmas = λ k m. m;
})
notes_longer d Assumed lemma notes = subst (λ (l : Lemma). IsLonger l d.begun) (sym notes) (record { pairs = refl; constraints = λ k m. m; lemmas = λ k m. m })
notes_longer d (OfLemma number) lemma notes = subst (λ (l : Lemma). IsLonger l d.begun) (sym notes) (record {
  pairs = refl;
  constraints = λ k m. m;
  lemmas = λ k m. Contains-append_left d.begun.lemmas (number ∷ []) k m;
})

-- ---- the used constraints

-- a listed constraint that the lemma uses
pub record IsUsed (book : Contents) (lemmas : List Lemma) (lemma : Lemma) (c : Con) : Type 0 where
  pub owner : BookCon
  pub listed : Contains book.constraints owner
  pub is : owner.con ≡ c
  pub uses : Uses lemmas lemma owner.number

-- where more is used, it is used too
pub used_more : (book : Contents) (lemmas others : List Lemma) (lemma other : Lemma) (c : Con)
    → ((number : ℕ) → Uses lemmas lemma number → Uses others other number) → IsUsed book lemmas lemma c → IsUsed book others other c
used_more book lemmas others lemma other c more used = record { owner = used.owner; listed = used.listed; is = used.is; uses = more used.owner.number used.uses }

-- ---- what a lemma says

-- the assignment has the pairs
abbrev pub HasPairs : Assignment → List Pair → Type 0
HasPairs b pairs = (p : Pair) → Contains pairs p → b p.var ≡ p.value

-- no solution has all the pairs
abbrev pub AreExcluded : Domains → (Con → Type 0) → List Pair → Type 0
AreExcluded initial E pairs = (b : Assignment) → IsSolution initial E b → HasPairs b pairs → ⊥

-- no solution of what the lemma uses has all its pairs
abbrev pub IsTrue : Contents → List Lemma → Lemma → Type 0
IsTrue book lemmas lemma = AreExcluded (initial_of book) (IsUsed book lemmas lemma) lemma.pairs

-- a solution of more constraints is one of fewer
pub solves_fewer : (initial : Domains) (E F : Con → Type 0) (b : Assignment) → ((c : Con) → E c → F c) → IsSolution initial F b → IsSolution initial E b
solves_fewer initial E F b fewer solution = record { within = solution.within; satisfies = λ c is. solution.satisfies c (fewer c is) }

-- a lemma stays true behind more lemmas
pub true_behind : (book : Contents) (lemmas more : List Lemma) (lemma : Lemma) → IsTrue book lemmas lemma → IsTrue book (lemmas ++ more) lemma
true_behind book lemmas more lemma is b solution =
    is b (solves_fewer (initial_of book) (IsUsed book lemmas lemma) (IsUsed book (lemmas ++ more) lemma) b
    (λ c used. used_more book lemmas (lemmas ++ more) lemma lemma c (uses_behind lemmas more lemma) used) solution)

-- ---- the users

-- what was picked are the items that pass
picked_member : {X : Type 0} (P : X → Type 0) (xs picked : List X) (x : X) → ArePicked P xs picked → Contains picked x → Contains xs x
picked_member P [] picked x are m = absurd (member_nil x (subst (λ ys. Contains ys x) are m))
picked_member P (y ∷ xs) picked x are m = elim are [
  | inl a ↦ elim (member_cases y a.1.0 x (subst (λ ys. Contains ys x) a.1.1 m)) [
    | inl e ↦ member_same (y ∷ xs) y x e (member_here y xs)
    | inr k ↦ member_there y xs x (picked_member P xs a.1.0 x a.1.2 k)
  ]
  | inr a ↦ member_there y xs x (picked_member P xs picked x a.1 m)
]

member_picked : {X : Type 0} (P : X → Type 0) (xs picked : List X) (x : X) → ArePicked P xs picked → Contains xs x → P x → Contains picked x
member_picked P [] picked x are m p = absurd (member_nil x m)
member_picked P (y ∷ xs) picked x are m p = elim are [
  | inl a ↦ subst (λ ys. Contains ys x) (sym a.1.1) (elim (member_cases y xs x m) [
    | inl e ↦ member_same (y ∷ a.1.0) y x e (member_here y a.1.0)
    | inr k ↦ member_there y a.1.0 x (member_picked P xs a.1.0 x a.1.2 k p)
  ])
  | inr a ↦ elim (member_cases y xs x m) [
    | inl e ↦ absurd (a.0 (subst P (sym e) p))
    | inr k ↦ member_picked P xs picked x a.1 k p
  ]
]

-- a constraint that is used is among the users
pub used_among : (book : Contents) (lemmas : List Lemma) (lemma : Lemma) (used : List BookCon) (c : Con)
    → AreUsed book lemmas lemma used → IsUsed book lemmas lemma c → IsAmong book (users_of used) c
used_among book lemmas lemma used c are is = record {
  owner = is.owner;
  listed = is.listed;
  is = is.is;
  user = member_map (λ (o : BookCon). User o.number) used is.owner (member_picked (λ (o : BookCon). Uses lemmas lemma o.number) book.constraints used is.owner are is.listed is.uses);
}

-- the users are constraints of the book
pub users_listed : (book : Contents) (lemmas : List Lemma) (lemma : Lemma) (used : List BookCon) → AreUsed book lemmas lemma used → All (IsUser book) (users_of used)
users_listed book lemmas lemma used are =
    All-map (IsUser book) (λ (c : BookCon). User c.number) used (all_members (λ c. HasNumber book c.number) used (λ c m.
    any_member (λ (o : BookCon). o.number ≡ c.number) book.constraints c (picked_member (λ (o : BookCon). Uses lemmas lemma o.number) book.constraints used c are m) refl))
