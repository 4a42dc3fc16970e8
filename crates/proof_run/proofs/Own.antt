-- The constraints of a book as a proof lists them: the active ones in the order of the book, under numbers of their own; and
-- which of them are the users of a list.
use Rattle.std.proofs.Common.{◌≡◌, ◌≢◌, ◌↔◌, ℕ, suc, ◌+◌, ◌<◌, ◌≤◌, true, Option, List, [], ◌∷◌, ◌++◌, length, map, filter, All, AllPairs, Contains, IfSome, nat_lt, inl, inr, refl, sym, ap, ◌∙◌, subst, arith}
use Rattle.std.proofs.lemmas.Bool.{ltb-true}
use Rattle.std.proofs.lemmas.List.Elements.{All-contains}
use Rattle.std.proofs.lemmas.List.Kept.{AllPairs-cons, AllPairs-filter}
use Rattle.palm_base.specs.declared.terms.Cid.{Cid}
use Rattle.palm_base.specs.declared.terms.Cid.TheVariants.{User}
use Rattle.palm_base.specs.Order.{Rises, cid_before}
use Rattle.palm_base.proofs.cited.CidOrder.{cid_known, not_before_itself}
use Rattle.palm_base.proofs.cited.Members.{all_members, filter_member, member_cases, member_filter, member_here, member_known, member_nil, member_place, member_same, member_tail, member_there}
use Rattle.palm_book.specs.Book.{Contents, IsBook, initial_of, number_name, user_name}
use Rattle.palm_book.specs.declared.book.BookCon.{BookCon}
use Rattle.palm_book.proofs.cited.BookLemmas.{number_name_at}
use Rattle.palm_cert.proofs.cited.Before.{Before, before_from, filter_shorter}
use Rattle.palm_model.specs.Constraint.{IsWellFormed}
use Rattle.palm_read.specs.Name.{IsNameText}
use Rattle.proof_text.specs.Draft.{users_of}
use Rattle.proof_text.specs.Users.{ArePicked}
use Rattle.proof_run.specs.Accepted.{as_listed, numbered_from}

-- the active constraints of a book, which a proof lists
abbrev pub actives : Contents → List BookCon
actives book = filter (λ c. c.active) book.constraints

-- ---- numbers

-- constraints that are numbered from n have no number below n
numbered_above : (n : ℕ) (cs : List BookCon) (d : BookCon) → Contains (numbered_from n cs) d → n ≤ d.number
numbered_above n [] d m = absurd (member_nil d m)
numbered_above n (c ∷ cs) d m = elim (member_cases (record c { number = n }) (numbered_from (n + 1) cs) d m) [
  | inl e ↦ let same : n ≡ d.number = ap (λ (z : BookCon). z.number) e in omega (arith, same)
  | inr k ↦ let above = numbered_above (n + 1) cs d k in omega (arith, above)
]

-- their numbers rise
numbered_rises : (n : ℕ) (cs : List BookCon) → AllPairs (λ c d. c.number < d.number) (numbered_from n cs)
numbered_rises n [] = λ i j d lt within. absurd (omega (arith, within))
numbered_rises n (c ∷ cs) =
    AllPairs-cons (λ (d e : BookCon). d.number < e.number) (record c { number = n }) (numbered_from (n + 1) cs)
    (all_members (λ (e : BookCon). n < e.number) (numbered_from (n + 1) cs) (λ e m. let above = numbered_above (n + 1) cs e m in omega (arith, above)))
    (numbered_rises (n + 1) cs)

pub numbered_length : (n : ℕ) (cs : List BookCon) → length (numbered_from n cs) ≡ length cs
numbered_length n [] = refl
numbered_length n (c ∷ cs) = ap suc (numbered_length (n + 1) cs)

-- the names stay, in their order
pub numbered_names : (n : ℕ) (cs : List BookCon) → map (λ c. c.name) (numbered_from n cs) ≡ map (λ c. c.name) cs
numbered_names n [] = refl
numbered_names n (c ∷ cs) = ap (λ (names : List (List ℕ)). c.name ∷ names) (numbered_names (n + 1) cs)

-- each has its number from n on
numbered_of : (n : ℕ) (cs : List BookCon) (c : BookCon) → Contains cs c → (k : ℕ) × Contains (numbered_from n cs) (record c { number = k })
numbered_of n [] c m = absurd (member_nil c m)
numbered_of n (b ∷ cs) c m = elim (member_cases b cs c m) [
  | inl e ↦ (n, subst (λ (z : BookCon). Contains (numbered_from n (b ∷ cs)) (record z { number = n })) e (member_here (record b { number = n }) (numbered_from (n + 1) cs)))
  | inr k ↦ let r = numbered_of (n + 1) cs c k in (r.0, member_there (record b { number = n }) (numbered_from (n + 1) cs) (record c { number = r.0 }) r.1)
]

numbered_back : (n : ℕ) (cs : List BookCon) (d : BookCon) → Contains (numbered_from n cs) d → (c : BookCon) × Contains cs c × (record c { number = d.number } ≡ d)
numbered_back n [] d m = absurd (member_nil d m)
numbered_back n (c ∷ cs) d m = elim (member_cases (record c { number = n }) (numbered_from (n + 1) cs) d m) [
  | inl e ↦ (c, member_here c cs, subst (λ (z : BookCon). record c { number = z.number } ≡ z) e refl)
  | inr k ↦ let r = numbered_back (n + 1) cs d k in (r.0, member_there c cs r.0 r.1, r.2)
]

-- names that differ differ
numbered_apart : (n : ℕ) (cs : List BookCon) → Before (λ c d. c.name ≢ d.name) cs → Before (λ c d. c.name ≢ d.name) (numbered_from n cs)
numbered_apart n [] before = tt
numbered_apart n (c ∷ cs) before = (
  λ d m e. let r = numbered_back (n + 1) cs d m in before.0 r.0 r.1 (e ∙ sym (ap (λ (z : BookCon). z.name) r.2)),
  numbered_apart (n + 1) cs before.1,
)

-- the last of them has the number behind the others
pub numbered_more : (n : ℕ) (cs : List BookCon) (c : BookCon) → numbered_from n (cs ++ c ∷ []) ≡ numbered_from n cs ++ record c { number = length cs + n } ∷ []
numbered_more n [] c = let number : n ≡ 0 + n = omega arith in ap (λ (k : ℕ). record c { number = k } ∷ []) number
numbered_more n (b ∷ cs) c =
    let number : length cs + (n + 1) ≡ length (b ∷ cs) + n = omega arith in
    ap (λ (ds : List BookCon). record b { number = n } ∷ ds) (numbered_more (n + 1) cs c ∙ ap (λ (k : ℕ). numbered_from (n + 1) cs ++ record c { number = k } ∷ []) number)

-- ---- names by number

-- the name of a user of constraints whose numbers rise
named_by : (cs : List BookCon) (c : BookCon) → AllPairs (λ c d. c.number < d.number) cs → Contains cs c → number_name cs c.number ≡ c.name
named_by cs c rising m =
    let at = member_place cs c m in
    sym (number_name_at cs at.0 c.number c rising at.1 (subst (λ (o : Option BookCon). IfSome o (λ d. d.number ≡ c.number)) (sym at.1) refl))

-- ---- picking

-- what is picked is among the items
pub picked_among : {A : Type 0} (Passes : A → Type 0) (items picked : List A) → ArePicked Passes items picked → (x : A) → Contains picked x → Contains items x × Passes x
picked_among Passes [] picked are x m = absurd (member_nil x (subst (λ (xs : List _). Contains xs x) are m))
picked_among Passes (item ∷ items) picked are x m = elim are [
  | inl takes ↦ elim (member_cases item takes.1.0 x (subst (λ (xs : List _). Contains xs x) takes.1.1 m)) [
    | inl e ↦ (member_same (item ∷ items) item x e (member_here item items), subst Passes e takes.0)
    | inr k ↦ let r = picked_among Passes items takes.1.0 takes.1.2 x k in (member_there item items x r.0, r.1)
  ]
  | inr leaves ↦ let r = picked_among Passes items picked leaves.1 x m in (member_there item items x r.0, r.1)
]

-- where the first of the constraints is a user, it is the first user
first_user : (c : BookCon) (cs : List BookCon) (users : List Cid) → ((d : BookCon) → Contains cs d → c.number < d.number) → Rises users
    → ((u : Cid) → Contains users u → (d : BookCon) × Contains (c ∷ cs) d × (User d.number ≡ u)) → Contains users (User c.number)
    → (later : List Cid) × (users ≡ User c.number ∷ later)
first_user c cs [] lowest rises each m = absurd (member_nil (User c.number) m)
first_user c cs (u ∷ users) lowest rises each m =
    let r = each u (member_here u users) in
    elim (member_cases c cs r.0 r.1) [
      | inl e ↦ (users, ap (λ (v : Cid). v ∷ users) (sym (ap (λ (z : BookCon). User z.number) e ∙ r.2)))
      | inr k ↦ elim (member_cases u users (User c.number) m) [
        | inl s ↦ (users, ap (λ (v : Cid). v ∷ users) s)
        | inr n ↦
            let before = All-contains (λ (v : Cid). cid_before u v ≡ true) users (User c.number) rises.0 n in
            let below : nat_lt r.0.number c.number ≡ true = subst (λ (v : Cid). cid_before v (User c.number) ≡ true) (sym r.2) before in
            absurd (omega (arith, lowest r.0 k, ltb-true r.0.number c.number below))
      ]
    ]

-- the users rise, and what passes are the constraints that stand for one of them
module _ (Passes : BookCon → Type 0) (name : Cid → List ℕ) where
  abbrev Picks : ℕ → List BookCon → List Cid → Type 0
  Picks n cs users = (used : List BookCon) × ArePicked Passes (numbered_from n cs) used × (map (λ d. d.name) used ≡ map name users)

  abbrev AreNamed : List BookCon → Type 0
  AreNamed cs = (c : BookCon) → Contains cs c → name (User c.number) ≡ c.name

  abbrev StandFor : List BookCon → List Cid → Type 0
  StandFor cs users = (u : Cid) → Contains users u → (c : BookCon) × Contains cs c × (User c.number ≡ u)

  abbrev PassFor : ℕ → List BookCon → List Cid → Type 0
  PassFor n cs users = (c : BookCon) (k : ℕ) → Contains cs c → Contains (numbered_from n cs) (record c { number = k }) → Passes (record c { number = k }) ↔ Contains users (User c.number)

  -- behind the first constraint, which is the first user
  later_stand : (c : BookCon) (cs : List BookCon) (later : List Cid) → Rises (User c.number ∷ later) → StandFor (c ∷ cs) (User c.number ∷ later) → StandFor cs later
  later_stand c cs later rises each u m =
      let r = each u (member_there (User c.number) later u m) in
      let before = All-contains (λ (v : Cid). cid_before (User c.number) v ≡ true) later u rises.0 m in
      let other : c ≡ r.0 → ⊥ = λ e. not_before_itself u (subst (λ (v : Cid). cid_before v u ≡ true) (ap (λ (z : BookCon). User z.number) e ∙ r.2) before) in
      (r.0, member_tail c cs r.0 other r.1, r.2)

  later_pass : (n : ℕ) (c : BookCon) (cs : List BookCon) (later : List Cid) → ((d : BookCon) → Contains cs d → c.number < d.number)
      → PassFor n (c ∷ cs) (User c.number ∷ later) → PassFor (n + 1) cs later
  later_pass n c cs later lowest passes d k m i =
      let p = passes d k (member_there c cs d m) (member_there (record c { number = n }) (numbered_from (n + 1) cs) (record d { number = k }) i) in
      let other : User c.number ≡ User d.number → ⊥ = λ e. let same : c.number ≡ d.number = cc in absurd (omega (arith, same, lowest d m)) in
      (λ h. member_tail (User c.number) later (User d.number) other (p.0 h), λ h. p.1 (member_there (User c.number) later (User d.number) h))

  -- behind the first constraint, which is no user
  absent_stand : (c : BookCon) (cs : List BookCon) (users : List Cid) → (Contains users (User c.number) → ⊥) → StandFor (c ∷ cs) users → StandFor cs users
  absent_stand c cs users absent each u m =
      let r = each u m in
      let other : c ≡ r.0 → ⊥ = λ e. absent (member_same users u (User c.number) (sym (ap (λ (z : BookCon). User z.number) e ∙ r.2)) m) in
      (r.0, member_tail c cs r.0 other r.1, r.2)

  absent_pass : (n : ℕ) (c : BookCon) (cs : List BookCon) (users : List Cid) → PassFor n (c ∷ cs) users → PassFor (n + 1) cs users
  absent_pass n c cs users passes d k m i =
      passes d k (member_there c cs d m) (member_there (record c { number = n }) (numbered_from (n + 1) cs) (record d { number = k }) i)

  picked : (n : ℕ) (cs : List BookCon) (users : List Cid) → Before (λ c d. c.number < d.number) cs → Rises users → AreNamed cs → StandFor cs users → PassFor n cs users → Picks n cs users
  picked n [] [] before rises named each passes = ([], refl, refl)
  picked n [] (u ∷ users) before rises named each passes = let r = each u (member_here u users) in absurd (member_nil r.0 r.1)
  picked n (c ∷ cs) users before rises named each passes = elim (member_known cid_known users (User c.number)) [
    | inl m ↦
        let first = first_user c cs users before.0 rises each m in
        let rises_first : Rises (User c.number ∷ first.0) = subst Rises first.1 rises in
        let passes_first : PassFor n (c ∷ cs) (User c.number ∷ first.0) = subst (λ (us : List Cid). PassFor n (c ∷ cs) us) first.1 passes in
        let each_first : StandFor (c ∷ cs) (User c.number ∷ first.0) = subst (λ (us : List Cid). StandFor (c ∷ cs) us) first.1 each in
        let rest = picked (n + 1) cs first.0 before.1 rises_first.1 (λ d k. named d (member_there c cs d k)) (later_stand c cs first.0 rises_first each_first) (later_pass n c cs first.0 before.0 passes_first) in
        let own : BookCon = record c { number = n } in
        let here = (passes_first c n (member_here c cs) (member_here own (numbered_from (n + 1) cs))).1 (member_here (User c.number) first.0) in (
          own ∷ rest.0,
          inl (here, (rest.0, refl, rest.1)),
          ap (λ (names : List (List ℕ)). c.name ∷ names) rest.2 ∙ ap (λ (text : List ℕ). text ∷ map name first.0) (sym (named c (member_here c cs))) ∙ ap (map name) (sym first.1),
        )
    | inr absent ↦
        let rest = picked (n + 1) cs users before.1 rises (λ d k. named d (member_there c cs d k)) (absent_stand c cs users absent each) (absent_pass n c cs users passes) in
        let own : BookCon = record c { number = n } in
        (rest.0, inr (λ p. absent ((passes c n (member_here c cs) (member_here own (numbered_from (n + 1) cs))).0 p), rest.1), rest.2)
  ]

-- of constraints that stand in a relation to the later ones, two for which it fails are one
once : {A : Type 0} (f : BookCon → A) (P : BookCon → BookCon → Type 0) → ((c d : BookCon) → P c d → f c ≡ f d → ⊥) → (cs : List BookCon) (d e : BookCon)
    → Before P cs → Contains cs d → Contains cs e → f d ≡ f e → d ≡ e
once f P apart [] d e before m k same = absurd (member_nil d m)
once f P apart (c ∷ cs) d e before m k same = elim (member_cases c cs d m) [
  | inl p ↦ elim (member_cases c cs e k) [
    | inl q ↦ sym p ∙ q
    | inr q ↦ absurd (apart c e (before.0 e q) (ap f p ∙ same))
  ]
  | inr p ↦ elim (member_cases c cs e k) [
    | inl q ↦ absurd (apart c d (before.0 d p) (ap f q ∙ sym same))
    | inr q ↦ once f P apart cs d e before.1 p q same
  ]
]

pairs_from : (P : BookCon → BookCon → Type 0) (cs : List BookCon) → Before P cs → AllPairs P cs
pairs_from P [] before = λ i j d lt within. absurd (omega (arith, within))
pairs_from P (c ∷ cs) before = AllPairs-cons P c cs (all_members (P c) cs before.0) (pairs_from P cs before.1)

-- ---- as a proof lists them

module _ (book : Contents) where
  abbrev own : List BookCon
  own = (as_listed book).constraints

  -- each active constraint of the book is listed, and no other is
  pub own_of : (c : BookCon) → Contains book.constraints c → c.active ≡ true → (d : BookCon) × Contains (as_listed book).constraints d × (d.name ≡ c.name) × (d.con ≡ c.con)
  own_of c m on =
      let r = numbered_of 1 (actives book) c (member_filter (λ (z : BookCon). z.active) book.constraints c m on) in
      (record c { number = r.0 }, r.1, refl, refl)

  pub own_back : (d : BookCon) → Contains (as_listed book).constraints d → (c : BookCon) × Contains book.constraints c × (c.active ≡ true) × (d.name ≡ c.name) × (d.con ≡ c.con)
  own_back d m =
      let r = numbered_back 1 (actives book) d m in
      let f = filter_member (λ (z : BookCon). z.active) book.constraints r.0 r.1 in
      (r.0, f.0, f.1, sym (ap (λ (z : BookCon). z.name) r.2), sym (ap (λ (z : BookCon). z.con) r.2))

  pub own_initial : initial_of (as_listed book) ≡ initial_of book
  own_initial = refl

  -- their names are those of the active constraints, in the order of the book
  pub own_names : map (λ c. c.name) (as_listed book).constraints ≡ map (λ c. c.name) (actives book)
  own_names = numbered_names 1 (actives book)

  -- their own numbers rise
  pub own_rises : AllPairs (λ c d. c.number < d.number) (as_listed book).constraints
  own_rises = numbered_rises 1 (actives book)

  -- so no two have one number
  pub own_number_once : (d e : BookCon) → Contains (as_listed book).constraints d → Contains (as_listed book).constraints e → d.number ≡ e.number → d ≡ e
  own_number_once d e m k same =
      once (λ (z : BookCon). z.number) (λ (x y : BookCon). x.number < y.number) (λ x y lt same. absurd (omega (arith, lt, same))) own d e
      (before_from (λ (x y : BookCon). x.number < y.number) own own_rises) m k same

  -- a user of the proof has the name of its constraint
  pub own_named : (d : BookCon) → Contains (as_listed book).constraints d → user_name (as_listed book).constraints (User d.number) ≡ d.name
  own_named d m = named_by own d own_rises m

  module _ (is : IsBook book) where
    -- and so has a user of the book
    pub book_named : (c : BookCon) → Contains book.constraints c → user_name book.constraints (User c.number) ≡ c.name
    book_named c m = named_by book.constraints c is.rising m

    pub before_actives : Before (λ c d. c.name ≢ d.name) (actives book)
    before_actives = before_from (λ (x y : BookCon). x.name ≢ y.name) (actives book) (AllPairs-filter (λ (x y : BookCon). x.name ≢ y.name) (λ (z : BookCon). z.active) book.constraints is.different_constraints)

    before_own : Before (λ c d. c.name ≢ d.name) (as_listed book).constraints
    before_own = numbered_apart 1 (actives book) before_actives

    -- different constraints of the proof have different names
    pub own_apart : AllPairs (λ c d. c.name ≢ d.name) (as_listed book).constraints
    own_apart = pairs_from (λ (x y : BookCon). x.name ≢ y.name) own before_own

    pub own_name_once : (d e : BookCon) → Contains (as_listed book).constraints d → Contains (as_listed book).constraints e → d.name ≡ e.name → d ≡ e
    own_name_once d e m k same = once (λ (z : BookCon). z.name) (λ (x y : BookCon). x.name ≢ y.name) (λ x y apart same. apart same) own d e before_own m k same

    -- what is listed is a book
    pub own_book : IsBook (as_listed book)
    own_book = record {
      few_variables = is.few_variables;
      few_constraints = omega (arith, numbered_length 1 (actives book), filter_shorter (λ (z : BookCon). z.active) book.constraints, is.few_constraints);
      variable_names = is.variable_names;
      values = is.values;
      different_variables = is.different_variables;
      constraint_names = own_all (λ (z : BookCon). IsNameText z.name) (λ c d name con text. subst IsNameText (sym name) text) is.constraint_names;
      different_constraints = own_apart;
      rising = own_rises;
      formed =
          own_all (λ (z : BookCon). IsWellFormed (length book.variables) z.con)
          (λ c d name con formed. subst (IsWellFormed (length book.variables)) (sym con) formed) is.formed;
    }
      where
        own_all : (P : BookCon → Type 0) → ((c d : BookCon) → d.name ≡ c.name → d.con ≡ c.con → P c → P d) → All P book.constraints → All P (as_listed book).constraints
        own_all P moves all = all_members P own (λ d m. let r = own_back d m in moves r.0 d r.3 r.4 (All-contains P book.constraints r.0 all r.1))

    -- ---- which of them are users

    -- users of the book by rising number, and what passes: the constraints that stand for one of them. Those that pass are
    -- picked, and they are named as the users
    pub own_users : (Passes : BookCon → Type 0) (users : List Cid) → Rises users
        → ((u : Cid) → Contains users u → (c : BookCon) × Contains book.constraints c × (c.active ≡ true) × (User c.number ≡ u))
        → ((c d : BookCon) → Contains book.constraints c → c.active ≡ true → Contains (as_listed book).constraints d → d.name ≡ c.name → Passes d ↔ Contains users (User c.number))
        → (used : List BookCon) × ArePicked Passes (as_listed book).constraints used × (map (λ d. d.name) used ≡ map (user_name book.constraints) users)
    own_users Passes users rises each passes =
        picked Passes (user_name book.constraints) 1 (actives book) users
        (before_from (λ (x y : BookCon). x.number < y.number) (actives book) (AllPairs-filter (λ (x y : BookCon). x.number < y.number) (λ (z : BookCon). z.active) book.constraints is.rising)) rises
        (λ c m. book_named c (filter_member (λ (z : BookCon). z.active) book.constraints c m).0)
        (λ u m. let r = each u m in (r.0, member_filter (λ (z : BookCon). z.active) book.constraints r.0 r.1 r.2, r.3))
        (λ c k m n. let f = filter_member (λ (z : BookCon). z.active) book.constraints c m in passes c (record c { number = k }) f.0 f.1 n refl)

  -- the names of listed constraints are those of their users
  pub users_named : (used : List BookCon) → ((d : BookCon) → Contains used d → Contains (as_listed book).constraints d) → map (user_name (as_listed book).constraints) (users_of used) ≡ map (λ d. d.name) used
  users_named [] inside = refl
  users_named (d ∷ used) inside =
      ap (λ (name : List ℕ). name ∷ map (user_name own) (users_of used)) (own_named d (inside d (member_here d used)))
      ∙ ap (λ (names : List (List ℕ)). d.name ∷ names) (users_named used (λ e m. inside e (member_there d used e m)))
