-- Which constraints the lemmas of a written proof use: those of the users that its search knows of them.
use Rattle.std.proofs.Common.{◌≡◌, ◌↔◌, ℕ, zero, suc, ◌+◌, ◌-◌, ◌<◌, ◌≤◌, nat_eq, true, Some, List, [], ◌∷◌, ◌++◌, length, map, filter, flat_map, slice_get, take, drop, All, Contains, inl, inr, refl, sym, ap, ◌∙◌, subst, arith, length-append}
use Rattle.std.specs.Prelude.{if◌then◌else◌}
use Rattle.std.proofs.lemmas.Bool.{cases_lt, eq-eqb, ne_eqb}
use Rattle.std.proofs.lemmas.List.{length-map, map-append}
use Rattle.std.proofs.lemmas.List.Elements.{All-contains}
use Rattle.std.proofs.lemmas.List.Kept.{AllPairs-filter}
use Rattle.std.proofs.lemmas.Option.{get_or_from_slice_get, none-some, same_Some, slice_get_within}
use Rattle.palm_base.specs.Order.{Rises}
use Rattle.palm_base.specs.declared.terms.Pair.{Pair}
use Rattle.palm_base.specs.declared.terms.Cid.{Cid}
use Rattle.palm_base.specs.declared.terms.Cid.TheVariants.{Decide, Not, User}
use Rattle.palm_base.proofs.cited.Members.{all_members, flat_map_member, map_agree, member_filter, member_flat_map, member_here, member_map, member_nil, member_place, member_single}
use Rattle.palm_book.specs.Book.{Contents, IsBook, user_name}
use Rattle.palm_book.specs.declared.book.BookCon.{BookCon}
use Rattle.palm_cert.proofs.cited.Before.{Before, before_from}
use Rattle.palm_claim.proofs.cited.ProvedSteps.{same_constraint}
use Rattle.palm_model.specs.Log.{Removal}
use Rattle.palm_search.proofs.cited.Showing.{split_place}
use Rattle.proof_text.specs.Users.{AreUsed, Uses, by_lemma, by_step}
use Rattle.proof_text.specs.declared.lemma.Lemma.{Lemma}
use Rattle.proof_text.proofs.cited.Using.{AreEarlier, IsUpTo, earlier_more, none_earlier, up_to_more, uses_cases}
use Rattle.proof_run.specs.Accepted.{as_listed, numbered_from}
use Rattle.proof_run.specs.Lemma.{lemma_of}
use Rattle.proof_run.proofs.Own.{own_name_once, own_number_once, own_users}
use Rattle.proof_run.proofs.Situation.{IsRightLemma, IsStepOf, IsUsedIn, LemmaData, by_decision, by_lemma as by_given, by_user, in_lemma, in_step}

-- ---- numbers of the proof

-- the number of the constraint with the number k where these are numbered from n, and 0 where none has it
abbrev pub number_from : ℕ → List BookCon → ℕ → ℕ
number_from n [] k = 0
number_from n (c ∷ cs) k = if nat_eq c.number k then n else number_from (n + 1) cs k

-- the constraint under that number
abbrev pub renumbered : ℕ → List BookCon → BookCon → BookCon
renumbered n cs c = record c { number = number_from n cs c.number }

number_here : (n : ℕ) (c : BookCon) (cs : List BookCon) → n ≡ number_from n (c ∷ cs) c.number
number_here n c cs = rw (eq-eqb c.number c.number refl) refl

number_there : (n : ℕ) (c : BookCon) (cs : List BookCon) (k : ℕ) → c.number < k → number_from (n + 1) cs k ≡ number_from n (c ∷ cs) k
number_there n c cs k below = rw (ne_eqb c.number k (λ e. absurd (omega (arith, below, e)))) refl

-- constraints by rising number, numbered from n
numbered_are : (n : ℕ) (cs : List BookCon) → Before (λ c d. c.number < d.number) cs → numbered_from n cs ≡ map (renumbered n cs) cs
numbered_are n [] rising = refl
numbered_are n (c ∷ cs) rising =
    let numbered : ℕ → BookCon → BookCon = λ k d. record d { number = k } in
    ap (λ (ds : List BookCon). numbered n c ∷ ds)
    (numbered_are (n + 1) cs rising.1 ∙ map_agree (renumbered (n + 1) cs) (renumbered n (c ∷ cs)) cs (λ d m. ap (λ (k : ℕ). numbered k d) (number_there n c cs d.number (rising.0 d m))))
    ∙ ap (λ (k : ℕ). numbered k c ∷ map (renumbered n (c ∷ cs)) cs) (number_here n c cs)

-- the number that the proof gives the constraint of the book with this number
abbrev pub own_number : Contents → ℕ → ℕ
own_number book k = number_from 1 (filter (λ c. c.active) book.constraints) k

-- the constraint as the proof lists it
abbrev pub as_own : Contents → BookCon → BookCon
as_own book c = record c { number = own_number book c.number }

-- an active constraint of the book
abbrev pub IsActiveIn : Contents → BookCon → Type 0
IsActiveIn book c = Contains book.constraints c × (c.active ≡ true)

-- each user is one
abbrev pub AreActiveIn : Contents → List Cid → Type 0
AreActiveIn book users = (number : ℕ) → Contains users (User number) → (c : BookCon) × IsActiveIn book c × (c.number ≡ number)

module _ (book : Contents) (is : IsBook book) where
  pub own_listed : (c : BookCon) → IsActiveIn book c → Contains (as_listed book).constraints (as_own book c)
  own_listed c a =
      let active = filter (λ (d : BookCon). d.active) book.constraints in
      let rising = AllPairs-filter (λ (d e : BookCon). d.number < e.number) (λ (d : BookCon). d.active) book.constraints is.rising in
      subst (λ (l : List BookCon). Contains l (as_own book c)) (sym (numbered_are 1 active (before_from (λ (d e : BookCon). d.number < e.number) active rising)))
      (member_map (renumbered 1 active) active c (member_filter (λ (d : BookCon). d.active) book.constraints c a.0 a.1))

  -- two constraints of the book have two numbers in the proof
  own_once : (c d : BookCon) → IsActiveIn book c → IsActiveIn book d → own_number book c.number ≡ own_number book d.number → c ≡ d
  own_once c d a b e =
      let same = own_number_once book (as_own book c) (as_own book d) (own_listed c a) (own_listed d b) e in
      same_constraint book.constraints c d is.different_constraints a.0 b.0 (ap (λ (z : BookCon). z.name) same)

-- ---- lemmas behind more lemmas

-- a list has its items behind more too
get_front : {X : Type 0} (xs ys : List X) (k : ℕ) (x : X) → slice_get xs k ≡ Some x → slice_get (xs ++ ys) k ≡ Some x
get_front [] ys k x at = absurd (none-some x at)
get_front (y ∷ xs) ys zero x at = at
get_front (y ∷ xs) ys (suc k) x at = get_front xs ys k x at

-- what stands within the first list
get_within : {X : Type 0} (xs ys : List X) (k : ℕ) (x : X) → k < length xs → slice_get (xs ++ ys) k ≡ Some x → slice_get xs k ≡ Some x
get_within [] ys k x lt at = absurd (omega (arith, lt))
get_within (y ∷ xs) ys zero x lt at = at
get_within (y ∷ xs) ys (suc k) x lt at = get_within xs ys k x (omega (arith, lt)) at

-- what was put behind a list
pub get_last : {X : Type 0} (xs : List X) (y : X) → slice_get (xs ++ y ∷ []) (length xs) ≡ Some y
get_last [] y = refl
get_last (x ∷ xs) y = get_last xs y

-- a place that the one list has, another one that is as long has too
get_too : {X Y : Type 0} (xs : List X) (ys : List Y) (k : ℕ) (y : Y) → length xs ≡ length ys → slice_get ys k ≡ Some y → (x : X) × (slice_get xs k ≡ Some x)
get_too xs [] k y long at = absurd (none-some y at)
get_too [] (z ∷ ys) k y long at = absurd (omega (arith, long))
get_too (x ∷ xs) (z ∷ ys) zero y long at = (x, refl)
get_too (x ∷ xs) (z ∷ ys) (suc k) y long at = get_too xs ys k y (omega (arith, long)) at

-- behind more lemmas, a lemma uses what it used
uses_behind : (ls more : List Lemma) (l : Lemma) (n : ℕ) → Uses ls l n → Uses (ls ++ more) l n
uses_behind ls more _ _ (by_step l n named) = by_step l n named
uses_behind ls more _ _ (by_lemma l earlier place n named stands uses) =
    by_lemma l earlier place n named (get_front ls more (place - 1) earlier stands) (uses_behind ls more earlier n uses)

named_before : (ls : List Lemma) (e : Lemma) (k : ℕ) → AreEarlier ls → slice_get ls k ≡ Some e → All (IsUpTo (length ls)) e.lemmas
named_before ls e k earlier at =
    let lt = slice_get_within ls k e at in
    up_to_more k (length ls) e.lemmas (omega (arith, lt))
    (subst (λ (m : Lemma). All (IsUpTo k) m.lemmas) (get_or_from_slice_get ls k e e at) (earlier k e lt))

-- and nothing else, where it names earlier ones alone
uses_front : (ls more : List Lemma) (l : Lemma) (n : ℕ) → AreEarlier ls → All (IsUpTo (length ls)) l.lemmas → Uses (ls ++ more) l n → Uses ls l n
uses_front ls more _ _ earlier up (by_step l n named) = by_step l n named
uses_front ls more _ _ earlier up (by_lemma l e place n named stands uses) =
    let is = All-contains (IsUpTo (length ls)) l.lemmas place up named in
    let lt : place - 1 < length ls = omega (arith, is.0, is.1) in
    let at = get_within ls more (place - 1) e lt stands in
    by_lemma l e place n named at (uses_front ls more e n earlier (named_before ls e (place - 1) earlier at) uses)

-- ---- the lemma that is written

-- what a step adds to it: the number of its constraint, or that of the lemma that gave its negation
abbrev pub own_numbers : Contents → Cid → List ℕ
own_numbers book (Decide x) = []
own_numbers book (Not p) = []
own_numbers book (User n) = own_number book n ∷ []

abbrev pub lemma_numbers : List Pair → Cid → List ℕ
lemma_numbers undone (Decide x) = []
lemma_numbers undone (Not p) = lemma_of undone p ∷ []
lemma_numbers undone (User n) = []

abbrev pub all_own_numbers : Contents → List Removal → List ℕ
all_own_numbers book steps = flat_map (λ r. own_numbers book r.by) steps

abbrev pub all_lemma_numbers : List Pair → List Removal → List ℕ
all_lemma_numbers undone steps = flat_map (λ r. lemma_numbers undone r.by) steps

-- the lemma with these pairs and steps
abbrev pub lemma_with : Contents → List Pair → List Pair → List Removal → Lemma
lemma_with book undone pairs steps = record { pairs = pairs; constraints = all_own_numbers book steps; lemmas = all_lemma_numbers undone steps }

-- the lemmas of the proof are those that the search knows: they have their pairs, and use the constraints of their users
pub record AreWritten (book : Contents) (ls : List Lemma) (known : List LemmaData) : Type 0 where
  pub pairs : map (λ (l : Lemma). l.pairs) ls ≡ map (λ (d : LemmaData). d.pairs) known
  pub earlier : AreEarlier ls
  pub uses : (k : ℕ) (l : Lemma) (d : LemmaData) → slice_get ls k ≡ Some l → slice_get known k ≡ Some d
      → (c : BookCon) → IsActiveIn book c → Uses ls l (own_number book c.number) ↔ Contains d.users (User c.number)
  pub users : (k : ℕ) (d : LemmaData) → slice_get known k ≡ Some d → AreActiveIn book d.users

pub none_written : (book : Contents) → AreWritten book [] []
none_written book = record {
  pairs = refl;
  earlier = none_earlier;
  uses = λ k l d at. absurd (none-some l at);
  users = λ k d at. absurd (none-some d at);
}

own_numbers_member : (book : Contents) (by : Cid) (k : ℕ) → Contains (own_numbers book by) k → (n : ℕ) × (by ≡ User n) × (own_number book n ≡ k)
own_numbers_member book (Decide x) k m = absurd (member_nil k m)
own_numbers_member book (Not p) k m = absurd (member_nil k m)
own_numbers_member book (User n) k m = (n, refl, member_single (own_number book n) k m)

lemma_numbers_member : (undone : List Pair) (by : Cid) (k : ℕ) → Contains (lemma_numbers undone by) k → (p : Pair) × (by ≡ Not p) × (lemma_of undone p ≡ k)
lemma_numbers_member undone (Decide x) k m = absurd (member_nil k m)
lemma_numbers_member undone (Not p) k m = (p, refl, member_single (lemma_of undone p) k m)
lemma_numbers_member undone (User n) k m = absurd (member_nil k m)

same_number : (m n : ℕ) → User m ≡ User n → m ≡ n
same_number m n e = cc

same_negated : (p q : Pair) → Not p ≡ Not q → p ≡ q
same_negated p q e = cc

module _ (book : Contents) (is : IsBook book) (ls : List Lemma) (known : List LemmaData) (written : AreWritten book ls known) where
  pub as_many : length ls ≡ length known
  as_many =
      let same = ap (λ (l : List (List Pair)). length l) written.pairs in
      omega (arith, same, length-map ls (λ (l : Lemma). l.pairs), length-map known (λ (d : LemmaData). d.pairs))

  module _ (undone pairs : List Pair) (steps : List Removal) (x : ℕ) (users : List Cid) (lemma : IsRightLemma book undone known pairs steps x users) where
    abbrev new : Lemma
    new = lemma_with book undone pairs steps

    -- the step that is by a user is by an active constraint of the book
    step_owner : (earlier : List Removal) (r : Removal) → IsStepOf book undone known pairs steps earlier r → (n : ℕ) → r.by ≡ User n → (c : BookCon) × IsActiveIn book c × (c.number ≡ n)
    step_owner earlier r (by_user c listed active by lacks below) n e = (c, (listed, active), same_number c.number n (sym by ∙ e))
    step_owner earlier r (by_decision y by assumed) n e = absurd (let h : Decide y ≡ User n = sym by ∙ e in cc)
    step_owner earlier r (by_given p d by positive stands of) n e = absurd (let h : Not p ≡ User n = sym by ∙ e in cc)

    -- the one that is by a negation is by a lemma that stands
    step_lemma : (earlier : List Removal) (r : Removal) → IsStepOf book undone known pairs steps earlier r → (p : Pair) → r.by ≡ Not p
        → (d : LemmaData) × (1 ≤ lemma_of undone p) × (slice_get known (lemma_of undone p - 1) ≡ Some d)
    step_lemma earlier r (by_user c listed active by lacks below) p e = absurd (let h : User c.number ≡ Not p = sym by ∙ e in cc)
    step_lemma earlier r (by_decision y by assumed) p e = absurd (let h : Decide y ≡ Not p = sym by ∙ e in cc)
    step_lemma earlier r (by_given q d by positive stands of) p e =
        let same : q ≡ p = same_negated q p (sym by ∙ e) in
        (d, subst (λ (z : Pair). 1 ≤ lemma_of undone z) same positive, subst (λ (z : Pair). slice_get known (lemma_of undone z - 1) ≡ Some d) same stands)

    right_at : (r : Removal) → Contains steps r → (earlier : List Removal) × IsStepOf book undone known pairs steps earlier r
    right_at r m =
        let at = member_place steps r m in
        (take at.0 steps, lemma.right (take at.0 steps) r (drop (suc at.0) steps) (split_place steps at.0 r at.1))

    owner_of : (r : Removal) → Contains steps r → (n : ℕ) → r.by ≡ User n → (c : BookCon) × IsActiveIn book c × (c.number ≡ n)
    owner_of r m n e = let at = right_at r m in step_owner at.0 r at.1 n e

    given_of : (r : Removal) → Contains steps r → (p : Pair) → r.by ≡ Not p → (d : LemmaData) × (1 ≤ lemma_of undone p) × (slice_get known (lemma_of undone p - 1) ≡ Some d)
    given_of r m p e = let at = right_at r m in step_lemma at.0 r at.1 p e

    -- the users are active constraints of the book
    new_users : AreActiveIn book users
    new_users number m = known_user number ((lemma.used number).0 m)
      where
        known_user : (number : ℕ) → IsUsedIn undone known steps number → (c : BookCon) × IsActiveIn book c × (c.number ≡ number)
        known_user number (in_step r k by) = owner_of r k number by
        known_user number (in_lemma r p d k by stands among) = written.users (lemma_of undone p - 1) d stands number among

    -- it names lemmas before it
    new_up : All (IsUpTo (length ls)) new.lemmas
    new_up = all_members (IsUpTo (length ls)) new.lemmas (λ k m.
        let r = flat_map_member (λ (s : Removal). lemma_numbers undone s.by) steps k m in
        let p = lemma_numbers_member undone r.0.by k r.2 in
        let d = given_of r.0 r.1 p.0 p.1 in
        let lt = slice_get_within known (lemma_of undone p.0 - 1) d.0 d.2 in
        (omega (arith, d.1, p.2), omega (arith, d.1, lt, p.2, as_many)))

    -- it uses the constraints of the users
    uses_user : (c : BookCon) → IsActiveIn book c → Uses ls new (own_number book c.number) → Contains users (User c.number)
    uses_user c active uses = (lemma.used c.number).1 (elim (uses_cases ls new (own_number book c.number) uses) [
      | inl m ↦
          let r = flat_map_member (λ (s : Removal). own_numbers book s.by) steps (own_number book c.number) m in
          let n = own_numbers_member book r.0.by (own_number book c.number) r.2 in
          let o = owner_of r.0 r.1 n.0 n.1 in
          let same : o.0 ≡ c = own_once book is o.0 c o.1 active (ap (own_number book) o.2 ∙ n.2) in
          in_step r.0 r.1 (n.1 ∙ ap User (sym o.2 ∙ ap (λ (b : BookCon). b.number) same))
      | inr t ↦
          let r = flat_map_member (λ (s : Removal). lemma_numbers undone s.by) steps t.0 t.1 in
          let p = lemma_numbers_member undone r.0.by t.0 r.2 in
          let d = given_of r.0 r.1 p.0 p.1 in
          let at : slice_get ls (lemma_of undone p.0 - 1) ≡ Some t.2.0 = subst (λ k. slice_get ls (k - 1) ≡ Some t.2.0) (sym p.2) t.2.1 in
          in_lemma r.0 p.0 d.0 r.1 p.1 d.2 ((written.uses (lemma_of undone p.0 - 1) t.2.0 d.0 at d.2 c active).0 t.2.2)
    ])

    user_uses : (c : BookCon) → IsActiveIn book c → Contains users (User c.number) → Uses ls new (own_number book c.number)
    user_uses c active m = used ((lemma.used c.number).0 m)
      where
        used : IsUsedIn undone known steps c.number → Uses ls new (own_number book c.number)
        used (in_step r k by) =
            by_step new (own_number book c.number)
            (member_flat_map (λ (s : Removal). own_numbers book s.by) steps r (own_number book c.number) k
            (subst (λ (b : Cid). Contains (own_numbers book b) (own_number book c.number)) (sym by) (member_here (own_number book c.number) [])))
        used (in_lemma r p d k by stands among) =
            let l = get_too ls known (lemma_of undone p - 1) d as_many stands in
            by_lemma new l.0 (lemma_of undone p) (own_number book c.number)
            (member_flat_map (λ (s : Removal). lemma_numbers undone s.by) steps r (lemma_of undone p) k
            (subst (λ (b : Cid). Contains (lemma_numbers undone b) (lemma_of undone p)) (sym by) (member_here (lemma_of undone p) [])))
            l.1 ((written.uses (lemma_of undone p - 1) l.0 d l.1 stands c active).1 among)

    -- the lemmas with this one more
    abbrev more : List Lemma
    more = ls ++ new ∷ []

    abbrev one : LemmaData
    one = record { pairs = pairs; users = users }

    abbrev more_known : List LemmaData
    more_known = known ++ one ∷ []

    get_cases : {X : Type 0} (xs : List X) (y x : X) (k : ℕ) → slice_get (xs ++ y ∷ []) k ≡ Some x → (k < length xs → ⊥) → (y ≡ x) × (k ≡ length xs)
    get_cases xs y x k at past =
        let lt = slice_get_within (xs ++ y ∷ []) k x at in
        let last : k ≡ length xs = elim (cases_lt k (length xs)) [ inl h ↦ absurd (past h) | inr h ↦ omega (arith, h, lt, length-append xs (y ∷ [])) ] in
        (same_Some y x (sym (get_last xs y) ∙ ap (slice_get (xs ++ y ∷ [])) (sym last) ∙ at), last)

    more_uses : (k : ℕ) (l : Lemma) (d : LemmaData) → slice_get more k ≡ Some l → slice_get more_known k ≡ Some d
        → (c : BookCon) → IsActiveIn book c → Uses more l (own_number book c.number) ↔ Contains d.users (User c.number)
    more_uses k l d at there c active = elim (cases_lt k (length ls)) [
      | inl lt ↦
          let here = get_within ls (new ∷ []) k l lt at in
          let known_here = get_within known (one ∷ []) k d (omega (arith, lt, as_many)) there in
          let both = written.uses k l d here known_here c active in (
            λ uses. both.0 (uses_front ls (new ∷ []) l (own_number book c.number) written.earlier (named_before ls l k written.earlier here) uses),
            λ m. uses_behind ls (new ∷ []) l (own_number book c.number) (both.1 m),
          )
      | inr ge ↦
          let s = get_cases ls new l k at (λ lt. absurd (omega (arith, ge, lt))) in
          let t = get_cases known one d k there (λ lt. absurd (omega (arith, ge, lt, as_many))) in (
            λ uses. subst (λ (e : LemmaData). Contains e.users (User c.number)) t.0
                (uses_user c active (uses_front ls (new ∷ []) new (own_number book c.number) written.earlier new_up (subst (λ (m : Lemma). Uses more m (own_number book c.number)) (sym s.0) uses))),
            λ m. subst (λ (m : Lemma). Uses more m (own_number book c.number)) s.0
                (uses_behind ls (new ∷ []) new (own_number book c.number) (user_uses c active (subst (λ (e : LemmaData). Contains e.users (User c.number)) (sym t.0) m))),
          )
    ]

    pub more_written : AreWritten book more more_known
    more_written = record {
      pairs =
          map-append (λ (l : Lemma). l.pairs) ls (new ∷ []) ∙ ap (λ (ps : List (List Pair)). ps ++ pairs ∷ []) written.pairs
          ∙ sym (map-append (λ (d : LemmaData). d.pairs) known (one ∷ []));
      earlier = earlier_more ls new written.earlier new_up;
      uses = more_uses;
      users = λ k d at. elim (cases_lt k (length known)) [
        | inl lt ↦ written.users k d (get_within known (one ∷ []) k d lt at)
        | inr ge ↦ let t = get_cases known one d k at (λ lt. absurd (omega (arith, ge, lt))) in subst (λ (e : LemmaData). AreActiveIn book e.users) t.0 new_users
      ];
    }

-- the constraints that a lemma uses, where the users that the search knows of it rise: they have the users' names
pub lemma_users : (book : Contents) → IsBook book → (ls : List Lemma) (known : List LemmaData) → AreWritten book ls known → (k : ℕ) (l : Lemma) (d : LemmaData) → slice_get ls k ≡ Some l → slice_get known k ≡ Some d
    → Rises d.users → ((u : Cid) → Contains d.users u → (n : ℕ) × (u ≡ User n))
    → (used : List BookCon) × AreUsed (as_listed book) ls l used × (map (λ c. c.name) used ≡ map (user_name book.constraints) d.users)
lemma_users book is ls known written k l d at there rises each =
    own_users book is (λ (c : BookCon). Uses ls l c.number) d.users rises
    (λ u m.
    let n = each u m in
    let c = written.users k d there n.0 (subst (λ (v : Cid). Contains d.users v) n.1 m) in
    (c.0, c.1.0, c.1.1, ap User c.2 ∙ sym n.1))
    (λ c o m active k' named.
    let a : IsActiveIn book c = (m, active) in
    let same : as_own book c ≡ o = own_name_once book is (as_own book c) o (own_listed book is c a) k' (sym named) in
    subst (λ (z : BookCon). Uses ls l z.number ↔ Contains d.users (User c.number)) same (written.uses k l d at there c a))
