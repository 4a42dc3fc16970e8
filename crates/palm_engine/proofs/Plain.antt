-- Places whose mark leaves a value out: what they were before marks were made.
use Rattle.std.proofs.Common.{◌≡◌, ℕ, zero, suc, Bool, true, false, not, if◌then◌else◌, nat_eq, List, [], ◌∷◌, replicate, slice_get, slice_set, Contains, Some, ◌⊎◌, inl, inr, refl, sym, ap, ◌∙◌, subst, eq-eqb, eqb-true, ℤ, ◌≤ℤ◌, ◌+ℤ◌, arith}
use Rattle.std.specs.Prelude.{◌-ℤ◌, ◌||◌, int_lt, pos}
use Rattle.std.proofs.lemmas.Bool.{false≢true}
use Rattle.std.proofs.lemmas.Int.{ints, clamps}
use Rattle.palm_base.specs.declared.terms.Cid.{Cid}
use Rattle.palm_base.specs.Order.{same_cid}
use Rattle.palm_base.proofs.cited.CidOrder.{cid_same}
use Rattle.palm_base.proofs.cited.Members.{member_nil, member_cases, nat_known}
use Rattle.palm_model.proofs.cited.Supports.{any_member, member_any}
use Rattle.palm_explain.specs.declared.restored.Restored.{Restored}
use Rattle.palm_filter.specs.declared.heed.Heed.{Heed}
use Rattle.palm_filter.specs.declared.heed.Heed.TheVariants.{Each, Least, Greatest, Ends, Alone, Shifted}
use Rattle.palm_agenda.specs.declared.loss.Loss.{Loss}
use Rattle.palm_agenda.specs.declared.mark.Mark.{Mark}
use Rattle.palm_agenda.specs.declared.mark.Mark.TheVariants.{Clear, Between, Whole}
use Rattle.palm_agenda.specs.Losses.{heed_of, mark_after, matters}
use Rattle.palm_agenda.specs.Marks.{MayLack, widened}
use Rattle.palm_agenda.specs.Agenda.{Connected, changed_at, changed_where, is_over, mark_others, mark_own, marks_changed, unmarked}
use Rattle.palm_engine.specs.Changed.{widened_by}

-- the place has this variable, and its mark leaves the value out
pub record IsPlain (d : Connected) (k x : ℕ) (v : ℤ) : Type 0 where
  pub var : slice_get d.scope k ≡ Some x
  pub mark : Mark
  pub marked : slice_get d.marks k ≡ Some mark
  pub plain : MayLack mark v → ⊥

some_same : {X : Type 0} (x y : X) → Some x ≡ Some y → x ≡ y
some_same x y e = cc

-- ---- one mark

widened_grows : (low high : ℤ) (m : Mark) (v : ℤ) → MayLack m v → MayLack (widened low high m) v
widened_grows low high Clear v may = absurd may
widened_grows low high (Between from to) v may =
    let a = may.0 in
    let b = may.1 in
    (omega (arith, ints, clamps, a), omega (arith, ints, clamps, b))
widened_grows low high Whole v may = tt

pub widened_holds : (low high : ℤ) (m : Mark) (v : ℤ) → low ≤ℤ v → v ≤ℤ high → MayLack (widened low high m) v
widened_holds low high Clear v a b = (a, b)
widened_holds low high (Between from to) v a b = (omega (arith, ints, clamps, a), omega (arith, ints, clamps, b))
widened_holds low high Whole v a b = tt

-- ---- a change of the marks at some places

-- what the mark was
record WasMarked (test : ℕ → Bool) (change : Mark → Mark) (marks : List Mark) (k x : ℕ) (m : Mark) : Type 0 where
  was : Mark
  marked : slice_get marks k ≡ Some was
  is : (if test x then change was else was) ≡ m

was_marked : (test : ℕ → Bool) (change : Mark → Mark) (scope : List ℕ) (marks : List Mark) (k x : ℕ) (m : Mark) → slice_get scope k ≡ Some x
    → slice_get (marks_changed test change scope marks) k ≡ Some m → WasMarked test change marks k x m
was_marked test change [] marks k x m e f = let none : ⊥ = cc in absurd none
was_marked test change (y ∷ scope) [] k x m e f = let none : ⊥ = cc in absurd none
was_marked test change (y ∷ scope) (mark ∷ marks) zero x m e f = record {
  was = mark;
  marked = refl;
  is = subst (λ z. (if test z then change mark else mark) ≡ m) (some_same y x e) (some_same (if test y then change mark else mark) m f);
}
was_marked test change (y ∷ scope) (mark ∷ marks) (suc k) x m e f =
    let r = was_marked test change scope marks k x m e f in record { was = r.was; marked = r.marked; is = r.is }

by_test : (b : Bool) (change : Mark → Mark) (was m : Mark) (v : ℤ) → ((n : Mark) → MayLack n v → MayLack (change n) v) → (if b then change was else was) ≡ m → (MayLack m v → ⊥)
    → (MayLack was v → ⊥) × (b ≡ true → MayLack (change was) v → ⊥)
by_test true change was m v grows e out = (λ may. out (subst (λ n. MayLack n v) e (grows was may)), λ t may. out (subst (λ n. MayLack n v) e may))
by_test false change was m v grows e out = (λ may. out (subst (λ n. MayLack n v) e may), λ t may. false≢true t)

-- the place was so before, and where its variable passes the test, the change leaves the value out too
plain_changed : (test : ℕ → Bool) (change : Mark → Mark) (d : Connected) (k x : ℕ) (v : ℤ) → ((n : Mark) → MayLack n v → MayLack (change n) v) → IsPlain (changed_where test change d) k x v
    → IsPlain d k x v × (test x ≡ true → (was : Mark) × (MayLack (change was) v → ⊥))
plain_changed test change d k x v grows is =
    let r = was_marked test change d.scope d.marks k x is.mark is.var is.marked in
    let both = by_test (test x) change r.was is.mark v grows r.is is.plain in
    (record { var = is.var; mark = r.was; marked = r.marked; plain = both.0 }, λ t. (r.was, both.1 t))

-- ---- a removal marks the other places

if_grows : (b : Bool) (m : Mark) (v : ℤ) → MayLack m v → MayLack (if b then Whole else m) v
if_grows true m v may = tt
if_grows false m v may = may

after_grows : (h : Heed) (loss : Loss) (m : Mark) (v : ℤ) → MayLack m v → MayLack (mark_after h loss m) v
after_grows Each loss m v may = tt
after_grows Least loss m v may = if_grows (matters Least loss) m v may
after_grows Greatest loss m v may = if_grows (matters Greatest loss) m v may
after_grows Ends loss m v may = if_grows (matters Ends loss) m v may
after_grows Alone loss m v may = if_grows (matters Alone loss) m v may
after_grows (Shifted by) loss m v may =
    let w = loss.value +ℤ by in
    if_grows (int_lt w (pos 0 -ℤ pos 2147483648) || int_lt (pos 2147483647) w) (widened w w m) v (widened_grows w w m v may)

-- the constraint is over x, the variable is another one, and the loss of x marks the value at none of its places
pub record IsSpared (x : ℕ) (loss : Loss) (d : Connected) (y : ℕ) (v : ℤ) : Type 0 where
  pub over : Contains d.scope x
  pub other : y ≡ x → ⊥
  pub was : Mark
  pub out : MayLack (mark_after (heed_of x d.scope d.heeds) loss was) v → ⊥

-- the place was so before, and in a constraint over x it is one of x, or its value is spared
pub plain_others : (x : ℕ) (loss : Loss) (d : Connected) (k y : ℕ) (v : ℤ) → IsPlain (mark_others x loss d) k y v
    → IsPlain d k y v × ((Contains d.scope x → y ≡ x) ⊎ IsSpared x loss d y v)
plain_others x loss d k y v is = by_over (is_over x d) refl is
  where
    unequal : (b : Bool) → nat_eq y x ≡ b → (y ≡ x → ⊥) → not b ≡ true
    unequal true e ne = absurd (ne (eqb-true y x e))
    unequal false e ne = refl

    by_over : (b : Bool) → is_over x d ≡ b → IsPlain (if b then changed_where (λ z. not (nat_eq z x)) (mark_after (heed_of x d.scope d.heeds) loss) d else d) k y v
        → IsPlain d k y v × ((Contains d.scope x → y ≡ x) ⊎ IsSpared x loss d y v)
    by_over true e is =
        let r = plain_changed (λ z. not (nat_eq z x)) (mark_after (heed_of x d.scope d.heeds) loss) d k y v (λ n may. after_grows (heed_of x d.scope d.heeds) loss n v may) is in (
          r.0,
          elim (nat_known y x) [
            | inl own ↦ inl (λ over. own)
            | inr ne ↦
                let z = any_member (λ z. nat_eq z x) d.scope e in
                let spared = r.1 (unequal (nat_eq y x) refl ne) in
                inr (record { over = subst (λ w. Contains d.scope w) (eqb-true z.0 x z.2) z.1; other = ne; was = spared.0; out = spared.1 })
          ],
        )
    by_over false e is = (is, inl (λ over. absurd (false≢true (sym e ∙ member_any (λ z. nat_eq z x) d.scope x over (eq-eqb x x refl)))))

-- ---- restored values widen the own places

-- the place was so before, and the value is not restored
pub plain_widened : (entries : List Restored) (d : Connected) (k x : ℕ) (v : ℤ) → IsPlain (widened_by entries d) k x v
    → IsPlain d k x v × ((r : Restored) → Contains entries r → r.var ≡ x → r.low ≤ℤ v → v ≤ℤ r.high → ⊥)
plain_widened [] d k x v is = (is, λ r m named from upto. member_nil r m)
plain_widened (q ∷ entries) d k x v is =
    let rest = plain_widened entries (mark_own q.var q.low q.high d) k x v is in
    let one = plain_changed (λ y. nat_eq y q.var) (widened q.low q.high) d k x v (λ n may. widened_grows q.low q.high n v may) rest.0 in (
      one.0,
      λ r m named from upto. elim (member_cases q entries r m) [
        | inl e ↦
            let own : nat_eq x q.var ≡ true = eq-eqb x q.var (sym named ∙ ap (λ (s : Restored). s.var) (sym e)) in
            let was = one.1 own in
            was.1 (widened_holds q.low q.high was.0 v (subst (λ (s : Restored). s.low ≤ℤ v) (sym e) from) (subst (λ (s : Restored). v ≤ℤ s.high) (sym e) upto))
        | inr n ↦ rest.1 r n named from upto
      ],
    )

-- ---- a new constraint is marked whole

pub not_plain : (n k x : ℕ) (v : ℤ) (d : Connected) → d.marks ≡ replicate n Whole → IsPlain d k x v → ⊥
not_plain n k x v d e is = is.plain (subst (λ m. MayLack m v) (whole n k is.mark (subst (λ ms. slice_get ms k ≡ Some is.mark) e is.marked)) tt)
  where
    whole : (n k : ℕ) (m : Mark) → slice_get (replicate n Whole) k ≡ Some m → Whole ≡ m
    whole zero k m e = let none : ⊥ = cc in absurd none
    whole (suc n) zero m e = some_same Whole m e
    whole (suc n) (suc k) m e = whole n k m e

-- ---- a mark is taken away

set_other : (marks : List Mark) (place k : ℕ) (b c : Mark) → (k ≡ place → ⊥) → slice_get (slice_set marks place b) k ≡ Some c → slice_get marks k ≡ Some c
set_other [] place k b c n h = h
set_other (m ∷ marks) zero zero b c n h = absurd (n refl)
set_other (m ∷ marks) zero (suc k) b c n h = h
set_other (m ∷ marks) (suc place) zero b c n h = h
set_other (m ∷ marks) (suc place) (suc k) b c n h = set_other marks place k b c (λ e. n (ap suc e)) h

-- the place was so before, or it is the one whose mark was taken away
pub plain_unmarked : (cid : Cid) (place : ℕ) (d : Connected) (k x : ℕ) (v : ℤ) → IsPlain (changed_at cid (unmarked place) d) k x v → IsPlain d k x v ⊎ ((d.cid ≡ cid) × (k ≡ place))
plain_unmarked cid place d k x v is = by_cid (same_cid cid d.cid) refl is
  where
    by_cid : (b : Bool) → same_cid cid d.cid ≡ b → IsPlain (if b then unmarked place d else d) k x v → IsPlain d k x v ⊎ ((d.cid ≡ cid) × (k ≡ place))
    by_cid true e is = elim (nat_known k place) [
      | inl at ↦ inr (sym (cid_same cid d.cid e), at)
      | inr ne ↦ inl (record { var = is.var; mark = is.mark; marked = set_other d.marks place k Clear is.mark ne is.marked; plain = is.plain })
    ]
    by_cid false e is = inl is
