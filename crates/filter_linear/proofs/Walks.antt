-- What a pass over the terms keeps: the least and the greatest sum so far, and the pairs so far.
use Rattle.std.proofs.Common.{◌≡◌, ℕ, zero, suc, ◌+◌, ◌*◌, ◌<◌, ◌≤◌, List, [], ◌∷◌, length, take, get_or, add-one, Contains, ℤ, pos, ◌+ℤ◌, ◌*ℤ◌, ◌≤ℤ◌, ◌<ℤ◌, FitsSigned, to_z, of_z, w32, w64, true, false, cond, eqb, refl, sym, ap, ◌∙◌, subst, int_lt, arith}
use Rattle.std.specs.List.{AllWithin}
use Rattle.std.proofs.lemmas.Bool.{both_ways}
use Rattle.std.proofs.lemmas.Int.{ints, by_lt_z}
use Rattle.std.proofs.lemmas.List.{take_all}
use Rattle.std.proofs.lemmas.List.Elements.{All-contains, AllWithin-more, AllWithin-none, All-from_all_within, Contains-get_or}
use Rattle.palm_base.proofs.cited.Members.{member_same, member_map, member_unmap}
use Rattle.palm_domain.specs.Rows.{IsLeastOf, IsGreatestOf}
use Rattle.palm_model.specs.declared.limits.TheConstants.{GREATEST_FACTOR, GREATEST_PRODUCT, MOST_SCOPE}
use Rattle.palm_model.specs.Domains.{Domains, Has, values_of}
use Rattle.palm_model.specs.Linear.{IsFactor, term_vars, least_of, greatest_of, products, least_total, greatest_total}
use Rattle.palm_model.specs.Limits.{IsUpTo}
use Rattle.palm_model.specs.Reason.{AreFilled}
use Rattle.palm_model.specs.declared.constraint.Term.{Term}
use Rattle.palm_model.proofs.cited.Standing.{stands_from_test, test_from_stands}
use Rattle.palm_model.specs.declared.constraint.Op.TheVariants.{Lt}
use Rattle.palm_model.proofs.cited.Sums.{round_up_to, up_to_more, round_factor, sum_up_to, sum_read}
use Rattle.filter_linear.specs.Linear.{IsProduct, IsTermSpan, IsFilledBeside, IsShare, IsSpan, IsEnd, IsShareEnd, IsTermEnd, end_share, end_total, least_share, greatest_share, values_beyond, beyond_reason}
use Rattle.filter_linear.specs.declared.end.End.{End}
use Rattle.filter_linear.specs.declared.end.End.TheVariants.{Least, Greatest}
use Rattle.filter_linear.specs.declared.reasons.Side.{Side}
use Rattle.filter_linear.specs.declared.reasons.Side.TheVariants.{Below, Above}
use Rattle.filter_linear.specs.declared.span.Span.{Span}
use Rattle.palm_reason.proofs.cited.LinearTotals.{product_rises, product_falls, least_is, greatest_is, total_by, least_by, greatest_by}
use Rattle.palm_reason.proofs.cited.LinearReason.{pairs_by}

-- ---- numbers through their 64 bits

pub round_product : (z : ℤ) → IsProduct z → to_z w64 (of_z w64 z) ≡ z
round_product z h = round_up_to z (up_to_more GREATEST_PRODUCT 4000000000000000 z (omega arith) h)

round_sum : (i : ℕ) (z : ℤ) → i ≤ MOST_SCOPE → IsUpTo (i * GREATEST_PRODUCT) z → to_z w64 (of_z w64 z) ≡ z
round_sum i z few h = round_up_to z (up_to_more (i * GREATEST_PRODUCT) 4000000000000000 z (omega arith) h)

-- one more summand
pub step_read : (i : ℕ) (m n : ℤ) → i ≤ MOST_SCOPE → IsUpTo (i * GREATEST_PRODUCT) m → IsProduct n → to_z w64 (of_z w64 (to_z w64 (of_z w64 m) +ℤ to_z w64 (of_z w64 n))) ≡ m +ℤ n
step_read i m n few h k = let e = round_sum i m few h in rw e (sum_read i m n few h k)

pub step_fits : (i : ℕ) (m n : ℤ) → i ≤ MOST_SCOPE → IsUpTo (i * GREATEST_PRODUCT) m → IsProduct n → FitsSigned w64 (to_z w64 (of_z w64 m) +ℤ to_z w64 (of_z w64 n))
step_fits i m n few h k =
    let e = round_sum i m few h in
    let f = round_product n k in
    rw (e, f) (omega (arith, ints, h.above, h.below, k.above, k.below))

-- ---- what one term can be

rises : (f : ℤ) → IsUpTo GREATEST_FACTOR f → int_lt (pos 0) (to_z w32 (of_z w32 f)) ≡ true → pos 0 <ℤ f
rises f k h = stands_from_test Lt (pos 0) f (subst (λ z. int_lt (pos 0) z ≡ true) (round_factor f k) h)

falls : (f : ℤ) → IsUpTo GREATEST_FACTOR f → int_lt (pos 0) (to_z w32 (of_z w32 f)) ≡ false → f ≤ℤ pos 0
falls f k h =
    by_lt_z (pos 0) f
    (λ lt. absurd (both_ways (int_lt (pos 0) f) (subst (λ z. int_lt (pos 0) z ≡ false) (round_factor f k) h) (test_from_stands Lt (pos 0) f lt)))
    (λ le. le)

in_products : (d : Domains) (t : Term) (w : ℤ) → Has d t.var w → Contains (products d t) (t.factor *ℤ w)
in_products d t w h = member_map (λ u. t.factor *ℤ u) (values_of d t.var) w h

each_product : (d : Domains) (t : Term) (P : ℤ → Type 0) → ((w : ℤ) → Has d t.var w → P (t.factor *ℤ w)) → (k : ℤ) → Contains (products d t) k → P k
each_product d t P each k h = let r = member_unmap (λ u. t.factor *ℤ u) (values_of d t.var) k h in subst P r.2 (each r.0 r.1)

-- the least and the greatest product are those of the least and the greatest value, by the sign of the coefficient
module _ (d : Domains) (t : Term) (low : ℤ) (least : IsLeastOf (values_of d t.var) low) where
  pub least_risen : pos 0 <ℤ t.factor → t.factor *ℤ low ≡ least_of (products d t)
  least_risen p = least_is (products d t) (t.factor *ℤ low) (in_products d t low least.member) (each_product d t (λ k. (t.factor *ℤ low) ≤ℤ k) (λ w h. product_rises t.factor low w p (least.least w h)))

  pub greatest_fallen : t.factor ≤ℤ pos 0 → t.factor *ℤ low ≡ greatest_of (products d t)
  greatest_fallen p = greatest_is (products d t) (t.factor *ℤ low) (in_products d t low least.member) (each_product d t (λ k. k ≤ℤ (t.factor *ℤ low)) (λ w h. product_falls t.factor low w p (least.least w h)))

module _ (d : Domains) (t : Term) (high : ℤ) (greatest : IsGreatestOf (values_of d t.var) high) where
  pub greatest_risen : pos 0 <ℤ t.factor → t.factor *ℤ high ≡ greatest_of (products d t)
  greatest_risen p = greatest_is (products d t) (t.factor *ℤ high) (in_products d t high greatest.member) (each_product d t (λ k. k ≤ℤ (t.factor *ℤ high)) (λ w h. product_rises t.factor w high p (greatest.greatest w h)))

  pub least_fallen : t.factor ≤ℤ pos 0 → t.factor *ℤ high ≡ least_of (products d t)
  least_fallen p = least_is (products d t) (t.factor *ℤ high) (in_products d t high greatest.member) (each_product d t (λ k. (t.factor *ℤ high) ≤ℤ k) (λ w h. product_falls t.factor w high p (greatest.greatest w h)))

module _ (d : Domains) (t : Term) (low m : ℤ) (least : IsLeastOf (values_of d t.var) low) (at_low : m ≡ t.factor *ℤ low) (small : IsProduct m) (factor : IsFactor t) where
  pub rising_least : int_lt (pos 0) (to_z w32 (of_z w32 t.factor)) ≡ true → IsTermEnd Least d t m
  rising_least test = record {
    is = at_low ∙ least_risen d t low least (rises t.factor factor.1 test);
    filled = omega (arith, least.member.1);
    small = small;
  }

  pub falling_greatest : int_lt (pos 0) (to_z w32 (of_z w32 t.factor)) ≡ false → IsTermEnd Greatest d t m
  falling_greatest test = record {
    is = at_low ∙ greatest_fallen d t low least (falls t.factor factor.1 test);
    filled = omega (arith, least.member.1);
    small = small;
  }

module _ (d : Domains) (t : Term) (high n : ℤ) (greatest : IsGreatestOf (values_of d t.var) high) (at_high : n ≡ t.factor *ℤ high) (small : IsProduct n) (factor : IsFactor t) where
  pub rising_greatest : int_lt (pos 0) (to_z w32 (of_z w32 t.factor)) ≡ true → IsTermEnd Greatest d t n
  rising_greatest test = record {
    is = at_high ∙ greatest_risen d t high greatest (rises t.factor factor.1 test);
    filled = omega (arith, greatest.member.1);
    small = small;
  }

  pub falling_least : int_lt (pos 0) (to_z w32 (of_z w32 t.factor)) ≡ false → IsTermEnd Least d t n
  falling_least test = record {
    is = at_high ∙ least_fallen d t high greatest (falls t.factor factor.1 test);
    filled = omega (arith, greatest.member.1);
    small = small;
  }

pub span_of_ends : (d : Domains) (t : Term) (m n : ℤ) → IsTermEnd Least d t m → IsTermEnd Greatest d t n → IsTermSpan d t (record { least = to_z w64 (of_z w64 m); greatest = to_z w64 (of_z w64 n) })
span_of_ends d t m n low high =
    let e = round_product m low.small in
    let f = round_product n high.small in
    record {
      least = e ∙ low.is;
      greatest = f ∙ high.is;
      filled = low.filled;
      least_small = subst IsProduct (sym e) low.small;
      greatest_small = subst IsProduct (sym f) high.small;
    }

-- ---- the least and the greatest sum so far

total_by_suc : (e : Term → ℤ) (terms : List Term) (i : ℕ) (t : Term) (x : ℕ) (v : ℤ) → i < length terms → t ≡ get_or terms i t → total_by e (take (suc i) terms) x v ≡ total_by e (take i terms) x v +ℤ cond (eqb t.var x) (t.factor *ℤ v) (e t)
total_by_suc e [] i t x v lt at = absurd (omega arith)
total_by_suc e (u ∷ ts) zero t x v lt at = let same = ap (λ (s : Term). cond (eqb s.var x) (s.factor *ℤ v) (e s)) at in omega (arith, ints)
total_by_suc e (u ∷ ts) (suc i) t x v lt at = let more = total_by_suc e ts i t x v (omega arith) at in omega (arith, ints)

total_by_more : (e : Term → ℤ) (terms : List Term) (i : ℕ) (t : Term) (x : ℕ) (v : ℤ) → i < length terms → t ≡ get_or terms i t → total_by e (take (i + 1) terms) x v ≡ total_by e (take i terms) x v +ℤ cond (eqb t.var x) (t.factor *ℤ v) (e t)
total_by_more e terms i t x v lt at = rw add-one (total_by_suc e terms i t x v lt at)

at_any : (terms : List Term) (i : ℕ) (t u : Term) → i < length terms → t ≡ get_or terms i t → t ≡ get_or terms i u
at_any [] i t u lt at = absurd (omega arith)
at_any (s ∷ ts) zero t u lt at = at
at_any (s ∷ ts) (suc i) t u lt at = at_any ts i t u (omega arith) at

-- what the first i terms can be together
pub record IsSpanTo (d : Domains) (terms : List Term) (x : ℕ) (v : ℤ) (i : ℕ) (s : Span) : Type 0 where
  pub least : s.least ≡ least_total d (take i terms) x v
  pub greatest : s.greatest ≡ greatest_total d (take i terms) x v
  pub filled : AllWithin (IsFilledBeside d x) terms 0 i
  pub least_small : IsUpTo (i * GREATEST_PRODUCT) s.least
  pub greatest_small : IsUpTo (i * GREATEST_PRODUCT) s.greatest

module _ (d : Domains) (terms : List Term) (x : ℕ) (v : ℤ) where
  pub span_none : IsSpanTo d terms x v 0 (record { least = pos 0; greatest = pos 0 })
  span_none = record {
    least = refl;
    greatest = refl;
    filled = AllWithin-none (IsFilledBeside d x) terms 0;
    least_small = record { above = omega (arith, ints); below = omega (arith, ints) };
    greatest_small = record { above = omega (arith, ints); below = omega (arith, ints) };
  }

  least_more : (i : ℕ) (t : Term) (m n : ℤ) → i < length terms → t ≡ get_or terms i t → m ≡ least_total d (take i terms) x v → n ≡ least_share d x v t → m +ℤ n ≡ least_total d (take (i + 1) terms) x v
  least_more i t m n lt at e f =
      ap (λ z. z +ℤ n) (e ∙ least_by d (take i terms) x v) ∙ ap (λ z. total_by (λ u. least_of (products d u)) (take i terms) x v +ℤ z) f
      ∙ sym (least_by d (take (i + 1) terms) x v ∙ total_by_more (λ u. least_of (products d u)) terms i t x v lt at)

  greatest_more : (i : ℕ) (t : Term) (m n : ℤ) → i < length terms → t ≡ get_or terms i t → m ≡ greatest_total d (take i terms) x v → n ≡ greatest_share d x v t → m +ℤ n ≡ greatest_total d (take (i + 1) terms) x v
  greatest_more i t m n lt at e f =
      ap (λ z. z +ℤ n) (e ∙ greatest_by d (take i terms) x v) ∙ ap (λ z. total_by (λ u. greatest_of (products d u)) (take i terms) x v +ℤ z) f
      ∙ sym (greatest_by d (take (i + 1) terms) x v ∙ total_by_more (λ u. greatest_of (products d u)) terms i t x v lt at)

  pub span_more : (i : ℕ) (t : Term) (s share : Span) → i < length terms → length terms ≤ MOST_SCOPE → t ≡ get_or terms i t → IsSpanTo d terms x v i s → IsShare d x v t share → IsSpanTo d terms x v (i + 1) (record {
    least = to_z w64 (of_z w64 (to_z w64 (of_z w64 s.least) +ℤ to_z w64 (of_z w64 share.least)));
    greatest = to_z w64 (of_z w64 (to_z w64 (of_z w64 s.greatest) +ℤ to_z w64 (of_z w64 share.greatest)));
  })
  span_more i t s share lt few at so_far is =
      let up_to : i ≤ MOST_SCOPE = omega arith in
      let low = step_read i s.least share.least up_to so_far.least_small is.least_small in
      let high = step_read i s.greatest share.greatest up_to so_far.greatest_small is.greatest_small in
      record {
        least = low ∙ least_more i t s.least share.least lt at so_far.least is.least;
        greatest = high ∙ greatest_more i t s.greatest share.greatest lt at so_far.greatest is.greatest;
        filled = AllWithin-more (IsFilledBeside d x) terms 0 i so_far.filled (λ u. subst (IsFilledBeside d x) (at_any terms i t u lt at) is.filled);
        least_small = subst (λ z. IsUpTo ((i + 1) * GREATEST_PRODUCT) z) (sym low) (sum_up_to i s.least share.least so_far.least_small is.least_small);
        greatest_small = subst (λ z. IsUpTo ((i + 1) * GREATEST_PRODUCT) z) (sym high) (sum_up_to i s.greatest share.greatest so_far.greatest_small is.greatest_small);
      }

  pub span_end : (i : ℕ) (s : Span) → length terms ≤ i → i ≤ length terms → IsSpanTo d terms x v i s → IsSpan d terms x v s
  span_end i s past upto is =
      let whole : take i terms ≡ terms = take_all i terms past in
      let at_end : i ≡ length terms = omega arith in
      record {
        least = is.least ∙ ap (λ (ts : List Term). least_total d ts x v) whole;
        greatest = is.greatest ∙ ap (λ (ts : List Term). greatest_total d ts x v) whole;
        filled = All-from_all_within (IsFilledBeside d x) terms (subst (λ n. AllWithin (IsFilledBeside d x) terms 0 n) at_end is.filled);
      }

-- ---- one end of the sum so far

-- the end of what the first i terms can be together
pub record IsEndTo (end : End) (d : Domains) (terms : List Term) (x : ℕ) (v : ℤ) (i : ℕ) (n : ℤ) : Type 0 where
  pub is : n ≡ end_total end d (take i terms) x v
  pub filled : AllWithin (IsFilledBeside d x) terms 0 i
  pub small : IsUpTo (i * GREATEST_PRODUCT) n

module _ (end : End) (d : Domains) (terms : List Term) (x : ℕ) (v : ℤ) where
  pub end_none : IsEndTo end d terms x v 0 (pos 0)
  end_none = record {
    is = by_end end;
    filled = AllWithin-none (IsFilledBeside d x) terms 0;
    small = record { above = omega (arith, ints); below = omega (arith, ints) };
  }
    where
      by_end : (end : End) → pos 0 ≡ end_total end d [] x v
      by_end Least = refl
      by_end Greatest = refl

  pub end_more : (i : ℕ) (t : Term) (m n : ℤ) → i < length terms → length terms ≤ MOST_SCOPE → t ≡ get_or terms i t → IsEndTo end d terms x v i m → IsShareEnd end d x v t n
      → IsEndTo end d terms x v (i + 1) (to_z w64 (of_z w64 (m +ℤ to_z w64 (of_z w64 n))))
  end_more i t m n lt few at so_far share =
      let up_to : i ≤ MOST_SCOPE = omega arith in
      let e = subst (λ z. to_z w64 (of_z w64 (z +ℤ to_z w64 (of_z w64 n))) ≡ m +ℤ n) (round_sum i m up_to so_far.small) (step_read i m n up_to so_far.small share.small) in
      record {
        is = e ∙ by_end end so_far.is share.is;
        filled = AllWithin-more (IsFilledBeside d x) terms 0 i so_far.filled (λ u. subst (IsFilledBeside d x) (at_any terms i t u lt at) share.filled);
        small = subst (λ z. IsUpTo ((i + 1) * GREATEST_PRODUCT) z) (sym e) (sum_up_to i m n so_far.small share.small);
      }
    where
      by_end : (end : End) → m ≡ end_total end d (take i terms) x v → n ≡ end_share end d x v t → m +ℤ n ≡ end_total end d (take (i + 1) terms) x v
      by_end Least e f = least_more d terms x v i t m n lt at e f
      by_end Greatest e f = greatest_more d terms x v i t m n lt at e f

  pub end_end : (i : ℕ) (n : ℤ) → i ≤ MOST_SCOPE → length terms ≤ i → i ≤ length terms → IsEndTo end d terms x v i n → IsEnd end d terms x v (to_z w64 (of_z w64 n))
  end_end i n few past upto is = record {
    is = round_sum i n few is.small ∙ is.is ∙ ap (λ (ts : List Term). end_total end d ts x v) (take_all i terms past);
    filled = All-from_all_within (IsFilledBeside d x) terms (subst (λ k. AllWithin (IsFilledBeside d x) terms 0 k) (omega arith) is.filled);
  }

-- ---- the pairs so far

pub beyond_by : (side : Side) (initial present : Domains) (terms : List Term) (x : ℕ) → pairs_by (λ t. values_beyond side initial present t) terms x ≡ beyond_reason side initial present terms x
beyond_by Below initial present terms x = refl
beyond_by Above initial present terms x = refl

-- the variable of a term has some value
pub term_filled : (d : Domains) (terms : List Term) (i : ℕ) (t : Term) → AreFilled d (term_vars terms) → i < length terms → t ≡ get_or terms i t → 0 < length (values_of d t.var)
term_filled d terms i t h lt e =
    All-contains (λ y. 0 < length (values_of d y)) (term_vars terms) t.var h
    (member_map (λ (u : Term). u.var) terms t (member_same terms (get_or terms i t) t (sym e) (Contains-get_or terms i t lt)))
