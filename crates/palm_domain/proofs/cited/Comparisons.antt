-- What the comparisons of values tell.
use Rattle.std.proofs.Common.{◌≡◌, ℤ, ◌<ℤ◌, ◌≤ℤ◌, Bool, true, false, not, cond, int_lt, int_cmp, int_eq, is_lt, is_le, is_gt, is_ge, Less, Equal, Greater, sym, ◌∙◌, refl, arith, inl, inr}
use Rattle.std.proofs.lemmas.Int.{ints}
use Rattle.std.proofs.lemmas.Bool.{cases_Bool, true≢false, not-true, not-false}
use Rattle.std.proofs.lemmas.Bool.Decides.{Decides-int_eq, not_from_Decides}

pub lt_from_int_lt : (a b : ℤ) → int_lt a b ≡ true → a <ℤ b
lt_from_int_lt a b h = grind (arith, ints)

pub ge_from_int_lt : (a b : ℤ) → int_lt a b ≡ false → b ≤ℤ a
ge_from_int_lt a b h = grind (arith, ints)

pub int_lt_from_lt : (a b : ℤ) → a <ℤ b → int_lt a b ≡ true
int_lt_from_lt a b h = grind (arith, ints)

pub int_lt_from_ge : (a b : ℤ) → b ≤ℤ a → int_lt a b ≡ false
int_lt_from_ge a b h = grind (arith, ints)

-- what `<`, `<=`, `>` and `>=` answer, by the two tests
is_lt-cmp : (l g : Bool) → is_lt (cond l Less (cond g Greater Equal)) ≡ l
is_lt-cmp true g = refl
is_lt-cmp false true = refl
is_lt-cmp false false = refl

is_ge-cmp : (l g : Bool) → is_ge (cond l Less (cond g Greater Equal)) ≡ not l
is_ge-cmp true g = refl
is_ge-cmp false true = refl
is_ge-cmp false false = refl

is_le-cmp : (l g : Bool) → (l ≡ true → g ≡ false) → is_le (cond l Less (cond g Greater Equal)) ≡ not g
is_le-cmp true true h = absurd (true≢false (h refl))
is_le-cmp true false h = refl
is_le-cmp false true h = refl
is_le-cmp false false h = refl

is_gt-cmp : (l g : Bool) → (l ≡ true → g ≡ false) → is_gt (cond l Less (cond g Greater Equal)) ≡ g
is_gt-cmp true true h = absurd (true≢false (h refl))
is_gt-cmp true false h = refl
is_gt-cmp false true h = refl
is_gt-cmp false false h = refl

one_way : (a b : ℤ) → int_lt a b ≡ true → int_lt b a ≡ false
one_way a b h = grind (arith, ints)

-- what the answer of a comparison of two values tells
pub lt_from_is_lt : (a b : ℤ) → true ≡ is_lt (int_cmp a b) → a <ℤ b
lt_from_is_lt a b h = lt_from_int_lt a b (sym (h ∙ is_lt-cmp (int_lt a b) (int_lt b a)))

pub ge_from_is_lt : (a b : ℤ) → false ≡ is_lt (int_cmp a b) → b ≤ℤ a
ge_from_is_lt a b h = ge_from_int_lt a b (sym (h ∙ is_lt-cmp (int_lt a b) (int_lt b a)))

pub le_from_is_le : (a b : ℤ) → true ≡ is_le (int_cmp a b) → a ≤ℤ b
le_from_is_le a b h =
    ge_from_int_lt b a (not-true (int_lt b a) (sym (h ∙ is_le-cmp (int_lt a b) (int_lt b a) (one_way a b))))

pub gt_from_is_le : (a b : ℤ) → false ≡ is_le (int_cmp a b) → b <ℤ a
gt_from_is_le a b h =
    lt_from_int_lt b a (not-false (int_lt b a) (sym (h ∙ is_le-cmp (int_lt a b) (int_lt b a) (one_way a b))))

pub gt_from_is_gt : (a b : ℤ) → true ≡ is_gt (int_cmp a b) → b <ℤ a
gt_from_is_gt a b h = lt_from_int_lt b a (sym (h ∙ is_gt-cmp (int_lt a b) (int_lt b a) (one_way a b)))

pub le_from_is_gt : (a b : ℤ) → false ≡ is_gt (int_cmp a b) → a ≤ℤ b
le_from_is_gt a b h = ge_from_int_lt b a (sym (h ∙ is_gt-cmp (int_lt a b) (int_lt b a) (one_way a b)))

pub ge_from_is_ge : (a b : ℤ) → true ≡ is_ge (int_cmp a b) → b ≤ℤ a
ge_from_is_ge a b h = ge_from_int_lt a b (not-true (int_lt a b) (sym (h ∙ is_ge-cmp (int_lt a b) (int_lt b a))))

pub lt_from_is_ge : (a b : ℤ) → false ≡ is_ge (int_cmp a b) → a <ℤ b
lt_from_is_ge a b h = lt_from_int_lt a b (not-false (int_lt a b) (sym (h ∙ is_ge-cmp (int_lt a b) (int_lt b a))))

pub same_from_int_eq : (a b : ℤ) → int_eq a b ≡ true → a ≡ b
same_from_int_eq a b h = (Decides-int_eq a b).0 h

pub apart_from_int_eq : (a b : ℤ) → int_eq a b ≡ false → a ≡ b → ⊥
apart_from_int_eq a b h = not_from_Decides (int_eq a b) (Decides-int_eq a b) h

pub int_eq_itself : (a : ℤ) → int_eq a a ≡ true
int_eq_itself a = (Decides-int_eq a a).1 refl

pub int_eq_apart : (a b : ℤ) → (a ≡ b → ⊥) → int_eq a b ≡ false
int_eq_apart a b apart = elim (cases_Bool (int_eq a b)) [ inl h ↦ absurd (apart (same_from_int_eq a b h)) | inr h ↦ h ]
