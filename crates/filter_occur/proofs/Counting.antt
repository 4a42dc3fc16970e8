-- What a walk over the variables has counted, and what one more variable adds.
use Rattle.std.proofs.Common.{◌≡◌, ℕ, ℤ, pos, ◌+◌, ◌<◌, ◌≤◌, ◌<ℤ◌, ◌≤ℤ◌, Bool, true, false, cond, List, [], ◌∷◌, length, take, get_or, eqb, refl, sym, ap, ◌∙◌, subst, arith}
use Rattle.std.proofs.lemmas.Int.{ints}
use Rattle.std.proofs.lemmas.Bool.{true≢false}
use Rattle.std.proofs.lemmas.List.Elements.{AllWithin-more, at_read}
use Rattle.std.proofs.lemmas.List.Filters.{length-filter_more}
use Rattle.std.specs.List.{AllWithin}
use Rattle.palm_base.specs.Tells.{Tells}
use Rattle.palm_filter.proofs.cited.Listed.{listed_told}
use Rattle.palm_model.specs.Domains.{Domains, Has, values_of}
use Rattle.palm_model.specs.Removed.{is_alone, is_listed}
use Rattle.palm_reason.proofs.cited.CountNumbers.{bit, alone_listed}
use Rattle.filter_occur.specs.Count.{values_where, low_count, high_count, IsChance}
use Rattle.filter_occur.specs.declared.rule.Chance.{Chance}
use Rattle.filter_occur.specs.declared.rule.Chance.TheVariants.{Certain, Impossible, Open}

-- ---- a walk over the variables

-- what a walk over so many of the variables has counted, the high number until it is enough
pub record AreCounted (f : ℕ → List ℤ) (value : ℤ) (vars : List ℕ) (enough : ℤ) (index low high : ℕ) : Type 0 where
  pub low_is : low ≡ low_count f value (take index vars)
  pub most : high ≤ high_count f value (take index vars)
  pub high_is : pos high <ℤ enough → high ≡ high_count f value (take index vars)
  pub ordered : low ≤ high
  pub few : high ≤ index
  pub filled : AllWithin (λ y. 0 < length (f y)) vars 0 index

alone_filled : (vs : List ℤ) (value : ℤ) → is_alone vs value ≡ true → 0 < length vs
alone_filled [] value t = absurd (true≢false (sym t))
alone_filled (u ∷ us) value t = omega arith

unlisted_alone : (vs : List ℤ) (value : ℤ) → is_listed vs value ≡ false → is_alone vs value ≡ false
unlisted_alone vs value t = by (is_alone vs value) refl
  where
    by : (b : Bool) → is_alone vs value ≡ b → is_alone vs value ≡ false
    by true e = absurd (true≢false (sym (alone_listed vs value e) ∙ t))
    by false e = e

several_alone : (vs : List ℤ) (value : ℤ) → 1 < length vs → is_alone vs value ≡ false
several_alone [] value lt = absurd (omega (arith, lt))
several_alone (u ∷ []) value lt = absurd (omega (arith, lt))
several_alone (u ∷ t ∷ us) value lt = refl

module _ (f : ℕ → List ℤ) (value : ℤ) (vars : List ℕ) (enough : ℤ) (index y : ℕ) (lt : index < length vars) (at : y ≡ get_or vars index y) (low high : ℕ) (counted : AreCounted f value vars enough index low high) where
  low_more : low_count f value (take (index + 1) vars) ≡ low_count f value (take index vars) + bit (is_alone (f y) value)
  low_more = length-filter_more (λ z. is_alone (f z) value) vars index y lt ∙ ap (λ z. low_count f value (take index vars) + bit (is_alone (f z) value)) (sym at)

  high_more : high_count f value (take (index + 1) vars) ≡ high_count f value (take index vars) + bit (is_listed (f y) value)
  high_more = length-filter_more (λ z. is_listed (f z) value) vars index y lt ∙ ap (λ z. high_count f value (take index vars) + bit (is_listed (f z) value)) (sym at)

  -- what is counted of one more variable, where it is all that there is to count
  counted_whole : 0 < length (f y) → (more raised lower higher : ℕ) → bit (is_alone (f y) value) ≡ more → bit (is_listed (f y) value) ≡ raised → more ≤ raised → raised ≤ 1 → lower ≡ low + more → higher ≡ high + raised → AreCounted f value vars enough (index + 1) lower higher
  counted_whole filled more raised lower higher alone listed le small l h = record {
    low_is = omega (arith, l, alone, low_more, counted.low_is);
    most = omega (arith, h, listed, high_more, counted.most);
    high_is = λ lt. omega (arith, h, listed, high_more, counted.high_is (omega (arith, ints, lt, h)));
    ordered = omega (arith, l, h, le, counted.ordered);
    few = omega (arith, h, small, counted.few);
    filled = AllWithin-more (λ z. 0 < length (f z)) vars 0 index counted.filled (at_read vars (λ z. 0 < length (f z)) index y lt at filled);
  }

  module _ (chance : Chance) (told : IsChance (f y) value chance) (lower higher : ℕ) where
    told_as : (other : Chance) → chance ≡ other → IsChance (f y) value other
    told_as other e = subst (λ k. IsChance (f y) value k) e told

    pub counted_certain : chance ≡ Certain → lower ≡ low + 1 → higher ≡ high + 1 → AreCounted f value vars enough (index + 1) lower higher
    counted_certain e l h =
        let t = told_as Certain e in
        counted_whole (alone_filled (f y) value t) 1 1 lower higher (ap bit t) (ap bit (alone_listed (f y) value t)) (omega arith) (omega arith) l h

    pub counted_impossible : chance ≡ Impossible → lower ≡ low → higher ≡ high → AreCounted f value vars enough (index + 1) lower higher
    counted_impossible e l h =
        let t = told_as Impossible e in
        counted_whole t.0 0 0 lower higher (ap bit (unlisted_alone (f y) value t.1)) (ap bit t.1) (omega arith) (omega arith) (omega (arith, l)) (omega (arith, h))

    pub counted_possible : chance ≡ Open → is_listed (f y) value ≡ true → lower ≡ low → higher ≡ high + 1 → AreCounted f value vars enough (index + 1) lower higher
    counted_possible e t l h =
        let more : 1 < length (f y) = told_as Open e in
        counted_whole (omega (arith, more)) 0 1 lower higher (ap bit (several_alone (f y) value more)) (ap bit t) (omega arith) (omega arith) (omega (arith, l)) h

    pub counted_missing : chance ≡ Open → is_listed (f y) value ≡ false → lower ≡ low → higher ≡ high → AreCounted f value vars enough (index + 1) lower higher
    counted_missing e t l h =
        let more : 1 < length (f y) = told_as Open e in
        counted_whole (omega (arith, more)) 0 0 lower higher (ap bit (several_alone (f y) value more)) (ap bit t) (omega arith) (omega arith) (omega (arith, l)) (omega (arith, h))

    -- the high number is enough
    pub counted_enough : chance ≡ Open → enough ≤ℤ pos high → lower ≡ low → higher ≡ high → AreCounted f value vars enough (index + 1) lower higher
    counted_enough e reached l h =
        let more : 1 < length (f y) = told_as Open e in
        record {
          low_is = omega (arith, l, ap bit (several_alone (f y) value more), low_more, counted.low_is);
          most = omega (arith, h, high_more, counted.most);
          high_is = λ lt. absurd (omega (arith, ints, reached, lt, h));
          ordered = omega (arith, l, h, counted.ordered);
          few = omega (arith, h, counted.few);
          filled = AllWithin-more (λ z. 0 < length (f z)) vars 0 index counted.filled (at_read vars (λ z. 0 < length (f z)) index y lt at (omega (arith, more)));
        }

-- ---- what one variable tells

-- the variable of the pair has one value, so one that has several is another
pub several_listed : (d : Domains) (x : ℕ) (v value : ℤ) (y : ℕ) (chance : Chance) → IsChance (values_where d x v y) value chance → chance ≡ Open → (told : Bool) → Tells told (Has d y value) → is_listed (values_where d x v y) value ≡ told
several_listed d x v value y chance is e told tells = ap (λ vs. is_listed vs value) (by (eqb y x) (values_where d x v y) refl more) ∙ sym (listed_told (values_of d y) value told tells)
  where
    more : 1 < length (values_where d x v y)
    more = subst (λ k. IsChance (values_where d x v y) value k) e is

    by : (b : Bool) → (vs : List ℤ) → vs ≡ cond b (v ∷ []) (values_of d y) → 1 < length vs → vs ≡ values_of d y
    by true vs f lt = absurd (omega (arith, lt, ap length f))
    by false vs f lt = f
