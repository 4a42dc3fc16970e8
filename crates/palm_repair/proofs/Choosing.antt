-- The heaviest decision, found in one walk.
use Rattle.std.proofs.Common.{◌≡◌, ℕ, ◌+◌, ◌<◌, ◌≤◌, Option, None, Some, List, length, slice_get, Contains, inl, inr, refl, sym, ap, ◌∙◌, subst, arith}
use Rattle.std.specs.Prelude.{MatchOption}
use Rattle.std.proofs.lemmas.Bool.{cases_eq, cases_lt}
use Rattle.std.proofs.lemmas.Option.{slice_get_within}
use Rattle.palm_base.specs.declared.terms.Pair.{Pair}
use Rattle.palm_base.specs.declared.terms.Cid.{Cid}
use Rattle.palm_base.specs.declared.terms.Cid.TheVariants.{Decide}
use Rattle.palm_base.proofs.cited.Members.{member_place}
use Rattle.palm_repair.specs.Repair.{weight_of}
use Rattle.palm_repair.specs.Learned.{IsHeaviestAt}
use Rattle.palm_repair.proofs.Reading.{some_same}

-- among the first so many decisions the heaviest one stands at this place, and this is its weight
pub record HeaviestBelow (weights : List ℕ) (decisions : List Pair) (cids : List Cid) (i place greatest : ℕ) : Type 0 where
  pub pair : Pair
  pub stands : slice_get decisions place ≡ Some pair
  pub held : Contains cids (Decide pair.var)
  pub is : greatest ≡ weight_of weights pair.var
  pub before : place < i
  pub heaviest : (k : ℕ) (p : Pair) → k < place → slice_get decisions k ≡ Some p → Contains cids (Decide p.var) → weight_of weights p.var ≤ weight_of weights pair.var
  pub latest : (k : ℕ) (p : Pair) → place < k → k < i → slice_get decisions k ≡ Some p → Contains cids (Decide p.var) → weight_of weights p.var < weight_of weights pair.var

-- there is none, or it stands at this place
abbrev pub IsHeaviestYet : List ℕ → List Pair → List Cid → ℕ → Option ℕ → ℕ → Type 0
IsHeaviestYet weights decisions cids i None greatest = (greatest ≡ 0) × ((k : ℕ) (p : Pair) → k < i → slice_get decisions k ≡ Some p → Contains cids (Decide p.var) → ⊥)
IsHeaviestYet weights decisions cids i (Some place) greatest = HeaviestBelow weights decisions cids i place greatest

same_at : (decisions : List Pair) (k i : ℕ) (p q : Pair) → k ≡ i → slice_get decisions k ≡ Some p → slice_get decisions i ≡ Some q → p ≡ q
same_at decisions k i p q e f g = some_same p q (sym f ∙ ap (slice_get decisions) e ∙ g)

last_below : (k i : ℕ) → k < i + 1 → (k ≡ i → ⊥) → k < i
last_below k i lt ne = omega (arith, lt, ne)

-- the walk begins
pub heaviest_none : (weights : List ℕ) (decisions : List Pair) (cids : List Cid) → IsHeaviestYet weights decisions cids 0 None 0
heaviest_none weights decisions cids = (refl, λ k p lt e held. omega (arith, lt))

-- the next decision is among the ids, and no lighter
pub heaviest_next : (weights : List ℕ) (decisions : List Pair) (cids : List Cid) (i : ℕ) (best : Option ℕ) (greatest weight : ℕ) (p : Pair) → slice_get decisions i ≡ Some p → Contains cids (Decide p.var)
    → weight ≡ weight_of weights p.var → greatest ≤ weight → IsHeaviestYet weights decisions cids i best greatest → IsHeaviestYet weights decisions cids (i + 1) (Some i) weight
heaviest_next weights decisions cids i None greatest weight p at held w le yet = record {
  pair = p;
  stands = at;
  held = held;
  is = w;
  before = omega arith;
  heaviest = λ k q lt e h. absurd (yet.1 k q lt e h);
  latest = λ k q gt lt e h. omega (arith, gt, lt);
}
heaviest_next weights decisions cids i (Some place) greatest weight p at held w le yet = record {
  pair = p;
  stands = at;
  held = held;
  is = w;
  before = omega arith;
  heaviest = λ k q lt e h. elim (cases_lt k place) [
    | inl less ↦ let one = yet.heaviest k q less e h in let two = yet.is in omega (arith, one, two, w, le)
    | inr more ↦ elim (cases_eq k place) [
      | inl same ↦
          let one = ap (λ (z : Pair). weight_of weights z.var) (same_at decisions k place q yet.pair same e yet.stands) in
          let two = yet.is in
          omega (arith, one, two, w, le)
      | inr other ↦
          let one = yet.latest k q (above k place more other) lt e h in
          let two = yet.is in
          omega (arith, one, two, w, le)
    ]
  ];
  latest = λ k q gt lt e h. omega (arith, gt, lt);
}
  where
    above : (k place : ℕ) → place ≤ k → (k ≡ place → ⊥) → place < k
    above k place le ne = omega (arith, le, ne)

pub heaviest_then : (weights : List ℕ) (decisions : List Pair) (cids : List Cid) (i : ℕ) (best now : Option ℕ) (greatest weight most : ℕ) (p : Pair) → now ≡ Some i → most ≡ weight → slice_get decisions i ≡ Some p → Contains cids (Decide p.var)
    → weight ≡ weight_of weights p.var → greatest ≤ weight → IsHeaviestYet weights decisions cids i best greatest → IsHeaviestYet weights decisions cids (i + 1) now most
heaviest_then weights decisions cids i best now greatest weight most p en em at held w le yet =
    subst (λ b. IsHeaviestYet weights decisions cids (i + 1) b most) (sym en) (subst (λ k. IsHeaviestYet weights decisions cids (i + 1) (Some i) k) (sym em) (heaviest_next weights decisions cids i best greatest weight p at held w le yet))

-- the next decision is lighter, or not among the ids
pub heaviest_kept : (weights : List ℕ) (decisions : List Pair) (cids : List Cid) (i : ℕ) (best : Option ℕ) (greatest : ℕ) (p : Pair) → slice_get decisions i ≡ Some p
    → (Contains cids (Decide p.var) → weight_of weights p.var < greatest) → IsHeaviestYet weights decisions cids i best greatest → IsHeaviestYet weights decisions cids (i + 1) best greatest
heaviest_kept weights decisions cids i None greatest p at lighter yet = (
  yet.0,
  λ k q lt e h. elim (cases_eq k i) [
    | inl same ↦
        let less = lighter (subst (λ (z : Pair). Contains cids (Decide z.var)) (same_at decisions k i q p same e at) h) in
        let none = yet.0 in
        omega (arith, less, none)
    | inr other ↦ yet.1 k q (last_below k i lt other) e h
  ],
)
heaviest_kept weights decisions cids i (Some place) greatest p at lighter yet = record {
  pair = yet.pair;
  stands = yet.stands;
  held = yet.held;
  is = yet.is;
  before = let lt = yet.before in omega (arith, lt);
  heaviest = yet.heaviest;
  latest = λ k q gt lt e h. elim (cases_eq k i) [
    | inl same ↦
        let f = same_at decisions k i q p same e at in
        let less = lighter (subst (λ (z : Pair). Contains cids (Decide z.var)) f h) in
        let one = ap (λ (z : Pair). weight_of weights z.var) f in
        let two = yet.is in
        omega (arith, less, one, two)
    | inr other ↦ yet.latest k q gt (last_below k i lt other) e h
  ];
}

pub heaviest_still : (weights : List ℕ) (decisions : List Pair) (cids : List Cid) (i : ℕ) (best now : Option ℕ) (greatest most : ℕ) (p : Pair) → now ≡ best → most ≡ greatest → slice_get decisions i ≡ Some p
    → (Contains cids (Decide p.var) → weight_of weights p.var < greatest) → IsHeaviestYet weights decisions cids i best greatest → IsHeaviestYet weights decisions cids (i + 1) now most
heaviest_still weights decisions cids i best now greatest most p en em at lighter yet =
    subst (λ b. IsHeaviestYet weights decisions cids (i + 1) b most) (sym en) (subst (λ k. IsHeaviestYet weights decisions cids (i + 1) best k) (sym em) (heaviest_kept weights decisions cids i best greatest p at lighter yet))

-- the walk ends
pub heaviest_all : (weights : List ℕ) (decisions : List Pair) (cids : List Cid) (i : ℕ) (best : Option ℕ) (greatest : ℕ) → length decisions ≤ i → IsHeaviestYet weights decisions cids i best greatest
    → MatchOption best ((p : Pair) → Contains decisions p → Contains cids (Decide p.var) → ⊥) (IsHeaviestAt weights decisions cids)
heaviest_all weights decisions cids i None greatest le yet = λ p m held.
    let k = member_place decisions p m in
    let lt = slice_get_within decisions k.0 p k.1 in
    yet.1 k.0 p (omega (arith, lt, le)) k.1 held
heaviest_all weights decisions cids i (Some place) greatest le yet = record {
  pair = yet.pair;
  stands = yet.stands;
  held = yet.held;
  heaviest = yet.heaviest;
  latest = λ k p gt e h.
      let lt = slice_get_within decisions k p e in
      yet.latest k p gt (omega (arith, lt, le)) e h;
}
