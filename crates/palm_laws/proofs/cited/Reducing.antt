-- The walk over constraints that leaves a minimal set, for any property that more constraints keep.
use Rattle.std.proofs.Common.{◌≡◌, ℕ, zero, suc, ◌<◌, true, List, [], ◌∷◌, ◌++◌, length, remove, All, Contains, inl, inr, refl, sym, ap, ◌∙◌, subst, arith, append_assoc, append-nil}
use Rattle.std.proofs.lemmas.List.Elements.{All-contains, Contains-append_left, Contains-append_right, Contains-append_cases}
use Rattle.palm_base.specs.declared.terms.Cid.{Cid}
use Rattle.palm_base.proofs.cited.Members.{Known, member_here, member_there, member_cases, member_same, member_map, member_unmap, all_members}
use Rattle.palm_base.specs.Order.{Rises, cid_before}
use Rattle.palm_model.specs.Log.{Active, Named, cids_of, cons_of}
use Rattle.palm_model.specs.Minimal.{IsMinimal, WalkLeaves}
use Rattle.palm_model.specs.Minimal.WalkLeaves.{walked_none, walked_out, walked_in}
use Rattle.palm_model.specs.declared.constraint.Con.{Con}

-- what holds of constraints holds of more
abbrev pub Grows : (List Active → Type 0) → Type 0
Grows P = (active more : List Active) → ((a : Active) → Contains active a → Contains more a) → P active → P more

next_joined : (earlier : List Active) (a : Active) (rest : List Active) → (earlier ++ a ∷ []) ++ rest ≡ earlier ++ a ∷ rest
next_joined earlier a rest = append_assoc earlier (a ∷ []) rest

-- one more of the earlier constraints
with_next : (earlier rest : List Active) (a b : Active) → Contains (earlier ++ rest) b → Contains ((earlier ++ a ∷ []) ++ rest) b
with_next earlier rest a b m = elim (Contains-append_cases earlier rest b m) [
  | inl e ↦ Contains-append_left (earlier ++ a ∷ []) rest b (Contains-append_left earlier (a ∷ []) b e)
  | inr r ↦ Contains-append_right (earlier ++ a ∷ []) rest b r
]

-- ---- what is left

pub left_holds : (P : List Active → Type 0) (earlier later left : List Active) → WalkLeaves P earlier later left → P (earlier ++ later) → P (earlier ++ left)
left_holds P _ _ _ (walked_none earlier) p = p
left_holds P _ _ _ (walked_out earlier a later left walk out) p = out
left_holds P _ _ _ (walked_in earlier a later left walk stays) p =
    subst P (next_joined earlier a left) (left_holds P (earlier ++ a ∷ []) later left walk (subst P (sym (next_joined earlier a later)) p))

pub left_within : (P : List Active → Type 0) (earlier later left : List Active) → WalkLeaves P earlier later left → (a : Active) → Contains left a → Contains later a
left_within P _ _ _ (walked_none earlier) a m = m
left_within P _ _ _ (walked_out earlier b later left walk out) a m = member_there b later a (left_within P (earlier ++ b ∷ []) later left walk a m)
left_within P _ _ _ (walked_in earlier b later left walk stays) a m = elim (member_cases b left a m) [
  | inl e ↦ member_same (b ∷ later) b a e (member_here b later)
  | inr k ↦ member_there b later a (left_within P (earlier ++ b ∷ []) later left walk a k)
]

before_left : (P : List Active → Type 0) (earlier later left : List Active) (c : Cid) → WalkLeaves P earlier later left → All (λ d. cid_before c d ≡ true) (cids_of later) → All (λ d. cid_before c d ≡ true) (cids_of left)
before_left P earlier later left c walk before = all_members (λ d. cid_before c d ≡ true) (cids_of left) (λ d m.
    let r = member_unmap (λ (a : Active). a.cid) left d m in
    let k = member_map (λ (a : Active). a.cid) later r.0 (left_within P earlier later left walk r.0 r.1) in
    All-contains (λ e. cid_before c e ≡ true) (cids_of later) d before (member_same (cids_of later) r.0.cid d r.2 k))

pub left_rises : (P : List Active → Type 0) (earlier later left : List Active) → WalkLeaves P earlier later left → Rises (cids_of later) → Rises (cids_of left)
left_rises P _ _ _ (walked_none earlier) rises = rises
left_rises P _ _ _ (walked_out earlier a later left walk out) rises = left_rises P (earlier ++ a ∷ []) later left walk rises.1
left_rises P _ _ _ (walked_in earlier a later left walk stays) rises =
    (before_left P (earlier ++ a ∷ []) later left a.cid walk rises.0, left_rises P (earlier ++ a ∷ []) later left walk rises.1)

-- without any one of them the rest lacks the property
pub left_needed : (P : List Active → Type 0) → Grows P → (earlier later left : List Active) → WalkLeaves P earlier later left → (i : ℕ) → i < length left → P (earlier ++ remove left i) → ⊥
left_needed P grows _ _ _ (walked_none earlier) i lt p = absurd (omega (arith, lt))
left_needed P grows _ _ _ (walked_out earlier a later left walk out) i lt p =
    left_needed P grows (earlier ++ a ∷ []) later left walk i lt
    (grows (earlier ++ remove left i) ((earlier ++ a ∷ []) ++ remove left i) (λ b m. with_next earlier (remove left i) a b m) p)
left_needed P grows _ _ _ (walked_in earlier a later left walk stays) zero lt p = stays p
left_needed P grows _ _ _ (walked_in earlier a later left walk stays) (suc i) lt p =
    left_needed P grows (earlier ++ a ∷ []) later left walk i (omega (arith, lt)) (subst P (sym (next_joined earlier a (remove left i))) p)

-- ---- there is one walk and no other

pub leaves_some : (P : List Active → Type 0) → ((active : List Active) → Known (P active)) → (earlier later : List Active) → (left : List Active) × WalkLeaves P earlier later left
leaves_some P known earlier [] = ([], walked_none earlier)
leaves_some P known earlier (a ∷ later) =
    let r = leaves_some P known (earlier ++ a ∷ []) later in
    elim (known (earlier ++ r.0)) [
      | inl p ↦ (r.0, walked_out earlier a later r.0 r.1 p)
      | inr n ↦ (a ∷ r.0, walked_in earlier a later r.0 r.1 n)
    ]

-- the first constraint is left out, or it stays
data FirstOf (P : List Active → Type 0) (earlier : List Active) (a : Active) (later left : List Active) : Type 0 where
  goes : WalkLeaves P (earlier ++ a ∷ []) later left → P (earlier ++ left) → FirstOf P earlier a later left
  remains : (others : List Active) → left ≡ a ∷ others → WalkLeaves P (earlier ++ a ∷ []) later others → (P (earlier ++ others) → ⊥) → FirstOf P earlier a later left

first_of : (P : List Active → Type 0) (earlier : List Active) (a : Active) (later left : List Active) → WalkLeaves P earlier (a ∷ later) left → FirstOf P earlier a later left
first_of P _ _ _ _ (walked_out earlier a later left walk out) = goes walk out
first_of P _ _ _ _ (walked_in earlier a later left walk stays) = remains left refl walk stays

none_of : (P : List Active → Type 0) (earlier left : List Active) → WalkLeaves P earlier [] left → left ≡ []
none_of P _ _ (walked_none earlier) = refl

pub leaves_one : (P : List Active → Type 0) (earlier later left other : List Active) → WalkLeaves P earlier later left → WalkLeaves P earlier later other → left ≡ other
leaves_one P earlier [] left other one two = none_of P earlier left one ∙ sym (none_of P earlier other two)
leaves_one P earlier (a ∷ later) left other one two = elim (first_of P earlier a later left one) [
  | goes w p ↦ elim (first_of P earlier a later other two) [
    | goes v q ↦ leaves_one P (earlier ++ a ∷ []) later left other w v
    | remains others e v n ↦ absurd (n (subst (λ (z : List Active). P (earlier ++ z)) (leaves_one P (earlier ++ a ∷ []) later left others w v) p))
  ]
  | remains others e w n ↦ elim (first_of P earlier a later other two) [
    | goes v q ↦ absurd (n (subst (λ (z : List Active). P (earlier ++ z)) (sym (leaves_one P (earlier ++ a ∷ []) later others other w v)) q))
    | remains rest f v m ↦ e ∙ ap (λ (z : List Active). a ∷ z) (leaves_one P (earlier ++ a ∷ []) later others rest w v) ∙ sym f
  ]
]

-- ---- a block at once

pub block_out : (P : List Active → Type 0) → Grows P → (earlier block later left : List Active) → WalkLeaves P (earlier ++ block) later left → P (earlier ++ left) → WalkLeaves P earlier (block ++ later) left
block_out P grows earlier [] later left walk p = subst (λ (z : List Active). WalkLeaves P z later left) (append-nil earlier) walk
block_out P grows earlier (a ∷ block) later left walk p =
    walked_out earlier a (block ++ later) left
    (block_out P grows (earlier ++ a ∷ []) block later left (subst (λ (z : List Active). WalkLeaves P z later left) (sym (next_joined earlier a block)) walk)
    (grows (earlier ++ left) ((earlier ++ a ∷ []) ++ left) (λ b m. with_next earlier left a b m) p)) p

-- ---- minimal sets

pub minimal_holds : (P : List Active → Type 0) (active : List Active) (cids : List Cid) → (minimal : IsMinimal P active cids) → P minimal.left
minimal_holds P active cids minimal = left_holds P [] active minimal.left minimal.walk minimal.holds

-- their constraints are those of the active ones under their ids
pub minimal_named : (P : List Active → Type 0) (active : List Active) (cids : List Cid) → (minimal : IsMinimal P active cids) → (c : Con) → Contains (cons_of minimal.left) c → Named active (Contains cids) c
minimal_named P active cids minimal c m =
    let r = member_unmap (λ (a : Active). a.con) minimal.left c m in
    record {
      owner = r.0;
      posted = left_within P [] active minimal.left minimal.walk r.0 r.1;
      is = r.2;
      named = subst (λ (ns : List Cid). Contains ns r.0.cid) (sym minimal.named) (member_map (λ (a : Active). a.cid) minimal.left r.0 r.1);
    }

pub minimal_rises : (P : List Active → Type 0) (active : List Active) (cids : List Cid) → IsMinimal P active cids → Rises (cids_of active) → Rises cids
minimal_rises P active cids minimal rises = subst Rises (sym minimal.named) (left_rises P [] active minimal.left minimal.walk rises)

length_cids : (active : List Active) → length (cids_of active) ≡ length active
length_cids [] = refl
length_cids (a ∷ active) = ap suc (length_cids active)

pub minimal_needed : (P : List Active → Type 0) → Grows P → (active : List Active) (cids : List Cid) → (minimal : IsMinimal P active cids) → (i : ℕ) → i < length cids → P (remove minimal.left i) → ⊥
minimal_needed P grows active cids minimal i lt p =
    left_needed P grows [] active minimal.left minimal.walk i (subst (λ n. i < n) (ap length minimal.named ∙ length_cids minimal.left) lt) p

pub minimal_some : (P : List Active → Type 0) → ((active : List Active) → Known (P active)) → (active : List Active) → P active → (cids : List Cid) × IsMinimal P active cids
minimal_some P known active p =
    let r = leaves_some P known [] active in
    (cids_of r.0, record { holds = p; left = r.0; walk = r.1; named = refl })

pub minimal_one : (P : List Active → Type 0) (active : List Active) (cids others : List Cid) → IsMinimal P active cids → IsMinimal P active others → cids ≡ others
minimal_one P active cids others one two = one.named ∙ ap cids_of (leaves_one P [] active one.left two.left one.walk two.walk) ∙ sym two.named
