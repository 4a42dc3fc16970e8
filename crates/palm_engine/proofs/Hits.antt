-- The values that the only value of another variable rules out.
use Rattle.std.proofs.Common.{◌≡◌, ℕ, ◌<◌, Bool, true, false, cond, ℤ, pos, ◌+ℤ◌, ◌-ℤ◌, ◌<ℤ◌, ◌≤ℤ◌, Option, Some, None, is_some, IfNone, IfSome, List, [], ◌∷◌, length, Contains, int_lt, ◌⊎◌, inl, inr, sym, ◌∙◌, subst, arith}
use Rattle.std.proofs.lemmas.Bool.{false≢true}
use Rattle.std.proofs.lemmas.Int.{ints, clamps}
use Rattle.std.proofs.lemmas.List.Elements.{All-contains}
use Rattle.palm_base.proofs.cited.Members.{int_known, member_here, member_nil, member_there, member_single}
use Rattle.palm_model.specs.Domains.{Domains, Ascends, Has, values_of}
use Rattle.palm_filter.specs.Shapes.{HasOther, HasTwo, LeavesFree}
use Rattle.palm_engine.specs.Advancing.{IsBefore, IsNextHit, lesser_of}

-- ---- two values

-- two values of an ascending list differ
pub two_differ : (d : Domains) (x : ℕ) → Ascends (values_of d x) → 1 < length (values_of d x) → HasTwo d x
two_differ d x up lt = of (values_of d x) (λ v m. m) up lt
  where
    of : (vs : List ℤ) → ((v : ℤ) → Contains vs v → Has d x v) → Ascends vs → 1 < length vs → HasTwo d x
    of [] has up lt = absurd (omega (arith, lt))
    of (v ∷ []) has up lt = absurd (omega (arith, lt))
    of (v ∷ w ∷ vs) has up lt =
        let above = All-contains (λ z. v <ℤ z) (w ∷ vs) w up.0 (member_here w vs) in
        record {
          one = v;
          other = w;
          has_one = has v (member_here v (w ∷ vs));
          has_other = has w (member_there v (w ∷ vs) w (member_here w vs));
          different = λ e. omega (arith, ints, above, e);
        }

-- a variable with two values has more than one
pub two_many : (d : Domains) (x : ℕ) → HasTwo d x → 1 < length (values_of d x)
two_many d x two = of (values_of d x) two.one two.other two.has_one two.has_other two.different
  where
    of : (vs : List ℤ) (v w : ℤ) → Contains vs v → Contains vs w → (v ≡ w → ⊥) → 1 < length vs
    of [] v w m n apart = absurd (member_nil v m)
    of (u ∷ []) v w m n apart = absurd (apart (sym (member_single u v m) ∙ member_single u w n))
    of (u ∷ t ∷ vs) v w m n apart = omega arith

-- one of them is not the number
pub other_of_two : (d : Domains) (x : ℕ) (n : ℤ) → HasTwo d x → HasOther d x n
other_of_two d x n two = elim (int_known two.one n) [
  | inl e ↦ record { other = two.other; has = two.has_other; different = λ s. two.different (e ∙ sym s) }
  | inr m ↦ record { other = two.one; has = two.has_one; different = m }
]

-- the only value of a variable that is not more by the number leaves a value free
pub other_by : (d : Domains) (y : ℕ) (u v by : ℤ) → Has d y u → (v ≡ (u +ℤ by) → ⊥) → HasOther d y (v -ℤ by)
other_by d y u v by has apart = record { other = u; has = has; different = λ e. apart (omega (arith, ints, e)) }

-- ---- the next value that is ruled out

-- the present values from `low` on and before the next one are left free by the variables
pub record LeavesUpTo (d : Domains) (vars : List ℕ) (x : ℕ) (by low : ℤ) (next : Option ℤ) : Type 0 where
  pub present : IfSome next (λ v. Has d x v)
  pub from : IfSome next (λ v. low ≤ℤ v)
  pub free : (w : ℤ) → Has d x w → low ≤ℤ w → IsBefore next w → LeavesFree d vars x by w

pub up_same : (d : Domains) (fewer more : List ℕ) (x : ℕ) (by low : ℤ) (next : Option ℤ) (y : ℕ) → ((z : ℕ) → Contains more z → Contains fewer z ⊎ (y ≡ z)) → y ≡ x → LeavesUpTo d fewer x by low next → LeavesUpTo d more x by low next
up_same d fewer more x by low next y cases same up = record {
  present = up.present;
  from = up.from;
  free = λ w has le is z m other. elim (cases z m) [
    | inl n ↦ up.free w has le is z n other
    | inr e ↦ absurd (other (sym e ∙ same))
  ];
}

-- a variable with two values leaves each value free
pub up_two : (d : Domains) (fewer more : List ℕ) (x : ℕ) (by low : ℤ) (next : Option ℤ) (y : ℕ) → ((z : ℕ) → Contains more z → Contains fewer z ⊎ (y ≡ z)) → HasTwo d y → LeavesUpTo d fewer x by low next
    → LeavesUpTo d more x by low next
up_two d fewer more x by low next y cases two up = record {
  present = up.present;
  from = up.from;
  free = λ w has le is z m other. elim (cases z m) [
    | inl n ↦ up.free w has le is z n other
    | inr e ↦ subst (λ k. HasOther d k (w -ℤ by)) e (other_of_two d y (w -ℤ by) two)
  ];
}

pub up_more : (d : Domains) (fewer more : List ℕ) (x : ℕ) (by low : ℤ) (a b : Option ℤ) (y : ℕ) → ((z : ℕ) → Contains more z → Contains fewer z ⊎ (y ≡ z)) → LeavesUpTo d fewer x by low a → LeavesUpTo d (y ∷ []) x by low b
    → LeavesUpTo d more x by low (lesser_of a b)
up_more d fewer more x by low a b y cases up one = record {
  present = pick (λ v. Has d x v) a b up.present one.present;
  from = pick (λ v. low ≤ℤ v) a b up.from one.from;
  free = λ w has le is z m other. let both = before a b w is in elim (cases z m) [
    | inl n ↦ up.free w has le both.0 z n other
    | inr e ↦ one.free w has le both.1 z (subst (λ k. Contains (y ∷ []) k) e (member_here y [])) other
  ];
}
  where
    chosen : (P : ℤ → Type 0) (t : Bool) (v w : ℤ) → P v → P w → P (cond t w v)
    chosen P true v w p q = q
    chosen P false v w p q = p

    pick : (P : ℤ → Type 0) (a b : Option ℤ) → IfSome a P → IfSome b P → IfSome (lesser_of a b) P
    pick P (Some v) (Some w) p q = chosen P (int_lt w v) v w p q
    pick P (Some v) None p q = p
    pick P None b p q = q

    before : (a b : Option ℤ) (w : ℤ) → IsBefore (lesser_of a b) w → IsBefore a w × IsBefore b w
    before (Some u) (Some v) w lt = (omega (arith, ints, clamps, lt), omega (arith, ints, clamps, lt))
    before (Some u) None w lt = (lt, tt)
    before None b w is = (tt, is)

-- ---- the values from one to another

-- those that are present are left free by the variables
abbrev pub LeavesWithin : Domains → List ℕ → ℕ → ℤ → ℤ → ℤ → Type 0
LeavesWithin d vars x by low high = (v : ℤ) → Has d x v → low ≤ℤ v → v ≤ℤ high → LeavesFree d vars x by v

pub within_same : (d : Domains) (fewer more : List ℕ) (x : ℕ) (by low high : ℤ) (y : ℕ) → ((z : ℕ) → Contains more z → Contains fewer z ⊎ (y ≡ z)) → y ≡ x → LeavesWithin d fewer x by low high → LeavesWithin d more x by low high
within_same d fewer more x by low high y cases same free = λ v has le ge z m other. elim (cases z m) [
  | inl n ↦ free v has le ge z n other
  | inr e ↦ absurd (other (sym e ∙ same))
]

pub within_more : (d : Domains) (fewer more : List ℕ) (x : ℕ) (by low high : ℤ) (y : ℕ) → ((z : ℕ) → Contains more z → Contains fewer z ⊎ (y ≡ z)) → ((v : ℤ) → Has d x v → low ≤ℤ v → v ≤ℤ high → HasOther d y (v -ℤ by))
    → LeavesWithin d fewer x by low high → LeavesWithin d more x by low high
within_more d fewer more x by low high y cases one free = λ v has le ge z m other. elim (cases z m) [
  | inl n ↦ free v has le ge z n other
  | inr e ↦ subst (λ k. HasOther d k (v -ℤ by)) e (one v has le ge)
]

-- ---- what the calls say

pub none_told : {T P : Type 0} (o : Option T) → IfNone o P → is_some o ≡ false → P
none_told (Some x) p is = absurd (false≢true (sym is))
none_told None p is = p

pub on_none : {T P Q : Type 0} (o : Option T) → (P → Q) → IfNone o P → IfNone o Q
on_none (Some x) f p = tt
on_none None f p = f p

pub if_none : {T P : Type 0} (o : Option T) → P → IfNone o P
if_none (Some x) p = tt
if_none None p = p

pub up_one : (d : Domains) (x : ℕ) (by low : ℤ) (next : Option ℤ) (y : ℕ) → IfNone next ((v : ℤ) → Has d x v → low ≤ℤ v → HasOther d y (v -ℤ by))
    → IfSome next (λ hit. Has d x hit × (low ≤ℤ hit) × ((v : ℤ) → (v ≡ hit → ⊥) → HasOther d y (v -ℤ by))) → LeavesUpTo d (y ∷ []) x by low next
up_one d x by low None y none some = record { present = tt; from = tt; free = λ w has le is z m other. subst (λ k. HasOther d k (w -ℤ by)) (member_single y z m) (none w has le) }
up_one d x by low (Some v) y none some = record {
  present = some.0;
  from = some.1;
  free = λ w has le is z m other. subst (λ k. HasOther d k (w -ℤ by)) (member_single y z m) (some.2 w (λ e. omega (arith, ints, is, e)));
}

pub up_whole_none : (d : Domains) (vars : List ℕ) (x : ℕ) (by low : ℤ) (next : Option ℤ) → LeavesUpTo d vars x by low next → IfNone next ((v : ℤ) → Has d x v → low ≤ℤ v → LeavesFree d vars x by v)
up_whole_none d vars x by low None up = λ v has le. up.free v has le tt
up_whole_none d vars x by low (Some v) up = tt

pub up_whole_some : (d : Domains) (vars : List ℕ) (x : ℕ) (by low : ℤ) (next : Option ℤ) → LeavesUpTo d vars x by low next → IfSome next (IsNextHit d vars x by low)
up_whole_some d vars x by low None up = tt
up_whole_some d vars x by low (Some v) up = record { present = up.present; from = up.from; free = up.free }

-- the answers say so again
pub up_answered : (d : Domains) (vars : List ℕ) (x : ℕ) (by low : ℤ) (next : Option ℤ) → IfNone next ((v : ℤ) → Has d x v → low ≤ℤ v → LeavesFree d vars x by v) → IfSome next (IsNextHit d vars x by low) → LeavesUpTo d vars x by low next
up_answered d vars x by low None none some = record { present = tt; from = tt; free = λ w has le is. none w has le }
up_answered d vars x by low (Some v) none some = record { present = some.present; from = some.from; free = some.free }

pub up_answered_after : (d : Domains) (vars : List ℕ) (x : ℕ) (by v : ℤ) (next : Option ℤ) → IfNone next ((w : ℤ) → Has d x w → v <ℤ w → LeavesFree d vars x by w) → IfSome next (IsNextHit d vars x by (v +ℤ pos 1)) → LeavesUpTo d vars x by (v +ℤ pos 1) next
up_answered_after d vars x by v None none some = record { present = tt; from = tt; free = λ w has le is. none w has (omega (arith, ints, le)) }
up_answered_after d vars x by v (Some w) none some = record { present = some.present; from = some.from; free = some.free }

-- of the variables and the number as they are read elsewhere
pub up_read : (d : Domains) (vars own : List ℕ) (x : ℕ) (read by low : ℤ) (next : Option ℤ) → vars ≡ own → read ≡ by → LeavesUpTo d vars x read low next → LeavesUpTo d own x by low next
up_read d vars own x read by low next same_vars same_by up = subst (λ ys. LeavesUpTo d ys x by low next) same_vars (subst (λ n. LeavesUpTo d vars x n low next) same_by up)
