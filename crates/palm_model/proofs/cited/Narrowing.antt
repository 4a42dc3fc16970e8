-- Taking out a value without support loses no value of any closed domains, and where nothing is left to take out,
-- the domains are the greatest closed ones.
use Rattle.std.proofs.Common.{Bool, true, false, ◌||◌, get_or, take, ◌≡◌, ℕ, zero, suc, ◌+◌, ◌<◌, ◌≤◌, List, [], ◌∷◌, length, slice_get, slice_set, remove, flat_map, Contains, Some, ℤ, inl, inr, refl, sym, ap, ◌∙◌, subst, arith, get_or-set_other, get_or-set_same, length-set, take_all}
use Rattle.std.proofs.lemmas.List.{get_or_past}
use Rattle.std.proofs.lemmas.List.Edits.{length-remove}
use Rattle.std.proofs.lemmas.List.Elements.{All-set, Contains-get_or}
use Rattle.std.proofs.lemmas.Option.{slice_get_within, slice_get-get_or}
use Rattle.std.proofs.lemmas.Bool.{cases_lt, or_cases, or_parts}
use Rattle.palm_base.proofs.cited.Members.{member_same, member_here, member_take_more, member_nil, member_get, member_remove, remove_member, member_flat_map, flat_map_member, nat_known}
use Rattle.palm_model.specs.Domains.{Domains, Has, IsInside, Ascends, AllAscend, values_of}
use Rattle.palm_model.specs.Part.{scope_of, parts}
use Rattle.palm_model.specs.Support.{HasSupport}
use Rattle.palm_model.specs.Closure.{IsClosedFor, IsClosed, IsGreatest}
use Rattle.palm_model.specs.Trial.{IsClosedForAll, FirstSupported, EachSupported, value_count, Narrows, Narrowed}
use Rattle.palm_model.specs.declared.constraint.Con.{Con}
use Rattle.palm_model.specs.declared.part.Part.{Part}
use Rattle.palm_model.proofs.cited.Ascending.{ascends_remove, ascends_at}
use Rattle.palm_model.proofs.cited.Trials.{support_grows}

-- ---- domains in which one variable has another list

pub has_declared : (d : Domains) (x : ℕ) (v : ℤ) → Has d x v → x < length d
has_declared d x v h = elim (cases_lt x (length d)) [
  | inl lt ↦ lt
  | inr ge ↦ absurd (member_nil v (subst (λ vs. Contains vs v) (get_or_past d x [] ge) h))
]

pub values_of_set : (d : Domains) (x : ℕ) (vs : List ℤ) → x < length d → values_of (slice_set d x vs) x ≡ vs
values_of_set d x vs lt = rw get_or-set_same

pub values_of_set_other : (d : Domains) (x : ℕ) (vs : List ℤ) (y : ℕ) → (y ≡ x → ⊥) → values_of (slice_set d x vs) y ≡ values_of d y
values_of_set_other d x vs y ne = rw get_or-set_other

pub inside_set : (d : Domains) (x : ℕ) (vs : List ℤ) → x < length d → ((v : ℤ) → Contains vs v → Has d x v) → IsInside (slice_set d x vs) d
inside_set d x vs lt sub y v h = elim (nat_known y x) [
  | inl e ↦ subst (λ t. Has d t v) (sym e) (sub v (subst (λ us. Contains us v) (values_of_set d x vs lt) (subst (λ t. Has (slice_set d x vs) t v) e h)))
  | inr ne ↦ subst (λ us. Contains us v) (values_of_set_other d x vs y ne) h
]

-- what lies inside the old domains and has at x only values of the new list lies inside the new domains
pub set_includes : (d e : Domains) (x : ℕ) (vs : List ℤ) → x < length d → IsInside e d → ((v : ℤ) → Has e x v → Contains vs v) → IsInside e (slice_set d x vs)
set_includes d e x vs lt inside at y v h = elim (nat_known y x) [
  | inl s ↦ subst (λ t. Has (slice_set d x vs) t v) (sym s) (subst (λ us. Contains us v) (sym (values_of_set d x vs lt)) (at v (subst (λ t. Has e t v) s h)))
  | inr ne ↦ subst (λ us. Contains us v) (sym (values_of_set_other d x vs y ne)) (inside y v h)
]

pub value_count_set : (d : Domains) (x : ℕ) (vs : List ℤ) → x < length d → value_count (slice_set d x vs) + length (values_of d x) ≡ value_count d + length vs
value_count_set [] x vs lt = absurd (omega arith)
value_count_set (us ∷ d) zero vs lt = omega arith
value_count_set (us ∷ d) (suc x) vs lt = omega (arith, value_count_set d x vs (omega arith))

-- ---- steps that lose no value of closed domains

pub narrows_none : (Closed : Domains → Type 0) (d : Domains) → Narrows Closed d d
narrows_none Closed d = record {
  ascend = λ h. h;
  variables = refl;
  count = omega arith;
  inside = λ x v h. h;
  keeps = λ e inside closed. inside;
}

pub narrows_then : (Closed : Domains → Type 0) (d e f : Domains) → Narrows Closed d e → Narrows Closed e f → Narrows Closed d f
narrows_then Closed d e f first second = record {
  ascend = λ h. second.ascend (first.ascend h);
  variables = second.variables ∙ first.variables;
  count = omega (arith, first.count, second.count);
  inside = λ x v h. first.inside x v (second.inside x v h);
  keeps = λ g inside closed. second.keeps g (first.keeps g inside closed) closed;
}

-- what loses nothing of domains closed in one sense loses nothing of domains closed in a stronger one
pub narrows_for : (Closed Stronger : Domains → Type 0) (d e : Domains) → ((f : Domains) → Stronger f → Closed f) → Narrows Closed d e → Narrows Stronger d e
narrows_for Closed Stronger d e weaker step = record {
  ascend = step.ascend;
  variables = step.variables;
  count = step.count;
  inside = step.inside;
  keeps = λ f inside closed. step.keeps f inside (weaker f closed);
}

-- the value at a place of x has no support
pub record IsLacking (d : Domains) (p : Part) (x i : ℕ) (v : ℤ) : Type 0 where
  pub over : Contains (scope_of p) x
  pub place : slice_get (values_of d x) i ≡ Some v
  pub lacks : HasSupport d p x v → ⊥

lacking_declared : (d : Domains) (p : Part) (x i : ℕ) (v : ℤ) → IsLacking d p x i v → x < length d
lacking_declared d p x i v l = has_declared d x v (member_get (values_of d x) i v l.place)

-- the domains without the value at place i of x
abbrev pub removed_at : Domains → ℕ → ℕ → Domains
removed_at d x i = slice_set d x (remove (values_of d x) i)

pub fewer_removed : (d : Domains) (p : Part) (x i : ℕ) (v : ℤ) → IsLacking d p x i v → value_count (removed_at d x i) + 1 ≡ value_count d
fewer_removed d p x i v l =
    let within = slice_get_within (values_of d x) i v l.place in
    omega (arith, value_count_set d x (remove (values_of d x) i) (lacking_declared d p x i v l), length-remove (values_of d x) i within)

kept_value : (d e : Domains) (p : Part) (x i : ℕ) (v : ℤ) → IsLacking d p x i v → IsInside e d → IsClosedFor p e → (w : ℤ) → Has e x w → Contains (remove (values_of d x) i) w
kept_value d e p x i v l inside closed w h =
    member_remove (values_of d x) i v w l.place (λ s. l.lacks (support_grows e d p x v inside (closed x v l.over (subst (λ u. Has e x u) (sym s) h)))) (inside x w h)

pub narrows_removed : (d : Domains) (p : Part) (x i : ℕ) (v : ℤ) → IsLacking d p x i v → Narrows (IsClosedFor p) d (removed_at d x i)
narrows_removed d p x i v l = record {
  ascend = λ h. All-set Ascends d x (remove (values_of d x) i) (ascends_remove (values_of d x) i (ascends_at d x h)) h;
  variables = length-set d x (remove (values_of d x) i);
  count = omega (arith, fewer_removed d p x i v l);
  inside = inside_set d x (remove (values_of d x) i) (lacking_declared d p x i v l) (λ w m. remove_member (values_of d x) i w m);
  keeps = λ e inside closed. set_includes d e x (remove (values_of d x) i) (lacking_declared d p x i v l) inside (kept_value d e p x i v l inside closed);
}

-- ---- lists of constraints and lists of parts

pub closed_by_parts : (cs : List Con) (d : Domains) → IsClosedForAll (flat_map parts cs) d → IsClosed (Contains cs) d
closed_by_parts cs d h c p m k = h p (member_flat_map parts cs c p m k)

pub parts_closed : (cs : List Con) (d : Domains) → IsClosed (Contains cs) d → IsClosedForAll (flat_map parts cs) d
parts_closed cs d h p m = let r = flat_map_member parts cs p m in h r.0 p r.1 r.2

-- ---- the greatest closed domains

pub greatest_by_narrowing : (initial : Domains) (E : Con → Type 0) (d : Domains) → AllAscend initial → Narrows (IsClosed E) initial d → IsClosed E d → IsGreatest initial E d
greatest_by_narrowing initial E d ascend step closed = record {
  ascend = step.ascend ascend;
  variables = step.variables;
  inside = step.inside;
  closed = closed;
  includes = step.keeps;
}

-- ---- narrowing that says whether anything was lost

-- after a step that loses something nothing is known of the rest
pub narrowed_lost : (Closed Rest Other : Domains → Type 0) (d e f : Domains) (b : Bool) → Narrowed Closed Rest d e b → Narrows Closed e f → value_count f + 1 ≡ value_count e → Narrowed Closed Other d f true
narrowed_lost Closed Rest Other d e f b before step fewer = record {
  step = narrows_then Closed d e f before.step step;
  fewer = λ t. omega (arith, before.step.count);
  same = λ t. cc;
  rest = λ t. cc;
}

fewer_then : (Closed Rest Other : Domains → Type 0) (d e f : Domains) (b c : Bool) → Narrowed Closed Rest d e b → Narrowed Closed Other e f c → (b || c) ≡ true → value_count f < value_count d
fewer_then Closed Rest Other d e f b c first second t = elim (or_cases b c t) [
  | inl h ↦ omega (arith, first.fewer h, second.step.count)
  | inr h ↦ omega (arith, first.step.count, second.fewer h)
]

-- one narrowing and then another
pub narrowed_then : (Closed Rest Other Both : Domains → Type 0) (d e f : Domains) (b c : Bool) → ((g : Domains) → Rest g → Other g → Both g) → Narrowed Closed Rest d e b → Narrowed Closed Other e f c → Narrowed Closed Both d f (b || c)
narrowed_then Closed Rest Other Both d e f b c joins first second = record {
  step = narrows_then Closed d e f first.step second.step;
  fewer = fewer_then Closed Rest Other d e f b c first second;
  same = λ t. let h = or_parts b c t in second.same h.1 ∙ first.same h.0;
  rest = λ t. let h = or_parts b c t in joins f (subst Rest (sym (second.same h.1)) (first.rest h.0)) (second.rest h.1);
}

-- narrowing for closed domains in one sense is narrowing for those in a stronger one, and less may be said of the rest
pub narrowed_for : (Closed Stronger Rest Less : Domains → Type 0) (d e : Domains) (b : Bool) → ((f : Domains) → Stronger f → Closed f) → ((f : Domains) → Rest f → Less f) → Narrowed Closed Rest d e b → Narrowed Stronger Less d e b
narrowed_for Closed Stronger Rest Less d e b weaker less n = record {
  step = narrows_for Closed Stronger d e weaker n.step;
  fewer = n.fewer;
  same = n.same;
  rest = λ t. less e (n.rest t);
}

pub each_supported_more : (p : Part) (xs : List ℕ) (i x : ℕ) → i < length xs → x ≡ get_or xs i x → (d : Domains) → EachSupported p (take i xs) d → EachSupported p (x ∷ []) d → EachSupported p (take (i + 1) xs) d
each_supported_more p xs i x lt at d before here y v m h = elim (member_take_more xs i x y lt at m) [
  | inl k ↦ before y v k h
  | inr e ↦ here y v (member_same (x ∷ []) x y e (member_here x [])) h
]

pub all_closed_more : (ps : List Part) (i : ℕ) (p : Part) → i < length ps → p ≡ get_or ps i p → (d : Domains) → IsClosedForAll (take i ps) d → IsClosedFor p d → IsClosedForAll (take (i + 1) ps) d
all_closed_more ps i p lt at d before here q m = elim (member_take_more ps i p q lt at m) [
  | inl k ↦ before q k
  | inr e ↦ subst (λ r. IsClosedFor r d) e here
]

-- a value without support was taken out of the list of x
pub lost_value : (p : Part) (x : ℕ) (scope : List ℕ) (d e f : Domains) (i : ℕ) (v : ℤ) (vs : List ℤ) (b : Bool) → scope ≡ scope_of p → Contains scope x → vs ≡ values_of e x → i < length vs → v ≡ get_or vs i v → (HasSupport e p x v → ⊥) → f ≡ removed_at e x i → Narrowed (IsClosedFor p) (FirstSupported p x i) d e b → Narrowed (IsClosedFor p) (FirstSupported p x i) d f true
lost_value p x scope d e f i v vs b is over same lt at lacks gone before =
    let l : IsLacking e p x i v = record {
      over = subst (λ ts. Contains ts x) is over;
      place = subst (λ us. slice_get us i ≡ Some v) same (slice_get-get_or vs i v lt ∙ ap Some (sym at));
      lacks = lacks;
    } in
    subst (λ g. Narrowed (IsClosedFor p) (FirstSupported p x i) d g true) (sym gone)
    (narrowed_lost (IsClosedFor p) (FirstSupported p x i) (FirstSupported p x i) d e (removed_at e x i) b before (narrows_removed e p x i v l) (fewer_removed e p x i v l))

-- every variable of the scope was looked at
pub scope_supported : (p : Part) (xs : List ℕ) (i : ℕ) → xs ≡ scope_of p → length xs ≤ i → (d : Domains) → EachSupported p (take i xs) d → IsClosedFor p d
scope_supported p xs i is full d each x v m h = each x v (subst (λ ts. Contains ts x) (sym (take_all i xs full ∙ is)) m) h

-- what the code's `b || c` is, by its two branches
pub or_then : (r b c : Bool) → b ≡ true → r ≡ b → r ≡ (b || c)
or_then r b c e f = f ∙ e ∙ ap (λ z. z || c) (sym e)

pub or_else : (r b c : Bool) → b ≡ false → r ≡ c → r ≡ (b || c)
or_else r b c e f = f ∙ ap (λ z. z || c) (sym e)

-- one more variable of the part was looked at
pub narrowed_variable : (p : Part) (xs : List ℕ) (i x : ℕ) (d e f : Domains) (r b c : Bool) → i < length xs → x ≡ get_or xs i x → r ≡ (b || c) → Narrowed (IsClosedFor p) (EachSupported p (take i xs)) d e b → Narrowed (IsClosedFor p) (EachSupported p (x ∷ [])) e f c → Narrowed (IsClosedFor p) (EachSupported p (take (i + 1) xs)) d f r
narrowed_variable p xs i x d e f r b c lt at is before here =
    subst (λ z. Narrowed (IsClosedFor p) (EachSupported p (take (i + 1) xs)) d f z) (sym is)
    (narrowed_then (IsClosedFor p) (EachSupported p (take i xs)) (EachSupported p (x ∷ [])) (EachSupported p (take (i + 1) xs)) d e f b c (each_supported_more p xs i x lt at) before here)

-- one more part was looked at
pub narrowed_part : (ps : List Part) (i : ℕ) (p : Part) (d e f : Domains) (r b c : Bool) → i < length ps → p ≡ get_or ps i p → r ≡ (b || c) → Narrowed (IsClosedForAll ps) (IsClosedForAll (take i ps)) d e b → Narrowed (IsClosedFor p) (IsClosedFor p) e f c → Narrowed (IsClosedForAll ps) (IsClosedForAll (take (i + 1) ps)) d f r
narrowed_part ps i p d e f r b c lt at is before here =
    let one = narrowed_for (IsClosedFor p) (IsClosedForAll ps) (IsClosedFor p) (IsClosedFor p) e f c
    (λ g closed. closed p (member_same ps (get_or ps i p) p (sym at) (Contains-get_or ps i p lt))) (λ g h. h) here in
    subst (λ z. Narrowed (IsClosedForAll ps) (IsClosedForAll (take (i + 1) ps)) d f z) (sym is)
    (narrowed_then (IsClosedForAll ps) (IsClosedForAll (take i ps)) (IsClosedFor p) (IsClosedForAll (take (i + 1) ps)) d e f b c (all_closed_more ps i p lt at) before one)

-- the code's list of domains after the closing, which it narrowed behind a reference
pub greatest_closed : (initial : Domains) (cs : List Con) (ps : List Part) (d e : Domains) → AllAscend initial → ps ≡ flat_map parts cs → d ≡ initial → Narrows (IsClosedForAll ps) d e → IsClosedForAll ps e → IsGreatest initial (Contains cs) e
greatest_closed initial cs ps d e ascend is from step closed =
    let start = subst (λ f. Narrows (IsClosedForAll ps) f e) from step in
    greatest_by_narrowing initial (Contains cs) e ascend
    (narrows_for (IsClosedForAll ps) (IsClosed (Contains cs)) initial e (λ f h. subst (λ qs. IsClosedForAll qs f) (sym is) (parts_closed cs f h)) start)
    (closed_by_parts cs e (subst (λ qs. IsClosedForAll qs e) is closed))
