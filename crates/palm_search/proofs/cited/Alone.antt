-- Without guide and order there is one run and no other.
use Rattle.std.proofs.Common.{◌≡◌, ℕ, zero, suc, ◌+◌, ◌≤◌, Bool, false, None, List, [], ◌∷◌, ◌++◌, length, map, filter, Contains, ℤ, inl, inr, refl, sym, ap, ◌∙◌, subst, arith}
use Rattle.std.proofs.lemmas.Int.{ints}
use Rattle.std.proofs.lemmas.List.Elements.{Contains-append_right}
use Rattle.palm_base.specs.declared.terms.Pair.{Pair}
use Rattle.palm_base.specs.declared.terms.Cid.{Cid}
use Rattle.palm_base.specs.declared.terms.Cid.TheVariants.{Decide}
use Rattle.palm_base.proofs.cited.Members.{member_nil, member_here}
use Rattle.palm_model.specs.Domains.{Domains, Has, values_of}
use Rattle.palm_model.specs.State.{EngineState, IsValid, HasEmpty, present, without_cid, is_user, decision_of, negation_of}
use Rattle.palm_model.specs.Event.{Withdraws, gone_with, posted}
use Rattle.palm_model.specs.Conflict.{InFlatConflict, IsFlatConflict}
use Rattle.palm_events.specs.Reasons.{ReasonsAreRight}
use Rattle.palm_events.proofs.cited.Names.{listed_once}
use Rattle.palm_events.proofs.cited.Outcomes.{withdrawal_same}
use Rattle.palm_engine.proofs.cited.Settled.{plainly_same}
use Rattle.palm_engine.proofs.cited.Walking.{not_empty}
use Rattle.palm_search.specs.declared.turn.Pick.{Pick}
use Rattle.palm_search.specs.declared.turn.Pick.TheVariants.{NoGuide, Nothing, Asked}
use Rattle.palm_search.specs.declared.turn.Turn.{Turn}
use Rattle.palm_search.specs.declared.turn.Turn.TheVariants.{Decide as TurnDecide, Undo as TurnUndo}
use Rattle.palm_search.specs.Turns.{SearchState, IsOpen, IsDefault, IsDecided, FitsGuide, Decides, HasFlatConflict, IsLatest, Undoes, Takes, SettlesAfter, Follows, Turns}
use Rattle.palm_search.specs.declared.ending.SearchEnd.{SearchEnd}
use Rattle.palm_search.specs.Search.{HasNoSolution, IsFound, GoesOn, EndsWith, SearchRun, begun}
use Rattle.palm_search.specs.declared.ending.SearchEnd.TheVariants.{Found, NoSolution, Spent}
use Rattle.palm_search.specs.Search.GoesOn.{could_decide, could_undo}
use Rattle.palm_search.specs.Kept.{HasOnlyUsers, IsSearching}
use Rattle.palm_search.proofs.cited.Keeping.{begins, takes_keep, settles_keep}
use Rattle.palm_search.proofs.cited.Solving.{decided_member, found_filled}

-- ---- decisions

default_same : (d : Domains) (p q : Pair) → IsDefault d p → IsDefault d q → p ≡ q
default_same d p q one other =
    let var : p.var ≡ q.var = let a = one.lowest q.var other.is_open in let b = other.lowest p.var one.is_open in omega (arith, a, b) in
    let a = one.least q.value (subst (λ x. Has d x q.value) (sym var) other.has) in
    let b = other.least p.value (subst (λ x. Has d x p.value) var one.has) in
    let value : p.value ≡ q.value = omega (arith, ints, a, b) in
    λ i. record { var = var i; value = value i }

no_guide : (pick : Pick) → FitsGuide false pick → pick ≡ NoGuide
no_guide NoGuide fits = refl
no_guide Nothing fits = absurd fits
no_guide (Asked q) fits = absurd fits

-- a turn, and where it leads
pub record IsSameTurn (turn : Turn) (t : SearchState) (other : Turn) (u : SearchState) : Type 0 where
  pub same : turn ≡ other
  pub state : t ≡ u

pub decides_same : (s : SearchState) (p : Pair) (pick : Pick) (t : SearchState) (q : Pair) (other : Pick) (u : SearchState) → Decides false s p pick t → Decides false s q other u → IsSameTurn (TurnDecide p pick) t (TurnDecide q other) u
decides_same s p pick t q other u one two =
    let d = present s.engine in
    let none = no_guide pick one.fits in
    let none' = no_guide other two.fits in
    let pair = default_same d p q (subst (λ k. IsDecided d k p) none one.decided) (subst (λ k. IsDecided d k q) none' two.decided) in
    let picks : pick ≡ other = none ∙ sym none' in
    let engines : t.engine ≡ u.engine = one.posts.after ∙ ap (λ r. posted s.engine (decision_of r)) pair ∙ sym two.posts.after in
    let lists : t.decisions ≡ u.decisions = one.decisions ∙ ap (λ r. s.decisions ++ r ∷ []) pair ∙ sym two.decisions in
    record {
      same = λ i. TurnDecide (pair i) (picks i);
      state = λ i. record { engine = engines i; decisions = lists i };
    }

-- ---- undoing

-- the flat conflict of a state is one list
pub flat_same : (s : EngineState) (one other : List Cid) → HasFlatConflict s one → HasFlatConflict s other → one ≡ other
flat_same s one other a b =
    let below = a.lowest b.var b.empty in
    let above = b.lowest a.var a.empty in
    let var : a.var ≡ b.var = omega (arith, below, above) in
    listed_once (InFlatConflict s b.var) one other (subst (λ x. IsFlatConflict s x one) var a.is) b.is

-- the latest decision among some ids is one
record IsSameLatest (g : Pair) (e l : List Pair) (g' : Pair) (e' l' : List Pair) : Type 0 where
  gone : g ≡ g'
  others : e ++ l ≡ e' ++ l'

pub head_same : (x y : Pair) (xs ys : List Pair) → x ∷ xs ≡ y ∷ ys → x ≡ y
head_same x y xs ys e = cc

pub tail_same : (x y : Pair) (xs ys : List Pair) → x ∷ xs ≡ y ∷ ys → xs ≡ ys
tail_same x y xs ys e = cc

pub later_member : (e : List Pair) (g : Pair) (l : List Pair) → Contains (e ++ g ∷ l) g
later_member e g l = Contains-append_right e (g ∷ l) g (member_here g l)

latest_same : (cids : List Cid) (e : List Pair) (g : Pair) (l e' : List Pair) (g' : Pair) (l' : List Pair) → e ++ g ∷ l ≡ e' ++ g' ∷ l'
    → Contains cids (Decide g.var) → Contains cids (Decide g'.var)
    → ((p : Pair) → Contains l p → Contains cids (Decide p.var) → ⊥) → ((p : Pair) → Contains l' p → Contains cids (Decide p.var) → ⊥) → IsSameLatest g e l g' e' l'
latest_same cids [] g l [] g' l' eq held held' none none' = record { gone = head_same g g' l l' eq; others = tail_same g g' l l' eq }
latest_same cids [] g l (x ∷ e') g' l' eq held held' none none' =
    absurd (none g' (subst (λ k. Contains k g') (sym (tail_same g x l (e' ++ g' ∷ l') eq)) (later_member e' g' l')) held')
latest_same cids (x ∷ e) g l [] g' l' eq held held' none none' =
    absurd (none' g (subst (λ k. Contains k g) (tail_same x g' (e ++ g ∷ l) l' eq) (later_member e g l)) held)
latest_same cids (x ∷ e) g l (y ∷ e') g' l' eq held held' none none' =
    let rest = latest_same cids e g l e' g' l' (tail_same x y (e ++ g ∷ l) (e' ++ g' ∷ l') eq) held held' none none' in
    let first = head_same x y (e ++ g ∷ l) (e' ++ g' ∷ l') eq in
    record { gone = rest.gone; others = λ i. first i ∷ rest.others i }

is_latest_same : (decisions : List Pair) (cids : List Cid) (g : Pair) (left : List Pair) (g' : Pair) (left' : List Pair) → IsLatest decisions cids g left → IsLatest decisions cids g' left' → (g ≡ g') × (left ≡ left')
is_latest_same decisions cids g left g' left' one two =
    let same = latest_same cids one.earlier g one.later two.earlier g' two.later (sym one.are ∙ two.are) one.held two.held one.latest two.latest in
    (same.gone, one.others ∙ same.others ∙ sym two.others)

undoes_same : (s : SearchState) → (g : Pair) (c : List Cid) (t : SearchState) (g' : Pair) (c' : List Cid) (u : SearchState) → Undoes s g c t → Undoes s g' c' u → IsSameTurn (TurnUndo g c) t (TurnUndo g' c') u
undoes_same s g c t g' c' u one two =
    let cids : c ≡ c' = flat_same s.engine c c' one.flat two.flat in
    let latest : IsLatest s.decisions c' g t.decisions = subst (λ k. IsLatest s.decisions k g t.decisions) cids one.latest in
    let same = is_latest_same s.decisions c' g t.decisions g' u.decisions latest two.latest in
    let gone : g ≡ g' = same.0 in
    let withdraws : Withdraws s.engine (Decide g'.var) one.middle = subst (λ (p : Pair). Withdraws s.engine (Decide p.var) one.middle) gone one.withdraws in
    let middles : one.middle ≡ two.middle = withdrawal_same s.engine (gone_with s.engine.active (Decide g'.var)) one.middle two.middle withdraws two.withdraws in
    let engines : t.engine ≡ u.engine = one.posts.after ∙ (λ i. posted (middles i) (negation_of (gone i) (without_cid (Decide (gone i).var) (cids i)))) ∙ sym two.posts.after in
    record {
      same = λ i. TurnUndo (gone i) (cids i);
      state = λ i. record { engine = engines i; decisions = same.1 i };
    }

-- ---- turns

pub has_empty : (s : EngineState) (c : List Cid) → HasFlatConflict s c → HasEmpty (present s)
has_empty s c flat = (flat.var, flat.empty)

takes_same : (s : SearchState) → (turn : Turn) (t : SearchState) (other : Turn) (u : SearchState) → Takes false s turn t → Takes false s other u → IsSameTurn turn t other u
takes_same s (TurnDecide p pick) t (TurnDecide q k) u one two = decides_same s p pick t q k u one two
takes_same s (TurnDecide p pick) t (TurnUndo g c) u one two = absurd (not_empty (present s.engine) one.filled (has_empty s.engine c two.flat))
takes_same s (TurnUndo g c) t (TurnDecide q k) u one two = absurd (not_empty (present s.engine) two.filled (has_empty s.engine c one.flat))
takes_same s (TurnUndo g c) t (TurnUndo g' c') u one two = undoes_same s g c t g' c' u one two

pub settles_same : (s t u : SearchState) → IsValid s.engine → SettlesAfter false s t → SettlesAfter false s u → t ≡ u
settles_same s t u valid one two =
    let same = plainly_same None s.engine one.revisions t.engine two.revisions u.engine valid one.fits two.fits one.settles two.settles in
    let lists : t.decisions ≡ u.decisions = one.decisions ∙ sym two.decisions in
    λ i. record { engine = same.state i; decisions = lists i }

pub follows_same : (s : SearchState) → IsSearching s → (turn : Turn) (t : SearchState) (other : Turn) (u : SearchState) → Follows false false s turn t → Follows false false s other u → IsSameTurn turn t other u
follows_same s searching turn t other u one two =
    let same = takes_same s turn one.middle other two.middle one.takes two.takes in
    let valid = (takes_keep false s other two.middle two.takes searching).valid in
    record {
      same = same.same;
      state = settles_same two.middle t u valid (subst (λ z. SettlesAfter false z t) same.state one.settles) two.settles;
    }

-- ---- ends

found_single : (values : List ℤ) (x : ℕ) → length (values_of (map (λ v. v ∷ []) values) x) ≤ 1
found_single [] x = omega arith
found_single (v ∷ values) zero = omega arith
found_single (v ∷ values) (suc x) = found_single values x

found_not_open : (d : Domains) (values : List ℤ) (x : ℕ) → IsFound d values → IsOpen d x → ⊥
found_not_open d values x found is_open =
    let k = found_single values x in
    let two = subst (λ e. 2 ≤ length (values_of e x)) found is_open.two in
    omega (arith, k, two)

pub decided_open : (d : Domains) (pick : Pick) (p : Pair) → IsDecided d pick p → IsOpen d p.var
decided_open d NoGuide p decided = decided.is_open
decided_open d Nothing p decided = decided.is_open
decided_open d (Asked q) p decided = elim decided [
  | inl r ↦ subst (λ (z : Pair). IsOpen d z.var) (sym r.1) r.0.is_open
  | inr r ↦ r.1.is_open
]

values_same : (xs ys : List ℤ) → map (λ v. v ∷ []) xs ≡ map (λ v. v ∷ []) ys → xs ≡ ys
values_same [] [] e = refl
values_same [] (y ∷ ys) e = cc
values_same (x ∷ xs) [] e = cc
values_same (x ∷ xs) (y ∷ ys) e =
    let h : x ≡ y = first x y (map (λ v. v ∷ []) xs) (map (λ v. v ∷ []) ys) e in
    let t : xs ≡ ys = values_same xs ys (rest x y (map (λ v. v ∷ []) xs) (map (λ v. v ∷ []) ys) e) in
    λ i. h i ∷ t i
  where
    first : (x y : ℤ) (xs ys : Domains) → (x ∷ []) ∷ xs ≡ (y ∷ []) ∷ ys → x ≡ y
    first x y xs ys e = cc

    rest : (x y : ℤ) (xs ys : Domains) → (x ∷ []) ∷ xs ≡ (y ∷ []) ∷ ys → xs ≡ ys
    rest x y xs ys e = cc

-- without a decision in the flat conflict none can be undone
none_held : (s : EngineState) → (users : List Cid) → HasNoSolution s users → (conflict : List Cid) (x : ℕ) → HasFlatConflict s conflict → Contains conflict (Decide x) → ⊥
none_held s users none conflict x flat held =
    let same = flat_same s conflict none.conflict flat none.flat in
    member_nil x (subst (λ l. Contains l x) none.undecided (decided_member none.conflict x (subst (λ l. Contains l (Decide x)) same held)))

goes_not_unsolved : (s : EngineState) → (users : List Cid) → HasNoSolution s users → GoesOn s → ⊥
goes_not_unsolved s users none (could_decide x filled is_open) = not_empty (present s) filled (has_empty s none.conflict none.flat)
goes_not_unsolved s users none (could_undo x conflict flat held) = none_held s users none conflict x flat held

goes_not_found : (s : EngineState) (values : List ℤ) → IsFound (present s) values → GoesOn s → ⊥
goes_not_found s values found (could_decide x filled is_open) = found_not_open (present s) values x found is_open
goes_not_found s values found (could_undo x conflict flat held) = found_filled values (subst HasEmpty found (has_empty s conflict flat))

unsolved_not_found : (s : EngineState) (users : List Cid) (values : List ℤ) → HasNoSolution s users → IsFound (present s) values → ⊥
unsolved_not_found s users values none found = found_filled values (subst HasEmpty found (has_empty s none.conflict none.flat))

pub ends_same : (budget count : ℕ) (s : EngineState) → (end other : SearchEnd) → EndsWith budget count s end → EndsWith budget count s other → end ≡ other
ends_same budget count s (NoSolution users) (NoSolution users') one two =
    ap NoSolution (one.are ∙ ap (λ l. filter is_user l) (flat_same s one.conflict two.conflict one.flat two.flat) ∙ sym two.are)
ends_same budget count s (NoSolution users) (Found values) one two = absurd (unsolved_not_found s users values one two)
ends_same budget count s (NoSolution users) (Spent turns) one two = absurd (goes_not_unsolved s users one two.2)
ends_same budget count s (Found values) (NoSolution users) one two = absurd (unsolved_not_found s users values two one)
ends_same budget count s (Found values) (Found values') one two = ap Found (values_same values values' (sym one ∙ two))
ends_same budget count s (Found values) (Spent turns) one two = absurd (goes_not_found s values one two.2)
ends_same budget count s (Spent turns) (NoSolution users) one two = absurd (goes_not_unsolved s users two one.2)
ends_same budget count s (Spent turns) (Found values) one two = absurd (goes_not_found s values two one.2)
ends_same budget count s (Spent turns) (Spent turns') one two = ap Spent (one.0 ∙ sym two.0)

-- where a turn is taken, the run can go on
takes_goes : (guided : Bool) (s : SearchState) (turn : Turn) (t : SearchState) → Takes guided s turn t → GoesOn s.engine
takes_goes guided s (TurnDecide p pick) t takes = could_decide p.var takes.filled (decided_open (present s.engine) pick p takes.decided)
takes_goes guided s (TurnUndo g c) t takes = could_undo g.var c takes.flat takes.latest.held

-- a run that has ended does not go on
pub end_stops : (budget count more : ℕ) (s : EngineState) → (end : SearchEnd) → EndsWith budget count s end → count + suc more ≤ budget → GoesOn s → ⊥
end_stops budget count more s (NoSolution users) ends le goes = goes_not_unsolved s users ends goes
end_stops budget count more s (Found values) ends le goes = goes_not_found s values ends goes
end_stops budget count more s (Spent turns) ends le goes = let e = ends.1 in omega (arith, e)

-- ---- runs

pub record IsSameRun (turns : List Turn) (end : SearchEnd) (t : SearchState) (turns' : List Turn) (end' : SearchEnd) (u : SearchState) : Type 0 where
  pub turns_same : turns ≡ turns'
  pub end_same : end ≡ end'
  pub state : t ≡ u

turns_same : ReasonsAreRight → (budget n : ℕ) (s : SearchState) → IsSearching s → (turns : List Turn) (end : SearchEnd) (t : SearchState) (turns' : List Turn) (end' : SearchEnd) (u : SearchState)
    → Turns false false s turns t → Turns false false s turns' u → n + length turns ≤ budget → n + length turns' ≤ budget
    → EndsWith budget (n + length turns) t.engine end → EndsWith budget (n + length turns') u.engine end' → IsSameRun turns end t turns' end' u
turns_same right budget n s searching [] end t [] end' u one two wt wu et eu = record {
  turns_same = refl;
  end_same = ends_same budget (n + 0) s.engine end end' (subst (λ (z : SearchState). EndsWith budget (n + 0) z.engine end) one et) (subst (λ (z : SearchState). EndsWith budget (n + 0) z.engine end') two eu);
  state = one ∙ sym two;
}
turns_same right budget n s searching [] end t (turn ∷ turns') end' u one two wt wu et eu =
    absurd (end_stops budget (n + 0) (length turns') s.engine end (subst (λ (z : SearchState). EndsWith budget (n + 0) z.engine end) one et) (omega arith) (takes_goes false s turn two.1.middle two.1.takes))
turns_same right budget n s searching (turn ∷ turns) end t [] end' u one two wt wu et eu =
    absurd (end_stops budget (n + 0) (length turns) s.engine end' (subst (λ (z : SearchState). EndsWith budget (n + 0) z.engine end') two eu) (omega arith) (takes_goes false s turn one.1.middle one.1.takes))
turns_same right budget n s searching (turn ∷ turns) end t (other ∷ turns') end' u one two wt wu et eu =
    let first = follows_same s searching turn one.0 other two.0 one.1 two.1 in
    let searching' = settles_keep right false one.1.middle one.0 one.1.settles (takes_keep false s turn one.1.middle one.1.takes searching) in
    let rest = turns_same right budget (n + 1) one.0 searching' turns end t turns' end' u one.2 (subst (λ z. Turns false false z turns' u) (sym first.state) two.2)
    (omega arith) (omega arith)
    (subst (λ k. EndsWith budget k t.engine end) (next n (length turns)) et) (subst (λ k. EndsWith budget k u.engine end') (next n (length turns')) eu) in
    record { turns_same = λ i. first.same i ∷ rest.turns_same i; end_same = rest.end_same; state = rest.state }
  where
    next : (n m : ℕ) → n + suc m ≡ (n + 1) + m
    next n m = omega arith

zero_plus : (m : ℕ) → m ≡ 0 + m
zero_plus m = omega arith

pub run_same : ReasonsAreRight → (budget : ℕ) (s : EngineState) → IsValid s → HasOnlyUsers s → (turns : List Turn) (end : SearchEnd) (t : SearchState) (turns' : List Turn) (end' : SearchEnd) (u : SearchState)
    → SearchRun false false budget s turns end t → SearchRun false false budget s turns' end' u → IsSameRun turns end t turns' end' u
run_same right budget s valid users turns end t turns' end' u one two =
    let start = settles_same (begun s) one.start two.start valid one.settles two.settles in
    let searching = settles_keep right false (begun s) one.start one.settles (begins s valid users) in
    let wt = one.within in
    let wu = two.within in
    turns_same right budget 0 one.start searching turns end t turns' end' u one.taken (subst (λ z. Turns false false z turns' u) (sym start) two.taken)
    (omega (arith, wt)) (omega (arith, wu))
    (subst (λ k. EndsWith budget k t.engine end) (zero_plus (length turns)) one.ends) (subst (λ k. EndsWith budget k u.engine end') (zero_plus (length turns')) two.ends)
