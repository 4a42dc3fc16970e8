-- The initial domains and the active constraints of a book.
use Rattle.std.proofs.Common.{◌≡◌, ℕ, ◌+◌, Bool, true, false, cond, List, [], ◌∷◌, ◌++◌, map, filter, take, get_or, All, AllPairs, ◌<◌, suc, arith, length, slice_get, Some, refl, sym, ap, ◌∙◌, subst, append-nil}
use Rattle.std.proofs.lemmas.List.Elements.{All-map, All-weaker, All-filter, filter_more}
use Rattle.std.proofs.lemmas.Option.{slice_get_within, get_or_from_slice_get}
use Rattle.palm_model.specs.Constraint.{IsWellFormed}
use Rattle.palm_model.specs.Domains.{Ascends, AllAscend}
use Rattle.palm_model.specs.declared.constraint.Con.{Con}
use Rattle.palm_book.specs.Book.{BookVar, Contents, IsBook, AreValues, initial_of, user_at, active_of}
use Rattle.palm_book.specs.declared.book.BookCon.{BookCon}
use Rattle.std.proofs.lemmas.List.Kept.{AllPairs-filter}
use Rattle.std.proofs.lemmas.Bool.{lt-ltb}
use Rattle.palm_base.specs.declared.terms.Cid.{Cid}
use Rattle.palm_base.specs.declared.terms.Cid.TheVariants.{User}
use Rattle.palm_base.specs.Order.{Rises, cid_before}
use Rattle.palm_model.specs.Log.{Active, cids_of, cons_of}

pub initial_ascend : (book : Contents) → IsBook book → AllAscend (initial_of book)
initial_ascend book b =
    All-map Ascends (λ (e : BookVar). e.values) book.variables
    (All-weaker (λ (e : BookVar). AreValues e.values) (λ (e : BookVar). Ascends e.values) (λ e h. h.ascend) book.variables b.values)

-- the active constraints themselves
pub same_cons : (cs : List BookCon) → cons_of (map user_at cs) ≡ map (λ (c : BookCon). c.con) cs
same_cons [] = refl
same_cons (c ∷ cs) = ap (λ (z : List Con). c.con ∷ z) (same_cons cs)

pub active_cons : (book : Contents) → cons_of (active_of book) ≡ map (λ (c : BookCon). c.con) (filter (λ (c : BookCon). c.active) book.constraints)
active_cons book = same_cons (filter (λ (c : BookCon). c.active) book.constraints)

pub active_formed : (book : Contents) → IsBook book → All (IsWellFormed (length book.variables)) (cons_of (active_of book))
active_formed book b =
    subst (λ (cs : List Con). All (IsWellFormed (length book.variables)) cs) (sym (active_cons book))
    (All-map (IsWellFormed (length book.variables)) (λ (c : BookCon). c.con) (filter (λ c. c.active) book.constraints)
    (All-filter (λ (c : BookCon). c.active) (λ (c : BookCon). IsWellFormed (length book.variables) c.con) book.constraints b.formed))

map_both : (xs ys : List BookCon) → map (λ (c : BookCon). c.con) (xs ++ ys) ≡ map (λ (c : BookCon). c.con) xs ++ map (λ (c : BookCon). c.con) ys
map_both [] ys = refl
map_both (x ∷ xs) ys = ap (λ (z : List Con). x.con ∷ z) (map_both xs ys)

one_more : (xs : List BookCon) (e : BookCon) (b : Bool) → map (λ (c : BookCon). c.con) (xs ++ cond b (e ∷ []) []) ≡ map (λ (c : BookCon). c.con) xs ++ cond b (e.con ∷ []) []
one_more xs e true = map_both xs (e ∷ [])
one_more xs e false = map_both xs []

-- the active ones of the first constraints, with one more
active_step : (cs : List BookCon) (i : ℕ) (e : BookCon) → slice_get cs i ≡ Some e
    → map (λ (c : BookCon). c.con) (filter (λ (c : BookCon). c.active) (take (i + 1) cs))
    ≡ map (λ (c : BookCon). c.con) (filter (λ (c : BookCon). c.active) (take i cs)) ++ cond e.active (e.con ∷ []) []
active_step cs i e at =
    let read : get_or cs i e ≡ e = get_or_from_slice_get cs i e e at in
    let step = filter_more (λ (c : BookCon). c.active) cs i e (slice_get_within cs i e at) in
    ap (λ (z : List BookCon). map (λ (c : BookCon). c.con) z)
    (subst (λ (x : BookCon). filter (λ (c : BookCon). c.active) (take (i + 1) cs) ≡ filter (λ (c : BookCon). c.active) (take i cs) ++ cond x.active (x ∷ []) []) read step)
    ∙ one_more (filter (λ (c : BookCon). c.active) (take i cs)) e e.active

pub active_more : (cs : List BookCon) (i : ℕ) (e : BookCon) → slice_get cs i ≡ Some e → e.active ≡ true
    → map (λ (c : BookCon). c.con) (filter (λ (c : BookCon). c.active) (take i cs)) ++ e.con ∷ []
    ≡ map (λ (c : BookCon). c.con) (filter (λ (c : BookCon). c.active) (take (i + 1) cs))
active_more cs i e at on =
    sym (active_step cs i e at ∙ ap (λ (b : Bool). map (λ (c : BookCon). c.con) (filter (λ (c : BookCon). c.active) (take i cs)) ++ cond b (e.con ∷ []) []) on)

pub active_same : (cs : List BookCon) (i : ℕ) (e : BookCon) → slice_get cs i ≡ Some e → e.active ≡ false
    → map (λ (c : BookCon). c.con) (filter (λ (c : BookCon). c.active) (take i cs))
    ≡ map (λ (c : BookCon). c.con) (filter (λ (c : BookCon). c.active) (take (i + 1) cs))
active_same cs i e at off =
    sym (active_step cs i e at ∙ ap (λ (b : Bool). map (λ (c : BookCon). c.con) (filter (λ (c : BookCon). c.active) (take i cs)) ++ cond b (e.con ∷ []) []) off
    ∙ append-nil (map (λ (c : BookCon). c.con) (filter (λ (c : BookCon). c.active) (take i cs))))

-- ---- under their names

names_rise : (cs : List BookCon) → AllPairs (λ (c d : BookCon). c.number < d.number) cs → Rises (cids_of (map user_at cs))
names_rise [] p = tt
names_rise (c ∷ cs) p =
    let later : All (λ (d : BookCon). cid_before (User c.number) (User d.number) ≡ true) cs
    = λ k d lt. lt-ltb c.number (get_or cs k d).number (p 0 (suc k) d (omega arith) (omega (arith, lt))) in (
      All-map (λ (n : Cid). cid_before (User c.number) n ≡ true) (λ (a : Active). a.cid) (map user_at cs)
          (All-map (λ (a : Active). cid_before (User c.number) a.cid ≡ true) user_at cs later),
      names_rise cs (λ i j d before within. p (suc i) (suc j) d (omega (arith, before)) (omega (arith, within))),
    )

pub actives_rise : (book : Contents) → IsBook book → Rises (cids_of (active_of book))
actives_rise book b = names_rise (filter (λ (c : BookCon). c.active) book.constraints) (AllPairs-filter (λ (c d : BookCon). c.number < d.number) (λ (c : BookCon). c.active) book.constraints b.rising)
