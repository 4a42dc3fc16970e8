-- What a withdrawal has put back so far, and what it tells of it.
use Rattle.std.proofs.Common.{◌≡◌, ◌⊎◌, ℕ, List, [], ◌∷◌, Contains, inl, inr, refl, sym, subst}
use Rattle.palm_base.specs.declared.terms.Pair.{Pair}
use Rattle.palm_base.proofs.cited.Members.{member_here, member_map, member_nil, member_same, member_unmap}
use Rattle.palm_domain.specs.Rows.{Row as DomainRow, IsDeclared, IsPresent}
use Rattle.palm_model.specs.Domains.{Has}
use Rattle.palm_model.specs.Event.{vars_of}
use Rattle.palm_model.proofs.cited.Without.{without_has}
use Rattle.palm_explain.specs.declared.restored.Restored.{Restored}
use Rattle.palm_explain.specs.declared.rows.Row.{Row}
use Rattle.palm_explain.specs.Explanations.{AreEnds, IsSpanned, LacksExactly, restored_vars}
use Rattle.palm_explain.specs.Losing.{HasBack}
use Rattle.palm_explain.specs.Restored.{AreSlotted, KeepsNumbers}
use Rattle.palm_explain.proofs.PuttingBack.{IsOneMore, back_next, back_none, keeps_next, keeps_none}
use Rattle.palm_explain.proofs.Slots.{none_slotted}

-- exactly these pairs are back, their variables alone are noted, and no number has changed
pub record IsPutBack (rows now : List Row) (before after : List DomainRow) (restored : List Restored) (pairs : List Pair) : Type 0 where
  pub numbers : KeepsNumbers rows now
  pub back : HasBack before after pairs
  pub slots : AreSlotted now restored
  pub noted : (x : ℕ) → Contains (restored_vars restored) x → Contains (vars_of pairs) x
  pub spanned : (p : Pair) → Contains pairs p → IsSpanned restored p
  pub ends : AreEnds restored pairs

pub no_pair : (pairs : List Pair) → ((p : Pair) → Contains pairs p → ⊥) → pairs ≡ []
no_pair [] none = refl
no_pair (p ∷ pairs) none = absurd (none p (member_here p pairs))

pub put_none : (rows : List Row) (store : List DomainRow) (restored : List Restored) (pairs : List Pair) → restored ≡ [] → ((p : Pair) → Contains pairs p → ⊥) → IsPutBack rows rows store store restored pairs
put_none rows store restored pairs is none =
    subst (λ ps. IsPutBack rows rows store store restored ps) (sym (no_pair pairs none)) (subst (λ rs. IsPutBack rows rows store store rs []) (sym is) (record {
      numbers = keeps_none rows;
      back = back_none store;
      slots = none_slotted rows;
      noted = λ x m. absurd (member_nil x m);
      spanned = λ p m. absurd (member_nil p m);
      ends = λ r m. absurd (member_nil r m);
    }))

pub put_next : (rows middle now : List Row) (before between after : List DomainRow) (restored later : List Restored) (ps qs : List Pair) (p : Pair) → IsOneMore ps p qs → IsPutBack rows middle before between restored ps
    → KeepsNumbers middle now → HasBack between after (p ∷ []) → AreSlotted now later
    → ((x : ℕ) → Contains (restored_vars later) x → Contains (restored_vars restored) x ⊎ (p.var ≡ x)) → ((q : Pair) → IsSpanned restored q ⊎ (p ≡ q) → IsSpanned later q)
    → ((pairs : List Pair) → AreEnds restored pairs → Contains pairs p → AreEnds later pairs) → IsPutBack rows now before after later qs
put_next rows middle now before between after restored later ps qs p more is numbers back slots noted spanned ends = record {
  numbers = keeps_next rows middle now is.numbers numbers;
  back = back_next before between after ps qs p more is.back back;
  slots = slots;
  noted = λ x m. elim (noted x m) [
    | inl o ↦
        let q = member_unmap (λ (z : Pair). z.var) ps x (is.noted x o) in
        member_same (vars_of qs) q.0.var x q.2 (member_map (λ (z : Pair). z.var) qs q.0 (more.old q.0 q.1))
    | inr e ↦ member_same (vars_of qs) p.var x e (member_map (λ (z : Pair). z.var) qs p more.there)
  ];
  spanned = λ q m. elim (more.some q m) [ inl k ↦ spanned q (inl (is.spanned q k)) | inr e ↦ spanned q (inr e) ];
  ends = ends qs (λ r m. let e = is.ends r m in (more.old (record { var = r.var; value = r.low }) e.0, more.old (record { var = r.var; value = r.high }) e.1)) more.there;
}

-- a pair that is still to come back is declared, and not present
pub still_declared : (before after : List DomainRow) (pairs all : List Pair) (p : Pair) → LacksExactly before all → HasBack before after pairs → Contains all p → IsDeclared after p.var p.value
still_declared before after pairs all p lacks back m = subst (λ d. Has d p.var p.value) (sym back.initial) (lacks.declared p m)

-- one that was taken out and is present has come back
pub come_back : (before after : List DomainRow) (pairs all : List Pair) (p : Pair) → LacksExactly before all → HasBack before after pairs → Contains all p → IsPresent after p.var p.value → Contains pairs p
come_back before after pairs all p lacks back m there = elim (back.sound p.var p.value there) [
  | inl was ↦ absurd ((without_has _ all p.var p.value (subst (λ d. Has d p.var p.value) lacks.present was)).1 m)
  | inr k ↦ k
]

pub still_out : (before after : List DomainRow) (pairs all : List Pair) (p : Pair) → LacksExactly before all → HasBack before after pairs → Contains all p → (Contains pairs p → ⊥) → IsPresent after p.var p.value → ⊥
still_out before after pairs all p lacks back m none there = none (come_back before after pairs all p lacks back m there)

-- the same of what is the same
pub put_same : (rows now : List Row) (before after : List DomainRow) (restored : List Restored) (pairs : List Pair) (now2 : List Row) (after2 : List DomainRow) (restored2 : List Restored) (pairs2 : List Pair)
    → now2 ≡ now → after2 ≡ after → restored2 ≡ restored → pairs2 ≡ pairs → IsPutBack rows now before after restored pairs → IsPutBack rows now2 before after2 restored2 pairs2
put_same rows now before after restored pairs now2 after2 restored2 pairs2 a b c d is =
    subst (λ l. IsPutBack rows l before after2 restored2 pairs2) (sym a)
    (subst (λ l. IsPutBack rows now before l restored2 pairs2) (sym b) (subst (λ l. IsPutBack rows now before after l pairs2) (sym c) (subst (λ l. IsPutBack rows now before after restored l) (sym d) is)))
