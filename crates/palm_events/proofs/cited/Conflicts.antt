-- Kept and flat conflicts, and justified negations.
use Rattle.std.proofs.Common.{◌≡◌, ℕ, ◌<◌, List, [], ◌∷◌, ◌++◌, length, Contains, ℤ, ◌⊎◌, inl, inr, refl, sym, ap, ◌∙◌, subst, arith, length-append}
use Rattle.palm_base.specs.declared.terms.Pair.{Pair}
use Rattle.palm_base.specs.declared.terms.Cid.{Cid}
use Rattle.palm_base.specs.declared.terms.Cid.TheVariants.{Decide, Not, User}
use Rattle.palm_base.proofs.cited.Members.{member_nil, member_cases}
use Rattle.palm_model.specs.Domains.{Domains, Assignment, Has}
use Rattle.palm_model.specs.Constraint.{scope}
use Rattle.palm_model.specs.Part.{Satisfies}
use Rattle.palm_model.specs.Closure.{IsConflict, IsSolution}
use Rattle.palm_model.specs.Log.{Active, IsActive, Named, Removal, AreRight, IsWellFounded, Names, log_pairs}
use Rattle.palm_model.specs.Log.Names.{by_itself, by_reason}
use Rattle.palm_model.specs.State.{EngineState, IsValid, IsEmptyAt, IsJustifier, present}
use Rattle.palm_model.specs.Event.{WithdrawsAll, posted, withdrawn, with_posted, without_cids, gone_with, Step, StepLeads}
use Rattle.palm_model.specs.Event.Event.{Post, Withdraw, Remove}
use Rattle.palm_model.specs.Event.Step.{Happens, Calm, Declare}
use Rattle.palm_model.specs.Conflict.{InConflict, InFlat, InFlatConflict, IsJustified, AreJustified}
use Rattle.palm_model.specs.Conflict.InFlat.{as_it_is, in_place}
use Rattle.palm_model.specs.declared.constraint.Con.{Con}
use Rattle.palm_model.proofs.cited.Formed.{part_scope}
use Rattle.palm_model.proofs.cited.Without.{pair_of, length_without}
use Rattle.palm_laws.specs.Declared.{AreDeclared}
use Rattle.palm_laws.proofs.cited.Solutions.{conflict_no_solution}
use Rattle.palm_events.proofs.cited.Logs.{removal_explained, logged}
use Rattle.palm_events.proofs.cited.Agreeing.{gone_member, values_of_more}
use Rattle.palm_events.proofs.cited.States.{member_with_posted, with_posted_cases, without_cids_member, member_without_cids, form_justifiers, gone_justifiers}
use Rattle.palm_events.specs.Along.{KeepsJustifiers, IsJustifiedPosting}
use Rattle.palm_events.proofs.cited.Valid.{active_declared}

-- ---- ids are of active constraints

owner_of : (initial : Domains) (active : List Active) (earlier rest : List Removal) → AreRight initial active earlier rest → (r : Removal) → Contains rest r → IsActive active r.by
owner_of initial active earlier [] right r m = absurd (member_nil r m)
owner_of initial active earlier (q ∷ rest) right r m = elim (member_cases q rest r m) [
  | inl e ↦ subst (λ (z : Removal). IsActive active z.by) e (record { owner = right.0.owner; posted = right.0.posted; named = right.0.named })
  | inr k ↦ owner_of initial active (earlier ++ q ∷ []) rest right.1 r k
]

pub cids_active : (initial : Domains) (active : List Active) (log : List Removal) (cid : Cid) → IsWellFounded initial active log → (r : Removal) → Contains log r → Names log cid r → IsActive active cid
cids_active initial active log cid founded _ m (by_itself r e) = subst (λ c. IsActive active c) e (owner_of initial active [] log founded r m)
cids_active initial active log cid founded _ m (by_reason r q n reason cids) = cids_active initial active log cid founded q n cids

pub conflict_active : (s : EngineState) → IsValid s → (x : ℕ) (cid : Cid) → InConflict s x cid → IsActive s.active cid
conflict_active s valid x cid held =
    cids_active s.initial s.active s.log cid valid.founded held.names.removal held.names.logged held.names.names

-- ---- the kept conflict

named_declared : (s : EngineState) → IsValid s → (P : Cid → Type 0) → AreDeclared (length s.initial) (Named s.active P)
named_declared s valid P c p x named m over =
    active_declared s valid named.owner named.posted x (subst (λ d. Contains (scope d) x) (sym named.is) (part_scope c p x m over))

pub kept_conflict : (s : EngineState) → IsValid s → (x : ℕ) → IsEmptyAt (present s) x → IsConflict s.initial (Named s.active (InConflict s x))
kept_conflict s valid x empty = (
  x,
  subst (λ n. x < n) (length_without s.initial (log_pairs s.log)) empty.exists,
  λ v d inside closed has.
      let declared = inside x v has in
      let r = logged s.log (pair_of x v) (gone_member s.initial (log_pairs s.log) x v declared (λ h. member_nil v (subst (λ vs. Contains vs v) empty.empty h))) in
      let explained = removal_explained s.initial s.active s.log r.0 valid.founded r.1 in
      explained d inside (λ c p named k. closed c p (record {
        owner = named.owner;
        posted = named.posted;
        is = named.is;
        named = record {
          value = v;
          declared = declared;
          names = record { removal = r.0; logged = r.1; is = r.2; names = named.named };
        };
      }) k) (subst (λ (p : Pair). Has d p.var p.value) (sym r.2) has),
)

-- ---- the flat conflict

pub justifier_or_negation : (c : Cid) → IsJustifier c ⊎ ((p : Pair) × (c ≡ Not p))
justifier_or_negation (Decide x) = inl tt
justifier_or_negation (Not p) = inr (p, refl)
justifier_or_negation (User n) = inl tt

-- what satisfies the ids without negations satisfies those with them
pub flat_solves : (s : EngineState) → AreJustified s → (K : Cid → Type 0) (b : Assignment) → IsSolution s.initial (Named s.active (InFlat s.active K)) b → IsSolution s.initial (Named s.active K) b
flat_solves s justified K b solution = record {
  within = solution.within;
  satisfies = λ c named.
      let a = named.owner in
      subst (λ d. Satisfies b d) named.is (elim (justifier_or_negation a.cid) [
        | inl justifier ↦ solution.satisfies a.con (record { owner = a; posted = named.posted; is = refl; named = as_it_is named.named justifier })
        | inr r ↦ justified a r.0 named.posted r.1 b (record {
          within = solution.within;
          satisfies = λ d held. solution.satisfies d (record {
            owner = held.owner;
            posted = held.posted;
            is = held.is;
            named = in_place r.0 a (subst K r.1 named.named) named.posted r.1 held.named;
          });
        })
      ]);
}

pub flat_unsolved : (s : EngineState) → IsValid s → AreJustified s → (x : ℕ) → IsEmptyAt (present s) x → (b : Assignment) → IsSolution s.initial (Named s.active (InFlatConflict s x)) b → ⊥
flat_unsolved s valid justified x empty b solution =
    conflict_no_solution s.initial (Named s.active (InConflict s x)) b (named_declared s valid (InConflict s x)) (kept_conflict s valid x empty)
    (flat_solves s justified (InConflict s x) b solution)

-- the flat conflict holds active justifiers alone
pub flat_justifiers : (s : EngineState) → IsValid s → (x : ℕ) (cid : Cid) → InFlatConflict s x cid → IsJustifier cid × IsActive s.active cid
flat_justifiers s valid x cid (as_it_is held justifier) = (justifier, conflict_active s valid x cid held)
flat_justifiers s valid x cid (in_place p a held posted named m) = form_justifiers (length s.initial) s.active a.cid a.con a.justification (valid.formed a posted).form cid m

-- ---- justified negations

-- a solution of more constraints is one of fewer
fewer_solved : (initial : Domains) (E F : Con → Type 0) (b : Assignment) → ((c : Con) → E c → F c) → IsSolution initial F b → IsSolution initial E b
fewer_solved initial E F b sub solution = record { within = solution.within; satisfies = λ c m. solution.satisfies c (sub c m) }

-- what is justified by active constraints is so where these are still active
pub justified_more : (initial : Domains) (active more : List Active) (a : Active) → ((g : Active) → Contains active g → Contains a.justification g.cid → Contains more g) → IsJustified initial active a → IsJustified initial more a
justified_more initial active more a stay justified b solution = justified b (fewer_solved initial (Named active (Contains a.justification)) (Named more (Contains a.justification)) b
    (λ c named. record { owner = named.owner; posted = stay named.owner named.posted named.named; is = named.is; named = named.named }) solution)

posted_justified : (s : EngineState) (a : Active) → (IsActive s.active a.cid → ⊥) → ((p : Pair) → a.cid ≡ Not p → IsJustified s.initial s.active a) → AreJustified s → AreJustified (posted s a)
posted_justified s a inactive new justified b p m e =
    justified_more s.initial s.active (with_posted a s.active) b (λ g k held. member_with_posted a s.active g inactive k)
    (elim (with_posted_cases a s.active b m) [
      | inl f ↦ subst (λ c. IsJustified s.initial s.active c) f (new p (ap (λ (c : Active). c.cid) f ∙ e))
      | inr k ↦ justified b p k e
    ])

withdrawn_justified : (s : EngineState) (gone : List Cid) (left : List Removal) → IsValid s → KeepsJustifiers s.active gone → AreJustified s → AreJustified (withdrawn s gone left)
withdrawn_justified s gone left valid keeps justified b p m e =
    let r = without_cids_member gone s.active b m in
    justified_more s.initial s.active (without_cids gone s.active) b
    (λ g k held. member_without_cids gone s.active g k
    (keeps b r.0 r.1 g.cid held (form_justifiers (length s.initial) s.active b.cid b.con b.justification (valid.formed b r.0).form g.cid held).0))
    (justified b p r.0 e)

pub withdraws_justified : (s t : EngineState) (gone : List Cid) → IsValid s → KeepsJustifiers s.active gone → WithdrawsAll s gone t → AreJustified s → AreJustified t
withdraws_justified s t gone valid keeps withdraws justified = subst AreJustified (sym withdraws.after) (withdrawn_justified s gone withdraws.left valid keeps justified)

declared_justified : (s : EngineState) (values : List ℤ) → AreJustified s → AreJustified (record s { initial = s.initial ++ values ∷ [] })
declared_justified s values justified b p m e c solution = justified b p m e c (record {
  within = λ x lt. subst (λ vs. Contains vs (c x)) (values_of_more s.initial values x lt) (solution.within x (lt_more s.initial values x lt));
  satisfies = solution.satisfies;
})
  where
    lt_more : (d : Domains) (vs : List ℤ) (x : ℕ) → x < length d → x < length (d ++ vs ∷ [])
    lt_more d vs x lt = omega (arith, length-append d (vs ∷ []))

pub step_justified : (s : EngineState) (step : Step) (t : EngineState) → StepLeads s step t → IsValid s → IsJustifiedPosting s step → AreJustified s → AreJustified t
step_justified s (Happens (Post a)) t h valid new justified = subst AreJustified (sym h.after) (posted_justified s a h.inactive new justified)
step_justified s (Happens (Withdraw cid)) t h valid new justified = withdraws_justified s t (gone_with s.active cid) valid (gone_justifiers (length s.initial) s.active cid valid.formed) h justified
step_justified s (Happens (Remove a p)) t h valid new justified = subst AreJustified (sym h.after) justified
step_justified s (Calm a) t h valid new justified = subst AreJustified (sym h.after) justified
step_justified s (Declare values) t h valid new justified = subst AreJustified (sym h.after) (declared_justified s values justified)
