-- Constraints that have a property by themselves, among all of those that are there.
use Rattle.std.proofs.Common.{ℕ, ℤ, List, Contains, sym, subst}
use Rattle.palm_base.specs.declared.terms.Cid.{Cid}
use Rattle.palm_base.specs.declared.terms.Pair.{Pair}
use Rattle.palm_model.specs.Conflict.{InConflict, IsKeptConflict}
use Rattle.palm_model.specs.Domains.{Domains, Has}
use Rattle.palm_model.specs.Log.{Active, IsListOf, Named, NamesOfPair, cons_of, log_pairs}
use Rattle.palm_model.specs.State.{EngineState, IsEmptyAt, IsValid, present}
use Rattle.palm_model.specs.declared.constraint.Con.{Con}
use Rattle.palm_model.proofs.cited.Without.{pair_of}
use Rattle.palm_events.proofs.cited.Agreeing.{gone_member}
use Rattle.palm_events.proofs.cited.Conflicts.{kept_conflict}
use Rattle.palm_events.proofs.cited.Logs.{logged, removal_explained}
use Rattle.palm_events.proofs.cited.Runs.{named_con}
use Rattle.palm_laws.proofs.cited.Solutions.{explains_more}
use Rattle.palm_reduce.specs.Properties.{HasProperty, HaveAlone, IsCore}
use Rattle.palm_reduce.specs.declared.property.Property.{Property}
use Rattle.palm_reduce.specs.declared.property.Property.TheVariants.{Conflict, Absence}
use Rattle.palm_laws.proofs.cited.Growing.{conflict_more}

-- ---- more constraints, and all of them

named_more : (xs ys : List Active) (cids : List Cid) → ((a : Active) → Contains cids a.cid → Contains xs a → Contains ys a)
    → (c : Con) → Named xs (Contains cids) c → Named ys (Contains cids) c
named_more xs ys cids sub c n = record { owner = n.owner; posted = sub n.owner n.named n.posted; is = n.is; named = n.named }

have_more : (property : Property) (initial : Domains) (xs ys : List Active) (cids : List Cid) → ((a : Active) → Contains cids a.cid → Contains xs a → Contains ys a)
    → HaveAlone property initial xs cids → HaveAlone property initial ys cids
have_more Conflict initial xs ys cids sub alone = conflict_more initial (Named xs (Contains cids)) (Named ys (Contains cids)) (named_more xs ys cids sub) alone
have_more (Absence pair) initial xs ys cids sub alone =
    explains_more initial (Named xs (Contains cids)) (Named ys (Contains cids)) pair.var pair.value (named_more xs ys cids sub) alone

-- a core stands where each of its constraints is still there
pub core_more : (property : Property) (initial : Domains) (xs ys : List Active) (cids : List Cid) → ((a : Active) → Contains cids a.cid → Contains xs a → Contains ys a)
    → IsCore property initial xs cids → IsCore property initial ys cids
core_more property initial xs ys cids sub core = record { rising = core.rising; alone = have_more property initial xs ys cids sub core.alone }

-- what some have by themselves, all have
pub core_holds : (property : Property) (initial : Domains) (active : List Active) (cids : List Cid) → IsCore property initial active cids → HasProperty property initial active
core_holds property initial active cids core = holds property core.alone
  where
    holds : (property : Property) → HaveAlone property initial active cids → HasProperty property initial active
    holds Conflict alone = conflict_more initial (Named active (Contains cids)) (Contains (cons_of active)) (named_con active (Contains cids)) alone
    holds (Absence pair) alone =
        explains_more initial (Named active (Contains cids)) (Contains (cons_of active)) pair.var pair.value (named_con active (Contains cids)) alone

-- ---- what an engine keeps

-- the kept conflict of an empty variable is one
pub kept_core : (s : EngineState) → IsValid s → (x : ℕ) → IsEmptyAt (present s) x → (cids : List Cid) → IsKeptConflict s x cids → IsCore Conflict s.initial s.active cids
kept_core s valid x empty cids kept = record {
  rising = kept.rising;
  alone = conflict_more s.initial (Named s.active (InConflict s x)) (Named s.active (Contains cids))
      (λ c n. record { owner = n.owner; posted = n.posted; is = n.is; named = kept.whole n.owner.cid n.named }) (kept_conflict s valid x empty);
}

-- the kept explanation of a removed pair is one
pub kept_absence : (s : EngineState) → IsValid s → (pair : Pair) → Contains (log_pairs s.log) pair → (cids : List Cid) → IsListOf (NamesOfPair s.log pair) cids → IsCore (Absence pair) s.initial s.active cids
kept_absence s valid pair m cids kept =
    let r = logged s.log pair m in
    let explained = removal_explained s.initial s.active s.log r.0 valid.founded r.1 in
    record {
      rising = kept.rising;
      alone = λ d inside closed has. explained d inside
          (λ c p n. closed c p (record { owner = n.owner; posted = n.posted; is = n.is; named = kept.whole n.owner.cid (record { removal = r.0; logged = r.1; is = r.2; names = n.named }) }))
          (subst (λ (q : Pair). Has d q.var q.value) (sym r.2) has);
    }

-- a declared pair that is absent was removed
pub absent_logged : (s : EngineState) (x : ℕ) (v : ℤ) → Has s.initial x v → (Has (present s) x v → ⊥) → Contains (log_pairs s.log) (pair_of x v)
absent_logged s x v declared absent = gone_member s.initial (log_pairs s.log) x v declared absent
