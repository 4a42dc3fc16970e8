-- What is admitted, and which refusal comes first, by the tests that a line passed.
use Rattle.std.proofs.Common.{◌≡◌, ◌≢◌, ◌<◌, ℕ, ℤ, true, false, List, [], length, get_or, All, Any, ◌⊎◌, Contains, Err, None, Ok, Some, inl, inr, refl, sym, ◌∙◌, subst}
use Rattle.std.proofs.lemmas.Bool.{false≢true}
use Rattle.std.proofs.lemmas.List.Elements.{Contains-get_or}
use Rattle.std.specs.Prelude.{slice_get}
use Rattle.palm_base.specs.First.{IsFirst, IsNone}
use Rattle.palm_base.specs.declared.terms.Pair.{Pair}
use Rattle.palm_book.specs.Book.{BookVar, name_of}
use Rattle.palm_book.specs.declared.book.BookCon.{BookCon}
use Rattle.palm_book.proofs.cited.Any.{any_member}
use Rattle.palm_lang.specs.declared.reply.Refusal.{Refusal}
use Rattle.palm_lang.specs.declared.reply.Refusal.TheVariants.{E3, E4, E5, E7, E10, E11, E12}
use Rattle.palm_read.specs.Limits.{IsBeyond}
use Rattle.palm_read.specs.declared.line.Line.{Line}
use Rattle.palm_read.specs.declared.line.Line.TheVariants.{Relax, Enforce, Retract, Domain, Why, Minimal, Cert, Pause, Resume, Step, Minimize, Prefer, PreferNone, Guide, Order, DropGuide, DropOrder}
use Rattle.palm_session.specs.declared.request.Procedure.TheVariants.{Least}
use Rattle.palm_session.specs.declared.request.Question.TheVariants.{Domain as DomainAsked, Why as WhyAsked, Minimal as MinimalAsked, Cert as CertAsked}
use Rattle.palm_session.specs.declared.request.Request.{Request}
use Rattle.palm_session.specs.declared.request.Request.TheVariants.{Relax as RelaxAsked, Enforce as EnforceAsked, Retract as RetractAsked, Ask, Pause as PauseAsked, Resume as ResumeAsked, Step as StepAsked, Solve, ChooseGuide, DropGuide as DropGuideAsked, ChooseOrder, DropOrder as DropOrderAsked, Prefer as PreferAsked}
use Rattle.palm_session.specs.Refusals.{TakesName, NamesNone, NamesNoConstraint, HasNoRoom, NamesNoObject, IsUndeclared, IsUnknown, AsksUndeclared, IsInWrongState, Meets, in_order}
use Rattle.palm_session.specs.Requests.{FindsPair, IsAdmitted, IsPlaceOf, Requests}
use Rattle.palm_session.specs.State.{SessionState, IsHeld}
use Rattle.palm_session.proofs.Standing.{has_active, has_constraint, not_active}

-- ---- the first refusal

pub name_taken : (s : SessionState) (line : Line) → TakesName s line → IsFirst (Meets s line) in_order E3
name_taken s line taken = inl (taken, refl)

module _ (s : SessionState) (line : Line) (free : TakesName s line → ⊥) where
  pub name_unknown : NamesNone s line → IsFirst (Meets s line) in_order E4
  name_unknown none = inr (free, inl (none, refl))

  pub constraint_unknown : (NamesNone s line → ⊥) → NamesNoConstraint s line → IsFirst (Meets s line) in_order E5
  constraint_unknown known none = inr (free, inr (known, inl (none, refl)))

  pub is_over : (NamesNone s line → ⊥) → (NamesNoConstraint s line → ⊥) → (IsBeyond line ⊎ HasNoRoom s line) → IsFirst (Meets s line) in_order E7
  is_over known named over = inr (free, inr (known, inr (named, inl (over, refl))))

  module _ (known : NamesNone s line → ⊥) (named : NamesNoConstraint s line → ⊥) (within : IsBeyond line ⊎ HasNoRoom s line → ⊥) where
    pub object_absent : NamesNoObject s line → IsFirst (Meets s line) in_order E11
    object_absent absent = inr (free, inr (known, inr (named, inr (within, inl (absent, refl)))))

    module _ (there : NamesNoObject s line → ⊥) where
      pub value_undeclared : AsksUndeclared s line → IsFirst (Meets s line) in_order E12
      value_undeclared asks = inr (free, inr (known, inr (named, inr (within, inr (there, inl (asks, refl))))))

      pub wrongly_so : (AsksUndeclared s line → ⊥) → IsInWrongState s line → IsFirst (Meets s line) in_order E10
      wrongly_so declared wrong = inr (free, inr (known, inr (named, inr (within, inr (there, inr (declared, inl (wrong, refl)))))))

      pub none_met : (AsksUndeclared s line → ⊥) → (IsInWrongState s line → ⊥) → IsNone (Meets s line) in_order
      none_met declared right = (free, (known, (named, (within, (there, (declared, (right, tt)))))))

-- a line that names nothing, breaks no limit and fits every state
pub free_of_refusals : (s : SessionState) (line : Line) → (NamesNoObject s line → ⊥) → (TakesName s line → ⊥) → (NamesNone s line → ⊥) → (NamesNoConstraint s line → ⊥)
    → (IsBeyond line → ⊥) → (HasNoRoom s line → ⊥) → (AsksUndeclared s line → ⊥) → (IsInWrongState s line → ⊥) → IsNone (Meets s line) in_order
free_of_refusals s line there free known named near room declared right =
    none_met s line free known named (λ m. elim m [ inl h ↦ near h | inr h ↦ room h ]) there declared right

-- ---- lines that name a constraint

pub no_constraint : (cs : List BookCon) (name : List ℕ) → All (λ c. c.name ≢ name) cs → Any (λ c. c.name ≡ name) cs → ⊥
no_constraint cs name h a = h a.0 a.1 a.2 (subst (λ (c : BookCon). c.name ≡ name) (sym a.3) a.4)

pub relax_unnamed : (s : SessionState) (name : List ℕ) → All (λ c. c.name ≢ name) s.book.constraints → IsFirst (Meets s (Relax name)) in_order E5
relax_unnamed s name none = constraint_unknown s (Relax name) (λ h. h) (λ h. h) (no_constraint s.book.constraints name none)

pub enforce_unnamed : (s : SessionState) (name : List ℕ) → All (λ c. c.name ≢ name) s.book.constraints → IsFirst (Meets s (Enforce name)) in_order E5
enforce_unnamed s name none = constraint_unknown s (Enforce name) (λ h. h) (λ h. h) (no_constraint s.book.constraints name none)

pub retract_unnamed : (s : SessionState) (name : List ℕ) → All (λ c. c.name ≢ name) s.book.constraints → IsFirst (Meets s (Retract name)) in_order E5
retract_unnamed s name none = constraint_unknown s (Retract name) (λ h. h) (λ h. h) (no_constraint s.book.constraints name none)

pub prefer_unnamed : (s : SessionState) (name : List ℕ) (weight : ℕ) → All (λ c. c.name ≢ name) s.book.constraints → IsFirst (Meets s (Prefer name weight)) in_order E5
prefer_unnamed s name weight none = constraint_unknown s (Prefer name weight) (λ h. h) (λ h. h) (no_constraint s.book.constraints name none)

pub prefer_none_unnamed : (s : SessionState) (name : List ℕ) → All (λ c. c.name ≢ name) s.book.constraints → IsFirst (Meets s (PreferNone name)) in_order E5
prefer_none_unnamed s name none = constraint_unknown s (PreferNone name) (λ h. h) (λ h. h) (no_constraint s.book.constraints name none)

module _ (s : SessionState) (name : List ℕ) (place : ℕ) (c : BookCon) (at : slice_get s.book.constraints place ≡ Some c) (named : c.name ≡ name) where
  found : IsPlaceOf s name place
  found = record { constraint = c; at = at; named = named }

  pub relaxed_already : c.active ≡ false → IsFirst (Meets s (Relax name)) in_order E10
  relaxed_already off =
      wrongly_so s (Relax name) (λ h. h) (λ h. h) (λ none. none (has_constraint s name place c at named)) (λ m. elim m [ inl h ↦ h | inr h ↦ h ]) (λ h. h) (λ h. h)
      (has_active s name place c at named false off)

  pub active_already : c.active ≡ true → IsFirst (Meets s (Enforce name)) in_order E10
  active_already on =
      wrongly_so s (Enforce name) (λ h. h) (λ h. h) (λ none. none (has_constraint s name place c at named)) (λ m. elim m [ inl h ↦ h | inr h ↦ h ]) (λ h. h) (λ h. h)
      (has_active s name place c at named true on)

  pub relax_admitted : IsHeld s → c.active ≡ true → IsAdmitted s (Relax name) (RelaxAsked place)
  relax_admitted is on = record {
    none = free_of_refusals s (Relax name) (λ h. h) (λ h. h) (λ h. h) (λ none. none (has_constraint s name place c at named)) (λ h. h) (λ h. h) (λ h. h)
        (not_active s is name place c at named false (λ off. false≢true (sym off ∙ on)));
    requests = (place, found, refl);
  }

  pub enforce_admitted : IsHeld s → c.active ≡ false → IsAdmitted s (Enforce name) (EnforceAsked place)
  enforce_admitted is off = record {
    none = free_of_refusals s (Enforce name) (λ h. h) (λ h. h) (λ h. h) (λ none. none (has_constraint s name place c at named)) (λ h. h) (λ h. h) (λ h. h)
        (not_active s is name place c at named true (λ on. false≢true (sym off ∙ on)));
    requests = (place, found, refl);
  }

  pub retract_admitted : IsAdmitted s (Retract name) (RetractAsked place)
  retract_admitted = record {
    none = free_of_refusals s (Retract name) (λ h. h) (λ h. h) (λ h. h) (λ none. none (has_constraint s name place c at named)) (λ h. h) (λ h. h) (λ h. h) (λ h. h);
    requests = (place, found, refl);
  }

  pub prefer_admitted : (weight : ℕ) → IsAdmitted s (Prefer name weight) (PreferAsked place (Some weight))
  prefer_admitted weight = record {
    none = free_of_refusals s (Prefer name weight) (λ h. h) (λ h. h) (λ h. h) (λ none. none (has_constraint s name place c at named)) (λ h. h) (λ h. h) (λ h. h) (λ h. h);
    requests = (place, found, refl);
  }

  pub prefer_none_admitted : IsAdmitted s (PreferNone name) (PreferAsked place None)
  prefer_none_admitted = record {
    none = free_of_refusals s (PreferNone name) (λ h. h) (λ h. h) (λ h. h) (λ none. none (has_constraint s name place c at named)) (λ h. h) (λ h. h) (λ h. h) (λ h. h);
    requests = (place, found, refl);
  }

-- ---- lines that name a variable

pub none_named : (variables : List BookVar) (name : List ℕ) → All (λ e. e.name ≢ name) variables → Any (λ e. e.name ≡ name) variables → ⊥
none_named variables name h a = h a.0 a.1 a.2 (subst (λ (e : BookVar). e.name ≡ name) (sym a.3) a.4)

pub some_named : (variables : List BookVar) (x : ℕ) (name : List ℕ) → x < length variables → name_of variables x ≡ name → Any (λ e. e.name ≡ name) variables
some_named variables x name lt e =
    let d : BookVar = record { name = []; values = [] } in
    any_member (λ (e : BookVar). e.name ≡ name) variables (get_or variables x d) (Contains-get_or variables x d lt) e

pub domain_unknown : (s : SessionState) (name : List ℕ) → All (λ e. e.name ≢ name) s.book.variables → IsFirst (Meets s (Domain name)) in_order E4
domain_unknown s name none = name_unknown s (Domain name) (λ h. h) (none_named s.book.variables name none)

pub domain_admitted : (s : SessionState) (name : List ℕ) (x : ℕ) → x < length s.book.variables → name_of s.book.variables x ≡ name → IsAdmitted s (Domain name) (Ask (DomainAsked x))
domain_admitted s name x lt is = record {
  none = free_of_refusals s (Domain name) (λ h. h) (λ h. h) (λ none. none (some_named s.book.variables x name lt is)) (λ h. h) (λ h. h) (λ h. h) (λ h. h) (λ h. h);
  requests = (x, record { declared = lt; named = is }, refl);
}

pub target_unknown : (s : SessionState) (name : List ℕ) (budget : ℕ) → All (λ e. e.name ≢ name) s.book.variables → IsFirst (Meets s (Minimize name budget)) in_order E4
target_unknown s name budget none = name_unknown s (Minimize name budget) (λ h. h) (none_named s.book.variables name none)

pub minimize_admitted : (s : SessionState) (name : List ℕ) (budget x : ℕ) → x < length s.book.variables → name_of s.book.variables x ≡ name → IsAdmitted s (Minimize name budget) (Solve (Least x budget))
minimize_admitted s name budget x lt is = record {
  none = free_of_refusals s (Minimize name budget) (λ h. h) (λ h. h) (λ none. none (some_named s.book.variables x name lt is)) (λ h. h) (λ h. h) (λ h. h) (λ h. h) (λ h. h);
  requests = (x, record { declared = lt; named = is }, refl);
}

-- ---- lines that name a pair

-- a line that asks for a pair that is not declared
pair_refused : (s : SessionState) (line : Line) (name : List ℕ) (value : ℤ) (refusal : Refusal) → (TakesName s line → ⊥)
    → (IsUnknown s name → NamesNone s line) → (NamesNone s line → IsUnknown s name) → (NamesNoConstraint s line → ⊥) → (IsBeyond line ⊎ HasNoRoom s line → ⊥) → (NamesNoObject s line → ⊥)
    → (IsUndeclared s name value → AsksUndeclared s line) → FindsPair s name value (Err refusal) → IsFirst (Meets s line) in_order refusal
pair_refused s line name value E4 free unknown known named within there asks f = name_unknown s line free (unknown f)
pair_refused s line name value E12 free unknown known named within there asks f =
    value_undeclared s line free (λ none. known none f.0) named within there (asks f.1)
pair_refused s line name value _ free unknown known named within there asks f = absurd f

module _ (s : SessionState) (name : List ℕ) (value : ℤ) where
  pub why_refused : (refusal : Refusal) → FindsPair s name value (Err refusal) → IsFirst (Meets s (Why name value)) in_order refusal
  why_refused refusal f = pair_refused s (Why name value) name value refusal (λ h. h) (λ h. h) (λ h. h) (λ h. h) (λ m. elim m [ inl h ↦ h | inr h ↦ h ]) (λ h. h) (λ h. h) f

  pub minimal_refused : (refusal : Refusal) → FindsPair s name value (Err refusal) → IsFirst (Meets s (Minimal name value)) in_order refusal
  minimal_refused refusal f = pair_refused s (Minimal name value) name value refusal (λ h. h) (λ h. h) (λ h. h) (λ h. h) (λ m. elim m [ inl h ↦ h | inr h ↦ h ]) (λ h. h) (λ h. h) f

  pub cert_refused : (refusal : Refusal) → FindsPair s name value (Err refusal) → IsFirst (Meets s (Cert name value)) in_order refusal
  cert_refused refusal f = pair_refused s (Cert name value) name value refusal (λ h. h) (λ h. h) (λ h. h) (λ h. h) (λ m. elim m [ inl h ↦ h | inr h ↦ h ]) (λ h. h) (λ h. h) f

  module _ (pair : Pair) (f : FindsPair s name value (Ok pair)) where
    pair_known : IsUnknown s name → ⊥
    pair_known none = none (some_named s.book.variables pair.var name f.0.variable.declared f.0.variable.named)

    pub why_admitted : IsAdmitted s (Why name value) (Ask (WhyAsked pair))
    why_admitted = record { none = free_of_refusals s (Why name value) (λ h. h) (λ h. h) pair_known (λ h. h) (λ h. h) (λ h. h) f.1 (λ h. h); requests = (pair, f.0, refl) }

    pub minimal_admitted : IsAdmitted s (Minimal name value) (Ask (MinimalAsked pair))
    minimal_admitted = record { none = free_of_refusals s (Minimal name value) (λ h. h) (λ h. h) pair_known (λ h. h) (λ h. h) (λ h. h) f.1 (λ h. h); requests = (pair, f.0, refl) }

    pub cert_admitted : IsAdmitted s (Cert name value) (Ask (CertAsked pair))
    cert_admitted = record { none = free_of_refusals s (Cert name value) (λ h. h) (λ h. h) pair_known (λ h. h) (λ h. h) (λ h. h) f.1 (λ h. h); requests = (pair, f.0, refl) }

-- ---- lines that say when filtering waits

pub paused_already : (s : SessionState) → s.paused ≡ true → IsFirst (Meets s Pause) in_order E10
paused_already s paused = wrongly_so s Pause (λ h. h) (λ h. h) (λ h. h) (λ m. elim m [ inl h ↦ h | inr h ↦ h ]) (λ h. h) (λ h. h) paused

pub pause_admitted : (s : SessionState) → s.paused ≡ false → IsAdmitted s Pause PauseAsked
pause_admitted s awake = record {
  none = free_of_refusals s Pause (λ h. h) (λ h. h) (λ h. h) (λ h. h) (λ h. h) (λ h. h) (λ h. h) (λ (h : s.paused ≡ true). false≢true (sym awake ∙ h));
  requests = refl;
}

pub awake_already : (s : SessionState) → s.paused ≡ false → IsFirst (Meets s Resume) in_order E10
awake_already s awake = wrongly_so s Resume (λ h. h) (λ h. h) (λ h. h) (λ m. elim m [ inl h ↦ h | inr h ↦ h ]) (λ h. h) (λ h. h) awake

pub resume_admitted : (s : SessionState) → s.paused ≡ true → IsAdmitted s Resume ResumeAsked
resume_admitted s paused = record {
  none = free_of_refusals s Resume (λ h. h) (λ h. h) (λ h. h) (λ h. h) (λ h. h) (λ h. h) (λ h. h) (λ (h : s.paused ≡ false). false≢true (sym h ∙ paused));
  requests = refl;
}

pub nothing_waits : (s : SessionState) (count : ℕ) → s.paused ≡ false → IsFirst (Meets s (Step count)) in_order E10
nothing_waits s count awake = wrongly_so s (Step count) (λ h. h) (λ h. h) (λ h. h) (λ m. elim m [ inl h ↦ h | inr h ↦ h ]) (λ h. h) (λ h. h) awake

pub step_admitted : (s : SessionState) (count : ℕ) → s.paused ≡ true → IsAdmitted s (Step count) (StepAsked count)
step_admitted s count paused = record {
  none = free_of_refusals s (Step count) (λ h. h) (λ h. h) (λ h. h) (λ h. h) (λ h. h) (λ h. h) (λ h. h) (λ (h : s.paused ≡ false). false≢true (sym h ∙ paused));
  requests = refl;
}

-- ---- lines that choose or drop an object

absent : (s : SessionState) (line : Line) → (TakesName s line → ⊥) → (NamesNone s line → ⊥) → (NamesNoConstraint s line → ⊥) → (IsBeyond line → ⊥) → (HasNoRoom s line → ⊥) → NamesNoObject s line
    → IsFirst (Meets s line) in_order E11
absent s line free known named near room none = object_absent s line free known named (λ m. elim m [ inl h ↦ near h | inr h ↦ room h ]) none

module _ (s : SessionState) (number : ℕ) where
  pub guide_absent : (Contains s.guides number → ⊥) → IsFirst (Meets s (Guide number)) in_order E11
  guide_absent none = absent s (Guide number) (λ h. h) (λ h. h) (λ h. h) (λ h. h) (λ h. h) none

  pub order_absent : (Contains s.orders number → ⊥) → IsFirst (Meets s (Order number)) in_order E11
  order_absent none = absent s (Order number) (λ h. h) (λ h. h) (λ h. h) (λ h. h) (λ h. h) none

  pub drop_guide_absent : (Contains s.guides number → ⊥) → IsFirst (Meets s (DropGuide number)) in_order E11
  drop_guide_absent none = absent s (DropGuide number) (λ h. h) (λ h. h) (λ h. h) (λ h. h) (λ h. h) none

  pub drop_order_absent : (Contains s.orders number → ⊥) → IsFirst (Meets s (DropOrder number)) in_order E11
  drop_order_absent none = absent s (DropOrder number) (λ h. h) (λ h. h) (λ h. h) (λ h. h) (λ h. h) none

  pub guide_admitted : Contains s.guides number → IsAdmitted s (Guide number) (ChooseGuide (Some number))
  guide_admitted there = record { none = free_of_refusals s (Guide number) (λ none. none there) (λ h. h) (λ h. h) (λ h. h) (λ h. h) (λ h. h) (λ h. h) (λ h. h); requests = refl }

  pub order_admitted : Contains s.orders number → IsAdmitted s (Order number) (ChooseOrder (Some number))
  order_admitted there = record { none = free_of_refusals s (Order number) (λ none. none there) (λ h. h) (λ h. h) (λ h. h) (λ h. h) (λ h. h) (λ h. h) (λ h. h); requests = refl }

  pub drop_guide_admitted : Contains s.guides number → IsAdmitted s (DropGuide number) (DropGuideAsked number)
  drop_guide_admitted there = record { none = free_of_refusals s (DropGuide number) (λ none. none there) (λ h. h) (λ h. h) (λ h. h) (λ h. h) (λ h. h) (λ h. h) (λ h. h); requests = refl }

  pub drop_order_admitted : Contains s.orders number → IsAdmitted s (DropOrder number) (DropOrderAsked number)
  drop_order_admitted there = record { none = free_of_refusals s (DropOrder number) (λ none. none there) (λ h. h) (λ h. h) (λ h. h) (λ h. h) (λ h. h) (λ h. h) (λ h. h); requests = refl }

-- ---- lines that nothing refuses

pub freely : (s : SessionState) (line : Line) (request : Request) → (NamesNoObject s line → ⊥) → (TakesName s line → ⊥) → (NamesNone s line → ⊥) → (NamesNoConstraint s line → ⊥)
    → (IsBeyond line → ⊥) → (HasNoRoom s line → ⊥) → (AsksUndeclared s line → ⊥) → (IsInWrongState s line → ⊥) → Requests s line request → IsAdmitted s line request
freely s line request there free known named near room declared right asks =
    record { none = free_of_refusals s line there free known named near room declared right; requests = asks }
