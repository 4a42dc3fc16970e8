-- Each line that meets no refusal asks for one request, which can be obeyed.
use Rattle.std.proofs.Common.{◌≡◌, ◌≢◌, ℕ, ℤ, ◌+◌, ◌<◌, Bool, true, false, Some, None, List, [], ◌∷◌, ◌++◌, length, All, AllPairs, Any, Contains, get_or, inl, inr, refl, sym, ap, ◌∙◌, subst, arith, length-append}
use Rattle.std.proofs.lemmas.Bool.{cases_Bool, cases_lt}
use Rattle.std.proofs.lemmas.List.{get_or-map}
use Rattle.std.proofs.lemmas.List.Elements.{All-cons, All-nil, Contains-get_or}
use Rattle.std.proofs.lemmas.Option.{slice_get_within, get_or_from_slice_get}
use Rattle.palm_base.specs.First.{IsNone}
use Rattle.palm_base.proofs.cited.Members.{Known, all_members, int_known, member_get, member_known, member_nil, member_place}
use Rattle.palm_model.specs.Domains.{Domains, Has, values_of}
use Rattle.palm_model.specs.Constraint.{IsWellFormed}
use Rattle.palm_model.specs.declared.constraint.Con.{Con}
use Rattle.palm_model.specs.declared.constraint.Con.TheVariants.{Within as WithinCon}
use Rattle.palm_model.proofs.cited.Without.{pair_of}
use Rattle.palm_base.specs.declared.terms.Pair.{Pair}
use Rattle.palm_book.specs.Book.{AreValues, BookVar, initial_of, name_of}
use Rattle.palm_book.specs.Named.{IsPair, IsVariable}
use Rattle.palm_book.specs.declared.book.BookCon.{BookCon}
use Rattle.palm_book.proofs.cited.Any.{any_member, member_any}
use Rattle.palm_book.proofs.cited.Naming.{name_known, constraint_once, constraint_with, variable_with}
use Rattle.palm_book.proofs.cited.Pairs.{pair_is, variable_is}
use Rattle.palm_book.proofs.cited.WellFormed.{well_formed}
use Rattle.palm_read.specs.Domain.{values_in}
use Rattle.palm_read.specs.Limits.{names_of}
use Rattle.palm_read.specs.Sound.{IsSound}
use Rattle.palm_read.specs.declared.line.Line.{Line}
use Rattle.palm_read.specs.declared.line.Line.TheVariants.{Comment, Header, Var, VarIn, Add as AddLine, Relax as RelaxLine, Enforce as EnforceLine, Retract as RetractLine, Domains as DomainsLine, Domain as DomainLine, List as ListLine, Log as LogLine, Why as WhyLine, Conflict as ConflictLine, Minimal as MinimalLine, MinimalConflict as MinimalConflictLine, Cert as CertLine, CertConflict as CertConflictLine, Pause as PauseLine, Resume as ResumeLine, Step as StepLine, SolveDbt, SolveRepair, Prove, Minimize, Prefer as PreferLine, PreferNone, Preferred as PreferredLine, Guide, GuideNone, Order, OrderNone, DropGuide as DropGuideLine, DropOrder as DropOrderLine, Quit as QuitLine}
use Rattle.palm_session.specs.declared.request.Procedure.TheVariants.{Dbt, Repair, Proof, Least}
use Rattle.palm_session.specs.declared.request.Question.TheVariants.{Domains as DomainsAsked, Domain, List as Listed, Log, Why, Conflict, Minimal, MinimalConflict, Cert, CertConflict, Preferred}
use Rattle.palm_session.specs.declared.request.Request.{Request}
use Rattle.palm_session.specs.declared.request.Request.TheVariants.{Nothing as NothingAsked, Header as HeaderAsked, Declare, DeclareIn, Add, Relax, Enforce, Retract, Ask, Pause, Resume, Step, Solve, ChooseGuide, DropGuide, ChooseOrder, DropOrder, Prefer, Quit}
use Rattle.palm_session.specs.State.{SessionState, IsHeld, HasConstraint, HasVariable}
use Rattle.palm_session.specs.Refusals.{HasActive, IsUndeclared, IsUnknown, Meets, in_order}
use Rattle.palm_session.specs.Requests.{Admits, IsAdmitted, IsPlaceOf, Requests}
use Rattle.palm_session.proofs.HeldObjects.{listed}
use Rattle.palm_session.proofs.LawsOfLines.{GivesTabu}
use Rattle.palm_book.proofs.cited.Intervals.{domain_values}

-- ---- names stand for something

pub variable_known : (s : SessionState) (name : List ℕ) → Known (HasVariable s name)
variable_known s name = name_known (λ (e : BookVar). e.name) s.book.variables name

-- a name that is not unknown is known
has_variable : (s : SessionState) (name : List ℕ) → (IsUnknown s name → ⊥) → HasVariable s name
has_variable s name n = elim (variable_known s name) [ inl h ↦ h | inr u ↦ absurd (n u) ]

all_named : (s : SessionState) (names : List (List ℕ)) → (Any (IsUnknown s) names → ⊥) → All (HasVariable s) names
all_named s names none = all_members (HasVariable s) names (λ x m. has_variable s x (λ u. none (m.0, x, m.1, m.2, u)))

variable_exists : (s : SessionState) (name : List ℕ) → (IsUnknown s name → ⊥) → (x : ℕ) × IsVariable s.book.variables name x
variable_exists s name known =
    let x = variable_with s.book.variables name (has_variable s name known) in
    (x.0, record { declared = x.1; named = x.2 })

pair_exists : (s : SessionState) (name : List ℕ) (value : ℤ) → (IsUnknown s name → ⊥) → (pair : Pair) × IsPair s.book.variables name value pair
pair_exists s name value known = let x = variable_exists s name known in (pair_of x.0 value, record { variable = x.1; gives = refl })

place_exists : (s : SessionState) (name : List ℕ) → ((HasConstraint s name → ⊥) → ⊥) → (place : ℕ) × IsPlaceOf s name place
place_exists s name some = elim (name_known (λ (c : BookCon). c.name) s.book.constraints name) [
  | inl a ↦
      let m = member_any (λ (c : BookCon). c.name ≡ name) s.book.constraints a in
      let p = member_place s.book.constraints m.0 m.1 in
      (p.0, record { constraint = m.0; at = p.1; named = m.2 })
  | inr n ↦ absurd (some n)
]

-- ---- there is a request

pub request_exists : (s : SessionState) (line : Line) → IsNone (Meets s line) in_order → (request : Request) × Requests s line request
request_exists s Comment none = (NothingAsked, refl)
request_exists s Header none = (HeaderAsked, refl)
request_exists s (Var name domain) none = (Declare name domain, refl)
request_exists s (VarIn name universe domain) none = (DeclareIn name universe domain, refl)
request_exists s (AddLine name shape) none =
    let r = constraint_with s.book.variables shape (all_named s (names_of shape) none.1.0) in
    (Add name r.0, (r.0, r.1, refl))
request_exists s (RelaxLine name) none = let p = place_exists s name none.1.1.0 in (Relax p.0, (p.0, p.1, refl))
request_exists s (EnforceLine name) none = let p = place_exists s name none.1.1.0 in (Enforce p.0, (p.0, p.1, refl))
request_exists s (RetractLine name) none = let p = place_exists s name none.1.1.0 in (Retract p.0, (p.0, p.1, refl))
request_exists s DomainsLine none = (Ask DomainsAsked, refl)
request_exists s (DomainLine name) none = let x = variable_exists s name none.1.0 in (Ask (Domain x.0), (x.0, x.1, refl))
request_exists s ListLine none = (Ask Listed, refl)
request_exists s LogLine none = (Ask Log, refl)
request_exists s (WhyLine name value) none = let p = pair_exists s name value none.1.0 in (Ask (Why p.0), (p.0, p.1, refl))
request_exists s ConflictLine none = (Ask Conflict, refl)
request_exists s (MinimalLine name value) none = let p = pair_exists s name value none.1.0 in (Ask (Minimal p.0), (p.0, p.1, refl))
request_exists s MinimalConflictLine none = (Ask MinimalConflict, refl)
request_exists s (CertLine name value) none = let p = pair_exists s name value none.1.0 in (Ask (Cert p.0), (p.0, p.1, refl))
request_exists s CertConflictLine none = (Ask CertConflict, refl)
request_exists s PauseLine none = (Pause, refl)
request_exists s ResumeLine none = (Resume, refl)
request_exists s (StepLine count) none = (Step count, refl)
request_exists s (SolveDbt budget) none = (Solve (Dbt budget), refl)
request_exists s (SolveRepair tabu budget) none = (Solve (Repair tabu budget), refl)
request_exists s (Prove budget) none = (Solve (Proof budget), refl)
request_exists s (Minimize name budget) none = let x = variable_exists s name none.1.0 in (Solve (Least x.0 budget), (x.0, x.1, refl))
request_exists s (PreferLine name weight) none = let p = place_exists s name none.1.1.0 in (Prefer p.0 (Some weight), (p.0, p.1, refl))
request_exists s (PreferNone name) none = let p = place_exists s name none.1.1.0 in (Prefer p.0 None, (p.0, p.1, refl))
request_exists s PreferredLine none = (Ask Preferred, refl)
request_exists s (Guide number) none = (ChooseGuide (Some number), refl)
request_exists s GuideNone none = (ChooseGuide None, refl)
request_exists s (Order number) none = (ChooseOrder (Some number), refl)
request_exists s OrderNone none = (ChooseOrder None, refl)
request_exists s (DropGuideLine number) none = (DropGuide number, refl)
request_exists s (DropOrderLine number) none = (DropOrder number, refl)
request_exists s QuitLine none = (Quit, refl)

-- ---- and no other

module _ (s : SessionState) (is : IsHeld s) where
  place_once : (name : List ℕ) (p q : ℕ) → IsPlaceOf s name p → IsPlaceOf s name q → p ≡ q
  place_once name p q x y =
      let c = x.constraint in
      let apart : AllPairs (λ (e f : BookCon). e.name ≢ f.name) s.book.constraints = is.book.different_constraints in
      let at_p : get_or s.book.constraints p c ≡ c = get_or_from_slice_get s.book.constraints p c c x.at in
      let at_q : get_or s.book.constraints q c ≡ y.constraint = get_or_from_slice_get s.book.constraints q y.constraint c y.at in
      let same : (get_or s.book.constraints p c).name ≡ (get_or s.book.constraints q c).name
      = ap (λ (e : BookCon). e.name) at_p ∙ x.named ∙ sym y.named ∙ sym (ap (λ (e : BookCon). e.name) at_q) in
      elim (cases_lt p q) [
        | inl l ↦ absurd (apart p q c l (slice_get_within s.book.constraints q y.constraint y.at) same)
        | inr g ↦ elim (cases_lt q p) [
          | inl l ↦ absurd (apart q p c l (slice_get_within s.book.constraints p c x.at) (sym same))
          | inr h ↦ omega (arith, g, h)
        ]
      ]

  named_once : (name : List ℕ) (of_place : ℕ → Request) (a b : Request) → ((place : ℕ) × IsPlaceOf s name place × (a ≡ of_place place))
      → ((place : ℕ) × IsPlaceOf s name place × (b ≡ of_place place)) → a ≡ b
  named_once name of_place a b x y = x.2 ∙ ap of_place (place_once name x.0 y.0 x.1 y.1) ∙ sym y.2

  asked_once : (name : List ℕ) (value : ℤ) (of_pair : Pair → Request) (a b : Request) → ((pair : Pair) × IsPair s.book.variables name value pair × (a ≡ of_pair pair))
      → ((pair : Pair) × IsPair s.book.variables name value pair × (b ≡ of_pair pair)) → a ≡ b
  asked_once name value of_pair a b x y =
      x.2 ∙ ap of_pair (pair_is s.book.variables name value x.0 y.0 is.book.different_variables x.1 y.1) ∙ sym y.2

  pub request_once : (line : Line) (a b : Request) → Requests s line a → Requests s line b → a ≡ b
  request_once Comment a b x y = x ∙ sym y
  request_once Header a b x y = x ∙ sym y
  request_once (Var name domain) a b x y = x ∙ sym y
  request_once (VarIn name universe domain) a b x y = x ∙ sym y
  request_once (AddLine name shape) a b x y =
      let same : x.0 ≡ y.0 = constraint_once s.book.variables is.book.different_variables x.0 y.0 x.1.declared y.1.declared (x.1.says ∙ sym y.1.says) in
      x.2 ∙ ap (λ (con : Con). Add name con) same ∙ sym y.2
  request_once (RelaxLine name) a b x y = named_once name Relax a b x y
  request_once (EnforceLine name) a b x y = named_once name Enforce a b x y
  request_once (RetractLine name) a b x y = named_once name Retract a b x y
  request_once DomainsLine a b x y = x ∙ sym y
  request_once (DomainLine name) a b x y =
      x.2 ∙ ap (λ (v : ℕ). Ask (Domain v)) (variable_is s.book.variables name x.0 y.0 is.book.different_variables x.1 y.1) ∙ sym y.2
  request_once ListLine a b x y = x ∙ sym y
  request_once LogLine a b x y = x ∙ sym y
  request_once (WhyLine name value) a b x y = asked_once name value (λ p. Ask (Why p)) a b x y
  request_once ConflictLine a b x y = x ∙ sym y
  request_once (MinimalLine name value) a b x y = asked_once name value (λ p. Ask (Minimal p)) a b x y
  request_once MinimalConflictLine a b x y = x ∙ sym y
  request_once (CertLine name value) a b x y = asked_once name value (λ p. Ask (Cert p)) a b x y
  request_once CertConflictLine a b x y = x ∙ sym y
  request_once PauseLine a b x y = x ∙ sym y
  request_once ResumeLine a b x y = x ∙ sym y
  request_once (StepLine count) a b x y = x ∙ sym y
  request_once (SolveDbt budget) a b x y = x ∙ sym y
  request_once (SolveRepair tabu budget) a b x y = x ∙ sym y
  request_once (Prove budget) a b x y = x ∙ sym y
  request_once (Minimize name budget) a b x y =
      x.2 ∙ ap (λ (v : ℕ). Solve (Least v budget)) (variable_is s.book.variables name x.0 y.0 is.book.different_variables x.1 y.1) ∙ sym y.2
  request_once (PreferLine name weight) a b x y = named_once name (λ place. Prefer place (Some weight)) a b x y
  request_once (PreferNone name) a b x y = named_once name (λ place. Prefer place None) a b x y
  request_once PreferredLine a b x y = x ∙ sym y
  request_once (Guide number) a b x y = x ∙ sym y
  request_once GuideNone a b x y = x ∙ sym y
  request_once (Order number) a b x y = x ∙ sym y
  request_once OrderNone a b x y = x ∙ sym y
  request_once (DropGuideLine number) a b x y = x ∙ sym y
  request_once (DropOrderLine number) a b x y = x ∙ sym y
  request_once QuitLine a b x y = x ∙ sym y

-- ---- it can be obeyed

-- a value that may be asked for is declared
pub declared_value : (s : SessionState) (name : List ℕ) (value : ℤ) (x : ℕ) → (IsUndeclared s name value → ⊥) → x < length s.book.variables → name_of s.book.variables x ≡ name → Has (initial_of s.book) x value
declared_value s name value x asks lt named =
    let nothing : BookVar = record { name = []; values = [] } in
    let entry : BookVar = get_or s.book.variables x nothing in
    let values : values_of (initial_of s.book) x ≡ entry.values = get_or-map (λ (e : BookVar). e.values) s.book.variables x nothing [] lt in
    elim (member_known int_known entry.values value) [
      | inl m ↦ subst (λ (vs : List ℤ). Contains vs value) (sym values) m
      | inr none ↦ absurd (asks (any_member (λ (e : BookVar). (e.name ≡ name) × (Contains e.values value → ⊥)) s.book.variables entry (Contains-get_or s.book.variables x nothing lt) (named, none)))
    ]

pub declared_pair : (s : SessionState) (name : List ℕ) (value : ℤ) (pair : Pair) → (IsUndeclared s name value → ⊥) → IsPair s.book.variables name value pair → Has (initial_of s.book) pair.var pair.value
declared_pair s name value pair asks is =
    subst (λ (v : ℤ). Has (initial_of s.book) pair.var v) (sym is.gives) (declared_value s name value pair.var asks is.variable.declared is.variable.named)

-- the constraint with the name is active or relaxed, where the other is refused
module _ (s : SessionState) (name : List ℕ) (place : ℕ) (p : IsPlaceOf s name place) where
  not_so : (active : Bool) → (HasActive s name active → ⊥) → p.constraint.active ≡ active → ⊥
  not_so active none is =
      none (any_member (λ (d : BookCon). (d.name ≡ name) × (d.active ≡ active)) s.book.constraints p.constraint (member_get s.book.constraints place p.constraint p.at) (p.named, is))

  is_active : (HasActive s name false → ⊥) → p.constraint.active ≡ true
  is_active none = elim (cases_Bool p.constraint.active) [ inl on ↦ on | inr off ↦ absurd (not_so false none off) ]

  is_relaxed : (HasActive s name true → ⊥) → p.constraint.active ≡ false
  is_relaxed none = elim (cases_Bool p.constraint.active) [ inl on ↦ absurd (not_so true none on) | inr off ↦ off ]

is_awake : (b : Bool) → (b ≡ true → ⊥) → b ≡ false
is_awake b none = elim (cases_Bool b) [ inl on ↦ absurd (none on) | inr off ↦ off ]

is_waiting : (b : Bool) → (b ≡ false → ⊥) → b ≡ true
is_waiting b none = elim (cases_Bool b) [ inl on ↦ on | inr off ↦ absurd (none off) ]

-- the last variable has one of some values
within_formed : (variables : List BookVar) (e : BookVar) (values : List ℤ) → AreValues values → IsWellFormed (length (variables ++ e ∷ [])) (WithinCon (length variables) values)
within_formed variables e values are =
    let more : length (variables ++ e ∷ []) ≡ length variables + 1 = length-append variables (e ∷ []) in
    record {
      declared = All-cons (λ x. x < length (variables ++ e ∷ [])) (length variables) [] (omega (arith, more)) (All-nil (λ x. x < length (variables ++ e ∷ [])));
      distinct = (member_nil (length variables), tt);
      some = omega arith;
      few = omega arith;
      shaped = record { some = are.some; few = are.few; ascend = are.ascend; each = are.each };
    }

module _ (s : SessionState) (is : IsHeld s) where
  can_ask : (name : List ℕ) (value : ℤ) (pair : Pair) → (IsUndeclared s name value → ⊥) → IsPair s.book.variables name value pair → Has s.engine.initial pair.var pair.value
  can_ask name value pair asks found = subst (λ (d : Domains). Has d pair.var pair.value) (sym is.initial) (declared_pair s name value pair asks found)

  pub admits : (line : Line) (request : Request) → IsSound line → GivesTabu line → IsAdmitted s line request → Admits s request
  admits Comment request sound tabu a = subst (Admits s) (sym a.requests) tt
  admits Header request sound tabu a = subst (Admits s) (sym a.requests) tt
  admits (Var name domain) request sound tabu a = subst (Admits s) (sym a.requests) (record {
    text = sound.0;
    free = a.none.0;
    sound = sound.1;
    small = λ h. a.none.1.1.1.0 (inl h);
    room = λ h. a.none.1.1.1.0 (inr h);
  })
  admits (VarIn name universe domain) request sound tabu a = subst (Admits s) (sym a.requests) (record {
    declare = record {
      text = sound.0;
      free = λ h. a.none.0 (inl h);
      sound = sound.1;
      small = λ h. a.none.1.1.1.0 (inl (inl h));
      room = λ h. a.none.1.1.1.0 (inr (inl h));
    };
    sound = sound.2;
    small = λ h. a.none.1.1.1.0 (inl (inr h));
    add = record {
      text = sound.0;
      free = λ h. a.none.0 (inr h);
      formed = within_formed s.book.variables (record { name = name; values = values_in universe }) (values_in domain) (domain_values domain sound.2 (λ h. a.none.1.1.1.0 (inl (inr h))));
      room = λ h. a.none.1.1.1.0 (inr (inr h));
    };
  })
  admits (AddLine name shape) request sound tabu a =
      let con = a.requests.0 in
      subst (Admits s) (sym a.requests.2) (record {
        text = sound.0;
        free = a.none.0;
        formed = well_formed s.book.variables shape con a.requests.1 sound.1 sound.2 (λ h. a.none.1.1.1.0 (inl (inl h))) (λ h. a.none.1.1.1.0 (inl (inr h)));
        room = λ h. a.none.1.1.1.0 (inr h);
      })
  admits (RelaxLine name) request sound tabu a =
      let p = a.requests.1 in
      subst (Admits s) (sym a.requests.2) (record { constraint = p.constraint; at = p.at; is = is_active s name a.requests.0 p a.none.1.1.1.1.1.1.0 })
  admits (EnforceLine name) request sound tabu a =
      let p = a.requests.1 in
      subst (Admits s) (sym a.requests.2) (record { constraint = p.constraint; at = p.at; is = is_relaxed s name a.requests.0 p a.none.1.1.1.1.1.1.0 })
  admits (RetractLine name) request sound tabu a =
      let p = a.requests.1 in
      subst (Admits s) (sym a.requests.2) (slice_get_within s.book.constraints a.requests.0 p.constraint p.at)
  admits DomainsLine request sound tabu a = subst (Admits s) (sym a.requests) tt
  admits (DomainLine name) request sound tabu a = subst (Admits s) (sym a.requests.2) a.requests.1.declared
  admits ListLine request sound tabu a = subst (Admits s) (sym a.requests) tt
  admits LogLine request sound tabu a = subst (Admits s) (sym a.requests) tt
  admits (WhyLine name value) request sound tabu a = subst (Admits s) (sym a.requests.2) (can_ask name value a.requests.0 a.none.1.1.1.1.1.0 a.requests.1)
  admits ConflictLine request sound tabu a = subst (Admits s) (sym a.requests) tt
  admits (MinimalLine name value) request sound tabu a = subst (Admits s) (sym a.requests.2) (can_ask name value a.requests.0 a.none.1.1.1.1.1.0 a.requests.1)
  admits MinimalConflictLine request sound tabu a = subst (Admits s) (sym a.requests) tt
  admits (CertLine name value) request sound tabu a = subst (Admits s) (sym a.requests.2) (can_ask name value a.requests.0 a.none.1.1.1.1.1.0 a.requests.1)
  admits CertConflictLine request sound tabu a = subst (Admits s) (sym a.requests) tt
  admits PauseLine request sound tabu a = subst (Admits s) (sym a.requests) (is_awake s.paused a.none.1.1.1.1.1.1.0)
  admits ResumeLine request sound tabu a = subst (Admits s) (sym a.requests) (is_waiting s.paused a.none.1.1.1.1.1.1.0)
  admits (StepLine count) request sound tabu a = subst (Admits s) (sym a.requests) (is_waiting s.paused a.none.1.1.1.1.1.1.0)
  admits (SolveDbt budget) request sound tabu a = subst (Admits s) (sym a.requests) tt
  admits (SolveRepair length budget) request sound tabu a = subst (Admits s) (sym a.requests) tabu
  admits (Prove budget) request sound tabu a = subst (Admits s) (sym a.requests) tt
  admits (Minimize name budget) request sound tabu a = subst (Admits s) (sym a.requests.2) a.requests.1.declared
  admits (PreferLine name weight) request sound tabu a =
      let p = a.requests.1 in
      subst (Admits s) (sym a.requests.2) (slice_get_within s.book.constraints a.requests.0 p.constraint p.at)
  admits (PreferNone name) request sound tabu a =
      let p = a.requests.1 in
      subst (Admits s) (sym a.requests.2) (slice_get_within s.book.constraints a.requests.0 p.constraint p.at)
  admits PreferredLine request sound tabu a = subst (Admits s) (sym a.requests) tt
  admits (Guide number) request sound tabu a = subst (Admits s) (sym a.requests) (listed s.guides number a.none.1.1.1.1.0)
  admits GuideNone request sound tabu a = subst (Admits s) (sym a.requests) tt
  admits (Order number) request sound tabu a = subst (Admits s) (sym a.requests) (listed s.orders number a.none.1.1.1.1.0)
  admits OrderNone request sound tabu a = subst (Admits s) (sym a.requests) tt
  admits (DropGuideLine number) request sound tabu a = subst (Admits s) (sym a.requests) (listed s.guides number a.none.1.1.1.1.0)
  admits (DropOrderLine number) request sound tabu a = subst (Admits s) (sym a.requests) (listed s.orders number a.none.1.1.1.1.0)
  admits QuitLine request sound tabu a = subst (Admits s) (sym a.requests) tt
