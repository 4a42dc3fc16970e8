-- What a withdrawal leaves: the log, the pairs that the store lacks, what is told of the pairs that came back, and what is kept.
use Rattle.std.proofs.Common.{◌≡◌, ℕ, ◌≤◌, nat_lt, not, List, [], ◌∷◌, length, map, take, Contains, All, Some, refl, sym, ap, ◌∙◌, subst, arith, inl, inr}
use Rattle.std.proofs.lemmas.Bool.{false≢true, ltb-true}
use Rattle.std.proofs.lemmas.List.{length-map}
use Rattle.std.proofs.lemmas.List.Filters.{length-filter_both}
use Rattle.std.proofs.lemmas.Option.{get_or_from_slice_get}
use Rattle.palm_base.specs.Order.{IsPartedAt}
use Rattle.palm_base.specs.declared.terms.Cid.{Cid}
use Rattle.palm_base.specs.declared.terms.Pair.{Pair}
use Rattle.palm_base.proofs.cited.CidOrder.{cid_known}
use Rattle.palm_base.proofs.cited.Members.{member_get, member_map}
use Rattle.palm_domain.specs.Rows.{Row as DomainRow, Ascends, initial_of, present_of}
use Rattle.palm_model.specs.Event.{lost_pairs, vars_of}
use Rattle.palm_model.specs.Log.{Loses, log_pairs}
use Rattle.palm_explain.specs.declared.entry.Entry.{Entry}
use Rattle.palm_explain.specs.declared.firsts.Firsts.{Firsts}
use Rattle.palm_explain.specs.declared.rows.Row.{Row}
use Rattle.palm_explain.specs.Entries.{AreEntered, IsWhole, log_of}
use Rattle.palm_explain.specs.Explanations.{IsLinked, LacksExactly}
use Rattle.palm_explain.specs.Firsts.{AreFormedFirsts, first_of}
use Rattle.palm_explain.specs.Losing.{AreMarkedBy, HasBack, LosesNumbers, kept_of, marked_pairs, unmarked}
use Rattle.palm_explain.specs.Restored.{KeepsNumbers}
use Rattle.palm_explain.specs.Rows.{number_at}
use Rattle.palm_explain.proofs.Keeping.{AreTold, lacks_kept, log_lost_of, loses_kept, lost_of_log, noted_vars}
use Rattle.palm_explain.proofs.Kept.{entered_kept, kept_entry, log_kept}
use Rattle.palm_explain.proofs.Marking.{entered_marked, log_unmarked}
use Rattle.palm_explain.proofs.PuttingBack.{keeps_loses}
use Rattle.palm_explain.proofs.Reasons.{entered_linked}
use Rattle.palm_explain.proofs.RowSpans.{take_place}
use Rattle.palm_explain.proofs.Told.{told_names}

-- none of the entries before the first one of the constraint is its own
pub none_before_first : (entries : List Entry) (firsts : Firsts) (cid : Cid) (first start : ℕ) → ((e : Entry) → Contains entries e → (k : ℕ) × (first_of firsts e.by ≡ Some k) × (k ≤ e.number)) → ((k : ℕ) → first_of firsts cid ≡ Some k → first ≡ k)
    → IsPartedAt (λ e. nat_lt e.number first) entries start → (e : Entry) → Contains (take start entries) e → e.by ≡ cid → ⊥
none_before_first entries firsts cid first start begun taken parted e m own =
    let p = take_place start entries e m in
    let k = begun e (member_get entries p.0 e p.2) in
    let is = taken k.0 (ap (first_of firsts) (sym own) ∙ k.1) in
    let at = ap (λ (z : Entry). z.number) (get_or_from_slice_get entries p.0 e e p.2) in
    let less = ltb-true _ first (parted.before p.0 e (omega arith) p.1) in
    let le = k.2 in omega (arith, is, at, less, le)

-- each entry has its number still where rows keep their numbers
pub marks_numbered : (entries marks : List Entry) (rows middle : List Row) (next : ℕ) → AreEntered entries rows next → map unmarked marks ≡ entries → KeepsNumbers rows middle → (e : Entry) → Contains marks e → (k : ℕ) × (number_at middle e.pair ≡ Some k)
marks_numbered entries marks rows middle next are same keeps e m = (e.number, keeps.numbers e.pair ∙ (entered_marked entries marks rows next same are).found e m)

module _ (entries marks kept : List Entry) (rows middle now : List Row) (next : ℕ) (cid : Cid) (are : AreEntered entries rows next) (same : map unmarked marks ≡ entries) (marked : AreMarkedBy rows cid marks)
    (keeps : KeepsNumbers rows middle) (forgets : LosesNumbers middle now (marked_pairs marks)) (closed : kept ≡ kept_of marks) where
  numbers : LosesNumbers rows now (marked_pairs marks)
  numbers = keeps_loses rows middle now (marked_pairs marks) keeps forgets

  entered : AreEntered marks rows next
  entered = entered_marked entries marks rows next same are

  told : AreTold rows marks cid
  told = told_names marks rows next cid entered marked

  linked : IsLinked (log_of rows marks)
  linked = entered_linked marks rows next entered

  before : log_of rows marks ≡ log_of rows entries
  before = sym (log_unmarked rows marks) ∙ ap (log_of rows) same

  after : log_of rows (kept_of marks) ≡ log_of now kept
  after = sym (log_kept marks rows now next cid entered marked numbers) ∙ ap (log_of now) (sym closed)

  pub loses : Loses (log_of rows entries) (cid ∷ []) (log_of rows entries) (log_of now kept)
  loses = subst (λ l. Loses l (cid ∷ []) l (log_of now kept)) before (subst (λ l. Loses (log_of rows marks) (cid ∷ []) (log_of rows marks) l) after (loses_kept rows cid marks told))

  pub lacks : (first last : List DomainRow) → LacksExactly first (log_pairs (log_of rows entries)) → HasBack first last (marked_pairs marks) → All Ascends (initial_of last) → All Ascends (present_of last) → LacksExactly last (log_pairs (log_of now kept))
  lacks first last were back initial present =
      subst (λ l. LacksExactly last (log_pairs l)) after (lacks_kept rows cid marks first last linked told (subst (λ l. LacksExactly first (log_pairs l)) (sym before) were) back initial present)

  pub lost : (p : Pair) → Contains (marked_pairs marks) p → Contains (lost_pairs (log_of rows entries) (log_of now kept)) p
  lost p m = subst (λ l. Contains (lost_pairs l (log_of now kept)) p) before (subst (λ l. Contains (lost_pairs (log_of rows marks) l) p) after (lost_of_log rows cid marks linked told p m))

  pub marked_lost : (p : Pair) → Contains (lost_pairs (log_of rows entries) (log_of now kept)) p → Contains (marked_pairs marks) p
  marked_lost p m = log_lost_of rows cid marks told p (subst (λ l. Contains (lost_pairs (log_of rows marks) l) p) (sym after) (subst (λ l. Contains (lost_pairs l (log_of now kept)) p) (sym before) m))

  pub vars_lost : (keys : List ℕ) (x : ℕ) → (Contains keys x → Contains (vars_of (marked_pairs marks)) x) × (Contains (vars_of (marked_pairs marks)) x → Contains keys x)
      → (Contains keys x → Contains (vars_of (lost_pairs (log_of rows entries) (log_of now kept))) x) × (Contains (vars_of (lost_pairs (log_of rows entries) (log_of now kept))) x → Contains keys x)
  vars_lost keys x noted =
      subst (λ l. (Contains keys x → Contains (vars_of (lost_pairs l (log_of now kept))) x) × (Contains (vars_of (lost_pairs l (log_of now kept))) x → Contains keys x)) before
      (subst (λ l. (Contains keys x → Contains (vars_of (lost_pairs (log_of rows marks) l)) x) × (Contains (vars_of (lost_pairs (log_of rows marks) l)) x → Contains keys x)) after (noted_vars rows cid marks keys linked told x noted))

  pub whole_left : (room larger : ℕ) (firsts later : Firsts) → IsWhole entries rows next room firsts → room ≤ larger → AreFormedFirsts later → ((c : Cid) → (cid ≡ c → ⊥) → first_of later c ≡ first_of firsts c) → IsWhole kept now next larger later
  whole_left room larger firsts later whole grows formed others = subst (λ es. IsWhole es now next larger later) (sym closed) (record {
    entered = entered_kept marks rows now next cid entered marked numbers;
    unmarked = λ e m. (kept_entry marks e m).1;
    formed = formed;
    begun = λ e m.
        let k = kept_entry marks e m in
        let f = whole.begun (unmarked e) (subst (λ l. Contains l (unmarked e)) same (member_map unmarked marks e k.0)) in
        elim (cid_known cid e.by) [
          | inl own ↦ absurd (false≢true (sym k.1 ∙ (marked e k.0).1 (inl (sym own))))
          | inr n ↦ (f.0, others e.by n ∙ f.1, f.2)
        ];
    room =
        let short = length-filter_both (λ (e : Entry). e.mark) (λ (e : Entry). not e.mark) (λ e. refl) marks in
        let long = length-map marks unmarked in
        let equal = ap length same in
        let fits = whole.room in omega (arith, short, long, equal, fits, grows);
  })
