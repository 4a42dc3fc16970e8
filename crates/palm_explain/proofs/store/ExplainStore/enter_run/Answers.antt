use Rattle.std.proofs.Common.{◌≡◌, ◌∙◌, ℤ, ◌+◌, ◌≤◌, ◌++◌, length, Contains, vec_capacity, refl, sym, ap, subst, arith}
use Rattle.palm_base.proofs.cited.Members.{member_same}
use Rattle.palm_explain.specs.declared.entry.Entry.{Entry}
use Rattle.palm_explain.specs.declared.rows.TheConstants.{NO_NUMBER}
use Rattle.palm_model.specs.Log.{log_pairs}
use Rattle.palm_explain.specs.Entries.{IsWhole, log_of}
use Rattle.palm_explain.specs.Explanations.{Explanations, IsRunOf}
use Rattle.palm_explain.proofs.Reasons.{entry_pair}
use Rattle.palm_explain.proofs.RowNumbers.{keeps_all}
use Rattle.palm_explain.proofs.RunEntries.{entered_run, log_run, whole_run}
use Rattle.palm_explain.proofs.Stores.{entered_like, log_like, on_err, whole_like}
use Rattle.palm_explain.proofs.store.ExplainStore.enter_run.Goals as goal

pub note-requires-clause-begun : goal.note-requires-clause-begun
note-requires-clause-begun c e m =
    let here = subst (λ es. Contains es e) (c.deref-2.ensures.value ∙ c.reserve-2.ensures.items) m in
    let first = c.self.invariant.begun e here in
    let below = c.self.invariant.entered.below e here in (first.0, first.1, (let le = first.2 in omega (arith, le, below)))

pub invariant_of-self-in_err-reserve-2 : goal.invariant_of-self-in_err-reserve-2
invariant_of-self-in_err-reserve-2 c =
    let rows = c.self.inside.rows.items in
    subst (λ es. IsWhole es rows c.self.inside.next (vec_capacity c.reserve.new.self) c.self.inside.firsts) (sym c.reserve-2.ensures.items)
    (whole_like c.self.inside.log.items rows rows c.self.inside.next (vec_capacity c.self.inside.restored) (vec_capacity c.reserve.new.self) c.self.inside.firsts c.self.inside.firsts c.self.invariant c.self.invariant.entered.formed (keeps_all rows rows (λ p. refl)) c.reserve.ensures.capacity
    c.self.invariant.formed (λ d k is. (k, is, omega arith)))

pub invariant_of-self-in_err-place : goal.invariant_of-self-in_err-place
invariant_of-self-in_err-place c =
    let rows = c.self.inside.rows.items in
    subst (λ es. IsWhole es c.reach_values.new.rows.items c.self.inside.next (vec_capacity c.reserve.new.self) c.self.inside.firsts) (sym c.reserve-2.ensures.items)
    (whole_like c.self.inside.log.items rows c.reach_values.new.rows.items c.self.inside.next (vec_capacity c.self.inside.restored) (vec_capacity c.reserve.new.self) c.self.inside.firsts c.self.inside.firsts c.self.invariant c.reach_values.ensures.formed c.reach_values.ensures.removals c.reserve.ensures.capacity
    c.self.invariant.formed (λ d k is. (k, is, omega arith)))

pub invariant_of-self-then-not-are_all_countable : goal.invariant_of-self-then-not-are_all_countable
invariant_of-self-then-not-are_all_countable c =
    let rows = c.self.inside.rows.items in
    subst (λ es. IsWhole es c.reach_values.new.rows.items c.self.inside.next (vec_capacity c.reserve.new.self) c.self.inside.firsts) (sym c.reserve-2.ensures.items)
    (whole_like c.self.inside.log.items rows c.reach_values.new.rows.items c.self.inside.next (vec_capacity c.self.inside.restored) (vec_capacity c.reserve.new.self) c.self.inside.firsts c.self.inside.firsts c.self.invariant c.reach_values.ensures.formed c.reach_values.ensures.removals c.reserve.ensures.capacity
    c.self.invariant.formed (λ d k is. (k, is, omega arith)))

pub invariant_of-self-in_err-note : goal.invariant_of-self-in_err-note
invariant_of-self-in_err-note c =
    let rows = c.self.inside.rows.items in
    subst (λ es. IsWhole es c.reach_values.new.rows.items c.self.inside.next (vec_capacity c.reserve.new.self) c.note.new.self) (sym c.reserve-2.ensures.items)
    (whole_like c.self.inside.log.items rows c.reach_values.new.rows.items c.self.inside.next (vec_capacity c.self.inside.restored) (vec_capacity c.reserve.new.self) c.self.inside.firsts c.note.new.self c.self.invariant c.reach_values.ensures.formed c.reach_values.ensures.removals c.reserve.ensures.capacity
    c.note.ensures.formed c.note.ensures.stays)

pub invariant_of-self-in_err-push_run : goal.invariant_of-self-in_err-push_run
invariant_of-self-in_err-push_run c =
    let rows = c.self.inside.rows.items in
    subst (λ es. IsWhole es c.reach_values.new.rows.items c.self.inside.next (vec_capacity c.reserve.new.self) c.note.new.self) (sym (c.in_err-push_run.ensures.err ∙ c.reserve-2.ensures.items))
    (whole_like c.self.inside.log.items rows c.reach_values.new.rows.items c.self.inside.next (vec_capacity c.self.inside.restored) (vec_capacity c.reserve.new.self) c.self.inside.firsts c.note.new.self c.self.invariant c.reach_values.ensures.formed c.reach_values.ensures.removals c.reserve.ensures.capacity
    c.note.ensures.formed c.note.ensures.stays)

pub returns-in_err-place-clause-err : goal.returns-in_err-place-clause-err
returns-in_err-place-clause-err c =
    let rows = c.self.inside.rows.items in
    on_err c.from_residual-in_err-place.result _
    (ap (λ es. let v : Explanations = record { log = log_of c.reach_values.new.rows.items es; restored = c.reserve.new.self.items } in v) c.reserve-2.ensures.items
    ∙ ap (λ l. let v : Explanations = record { log = l; restored = c.reserve.new.self.items } in v) (log_like c.self.inside.log.items rows c.reach_values.new.rows.items c.self.inside.next c.self.invariant.entered c.reach_values.ensures.formed c.reach_values.ensures.removals)
    ∙ ap (λ rs. let v : Explanations = record { log = log_of rows c.self.inside.log.items; restored = rs } in v) c.reserve.ensures.items ∙ c.self.view_is)

pub returns-then-not-are_all_countable-clause-err : goal.returns-then-not-are_all_countable-clause-err
returns-then-not-are_all_countable-clause-err c =
    let rows = c.self.inside.rows.items in
    ap (λ es. let v : Explanations = record { log = log_of c.reach_values.new.rows.items es; restored = c.reserve.new.self.items } in v) c.reserve-2.ensures.items
    ∙ ap (λ l. let v : Explanations = record { log = l; restored = c.reserve.new.self.items } in v) (log_like c.self.inside.log.items rows c.reach_values.new.rows.items c.self.inside.next c.self.invariant.entered c.reach_values.ensures.formed c.reach_values.ensures.removals)
    ∙ ap (λ rs. let v : Explanations = record { log = log_of rows c.self.inside.log.items; restored = rs } in v) c.reserve.ensures.items ∙ c.self.view_is

pub returns-in_err-note-clause-err : goal.returns-in_err-note-clause-err
returns-in_err-note-clause-err c =
    let rows = c.self.inside.rows.items in
    on_err c.from_residual-in_err-note.result _
    (ap (λ es. let v : Explanations = record { log = log_of c.reach_values.new.rows.items es; restored = c.reserve.new.self.items } in v) c.reserve-2.ensures.items
    ∙ ap (λ l. let v : Explanations = record { log = l; restored = c.reserve.new.self.items } in v) (log_like c.self.inside.log.items rows c.reach_values.new.rows.items c.self.inside.next c.self.invariant.entered c.reach_values.ensures.formed c.reach_values.ensures.removals)
    ∙ ap (λ rs. let v : Explanations = record { log = log_of rows c.self.inside.log.items; restored = rs } in v) c.reserve.ensures.items ∙ c.self.view_is)

pub returns-in_err-push_run-clause-err : goal.returns-in_err-push_run-clause-err
returns-in_err-push_run-clause-err c =
    let rows = c.self.inside.rows.items in
    on_err c.from_residual-in_err-push_run.result _
    (ap (λ es. let v : Explanations = record { log = log_of c.reach_values.new.rows.items es; restored = c.reserve.new.self.items } in v) (c.in_err-push_run.ensures.err ∙ c.reserve-2.ensures.items)
    ∙ ap (λ l. let v : Explanations = record { log = l; restored = c.reserve.new.self.items } in v) (log_like c.self.inside.log.items rows c.reach_values.new.rows.items c.self.inside.next c.self.invariant.entered c.reach_values.ensures.formed c.reach_values.ensures.removals)
    ∙ ap (λ rs. let v : Explanations = record { log = log_of rows c.self.inside.log.items; restored = rs } in v) c.reserve.ensures.items ∙ c.self.view_is)

pub invariant_of-self-2 : goal.invariant_of-self-2
invariant_of-self-2 c =
    let entries = c.self.inside.log.items in
    let rows = c.reach_values.new.rows.items in
    let more = c.number_each.new.rows.items in
    let next = c.self.inside.next in
    let x = c.args.var in
    let values = c.args.values.now in
    let run = c.in_ok-push_run.ensures.ok in
    let are = entered_like entries c.self.inside.rows.items rows next c.self.invariant.entered c.reach_values.ensures.formed c.reach_values.ensures.removals in
    let fresh : (v : ℤ) → Contains values v → (f : Entry) → Contains entries f → f.pair ≡ record { var = x; value = v } → ⊥ = λ v m f n same.
    (rw (← c.self.view_is) at c.requires.fresh) v m (member_same (log_pairs (log_of c.self.inside.rows.items entries)) f.pair (record { var = x; value = v }) same (entry_pair c.self.inside.rows.items entries f n)) in
    let most = c.self.invariant.entered.most in
    let room : next + length values ≤ NO_NUMBER = omega (arith, most, c.if-number-values.false) in
    let fits = rw c.deref.ensures.value at c.are_all_countable.ensures c.if-not-are_all_countable.false in
    let pushed = run.1 ∙ ap (λ es. es ++ run.0) c.reserve-2.ensures.items in
    let reserved = c.in_ok-reserve.ensures.ok in
    let long = c.len.ensures in
    subst (λ es. IsWhole es more (next + length values) (vec_capacity c.reserve.new.self) c.note.new.self) (sym pushed)
    (whole_run entries run.0 next x c.args.by c.args.spans.now values run.2 c.self.inside.rows.items more (vec_capacity c.self.inside.restored) (vec_capacity c.reserve.new.self) c.self.inside.firsts c.note.new.self c.self.invariant
    (entered_run entries run.0 rows more next x c.args.by c.args.spans.now values are run.2 c.number_each.ensures room fits fresh)
    (omega (arith, reserved, long)) c.note.ensures.formed c.note.ensures.stays c.in_ok-note.ensures.noted)

pub returns-clause-ok : goal.returns-clause-ok
returns-clause-ok c removals is =
    let entries = c.self.inside.log.items in
    let old = c.self.inside.rows.items in
    let rows = c.reach_values.new.rows.items in
    let more = c.number_each.new.rows.items in
    let next = c.self.inside.next in
    let x = c.args.var in
    let values = c.args.values.now in
    let run = c.in_ok-push_run.ensures.ok in
    let are = entered_like entries old rows next c.self.invariant.entered c.reach_values.ensures.formed c.reach_values.ensures.removals in
    let fresh : (v : ℤ) → Contains values v → (f : Entry) → Contains entries f → f.pair ≡ record { var = x; value = v } → ⊥ = λ v m f n same.
    (rw (← c.self.view_is) at c.requires.fresh) v m (member_same (log_pairs (log_of old entries)) f.pair (record { var = x; value = v }) same (entry_pair old entries f n)) in
    let most = c.self.invariant.entered.most in
    let room : next + length values ≤ NO_NUMBER = omega (arith, most, c.if-number-values.false) in
    let fits = rw c.deref.ensures.value at c.are_all_countable.ensures c.if-not-are_all_countable.false in
    let pushed = run.1 ∙ ap (λ es. es ++ run.0) c.reserve-2.ensures.items in
    let like = log_like entries old rows next c.self.invariant.entered c.reach_values.ensures.formed c.reach_values.ensures.removals in
    let here = subst (λ l. IsRunOf x c.args.by c.args.spans.now l values removals) (sym like) (rw (← c.self.view_is) at is) in
    let log = ap (log_of more) pushed ∙ log_run entries run.0 rows more next x c.args.by c.args.spans.now values are run.2 c.number_each.ensures room fits fresh removals here ∙ ap (λ l. l ++ removals) like in
    ap (λ l. let v : Explanations = record { log = l; restored = c.reserve.new.self.items } in v) log
    ∙ ap (λ rs. let v : Explanations = record { log = log_of old entries ++ removals; restored = rs } in v) c.reserve.ensures.items
    ∙ ap (λ (v : Explanations). let w : Explanations = record v { log = v.log ++ removals } in w) c.self.view_is
