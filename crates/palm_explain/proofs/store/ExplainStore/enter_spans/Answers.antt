use Rattle.std.proofs.Common.{◌≡◌, ◌∙◌, ◌+◌, ◌^◌, ◌<◌, ◌++◌, ◌∷◌, [], false, true, length, Contains, vec_capacity, refl, sym, ap, subst, arith}
use Rattle.palm_explain.specs.declared.entry.Entry.{Entry}
use Rattle.palm_base.proofs.cited.Members.{member_same}
use Rattle.palm_model.specs.Log.{Removal, log_pairs}
use Rattle.palm_explain.specs.Entries.{IsWhole, log_of, written}
use Rattle.palm_explain.specs.Explanations.{AreSpanned, Explanations}
use Rattle.palm_explain.proofs.Reasons.{entry_pair}
use Rattle.palm_explain.proofs.RowNumbers.{keeps_all}
use Rattle.palm_explain.proofs.Spanned.{entered_known, own_spanned, spanned_spans}
use Rattle.palm_explain.proofs.Stores.{entered_pushed, log_like, log_pushed, on_err, whole_like, whole_pushed}
use Rattle.palm_explain.proofs.store.ExplainStore.enter_spans.Goals as goal

pub note-requires-clause-begun : goal.note-requires-clause-begun
note-requires-clause-begun c e m =
    let here = subst (λ es. Contains es e) (c.deref-2.ensures.value ∙ c.reserve-2.ensures.items) m in
    let first = c.self.invariant.begun e here in
    let below = c.self.invariant.entered.below e here in (first.0, first.1, (let le = first.2 in omega (arith, le, below)))

pub invariant_of-self-in_err-reserve-2 : goal.invariant_of-self-in_err-reserve-2
invariant_of-self-in_err-reserve-2 c =
    let rows = c.self.inside.rows.items in
    subst (λ es. IsWhole es rows c.self.inside.next (vec_capacity c.reserve.new.self) c.self.inside.firsts) (sym c.reserve-2.ensures.items)
    (whole_like c.self.inside.log.items rows rows c.self.inside.next (vec_capacity c.self.inside.restored) (vec_capacity c.reserve.new.self) c.self.inside.firsts c.self.inside.firsts c.self.invariant c.self.invariant.entered.formed (keeps_all rows rows (λ p. refl)) c.reserve.ensures.capacity
    c.self.invariant.formed (λ d k is. (k, is, omega arith)))

pub invariant_of-self-in_err-note : goal.invariant_of-self-in_err-note
invariant_of-self-in_err-note c =
    let rows = c.self.inside.rows.items in
    subst (λ es. IsWhole es rows c.self.inside.next (vec_capacity c.reserve.new.self) c.note.new.self) (sym c.reserve-2.ensures.items)
    (whole_like c.self.inside.log.items rows rows c.self.inside.next (vec_capacity c.self.inside.restored) (vec_capacity c.reserve.new.self) c.self.inside.firsts c.note.new.self c.self.invariant c.self.invariant.entered.formed (keeps_all rows rows (λ p. refl)) c.reserve.ensures.capacity
    c.note.ensures.formed c.note.ensures.stays)

pub invariant_of-self-in_err-put_number : goal.invariant_of-self-in_err-put_number
invariant_of-self-in_err-put_number c =
    let rows = c.self.inside.rows.items in
    subst (λ es. IsWhole es c.put_number.new.rows.items c.self.inside.next (vec_capacity c.reserve.new.self) c.note.new.self) (sym c.reserve-2.ensures.items)
    (whole_like c.self.inside.log.items rows c.put_number.new.rows.items c.self.inside.next (vec_capacity c.self.inside.restored) (vec_capacity c.reserve.new.self) c.self.inside.firsts c.note.new.self c.self.invariant c.put_number.ensures.formed (keeps_all rows c.put_number.new.rows.items c.in_err-put_number.ensures.err) c.reserve.ensures.capacity
    c.note.ensures.formed c.note.ensures.stays)

pub returns-in_err-put_number-clause-err : goal.returns-in_err-put_number-clause-err
returns-in_err-put_number-clause-err c =
    let rows = c.self.inside.rows.items in
    on_err c.from_residual-in_err-put_number.result _
    (ap (λ es. let v : Explanations = record { log = log_of c.put_number.new.rows.items es; restored = c.reserve.new.self.items } in v) c.reserve-2.ensures.items
    ∙ ap (λ l. let v : Explanations = record { log = l; restored = c.reserve.new.self.items } in v) (log_like c.self.inside.log.items rows c.put_number.new.rows.items c.self.inside.next c.self.invariant.entered c.put_number.ensures.formed (keeps_all rows c.put_number.new.rows.items c.in_err-put_number.ensures.err))
    ∙ ap (λ rs. let v : Explanations = record { log = log_of rows c.self.inside.log.items; restored = rs } in v) c.reserve.ensures.items ∙ c.self.view_is)

pub invariant_of-self-2 : goal.invariant_of-self-2
invariant_of-self-2 c =
    let rows = c.self.inside.rows.items in
    let entries = c.self.inside.log.items in
    let next = c.self.inside.next in
    let e : Entry = record { number = next; pair = c.args.pair; by = c.args.by; mark = false; spans = c.in_ok-own.own } in
    let fresh : (f : Entry) → Contains entries f → f.pair ≡ e.pair → ⊥ = λ f m same. (rw (← c.self.view_is) at c.requires.fresh) (member_same (log_pairs (log_of rows entries)) f.pair e.pair same (entry_pair rows entries f m)) in
    let same = c.in_ok-own.ensures in
    let known : c.are_countable.result ≡ true = c.if-not-are_countable.false in
    let fits = subst (λ ss. length (written rows next ss) < 2 ^ 64) (sym same) (rw c.deref.ensures.value at c.are_countable.ensures known next) in
    let pushed = c.push_reserved.ensures.items ∙ ap (λ es. es ++ e ∷ []) c.reserve-2.ensures.items in
    subst (λ es. IsWhole es c.put_number.new.rows.items (next + 1) (vec_capacity c.reserve.new.self) c.note.new.self) (sym pushed)
    (whole_pushed entries rows c.put_number.new.rows.items next (vec_capacity c.self.inside.restored) (vec_capacity c.reserve.new.self) c.self.inside.firsts c.note.new.self e c.self.invariant
    (entered_pushed entries rows c.put_number.new.rows.items next e c.self.invariant.entered c.put_number.ensures.formed c.if-number.false refl fresh c.in_ok-put_number.ensures.there c.put_number.ensures.others fits) refl refl
    (omega (arith, c.in_ok-reserve.ensures.ok, c.len.ensures)) c.note.ensures.formed c.note.ensures.stays c.in_ok-note.ensures.noted)

pub returns-clause-spanned : goal.returns-clause-spanned
returns-clause-spanned c =
    let inside = c.self.inside in (
      written inside.rows.items inside.next c.args.spans.now,
      subst (λ (v : Explanations). AreSpanned (log_pairs v.log) c.args.spans.now (written inside.rows.items inside.next c.args.spans.now)) c.self.view_is
          (own_spanned inside.rows.items inside.next (log_pairs (log_of inside.rows.items inside.log.items)) (entered_known inside.log.items inside.rows.items inside.next c.self.invariant.entered) c.args.spans.now),
    )

pub returns-clause-ok : goal.returns-clause-ok
returns-clause-ok c reasons spanned =
    let rows = c.self.inside.rows.items in
    let entries = c.self.inside.log.items in
    let next = c.self.inside.next in
    let e : Entry = record { number = next; pair = c.args.pair; by = c.args.by; mark = false; spans = c.in_ok-own.own } in
    let fresh : (f : Entry) → Contains entries f → f.pair ≡ e.pair → ⊥ = λ f m same. (rw (← c.self.view_is) at c.requires.fresh) (member_same (log_pairs (log_of rows entries)) f.pair e.pair same (entry_pair rows entries f m)) in
    let spans = subst (λ ss. written rows next ss ≡ reasons) (sym c.in_ok-own.ensures) (spanned_spans rows next (log_pairs (log_of rows entries)) (entered_known entries rows next c.self.invariant.entered) c.args.spans.now reasons (rw (← c.self.view_is) at spanned)) in
    let pushed = c.push_reserved.ensures.items ∙ ap (λ es. es ++ e ∷ []) c.reserve-2.ensures.items in
    let log = ap (log_of c.put_number.new.rows.items) pushed
    ∙ log_pushed entries rows c.put_number.new.rows.items next e c.self.invariant.entered c.put_number.ensures.formed c.if-number.false refl fresh c.in_ok-put_number.ensures.there c.put_number.ensures.others reasons spans in
    let new : Removal = record { pair = c.args.pair; by = c.args.by; reasons = reasons } in
    ap (λ l. let v : Explanations = record { log = l; restored = c.reserve.new.self.items } in v) log
    ∙ ap (λ rs. let v : Explanations = record { log = log_of rows entries ++ new ∷ []; restored = rs } in v) c.reserve.ensures.items
    ∙ ap (λ (v : Explanations). let w : Explanations = record v { log = v.log ++ new ∷ [] } in w) c.self.view_is
