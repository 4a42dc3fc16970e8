use Rattle.std.proofs.Common.{◌≡◌, ◌∙◌, cond, is_ok, length, min, set, refl, suc, sym, ap, subst, arith, inl, inr}
use Rattle.std.specs.List.{insert}
use Rattle.palm_base.specs.Order.{BelongsAt, Rises, StandsAt}
use Rattle.palm_base.proofs.cited.CidOrder.{cid_known}
use Rattle.palm_base.proofs.cited.RisingLists.{stands_cid}
use Rattle.palm_explain.specs.Firsts.{first_in, first_of}
use Rattle.palm_explain.proofs.FirstNumbers.{first_at, first_there, found_first, insert_first, insert_others, none_first, none_some, set_first, set_long, set_others}
use Rattle.palm_explain.proofs.Rising.{merged_put}
use Rattle.palm_explain.proofs.RowNumbers.{insert_length}
use Rattle.palm_explain.proofs.Reasons.{some_same}
use Rattle.palm_explain.proofs.firsts.Firsts.note.Goals as goal

pub returns-then-made_last-clause-noted : goal.returns-then-made_last-clause-noted
returns-then-made_last-clause-noted c =
    let e = c.made_last.ensures c.if-made_last.true in
    let first = c.requires.begun e.0 e.1 in (first.0, ap (first_of c.args.self.now) (sym e.2) ∙ first.1, first.2)

pub returns-in_err-reserve-in-Err-clause-stays : goal.returns-in_err-reserve-in-Err-clause-stays
returns-in_err-reserve-in-Err-clause-stays c d k is =
    (k, ap (λ ns. first_in c.args.self.now.cids.items ns d) c.reserve.ensures.items ∙ is, omega arith)

pub returns-in_err-insert-in-Err-clause-stays : goal.returns-in_err-insert-in-Err-clause-stays
returns-in_err-insert-in-Err-clause-stays c d k is =
    (k, ap (λ xs. first_in xs c.reserve.new.self.items d) c.in_err-insert-in-Err.ensures.items ∙ ap (λ ns. first_in c.args.self.now.cids.items ns d) c.reserve.ensures.items ∙ is, omega arith)

pub returns-in-Ok-clause-formed : goal.returns-in-Ok-clause-formed
returns-in-Ok-clause-formed c =
    let f = c.args.self.now in
    let i = c.in-Ok.place in
    let named = stands_cid f.cids.items i c.args.cid.now (subst (λ xs. StandsAt (λ x. x) xs i c.args.cid.now) c.deref.ensures.value c.in-Ok.ensures) in
    let lt = first_there f.cids.items f.numbers.items i c.args.cid.now c.requires.formed.each named in
    let k = first_at f.numbers.items i lt in
    record { rises = c.requires.formed.rises; each = ap length (c.lower.ensures k.0 k.1) ∙ set_long f.numbers.items i (min k.0 c.args.number) ∙ c.requires.formed.each }

pub returns-in-Ok-clause-noted : goal.returns-in-Ok-clause-noted
returns-in-Ok-clause-noted c =
    let f = c.args.self.now in
    let i = c.in-Ok.place in
    let named = stands_cid f.cids.items i c.args.cid.now (subst (λ xs. StandsAt (λ x. x) xs i c.args.cid.now) c.deref.ensures.value c.in-Ok.ensures) in
    let lt = first_there f.cids.items f.numbers.items i c.args.cid.now c.requires.formed.each named in
    let k = first_at f.numbers.items i lt in
    let new = c.lower.ensures k.0 k.1 in
    (min k.0 c.args.number, ap (λ ns. first_in f.cids.items ns c.args.cid.now) new ∙ set_first f.cids.items f.numbers.items i c.args.cid.now (min k.0 c.args.number) c.requires.formed.rises named lt, omega arith)

pub returns-in-Ok-clause-stays : goal.returns-in-Ok-clause-stays
returns-in-Ok-clause-stays c d j is =
    let f = c.args.self.now in
    let i = c.in-Ok.place in
    let named = stands_cid f.cids.items i c.args.cid.now (subst (λ xs. StandsAt (λ x. x) xs i c.args.cid.now) c.deref.ensures.value c.in-Ok.ensures) in
    let lt = first_there f.cids.items f.numbers.items i c.args.cid.now c.requires.formed.each named in
    let k = first_at f.numbers.items i lt in
    let new = c.lower.ensures k.0 k.1 in
    elim (cid_known c.args.cid.now d) [
      | inl e ↦
          let old : k.0 ≡ j = some_same k.0 j (sym (found_first f.cids.items f.numbers.items i c.args.cid.now k.0 c.requires.formed.rises named k.1) ∙ ap (first_in f.cids.items f.numbers.items) e ∙ is) in
          (min k.0 c.args.number, ap (λ ns. first_in f.cids.items ns d) new ∙ ap (first_in f.cids.items (set f.numbers.items i (min k.0 c.args.number))) (sym e) ∙ set_first f.cids.items f.numbers.items i c.args.cid.now (min k.0 c.args.number) c.requires.formed.rises named lt, omega (arith, old))
      | inr n ↦ (j, ap (λ ns. first_in f.cids.items ns d) new ∙ set_others f.cids.items f.numbers.items i c.args.cid.now (min k.0 c.args.number) d named n ∙ is, omega arith)
    ]

pub returns-in_ok-insert-in-Err-clause-formed : goal.returns-in_ok-insert-in-Err-clause-formed
returns-in_ok-insert-in-Err-clause-formed c =
    let f = c.args.self.now in
    let i = c.in-Err.place in
    let cids : c.insert.new.self.items ≡ insert f.cids.items i c.args.cid.now = c.in_ok-insert-in-Err.ensures.items in
    let at : BelongsAt (λ x. x) f.cids.items i c.args.cid.now = subst (λ xs. BelongsAt (λ x. x) xs i c.args.cid.now) c.deref.ensures.value c.in-Err.ensures in
    let merged = merged_put f.cids.items c.args.cid.now i c.requires.formed.rises at in
    let long = c.requires.formed.each in
    let le = at.parted.within in
    let numbers : c.insert-in-Err.new.self.items ≡ insert f.numbers.items i c.args.number = c.insert-in-Err.ensures.items ∙ ap (λ q. cond (is_ok q) (insert c.reserve.new.self.items i c.args.number) c.reserve.new.self.items) c.unwrap.ensures ∙ ap (λ l. insert l i c.args.number) c.reserve.ensures.items in record {
      rises = subst Rises (sym cids) merged.rising;
      each = ap length numbers ∙ insert_length f.numbers.items i c.args.number (omega (arith, le, long)) ∙ ap suc long ∙ sym (insert_length f.cids.items i c.args.cid.now le) ∙ sym (ap length cids);
    }

pub returns-in_ok-insert-in-Err-clause-noted : goal.returns-in_ok-insert-in-Err-clause-noted
returns-in_ok-insert-in-Err-clause-noted c =
    let f = c.args.self.now in
    let i = c.in-Err.place in
    let cids : c.insert.new.self.items ≡ insert f.cids.items i c.args.cid.now = c.in_ok-insert-in-Err.ensures.items in
    let at : BelongsAt (λ x. x) f.cids.items i c.args.cid.now = subst (λ xs. BelongsAt (λ x. x) xs i c.args.cid.now) c.deref.ensures.value c.in-Err.ensures in
    let merged = merged_put f.cids.items c.args.cid.now i c.requires.formed.rises at in
    let numbers : c.insert-in-Err.new.self.items ≡ insert f.numbers.items i c.args.number = c.insert-in-Err.ensures.items ∙ ap (λ q. cond (is_ok q) (insert c.reserve.new.self.items i c.args.number) c.reserve.new.self.items) c.unwrap.ensures ∙ ap (λ l. insert l i c.args.number) c.reserve.ensures.items in (
      c.args.number,
      ap (λ xs. first_in xs c.insert-in-Err.new.self.items c.args.cid.now) cids ∙ ap (λ ns. first_in (insert f.cids.items i c.args.cid.now) ns c.args.cid.now) numbers
          ∙ insert_first f.cids.items f.numbers.items i c.args.cid.now c.args.number at.parted.within c.requires.formed.each merged.rising,
      omega arith,
    )

pub returns-in_ok-insert-in-Err-clause-stays : goal.returns-in_ok-insert-in-Err-clause-stays
returns-in_ok-insert-in-Err-clause-stays c d k is =
    let f = c.args.self.now in
    let i = c.in-Err.place in
    let cids : c.insert.new.self.items ≡ insert f.cids.items i c.args.cid.now = c.in_ok-insert-in-Err.ensures.items in
    let at : BelongsAt (λ x. x) f.cids.items i c.args.cid.now = subst (λ xs. BelongsAt (λ x. x) xs i c.args.cid.now) c.deref.ensures.value c.in-Err.ensures in
    let numbers : c.insert-in-Err.new.self.items ≡ insert f.numbers.items i c.args.number = c.insert-in-Err.ensures.items ∙ ap (λ q. cond (is_ok q) (insert c.reserve.new.self.items i c.args.number) c.reserve.new.self.items) c.unwrap.ensures ∙ ap (λ l. insert l i c.args.number) c.reserve.ensures.items in
    let both = ap (λ xs. first_in xs c.insert-in-Err.new.self.items d) cids ∙ ap (λ ns. first_in (insert f.cids.items i c.args.cid.now) ns d) numbers in
    elim (cid_known c.args.cid.now d) [
      | inl e ↦
          let none = none_first f.cids.items f.numbers.items c.args.cid.now (λ m. at.absent c.args.cid.now m refl) in
          absurd (none_some k (sym none ∙ ap (first_in f.cids.items f.numbers.items) e ∙ is))
      | inr n ↦ (k, both ∙ insert_others f.cids.items f.numbers.items i c.args.cid.now c.args.number d at.parted.within c.requires.formed.each n ∙ is, omega arith)
    ]
