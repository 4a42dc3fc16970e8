use Rattle.std.proofs.Common.{◌≡◌, ◌∙◌, length, refl, sym, arith}
use Rattle.palm_hub.proofs.Admitting.{full_refused, found_admitted, opened_admitted, over_refused}
use Rattle.palm_hub.proofs.sessions.admit.Goals as goal

pub returns-in-Some : goal.returns-in-Some
returns-in-Some c =
    let found = rw c.deref.ensures.value at c.in-Some.ensures in
    (over_refused _ c.index.result.now _ c.in-Some.place found c.index.ensures (sym c.is_over.ensures ∙ c.if-is_over.true), refl)

pub returns-in-Some-2 : goal.returns-in-Some-2
returns-in-Some-2 c =
    let found = rw c.deref.ensures.value at c.in-Some.ensures in
    found_admitted _ c.index.result.now _ c.in-Some.place found c.index.ensures (sym c.is_over.ensures ∙ c.if-is_over.false)

pub returns-in-None : goal.returns-in-None
returns-in-None c =
    let none = rw c.deref.ensures.value at c.in-None.ensures in
    (full_refused c.args.sessions.now.items _ none (omega arith), refl)

pub returns-in_ok-push-in-None-2 : goal.returns-in_ok-push-in-None-2
returns-in_ok-push-in-None-2 c =
    let none = rw c.deref.ensures.value at c.in-None-2.ensures in
    let last : length c.args.sessions.now.items ≡ c.len-place.result = omega arith in
    rw (c.in_ok-push-in-None-2.ensures.items, ← last)
    (opened_admitted c.args.sessions.now.items c.in_ok-new-in-None-2.field-0 c.args.name.now none
    (omega arith) c.in_ok-new-in-None-2.ensures)
