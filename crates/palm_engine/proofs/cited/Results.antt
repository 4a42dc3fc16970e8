-- What follows where a call succeeded.
use Rattle.std.proofs.Common.{Ok, Err}
use Rattle.std.specs.Prelude.{Result, OnOk, OnErr}

pub on_ok : {T E : Type 0} (r : Result T E) (P Q : Type 0) → (P → Q) → OnOk r P → OnOk r Q
on_ok (Ok x) P Q f p = f p
on_ok (Err e) P Q f p = tt

pub on_both : {T E : Type 0} (r : Result T E) (P Q : Type 0) → OnOk r P → OnOk r Q → OnOk r (P × Q)
on_both (Ok x) P Q p q = (p, q)
on_both (Err e) P Q p q = tt

-- it succeeded, or it failed
pub on_either : {T E : Type 0} (r : Result T E) (P Q R : Type 0) → OnOk r P → OnErr r Q → (P → R) → (Q → R) → R
on_either (Ok x) P Q R p q f g = f p
on_either (Err e) P Q R p q f g = g q
