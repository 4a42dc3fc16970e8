-- A reason that was written whole: what `whole_or_none` leaves of it.
use Rattle.std.proofs.Common.{◌≡◌, ◌++◌, List, [], Result, Ok, Err, sym, ap, ◌∙◌, subst}
use Rattle.std.specs.Prelude.{OnOk}
use Rattle.palm_base.specs.declared.terms.Pair.{Pair}

-- what holds where the call had memory, and what follows of it
pub on_ok : {T E : Type 0} (P Q : Type 0) (result : Result T E) → (P → Q) → OnOk result P → OnOk result Q
on_ok P Q (Ok x) f p = f p
on_ok P Q (Err y) f p = tt

-- what holds where it was written, and what of the list that then stands, hold together
pub whole_ok : {T E : Type 0} (P Q R : Type 0) (written result : Result T E) → result ≡ written → OnOk written P → OnOk written (OnOk result Q) → (P → Q → R) → OnOk result R
whole_ok P Q R (Ok x) result e p q f = subst (λ r. OnOk r R) (sym e) (f p (subst (λ r. OnOk r Q) e q))
whole_ok P Q R (Err y) result e p q f = subst (λ r. OnOk r R) (sym e) tt

-- a reason that was written behind an empty list is the list that stands
pub written_right : {T E : Type 0} (Q : List Pair → Type 0) (written result : Result T E) (before now out reasons : List Pair) → before ≡ [] → result ≡ written → OnOk written (now ≡ before ++ reasons) → OnOk written (OnOk result (out ≡ now)) → (out ≡ reasons → Q out) → OnOk result (Q out)
written_right Q written result before now out reasons none same first second gives =
    whole_ok (now ≡ before ++ reasons) (out ≡ now) (Q out) written result same first second
    (λ f s. gives (s ∙ f ∙ ap (λ ps. ps ++ reasons) none))
