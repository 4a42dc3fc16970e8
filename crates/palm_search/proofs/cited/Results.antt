-- What is said of an answer that is known.
use Rattle.std.specs.Prelude.{OnErr, Result, Ok, Err}

pub on_err : {T E : Type 0} (P : Type 0) (result : Result T E) → P → OnErr result P
on_err P (Ok x) p = tt
on_err P (Err e) p = p
