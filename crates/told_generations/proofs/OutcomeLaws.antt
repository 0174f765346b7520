-- What holds of one outcome of a call.
use Rattle.std.specs.Prelude.{OnErr, OnOk, Result, Ok, Err}

pub on_err : {A E : Type 0} (result : Result A E) (P : Type 0) → P → OnErr result P
on_err (Ok done) P is = tt
on_err (Err fault) P is = is

pub on_ok : {A E : Type 0} (result : Result A E) (P Q : Type 0) → (P → Q) → OnOk result P → OnOk result Q
on_ok (Ok done) P Q then is = then is
on_ok (Err fault) P Q then is = tt
