-- What holds of a call that didn't fail.
use Rattle.std.proofs.Common.{Result, Ok, Err, OnOk, OnErr}
use Rattle.std.specs.Prelude.{IfOk}

-- a fact that holds either way
pub on_each : {X E P : Type 0} (r : Result X E) → P → OnOk r P
on_each (Ok x) h = h
on_each (Err e) h = tt

pub if_ok : {X E : Type 0} {P Q : X → Type 0} (r : Result X E) → ((x : X) → P x → Q x) → IfOk r P → IfOk r Q
if_ok (Ok x) f h = f x h
if_ok (Err e) f h = tt

pub err_each : {X E P : Type 0} (r : Result X E) → P → OnErr r P
err_each (Ok x) h = tt
err_each (Err e) h = h
