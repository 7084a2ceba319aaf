-- What was written, part by part and layer by layer.
use Rattle.std.proofs.Common.{◌≡◌, ◌+◌, ℕ, List, ◌++◌, Option, Result, Ok, Err, OnErr, IfErr, arith, take, length, length-append, subst}
use Rattle.std.specs.Io.KnownBytes.{Appends}
use Rattle.std.proofs.Math.Seq.{take-append-add}
use Rattle.std.proofs.lemmas.List.{take-append-le}
use Rattle.qc_io.specs.Sink.{AppendsPrefix}
use Rattle.qc_io.proofs.Known.{Appends-append}
use Rattle.qecode_commands.specs.declared.status.Status.{Status}
use Rattle.qecode_commands.specs.declared.status.Status.TheVariants.{WriteFault}
use Rattle.qecode_commands.specs.Files.{Wrote}

pub on_err : {T E P : Type 0} (r : Result T E) → P → OnErr r P
on_err (Ok x) p = tt
on_err (Err e) p = p

-- a prefix of the second part, after the first part
pub prefix_after : (a b c : Option (List ℕ)) (xs ys : List ℕ) → Appends a b xs → AppendsPrefix b c ys → AppendsPrefix a c (xs ++ ys)
prefix_after a b c xs ys first (n, le, second) =
    (length xs + n, rw length-append (omega arith), rw (take-append-add xs ys n) (Appends-append a b c xs (take n ys) first second))

-- a prefix of the first part is one of both
pub prefix_of : (a b : Option (List ℕ)) (xs ys : List ℕ) → AppendsPrefix a b xs → AppendsPrefix a b (xs ++ ys)
prefix_of a b xs ys (n, le, first) = (n, rw length-append (omega arith), rw (take-append-le n xs ys le) first)

pub Wrote-weaker : (old new : Option (List ℕ)) (before now : ℕ) (status : Status) (P Q : Status → List ℕ → Type 0)
    → ((s : Status) (t : List ℕ) → P s t → Q s t) → Wrote old new before now status P → Wrote old new before now status Q
Wrote-weaker old new before now WriteFault P Q f h = (h.0, (h.1.0, h.1.1, f h.1.0 h.1.1 h.1.2, h.1.3))
Wrote-weaker old new before now status P Q f h = (h.0, (h.1.0, f status h.1.0 h.1.1, h.1.2))

pub if_err : {T E : Type 0} (r : Result T E) (P Q : E → Type 0) → ((e : E) → P e → Q e) → IfErr r P → IfErr r Q
if_err (Ok x) P Q f h = tt
if_err (Err e) P Q f h = f e h

-- where nothing was written before
pub wrote_from : {X : Type 0} (written : X → Option (List ℕ)) (faults : X → ℕ) (a b : X) (new : Option (List ℕ)) (now : ℕ) (status : Status) (P : Status → List ℕ → Type 0)
    → b ≡ a → Wrote (written b) new (faults b) now status P → Wrote (written a) new (faults a) now status P
wrote_from written faults a b new now status P e h = subst (λ o. Wrote (written o) new (faults o) now status P) e h
