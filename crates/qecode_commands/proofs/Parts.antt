-- Parts of a text that were gathered and handed on.
use Rattle.std.proofs.Common.{◌≡◌, ℕ, List, [], ◌++◌, Option, Result, Ok, Err, OnOk, OnErr, append-nil, subst, sym}
use Rattle.qc_io.specs.Sink.{AppendsPrefix, Moves}
use Rattle.std.specs.Io.KnownBytes.{Appends}
use Rattle.qc_io.proofs.Known.{Appends-append, prefix_then}

-- nothing was held before the first part
pub first_part : (a b : Option (List ℕ)) (held before front : List ℕ) → before ≡ [] → Moves a b held (before ++ front) → Moves a b held front
first_part a b held before front e h = subst (λ p. Moves a b held (p ++ front)) e h

pub first_fault : (a b : Option (List ℕ)) (before front : List ℕ) → before ≡ [] → AppendsPrefix a b (before ++ front) → AppendsPrefix a b front
first_fault a b before front e h = subst (λ p. AppendsPrefix a b (p ++ front)) e h

-- what was held at the end was written
pub moves_end : (a b c : Option (List ℕ)) (all held : List ℕ) → Moves a b held all → Appends b c held → Appends a c all
moves_end a b c all held (xs, first, e) h = subst (Appends a c) e (Appends-append a b c xs held first h)

-- a prefix of what was held goes on with what was handed on before
pub prefix_rest : (a b c : Option (List ℕ)) (all held : List ℕ) → Moves a b held all → AppendsPrefix b c held → AppendsPrefix a c all
prefix_rest a b c all held moved h =
    subst (AppendsPrefix a c) (append-nil all) (prefix_then a b c all held [] moved (subst (AppendsPrefix b c) (sym (append-nil held)) h))
