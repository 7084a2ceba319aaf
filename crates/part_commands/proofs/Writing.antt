-- A text that goes to a sink in two parts.
use Rattle.std.proofs.Common.{◌≡◌, ℕ, List, [], ◌++◌, Option, Result, Ok, Err, OnErr, sym, subst, append-nil}
use Rattle.qc_io.specs.Sink.{AppendsPrefix, Moves}
use Rattle.qc_io.proofs.Known.{prefix_then}

pub first_part : (a b : Option (List ℕ)) (held before front : List ℕ) → before ≡ [] → Moves a b held (before ++ front) → Moves a b held front
first_part a b held before front e h = subst (λ p. Moves a b held (p ++ front)) e h

pub prefix_rest : (a b c : Option (List ℕ)) (all held : List ℕ) → Moves a b held all → AppendsPrefix b c held → AppendsPrefix a c all
prefix_rest a b c all held moved h =
    subst (AppendsPrefix a c) (append-nil all) (prefix_then a b c all held [] moved (subst (AppendsPrefix b c) (sym (append-nil held)) h))
