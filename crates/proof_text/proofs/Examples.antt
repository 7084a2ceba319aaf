-- Worked cases of reading.
use Rattle.std.proofs.Common.{◌≡◌, refl, []}
use Rattle.std.specs.Prelude.{codes}
use Rattle.proof_text.specs.Symbols.{start}
use Rattle.proof_text.specs.Running.{run, whole, wrong}

empty_file : run start [] ≡ wrong 0
empty_file = refl

leading_zero : run start (codes "qcert 1\nfalse\nv 01\n") ≡ wrong 3
leading_zero = refl

smallest : run start (codes "qcert 1\nfalse\nt\n") ≡ whole
smallest = refl

line_after_the_end : run start (codes "qcert 1\nfalse\nt\ng\n") ≡ wrong 2
line_after_the_end = refl

-- the line of a range, in the second version alone
range : run start (codes "qcert 2\ntrue\nv 1\nn\ng\nr 9\ns\n.\n") ≡ whole
range = refl

no_range : run start (codes "qcert 1\ntrue\nv 1\nn\ng\nr 9\ns\n.\n") ≡ wrong 8
no_range = refl
