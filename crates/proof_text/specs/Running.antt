-- Reading bytes against what they owe.
use Rattle.std.specs.Prelude.{ℕ, suc, nat_le, Bool, true, cond, List, [], ◌∷◌, ◌++◌, length, Option, Some, None}
use Rattle.std.specs.List.{list_all}
use Rattle.proof_text.specs.Symbols.{Symbol, byte, number, signed, digits, certificate, outcome, optimum, prunes, node, body, cases, ending, case, branches, after}

-- the nesting at the symbol's place is within the limit
abbrev pub nests_within : ℕ → Symbol → Bool
nests_within limit (byte c) = true
nests_within limit (number most end) = true
nests_within limit (signed most end) = true
nests_within limit (digits most value end) = true
nests_within limit certificate = true
nests_within limit outcome = true
nests_within limit optimum = true
nests_within limit prunes = true
nests_within limit (node version n) = nat_le n limit
nests_within limit (body version n) = nat_le n limit
nests_within limit (cases version n) = nat_le n limit
nests_within limit (ending version n) = nat_le n limit
nests_within limit (case version n) = nat_le n limit
nests_within limit (branches version n) = nat_le n limit

-- how reading ends, with the number of bytes from the place on
pub data Verdict : Type 0 where
  whole : Verdict
  wrong : ℕ → Verdict
  deep : ℕ → Verdict

-- reads on where a byte leaves something that may be owed
abbrev pub onward : Option (List Symbol) → (List Symbol → Verdict) → ℕ → Verdict
onward None next left = wrong left
onward (Some owed) next left = cond (list_all (nests_within 1000) owed) (next owed) (deep left)

abbrev pub run : List Symbol → List ℕ → Verdict
run [] [] = whole
run (s ∷ owed) [] = wrong 0
run [] (b ∷ bs) = wrong (suc (length bs))
run (s ∷ owed) (b ∷ bs) = onward (after s b) (λ more. run (more ++ owed) bs) (suc (length bs))
