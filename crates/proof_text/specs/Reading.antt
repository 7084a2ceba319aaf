-- What reading a part of a text says.
use Rattle.std.specs.Prelude.{ℕ, ◌≤◌, ◌≡◌, List, [], ◌∷◌, ◌++◌, length, Bool, IsTrue}
use Rattle.proof_text.specs.declared.part_fault.PartFault.{PartFault}
use Rattle.proof_text.specs.declared.part_fault.PartFault.TheVariants.{Wrong, Deep, Memory}
use Rattle.proof_text.specs.Symbols.{Symbol, byte, certificate, outcome, node, body, cases, ending, case, branches}
use Rattle.proof_tree.specs.declared.tree.Version.{Version}
use Rattle.proof_text.specs.Running.{run, wrong, deep}

-- what was owed was had, and the rest follows it
abbrev pub Passes : List Symbol → List ℕ → List ℕ → Type 0
Passes owed bytes rest = (k : List Symbol) → run (owed ++ k) bytes ≡ run k rest

-- it can't be had, whatever is owed after it
abbrev pub Fails : List Symbol → List ℕ → PartFault → Type 0
Fails owed bytes (Wrong left) = (k : List Symbol) → run (owed ++ k) bytes ≡ wrong left
Fails owed bytes (Deep left) = (k : List Symbol) → run (owed ++ k) bytes ≡ deep left
Fails owed bytes (Memory e) = Unit {0}

-- a version was read, and then come an outcome and a tree
abbrev pub PassesVersion : Version → List ℕ → List ℕ → Type 0
PassesVersion version bytes rest = (k : List Symbol) → run (certificate ∷ k) bytes ≡ run (outcome ∷ node version 0 ∷ k) rest

abbrev pub BeginsNot : ℕ → List ℕ → Type 0
BeginsNot letter bytes = (rest : List ℕ) → bytes ≡ letter ∷ rest → ⊥

-- steps were read, at whatever nesting, and then comes an end
abbrev pub PassesSteps : List ℕ → List ℕ → Type 0
PassesSteps bytes rest = (version : Version) (n : ℕ) → n ≤ 1000 → (k : List Symbol) → run (cases version n ∷ k) bytes ≡ run (ending version n ∷ k) rest

-- a step was read, and perhaps more come
abbrev pub GoesOn : List ℕ → List ℕ → Type 0
GoesOn bytes rest = (version : Version) (n : ℕ) → n ≤ 1000 → (k : List Symbol) → run (cases version n ∷ k) bytes ≡ run (cases version n ∷ k) rest

abbrev pub FailsSteps : List ℕ → PartFault → Type 0
FailsSteps bytes fault = (version : Version) (n : ℕ) → n ≤ 1000 → Fails (cases version n ∷ []) bytes fault

-- perhaps a horizon was read, and then comes a body
abbrev pub PassesHorizon : List ℕ → List ℕ → Type 0
PassesHorizon bytes rest = (version : Version) (n : ℕ) → n ≤ 1000 → (k : List Symbol) → run (node version n ∷ k) bytes ≡ run (body version n ∷ k) rest

abbrev pub FailsHorizon : List ℕ → PartFault → Type 0
FailsHorizon bytes fault = (version : Version) (n : ℕ) → n ≤ 1000 → Fails (node version n ∷ []) bytes fault

-- perhaps the line of a range was read, where the branch doesn't end, and then comes a case
abbrev pub PassesRange : Version → List ℕ → List ℕ → Type 0
PassesRange version bytes rest = BeginsNot 46 bytes → (n : ℕ) → n ≤ 1000 → (k : List Symbol) → run (branches version n ∷ k) bytes ≡ run (case version n ∷ branches version n ∷ k) rest

abbrev pub FailsRange : Version → List ℕ → PartFault → Type 0
FailsRange version bytes fault = (n : ℕ) → n ≤ 1000 → Fails (branches version n ∷ []) bytes fault

-- a case of a branch was read, and perhaps more come
abbrev pub PassesCase : Version → ℕ → List ℕ → List ℕ → Type 0
PassesCase version n bytes rest = (k : List Symbol) → run (branches version n ∷ k) bytes ≡ run (branches version n ∷ k) rest

-- the end of a branch comes
abbrev pub EndsCases : Version → ℕ → List ℕ → Type 0
EndsCases version n bytes = (k : List Symbol) → run (branches version n ∷ k) bytes ≡ run (byte 46 ∷ byte 10 ∷ k) bytes

-- the bytes begin with this text, whose numbers fit and which nests so deep
abbrev pub Spells : List ℕ → Bool → ℕ → List ℕ → List ℕ → Type 0
Spells text fits depth bytes rest = (bytes ≡ text ++ rest) × IsTrue fits × (depth ≤ 1000) × (length rest ≤ length bytes)

-- reading what is owed stops so
abbrev pub Stops : List Symbol → List ℕ → PartFault → Type 0
Stops owed bytes (Wrong left) = run owed bytes ≡ wrong left
Stops owed bytes (Deep left) = run owed bytes ≡ deep left
Stops owed bytes (Memory e) = Unit {0}
