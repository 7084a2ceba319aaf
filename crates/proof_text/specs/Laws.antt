-- What any bytes are: the text of one certificate, or bytes with one fault.
use Rattle.std.specs.Prelude.{◌≡◌, ◌⊎◌, ℕ, List, [], ◌∷◌, ◌++◌}
use Rattle.proof_text.specs.declared.fault.CertFault.{CertFault}
use Rattle.proof_text.specs.declared.answer.Read.{Read}
use Rattle.proof_text.specs.declared.answer.Read.TheVariants.{Within, Head, Whole, TooDeep, Bad}
use Rattle.proof_text.specs.Answers.{Told, Says}
use Rattle.proof_text.specs.Places.{IsText, IsFault, IsWant}

-- the bytes have this fault: a kind and a place, as want of memory is no fault of bytes
abbrev pub HasFault : CertFault → List ℕ → Type 0
HasFault fault bytes = IsFault fault bytes × (IsWant fault → ⊥)

-- bytes are the text of a certificate that is nested at most 1,000 deep, or they have a fault ..
abbrev pub IsTextOrFault : Type 0
IsTextOrFault = (bytes : List ℕ) → IsText 1000 bytes ⊎ ((fault : CertFault) × HasFault fault bytes)

-- .. but never both ..
abbrev pub NeverBoth : Type 0
NeverBoth = (bytes : List ℕ) (fault : CertFault) → IsText 1000 bytes → HasFault fault bytes → ⊥

-- .. they are the text of one certificate: one version, outcome, optimum and tree ..
abbrev pub IsOneCertificate : Type 0
IsOneCertificate = (bytes : List ℕ) (p q : IsText 1000 bytes) → (p.0 ≡ q.0) × (p.1 ≡ q.1) × (p.2 ≡ q.2) × (p.3 ≡ q.3)

-- .. and they have one fault, of one kind at one place
abbrev pub IsOneFault : Type 0
IsOneFault = (bytes : List ℕ) (fault other : CertFault) → HasFault fault bytes → HasFault other bytes → fault ≡ other

-- after the bytes before it and what was told of them, a byte has one answer
abbrev pub IsOneAnswer : Type 0
IsOneAnswer = (bytes : List ℕ) (told : Told) (b : ℕ) (x y : Read) → Says bytes told b x → Says bytes told b y → x ≡ y

abbrev pub IsStop : Read → Type 0
IsStop Within = ⊥
IsStop (Head version outcome optimum) = ⊥
IsStop (Whole line) = ⊥
IsStop TooDeep = Unit {0}
IsStop Bad = Unit {0}

-- after `TooDeep` or `Bad` each byte is answered so
abbrev pub StaysStopped : Type 0
StaysStopped = (bytes : List ℕ) (told later : Told) (b c : ℕ) (x y : Read) → IsStop x → Says bytes told b x → Says (bytes ++ b ∷ []) later c y → y ≡ x
