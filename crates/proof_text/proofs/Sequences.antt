-- Reading a part, and then the next.
use Rattle.std.proofs.Common.{◌≡◌, true, refl, sym, ap, ◌∙◌, ℕ, ◌+◌, ◌-◌, ◌*◌, ◌^◌, ◌≤◌, ◌<◌, List, [], ◌∷◌, ◌++◌, take, drop, get_or, length, Result, Ok, Err, arith, add-one, append_assoc, false}
use Rattle.std.proofs.Math.Seq.{drop-cons}
use Rattle.std.proofs.lemmas.Bool.{ne_eqb}
use Rattle.proof_text.specs.declared.part_fault.PartFault.{PartFault}
use Rattle.proof_text.specs.declared.part_fault.PartFault.TheVariants.{Wrong, Deep, Memory}
use Rattle.proof_text.specs.Symbols.{Symbol, byte, bytes, number, signed, digits}
use Rattle.proof_text.specs.Running.{run, wrong}
use Rattle.proof_text.specs.Reading.{Passes, Fails}
use Rattle.std.proofs.lemmas.Bool.Decides.{nat_tests}
use Rattle.std.specs.Prelude.{IfOk, ◌==◌}
use Rattle.std.specs.Fmt.{decimal}
use Rattle.std.proofs.lemmas.Fmt.{decimal_digit}
use Rattle.std.proofs.lemmas.List.{take_more}
use Rattle.proof_text.proofs.Digits.{decimal_value}
use Rattle.proof_text.proofs.Numbers.{next_is, first_is, plain_digit}

-- what is owed here comes down to what is owed there
abbrev pub Leads : List Symbol → List ℕ → List Symbol → List ℕ → Type 0
Leads ss bytes ts rest = (k : List Symbol) → (l : List Symbol) × (run (ss ++ k) bytes ≡ run (ts ++ l) rest)

pub fails_by : (ss ts : List Symbol) (bytes rest : List ℕ) (fault : PartFault) → Leads ss bytes ts rest → Fails ts rest fault → Fails ss bytes fault
fails_by ss ts bytes rest (Wrong left) h g = λ k. let r = h k in r.1 ∙ g r.0
fails_by ss ts bytes rest (Deep left) h g = λ k. let r = h k in r.1 ∙ g r.0
fails_by ss ts bytes rest (Memory e) h g = tt

first_of_rest : (wanted : List ℕ) (i : ℕ) → i < length wanted → drop i wanted ≡ get_or wanted i 0 ∷ drop (i + 1) wanted
first_of_rest wanted i lt = rw (add-one, drop-cons wanted i 0) refl

pub literal_leads : (wanted text rest : List ℕ) (i : ℕ) → i < length wanted → ((k : List Symbol) → run (bytes wanted ++ k) text ≡ run (bytes (drop i wanted) ++ k) rest) → Leads (bytes wanted) text (byte (get_or wanted i 0) ∷ []) rest
literal_leads wanted text rest i lt h = λ k. (bytes (drop (i + 1) wanted) ++ k, h k ∙ ap (λ (d : List ℕ). run (bytes d ++ k) rest) (first_of_rest wanted i lt))

pub literal_told : (wanted text rest more : List ℕ) (i : ℕ) → i < length wanted → take i wanted ++ rest ≡ text → rest ≡ get_or wanted i 0 ∷ more → take (i + 1) wanted ++ more ≡ text
literal_told wanted text rest more i lt h e = rw (take_more wanted i 0 lt) (append_assoc (take i wanted) (get_or wanted i 0 ∷ []) more ∙ ap (λ (l : List ℕ). take i wanted ++ l) (sym e) ∙ h)

pub literal_goes : (wanted text rest more : List ℕ) (i : ℕ) → i < length wanted → ((k : List Symbol) → run (bytes wanted ++ k) text ≡ run (bytes (drop i wanted) ++ k) rest) → Passes (byte (get_or wanted i 0) ∷ []) rest more
    → (k : List Symbol) → run (bytes wanted ++ k) text ≡ run (bytes (drop (i + 1) wanted) ++ k) more
unfolding literal_leads
literal_goes wanted text rest more i lt h p = λ k. (literal_leads wanted text rest i lt h k).1 ∙ p (bytes (drop (i + 1) wanted) ++ k)

-- one more digit
pub digit_goes : (most v w end c : ℕ) (rest more : List ℕ) (k : List Symbol) → rest ≡ c ∷ more → (c ≡ end → ⊥) → 48 ≤ c → c ≤ 57 → w ≡ 10 * v + (c - 48) → w ≤ most → run (digits most v end ∷ k) rest ≡ run (digits most w end ∷ k) more
digit_goes most v w end c rest more k is ne low high sum le =
    let le2 : 10 * v + (c - 48) ≤ most = omega arith in
    rw (is, sum, ne_eqb c end ne, next_is most v end c low high le2) refl

pub digit_told : (v w c : ℕ) (rest more front : List ℕ) → rest ≡ c ∷ more → 1 ≤ v → 48 ≤ c → c ≤ 57 → w ≡ 10 * v + (c - 48) → w < 2 ^ 64 → decimal v ++ rest ≡ front → decimal w ++ more ≡ front
digit_told v w c rest more front is one low high sum lt h =
    let lt2 : 10 * v + (c - 48) < 2 ^ 64 = omega arith in
    rw (sum, decimal_value v (c ∷ []) one (low, high, tt) lt2) (append_assoc (decimal v) (c ∷ []) more ∙ ap (λ (l : List ℕ). decimal v ++ l) (sym is) ∙ h)

pub if_ok : {X : Type 0} (P Q : X → Type 0) (r : Result X PartFault) → ((x : X) → P x → Q x) → IfOk r P → IfOk r Q
if_ok P Q (Ok x) f h = f x h
if_ok P Q (Err e) f h = tt

pub first_goes : (most end c v : ℕ) (text rest : List ℕ) (k : List Symbol) → text ≡ c ∷ rest → 49 ≤ c → c ≤ 57 → 9 ≤ most → v ≡ c - 48 → run (number most end ∷ k) text ≡ run (digits most v end ∷ k) rest
first_goes most end c v text rest k is low high le e =
    let within : c - 48 ≤ most = omega arith in
    rw (is, e, first_is most end c low high within) refl

pub first_told : (c v n end : ℕ) (text rest more : List ℕ) → text ≡ c ∷ rest → 49 ≤ c → c ≤ 57 → v ≡ c - 48 → decimal v ++ rest ≡ decimal n ++ end ∷ more → text ≡ decimal n ++ end ∷ more
first_told c v n end text rest more is low high e h =
    let back : 48 + (c - 48) ≡ c = omega arith in
    let one : decimal v ≡ c ∷ [] = ap decimal e ∙ decimal_digit (c - 48) (omega arith) ∙ ap (λ (x : ℕ). x ∷ []) back in
    is ∙ ap (λ (l : List ℕ). l ++ rest) (sym one) ∙ h

-- a positive number that may have a sign
pub plain_goes : (most end c : ℕ) (text rest : List ℕ) (k : List Symbol) → text ≡ c ∷ rest → 49 ≤ c → run (signed most end ∷ k) text ≡ run (number most end ∷ k) text
plain_goes most end c text rest k is low = rw (is, plain_digit most end c low) refl

pub zero_goes : (most end c : ℕ) (text rest : List ℕ) (k : List Symbol) → text ≡ c ∷ rest → c ≡ 48 → run (signed most end ∷ k) text ≡ run (byte end ∷ k) rest
zero_goes most end c text rest k is e = rw (is, e) refl

pub zero_told : (end c : ℕ) (text rest more : List ℕ) → text ≡ c ∷ rest → c ≡ 48 → rest ≡ end ∷ more → text ≡ decimal 0 ++ end ∷ more
zero_told end c text rest more is e f = is ∙ rw (e, f) (ap (λ (l : List ℕ). l ++ end ∷ more) (sym (decimal_digit 0 (omega arith))))

-- nothing is owed, and more bytes are there
pub too_long : (rest : List ℕ) → false ≡ (length rest == 0) → run [] rest ≡ wrong (length rest)
too_long [] h = absurd (cc)
too_long (c ∷ rest) h = refl

pub none_left : (rest : List ℕ) → true ≡ (length rest == 0) → rest ≡ []
none_left [] h = refl
none_left (c ∷ rest) h = absurd (grind (arith, nat_tests))
