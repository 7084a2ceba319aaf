-- Any bytes are the text of one certificate, or have one fault.
use Rattle.std.proofs.Common.{◌≡◌, ◌⊎◌, inl, inr, refl, sym, ap, ◌∙◌, subst, ℕ, ◌+◌, ◌-◌, ◌<◌, ◌≤◌, List, ◌++◌, length, take, drop, arith, append_assoc, take-append-drop}
use Rattle.std.proofs.lemmas.Bool.{cases_lt}
use Rattle.std.proofs.lemmas.List.{take-take}
use Rattle.proof_text.specs.declared.fault.CertFault.{CertFault}
use Rattle.proof_text.specs.declared.fault.CertFault.TheVariants.{NotACertificate, TooDeep, Memory}
use Rattle.proof_text.specs.Symbols.{start}
use Rattle.proof_text.specs.Running.{run, Verdict, whole, wrong, deep}
use Rattle.proof_text.specs.Places.{IsText, BeginsText, IsNotACertificate, IsTooDeep}
use Rattle.proof_text.specs.Laws.{HasFault}
use Rattle.proof_text.proofs.PlacesFound.{wrong_place, deep_place, no_wrong_text, no_deep_text}
use Rattle.proof_text.proofs.Standings.{whole_text}
use Rattle.proof_text.proofs.UniqueTrees.{one_certificate}

-- what reading comes to decides it
by_verdict : (bytes : List ℕ) (v : Verdict) → run start bytes ≡ v → IsText 1000 bytes ⊎ ((fault : CertFault) × HasFault fault bytes)
by_verdict bytes whole h = inl (whole_text bytes h)
by_verdict bytes (wrong left) h = inr (NotACertificate (length bytes - left), (wrong_place bytes left (length bytes - left) h refl, λ want. want))
by_verdict bytes (deep left) h = inr (TooDeep (length bytes - left), (deep_place bytes left (length bytes - left) h refl, λ want. want))

pub text_or_fault : (bytes : List ℕ) → IsText 1000 bytes ⊎ ((fault : CertFault) × HasFault fault bytes)
text_or_fault bytes = by_verdict bytes (run start bytes) refl

pub never_both : (bytes : List ℕ) (fault : CertFault) → IsText 1000 bytes → HasFault fault bytes → ⊥
never_both bytes (NotACertificate at) t h = no_wrong_text bytes at h.0 t
never_both bytes (TooDeep at) t h = no_deep_text bytes at h.0 t
never_both bytes (Memory e) t h = h.1 tt

pub one_of_texts : (bytes : List ℕ) (p q : IsText 1000 bytes) → (p.0 ≡ q.0) × (p.1 ≡ q.1) × (p.2 ≡ q.2) × (p.3 ≡ q.3)
one_of_texts bytes p q = one_certificate p.0 q.0 p.1 q.1 p.2 q.2 p.3 q.3 p.4 q.4 (sym p.6 ∙ q.6)

-- a shorter front of the bytes is a front of a longer one
parts_of_front : (bytes : List ℕ) (m n : ℕ) (rest : List ℕ) → m ≤ n → take n bytes ++ rest ≡ take m bytes ++ (drop m (take n bytes) ++ rest)
parts_of_front bytes m n rest le =
    ap (λ (l : List ℕ). l ++ rest) (sym (take-append-drop m (take n bytes)) ∙ ap (λ (l : List ℕ). l ++ drop m (take n bytes)) (take-take m n bytes le))
    ∙ append_assoc (take m bytes) (drop m (take n bytes)) rest

shorter_begins : (limit : ℕ) (bytes : List ℕ) (m n : ℕ) → m ≤ n → BeginsText limit (take n bytes) → BeginsText limit (take m bytes)
shorter_begins limit bytes m n le b = (drop m (take n bytes) ++ b.0, subst (IsText limit) (parts_of_front bytes m n b.0 le) b.1)

-- no fault comes before another: what stands before the later one begins a text
no_earlier_wrong : (bytes : List ℕ) (at later : ℕ) → IsNotACertificate at bytes → later ≤ length bytes → BeginsText 1000 (take later bytes) → at < later → ⊥
no_earlier_wrong bytes at later p within b lt = p.here (omega arith) 1000 (shorter_begins 1000 bytes (at + 1) later (omega arith) b)

no_earlier_deep : (bytes : List ℕ) (at later : ℕ) → IsTooDeep at bytes → BeginsText 1000 (take later bytes) → at < later → ⊥
no_earlier_deep bytes at later p b lt = p.deeper (shorter_begins 1000 bytes (at + 1) later (omega arith) b)

-- numbers of which neither is less
neither_less : (m n : ℕ) → (m < n → ⊥) → (n < m → ⊥) → m ≡ n
neither_less m n f g =
    elim (cases_lt m n) [
      | inl lt ↦ absurd (f lt)
      | inr le ↦ elim (cases_lt n m) [ inl lt ↦ absurd (g lt) | inr ge ↦ omega arith ]
    ]

one_wrong : (bytes : List ℕ) (a b : ℕ) → IsNotACertificate a bytes → IsNotACertificate b bytes → a ≡ b
one_wrong bytes a b p q = neither_less a b (no_earlier_wrong bytes a b p q.within q.before) (no_earlier_wrong bytes b a q p.within p.before)

one_deep : (bytes : List ℕ) (a b : ℕ) → IsTooDeep a bytes → IsTooDeep b bytes → a ≡ b
one_deep bytes a b p q = neither_less a b (no_earlier_deep bytes a b p q.before) (no_earlier_deep bytes b a q p.before)

-- where a line nests too deep, a text goes on
one_kind : (bytes : List ℕ) (a b : ℕ) → IsNotACertificate a bytes → IsTooDeep b bytes → ⊥
one_kind bytes a b p q =
    let within = q.within in
    let same : a ≡ b = neither_less a b (no_earlier_wrong bytes a b p (omega arith) q.before) (no_earlier_deep bytes b a q p.before) in
    p.here (omega arith) 1001 (subst (λ (at : ℕ). BeginsText 1001 (take (at + 1) bytes)) (sym same) q.opens)

pub one_of_faults : (bytes : List ℕ) (fault other : CertFault) → HasFault fault bytes → HasFault other bytes → fault ≡ other
one_of_faults bytes (NotACertificate a) (NotACertificate b) p q = ap NotACertificate (one_wrong bytes a b p.0 q.0)
one_of_faults bytes (NotACertificate a) (TooDeep b) p q = absurd (one_kind bytes a b p.0 q.0)
one_of_faults bytes (NotACertificate a) (Memory e) p q = absurd (q.1 tt)
one_of_faults bytes (TooDeep a) (NotACertificate b) p q = absurd (one_kind bytes b a q.0 p.0)
one_of_faults bytes (TooDeep a) (TooDeep b) p q = ap TooDeep (one_deep bytes a b p.0 q.0)
one_of_faults bytes (TooDeep a) (Memory e) p q = absurd (q.1 tt)
one_of_faults bytes (Memory e) (NotACertificate b) p q = absurd (p.1 tt)
one_of_faults bytes (Memory e) (TooDeep b) p q = absurd (p.1 tt)
one_of_faults bytes (Memory e) (Memory f) p q = absurd (p.1 tt)
