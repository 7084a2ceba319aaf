-- Lines, byte by byte.
use Rattle.std.proofs.Common.{◌≡◌, refl, sym, ap, ◌∙◌, ℕ, ◌+◌, ◌-◌, List, [], ◌∷◌, ◌++◌, Option, Bool, true, cond, ◌&&◌, arith, append_assoc, le-leb}
use Rattle.std.specs.Prelude.{ℤ, codes}
use Rattle.std.specs.Fmt.{decimal, signed_decimal}
use Rattle.std.proofs.lemmas.Bool.{and_from}
use Rattle.proof_tree.specs.Text.{place_text}
use Rattle.proof_tree.specs.declared.line.Line.TheVariants.{Prune}
use Rattle.proof_text.specs.declared.numeral.Counted.{Counted}
use Rattle.proof_text.specs.declared.numeral.Counted.TheVariants.{Start, Digits}
use Rattle.proof_text.specs.declared.numeral.CountedNext.TheVariants.{More as NumberMore, Done}
use Rattle.proof_text.specs.declared.numeral.Signed.{Signed}
use Rattle.proof_text.specs.declared.numeral.Signed.TheVariants.{Start as SignedStart, Zero, Positive, Negative}
use Rattle.proof_text.specs.declared.part_line.PartLine.TheVariants.{Constraint}
use Rattle.proof_text.specs.declared.part_line.PartNext.TheVariants.{More, Whole}
use Rattle.proof_text.specs.Numerals.{counted_owes, signed_owes, counted_text, CountedGoes}
use Rattle.proof_text.specs.PartLines.{FitsPart, PartGoes}
use Rattle.proof_text.specs.Running.{nests_within}
use Rattle.proof_text.specs.Standing.{owing, too_deep, chosen_standing}
use Rattle.proof_text.specs.Symbols.{Symbol}

pub counted_nests : (m most end : ℕ) (c : Counted) → nests_within m (counted_owes most end c) ≡ true
counted_nests m most end Start = refl
counted_nests m most end (Digits v) = refl

pub signed_nests : (m most end : ℕ) (c : Signed) → nests_within m (signed_owes most end c) ≡ true
signed_nests m most end SignedStart = refl
signed_nests m most end Zero = refl
signed_nests m most end (Positive c) = counted_nests m most end c
signed_nests m most end (Negative c) = counted_nests m most end c

-- the bytes of a removal of refuted values, up to its end
prune_bytes : (p x s low high y d n e : List ℕ) → d ≡ y → e ≡ n → p ++ x ++ s ++ (low ++ s ++ high) ++ s ++ y ++ n ≡ (p ++ (x ++ (s ++ (low ++ (s ++ (high ++ (s ++ d))))))) ++ e
prune_bytes p x s low high y d n e f g = rw (f, g) (simp append_assoc)

-- the bytes of such a removal, with one more of its constraint
constraint_bytes : (p x s low high d e b : List ℕ) → e ≡ d ++ b → p ++ (x ++ (s ++ (low ++ (s ++ (high ++ (s ++ e)))))) ≡ (p ++ (x ++ (s ++ (low ++ (s ++ (high ++ (s ++ d))))))) ++ b
constraint_bytes p x s low high d e b f = rw f (simp append_assoc)

-- such a removal goes on with one more byte of its constraint
pub constraint_goes : (x : ℕ) (low high : ℤ) (c next : Counted) (b : ℕ) → FitsPart (Constraint x low high c) → CountedGoes 20000 10 c b (NumberMore next) → PartGoes (Constraint x low high c) b (More (Constraint x low high next))
constraint_goes x low high c next b f h = (
  λ later. ap (λ (o : Option (List Symbol)). chosen_standing o later) h.0 ∙ ap (λ (n : Bool). cond (n && true) (owing (counted_owes 20000 10 next ∷ later)) too_deep) (counted_nests 1000 20000 10 next),
  constraint_bytes (codes "p ") (place_text x) (codes " ") (signed_decimal low) (signed_decimal high) (counted_text c) (counted_text next) (b ∷ []) h.1,
  (h.2, f.1, f.2, f.3),
)

-- the byte after its constraint ends it
pub prune_ends : (x : ℕ) (low high : ℤ) (c : Counted) (b v : ℕ) → FitsPart (Constraint x low high c) → CountedGoes 20000 10 c b (Done v) → PartGoes (Constraint x low high c) b (Whole (Prune (record { 0 = x }) low high (record { 0 = v - 1 })))
prune_ends x low high c b v f h =
    let least = h.3 in
    let back : v - 1 + 1 ≡ v = omega arith in (
      λ later. ap (λ (o : Option (List Symbol)). chosen_standing o later) h.0,
      prune_bytes (codes "p ") (place_text x) (codes " ") (signed_decimal low) (signed_decimal high) (place_text (v - 1)) (counted_text c) (codes "\n") (b ∷ []) (h.2 ∙ ap decimal (sym back)) (ap (λ (k : ℕ). k ∷ []) h.1),
      and_from _ _ (and_from _ _ (and_from _ _ f.1 f.2) f.3) (le-leb (v - 1 + 1) 20000 (omega (arith, h.4))),
    )
