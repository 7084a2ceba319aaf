-- Lines that are read whole: their bytes, one after the other, are what the line owes.
use Rattle.std.proofs.Common.{◌≡◌, refl, sym, ap, ◌∙◌, subst, ℕ, zero, suc, ◌+◌, ◌-◌, ◌*◌, ◌^◌, ◌≤◌, ◌<◌, List, [], ◌∷◌, ◌++◌, length, Option, Some, None, Bool, cond, arith, append_assoc, append-nil, length-append, leb-true, le-leb}
use Rattle.std.specs.Prelude.{IsTrue, ℤ, pos, negsuc, nat_le, unsigned_abs}
use Rattle.std.specs.Fmt.{decimal, signed_decimal}
use Rattle.std.proofs.lemmas.Bool.{eq-eqb, ne_eqb, and_from}
use Rattle.std.proofs.lemmas.Fmt.{decimal_digit}
use Rattle.std.proofs.Math.Seq.{take-append_seam}
use Rattle.qc_model.specs.Valid.{is_number}
use Rattle.qc_model.specs.declared.problem.VarId.{VarId}
use Rattle.qc_model.specs.declared.problem.ConId.{ConId}
use Rattle.proof_tree.specs.declared.line.Line.{Line}
use Rattle.proof_tree.specs.declared.line.Line.TheVariants.{Horizon as HorizonLine, Prune as PruneLine, Bound as BoundLine, Dot, Stuck, Goal, Empty, Barred, Next as NextLine, Branch as BranchLine, Skip, Open, Range as RangeLine}
use Rattle.proof_tree.specs.declared.tree.Step.TheVariants.{Prune as PruneStep, Bound as BoundStep}
use Rattle.proof_tree.specs.Text.{line_text, is_place}
use Rattle.proof_text.specs.declared.part_line.Kind.TheVariants.{Horizon as HorizonKind, Branch as BranchKind, Range as RangeKind, Prune as PruneKind, Bound as BoundKind}
use Rattle.proof_text.specs.declared.part_line.PartLine.TheVariants.{Letter}
use Rattle.proof_text.specs.PartLines.{ReadsPart}
use Rattle.proof_text.specs.Symbols.{Symbol, byte, number, signed, digits, next_digit}
use Rattle.proof_text.specs.Standing.{owing, chosen_standing, standing_from}
use Rattle.proof_text.specs.Answers.{BeginsLine}
use Rattle.proof_text.proofs.Grammar.{AreDigits, value}
use Rattle.proof_text.proofs.Digits.{parts, value_grows}
use Rattle.proof_text.proofs.Forward.{rest_of_step, step_is}
use Rattle.proof_text.proofs.Numbers.{first_is, next_is, plain_digit}
use Rattle.proof_text.proofs.StepLines.{prune_told}

-- digits, and the byte after them
digits_read : (most v end : ℕ) (ds b : List ℕ) (later : List Symbol) → AreDigits ds → value v ds ≤ most → end < 48 → standing_from (owing (digits most v end ∷ later)) (ds ++ end ∷ b) ≡ standing_from (owing later) b
digits_read most v end [] b later a h g = ap (λ (t : Bool). standing_from (chosen_standing (cond t (Some []) (next_digit most v end end)) later) b) (eq-eqb end end refl)
digits_read most v end (c ∷ cs) b later a h g =
    let low = a.0 in let high = a.1 in
    let grows = value_grows (10 * v + (c - 48)) cs in
    ap (λ (t : Bool). standing_from (chosen_standing (cond t (Some []) (next_digit most v end c)) later) (cs ++ end ∷ b)) (ne_eqb c end (λ e. omega arith))
    ∙ ap (λ (o : Option (List Symbol)). standing_from (chosen_standing o later) (cs ++ end ∷ b)) (next_is most v end c low high (omega arith))
    ∙ digits_read most (10 * v + (c - 48)) end cs b later a.2 h g

number_read : (most end n : ℕ) (b : List ℕ) (later : List Symbol) → 1 ≤ n → n ≤ most → most ≤ 2 ^ 62 → end < 48 → standing_from (owing (number most end ∷ later)) (decimal n ++ end ∷ b) ≡ standing_from (owing later) b
number_read most end n b later l h g k =
    let p = parts n (omega arith) l in
    let grows = value_grows (p.first - 48) p.ds in
    let sum = p.sum in
    ap (λ (t : List ℕ). standing_from (owing (number most end ∷ later)) (t ++ end ∷ b)) p.is
    ∙ ap (λ (o : Option (List Symbol)). standing_from (chosen_standing o later) (p.ds ++ end ∷ b)) (first_is most end p.first p.low p.high (omega arith))
    ∙ digits_read most (p.first - 48) end p.ds b later p.are (subst (λ (x : ℕ). x ≤ most) (sym sum) h) k

-- a number that isn't 0 has no sign
plain_read : (most end n : ℕ) (b : List ℕ) (later : List Symbol) → 1 ≤ n → n < 2 ^ 64 → standing_from (owing (signed most end ∷ later)) (decimal n ++ end ∷ b) ≡ standing_from (owing (number most end ∷ later)) (decimal n ++ end ∷ b)
plain_read most end n b later l h =
    let p = parts n h l in
    ap (λ (t : List ℕ). standing_from (owing (signed most end ∷ later)) (t ++ end ∷ b)) p.is
    ∙ ap (λ (o : Option (List Symbol)). standing_from (chosen_standing o later) (p.ds ++ end ∷ b)) (plain_digit most end p.first p.low)
    ∙ ap (λ (t : List ℕ). standing_from (owing (number most end ∷ later)) (t ++ end ∷ b)) (sym p.is)

end_read : (end : ℕ) (b : List ℕ) (later : List Symbol) → standing_from (owing (byte end ∷ later)) (end ∷ b) ≡ standing_from (owing later) b
end_read end b later = ap (λ (t : Bool). standing_from (chosen_standing (cond t (Some []) None) later) b) (eq-eqb end end refl)

signed_read : (most end : ℕ) (z : ℤ) (b : List ℕ) (later : List Symbol) → IsTrue (nat_le (unsigned_abs z) most) → most ≤ 2 ^ 62 → end < 48 → standing_from (owing (signed most end ∷ later)) (signed_decimal z ++ end ∷ b) ≡ standing_from (owing later) b
signed_read most end (pos zero) b later f g k = ap (λ (t : List ℕ). standing_from (owing (signed most end ∷ later)) (t ++ end ∷ b)) (decimal_digit 0 (omega arith)) ∙ end_read end b later
signed_read most end (pos (suc n)) b later f g k =
    let within = leb-true _ _ f in
    plain_read most end (suc n) b later (omega arith) (omega arith) ∙ number_read most end (suc n) b later (omega arith) within g k
signed_read most end (negsuc n) b later f g k = number_read most end (suc n) b later (omega arith) (leb-true _ _ f) g k

-- the rest of a line after its letter is what is owed there, and other bytes may follow
ends_with : (x rest : List ℕ) → x ++ 10 ∷ rest ≡ (x ++ 10 ∷ []) ++ rest
ends_with x rest = sym (append_assoc x (10 ∷ []) rest)

pub horizon_reads : (n : ℕ) (text mid rest : List ℕ) → text ≡ 32 ∷ mid → mid ≡ decimal n ++ 10 ∷ rest → 1 ≤ n → n ≤ 65 → ReadsPart (Letter HorizonKind) text (HorizonLine n) rest
horizon_reads n text mid rest e f l h = (
  ap (λ (t : List ℕ). 104 ∷ t) e ∙ ap (λ (t : List ℕ). 104 ∷ 32 ∷ t) (f ∙ ends_with (decimal n) rest),
  (
    32 ∷ (decimal n ++ 10 ∷ []),
    refl,
    λ later. number_read 65 10 n [] later l h (omega arith) (omega arith),
    and_from _ _ (le-leb 1 n l) (le-leb n 65 h),
  ),
)

pub branch_reads : (x : ℕ) (text mid rest : List ℕ) → text ≡ 32 ∷ mid → mid ≡ decimal (x + 1) ++ 10 ∷ rest → IsTrue (is_place 500 x) → ReadsPart (Letter BranchKind) text (BranchLine (record { 0 = x })) rest
branch_reads x text mid rest e f h = (
  ap (λ (t : List ℕ). 118 ∷ t) e ∙ ap (λ (t : List ℕ). 118 ∷ 32 ∷ t) (f ∙ ends_with (decimal (x + 1)) rest),
  (
    32 ∷ (decimal (x + 1) ++ 10 ∷ []),
    refl,
    λ later. number_read 500 10 (x + 1) [] later (omega arith) (leb-true _ _ h) (omega arith) (omega arith),
    h,
  ),
)

pub range_reads : (high : ℤ) (text mid rest : List ℕ) → text ≡ 32 ∷ mid → mid ≡ signed_decimal high ++ 10 ∷ rest → IsTrue (is_number high) → ReadsPart (Letter RangeKind) text (RangeLine high) rest
range_reads high text mid rest e f h = (
  ap (λ (t : List ℕ). 114 ∷ t) e ∙ ap (λ (t : List ℕ). 114 ∷ 32 ∷ t) (f ∙ ends_with (signed_decimal high) rest),
  (
    32 ∷ (signed_decimal high ++ 10 ∷ []),
    refl,
    λ later. signed_read 1000000000 10 high [] later h (omega arith) (omega arith),
    h,
  ),
)

pub prune_reads : (x : VarId) (low high : ℤ) (c : ConId) (text mid rest : List ℕ) → text ≡ 32 ∷ (decimal (x.0 + 1) ++ 32 ∷ (signed_decimal low ++ 32 ∷ (signed_decimal high ++ 32 ∷ mid))) → mid ≡ decimal (c.0 + 1) ++ 10 ∷ rest
    → IsTrue (is_place 500 x.0) → IsTrue (is_number low) → IsTrue (is_number high) → IsTrue (is_place 20000 c.0) → ReadsPart (Letter PruneKind) text (PruneLine x low high c) rest
prune_reads x low high c text mid rest e f a l h k = (
  prune_told x low high c text mid rest e f,
  (
    rest_of_step (PruneStep x low high c) [],
    sym (append-nil (line_text (PruneLine x low high c))) ∙ step_is (PruneStep x low high c) [],
    λ later.
        number_read 500 32 (x.0 + 1) _ _ (omega arith) (leb-true _ _ a) (omega arith) (omega arith)
        ∙ signed_read 1000000000 32 low _ _ l (omega arith) (omega arith)
        ∙ signed_read 1000000000 32 high _ _ h (omega arith) (omega arith)
        ∙ number_read 20000 10 (c.0 + 1) [] later (omega arith) (leb-true _ _ k) (omega arith) (omega arith),
    and_from _ _ (and_from _ _ (and_from _ _ a l) h) k,
  ),
)

pub bound_reads : (x : VarId) (low high : ℤ) (text rest : List ℕ) → text ≡ 32 ∷ (decimal (x.0 + 1) ++ 32 ∷ (signed_decimal low ++ 32 ∷ (signed_decimal high ++ 10 ∷ rest)))
    → IsTrue (is_place 500 x.0) → IsTrue (is_number low) → IsTrue (is_number high) → ReadsPart (Letter BoundKind) text (BoundLine x low high) rest
bound_reads x low high text rest e a l h = (
  ap (λ (t : List ℕ). 98 ∷ t) e ∙ sym (step_is (BoundStep x low high) rest),
  (
    rest_of_step (BoundStep x low high) [],
    sym (append-nil (line_text (BoundLine x low high))) ∙ step_is (BoundStep x low high) [],
    λ later.
        number_read 500 32 (x.0 + 1) _ _ (omega arith) (leb-true _ _ a) (omega arith) (omega arith)
        ∙ signed_read 1000000000 32 low _ _ l (omega arith) (omega arith)
        ∙ signed_read 1000000000 10 high [] later h (omega arith) (omega arith),
    and_from _ _ (and_from _ _ a l) h,
  ),
)

-- how long a line is
some_bytes : (line : Line) → 0 < length (line_text line)
some_bytes (HorizonLine k) = omega arith
some_bytes (PruneLine x low high c) = omega arith
some_bytes (BoundLine x low high) = omega arith
some_bytes Dot = omega arith
some_bytes Stuck = omega arith
some_bytes Goal = omega arith
some_bytes Empty = omega arith
some_bytes Barred = omega arith
some_bytes NextLine = omega arith
some_bytes (BranchLine x) = omega arith
some_bytes Skip = omega arith
some_bytes Open = omega arith
some_bytes (RangeLine high) = omega arith

pub begins_line : (bytes rest : List ℕ) (line : Line) → bytes ≡ line_text line ++ rest → BeginsLine bytes line (length bytes - length rest)
begins_line bytes rest line e =
    let some = some_bytes line in
    let long : length bytes ≡ length (line_text line) + length rest = ap length e ∙ length-append (line_text line) rest in
    let size : length bytes - length rest ≡ length (line_text line) = omega arith in
    rw (size, e) (some, rw length-append (omega arith), take-append_seam (line_text line) rest)
