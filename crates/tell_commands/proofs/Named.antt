-- Lines of variables with their values, one by one.
use Rattle.std.proofs.Common.{◌≡◌, ◌∙◌, ℕ, zero, suc, ◌<◌, ◌≤◌, List, [], ◌∷◌, ◌++◌, ℤ, length, drop, get_or, refl, sym, ap, arith, append_assoc}
use Rattle.std.specs.Prelude.{codes, min}
use Rattle.std.specs.Fmt.{signed_decimal}
use Rattle.qc_model.specs.declared.problem.Variable.{Variable}
use Rattle.tell_commands.specs.Opening.{named_lines}

abbrev pub named_line : Variable → ℤ → List ℕ
named_line x v = x.name ++ (codes " = " ++ (signed_decimal v ++ codes "\n"))

line_first : (x : Variable) (v : ℤ) (rest : List ℕ) → x.name ++ (codes " = " ++ (signed_decimal v ++ (codes "\n" ++ rest))) ≡ named_line x v ++ rest
line_first x v rest =
    ap (λ t. x.name ++ (codes " = " ++ t)) (sym (append_assoc (signed_decimal v) (codes "\n") rest))
    ∙ (ap (λ t. x.name ++ t) (sym (append_assoc (codes " = ") (signed_decimal v ++ codes "\n") rest))
    ∙ sym (append_assoc x.name (codes " = " ++ (signed_decimal v ++ codes "\n")) rest))

-- the line at a place, and those after it
pub named_at : (k : ℕ) (xs : List Variable) (vs : List ℤ) (x : Variable) (v u : ℤ) → k < length xs → k < length vs → x ≡ get_or xs k x → v ≡ get_or vs k u →
    named_lines (drop k xs) (drop k vs) ≡ named_line x v ++ named_lines (drop (suc k) xs) (drop (suc k) vs)
named_at k [] vs x v u l h e f = absurd (omega arith)
named_at k (y ∷ xs) [] x v u l h e f = absurd (omega arith)
named_at zero (y ∷ xs) (w ∷ vs) x v u l h e f =
    line_first y w (named_lines xs vs) ∙ (ap (λ z. named_line z w ++ named_lines xs vs) (sym e) ∙ ap (λ z. named_line x z ++ named_lines xs vs) (sym f))
named_at (suc k) (y ∷ xs) (w ∷ vs) x v u l h e f = named_at k xs vs x v u (omega arith) (omega arith) e f

-- no more lines where one of the lists is at its end
pub none_named : (k : ℕ) (xs : List Variable) (vs : List ℤ) → min (length xs) (length vs) ≤ k → named_lines (drop k xs) (drop k vs) ≡ []
none_named zero [] vs l = refl
none_named (suc k) [] vs l = refl
none_named zero (x ∷ xs) [] l = refl
none_named (suc k) (x ∷ xs) [] l = all_gone (drop k xs)
  where
    all_gone : (ys : List Variable) → named_lines ys [] ≡ []
    all_gone [] = refl
    all_gone (y ∷ ys) = refl
none_named zero (x ∷ xs) (v ∷ vs) l = absurd (omega arith)
none_named (suc k) (x ∷ xs) (v ∷ vs) l = none_named k xs vs (omega arith)
