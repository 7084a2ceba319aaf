-- Numbers, digit by digit.
use Rattle.std.proofs.Common.{◌≡◌, refl, ap, ◌∙◌, ℕ, ◌+◌, ◌-◌, ◌*◌, ◌/◌, ◌%◌, ◌^◌, ◌≤◌, ◌<◌, List, [], ◌∷◌, ◌++◌, append_assoc, arith}
use Rattle.std.specs.Fmt.{decimal}
use Rattle.std.proofs.lemmas.Fmt.{decimal_step, decimal_by_steps}
use Rattle.std.proofs.lemmas.List.{append-nil}
use Rattle.proof_text.proofs.Grammar.{AreDigits, value}

pub value_grows : (v : ℕ) (ds : List ℕ) → v ≤ value v ds
value_grows v [] = omega arith
value_grows v (c ∷ cs) = let h = value_grows (10 * v + (c - 48)) cs in omega arith

value_append : (v : ℕ) (ds : List ℕ) (c : ℕ) → value v (ds ++ c ∷ []) ≡ 10 * value v ds + (c - 48)
value_append v [] c = refl
value_append v (d ∷ ds) c = value_append (10 * v + (d - 48)) ds c

digits_append : (ds : List ℕ) (c : ℕ) → AreDigits ds → 48 ≤ c → c ≤ 57 → AreDigits (ds ++ c ∷ [])
digits_append [] c h l g = (l, g, tt)
digits_append (d ∷ ds) c h l g = (h.0, h.1, digits_append ds c h.2 l g)

-- the first digit of a number that isn't 0, and the others
pub record Parts (n : ℕ) (text : List ℕ) : Type 0 where
  pub first : ℕ
  pub ds : List ℕ
  pub is : text ≡ first ∷ ds
  pub low : 49 ≤ first
  pub high : first ≤ 57
  pub are : AreDigits ds
  pub sum : value (first - 48) ds ≡ n

one_part : (n : ℕ) → n < 10 → 1 ≤ n → Parts n ((48 + n) ∷ [])
one_part n h l = record { first = 48 + n; ds = []; is = refl; low = omega arith; high = omega arith; are = tt; sum = omega arith }

more_parts : (n : ℕ) (ds : List ℕ) → 10 ≤ n → Parts (n / 10) ds → Parts n (ds ++ ((48 + n % 10) ∷ []))
more_parts n ds h p = record {
  first = p.first;
  ds = p.ds ++ (48 + n % 10) ∷ [];
  is = ap (λ (l : List ℕ). l ++ (48 + n % 10) ∷ []) p.is;
  low = p.low;
  high = p.high;
  are = digits_append p.ds (48 + n % 10) p.are (omega arith) (omega arith);
  sum = value_append (p.first - 48) p.ds (48 + n % 10) ∙ (let s = p.sum in omega arith);
}

pub parts : (n : ℕ) → n < 2 ^ 64 → 1 ≤ n → Parts n (decimal n)
parts n h = decimal_by_steps (λ n text. 1 ≤ n → Parts n text) (λ n lt l. one_part n lt l) (λ n ds h p l. more_parts n ds h (p (omega arith))) n h

pub decimal_value : (v : ℕ) (ds : List ℕ) → 1 ≤ v → AreDigits ds → value v ds < 2 ^ 64 → decimal (value v ds) ≡ decimal v ++ ds
decimal_value v [] l h lt = simp append-nil
decimal_value v (c ∷ cs) l h lt =
    let w : ℕ = 10 * v + (c - 48) in
    let low = h.0 in let high = h.1 in
    let grows = value_grows (10 * v + (c - 48)) cs in
    let step = decimal_step (10 * v + (c - 48)) (omega arith) (omega arith) in
    let front : (10 * v + (c - 48)) / 10 ≡ v = omega arith in
    let back : 48 + (10 * v + (c - 48)) % 10 ≡ c = omega arith in
    decimal_value (10 * v + (c - 48)) cs (omega arith) h.2 lt
    ∙ ap (λ (l : List ℕ). l ++ cs) (step ∙ ap (λ (x : ℕ). decimal x ++ (48 + (10 * v + (c - 48)) % 10) ∷ []) front ∙ ap (λ (x : ℕ). decimal v ++ x ∷ []) back)
    ∙ append_assoc (decimal v) (c ∷ []) cs
