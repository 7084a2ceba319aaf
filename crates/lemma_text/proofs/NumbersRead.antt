-- Numbers are read whole.
use Rattle.std.proofs.Common.{◌≡◌, refl, sym, ap, ◌∙◌, subst, ℕ, zero, suc, ◌+◌, ◌-◌, ◌*◌, ◌^◌, ◌≤◌, ◌<◌, List, [], ◌∷◌, ◌++◌, Bool, true, false, ◌||◌, cond, arith, leb-true, le-leb}
use Rattle.std.specs.Prelude.{ℤ, pos, negsuc, nat_le, nat_eq}
use Rattle.std.specs.Fmt.{decimal, signed_decimal}
use Rattle.std.proofs.lemmas.Fmt.{decimal_digit}
use Rattle.std.proofs.lemmas.Bool.{and_from, ne_eqb}
use Rattle.proof_text.proofs.Grammar.{AreDigits, value}
use Rattle.proof_text.proofs.Digits.{parts, value_grows}
use Rattle.lemma_text.specs.declared.item.Item.{Item}
use Rattle.lemma_text.specs.declared.parts.Field.{Field}
use Rattle.lemma_text.specs.declared.parts.Field.TheVariants.{Variable, Constraint, Named, Scope, Node, Turns, Value, Total}
use Rattle.lemma_text.specs.declared.parts.Form.{Form}
use Rattle.lemma_text.specs.declared.parts.Numeral.{Numeral}
use Rattle.lemma_text.specs.declared.parts.Numeral.TheVariants.{Start, Minus, Zero, Digits}
use Rattle.lemma_text.specs.Numerals.{most, is_signed, value_fits, Reading, further, ended, bad, finished, first_digit, next_digit, first_sign, continued, reading}
use Rattle.lemma_text.specs.States.{number, valued, read_by}
use Rattle.lemma_text.specs.Standing.{Standing, going, moved, standing_from}

pub most_is_small : (g : Field) → (1 ≤ most g) × (most g < 2 ^ 64)
most_is_small Variable = (omega arith, omega arith)
most_is_small Constraint = (omega arith, omega arith)
most_is_small Named = (omega arith, omega arith)
most_is_small Scope = (omega arith, omega arith)
most_is_small Node = (omega arith, omega arith)
most_is_small Turns = (omega arith, omega arith)
most_is_small Value = (omega arith, omega arith)
most_is_small Total = (omega arith, omega arith)

-- a byte from 45 on ends no number
goes_on : (g : Field) (n : Numeral) (b : ℕ) → 33 ≤ b → reading g n b ≡ continued g n b
goes_on g n b h = rw (ne_eqb b 32 (λ e. omega arith), ne_eqb b 10 (λ e. omega arith)) refl

first_is : (negative : Bool) (b : ℕ) → 49 ≤ b → b ≤ 57 → first_digit negative b ≡ further (Digits negative (b - 48))
first_is negative b l h = ap (λ (t : Bool). cond t (further (Digits negative (b - 48))) bad) (and_from _ _ (le-leb 49 b l) (le-leb b 57 h))

next_is : (g : Field) (negative : Bool) (v b : ℕ) → 48 ≤ b → b ≤ 57 → 10 * v + (b - 48) ≤ most g → next_digit g negative v b ≡ further (Digits negative (10 * v + (b - 48)))
next_is g negative v b l h m =
    ap (λ (t : Bool). cond t (further (Digits negative (10 * v + (b - 48)))) bad) (and_from _ _ (and_from _ _ (le-leb 48 b l) (le-leb b 57 h)) (le-leb (10 * v + (b - 48)) (most g) m))

plain_first : (b : ℕ) → 49 ≤ b → first_sign b ≡ first_digit false b
plain_first b l = rw (ne_eqb b 45 (λ e. omega arith), ne_eqb b 48 (λ e. omega arith)) refl

either_first : (s : Bool) (b : ℕ) → 49 ≤ b → cond s (first_sign b) (first_digit false b) ≡ first_digit false b
either_first true b l = plain_first b l
either_first false b l = refl

-- what is made of the bytes from some of a number of the field on: `run` of what is read so far, and `done` of the whole number and
-- the byte that ends it
pub record Runs (X : Type 0) (g : Field) (run : Numeral → List ℕ → X) (done : ℤ → ℕ → List ℕ → X) : Type 0 where
  pub more : (n m : Numeral) (b : ℕ) (w : List ℕ) → reading g n b ≡ further m → run n (b ∷ w) ≡ run m w
  pub ends : (n : Numeral) (z : ℤ) (b : ℕ) (w : List ℕ) → reading g n b ≡ ended z → run n (b ∷ w) ≡ done z b w

digits_run : (X : Type 0) (g : Field) (run : Numeral → List ℕ → X) (done : ℤ → ℕ → List ℕ → X) → Runs X g run done → (negative : Bool) (v : ℕ) (ds w : List ℕ) → AreDigits ds → value v ds ≤ most g
    → run (Digits negative v) (ds ++ w) ≡ run (Digits negative (value v ds)) w
digits_run X g run done r negative v [] w a h = refl
digits_run X g run done r negative v (c ∷ cs) w a h =
    let low = a.0 in let high = a.1 in
    let grows = value_grows (10 * v + (c - 48)) cs in
    r.more (Digits negative v) (Digits negative (10 * v + (c - 48))) c (cs ++ w) (goes_on g (Digits negative v) c (omega arith) ∙ next_is g negative v c low high (omega arith))
    ∙ digits_run X g run done r negative (10 * v + (c - 48)) cs w a.2 h

-- the digits of a number that isn't 0, after what comes before them
count_run : (X : Type 0) (g : Field) (run : Numeral → List ℕ → X) (done : ℤ → ℕ → List ℕ → X) → Runs X g run done → (from : Numeral) (negative : Bool) (k : ℕ) (w : List ℕ) → suc k ≤ most g
    → ((b : ℕ) → 49 ≤ b → continued g from b ≡ first_digit negative b) → run from (decimal (suc k) ++ w) ≡ run (Digits negative (suc k)) w
count_run X g run done r from negative k w h begins =
    let m = (most_is_small g).1 in
    let p = parts (suc k) (omega arith) (omega arith) in
    let low = p.low in let high = p.high in let sum = p.sum in
    let within : value (p.first - 48) p.ds ≤ most g = subst (λ (x : ℕ). x ≤ most g) (sym p.sum) h in
    ap (λ (u : List ℕ). run from (u ++ w)) p.is
    ∙ r.more from (Digits negative (p.first - 48)) p.first (p.ds ++ w) (goes_on g from p.first (omega arith) ∙ begins p.first low ∙ first_is negative p.first low high)
    ∙ digits_run X g run done r negative (p.first - 48) p.ds w p.are within
    ∙ ap (λ (x : ℕ). run (Digits negative x) w) p.sum

-- the byte that ends a number
end_read : (g : Field) (n : Numeral) (z : ℤ) (b : ℕ) → (nat_eq b 32 || nat_eq b 10) ≡ true → finished n ≡ ended z → reading g n b ≡ ended z
end_read g n z b e is = ap (λ (t : Bool). cond t (finished n) (continued g n b)) e ∙ is

-- a number and the byte that ends it, whatever is made of them
pub number_run : (X : Type 0) (g : Field) (run : Numeral → List ℕ → X) (done : ℤ → ℕ → List ℕ → X) → Runs X g run done → (z : ℤ) (b : ℕ) (w : List ℕ) → value_fits g z ≡ true → (nat_eq b 32 || nat_eq b 10) ≡ true
    → run Start (signed_decimal z ++ b ∷ w) ≡ done z b w
number_run X g run done r z b w h e = by_sign (is_signed g) refl z h
  where
    start_signed : is_signed g ≡ true → (c : ℕ) → continued g Start c ≡ first_sign c
    start_signed s c = ap (λ (t : Bool). cond t (first_sign c) (first_digit false c)) s

    by_sign : (s : Bool) → is_signed g ≡ s → (z : ℤ) → value_fits g z ≡ true → run Start (signed_decimal z ++ b ∷ w) ≡ done z b w
    by_sign true s (pos zero) h =
        ap (λ (u : List ℕ). run Start (u ++ b ∷ w)) (decimal_digit 0 (omega arith))
        ∙ r.more Start Zero 48 (b ∷ w) (start_signed s 48)
        ∙ r.ends Zero (pos zero) b w (end_read g Zero (pos zero) b e refl)
    by_sign false s (pos zero) h =
        let no : cond false (nat_le 0 (most g)) false ≡ true = sym (ap (λ (t : Bool). cond t (nat_le 0 (most g)) false) s) ∙ h in
        absurd (cc)
    by_sign true s (pos (suc k)) h =
        let fits : nat_le (suc k) (most g) ≡ true = sym (ap (λ (t : Bool). cond t (nat_le (suc k) (most g)) (nat_le (suc k) (most g))) s) ∙ h in
        count_run X g run done r Start false k (b ∷ w) (leb-true _ _ fits) (λ c l. either_first (is_signed g) c l)
        ∙ r.ends (Digits false (suc k)) (pos (suc k)) b w (end_read g (Digits false (suc k)) (pos (suc k)) b e refl)
    by_sign false s (pos (suc k)) h =
        let fits : nat_le (suc k) (most g) ≡ true = sym (ap (λ (t : Bool). cond t (nat_le (suc k) (most g)) (nat_le (suc k) (most g))) s) ∙ h in
        count_run X g run done r Start false k (b ∷ w) (leb-true _ _ fits) (λ c l. either_first (is_signed g) c l)
        ∙ r.ends (Digits false (suc k)) (pos (suc k)) b w (end_read g (Digits false (suc k)) (pos (suc k)) b e refl)
    by_sign true s (negsuc k) h =
        let fits : nat_le (suc k) (most g) ≡ true = sym (ap (λ (t : Bool). cond t (nat_le (suc k) (most g)) false) s) ∙ h in
        r.more Start Minus 45 (decimal (suc k) ++ b ∷ w) (start_signed s 45)
        ∙ count_run X g run done r Minus true k (b ∷ w) (leb-true _ _ fits) (λ c l. refl)
        ∙ r.ends (Digits true (suc k)) (negsuc k) b w (end_read g (Digits true (suc k)) (negsuc k) b e refl)
    by_sign false s (negsuc k) h =
        let no : cond false (nat_le (suc k) (most g)) false ≡ true = sym (ap (λ (t : Bool). cond t (nat_le (suc k) (most g)) false) s) ∙ h in
        absurd (cc)

-- in a list's text
runs : (told : List Item) (f : Form) (vs : List ℤ) (g : Field) (gs : List Field)
    → Runs Standing g (λ n w. standing_from (going told (number f vs (g ∷ gs) n)) w) (λ z b w. standing_from (moved told (valued f (vs ++ z ∷ []) gs b)) w)
runs told f vs g gs = record {
  more = λ n m b w e. ap (λ (r : Reading). standing_from (moved told (read_by f vs (g ∷ gs) b r)) w) e;
  ends = λ n z b w e. ap (λ (r : Reading). standing_from (moved told (read_by f vs (g ∷ gs) b r)) w) e;
}

pub number_read : (told : List Item) (f : Form) (vs : List ℤ) (g : Field) (gs : List Field) (z : ℤ) (b : ℕ) (w : List ℕ) → value_fits g z ≡ true → (nat_eq b 32 || nat_eq b 10) ≡ true
    → standing_from (going told (number f vs (g ∷ gs) Start)) (signed_decimal z ++ b ∷ w) ≡ standing_from (moved told (valued f (vs ++ z ∷ []) gs b)) w
number_read told f vs g gs z b w h e = number_run Standing g _ _ (runs told f vs g gs) z b w h e
