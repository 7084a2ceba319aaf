-- What is left of truth values.
use Rattle.std.proofs.Common.{◌≡◌, Bool, true, false, not, ◌&&◌, ◌||◌, [], ◌∷◌, refl, sym, ap, ◌∙◌, subst, ℤ}
use Rattle.std.specs.Prelude.{pos, int_lt}
use Rattle.std.specs.List.{list_all}
use Rattle.std.specs.Ordering.{int_eq}
use Rattle.std.proofs.lemmas.Bool.Decides.{Decides-int_eq}
use Rattle.qc_model.specs.Domains.{Values, is_ascending, has_value}
use Rattle.qc_model.specs.Left.{is_only}
use Rattle.qc_model.specs.Valid.{is_truth}
use Rattle.qc_model.proofs.Readable.{first, second}
use Rattle.prop_bool.specs.Literals.{truth_number, is_truth_left, both_truths}

-- to show something of a truth value, show it of 0 and of 1
pub by_number : (P : ℤ → Type 0) → P (pos 0) → P (pos 1) → (v : ℤ) → is_truth v ≡ true → P v
by_number P p q v h = by (int_eq v (pos 0)) (Decides-int_eq v (pos 0)).0 h
  where
    by : (b : Bool) → (b ≡ true → v ≡ pos 0) → (b || int_eq v (pos 1)) ≡ true → P v
    by true e k = subst P (sym (e refl)) p
    by false e k = subst P (sym ((Decides-int_eq v (pos 1)).0 k)) q

-- to show something of what is left of one, show it of 0, of 1 and of both
pub by_left : (P : Values → Type 0) → P (pos 0 ∷ []) → P (pos 1 ∷ []) → P both_truths → (d : Values) → is_truth_left d ≡ true → P d
by_left P p q r [] h = cc
by_left P p q r (v ∷ []) h = by_number (λ z. P (z ∷ [])) p q v (first (is_truth v) true h)
by_left P p q r (v ∷ w ∷ []) h =
    let a = first (int_lt v w && true) (is_truth v && (is_truth w && true)) h in
    let t = second (int_lt v w && true) (is_truth v && (is_truth w && true)) h in
    by_number (λ z. int_lt z w ≡ true → P (z ∷ w ∷ []))
    (by_number (λ z. int_lt (pos 0) z ≡ true → P (pos 0 ∷ z ∷ [])) (λ e. cc) (λ e. r) w (first (is_truth w) true (second (is_truth v) (is_truth w && true) t)))
    (by_number (λ z. int_lt (pos 1) z ≡ true → P (pos 1 ∷ z ∷ [])) (λ e. cc) (λ e. cc) w (first (is_truth w) true (second (is_truth v) (is_truth w && true) t)))
    v (first (is_truth v) (is_truth w && true) t) (first (int_lt v w) true a)
by_left P p q r (u ∷ v ∷ w ∷ d) h =
    let m = is_ascending (w ∷ d) in
    let n = list_all is_truth d in
    let a = first (int_lt u v && (int_lt v w && m)) (is_truth u && (is_truth v && (is_truth w && n))) h in
    let t = second (int_lt u v && (int_lt v w && m)) (is_truth u && (is_truth v && (is_truth w && n))) h in
    let s = second (is_truth u) (is_truth v && (is_truth w && n)) t in
    absurd
    (three u v w (first (is_truth u) (is_truth v && (is_truth w && n)) t) (first (is_truth v) (is_truth w && n) s) (first (is_truth w) n (second (is_truth v) (is_truth w && n) s))
    (first (int_lt u v) (int_lt v w && m) a) (first (int_lt v w) m (second (int_lt u v) (int_lt v w && m) a)))
  where
    three : (u v w : ℤ) → is_truth u ≡ true → is_truth v ≡ true → is_truth w ≡ true → int_lt u v ≡ true → int_lt v w ≡ true → ⊥
    three u v w a b c e f =
        by_number (λ z. int_lt z v ≡ true → ⊥)
        (λ h. by_number (λ z. int_lt (pos 0) z ≡ true → int_lt z w ≡ true → ⊥) (λ k l. cc) (λ k l. by_number (λ z. int_lt (pos 1) z ≡ true → ⊥) (λ m. cc) (λ m. cc) w c l) v b h f)
        (λ h. by_number (λ z. int_lt (pos 1) z ≡ true → ⊥) (λ k. cc) (λ k. cc) v b h)
        u a e

-- one value
pub only_is : (n : ℤ) (d : Values) → is_only n d ≡ true → d ≡ n ∷ []
only_is n [] h = cc
only_is n (v ∷ []) h = ap (λ z. z ∷ []) ((Decides-int_eq v n).0 h)
only_is n (v ∷ w ∷ d) h = cc

pub is_one : (n : ℤ) (d : Values) → d ≡ n ∷ [] → is_only n d ≡ true
is_one n d e = ap (is_only n) e ∙ (Decides-int_eq n n).1 refl

pub only_value : (v u : ℤ) → has_value (u ∷ []) v ≡ true → v ≡ u
only_value v u h = by (int_eq v u) (Decides-int_eq v u).0 h
  where
    by : (b : Bool) → (b ≡ true → v ≡ u) → (b || false) ≡ true → v ≡ u
    by true e k = e refl
    by false e k = cc

pub not_only_both : (b : Bool) → is_only (truth_number b) both_truths ≡ false
not_only_both b = refl

-- not both
pub one_not_other : (b : Bool) (d : Values) → is_only (truth_number b) d ≡ true → is_only (truth_number (not b)) d ≡ false
one_not_other b d h = ap (is_only (truth_number (not b))) (only_is (truth_number b) d h) ∙ apart b
  where
    apart : (b : Bool) → is_only (truth_number (not b)) (truth_number b ∷ []) ≡ false
    apart true = refl
    apart false = refl

pub same_number : (a b : Bool) → truth_number a ≡ truth_number b → a ≡ b
same_number true true h = refl
same_number true false h = cc
same_number false true h = cc
same_number false false h = refl
