-- Numbers by their first bytes, both ways.
use Rattle.std.proofs.Common.{◌≡◌, refl, sym, ap, ◌∙◌, subst, ℕ, zero, suc, ◌+◌, ◌-◌, ◌*◌, ◌^◌, ◌≤◌, ◌<◌, List, [], ◌∷◌, ◌++◌, Some, None, Bool, true, false, ◌&&◌, cond, eqb, arith, leb-true, le-leb}
use Rattle.std.specs.Prelude.{IsTrue, ℤ, pos, negsuc, nat_le, unsigned_abs}
use Rattle.std.specs.Fmt.{decimal, signed_decimal}
use Rattle.std.proofs.lemmas.Fmt.{decimal_digit}
use Rattle.std.proofs.lemmas.Bool.{and_from, and_parts, eq-eqb, ne_eqb, eqb-true}
use Rattle.proof_text.specs.Symbols.{Symbol, byte, number, signed, digits, after, first_digit, next_digit}
use Rattle.proof_text.proofs.Grammar.{Runs, IsNumber, IsSigned, AreLastDigits, AreDigits, value}
use Rattle.proof_text.proofs.Digits.{parts, value_grows, decimal_value}
use Rattle.proof_text.proofs.Choices.{Enters}

-- three tests of a digit
tests : (a b d : Bool) → a ≡ true → b ≡ true → d ≡ true → (a && b && d) ≡ true
tests a b d h g f = and_from (a && b) d (and_from a b h g) f

pub first_is : (most end c : ℕ) → 49 ≤ c → c ≤ 57 → c - 48 ≤ most → first_digit most end c ≡ Some (digits most (c - 48) end ∷ [])
first_is most end c l h g = ap (λ (t : Bool). cond t (Some (digits most (c - 48) end ∷ [])) None) (tests _ _ _ (le-leb 49 c l) (le-leb c 57 h) (le-leb (c - 48) most g))

pub next_is : (most v end c : ℕ) → 48 ≤ c → c ≤ 57 → 10 * v + (c - 48) ≤ most → next_digit most v end c ≡ Some (digits most (10 * v + (c - 48)) end ∷ [])
next_is most v end c l h g = ap (λ (t : Bool). cond t (Some (digits most (10 * v + (c - 48)) end ∷ [])) None) (tests _ _ _ (le-leb 48 c l) (le-leb c 57 h) (le-leb (10 * v + (c - 48)) most g))

pub number_enters : (m most end n : ℕ) (b : List ℕ) → 1 ≤ n → n ≤ most → most ≤ 2 ^ 62 → Enters m (first_digit most end) (decimal n ++ end ∷ b) b
number_enters m most end n b l h g =
    let p = parts n (omega arith) l in
    let grows = value_grows (p.first - 48) p.ds in
    let sum = p.sum in
    record {
      first = p.first;
      w = p.ds ++ end ∷ b;
      owed = digits most (p.first - 48) end ∷ [];
      is = ap (λ (l : List ℕ). l ++ end ∷ b) p.is;
      goes_on = first_is most end p.first p.low p.high (omega arith);
      runs = (b, record { ds = p.ds; are = p.are; high = subst (λ (x : ℕ). x ≤ most) (sym sum) h; told = refl }, refl);
    }

-- a test that let something through
pub taken : (t : Bool) (x y : List Symbol) → cond t (Some x) None ≡ Some y → (t ≡ true) × (x ≡ y)
taken true x y h = (refl, cc)
taken false x y h = absurd (cc)

pub record IsFirst (most end c : ℕ) (owed : List Symbol) : Type 0 where
  pub low : 49 ≤ c
  pub high : c ≤ 57
  pub within : c - 48 ≤ most
  pub is : owed ≡ digits most (c - 48) end ∷ []

pub is_first : (most end c : ℕ) (owed : List Symbol) → first_digit most end c ≡ Some owed → IsFirst most end c owed
is_first most end c owed h =
    let t = taken _ _ _ h in
    let p = and_parts (nat_le 49 c && nat_le c 57) (nat_le (c - 48) most) t.0 in
    let q = and_parts (nat_le 49 c) (nat_le c 57) p.0 in
    record { low = leb-true _ _ q.0; high = leb-true _ _ q.1; within = leb-true _ _ p.1; is = sym t.1 }

-- a digit that isn't 0 is neither 0 nor the sign
pub plain_digit : (most end c : ℕ) → 49 ≤ c → after (signed most end) c ≡ first_digit most end c
plain_digit most end c l = rw (ne_eqb c 45 (λ e. omega arith), ne_eqb c 48 (λ e. omega arith))

as_signed : (m most end : ℕ) (u b : List ℕ) → Enters m (first_digit most end) u b → Enters m (after (signed most end)) u b
as_signed m most end u b h = record {
  first = h.first;
  w = h.w;
  owed = h.owed;
  is = h.is;
  goes_on = plain_digit most end h.first (is_first most end h.first h.owed h.goes_on).low ∙ h.goes_on;
  runs = h.runs;
}

pub signed_enters : (m most end : ℕ) (z : ℤ) (b : List ℕ) → IsTrue (nat_le (unsigned_abs z) most) → most ≤ 2 ^ 62 → Enters m (after (signed most end)) (signed_decimal z ++ end ∷ b) b
signed_enters m most end (pos zero) b f g = record {
  first = 48;
  w = end ∷ b;
  owed = byte end ∷ [];
  is = ap (λ (l : List ℕ). l ++ end ∷ b) (decimal_digit 0 (omega arith));
  goes_on = refl;
  runs = (b, refl, refl);
}
signed_enters m most end (pos (suc n)) b f g = as_signed m most end _ b (number_enters m most end (suc n) b (omega arith) (leb-true _ _ f) g)
signed_enters m most end (negsuc n) b f g = record {
  first = 45;
  w = decimal (suc n) ++ end ∷ b;
  owed = number most end ∷ [];
  is = refl;
  goes_on = refl;
  runs = (b, record { n = suc n; low = omega arith; high = leb-true _ _ f; told = refl }, refl);
}

pub digits_enter : (m most v end : ℕ) (ds b : List ℕ) → AreDigits ds → value v ds ≤ most → end < 48 → Enters m (after (digits most v end)) (ds ++ end ∷ b) b
digits_enter m most v end [] b a h g = record {
  first = end;
  w = b;
  owed = [];
  is = refl;
  goes_on = ap (λ (t : Bool). cond t (Some []) (next_digit most v end end)) (eq-eqb end end refl);
  runs = refl;
}
digits_enter m most v end (c ∷ cs) b a h g =
    let low = a.0 in let high = a.1 in
    let grows = value_grows (10 * v + (c - 48)) cs in
    record {
      first = c;
      w = cs ++ end ∷ b;
      owed = digits most (10 * v + (c - 48)) end ∷ [];
      is = refl;
      goes_on = ap (λ (t : Bool). cond t (Some []) (next_digit most v end c)) (ne_eqb c end (λ e. omega arith)) ∙ next_is most v end c low high (omega arith);
      runs = (b, record { ds = cs; are = a.2; high = h; told = refl }, refl);
    }

pub record IsNext (most v end c : ℕ) (owed : List Symbol) : Type 0 where
  pub low : 48 ≤ c
  pub high : c ≤ 57
  pub within : 10 * v + (c - 48) ≤ most
  pub is : owed ≡ digits most (10 * v + (c - 48)) end ∷ []

pub is_next : (most v end c : ℕ) (owed : List Symbol) → next_digit most v end c ≡ Some owed → IsNext most v end c owed
is_next most v end c owed h =
    let t = taken _ _ _ h in
    let p = and_parts (nat_le 48 c && nat_le c 57) (nat_le (10 * v + (c - 48)) most) t.0 in
    let q = and_parts (nat_le 48 c) (nat_le c 57) p.0 in
    record { low = leb-true _ _ q.0; high = leb-true _ _ q.1; within = leb-true _ _ p.1; is = sym t.1 }

pub number_leaves : (m most end c : ℕ) (owed : List Symbol) (w b : List ℕ) → most ≤ 2 ^ 62 → first_digit most end c ≡ Some owed → Runs m owed w b → IsNumber most end (c ∷ w) b
number_leaves m most end c owed w b g h r =
    let f = is_first most end c owed h in
    let low = f.low in let high = f.high in
    let s = subst (λ (k : List Symbol). Runs m k w b) f.is r in
    let d = s.1 in
    let le = d.high in
    let grows = value_grows (c - 48) d.ds in
    let back : 48 + (c - 48) ≡ c = omega arith in
    let text : decimal (value (c - 48) d.ds) ≡ c ∷ d.ds =
    decimal_value (c - 48) d.ds (omega arith) d.are (omega arith) ∙ ap (λ (l : List ℕ). l ++ d.ds) (decimal_digit (c - 48) (omega arith) ∙ ap (λ (x : ℕ). x ∷ []) back) in
    record {
      n = value (c - 48) d.ds;
      low = omega arith;
      high = d.high;
      told = ap (λ (l : List ℕ). c ∷ l) (d.told ∙ ap (λ (l : List ℕ). d.ds ++ end ∷ l) s.2) ∙ ap (λ (l : List ℕ). l ++ end ∷ b) (sym text);
    }

-- a positive number without a sign
positive : (most end : ℕ) (u b : List ℕ) → IsNumber most end u b → IsSigned most end u b
positive most end u b h = record { z = pos h.n; fits = le-leb _ _ h.high; told = h.told }

negative : (most end n : ℕ) (w b : List ℕ) → 1 ≤ n → n ≤ most → w ≡ decimal n ++ end ∷ b → IsSigned most end (45 ∷ w) b
negative most end zero w b l h e = absurd (omega arith)
negative most end (suc n) w b l h e = record { z = negsuc n; fits = le-leb _ _ h; told = ap (λ (l : List ℕ). 45 ∷ l) e }

signed_by : (s t : Bool) (m most end c : ℕ) (owed : List Symbol) (w b : List ℕ) → eqb c 45 ≡ s → eqb c 48 ≡ t → most ≤ 2 ^ 62
    → cond s (Some (number most end ∷ [])) (cond t (Some (byte end ∷ [])) (first_digit most end c)) ≡ Some owed → Runs m owed w b → IsSigned most end (c ∷ w) b
signed_by true t m most end c owed w b e f g h r =
    let same : number most end ∷ [] ≡ owed = cc in
    let s = subst (λ (k : List Symbol). Runs m k w b) (sym same) r in
    let n = s.1 in
    subst (λ (x : ℕ). IsSigned most end (x ∷ w) b) (sym (eqb-true c 45 e)) (negative most end n.n w b n.low n.high (n.told ∙ ap (λ (l : List ℕ). decimal n.n ++ end ∷ l) s.2))
signed_by false true m most end c owed w b e f g h r =
    let same : byte end ∷ [] ≡ owed = cc in
    let s = subst (λ (k : List Symbol). Runs m k w b) (sym same) r in
    subst (λ (x : ℕ). IsSigned most end (x ∷ w) b) (sym (eqb-true c 48 f))
    (record { z = pos 0; fits = le-leb 0 most (omega arith); told = ap (λ (l : List ℕ). 48 ∷ l) (s.1 ∙ ap (λ (l : List ℕ). end ∷ l) s.2) ∙ ap (λ (l : List ℕ). l ++ end ∷ b) (sym (decimal_digit 0 (omega arith))) })
signed_by false false m most end c owed w b e f g h r = positive most end (c ∷ w) b (number_leaves m most end c owed w b g h r)

pub signed_leaves : (m most end c : ℕ) (owed : List Symbol) (w b : List ℕ) → most ≤ 2 ^ 62 → after (signed most end) c ≡ Some owed → Runs m owed w b → IsSigned most end (c ∷ w) b
signed_leaves m most end c owed w b g h r = signed_by (eqb c 45) (eqb c 48) m most end c owed w b refl refl g h r

digits_by : (s : Bool) (m most v end c : ℕ) (owed : List Symbol) (w b : List ℕ) → eqb c end ≡ s → v ≤ most → cond s (Some []) (next_digit most v end c) ≡ Some owed → Runs m owed w b → AreLastDigits most v end (c ∷ w) b
digits_by true m most v end c owed w b e g h r =
    let same : [] ≡ owed = cc in
    let s = subst (λ (k : List Symbol). Runs m k w b) (sym same) r in
    let is : c ∷ w ≡ end ∷ b = rw (eqb-true c end e, s) in
    record { ds = []; are = tt; high = g; told = is }
digits_by false m most v end c owed w b e g h r =
    let f = is_next most v end c owed h in
    let s = subst (λ (k : List Symbol). Runs m k w b) f.is r in
    let d = s.1 in
    record { ds = c ∷ d.ds; are = (f.low, f.high, d.are); high = d.high; told = ap (λ (l : List ℕ). c ∷ l) (d.told ∙ ap (λ (l : List ℕ). d.ds ++ end ∷ l) s.2) }

pub digits_leave : (m most v end c : ℕ) (owed : List Symbol) (w b : List ℕ) → v ≤ most → after (digits most v end) c ≡ Some owed → Runs m owed w b → AreLastDigits most v end (c ∷ w) b
digits_leave m most v end c owed w b g h r = digits_by (eqb c end) m most v end c owed w b refl g h r
