-- A list of numbers, whose bits are set one by one.
use Rattle.std.proofs.Common.{◌≡◌, ◌≢◌, ◌⊎◌, inl, inr, ℕ, ◌+◌, ◌*◌, ◌/◌, ◌%◌, ◌^◌, ◌<◌, Bool, true, false, ◌||◌, List, [], ◌∷◌, length, get_or, set, take, refl, sym, ap, ◌∙◌, arith, ℤ}
use Rattle.std.specs.Prelude.{pos, ◌+ℤ◌, ◌==◌}
use Rattle.std.specs.Int.{bit_at}
use Rattle.std.specs.Int.RustNames.{bit_or}
use Rattle.std.specs.Ordering.{int_eq}
use Rattle.std.proofs.lemmas.Bool.Decides.{nat_tests}
use Rattle.std.proofs.lemmas.Int.{ints}
use Rattle.std.proofs.lemmas.List.{get_or-set_same, get_or-set_other, take_more}
use Rattle.std.proofs.lemmas.List.Folds.{list_any-append}
use Rattle.qc_model.specs.Domains.{has_value}
use Rattle.std.proofs.lemmas.Nat.Bits.{bit_at_set_same, bit_at_set_other}
use mir.Syntax.{w64}
use Rattle.fd_store.specs.Places.{is_set}

same_or_not : (x y : ℕ) → (x ≡ y) ⊎ (x ≢ y)
same_or_not x y = grind arith

-- one bit more
pub place_set : (words now : List ℕ) (place : ℕ) → place < 64 * length words → now ≡ set words (place / 64) (bit_or (get_or words (place / 64) 0) (1 * 2 ^ (place % 64) % 18446744073709551616)) →
    (p : ℕ) → is_set now p ≡ (is_set words p || p == place)
place_set words now place h e p = ap (λ ws. is_set ws p) e ∙ elim (same_or_not (p / 64) (place / 64)) [
  | inl q ↦
      ap (λ w. bit_at (get_or (set words (place / 64) new) w 0) (p % 64) == 1) q
      ∙ (ap (λ b. bit_at b (p % 64) == 1) (get_or-set_same words (place / 64) new 0 (omega arith))
      ∙ elim (same_or_not (p % 64) (place % 64)) [
        | inl r ↦
            ap (λ k. bit_at new k == 1) r ∙ (ap (λ b. b == 1) (bit_at_set_same w64 (get_or words (place / 64) 0) (place % 64) (omega arith))
            ∙ here (is_set words p) p (omega arith))
        | inr n ↦
            ap (λ b. b == 1) (bit_at_set_other w64 (get_or words (place / 64) 0) (place % 64) (omega arith) (p % 64) n)
            ∙ (ap (λ w. bit_at (get_or words w 0) (p % 64) == 1) (sym q) ∙ there (is_set words p) p (λ s. n (ap (λ m. m % 64) s)))
      ])
  | inr n ↦
      ap (λ b. bit_at b (p % 64) == 1) (get_or-set_other words (place / 64) (p / 64) new 0 n) ∙ there (is_set words p) p (λ s. n (ap (λ m. m / 64) s))
]
  where
    new : ℕ
    new = bit_or (get_or words (place / 64) 0) (1 * 2 ^ (place % 64) % 18446744073709551616)

    here : (b : Bool) (p : ℕ) → p ≡ place → true ≡ (b || p == place)
    here true p q = refl
    here false p q = grind (arith, nat_tests)

    there : (b : Bool) (p : ℕ) → p ≢ place → b ≡ (b || p == place)
    there true p q = refl
    there false p q = grind (arith, nat_tests)

-- and its number
pub value_place : (base v : ℤ) (start k j : ℕ) → v ≡ base +ℤ pos j → ((64 * start + k) == (64 * start + j)) ≡ int_eq (base +ℤ pos k) v
value_place base v start k j e = grind (arith, ints, nat_tests)

pub place_far : (start p j : ℕ) → p < 64 * start → (p == (64 * start + j)) ≡ false
place_far start p j h = grind (arith, nat_tests)

-- the numbers so far, and one more
pub value_more : (vs : List ℤ) (i : ℕ) (u v : ℤ) → i < length vs → get_or vs i (pos 0) ≡ v → has_value (take (i + 1) vs) u ≡ (has_value (take i vs) u || int_eq u v)
value_more vs i u v h e =
    ap (λ us. has_value us u) (take_more vs i (pos 0) h)
    ∙ (list_any-append (int_eq u) (take i vs) (get_or vs i (pos 0) ∷ [])
    ∙ (ap (λ w. has_value (take i vs) u || (int_eq u w || false)) e ∙ last (has_value (take i vs) u) (int_eq u v)))
  where
    last : (a b : Bool) → (a || (b || false)) ≡ (a || b)
    last true b = refl
    last false true = refl
    last false false = refl

-- a place of the list that is being written
pub place_more : (initial words now : List ℕ) (start k j i : ℕ) (vs : List ℤ) (base v : ℤ) → i < length vs → get_or vs i (pos 0) ≡ v → v ≡ base +ℤ pos j →
    is_set words (64 * start + k) ≡ (is_set initial (64 * start + k) || has_value (take i vs) (base +ℤ pos k)) → is_set now (64 * start + k) ≡ (is_set words (64 * start + k) || (64 * start + k) == (64 * start + j)) →
    is_set now (64 * start + k) ≡ (is_set initial (64 * start + k) || has_value (take (i + 1) vs) (base +ℤ pos k))
place_more initial words now start k j i vs base v h e q p n =
    n ∙ (ap (λ b. b || (64 * start + k) == (64 * start + j)) p
    ∙ (ap (λ b. (is_set initial (64 * start + k) || has_value (take i vs) (base +ℤ pos k)) || b) (value_place base v start k j q)
    ∙ (grouped (is_set initial (64 * start + k)) (has_value (take i vs) (base +ℤ pos k)) (int_eq (base +ℤ pos k) v)
    ∙ ap (λ b. is_set initial (64 * start + k) || b) (sym (value_more vs i (base +ℤ pos k) v h e)))))
  where
    grouped : (a b c : Bool) → ((a || b) || c) ≡ (a || (b || c))
    grouped true b c = refl
    grouped false b c = refl

pub none_far : (b : Bool) (start p j : ℕ) → p < 64 * start → (b || p == (64 * start + j)) ≡ b
none_far true start p j h = refl
none_far false start p j h = place_far start p j h
