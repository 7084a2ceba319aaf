-- Numbers of an array at places that are left.
use Rattle.std.proofs.Common.{◌≡◌, ℕ, zero, suc, ◌<◌, ◌+◌, ◌-◌, Bool, true, false, ◌&&◌, ◌||◌, List, [], ◌∷◌, length, get_or, refl, sym, subst, arith, ℤ}
use Rattle.std.specs.Prelude.{pos, ◌+ℤ◌, int_lt, unsigned_abs}
use Rattle.std.specs.Ordering.{int_eq}
use Rattle.std.proofs.lemmas.Int.{ints}
use Rattle.std.proofs.lemmas.Bool.{not_from_true, or_left, or_right, and_from}
use Rattle.qc_model.specs.declared.problem.Arg.{Arg}
use Rattle.qc_model.specs.Domains.{Values, Box, least_value, greatest_value, has_value}
use Rattle.qc_model.specs.Left.{some_item_in}
use Rattle.qc_model.specs.Refuted.{left_to}
use Rattle.qc_model.proofs.Readable.{first, second}
use Rattle.model_arguments.proofs.Values.{has_first, has_least, has_greatest}
use Rattle.qc_refuter.specs.Met.{is_domain_left, is_open}
use Rattle.qc_refuter.proofs.Terms.{some_left}
use Rattle.dense_quiet.specs.Quiet.{SparesTwo, misses_number}

pub nothing_more : (i : ℤ) → i +ℤ pos 0 ≡ i
nothing_more i = omega (arith, ints)

pub further : (i : ℤ) (k : ℕ) → i +ℤ pos (suc k) ≡ (i +ℤ pos 1) +ℤ pos k
further i k = omega (arith, ints)

item_in : (i : ℤ) (b c : Values) (ns : List ℤ) (k : ℕ) → k < length ns → has_value b (i +ℤ pos k) ≡ true → has_value c (get_or ns k (pos 0)) ≡ true → some_item_in i b ns c ≡ true
item_in i b c [] k l h m = absurd (omega arith)
item_in i b c (n ∷ ns) zero l h m =
    or_left (has_value b i && has_value c n) (some_item_in (i +ℤ pos 1) b ns c)
    (and_from (has_value b i) (has_value c n) (subst (λ z. has_value b z ≡ true) (nothing_more i) h) m)
item_in i b c (n ∷ ns) (suc k) l h m =
    or_right (has_value b i && has_value c n) (some_item_in (i +ℤ pos 1) b ns c)
    (item_in (i +ℤ pos 1) b c ns k (omega arith) (subst (λ z. has_value b z ≡ true) (further i k) h) m)

-- place k, counted from 0
pub item_at : (b c : Values) (ns : List ℤ) (k : ℕ) → k < length ns → has_value b (pos (k + 1)) ≡ true → has_value c (get_or ns k (pos 0)) ≡ true → some_item_in (pos 1) b ns c ≡ true
item_at b c ns k l h m = item_in (pos 1) b c ns k l (subst (λ z. has_value b z ≡ true) (from_one k) h) m
  where
    from_one : (k : ℕ) → pos (k + 1) ≡ pos 1 +ℤ pos k
    from_one k = omega (arith, ints)

-- where a place is one of several
only_value : (p v : ℤ) → has_value (p ∷ []) v ≡ true → v ≡ p
only_value p v h = by (int_eq v p) refl h
  where
    equal : int_eq v p ≡ true → v ≡ p
    equal e = grind (arith, ints)

    by : (t : Bool) → int_eq v p ≡ t → (t || false) ≡ true → v ≡ p
    by true e m = equal e
    by false e m = cc

pub more_places : (i p : ℤ) (b c : Values) (ns : List ℤ) → has_value b p ≡ true → some_item_in i (p ∷ []) ns c ≡ true → some_item_in i b ns c ≡ true
more_places i p b c [] m h = cc
more_places i p b c (n ∷ ns) m h = by (more_places (i +ℤ pos 1) p b c ns m) (has_value (p ∷ []) i && has_value c n) refl h
  where
    there : (has_value (p ∷ []) i && has_value c n) ≡ true → (has_value b i && has_value c n) ≡ true
    there t = and_from (has_value b i) (has_value c n) (subst (λ z. has_value b z ≡ true) (sym (only_value p i (first (has_value (p ∷ []) i) (has_value c n) t))) m) (second (has_value (p ∷ []) i) (has_value c n) t)

    by : (some_item_in (i +ℤ pos 1) (p ∷ []) ns c ≡ true → some_item_in (i +ℤ pos 1) b ns c ≡ true) → (t : Bool) → (has_value (p ∷ []) i && has_value c n) ≡ t → (t || some_item_in (i +ℤ pos 1) (p ∷ []) ns c) ≡ true → some_item_in i b (n ∷ ns) c ≡ true
    by f true e k = or_left (has_value b i && has_value c n) (some_item_in (i +ℤ pos 1) b ns c) (there e)
    by f false e k = or_right (has_value b i && has_value c n) (some_item_in (i +ℤ pos 1) b ns c) (f k)

pub end_in : (p : ℤ) (ns : List ℤ) (c : Values) → int_lt p (pos 1) ≡ false → unsigned_abs p - 1 < length ns → has_value c (get_or ns (unsigned_abs p - 1) (pos 0)) ≡ true → some_item_in (pos 1) (p ∷ []) ns c ≡ true
end_in p ns c o l h = item_at (p ∷ []) c ns (unsigned_abs p - 1) l (subst (λ z. has_value (p ∷ []) z ≡ true) (sym (back p o)) (has_first p [])) h
  where
    back : (p : ℤ) → int_lt p (pos 1) ≡ false → pos ((unsigned_abs p - 1) + 1) ≡ p
    back p o = grind (arith, ints)

pub named_at : (b : Values) (ns : List ℤ) (k : ℕ) (v : ℤ) → k < length ns → (int_eq (get_or ns k (pos 0)) v && has_value b (pos (k + 1))) ≡ true → some_item_in (pos 1) b ns (v ∷ []) ≡ true
named_at b ns k v l h =
    let n = get_or ns k (pos 0) in
    item_at b (v ∷ []) ns k l (second (int_eq n v) (has_value b (pos (k + 1))) h) (subst (λ z. has_value (v ∷ []) z ≡ true) (sym (equal n v (first (int_eq n v) (has_value b (pos (k + 1))) h))) (has_first v []))
  where
    equal : (n v : ℤ) → int_eq n v ≡ true → n ≡ v
    equal n v e = grind (arith, ints)

pub from_least : (b c : Values) (p : ℤ) (ns : List ℤ) → is_domain_left b ≡ true → p ≡ least_value b → some_item_in (pos 1) (p ∷ []) ns c ≡ true → some_item_in (pos 1) b ns c ≡ true
from_least b c p ns o e h = more_places (pos 1) p b c ns (subst (λ z. has_value b z ≡ true) (sym e) (has_least b (some_left b o))) h

pub from_greatest : (b c : Values) (p : ℤ) (ns : List ℤ) → is_domain_left b ≡ true → p ≡ greatest_value b → some_item_in (pos 1) (p ∷ []) ns c ≡ true → some_item_in (pos 1) b ns c ≡ true
from_greatest b c p ns o e h = more_places (pos 1) p b c ns (subst (λ z. has_value b z ≡ true) (sym e) (has_greatest b (some_left b o))) h

pub element_spares : (ok : ℕ → Bool) (x y : Arg) (box : Box) (ns : List ℤ) → is_open box x ≡ true → some_item_in (pos 1) (least_value (left_to box x) ∷ []) ns (left_to box y) ≡ true → some_item_in (pos 1) (greatest_value (left_to box x) ∷ []) ns (left_to box y) ≡ true →
    some_item_in (pos 1) (left_to box x) ns (least_value (left_to box y) ∷ []) ≡ true → some_item_in (pos 1) (left_to box x) ns (greatest_value (left_to box y) ∷ []) ≡ true → SparesTwo (misses_number ns) ok x y box
element_spares ok x y box ns o f g h k = record {
  whole = not_from_true (some_item_in (pos 1) b ns c) (from_least b c (least_value b) ns o refl f);
  first = λ t. record { least = not_from_true (some_item_in (pos 1) (least_value b ∷ []) ns c) f; greatest = not_from_true (some_item_in (pos 1) (greatest_value b ∷ []) ns c) g };
  second = λ t. record { least = not_from_true (some_item_in (pos 1) b ns (least_value c ∷ [])) h; greatest = not_from_true (some_item_in (pos 1) b ns (greatest_value c ∷ [])) k };
}
  where
    b : Values
    b = left_to box x

    c : Values
    c = left_to box y
