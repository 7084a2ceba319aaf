-- Ranges that grow at one end.
use Rattle.std.proofs.Common.{◌≡◌, ℕ, ◌≤◌, Bool, true, false, cond, [], ◌∷◌, refl, sym, subst, arith, ℤ}
use Rattle.std.specs.Prelude.{pos, ◌+ℤ◌, ◌-ℤ◌, ◌≤ℤ◌}
use Rattle.std.proofs.lemmas.Int.{ints}
use Rattle.qc_model.specs.Content.{Rule}
use Rattle.qc_model.specs.Domains.{Values, Box, values_left, values_within, is_within, is_none_left}
use Rattle.qc_model.specs.Valid.{is_number}
use Rattle.model_arguments.proofs.Kept.{small_between}
use Rattle.prop_base.specs.declared.cuts.Cut.{Cut}
use Rattle.prop_base.specs.Closed.{IsCut}
use Rattle.prop_base.specs.Wider.{wider, refutes_range}

-- a range in another has no value that the other has not
some_more : (lo hi low high : ℤ) (vs : Values) → low ≤ℤ lo → hi ≤ℤ high → is_none_left (values_within lo hi vs) ≡ false → is_none_left (values_within low high vs) ≡ false
some_more lo hi low high [] l h n = n
some_more lo hi low high (v ∷ vs) l h n = by (is_within lo hi v) (is_within low high v) (inner lo hi low high v l h) (some_more lo hi low high vs l h) n
  where
    inner : (lo hi low high v : ℤ) → low ≤ℤ lo → hi ≤ℤ high → is_within lo hi v ≡ true → is_within low high v ≡ true
    inner lo hi low high v l h i = grind (arith, ints)

    by : (a b : Bool) → (a ≡ true → b ≡ true) → (is_none_left (values_within lo hi vs) ≡ false → is_none_left (values_within low high vs) ≡ false) →
        is_none_left (cond a (v ∷ values_within lo hi vs) (values_within lo hi vs)) ≡ false → is_none_left (cond b (v ∷ values_within low high vs) (values_within low high vs)) ≡ false
    by a true i f n = refl
    by true false i f n = let e = i refl in cc
    by false false i f n = f n

low_down : (lo : ℤ) (n : ℕ) → (lo -ℤ pos n) ≤ℤ lo
low_down lo n = grind (arith, ints)

high_up : (hi : ℤ) (n : ℕ) → hi ≤ℤ (hi +ℤ pos n)
high_up hi n = grind (arith, ints)

same : (v : ℤ) → v ≤ℤ v
same v = grind (arith, ints)

pub wider_some : (after : Bool) (k : Cut) (n : ℕ) (vs : Values) → is_none_left (values_within k.lo k.hi vs) ≡ false → is_none_left (values_within (wider after k n).lo (wider after k n).hi vs) ≡ false
wider_some true k n vs h = some_more k.lo k.hi k.lo (k.hi +ℤ pos n) vs (same k.lo) (high_up k.hi n) h
wider_some false k n vs h = some_more k.lo k.hi (k.lo -ℤ pos n) k.hi vs (low_down k.lo n) (same k.hi) h

less_down : (lo : ℤ) (n m : ℕ) → n ≤ m → (lo -ℤ pos m) ≤ℤ (lo -ℤ pos n)
less_down lo n m h = grind (arith, ints)

less_up : (hi : ℤ) (n m : ℕ) → n ≤ m → (hi +ℤ pos n) ≤ℤ (hi +ℤ pos m)
less_up hi n m h = grind (arith, ints)

wider_low : (after : Bool) (k : Cut) (n m : ℕ) → n ≤ m → is_number k.lo ≡ true → is_number (wider after k m).lo ≡ true → is_number (wider after k n).lo ≡ true
wider_low true k n m h a b = a
wider_low false k n m h a b = small_between (k.lo -ℤ pos m) k.lo (k.lo -ℤ pos n) b a (less_down k.lo n m h) (low_down k.lo n)

wider_high : (after : Bool) (k : Cut) (n m : ℕ) → n ≤ m → is_number k.hi ≡ true → is_number (wider after k m).hi ≡ true → is_number (wider after k n).hi ≡ true
wider_high true k n m h a b = small_between k.hi (k.hi +ℤ pos m) (k.hi +ℤ pos n) a b (high_up k.hi n) (less_up k.hi n m h)
wider_high false k n m h a b = a

wider_place : (after : Bool) (k : Cut) (n : ℕ) → (wider after k n).x ≡ k.x
wider_place true k n = refl
wider_place false k n = refl

nothing_more : (v : ℤ) → v +ℤ pos 0 ≡ v
nothing_more v = grind (arith, ints)

nothing_less : (v : ℤ) → v -ℤ pos 0 ≡ v
nothing_less v = grind (arith, ints)

pub wider_none : (c : Rule) (box : Box) (after : Bool) (k : Cut) → IsCut c box k → IsCut c box (wider after k 0)
wider_none c box true k p = subst (λ h. IsCut c box (record { x = k.x; lo = k.lo; hi = h })) (sym (nothing_more k.hi)) p
wider_none c box false k p = subst (λ l. IsCut c box (record { x = k.x; lo = l; hi = k.hi })) (sym (nothing_less k.lo)) p

-- a wider range that is refuted may go, where the widest of all has numbers within the limit
pub wider_cut : (c : Rule) (box : Box) (after : Bool) (k : Cut) (n m : ℕ) → IsCut c box k → n ≤ m → is_number (wider after k m).lo ≡ true → is_number (wider after k m).hi ≡ true →
    refutes_range c box (wider after k n) ≡ true → IsCut c box (wider after k n)
wider_cut c box true k n m p h a b r = record {
  x = p.x;
  low = wider_low true k n m h p.low a;
  high = wider_high true k n m h p.high b;
  some = wider_some true k n (values_left box k.x.0) p.some;
  refuted = r;
}
wider_cut c box false k n m p h a b r = record {
  x = p.x;
  low = wider_low false k n m h p.low a;
  high = wider_high false k n m h p.high b;
  some = wider_some false k n (values_left box k.x.0) p.some;
  refuted = r;
}

pub wider_left : (after : Bool) (k : Cut) (n : ℕ) (box : Box) → is_none_left (values_within k.lo k.hi (values_left box k.x.0)) ≡ false →
    is_none_left (values_within (wider after k n).lo (wider after k n).hi (values_left box (wider after k n).x.0)) ≡ false
wider_left true k n box h = wider_some true k n (values_left box k.x.0) h
wider_left false k n box h = wider_some false k n (values_left box k.x.0) h

pub width_back : (a b : ℤ) (n : ℕ) → a +ℤ pos n ≡ b → b -ℤ pos n ≡ a
width_back a b n h = grind (arith, ints)
