-- The walk over common values.
use Rattle.std.proofs.Common.{◌≡◌, true, false, [], ◌∷◌, Option, Some, None, refl, sym, ap, subst, arith, ℤ, ◌<◌}
use Rattle.std.specs.Prelude.{pos, negsuc, ◌+ℤ◌, ◌-ℤ◌, ◌≤ℤ◌, nat_abs, int_le, IfNone, IfSome}
use Rattle.std.proofs.lemmas.Int.{ints}
use Rattle.qc_model.specs.Domains.{Values, values_within, is_within, has_value, is_none_left, least_value, greatest_value, misses}
use Rattle.model_arguments.proofs.Values.{has_first, has_least, has_greatest}
use Rattle.model_arguments.proofs.Bools.{clash}
use Rattle.model_arguments.proofs.Kept.{keeps, passes, was_left, low_end, high_end, inside, at_least, at_most, same_end, through, less_of, apart, over_low, under_high}
use Rattle.qc_refuter.specs.Met.{is_domain_left}
use Rattle.fd_store.specs.Held.{values_from, values_up_to, least_of, greatest_of}
use Rattle.qc_refuter.specs.Commons.{IsNext, IsPrevious, AllBelow, AllAbove, IsLeastCommon, IsGreatestCommon}
use Rattle.qc_refuter.proofs.Domains.{none_common, small_left}

-- the next value, and none
pub record IsFrom (vs : Values) (v w : ℤ) : Type 0 where
  pub there : has_value vs w ≡ true
  pub up : v ≤ℤ w
  pub all : (u : ℤ) → has_value vs u ≡ true → v ≤ℤ u → w ≤ℤ u

pub record IsUpTo (vs : Values) (v w : ℤ) : Type 0 where
  pub there : has_value vs w ≡ true
  pub down : w ≤ℤ v
  pub all : (u : ℤ) → has_value vs u ≡ true → u ≤ℤ v → u ≤ℤ w

tested : (a b : ℤ) → a ≤ℤ b → int_le a b ≡ true
tested a b h = grind (arith, ints)

ordered : (a b : ℤ) → int_le a b ≡ true → a ≤ℤ b
ordered a b h = grind (arith, ints)

abbrev the : Option ℤ → ℤ
the None = pos 0
the (Some v) = v

least_some : (us : Values) (w : ℤ) → Some w ≡ least_of us → (is_none_left us ≡ false) × (w ≡ least_value us)
least_some [] w h = cc
least_some (u ∷ us) w h = (refl, ap the h)

least_none : (us : Values) → None ≡ least_of us → us ≡ []
least_none [] h = refl
least_none (u ∷ us) h = cc

greatest_some : (us : Values) (w : ℤ) → Some w ≡ greatest_of us → (is_none_left us ≡ false) × (w ≡ greatest_value us)
greatest_some [] w h = cc
greatest_some (u ∷ us) w h = (refl, ap the h)

greatest_none : (us : Values) → None ≡ greatest_of us → us ≡ []
greatest_none [] h = refl
greatest_none (u ∷ us) h = cc

pub from_some : (vs : Values) (v w : ℤ) → Some w ≡ least_of (values_from v vs) → IsFrom vs v w
from_some vs v w h =
    let p = least_some (values_from v vs) w h in
    let t = subst (λ z. has_value (values_from v vs) z ≡ true) (sym p.1) (has_least (values_from v vs) p.0) in
    record {
      there = was_left (int_le v) vs w t;
      up = ordered v w (passes (int_le v) vs w t);
      all = λ u k l. subst (λ z. z ≤ℤ u) (sym p.1) (low_end (values_from v vs) u (keeps (int_le v) vs u (tested v u l) k));
    }

pub from_none : (vs : Values) (v u : ℤ) → None ≡ least_of (values_from v vs) → has_value vs u ≡ true → v ≤ℤ u → ⊥
from_none vs v u h k l = none (values_from v vs) (least_none (values_from v vs) h) (keeps (int_le v) vs u (tested v u l) k)
  where
    none : (us : Values) → us ≡ [] → has_value us u ≡ true → ⊥
    none [] e m = cc
    none (x ∷ us) e m = cc

-- an answer of this kind is the only one
only_some : (us : Values) (w : ℤ) → has_value us w ≡ true → ((u : ℤ) → has_value us u ≡ true → w ≤ℤ u) → Some w ≡ least_of us
only_some [] w h f = cc
only_some (u ∷ us) w h f = ap Some (same_end w (least_value (u ∷ us)) (f (least_value (u ∷ us)) (has_least (u ∷ us) refl)) (low_end (u ∷ us) w h))

only_none : (us : Values) → ((u : ℤ) → has_value us u ≡ true → ⊥) → None ≡ least_of us
only_none [] f = refl
only_none (u ∷ us) f = absurd (f u (has_first u us))

-- the next value of those within a range: from its first number on, and none past its last
pub within_some : (d : Values) (lo hi v from w : ℤ) → (v ≤ℤ from) × (lo ≤ℤ from) → ((u : ℤ) → v ≤ℤ u → lo ≤ℤ u → from ≤ℤ u) → Some w ≡ least_of (values_from from d) → int_le w hi ≡ true →
    Some w ≡ least_of (values_from v (values_within lo hi d))
within_some d lo hi v from w p f h k =
    let n = from_some d from w h in
    only_some (values_from v (values_within lo hi d)) w
    (keeps (int_le v) (values_within lo hi d) w (tested v w (through v from w p.0 n.up)) (keeps (is_within lo hi) d w (inside lo hi w (through lo from w p.1 n.up) (ordered w hi k)) n.there))
    (λ u m. let r = was_left (int_le v) (values_within lo hi d) u m in
    n.all u (was_left (is_within lo hi) d u r) (f u (ordered v u (passes (int_le v) (values_within lo hi d) u m)) (at_least lo hi u (passes (is_within lo hi) d u r))))

none_within : (d : Values) (lo hi v from : ℤ) → ((u : ℤ) → v ≤ℤ u → lo ≤ℤ u → from ≤ℤ u) → ((u : ℤ) → has_value d u ≡ true → from ≤ℤ u → u ≤ℤ hi → ⊥) → None ≡ least_of (values_from v (values_within lo hi d))
none_within d lo hi v from f g =
    only_none (values_from v (values_within lo hi d))
    (λ u m. let r = was_left (int_le v) (values_within lo hi d) u m in
    let i = passes (is_within lo hi) d u r in
    g u (was_left (is_within lo hi) d u r) (f u (ordered v u (passes (int_le v) (values_within lo hi d) u m)) (at_least lo hi u i)) (at_most lo hi u i))

pub within_past : (d : Values) (lo hi v from w : ℤ) → ((u : ℤ) → v ≤ℤ u → lo ≤ℤ u → from ≤ℤ u) → Some w ≡ least_of (values_from from d) → int_le w hi ≡ false → None ≡ least_of (values_from v (values_within lo hi d))
within_past d lo hi v from w f h k = none_within d lo hi v from f (λ u m l n. over w hi k (through w u hi ((from_some d from w h).all u m l) n))
  where
    over : (w hi : ℤ) → int_le w hi ≡ false → w ≤ℤ hi → ⊥
    over w hi k l = clash (int_le w hi) (tested w hi l) k

pub within_none : (d : Values) (lo hi v from : ℤ) → ((u : ℤ) → v ≤ℤ u → lo ≤ℤ u → from ≤ℤ u) → None ≡ least_of (values_from from d) → None ≡ least_of (values_from v (values_within lo hi d))
within_none d lo hi v from f h = none_within d lo hi v from f (λ u m l n. from_none d from u h m l)

pub up_to_some : (vs : Values) (v w : ℤ) → Some w ≡ greatest_of (values_up_to v vs) → IsUpTo vs v w
up_to_some vs v w h =
    let p = greatest_some (values_up_to v vs) w h in
    let t = subst (λ z. has_value (values_up_to v vs) z ≡ true) (sym p.1) (has_greatest (values_up_to v vs) p.0) in
    record {
      there = was_left (λ u. int_le u v) vs w t;
      down = ordered w v (passes (λ u. int_le u v) vs w t);
      all = λ u k l. subst (λ z. u ≤ℤ z) (sym p.1) (high_end (values_up_to v vs) u (keeps (λ z. int_le z v) vs u (tested u v l) k));
    }

pub up_to_none : (vs : Values) (v u : ℤ) → None ≡ greatest_of (values_up_to v vs) → has_value vs u ≡ true → u ≤ℤ v → ⊥
up_to_none vs v u h k l = none (values_up_to v vs) (greatest_none (values_up_to v vs) h) (keeps (λ z. int_le z v) vs u (tested u v l) k)
  where
    none : (us : Values) → us ≡ [] → has_value us u ≡ true → ⊥
    none [] e m = cc
    none (x ∷ us) e m = cc

-- both steps
pub next_some : (d e : Values) (v u w : ℤ) → IsFrom e v u → IsFrom d u w → IsNext d e v w
next_some d e v u w p q = record {
  there = q.there;
  up = through v u w p.up q.up;
  all = λ z h k l. q.all z h (p.all z k l);
  common = λ f. subst (λ z. has_value e z ≡ true) (same_end u w q.up (subst (λ z. z ≤ℤ u) f p.up)) p.there;
}

pub below_first : (d e : Values) (v : ℤ) → None ≡ least_of (values_from v e) → AllBelow d e v
below_first d e v h u k l = less_of u v (λ m. from_none e v u h l m)

pub below_then : (d e : Values) (v u : ℤ) → IsFrom e v u → None ≡ least_of (values_from u d) → AllBelow d e v
below_then d e v u p h z k l = less_of z v (λ m. from_none d u z h k (p.all z l m))

pub previous_some : (d e : Values) (v u w : ℤ) → IsUpTo e v u → IsUpTo d u w → IsPrevious d e v w
previous_some d e v u w p q = record {
  there = q.there;
  down = through w u v q.down p.down;
  all = λ z h k l. q.all z h (p.all z k l);
  common = λ f. subst (λ z. has_value e z ≡ true) (same_end u w (subst (λ z. u ≤ℤ z) f p.down) q.down) p.there;
}

pub above_first : (d e : Values) (v : ℤ) → None ≡ greatest_of (values_up_to v e) → AllAbove d e v
above_first d e v h u k l = less_of v u (λ m. up_to_none e v u h l m)

pub above_then : (d e : Values) (v u : ℤ) → IsUpTo e v u → None ≡ greatest_of (values_up_to u d) → AllAbove d e v
above_then d e v u p h z k l = less_of v z (λ m. up_to_none d u z h k (p.all z l m))

-- by what the second step answers
pub next_none : (d e : Values) (v u : ℤ) (r : Option ℤ) → IsFrom e v u → r ≡ least_of (values_from u d) → IfNone r (AllBelow d e v)
next_none d e v u None p h = below_then d e v u p h
next_none d e v u (Some w) p h = tt

pub next_found : (d e : Values) (v u : ℤ) (r : Option ℤ) → IsFrom e v u → r ≡ least_of (values_from u d) → IfSome r (λ w. IsNext d e v w)
next_found d e v u None p h = tt
next_found d e v u (Some w) p h = next_some d e v u w p (from_some d u w h)

pub previous_none : (d e : Values) (v u : ℤ) (r : Option ℤ) → IsUpTo e v u → r ≡ greatest_of (values_up_to u d) → IfNone r (AllAbove d e v)
previous_none d e v u None p h = above_then d e v u p h
previous_none d e v u (Some w) p h = tt

pub previous_found : (d e : Values) (v u : ℤ) (r : Option ℤ) → IsUpTo e v u → r ≡ greatest_of (values_up_to u d) → IfSome r (λ w. IsPrevious d e v w)
previous_found d e v u None p h = tt
previous_found d e v u (Some w) p h = previous_some d e v u w p (up_to_some d u w h)

-- the walk: all common values are from v on, and v isn't above the limit
pub record IsWalkedTo (d e : Values) (v : ℤ) : Type 0 where
  pub all : (u : ℤ) → has_value d u ≡ true → has_value e u ≡ true → v ≤ℤ u
  pub there : has_value d v ≡ true

pub record IsWalkedBack (d e : Values) (v : ℤ) : Type 0 where
  pub all : (u : ℤ) → has_value d u ≡ true → has_value e u ≡ true → u ≤ℤ v
  pub there : has_value d v ≡ true

pub walk_start : (d e : Values) (v : ℤ) → is_none_left d ≡ false → v ≡ least_value d → IsWalkedTo d e v
walk_start d e v n h = record {
  all = λ u k l. subst (λ z. z ≤ℤ u) (sym h) (low_end d u k);
  there = subst (λ z. has_value d z ≡ true) (sym h) (has_least d n);
}

pub back_start : (d e : Values) (v : ℤ) → is_none_left d ≡ false → v ≡ greatest_value d → IsWalkedBack d e v
back_start d e v n h = record {
  all = λ u k l. subst (λ z. u ≤ℤ z) (sym h) (high_end d u k);
  there = subst (λ z. has_value d z ≡ true) (sym h) (has_greatest d n);
}

pub walk_more : (d e : Values) (v w : ℤ) → IsWalkedTo d e v → IsNext d e v w → IsWalkedTo d e w
walk_more d e v w p q = record { all = λ u k l. q.all u k l (p.all u k l); there = q.there }

pub back_more : (d e : Values) (v w : ℤ) → IsWalkedBack d e v → IsPrevious d e v w → IsWalkedBack d e w
back_more d e v w p q = record { all = λ u k l. q.all u k l (p.all u k l); there = q.there }

pub walk_smaller : (d e : Values) (v w : ℤ) → is_domain_left d ≡ true → IsWalkedTo d e v → IsNext d e v w → int_le w v ≡ false → nat_abs (pos 1000000000 -ℤ w) < nat_abs (pos 1000000000 -ℤ v)
walk_smaller d e v w o p q f = smaller v w (under_high w (small_left d w o q.there)) f
  where
    smaller : (v w : ℤ) → w ≤ℤ pos 1000000000 → int_le w v ≡ false → nat_abs (pos 1000000000 -ℤ w) < nat_abs (pos 1000000000 -ℤ v)
    smaller v w h k = grind (arith, ints)

pub back_smaller : (d e : Values) (v w : ℤ) → is_domain_left d ≡ true → IsWalkedBack d e v → IsPrevious d e v w → int_le v w ≡ false → nat_abs (w +ℤ pos 1000000000) < nat_abs (v +ℤ pos 1000000000)
back_smaller d e v w o p q f = smaller v w (over_low w (small_left d w o q.there)) f
  where
    smaller : (v w : ℤ) → negsuc 999999999 ≤ℤ w → int_le v w ≡ false → nat_abs (w +ℤ pos 1000000000) < nat_abs (v +ℤ pos 1000000000)
    smaller v w h k = grind (arith, ints)

pub walk_found : (d e : Values) (v w : ℤ) → IsWalkedTo d e v → IsNext d e v w → int_le w v ≡ true → IsLeastCommon d e v
walk_found d e v w p q h = record {
  first = p.there;
  second = let f = same_end v w q.up (ordered w v h) in subst (λ z. has_value e z ≡ true) (sym f) (q.common f);
  all = p.all;
}

pub back_found : (d e : Values) (v w : ℤ) → IsWalkedBack d e v → IsPrevious d e v w → int_le v w ≡ true → IsGreatestCommon d e v
back_found d e v w p q h = record {
  first = p.there;
  second = let f = same_end v w (ordered v w h) q.down in subst (λ z. has_value e z ≡ true) (sym f) (q.common f);
  all = p.all;
}

pub walk_none : (d e : Values) (v : ℤ) → IsWalkedTo d e v → AllBelow d e v → misses d e ≡ true
walk_none d e v p f = none_common d e (λ u k l. apart u v (f u k l) (p.all u k l))

pub back_none : (d e : Values) (v : ℤ) → IsWalkedBack d e v → AllAbove d e v → misses d e ≡ true
back_none d e v p f = none_common d e (λ u k l. apart v u (f u k l) (p.all u k l))
