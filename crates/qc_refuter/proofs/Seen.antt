-- What a view shows of one variable.
use Rattle.std.proofs.Common.{◌≡◌, ◌≢◌, inl, inr, ℕ, Bool, true, false, not, ◌&&◌, ◌||◌, cond, [], ◌∷◌, length, nat_eq, of_z, w64, ltb, ◌<◌, ◌≤◌, refl, sym, ap, ◌∙◌, arith, ℤ}
use Rattle.std.specs.Prelude.{pos, negsuc, int_lt, int_le, ◌≤ℤ◌}
use Rattle.std.specs.List.{list_any, list_all}
use Rattle.std.proofs.lemmas.Bool.Decides.{nat_tests}
use Rattle.std.proofs.lemmas.Int.{ints}
use Rattle.std.proofs.lemmas.List.{get_or-set_other, get_or_past, length-set}
use Rattle.std.proofs.lemmas.Bool.{ltb-true, ltb-false}
use mir.Val.{SFits}
use Rattle.std.specs.Ordering.{int_eq}
use Rattle.qc_model.specs.declared.problem.Arg.{Arg}
use Rattle.qc_model.specs.declared.problem.Arg.TheVariants.{Num, Var}
use Rattle.qc_model.specs.declared.problem.VarId.{VarId}
use Rattle.qc_model.specs.Domains.{Values, Box, values_left, values_within, box_within, is_within, has_value, is_single, is_none_left, is_ascending, least_value, greatest_value, misses}
use Rattle.qc_model.specs.Refuted.{left_to}
use Rattle.qc_model.specs.Valid.{is_number}
use Rattle.qc_model.specs.Lists.{Among}
use Rattle.qc_model.proofs.Sound.{lo_of, hi_of, has_it}
use Rattle.qc_model.proofs.Readable.{first, second}
use Rattle.model_arguments.proofs.Kept.{within_at, has_kept}
use Rattle.qc_refuter.specs.Met.{is_domain_left, is_open}
use Rattle.qc_model.proofs.Bits.{same_bits}

pub left_here : (box : Box) (x : ℕ) (lo hi : ℤ) (a : Arg) (y : VarId) → a ≡ Var y → y.0 ≡ x → left_to (box_within box x lo hi) a ≡ values_within lo hi (values_left box y.0)
left_here box x lo hi a y e f =
    ap (left_to (box_within box x lo hi)) e ∙ (ap (λ z. values_left (box_within box x lo hi) z) f ∙ (within_at box x lo hi ∙ ap (λ z. values_within lo hi (values_left box z)) (sym f)))

pub left_view : (box : Box) (x : ℕ) (lo hi : ℤ) (a : Arg) (y : VarId) → a ≡ Var y → y.0 ≡ x → left_to (box_within box x lo hi) a ≡ values_within lo hi (values_left box x)
left_view box x lo hi a y e f = ap (left_to (box_within box x lo hi)) e ∙ (ap (values_left (box_within box x lo hi)) f ∙ within_at box x lo hi)

-- another variable's values
pub left_there : (box : Box) (x : ℕ) (lo hi : ℤ) (a : Arg) (y : VarId) → a ≡ Var y → y.0 ≢ x → left_to (box_within box x lo hi) a ≡ values_left box y.0
left_there box x lo hi a y e f = ap (left_to (box_within box x lo hi)) e ∙ get_or-set_other box x y.0 (values_within lo hi (values_left box x)) [] f

-- a value that is left, and within
pub has_within : (vs : Values) (lo hi v : ℤ) → has_value (values_within lo hi vs) v ≡ (is_within lo hi v && has_value vs v)
has_within vs lo hi v = has_kept (is_within lo hi) vs v

pub has_here : (box : Box) (x : ℕ) (lo hi v : ℤ) (a : Arg) (y : VarId) → a ≡ Var y → y.0 ≡ x → has_value (left_to (box_within box x lo hi) a) v ≡ (is_within lo hi v && has_value (values_left box y.0) v)
has_here box x lo hi v a y e f = ap (λ vs. has_value vs v) (left_here box x lo hi a y e f) ∙ has_within (values_left box y.0) lo hi v

below_none : (lo hi v : ℤ) (b : Bool) → int_lt v lo ≡ true → false ≡ (is_within lo hi v && b)
below_none lo hi v b h = ap (λ t. t && b) (out lo hi v h)
  where
    out : (lo hi v : ℤ) → int_lt v lo ≡ true → false ≡ is_within lo hi v
    out lo hi v h = grind (arith, ints)

above_none : (lo hi v : ℤ) (b : Bool) → int_lt hi v ≡ true → false ≡ (is_within lo hi v && b)
above_none lo hi v b h = ap (λ t. t && b) (out lo hi v h)
  where
    out : (lo hi v : ℤ) → int_lt hi v ≡ true → false ≡ is_within lo hi v
    out lo hi v h = grind (arith, ints)

inside_all : (lo hi v : ℤ) (b : Bool) → int_lt v lo ≡ false → int_lt hi v ≡ false → b ≡ (is_within lo hi v && b)
inside_all lo hi v b h k = ap (λ t. t && b) (in_it lo hi v h k)
  where
    in_it : (lo hi v : ℤ) → int_lt v lo ≡ false → int_lt hi v ≡ false → true ≡ is_within lo hi v
    in_it lo hi v h k = grind (arith, ints)

pub has_below : (box : Box) (x : ℕ) (lo hi v : ℤ) (a : Arg) (y : VarId) → a ≡ Var y → y.0 ≡ x → int_lt v lo ≡ true → false ≡ has_value (left_to (box_within box x lo hi) a) v
has_below box x lo hi v a y e f h = below_none lo hi v (has_value (values_left box y.0) v) h ∙ sym (has_here box x lo hi v a y e f)

pub has_above : (box : Box) (x : ℕ) (lo hi v : ℤ) (a : Arg) (y : VarId) → a ≡ Var y → y.0 ≡ x → int_lt hi v ≡ true → false ≡ has_value (left_to (box_within box x lo hi) a) v
has_above box x lo hi v a y e f h = above_none lo hi v (has_value (values_left box y.0) v) h ∙ sym (has_here box x lo hi v a y e f)

pub has_inside : (box : Box) (x : ℕ) (lo hi v : ℤ) (a : Arg) (y : VarId) (r : Bool) → a ≡ Var y → y.0 ≡ x → int_lt v lo ≡ false → int_lt hi v ≡ false → r ≡ has_value (values_left box y.0) v → r ≡ has_value (left_to (box_within box x lo hi) a) v
has_inside box x lo hi v a y r e f h k q = q ∙ (inside_all lo hi v (has_value (values_left box y.0) v) h k ∙ sym (has_here box x lo hi v a y e f))

-- ascending values whose ends are the same
pub single_by_ends : (d : Values) → is_domain_left d ≡ true → int_le (greatest_value d) (least_value d) ≡ is_single d
single_by_ends [] h = cc
single_by_ends (v ∷ []) h = same v
  where
    same : (v : ℤ) → int_le v v ≡ true
    same v = grind (arith, ints)
single_by_ends (v ∷ w ∷ d) h =
    let a = second (not (is_none_left (v ∷ w ∷ d))) (is_ascending (v ∷ w ∷ d)) (first (not (is_none_left (v ∷ w ∷ d)) && is_ascending (v ∷ w ∷ d)) (list_all is_number (v ∷ w ∷ d)) h) in
    let low = lo_of v (v ∷ w ∷ d) (inl refl) in
    let high = hi_of w (v ∷ w ∷ d) (inr (inl refl)) in
    apart (least_value (v ∷ w ∷ d)) (greatest_value (v ∷ w ∷ d)) v w (first (int_lt v w) (is_ascending (w ∷ d)) a) low high
  where
    apart : (l g v w : ℤ) → int_lt v w ≡ true → l ≤ℤ v → w ≤ℤ g → int_le g l ≡ false
    apart l g v w h p q = grind (arith, ints)

-- no value in common
pub misses_all : (d e : Values) → ((v : ℤ) → has_value d v ≡ true → has_value e v ≡ false) → false ≡ not (misses d e)
misses_all d e f = by (list_any (has_value e) d) (none d (λ v a. f v (has_it d v a)))
  where
    or_none : (a b : Bool) → a ≡ false → b ≡ false → (a || b) ≡ false
    or_none true b h k = cc
    or_none false b h k = k

    none : (us : Values) → ((v : ℤ) → Among v us → has_value e v ≡ false) → list_any (has_value e) us ≡ false
    none [] g = refl
    none (u ∷ us) g = or_none (has_value e u) (list_any (has_value e) us) (g u (inl refl)) (none us (λ v a. g v (inr a)))

    by : (b : Bool) → b ≡ false → false ≡ not (not b)
    by true h = cc
    by false h = refl

-- the whole range keeps all numbers
pub all_within : (vs : Values) → list_all is_number vs ≡ true → values_within (negsuc 999999999) (pos 1000000000) vs ≡ vs
all_within [] h = refl
all_within (v ∷ vs) h =
    ap (λ b. cond b (v ∷ values_within (negsuc 999999999) (pos 1000000000) vs) (values_within (negsuc 999999999) (pos 1000000000) vs)) (inside v (first (is_number v) (list_all is_number vs) h))
    ∙ ap (λ us. v ∷ us) (all_within vs (second (is_number v) (list_all is_number vs) h))
  where
    inside : (v : ℤ) → is_number v ≡ true → is_within (negsuc 999999999) (pos 1000000000) v ≡ true
    inside v h = grind (arith, nat_tests, ints)

-- a variable of which something is left stands in the box
pub stands : (box : Box) (x : ℕ) (lo hi : ℤ) (a : Arg) (y : VarId) → a ≡ Var y → is_open (box_within box x lo hi) a ≡ true → y.0 < length box
stands box x lo hi a y e h = by (ltb y.0 (length box)) refl
  where
    none : length box ≤ y.0 → left_to (box_within box x lo hi) a ≡ []
    none m = ap (left_to (box_within box x lo hi)) e ∙ get_or_past (box_within box x lo hi) y.0 [] (omega (arith, m, length-set box x (values_within lo hi (values_left box x))))

    past : (d : Values) → d ≡ [] → is_domain_left d ≡ true → ⊥
    past [] q k = cc
    past (v ∷ d) q k = cc

    by : (b : Bool) → ltb y.0 (length box) ≡ b → y.0 < length box
    by true q = ltb-true y.0 (length box) q
    by false q = absurd (past (left_to (box_within box x lo hi) a) (none (ltb-false y.0 (length box) q)) h)

-- a number that is written is the one value
pub has_written : (box : Box) (a : Arg) (n v : ℤ) → a ≡ Num n → SFits w64 v → SFits w64 n → nat_eq (of_z w64 v) (of_z w64 n) ≡ has_value (left_to box a) v
has_written box a n v e f g = same_bits v n f g ∙ (alone (int_eq v n) ∙ sym (ap (λ b. has_value (left_to box b) v) e))
  where
    alone : (b : Bool) → b ≡ (b || false)
    alone true = refl
    alone false = refl
