-- What the greater of two integers lets each of the three keep.
use Rattle.std.proofs.Common.{◌≡◌, ◌<◌, Bool, true, false, ◌||◌, cond, [], ◌∷◌, length, set, refl, ap, ◌∙◌, arith, ℤ}
use Rattle.std.specs.Prelude.{negsuc, pos, ◌≤ℤ◌, ◌<ℤ◌, int_lt}
use Rattle.std.specs.Int.{int_max}
use Rattle.std.proofs.lemmas.Int.{ints, clamps}
use Rattle.std.proofs.lemmas.List.{get_or-set_same}
use Rattle.std.proofs.lemmas.Bool.{or_left, or_right, or_from, or_parts}
use Rattle.qc_model.specs.declared.problem.Arg.{Arg}
use Rattle.qc_model.specs.declared.problem.Arg.TheVariants.{Var}
use Rattle.qc_model.specs.declared.problem.VarId.{VarId}
use Rattle.qc_model.specs.Closed.{refutes_at}
use Rattle.qc_model.specs.Content.{Rule}
use Rattle.qc_model.specs.Domains.{Values, Box, values_left, values_within, box_within, is_within, is_none_left, has_value, least_value, greatest_value}
use Rattle.qc_model.specs.Refuted.{left_to, refuted_by}
use Rattle.qc_model.specs.Valid.{is_number}
use Rattle.model_arguments.specs.Repeats.{same_variable}
use Rattle.model_arguments.proofs.Items.{other_left}
use Rattle.model_arguments.proofs.Kept.{passes, was_left, at_least, at_most, through, ordered, lower, is_lower, not_lower, reaches, apart, over_low, under_high, small_of}
use Rattle.model_arguments.proofs.Values.{has_least, has_greatest}
use Rattle.qc_refuter.proofs.Domains.{some_left, small_left}
use Rattle.qc_refuter.specs.Met.{is_domain_left, is_open}
use Rattle.prop_compare.proofs.Sides.{open_place}
use Rattle.prop_arith.specs.Greater.{IsHull, has_no_greater}

-- numbers
over_least : (a b c : ℤ) → a <ℤ b → b ≤ℤ c → a <ℤ c
over_least a b c h k = omega (arith, ints, h, k)

under_most : (a b c : ℤ) → a ≤ℤ b → b <ℤ c → a <ℤ c
under_most a b c h k = omega (arith, ints, h, k)

itself : (a : ℤ) → a ≤ℤ a
itself a = omega (arith, ints)

max_below : (a b c : ℤ) → a <ℤ c → b <ℤ c → int_max a b <ℤ c
max_below a b c h k = omega (arith, ints, clamps, h, k)

max_within : (a b c : ℤ) → a ≤ℤ c → b ≤ℤ c → int_max a b ≤ℤ c
max_within a b c h k = omega (arith, ints, clamps, h, k)

first_within : (a b : ℤ) → a ≤ℤ int_max a b
first_within a b = omega (arith, ints, clamps)

second_within : (a b : ℤ) → b ≤ℤ int_max a b
second_within a b = omega (arith, ints, clamps)

max_turned : (a b : ℤ) → int_max a b ≡ int_max b a
max_turned a b = omega (arith, ints, clamps)

small_max : (a b : ℤ) → is_number a ≡ true → is_number b ≡ true → is_number (int_max a b) ≡ true
small_max a b h k =
    small_of (int_max a b) (through (negsuc 999999999) a (int_max a b) (over_low a h) (first_within a b)) (max_within a b (pos 1000000000) (under_high a h) (under_high b k))

-- the two tests
over_both : (d e f : Values) → int_max (greatest_value d) (greatest_value e) <ℤ least_value f → has_no_greater d e f ≡ true
over_both d e f h =
    or_left (int_lt (int_max (greatest_value d) (greatest_value e)) (least_value f)) (int_lt (greatest_value f) (int_max (least_value d) (least_value e)))
    (is_lower (int_max (greatest_value d) (greatest_value e)) (least_value f) h)

under_one : (d e f : Values) → greatest_value f <ℤ int_max (least_value d) (least_value e) → has_no_greater d e f ≡ true
under_one d e f h =
    or_right (int_lt (int_max (greatest_value d) (greatest_value e)) (least_value f)) (int_lt (greatest_value f) (int_max (least_value d) (least_value e)))
    (is_lower (greatest_value f) (int_max (least_value d) (least_value e)) h)

meets : (d e f : Values) → least_value f ≤ℤ int_max (greatest_value d) (greatest_value e) → int_max (least_value d) (least_value e) ≤ℤ greatest_value f → has_no_greater d e f ≡ false
meets d e f h k =
    or_from (int_lt (int_max (greatest_value d) (greatest_value e)) (least_value f)) (int_lt (greatest_value f) (int_max (least_value d) (least_value e)))
    (not_lower (int_max (greatest_value d) (greatest_value e)) (least_value f) h)
    (not_lower (greatest_value f) (int_max (least_value d) (least_value e)) k)

-- the third reaches the greater of the least values
reached : (d e f : Values) → has_no_greater d e f ≡ false → int_max (least_value d) (least_value e) ≤ℤ greatest_value f
reached d e f h =
    reaches (greatest_value f) (int_max (least_value d) (least_value e))
    (or_parts (int_lt (int_max (greatest_value d) (greatest_value e)) (least_value f)) (int_lt (greatest_value f) (int_max (least_value d) (least_value e))) h).1

-- the first two may change places
pub no_greater_turned : (d e f : Values) → has_no_greater d e f ≡ has_no_greater e d f
no_greater_turned d e f =
    ap (λ n. int_lt n (least_value f) || int_lt (greatest_value f) (int_max (least_value d) (least_value e))) (max_turned (greatest_value d) (greatest_value e))
    ∙ ap (λ n. int_lt (int_max (greatest_value e) (greatest_value d)) (least_value f) || int_lt (greatest_value f) n) (max_turned (least_value d) (least_value e))

abbrev pub Refutes : Rule → Arg → Arg → Arg → Type 0
Refutes c a b m = (box : Box) → refuted_by c box ≡ has_no_greater (left_to box a) (left_to box b) (left_to box m)

pub refutes_turned : (c : Rule) (a b m : Arg) → Refutes c a b m → Refutes c b a m
refutes_turned c a b m r box = r box ∙ no_greater_turned (left_to box a) (left_to box b) (left_to box m)

-- the values within a range
record IsPart (d : Values) (l h : ℤ) : Type 0 where
  value : ℤ
  there : has_value d value ≡ true
  from : l ≤ℤ value
  to : value ≤ℤ h
  least : l ≤ℤ least_value (values_within l h d)
  greatest : greatest_value (values_within l h d) ≤ℤ h

part_of : (d : Values) (l h : ℤ) → is_none_left (values_within l h d) ≡ false → IsPart d l h
part_of d l h n =
    let w = values_within l h d in
    let p = has_least w n in
    let q = has_greatest w n in
    let low = passes (is_within l h) d (least_value w) p in
    record {
      value = least_value w;
      there = was_left (is_within l h) d (least_value w) p;
      from = at_least l h (least_value w) low;
      to = at_most l h (least_value w) low;
      least = at_least l h (least_value w) low;
      greatest = at_most l h (greatest_value w) (passes (is_within l h) d (greatest_value w) q);
    }

small_least : (d : Values) → is_domain_left d ≡ true → is_number (least_value d) ≡ true
small_least d o = small_left d (least_value d) o (has_least d (some_left d o))

small_greatest : (d : Values) → is_domain_left d ≡ true → is_number (greatest_value d) ≡ true
small_greatest d o = small_left d (greatest_value d) o (has_greatest d (some_left d o))

set_here : (box : Box) (x : VarId) (us : Values) → x.0 < length box → left_to (set box x.0 us) (Var x) ≡ us
set_here box x us l = get_or-set_same box x.0 us [] l

-- the third: between the ends of the greater
module _ (c : Rule) (box : Box) (a b : Arg) (x : VarId) (r : Refutes c a b (Var x)) (o : is_open box (Var x) ≡ true) (oa : is_open box a ≡ true) (ob : is_open box b ≡ true) (na : same_variable a (Var x) ≡ false) (nb : same_variable b (Var x) ≡ false) where
  third_set : (us : Values) → refuted_by c (set box x.0 us) ≡ has_no_greater (left_to box a) (left_to box b) us
  third_set us =
      r (set box x.0 us)
      ∙ (ap (λ d. has_no_greater d (left_to (set box x.0 us) b) (left_to (set box x.0 us) (Var x))) (other_left box x us a na)
      ∙ (ap (λ d. has_no_greater (left_to box a) d (left_to (set box x.0 us) (Var x))) (other_left box x us b nb)
      ∙ ap (has_no_greater (left_to box a) (left_to box b)) (set_here box x us (open_place box x o))))

  third_stays : (v : ℤ) → int_max (least_value (left_to box a)) (least_value (left_to box b)) ≤ℤ v → v ≤ℤ int_max (greatest_value (left_to box a)) (greatest_value (left_to box b)) → refutes_at c box x.0 v ≡ false
  third_stays v h k = third_set (v ∷ []) ∙ meets (left_to box a) (left_to box b) (v ∷ []) k h

  pub third_hull : IsHull c box x.0 (int_max (least_value (left_to box a)) (least_value (left_to box b))) (int_max (greatest_value (left_to box a)) (greatest_value (left_to box b)))
  third_hull =
      let d = left_to box a in
      let e = left_to box b in
      let f = values_left box x.0 in
      let low = int_max (least_value d) (least_value e) in
      let high = int_max (greatest_value d) (greatest_value e) in
      let s = ordered f (some_left f o) in
      record {
        small_low = small_max (least_value d) (least_value e) (small_least d oa) (small_least e ob);
        small_high = small_max (greatest_value d) (greatest_value e) (small_greatest d oa) (small_greatest e ob);
        below = λ l h n t.
            let w = values_within l h f in
            third_set w ∙ under_one d e w (under_most (greatest_value w) h low (part_of f l h n).greatest t);
        above = λ l h n t.
            let w = values_within l h f in
            third_set w ∙ over_both d e w (over_least high l (least_value w) t (part_of f l h n).least);
        first = λ g k. third_stays (least_value f) g (through (least_value f) (greatest_value f) high s k);
        last = λ g k. third_stays (greatest_value f) (through low (least_value f) (greatest_value f) g s) k;
      }

-- one of the others: below the third's greatest value, and above its least where the other lies below that
small_beside : (g l : ℤ) → is_number l ≡ true → is_number (cond (int_lt g l) l (negsuc 999999999)) ≡ true
small_beside g l h = by (int_lt g l)
  where
    by : (t : Bool) → is_number (cond t l (negsuc 999999999)) ≡ true
    by true = h
    by false = refl

module _ (c : Rule) (box : Box) (x : VarId) (b m : Arg) (r : Refutes c (Var x) b m) (o : is_open box (Var x) ≡ true) (om : is_open box m ≡ true) (nb : same_variable b (Var x) ≡ false) (nm : same_variable m (Var x) ≡ false) (k : has_no_greater (values_left box x.0) (left_to box b) (left_to box m) ≡ false) where
  first_set : (us : Values) → refuted_by c (set box x.0 us) ≡ has_no_greater us (left_to box b) (left_to box m)
  first_set us =
      r (set box x.0 us)
      ∙ (ap (λ d. has_no_greater d (left_to (set box x.0 us) b) (left_to (set box x.0 us) m)) (set_here box x us (open_place box x o))
      ∙ (ap (λ d. has_no_greater us d (left_to (set box x.0 us) m)) (other_left box x us b nb)
      ∙ ap (has_no_greater us (left_to box b)) (other_left box x us m nm)))

  first_below : (l h : ℤ) → is_none_left (values_within l h (values_left box x.0)) ≡ false → h <ℤ cond (int_lt (greatest_value (left_to box b)) (least_value (left_to box m))) (least_value (left_to box m)) (negsuc 999999999) → refuted_by c (box_within box x.0 l h) ≡ true
  first_below l h n t = by (int_lt (greatest_value (left_to box b)) (least_value (left_to box m))) refl t
    where
      by : (q : Bool) → int_lt (greatest_value (left_to box b)) (least_value (left_to box m)) ≡ q → h <ℤ cond q (least_value (left_to box m)) (negsuc 999999999) → refuted_by c (box_within box x.0 l h) ≡ true
      by true e t =
          let d = values_left box x.0 in
          let w = values_within l h d in
          let g = greatest_value (left_to box b) in
          let f = least_value (left_to box m) in
          first_set w ∙ over_both w (left_to box b) (left_to box m) (max_below (greatest_value w) g f (under_most (greatest_value w) h f (part_of d l h n).greatest t) (lower g f e))
      by false e t =
          let d = values_left box x.0 in
          let u = part_of d l h n in
          absurd (apart h (negsuc 999999999) t (through (negsuc 999999999) u.value h (over_low u.value (small_left d u.value o u.there)) u.to))

  first_above : (l h : ℤ) → is_none_left (values_within l h (values_left box x.0)) ≡ false → greatest_value (left_to box m) <ℤ l → refuted_by c (box_within box x.0 l h) ≡ true
  first_above l h n t =
      let d = values_left box x.0 in
      let w = values_within l h d in
      let e = least_value (left_to box b) in
      let g = greatest_value (left_to box m) in
      first_set w ∙ under_one w (left_to box b) (left_to box m) (over_least g l (int_max (least_value w) e) t (through l (least_value w) (int_max (least_value w) e) (part_of d l h n).least (first_within (least_value w) e)))

  first_stays : (v : ℤ) → cond (int_lt (greatest_value (left_to box b)) (least_value (left_to box m))) (least_value (left_to box m)) (negsuc 999999999) ≤ℤ v → v ≤ℤ greatest_value (left_to box m) → refutes_at c box x.0 v ≡ false
  first_stays v h t =
      let d = values_left box x.0 in
      let e = left_to box b in
      let f = left_to box m in
      let under = through (least_value e) (int_max (least_value d) (least_value e)) (greatest_value f) (second_within (least_value d) (least_value e)) (reached d e f k) in
      first_set (v ∷ []) ∙ meets (v ∷ []) e f (by (int_lt (greatest_value e) (least_value f)) refl h) (max_within v (least_value e) (greatest_value f) t under)
    where
      by : (q : Bool) → int_lt (greatest_value (left_to box b)) (least_value (left_to box m)) ≡ q → cond q (least_value (left_to box m)) (negsuc 999999999) ≤ℤ v → least_value (left_to box m) ≤ℤ int_max v (greatest_value (left_to box b))
      by true e h = through (least_value (left_to box m)) v (int_max v (greatest_value (left_to box b))) h (first_within v (greatest_value (left_to box b)))
      by false e h =
          let g = greatest_value (left_to box b) in
          let f = least_value (left_to box m) in
          through f g (int_max v g) (reaches g f e) (second_within v g)

  pub first_hull : IsHull c box x.0 (cond (int_lt (greatest_value (left_to box b)) (least_value (left_to box m))) (least_value (left_to box m)) (negsuc 999999999)) (greatest_value (left_to box m))
  first_hull =
      let d = values_left box x.0 in
      let f = left_to box m in
      let g = greatest_value (left_to box b) in
      let low = cond (int_lt g (least_value f)) (least_value f) (negsuc 999999999) in
      let s = ordered d (some_left d o) in
      record {
        small_low = small_beside g (least_value f) (small_least f om);
        small_high = small_greatest f om;
        below = λ l h n t. first_below l h n t;
        above = λ l h n t. first_above l h n t;
        first = λ p q. first_stays (least_value d) p (through (least_value d) (greatest_value d) (greatest_value f) s q);
        last = λ p q. first_stays (greatest_value d) (through low (least_value d) (greatest_value d) p s) q;
      }
