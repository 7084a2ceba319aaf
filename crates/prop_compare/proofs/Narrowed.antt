-- Taking values out below and above.
use Rattle.std.proofs.Common.{◌≡◌, ◌<◌, ◌+◌, Bool, true, false, not, ◌&&◌, List, length, Some, None, refl, sym, ap, ◌∙◌, subst, set, arith, ℤ}
use Rattle.std.specs.Prelude.{pos, negsuc, ◌+ℤ◌, ◌-ℤ◌, ◌≤ℤ◌, ◌<ℤ◌, int_lt, int_le, filter}
use Rattle.std.specs.List.{list_all}
use Rattle.std.proofs.lemmas.Int.{ints}
use Rattle.std.proofs.lemmas.Bool.{not_from_false, false_from_ne_true, and_from}
use Rattle.qc_model.specs.declared.problem.Arg.{Arg}
use Rattle.qc_model.specs.declared.problem.Arg.TheVariants.{Var, Num}
use Rattle.qc_model.specs.declared.problem.VarId.{VarId}
use Rattle.qc_model.specs.Content.{Rule}
use Rattle.qc_model.specs.Domains.{Values, Box, values_left, values_within, values_outside, box_without, is_within, is_none_left, is_ascending, has_value, has_empty, least_value, greatest_value}
use Rattle.qc_model.specs.Refuted.{left_to, refuted_by}
use Rattle.qc_model.specs.Valid.{is_number}
use Rattle.qc_model.proofs.Readable.{second}
use Rattle.model_arguments.proofs.Values.{ascending_kept, all_kept, has_least, has_greatest}
use Rattle.model_arguments.proofs.Bools.{clash, not_false}
use Rattle.qc_refuter.proofs.Domains.{some_left, ascending_left, small_left}
use Rattle.proof_tree.specs.declared.tree.Step.{Step}
use Rattle.fd_store.specs.Held.{values_from, least_of}
use Rattle.qc_refuter.specs.Met.{is_domain_left, is_open}
use Rattle.prop_base.specs.Closed.{IsCut}
use Rattle.prop_compare.specs.Compared.{box_with, box_kept, IsNarrowing, IsPart}
use Rattle.prop_compare.proofs.Kept.{outside_both, none_taken}
use Rattle.qc_refuter.proofs.Commons.{IsFrom, from_some, from_none}
use Rattle.model_arguments.proofs.Kept.{through, keeps, passes, was_left, some_of, over_low, under_high, least_kept, at_least, at_most, is_lower, small_of}
use Rattle.prop_compare.proofs.Sides.{var_of, open_place, with_twice, with_kept, with_full, with_same}

-- whether some value is within
pub some_within : (vs : Values) (lo hi v : ℤ) → Some v ≡ least_of (values_from lo vs) → int_le v hi ≡ not (is_none_left (values_within lo hi vs))
some_within vs lo hi v h = by (int_le v hi) (is_none_left (values_within lo hi vs)) (λ t. some_of (values_within lo hi vs) v (keeps (is_within lo hi) vs v (and_from (int_le lo v) (int_le v hi) (up lo v p.up) t) p.there)) (λ n. reach n)
  where
    p : IsFrom vs lo v
    p = from_some vs lo v h

    up : (a b : ℤ) → a ≤ℤ b → int_le a b ≡ true
    up a b h = grind (arith, ints)

    reach : is_none_left (values_within lo hi vs) ≡ false → int_le v hi ≡ true
    reach n =
        let k = least_kept (is_within lo hi) vs n in
        let w = least_value (values_within lo hi vs) in
        up v hi (through v w hi (p.all w k.1 (at_least lo hi w k.0)) (at_most lo hi w k.0))

    by : (b n : Bool) → (b ≡ true → n ≡ false) → (n ≡ false → b ≡ true) → b ≡ not n
    by true true f g = let e = f refl in cc
    by true false f g = refl
    by false true f g = refl
    by false false f g = let e = g refl in cc

pub none_within : (vs : Values) (lo hi : ℤ) → None ≡ least_of (values_from lo vs) → false ≡ not (is_none_left (values_within lo hi vs))
none_within vs lo hi h = by (is_none_left (values_within lo hi vs)) (λ n. let k = least_kept (is_within lo hi) vs n in from_none vs lo (least_value (values_within lo hi vs)) h k.1 (at_least lo hi (least_value (values_within lo hi vs)) k.0))
  where
    by : (b : Bool) → (b ≡ false → ⊥) → false ≡ not b
    by true f = refl
    by false f = absurd (f refl)

pub cut_of : (c : Rule) (box : Box) (a : Arg) (x : VarId) (lo hi : ℤ) → a ≡ Var x → is_open box a ≡ true → negsuc 999999999 ≤ℤ lo → hi ≤ℤ pos 1000000000 →
    ((y : VarId) → a ≡ Var y → is_none_left (values_within lo hi (left_to box a)) ≡ false → refuted_by c (box_with box a (values_within lo hi (left_to box a))) ≡ true) →
    not (is_none_left (values_within lo hi (values_left box x.0))) ≡ true → IsCut c box (record { x = x; lo = lo; hi = hi })
cut_of c box (Num n) x lo hi e o l h f s = cc
cut_of c box (Var y) x lo hi e o l h f s = subst (λ (z : VarId). IsCut c box (record { x = z; lo = lo; hi = hi })) (same e) cut
  where
    same : Var y ≡ Var x → y ≡ x
    same e = ap var_of e

    n : is_none_left (values_within lo hi (values_left box y.0)) ≡ false
    n = not_false (is_none_left (values_within lo hi (values_left box y.0))) (ap (λ (z : VarId). not (is_none_left (values_within lo hi (values_left box z.0)))) (same e) ∙ s)

    cut : IsCut c box (record { x = y; lo = lo; hi = hi })
    cut =
        let k = least_kept (is_within lo hi) (values_left box y.0) n in
        let w = least_value (values_within lo hi (values_left box y.0)) in
        let m = through lo w hi (at_least lo hi w k.0) (at_most lo hi w k.0) in
        record {
          x = open_place box y o;
          low = small_of lo l (through lo hi (pos 1000000000) m h);
          high = small_of hi (through (negsuc 999999999) lo hi l m) h;
          some = n;
          refuted = f y refl n;
        }

pub taken : (box new : Box) (a : Arg) (x : VarId) (lo hi : ℤ) → a ≡ Var x → new ≡ box_without box x.0 lo hi → new ≡ box_with box a (values_outside lo hi (left_to box a))
taken box new a x lo hi e h = h ∙ ap (λ z. box_with box z (values_outside lo hi (left_to box z))) (sym e)

pub not_taken : (box : Box) (a : Arg) (x : VarId) (lo hi : ℤ) → a ≡ Var x → not (is_none_left (values_within lo hi (values_left box x.0))) ≡ false → box ≡ box_with box a (values_outside lo hi (left_to box a))
not_taken box a x lo hi e h = sym (with_same box a (values_outside lo hi (left_to box a)) (none_taken lo hi (left_to box a) (ap (λ z. is_none_left (values_within lo hi (left_to box z))) e ∙ none (is_none_left (values_within lo hi (values_left box x.0))) h)))
  where
    none : (b : Bool) → not b ≡ false → b ≡ true
    none true h = refl
    none false h = cc

pub number_same : (box : Box) (a : Arg) (n : ℤ) (d : Values) → a ≡ Num n → box ≡ box_with box a d
number_same box a n d e = ap (λ z. box_with box z d) (sym e)

-- below, then above
under_part : (lo l u : ℤ) (vs : Values) → u ≡ lo -ℤ pos 1 → is_none_left (values_within l u vs) ≡ false → IsPart (λ v. int_lt v lo) (values_within l u vs) vs
under_part lo l u vs e n = record {
  some = n;
  each = λ v h. and_from (int_lt v lo) (has_value vs v) (is_lower v lo (less v u lo (at_most l u v (passes (is_within l u) vs v h)) e)) (was_left (is_within l u) vs v h);
}
  where
    less : (v u lo : ℤ) → v ≤ℤ u → u ≡ lo -ℤ pos 1 → v <ℤ lo
    less v u lo h e = omega (arith, ints, h, e)

over_part : (hi o g : ℤ) (vs us : Values) → o ≡ hi +ℤ pos 1 → ((v : ℤ) → has_value us v ≡ true → has_value vs v ≡ true) → is_none_left (values_within o g us) ≡ false → IsPart (λ v. int_lt hi v) (values_within o g us) vs
over_part hi o g vs us e f n = record {
  some = n;
  each = λ v h. and_from (int_lt hi v) (has_value vs v) (is_lower hi v (more v o hi (at_least o g v (passes (is_within o g) us v h)) e)) (f v (was_left (is_within o g) us v h));
}
  where
    more : (v o hi : ℤ) → o ≤ℤ v → o ≡ hi +ℤ pos 1 → hi <ℤ v
    more v o hi h e = omega (arith, ints, h, e)

pub under_refuted : (c : Rule) (box : Box) (a : Arg) (lo hi l u : ℤ) → IsNarrowing c box a lo hi → u ≡ lo -ℤ pos 1 → (x : VarId) → a ≡ Var x → is_none_left (values_within l u (left_to box a)) ≡ false →
    refuted_by c (box_with box a (values_within l u (left_to box a))) ≡ true
under_refuted c box (Num m) lo hi l u n e x q s = cc
under_refuted c box (Var y) lo hi l u n e x q s = n.under y refl (values_within l u (values_left box y.0)) (under_part lo l u (values_left box y.0) e s)

-- what stays after the first
pub stays_under : (c : Rule) (box : Box) (a : Arg) (lo hi l u : ℤ) → IsNarrowing c box a lo hi → u ≡ lo -ℤ pos 1 → is_none_left (values_outside l u (left_to box a)) ≡ false
stays_under c box a lo hi l u n e =
    let vs = left_to box a in
    let k = least_kept (is_within lo hi) vs n.some in
    let w = least_value (values_within lo hi vs) in
    some_of (values_outside l u vs) w (keeps (λ v. not (is_within l u v)) vs w (not_from_false (is_within l u w) (false_from_ne_true (is_within l u w) (λ t. less w u lo (at_most l u w t) e (at_least lo hi w k.0)))) k.1)
  where
    less : (w u lo : ℤ) → w ≤ℤ u → u ≡ lo -ℤ pos 1 → lo ≤ℤ w → ⊥
    less w u lo h e k = omega (arith, ints, h, e, k)

pub left_after : (c : Rule) (box one : Box) (a : Arg) (lo hi l u : ℤ) → IsNarrowing c box a lo hi → is_open box a ≡ true → u ≡ lo -ℤ pos 1 → one ≡ box_with box a (values_outside l u (left_to box a)) →
    left_to one a ≡ values_outside l u (left_to box a)
left_after c box one a lo hi l u n o e h = ap (λ b. left_to b a) h ∙ with_kept box a (λ v. not (is_within l u v)) o (stays_under c box a lo hi l u n e)

kept_open : (q : ℤ → Bool) (vs : Values) → is_domain_left vs ≡ true → is_none_left (filter q vs) ≡ false → is_domain_left (filter q vs) ≡ true
kept_open q vs o n =
    and_from (not (is_none_left (filter q vs)) && is_ascending (filter q vs)) (list_all is_number (filter q vs))
    (and_from (not (is_none_left (filter q vs))) (is_ascending (filter q vs)) (not_from_false (is_none_left (filter q vs)) n) (ascending_kept q vs (ascending_left vs o)))
    (all_kept is_number q vs (second (not (is_none_left vs) && is_ascending vs) (list_all is_number vs) o))

pub open_after : (c : Rule) (box one : Box) (a : Arg) (lo hi l u : ℤ) → IsNarrowing c box a lo hi → is_open box a ≡ true → u ≡ lo -ℤ pos 1 → one ≡ box_with box a (values_outside l u (left_to box a)) → is_open one a ≡ true
open_after c box one a lo hi l u n o e h = ap is_domain_left (left_after c box one a lo hi l u n o e h) ∙ kept_open (λ v. not (is_within l u v)) (left_to box a) o (stays_under c box a lo hi l u n e)

pub full_after : (c : Rule) (box one : Box) (a : Arg) (lo hi l u : ℤ) → IsNarrowing c box a lo hi → has_empty box ≡ false → u ≡ lo -ℤ pos 1 → one ≡ box_with box a (values_outside l u (left_to box a)) → has_empty one ≡ false
full_after c box one a lo hi l u n f e h = ap has_empty h ∙ with_full box a (values_outside l u (left_to box a)) f (stays_under c box a lo hi l u n e)

pub over_refuted : (c : Rule) (box one : Box) (a : Arg) (lo hi l u o g : ℤ) → IsNarrowing c box a lo hi → is_open box a ≡ true → u ≡ lo -ℤ pos 1 → o ≡ hi +ℤ pos 1 → one ≡ box_with box a (values_outside l u (left_to box a)) →
    (x : VarId) → a ≡ Var x → is_none_left (values_within o g (left_to one a)) ≡ false → refuted_by c (box_with one a (values_within o g (left_to one a))) ≡ true
over_refuted c box one (Num m) lo hi l u o g n p e f h x q s = cc
over_refuted c box one (Var y) lo hi l u o g n p e f h x q s =
    let vs = values_left box y.0 in
    let us = values_left one y.0 in
    let left = left_after c box one (Var y) lo hi l u n p e h in
    ap (refuted_by c) (ap (λ b. set b y.0 (values_within o g us)) h ∙ with_twice box (Var y) (values_outside l u vs) (values_within o g us))
    ∙ n.over y refl (values_within o g us)
    (over_part hi o g vs us f (λ v k. was_left (λ z. not (is_within l u z)) vs v (ap (λ z. has_value z v) (sym left) ∙ k)) s)

pub narrowed : (c : Rule) (box one two : Box) (a : Arg) (lo hi l u o g : ℤ) → IsNarrowing c box a lo hi → is_open box a ≡ true → u ≡ lo -ℤ pos 1 → o ≡ hi +ℤ pos 1 → l ≡ least_value (left_to box a) → g ≡ greatest_value (left_to box a) →
    one ≡ box_with box a (values_outside l u (left_to box a)) → two ≡ box_with one a (values_outside o g (left_to one a)) → two ≡ box_kept box a lo hi
narrowed c box one two a lo hi l u o g n p e f i j h k =
    let vs = left_to box a in
    let left = left_after c box one a lo hi l u n p e h in
    k
    ∙ (ap (λ b. box_with b a (values_outside o g (left_to one a))) h
    ∙ (with_twice box a (values_outside l u vs) (values_outside o g (left_to one a))
    ∙ ap (box_with box a) (ap (values_outside o g) left ∙ (pieces ∙ outside_both lo hi vs))))
  where
    pieces : values_outside o g (values_outside l u (left_to box a)) ≡ values_outside (hi +ℤ pos 1) (greatest_value (left_to box a)) (values_outside (least_value (left_to box a)) (lo -ℤ pos 1) (left_to box a))
    pieces =
        ap (λ z. values_outside z g (values_outside l u (left_to box a))) f
        ∙ (ap (λ z. values_outside (hi +ℤ pos 1) z (values_outside l u (left_to box a))) j
        ∙ (ap (λ z. values_outside (hi +ℤ pos 1) (greatest_value (left_to box a)) (values_outside z u (left_to box a))) i
        ∙ ap (λ z. values_outside (hi +ℤ pos 1) (greatest_value (left_to box a)) (values_outside (least_value (left_to box a)) z (left_to box a))) e))

-- steps of two calls
pub grown_last : (q : Bool) (a b c : List Step) → b ≡ a → (q ≡ true → length b < length c) → (q ≡ false → c ≡ b) → (q ≡ true → length a < length c) × (q ≡ false → c ≡ a)
grown_last q a b c g h k = (λ e. omega (arith, h e, ap length g), λ e. k e ∙ g)

pub grown_first : (u o : Bool) (a b c : List Step) → u ≡ true → length b ≡ length a + 1 → (o ≡ true → length c ≡ length b + 1) → (o ≡ false → c ≡ b) → (u ≡ true → length a < length c) × (u ≡ false → c ≡ a)
grown_first u true a b c t h f g = (λ e. omega (arith, h, f refl), λ e. absurd (clash u t e))
grown_first u false a b c t h f g = (λ e. omega (arith, h, ap length (g refl)), λ e. absurd (clash u t e))

pub step_grown : (p : Bool) (a b : List Step) → (p ≡ true → length b ≡ length a + 1) → p ≡ true → length a < length b
step_grown p a b f e = omega (arith, f e)

-- the numbers stay within the limit
pub least_reach : (vs : Values) (v : ℤ) → is_domain_left vs ≡ true → v ≡ least_value vs → negsuc 999999999 ≤ℤ v
least_reach vs v o h = over_low v (subst (λ z. is_number z ≡ true) (sym h) (small_left vs (least_value vs) o (has_least vs (some_left vs o))))

pub greatest_reach : (vs : Values) (v : ℤ) → is_domain_left vs ≡ true → v ≡ greatest_value vs → v ≤ℤ pos 1000000000
greatest_reach vs v o h = under_high v (subst (λ z. is_number z ≡ true) (sym h) (small_left vs (greatest_value vs) o (has_greatest vs (some_left vs o))))

pub before_reach : (lo u : ℤ) → is_number lo ≡ true → u ≡ lo -ℤ pos 1 → u ≤ℤ pos 1000000000
before_reach lo u h e = below lo u (under_high lo h) e
  where
    below : (lo u : ℤ) → lo ≤ℤ pos 1000000000 → u ≡ lo -ℤ pos 1 → u ≤ℤ pos 1000000000
    below lo u h e = omega (arith, ints, h, e)

pub after_reach : (hi o : ℤ) → is_number hi ≡ true → o ≡ hi +ℤ pos 1 → negsuc 999999999 ≤ℤ o
after_reach hi o h e = above hi o (over_low hi h) e
  where
    above : (hi o : ℤ) → negsuc 999999999 ≤ℤ hi → o ≡ hi +ℤ pos 1 → negsuc 999999999 ≤ℤ o
    above hi o h e = omega (arith, ints, h, e)

pub fixed_reach : (vs : Values) (v : ℤ) → is_domain_left vs ≡ true → v ≡ least_value vs → v ≤ℤ pos 1000000000
fixed_reach vs v o h = under_high v (subst (λ z. is_number z ≡ true) (sym h) (small_left vs (least_value vs) o (has_least vs (some_left vs o))))
