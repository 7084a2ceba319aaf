-- Tests of the items of an array, one by one.
use Rattle.std.proofs.Common.{◌≡◌, ℕ, ◌+◌, ◌<◌, ◌≤◌, Bool, true, false, not, ◌&&◌, ◌||◌, List, length, map, drop, get_or, refl, sym, ap, ◌∙◌, arith, ℤ}
use Rattle.std.specs.List.{list_all, list_any}
use Rattle.std.proofs.lemmas.List.{at_drop_more, at_drop_all}
use Rattle.std.specs.Prelude.{pos, nat_eq}
use Rattle.std.specs.Ordering.{int_eq}
use Rattle.std.proofs.lemmas.Int.{to_z-of_z}
use mathlib.Core.Bool.{beq}
use mir.Val.{SFits, of_z}
use mir.Syntax.{w64}
use Rattle.qc_model.specs.declared.problem.Arg.{Arg}
use Rattle.qc_model.specs.Domains.{Values, least_value}
use Rattle.qc_model.specs.Holds.{same_truth, odd_ones, is_one}

-- whether all pass: so far, where one doesn't, and at the end
pub all_next : (p : Values → Bool) (f : Arg → Values) (items : List Arg) (k : ℕ) (x : Arg) (r w : Bool) → k < length items → r ≡ p (f (get_or items k x)) → r ≡ true →
    list_all p (map f (drop k items)) ≡ w → list_all p (map f (drop (k + 1) items)) ≡ w
all_next p f items k x r w h e t i =
    sym (at_drop_more (λ l. list_all p (map f l)) items k x h ∙ ap (λ b. b && list_all p (map f (drop (k + 1) items))) (sym e ∙ t)) ∙ i

pub all_stop : (p : Values → Bool) (f : Arg → Values) (items : List Arg) (k : ℕ) (x : Arg) (r w : Bool) → k < length items → r ≡ p (f (get_or items k x)) → r ≡ false →
    list_all p (map f (drop k items)) ≡ w → false ≡ w
all_stop p f items k x r w h e t i =
    sym (at_drop_more (λ l. list_all p (map f l)) items k x h ∙ ap (λ b. b && list_all p (map f (drop (k + 1) items))) (sym e ∙ t)) ∙ i

pub all_end : (p : Values → Bool) (f : Arg → Values) (items : List Arg) (k : ℕ) (w : Bool) → length items ≤ k → list_all p (map f (drop k items)) ≡ w → true ≡ w
all_end p f items k w h i = sym (at_drop_all (λ l. list_all p (map f l)) items k h) ∙ i

-- whether some passes: so far, where one does, and at the end
pub some_next : (p : Values → Bool) (f : Arg → Values) (items : List Arg) (k : ℕ) (x : Arg) (r w : Bool) → k < length items → r ≡ p (f (get_or items k x)) → r ≡ false →
    list_any p (map f (drop k items)) ≡ w → list_any p (map f (drop (k + 1) items)) ≡ w
some_next p f items k x r w h e t i =
    sym (at_drop_more (λ l. list_any p (map f l)) items k x h ∙ ap (λ b. b || list_any p (map f (drop (k + 1) items))) (sym e ∙ t)) ∙ i

pub some_stop : (p : Values → Bool) (f : Arg → Values) (items : List Arg) (k : ℕ) (x : Arg) (r w : Bool) → k < length items → r ≡ p (f (get_or items k x)) → r ≡ true →
    list_any p (map f (drop k items)) ≡ w → true ≡ w
some_stop p f items k x r w h e t i =
    sym (at_drop_more (λ l. list_any p (map f l)) items k x h ∙ ap (λ b. b || list_any p (map f (drop (k + 1) items))) (sym e ∙ t)) ∙ i

pub some_end : (p : Values → Bool) (f : Arg → Values) (items : List Arg) (k : ℕ) (w : Bool) → length items ≤ k → list_any p (map f (drop k items)) ≡ w → false ≡ w
some_end p f items k w h i = sym (at_drop_all (λ l. list_any p (map f l)) items k h) ∙ i

-- whether so many least values are 1
pub odd_next : (f : Arg → Values) (items : List Arg) (k : ℕ) (x : Arg) (odd one now w : Bool) → k < length items → one ≡ is_one (least_value (f (get_or items k x))) → now ≡ not (same_truth odd one) →
    not (same_truth odd (odd_ones (map least_value (map f (drop k items))))) ≡ w → not (same_truth now (odd_ones (map least_value (map f (drop (k + 1) items))))) ≡ w
odd_next f items k x odd one now w h e n i =
    ap (λ b. not (same_truth b rest)) n
    ∙ (regroup odd one rest
    ∙ (ap (λ b. not (same_truth odd (not (same_truth b rest)))) e
    ∙ (sym (at_drop_more (λ l. not (same_truth odd (odd_ones (map least_value (map f l))))) items k x h) ∙ i)))
  where
    rest : Bool
    rest = odd_ones (map least_value (map f (drop (k + 1) items)))

    regroup : (a b c : Bool) → not (same_truth (not (same_truth a b)) c) ≡ not (same_truth a (not (same_truth b c)))
    regroup true true true = refl
    regroup true true false = refl
    regroup true false true = refl
    regroup true false false = refl
    regroup false true true = refl
    regroup false true false = refl
    regroup false false true = refl
    regroup false false false = refl

pub odd_end : (f : Arg → Values) (items : List Arg) (k : ℕ) (odd w : Bool) → length items ≤ k → not (same_truth odd (odd_ones (map least_value (map f (drop k items))))) ≡ w → odd ≡ w
odd_end f items k odd w h i = twice odd ∙ (sym (at_drop_all (λ l. not (same_truth odd (odd_ones (map least_value (map f l))))) items k h) ∙ i)
  where
    twice : (b : Bool) → b ≡ not (same_truth b false)
    twice true = refl
    twice false = refl

-- the test for 1 on the word
pub one_word : (z v : ℤ) → SFits w64 z → z ≡ v → nat_eq (of_z w64 z) 1 ≡ is_one v
one_word z v fits e = test z fits ∙ ap is_one e
  where
    test : (z : ℤ) → SFits w64 z → nat_eq (of_z w64 z) 1 ≡ int_eq z (pos 1)
    test z fits = grind (arith, to_z-of_z)

pub twice_not : (b : Bool) → not (not b) ≡ b
twice_not true = refl
twice_not false = refl

pub differ : (a b : Bool) → not (beq a b) ≡ not (same_truth a b)
differ true true = refl
differ true false = refl
differ false true = refl
differ false false = refl
