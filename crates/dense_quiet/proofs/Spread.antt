-- Values of a place or a number of an array that go because nothing is left with them.
use Rattle.std.proofs.Common.{◌≡◌, ℕ, zero, suc, ◌<◌, ◌≤◌, ◌+◌, Bool, true, false, not, ◌&&◌, ◌||◌, cond, List, [], ◌∷◌, length, get_or, set, refl, sym, ap, ◌∙◌, subst, arith, ℤ, inl, inr}
use Rattle.std.specs.Prelude.{pos, ◌+ℤ◌, ◌≤ℤ◌, int_lt}
use Rattle.std.specs.List.{list_all}
use Rattle.std.proofs.lemmas.Int.{ints}
use Rattle.std.proofs.lemmas.List.{get_or-set_other}
use Rattle.std.proofs.lemmas.Bool.{or_from, not_from_false, false_from_ne_true}
use Rattle.qc_model.specs.declared.predicates.Said.{Said}
use Rattle.qc_model.specs.declared.problem.Arg.{Arg}
use Rattle.qc_model.specs.declared.problem.Arg.TheVariants.{Var, Num}
use Rattle.qc_model.specs.declared.problem.Pred.{Pred}
use Rattle.qc_model.specs.Arguments.{variables_of}
use Rattle.qc_model.specs.Content.{Rule}
use Rattle.qc_model.specs.Domains.{Values, Box, values_left, has_value, is_within}
use Rattle.qc_model.specs.Left.{span, some_item_in}
use Rattle.qc_model.specs.Lists.{Distinct}
use Rattle.qc_model.specs.Meaning.{meaning_of, element, reified}
use Rattle.qc_model.specs.Ranges.{Range, range_of}
use Rattle.qc_model.specs.Refuted.{left_to, refuted_by}
use Rattle.qc_model.specs.RowMeaning.{plain_meaning, row_meaning}
use Rattle.qc_model.proofs.Readable.{first, second}
use Rattle.model_arguments.specs.Repeats.{is_variable, same_variable}
use Rattle.model_arguments.specs.Written.{arg_at, ints_at}
use Rattle.model_arguments.proofs.Kept.{at_least, at_most, inside, lower, is_out_low, is_out_high, low_end, high_end, through}
use Rattle.model_arguments.proofs.Values.{value_passes}
use Rattle.dense_closing.proofs.Within.{all_from}
use Rattle.dense_quiet.specs.Guessing.{IsSpared, IsKept, IsSpread, IsSpreadOf}
use Rattle.dense_quiet.specs.Quiet.{misses_number}
use Rattle.dense_quiet.proofs.OneEnd.{args_apart, not_both}
use Rattle.dense_quiet.proofs.Placed.{element_is}
use Rattle.dense_quiet.proofs.Places.{nothing_more, further}
use Rattle.dense_quiet.proofs.Sums.{apart_numbers, equal_numbers, last_or_before}

-- an item of an array whose items all pass
pub passes_at : (p : Arg → Bool) (xs : List Arg) (k : ℕ) (d : Arg) → k < length xs → list_all p xs ≡ true → p (get_or xs k d) ≡ true
passes_at p [] k d l h = absurd (omega arith)
passes_at p (a ∷ xs) zero d l h = first (p a) (list_all p xs) h
passes_at p (a ∷ xs) (suc k) d l h = passes_at p xs k d (omega arith) (second (p a) (list_all p xs) h)

-- no place with its number
none_in : (i : ℤ) (b c : Values) (ns : List ℤ) → ((k : ℕ) → k < length ns → has_value b (i +ℤ pos k) ≡ true → has_value c (get_or ns k (pos 0)) ≡ true → ⊥) → some_item_in i b ns c ≡ false
none_in i b c [] f = refl
none_in i b c (n ∷ ns) f =
    or_from (has_value b i && has_value c n) (some_item_in (i +ℤ pos 1) b ns c)
    (false_from_ne_true (has_value b i && has_value c n) (λ h. f 0 (omega arith) (subst (λ z. has_value b z ≡ true) (sym (nothing_more i)) (first (has_value b i) (has_value c n) h)) (second (has_value b i) (has_value c n) h)))
    (none_in (i +ℤ pos 1) b c ns (λ k l h m. f (suc k) (omega (arith, l)) (subst (λ z. has_value b z ≡ true) (sym (further i k)) h) m))

none_at : (b c : Values) (ns : List ℤ) → ((k : ℕ) → k < length ns → has_value b (pos (k + 1)) ≡ true → has_value c (get_or ns k (pos 0)) ≡ true → ⊥) → misses_number ns b c ≡ true
none_at b c ns f = not_from_false (some_item_in (pos 1) b ns c) (none_in (pos 1) b c ns (λ k l h m. f k l (subst (λ z. has_value b z ≡ true) (from_one k) h) m))
  where
    from_one : (k : ℕ) → pos 1 +ℤ pos k ≡ pos (k + 1)
    from_one k = omega (arith, ints)

-- values that were left are outside
outside : (low high : ℤ) (vs : Values) (v : ℤ) → list_all (λ w. not (is_within low high w)) vs ≡ true → has_value vs v ≡ true → is_within low high v ≡ true → ⊥
outside low high vs v o h w = by (is_within low high v) w (value_passes (λ z. not (is_within low high z)) vs v o h)
  where
    by : (t : Bool) → t ≡ true → not t ≡ true → ⊥
    by true e n = cc
    by false e n = cc

places_gone : (b c vs : Values) (ns : List ℤ) (low high : ℤ) → IsSpread true b ns c low high → list_all (has_value b) vs ≡ true → list_all (λ w. not (is_within low high w)) vs ≡ true → misses_number ns vs c ≡ true
places_gone b c vs ns low high s left o = none_at vs c ns (λ k l h m. outside low high vs (pos (k + 1)) o h (s k l (value_passes (has_value b) vs (pos (k + 1)) left h) m))

numbers_gone : (b c vs : Values) (ns : List ℤ) (low high : ℤ) → IsSpread false b ns c low high → list_all (has_value c) vs ≡ true → list_all (λ w. not (is_within low high w)) vs ≡ true → misses_number ns b vs ≡ true
numbers_gone b c vs ns low high s left o = none_at b vs ns (λ k l h m. outside low high vs (get_or ns k (pos 0)) o m (s k l h (value_passes (has_value c) vs (get_or ns k (pos 0)) left m)))

-- another argument has what it had
pub kept_left : (box : Box) (x : ℕ) (vs : Values) (a : Arg) → is_variable a x ≡ false → left_to (set box x vs) a ≡ left_to box a
kept_left box x vs (Num n) h = refl
kept_left box x vs (Var y) h = get_or-set_other box x y.0 vs [] (apart_numbers y.0 x h)

-- x has these values, which it had
none_of_none : (vs : Values) → list_all (has_value []) vs ≡ true → vs ≡ []
none_of_none [] h = refl
none_of_none (v ∷ vs) h = cc

own_at : (box : Box) (x : ℕ) (vs : Values) → list_all (has_value (values_left box x)) vs ≡ true → values_left (set box x vs) x ≡ vs
own_at [] x vs h = sym (none_of_none vs h)
own_at (d ∷ box) zero vs h = refl
own_at (d ∷ box) (suc x) vs h = own_at box x vs h

pub own_left : (box : Box) (x : ℕ) (vs : Values) (a : Arg) → is_variable a x ≡ true → list_all (has_value (values_left box x)) vs ≡ true → (left_to (set box x vs) a ≡ vs) × (list_all (has_value (left_to box a)) vs ≡ true)
own_left box x vs (Num n) h left = cc
own_left box x vs (Var y) h left =
    let e = sym (equal_numbers y.0 x h) in
    (subst (λ z. values_left (set box x vs) z ≡ vs) e (own_at box x vs left), subst (λ z. list_all (has_value (values_left box z)) vs ≡ true) e left)

-- so the constraint refutes all others
pub spread_spared : (r : Rule) (box : Box) (x : ℕ) (low high : ℤ) → meaning_of r.pred ≡ element → Distinct (variables_of r.args) → IsSpreadOf r.args x box low high → IsSpared r x box low high
spread_spared r box x low high e d s = λ vs left o. by vs left o (is_variable (arg_at r.args 0) x) refl
  where
    b : Arg
    b = arg_at r.args 0

    c : Arg
    c = arg_at r.args 2

    ns : List ℤ
    ns = ints_at r.args 1

    apart : same_variable b c ≡ false
    apart = args_apart r.args 0 2 (omega arith) d

    spread : (t : Bool) → is_variable b x ≡ t → IsSpread t (left_to box b) ns (left_to box c) low high
    spread t q = subst (λ t. IsSpread t (left_to box b) ns (left_to box c) low high) q s.spread

    misses : (at : Box) (p q : Values) → left_to at b ≡ p → left_to at c ≡ q → misses_number ns p q ≡ true → refuted_by r at ≡ true
    misses at p q i j h = element_is r e at ∙ (ap (λ z. misses_number ns z (left_to at c)) i ∙ (ap (λ z. misses_number ns p z) j ∙ h))

    by : (vs : Values) → list_all (has_value (values_left box x)) vs ≡ true → list_all (λ v. not (is_within low high v)) vs ≡ true → (t : Bool) → is_variable b x ≡ t → refuted_by r (set box x vs) ≡ true
    by vs left o true q =
        let own = own_left box x vs b q left in
        misses (set box x vs) vs (left_to box c) own.0 (kept_left box x vs c (not_both b c x q apart)) (places_gone (left_to box b) (left_to box c) vs ns low high (spread true q) own.1 o)
    by vs left o false q =
        let number = subst (λ t. (t || is_variable c x) ≡ true) q s.own in
        let own = own_left box x vs c number left in
        misses (set box x vs) (left_to box b) vs (kept_left box x vs b q) own.0 (numbers_gone (left_to box b) (left_to box c) vs ns low high (spread false q) own.1 o)

-- those on one side among them
pub spared_kept : (r : Rule) (box : Box) (x : ℕ) (low high : ℤ) → IsSpared r x box low high → IsKept r x box low high
spared_kept r box x low high h = record {
  below = λ vs some left b. h vs left (all_from (λ v. not (is_within low high v)) vs (λ v m. is_out_low low high v (lower v low (value_passes (λ w. int_lt w low) vs v b m))));
  above = λ vs some left a. h vs left (all_from (λ v. not (is_within low high v)) vs (λ v m. is_out_high low high v (lower high v (value_passes (λ w. int_lt high w) vs v a m))));
}

-- the meaning of a predicate that has no truth
pub row_plain : (s : Said) (p : Pred) → row_meaning s ≡ meaning_of p → s.reified ≡ false → meaning_of p ≡ plain_meaning s.meaning
row_plain s p e f = sym e ∙ ap (λ t. cond t (reified (plain_meaning s.meaning)) (plain_meaning s.meaning)) f

-- the places that a span has passed
abbrev pub IsSeen : Bool → Values → List ℤ → Values → ℕ → ℕ → ℤ → ℤ → Type 0
IsSeen places b ns c first end low high = (k : ℕ) → first ≤ k → k < end → has_value b (pos (k + 1)) ≡ true → has_value c (get_or ns k (pos 0)) ≡ true → is_within low high (cond places (pos (k + 1)) (get_or ns k (pos 0))) ≡ true

wider : (low high lower higher v : ℤ) → lower ≤ℤ low → high ≤ℤ higher → is_within low high v ≡ true → is_within lower higher v ≡ true
wider low high lower higher v l h i = inside lower higher v (through lower low v l (at_least low high v i)) (through v high higher (at_most low high v i) h)

pub one_more : (places : Bool) (b c : Values) (ns : List ℤ) (first k : ℕ) (low high lower higher : ℤ) → IsSeen places b ns c first k low high → lower ≤ℤ low → high ≤ℤ higher →
    (has_value b (pos (k + 1)) ≡ true → has_value c (get_or ns k (pos 0)) ≡ true → is_within lower higher (cond places (pos (k + 1)) (get_or ns k (pos 0))) ≡ true) → IsSeen places b ns c first (k + 1) lower higher
one_more places b c ns first k low high lower higher s l h f = λ j m n p q.
    elim (last_or_before j k n) [
      | inl before ↦ wider low high lower higher (cond places (pos (j + 1)) (get_or ns j (pos 0))) l h (s j m before p q)
      | inr last ↦ subst (λ z. is_within lower higher (cond places (pos (z + 1)) (get_or ns z (pos 0))) ≡ true) (sym last) (f (subst (λ z. has_value b (pos (z + 1)) ≡ true) last p) (subst (λ z. has_value c (get_or ns z (pos 0)) ≡ true) last q))
    ]

pub all_seen : (places : Bool) (b c : Values) (ns : List ℤ) (first end last : ℕ) (low high least greatest : ℤ) → range_of least greatest ≡ span b → ((k : ℕ) → k < length ns → least ≤ℤ pos (k + 1) → pos (k + 1) ≤ℤ greatest → (first ≤ k) × (k < end)) → end ≤ last →
    IsSeen places b ns c first last low high → IsSpread places b ns c low high
all_seen places b c ns first end last low high least greatest e f m s = λ k l h n.
    let there = f k l (subst (λ z. z ≤ℤ pos (k + 1)) (sym (ap (λ (r : Range). r.from) e)) (low_end b (pos (k + 1)) h)) (subst (λ z. pos (k + 1) ≤ℤ z) (sym (ap (λ (r : Range). r.to) e)) (high_end b (pos (k + 1)) h)) in
    s k there.0 (omega (arith, m, there.1)) h n

pub none_seen : (places : Bool) (b c : Values) (ns : List ℤ) (first : ℕ) (low high : ℤ) → IsSeen places b ns c first first low high
none_seen places b c ns first low high = λ k l h. absurd (omega arith)
