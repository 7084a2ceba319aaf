-- Boxes within boxes.
use Rattle.std.proofs.Common.{◌≡◌, ℕ, zero, suc, Bool, true, false, ◌&&◌, ◌||◌, [], ◌∷◌, set, refl, sym, ap, ◌∙◌, subst, arith, ℤ}
use Rattle.std.specs.Prelude.{int_lt}
use Rattle.std.specs.List.{list_all}
use Rattle.std.specs.Ordering.{int_eq}
use Rattle.std.proofs.lemmas.Int.{ints}
use Rattle.std.proofs.lemmas.Bool.Decides.{Decides-int_eq}
use Rattle.std.proofs.lemmas.Bool.{or_right, and_from}
use Rattle.qc_model.specs.Domains.{Values, Box, values_left, has_value, has_empty, is_ascending, is_sub_box}
use Rattle.qc_model.proofs.Readable.{first, second}
use Rattle.model_arguments.proofs.Values.{value_passes, has_first, above_first, ascending_rest}

pub has_later : (v w : ℤ) (vs : Values) → has_value vs w ≡ true → has_value (v ∷ vs) w ≡ true
has_later v w vs h = or_right (int_eq w v) (has_value vs w) h

pub all_from : (p : ℤ → Bool) (vs : Values) → ((v : ℤ) → has_value vs v ≡ true → p v ≡ true) → list_all p vs ≡ true
all_from p [] f = refl
all_from p (v ∷ vs) f = and_from (p v) (list_all p vs) (f v (has_first v vs)) (all_from p vs (λ w h. f w (has_later v w vs h)))

pub all_own : (vs : Values) → list_all (has_value vs) vs ≡ true
all_own vs = all_from (has_value vs) vs (λ v h. h)

all_through : (d e f : Values) → list_all (has_value e) d ≡ true → list_all (has_value f) e ≡ true → list_all (has_value f) d ≡ true
all_through d e f h k = all_from (has_value f) d (λ v m. value_passes (has_value f) e v k (value_passes (has_value e) d v h m))

pub sub_values : (small box : Box) (x : ℕ) → is_sub_box small box ≡ true → list_all (has_value (values_left box x)) (values_left small x) ≡ true
sub_values [] box x h = refl
sub_values (d ∷ ds) [] x h = cc
sub_values (d ∷ ds) (e ∷ es) zero h = second (is_ascending d) (list_all (has_value e) d) (first (is_ascending d && list_all (has_value e) d) (is_sub_box ds es) h)
sub_values (d ∷ ds) (e ∷ es) (suc x) h = sub_values ds es x (second (is_ascending d && list_all (has_value e) d) (is_sub_box ds es) h)

-- a domain of each set to a part of the other
pub sub_set : (small box : Box) (x : ℕ) (d e : Values) → is_sub_box small box ≡ true → is_ascending d ≡ true → list_all (has_value e) d ≡ true → is_sub_box (set small x d) (set box x e) ≡ true
sub_set [] [] x d e h a k = refl
sub_set [] (f ∷ fs) x d e h a k = cc
sub_set (c ∷ cs) [] x d e h a k = cc
sub_set (c ∷ cs) (f ∷ fs) zero d e h a k =
    and_from (is_ascending d && list_all (has_value e) d) (is_sub_box cs fs) (and_from (is_ascending d) (list_all (has_value e) d) a k) (second (is_ascending c && list_all (has_value f) c) (is_sub_box cs fs) h)
sub_set (c ∷ cs) (f ∷ fs) (suc x) d e h a k =
    and_from (is_ascending c && list_all (has_value f) c) (is_sub_box (set cs x d) (set fs x e)) (first (is_ascending c && list_all (has_value f) c) (is_sub_box cs fs) h)
    (sub_set cs fs x d e (second (is_ascending c && list_all (has_value f) c) (is_sub_box cs fs) h) a k)

pub sub_self : (box large : Box) → is_sub_box box large ≡ true → is_sub_box box box ≡ true
sub_self [] large h = refl
sub_self (d ∷ ds) [] h = cc
sub_self (d ∷ ds) (e ∷ es) h =
    and_from (is_ascending d && list_all (has_value d) d) (is_sub_box ds ds)
    (and_from (is_ascending d) (list_all (has_value d) d) (first (is_ascending d) (list_all (has_value e) d) (first (is_ascending d && list_all (has_value e) d) (is_sub_box ds es) h)) (all_own d))
    (sub_self ds es (second (is_ascending d && list_all (has_value e) d) (is_sub_box ds es) h))

pub sub_through : (a b c : Box) → is_sub_box a b ≡ true → is_sub_box b c ≡ true → is_sub_box a c ≡ true
sub_through [] [] c h k = k
sub_through [] (e ∷ es) c h k = cc
sub_through (d ∷ ds) [] c h k = cc
sub_through (d ∷ ds) (e ∷ es) [] h k = cc
sub_through (d ∷ ds) (e ∷ es) (f ∷ fs) h k =
    let p = first (is_ascending d && list_all (has_value e) d) (is_sub_box ds es) h in
    let q = first (is_ascending e && list_all (has_value f) e) (is_sub_box es fs) k in
    and_from (is_ascending d && list_all (has_value f) d) (is_sub_box ds fs)
    (and_from (is_ascending d) (list_all (has_value f) d) (first (is_ascending d) (list_all (has_value e) d) p)
    (all_through d e f (second (is_ascending d) (list_all (has_value e) d) p) (second (is_ascending e) (list_all (has_value f) e) q)))
    (sub_through ds es fs (second (is_ascending d && list_all (has_value e) d) (is_sub_box ds es) h) (second (is_ascending e && list_all (has_value f) e) (is_sub_box es fs) k))

-- each of the two within the other
tail_in : (v : ℤ) (d e : Values) → list_all (int_lt v) d ≡ true → list_all (has_value (v ∷ e)) d ≡ true → list_all (has_value e) d ≡ true
tail_in v d e a h =
    all_from (has_value e) d (λ w m. by w (int_eq w v) refl (value_passes (int_lt v) d w a m) (value_passes (has_value (v ∷ e)) d w h m))
  where
    by : (w : ℤ) (b : Bool) → int_eq w v ≡ b → int_lt v w ≡ true → (int_eq w v || has_value e w) ≡ true → has_value e w ≡ true
    by w true q l k = let s : w ≡ v = (Decides-int_eq w v).0 q in absurd (omega (arith, ints))
    by w false q l k = subst (λ b. (b || has_value e w) ≡ true) q k

same_values : (d e : Values) → is_ascending d ≡ true → is_ascending e ≡ true → list_all (has_value e) d ≡ true → list_all (has_value d) e ≡ true → d ≡ e
same_values [] [] a b h k = refl
same_values [] (w ∷ e) a b h k = cc
same_values (v ∷ d) [] a b h k = cc
same_values (v ∷ d) (w ∷ e) a b h k =
    let s : v ≡ w = heads (int_eq v w) refl in
    ap (λ x. x ∷ d) s
    ∙ ap (λ xs. w ∷ xs)
    (same_values d e (ascending_rest v d a) (ascending_rest w e b)
    (tail_in v d e (above_first v d a) (subst (λ x. list_all (has_value (x ∷ e)) d ≡ true) (sym s) (second (has_value (w ∷ e) v) (list_all (has_value (w ∷ e)) d) h)))
    (tail_in w e d (above_first w e b) (subst (λ x. list_all (has_value (x ∷ d)) e ≡ true) s (second (has_value (v ∷ d) w) (list_all (has_value (v ∷ d)) e) k))))
  where
    less : (x y : ℤ) (xs : Values) (b : Bool) → int_eq x y ≡ b → b ≡ false → list_all (int_lt y) xs ≡ true → (int_eq x y || has_value xs x) ≡ true → int_lt y x ≡ true
    less x y xs true q n l m = cc
    less x y xs false q n l m = value_passes (int_lt y) xs x l (subst (λ c. (c || has_value xs x) ≡ true) q m)

    heads : (b : Bool) → int_eq v w ≡ b → v ≡ w
    heads true q = (Decides-int_eq v w).0 q
    heads false q =
        let l = less v w e (int_eq v w) refl q (above_first w e b) (first (has_value (w ∷ e) v) (list_all (has_value (w ∷ e)) d) h) in
        other (int_eq w v) refl l
      where
        other : (c : Bool) → int_eq w v ≡ c → int_lt w v ≡ true → v ≡ w
        other true r l = sym ((Decides-int_eq w v).0 r)
        other false r l =
            let m = less w v d (int_eq w v) refl r (above_first v d a) (first (has_value (v ∷ d) w) (list_all (has_value (v ∷ d)) e) k) in
            absurd (omega (arith, ints))

pub sub_same : (a b : Box) → is_sub_box a b ≡ true → is_sub_box b a ≡ true → a ≡ b
sub_same [] [] h k = refl
sub_same [] (e ∷ es) h k = cc
sub_same (d ∷ ds) [] h k = cc
sub_same (d ∷ ds) (e ∷ es) h k =
    let p = first (is_ascending d && list_all (has_value e) d) (is_sub_box ds es) h in
    let q = first (is_ascending e && list_all (has_value d) e) (is_sub_box es ds) k in
    ap (λ x. x ∷ ds)
    (same_values d e (first (is_ascending d) (list_all (has_value e) d) p) (first (is_ascending e) (list_all (has_value d) e) q) (second (is_ascending d) (list_all (has_value e) d) p) (second (is_ascending e) (list_all (has_value d) e) q))
    ∙ ap (λ xs. e ∷ xs) (sub_same ds es (second (is_ascending d && list_all (has_value e) d) (is_sub_box ds es) h) (second (is_ascending e && list_all (has_value d) e) (is_sub_box es ds) k))

-- a box with an empty domain has only such boxes within it
pub sub_empty : (a b : Box) → is_sub_box a b ≡ true → has_empty b ≡ true → has_empty a ≡ true
sub_empty [] [] h e = e
sub_empty [] (f ∷ fs) h e = cc
sub_empty (d ∷ ds) [] h e = cc
sub_empty ([] ∷ ds) (f ∷ fs) h e = refl
sub_empty ((v ∷ d) ∷ ds) ([] ∷ fs) h e = absurd (none (is_ascending (v ∷ d)) (is_sub_box ds fs) h)
  where
    none : (a b : Bool) → (a && false && b) ≡ true → ⊥
    none true b h = cc
    none false b h = cc
sub_empty ((v ∷ d) ∷ ds) ((w ∷ f) ∷ fs) h e = sub_empty ds fs (second (is_ascending (v ∷ d) && list_all (has_value (w ∷ f)) (v ∷ d)) (is_sub_box ds fs) h) e
