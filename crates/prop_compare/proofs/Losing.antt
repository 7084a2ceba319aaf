-- One argument loses the other's one value.
use Rattle.std.proofs.Common.{◌≡◌, ◌⊎◌, inl, inr, Bool, true, false, not, ◌&&◌, ◌||◌, [], ◌∷◌, refl, sym, ap, ◌∙◌, subst, set, ℤ, arith}
use Rattle.std.specs.Prelude.{◌≤ℤ◌, int_lt}
use Rattle.std.specs.Ordering.{int_eq}
use Rattle.std.proofs.lemmas.Int.{ints}
use Rattle.std.proofs.lemmas.Bool.Decides.{Decides-int_eq}
use Rattle.std.proofs.lemmas.Bool.{not_from_false, false_from_ne_true}
use Rattle.qc_model.specs.declared.problem.Arg.{Arg}
use Rattle.qc_model.specs.declared.problem.Arg.TheVariants.{Var, Num}
use Rattle.qc_model.specs.declared.problem.VarId.{VarId}
use Rattle.qc_model.specs.Closed.{keeps_ends}
use Rattle.qc_model.specs.Content.{Game, Rule}
use Rattle.qc_model.specs.Domains.{Values, Box, values_left, values_within, values_outside, is_within, is_none_left, is_single, is_ascending, has_value, has_empty, least_value, greatest_value}
use Rattle.qc_model.specs.Left.{are_one_value}
use Rattle.qc_model.specs.Refuted.{left_to, refuted_by}
use Rattle.qc_model.proofs.Readable.{first}
use Rattle.model_arguments.proofs.Values.{has_first, only_within, has_greatest}
use Rattle.model_arguments.proofs.Bools.{bools_same}
use Rattle.model_arguments.proofs.Kept.{lower, keeps, some_of, least_kept, greatest_kept, at_least, at_most}
use Rattle.qc_refuter.proofs.Domains.{some_left, ascending_left}
use Rattle.qc_refuter.specs.Met.{is_domain_left}
use Rattle.prop_compare.specs.Compared.{box_with, IsPair, IsTested, AlikeBut}
use Rattle.prop_compare.proofs.Kept.{single_value}
use Rattle.model_arguments.proofs.Items.{flipped}
use Rattle.prop_compare.proofs.Sides.{with_full, with_other, with_kept, alike_same, alike_second}
use Rattle.prop_compare.proofs.Reducing.{keeps_side, at_first, at_second}

equal_values : (v : ℤ) → int_eq v v ≡ true
equal_values v = grind (arith, ints)

pub swapped : (d e : Values) → are_one_value d e ≡ are_one_value e d
swapped d e = by (is_single d) (is_single e) (int_eq (least_value d) (least_value e)) (int_eq (least_value e) (least_value d)) (flip (least_value d) (least_value e))
  where
    turned : (a b : ℤ) → int_eq a b ≡ true → int_eq b a ≡ true
    turned a b h = subst (λ z. int_eq b z ≡ true) (sym ((Decides-int_eq a b).0 h)) (equal_values b)

    flip : (a b : ℤ) → int_eq a b ≡ int_eq b a
    flip a b = bools_same (int_eq a b) (int_eq b a) (turned a b) (turned b a)

    by : (p q i j : Bool) → i ≡ j → (p && q && i) ≡ (q && p && j)
    by true true i j h = h
    by true false i j h = refl
    by false true i j h = refl
    by false false i j h = refl

pub tested_swapped : (c : Rule) (box : Box) (a b : Arg) → IsTested c box a b are_one_value → IsTested c box b a are_one_value
tested_swapped c box a b t other f = t other (λ k h l. f k l h) ∙ swapped (left_to other a) (left_to other b)

one_false : (p q i : Bool) → (p ≡ true → q ≡ true → i ≡ false) → (p && q && i) ≡ false
one_false true true i f = f refl refl
one_false true false i f = refl
one_false false q i f = refl

differ : (a b : ℤ) → (a ≡ b → ⊥) → int_eq a b ≡ false
differ a b f = false_from_ne_true (int_eq a b) (λ h. f ((Decides-int_eq a b).0 h))

-- the value alone is refuted
pub value_refuted : (g : Game) (c : Rule) (box : Box) (a b : Arg) (v : ℤ) → IsPair g c box a b → IsTested c box a b are_one_value → is_single (left_to box a) ≡ true → v ≡ least_value (left_to box a) →
    (x : VarId) → b ≡ Var x → is_none_left (values_within v v (left_to box b)) ≡ false → refuted_by c (box_with box b (values_within v v (left_to box b))) ≡ true
value_refuted g c box a (Num n) v p t s h x q m = cc
value_refuted g c box a (Var y) v p t s h x q m =
    let e = values_left box y.0 in
    let k = least_kept (is_within v v) e m in
    let w = least_value (values_within v v e) in
    let there = subst (λ z. has_value e z ≡ true) (same_end w v (at_most v v w k.0) (at_least v v w k.0)) k.1 in
    ap (λ d. refuted_by c (set box y.0 d)) (only_within v e (ascending_left e p.open_second) there)
    ∙ (at_second c box box a (Var y) are_one_value y (v ∷ []) t (alike_same a (Var y) box) p.apart (some_left e p.open_second) refl
    ∙ all (is_single (left_to box a)) (int_eq (least_value (left_to box a)) v) s (subst (λ z. int_eq (least_value (left_to box a)) z ≡ true) (sym h) (equal_values (least_value (left_to box a)))))
  where
    same_end : (a b : ℤ) → a ≤ℤ b → b ≤ℤ a → a ≡ b
    same_end a b h k = grind (arith, ints)

    all : (p i : Bool) → p ≡ true → i ≡ true → (p && true && i) ≡ true
    all true true h k = refl
    all true false h k = cc
    all false i h k = cc

-- and others stay
pub others_stay : (g : Game) (c : Rule) (box : Box) (a b : Arg) (v : ℤ) → IsPair g c box a b → is_single (left_to box a) ≡ true → v ≡ least_value (left_to box a) → are_one_value (left_to box a) (left_to box b) ≡ false →
    is_none_left (values_outside v v (left_to box b)) ≡ false
others_stay g c box a b v p s h d = by (left_to box b) p.open_second refl
  where
    no : (b : Bool) → b ≡ false → b ≡ true → ⊥
    no true h k = cc
    no false h k = cc

    yes : (p i : Bool) → p ≡ true → i ≡ true → (p && true && i) ≡ true
    yes true true h k = refl
    yes true false h k = cc
    yes false i h k = cc

    clash : left_to box b ≡ v ∷ [] → ⊥
    clash q =
        no (are_one_value (left_to box a) (left_to box b)) d
        (ap (are_one_value (left_to box a)) q
        ∙ yes (is_single (left_to box a)) (int_eq (least_value (left_to box a)) v) s (subst (λ z. int_eq (least_value (left_to box a)) z ≡ true) (sym h) (equal_values (least_value (left_to box a)))))

    same_end : (a b : ℤ) → a ≤ℤ b → b ≤ℤ a → a ≡ b
    same_end a b h k = grind (arith, ints)

    out : (w v : ℤ) → (w ≡ v → ⊥) → not (is_within v v w) ≡ true
    out w v f = not_from_false (is_within v v w) (false_from_ne_true (is_within v v w) (λ t. f (same_end w v (at_most v v w t) (at_least v v w t))))

    above : (x y v : ℤ) → int_lt x y ≡ true → x ≡ v → y ≡ v → ⊥
    above x y v h e f = omega (arith, ints, lower x y h, e, f)

    equal_if : (a b : ℤ) → a ≡ b → int_eq a b ≡ true
    equal_if a b e = subst (λ z. int_eq a z ≡ true) e (equal_values a)

    or_right : (a b : Bool) → b ≡ true → (a || b) ≡ true
    or_right true b h = refl
    or_right false b h = h

    two : (x y : ℤ) (us : Values) → int_lt x y ≡ true → (b : Bool) → (b ≡ true → x ≡ v) → (x ≡ v → b ≡ true) → is_none_left (values_outside v v (x ∷ y ∷ us)) ≡ false
    two x y us l true f k =
        some_of (values_outside v v (x ∷ y ∷ us)) y
        (keeps (λ z. not (is_within v v z)) (x ∷ y ∷ us) y (out y v (λ e. above x y v l (f refl) e)) (or_right (int_eq y x) (has_value (y ∷ us) y) (has_first y us)))
    two x y us l false f k =
        some_of (values_outside v v (x ∷ y ∷ us)) x (keeps (λ z. not (is_within v v z)) (x ∷ y ∷ us) x (out x v (λ e. let z = k e in cc)) (has_first x (y ∷ us)))

    by : (e : Values) → is_domain_left e ≡ true → left_to box b ≡ e → is_none_left (values_outside v v e) ≡ false
    by [] o f = cc
    by (x ∷ []) o f = some_of (values_outside v v (x ∷ [])) x (keeps (λ z. not (is_within v v z)) (x ∷ []) x (out x v (λ e. clash (f ∙ ap (λ z. z ∷ []) e))) (has_first x []))
    by (x ∷ y ∷ us) o f = two x y us (first (int_lt x y) (is_ascending (y ∷ us)) (ascending_left (x ∷ y ∷ us) o)) (int_eq x v) (Decides-int_eq x v).0 (equal_if x v)

end_of : (d : Values) (v w : ℤ) → is_single d ≡ true → is_none_left d ≡ false → v ≡ least_value d → (w ≡ least_value d) ⊎ (w ≡ greatest_value d) → w ≡ v
end_of d v w s n h (inl f) = f ∙ sym h
end_of d v w s n h (inr f) = f ∙ (single_value d (greatest_value d) s (has_greatest d n) ∙ sym h)

end_outside : (v : ℤ) (e : Values) (w : ℤ) → is_none_left (values_outside v v e) ≡ false → (w ≡ least_value (values_outside v v e)) ⊎ (w ≡ greatest_value (values_outside v v e)) → w ≡ v → ⊥
end_outside v e w n (inl f) k = within v (least_value (values_outside v v e)) (sym k ∙ f) (least_kept (λ z. not (is_within v v z)) e n).0
  where
    within : (v w : ℤ) → v ≡ w → not (is_within v v w) ≡ true → ⊥
    within v w e h = grind (arith, ints)
end_outside v e w n (inr f) k = within v (greatest_value (values_outside v v e)) (sym k ∙ f) (greatest_kept (λ z. not (is_within v v z)) e n).0
  where
    within : (v w : ℤ) → v ≡ w → not (is_within v v w) ≡ true → ⊥
    within v w e h = grind (arith, ints)

moved_ends : (here there : Values) (w : ℤ) → here ≡ there → (w ≡ least_value here) ⊎ (w ≡ greatest_value here) → (w ≡ least_value there) ⊎ (w ≡ greatest_value there)
moved_ends here there w e (inl f) = inl (f ∙ ap least_value e)
moved_ends here there w e (inr f) = inr (f ∙ ap greatest_value e)

pub lost_full : (g : Game) (c : Rule) (box new : Box) (a b : Arg) (v : ℤ) → IsPair g c box a b → has_empty box ≡ false → is_single (left_to box a) ≡ true → v ≡ least_value (left_to box a) → are_one_value (left_to box a) (left_to box b) ≡ false →
    new ≡ box_with box b (values_outside v v (left_to box b)) → has_empty new ≡ false
lost_full g c box new a b v p f s h d n = ap has_empty n ∙ with_full box b (values_outside v v (left_to box b)) f (others_stay g c box a b v p s h d)

pub lost_keeps : (g : Game) (c : Rule) (box new : Box) (a b : Arg) (v : ℤ) → IsPair g c box a b → IsTested c box a b are_one_value → is_single (left_to box a) ≡ true → v ≡ least_value (left_to box a) → are_one_value (left_to box a) (left_to box b) ≡ false →
    new ≡ box_with box b (values_outside v v (left_to box b)) → keeps_ends new c ≡ true
lost_keeps g c box new a b v p t s h d n =
    let da = left_to box a in
    let e = values_outside v v (left_to box b) in
    let stay = others_stay g c box a b v p s h d in
    let some = some_left da p.open_first in
    let new_b : left_to new b ≡ e = ap (λ z. left_to z b) n ∙ with_kept box b (λ z. not (is_within v v z)) p.open_second stay in
    let new_a : left_to new a ≡ da = ap (λ z. left_to z a) n ∙ with_other box b a e (flipped a b p.apart) in
    let alike : AlikeBut a b box new = subst (λ z. AlikeBut a b box z) (sym n) (alike_second a b box box e (alike_same a b box)) in
    p.own new alike (ap is_none_left new_a ∙ some) (ap is_none_left new_b ∙ stay)
    (keeps_side c new a
    (λ x q w m.
    at_first c box new a b are_one_value x (w ∷ []) t alike p.apart (ap is_none_left new_a ∙ some) q
    ∙ (ap (are_one_value (w ∷ [])) new_b
    ∙ one_false true (is_single e) (int_eq w (least_value e)) (λ y z. differ w (least_value e) (λ i. end_outside v (left_to box b) w stay (inl i) (end_of da v w s some h (moved_ends (left_to new a) da w new_a m)))))))
    (keeps_side c new b
    (λ x q w m.
    at_second c box new a b are_one_value x (w ∷ []) t alike p.apart (ap is_none_left new_b ∙ stay) q
    ∙ (ap (λ z. are_one_value z (w ∷ [])) new_a
    ∙ one_false (is_single da) true (int_eq (least_value da) w) (λ y z. differ (least_value da) w (λ i. end_outside v (left_to box b) w stay (moved_ends (left_to new b) e w new_b m) (sym i ∙ sym h))))))

both_bools : (b : Bool) → b ≡ false → b ≡ true → ⊥
both_bools true h k = cc
both_bools false h k = cc

-- nothing is refuted before one is fixed
pub unfixed_keeps : (g : Game) (c : Rule) (box : Box) (a b : Arg) → IsPair g c box a b → IsTested c box a b are_one_value → is_single (left_to box a) ≡ false → is_single (left_to box b) ≡ false → keeps_ends box c ≡ true
unfixed_keeps g c box a b p t h k =
    let d = left_to box a in
    let e = left_to box b in
    p.own box (alike_same a b box) (some_left d p.open_first) (some_left e p.open_second)
    (keeps_side c box a
    (λ x q w m.
    at_first c box box a b are_one_value x (w ∷ []) t (alike_same a b box) p.apart (some_left d p.open_first) q
    ∙ one_false true (is_single e) (int_eq w (least_value e)) (λ y z. absurd (both_bools (is_single e) k z))))
    (keeps_side c box b
    (λ x q w m.
    at_second c box box a b are_one_value x (w ∷ []) t (alike_same a b box) p.apart (some_left e p.open_second) q
    ∙ one_false (is_single d) true (int_eq (least_value d) w) (λ y z. absurd (both_bools (is_single d) h y))))
