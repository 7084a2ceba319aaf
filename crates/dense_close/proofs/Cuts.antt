-- Ends of a variable that one constraint takes.
use Rattle.std.proofs.Common.{◌≡◌, ◌<◌, ℕ, Bool, true, false, not, ◌&&◌, cond, List, [], ◌∷◌, length, set, filter, refl, sym, ap, ◌∙◌, subst, arith, rules, ℤ}
use Rattle.std.specs.Prelude.{int_le, ◌≤ℤ◌, ◌↔◌, ◌+ℤ◌, ◌-ℤ◌, neg_ℤ, pos, slice_get, Some}
use Rattle.std.specs.List.{list_all}
use Rattle.std.proofs.lemmas.Int.{ints}
use mir.Val.{SFits}
use mir.Syntax.{w64}
use Rattle.std.proofs.lemmas.List.{length-set, get_or-set_other}
use Rattle.std.proofs.lemmas.List.Filters.{length-filter_both}
use Rattle.std.proofs.lemmas.List.Sums.{sum_by-set}
use Rattle.std.proofs.lemmas.Bool.{or_left, or_right, not_from_false, and_from}
use Rattle.qc_model.specs.Arguments.{variables_of}
use Rattle.qc_model.specs.Block.{is_owned_within}
use Rattle.qc_model.specs.Closed.{refutes_at}
use Rattle.qc_model.specs.Content.{Game, Rule}
use Rattle.qc_model.specs.Domains.{Values, Box, declared_box, values_left, values_within, values_outside, box_within, box_without, has_value, has_empty, is_none_left, is_sub_box, is_within, least_value, greatest_value}
use Rattle.qc_model.specs.Lists.{Among}
use Rattle.qc_model.specs.Refuted.{refuted_by}
use Rattle.qc_model.specs.Valid.{IsValid}
use Rattle.qc_model.specs.Verdict.{is_none_of}
use Rattle.model_arguments.specs.Asked.{is_box_of, IsAsked}
use Rattle.model_arguments.proofs.Boxes.{some_left, sub_ascending, sub_without}
use Rattle.model_arguments.proofs.Kept.{over_low, under_high, low_end, high_end, some_of, keeps, inside, through}
use Rattle.qc_model.specs.Valid.{is_number}
use Rattle.model_arguments.proofs.Values.{value_passes, all_kept, has_least, has_greatest, only_within}
use Rattle.model_table.proofs.Ordered.{constraint_at}
use Rattle.fd_store.specs.Held.{count_left}
use Rattle.proof_tree.specs.declared.tree.Step.TheVariants.{Prune}
use Rattle.proof_tree.specs.Steps.{removes_some, is_refuted_within}
use Rattle.dense_closing.specs.Ends.{is_end, may_take, is_end_step}
use Rattle.dense_closing.specs.Takes.{Takes}
use Rattle.dense_closing.proofs.Keeping.{steps_keep}
use Rattle.dense_closing.proofs.Within.{all_own as own_values}
use Rattle.dense_close.specs.declared.cutting.End.{End}
use Rattle.dense_close.specs.declared.cutting.End.TheVariants.{Least, Greatest}
use Rattle.dense_close.specs.Cutting.{IsInside, end_of, IsStretch, IsBarred, IsCut, HasCut}

pub asked : (g : Game) → IsValid g → (box : Box) → is_box_of g box ≡ true → has_empty box ≡ false → (k : ℕ) (c : Rule) → slice_get g.constraints k ≡ Some c → IsAsked g c box
asked g v box d f k c e = record { rule = constraint_at g v k c e; declared = d; full = f }

-- the value at an end is left
has_end : (e : End) (box : Box) (x : ℕ) → is_none_left (values_left box x) ≡ false → has_value (values_left box x) (end_of e box x) ≡ true
has_end Least box x n = has_least (values_left box x) n
has_end Greatest box x n = has_greatest (values_left box x) n

pub alone : (e : End) (g : Game) (box : Box) (x : ℕ) (v : ℤ) → is_box_of g box ≡ true → has_empty box ≡ false → x < length box → v ≡ end_of e box x → values_within v v (values_left box x) ≡ v ∷ []
alone e g box x v d f l q =
    only_within v (values_left box x) (sub_ascending box (declared_box g) x d)
    (subst (λ w. has_value (values_left box x) w ≡ true) (sym q) (has_end e box x (some_left box x f l)))

pub some_alone : (e : End) (g : Game) (box : Box) (x : ℕ) (v : ℤ) → is_box_of g box ≡ true → has_empty box ≡ false → x < length box → v ≡ end_of e box x → is_none_left (values_within v v (values_left box x)) ≡ false
some_alone e g box x v d f l q = ap is_none_left (alone e g box x v d f l q)

-- a box with the end alone
pub same_alone : (e : End) (g : Game) (box : Box) (x : ℕ) (v : ℤ) (c : Rule) → is_box_of g box ≡ true → has_empty box ≡ false → x < length box → v ≡ end_of e box x → refuted_by c (box_within box x v v) ≡ refutes_at c box x (end_of e box x)
same_alone e g box x v c d f l q = ap (λ us. refuted_by c (set box x us)) (alone e g box x v d f l q) ∙ ap (refutes_at c box x) q

at_most_itself : (v w : ℤ) → v ≡ w → int_le v w ≡ true
at_most_itself v w e = grind (arith, ints)

is_at_end : (e : End) (box : Box) (x : ℕ) (v : ℤ) → v ≡ end_of e box x → is_end v v (values_left box x) ≡ true
is_at_end Least box x v q = or_left (int_le v (least_value (values_left box x))) (int_le (greatest_value (values_left box x)) v) (at_most_itself v (least_value (values_left box x)) q)
is_at_end Greatest box x v q = or_right (int_le v (least_value (values_left box x))) (int_le (greatest_value (values_left box x)) v) (at_most_itself (greatest_value (values_left box x)) v (sym q))

pub stretch_one : (e : End) (g : Game) (k : ℕ) (box : Box) (x : ℕ) (v : ℤ) → is_box_of g box ≡ true → has_empty box ≡ false → x < length box → v ≡ end_of e box x → ((c : Rule) → slice_get g.constraints k ≡ Some c → refutes_at c box x (end_of e box x) ≡ true) →
    IsStretch g k x box v v
stretch_one e g k box x v d f l q r = record {
  some = some_alone e g box x v d f l q;
  end = is_at_end e box x v q;
  refuted = λ c s. same_alone e g box x v c d f l q ∙ r c s;
}

-- longer ones
end_small : (e : End) (box : Box) (x : ℕ) → list_all is_number (values_left box x) ≡ true → is_none_left (values_left box x) ≡ false → is_number (end_of e box x) ≡ true
end_small e box x s n = value_passes is_number (values_left box x) (end_of e box x) s (has_end e box x n)

pub least_small : (box : Box) (x : ℕ) → x < length box → has_empty box ≡ false → list_all is_number (values_left box x) ≡ true → is_number (least_value (values_left box x)) ≡ true
least_small box x l f s = end_small Least box x s (some_left box x f l)

pub greatest_small : (box : Box) (x : ℕ) → x < length box → has_empty box ≡ false → list_all is_number (values_left box x) ≡ true → is_number (greatest_value (values_left box x)) ≡ true
greatest_small box x l f s = end_small Greatest box x s (some_left box x f l)

pub itself : (n m : ℤ) → n ≡ m → n ≤ℤ m
itself n m e = omega (arith, ints)

pub inside_one : (e : End) (box : Box) (x : ℕ) (v : ℤ) → x < length box → has_empty box ≡ false → v ≡ end_of e box x → IsInside (least_value (values_left box x)) (greatest_value (values_left box x)) v v
inside_one e box x v l f q =
    let has = subst (λ w. has_value (values_left box x) w ≡ true) (sym q) (has_end e box x (some_left box x f l)) in
    record { above = low_end (values_left box x) v has; order = itself v v refl; below = high_end (values_left box x) v has }

pub some_spanned : (e : End) (box : Box) (x : ℕ) (low high : ℤ) → x < length box → has_empty box ≡ false → low ≤ℤ end_of e box x → end_of e box x ≤ℤ high → is_none_left (values_within low high (values_left box x)) ≡ false
some_spanned e box x low high l f a b =
    some_of (values_within low high (values_left box x)) (end_of e box x) (keeps (is_within low high) (values_left box x) (end_of e box x) (inside low high (end_of e box x) a b) (has_end e box x (some_left box x f l)))

as_test : (a b : ℤ) → a ≤ℤ b → int_le a b ≡ true
as_test a b h = grind (arith, ints)

spans_end : (e : End) (box : Box) (x : ℕ) (low high : ℤ) → low ≤ℤ end_of e box x → end_of e box x ≤ℤ high → is_end low high (values_left box x) ≡ true
spans_end Least box x low high a b = or_left (int_le low (least_value (values_left box x))) (int_le (greatest_value (values_left box x)) high) (as_test low (least_value (values_left box x)) a)
spans_end Greatest box x low high a b = or_right (int_le low (least_value (values_left box x))) (int_le (greatest_value (values_left box x)) high) (as_test (greatest_value (values_left box x)) high b)

pub stretch_of : (e : End) (g : Game) (k : ℕ) (box : Box) (x : ℕ) (low high : ℤ) → x < length box → has_empty box ≡ false → low ≤ℤ end_of e box x → end_of e box x ≤ℤ high → ((c : Rule) → slice_get g.constraints k ≡ Some c → refuted_by c (box_within box x low high) ≡ true) →
    IsStretch g k x box low high
stretch_of e g k box x low high l f a b r = record { some = some_spanned e box x low high l f a b; end = spans_end e box x low high a b; refuted = r }

-- values that are refuted whichever of them are left
pub all_own : (p : ℤ → Bool) (vs : Values) → list_all p (filter p vs) ≡ true
all_own p [] = refl
all_own p (v ∷ vs) = by (p v) refl (all_own p vs)
  where
    by : (b : Bool) → p v ≡ b → list_all p (filter p vs) ≡ true → list_all p (cond b (v ∷ filter p vs) (filter p vs)) ≡ true
    by true e h = and_from (p v) (list_all p (filter p vs)) e h
    by false e h = h

pub stretch_barred : (e : End) (g : Game) (k : ℕ) (box : Box) (x : ℕ) (low high v : ℤ) → x < length box → has_empty box ≡ false → v ≡ end_of e box x → low ≤ℤ v → v ≤ℤ high → IsBarred g k x box low high → IsStretch g k x box low high
stretch_barred e g k box x low high v l f q a b h =
    let below = subst (λ w. low ≤ℤ w) q a in
    let above = subst (λ w. w ≤ℤ high) q b in
    stretch_of e g k box x low high l f below above (λ c there.
    h c there (values_within low high (values_left box x)) (some_spanned e box x low high l f below above)
    (all_kept (has_value (values_left box x)) (is_within low high) (values_left box x) (own_values (values_left box x))) (all_own (is_within low high) (values_left box x)))

pub longer_up : (least greatest low high far end : ℤ) → IsInside least greatest low high → ((n : ℤ) → (n ≤ℤ end) ↔ ((n ≤ℤ far) × (n ≤ℤ greatest))) → far ≡ high +ℤ ((high -ℤ low) +ℤ pos 1) → IsInside least greatest low end × (high ≤ℤ end)
longer_up least greatest low high far end i h e =
    let more : high ≤ℤ far = (let a = i.order in omega (arith, ints)) in
    let up : high ≤ℤ end = (h high).1 (more, i.below) in
    (record { above = i.above; order = through low high end i.order up; below = ((h end).0 (itself end end refl)).1 }, up)

pub fits_down : (least greatest low high : ℤ) → is_number least ≡ true → is_number greatest ≡ true → IsInside least greatest low high → SFits w64 (low -ℤ ((high -ℤ low) +ℤ pos 1))
fits_down least greatest low high l g i =
    let a = over_low least l in
    let b = under_high greatest g in
    let m : neg_ℤ (pos 4000000000) ≤ℤ (low -ℤ ((high -ℤ low) +ℤ pos 1)) = (let x = i.above in let y = i.order in let z = i.below in omega (arith, ints)) in
    let n : (low -ℤ ((high -ℤ low) +ℤ pos 1)) ≤ℤ pos 4000000000 = (let x = i.above in let y = i.order in let z = i.below in omega (arith, ints)) in
    fits (low -ℤ ((high -ℤ low) +ℤ pos 1)) m n
  where
    fits : (v : ℤ) → neg_ℤ (pos 4000000000) ≤ℤ v → v ≤ℤ pos 4000000000 → SFits w64 v
    fits v h k = search (rules, ints)

pub fits_up : (least greatest low high : ℤ) → is_number least ≡ true → is_number greatest ≡ true → IsInside least greatest low high → SFits w64 (high +ℤ ((high -ℤ low) +ℤ pos 1))
fits_up least greatest low high l g i =
    let a = over_low least l in
    let b = under_high greatest g in
    let m : neg_ℤ (pos 4000000000) ≤ℤ (high +ℤ ((high -ℤ low) +ℤ pos 1)) = (let x = i.above in let y = i.order in let z = i.below in omega (arith, ints)) in
    let n : (high +ℤ ((high -ℤ low) +ℤ pos 1)) ≤ℤ pos 4000000000 = (let x = i.above in let y = i.order in let z = i.below in omega (arith, ints)) in
    fits (high +ℤ ((high -ℤ low) +ℤ pos 1)) m n
  where
    fits : (v : ℤ) → neg_ℤ (pos 4000000000) ≤ℤ v → v ≤ℤ pos 4000000000 → SFits w64 v
    fits v h k = search (rules, ints)

pub longer_down : (least greatest low high far end : ℤ) → IsInside least greatest low high → ((n : ℤ) → (end ≤ℤ n) ↔ ((far ≤ℤ n) × (least ≤ℤ n))) → far ≡ low -ℤ ((high -ℤ low) +ℤ pos 1) → IsInside least greatest end high × (end ≤ℤ low)
longer_down least greatest low high far end i h e =
    let less : far ≤ℤ low = (let a = i.order in omega (arith, ints)) in
    let down : end ≤ℤ low = (h low).1 (less, i.above) in
    (record { above = ((h end).0 (itself end end refl)).1; order = through end low high down i.order; below = i.below }, down)

-- a stretch goes
some_of_own : (xs : List ℕ) (x : ℕ) → Among x xs → not (is_none_of xs) ≡ true
some_of_own [] x m = absurd m
some_of_own (y ∷ xs) x m = refl

pub cut_step : (g : Game) → IsValid g → (k x : ℕ) (box : Box) (low high : ℤ) (now : Box) → is_box_of g box ≡ true → has_empty box ≡ false → IsStretch g k x box low high → now ≡ box_without box x low high → IsCut g k x box now
cut_step g v k x box low high now d f s e = record {
  count = ap length e ∙ length-set box x (values_outside low high (values_left box x));
  others = λ y n. ap (λ b. values_left b y) e ∙ get_or-set_other box x y (values_outside low high (values_left box x)) [] n;
  fewer = λ large h. subst (λ b. is_sub_box b large ≡ true) (sym e) (sub_without box large x low high h);
  around = λ takes i stop c there owned own taken small within closed.
      subst (λ b. is_sub_box small b ≡ true) (sym e)
      (steps_keep takes g v i stop (Prune (record { 0 = x }) low high (record { 0 = k }) ∷ []) box small d (and_from (is_end_step takes g i stop (Prune (record { 0 = x }) low high (record { 0 = k })) box) true (step takes i stop c there owned own taken) refl) within closed);
}
  where
    rest : (takes : Takes) (c : Rule) → Among x (variables_of c.args) → takes c x ≡ true → may_take takes (Some c) x ≡ true
    rest takes c own taken = and_from (takes c x) (not (is_none_of (variables_of c.args))) taken (some_of_own (variables_of c.args) x own)

    step : (takes : Takes) (i stop : ℕ) (c : Rule) → slice_get g.constraints k ≡ Some c → is_owned_within i stop c ≡ true → Among x (variables_of c.args) → takes c x ≡ true →
        is_end_step takes g i stop (Prune (record { 0 = x }) low high (record { 0 = k })) box ≡ true
    step takes i stop c there owned own taken =
        and_from (removes_some box x low high && is_refuted_within i stop (slice_get g.constraints k) (box_within box x low high)) (is_end low high (values_left box x) && may_take takes (slice_get g.constraints k) x)
        (and_from (removes_some box x low high) (is_refuted_within i stop (slice_get g.constraints k) (box_within box x low high))
        (and_from (not (has_empty box)) (not (is_none_left (values_within low high (values_left box x)))) (not_from_false (has_empty box) f) (not_from_false (is_none_left (values_within low high (values_left box x))) s.some))
        (subst (λ o. is_refuted_within i stop o (box_within box x low high) ≡ true) (sym there) (and_from (is_owned_within i stop c) (refuted_by c (box_within box x low high)) owned (s.refuted c there))))
        (and_from (is_end low high (values_left box x)) (may_take takes (slice_get g.constraints k) x) s.end (subst (λ o. may_take takes o x ≡ true) (sym there) (rest takes c own taken)))

pub cut_more : (g : Game) (k x : ℕ) (a b c : Box) → IsCut g k x a b → IsCut g k x b c → IsCut g k x a c
cut_more g k x a b c p q = record {
  count = q.count ∙ p.count;
  others = λ y n. q.others y n ∙ p.others y n;
  fewer = λ large h. q.fewer large (p.fewer large h);
  around = λ takes i stop r there owned own taken small within closed. q.around takes i stop r there owned own taken small (p.around takes i stop r there owned own taken small within closed) closed;
}

-- fewer values are left
fewer_values : (p : ℤ → Bool) (vs : Values) → is_none_left (filter p vs) ≡ false → length (filter (λ v. not (p v)) vs) < length vs
fewer_values p vs h = let both = length-filter_both p (λ v. not (p v)) (λ v. refl) vs in let some = long (filter p vs) h in omega arith
  where
    long : (us : Values) → is_none_left us ≡ false → 0 < length us
    long [] n = cc
    long (u ∷ us) n = omega arith

count_less : (box : Box) (x : ℕ) (us : Values) → x < length box → length us < length (values_left box x) → count_left (set box x us) < count_left box
count_less box x us l h = omega (arith, sum_by-set length box x us [] l)

pub less_after : (g : Game) (k x : ℕ) (box : Box) (low high : ℤ) (now : Box) → x < length box → IsStretch g k x box low high → now ≡ box_without box x low high → count_left now < count_left box
less_after g k x box low high now l s e =
    subst (λ b. count_left b < count_left box) (sym e) (count_less box x (values_outside low high (values_left box x)) l (fewer_values (is_within low high) (values_left box x) s.some))

pub gone_more : (b : Bool) (first box now : Box) → HasCut b first box → count_left now < count_left box → count_left now < count_left first
gone_more true first box now h l = omega arith
gone_more false first box now h l = subst (λ b. count_left now < count_left b) h l
