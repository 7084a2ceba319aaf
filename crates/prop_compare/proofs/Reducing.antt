-- What both arguments keep, as removals of a box.
use Rattle.std.proofs.Common.{◌≡◌, ◌⊎◌, inl, inr, Bool, true, false, not, [], ◌∷◌, Option, Some, None, refl, sym, ap, ◌∙◌, subst, set, ℤ}
use Rattle.std.specs.Prelude.{int_lt, IfNone, IfSome}
use Rattle.std.proofs.lemmas.Bool.{not_from_false, and_from}
use Rattle.qc_model.specs.declared.problem.Arg.{Arg}
use Rattle.qc_model.specs.declared.problem.Arg.TheVariants.{Var, Num}
use Rattle.qc_model.specs.declared.problem.VarId.{VarId}
use Rattle.qc_model.specs.Closed.{refutes_at}
use Rattle.qc_model.specs.Content.{Game, Rule}
use Rattle.qc_model.specs.Domains.{Values, Box, values_left, values_within, is_within, is_none_left, least_value, greatest_value}
use Rattle.qc_model.specs.Refuted.{left_to, refuted_by}
use Rattle.qc_refuter.proofs.Domains.{some_left}
use Rattle.prop_base.specs.Closed.{keeps_arg}
use Rattle.prop_compare.specs.declared.keeping.Keeping.{Keeping}
use Rattle.model_arguments.specs.Repeats.{same_variable}
use Rattle.prop_compare.specs.Compared.{box_kept, AlikeBut, IsPair, IsTested, IsPart}
use Rattle.prop_compare.specs.Keeping.{IsReduction, IsReducing, kept}
use Rattle.model_arguments.proofs.Items.{flipped}
use Rattle.prop_compare.proofs.Sides.{set_to, kept_there, var_of, with_kept, with_other, alike_same, alike_first, alike_second}

-- an argument keeps its ends where the test fails at both
pub keeps_side : (c : Rule) (box : Box) (a : Arg) → ((x : VarId) → a ≡ Var x → (v : ℤ) → (v ≡ least_value (left_to box a)) ⊎ (v ≡ greatest_value (left_to box a)) → refuted_by c (set box x.0 (v ∷ [])) ≡ false) → keeps_arg c box a ≡ true
keeps_side c box (Num n) f = refl
keeps_side c box (Var x) f =
    let d = values_left box x.0 in
    and_from (not (refutes_at c box x.0 (least_value d))) (not (refutes_at c box x.0 (greatest_value d)))
    (not_from_false (refutes_at c box x.0 (least_value d)) (f x refl (least_value d) (inl refl)))
    (not_from_false (refutes_at c box x.0 (greatest_value d)) (f x refl (greatest_value d) (inr refl)))

-- what the test says where one of both is set
pub at_first : (c : Rule) (box other : Box) (a b : Arg) (test : Values → Values → Bool) (x : VarId) (d : Values) → IsTested c box a b test → AlikeBut a b box other → same_variable a b ≡ false → is_none_left (left_to other a) ≡ false → a ≡ Var x →
    refuted_by c (set other x.0 d) ≡ test d (left_to other b)
at_first c box other (Num n) b test x d t f s o q = cc
at_first c box other (Var y) b test x d t f s o q = subst (λ (z : VarId). refuted_by c (set other z.0 d) ≡ test d (left_to other b)) (same q) here
  where
    same : Var y ≡ Var x → y ≡ x
    same q = ap var_of q

    here : refuted_by c (set other y.0 d) ≡ test d (left_to other b)
    here =
        t (set other y.0 d) (alike_first (Var y) b box other d f)
        ∙ (ap (λ z. test z (left_to (set other y.0 d) b)) (set_to other y d o) ∙ ap (test d) (with_other other (Var y) b d s))

pub at_second : (c : Rule) (box other : Box) (a b : Arg) (test : Values → Values → Bool) (x : VarId) (d : Values) → IsTested c box a b test → AlikeBut a b box other → same_variable a b ≡ false → is_none_left (left_to other b) ≡ false → b ≡ Var x →
    refuted_by c (set other x.0 d) ≡ test (left_to other a) d
at_second c box other a (Num n) test x d t f s o q = cc
at_second c box other a (Var y) test x d t f s o q = subst (λ (z : VarId). refuted_by c (set other z.0 d) ≡ test (left_to other a) d) (same q) here
  where
    same : Var y ≡ Var x → y ≡ x
    same q = ap var_of q

    here : refuted_by c (set other y.0 d) ≡ test (left_to other a) d
    here =
        t (set other y.0 d) (alike_second a (Var y) box other d f)
        ∙ (ap (λ z. test z (values_left (set other y.0 d) y.0)) (with_other other (Var y) a d (flipped a (Var y) s)) ∙ ap (test (left_to other a)) (set_to other y d o))

pub reduces : (g : Game) (c : Rule) (box : Box) (a b : Arg) (test : Values → Values → Bool) (k : Keeping) → IsPair g c box a b → IsTested c box a b test → IsReduction test (left_to box a) (left_to box b) k → IsReducing c box a b k
reduces g c box a b test k p t r =
    let d = left_to box a in
    let e = left_to box b in
    let one = box_kept box a k.first.lo k.first.hi in
    let two = box_kept one b k.second.lo k.second.hi in
    let alike_one = alike_first a b box box (kept k.first d) (alike_same a b box) in
    let alike_two = alike_second a b box one (values_within k.second.lo k.second.hi (left_to one b)) alike_one in
    let one_a : left_to one a ≡ kept k.first d = with_kept box a (is_within k.first.lo k.first.hi) p.open_first r.some_first in
    let one_b : left_to one b ≡ e = with_other box a b (kept k.first d) p.apart in
    let some_b : is_none_left (values_within k.second.lo k.second.hi (left_to one b)) ≡ false = ap (λ z. is_none_left (kept k.second z)) one_b ∙ r.some_second in
    let two_b : left_to two b ≡ kept k.second e = kept_there one b k.second.lo k.second.hi (ap is_none_left one_b ∙ some_left e p.open_second) some_b ∙ ap (kept k.second) one_b in
    let two_a : left_to two a ≡ kept k.first d = with_other one b a (values_within k.second.lo k.second.hi (left_to one b)) (flipped a b p.apart) ∙ one_a in
    let open_a = some_left d p.open_first in
    let open_two_a = ap is_none_left two_a ∙ r.some_first in
    let open_two_b = ap is_none_left two_b ∙ r.some_second in
    record {
      first = record {
        small_low = r.first_low;
        small_high = r.first_high;
        some = r.some_first;
        under = λ x q u part. at_first c box box a b test x u t (alike_same a b box) p.apart open_a q ∙ r.under_first u (part_of (λ v. int_lt v k.first.lo) box a x u q part);
        over = λ x q u part. at_first c box box a b test x u t (alike_same a b box) p.apart open_a q ∙ r.over_first u (part_of (λ v. int_lt k.first.hi v) box a x u q part);
      };
      second = record {
        small_low = r.second_low;
        small_high = r.second_high;
        some = some_b;
        under = λ x q u part.
            at_second c box one a b test x u t alike_one p.apart (ap is_none_left one_b ∙ some_left e p.open_second) q
            ∙ (ap (λ z. test z u) one_a ∙ r.under_second u (subst (λ z. IsPart (λ v. int_lt v k.second.lo) u z) one_b (part_of (λ v. int_lt v k.second.lo) one b x u q part)));
        over = λ x q u part.
            at_second c box one a b test x u t alike_one p.apart (ap is_none_left one_b ∙ some_left e p.open_second) q
            ∙ (ap (λ z. test z u) one_a ∙ r.over_second u (subst (λ z. IsPart (λ v. int_lt k.second.hi v) u z) one_b (part_of (λ v. int_lt k.second.hi v) one b x u q part)));
      };
      closed =
          p.own two alike_two open_two_a open_two_b
          (keeps_side c two a
          (λ x q v w.
          at_first c box two a b test x (v ∷ []) t alike_two p.apart open_two_a q
          ∙ (ap (test (v ∷ [])) two_b ∙ ends (λ z. test (z ∷ []) (kept k.second e)) (left_to two a) (kept k.first d) v two_a w r.first_least r.first_greatest)))
          (keeps_side c two b
          (λ x q v w.
          at_second c box two a b test x (v ∷ []) t alike_two p.apart open_two_b q
          ∙ (ap (λ z. test z (v ∷ [])) two_a ∙ ends (λ z. test (kept k.first d) (z ∷ [])) (left_to two b) (kept k.second e) v two_b w r.second_least r.second_greatest)));
    }
  where
    part_of : (q : ℤ → Bool) (box : Box) (a : Arg) (x : VarId) (u : Values) → a ≡ Var x → IsPart q u (values_left box x.0) → IsPart q u (left_to box a)
    part_of q box a x u e part = subst (λ z. IsPart q u (left_to box z)) (sym e) part

    ends : (p : ℤ → Bool) (here there : Values) (v : ℤ) → here ≡ there → (v ≡ least_value here) ⊎ (v ≡ greatest_value here) → p (least_value there) ≡ false → p (greatest_value there) ≡ false → p v ≡ false
    ends p here there v e (inl f) h k = ap p (f ∙ ap least_value e) ∙ h
    ends p here there v e (inr f) h k = ap p (f ∙ ap greatest_value e) ∙ k

-- what ranges mean for the box
pub reduces_none : (c : Rule) (box : Box) (a b : Arg) (test : Values → Values → Bool) (k : Option Keeping) → IsTested c box a b test → IfNone k (test (left_to box a) (left_to box b) ≡ true) → IfNone k (refuted_by c box ≡ true)
reduces_none c box a b test None t h = t box (alike_same a b box) ∙ h
reduces_none c box a b test (Some k) t h = tt

pub reduces_some : (g : Game) (c : Rule) (box : Box) (a b : Arg) (test : Values → Values → Bool) (k : Option Keeping) → IsPair g c box a b → IsTested c box a b test → IfSome k (λ r. IsReduction test (left_to box a) (left_to box b) r) →
    IfSome k (λ r. IsReducing c box a b r)
reduces_some g c box a b test None p t h = tt
reduces_some g c box a b test (Some k) p t h = reduces g c box a b test k p t h
