-- What a constraint refutes whose last argument tells whether a comparison of two others holds.
use Rattle.std.proofs.Common.{◌≡◌, ◌⊎◌, inl, inr, Bool, true, false, not, ◌&&◌, ◌||◌, [], ◌∷◌, set, refl, sym, ap, ◌∙◌, subst, ℤ}
use Rattle.std.specs.Prelude.{pos}
use Rattle.std.proofs.lemmas.Bool.{false_from_ne_true}
use Rattle.qc_model.specs.declared.problem.Arg.{Arg}
use Rattle.qc_model.specs.declared.problem.Arg.TheVariants.{Var, Num}
use Rattle.qc_model.specs.declared.problem.VarId.{VarId}
use Rattle.qc_model.specs.Closed.{refutes_at, keeps_ends}
use Rattle.qc_model.specs.Content.{Game, Rule}
use Rattle.qc_model.specs.Domains.{Values, Box, values_left, values_within, values_outside, box_without, is_none_left, is_single, has_empty, has_value, least_value, greatest_value}
use Rattle.qc_model.specs.Refuted.{left_to, refuted_by}
use Rattle.qc_model.specs.Valid.{is_number}
use Rattle.qc_model.proofs.Readable.{first}
use Rattle.model_arguments.proofs.Boxes.{set_full}
use Rattle.model_arguments.proofs.Values.{has_least, has_greatest}
use Rattle.model_arguments.proofs.Bools.{not_false, clash}
use Rattle.qc_refuter.proofs.Domains.{some_left}
use Rattle.prop_base.specs.declared.cuts.Cut.{Cut}
use Rattle.prop_base.specs.Closed.{IsCut, keeps_arg}
use Rattle.model_arguments.specs.Repeats.{is_variable, same_variable}
use Rattle.prop_compare.specs.Compared.{is_literal_arg, AlikeBut, IsPair, IsTested}
use Rattle.prop_compare.specs.Telling.{truth_of, refuting_as, is_mistold, are_tangled, IsTelling}
use Rattle.prop_compare.specs.declared.comparing.Comparison.{Comparison}
use Rattle.prop_compare.proofs.Decided.{as_first, as_second, other_fails, mistold_one, mistold_both, both_truths, two_values}
use Rattle.prop_compare.proofs.Kept.{single_value}
use Rattle.prop_compare.proofs.Reducing.{keeps_side}
use Rattle.model_arguments.proofs.Items.{flipped}
use Rattle.prop_compare.proofs.Sides.{var_of, open_place, set_to, with_other}

-- the three aren't tangled
record AreApart (a b r : Arg) : Type 0 where
  some : (is_literal_arg a && is_literal_arg b) ≡ false
  pair : same_variable a b ≡ false
  first_last : same_variable a r ≡ false
  second_last : same_variable b r ≡ false

apart_of : (a b r : Arg) → are_tangled a b r ≡ false → AreApart a b r
apart_of a b r h = by (is_literal_arg a && is_literal_arg b) (same_variable a b) (same_variable a r) (same_variable b r) refl refl refl refl h
  where
    by : (p q s t : Bool) → (is_literal_arg a && is_literal_arg b) ≡ p → same_variable a b ≡ q → same_variable a r ≡ s → same_variable b r ≡ t → (p || (q || (s || t))) ≡ false → AreApart a b r
    by true q s t e f g h z = cc
    by false true s t e f g h z = cc
    by false false true t e f g h z = cc
    by false false false true e f g h z = cc
    by false false false false e f g h z = record { some = e; pair = f; first_last = g; second_last = h }

apart_by : (g : Game) (c : Rule) (box : Box) (k : Comparison) (a b r : Arg) → IsTelling g c box k a b r → AreApart a b r
apart_by g c box k a b r t = apart_of a b r t.untangled

-- one of the three is set
set_here : (box : Box) (a : Arg) (x : VarId) (d : Values) → a ≡ Var x → is_none_left (left_to box a) ≡ false → left_to (set box x.0 d) a ≡ d
set_here box (Num n) x d q o = cc
set_here box (Var y) x d q o = subst (λ (z : VarId). values_left (set box z.0 d) y.0 ≡ d) (ap var_of q) (set_to box y d o)

set_there : (box : Box) (a b : Arg) (x : VarId) (d : Values) → a ≡ Var x → same_variable a b ≡ false → left_to (set box x.0 d) b ≡ left_to box b
set_there box (Num n) b x d q s = cc
set_there box (Var y) b x d q s = subst (λ (z : VarId). left_to (set box z.0 d) b ≡ left_to box b) (ap var_of q) (with_other box (Var y) b d s)

told_by : (g : Game) (c : Rule) (box other : Box) (k : Comparison) (a b r : Arg) (d e f : Values) → IsTelling g c box k a b r → left_to other a ≡ d → left_to other b ≡ e → left_to other r ≡ f → refuted_by c other ≡ is_mistold k d e f
told_by g c box other k a b r d e f t p q s =
    t.refutes other
    ∙ (ap (λ z. is_mistold k z (left_to other b) (left_to other r)) p ∙ (ap (λ z. is_mistold k d z (left_to other r)) q ∙ ap (is_mistold k d e) s))

-- an argument's ends
end_there : (d : Values) (v : ℤ) → is_none_left d ≡ false → (v ≡ least_value d) ⊎ (v ≡ greatest_value d) → has_value d v ≡ true
end_there d v n (inl e) = subst (λ z. has_value d z ≡ true) (sym e) (has_least d n)
end_there d v n (inr e) = subst (λ z. has_value d z ≡ true) (sym e) (has_greatest d n)

-- three arguments keep their ends where no single value is mistold
record IsKept (k : Comparison) (d e f : Values) : Type 0 where
  first : (v : ℤ) → has_value d v ≡ true → is_mistold k (v ∷ []) e f ≡ false
  second : (v : ℤ) → has_value e v ≡ true → is_mistold k d (v ∷ []) f ≡ false
  last : (v : ℤ) → has_value f v ≡ true → is_mistold k d e (v ∷ []) ≡ false

keeps_three : (g : Game) (c : Rule) (box other : Box) (k : Comparison) (a b r : Arg) (d e f : Values) → IsTelling g c box k a b r → left_to other a ≡ d → left_to other b ≡ e → left_to other r ≡ f →
    is_none_left d ≡ false → is_none_left e ≡ false → is_none_left f ≡ false → IsKept k d e f →
    (keeps_arg c other a ≡ true) × (keeps_arg c other b ≡ true) × (keeps_arg c other r ≡ true)
keeps_three g c box other k a b r d e f t p q s l m n h =
    let i = apart_by g c box k a b r t in
    let some_a = ap is_none_left p ∙ l in
    let some_b = ap is_none_left q ∙ m in
    let some_r = ap is_none_left s ∙ n in (
      keeps_side c other a
          (λ x u v w.
          told_by g c box (set other x.0 (v ∷ [])) k a b r (v ∷ []) e f t (set_here other a x (v ∷ []) u some_a) (set_there other a b x (v ∷ []) u i.pair ∙ q) (set_there other a r x (v ∷ []) u i.first_last ∙ s)
          ∙ h.first v (ap (λ z. has_value z v) (sym p) ∙ end_there (left_to other a) v some_a w)),
      keeps_side c other b
          (λ x u v w.
          told_by g c box (set other x.0 (v ∷ [])) k a b r d (v ∷ []) f t (set_there other b a x (v ∷ []) u (flipped a b i.pair) ∙ p) (set_here other b x (v ∷ []) u some_b) (set_there other b r x (v ∷ []) u i.second_last ∙ s)
          ∙ h.second v (ap (λ z. has_value z v) (sym q) ∙ end_there (left_to other b) v some_b w)),
      keeps_side c other r
          (λ x u v w.
          told_by g c box (set other x.0 (v ∷ [])) k a b r d e (v ∷ []) t (set_there other r a x (v ∷ []) u (flipped a r i.first_last) ∙ p) (set_there other r b x (v ∷ []) u (flipped b r i.second_last) ∙ q) (set_here other r x (v ∷ []) u some_r)
          ∙ h.last v (ap (λ z. has_value z v) (sym s) ∙ end_there (left_to other r) v some_r w)),
    )

-- both truth values are left, and neither is refuted
settled : (k : Comparison) (d e : Values) → is_none_left d ≡ false → is_none_left e ≡ false → refuting_as k true d e ≡ false → refuting_as k false d e ≡ false → IsKept k d e (pos 0 ∷ pos 1 ∷ [])
settled k d e n m h l = record {
  first = λ v i. mistold_both k (v ∷ []) e refl m;
  second = λ v i. mistold_both k d (v ∷ []) n refl;
  last = λ v i. by v i;
}
  where
    by : (v : ℤ) → has_value (pos 0 ∷ pos 1 ∷ []) v ≡ true → is_mistold k d e (v ∷ []) ≡ false
    by v i = of v (two_values v i)
      where
        of : (v : ℤ) → (v ≡ pos 0) ⊎ (v ≡ pos 1) → is_mistold k d e (v ∷ []) ≡ false
        of v (inl q) = ap (λ z. is_mistold k d e (z ∷ [])) q ∙ (mistold_one k false d e ∙ l)
        of v (inr q) = ap (λ z. is_mistold k d e (z ∷ [])) q ∙ (mistold_one k true d e ∙ h)

-- one truth value is left, and the other was refuted
told : (k : Comparison) (t : Bool) (d e : Values) → is_none_left d ≡ false → is_none_left e ≡ false → refuting_as k t d e ≡ true → IsKept k d e (truth_of (not t) ∷ [])
told k t d e n m h = record {
  first = λ v i. mistold_one k (not t) (v ∷ []) e ∙ other_fails k t (v ∷ []) e refl m (as_first k t d e v i h);
  second = λ v i. mistold_one k (not t) d (v ∷ []) ∙ other_fails k t d (v ∷ []) n refl (as_second k t d e v i h);
  last = λ v i.
      ap (λ z. is_mistold k d e (z ∷ [])) (single_value (truth_of (not t) ∷ []) v refl i)
      ∙ (mistold_one k (not t) d e ∙ other_fails k t d e n m h);
}

-- before the last argument has one value
pub loose_keeps : (g : Game) (c : Rule) (box : Box) (k : Comparison) (a b : Arg) (x : VarId) → IsTelling g c box k a b (Var x) → is_single (values_left box x.0) ≡ false →
    refuting_as k true (left_to box a) (left_to box b) ≡ false → refuting_as k false (left_to box a) (left_to box b) ≡ false → keeps_ends box c ≡ true
loose_keeps g c box k a b x t s h l =
    let d = left_to box a in
    let e = left_to box b in
    let f = both_truths (values_left box x.0) t.open_last t.truth s in
    let p = keeps_three g c box box k a b (Var x) d e (pos 0 ∷ pos 1 ∷ []) t refl refl f (some_left d t.open_first) (some_left e t.open_second) refl (settled k d e (some_left d t.open_first) (some_left e t.open_second) h l) in
    t.own box p.0 p.1 p.2

-- a truth value that is refuted goes
pub one_within : (t : Bool) → values_within (truth_of t) (truth_of t) (pos 0 ∷ pos 1 ∷ []) ≡ truth_of t ∷ []
one_within true = refl
one_within false = refl

pub one_without : (t : Bool) → values_outside (truth_of t) (truth_of t) (pos 0 ∷ pos 1 ∷ []) ≡ truth_of (not t) ∷ []
one_without true = refl
one_without false = refl

pub small_truth : (t : Bool) → is_number (truth_of t) ≡ true
small_truth true = refl
small_truth false = refl

pub truth_goes : (g : Game) (c : Rule) (box : Box) (k : Comparison) (a b : Arg) (x : VarId) (t : Bool) (cut : Cut) → IsTelling g c box k a b (Var x) → is_single (values_left box x.0) ≡ false →
    refuting_as k t (left_to box a) (left_to box b) ≡ true → cut ≡ record { x = x; lo = truth_of t; hi = truth_of t } → IsCut c box cut
truth_goes g c box k a b x t cut i s h q = subst (IsCut c box) (sym q) here
  where
    both : values_left box x.0 ≡ pos 0 ∷ pos 1 ∷ []
    both = both_truths (values_left box x.0) i.open_last i.truth s

    within : values_within (truth_of t) (truth_of t) (values_left box x.0) ≡ truth_of t ∷ []
    within = ap (values_within (truth_of t) (truth_of t)) both ∙ one_within t

    here : IsCut c box (record { x = x; lo = truth_of t; hi = truth_of t })
    here =
        let v = truth_of t in
        let p = apart_by g c box k a b (Var x) i in
        let only = set box x.0 (values_within v v (values_left box x.0)) in
        record {
          x = open_place box x i.open_last;
          low = small_truth t;
          high = small_truth t;
          some = ap is_none_left within;
          refuted =
              told_by g c box only k a b (Var x) (left_to box a) (left_to box b) (v ∷ []) i
              (with_other box (Var x) a (values_within v v (values_left box x.0)) (flipped a (Var x) p.first_last))
              (with_other box (Var x) b (values_within v v (values_left box x.0)) (flipped b (Var x) p.second_last))
              (set_to box x (values_within v v (values_left box x.0)) (some_left (values_left box x.0) i.open_last) ∙ within)
              ∙ (mistold_one k t (left_to box a) (left_to box b) ∙ h);
        }

pub record IsLost (c : Rule) (new : Box) : Type 0 where
  pub full : has_empty new ≡ false
  pub keeps : keeps_ends new c ≡ true

pub truth_lost : (g : Game) (c : Rule) (box new : Box) (k : Comparison) (a b : Arg) (x : VarId) (t : Bool) (cut : Cut) → IsTelling g c box k a b (Var x) → has_empty box ≡ false → is_single (values_left box x.0) ≡ false →
    refuting_as k t (left_to box a) (left_to box b) ≡ true → cut ≡ record { x = x; lo = truth_of t; hi = truth_of t } → new ≡ box_without box cut.x.0 cut.lo cut.hi → IsLost c new
truth_lost g c box new k a b x t cut i full s h q n = subst (IsLost c) (sym is) here
  where
    both : values_left box x.0 ≡ pos 0 ∷ pos 1 ∷ []
    both = both_truths (values_left box x.0) i.open_last i.truth s

    is : new ≡ set box x.0 (truth_of (not t) ∷ [])
    is =
        n
        ∙ (ap (λ (z : Cut). box_without box z.x.0 z.lo z.hi) q
        ∙ ap (set box x.0) (ap (values_outside (truth_of t) (truth_of t)) both ∙ one_without t))

    here : IsLost c (set box x.0 (truth_of (not t) ∷ []))
    here =
        let p = apart_by g c box k a b (Var x) i in
        let d = left_to box a in
        let e = left_to box b in
        let f = truth_of (not t) ∷ [] in
        let u = set box x.0 f in
        let w = keeps_three g c box u k a b (Var x) d e f i (with_other box (Var x) a f (flipped a (Var x) p.first_last)) (with_other box (Var x) b f (flipped b (Var x) p.second_last))
        (set_to box x f (some_left (values_left box x.0) i.open_last)) (some_left d i.open_first) (some_left e i.open_second) refl (told k t d e (some_left d i.open_first) (some_left e i.open_second) h) in
        record {
          full = set_full box x.0 f full refl;
          keeps = i.own u w.0 w.1 w.2;
        }

-- the last argument has one value
not_here : (a : Arg) (x : VarId) → same_variable a (Var x) ≡ false → is_variable a x.0 ≡ false
not_here a x h = flipped a (Var x) h

last_alike : (a b r : Arg) (box other : Box) → AlikeBut a b box other → same_variable a r ≡ false → same_variable b r ≡ false → left_to other r ≡ left_to box r
last_alike a b (Num n) box other f p q = refl
last_alike a b (Var x) box other f p q = f x.0 (not_here a x p) (not_here b x q)

pub fixed_tested : (g : Game) (c : Rule) (box : Box) (k : Comparison) (a b r : Arg) (t : Bool) → IsTelling g c box k a b r → left_to box r ≡ truth_of t ∷ [] → IsTested c box a b (refuting_as k t)
fixed_tested g c box k a b r t i s other f =
    let p = apart_by g c box k a b r i in
    told_by g c box other k a b r (left_to other a) (left_to other b) (truth_of t ∷ []) i refl refl (last_alike a b r box other f p.first_last p.second_last ∙ s)
    ∙ mistold_one k t (left_to other a) (left_to other b)

-- a side that keeps its ends
least_not : (c : Rule) (box : Box) (x : VarId) → keeps_arg c box (Var x) ≡ true → refuted_by c (set box x.0 (least_value (values_left box x.0) ∷ [])) ≡ false
least_not c box x h =
    let d = values_left box x.0 in
    not_false (refutes_at c box x.0 (least_value d)) (first (not (refutes_at c box x.0 (least_value d))) (not (refutes_at c box x.0 (greatest_value d))) h)

-- where a variable of both keeps its ends, what is left of both isn't refuted
unrefuted : (g : Game) (c : Rule) (box other : Box) (k : Comparison) (a b r : Arg) (t : Bool) → IsTelling g c box k a b r → left_to other r ≡ truth_of t ∷ [] → is_none_left (left_to other a) ≡ false → is_none_left (left_to other b) ≡ false →
    keeps_arg c other a ≡ true → keeps_arg c other b ≡ true → refuting_as k t (left_to other a) (left_to other b) ≡ true → ⊥
unrefuted g c box other k (Var x) b r t i s n m p q h =
    let w = apart_by g c box k (Var x) b r i in
    let v = least_value (values_left other x.0) in
    clash (refuted_by c (set other x.0 (v ∷ [])))
    (told_by g c box (set other x.0 (v ∷ [])) k (Var x) b r (v ∷ []) (left_to other b) (truth_of t ∷ []) i (set_to other x (v ∷ []) n) (with_other other (Var x) b (v ∷ []) w.pair) (with_other other (Var x) r (v ∷ []) w.first_last ∙ s)
    ∙ (mistold_one k t (v ∷ []) (left_to other b) ∙ as_first k t (values_left other x.0) (left_to other b) v (has_least (values_left other x.0) n) h))
    (least_not c other x p)
unrefuted g c box other k (Num u) (Var x) r t i s n m p q h =
    let w = apart_by g c box k (Num u) (Var x) r i in
    let v = least_value (values_left other x.0) in
    clash (refuted_by c (set other x.0 (v ∷ [])))
    (told_by g c box (set other x.0 (v ∷ [])) k (Num u) (Var x) r (u ∷ []) (v ∷ []) (truth_of t ∷ []) i refl (set_to other x (v ∷ []) m) (with_other other (Var x) r (v ∷ []) w.second_last ∙ s)
    ∙ (mistold_one k t (u ∷ []) (v ∷ []) ∙ as_second k t (u ∷ []) (values_left other x.0) v (has_least (values_left other x.0) m) h))
    (least_not c other x q)
unrefuted g c box other k (Num u) (Num v) r t i s n m p q h = let e = i.untangled in cc

pub fixed_pair : (g : Game) (c : Rule) (box : Box) (k : Comparison) (a b r : Arg) (t : Bool) → IsTelling g c box k a b r → left_to box r ≡ truth_of t ∷ [] → IsPair g c box a b
fixed_pair g c box k a b r t i s =
    let p = apart_by g c box k a b r i in
    record {
      apart = p.pair;
      sees_first = i.sees_first;
      sees_second = i.sees_second;
      open_first = i.open_first;
      open_second = i.open_second;
      own = λ other f m n l q.
          let o = last_alike a b r box other f p.first_last p.second_last ∙ s in
          i.own other l q
          (keeps_side c other r
          (λ x u v w.
          told_by g c box (set other x.0 (v ∷ [])) k a b r (left_to other a) (left_to other b) (truth_of t ∷ []) i (set_there other r a x (v ∷ []) u (flipped a r p.first_last)) (set_there other r b x (v ∷ []) u (flipped b r p.second_last))
          (set_here other r x (v ∷ []) u (ap is_none_left o) ∙ ap (λ z. z ∷ []) (single_value (truth_of t ∷ []) v refl (ap (λ z. has_value z v) (sym o) ∙ end_there (left_to other r) v (ap is_none_left o) w)))
          ∙ (mistold_one k t (left_to other a) (left_to other b) ∙ false_from_ne_true (refuting_as k t (left_to other a) (left_to other b)) (unrefuted g c box other k a b r t i o m n l q))));
    }
