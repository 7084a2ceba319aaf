-- Boxes that differ at two arguments.
use Rattle.std.proofs.Common.{◌≡◌, ◌≢◌, ℕ, zero, suc, ◌<◌, Bool, true, false, [], ◌∷◌, length, set, refl, sym, ap, ◌∙◌, arith, ℤ}
use Rattle.std.specs.Prelude.{filter, ◌==◌}
use Rattle.std.proofs.lemmas.List.{get_or-set_same, get_or-set_other}
use Rattle.std.proofs.lemmas.Bool.Decides.{nat_tests}
use Rattle.qc_model.specs.declared.problem.Arg.{Arg}
use Rattle.qc_model.specs.declared.problem.Arg.TheVariants.{Var, Num}
use Rattle.qc_model.specs.declared.problem.VarId.{VarId}
use Rattle.qc_model.specs.Content.{Game, Rule}
use Rattle.qc_model.specs.Domains.{Values, Box, values_left, values_within, is_within, is_none_left, has_empty}
use Rattle.qc_model.specs.Refuted.{left_to}
use Rattle.model_arguments.proofs.Boxes.{set_full, set_same}
use Rattle.model_arguments.proofs.Items.{flipped}
use Rattle.qc_refuter.proofs.Domains.{some_left}
use Rattle.qc_refuter.specs.Met.{is_open}
use Rattle.model_arguments.specs.Repeats.{is_variable, same_variable}
use Rattle.prop_compare.specs.Compared.{box_with, AlikeBut, IsPair}
use Rattle.prop_compare.proofs.Kept.{one_kept}

abbrev pub var_of : Arg → VarId
var_of (Var x) = x
var_of (Num n) = record { 0 = 0 }

distinct : (a b : ℕ) → (a == b) ≡ false → b ≢ a
distinct a b h = grind (arith, nat_tests)

flip : (a b : ℕ) → (a == b) ≡ false → (b == a) ≡ false
flip a b h = grind (arith, nat_tests)

in_range : (box : Box) (x : ℕ) → is_none_left (values_left box x) ≡ false → x < length box
in_range [] x h = cc
in_range (vs ∷ box) zero h = omega arith
in_range (vs ∷ box) (suc x) h = omega (arith, in_range box x h)

pub open_place : (box : Box) (x : VarId) → is_open box (Var x) ≡ true → x.0 < length box
open_place box x h = in_range box x.0 (some_left (values_left box x.0) h)

-- what is set is left, where something was left
pub set_to : (box : Box) (x : VarId) (d : Values) → is_none_left (values_left box x.0) ≡ false → values_left (set box x.0 d) x.0 ≡ d
set_to box x d h = get_or-set_same box x.0 d [] (in_range box x.0 h)

set_twice : (box : Box) (x : ℕ) (d e : Values) → set (set box x d) x e ≡ set box x e
set_twice [] x d e = refl
set_twice (vs ∷ box) zero d e = refl
set_twice (vs ∷ box) (suc x) d e = ap (λ l. vs ∷ l) (set_twice box x d e)

pub with_twice : (box : Box) (a : Arg) (d e : Values) → box_with (box_with box a d) a e ≡ box_with box a e
with_twice box (Var x) d e = set_twice box x.0 d e
with_twice box (Num n) d e = refl

pub with_same : (box : Box) (a : Arg) (d : Values) → d ≡ left_to box a → box_with box a d ≡ box
with_same box (Var x) d h = set_same box x.0 d h
with_same box (Num n) d h = refl

kept_left : (box : Box) (a : Arg) (q : ℤ → Bool) → is_none_left (left_to box a) ≡ false → is_none_left (filter q (left_to box a)) ≡ false → left_to (box_with box a (filter q (left_to box a))) a ≡ filter q (left_to box a)
kept_left box (Var x) q o h = set_to box x (filter q (values_left box x.0)) o
kept_left box (Num n) q o h = sym (one_kept q n h)

-- what was kept is left
pub with_kept : (box : Box) (a : Arg) (q : ℤ → Bool) → is_open box a ≡ true → is_none_left (filter q (left_to box a)) ≡ false → left_to (box_with box a (filter q (left_to box a))) a ≡ filter q (left_to box a)
with_kept box a q o h = kept_left box a q (some_left (left_to box a) o) h

pub kept_there : (box : Box) (a : Arg) (lo hi : ℤ) → is_none_left (left_to box a) ≡ false → is_none_left (values_within lo hi (left_to box a)) ≡ false → left_to (box_with box a (values_within lo hi (left_to box a))) a ≡ values_within lo hi (left_to box a)
kept_there box a lo hi o h = kept_left box a (is_within lo hi) o h

-- and the other argument has what it had
pub with_other : (box : Box) (a b : Arg) (d : Values) → same_variable a b ≡ false → left_to (box_with box a d) b ≡ left_to box b
with_other box (Var x) (Var y) d h = get_or-set_other box x.0 y.0 d [] (distinct x.0 y.0 (flip y.0 x.0 h))
with_other box (Var x) (Num m) d h = refl
with_other box (Num n) b d h = refl

pub with_full : (box : Box) (a : Arg) (d : Values) → has_empty box ≡ false → is_none_left d ≡ false → has_empty (box_with box a d) ≡ false
with_full box (Var x) d f h = set_full box x.0 d f h
with_full box (Num n) d f h = f

pub alike_same : (a b : Arg) (box : Box) → AlikeBut a b box box
alike_same a b box k h l = refl

with_alike : (box : Box) (a : Arg) (d : Values) (k : ℕ) → is_variable a k ≡ false → values_left (box_with box a d) k ≡ values_left box k
with_alike box (Var x) d k h = get_or-set_other box x.0 k d [] (distinct x.0 k h)
with_alike box (Num n) d k h = refl

pub alike_first : (a b : Arg) (box other : Box) (d : Values) → AlikeBut a b box other → AlikeBut a b box (box_with other a d)
alike_first a b box other d f k h l = with_alike other a d k h ∙ f k h l

pub alike_second : (a b : Arg) (box other : Box) (d : Values) → AlikeBut a b box other → AlikeBut a b box (box_with other b d)
alike_second a b box other d f k h l = with_alike other b d k l ∙ f k h l

pub alike_flipped : (a b : Arg) (box other : Box) → AlikeBut a b box other → AlikeBut b a box other
alike_flipped a b box other f k h l = f k l h

pub pair_flipped : (g : Game) (c : Rule) (box : Box) (a b : Arg) → IsPair g c box a b → IsPair g c box b a
pair_flipped g c box a b p = record {
  apart = flipped a b p.apart;
  sees_first = p.sees_second;
  sees_second = p.sees_first;
  open_first = p.open_second;
  open_second = p.open_first;
  own = λ other f m n k l. p.own other (alike_flipped b a box other f) n m l k;
}
