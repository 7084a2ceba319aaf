-- A member that is told of: some value is a member of the set where all are.
use Rattle.std.proofs.Common.{◌≡◌, ℕ, ◌<◌, Bool, true, false, not, ◌&&◌, ◌||◌, List, [], ◌∷◌, Option, None, Some, length, set, refl, sym, ap, ◌∙◌, subst, ℤ}
use Rattle.std.specs.Prelude.{pos, IfNone}
use Rattle.std.specs.List.{list_all, list_any}
use Rattle.std.proofs.lemmas.Bool.{not_from_false, and_from}
use Rattle.qc_model.specs.declared.problem.Arg.{Arg}
use Rattle.qc_model.specs.declared.problem.Arg.TheVariants.{Var, Num}
use Rattle.qc_model.specs.declared.problem.Argument.{Argument}
use Rattle.qc_model.specs.declared.problem.Argument.TheVariants.{One, Many, Numbers, Members}
use Rattle.qc_model.specs.declared.problem.Pred.TheVariants.{SetInReif}
use Rattle.qc_model.specs.declared.problem.Set.{Set}
use Rattle.qc_model.specs.declared.problem.VarId.{VarId}
use Rattle.qc_model.specs.declared.problem.Variable.{Variable}
use Rattle.qc_model.specs.declared.signature.ArgKind.TheVariants.{Boolean}
use Rattle.qc_model.specs.Arguments.{members, last_of}
use Rattle.qc_model.specs.Closed.{keeps_ends, refutes_at}
use Rattle.qc_model.specs.Content.{Game, Rule}
use Rattle.qc_model.specs.Domains.{Values, Box, values_left, box_at, box_within, is_none_left, has_empty, set_has, least_value, greatest_value}
use Rattle.qc_model.specs.Left.{left_at}
use Rattle.qc_model.specs.Meaning.{member, meaning_of}
use Rattle.qc_model.specs.Refuted.{left_to, refuted_by}
use Rattle.qc_model.specs.Signature.{arg_kinds_of}
use Rattle.qc_model.specs.Valid.{are_of_sorts, have_lengths, arg_sees, argument_sees}
use Rattle.qc_model.proofs.Readable.{first, second}
use Rattle.model_arguments.specs.Asked.{IsAsked}
use Rattle.model_arguments.specs.Written.{arg_at, last_arg}
use Rattle.model_arguments.proofs.Boxes.{some_left, seen_place, set_same}
use Rattle.model_arguments.proofs.Items.{flipped}
use Rattle.model_arguments.proofs.Written.{left_written}
use Rattle.qc_refuter.specs.Met.{lefts, is_open}
use Rattle.qc_refuter.proofs.Domains.{some_left as open_some}
use Rattle.prop_base.specs.declared.cuts.Cut.{Cut}
use Rattle.prop_base.specs.Closed.{IsCut, keeps_arg}
use Rattle.prop_compare.specs.Telling.{truth_of}
use Rattle.prop_compare.specs.Untold.{RefutesNone}
use Rattle.prop_compare.proofs.Lasts.{refutes_none}
use Rattle.prop_compare.proofs.Settled.{can_go, cut_place, truth_kept, untold_keeps}
use Rattle.prop_compare.proofs.Sides.{set_to, with_other}
use Rattle.prop_element.specs.Hulls.{IsHull}
use Rattle.prop_element.specs.Members.{is_wanted, IsToldMember, IsFirst, IsLast, NonePasses}
use Rattle.prop_element.proofs.Sets.{any_none, any_some, passing_hull}

none_and_all : (p : ℤ → Bool) (d : Values) → is_none_left d ≡ false → not (list_any p d) ≡ true → list_all p d ≡ true → ⊥
none_and_all p [] n r e = cc
none_and_all p (v ∷ d) n r e = by (p v) (list_any p d) r (first (p v) (list_all p d) e)
  where
    by : (a b : Bool) → not (a || b) ≡ true → a ≡ true → ⊥
    by true b h k = cc
    by false b h k = cc

first_sees : (xs : List Variable) (args : List Argument) (i : ℕ) → list_all (argument_sees xs i) args ≡ true → arg_sees xs i (arg_at args 0) ≡ true
first_sees xs [] i h = refl
first_sees xs (One a ∷ args) i h = first (arg_sees xs i a) (list_all (argument_sees xs i) args) h
first_sees xs (Many m ∷ args) i h = refl
first_sees xs (Numbers m ∷ args) i h = refl
first_sees xs (Members m ∷ args) i h = refl

some_there : (g : Game) (c : Rule) (box other : Box) → IsAsked g c box → length other ≡ length box → has_empty other ≡ false → (a : Arg) → arg_sees g.variables c.owner.0 a ≡ true → is_none_left (left_to other a) ≡ false
some_there g c box other i l f (Num n) h = refl
some_there g c box other i l f (Var x) h = some_left other x.0 f (subst (λ k. x.0 < k) (sym l) (seen_place g box c.owner.0 x.0 i.declared h))

first_some : (g : Game) (c : Rule) (box other : Box) → IsAsked g c box → length other ≡ length box → has_empty other ≡ false → is_none_left (left_at (lefts other c.args) 0) ≡ false
first_some g c box other i l f =
    let xs = g.variables in
    let sorted = are_of_sorts xs (arg_kinds_of c.pred) c.args in
    let lengths = have_lengths (meaning_of c.pred) c.args in
    let sees = second (sorted && lengths) (list_all (argument_sees xs c.owner.0) c.args) i.rule in
    ap is_none_left (left_written other c.args 0) ∙ some_there g c box other i l f (arg_at c.args 0) (first_sees xs c.args c.owner.0 sees)

pub told_none : (g : Game) (c : Rule) (box : Box) → IsAsked g c box → c.pred ≡ SetInReif → RefutesNone c box (last_arg c.args)
told_none g c box i e =
    refutes_none c box member (ap meaning_of e)
    (λ other l f. none_and_all (set_has (members (lefts other c.args) 1)) (left_at (lefts other c.args) 0) (first_some g c box other i l f))

pub told_truth : (c : Rule) → c.pred ≡ SetInReif → last_of (arg_kinds_of c.pred) ≡ Some Boolean
told_truth c e = ap (λ p. last_of (arg_kinds_of p)) e

-- an argument that has one value keeps it, where the box isn't refuted
keeps_fixed : (c : Rule) (box : Box) (r : Arg) (v : ℤ) → left_to box r ≡ v ∷ [] → refuted_by c box ≡ false → keeps_arg c box r ≡ true
keeps_fixed c box (Num n) v h f = refl
keeps_fixed c box (Var x) v h f =
    and_from (not (refutes_at c box x.0 (least_value (values_left box x.0)))) (not (refutes_at c box x.0 (greatest_value (values_left box x.0))))
    (not_from_false (refutes_at c box x.0 (least_value (values_left box x.0))) (at (least_value (values_left box x.0)) (ap least_value h)))
    (not_from_false (refutes_at c box x.0 (greatest_value (values_left box x.0))) (at (greatest_value (values_left box x.0)) (ap greatest_value h)))
  where
    at : (w : ℤ) → w ≡ v → refutes_at c box x.0 w ≡ false
    at w e = ap (refuted_by c) (set_same box x.0 (w ∷ []) (ap (λ z. z ∷ []) e ∙ sym h)) ∙ f

-- once it is told
pub told_refuted : (c : Rule) (box : Box) (a : Arg) (s : Set) (r : Arg) (t : Bool) → IsToldMember c a s r → left_to box r ≡ truth_of t ∷ [] → NonePasses (is_wanted t s) (left_to box a) → refuted_by c box ≡ true
told_refuted c box a s r t m h f = m.told box t h ∙ any_none (is_wanted t s) (left_to box a) f

pub told_hull : (c : Rule) (box : Box) (x : VarId) (s : Set) (r : Arg) (t : Bool) (low high : ℤ) → is_open box (Var x) ≡ true → IsToldMember c (Var x) s r → left_to box r ≡ truth_of t ∷ [] → IsFirst (is_wanted t s) (values_left box x.0) low → IsLast (is_wanted t s) (values_left box x.0) high →
    IsHull c box x.0 low high
told_hull c box x s r t low high o m h f l =
    passing_hull c box x (is_wanted t s) low high o
    (λ us. m.told (set box x.0 us) t (with_other box (Var x) r us (flipped r (Var x) m.apart) ∙ h) ∙ ap (λ z. not (list_any (is_wanted t s) z)) (set_to box x us (open_some (values_left box x.0) o)))
    f l

pub told_kept : (c : Rule) (box : Box) (a : Arg) (s : Set) (r : Arg) (t : Bool) (v : ℤ) (o : Option Cut) → IsToldMember c a s r → left_to box r ≡ truth_of t ∷ [] → IsFirst (is_wanted t s) (left_to box a) v → IfNone o (keeps_arg c box a ≡ true) →
    IfNone o (keeps_ends box c ≡ true)
told_kept c box a s r t v (Some x) m h f k = tt
told_kept c box a s r t v None m h f k = m.own box k (keeps_fixed c box r (truth_of t) h (m.told box t h ∙ any_some (is_wanted t s) (left_to box a) v f.there f.passes))

-- while it can tell both: what was asked is what an answer alone leaves
at_answer : (c : Rule) (box : Box) (x : VarId) (t b : Bool) → values_left box x.0 ≡ pos 0 ∷ pos 1 ∷ [] → b ≡ refuted_by c (box_within box x.0 (truth_of t) (truth_of t)) → refuted_by c (box_at box x.0 (truth_of t)) ≡ b
at_answer c box x t b h e = sym (e ∙ ap (refuted_by c) (truth_kept box x.0 t h))

pub answer_there : (box : Box) (x : VarId) → values_left box x.0 ≡ pos 0 ∷ pos 1 ∷ [] → x.0 < length box
answer_there box x h = cut_place box x true (record { x = x; lo = pos 1; hi = pos 1 }) h refl

pub answer_goes : (c : Rule) (box : Box) (x : VarId) (t b : Bool) → values_left box x.0 ≡ pos 0 ∷ pos 1 ∷ [] → b ≡ refuted_by c (box_within box x.0 (truth_of t) (truth_of t)) → b ≡ true → IsCut c box (record { x = x; lo = truth_of t; hi = truth_of t })
answer_goes c box x t b h e k = can_go c box x t (record { x = x; lo = truth_of t; hi = truth_of t }) h (at_answer c box x t b h e ∙ k) refl

pub both_stay : (c : Rule) (box : Box) (x : VarId) (p q : Bool) → has_empty box ≡ false → values_left box x.0 ≡ pos 0 ∷ pos 1 ∷ [] → RefutesNone c box (Var x) → p ≡ refuted_by c (box_within box x.0 (pos 1) (pos 1)) → p ≡ false → q ≡ refuted_by c (box_within box x.0 (pos 0) (pos 0)) → q ≡ false →
    keeps_ends box c ≡ true
both_stay c box x p q f h n d k e l = untold_keeps c box x f h n (at_answer c box x true p h d ∙ k) (at_answer c box x false q h e ∙ l)
