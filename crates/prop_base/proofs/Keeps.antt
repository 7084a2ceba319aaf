-- The ends that a constraint keeps.
use Rattle.std.proofs.Common.{◌≡◌, ℕ, Bool, true, false, not, ◌&&◌, List, [], ◌∷◌, set, refl, sym, ap, ◌∙◌, ℤ}
use Rattle.std.specs.Prelude.{flat_map}
use Rattle.std.specs.List.{list_all}
use Rattle.std.proofs.lemmas.List.Folds.{list_all-append}
use Rattle.std.proofs.lemmas.Bool.{not_from_false}
use Rattle.qc_model.specs.declared.problem.Arg.{Arg}
use Rattle.qc_model.specs.declared.problem.Arg.TheVariants.{Var, Num}
use Rattle.qc_model.specs.declared.problem.Argument.{Argument}
use Rattle.qc_model.specs.declared.problem.Argument.TheVariants.{One, Many, Numbers, Members}
use Rattle.qc_model.specs.Arguments.{arg_variables, argument_variables}
use Rattle.qc_model.specs.Closed.{refutes_at, keeps_ends}
use Rattle.qc_model.specs.Content.{Rule}
use Rattle.qc_model.specs.Domains.{Values, Box, values_left, values_within, box_within, box_at, is_none_left, is_ascending, has_value}
use Rattle.qc_model.specs.Refuted.{refuted_by}
use Rattle.prop_base.specs.Closed.{keeps_at, keeps_arg, keeps_argument}
use Rattle.model_arguments.proofs.Values.{only_within}

pub stays : (vs : Values) (v : ℤ) → is_ascending vs ≡ true → has_value vs v ≡ true → is_none_left (values_within v v vs) ≡ false
stays vs v a h = ap is_none_left (only_within v vs a h)

pub within_one : (box : Box) (x : ℕ) (v : ℤ) → is_ascending (values_left box x) ≡ true → has_value (values_left box x) v ≡ true → box_within box x v v ≡ box_at box x v
within_one box x v a h = ap (set box x) (only_within v (values_left box x) a h)

pub keeps_end : (c : Rule) (box : Box) (x : ℕ) (v w : ℤ) → v ≡ w → is_ascending (values_left box x) ≡ true → has_value (values_left box x) w ≡ true → refuted_by c (box_within box x v v) ≡ false →
    not (refutes_at c box x w) ≡ true
keeps_end c box x v w e a h f =
    not_from_false (refutes_at c box x w) (sym (ap (refuted_by c) (within_one box x w a h)) ∙ (ap (λ z. refuted_by c (box_within box x z z)) (sym e) ∙ f))

keeps_one : (c : Rule) (box : Box) (a : Arg) → list_all (keeps_at c box) (arg_variables a) ≡ keeps_arg c box a
keeps_one c box (Var x) = and_true (keeps_at c box x.0)
  where
    and_true : (b : Bool) → (b && true) ≡ b
    and_true true = refl
    and_true false = refl
keeps_one c box (Num n) = refl

and_both : (a b c d : Bool) → a ≡ c → b ≡ d → (a && b) ≡ (c && d)
and_both a b c d p q = ap (λ z. z && b) p ∙ ap (λ z. c && z) q

keeps_items : (c : Rule) (box : Box) (xs : List Arg) → list_all (keeps_at c box) (flat_map arg_variables xs) ≡ list_all (keeps_arg c box) xs
keeps_items c box [] = refl
keeps_items c box (a ∷ xs) =
    list_all-append (keeps_at c box) (arg_variables a) (flat_map arg_variables xs)
    ∙ and_both (list_all (keeps_at c box) (arg_variables a)) (list_all (keeps_at c box) (flat_map arg_variables xs)) (keeps_arg c box a) (list_all (keeps_arg c box) xs) (keeps_one c box a) (keeps_items c box xs)

keeps_whole : (c : Rule) (box : Box) (a : Argument) → list_all (keeps_at c box) (argument_variables a) ≡ keeps_argument c box a
keeps_whole c box (One a) = keeps_one c box a
keeps_whole c box (Many xs) = keeps_items c box xs
keeps_whole c box (Numbers ns) = refl
keeps_whole c box (Members s) = refl

keeps_arguments : (c : Rule) (box : Box) (args : List Argument) → list_all (keeps_at c box) (flat_map argument_variables args) ≡ list_all (keeps_argument c box) args
keeps_arguments c box [] = refl
keeps_arguments c box (a ∷ args) =
    list_all-append (keeps_at c box) (argument_variables a) (flat_map argument_variables args)
    ∙ and_both (list_all (keeps_at c box) (argument_variables a)) (list_all (keeps_at c box) (flat_map argument_variables args)) (keeps_argument c box a) (list_all (keeps_argument c box) args) (keeps_whole c box a) (keeps_arguments c box args)

-- argument by argument
pub keeps_all : (c : Rule) (box : Box) → list_all (keeps_argument c box) c.args ≡ true → keeps_ends box c ≡ true
keeps_all c box h = keeps_arguments c box c.args ∙ h
