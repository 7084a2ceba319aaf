-- What can't be told of a sum, by what it can be.
use Rattle.std.proofs.Common.{◌≡◌, ◌<◌, Bool, true, false, List, [], ◌∷◌, length, map, sym, ap, ◌∙◌, ℤ}
use Rattle.std.specs.List.{list_any}
use Rattle.std.proofs.lemmas.List.{get_or-set_same}
use Rattle.qc_model.specs.declared.problem.Arg.{Arg}
use Rattle.qc_model.specs.declared.problem.Arg.TheVariants.{Var, Num}
use Rattle.qc_model.specs.declared.problem.VarId.{VarId}
use Rattle.qc_model.specs.declared.problem.Variable.{Variable}
use Rattle.qc_model.specs.Content.{Rule}
use Rattle.qc_model.specs.Domains.{Box, box_at}
use Rattle.qc_model.specs.Left.{sum_range}
use Rattle.qc_model.specs.Meaning.{sum_at_most, sum_equal, sum_different, meaning_of}
use Rattle.qc_model.specs.Ranges.{Range}
use Rattle.qc_model.specs.Refuted.{left_to, refuted_by}
use Rattle.qc_model.specs.Valid.{is_constraint}
use Rattle.model_arguments.specs.Repeats.{same_variable}
use Rattle.model_arguments.specs.Written.{arg_at, args_at, ints_at, last_arg}
use Rattle.model_arguments.proofs.Items.{others_left}
use Rattle.prop_compare.specs.Telling.{truth_of}
use Rattle.prop_linear.specs.declared.relation.Relation.{Relation}
use Rattle.prop_linear.specs.declared.relation.Relation.TheVariants.{AtMost, Equal, Different}
use Rattle.prop_linear.specs.Demands.{demand_of, is_missed}
use Rattle.prop_linear.specs.Relations.{told_pred}
use Rattle.prop_linear.proofs.Shapes.{above_filled, covered_filled, missed_filled, only_filled}
use Rattle.prop_linear.proofs.ToldSums.{told_as, told_apart}

-- one truth value is left to the argument that tells
missed_filled_as : (c : Rule) (box : Box) (n : ℤ) (r : Relation) (t : Bool) → c.pred ≡ told_pred r → arg_at c.args 2 ≡ Num n → left_to box (last_arg c.args) ≡ truth_of t ∷ [] →
    refuted_by c box ≡ is_missed (demand_of r t) (sum_range (ints_at c.args 0) (map (left_to box) (args_at c.args 1))) n
missed_filled_as c box n AtMost true e l w = told_as c box sum_at_most true (ap meaning_of e) w ∙ above_filled c box n l
missed_filled_as c box n AtMost false e l w = told_as c box sum_at_most false (ap meaning_of e) w ∙ covered_filled c box n l
missed_filled_as c box n Equal true e l w = told_as c box sum_equal true (ap meaning_of e) w ∙ missed_filled c box n l
missed_filled_as c box n Equal false e l w = told_as c box sum_equal false (ap meaning_of e) w ∙ only_filled c box n l
missed_filled_as c box n Different true e l w = told_as c box sum_different true (ap meaning_of e) w ∙ only_filled c box n l
missed_filled_as c box n Different false e l w = told_as c box sum_different false (ap meaning_of e) w ∙ missed_filled c box n l

-- both are left to it: it is none of the items, so the sum is the same on the whole box
pub told_missed : (xs : List Variable) (c : Rule) (box : Box) (x : VarId) (n : ℤ) (r : Relation) (t : Bool) → is_constraint xs c ≡ true → c.pred ≡ told_pred r → last_arg c.args ≡ Var x → arg_at c.args 2 ≡ Num n → x.0 < length box →
    refuted_by c (box_at box x.0 (truth_of t)) ≡ is_missed (demand_of r t) (sum_range (ints_at c.args 0) (map (left_to box) (args_at c.args 1))) n
told_missed xs c box x n r t h e w l m =
    let only = box_at box x.0 (truth_of t) in
    let items = args_at c.args 1 in
    let apart = ap (λ a. list_any (same_variable a) items) (sym w) ∙ told_apart xs c r h e in
    missed_filled_as c only n r t e l (ap (left_to only) w ∙ get_or-set_same box x.0 (truth_of t ∷ []) [] m)
    ∙ ap (λ ds. is_missed (demand_of r t) (sum_range (ints_at c.args 0) ds) n) (others_left box x (truth_of t ∷ []) items apart)

-- the same of the sum as it was read
pub read_missed : (xs : List Variable) (c : Rule) (box : Box) (x : VarId) (n : ℤ) (r : Relation) (t : Bool) (ns : List ℤ) (items : List Arg) (s : Range) → is_constraint xs c ≡ true → c.pred ≡ told_pred r → last_arg c.args ≡ Var x → arg_at c.args 2 ≡ Num n → x.0 < length box →
    ns ≡ ints_at c.args 0 → items ≡ args_at c.args 1 → s ≡ sum_range ns (map (left_to box) items) → refuted_by c (box_at box x.0 (truth_of t)) ≡ is_missed (demand_of r t) s n
read_missed xs c box x n r t ns items s h e w l m p q u =
    told_missed xs c box x n r t h e w l m
    ∙ ap (λ (z : Range). is_missed (demand_of r t) z n) (ap (λ z. sum_range z (map (left_to box) (args_at c.args 1))) (sym p) ∙ (ap (λ z. sum_range ns (map (left_to box) z)) (sym q) ∙ sym u))
