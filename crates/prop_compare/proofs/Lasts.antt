-- A last argument that is a truth value.
use Rattle.std.proofs.Common.{◌≡◌, Bool, true, false, not, ◌&&◌, ◌||◌, List, [], ◌∷◌, Option, Some, None, length, refl, sym, ap, ◌∙◌, subst}
use Rattle.std.specs.Prelude.{pos}
use Rattle.std.specs.List.{list_all}
use Rattle.qc_model.specs.declared.problem.Arg.{Arg}
use Rattle.qc_model.specs.declared.problem.Argument.{Argument}
use Rattle.qc_model.specs.declared.problem.Argument.TheVariants.{One}
use Rattle.qc_model.specs.declared.problem.Variable.{Variable}
use Rattle.qc_model.specs.Arguments.{last_of}
use Rattle.qc_model.specs.Content.{Game, Rule}
use Rattle.qc_model.specs.Domains.{Box, has_value, has_empty}
use Rattle.qc_model.specs.Entailed.{entailed_as}
use Rattle.qc_model.specs.Meaning.{Meaning, reified, meaning_of}
use Rattle.qc_model.specs.Refuted.{left_to, refuted_as}
use Rattle.qc_model.specs.declared.signature.ArgKind.{ArgKind}
use Rattle.qc_model.specs.declared.signature.ArgKind.TheVariants.{Boolean}
use Rattle.qc_model.specs.Signature.{arg_kinds_of}
use Rattle.qc_model.specs.Valid.{is_domain, is_truth, is_boolean, is_of_sort, are_of_sorts, have_lengths, argument_sees}
use Rattle.qc_model.proofs.Readable.{first, second}
use Rattle.model_arguments.specs.Asked.{IsAsked}
use Rattle.model_arguments.specs.Written.{last_arg}
use Rattle.model_arguments.proofs.Written.{last_written}
use Rattle.qc_refuter.specs.Met.{lefts, is_open, is_met}
use Rattle.qc_refuter.proofs.Ready.{rule_met}
use Rattle.prop_compare.specs.Untold.{RefutesNone}
use Rattle.prop_compare.proofs.Three.{is_truth_kind, truth_arg, truths_left}

record EndsTruth (xs : List Variable) (args : List Argument) : Type 0 where
  it : Arg
  is : last_of args ≡ Some (One it)
  truth : is_boolean xs it ≡ true

abbrev kind_passes : Option ArgKind → Bool
kind_passes (Some k) = is_truth_kind k
kind_passes None = false

ends_truth : (xs : List Variable) (kinds : List ArgKind) (args : List Argument) → kind_passes (last_of kinds) ≡ true → are_of_sorts xs kinds args ≡ true → EndsTruth xs args
ends_truth xs [] args h k = cc
ends_truth xs (s ∷ kinds) [] h k = cc
ends_truth xs (s ∷ []) (x ∷ []) h k =
    let p = truth_arg xs s x h (first (is_of_sort xs s x) true k) in
    record { it = p.it; is = ap Some p.is; truth = p.truth }
ends_truth xs (s ∷ []) (x ∷ y ∷ args) h k = let e = second (is_of_sort xs s x) false k in cc
ends_truth xs (s ∷ t ∷ kinds) (x ∷ []) h k = let e = second (is_of_sort xs s x) false k in cc
ends_truth xs (s ∷ t ∷ kinds) (x ∷ y ∷ args) h k =
    let p = ends_truth xs (t ∷ kinds) (y ∷ args) h (second (is_of_sort xs s x) (are_of_sorts xs (t ∷ kinds) (y ∷ args)) k) in
    record { it = p.it; is = p.is; truth = p.truth }

only : (x a : Argument) → Some x ≡ Some a → x ≡ a
only x a e = ap of e
  where
    of : Option Argument → Argument
    of (Some y) = y
    of None = x

last_passes : (q : Argument → Bool) (args : List Argument) (a : Argument) → last_of args ≡ Some a → list_all q args ≡ true → q a ≡ true
last_passes q [] a e h = cc
last_passes q (x ∷ []) a e h = subst (λ z. q z ≡ true) (only x a e) (first (q x) true h)
last_passes q (x ∷ y ∷ args) a e h = last_passes q (y ∷ args) a e (second (q x) (list_all q (y ∷ args)) h)

last_is : (args : List Argument) (r : Arg) → last_of args ≡ Some (One r) → last_arg args ≡ r
last_is [] r e = cc
last_is (x ∷ []) r e = ap (λ (z : Argument). last_arg (z ∷ [])) (only x (One r) e)
last_is (x ∷ y ∷ args) r e = last_is (y ∷ args) r e

pub record IsTruthLast (box : Box) (r : Arg) : Type 0 where
  pub met : is_open box r ≡ true
  pub truth : list_all is_truth (left_to box r) ≡ true

pub truth_last : (g : Game) (c : Rule) (box : Box) → list_all (λ x. is_domain x.domain) g.variables ≡ true → IsAsked g c box → last_of (arg_kinds_of c.pred) ≡ Some Boolean → IsTruthLast box (last_arg c.args)
truth_last g c box d i k =
    let xs = g.variables in
    let sorted = are_of_sorts xs (arg_kinds_of c.pred) c.args in
    let lengths = have_lengths (meaning_of c.pred) c.args in
    let t = ends_truth xs (arg_kinds_of c.pred) c.args (ap kind_passes k) (first sorted lengths (first (sorted && lengths) (list_all (argument_sees xs c.owner.0) c.args) i.rule)) in
    subst (IsTruthLast box) (sym (last_is c.args t.it t.is)) (record {
      met = last_passes (is_met box) c.args (One t.it) t.is (rule_met g box d i.declared i.full c i.rule);
      truth = truths_left g c box t.it i t.truth;
    })

-- what is never both refuted and entailed
pub refutes_none : (c : Rule) (box : Box) (m : Meaning) → meaning_of c.pred ≡ reified m → ((other : Box) → length other ≡ length box → has_empty other ≡ false → refuted_as m (lefts other c.args) ≡ true → entailed_as m (lefts other c.args) ≡ true → ⊥) → RefutesNone c box (last_arg c.args)
refutes_none c box m e never other l f h =
    let args = lefts other c.args in
    ap (λ z. refuted_as z args) e
    ∙ (ap (λ d. (not (has_value d (pos 1)) || refuted_as m args) && (not (has_value d (pos 0)) || entailed_as m args)) (last_written other c.args ∙ h)
    ∙ by (refuted_as m args) (entailed_as m args) (never other l f))
  where
    by : (p q : Bool) → (p ≡ true → q ≡ true → ⊥) → (p && q) ≡ false
    by true true f = absurd (f refl refl)
    by true false f = refl
    by false q f = refl
