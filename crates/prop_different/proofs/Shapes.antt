-- The items of a constraint that says that integers differ.
use Rattle.std.proofs.Common.{◌≡◌, ◌≤◌, true, false, ◌&&◌, List, [], ◌∷◌, length, refl, sym, ap, ◌∙◌, subst}
use Rattle.std.specs.Prelude.{nat_le}
use Rattle.std.specs.List.{list_all}
use Rattle.std.proofs.lemmas.Bool.{leb-true}
use Rattle.qc_model.specs.declared.problem.Arg.{Arg}
use Rattle.qc_model.specs.declared.problem.Argument.{Argument}
use Rattle.qc_model.specs.declared.problem.Argument.TheVariants.{One, Many, Numbers, Members}
use Rattle.qc_model.specs.declared.problem.Pred.TheVariants.{AllDifferentInt}
use Rattle.qc_model.specs.declared.problem.Variable.{Variable}
use Rattle.qc_model.specs.declared.signature.ArgKind.TheVariants.{Integers as integers}
use Rattle.qc_model.specs.Content.{Game, Rule}
use Rattle.qc_model.specs.Domains.{Box}
use Rattle.qc_model.specs.Left.{has_crowd}
use Rattle.qc_model.specs.Meaning.{meaning_of}
use Rattle.qc_model.specs.Refuted.{refuted_as}
use Rattle.qc_model.specs.Signature.{arg_kinds_of}
use Rattle.qc_model.specs.Valid.{is_integer, is_domain, are_of_sorts, have_lengths, arg_sees, argument_sees, is_constraint}
use Rattle.qc_model.proofs.Readable.{first, second}
use Rattle.model_arguments.specs.Asked.{IsAsked}
use Rattle.model_arguments.specs.Written.{args_at}
use Rattle.model_arguments.proofs.Written.{lefts_written}
use Rattle.qc_refuter.specs.Met.{lefts, is_open, is_met, are_met}
use Rattle.qc_refuter.proofs.Ready.{rule_met}
use Rattle.prop_base.specs.Closed.{keeps_arg, keeps_argument}
use Rattle.prop_base.proofs.Keeps.{keeps_all}
use Rattle.prop_different.specs.Different.{IsDifferent}
use Rattle.model_arguments.specs.Repeats.{has_repeat}

-- one array
record IsArray (args : List Argument) : Type 0 where
  items : List Arg
  is : args ≡ Many items ∷ []
  few : length items ≤ 1000

last : (xs : List Variable) (items : List Arg) → length items ≤ 1000 → (args : List Argument) → are_of_sorts xs [] args ≡ true → IsArray (Many items ∷ args)
last xs items f [] h = record { items = items; is = refl; few = f }
last xs items f (a ∷ args) h = cc

shape : (xs : List Variable) (args : List Argument) → are_of_sorts xs (integers ∷ []) args ≡ true → IsArray args
shape xs [] h = cc
shape xs (One a ∷ args) h = cc
shape xs (Many items ∷ args) h =
    let p = first (nat_le (length items) 1000 && list_all (is_integer xs) items) (are_of_sorts xs [] args) h in
    last xs items (leb-true (length items) 1000 (first (nat_le (length items) 1000) (list_all (is_integer xs) items) p)) args (second (nat_le (length items) 1000 && list_all (is_integer xs) items) (are_of_sorts xs [] args) h)
shape xs (Numbers ns ∷ args) h = cc
shape xs (Members m ∷ args) h = cc

array_of : (xs : List Variable) (c : Rule) → is_constraint xs c ≡ true → c.pred ≡ AllDifferentInt → IsArray c.args
array_of xs c h e =
    let sorted = are_of_sorts xs (arg_kinds_of c.pred) c.args in
    let lengths = have_lengths (meaning_of c.pred) c.args in
    shape xs c.args (ap (λ p. are_of_sorts xs (arg_kinds_of p) c.args) (sym e) ∙ first sorted lengths (first (sorted && lengths) (list_all (argument_sees xs c.owner.0) c.args) h))

items_see : (xs : List Variable) (c : Rule) → is_constraint xs c ≡ true → c.pred ≡ AllDifferentInt → list_all (arg_sees xs c.owner.0) (args_at c.args 0) ≡ true
items_see xs c h e =
    let s = array_of xs c h e in
    let sorted = are_of_sorts xs (arg_kinds_of c.pred) c.args in
    let lengths = have_lengths (meaning_of c.pred) c.args in
    let t = second (sorted && lengths) (list_all (argument_sees xs c.owner.0) c.args) h in
    let u = ap (list_all (argument_sees xs c.owner.0)) (sym s.is) ∙ t in
    ap (λ args. list_all (arg_sees xs c.owner.0) (args_at args 0)) s.is ∙ first (list_all (arg_sees xs c.owner.0) s.items) true u

items_open : (g : Game) (c : Rule) (box : Box) → list_all (λ x. is_domain x.domain) g.variables ≡ true → IsAsked g c box → c.pred ≡ AllDifferentInt → list_all (is_open box) (args_at c.args 0) ≡ true
items_open g c box d a e =
    let s = array_of g.variables c a.rule e in
    let u = ap (are_met box) (sym s.is) ∙ rule_met g box d a.declared a.full c a.rule in
    let w = first (is_met box (Many s.items)) true u in
    ap (λ args. list_all (is_open box) (args_at args 0)) s.is ∙ second (nat_le (length s.items) 1000) (list_all (is_open box) s.items) w

-- such a constraint, whose variables stand once
pub items_differ : (g : Game) (c : Rule) → list_all (λ x. is_domain x.domain) g.variables ≡ true → is_constraint g.variables c ≡ true → c.pred ≡ AllDifferentInt → has_repeat (args_at c.args 0) ≡ false → IsDifferent g c (args_at c.args 0)
items_differ g c d h e r =
    let s = array_of g.variables c h e in
    record {
      refuted = λ box. ap (λ p. refuted_as (meaning_of p) (lefts box c.args)) e ∙ ap has_crowd (lefts_written box c.args 0);
      own = λ box k.
          keeps_all c box
          (ap (list_all (keeps_argument c box)) s.is
          ∙ ap (λ b. b && true) (ap (λ args. list_all (keeps_arg c box) (args_at args 0)) (sym s.is) ∙ k));
      once = r;
      few = subst (λ args. length (args_at args 0) ≤ 1000) (sym s.is) s.few;
      sees = items_see g.variables c h e;
      opens = λ box a. items_open g c box d a e;
    }
