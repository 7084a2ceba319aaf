-- Constraints of three integers.
use Rattle.std.proofs.Common.{◌≡◌, true, false, ◌&&◌, List, [], ◌∷◌, refl, sym, ap, ◌∙◌}
use Rattle.std.specs.List.{list_all}
use Rattle.qc_model.specs.declared.problem.Arg.{Arg}
use Rattle.qc_model.specs.declared.problem.Argument.{Argument}
use Rattle.qc_model.specs.declared.problem.Argument.TheVariants.{One, Many, Numbers, Members}
use Rattle.qc_model.specs.declared.problem.Pred.{Pred}
use Rattle.qc_model.specs.declared.problem.Variable.{Variable}
use Rattle.qc_model.specs.declared.signature.ArgKind.TheVariants.{Integer as integer}
use Rattle.qc_model.specs.Content.{Rule}
use Rattle.qc_model.specs.Meaning.{meaning_of}
use Rattle.qc_model.specs.Signature.{arg_kinds_of}
use Rattle.qc_model.specs.Valid.{is_integer, are_of_sorts, have_lengths, argument_sees, is_constraint}
use Rattle.qc_model.proofs.Readable.{first, second}

-- three arguments, each by itself
pub record AreThree (args : List Argument) : Type 0 where
  pub a : Arg
  pub b : Arg
  pub c : Arg
  pub is : args ≡ One a ∷ One b ∷ One c ∷ []

third : (xs : List Variable) (a b : Arg) (args : List Argument) → are_of_sorts xs (integer ∷ []) args ≡ true → AreThree (One a ∷ One b ∷ args)
third xs a b [] h = cc
third xs a b (One c ∷ []) h = record { a = a; b = b; c = c; is = refl }
third xs a b (One c ∷ d ∷ args) h = let e = second (is_integer xs c) false h in cc
third xs a b (Many m ∷ args) h = cc
third xs a b (Numbers m ∷ args) h = cc
third xs a b (Members m ∷ args) h = cc

next : (xs : List Variable) (a : Arg) (args : List Argument) → are_of_sorts xs (integer ∷ integer ∷ []) args ≡ true → AreThree (One a ∷ args)
next xs a [] h = cc
next xs a (One b ∷ args) h = third xs a b args (second (is_integer xs b) (are_of_sorts xs (integer ∷ []) args) h)
next xs a (Many m ∷ args) h = cc
next xs a (Numbers m ∷ args) h = cc
next xs a (Members m ∷ args) h = cc

shape : (xs : List Variable) (args : List Argument) → are_of_sorts xs (integer ∷ integer ∷ integer ∷ []) args ≡ true → AreThree args
shape xs [] h = cc
shape xs (One a ∷ args) h = next xs a args (second (is_integer xs a) (are_of_sorts xs (integer ∷ integer ∷ []) args) h)
shape xs (Many m ∷ args) h = cc
shape xs (Numbers m ∷ args) h = cc
shape xs (Members m ∷ args) h = cc

pub three_shape : (xs : List Variable) (c : Rule) (p : Pred) → is_constraint xs c ≡ true → c.pred ≡ p → arg_kinds_of p ≡ integer ∷ integer ∷ integer ∷ [] → AreThree c.args
three_shape xs c p h e k =
    let sorted = are_of_sorts xs (arg_kinds_of c.pred) c.args in
    let lengths = have_lengths (meaning_of c.pred) c.args in
    shape xs c.args (ap (λ kinds. are_of_sorts xs kinds c.args) (sym (ap arg_kinds_of e ∙ k)) ∙ first sorted lengths (first (sorted && lengths) (list_all (argument_sees xs c.owner.0) c.args) h))
