-- The arguments of a constraint that is tested by its balance.
use Rattle.std.proofs.Common.{◌≡◌, ◌==◌, ◌≤◌, Bool, true, false, ◌&&◌, List, [], ◌∷◌, length, refl, sym, ap, ◌∙◌, ℤ}
use Rattle.std.specs.Prelude.{nat_le}
use Rattle.std.specs.List.{list_all}
use Rattle.std.proofs.lemmas.Bool.{leb-true, eqb-true, and_from}
use Rattle.qc_model.specs.declared.problem.Arg.{Arg}
use Rattle.qc_model.specs.declared.problem.Arg.TheVariants.{Var, Num}
use Rattle.qc_model.specs.declared.problem.Argument.{Argument}
use Rattle.qc_model.specs.declared.problem.Argument.TheVariants.{One, Many, Numbers, Members}
use Rattle.qc_model.specs.declared.problem.Pred.{Pred}
use Rattle.qc_model.specs.declared.problem.Pred.TheVariants.{IntLinEq, IntLinNe, IntLinLe}
use Rattle.qc_model.specs.declared.problem.Variable.{Variable}
use Rattle.qc_model.specs.declared.signature.ArgKind.TheVariants.{Integer, Integers, Numbers as Numerals}
use Rattle.qc_model.specs.Content.{Rule}
use Rattle.qc_model.specs.Meaning.{meaning_of}
use Rattle.qc_model.specs.Signature.{arg_kinds_of}
use Rattle.qc_model.specs.Valid.{is_number, is_integer, are_of_sorts, have_lengths, is_sum, argument_sees, is_constraint}
use Rattle.qc_model.proofs.Conjunctions.{first, second}
use Rattle.model_arguments.specs.Written.{arg_at}
use Rattle.check_assignment.specs.declared.test.Test.TheVariants.{Other}
use Rattle.check_assignment.specs.Balance.{tested, test_of}

abbrev pub is_number_item : Arg → Bool
is_number_item (Var x) = true
is_number_item (Num n) = is_number n

-- a constraint that is tested by its balance: numbers, as many items, and a number
pub record SumShape (c : Rule) : Type 0 where
  pub factors : List ℤ
  pub items : List Arg
  pub number : ℤ
  pub args : c.args ≡ Numbers factors ∷ Many items ∷ One (Num number) ∷ []
  pub same : length factors ≡ length items
  pub few : length items ≤ 1000
  pub numbers : list_all is_number factors ≡ true
  pub literals : list_all is_number_item items ≡ true
  pub small : is_number number ≡ true

literals_small : (xs : List Variable) (items : List Arg) → list_all (is_integer xs) items ≡ true → list_all is_number_item items ≡ true
literals_small xs [] h = refl
literals_small xs (Var x ∷ items) h = literals_small xs items (second (is_integer xs (Var x)) (list_all (is_integer xs) items) h)
literals_small xs (Num n ∷ items) h =
    and_from (is_number n) (list_all is_number_item items)
    (first (is_number n) (list_all (is_integer xs) items) h)
    (literals_small xs items (second (is_number n) (list_all (is_integer xs) items) h))

-- numbers, integers and an integer, with the lengths of a sum
record IsPlainSum (p : Pred) : Type 0 where
  kinds : arg_kinds_of p ≡ Numerals ∷ Integers ∷ Integer ∷ []
  lengths : (args : List Argument) → have_lengths (meaning_of p) args ≡ is_sum args

plain_sum : (p : Pred) (a : Arg) → (tested (meaning_of p) a ≡ Other → ⊥) → IsPlainSum p
plain_sum IntLinEq a f = record { kinds = refl; lengths = λ args. refl }
plain_sum IntLinNe a f = record { kinds = refl; lengths = λ args. refl }
plain_sum IntLinLe a f = record { kinds = refl; lengths = λ args. refl }
plain_sum p a f = absurd (f refl)

module _ (xs : List Variable) (c : Rule) where
  third : (ns : List ℤ) (items : List Arg) (args : List Argument) → c.args ≡ Numbers ns ∷ Many items ∷ args →
      list_all is_number ns ≡ true → (nat_le (length items) 1000 && list_all (is_integer xs) items) ≡ true → are_of_sorts xs (Integer ∷ []) args ≡ true → is_sum (Numbers ns ∷ Many items ∷ args) ≡ true → SumShape c
  third ns items [] e s w h l = cc
  third ns items (One (Var x) ∷ args) e s w h l = let no = second (length ns == length items) false l in cc
  third ns items (One (Num n) ∷ []) e s w h l = record {
    factors = ns;
    items = items;
    number = n;
    args = e;
    same = eqb-true (length ns) (length items) (first (length ns == length items) true l);
    few = leb-true (length items) 1000 (first (nat_le (length items) 1000) (list_all (is_integer xs) items) w);
    numbers = s;
    literals = literals_small xs items (second (nat_le (length items) 1000) (list_all (is_integer xs) items) w);
    small = first (is_number n) true h;
  }
  third ns items (One (Num n) ∷ a ∷ args) e s w h l = let no = second (is_number n) false h in cc
  third ns items (Many m ∷ args) e s w h l = cc
  third ns items (Numbers m ∷ args) e s w h l = cc
  third ns items (Members m ∷ args) e s w h l = cc

  next : (ns : List ℤ) (args : List Argument) → c.args ≡ Numbers ns ∷ args → list_all is_number ns ≡ true → are_of_sorts xs (Integers ∷ Integer ∷ []) args ≡ true → is_sum (Numbers ns ∷ args) ≡ true → SumShape c
  next ns [] e s h l = cc
  next ns (One a ∷ args) e s h l = cc
  next ns (Many items ∷ args) e s h l =
      let here = nat_le (length items) 1000 && list_all (is_integer xs) items in
      let rest = are_of_sorts xs (Integer ∷ []) args in
      third ns items args e s (first here rest h) (second here rest h) l
  next ns (Numbers m ∷ args) e s h l = cc
  next ns (Members m ∷ args) e s h l = cc

  shape : (args : List Argument) → c.args ≡ args → are_of_sorts xs (Numerals ∷ Integers ∷ Integer ∷ []) args ≡ true → is_sum args ≡ true → SumShape c
  shape [] e h l = cc
  shape (One a ∷ args) e h l = cc
  shape (Many items ∷ args) e h l = cc
  shape (Numbers ns ∷ args) e h l =
      let here = nat_le (length ns) 100000 && list_all is_number ns in
      let rest = are_of_sorts xs (Integers ∷ Integer ∷ []) args in
      next ns args e (second (nat_le (length ns) 100000) (list_all is_number ns) (first here rest h)) (second here rest h) l
  shape (Members m ∷ args) e h l = cc

pub sum_shape : (xs : List Variable) (c : Rule) → is_constraint xs c ≡ true → (test_of c ≡ Other → ⊥) → SumShape c
sum_shape xs c h f =
    let sorted = are_of_sorts xs (arg_kinds_of c.pred) c.args in
    let lengths = have_lengths (meaning_of c.pred) c.args in
    let both = first (sorted && lengths) (list_all (argument_sees xs c.owner.0) c.args) h in
    let p = plain_sum c.pred (arg_at c.args 2) f in
    shape xs c c.args refl (ap (λ ks. are_of_sorts xs ks c.args) (sym p.kinds) ∙ first sorted lengths both) (sym (p.lengths c.args) ∙ second sorted lengths both)
