-- A constraint doesn't read a variable that it doesn't mention.
use Rattle.std.proofs.Common.{◌≡◌, ◌≢◌, ℕ, ◌==◌, Bool, true, false, ◌||◌, List, [], ◌∷◌, ◌++◌, map, set, refl, sym, ap, ◌∙◌, arith, ℤ}
use Rattle.std.specs.Prelude.{flat_map, pos}
use Rattle.std.specs.List.{list_any}
use Rattle.std.proofs.lemmas.Bool.Decides.{nat_tests}
use Rattle.std.proofs.lemmas.List.{get_or-set_other}
use Rattle.std.proofs.lemmas.Bool.{or_parts}
use Rattle.qc_model.specs.declared.problem.Arg.{Arg}
use Rattle.qc_model.specs.declared.problem.Arg.TheVariants.{Var, Num}
use Rattle.qc_model.specs.declared.problem.Argument.{Argument}
use Rattle.qc_model.specs.declared.problem.Argument.TheVariants.{One, Many, Numbers, Members}
use Rattle.qc_model.specs.Content.{Rule}
use Rattle.qc_model.specs.Arguments.{filled_one, filled_many, fill, arg_variables, argument_variables, variables_of}
use Rattle.qc_model.specs.Meaning.{meaning_of}
use Rattle.qc_model.specs.Holds.{arg_value, holds_as, holds_on}
use Rattle.check_assignment.specs.Terms.{mentions}

among_both : (x : ℕ) (ys zs : List ℕ) → list_any (λ y. y == x) (ys ++ zs) ≡ (list_any (λ y. y == x) ys || list_any (λ y. y == x) zs)
among_both x [] zs = refl
among_both x (y ∷ ys) zs = ap (λ b. (y == x) || b) (among_both x ys zs) ∙ sym (or_assoc (y == x) (list_any (λ z. z == x) ys) (list_any (λ z. z == x) zs))
  where
    or_assoc : (a b c : Bool) → ((a || b) || c) ≡ (a || (b || c))
    or_assoc true b c = refl
    or_assoc false b c = refl

module _ (vs : List ℤ) (x : ℕ) (u : ℤ) where
  arg_apart : (a : Arg) → list_any (λ y. y == x) (arg_variables a) ≡ false → arg_value (set vs x u) a ≡ arg_value vs a
  arg_apart (Var y) h = get_or-set_other vs x y.0 u (pos 0) (differ y.0 (or_parts (y.0 == x) false h).0)
    where
      differ : (k : ℕ) → (k == x) ≡ false → k ≢ x
      differ k h = grind (arith, nat_tests)
  arg_apart (Num n) h = refl

  items_apart : (items : List Arg) → list_any (λ y. y == x) (flat_map arg_variables items) ≡ false → map (arg_value (set vs x u)) items ≡ map (arg_value vs) items
  items_apart [] h = refl
  items_apart (a ∷ items) h =
      let own = arg_variables a in
      let rest = flat_map arg_variables items in
      let p = or_parts (list_any (λ y. y == x) own) (list_any (λ y. y == x) rest) (sym (among_both x own rest) ∙ h) in
      ap (λ v. v ∷ map (arg_value (set vs x u)) items) (arg_apart a p.0) ∙ ap (λ ws. arg_value vs a ∷ ws) (items_apart items p.1)

  argument_apart : (a : Argument) → list_any (λ y. y == x) (argument_variables a) ≡ false → fill (arg_value (set vs x u)) a ≡ fill (arg_value vs) a
  argument_apart (One a) h = ap filled_one (arg_apart a h)
  argument_apart (Many items) h = ap filled_many (items_apart items h)
  argument_apart (Numbers ns) h = refl
  argument_apart (Members s) h = refl

  given_apart : (args : List Argument) → list_any (λ y. y == x) (variables_of args) ≡ false → map (fill (arg_value (set vs x u))) args ≡ map (fill (arg_value vs)) args
  given_apart [] h = refl
  given_apart (a ∷ args) h =
      let own = argument_variables a in
      let rest = variables_of args in
      let p = or_parts (list_any (λ y. y == x) own) (list_any (λ y. y == x) rest) (sym (among_both x own rest) ∙ h) in
      ap (λ v. v ∷ map (fill (arg_value (set vs x u))) args) (argument_apart a p.0) ∙ ap (λ ws. fill (arg_value vs) a ∷ ws) (given_apart args p.1)

pub holds_apart : (vs : List ℤ) (x : ℕ) (u : ℤ) (c : Rule) → mentions c x ≡ false → holds_on c (set vs x u) ≡ holds_on c vs
holds_apart vs x u c h = ap (holds_as (meaning_of c.pred)) (given_apart vs x u c.args h)
