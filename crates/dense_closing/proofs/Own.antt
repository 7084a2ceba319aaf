-- A constraint's own variables: they have places in the boxes of the game, and of others it sees nothing.
use Rattle.std.proofs.Common.{◌≡◌, inl, inr, ℕ, ◌<◌, ◌≢◌, ◌==◌, true, false, List, [], ◌∷◌, length, set, sym, subst, arith, Some}
use Rattle.std.specs.Prelude.{slice_get, flat_map}
use Rattle.std.specs.List.{list_all}
use Rattle.std.proofs.lemmas.Bool.Decides.{nat_tests}
use Rattle.std.proofs.lemmas.List.{get_or-set_other}
use Rattle.qc_model.specs.declared.problem.Arg.{Arg}
use Rattle.qc_model.specs.declared.problem.Arg.TheVariants.{Var, Num}
use Rattle.qc_model.specs.declared.problem.Argument.{Argument}
use Rattle.qc_model.specs.declared.problem.Argument.TheVariants.{One, Many, Numbers, Members}
use Rattle.qc_model.specs.Arguments.{arg_variables, argument_variables, variables_of}
use Rattle.qc_model.specs.Content.{Game, Rule}
use Rattle.qc_model.specs.Domains.{Values, Box}
use Rattle.qc_model.specs.Lists.{Among}
use Rattle.qc_model.specs.Refuted.{refuted_by}
use Rattle.qc_model.specs.Valid.{IsValid, arg_sees, argument_sees}
use Rattle.qc_model.specs.Visible.{ArgBelow, ArgsBelow, ArgumentBelow, ArgumentsBelow}
use Rattle.qc_model.proofs.Moves.{among_either}
use Rattle.qc_model.proofs.Readable.{first, second}
use Rattle.model_arguments.specs.Asked.{is_box_of}
use Rattle.model_arguments.proofs.Bools.{clash}
use Rattle.model_arguments.proofs.Boxes.{seen_place}
use Rattle.model_table.proofs.Fits.{any_at}
use Rattle.model_table.proofs.Kinded.{sees_all}
use Rattle.model_table.proofs.Ordered.{constraint_at}
use Rattle.proof_alike.specs.Alike.{is_among}
use Rattle.proof_alike.proofs.ByValue.{same_by_value}

-- own variables of arguments below n are below n
module _ (n x : ℕ) where
  arg_place : (a : Arg) → ArgBelow n a → Among x (arg_variables a) → x < n
  arg_place (Var v) b (inl e) = subst (λ k. k < n) (sym e) b
  arg_place (Var v) b (inr m) = absurd m
  arg_place (Num m) b h = absurd h

  items_place : (items : List Arg) → ArgsBelow n items → Among x (flat_map arg_variables items) → x < n
  items_place [] b h = absurd h
  items_place (a ∷ items) b h = elim (among_either x (arg_variables a) (flat_map arg_variables items) h) [ inl k ↦ arg_place a b.0 k | inr k ↦ items_place items b.1 k ]

  argument_place : (a : Argument) → ArgumentBelow n a → Among x (argument_variables a) → x < n
  argument_place (One a) b h = arg_place a b h
  argument_place (Many items) b h = items_place items b h
  argument_place (Numbers ns) b h = absurd h
  argument_place (Members s) b h = absurd h

  pub own_place : (args : List Argument) → ArgumentsBelow n args → Among x (variables_of args) → x < n
  own_place [] b h = absurd h
  own_place (a ∷ args) b h = elim (among_either x (argument_variables a) (variables_of args) h) [ inl k ↦ argument_place a b.0 k | inr k ↦ own_place args b.1 k ]

-- those of a problem's constraint have places in its boxes
module _ (g : Game) (box : Box) (s : is_box_of g box ≡ true) (i : ℕ) where
  arg_below : (a : Arg) → arg_sees g.variables i a ≡ true → ArgBelow (length box) a
  arg_below (Var v) e = seen_place g box i v.0 s e
  arg_below (Num m) e = tt

  args_below : (items : List Arg) → list_all (arg_sees g.variables i) items ≡ true → ArgsBelow (length box) items
  args_below [] e = tt
  args_below (a ∷ items) e =
      let here = arg_sees g.variables i a in
      let later = list_all (arg_sees g.variables i) items in
      (arg_below a (first here later e), args_below items (second here later e))

  argument_below : (a : Argument) → argument_sees g.variables i a ≡ true → ArgumentBelow (length box) a
  argument_below (One a) e = arg_below a e
  argument_below (Many items) e = args_below items e
  argument_below (Numbers ns) e = tt
  argument_below (Members m) e = tt

  arguments_below : (args : List Argument) → list_all (argument_sees g.variables i) args ≡ true → ArgumentsBelow (length box) args
  arguments_below [] e = tt
  arguments_below (a ∷ args) e =
      let here = argument_sees g.variables i a in
      let later = list_all (argument_sees g.variables i) args in
      (argument_below a (first here later e), arguments_below args (second here later e))

pub rule_below : (g : Game) → IsValid g → (box : Box) → is_box_of g box ≡ true → (k : ℕ) (c : Rule) → slice_get g.constraints k ≡ Some c → ArgumentsBelow (length box) c.args
rule_below g valid box s k c e = arguments_below g box s c.owner.0 c.args (sees_all g.variables c (constraint_at g valid k c e))

-- whether x is its own variable
pub own_of : (xs : List ℕ) (x : ℕ) → is_among xs x ≡ true → Among x xs
own_of xs x h = let f = any_at (λ y. y == x) xs h in subst (λ y. Among y xs) (equal f.0 x f.2) f.1
  where
    equal : (j k : ℕ) → (j == k) ≡ true → j ≡ k
    equal j k e = grind (arith, nat_tests)

-- of another one it sees nothing
pub refuted_apart : (g : Game) (c : Rule) (box : Box) (x : ℕ) (d : Values) → is_among (variables_of c.args) x ≡ false → refuted_by c (set box x d) ≡ refuted_by c box
refuted_apart g c box x d h = (same_by_value g 0 c (set box x d) box (λ y m. get_or-set_other box x y d [] (apart y m))).refutes
  where
    apart : (y : ℕ) → is_among (variables_of c.args) y ≡ true → y ≢ x
    apart y m e = let f : is_among (variables_of c.args) y ≡ false = subst (λ z. is_among (variables_of c.args) z ≡ false) (sym e) h in absurd (clash (is_among (variables_of c.args) y) m f)
