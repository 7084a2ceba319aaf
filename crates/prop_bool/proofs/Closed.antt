-- Constraints that no value of a variable, given alone, makes refute the box.
use Rattle.std.proofs.Common.{◌≡◌, ℕ, ◌<◌, true, false, not, List, [], ◌∷◌, length, set, refl, ℤ}
use Rattle.std.specs.List.{list_all}
use Rattle.std.proofs.lemmas.Bool.{not_from_false, and_from}
use Rattle.qc_model.specs.declared.problem.Arg.{Arg}
use Rattle.qc_model.specs.declared.problem.Arg.TheVariants.{Var, Num}
use Rattle.qc_model.specs.declared.problem.Argument.{Argument}
use Rattle.qc_model.specs.declared.problem.Argument.TheVariants.{One, Many, Numbers, Members}
use Rattle.qc_model.specs.Closed.{keeps_ends, refutes_at}
use Rattle.qc_model.specs.Content.{Game, Rule}
use Rattle.qc_model.specs.Domains.{Box, values_left, has_value, least_value, greatest_value}
use Rattle.qc_model.specs.Refuted.{refuted_by}
use Rattle.qc_model.specs.Valid.{arg_sees, argument_sees}
use Rattle.qc_model.proofs.Readable.{first, second}
use Rattle.model_arguments.specs.Asked.{IsAsked}
use Rattle.model_arguments.proofs.Boxes.{some_left, seen_place}
use Rattle.model_arguments.proofs.Values.{has_least, has_greatest}
use Rattle.prop_base.specs.Closed.{keeps_at, keeps_arg, keeps_argument}
use Rattle.prop_base.proofs.Keeps.{keeps_all}
use Rattle.prop_base.proofs.Whole.{all_seen}

abbrev pub NeverRefuted : Rule → Box → Type 0
NeverRefuted c box = (y : ℕ) (v : ℤ) → has_value (values_left box y) v ≡ true → refuted_by c (set box y (v ∷ [])) ≡ false

kept_at : (g : Game) (c : Rule) (box : Box) (y : ℕ) → IsAsked g c box → NeverRefuted c box → y < length box → keeps_at c box y ≡ true
kept_at g c box y a f l =
    let d = values_left box y in
    let n = some_left box y a.full l in
    and_from (not (refutes_at c box y (least_value d))) (not (refutes_at c box y (greatest_value d)))
    (not_from_false (refutes_at c box y (least_value d)) (f y (least_value d) (has_least d n)))
    (not_from_false (refutes_at c box y (greatest_value d)) (f y (greatest_value d) (has_greatest d n)))

pub kept_arg : (g : Game) (c : Rule) (box : Box) → IsAsked g c box → NeverRefuted c box → (b : Arg) → arg_sees g.variables c.owner.0 b ≡ true → keeps_arg c box b ≡ true
kept_arg g c box a f (Var x) h = kept_at g c box x.0 a f (seen_place g box c.owner.0 x.0 a.declared h)
kept_arg g c box a f (Num n) h = refl

kept_items : (g : Game) (c : Rule) (box : Box) → IsAsked g c box → NeverRefuted c box → (xs : List Arg) → list_all (arg_sees g.variables c.owner.0) xs ≡ true → list_all (keeps_arg c box) xs ≡ true
kept_items g c box a f [] h = refl
kept_items g c box a f (x ∷ xs) h =
    let sees = arg_sees g.variables c.owner.0 in
    and_from (keeps_arg c box x) (list_all (keeps_arg c box) xs) (kept_arg g c box a f x (first (sees x) (list_all sees xs) h)) (kept_items g c box a f xs (second (sees x) (list_all sees xs) h))

kept_argument : (g : Game) (c : Rule) (box : Box) → IsAsked g c box → NeverRefuted c box → (b : Argument) → argument_sees g.variables c.owner.0 b ≡ true → keeps_argument c box b ≡ true
kept_argument g c box a f (One b) h = kept_arg g c box a f b h
kept_argument g c box a f (Many xs) h = kept_items g c box a f xs h
kept_argument g c box a f (Numbers ns) h = refl
kept_argument g c box a f (Members s) h = refl

kept_arguments : (g : Game) (c : Rule) (box : Box) → IsAsked g c box → NeverRefuted c box → (bs : List Argument) → list_all (argument_sees g.variables c.owner.0) bs ≡ true → list_all (keeps_argument c box) bs ≡ true
kept_arguments g c box a f [] h = refl
kept_arguments g c box a f (b ∷ bs) h =
    let sees = argument_sees g.variables c.owner.0 in
    and_from (keeps_argument c box b) (list_all (keeps_argument c box) bs) (kept_argument g c box a f b (first (sees b) (list_all sees bs) h)) (kept_arguments g c box a f bs (second (sees b) (list_all sees bs) h))

pub closed_by : (g : Game) (c : Rule) (box : Box) → IsAsked g c box → NeverRefuted c box → keeps_ends box c ≡ true
closed_by g c box a f = keeps_all c box (kept_arguments g c box a f c.args (all_seen g c box a))
