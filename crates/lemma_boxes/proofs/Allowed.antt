-- When restrictions hold on values that go on.
use Rattle.std.proofs.Common.{◌≡◌, ℕ, suc, ◌≤◌, true, List, [], ◌∷◌, ◌++◌, length, subst, arith, slice_get, Some}
use Rattle.std.specs.Prelude.{ℤ, ◌==◌}
use Rattle.std.proofs.lemmas.Bool.Decides.{nat_tests}
use Rattle.qc_model.specs.declared.problem.Arg.{Arg}
use Rattle.qc_model.specs.declared.problem.Arg.TheVariants.{Var, Num}
use Rattle.qc_model.specs.declared.problem.Argument.{Argument}
use Rattle.qc_model.specs.declared.problem.Argument.TheVariants.{One, Many, Numbers, Members}
use Rattle.qc_model.specs.Content.{Game, Rule}
use Rattle.qc_model.specs.Lists.{Among}
use Rattle.qc_model.specs.Visible.{ArgBelow, ArgsBelow, ArgumentBelow, ArgumentsBelow}
use Rattle.qc_model.specs.Game.{before, restriction, allows}
use Rattle.qc_model.specs.Holds.{holds_on}
use Rattle.qc_model.specs.Table.{IsOrdered}
use Rattle.qc_model.proofs.Moves.{among_filter, of_filter}
use Rattle.qc_model.proofs.Visible.{holds_visible}
use Rattle.model_table.proofs.Fits.{all_at}
use Rattle.lemma_boxes.proofs.Lists.{get_among, among_get, all_same}

-- arguments below n are below m
arg_wider : (n m : ℕ) (x : Arg) → n ≤ m → ArgBelow n x → ArgBelow m x
arg_wider n m (Var x) l h = omega arith
arg_wider n m (Num v) l h = tt

args_wider : (n m : ℕ) (xs : List Arg) → n ≤ m → ArgsBelow n xs → ArgsBelow m xs
args_wider n m [] l h = tt
args_wider n m (x ∷ xs) l h = (arg_wider n m x l h.0, args_wider n m xs l h.1)

argument_wider : (n m : ℕ) (x : Argument) → n ≤ m → ArgumentBelow n x → ArgumentBelow m x
argument_wider n m (One x) l h = arg_wider n m x l h
argument_wider n m (Many xs) l h = args_wider n m xs l h
argument_wider n m (Numbers ns) l h = tt
argument_wider n m (Members s) l h = tt

pub arguments_wider : (n m : ℕ) (args : List Argument) → n ≤ m → ArgumentsBelow n args → ArgumentsBelow m args
arguments_wider n m [] l h = tt
arguments_wider n m (x ∷ args) l h = (argument_wider n m x l h.0, arguments_wider n m args l h.1)

same_owner : (m n : ℕ) → m ≡ n → (m == n) ≡ true
same_owner m n e = grind (arith, nat_tests)

pub owner_same : (m n : ℕ) → (m == n) ≡ true → m ≡ n
owner_same m n e = grind (arith, nat_tests)

-- a constraint of scope j, where the restriction of j holds
pub allowed_holds : (g : Game) (k : ℕ) (c : Rule) (j : ℕ) (vs : List ℤ) → slice_get g.constraints k ≡ Some c → c.owner.0 ≡ j → allows g j vs ≡ true → holds_on c vs ≡ true
allowed_holds g k c j vs e o a =
    all_at (λ d. holds_on d vs) (restriction g j) c a (among_filter (λ d. d.owner.0 == j) c g.constraints (get_among g.constraints k c e) (same_owner c.owner.0 j o))

-- the restriction of scope j sees nothing past its variables
pub allows_front : (g : Game) → IsOrdered g → (j : ℕ) (b r : List ℤ) → before g (suc j) ≤ length b → allows g j (b ++ r) ≡ allows g j b
allows_front g p j b r l = all_same (λ c. holds_on c (b ++ r)) (λ c. holds_on c b) (restriction g j) one
  where
    one : (c : Rule) → Among c (restriction g j) → holds_on c (b ++ r) ≡ holds_on c b
    one c m =
        let q = of_filter (λ d. d.owner.0 == j) c g.constraints m in
        let k = among_get g.constraints c q.0 in
        let below : ArgumentsBelow (before g (suc j)) c.args = subst (λ i. ArgumentsBelow (before g (suc i)) c.args) (owner_same c.owner.0 j q.1) (p.visible k.0 c k.1) in
        holds_visible c b r (arguments_wider (before g (suc j)) (length b) c.args l below)
