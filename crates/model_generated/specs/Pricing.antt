-- The made game of a number n. A leader sets three tolls; each customer takes its cheapest way, by a link and its toll or
-- free of toll, and pays the toll for each passage; the leader wants the most. As a text:
--
--   exists maximize total;
--   var 0..10: t1; var 0..10: t2; var 0..10: t3;
--   forall;
--   var 1..12: k;
--   aggregate total = sum(income);
--   exists minimize cost;
--   var 1..4: a; var 1..48: i; var 0..20: base; var 0..10: toll; var 0..30: cost; var 1..3: dem; var 0..30: income;
--   constraint int_lin_eq([4,1,-1],[k,a,i],4);
--   constraint array_int_element(i,BASES,base);
--   constraint array_var_int_element(a,[t1,t2,t3,0],toll);
--   constraint int_plus(base,toll,cost);
--   constraint array_int_element(k,DEMANDS,dem);
--   constraint int_times(dem,toll,income);
--   goal;
--   solve;
use Rattle.std.specs.Prelude.{ℕ, List, [], ◌∷◌, None, Some, codes, ℤ, pos, negsuc}
use Rattle.qc_model.specs.declared.problem.Kind.TheVariants.{Exists, Forall}
use Rattle.qc_model.specs.declared.problem.Sense.{Sense}
use Rattle.qc_model.specs.declared.problem.Sense.TheVariants.{Min, Max}
use Rattle.qc_model.specs.declared.problem.Fold.TheVariants.{Sum}
use Rattle.qc_model.specs.declared.problem.Target.{Target}
use Rattle.qc_model.specs.declared.problem.Target.TheVariants.{Var as VarTarget, Aggregate as Agg}
use Rattle.qc_model.specs.declared.problem.Domain.TheVariants.{Range}
use Rattle.qc_model.specs.declared.problem.Pred.{Pred}
use Rattle.qc_model.specs.declared.problem.Pred.TheVariants.{IntLinEq, ArrayIntElement, ArrayVarIntElement, IntPlus, IntTimes}
use Rattle.qc_model.specs.declared.problem.Arg.{Arg}
use Rattle.qc_model.specs.declared.problem.Arg.TheVariants.{Var, Num}
use Rattle.qc_model.specs.declared.problem.Argument.{Argument}
use Rattle.qc_model.specs.declared.problem.Argument.TheVariants.{One, Many, Numbers}
use Rattle.qc_model.specs.declared.problem.Scope.{Scope}
use Rattle.qc_model.specs.declared.problem.Variable.{Variable}
use Rattle.qc_model.specs.declared.problem.Aggregate.{Aggregate}
use Rattle.qc_model.specs.Content.{Game, Rule}
use Rattle.model_generated.specs.Links.{bases, demands}

-- an existential scope with a wish
abbrev pub wishing : Sense → Target → Scope
wishing sense target = record { kind = Exists; condition = Some (record { sense = sense; target = target }) }

abbrev pub three_scopes : List Scope
three_scopes =
    wishing Max (Agg (record { 0 = 0 })) ∷ record { kind = Forall; condition = None } ∷ wishing Min (VarTarget (record { 0 = 8 })) ∷ []

-- a variable of scope i, from low to high
abbrev pub variable_of : List ℕ → ℕ → ℕ → ℕ → Variable
variable_of name i low high = record { name = name; scope = record { 0 = i }; domain = Range (pos low) (pos high) }

abbrev pub eleven_variables : List Variable
eleven_variables =
    variable_of (codes "t1") 0 0 10 ∷ variable_of (codes "t2") 0 0 10 ∷ variable_of (codes "t3") 0 0 10 ∷ variable_of (codes "k") 1 1 12
    ∷ variable_of (codes "a") 2 1 4 ∷ variable_of (codes "i") 2 1 48 ∷ variable_of (codes "base") 2 0 20 ∷ variable_of (codes "toll") 2 0 10
    ∷ variable_of (codes "cost") 2 0 30 ∷ variable_of (codes "dem") 2 1 3 ∷ variable_of (codes "income") 2 0 30 ∷ []

abbrev pub one_aggregate : List Aggregate
one_aggregate = record { name = codes "total"; scope = record { 0 = 1 }; fold = Sum; target = VarTarget (record { 0 = 10 }) } ∷ []

-- the variable at a place: 0 to 2 are the tolls t1, t2 and t3, then come k, a, i, base, toll, cost, dem and income
abbrev pub var : ℕ → Arg
var x = Var (record { 0 = x })

-- a constraint on the customer's choice
abbrev pub rule_of : Pred → Argument → Argument → Argument → Rule
rule_of p a b c = record { owner = record { 0 = 2 }; pred = p; args = a ∷ b ∷ c ∷ [] }

-- way a of customer k is at place 4k - 4 + a of the bases
abbrev pub place_rule : Rule
place_rule = rule_of IntLinEq (Numbers (pos 4 ∷ pos 1 ∷ negsuc 0 ∷ [])) (Many (var 3 ∷ var 4 ∷ var 5 ∷ [])) (One (Num (pos 4)))

abbrev pub base_rule : List ℤ → Rule
base_rule bs = rule_of ArrayIntElement (One (var 5)) (Numbers bs) (One (var 6))

-- each link has its toll, and staying away has none
abbrev pub toll_rule : Rule
toll_rule = rule_of ArrayVarIntElement (One (var 4)) (Many (var 0 ∷ var 1 ∷ var 2 ∷ Num (pos 0) ∷ [])) (One (var 7))

abbrev pub cost_rule : Rule
cost_rule = rule_of IntPlus (One (var 6)) (One (var 7)) (One (var 8))

abbrev pub demand_rule : List ℤ → Rule
demand_rule ds = rule_of ArrayIntElement (One (var 3)) (Numbers ds) (One (var 9))

abbrev pub income_rule : Rule
income_rule = rule_of IntTimes (One (var 9)) (One (var 7)) (One (var 10))

abbrev pub six_rules : List ℤ → List ℤ → List Rule
six_rules bs ds = place_rule ∷ base_rule bs ∷ toll_rule ∷ cost_rule ∷ demand_rule ds ∷ income_rule ∷ []

abbrev pub generated_game : ℕ → Game
generated_game n = record {
  scopes = three_scopes;
  variables = eleven_variables;
  aggregates = one_aggregate;
  constraints = six_rules (bases n) (demands n);
}
