-- Who plays by a tree, and by which.
use Rattle.qc_model.specs.declared.problem.Kind.{Kind}
use Rattle.qc_model.specs.declared.problem.Kind.TheVariants.{Exists, Forall}
use Rattle.std.specs.Prelude.{Bool, true, false, ⊤}
use Rattle.qc_model.specs.Plan.{Plan as Choices, finish, choose, answer, Entries, no_entries, entry}
use Rattle.qc_play.specs.declared.side.Side.{Side}
use Rattle.qc_play.specs.declared.side.Side.TheVariants.{Plan, Counter}
use Rattle.qc_play.specs.Shape.{plan_of, tree_of_counter}

-- the scopes that the side plays
abbrev pub kind_of : Side → Kind
kind_of (Plan plan) = Exists
kind_of (Counter counter) = Forall

abbrev pub choices_of : Side → Choices
choices_of (Plan plan) = plan_of plan.now
choices_of (Counter counter) = tree_of_counter counter.now

-- the tree chooses nothing here
abbrev pub HasNoChoice : Choices → Type 0
HasNoChoice finish = ⊤
HasNoChoice (choose t s) = ⊥
HasNoChoice (answer l) = ⊤

abbrev pub has_entries : Entries → Bool
has_entries no_entries = false
has_entries (entry t s rest) = true

-- the scopes of kind k are of this owner
abbrev pub is_same : Kind → Kind → Bool
is_same Exists Exists = true
is_same Exists Forall = false
is_same Forall Exists = false
is_same Forall Forall = true
