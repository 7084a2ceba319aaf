-- Which constraints a change wakes, and which of them wait.
use Rattle.std.specs.Prelude.{⊤, ℤ, pos, int_lt, cond, ◌⊎◌, flat_map, ◌≡◌, ◌<◌, ◌≤◌, ◌+◌, ◌==◌, ℕ, nat_le, Bool, ◌&&◌, true, false, Option, Some, None, List, [], ◌∷◌, map, length, slice_get, slice_index_or, IsTrue, IsFalse}
use Rattle.std.specs.List.{list_any, list_all}
use Rattle.qc_model.specs.declared.problem.Arg.{Arg}
use Rattle.qc_model.specs.declared.problem.Arg.TheVariants.{Var, Num}
use Rattle.qc_model.specs.declared.problem.ConId.{ConId}
use Rattle.qc_model.specs.declared.problem.VarId.{VarId}
use Rattle.qc_model.specs.declared.problem.Pred.TheVariants.{BoolClause, IntLinLe}
use Rattle.qc_model.specs.Arguments.{arg_variables, variables_of}
use Rattle.qc_model.specs.Content.{Game, Rule}
use Rattle.qc_model.specs.Closed.{keeps_ends}
use Rattle.qc_model.specs.Domains.{Box, declared_box, values_left, is_single, least_value, greatest_value, has_empty, is_sub_box}
use Rattle.proof_tree.specs.declared.tree.Step.{Step}
use Rattle.proof_tree.specs.declared.tree.Step.TheVariants.{Prune, Bound}
use Rattle.prop_base.specs.Pruning.{is_just}
use Rattle.model_arguments.specs.Asked.{is_box_of}
use Rattle.model_arguments.specs.Written.{arg_at, args_at, ints_at}
use Rattle.prop_engine.specs.declared.watching.HeldBy.{HeldBy}
use Rattle.prop_engine.specs.declared.watching.HeldBy.TheVariants.{Neither, One, Zero, Least, Greatest}
use Rattle.prop_engine.specs.declared.watching.Watch.{Watch}
use Rattle.prop_engine.specs.declared.moved.Moved.{Moved}
use Rattle.prop_engine.specs.declared.found.Found.{Found}
use Rattle.prop_engine.specs.declared.found.Found.TheVariants.{Settled, Emptied, Changed}
use Rattle.prop_engine.specs.declared.hints.Hint.{Hint}
use Rattle.prop_engine.specs.Literals.{IsLiteralOf}
use Rattle.prop_engine.specs.Closing.{has_constraint, EachRule, IsClosedFor}
use Rattle.prop_engine.specs.Skipping.{IsSkipOf}

-- the constraints that wait, in order, and a mark for each constraint
pub record Waiting : Type 0 where
  pub marks : List Bool
  pub queue : List ConId

-- so many marks are set
abbrev pub marked : List Bool → ℕ
marked [] = 0
marked (true ∷ marks) = marked marks + 1
marked (false ∷ marks) = marked marks

-- no more wait in both queues than are marked, each queue has a place for each mark, and each mark's queue is known
pub record HasRoom (first later first_room later_room : ℕ) (marks many : List Bool) : Type 0 where
  pub few : first + later ≤ marked marks
  pub first_places : length marks ≤ first_room
  pub later_places : length marks ≤ later_room
  pub queues : length many ≡ length marks

abbrev pub is_marked : Waiting → ℕ → Bool
is_marked w k = slice_index_or w.marks k false

-- each constraint with a mark waits
abbrev pub MarkedWait : Waiting → Type 0
MarkedWait w = (k : ℕ) → IsTrue (is_marked w k) → IsTrue (has_constraint w.queue k)

-- each that waits has a number that passes
abbrev pub all_waiting : (ℕ → Bool) → Waiting → Bool
all_waiting ok w = list_all (λ c. ok c.0) w.queue

-- the constraints that mention each variable
abbrev pub Watches : Type 0
Watches = List (List Watch)

abbrev pub watchers : Watches → ℕ → List Watch
watchers ws x = slice_index_or ws x []

-- the constraint k watches x
abbrev pub has_watch : List Watch → ℕ → Bool
has_watch ws k = list_any (λ w. w.c.0 == k) ws

abbrev pub is_watched : Watches → ℕ → ℕ → Bool
is_watched ws k x = has_watch (watchers ws x) k

abbrev pub has_number : List ℕ → ℕ → Bool
has_number xs x = list_any (λ y. y == x) xs

-- a sum that a number bounds from above
abbrev pub is_plain : Arg → Bool
is_plain (Num n) = true
is_plain (Var x) = false

abbrev pub IsBoundedSum : Rule → Type 0
IsBoundedSum c = (c.pred ≡ IntLinLe) × IsTrue (is_plain (arg_at c.args 2))

-- each term of x has a factor above 0, or none has
abbrev pub AreRising : Bool → Rule → ℕ → Type 0
AreRising above c x =
    (i : ℕ) (n : ℤ) (y : VarId) → slice_get (ints_at c.args 0) i ≡ Some n → slice_get (args_at c.args 1) i ≡ Some (Var y) → y.0 ≡ x → int_lt (pos 0) n ≡ above

-- the end that a term with this factor rests on
abbrev pub resting_end : Option ℤ → HeldBy
resting_end None = Neither
resting_end (Some n) = cond (int_lt (pos 0) n) Least Greatest

-- the constraint is a clause, in which x is a literal that holds by this value; or a bounded sum, whose terms of x rest on this end
abbrev pub IsHeld : HeldBy → Rule → ℕ → Type 0
IsHeld Neither c x = ⊤
IsHeld One c x = (c.pred ≡ BoolClause) × IsTrue (has_number (flat_map arg_variables (args_at c.args 0)) x)
IsHeld Zero c x = (c.pred ≡ BoolClause) × IsTrue (has_number (flat_map arg_variables (args_at c.args 1)) x)
IsHeld Least c x = IsBoundedSum c × AreRising true c x
IsHeld Greatest c x = IsBoundedSum c × AreRising false c x

-- what a watch of x says by which value its constraint holds
abbrev pub IsRight : Game → ℕ → Watch → Type 0
IsRight g x w = (c : Rule) → slice_get g.constraints w.c.0 ≡ Some c → IsHeld w.held_by c x

abbrev pub AreRight : Game → Watches → Type 0
AreRight g ws = (x i : ℕ) (w : Watch) → slice_get (watchers ws x) i ≡ Some w → IsRight g x w

-- the one value left to x by which clauses hold
abbrev pub IsNow : HeldBy → Box → ℕ → Type 0
IsNow Neither box x = ⊤
IsNow One box x = IsTrue (is_single (values_left box x)) × (least_value (values_left box x) ≡ pos 1)
IsNow Zero box x = IsTrue (is_single (values_left box x)) × (least_value (values_left box x) ≡ pos 0)
IsNow Least box x = ⊤
IsNow Greatest box x = ⊤

-- the numbers of the constraints ascend
abbrev pub ascends : List Watch → Bool
ascends [] = true
ascends (w ∷ ws) = list_all (λ v. nat_le w.c.0 v.c.0) ws && ascends ws

-- each list ascends, to no more than k
pub record AscendTo (k : ℕ) (ws : Watches) : Type 0 where
  pub most : (x : ℕ) → IsTrue (list_all (λ w. nat_le w.c.0 k) (watchers ws x))
  pub order : (x : ℕ) → IsTrue (ascends (watchers ws x))

-- the lists are of these variables, each ascends, each constraint watches its own, and what is said of clauses is right
pub record IsWatchOf (g : Game) (ws : Watches) : Type 0 where
  pub count : length ws ≡ length g.variables
  pub order : (x : ℕ) → IsTrue (ascends (watchers ws x))
  pub watched : (k : ℕ) (c : Rule) → slice_get g.constraints k ≡ Some c → IsTrue (list_all (is_watched ws k) (variables_of c.args))
  pub right : AreRight g ws

-- each list has what it had
pub record HasGrown (ws vs : Watches) : Type 0 where
  pub count : length vs ≡ length ws
  pub kept : (k x : ℕ) → IsTrue (is_watched ws k x) → IsTrue (is_watched vs k x)

-- the constraint that needn't wait
abbrev pub is_own : Option ConId → ℕ → Bool
is_own None k = false
is_own (Some c) k = c.0 == k

abbrev pub names : List VarId → ℕ → Bool
names xs x = list_any (λ y. y.0 == x) xs

abbrev pub step_variable : Step → VarId
step_variable (Prune x low high c) = x
step_variable (Bound x low high) = x

-- the variables that steps name
abbrev pub changed_by : List Step → List VarId
changed_by steps = map step_variable steps

-- each constraint that passes and isn't marked keeps its ends
abbrev pub KeepsUnmarked : (ℕ → Bool) → Game → Waiting → Box → Type 0
KeepsUnmarked ok g w box =
    (k : ℕ) (c : Rule) → IsTrue (ok k) → slice_get g.constraints k ≡ Some c → IsFalse (is_marked w k) → IsTrue (keeps_ends box c)

-- the constraint of this number waits, or keeps its ends
abbrev pub IsSpared : Game → Waiting → Box → ℕ → Type 0
IsSpared g w box k = IsFalse (is_marked w k) → EachRule (is_just k) g (keeps_ends box)

-- the step may have taken the values below m, or above it
abbrev pub may_raise : Step → ℤ → Bool
may_raise (Prune x low high c) m = int_lt high m
may_raise (Bound x low high) m = true

abbrev pub may_lower : Step → ℤ → Bool
may_lower (Prune x low high c) m = int_lt m low
may_lower (Bound x low high) m = true

-- which ends of its variable the step may have moved
abbrev pub moved_by : Step → Box → Moved
moved_by s box = record {
  least = may_raise s (least_value (values_left box (step_variable s).0));
  greatest = may_lower s (greatest_value (values_left box (step_variable s).0));
}

-- which ends of x aren't the declared ones any more
abbrev pub moved_ever : Game → Box → ℕ → Moved
moved_ever g box x = record {
  least = int_lt (least_value (values_left (declared_box g) x)) (least_value (values_left box x));
  greatest = int_lt (greatest_value (values_left box x)) (greatest_value (values_left (declared_box g) x));
}

-- a bounded sum, and the end of x that its terms rest on hasn't moved
abbrev pub IsStill : Moved → Rule → ℕ → Type 0
IsStill m c x = IsBoundedSum c × ((AreRising true c x × IsFalse m.least) ⊎ (AreRising false c x × IsFalse m.greatest))

-- the constraint of this number waits, or keeps its ends, or rests on an end of x that hasn't moved
abbrev pub MayRest : Game → Waiting → Box → Moved → ℕ → ℕ → Type 0
MayRest g w box m x k = IsFalse (is_marked w k) → (c : Rule) → slice_get g.constraints k ≡ Some c → IsTrue (keeps_ends box c) ⊎ IsStill m c x

-- what a run of the queue finds: nothing left to do, an empty domain, or steps of one constraint,
-- after which it keeps its ends, as each other one did before that doesn't wait
abbrev pub IsFound : Found → (ℕ → Bool) → Game → Waiting → Box → Box → List Step → List Step → Type 0
IsFound Settled ok g w was box steps then = IsClosedFor ok g box
IsFound Emptied ok g w was box steps then = IsTrue (has_empty box)
IsFound (Changed own) ok g w was box steps then =
    IsFalse (has_empty box) × (length steps < length then)
    × ((k : ℕ) (c : Rule) → IsTrue (ok k) → slice_get g.constraints k ≡ Some c → IsFalse (is_marked w k) →
    (IsTrue (own.0 == k) → IsTrue (keeps_ends box c)) × (IsFalse (own.0 == k) → IsTrue (keeps_ends was c)))

-- in some box of declared values each constraint that passes kept its ends, and since then only the named variables have lost
-- values
pub record WasKept (ok : ℕ → Bool) (g : Game) (changed : List VarId) (box : Box) : Type 0 where
  pub earlier : Box
  pub declared : IsTrue (is_box_of g earlier)
  pub count : length box ≡ length earlier
  pub fewer : (large : Box) → IsTrue (is_sub_box earlier large) → IsTrue (is_sub_box box large)
  pub kept : EachRule ok g (keeps_ends earlier)
  pub others : (x : ℕ) → IsFalse (names changed x) → values_left box x ≡ values_left earlier x

-- the literals that are kept of a clause are its own
abbrev pub IsHintOf : Rule → Hint → Type 0
IsHintOf c h =
    (c.pred ≡ BoolClause) × (IsLiteralOf (args_at c.args 0) (args_at c.args 1) h.one × IsLiteralOf (args_at c.args 0) (args_at c.args 1) h.other)

pub record IsHintsOf (g : Game) (hs : List Hint) : Type 0 where
  pub count : length hs ≡ length g.constraints
  pub own : (k : ℕ) (h : Hint) (c : Rule) → slice_get hs k ≡ Some h → IsTrue h.known → slice_get g.constraints k ≡ Some c → IsHintOf c h

-- what an engine knows: the constraints that mention each variable, the literals that it keeps, where it goes on from each
-- constraint, and those that wait
pub record Knowing : Type 0 where
  pub watches : List (List Watch)
  pub hints : List Hint
  pub skips : List ℕ
  pub waiting : Waiting

-- an engine of this problem between its calls: none waits
pub record IsReady (g : Game) (e : Knowing) : Type 0 where
  pub watches : IsWatchOf g e.watches
  pub hints : IsHintsOf g e.hints
  pub skips : IsSkipOf g e.skips
  pub count : length e.waiting.marks ≡ length g.constraints
  pub marked : MarkedWait e.waiting
  pub empty : e.waiting.queue ≡ []
