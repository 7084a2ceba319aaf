-- What is kept beside values, constraint by constraint and variable by variable.
use Rattle.std.specs.Prelude.{◌≡◌, ◌≤◌, ◌^◌, ℕ, true, List, length, slice_get, Some, ℤ, unsigned_abs}
use Rattle.std.specs.List.{list_all}
use Rattle.qc_model.specs.Content.{Game, Rule}
use Rattle.qc_model.specs.Holds.{holds_on}
use Rattle.qc_model.specs.Valid.{is_number}
use Rattle.check_assignment.specs.declared.standing.Standing.{Standing}
use Rattle.check_assignment.specs.Balance.{test_of, total_of}
use Rattle.check_assignment.specs.Terms.{Terms, terms_at, AreTermsOf}

-- this is right of the constraint on these values
pub record Stands (vs : List ℤ) (c : Rule) (s : Standing) : Type 0 where
  pub test : s.test ≡ test_of c
  pub total : s.total ≡ total_of (test_of c) vs c
  pub holds : s.holds ≡ true → holds_on c vs ≡ true

-- the totals are far within 128 bits
abbrev pub AreSmall : List Standing → Type 0
AreSmall ss = (k : ℕ) (s : Standing) → slice_get ss k ≡ Some s → unsigned_abs s.total ≤ 10 ^ 22

-- values within the number limit, one for each variable; and of each constraint, and each variable, what is kept is right
pub record Keeps (g : Game) (vs : List ℤ) (ts : Terms) (ss : List Standing) : Type 0 where
  pub value_each : length vs ≡ length g.variables
  pub numbers : list_all is_number vs ≡ true
  pub term_each : length ts ≡ length g.variables
  pub standing_each : length ss ≡ length g.constraints
  pub terms : (x : ℕ) → AreTermsOf g x (terms_at ts x)
  pub standings : (k : ℕ) (c : Rule) (s : Standing) → slice_get g.constraints k ≡ Some c → slice_get ss k ≡ Some s → Stands vs c s
