-- What is known of the scopes of a game, with some tuples given.
use Rattle.std.specs.Prelude.{◌≡◌, ◌≤◌, ℕ, nat_le, Bool, true, false, not, ◌||◌, Some, List, [], ◌∷◌, ◌++◌, length, drop, slice_get}
use Rattle.std.specs.List.{list_any}
use Rattle.qc_model.specs.declared.problem.Scope.{Scope}
use Rattle.qc_model.specs.Block.{of_kind, force_stop}
use Rattle.qc_model.specs.Content.{Game}
use Rattle.dense_tree.specs.Free.{is_unrestricted, gives, is_free_from}
use Rattle.dense_tree.specs.Proves.{are_in_order}
use Rattle.dense_tree.specs.Tree.{Given}
use Rattle.dense_box.specs.declared.freedom.Standing.{Standing}
use Rattle.dense_box.specs.declared.freedom.Freedom.{Freedom}

-- the owner is never stuck, and the opponent isn't
abbrev pub never_stuck : Standing → Bool
never_stuck m = m.is_unrestricted || m.has_tuple

abbrev pub is_passed : Standing → Bool
is_passed m = not m.is_opponents || never_stuck m

-- scope i is s
pub record IsStandingOf (g : Game) (us : List Given) (s : Scope) (i : ℕ) (m : Standing) : Type 0 where
  pub owner : m.is_opponents ≡ of_kind s.kind false true
  pub restriction : m.is_unrestricted ≡ is_unrestricted g i
  pub tuple : m.has_tuple ≡ list_any (gives g i) us
  pub stop : m.stop ≡ force_stop (drop i g.scopes) i

-- the tuples us were given
pub record StandsFor (g : Game) (us : List Given) (f : Freedom) : Type 0 where
  pub count : length f.standings.items ≡ length g.scopes
  pub each : (k : ℕ) (s : Scope) (m : Standing) → slice_get g.scopes k ≡ Some s → slice_get f.standings.items k ≡ Some m → IsStandingOf g us s k m
  pub free : (k : ℕ) → k ≤ length g.scopes → is_free_from g us (drop k g.scopes) k ≡ nat_le f.free_from k
  pub next : (u : Given) → are_in_order us ≡ true → are_in_order (us ++ u ∷ []) ≡ nat_le f.next u.scope.0
