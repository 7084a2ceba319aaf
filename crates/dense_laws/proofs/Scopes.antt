-- The scopes from a number on, and the lists demanded of them.
use Rattle.std.proofs.Common.{◌≡◌, ℕ, zero, suc, ◌+◌, ◌<◌, ◌≤◌, List, [], ◌∷◌, length, take, drop, refl, ap, arith, Some}
use Rattle.std.specs.Prelude.{slice_get}
use Rattle.qc_model.specs.declared.problem.Condition.{Condition}
use Rattle.qc_model.specs.declared.problem.Scope.{Scope}
use Rattle.qc_model.specs.Content.{Game}
use Rattle.qc_model.specs.Demands.{demands, demands_from}
use Rattle.proof_tree.specs.Place.{list_after}

pub scope_at : (ss : List Scope) (n : ℕ) (s : Scope) (later : List Scope) → drop n ss ≡ s ∷ later → (slice_get ss n ≡ Some s) × (drop (suc n) ss ≡ later) × (n < length ss)
scope_at [] zero s later e = cc
scope_at [] (suc n) s later e = let q : [] ≡ s ∷ later = e in cc
scope_at (x ∷ ss) zero s later e = let q : x ≡ s = cc in let r : ss ≡ later = cc in (ap Some q, r, omega arith)
scope_at (x ∷ ss) (suc n) s later e = let r = scope_at ss n s later e in let l = r.2 in (r.0, r.1, omega arith)

-- at the last of them nothing is left
pub none_after : (ss : List Scope) (n : ℕ) → drop n ss ≡ [] → n ≤ length ss → n ≡ length ss
none_after [] zero e l = omega arith
none_after [] (suc n) e l = absurd (omega arith)
none_after (x ∷ ss) zero e l = cc
none_after (x ∷ ss) (suc n) e l = let r = none_after ss n e (omega arith) in omega arith

list_step : (g : Game) (ss : List Scope) (n : ℕ) (d : List Condition) → n < length ss → list_after g (drop n ss) (demands_from g (take n ss) d) ≡ demands_from g (take (suc n) ss) d
list_step g [] n d l = absurd (omega arith)
list_step g (s ∷ ss) zero d l = refl
list_step g (s ∷ ss) (suc n) d l = list_step g ss n _ (omega arith)

pub list_next : (g : Game) (n : ℕ) → n < length g.scopes → list_after g (drop n g.scopes) (demands g n) ≡ demands g (suc n)
list_next g n l = list_step g g.scopes n [] l

-- how many scopes are left
pub left_over : (ss : List Scope) (n : ℕ) (s : Scope) (later : List Scope) → drop n ss ≡ s ∷ later → suc n + length later ≡ length ss
left_over [] zero s later e = cc
left_over [] (suc n) s later e = let q : [] ≡ s ∷ later = e in cc
left_over (x ∷ ss) zero s later e = let r : ss ≡ later = cc in let l = ap length r in omega arith
left_over (x ∷ ss) (suc n) s later e = let r = left_over ss n s later e in omega arith
