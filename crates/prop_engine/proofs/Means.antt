-- Closed for numbers, and closed for a list of constraints.
use Rattle.std.proofs.Common.{◌≡◌, ℕ, zero, suc, Bool, true, false, not, List, [], ◌∷◌, cond, refl}
use Rattle.std.specs.Prelude.{slice_get, Some, filter}
use Rattle.std.specs.List.{list_all}
use Rattle.std.proofs.lemmas.Bool.{not_from_false, and_from}
use Rattle.qc_model.specs.Closed.{keeps_ends, is_closed}
use Rattle.qc_model.specs.Content.{Game, Rule}
use Rattle.qc_model.specs.Domains.{Box, has_empty}
use Rattle.prop_engine.specs.Closing.{IsClosedFor}

kept_filter : (p q : Rule → Bool) (cs : List Rule) → ((k : ℕ) (c : Rule) → slice_get cs k ≡ Some c → p c ≡ true → q c ≡ true) → list_all q (filter p cs) ≡ true
kept_filter p q [] f = refl
kept_filter p q (c ∷ cs) f = by (p c) (λ e. f zero c refl e) (kept_filter p q cs (λ k d s e. f (suc k) d s e))
  where
    by : (b : Bool) → (b ≡ true → q c ≡ true) → list_all q (filter p cs) ≡ true → list_all q (cond b (c ∷ filter p cs) (filter p cs)) ≡ true
    by true e h = and_from (q c) (list_all q (filter p cs)) (e refl) h
    by false e h = h

-- for the constraints that pass a test, where the number of each passes
pub closed_for : (ok : ℕ → Bool) (g : Game) (p : Rule → Bool) (box : Box) → IsClosedFor ok g box → ((k : ℕ) (c : Rule) → slice_get g.constraints k ≡ Some c → p c ≡ true → ok k ≡ true) →
    is_closed (filter p g.constraints) box ≡ true
closed_for ok g p box h f =
    and_from (not (has_empty box)) (list_all (keeps_ends box) (filter p g.constraints)) (not_from_false (has_empty box) h.0)
    (kept_filter p (keeps_ends box) g.constraints (λ k c s e. h.1 k c (f k c s e) s))
