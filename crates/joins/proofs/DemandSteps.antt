-- The demanded lists, one scope after another.
use Rattle.std.proofs.Common.{◌≡◌, ℕ, zero, suc, ◌+◌, ◌≤◌, ◌<◌, Bool, true, false, cond, Option, Some, None, List, [], ◌∷◌, ◌++◌, length, take, refl, sym, ap, ◌∙◌, arith, add-one, get_or, ◌⊎◌, inl, inr}
use Rattle.std.specs.Prelude.{slice_get, Vec}
use Rattle.std.specs.Global.{Global}
use Rattle.std.proofs.lemmas.Option.{slice_get_read}
use Rattle.std.proofs.lemmas.List.{length-map, length-append}
use Rattle.qc_model.specs.declared.problem.Kind.{Kind}
use Rattle.qc_model.specs.declared.problem.Kind.TheVariants.{Exists, Forall}
use Rattle.qc_model.specs.declared.problem.Target.{Target}
use Rattle.qc_model.specs.declared.problem.Target.TheVariants.{Var, Aggregate as Agg}
use Rattle.qc_model.specs.declared.problem.Condition.{Condition}
use Rattle.qc_model.specs.declared.problem.Scope.{Scope}
use Rattle.qc_model.specs.Content.{Game}
use Rattle.qc_model.specs.Demands.{names, with_naming, first_namings, demand_within, demands_after, demands_from, demands}
use Rattle.joins.specs.DemandLists.{items_of}

-- the list after a scope, by the scope's own
step : (g : Game) (scopes : List Scope) (k : ℕ) (s : Scope) (d : List Condition) → slice_get scopes k ≡ Some s →
    demands_from g (take (suc k) scopes) d ≡ demands_after g s.kind s.condition (demands_from g (take k scopes) d)
step g [] k s d e = cc
step g (r ∷ scopes) zero s d e = let q : r ≡ s = cc in ap (λ (z : Scope). demands_after g z.kind z.condition d) q
step g (r ∷ scopes) (suc k) s d e = step g scopes k s (demands_after g r.kind r.condition d) e

pub demands_step : (g : Game) (k : ℕ) (s : Scope) → slice_get g.scopes k ≡ Some s → demands g (k + 1) ≡ demands_after g s.kind s.condition (demands g k)
demands_step g k s e = rw add-one (step g g.scopes k s [] e)

-- a list has at most one entry for each scope before
naming_short : (p : List Condition) (c : Condition) (x : Target) → length (with_naming p c x) ≤ length p + 1
naming_short p c (Var x) = omega arith
naming_short p c (Agg q) = by (names q.0 p)
  where
    by : (b : Bool) → length (cond b p (p ++ c ∷ [])) ≤ length p + 1
    by true = omega arith
    by false = let e = length-append p (c ∷ []) in omega (arith, e)

pub namings_short : (p d : List Condition) → length (first_namings p d) ≤ length p + length d
namings_short p [] = omega arith
namings_short p (c ∷ d) =
    let i = namings_short (with_naming p c c.target) d in
    let s = naming_short p c c.target in
    omega (arith, i, s)

after_short : (g : Game) (k : Kind) (c : Option Condition) (d : List Condition) → length (demands_after g k c d) ≤ length d + 1
after_short g Exists None d = omega arith
after_short g Exists (Some c) d = omega arith
after_short g Forall c d =
    let e = length-map (first_namings [] d) (demand_within g) in
    let s = namings_short [] d in
    omega (arith, e, s)

from_short : (g : Game) (scopes : List Scope) (d : List Condition) → length (demands_from g scopes d) ≤ length d + length scopes
from_short g [] d = omega arith
from_short g (s ∷ scopes) d =
    let i = from_short g scopes (demands_after g s.kind s.condition d) in
    let a = after_short g s.kind s.condition d in
    omega (arith, i, a)

take_short : (k : ℕ) (xs : List Scope) → length (take k xs) ≤ k
take_short zero xs = omega arith
take_short (suc k) [] = omega arith
take_short (suc k) (x ∷ xs) = let i = take_short k xs in omega (arith, i)

pub demands_short : (g : Game) (k : ℕ) → length (demands g k) ≤ k
demands_short g k =
    let s = from_short g (take k g.scopes) [] in
    let t = take_short k g.scopes in
    omega (arith, s, t)

-- ---- the lists as they are put one after another
get_left : {X : Type 0} (xs : List X) (y : X) (k : ℕ) → k < length xs → slice_get (xs ++ y ∷ []) k ≡ slice_get xs k
get_left [] y k h = absurd (omega (arith, h))
get_left (x ∷ xs) y zero h = refl
get_left (x ∷ xs) y (suc k) h = get_left xs y k (omega (arith, h))

get_end : {X : Type 0} (xs : List X) (y : X) → slice_get (xs ++ y ∷ []) (length xs) ≡ Some y
get_end [] y = refl
get_end (x ∷ xs) y = get_end xs y

below_or_at : (k n : ℕ) → k ≤ n + 1 → (k ≤ n) ⊎ (k ≡ n + 1)
below_or_at k n h = grind arith

pub list_read : (lists : List (Vec Condition Global)) (i : ℕ) (x : Vec Condition Global) → i < length lists → x ≡ get_or lists i x → items_of (slice_get lists i) ≡ x.items
list_read lists i x h e = ap items_of (slice_get_read lists (length lists) i x refl h e)

pub lists_more : (g : Game) (lists : List (Vec Condition Global)) (i : ℕ) (x v : Vec Condition Global) (s : Scope) → length lists ≡ i + 1 → x ≡ get_or lists i x →
    ((k : ℕ) → k ≤ i → items_of (slice_get lists k) ≡ demands g k) → slice_get g.scopes i ≡ Some s → v.items ≡ demands_after g s.kind s.condition x.items →
    (k : ℕ) → k ≤ i + 1 → items_of (slice_get (lists ++ v ∷ []) k) ≡ demands g k
lists_more g lists i x v s n e f q r k h = elim (below_or_at k i h) [
  | inl b ↦ ap items_of (get_left lists v k (omega (arith, n, b))) ∙ f k b
  | inr t ↦ (
      let at_end : items_of (slice_get (lists ++ v ∷ []) (length lists)) ≡ v.items = ap items_of (get_end lists v) in
      let own : x.items ≡ demands g i = sym (list_read lists i x (omega (arith, n)) e) ∙ f i (omega arith) in
      ap (λ (m : ℕ). items_of (slice_get (lists ++ v ∷ []) m)) (t ∙ sym n) ∙ at_end ∙ r ∙ ap (demands_after g s.kind s.condition) own ∙ sym (demands_step g i s q) ∙ ap (demands g) (sym t))
]
