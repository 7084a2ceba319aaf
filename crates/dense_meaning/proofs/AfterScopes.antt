-- From the positions after a scope to the scope.
use Rattle.std.proofs.Common.{◌≡◌, ◌⊎◌, inl, inr, ℕ, suc, ◌<◌, set, List, [], ◌∷◌, ◌++◌, length, take, ◌-◌, refl, sym, ap, subst, arith, ℤ, Option}
use Rattle.std.specs.Prelude.{IsFalse}
use Rattle.std.proofs.lemmas.List.{length-take, length-drop, length-append}
use Rattle.std.proofs.lemmas.Bool.{or_parts}
use Rattle.qc_model.proofs.Before.{before-le, before_up}
use Rattle.qc_model.specs.declared.problem.Condition.{Condition}
use Rattle.qc_model.specs.declared.problem.Scope.{Scope}
use Rattle.qc_model.specs.Content.{Game}
use Rattle.qc_model.specs.Lists.{Among, LiesIn}
use Rattle.qc_model.specs.Domains.{InBox, Box, declared_box}
use Rattle.qc_model.specs.Game.{before, scope_domains, IsMove}
use Rattle.qc_model.specs.Plan.{Plan, finish, choose, answer, Entries, no_entries, entry, entry_tuples, EachEntry}
use Rattle.qc_model.specs.Optimal.{Optimal}
use Rattle.qc_model.specs.Demands.{vector, is_better_vector}
use Rattle.qc_model.specs.Verdict.{Verdict, lost, exact, at_most, unknown, first_value}
use Rattle.qc_model.proofs.Moves.{moves_from}
use Rattle.model_laws.specs.Positions.{existential, universal}
use Rattle.proof_tree.specs.Meaning.{FirstIsNoBetter}
use Rattle.proof_meaning.proofs.Boxes.{values_split}
use Rattle.proof_meaning.proofs.Passing.{move_count}
use Rattle.dense_meaning.specs.Throughout.{IsPositionIn, PlaysLie, EachLies, IsOptimalWithin, Says, Throughout, as_bound, IsAgainst}
use Rattle.dense_meaning.specs.Plays.{CanEnter, KeepsFrom, HoldsThroughout, HasValues}
use Rattle.dense_meaning.proofs.PlansLie.{lie_front, lie_part, set_part}

-- a choice whose plays lie in the box
pub record Onward (g : Game) (later : List Scope) (i : ℕ) (box : Box) (a t : List ℤ) (s : Plan) : Type 0 where
  pub is_move : IsMove g i a t
  pub at : IsPositionIn g (suc i) box (a ++ t)
  pub after : IsOptimalWithin g later (suc i) box (a ++ t) s

onward : (g : Game) (x : Option Condition) (later : List Scope) (i : ℕ) (box : Box) (a t : List ℤ) (s : Plan) → length a ≡ before g i → IsOptimalWithin g (existential x ∷ later) i box a (choose t s) → Onward g later i box a t s
onward g x later i box a t s n h =
    let o = h.optimal in
    let l : PlaysLie box (a ++ t) s = h.lies in
    record {
      is_move = o.is_move;
      at = record { count = move_count g i a t n o.is_move; lies = lie_front box s (a ++ t) l };
      after = record { optimal = o.after; lies = l };
    }

pub postpone_lost : (g : Game) (later : List Scope) (x : Option Condition) (i : ℕ) (d e : List Condition) (box : Box) →
    Throughout lost g later (suc i) e box → Throughout lost g (existential x ∷ later) i d box
postpone_lost g later x i d e box h a at finish o = absurd o.optimal
postpone_lost g later x i d e box h a at (choose t s) o = let q = onward g x later i box a t s at.count o in h (a ++ t) q.at s q.after
postpone_lost g later x i d e box h a at (answer l) o = absurd o.optimal

postpone_bound : (g : Game) (later : List Scope) (x : Option Condition) (i : ℕ) (c : Condition) (d : List Condition) (p : ℤ) (box : Box) →
    ((a : List ℤ) → IsPositionIn g (suc i) box a → (r : Plan) → IsOptimalWithin g later (suc i) box a r → FirstIsNoBetter g (c ∷ d) a r p) →
    (a : List ℤ) → IsPositionIn g i box a → (r : Plan) → IsOptimalWithin g (existential x ∷ later) i box a r → FirstIsNoBetter g (c ∷ d) a r p
postpone_bound g later x i c d p box h a at finish o = absurd o.optimal
postpone_bound g later x i c d p box h a at (choose t s) o = let q = onward g x later i box a t s at.count o in h (a ++ t) q.at s q.after
postpone_bound g later x i c d p box h a at (answer l) o = absurd o.optimal

-- the first value is no better than that of a vector that isn't beaten
pub first_held : (g : Game) (c : Condition) (d : List Condition) (a v : List ℤ) (s r : Plan) → vector g (c ∷ d) a s ≡ v → IsFalse (is_better_vector (c ∷ d) (vector g (c ∷ d) a r) v) → FirstIsNoBetter g (c ∷ d) a r (first_value v)
first_held g c d a [] s r e h = cc
first_held g c d a (x ∷ v) s r e h = (or_parts _ _ h).0

pub postpone : (v : Verdict) (g : Game) (later : List Scope) (x : Option Condition) (i : ℕ) (d : List Condition) (box : Box) →
    Throughout v g later (suc i) d box → Throughout (as_bound d v) g (existential x ∷ later) i d box
postpone lost g later x i d box h = postpone_lost g later x i d d box h
postpone (exact v) g later x i [] box h = λ a at. tt
postpone (exact v) g later x i (c ∷ d) box h =
    postpone_bound g later x i c d (first_value v) box (λ a at r o. let q = h a at in first_held g c d a v q.some.0 r q.some.2 (q.best r o))
postpone (at_most p) g later x i [] box h = λ a at. tt
postpone (at_most p) g later x i (c ∷ d) box h = postpone_bound g later x i c d p box h
postpone unknown g later x i d box h = λ a at. tt

-- the entry of an allowed tuple
pub entry_at : (box : Box) (R : List ℤ → Plan → Type 0) (a t : List ℤ) (l : Entries) → EachEntry (λ u s. R (a ++ u) s) l → EachLies box a l → Among t (entry_tuples l) →
    (s : Plan) × R (a ++ t) s × PlaysLie box (a ++ t) s
entry_at box R a t no_entries e h m = absurd m
entry_at box R a t (entry u s rest) e h m =
    elim m [ inl q ↦ (s, subst (λ z. R (a ++ z) s) (sym q) e.0, subst (λ z. PlaysLie box (a ++ z) s) (sym q) h.0) | inr n ↦ entry_at box R a t rest e.1 h.1 n ]

-- a strategy against the opponent goes on after each allowed tuple
pub answer_at : (g : Game) (x : Option Condition) (later : List Scope) (i : ℕ) (box : Box) (a t : List ℤ) (r : Plan) → length a ≡ before g i → IsOptimalWithin g (universal x ∷ later) i box a r → IsMove g i a t →
    (s : Plan) × Onward g later i box a t s
answer_at g x later i box a t finish n o m = absurd o.optimal
answer_at g x later i box a t (choose u s) n o m = absurd o.optimal
answer_at g x later i box a t (answer l) n o m =
    let c = o.optimal in
    let f : InBox a box × EachLies box a l = o.lies in
    let q = entry_at box (Optimal g later (suc i)) a t l c.each f.1 (subst (Among t) (sym c.tuples) (moves_from g i a t m)) in
    (q.0, record { is_move = m; at = record { count = move_count g i a t n m; lies = lie_front box q.0 (a ++ t) q.2 }; after = record { optimal = q.1; lies = q.2 } })

pub enter_lost : (g : Game) (later : List Scope) (x : Option Condition) (i : ℕ) (d e : List Condition) (box part : Box) → CanEnter g i box part → KeepsFrom g (suc i) box part →
    Throughout lost g later (suc i) e part → Throughout lost g (universal x ∷ later) i d box
enter_lost g later x i d e box part can is_part h a at r o =
    let t = can a at in
    let q = answer_at g x later i box a t.0 r at.count o t.1 in
    let n = q.1.at.count in
    h (a ++ t.0) (record { count = n; lies = t.2 }) q.0
    (record { optimal = q.1.after.optimal; lies = lie_part (before g (suc i)) box part is_part q.0 (a ++ t.0) (omega arith) t.2 q.1.after.lies })

pub enter_held : (g : Game) (i : ℕ) (box : Box) → HoldsThroughout g i box → HasValues g i box → CanEnter g i box box
enter_held g i box h v a at =
    let t = v a at in
    (t.0, record { is_tuple = t.1; is_allowed = h (a ++ t.0) (record { count = tuple_count a t.0 at.count t.1; lies = t.2 }) }, t.2)
  where
    lies_count : (t : List ℤ) (ds : Box) → LiesIn t ds → length t ≡ length ds
    lies_count [] [] h = refl
    lies_count [] (d ∷ ds) h = absurd h
    lies_count (v ∷ t) [] h = absurd h
    lies_count (v ∷ t) (d ∷ ds) h = ap suc (lies_count t ds h.1)

    part_count : (g : Game) (i : ℕ) → length (scope_domains g i) ≡ before g (suc i) - before g i
    part_count g i =
        let most = before-le g (suc i) in
        omega (arith, length-drop (before g i) (take (before g (suc i)) (declared_box g)), length-take (before g (suc i)) (declared_box g))

    tuple_count : (a t : List ℤ) → length a ≡ before g i → LiesIn t (scope_domains g i) → length (a ++ t) ≡ before g (suc i)
    tuple_count a t n l = omega (arith, length-append a t, lies_count t (scope_domains g i) l, part_count g i, before_up g i)

pub best_bound : (v : Verdict) (g : Game) (later : List Scope) (i : ℕ) (d : List Condition) (box : Box) (a : List ℤ) → Says v g later i d box a → Says (as_bound d v) g later i d box a
best_bound lost g later i d box a h = h
best_bound (exact v) g later i [] box a h = tt
best_bound (exact v) g later i (c ∷ d) box a h = λ r o. first_held g c d a v h.some.0 r h.some.2 (h.best r o)
best_bound (at_most p) g later i [] box a h = tt
best_bound (at_most p) g later i (c ∷ d) box a h = h
best_bound unknown g later i d box a h = tt

-- the choice takes one of the values of a variable of its scope, or of an earlier one
pub in_either : (g : Game) (later : List Scope) (y : Option Condition) (i : ℕ) (box : Box) (x : ℕ) (us vs a : List ℤ) → x < before g (suc i) → length a ≡ before g i →
    (r : Plan) → IsOptimalWithin g (existential y ∷ later) i (set box x (us ++ vs)) a r →
    IsOptimalWithin g (existential y ∷ later) i (set box x us) a r ⊎ IsOptimalWithin g (existential y ∷ later) i (set box x vs) a r
in_either g later y i box x us vs a l n finish o = absurd o.optimal
in_either g later y i box x us vs a l n (answer es) o = absurd o.optimal
in_either g later y i box x us vs a l n (choose t s) o =
    let q = onward g y later i (set box x (us ++ vs)) a t s n o in
    let m = q.at.count in
    elim (values_split box x us vs (a ++ t) q.at.lies) [
      | inl k ↦ inl (record { optimal = o.optimal; lies = lie_part (suc x) (set box x (us ++ vs)) (set box x us) (λ w. set_part box x (us ++ vs) us w) s (a ++ t) (omega arith) k q.after.lies })
      | inr k ↦ inr (record { optimal = o.optimal; lies = lie_part (suc x) (set box x (us ++ vs)) (set box x vs) (λ w. set_part box x (us ++ vs) vs w) s (a ++ t) (omega arith) k q.after.lies })
    ]

at_front : (g : Game) (later : List Scope) (i : ℕ) (box : Box) (a : List ℤ) (r : Plan) → length a ≡ before g i → IsOptimalWithin g later i box a r → IsPositionIn g i box a
at_front g later i box a r n o = record { count = n; lies = lie_front box r a o.lies }

pub own_split : (v : Verdict) (g : Game) (later : List Scope) (y : Option Condition) (i : ℕ) (d : List Condition) (box : Box) (x : ℕ) (us vs : List ℤ) → x < before g (suc i) → IsAgainst v →
    Throughout v g (existential y ∷ later) i d (set box x us) → Throughout v g (existential y ∷ later) i d (set box x vs) → Throughout v g (existential y ∷ later) i d (set box x (us ++ vs))
own_split lost g later y i d box x us vs l q h k a at = λ r o. elim (in_either g later y i box x us vs a l at.count r o) [
  | inl p ↦ h a (at_front g (existential y ∷ later) i (set box x us) a r at.count p) r p
  | inr p ↦ k a (at_front g (existential y ∷ later) i (set box x vs) a r at.count p) r p
]
own_split (exact v) g later y i d box x us vs l q h k a at = absurd q
own_split (at_most b) g later y i d box x us vs l q h k a at = λ r o. elim (in_either g later y i box x us vs a l at.count r o) [
  | inl p ↦ h a (at_front g (existential y ∷ later) i (set box x us) a r at.count p) r p
  | inr p ↦ k a (at_front g (existential y ∷ later) i (set box x vs) a r at.count p) r p
]
own_split unknown g later y i d box x us vs l q h k a at = tt
