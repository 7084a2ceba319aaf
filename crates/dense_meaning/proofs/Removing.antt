-- Values that no play needs may go.
use Rattle.std.proofs.Common.{◌≡◌, ◌⊎◌, inl, inr, ℕ, zero, suc, ◌+◌, ◌<◌, List, [], ◌∷◌, ◌++◌, length, take, refl, sym, ap, subst, arith, ℤ, Option}
use Rattle.qc_model.specs.declared.problem.Kind.{Kind}
use Rattle.qc_model.specs.declared.problem.Kind.TheVariants.{Exists, Forall}
use Rattle.qc_model.specs.declared.problem.Condition.{Condition}
use Rattle.qc_model.specs.declared.problem.Scope.{Scope}
use Rattle.qc_model.specs.Content.{Game}
use Rattle.qc_model.specs.Lists.{Among}
use Rattle.qc_model.specs.Domains.{InBox, Box}
use Rattle.qc_model.specs.Game.{before, IsMove}
use Rattle.qc_model.specs.Plan.{Plan, finish, choose, answer, Entries, no_entries, entry, entry_tuples, EachEntry, Turn, Covers}
use Rattle.qc_model.specs.Optimal.{Optimal, ChoosesBest}
use Rattle.qc_model.specs.Verdict.{Verdict, lost, exact, at_most, unknown}
use Rattle.qc_model.proofs.Moves.{moves_from, moves_to}
use Rattle.model_laws.specs.Positions.{universal}
use Rattle.proof_meaning.proofs.Boxes.{in_front}
use Rattle.proof_meaning.proofs.Passing.{move_count}
use Rattle.dense_meaning.specs.Throughout.{IsPositionIn, PlaysLie, EachLies, IsOptimalWithin, Says, Throughout, IsAgainst}
use Rattle.dense_meaning.specs.Plays.{NeverStuck, OpponentHasMoves, GoesOn, IsPlay, KeepsThrough, KeepsPlays, KeepsFrom}
use Rattle.dense_meaning.proofs.PlansLie.{lie_front, lie_part}
use Rattle.dense_meaning.proofs.AfterScopes.{entry_at}
use Rattle.dense_meaning.proofs.Staying.{never_front}

abbrev Stays : Game → List Scope → ℕ → Box → Box → List ℤ → Type 0
Stays g later i box small a =
    (t : List ℤ) → IsMove g i a t → (r : Plan) → Optimal g later (suc i) (a ++ t) r → PlaysLie box (a ++ t) r → PlaysLie small (a ++ t) r

-- a strategy in the box stays in the smaller one, which keeps what goes on through the next n scopes, before scope j, and is
-- as wide past them, unless nothing is
pub stay_through : (g : Game) (later : List Scope) (n i j : ℕ) (box small : Box) → n + i ≡ j → (length later < n) ⊎ KeepsFrom g j box small → NeverStuck g (take n later) i box →
    (a : List ℤ) → IsPositionIn g i box a → ((w : List ℤ) → GoesOn g later n i a w → InBox w box → InBox w small) →
    (r : Plan) → Optimal g later i a r → PlaysLie box a r → PlaysLie small a r
stay_through g later zero i j box small e rest free a at f r o h =
    elim rest [
      | inl l ↦ absurd (omega arith)
      | inr k ↦ lie_part (before g j) box small k r a (let q = at.count in let m : i ≡ j = omega arith in let p = ap (before g) m in omega arith) (f a refl at.lies) h
    ]
stay_through g [] (suc n) i j box small e rest free a at f finish o h = f a (refl, o.1) h
stay_through g [] (suc n) i j box small e rest free a at f (choose t r) o h = absurd o.0
stay_through g [] (suc n) i j box small e rest free a at f (answer l) o h = absurd o.0
stay_through g (s ∷ later) (suc n) i j box small e rest free a at f r o h =
    by (λ t m r o h. stay_through g later n (suc i) j box small (omega arith) (elim rest [ inl l ↦ inl (omega arith) | inr k ↦ inr k ]) free.1 (a ++ t) (record { count = move_count g i a t at.count m; lies = lie_front box r (a ++ t) h }) (λ w p. f w (t, m, p)) r o h) s.kind free.0 r o h
  where
    each : Stays g later i box small a → (l : Entries) → ((t : List ℤ) → Among t (entry_tuples l) → IsMove g i a t) → EachEntry (λ t r. Optimal g later (suc i) (a ++ t) r) l → EachLies box a l → EachLies small a l
    each on no_entries m e h = tt
    each on (entry t r rest) m e h = (on t (m t (inl refl)) r e.0 h.0, each on rest (λ u n. m u (inr n)) e.1 h.1)

    by : Stays g later i box small a → (k : Kind) → OpponentHasMoves k g i box → (r : Plan) → Turn k r (ChoosesBest s.condition g i a (Optimal g later (suc i))) (Covers g i a (Optimal g later (suc i))) → PlaysLie box a r → PlaysLie small a r
    by on Exists f finish o h = absurd o
    by on Exists f (choose t r) o h = on t o.is_move r o.after h
    by on Exists f (answer l) o h = absurd o
    by on Forall f finish o h = absurd o
    by on Forall f (choose t r) o h = absurd o
    by on Forall f (answer l) o h =
        let t = f a at in
        let q = entry_at box (Optimal g later (suc i)) a t.0 l o.each h.1 (subst (Among t.0) (sym o.tuples) (moves_from g i a t.0 t.1)) in (
          in_front a t.0 small (lie_front small q.0 (a ++ t.0) (on t.0 t.1 q.0 q.1 q.2)),
          each on l (λ u m. moves_to g i a u (subst (Among u) o.tuples m)) o.each h.1,
        )

-- whole plays
pub stay : (g : Game) (later : List Scope) (i : ℕ) (box small : Box) → NeverStuck g later i box → (a : List ℤ) → IsPositionIn g i box a → ((w : List ℤ) → IsPlay g later i a w → InBox w box → InBox w small) →
    (r : Plan) → Optimal g later i a r → PlaysLie box a r → PlaysLie small a r
stay g later i box small free =
    stay_through g later (suc (length later)) i (suc (length later) + i) box small refl (inl (omega arith)) (never_front g later (suc (length later)) i box free)

-- what is said of the strategies in the smaller box, which are all
pub says_against : (v : Verdict) (g : Game) (later : List Scope) (i : ℕ) (d : List Condition) (box small : Box) (a : List ℤ) → length a ≡ before g i → IsAgainst v →
    ((r : Plan) → IsOptimalWithin g later i box a r → IsOptimalWithin g later i small a r) → Throughout v g later i d small → Says v g later i d box a
says_against lost g later i d box small a n q f h =
    λ r o. let k = f r o in h a (record { count = n; lies = lie_front small r a k.lies }) r k
says_against (exact v) g later i d box small a n q f h = absurd q
says_against (at_most p) g later i d box small a n q f h =
    λ r o. let k = f r o in h a (record { count = n; lies = lie_front small r a k.lies }) r k
says_against unknown g later i d box small a n q f h = tt

pub remove_jointly : (v : Verdict) (g : Game) (later : List Scope) (i : ℕ) (d : List Condition) (box small : Box) → NeverStuck g later i box → KeepsPlays g later i box small → IsAgainst v →
    Throughout v g later i d small → Throughout v g later i d box
remove_jointly v g later i d box small free keeps q h a at =
    says_against v g later i d box small a at.count q
    (λ r o. record { optimal = o.optimal; lies = stay g later i box small free a at (λ w p. keeps a w at p) r o.optimal o.lies }) h

pub remove_through : (v : Verdict) (g : Game) (later : List Scope) (n i : ℕ) (d : List Condition) (box small : Box) → NeverStuck g (take n later) i box →
    KeepsThrough g later n i box small → KeepsFrom g (n + i) box small → IsAgainst v → Throughout v g later i d small → Throughout v g later i d box
remove_through v g later n i d box small free keeps rest q h a at =
    says_against v g later i d box small a at.count q
    (λ r o. record { optimal = o.optimal; lies = stay_through g later n i (n + i) box small refl (inr rest) free a at (λ w p. keeps a w at p) r o.optimal o.lies }) h

-- the opponent's own values
pub remove_own : (v : Verdict) (g : Game) (later : List Scope) (x : Option Condition) (i : ℕ) (d : List Condition) (box small : Box) →
    ((a : List ℤ) → IsPositionIn g i box a → InBox a small) → KeepsThrough g (universal x ∷ later) 1 i box small → KeepsFrom g (suc i) box small →
    IsAgainst v → Throughout v g (universal x ∷ later) i d small → Throughout v g (universal x ∷ later) i d box
remove_own v g later x i d box small positions keeps rest q h a at =
    says_against v g (universal x ∷ later) i d box small a at.count q (λ r o. record { optimal = o.optimal; lies = here r o.optimal o.lies }) h
  where
    each : (l : Entries) → ((t : List ℤ) → Among t (entry_tuples l) → IsMove g i a t) → EachLies box a l → EachLies small a l
    each no_entries m k = tt
    each (entry t r l) m k =
        let n = m t (inl refl) in
        let c = move_count g i a t at.count n in
        let j : InBox (a ++ t) small = keeps a (a ++ t) at (t, n, refl) (lie_front box r (a ++ t) k.0) in (
          lie_part (before g (suc i)) box small rest r (a ++ t) (omega arith) j k.0,
          each l (λ u p. m u (inr p)) k.1,
        )

    here : (r : Plan) → Optimal g (universal x ∷ later) i a r → PlaysLie box a r → PlaysLie small a r
    here finish o k = absurd o
    here (choose t r) o k = absurd o
    here (answer l) o k = (positions a at, each l (λ u m. moves_to g i a u (subst (Among u) o.tuples m)) k.1)
