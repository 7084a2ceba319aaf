-- Plans whose plays lie in a box, and smaller boxes.
use Rattle.std.proofs.Common.{inl, inr, ℕ, zero, suc, ◌<◌, ◌≤◌, List, [], ◌∷◌, ◌++◌, length, take, set, arith, ℤ}
use Rattle.std.proofs.lemmas.List.{length-append}
use Rattle.qc_model.specs.declared.problem.Condition.{Condition}
use Rattle.qc_model.specs.declared.problem.Scope.{Scope}
use Rattle.qc_model.specs.Content.{Game}
use Rattle.qc_model.specs.Domains.{InBox, Box}
use Rattle.qc_model.specs.Game.{before}
use Rattle.qc_model.specs.Plan.{Plan, finish, choose, answer, Entries, no_entries, entry}
use Rattle.qc_model.specs.Verdict.{Verdict, lost, exact, at_most, unknown}
use Rattle.proof_meaning.proofs.Boxes.{in_front, values_split}
use Rattle.proof_meaning.proofs.Taken.{taken_front}
use Rattle.dense_meaning.specs.Throughout.{PlaysLie, EachLies, IsOptimalWithin, Says, Throughout}

mutual
  pub lie_wider : (small box : Box) → ((w : List ℤ) → InBox w small → InBox w box) → (s : Plan) (a : List ℤ) → PlaysLie small a s → PlaysLie box a s
  lie_wider small box f finish a h = f a h
  lie_wider small box f (choose t s) a h = lie_wider small box f s (a ++ t) h
  lie_wider small box f (answer l) a h = (f a h.0, each_wider small box f l a h.1)

  pub each_wider : (small box : Box) → ((w : List ℤ) → InBox w small → InBox w box) → (l : Entries) (a : List ℤ) → EachLies small a l → EachLies box a l
  each_wider small box f no_entries a h = tt
  each_wider small box f (entry t s rest) a h = (lie_wider small box f s (a ++ t) h.0, each_wider small box f rest a h.1)

-- the position lies where the plays do
pub lie_front : (box : Box) (s : Plan) (a : List ℤ) → PlaysLie box a s → InBox a box
lie_front box finish a h = h
lie_front box (choose t s) a h = in_front a t box (lie_front box s (a ++ t) h)
lie_front box (answer l) a h = h.0

optimal_wider : (g : Game) (later : List Scope) (i : ℕ) (small box : Box) (a : List ℤ) (s : Plan) → ((w : List ℤ) → InBox w small → InBox w box) →
    IsOptimalWithin g later i small a s → IsOptimalWithin g later i box a s
optimal_wider g later i small box a s f h = record { optimal = h.optimal; lies = lie_wider small box f s a h.lies }

-- what is said of more strategies
pub says_less : (v : Verdict) (g : Game) (later : List Scope) (i : ℕ) (d : List Condition) (small box : Box) (a : List ℤ) →
    ((r : Plan) → IsOptimalWithin g later i small a r → IsOptimalWithin g later i box a r) → Says v g later i d box a → Says v g later i d small a
says_less lost g later i d small box a f h = λ r o. h r (f r o)
says_less (exact v) g later i d small box a f h = record { some = h.some; best = λ r o. h.best r (f r o) }
says_less (at_most p) g later i d small box a f h = λ r o. h r (f r o)
says_less unknown g later i d small box a f h = tt

pub restrict : (v : Verdict) (g : Game) (later : List Scope) (i : ℕ) (d : List Condition) (small box : Box) → ((w : List ℤ) → InBox w small → InBox w box) →
    Throughout v g later i d box → Throughout v g later i d small
restrict v g later i d small box f h a at =
    says_less v g later i d small box a (λ r o. optimal_wider g later i small box a r f o) (h a (record { count = at.count; lies = f a at.lies }))

-- values whose front lies in a part of the box lie in the part
mutual
  pub lie_part : (n : ℕ) (box part : Box) → ((w : List ℤ) → InBox w box → InBox (take n w) part → InBox w part) → (s : Plan) (a : List ℤ) → n ≤ length a → InBox a part → PlaysLie box a s → PlaysLie part a s
  lie_part n box part f finish a l q h = q
  lie_part n box part f (choose t s) a l q h =
      lie_part n box part f s (a ++ t) (omega (arith, length-append a t)) (f (a ++ t) (lie_front box s (a ++ t) h) (taken_front n a t part l q)) h
  lie_part n box part f (answer l) a m q h = (q, each_part n box part f l a m q h.1)

  each_part : (n : ℕ) (box part : Box) → ((w : List ℤ) → InBox w box → InBox (take n w) part → InBox w part) → (l : Entries) (a : List ℤ) → n ≤ length a → InBox a part → EachLies box a l → EachLies part a l
  each_part n box part f no_entries a m q h = tt
  each_part n box part f (entry t s rest) a m q h =
      (lie_part n box part f s (a ++ t) (omega (arith, length-append a t)) (f (a ++ t) (lie_front box s (a ++ t) h.0) (taken_front n a t part m q)) h.0, each_part n box part f rest a m q h.1)

-- a variable whose values are split
pub set_part : (ds : Box) (x : ℕ) (us vs w : List ℤ) → InBox w (set ds x us) → InBox (take (suc x) w) (set ds x vs) → InBox w (set ds x vs)
set_part ds x us vs [] h k = tt
set_part [] x us vs (v ∷ w) h k = h
set_part (d ∷ ds) zero us vs (v ∷ w) h k = (k.0, h.1)
set_part (d ∷ ds) (suc x) us vs (v ∷ w) h k = (h.0, set_part ds x us vs w h.1 k.1)

says_of_part : (v : Verdict) (g : Game) (later : List Scope) (i : ℕ) (d : List Condition) (box : Box) (x : ℕ) (us vs : List ℤ) (a : List ℤ) → suc x ≤ length a → InBox a (set box x vs) →
    Says v g later i d (set box x vs) a → Says v g later i d (set box x us) a
says_of_part v g later i d box x us vs a l q h =
    says_less v g later i d (set box x us) (set box x vs) a
    (λ r o. record { optimal = o.optimal; lies = lie_part (suc x) (set box x us) (set box x vs) (λ w. set_part box x us vs w) r a l q o.lies }) h

pub split : (v : Verdict) (g : Game) (later : List Scope) (i : ℕ) (d : List Condition) (box : Box) (x : ℕ) (us vs : List ℤ) → x < before g i →
    Throughout v g later i d (set box x us) → Throughout v g later i d (set box x vs) → Throughout v g later i d (set box x (us ++ vs))
split v g later i d box x us vs l h k a at =
    let n = at.count in
    elim (values_split box x us vs a at.lies) [
      | inl q ↦ says_of_part v g later i d box x (us ++ vs) us a (omega arith) q (h a (record { count = n; lies = q }))
      | inr q ↦ says_of_part v g later i d box x (us ++ vs) vs a (omega arith) q (k a (record { count = n; lies = q }))
    ]
