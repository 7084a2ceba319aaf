-- Values that lie in boxes whose domains were made smaller.
use Rattle.std.proofs.Common.{◌≡◌, ◌⊎◌, inl, inr, ℕ, zero, suc, ◌≤◌, Bool, true, false, not, List, [], ◌∷◌, length, set, get_or, filter, arith, cond}
use Rattle.std.specs.Prelude.{ℤ}
use Rattle.qc_model.specs.Content.{Game}
use Rattle.qc_model.specs.Lists.{Among}
use Rattle.qc_model.specs.Domains.{Box, InBox, declared_box, is_within}
use Rattle.proof_tree.specs.declared.tree.Step.{Step}
use Rattle.proof_tree.specs.declared.tree.Step.TheVariants.{Prune, Bound}
use Rattle.proof_tree.specs.Steps.{after_step, after_steps}
use Rattle.proof_meaning.proofs.Boxes.{filter_widen}
use Rattle.std.proofs.Common.{◌≡◌, inl, inr, ℕ, zero, suc, ◌≤◌, Bool, true, false, not, List, [], ◌∷◌, length, set, arith}
use Rattle.std.specs.Prelude.{ℤ}
use Rattle.qc_model.specs.Domains.{Box, InBox, declared_box}
use Rattle.proof_tree.specs.Steps.{after_steps}

-- each value left was declared
abbrev pub IsWithin : Game → Box → Type 0
IsWithin g box = (k : ℕ) (v : ℤ) → Among v (get_or box k []) → Among v (get_or (declared_box g) k [])

-- values of a set domain
pub within_filter : (p : ℤ → Bool) (ds : Box) (x k : ℕ) (v : ℤ) → Among v (get_or (set ds x (filter p (get_or ds x []))) k []) → Among v (get_or ds k [])
within_filter p [] x k v h = h
within_filter p (d ∷ ds) zero zero v h = of_filter p v d h
  where
    of_filter : (p : ℤ → Bool) (v : ℤ) (d : List ℤ) → Among v (filter p d) → Among v d
    of_filter p v [] h = h
    of_filter p v (x ∷ d) h = pick (p x) h (of_filter p v d)
      where
        pick : (b : Bool) → Among v (cond b (x ∷ filter p d) (filter p d)) → (Among v (filter p d) → Among v d) → (v ≡ x) ⊎ Among v d
        pick true h f = elim h [ inl e ↦ inl e | inr m ↦ inr (f m) ]
        pick false h f = inr (f h)
within_filter p (d ∷ ds) zero (suc k) v h = h
within_filter p (d ∷ ds) (suc x) zero v h = h
within_filter p (d ∷ ds) (suc x) (suc k) v h = within_filter p ds x k v h

pub past_set : (ds : Box) (x : ℕ) (d : List ℤ) (w : List ℤ) → length w ≤ x → InBox w ds → InBox w (set ds x d)
past_set ds x d [] l h = tt
past_set [] x d (v ∷ w) l h = absurd h
past_set (e ∷ ds) zero d (v ∷ w) l h = absurd (omega arith)
past_set (e ∷ ds) (suc x) d (v ∷ w) l h = (h.0, past_set ds x d w (omega arith) h.1)

pub within_in : (w : List ℤ) (ds es : Box) → ((k : ℕ) (v : ℤ) → Among v (get_or ds k []) → Among v (get_or es k [])) → InBox w ds → InBox w es
within_in [] ds es f h = tt
within_in (v ∷ w) [] es f h = absurd h
within_in (v ∷ w) (d ∷ ds) [] f h = f 0 v h.0
within_in (v ∷ w) (d ∷ ds) (e ∷ es) f h = (f 0 v h.0, within_in w ds es (λ k u m. f (suc k) u m) h.1)

-- what is left after steps was left before
pub steps_widen : (steps : List Step) (box : Box) (w : List ℤ) → InBox w (after_steps steps box) → InBox w box
steps_widen [] box w h = h
steps_widen (Prune x lo hi c ∷ steps) box w h = filter_widen (λ u. not (is_within lo hi u)) box x.0 w (steps_widen steps (after_step (Prune x lo hi c) box) w h)
steps_widen (Bound x lo hi ∷ steps) box w h = filter_widen (λ u. not (is_within lo hi u)) box x.0 w (steps_widen steps (after_step (Bound x lo hi) box) w h)

-- a domain set to some of its values
pub within_some : (ds : Box) (x k : ℕ) (us : List ℤ) (u : ℤ) → ((z : ℤ) → Among z us → Among z (get_or ds x [])) → Among u (get_or (set ds x us) k []) → Among u (get_or ds k [])
within_some [] x k us u f h = h
within_some (d ∷ ds) zero zero us u f h = f u h
within_some (d ∷ ds) zero (suc k) us u f h = h
within_some (d ∷ ds) (suc x) zero us u f h = h
within_some (d ∷ ds) (suc x) (suc k) us u f h = within_some ds x k us u f h
