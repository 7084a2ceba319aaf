-- Where a constraint of the restriction refutes a box, no tuple in it is allowed.
use Rattle.std.proofs.Common.{◌≡◌, inl, inr, ℕ, zero, suc, ◌+◌, ◌≤◌, ◌==◌, Bool, true, false, ◌&&◌, ◌||◌, List, [], ◌∷◌, ◌++◌, ℤ, length, take, drop, refl, sym, ap, subst, arith, length-append, Some, slice_get}
use Rattle.std.specs.List.{list_all, list_any}
use Rattle.std.proofs.lemmas.Bool.{eqb-true, false_from_ne_true}
use Rattle.qc_model.specs.Content.{Game, Rule}
use Rattle.qc_model.specs.Domains.{Box, InBox, declared_box}
use Rattle.qc_model.specs.Game.{before, restriction, allows}
use Rattle.qc_model.specs.Holds.{holds_on}
use Rattle.qc_model.specs.Lists.{Among, LiesIn}
use Rattle.qc_model.specs.Refuted.{refuted_by}
use Rattle.qc_model.specs.Valid.{IsValid}
use Rattle.qc_model.specs.Visible.{ArgumentsBelow}
use Rattle.qc_model.proofs.Before.{before-le}
use Rattle.qc_model.proofs.Moves.{of_filter}
use Rattle.qc_model.proofs.Sound.{differ}
use Rattle.model_table.proofs.Ordered.{valid_ordered}
use Rattle.model_table.proofs.Valid.{valid_table_sound}
use Rattle.proof_meaning.proofs.Boxes.{from_take, in_append}
use Rattle.tell_moves.specs.Found.{domains_to}
use Rattle.tell_moves.specs.Stands.{singles, StandsIn}

lies_length : (t : List ℤ) (ds : Box) → LiesIn t ds → length t ≡ length ds
lies_length [] [] h = refl
lies_length [] (d ∷ ds) h = absurd h
lies_length (v ∷ t) [] h = absurd h
lies_length (v ∷ t) (d ∷ ds) h = ap suc (lies_length t ds h.1)

pub length_to : (n stop : ℕ) (ds : Box) → n ≤ stop → stop ≤ length ds → n + length (drop n (take stop ds)) ≡ stop
length_to zero zero ds l h = let e : length (drop zero (take zero ds)) ≡ 0 = refl in omega (arith, e)
length_to zero (suc stop) [] l h = absurd (omega arith)
length_to zero (suc stop) (d ∷ ds) l h =
    let r = length_to zero stop ds (omega arith) (omega arith) in
    let e : length (drop zero (take (suc stop) (d ∷ ds))) ≡ suc (length (drop zero (take stop ds))) = refl in
    omega (arith, r, e)
length_to (suc n) zero ds l h = absurd (omega arith)
length_to (suc n) (suc stop) [] l h = absurd (omega arith)
length_to (suc n) (suc stop) (d ∷ ds) l h =
    let r = length_to n stop ds (omega arith) (omega arith) in
    let e : length (drop (suc n) (take (suc stop) (d ∷ ds))) ≡ length (drop n (take stop ds)) = refl in
    omega (arith, r, e)

-- what lies in the domains up to the stop lies in the box
pub in_stop : (k stop : ℕ) (t : List ℤ) (ds : Box) → LiesIn t (drop k (take stop ds)) → InBox t (drop k ds)
in_stop zero stop t ds h = from_take stop t ds h
in_stop (suc k) zero [] ds h = tt
in_stop (suc k) zero (v ∷ t) ds h = absurd h
in_stop (suc k) (suc stop) [] [] h = tt
in_stop (suc k) (suc stop) (v ∷ t) [] h = absurd h
in_stop (suc k) (suc stop) t (d ∷ ds) h = in_stop k stop t ds h

in_both : (w t : List ℤ) (rest : Box) → InBox t rest → InBox (w ++ t) (singles w ++ rest)
in_both [] t rest h = h
in_both (v ∷ w) t rest h = (inl refl, in_both w t rest h)

at_place : {X : Type 0} (x : X) (xs : List X) → Among x xs → (k : ℕ) × (slice_get xs k ≡ Some x)
at_place x [] h = absurd h
at_place x (y ∷ ys) h = elim h [ inl e ↦ (zero, ap Some (sym e)) | inr m ↦ (let r = at_place x ys m in (suc r.0, r.1)) ]

any_all : (f h : Rule → Bool) (cs : List Rule) → ((c : Rule) → Among c cs → f c ≡ true → h c ≡ false) → list_any f cs ≡ true → list_all h cs ≡ false
any_all f h [] k e = cc
any_all f h (c ∷ cs) k e = by (f c) (h c) (k c (inl refl)) e (any_all f h cs (λ d m. k d (inr m)))
  where
    by : (a b : Bool) → (a ≡ true → b ≡ false) → (a || list_any f cs) ≡ true → (list_any f cs ≡ true → list_all h cs ≡ false) → (b && list_all h cs) ≡ false
    by a false p e r = refl
    by true true p e r = absurd (differ (sym (p refl)))
    by false true p e r = r e

module _ (g : Game) (valid : IsValid g) (i : ℕ) where
  -- a rule of the scope sees no later variable
  sees : (c : Rule) → Among c (restriction g i) → (k : ℕ) × (slice_get g.constraints k ≡ Some c) × ArgumentsBelow (before g (suc i)) c.args
  sees c m =
      let r = of_filter (λ d. d.owner.0 == i) c g.constraints m in
      let at = at_place c g.constraints r.0 in
      let own : c.owner.0 ≡ i = eqb-true c.owner.0 i r.1 in
      (at.0, at.1, subst (λ j. ArgumentsBelow (before g (suc j)) c.args) own ((valid_ordered g valid).visible at.0 c at.1))

  pub refuted_none : (w : List ℤ) (box : Box) → StandsIn g w box → (stop : ℕ) → stop ≡ before g (suc i) → length w ≤ stop →
      list_any (λ c. refuted_by c box) (restriction g i) ≡ true → (t : List ℤ) → LiesIn t (domains_to g (length w) stop) → allows g i (w ++ t) ≡ false
  refuted_none w box s stop e l some t lies =
      any_all (λ c. refuted_by c box) (λ c. holds_on c (w ++ t)) (restriction g i)
      (λ c m r. false_from_ne_true (holds_on c (w ++ t)) (λ h. let v = sees c m in valid_table_sound g valid v.0 c box (w ++ t) v.1 (below c v.2) declared r inside h))
      some
    where
      high : stop ≤ length (declared_box g)
      high = let b = before-le g (suc i) in omega (arith, e, b)

      size : length (w ++ t) ≡ before g (suc i)
      size =
          let a = length_to (length w) stop (declared_box g) l high in
          let b = lies_length t (domains_to g (length w) stop) lies in
          let c : length (w ++ t) ≡ length w + length t = length-append w t in
          omega (arith, a, b, c, e)

      below : (c : Rule) → ArgumentsBelow (before g (suc i)) c.args → ArgumentsBelow (length (w ++ t)) c.args
      below c h = subst (λ n. ArgumentsBelow n c.args) (sym size) h

      rest : InBox t (drop (length w) (declared_box g))
      rest = in_stop (length w) stop t (declared_box g) lies

      declared : InBox (w ++ t) (declared_box g)
      declared = in_append w t (declared_box g) s.declared rest

      inside : InBox (w ++ t) box
      inside = subst (InBox (w ++ t)) (sym s.box_is) (in_both w t (drop (length w) (declared_box g)) rest)
