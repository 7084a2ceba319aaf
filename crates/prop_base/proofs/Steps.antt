-- Steps one after another, and what they do to the box.
use Rattle.std.proofs.Common.{◌≡◌, ℕ, zero, suc, ◌+◌, ◌<◌, ◌≤◌, Bool, true, false, not, ◌&&◌, ◌||◌, List, [], ◌∷◌, ◌++◌, length, set, get_or, refl, sym, ap, ◌∙◌, arith, ℤ, append_assoc, append-nil, Some, length-append}
use Rattle.std.specs.Prelude.{slice_get, ◌==◌}
use Rattle.std.proofs.lemmas.List.{get_or-set_same}
use Rattle.std.proofs.lemmas.Bool.Decides.{nat_tests}
use Rattle.std.proofs.lemmas.List.Filters.{length-filter_both}
use Rattle.std.proofs.lemmas.Bool.{not_from_false, and_from}
use Rattle.qc_model.specs.declared.problem.ConId.{ConId}
use Rattle.qc_model.specs.declared.problem.VarId.{VarId}
use Rattle.qc_model.specs.Content.{Game, Rule}
use Rattle.qc_model.specs.Domains.{Values, Box, values_left, values_within, values_outside, box_within, box_without, is_none_left, has_empty, is_within, is_sub_box}
use Rattle.qc_model.specs.Valid.{is_number}
use Rattle.qc_model.proofs.Readable.{first, second}
use Rattle.model_arguments.proofs.Bools.{not_false}
use Rattle.proof_tree.specs.declared.tree.Step.{Step}
use Rattle.proof_tree.specs.declared.tree.Step.TheVariants.{Prune, Bound}
use Rattle.proof_tree.specs.Steps.{removes_some, after_step, after_steps}
use Rattle.fd_store.specs.Held.{Held, Follows}
use Rattle.prop_base.specs.declared.cuts.Cut.{Cut}
use Rattle.prop_base.specs.Closed.{IsCut}
use Rattle.prop_base.specs.Pruning.{is_refuted_by, is_pruned_by, are_pruned_by, IsPruning, is_just, total}
use Rattle.model_arguments.proofs.Boxes.{sub_without}

after-append : (xs ys : List Step) (box : Box) → after_steps (xs ++ ys) box ≡ after_steps ys (after_steps xs box)
after-append [] ys box = refl
after-append (s ∷ xs) ys box = after-append xs ys (after_step s box)

pruned-append : (ok : ℕ → Bool) (g : Game) (xs ys : List Step) (box : Box) → are_pruned_by ok g xs box ≡ true → are_pruned_by ok g ys (after_steps xs box) ≡ true →
    are_pruned_by ok g (xs ++ ys) box ≡ true
pruned-append ok g [] ys box p q = q
pruned-append ok g (s ∷ xs) ys box p q =
    and_from (is_pruned_by ok g s box) (are_pruned_by ok g (xs ++ ys) (after_step s box))
    (first (is_pruned_by ok g s box) (are_pruned_by ok g xs (after_step s box)) p)
    (pruned-append ok g xs ys (after_step s box) (second (is_pruned_by ok g s box) (are_pruned_by ok g xs (after_step s box)) p) q)

pub follows_same : (s t : Held) → t.box ≡ s.box → t.past ≡ s.past → Follows s t
follows_same s t b p = record {
  longer = omega (arith, ap length p);
  boxes = λ k h. ap (λ ps. get_or ps k t.box) p ∙ ap (get_or s.past k) b;
}

pub follows_more : (s t u : Held) → Follows s t → Follows t u → Follows s u
follows_more s t u p q = record {
  longer = omega (arith, p.longer, q.longer);
  boxes = λ k h. q.boxes k (omega (arith, h, p.longer)) ∙ p.boxes k h;
}

-- no step, and the steps of two calls
pub pruning_same : (ok : ℕ → Bool) (g : Game) (s t : Held) (a b : List Step) → t.box ≡ s.box → t.past ≡ s.past → b ≡ a → IsPruning ok g s t a b
pruning_same ok g s t a b e p q = record {
  more = [];
  appended = q ∙ sym (append-nil a);
  legal = refl;
  reached = e;
  follows = follows_same s t e p;
}

pub pruning_more : (ok : ℕ → Bool) (g : Game) (s t u : Held) (a b c : List Step) → IsPruning ok g s t a b → IsPruning ok g t u b c → IsPruning ok g s u a c
pruning_more ok g s t u a b c p q = record {
  more = p.more ++ q.more;
  appended = q.appended ∙ (ap (λ l. l ++ q.more) p.appended ∙ append_assoc a p.more q.more);
  legal = pruned-append ok g p.more q.more s.box p.legal (ap (are_pruned_by ok g q.more) (sym p.reached) ∙ q.legal);
  reached = q.reached ∙ (ap (after_steps q.more) p.reached ∙ sym (after-append p.more q.more s.box));
  follows = follows_more s t u p.follows q.follows;
}

-- one removal
same_number : (k : ℕ) → (k == k) ≡ true
same_number k = grind (arith, nat_tests)

pub pruning_cut : (g : Game) (r : Rule) (s t : Held) (a b : List Step) (k : Cut) (c : ConId) → slice_get g.constraints c.0 ≡ Some r → has_empty s.box ≡ false → IsCut r s.box k →
    t.box ≡ box_without s.box k.x.0 k.lo k.hi → Follows s t → b ≡ a ++ Prune k.x k.lo k.hi c ∷ [] → IsPruning (is_just c.0) g s t a b
pruning_cut g r s t a b k c e f h q w l = record {
  more = Prune k.x k.lo k.hi c ∷ [];
  appended = l;
  legal =
      and_from (is_pruned_by (is_just c.0) g (Prune k.x k.lo k.hi c) s.box) true
      (and_from ((removes_some s.box k.x.0 k.lo k.hi && (is_number k.lo && is_number k.hi)) && (c.0 == c.0)) (is_refuted_by (slice_get g.constraints c.0) (box_within s.box k.x.0 k.lo k.hi))
      (and_from (removes_some s.box k.x.0 k.lo k.hi && (is_number k.lo && is_number k.hi)) (c.0 == c.0)
      (and_from (removes_some s.box k.x.0 k.lo k.hi) (is_number k.lo && is_number k.hi)
      (and_from (not (has_empty s.box)) (not (is_none_left (values_within k.lo k.hi (values_left s.box k.x.0)))) (not_from_false (has_empty s.box) f) (not_from_false (is_none_left (values_within k.lo k.hi (values_left s.box k.x.0))) h.some))
      (and_from (is_number k.lo) (is_number k.hi) h.low h.high))
      (same_number c.0))
      (ap (λ o. is_refuted_by o (box_within s.box k.x.0 k.lo k.hi)) e ∙ h.refuted))
      refl;
  reached = q;
  follows = w;
}

-- what taking values out does to the box
empty_set : (box : Box) (x : ℕ) (us : Values) → has_empty box ≡ false → x < length box → has_empty (set box x us) ≡ is_none_left us
empty_set [] x us f h = absurd (omega arith)
empty_set ([] ∷ box) x us f h = cc
empty_set ((v ∷ vs) ∷ box) zero us f h = ap (λ b. is_none_left us || b) f ∙ or_false (is_none_left us)
  where
    or_false : (b : Bool) → (b || false) ≡ b
    or_false true = refl
    or_false false = refl
empty_set ((v ∷ vs) ∷ box) (suc x) us f h = empty_set box x us f (omega arith)

none_length : (us : Values) → (length us == 0) ≡ is_none_left us
none_length [] = refl
none_length (u ∷ us) = grind (arith, nat_tests)

pub cut_emptied : (box new : Box) (x : ℕ) (lo hi : ℤ) (n : ℕ) → has_empty box ≡ false → x < length box → new ≡ box_without box x lo hi → n ≡ length (values_left new x) →
    (n == 0) ≡ has_empty new
cut_emptied box new x lo hi n f h e l =
    let us = values_outside lo hi (values_left box x) in
    ap (λ k. k == 0) (l ∙ ap length (ap (λ b. values_left b x) e ∙ get_or-set_same box x us [] h))
    ∙ (none_length us ∙ (sym (empty_set box x us f h) ∙ ap has_empty (sym e)))

total_set : (box : Box) (x : ℕ) (us : Values) → x < length box → length us < length (values_left box x) → total (set box x us) < total box
total_set [] x us h k = absurd (omega arith)
total_set (vs ∷ box) zero us h k = omega arith
total_set (vs ∷ box) (suc x) us h k = omega (arith, total_set box x us (omega arith) k)

some_length : (vs : Values) → is_none_left vs ≡ false → 0 < length vs
some_length [] h = cc
some_length (v ∷ vs) h = omega arith

within_box : (box : Box) (x : ℕ) (lo hi : ℤ) → is_none_left (values_within lo hi (values_left box x)) ≡ false → x < length box
within_box [] x lo hi h = cc
within_box (vs ∷ box) zero lo hi h = omega arith
within_box (vs ∷ box) (suc x) lo hi h = omega (arith, within_box box x lo hi h)

cut_smaller : (box : Box) (x : ℕ) (lo hi : ℤ) → is_none_left (values_within lo hi (values_left box x)) ≡ false → total (box_without box x lo hi) < total box
cut_smaller box x lo hi k =
    let both = length-filter_both (is_within lo hi) (λ v. not (is_within lo hi v)) (λ v. refl) (values_left box x) in
    total_set box x (values_outside lo hi (values_left box x)) (within_box box x lo hi k) (omega (arith, both, some_length (values_within lo hi (values_left box x)) k))

-- what a step that passes has
removed_some : (ok : ℕ → Bool) (g : Game) (x : VarId) (lo hi : ℤ) (c : ConId) (box : Box) → is_pruned_by ok g (Prune x lo hi c) box ≡ true → is_none_left (values_within lo hi (values_left box x.0)) ≡ false
removed_some ok g x lo hi c box h =
    let n = is_none_left (values_within lo hi (values_left box x.0)) in
    let r = removes_some box x.0 lo hi in
    let m = is_number lo && is_number hi in
    let p = first ((r && m) && ok c.0) (is_refuted_by (slice_get g.constraints c.0) (box_within box x.0 lo hi)) h in
    not_false n (second (not (has_empty box)) (not n) (first r m (first (r && m) (ok c.0) p)))

step_smaller : (ok : ℕ → Bool) (g : Game) (s : Step) (box : Box) → is_pruned_by ok g s box ≡ true → total (after_step s box) < total box
step_smaller ok g (Prune x lo hi c) box h = cut_smaller box x.0 lo hi (removed_some ok g x lo hi c box h)
step_smaller ok g (Bound x lo hi) box h = cc

pruned_total : (ok : ℕ → Bool) (g : Game) (steps : List Step) (box : Box) → are_pruned_by ok g steps box ≡ true → total (after_steps steps box) + length steps ≤ total box
pruned_total ok g [] box h = omega arith
pruned_total ok g (s ∷ steps) box h =
    omega (arith, step_smaller ok g s box (first (is_pruned_by ok g s box) (are_pruned_by ok g steps (after_step s box)) h), pruned_total ok g steps (after_step s box) (second (is_pruned_by ok g s box) (are_pruned_by ok g steps (after_step s box)) h))

-- each step takes a value at least
pub pruning_total : (ok : ℕ → Bool) (g : Game) (s t : Held) (a b : List Step) → IsPruning ok g s t a b → total t.box + length b ≤ total s.box + length a
pruning_total ok g s t a b p =
    omega (arith, pruned_total ok g p.more s.box p.legal, ap total p.reached, ap length p.appended, length-append a p.more)

after_sub : (steps : List Step) (box large : Box) → is_sub_box box large ≡ true → is_sub_box (after_steps steps box) large ≡ true
after_sub [] box large h = h
after_sub (Prune x lo hi c ∷ steps) box large h = after_sub steps (box_without box x.0 lo hi) large (sub_without box large x.0 lo hi h)
after_sub (Bound x lo hi ∷ steps) box large h = after_sub steps (box_without box x.0 lo hi) large (sub_without box large x.0 lo hi h)

-- the store stays one of the problem's
pub pruning_sub : (ok : ℕ → Bool) (g : Game) (s t : Held) (a b : List Step) (large : Box) → IsPruning ok g s t a b → is_sub_box s.box large ≡ true → is_sub_box t.box large ≡ true
pruning_sub ok g s t a b large p h = ap (λ box. is_sub_box box large) p.reached ∙ after_sub p.more s.box large h

pub pruning_step : (ok : ℕ → Bool) (g : Game) (s t : Held) (a b : List Step) → IsPruning ok g s t a b → length b ≡ length a + 1 → total t.box < total s.box
pruning_step ok g s t a b p h = omega (arith, pruning_total ok g s t a b p)
