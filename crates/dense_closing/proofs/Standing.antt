-- Steps that take ends are legal: what they keep of boxes, and what they show of horizons.
use Rattle.std.proofs.Common.{◌≡◌, ℕ, suc, Bool, true, false, not, List, [], ◌∷◌, drop, refl, sym, subst, ℤ, Option, Some, None}
use Rattle.std.proofs.lemmas.Bool.{and_from}
use Rattle.qc_model.specs.declared.problem.Scope.{Scope}
use Rattle.qc_model.specs.Block.{force_stop, constraints_within, constraints_in_force}
use Rattle.qc_model.specs.Content.{Game}
use Rattle.qc_model.specs.Domains.{Box, declared_box, values_left, values_within, has_empty, is_none_left}
use Rattle.qc_model.specs.Valid.{IsValid}
use Rattle.qc_model.proofs.Readable.{first, second}
use Rattle.model_arguments.specs.Asked.{is_box_of}
use Rattle.model_arguments.proofs.Bools.{not_false}
use Rattle.proof_tree.specs.declared.tree.Step.{Step}
use Rattle.proof_tree.specs.declared.tree.Step.TheVariants.{Prune, Bound}
use Rattle.proof_tree.specs.Fair.{Taken, IsBoxAt, IsFairWithin}
use Rattle.proof_tree.specs.Good.{IsBlocked}
use Rattle.proof_tree.specs.Place.{Tracked}
use Rattle.proof_tree.specs.Steps.{after_step, after_steps, is_legal, are_legal, step_marks}
use Rattle.proof_meaning.specs.Nodes.{IsScope}
use Rattle.proof_meaning.proofs.FairForms.{frame_of}
use Rattle.proof_meaning.proofs.HandedOn.{step_at}
use Rattle.proof_meaning.proofs.HorizonHolds.{horizon_holds}
use Rattle.proof_meaning.proofs.Narrowed.{within_in}
use Rattle.proof_meaning.proofs.Passing.{passes}
use Rattle.proof_meaning.proofs.Premises.{sound_of}
use Rattle.dense_closing.specs.Closing.{IsGreatestClosed}
use Rattle.dense_closing.specs.ClosingSteps.{closing_steps}
use Rattle.dense_closing.specs.Takes.{Takes, takes_all, NoneClosedBy}
use Rattle.dense_closing.specs.Ends.{takes_end, is_end_step, are_end_steps}
use Rattle.dense_closing.proofs.Closing.{closing_takes_ends, closing_leads, none_empties}
use Rattle.dense_closing.proofs.Keeping.{no_end, end_step_is, closed_full}

-- what the first of such steps has, and the others
module _ (takes : Takes) (g : Game) (i stop : ℕ) (s : Step) (steps : List Step) (box : Box) (h : are_end_steps takes g i stop (s ∷ steps) box ≡ true) where
  here : is_end_step takes g i stop s box ≡ true
  here = first (is_end_step takes g i stop s box) (are_end_steps takes g i stop steps (after_step s box)) h

  later : are_end_steps takes g i stop steps (after_step s box) ≡ true
  later = second (is_end_step takes g i stop s box) (are_end_steps takes g i stop steps (after_step s box)) h

step_legal : (takes : Takes) (g : Game) (i stop : ℕ) (t : Option Tracked) (s : Step) (box : Box) → is_end_step takes g i stop s box ≡ true → is_legal g i stop t s box ≡ true
step_legal takes g i stop t (Prune x low high c) box h = first (is_legal g i stop t (Prune x low high c) box) (takes_end takes g (Prune x low high c) box) h
step_legal takes g i stop t (Bound x low high) box h = absurd (no_end (is_legal g i stop None (Bound x low high) box) h)

pub ends_legal : (takes : Takes) (g : Game) (i stop : ℕ) (t : Option Tracked) (steps : List Step) (box : Box) → are_end_steps takes g i stop steps box ≡ true → are_legal g i stop t steps box ≡ true
ends_legal takes g i stop t [] box h = refl
ends_legal takes g i stop t (s ∷ steps) box h =
    and_from (is_legal g i stop t s box) (are_legal g i stop t steps (after_step s box)) (step_legal takes g i stop t s box (here takes g i stop s steps box h)) (ends_legal takes g i stop t steps (after_step s box) (later takes g i stop s steps box h))

pub ends_unmarked : (takes : Takes) (g : Game) (i stop : ℕ) (t : Option Tracked) (steps : List Step) (box : Box) → are_end_steps takes g i stop steps box ≡ true → step_marks t steps box ≡ []
ends_unmarked takes g i stop t [] box h = refl
ends_unmarked takes g i stop t (Prune x low high c ∷ steps) box h = ends_unmarked takes g i stop t steps (after_step (Prune x low high c) box) (later takes g i stop (Prune x low high c) steps box h)
ends_unmarked takes g i stop t (Bound x low high ∷ steps) box h = absurd (no_end (is_legal g i stop None (Bound x low high) box) (here takes g i stop (Bound x low high) steps box h))

-- a step is taken only where no domain is empty
full_before : (takes : Takes) (g : Game) (i stop : ℕ) (steps : List Step) (box : Box) → are_end_steps takes g i stop steps box ≡ true → has_empty (after_steps steps box) ≡ false → has_empty box ≡ false
full_before takes g i stop [] box h n = n
full_before takes g i stop (Prune x low high c ∷ steps) box h n =
    let e = end_step_is takes g i stop x.0 low high c.0 box (here takes g i stop (Prune x low high c) steps box h) in
    not_false (has_empty box) (first (not (has_empty box)) (not (is_none_left (values_within low high (values_left box x.0)))) e.some)
full_before takes g i stop (Bound x low high ∷ steps) box h n = absurd (no_end (is_legal g i stop None (Bound x low high) box) (here takes g i stop (Bound x low high) steps box h))

-- fair boxes stay fair
module _ (takes : Takes) (g : Game) (s : Scope) (i : ℕ) (valid : IsValid g) (at : IsScope g i s) (taken : List Taken) (a : List ℤ) (b : Bool) where
  abbrev stop : ℕ
  stop = force_stop (drop i g.scopes) i

  fair_steps : (steps : List Step) (box : Box) → are_end_steps takes g i stop steps box ≡ true → has_empty (after_steps steps box) ≡ false → IsFairWithin g b i taken a box → IsFairWithin g b i taken a (after_steps steps box)
  fair_steps [] box h n f = f
  fair_steps (Prune x low high c ∷ steps) box h n f =
      let st = Prune x low high c in
      let rest = later takes g i stop st steps box h in
      fair_steps steps (after_step st box) rest n
      (step_at g s i taken a box b st valid at f (step_legal takes g i stop None st box (here takes g i stop st steps box h)) (full_before takes g i stop steps (after_step st box) rest n))
  fair_steps (Bound x low high ∷ steps) box h n f = absurd (no_end (is_legal g i stop None (Bound x low high) box) (here takes g i stop (Bound x low high) steps box h))

pub closed_fair : (takes : Takes) (g : Game) (s : Scope) (i : ℕ) (taken : List Taken) (a : List ℤ) (box small : Box) (b : Bool) → IsValid g → IsScope g i s → is_box_of g box ≡ true → IsGreatestClosed takes (constraints_in_force g (drop i g.scopes) i) box small →
    IsFairWithin g b i taken a box → IsFairWithin g b i taken a small
closed_fair takes g s i taken a box small b valid at d h f =
    let stop = force_stop (drop i g.scopes) i in
    let reached = closing_leads takes g valid i stop box d small h in
    let full : has_empty small ≡ false = closed_full takes (constraints_within g i stop) small h.closed in
    subst (IsFairWithin g b i taken a) reached
    (fair_steps takes g s i valid at taken a b (closing_steps takes g i stop box) box (closing_takes_ends takes g valid i stop box d) (subst (λ c. has_empty c ≡ false) (sym reached) full) f)

-- where no box within is closed for the scopes up to k, they block the box
pub none_blocks : (g : Game) (i k : ℕ) (a : List ℤ) (box : Box) → IsValid g → IsBoxAt g i a box → is_box_of g box ≡ true → NoneClosedBy takes_all (constraints_within g i (suc k)) box → IsBlocked g i a box (Some k)
none_blocks g i k a box valid at d h =
    let steps = closing_steps takes_all g i (suc k) box in
    let p = sound_of g valid in
    let f = frame_of g i a box at in
    λ n w e m q.
    horizon_holds g p.table i (suc k) w (passes g p.ordered n i (suc k) a w f.count (within_in w box (declared_box g) f.within q) e m) steps box
    (ends_legal takes_all g i (suc k) None steps box (closing_takes_ends takes_all g valid i (suc k) box d)) at.full (none_empties g valid i (suc k) box d h) q
