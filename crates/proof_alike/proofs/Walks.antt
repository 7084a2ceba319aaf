-- A tree in place in one box goes through boxes that look the same where it is gone through in another that looks the same.
use Rattle.proof_tree.specs.declared.tree.Horizon.{Horizon}
use Rattle.std.proofs.Common.{◌≡◌, ℕ, suc, ◌+◌, ◌≤◌, ◌&&◌, true, not, List, length, refl, sym, ◌∙◌, Option, Some, None}
use Rattle.std.specs.Prelude.{⊤, nat_lt, nat_le}
use Rattle.std.specs.List.{list_all}
use Rattle.std.proofs.lemmas.Bool.{and_parts, and_from}
use Rattle.qc_model.specs.declared.problem.Scope.{Scope}
use Rattle.qc_model.specs.declared.problem.Condition.{Condition}
use Rattle.qc_model.specs.Content.{Game}
use Rattle.qc_model.specs.Domains.{Values, Box, values_left, is_single, has_empty}
use Rattle.qc_model.specs.Game.{before, is_of_scope}
use Rattle.qc_model.specs.Block.{force_stop}
use Rattle.proof_tree.specs.declared.tree.Step.{Step}
use Rattle.proof_tree.specs.Tree.{Tree, tree, Body, stuck, goal, cases, Ending, empty, barred, next, branch, Branches, no_more, piece, Case, skip, left_open, go}
use Rattle.proof_tree.specs.Cover.{covered, uncovered, is_cover, box_to}
use Rattle.proof_tree.specs.Place.{next_scopes, list_after, tracked_variable, is_goal}
use Rattle.proof_tree.specs.Steps.{after_steps, are_legal}
use Rattle.proof_tree.specs.InPlace.{horizon_below, horizon_in_place, steps_in_place, in_place, body_in_place, ending_in_place, branches_in_place, case_in_place, is_nearer}
use Rattle.proof_alike.specs.Alike.{is_looked_at}
use Rattle.proof_alike.specs.EachStep.{horizon_passes, body_passes, ending_passes, branches_pass, case_passes}
use Rattle.proof_alike.specs.Looking.{step_looks, looks}
use Rattle.proof_alike.proofs.Boxes.{Look, look_set, look_next, empty_same, ahead_looks}
use Rattle.proof_alike.proofs.Named.{AreNamed, ScopesNamed, list_named, next_named, tracked_named}
use Rattle.proof_alike.proofs.Removals.{StepsAlike, steps_alike}

-- the steps of scope i's own tree
abbrev pub OwnSteps : Game → ℕ → List Scope → ℕ → List Condition → List Step → Box → Box → Type 0
OwnSteps g top later i d steps a b = StepsAlike g top i (force_stop later i) (tracked_variable g later i (list_after g later d)) steps a b

-- a horizon that is in place in one is so in the other
abbrev pub HorizonWalk : Game → ℕ → Option Horizon → List Scope → ℕ → Box → Box → Type 0
HorizonWalk g top z later i a b = (h : Option ℕ) → horizon_in_place g z later i a h ≡ true → horizon_in_place g z later i b h ≡ true

-- after each list of steps the boxes look the same, and each branch is of a variable that is looked at
abbrev mutual
  pub Walk : Game → ℕ → Tree → List Scope → ℕ → List Condition → Box → Box → Type 0
  Walk g top (tree z c) later i d a b = HorizonWalk g top z later i a b × BodyWalk g top c later i d a b

  pub BodyWalk : Game → ℕ → Body → List Scope → ℕ → List Condition → Box → Box → Type 0
  BodyWalk g top stuck later i d a b = ⊤
  BodyWalk g top goal later i d a b = ⊤
  BodyWalk g top (cases steps end) later i d a b = OwnSteps g top later i d steps a b × EndingWalk g top end later i d (after_steps steps a) (after_steps steps b)

  pub EndingWalk : Game → ℕ → Ending → List Scope → ℕ → List Condition → Box → Box → Type 0
  EndingWalk g top empty later i d a b = ⊤
  EndingWalk g top barred later i d a b = ⊤
  EndingWalk g top (next t) later i d a b = Walk g top t (next_scopes later) (suc i) (list_after g later d) a b
  EndingWalk g top (branch x bs) later i d a b = (is_looked_at g top x.0 ≡ true) × BranchesWalk g top bs x.0 (values_left a x.0) later i d a b

  pub BranchesWalk : Game → ℕ → Branches → ℕ → Values → List Scope → ℕ → List Condition → Box → Box → Type 0
  BranchesWalk g top no_more x vs later i d a b = ⊤
  BranchesWalk g top (piece upto c bs) x vs later i d a b =
      CaseWalk g top c later i d (box_to a x (covered upto vs)) (box_to b x (covered upto vs)) × BranchesWalk g top bs x (uncovered upto vs) later i d a b

  pub CaseWalk : Game → ℕ → Case → List Scope → ℕ → List Condition → Box → Box → Type 0
  CaseWalk g top skip later i d a b = ⊤
  CaseWalk g top left_open later i d a b = ⊤
  CaseWalk g top (go steps end) later i d a b = OwnSteps g top later i d steps a b × EndingWalk g top end later i d (after_steps steps a) (after_steps steps b)

-- a scope, the scopes from it on, and its list
pub record Named (g : Game) (later : List Scope) (d : List Condition) : Type 0 where
  pub scopes : ScopesNamed g later
  pub list : AreNamed g d

pub named_next : (g : Game) (later : List Scope) (d : List Condition) → Named g later d → Named g (next_scopes later) (list_after g later d)
named_next g later d n = record { scopes = next_named g later n.scopes; list = list_named g later d n.scopes n.list }

pub own_steps : (g : Game) (top : ℕ) (later : List Scope) (i : ℕ) (d : List Condition) (steps : List Step) (a b : Box) → Named g later d → list_all (step_looks g top) steps ≡ true →
    steps_in_place g later i d steps a ≡ true → Look g top i a b → OwnSteps g top later i d steps a b
own_steps g top later i d steps a b n e h l =
    let x = list_after g later d in
    steps_alike g top i (force_stop later i) (tracked_variable g later i x) (tracked_named g later i x (list_named g later d n.scopes n.list)) steps a b e h l

own_variable : (g : Game) (top i x : ℕ) → is_of_scope g i x ≡ true → top ≤ i → is_looked_at g top x ≡ true
own_variable g top i x e below = ahead_looks g top i x below (and_parts _ (nat_lt x (before g (suc i))) e).0

horizon_too : (g : Game) (top : ℕ) (z : Option Horizon) (later : List Scope) (i : ℕ) (a b : Box) (h : Option ℕ) → horizon_passes (step_looks g top) z ≡ true →
    horizon_in_place g z later i a h ≡ true → Look g top i a b → horizon_in_place g z later i b h ≡ true
horizon_too g top None later i a b h e p l = refl
horizon_too g top (Some z) later i a b h e p l =
    let k = z.scope.0 in
    let fits = not (is_goal later) && nat_le i k && nat_le k (i + length later) && is_nearer k h in
    let q = and_parts (fits && are_legal g i (suc k) None z.steps a) (has_empty (after_steps z.steps a)) p in
    let r = and_parts fits (are_legal g i (suc k) None z.steps a) q.0 in
    let s = steps_alike g top i (suc k) None tt z.steps a b e r.1 l in
    and_from (fits && are_legal g i (suc k) None z.steps b) (has_empty (after_steps z.steps b)) (and_from fits (are_legal g i (suc k) None z.steps b) r.0 s.legal)
    (sym (empty_same g top i (after_steps z.steps a) (after_steps z.steps b) s.after) ∙ q.1)

module _ (g : Game) (top : ℕ) where
  mutual
    pub walk : (t : Tree) (later : List Scope) (i : ℕ) (d : List Condition) (a b : Box) (h : Option ℕ) → Named g later d → looks g top t ≡ true →
        in_place g t later i d a h ≡ true → Look g top i a b → Walk g top t later i d a b
    walk (tree z c) later i d a b h n e p l =
        let k = and_parts (horizon_passes (step_looks g top) z) (body_passes (step_looks g top) c) e in
        let q = and_parts (horizon_in_place g z later i a h) (body_in_place g c later i d a (horizon_below z h)) p in
        (λ r f. horizon_too g top z later i a b r k.0 f l, body_walk c later i d a b (horizon_below z h) n k.1 q.1 l)

    body_walk : (c : Body) (later : List Scope) (i : ℕ) (d : List Condition) (a b : Box) (h : Option ℕ) → Named g later d → body_passes (step_looks g top) c ≡ true →
        body_in_place g c later i d a h ≡ true → Look g top i a b → BodyWalk g top c later i d a b
    body_walk stuck later i d a b h n e p l = tt
    body_walk goal later i d a b h n e p l = tt
    body_walk (cases steps end) later i d a b h n e p l =
        let k = and_parts (list_all (step_looks g top) steps) (ending_passes (step_looks g top) end) e in
        let q = and_parts _ (ending_in_place g end later i d (after_steps steps a) h) p in
        let s = own_steps g top later i d steps a b n k.0 (and_parts _ (steps_in_place g later i d steps a) q.0).1 l in
        (s, ending_walk end later i d (after_steps steps a) (after_steps steps b) h n k.1 q.1 s.after)

    ending_walk : (end : Ending) (later : List Scope) (i : ℕ) (d : List Condition) (a b : Box) (h : Option ℕ) → Named g later d → ending_passes (step_looks g top) end ≡ true →
        ending_in_place g end later i d a h ≡ true → Look g top i a b → EndingWalk g top end later i d a b
    ending_walk empty later i d a b h n e p l = tt
    ending_walk barred later i d a b h n e p l = tt
    ending_walk (next t) later i d a b h n e p l =
        let x = list_after g later d in
        walk t (next_scopes later) (suc i) x a b h (named_next g later d n) e (and_parts _ (in_place g t (next_scopes later) (suc i) x a h) p).1 (look_next g top i a b l)
    ending_walk (branch x bs) later i d a b h n e p l =
        let q = and_parts _ (branches_in_place g bs x.0 (values_left a x.0) later i d a h) p in
        let r = and_parts _ (not (is_single (values_left a x.0))) q.0 in
        let own = own_variable g top i x.0 (and_parts (not (has_empty a)) (is_of_scope g i x.0) r.0).1 l.below in
        (own, branches_walk bs x.0 (values_left a x.0) later i d a b h n e own q.1 l)

    branches_walk : (bs : Branches) (x : ℕ) (vs : Values) (later : List Scope) (i : ℕ) (d : List Condition) (a b : Box) (h : Option ℕ) → Named g later d →
        branches_pass (step_looks g top) bs ≡ true → is_looked_at g top x ≡ true → branches_in_place g bs x vs later i d a h ≡ true → Look g top i a b → BranchesWalk g top bs x vs later i d a b
    branches_walk no_more x vs later i d a b h n e o p l = tt
    branches_walk (piece upto c bs) x vs later i d a b h n e o p l =
        let k = and_parts (case_passes (step_looks g top) c) (branches_pass (step_looks g top) bs) e in
        let q = and_parts _ (branches_in_place g bs x (uncovered upto vs) later i d a h) p in (
          case_walk c x (covered upto vs) later i d a b h n k.0 o (and_parts (is_cover upto vs) (case_in_place g c x (covered upto vs) later i d a h) q.0).1 l,
          branches_walk bs x (uncovered upto vs) later i d a b h n k.1 o q.1 l,
        )

    case_walk : (c : Case) (x : ℕ) (vs : Values) (later : List Scope) (i : ℕ) (d : List Condition) (a b : Box) (h : Option ℕ) → Named g later d →
        case_passes (step_looks g top) c ≡ true → is_looked_at g top x ≡ true → case_in_place g c x vs later i d a h ≡ true → Look g top i a b → CaseWalk g top c later i d (box_to a x vs) (box_to b x vs)
    case_walk skip x vs later i d a b h n e o p l = tt
    case_walk left_open x vs later i d a b h n e o p l = tt
    case_walk (go steps end) x vs later i d a b h n e o p l =
        let k = and_parts (list_all (step_looks g top) steps) (ending_passes (step_looks g top) end) e in
        let q = and_parts _ (ending_in_place g end later i d (after_steps steps (box_to a x vs)) h) p in
        let r = and_parts (nat_lt (length vs) (length (values_left a x))) (steps_in_place g later i d steps (box_to a x vs)) q.0 in
        let s = own_steps g top later i d steps (box_to a x vs) (box_to b x vs) n k.0 r.1 (look_set g top i a b x vs o l) in
        (s, ending_walk end later i d (after_steps steps (box_to a x vs)) (after_steps steps (box_to b x vs)) h n k.1 q.1 s.after)
