-- Trees in which each scope of the opponent that comes to an exact verdict goes on with each of his allowed tuples, once.
use Rattle.std.specs.Prelude.{◌≡◌, ⊤, ℕ, suc, List, [], ◌∷◌, ◌++◌, map, drop, length, IsTrue, ℤ}
use Rattle.qc_model.specs.declared.problem.Kind.TheVariants.{Forall}
use Rattle.qc_model.specs.declared.problem.Condition.{Condition}
use Rattle.qc_model.specs.declared.problem.Scope.{Scope}
use Rattle.qc_model.specs.Content.{Game}
use Rattle.qc_model.specs.Domains.{Values, Box, values_left}
use Rattle.qc_model.specs.Game.{moves}
use Rattle.qc_model.specs.Lists.{Among, Distinct}
use Rattle.qc_model.specs.Verdict.{is_exact, each_node}
use Rattle.proof_tree.specs.Tree.{Tree, tree, Body, stuck, goal, cases, Ending, empty, barred, next, branch, Branches, no_more, piece, Case, skip, left_open, go}
use Rattle.proof_tree.specs.Cover.{covered, uncovered, box_to}
use Rattle.proof_tree.specs.Place.{position, next_scopes, list_after}
use Rattle.proof_tree.specs.Steps.{after_steps}
use Rattle.proof_tree.specs.Finding.{Leaf, leaf_barred, leaf_skipped, leaf_bound, leaf_node, seen_of}
use Rattle.proof_tree.specs.Read.{marks, leaves}

-- the tuples of the leaves that go on, where n values stand before the scope
abbrev pub tuples_on : ℕ → List Leaf → List (List ℤ)
tuples_on n [] = []
tuples_on n (leaf_barred ∷ ls) = tuples_on n ls
tuples_on n (leaf_skipped ∷ ls) = tuples_on n ls
tuples_on n (leaf_bound m ∷ ls) = tuples_on n ls
tuples_on n (leaf_node w f ∷ ls) = drop n w ∷ tuples_on n ls

-- each leaf that goes on does so from the values a
abbrev pub GoOnFrom : List ℤ → List Leaf → Type 0
GoOnFrom a [] = ⊤
GoOnFrom a (leaf_barred ∷ ls) = GoOnFrom a ls
GoOnFrom a (leaf_skipped ∷ ls) = GoOnFrom a ls
GoOnFrom a (leaf_bound m ∷ ls) = GoOnFrom a ls
GoOnFrom a (leaf_node w f ∷ ls) = (w ≡ a ++ drop (length a) w) × GoOnFrom a ls

-- of the leaves of scope i after the values a just one goes on with each allowed tuple, and none with another
pub record GoOnWithAll (g : Game) (i : ℕ) (a : List ℤ) (ls : List Leaf) : Type 0 where
  pub front : GoOnFrom a ls
  pub distinct : Distinct (tuples_on (length a) ls)
  pub there : (t : List ℤ) → Among t (moves g i a) → Among t (tuples_on (length a) ls)
  pub back : (t : List ℤ) → Among t (tuples_on (length a) ls) → Among t (moves g i a)

-- so it is at scope i, the first of these, where it is the opponent's and every leaf is exact
abbrev pub IsAnswered : List Scope → Game → ℕ → List ℤ → List Leaf → Type 0
IsAnswered [] g i a ls = ⊤
IsAnswered (s ∷ later) g i a ls = s.kind ≡ Forall → IsTrue (each_node is_exact (map seen_of ls)) → GoOnWithAll g i a ls

-- and at each node of a tree; later has the scopes from i on, and d is the list of scope i
abbrev mutual
  pub Answered : Game → Tree → List Scope → ℕ → List Condition → Box → Type 0
  Answered g (tree z c) later i d box = BodyAnswered g c later i d box

  pub BodyAnswered : Game → Body → List Scope → ℕ → List Condition → Box → Type 0
  BodyAnswered g stuck later i d box = ⊤
  BodyAnswered g goal later i d box = ⊤
  BodyAnswered g (cases steps end) later i d box =
      IsAnswered later g i (position g i box) (marks g later i d steps box ++ leaves g end later i d (after_steps steps box))
      × EndingAnswered g end later i d (after_steps steps box)

  pub EndingAnswered : Game → Ending → List Scope → ℕ → List Condition → Box → Type 0
  EndingAnswered g empty later i d box = ⊤
  EndingAnswered g barred later i d box = ⊤
  EndingAnswered g (next t) later i d box = Answered g t (next_scopes later) (suc i) (list_after g later d) box
  EndingAnswered g (branch x bs) later i d box = BranchesAnswered g bs x.0 (values_left box x.0) later i d box

  pub BranchesAnswered : Game → Branches → ℕ → Values → List Scope → ℕ → List Condition → Box → Type 0
  BranchesAnswered g no_more x vs later i d box = ⊤
  BranchesAnswered g (piece upto c bs) x vs later i d box =
      CaseAnswered g c later i d (box_to box x (covered upto vs)) × BranchesAnswered g bs x (uncovered upto vs) later i d box

  pub CaseAnswered : Game → Case → List Scope → ℕ → List Condition → Box → Type 0
  CaseAnswered g skip later i d box = ⊤
  CaseAnswered g left_open later i d box = ⊤
  CaseAnswered g (go steps end) later i d box = EndingAnswered g end later i d (after_steps steps box)
