-- The first line of a scope's own tree, at a node and in a case, and of the root.
use Rattle.std.proofs.Common.{◌≡◌, ℕ, ◌+◌, Bool, true, false, cond, Option, Some, None, List, [], ◌∷◌, ◌++◌, map, refl, ap, ◌∙◌, ℤ}
use Rattle.qc_model.specs.declared.problem.ScopeId.{ScopeId}
use Rattle.qc_model.specs.Content.{Game}
use Rattle.dense_tree.specs.Tree.{Step, close, bound, reply, Node, node, again, no_play, stuck, goal, cases, Ending, empty, barred, best_left, dead, next, chosen, branch, go, Given}
use Rattle.dense_tree.specs.Lines.{Line, no_play_line, close_line, bound_line, reply_line, empty_line, barred_line, best_line, next_line, chosen_line, branch_line, dot_line, step_line, node_lines, body_lines, ending_lines, branches_lines, case_lines, upto_lines}
use Rattle.dense_tree.specs.InPlace.{cases_placed}
use Rattle.dense_tree.specs.Place.{root_place}
use Rattle.dense_tree.specs.Read.{Known}
use Rattle.dense_tree.specs.Text.{is_dead}
use Rattle.dense_ledger.specs.Ledger.{Entry, entry_at, Own, Fork, fresh, Frame, forked, Due, given_due, node_due, named_due, body_due, part_due, case_due, ranged_due, Ledger, only_ledger, no_own, case_place, may_go, fork_after, goes_at, goes, goes_through}
use Rattle.dense_ledger.proofs.Small.{at}

-- which lines of a node are still to come: all, those after `m`, or those after its horizon
pub data Stage : Type 0 where
  whole : Stage
  after_name : Stage
  after_horizon : Stage

abbrev pub due_of : Stage → Entry → Due
due_of whole e = node_due e
due_of after_name e = named_due e
due_of after_horizon e = body_due e

-- what is due in a branch, before a case and after its upper value
abbrev pub due_in : Option ℤ → Due
due_in None = case_due
due_in (Some high) = ranged_due high

-- a line of a scope's own tree
abbrev IsPart : Line → Type 0
IsPart close_line = Unit {0}
IsPart (bound_line x low high) = Unit {0}
IsPart (reply_line t) = Unit {0}
IsPart empty_line = Unit {0}
IsPart barred_line = Unit {0}
IsPart best_line = Unit {0}
IsPart next_line = Unit {0}
IsPart (chosen_line t) = Unit {0}
IsPart (branch_line x) = Unit {0}
IsPart l = ⊥

step_is_part : (st : Step) → IsPart (step_line st)
step_is_part close = tt
step_is_part (bound x low high) = tt
step_is_part (reply t) = tt

module _ (g : Game) (us : List Given) where
  first_same : (p q : Option Ledger) (l : Line) (ls : List Line) → goes g p l ≡ goes g q l → goes_through g p (l ∷ ls) ≡ goes_through g q (l ∷ ls)
  first_same p q l ls h = ap (λ z. goes_through g z ls) h

  at_part : (c : Bool) (d : Ledger) (l : Line) → cond c (goes_at g d d.due l) None ≡ goes g (only_ledger c d) l
  at_part true d l = refl
  at_part false d l = refl

  module _ (e : Entry) (x : Own) (fs : List Frame) (ks : List Known) (n : ℕ) (b : Bool) where
    -- the node, and its own tree
    abbrev waits : Stage → Ledger
    waits k = at g us (due_of k e) x fs ks n b

    abbrev pub tree_begun : Ledger
    tree_begun = at g us (part_due e.place) (fresh e) fs ks n b

    at_tree : (k : Stage) (l : Line) → IsPart l → goes g (Some (waits k)) l ≡ cond (cases_placed e.place) (goes g (Some tree_begun) l) None
    at_tree whole close_line h = refl
    at_tree whole (bound_line y low high) h = refl
    at_tree whole (reply_line t) h = refl
    at_tree whole empty_line h = refl
    at_tree whole barred_line h = refl
    at_tree whole best_line h = refl
    at_tree whole next_line h = refl
    at_tree whole (chosen_line t) h = refl
    at_tree whole (branch_line y) h = refl
    at_tree after_name close_line h = refl
    at_tree after_name (bound_line y low high) h = refl
    at_tree after_name (reply_line t) h = refl
    at_tree after_name empty_line h = refl
    at_tree after_name barred_line h = refl
    at_tree after_name best_line h = refl
    at_tree after_name next_line h = refl
    at_tree after_name (chosen_line t) h = refl
    at_tree after_name (branch_line y) h = refl
    at_tree after_horizon close_line h = refl
    at_tree after_horizon (bound_line y low high) h = refl
    at_tree after_horizon (reply_line t) h = refl
    at_tree after_horizon empty_line h = refl
    at_tree after_horizon barred_line h = refl
    at_tree after_horizon best_line h = refl
    at_tree after_horizon next_line h = refl
    at_tree after_horizon (chosen_line t) h = refl
    at_tree after_horizon (branch_line y) h = refl
    at_tree k l h = absurd h

    enter_line : (k : Stage) (l : Line) (ls : List Line) → IsPart l →
        goes_through g (Some (waits k)) (l ∷ ls) ≡ goes_through g (only_ledger (cases_placed e.place) tree_begun) (l ∷ ls)
    enter_line k l ls h = first_same (Some (waits k)) (only_ledger (cases_placed e.place) tree_begun) l ls (at_tree k l h ∙ at_part (cases_placed e.place) tree_begun l)

    -- a scope's own tree, which isn't `l` alone
    pub enter_tree : (k : Stage) (steps : List Step) (end : Ending) (rest : List Line) → is_dead (cases steps end) ≡ false →
        goes_through g (Some (waits k)) (body_lines (cases steps end) ++ rest)
        ≡ goes_through g (only_ledger (cases_placed e.place) tree_begun) (body_lines (cases steps end) ++ rest)
    enter_tree k (st ∷ steps) end rest h = enter_line k (step_line st) ((map step_line steps ++ ending_lines end) ++ rest) (step_is_part st)
    enter_tree k [] empty rest h = enter_line k empty_line rest tt
    enter_tree k [] barred rest h = enter_line k barred_line rest tt
    enter_tree k [] best_left rest h = enter_line k best_line rest tt
    enter_tree k [] (dead j) rest h = cc
    enter_tree k [] (next t) rest h = enter_line k next_line (node_lines t ++ rest) tt
    enter_tree k [] (chosen vs t) rest h = enter_line k (chosen_line vs) (node_lines t ++ rest) tt
    enter_tree k [] (branch y bs) rest h = enter_line k (branch_line y) ((branches_lines bs ++ dot_line ∷ []) ++ rest) tt

  module _ (f : Fork) (o : Own) (fs : List Frame) (ks : List Known) (n : ℕ) (b : Bool) where
    -- the branch, and one of its cases, up to this value
    abbrev branches : Option ℤ → Ledger
    branches upto = at g us (due_in upto) o (forked f ∷ fs) ks n b

    abbrev pub case_begun : Option ℤ → Ledger
    case_begun upto = at g us (part_due (case_place f upto)) o (forked (fork_after upto f) ∷ fs) ks (n + 1) b

    at_case : (upto : Option ℤ) (l : Line) → IsPart l → goes g (Some (branches upto)) l ≡ cond (may_go f upto) (goes g (Some (case_begun upto)) l) None
    at_case None close_line h = refl
    at_case None (bound_line y low high) h = refl
    at_case None (reply_line t) h = refl
    at_case None empty_line h = refl
    at_case None barred_line h = refl
    at_case None best_line h = refl
    at_case None next_line h = refl
    at_case None (chosen_line t) h = refl
    at_case None (branch_line y) h = refl
    at_case (Some v) close_line h = refl
    at_case (Some v) (bound_line y low high) h = refl
    at_case (Some v) (reply_line t) h = refl
    at_case (Some v) empty_line h = refl
    at_case (Some v) barred_line h = refl
    at_case (Some v) best_line h = refl
    at_case (Some v) next_line h = refl
    at_case (Some v) (chosen_line t) h = refl
    at_case (Some v) (branch_line y) h = refl
    at_case upto l h = absurd h

    -- also `l`, which no node could be here
    at_dead : (upto : Option ℤ) (k : ScopeId) → goes g (Some (branches upto)) (no_play_line k) ≡ cond (may_go f upto) (goes g (Some (case_begun upto)) (no_play_line k)) None
    at_dead None k = refl
    at_dead (Some v) k = refl

    go_line : (upto : Option ℤ) (l : Line) (ls : List Line) → goes g (Some (branches upto)) l ≡ cond (may_go f upto) (goes g (Some (case_begun upto)) l) None →
        goes_through g (Some (branches upto)) (l ∷ ls) ≡ goes_through g (only_ledger (may_go f upto) (case_begun upto)) (l ∷ ls)
    go_line upto l ls h = first_same (Some (branches upto)) (only_ledger (may_go f upto) (case_begun upto)) l ls (h ∙ at_part (may_go f upto) (case_begun upto) l)

    -- a case that is gone into
    pub enter_case : (upto : Option ℤ) (steps : List Step) (end : Ending) (rest : List Line) →
        goes_through g (Some (branches upto)) (case_lines (go steps end) ++ rest)
        ≡ goes_through g (only_ledger (may_go f upto) (case_begun upto)) (case_lines (go steps end) ++ rest)
    enter_case upto (st ∷ steps) end rest = go_line upto (step_line st) ((map step_line steps ++ ending_lines end) ++ rest) (at_case upto (step_line st) (step_is_part st))
    enter_case upto [] empty rest = go_line upto empty_line rest (at_case upto empty_line tt)
    enter_case upto [] barred rest = go_line upto barred_line rest (at_case upto barred_line tt)
    enter_case upto [] best_left rest = go_line upto best_line rest (at_case upto best_line tt)
    enter_case upto [] (dead j) rest = go_line upto (no_play_line j) rest (at_dead upto j)
    enter_case upto [] (next t) rest = go_line upto next_line (node_lines t ++ rest) (at_case upto next_line tt)
    enter_case upto [] (chosen vs t) rest = go_line upto (chosen_line vs) (node_lines t ++ rest) (at_case upto (chosen_line vs) tt)
    enter_case upto [] (branch y bs) rest = go_line upto (branch_line y) ((branches_lines bs ++ dot_line ∷ []) ++ rest) (at_case upto (branch_line y) tt)

    -- the upper value of a case, where it has one
    pub enter_upto : (upto : Option ℤ) (ls : List Line) → goes_through g (Some (branches None)) (upto_lines upto ++ ls) ≡ goes_through g (Some (branches upto)) ls
    enter_upto None ls = refl
    enter_upto (Some high) ls = refl

  -- the root, behind the tuples that are given
  abbrev pub given_before : Ledger
  given_before = at g us given_due (no_own g) [] [] 0 false

  abbrev pub root_begun : Ledger
  root_begun = at g us (node_due (entry_at (root_place g) false)) (no_own g) [] [] 0 false

  pub enter_root : (t : Node) (rest : List Line) → goes_through g (Some given_before) (node_lines t ++ rest) ≡ goes_through g (Some root_begun) (node_lines t ++ rest)
  enter_root (node true h body) rest = refl
  enter_root (node false (Some k) body) rest = refl
  enter_root (node false None stuck) rest = refl
  enter_root (node false None goal) rest = refl
  enter_root (node false None (cases (close ∷ steps) end)) rest = refl
  enter_root (node false None (cases (bound x low high ∷ steps) end)) rest = refl
  enter_root (node false None (cases (reply t ∷ steps) end)) rest = refl
  enter_root (node false None (cases [] empty)) rest = refl
  enter_root (node false None (cases [] barred)) rest = refl
  enter_root (node false None (cases [] best_left)) rest = refl
  enter_root (node false None (cases [] (dead k))) rest = refl
  enter_root (node false None (cases [] (next t))) rest = refl
  enter_root (node false None (cases [] (chosen vs t))) rest = refl
  enter_root (node false None (cases [] (branch x bs))) rest = refl
  enter_root (again n) rest = refl
  enter_root (no_play k) rest = refl
