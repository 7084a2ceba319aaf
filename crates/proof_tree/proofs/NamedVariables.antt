-- A tree in place branches on variables of the game alone.
use Rattle.std.proofs.Common.{◌≡◌, ℕ, suc, ◌≤◌, Bool, true, false, ◌&&◌, not, List, [], length, refl, arith, Option, None}
use Rattle.std.specs.Prelude.{nat_lt, nat_le}
use Rattle.std.proofs.lemmas.Bool.Decides.{nat_tests}
use Rattle.std.proofs.lemmas.List.{length-map}
use Rattle.std.proofs.lemmas.Bool.{and_from}
use Rattle.qc_model.specs.declared.problem.Scope.{Scope}
use Rattle.qc_model.specs.declared.problem.Condition.{Condition}
use Rattle.qc_model.specs.Content.{Game}
use Rattle.qc_model.specs.Domains.{Values, Box, declared_box, domain_values, values_left, is_single, has_empty}
use Rattle.qc_model.specs.Game.{before, is_of_scope}
use Rattle.qc_model.proofs.Before.{before-le}
use Rattle.proof_tree.specs.Tree.{Tree, tree, Body, stuck, goal, cases, Ending, empty, barred, next, branch, Branches, no_more, piece, Case, skip, left_open, go}
use Rattle.proof_tree.specs.Cover.{covered, uncovered, is_cover, box_to}
use Rattle.proof_tree.specs.Place.{next_scopes, list_after}
use Rattle.proof_tree.specs.Steps.{after_steps}
use Rattle.proof_tree.specs.InPlace.{horizon_below, horizon_in_place, in_place, body_in_place, ending_in_place, branches_in_place, case_in_place, root_in_place}
use Rattle.proof_tree.specs.Stepless.{branches_within, body_within, ending_within, cases_within, case_within}

second : (a b : Bool) → (a && b) ≡ true → b ≡ true
second true b e = e
second false b e = cc

first : (a b : Bool) → (a && b) ≡ true → a ≡ true
first true b e = cc
first false b e = e

module _ (g : Game) where
  abbrev count : ℕ
  count = length g.variables

  pub of_game : (i x : ℕ) → is_of_scope g i x ≡ true → nat_lt x count ≡ true
  of_game i x e =
      let low = second (nat_le (before g i) x) (nat_lt x (before g (suc i))) e in
      less x (before g (suc i)) count low (omega (arith, before-le g (suc i), length-map g.variables (λ x. domain_values x.domain)))
    where
      less : (x m n : ℕ) → nat_lt x m ≡ true → m ≤ n → nat_lt x n ≡ true
      less x m n e l = grind (arith, nat_tests)

  mutual
    pub tree_names : (t : Tree) (later : List Scope) (i : ℕ) (d : List Condition) (box : Box) (h : Option ℕ) → in_place g t later i d box h ≡ true → branches_within count t ≡ true
    tree_names (tree z c) later i d box h e = body_names c later i d box (horizon_below z h) (second (horizon_in_place g z later i box h) _ e)

    body_names : (c : Body) (later : List Scope) (i : ℕ) (d : List Condition) (box : Box) (h : Option ℕ) → body_in_place g c later i d box h ≡ true → body_within count c ≡ true
    body_names stuck later i d box h e = refl
    body_names goal later i d box h e = refl
    body_names (cases steps end) later i d box h e =
        ending_names end later i d (after_steps steps box) h (second _ (ending_in_place g end later i d (after_steps steps box) h) e)

    ending_names : (end : Ending) (later : List Scope) (i : ℕ) (d : List Condition) (box : Box) (h : Option ℕ) → ending_in_place g end later i d box h ≡ true → ending_within count end ≡ true
    ending_names empty later i d box h e = refl
    ending_names barred later i d box h e = refl
    ending_names (next t) later i d box h e =
        tree_names t (next_scopes later) (suc i) (list_after g later d) box h (second _ (in_place g t (next_scopes later) (suc i) (list_after g later d) box h) e)
    ending_names (branch x bs) later i d box h e =
        let p = first _ (branches_in_place g bs x.0 (values_left box x.0) later i d box h) e in
        let q = first _ (not (is_single (values_left box x.0))) p in
        and_from (nat_lt x.0 count) (cases_within count bs) (of_game i x.0 (second (not (has_empty box)) (is_of_scope g i x.0) q))
        (branches_names bs x.0 (values_left box x.0) later i d box h (second _ (branches_in_place g bs x.0 (values_left box x.0) later i d box h) e))

    branches_names : (bs : Branches) (x : ℕ) (vs : Values) (later : List Scope) (i : ℕ) (d : List Condition) (box : Box) (h : Option ℕ) → branches_in_place g bs x vs later i d box h ≡ true → cases_within count bs ≡ true
    branches_names no_more x vs later i d box h e = refl
    branches_names (piece upto c bs) x vs later i d box h e =
        let p = first _ (branches_in_place g bs x (uncovered upto vs) later i d box h) e in
        and_from (case_within count c) (cases_within count bs) (case_names c x (covered upto vs) later i d box h (second (is_cover upto vs) _ p))
        (branches_names bs x (uncovered upto vs) later i d box h (second _ (branches_in_place g bs x (uncovered upto vs) later i d box h) e))

    case_names : (c : Case) (x : ℕ) (vs : Values) (later : List Scope) (i : ℕ) (d : List Condition) (box : Box) (h : Option ℕ) → case_in_place g c x vs later i d box h ≡ true → case_within count c ≡ true
    case_names skip x vs later i d box h e = refl
    case_names left_open x vs later i d box h e = refl
    case_names (go steps end) x vs later i d box h e =
        ending_names end later i d (after_steps steps (box_to box x vs)) h (second _ (ending_in_place g end later i d (after_steps steps (box_to box x vs)) h) e)

-- a tree in place branches on variables of the game alone
pub names_variables : (g : Game) (t : Tree) → root_in_place g t ≡ true → branches_within (length g.variables) t ≡ true
names_variables g t e = tree_names g t g.scopes 0 [] (declared_box g) None e
