-- Equal texts are of equal trees, and of equal certificates.
use Rattle.std.proofs.Common.{◌≡◌, refl, sym, ap, ◌∙◌, subst, ℕ, ◌+◌, ◌≤◌, List, [], ◌∷◌, ◌++◌, Bool, true, ◌&&◌, ◌||◌, arith, append_assoc, leb-true, Option, Some, None}
use Rattle.std.specs.Prelude.{IsTrue, ℤ, nat_le, nat_eq, unsigned_abs, codes}
use Rattle.std.specs.Fmt.{decimal, signed_decimal}
use Rattle.std.specs.List.{list_all}
use Rattle.std.proofs.lemmas.Bool.{and_parts}
use Rattle.std.proofs.lemmas.List.{append-nil}
use Rattle.qc_model.specs.declared.problem.VarId.{VarId}
use Rattle.qc_model.specs.declared.problem.ScopeId.{ScopeId}
use Rattle.proof_tree.specs.declared.tree.Horizon.{Horizon}
use Rattle.proof_tree.specs.declared.tree.Version.{Version}
use Rattle.proof_tree.specs.declared.tree.Version.TheVariants.{One, Two}
use Rattle.proof_tree.specs.declared.tree.Outcome.{Outcome}
use Rattle.proof_tree.specs.declared.tree.Outcome.TheVariants.{True, False, Open}
use Rattle.proof_tree.specs.declared.tree.Step.{Step}
use Rattle.proof_tree.specs.Steps.{is_prune}
use Rattle.proof_tree.specs.Tree.{Tree, tree, Body, stuck, goal, cases, Ending, empty, barred, next, branch, Branches, no_more, piece, Case, skip, left_open, go}
use Rattle.proof_tree.specs.Text.{is_place, step_fits, tree_fits, body_fits, ending_fits, branches_fit, upto_fits, case_fits, version_text, horizon_fits, outcome_text, outcome_fits, certificate_text, has_text}
use Rattle.proof_text.specs.Parts.{steps_text, tree_text, body_text, ending_text, branches_text, upto_text, case_text, horizon_text}
use Rattle.proof_text.proofs.LinesRead.{certificate_told}
use Rattle.proof_text.proofs.Forward.{branch_pieces, node_pieces, go_pieces, after_word}
use Rattle.proof_text.proofs.Unique.{number_one, signed_one, place_one, First, clash, steps_first, no_step, steps_one, apart}

-- the bytes that an end, a line of cases and a body can begin with
abbrev pub ends : ℕ → Bool
ends c = nat_eq c 101 || nat_eq c 120 || nat_eq c 110 || nat_eq c 118

abbrev pub begins_cases : ℕ → Bool
begins_cases c = nat_eq c 112 || nat_eq c 98 || ends c

abbrev pub begins_body : ℕ → Bool
begins_body c = nat_eq c 116 || nat_eq c 103 || begins_cases c

ending_first : (test : ℕ → Bool) (end : Ending) (a : List ℕ) → test 101 ≡ true → test 120 ≡ true → test 110 ≡ true → test 118 ≡ true → First test (ending_text end ++ a)
ending_first test empty a e x n v = record { first = 101; w = _; is = refl; passes = e }
ending_first test barred a e x n v = record { first = 120; w = _; is = refl; passes = x }
ending_first test (next t) a e x n v = record { first = 110; w = _; is = refl; passes = n }
ending_first test (branch y bs) a e x n v = record { first = 118; w = _; is = branch_pieces (codes "v ") (decimal (y.0 + 1)) (codes "\n") (branches_text bs) (codes ".\n") a; passes = v }

cases_first : (test : ℕ → Bool) (steps : List Step) (end : Ending) (a : List ℕ) → test 112 ≡ true → test 98 ≡ true → test 101 ≡ true → test 120 ≡ true → test 110 ≡ true → test 118 ≡ true → First test (steps_text steps ++ (ending_text end ++ a))
cases_first test steps end a p b e x n v = steps_first test steps (ending_text end ++ a) p b (ending_first test end a e x n v)

body_first : (t : Body) (a : List ℕ) → First begins_body (body_text t ++ a)
body_first stuck a = record { first = 116; w = _; is = refl; passes = refl }
body_first goal a = record { first = 103; w = _; is = refl; passes = refl }
body_first (cases steps end) a = subst (First begins_body) (sym (append_assoc (steps_text steps) (ending_text end) a)) (cases_first begins_body steps end a refl refl refl refl refl refl)

horizon_one : (z y : Horizon) (a b : List ℕ) → IsTrue (horizon_fits (Some z)) → IsTrue (horizon_fits (Some y)) → horizon_text (Some z) ++ a ≡ horizon_text (Some y) ++ b → (z ≡ y) × (a ≡ b)
horizon_one z y a b f g e =
    let p = and_parts (is_place 65 z.scope.0 && list_all step_fits z.steps) (list_all is_prune z.steps) f in
    let q = and_parts (is_place 65 z.scope.0) (list_all step_fits z.steps) p.0 in
    let r = and_parts (is_place 65 y.scope.0 && list_all step_fits y.steps) (list_all is_prune y.steps) g in
    let s = and_parts (is_place 65 y.scope.0) (list_all step_fits y.steps) r.0 in
    let tail : decimal (z.scope.0 + 1) ++ 10 ∷ (steps_text z.steps ++ 46 ∷ 10 ∷ a) ≡ decimal (y.scope.0 + 1) ++ 10 ∷ (steps_text y.steps ++ 46 ∷ 10 ∷ b) = after_two 104 32 _ _ (horizon_pieces z.scope.0 (steps_text z.steps) a ∙ e ∙ sym (horizon_pieces y.scope.0 (steps_text y.steps) b)) in
    let k = place_one 65 z.scope.0 y.scope.0 10 _ _ (omega arith) q.0 s.0 (omega arith) tail in
    let m = steps_one z.steps y.steps _ _ q.1 s.1 (record { first = 46; w = _; is = refl; passes = refl }) (record { first = 46; w = _; is = refl; passes = refl }) k.1 in
    (horizon_is z y (ap (λ (i : ℕ). let v : ScopeId = record { 0 = i } in v) k.0) m.0, after_two 46 10 a b m.1)
  where
    horizon_pieces : (k : ℕ) (s a : List ℕ) → 104 ∷ 32 ∷ (decimal (k + 1) ++ 10 ∷ (s ++ 46 ∷ 10 ∷ a)) ≡ (codes "h " ++ decimal (k + 1) ++ codes "\n" ++ s ++ codes ".\n") ++ a
    horizon_pieces k s a = sym (branch_pieces (codes "h ") (decimal (k + 1)) (codes "\n") s (codes ".\n") a)

    after_two : (c d : ℕ) (u v : List ℕ) → c ∷ d ∷ u ≡ c ∷ d ∷ v → u ≡ v
    after_two c d u v h = cc

    horizon_is : (z y : Horizon) → z.scope ≡ y.scope → z.steps ≡ y.steps → z ≡ y
    horizon_is z y f g = ap (λ (k : ScopeId). let h : Horizon = record { scope = k; steps = z.steps } in h) f ∙ ap (λ (l : List Step). let h : Horizon = record { scope = y.scope; steps = l } in h) g

after_two : (c d : ℕ) (u v : List ℕ) → c ∷ d ∷ u ≡ c ∷ d ∷ v → u ≡ v
after_two c d u v h = cc

-- the bytes that a case can begin with, and those with the line of its range
abbrev pub begins_case : ℕ → Bool
begins_case c = nat_eq c 115 || nat_eq c 111 || begins_cases c

abbrev pub begins_piece : ℕ → Bool
begins_piece c = nat_eq c 114 || begins_case c

case_first : (test : ℕ → Bool) (c : Case) (a : List ℕ) → test 115 ≡ true → test 111 ≡ true → test 112 ≡ true → test 98 ≡ true → test 101 ≡ true → test 120 ≡ true → test 110 ≡ true → test 118 ≡ true → First test (case_text c ++ a)
case_first test skip a s o p b e x n v = record { first = 115; w = _; is = refl; passes = s }
case_first test left_open a s o p b e x n v = record { first = 111; w = _; is = refl; passes = o }
case_first test (go steps end) a s o p b e x n v = subst (First test) (sym (append_assoc (steps_text steps) (ending_text end) a)) (cases_first test steps end a p b e x n v)

range_is : (high : ℤ) (a : List ℕ) → upto_text (Some high) ++ a ≡ 114 ∷ 32 ∷ (signed_decimal high ++ 10 ∷ a)
range_is high a = pieces (codes "r ") (signed_decimal high) (codes "\n") a
  where
    pieces : (r h n a : List ℕ) → (r ++ h ++ n) ++ a ≡ r ++ (h ++ (n ++ a))
    pieces r h n a = simp append_assoc

piece_first : (x : Option ℤ) (c : Case) (bs : Branches) (a : List ℕ) → First begins_piece (branches_text (piece x c bs) ++ a)
piece_first x c bs a = subst (First begins_piece) (sym (go_pieces (upto_text x) (case_text c) (branches_text bs) a)) (by x)
  where
    by : (x : Option ℤ) → First begins_piece (upto_text x ++ (case_text c ++ (branches_text bs ++ a)))
    by None = case_first begins_piece c (branches_text bs ++ a) refl refl refl refl refl refl refl refl
    by (Some high) = record { first = 114; w = _; is = range_is high (case_text c ++ (branches_text bs ++ a)); passes = refl }

is_small : (ver : Version) (high : ℤ) → IsTrue (upto_fits ver (Some high)) → unsigned_abs high ≤ 1000000000
is_small One high f = absurd (cc)
is_small Two high f = leb-true _ _ f

upto_one : (v w : Version) (x y : Option ℤ) (c d : Case) (a b : List ℕ) → IsTrue (upto_fits v x) → IsTrue (upto_fits w y) → upto_text x ++ (case_text c ++ a) ≡ upto_text y ++ (case_text d ++ b) → (x ≡ y) × (case_text c ++ a ≡ case_text d ++ b)
upto_one v w None None c d a b f g e = (refl, e)
upto_one v w None (Some k) c d a b f g e = absurd (clash begins_case _ _ 114 (case_first begins_case c a refl refl refl refl refl refl refl refl) (e ∙ range_is k (case_text d ++ b)) refl)
upto_one v w (Some h) None c d a b f g e = absurd (clash begins_case _ _ 114 (case_first begins_case d b refl refl refl refl refl refl refl refl) (sym e ∙ range_is h (case_text c ++ a)) refl)
upto_one v w (Some h) (Some k) c d a b f g e =
    let p = is_small v h f in
    let q = is_small w k g in
    let r = signed_one h k 10 (case_text c ++ a) (case_text d ++ b) (omega arith) (omega arith) (omega arith)
    (after_two 114 32 _ _ (sym (range_is h (case_text c ++ a)) ∙ e ∙ range_is k (case_text d ++ b))) in
    (ap Some r.0, r.1)

mutual
  pub tree_one : (p q : Version) (t u : Tree) (a b : List ℕ) → IsTrue (tree_fits p t) → IsTrue (tree_fits q u) → tree_text t ++ a ≡ tree_text u ++ b → (t ≡ u) × (a ≡ b)
  tree_one v w (tree None c) (tree None d) a b f g e = let r = body_one v w c d a b f g e in (ap (tree None) r.0, r.1)
  tree_one v w (tree None c) (tree (Some y) d) a b f g e = absurd (clash begins_body _ _ 104 (body_first c a) (e ∙ node_pieces (codes "h ") (decimal (y.scope.0 + 1)) (codes "\n") (steps_text y.steps) (codes ".\n") (body_text d) b) refl)
  tree_one v w (tree (Some z) c) (tree None d) a b f g e = absurd (clash begins_body _ _ 104 (body_first d b) (sym e ∙ node_pieces (codes "h ") (decimal (z.scope.0 + 1)) (codes "\n") (steps_text z.steps) (codes ".\n") (body_text c) a) refl)
  tree_one v w (tree (Some z) c) (tree (Some y) d) a b f g e =
      let p = and_parts (horizon_fits (Some z)) (body_fits v c) f in
      let q = and_parts (horizon_fits (Some y)) (body_fits w d) g in
      let h = horizon_one z y (body_text c ++ a) (body_text d ++ b) p.0 q.0 (sym (append_assoc (horizon_text (Some z)) (body_text c) a) ∙ e ∙ append_assoc (horizon_text (Some y)) (body_text d) b) in
      let r = body_one v w c d a b p.1 q.1 h.1 in
      (ap (λ (o : Horizon). tree (Some o) c) h.0 ∙ ap (tree (Some y)) r.0, r.1)

  pub body_one : (p q : Version) (t u : Body) (a b : List ℕ) → IsTrue (body_fits p t) → IsTrue (body_fits q u) → body_text t ++ a ≡ body_text u ++ b → (t ≡ u) × (a ≡ b)
  body_one v w stuck stuck a b f g e = (refl, after_two 116 10 a b e)
  body_one v w stuck goal a b f g e = apart 116 103 _ _ refl e
  body_one v w stuck (cases steps end) a b f g e = absurd (clash begins_cases _ _ 116 (cases_first begins_cases steps end b refl refl refl refl refl refl) (sym (e ∙ append_assoc (steps_text steps) (ending_text end) b)) refl)
  body_one v w goal stuck a b f g e = apart 103 116 _ _ refl e
  body_one v w goal goal a b f g e = (refl, after_two 103 10 a b e)
  body_one v w goal (cases steps end) a b f g e = absurd (clash begins_cases _ _ 103 (cases_first begins_cases steps end b refl refl refl refl refl refl) (sym (e ∙ append_assoc (steps_text steps) (ending_text end) b)) refl)
  body_one v w (cases steps end) stuck a b f g e = absurd (clash begins_cases _ _ 116 (cases_first begins_cases steps end a refl refl refl refl refl refl) (sym (append_assoc (steps_text steps) (ending_text end) a) ∙ e) refl)
  body_one v w (cases steps end) goal a b f g e = absurd (clash begins_cases _ _ 103 (cases_first begins_cases steps end a refl refl refl refl refl refl) (sym (append_assoc (steps_text steps) (ending_text end) a) ∙ e) refl)
  body_one v w (cases ss x) (cases ts y) a b f g e =
      let p = and_parts (list_all step_fits ss) (ending_fits v x) f in
      let q = and_parts (list_all step_fits ts) (ending_fits w y) g in
      let s = steps_one ss ts (ending_text x ++ a) (ending_text y ++ b) p.0 q.0 (ending_first no_step x a refl refl refl refl) (ending_first no_step y b refl refl refl refl)
      (sym (append_assoc (steps_text ss) (ending_text x) a) ∙ e ∙ append_assoc (steps_text ts) (ending_text y) b) in
      let r = ending_one v w x y a b p.1 q.1 s.1 in
      (ap (λ (l : List Step). cases l x) s.0 ∙ ap (cases ts) r.0, r.1)

  pub ending_one : (p q : Version) (t u : Ending) (a b : List ℕ) → IsTrue (ending_fits p t) → IsTrue (ending_fits q u) → ending_text t ++ a ≡ ending_text u ++ b → (t ≡ u) × (a ≡ b)
  ending_one v w empty empty a b f g e = (refl, after_two 101 10 a b e)
  ending_one v w empty barred a b f g e = apart 101 120 _ _ refl e
  ending_one v w empty (next u) a b f g e = apart 101 110 _ _ refl e
  ending_one v w empty (branch y cs) a b f g e = apart 101 118 _ _ refl (e ∙ branch_pieces (codes "v ") (decimal (y.0 + 1)) (codes "\n") (branches_text cs) (codes ".\n") b)
  ending_one v w barred empty a b f g e = apart 120 101 _ _ refl e
  ending_one v w barred barred a b f g e = (refl, after_two 120 10 a b e)
  ending_one v w barred (next u) a b f g e = apart 120 110 _ _ refl e
  ending_one v w barred (branch y cs) a b f g e = apart 120 118 _ _ refl (e ∙ branch_pieces (codes "v ") (decimal (y.0 + 1)) (codes "\n") (branches_text cs) (codes ".\n") b)
  ending_one v w (next t) empty a b f g e = apart 110 101 _ _ refl e
  ending_one v w (next t) barred a b f g e = apart 110 120 _ _ refl e
  ending_one v w (next t) (next u) a b f g e = let r = tree_one v w t u a b f g (after_two 110 10 _ _ e) in (ap next r.0, r.1)
  ending_one v w (next t) (branch y cs) a b f g e = apart 110 118 _ _ refl (e ∙ branch_pieces (codes "v ") (decimal (y.0 + 1)) (codes "\n") (branches_text cs) (codes ".\n") b)
  ending_one v w (branch x bs) empty a b f g e = apart 118 101 _ _ refl (sym (branch_pieces (codes "v ") (decimal (x.0 + 1)) (codes "\n") (branches_text bs) (codes ".\n") a) ∙ e)
  ending_one v w (branch x bs) barred a b f g e = apart 118 120 _ _ refl (sym (branch_pieces (codes "v ") (decimal (x.0 + 1)) (codes "\n") (branches_text bs) (codes ".\n") a) ∙ e)
  ending_one v w (branch x bs) (next u) a b f g e = apart 118 110 _ _ refl (sym (branch_pieces (codes "v ") (decimal (x.0 + 1)) (codes "\n") (branches_text bs) (codes ".\n") a) ∙ e)
  ending_one v w (branch x bs) (branch y cs) a b f g e =
      let p = and_parts (is_place 500 x.0) (branches_fit v bs) f in
      let q = and_parts (is_place 500 y.0) (branches_fit w cs) g in
      let tail = after_two 118 32 _ _ (sym (branch_pieces (codes "v ") (decimal (x.0 + 1)) (codes "\n") (branches_text bs) (codes ".\n") a) ∙ e ∙ branch_pieces (codes "v ") (decimal (y.0 + 1)) (codes "\n") (branches_text cs) (codes ".\n") b) in
      let k = place_one 500 x.0 y.0 10 (branches_text bs ++ 46 ∷ 10 ∷ a) (branches_text cs ++ 46 ∷ 10 ∷ b) (omega arith) p.0 q.0 (omega arith) tail in
      let r = branches_one v w bs cs a b p.1 q.1 k.1 in
      (ap (λ (i : ℕ). let y : VarId = record { 0 = i } in branch y bs) k.0 ∙ ap (branch y) r.0, r.1)

  pub branches_one : (p q : Version) (t u : Branches) (a b : List ℕ) → IsTrue (branches_fit p t) → IsTrue (branches_fit q u) → branches_text t ++ 46 ∷ 10 ∷ a ≡ branches_text u ++ 46 ∷ 10 ∷ b → (t ≡ u) × (a ≡ b)
  branches_one v w no_more no_more a b f g e = (refl, after_two 46 10 a b e)
  branches_one v w no_more (piece y d cs) a b f g e = absurd (clash begins_piece _ _ 46 (piece_first y d cs (46 ∷ 10 ∷ b)) (sym e) refl)
  branches_one v w (piece x c bs) no_more a b f g e = absurd (clash begins_piece _ _ 46 (piece_first x c bs (46 ∷ 10 ∷ a)) e refl)
  branches_one v w (piece x c bs) (piece y d cs) a b f g e =
      let p = and_parts (upto_fits v x && case_fits v c) (branches_fit v bs) f in
      let p1 = and_parts (upto_fits v x) (case_fits v c) p.0 in
      let q = and_parts (upto_fits w y && case_fits w d) (branches_fit w cs) g in
      let q1 = and_parts (upto_fits w y) (case_fits w d) q.0 in
      let s = upto_one v w x y c d (branches_text bs ++ 46 ∷ 10 ∷ a) (branches_text cs ++ 46 ∷ 10 ∷ b) p1.0 q1.0
      (sym (go_pieces (upto_text x) (case_text c) (branches_text bs) (46 ∷ 10 ∷ a)) ∙ e ∙ go_pieces (upto_text y) (case_text d) (branches_text cs) (46 ∷ 10 ∷ b)) in
      let r = case_one v w c d (branches_text bs ++ 46 ∷ 10 ∷ a) (branches_text cs ++ 46 ∷ 10 ∷ b) p1.1 q1.1 s.1 in
      let m = branches_one v w bs cs a b p.1 q.1 r.1 in
      (ap (λ (o : Option ℤ). piece o c bs) s.0 ∙ ap (λ (z : Case). piece y z bs) r.0 ∙ ap (piece y d) m.0, m.1)

  pub case_one : (p q : Version) (t u : Case) (a b : List ℕ) → IsTrue (case_fits p t) → IsTrue (case_fits q u) → case_text t ++ a ≡ case_text u ++ b → (t ≡ u) × (a ≡ b)
  case_one v w skip skip a b f g e = (refl, after_two 115 10 a b e)
  case_one v w skip left_open a b f g e = apart 115 111 _ _ refl e
  case_one v w skip (go ts y) a b f g e = absurd (clash begins_cases _ _ 115 (cases_first begins_cases ts y b refl refl refl refl refl refl) (sym (e ∙ append_assoc (steps_text ts) (ending_text y) b)) refl)
  case_one v w left_open skip a b f g e = apart 111 115 _ _ refl e
  case_one v w left_open left_open a b f g e = (refl, after_two 111 10 a b e)
  case_one v w left_open (go ts y) a b f g e = absurd (clash begins_cases _ _ 111 (cases_first begins_cases ts y b refl refl refl refl refl refl) (sym (e ∙ append_assoc (steps_text ts) (ending_text y) b)) refl)
  case_one v w (go ss x) skip a b f g e = absurd (clash begins_cases _ _ 115 (cases_first begins_cases ss x a refl refl refl refl refl refl) (sym (append_assoc (steps_text ss) (ending_text x) a) ∙ e) refl)
  case_one v w (go ss x) left_open a b f g e = absurd (clash begins_cases _ _ 111 (cases_first begins_cases ss x a refl refl refl refl refl refl) (sym (append_assoc (steps_text ss) (ending_text x) a) ∙ e) refl)
  case_one v w (go ss x) (go ts y) a b f g e =
      let p = and_parts (list_all step_fits ss) (ending_fits v x) f in
      let q = and_parts (list_all step_fits ts) (ending_fits w y) g in
      let s = steps_one ss ts (ending_text x ++ a) (ending_text y ++ b) p.0 q.0 (ending_first no_step x a refl refl refl refl) (ending_first no_step y b refl refl refl refl)
      (sym (append_assoc (steps_text ss) (ending_text x) a) ∙ e ∙ append_assoc (steps_text ts) (ending_text y) b) in
      let r = ending_one v w x y a b p.1 q.1 s.1 in
      (ap (λ (l : List Step). go l x) s.0 ∙ ap (go ts) r.0, r.1)

abbrev head : Outcome → ℕ
head True = 116
head False = 102
head (Open n) = 111

outcome_head : (o : Outcome) (v : Option ℤ) (a : List ℕ) → (w : List ℕ) × (outcome_text o v ++ a ≡ head o ∷ w)
outcome_head True None a = (_, refl)
outcome_head True (Some v) a = (_, refl)
outcome_head False v a = (_, refl)
outcome_head (Open n) v a = (_, refl)

after_five : (c d e f g : ℕ) (u v : List ℕ) → c ∷ d ∷ e ∷ f ∷ g ∷ u ≡ c ∷ d ∷ e ∷ f ∷ g ∷ v → u ≡ v
after_five c d e f g u v h = cc

after_four : (c d e f : ℕ) (u v : List ℕ) → c ∷ d ∷ e ∷ f ∷ u ≡ c ∷ d ∷ e ∷ f ∷ v → u ≡ v
after_four c d e f u v h = cc

optimum_one : (v w : Option ℤ) (a b : List ℕ) → IsTrue (outcome_fits True v) → IsTrue (outcome_fits True w) → outcome_text True v ++ a ≡ outcome_text True w ++ b → (v ≡ w) × (a ≡ b)
optimum_one None None a b f g e = (refl, after_five 116 114 117 101 10 a b e)
optimum_one None (Some w) a b f g e = apart 10 32 _ _ refl (after_four 116 114 117 101 _ _ e)
optimum_one (Some v) None a b f g e = apart 32 10 _ _ refl (after_four 116 114 117 101 _ _ e)
optimum_one (Some v) (Some w) a b f g e =
    let r = signed_one v w 10 a b (leb-true _ _ f) (leb-true _ _ g) (omega arith)
    (sym (append_assoc (signed_decimal v) (10 ∷ []) a) ∙ after_five 116 114 117 101 32 _ _ e ∙ append_assoc (signed_decimal w) (10 ∷ []) b) in
    (ap Some r.0, r.1)

pub record SameOutcome (o p : Outcome) (v w : Option ℤ) (a b : List ℕ) : Type 0 where
  pub outcome : o ≡ p
  pub optimum : v ≡ w
  pub rest : a ≡ b

false_one : (v w : Option ℤ) (a b : List ℕ) → IsTrue (outcome_fits False v) → IsTrue (outcome_fits False w) → outcome_text False v ++ a ≡ outcome_text False w ++ b → SameOutcome False False v w a b
false_one None None a b f g e = record { outcome = refl; optimum = refl; rest = after_two 101 10 a b (after_four 102 97 108 115 _ _ e) }
false_one None (Some w) a b f g e = absurd (cc)
false_one (Some v) w a b f g e = absurd (cc)

open_one : (m n : ℕ) (v w : Option ℤ) (a b : List ℕ) → IsTrue (outcome_fits (Open m) v) → IsTrue (outcome_fits (Open n) w) → outcome_text (Open m) v ++ a ≡ outcome_text (Open n) w ++ b → SameOutcome (Open m) (Open n) v w a b
open_one m n None None a b f g e =
    let p = and_parts (nat_le 1 m) (nat_le m 10000000) f in
    let q = and_parts (nat_le 1 n) (nat_le n 10000000) g in
    let low = leb-true _ _ p.1 in
    let high = leb-true _ _ q.1 in
    let r = number_one m n 10 a b (omega arith) (omega arith) (omega arith)
    (sym (append_assoc (decimal m) (10 ∷ []) a) ∙ after_five 111 112 101 110 32 _ _ e ∙ append_assoc (decimal n) (10 ∷ []) b) in
    record { outcome = ap Open r.0; optimum = refl; rest = r.1 }
open_one m n None (Some w) a b f g e = absurd (cc)
open_one m n (Some v) w a b f g e = absurd (cc)

pub outcome_one : (o p : Outcome) (v w : Option ℤ) (a b : List ℕ) → IsTrue (outcome_fits o v) → IsTrue (outcome_fits p w) → outcome_text o v ++ a ≡ outcome_text p w ++ b → SameOutcome o p v w a b
outcome_one True True v w a b f g e = let r = optimum_one v w a b f g e in record { outcome = refl; optimum = r.0; rest = r.1 }
outcome_one True False v w a b f g e = apart 116 102 _ _ refl (sym (outcome_head True v a).1 ∙ e)
outcome_one True (Open n) v w a b f g e = apart 116 111 _ _ refl (sym (outcome_head True v a).1 ∙ e)
outcome_one False True v w a b f g e = apart 102 116 _ _ refl (e ∙ (outcome_head True w b).1)
outcome_one False False v w a b f g e = false_one v w a b f g e
outcome_one False (Open n) v w a b f g e = apart 102 111 _ _ refl e
outcome_one (Open m) True v w a b f g e = apart 111 116 _ _ refl (e ∙ (outcome_head True w b).1)
outcome_one (Open m) False v w a b f g e = apart 111 102 _ _ refl e
outcome_one (Open m) (Open n) v w a b f g e = open_one m n v w a b f g e

pub digit_one : (x y : Version) (u v : List ℕ) → version_text x ++ u ≡ version_text y ++ v → (x ≡ y) × (u ≡ v)
digit_one One One u v h = (refl, after_two 49 10 u v (after_word (49 ∷ 10 ∷ u) (49 ∷ 10 ∷ v) h))
digit_one One Two u v h = apart 49 50 _ _ refl (after_word (49 ∷ 10 ∷ u) (50 ∷ 10 ∷ v) h)
digit_one Two One u v h = apart 50 49 _ _ refl (after_word (50 ∷ 10 ∷ u) (49 ∷ 10 ∷ v) h)
digit_one Two Two u v h = (refl, after_two 50 10 u v (after_word (50 ∷ 10 ∷ u) (50 ∷ 10 ∷ v) h))

pub one_certificate : (x y : Version) (o p : Outcome) (v w : Option ℤ) (t u : Tree) → IsTrue (has_text x o v t) → IsTrue (has_text y p w u) → certificate_text x o v t ≡ certificate_text y p w u → (x ≡ y) × (o ≡ p) × (v ≡ w) × (t ≡ u)
one_certificate x y o p v w t u f g e =
    let i = and_parts (outcome_fits o v) (tree_fits x t) f in
    let j = and_parts (outcome_fits p w) (tree_fits y u) g in
    let d = digit_one x y (outcome_text o v ++ tree_text t) (outcome_text p w ++ tree_text u)
    (sym (certificate_told x o v t) ∙ e ∙ certificate_told y p w u) in
    let r = outcome_one o p v w (tree_text t) (tree_text u) i.0 j.0 d.1 in
    let s = tree_one x y t u [] [] i.1 j.1 (append-nil (tree_text t) ∙ r.rest ∙ sym (append-nil (tree_text u))) in
    (d.0, r.outcome, r.optimum, s.0)
