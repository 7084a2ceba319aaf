-- A text of a symbol begins as one of the symbol's choices says.
use Rattle.std.proofs.Common.{◌≡◌, inl, inr, refl, sym, ap, ◌∙◌, subst, ℕ, ◌+◌, ◌≤◌, List, [], ◌∷◌, ◌++◌, Option, Some, None, ◌&&◌, append_assoc, arith, leb-true}
use Rattle.std.specs.Prelude.{IsTrue, ℤ, nat_le, unsigned_abs, codes}
use Rattle.std.specs.Fmt.{decimal, signed_decimal}
use Rattle.std.specs.List.{list_all}
use Rattle.std.proofs.lemmas.Bool.{and_parts}
use Rattle.std.proofs.Math.Nat.{le-max_left, le-max_right}
use Rattle.proof_tree.specs.declared.tree.Outcome.{Outcome}
use Rattle.proof_tree.specs.declared.tree.Outcome.TheVariants.{True, False, Open}
use Rattle.proof_tree.specs.declared.tree.Horizon.{Horizon}
use Rattle.proof_tree.specs.declared.tree.Step.{Step}
use Rattle.proof_tree.specs.declared.tree.Step.TheVariants.{Prune, Bound}
use Rattle.proof_tree.specs.Steps.{is_prune}
use Rattle.proof_tree.specs.Tree.{Tree, tree, Body, stuck, goal, cases as cases_body, Ending, empty, barred, next, branch, Branches, no_more, piece, Case, skip, left_open, go}
use Rattle.proof_tree.specs.Counts.{depth_of, body_depth, ending_depth, branch_depth, case_depth}
use Rattle.proof_tree.specs.Text.{version_text, outcome_text, is_place, step_fits, tree_fits, body_fits, ending_fits, branches_fit, upto_fits, case_fits, outcome_fits, horizon_fits}
use Rattle.proof_text.specs.Parts.{step_text, steps_text, tree_text, body_text, ending_text, branches_text, upto_text, case_text}
use Rattle.proof_text.specs.Symbols.{Symbol, prunes, cases, branches, Choices, prune_line, bound_line, certificate_choices, outcome_choices, optimum_choices, prune_choices, ending_choices, case_choices, body_choices, node_choices, one_choices, with_range, branch_choices}
use Rattle.proof_text.proofs.Grammar.{Runs, Choice, IsNumber, IsSigned, IsOutcome, IsOptimum, ArePrunes, IsNode, IsBody, IsEnding, AreCases, AreBranches, IsCase, IsCertificate, optimum_text, runs_append}
use Rattle.proof_text.proofs.Choices.{followed_choice}
use Rattle.proof_tree.specs.declared.tree.Version.{Version}
use Rattle.proof_tree.specs.declared.tree.Version.TheVariants.{One, Two}

-- a place is a number from 1
place_is : (most k end : ℕ) (b : List ℕ) → IsTrue (is_place most k) → IsNumber most end (decimal (k + 1) ++ end ∷ b) b
place_is most k end b h = record { n = k + 1; low = omega arith; high = leb-true _ _ h; told = refl }

signed_is : (most end : ℕ) (z : ℤ) (b : List ℕ) → IsTrue (nat_le (unsigned_abs z) most) → IsSigned most end (signed_decimal z ++ end ∷ b) b
signed_is most end z b h = record { z = z; fits = h; told = refl }

-- the bytes of a line of a step after its letter, and what follows it
abbrev pub rest_of_step : Step → List ℕ → List ℕ
rest_of_step (Prune x low high c) v = 32 ∷ (decimal (x.0 + 1) ++ 32 ∷ (signed_decimal low ++ 32 ∷ (signed_decimal high ++ 32 ∷ (decimal (c.0 + 1) ++ 10 ∷ v))))
rest_of_step (Bound x low high) v = 32 ∷ (decimal (x.0 + 1) ++ 32 ∷ (signed_decimal low ++ 32 ∷ (signed_decimal high ++ 10 ∷ v)))

abbrev pub letter_of_step : Step → ℕ
letter_of_step (Prune x low high c) = 112
letter_of_step (Bound x low high) = 98

abbrev pub line_of_step : Step → List Symbol
line_of_step (Prune x low high c) = prune_line
line_of_step (Bound x low high) = bound_line

prune_pieces : (p x s low high c n v : List ℕ) → (p ++ x ++ s ++ (low ++ s ++ high) ++ s ++ c ++ n) ++ v ≡ p ++ (x ++ (s ++ (low ++ (s ++ (high ++ (s ++ (c ++ (n ++ v))))))))
prune_pieces p x s low high c n v = simp append_assoc

bound_pieces : (p x s low high n v : List ℕ) → (p ++ x ++ s ++ (low ++ s ++ high) ++ n) ++ v ≡ p ++ (x ++ (s ++ (low ++ (s ++ (high ++ (n ++ v))))))
bound_pieces p x s low high n v = simp append_assoc

pub step_is : (s : Step) (v : List ℕ) → step_text s ++ v ≡ letter_of_step s ∷ rest_of_step s v
step_is (Prune x low high c) v = prune_pieces (codes "p ") (decimal (x.0 + 1)) (codes " ") (signed_decimal low) (signed_decimal high) (decimal (c.0 + 1)) (codes "\n") v
step_is (Bound x low high) v = bound_pieces (codes "b ") (decimal (x.0 + 1)) (codes " ") (signed_decimal low) (signed_decimal high) (codes "\n") v

pub step_runs : (m : ℕ) (s : Step) (v : List ℕ) → IsTrue (step_fits s) → Runs m (line_of_step s) (rest_of_step s v) v
step_runs m (Prune x low high c) v h =
    let p = and_parts _ _ h in
    let q = and_parts _ _ p.0 in
    let r = and_parts _ _ q.0 in
    (_, refl, (_, place_is 500 x.0 32 _ r.0, (_, signed_is _ 32 low _ r.1, (_, signed_is _ 32 high _ q.1, (v, place_is 20000 c.0 10 v p.1, refl)))))
step_runs m (Bound x low high) v h =
    let q = and_parts _ _ h in
    let r = and_parts _ _ q.0 in
    (_, refl, (_, place_is 500 x.0 32 _ r.0, (_, signed_is _ 32 low _ r.1, (v, signed_is _ 10 high v q.1, refl))))

-- the steps of a list, the first one apart
pub steps_are : (s : Step) (steps : List Step) (v : List ℕ) → steps_text (s ∷ steps) ++ v ≡ letter_of_step s ∷ rest_of_step s (steps_text steps ++ v)
steps_are s steps v = append_assoc (step_text s) (steps_text steps) v ∙ step_is s (steps_text steps ++ v)

outcome_choices_of : (m : ℕ) (o : Outcome) (v : Option ℤ) (b : List ℕ) → IsTrue (outcome_fits o v) → Choice m outcome_choices (outcome_text o v ++ b) b
outcome_choices_of m True None b f = inl (_, refl, (_, refl, (_, refl, (_, refl, (b, record { v = None; fits = f; told = refl }, refl)))))
outcome_choices_of m True (Some v) b f = inl (_, refl, (_, refl, (_, refl, (_, refl, (b, record { v = Some v; fits = f; told = ap (λ (l : List ℕ). 32 ∷ l) (append_assoc (signed_decimal v) (10 ∷ []) b ∙ sym (append_assoc (signed_decimal v) (10 ∷ []) b)) }, refl)))))
outcome_choices_of m False v b f = inr (inl (_, refl, (_, refl, (_, refl, (_, refl, (_, refl, (_, refl, refl)))))))
outcome_choices_of m (Open n) None b f =
    let p = and_parts (nat_le 1 n) (nat_le n 10000000) f in
    inr (inr (inl (_, refl, (_, refl, (_, refl, (_, refl, (_, refl, (b, record { n = n; low = leb-true 1 n p.0; high = leb-true n 10000000 p.1; told = append_assoc (decimal n) (10 ∷ []) b }, refl))))))))
outcome_choices_of m (Open n) (Some v) b f = absurd (cc)

-- a choice of bytes is one of equal bytes
pub at_bytes : (m : ℕ) (choices : Choices) (u w b : List ℕ) → u ≡ w → Choice m choices w b → Choice m choices u b
at_bytes m choices u w b e h = subst (λ (l : List ℕ). Choice m choices l b) (sym e) h

pub outcome_choice : (m : ℕ) (u b : List ℕ) → IsOutcome u b → Choice m outcome_choices u b
outcome_choice m u b h = at_bytes m outcome_choices u _ b h.told (outcome_choices_of m h.o h.v b h.fits)

optimum_choices_of : (m : ℕ) (v : Option ℤ) (b : List ℕ) → IsTrue (outcome_fits True v) → Choice m optimum_choices (optimum_text v ++ b) b
optimum_choices_of m None b f = inl (b, refl, refl)
optimum_choices_of m (Some v) b f = inr (inl (_, refl, (b, record { z = v; fits = f; told = append_assoc (signed_decimal v) (10 ∷ []) b }, refl)))

pub optimum_choice : (m : ℕ) (u b : List ℕ) → IsOptimum u b → Choice m optimum_choices u b
optimum_choice m u b h = at_bytes m optimum_choices u _ b h.told (optimum_choices_of m h.v b h.fits)

prune_choices_of : (m : ℕ) (steps : List Step) (b : List ℕ) → IsTrue (list_all step_fits steps) → IsTrue (list_all is_prune steps) → Choice m prune_choices (steps_text steps ++ 46 ∷ 10 ∷ b) b
prune_choices_of m [] b f p = inr (inl (_, refl, (b, refl, refl)))
prune_choices_of m (Prune x low high c ∷ steps) b f p =
    let g = and_parts (step_fits (Prune x low high c)) (list_all step_fits steps) f in
    let v : List ℕ = steps_text steps ++ 46 ∷ 10 ∷ b in
    inl (
      rest_of_step (Prune x low high c) v,
      steps_are (Prune x low high c) steps (46 ∷ 10 ∷ b),
      runs_append m prune_line (prunes ∷ []) _ v b (step_runs m (Prune x low high c) v g.0) (b, record { steps = steps; fit = g.1; are = p; told = refl }, refl),
    )
prune_choices_of m (Bound x low high ∷ steps) b f p = absurd (cc)

pub prune_choice : (m : ℕ) (u b : List ℕ) → ArePrunes u b → Choice m prune_choices u b
prune_choice m u b h = at_bytes m prune_choices u _ b h.told (prune_choices_of m h.steps b h.fit h.are)

pub branch_pieces : (v x n bs d b : List ℕ) → (v ++ x ++ n ++ bs ++ d) ++ b ≡ v ++ (x ++ (n ++ (bs ++ (d ++ b))))
branch_pieces v x n bs d b = simp append_assoc

ending_choices_of : (m : ℕ) (ver : Version) (n : ℕ) (end : Ending) (b : List ℕ) → IsTrue (ending_fits ver end) → n + ending_depth end ≤ m → Choice m (ending_choices ver n) (ending_text end ++ b) b
ending_choices_of m ver n empty b f d = inl (_, refl, (b, refl, refl))
ending_choices_of m ver n barred b f d = inr (inl (_, refl, (b, refl, refl)))
ending_choices_of m ver n (next t) b f d = inr (inr (inl (_, refl, (_, refl, (b, record { t = t; fits = f; shallow = omega arith; told = refl }, refl)))))
ending_choices_of m ver n (branch x bs) b f d =
    let p = and_parts (is_place 500 x.0) (branches_fit ver bs) f in
    inr (inr (inr (inl (
      _,
      branch_pieces (codes "v ") (decimal (x.0 + 1)) (codes "\n") (branches_text bs) (codes ".\n") b,
      (_, refl, (_, place_is 500 x.0 10 (branches_text bs ++ 46 ∷ 10 ∷ b) p.0, (b, record { bs = bs; fit = p.1; shallow = omega arith; told = refl }, refl))),
    ))))

pub ending_choice : (m : ℕ) (ver : Version) (n : ℕ) (u b : List ℕ) → IsEnding m ver n u b → Choice m (ending_choices ver n) u b
ending_choice m ver n u b h = at_bytes m (ending_choices ver n) u _ b h.told (ending_choices_of m ver n h.end b h.fits h.shallow)

case_choices_of : (m : ℕ) (ver : Version) (n : ℕ) (steps : List Step) (rest b : List ℕ) → IsTrue (list_all step_fits steps) → IsEnding m ver n rest b → Choice m (case_choices ver n) (steps_text steps ++ rest) b
case_choices_of m ver n [] rest b f e = inr (inr (ending_choice m ver n rest b e))
case_choices_of m ver n (Prune x low high c ∷ steps) rest b f e =
    let g = and_parts (step_fits (Prune x low high c)) (list_all step_fits steps) f in
    let v : List ℕ = steps_text steps ++ rest in
    inl (
      rest_of_step (Prune x low high c) v,
      steps_are (Prune x low high c) steps rest,
      runs_append m prune_line (cases ver n ∷ []) _ v b (step_runs m (Prune x low high c) v g.0) (b, record { steps = steps; fit = g.1; rest = rest; end = e; told = refl }, refl),
    )
case_choices_of m ver n (Bound x low high ∷ steps) rest b f e =
    let g = and_parts (step_fits (Bound x low high)) (list_all step_fits steps) f in
    let v : List ℕ = steps_text steps ++ rest in
    inr (inl (
      rest_of_step (Bound x low high) v,
      steps_are (Bound x low high) steps rest,
      runs_append m bound_line (cases ver n ∷ []) _ v b (step_runs m (Bound x low high) v g.0) (b, record { steps = steps; fit = g.1; rest = rest; end = e; told = refl }, refl),
    ))

pub case_choice : (m : ℕ) (ver : Version) (n : ℕ) (u b : List ℕ) → AreCases m ver n u b → Choice m (case_choices ver n) u b
case_choice m ver n u b h = at_bytes m (case_choices ver n) u _ b h.told (case_choices_of m ver n h.steps h.rest b h.fit h.end)

-- the cases of a body, or of a branch
pub cases_are : (m : ℕ) (ver : Version) (n : ℕ) (steps : List Step) (end : Ending) (b : List ℕ) → IsTrue (list_all step_fits steps) → IsTrue (ending_fits ver end) → n + ending_depth end ≤ m → AreCases m ver n (steps_text steps ++ (ending_text end ++ b)) b
cases_are m ver n steps end b f g d = record { steps = steps; fit = f; rest = ending_text end ++ b; end = record { end = end; fits = g; shallow = d; told = refl }; told = refl }

body_choices_of : (m : ℕ) (ver : Version) (n : ℕ) (t : Body) (b : List ℕ) → IsTrue (body_fits ver t) → n + body_depth t ≤ m → Choice m (body_choices ver n) (body_text t ++ b) b
body_choices_of m ver n stuck b f d = inl (_, refl, (b, refl, refl))
body_choices_of m ver n goal b f d = inr (inl (_, refl, (b, refl, refl)))
body_choices_of m ver n (cases_body steps end) b f d =
    let p = and_parts (list_all step_fits steps) (ending_fits ver end) f in
    inr (inr (at_bytes m (case_choices ver n) _ _ b (append_assoc (steps_text steps) (ending_text end) b) (case_choice m ver n _ b (cases_are m ver n steps end b p.0 p.1 d))))

pub body_choice : (m : ℕ) (ver : Version) (n : ℕ) (u b : List ℕ) → IsBody m ver n u b → Choice m (body_choices ver n) u b
body_choice m ver n u b h = at_bytes m (body_choices ver n) u _ b h.told (body_choices_of m ver n h.t b h.fits h.shallow)

pub node_pieces : (h k n s d t b : List ℕ) → ((h ++ k ++ n ++ s ++ d) ++ t) ++ b ≡ h ++ (k ++ (n ++ (s ++ (d ++ (t ++ b)))))
node_pieces h k n s d t b = simp append_assoc

node_choices_of : (m : ℕ) (ver : Version) (n : ℕ) (z : Option Horizon) (t : Body) (b : List ℕ) → IsTrue (horizon_fits z) → IsTrue (body_fits ver t) → n + body_depth t ≤ m → Choice m (node_choices ver n) (tree_text (tree z t) ++ b) b
node_choices_of m ver n None t b f g d = inr (body_choices_of m ver n t b g d)
node_choices_of m ver n (Some z) t b f g d =
    let p = and_parts (is_place 65 z.scope.0 && list_all step_fits z.steps) (list_all is_prune z.steps) f in
    let q = and_parts (is_place 65 z.scope.0) (list_all step_fits z.steps) p.0 in
    inl (
      _,
      node_pieces (codes "h ") (decimal (z.scope.0 + 1)) (codes "\n") (steps_text z.steps) (codes ".\n") (body_text t) b,
      (_, refl, (_, place_is 65 z.scope.0 10 _ q.0, (_, record { steps = z.steps; fit = q.1; are = p.1; told = refl }, (b, record { t = t; fits = g; shallow = d; told = refl }, refl)))),
    )

node_parts : (m : ℕ) (ver : Version) (n : ℕ) (t : Tree) (b : List ℕ) → IsTrue (tree_fits ver t) → n + depth_of t ≤ m → Choice m (node_choices ver n) (tree_text t ++ b) b
node_parts m ver n (tree z t) b f d = let p = and_parts (horizon_fits z) (body_fits ver t) f in node_choices_of m ver n z t b p.0 p.1 d

pub node_choice : (m : ℕ) (ver : Version) (n : ℕ) (u b : List ℕ) → IsNode m ver n u b → Choice m (node_choices ver n) u b
node_choice m ver n u b h = at_bytes m (node_choices ver n) u _ b h.told (node_parts m ver n h.t b h.fits h.shallow)

pub go_pieces : (s e r d : List ℕ) → (s ++ e ++ r) ++ d ≡ s ++ (e ++ (r ++ d))
go_pieces s e r d = simp append_assoc

one_choices_of : (m : ℕ) (ver : Version) (n : ℕ) (c : Case) (b : List ℕ) → IsTrue (case_fits ver c) → n + case_depth c ≤ m → Choice m (one_choices ver n) (case_text c ++ b) b
one_choices_of m ver n skip b f d = inl (_, refl, (b, refl, refl))
one_choices_of m ver n left_open b f d = inr (inl (_, refl, (b, refl, refl)))
one_choices_of m ver n (go steps end) b f d =
    let p = and_parts (list_all step_fits steps) (ending_fits ver end) f in
    inr (inr (at_bytes m (case_choices ver n) _ _ b (append_assoc (steps_text steps) (ending_text end) b) (case_choice m ver n _ b (cases_are m ver n steps end b p.0 p.1 d))))

pub one_choice : (m : ℕ) (ver : Version) (n : ℕ) (u b : List ℕ) → IsCase m ver n u b → Choice m (one_choices ver n) u b
one_choice m ver n u b h = at_bytes m (one_choices ver n) u _ b h.told (one_choices_of m ver n h.c b h.fits h.shallow)

-- a choice that is there in either version
pub in_either : (m : ℕ) (ver : Version) (n : ℕ) (choices : Choices) (u b : List ℕ) → Choice m choices u b → Choice m (with_range ver n choices) u b
in_either m One n choices u b h = h
in_either m Two n choices u b h = inr h

range_pieces : (r h n c d : List ℕ) → (r ++ h ++ n) ++ (c ++ d) ≡ r ++ (h ++ (n ++ (c ++ d)))
range_pieces r h n c d = simp append_assoc

piece_choices_of : (m : ℕ) (ver : Version) (n : ℕ) (upto : Option ℤ) (v b : List ℕ) (c : Case) → IsTrue (upto_fits ver upto) → IsTrue (case_fits ver c) → n + case_depth c ≤ m → AreBranches m ver n v b →
    Choice m (branch_choices ver n) (upto_text upto ++ (case_text c ++ v)) b
piece_choices_of m ver n None v b c f g d bs = inr (in_either m ver n _ _ b (followed_choice m (one_choices ver n) (branches ver n) _ v b (one_choices_of m ver n c v g d) bs))
piece_choices_of m One n (Some high) v b c f g d bs = absurd (cc)
piece_choices_of m Two n (Some high) v b c f g d bs =
    inr (inl (
      _,
      range_pieces (codes "r ") (signed_decimal high) (codes "\n") (case_text c) v,
      (_, refl, (_, signed_is 1000000000 10 high _ f, (v, record { c = c; fits = g; shallow = d; told = refl }, (b, bs, refl)))),
    ))

branch_choices_of : (m : ℕ) (ver : Version) (n : ℕ) (bs : Branches) (b : List ℕ) → IsTrue (branches_fit ver bs) → n + branch_depth bs ≤ m → Choice m (branch_choices ver n) (branches_text bs ++ 46 ∷ 10 ∷ b) b
branch_choices_of m ver n no_more b f d = inl (_, refl, (b, refl, refl))
branch_choices_of m ver n (piece upto c bs) b f d =
    let p = and_parts (upto_fits ver upto && case_fits ver c) (branches_fit ver bs) f in
    let q = and_parts (upto_fits ver upto) (case_fits ver c) p.0 in
    let left = le-max_left (case_depth c) (branch_depth bs) in
    let right = le-max_right (case_depth c) (branch_depth bs) in
    let v : List ℕ = branches_text bs ++ 46 ∷ 10 ∷ b in
    at_bytes m (branch_choices ver n) _ _ b (go_pieces (upto_text upto) (case_text c) (branches_text bs) (46 ∷ 10 ∷ b))
    (piece_choices_of m ver n upto v b c q.0 q.1 (omega arith) (record { bs = bs; fit = p.1; shallow = omega arith; told = refl }))

pub branch_choice : (m : ℕ) (ver : Version) (n : ℕ) (u b : List ℕ) → AreBranches m ver n u b → Choice m (branch_choices ver n) u b
branch_choice m ver n u b h = at_bytes m (branch_choices ver n) u _ b h.told (branch_choices_of m ver n h.bs b h.fit h.shallow)

pub after_word : (u v : List ℕ) → codes "qcert " ++ u ≡ codes "qcert " ++ v → u ≡ v
after_word u v h = cc

certificate_of : (m : ℕ) (ver : Version) (o : Outcome) (v : Option ℤ) (t : Tree) (u b : List ℕ) → IsTrue (outcome_fits o v) → IsTrue (tree_fits ver t) → depth_of t ≤ m → codes "qcert " ++ u ≡ version_text ver ++ (outcome_text o v ++ (tree_text t ++ b)) →
    Choice m certificate_choices u b
certificate_of m One o v t u b f g d e = inl (_, after_word u _ e, (_, refl, (_, record { o = o; v = v; fits = f; told = refl }, (b, record { t = t; fits = g; shallow = omega (arith, d); told = refl }, refl))))
certificate_of m Two o v t u b f g d e = inr (inl (_, after_word u _ e, (_, refl, (_, record { o = o; v = v; fits = f; told = refl }, (b, record { t = t; fits = g; shallow = omega (arith, d); told = refl }, refl)))))

pub certificate_choice : (m : ℕ) (u b : List ℕ) → IsCertificate m u b → Choice m certificate_choices u b
certificate_choice m u b h = certificate_of m h.ver h.o h.v h.t u b h.outcome h.fits h.shallow h.told
