-- The lines of a tree are those of no other, and no tree's lines begin another's.
use Rattle.std.proofs.Common.{inl, inr, ◌≡◌, ◌∙◌, refl, sym, ap, ℕ, ◌+◌, Option, Some, None, List, [], ◌∷◌, ◌++◌, map, ℤ, append_assoc, arith, Result, Ok, Err}
use Rattle.std.specs.Prelude.{◌⊎◌, IfOk}
use Rattle.std.proofs.lemmas.List.{append-nil}
use Rattle.qc_model.specs.declared.problem.VarId.{VarId}
use Rattle.proof_tree.specs.declared.line.Line.{Line}
use Rattle.proof_tree.specs.declared.line.Line.TheVariants.{Horizon as HorizonLine, Prune as PruneLine, Bound as BoundLine, Dot, Stuck, Goal, Empty, Barred, Next, Branch, Skip, Open, Range}
use Rattle.proof_tree.specs.declared.tree.Horizon.{Horizon}
use Rattle.proof_tree.specs.declared.tree.Step.{Step}
use Rattle.proof_tree.specs.declared.tree.Step.TheVariants.{Prune, Bound}
use Rattle.proof_tree.specs.Lines.{step_line, tree_lines, body_lines, ending_lines, branches_lines, case_lines}
use Rattle.proof_tree.specs.Tree.{Tree, tree, Body, stuck, goal, cases, Ending, empty, barred, next, branch, Branches, no_more, piece, Case, skip, left_open, go}

-- what begins with a line
abbrev sort_of : Line → ℕ
sort_of (HorizonLine k) = 1
sort_of (PruneLine x low high c) = 7
sort_of (BoundLine x low high) = 7
sort_of Dot = 5
sort_of Stuck = 2
sort_of Goal = 2
sort_of Empty = 6
sort_of Barred = 6
sort_of Next = 6
sort_of (Branch x) = 6
sort_of Skip = 3
sort_of Open = 3
sort_of (Range high) = 4

abbrev sort : List Line → ℕ
sort [] = 0
sort (l ∷ ls) = sort_of l

-- no line of this sort begins with one of another
apart : (xs ys : List Line) (m n : ℕ) → xs ≡ ys → sort xs ≡ m → sort ys ≡ n → (m ≡ n → ⊥) → ⊥
apart xs ys m n e p q d = d (sym p ∙ (ap sort e ∙ q))

ending_sort : (e : Ending) (r : List Line) → sort (ending_lines e ++ r) ≡ 6
ending_sort empty r = refl
ending_sort barred r = refl
ending_sort (next t) r = refl
ending_sort (branch x bs) r = refl

step_sort : (s : Step) (ls : List Line) → sort (step_line s ∷ ls) ≡ 7
step_sort (Prune x low high c) ls = refl
step_sort (Bound x low high) ls = refl

-- a part begins with a step or an end
data IsPart (n : ℕ) : Type 0 where
  steps_first : n ≡ 7 → IsPart n
  end_first : n ≡ 6 → IsPart n

part_sort : (steps : List Step) (e : Ending) (r : List Line) → IsPart (sort ((map step_line steps ++ ending_lines e) ++ r))
part_sort [] e r = end_first (ending_sort e r)
part_sort (s ∷ steps) e r = steps_first (step_sort s ((map step_line steps ++ ending_lines e) ++ r))

no_part : (xs ys : List Line) (m : ℕ) → xs ≡ ys → sort xs ≡ m → (m ≡ 6 → ⊥) → (m ≡ 7 → ⊥) → IsPart (sort ys) → ⊥
no_part xs ys m e p d f (steps_first q) = f (sym p ∙ (ap sort e ∙ q))
no_part xs ys m e p d f (end_first q) = d (sym p ∙ (ap sort e ∙ q))

tail_same : (x y : Line) (xs ys : List Line) → x ∷ xs ≡ y ∷ ys → xs ≡ ys
tail_same x y xs ys e = cc

step_same : (s t : Step) → step_line s ≡ step_line t → s ≡ t
step_same (Prune x low high c) (Prune y low' high' c') e = cc
step_same (Prune x low high c) (Bound y low' high') e = absurd cc
step_same (Bound x low high) (Prune y low' high' c') e = absurd cc
step_same (Bound x low high) (Bound y low' high') e = cc

head_same : (x y : Line) (xs ys : List Line) → x ∷ xs ≡ y ∷ ys → x ≡ y
head_same x y xs ys e = cc

-- steps, and what follows them
steps_unique : (ss ts : List Step) (r s : List Line) → (sort r ≡ 7 → ⊥) → (sort s ≡ 7 → ⊥) → map step_line ss ++ r ≡ map step_line ts ++ s → (ss ≡ ts) × (r ≡ s)
steps_unique [] [] r s p q e = (refl, e)
steps_unique [] (t ∷ ts) r s p q e = absurd (p (ap sort e ∙ step_sort t (map step_line ts ++ s)))
steps_unique (u ∷ ss) [] r s p q e = absurd (q (ap sort (sym e) ∙ step_sort u (map step_line ss ++ r)))
steps_unique (u ∷ ss) (t ∷ ts) r s p q e =
    let first = step_same u t (head_same (step_line u) (step_line t) (map step_line ss ++ r) (map step_line ts ++ s) e) in
    let rest = steps_unique ss ts r s p q (tail_same (step_line u) (step_line t) (map step_line ss ++ r) (map step_line ts ++ s) e) in
    (ap (λ x. x ∷ ss) first ∙ ap (λ xs. t ∷ xs) rest.0, rest.1)

six : (xs : List Line) → sort xs ≡ 6 → sort xs ≡ 7 → ⊥
six xs e f = omega (arith, e, f)

scope_same : (k m : ℕ) → HorizonLine (k + 1) ≡ HorizonLine (m + 1) → k ≡ m
scope_same k m e = let f : k + 1 ≡ m + 1 = cc in omega (arith, f)

range_same : (v w : ℤ) → Range v ≡ Range w → v ≡ w
range_same v w e = cc

begins : (steps : List Step) (e : Ending) (r : List Line) → (map step_line steps ++ ending_lines e) ++ r ≡ map step_line steps ++ (ending_lines e ++ r)
begins steps e r = append_assoc (map step_line steps) (ending_lines e) r

-- the lines of a body begin with no horizon, and those of a case with no range and no dot
body_sort : (c : Body) (r : List Line) → sort (body_lines c ++ r) ≡ 1 → ⊥
body_sort stuck r e = omega (arith, e)
body_sort goal r e = omega (arith, e)
body_sort (cases steps end) r e = no_part ((map step_line steps ++ ending_lines end) ++ r) ((map step_line steps ++ ending_lines end) ++ r) 1 refl e (λ q. omega (arith, q)) (λ q. omega (arith, q)) (part_sort steps end r)

case_sort : (c : Case) (r : List Line) (n : ℕ) → sort (case_lines c ++ r) ≡ n → (n ≡ 4) ⊎ (n ≡ 5) → ⊥
case_sort skip r n e f = elim f [ inl a ↦ omega (arith, a, e) | inr a ↦ omega (arith, a, e) ]
case_sort left_open r n e f = elim f [ inl a ↦ omega (arith, a, e) | inr a ↦ omega (arith, a, e) ]
case_sort (go steps end) r n e f =
    no_part ((map step_line steps ++ ending_lines end) ++ r) ((map step_line steps ++ ending_lines end) ++ r) n refl e
    (λ q. elim f [ inl a ↦ omega (arith, a, q) | inr a ↦ omega (arith, a, q) ]) (λ q. elim f [ inl a ↦ omega (arith, a, q) | inr a ↦ omega (arith, a, q) ]) (part_sort steps end r)

horizon_same : (z w : Horizon) → z.scope.0 ≡ w.scope.0 → z.steps ≡ w.steps → z ≡ w
horizon_same z w e f = ap (λ k. record { scope = record { 0 = k }; steps = z.steps }) e ∙ ap (λ ss. record { scope = record { 0 = w.scope.0 }; steps = ss }) f

-- the parts of a piece in a row
in_row : (u c bs r : List Line) → (u ++ c ++ bs) ++ r ≡ u ++ (c ++ (bs ++ r))
in_row u c bs r = append_assoc (u ++ c) bs r ∙ append_assoc u c (bs ++ r)

three : (u v : Option ℤ) (c c' : Case) (bs bs' : Branches) → u ≡ v → c ≡ c' → bs ≡ bs' → piece u c bs ≡ piece v c' bs'
three u v c c' bs bs' p q r = ap (λ x. piece x c bs) p ∙ (ap (λ x. piece v x bs) q ∙ ap (λ x. piece v c' x) r)

named : (x y : VarId) → Branch x ≡ Branch y → x ≡ y
named x y e = cc

-- the removals of a horizon, its end, and what follows
dotted : (ss c r : List Line) → ((ss ++ Dot ∷ []) ++ c) ++ r ≡ ss ++ Dot ∷ (c ++ r)
dotted ss c r = ap (λ ls. ls ++ r) (append_assoc ss (Dot ∷ []) c) ∙ append_assoc ss (Dot ∷ c) r

-- steps and an end
part_split : (steps steps' : List Step) (end end' : Ending) (r s : List Line) → (map step_line steps ++ ending_lines end) ++ r ≡ (map step_line steps' ++ ending_lines end') ++ s →
    (steps ≡ steps') × (ending_lines end ++ r ≡ ending_lines end' ++ s)
part_split steps steps' end end' r s e =
    steps_unique steps steps' (ending_lines end ++ r) (ending_lines end' ++ s) (six (ending_lines end ++ r) (ending_sort end r)) (six (ending_lines end' ++ s) (ending_sort end' s))
    (sym (begins steps end r) ∙ (e ∙ begins steps' end' s))

mutual
  pub tree_unique : (t u : Tree) (r s : List Line) → tree_lines t ++ r ≡ tree_lines u ++ s → (t ≡ u) × (r ≡ s)
  tree_unique (tree None c) (tree None c') r s e = let b = body_unique c c' r s e in (ap (tree None) b.0, b.1)
  tree_unique (tree None c) (tree (Some w) c') r s e = absurd (body_sort c r (ap sort e))
  tree_unique (tree (Some z) c) (tree None c') r s e = absurd (body_sort c' s (ap sort (sym e)))
  tree_unique (tree (Some z) c) (tree (Some w) c') r s e =
      let first = scope_same z.scope.0 w.scope.0 (head_same (HorizonLine (z.scope.0 + 1)) (HorizonLine (w.scope.0 + 1)) _ _ e) in
      let after = tail_same (HorizonLine (z.scope.0 + 1)) (HorizonLine (w.scope.0 + 1)) _ _ e in
      let apart = steps_unique z.steps w.steps (Dot ∷ (body_lines c ++ r)) (Dot ∷ (body_lines c' ++ s)) (λ q. omega (arith, q)) (λ q. omega (arith, q))
      (sym (dotted (map step_line z.steps) (body_lines c) r) ∙ (after ∙ dotted (map step_line w.steps) (body_lines c') s)) in
      let b = body_unique c c' r s (tail_same Dot Dot _ _ apart.1) in
      (ap (λ x. tree (Some x) c) (horizon_same z w first apart.0) ∙ ap (tree (Some w)) b.0, b.1)

  body_unique : (c c' : Body) (r s : List Line) → body_lines c ++ r ≡ body_lines c' ++ s → (c ≡ c') × (r ≡ s)
  body_unique stuck stuck r s e = (refl, tail_same Stuck Stuck r s e)
  body_unique stuck goal r s e = absurd cc
  body_unique stuck (cases steps end) r s e = absurd (no_part (Stuck ∷ r) ((map step_line steps ++ ending_lines end) ++ s) 2 e refl (λ q. omega (arith, q)) (λ q. omega (arith, q)) (part_sort steps end s))
  body_unique goal stuck r s e = absurd cc
  body_unique goal goal r s e = (refl, tail_same Goal Goal r s e)
  body_unique goal (cases steps end) r s e = absurd (no_part (Goal ∷ r) ((map step_line steps ++ ending_lines end) ++ s) 2 e refl (λ q. omega (arith, q)) (λ q. omega (arith, q)) (part_sort steps end s))
  body_unique (cases steps end) stuck r s e = absurd (no_part (Stuck ∷ s) ((map step_line steps ++ ending_lines end) ++ r) 2 (sym e) refl (λ q. omega (arith, q)) (λ q. omega (arith, q)) (part_sort steps end r))
  body_unique (cases steps end) goal r s e = absurd (no_part (Goal ∷ s) ((map step_line steps ++ ending_lines end) ++ r) 2 (sym e) refl (λ q. omega (arith, q)) (λ q. omega (arith, q)) (part_sort steps end r))
  body_unique (cases steps end) (cases steps' end') r s e =
      let p = part_split steps steps' end end' r s e in
      let b = ending_unique end end' r s p.1 in
      (ap (λ x. cases x end) p.0 ∙ ap (cases steps') b.0, b.1)

  ending_unique : (e f : Ending) (r s : List Line) → ending_lines e ++ r ≡ ending_lines f ++ s → (e ≡ f) × (r ≡ s)
  ending_unique empty empty r s e = (refl, tail_same Empty Empty r s e)
  ending_unique barred barred r s e = (refl, tail_same Barred Barred r s e)
  ending_unique (next t) (next u) r s e = let b = tree_unique t u r s (tail_same Next Next _ _ e) in (ap next b.0, b.1)
  ending_unique (branch x bs) (branch y cs) r s e =
      let first = head_same (Branch x) (Branch y) _ _ e in
      let b = branches_unique bs cs r s (sym (append_assoc (branches_lines bs) (Dot ∷ []) r) ∙ (tail_same (Branch x) (Branch y) _ _ e ∙ append_assoc (branches_lines cs) (Dot ∷ []) s)) in
      (ap (λ n. branch n bs) (named x y first) ∙ ap (branch y) b.0, b.1)
  ending_unique empty barred r s e = absurd cc
  ending_unique empty (next u) r s e = absurd cc
  ending_unique empty (branch y cs) r s e = absurd cc
  ending_unique barred empty r s e = absurd cc
  ending_unique barred (next u) r s e = absurd cc
  ending_unique barred (branch y cs) r s e = absurd cc
  ending_unique (next t) empty r s e = absurd cc
  ending_unique (next t) barred r s e = absurd cc
  ending_unique (next t) (branch y cs) r s e = absurd cc
  ending_unique (branch x bs) empty r s e = absurd cc
  ending_unique (branch x bs) barred r s e = absurd cc
  ending_unique (branch x bs) (next u) r s e = absurd cc

  branches_unique : (bs cs : Branches) (r s : List Line) → branches_lines bs ++ Dot ∷ r ≡ branches_lines cs ++ Dot ∷ s → (bs ≡ cs) × (r ≡ s)
  branches_unique no_more no_more r s e = (refl, tail_same Dot Dot r s e)
  branches_unique no_more (piece None c cs) r s e = absurd (case_sort c (branches_lines cs ++ Dot ∷ s) 5 (ap sort (sym (in_row [] (case_lines c) (branches_lines cs) (Dot ∷ s)) ∙ sym e)) (inr refl))
  branches_unique no_more (piece (Some v) c cs) r s e = absurd cc
  branches_unique (piece None c bs) no_more r s e = absurd (case_sort c (branches_lines bs ++ Dot ∷ r) 5 (ap sort (sym (in_row [] (case_lines c) (branches_lines bs) (Dot ∷ r)) ∙ e)) (inr refl))
  branches_unique (piece (Some v) c bs) no_more r s e = absurd cc
  branches_unique (piece None c bs) (piece None d cs) r s e =
      let q = sym (in_row [] (case_lines c) (branches_lines bs) (Dot ∷ r)) ∙ (e ∙ in_row [] (case_lines d) (branches_lines cs) (Dot ∷ s)) in
      let p = case_unique c d (branches_lines bs ++ Dot ∷ r) (branches_lines cs ++ Dot ∷ s) q in
      let b = branches_unique bs cs r s p.1 in
      (three None None c d bs cs refl p.0 b.0, b.1)
  branches_unique (piece None c bs) (piece (Some w) d cs) r s e =
      absurd (case_sort c (branches_lines bs ++ Dot ∷ r) 4 (ap sort (sym (in_row [] (case_lines c) (branches_lines bs) (Dot ∷ r)) ∙ (e ∙ in_row (Range w ∷ []) (case_lines d) (branches_lines cs) (Dot ∷ s)))) (inl refl))
  branches_unique (piece (Some v) c bs) (piece None d cs) r s e =
      absurd (case_sort d (branches_lines cs ++ Dot ∷ s) 4 (ap sort (sym (in_row [] (case_lines d) (branches_lines cs) (Dot ∷ s)) ∙ (sym e ∙ in_row (Range v ∷ []) (case_lines c) (branches_lines bs) (Dot ∷ r)))) (inl refl))
  branches_unique (piece (Some v) c bs) (piece (Some w) d cs) r s e =
      let q = sym (in_row (Range v ∷ []) (case_lines c) (branches_lines bs) (Dot ∷ r)) ∙ (e ∙ in_row (Range w ∷ []) (case_lines d) (branches_lines cs) (Dot ∷ s)) in
      let first = range_same v w (head_same (Range v) (Range w) _ _ q) in
      let p = case_unique c d (branches_lines bs ++ Dot ∷ r) (branches_lines cs ++ Dot ∷ s) (tail_same (Range v) (Range w) _ _ q) in
      let b = branches_unique bs cs r s p.1 in
      (three (Some v) (Some w) c d bs cs (ap Some first) p.0 b.0, b.1)

  case_unique : (c d : Case) (r s : List Line) → case_lines c ++ r ≡ case_lines d ++ s → (c ≡ d) × (r ≡ s)
  case_unique skip skip r s e = (refl, tail_same Skip Skip r s e)
  case_unique left_open left_open r s e = (refl, tail_same Open Open r s e)
  case_unique skip left_open r s e = absurd cc
  case_unique left_open skip r s e = absurd cc
  case_unique skip (go steps end) r s e = absurd (no_part (Skip ∷ r) ((map step_line steps ++ ending_lines end) ++ s) 3 e refl (λ q. omega (arith, q)) (λ q. omega (arith, q)) (part_sort steps end s))
  case_unique left_open (go steps end) r s e = absurd (no_part (Open ∷ r) ((map step_line steps ++ ending_lines end) ++ s) 3 e refl (λ q. omega (arith, q)) (λ q. omega (arith, q)) (part_sort steps end s))
  case_unique (go steps end) skip r s e = absurd (no_part (Skip ∷ s) ((map step_line steps ++ ending_lines end) ++ r) 3 (sym e) refl (λ q. omega (arith, q)) (λ q. omega (arith, q)) (part_sort steps end r))
  case_unique (go steps end) left_open r s e = absurd (no_part (Open ∷ s) ((map step_line steps ++ ending_lines end) ++ r) 3 (sym e) refl (λ q. omega (arith, q)) (λ q. omega (arith, q)) (part_sort steps end r))
  case_unique (go steps end) (go steps' end') r s e =
      let p = part_split steps steps' end end' r s e in
      let b = ending_unique end end' r s p.1 in
      (ap (λ x. go x end) p.0 ∙ ap (go steps') b.0, b.1)

-- the one tree with these lines
pub same_tree : (t u : Tree) (lines rest : List Line) → lines ≡ tree_lines u ++ rest → lines ≡ tree_lines t → u ≡ t
same_tree t u lines rest e f = (tree_unique u t rest [] (sym e ∙ (f ∙ sym (append-nil (tree_lines t))))).0

-- two trees with the same lines are the same
pub only_tree : (t u : Tree) (lines : List Line) → lines ≡ tree_lines t → lines ≡ tree_lines u → t ≡ u
only_tree t u lines e f = same_tree u t lines [] (e ∙ sym (append-nil (tree_lines t))) f

pub if_ok : {X E : Type 0} {P Q : X → Type 0} (r : Result X E) → ((x : X) → P x → Q x) → IfOk r P → IfOk r Q
if_ok (Ok x) f p = f x p
if_ok (Err e) f p = tt
