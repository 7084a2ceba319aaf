-- The lines that a part of a tree begins with, and those that are left behind them.
use Rattle.std.proofs.Common.{◌≡◌, ◌∙◌, ◌+◌, ◌≤◌, ◌<◌, ℕ, suc, List, [], ◌∷◌, ◌++◌, length, map, refl, sym, ap, subst, arith, append_assoc, append-nil, length-append, true, false, Option, Some, None, ℤ}
use Rattle.std.specs.Option.{is_some}
use Rattle.std.specs.Prelude.{MatchOption}
use Rattle.qc_model.specs.declared.problem.VarId.{VarId}
use Rattle.proof_tree.specs.declared.line.Line.{Line}
use Rattle.proof_tree.specs.declared.line.Line.TheVariants.{Horizon as HorizonLine, Prune as PruneLine, Bound as BoundLine, Dot, Stuck, Goal, Empty, Barred, Next, Branch, Skip, Open, Range}
use Rattle.proof_tree.specs.declared.tree.Horizon.{Horizon}
use Rattle.proof_tree.specs.declared.tree.Step.{Step}
use Rattle.proof_tree.specs.declared.tree.Step.TheVariants.{Prune, Bound}
use Rattle.proof_tree.specs.Lines.{step_line, horizon_lines, tree_lines, body_lines, ending_lines, branches_lines, case_lines}
use Rattle.proof_tree.specs.Tree.{Tree, tree, Body, stuck, goal, cases, Ending, empty, barred, next, branch, Branches, no_more, piece, Case, skip, left_open, go}
use Rattle.qc_play.specs.Beginnings.{ArePart, AreCases, IsNextCase}

pub tail_same : (x y : Line) (xs ys : List Line) → x ∷ xs ≡ y ∷ ys → xs ≡ ys
tail_same x y xs ys e = cc

pub head_same : (x y : Line) (xs ys : List Line) → x ∷ xs ≡ y ∷ ys → x ≡ y
head_same x y xs ys e = cc

pub some_line : (x : Line) (xs ys : List Line) → ys ≡ x ∷ xs → ys ≡ [] → ⊥
some_line x xs ys e n = cc

pub fewer_left : (x : Line) (xs ys : List Line) → ys ≡ x ∷ xs → length xs < length ys
fewer_left x xs ys e = let h : length ys ≡ suc (length xs) = ap length e in omega (arith, h)

-- steps
step_same : (s t : Step) → step_line s ≡ step_line t → s ≡ t
step_same (Prune x low high c) (Prune y low' high' c') e = cc
step_same (Prune x low high c) (Bound y low' high') e = absurd cc
step_same (Bound x low high) (Prune y low' high' c') e = absurd cc
step_same (Bound x low high) (Bound y low' high') e = cc

no_end : (s : Step) (e : Ending) (rest ls : List Line) → step_line s ∷ ls ≡ ending_lines e ++ rest → ⊥
no_end (Prune x low high c) empty rest ls h = cc
no_end (Prune x low high c) barred rest ls h = cc
no_end (Prune x low high c) (next t) rest ls h = cc
no_end (Prune x low high c) (branch y bs) rest ls h = cc
no_end (Bound x low high) empty rest ls h = cc
no_end (Bound x low high) barred rest ls h = cc
no_end (Bound x low high) (next t) rest ls h = cc
no_end (Bound x low high) (branch y bs) rest ls h = cc

no_dot : (s : Step) (rest ls : List Line) → step_line s ∷ ls ≡ Dot ∷ rest → ⊥
no_dot (Prune x low high c) rest ls h = cc
no_dot (Bound x low high) rest ls h = cc

-- the line of a step is that of the next one, where what follows the steps begins with none
pub step_taken : (after : List Line) → ((s : Step) (ls : List Line) → step_line s ∷ ls ≡ after → ⊥) → (steps : List Step) (s : Step) (line : Line) (ls : List Line) → line ≡ step_line s → line ∷ ls ≡ map step_line steps ++ after →
    (left : List Step) × (steps ≡ s ∷ left) × (ls ≡ map step_line left ++ after)
step_taken after none [] s line ls q h = absurd (none s ls (subst (λ l. l ∷ ls ≡ after) q h))
step_taken after none (t ∷ left) s line ls q h =
    let first = step_same t s (sym (head_same line (step_line t) ls (map step_line left ++ after) h) ∙ q) in
    (left, ap (λ u. u ∷ left) first, tail_same line (step_line t) ls (map step_line left ++ after) h)

-- and where the line is of no step, none is left
pub step_over : (after : List Line) (steps : List Step) (line : Line) (ls : List Line) → ((s : Step) → line ≡ step_line s → ⊥) → line ∷ ls ≡ map step_line steps ++ after → (steps ≡ []) × (line ∷ ls ≡ after)
step_over after [] line ls none h = (refl, h)
step_over after (t ∷ left) line ls none h = absurd (none t (head_same line (step_line t) ls (map step_line left ++ after) h))

pub end_after : (e : Ending) (rest : List Line) (s : Step) (ls : List Line) → step_line s ∷ ls ≡ ending_lines e ++ rest → ⊥
end_after e rest s ls h = no_end s e rest ls h

pub dot_after : (rest : List Line) (s : Step) (ls : List Line) → step_line s ∷ ls ≡ Dot ∷ rest → ⊥
dot_after rest s ls h = no_dot s rest ls h

some_after : (steps : List Step) (after : List Line) → (after ≡ [] → ⊥) → map step_line steps ++ after ≡ [] → ⊥
some_after [] after none e = none e
some_after (s ∷ steps) after none e = cc

pub end_some : (e : Ending) (rest : List Line) → ending_lines e ++ rest ≡ [] → ⊥
end_some empty rest h = cc
end_some barred rest h = cc
end_some (next t) rest h = cc
end_some (branch x bs) rest h = cc

pub part_some : (ls : List Line) (steps : List Step) (e : Ending) (rest : List Line) → ArePart ls steps e rest → ls ≡ [] → ⊥
part_some ls steps e rest h n = some_after steps (ending_lines e ++ rest) (end_some e rest) (sym h ∙ n)

pub dotted_some : (ls : List Line) (steps : List Step) (rest : List Line) → ls ≡ map step_line steps ++ Dot ∷ rest → ls ≡ [] → ⊥
dotted_some ls steps rest h n = some_after steps (Dot ∷ rest) (λ e. cc) (sym h ∙ n)

-- ends
pub end_empty : (e : Ending) (rest ls : List Line) → Empty ∷ ls ≡ ending_lines e ++ rest → (e ≡ empty) × (ls ≡ rest)
end_empty empty rest ls h = (refl, tail_same Empty Empty ls rest h)
end_empty barred rest ls h = absurd cc
end_empty (next t) rest ls h = absurd cc
end_empty (branch x bs) rest ls h = absurd cc

pub end_barred : (e : Ending) (rest ls : List Line) → Barred ∷ ls ≡ ending_lines e ++ rest → (e ≡ barred) × (ls ≡ rest)
end_barred empty rest ls h = absurd cc
end_barred barred rest ls h = (refl, tail_same Barred Barred ls rest h)
end_barred (next t) rest ls h = absurd cc
end_barred (branch x bs) rest ls h = absurd cc

pub end_next : (e : Ending) (rest ls : List Line) → Next ∷ ls ≡ ending_lines e ++ rest → (t : Tree) × (e ≡ next t) × (ls ≡ tree_lines t ++ rest)
end_next empty rest ls h = absurd cc
end_next barred rest ls h = absurd cc
end_next (next t) rest ls h = (t, refl, tail_same Next Next ls (tree_lines t ++ rest) h)
end_next (branch x bs) rest ls h = absurd cc

same_variable : (x y : VarId) (xs ys : List Line) → Branch x ∷ xs ≡ Branch y ∷ ys → y ≡ x
same_variable x y xs ys e = cc

pub end_branch : (x : VarId) (e : Ending) (rest ls : List Line) → Branch x ∷ ls ≡ ending_lines e ++ rest → (bs : Branches) × (e ≡ branch x bs) × AreCases ls bs rest
end_branch x empty rest ls h = absurd cc
end_branch x barred rest ls h = absurd cc
end_branch x (next t) rest ls h = absurd cc
end_branch x (branch y bs) rest ls h =
    (bs, ap (λ z. branch z bs) (same_variable x y ls ((branches_lines bs ++ Dot ∷ []) ++ rest) h), tail_same (Branch x) (Branch y) ls ((branches_lines bs ++ Dot ∷ []) ++ rest) h ∙ append_assoc (branches_lines bs) (Dot ∷ []) rest)

pub no_ending : (e : Ending) (rest ls : List Line) (line : Line) → (line ≡ Empty → ⊥) → (line ≡ Barred → ⊥) → (line ≡ Next → ⊥) → ((x : VarId) → line ≡ Branch x → ⊥) → line ∷ ls ≡ ending_lines e ++ rest → ⊥
no_ending empty rest ls line a b c d h = a (head_same line Empty ls rest h)
no_ending barred rest ls line a b c d h = b (head_same line Barred ls rest h)
no_ending (next t) rest ls line a b c d h = c (head_same line Next ls (tree_lines t ++ rest) h)
no_ending (branch x bs) rest ls line a b c d h = d x (head_same line (Branch x) ls ((branches_lines bs ++ Dot ∷ []) ++ rest) h)

-- a part in a row
pub in_row : (steps : List Step) (e : Ending) (rest : List Line) → (map step_line steps ++ ending_lines e) ++ rest ≡ map step_line steps ++ (ending_lines e ++ rest)
in_row steps e rest = append_assoc (map step_line steps) (ending_lines e) rest

-- a part begins with a step or an end, and so with none of these
abbrev BeginsPartLine : Line → Type 0
BeginsPartLine (HorizonLine k) = ⊥
BeginsPartLine (PruneLine x low high c) = Unit {0}
BeginsPartLine (BoundLine x low high) = Unit {0}
BeginsPartLine Dot = ⊥
BeginsPartLine Stuck = ⊥
BeginsPartLine Goal = ⊥
BeginsPartLine Empty = Unit {0}
BeginsPartLine Barred = Unit {0}
BeginsPartLine Next = Unit {0}
BeginsPartLine (Branch x) = Unit {0}
BeginsPartLine Skip = ⊥
BeginsPartLine Open = ⊥
BeginsPartLine (Range high) = ⊥

part_begins : (steps : List Step) (e : Ending) (rest ls : List Line) (line : Line) → line ∷ ls ≡ (map step_line steps ++ ending_lines e) ++ rest → BeginsPartLine line
part_begins [] empty rest ls line h = subst BeginsPartLine (sym (head_same line Empty ls rest h)) tt
part_begins [] barred rest ls line h = subst BeginsPartLine (sym (head_same line Barred ls rest h)) tt
part_begins [] (next t) rest ls line h = subst BeginsPartLine (sym (head_same line Next ls (tree_lines t ++ rest) h)) tt
part_begins [] (branch x bs) rest ls line h = subst BeginsPartLine (sym (head_same line (Branch x) ls ((branches_lines bs ++ Dot ∷ []) ++ rest) h)) tt
part_begins (Prune x low high c ∷ steps) e rest ls line h = subst BeginsPartLine (sym (head_same line (PruneLine x low high c) ls ((map step_line steps ++ ending_lines e) ++ rest) h)) tt
part_begins (Bound x low high ∷ steps) e rest ls line h = subst BeginsPartLine (sym (head_same line (BoundLine x low high) ls ((map step_line steps ++ ending_lines e) ++ rest) h)) tt

-- cases
pub case_skip : (c : Case) (rest ls : List Line) → Skip ∷ ls ≡ case_lines c ++ rest → (c ≡ skip) × (ls ≡ rest)
case_skip skip rest ls h = (refl, tail_same Skip Skip ls rest h)
case_skip left_open rest ls h = absurd cc
case_skip (go steps e) rest ls h = absurd (part_begins steps e rest ls Skip h)

pub case_open : (c : Case) (rest ls : List Line) → Open ∷ ls ≡ case_lines c ++ rest → (c ≡ left_open) × (ls ≡ rest)
case_open skip rest ls h = absurd cc
case_open left_open rest ls h = (refl, tail_same Open Open ls rest h)
case_open (go steps e) rest ls h = absurd (part_begins steps e rest ls Open h)

pub case_go : (c : Case) (rest ls : List Line) (line : Line) → (line ≡ Skip → ⊥) → (line ≡ Open → ⊥) → line ∷ ls ≡ case_lines c ++ rest → (steps : List Step) × (e : Ending) × (c ≡ go steps e) × ArePart (line ∷ ls) steps e rest
case_go skip rest ls line a b h = absurd (a (head_same line Skip ls rest h))
case_go left_open rest ls line a b h = absurd (b (head_same line Open ls rest h))
case_go (go steps e) rest ls line a b h = (steps, e, refl, h ∙ in_row steps e rest)

-- so many lines are left after a case
end_long : (e : Ending) → 1 ≤ length (ending_lines e)
end_long empty = omega arith
end_long barred = omega arith
end_long (next t) = omega arith
end_long (branch x bs) = omega arith

case_long : (c : Case) → 1 ≤ length (case_lines c)
case_long skip = omega arith
case_long left_open = omega arith
case_long (go steps e) = let h = end_long e in rw length-append (omega (arith, h))

pub case_shorter : (c : Case) (rest ls : List Line) (line : Line) → line ∷ ls ≡ case_lines c ++ rest → length rest ≤ length ls
case_shorter c rest ls line h =
    let l : suc (length ls) ≡ length (case_lines c) + length rest = ap length h ∙ length-append (case_lines c) rest in
    let n = case_long c in
    omega (arith, l, n)

-- the cases of a branch
any_some : (xs : List Line) (y : Line) (ys : List Line) → xs ++ y ∷ ys ≡ [] → ⊥
any_some [] y ys e = cc
any_some (x ∷ xs) y ys e = cc

pub cases_some : (ls : List Line) (bs : Branches) (rest : List Line) → AreCases ls bs rest → ls ≡ [] → ⊥
cases_some ls bs rest h n = any_some (branches_lines bs) Dot rest (sym h ∙ n)

-- the parts of a piece in a row
pieces_row : (u c bs r : List Line) → (u ++ c ++ bs) ++ r ≡ u ++ (c ++ (bs ++ r))
pieces_row u c bs r = append_assoc (u ++ c) bs r ∙ append_assoc u c (bs ++ r)

-- a case begins neither with a dot nor with a range
no_case : (c : Case) (rest ls : List Line) (line : Line) → (BeginsPartLine line → ⊥) → (line ≡ Skip → ⊥) → (line ≡ Open → ⊥) → line ∷ ls ≡ case_lines c ++ rest → ⊥
no_case skip rest ls line f a b h = a (head_same line Skip ls rest h)
no_case left_open rest ls line f a b h = b (head_same line Open ls rest h)
no_case (go steps e) rest ls line f a b h = f (part_begins steps e rest ls line h)

pub cases_dot : (bs : Branches) (rest ls : List Line) → AreCases (Dot ∷ ls) bs rest → (bs ≡ no_more) × (ls ≡ rest)
cases_dot no_more rest ls h = (refl, tail_same Dot Dot ls rest h)
cases_dot (piece None c bs) rest ls h = absurd (no_case c (branches_lines bs ++ Dot ∷ rest) ls Dot (λ f. f) (λ e. cc) (λ e. cc) (h ∙ pieces_row [] (case_lines c) (branches_lines bs) (Dot ∷ rest)))
cases_dot (piece (Some v) c bs) rest ls h = absurd cc

same_range : (v w : ℤ) (xs ys : List Line) → Range v ∷ xs ≡ Range w ∷ ys → w ≡ v
same_range v w xs ys e = cc

pub cases_range : (v : ℤ) (bs : Branches) (rest ls : List Line) → AreCases (Range v ∷ ls) bs rest → IsNextCase (Some v) ls bs rest
cases_range v no_more rest ls h = absurd cc
cases_range v (piece None c bs) rest ls h = absurd (no_case c (branches_lines bs ++ Dot ∷ rest) ls (Range v) (λ f. f) (λ e. cc) (λ e. cc) (h ∙ pieces_row [] (case_lines c) (branches_lines bs) (Dot ∷ rest)))
cases_range v (piece (Some w) c bs) rest ls h =
    let row = h ∙ pieces_row (Range w ∷ []) (case_lines c) (branches_lines bs) (Dot ∷ rest) in
    let after = case_lines c ++ (branches_lines bs ++ Dot ∷ rest) in
    record { first = c; later = bs; is = ap (λ z. piece (Some z) c bs) (same_range v w ls after row); stands = tail_same (Range v) (Range w) ls after row }

pub cases_other : (bs : Branches) (rest ls : List Line) (line : Line) → (line ≡ Dot → ⊥) → ((v : ℤ) → line ≡ Range v → ⊥) → AreCases (line ∷ ls) bs rest → IsNextCase None (line ∷ ls) bs rest
cases_other no_more rest ls line a b h = absurd (a (head_same line Dot ls rest h))
cases_other (piece None c bs) rest ls line a b h = record { first = c; later = bs; is = refl; stands = h ∙ pieces_row [] (case_lines c) (branches_lines bs) (Dot ∷ rest) }
cases_other (piece (Some w) c bs) rest ls line a b h = absurd (b w (head_same line (Range w) ls (case_lines c ++ (branches_lines bs ++ Dot ∷ rest)) (h ∙ pieces_row (Range w ∷ []) (case_lines c) (branches_lines bs) (Dot ∷ rest))))

pub next_some : (upto : Option ℤ) (ls : List Line) (bs : Branches) (rest : List Line) → IsNextCase upto ls bs rest → ls ≡ [] → ⊥
next_some upto ls bs rest h n =
    any_some (case_lines h.first ++ branches_lines h.later) Dot rest (append_assoc (case_lines h.first) (branches_lines h.later) (Dot ∷ rest) ∙ (sym h.stands ∙ n))

-- bodies
first_none : (xs ys : List Line) → xs ++ ys ≡ [] → xs ≡ []
first_none [] ys e = refl
first_none (x ∷ xs) ys e = cc

last_none : (xs ys : List Line) → xs ++ ys ≡ [] → ys ≡ []
last_none [] ys e = e
last_none (x ∷ xs) ys e = cc

no_body : (b : Body) → body_lines b ≡ [] → ⊥
no_body stuck e = cc
no_body goal e = cc
no_body (cases steps e) h = end_some e [] (append-nil (ending_lines e) ∙ last_none (map step_line steps) (ending_lines e) h)

pub body_some : (ls : List Line) (b : Body) (rest : List Line) → ls ≡ body_lines b ++ rest → ls ≡ [] → ⊥
body_some ls b rest h n = no_body b (first_none (body_lines b) rest (sym h ∙ n))

pub tree_some : (ls : List Line) (t : Tree) (rest : List Line) → ls ≡ tree_lines t ++ rest → ls ≡ [] → ⊥
tree_some ls (tree z b) rest h n = no_body b (last_none (horizon_lines z) (body_lines b) (first_none (horizon_lines z ++ body_lines b) rest (sym h ∙ n)))

-- the removals of a horizon, its end, and what follows
dotted : (ss c r : List Line) → ((ss ++ Dot ∷ []) ++ c) ++ r ≡ ss ++ Dot ∷ (c ++ r)
dotted ss c r = ap (λ ls. ls ++ r) (append_assoc ss (Dot ∷ []) c) ∙ append_assoc ss (Dot ∷ c) r

pub horizon_taken : (z : Option Horizon) (b : Body) (rest ls : List Line) (k : ℕ) → HorizonLine k ∷ ls ≡ tree_lines (tree z b) ++ rest → (steps : List Step) × (ls ≡ map step_line steps ++ Dot ∷ (body_lines b ++ rest))
horizon_taken None stuck rest ls k h = absurd cc
horizon_taken None goal rest ls k h = absurd cc
horizon_taken None (cases steps e) rest ls k h = absurd (part_begins steps e rest ls (HorizonLine k) h)
horizon_taken (Some z) b rest ls k h =
    (z.steps, tail_same (HorizonLine k) (HorizonLine (z.scope.0 + 1)) ls (((map step_line z.steps ++ Dot ∷ []) ++ body_lines b) ++ rest) h ∙ dotted (map step_line z.steps) (body_lines b) rest)

pub no_horizon : (z : Option Horizon) (b : Body) (rest ls : List Line) (line : Line) → ((k : ℕ) → line ≡ HorizonLine k → ⊥) → line ∷ ls ≡ tree_lines (tree z b) ++ rest → line ∷ ls ≡ body_lines b ++ rest
no_horizon None b rest ls line none h = h
no_horizon (Some z) b rest ls line none h = absurd (none (z.scope.0 + 1) (head_same line (HorizonLine (z.scope.0 + 1)) ls (((map step_line z.steps ++ Dot ∷ []) ++ body_lines b) ++ rest) h))

pub body_stuck : (b : Body) (rest ls : List Line) → Stuck ∷ ls ≡ body_lines b ++ rest → (b ≡ stuck) × (ls ≡ rest)
body_stuck stuck rest ls h = (refl, tail_same Stuck Stuck ls rest h)
body_stuck goal rest ls h = absurd cc
body_stuck (cases steps e) rest ls h = absurd (part_begins steps e rest ls Stuck h)

pub body_goal : (b : Body) (rest ls : List Line) → Goal ∷ ls ≡ body_lines b ++ rest → (b ≡ goal) × (ls ≡ rest)
body_goal stuck rest ls h = absurd cc
body_goal goal rest ls h = (refl, tail_same Goal Goal ls rest h)
body_goal (cases steps e) rest ls h = absurd (part_begins steps e rest ls Goal h)

pub body_own : (b : Body) (rest ls : List Line) (line : Line) → (line ≡ Stuck → ⊥) → (line ≡ Goal → ⊥) → line ∷ ls ≡ body_lines b ++ rest → (steps : List Step) × (e : Ending) × (b ≡ cases steps e) × ArePart (line ∷ ls) steps e rest
body_own stuck rest ls line a c h = absurd (a (head_same line Stuck ls rest h))
body_own goal rest ls line a c h = absurd (c (head_same line Goal ls rest h))
body_own (cases steps e) rest ls line a c h = (steps, e, refl, h ∙ in_row steps e rest)

pub horizon_of : (t : Tree) (rest ls : List Line) (k : ℕ) → HorizonLine k ∷ ls ≡ tree_lines t ++ rest → (steps : List Step) × (b : Body) × (ls ≡ map step_line steps ++ Dot ∷ (body_lines b ++ rest))
horizon_of (tree z b) rest ls k h = let s = horizon_taken z b rest ls k h in (s.0, b, s.1)

-- of all lines, which begin with steps and a dot, some steps are passed over
abbrev pub DotsLeft : List Line → List Line → Type 0
DotsLeft all now = (steps : List Step) (rest : List Line) → all ≡ map step_line steps ++ Dot ∷ rest → (left : List Step) × (now ≡ map step_line left ++ Dot ∷ rest)

pub dots_more : (all ls ms : List Line) (line after : Line) (s : Step) → line ≡ step_line s → ls ≡ after ∷ ms → DotsLeft all (line ∷ ls) → DotsLeft all (after ∷ ms)
dots_more all ls ms line after s q e h steps rest is =
    let k = h steps rest is in
    let t = step_taken (Dot ∷ rest) (dot_after rest) k.0 s line ls q k.1 in
    (t.0, sym e ∙ t.2)

pub dots_some : (all ls : List Line) (line : Line) (s : Step) (steps : List Step) (rest : List Line) → line ≡ step_line s → DotsLeft all (line ∷ ls) → all ≡ map step_line steps ++ Dot ∷ rest → ls ≡ [] → ⊥
dots_some all ls line s steps rest q h is =
    let k = h steps rest is in
    let t = step_taken (Dot ∷ rest) (dot_after rest) k.0 s line ls q k.1 in
    dotted_some ls t.0 rest t.2

pub dots_over : (all ls : List Line) (line : Line) → ((s : Step) → line ≡ step_line s → ⊥) → DotsLeft all (line ∷ ls) → (steps : List Step) (rest : List Line) → all ≡ map step_line steps ++ Dot ∷ rest → ls ≡ rest
dots_over all ls line none h steps rest is =
    let k = h steps rest is in
    let t = step_over (Dot ∷ rest) k.0 line ls none k.1 in
    tail_same line Dot ls rest t.1

-- whether a line is a step's
abbrev pub IsStepOf : Line → Option Step → Type 0
IsStepOf line o = MatchOption o ((s : Step) → line ≡ step_line s → ⊥) (λ s. line ≡ step_line s)

pub some_step : (o : Option Step) (line : Line) → IsStepOf line o → is_some o ≡ true → (s : Step) × (line ≡ step_line s)
some_step None line h e = cc
some_step (Some s) line h e = (s, h)

pub none_step : (o : Option Step) (line : Line) → IsStepOf line o → is_some o ≡ false → (s : Step) → line ≡ step_line s → ⊥
none_step None line h e = h
none_step (Some s) line h e = cc
