-- What a symbol stands for: the texts that it can have.
--
-- Each relation speaks of bytes that begin with such a text, and of the bytes after it.
use Rattle.std.proofs.Common.{◌≡◌, ◌⊎◌, refl, sym, subst, ap, ◌∙◌, ℕ, ◌+◌, ◌-◌, ◌*◌, ◌≤◌, List, [], ◌∷◌, ◌++◌, Option, Some, None}
use Rattle.std.specs.Prelude.{IsTrue, ℤ, nat_le, unsigned_abs, codes}
use Rattle.std.specs.Fmt.{decimal, signed_decimal}
use Rattle.std.specs.List.{list_all}
use Rattle.proof_tree.specs.declared.tree.Version.{Version}
use Rattle.proof_tree.specs.declared.tree.Outcome.{Outcome}
use Rattle.proof_tree.specs.declared.tree.Outcome.TheVariants.{True}
use Rattle.proof_tree.specs.declared.tree.Step.{Step}
use Rattle.proof_tree.specs.Steps.{is_prune}
use Rattle.proof_tree.specs.Tree.{Tree, Body, Ending, Branches, Case}
use Rattle.proof_tree.specs.Counts.{depth_of, body_depth, ending_depth, branch_depth, case_depth}
use Rattle.proof_tree.specs.Text.{outcome_text, version_text, step_fits, tree_fits, body_fits, ending_fits, branches_fit, case_fits, outcome_fits}
use Rattle.proof_text.specs.Parts.{steps_text, tree_text, body_text, ending_text, branches_text, case_text}
use Rattle.proof_text.specs.Symbols.{Symbol, byte, number, signed, digits, certificate, outcome, optimum, prunes, node, body, cases, ending, case, branches, Choices, bytes}

abbrev pub AreDigits : List ℕ → Type 0
AreDigits [] = Unit {0}
AreDigits (c ∷ cs) = (48 ≤ c) × (c ≤ 57) × AreDigits cs

-- the value of digits after digits of a value
abbrev pub value : ℕ → List ℕ → ℕ
value v [] = v
value v (c ∷ cs) = value (10 * v + (c - 48)) cs

abbrev pub optimum_text : Option ℤ → List ℕ
optimum_text None = 10 ∷ []
optimum_text (Some v) = 32 ∷ (signed_decimal v ++ 10 ∷ [])

pub record IsNumber (most end : ℕ) (u b : List ℕ) : Type 0 where
  pub n : ℕ
  pub low : 1 ≤ n
  pub high : n ≤ most
  pub told : u ≡ decimal n ++ end ∷ b

pub record IsSigned (most end : ℕ) (u b : List ℕ) : Type 0 where
  pub z : ℤ
  pub fits : IsTrue (nat_le (unsigned_abs z) most)
  pub told : u ≡ signed_decimal z ++ end ∷ b

pub record AreLastDigits (most v end : ℕ) (u b : List ℕ) : Type 0 where
  pub ds : List ℕ
  pub are : AreDigits ds
  pub high : value v ds ≤ most
  pub told : u ≡ ds ++ end ∷ b

pub record IsOutcome (u b : List ℕ) : Type 0 where
  pub o : Outcome
  pub v : Option ℤ
  pub fits : IsTrue (outcome_fits o v)
  pub told : u ≡ outcome_text o v ++ b

pub record IsOptimum (u b : List ℕ) : Type 0 where
  pub v : Option ℤ
  pub fits : IsTrue (outcome_fits True v)
  pub told : u ≡ optimum_text v ++ b

pub record ArePrunes (u b : List ℕ) : Type 0 where
  pub steps : List Step
  pub fit : IsTrue (list_all step_fits steps)
  pub are : IsTrue (list_all is_prune steps)
  pub told : u ≡ steps_text steps ++ 46 ∷ 10 ∷ b

pub record IsNode (m : ℕ) (ver : Version) (n : ℕ) (u b : List ℕ) : Type 0 where
  pub t : Tree
  pub fits : IsTrue (tree_fits ver t)
  pub shallow : n + depth_of t ≤ m
  pub told : u ≡ tree_text t ++ b

pub record IsBody (m : ℕ) (ver : Version) (n : ℕ) (u b : List ℕ) : Type 0 where
  pub t : Body
  pub fits : IsTrue (body_fits ver t)
  pub shallow : n + body_depth t ≤ m
  pub told : u ≡ body_text t ++ b

pub record IsEnding (m : ℕ) (ver : Version) (n : ℕ) (u b : List ℕ) : Type 0 where
  pub end : Ending
  pub fits : IsTrue (ending_fits ver end)
  pub shallow : n + ending_depth end ≤ m
  pub told : u ≡ ending_text end ++ b

pub record AreCases (m : ℕ) (ver : Version) (n : ℕ) (u b : List ℕ) : Type 0 where
  pub steps : List Step
  pub fit : IsTrue (list_all step_fits steps)
  pub rest : List ℕ
  pub end : IsEnding m ver n rest b
  pub told : u ≡ steps_text steps ++ rest

pub record AreBranches (m : ℕ) (ver : Version) (n : ℕ) (u b : List ℕ) : Type 0 where
  pub bs : Branches
  pub fit : IsTrue (branches_fit ver bs)
  -- the branch itself is a level, and so its cases are at most as deep as the limit
  pub shallow : n + branch_depth bs ≤ m
  pub told : u ≡ branches_text bs ++ 46 ∷ 10 ∷ b

pub record IsCase (m : ℕ) (ver : Version) (n : ℕ) (u b : List ℕ) : Type 0 where
  pub c : Case
  pub fits : IsTrue (case_fits ver c)
  pub shallow : n + case_depth c ≤ m
  pub told : u ≡ case_text c ++ b

-- the version's digit, and the rest of a certificate
pub record IsCertificate (m : ℕ) (u b : List ℕ) : Type 0 where
  pub ver : Version
  pub o : Outcome
  pub v : Option ℤ
  pub t : Tree
  pub outcome : IsTrue (outcome_fits o v)
  pub fits : IsTrue (tree_fits ver t)
  pub shallow : depth_of t ≤ m
  pub told : codes "qcert " ++ u ≡ version_text ver ++ (outcome_text o v ++ (tree_text t ++ b))

-- u is a text of the symbol and then b, nested at most so deep
abbrev pub Begins : ℕ → Symbol → List ℕ → List ℕ → Type 0
Begins m (byte c) u b = u ≡ c ∷ b
Begins m (number most end) u b = IsNumber most end u b
Begins m (signed most end) u b = IsSigned most end u b
Begins m (digits most v end) u b = AreLastDigits most v end u b
Begins m certificate u b = IsCertificate m u b
Begins m outcome u b = IsOutcome u b
Begins m optimum u b = IsOptimum u b
Begins m prunes u b = ArePrunes u b
Begins m (node ver n) u b = IsNode m ver n u b
Begins m (body ver n) u b = IsBody m ver n u b
Begins m (cases ver n) u b = AreCases m ver n u b
Begins m (ending ver n) u b = IsEnding m ver n u b
Begins m (case ver n) u b = IsCase m ver n u b
Begins m (branches ver n) u b = AreBranches m ver n u b

-- a text of each symbol, one after the other, and then b
abbrev pub Runs : ℕ → List Symbol → List ℕ → List ℕ → Type 0
Runs m [] u b = u ≡ b
Runs m (s ∷ k) u b = (v : List ℕ) × Begins m s u v × Runs m k v b

-- u begins as one of the choices says
abbrev pub Choice : ℕ → Choices → List ℕ → List ℕ → Type 0
Choice m [] u b = ⊥
Choice m (c ∷ choices) u b = ((w : List ℕ) × (u ≡ c.0 ∷ w) × Runs m c.1 w b) ⊎ Choice m choices u b

pub runs_append : (m : ℕ) (k l : List Symbol) (u v b : List ℕ) → Runs m k u v → Runs m l v b → Runs m (k ++ l) u b
runs_append m [] l u v b h g = subst (λ (x : List ℕ). Runs m l x b) (sym h) g
runs_append m (s ∷ k) l u v b h g = (h.0, h.1, runs_append m k l h.0 v b h.2 g)

pub runs_split : (m : ℕ) (k l : List Symbol) (u b : List ℕ) → Runs m (k ++ l) u b → (v : List ℕ) × Runs m k u v × Runs m l v b
runs_split m [] l u b h = (u, refl, h)
runs_split m (s ∷ k) l u b h =
    let r = runs_split m k l h.0 b h.2 in
    (r.0, (h.0, h.1, r.1), r.2)

-- bytes that are owed as they stand
pub bytes_then : (m : ℕ) (cs : List ℕ) (k : List Symbol) (u b : List ℕ) → Runs m (bytes cs ++ k) u b → (v : List ℕ) × (u ≡ cs ++ v) × Runs m k v b
bytes_then m [] k u b h = (u, refl, h)
bytes_then m (c ∷ cs) k u b h =
    let r = bytes_then m cs k h.0 b h.2 in
    (r.0, h.1 ∙ ap (λ (l : List ℕ). c ∷ l) r.1, r.2)

pub then_bytes : (m : ℕ) (cs : List ℕ) (k : List Symbol) (v b : List ℕ) → Runs m k v b → Runs m (bytes cs ++ k) (cs ++ v) b
then_bytes m [] k v b h = h
then_bytes m (c ∷ cs) k v b h = (cs ++ v, refl, then_bytes m cs k v b h)
