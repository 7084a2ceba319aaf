-- Bytes that begin as one of a symbol's choices says begin with a text of the symbol.
use Rattle.std.proofs.Common.{◌≡◌, inl, inr, refl, sym, ap, ◌∙◌, subst, ℕ, ◌+◌, ◌-◌, ◌≤◌, List, [], ◌∷◌, ◌++◌, Option, Some, None, Bool, true, false, max, append_assoc, arith, le-leb}
use Rattle.std.specs.Prelude.{IsTrue, ℤ, nat_le, codes}
use Rattle.std.specs.Fmt.{decimal, signed_decimal}
use Rattle.std.proofs.lemmas.Bool.{and_from}
use Rattle.proof_tree.specs.declared.tree.Outcome.TheVariants.{True, False, Open}
use Rattle.proof_tree.specs.declared.tree.Horizon.{Horizon}
use Rattle.proof_tree.specs.declared.tree.Step.{Step}
use Rattle.proof_tree.specs.declared.tree.Step.TheVariants.{Prune, Bound}
use Rattle.proof_tree.specs.Steps.{is_prune}
use Rattle.proof_tree.specs.Tree.{tree, stuck, goal, cases as cases_body, empty, barred, next, branch, no_more, piece, skip, left_open, go}
use Rattle.proof_tree.specs.Counts.{branch_depth, case_depth}
use Rattle.proof_tree.specs.Text.{outcome_text, is_place, step_fits, upto_fits}
use Rattle.proof_text.specs.Parts.{step_text, steps_text, tree_text, body_text, ending_text, branches_text, upto_text, case_text}
use Rattle.proof_text.specs.Symbols.{number, optimum, prunes, cases, branches, prune_line, bound_line, certificate_choices, outcome_choices, optimum_choices, prune_choices, ending_choices, case_choices, body_choices, node_choices, one_choices, with_range, followed, branch_choices}
use Rattle.proof_text.proofs.Grammar.{Runs, Choice, IsNumber, IsOutcome, IsOptimum, ArePrunes, IsNode, IsBody, IsEnding, AreCases, AreBranches, IsCase, IsCertificate, optimum_text, runs_split, bytes_then}
use Rattle.proof_text.proofs.Choices.{choice_followed}
use Rattle.proof_text.proofs.Forward.{step_is, branch_pieces, node_pieces, go_pieces}
use Rattle.proof_tree.specs.declared.tree.Version.{Version}
use Rattle.proof_tree.specs.declared.tree.Version.TheVariants.{One, Two}

-- the number's place, from 0
place_of : (most end : ℕ) (u b : List ℕ) (h : IsNumber most end u b) → IsTrue (is_place most (h.n - 1)) × (u ≡ decimal (h.n - 1 + 1) ++ end ∷ b)
place_of most end u b h =
    let low = h.low in
    let same : h.n - 1 + 1 ≡ h.n = omega arith in
    (le-leb _ _ (subst (λ (k : ℕ). k ≤ most) (sym same) h.high), h.told ∙ ap (λ (k : ℕ). decimal k ++ end ∷ b) (sym same))

-- a step that the rest of its line stands for
pub record StepOf (letter : ℕ) (prune : Bool) (w v : List ℕ) : Type 0 where
  pub step : Step
  pub fits : IsTrue (step_fits step)
  pub is : is_prune step ≡ prune
  pub told : letter ∷ w ≡ step_text step ++ v

prune_chain : (w v v1 v2 v3 v4 v5 x low high c : List ℕ) → w ≡ 32 ∷ v1 → v1 ≡ x ++ 32 ∷ v2 → v2 ≡ low ++ 32 ∷ v3 → v3 ≡ high ++ 32 ∷ v4 → v4 ≡ c ++ 10 ∷ v5 → v5 ≡ v → w ≡ 32 ∷ (x ++ 32 ∷ (low ++ 32 ∷ (high ++ 32 ∷ (c ++ 10 ∷ v))))
prune_chain w v v1 v2 v3 v4 v5 x low high c a b d e f g = rw (a, b, d, e, f, g)

bound_chain : (w v v1 v2 v3 v4 x low high : List ℕ) → w ≡ 32 ∷ v1 → v1 ≡ x ++ 32 ∷ v2 → v2 ≡ low ++ 32 ∷ v3 → v3 ≡ high ++ 10 ∷ v4 → v4 ≡ v → w ≡ 32 ∷ (x ++ 32 ∷ (low ++ 32 ∷ (high ++ 10 ∷ v)))
bound_chain w v v1 v2 v3 v4 x low high a b d e g = rw (a, b, d, e, g)

pub prune_of : (m : ℕ) (w v : List ℕ) → Runs m prune_line w v → StepOf 112 true w v
prune_of m w v h =
    let a = h.2 in let b = a.2 in let c = b.2 in let d = c.2 in
    let x = place_of 500 32 h.0 a.0 a.1 in
    let y = place_of 20000 10 c.0 d.0 d.1 in
    let step : Step = Prune (record { 0 = a.1.n - 1 }) b.1.z c.1.z (record { 0 = d.1.n - 1 }) in
    record {
      step = step;
      fits = and_from _ _ (and_from _ _ (and_from _ _ x.0 b.1.fits) c.1.fits) y.0;
      is = refl;
      told = ap (λ (l : List ℕ). 112 ∷ l) (prune_chain w v _ _ _ _ _ _ _ _ _ h.1 x.1 b.1.told c.1.told y.1 d.2) ∙ sym (step_is step v);
    }

pub bound_of : (m : ℕ) (w v : List ℕ) → Runs m bound_line w v → StepOf 98 false w v
bound_of m w v h =
    let a = h.2 in let b = a.2 in let c = b.2 in
    let x = place_of 500 32 h.0 a.0 a.1 in
    let step : Step = Bound (record { 0 = a.1.n - 1 }) b.1.z c.1.z in
    record {
      step = step;
      fits = and_from _ _ (and_from _ _ x.0 b.1.fits) c.1.fits;
      is = refl;
      told = ap (λ (l : List ℕ). 98 ∷ l) (bound_chain w v _ _ _ _ _ _ _ h.1 x.1 b.1.told c.1.told c.2) ∙ sym (step_is step v);
    }

-- one more step in front
more_steps : (letter : ℕ) (prune : Bool) (w v r : List ℕ) (steps : List Step) (s : StepOf letter prune w v) → v ≡ steps_text steps ++ r → letter ∷ w ≡ steps_text (s.step ∷ steps) ++ r
more_steps letter prune w v r steps s e = s.told ∙ ap (λ (l : List ℕ). step_text s.step ++ l) e ∙ sym (append_assoc (step_text s.step) (steps_text steps) r)

optimum_told : (v : Option ℤ) (b : List ℕ) → 116 ∷ 114 ∷ 117 ∷ 101 ∷ (optimum_text v ++ b) ≡ outcome_text True v ++ b
optimum_told None b = refl
optimum_told (Some v) b = refl

pub outcome_back : (m : ℕ) (u b : List ℕ) → Choice m outcome_choices u b → IsOutcome u b
outcome_back m u b (inl h) =
    let r = bytes_then m (codes "rue") (optimum ∷ []) h.0 b h.2 in
    let o = r.2.1 in
    record {
      o = True;
      v = o.v;
      fits = o.fits;
      told =
          h.1 ∙ ap (λ (l : List ℕ). 116 ∷ l) (r.1 ∙ ap (λ (l : List ℕ). 114 ∷ 117 ∷ 101 ∷ l) (o.told ∙ ap (λ (l : List ℕ). optimum_text o.v ++ l) r.2.2)) ∙ optimum_told o.v b;
    }
outcome_back m u b (inr (inl h)) =
    let r = bytes_then m (codes "alse\n") [] h.0 b h.2 in
    record { o = False; v = None; fits = refl; told = h.1 ∙ ap (λ (l : List ℕ). 102 ∷ l) (r.1 ∙ ap (λ (l : List ℕ). codes "alse\n" ++ l) r.2) }
outcome_back m u b (inr (inr (inl h))) =
    let r = bytes_then m (codes "pen ") (number 10000000 10 ∷ []) h.0 b h.2 in
    let o = r.2.1 in
    record {
      o = Open o.n;
      v = None;
      fits = and_from (nat_le 1 o.n) (nat_le o.n 10000000) (le-leb 1 o.n o.low) (le-leb o.n 10000000 o.high);
      told =
          h.1 ∙ ap (λ (l : List ℕ). 111 ∷ l) (r.1 ∙ ap (λ (l : List ℕ). codes "pen " ++ l) (o.told ∙ ap (λ (l : List ℕ). decimal o.n ++ 10 ∷ l) r.2.2 ∙ sym (append_assoc (decimal o.n) (10 ∷ []) b)));
    }
outcome_back m u b (inr (inr (inr h))) = absurd h

pub optimum_back : (m : ℕ) (u b : List ℕ) → Choice m optimum_choices u b → IsOptimum u b
optimum_back m u b (inl h) = record { v = None; fits = refl; told = h.1 ∙ ap (λ (l : List ℕ). 10 ∷ l) h.2 }
optimum_back m u b (inr (inl h)) =
    let o = h.2.1 in
    record {
      v = Some o.z;
      fits = o.fits;
      told =
          h.1 ∙ ap (λ (l : List ℕ). 32 ∷ l) (o.told ∙ ap (λ (l : List ℕ). signed_decimal o.z ++ 10 ∷ l) h.2.2 ∙ sym (append_assoc (signed_decimal o.z) (10 ∷ []) b));
    }
optimum_back m u b (inr (inr h)) = absurd h

pub prune_back : (m : ℕ) (u b : List ℕ) → Choice m prune_choices u b → ArePrunes u b
prune_back m u b (inl h) =
    let r = runs_split m prune_line (prunes ∷ []) h.0 b h.2 in
    let s = prune_of m h.0 r.0 r.1 in
    let p = r.2.1 in
    record {
      steps = s.step ∷ p.steps;
      fit = and_from _ _ s.fits p.fit;
      are = and_from _ _ s.is p.are;
      told =
          h.1 ∙ more_steps 112 true h.0 r.0 (46 ∷ 10 ∷ b) p.steps s (p.told ∙ ap (λ (l : List ℕ). steps_text p.steps ++ 46 ∷ 10 ∷ l) r.2.2);
    }
prune_back m u b (inr (inl h)) = record { steps = []; fit = refl; are = refl; told = h.1 ∙ ap (λ (l : List ℕ). 46 ∷ l) (h.2.1 ∙ ap (λ (l : List ℕ). 10 ∷ l) h.2.2) }
prune_back m u b (inr (inr h)) = absurd h

-- a line of a letter alone
letter_line : (u w v b : List ℕ) (c : ℕ) → u ≡ c ∷ w → w ≡ 10 ∷ v → v ≡ b → u ≡ c ∷ 10 ∷ b
letter_line u w v b c h g e = rw (h, g, e)

pub ending_back : (m : ℕ) (ver : Version) (n : ℕ) (u b : List ℕ) → n ≤ m → Choice m (ending_choices ver n) u b → IsEnding m ver n u b
ending_back m ver n u b d (inl h) = record { end = empty; fits = refl; shallow = omega arith; told = letter_line u h.0 h.2.0 b 101 h.1 h.2.1 h.2.2 }
ending_back m ver n u b d (inr (inl h)) = record { end = barred; fits = refl; shallow = omega arith; told = letter_line u h.0 h.2.0 b 120 h.1 h.2.1 h.2.2 }
ending_back m ver n u b d (inr (inr (inl h))) =
    let t = h.2.2.1 in
    let s = t.shallow in
    record {
      end = next t.t;
      fits = t.fits;
      shallow = omega arith;
      told =
          letter_line u h.0 h.2.0 _ 110 h.1 h.2.1 (t.told ∙ ap (λ (l : List ℕ). tree_text t.t ++ l) h.2.2.2);
    }
ending_back m ver n u b d (inr (inr (inr (inl h)))) =
    let x = place_of 500 10 h.2.0 h.2.2.0 h.2.2.1 in
    let bs = h.2.2.2.1 in
    let s = bs.shallow in
    record {
      end = branch (record { 0 = h.2.2.1.n - 1 }) bs.bs;
      fits = and_from _ _ x.0 bs.fit;
      shallow = omega arith;
      told =
          h.1 ∙ ap (λ (l : List ℕ). 118 ∷ l) (h.2.1 ∙ ap (λ (l : List ℕ). 32 ∷ l) (x.1 ∙ ap (λ (l : List ℕ). decimal (h.2.2.1.n - 1 + 1) ++ 10 ∷ l) (bs.told ∙ ap (λ (l : List ℕ). branches_text bs.bs ++ 46 ∷ 10 ∷ l) h.2.2.2.2)))
          ∙ sym (branch_pieces (codes "v ") (decimal (h.2.2.1.n - 1 + 1)) (codes "\n") (branches_text bs.bs) (codes ".\n") b);
    }
ending_back m ver n u b d (inr (inr (inr (inr h)))) = absurd h

pub case_back : (m : ℕ) (ver : Version) (n : ℕ) (u b : List ℕ) → n ≤ m → Choice m (case_choices ver n) u b → AreCases m ver n u b
case_back m ver n u b d (inl h) =
    let r = runs_split m prune_line (cases ver n ∷ []) h.0 b h.2 in
    let s = prune_of m h.0 r.0 r.1 in
    let p = r.2.1 in
    record {
      steps = s.step ∷ p.steps;
      fit = and_from _ _ s.fits p.fit;
      rest = p.rest;
      end = subst (λ (l : List ℕ). IsEnding m ver n p.rest l) r.2.2 p.end;
      told =
          h.1 ∙ more_steps 112 true h.0 r.0 p.rest p.steps s p.told;
    }
case_back m ver n u b d (inr (inl h)) =
    let r = runs_split m bound_line (cases ver n ∷ []) h.0 b h.2 in
    let s = bound_of m h.0 r.0 r.1 in
    let p = r.2.1 in
    record {
      steps = s.step ∷ p.steps;
      fit = and_from _ _ s.fits p.fit;
      rest = p.rest;
      end = subst (λ (l : List ℕ). IsEnding m ver n p.rest l) r.2.2 p.end;
      told =
          h.1 ∙ more_steps 98 false h.0 r.0 p.rest p.steps s p.told;
    }
case_back m ver n u b d (inr (inr h)) = record { steps = []; fit = refl; rest = u; end = ending_back m ver n u b d h; told = refl }

-- cases, with their end
pub cases_told : (m : ℕ) (ver : Version) (n : ℕ) (u b : List ℕ) (h : AreCases m ver n u b) → u ≡ (steps_text h.steps ++ ending_text h.end.end) ++ b
cases_told m ver n u b h = h.told ∙ ap (λ (l : List ℕ). steps_text h.steps ++ l) h.end.told ∙ sym (append_assoc (steps_text h.steps) (ending_text h.end.end) b)

pub body_back : (m : ℕ) (ver : Version) (n : ℕ) (u b : List ℕ) → n ≤ m → Choice m (body_choices ver n) u b → IsBody m ver n u b
body_back m ver n u b d (inl h) = record { t = stuck; fits = refl; shallow = omega arith; told = letter_line u h.0 h.2.0 b 116 h.1 h.2.1 h.2.2 }
body_back m ver n u b d (inr (inl h)) = record { t = goal; fits = refl; shallow = omega arith; told = letter_line u h.0 h.2.0 b 103 h.1 h.2.1 h.2.2 }
body_back m ver n u b d (inr (inr h)) =
    let c = case_back m ver n u b d h in
    record { t = cases_body c.steps c.end.end; fits = and_from _ _ c.fit c.end.fits; shallow = c.end.shallow; told = cases_told m ver n u b c }

pub node_back : (m : ℕ) (ver : Version) (n : ℕ) (u b : List ℕ) → n ≤ m → Choice m (node_choices ver n) u b → IsNode m ver n u b
node_back m ver n u b d (inl h) =
    let x = place_of 65 10 h.2.0 h.2.2.0 h.2.2.1 in
    let p = h.2.2.2.1 in
    let t = h.2.2.2.2.1 in
    let z : Horizon = record { scope = record { 0 = h.2.2.1.n - 1 }; steps = p.steps } in
    record {
      t = tree (Some z) t.t;
      fits = and_from _ _ (and_from _ _ (and_from _ _ x.0 p.fit) p.are) t.fits;
      shallow = t.shallow;
      told =
          h.1 ∙ ap (λ (l : List ℕ). 104 ∷ l) (h.2.1 ∙ ap (λ (l : List ℕ). 32 ∷ l) (x.1 ∙ ap (λ (l : List ℕ). decimal (h.2.2.1.n - 1 + 1) ++ 10 ∷ l)
          (p.told ∙ ap (λ (l : List ℕ). steps_text p.steps ++ 46 ∷ 10 ∷ l) (t.told ∙ ap (λ (l : List ℕ). body_text t.t ++ l) h.2.2.2.2.2))))
          ∙ sym (node_pieces (codes "h ") (decimal (h.2.2.1.n - 1 + 1)) (codes "\n") (steps_text p.steps) (codes ".\n") (body_text t.t) b);
    }
node_back m ver n u b d (inr h) =
    let t = body_back m ver n u b d h in
    record { t = tree None t.t; fits = t.fits; shallow = t.shallow; told = t.told }

go_pieces_back : (s e r d : List ℕ) → s ++ (e ++ (r ++ d)) ≡ (s ++ e ++ r) ++ d
go_pieces_back s e r d = sym (go_pieces s e r d)

-- n + max a b within a limit
pub max_within : (m n a b : ℕ) → n + a ≤ m → n + b ≤ m → n + max a b ≤ m
max_within m n a b h g = grind (arith)

pub one_back : (m : ℕ) (ver : Version) (n : ℕ) (u b : List ℕ) → n ≤ m → Choice m (one_choices ver n) u b → IsCase m ver n u b
one_back m ver n u b d (inl h) = record { c = skip; fits = refl; shallow = omega arith; told = letter_line u h.0 h.2.0 b 115 h.1 h.2.1 h.2.2 }
one_back m ver n u b d (inr (inl h)) = record { c = left_open; fits = refl; shallow = omega arith; told = letter_line u h.0 h.2.0 b 111 h.1 h.2.1 h.2.2 }
one_back m ver n u b d (inr (inr h)) =
    let c = case_back m ver n u b d h in
    record { c = go c.steps c.end.end; fits = and_from _ _ c.fit c.end.fits; shallow = c.end.shallow; told = cases_told m ver n u b c }

-- a case, and the cases after it
with_case : (m : ℕ) (ver : Version) (n : ℕ) (upto : Option ℤ) (u v b : List ℕ) → IsTrue (upto_fits ver upto) → (c : IsCase m ver n u v) → (bs : AreBranches m ver n v b) → (w : List ℕ) → w ≡ upto_text upto ++ u → AreBranches m ver n w b
with_case m ver n upto u v b f c bs w e = record {
  bs = piece upto c.c bs.bs;
  fit = and_from _ _ (and_from _ _ f c.fits) bs.fit;
  shallow = max_within m n (case_depth c.c) (branch_depth bs.bs) c.shallow bs.shallow;
  told = e ∙ ap (λ (l : List ℕ). upto_text upto ++ l) (c.told ∙ ap (λ (l : List ℕ). case_text c.c ++ l) bs.told)
      ∙ go_pieces_back (upto_text upto) (case_text c.c) (branches_text bs.bs) (46 ∷ 10 ∷ b);
}

single_back : (m : ℕ) (ver : Version) (n : ℕ) (u b : List ℕ) → n ≤ m → Choice m (followed (one_choices ver n) (branches ver n)) u b → AreBranches m ver n u b
single_back m ver n u b d h =
    let r = choice_followed m (one_choices ver n) (branches ver n) u b h in
    with_case m ver n None u r.0 b refl (one_back m ver n u r.0 d r.1) r.2 u refl

range_line : (u w v z b h : List ℕ) → u ≡ 114 ∷ w → w ≡ 32 ∷ v → v ≡ h ++ 10 ∷ z → u ≡ (codes "r " ++ h ++ codes "\n") ++ z
range_line u w v z b h e f g = e ∙ ap (λ (l : List ℕ). 114 ∷ l) (f ∙ ap (λ (l : List ℕ). 32 ∷ l) (g ∙ sym (append_assoc h (10 ∷ []) z)))

ranges_back : (m : ℕ) (ver : Version) (n : ℕ) (u b : List ℕ) → n ≤ m → Choice m (with_range ver n (followed (one_choices ver n) (branches ver n))) u b → AreBranches m ver n u b
ranges_back m One n u b d h = single_back m One n u b d h
ranges_back m Two n u b d (inl h) =
    let z = h.2.2.1 in
    let c = h.2.2.2.1 in
    let bs = h.2.2.2.2.1 in
    subst (λ (l : List ℕ). AreBranches m Two n u l) h.2.2.2.2.2
    (with_case m Two n (Some z.z) _ _ _ z.fits c bs u (range_line u h.0 h.2.0 _ b (signed_decimal z.z) h.1 h.2.1 z.told))
ranges_back m Two n u b d (inr h) = single_back m Two n u b d h

pub branch_back : (m : ℕ) (ver : Version) (n : ℕ) (u b : List ℕ) → n ≤ m → Choice m (branch_choices ver n) u b → AreBranches m ver n u b
branch_back m ver n u b d (inl h) = record { bs = no_more; fit = refl; shallow = omega arith; told = letter_line u h.0 h.2.0 b 46 h.1 h.2.1 h.2.2 }
branch_back m ver n u b d (inr h) = ranges_back m ver n u b d h

told_of : (m c : ℕ) (u b w v x y : List ℕ) (o : IsOutcome v x) (t : List ℕ) → u ≡ c ∷ w → w ≡ 10 ∷ v → x ≡ t ++ y → y ≡ b → codes "qcert " ++ u ≡ codes "qcert " ++ c ∷ 10 ∷ (outcome_text o.o o.v ++ (t ++ b))
told_of m c u b w v x y o t e f g h = ap (λ (l : List ℕ). codes "qcert " ++ l) (e ∙ ap (λ (l : List ℕ). c ∷ l) (f ∙ ap (λ (l : List ℕ). 10 ∷ l) (o.told ∙ ap (λ (l : List ℕ). outcome_text o.o o.v ++ l) (g ∙ ap (λ (l : List ℕ). t ++ l) h))))

pub certificate_back : (m : ℕ) (u b : List ℕ) → Choice m certificate_choices u b → IsCertificate m u b
certificate_back m u b (inl h) =
    let o = h.2.2.1 in
    let t = h.2.2.2.1 in
    let s = t.shallow in
    record { ver = One; o = o.o; v = o.v; t = t.t; outcome = o.fits; fits = t.fits; shallow = omega (arith, s); told = told_of m 49 u b h.0 h.2.0 _ _ o (tree_text t.t) h.1 h.2.1 t.told h.2.2.2.2 }
certificate_back m u b (inr (inl h)) =
    let o = h.2.2.1 in
    let t = h.2.2.2.1 in
    let s = t.shallow in
    record { ver = Two; o = o.o; v = o.v; t = t.t; outcome = o.fits; fits = t.fits; shallow = omega (arith, s); told = told_of m 50 u b h.0 h.2.0 _ _ o (tree_text t.t) h.1 h.2.1 t.told h.2.2.2.2 }
certificate_back m u b (inr (inr h)) = absurd h
