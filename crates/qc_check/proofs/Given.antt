-- What a space takes, one line or list after the other.
use Rattle.std.proofs.Common.{◌≡◌, ◌≤◌, ◌<◌, ◌+◌, ◌∙◌, ℕ, zero, suc, Bool, true, false, ◌&&◌, List, [], ◌∷◌, ◌++◌, length, map, get_or, drop, refl, sym, ap, subst, arith, append-nil, append_assoc, length-drop, Option, Some, None}
use Rattle.std.specs.Prelude.{nat_le}
use Rattle.std.proofs.lemmas.Bool.Decides.{nat_tests}
use Rattle.std.proofs.lemmas.List.{drop_more}
use Rattle.qc_model.specs.declared.problem.Scope.{Scope}
use Rattle.qc_model.specs.Content.{Game}
use Rattle.qc_model.specs.Valid.{IsValid}
use Rattle.qc_model.specs.Demands.{demands}
use Rattle.proof_tree.specs.declared.tree.Step.{Step}
use Rattle.proof_tree.specs.declared.tree.Piece.{Piece}
use Rattle.proof_tree.specs.Shape.{branches_of, case_of}
use Rattle.proof_tree.specs.Counts.{branch_weight}
use Rattle.proof_tree.specs.Lines.{step_line, upto_lines, case_lines, branches_lines}
use Rattle.proof_tree.specs.declared.line.Line.{Line}
use Rattle.proof_tree.specs.declared.line.Line.TheVariants.{Horizon}
use Rattle.check_lines.specs.declared.machine.Machine.{Machine}
use Rattle.check_lines.specs.Awaited.{Awaited, node_awaited, prune_awaited, body_awaited, part_awaited, case_awaited, ranged_awaited, none_awaited}
use Rattle.check_lines.specs.State.{may_see}
use Rattle.check_lines.specs.Ledger.{Ledger, goes, goes_at, only_ledger}
use Rattle.check_lines.specs.LedgerHeld.{first_ledger, goes_through}
use Rattle.check_lines.specs.Machine.{game_of, base_of, IsBaseOf, CanBegin}
use Rattle.check_lines.specs.Telling.{Tells, TellsAfter}
use Rattle.check_lines.specs.LedgerSizes.{KeepsSizesAt}
use Rattle.check_lines.specs.EndSizes.{ends_after, ends_through, EndsAt}
use Rattle.check_lines.proofs.LedgerSizes.{verdict_laws}
use Rattle.check_lines.proofs.EndSizes.{ends_one, first_ends, sizes_from}
use Rattle.check_lines.specs.Found.{Answers}
use Rattle.check_lines.specs.declared.answer.Answer.{Answer}
use Rattle.qc_check.specs.declared.space.Space.{Space}
use Rattle.qc_check.specs.Giving.{TellsLines, WasGivenLines, Takes}
use Rattle.qc_check.proofs.Steps.{goes_more}
use Rattle.qc_check.proofs.TreeEnds.{through_join, ends_grow}

-- no lines
pub takes_none : (s : Space) → Takes s s []
takes_none s = record {
  same = refl;
  base = refl;
  given = λ before h. subst (WasGivenLines s.machine) (sym (append-nil before)) h;
}

-- some, and then more
pub takes_both : (a b c : Space) (xs ys : List Line) → Takes a b xs → Takes b c ys → Takes a c (xs ++ ys)
takes_both a b c xs ys h k = record {
  same = k.same ∙ h.same;
  base = k.base ∙ h.base;
  given = λ before g. subst (WasGivenLines c.machine) (append_assoc before xs ys) (k.given (before ++ xs) (h.given before g));
}

abbrev pub first_of : Game → Option Ledger
first_of g = Some (first_ledger g)

-- what is told of the lines is the same of a machine for the same game
told_of : (b : Machine) (g : Game) (n : ℕ) (p : Option Ledger) (lines : List Line) → game_of b ≡ g → n ≡ ends_through 0 lines → p ≡ goes_through g (first_of g) lines →
    TellsAfter (n + 64) b p → EndsAt g n p → TellsLines b lines
told_of b g n p lines same count is tells ends = record {
  tells = subst (λ u. TellsAfter (ends_through 0 lines + 64) b (goes_through u (first_of u) lines)) (sym same)
      (subst (λ k. TellsAfter (k + 64) b (goes_through g (first_of g) lines)) count (subst (TellsAfter (n + 64) b) is tells));
  ends = subst (λ u. EndsAt u (ends_through 0 lines) (goes_through u (first_of u) lines)) (sym same)
      (subst (λ k. EndsAt g k (goes_through g (first_of g) lines)) count (subst (EndsAt g n) is ends));
}

-- one line
pub takes_line : (a b : Space) (line : Line) → IsValid (game_of a.machine) → game_of b.machine ≡ game_of a.machine → base_of b.machine ≡ base_of a.machine →
    ((i : ℕ) (p : Option Ledger) → i < 4294967296 → TellsAfter i a.machine p → TellsAfter (suc i) b.machine (goes (game_of a.machine) p line)) → Takes a b (line ∷ [])
takes_line a b line valid same base taken = record {
  same = same;
  base = base;
  given = λ before h few.
      let g = game_of a.machine in
      let e = ends_through 0 before in
      let through : ends_through 0 (before ++ line ∷ []) ≡ ends_after e line = through_join 0 before (line ∷ []) in
      let grows = ends_grow e line in
      let w = h (omega (arith, few, through, grows)) in
      let p = goes_through g (first_of g) before in
      let told = taken (e + 64) p (omega (arith, few, through, grows)) w.tells in
      let ends = ends_one g valid (verdict_laws g valid) (e + 64) e p line w.tells.sizes w.ends in
      let sizes = sizes_from g (suc (e + 64)) (ends_after e line) (ends_after e line + 64) (goes g p line) (omega (arith, valid.few_scopes)) (subst (λ u. KeepsSizesAt u (suc (e + 64)) (goes g p line)) same told.sizes) ends in
      told_of b.machine g (ends_after e line) (goes g p line) (before ++ line ∷ []) same (sym through) (sym (goes_more g (first_of g) before line))
      record { tells = told.tells; sizes = subst (λ u. KeepsSizesAt u (ends_after e line + 64) (goes g p line)) (sym same) sizes } ends;
}

-- a line that does the same as another
pub takes_like : (a b : Space) (line other : Line) → ((n : ℕ) → ends_after n line ≡ ends_after n other) → ((p : Option Ledger) → goes (game_of a.machine) p line ≡ goes (game_of a.machine) p other) → Takes a b (line ∷ []) →
    Takes a b (other ∷ [])
takes_like a b line other alike like h = record {
  same = h.same;
  base = h.base;
  given = λ before w few.
      let g = game_of a.machine in
      let e = ends_through 0 before in
      let long : ends_through 0 (before ++ line ∷ []) ≡ ends_through 0 (before ++ other ∷ []) = through_join 0 before (line ∷ []) ∙ (alike e ∙ sym (through_join 0 before (other ∷ []))) in
      let goes_so : goes_through g (first_of g) (before ++ line ∷ []) ≡ goes_through g (first_of g) (before ++ other ∷ []) =
      goes_more g (first_of g) before line ∙ (like (goes_through g (first_of g) before) ∙ sym (goes_more g (first_of g) before other)) in
      let k = h.given before w (omega (arith, few, long)) in
      told_of b.machine g (ends_through 0 (before ++ line ∷ [])) (goes_through g (first_of g) (before ++ line ∷ [])) (before ++ other ∷ []) h.same long goes_so
      (subst (λ u. TellsAfter (ends_through 0 (before ++ line ∷ []) + 64) b.machine (goes_through u (first_of u) (before ++ line ∷ []))) h.same k.tells)
      (subst (λ u. EndsAt u (ends_through 0 (before ++ line ∷ [])) (goes_through u (first_of u) (before ++ line ∷ []))) h.same k.ends);
}

pub gone : {X : Type 0} (xs : List X) (i : ℕ) → length xs ≤ i → drop i xs ≡ []
gone [] zero h = refl
gone [] (suc i) h = refl
gone (x ∷ xs) zero h = absurd (omega arith)
gone (x ∷ xs) (suc i) h = gone xs i (omega arith)

-- one step of several
pub step_taken : (a b end : Space) (steps : List Step) (i : ℕ) (d : Step) → i < length steps → Takes a b (step_line (get_or steps i d) ∷ []) → Takes b end (map step_line (drop (i + 1) steps)) → Takes a end (map step_line (drop i steps))
step_taken a b end steps i d h one more = subst (λ xs. Takes a end (map step_line xs)) (sym (drop_more steps i d h)) (takes_both a b end _ _ one more)

pub steps_end : (a : Space) (steps : List Step) (i : ℕ) → length steps ≤ i → Takes a a (map step_line (drop i steps))
steps_end a steps i h = subst (λ xs. Takes a a (map step_line xs)) (sym (gone steps i h)) (takes_none a)

-- one case of several
pub piece_taken : (a b c end : Space) (ps : List Piece) (i : ℕ) (d : Piece) → i < length ps → Takes a b (upto_lines (get_or ps i d).upto) → Takes b c (case_lines (case_of (get_or ps i d).case)) →
    Takes c end (branches_lines (branches_of (drop (i + 1) ps))) → Takes a end (branches_lines (branches_of (drop i ps)))
piece_taken a b c end ps i d h upto case more =
    subst (λ xs. Takes a end (branches_lines (branches_of xs))) (sym (drop_more ps i d h)) (takes_both a c end _ _ (takes_both a b c _ _ upto case) more)

pub less_more : (ps : List Piece) (i : ℕ) (d : Piece) → i < length ps → branch_weight (branches_of (drop (i + 1) ps)) ≤ branch_weight (branches_of (drop i ps))
less_more ps i d h = let e = ap (λ xs. branch_weight (branches_of xs)) (drop_more ps i d h) in omega (arith, e)

pub pieces_end : (a : Space) (ps : List Piece) (i : ℕ) → length ps ≤ i → Takes a a (branches_lines (branches_of (drop i ps)))
pieces_end a ps i h = subst (λ xs. Takes a a (branches_lines (branches_of xs))) (sym (gone ps i h)) (takes_none a)

never : (a b c : Bool) → b ≡ false → (a && b && c) ≡ false
never true false c e = refl
never false false c e = refl
never a true c e = cc

too_far : (i n k : ℕ) → i + n < k → nat_le k (i + n) ≡ false
too_far i n k h = grind (arith, nat_tests)

-- a horizon beyond the goal may not stand anywhere
far_seen : (later : List Scope) (i k : ℕ) (d : List _) (h : Option ℕ) → (0 < length later → i + length later < k) → may_see k (record { later = later; number = i; demands = d; horizon = h }) ≡ false
far_seen [] i k d h far = refl
far_seen (s ∷ later) i k d h far = never (nat_le i k) (nat_le k (i + suc (length later))) _ (too_far i (suc (length later)) k (far (omega arith)))

-- and does the same as one at no scope
pub far_horizon : (g : Game) → length g.scopes ≤ 64 → (k : ℕ) → 64 < k → (p : Option Ledger) → goes g p (Horizon 0) ≡ goes g p (Horizon (suc k))
far_horizon g few k far None = refl
far_horizon g few k far (Some d) = by d.awaited
  where
    beyond : 0 < length (drop d.number g.scopes) → d.number + length (drop d.number g.scopes) < k
    beyond h = let e = length-drop d.number g.scopes in omega (arith, h, e, few, far)

    by : (u : Awaited) → goes_at g d u (Horizon 0) ≡ goes_at g d u (Horizon (suc k))
    by node_awaited = sym (ap (λ b. only_ledger b (record d { awaited = prune_awaited k d.box })) (far_seen (drop d.number g.scopes) d.number k (demands g d.number) d.horizon beyond))
    by (prune_awaited j box) = refl
    by body_awaited = refl
    by part_awaited = refl
    by case_awaited = refl
    by (ranged_awaited high) = refl
    by none_awaited = refl

-- a machine that can begin again can do so after lines
pub still_free : (m w : Machine) → game_of w ≡ game_of m → base_of w ≡ base_of m → CanBegin m → CanBegin w
still_free m w same base h = subst (λ g. IsBaseOf g (base_of w)) (sym same) (subst (IsBaseOf (game_of m)) (sym base) h)

-- all lines, from the first on
pub given_all : (a b : Space) (g : Game) (lines : List Line) → IsValid g → game_of a.machine ≡ g → TellsAfter 0 a.machine (first_of g) → Takes a b lines → WasGivenLines b.machine lines
given_all a b g lines valid same tells h =
    let ends : EndsAt g 0 (first_of g) = first_ends g in
    let sizes = sizes_from g 0 0 64 (first_of g) (omega (arith, valid.few_scopes)) (subst (λ u. KeepsSizesAt u 0 (first_of g)) same tells.sizes) ends in
    h.given [] (λ few. told_of a.machine g 0 (first_of g) [] same refl refl record { tells = tells.tells; sizes = subst (λ u. KeepsSizesAt u 64 (first_of g)) (sym same) sizes } ends)

-- what they come to
pub come_to : (b : Space) (g : Game) (lines : List Line) (found : Option Answer) → game_of b.machine ≡ g → WasGivenLines b.machine lines → ends_through 0 lines ≤ 1073741824 → ((p : Option Ledger) → Tells b.machine p → Answers found p) →
    Answers found (goes_through g (first_of g) lines)
come_to b g lines found same h few says = subst (λ u. Answers found (goes_through u (first_of u) lines)) same (says _ (h few).tells.tells)
