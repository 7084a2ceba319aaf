-- What a way through a piece shows, and the answer by it.
use Rattle.std.proofs.Common.{◌≡◌, ◌≤◌, ◌<◌, ◌+◌, ◌*◌, ◌∙◌, inl, inr, ℕ, suc, Bool, true, false, cond, List, [], ◌∷◌, length, refl, sym, ap, subst, arith, Option, None, Some, ℤ}
use Rattle.std.specs.Prelude.{◌⊎◌}
use Rattle.std.specs.List.{list_all}
use Rattle.std.proofs.lemmas.Bool.{and_from}
use Rattle.qc_model.specs.declared.problem.Scope.{Scope}
use Rattle.qc_model.specs.Content.{Game}
use Rattle.qc_model.specs.Domains.{Box}
use Rattle.qc_model.specs.Verdict.{Verdict, lost, exact, at_most, unknown, Seen, is_exact}
use Rattle.proof_tree.specs.Counts.{opens_of, turns_of}
use Rattle.proof_tree.specs.Read.{read}
use Rattle.proof_tree.specs.Text.{outcome_fits}
use Rattle.proof_tree.specs.Tree.{Tree}
use Rattle.proof_tree.specs.declared.line.Line.{Line}
use Rattle.proof_tree.specs.declared.tree.Outcome.{Outcome}
use Rattle.proof_tree.specs.declared.tree.Outcome.TheVariants.{False, Open, True}
use Rattle.proof_tree.specs.declared.tree.Version.TheVariants.{Two}
use Rattle.joins.specs.Joins.{StandsAt}
use Rattle.joins.specs.Seen.{verdict_of}
use Rattle.joins.specs.Verdicts.{own_at, scope_own}
use Rattle.joins.specs.declared.joins.Joins.{Joins}
use Rattle.joins.specs.declared.leaves.Found.{Found}
use Rattle.search_parts.specs.Own.{IsOwnSized}
use Rattle.search_parts.specs.Settled.{beats_none, is_vague_verdict}
use Rattle.strategy_arena.specs.Certificate.{line_fits}
use Rattle.game_search.specs.Beside.{PieceTried, RootMade, RootPut}
use Rattle.game_search.specs.Pieces.{OpenIsSpent, PieceLines, is_no_better, leaf_at, optimum_beside, outcome_beside, own_beside, seen_at_root, verdict_beside}
use Rattle.game_search.specs.Solution.{outcome_by}
use Rattle.game_search.proofs.Rooted.{no_own}
use Rattle.game_search.proofs.Solved.{HaveFits, at_least}

-- ---- one way through a piece
-- without a scope there is no condition
nothing_own : (g : Game) (t : Tree) (box : Box) (reached : Option ℤ) → g.scopes ≡ [] → own_beside g t box reached ≡ None
nothing_own g t box None e = ap (λ ss. (read g t ss 0 [] box).own) e ∙ no_own g t 0 [] box
nothing_own g t box (Some r) e = ap (λ ss. scope_own ss g [] (leaf_at r ∷ seen_at_root g t box)) e

pub piece_tried : (cuts : Bool) (g : Game) (box : Box) (reached : Option ℤ) (turns left : ℕ) (old new : List Line) (joins : Joins) (found : Found) (vector : List ℤ) (own : Option ℤ) → old ≡ [] → RootPut cuts g box reached (verdict_of found vector) turns left old new joins →
    (0 < length g.scopes → (xs : List Seen) → StandsAt joins 0 xs → own ≡ own_at g 0 xs) → (length g.scopes ≡ 0 → own ≡ None) → PieceTried cuts g box reached turns found own new
piece_tried cuts g box reached turns left old new joins found vector own e w some none =
    let w0 = subst (λ ls. RootPut cuts g box reached (verdict_of found vector) turns left ls new joins) e w in
    record { left = left; vector = vector; tree = w0.tree; is_lines = w0.lines; made = w0.made; has_own = by g.scopes refl w0 }
  where
    by : (ss : List Scope) → g.scopes ≡ ss → (w : RootPut cuts g box reached (verdict_of found vector) turns left [] new joins) → own_beside g w.tree box reached ≡ own
    by [] q w = nothing_own g w.tree box reached q ∙ sym (none (ap length q))
    by (s ∷ ss) q w =
        let more : 0 < length g.scopes = omega (arith, ap length q) in
        let o = w.own more in
        o.is_own ∙ sym (some more o.stood o.stands)

-- ---- the answer
module _ (cuts : Bool) (g : Game) (box : Box) (reached : Option ℤ) (turns : ℕ) (some : 1 ≤ turns) (few : turns ≤ 10000000) where
  -- what is asked of the answer by itself
  abbrev Answers : Outcome → Option ℤ → Tree → Type 0
  Answers outcome optimum t = OpenIsSpent outcome turns t × (outcome_fits outcome optimum ≡ true)

  left_open : (v : Verdict) (own : Option ℤ) (left : ℕ) (t : Tree) → is_vague_verdict beats_none v ≡ true → own ≡ None → cuts ≡ false → RootMade cuts g box reached v turns left t → Answers (Open turns) own t
  left_open v own left t vague e uncut m =
      let some_open : ¬ (opens_of t ≡ 0) = λ o. let q : false ≡ true = sym (m.gap o) ∙ vague in absurd cc in
      let none_left : left ≡ 0 = spent_all m.opens some_open in
      let least = m.exact uncut in (
        record { all = refl; taken = omega (arith, m.spent, least, none_left); some = omega (arith, some_open) },
        ap (outcome_fits (Open turns)) e ∙ and_from _ _ (at_least 1 turns some) (at_least turns 10000000 few),
      )
    where
      spent_all : ((opens_of t ≡ 0) ⊎ (left ≡ 0)) → ¬ (opens_of t ≡ 0) → left ≡ 0
      spent_all (inl e) h = absurd (h e)
      spent_all (inr e) h = e

  by_verdict : (v : Verdict) (own : Option ℤ) (left : ℕ) (t : Tree) → (is_vague_verdict beats_none v ≡ true → cuts ≡ false) → (is_exact v ≡ false → own ≡ None) → IsOwnSized (1000000000 + suc (2 * turns_of t)) own → RootMade cuts g box reached v turns left t → Answers (outcome_by v turns) own t
  by_verdict lost own left t surely none small m = (tt, ap (outcome_fits False) (none refl))
  by_verdict (exact u) own left t surely none small m = (tt, fits own small)
    where
      fits : (o : Option ℤ) → IsOwnSized (1000000000 + suc (2 * turns_of t)) o → outcome_fits True o ≡ true
      fits None h = refl
      fits (Some o) h = at_least _ _ (omega (arith, h, m.spent, few))
  by_verdict (at_most n) own left t surely none small m = left_open (at_most n) own left t refl (none refl) (surely refl) m
  by_verdict unknown own left t surely none small m = left_open unknown own left t refl (none refl) (surely refl) m

  answered : (v : Verdict) (own : Option ℤ) (left : ℕ) (t : Tree) → (is_vague_verdict beats_none v ≡ true → cuts ≡ false) → (is_exact v ≡ false → own ≡ None) → IsOwnSized (1000000000 + suc (2 * turns_of t)) own → RootMade cuts g box reached v turns left t → Answers (outcome_beside reached own v turns) (optimum_beside reached own) t
  answered v own left t surely none small m = by (is_no_better reached own)
    where
      by : (b : Bool) → Answers (cond b False (outcome_by v turns)) (cond b None own) t
      by true = (tt, refl)
      by false = by_verdict v own left t surely none small m

  pub piece_lines : HaveFits → (found : Found) (own : Option ℤ) (outcome : Outcome) (optimum : Option ℤ) (shown lines : List Line) → ((v : List ℤ) → is_vague_verdict beats_none (verdict_of found v) ≡ true → cuts ≡ false) → PieceTried cuts g box reached turns found own shown →
      ((v : List ℤ) → outcome ≡ outcome_beside reached own (verdict_of found v) turns) → optimum ≡ optimum_beside reached own → lines ≡ shown → PieceLines g box reached turns outcome optimum lines
  piece_lines fitting found own outcome optimum shown lines surely a states best same =
      let t = a.tree in
      let m = a.made in
      let v = verdict_of found a.vector in
      let here = own_beside g t box reached in
      let comes = verdict_beside g t box reached in
      let says : outcome ≡ outcome_beside reached here comes turns =
      states a.vector ∙ (ap (λ o. outcome_beside reached o v turns) (sym a.has_own) ∙ ap (λ u. outcome_beside reached here u turns) (sym m.verdict)) in
      let tells : optimum ≡ optimum_beside reached here = best ∙ ap (optimum_beside reached) (sym a.has_own) in
      let all = answered v here a.left t (surely a.vector) m.known m.small m in
      let meant = subst (λ u. Answers (outcome_beside reached here u turns) (optimum_beside reached here) t) (sym m.verdict) all in
      let ends = subst (λ o. Answers outcome o t) (sym tells) (subst (λ c. Answers c (optimum_beside reached here) t) (sym says) meant) in
      record {
        tree = t;
        is_lines = same ∙ a.is_lines;
        fits = subst (λ ls. list_all line_fits ls ≡ true) (sym (same ∙ a.is_lines)) (fitting Two t m.fits);
        piece = record {
          placed = m.placed;
          states = says;
          best = tells;
          lasts = m.lasts;
          ones = m.ones;
          apart = m.apart;
          settled = m.settled;
          closed = m.closed;
          foreseen = m.foreseen;
          incumbents = m.incumbents;
          few = omega (arith, m.spent);
          spent = ends.0;
          head = ends.1;
        };
      }
