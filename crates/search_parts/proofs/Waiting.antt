-- A case of a branch that was searched before those that stand before it: its lines wait aside, and come into their place behind
-- theirs. So where bounds speak of nothing, and the case ends nothing.
use Rattle.std.proofs.Common.{map, ◌≡◌, ◌<◌, ◌≤◌, ◌+◌, ◌*◌, ◌-◌, ℕ, suc, true, false, List, [], ◌∷◌, ◌++◌, length, drop, refl, sym, ap, ◌∙◌, subst, arith, Option, None, take, Bool, inl, inr}
use Rattle.std.specs.Prelude.{ℤ, ◌⊎◌}
use Rattle.std.specs.List.{list_all}
use Rattle.std.proofs.lemmas.List.{append-nil}
use Rattle.qc_model.specs.declared.problem.Condition.{Condition}
use Rattle.qc_model.specs.declared.problem.Scope.{Scope}
use Rattle.qc_model.specs.Content.{Game}
use Rattle.qc_model.specs.Domains.{Box, Values, values_left, is_none_left}
use Rattle.qc_model.specs.Valid.{is_number}
use Rattle.qc_model.specs.Verdict.{Seen, seen_skipped}
use Rattle.proof_tree.specs.Tree.{Ending, Branches, piece, go}
use Rattle.proof_tree.specs.Counts.{ending_turns, ending_opens}
use Rattle.proof_tree.specs.Cover.{box_to, is_cover, uncovered}
use Rattle.proof_tree.specs.Place.{list_after}
use Rattle.proof_tree.specs.Lines.{step_line, upto_lines, ending_lines}
use Rattle.proof_tree.specs.declared.line.Line.{Line}
use Rattle.proof_tree.specs.declared.line.Line.TheVariants.{Skip, Open}
use Rattle.proof_tree.specs.declared.tree.Step.{Step}
use Rattle.joins.specs.Sizes.{HasSizes}
use Rattle.joins.specs.Verdicts.{scope_wishes}
use Rattle.search_parts.specs.Settled.{is_settled, is_ended}
use Rattle.search_parts.specs.Uppers.{upto_all}
use Rattle.search_parts.specs.Made.{CasesMade, PartMade}
use Rattle.search_parts.specs.Written.{CasesWritten, PartWritten}
use Rattle.search_parts.proofs.Branching.{go_made, cut_more}
use Rattle.search_parts.proofs.Elsewhere.{part_after_more, part_beside, part_turns}
use Rattle.search_parts.specs.Progress.{Progress}
use Rattle.search_parts.proofs.Progress.{start, taken_from, opened, cut_here, cut_lines, drop_front, sizes_with}
use Rattle.search_parts.proofs.Sizes.{sizes_none}
use Rattle.search_parts.proofs.Stepping.{part_sizes}

-- the case of v waits, in which this was seen (aside) and which has these lines (kept). The cases for the values here are owed, that
-- of v among them; what was seen in those that stand so far, the turns that are left and the lines are at seen, left and now
pub record Waiting (cuts : Bool) (above : ℤ → Bool) (g : Game) (later : List Scope) (i : ℕ) (d : List Condition) (box : Box) (h : Option ℕ) (x : ℕ) (vs : Values) (before : List Seen) (had : ℕ) (old : List Line)
    (v : ℤ) (aside : List Seen) (kept : List Line) (here : Values) (seen : List Seen) (left : ℕ) (now : List Line) : Type 0 where
  -- it was searched after what was seen before the branch
  pub ms : List ℤ
  pub steps : List Step
  pub ending : Ending
  pub begun : ℕ
  pub rest : ℕ
  pub made : PartMade cuts above g later i d (box_to box x (v ∷ [])) h before ms aside begun rest steps ending
  pub lines : kept ≡ map step_line steps ++ ending_lines ending
  -- it took so many turns; where some are left, none of its cases is open
  pub took : ℕ
  pub turns : suc (ending_turns ending) ≤ took
  pub fell : left + took ≤ had
  pub whole : ¬ (left ≡ 0) → ending_opens ending ≡ 0
  -- those before it go on as if its turns were still to come
  pub goes : ¬ (left ≡ 0) → Progress cuts above g later i d box h x vs before had old here seen (left + took) now

none_open : (e : Ending) (n : ℕ) → ((ending_opens e ≡ 0) ⊎ (n ≡ 0)) → ¬ (n ≡ 0) → ending_opens e ≡ 0
none_open e n (inl z) some = z
none_open e n (inr z) some = absurd (some z)

module _ (cuts : Bool) (above : ℤ → Bool) (g : Game) (later : List Scope) (i : ℕ) (d : List Condition) (box : Box) (h : Option ℕ) (x : ℕ) (vs : Values) (before : List Seen) (had : ℕ) (old : List Line) where
  abbrev At : Values → List Seen → ℕ → List Line → Type 0
  At here seen left now = Progress cuts above g later i d box h x vs before had old here seen left now

  abbrev Waits : ℤ → List Seen → List Line → Values → List Seen → ℕ → List Line → Type 0
  Waits v aside kept here seen left now = Waiting cuts above g later i d box h x vs before had old v aside kept here seen left now

  abbrev Whole : List Seen → ℕ → List Line → Type 0
  Whole seen last new = CasesWritten cuts above g later i d box h x vs before seen had last old new

  abbrev Settled : List Seen → Bool
  Settled seen = is_settled later (list_after g later d) seen

  abbrev Ended : List Seen → Bool
  Ended seen = is_ended above later (list_after g later d) seen

  -- a part in the case of y, after what was seen before it
  abbrev PartOf : ℤ → List Seen → List ℤ → List Seen → ℕ → ℕ → List Line → List Line → Type 0
  PartOf y seen ms more left last now new = PartWritten cuts above g later i d (box_to box x (y ∷ [])) h seen ms more left last now new

  -- with the cases behind it it makes the cases from it on
  pub stands_behind : cuts ≡ true → scope_wishes later g d ≡ [] → (v : ℤ) (rest : Values) (seen : List Seen) (ms : List ℤ) (aside others : List Seen) (begun stopped more left last : ℕ) (steps : List Step) (e : Ending) (bs : Branches) → 1 < length (values_left box x) → ending_opens e ≡ 0 → ending_turns e + left ≤ more →
      PartMade cuts above g later i d (box_to box x (v ∷ [])) h before ms aside begun stopped steps e → CasesMade cuts above g later i d box h x rest (Settled aside) ((before ++ seen) ++ aside) others left last bs →
      CasesMade cuts above g later i d box h x (v ∷ rest) false (before ++ seen) (aside ++ others) (1 + more) last (piece None (go steps e) bs)
  stands_behind cut nothing v rest seen ms aside others begun stopped more left last steps e bs many whole paid p r =
      let at = box_to box x (v ∷ []) in
      let moved = part_after_more cuts above g later i d at h before seen ms aside begun stopped steps e nothing p in
      go_made cuts above g later i d box h x v rest (before ++ seen) ms aside others more left last steps e bs many (part_turns cuts above g later i d at h (before ++ seen) ms aside begun stopped more left steps e cut paid (inl whole) moved) r

  -- turns may have gone for nothing, where the search cuts
  pub start_less : cuts ≡ true → (left : ℕ) → left ≤ had → At vs [] left old
  start_less cut left l = record {
    used = 0;
    fell = omega (arith, l);
    sizes = sizes_none 0;
    written = [];
    now_is = sym (append-nil old);
    ends = λ bs rest last new m e. record {
      cases = bs;
      lines = e;
      made = cut_more cuts above g later i d box h x vs false before rest left had last bs cut l (subst (λ xs. CasesMade cuts above g later i d box h x vs false xs rest left last bs) (append-nil before) m);
    };
  }

  -- the case was searched first
  pub waits : (v : ℤ) (ms : List ℤ) (aside : List Seen) (next_left : ℕ) (now next_now kept : List Line) → ¬ (had ≡ 0) → PartOf v before ms aside (had - 1) next_left now next_now → kept ≡ drop (length now) next_now → Waits v aside kept vs [] next_left old
  waits v ms aside next_left now next_now kept some w e =
      let spent = w.made.ended.spent in
      record {
        ms = ms;
        steps = w.steps;
        ending = w.ending;
        begun = had - 1;
        rest = next_left;
        made = w.made;
        lines = e ∙ (ap (drop (length now)) w.lines ∙ drop_front now (map step_line w.steps ++ ending_lines w.ending));
        took = had - next_left;
        turns = less (ending_turns w.ending) had next_left some spent;
        fell = all_of (ending_turns w.ending) had next_left some spent;
        whole = λ n. none_open w.ending next_left w.made.ended.opens n;
        goes = λ n. subst (λ m. At vs [] m old) (both (ending_turns w.ending) had next_left some spent) (start cuts above g later i d box h x vs before had old);
      }
    where
      less : (t m n : ℕ) → ¬ (m ≡ 0) → t + n ≤ m - 1 → suc t ≤ m - n
      less t m n some p = omega arith

      all_of : (t m n : ℕ) → ¬ (m ≡ 0) → t + n ≤ m - 1 → n + (m - n) ≤ m
      all_of t m n some p = omega arith

      both : (t m n : ℕ) → ¬ (m ≡ 0) → t + n ≤ m - 1 → m ≡ n + (m - n)
      both t m n some p = omega arith

  -- a case that stands before it is gone into, after what was seen in it
  pub goes_on : cuts ≡ true → scope_wishes later g d ≡ [] → (v : ℤ) (aside : List Seen) (kept : List Line) (here rest : Values) (y : ℤ) (seen : List Seen) (ms : List ℤ) (more : List Seen) (left next_left : ℕ) (now next_now : List Line) → 1 < length (values_left box x) → here ≡ y ∷ rest → Ended aside ≡ false → Settled seen ≡ false → ¬ (left ≡ 0) →
      Waits v aside kept here seen left now → PartOf y (before ++ (aside ++ seen)) ms more (left - 1) next_left now next_now → Waits v aside kept rest (seen ++ more) next_left next_now
  goes_on cut nothing v aside kept here rest y seen ms more left next_left now next_now many e vain not_yet some p w =
      let spent = w.made.ended.spent in
      record {
        ms = p.ms;
        steps = p.steps;
        ending = p.ending;
        begun = p.begun;
        rest = p.rest;
        made = p.made;
        lines = p.lines;
        took = p.took;
        turns = p.turns;
        fell = fewer (ending_turns w.ending) left next_left p.took had some spent p.fell;
        whole = λ n. p.whole some;
        goes = λ n.
            let at = box_to box x (y ∷ []) in
            let beside = part_beside cuts above g later i d at h before aside seen ms more (left - 1) next_left w.steps w.ending nothing vain w.made in
            let turned = part_turns cuts above g later i d at h (before ++ seen) ms more (left - 1) next_left ((left + p.took) - 1) (next_left + p.took) w.steps w.ending cut (later_turns (ending_turns w.ending) left next_left p.took some spent)
            (inl (none_open w.ending next_left w.made.ended.opens n)) beside in
            taken_from cuts above g later i d box h x vs before had old here rest y seen ms more (left + p.took) (next_left + p.took) now next_now many e not_yet (λ z. some (omega (arith, z))) (p.goes some)
            (record { steps = w.steps; ending = w.ending; lines = w.lines; made = turned });
      }
    where
      fewer : (t l n k m : ℕ) → ¬ (l ≡ 0) → t + n ≤ l - 1 → l + k ≤ m → n + k ≤ m
      fewer t l n k m some p q = omega arith

      later_turns : (t l n k : ℕ) → ¬ (l ≡ 0) → t + n ≤ l - 1 → t + (n + k) ≤ (l + k) - 1
      later_turns t l n k some p = omega arith

  -- it comes into its place
  pub comes_back : cuts ≡ true → scope_wishes later g d ≡ [] → (v : ℤ) (aside : List Seen) (kept : List Line) (here rest : Values) (seen : List Seen) (left : ℕ) (now new : List Line) → 1 < length (values_left box x) → here ≡ v ∷ rest → Settled seen ≡ false → ¬ (left ≡ 0) →
      Waits v aside kept here seen left now → new ≡ now ++ kept → At rest (seen ++ aside) left new
  comes_back cut nothing v aside kept here rest seen left now new many e not_yet some p f =
      let at = box_to box x (v ∷ []) in
      let moved = part_after_more cuts above g later i d at h before seen p.ms aside p.begun p.rest p.steps p.ending nothing p.made in
      let turned = part_turns cuts above g later i d at h (before ++ seen) p.ms aside p.begun p.rest ((left + p.took) - 1) left p.steps p.ending cut (paid (ending_turns p.ending) left p.took p.turns) (inl (p.whole some)) moved in
      taken_from cuts above g later i d box h x vs before had old here rest v seen p.ms aside (left + p.took) left now new many e not_yet (λ z. some (omega (arith, z))) (p.goes some)
      (record { steps = p.steps; ending = p.ending; lines = f ∙ ap (λ ls. now ++ ls) p.lines; made = turned })
    where
      paid : (t l k : ℕ) → suc t ≤ k → t + l ≤ (l + k) - 1
      paid t l k p = omega arith

  -- another case settles the scope by itself, and stands behind one that skips those before it
  pub settles_over : cuts ≡ true → list_all is_number vs ≡ true → (u : Option ℤ) (v : ℤ) (aside : List Seen) (kept : List Line) (here rest : Values) (y : ℤ) (seen : List Seen) (ms : List ℤ) (more : List Seen) (left next_left : ℕ) (now next_now new : List Line) → 1 < length (values_left box x) →
      is_cover u vs ≡ true → uncovered u vs ≡ y ∷ rest → Settled more ≡ true → ¬ (left ≡ 0) → Waits v aside kept here seen left now → PartOf y (before ++ (aside ++ seen)) ms more (left - 1) next_left now next_now →
      new ≡ take (length old) next_now ++ ((upto_lines u ++ Skip ∷ []) ++ drop (length now) next_now) → At rest (seen_skipped ∷ more) next_left new
  settles_over cut numbers u v aside kept here rest y seen ms more left next_left now next_now new many case leaves settled some p w q =
      let a = p.goes some in
      cut_here cuts above g later i d box h x vs before had old cut numbers u rest y (aside ++ seen) ms more left next_left now next_now new many case leaves settled some (omega (arith, p.fell)) w
      (cut_lines old now next_now new a.written (map step_line w.steps ++ ending_lines w.ending) (upto_lines u ++ Skip ∷ []) a.now_is w.lines q)

  -- so the first of all
  pub settles_first : cuts ≡ true → scope_wishes later g d ≡ [] → (v : ℤ) (aside : List Seen) (kept : List Line) (rest : Values) (y : ℤ) (ms : List ℤ) (more : List Seen) (left next_left : ℕ) (next_now : List Line) → 1 < length (values_left box x) → vs ≡ y ∷ rest → Ended aside ≡ false → Settled [] ≡ false → ¬ (left ≡ 0) →
      Waits v aside kept vs [] left old → PartOf y (before ++ (aside ++ [])) ms more (left - 1) next_left old next_now → At rest more next_left next_now
  settles_first cut nothing v aside kept rest y ms more left next_left next_now many e vain not_yet some p w =
      let at = box_to box x (y ∷ []) in
      taken_from cuts above g later i d box h x vs before had old vs rest y [] ms more left next_left old next_now many e not_yet some (start_less cut left (omega (arith, p.fell)))
      (record { steps = w.steps; ending = w.ending; lines = w.lines; made = part_beside cuts above g later i d at h before aside [] ms more (left - 1) next_left w.steps w.ending nothing vain w.made })

  -- no turn is left: all is left open
  pub gives_up : cuts ≡ true → (new : List Line) → is_none_left vs ≡ false → list_all is_number vs ≡ true → new ≡ old ++ (upto_lines (upto_all vs) ++ Open ∷ []) → Whole (seen_skipped ∷ []) 0 new
  gives_up cut new some numbers q = opened cuts above g later i d box h x vs before had old vs [] 0 old new some numbers refl (start_less cut 0 (omega arith)) q

  -- how large is what was seen
  pub record Room (aside seen : List Seen) (left : ℕ) : Type 0 where
    pub used : ℕ
    pub fell : used + left ≤ had
    pub sizes : HasSizes (2 * used) (aside ++ seen)

  pub waiting_sizes : (v : ℤ) (aside : List Seen) (kept : List Line) (here : Values) (seen : List Seen) (left : ℕ) (now : List Line) → ¬ (left ≡ 0) → Waits v aside kept here seen left now → Room aside seen left
  waiting_sizes v aside kept here seen left now some p =
      let a = p.goes some in
      record {
        used = suc (ending_turns p.ending) + a.used;
        fell = omega (arith, a.fell, p.turns);
        sizes = sizes_with cuts above g later i d box h x vs before had old (suc (ending_turns p.ending)) a.used aside seen (part_sizes cuts above g later i d (box_to box x (v ∷ [])) h before p.ms aside p.begun p.rest p.steps p.ending p.made) a.sizes;
      }
