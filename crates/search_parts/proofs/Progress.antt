-- The cases of a branch, one after the other: what ends them from here on ends them whole.
use Rattle.std.proofs.Common.{map, ◌≡◌, ◌<◌, ◌≤◌, ◌+◌, ◌*◌, ◌-◌, ℕ, suc, true, false, List, [], ◌∷◌, ◌++◌, length, drop, refl, sym, ap, ◌∙◌, subst, arith, Option, None, Some, append_assoc, take, Bool}
use Rattle.std.proofs.lemmas.List.{append-nil}
use Rattle.std.specs.Prelude.{ℤ}
use Rattle.std.specs.List.{list_all}
use Rattle.qc_model.specs.declared.problem.Condition.{Condition}
use Rattle.qc_model.specs.declared.problem.Scope.{Scope}
use Rattle.qc_model.specs.Content.{Game}
use Rattle.qc_model.specs.Domains.{Box, Values, values_left, is_none_left}
use Rattle.qc_model.specs.Valid.{is_number}
use Rattle.qc_model.specs.Verdict.{Seen, seen_skipped}
use Rattle.proof_tree.specs.Tree.{Ending, Branches, no_more, piece, skip, left_open, go}
use Rattle.proof_tree.specs.Counts.{ending_turns}
use Rattle.proof_tree.specs.Cover.{box_to, is_cover, uncovered}
use Rattle.proof_tree.specs.Place.{list_after}
use Rattle.proof_tree.specs.Lines.{step_line, upto_lines, ending_lines, branches_lines}
use Rattle.proof_tree.specs.declared.line.Line.{Line}
use Rattle.proof_tree.specs.declared.line.Line.TheVariants.{Skip, Open, Range}
use Rattle.proof_tree.specs.declared.tree.Step.{Step}
use Rattle.joins.specs.Sizes.{HasSizes}
use Rattle.search_parts.specs.Beaten.{firsts, AreAmong}
use Rattle.joins.proofs.Sizing.{sizes_both}
use Rattle.search_parts.specs.Settled.{is_settled, is_ended}
use Rattle.search_parts.specs.Uppers.{upto_all}
use Rattle.search_parts.specs.Made.{CasesMade, PartMade}
use Rattle.search_parts.specs.Progress.{Progress}
use Rattle.search_parts.specs.Written.{CasesWritten, PartWritten}
use Rattle.search_parts.proofs.Branching.{none_made, go_made, skip_made, open_made, first_skipped, cut_more}
use Rattle.search_parts.proofs.Covers.{covers_all}
use Rattle.search_parts.proofs.Fitting.{upper_fits}
use Rattle.search_parts.proofs.Beating.{among_self, among_more, among_as}
use Rattle.search_parts.proofs.Joining.{settled_from, settled_wishes}
use Rattle.search_parts.proofs.Marks.{firsts-append}
use Rattle.search_parts.proofs.Outdone.{ended_first, ended_last}
use Rattle.search_parts.proofs.Sizes.{sizes_none, sizes_skipped}
use Rattle.search_parts.proofs.Stepping.{part_sizes, part_after_less}

skip_lines : (u : Option ℤ) → upto_lines u ++ Skip ∷ [] ≡ branches_lines (piece u skip no_more)
skip_lines None = refl
skip_lines (Some high) = refl

open_lines : (u : Option ℤ) → upto_lines u ++ Open ∷ [] ≡ branches_lines (piece u left_open no_more)
open_lines None = refl
open_lines (Some high) = refl

then_lines : (now new ls ms : List Line) → new ≡ now ++ ls → ls ≡ ms → new ≡ now ++ ms
then_lines now new ls ms q e = q ∙ ap (λ us. now ++ us) e

pub take_front : (xs ys : List Line) → take (length xs) (xs ++ ys) ≡ xs
take_front [] ys = refl
take_front (x ∷ xs) ys = ap (λ ls. x ∷ ls) (take_front xs ys)

pub drop_front : (xs ys : List Line) → drop (length xs) (xs ++ ys) ≡ ys
drop_front [] ys = refl
drop_front (x ∷ xs) ys = drop_front xs ys

pub cut_lines : (old now next_now new written part first : List Line) → now ≡ old ++ written → next_now ≡ now ++ part → new ≡ take (length old) next_now ++ (first ++ drop (length now) next_now) → new ≡ old ++ (first ++ part)
cut_lines old now next_now new written part first e f q =
    let whole : next_now ≡ old ++ (written ++ part) = f ∙ (ap (λ ls. ls ++ part) e ∙ append_assoc old written part) in
    let front : take (length old) next_now ≡ old = ap (take (length old)) whole ∙ take_front old (written ++ part) in
    let back : drop (length now) next_now ≡ part = ap (drop (length now)) f ∙ drop_front now part in
    q ∙ (ap (λ ls. ls ++ (first ++ drop (length now) next_now)) front ∙ ap (λ ls. old ++ (first ++ ls)) back)

regroup : (old : List Line) (u : Option ℤ) (steps : List Step) (e : Ending) (bs : Branches) →
    (old ++ ((upto_lines u ++ Skip ∷ []) ++ (map step_line steps ++ ending_lines e))) ++ branches_lines bs ≡ old ++ branches_lines (piece u skip (piece None (go steps e) bs))
regroup old None steps e bs = append_assoc old (Skip ∷ (map step_line steps ++ ending_lines e)) (branches_lines bs)
regroup old (Some high) steps e bs = append_assoc old (Range high ∷ Skip ∷ (map step_line steps ++ ending_lines e)) (branches_lines bs)

module _ (cuts : Bool) (above : ℤ → Bool) (g : Game) (later : List Scope) (i : ℕ) (d : List Condition) (box : Box) (h : Option ℕ) (x : ℕ) (vs : Values) (before : List Seen) (had : ℕ) (old : List Line) where
  abbrev At : Values → List Seen → ℕ → List Line → Type 0
  At here seen left now = Progress cuts above g later i d box h x vs before had old here seen left now

  abbrev Whole : List Seen → ℕ → List Line → Type 0
  Whole seen last new = CasesWritten cuts above g later i d box h x vs before seen had last old new

  abbrev Settled : List Seen → Bool
  Settled seen = is_settled later (list_after g later d) seen

  abbrev Ended : List Seen → Bool
  Ended seen = is_ended above later (list_after g later d) seen

  -- a part in a case of x that is gone into, after what was seen; it has the marks ms, and more is seen in it
  abbrev Part : ℤ → List Seen → List ℤ → List Seen → ℕ → ℕ → List Line → List Line → Type 0
  Part v seen ms more left last now new = PartWritten cuts above g later i d (box_to box x (v ∷ [])) h (before ++ seen) ms more left last now new

  pub start : At vs [] had old
  start = record {
    used = 0;
    fell = omega arith;
    sizes = sizes_none 0;
    written = [];
    now_is = sym (append-nil old);
    ends = λ bs rest last new m e. record { cases = bs; lines = e; made = subst (λ xs. CasesMade cuts above g later i d box h x vs false xs rest had last bs) (append-nil before) m };
  }

  sizes_in : (v : ℤ) (seen : List Seen) (ms : List ℤ) (more : List Seen) (left last : ℕ) (now new : List Line) → (w : Part v seen ms more left last now new) → HasSizes (2 * suc (ending_turns w.ending)) more
  sizes_in v seen ms more left last now new w = part_sizes cuts above g later i d (box_to box x (v ∷ [])) h (before ++ seen) ms more left last w.steps w.ending w.made

  pub sizes_with : (m n : ℕ) (xs ys : List Seen) → HasSizes (2 * m) xs → HasSizes (2 * n) ys → HasSizes (2 * (m + n)) (xs ++ ys)
  sizes_with m n xs ys a b = subst (λ k. HasSizes k (xs ++ ys)) (twice m n) (sizes_both (2 * m) (2 * n) xs ys a b)
    where
      twice : (m n : ℕ) → 2 * m + 2 * n ≡ 2 * (m + n)
      twice m n = omega arith

  -- a case is gone into
  taken : (v : ℤ) (rest : Values) (seen : List Seen) (ms : List ℤ) (more : List Seen) (left next_left : ℕ) (now next_now : List Line) → 1 < length (values_left box x) → Settled seen ≡ false →
      At (v ∷ rest) seen (1 + left) now → (w : Part v seen ms more left next_left now next_now) → At rest (seen ++ more) next_left next_now
  taken v rest seen ms more left next_left now next_now many not_yet p w = record {
    used = p.used + suc (ending_turns w.ending);
    fell = omega (arith, p.fell, w.made.ended.spent);
    sizes = sizes_with p.used (suc (ending_turns w.ending)) seen more p.sizes (sizes_in v seen ms more left next_left now next_now w);
    written = p.written ++ (map step_line w.steps ++ ending_lines w.ending);
    now_is = w.lines ∙ (ap (λ ls. ls ++ (map step_line w.steps ++ ending_lines w.ending)) p.now_is ∙ append_assoc old p.written (map step_line w.steps ++ ending_lines w.ending));
    ends = λ bs others last new m e.
        let known = subst (λ xs. CasesMade cuts above g later i d box h x rest (Settled (seen ++ more)) xs others next_left last bs) (sym (append_assoc before seen more)) m in
        let after = subst (λ b. CasesMade cuts above g later i d box h x rest b ((before ++ seen) ++ more) others next_left last bs) (settled_from later (list_after g later d) seen more not_yet) known in
        let here = go_made cuts above g later i d box h x v rest (before ++ seen) ms more others left next_left last w.steps w.ending bs many w.made after in
        let same : (seen ++ more) ++ others ≡ seen ++ (more ++ others) = append_assoc seen more others in
        subst (λ xs. Whole xs last new) (sym same)
        (p.ends (piece None (go w.steps w.ending) bs) (more ++ others) last new
        (subst (λ b. CasesMade cuts above g later i d box h x (v ∷ rest) b (before ++ seen) (more ++ others) (1 + left) last (piece None (go w.steps w.ending) bs)) (sym not_yet) here)
        (e ∙ (ap (λ ls. ls ++ branches_lines bs) w.lines ∙ append_assoc now (map step_line w.steps ++ ending_lines w.ending) (branches_lines bs))));
  }

  -- no value is left
  pub none : (seen : List Seen) (left : ℕ) (now : List Line) → At [] seen left now → Whole seen left now
  none seen left now p =
      subst (λ xs. Whole xs left now) (append-nil seen)
      (p.ends no_more [] left now (none_made cuts above g later i d box h x (Settled seen) (before ++ seen) left) (sym (append-nil now)))

  -- no further leaf counts
  pub skipped : (here : Values) (seen : List Seen) (left : ℕ) (now new : List Line) → is_none_left here ≡ false → list_all is_number here ≡ true → Ended (before ++ seen) ≡ true → At here seen left now → new ≡ now ++ (upto_lines (upto_all here) ++ Skip ∷ []) →
      Whole (seen ++ seen_skipped ∷ []) left new
  skipped [] seen left now new some numbers e p q = cc
  skipped (v ∷ rest) seen left now new some numbers e p q =
      let u = upto_all (v ∷ rest) in
      p.ends (piece u skip no_more) (seen_skipped ∷ []) left new
      (skip_made cuts above g later i d box h x (Settled seen) v rest (before ++ seen) left e (upper_fits u (v ∷ rest) numbers (covers_all v rest).is_case))
      (then_lines now new (upto_lines u ++ Skip ∷ []) (branches_lines (piece u skip no_more)) q (skip_lines u))

  -- no turn is left
  pub opened : (here : Values) (seen : List Seen) (left : ℕ) (now new : List Line) → is_none_left here ≡ false → list_all is_number here ≡ true → left ≡ 0 → At here seen left now → new ≡ now ++ (upto_lines (upto_all here) ++ Open ∷ []) →
      Whole (seen ++ seen_skipped ∷ []) left new
  opened [] seen left now new some numbers e p q = cc
  opened (v ∷ rest) seen left now new some numbers e p q =
      let u = upto_all (v ∷ rest) in
      p.ends (piece u left_open no_more) (seen_skipped ∷ []) left new (open_made cuts above g later i d box h x (Settled seen) v rest (before ++ seen) left e (upper_fits u (v ∷ rest) numbers (covers_all v rest).is_case))
      (then_lines now new (upto_lines u ++ Open ∷ []) (branches_lines (piece u left_open no_more)) q (open_lines u))

  -- a case is gone into with the turns that are left
  pub taken_from : (here rest : Values) (v : ℤ) (seen : List Seen) (ms : List ℤ) (more : List Seen) (left next_left : ℕ) (now next_now : List Line) → 1 < length (values_left box x) → here ≡ v ∷ rest → Settled seen ≡ false → ¬ (left ≡ 0) →
      At here seen left now → Part v seen ms more (left - 1) next_left now next_now → At rest (seen ++ more) next_left next_now
  taken_from here rest v seen ms more left next_left now next_now many e not_yet some p w =
      let one_more : left ≡ 1 + (left - 1) = positive left some in
      taken v rest seen ms more (left - 1) next_left now next_now many not_yet (subst (λ m. At (v ∷ rest) seen m now) one_more (subst (λ us. At us seen left now) e p)) w
    where
      positive : (m : ℕ) → ¬ (m ≡ 0) → m ≡ 1 + (m - 1)
      positive m h = omega arith

  -- a case stands behind one that skips those before it, to which u is the upper value: with what was seen before it ends the
  -- scope
  behind_skip : cuts ≡ true → list_all is_number vs ≡ true → (u : Option ℤ) (rest : Values) (v : ℤ) (ms : List ℤ) (more : List Seen) (left next_left : ℕ) (new : List Line) (steps : List Step) (e : Ending) → 1 < length (values_left box x) →
      is_cover u vs ≡ true → uncovered u vs ≡ v ∷ rest → Ended (before ++ seen_skipped ∷ more) ≡ true → ¬ (left ≡ 0) → left ≤ had → PartMade cuts above g later i d (box_to box x (v ∷ [])) h (before ++ seen_skipped ∷ []) ms more (left - 1) next_left steps e →
      new ≡ old ++ ((upto_lines u ++ Skip ∷ []) ++ (map step_line steps ++ ending_lines e)) → At rest (seen_skipped ∷ more) next_left new
  behind_skip cut numbers u rest v ms more left next_left new steps e many case leaves ended some fell made new_is =
      let one_less : 1 + (left - 1) ≤ had = less left had some fell in
      let skipped = before ++ seen_skipped ∷ [] in
      record {
        used = 0 + suc (ending_turns e);
        fell = omega (arith, one_less, made.ended.spent);
        sizes = sizes_with 0 (suc (ending_turns e)) (seen_skipped ∷ []) more (sizes_skipped 0) (part_sizes cuts above g later i d (box_to box x (v ∷ [])) h skipped ms more (left - 1) next_left steps e made);
        written = (upto_lines u ++ Skip ∷ []) ++ (map step_line steps ++ ending_lines e);
        now_is = new_is;
        ends = λ bs others last after_new m f.
            let cs = piece None (go steps e) bs in
            let known = subst (λ xs. CasesMade cuts above g later i d box h x rest (Settled more) xs others next_left last bs) (sym (append_assoc before (seen_skipped ∷ []) more)) m in
            let gone = go_made cuts above g later i d box h x v rest skipped ms more others (left - 1) next_left last steps e bs many made known in
            let all_ended : Ended (before ++ seen_skipped ∷ (more ++ others)) ≡ true = ap Ended (sym (append_assoc before (seen_skipped ∷ more) others)) ∙ ended_first above later (list_after g later d) (before ++ seen_skipped ∷ more) others ended in
            record {
              cases = piece u skip cs;
              lines = f ∙ (ap (λ ls. ls ++ branches_lines bs) new_is ∙ regroup old u steps e bs);
              made = cut_more cuts above g later i d box h x vs false before (seen_skipped ∷ (more ++ others)) (1 + (left - 1)) had last (piece u skip cs) cut one_less
                  (first_skipped cuts above g later i d box h x u vs (v ∷ rest) before (more ++ others) (1 + (left - 1)) last cs case leaves numbers all_ended refl gone);
            };
      }
    where
      less : (m n : ℕ) → ¬ (m ≡ 0) → m ≤ n → 1 + (m - 1) ≤ n
      less m n h l = omega arith

  -- it settles the scope by itself, so it may have been gone into after more
  pub cut_here : cuts ≡ true → list_all is_number vs ≡ true → (u : Option ℤ) (rest : Values) (v : ℤ) (seen : List Seen) (ms : List ℤ) (more : List Seen) (left next_left : ℕ) (now next_now new : List Line) → 1 < length (values_left box x) →
      is_cover u vs ≡ true → uncovered u vs ≡ v ∷ rest → Settled more ≡ true → ¬ (left ≡ 0) → left ≤ had → (w : Part v seen ms more (left - 1) next_left now next_now) →
      new ≡ old ++ ((upto_lines u ++ Skip ∷ []) ++ (map step_line w.steps ++ ending_lines w.ending)) → At rest (seen_skipped ∷ more) next_left new
  cut_here cut numbers u rest v seen ms more left next_left now next_now new many case leaves settled some fell w new_is =
      let skipped = before ++ seen_skipped ∷ [] in
      let nothing = settled_wishes g later d more settled in
      let fewer = among_as (firsts skipped) (firsts before ++ firsts seen) (firsts (before ++ seen)) (sym (firsts-append before seen))
      (subst (λ ns. AreAmong ns (firsts before ++ firsts seen)) (sym (firsts-append before (seen_skipped ∷ []) ∙ append-nil (firsts before))) (among_more (firsts before) (firsts before) (firsts seen) (among_self (firsts before)))) in
      let made = part_after_less cuts above g later i d (box_to box x (v ∷ [])) h (before ++ seen) skipped ms more (left - 1) next_left w.steps w.ending nothing settled fewer w.made in
      behind_skip cut numbers u rest v ms more left next_left new w.steps w.ending many case leaves (ended_last above later (list_after g later d) before (seen_skipped ∷ more) settled) some fell made new_is

  -- after the cases before, whose lines are cut
  pub cut_after : cuts ≡ true → list_all is_number vs ≡ true → (u : Option ℤ) (here rest : Values) (v : ℤ) (seen : List Seen) (ms : List ℤ) (more : List Seen) (left next_left : ℕ) (now next_now new : List Line) → 1 < length (values_left box x) →
      is_cover u vs ≡ true → uncovered u vs ≡ v ∷ rest → Settled more ≡ true → ¬ (left ≡ 0) → At here seen left now → Part v seen ms more (left - 1) next_left now next_now →
      new ≡ take (length old) next_now ++ ((upto_lines u ++ Skip ∷ []) ++ drop (length now) next_now) → At rest (seen_skipped ∷ more) next_left new
  cut_after cut numbers u here rest v seen ms more left next_left now next_now new many case leaves settled some p w q =
      cut_here cut numbers u rest v seen ms more left next_left now next_now new many case leaves settled some (omega (arith, p.fell)) w
      (cut_lines old now next_now new p.written (map step_line w.steps ++ ending_lines w.ending) (upto_lines u ++ Skip ∷ []) p.now_is w.lines q)

  -- before all others: those before it were skipped, and none was gone into
  pub jump_after : cuts ≡ true → list_all is_number vs ≡ true → (u : Option ℤ) (rest : Values) (v : ℤ) (ms : List ℤ) (more : List Seen) (next_left : ℕ) (new : List Line) → 1 < length (values_left box x) →
      is_cover u vs ≡ true → uncovered u vs ≡ v ∷ rest → Settled more ≡ true → ¬ (had ≡ 0) → Part v [] ms more (had - 1) next_left (old ++ (upto_lines u ++ Skip ∷ [])) new → At rest (seen_skipped ∷ more) next_left new
  jump_after cut numbers u rest v ms more next_left new many case leaves settled some w =
      let skips = upto_lines u ++ Skip ∷ [] in
      cut_here cut numbers u rest v [] ms more had next_left (old ++ skips) new new many case leaves settled some (omega arith) w (w.lines ∙ append_assoc old skips (map step_line w.steps ++ ending_lines w.ending))

  -- so where the part was seen after the skip: with what was seen before it ends the scope
  pub jump_behind : cuts ≡ true → list_all is_number vs ≡ true → (u : Option ℤ) (rest : Values) (v : ℤ) (ms : List ℤ) (more : List Seen) (next_left : ℕ) (new : List Line) → 1 < length (values_left box x) →
      is_cover u vs ≡ true → uncovered u vs ≡ v ∷ rest → Ended (before ++ seen_skipped ∷ more) ≡ true → ¬ (had ≡ 0) → Part v (seen_skipped ∷ []) ms more (had - 1) next_left (old ++ (upto_lines u ++ Skip ∷ [])) new → At rest (seen_skipped ∷ more) next_left new
  jump_behind cut numbers u rest v ms more next_left new many case leaves ended some w =
      behind_skip cut numbers u rest v ms more had next_left new w.steps w.ending many case leaves ended some (omega arith) w.made
      (w.lines ∙ append_assoc old (upto_lines u ++ Skip ∷ []) (map step_line w.steps ++ ending_lines w.ending))
