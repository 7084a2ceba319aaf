-- What the record of a branch's cases follows from: one lemma for each kind of case.
use Rattle.std.proofs.Common.{◌≡◌, ◌≤◌, ◌<◌, ◌+◌, inl, inr, ℕ, Bool, true, false, not, ◌&&◌, ◌||◌, List, [], ◌∷◌, length, map, refl, sym, ap, ◌∙◌, arith, Option, None, ◌++◌, subst, suc, ◌*◌, append_assoc}
use Rattle.std.proofs.lemmas.List.{append-nil}
use Rattle.std.specs.Prelude.{ℤ, ◌⊎◌, nat_lt}
use Rattle.std.specs.List.{list_all, list_any}
use Rattle.std.proofs.lemmas.Bool.{and_from, or_from}
use Rattle.qc_model.specs.declared.problem.Condition.{Condition}
use Rattle.qc_model.specs.declared.problem.Scope.{Scope}
use Rattle.qc_model.specs.Content.{Game}
use Rattle.qc_model.specs.Demands.{demands}
use Rattle.qc_model.specs.Domains.{Box, Values, values_left, is_none_left}
use Rattle.qc_model.specs.Valid.{is_number}
use Rattle.qc_model.specs.ExistsVerdict.{some_open}
use Rattle.qc_model.specs.Verdict.{Seen, seen_skipped, bounds}
use Rattle.proof_tree.specs.Tree.{Ending, Branches, no_more, piece, skip, left_open, go}
use Rattle.proof_tree.specs.Cover.{is_cover, uncovered, box_to}
use Rattle.proof_tree.specs.Pieces.{is_open}
use Rattle.proof_tree.specs.Counts.{ending_turns, ending_opens, branch_turns, branch_opens, case_count}
use Rattle.proof_tree.specs.Incumbents.{first_values, branches_keep}
use Rattle.proof_tree.specs.Place.{list_after}
use Rattle.proof_tree.specs.Read.{leaves, branch_leaves, marks}
use Rattle.proof_tree.specs.Finding.{Leaf, seen_of, comes_to}
use Rattle.proof_tree.specs.Order.{has_go, is_joined, settles, skips, branches_skip}
use Rattle.proof_tree.specs.Steps.{after_steps}
use Rattle.proof_tree.specs.Text.{upto_fits}
use Rattle.proof_tree.specs.declared.tree.Step.{Step}
use Rattle.proof_tree.specs.declared.tree.Version.TheVariants.{Two}
use Rattle.joins.proofs.Lengths.{long_join}
use Rattle.joins.proofs.Sizing.{sizes_both}
use Rattle.search_parts.specs.Uppers.{upto_all}
use Rattle.joins.specs.Sizes.{HasSizes}
use Rattle.joins.specs.Verdicts.{scope_wishes}
use Rattle.search_parts.specs.Beaten.{firsts, seen_bounds, is_beaten, are_beaten, AreAmong}
use Rattle.search_parts.specs.Settled.{is_settled, is_ended}
use Rattle.search_parts.specs.Made.{CasesMade, PartMade}
use Rattle.search_parts.proofs.Bools.{not_first, not_second, is_below, none_below}
use Rattle.search_parts.proofs.Joining.{seen-append, open-append, any_leaf}
use Rattle.search_parts.proofs.Outdone.{ended_first, not_ended}
use Rattle.search_parts.proofs.Beating.{all_both, among_self, among_more, among_join, among_as, beaten_among}
use Rattle.search_parts.proofs.Marks.{firsts-append, firsts_marks, bounds-append}
use Rattle.search_parts.proofs.Covers.{covers_all}
use Rattle.search_parts.proofs.Fitting.{upper_fits}
use Rattle.search_parts.proofs.Sizes.{sizes_none, sizes_skipped}
use Rattle.search_parts.proofs.Stepping.{part_says, part_open, part_whole, part_beaten, part_sizes, part_long}

-- without turns no case is taken
pub no_turns : (bs : Branches) → branch_turns bs ≡ 0 → has_go bs ≡ false
no_turns no_more e = refl
no_turns (piece upto skip bs) e = no_turns bs (omega arith)
no_turns (piece upto left_open bs) e = no_turns bs (omega arith)
no_turns (piece upto (go steps end) bs) e = absurd (omega arith)

go_apart : (upto : Option ℤ) (steps : List Step) (e : Ending) (bs : Branches) → is_joined upto (go steps e) bs ≡ true
go_apart upto steps e no_more = refl
go_apart upto steps e (piece high c bs) = refl

module _ (cuts : Bool) (above : ℤ → Bool) (g : Game) (later : List Scope) (i : ℕ) (d : List Condition) (box : Box) (h : Option ℕ) (x : ℕ) where
  abbrev AreMade : Values → Bool → List Seen → List Seen → ℕ → ℕ → Branches → Type 0
  AreMade vs was_settled before seen had left bs = CasesMade cuts above g later i d box h x vs was_settled before seen had left bs

  abbrev Settled : List Seen → Bool
  Settled seen = is_settled later (list_after g later d) seen

  abbrev Ended : List Seen → Bool
  Ended seen = is_ended above later (list_after g later d) seen

  -- no value is left
  pub none_made : (was : Bool) (before : List Seen) (had : ℕ) → AreMade [] was before [] had had no_more
  none_made was before had = record {
    placed = refl;
    says = refl;
    settled = refl;
    lasts = refl;
    ones = refl;
    apart = refl;
    fits = refl;
    spent = omega arith;
    exact = λ f. omega arith;
    opens = inl refl;
    gap = λ o q. refl;
    skips = λ e. cc;
    rests = λ e. refl;
    beaten = λ o. refl;
    keeps = λ reached a. refl;
    long = tt;
    sizes = sizes_none 0;
    closed = refl;
    foreseen = tt;
  }

  -- a case that is taken, and those after it
  pub go_made : (v : ℤ) (vs : Values) (before : List Seen) (ms : List ℤ) (seen rest : List Seen) (had left last : ℕ) (steps : List Step) (e : Ending) (bs : Branches) →
      1 < length (values_left box x) → (p : PartMade cuts above g later i d (box_to box x (v ∷ [])) h before ms seen had left steps e) → AreMade vs (Settled seen) (before ++ seen) rest left last bs →
      AreMade (v ∷ vs) false before (seen ++ rest) (1 + had) last (piece None (go steps e) bs)
  go_made v vs before ms seen rest had left last steps e bs many p r =
      let m = p.ended in
      let at = box_to box x (v ∷ []) in
      let w = scope_wishes later g d in
      let ls = marks g later i d steps at ++ leaves g e later i d (after_steps steps at) in
      let others = branch_leaves g bs x vs later i d box in
      let says : seen ≡ map seen_of ls = part_says cuts above g later i d at h before ms seen had left steps e p in
      let whole : (before ++ seen_bounds ms) ++ p.last ≡ before ++ seen = part_whole cuts above g later i d at h before ms seen had left steps e p in
      let joined : (before ++ seen) ++ rest ≡ before ++ (seen ++ rest) = append_assoc before seen rest in
      let known : firsts (before ++ (seen ++ rest)) ≡ firsts (before ++ seen) ++ firsts rest = ap firsts (sym (append_assoc before seen rest)) ∙ firsts-append (before ++ seen) rest in
      let among = among_as (firsts (before ++ seen)) (firsts (before ++ seen) ++ firsts rest) (firsts (before ++ (seen ++ rest))) (sym known) (among_more (firsts (before ++ seen)) (firsts (before ++ seen)) (firsts rest) (among_self (firsts (before ++ seen)))) in
      record {
        placed = and_from _ _ (and_from _ _ (and_from _ _ (is_below 1 (length (values_left box x)) many) p.stepped.legal) m.placed) r.placed;
        says = ap (λ xs. xs ++ rest) says ∙ (ap (λ xs. map seen_of ls ++ xs) r.says ∙ sym (seen-append ls others));
        settled = and_from _ _ (and_from _ _ m.settled (stops (Settled seen) refl ls says r.rests)) r.settled;
        lasts = and_from _ _ (and_from _ _ (closed m.opens m.spent r.spent) m.lasts) r.lasts;
        ones = and_from _ _ (and_from _ _ refl m.ones) r.ones;
        apart = and_from _ _ (and_from _ _ (go_apart None steps e bs) m.apart) r.apart;
        fits = and_from _ _ (and_from _ _ p.stepped.fits m.fits) r.fits;
        spent = omega (arith, m.spent, r.spent);
        exact = λ f. let a = m.exact f in let b = r.exact f in omega (arith, a, b);
        opens = either m.opens r.opens m.spent r.spent;
        gap = λ o q.
            let after : Ended ((before ++ seen) ++ rest) ≡ false = ap Ended joined ∙ q in
            let here : Ended ((before ++ seen_bounds ms) ++ p.last) ≡ false = ap Ended whole ∙ not_ended above later (list_after g later d) (before ++ seen) rest after in
            open-append seen rest
            ∙ or_from (some_open seen) (some_open rest) (part_open cuts above g later i d at h before ms seen had left steps e p ∙ m.gap (omega (arith, o)) here) (r.gap (omega (arith, o)) after);
        skips = λ f. skipped (skips e) f (λ u. ap Ended (sym whole) ∙ m.skips u) (λ u. ap Ended (sym joined) ∙ r.skips u);
        rests = λ f. cc;
        beaten = λ o.
            let first = beaten_among w (firsts (before ++ seen)) (firsts (before ++ (seen ++ rest))) (bounds seen) among (part_beaten cuts above g later i d at h before ms seen had left steps e p (omega (arith, o))) in
            let second : are_beaten w (firsts (before ++ (seen ++ rest))) (bounds rest) ≡ true = subst (λ xs. are_beaten w (firsts xs) (bounds rest) ≡ true) (append_assoc before seen rest) (r.beaten (omega (arith, o))) in
            ap (are_beaten w (firsts (before ++ (seen ++ rest)))) (bounds-append seen rest) ∙ all_both (is_beaten w (firsts (before ++ (seen ++ rest)))) (bounds seen) (bounds rest) first second;
        keeps = λ reached a.
            let own : firsts seen ≡ first_values ls = ap firsts says in
            let here = m.keeps reached (among_as reached (firsts before) (firsts (before ++ seen_bounds ms)) (sym (firsts_marks before ms)) a) in
            let after = r.keeps (reached ++ firsts seen) (among_as (reached ++ firsts seen) (firsts before ++ firsts seen) (firsts (before ++ seen)) (sym (firsts-append before seen)) (among_join reached (firsts seen) (firsts before) a)) in
            and_from _ _ here (subst (λ ns. branches_keep g bs x vs later i d box (reached ++ ns) ≡ true) own after);
        long = long_join (demands g (suc i)) seen rest (part_long cuts above g later i d at h before ms seen had left steps e p) r.long;
        sizes = subst (λ n. HasSizes n (seen ++ rest)) (regroup (ending_turns e) (branch_turns bs)) (sizes_both (2 * suc (ending_turns e)) (2 * branch_turns bs) seen rest (part_sizes cuts above g later i d at h before ms seen had left steps e p) r.sizes);
        closed = and_from _ _ m.closed r.closed;
        foreseen = (m.foreseen, r.foreseen);
      }
    where
      stops : (b : Bool) → Settled seen ≡ b → (ls : List Leaf) → seen ≡ map seen_of ls → (Settled seen ≡ true → has_go bs ≡ false) →
          not (has_go bs && list_any (comes_to (settles later (list_after g later d))) ls) ≡ true
      stops true q ls j f = not_first (has_go bs) _ (f q)
      stops false q ls j f = not_second (has_go bs) _ (any_leaf (settles later (list_after g later d)) ls ∙ (ap Settled (sym j) ∙ q))

      closed : ((ending_opens e ≡ 0) ⊎ (left ≡ 0)) → ending_turns e + left ≤ had → branch_turns bs + last ≤ left → not (nat_lt 0 (case_count is_open (go steps e)) && has_go bs) ≡ true
      closed (inl z) p q = not_first _ (has_go bs) (none_below (case_count is_open (go steps e)) (omega arith))
      closed (inr z) p q = not_second _ (has_go bs) (no_turns bs (omega arith))

      either : ((ending_opens e ≡ 0) ⊎ (left ≡ 0)) → ((branch_opens bs ≡ 0) ⊎ (last ≡ 0)) → ending_turns e + left ≤ had → branch_turns bs + last ≤ left →
          (branch_opens (piece None (go steps e) bs) ≡ 0) ⊎ (last ≡ 0)
      either (inl a) (inl b) p q = inl (omega arith)
      either (inl a) (inr b) p q = inr b
      either (inr a) b p q = inr (omega arith)

      skipped : (b : Bool) → (b || branches_skip bs) ≡ true → (b ≡ true → Ended (before ++ seen) ≡ true) → (branches_skip bs ≡ true → Ended (before ++ (seen ++ rest)) ≡ true) → Ended (before ++ (seen ++ rest)) ≡ true
      skipped true f p q = ap Ended (sym (append_assoc before seen rest)) ∙ ended_first above later (list_after g later d) (before ++ seen) rest (p refl)
      skipped false f p q = q f

      regroup : (m n : ℕ) → 2 * suc m + 2 * n ≡ 2 * ((1 + m) + n)
      regroup m n = omega arith

  left_none : (v : ℤ) (vs : Values) → is_none_left (uncovered (upto_all (v ∷ vs)) (v ∷ vs)) ≡ true
  left_none v vs = ap is_none_left (covers_all v vs).leaves_none

  -- the cases after which no further leaf counts
  pub skip_made : (was : Bool) (v : ℤ) (vs : Values) (before : List Seen) (had : ℕ) → Ended before ≡ true → upto_fits Two (upto_all (v ∷ vs)) ≡ true → AreMade (v ∷ vs) was before (seen_skipped ∷ []) had had (piece (upto_all (v ∷ vs)) skip no_more)
  skip_made was v vs before had e q = record {
    placed = and_from _ _ (and_from _ _ (covers_all v vs).is_case refl) (left_none v vs);
    says = refl;
    settled = refl;
    lasts = refl;
    ones = refl;
    apart = refl;
    fits = and_from _ _ (and_from _ _ q refl) refl;
    spent = omega arith;
    exact = λ f. omega arith;
    opens = inl refl;
    gap = λ o f. let p : true ≡ false = sym (ended_first above later (list_after g later d) before (seen_skipped ∷ []) e) ∙ f in cc;
    skips = λ f. ended_first above later (list_after g later d) before (seen_skipped ∷ []) e;
    rests = λ f. refl;
    beaten = λ o. refl;
    keeps = λ reached a. refl;
    long = tt;
    sizes = sizes_skipped 0;
    closed = refl;
    foreseen = (tt, tt);
  }

  -- the cases that are left open
  pub open_made : (was : Bool) (v : ℤ) (vs : Values) (before : List Seen) (had : ℕ) → had ≡ 0 → upto_fits Two (upto_all (v ∷ vs)) ≡ true → AreMade (v ∷ vs) was before (seen_skipped ∷ []) had had (piece (upto_all (v ∷ vs)) left_open no_more)
  open_made was v vs before had e q = record {
    placed = and_from _ _ (and_from _ _ (covers_all v vs).is_case refl) (left_none v vs);
    says = refl;
    settled = refl;
    lasts = refl;
    ones = refl;
    apart = refl;
    fits = and_from _ _ (and_from _ _ q refl) refl;
    spent = omega arith;
    exact = λ f. omega arith;
    opens = inr e;
    gap = λ o f. absurd (omega arith);
    skips = λ f. cc;
    rests = λ f. refl;
    beaten = λ o. refl;
    keeps = λ reached a. refl;
    long = tt;
    sizes = sizes_skipped 0;
    closed = refl;
    foreseen = (tt, tt);
  }

  -- the first cases, where those after them and what was seen before end the scope
  pub first_skipped : (u : Option ℤ) (vs here : Values) (before seen : List Seen) (had left : ℕ) (bs : Branches) → is_cover u vs ≡ true → uncovered u vs ≡ here → list_all is_number vs ≡ true → Ended (before ++ seen_skipped ∷ seen) ≡ true →
      is_joined u skip bs ≡ true → AreMade here false (before ++ seen_skipped ∷ []) seen had left bs → AreMade vs false before (seen_skipped ∷ seen) had left (piece u skip bs)
  first_skipped u vs here before seen had left bs case there numbers ended apart m =
      let skipped = before ++ seen_skipped ∷ [] in
      let same : firsts skipped ≡ firsts before = firsts-append before (seen_skipped ∷ []) ∙ append-nil (firsts before) in
      let r = subst (λ us. AreMade us false skipped seen had left bs) (sym there) m in
      record {
        placed = and_from _ _ (and_from _ _ case refl) r.placed;
        says = ap (λ xs. seen_skipped ∷ xs) r.says;
        settled = and_from _ _ (and_from _ _ refl (not_second (has_go bs) _ refl)) r.settled;
        lasts = and_from _ _ (and_from _ _ refl refl) r.lasts;
        ones = and_from _ _ (and_from _ _ refl refl) r.ones;
        apart = and_from _ _ (and_from _ _ apart refl) r.apart;
        fits = and_from _ _ (and_from _ _ (upper_fits u vs numbers case) refl) r.fits;
        spent = omega (arith, r.spent);
        exact = λ f. let a = r.exact f in omega (arith, a);
        opens = also r.opens;
        gap = λ o q. let p : true ≡ false = sym ended ∙ q in cc;
        skips = λ f. ended;
        rests = λ f. cc;
        beaten = λ o. subst (λ xs. are_beaten (scope_wishes later g d) (firsts xs) (bounds seen) ≡ true) (append_assoc before (seen_skipped ∷ []) seen) (r.beaten (omega (arith, o)));
        keeps = λ reached a. r.keeps (reached ++ []) (subst (λ ns. AreAmong ns (firsts skipped)) (sym (append-nil reached)) (among_as reached (firsts before) (firsts skipped) (sym same) a));
        long = r.long;
        sizes = subst (λ n. HasSizes n (seen_skipped ∷ seen)) (no_turn (branch_turns bs)) (sizes_both 0 (2 * branch_turns bs) (seen_skipped ∷ []) seen (sizes_skipped 0) r.sizes);
        closed = and_from _ _ refl r.closed;
        foreseen = (tt, r.foreseen);
      }
    where
      no_turn : (n : ℕ) → 0 + 2 * n ≡ 2 * (0 + n)
      no_turn n = omega arith

      also : ((branch_opens bs ≡ 0) ⊎ (left ≡ 0)) → (branch_opens (piece u skip bs) ≡ 0) ⊎ (left ≡ 0)
      also (inl e) = inl (omega arith)
      also (inr e) = inr e

  -- more turns may have been cut
  pub cut_more : (vs : Values) (was : Bool) (before seen : List Seen) (more had left : ℕ) (bs : Branches) → cuts ≡ true → more ≤ had → AreMade vs was before seen more left bs → AreMade vs was before seen had left bs
  cut_more vs was before seen more had left bs cut h m = record {
    placed = m.placed;
    says = m.says;
    settled = m.settled;
    lasts = m.lasts;
    ones = m.ones;
    apart = m.apart;
    fits = m.fits;
    spent = omega (arith, m.spent, h);
    exact = λ f. let q : true ≡ false = sym cut ∙ f in cc;
    opens = m.opens;
    gap = m.gap;
    skips = m.skips;
    rests = m.rests;
    beaten = m.beaten;
    keeps = m.keeps;
    long = m.long;
    sizes = m.sizes;
    closed = m.closed;
    foreseen = m.foreseen;
  }
