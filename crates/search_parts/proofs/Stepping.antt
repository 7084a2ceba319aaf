-- Steps and an ending together.
use Rattle.std.proofs.Common.{◌≡◌, ◌≤◌, true, false, ℕ, suc, ◌+◌, ◌*◌, List, [], ◌++◌, map, sym, ap, subst, ◌∙◌, Option, ℤ, Bool, arith, append_assoc}
use Rattle.qc_model.specs.declared.problem.Condition.{Condition}
use Rattle.qc_model.specs.declared.problem.Scope.{Scope}
use Rattle.qc_model.specs.Content.{Game}
use Rattle.qc_model.specs.Domains.{Box}
use Rattle.qc_model.specs.Demands.{demands}
use Rattle.qc_model.specs.ExistsVerdict.{some_open}
use Rattle.qc_model.specs.Verdict.{Seen, bounds}
use Rattle.proof_tree.specs.declared.tree.Step.{Step}
use Rattle.proof_tree.specs.Place.{tracked_variable, list_after}
use Rattle.proof_tree.specs.Steps.{after_steps, step_marks}
use Rattle.proof_tree.specs.Read.{marks, leaves}
use Rattle.proof_tree.specs.Finding.{seen_of}
use Rattle.proof_tree.specs.Counts.{ending_turns, ending_opens}
use Rattle.proof_tree.specs.Order.{settles}
use Rattle.proof_tree.specs.Tree.{Ending}
use Rattle.joins.specs.Sizes.{AreLong, HasSizes}
use Rattle.joins.specs.Verdicts.{scope_wishes}
use Rattle.joins.proofs.Sizing.{sizes_both}
use Rattle.search_parts.specs.Made.{EndingMade, PartMade, BoundedMade}
use Rattle.search_parts.specs.Beaten.{firsts, seen_bounds, is_beaten, are_beaten, AreAmong}
use Rattle.search_parts.specs.Settled.{is_settled}
use Rattle.search_parts.proofs.Beating.{all_both, among_self, among_more, among_as, among_through, beaten_among, none_beaten}
use Rattle.search_parts.proofs.Joining.{seen-append}
use Rattle.search_parts.proofs.Outdone.{ended_last}
use Rattle.search_parts.proofs.Marks.{seen_marks, firsts-append, firsts_marks, bounds_marks, open_marks, some_marks, long_marks}

module _ (cuts : Bool) (above : ℤ → Bool) (g : Game) (later : List Scope) (i : ℕ) (d : List Condition) (box : Box) (h : Option ℕ) where
  -- what beats the marks is one thing more
  pub bare_part : (before : List Seen) (ms : List ℤ) (seen : List Seen) (had left : ℕ) (steps : List Step) (e : Ending) → PartMade cuts above g later i d box h before ms seen had left steps e → BoundedMade cuts above g later i d box h before ms seen had left steps e
  bare_part before ms seen had left steps e p = record { last = p.last; both = p.both; stepped = p.stepped; one = p.one; ended = p.ended }

  -- what a part says, its marks first
  pub bounded_says : (before : List Seen) (ms : List ℤ) (seen : List Seen) (had left : ℕ) (steps : List Step) (e : Ending) → BoundedMade cuts above g later i d box h before ms seen had left steps e → seen ≡ map seen_of (marks g later i d steps box ++ leaves g e later i d (after_steps steps box))
  bounded_says before ms seen had left steps e p =
      let t = tracked_variable g later i (list_after g later d) in
      let lm = marks g later i d steps box in
      let ls = leaves g e later i d (after_steps steps box) in
      let first : seen_bounds ms ≡ map seen_of lm = ap seen_bounds p.stepped.marked ∙ sym (seen_marks (step_marks t steps box)) in
      p.both ∙ (ap (λ xs. xs ++ p.last) first ∙ (ap (λ xs. map seen_of lm ++ xs) p.ended.says ∙ sym (seen-append lm ls)))

  pub part_says : (before : List Seen) (ms : List ℤ) (seen : List Seen) (had left : ℕ) (steps : List Step) (e : Ending) → PartMade cuts above g later i d box h before ms seen had left steps e → seen ≡ map seen_of (marks g later i d steps box ++ leaves g e later i d (after_steps steps box))
  part_says before ms seen had left steps e p = bounded_says before ms seen had left steps e (bare_part before ms seen had left steps e p)

  -- nothing is seen in its marks that could settle the scope
  pub part_settled : (before : List Seen) (ms : List ℤ) (seen : List Seen) (had left : ℕ) (steps : List Step) (e : Ending) → (p : PartMade cuts above g later i d box h before ms seen had left steps e) → is_settled later (list_after g later d) seen ≡ is_settled later (list_after g later d) p.last
  part_settled before ms seen had left steps e p = ap (is_settled later (list_after g later d)) p.both ∙ some_marks (settles later (list_after g later d)) ms p.last

  pub part_open : (before : List Seen) (ms : List ℤ) (seen : List Seen) (had left : ℕ) (steps : List Step) (e : Ending) → (p : PartMade cuts above g later i d box h before ms seen had left steps e) → some_open seen ≡ some_open p.last
  part_open before ms seen had left steps e p = ap some_open p.both ∙ open_marks ms p.last

  -- what was seen at its end
  pub part_whole : (before : List Seen) (ms : List ℤ) (seen : List Seen) (had left : ℕ) (steps : List Step) (e : Ending) → (p : PartMade cuts above g later i d box h before ms seen had left steps e) → (before ++ seen_bounds ms) ++ p.last ≡ before ++ seen
  part_whole before ms seen had left steps e p = append_assoc before (seen_bounds ms) p.last ∙ ap (λ xs. before ++ xs) (sym p.both)

  -- all its bounds are beaten, where no case of it is open
  pub part_beaten : (before : List Seen) (ms : List ℤ) (seen : List Seen) (had left : ℕ) (steps : List Step) (e : Ending) → PartMade cuts above g later i d box h before ms seen had left steps e → ending_opens e ≡ 0 →
      are_beaten (scope_wishes later g d) (firsts (before ++ seen)) (bounds seen) ≡ true
  part_beaten before ms seen had left steps e p o =
      let w = scope_wishes later g d in
      let all = part_whole before ms seen had left steps e p in
      let last : are_beaten w (firsts (before ++ seen)) (bounds p.last) ≡ true = subst (λ xs. are_beaten w (firsts xs) (bounds p.last) ≡ true) all (p.ended.beaten o) in
      let among = among_as (firsts before) (firsts before ++ firsts seen) (firsts (before ++ seen)) (sym (firsts-append before seen)) (among_more (firsts before) (firsts before) (firsts seen) (among_self (firsts before))) in
      let first : are_beaten w (firsts (before ++ seen)) ms ≡ true = beaten_among w (firsts before) (firsts (before ++ seen)) ms among p.marks_beaten in
      ap (are_beaten w (firsts (before ++ seen))) (ap bounds p.both ∙ bounds_marks ms p.last) ∙ all_both (is_beaten w (firsts (before ++ seen))) ms (bounds p.last) first last

  pub part_sizes : (before : List Seen) (ms : List ℤ) (seen : List Seen) (had left : ℕ) (steps : List Step) (e : Ending) → PartMade cuts above g later i d box h before ms seen had left steps e → HasSizes (2 * suc (ending_turns e)) seen
  part_sizes before ms seen had left steps e p =
      subst (λ n. HasSizes n seen) (regroup (ending_turns e)) (subst (HasSizes (1 + suc (2 * ending_turns e))) (sym p.both) (sizes_both 1 (suc (2 * ending_turns e)) (seen_bounds ms) p.last p.one p.ended.sizes))
    where
      regroup : (n : ℕ) → 1 + suc (2 * n) ≡ 2 * suc n
      regroup n = omega arith

  pub bounded_long : (before : List Seen) (ms : List ℤ) (seen : List Seen) (had left : ℕ) (steps : List Step) (e : Ending) → BoundedMade cuts above g later i d box h before ms seen had left steps e → AreLong g i seen
  bounded_long before ms seen had left steps e p = subst (AreLong g i) (sym p.both) (long_marks (demands g (suc i)) ms p.last p.ended.long)

  pub part_long : (before : List Seen) (ms : List ℤ) (seen : List Seen) (had left : ℕ) (steps : List Step) (e : Ending) → PartMade cuts above g later i d box h before ms seen had left steps e → AreLong g i seen
  part_long before ms seen had left steps e p = bounded_long before ms seen had left steps e (bare_part before ms seen had left steps e p)

  -- where bounds speak of nothing, a part may stand after less
  ending_after_less : (before less seen : List Seen) (had left : ℕ) (e : Ending) → scope_wishes later g d ≡ [] → is_settled later (list_after g later d) seen ≡ true → AreAmong (firsts less) (firsts before) → EndingMade cuts above g later i d box h before seen had left e → EndingMade cuts above g later i d box h less seen had left e
  ending_after_less before less seen had left e w s a m = record {
    placed = m.placed;
    says = m.says;
    settled = m.settled;
    lasts = m.lasts;
    ones = m.ones;
    apart = m.apart;
    fits = m.fits;
    spent = m.spent;
    exact = m.exact;
    opens = m.opens;
    gap = λ o q. let p : true ≡ false = sym (ended_last above later (list_after g later d) less seen s) ∙ q in cc;
    skips = λ e. ended_last above later (list_after g later d) less seen s;
    beaten = λ o.
        let none = subst (λ l. are_beaten l (firsts (before ++ seen)) (bounds seen) ≡ true) w (m.beaten o) in
        subst (λ l. are_beaten l (firsts (less ++ seen)) (bounds seen) ≡ true) (sym w) (none_beaten (firsts (before ++ seen)) (firsts (less ++ seen)) (bounds seen) none);
    keeps = λ reached k. m.keeps reached (among_through reached (firsts less) (firsts before) k a);
    long = m.long;
    sizes = m.sizes;
    closed = m.closed;
    foreseen = m.foreseen;
  }

  -- more turns may have been done
  pub ending_more : (before seen : List Seen) (had more left : ℕ) (e : Ending) → cuts ≡ true → had ≤ more → EndingMade cuts above g later i d box h before seen had left e → EndingMade cuts above g later i d box h before seen more left e
  ending_more before seen had more left e cut l m = record {
    placed = m.placed;
    says = m.says;
    settled = m.settled;
    lasts = m.lasts;
    ones = m.ones;
    apart = m.apart;
    fits = m.fits;
    spent = omega (arith, m.spent, l);
    exact = λ f. let q : true ≡ false = sym cut ∙ f in cc;
    opens = m.opens;
    gap = m.gap;
    skips = m.skips;
    beaten = m.beaten;
    keeps = m.keeps;
    long = m.long;
    sizes = m.sizes;
    closed = m.closed;
    foreseen = m.foreseen;
  }

-- so with its steps
pub part_after_less : (cuts : Bool) (above : ℤ → Bool) (g : Game) (later : List Scope) (i : ℕ) (d : List Condition) (box : Box) (h : Option ℕ) (before less : List Seen) (ms : List ℤ) (seen : List Seen) (had left : ℕ) (steps : List Step) (e : Ending) → scope_wishes later g d ≡ [] → is_settled later (list_after g later d) seen ≡ true → AreAmong (firsts less) (firsts before) →
    PartMade cuts above g later i d box h before ms seen had left steps e → PartMade cuts above g later i d box h less ms seen had left steps e
part_after_less cuts above g later i d box h before less ms seen had left steps e w s a p =
    let among = among_as (firsts (less ++ seen_bounds ms)) (firsts before) (firsts (before ++ seen_bounds ms)) (sym (firsts_marks before ms)) (subst (λ ns. AreAmong ns (firsts before)) (sym (firsts_marks less ms)) a) in
    record {
      last = p.last;
      both = p.both;
      stepped = p.stepped;
      marks_beaten = subst (λ l. are_beaten l (firsts less) ms ≡ true) (sym w) (none_beaten (firsts before) (firsts less) ms (subst (λ l. are_beaten l (firsts before) ms ≡ true) w p.marks_beaten));
      one = p.one;
      ended = ending_after_less cuts above g later i d (after_steps steps box) h (before ++ seen_bounds ms) (less ++ seen_bounds ms) p.last had left e w (sym (part_settled cuts above g later i d box h before ms seen had left steps e p) ∙ s) among p.ended;
    }
