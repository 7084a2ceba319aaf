-- A part of a scope's own tree in another place than it was made at, after more or less than was seen before it: where bounds speak
-- of nothing, only what ends the scope counts.
use Rattle.std.proofs.Common.{◌≡◌, ◌∙◌, ◌≤◌, ◌+◌, ◌++◌, refl, sym, ap, subst, ℕ, suc, Bool, true, false, ◌&&◌, ◌||◌, Option, None, List, [], ◌∷◌, append_assoc, ℤ}
use Rattle.std.specs.Prelude.{◌⊎◌}
use Rattle.qc_model.specs.declared.problem.Kind.{Kind}
use Rattle.qc_model.specs.declared.problem.Kind.TheVariants.{Exists, Forall}
use Rattle.qc_model.specs.declared.problem.Condition.{Condition}
use Rattle.qc_model.specs.declared.problem.Scope.{Scope}
use Rattle.qc_model.specs.Block.{of_kind}
use Rattle.qc_model.specs.Content.{Game}
use Rattle.qc_model.specs.Demands.{demands_after}
use Rattle.qc_model.specs.Domains.{Box, Values, values_left}
use Rattle.qc_model.specs.Verdict.{Seen, bounds}
use Rattle.proof_tree.specs.declared.tree.Step.{Step}
use Rattle.proof_tree.specs.Counts.{ending_turns, ending_opens}
use Rattle.proof_tree.specs.Cover.{covered, uncovered, box_to}
use Rattle.proof_tree.specs.Incumbents.{has_no_worse, first_values, keeps, ending_keeps, branches_keep, case_keeps}
use Rattle.proof_tree.specs.Place.{Tracked, tracked_first, tracked_variable, next_scopes, list_after}
use Rattle.proof_tree.specs.Read.{case_leaves}
use Rattle.proof_tree.specs.Steps.{after_steps}
use Rattle.proof_tree.specs.Tree.{Ending, empty, barred, next, branch, Branches, no_more, piece, Case, skip, left_open, go}
use Rattle.joins.specs.Verdicts.{kind_wishes, scope_wishes}
use Rattle.search_parts.specs.Beaten.{firsts, seen_bounds, are_beaten}
use Rattle.search_parts.specs.Settled.{is_ended}
use Rattle.search_parts.specs.Made.{EndingMade, PartMade}
use Rattle.search_parts.proofs.Beating.{among_none, none_beaten}
use Rattle.search_parts.proofs.Outdone.{ended-append}
use Rattle.search_parts.proofs.Stepping.{part_whole}

-- where bounds speak of nothing, no variable is tracked
untracked : (g : Game) (later : List Scope) (i : ℕ) (d : List Condition) → scope_wishes later g d ≡ [] → tracked_variable g later i (list_after g later d) ≡ None
untracked g [] i d e = refl
untracked g (s ∷ later) i d e = by s.kind s.condition e
  where
    by : (k : Kind) (own : Option Condition) → kind_wishes k own g d ≡ [] → of_kind k (tracked_first g later (suc i) (demands_after g k own d)) None ≡ None
    by Exists own e = ap (tracked_first g later (suc i)) e
    by Forall own e = refl

-- then incumbents are kept whatever was reached before
module _ (g : Game) (later : List Scope) (i : ℕ) (d : List Condition) (none : tracked_variable g later i (list_after g later d) ≡ None) where
  worse_free : (box : Box) (ns ms : List ℤ) → has_no_worse (tracked_variable g later i (list_after g later d)) ns box ≡ has_no_worse (tracked_variable g later i (list_after g later d)) ms box
  worse_free box ns ms = ap (λ (t : Option Tracked). has_no_worse t ns box) none ∙ ap (λ (t : Option Tracked). has_no_worse t ms box) (sym none)

  mutual
    ending_free : (e : Ending) (box : Box) (ns ms : List ℤ) → ending_keeps g e later i d box ns ≡ ending_keeps g e later i d box ms
    ending_free empty box ns ms = refl
    ending_free barred box ns ms = refl
    ending_free (next t) box ns ms = ap (λ b. b && keeps g t (next_scopes later) (suc i) (list_after g later d) box) (worse_free box ns ms)
    ending_free (branch x bs) box ns ms =
        ap (λ b. b && branches_keep g bs x.0 (values_left box x.0) later i d box ns) (worse_free box ns ms)
        ∙ ap (λ b. has_no_worse (tracked_variable g later i (list_after g later d)) ms box && b) (branches_free bs x.0 (values_left box x.0) box ns ms)

    branches_free : (bs : Branches) (x : ℕ) (vs : Values) (box : Box) (ns ms : List ℤ) → branches_keep g bs x vs later i d box ns ≡ branches_keep g bs x vs later i d box ms
    branches_free no_more x vs box ns ms = refl
    branches_free (piece upto c bs) x vs box ns ms =
        let at = box_to box x (covered upto vs) in
        let more = first_values (case_leaves g c later i d at) in
        ap (λ b. b && branches_keep g bs x (uncovered upto vs) later i d box (ns ++ more)) (case_free c at ns ms)
        ∙ ap (λ b. case_keeps g c later i d at ms && b) (branches_free bs x (uncovered upto vs) box (ns ++ more) (ms ++ more))

    case_free : (c : Case) (box : Box) (ns ms : List ℤ) → case_keeps g c later i d box ns ≡ case_keeps g c later i d box ms
    case_free skip box ns ms = refl
    case_free left_open box ns ms = refl
    case_free (go steps e) box ns ms = ending_free e (after_steps steps box) ns ms

only_true : (a b : Bool) → (a ≡ true → b ≡ true) → b ≡ false → a ≡ false
only_true false b f e = refl
only_true true b f e = let q : true ≡ false = sym (f refl) ∙ e in cc

module _ (cuts : Bool) (above : ℤ → Bool) (g : Game) (later : List Scope) (i : ℕ) (d : List Condition) (box : Box) (h : Option ℕ) where
  abbrev Ends : List Seen → Bool
  Ends seen = is_ended above later (list_after g later d) seen

  ending_elsewhere : (before others seen : List Seen) (had left : ℕ) (e : Ending) → scope_wishes later g d ≡ [] → (Ends (before ++ seen) ≡ true → Ends (others ++ seen) ≡ true) → EndingMade cuts above g later i d box h before seen had left e → EndingMade cuts above g later i d box h others seen had left e
  ending_elsewhere before others seen had left e w f m = record {
    placed = m.placed;
    says = m.says;
    settled = m.settled;
    lasts = m.lasts;
    ones = m.ones;
    apart = m.apart;
    fits = m.fits;
    spent = m.spent;
    exact = m.exact;
    opens = m.opens;
    gap = λ o q. m.gap o (only_true (Ends (before ++ seen)) (Ends (others ++ seen)) f q);
    skips = λ s. f (m.skips s);
    beaten = λ o.
        let none = subst (λ l. are_beaten l (firsts (before ++ seen)) (bounds seen) ≡ true) w (m.beaten o) in
        subst (λ l. are_beaten l (firsts (others ++ seen)) (bounds seen) ≡ true) (sym w) (none_beaten (firsts (before ++ seen)) (firsts (others ++ seen)) (bounds seen) none);
    keeps = λ reached k. ending_free g later i d (untracked g later i d w) e box reached [] ∙ m.keeps [] (among_none (firsts before));
    long = m.long;
    sizes = m.sizes;
    closed = m.closed;
    foreseen = m.foreseen;
  }

  ending_turned : (before seen : List Seen) (had left more last : ℕ) (e : Ending) → cuts ≡ true → ending_turns e + last ≤ more → ((ending_opens e ≡ 0) ⊎ (last ≡ 0)) → EndingMade cuts above g later i d box h before seen had left e → EndingMade cuts above g later i d box h before seen more last e
  ending_turned before seen had left more last e cut spent opens m = record {
    placed = m.placed;
    says = m.says;
    settled = m.settled;
    lasts = m.lasts;
    ones = m.ones;
    apart = m.apart;
    fits = m.fits;
    spent = spent;
    exact = λ f. let q : true ≡ false = sym cut ∙ f in cc;
    opens = opens;
    gap = m.gap;
    skips = m.skips;
    beaten = m.beaten;
    keeps = m.keeps;
    long = m.long;
    sizes = m.sizes;
    closed = m.closed;
    foreseen = m.foreseen;
  }

module _ (cuts : Bool) (above : ℤ → Bool) (g : Game) (later : List Scope) (i : ℕ) (d : List Condition) (box : Box) (h : Option ℕ) where
  abbrev HasEnded : List Seen → Bool
  HasEnded seen = is_ended above later (list_after g later d) seen

  -- a part may stand after others than it was made after, where with it they end the scope if those do
  pub part_elsewhere : (before others : List Seen) (ms : List ℤ) (seen : List Seen) (had left : ℕ) (steps : List Step) (e : Ending) → scope_wishes later g d ≡ [] → (HasEnded (before ++ seen) ≡ true → HasEnded (others ++ seen) ≡ true) →
      PartMade cuts above g later i d box h before ms seen had left steps e → PartMade cuts above g later i d box h others ms seen had left steps e
  part_elsewhere before others ms seen had left steps e w f p =
      let here : (before ++ seen_bounds ms) ++ p.last ≡ before ++ seen = part_whole cuts above g later i d box h before ms seen had left steps e p in
      let there : (others ++ seen_bounds ms) ++ p.last ≡ others ++ seen = append_assoc others (seen_bounds ms) p.last ∙ ap (λ xs. others ++ xs) (sym p.both) in
      record {
        last = p.last;
        both = p.both;
        stepped = p.stepped;
        marks_beaten = subst (λ l. are_beaten l (firsts others) ms ≡ true) (sym w) (none_beaten (firsts before) (firsts others) ms (subst (λ l. are_beaten l (firsts before) ms ≡ true) w p.marks_beaten));
        one = p.one;
        ended = ending_elsewhere cuts above g later i d (after_steps steps box) h (before ++ seen_bounds ms) (others ++ seen_bounds ms) p.last had left e w (λ q. ap HasEnded there ∙ f (ap HasEnded (sym here) ∙ q)) p.ended;
      }

  -- after more it may stand anyhow
  pub part_after_more : (before more : List Seen) (ms : List ℤ) (seen : List Seen) (had left : ℕ) (steps : List Step) (e : Ending) → scope_wishes later g d ≡ [] →
      PartMade cuts above g later i d box h before ms seen had left steps e → PartMade cuts above g later i d box h (before ++ more) ms seen had left steps e
  part_after_more before more ms seen had left steps e w p =
      part_elsewhere before (before ++ more) ms seen had left steps e w (λ q. (ended-append above later (list_after g later d) (before ++ more) seen ∙ ap (λ b. b || HasEnded seen) (ended-append above later (list_after g later d) before more)) ∙ three (HasEnded before) (HasEnded more) (HasEnded seen) (sym (ended-append above later (list_after g later d) before seen) ∙ q)) p
    where
      three : (a b c : Bool) → (a || c) ≡ true → ((a || b) || c) ≡ true
      three true b c e = refl
      three false true c e = refl
      three false false c e = e

  -- and without what ends nothing
  pub part_beside : (before aside others : List Seen) (ms : List ℤ) (seen : List Seen) (had left : ℕ) (steps : List Step) (e : Ending) → scope_wishes later g d ≡ [] → HasEnded aside ≡ false →
      PartMade cuts above g later i d box h (before ++ (aside ++ others)) ms seen had left steps e → PartMade cuts above g later i d box h (before ++ others) ms seen had left steps e
  part_beside before aside others ms seen had left steps e w n p =
      let joined = ended-append above later (list_after g later d) in
      let whole : HasEnded ((before ++ (aside ++ others)) ++ seen) ≡ ((HasEnded before || HasEnded others) || HasEnded seen) =
      joined (before ++ (aside ++ others)) seen
      ∙ ap (λ b. b || HasEnded seen) (joined before (aside ++ others) ∙ ap (λ b. HasEnded before || b) (joined aside others ∙ ap (λ b. b || HasEnded others) n)) in
      let less : HasEnded ((before ++ others) ++ seen) ≡ ((HasEnded before || HasEnded others) || HasEnded seen) =
      joined (before ++ others) seen ∙ ap (λ b. b || HasEnded seen) (joined before others) in
      part_elsewhere (before ++ (aside ++ others)) (before ++ others) ms seen had left steps e w (λ q. less ∙ (sym whole ∙ q)) p

  -- its turns may be counted from others, where the search cuts
  pub part_turns : (before : List Seen) (ms : List ℤ) (seen : List Seen) (had left more last : ℕ) (steps : List Step) (e : Ending) → cuts ≡ true → ending_turns e + last ≤ more → ((ending_opens e ≡ 0) ⊎ (last ≡ 0)) →
      PartMade cuts above g later i d box h before ms seen had left steps e → PartMade cuts above g later i d box h before ms seen more last steps e
  part_turns before ms seen had left more last steps e cut spent opens p = record {
    last = p.last;
    both = p.both;
    stepped = p.stepped;
    marks_beaten = p.marks_beaten;
    one = p.one;
    ended = ending_turned cuts above g later i d (after_steps steps box) h (before ++ seen_bounds ms) p.last had left more last e cut spent opens p.ended;
  }
