-- What is told of a node that is due, of one that has ended, and of one that is passed over.
use Rattle.std.proofs.Common.{◌≡◌, ℕ, suc, ◌<◌, ◌+◌, ◌-◌, ◌^◌, min, Bool, true, false, List, [], ◌∷◌, ◌++◌, length, refl, sym, ap, ◌∙◌, subst, arith, ℤ, Option, Some, None}
use Rattle.qc_model.specs.declared.problem.Condition.{Condition}
use Rattle.qc_model.specs.Content.{Game}
use Rattle.qc_model.specs.Demands.{demands}
use Rattle.qc_model.specs.ForallVerdict.{goal_verdict}
use Rattle.qc_model.specs.Verdict.{Verdict, seen_node}
use Rattle.joins.specs.Seen.{verdict_of}
use Rattle.joins.specs.declared.leaves.Found.{Found}
use Rattle.joins.specs.Joins.{game_of as game_joined, KeepsAll, IsLong, out_of}
use Rattle.joins.specs.Sizes.{IsSized}
use Rattle.joins.specs.declared.joins.Joins.{Joins}
use Rattle.proof_tree.specs.Tree.{Tree}
use Rattle.proof_tree.specs.Counts.{turns_of}
use Rattle.proof_tree.specs.Lines.{tree_lines}
use Rattle.fd_store.specs.Held.{Held, trail_len, past_box}
use Rattle.check_lines.specs.declared.open.Open.{Open}
use Rattle.check_lines.specs.declared.open.Open.TheVariants.{Next, Branch}
use Rattle.check_lines.specs.declared.open.Due.{Due}
use Rattle.check_lines.specs.declared.open.Due.TheVariants as due
use Rattle.check_lines.specs.declared.machine.Machine.{Machine}
use Rattle.check_lines.specs.Awaited.{Awaited, node_awaited, prune_awaited, body_awaited, part_awaited, case_awaited, ranged_awaited}
use Rattle.check_lines.specs.Ledger.{Ledger, Entry, next_entry, branch_entry, node_closed}
use Rattle.check_lines.specs.LedgerHeld.{goes_through}
use Rattle.check_lines.specs.LedgerSizes.{KeepsSizes, KeepsSizesAt}
use Rattle.check_lines.specs.Machine.{game_of, AreFrames, IsSound, IsAtNode, IsReady, IsReadyAt}
use Rattle.check_lines.specs.Passed.{is_in_case, IsPassed, DueTold, EndedTold}
use Rattle.check_lines.specs.Passing.{IsSame}
use Rattle.check_lines.specs.Telling.{AreEntries, IsNode, IsNodeEnd, GoesUp, came, node_at, node_ended, TellsNode, TellsPart, TellsClosed, TellsAt, Tells, TellsAfter}
use Rattle.check_lines.proofs.AtNodes.{alone_closes}
use Rattle.check_lines.proofs.LedgerSizes.{keeps_through}
use Rattle.check_lines.proofs.Passes.{passes}
use Rattle.check_lines.proofs.SameTold.{the_same, tells_same}

-- as much is open in a ledger as in the machine
as_many : (g : Game) (s : Held) (vs : List ℤ) (js : Joins) (i : ℕ) (fs : List Open) (es : List Entry) → AreEntries g s vs js i fs es → length es ≡ length fs
as_many g s vs js i [] [] h = refl
as_many g s vs js i [] (e ∷ es) h = absurd h
as_many g s vs js i (Next z ∷ fs) [] h = absurd h
as_many g s vs js i (Next z ∷ fs) (branch_entry b ∷ es) h = absurd h
as_many g s vs js i (Next z ∷ fs) (next_entry xs a y ∷ es) h = ap suc (as_many g s vs js (i - 1) fs es h.3)
as_many g s vs js i (Branch x mark from ∷ fs) [] h = absurd h
as_many g s vs js i (Branch x mark from ∷ fs) (next_entry xs a y ∷ es) h = absurd h
as_many g s vs js i (Branch x mark from ∷ fs) (branch_entry b ∷ es) h = ap suc (as_many g s vs js i fs es h.1)

-- a node that is due
pub due_told : (m : Machine) (p : Option Ledger) → m.due ≡ due.Node → Tells m p → DueTold m p
due_told m p e t =
    let h : TellsNode m node_awaited p = subst (λ u. TellsAt m u p) e t in
    record {
      ledger = node_at m h.0 h.1 node_awaited;
      is = h.3;
      awaited = refl;
      number = refl;
      horizon = refl;
      box = refl;
      depth = as_many (game_of m) m.remains m.values.items m.joins m.number m.nesting h.1 h.2.entries;
      turns = h.2.counts.0;
    }

-- where another line may come, and no node waits to be left
pub open_told : (m : Machine) (d : Ledger) → (m.due ≡ due.Closed → ⊥) → (m.due ≡ due.Ended → ⊥) → (m.due ≡ due.Wrong → ⊥) → Tells m (Some d) → length d.entries ≡ length m.nesting
open_told m d left going right t = by m.due refl t
  where
    same : (e : Ledger) → ◌≡◌ {A = Option Ledger} (Some d) (Some e) → length d.entries ≡ length e.entries
    same e q = cc

    many : (es : List Entry) → AreEntries (game_of m) m.remains m.values.items m.joins m.number m.nesting es → length es ≡ length m.nesting
    many es h = as_many (game_of m) m.remains m.values.items m.joins m.number m.nesting es h

    at_node : (w : Awaited) → TellsNode m w (Some d) → length d.entries ≡ length m.nesting
    at_node w h = same _ h.3 ∙ many h.1 h.2.entries

    in_part : (w : Awaited) → TellsPart m w (Some d) → length d.entries ≡ length m.nesting
    in_part w h = same _ h.4 ∙ many h.1 h.3.entries

    by : (u : Due) → m.due ≡ u → TellsAt m u (Some d) → length d.entries ≡ length m.nesting
    by due.Node e h = at_node node_awaited h
    by (due.Prune k mark) e h = at_node (prune_awaited k (past_box m.remains mark.at)) h
    by due.Body e h = at_node body_awaited h
    by due.Part e h = in_part part_awaited h
    by due.Case e h = in_part case_awaited h
    by (due.Ranged high) e h = in_part (ranged_awaited high) h
    by due.Closed e h = absurd (left e)
    by due.Ended e h = absurd (going e)
    by due.Wrong e h = absurd (right e)

-- a node that has ended, in a case of a branch
pub ended_told : (m : Machine) (p : Option Ledger) → IsReady m → m.due ≡ due.Closed → is_in_case m.nesting ≡ true → Tells m p → EndedTold m p
ended_told m p ready closed case t = by m.nesting h.2 refl case s.frames h.5.node.entries h.5.sizes h.6
  where
    g : Game
    g = game_of m

    s : IsSound m
    s = subst (IsReadyAt m) closed ready

    h : TellsClosed m p
    h = subst (λ u. TellsAt m u p) closed t

    by : (fs : List Open) (es : List Entry) → m.nesting ≡ fs → is_in_case fs ≡ true → AreFrames g m.remains m.values.items m.number (trail_len m.remains) fs → AreEntries g m.remains m.values.items m.joins m.number fs es →
        GoesUp g h.0 es m.number h.3 → IsSame (came g h.1 es m.number m.horizon h.3 m.own) h.4 → EndedTold m p
    by [] es e c f a k q = cc
    by (Branch x mark from ∷ fs) es e c f a k q = cc
    by (Next y ∷ []) es e c f a k q = cc
    by (Next y ∷ Next z ∷ fs) es e c f a k q = cc
    by (Next y ∷ Branch x mark from ∷ fs) [] e c f a k q = absurd a
    by (Next y ∷ Branch x mark from ∷ fs) (branch_entry b ∷ es) e c f a k q = absurd a
    by (Next y ∷ Branch x mark from ∷ fs) (next_entry up above z ∷ []) e c f a k q = absurd a.3
    by (Next y ∷ Branch x mark from ∷ fs) (next_entry up above z ∷ next_entry xs b w ∷ es) e c f a k q = absurd a.3
    by (Next y ∷ Branch x mark from ∷ fs) (next_entry up above z ∷ branch_entry b ∷ es) e c f a k q =
        let many = as_many g m.remains m.values.items m.joins (m.number - 1) (Branch x mark from ∷ fs) (branch_entry b ∷ es) a.3 in
        let some = f.0 in
        let next : suc (m.number - 1) ≡ m.number = omega (arith, some) in
        record {
          ledger = h.4;
          is = h.7;
          awaited = sym q.awaited;
          depth = let size = ap length e in let kept = ap length q.entries in omega (arith, size, kept, many);
          before = up;
          seen = sym (q.seen (λ n. cc)) ∙ ap (λ v. up ++ seen_node v ∷ []) h.5.verdict;
          long = subst (IsLong g m.number) h.5.verdict (subst (λ i. IsLong g i h.3) next k.1.long);
          turns = sym q.turns ∙ h.5.node.counts.0;
          opens = sym q.has_open ∙ h.5.node.counts.1;
        }

-- with nothing demanded the values don't matter
pub plain_goal : (g : Game) (won : Bool) (ds : List Condition) (a : List ℤ) → ds ≡ [] → goal_verdict g won ds a ≡ goal_verdict g won [] []
plain_goal g won ds a e = ap (λ cs. goal_verdict g won cs a) e ∙ by won
  where
    by : (b : Bool) → goal_verdict g b [] a ≡ goal_verdict g b [] []
    by true = refl
    by false = refl

-- a node is passed over: with its turns, the machine tells what the lines of its tree lead to
module _ (m : Machine) (w : IsAtNode m) (count : ℕ) (js : Joins) (f : Found) (all : KeepsAll m.joins js) (same : game_joined js ≡ game_joined m.joins) where
  abbrev counted : Machine
  counted = record m { turns = count }

  abbrev found : Machine
  found = record m { turns = count; joins = js; found = f; own = None }

  counted_node : IsAtNode counted
  counted_node =
      let s = w.sound in
      record {
        sound = record {
          laws = s.laws;
          tracks = s.tracks;
          joined = s.joined;
          valued = s.valued;
          value_each = s.value_each;
          numbers = s.numbers;
          declared = s.declared;
          inside = s.inside;
          placed = s.placed;
          frames = s.frames;
          read = s.read;
        };
        full = w.full;
      }

  module _ (won : Bool) (took : ℕ) (new : Machine) (closes : (n : ℕ) (d : Ledger) (es : List Entry) (v : Verdict) → IsNodeEnd n found d es v → Tells new (Some (node_ended found d es v)))
      (counts : count ≡ min (m.turns + took) (2 ^ 64 - 1)) (plain : (i : ℕ) → demands (game_of m) i ≡ []) (comes : goal_verdict (game_of m) won [] [] ≡ verdict_of f (out_of js)) where
    passed_from : (n : ℕ) (d : Ledger) (es : List Entry) (t : Tree) → n < 4294967296 → IsNode m d es → KeepsSizes (game_of m) n (node_at m d es node_awaited) → IsPassed (game_of m) (node_at m d es node_awaited) t won took →
        Tells new (goes_through (game_of m) (Some (node_at m d es node_awaited)) (tree_lines t))
    passed_from n d es t few node sizes q =
        let g = game_of m in
        let i = m.number in
        let v = goal_verdict g won [] [] in
        let base = node_at m d es node_awaited in
        let r = passes g q.tally q.above base t v refl q.stands q.placed q.verdict q.own q.opens q.shallow in
        let sums : min (d.turns + turns_of t) (2 ^ 64 - 1) ≡ count = ap (λ k. min (k + turns_of t) (2 ^ 64 - 1)) node.counts.0 ∙ (ap (λ k. min (m.turns + k) (2 ^ 64 - 1)) q.turns ∙ sym counts) in
        let closed : (k : ℕ) → Ledger = λ k. let c : Ledger = record base { turns = k } in node_closed g c es i m.horizon v in
        let told =
        alone_closes counted js f counted_node (λ j xs l h. all j xs h) same new v n (record d { turns = count }) es node_awaited closes comes
        (subst (λ ds. IsLong g i (goal_verdict g won ds [])) (plain i) (w.sound.laws.goal_long i [] won))
        (subst (λ ds. IsSized 1 (goal_verdict g won ds [])) (plain i) (w.sound.laws.goal_sized i [] won refl))
        few (record { counts = (refl, node.counts.1); entries = node.entries }) sizes.waits.entries in
        subst (Tells new) (sym r.1) (tells_same new (closed count) r.0 (subst (λ k. IsSame (closed k) r.0) sums r.2) told)

    pub passed_tells : m.due ≡ due.Node → game_of new ≡ game_of m → (n : ℕ) (p : Option Ledger) (d : Ledger) (t : Tree) → n < 4294967296 → TellsAfter n m p → p ≡ Some d → IsPassed (game_of m) d t won took →
        TellsAfter (n + length (tree_lines t)) new (goes_through (game_of m) p (tree_lines t))
    passed_tells node back n p d t few k is q =
        let g = game_of m in
        let h : TellsNode m node_awaited p = subst (λ u. TellsAt m u p) node k.tells in
        let base = node_at m h.0 h.1 node_awaited in
        let here : d ≡ base = the_same d base (sym is ∙ h.3) in
        record {
          tells = subst (λ o. Tells new (goes_through g o (tree_lines t))) (sym h.3) (passed_from n h.0 h.1 t few h.2 (subst (KeepsSizesAt g n) h.3 k.sizes) (subst (λ c. IsPassed g c t won took) here q));
          sizes = subst (λ u. KeepsSizesAt u (n + length (tree_lines t)) (goes_through g p (tree_lines t))) (sym back) (keeps_through g w.sound.laws (tree_lines t) n p k.sizes);
        }
