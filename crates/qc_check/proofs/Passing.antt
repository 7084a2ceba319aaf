-- A node that is passed over: what was read then, and how the nodes stand that it is within.
use Rattle.std.proofs.Common.{◌≡◌, ◌≤◌, ◌<◌, ◌+◌, ◌-◌, ◌^◌, ℕ, suc, Bool, true, false, ◌&&◌, List, [], ◌∷◌, ◌++◌, length, take, drop, refl, sym, ap, ◌∙◌, subst, arith, length-append, length-drop, append_assoc, Option, Some, None, IsTrue, ℤ}
use Rattle.std.specs.Prelude.{flat_map}
use Rattle.std.specs.List.{list_all}
use Rattle.std.proofs.Math.Seq.{take-add}
use Rattle.std.proofs.lemmas.Bool.{and_from}
use Rattle.std.proofs.lemmas.Grind.{flat_map-append}
use Rattle.std.proofs.lemmas.List.{length-take-le, drop-append-le}
use Rattle.std.proofs.lemmas.List.Folds.{list_all-append}
use Rattle.qc_model.specs.Content.{Game}
use Rattle.qc_model.specs.ForallVerdict.{goal_verdict}
use Rattle.proof_tree.specs.declared.tree.Version.TheVariants.{Two}
use Rattle.proof_tree.specs.declared.line.Line.{Line}
use Rattle.proof_tree.specs.declared.line.Line.TheVariants.{Horizon as HorizonLine, Prune as PruneLine, Bound as BoundLine, Dot, Stuck, Goal, Empty, Barred, Next, Branch, Skip, Open, Range}
use Rattle.proof_tree.specs.Counts.{depth_of}
use Rattle.proof_tree.specs.Lines.{horizon_lines, tree_lines, body_lines, ending_lines}
use Rattle.proof_tree.specs.Text.{line_text, tree_fits}
use Rattle.proof_tree.specs.Tree.{Tree, tree, Body, stuck, goal, cases, Ending, empty, barred, next, branch}
use Rattle.proof_text.specs.Answers.{Told, nothing, headed, tell_all, is_nothing, StandsFor}
use Rattle.proof_text.specs.LineRanges.{line_fits}
use Rattle.proof_text.specs.Places.{BeginsText}
use Rattle.proof_text.specs.Readings.{Reading}
use Rattle.proof_text.proofs.FittingLines.{tree_fitting}
use Rattle.likeness.specs.Likeness.{IsLike, line_looks, decided_as}
use Rattle.likeness.proofs.Likes.{like_kept}
use Rattle.likeness.proofs.Lines.{lines_look_before}
use Rattle.check_memory.specs.declared.node.Met.{Met}
use Rattle.check_memory.specs.Known.{Decides, IsKnownBy, IsMet}
use Rattle.check_lines.specs.declared.machine.Machine.{Machine}
use Rattle.check_lines.specs.declared.passing.NodeDue.{NodeDue}
use Rattle.check_lines.specs.Awaited.{node_awaited}
use Rattle.check_lines.specs.Ledger.{Ledger, Entry, place_at, goes}
use Rattle.check_lines.specs.LedgerHeld.{Tells as Stands, AboveIs, WithinIs, first_ledger, goes_through}
use Rattle.check_lines.specs.Machine.{game_of}
use Rattle.check_lines.specs.Passed.{IsDueIn, IsPassed, DueTold}
use Rattle.check_lines.specs.State.{Own, Above, at_root, below, Within, whole_tree, in_case, State, node_due, prune_due, body_due, end_due, case_due, ranged_due, ended, wrong, run}
use Rattle.check_lines.specs.Tally.{Tally, nothing as no_tally, ◌&◌}
use Rattle.check_lines.specs.Telling.{TellsAfter}
use Rattle.check_lines.specs.Under.{alone, is_over, IsUnder}
use Rattle.check_lines.proofs.LedgerRight.{Follows, follows}
use Rattle.check_lines.proofs.Onto.{above_on, within_on, onto, run_on}
use Rattle.check_lines.proofs.Passed.{due_told}
use Rattle.check_lines.proofs.Sums.{same_tally}
use Rattle.check_lines.proofs.Under.{under_node, under_node_ends}
use Rattle.qc_check.specs.declared.progress.Checker.{Checker}
use Rattle.qc_check.specs.declared.stated.Stated.{Stated}
use Rattle.qc_check.specs.Checking.{lines_told, HeadIs, IsReading}
use Rattle.qc_check.specs.Keeping.{GoesOn, MayEnd, IsStart, AreStarts, AreStartsOf, ledger_told, IsKeeping, values_due}
use Rattle.qc_check.specs.Places.{StartHeld}
use Rattle.qc_check.proofs.Beginning.{IsDueAt, due_under}

-- each line has a byte at least, and each tree a line
pub some_text : (l : Line) → 0 < length (line_text l)
some_text (HorizonLine k) = omega arith
some_text (PruneLine x low high c) = omega arith
some_text (BoundLine x low high) = omega arith
some_text Dot = omega arith
some_text Stuck = omega arith
some_text Goal = omega arith
some_text Empty = omega arith
some_text Barred = omega arith
some_text Next = omega arith
some_text (Branch x) = omega arith
some_text Skip = omega arith
some_text Open = omega arith
some_text (Range high) = omega arith

as_long : (ls : List Line) → length ls ≤ length (flat_map line_text ls)
as_long [] = omega arith
as_long (l ∷ ls) =
    let one = some_text l in
    let more = as_long ls in
    rw length-append (omega (arith, one, more))

after_some : (xs ys : List Line) → 0 < length ys → 0 < length (xs ++ ys)
after_some xs ys h = rw length-append (omega (arith, h))

some_lines : (t : Tree) → 0 < length (tree_lines t)
some_lines (tree z c) = after_some (horizon_lines z) (body_lines c) (in_body c)
  where
    in_ending : (e : Ending) → 0 < length (ending_lines e)
    in_ending empty = omega arith
    in_ending barred = omega arith
    in_ending (next t) = omega arith
    in_ending (branch x bs) = omega arith

    in_body : (c : Body) → 0 < length (body_lines c)
    in_body stuck = omega arith
    in_body goal = omega arith
    in_body (cases steps end) = after_some _ (ending_lines end) (in_ending end)

-- lines that are told after others
through_more : (g : Game) (ls ks : List Line) (p : Option Ledger) → goes_through g p (ls ++ ks) ≡ goes_through g (goes_through g p ls) ks
through_more g [] ks p = refl
through_more g (l ∷ ls) ks p = through_more g ls ks (goes g p l)

told_more : (told : Told) (ls : List Line) → is_nothing told ≡ false → lines_told (tell_all told ls) ≡ lines_told told ++ ls
told_more nothing ls e = cc
told_more (headed v o p ks) ls e = refl

abbrev grown : Told → List Line → Told
grown nothing ls = nothing
grown (headed v o p ks) ls = headed v o p (ks ++ ls)

head_more : (h : Option Stated) (told : Told) (ls : List Line) → is_nothing told ≡ false → HeadIs h told → HeadIs h (tell_all told ls)
head_more h nothing ls e k = cc
head_more None (headed v o p ks) ls e k = cc
head_more (Some s) (headed v o p ks) ls e (w, us, k) = (w, us ++ ls, ap (λ t. grown t ls) k)

ledger_more : (g : Game) (told : Told) (ls : List Line) → is_nothing told ≡ false → ledger_told g (tell_all told ls) ≡ goes_through g (ledger_told g told) ls
ledger_more g told ls e = ap (goes_through g (Some (first_ledger g))) (told_more told ls e) ∙ through_more g (lines_told told) ls (Some (first_ledger g))

-- what is due within a node stands in no earlier scope than the node
module _ (g : Game) (o : Own) (w : List ℤ) (rest : Within) where
  mutual
    above_later : (above : Above) (es : List Entry) (i : ℕ) → AboveIs g (above_on (below o w rest) above) es i → suc o.spot.number ≤ i
    above_later at_root es i h = let same : o.spot.number ≡ h.4 = ap (λ s. s.number) h.7.place in let next = h.6 in omega (arith, same, next)
    above_later (below p v around) es i h = let more = within_later around h.3 h.4 h.8 in let next = h.6 in omega (arith, more, next)

    within_later : (around : Within) (es : List Entry) (i : ℕ) → WithinIs g (within_on (below o w rest) around) es i → suc o.spot.number ≤ i
    within_later (whole_tree above) es i h = above_later above es i h
    within_later (in_case b around) es i h = within_later around h.0 i h.2

  state_later : (n : Tally) (x : State) (p : Ledger) → is_over x ≡ false → Stands g (onto g n (below o w rest) x) p → suc o.spot.number ≤ p.number
  state_later n (node_due m above s box) p e h = above_later above p.entries p.number h.2.frames
  state_later n (prune_due m above s k box left) p e h = above_later above p.entries p.number h.2.frames
  state_later n (body_due m above s box) p e h = above_later above p.entries p.number h.2.frames
  state_later n (end_due m around own box) p e h = within_later around p.entries p.number h.2.frames
  state_later n (case_due m around own b) p e h = within_later around h.1.more p.number h.1.frames
  state_later n (ranged_due m around own b high) p e h = within_later around h.1.more p.number h.1.frames
  state_later n (ended m f) p e h = cc
  state_later n wrong p e h = cc

-- so a node that is due, and one that it is within
nothing_before : (n : Tally) → (n & no_tally) ≡ n
nothing_before n = same_tally (n & no_tally) n (and_true n.in_place) (omega arith) (omega arith)
  where
    and_true : (b : Bool) → (b && true) ≡ b
    and_true true = refl
    and_true false = refl

later : (g : Game) (d : Ledger) (ls : List Line) (p : Ledger) → IsUnder g d ls p → d.number ≤ p.number
later g d ls p u = by u.above u.stands (subst (λ s. Stands g s p) (run_on g u.tally u.above ls (alone g d) u.on) there)
  where
    from : onto g u.tally u.above (alone g d) ≡ node_due u.tally u.above (place_at g d.number d.horizon) d.box
    from = ap (λ m. node_due m u.above (place_at g d.number d.horizon) d.box) (nothing_before u.tally)

    there : Stands g (run g (onto g u.tally u.above (alone g d)) ls) p
    there =
        subst (Follows g (run g (onto g u.tally u.above (alone g d)) ls)) u.now
        (follows g ls (onto g u.tally u.above (alone g d)) (Some d) (subst (λ s. Stands g s d) (sym from) u.stands))

    by : (top : Above) → Stands g (node_due u.tally top (place_at g d.number d.horizon) d.box) d → Stands g (onto g u.tally top (run g (alone g d) ls)) p → d.number ≤ p.number
    by at_root h k = let none = ap length h.2.frames in let some = u.some in absurd (omega (arith, none, some))
    by (below o w rest) h k =
        let same : o.spot.number ≡ h.2.frames.4 = ap (λ s. s.number) h.2.frames.7.place in
        let next = h.2.frames.6 in
        let most = state_later g o w rest u.tally (run g (alone g d) ls) p u.on k in
        omega (arith, same, next, most)

-- the lines of a node come after those of each node that it is within
module _ (g : Game) (p e : Ledger) (t : Tree) (front text : List ℕ) (ends : text ≡ flat_map line_text (tree_lines t)) (fits : IsTrue (tree_fits Two t)) (looks : IsTrue (list_all (line_looks g p.number) (tree_lines t)))
    (node : p.awaited ≡ node_awaited) (comes : goes_through g (Some p) (tree_lines t) ≡ Some e) where
  both_pass : (test : Line → Bool) (xs ys : List Line) → IsTrue (list_all test xs) → IsTrue (list_all test ys) → IsTrue (list_all test (xs ++ ys))
  both_pass test xs ys h k = list_all-append test xs ys ∙ and_from (list_all test xs) (list_all test ys) h k

  start_passes : (s : StartHeld) → IsStart GoesOn g front p s → IsStart MayEnd g (front ++ text) e s
  start_passes s k =
      let ls = k.lines in
      let before : s.start.node.scope ≤ p.number = (let low = later g k.ledger ls p k.stands in let own = k.scope in omega (arith, low, own)) in
      let within = k.within in
      record {
        ledger = k.ledger;
        lines = ls ++ tree_lines t;
        stands = (λ h. under_node g k.ledger ls p t e k.stands node comes h, λ h. under_node_ends g k.ledger ls p t e k.stands node comes h);
        scope = k.scope;
        horizon = k.horizon;
        depth = k.depth;
        turns = k.turns;
        within = rw length-append (omega (arith, within));
        text = drop-append-le s.start.at front text within ∙ (ap (λ xs. xs ++ text) k.text ∙ (ap (λ xs. flat_map line_text ls ++ xs) ends ∙ sym (flat_map-append line_text ls (tree_lines t))));
        fits = both_pass line_fits ls (tree_lines t) k.fits (tree_fitting Two t fits);
        looks = both_pass (line_looks g s.start.node.scope) ls (tree_lines t) k.looks (lines_look_before g s.start.node.scope p.number (tree_lines t) before looks);
        like = k.like;
      }

  starts_pass : (ss : List StartHeld) → AreStarts GoesOn g front p ss → AreStarts MayEnd g (front ++ text) e ss
  starts_pass [] h = h
  starts_pass (s ∷ ss) h = (start_passes s h.0, h.1, starts_pass ss h.2)

-- a tree that decides the node that is due
passes_here : (g : Game) (ls : List Line) (m : Machine) (d : Ledger) (due : NodeDue) (t : Tree) (won : Bool) (taken depth : ℕ) (kept : List ℤ) (text : List ℕ) → goes_through g (Some (first_ledger g)) ls ≡ Some d →
    IsDueAt m d → IsDueIn m due → (due.depth ≡ 0 → ⊥) → due.depth ≤ depth → IsKnownBy g due.scope due.horizon kept won taken depth text t → IsLike g due.scope kept m.remains.box → IsPassed g d t won taken
passes_here g ls m d due t won taken depth kept text e k is some fits known like =
    let deep : length d.entries ≡ due.depth = k.depth ∙ sym is.depth in
    let many = is.depth in
    let few = is.few in
    let here = due_under g ls d e k.awaited (omega (arith, deep, some)) (omega (arith, deep, many, few)) in
    let same : Decides g d.number d.horizon won t d.box =
    subst (λ i. Decides g i d.horizon won t d.box) (is.scope ∙ sym k.number)
    (subst (λ h. Decides g due.scope h won t d.box) (is.horizon ∙ sym k.horizon) (subst (Decides g due.scope due.horizon won t) (sym k.box) (known.decided m.remains.box like))) in
    let low = known.shallow in
    record {
      tally = here.tally;
      above = here.above;
      stands = here.stands;
      placed = same.placed;
      verdict = same.verdict ∙ decided won;
      own = same.own;
      opens = known.opens;
      turns = known.turns;
      shallow = omega (arith, deep, fits, low);
    }
  where
    decided : (b : Bool) → decided_as b ≡ goal_verdict g b [] []
    decided true = refl
    decided false = refl

-- so many bytes were read that are the text of a known node, which the reader and the machine passed over
module _ (c : Checker) (r : Reading) (m : Machine) (due : NodeDue) (met : Met) (left : ℕ) (is_left : left ≡ 1000 - met.depth) (front piece : List ℕ) (at : ℕ) (is : IsDueIn c.machine due) (some : due.depth ≡ 0 → ⊥) (fits : due.depth ≤ met.depth)
    (like : IsLike (game_of c.machine) due.scope (values_due c.machine) c.machine.remains.box) (found : IsMet (game_of c.machine) due.scope due.horizon (values_due c.machine) (drop at piece) met)
    (within : at ≤ length piece) (room : c.read + (length piece - at) ≤ 2 ^ 32) (same : game_of m ≡ game_of c.machine)
    (stands : (before : List ℕ) (told : Told) (t : Tree) → StandsFor c.reader before told → IsTrue (tree_fits Two t) → depth_of t ≤ left →
    StandsFor r (before ++ flat_map line_text (tree_lines t)) (tell_all told (tree_lines t)))
    (says : (before : List ℕ) (told : Told) (t : Tree) → StandsFor c.reader before told → IsTrue (tree_fits Two t) → depth_of t ≤ left →
    BeginsText 1000 (before ++ flat_map line_text (tree_lines t)) × (is_nothing told ≡ false))
    (tells : (n : ℕ) (p : Option Ledger) (d : Ledger) (t : Tree) → n < 4294967296 → TellsAfter n c.machine p → p ≡ Some d → IsPassed (game_of c.machine) d t met.won met.turns →
    TellsAfter (n + length (tree_lines t)) m (goes_through (game_of c.machine) p (tree_lines t)))
    (k : IsKeeping c front piece at) where
  abbrev g : Game
  g = game_of c.machine

  abbrev t : Tree
  t = found.known.0

  abbrev lines : List Line
  lines = tree_lines t

  abbrev text : List ℕ
  text = take met.size (drop at piece)

  abbrev bytes : List ℕ
  bytes = front ++ take at piece

  abbrev told : Told
  told = k.reading.told

  known : IsKnownBy g due.scope due.horizon found.kept met.won met.turns met.depth text t
  known = found.known.1

  long : length text ≡ met.size
  long = length-take-le met.size (drop at piece) found.within

  -- the lines are some, and no more than the bytes
  some_more : (0 < length lines) × (length lines ≤ met.size)
  some_more = let size = as_long lines in let all = ap length known.text in (some_lines t, omega (arith, long, size, all))

  all : front ++ take (at + met.size) piece ≡ bytes ++ flat_map line_text lines
  all = ap (λ xs. front ++ xs) (take-add at met.size piece) ∙ (sym (append_assoc front (take at piece) text) ∙ ap (λ xs. bytes ++ xs) known.text)

  shallow : depth_of t ≤ left
  shallow = let low = known.shallow in omega (arith, low, is_left)

  begun : BeginsText 1000 (bytes ++ flat_map line_text lines) × (is_nothing told ≡ false)
  begun = says bytes told t k.reading.stands known.fits shallow

  at_due : DueTold c.machine (ledger_told g told)
  at_due = due_told c.machine (ledger_told g told) is.due k.reading.tells.tells

  here : IsDueAt c.machine at_due.ledger
  here = record { awaited = at_due.awaited; number = at_due.number; horizon = at_due.horizon; box = at_due.box; depth = at_due.depth; turns = at_due.turns }

  fewer : length (lines_told told) < 4294967296
  fewer =
      let few = k.reading.few in
      let size = length-drop at piece in
      let there = found.within in
      omega (arith, few, size, there, room, some_more.0, some_more.1)

  more_told : TellsAfter (length (lines_told told) + length lines) m (goes_through g (ledger_told g told) lines)
  more_told =
      tells (length (lines_told told)) (ledger_told g told) at_due.ledger t fewer k.reading.tells at_due.is
      (passes_here g (lines_told told) c.machine at_due.ledger due t met.won met.turns met.depth found.kept text at_due.is here is some fits known
      (like_kept g due.scope found.kept (values_due c.machine) c.machine.remains.box like found.like))

  starts_on : AreStartsOf MayEnd (game_of m) (take (at + met.size) piece) (ledger_told (game_of m) (tell_all told lines)) c.starts
  starts_on =
      subst (λ (u : Game). AreStartsOf MayEnd u (take (at + met.size) piece) (ledger_told u (tell_all told lines)) c.starts) (sym same) (λ p is_p.
      let d = at_due.ledger in
      let comes : goes_through g (Some d) lines ≡ Some p = ap (λ q. goes_through g q lines) (sym at_due.is) ∙ (sym (ledger_more g told lines begun.1) ∙ is_p) in
      let looks : IsTrue (list_all (line_looks g d.number) lines) = subst (λ i. IsTrue (list_all (line_looks g i) lines)) (is.scope ∙ sym here.number) known.looks in
      subst (λ xs. AreStarts MayEnd g xs p c.starts) (sym (take-add at met.size piece))
      (starts_pass g d p t (take at piece) text known.text known.fits looks here.awaited comes c.starts (k.starts d at_due.is)))

  tells_on : TellsAfter (length (lines_told (tell_all told lines))) m (ledger_told (game_of m) (tell_all told lines))
  tells_on =
      subst (λ (u : Game). TellsAfter (length (lines_told (tell_all told lines))) m (ledger_told u (tell_all told lines))) (sym same)
      (subst (TellsAfter (length (lines_told (tell_all told lines))) m) (sym (ledger_more g told lines begun.1))
      (subst (λ n. TellsAfter n m (goes_through g (ledger_told g told) lines)) (sym (ap length (told_more told lines begun.1) ∙ length-append (lines_told told) lines)) more_told))

  counted_on : c.read + met.size ≡ length (front ++ take (at + met.size) piece)
  counted_on =
      let old = k.reading.counted in
      let size = length-append bytes (flat_map line_text lines) in
      let whole = ap length all in
      let new = ap length known.text in
      omega (arith, old, size, whole, new, long)

  few_on : length (lines_told (tell_all told lines)) ≤ c.read + met.size
  few_on =
      let few = k.reading.few in
      let both = ap length (told_more told lines begun.1) in
      let size = length-append (lines_told told) lines in
      omega (arith, few, both, size, some_more.1)

  -- the text goes on behind it, and each node that was open is open or has ended
  pub passed : (reading : IsReading r m c.head (c.read + met.size) (front ++ take (at + met.size) piece)) ×
      AreStartsOf MayEnd (game_of m) (take (at + met.size) piece) (ledger_told (game_of m) reading.told) c.starts
  passed = (
    record {
      told = tell_all told lines;
      stands = subst (λ xs. StandsFor r xs (tell_all told lines)) (sym all) (stands bytes told t k.reading.stands known.fits shallow);
      begins = subst (BeginsText 1000) (sym all) begun.0;
      counted = counted_on;
      head_is = head_more c.head told lines begun.1 k.reading.head_is;
      few = few_on;
      tells = tells_on;
    },
    starts_on,
  )
