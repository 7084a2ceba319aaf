-- What a ledger has after the lines of a part of a tree is what the part comes to: the induction over the tree.
use Rattle.std.proofs.Common.{◌≡◌, ℕ, ◌+◌, Bool, true, false, not, ◌&&◌, ◌||◌, Option, Some, None, List, [], ◌∷◌, ◌++◌, length, map, refl, sym, ap, ◌∙◌, ℤ, append_assoc}
use Rattle.std.specs.Prelude.{nat_lt, slice_get, is_some}
use Rattle.std.specs.List.{list_all}
use Rattle.qc_model.specs.declared.problem.ScopeId.{ScopeId}
use Rattle.qc_model.specs.Content.{Game}
use Rattle.qc_model.specs.Domains.{values_left, is_none_left}
use Rattle.qc_model.specs.Verdict.{Verdict, lost, Seen, seen_barred, seen_skipped, seen_bound, seen_node}
use Rattle.qc_model.proofs.Sound.{is_false}
use Rattle.proof_tree.specs.Cover.{covered, uncovered, is_cover}
use Rattle.proof_tree.specs.Text.{is_place}
use Rattle.dense_tree.specs.Tree.{Step, close, bound, reply, Node, node, again, no_play, Body, stuck, goal, cases, Ending, empty, barred, best_left, dead, next, chosen, branch, Branches, no_more, piece, Case, skip, left_open, go, Given}
use Rattle.dense_tree.specs.Counts.{Count, node_count, body_count, ending_count, branches_count, case_count}
use Rattle.dense_tree.specs.Lines.{Line, dot_line, step_line, upto_lines, node_lines, body_lines, ending_lines, branches_lines, case_lines}
use Rattle.dense_tree.specs.Place.{Setting, Place, is_free_choice, place_below}
use Rattle.dense_tree.specs.Alike.{are_alike}
use Rattle.dense_tree.specs.Steps.{read_step, read_steps}
use Rattle.dense_tree.specs.Verdicts.{loosened, goal_comes_to, stuck_comes_to}
use Rattle.dense_tree.specs.InPlace.{horizon_placed, cases_placed, goal_placed, stuck_placed, no_play_placed, dead_placed, empty_placed, barred_placed, next_placed, place_taken, chosen_placed, branch_placed, list_best, best_placed}
use Rattle.dense_tree.specs.Read.{Known, NodeRead, PartRead, leaves, after_steps, empty_leaves, with_horizon, entered, or_unknown, told_by, is_narrower, read_node, read_body, read_ending, read_branches, read_case}
use Rattle.dense_tree.specs.Text.{is_dead, node_fits, body_fits, ending_fits, branches_fit, case_fits, horizon_fits, step_fits, upto_fits, tuple_fits}
use Rattle.dense_ledger.specs.Ledger.{Entry, entry_at, Own, Fork, fresh, Frame, waiting, forked, Due, node_due, named_due, body_due, part_due, case_due, Ledger, only_ledger, with_seen, known_settled, part_ended, node_ended, told_again, with_horizon_at, case_place, may_go, fork_after, goes, goes_through}
use Rattle.dense_ledger.proofs.Small.{both, and_assoc, and_true, or_false, or_sum, shown, shown_none, shown_seen, shown_bests, regroup, shown_twice, here, at, parted, node_over, IsNodes, part_same, node_same, tree_over, same_parted, same_over, none_more, more_twice, then_goes}
use Rattle.dense_ledger.proofs.Entering.{Stage, whole, after_name, after_horizon, due_of, due_in, tree_begun, case_begun, enter_tree, enter_case, enter_upto}

-- cases that are gone into, and those that are left open
abbrev pub turning : Count
turning = record { at_go = λ n. 1 + n; at_open = 0; at_node = λ n. n; at_branch = λ n. n; together = λ m n. m + n }

abbrev pub opening : Count
opening = record { at_go = λ n. n; at_open = 1; at_node = λ n. n; at_branch = λ n. n; together = λ m n. m + n }

marks_join : (ms ns : List ℤ) (seen : List Seen) → map seen_bound ms ++ (map seen_bound ns ++ seen) ≡ map seen_bound (ms ++ ns) ++ seen
marks_join [] ns seen = refl
marks_join (m ∷ ms) ns seen = ap (λ xs. seen_bound m ∷ xs) (marks_join ms ns seen)

shown_marks : (ms ns : List ℤ) (seen : List Seen) (vs : List ℤ) (o : Own) → shown (map seen_bound ns ++ seen) vs (with_seen (map seen_bound ms) o) ≡ shown (map seen_bound (ms ++ ns) ++ seen) vs o
shown_marks ms ns seen vs o =
    ap (λ zs. record { entry = o.entry; seen = zs; bests = o.bests ++ vs }) (append_assoc o.seen (map seen_bound ms) (map seen_bound ns ++ seen) ∙ ap (λ zs. o.seen ++ zs) (marks_join ms ns seen))

module _ (g : Game) (us : List Given) where
  abbrev s : Setting
  s = here g us

  -- the ledger after a part, and after a node, with so many turns and so many open cases more
  abbrev pub part_told : PartRead → ℕ → ℕ → Own → List Frame → ℕ → Bool → Option Ledger
  part_told r i j o fs n b = only_ledger r.placed (parted g us r.known (n + i) (b || nat_lt 0 j) (shown r.seen r.bests o) fs)

  abbrev pub node_told : NodeRead → ℕ → ℕ → Bool → List Frame → ℕ → Bool → Option Ledger
  node_told r i j sole fs n b = only_ledger r.placed (node_over g us sole r.verdict r.own r.known (n + i) (b || nat_lt 0 j) fs)

  -- and after a case of a branch
  abbrev case_told : Option ℤ → Bool → PartRead → ℕ → ℕ → Own → Fork → List Frame → ℕ → Bool → Option Ledger
  case_told upto placed r i j o f fs n b = only_ledger (placed && r.placed) (at g us case_due (shown r.seen r.bests o) (forked (fork_after upto f) ∷ fs) r.known (n + i) (b || nat_lt 0 j))

  abbrev EndingGoes : Ending → Type 0
  EndingGoes end = (q : Place) (o : Own) (fs : List Frame) (ks : List Known) (n : ℕ) (b : Bool) (rest : List Line) →
      goes_through g (Some (at g us (part_due q) o fs ks n b)) (ending_lines end ++ rest)
      ≡ goes_through g (part_told (read_ending s end q ks) (ending_count turning end) (ending_count opening end) o fs n b) rest

  -- a leaf
  leaf_goes : (c : Bool) (xs : List Seen) (u : Due) (x o : Own) (es fs : List Frame) (ks : List Known) (n : ℕ) (b : Bool) (rest : List Line) →
      goes_through g (only_ledger c (part_ended s (at g us u x es ks n b) (with_seen xs o) fs)) rest ≡ goes_through g (part_told (leaves c xs ks) 0 0 o fs n b) rest
  leaf_goes c xs u x o es fs ks n b rest =
      ap (λ z. goes_through g (only_ledger c z) rest) (part_same g us u x (with_seen xs o) es fs ks n b)
      ∙ same_parted g us c c (with_seen xs o) (shown xs [] o) fs ks n (n + 0) b (b || false) rest refl (shown_seen xs o) (none_more n) (sym (or_false b))

  best_goes : (c : Bool) (vs : List ℤ) (u : Due) (x o : Own) (es fs : List Frame) (ks : List Known) (n : ℕ) (b : Bool) (rest : List Line) →
      goes_through g (only_ledger c (part_ended s (at g us u x es ks n b) (record o { bests = o.bests ++ vs }) fs)) rest
      ≡ goes_through g (part_told (record { placed = c; seen = []; bests = vs; known = ks }) 0 0 o fs n b) rest
  best_goes c vs u x o es fs ks n b rest =
      ap (λ z. goes_through g (only_ledger c z) rest) (part_same g us u x (record o { bests = o.bests ++ vs }) es fs ks n b)
      ∙ same_parted g us c c (record o { bests = o.bests ++ vs }) (shown [] vs o) fs ks n (n + 0) b (b || false) rest refl (shown_bests vs o) (none_more n) (sym (or_false b))

  -- a node without an own tree
  plain_goes : (c : Bool) (u : Due) (x : Own) (e : Entry) (v : Verdict) (es fs : List Frame) (ks : List Known) (n : ℕ) (b : Bool) (rest : List Line) →
      goes_through g (only_ledger c (node_ended s (at g us u x es ks n b) e v fs)) rest
      ≡ goes_through g (only_ledger c (node_over g us e.chosen v None (known_settled e v ks) (n + 0) (b || false) fs)) rest
  plain_goes c u x e v es fs ks n b rest =
      ap (λ z. goes_through g (only_ledger c z) rest) (node_same g us u x e v es fs ks n b)
      ∙ same_over g us c c e.chosen v None fs (known_settled e v ks) n (n + 0) b (b || false) rest refl (none_more n) (sym (or_false b))

  step_goes : (st : Step) (q : Place) (o : Own) (fs : List Frame) (ks : List Known) (n : ℕ) (b : Bool) →
      goes g (Some (at g us (part_due q) o fs ks n b)) (step_line st)
      ≡ only_ledger (read_step s st q).placed (at g us (part_due (read_step s st q).place) (with_seen (map seen_bound (read_step s st q).marks) o) fs ks n b)
  step_goes close q o fs ks n b = refl
  step_goes (bound x low high) q o fs ks n b = refl
  step_goes (reply t) q o fs ks n b = refl

  abbrev own_read : List Step → Ending → Place → List Known → PartRead
  own_read steps end q ks = after_steps (read_steps s steps q) (read_ending s end (read_steps s steps q).place ks)

  -- steps and the end after them
  own_goes : (steps : List Step) (end : Ending) → EndingGoes end → (q : Place) (o : Own) (fs : List Frame) (ks : List Known) (n : ℕ) (b : Bool) (rest : List Line) →
      goes_through g (Some (at g us (part_due q) o fs ks n b)) ((map step_line steps ++ ending_lines end) ++ rest)
      ≡ goes_through g (part_told (own_read steps end q ks) (ending_count turning end) (ending_count opening end) o fs n b) rest
  own_goes [] end h q o fs ks n b rest = h q o fs ks n b rest
  own_goes (st ∷ steps) end h q o fs ks n b rest =
      let w = read_step s st q in
      let more = read_steps s steps w.place in
      let r = read_ending s end more.place ks in
      let i = n + ending_count turning end in
      let j = b || nat_lt 0 (ending_count opening end) in
      let p = with_seen (map seen_bound w.marks) o in
      ap (λ z. goes_through g z ((map step_line steps ++ ending_lines end) ++ rest)) (step_goes st q o fs ks n b)
      ∙ (then_goes g us w.placed (more.placed && r.placed) (at g us (part_due w.place) p fs ks n b) (parted g us r.known i j (shown (map seen_bound more.marks ++ r.seen) r.bests p) fs)
      ((map step_line steps ++ ending_lines end) ++ rest) rest (own_goes steps end h w.place p fs ks n b rest)
      ∙ same_parted g us (w.placed && (more.placed && r.placed)) ((w.placed && more.placed) && r.placed)
      (shown (map seen_bound more.marks ++ r.seen) r.bests p) (shown (map seen_bound (w.marks ++ more.marks) ++ r.seen) r.bests o) fs r.known i i j j rest
      (sym (and_assoc w.placed more.placed r.placed)) (shown_marks w.marks more.marks r.seen r.bests o) refl refl)

  -- one part, and then another
  parts_join : (a : PartRead) (c : PartRead) (i j k l : ℕ) (placed : Bool) (o : Own) (fs : List Frame) (n : ℕ) (b : Bool) (rest : List Line) →
      goes_through g (only_ledger ((placed && a.placed) && c.placed) (parted g us c.known ((n + i) + k) ((b || nat_lt 0 j) || nat_lt 0 l) (shown c.seen c.bests (shown a.seen a.bests o)) fs)) rest
      ≡ goes_through g (part_told (record { placed = placed && (a.placed && c.placed); seen = a.seen ++ c.seen; bests = a.bests ++ c.bests; known = c.known }) (i + k) (j + l) o fs n b) rest
  parts_join a c i j k l placed o fs n b rest =
      same_parted g us ((placed && a.placed) && c.placed) (placed && (a.placed && c.placed)) (shown c.seen c.bests (shown a.seen a.bests o)) (shown (a.seen ++ c.seen) (a.bests ++ c.bests) o) fs c.known
      ((n + i) + k) (n + (i + k)) ((b || nat_lt 0 j) || nat_lt 0 l) (b || nat_lt 0 (j + l)) rest
      (and_assoc placed a.placed c.placed) (shown_twice a.seen c.seen a.bests c.bests o) (more_twice n i k) (or_sum b j l)

  told_goes : (n : ℕ) (p : Place) (sole : Bool) (x : Own) (fs : List Frame) (ks : List Known) (m : ℕ) (b : Bool) (rest : List Line) (o : Option Known) →
      goes_through g (told_again s (at g us (node_due (entry_at p sole)) x fs ks m b) (entry_at p sole) o) rest
      ≡ goes_through g (node_told (told_by s p ks o) 0 0 sole fs m b) rest
  told_goes n p sole x fs ks m b rest None = refl
  told_goes n p sole x fs ks m b rest (Some k) =
      plain_goes (is_some k.verdict && are_alike g p k.place) (node_due (entry_at p sole)) x (entry_at p sole) (loosened s p (or_unknown k.verdict)) fs fs ks m b rest

  -- a case that is passed over
  passed_goes : (c d : Bool) (o : Own) (hs : List Frame) (ks : List Known) (n : ℕ) (rest : List Line) →
      goes_through g (only_ledger c (at g us case_due (with_seen (seen_skipped ∷ []) o) hs ks n d)) rest
      ≡ goes_through g (only_ledger (c && true) (at g us case_due (shown (seen_skipped ∷ []) [] o) hs ks (n + 0) d)) rest
  passed_goes c d o hs ks n rest =
      ap (λ z. goes_through g (only_ledger z (at g us case_due (with_seen (seen_skipped ∷ []) o) hs ks n d)) rest) (sym (and_true c))
      ∙ (ap (λ z. goes_through g (only_ledger (c && true) (at g us case_due z hs ks n d)) rest) (shown_seen (seen_skipped ∷ []) o)
      ∙ ap (λ z. goes_through g (only_ledger (c && true) (at g us case_due (shown (seen_skipped ∷ []) [] o) hs ks z d)) rest) (none_more n))

  abbrev named_entry : Place → Bool → List Known → Entry
  named_entry p sole ks = record { begin = p; place = p; named = Some (length ks); chosen = sole }

  fitting : (h : Option ScopeId) (body : Body) → horizon_fits h && not (is_dead body) && body_fits body ≡ true → (is_dead body ≡ false) × (body_fits body ≡ true)
  fitting h body e =
      let q = both (horizon_fits h && not (is_dead body)) (body_fits body) e in
      (is_false (is_dead body) (both (horizon_fits h) (not (is_dead body)) q.0).1, q.1)

  abbrev body_told : Body → Entry → List Frame → List Known → ℕ → Bool → Ledger
  body_told body e fs ks n b =
      node_over g us e.chosen (read_body s body e.place ks).verdict (read_body s body e.place ks).own (known_settled e (read_body s body e.place ks).verdict (read_body s body e.place ks).known)
      (n + body_count turning body) (b || nat_lt 0 (body_count opening body)) fs

  -- the lines behind a horizon
  behind : (h : ScopeId) (body : Body) (e : Entry) (x : Own) (fs : List Frame) (ks : List Known) (n : ℕ) (b : Bool) (rest : List Line) →
      goes_through g (Some (at g us (body_due (with_horizon_at h e)) x fs ks n b)) (body_lines body ++ rest)
      ≡ goes_through g (only_ledger (read_body s body (with_horizon (Some h) e.place) ks).placed (body_told body (with_horizon_at h e) fs ks n b)) rest →
      goes_through g (only_ledger (horizon_placed s (Some h) e.place) (at g us (body_due (with_horizon_at h e)) x fs ks n b)) (body_lines body ++ rest)
      ≡ goes_through g (only_ledger (horizon_placed s (Some h) e.place && (read_body s body (with_horizon (Some h) e.place) ks).placed) (body_told body (with_horizon_at h e) fs ks n b)) rest
  behind h body e x fs ks n b rest =
      then_goes g us (horizon_placed s (Some h) e.place) (read_body s body (with_horizon (Some h) e.place) ks).placed (at g us (body_due (with_horizon_at h e)) x fs ks n b) (body_told body (with_horizon_at h e) fs ks n b)
      (body_lines body ++ rest) rest

  mutual
    pub node_goes : (t : Node) (p : Place) (sole : Bool) (x : Own) (fs : List Frame) (ks : List Known) (n : ℕ) (b : Bool) (rest : List Line) → IsNodes g us fs → node_fits t ≡ true →
        goes_through g (Some (at g us (node_due (entry_at p sole)) x fs ks n b)) (node_lines t ++ rest)
        ≡ goes_through g (node_told (read_node s t p ks) (node_count turning t) (node_count opening t) sole fs n b) rest
    node_goes (node false None body) p sole x fs ks n b rest f fits =
        let k = fitting None body fits in
        body_goes body whole (entry_at p sole) x fs ks n b rest f k.0 k.1
    node_goes (node false (Some h) body) p sole x fs ks n b rest f fits =
        let k = fitting (Some h) body fits in
        behind h body (entry_at p sole) x fs ks n b rest (body_goes body after_horizon (with_horizon_at h (entry_at p sole)) x fs ks n b rest f k.0 k.1)
    node_goes (node true None body) p sole x fs ks n b rest f fits =
        let k = fitting None body fits in
        body_goes body after_name (named_entry p sole ks) x fs (entered true p ks) n b rest f k.0 k.1
    node_goes (node true (Some h) body) p sole x fs ks n b rest f fits =
        let k = fitting (Some h) body fits in
        behind h body (named_entry p sole ks) x fs (entered true p ks) n b rest
        (body_goes body after_horizon (with_horizon_at h (named_entry p sole ks)) x fs (entered true p ks) n b rest f k.0 k.1)
    node_goes (again i) p sole x fs ks n b rest f fits = told_goes i p sole x fs ks n b rest (slice_get ks i)
    node_goes (no_play k) p sole x fs ks n b rest f fits = plain_goes (no_play_placed s p k) (node_due (entry_at p sole)) x (entry_at p sole) lost fs fs ks n b rest

    -- the lines behind its horizon
    body_goes : (body : Body) (stage : Stage) (e : Entry) (x : Own) (fs : List Frame) (ks : List Known) (n : ℕ) (b : Bool) (rest : List Line) → IsNodes g us fs → is_dead body ≡ false → body_fits body ≡ true →
        goes_through g (Some (at g us (due_of stage e) x fs ks n b)) (body_lines body ++ rest)
        ≡ goes_through g (only_ledger (read_body s body e.place ks).placed (body_told body e fs ks n b)) rest
    body_goes stuck whole e x fs ks n b rest f alive fits = plain_goes (stuck_placed e.place) (node_due e) x e (loosened s e.place (stuck_comes_to s e.place e.place.later)) fs fs ks n b rest
    body_goes stuck after_name e x fs ks n b rest f alive fits = plain_goes (stuck_placed e.place) (named_due e) x e (loosened s e.place (stuck_comes_to s e.place e.place.later)) fs fs ks n b rest
    body_goes stuck after_horizon e x fs ks n b rest f alive fits = plain_goes (stuck_placed e.place) (body_due e) x e (loosened s e.place (stuck_comes_to s e.place e.place.later)) fs fs ks n b rest
    body_goes goal whole e x fs ks n b rest f alive fits = plain_goes (goal_placed e.place) (node_due e) x e (loosened s e.place (goal_comes_to s e.place)) fs fs ks n b rest
    body_goes goal after_name e x fs ks n b rest f alive fits = plain_goes (goal_placed e.place) (named_due e) x e (loosened s e.place (goal_comes_to s e.place)) fs fs ks n b rest
    body_goes goal after_horizon e x fs ks n b rest f alive fits = plain_goes (goal_placed e.place) (body_due e) x e (loosened s e.place (goal_comes_to s e.place)) fs fs ks n b rest
    body_goes (cases steps end) stage e x fs ks n b rest f alive fits =
        let r = own_read steps end e.place ks in
        let i = n + ending_count turning end in
        let j = b || nat_lt 0 (ending_count opening end) in
        enter_tree g us e x fs ks n b stage steps end rest alive
        ∙ (then_goes g us (cases_placed e.place) r.placed (tree_begun g us e x fs ks n b) (parted g us r.known i j (shown r.seen r.bests (fresh e)) fs) (body_lines (cases steps end) ++ rest) rest
        (own_goes steps end (λ q o hs ls m c more. ending_goes end (both (list_all step_fits steps) (ending_fits end) fits).1 q o hs ls m c more) e.place (fresh e) fs ks n b rest)
        ∙ ap (λ z. goes_through g (only_ledger (cases_placed e.place && r.placed) z) rest) (tree_over g us (shown r.seen r.bests (fresh e)) fs r.known i j f))

    ending_goes : (end : Ending) → ending_fits end ≡ true → (q : Place) (o : Own) (fs : List Frame) (ks : List Known) (n : ℕ) (b : Bool) (rest : List Line) →
        goes_through g (Some (at g us (part_due q) o fs ks n b)) (ending_lines end ++ rest)
        ≡ goes_through g (part_told (read_ending s end q ks) (ending_count turning end) (ending_count opening end) o fs n b) rest
    ending_goes empty fits q o fs ks n b rest = leaf_goes (empty_placed s q) (empty_leaves (is_free_choice s q)) (part_due q) o o fs fs ks n b rest
    ending_goes barred fits q o fs ks n b rest = leaf_goes (barred_placed s q) (seen_barred ∷ []) (part_due q) o o fs fs ks n b rest
    ending_goes best_left fits q o fs ks n b rest = best_goes (best_placed q) (list_best q.list q.box) (part_due q) o o fs fs ks n b rest
    ending_goes (dead k) fits q o fs ks n b rest = leaf_goes (dead_placed s q k) (seen_node lost ∷ []) (part_due q) o o fs fs ks n b rest
    ending_goes (next t) fits q o fs ks n b rest =
        let p = place_below s q in
        let r = read_node s t p ks in
        let i = n + node_count turning t in
        let j = b || nat_lt 0 (node_count opening t) in
        then_goes g us (next_placed s q) r.placed (at g us (node_due (entry_at p false)) o (waiting o ∷ fs) ks n b) (parted g us r.known i j (with_seen (seen_node r.verdict ∷ []) o) fs) (node_lines t ++ rest) rest
        (node_goes t p false o (waiting o ∷ fs) ks n b rest tt fits)
        ∙ same_parted g us (next_placed s q && r.placed) (next_placed s q && r.placed) (with_seen (seen_node r.verdict ∷ []) o) (shown (seen_node r.verdict ∷ []) [] o) fs r.known i i j j rest refl (shown_seen (seen_node r.verdict ∷ []) o) refl refl
    ending_goes (chosen vs t) fits q o fs ks n b rest =
        let p = place_below s (place_taken s vs q) in
        let r = read_node s t p ks in
        let i = n + node_count turning t in
        let j = b || nat_lt 0 (node_count opening t) in
        let xs = seen_node r.verdict ∷ seen_skipped ∷ [] in
        then_goes g us (chosen_placed s vs q) r.placed (at g us (node_due (entry_at p true)) o (waiting o ∷ fs) ks n b) (parted g us r.known i j (with_seen xs o) fs) (node_lines t ++ rest) rest
        (node_goes t p true o (waiting o ∷ fs) ks n b rest tt (both (tuple_fits vs) (node_fits t) fits).1)
        ∙ same_parted g us (chosen_placed s vs q && r.placed) (chosen_placed s vs q && r.placed) (with_seen xs o) (shown xs [] o) fs r.known i i j j rest refl (shown_seen xs o) refl refl
    ending_goes (branch x bs) fits q o fs ks n b rest =
        let f : Fork = record { place = q; variable = x.0; left = values_left q.box x.0 } in
        let r = read_branches s bs x.0 (values_left q.box x.0) q ks in
        then_goes g us (branch_placed s q x.0) r.placed (at g us case_due o (forked f ∷ fs) ks n b)
        (parted g us r.known (n + branches_count turning bs) (b || nat_lt 0 (branches_count opening bs)) (shown r.seen r.bests o) fs)
        ((branches_lines bs ++ dot_line ∷ []) ++ rest) rest
        (branches_goes bs (both (is_place 500 x.0) (branches_fit bs) fits).1 f o fs ks n b rest)

    branches_goes : (bs : Branches) → branches_fit bs ≡ true → (f : Fork) (o : Own) (fs : List Frame) (ks : List Known) (n : ℕ) (b : Bool) (rest : List Line) →
        goes_through g (Some (at g us case_due o (forked f ∷ fs) ks n b)) ((branches_lines bs ++ dot_line ∷ []) ++ rest)
        ≡ goes_through g (part_told (read_branches s bs f.variable f.left f.place ks) (branches_count turning bs) (branches_count opening bs) o fs n b) rest
    branches_goes no_more fits f o fs ks n b rest =
        ap (λ z. goes_through g (only_ledger (is_none_left f.left) z) rest) (part_same g us case_due o o (forked f ∷ fs) fs ks n b)
        ∙ same_parted g us (is_none_left f.left) (is_none_left f.left) o (shown [] [] o) fs ks n (n + 0) b (b || false) rest refl (shown_none o) (none_more n) (sym (or_false b))
    branches_goes (piece upto c bs) fits f o fs ks n b rest =
        let fit = both (upto_fits upto && case_fits c) (branches_fit bs) fits in
        let after = fork_after upto f in
        let r = read_case s c f.variable (covered upto f.left) f.place ks in
        let q = read_branches s bs f.variable (uncovered upto f.left) f.place r.known in
        let p = shown r.seen r.bests o in
        let i = case_count turning c in
        let j = case_count opening c in
        let k = branches_count turning bs in
        let l = branches_count opening bs in
        let ls = (branches_lines bs ++ dot_line ∷ []) ++ rest in
        ap (goes_through g (Some (at g us case_due o (forked f ∷ fs) ks n b))) (regroup (upto_lines upto) (case_lines c) (branches_lines bs) (dot_line ∷ []) rest)
        ∙ (enter_upto g us f o fs ks n b upto (case_lines c ++ ls)
        ∙ (case_goes c (both (upto_fits upto) (case_fits c) fit.0).1 upto f o fs ks n b ls
        ∙ (then_goes g us (is_cover upto f.left && r.placed) q.placed (at g us case_due p (forked after ∷ fs) r.known (n + i) (b || nat_lt 0 j))
        (parted g us q.known ((n + i) + k) ((b || nat_lt 0 j) || nat_lt 0 l) (shown q.seen q.bests p) fs) ls rest
        (branches_goes bs fit.1 after p fs r.known (n + i) (b || nat_lt 0 j) rest)
        ∙ parts_join r q i j k l (is_cover upto f.left) o fs n b rest)))

    case_goes : (c : Case) → case_fits c ≡ true → (upto : Option ℤ) (f : Fork) (o : Own) (fs : List Frame) (ks : List Known) (n : ℕ) (b : Bool) (rest : List Line) →
        goes_through g (Some (at g us (due_in upto) o (forked f ∷ fs) ks n b)) (case_lines c ++ rest)
        ≡ goes_through g (case_told upto (is_cover upto f.left) (read_case s c f.variable (covered upto f.left) f.place ks) (case_count turning c) (case_count opening c) o f fs n b) rest
    case_goes skip fits None f o fs ks n b rest = passed_goes (is_cover None f.left) (b || false) o (forked (fork_after None f) ∷ fs) ks n rest
    case_goes skip fits (Some v) f o fs ks n b rest = passed_goes (is_cover (Some v) f.left) (b || false) o (forked (fork_after (Some v) f) ∷ fs) ks n rest
    case_goes left_open fits None f o fs ks n b rest = passed_goes (is_cover None f.left) (b || true) o (forked (fork_after None f) ∷ fs) ks n rest
    case_goes left_open fits (Some v) f o fs ks n b rest = passed_goes (is_cover (Some v) f.left) (b || true) o (forked (fork_after (Some v) f) ∷ fs) ks n rest
    case_goes (go steps end) fits upto f o fs ks n b rest =
        let q = case_place f upto in
        let hs = forked (fork_after upto f) ∷ fs in
        let r = own_read steps end q ks in
        let i = ending_count turning end in
        let j = b || nat_lt 0 (ending_count opening end) in
        enter_case g us f o fs ks n b upto steps end rest
        ∙ (then_goes g us (may_go f upto) r.placed (case_begun g us f o fs ks n b upto) (parted g us r.known ((n + 1) + i) j (shown r.seen r.bests o) hs) (case_lines (go steps end) ++ rest) rest
        (own_goes steps end (λ q' o' hs' ks' n' b' more. ending_goes end (both (list_all step_fits steps) (ending_fits end) fits).1 q' o' hs' ks' n' b' more) q o hs ks (n + 1) b rest)
        ∙ same_parted g us (may_go f upto && r.placed) (is_cover upto f.left && (is_narrower (covered upto f.left) (values_left f.place.box f.variable) && r.placed))
        (shown r.seen r.bests o) (shown r.seen r.bests o) hs r.known ((n + 1) + i) (n + (1 + i)) j j rest
        (and_assoc (is_cover upto f.left) (is_narrower (covered upto f.left) (values_left f.place.box f.variable)) r.placed) refl (more_twice n 1 i) refl)
