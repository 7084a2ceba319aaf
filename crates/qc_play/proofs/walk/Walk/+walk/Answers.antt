use Rattle.std.proofs.Common.{◌≡◌, ◌∙◌, ◌+◌, ◌≤◌, suc, sym, ap, subst, arith, rules, [], ◌∷◌, ◌++◌, length, map, add-one, ◌<◌, to_z, w64}
use Rattle.std.specs.Prelude.{negsuc}
use Rattle.std.proofs.lemmas.Int.{to_z-of_z}
use Rattle.std.proofs.lemmas.Result.{on_ok_weaker}
use mir.Val.{SFits}
use Rattle.qc_model.specs.Domains.{box_within, declared_box, has_empty, values_left}
use Rattle.joins.specs.Joins.{out_of, StandsAt}
use Rattle.fd_store.specs.Held.{Held}
use Rattle.check_box.specs.Cases.{IsCase}
use Rattle.box_laws.proofs.Numbers.{passed_after}
use Rattle.box_laws.proofs.Readings.{box_size}
use Rattle.proof_tree.specs.Counts.{ends_of, ending_ends}
use Rattle.proof_tree.specs.Finding.{leaf_node, seen_of}
use Rattle.proof_tree.specs.Place.{position}
use Rattle.proof_tree.specs.Lines.{ending_lines, case_lines}
use Rattle.proof_tree.specs.Tree.{tree, cases}
use Rattle.qc_play.specs.Shown.{Shows}
use Rattle.qc_play.specs.Beginnings.{BeginsPart}
use Rattle.qc_play.specs.Walk.{game_of, node_finding, part_leaves, CanReadNode, CanReadPart, CanReadEnd, CanReadCase, IsBack, HasSeen, Tells}
use Rattle.qc_play.proofs.Backs.{follows_then, past_before, back_self, back_then, back_below, within_back, within_kept_box}
use Rattle.model_arguments.proofs.Boxes.{left_small}
use Rattle.box_laws.proofs.Firsts.{from_least}
use Rattle.qc_play.proofs.CaseLines.{CasesLeft, no_case_walked, begun_back, begun_cases, begins_case, one_case_walked, case_walked_shorter, all_cases_walked}
use Rattle.qc_play.proofs.NodeLines.{stuck_tree, goal_tree, own_tree_of}
use Rattle.qc_play.proofs.PartLines.{end_empty, end_barred, end_next, end_branch, no_ending, case_skip, case_open, case_go}
use Rattle.qc_play.proofs.StepLines.{part_fits}
use Rattle.qc_play.proofs.Outcomes.{if_ok}
use Rattle.qc_play.proofs.OwnTrees.{own_back, own_shows, taken_back}
use Rattle.qc_play.proofs.Parted.{seen_none, seen_joins, steps_told, part_told, empty_told, barred_told, next_told, branch_told, skip_told, open_told, go_told}
use Rattle.qc_play.proofs.Readable.{goal_last, own_scope, own_part, own_answered, part_end, next_full, next_fixed, next_node, branch_full, branch_variable, branch_cases}
use Rattle.qc_play.proofs.TreeSizes.{box_domains, tree_fits}
use Rattle.qc_play.proofs.walk.Walk.+walk.Goals as goal

-- a node
pub node-goal-requires-clause-last : goal.node-goal-requires-clause-last
node-goal-requires-clause-last t c =
    let g = game_of c.args.tables.now in
    let i = c.args.i.0 in
    let box = c.args.self.now.remains.box in
    let b = c.requires.tree in
    let line = c.begin_body-line in
    let o = goal_tree c.args.lines.now line.new.lines line.result line.ensures.body c.in-Goal.is b.tree b.rest b.is in
    goal_last g o.0 i box (subst (λ u. CanReadNode g u i box) o.1 b.reads) c.requires.inside

pub node-returns-in-Stuck-clause-shows : goal.node-returns-in-Stuck-clause-shows
node-returns-in-Stuck-clause-shows t c = λ u rest e reads.
    let g = game_of c.args.tables.now in
    let line = c.begin_body-line in
    let o = stuck_tree c.args.lines.now line.new.lines line.result line.ensures.body c.in-Stuck.is u rest e in
    (o.2, λ few. subst (λ v. Shows (node_finding g v c.args.i.0 c.args.self.now.remains.box) (out_of c.stuck.new.self.joins) c.stuck.result) (sym o.1) c.stuck.ensures.shows)

pub node-returns-in-Goal-clause-shows : goal.node-returns-in-Goal-clause-shows
node-returns-in-Goal-clause-shows t c = λ u rest e reads.
    let g = game_of c.args.tables.now in
    let line = c.begin_body-line in
    let o = goal_tree c.args.lines.now line.new.lines line.result line.ensures.body c.in-Goal.is u rest e in
    (o.2, λ few. subst (λ v. Shows (node_finding g v c.args.i.0 c.args.self.now.remains.box) (out_of c.goal.new.self.joins) c.goal.result) (sym o.1) c.goal.ensures.shows)

pub node-own_tree-requires : goal.node-own_tree-requires
node-own_tree-requires t c =
    let g = game_of c.args.tables.now in
    let i = c.args.i.0 in
    let box = c.args.self.now.remains.box in
    let b = c.requires.tree in
    let line = c.begin_body-line in
    let o = own_tree_of c.args.lines.now line.new.lines line.result line.ensures.body c.in_default.not-Stuck c.in_default.not-Goal b.tree b.rest b.is in
    let own : CanReadNode g (tree o.0 (cases o.1 o.2)) i box = subst (λ u. CanReadNode g u i box) o.3 b.reads in
    let less = line.ensures.shorter in (
      omega (arith, less),
      (c.requires.lists, (c.requires.within, (own_scope g o.0 o.1 o.2 i box own, (c.requires.full, record { steps = o.1; ending = o.2; rest = b.rest; is = o.4; reads = own_part g o.0 o.1 o.2 i box own })))),
    )

pub node-returns-in_default-clause-shows : goal.node-returns-in_default-clause-shows
node-returns-in_default-clause-shows t c =
    let g = game_of c.args.tables.now in
    let i = c.args.i.0 in
    let box = c.args.self.now.remains.box in
    let line = c.begin_body-line in
    if_ok c.own_tree.result (λ s h u rest e reads.
    let o = own_tree_of c.args.lines.now line.new.lines line.result line.ensures.body c.in_default.not-Stuck c.in_default.not-Goal u rest e in
    let own : CanReadNode g (tree o.0 (cases o.1 o.2)) i box = subst (λ v. CanReadNode g v i box) o.3 reads in
    let k = h o.1 o.2 rest o.4 (own_part g o.0 o.1 o.2 i box own) (own_answered g o.0 o.1 o.2 i box own) in
    (k.0, λ few. subst (λ v. Shows (node_finding g v i box) (out_of c.own_tree.new.self.joins) s) (sym o.3) (k.1 (subst (λ v. ends_of v ≤ 1073741824) o.3 few)))) c.own_tree.ensures.shows

-- a scope's own tree
pub own_tree-returns-clause-shows : goal.own_tree-returns-clause-shows
own_tree-returns-clause-shows t c =
    let g = game_of c.args.tables.now in
    let i = c.args.i.0 in
    let w = c.args.self.now in
    let x = c.gathering-leaves in
    let back =
    own_back g i w c.requires.within c.clear.new.self c.clear.ensures.same c.clear.ensures.others c.part.new.self c.in_ok-part.ensures.on c.undo_to.new.self c.mark-mark.result.at c.mark-mark.ensures c.undo_to.ensures.past c.undo_to.ensures.content in
    let none = seen_none g i c.clear.new.self x.result c.clear.ensures.stands x.ensures.none x.ensures.kind x.ensures.wishes x.ensures.place in
    if_ok c.close.result (λ s h steps e rest is reads answered.
    let k = c.in_ok-part.ensures.tells steps e rest is reads in (
      k.0,
      λ few. own_shows g i c.clear.new.self c.part.new.self.joins x.result c.part.new.leaves w.remains.box c.undo_to.new.self.box _ (part_leaves g steps e i w.remains.box) (out_of c.close.new.self.joins) s back.box none k.1 few answered h,
    ))
    c.close.ensures.shows

pub own_tree-returns-clause-back : goal.own_tree-returns-clause-back
own_tree-returns-clause-back t c =
    let g = game_of c.args.tables.now in
    let i = c.args.i.0 in
    let w = c.args.self.now in
    let b = c.part.new.self in
    let back =
    own_back g i w c.requires.within c.clear.new.self c.clear.ensures.same c.clear.ensures.others b
    c.in_ok-part.ensures.on c.undo_to.new.self c.mark-mark.result.at c.mark-mark.ensures c.undo_to.ensures.past
    c.undo_to.ensures.content in
    on_ok_weaker c.close.result (back_then g i w (record b { remains = c.undo_to.new.self }) c.close.new.self back)
    c.close.ensures.back

pub own_tree-undo_to-requires-clause-full : goal.own_tree-undo_to-requires-clause-full
own_tree-undo_to-requires-clause-full t c =
    let w = c.args.self.now in
    let b = c.part.new.self in
    let past = c.in_ok-part.ensures.on.past in
    ap has_empty (past_before w.remains b.remains c.mark-mark.result.at c.mark-mark.ensures past)
    ∙ c.requires.full

pub own_tree-close-requires-clause-full : goal.own_tree-close-requires-clause-full
own_tree-close-requires-clause-full t c =
    let w = c.args.self.now in
    let b = c.part.new.self in
    let past = c.in_ok-part.ensures.on.past in
    ap has_empty
    (c.undo_to.ensures.content ∙ past_before w.remains b.remains c.mark-mark.result.at c.mark-mark.ensures past)
    ∙ c.requires.full

pub own_tree-close-requires-clause-within : goal.own_tree-close-requires-clause-within
own_tree-close-requires-clause-within t c =
    let g = game_of c.args.tables.now in
    let i = c.args.i.0 in
    let w = c.args.self.now in
    let b = c.part.new.self in
    let back =
    own_back g i w c.requires.within c.clear.new.self c.clear.ensures.same c.clear.ensures.others b
    c.in_ok-part.ensures.on c.undo_to.new.self c.mark-mark.result.at c.mark-mark.ensures c.undo_to.ensures.past
    c.undo_to.ensures.content in
    within_back g i w (record b { remains = c.undo_to.new.self }) c.requires.within back

-- a part
pub part-end-requires : goal.part-end-requires
part-end-requires t c =
    let g = game_of c.args.tables.now in
    let i = c.args.i.0 in
    let box = c.args.self.now.remains.box in
    let last = c.take_steps-last in
    let b = c.requires.tree in
    let k = last.ensures.taken b.steps b.ending b.rest b.is (part_fits g b.steps b.ending i box b.reads) in
    let less = last.ensures.shorter in (
      omega (arith, less),
      (
        c.requires.lists,
        (last.ensures.within, (c.requires.scope, record { ending = b.ending; rest = b.rest; is = k.0; reads = subst (CanReadEnd g b.ending i) (sym k.1.box) (part_end g b.steps b.ending i box b.reads) })),
      ),
    )

pub part-returns-clause-tells : goal.part-returns-clause-tells
part-returns-clause-tells t c =
    let g = game_of c.args.tables.now in
    let i = c.args.i.0 in
    let w = c.args.self.now in
    let last = c.take_steps-last in
    let a = last.new.self in
    let box = w.remains.box in
    on_ok_weaker c.end.result (λ h steps e rest is reads.
    let k = last.ensures.taken steps e rest is (part_fits g steps e i box reads) in
    let m = h e rest k.0 (subst (CanReadEnd g e i) (sym k.1.box) (part_end g steps e i box reads)) in
    let taken = steps_told g i w.joins a.joins c.args.leaves.now steps box c.known.ensures c.requires.within.declared k.1.stands in
    (m.0, part_told g i w.joins a.joins c.end.new.self.joins c.args.leaves.now c.end.new.leaves steps e box a.remains.box taken k.1.box m.1)) c.end.ensures.tells

-- what follows its removals
pub end-returns-in-Empty-clause-tells : goal.end-returns-in-Empty-clause-tells
end-returns-in-Empty-clause-tells t c = λ e rest is reads.
    let x = c.args.leaves.now in
    let js = c.args.self.now.joins in
    let ls = c.args.lines.now in
    let k = end_empty e rest ls (subst (λ l. l ∷ ls ≡ ending_lines e ++ rest) c.in-Empty.is is) in
    (k.1, empty_told (game_of c.args.tables.now) c.args.i.0 js js x x e c.args.self.now.remains.box k.0)

pub end-returns-in-Barred-clause-tells : goal.end-returns-in-Barred-clause-tells
end-returns-in-Barred-clause-tells t c = λ e rest is reads.
    let x = c.args.leaves.now in
    let ls = c.args.lines.now in
    let k = end_barred e rest ls (subst (λ l. l ∷ ls ≡ ending_lines e ++ rest) c.in-Barred.is is) in
    (k.1, barred_told (game_of c.args.tables.now) c.args.i.0 c.args.self.now.joins c.add_barred.new.self x x e c.args.self.now.remains.box k.0 c.add_barred.ensures.stands)

pub end-next-requires : goal.end-next-requires
end-next-requires t c =
    let g = game_of c.args.tables.now in
    let i = c.args.i.0 in
    let box = c.args.self.now.remains.box in
    let b = c.requires.tree in
    let ls = c.args.lines.now in
    let k = end_next b.ending b.rest ls (subst (λ l. l ∷ ls ≡ ending_lines b.ending ++ b.rest) c.in-Next.is b.is) in
    let h = subst (λ u. CanReadEnd g u i box) k.1 b.reads in (
      omega arith,
      (
        c.requires.lists,
        (c.requires.within, (c.requires.scope, (next_full g k.0 i box h, (next_fixed g k.0 i box h, record { tree = k.0; rest = b.rest; is = k.2; reads = next_node g k.0 i box h c.requires.scope })))),
      ),
    )

pub end-returns-in-Next-clause-tells : goal.end-returns-in-Next-clause-tells
end-returns-in-Next-clause-tells t c =
    let g = game_of c.args.tables.now in
    let i = c.args.i.0 in
    let box = c.args.self.now.remains.box in
    let ls = c.args.lines.now in
    on_ok_weaker c.next.result (λ h e rest is reads.
    let k = end_next e rest ls (subst (λ l. l ∷ ls ≡ ending_lines e ++ rest) c.in-Next.is is) in
    let m = h k.0 rest k.2 (next_node g k.0 i box (subst (λ u. CanReadEnd g u i box) k.1 reads) c.requires.scope) in
    (m.0, next_told g i c.args.self.now.joins c.next.new.self.joins c.args.leaves.now c.next.new.leaves e box k.0 k.1 c.requires.scope m.1)) c.next.ensures.tells

pub end-branch-self-requires : goal.end-branch-self-requires
end-branch-self-requires t c =
    let g = game_of c.args.tables.now in
    let i = c.args.i.0 in
    let x = c.in-Branch.x in
    let box = c.args.self.now.remains.box in
    let b = c.requires.tree in
    let ls = c.args.lines.now in
    let k = end_branch x b.ending b.rest ls (subst (λ l. l ∷ ls ≡ ending_lines b.ending ++ b.rest) c.in-Branch.is b.is) in
    let h = subst (λ u. CanReadEnd g u i box) k.1 b.reads in (
      omega arith,
      (
        c.requires.lists,
        (
          c.requires.within,
          (
            c.requires.scope,
            (branch_full g x k.0 i box h, (branch_variable g x k.0 i box h (box_size g box c.requires.within.declared), record { cases = k.0; rest = b.rest; is = k.2; reads = branch_cases g x k.0 i box h })),
          ),
        ),
      ),
    )

pub end-returns-in-Branch-clause-tells : goal.end-returns-in-Branch-clause-tells
end-returns-in-Branch-clause-tells t c =
    let g = game_of c.args.tables.now in
    let i = c.args.i.0 in
    let x = c.in-Branch.x in
    let box = c.args.self.now.remains.box in
    let ls = c.args.lines.now in
    on_ok_weaker c.branch-self.result (λ h e rest is reads.
    let k = end_branch x e rest ls (subst (λ l. l ∷ ls ≡ ending_lines e ++ rest) c.in-Branch.is is) in
    let m = h k.0 rest k.2 (branch_cases g x k.0 i box (subst (λ u. CanReadEnd g u i box) k.1 reads)) in
    (m.0, branch_told g i c.args.self.now.joins c.branch-self.new.self.joins c.args.leaves.now c.branch-self.new.leaves e box x k.0 k.1 m.1)) c.branch-self.ensures.tells

pub end-unreachable-requires : goal.end-unreachable-requires
end-unreachable-requires t c =
    let b = c.requires.tree in
    no_ending b.ending b.rest c.args.lines.now c.args.line c.in_default.not-Empty c.in_default.not-Barred c.in_default.not-Next c.in_default.not-Branch b.is

-- the node after a tuple
pub next-add_node-requires-clause-within : goal.next-add_node-requires-clause-within
next-add_node-requires-clause-within t c =
    let g = game_of c.args.tables.now in
    let i = c.args.i.0 in
    let a = c.read_tuple.new.self in
    let b = c.node.new.self in
    within_back g (suc i) a b c.read_tuple.ensures.within
    (subst (λ j. IsBack g j a b) (add-one i) c.in_ok-shown.ensures.back)

pub next-returns-clause-back : goal.next-returns-clause-back
next-returns-clause-back t c =
    let g = game_of c.args.tables.now in
    let i = c.args.i.0 in
    let w = c.args.self.now in
    let a = c.read_tuple.new.self in
    let b = c.node.new.self in
    let there = back_then g i w a b c.read_tuple.ensures.back (back_below g i a b (subst (λ j. IsBack g j a b) (add-one i) c.in_ok-shown.ensures.back)) in
    on_ok_weaker c.add_node.result (back_then g i w b c.add_node.new.self there) c.add_node.ensures.back

pub next-returns-clause-tells : goal.next-returns-clause-tells
next-returns-clause-tells t c =
    let g = game_of c.args.tables.now in
    let i = c.args.i.0 in
    let w = c.args.self.now in
    let a = c.read_tuple.new.self in
    let b = c.node.new.self in
    let box = w.remains.box in
    let back = subst (λ j. IsBack g j a b) (add-one i) c.in_ok-shown.ensures.back in
    let same : a.remains.box ≡ box = c.read_tuple.ensures.back.box in
    let there : b.remains.box ≡ box = back.box ∙ same in
    on_ok_weaker c.add_node.result (λ h u rest e reads.
    let k = c.in_ok-shown.ensures.shows u rest e (subst (λ j. CanReadNode g u j a.remains.box) (sym (add-one i)) (subst (CanReadNode g u (suc i)) (sym same) reads)) in
    let f = node_finding g u (suc i) box in
    let fits = tree_fits g c.known.ensures u (suc i) box (box_domains g box c.known.ensures.domains c.requires.within.declared) reads in (
      k.0,
      λ n ls few seen.
          let shows : Shows f (out_of b.joins) c.in_ok-shown.shown =
          subst (λ j. Shows (node_finding g u j box) (out_of b.joins) c.in_ok-shown.shown) (add-one i)
          (subst (λ bx. Shows (node_finding g u (i + 1) bx) (out_of b.joins) c.in_ok-shown.shown) same (k.1 (omega (arith, few)))) in
          let kept = seen_joins g i w.joins b.joins c.args.leaves.now n ls (λ s. back.keeps.joins i (map seen_of ls) (omega arith) (subst (λ js. StandsAt js i (map seen_of ls)) (sym c.read_tuple.ensures.joins) s)) seen in
          subst (λ bx. HasSeen g i c.add_node.new.self.joins c.add_node.new.leaves (n + ends_of u) (ls ++ leaf_node (position g (suc i) bx) f ∷ [])) there
          (h f (ends_of u) shows fits.long fits.ends n ls few kept),
    )) c.add_node.ensures.tells

-- a case
pub case-returns-in-Skip-clause-tells : goal.case-returns-in-Skip-clause-tells
case-returns-in-Skip-clause-tells t c = λ u rest is reads.
    let x = c.args.leaves.now in
    let ls = c.args.lines.now in
    let k = case_skip u rest ls (subst (λ l. l ∷ ls ≡ case_lines u ++ rest) c.in-Skip.is is) in
    (k.1, skip_told (game_of c.args.tables.now) c.args.i.0 c.args.self.now.joins c.add_skipped.new.self x x u _ k.0 c.add_skipped.ensures.stands)

pub case-returns-in-Open-clause-tells : goal.case-returns-in-Open-clause-tells
case-returns-in-Open-clause-tells t c = λ u rest is reads.
    let x = c.args.leaves.now in
    let ls = c.args.lines.now in
    let k = case_open u rest ls (subst (λ l. l ∷ ls ≡ case_lines u ++ rest) c.in-Open.is is) in
    (k.1, open_told (game_of c.args.tables.now) c.args.i.0 c.args.self.now.joins c.add_skipped-in-Open.new.self x x u _ k.0 c.add_skipped-in-Open.ensures.stands)

pub case-taken-requires : goal.case-taken-requires
case-taken-requires t c =
    let g = game_of c.args.tables.now in
    let b = c.requires.tree in
    let r = c.requires in
    let k = case_go b.case b.rest c.args.lines.now c.args.line c.in_default.not-Skip c.in_default.not-Open b.is in (
      omega arith,
      (
        r.lists,
        (
          r.within,
          (
            r.scope,
            (
              r.full,
              (
                r.variable,
                (
                  r.first,
                  (r.last, record { steps = k.0; ending = k.1; rest = b.rest; is = k.3; reads = subst (λ u. CanReadCase g u c.args.i.0 (box_within c.args.self.now.remains.box c.args.x.0 c.args.ends.first c.args.ends.last)) k.2 b.reads }),
                ),
              ),
            ),
          ),
        ),
      ),
    )

pub case-returns-in_default-clause-tells : goal.case-returns-in_default-clause-tells
case-returns-in_default-clause-tells t c =
    let g = game_of c.args.tables.now in
    let i = c.args.i.0 in
    let box = box_within c.args.self.now.remains.box c.args.x.0 c.args.ends.first c.args.ends.last in
    on_ok_weaker c.taken.result (λ h u rest is reads.
    let k = case_go u rest c.args.lines.now c.args.line c.in_default.not-Skip c.in_default.not-Open is in
    let m = h k.0 k.1 rest k.3 (subst (λ v. CanReadCase g v i box) k.2 reads) in
    (m.0, go_told g i c.args.self.now.joins c.taken.new.self.joins c.args.leaves.now c.taken.new.leaves u box k.0 k.1 k.2 m.1)) c.taken.ensures.tells

-- a case that is gone into
pub taken-part-requires : goal.taken-part-requires
taken-part-requires t c =
    let first_fits : SFits w64 c.args.ends.first = search rules in
    let last_fits : SFits w64 c.args.ends.last = search rules in
    let kept : c.keep.new.self.box ≡ box_within c.args.self.now.remains.box c.args.x.0 c.args.ends.first c.args.ends.last = simp to_z-of_z at c.keep.ensures.content in
    let g = game_of c.args.tables.now in (
      omega arith,
      (
        c.requires.lists,
        (
          within_kept_box g c.args.i.0 c.args.self.now c.keep.new.self c.args.x.0 c.args.ends.first c.args.ends.last c.requires.within kept (c.keep.ensures.fewer (declared_box g) c.requires.within.declared),
          (c.requires.scope, subst (BeginsPart g (c.args.line ∷ c.args.lines.now) c.args.i.0) (sym kept) c.requires.tree),
        ),
      ),
    )

pub taken-undo_to-requires-clause-full : goal.taken-undo_to-requires-clause-full
taken-undo_to-requires-clause-full t c =
    let w = c.args.self.now in
    let b = c.part.new.self in
    let past = follows_then w.remains c.keep.new.self b.remains c.keep.ensures.past c.in_ok-part.ensures.on.past in
    ap has_empty (past_before w.remains b.remains c.mark-mark.result.at c.mark-mark.ensures past) ∙ c.requires.full

pub taken-returns-clause-back : goal.taken-returns-clause-back
taken-returns-clause-back t c =
    let first_fits : SFits w64 c.args.ends.first = search rules in
    let last_fits : SFits w64 c.args.ends.last = search rules in
    let kept : c.keep.new.self.box ≡ box_within c.args.self.now.remains.box c.args.x.0 c.args.ends.first c.args.ends.last = simp to_z-of_z at c.keep.ensures.content in
    let g = game_of c.args.tables.now in
    taken_back g c.args.i.0 c.args.self.now c.requires.within c.args.x.0 c.args.ends.first c.args.ends.last c.keep.new.self kept c.keep.ensures.past c.part.new.self c.in_ok-part.ensures.on c.undo_to.new.self c.mark-mark.result.at c.mark-mark.ensures c.undo_to.ensures.past c.undo_to.ensures.content

pub taken-returns-clause-tells : goal.taken-returns-clause-tells
taken-returns-clause-tells t c = λ steps e rest is reads.
    let first_fits : SFits w64 c.args.ends.first = search rules in
    let last_fits : SFits w64 c.args.ends.last = search rules in
    let kept : c.keep.new.self.box ≡ box_within c.args.self.now.remains.box c.args.x.0 c.args.ends.first c.args.ends.last = simp to_z-of_z at c.keep.ensures.content in
    let g = game_of c.args.tables.now in
    let i = c.args.i.0 in
    let k = c.in_ok-part.ensures.tells steps e rest is (subst (CanReadPart g steps e i) (sym kept) reads) in
    (k.0, subst (λ b. Tells g i c.args.self.now.joins c.args.leaves.now c.part.new.self.joins c.part.new.leaves (ending_ends e) (part_leaves g steps e i b)) kept k.1)

-- the cases of a branch
pub branch-loop-upto-init : goal.branch-loop-upto-init
branch-loop-upto-init t c =
    let g = game_of c.args.tables.now in
    let w = c.args.self.now in
    let vs = values_left w.remains.box c.args.x.0 in
    record {
      left = no_case_walked g c.args.i.0 c.args.x.0 c.args.lines.now w c.args.leaves.now (negsuc 999999999) (from_least vs (left_small g w.remains.box c.args.x.0 c.known.ensures.domains c.requires.within.declared)) (back_self g c.args.i.0 w c.requires.within);
      shorter = omega arith;
    }

pub branch-next_case-requires : goal.branch-next_case-requires
branch-next_case-requires t c =
    let g = game_of c.args.tables.now in
    let i = c.args.i.0 in
    let x = c.args.x.0 in
    let w = c.args.self.now in
    let all = c.args.lines.now in
    let a = c.args.leaves.now in
    let l = c.loop-upto in
    let from = to_z w64 l.from-bits in
    begun_cases g i x all w a c.requires.tree from l.lines l.self l.leaves l.invariant.left

pub branch-case-requires : goal.branch-case-requires
branch-case-requires t c =
    let g = game_of c.args.tables.now in
    let i = c.args.i.0 in
    let x = c.args.x.0 in
    let w = c.args.self.now in
    let all = c.args.lines.now in
    let a = c.args.leaves.now in
    let l = c.loop-upto in
    let from = to_z w64 l.from-bits in
    let ls = c.next_case.new.lines in
    let ends = c.ends_of-ends.result in
    let s = c.in-Some in
    let back = begun_back g i x all w a c.requires.tree from l.lines l.self l.leaves l.invariant.left in
    let made : IsCase (values_left w.remains.box x) from s.upto ends.first ends.last = subst (λ b. IsCase (values_left b x) from s.upto ends.first ends.last) (ap (λ (h : Held). h.box) c.store.ensures ∙ back.box) c.ends_of-ends.ensures in
    let less = s.ensures.shorter in
    let most = l.invariant.shorter in
    let here = back.box in (
      omega (arith, less, most),
      (
        c.requires.lists,
        (
          within_back g i w l.self c.requires.within back,
          (
            c.requires.scope,
            (
              ap has_empty here ∙ c.requires.full,
              (
                subst (λ b. x < length b) (sym here) c.requires.variable,
                (
                  made.first_number,
                  (made.last_number, begins_case g i x all w a from l.lines ls l.self l.leaves l.invariant.left s.upto s.line s.ensures.cases ends.first ends.last made c.requires.tree),
                ),
              ),
            ),
          ),
        ),
      ),
    )

pub branch-loop-upto-preserved : goal.branch-loop-upto-preserved
branch-loop-upto-preserved t c =
    let g = game_of c.args.tables.now in
    let i = c.args.i.0 in
    let x = c.args.x.0 in
    let w = c.args.self.now in
    let all = c.args.lines.now in
    let a = c.args.leaves.now in
    let l = c.loop-upto in
    let from = to_z w64 l.from-bits in
    let ls = c.next_case.new.lines in
    let ends = c.ends_of-ends.result in
    let s = c.in-Some in
    let back = begun_back g i x all w a c.requires.tree from l.lines l.self l.leaves l.invariant.left in
    let made : IsCase (values_left w.remains.box x) from s.upto ends.first ends.last = subst (λ b. IsCase (values_left b x) from s.upto ends.first ends.last) (ap (λ (h : Held). h.box) c.store.ensures ∙ back.box) c.ends_of-ends.ensures in
    let less = s.ensures.shorter in
    let most = l.invariant.shorter in
    let few = case_walked_shorter g i x all w a from l.lines ls l.self l.leaves l.invariant.left s.upto s.line s.ensures.cases ends.first ends.last made c.case.new.self c.case.new.leaves c.case.new.lines c.in_ok-case.ensures.tells c.requires.tree in
    let one = one_case_walked g i x all w a from l.lines ls l.self l.leaves l.invariant.left s.upto s.line s.ensures.cases ends.first ends.last made c.case.new.self c.case.new.leaves c.case.new.lines c.in_ok-case.ensures.tells c.in_ok-case.ensures.back in
    record {
      left = subst (λ v. CasesLeft g i x v all c.case.new.lines w c.case.new.self a c.case.new.leaves) (sym (passed_after ends.last made.last_number)) one;
      shorter = omega (arith, few, less, most);
    }

pub branch-loop-upto-smaller : goal.branch-loop-upto-smaller
branch-loop-upto-smaller t c =
    let g = game_of c.args.tables.now in
    let i = c.args.i.0 in
    let x = c.args.x.0 in
    let w = c.args.self.now in
    let all = c.args.lines.now in
    let a = c.args.leaves.now in
    let l = c.loop-upto in
    let from = to_z w64 l.from-bits in
    let ls = c.next_case.new.lines in
    let ends = c.ends_of-ends.result in
    let s = c.in-Some in
    let back = begun_back g i x all w a c.requires.tree from l.lines l.self l.leaves l.invariant.left in
    let made : IsCase (values_left w.remains.box x) from s.upto ends.first ends.last = subst (λ b. IsCase (values_left b x) from s.upto ends.first ends.last) (ap (λ (h : Held). h.box) c.store.ensures ∙ back.box) c.ends_of-ends.ensures in
    let less = s.ensures.shorter in
    let most = l.invariant.shorter in
    let few = case_walked_shorter g i x all w a from l.lines ls l.self l.leaves l.invariant.left s.upto s.line s.ensures.cases ends.first ends.last made c.case.new.self c.case.new.leaves c.case.new.lines c.in_ok-case.ensures.tells c.requires.tree in
    omega (arith, few, less)

pub branch-returns-clause-back : goal.branch-returns-clause-back
branch-returns-clause-back t c =
    let g = game_of c.args.tables.now in
    let i = c.args.i.0 in
    let x = c.args.x.0 in
    let w = c.args.self.now in
    let all = c.args.lines.now in
    let a = c.args.leaves.now in
    let l = c.loop-upto in
    let from = to_z w64 l.from-bits in
    begun_back g i x all w a c.requires.tree from l.lines l.self l.leaves l.invariant.left

pub branch-returns-clause-tells : goal.branch-returns-clause-tells
branch-returns-clause-tells t c =
    let g = game_of c.args.tables.now in
    let i = c.args.i.0 in
    let x = c.args.x.0 in
    let w = c.args.self.now in
    let all = c.args.lines.now in
    let a = c.args.leaves.now in
    let l = c.loop-upto in
    let from = to_z w64 l.from-bits in
    all_cases_walked g i x all w a from l.lines c.next_case.new.lines l.self l.leaves l.invariant.left c.in_default.ensures.cases
