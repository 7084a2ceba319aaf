use Rattle.std.proofs.Common.{subst, sym, ◌++◌, take}
use Rattle.proof_text.specs.Answers.{StandsFor}
use Rattle.likeness.proofs.Plain.{no_demands}
use Rattle.check_lines.specs.Machine.{game_of}
use Rattle.qc_check.proofs.Passing.{passed}
use Rattle.qc_check.proofs.progress.Checker.pass_over.Goals as goal

pub returns-then-not-pass_node-clause-keeping : goal.returns-then-not-pass_node-clause-keeping
returns-then-not-pass_node-clause-keeping c = λ before k.
    let old = k.reading in
    let same = c.pass_node.ensures.kept c.if-not-pass_node.true in
    record {
      reading = record {
        told = old.told;
        stands = subst (λ r. StandsFor r (before ++ take c.args.at c.args.bytes.now) old.told) (sym same) old.stands;
        begins = old.begins;
        counted = old.counted;
        head_is = old.head_is;
        few = old.few;
        tells = old.tells;
      };
      starts = k.starts;
    }

pub pass_node-requires-2-clause-plain : goal.pass_node-requires-2-clause-plain
pass_node-requires-2-clause-plain c = λ i. no_demands (game_of c.args.self.now.machine) i c.requires.met.plain

pub end_nodes-requires-clause-some : goal.end_nodes-requires-clause-some
end_nodes-requires-clause-some c =
    let q = c.requires in
    let yes = c.if-not-pass_node.false in
    let reader = c.pass_node.ensures in
    let h =
    passed c.args.self.now c.pass_node.new.self c.pass_node-2.new.self c.args.due c.args.met c.saturating_sub.result c.saturating_sub.ensures q.some.0 c.args.bytes.now c.args.at q.due
    c.if-due-eq0.false c.if-due-met.false q.like q.met q.within q.room c.pass_node-2.ensures.same (reader.stands yes) (reader.says yes) c.pass_node-2.ensures.tells q.some.1 in
    (q.some.0, record { reading = h.0; starts = h.1 })

pub returns-clause-keeping : goal.returns-clause-keeping
returns-clause-keeping c = λ before k.
    let q = c.requires in
    let yes = c.if-not-pass_node.false in
    let reader = c.pass_node.ensures in
    let h =
    passed c.args.self.now c.pass_node.new.self c.pass_node-2.new.self c.args.due c.args.met c.saturating_sub.result c.saturating_sub.ensures before c.args.bytes.now c.args.at q.due
    c.if-due-eq0.false c.if-due-met.false q.like q.met q.within q.room c.pass_node-2.ensures.same (reader.stands yes) (reader.says yes) c.pass_node-2.ensures.tells k in
    c.end_nodes.ensures.keeping before (record { reading = h.0; starts = h.1 })
