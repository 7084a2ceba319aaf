use Rattle.std.proofs.Common.{◌≡◌, ◌∙◌, ℕ, None, refl, sym, ap, subst, rules}
use Rattle.std.proofs.lemmas.Int.{to_z-of_z}
use mir.Val.{SFits}
use mir.Syntax.{w64}
use Rattle.qc_model.specs.Domains.{Box}
use Rattle.proof_tree.specs.declared.line.Line.{Line}
use Rattle.fd_store.specs.Held.{past_box}
use Rattle.check_lines.specs.declared.open.Due.TheVariants as due
use Rattle.check_lines.specs.declared.machine.Machine.{Machine}
use Rattle.check_lines.specs.Ledger.{Ledger, ledger_prune}
use Rattle.check_lines.specs.Machine.{game_of}
use Rattle.check_lines.specs.Telling.{NodeTells, node_at}
use Rattle.check_lines.proofs.machine.Machine.at_prune.Goals as goal

pub returns-in-Prune-clause-tells : goal.returns-in-Prune-clause-tells
returns-in-Prune-clause-tells c =
    let m = c.args.self.now in
    let lo_fits : SFits w64 c.in-Prune.lo = search rules in
    let hi_fits : SFits w64 c.in-Prune.hi = search rules in
    subst (λ l. NodeTells m c.seen_line.new.self (λ d. ledger_prune (game_of m) d c.args.k (past_box m.remains c.args.mark.at) l)) (sym c.in-Prune.is) (simp to_z-of_z at c.seen_line.ensures.tells)

pub returns-in-Dot-clause-tells : goal.returns-in-Dot-clause-tells
returns-in-Dot-clause-tells c =
    let m = c.args.self.now in
    subst (λ l. NodeTells m c.seen_dot.new.self (λ d. ledger_prune (game_of m) d c.args.k (past_box m.remains c.args.mark.at) l)) (sym c.in-Dot.is) c.seen_dot.ensures.tells

-- a line that stands in no horizon is out of place
out_of_place : (m : Machine) (k : ℕ) (box : Box) (line found : Line) → line ≡ found → ((d : Ledger) → ledger_prune (game_of m) d k box found ≡ None) → NodeTells m (record m { due = due.Wrong }) (λ d. ledger_prune (game_of m) d k box line)
out_of_place m k box line found e none = λ n d es u few node keeps. ap (ledger_prune (game_of m) (node_at m d es u) k box) e ∙ none (node_at m d es u)

pub returns-in-Horizon-clause-tells : goal.returns-in-Horizon-clause-tells
returns-in-Horizon-clause-tells c = out_of_place c.args.self.now c.args.k (past_box c.args.self.now.remains c.args.mark.at) c.args.line _ c.in-Horizon.is (λ d. refl)

pub returns-in-Stuck-clause-tells : goal.returns-in-Stuck-clause-tells
returns-in-Stuck-clause-tells c = out_of_place c.args.self.now c.args.k (past_box c.args.self.now.remains c.args.mark.at) c.args.line _ c.in-Stuck.is (λ d. refl)

pub returns-in-Goal-clause-tells : goal.returns-in-Goal-clause-tells
returns-in-Goal-clause-tells c = out_of_place c.args.self.now c.args.k (past_box c.args.self.now.remains c.args.mark.at) c.args.line _ c.in-Goal.is (λ d. refl)

pub returns-in-Empty-clause-tells : goal.returns-in-Empty-clause-tells
returns-in-Empty-clause-tells c = out_of_place c.args.self.now c.args.k (past_box c.args.self.now.remains c.args.mark.at) c.args.line _ c.in-Empty.is (λ d. refl)

pub returns-in-Barred-clause-tells : goal.returns-in-Barred-clause-tells
returns-in-Barred-clause-tells c = out_of_place c.args.self.now c.args.k (past_box c.args.self.now.remains c.args.mark.at) c.args.line _ c.in-Barred.is (λ d. refl)

pub returns-in-Next-clause-tells : goal.returns-in-Next-clause-tells
returns-in-Next-clause-tells c = out_of_place c.args.self.now c.args.k (past_box c.args.self.now.remains c.args.mark.at) c.args.line _ c.in-Next.is (λ d. refl)

pub returns-in-Branch-clause-tells : goal.returns-in-Branch-clause-tells
returns-in-Branch-clause-tells c = out_of_place c.args.self.now c.args.k (past_box c.args.self.now.remains c.args.mark.at) c.args.line _ c.in-Branch.is (λ d. refl)

pub returns-in-Skip-clause-tells : goal.returns-in-Skip-clause-tells
returns-in-Skip-clause-tells c = out_of_place c.args.self.now c.args.k (past_box c.args.self.now.remains c.args.mark.at) c.args.line _ c.in-Skip.is (λ d. refl)

pub returns-in-Open-clause-tells : goal.returns-in-Open-clause-tells
returns-in-Open-clause-tells c = out_of_place c.args.self.now c.args.k (past_box c.args.self.now.remains c.args.mark.at) c.args.line _ c.in-Open.is (λ d. refl)

pub returns-in-Range-clause-tells : goal.returns-in-Range-clause-tells
returns-in-Range-clause-tells c = out_of_place c.args.self.now c.args.k (past_box c.args.self.now.remains c.args.mark.at) c.args.line _ c.in-Range.is (λ d. refl)
