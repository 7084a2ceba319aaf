use Rattle.std.proofs.Common.{◌∙◌, ◌++◌, ◌∷◌, sym, ap, arith}
use Rattle.proof_tree.specs.Lines.{body_lines}
use Rattle.qc_play.proofs.PartLines.{tree_some, body_some, horizon_of, horizon_taken, no_horizon, fewer_left}
use Rattle.qc_play.proofs.taking.begin_body.Goals as goal

pub take-first-requires : goal.take-first-requires
take-first-requires c = let r = c.requires in tree_some c.args.lines.now r.0 r.1 r.2

pub pass_horizon-requires : goal.pass_horizon-requires
pass_horizon-requires c =
    let r = c.requires in
    let ls = c.take-first.new.self in
    let h = horizon_of r.0 r.1 ls c.in-Horizon.k (ap (λ l. l ∷ ls) (sym c.in-Horizon.is) ∙ (sym c.take-first.ensures ∙ r.2)) in
    (h.0, body_lines h.1 ++ r.1, h.2)

pub take-requires : goal.take-requires
take-requires c =
    let r = c.requires in
    let ls = c.take-first.new.self in
    let h = horizon_of r.0 r.1 ls c.in-Horizon.k (ap (λ l. l ∷ ls) (sym c.in-Horizon.is) ∙ (sym c.take-first.ensures ∙ r.2)) in
    body_some c.pass_horizon.new.lines h.1 r.1 (c.pass_horizon.ensures.passed h.0 (body_lines h.1 ++ r.1) h.2)

pub returns-in-Horizon-clause-body : goal.returns-in-Horizon-clause-body
returns-in-Horizon-clause-body c z b rest e =
    let ls = c.take-first.new.self in
    let h = horizon_taken z b rest ls c.in-Horizon.k (ap (λ l. l ∷ ls) (sym c.in-Horizon.is) ∙ (sym c.take-first.ensures ∙ e)) in
    sym c.take.ensures ∙ c.pass_horizon.ensures.passed h.0 (body_lines b ++ rest) h.1

pub returns-in-Horizon-clause-shorter : goal.returns-in-Horizon-clause-shorter
returns-in-Horizon-clause-shorter c =
    let a = fewer_left c.take-first.result c.take-first.new.self c.args.lines.now c.take-first.ensures in
    let b = c.pass_horizon.ensures.shorter in
    let d = fewer_left c.take.result c.take.new.self c.pass_horizon.new.lines c.take.ensures in
    omega (arith, a, b, d)

pub returns-in_default : goal.returns-in_default
returns-in_default c =
    let less = fewer_left c.take-first.result c.take-first.new.self c.args.lines.now c.take-first.ensures in
    record {
      body = λ z b rest h. no_horizon z b rest c.take-first.new.self c.take-first.result c.in_default.not-Horizon (sym c.take-first.ensures ∙ h);
      shorter = less;
    }
