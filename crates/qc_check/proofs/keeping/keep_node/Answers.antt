use Rattle.std.proofs.Common.{◌≡◌, ◌∷◌, ◌∙◌, subst, sym, take}
use Rattle.std.specs.Prelude.{IsTrue}
use Rattle.qc_model.specs.Content.{Game}
use Rattle.likeness.specs.Likeness.{ask_nothing}
use Rattle.check_lines.specs.Machine.{game_of}
use Rattle.qc_check.specs.Keeping.{AreStartsAt, MayEnd}
use Rattle.qc_check.specs.Places.{StartHeld, rest}
use Rattle.qc_check.proofs.Ending.{known_here, known_as, between}
use Rattle.qc_check.proofs.keeping.keep_node.Goals as goal

pub keep-requires : goal.keep-requires
keep-requires c =
    let m = c.args.machine.now in
    let bytes = c.args.bytes.now in
    let start = c.in-Some.start in
    let s : StartHeld = record { start = start; values = c.in-Some.ensures.some.0 } in
    let more = rest c.args.starts.now in
    let is : c.args.starts.now ≡ s ∷ more = c.in-Some.ensures.some.1 in
    let ended = c.in-Some-node_ended in
    let plain : IsTrue (ask_nothing (game_of m).scopes) = subst (λ (g : Game). IsTrue (ask_nothing g.scopes)) c.requires.game (c.is_plain.ensures c.if-not-is_plain.false) in
    let stands = subst (AreStartsAt MayEnd m (take c.args.at bytes)) is c.requires.stands in
    let told = ended.ensures.told stands.ledger c.requires.ready stands.tells in
    let known = known_here m stands.ledger (take c.args.at bytes) s ended.ended c.in-Some-is_won.won plain c.in-Some-is_won.ensures ended.ensures.ended told (stands.starts told.ledger told.is).0
    c.if-ended.false (c.if-start-depth.false ∙ c.depth.ensures) in
    record {
      known = known_as _ _ _ _ _ _ _ _ _ _ _ _ (sym c.requires.game) (sym (c.last_values.ensures s more is)) (sym c.saturating_sub.ensures) (between start.at c.args.at bytes c.if-start-at.false) known;
    }
