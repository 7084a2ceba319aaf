use Rattle.std.proofs.Common.{◌∙◌, sym, ap, subst, refl, length, arith}
use Rattle.qc_model.specs.Content.{Game}
use Rattle.qc_model.specs.Domains.{has_empty}
use Rattle.check_lines.specs.Machine.{game_of, AreFrames}
use Rattle.box_laws.proofs.Declared.{declared_full, declared_is}
use Rattle.check_lines.proofs.LedgerSizes.{verdict_laws}
use Rattle.check_lines.proofs.Known.{none_read}
use Rattle.check_lines.proofs.Turning.{new_tells}
use Rattle.check_box.proofs.Fewer.{at_first}
use Rattle.check_lines.proofs.Bases.{base_boxed, base_read}
use Rattle.check_lines.proofs.machine.Machine.restart.Goals as goal

pub restart-requires : goal.restart-requires
restart-requires c = record { full = ap has_empty c.requires.begins.first ∙ declared_full (game_of c.args.self.now) c.known.ensures.domains }

pub returns-clause-tells : goal.returns-clause-tells
returns-clause-tells c =
    let g = game_of c.args.self.now in
    let r = new_tells g _ c.known.ensures.domains refl (c.restart.ensures.content ∙ c.requires.begins.first) c.clear.ensures refl refl refl refl in
    record { tells = r.0; sizes = r.1 }

pub returns-clause-ready : goal.returns-clause-ready
returns-clause-ready c =
    let old = c.args.self.now in
    let g = game_of old in
    let base = c.requires.begins in
    let box = c.restart.ensures.content ∙ base.first in
    record {
      sound = record {
        laws = verdict_laws g c.known.ensures;
        tracks = base.tracks;
        joined = base.joined;
        valued = base.valued;
        value_each = c.known-2.ensures.each ∙ ap (λ (u : Game). length u.variables) base.valued;
        numbers = c.known-2.ensures.numbers;
        declared = declared_is g _ c.known.ensures.domains box;
        inside = omega arith;
        placed = λ full. at_first g _ _;
        frames = subst (AreFrames g _ _ 0 _) (sym c.clear.ensures) tt;
        read = none_read g _ _ _ _ c.clear.ensures c.clear-2.ensures.none (ap (λ v. length v.items) c.clear-2.ensures.marks ∙ base.marks);
      };
      full = ap has_empty box ∙ declared_full g c.known.ensures.domains;
    }

pub returns-clause-base : goal.returns-clause-base
returns-clause-base c =
    base_boxed _ _ _ _ _ _ (c.restart.ensures.past.boxes 0 (omega arith)) ∙ base_read _ _ _ _ _ _ _ refl (ap (λ v. length v.items) c.clear-2.ensures.marks)
