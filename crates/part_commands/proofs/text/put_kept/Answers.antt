use Rattle.std.proofs.Common.{◌≡◌, ◌∙◌, ◌++◌, ap, append_assoc, rules, w64}
use Rattle.std.proofs.lemmas.Int.{to_z-of_z}
use mir.Val.{SFits}
use Rattle.std.specs.Prelude.{codes}
use Rattle.part_commands.specs.Pieces.{end_text}
use Rattle.part_commands.proofs.text.put_kept.Goals as goal

pub returns : goal.returns
returns c =
    let first : c.extend_from_slice.new.self.items ≡ c.args.head.now.items ++ codes "keep " = c.in_ok-extend_from_slice.ensures.items in
    let second : c.extend_from_slice-2.new.self.items ≡ c.extend_from_slice.new.self.items ++ c.args.kept.now.name.now = c.in_ok-extend_from_slice-2.ensures.items ∙ ap (λ t. c.extend_from_slice.new.self.items ++ t) c.as_bytes.ensures.value in
    let low : c.put_end.new.head.items ≡ c.extend_from_slice-2.new.self.items ++ end_text c.args.kept.now.lo =
    let fits : SFits w64 c.args.kept.now.lo = search rules in
    simp to_z-of_z at c.in_ok-put_end.ensures in
    let high : c.put_end-2.new.head.items ≡ c.put_end.new.head.items ++ end_text c.args.kept.now.hi =
    let fits : SFits w64 c.args.kept.now.hi = search rules in
    simp to_z-of_z at c.in_ok-put_end-2.ensures in
    let last : c.extend_from_slice-3.new.self.items ≡ c.put_end-2.new.head.items ++ codes "\n" = c.in_ok-extend_from_slice-3.ensures.items in
    rw (last, high, low, second, first) (simp append_assoc)
