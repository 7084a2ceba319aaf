use Rattle.std.proofs.Common.{sym, subst}
use Rattle.std.specs.Str.{IsUtf8}
use Rattle.text_resolve.proofs.WordText.{word_text}
use Rattle.text_resolve.proofs.draft.name_of.Goals as goal

pub unreachable-requires : goal.unreachable-requires
unreachable-requires c = c.in-Err.ensures.cases.0 (subst IsUtf8 (sym c.bytes_of.ensures) (word_text _ c.requires))
