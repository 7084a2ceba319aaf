-- A printed problem is read again.
use Rattle.qc_model.specs.Content.{Game}
use Rattle.qc_model.specs.Valid.{IsValid}
use Rattle.qc_model.specs.Canonical.{canonical_text}
use Rattle.qc_syntax.specs.Reads.{Reads}

-- the canonical text of a problem is the text of that problem
abbrev pub IsReadAgain : Type 0
IsReadAgain = (g : Game) → IsValid g → Reads (canonical_text g) g
