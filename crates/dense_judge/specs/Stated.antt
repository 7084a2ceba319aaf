-- What a certificate states, by its pieces.
use Rattle.std.specs.Prelude.{List, [], ◌∷◌, Option, Some, None}
use Rattle.dense_text.specs.declared.piece.Piece.{Piece}
use Rattle.dense_text.specs.declared.piece.Piece.TheVariants.{Head as HeadPiece}
use Rattle.dense_judge.specs.declared.heads.Head.{Head}

-- what the first head among the pieces states
abbrev pub first_head : Option Head → Piece → Option Head
first_head (Some h) i = Some h
first_head None (HeadPiece outcome optimum) = Some (record { outcome = outcome; optimum = optimum })
first_head None i = None

abbrev pub head_told : Option Head → List Piece → Option Head
head_told h [] = h
head_told h (i ∷ is) = head_told (first_head h i) is
