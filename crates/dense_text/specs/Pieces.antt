-- The pieces of a dense certificate's text.
use Rattle.std.specs.Prelude.{ℕ, nat_lt, Bool, true, false, ◌&&◌, Option, List, [], ◌∷◌, ◌++◌, flat_map, codes, ℤ, ◌^◌}
use Rattle.std.specs.Fmt.{signed_decimal}
use Rattle.qc_model.specs.Valid.{is_number}
use Rattle.proof_tree.specs.declared.tree.Outcome.{Outcome}
use Rattle.proof_tree.specs.Text.{place_text, range_text, outcome_text, outcome_fits, is_place}
use Rattle.lemma_text.specs.Items.{end_text}
use Rattle.dense_tree.specs.Tree.{Certificate}
use Rattle.dense_tree.specs.Lines.{Line, given_line, named_line, horizon_line, stuck_line, goal_line, again_line, no_play_line, close_line, bound_line, reply_line, empty_line, barred_line, best_line, next_line, chosen_line, branch_line, range_line, skip_line, open_line, dot_line, certificate_lines}
use Rattle.dense_tree.specs.Text.{scope_fits}
use Rattle.dense_text.specs.declared.piece.Tuple.{Tuple}
use Rattle.dense_text.specs.declared.piece.Tuple.TheVariants.{Given as GivenTuple, Reply as ReplyTuple, Chosen as ChosenTuple}
use Rattle.dense_text.specs.declared.piece.Piece.{Piece}
use Rattle.dense_text.specs.declared.piece.Piece.TheVariants.{Head, Given, Reply, Chosen, Value, Named, Horizon, Stuck, Goal, Again, NoPlay, Close, Bound, Empty, Barred, BestLeft, Next, Branch, Range, Skip, LeftOpen, Dot}

abbrev pub piece_text : Piece → List ℕ
piece_text (Head outcome optimum) = codes "qcert 4\n" ++ outcome_text outcome optimum
piece_text (Given k bare) = codes "u " ++ (place_text k.0 ++ end_text bare)
piece_text (Reply bare) = codes "f" ++ end_text bare
piece_text (Chosen bare) = codes "w" ++ end_text bare
piece_text (Value u v last) = signed_decimal v ++ end_text last
piece_text Named = codes "m\n"
piece_text (Horizon k) = codes "h " ++ (place_text k.0 ++ codes "\n")
piece_text Stuck = codes "t\n"
piece_text Goal = codes "g\n"
piece_text (Again n) = codes "a " ++ (place_text n ++ codes "\n")
piece_text (NoPlay k) = codes "l " ++ (place_text k.0 ++ codes "\n")
piece_text Close = codes "c\n"
piece_text (Bound x low high) = codes "b " ++ (place_text x.0 ++ (codes " " ++ (range_text low high ++ codes "\n")))
piece_text Empty = codes "e\n"
piece_text Barred = codes "x\n"
piece_text BestLeft = codes "y\n"
piece_text Next = codes "n\n"
piece_text (Branch x) = codes "v " ++ (place_text x.0 ++ codes "\n")
piece_text (Range high) = codes "r " ++ (signed_decimal high ++ codes "\n")
piece_text Skip = codes "s\n"
piece_text LeftOpen = codes "o\n"
piece_text Dot = codes ".\n"

-- its numbers are of the ranges that a text can have
abbrev pub piece_fits : Piece → Bool
piece_fits (Head outcome optimum) = outcome_fits outcome optimum
piece_fits (Given k bare) = scope_fits k
piece_fits (Reply bare) = true
piece_fits (Chosen bare) = true
piece_fits (Value u v last) = is_number v
piece_fits Named = true
piece_fits (Horizon k) = scope_fits k
piece_fits Stuck = true
piece_fits Goal = true
piece_fits (Again n) = nat_lt n (2 ^ 30)
piece_fits (NoPlay k) = scope_fits k
piece_fits Close = true
piece_fits (Bound x low high) = is_place 500 x.0 && is_number low && is_number high
piece_fits Empty = true
piece_fits Barred = true
piece_fits BestLeft = true
piece_fits Next = true
piece_fits (Branch x) = is_place 500 x.0
piece_fits (Range high) = is_number high
piece_fits Skip = true
piece_fits LeftOpen = true
piece_fits Dot = true

abbrev pub is_none : List ℤ → Bool
is_none [] = true
is_none (v ∷ vs) = false

abbrev pub value_pieces : Tuple → List ℤ → List Piece
value_pieces u [] = []
value_pieces u (v ∷ vs) = Value u v (is_none vs) ∷ value_pieces u vs

-- a tuple's line is several pieces, any other is one
abbrev pub line_pieces : Line → List Piece
line_pieces (given_line k t) = Given k (is_none t) ∷ value_pieces GivenTuple t
line_pieces named_line = Named ∷ []
line_pieces (horizon_line k) = Horizon k ∷ []
line_pieces stuck_line = Stuck ∷ []
line_pieces goal_line = Goal ∷ []
line_pieces (again_line n) = Again n ∷ []
line_pieces (no_play_line k) = NoPlay k ∷ []
line_pieces close_line = Close ∷ []
line_pieces (bound_line x low high) = Bound x low high ∷ []
line_pieces (reply_line t) = Reply (is_none t) ∷ value_pieces ReplyTuple t
line_pieces empty_line = Empty ∷ []
line_pieces barred_line = Barred ∷ []
line_pieces best_line = BestLeft ∷ []
line_pieces next_line = Next ∷ []
line_pieces (chosen_line t) = Chosen (is_none t) ∷ value_pieces ChosenTuple t
line_pieces (branch_line x) = Branch x ∷ []
line_pieces (range_line high) = Range high ∷ []
line_pieces skip_line = Skip ∷ []
line_pieces open_line = LeftOpen ∷ []
line_pieces dot_line = Dot ∷ []

abbrev pub certificate_pieces : Outcome → Option ℤ → Certificate → List Piece
certificate_pieces outcome optimum c = Head outcome optimum ∷ flat_map line_pieces (certificate_lines c)
