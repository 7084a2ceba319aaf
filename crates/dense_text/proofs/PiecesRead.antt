-- Pieces are read whole, and so are all that may come one after the other.
use Rattle.std.proofs.Common.{◌≡◌, refl, sym, ap, ◌∙◌, ℕ, zero, suc, List, [], ◌∷◌, ◌++◌, Bool, true, false, ◌&&◌, cond, Some, None, append_assoc, arith, le-leb}
use Rattle.std.specs.Prelude.{ℤ, pos, flat_map, nat_le, nat_lt, ◌^◌}
use Rattle.std.specs.List.{list_all}
use Rattle.std.proofs.lemmas.Bool.{and_from, and_parts, ltb-true}
use Rattle.std.proofs.lemmas.List.{append-nil}
use Rattle.proof_tree.specs.declared.tree.Outcome.TheVariants.{True, False, Open}
use Rattle.lemma_text.specs.declared.parts.Field.TheVariants.{Turns as TurnsField, Value as ValueField, Total}
use Rattle.lemma_text.specs.Numerals.{value_fits}
use Rattle.lemma_text.specs.Pieces.{all_fit, tied, end_byte}
use Rattle.lemma_text.proofs.PiecesRead.{counted_fits}
use Rattle.dense_text.specs.declared.piece.Tuple.{Tuple}
use Rattle.dense_text.specs.declared.piece.Tuple.TheVariants.{Given as GivenTuple, Reply as ReplyTuple, Chosen as ChosenTuple}
use Rattle.dense_text.specs.declared.piece.Piece.{Piece}
use Rattle.dense_text.specs.declared.piece.Piece.TheVariants.{Head, Given, Reply, Chosen, Value, Named, Horizon, Stuck, Goal, Again, NoPlay, Close, Bound, Empty, Barred, BestLeft, Next, Branch, Range, Skip, LeftOpen, Dot}
use Rattle.dense_text.specs.declared.parts.Due.{Due}
use Rattle.dense_text.specs.declared.parts.Form.{Form}
use Rattle.dense_text.specs.declared.parts.Form.TheVariants.{Optimum, Turns, ValueOf, GivenLine, NameLine, HorizonLine, StuckLine, GoalLine, AgainLine, NoPlayLine, CloseLine, BoundLine, ReplyLine, EmptyLine, BarredLine, BestLine, NextLine, ChosenLine, BranchLine, RangeLine, SkipLine, OpenLine, DotLine}
use Rattle.dense_text.specs.Pieces.{piece_text, piece_fits}
use Rattle.dense_text.specs.Forms.{is_value, stem, fields, may_go_on, piece_of, spelled}
use Rattle.dense_text.specs.Grammar.{Place, at_start, at_value, at, is_same, allows, open_after, place_after, accepts, end_place, end_open}
use Rattle.dense_text.specs.States.{State, due, After, whole, may, is_end, state_at}
use Rattle.dense_text.specs.Standing.{Standing, going, moved, standing_from}
use Rattle.dense_text.proofs.Letters.{line_stem, line_read}
use Rattle.dense_text.proofs.NumbersRead.{values_read, ended_read, after_stem, lettered_read}
use Rattle.dense_text.proofs.PiecesKept.{is_piece}

-- a piece by its form and its numbers
record ASpelling (i : Piece) : Type 0 where
  f : Form
  ws : List ℤ
  last : Bool
  is : i ≡ piece_of f ws last
  fit : all_fit (fields f) ws ≡ true
  ends : is_end f (end_byte last) ≡ true
  goes : may_go_on f ≡ false → last ≡ true

-- the first two lines without a number
abbrev is_worded : Piece → Bool
is_worded (Head True None) = true
is_worded (Head False v) = true
is_worded i = false

node_fit : (m : ℕ) → nat_lt m (2 ^ 30) ≡ true → nat_le (suc m) 1073741824 ≡ true
node_fit m h = let lt = ltb-true m (2 ^ 30) h in le-leb (suc m) 1073741824 (omega arith)

turns_fit : (n : ℕ) → (nat_le 1 n && nat_le n 10000000) ≡ true → value_fits TurnsField (pos n) ≡ true
turns_fit zero h = absurd (cc)
turns_fit (suc k) h = let q = and_parts (nat_le 1 (suc k)) (nat_le (suc k) 10000000) h in q.1

spelling : (i : Piece) → piece_fits i ≡ true → is_worded i ≡ false → ASpelling i
spelling (Head True None) h n = absurd (cc)
spelling (Head True (Some v)) h n = record { f = Optimum; ws = v ∷ []; last = true; is = refl; fit = and_from _ _ h refl; ends = refl; goes = λ e. refl }
spelling (Head False v) h n = absurd (cc)
spelling (Head (Open m) None) h n = record { f = Turns; ws = pos m ∷ []; last = true; is = refl; fit = and_from _ _ (turns_fit m h) refl; ends = refl; goes = λ e. refl }
spelling (Head (Open m) (Some v)) h n = absurd (cc)
spelling (Given k true) h n = record { f = GivenLine; ws = pos (suc k.0) ∷ []; last = true; is = refl; fit = and_from _ _ (counted_fits 65 k.0 h) refl; ends = refl; goes = λ e. refl }
spelling (Given k false) h n = record { f = GivenLine; ws = pos (suc k.0) ∷ []; last = false; is = refl; fit = and_from _ _ (counted_fits 65 k.0 h) refl; ends = refl; goes = λ e. absurd (cc) }
spelling (Reply true) h n = record { f = ReplyLine; ws = []; last = true; is = refl; fit = refl; ends = refl; goes = λ e. refl }
spelling (Reply false) h n = record { f = ReplyLine; ws = []; last = false; is = refl; fit = refl; ends = refl; goes = λ e. absurd (cc) }
spelling (Chosen true) h n = record { f = ChosenLine; ws = []; last = true; is = refl; fit = refl; ends = refl; goes = λ e. refl }
spelling (Chosen false) h n = record { f = ChosenLine; ws = []; last = false; is = refl; fit = refl; ends = refl; goes = λ e. absurd (cc) }
spelling (Value w v true) h n = record { f = (ValueOf w); ws = v ∷ []; last = true; is = refl; fit = and_from _ _ h refl; ends = refl; goes = λ e. refl }
spelling (Value w v false) h n = record { f = (ValueOf w); ws = v ∷ []; last = false; is = refl; fit = and_from _ _ h refl; ends = refl; goes = λ e. absurd (cc) }
spelling Named h n = record { f = NameLine; ws = []; last = true; is = refl; fit = refl; ends = refl; goes = λ e. refl }
spelling (Horizon k) h n = record { f = HorizonLine; ws = pos (suc k.0) ∷ []; last = true; is = refl; fit = and_from _ _ (counted_fits 65 k.0 h) refl; ends = refl; goes = λ e. refl }
spelling Stuck h n = record { f = StuckLine; ws = []; last = true; is = refl; fit = refl; ends = refl; goes = λ e. refl }
spelling Goal h n = record { f = GoalLine; ws = []; last = true; is = refl; fit = refl; ends = refl; goes = λ e. refl }
spelling (Again m) h n = record { f = AgainLine; ws = pos (suc m) ∷ []; last = true; is = refl; fit = and_from _ _ (node_fit m h) refl; ends = refl; goes = λ e. refl }
spelling (NoPlay k) h n = record { f = NoPlayLine; ws = pos (suc k.0) ∷ []; last = true; is = refl; fit = and_from _ _ (counted_fits 65 k.0 h) refl; ends = refl; goes = λ e. refl }
spelling Close h n = record { f = CloseLine; ws = []; last = true; is = refl; fit = refl; ends = refl; goes = λ e. refl }
spelling (Bound x low high) h n =
    let q = and_parts _ _ h in let o = and_parts _ _ q.0 in
    record { f = BoundLine; ws = pos (suc x.0) ∷ low ∷ high ∷ []; last = true; is = refl; fit = and_from _ _ (counted_fits 500 x.0 o.0) (and_from _ _ o.1 (and_from _ _ q.1 refl)); ends = refl; goes = λ e. refl }
spelling Empty h n = record { f = EmptyLine; ws = []; last = true; is = refl; fit = refl; ends = refl; goes = λ e. refl }
spelling Barred h n = record { f = BarredLine; ws = []; last = true; is = refl; fit = refl; ends = refl; goes = λ e. refl }
spelling BestLeft h n = record { f = BestLine; ws = []; last = true; is = refl; fit = refl; ends = refl; goes = λ e. refl }
spelling Next h n = record { f = NextLine; ws = []; last = true; is = refl; fit = refl; ends = refl; goes = λ e. refl }
spelling (Branch x) h n = record { f = BranchLine; ws = pos (suc x.0) ∷ []; last = true; is = refl; fit = and_from _ _ (counted_fits 500 x.0 h) refl; ends = refl; goes = λ e. refl }
spelling (Range high) h n = record { f = RangeLine; ws = high ∷ []; last = true; is = refl; fit = and_from _ _ h refl; ends = refl; goes = λ e. refl }
spelling Skip h n = record { f = SkipLine; ws = []; last = true; is = refl; fit = refl; ends = refl; goes = λ e. refl }
spelling LeftOpen h n = record { f = OpenLine; ws = []; last = true; is = refl; fit = refl; ends = refl; goes = λ e. refl }
spelling Dot h n = record { f = DotLine; ws = []; last = true; is = refl; fit = refl; ends = refl; goes = λ e. refl }

pub spelled_is : (f : Form) (ws : List ℤ) (e : ℕ) (rest : List ℕ) → is_value f ≡ false → spelled f ws e ++ rest ≡ stem f ++ (after_stem ws e ++ rest)
spelled_is f [] e rest h = append_assoc (stem f) (e ∷ []) rest
spelled_is f (w ∷ ws) e rest h =
    ap (λ (t : Bool). (cond t [] (stem f ++ 32 ∷ []) ++ tied (w ∷ ws) e) ++ rest) h
    ∙ append_assoc (stem f ++ 32 ∷ []) (tied (w ∷ ws) e) rest ∙ append_assoc (stem f) (32 ∷ []) (tied (w ∷ ws) e ++ rest)

-- what is read so far, and these bytes
abbrev reads : List Piece → ℕ → State → List ℕ → Standing
reads told n s w = standing_from (going told n s) w

-- what comes after a whole piece
abbrev onward : List Piece → ℕ → Piece → List ℕ → Standing
onward told n i w = standing_from (moved told n (whole i)) w

line_piece_read : (d : Due) (i : Piece) (told : List Piece) (n : ℕ) (rest : List ℕ) → allows (at d) i ≡ true → ASpelling i → reads told n (due d) (piece_text i ++ rest) ≡ onward told n i rest
line_piece_read d i told n rest a s =
    let k = is_piece (at d) s.f s.last s.ws s.fit s.goes in
    let comes : may d s.f ≡ true = sym k.allowed ∙ ap (allows (at d)) (sym s.is) ∙ a in
    let l = line_stem d s.f comes in
    let later : List ℕ = after_stem s.ws (end_byte s.last) ++ rest in
    ap (λ (j : Piece). reads told n (due d) (piece_text j ++ rest)) s.is
    ∙ ap (λ (u : List ℕ). reads told n (due d) (u ++ rest)) k.text
    ∙ ap (reads told n (due d)) (spelled_is s.f s.ws (end_byte s.last) rest l.0)
    ∙ ap (λ (u : List ℕ). reads told n (due d) (u ++ later)) l.1
    ∙ ap (λ (x : After). standing_from (moved told n x) later) (line_read d s.f comes)
    ∙ lettered_read told n s.f s.ws s.last rest s.fit s.ends
    ∙ ap (λ (j : Piece). onward told n j rest) (sym s.is)

not_worded : (d : Due) (i : Piece) → allows (at d) i ≡ true → is_worded i ≡ false
not_worded d (Head o v) a = absurd (cc)
not_worded d (Given k bare) a = refl
not_worded d (Reply bare) a = refl
not_worded d (Chosen bare) a = refl
not_worded d (Value w v last) a = refl
not_worded d Named a = refl
not_worded d (Horizon k) a = refl
not_worded d Stuck a = refl
not_worded d Goal a = refl
not_worded d (Again m) a = refl
not_worded d (NoPlay k) a = refl
not_worded d Close a = refl
not_worded d (Bound x low high) a = refl
not_worded d Empty a = refl
not_worded d Barred a = refl
not_worded d BestLeft a = refl
not_worded d Next a = refl
not_worded d (Branch x) a = refl
not_worded d (Range high) a = refl
not_worded d Skip a = refl
not_worded d LeftOpen a = refl
not_worded d Dot a = refl

value_read : (u w : Tuple) (v : ℤ) (last : Bool) (told : List Piece) (n : ℕ) (rest : List ℕ) → is_same u w ≡ true → value_fits ValueField v ≡ true → reads told n (state_at (at_value u)) (piece_text (Value w v last) ++ rest) ≡ onward told n (Value w v last) rest
value_read GivenTuple GivenTuple v true told n rest a h = values_read told n (ValueOf GivenTuple) [] ValueField [] v [] true rest (and_from _ _ h refl) ∙ ended_read told n (ValueOf GivenTuple) (v ∷ []) true rest refl
value_read GivenTuple GivenTuple v false told n rest a h = values_read told n (ValueOf GivenTuple) [] ValueField [] v [] false rest (and_from _ _ h refl) ∙ ended_read told n (ValueOf GivenTuple) (v ∷ []) false rest refl
value_read GivenTuple ReplyTuple v last told n rest a h = absurd (cc)
value_read GivenTuple ChosenTuple v last told n rest a h = absurd (cc)
value_read ReplyTuple GivenTuple v last told n rest a h = absurd (cc)
value_read ReplyTuple ReplyTuple v true told n rest a h = values_read told n (ValueOf ReplyTuple) [] ValueField [] v [] true rest (and_from _ _ h refl) ∙ ended_read told n (ValueOf ReplyTuple) (v ∷ []) true rest refl
value_read ReplyTuple ReplyTuple v false told n rest a h = values_read told n (ValueOf ReplyTuple) [] ValueField [] v [] false rest (and_from _ _ h refl) ∙ ended_read told n (ValueOf ReplyTuple) (v ∷ []) false rest refl
value_read ReplyTuple ChosenTuple v last told n rest a h = absurd (cc)
value_read ChosenTuple GivenTuple v last told n rest a h = absurd (cc)
value_read ChosenTuple ReplyTuple v last told n rest a h = absurd (cc)
value_read ChosenTuple ChosenTuple v true told n rest a h = values_read told n (ValueOf ChosenTuple) [] ValueField [] v [] true rest (and_from _ _ h refl) ∙ ended_read told n (ValueOf ChosenTuple) (v ∷ []) true rest refl
value_read ChosenTuple ChosenTuple v false told n rest a h = values_read told n (ValueOf ChosenTuple) [] ValueField [] v [] false rest (and_from _ _ h refl) ∙ ended_read told n (ValueOf ChosenTuple) (v ∷ []) false rest refl

pub piece_read : (p : Place) (i : Piece) (told : List Piece) (n : ℕ) (rest : List ℕ) → allows p i ≡ true → piece_fits i ≡ true → reads told n (state_at p) (piece_text i ++ rest) ≡ onward told n i rest
piece_read at_start (Head True None) told n rest a h = refl
piece_read at_start (Head True (Some v)) told n rest a h = values_read told n Optimum [] Total [] v [] true rest (and_from _ _ h refl) ∙ ended_read told n Optimum (v ∷ []) true rest refl
piece_read at_start (Head False None) told n rest a h = refl
piece_read at_start (Head False (Some v)) told n rest a h = absurd (cc)
piece_read at_start (Head (Open m) None) told n rest a h = values_read told n Turns [] TurnsField [] (pos m) [] true rest (and_from _ _ (turns_fit m h) refl) ∙ ended_read told n Turns (pos m ∷ []) true rest refl
piece_read at_start (Head (Open m) (Some v)) told n rest a h = absurd (cc)
piece_read at_start (Given k bare) told n rest a h = absurd (cc)
piece_read at_start (Reply bare) told n rest a h = absurd (cc)
piece_read at_start (Chosen bare) told n rest a h = absurd (cc)
piece_read at_start (Value w v last) told n rest a h = absurd (cc)
piece_read at_start Named told n rest a h = absurd (cc)
piece_read at_start (Horizon k) told n rest a h = absurd (cc)
piece_read at_start Stuck told n rest a h = absurd (cc)
piece_read at_start Goal told n rest a h = absurd (cc)
piece_read at_start (Again m) told n rest a h = absurd (cc)
piece_read at_start (NoPlay k) told n rest a h = absurd (cc)
piece_read at_start Close told n rest a h = absurd (cc)
piece_read at_start (Bound x low high) told n rest a h = absurd (cc)
piece_read at_start Empty told n rest a h = absurd (cc)
piece_read at_start Barred told n rest a h = absurd (cc)
piece_read at_start BestLeft told n rest a h = absurd (cc)
piece_read at_start Next told n rest a h = absurd (cc)
piece_read at_start (Branch x) told n rest a h = absurd (cc)
piece_read at_start (Range high) told n rest a h = absurd (cc)
piece_read at_start Skip told n rest a h = absurd (cc)
piece_read at_start LeftOpen told n rest a h = absurd (cc)
piece_read at_start Dot told n rest a h = absurd (cc)
piece_read (at_value u) (Head o v) told n rest a h = absurd (cc)
piece_read (at_value u) (Given k bare) told n rest a h = absurd (cc)
piece_read (at_value u) (Reply bare) told n rest a h = absurd (cc)
piece_read (at_value u) (Chosen bare) told n rest a h = absurd (cc)
piece_read (at_value u) (Value w v last) told n rest a h = value_read u w v last told n rest a h
piece_read (at_value u) Named told n rest a h = absurd (cc)
piece_read (at_value u) (Horizon k) told n rest a h = absurd (cc)
piece_read (at_value u) Stuck told n rest a h = absurd (cc)
piece_read (at_value u) Goal told n rest a h = absurd (cc)
piece_read (at_value u) (Again m) told n rest a h = absurd (cc)
piece_read (at_value u) (NoPlay k) told n rest a h = absurd (cc)
piece_read (at_value u) Close told n rest a h = absurd (cc)
piece_read (at_value u) (Bound x low high) told n rest a h = absurd (cc)
piece_read (at_value u) Empty told n rest a h = absurd (cc)
piece_read (at_value u) Barred told n rest a h = absurd (cc)
piece_read (at_value u) BestLeft told n rest a h = absurd (cc)
piece_read (at_value u) Next told n rest a h = absurd (cc)
piece_read (at_value u) (Branch x) told n rest a h = absurd (cc)
piece_read (at_value u) (Range high) told n rest a h = absurd (cc)
piece_read (at_value u) Skip told n rest a h = absurd (cc)
piece_read (at_value u) LeftOpen told n rest a h = absurd (cc)
piece_read (at_value u) Dot told n rest a h = absurd (cc)
piece_read (at d) i told n rest a h = line_piece_read d i told n rest a (spelling i h (not_worded d i a))

-- pieces are read one by one
pub all_read : (is : List Piece) (p : Place) (n : ℕ) (told : List Piece) (rest : List ℕ) → accepts p n is ≡ true → list_all piece_fits is ≡ true
    → reads told n (state_at p) (flat_map piece_text is ++ rest) ≡ reads (told ++ is) (end_open n is) (state_at (end_place p n is)) rest
all_read [] p n told rest a h = ap (λ (t : List Piece). reads t n (state_at p) rest) (sym (append-nil told))
all_read (i ∷ is) p n told rest a h =
    let b = and_parts (allows p i) (accepts (place_after (open_after n i) i) (open_after n i) is) a in
    let g = and_parts (piece_fits i) (list_all piece_fits is) h in
    let m : ℕ = open_after n i in
    ap (reads told n (state_at p)) (append_assoc (piece_text i) (flat_map piece_text is) rest)
    ∙ piece_read p i told n (flat_map piece_text is ++ rest) b.0 g.0
    ∙ all_read is (place_after m i) m (told ++ i ∷ []) rest b.1 g.1
    ∙ ap (λ (t : List Piece). reads t (end_open m is) (state_at (end_place (place_after m i) m is)) rest) (append_assoc told (i ∷ []) is)
