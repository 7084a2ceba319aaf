-- Nodes that haven't ended, as a line more is read.
use Rattle.std.proofs.Common.{◌≡◌, ◌≤◌, ◌<◌, ◌+◌, ◌-◌, ◌^◌, ◌∙◌, ℕ, zero, suc, true, false, Bool, ◌&&◌, List, [], ◌∷◌, ◌++◌, length, take, drop, refl, sym, ap, subst, arith, inl, inr, Option, Some, None, append_assoc, append-nil, length-append, length-drop}
use Rattle.std.specs.Prelude.{◌⊎◌, flat_map, slice_index}
use Rattle.std.specs.List.{list_all}
use Rattle.std.proofs.lemmas.Bool.{and_from}
use Rattle.std.proofs.Math.Seq.{take-add}
use Rattle.std.proofs.lemmas.Grind.{flat_map-append}
use Rattle.std.proofs.lemmas.List.{take_all, take-append-drop, drop-append-le, length-take-le}
use Rattle.std.proofs.lemmas.List.Folds.{list_all-append}
use Rattle.qc_model.specs.Content.{Game}
use Rattle.proof_tree.specs.declared.line.Line.{Line}
use Rattle.proof_tree.specs.Text.{line_text}
use Rattle.proof_text.specs.Answers.{Told, nothing, headed, is_nothing, tell, StandsFor, BeginsLine, SaysLine}
use Rattle.proof_text.specs.Places.{BeginsText}
use Rattle.proof_text.specs.declared.answer.Read.TheVariants.{Whole}
use Rattle.proof_text.specs.LineRanges.{line_fits}
use Rattle.likeness.specs.Likeness.{line_looks}
use Rattle.likeness.proofs.Lines.{lines_look_before}
use Rattle.check_lines.specs.Ledger.{Ledger, goes}
use Rattle.check_lines.specs.LedgerHeld.{first_ledger, goes_through}
use Rattle.check_lines.specs.Machine.{game_of}
use Rattle.check_lines.specs.Telling.{TellsAfter}
use Rattle.check_lines.proofs.Under.{under_line, under_ends}
use Rattle.qc_check.specs.declared.progress.Checker.{Checker}
use Rattle.qc_check.specs.Checking.{lines_told, HeadIs, IsReading, IsChecking, IsCheckingBy}
use Rattle.qc_check.specs.Keeping.{Standing, GoesOn, MayEnd, IsStart, IsInside, AreStarts, AreStartsOf, ledger_told, IsKeeping, IsSettling, IsRead}
use Rattle.qc_check.specs.Places.{StartHeld}
use Rattle.qc_check.proofs.Steps.{goes_more, line_more, head_more}

-- the text since a node was due grows by a line's
text_more : (at : ℕ) (front bytes : List ℕ) (ls : List Line) (l : Line) → at ≤ length front → bytes ≡ front ++ line_text l → drop at front ≡ flat_map line_text ls → drop at bytes ≡ flat_map line_text (ls ++ l ∷ [])
text_more at front bytes ls l within e t =
    ap (drop at) e
    ∙ (drop-append-le at front (line_text l) within
    ∙ (ap (λ (bs : List ℕ). bs ++ line_text l) t
    ∙ (ap (λ (bs : List ℕ). flat_map line_text ls ++ bs) (sym (append-nil (line_text l)))
    ∙ sym (flat_map-append line_text ls (l ∷ [])))))

all_more : (p : Line → Bool) (ls : List Line) (l : Line) → list_all p ls ≡ true → p l ≡ true → list_all p (ls ++ l ∷ []) ≡ true
all_more p ls l e f = list_all-append p ls (l ∷ []) ∙ and_from (list_all p ls) (list_all p (l ∷ [])) e (and_from (p l) true f refl)

one_looks : (g : Game) (i j : ℕ) (l : Line) → i ≤ j → line_looks g j l ≡ true → line_looks g i l ≡ true
one_looks g i j l le e = first (line_looks g i l) (lines_look_before g i j (l ∷ []) le (and_from (line_looks g j l) true e refl))
  where
    first : (b : Bool) → (b && true) ≡ true → b ≡ true
    first true h = refl
    first false h = cc

module _ (g : Game) (front bytes : List ℕ) (p e : Ledger) (l : Line) (read : bytes ≡ front ++ line_text l) (fits : line_fits l ≡ true) (taken : goes g (Some p) l ≡ Some e) where
  longer : length front ≤ length bytes
  longer = let h = ap length read ∙ length-append front (line_text l) in omega (arith, h)

  start_line : (s : StartHeld) → line_looks g s.start.node.scope l ≡ true → IsStart GoesOn g front p s → IsStart MayEnd g bytes e s
  start_line s look k = record {
    ledger = k.ledger;
    lines = k.lines ++ l ∷ [];
    stands = (λ le. under_line g k.ledger k.lines p l e k.stands taken le, λ lt. under_ends g k.ledger k.lines p l e k.stands taken lt);
    scope = k.scope;
    horizon = k.horizon;
    depth = k.depth;
    turns = k.turns;
    within = let w = k.within in let h = longer in omega (arith, w, h);
    text = text_more s.start.at front bytes k.lines l k.within read k.text;
    fits = all_more line_fits k.lines l k.fits fits;
    looks = all_more (line_looks g s.start.node.scope) k.lines l k.looks look;
    like = k.like;
  }

  starts_line : (ss : List StartHeld) → ((s : StartHeld) (more : List StartHeld) → ss ≡ s ∷ more → line_looks g s.start.node.scope l ≡ true) → AreStarts GoesOn g front p ss → AreStarts MayEnd g bytes e ss
  starts_line [] look k = tt
  starts_line (s ∷ more) look k = (start_line s (look s more refl) k.0, k.1, starts_line more (λ o others q. below more o others q k.1) k.2)
    where
      below : (more : List StartHeld) (o : StartHeld) (others : List StartHeld) → more ≡ o ∷ others → IsInside s more → line_looks g o.start.node.scope l ≡ true
      below more o others q k = let h = subst (IsInside s) q k in let lt = h.0 in one_looks g o.start.node.scope s.start.node.scope l (omega (arith, lt)) (look s _ refl)

-- a line leaves a ledger only where there was one
before_line : (g : Game) (p : Option Ledger) (l : Line) (e : Ledger) → goes g p l ≡ Some e → (d : Ledger) × (p ≡ Some d)
before_line g None l e h = cc
before_line g (Some d) l e h = (d, refl)

-- the machine is given a line that was read
pub line_taken : (c new : Checker) (front piece : List ℕ) (at : ℕ) (line : Line) → new.reader ≡ c.reader → new.head ≡ c.head → new.read ≡ c.read → game_of new.machine ≡ game_of c.machine → c.read ≤ 2 ^ 32 →
    ((n : ℕ) (p : Option Ledger) → n < 4294967296 → TellsAfter n c.machine p → TellsAfter (suc n) new.machine (goes (game_of c.machine) p line)) →
    ((new.starts ≡ []) ⊎ ((new.starts ≡ c.starts) × ((s : StartHeld) (more : List StartHeld) → c.starts ≡ s ∷ more → line_looks (game_of c.machine) s.start.node.scope line ≡ true))) →
    IsRead c front piece at line → IsSettling new front piece at
line_taken c new front piece at line reader head read same room tells starts r = by r.told r.stands r.headed r.head_is r.few r.tells r.starts
  where
    g : Game
    g = game_of c.machine

    nodes : (ls : List Line) → AreStartsOf GoesOn g (take r.from piece) (goes_through g (Some (first_ledger g)) ls) c.starts → AreStartsOf MayEnd (game_of new.machine) (take at piece) (goes_through (game_of new.machine) (Some (first_ledger (game_of new.machine))) (ls ++ line ∷ [])) new.starts
    nodes ls ss e q = subst (λ u. AreStarts MayEnd u (take at piece) e new.starts) (sym same) (here starts)
      where
        p : Option Ledger
        p = goes_through g (Some (first_ledger g)) ls

        taken : goes g p line ≡ Some e
        taken = sym (goes_more g (Some (first_ledger g)) ls line) ∙ subst (λ u. goes_through u (Some (first_ledger u)) (ls ++ line ∷ []) ≡ Some e) same q

        here : ((new.starts ≡ []) ⊎ ((new.starts ≡ c.starts) × ((s : StartHeld) (more : List StartHeld) → c.starts ≡ s ∷ more → line_looks g s.start.node.scope line ≡ true))) → AreStarts MayEnd g (take at piece) e new.starts
        here (inl n) = subst (AreStarts MayEnd g (take at piece) e) (sym n) tt
        here (inr k) =
            let d = before_line g p line e taken in
            subst (AreStarts MayEnd g (take at piece) e) (sym k.0)
            (starts_line g (take r.from piece) (take at piece) d.0 e line r.text r.fits (subst (λ o. goes g o line ≡ Some e) d.1 taken) c.starts k.1 (ss d.0 d.1))

    by : (t : Told) → StandsFor c.reader (front ++ take at piece) (tell t (Whole line)) → is_nothing t ≡ false → HeadIs c.head t → length (lines_told t) < c.read → TellsAfter (length (lines_told t)) c.machine (ledger_told g t) →
        AreStartsOf GoesOn g (take r.from piece) (ledger_told g t) c.starts → IsSettling new front piece at
    by nothing stands headed_is hd few tell ss = cc
    by (headed v o q ls) stands headed_is hd few tell ss = record {
      reading = record {
        told = headed v o q (ls ++ line ∷ []);
        stands = subst (λ k. StandsFor k (front ++ take at piece) (headed v o q (ls ++ line ∷ []))) (sym reader) stands;
        begins = r.begins;
        counted = read ∙ r.counted;
        head_is = subst (λ h. HeadIs h (headed v o q (ls ++ line ∷ []))) (sym head) (head_more c.head v o q ls line hd);
        few = (let m = line_more ls line in omega (arith, few, read, m));
        tells = subst (λ u. TellsAfter (length (ls ++ line ∷ [])) new.machine (goes_through u (Some (first_ledger u)) (ls ++ line ∷ []))) (sym same)
            (subst (λ i. TellsAfter i new.machine (goes_through g (Some (first_ledger g)) (ls ++ line ∷ []))) (sym (line_more ls line))
            (subst (TellsAfter (suc (length ls)) new.machine) (sym (goes_more g (Some (first_ledger g)) ls line))
            (tells (length ls) (goes_through g (Some (first_ledger g)) ls) (omega (arith, few, room)) tell)));
      };
      starts = nodes ls ss;
    }

-- a line is read that stands whole in the piece
pub whole_here : (c new : Checker) (front piece : List ℕ) (at size : ℕ) (line : Line) → new.machine ≡ c.machine → new.head ≡ c.head → new.starts ≡ c.starts → new.read ≡ c.read + size → at + size ≤ length piece → BeginsLine (drop at piece) line size →
    ((before : List ℕ) (told : Told) → StandsFor c.reader before told → StandsFor new.reader (before ++ take size (drop at piece)) (tell told (Whole line))) →
    ((before : List ℕ) (told : Told) → StandsFor c.reader before told → SaysLine before told (take size (drop at piece)) line) → IsKeeping c front piece at → IsRead new front piece (at + size) line
whole_here c new front piece at size line machine head starts read within begins stands says k =
    let told = k.reading.told in
    let old = front ++ take at piece in
    let said = says old told k.reading.stands in
    record {
      from = at;
      told = told;
      stands = subst (λ bs. StandsFor new.reader bs (tell told (Whole line))) more (stands old told k.reading.stands);
      begins = subst (BeginsText 1000) more said.0;
      headed = said.1;
      fits = said.3;
      text = take-add at size piece ∙ ap (λ bs. take at piece ++ bs) begins.2;
      counted = counts;
      head_is = subst (λ h. HeadIs h told) (sym head) k.reading.head_is;
      few = (let f = k.reading.few in let b = begins.0 in omega (arith, f, b, read));
      tells = subst (λ m. TellsAfter (length (lines_told told)) m (ledger_told (game_of m) told)) (sym machine) k.reading.tells;
      starts = subst (λ m. AreStartsOf GoesOn (game_of m) (take at piece) (ledger_told (game_of m) told) new.starts) (sym machine)
          (subst (AreStartsOf GoesOn (game_of c.machine) (take at piece) (ledger_told (game_of c.machine) told)) (sym starts) k.starts);
    }
  where
    more : (front ++ take at piece) ++ take size (drop at piece) ≡ front ++ take (at + size) piece
    more = append_assoc front (take at piece) (take size (drop at piece)) ∙ ap (λ bs. front ++ bs) (sym (take-add at size piece))

    counts : new.read ≡ length (front ++ take (at + size) piece)
    counts =
        let a = k.reading.counted in
        let b = length-append front (take at piece) in
        let d = length-append front (take (at + size) piece) in
        let e = length-take-le at piece (omega (arith, within)) in
        let f = length-take-le (at + size) piece within in
        omega (arith, a, b, d, e, f, read)

-- the rest of a piece, as a slice of it
pub rest_is : (piece : List ℕ) (at : ℕ) → take (length piece - at) (drop at piece) ≡ drop at piece
rest_is piece at = take_all (length piece - at) (drop at piece) (let h = length-drop at piece in omega (arith, h))

pub rest_long : (piece : List ℕ) (at : ℕ) → length (take (length piece - at) (drop at piece)) ≡ length piece - at
rest_long piece at = ap length (rest_is piece at) ∙ length-drop at piece

-- so where it is read from the rest
pub whole_at : (c new : Checker) (front piece : List ℕ) (at size : ℕ) (line : Line) → new.machine ≡ c.machine → new.head ≡ c.head → new.starts ≡ c.starts → new.read ≡ c.read + size → at < length piece → BeginsLine (take (length piece - at) (drop at piece)) line size →
    ((before : List ℕ) (told : Told) → StandsFor c.reader before told → StandsFor new.reader (before ++ take size (take (length piece - at) (drop at piece))) (tell told (Whole line))) →
    ((before : List ℕ) (told : Told) → StandsFor c.reader before told → SaysLine before told (take size (take (length piece - at) (drop at piece))) line) → IsKeeping c front piece at → IsRead new front piece (at + size) line
whole_at c new front piece at size line machine head starts read more begins stands says k =
    let e = rest_is piece at in
    let long = rest_long piece at in
    let within = begins.1 in
    whole_here c new front piece at size line machine head starts read (omega (arith, within, long, more)) (subst (λ xs. BeginsLine xs line size) e begins)
    (subst (λ xs. (before : List ℕ) (told : Told) → StandsFor c.reader before told → StandsFor new.reader (before ++ take size xs) (tell told (Whole line))) e stands)
    (subst (λ xs. (before : List ℕ) (told : Told) → StandsFor c.reader before told → SaysLine before told (take size xs) line) e says) k

-- a byte more, by itself
pub byte_here : (front piece : List ℕ) (at : ℕ) → at < length piece → (front ++ take at piece) ++ slice_index piece at ∷ [] ≡ front ++ take (at + 1) piece
byte_here front piece at h = append_assoc front (take at piece) (slice_index piece at ∷ []) ∙ ap (λ bs. front ++ bs) (sym (take-add at 1 piece ∙ ap (λ bs. take at piece ++ bs) (one piece at h)))
  where
    one : (xs : List ℕ) (n : ℕ) → n < length xs → take 1 (drop n xs) ≡ slice_index xs n ∷ []
    one [] n h = absurd (omega arith)
    one (x ∷ xs) zero h = refl
    one (x ∷ xs) (suc n) h = one xs n (omega arith)

-- and all bytes after it
pub bytes_here : (front piece : List ℕ) (at : ℕ) → at < length piece → ((front ++ take at piece) ++ slice_index piece at ∷ []) ++ drop (at + 1) piece ≡ front ++ piece
bytes_here front piece at h = ap (λ bs. bs ++ drop (at + 1) piece) (byte_here front piece at h) ∙ (append_assoc front (take (at + 1) piece) (drop (at + 1) piece) ∙ ap (λ bs. front ++ bs) (take-append-drop (at + 1) piece))

-- no node is kept
pub none_kept : (how : Standing) (g : Game) (bytes : List ℕ) (p : Option Ledger) (ss : List StartHeld) → ss ≡ [] → AreStartsOf how g bytes p ss
none_kept how g bytes p ss e = λ d q. subst (AreStarts how g bytes d) (sym e) tt

-- where no byte was a fault, and no node is kept
pub keeps_none : (c : Checker) (front piece : List ℕ) (at : ℕ) (bytes : List ℕ) → c.stop ≡ None → c.starts ≡ [] → bytes ≡ front ++ take at piece → IsChecking c bytes → IsKeeping c front piece at
keeps_none c front piece at bytes going none e k =
    let r = subst (λ s. IsCheckingBy s c (front ++ take at piece)) going (subst (IsChecking c) e k) in
    record { reading = r; starts = none_kept GoesOn (game_of c.machine) (take at piece) (ledger_told (game_of c.machine) r.told) c.starts none }

-- a piece is read to its end
pub piece_read : (c : Checker) (front piece : List ℕ) (at : ℕ) → c.stop ≡ None → length piece ≤ at → IsKeeping c front piece at → IsChecking c (front ++ piece)
piece_read c front piece at going h k = subst (λ s. IsCheckingBy s c (front ++ piece)) (sym going) (subst (λ bs. IsReading c.reader c.machine c.head c.read (front ++ bs)) (take_all at piece h) k.reading)
