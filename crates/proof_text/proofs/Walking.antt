-- Bytes of lines, of letters and of heads, as steps of a reading.
use Rattle.std.proofs.Common.{◌≡◌, refl, sym, ap, subst, ◌∙◌, ℕ, ◌-◌, zero, suc, ◌+◌, List, [], ◌∷◌, ◌++◌, Bool, true, false, cond, get_or}
use Rattle.std.specs.Prelude.{Option, ℤ}
use Rattle.proof_tree.specs.declared.tree.Outcome.{Outcome}
use Rattle.proof_tree.specs.declared.tree.Version.{Version}
use Rattle.proof_tree.specs.declared.tree.Version.TheVariants.{One, Two}
use Rattle.proof_text.specs.declared.letters.Place.{Place}
use Rattle.proof_text.specs.declared.letters.Place.TheVariants.{Node, Horizon as HorizonPlace, Body, Cases, Case, Closed}
use Rattle.proof_text.specs.declared.letters.Opened.{Opened}
use Rattle.proof_text.specs.declared.letters.Opened.TheVariants.{Line as LineOpened, Next, Branch as BranchOpened, TooDeep, Wrong}
use Rattle.proof_text.specs.declared.numeral.Counted.{Counted}
use Rattle.proof_text.specs.declared.numeral.Counted.TheVariants.{Start, Digits}
use Rattle.proof_text.specs.declared.numeral.Signed.{Signed}
use Rattle.proof_text.specs.declared.numeral.Signed.TheVariants.{Start as SignedStart, Zero, Positive, Negative}
use Rattle.proof_text.specs.declared.part_line.Kind.TheVariants.{Horizon as HorizonKind, Branch as BranchKind, Range as RangeKind, Prune as PruneKind, Bound as BoundKind}
use Rattle.proof_text.specs.declared.part_line.PartLine.{PartLine}
use Rattle.proof_text.specs.declared.part_line.PartLine.TheVariants.{Short, Letter, Horizon, Branch, Range, Variable, Low, High, Constraint}
use Rattle.proof_text.specs.Letters.{Opening}
use Rattle.proof_text.specs.Nesting.{open_branches, tree_owes}
use Rattle.proof_text.specs.Numerals.{counted_owes, signed_owes}
use Rattle.proof_text.specs.PartLines.{part_owes}
use Rattle.proof_text.specs.Symbols.{Symbol, byte, number, node, branches}
use Rattle.proof_text.specs.Standing.{Standing, owing, no_text, next_standing}
use Rattle.proof_tree.specs.declared.line.Line.TheVariants.{Next as NextLine}
use Rattle.proof_text.specs.declared.answer.Read.TheVariants.{Within, Head}
use Rattle.proof_text.specs.declared.front.Front.{Front}
use Rattle.proof_text.specs.declared.front.Front.TheVariants.{Letters, Digit, FirstEnd, SecondLine, Optimum, Value, Turns}
use Rattle.proof_text.specs.declared.front.Word.TheVariants.{Name, True as TrueWord, False as FalseWord, Open as OpenWord}
use Rattle.proof_text.specs.declared.front.FrontNext.TheVariants.{More as FrontMore, Chosen, Whole as FrontWhole}
use Rattle.proof_text.specs.declared.part_line.PartNext.TheVariants.{More as PartMore}
use Rattle.proof_text.specs.declared.walk.Nested.{Nested}
use Rattle.proof_text.specs.declared.walk.At.{At}
use Rattle.proof_text.specs.declared.walk.At.TheVariants.{Head as HeadAt, Letter as LetterAt, Line as LineAt}
use Rattle.proof_text.specs.Fronts.{front_owes, front_text, FrontGoes}
use Rattle.proof_text.specs.PartLines.{PartGoes}
use Rattle.proof_text.specs.Readings.{GoesOn}
use Rattle.proof_text.specs.Walks.{OpensIn, OpensTree, at_standing, reading_of}

-- what is owed after a letter, with all that is owed later
pub opens_in : (v : Version) (n : ℕ) (before kept later : List Symbol) (b : ℕ) (o : Opened) → Opening v n before kept b o → OpensIn v n (before ++ later) (kept ++ later) b o
opens_in v n before kept later b (LineOpened part place) h = (h.0 later, h.1, h.2)
opens_in v n before kept later b Next h = (h.0 later, h.1, h.2)
opens_in v n before kept later b BranchOpened h = (h.0 later, h.1, h.2)
opens_in v n before kept later b TooDeep h = h later
opens_in v n before kept later b Wrong h = h later

-- no line of a tree begins with a line feed
branches_feed : (v : Version) (marks : List Bool) (n : ℕ) → next_standing (owing (open_branches v marks n)) 10 ≡ no_text
branches_feed v marks zero = refl
branches_feed v marks (suc n) = by_mark v (get_or marks (suc n) false) (branches_feed v marks n)
  where
    by_mark : (w : Version) (t : Bool) → next_standing (owing (open_branches v marks n)) 10 ≡ no_text → next_standing (owing (cond t (branches w (suc n) ∷ open_branches v marks n) (open_branches v marks n))) 10 ≡ no_text
    by_mark One true h = refl
    by_mark Two true h = refl
    by_mark w false h = h

letter_feed : (v : Version) (marks : List Bool) (n : ℕ) (place : Place) → next_standing (owing (tree_owes v marks n place)) 10 ≡ no_text
letter_feed v marks n Node = refl
letter_feed v marks n HorizonPlace = refl
letter_feed v marks n Body = refl
letter_feed v marks n Cases = refl
letter_feed v marks n Case = refl
letter_feed v marks n Closed = branches_feed v marks n

pub no_feed : (v : Version) (marks : List Bool) (n : ℕ) (place : Place) (b : ℕ) (owed : List Symbol) → next_standing (owing (tree_owes v marks n place)) b ≡ owing owed → b ≡ 10 → ⊥
no_feed v marks n place b owed h e =
    let both : owing owed ≡ no_text = sym h ∙ ap (next_standing (owing (tree_owes v marks n place))) e ∙ letter_feed v marks n place in
    absurd (cc)

-- a line feed within a line of the tree ends it
data Ends (s : Standing) : Type 0 where
  wrong : s ≡ no_text → Ends s
  whole : s ≡ owing [] → Ends s

counted_feed : (most : ℕ) (c : Counted) → Ends (next_standing (owing (counted_owes most 10 c ∷ [])) 10)
counted_feed most Start = wrong refl
counted_feed most (Digits value) = whole refl

counted_blank : (most : ℕ) (c : Counted) (rest : List Symbol) → next_standing (owing (counted_owes most 32 c ∷ rest)) 10 ≡ no_text
counted_blank most Start rest = refl
counted_blank most (Digits value) rest = refl

signed_feed : (most : ℕ) (c : Signed) → Ends (next_standing (owing (signed_owes most 10 c ∷ [])) 10)
signed_feed most SignedStart = wrong refl
signed_feed most Zero = whole refl
signed_feed most (Positive Start) = wrong refl
signed_feed most (Positive (Digits value)) = whole refl
signed_feed most (Negative Start) = wrong refl
signed_feed most (Negative (Digits value)) = whole refl

signed_blank : (most : ℕ) (c : Signed) (rest : List Symbol) → next_standing (owing (signed_owes most 32 c ∷ rest)) 10 ≡ no_text
signed_blank most SignedStart rest = refl
signed_blank most Zero rest = refl
signed_blank most (Positive c) rest = counted_blank most c rest
signed_blank most (Negative c) rest = counted_blank most c rest

part_feed : (part : PartLine) → Ends (next_standing (owing (part_owes part ++ [])) 10)
part_feed (Short letter line) = whole refl
part_feed (Letter HorizonKind) = wrong refl
part_feed (Letter BranchKind) = wrong refl
part_feed (Letter RangeKind) = wrong refl
part_feed (Letter PruneKind) = wrong refl
part_feed (Letter BoundKind) = wrong refl
part_feed (Horizon k) = counted_feed 65 k
part_feed (Branch x) = counted_feed 500 x
part_feed (Range high) = signed_feed 1000000000 high
part_feed (Variable p x) = wrong (counted_blank 500 x _)
part_feed (Low p x low) = wrong (signed_blank 1000000000 low _)
part_feed (High true x low high) = wrong (signed_blank 1000000000 high _)
part_feed (High false x low high) = signed_feed 1000000000 high
part_feed (Constraint x low high c) = counted_feed 20000 c

owes_more : (part : PartLine) → owing [] ≡ owing (part_owes part ++ []) → ⊥
owes_more (Short letter line) h = absurd (cc)
owes_more (Letter HorizonKind) h = absurd (cc)
owes_more (Letter BranchKind) h = absurd (cc)
owes_more (Letter RangeKind) h = absurd (cc)
owes_more (Letter PruneKind) h = absurd (cc)
owes_more (Letter BoundKind) h = absurd (cc)
owes_more (Horizon k) h = absurd (cc)
owes_more (Branch x) h = absurd (cc)
owes_more (Range high) h = absurd (cc)
owes_more (Variable p x) h = absurd (cc)
owes_more (Low p x low) h = absurd (cc)
owes_more (High p x low high) h = absurd (cc)
owes_more (Constraint x low high c) h = absurd (cc)

goes_on_not : (part : PartLine) (s : Standing) → Ends s → s ≡ owing (part_owes part ++ []) → ⊥
goes_on_not part s (wrong e) h =
    let both : no_text ≡ owing (part_owes part ++ []) = sym e ∙ h in
    absurd (cc)
goes_on_not part s (whole e) h = owes_more part (sym e ∙ h)

pub no_feed_within : (part next : PartLine) (b : ℕ) → ((later : List Symbol) → next_standing (owing (part_owes part ++ later)) b ≡ owing (part_owes next ++ later)) → b ≡ 10 → ⊥
no_feed_within part next b h e = goes_on_not next (next_standing (owing (part_owes part ++ [])) 10) (part_feed part) (ap (next_standing (owing (part_owes part ++ []))) (sym e) ∙ h [])

-- the letter of the next case of the deepest branch
pub next_case : (v : Version) (n m : ℕ) (marks : List Bool) (b : ℕ) (o : Opened) → open_branches v marks n ≡ open_branches v marks m → open_branches v marks m ≡ branches v m ∷ open_branches v marks (m - 1)
    → Opening v m (branches v m ∷ []) (branches v m ∷ []) b o → OpensIn v m (open_branches v marks n) (open_branches v marks m) b o
next_case v n m marks b o e f h =
    let below = branches v m ∷ open_branches v marks (m - 1) in
    let one = opens_in v m (branches v m ∷ []) (branches v m ∷ []) (open_branches v marks (m - 1)) b o h in
    let two = subst (λ (l : List Symbol). OpensIn v m below l b o) (sym f) one in
    subst (λ (l : List Symbol). OpensIn v m l (open_branches v marks m) b o) (sym (e ∙ f)) two

pub head_more : (t : Nested) (f g : Front) (b : ℕ) → FrontGoes t.version f b (FrontMore g) → GoesOn (reading_of t (HeadAt f)) b (reading_of t (HeadAt g)) Within
head_more t f g b h = (sym h.0, ((_, refl), refl, h.1, λ e. (refl, t.version, ap (front_text t.version) (h.3 e))))

pub head_chosen : (t : Nested) (v : Version) (f : Front) (b : ℕ) → FrontGoes t.version f b (Chosen v) → GoesOn (reading_of t (HeadAt f)) b (reading_of (record { version = v; levels = t.levels; nesting = t.nesting }) (HeadAt FirstEnd)) Within
head_chosen t v f b h = (sym h.0, ((_, refl), refl, h.1, λ e. absurd (h.2 e)))

pub head_whole : (t : Nested) (f : Front) (b : ℕ) (o : Outcome) (p : Option ℤ) → FrontGoes t.version f b (FrontWhole o p) → GoesOn (reading_of t (HeadAt f)) b (reading_of (record { version = t.version; levels = t.levels; nesting = 0 }) (LetterAt Node)) (Head t.version o p)
head_whole t f b o p h = (sym h.0, ((_, refl), refl, refl, refl, h.1, h.2))

pub line_more : (t : Nested) (part next : PartLine) (place : Place) (b : ℕ) → PartGoes part b (PartMore next) → GoesOn (reading_of t (LineAt part place)) b (reading_of t (LineAt next place)) Within
line_more t part next place b h = (sym (h.0 (tree_owes t.version t.levels.marks t.nesting place)), ((_, refl), refl, h.1, λ e. absurd (no_feed_within part next b h.0 e)))

pub letter_line : (t u : Nested) (place then : Place) (part : PartLine) (b : ℕ) → OpensTree u (tree_owes t.version t.levels.marks t.nesting place) b (LineOpened part then) → GoesOn (reading_of t (LetterAt place)) b (reading_of u (LineAt part then)) Within
letter_line t u place then part b h = (sym h.0, ((_, refl), refl, h.2, λ e. absurd (no_feed t.version t.levels.marks t.nesting place b _ h.0 e)))

-- one level deeper
abbrev pub GoneIn : Bool → Nested → Nested → Type 0
GoneIn branch u w =
    (w.version ≡ u.version) × (w.nesting ≡ u.nesting + 1)
    × ((v : Version) → open_branches v w.levels.marks (u.nesting + 1) ≡ cond branch (branches v (u.nesting + 1) ∷ open_branches v u.levels.marks u.nesting) (open_branches v u.levels.marks u.nesting))

gone_in : (branch : Bool) (u w : Nested) → GoneIn branch u w → open_branches w.version w.levels.marks w.nesting ≡ cond branch (branches u.version (u.nesting + 1) ∷ open_branches u.version u.levels.marks u.nesting) (open_branches u.version u.levels.marks u.nesting)
gone_in branch u w h = rw (h.0, h.1) (h.2 u.version)

pub letter_next : (t u w : Nested) (place : Place) (b : ℕ) → OpensTree u (tree_owes t.version t.levels.marks t.nesting place) b Next → GoneIn false u w → GoesOn (reading_of t (LetterAt place)) b (reading_of w (LineAt (Short b NextLine) Node)) Within
letter_next t u w place b h g =
    let below = gone_in false u w g in
    let here : node w.version w.nesting ≡ node u.version (u.nesting + 1) = rw (g.0, g.1) refl in
    let now : at_standing w (LineAt (Short b NextLine) Node) ≡ owing (byte 10 ∷ node u.version (u.nesting + 1) ∷ open_branches u.version u.levels.marks u.nesting) = cc in
    (now ∙ sym h.0, ((_, refl), refl, refl, λ e. absurd (no_feed t.version t.levels.marks t.nesting place b _ h.0 e)))

pub letter_branch : (t u w : Nested) (place : Place) (b : ℕ) → OpensTree u (tree_owes t.version t.levels.marks t.nesting place) b BranchOpened → GoneIn true u w → GoesOn (reading_of t (LetterAt place)) b (reading_of w (LineAt (Letter BranchKind) Closed)) Within
letter_branch t u w place b h g =
    let below = gone_in true u w g in
    let now : at_standing w (LineAt (Letter BranchKind) Closed) ≡ owing (byte 32 ∷ number 500 10 ∷ branches u.version (u.nesting + 1) ∷ open_branches u.version u.levels.marks u.nesting) = ap (λ (l : List Symbol). owing (byte 32 ∷ number 500 10 ∷ l)) below in
    (now ∙ sym h.0, ((_, refl), refl, ap (λ (c : ℕ). c ∷ []) (sym h.2), λ e. absurd (no_feed t.version t.levels.marks t.nesting place b _ h.0 e)))

-- a head owes its tree
behind : (a b : List Symbol) (s : Symbol) → a ++ s ∷ b ≡ [] → ⊥
behind [] b s h = absurd (cc)
behind (x ∷ a) b s h = absurd (cc)

head_owes : (v : Version) (f : Front) → front_owes v f ≡ [] → ⊥
head_owes v (Letters Name read) h = behind _ _ _ h
head_owes v (Letters TrueWord read) h = behind _ _ _ h
head_owes v (Letters FalseWord read) h = behind _ _ _ h
head_owes v (Letters OpenWord read) h = behind _ _ _ h
head_owes v Digit h = absurd (cc)
head_owes v FirstEnd h = absurd (cc)
head_owes v SecondLine h = absurd (cc)
head_owes v Optimum h = absurd (cc)
head_owes v (Value n) h = absurd (cc)
head_owes v (Turns n) h = absurd (cc)

pub head_goes_on : (t : Nested) (at : At) (f : Front) → at ≡ HeadAt f → at_standing t at ≡ owing [] → ⊥
head_goes_on t at f e h =
    let here : owing (front_owes t.version f) ≡ owing [] = ap (at_standing t) (sym e) ∙ h in
    head_owes t.version f (cc)
