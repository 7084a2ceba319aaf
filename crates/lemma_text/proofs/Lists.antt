-- Pieces that may come one after the other are those of one list.
use Rattle.std.proofs.Common.{◌≡◌, refl, sym, ap, ◌∙◌, subst, ℕ, List, [], ◌∷◌, ◌++◌, true, false, cond, append_assoc}
use Rattle.std.specs.Prelude.{map, flat_map}
use Rattle.std.specs.List.{list_all}
use Rattle.std.proofs.lemmas.Bool.{and_from, and_parts}
use Rattle.std.proofs.lemmas.List.{append-nil}
use Rattle.qc_model.specs.declared.problem.Kind.{Kind}
use Rattle.lemma_list.specs.declared.lemma.Literal.{Literal}
use Rattle.lemma_list.specs.declared.lemma.SumLiteral.{SumLiteral}
use Rattle.lemma_list.specs.declared.lemma.Step.{Step}
use Rattle.lemma_list.specs.declared.lemma.Ending.{Ending}
use Rattle.lemma_list.specs.declared.lemma.Ending.TheVariants.{Emptied, Lost as LostEnding, Goal as GoalEnding}
use Rattle.lemma_list.specs.Lemmas.{Entry, shown, forget}
use Rattle.lemma_text.specs.declared.item.Item.{Item}
use Rattle.lemma_text.specs.declared.item.Item.TheVariants.{Head, Lemma as LemmaItem, Literal as LiteralItem, Sum as SumItem, Step as StepItem, Lost, Goal, Forget}
use Rattle.lemma_text.specs.declared.parts.Due.{Due}
use Rattle.lemma_text.specs.declared.parts.Due.TheVariants.{Entries, Steps, Sums}
use Rattle.lemma_text.specs.Items.{item_text, item_fits, is_none, literal_items, ending_items, entry_items, list_items}
use Rattle.lemma_text.specs.States.{Place, at_start, at_literal, at, state_at, place_after, may_step, allows}
use Rattle.lemma_text.specs.Standing.{going, standing_from}
use Rattle.lemma_text.specs.Accepted.{accepts, end_place, IsWhole}
use Rattle.lemma_text.proofs.PiecesRead.{piece_read}

-- pieces are read one by one
pub all_read : (is : List Item) (p : Place) (told : List Item) (rest : List ℕ) → accepts p is ≡ true → list_all item_fits is ≡ true
    → standing_from (going told (state_at p)) (flat_map item_text is ++ rest) ≡ standing_from (going (told ++ is) (state_at (end_place p is))) rest
all_read [] p told rest a h = ap (λ (t : List Item). standing_from (going t (state_at p)) rest) (sym (append-nil told))
all_read (i ∷ is) p told rest a h =
    let b = and_parts (allows p i) (accepts (place_after i) is) a in
    let g = and_parts (item_fits i) (list_all item_fits is) h in
    ap (standing_from (going told (state_at p))) (append_assoc (item_text i) (flat_map item_text is) rest)
    ∙ piece_read p i told (flat_map item_text is ++ rest) b.0 g.0
    ∙ all_read is (place_after i) (told ++ i ∷ []) rest b.1 g.1
    ∙ ap (λ (t : List Item). standing_from (going t (state_at (end_place (place_after i) is))) rest) (append_assoc told (i ∷ []) is)

-- the pieces of lists may come so
next_whole : (p : Place) (i : Item) (is : List Item) → allows p i ≡ true → IsWhole (place_after i) is → IsWhole p (i ∷ is)
next_whole p i is a w = (and_from _ _ a w.0, w.1, w.2)

ending_whole : (e : Ending) (d : Due) (rest : List Item) → may_step d ≡ true → ((c : Due) → IsWhole (at c) rest) → IsWhole (at d) (ending_items e ++ rest)
ending_whole Emptied d rest m w = w d
ending_whole (LostEnding r) d rest m w = next_whole (at d) (Lost r) rest m (w Entries)
ending_whole GoalEnding d rest m w = next_whole (at d) Goal rest m (w Entries)

steps_whole : (ss : List Step) (d : Due) (rest : List Item) → may_step d ≡ true → ((c : Due) → may_step c ≡ true → IsWhole (at c) rest) → IsWhole (at d) (map StepItem ss ++ rest)
steps_whole [] d rest m w = w d m
steps_whole (s ∷ ss) d rest m w = next_whole (at d) (StepItem s) (map StepItem ss ++ rest) m (steps_whole ss Steps rest refl w)

sums_whole : (zs : List SumLiteral) (rest : List Item) → IsWhole (at Sums) rest → IsWhole (at Sums) (map SumItem zs ++ rest)
sums_whole [] rest w = w
sums_whole (z ∷ zs) rest w = next_whole (at Sums) (SumItem z) (map SumItem zs ++ rest) refl (sums_whole zs rest w)

literals_whole : (ls : List Literal) (rest : List Item) → IsWhole (at Sums) rest → IsWhole (cond (is_none ls) (at Sums) at_literal) (literal_items ls ++ rest)
literals_whole [] rest w = w
literals_whole (l ∷ ls) rest w = next_whole at_literal (LiteralItem l (is_none ls)) (literal_items ls ++ rest) refl (literals_whole ls rest w)

-- what a lemma's pieces are, with others after them
parts_then : (ls : List Item) (zs : List Item) (ss : List Item) (e rest : List Item) → (ls ++ (zs ++ (ss ++ e))) ++ rest ≡ ls ++ (zs ++ (ss ++ (e ++ rest)))
parts_then ls zs ss e rest = simp append_assoc

entries_whole : (es : List Entry) (d : Due) → IsWhole (at d) (flat_map entry_items es)
entries_whole [] d = (refl, d, refl)
entries_whole (shown s ∷ es) d =
    let rest = flat_map entry_items es in
    let tail : IsWhole (at Sums) (map SumItem s.lemma.sums ++ (map StepItem s.steps ++ (ending_items s.ending ++ rest))) =
    sums_whole s.lemma.sums _ (steps_whole s.steps Sums _ refl (λ c m. ending_whole s.ending c rest m (entries_whole es))) in
    next_whole (at d) (LemmaItem s.lemma.loser (is_none s.lemma.literals)) _ refl
    (subst (IsWhole (cond (is_none s.lemma.literals) (at Sums) at_literal)) (sym (parts_then (literal_items s.lemma.literals) (map SumItem s.lemma.sums) (map StepItem s.steps) (ending_items s.ending) rest))
    (literals_whole s.lemma.literals _ tail))
entries_whole (forget n ∷ es) d = next_whole (at d) (Forget n) (flat_map entry_items es) refl (entries_whole es Entries)

pub list_whole : (loser : Kind) (es : List Entry) → IsWhole at_start (list_items loser es)
list_whole loser es = next_whole at_start (Head loser) (flat_map entry_items es) refl (entries_whole es Entries)

-- and pieces that may come so are a list's
abbrev from_end : Ending → List Entry → List Item
from_end e es = ending_items e ++ flat_map entry_items es

abbrev from_steps : List Step → Ending → List Entry → List Item
from_steps ss e es = map StepItem ss ++ from_end e es

abbrev from_sums : List SumLiteral → List Step → Ending → List Entry → List Item
from_sums zs ss e es = map SumItem zs ++ from_steps ss e es

abbrev pub Parsed : Place → List Item → Type 0
Parsed at_start is = (loser : Kind) × (es : List Entry) × (is ≡ list_items loser es)
Parsed at_literal is = (l : Literal) × (ls : List Literal) × (zs : List SumLiteral) × (ss : List Step) × (e : Ending) × (es : List Entry) × (is ≡ literal_items (l ∷ ls) ++ from_sums zs ss e es)
Parsed (at Entries) is = (es : List Entry) × (is ≡ flat_map entry_items es)
Parsed (at Steps) is = (ss : List Step) × (e : Ending) × (es : List Entry) × (is ≡ from_steps ss e es)
Parsed (at Sums) is = (zs : List SumLiteral) × (ss : List Step) × (e : Ending) × (es : List Entry) × (is ≡ from_sums zs ss e es)

-- an entry may come wherever a line begins
anywhere : (d : Due) (is : List Item) (es : List Entry) → is ≡ flat_map entry_items es → Parsed (at d) is
anywhere Entries is es h = (es, h)
anywhere Steps is es h = ([], Emptied, es, h)
anywhere Sums is es h = ([], [], Emptied, es, h)

lemma_parsed : (k : Kind) (ls : List Literal) (zs : List SumLiteral) (ss : List Step) (e : Ending) (es : List Entry) (is : List Item) → is ≡ literal_items ls ++ from_sums zs ss e es
    → LemmaItem k (is_none ls) ∷ is ≡ flat_map entry_items (shown (record { lemma = record { loser = k; literals = ls; sums = zs }; steps = ss; ending = e }) ∷ es)
lemma_parsed k ls zs ss e es is h =
    ap (λ (t : List Item). LemmaItem k (is_none ls) ∷ t) (h ∙ sym (parts_then (literal_items ls) (map SumItem zs) (map StepItem ss) (ending_items e) (flat_map entry_items es)))

pub parsed : (p : Place) (is : List Item) (d : Due) → accepts p is ≡ true → end_place p is ≡ at d → Parsed p is
parsed at_start [] d a h = absurd (cc)
parsed at_literal [] d a h = absurd (cc)
parsed (at c) [] d a h = anywhere c [] [] refl
parsed at_start (Head k ∷ is) d a h = let r = parsed (at Entries) is d a h in (k, r.0, ap (λ (t : List Item). Head k ∷ t) r.1)
parsed at_start (LemmaItem k bare ∷ is) d a h = absurd (cc)
parsed at_start (LiteralItem l last ∷ is) d a h = absurd (cc)
parsed at_start (SumItem z ∷ is) d a h = absurd (cc)
parsed at_start (StepItem s ∷ is) d a h = absurd (cc)
parsed at_start (Lost r ∷ is) d a h = absurd (cc)
parsed at_start (Goal ∷ is) d a h = absurd (cc)
parsed at_start (Forget n ∷ is) d a h = absurd (cc)
parsed at_literal (Head k ∷ is) d a h = absurd (cc)
parsed at_literal (LemmaItem k bare ∷ is) d a h = absurd (cc)
parsed at_literal (LiteralItem l true ∷ is) d a h = let r = parsed (at Sums) is d a h in (l, [], r.0, r.1, r.2, r.3, ap (λ (t : List Item). LiteralItem l true ∷ t) r.4)
parsed at_literal (LiteralItem l false ∷ is) d a h =
    let r = parsed at_literal is d a h in (l, r.0 ∷ r.1, r.2, r.3, r.4, r.5, ap (λ (t : List Item). LiteralItem l false ∷ t) r.6)
parsed at_literal (SumItem z ∷ is) d a h = absurd (cc)
parsed at_literal (StepItem s ∷ is) d a h = absurd (cc)
parsed at_literal (Lost r ∷ is) d a h = absurd (cc)
parsed at_literal (Goal ∷ is) d a h = absurd (cc)
parsed at_literal (Forget n ∷ is) d a h = absurd (cc)
parsed (at c) (Head k ∷ is) d a h = absurd (cc)
parsed (at c) (LemmaItem k true ∷ is) d a h =
    let r = parsed (at Sums) is d a h in
    anywhere c _ (shown (record { lemma = record { loser = k; literals = []; sums = r.0 }; steps = r.1; ending = r.2 }) ∷ r.3) (lemma_parsed k [] r.0 r.1 r.2 r.3 is r.4)
parsed (at c) (LemmaItem k false ∷ is) d a h =
    let r = parsed at_literal is d a h in
    anywhere c _ (shown (record { lemma = record { loser = k; literals = r.0 ∷ r.1; sums = r.2 }; steps = r.3; ending = r.4 }) ∷ r.5) (lemma_parsed k (r.0 ∷ r.1) r.2 r.3 r.4 r.5 is r.6)
parsed (at c) (LiteralItem l last ∷ is) d a h = absurd (cc)
parsed (at Entries) (SumItem z ∷ is) d a h = absurd (cc)
parsed (at Steps) (SumItem z ∷ is) d a h = absurd (cc)
parsed (at Sums) (SumItem z ∷ is) d a h = let r = parsed (at Sums) is d a h in (z ∷ r.0, r.1, r.2, r.3, ap (λ (t : List Item). SumItem z ∷ t) r.4)
parsed (at Entries) (StepItem s ∷ is) d a h = absurd (cc)
parsed (at Steps) (StepItem s ∷ is) d a h = let r = parsed (at Steps) is d a h in (s ∷ r.0, r.1, r.2, ap (λ (t : List Item). StepItem s ∷ t) r.3)
parsed (at Sums) (StepItem s ∷ is) d a h = let r = parsed (at Steps) is d a h in ([], s ∷ r.0, r.1, r.2, ap (λ (t : List Item). StepItem s ∷ t) r.3)
parsed (at Entries) (Lost r ∷ is) d a h = absurd (cc)
parsed (at Steps) (Lost r ∷ is) d a h = let q = parsed (at Entries) is d a h in ([], LostEnding r, q.0, ap (λ (t : List Item). Lost r ∷ t) q.1)
parsed (at Sums) (Lost r ∷ is) d a h = let q = parsed (at Entries) is d a h in ([], [], LostEnding r, q.0, ap (λ (t : List Item). Lost r ∷ t) q.1)
parsed (at Entries) (Goal ∷ is) d a h = absurd (cc)
parsed (at Steps) (Goal ∷ is) d a h = let q = parsed (at Entries) is d a h in ([], GoalEnding, q.0, ap (λ (t : List Item). Goal ∷ t) q.1)
parsed (at Sums) (Goal ∷ is) d a h = let q = parsed (at Entries) is d a h in ([], [], GoalEnding, q.0, ap (λ (t : List Item). Goal ∷ t) q.1)
parsed (at c) (Forget n ∷ is) d a h = let q = parsed (at Entries) is d a h in anywhere c _ (forget n ∷ q.0) (ap (λ (t : List Item). Forget n ∷ t) q.1)

-- the entries of pieces, read from the last on
data Back : Type 0 where
  back : List Literal → List SumLiteral → List Step → Ending → List Entry → Back

abbrev entries_back : Back → List Entry
entries_back (back ls zs ss e es) = es

abbrev with_literal : Literal → Back → Back
with_literal l (back ls zs ss e es) = back (l ∷ ls) zs ss e es

abbrev with_sum : SumLiteral → Back → Back
with_sum z (back ls zs ss e es) = back ls (z ∷ zs) ss e es

abbrev with_step : Step → Back → Back
with_step s (back ls zs ss e es) = back ls zs (s ∷ ss) e es

abbrev with_ending : Ending → Back → Back
with_ending end (back ls zs ss e es) = back ls zs ss end es

abbrev with_lemma : Kind → Back → Back
with_lemma k (back ls zs ss e es) = back [] [] [] Emptied (shown (record { lemma = record { loser = k; literals = ls; sums = zs }; steps = ss; ending = e }) ∷ es)

abbrev with_entry : Entry → Back → Back
with_entry n (back ls zs ss e es) = back ls zs ss e (n ∷ es)

abbrev told_back : List Item → Back
told_back [] = back [] [] [] Emptied []
told_back (Head k ∷ is) = told_back is
told_back (LemmaItem k bare ∷ is) = with_lemma k (told_back is)
told_back (LiteralItem l last ∷ is) = with_literal l (told_back is)
told_back (SumItem z ∷ is) = with_sum z (told_back is)
told_back (StepItem s ∷ is) = with_step s (told_back is)
told_back (Lost r ∷ is) = with_ending (LostEnding r) (told_back is)
told_back (Goal ∷ is) = with_ending GoalEnding (told_back is)
told_back (Forget n ∷ is) = with_entry (forget n) (told_back is)

ending_back : (e : Ending) (rest : List Item) (es : List Entry) → told_back rest ≡ back [] [] [] Emptied es → told_back (ending_items e ++ rest) ≡ back [] [] [] e es
ending_back Emptied rest es h = h
ending_back (LostEnding r) rest es h = ap (with_ending (LostEnding r)) h
ending_back GoalEnding rest es h = ap (with_ending GoalEnding) h

steps_back : (ss : List Step) (rest : List Item) (e : Ending) (es : List Entry) → told_back rest ≡ back [] [] [] e es → told_back (map StepItem ss ++ rest) ≡ back [] [] ss e es
steps_back [] rest e es h = h
steps_back (s ∷ ss) rest e es h = ap (with_step s) (steps_back ss rest e es h)

sums_back : (zs : List SumLiteral) (rest : List Item) (ss : List Step) (e : Ending) (es : List Entry) → told_back rest ≡ back [] [] ss e es → told_back (map SumItem zs ++ rest) ≡ back [] zs ss e es
sums_back [] rest ss e es h = h
sums_back (z ∷ zs) rest ss e es h = ap (with_sum z) (sums_back zs rest ss e es h)

literals_back : (ls : List Literal) (rest : List Item) (zs : List SumLiteral) (ss : List Step) (e : Ending) (es : List Entry) → told_back rest ≡ back [] zs ss e es → told_back (literal_items ls ++ rest) ≡ back ls zs ss e es
literals_back [] rest zs ss e es h = h
literals_back (l ∷ ls) rest zs ss e es h = ap (with_literal l) (literals_back ls rest zs ss e es h)

entries_told : (es : List Entry) → told_back (flat_map entry_items es) ≡ back [] [] [] Emptied es
entries_told [] = refl
entries_told (shown s ∷ es) =
    let rest = flat_map entry_items es in
    ap (λ (t : List Item). with_lemma s.lemma.loser (told_back t)) (parts_then (literal_items s.lemma.literals) (map SumItem s.lemma.sums) (map StepItem s.steps) (ending_items s.ending) rest)
    ∙ ap (with_lemma s.lemma.loser) (literals_back s.lemma.literals _ s.lemma.sums s.steps s.ending es (sums_back s.lemma.sums _ s.steps s.ending es (steps_back s.steps _ s.ending es (ending_back s.ending rest es (entries_told es)))))
entries_told (forget n ∷ es) = ap (with_entry (forget n)) (entries_told es)

abbrev first_loser : List Item → Kind → Kind
first_loser (Head k ∷ is) other = k
first_loser is other = other

-- lists with the same pieces are the same
pub one_list : (k l : Kind) (es fs : List Entry) → list_items k es ≡ list_items l fs → (k ≡ l) × (es ≡ fs)
one_list k l es fs h =
    let same : told_back (flat_map entry_items es) ≡ told_back (flat_map entry_items fs) = ap told_back h in
    (ap (λ (is : List Item). first_loser is k) h, ap entries_back (sym (entries_told es) ∙ same ∙ entries_told fs))
