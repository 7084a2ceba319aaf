-- The items of an entry, and of a list, come to what the definitions say.
use Rattle.std.proofs.Common.{◌≡◌, refl, sym, ap, ◌∙◌, ℕ, List, [], ◌∷◌, ◌++◌, Bool, true, false, ◌&&◌, cond, append_assoc, Option, Some, None}
use Rattle.std.specs.Prelude.{map, flat_map}
use Rattle.std.proofs.lemmas.List.{append-nil}
use Rattle.qc_model.specs.declared.problem.Kind.{Kind}
use Rattle.qc_model.specs.Content.{Game}
use Rattle.qc_model.specs.Domains.{Box, declared_box}
use Rattle.lemma_list.specs.declared.lemma.Literal.{Literal}
use Rattle.lemma_list.specs.declared.lemma.SumLiteral.{SumLiteral}
use Rattle.lemma_list.specs.declared.lemma.Step.{Step}
use Rattle.lemma_list.specs.declared.lemma.Ending.{Ending}
use Rattle.lemma_list.specs.declared.lemma.Ending.TheVariants.{Emptied, Lost as LostEnding, Goal as GoalEnding}
use Rattle.lemma_list.specs.Lemmas.{Lemma, Entry, shown, forget}
use Rattle.lemma_list.specs.Places.{is_kind, place}
use Rattle.lemma_list.specs.Literals.{box_to}
use Rattle.lemma_list.specs.Reasons.{Known}
use Rattle.lemma_list.specs.InPlace.{may_step, passed_by, left_by, ends, closes, is_lemma, is_nil, entry_in_place, known_after, ends_with, proves_after}
use Rattle.lemma_text.specs.declared.item.Item.{Item}
use Rattle.lemma_text.specs.declared.item.Item.TheVariants.{Head, Lemma as LemmaItem, Literal as LiteralItem, Sum as SumItem, Step as StepItem, Lost, Goal, Forget}
use Rattle.lemma_text.specs.Items.{literal_items, ending_items, entry_items}
use Rattle.lemma_check.specs.Books.{Book, between, heading, closing, wrong, first_book, past_head, game_loser, ended, settled, headed, forgotten, stepped, goes, goes_through, is_loser, tells, says}
use Rattle.lemma_check.specs.Claims.{loser_after, EntriesTold, ListsTold, WrongStays}

pub through_append : (g : Game) (b : Book) (is js : List Item) → goes_through g b (is ++ js) ≡ goes_through g (goes_through g b is) js
through_append g b [] js = refl
through_append g b (i ∷ is) js = through_append g (goes g b i) is js

goes_wrong : (g : Game) (i : Item) → goes g wrong i ≡ wrong
goes_wrong g (Head k) = refl
goes_wrong g (LemmaItem k bare) = refl
goes_wrong g (LiteralItem l last) = refl
goes_wrong g (SumItem z) = refl
goes_wrong g (StepItem s) = refl
goes_wrong g (Lost r) = refl
goes_wrong g Goal = refl
goes_wrong g (Forget n) = refl

pub wrong_stays : WrongStays
wrong_stays g [] = refl
wrong_stays g (i ∷ is) = ap (λ (b : Book). goes_through g b is) (goes_wrong g i) ∙ wrong_stays g is

-- the head of a lemma
abbrev lemma_of : Kind → List Literal → List SumLiteral → Lemma
lemma_of k ls zs = record { loser = k; literals = ls; sums = zs }

literals_through : (g : Game) (known : Known) (k : Kind) (zs : List SumLiteral) (ls ms : List Literal) →
    goes_through g (heading known (lemma_of k ls zs)) (literal_items ms) ≡ heading known (lemma_of k (ls ++ ms) zs)
literals_through g known k zs ls [] = ap (λ (xs : List Literal). heading known (lemma_of k xs zs)) (sym (append-nil ls))
literals_through g known k zs ls (m ∷ ms) =
    literals_through g known k zs (ls ++ m ∷ []) ms ∙ ap (λ (xs : List Literal). heading known (lemma_of k xs zs)) (append_assoc ls (m ∷ []) ms)

sums_through : (g : Game) (known : Known) (k : Kind) (ls : List Literal) (zs ys : List SumLiteral) →
    goes_through g (heading known (lemma_of k ls zs)) (map SumItem ys) ≡ heading known (lemma_of k ls (zs ++ ys))
sums_through g known k ls zs [] = ap (λ (xs : List SumLiteral). heading known (lemma_of k ls xs)) (sym (append-nil zs))
sums_through g known k ls zs (y ∷ ys) =
    sums_through g known k ls (zs ++ y ∷ []) ys ∙ ap (λ (xs : List SumLiteral). heading known (lemma_of k ls xs)) (append_assoc zs (y ∷ []) ys)

head_through : (g : Game) (known : Known) (m : Lemma) (rest : List Item) →
    goes_through g (heading known (lemma_of m.loser [] [])) (literal_items m.literals ++ (map SumItem m.sums ++ rest)) ≡ goes_through g (heading known m) rest
head_through g known m rest =
    through_append g _ (literal_items m.literals) (map SumItem m.sums ++ rest)
    ∙ ap (λ (b : Book). goes_through g b (map SumItem m.sums ++ rest)) (literals_through g known m.loser [] [] m.literals)
    ∙ through_append g (heading known (lemma_of m.loser m.literals [])) (map SumItem m.sums) rest
    ∙ ap (λ (b : Book). goes_through g b rest) (sums_through g known m.loser m.literals [] m.sums)

-- a lemma that is shown, or isn't
abbrev told : Known → Lemma → Bool → Book
told known m b = cond b (between (known ++ Some m ∷ []) (game_loser m)) wrong

told_settled : (g : Game) (known : Known) (m : Lemma) (b : Bool) → settled g (told known m b) ≡ told known m b
told_settled g known m true = refl
told_settled g known m false = refl

steps_from : Ending → List Step → List Item
steps_from end ss = map StepItem ss ++ ending_items end

wrong_told : (g : Game) (known : Known) (m : Lemma) (is : List Item) → settled g (goes_through g wrong is) ≡ told known m false
wrong_told g known m is = ap (settled g) (wrong_stays g is)

step_told : (g : Game) (known : Known) (m : Lemma) (next : Book) (is : List Item) (a b c : Bool) → settled g (goes_through g next is) ≡ told known m c →
    settled g (goes_through g (cond (a && b) next wrong) is) ≡ told known m (a && b && c)
step_told g known m next is true true c h = h
step_told g known m next is true false c h = wrong_told g known m is
step_told g known m next is false b c h = wrong_told g known m is

closing_told : (g : Game) (known : Known) (m : Lemma) (end : Ending) (ss : List Step) (passed : ℕ) (box : Box) →
    settled g (goes_through g (closing known m passed box) (map StepItem ss ++ ending_items end)) ≡ told known m (closes g known m end ss passed box)
closing_told g known m Emptied [] passed box = refl
closing_told g known m (LostEnding r) [] passed box = told_settled g known m (ends g known m (LostEnding r) passed box)
closing_told g known m GoalEnding [] passed box = told_settled g known m (ends g known m GoalEnding passed box)
closing_told g known m end (s ∷ ss) passed box =
    step_told g known m (closing known m (passed_by g known s passed) (left_by s box)) (map StepItem ss ++ ending_items end) _ (may_step g known m s passed box) _
    (closing_told g known m end ss (passed_by g known s passed) (left_by s box))

-- what comes after a head begins with its test
abbrev begun : Known → Lemma → ℕ → Box → Bool → Book
begun known m passed box b = cond b (closing known m passed box) wrong

begun_past : (g : Game) (known : Known) (m : Lemma) (passed : ℕ) (box : Box) (b : Bool) → begun known m passed box b ≡ past_head g (begun known m passed box b)
begun_past g known m passed box true = refl
begun_past g known m passed box false = refl

begun_settled : (g : Game) (known : Known) (m : Lemma) (passed : ℕ) (box : Box) (b : Bool) → ended g Emptied (begun known m passed box b) ≡ settled g (begun known m passed box b)
begun_settled g known m passed box true = refl
begun_settled g known m passed box false = refl

head_passed : (g : Game) (known : Known) (m : Lemma) (end : Ending) (ss : List Step) →
    settled g (goes_through g (heading known m) (map StepItem ss ++ ending_items end)) ≡ settled g (goes_through g (past_head g (heading known m)) (map StepItem ss ++ ending_items end))
head_passed g known m Emptied [] = begun_settled g known m _ _ (is_lemma g m)
head_passed g known m (LostEnding r) [] = ap (λ (b : Book). settled g (ended g (LostEnding r) b)) (begun_past g known m _ _ (is_lemma g m))
head_passed g known m GoalEnding [] = ap (λ (b : Book). settled g (ended g GoalEnding b)) (begun_past g known m _ _ (is_lemma g m))
head_passed g known m end (s ∷ ss) =
    ap (λ (b : Book). settled g (goes_through g (stepped g s b) (map StepItem ss ++ ending_items end))) (begun_past g known m _ _ (is_lemma g m))

begun_told : (g : Game) (known : Known) (m : Lemma) (end : Ending) (ss : List Step) (passed : ℕ) (box : Box) (b : Bool) →
    settled g (goes_through g (begun known m passed box b) (map StepItem ss ++ ending_items end)) ≡ told known m (b && closes g known m end ss passed box)
begun_told g known m end ss passed box true = closing_told g known m end ss passed box
begun_told g known m end ss passed box false = wrong_told g known m (map StepItem ss ++ ending_items end)

forget_settled : (g : Game) (known : Known) (b : Bool) → settled g (cond b (between known None) wrong) ≡ cond b (between known None) wrong
forget_settled g known true = refl
forget_settled g known false = refl

pub entries_told : EntriesTold
entries_told g b known loser (shown s) h =
    ap (λ (c : Book). settled g (goes_through g (headed s.lemma.loser c) (literal_items s.lemma.literals ++ (map SumItem s.lemma.sums ++ (map StepItem s.steps ++ ending_items s.ending))))) h
    ∙ ap (settled g) (head_through g known s.lemma (map StepItem s.steps ++ ending_items s.ending))
    ∙ head_passed g known s.lemma s.ending s.steps
    ∙ begun_told g known s.lemma s.ending s.steps (place g s.lemma) (box_to s.lemma.literals (declared_box g)) (is_lemma g s.lemma)
entries_told g b known loser (forget n) h = ap (λ (c : Book). settled g (forgotten n c)) h ∙ forget_settled g _ _

-- nothing that is out of place is mended later
wrong_says : (g : Game) (k : Kind) (b : Book) (es : List Entry) → settled g b ≡ wrong → says g k (goes_through g b (flat_map entry_items es)) ≡ false
wrong_says g k b [] h = ap (tells k) h
wrong_says g k b (shown s ∷ es) h =
    let rest : List Item = (literal_items s.lemma.literals ++ (map SumItem s.lemma.sums ++ (map StepItem s.steps ++ ending_items s.ending))) ++ flat_map entry_items es in
    ap (λ (c : Book). says g k (goes_through g (headed s.lemma.loser c) rest)) h ∙ ap (says g k) (wrong_stays g rest)
wrong_says g k b (forget n ∷ es) h =
    let rest : List Item = flat_map entry_items es in
    ap (λ (c : Book). says g k (goes_through g (forgotten n c) rest)) h ∙ ap (says g k) (wrong_stays g rest)

final_told : (a b c : Bool) (k l : Kind) → is_kind k l ≡ a → is_loser k (cond (b && c) (Some l) None) ≡ (a && b && c)
final_told true true true k l h = h
final_told false true true k l h = h
final_told true true false k l h = refl
final_told false true false k l h = refl
final_told true false c k l h = refl
final_told false false c k l h = refl

last_told : (k : Kind) (e : Entry) → is_loser k (loser_after e) ≡ ends_with k e
last_told k (shown s) = final_told _ (is_nil s.lemma.literals) (is_nil s.lemma.sums) k s.lemma.loser refl
last_told k (forget n) = refl

one_told : (k : Kind) (known : Known) (e : Entry) (b : Bool) → tells k (cond b (between known (loser_after e)) wrong) ≡ (b && ends_with k e)
one_told k known e true = last_told k e
one_told k known e false = refl

more_told : (g : Game) (k : Kind) (b : Book) (known : Known) (loser : Option Kind) (es : List Entry) (a c : Bool) → settled g b ≡ cond a (between known loser) wrong →
    (settled g b ≡ between known loser → says g k (goes_through g b (flat_map entry_items es)) ≡ c) → says g k (goes_through g b (flat_map entry_items es)) ≡ (a && c)
more_told g k b known loser es true c h f = f h
more_told g k b known loser es false c h f = wrong_says g k b es h

list_after : (g : Game) (k : Kind) (es : List Entry) (e : Entry) (b : Book) (known : Known) (loser : Option Kind) → settled g b ≡ between known loser →
    says g k (goes_through g b (flat_map entry_items (e ∷ es))) ≡ proves_after g k known (e ∷ es)
list_after g k [] e b known loser h =
    ap (says g k) (through_append g b (entry_items e) []) ∙ ap (tells k) (entries_told g b known loser e h) ∙ one_told k (known_after known e) e (entry_in_place g known e)
list_after g k (f ∷ rest) e b known loser h =
    ap (says g k) (through_append g b (entry_items e) (flat_map entry_items (f ∷ rest)))
    ∙ more_told g k (goes_through g b (entry_items e)) (known_after known e) (loser_after e) (f ∷ rest) (entry_in_place g known e) _ (entries_told g b known loser e h)
    (list_after g k rest f (goes_through g b (entry_items e)) (known_after known e) (loser_after e))

pub lists_told : ListsTold
lists_told g head loser [] = refl
lists_told g head loser (e ∷ es) = list_after g loser es e first_book [] None refl
