-- The text of a problem's chunks is its canonical text.
use Rattle.std.proofs.Common.{◌≡◌, refl, sym, ap, ◌∙◌, ◌==◌, ℕ, suc, List, [], ◌∷◌, ◌++◌, map, filter, append_assoc, append-nil, Option, Some, None}
use Rattle.std.specs.Prelude.{ℤ, codes, flat_map, slice_get}
use Rattle.std.specs.Fmt.{signed_decimal}
use Rattle.std.proofs.lemmas.Grind.{flat_map-append}
use Rattle.qc_model.specs.declared.problem.Sense.{Sense}
use Rattle.qc_model.specs.declared.problem.Sense.TheVariants.{Min, Max}
use Rattle.qc_model.specs.declared.problem.Fold.{Fold}
use Rattle.qc_model.specs.declared.problem.Fold.TheVariants.{Sum, Least, Greatest}
use Rattle.qc_model.specs.declared.problem.Domain.{Domain}
use Rattle.qc_model.specs.declared.problem.Domain.TheVariants.{Bits, Range, Listed}
use Rattle.qc_model.specs.declared.problem.Set.{Set}
use Rattle.qc_model.specs.declared.problem.Set.TheVariants.{Range as SetRange, Listed as SetListed}
use Rattle.qc_model.specs.declared.problem.Arg.{Arg}
use Rattle.qc_model.specs.declared.problem.Arg.TheVariants.{Var, Num}
use Rattle.qc_model.specs.declared.problem.Argument.{Argument}
use Rattle.qc_model.specs.declared.problem.Argument.TheVariants.{One, Many, Numbers, Members}
use Rattle.qc_model.specs.declared.problem.Condition.{Condition}
use Rattle.qc_model.specs.declared.problem.Scope.{Scope}
use Rattle.qc_model.specs.declared.problem.Variable.{Variable}
use Rattle.qc_model.specs.Content.{Game}
use Rattle.qc_model.specs.declared.signature.ArgKind.{ArgKind}
use Rattle.qc_model.specs.declared.signature.ArgKind.TheVariants.{Integer as integer, Boolean as boolean, Integers as integers, Booleans as booleans, Numbers as numbers, Truths as truths, Members as members}
use Rattle.qc_model.specs.Signature.{arg_kinds_of, pred_name}
use Rattle.qc_model.specs.Canonical.{with_commas, braces, range_text, domain_text, set_text, variable_name, target_name, literal_text, arg_text, argument_text, argument_texts, variable_text, fold_text, aggregate_text, sense_text, condition_text, kind_text, scope_text, text_from}
use Rattle.text_reread.specs.Chunks.{Chunk, word, sign, blank, chunk_text, chunks_text}
use Rattle.text_reread.specs.Parts.{Part, head, variable, aggregate, constraint, goal, scope_parts, parts_from, parts_of, part_text}
use Rattle.text_reread.specs.Spelled.{commas, between, figure_chunks, braces_chunks, range_chunks, domain_chunks, set_chunks, literal_chunks, arg_chunks, argument_chunks, arguments_chunks, fold_chunks, sense_chunks, condition_chunks, line_end, part_chunks}
use Rattle.text_reread.specs.Items.{ChunksSpell}

-- the text of chunks behind one another
pub text_joined : (cs ds : List Chunk) → chunks_text (cs ++ ds) ≡ chunks_text cs ++ chunks_text ds
text_joined cs ds = flat_map-append chunk_text cs ds

-- commas before each, and between them
commas_text : (ts : List (List Chunk)) → chunks_text (commas ts) ≡ flat_map (λ u. codes "," ++ u) (map chunks_text ts)
commas_text [] = refl
commas_text (t ∷ ts) = ap (λ u. 44 ∷ u) (text_joined t (commas ts) ∙ ap (λ u. chunks_text t ++ u) (commas_text ts))

-- commas between them
between_text : (ts : List (List Chunk)) → chunks_text (between ts) ≡ with_commas (map chunks_text ts)
between_text [] = refl
between_text (t ∷ ts) = text_joined t (commas ts) ∙ ap (λ u. chunks_text t ++ u) (commas_text ts)

-- where each one's chunks have its text, so have all
each_text : {A : Type 0} (spell : A → List Chunk) (text : A → List ℕ) → ((x : A) → chunks_text (spell x) ≡ text x) → (xs : List A) → map chunks_text (map spell xs) ≡ map text xs
each_text spell text h [] = refl
each_text spell text h (x ∷ xs) = ap (λ t. t ∷ map chunks_text (map spell xs)) (h x) ∙ ap (λ ts. text x ∷ ts) (each_text spell text h xs)

-- with commas between them too
all_text : {A : Type 0} (spell : A → List Chunk) (text : A → List ℕ) → ((x : A) → chunks_text (spell x) ≡ text x) → (xs : List A) → chunks_text (between (map spell xs)) ≡ with_commas (map text xs)
all_text spell text h xs = between_text (map spell xs) ∙ ap with_commas (each_text spell text h xs)

-- chunks in brackets of some kind
closed_text : (b e : ℕ) (cs : List Chunk) (t : List ℕ) → chunks_text cs ≡ t → chunks_text (sign b ∷ cs ++ sign e ∷ []) ≡ (b ∷ []) ++ t ++ (e ∷ [])
closed_text b e cs t h = ap (λ u. b ∷ u) (text_joined cs (sign e ∷ []) ∙ ap (λ u. u ++ (e ∷ [])) h)

-- a number's text
figure_text : (n : ℤ) → chunks_text (figure_chunks n) ≡ signed_decimal n
figure_text n = append-nil (signed_decimal n)

-- the text of numbers in braces
braces_text : (ns : List ℤ) → chunks_text (braces_chunks ns) ≡ braces ns
braces_text ns = closed_text 123 125 (between (map figure_chunks ns)) (with_commas (map signed_decimal ns)) (all_text figure_chunks signed_decimal figure_text ns)

-- of a range
ranges_text : (low high : ℤ) → chunks_text (range_chunks low high) ≡ range_text low high
ranges_text low high = simp (append_assoc, append-nil)

-- of a domain
domains_text : (d : Domain) → chunks_text (domain_chunks d) ≡ domain_text d
domains_text Bits = refl
domains_text (Range low high) = ranges_text low high
domains_text (Listed ns) = braces_text ns

-- of a set
sets_text : (s : Set) → chunks_text (set_chunks s) ≡ set_text s
sets_text (SetRange low high) = ranges_text low high
sets_text (SetListed ns) = braces_text ns

-- of a literal
literals_text : (s : ArgKind) (n : ℤ) → chunks_text (literal_chunks s n) ≡ literal_text s n
literals_text boolean n = append-nil (literal_text boolean n)
literals_text booleans n = append-nil (literal_text booleans n)
literals_text truths n = append-nil (literal_text truths n)
literals_text integer n = append-nil (signed_decimal n)
literals_text integers n = append-nil (signed_decimal n)
literals_text numbers n = append-nil (signed_decimal n)
literals_text members n = append-nil (signed_decimal n)

-- of a variable or a literal
args_text : (xs : List Variable) (s : ArgKind) (a : Arg) → chunks_text (arg_chunks xs s a) ≡ arg_text (literal_text s) xs a
args_text xs s (Var x) = append-nil (variable_name (slice_get xs x.0))
args_text xs s (Num n) = literals_text s n

-- of an argument
arguments_text : (xs : List Variable) (s : ArgKind) (a : Argument) → chunks_text (argument_chunks xs s a) ≡ argument_text xs s a
arguments_text xs s (One a) = args_text xs s a
arguments_text xs s (Many items) = closed_text 91 93 (between (map (arg_chunks xs s) items)) (with_commas (map (arg_text (literal_text s) xs) items)) (all_text (arg_chunks xs s) (arg_text (literal_text s) xs) (args_text xs s) items)
arguments_text xs s (Numbers ns) = closed_text 91 93 (between (map (literal_chunks s) ns)) (with_commas (map (literal_text s) ns)) (all_text (literal_chunks s) (literal_text s) (literals_text s) ns)
arguments_text xs s (Members m) = sets_text m

-- of the arguments of a constraint
arguments_texts : (xs : List Variable) (sorts : List ArgKind) (args : List Argument) → map chunks_text (arguments_chunks xs sorts args) ≡ argument_texts xs sorts args
arguments_texts xs [] args = refl
arguments_texts xs (s ∷ sorts) [] = refl
arguments_texts xs (s ∷ sorts) (a ∷ args) = ap (λ t. t ∷ map chunks_text (arguments_chunks xs sorts args)) (arguments_text xs s a) ∙ ap (λ ts. argument_text xs s a ∷ ts) (arguments_texts xs sorts args)

-- of a fold and its target
folds_text : (f : Fold) (name : List ℕ) → chunks_text (fold_chunks f name) ≡ fold_text f name
folds_text Sum name = simp (append_assoc, append-nil)
folds_text (Least n) name = simp (append_assoc, append-nil)
folds_text (Greatest n) name = simp (append_assoc, append-nil)

-- of a sense
senses_text : (s : Sense) → chunks_text (sense_chunks s) ≡ sense_text s
senses_text Min = refl
senses_text Max = refl

-- of a condition
conditions_text : (g : Game) (c : Option Condition) → chunks_text (condition_chunks g c) ≡ condition_text g c
conditions_text g None = refl
conditions_text g (Some c) =
    text_joined (sense_chunks c.sense) (word (target_name g c.target) ∷ [])
    ∙ ap (λ u. u ++ (target_name g c.target ++ [])) (senses_text c.sense)
    ∙ ap (λ u. sense_text c.sense ++ u) (append-nil (target_name g c.target))

-- what follows a text that stands for chunks
then_text : (cs ds : List Chunk) (t : List ℕ) → chunks_text cs ≡ t → chunks_text (cs ++ ds) ≡ t ++ chunks_text ds
then_text cs ds t h = text_joined cs ds ∙ ap (λ u. u ++ chunks_text ds) h

-- the chunks of a part spell its text
parts_text : (g : Game) (p : Part) → chunks_text (part_chunks g p) ≡ part_text g p
parts_text g (head s) =
    ap (λ u. kind_text s.kind ++ u) (then_text (condition_chunks g s.condition) line_end (condition_text g s.condition) (conditions_text g s.condition))
    ∙ sym (append_assoc (kind_text s.kind) (condition_text g s.condition) (codes ";\n"))
parts_text g (variable x) =
    ap (λ u. codes "var " ++ u) (then_text (domain_chunks x.domain) (sign 58 ∷ blank 32 ∷ word x.name ∷ line_end) (domain_text x.domain) (domains_text x.domain))
    ∙ simp append_assoc
parts_text g (aggregate q) =
    ap (λ u. codes "aggregate " ++ (q.name ++ (codes " = " ++ u))) (then_text (fold_chunks q.fold (target_name g q.target)) line_end (fold_text q.fold (target_name g q.target)) (folds_text q.fold (target_name g q.target)))
    ∙ simp append_assoc
parts_text g (constraint c) =
    let args = arguments_chunks g.variables (arg_kinds_of c.pred) c.args in
    let texts = argument_texts g.variables (arg_kinds_of c.pred) c.args in
    ap (λ u. codes "constraint " ++ (pred_name c.pred ++ (codes "(" ++ u))) (then_text (between args) (sign 41 ∷ line_end) (with_commas texts) (between_text args ∙ ap with_commas (arguments_texts g.variables (arg_kinds_of c.pred) c.args)))
    ∙ simp append_assoc
parts_text g goal = refl

-- the texts of many parts
abbrev pub texts_of : Game → List Part → List ℕ
texts_of g ps = flat_map (part_text g) ps

-- the chunks of many parts spell their texts
spelled_text : (g : Game) (ps : List Part) → chunks_text (flat_map (part_chunks g) ps) ≡ texts_of g ps
spelled_text g [] = refl
spelled_text g (p ∷ ps) = then_text (part_chunks g p) (flat_map (part_chunks g) ps) (part_text g p) (parts_text g p) ∙ ap (λ u. part_text g p ++ u) (spelled_text g ps)

-- the texts of parts behind others
texts_joined : (g : Game) (ps qs : List Part) → texts_of g (ps ++ qs) ≡ texts_of g ps ++ texts_of g qs
texts_joined g ps qs = flat_map-append (part_text g) ps qs

-- parts of one kind
texts_mapped : {A : Type 0} (g : Game) (part : A → Part) (xs : List A) → texts_of g (map part xs) ≡ flat_map (λ x. part_text g (part x)) xs
texts_mapped g part [] = refl
texts_mapped g part (x ∷ xs) = ap (λ u. part_text g (part x) ++ u) (texts_mapped g part xs)

-- the texts of a scope's parts are the scope's text
scope_texts : (g : Game) (i : ℕ) (s : Scope) → texts_of g (scope_parts g i s) ≡ scope_text g i s
scope_texts g i s =
    let vs = filter (λ x. x.scope.0 == i) g.variables in
    let qs = filter (λ q. q.scope.0 == i) g.aggregates in
    let cs = filter (λ c. c.owner.0 == i) g.constraints in
    texts_joined g (head s ∷ map variable vs ++ map aggregate qs) (map constraint cs)
    ∙ ap (λ u. u ++ texts_of g (map constraint cs)) (texts_joined g (head s ∷ map variable vs) (map aggregate qs))
    ∙ ap (λ u. ((part_text g (head s) ++ u) ++ texts_of g (map aggregate qs)) ++ texts_of g (map constraint cs)) (texts_mapped g variable vs)
    ∙ ap (λ u. ((part_text g (head s) ++ flat_map variable_text vs) ++ u) ++ texts_of g (map constraint cs)) (texts_mapped g aggregate qs)
    ∙ ap (λ u. ((part_text g (head s) ++ flat_map variable_text vs) ++ flat_map (aggregate_text g) qs) ++ u) (texts_mapped g constraint cs)

-- the texts of the parts from scope i on, with the end, are the text from there
from_text : (g : Game) (later : List Scope) (i : ℕ) → texts_of g (parts_from g later i) ++ codes "solve;\n" ≡ text_from g later i
from_text g [] i =
    ap (λ u. (codes "goal;\n" ++ u) ++ codes "solve;\n") (texts_mapped g constraint (filter (λ c. c.owner.0 == i) g.constraints))
from_text g (s ∷ later) i =
    ap (λ u. u ++ codes "solve;\n") (texts_joined g (scope_parts g i s) (parts_from g later (suc i)))
    ∙ append_assoc (texts_of g (scope_parts g i s)) (texts_of g (parts_from g later (suc i))) (codes "solve;\n")
    ∙ ap (λ u. u ++ (texts_of g (parts_from g later (suc i)) ++ codes "solve;\n")) (scope_texts g i s)
    ∙ ap (λ u. scope_text g i s ++ u) (from_text g later (suc i))

-- the chunks of a problem spell its canonical text
pub chunks_spell : ChunksSpell
chunks_spell g =
    then_text (flat_map (part_chunks g) (parts_of g)) (word (codes "solve") ∷ line_end) (texts_of g (parts_of g)) (spelled_text g (parts_of g))
    ∙ from_text g g.scopes 0
