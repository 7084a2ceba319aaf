-- The chunks of a valid problem's text are words, numbers, signs and blanks, and runs stand apart in it.
use Rattle.std.proofs.Common.{◌≡◌, refl, ap, ◌∙◌, ◌&&◌, ℕ, Bool, true, false, not, cond, List, [], ◌∷◌, ◌++◌, map, append_assoc, Option, Some, None}
use Rattle.std.specs.Prelude.{ℤ, pos, codes, flat_map, slice_get}
use Rattle.std.specs.List.{list_all}
use Rattle.std.specs.Ordering.{int_eq}
use Rattle.std.proofs.lemmas.Bool.{and_parts, and_from}
use Rattle.qc_model.specs.declared.problem.Kind.{Kind}
use Rattle.qc_model.specs.declared.problem.Kind.TheVariants.{Exists, Forall}
use Rattle.qc_model.specs.declared.problem.Sense.{Sense}
use Rattle.qc_model.specs.declared.problem.Sense.TheVariants.{Min, Max}
use Rattle.qc_model.specs.declared.problem.Fold.{Fold}
use Rattle.qc_model.specs.declared.problem.Fold.TheVariants.{Sum, Least, Greatest}
use Rattle.qc_model.specs.declared.problem.Domain.{Domain}
use Rattle.qc_model.specs.declared.problem.Domain.TheVariants.{Bits, Range, Listed}
use Rattle.qc_model.specs.declared.problem.Set.{Set}
use Rattle.qc_model.specs.declared.problem.Set.TheVariants.{Range as SetRange, Listed as SetListed}
use Rattle.qc_model.specs.declared.problem.Arg.{Arg}
use Rattle.qc_model.specs.declared.problem.Arg.TheVariants.{Var, Num}
use Rattle.qc_model.specs.declared.problem.Argument.{Argument}
use Rattle.qc_model.specs.declared.problem.Argument.TheVariants.{One, Many, Numbers, Members}
use Rattle.qc_model.specs.declared.problem.Condition.{Condition}
use Rattle.qc_model.specs.declared.problem.Variable.{Variable}
use Rattle.qc_model.specs.declared.signature.ArgKind.{ArgKind}
use Rattle.qc_model.specs.declared.signature.ArgKind.TheVariants.{Integer as integer, Boolean as boolean, Integers as integers, Booleans as booleans, Numbers as numbers, Truths as truths, Members as members}
use Rattle.qc_model.specs.Content.{Game}
use Rattle.qc_model.specs.Signature.{arg_kinds_of, pred_name}
use Rattle.qc_model.specs.Names.{is_word, is_name}
use Rattle.qc_model.specs.Valid.{is_number, is_fold}
use Rattle.qc_model.specs.Canonical.{kind_text, truth_text, variable_name, target_name}
use Rattle.text_reread.specs.Chunks.{Chunk, word, sign, blank, is_chunk, is_run, are_apart}
use Rattle.text_reread.specs.Parts.{Part, head, variable, aggregate, constraint, goal, parts_of}
use Rattle.text_reread.specs.Spelled.{commas, between, figure_chunks, braces_chunks, range_chunks, domain_chunks, set_chunks, literal_chunks, arg_chunks, argument_chunks, arguments_chunks, fold_chunks, sense_chunks, condition_chunks, line_end, part_chunks, problem_chunks}
use Rattle.text_reread.specs.Items.{ProblemsAreSpelledRight}
use Rattle.text_reread.proofs.Words.{name_is_word, predicate_is_name}
use Rattle.text_reread.proofs.Spellable.{fits_literal, fits_arg, fits_set, fits_domain, fits_argument, fits_arguments, fits_head, fits_part}
use Rattle.text_reread.proofs.ValidParts.{parts_fit}

-- chunks that are some, and in which runs stand apart, also from what is before, which is a run or not
abbrev goes : Bool → List Chunk → Bool
goes r [] = true
goes r (c ∷ cs) = not (is_run c && r) && (is_chunk c && goes (is_run c) cs)

-- whether they end in a run
abbrev ends : Bool → List Chunk → Bool
ends r [] = r
ends r (c ∷ cs) = ends (is_run c) cs

-- chunks behind others end as they do after the end of those
ends_behind : (r : Bool) (cs ds : List Chunk) → ends r (cs ++ ds) ≡ ends (ends r cs) ds
ends_behind r [] ds = refl
ends_behind r (c ∷ cs) ds = ends_behind (is_run c) cs ds

-- chunks behind others
goes_behind : (r : Bool) (cs ds : List Chunk) → goes r cs ≡ true → goes (ends r cs) ds ≡ true → goes r (cs ++ ds) ≡ true
goes_behind r [] ds h k = k
goes_behind r (c ∷ cs) ds h k =
    let a = and_parts (not (is_run c && r)) (is_chunk c && goes (is_run c) cs) h in
    let b = and_parts (is_chunk c) (goes (is_run c) cs) a.1 in
    and_from (not (is_run c && r)) (is_chunk c && goes (is_run c) (cs ++ ds)) a.0
    (and_from (is_chunk c) (goes (is_run c) (cs ++ ds)) b.0 (goes_behind (is_run c) cs ds b.1 k))

-- what may follow a run may follow anything
after_any : (r : Bool) (cs : List Chunk) → goes true cs ≡ true → goes r cs ≡ true
after_any true cs h = h
after_any false [] h = refl
after_any false (c ∷ cs) h = by (is_run c) (is_chunk c && goes (is_run c) cs) h
  where
    by : (t more : Bool) → (not (t && true) && more) ≡ true → (not (t && false) && more) ≡ true
    by true more e = absurd cc
    by false more e = e

-- chunks that may follow a run go behind any others
then_goes : (r : Bool) (cs ds : List Chunk) → goes r cs ≡ true → goes true ds ≡ true → goes r (cs ++ ds) ≡ true
then_goes r cs ds h k = goes_behind r cs ds h (after_any (ends r cs) ds k)

-- items with a comma before each ..
commas_go : {A : Type 0} (spell : A → List Chunk) (p : A → Bool) → ((x : A) → p x ≡ true → goes false (spell x) ≡ true) → (xs : List A) → list_all p xs ≡ true → goes true (commas (map spell xs)) ≡ true
commas_go spell p each [] h = refl
commas_go spell p each (x ∷ xs) h =
    let k = and_parts (p x) (list_all p xs) h in
    then_goes false (spell x) (commas (map spell xs)) (each x k.0) (commas_go spell p each xs k.1)

-- .. and with commas between them
between_go : {A : Type 0} (spell : A → List Chunk) (p : A → Bool) → ((x : A) → p x ≡ true → goes false (spell x) ≡ true) → (xs : List A) → list_all p xs ≡ true → goes false (between (map spell xs)) ≡ true
between_go spell p each [] h = refl
between_go spell p each (x ∷ xs) h =
    let k = and_parts (p x) (list_all p xs) h in
    then_goes false (spell x) (commas (map spell xs)) (each x k.0) (commas_go spell p each xs k.1)

-- a run alone, or before other chunks
one_goes : (t : Bool) → t ≡ true → (t && true) ≡ true
one_goes t h = and_from t true h refl

-- a number
figure_goes : (n : ℤ) → is_number n ≡ true → goes false (figure_chunks n) ≡ true
figure_goes n h = one_goes (is_number n) h

-- numbers in braces
braces_go : (ns : List ℤ) → list_all is_number ns ≡ true → goes false (braces_chunks ns) ≡ true
braces_go ns h = then_goes false (between (map figure_chunks ns)) (sign 125 ∷ []) (between_go figure_chunks is_number figure_goes ns h) refl

-- a range, whose dots part its numbers
range_goes : (low high : ℤ) → (is_number low && is_number high) ≡ true → goes false (range_chunks low high) ≡ true
range_goes low high h =
    let k = and_parts (is_number low) (is_number high) h in
    and_from (is_number low) (is_number high && true) k.0 (one_goes (is_number high) k.1)

-- a domain
domain_goes : (d : Domain) → fits_domain d ≡ true → goes false (domain_chunks d) ≡ true
domain_goes Bits h = refl
domain_goes (Range low high) h = range_goes low high h
domain_goes (Listed ns) h = braces_go ns h

-- a set
set_goes : (s : Set) → fits_set s ≡ true → goes false (set_chunks s) ≡ true
set_goes (SetRange low high) h = range_goes low high h
set_goes (SetListed ns) h = braces_go ns h

-- a truth value is a word
truth_goes : (n : ℤ) → goes false (word (truth_text n) ∷ []) ≡ true
truth_goes n = by (int_eq n (pos 1))
  where
    by : (t : Bool) → goes false (word (cond t (codes "true") (codes "false")) ∷ []) ≡ true
    by true = refl
    by false = refl

-- a literal
literal_goes : (s : ArgKind) (n : ℤ) → fits_literal s n ≡ true → goes false (literal_chunks s n) ≡ true
literal_goes boolean n h = truth_goes n
literal_goes booleans n h = truth_goes n
literal_goes truths n h = truth_goes n
literal_goes integer n h = figure_goes n h
literal_goes integers n h = figure_goes n h
literal_goes numbers n h = figure_goes n h
literal_goes members n h = absurd cc

-- a variable's name or a literal
arg_goes : (xs : List Variable) (s : ArgKind) (a : Arg) → fits_arg xs s a ≡ true → goes false (arg_chunks xs s a) ≡ true
arg_goes xs s (Var x) h = let name = variable_name (slice_get xs x.0) in one_goes (is_word name) (name_is_word name h)
arg_goes xs s (Num n) h = literal_goes s n h

-- an argument
argument_goes : (xs : List Variable) (s : ArgKind) (a : Argument) → fits_argument xs s a ≡ true → goes false (argument_chunks xs s a) ≡ true
argument_goes xs s (One a) h = arg_goes xs s a h
argument_goes xs s (Many items) h = then_goes false (between (map (arg_chunks xs s) items)) (sign 93 ∷ []) (between_go (arg_chunks xs s) (fits_arg xs s) (arg_goes xs s) items h) refl
argument_goes xs s (Numbers ns) h = then_goes false (between (map (literal_chunks s) ns)) (sign 93 ∷ []) (between_go (literal_chunks s) (fits_literal s) (literal_goes s) ns h) refl
argument_goes xs s (Members m) h = set_goes m h

-- the arguments of a constraint, each with a comma before it ..
more_arguments_go : (xs : List Variable) (sorts : List ArgKind) (args : List Argument) → fits_arguments xs sorts args ≡ true → goes true (commas (arguments_chunks xs sorts args)) ≡ true
more_arguments_go xs [] args h = refl
more_arguments_go xs (s ∷ sorts) [] h = refl
more_arguments_go xs (s ∷ sorts) (a ∷ args) h =
    let k = and_parts (fits_argument xs s a) (fits_arguments xs sorts args) h in
    then_goes false (argument_chunks xs s a) (commas (arguments_chunks xs sorts args)) (argument_goes xs s a k.0) (more_arguments_go xs sorts args k.1)

-- .. and with commas between them
arguments_go : (xs : List Variable) (sorts : List ArgKind) (args : List Argument) → fits_arguments xs sorts args ≡ true → goes false (between (arguments_chunks xs sorts args)) ≡ true
arguments_go xs [] args h = refl
arguments_go xs (s ∷ sorts) [] h = refl
arguments_go xs (s ∷ sorts) (a ∷ args) h =
    let k = and_parts (fits_argument xs s a) (fits_arguments xs sorts args) h in
    then_goes false (argument_chunks xs s a) (commas (arguments_chunks xs sorts args)) (argument_goes xs s a k.0) (more_arguments_go xs sorts args k.1)

-- a condition, which a blank begins
condition_goes : (sense : Sense) (name : List ℕ) → is_name name ≡ true → goes true (sense_chunks sense ++ word name ∷ []) ≡ true
condition_goes Min name h = one_goes (is_word name) (name_is_word name h)
condition_goes Max name h = one_goes (is_word name) (name_is_word name h)

-- a fold and its target
fold_goes : (f : Fold) (name : List ℕ) → is_name name ≡ true → is_fold f ≡ true → goes false (fold_chunks f name) ≡ true
fold_goes Sum name h k = one_goes (is_word name) (name_is_word name h)
fold_goes (Least n) name h k = and_from (is_word name) (is_number n && true) (name_is_word name h) (one_goes (is_number n) k)
fold_goes (Greatest n) name h k = and_from (is_word name) (is_number n && true) (name_is_word name h) (one_goes (is_number n) k)

-- a line of the text, which ends in no run
record IsLine (cs : List Chunk) : Type 0 where
  goes_on : goes false cs ≡ true
  ends_so : ends false cs ≡ false

-- a head is such a line
head_line : (g : Game) (k : Kind) (c : Option Condition) → fits_head g k c ≡ true → IsLine (word (kind_text k) ∷ condition_chunks g c ++ line_end)
head_line g Exists None h = record { goes_on = refl; ends_so = refl }
head_line g Exists (Some c) h =
    let cs = condition_chunks g (Some c) in
    record { goes_on = then_goes true cs line_end (condition_goes c.sense (target_name g c.target) h) refl; ends_so = ends_behind true cs line_end }
head_line g Forall None h = record { goes_on = refl; ends_so = refl }
head_line g Forall (Some c) h = absurd cc

-- each part that fits is such a line
part_line : (g : Game) (p : Part) → fits_part g p ≡ true → IsLine (part_chunks g p)
part_line g (head s) h = head_line g s.kind s.condition h
part_line g (variable x) h =
    let k = and_parts (is_name x.name) (fits_domain x.domain) h in
    let cs = domain_chunks x.domain in
    let ds = sign 58 ∷ blank 32 ∷ word x.name ∷ line_end in
    record { goes_on = then_goes false cs ds (domain_goes x.domain k.1) (one_goes (is_word x.name) (name_is_word x.name k.0)); ends_so = ends_behind false cs ds }
part_line g (aggregate q) h =
    let target = target_name g q.target in
    let k = and_parts (is_name q.name) (is_name target && is_fold q.fold) h in
    let t = and_parts (is_name target) (is_fold q.fold) k.1 in
    let cs = fold_chunks q.fold target in
    record {
      goes_on = and_from (is_word q.name) (goes false (cs ++ line_end)) (name_is_word q.name k.0) (then_goes false cs line_end (fold_goes q.fold target t.0 t.1) refl);
      ends_so = ends_behind false cs line_end;
    }
part_line g (constraint c) h =
    let name = pred_name c.pred in
    let cs = between (arguments_chunks g.variables (arg_kinds_of c.pred) c.args) in
    let ds = sign 41 ∷ line_end in
    record {
      goes_on = and_from (is_word name) (goes false (cs ++ ds)) (name_is_word name (predicate_is_name c.pred)) (then_goes false cs ds (arguments_go g.variables (arg_kinds_of c.pred) c.args h) refl);
      ends_so = ends_behind false cs ds;
    }
part_line g goal h = record { goes_on = refl; ends_so = refl }

-- the lines of many parts, and what follows them
lines_go : (g : Game) (ps : List Part) (ds : List Chunk) → list_all (fits_part g) ps ≡ true → goes false ds ≡ true → goes false (flat_map (part_chunks g) ps ++ ds) ≡ true
lines_go g [] ds h k = k
lines_go g (p ∷ ps) ds h k =
    let t = and_parts (fits_part g p) (list_all (fits_part g) ps) h in
    let line = part_line g p t.0 in
    let later = flat_map (part_chunks g) ps ++ ds in
    ap (goes false) (append_assoc (part_chunks g p) (flat_map (part_chunks g) ps) ds)
    ∙ goes_behind false (part_chunks g p) later line.goes_on (ap (λ r. goes r later) line.ends_so ∙ lines_go g ps ds t.1 k)

-- such chunks are some, and stand apart
are_chunks : (r : Bool) (cs : List Chunk) → goes r cs ≡ true → list_all is_chunk cs ≡ true
are_chunks r [] h = refl
are_chunks r (c ∷ cs) h =
    let a = and_parts (not (is_run c && r)) (is_chunk c && goes (is_run c) cs) h in
    let b = and_parts (is_chunk c) (goes (is_run c) cs) a.1 in
    and_from (is_chunk c) (list_all is_chunk cs) b.0 (are_chunks (is_run c) cs b.1)

-- whether two runs stand side by side is the same from both sides
swapped : (s t : Bool) → not (s && t) ≡ true → not (t && s) ≡ true
swapped true true h = h
swapped true false h = refl
swapped false true h = refl
swapped false false h = refl

-- and no two runs stand side by side
stand_apart : (r : Bool) (cs : List Chunk) → goes r cs ≡ true → are_apart cs ≡ true
stand_apart r [] h = refl
stand_apart r (c ∷ []) h = refl
stand_apart r (c ∷ d ∷ cs) h =
    let a = and_parts (not (is_run c && r)) (is_chunk c && goes (is_run c) (d ∷ cs)) h in
    let b = and_parts (is_chunk c) (goes (is_run c) (d ∷ cs)) a.1 in
    let first = and_parts (not (is_run d && is_run c)) (is_chunk d && goes (is_run d) cs) b.1 in
    and_from (not (is_run c && is_run d)) (are_apart (d ∷ cs)) (swapped (is_run d) (is_run c) first.0) (stand_apart (is_run c) (d ∷ cs) b.1)

-- the chunks of a valid problem are some, and stand apart
pub spelled_right : ProblemsAreSpelledRight
spelled_right g v =
    let whole = lines_go g (parts_of g) (word (codes "solve") ∷ line_end) (parts_fit g v) refl in
    record { chunks = are_chunks false (problem_chunks g) whole; apart = stand_apart false (problem_chunks g) whole }
