-- The chunks of each part of a problem are read as an item that says what the part is.
use Rattle.std.proofs.Common.{◌≡◌, refl, ap, ◌∙◌, ◌&&◌, ℕ, true, List, [], ◌∷◌, ◌++◌}
use Rattle.std.specs.Prelude.{codes, flat_map, Option, Some, None}
use Rattle.std.specs.List.{list_all}
use Rattle.std.proofs.lemmas.Bool.{and_parts}
use Rattle.qc_model.specs.declared.problem.Kind.{Kind}
use Rattle.qc_model.specs.declared.problem.Kind.TheVariants.{Exists, Forall}
use Rattle.qc_model.specs.declared.problem.Sense.{Sense}
use Rattle.qc_model.specs.declared.problem.Sense.TheVariants.{Min, Max}
use Rattle.qc_model.specs.declared.problem.Fold.{Fold}
use Rattle.qc_model.specs.declared.problem.Fold.TheVariants.{Sum, Least, Greatest}
use Rattle.qc_model.specs.declared.problem.Condition.{Condition}
use Rattle.qc_model.specs.Content.{Game}
use Rattle.qc_model.specs.Signature.{arg_kinds_of, pred_name}
use Rattle.qc_model.specs.Names.{is_name}
use Rattle.qc_model.specs.Valid.{is_fold}
use Rattle.qc_model.specs.Canonical.{kind_text, target_name}
use Rattle.text_grammar.specs.declared.tree.Word.{Word}
use Rattle.text_grammar.specs.declared.tree.ConditionText.{ConditionText}
use Rattle.text_grammar.specs.declared.tree.FoldText.{FoldText}
use Rattle.text_grammar.specs.declared.tree.FoldText.TheVariants.{Sum as SumFold, Least as LeastFold, Greatest as GreatestFold}
use Rattle.text_grammar.specs.declared.tree.Item.{Item}
use Rattle.text_grammar.specs.declared.tree.Item.TheVariants.{Exists as ExistsItem, Forall as ForallItem, Goal as GoalItem, Variable, Aggregate as AggregateItem, Constraint}
use Rattle.text_grammar.specs.declared.lexeme.Lexeme.TheVariants.{Exists as ExistsWord, Optimise, Var, Aggregate as AggregateWord, Sum as SumWord, Least as LeastWord, Greatest as GreatestWord, Else, Constraint as ConstraintWord, Name, Number, Semicolon, Colon, ParenOpen, ParenClose, Equals}
use Rattle.text_grammar.specs.Grammar.{between_commas, domain_lexemes, argument_lexemes, condition_lexemes, fold_lexemes, item_lexemes}
use Rattle.text_resolve.specs.Owned.{word_bytes}
use Rattle.text_reread.specs.Chunks.{Chunk, word, sign, blank}
use Rattle.text_reread.specs.Parts.{Part, head, variable, aggregate, constraint, goal}
use Rattle.text_reread.specs.Stands.{StandsFold, StandsHead, Stands, AllStand}
use Rattle.text_reread.specs.Spelled.{between, domain_chunks, arguments_chunks, fold_chunks, sense_chunks, condition_chunks, line_end, part_chunks}
use Rattle.text_reread.proofs.Places.{AllLie, place_after, lie_first, lie_later, word_at, figure_at, chunks_lexemes, then_read}
use Rattle.text_reread.proofs.Words.{name_lexeme, predicate_is_name}
use Rattle.text_reread.proofs.Spellable.{fits_domain, fits_head, fits_part}
use Rattle.text_reread.proofs.ArgumentItems.{Reads, domain_read, arguments_read}

-- a condition
record ReadsCondition (text : List ℕ) (sense : Sense) (name : List ℕ) (at : ℕ) : Type 0 where
  got : ConditionText
  written : chunks_lexemes at (sense_chunks sense ++ word name ∷ []) ≡ condition_lexemes (Some got)
  means : got.sense ≡ sense
  named : word_bytes text got.target ≡ name

-- a condition is read with its sense and the name of its target
condition_read : (text : List ℕ) (sense : Sense) (name : List ℕ) (at : ℕ) → is_name name ≡ true → AllLie text at (sense_chunks sense ++ word name ∷ []) → ReadsCondition text sense name at
condition_read text Min name at h l =
    let there = place_after at (sense_chunks Min) in
    record { got = record { sense = Min; target = word_at there name }; written = ap (λ m. Optimise Min ∷ m ∷ []) (name_lexeme name there h); means = refl; named = l.1.1.1.0 }
condition_read text Max name at h l =
    let there = place_after at (sense_chunks Max) in
    record { got = record { sense = Max; target = word_at there name }; written = ap (λ m. Optimise Max ∷ m ∷ []) (name_lexeme name there h); means = refl; named = l.1.1.1.0 }

-- the head of a scope
abbrev head_chunks : Game → Kind → Option Condition → List Chunk
head_chunks g kind condition = word (kind_text kind) ∷ condition_chunks g condition ++ line_end

-- a head is read as an item that stands for it
head_read : (text : List ℕ) (g : Game) (at : ℕ) (kind : Kind) (condition : Option Condition) → fits_head g kind condition ≡ true → AllLie text at (head_chunks g kind condition)
    → Reads Item item_lexemes (StandsHead text g kind condition) at (head_chunks g kind condition)
head_read text g at Exists None h l = record { got = ExistsItem at None; written = refl; means = tt }
head_read text g at Exists (Some c) h l =
    let start = place_after at (word (codes "exists") ∷ []) in
    let r = condition_read text c.sense (target_name g c.target) start h (lie_first text start (condition_chunks g (Some c)) line_end l.1) in
    record {
      got = ExistsItem at (Some r.got);
      written = ap (λ ls. ExistsWord at ∷ ls) (then_read start (condition_chunks g (Some c)) line_end (condition_lexemes (Some r.got)) r.written);
      means = (r.means, r.named);
    }
head_read text g at Forall None h l = record { got = ForallItem at; written = refl; means = refl }
head_read text g at Forall (Some c) h l = absurd cc

-- what an aggregate joins
record ReadsFold (text : List ℕ) (fold : Fold) (name : List ℕ) (at : ℕ) : Type 0 where
  got : FoldText
  target : Word
  written : chunks_lexemes at (fold_chunks fold name) ≡ fold_lexemes got target
  means : StandsFold fold got
  named : word_bytes text target ≡ name

-- a fold is read with the name of its target
fold_read : (text : List ℕ) (fold : Fold) (name : List ℕ) (at : ℕ) → is_name name ≡ true → AllLie text at (fold_chunks fold name) → ReadsFold text fold name at
fold_read text Sum name at h l =
    let there = place_after at (word (codes "sum") ∷ sign 40 ∷ []) in
    record {
      got = SumFold;
      target = word_at there name;
      written = ap (λ m. SumWord ∷ ParenOpen ∷ m ∷ ParenClose ∷ []) (name_lexeme name there h);
      means = tt;
      named = l.1.1.0;
    }
fold_read text (Least n) name at h l =
    let there = place_after at (word (codes "least") ∷ sign 40 ∷ []) in
    let k = figure_at (place_after there (word name ∷ sign 41 ∷ blank 32 ∷ word (codes "else") ∷ blank 32 ∷ [])) n in
    record {
      got = LeastFold k;
      target = word_at there name;
      written = ap (λ m. LeastWord ∷ ParenOpen ∷ m ∷ ParenClose ∷ Else ∷ Number k ∷ []) (name_lexeme name there h);
      means = refl;
      named = l.1.1.0;
    }
fold_read text (Greatest n) name at h l =
    let there = place_after at (word (codes "greatest") ∷ sign 40 ∷ []) in
    let k = figure_at (place_after there (word name ∷ sign 41 ∷ blank 32 ∷ word (codes "else") ∷ blank 32 ∷ [])) n in
    record {
      got = GreatestFold k;
      target = word_at there name;
      written = ap (λ m. GreatestWord ∷ ParenOpen ∷ m ∷ ParenClose ∷ Else ∷ Number k ∷ []) (name_lexeme name there h);
      means = refl;
      named = l.1.1.0;
    }

-- a part's chunks are an item's, which stands for the part
pub part_read : (text : List ℕ) (g : Game) (at : ℕ) (p : Part) → fits_part g p ≡ true → AllLie text at (part_chunks g p) → Reads Item item_lexemes (Stands text g p) at (part_chunks g p)
part_read text g at (head s) h l =
    let r = head_read text g at s.kind s.condition h l in
    record { got = r.got; written = r.written; means = r.means }
part_read text g at (variable x) h l =
    let k = and_parts (is_name x.name) (fits_domain x.domain) h in
    let start = place_after at (word (codes "var") ∷ blank 32 ∷ []) in
    let cs = domain_chunks x.domain in
    let ds = sign 58 ∷ blank 32 ∷ word x.name ∷ line_end in
    let r = domain_read text start x.domain k.1 (lie_first text start cs ds l.1.1) in
    let later = lie_later text start cs ds l.1.1 in
    let there = place_after (place_after start cs) (sign 58 ∷ blank 32 ∷ []) in
    record {
      got = Variable at r.got (word_at there x.name);
      written =
          ap (λ ls. Var at ∷ ls)
          (then_read start cs ds (domain_lexemes r.got) r.written ∙ ap (λ m. domain_lexemes r.got ++ (Colon ∷ m ∷ Semicolon ∷ [])) (name_lexeme x.name there k.0));
      means = (later.1.1.0, r.means);
    }
part_read text g at (aggregate q) h l =
    let target = target_name g q.target in
    let k = and_parts (is_name q.name) (is_name target && is_fold q.fold) h in
    let t = and_parts (is_name target) (is_fold q.fold) k.1 in
    let there = place_after at (word (codes "aggregate") ∷ blank 32 ∷ []) in
    let start = place_after there (word q.name ∷ blank 32 ∷ sign 61 ∷ blank 32 ∷ []) in
    let cs = fold_chunks q.fold target in
    let r = fold_read text q.fold target start t.0 (lie_first text start cs line_end l.1.1.1.1.1.1) in
    record {
      got = AggregateItem at (word_at there q.name) r.got r.target;
      written =
          ap (λ m. AggregateWord at ∷ m ∷ Equals ∷ chunks_lexemes start (cs ++ line_end)) (name_lexeme q.name there k.0)
          ∙ ap (λ ls. AggregateWord at ∷ Name (word_at there q.name) ∷ Equals ∷ ls) (then_read start cs line_end (fold_lexemes r.got r.target) r.written);
      means = (l.1.1.0, r.means, r.named);
    }
part_read text g at (constraint c) h l =
    let there = place_after at (word (codes "constraint") ∷ blank 32 ∷ []) in
    let start = place_after there (word (pred_name c.pred) ∷ sign 40 ∷ []) in
    let cs = between (arguments_chunks g.variables (arg_kinds_of c.pred) c.args) in
    let ds = sign 41 ∷ line_end in
    let r = arguments_read text g.variables (arg_kinds_of c.pred) start c.args h (lie_first text start cs ds l.1.1.1.1) in
    record {
      got = Constraint at (word_at there (pred_name c.pred)) r.got;
      written =
          ap (λ m. ConstraintWord at ∷ m ∷ ParenOpen ∷ chunks_lexemes start (cs ++ ds)) (name_lexeme (pred_name c.pred) there (predicate_is_name c.pred))
          ∙ ap (λ ls. ConstraintWord at ∷ Name (word_at there (pred_name c.pred)) ∷ ParenOpen ∷ ls) (then_read start cs ds (between_commas argument_lexemes r.got) r.written);
      means = (l.1.1.0, r.means);
    }
part_read text g at goal h l = record { got = GoalItem; written = refl; means = tt }

-- the parts of a problem are read as items that stand for them
pub parts_read : (text : List ℕ) (g : Game) (at : ℕ) (ps : List Part) → list_all (fits_part g) ps ≡ true → AllLie text at (flat_map (part_chunks g) ps)
    → Reads (List Item) (flat_map item_lexemes) (AllStand text g ps) at (flat_map (part_chunks g) ps)
parts_read text g at [] h l = record { got = []; written = refl; means = tt }
parts_read text g at (p ∷ ps) h l =
    let k = and_parts (fits_part g p) (list_all (fits_part g) ps) h in
    let cs = part_chunks g p in
    let ds = flat_map (part_chunks g) ps in
    let first = part_read text g at p k.0 (lie_first text at cs ds l) in
    let later = parts_read text g (place_after at cs) ps k.1 (lie_later text at cs ds l) in
    record {
      got = first.got ∷ later.got;
      written = then_read at cs ds (item_lexemes first.got) first.written ∙ ap (λ ls. item_lexemes first.got ++ ls) later.written;
      means = (first.means, later.means);
    }
