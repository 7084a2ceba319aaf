use Rattle.std.proofs.Common.{List, sym, subst}
use Rattle.qc_tokens.specs.declared.token.Token.{Token}
use Rattle.text_grammar.specs.Grammar.{IsProblem}
use Rattle.text_grammar.specs.Lexemes.{lexemes_of}
use Rattle.text_resolve.specs.Names.{declared}
use Rattle.qc_syntax.proofs.Words.{names_are_words}
use Rattle.qc_syntax.proofs.problem.make.Goals as goal

pub resolve-requires : goal.resolve-requires
resolve-requires c =
    record {
      words = names_are_words (declared c.args.text.now c.args.items.now)
          (c.names_are_names.ensures c.args.text.now c.args.tokens.now c.args.items.now
          (record {
            problem = subst (λ (ts : List Token). IsProblem c.args.items.now (lexemes_of c.args.text.now ts)) (sym c.requires.tokens) c.requires.written.problem;
            tokens = c.requires.places;
          }));
    }
