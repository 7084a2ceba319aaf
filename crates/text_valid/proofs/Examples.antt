-- The laws have texts: one with each sort of item is written in its tokens, and meets no refusal.
use Rattle.std.proofs.Common.{◌≡◌, refl, ℕ, List, [], ◌∷◌, Some, None, arith, codes}
use Rattle.std.specs.Prelude.{pos}
use Rattle.std.specs.List.{AllByRecursion}
use Rattle.qc_model.specs.declared.problem.Sense.TheVariants.{Min}
use Rattle.qc_model.specs.Valid.{IsValid}
use Rattle.qc_tokens.specs.declared.token.Token.{Token}
use Rattle.qc_tokens.specs.declared.token.Sort.TheVariants.{Word as WordSort, Number as NumberSort, Sign as SignSort}
use Rattle.qc_tokens.specs.Tokens.{IsTokenOf}
use Rattle.text_grammar.specs.Lexemes.{lexemes_of}
use Rattle.text_grammar.specs.Grammar.{IsProblem}
use Rattle.text_grammar.specs.declared.tree.One.TheVariants.{Name as OneName}
use Rattle.text_grammar.specs.declared.tree.Members.TheVariants.{Range, Braces}
use Rattle.text_grammar.specs.declared.tree.DomainText.TheVariants.{Members as MembersDomain}
use Rattle.text_grammar.specs.declared.tree.ArgumentText.TheVariants.{One as OneArgument, Members as MembersArgument}
use Rattle.text_grammar.specs.declared.tree.FoldText.TheVariants.{Sum as SumFold}
use Rattle.text_grammar.specs.declared.tree.Item.{Item}
use Rattle.text_grammar.specs.declared.tree.Item.TheVariants.{Exists as ExistsItem, Forall as ForallItem, Goal as GoalItem, Variable, Aggregate as AggregateItem, Constraint as ConstraintItem}
use Rattle.text_resolve.specs.Fits.{predicate_of}
use Rattle.text_resolve.specs.Draft.{game_of}
use Rattle.text_resolve.specs.TextRefusals.{first_refusal}
use Rattle.text_valid.specs.Laws.{IsWritten}
use Rattle.text_valid.proofs.Each.{all_from}
use Rattle.text_valid.proofs.Validity.{valid}

abbrev text : List ℕ
text = codes "exists minimize c; var {3,1}: x; forall; var 0..2: y; aggregate c = sum(y); constraint int_le(x,y); goal; constraint set_in(y,0..1); solve;"

abbrev tokens : List Token
tokens =
    record { start = 0; end = 6; sort = WordSort } ∷
    record { start = 7; end = 15; sort = WordSort } ∷
    record { start = 16; end = 17; sort = WordSort } ∷
    record { start = 17; end = 18; sort = SignSort 59 } ∷
    record { start = 19; end = 22; sort = WordSort } ∷
    record { start = 23; end = 24; sort = SignSort 123 } ∷
    record { start = 24; end = 25; sort = NumberSort (pos 3) } ∷
    record { start = 25; end = 26; sort = SignSort 44 } ∷
    record { start = 26; end = 27; sort = NumberSort (pos 1) } ∷
    record { start = 27; end = 28; sort = SignSort 125 } ∷
    record { start = 28; end = 29; sort = SignSort 58 } ∷
    record { start = 30; end = 31; sort = WordSort } ∷
    record { start = 31; end = 32; sort = SignSort 59 } ∷
    record { start = 33; end = 39; sort = WordSort } ∷
    record { start = 39; end = 40; sort = SignSort 59 } ∷
    record { start = 41; end = 44; sort = WordSort } ∷
    record { start = 45; end = 46; sort = NumberSort (pos 0) } ∷
    record { start = 46; end = 48; sort = SignSort 46 } ∷
    record { start = 48; end = 49; sort = NumberSort (pos 2) } ∷
    record { start = 49; end = 50; sort = SignSort 58 } ∷
    record { start = 51; end = 52; sort = WordSort } ∷
    record { start = 52; end = 53; sort = SignSort 59 } ∷
    record { start = 54; end = 63; sort = WordSort } ∷
    record { start = 64; end = 65; sort = WordSort } ∷
    record { start = 66; end = 67; sort = SignSort 61 } ∷
    record { start = 68; end = 71; sort = WordSort } ∷
    record { start = 71; end = 72; sort = SignSort 40 } ∷
    record { start = 72; end = 73; sort = WordSort } ∷
    record { start = 73; end = 74; sort = SignSort 41 } ∷
    record { start = 74; end = 75; sort = SignSort 59 } ∷
    record { start = 76; end = 86; sort = WordSort } ∷
    record { start = 87; end = 93; sort = WordSort } ∷
    record { start = 93; end = 94; sort = SignSort 40 } ∷
    record { start = 94; end = 95; sort = WordSort } ∷
    record { start = 95; end = 96; sort = SignSort 44 } ∷
    record { start = 96; end = 97; sort = WordSort } ∷
    record { start = 97; end = 98; sort = SignSort 41 } ∷
    record { start = 98; end = 99; sort = SignSort 59 } ∷
    record { start = 100; end = 104; sort = WordSort } ∷
    record { start = 104; end = 105; sort = SignSort 59 } ∷
    record { start = 106; end = 116; sort = WordSort } ∷
    record { start = 117; end = 123; sort = WordSort } ∷
    record { start = 123; end = 124; sort = SignSort 40 } ∷
    record { start = 124; end = 125; sort = WordSort } ∷
    record { start = 125; end = 126; sort = SignSort 44 } ∷
    record { start = 126; end = 127; sort = NumberSort (pos 0) } ∷
    record { start = 127; end = 129; sort = SignSort 46 } ∷
    record { start = 129; end = 130; sort = NumberSort (pos 1) } ∷
    record { start = 130; end = 131; sort = SignSort 41 } ∷
    record { start = 131; end = 132; sort = SignSort 59 } ∷
    record { start = 133; end = 138; sort = WordSort } ∷
    record { start = 138; end = 139; sort = SignSort 59 } ∷
    []

abbrev items : List Item
items =
    ExistsItem 0 (Some (record { sense = Min; target = record { start = 16; end = 17 } })) ∷
    Variable 19 (MembersDomain (Braces 23 (record { at = 24; value = pos 3 } ∷ record { at = 26; value = pos 1 } ∷ []))) (record { start = 30; end = 31 }) ∷
    ForallItem 33 ∷
    Variable 41 (MembersDomain (Range (record { at = 45; value = pos 0 }) (record { at = 48; value = pos 2 }))) (record { start = 51; end = 52 }) ∷
    AggregateItem 54 (record { start = 64; end = 65 }) SumFold (record { start = 72; end = 73 }) ∷
    ConstraintItem 76 (record { start = 87; end = 93 }) (OneArgument (OneName (record { start = 94; end = 95 })) ∷ OneArgument (OneName (record { start = 96; end = 97 })) ∷ []) ∷
    GoalItem ∷
    ConstraintItem 106 (record { start = 117; end = 123 }) (OneArgument (OneName (record { start = 124; end = 125 })) ∷ MembersArgument (Range (record { at = 126; value = pos 0 }) (record { at = 129; value = pos 1 })) ∷ []) ∷
    []

problem : IsProblem items (lexemes_of text tokens)
problem = record { arranged = refl; written = refl }

are_tokens : AllByRecursion (IsTokenOf text) tokens
are_tokens = (
  record { some = omega arith; within = omega arith; is_word = λ e. refl },
  (
    record { some = omega arith; within = omega arith; is_word = λ e. refl },
    (
      record { some = omega arith; within = omega arith; is_word = λ e. refl },
      (
        record { some = omega arith; within = omega arith; is_word = λ e. absurd cc },
        (
          record { some = omega arith; within = omega arith; is_word = λ e. refl },
          (
            record { some = omega arith; within = omega arith; is_word = λ e. absurd cc },
            (
              record { some = omega arith; within = omega arith; is_word = λ e. absurd cc },
              (
                record { some = omega arith; within = omega arith; is_word = λ e. absurd cc },
                (
                  record { some = omega arith; within = omega arith; is_word = λ e. absurd cc },
                  (
                    record { some = omega arith; within = omega arith; is_word = λ e. absurd cc },
                    (
                      record { some = omega arith; within = omega arith; is_word = λ e. absurd cc },
                      (
                        record { some = omega arith; within = omega arith; is_word = λ e. refl },
                        (
                          record { some = omega arith; within = omega arith; is_word = λ e. absurd cc },
                          (
                            record { some = omega arith; within = omega arith; is_word = λ e. refl },
                            (
                              record { some = omega arith; within = omega arith; is_word = λ e. absurd cc },
                              (
                                record { some = omega arith; within = omega arith; is_word = λ e. refl },
                                (
                                  record { some = omega arith; within = omega arith; is_word = λ e. absurd cc },
                                  (
                                    record { some = omega arith; within = omega arith; is_word = λ e. absurd cc },
                                    (
                                      record { some = omega arith; within = omega arith; is_word = λ e. absurd cc },
                                      (
                                        record { some = omega arith; within = omega arith; is_word = λ e. absurd cc },
                                        (
                                          record { some = omega arith; within = omega arith; is_word = λ e. refl },
                                          (
                                            record { some = omega arith; within = omega arith; is_word = λ e. absurd cc },
                                            (
                                              record { some = omega arith; within = omega arith; is_word = λ e. refl },
                                              (
                                                record { some = omega arith; within = omega arith; is_word = λ e. refl },
                                                (
                                                  record { some = omega arith; within = omega arith; is_word = λ e. absurd cc },
                                                  (
                                                    record { some = omega arith; within = omega arith; is_word = λ e. refl },
                                                    (
                                                      record { some = omega arith; within = omega arith; is_word = λ e. absurd cc },
                                                      (
                                                        record { some = omega arith; within = omega arith; is_word = λ e. refl },
                                                        (
                                                          record { some = omega arith; within = omega arith; is_word = λ e. absurd cc },
                                                          (
                                                            record { some = omega arith; within = omega arith; is_word = λ e. absurd cc },
                                                            (
                                                              record { some = omega arith; within = omega arith; is_word = λ e. refl },
                                                              (
                                                                record { some = omega arith; within = omega arith; is_word = λ e. refl },
                                                                (
                                                                  record { some = omega arith; within = omega arith; is_word = λ e. absurd cc },
                                                                  (
                                                                    record { some = omega arith; within = omega arith; is_word = λ e. refl },
                                                                    (
                                                                      record { some = omega arith; within = omega arith; is_word = λ e. absurd cc },
                                                                      (
                                                                        record { some = omega arith; within = omega arith; is_word = λ e. refl },
                                                                        (
                                                                          record { some = omega arith; within = omega arith; is_word = λ e. absurd cc },
                                                                          (
                                                                            record { some = omega arith; within = omega arith; is_word = λ e. absurd cc },
                                                                            (
                                                                              record { some = omega arith; within = omega arith; is_word = λ e. refl },
                                                                              (
                                                                                record { some = omega arith; within = omega arith; is_word = λ e. absurd cc },
                                                                                (
                                                                                  record { some = omega arith; within = omega arith; is_word = λ e. refl },
                                                                                  (
                                                                                    record { some = omega arith; within = omega arith; is_word = λ e. refl },
                                                                                    (
                                                                                      record { some = omega arith; within = omega arith; is_word = λ e. absurd cc },
                                                                                      (
                                                                                        record { some = omega arith; within = omega arith; is_word = λ e. refl },
                                                                                        (
                                                                                          record { some = omega arith; within = omega arith; is_word = λ e. absurd cc },
                                                                                          (
                                                                                            record { some = omega arith; within = omega arith; is_word = λ e. absurd cc },
                                                                                            (
                                                                                              record { some = omega arith; within = omega arith; is_word = λ e. absurd cc },
                                                                                              (
                                                                                                record { some = omega arith; within = omega arith; is_word = λ e. absurd cc },
                                                                                                (
                                                                                                  record { some = omega arith; within = omega arith; is_word = λ e. absurd cc },
                                                                                                  (
                                                                                                    record { some = omega arith; within = omega arith; is_word = λ e. absurd cc },
                                                                                                    (
                                                                                                      record { some = omega arith; within = omega arith; is_word = λ e. refl },
                                                                                                      (
                                                                                                        record { some = omega arith; within = omega arith; is_word = λ e. absurd cc },
                                                                                                        tt,
                                                                                                      ),
                                                                                                    ),
                                                                                                  ),
                                                                                                ),
                                                                                              ),
                                                                                            ),
                                                                                          ),
                                                                                        ),
                                                                                      ),
                                                                                    ),
                                                                                  ),
                                                                                ),
                                                                              ),
                                                                            ),
                                                                          ),
                                                                        ),
                                                                      ),
                                                                    ),
                                                                  ),
                                                                ),
                                                              ),
                                                            ),
                                                          ),
                                                        ),
                                                      ),
                                                    ),
                                                  ),
                                                ),
                                              ),
                                            ),
                                          ),
                                        ),
                                      ),
                                    ),
                                  ),
                                ),
                              ),
                            ),
                          ),
                        ),
                      ),
                    ),
                  ),
                ),
              ),
            ),
          ),
        ),
      ),
    ),
  ),
)

written : IsWritten text tokens items
written = record { problem = problem; tokens = all_from (λ t. IsTokenOf text t) tokens are_tokens }

no_fault : first_refusal text tokens items ≡ None
unfolding predicate_of
no_fault = refl

is_valid : IsValid (game_of text items)
is_valid = valid text tokens items written no_fault
