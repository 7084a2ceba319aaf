-- The pieces of a lemma that is shown, from its literals, its sums and its steps on.
use Rattle.std.specs.Prelude.{List, ◌++◌, map}
use Rattle.lemma_list.specs.declared.lemma.SumLiteral.{SumLiteral}
use Rattle.lemma_list.specs.declared.lemma.Step.{Step}
use Rattle.lemma_list.specs.declared.lemma.Ending.{Ending}
use Rattle.lemma_list.specs.Lemmas.{Lemma, Entry, shown}
use Rattle.lemma_text.specs.declared.item.Item.{Item}
use Rattle.lemma_text.specs.declared.item.Item.TheVariants.{Sum as SumItem, Step as StepItem}
use Rattle.lemma_text.specs.Items.{literal_items, ending_items}

abbrev pub shown_of : Lemma → List Step → Ending → Entry
shown_of m steps end = shown (record { lemma = m; steps = steps; ending = end })

abbrev pub steps_items : List Step → Ending → List Item
steps_items steps end = map StepItem steps ++ ending_items end

abbrev pub sums_items : List SumLiteral → List Step → Ending → List Item
sums_items sums steps end = map SumItem sums ++ steps_items steps end

abbrev pub body_items : Lemma → List Step → Ending → List Item
body_items m steps end = literal_items m.literals ++ sums_items m.sums steps end
