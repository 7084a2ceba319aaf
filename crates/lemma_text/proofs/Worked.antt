-- Two lists with their texts, and texts that aren't any.
use Rattle.std.proofs.Common.{◌≡◌, List, [], ◌∷◌, refl}
use Rattle.std.specs.Prelude.{pos, codes}
use Rattle.qc_model.specs.declared.problem.Kind.TheVariants.{Exists, Forall}
use Rattle.lemma_list.specs.declared.lemma.Ending.TheVariants.{Goal}
use Rattle.lemma_list.specs.Lemmas.{Entry}
use Rattle.lemma_list.proofs.Build.{is, constraint, lemma, cut, choose, lost, loses}
use Rattle.lemma_text.specs.declared.parts.Due.TheVariants.{Entries}
use Rattle.lemma_text.specs.Items.{list_items}
use Rattle.lemma_text.specs.States.{due}
use Rattle.lemma_text.specs.Standing.{going, no_text, standing}

-- the player takes 0 for x, so y can't be 1, and the goal holds
abbrev won : List Entry
won = loses Forall [] (choose 0 (pos 0) ∷ cut 1 (pos 1) (pos 1) (constraint 0) ∷ []) Goal ∷ []

won_read : standing (codes "qcert 3\ntrue\nw\nc 1 0\np 2 1 1 1\ng\n") ≡ going (list_items Forall won) (due Entries)
won_read = refl

-- where x is 1 or 2 the opponent takes 0 for y, and else 2
abbrev not_won : List Entry
not_won =
    loses Exists (is 0 (pos 1) (pos 2) ∷ []) (choose 1 (pos 0) ∷ []) (lost (constraint 0))
    ∷ loses Exists [] (choose 1 (pos 2) ∷ cut 0 (pos 1) (pos 2) (lemma 0) ∷ []) (lost (constraint 0)) ∷ []

not_won_read : standing (codes "qcert 3\nfalse\nl 1 1 2\nc 2 0\nf 1\nl\nc 2 2\nq 1 1 2 1\nf 1\n") ≡ going (list_items Exists not_won) (due Entries)
not_won_read = refl

-- numbers have no needless zero, variables end at 500, a sum stands before the steps, and a literal is whole
leading_zero : standing (codes "qcert 3\ntrue\nw\nc 01") ≡ no_text
leading_zero = refl

too_great : standing (codes "qcert 3\ntrue\nw\nc 501") ≡ no_text
too_great = refl

late_sum : standing (codes "qcert 3\ntrue\nw\nc 1 0\nu") ≡ no_text
late_sum = refl

half_literal : standing (codes "qcert 3\ntrue\nw 1 0\n") ≡ no_text
half_literal = refl

second_version : standing (codes "qcert 2") ≡ no_text
second_version = refl
