-- Which values constraints may take in a closing.
use Rattle.qc_model.specs.Content.{Game}
use Rattle.dense_closing.specs.Takes.{Takes, takes_all}
use Rattle.dense_tree.specs.Free.{takes}
use Rattle.dense_quiet.specs.declared.taking.Taking.{Taking}
use Rattle.dense_quiet.specs.declared.taking.Taking.TheVariants.{All, Owners}

-- those of all their variables, or those that their owners choose
abbrev pub takes_of : Taking → Game → Takes
takes_of All g = takes_all
takes_of Owners g = takes g
