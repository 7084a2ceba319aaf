use Rattle.std.proofs.Common.{length}
use Rattle.qc_print.proofs.arguments.+put_other_arguments.Given as goal

abbrev pub decreases-put_other_arguments : goal.decreases-put_other_arguments
decreases-put_other_arguments l = length l.sorts.now
