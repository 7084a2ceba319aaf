use Rattle.std.proofs.Common.{length}
use Rattle.paged_stack.proofs.pages.Pages.free.Given as goal

abbrev pub decreases-loop-pages : goal.decreases-loop-pages
decreases-loop-pages g l = length l.pages
