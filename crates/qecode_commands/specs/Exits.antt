-- The numbers of the statuses.
use Rattle.std.specs.Prelude.{ℕ}
use Rattle.qecode_commands.specs.declared.status.Status.{Status}
use Rattle.qecode_commands.specs.declared.status.Status.TheVariants.{Done, NotProved, Open, Usage, BadProblem, BadCertificate, TooLong, ReadFault, WriteFault, Memory, BadMoves, BadQdimacs, NoReading}

-- the exit status of a program that ends so
abbrev pub exit_number : Status → ℕ
exit_number Done = 0
exit_number NotProved = 1
exit_number Open = 2
exit_number Usage = 3
exit_number BadProblem = 4
exit_number BadCertificate = 5
exit_number TooLong = 6
exit_number ReadFault = 7
exit_number WriteFault = 8
exit_number Memory = 9
exit_number BadMoves = 10
exit_number BadQdimacs = 11
exit_number NoReading = 12
