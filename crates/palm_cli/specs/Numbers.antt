-- How a command ends, and the exit statuses of the process.
use Rattle.std.specs.Prelude.{ℕ}
use Rattle.palm_pump.specs.declared.ending.PumpEnd.{PumpEnd}
use Rattle.palm_pump.specs.declared.ending.PumpEnd.TheVariants as ends
use Rattle.palm_cli.specs.declared.status.Status.{Status}
use Rattle.palm_cli.specs.declared.status.Status.TheVariants.{Done, Refused, Usage, ReadFault, WriteFault, NoMemory, TooLong}

abbrev pub status_number : Status → ℕ
status_number Done = 0
status_number Refused = 1
status_number Usage = 2
status_number ReadFault = 3
status_number WriteFault = 4
status_number NoMemory = 5
status_number TooLong = 6

-- how a command ends where reading ends
abbrev pub status_at : PumpEnd → Status
status_at ends.Done = Done
status_at ends.ReadFault = ReadFault
status_at ends.WriteFault = WriteFault
status_at ends.NoMemory = NoMemory
status_at ends.TooLong = TooLong
