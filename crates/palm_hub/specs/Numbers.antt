-- How a hub ends, and the exit statuses of the process.
use Rattle.std.specs.Prelude.{ℕ}
use Rattle.palm_pump.specs.declared.ending.PumpEnd.{PumpEnd}
use Rattle.palm_pump.specs.declared.ending.PumpEnd.TheVariants as ends
use Rattle.palm_hub.specs.declared.status.HubStatus.{HubStatus}
use Rattle.palm_hub.specs.declared.status.HubStatus.TheVariants.{Done, Usage, ReadFault, WriteFault, NoMemory, TooLong}

abbrev pub status_number : HubStatus → ℕ
status_number Done = 0
status_number Usage = 2
status_number ReadFault = 3
status_number WriteFault = 4
status_number NoMemory = 5
status_number TooLong = 6

-- how a hub ends where reading ends
abbrev pub status_of : PumpEnd → HubStatus
status_of ends.Done = Done
status_of ends.ReadFault = ReadFault
status_of ends.WriteFault = WriteFault
status_of ends.NoMemory = NoMemory
status_of ends.TooLong = TooLong
