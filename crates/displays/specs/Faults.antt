-- Faults of words as faults of displays.
use Rattle.displays.specs.declared.fault.DisplayFault.{DisplayFault}
use Rattle.displays.specs.declared.fault.DisplayFault.TheVariants as display
use Rattle.reading.specs.declared.fault.Fault.{Fault}
use Rattle.reading.specs.declared.fault.Fault.TheVariants.{Syntax, Limit}

abbrev pub fault_of : Fault → DisplayFault
fault_of (Syntax k) = display.Syntax k
fault_of Limit = display.Limit
