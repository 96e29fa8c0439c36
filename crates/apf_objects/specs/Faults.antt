-- The faults of objects: their numbers, places and keys.
use Rattle.std.specs.Prelude.{ℕ, Option, Some, None}
use Rattle.apf_objects.specs.declared.fault.Place.{Place}
use Rattle.apf_objects.specs.declared.fault.ObjectFault.{ObjectFault}
use Rattle.apf_objects.specs.declared.fault.ObjectFault.TheVariants.{NotJson, NoObjects, BadItems, TooMany, NotObject, Missing, BadValue, Repeated, TooManyLevels, NoMemory}
use Rattle.apf_objects.specs.declared.key.ObjectKey.{ObjectKey}
use Rattle.apf_objects.specs.declared.key.ObjectKey.TheVariants.{Name}

-- the fault's number
abbrev pub object_fault_number : ObjectFault → ℕ
object_fault_number NotJson = 1
object_fault_number NoObjects = 2
object_fault_number BadItems = 3
object_fault_number TooMany = 4
object_fault_number (NotObject place) = 5
object_fault_number (Missing place key) = 6
object_fault_number (BadValue place key) = 7
object_fault_number (Repeated place) = 8
object_fault_number (TooManyLevels place) = 9
object_fault_number NoMemory = 10

-- the fault's place
abbrev pub place_of : ObjectFault → Option Place
place_of NotJson = None
place_of NoObjects = None
place_of BadItems = None
place_of TooMany = None
place_of (NotObject place) = Some place
place_of (Missing place key) = Some place
place_of (BadValue place key) = Some place
place_of (Repeated place) = Some place
place_of (TooManyLevels place) = Some place
place_of NoMemory = None

-- the fault's key
abbrev pub key_of : ObjectFault → Option ObjectKey
key_of NotJson = None
key_of NoObjects = None
key_of BadItems = None
key_of TooMany = None
key_of (NotObject place) = None
key_of (Missing place key) = Some key
key_of (BadValue place key) = Some key
key_of (Repeated place) = Some Name
key_of (TooManyLevels place) = None
key_of NoMemory = None
