-- What the words of a call stand for, as they are told.
use Rattle.std.specs.Prelude.{ℕ, List, codes}
use Rattle.script.specs.declared.place.Place.{Place}
use Rattle.script.specs.declared.place.Place.TheVariants.{Version, Project, Firmware, Design, Switch, Actor, Value, ControlWord, Room, PackageNumber}

-- the name of a place, and the numbers that fit it
abbrev pub place_text : Place → List ℕ
place_text Version = codes "version, 0 to 65535"
place_text Project = codes "project, 0 to 65535"
place_text Firmware = codes "firmware, 0 to 65535"
place_text Design = codes "design, 0 to 65535"
place_text Switch = codes "switch, 0 to 65535"
place_text Actor = codes "actor, 0 to 65535"
place_text Value = codes "value, -32768 to 32767"
place_text ControlWord = codes "control word, 0 to 4294967295"
place_text Room = codes "room, 0 to 1472"
place_text PackageNumber = codes "package number, 0 to 65535"
