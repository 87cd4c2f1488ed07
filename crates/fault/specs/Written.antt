-- How a refusal is written: its layer by name, and its number and place in decimal, with one space between.
use Rattle.std.specs.Prelude.{ℕ, List, ◌++◌, codes, decimal}
use Rattle.fault.specs.declared.Fault.{Fault}
use Rattle.fault.specs.declared.Layer.{Layer}
use Rattle.fault.specs.declared.Layer.TheVariants.{Frame, Message, Actor, Store, Call}
use Rattle.fault.specs.Table.{number_of, place_of}

abbrev pub layer_name : Layer → List ℕ
layer_name Frame = codes "frame"
layer_name Message = codes "message"
layer_name Actor = codes "actor"
layer_name Store = codes "store"
layer_name Call = codes "call"

abbrev pub fault_text : Fault → List ℕ
fault_text fault = decimal (number_of fault) ++ (codes " " ++ decimal (place_of fault))
