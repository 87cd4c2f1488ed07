-- The table of refusals: each fault's number, layer and place.
use Rattle.std.specs.Prelude.{ℕ, ◌≡◌}
use Rattle.fault.specs.declared.FrameFault.{FrameFault}
use Rattle.fault.specs.declared.FrameFault.TheVariants as frame
use Rattle.fault.specs.declared.MessageFault.{MessageFault}
use Rattle.fault.specs.declared.MessageFault.TheVariants as message
use Rattle.fault.specs.declared.ActorFault.{ActorFault}
use Rattle.fault.specs.declared.ActorFault.TheVariants as actor
use Rattle.fault.specs.declared.StoreFault.{StoreFault}
use Rattle.fault.specs.declared.StoreFault.TheVariants as store
use Rattle.fault.specs.declared.CallFault.{CallFault}
use Rattle.fault.specs.declared.CallFault.TheVariants as call
use Rattle.fault.specs.declared.Fault.{Fault}
use Rattle.fault.specs.declared.Fault.TheVariants.{Frame, Message, Actor, Store, Call}
use Rattle.fault.specs.declared.Layer.{Layer}
use Rattle.fault.specs.declared.Layer.TheVariants as layer

abbrev frame_number : FrameFault → ℕ
frame_number frame.Length = 1
frame_number frame.FrameId = 2
frame_number frame.FrameLength = 3
frame_number frame.MajorVersion = 4
frame_number frame.Project = 5
frame_number frame.Switch = 6

abbrev message_number : MessageFault → ℕ
message_number message.Broken = 7
message_number message.KindLength = 8
message_number message.ActorRule = 9

abbrev actor_number : ActorFault → ℕ
actor_number actor.NotListed = 10

abbrev store_number : StoreFault → ℕ
store_number store.UnknownActor = 11
store_number store.ForbiddenValue = 12
store_number store.ListLength = 16
store_number store.ListEntry = 17
store_number store.Image = 21

abbrev call_number : CallFault → ℕ
call_number call.ControlWord = 13
call_number call.SwitchTaken = 14
call_number call.HubFull = 15
call_number call.SlipOpen = 18
call_number call.NothingOutstanding = 19
call_number call.ShortBuffer = 20
call_number call.NoSlip = 22
call_number call.HexLine = 23

abbrev pub number_of : Fault → ℕ
number_of (Frame fault place) = frame_number fault
number_of (Message fault place) = message_number fault
number_of (Actor fault place) = actor_number fault
number_of (Store fault place) = store_number fault
number_of (Call fault place) = call_number fault

abbrev pub layer_of : Fault → Layer
layer_of (Frame fault place) = layer.Frame
layer_of (Message fault place) = layer.Message
layer_of (Actor fault place) = layer.Actor
layer_of (Store fault place) = layer.Store
layer_of (Call fault place) = layer.Call

abbrev pub place_of : Fault → ℕ
place_of (Frame fault place) = place
place_of (Message fault place) = place
place_of (Actor fault place) = place
place_of (Store fault place) = place
place_of (Call fault place) = place

-- A number and a place tell the whole refusal: no two faults share both.
abbrev pub Telling : Type 0
Telling = (f g : Fault) → number_of f ≡ number_of g → place_of f ≡ place_of g → f ≡ g
