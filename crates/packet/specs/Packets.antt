-- The bytes of a packet: a descriptor, then records without gaps.
use Rattle.std.specs.Prelude.{ℕ, ◌+◌, List, ◌++◌, length}
use Rattle.std.specs.List.{flat_map}
use Rattle.kind.specs.Kinds.{control, edit_value, event, real_value, state, temperature}
use Rattle.kind.specs.Layout.{message_of, word_bytes}
use Rattle.packet.specs.declared.message.Record.{Record}
use Rattle.packet.specs.declared.message.Record.TheVariants.{State, Control, EditValue, RealValue, Event, Temperature}
use Rattle.packet.specs.declared.descriptor.Descriptor.{Descriptor}

-- the message of a record, by its kind
abbrev pub record_bytes : Record → List ℕ
record_bytes (State bits) = message_of state 0 bits
record_bytes (Control bits) = message_of control 0 bits
record_bytes (EditValue actor target) = message_of edit_value actor target
record_bytes (RealValue actor actual) = message_of real_value actor actual
record_bytes (Event actor key) = message_of event actor key
record_bytes (Temperature reading) = message_of temperature 0 reading

-- the sixteen bytes of a descriptor with this FrameLength
abbrev pub head_bytes : Descriptor → ℕ → List ℕ
head_bytes w size =
    word_bytes 0x8601 ++ (word_bytes size ++ (word_bytes w.version ++ (word_bytes w.number
    ++ (word_bytes w.project ++ (word_bytes w.firmware ++ (word_bytes w.switch ++ word_bytes w.design))))))

-- The packet with these words and these records; FrameLength counts all of its bytes.
abbrev pub packet_bytes : Descriptor → List Record → List ℕ
packet_bytes w rs = head_bytes w (16 + length (flat_map record_bytes rs)) ++ flat_map record_bytes rs
