-- What is shown of a packet and of its messages.
use Rattle.std.specs.Prelude.{ℕ, ◌-◌, ◌%◌, cond, List, [], ◌∷◌, ◌++◌, length, replicate, Some, None, codes, decimal, Option}
use Rattle.std.specs.Fmt.{signed_decimal}
use Rattle.std.specs.Int.{to_be_bytes, w16, w32}
use Rattle.kind.specs.Kinds.{asks_init}
use Rattle.packet.specs.declared.message.Message.{Message}
use Rattle.packet.specs.declared.message.Message.TheVariants.{Known, Unknown}
use Rattle.packet.specs.declared.message.Record.{Record}
use Rattle.packet.specs.declared.message.Record.TheVariants.{State, Control, EditValue, RealValue, Event, Temperature}
use Rattle.packet.specs.declared.descriptor.Descriptor.{Descriptor}
use Rattle.packet.specs.Sorts.{sort_of, sort_text}
use Rattle.packet.specs.Words.{major}
use Rattle.hexadecimal.specs.Encoding.{digits_of}
use Rattle.hexadecimal.specs.Lines.{line_feed}
use Rattle.umpdump.specs.declared.heading.Heading.{Heading}
use Rattle.umpdump.specs.declared.row.Row.{Row}
use Rattle.umpdump.specs.Degrees.{degrees_of, degrees_text}

-- a text at the right end of a column of that width, and at its left end, with spaces to fill it
abbrev pub at_right : ℕ → List ℕ → List ℕ
at_right width text = replicate (width - length text) 32 ++ text

abbrev pub at_left : ℕ → List ℕ → List ℕ
at_left width text = text ++ replicate (width - length text) 32

-- words of two and of four bytes in hexadecimal digits, the high byte first
abbrev pub word_text : ℕ → List ℕ
word_text word = digits_of (to_be_bytes w16 word)

abbrev pub flags_text : ℕ → List ℕ
flags_text flags = digits_of (to_be_bytes w32 flags)

abbrev pub name_of : Record → List ℕ
name_of (State flags) = codes "State"
name_of (Control flags) = codes "Control"
name_of (EditValue actor target) = codes "EditValue"
name_of (RealValue actor actual) = codes "RealValue"
name_of (Event actor key) = codes "Event"
name_of (Temperature reading) = codes "Temperature"

-- the actor, of the three kinds that name one
abbrev pub actor_of : Record → Option ℕ
actor_of (State flags) = None
actor_of (Control flags) = None
actor_of (EditValue actor target) = Some actor
actor_of (RealValue actor actual) = Some actor
actor_of (Event actor key) = Some actor
actor_of (Temperature reading) = None

abbrev pub actor_text : Option ℕ → List ℕ
actor_text None = codes "no actor   "
actor_text (Some actor) = codes "actor " ++ at_left 5 (decimal actor)

-- what a message says, in its kind's own terms
abbrev pub value_text : Record → List ℕ
value_text (State flags) = codes "flags " ++ (flags_text flags ++ cond (asks_init flags) (codes "  InitRequest") [])
value_text (Control flags) = codes "flags " ++ flags_text flags
value_text (EditValue actor target) = codes "target " ++ signed_decimal target
value_text (RealValue actor actual) = codes "actual " ++ signed_decimal actual
value_text (Event actor key) = codes "key " ++ decimal key
value_text (Temperature None) = codes "no reading"
value_text (Temperature (Some tenths)) = degrees_text (degrees_of tenths) ++ codes " degrees"

-- a message behind its offset: its kind, its actor and what it says, or its number where its kind is not known
abbrev pub message_text : Message → List ℕ
message_text (Unknown id) = codes "passed over (ID 0x" ++ (digits_of (id ∷ []) ++ codes ")")
message_text (Known m) = at_left 11 (name_of m) ++ (codes "  " ++ (actor_text (actor_of m) ++ (codes "  " ++ value_text m)))

abbrev pub row_text : Row → List ℕ
row_text row = codes "  " ++ (at_right 4 (decimal row.offset) ++ (codes "  " ++ message_text row.message))

-- the major version in decimal, a point, and the minor version in two hexadecimal digits
abbrev pub version_text : ℕ → List ℕ
version_text version = decimal (major version) ++ (codes "." ++ digits_of (version % 256 ∷ []))

-- the words of a descriptor that do not say who is concerned
abbrev pub words_text : Descriptor → List ℕ
words_text d =
    codes "version " ++ (version_text d.version ++ (codes "  project 0x" ++ (word_text d.project ++ (codes "  firmware 0x" ++ (word_text d.firmware ++ (codes "  design " ++ (decimal d.design ++ (codes "  package " ++ decimal d.number))))))))

-- the two lines above the messages: the line of the capture and who is concerned, then the other words
abbrev pub heading_text : Heading → List ℕ
heading_text h =
    codes "line " ++ (decimal h.line ++ (codes ": " ++ (decimal h.length ++ (codes " bytes, " ++ (sort_text (sort_of h.words.number) ++ (codes " from switch " ++ (decimal h.words.switch ++ (line_feed ∷ codes "  " ++ words_text h.words))))))))
