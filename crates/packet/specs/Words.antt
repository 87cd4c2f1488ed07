-- The descriptor of a payload: eight little-endian words at their byte offsets.
use Rattle.std.specs.Prelude.{ℕ, ◌/◌, cond, not, ◌||◌, List, length, Ok, Err, Result, ◌==◌, nat_lt}
use Rattle.fault.specs.declared.FrameFault.TheVariants as frame
use Rattle.fault.specs.declared.Fault.{Fault}
use Rattle.fault.specs.declared.Fault.TheVariants.{Frame}
use Rattle.kind.specs.Layout.{word}
use Rattle.packet.specs.declared.descriptor.Descriptor.{Descriptor}

-- the high byte of a FrameVersion
abbrev pub major : ℕ → ℕ
major version = version / 256

abbrev pub words_of : List ℕ → Descriptor
words_of s = record {
  version = word s 4;
  number = word s 6;
  project = word s 8;
  firmware = word s 10;
  switch = word s 12;
  design = word s 14;
}

-- The descriptor, or the first check that fails: length, FrameID, FrameLength, major version.
abbrev pub descriptor_of : List ℕ → Result Descriptor Fault
descriptor_of s =
    cond (nat_lt (length s) 16 || nat_lt 1472 (length s)) (Err (Frame frame.Length 0))
    (cond (not (word s 0 == 0x8601)) (Err (Frame frame.FrameId 0))
    (cond (not (word s 2 == length s)) (Err (Frame frame.FrameLength 2))
    (cond (not (major (word s 4) == 2)) (Err (Frame frame.MajorVersion 4))
    (Ok (words_of s)))))
