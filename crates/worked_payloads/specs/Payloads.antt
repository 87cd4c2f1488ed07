-- The descriptor at the head of a payload.
use Rattle.std.specs.Prelude.{ℕ, ◌/◌, ◌%◌, List, [], ◌∷◌}

-- FrameLength and PackageID as they are given, low byte first; the other words are of switch 8 in project 0x1234
abbrev pub descriptor_of : ℕ → ℕ → List ℕ
descriptor_of length number =
    0x01 ∷ 0x86 ∷ length % 256 ∷ length / 256 ∷ 0x01 ∷ 0x02 ∷ number % 256 ∷ number / 256
    ∷ 0x34 ∷ 0x12 ∷ 0x03 ∷ 0x02 ∷ 0x08 ∷ 0x00 ∷ 0x05 ∷ 0x00 ∷ []
