-- Each of the six kinds is lawful.
use Rattle.std.specs.Prelude.{◌≡◌, ℕ, ◌+◌, ◌^◌, ◌<◌, length, ℤ, Some, None, Option, refl}
use Rattle.std.proofs.Common.{arith}
use Rattle.kind.specs.Kinds.{ReadingFits, control, edit_value, event, flags, real_value, state, temperature, value}
use Rattle.kind.specs.Layout.{Lawful}
use Rattle.kind.specs.Words.{and_again, flags_round, value_round}

pub flags_lawful : (ident mask : ℕ) → ident < 256 → mask < 2 ^ 32 → Lawful (flags ident mask)
flags_lawful ident mask byte small = record { least = omega arith; most = omega arith; byte = byte; long = λ _. refl; round = λ bits _. flags_round mask small bits }

pub state_lawful : Lawful state
state_lawful = flags_lawful 0x01 0x1F0F18FF (omega arith) (omega arith)

pub control_lawful : Lawful control
control_lawful = flags_lawful 0x21 0x1F00FFBF (omega arith) (omega arith)

pub value_lawful : (ident : ℕ) → ident < 256 → Lawful (value ident)
value_lawful ident byte = record { least = omega arith; most = omega arith; byte = byte; long = λ _. refl; round = value_round }

pub edit_value_lawful : Lawful edit_value
edit_value_lawful = value_lawful 0x42 (omega arith)

pub real_value_lawful : Lawful real_value
real_value_lawful = value_lawful 0x43 (omega arith)

pub event_lawful : Lawful event
event_lawful = record { least = omega arith; most = omega arith; byte = omega arith; long = λ _. refl; round = λ key _. and_again key 0x0F }

reading_long : (r : Option ℤ) → length (temperature.encode r) + 4 ≡ 8
reading_long None = refl
reading_long (Some z) = refl

reading_round : (r : Option ℤ) → ReadingFits r → temperature.decode (temperature.encode r) ≡ r
reading_round None fit = refl
reading_round (Some z) fit = let h = value_round z fit in cc

pub temperature_lawful : Lawful temperature
temperature_lawful = record { least = omega arith; most = omega arith; byte = omega arith; long = reading_long; round = reading_round }
