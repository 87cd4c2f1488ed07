-- The six kinds.
use Rattle.std.specs.Prelude.{ℕ, ◌+◌, ◌*◌, ◌/◌, ◌%◌, Bool, cond, not, List, [], ◌∷◌, ℤ, Some, None, Option, FitsSigned, ◌==◌, bit_and, slice_index}
use Rattle.std.proofs.Common.{to_z, of_z}
use Rattle.std.specs.Int.{w16}
use Rattle.kind.specs.Layout.{Layout, word, word_bytes}

-- the ActorID rule: 0, for what concerns the switch as a whole, or an actor
abbrev pub no_actor : ℕ → Bool
no_actor actor = actor == 0

abbrev pub some_actor : ℕ → Bool
some_actor actor = not (actor == 0)

-- 32 bits in four bytes, the lowest first
abbrev pub long_bytes : ℕ → List ℕ
long_bytes n = n % 256 ∷ n / 256 % 256 ∷ n / 65536 % 256 ∷ n / 16777216 % 256 ∷ []

abbrev pub long : List ℕ → ℕ
long s = slice_index s 0 + slice_index s 1 * 256 + slice_index s 2 * 65536 + slice_index s 3 * 16777216

-- 32 bits under a mask
abbrev pub flags : ℕ → ℕ → Layout ℕ
flags ident mask = record {
  ident = ident;
  size = 8;
  admits = no_actor;
  encode = λ bits. long_bytes (bit_and bits mask);
  decode = λ s. bit_and (long s) mask;
  masked = λ bits. bit_and bits mask;
  Fits = λ bits. Unit {0};
}

abbrev pub state : Layout ℕ
state = flags 0x01 0x1F0F18FF

-- bit 6 of State, InitRequest: the switch asks for everything
abbrev pub asks_init : ℕ → Bool
asks_init flags = flags / 64 % 2 == 1

abbrev pub control : Layout ℕ
control = flags 0x21 0x1F00FFBF

-- a signed word: a target or an actual value
abbrev pub value : ℕ → Layout ℤ
value ident = record {
  ident = ident;
  size = 6;
  admits = some_actor;
  encode = λ z. word_bytes (of_z w16 z);
  decode = λ s. to_z w16 (word s 0);
  masked = λ z. z;
  Fits = λ z. FitsSigned w16 z;
}

abbrev pub edit_value : Layout ℤ
edit_value = value 0x42

abbrev pub real_value : Layout ℤ
real_value = value 0x43

-- a key, four bits, and a reserved byte
abbrev pub event : Layout ℕ
event = record {
  ident = 0x51;
  size = 6;
  admits = some_actor;
  encode = λ key. bit_and key 0x0F ∷ 0 ∷ [];
  decode = λ s. bit_and (slice_index s 0) 0x0F;
  masked = λ key. bit_and key 0x0F;
  Fits = λ key. Unit {0};
}

-- a reading in tenths of a degree, the Valid byte and a reserved byte
abbrev pub reading_bytes : Option ℤ → List ℕ
reading_bytes None = 0 ∷ 0 ∷ 0 ∷ 0 ∷ []
reading_bytes (Some z) = of_z w16 z % 256 ∷ of_z w16 z / 256 % 256 ∷ 1 ∷ 0 ∷ []

abbrev pub ReadingFits : Option ℤ → Type 0
ReadingFits None = Unit {0}
ReadingFits (Some z) = FitsSigned w16 z

abbrev pub temperature : Layout (Option ℤ)
temperature = record {
  ident = 0x71;
  size = 8;
  admits = no_actor;
  encode = reading_bytes;
  decode = λ s. cond (slice_index s 2 == 1) (Some (to_z w16 (word s 0))) None;
  masked = λ reading. reading;
  Fits = ReadingFits;
}
