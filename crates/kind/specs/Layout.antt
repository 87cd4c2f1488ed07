-- What a kind of message means, and how one message of it is read and written.
use Rattle.std.specs.Prelude.{◌≡◌, ℕ, ◌+◌, ◌-◌, ◌*◌, ◌/◌, ◌%◌, ◌<◌, ◌≤◌, Bool, cond, not, ◌||◌, List, [], ◌∷◌, ◌++◌, length, take, drop, Some, None, Ok, Err, Option, Result, ◌==◌, ◌≢◌, nat_lt, slice_index}
use Rattle.fault.specs.declared.MessageFault.TheVariants.{Broken, KindLength, ActorRule}
use Rattle.fault.specs.declared.CallFault.TheVariants.{ShortBuffer}
use Rattle.fault.specs.declared.Fault.{Fault}
use Rattle.fault.specs.declared.Fault.TheVariants.{Message, Call}

-- A kind: its MessageID, its MessageLength, which ActorIDs it admits, and its data from offset 4 on.
pub record Layout (R : Type 0) : Type 1 where
  pub ident : ℕ
  pub size : ℕ
  pub admits : ℕ → Bool
  pub encode : R → List ℕ
  pub decode : List ℕ → R
  -- what is left of a record once bits outside the mask are dropped
  pub masked : R → R
  -- the records that their Rust type can hold
  pub Fits : R → Type 0

-- What every kind owes: a length that its data fills, and data that reads back, masked.
pub record Lawful {R : Type 0} (k : Layout R) : Type 0 where
  pub least : 4 ≤ k.size
  pub most : k.size ≤ 8
  pub byte : k.ident < 256
  pub long : (r : R) → length (k.encode r) + 4 ≡ k.size
  pub round : (r : R) → k.Fits r → k.decode (k.encode r) ≡ k.masked r

-- Two layouts that say the same.
pub record Agrees {R : Type 0} (k l : Layout R) : Type 0 where
  pub ident : k.ident ≡ l.ident
  pub size : k.size ≡ l.size
  pub admits : (actor : ℕ) → k.admits actor ≡ l.admits actor
  pub encode : (r : R) → k.encode r ≡ l.encode r
  pub decode : (s : List ℕ) → k.decode s ≡ l.decode s
  pub masked : (r : R) → k.masked r ≡ l.masked r
  pub fits : (r : R) → (k.Fits r → l.Fits r) × (l.Fits r → k.Fits r)

-- the little-endian word at a place
abbrev pub word : List ℕ → ℕ → ℕ
word s i = slice_index s i + slice_index s (i + 1) * 256

-- the two bytes of a word, the low one first
abbrev pub word_bytes : ℕ → List ℕ
word_bytes n = n % 256 ∷ n / 256 % 256 ∷ []

-- the record in a message's data, where that has the kind's length
abbrev pub data_of : {R : Type 0} → Layout R → List ℕ → Option R
data_of k s = cond (length s + 4 == k.size) (Some (k.decode s)) None

-- a kind's data in four bytes, the last of them 0 where the kind has fewer
abbrev pub padded : List ℕ → List ℕ
padded s = take 4 (s ++ (0 ∷ 0 ∷ 0 ∷ 0 ∷ []))

-- no whole message begins here: too few bytes, or a MessageLength below 4 or past the end
abbrev pub broken : List ℕ → Bool
broken s = nat_lt (length s) 4 || (nat_lt (slice_index s 0) 4 || nat_lt (length s) (slice_index s 0))

-- What the reader of a kind makes of the message that begins s, which stands at a place in its payload: its actor and its record, nothing where the
-- message has another MessageID, or the first check that fails.
abbrev pub read_of : {R : Type 0} → Layout R → List ℕ → ℕ → Result (Option (ℕ × R)) Fault
read_of k s place =
    cond (broken s) (Err (Message Broken place))
    (cond (not (slice_index s 1 == k.ident)) (Ok None)
    (cond (not (slice_index s 0 == k.size)) (Err (Message KindLength place))
    (cond (not (k.admits (word s 2))) (Err (Message ActorRule place))
    (Ok (Some (word s 2, k.decode (take (k.size - 4) (drop 4 s))))))))

-- A whole message begins s, with its head, and with the length that the head tells.
abbrev pub Whole : List ℕ → Type 0
Whole s = (4 ≤ length s) × (4 ≤ slice_index s 0) × (slice_index s 0 ≤ length s)

-- The bytes of a message: MessageLength, MessageID, ActorID, data.
abbrev pub message_of : {R : Type 0} → Layout R → ℕ → R → List ℕ
message_of k actor r = k.size ∷ k.ident ∷ actor % 256 ∷ actor / 256 % 256 ∷ k.encode r

-- Writing a message at the front of a buffer: what is answered, and what the buffer holds then.
abbrev pub write_of : {R : Type 0} → Layout R → ℕ → List ℕ → Result ℕ Fault
write_of k actor out =
    cond (not (k.admits actor)) (Err (Message ActorRule 0))
    (cond (nat_lt (length out) k.size) (Err (Call ShortBuffer 0))
    (Ok k.size))

abbrev pub written_of : {R : Type 0} → Layout R → ℕ → R → List ℕ → List ℕ
written_of k actor r out =
    cond (not (k.admits actor)) out
    (cond (nat_lt (length out) k.size) out
    (message_of k actor r ++ drop k.size out))

-- The message at the front of s is read as this actor and this record, masked, wherever it stands.
abbrev pub ReadsBack : {R : Type 0} → Layout R → ℕ → R → List ℕ → Type 0
ReadsBack k actor r s = k.Fits r → (place : ℕ) → read_of k s place ≡ Ok (Some (actor, k.masked r))

-- A message of the first kind, whatever follows it, is none of the second, unless they share their MessageID.
abbrev pub Distinct : {R S : Type 0} → Layout R → Layout S → Type 0
Distinct {R} k l = (k.ident ≢ l.ident) → (actor : ℕ) (r : R) (rest : List ℕ) (place : ℕ) → read_of l (message_of k actor r ++ rest) place ≡ Ok None
