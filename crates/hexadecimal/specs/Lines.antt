-- The first line of a text and what follows it, and all of its lines.
use Rattle.std.specs.Prelude.{◌≡◌, ℕ, suc, ◌+◌, ◌<◌, cond, ◌⊎◌, List, [], ◌∷◌, ◌++◌, length, take, drop, Some, None, Option, ◌==◌, ◌≢◌, slice_index}
use Rattle.std.specs.Borrow.{Bor}
use Rattle.std.specs.Iterator.{YieldsFirstRef}
use Rattle.std.specs.Option.{option_map}

abbrev pub line_feed : ℕ
line_feed = 10

-- how many bytes stand before the first separator, and all where there is none
unfoldable pub length_to : ℕ → List ℕ → ℕ
length_to separator [] = 0
length_to separator (b ∷ text) = cond (b == separator) 0 (suc (length_to separator text))

-- how many bytes stand before the first line feed
abbrev pub line_length : List ℕ → ℕ
line_length = length_to line_feed

-- the line is what stands before that line feed, and the rest what stands after it
abbrev pub line_of : List ℕ → List ℕ
line_of text = take (line_length text) text

abbrev pub rest_of : List ℕ → List ℕ
rest_of text = drop (line_length text + 1) text

-- the first line and what follows it; an empty text has no line
abbrev pub next_line : List ℕ → Option (List ℕ × List ℕ)
next_line [] = None
next_line (b ∷ text) = Some (line_of (b ∷ text), rest_of (b ∷ text))

abbrev pub Without : ℕ → List ℕ → Type 0
Without b text = (k : ℕ) → k < length text → slice_index text k ≢ b

-- A line holds no line feed. One stands between it and the rest, or the line is the whole text.
pub record FirstLine (text line rest : List ℕ) : Type 0 where
  pub plain : Without line_feed line
  pub whole : (text ≡ line ++ (line_feed ∷ rest)) ⊎ ((text ≡ line) × (rest ≡ []))

-- The rest is shorter than the text, and by how much: the line and its line feed, or the whole text.
pub record Shorter (text line rest : List ℕ) : Type 0 where
  pub falls : length rest < length text
  pub adds : (length line + 1 + length rest ≡ length text) ⊎ ((length line ≡ length text) × (length rest ≡ 0))

-- a byte begins the first of the lines that follow it, and a line of its own where none does
abbrev pub begun_with : ℕ → List (List ℕ) → List (List ℕ)
begun_with b [] = (b ∷ []) ∷ []
begun_with b (line ∷ lines) = (b ∷ line) ∷ lines

-- The lines of a text: each line feed ends one, and the last one may lack it.
unfoldable pub lines_of : List ℕ → List (List ℕ)
lines_of [] = []
lines_of (b ∷ text) = cond (b == line_feed) ([] ∷ lines_of text) (begun_with b (lines_of text))

-- So the lines of a text are its first line and the lines of the rest.
abbrev pub LineByLine : List ℕ → Type 0
LineByLine text = 0 < length text → lines_of text ≡ line_of text ∷ lines_of (rest_of text)

-- Taking the first line off a text: it is the first of the text's lines, and what follows it is left. An empty text has no line, and is left as it is.
pub record TakesLine (text : List ℕ) (line : Option (Bor (List ℕ))) (left : List ℕ) : Type 0 where
  pub yields : YieldsFirstRef lines_of text line left
  pub first : option_map (λ l. l.now) line ≡ option_map (λ p. p.0) (next_line text)
  pub rest : left ≡ rest_of text
