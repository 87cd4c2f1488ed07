-- The words behind the name of a call, by what each stands for.
use Rattle.std.specs.Prelude.{ℕ, cond, ◌||◌, List, length, ℤ, is_some, Some, None, Ok, Err, Option, Result, ◌==◌}
use Rattle.std.specs.Option.{ok_or}
use Rattle.script.specs.Numbers.{number_in, value_in}
use Rattle.script.specs.Reasons.{Why, no_number, other_form}
use Rattle.script.specs.Words.{cut_at}
use Rattle.script.specs.declared.place.Place.{Place}
use Rattle.script.specs.declared.verb.Verb.{Verb}

-- a number that fits two bytes, in its place
abbrev pub short_read : Place → List ℕ → Result ℕ Why
short_read place word = ok_or (number_in 65535 word) (no_number word place)

-- one that fits four
abbrev pub long_read : Place → List ℕ → Result ℕ Why
long_read place word = ok_or (number_in 4294967295 word) (no_number word place)

abbrev pub value_read : Place → List ℕ → Result ℤ Why
value_read place word = ok_or (value_in word) (no_number word place)

abbrev pub space : ℕ
space = 32

-- a word has a byte or more, and no space
abbrev pub one_word : Verb → List ℕ → Result (List ℕ) Why
one_word verb text = cond (length text == 0 || is_some (cut_at space text)) (Err (other_form verb)) (Ok text)

-- the first reason of two
abbrev pub both : {A B : Type 0} → Result A Why → Result B Why → Result (A × B) Why
both (Err e) b = Err e
both (Ok x) (Err e) = Err e
both (Ok x) (Ok y) = Ok (x, y)

abbrev pub each_word : Verb → Option (List ℕ × List ℕ) → Result (List ℕ × List ℕ) Why
each_word verb None = Err (other_form verb)
each_word verb (Some p) = both (one_word verb p.0) (one_word verb p.1)

-- two words with a space between them
abbrev pub two_words : Verb → List ℕ → Result (List ℕ × List ℕ) Why
two_words verb text = each_word verb (cut_at space text)

abbrev pub each_read : {A B : Type 0} → (List ℕ → Result A Why) → (List ℕ → Result B Why) → Result (List ℕ × List ℕ) Why → Result (A × B) Why
each_read f g (Err e) = Err e
each_read f g (Ok p) = both (f p.0) (g p.1)

-- two words, by what each stands for
abbrev pub two : {A B : Type 0} → (List ℕ → Result A Why) → (List ℕ → Result B Why) → Verb → List ℕ → Result (A × B) Why
two f g verb text = each_read f g (two_words verb text)

abbrev pub read_by : {A : Type 0} → (List ℕ → Result A Why) → Result (List ℕ) Why → Result A Why
read_by f (Err e) = Err e
read_by f (Ok word) = f word

-- one word, by what it stands for
abbrev pub one : {A : Type 0} → (List ℕ → Result A Why) → Verb → List ℕ → Result A Why
one f verb text = read_by f (one_word verb text)
