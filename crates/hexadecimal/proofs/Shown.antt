-- The digits of bytes are text, and one chunk's digits after another's are those of the whole.
use Rattle.std.proofs.Common.{◌≡◌, ℕ, zero, suc, ◌*◌, ◌/◌, ◌%◌, ◌<◌, List, [], ◌∷◌, ◌++◌, length, get_or, take, sym, ap, ◌∙◌, arith, append_assoc}
use Rattle.std.specs.Str.{IsAscii, IsUtf8}
use Rattle.std.proofs.lemmas.List.{take_at}
use Rattle.std.proofs.lemmas.Str.{IsUtf8-from_ascii}
use Rattle.hexadecimal.specs.Encoding.{digits_of}
use Rattle.hexadecimal.proofs.Pairs.{length_digits_of, digits_append}
use Rattle.hexadecimal.proofs.Table.{written_ascii}

digits_ascii : (s : List ℕ) → ((i : ℕ) → get_or s i 0 < 256) → IsAscii (digits_of s)
unfolding digits_of
digits_ascii [] small i = omega arith
digits_ascii (b ∷ s) small zero = let fits = small 0 in written_ascii (b / 16) (omega arith)
digits_ascii (b ∷ s) small (suc zero) = written_ascii (b % 16) (omega arith)
digits_ascii (b ∷ s) small (suc (suc i)) = digits_ascii s (λ j. small (suc j)) i

pub digits_text : (s : List ℕ) → ((i : ℕ) → get_or s i 0 < 256) → IsUtf8 (digits_of s)
digits_text s small = IsUtf8-from_ascii (digits_of s) (digits_ascii s small)

pub digits_front : (s rest out : List ℕ) → out ≡ digits_of s ++ rest → take (2 * length s) out ≡ digits_of s
digits_front s rest out e = ap (take (2 * length s)) e ∙ take_at (digits_of s) rest (2 * length s) (length_digits_of s)

-- the digits of what is left begin with those of its first chunk
pub shown_more : (done all chunk rest : List ℕ) → all ≡ chunk ++ rest → (done ++ digits_of chunk) ++ digits_of rest ≡ done ++ digits_of all
shown_more done all chunk rest e = append_assoc done (digits_of chunk) (digits_of rest) ∙ ap (λ t. done ++ t) (sym (digits_append chunk rest) ∙ ap digits_of (sym e))
