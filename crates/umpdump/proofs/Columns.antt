-- Columns as the library fills them.
use Rattle.std.proofs.Common.{◌≡◌, ℕ, zero, suc, ◌-◌, ◌^◌, List, [], ◌∷◌, ◌++◌, length, replicate, refl, ap, arith}
use Rattle.std.specs.Char.{encode_utf8}
use Rattle.std.specs.Fmt.{char_count, decimal, format_spec, padded, padded_integral, styled_decimal, styled_text, take_chars}
use Rattle.std.specs.List.{repeat}
use Rattle.std.proofs.lemmas.List.{append-nil}
use Rattle.packet.specs.declared.message.Record.{Record}
use Rattle.packet.specs.declared.message.Record.TheVariants.{State, Control, EditValue, RealValue, Event, Temperature}
use Rattle.umpdump.specs.Shown.{at_left, at_right, name_of}

spaces : (n : ℕ) → repeat {A = ℕ} n (32 ∷ []) ≡ replicate n 32
spaces zero = refl
spaces (suc n) = ap (λ s. 32 ∷ s) (spaces n)

no_more : (n : ℕ) → n - n ≡ 0
no_more n = omega arith

right_by : (text : List ℕ) (k n : ℕ) → k ≡ n → repeat {A = ℕ} k (32 ∷ []) ++ [] ++ [] ++ [] ++ (text ++ repeat {A = ℕ} (k - k) (32 ∷ [])) ≡ replicate n 32 ++ text
right_by text k n e = rw (no_more k, spaces k, append-nil {A = ℕ} (replicate k 32), append-nil {A = ℕ} (replicate k 32), append-nil {A = ℕ} (replicate k 32), append-nil {A = ℕ} text, e) refl

pub number_right : (n : ℕ) → styled_decimal (format_spec 32 3 0 4 (2 ^ 64 - 1)) n ≡ at_right 4 (decimal n)
unfolding padded_integral char_count encode_utf8
number_right n = right_by (decimal n) (4 - length (decimal n) - 0 - 0) (4 - length (decimal n)) (omega arith)

left_by : (text : List ℕ) (k n : ℕ) → k ≡ n → text ++ repeat {A = ℕ} k (32 ∷ []) ≡ text ++ replicate n 32
left_by text k n e = rw (spaces k, e) refl

pub number_left : (n : ℕ) → styled_decimal (format_spec 32 1 0 5 (2 ^ 64 - 1)) n ≡ at_left 5 (decimal n)
unfolding padded_integral char_count encode_utf8
number_left n = left_by (decimal n) (5 - length (decimal n) - 0 - 0 - 0) (5 - length (decimal n)) (omega arith)

pub name_left : (m : Record) → styled_text (format_spec 32 1 0 11 (2 ^ 64 - 1)) (name_of m) ≡ at_left 11 (name_of m)
unfolding padded take_chars char_count encode_utf8
name_left (State flags) = refl
name_left (Control flags) = refl
name_left (EditValue actor target) = refl
name_left (RealValue actor actual) = refl
name_left (Event actor key) = refl
name_left (Temperature reading) = refl
