-- Lines that an engineer would write, and near misses, run through the definitions.
use Rattle.std.proofs.Common.{◌≡◌, [], ◌∷◌, pos, neg_ℤ, Ok, Err, codes, refl}
use Rattle.hexadecimal.specs.Lines.{length_to}
use Rattle.script.specs.Calls as calls
use Rattle.script.specs.Calls.{call_in}
use Rattle.script.specs.Line.{call, line_in, passed, unknown, wanted}
use Rattle.script.specs.Lists.{numbers_in, parts_of}
use Rattle.script.specs.Numbers.{all_digits, behind, number_in}
use Rattle.script.specs.Reasons.{line_end, no_name, no_number, no_store, other_form}
use Rattle.script.specs.declared.place.Place.TheVariants as place
use Rattle.script.specs.declared.verb.Verb.TheVariants as verb

opened_with_a_table : call_in (codes "open 513 4660 0 5 table 1,2")
    ≡ Ok (calls.open_hub (record { version = 0x0201; project = 0x1234; firmware = 0; design = 5 }) (calls.table (1 ∷ 2 ∷ [])))
unfolding call_in length_to numbers_in parts_of number_in all_digits behind
opened_with_a_table = refl

opened_in_hexadecimal : call_in (codes "open 0x0201 0x1234 0 5 image 02") ≡ Ok (calls.open_hub (record { version = 513; project = 4660; firmware = 0; design = 5 }) (calls.image (codes "02")))
unfolding call_in length_to numbers_in parts_of number_in all_digits behind
opened_in_hexadecimal = refl

lowest_value : call_in (codes "target 1 -32768") ≡ Ok (calls.target 1 (neg_ℤ (pos 32768)))
unfolding call_in length_to numbers_in parts_of number_in all_digits behind
lowest_value = refl

value_too_low : call_in (codes "target 1 -32769") ≡ Err (no_number (codes "-32769") place.Value)
unfolding call_in length_to numbers_in parts_of number_in all_digits behind
value_too_low = refl

longest_room : call_in (codes "compose 7 1472") ≡ Ok (calls.compose 7 1472)
unfolding call_in length_to numbers_in parts_of number_in all_digits behind
longest_room = refl

longest_room_in_hexadecimal : call_in (codes "compose 7 0x5c0") ≡ Ok (calls.compose 7 1472)
unfolding call_in length_to numbers_in parts_of number_in all_digits behind
longest_room_in_hexadecimal = refl

room_too_long : call_in (codes "compose 7 9999") ≡ Err (no_number (codes "9999") place.Room)
unfolding call_in length_to numbers_in parts_of number_in all_digits behind
room_too_long = refl

digits_missing : call_in (codes "marks 0x 1") ≡ Err (no_number (codes "0x") place.Switch)
unfolding call_in length_to numbers_in parts_of number_in all_digits behind
digits_missing = refl

entry_missing : call_in (codes "enrol 7 1,") ≡ Err (no_number [] place.Actor)
unfolding call_in length_to numbers_in parts_of number_in all_digits behind
entry_missing = refl

two_spaces : call_in (codes "enrol  7 1") ≡ Err (other_form verb.Enrol)
unfolding call_in length_to numbers_in parts_of number_in all_digits behind
two_spaces = refl

word_too_many : call_in (codes "take 01 02") ≡ Err (other_form verb.Take)
unfolding call_in length_to numbers_in parts_of number_in all_digits behind
word_too_many = refl

word_missing : call_in (codes "take ") ≡ Err (other_form verb.Take)
unfolding call_in length_to numbers_in parts_of number_in all_digits behind
word_missing = refl

name_alone : call_in (codes "take") ≡ Err (other_form verb.Take)
unfolding call_in length_to numbers_in parts_of number_in all_digits behind
name_alone = refl

other_case : call_in (codes "Take 01") ≡ Err (no_name (codes "Take"))
unfolding call_in length_to numbers_in parts_of number_in all_digits behind
other_case = refl

other_name : call_in (codes "enroll 7 1") ≡ Err (no_name (codes "enroll"))
unfolding call_in length_to numbers_in parts_of number_in all_digits behind
other_name = refl

other_store : call_in (codes "open 513 4660 0 5 list 1") ≡ Err (no_store (codes "list"))
unfolding call_in length_to numbers_in parts_of number_in all_digits behind
other_store = refl

comment : line_in (codes "# a comment") ≡ passed
unfolding call_in length_to numbers_in parts_of number_in all_digits behind
comment = refl

wish : line_in (codes "= ok due") ≡ wanted (codes "ok due")
unfolding call_in length_to numbers_in parts_of number_in all_digits behind
wish = refl

carriage_return : line_in (119 ∷ 111 ∷ 114 ∷ 100 ∷ 32 ∷ 55 ∷ 13 ∷ []) ≡ unknown line_end
unfolding call_in length_to numbers_in parts_of number_in all_digits behind
carriage_return = refl

question : line_in (codes "word 7") ≡ call (calls.word 7)
unfolding call_in length_to numbers_in parts_of number_in all_digits behind
question = refl
