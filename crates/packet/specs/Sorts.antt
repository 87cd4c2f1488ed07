-- What a packet is to the controller.
use Rattle.std.specs.Prelude.{ℕ, cond, List, ◌++◌, ◌==◌, codes, decimal}
use Rattle.packet.specs.declared.sort.Sort.{Sort}
use Rattle.packet.specs.declared.sort.Sort.TheVariants.{Event, Answer}

-- package number 0 is an event's, any other is the number of what is answered
abbrev pub sort_of : ℕ → Sort
sort_of number = cond (number == 0) Event (Answer number)

-- how it is shown
abbrev pub sort_text : Sort → List ℕ
sort_text Event = codes "event"
sort_text (Answer number) = codes "answer " ++ decimal number
