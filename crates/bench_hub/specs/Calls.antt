-- The calls of a script: each is a head of ten bytes (operation, fate, and four words, the low byte first) with its data behind it.
use Rattle.std.specs.Prelude.{ℕ, ◌+◌, ◌*◌, min, cond, List, [], ◌∷◌, length, take, drop, Some, None, Option, ◌==◌, nat_lt, slice_index}
use Rattle.std.specs.Int.{w16, cast_signed}
use Rattle.kind.specs.Layout.{word}
use Rattle.bench_hub.specs.declared.call.Call.{Call}
use Rattle.bench_hub.specs.declared.call.Call.TheVariants as call
use Rattle.bench_hub.specs.declared.call.Fate.{Fate}
use Rattle.bench_hub.specs.declared.call.Fate.TheVariants.{Kept, Sent, Withheld}
use Rattle.bench_hub.specs.declared.call.Plain.{Plain}
use Rattle.bench_hub.specs.declared.call.Plain.TheVariants as plain
use Rattle.bench_hub.specs.declared.head.Head.{Head}

abbrev pub fate_of : ℕ → Fate
fate_of code = cond (code == 0) Kept (cond (code == 1) Sent Withheld)

-- the call of an operation that opens and closes no slip, by the words a, b and c of its head; one that nobody knows calls nothing
abbrev pub plain_of : ℕ → ℕ → ℕ → ℕ → Plain
plain_of operation a b c =
    cond (operation == 1) (plain.Enrol a)
    (cond (operation == 2) (plain.Actual a (cast_signed w16 b))
    (cond (operation == 3) (plain.Target a (cast_signed w16 b))
    (cond (operation == 4) (plain.Control a (b + c * 65536))
    (cond (operation == 5) plain.Take
    (cond (operation == 9) (plain.ActorMark a b)
    (cond (operation == 10) (plain.ControlMark a)
    (cond (operation == 11) (plain.Flags a)
    (cond (operation == 12) (plain.LatestKey a)
    (cond (operation == 13) (plain.Reading a)
    (cond (operation == 14) (plain.Outstanding a) plain.Nothing))))))))))

abbrev pub call_of : ℕ → Fate → ℕ → ℕ → ℕ → Call
call_of operation fate a b c =
    cond (operation == 6) (call.Compose a (min b 1472) fate)
    (cond (operation == 7) (call.HandIn fate)
    (cond (operation == 8) (call.HandToStranger fate) (call.Plain (plain_of operation a b c))))

-- The head that a script begins with: operation, fate, the words a, b and c, and the length of the data.
abbrev pub head_of : List ℕ → Option Head
head_of s =
    cond (nat_lt (length s) 10) None
    (Some (record { call = call_of (slice_index s 0) (fate_of (slice_index s 1)) (word s 2) (word s 4) (word s 6); size = word s 8 }))

-- the call behind a head, its data, and the rest of the script
abbrev pub with_data : List ℕ → Option Head → Option (Call × List ℕ × List ℕ)
with_data s None = None
with_data s (Some h) = cond (nat_lt (length s) (10 + h.size)) None (Some (h.call, take h.size (drop 10 s), drop (10 + h.size) s))

-- The call that a script begins with, where all of it is there.
abbrev pub next_call : List ℕ → Option (Call × List ℕ × List ℕ)
next_call s = with_data s (head_of s)

-- the words in the data of an enrolment; an odd last byte is left out
unfoldable pub words_in : List ℕ → List ℕ
words_in [] = []
words_in (lo ∷ []) = []
words_in (lo ∷ (hi ∷ rest)) = (lo + hi * 256) ∷ words_in rest
