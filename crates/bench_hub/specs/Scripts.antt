-- A whole play: a script's calls, one after another, as often as they are played, on a hub that was opened for them.
use Rattle.std.specs.Prelude.{ℕ, zero, suc, ◌+◌, cond, List, [], ◌∷◌, ◌++◌, length, replicate, Some, None, Ok, Err, Option, Result, nat_lt}
use Rattle.fault.specs.declared.Fault.{Fault}
use Rattle.packet.specs.Drafts.{over}
use Rattle.store.specs.Meaning.{Known}
use Rattle.model.specs.declared.told.Site.{Site}
use Rattle.model.specs.Models.{HubModel}
use Rattle.model.specs.Opening.{opened}
use Rattle.bench_hub.specs.declared.call.Call.{Call}
use Rattle.bench_hub.specs.declared.call.Call.TheVariants.{Plain, Compose, HandIn, HandToStranger}
use Rattle.bench_hub.specs.declared.outcome.Outcome.TheVariants.{Done, Refused}
use Rattle.bench_hub.specs.Calls.{next_call}
use Rattle.bench_hub.specs.Outcomes.{outcome_bytes, untold}
use Rattle.bench_hub.specs.Playing.{Scene, after, buffer_after, scene, told}

-- the bytes of the buffer that a call takes, and what they are before it
abbrev pub buffer_of : Call → ℕ
buffer_of (Plain call) = 0
buffer_of (Compose switch room fate) = room
buffer_of (HandIn fate) = 0
buffer_of (HandToStranger fate) = 0

abbrev pub unwritten : Call → List ℕ
unwritten call = replicate (buffer_of call) 0xA5

-- the bytes of a call's outcome: ten, and those of its buffer
abbrev pub room_of : Call → ℕ
room_of call = 10 + buffer_of call

abbrev pub told_bytes : Scene → Call → List ℕ → List ℕ
told_bytes s call body = outcome_bytes (told s call body (unwritten call)) ++ buffer_after s call (unwritten call)

abbrev pub after_call : Scene → Call → List ℕ → Scene
after_call s call body = after s call body (unwritten call)

-- The calls of a script with their data, in order, up to its end or to a call that it ends within.

abbrev pub call_then : (List ℕ → List (Call × List ℕ)) → Option (Call × List ℕ × List ℕ) → List (Call × List ℕ)
call_then more None = []
call_then more (Some p) = (p.0, p.1) ∷ more p.2

-- no more of them than n
unfoldable pub calls_up_to : ℕ → List ℕ → List (Call × List ℕ)
calls_up_to zero s = []
calls_up_to (suc n) s = call_then (calls_up_to n) (next_call s)

-- each takes ten bytes at least, so that a script has no more calls than bytes
abbrev pub calls_in : List ℕ → List (Call × List ℕ)
calls_in s = calls_up_to (length s) s

-- Where a play is: how things stand, the bytes of `out`, and where in them the next outcome goes.
pub record Play : Type 0 where
  pub scene : Scene
  pub out : List ℕ
  pub at : ℕ

abbrev pub play_at : Scene → List ℕ → ℕ → Play
play_at s out at = record { scene = s; out = out; at = at }

abbrev pub next_play : Call → List ℕ → Play → Play
next_play call body p = play_at (after_call p.scene call body) (over p.out p.at (told_bytes p.scene call body)) (p.at + room_of call)

-- Call by call, up to the first whose outcome has no room: that call is not made.
unfoldable pub played : List (Call × List ℕ) → Play → Play
played [] p = p
played (c ∷ calls) p = cond (nat_lt (length p.out) (p.at + room_of c.0)) p (played calls (next_play c.0 c.1 p))

-- So many times, on the hub and with the kept slip of the time before, and with the outcomes of each time from one place on.
unfoldable pub played_times : ℕ → List (Call × List ℕ) → ℕ → Play → Play
played_times zero calls at p = p
played_times (suc n) calls at p = let q = played_times n calls at p in played calls (play_at q.scene q.out at)

-- the words of a play's hub
abbrev pub site : ℕ → Site
site version = record { version = version; project = 0x1234; firmware = 0x0007; design = 0x0005 }

-- the hub over a store, if one was opened, by what the store knows
abbrev pub hub_over : ℕ → Result Known Fault → Result HubModel Fault
hub_over version (Ok known) = opened (site version) known
hub_over version (Err e) = Err e

-- the bytes that hold outcomes, and all bytes of `out`
abbrev pub shown : Play → ℕ × List ℕ
shown p = (p.at, p.out)

abbrev pub play_opened : Result HubModel Fault → List ℕ → ℕ → List ℕ → ℕ × List ℕ
play_opened (Ok h) script times out = shown (played_times times (calls_in script) 10 (play_at (scene h None) (over out 0 (outcome_bytes (Done untold))) 10))
play_opened (Err e) script times out = (10, over out 0 (outcome_bytes (Refused e)))

-- A whole play, over a store that knows this or was refused: the outcome of the opening, and behind it those of the script's last time.
abbrev pub play : ℕ → Result Known Fault → List ℕ → ℕ → List ℕ → ℕ × List ℕ
play version store script times out = cond (nat_lt (length out) 10) (0, out) (play_opened (hub_over version store) script times out)
