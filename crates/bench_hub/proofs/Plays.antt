-- A play, call by call.
use Rattle.std.proofs.Common.{◌≡◌, ℕ, ◌+◌, ◌-◌, ◌<◌, ◌≤◌, Bool, true, false, cond, ltb, List, ◌++◌, length, take, drop, Some, None, Ok, Result, sym, refl, ap, ◌∙◌, ap₂, add-one, arith}
use borrow.Rule.Slice.PartMut.{put_mid}
use Rattle.std.proofs.lemmas.List.{drop-drop, length-drop, length-take-le}
use Rattle.std.proofs.lemmas.Bool.Decides.{nat_tests}
use Rattle.fault.specs.declared.Fault.{Fault}
use Rattle.packet.specs.Drafts.{over}
use Rattle.store.specs.Meaning.{Known}
use Rattle.model.specs.Models.{HubModel}
use Rattle.bench_hub.specs.declared.call.Call.{Call}
use Rattle.bench_hub.specs.declared.outcome.Outcome.TheVariants.{Done}
use Rattle.bench_hub.specs.Calls.{next_call}
use Rattle.bench_hub.specs.Outcomes.{outcome_bytes, untold}
use Rattle.bench_hub.specs.Playing.{Scene, scene}
use Rattle.bench_hub.specs.Scripts.{Play, after_call, calls_in, hub_over, next_play, play, play_at, play_opened, played, played_times, room_of, shown, told_bytes}
use Rattle.bench_hub.proofs.Calls.{calls_end, calls_more}

-- a part of a list that was written anew
over_part : (xs ys : List ℕ) (at k : ℕ) → length ys ≡ k → over xs at ys ≡ put_mid at k xs ys
over_part xs ys at k e =
    ap (λ (n : ℕ). take at xs ++ (ys ++ drop (at + n) xs)) e
    ∙ ap (λ (zs : List ℕ). take at xs ++ (ys ++ zs)) (sym (drop-drop k at xs))

-- the room that a call takes is as long as it should be
pub room_long : (xs ys : List ℕ) (at room : ℕ) → length ys ≡ length (take (at + room - at) (drop at xs)) → room ≤ length xs - at → length ys ≡ at + room - at
room_long xs ys at room e l =
    let behind : length (drop at xs) ≡ length xs - at = length-drop at xs in
    let fits : at + room - at ≤ length (drop at xs) = omega arith in
    e ∙ length-take-le (at + room - at) (drop at xs) fits

module _ (left : List ℕ) (call : Call) (body rest : List ℕ) (next : next_call left ≡ Some (call, body, rest)) (s : Scene) (out : List ℕ) (at room : ℕ) (long : room ≡ room_of call) (within : at ≤ length out)
    (target : Play) (so_far : played (calls_in left) (play_at s out at) ≡ target) where
  by_call : cond (ltb (length out) (at + room_of call)) (play_at s out at) (played (calls_in rest) (next_play call body (play_at s out at))) ≡ target
  unfolding played
  by_call = ap (λ (calls : List (Call × List ℕ)). played calls (play_at s out at)) (sym (calls_more left call body rest next)) ∙ so_far

  -- a call that has room is made
  pub one_more : room ≤ length out - at → (t : Scene) (part : List ℕ) (k : ℕ) → t ≡ after_call s call body → part ≡ told_bytes s call body → length part ≡ k
      → played (calls_in rest) (play_at t (put_mid at k out part) (at + room)) ≡ target
  one_more fits t part k after bytes size =
      let room_there : ltb (length out) (at + room_of call) ≡ false = grind (arith, nat_tests) in
      let written : put_mid at k out part ≡ over out at (told_bytes s call body) = sym (over_part out part at k size) ∙ ap (over out at) bytes in
      ap₂ (λ (u : Scene) (n : ℕ). played (calls_in rest) (play_at u (put_mid at k out part) (at + n))) after long
      ∙ ap (λ (ys : List ℕ). played (calls_in rest) (play_at (after_call s call body) ys (at + room_of call))) written
      ∙ ap (λ (b : Bool). cond b (play_at s out at) (played (calls_in rest) (next_play call body (play_at s out at)))) (sym room_there)
      ∙ by_call

  -- one that has none ends the play
  pub no_room : length out - at < room → play_at s out at ≡ target
  no_room less =
      let none_there : ltb (length out) (at + room_of call) ≡ true = grind (arith, nat_tests) in
      ap (λ (b : Bool). cond b (play_at s out at) (played (calls_in rest) (next_play call body (play_at s out at)))) (sym none_there) ∙ by_call

-- so does the end of the script
pub no_more : (left : List ℕ) → next_call left ≡ None → (p target : Play) → played (calls_in left) p ≡ target → p ≡ target
unfolding played
no_more left none p target so_far = ap (λ (calls : List (Call × List ℕ)). played calls p) (sym (calls_end left none)) ∙ so_far

-- Playing again.

pub not_once : (calls : List (Call × List ℕ)) (at : ℕ) (p : Play) → p ≡ played_times 0 calls at p
unfolding played_times
not_once calls at p = refl

pub once_more : (n : ℕ) (calls : List (Call × List ℕ)) (at : ℕ) (p : Play) (s : Scene) (out : List ℕ) (end : ℕ) (r : Play)
    → play_at s out end ≡ played_times n calls at p → r ≡ played calls (play_at s out at) → r ≡ played_times (n + 1) calls at p
unfolding played_times
once_more n calls at p s out end r so_far now =
    now
    ∙ ap (λ (q : Play). played calls (play_at q.scene q.out at)) so_far
    ∙ ap (λ (k : ℕ). played_times k calls at p) (sym (add-one n))

-- A whole play on a hub that was opened.
pub on_opened : (version : ℕ) (store : Result Known Fault) (h : HubModel) (script : List ℕ) (times : ℕ) (out begun after : List ℕ) (s t : Scene) (end : ℕ)
    → 10 ≤ length out → Ok h ≡ hub_over version store → begun ≡ over out 0 (outcome_bytes (Done untold)) → s ≡ scene h None
    → play_at t after end ≡ played_times times (calls_in script) 10 (play_at s begun 10) → (end, after) ≡ play version store script times out
on_opened version store h script times out begun after s t end room opened first new now =
    let room_there : ltb (length out) 10 ≡ false = grind (arith, nat_tests) in
    ap shown now
    ∙ ap₂ (λ (r : Scene) (xs : List ℕ). shown (played_times times (calls_in script) 10 (play_at r xs 10))) new first
    ∙ ap (λ (r : Result HubModel Fault). play_opened r script times out) opened
    ∙ ap (λ (b : Bool). cond b (0, out) (play_opened (hub_over version store) script times out)) (sym room_there)
