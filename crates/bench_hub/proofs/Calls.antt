-- The calls of a script, one by one.
use Rattle.std.proofs.Common.{◌≡◌, ℕ, zero, suc, ◌+◌, ◌-◌, ◌<◌, ◌≤◌, Bool, true, false, cond, ltb, List, [], ◌∷◌, length, take, drop, Some, None, Option, refl, ap, ◌∙◌, arith}
use Rattle.std.proofs.lemmas.List.{length-drop}
use Rattle.std.proofs.lemmas.Bool.Decides.{nat_tests}
use Rattle.std.proofs.lemmas.Option.{none-some}
use Rattle.bench_hub.specs.declared.call.Call.{Call}
use Rattle.bench_hub.specs.declared.head.Head.{Head}
use Rattle.bench_hub.specs.Calls.{head_of, next_call, with_data}
use Rattle.bench_hub.specs.Scripts.{calls_in, calls_up_to, call_then}

rest_of : Option (Call × List ℕ × List ℕ) → List ℕ
rest_of None = []
rest_of (Some p) = p.2

-- a call takes some of its script
shorter : (s : List ℕ) (o : Option Head) (p : Call × List ℕ × List ℕ) → with_data s o ≡ Some p → length p.2 < length s
unfolding rest_of
shorter s None p e = absurd (none-some _ e)
shorter s (Some h) p e = go (ltb (length s) (10 + h.size)) refl e
  where
    go : (b : Bool) → ltb (length s) (10 + h.size) ≡ b → cond b None (Some (h.call, take h.size (drop 10 s), drop (10 + h.size) s)) ≡ Some p → length p.2 < length s
    go true q r = absurd (none-some _ r)
    go false q r =
        let same : drop (10 + h.size) s ≡ p.2 = ap rest_of r in
        let room : 10 + h.size ≤ length s = grind (arith, nat_tests) in
        let left : length (drop (10 + h.size) s) ≡ length s - (10 + h.size) = length-drop (10 + h.size) s in
        let len : length (drop (10 + h.size) s) ≡ length p.2 = ap length same in
        omega arith

-- more steps than a script has bytes find no more calls
enough : (n m : ℕ) (s : List ℕ) → length s ≤ n → length s ≤ m → calls_up_to n s ≡ calls_up_to m s
unfolding calls_up_to
enough zero zero s k l = refl
enough zero (suc m) [] k l = refl
enough zero (suc m) (b ∷ s) k l = absurd (omega arith)
enough (suc n) zero [] k l = refl
enough (suc n) zero (b ∷ s) k l = absurd (omega arith)
enough (suc n) (suc m) s k l = go (next_call s) refl (enough n m)
  where
    go : (o : Option (Call × List ℕ × List ℕ)) → next_call s ≡ o → ((t : List ℕ) → length t ≤ n → length t ≤ m → calls_up_to n t ≡ calls_up_to m t)
        → call_then (calls_up_to n) o ≡ call_then (calls_up_to m) o
    go None q ih = refl
    go (Some p) q ih =
        let less : length p.2 < length s = shorter s (head_of s) p q in
        ap (λ (calls : List (Call × List ℕ)). (p.0, p.1) ∷ calls) (ih p.2 (omega arith) (omega arith))

pub calls_more : (s : List ℕ) (call : Call) (body rest : List ℕ) → next_call s ≡ Some (call, body, rest) → calls_in s ≡ (call, body) ∷ calls_in rest
unfolding calls_up_to
calls_more s call body rest e = go (length s) refl (shorter s (head_of s) (call, body, rest) e)
  where
    go : (n : ℕ) → n ≡ length s → length rest < length s → calls_up_to n s ≡ (call, body) ∷ calls_in rest
    go zero q less = absurd (omega arith)
    go (suc n) q less =
        ap (call_then (calls_up_to n)) e ∙ ap (λ (calls : List (Call × List ℕ)). (call, body) ∷ calls) (enough n (length rest) rest (omega arith) (omega arith))

pub calls_end : (s : List ℕ) → next_call s ≡ None → calls_in s ≡ []
unfolding calls_up_to
calls_end s e = go (length s)
  where
    go : (n : ℕ) → calls_up_to n s ≡ []
    go zero = refl
    go (suc n) = ap (call_then (calls_up_to n)) e
