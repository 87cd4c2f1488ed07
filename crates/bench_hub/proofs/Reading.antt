-- Reading a script's calls and lists.
use Rattle.std.proofs.Common.{◌≡◌, ℕ, ◌+◌, ◌-◌, ◌*◌, ◌<◌, ◌≤◌, Bool, false, cond, ltb, List, [], ◌∷◌, ◌++◌, length, take, drop, get_or, Some, None, sym, refl, ap, ◌∙◌, ap₂, append_assoc, append-nil, arith}
use Rattle.std.proofs.lemmas.List.{length-drop, take_all, take-append-le}
use Rattle.std.proofs.lemmas.Bool.Decides.{nat_tests}
use Rattle.bench_hub.specs.declared.head.Head.{Head}
use Rattle.bench_hub.specs.Calls.{head_of, next_call, with_data, words_in}

-- a head with all of its data behind it
pub next_is : (s : List ℕ) (h : Head) (r : ℕ) → Some h ≡ head_of s → r ≡ h.size → 10 + r ≤ length s
    → next_call s ≡ Some (h.call, take (10 + r - 10) (drop 10 s), take (length s - (10 + r)) (drop (10 + r) s))
next_is s h r e q l =
    let room : ltb (length s) (10 + h.size) ≡ false = grind (arith, nat_tests) in
    let size : h.size ≡ 10 + r - 10 = omega arith in
    let end : 10 + h.size ≡ 10 + r = omega arith in
    let rest : take (length s - (10 + r)) (drop (10 + r) s) ≡ drop (10 + r) s = take_all _ _ (omega (arith, length-drop (10 + r) s)) in
    ap (with_data s) (sym e)
    ∙ ap (λ (b : Bool). cond b None (Some (h.call, take h.size (drop 10 s), drop (10 + h.size) s))) room
    ∙ ap₂ (λ (n m : ℕ). Some (h.call, take n (drop 10 s), drop m s)) size end
    ∙ ap (λ (ys : List ℕ). Some (h.call, take (10 + r - 10) (drop 10 s), ys)) (sym rest)

-- one word more, and the end
pub words_more : (s : List ℕ) → 2 ≤ length s → words_in s ≡ (get_or s 0 0 + get_or s 1 0 * 256) ∷ words_in (drop 2 s)
unfolding words_in
words_more [] h = absurd (omega arith)
words_more (lo ∷ []) h = absurd (omega arith)
words_more (lo ∷ (hi ∷ rest)) h = refl

pub words_end : (s : List ℕ) → length s < 2 → words_in s ≡ []
unfolding words_in
words_end [] h = refl
words_end (lo ∷ []) h = refl
words_end (lo ∷ (hi ∷ rest)) h = absurd (omega arith)

-- a list of words, of which 65 are kept: one more, the last one, and none more
pub word_kept : (kept kept' left ws : List ℕ) (w n : ℕ) → kept' ≡ kept ++ w ∷ [] → w ≡ get_or left 0 0 + get_or left 1 0 * 256 → 2 ≤ length left → n ≡ length left - 2
    → take 65 (kept ++ words_in left) ≡ ws → take 65 (kept' ++ words_in (take n (drop 2 left))) ≡ ws
word_kept kept kept' left ws w n e q l r i =
    let whole : take n (drop 2 left) ≡ drop 2 left = take_all _ _ (omega (arith, length-drop 2 left)) in
    ap₂ (λ (xs ys : List ℕ). take 65 (xs ++ words_in ys)) e whole
    ∙ ap (take 65) (append_assoc kept (w ∷ []) (words_in (drop 2 left)))
    ∙ ap (λ (m : ℕ). take 65 (kept ++ (m ∷ words_in (drop 2 left)))) q
    ∙ ap (λ (ys : List ℕ). take 65 (kept ++ ys)) (sym (words_more left l))
    ∙ i

pub all_kept : (kept left ws : List ℕ) → length left < 2 → length kept ≤ 65 → take 65 (kept ++ words_in left) ≡ ws → kept ≡ ws
all_kept kept left ws l few i =
    sym (take_all 65 kept few) ∙ ap (take 65) (sym (append-nil kept)) ∙ ap (λ (ys : List ℕ). take 65 (kept ++ ys)) (sym (words_end left l)) ∙ i

pub none_kept : (kept left ws : List ℕ) → length kept ≡ 65 → take 65 (kept ++ words_in left) ≡ ws → kept ≡ ws
none_kept kept left ws full i = sym (take_all 65 kept (omega arith)) ∙ sym (take-append-le 65 kept (words_in left) (omega arith)) ∙ i
