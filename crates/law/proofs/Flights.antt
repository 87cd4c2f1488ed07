-- The line to a switch: packets in flight have rising indices, and their numbers repeat only after 65,535 packets.
use Rattle.std.proofs.Common.{◌≡◌, ℕ, suc, ◌+◌, ◌%◌, ◌^◌, ◌<◌, ◌≤◌, eqb, List, [], ◌∷◌, ◌++◌, refl, arith}
use Rattle.std.specs.List.{AllByRecursion}
use Rattle.std.proofs.lemmas.Bool.{cond_both, eqb-false, eqb-true}
use Rattle.model.specs.Composing.{number_after}
use Rattle.law.specs.World.{Packet}
use Rattle.law.proofs.Elements.{all_any}
use Rattle.law.proofs.Invariant.{Behind, Between, Delivered, Numbered, number_of}

pub next_number : (c : ℕ) → number_after (number_of c) ≡ number_of (suc c)
unfolding number_of
next_number c = cond_both (eqb (suc (c % 65535)) 65535) 1 (suc (suc (c % 65535))) (λ x. x ≡ suc (suc c % 65535))
    (λ e. let q = eqb-true (suc (c % 65535)) 65535 e in omega arith)
    (λ e. let q = eqb-false (suc (c % 65535)) 65535 e in omega arith)

pub number_fits : (k : ℕ) → number_of k < 2 ^ 16
unfolding number_of
number_fits k = omega arith

pub number≢0 : (k : ℕ) → number_of k ≡ 0 → ⊥
unfolding number_of
number≢0 k e = omega arith

pub same_packet : (k c : ℕ) → number_of k ≡ number_of c → k ≤ c → c < k + 65535 → k ≡ c
unfolding number_of
same_packet k c e l h = omega arith

pub between_le : (n : ℕ) (ps : List Packet) (c : ℕ) → Between n ps c → n ≤ c
between_le n [] c b = b
between_le n (p ∷ ps) c b = let ih = between_le (suc p.index) ps c b.2 in let h = b.0 in omega arith

pub between_below : (n : ℕ) (ps : List Packet) (c : ℕ) → Between n ps c → AllByRecursion (λ p. p.index < c) ps
between_below n [] c b = tt
between_below n (p ∷ ps) c b = (between_le (suc p.index) ps c b.2, between_below (suc p.index) ps c b.2)

pub between_front : (n : ℕ) (xs ys : List Packet) (c : ℕ) → Between n (xs ++ ys) c → Between n xs c
between_front n [] ys c b = between_le n ys c b
between_front n (p ∷ xs) ys c b = (b.0, b.1, between_front (suc p.index) xs ys c b.2)

pub between_push : (n : ℕ) (xs : List Packet) (c : ℕ) (q : Packet) → q.index ≡ c → Numbered q → Between n xs c → Between n (xs ++ (q ∷ [])) (suc c)
between_push n [] c q e f b = (omega arith, f, omega arith)
between_push n (p ∷ xs) c q e f b = (b.0, b.1, between_push (suc p.index) xs c q e f b.2)

-- those before the last one
pub between_last : (n : ℕ) (xs : List Packet) (p : Packet) (c : ℕ) → Between n (xs ++ (p ∷ [])) c → Between n xs p.index
between_last n [] p c b = b.0
between_last n (x ∷ xs) p c b = (b.0, b.1, between_last (suc x.index) xs p c b.2)

-- once the latest packet is delivered, nothing is in flight
pub nothing_ahead : (n c : ℕ) (ds ps : List Packet) → AllByRecursion (Behind n) ds → Between n ps (suc c) → Delivered c ds → ps ≡ []
nothing_ahead n c ds [] h b d = refl
nothing_ahead n c ds (p ∷ ps) h b d =
    let s = all_any ds h d in
    let l = between_le (suc p.index) ps (suc c) b.2 in
    let i = b.0 in
    let j : s.0.index < n = s.1.0 in
    let k : s.0.index ≡ c = s.2 in
    absurd (omega arith)

pub delivered_below : (n k : ℕ) (ds : List Packet) → AllByRecursion (Behind n) ds → Delivered k ds → k < n
delivered_below n k ds h d = let s = all_any ds h d in let j : s.0.index < n = s.1.0 in let e : s.0.index ≡ k = s.2 in omega arith
