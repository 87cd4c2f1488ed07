-- A text read line by line, by the words of the reader and by those of scripts.
use Rattle.std.proofs.Common.{◌≡◌, ℕ, zero, suc, ◌+◌, ◌-◌, ◌<◌, ◌≤◌, Bool, true, false, ◌&&◌, ◌||◌, cond, eqb, ltb, leb, List, [], ◌∷◌, ◌++◌, length, get_or, slice_index, take, drop, IfSome, Some, None, Option, sym, refl, ap, subst, ◌∙◌, append-nil, append_assoc, drop-drop, true≢false, arith}
use Rattle.std.specs.Io.{StartsWith}
use Rattle.std.specs.Io.BufRead.{DropsConsumable, DropsThrough, drop_through, strip_last, take_through}
use Rattle.std.specs.Io.KnownBytes.{Keeps}
use Rattle.std.proofs.lemmas.Bool.{and_parts, le-leb, lt-ltb, ne_eqb}
use Rattle.std.proofs.lemmas.List.{drop-append-le, length-drop, take-append-drop}
use Rattle.hexadecimal.specs.Lines.{length_to, line_feed, line_length, line_of, lines_of, rest_of}
use Rattle.hexadecimal.proofs.Fronts.{lines_step}
use Rattle.model.specs.Models.{HubModel}
use Rattle.script.specs.Line.{passed_over}
use Rattle.stage.specs.Calls.{Makes, MakesAll, MakesScript}
use Rattle.stage.specs.Lines.{EndedLines, FrontOf, PassedLines, TakesLine, TakesNext, passes_first}
use Rattle.stage.specs.declared.lines.Front.TheVariants as front
use Rattle.stage.specs.declared.lines.Next.TheVariants as next
use Rattle.stage.specs.Reviews.{Reviewed}

-- what is left behind the first line feed
rest_is : (text : List ℕ) → drop_through line_feed text ≡ rest_of text
unfolding length_to
rest_is [] = refl
rest_is (b ∷ text) = go (eqb b line_feed) (rest_is text)
  where
    go : (t : Bool) → drop_through line_feed text ≡ drop (length_to line_feed text + 1) text
        → cond t text (drop_through line_feed text) ≡ drop (cond t 0 (suc (length_to line_feed text)) + 1) (b ∷ text)
    go true ih = refl
    go false ih =
        let e : suc (length_to line_feed text + 1) ≡ suc (length_to line_feed text) + 1 = omega arith in
        ih ∙ ap (λ (n : ℕ). drop n (b ∷ text)) e

strip_more : (n b c : ℕ) (r : List ℕ) → strip_last n (b ∷ c ∷ r) ≡ b ∷ strip_last n (c ∷ r)
strip_more n b c r =
    let e : suc (suc (length r)) - 1 ≡ suc (length r) = omega arith in
    let f : suc (length r) - 1 ≡ length r = omega arith in
    let p : leb 1 (suc (suc (length r))) ≡ true = le-leb 1 (suc (suc (length r))) (omega arith) in
    let q : leb 1 (suc (length r)) ≡ true = le-leb 1 (suc (length r)) (omega arith) in
    rw (e, f, p, q) (go (eqb (get_or (c ∷ r) (length r) 0) n))
  where
    go : (t : Bool) → cond t (b ∷ take (length r) (c ∷ r)) (b ∷ c ∷ r) ≡ b ∷ cond t (take (length r) (c ∷ r)) (c ∷ r)
    go true = refl
    go false = refl

strip_behind : (b : ℕ) (text : List ℕ) → eqb b line_feed ≡ false → strip_last line_feed (b ∷ take_through line_feed text) ≡ b ∷ strip_last line_feed (take_through line_feed text)
strip_behind b [] e = rw e refl
strip_behind b (c ∷ text) e = go (eqb c line_feed)
  where
    go : (t : Bool) → strip_last line_feed (b ∷ cond t (c ∷ []) (c ∷ take_through line_feed text)) ≡ b ∷ strip_last line_feed (cond t (c ∷ []) (c ∷ take_through line_feed text))
    go true = strip_more line_feed b c []
    go false = strip_more line_feed b c (take_through line_feed text)

-- the line is what is read up to the first line feed, but for that
line_is : (text : List ℕ) → strip_last line_feed (take_through line_feed text) ≡ line_of text
unfolding length_to
line_is [] = refl
line_is (b ∷ text) = go (eqb b line_feed) refl (line_is text)
  where
    go : (t : Bool) → eqb b line_feed ≡ t → strip_last line_feed (take_through line_feed text) ≡ take (length_to line_feed text) text
        → strip_last line_feed (cond t (b ∷ []) (b ∷ take_through line_feed text)) ≡ take (cond t 0 (suc (length_to line_feed text))) (b ∷ text)
    go true e ih = rw e refl
    go false e ih = strip_behind b text e ∙ ap (λ (xs : List ℕ). b ∷ xs) ih

-- what was read is a line, and the line feed behind it
pub taken : (old new : Option (List ℕ)) (read line : List ℕ) → IfSome old (λ xs. read ≡ take_through line_feed xs) → DropsThrough old new line_feed → line ≡ strip_last line_feed read
    → 0 < length read → TakesLine old new true line
taken None new read line bytes rest strip some = tt
taken (Some []) new read line bytes rest strip some = let none : length read ≡ 0 = ap length bytes in absurd (omega arith)
taken (Some (b ∷ text)) new read line bytes rest strip some =
    (omega arith, strip ∙ ap (strip_last line_feed) bytes ∙ line_is (b ∷ text), rest ∙ ap Some (rest_is (b ∷ text)))

-- the first byte tells whether the first line is passed over
first_tells : (b : ℕ) (text : List ℕ) → passes_first (b ∷ text) ≡ (eqb b line_feed || eqb b 35)
unfolding length_to
first_tells b text = go (eqb b line_feed)
  where
    some : ltb 0 (length (b ∷ text)) ≡ true
    some = lt-ltb 0 (length (b ∷ text)) (omega arith)

    go : (t : Bool) → (ltb 0 (length (b ∷ text)) && passed_over (take (cond t 0 (suc (length_to line_feed text))) (b ∷ text))) ≡ (t || eqb b 35)
    go true = rw some refl
    go false =
        let long : eqb (suc (length (take (length_to line_feed text) text))) 0 ≡ false = ne_eqb _ _ (λ e. omega (arith, e)) in
        rw (some, long) refl

pub passes_by_first : (text : List ℕ) → 0 < length text → passes_first text ≡ (eqb (slice_index text 0) line_feed || eqb (slice_index text 0) 35)
passes_by_first [] some = absurd (omega arith)
passes_by_first (b ∷ text) some = first_tells b text

pub passes_some : (text : List ℕ) → passes_first text ≡ true → 0 < length text
passes_some [] passes = absurd (true≢false (sym passes))
passes_some (b ∷ text) passes = omega arith

passes_line : (text : List ℕ) → passes_first text ≡ true → passed_over (line_of text) ≡ true
passes_line text passes = (and_parts (ltb 0 (length text)) (passed_over (line_of text)) passes).1

-- one line more is passed over
pub ended_more : (n : ℕ) (text mid : List ℕ) → EndedLines n text mid → passes_first mid ≡ true → line_length mid < length mid → EndedLines (suc n) text (rest_of mid)
ended_more zero text mid before passes ends = subst (λ (xs : List ℕ). EndedLines 1 xs (rest_of mid)) before (passes, ends, refl)
ended_more (suc n) text mid before passes ends = (before.0, before.1, ended_more n (rest_of text) mid before.2 passes ends)

-- what is left is the end of the text
pub ended_rest : (n : ℕ) (text rest : List ℕ) → EndedLines n text rest → (n + length rest ≤ length text) × (drop (length text - length rest) text ≡ rest)
ended_rest zero text rest ended =
    let none : length text - length rest ≡ 0 = omega (arith, ap length ended) in
    (omega (arith, ap length ended), rw none (sym ended))
ended_rest (suc n) text rest ended =
    let k = line_length text + 1 in
    let ih = ended_rest n (rest_of text) rest ended.2 in
    let size : length (rest_of text) ≡ length text - k = length-drop k text in
    let far : length text - length rest ≡ k + (length (rest_of text) - length rest) = omega (arith, size, ih.0, ended.1) in
    (omega (arith, size, ih.0, ended.1), rw far (sym (drop-drop (length (rest_of text) - length rest) k text) ∙ ih.1))

-- a line that has ended stays what it is, whatever follows
length_front : (shown tail : List ℕ) → line_length shown < length shown → line_length (shown ++ tail) ≡ line_length shown
unfolding length_to
length_front [] tail ends = absurd (omega arith)
length_front (b ∷ shown) tail ends = go (eqb b line_feed) ends (length_front shown tail)
  where
    go : (t : Bool) → cond t 0 (suc (length_to line_feed shown)) < suc (length shown)
        → (length_to line_feed shown < length shown → length_to line_feed (shown ++ tail) ≡ length_to line_feed shown)
        → cond t 0 (suc (length_to line_feed (shown ++ tail))) ≡ cond t 0 (suc (length_to line_feed shown))
    go true ends ih = refl
    go false ends ih = ap suc (ih (omega arith))

passes_front : (shown tail : List ℕ) → passes_first shown ≡ true → passes_first (shown ++ tail) ≡ true
passes_front [] tail passes = absurd (true≢false (sym passes))
passes_front (b ∷ shown) tail passes = first_tells b (shown ++ tail) ∙ sym (first_tells b shown) ∙ passes

ended_whole : (n : ℕ) (shown rest tail : List ℕ) → EndedLines n shown rest → PassedLines n (shown ++ tail) (rest ++ tail)
ended_whole zero shown rest tail ended = ap (λ (xs : List ℕ). xs ++ tail) ended
ended_whole (suc n) shown rest tail ended =
    let left : rest_of (shown ++ tail) ≡ rest_of shown ++ tail =
    ap (λ (k : ℕ). drop (k + 1) (shown ++ tail)) (length_front shown tail ended.1) ∙ drop-append-le (line_length shown + 1) shown tail (omega (arith, ended.1)) in
    (passes_front shown tail ended.0, subst (λ (xs : List ℕ). PassedLines n xs (rest ++ tail)) (sym left) (ended_whole n (rest_of shown) rest tail ended.2))

-- The bytes shown are those that the text begins with. The lines in them that are passed over are consumed,
pub front_passed : (old mid new : Option (List ℕ)) (limit : Option ℕ) (shown : List ℕ) (n k : ℕ) → (n ≡ 0 → ⊥) → k ≤ length shown → EndedLines n shown (drop k shown)
    → IfSome old (λ text. StartsWith text shown) → Keeps old mid → IfSome old (λ _. IfSome limit (λ m. length shown ≤ m)) → DropsConsumable mid new limit k → FrontOf old new (front.Passed n)
front_passed None mid new limit shown n k some within ended shows kept fits drops = tt
front_passed (Some text) None new limit shown n k some within ended shows kept fits drops = absurd kept
front_passed (Some text) (Some rest) new limit shown n k some within ended shows kept fits drops =
    let tail = drop (length shown) text in
    let whole : shown ++ tail ≡ text = ap (λ (xs : List ℕ). xs ++ tail) (sym shows) ∙ take-append-drop (length shown) text in
    let left : drop k text ≡ drop k shown ++ tail = ap (drop k) (sym whole) ∙ drop-append-le k shown tail within in (
      omega (arith, some),
      drop k shown ++ tail,
      subst (λ (xs : List ℕ). PassedLines n xs (drop k shown ++ tail)) whole (ended_whole n shown (drop k shown) tail ended),
      drops (room limit fits) ∙ ap (λ (xs : List ℕ). Some (drop k xs)) kept ∙ ap Some left,
    )
  where
    room : (o : Option ℕ) → IfSome o (λ m. length shown ≤ m) → IfSome o (λ m. k ≤ m)
    room None fit = tt
    room (Some m) fit = omega arith

-- and one that has not come whole is skipped.
pub front_skipped : (old mid new : Option (List ℕ)) (shown : List ℕ) → passes_first shown ≡ true → IfSome old (λ text. StartsWith text shown) → Keeps old mid → DropsThrough mid new line_feed
    → FrontOf old new (front.Passed 1)
front_skipped None mid new shown passes shows kept drops = tt
front_skipped (Some text) None new shown passes shows kept drops = absurd kept
front_skipped (Some text) (Some rest) new shown passes shows kept drops =
    let whole : shown ++ drop (length shown) text ≡ text = ap (λ (xs : List ℕ). xs ++ drop (length shown) text) (sym shows) ∙ take-append-drop (length shown) text in (
      omega arith,
      rest_of text,
      (subst (λ (xs : List ℕ). passes_first xs ≡ true) whole (passes_front shown (drop (length shown) text) passes), refl),
      drops ∙ ap (λ (xs : List ℕ). Some (drop_through line_feed xs)) kept ∙ ap Some (rest_is text),
    )

-- one line more is made
made_more : (lines : List (List ℕ)) (text : List ℕ) (h : HubModel) (r : Reviewed) (k : HubModel) (m : Reviewed) (g : HubModel) (q : Reviewed)
    → MakesAll lines h r k m → Makes text k m g q → MakesAll (lines ++ text ∷ []) h r g q
made_more [] text h r k m g q before made =
    (g, q, subst (λ (x : HubModel). Makes text x r g q) before.0 (subst (λ (y : Reviewed). Makes text k y g q) before.1 made), (refl, refl))
made_more (line ∷ lines) text h r k m g q before made = (before.0, before.1, before.2, made_more lines text before.0 before.1 k m g q before.3 made)

-- some lines were made; where it is known what there was to read, they are the first lines of that, and the others are left
abbrev pub MadeSoFar : Option (List ℕ) → Option (List ℕ) → HubModel → Reviewed → HubModel → Reviewed → Type 0
MadeSoFar old new h r g q = (lines : List (List ℕ)) × IfSome old (λ text. (rest : List ℕ) × (new ≡ Some rest) × (lines_of text ≡ lines ++ lines_of rest)) × MakesAll lines h r g q

pub none_made : (known : Option (List ℕ)) (h : HubModel) (r : Reviewed) → MadeSoFar known known h r h r
none_made None h r = ([], tt, (refl, refl))
none_made (Some text) h r = ([], (text, refl, refl), (refl, refl))

pub more_made : (old mid new : Option (List ℕ)) (line : List ℕ) (h : HubModel) (r : Reviewed) (k : HubModel) (m : Reviewed) (g : HubModel) (q : Reviewed)
    → MadeSoFar old mid h r k m → TakesLine mid new true line → Makes line k m g q → MadeSoFar old new h r g q
more_made None mid new line h r k m g q before there made = (before.0 ++ line ∷ [], tt, made_more before.0 line h r k m g q before.2 made)
more_made (Some text) mid new line h r k m g q before there made =
    let rest = before.1.0 in
    let first = subst (λ (o : Option (List ℕ)). TakesLine o new true line) before.1.1 there in
    let lines = before.0 in (
      lines ++ line ∷ [],
      (
        rest_of rest,
        first.2,
        before.1.2
            ∙ ap (λ (xs : List (List ℕ)). lines ++ xs) (lines_step rest first.0 ∙ ap (λ (x : List ℕ). x ∷ lines_of (rest_of rest)) (sym first.1))
            ∙ sym (append_assoc lines (line ∷ []) (lines_of (rest_of rest))),
      ),
      made_more lines line h r k m g q before.2 made,
    )

pub all_made : (old mid new : Option (List ℕ)) (line : List ℕ) (h : HubModel) (r : Reviewed) (k : HubModel) (m : Reviewed)
    → MadeSoFar old mid h r k m → TakesLine mid new false line → MakesScript old h r k m
unfolding lines_of
all_made None mid new line h r k m before there = (before.0, tt, before.2)
all_made (Some text) mid new line h r k m before there =
    let end = subst (λ (o : Option (List ℕ)). TakesLine o new false line) before.1.1 there in
    (before.0, sym (append-nil before.0) ∙ ap (λ (xs : List ℕ). before.0 ++ lines_of xs) (sym end) ∙ sym before.1.2, before.2)

-- a line that is passed over makes nothing
passed_makes : (text : List ℕ) (g : HubModel) (q : Reviewed) → passed_over text ≡ true → Makes text g q g q
passed_makes text g q e = rw e (refl, refl)

passed_made : (old : Option (List ℕ)) (n : ℕ) (text rest : List ℕ) (h : HubModel) (r : Reviewed) (g : HubModel) (q : Reviewed)
    → PassedLines n text rest → MadeSoFar old (Some text) h r g q → MadeSoFar old (Some rest) h r g q
passed_made old zero text rest h r g q passed before = subst (λ (xs : List ℕ). MadeSoFar old (Some xs) h r g q) (sym passed) before
passed_made old (suc n) text rest h r g q passed before =
    passed_made old n (rest_of text) rest h r g q passed.1
    (more_made old (Some text) (Some (rest_of text)) (line_of text) h r g q g q before (passes_some text passed.0, refl, refl) (passed_makes (line_of text) g q (passes_line text passed.0)))

pub none_more : (old mid new : Option (List ℕ)) (line : List ℕ) (h : HubModel) (r : Reviewed) (g : HubModel) (q : Reviewed)
    → MadeSoFar old mid h r g q → TakesNext mid new next.Passed line → MadeSoFar old new h r g q
none_more None mid new line h r g q before passed = before
none_more (Some text) mid new line h r g q before passed =
    let left = subst (λ (o : Option (List ℕ)). TakesNext o new next.Passed line) before.1.1 passed in
    let there = subst (λ (o : Option (List ℕ)). MadeSoFar (Some text) o h r g q) before.1.1 before in
    subst (λ (o : Option (List ℕ)). MadeSoFar (Some text) o h r g q) (sym left.4) (passed_made (Some text) left.0 before.1.0 left.2 h r g q left.3 there)
