-- The reader against the grammar: whatever is spelled is read, and whatever is read is spelled.
use Rattle.std.proofs.Common.{◌≡◌, ℕ, zero, suc, ◌+◌, ◌-◌, ◌*◌, ◌<◌, ◌≤◌, Bool, true, false, cond, not, eqb, List, [], ◌∷◌, ◌++◌, length, get_or, take, drop, Some, None, Ok, Err, Option, Result, ◌≢◌, ℤ, sym, refl, ap, ◌∙◌, subst, ⊎_elim, arith}
use lib.Bits.{bit_and}
use Rattle.std.proofs.lemmas.List.{drop_at, drop_more, length-append, length-drop, length-take, length-take-le, take-append-drop}
use Rattle.std.proofs.lemmas.Bool.{cases_Bool, cond-false, cond-true, eq-eqb, eqb-false, eqb-true, le-ltb, ltb-false, ne_eqb, not-false, not_from_false, not_from_true, not-true, or_from, or_parts}
use Rattle.fault.specs.declared.Fault.{Fault}
use Rattle.kind.specs.Layout.{Layout, Whole, broken, read_of, word}
use Rattle.kind.specs.Kinds.{state, control, edit_value, real_value, event, flags, no_actor, some_actor, temperature}
use Rattle.kind.proofs.Messages.{accepted, passed_over}
use Rattle.packet.specs.declared.message.Record.{Record}
use Rattle.packet.specs.declared.message.Record.TheVariants.{State, Control, EditValue, RealValue, Event, Temperature}
use Rattle.packet.specs.declared.message.Message.{Message}
use Rattle.packet.specs.declared.message.Message.TheVariants.{Known, Unknown}
use Rattle.packet.specs.Grammar as grammar
use Rattle.packet.specs.Grammar.{Grammar, Lists, NoKind, Says, Spells}
use Rattle.packet.specs.Messages.{followed, message_of, messages_of, tried}
use Rattle.packet.specs.Reading.{behind, messages_from, reading_of}
use Rattle.packet.specs.Words.{descriptor_of, major, words_of}
use Rattle.packet.specs.declared.descriptor.Descriptor.{Descriptor}
use Rattle.packet.proofs.Steps.{none_left, one_then, stops}

-- The choice of a kind.

-- a message that is not of a kind is left to the kinds after it
left_over : {R : Type 0} (f : ℕ → R → Record) (x : Result (Option (ℕ × R)) Fault) (others : Result Message Fault) → x ≡ Ok None → tried f x others ≡ others
left_over f x others e = ap (λ r. tried f r others) e

-- what the kinds from one on make of a message
abbrev from_temperature : List ℕ → ℕ → Result Message Fault
from_temperature s place = tried (λ _ r. Temperature r) (read_of temperature s place) (Ok (Unknown (get_or s 1 0)))

abbrev from_event : List ℕ → ℕ → Result Message Fault
from_event s place = tried Event (read_of event s place) (from_temperature s place)

abbrev from_real_value : List ℕ → ℕ → Result Message Fault
from_real_value s place = tried RealValue (read_of real_value s place) (from_event s place)

abbrev from_edit_value : List ℕ → ℕ → Result Message Fault
from_edit_value s place = tried EditValue (read_of edit_value s place) (from_real_value s place)

abbrev from_control : List ℕ → ℕ → Result Message Fault
from_control s place = tried (λ _ r. Control r) (read_of control s place) (from_edit_value s place)

module _ (s : List ℕ) (place : ℕ) (whole : Whole s) where
  -- a whole message of a kind: its reader answers for it
  pub taken : {R : Type 0} (k : Layout R) (f : ℕ → R → Record) (others : Result Message Fault) → get_or s 1 0 ≡ k.ident → get_or s 0 0 ≡ k.size → k.admits (word s 2) ≡ true
      → tried f (read_of k s place) others ≡ Ok (Known (f (word s 2) (k.decode (take (k.size - 4) (drop 4 s)))))
  taken k f others id same admitted = ap (λ x. tried f x others) (accepted k s place whole id same admitted)

  pub past_state : (get_or s 1 0 ≢ 0x01) → message_of s place ≡ from_control s place
  past_state n = left_over (λ _ r. State r) _ _ (passed_over state s place whole n)

  pub past_control : (get_or s 1 0 ≢ 0x01) → (get_or s 1 0 ≢ 0x21) → message_of s place ≡ from_edit_value s place
  past_control m n = past_state m ∙ left_over (λ _ r. Control r) _ _ (passed_over control s place whole n)

  pub past_edit_value : (get_or s 1 0 ≢ 0x01) → (get_or s 1 0 ≢ 0x21) → (get_or s 1 0 ≢ 0x42) → message_of s place ≡ from_real_value s place
  past_edit_value l m n = past_control l m ∙ left_over EditValue _ _ (passed_over edit_value s place whole n)

  pub past_real_value : (get_or s 1 0 ≢ 0x01) → (get_or s 1 0 ≢ 0x21) → (get_or s 1 0 ≢ 0x42) → (get_or s 1 0 ≢ 0x43) → message_of s place ≡ from_event s place
  past_real_value k l m n = past_edit_value k l m ∙ left_over RealValue _ _ (passed_over real_value s place whole n)

  pub past_event : (get_or s 1 0 ≢ 0x01) → (get_or s 1 0 ≢ 0x21) → (get_or s 1 0 ≢ 0x42) → (get_or s 1 0 ≢ 0x43) → (get_or s 1 0 ≢ 0x51) → message_of s place ≡ from_temperature s place
  past_event j k l m n = past_real_value j k l m ∙ left_over Event _ _ (passed_over event s place whole n)

  past_all : NoKind (get_or s 1 0) → message_of s place ≡ Ok (Unknown (get_or s 1 0))
  past_all n = past_event n.state n.control n.edit_value n.real_value n.event ∙ left_over (λ _ r. Temperature r) _ _ (passed_over temperature s place whole n.temperature)

-- Spelled, then read.

abbrev MessageReads : List ℕ → Message → Type 0
MessageReads bytes m = (rest : List ℕ) (place : ℕ) → (message_of (bytes ++ rest) place ≡ Ok m) × (get_or (bytes ++ rest) 0 0 ≡ length bytes) × (4 ≤ length bytes)

pub says_reads : (bytes : List ℕ) (m : Message) → Says bytes m → MessageReads bytes m
says_reads _ _ (grammar.Says.state a b c d) rest place =
    let s : List ℕ = 8 ∷ 0x01 ∷ 0 ∷ 0 ∷ a ∷ b ∷ c ∷ d ∷ rest in
    let whole : Whole s = (omega arith, omega arith, omega arith) in
    (taken s place whole state (λ _ r. State r) _ refl refl refl, refl, omega arith)
says_reads _ _ (grammar.Says.control a b c d) rest place =
    let s : List ℕ = 8 ∷ 0x21 ∷ 0 ∷ 0 ∷ a ∷ b ∷ c ∷ d ∷ rest in
    let whole : Whole s = (omega arith, omega arith, omega arith) in
    (past_state s place whole (λ e. omega arith) ∙ taken s place whole control (λ _ r. Control r) _ refl refl refl, refl, omega arith)
says_reads _ _ (grammar.Says.edit_value lo hi a b some) rest place =
    let s : List ℕ = 6 ∷ 0x42 ∷ lo ∷ hi ∷ a ∷ b ∷ rest in
    let whole : Whole s = (omega arith, omega arith, omega arith) in
    (past_control s place whole (λ e. omega arith) (λ e. omega arith) ∙ taken s place whole edit_value EditValue _ refl refl (not_from_false _ (ne_eqb (lo + hi * 256) 0 some)), refl, omega arith)
says_reads _ _ (grammar.Says.real_value lo hi a b some) rest place =
    let s : List ℕ = 6 ∷ 0x43 ∷ lo ∷ hi ∷ a ∷ b ∷ rest in
    let whole : Whole s = (omega arith, omega arith, omega arith) in
    (past_edit_value s place whole (λ e. omega arith) (λ e. omega arith) (λ e. omega arith) ∙ taken s place whole real_value RealValue _ refl refl (not_from_false _ (ne_eqb (lo + hi * 256) 0 some)), refl, omega arith)
says_reads _ _ (grammar.Says.event lo hi key reserved some) rest place =
    let s : List ℕ = 6 ∷ 0x51 ∷ lo ∷ hi ∷ key ∷ reserved ∷ rest in
    let whole : Whole s = (omega arith, omega arith, omega arith) in
    (past_real_value s place whole (λ e. omega arith) (λ e. omega arith) (λ e. omega arith) (λ e. omega arith) ∙ taken s place whole event Event _ refl refl (not_from_false _ (ne_eqb (lo + hi * 256) 0 some)), refl, omega arith)
says_reads _ _ (grammar.Says.temperature a b reserved) rest place =
    let s : List ℕ = 8 ∷ 0x71 ∷ 0 ∷ 0 ∷ a ∷ b ∷ 1 ∷ reserved ∷ rest in
    let whole : Whole s = (omega arith, omega arith, omega arith) in
    (past_event s place whole (λ e. omega arith) (λ e. omega arith) (λ e. omega arith) (λ e. omega arith) (λ e. omega arith) ∙ taken s place whole temperature (λ _ r. Temperature r) _ refl refl refl, refl, omega arith)
says_reads _ _ (grammar.Says.absent a b valid reserved no_valid) rest place =
    let s : List ℕ = 8 ∷ 0x71 ∷ 0 ∷ 0 ∷ a ∷ b ∷ valid ∷ reserved ∷ rest in
    let whole : Whole s = (omega arith, omega arith, omega arith) in
    let read = past_event s place whole (λ e. omega arith) (λ e. omega arith) (λ e. omega arith) (λ e. omega arith) (λ e. omega arith) ∙ taken s place whole temperature (λ _ r. Temperature r) _ refl refl refl in
    (read ∙ ap (λ r. Ok (Known (Temperature r))) (cond-false _ _ _ (ne_eqb valid 1 no_valid)), refl, omega arith)
says_reads _ _ (grammar.Says.unknown ident lo hi content no_kind) rest place =
    let s : List ℕ = (4 + length content) ∷ ident ∷ lo ∷ hi ∷ (content ++ rest) in
    let long : length s ≡ 4 + length content + length rest = simp length-append (omega arith) in
    let whole : Whole s = (omega arith, omega arith, omega arith) in
    (past_all s place whole no_kind, omega arith, omega arith)

pub lists_read : (place : ℕ) (s : List ℕ) (ms : List (ℕ × Message)) → Lists place s ms → messages_of s 0 place ≡ Ok ms
lists_read _ _ _ (grammar.Lists.end place) = none_left [] place refl
lists_read _ _ _ (grammar.Lists.next place bytes rest m ms says lists) =
    let s : List ℕ = bytes ++ rest in
    let r = says_reads bytes m says rest place in
    let long : length s ≡ length bytes + length rest = length-append bytes rest in
    let more : messages_of (drop (get_or s 0 0) s) 0 (place + get_or s 0 0) ≡ Ok ms =
    ap (λ (n : ℕ). messages_of (drop n s) 0 (place + n)) r.1
    ∙ ap (λ (l : List ℕ). messages_of l 0 (place + length bytes)) (drop_at bytes rest (length bytes) refl)
    ∙ lists_read (place + length bytes) rest ms lists in
    one_then s place (omega arith) (omega arith)
    ∙ ap (λ x. followed place x (messages_of (drop (get_or s 0 0) s) 0 (place + get_or s 0 0))) r.0
    ∙ ap (followed place (Ok m)) more

-- Read, then spelled.

-- the elements of a list one by one
abbrev elements : ℕ → List ℕ → ℕ → List ℕ
elements zero s at = []
elements (suc n) s at = get_or s at 0 ∷ elements n s (at + 1)

front : (n : ℕ) (s : List ℕ) (at : ℕ) → at + n ≤ length s → take n (drop at s) ≡ elements n s at
front zero s at h = refl
front (suc n) s at h = ap (take (suc n)) (drop_more s at 0 (omega arith)) ∙ ap (λ (l : List ℕ). get_or s at 0 ∷ l) (front n s (at + 1) (omega arith))

as_said : {bytes spelled : List ℕ} {m said : Message} → bytes ≡ spelled → m ≡ said → Says spelled said → Says bytes m
as_said {spelled = spelled} {m = m} e f says = subst (λ (b : List ℕ). Says b m) (sym e) (subst (λ (x : Message). Says spelled x) (sym f) says)

-- a check that was passed, where an answer came
pub past : {X E : Type 0} (b : Bool) (f : E) (x : Result X E) (y : X) → cond b (Err f) x ≡ Ok y → (b ≡ false) × (x ≡ Ok y)
past true f x y e = let z : ◌≡◌ {A = ℕ} 0 1 = cc in absurd (omega arith)
past false f x y e = (refl, e)

pub same_answer : {X E : Type 0} (x y : X) → ◌≡◌ {A = Result X E} (Ok x) (Ok y) → x ≡ y
same_answer x y e = cc

clash : {X Y : Type 0} (x : X) (e : Y) {P : Type 0} → ◌≡◌ {A = Result X Y} (Ok x) (Err e) → P
clash x e h = let z : ◌≡◌ {A = ℕ} 0 1 = cc in absurd (omega arith)

some_none : {X E : Type 0} (x : X) {P : Type 0} → ◌≡◌ {A = Result (Option X) E} (Ok (Some x)) (Ok None) → P
some_none x h = let z : ◌≡◌ {A = ℕ} 0 1 = cc in absurd (omega arith)

same_some : {X E : Type 0} (x y : X) → ◌≡◌ {A = Result (Option X) E} (Ok (Some x)) (Ok (Some y)) → x ≡ y
same_some x y e = cc

-- a test that was passed, where something came, or nothing
past_none : {X E : Type 0} (b : Bool) (x : Result (Option X) E) (y : X) → cond b (Ok None) x ≡ Ok (Some y) → (b ≡ false) × (x ≡ Ok (Some y))
past_none true x y e = some_none y (sym e)
past_none false x y e = (refl, e)

-- what a whole message's head says
whole_from : (s : List ℕ) → broken s ≡ false → (4 ≤ length s) × (4 ≤ get_or s 0 0) × (get_or s 0 0 ≤ length s)
whole_from s e =
    let p = or_parts _ _ e in
    let q = or_parts _ _ p.1 in
    (ltb-false (length s) 4 p.0, ltb-false (get_or s 0 0) 4 q.0, ltb-false (length s) (get_or s 0 0) q.1)

-- what a kind's reader has seen where it answers
seen : {R : Type 0} (k : Layout R) (s : List ℕ) (place : ℕ) (p : ℕ × R) → read_of k s place ≡ Ok (Some p)
    → (get_or s 1 0 ≡ k.ident) × (get_or s 0 0 ≡ k.size) × (k.admits (word s 2) ≡ true) × (p ≡ (word s 2, k.decode (take (k.size - 4) (drop 4 s))))
seen k s place p e =
    let whole = past (broken s) _ _ (Some p) e in
    let id = past_none (not (eqb (get_or s 1 0) k.ident)) _ p whole.1 in
    let size = past (not (eqb (get_or s 0 0) k.size)) _ _ (Some p) id.1 in
    let rule = past (not (k.admits (word s 2))) _ _ (Some p) size.1 in
    (eqb-true _ _ (not-false _ id.0), eqb-true _ _ (not-false _ size.0), not-false _ rule.0, sym (same_some _ _ rule.1))

-- and where it passes a message over
unlike : {R : Type 0} (k : Layout R) (s : List ℕ) (place : ℕ) → read_of k s place ≡ Ok None → (get_or s 1 0 ≢ k.ident)
unlike k s place e = ⊎_elim
    (λ (same : eqb (get_or s 1 0) k.ident ≡ true).
    let whole = past (broken s) _ _ None e in
    let id = sym (cond-false _ _ _ (not-from-true same)) ∙ whole.1 in
    let size = past (not (eqb (get_or s 0 0) k.size)) _ _ None id in
    let rule = past (not (k.admits (word s 2))) _ _ None size.1 in
    some_none _ rule.1)
    (λ other. eqb-false _ _ other)
    (cases_Bool (eqb (get_or s 1 0) k.ident))
  where
    not-from-true : {b : Bool} → b ≡ true → not b ≡ false
    not-from-true e = not_from_true _ e

-- a kind's reader tells a message, or leaves it to the others
by_turn : {R : Type 0} (f : ℕ → R → Record) (x : Result (Option (ℕ × R)) Fault) (others : Result Message Fault) (m : Message) {P : Type 0} → tried f x others ≡ Ok m
    → ((p : ℕ × R) → x ≡ Ok (Some p) → m ≡ Known (f p.0 p.1) → P) → (x ≡ Ok None → others ≡ Ok m → P) → P
by_turn f (Ok (Some p)) others m e told left = told p refl cc
by_turn f (Ok None) others m e told left = left refl e
by_turn f (Err g) others m e told left = clash m g (sym e)

module _ (s : List ℕ) (place : ℕ) (m : Message) (whole : broken s ≡ false) where
  sized : 4 ≤ length s
  sized = (whole_from s whole).0

  room : get_or s 0 0 ≤ length s
  room = (whole_from s whole).2

  -- a message of eight bytes that concerns the switch as a whole: its bytes, and what it is read as
  eight_says : {R : Type 0} (k : Layout R) (f : R → Record) → k.size ≡ 8 → k.admits ≡ no_actor → (p : ℕ × R) → read_of k s place ≡ Ok (Some p) → m ≡ Known (f p.1)
      → (take (get_or s 0 0) s ≡ 8 ∷ k.ident ∷ 0 ∷ 0 ∷ get_or s 4 0 ∷ get_or s 5 0 ∷ get_or s 6 0 ∷ get_or s 7 0 ∷ [])
      × (m ≡ Known (f (k.decode (get_or s 4 0 ∷ get_or s 5 0 ∷ get_or s 6 0 ∷ get_or s 7 0 ∷ []))))
  eight_says {R} k f eight rule p is e =
      let t = seen k s place p is in
      let id = t.0 in
      let size : get_or s 0 0 ≡ 8 = t.1 ∙ eight in
      let zero_actor : word s 2 ≡ 0 = eqb-true _ _ (sym (ap (λ (p : ℕ → Bool). p (word s 2)) rule) ∙ t.2) in
      let long = room in
      let lo : get_or s 2 0 ≡ 0 = omega arith in
      let hi : get_or s 3 0 ≡ 0 = omega arith in
      let parts = front 8 s 0 (omega arith) in
      let bytes : take 8 s ≡ 8 ∷ k.ident ∷ 0 ∷ 0 ∷ get_or s 4 0 ∷ get_or s 5 0 ∷ get_or s 6 0 ∷ get_or s 7 0 ∷ [] = cc in
      let content : take (k.size - 4) (drop 4 s) ≡ get_or s 4 0 ∷ get_or s 5 0 ∷ get_or s 6 0 ∷ get_or s 7 0 ∷ [] = ap (λ (n : ℕ). take (n - 4) (drop 4 s)) eight ∙ front 4 s 4 (omega arith) in
      (ap (λ (n : ℕ). take n s) size ∙ bytes, e ∙ ap (λ (q : ℕ × R). Known (f q.1)) t.3 ∙ ap (λ (l : List ℕ). Known (f (k.decode l))) content)

  flags_says : (ident mask : ℕ) (f : ℕ → Record)
      → ((a b c d : ℕ) → Says (8 ∷ ident ∷ 0 ∷ 0 ∷ a ∷ b ∷ c ∷ d ∷ []) (Known (f (bit_and (a + b * 256 + c * 65536 + d * 16777216) mask))))
      → (p : ℕ × ℕ) → read_of (flags ident mask) s place ≡ Ok (Some p) → m ≡ Known (f p.1) → Says (take (get_or s 0 0) s) m
  flags_says ident mask f says p is e =
      let t = eight_says (flags ident mask) f refl refl p is e in
      as_said t.0 t.1 (says (get_or s 4 0) (get_or s 5 0) (get_or s 6 0) (get_or s 7 0))

  pair_says : {R : Type 0} (k : Layout R) (f : ℕ → R → Record) → k.size ≡ 6 → k.admits ≡ some_actor
      → ((lo hi a b : ℕ) → (lo + hi * 256 ≡ 0 → ⊥) → Says (6 ∷ k.ident ∷ lo ∷ hi ∷ a ∷ b ∷ []) (Known (f (lo + hi * 256) (k.decode (a ∷ b ∷ [])))))
      → (p : ℕ × R) → read_of k s place ≡ Ok (Some p) → m ≡ Known (f p.0 p.1) → Says (take (get_or s 0 0) s) m
  pair_says {R} k f six rule says p is e =
      let t = seen k s place p is in
      let id = t.0 in
      let size : get_or s 0 0 ≡ 6 = t.1 ∙ six in
      let some : word s 2 ≢ 0 = eqb-false _ _ (not-true _ (sym (ap (λ (p : ℕ → Bool). p (word s 2)) rule) ∙ t.2)) in
      let long = room in
      let parts = front 6 s 0 (omega arith) in
      let bytes : take 6 s ≡ 6 ∷ k.ident ∷ get_or s 2 0 ∷ get_or s 3 0 ∷ get_or s 4 0 ∷ get_or s 5 0 ∷ [] = cc in
      let content : take (k.size - 4) (drop 4 s) ≡ get_or s 4 0 ∷ get_or s 5 0 ∷ [] = ap (λ (n : ℕ). take (n - 4) (drop 4 s)) six ∙ front 2 s 4 (omega arith) in
      as_said (ap (λ (n : ℕ). take n s) size ∙ bytes) (e ∙ ap (λ (q : ℕ × R). Known (f q.0 q.1)) t.3 ∙ ap (λ (l : List ℕ). Known (f (word s 2) (k.decode l))) content)
      (says (get_or s 2 0) (get_or s 3 0) (get_or s 4 0) (get_or s 5 0) some)

  temperature_says : (p : ℕ × Option ℤ) → read_of temperature s place ≡ Ok (Some p) → m ≡ Known (Temperature p.1) → Says (take (get_or s 0 0) s) m
  temperature_says p is e =
      let t = eight_says temperature Temperature refl refl p is e in
      let spelled = t.0 in
      let said = t.1 in
      ⊎_elim
      (λ valid.
      let one : get_or s 6 0 ≡ 1 = eqb-true _ _ valid in
      as_said (spelled ∙ ap (λ (v : ℕ). 8 ∷ 0x71 ∷ 0 ∷ 0 ∷ get_or s 4 0 ∷ get_or s 5 0 ∷ v ∷ get_or s 7 0 ∷ []) one) (said ∙ ap (λ r. Known (Temperature r)) (cond-true _ _ _ valid))
      (grammar.Says.temperature (get_or s 4 0) (get_or s 5 0) (get_or s 7 0)))
      (λ invalid. as_said spelled (said ∙ ap (λ r. Known (Temperature r)) (cond-false _ _ _ invalid)) (grammar.Says.absent (get_or s 4 0) (get_or s 5 0) (get_or s 6 0) (get_or s 7 0) (eqb-false _ _ invalid)))
      (cases_Bool (eqb (get_or s 6 0) 1))

  unknown_says : NoKind (get_or s 1 0) → ◌≡◌ {A = Result Message Fault} (Ok (Unknown (get_or s 1 0))) (Ok m) → Says (take (get_or s 0 0) s) m
  unknown_says no_kind e =
      let w = whole_from s whole in
      let k : ℕ = get_or s 0 0 - 4 in
      let unrolled : s ≡ get_or s 0 0 ∷ get_or s 1 0 ∷ get_or s 2 0 ∷ get_or s 3 0 ∷ drop 4 s = sym (take-append-drop 4 s) ∙ ap (λ (l : List ℕ). l ++ drop 4 s) (front 4 s 0 (omega arith)) in
      let long : length (take k (drop 4 s)) ≡ k = simp (length-take, length-drop) (omega arith) in
      let size : get_or s 0 0 ≡ 4 + length (take k (drop 4 s)) = omega arith in
      let four_more : get_or s 0 0 ≡ suc (suc (suc (suc k))) = omega arith in
      let bytes : take (get_or s 0 0) s ≡ (4 + length (take k (drop 4 s))) ∷ get_or s 1 0 ∷ get_or s 2 0 ∷ get_or s 3 0 ∷ take k (drop 4 s) =
      ap (λ (n : ℕ). take n s) four_more ∙ ap (take (suc (suc (suc (suc k))))) unrolled ∙ ap (λ (n : ℕ). n ∷ get_or s 1 0 ∷ get_or s 2 0 ∷ get_or s 3 0 ∷ take k (drop 4 s)) size in
      let said : m ≡ Unknown (get_or s 1 0) = cc in
      as_said bytes said (grammar.Says.unknown (get_or s 1 0) (get_or s 2 0) (get_or s 3 0) (take k (drop 4 s)) no_kind)

  -- the kind that has the MessageID read the message, or no kind has it
  kind_says : message_of s place ≡ Ok m → Says (take (get_or s 0 0) s) m
  kind_says e =
      by_turn (λ _ r. State r) _ _ m e (flags_says 0x01 0x1F0F18FF State grammar.Says.state) (λ no₁ e₁.
      by_turn (λ _ r. Control r) _ _ m e₁ (flags_says 0x21 0x1F00FFBF Control grammar.Says.control) (λ no₂ e₂.
      by_turn EditValue _ _ m e₂ (pair_says edit_value EditValue refl refl grammar.Says.edit_value) (λ no₃ e₃.
      by_turn RealValue _ _ m e₃ (pair_says real_value RealValue refl refl grammar.Says.real_value) (λ no₄ e₄.
      by_turn Event _ _ m e₄ (pair_says event Event refl refl grammar.Says.event) (λ no₅ e₅.
      by_turn (λ _ r. Temperature r) _ _ m e₅ temperature_says (λ no₆.
      unknown_says (record {
        state = unlike state s place no₁;
        control = unlike control s place no₂;
        edit_value = unlike edit_value s place no₃;
        real_value = unlike real_value s place no₄;
        event = unlike event s place no₅;
        temperature = unlike temperature s place no₆;
      })))))))

message_whole : (s : List ℕ) (place : ℕ) (m : Message) → message_of s place ≡ Ok m → broken s ≡ false
message_whole s place m e = ⊎_elim (λ b. clash m _ (sym e ∙ ap (λ x. tried (λ _ r. State r) x (from_control s place)) (cond-true _ _ _ b))) (λ b. b) (cases_Bool (broken s))

split_followed : (place : ℕ) (m : Message) (more : Result (List (ℕ × Message)) Fault) (ms : List (ℕ × Message)) → followed place (Ok m) more ≡ Ok ms
    → (rest : List (ℕ × Message)) × (more ≡ Ok rest) × (ms ≡ (place, m) ∷ rest)
split_followed place m (Ok rest) ms e = (rest, refl, cc)
split_followed place m (Err f) ms e = clash ms f (sym e)

-- what was read of at most so many bytes is a list of messages
abbrev Listed : ℕ → Type 0
Listed most = (s : List ℕ) (place : ℕ) (ms : List (ℕ × Message)) → length s ≤ most → messages_of s 0 place ≡ Ok ms → Lists place s ms

one_listed : (most : ℕ) → Listed most → (s : List ℕ) (place : ℕ) (ms : List (ℕ × Message)) (x : Result Message Fault) → length s ≤ suc most → 0 < length s → message_of s place ≡ x
    → messages_of s 0 place ≡ Ok ms → Lists place s ms
one_listed most shorter s place ms (Err f) h some is e = clash ms f (sym e ∙ stops s place f some is)
one_listed most shorter s place ms (Ok m) h some is e =
    let n : ℕ = get_or s 0 0 in
    let w = whole_from s (message_whole s place m is) in
    let t = split_followed place m (messages_of (drop n s) 0 (place + n)) ms
    (ap (λ x. followed place x (messages_of (drop n s) 0 (place + n))) (sym is) ∙ sym (one_then s place (omega arith) w.2) ∙ e) in
    let left = length-drop n s in
    let long : length (take n s) ≡ n = length-take-le n s w.2 in
    let more : Lists (place + length (take n s)) (drop n s) t.0 = subst (λ (i : ℕ). Lists (place + i) (drop n s) t.0) (sym long) (shorter (drop n s) (place + n) t.0 (omega arith) t.1) in
    let all = grammar.Lists.next place (take n s) (drop n s) m t.0 (kind_says s place m (message_whole s place m is) is) more in
    subst (λ (l : List (ℕ × Message)). Lists place s l) (sym t.2) (subst (λ (l : List ℕ). Lists place l ((place, m) ∷ t.0)) (take-append-drop n s) all)

listed : (most : ℕ) → Listed most
listed most [] place ms h e = let same : ms ≡ [] = cc (none_left [] place refl) in subst (λ (l : List (ℕ × Message)). Lists place [] l) (sym same) (grammar.Lists.end place)
listed zero (x ∷ s) place ms h e = absurd (omega arith)
listed (suc most) (x ∷ s) place ms h e = one_listed most (listed most) (x ∷ s) place ms (message_of (x ∷ s) place) h (omega arith) refl e

pub lists_from : (s : List ℕ) (place : ℕ) (ms : List (ℕ × Message)) → messages_of s 0 place ≡ Ok ms → Lists place s ms
lists_from s place ms e = listed (length s) s place ms (omega arith) e

-- The descriptor, and the whole payload.

split_behind : (x : Result Descriptor Fault) (y : Result (List (ℕ × Message)) Fault) (d : Descriptor) (ms : List (ℕ × Message)) → behind x y ≡ Ok (d, ms) → (x ≡ Ok d) × (y ≡ Ok ms)
split_behind (Ok d') (Ok ms') d ms e =
    let h = same_answer (d', ms') (d, ms) e in
    (ap (λ (p : Descriptor × List (ℕ × Message)). Ok p.0) h, ap (λ (p : Descriptor × List (ℕ × Message)). Ok p.1) h)
split_behind (Ok d') (Err f) d ms e = clash (d, ms) f (sym e)
split_behind (Err f) y d ms e = clash (d, ms) f (sym e)

spelled : (s : List ℕ) (d : Descriptor) (ms : List (ℕ × Message)) → reading_of s ≡ Ok (d, ms) → Spells s d ms
spelled s d ms e =
    let parts = split_behind (descriptor_of s) (messages_from s 16) d ms e in
    let sized = past _ _ _ d parts.0 in
    let bounds = or_parts _ _ sized.0 in
    let frame = past (not (eqb (word s 0) 0x8601)) _ _ d sized.1 in
    let long = past (not (eqb (word s 2) (length s))) _ _ d frame.1 in
    let version = past (not (eqb (major (word s 4)) 2)) _ _ d long.1 in
    let words : words_of s ≡ d = same_answer _ _ version.1 in
    record {
      least = ltb-false (length s) 16 bounds.0;
      most = ltb-false 1472 (length s) bounds.1;
      frame_id = eqb-true _ _ (not-false _ frame.0);
      frame_length = eqb-true _ _ (not-false _ long.0);
      frame_version = ap (λ (x : Descriptor). x.version) words;
      major_version = ap (λ (x : Descriptor). major x.version) (sym words) ∙ eqb-true _ _ (not-false _ version.0);
      package_id = ap (λ (x : Descriptor). x.number) words;
      project_id = ap (λ (x : Descriptor). x.project) words;
      firmware_version = ap (λ (x : Descriptor). x.firmware) words;
      switch_id = ap (λ (x : Descriptor). x.switch) words;
      design_id = ap (λ (x : Descriptor). x.design) words;
      messages = lists_from (drop 16 s) 16 ms parts.1;
    }

told_words : (s : List ℕ) (d : Descriptor) (ms : List (ℕ × Message)) → Spells s d ms → words_of s ≡ d
told_words s d ms sp =
    let same : words_of s ≡ record { version = d.version; number = d.number; project = d.project; firmware = d.firmware; switch = d.switch; design = d.design } = cc in
    same

accepts : (s : List ℕ) (d : Descriptor) (ms : List (ℕ × Message)) → Spells s d ms → reading_of s ≡ Ok (d, ms)
accepts s d ms sp =
    let version : major (word s 4) ≡ 2 = ap major sp.frame_version ∙ sp.major_version in
    let a = or_from _ _ (le-ltb (length s) 16 sp.least) (le-ltb 1472 (length s) sp.most) in
    let b = eq-eqb (word s 0) 0x8601 sp.frame_id in
    let c = eq-eqb (word s 2) (length s) sp.frame_length in
    let e = eq-eqb (major (word s 4)) 2 version in
    let read : descriptor_of s ≡ Ok (words_of s) = cond-false _ _ _ a ∙ simp (b, c, e) in
    ap (λ x. behind x (messages_from s 16)) (read ∙ ap (λ (x : Descriptor). Ok x) (told_words s d ms sp)) ∙ ap (behind (Ok d)) (lists_read 16 (drop 16 s) ms sp.messages)

pub reading_is_grammar : (s : List ℕ) → Grammar s
reading_is_grammar s = record {
  spelled = spelled s;
  accepted = accepts s;
  unique = λ d e ms ns p q.
      let same : ◌≡◌ {A = Result (Descriptor × List (ℕ × Message)) Fault} (Ok (d, ms)) (Ok (e, ns)) = sym (accepts s d ms p) ∙ accepts s e ns q in
      let h = same_answer (d, ms) (e, ns) same in
      (ap (λ (x : Descriptor × List (ℕ × Message)). x.0) h, ap (λ (x : Descriptor × List (ℕ × Message)). x.1) h);
}
