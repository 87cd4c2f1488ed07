-- A closed draft's packet reads back as its words and its records.
use Rattle.std.proofs.Common.{◌≡◌, ℕ, ◌+◌, ◌^◌, ◌<◌, ◌≤◌, true, not, eqb, ltb, List, [], ◌∷◌, ◌++◌, length, get_or, take, drop, Some, None, Ok, Result, sym, refl, ap, ◌∙◌, ap₂, arith}
use Rattle.std.proofs.lemmas.List.{append_assoc, drop_at, flat_map_more, length-append, length-drop, length-take, length-take-le, take-append-drop, take_at}
use Rattle.std.proofs.lemmas.Bool.{cond-false, eqb-true, ltb-false, not-false, or_parts}
use Rattle.std.specs.List.{flat_map}
use Rattle.kind.specs.Kinds.{control, edit_value, event, real_value, state, temperature}
use Rattle.kind.specs.Layout.{Layout, Lawful, message_of, read_of, word_bytes}
use Rattle.kind.specs.Laws.{control_lawful, edit_value_lawful, event_lawful, real_value_lawful, state_lawful, temperature_lawful}
use Rattle.kind.proofs.Messages.{reads_back, whole_written}
use Rattle.kind.specs.Words.{word_round}
use Rattle.fault.specs.declared.Fault.{Fault}
use Rattle.packet.specs.declared.draft.Draft.{Draft}
use Rattle.packet.specs.declared.message.Message.{Message}
use Rattle.packet.specs.declared.message.Message.TheVariants.{Known}
use Rattle.packet.specs.declared.message.Record.{Record}
use Rattle.packet.specs.declared.message.Record.TheVariants.{State, Control, EditValue, RealValue, Event, Temperature}
use Rattle.packet.specs.declared.descriptor.Descriptor.{Descriptor}
use Rattle.packet.specs.Drafts as drafts
use Rattle.packet.specs.Drafts.{Drafting, ReadsBack, RecordFits, WordsFit, added, added_bytes, appended, appended_bytes, begun, begun_bytes, full, laid_out, length_of, masked, open_bytes, over, size_of}
use Rattle.packet.specs.Packets.{head_bytes, packet_bytes, record_bytes}
use Rattle.packet.specs.Messages as messages
use Rattle.packet.specs.Messages.{followed, messages_of, tried}
use Rattle.packet.specs.Reading.{reading_of}
use Rattle.packet.specs.Words.{major}
use Rattle.packet.proofs.Spelling.{lists_from, past, past_control, past_edit_value, past_event, past_real_value, past_state, reading_is_grammar, same_answer}
use Rattle.packet.proofs.Steps.{none_left, one_then}

-- One record.

-- the actor rule of its kind holds
abbrev pub Admitted : Record → Type 0
Admitted (State bits) = Unit {0}
Admitted (Control bits) = Unit {0}
Admitted (EditValue actor target) = edit_value.admits actor ≡ true
Admitted (RealValue actor actual) = real_value.admits actor ≡ true
Admitted (Event actor key) = event.admits actor ≡ true
Admitted (Temperature reading) = Unit {0}

-- a written message of a kind, once it comes to that kind's turn
kind_reads : {R : Type 0} (k : Layout R) (laws : Lawful k) (f : ℕ → R → Record) (actor : ℕ) (r : R) → actor < 2 ^ 16 → k.admits actor ≡ true → k.Fits r
    → (rest : List ℕ) (place : ℕ) (others : Result Message Fault)
    → messages.message_of (message_of k actor r ++ rest) place ≡ tried f (read_of k (message_of k actor r ++ rest) place) others
    → messages.message_of (message_of k actor r ++ rest) place ≡ Ok (Known (f actor (k.masked r)))
kind_reads k laws f actor r small admitted fit rest place others by = by ∙ ap (λ x. tried f x others) (reads_back k laws actor r rest small admitted fit place)

record_reads : (r : Record) → RecordFits r → Admitted r → (rest : List ℕ) (place : ℕ) → messages.message_of (record_bytes r ++ rest) place ≡ Ok (Known (masked r))
record_reads (State bits) fit ok rest place = kind_reads state state_lawful (λ _ b. State b) 0 bits (omega arith) refl tt rest place _ refl
record_reads (Control bits) fit ok rest place = kind_reads control control_lawful (λ _ b. Control b) 0 bits (omega arith) refl tt rest place _ (past_state (message_of control 0 bits ++ rest) place (whole_written control control_lawful 0 bits rest) (λ e. omega arith))
record_reads (EditValue actor target) fit ok rest place = kind_reads edit_value edit_value_lawful EditValue actor target fit.0 ok fit.1 rest place _ (past_control (message_of edit_value actor target ++ rest) place (whole_written edit_value edit_value_lawful actor target rest) (λ e. omega arith) (λ e. omega arith))
record_reads (RealValue actor actual) fit ok rest place = kind_reads real_value real_value_lawful RealValue actor actual fit.0 ok fit.1 rest place _ (past_edit_value (message_of real_value actor actual ++ rest) place (whole_written real_value real_value_lawful actor actual rest) (λ e. omega arith) (λ e. omega arith) (λ e. omega arith))
record_reads (Event actor key) fit ok rest place = kind_reads event event_lawful Event actor key fit ok tt rest place _ (past_real_value (message_of event actor key ++ rest) place (whole_written event event_lawful actor key rest) (λ e. omega arith) (λ e. omega arith) (λ e. omega arith) (λ e. omega arith))
record_reads (Temperature reading) fit ok rest place = kind_reads temperature temperature_lawful (λ _ b. Temperature b) 0 reading (omega arith) refl fit rest place _ (past_event (message_of temperature 0 reading ++ rest) place (whole_written temperature temperature_lawful 0 reading rest) (λ e. omega arith) (λ e. omega arith) (λ e. omega arith) (λ e. omega arith) (λ e. omega arith))

-- its length, which is also its first byte
pub record_sized : (r : Record) (rest : List ℕ) → (length (record_bytes r) ≡ length_of r) × (get_or (record_bytes r ++ rest) 0 0 ≡ length_of r) × (0 < length_of r)
record_sized (State bits) rest = (refl, refl, omega arith)
record_sized (Control bits) rest = (refl, refl, omega arith)
record_sized (EditValue actor target) rest = (refl, refl, omega arith)
record_sized (RealValue actor actual) rest = (refl, refl, omega arith)
record_sized (Event actor key) rest = (refl, refl, omega arith)
record_sized (Temperature None) rest = (refl, refl, omega arith)
record_sized (Temperature (Some z)) rest = (refl, refl, omega arith)

-- All the records.

abbrev pub Written : List Record → Type 0
Written [] = Unit {0}
Written (r ∷ rs) = RecordFits r × Admitted r × Written rs

written_more : (rs : List Record) (r : Record) → Written rs → RecordFits r → Admitted r → Written (rs ++ (r ∷ []))
written_more [] r w fit ok = (fit, ok, tt)
written_more (x ∷ rs) r w fit ok = (w.0, w.1, written_more rs r w.2 fit ok)

records_read : (rs : List Record) → Written rs → (place : ℕ) → messages_of (flat_map record_bytes rs) 0 place ≡ Ok (laid_out place rs)
records_read [] w place = none_left [] place refl
records_read (r ∷ rs) w place =
    let rest : List ℕ = flat_map record_bytes rs in
    let s : List ℕ = record_bytes r ++ rest in
    let size = record_sized r rest in
    let sized : length s ≡ length (record_bytes r) + length rest = length-append (record_bytes r) rest in
    let more : messages_of (drop (get_or s 0 0) s) 0 (place + get_or s 0 0) ≡ Ok (laid_out (place + length_of r) rs) =
    ap (λ (n : ℕ). messages_of (drop n s) 0 (place + n)) size.1
    ∙ ap (λ (l : List ℕ). messages_of l 0 (place + length_of r)) (drop_at (record_bytes r) rest (length_of r) size.0)
    ∙ records_read rs w.2 (place + length_of r) in
    one_then s place (omega arith) (omega arith)
    ∙ ap (λ x. followed place x (messages_of (drop (get_or s 0 0) s) 0 (place + get_or s 0 0))) (record_reads r w.0 w.1 rest place)
    ∙ ap (followed place (Ok (Known (masked r)))) more

-- The draft: what its buffer holds.

pub record Holds (w : Descriptor) (rs : List Record) (d : Draft) (buf : List ℕ) : Type 0 where
  pub fit : WordsFit w
  pub version : major w.version ≡ 2
  pub written : Written rs
  pub size : size_of d ≡ 16 + length (flat_map record_bytes rs)
  pub most : size_of d ≤ 1472
  pub room : size_of d ≤ length buf
  pub bytes : take (size_of d) buf ≡ open_bytes w ++ flat_map record_bytes rs

take_over : (buf ys : List ℕ) (at n : ℕ) → n ≡ at + length ys → at ≤ length buf → take n (over buf at ys) ≡ take at buf ++ ys
take_over buf ys at n e h =
    let long : length (take at buf ++ ys) ≡ n = length-append (take at buf) ys ∙ simp length-take-le (omega arith) in
    ap (take n) (sym (append_assoc (take at buf) ys (drop (at + length ys) buf))) ∙ take_at (take at buf ++ ys) (drop (at + length ys) buf) n long

begin_holds : (w : Descriptor) (buf : List ℕ) (d : Draft) → WordsFit w → begun w buf ≡ Ok d → Holds w [] d (begun_bytes w buf)
begin_holds w buf d fit e =
    let version = past (not (eqb (major w.version) 2)) _ _ d e in
    let room = past (ltb (length buf) 16) _ _ d version.1 in
    let none : size_of d ≡ 16 = ap size_of (sym (same_answer _ _ room.1)) in
    let enough : 16 ≤ length buf = ltb-false (length buf) 16 room.0 in
    let bytes : begun_bytes w buf ≡ over buf 0 (open_bytes w) = cond-false _ _ _ version.0 ∙ cond-false _ _ _ room.0 in
    record {
      fit = fit;
      version = eqb-true _ _ (not-false _ version.0);
      written = tt;
      size = none;
      most = omega arith;
      room = rw bytes (omega arith);
      bytes = ap₂ take none bytes;
    }

-- what a granted addition has seen and left
abbrev pub Granted : Draft → Draft → ℕ → List ℕ → List ℕ → List ℕ → Type 0
Granted d e size message buf after = (size_of e ≡ size_of d + size) × (size_of e ≤ 1472) × (size_of e ≤ length buf) × (after ≡ over buf (size_of d) message)

append_granted : {R : Type 0} (k : Layout R) (d : Draft) (actor : ℕ) (r : R) (buf : List ℕ) (e : Draft) → appended k d actor buf ≡ Ok e
    → (k.admits actor ≡ true) × Granted d e k.size (message_of k actor r) buf (appended_bytes k d actor r buf)
append_granted k d actor r buf e h =
    let rule = past (not (k.admits actor)) _ _ e h in
    let room = past (full d k.size buf) _ _ e rule.1 in
    let bounds = or_parts _ _ room.0 in
    let most : size_of d + k.size ≤ 1472 = ltb-false 1472 _ bounds.0 in
    let fits : size_of d + k.size ≤ length buf = ltb-false (length buf) _ bounds.1 in
    let size : size_of e ≡ size_of d + k.size = ap size_of (sym (same_answer _ _ room.1)) ∙ omega arith in
    (not-false _ rule.0, (size, omega arith, omega arith, cond-false _ _ _ rule.0 ∙ cond-false _ _ _ room.0))

pub add_granted : (r : Record) (d : Draft) (buf : List ℕ) (e : Draft) → added r d buf ≡ Ok e → Admitted r × Granted d e (length_of r) (record_bytes r) buf (added_bytes r d buf)
add_granted (State bits) d buf e h = (tt, (append_granted state d 0 bits buf e h).1)
add_granted (Control bits) d buf e h = (tt, (append_granted control d 0 bits buf e h).1)
add_granted (EditValue actor target) d buf e h = append_granted edit_value d actor target buf e h
add_granted (RealValue actor actual) d buf e h = append_granted real_value d actor actual buf e h
add_granted (Event actor key) d buf e h = append_granted event d actor key buf e h
add_granted (Temperature reading) d buf e h = (tt, (append_granted temperature d 0 reading buf e h).1)

length_over : (buf ys : List ℕ) (at : ℕ) → at + length ys ≤ length buf → length (over buf at ys) ≡ length buf
length_over buf ys at h = simp (length-append, length-take, length-drop) (omega arith)

add_holds : (w : Descriptor) (rs : List Record) (d : Draft) (buf : List ℕ) (r : Record) (e : Draft) → Holds w rs d buf → RecordFits r → added r d buf ≡ Ok e
    → Holds w (rs ++ (r ∷ [])) e (added_bytes r d buf)
add_holds w rs d buf r e holds fit h =
    let g = add_granted r d buf e h in
    let size = g.1.0 in
    let long = (record_sized r []).0 in
    let after = g.1.3 in
    let kept = length_over buf (record_bytes r) (size_of d) (omega arith) in
    let more = flat_map_more record_bytes (open_bytes w) rs r in
    let sizes : length (flat_map record_bytes (rs ++ (r ∷ []))) ≡ length (flat_map record_bytes rs) + length (record_bytes r) =
    sym (ap length (flat_map_more record_bytes [] rs r)) ∙ length-append (flat_map record_bytes rs) (record_bytes r) in
    record {
      fit = holds.fit;
      version = holds.version;
      written = written_more rs r holds.written fit g.0;
      size = omega (arith, holds.size);
      most = g.1.1;
      room = rw after (omega (arith, g.1.2));
      bytes = ap (take (size_of e)) after ∙ take_over buf (record_bytes r) (size_of d) (size_of e) (omega arith) holds.room ∙ ap (λ (l : List ℕ). l ++ record_bytes r) holds.bytes ∙ more;
    }

drafting_holds : (w : Descriptor) (rs : List Record) (d : Draft) (buf : List ℕ) → Drafting w rs d buf → Holds w rs d buf
drafting_holds _ _ _ _ (drafts.Drafting.begins w buf d fit e) = begin_holds w buf d fit e
drafting_holds _ _ _ _ (drafts.Drafting.adds w rs d buf r e drafting fit h) = add_holds w rs d buf r e (drafting_holds w rs d buf drafting) fit h

-- The packet: the descriptor with its FrameLength, and the records.

-- filling in the length of a draft, whatever lies behind it
filled_in : (w : Descriptor) (body buf : List ℕ) (size : ℕ) → size ≡ 16 + length body → size ≤ length buf → take size buf ≡ open_bytes w ++ body
    → take size (over buf 2 (word_bytes size)) ≡ head_bytes w size ++ body
filled_in w body buf size e room bytes =
    let whole : buf ≡ (open_bytes w ++ body) ++ drop size buf = sym (take-append-drop size buf) ∙ ap (λ (l : List ℕ). l ++ drop size buf) bytes in
    ap (λ (l : List ℕ). take size (over l 2 (word_bytes size))) whole ∙ take_at (head_bytes w size ++ body) (drop size buf) size (omega arith)

-- the bytes of a packet read back as its words and records
pub packet_reads : (w : Descriptor) (rs : List Record) → WordsFit w → major w.version ≡ 2 → Written rs → 16 + length (flat_map record_bytes rs) ≤ 1472
    → reading_of (packet_bytes w rs) ≡ Ok (w, laid_out 16 rs)
packet_reads w rs fit version written most =
    let body : List ℕ = flat_map record_bytes rs in
    let size : ℕ = 16 + length body in
    (reading_is_grammar (packet_bytes w rs)).accepted w (laid_out 16 rs) (record {
      least = omega arith;
      most = omega arith;
      frame_id = refl;
      frame_length = word_round size (omega arith) ∙ omega arith;
      frame_version = word_round w.version fit.version;
      major_version = version;
      package_id = word_round w.number fit.number;
      project_id = word_round w.project fit.project;
      firmware_version = word_round w.firmware fit.firmware;
      switch_id = word_round w.switch fit.switch;
      design_id = word_round w.design fit.design;
      messages = lists_from body 16 (laid_out 16 rs) (records_read rs written 16);
    })

pub packet_back : (d : Draft) (buf : List ℕ) → ReadsBack d buf (take (size_of d) (over buf 2 (word_bytes (size_of d))))
packet_back d buf w rs drafting =
    let h = drafting_holds w rs d buf drafting in
    let most = h.most in
    let size = h.size in
    let same : take (size_of d) (over buf 2 (word_bytes (size_of d))) ≡ packet_bytes w rs =
    filled_in w (flat_map record_bytes rs) buf (size_of d) size h.room h.bytes ∙ ap (λ (n : ℕ). head_bytes w n ++ flat_map record_bytes rs) size in
    (same, ap reading_of same ∙ packet_reads w rs h.fit h.version h.written (omega arith))
