-- What holds of a switch is kept when a value is set, when the switch reports, when its items are made due, and when its control word is set.
use Rattle.std.proofs.Common.{ℕ, ◌≤◌, cond, eqb, List, map, length, ℤ, Some, None, Option, sym, subst}
use Rattle.std.specs.Option.{option_map}
use Rattle.std.proofs.lemmas.List.{length-map}
use Rattle.store.specs.declared.actor_store.Half.{Half}
use Rattle.store.specs.Meaning.{Known, after_put}
use Rattle.model.specs.declared.item.Item.{Item}
use Rattle.model.specs.declared.mark.Change.TheVariants.{Changed}
use Rattle.model.specs.declared.mark.Mark.TheVariants.{Due}
use Rattle.model.specs.declared.told.Report.{Report}
use Rattle.model.specs.Marks.{moved}
use Rattle.model.specs.Models.{SwitchModel, all_moved, touched, with_control, with_report}
use Rattle.law.specs.World.{End}
use Rattle.law.proofs.Invariant.{Enrolled}
use Rattle.law.proofs.Items.{items_moved, items_touched}

-- a list mapped is as short
pub still_short : (items : List Item) (f : Item → Item) → length items ≤ 64 → length (map f items) ≤ 64
still_short items f h = subst (λ (n : ℕ). n ≤ 64) (sym (length-map items f)) h

pub kept_set : (st : Known) (o : Option SwitchModel) (e : End) (a : ℕ) (half : Half) (v : ℤ) → Enrolled st o e → Enrolled (after_put st a half v) (option_map (touched a) o) e
kept_set st None e a half v f = f
kept_set st (Some m) e a half v f =
    record {
      fits = f.fits;
      short = still_short m.items _ f.short;
      numbers = f.numbers;
      marks = λ b. cond (eqb b a) Due (f.marks b);
      items = items_touched st f.marks e a half v m.items f.items;
    }

pub kept_report : (st : Known) (o : Option SwitchModel) (e : End) (r : SwitchModel → Report) → Enrolled st o e → Enrolled st (option_map (λ m. with_report (r m) m) o) e
kept_report st None e r f = f
kept_report st (Some m) e r f = record { fits = f.fits; short = f.short; numbers = f.numbers; marks = f.marks; items = f.items }

pub kept_init : (st : Known) (o : Option SwitchModel) (e : End) (r : SwitchModel → Report) → Enrolled st o e → Enrolled st (option_map (λ m. all_moved Changed (with_report (r m) m)) o) e
kept_init st None e r f = f
kept_init st (Some m) e r f =
    record {
      fits = f.fits;
      short = still_short m.items _ f.short;
      numbers = f.numbers;
      marks = λ b. moved (f.marks b) Changed;
      items = items_moved st f.marks e e m.items Changed (λ x l g. tt) f.items;
    }

pub kept_control : (st : Known) (o : Option SwitchModel) (e : End) (word : ℕ) → Enrolled st o e → Enrolled st (option_map (with_control word) o) e
kept_control st None e word f = f
kept_control st (Some m) e word f = record { fits = f.fits; short = f.short; numbers = f.numbers; marks = f.marks; items = f.items }
