-- Each listed actor is shown as last accepted or opened with, or reported outstanding, or excused.
use Rattle.std.proofs.Common.{◌≡◌, ℕ, Bool, true, false, cond, ◌||◌, eqb, ◌⊎◌, List, [], ◌∷◌, Some, Ok, sym, refl, ap, ◌∙◌, subst, inl, inr, ⊎_elim, le_refl}
use Rattle.std.specs.List.{AllByRecursion}
use Rattle.std.specs.Option.{ok_or}
use Rattle.std.proofs.lemmas.Bool.{eqb-true, true≢false}
use Rattle.packet.specs.Words.{major}
use Rattle.store.specs.declared.actor_store.Half.TheVariants.{Actual, Target}
use Rattle.store.specs.Meaning as store
use Rattle.model.specs.declared.item.Item.{Item}
use Rattle.model.specs.declared.mark.Mark.{Mark}
use Rattle.model.specs.declared.mark.Mark.TheVariants.{Settled, Due, UnderWay}
use Rattle.model.specs.declared.told.Site.{Site}
use Rattle.model.specs.Composing.{values_of}
use Rattle.model.specs.Models.{lists_actor, mark_of_actor}
use Rattle.model.specs.Questions.{actor_mark, not_listed}
use Rattle.model.specs.Settings.{at_enrolled}
use Rattle.law.specs.Values.{last_accepted, slot}
use Rattle.law.specs.World.{End}
use Rattle.law.specs.Law.{Excused, ReportedOutstanding, Shows, Truth, opening}
use Rattle.law.proofs.Held.{Lawful}
use Rattle.law.proofs.Invariant.{Enrolled, Holds, ItemFine, MarkFine, SiteFits, SwitchFine}
use Rattle.law.proofs.Moves.{keep_run}

pub holds_at_opening : (site : Site) (st : store.Known) → Lawful st → Holds site (opening site st)
unfolding last_accepted
holds_at_opening site st l =
    record { site = refl; lawful = l; recalls = λ k. refl; each = λ s. (record { passed = 0; behind = tt; ahead = le_refl 0; coming = tt; taken = tt }, refl) }

-- the mark that the hub tells of a listed actor, and what holds of it
asked_mark : (st : store.Known) (marks : ℕ → Mark) (e : End) (a : ℕ) (items : List Item) → AllByRecursion (ItemFine st marks e) items → lists_actor a items ≡ true
    → (mark_of_actor a items ≡ Some (marks a)) × MarkFine (values_of (st a)) a e (marks a)
asked_mark st marks e a [] f l = absurd (true≢false (sym l))
asked_mark st marks e a (x ∷ xs) f l = go (eqb x.actor a) refl l (asked_mark st marks e a xs f.1)
  where
    go : (b : Bool) → eqb x.actor a ≡ b → (b || lists_actor a xs) ≡ true → (lists_actor a xs ≡ true → (mark_of_actor a xs ≡ Some (marks a)) × MarkFine (values_of (st a)) a e (marks a))
        → (cond b (Some x.mark) (mark_of_actor a xs) ≡ Some (marks a)) × MarkFine (values_of (st a)) a e (marks a)
    go true q l ih =
        let same = eqb-true x.actor a q in
        let mark : x.mark ≡ marks a = f.0.marked ∙ ap marks same in
        (ap Some mark, subst (λ (μ : Mark). MarkFine (values_of (st a)) a e μ) mark (subst (λ (n : ℕ). MarkFine (values_of (st n)) n e x.mark) same f.0.fine))
    go false q l ih = ih l

pub truth : (site : Site) (st : store.Known) → SiteFits site → major site.version ≡ 2 → Lawful st → Truth site st
truth site st fit version l w run s a (m, enrolled, listed) =
    let i = keep_run site fit version run (holds_at_opening site st l) in
    let f : SwitchFine w.hub.store m (w.ends s) = subst (λ o. Enrolled w.hub.store o (w.ends s)) enrolled (i.each s).1 in
    let r = asked_mark w.hub.store f.marks (w.ends s) a m.items f.items listed in
    let told : actor_mark w.hub s a ≡ Ok (f.marks a) = ap (λ o. at_enrolled o (λ n. ok_or (mark_of_actor a n.items) not_listed)) enrolled ∙ ap (λ o. ok_or o not_listed) r.0 in
    go i (f.marks a) told r.1
  where
    go : Holds site w → (μ : Mark) → actor_mark w.hub s a ≡ Ok μ → MarkFine (values_of (w.hub.store a)) a (w.ends s) μ → Shows w s a ⊎ (ReportedOutstanding w s a ⊎ Excused (w.ends s) a)
    go i Settled t g =
        ⊎_elim (λ h. inl (h Actual ∙ ap Some (sym (i.recalls (slot Actual a))), h Target ∙ ap Some (sym (i.recalls (slot Target a))))) (λ x. inr (inr x)) g.0
    go i Due t g = inr (inl (Due, t, refl))
    go i UnderWay t g = inr (inl (UnderWay, t, refl))
