-- `all` over `1..=n`, whose closure answers a test of each number.
use Rattle.std.proofs.Common.{◌≡◌, ℕ, ◌+◌, ◌-◌, ◌<◌, ◌≤◌, Bool, true, false, Some, None, Option, IfSome, IsSomeAnd, IsTrue, MatchBool, sym, ap, ◌∙◌, subst, arith}
use denote.Param.Members.{Mut}
use Rattle.std.specs.Fn.{Called}
use Rattle.std.specs.Option.{option_map}
use Rattle.std.specs.Iterator.Runs.{Run, SomeRun, AllItemsGive, AnyItemGives, ItemsCountUp}
use Rattle.std.specs.Range.{range_inclusive_start, range_inclusive_end, range_inclusive_exhausted}
use Rattle.std.specs.declared.ops.RangeInclusive.{RangeInclusive}
use Rattle.std.proofs.iter.runs.Sources.{nat_range_inclusive_steps, inclusive_listed}

at_some : (o : Option ℕ) (k : ℕ) (P : ℕ → Type 0) → option_map (λ y. y) o ≡ Some k → IfSome o P → P k
at_some None k P e h = absurd (grind arith)
at_some (Some x) k P e h = let same : x ≡ k = cc in subst P same h

at_end : (o : Option ℕ) (P : ℕ → Type 0) (Q : ℕ → Type 0) → IsSomeAnd o P → IfSome o Q → (x : ℕ) × P x × Q x
at_end None P Q h i = absurd h
at_end (Some x) P Q h i = (x, h, i)

module _ {F : Type 0} {g : Mut F (ℕ × Unit {0}) Bool} {f : F} (test : ℕ → Bool) (tells : (x : ℕ) (b : Bool) (f' : F) → Called g f (x, tt) b f' → (f' ≡ f) × (b ≡ test x)) where
  counts : (s : RangeInclusive ℕ) (p : Run nat_range_inclusive_steps) → p.from ≡ s → range_inclusive_exhausted s ≡ false → ItemsCountUp p (range_inclusive_start s) (range_inclusive_end s + 1)
  counts s p e z =
      let l = inclusive_listed p p.seen in
      let up : ItemsCountUp p l.0 l.1 = (l.4 (ap range_inclusive_exhausted e ∙ z)).0 in
      subst (λ t. ItemsCountUp p (range_inclusive_start t) (range_inclusive_end t + 1)) e (rw (l.2, l.3) at up)

  pub counted : (s : RangeInclusive ℕ) (n : ℕ) (r : Bool) → range_inclusive_start s ≡ 1 → range_inclusive_end s ≡ n → range_inclusive_exhausted s ≡ false
      → SomeRun nat_range_inclusive_steps s (λ p. MatchBool r (IsTrue p.whole × AllItemsGive p g f true) (AnyItemGives p g f false))
      → MatchBool r ((k : ℕ) → 1 ≤ k → k ≤ n → test k ≡ true) ((k : ℕ) × (1 ≤ k) × (k ≤ n) × (test k ≡ false))
  counted s n true a b z run = λ k o m.
      let p = run.0 in
      let told : IsTrue p.whole × AllItemsGive p g f true = run.2 in
      let up : ItemsCountUp p (range_inclusive_start s) (range_inclusive_end s + 1) = counts s p run.1 z in
      let l : k - 1 < p.len = omega (arith, up.1 told.0) in
      let same : range_inclusive_start s + (k - 1) ≡ k = omega arith in
      sym (tells k true f (at_some (p.at (k - 1)) k (λ x. Called g f (x, tt) true f) (up.3 (k - 1) l ∙ ap Some same) (told.1 (λ x r f' h. (tells x.0 r f' h).0) (k - 1)))).1
  counted s n false a b z run =
      let p = run.0 in
      let told : AnyItemGives p g f false = run.2 in
      let up : ItemsCountUp p (range_inclusive_start s) (range_inclusive_end s + 1) = counts s p run.1 z in
      let any = told (λ x r f' h. (tells x.0 r f' h).0) in
      let at = at_end (p.at any.0) (λ x. Called g f (x, tt) false f) (λ x. (x ≡ range_inclusive_start s + any.0) × (x < range_inclusive_end s + 1)) any.2 (up.2 any.0) in
      (at.0, omega (arith, at.2.0), omega (arith, at.2.1), sym (tells at.0 false f at.1).1)
