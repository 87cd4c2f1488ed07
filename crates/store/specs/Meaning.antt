-- What an actor store means: a map from each known ActorID to its pair of actual and target value.
use Rattle.std.specs.Prelude.{ℕ, Bool, true, false, cond, not, ◌&&◌, ℤ, pos, negsuc, Some, None, Ok, Err, Option, Result, ◌==◌, nat_lt}
use Rattle.std.specs.Option.{ok_or}
use Rattle.fault.specs.declared.Fault.{Fault}
use Rattle.fault.specs.declared.Fault.TheVariants.{Store}
use Rattle.fault.specs.declared.StoreFault.TheVariants as store
use Rattle.store.specs.declared.actor_store.Half.{Half}
use Rattle.store.specs.declared.actor_store.Half.TheVariants.{Actual, Target}

abbrev pub Known : Type 0
Known = ℕ → Option (ℤ × ℤ)

-- the least value is −32,767, which is `negsuc 32766`, and the greatest 32,766
abbrev pub forbidden : ℤ → Bool
forbidden (pos n) = nat_lt 32766 n
forbidden (negsuc n) = nat_lt 32766 n

abbrev pub lawful : ℤ → Bool
lawful v = not (forbidden v)

-- neither value of an actor is forbidden
abbrev pub lawful_pair : Option (ℤ × ℤ) → Bool
lawful_pair (Some p) = lawful p.0 && lawful p.1
lawful_pair None = true

abbrev pub unknown_actor : Fault
unknown_actor = Store store.UnknownActor 0

abbrev pub forbidden_value : Fault
forbidden_value = Store store.ForbiddenValue 0

-- whether a value may be put
abbrev pub value_answer : ℤ → Result Unit Fault
value_answer v = cond (forbidden v) (Err forbidden_value) (Ok tt)

-- a read tells both values of a known actor
abbrev pub read_answer : Known → ℕ → Result (ℤ × ℤ) Fault
read_answer m a = ok_or (m a) unknown_actor

abbrev pub refusal : Option (ℤ × ℤ) → Bool → Result Unit Fault
refusal None bad = Err unknown_actor
refusal (Some p) true = Err forbidden_value
refusal (Some p) false = Ok tt

-- a put refuses an unknown actor, then a forbidden value
abbrev pub put_answer : Known → ℕ → ℤ → Result Unit Fault
put_answer m a v = refusal (m a) (forbidden v)

-- a pair with one of its values replaced
abbrev pub replaced : Half → ℤ → ℤ × ℤ → ℤ × ℤ
replaced Actual v p = (v, p.1)
replaced Target v p = (p.0, v)

abbrev pub pair_after : Option (ℤ × ℤ) → Bool → Half → ℤ → Option (ℤ × ℤ)
pair_after None bad h v = None
pair_after (Some p) true h v = Some p
pair_after (Some p) false h v = Some (replaced h v p)

-- after a put the map differs in one half of the actor's pair; after a refusal, nowhere
abbrev pub after_put : Known → ℕ → Half → ℤ → Known
after_put m a h v k = cond (k == a) (pair_after (m k) (forbidden v) h v) (m k)

-- the answer of an opening, by what it gives
abbrev pub meant : {A B : Type 0} → (A → B) → Result A Fault → Result B Fault
meant f (Ok x) = Ok (f x)
meant f (Err e) = Err e
