-- The list that a table is opened over: what is wrong with it, and what the table then means.
use Rattle.std.specs.Prelude.{◌≡◌, ℕ, ◌+◌, ◌<◌, ◌≤◌, Bool, false, cond, ◌||◌, ◌⊎◌, List, [], ◌∷◌, ◌++◌, length, pos, Some, None, Ok, Err, Option, Result, ◌==◌, nat_lt, slice_index}
use Rattle.fault.specs.declared.Fault.{Fault}
use Rattle.fault.specs.declared.Fault.TheVariants.{Store}
use Rattle.fault.specs.declared.StoreFault.TheVariants as store
use Rattle.store.specs.Meaning.{Known}

abbrev pub lists : List ℕ → ℕ → Bool
lists [] a = false
lists (x ∷ xs) a = x == a || lists xs a

-- from index i on, with `before` in front: the first entry that is zero, or repeats one before it
abbrev pub entry_fault : List ℕ → ℕ → List ℕ → Option Fault
entry_fault before i [] = None
entry_fault before i (a ∷ rest) =
    cond (a == 0 || lists before a) (Some (Store store.ListEntry i)) (entry_fault (before ++ a ∷ []) (i + 1) rest)

-- a table takes 1 to 256 entries
abbrev pub list_fault : List ℕ → Option Fault
list_fault list = cond (length list == 0 || nat_lt 256 (length list)) (Some (Store store.ListLength 0)) (entry_fault [] 0 list)

-- the listed actors, all values 0
abbrev pub zeros : List ℕ → Known
zeros list a = cond (lists list a) (Some (pos 0, pos 0)) None

-- the entry at i is zero or equal to an earlier one
abbrev pub Spoilt : List ℕ → ℕ → Type 0
Spoilt list i = (slice_index list i ≡ 0) ⊎ ((j : ℕ) × (j < i) × (slice_index list j ≡ slice_index list i))

abbrev pub FirstSpoilt : List ℕ → ℕ → Type 0
FirstSpoilt list i = (i < length list) × Spoilt list i × ((j : ℕ) → j < i → Spoilt list j → ⊥)

pub record LawfulList (list : List ℕ) : Type 0 where
  pub some : 1 ≤ length list
  pub few : length list ≤ 256
  pub whole : (i : ℕ) → i < length list → Spoilt list i → ⊥

-- exactly the lawful lists have no fault, and a fault of an entry tells the first spoilt one
pub record ListRule (list : List ℕ) : Type 0 where
  pub sound : list_fault list ≡ None → LawfulList list
  pub complete : LawfulList list → list_fault list ≡ None
  pub first : (i : ℕ) → list_fault list ≡ Some (Store store.ListEntry i) → FirstSpoilt list i

abbrev pub unless : {A : Type 0} → Option Fault → A → Result A Fault
unless None x = Ok x
unless (Some f) x = Err f

-- what opening over a list answers, as the meaning of the table that it gives
abbrev pub table_over : List ℕ → Result Known Fault
table_over list = unless (list_fault list) (zeros list)
