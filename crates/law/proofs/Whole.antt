-- The law of truthful switches, whole.
use Rattle.std.proofs.Common.{◌≡◌, ℕ, true}
use Rattle.packet.specs.Words.{major}
use Rattle.store.specs.Meaning.{Known, lawful_pair}
use Rattle.model.specs.declared.told.Site.{Site}
use Rattle.law.specs.Law.{TruthfulSwitches}
use Rattle.law.proofs.Dealing.{dealing}
use Rattle.law.proofs.Settling.{settling}
use Rattle.law.proofs.Truth.{truth}
use Rattle.law.proofs.Invariant.{SiteFits}

pub truthful_switches : (site : Site) (st : Known) → SiteFits site → major site.version ≡ 2 → ((a : ℕ) → lawful_pair (st a) ≡ true) → TruthfulSwitches site st
unfolding TruthfulSwitches
truthful_switches site st fit version lawful = (truth site st fit version lawful, dealing, settling site st fit version lawful)
