-- A player, by what its hub and its store mean.
use Rattle.store.specs.declared.actor_store.ActorStore.{Ghosts}
use Rattle.store.specs.Meaning.{Known}
use Rattle.hub.specs.Memory.{hub_model}
use Rattle.bench_hub.specs.declared.player.Player.{Player}
use Rattle.bench_hub.specs.Playing.{Scene, scene}

abbrev pub player_scene : {S : Type 0} {store : Ghosts S} → (S → Known) → Player S store → Scene
player_scene meaning p = scene (hub_model meaning p.hub) p.kept
