use Rattle.std.proofs.Common.{rules}
use Rattle.law.proofs.Whole.{truthful_switches}
use Rattle.hub.proofs.hub.Hub.open.Goals as goal

pub returns-clause-law : goal.returns-clause-law
returns-clause-law g c =
    truthful_switches c.args.site (g.S.ActorStore.meaning c.args.store)
    (record { version = search rules; project = search rules; firmware = search rules; design = search rules })
    (search rules) (g.met.S.ActorStore.lawful c.args.store)
