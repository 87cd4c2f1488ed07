use Rattle.law.proofs.Runs.{answer_lost_outstanding, crossed_outstanding, crossed_settled, dealt_in_one_and_in_two, lost_settled, packet_lost_outstanding, restarted_outstanding, shared_outstanding, shared_settled, stale_outstanding, told_and_settled, told_beside_others, told_quietly, turned_excused, withheld_outstanding, withheld_settled}
use Rattle.law.proofs.runs_stand.Goals as goal

pub returns-clause-told : goal.returns-clause-told
returns-clause-told c = told_and_settled

pub returns-clause-restarted : goal.returns-clause-restarted
returns-clause-restarted c = restarted_outstanding

pub returns-clause-turned : goal.returns-clause-turned
returns-clause-turned c = turned_excused

pub returns-clause-crossed : goal.returns-clause-crossed
returns-clause-crossed c = crossed_outstanding

pub returns-clause-crossed_settled : goal.returns-clause-crossed_settled
returns-clause-crossed_settled c = crossed_settled

pub returns-clause-packet_lost : goal.returns-clause-packet_lost
returns-clause-packet_lost c = packet_lost_outstanding

pub returns-clause-answer_lost : goal.returns-clause-answer_lost
returns-clause-answer_lost c = answer_lost_outstanding

pub returns-clause-lost_settled : goal.returns-clause-lost_settled
returns-clause-lost_settled c = lost_settled

pub returns-clause-withheld : goal.returns-clause-withheld
returns-clause-withheld c = withheld_outstanding

pub returns-clause-withheld_settled : goal.returns-clause-withheld_settled
returns-clause-withheld_settled c = withheld_settled

pub returns-clause-stale : goal.returns-clause-stale
returns-clause-stale c = stale_outstanding

pub returns-clause-shared : goal.returns-clause-shared
returns-clause-shared c = shared_outstanding

pub returns-clause-shared_settled : goal.returns-clause-shared_settled
returns-clause-shared_settled c = shared_settled

pub returns-clause-told_quietly : goal.returns-clause-told_quietly
returns-clause-told_quietly c = told_quietly

pub returns-clause-told_beside_others : goal.returns-clause-told_beside_others
returns-clause-told_beside_others c = told_beside_others

pub returns-clause-dealt : goal.returns-clause-dealt
returns-clause-dealt c = dealt_in_one_and_in_two
