use Rattle.umpdump.proofs.heading.HeadingDisplay.fmt.Goals as goal

pub returns-clause-writes : goal.returns-clause-writes
returns-clause-writes g c = λ plain ok. rw c.sort-sort.ensures at (c.write.ensures.writes plain ok)
