use Rattle.umpdump.proofs.heading.WordsDisplay.fmt.Goals as goal

pub returns-clause-writes : goal.returns-clause-writes
returns-clause-writes g c = λ plain ok. rw (c.to_be_bytes-project.ensures, c.to_be_bytes-firmware.ensures) at (c.write.ensures.writes plain ok)
