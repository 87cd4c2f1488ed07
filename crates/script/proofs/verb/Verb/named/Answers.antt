use Rattle.std.proofs.Common.{codes, ap, sym, arith, rules}
use Rattle.std.proofs.lemmas.Slice.Eq.{text_from_reads}
use Rattle.script.specs.Verbs.{verb_of}
use Rattle.script.proofs.verb.Verb.named.Goals as goal

pub returns-in-actual : goal.returns-in-actual
returns-in-actual c = sym (ap verb_of (text_from_reads c.args.name.now (codes "actual") (omega arith) (search rules)))

pub returns-in-target : goal.returns-in-target
returns-in-target c = sym (ap verb_of (text_from_reads c.args.name.now (codes "target") (omega arith) (search rules)))

pub returns-in-control : goal.returns-in-control
returns-in-control c = sym (ap verb_of (text_from_reads c.args.name.now (codes "control") (omega arith) (search rules)))

pub returns-in-compose : goal.returns-in-compose
returns-in-compose c = sym (ap verb_of (text_from_reads c.args.name.now (codes "compose") (omega arith) (search rules)))

pub returns-in-reading : goal.returns-in-reading
returns-in-reading c = sym (ap verb_of (text_from_reads c.args.name.now (codes "reading") (omega arith) (search rules)))

pub returns-in-withheld : goal.returns-in-withheld
returns-in-withheld c = sym (ap verb_of (text_from_reads c.args.name.now (codes "withheld") (omega arith) (search rules)))
