use Rattle.gs_talk_laws.proofs.Depends.{reads_what_it_depends_on, depends_on_what_it_reads}
use Rattle.gs_talk_laws.proofs.Writers.{last_writer_wrote}
use Rattle.gs_talk_laws.proofs.laws.depends_on_what_it_reads.Goals as goal

pub returns-clause-writers : goal.returns-clause-writers
returns-clause-writers c = last_writer_wrote

pub returns-clause-reads : goal.returns-clause-reads
returns-clause-reads c = reads_what_it_depends_on

pub returns-clause-depends : goal.returns-clause-depends
returns-clause-depends c = depends_on_what_it_reads
