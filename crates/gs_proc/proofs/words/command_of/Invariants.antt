use Rattle.std.proofs.Common.{◌≡◌, ◌∷◌, take}
use Rattle.std.specs.Process.{command_args, command_program}
use Rattle.gs_proc.specs.Words.{words_from, IsPlain}
use Rattle.gs_proc.proofs.words.command_of.Given as goal

abbrev pub invariant-loop-i : goal.invariant-loop-i
invariant-loop-i g l = record {
  program : command_program l.command ≡ l.job.program;
  args : command_args l.command ≡ l.job.op ∷ words_from l.job.n 1 (take l.i l.job.args);
  plain : IsPlain l.command;
}
