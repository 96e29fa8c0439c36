use Rattle.std.proofs.Common.{ℕ, rules, subst, sym}
use Rattle.clap.specs.Words.{found_of, rows_of}
use Rattle.apf_commands.specs.Meaning.{IsRoundCount, IsWorkerCount}
use Rattle.apf_commands.proofs.words.workers_of.Goals as goal

pub returns-clause-read : goal.returns-clause-read
returns-clause-read c =
    let rows = rows_of (found_of c.args.matches.now) in
    let rounds = c.requires.rounds in
    let same_rounds = c.u32_or-rounds.ensures rounds.0 rounds.1.0 in
    let workers : IsWorkerCount rows c.u32_of-workers.result = search rules in
    (c.files_of.ensures.config, c.files_of.ensures.requests, workers, subst (λ (n : ℕ). IsRoundCount rows n) (sym same_rounds) rounds.1)
