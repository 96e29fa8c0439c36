use Rattle.std.proofs.Common.{ℕ, subst, sym}
use Rattle.clap.specs.Words.{found_of, rows_of}
use Rattle.apf_commands.specs.Meaning.{IsFlowCount, IsSeatCount}
use Rattle.apf_commands.proofs.words.cluster_of.Goals as goal

pub returns-clause-read : goal.returns-clause-read
returns-clause-read c =
    let rows = rows_of (found_of c.args.matches.now) in
    let seats = c.requires.seats in
    let flows = c.requires.flows in
    let same_seats = c.u32_or.ensures seats.0 seats.1.0 in
    let same_flows = c.u32_or-2.ensures flows.0 flows.1.0 in
    (c.text_of.ensures, c.text_of-2.ensures, c.text_of-3.ensures, subst (λ (n : ℕ). IsSeatCount rows n) (sym same_seats) seats.1, subst (λ (n : ℕ). IsFlowCount rows n) (sym same_flows) flows.1, c.flag_of.ensures, c.flag_of-2.ensures, c.option_of.ensures, c.flag_of-3.ensures, c.in_ok-changes.ensures, c.option_of-2.ensures, c.option_of-3.ensures, c.option_of-4.ensures, c.option_of-5.ensures)
