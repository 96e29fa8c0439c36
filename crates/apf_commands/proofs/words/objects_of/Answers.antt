use Rattle.std.proofs.Common.{ℕ, subst, sym}
use Rattle.clap.specs.Words.{found_of, rows_of}
use Rattle.apf_commands.specs.Meaning.{IsSeatCount}
use Rattle.apf_commands.proofs.words.objects_of.Goals as goal

pub returns-clause-read : goal.returns-clause-read
returns-clause-read c =
    let rows = rows_of (found_of c.args.matches.now) in
    let seats = c.requires.seats in
    let same_seats = c.u32_or.ensures seats.0 seats.1.0 in
    (c.text_of.ensures, subst (λ (n : ℕ). IsSeatCount rows n) (sym same_seats) seats.1)
