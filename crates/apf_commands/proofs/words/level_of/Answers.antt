use Rattle.std.proofs.Common.{ℕ, subst, sym}
use Rattle.clap.specs.Words.{found_of, rows_of}
use Rattle.apf_commands.specs.Meaning.{IsSlotCount}
use Rattle.apf_commands.proofs.words.level_of.Goals as goal

pub returns-clause-read : goal.returns-clause-read
returns-clause-read c =
    let rows = rows_of (found_of c.args.matches.now) in
    let slots = c.requires.slots in
    let same_slots = c.u32_or.ensures slots.0 slots.1.0 in
    (c.text_of.ensures, subst (λ (n : ℕ). IsSlotCount rows n) (sym same_slots) slots.1, c.text_or.ensures, c.charge_of.ensures)
