-- What was printed stands once the output is flushed.
use Rattle.std.proofs.Common.{◌≡◌, ℕ, List, Option, Some, None, ◌∙◌}
use Rattle.std.specs.Io.KnownBytes.{Appends, Keeps}
use Rattle.apf_commands.specs.declared.words.Arguments.{Arguments}
use Rattle.apf_commands.specs.declared.words.Arguments.TheVariants.{Flow, Deck, Script, Workers, Level, Simulation, Bounded, Comparison, Trace, Picture, Flows, AuditLog, Objects, Match, Cluster}
use Rattle.apf_cli.specs.Runs.{PrintsOf}

appends_kept : (old mid new : Option (List ℕ)) (text : List ℕ) → Appends old mid text → Keeps mid new → Appends old new text
appends_kept None mid new text h k = tt
appends_kept (Some a) None new text h k = absurd h
appends_kept (Some a) (Some b) None text h k = absurd k
appends_kept (Some a) (Some b) (Some c) text h k = k ∙ h

pub prints_kept : (holds : (name bytes : List ℕ) → Type 0) (arguments : Arguments) (old mid new : Option (List ℕ)) → PrintsOf holds arguments old mid → Keeps mid new
    → PrintsOf holds arguments old new
prints_kept holds (Workers config requests workers rounds) old mid new h k = record {
  one = λ is. let p = h.one is in record { report = p.report; run = p.run; written = appends_kept old mid new _ p.written k };
  more = λ is. let p = h.more is in record { report = p.report; run = p.run; written = appends_kept old mid new _ p.written k };
}
prints_kept holds (Level config slots name charge) old mid new h k = tt
prints_kept holds (Flow schema distinguisher) old mid new h k = tt
prints_kept holds (Deck deck hand hash) old mid new h k = tt
prints_kept holds (Script config requests script) old mid new h k = tt
prints_kept holds (Simulation config trace patience charge) old mid new h k = tt
prints_kept holds (Bounded config trace patience charge bound) old mid new h k = tt
prints_kept holds (Comparison config other trace patience charge) old mid new h k = tt
prints_kept holds (Trace trace) old mid new h k = tt
prints_kept holds (Picture config trace patience charge from to) old mid new h k = tt
prints_kept holds (Flows config trace flow) old mid new h k = tt
prints_kept holds (AuditLog log schema chosen) old mid new h k = tt
prints_kept holds (Objects cluster seats) old mid new h k = tt
prints_kept holds (Match cluster attributes) old mid new h k = tt
prints_kept holds (Cluster objects log patience seats flows json no_lending level trace changes against warm_up picture http_log) old mid new h k = tt
