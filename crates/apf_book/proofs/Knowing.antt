-- What the Desk knows after several steps.
use Rattle.std.proofs.Common.{◌≡◌, ◌≢◌, ℕ, List, [], ◌++◌, Option, Some, None, refl, sym, ap, ◌∙◌, subst}
use Rattle.std.proofs.lemmas.List.{append_assoc}
use Rattle.apf_words.specs.Fits.{Fits}
use Rattle.apf_words.specs.Level.{Level}
use Rattle.apf_words.specs.declared.decision.Decision.{Decision}
use Rattle.apf_words.specs.declared.decision.Decision.TheVariants.{Cancelled}
use Rattle.apf_model.specs.World.{width}
use Rattle.apf_gate.specs.declared.record.Actor.TheVariants.{OfDesk}
use Rattle.apf_gate.specs.declared.record.Entry.{Entry}
use Rattle.apf_gate.specs.declared.record.Knowledge.{Knowledge}
use Rattle.apf_gate.specs.declared.record.DeskRecord.{DeskRecord}
use Rattle.apf_gate.specs.Records.{told_of, told_own, KnowsMore}
use Rattle.apf_gate.specs.Steps.{Both, SawDecision}
use Rattle.apf_gate.specs.JoinedSteps.{JoinedLoadsDecision}
use Rattle.apf_gate.specs.DeskSteps.{DeskLoadsLevel, DeskLoadsDecision}
use Rattle.apf_book.specs.Moves.{LastTold, LastFound}
use Rattle.apf_book.proofs.Puts.{put_here}

pub more_same : (known : Knowledge) → KnowsMore known known
more_same known = record { shape = refl; closed = λ e. e; told = λ r e. refl; trace = ([], refl) }

pub more_then : (a b c : Knowledge) → KnowsMore a b → KnowsMore b c → KnowsMore a c
more_then a b c first then = record {
  shape = then.shape ∙ first.shape;
  closed = λ e. then.closed (first.closed e);
  told = λ r e. let kept = first.told r e in then.told r (λ none. e (sym kept ∙ none)) ∙ kept;
  trace = (then.trace.0 ++ first.trace.0, then.trace.1 ∙ (ap (λ (xs : List Entry). then.trace.0 ++ xs) first.trace.1 ∙ sym (append_assoc then.trace.0 first.trace.0 a.trace)));
}

-- who was told a decision is told it still
pub told_still : (a b : Knowledge) (r : ℕ) (decision : Decision) → KnowsMore a b → told_of a.told r ≡ Some decision → told_of b.told r ≡ Some decision
told_still a b r decision more told = more.told r (λ none. let bad : ◌≡◌ {A = Option Decision} (Some decision) None = sym told ∙ none in cc) ∙ told

-- a last step after earlier ones
pub told_then : (a b c : Knowledge) (r : ℕ) (decision : Decision) → KnowsMore a b → LastTold b r decision c → LastTold a r decision c
told_then a b c r decision more last = record { before = last.before; more = more_then a b last.before more last.more; found = last.found; own = last.own; step = last.step }

pub found_then : (a b c : Knowledge) (widths : List ℕ) (r : ℕ) → KnowsMore a b → LastFound b widths r c → LastFound a widths r c
found_then a b c widths r more last = record {
  before = last.before;
  more = more_then a b last.before more last.more;
  found = last.found;
  between = last.between;
  read = last.read;
  not_cancelled = last.not_cancelled;
  level = last.level;
  step = last.step;
  no_room = last.no_room;
}

-- a load of the word of r, and then one of the level word, which r does not fit
pub loads_miss : (desk between desk' : DeskRecord) (r : ℕ) (found : Option Decision) (level : Level) (widths : List ℕ) → DeskLoadsDecision r desk found between → found ≢ Some Cancelled
    → DeskLoadsLevel between level desk' → ¬ Fits level.seats level.limit (width widths r) → LastFound desk.knows widths r desk'.knows
loads_miss desk between desk' r found level widths reads not_cancelled loads no_room =
    subst (λ (d : DeskRecord). LastFound desk.knows widths r d.knows) (sym loads.3) (record {
      before = desk.knows;
      more = more_same desk.knows;
      found = found;
      between = between.knows;
      read = subst (λ (d : DeskRecord). SawDecision OfDesk desk.knows r found found None d.knows) (sym reads.3) reads.1;
      not_cancelled = not_cancelled;
      level = level;
      step = loads.1;
      no_room = no_room;
    })

none_or : (x : Option Decision) → (x ≢ None → None ≡ x) → x ≡ None
none_or None e = refl
none_or (Some d) e = sym (e (λ some. let bad : ◌≡◌ {A = Option Decision} (Some d) None = some in cc))

-- a Pass that was joined to the Desk at a load of its own word was told what that found
pub heard_own : (both both' : Both) (found : Option Decision) → JoinedLoadsDecision both found both' → told_own both'.pass ≡ found
heard_own both both' None loads = ap (λ (b : Both). told_own b.pass) loads.5 ∙ none_or (told_own both.pass) loads.4
heard_own both both' (Some decision) loads = ap (λ (b : Both). told_own b.pass) loads.5 ∙ put_here (told_of both.pass.knows.told) both.pass.number (Some decision)

-- a joined load of a decision word that is decided
pub joined_tells : (both both' : Both) (decision : Decision) → JoinedLoadsDecision both (Some decision) both' → LastTold both.desk.knows both.pass.number decision both'.desk.knows
joined_tells both both' decision loads =
    subst (λ (b : Both). LastTold both.desk.knows both.pass.number decision b.desk.knows) (sym loads.5) (record { before = both.desk.knows; more = more_same both.desk.knows; found = Some decision; own = None; step = loads.1 })
