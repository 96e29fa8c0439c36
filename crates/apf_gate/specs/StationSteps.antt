-- The steps of a Station, each by its token, its operation and its word.
use Rattle.std.specs.Prelude.{◌≡◌, ℕ, true, Option, Some, None}
use Rattle.apf_words.specs.Level.{Level}
use Rattle.apf_words.specs.declared.decision.Decision.{Decision}
use Rattle.apf_words.specs.declared.decision.Decision.TheVariants.{Cancelled}
use Rattle.apf_model.specs.declared.moves.Move.TheVariants.{Decide, Close, SetLimit}
use Rattle.apf_gate.specs.declared.record.Actor.TheVariants.{OfStation}
use Rattle.apf_gate.specs.declared.record.Knowledge.{Knowledge}
use Rattle.apf_gate.specs.declared.record.StationRecord.{StationRecord}
use Rattle.apf_gate.specs.Steps.{SawLevel, SawDecision, FindsOther}

-- a Station loads the level word
abbrev pub StationLoadsLevel : StationRecord → Level → StationRecord → Type 0
StationLoadsLevel station level station' = (known' : Knowledge) × SawLevel (OfStation station.number) station.knows level None known' × (station' ≡ record station { knows = known' })

-- its exchange of the level word set the limit
abbrev pub StationExchangesLevel : ℕ → StationRecord → Level → StationRecord → Type 0
StationExchangesLevel limit station level station' = (known' : Knowledge) × SawLevel (OfStation station.number) station.knows level (Some (SetLimit limit)) known' × (station' ≡ record station { knows = known' })

-- it sets the bit of a closed level in the level word
abbrev pub StationClosesLevel : StationRecord → Level → StationRecord → Type 0
StationClosesLevel station level station' = (known' : Knowledge) × SawLevel (OfStation station.number) station.knows level (Some Close) known' × (station' ≡ record station { knows = record known' { saw_closed = true } })

-- it loads the decision word of r
abbrev pub StationLoadsDecision : ℕ → StationRecord → Option Decision → StationRecord → Type 0
StationLoadsDecision r station found station' = (known' : Knowledge) × SawDecision (OfStation station.number) station.knows r found found None known' × (station' ≡ record station { knows = known' })

-- its exchange wrote cancelled of r
abbrev pub StationExchangesDecision : ℕ → StationRecord → StationRecord → Type 0
StationExchangesDecision r station station' = (known' : Knowledge) × SawDecision (OfStation station.number) station.knows r None (Some Cancelled) (Some (Decide r Cancelled)) known' × (station' ≡ record station { knows = known' })

-- it finds that another request holds the slot of r: a load
abbrev pub StationFindsOther : ℕ → StationRecord → StationRecord → Type 0
StationFindsOther r station station' = (known' : Knowledge) × FindsOther (OfStation station.number) station.knows r known' × (station' ≡ record station { knows = known' })
