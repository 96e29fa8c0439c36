-- The level of a gate that was just opened.
use Rattle.std.proofs.Common.{◌≡◌, ◌∙◌, ℕ, ap}
use Rattle.apf_model.specs.declared.config.Config.{Config}
use Rattle.apf_gate.specs.Tokens.{GateId}
use Rattle.apf_line.specs.Levels.{LifeId}
use Rattle.apf_session.specs.LifeOpenings.{level_of}
use Rattle.apf_run.specs.RoundsRuns.{IsLevelFor}

-- the level is one of these settings
pub settings : (k : LifeId) (gate : GateId) (config : Config) (count : ℕ) → k ≡ level_of gate config → gate.shape.limit ≡ config.limit → gate.shape.response ≡ config.limit_response
    → gate.shape.slots ≡ count → IsLevelFor config count k
settings k gate config count level limit response slots = record {
  limit = ap (λ (l : LifeId). l.gate.shape.limit) level ∙ limit;
  response = ap (λ (l : LifeId). l.gate.shape.response) level ∙ response;
  slots = ap (λ (l : LifeId). l.gate.shape.slots) level ∙ slots;
  sizes = ap (λ (l : LifeId). l.sizes) level;
  queue_limit = ap (λ (l : LifeId). l.queue_limit) level;
}
