-- The requests of a run whose level was just opened.
use Rattle.std.proofs.Common.{◌≡◌, List, length, map, sym, ap, ◌∙◌}
use Rattle.std.proofs.lemmas.List.{length-map}
use Rattle.atomic_table.specs.Seated.{TableId}
use Rattle.apf_gate.specs.Tokens.{GateId}
use Rattle.apf_model.specs.declared.config.Config.{Config}
use Rattle.apf_model.specs.declared.config.Ask.{Ask}
use Rattle.apf_files.specs.declared.requests.Request.{Request}
use Rattle.apf_level.specs.Levels.{LevelId}
use Rattle.apf_run.specs.Plans.{AreOrders}
use Rattle.apf_run.specs.Asks.{asks_of}
use Rattle.apf_session.specs.Openings.{level_of}

-- the requests are the plan's, one for each width of the level's gate
pub orders : (k : LevelId) (gate : GateId) (cell : TableId) (config : Config) (asks : List Ask) (plan requests : List Request) → k ≡ level_of gate cell config asks → plan ≡ requests → asks ≡ asks_of requests
    → map (λ (a : Ask). a.width) asks ≡ gate.shape.widths → AreOrders k.gate plan requests
orders k gate cell config asks plan requests level is asked widths =
    let each : length requests ≡ length k.gate.shape.widths = sym (length-map requests (λ (q : Request). record { width = q.width; hash = q.hash })) ∙ sym (ap length asked) ∙ sym (length-map asks (λ (a : Ask). a.width))
    ∙ ap length widths ∙ sym (ap (λ (l : LevelId). length l.gate.shape.widths) level) in record { is = sym is; each = each }
