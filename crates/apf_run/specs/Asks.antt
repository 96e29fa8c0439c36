-- What a level is opened with for the requests of a file.
use Rattle.std.specs.Prelude.{List, map, max}
use Rattle.apf_model.specs.declared.config.Ask.{Ask}
use Rattle.apf_local.specs.declared.answer.Ask.{Ask as ChargedAsk}
use Rattle.apf_files.specs.declared.requests.Request.{Request}

-- what a level asks of each request
abbrev pub asks_of : List Request → List Ask
asks_of requests = map (λ request. record { width = request.width; hash = request.hash }) requests

-- the same, where each dispatch is charged the request's width
abbrev pub charged_asks : List Request → List ChargedAsk
charged_asks requests = map (λ request. record { width = request.width; hash = request.hash; cost = max request.width 1 }) requests
